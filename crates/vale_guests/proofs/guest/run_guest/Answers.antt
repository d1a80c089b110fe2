use Rattle.std.proofs.Common.{arith, ◌≡◌, ◌∙◌, sym, subst, true}
use Rattle.vale_cert.specs.Input.{takes_input}
use Rattle.vale_core.specs.View.{view_core}
use Rattle.vale_front.proofs.ByteLaws.{all_bytes}
use Rattle.vale_state_spec.specs.State.{no_input}
use Rattle.vale_guests.proofs.guest.run_guest.Goals as goal

pub run-requires-clause-takes : goal.run-requires-clause-takes
run-requires-clause-takes c =
    let found = c.in_ok-sound.ensures.found in
    let runs = c.accepted_programs_run.ensures c.args.text.now found.0 found.1 (view_core c.in_ok-sound.sound.core) (all_bytes c.args.text.now (λ k. omega (arith, c.type_inv.text k))) found.2 in
    subst (λ code. takes_input code no_input ≡ true) (sym (c.in_ok-verified.ensures.found.0 ∙ c.in_ok-code.ensures.code)) runs.takes
