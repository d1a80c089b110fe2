use Rattle.std.proofs.Common.{List, ap, ◌∙◌}
use Rattle.vale_cert.specs.declared.facts.RegFact.{RegFact}
use Rattle.vale_label_steps.specs.Filling.{last_known, slots_known}
use Rattle.vale_label_steps.specs.Standing.{stand, slots_of}
use Rattle.vale_label_steps.proofs.FillLaws.{all_known}
use Rattle.vale_label_steps.proofs.known.facts_at.Goals as goal

pub returns : goal.returns
returns c =
    c.from_vec.ensures ∙ c.hold_slots.ensures
    ∙ ap (λ (z : List RegFact). slots_known (slots_of c.args.here.now.slots.now) z) (c.hold_last.ensures ∙ ap (λ (z : List RegFact). last_known c.args.here.now.over c.args.last c.args.result_type z) c.in_ok-facts.ensures)
    ∙ all_known (record { register = c.args.last; ty = c.args.result_type }) (stand c.args.here.now) c.args.registers
