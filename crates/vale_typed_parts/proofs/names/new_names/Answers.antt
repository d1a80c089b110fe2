use Rattle.std.proofs.Common.{◌∷◌, ap, ◌∙◌}
use Rattle.std.specs.Prelude.{List, Ok}
use Rattle.vale_syntax.specs.declared.tree.NameAt.{NameAt}
use Rattle.vale_rules_spec.specs.Judged.{first}
use Rattle.vale_rules_spec.specs.Typing.{new_names}
use Rattle.vale_core.proofs.ViewLaws.{of_void}
use Rattle.vale_seen.specs.Scope.{framed, locals}
use Rattle.vale_typed_parts.specs.Walk.{env_at}
use Rattle.vale_typed_parts.proofs.LoopLaws.{parts_end, listed_all}
use Rattle.vale_typed_parts.proofs.NameLaws.{new_more}
use Rattle.vale_typed_parts.proofs.names.new_names.Goals as goal

pub returns : goal.returns
returns c = λ gives.
    let rest = λ (ns : List NameAt). first (new_names (env_at gives c.args.depth (framed c.loop-name.frame.items (locals c.args.scope.now))) ns) in
    parts_end ◌∷◌ c.loop-name.done c.args.names.now c.loop-name.name-index (first (new_names (env_at gives c.args.depth (locals c.args.scope.now)) c.args.names.now)) rest c.loop-name-test.false (c.loop-name.invariant gives) ∙ ap Ok (listed_all c.loop-name.done)

pub loop-name-preserved : goal.loop-name-preserved
loop-name-preserved c = λ gives.
    let here = env_at gives c.args.depth (framed c.loop-name.frame.items (locals c.args.scope.now)) in
    let there = env_at gives c.args.depth (framed c.push_local.new.frame.items (locals c.args.scope.now)) in
    let passes = rw c.deref.ensures.value at c.in_ok-new_name.ensures in
    let step = rw of_void at (c.in_ok-push_local.ensures gives (locals c.args.scope.now)) in
    rw (c.in_ok-push.ensures.ok) (new_more here there c.loop-name.done c.args.names.now c.loop-name.name-index _ (first (new_names (env_at gives c.args.depth (locals c.args.scope.now)) c.args.names.now)) c.loop-name-test.true passes step (c.loop-name.invariant gives))
