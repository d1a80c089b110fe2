use Rattle.std.proofs.Common.{List, ◌∷◌, ◌+◌, map, drop, ap, ◌∙◌}
use Rattle.std.specs.Prelude.{Result, Ok}
use Rattle.vale_syntax.specs.declared.fault.Fault.{Fault}
use Rattle.vale_syntax.specs.declared.tree.Function.{Function}
use Rattle.vale_rules_spec.specs.Judged.{first}
use Rattle.vale_rules_spec.specs.Typed as t
use Rattle.vale_rules_spec.specs.Typing.{in_function, in_functions}
use Rattle.vale_syntax.specs.View.{view_function}
use Rattle.vale_core.specs.View as core
use Rattle.vale_lookup.specs.Table.{names_of, items_of}
use Rattle.vale_typed_parts.proofs.LoopLaws.{pair_passes, seen_passes, parts_end, listed_all}
use Rattle.vale_typing.proofs.typing.type_functions.Goals as goal

pub loop-function-preserved : goal.loop-function-preserved
loop-function-preserved c =
    let names = names_of c.args.table.now in
    let items = items_of c.args.table.now in
    let all = c.args.functions.now in
    let i = c.loop-function.function-index in
    let x = c.function-item.result in
    let z = c.in_ok-function.function in
    let rest : List Function → Result (List t.Function) Fault = λ xs. first (in_functions names items (map view_function xs)) in
    rw (c.in_ok-push.ensures.ok, c.into_inner.ensures)
    (seen_passes ◌∷◌ core.view_function c.loop-function.done all i x x (rest all) rest (rest (drop (i + 1) all)) z c.loop-function-test.true c.function-item.is
    (pair_passes (λ v. v.0 ∷ v.1) (in_function names items (view_function x)) (core.view_function z) (in_functions names items (map view_function (drop (i + 1) all))) c.in_ok-function.ensures)
    c.loop-function.invariant)

pub returns : goal.returns
returns c =
    let done = map core.view_function c.loop-function.done in
    let all = c.args.functions.now in
    let rest : List Function → Result (List t.Function) Fault = λ xs. first (in_functions (names_of c.args.table.now) (items_of c.args.table.now) (map view_function xs)) in
    parts_end ◌∷◌ done all c.loop-function.function-index (rest all) rest c.loop-function-test.false c.loop-function.invariant ∙ ap Ok (listed_all done)
