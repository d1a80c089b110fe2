use Rattle.std.proofs.Common.{subst}
use Rattle.vale_rules_spec.specs.Judged.{Gives}
use Rattle.vale_rules_spec.specs.Declarations.{head_name}
use Rattle.vale_rules_spec.specs.Returns.{block_returns}
use Rattle.vale_rules_spec.specs.TypeRules.{head_gives, function_rules}
use Rattle.vale_rules_spec.specs.Typed as t
use Rattle.vale_rules_spec.specs.Typing.{entry, void_block}
use Rattle.vale_syntax.specs.View.{view_head, view_block}
use Rattle.vale_core.specs.View as core
use Rattle.vale_lookup.specs.Table.{names_of, items_of}
use Rattle.vale_typing.proofs.FunctionLaws.{node_over}
use Rattle.vale_typing.proofs.typing.type_function.Goals as goal

pub returns : goal.returns
returns c =
    let h = view_head c.args.function.now.head in
    let j = void_block (names_of c.args.table.now) (items_of c.args.table.now) (entry h) (view_block c.args.function.now.body) in
    subst (λ z. Gives core.view_function c.function_over.result z)
    (node_over (head_name h).at (λ v. function_rules (head_gives h) (block_returns v)) (λ v. t.function_body h v) j (core.view_block c.in_ok-body.body) c.in_ok-body.ensures)
    c.function_over.ensures
