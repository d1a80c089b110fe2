use Rattle.std.proofs.Common.{◌≡◌, List, Err, refl, sym, subst, ◌∙◌, inl, inr}
use Rattle.vale_syntax.specs.declared.token.Token.{Token}
use Rattle.vale_syntax.specs.Grammar.{spells}
use Rattle.vale_syntax.specs.View.{view_tree}
use Rattle.vale_reading.specs.Steps.{unexpected}
use Rattle.vale_reading.specs.ItemReading.{all_of}
use Rattle.vale_prefix_spec.specs.Begins.{StopsAt}
use Rattle.vale_reading_laws.proofs.ItemAgain.{one_tree}
use Rattle.vale_parser.proofs.Answered.{is_found, is_stop, is_no_stop}
use Rattle.vale_parser.proofs.parser.parse.Goals as goal

pub returns-in-Ok-clause-found : goal.returns-in-Ok-clause-found
returns-in-Ok-clause-found c =
    subst (λ (ts : List Token). spells (view_tree c.in-Ok.tree) ts) c.as_slice-list.ensures (is_found c.as_slice-list.result.now (view_tree c.in-Ok.tree) c.in-Ok.ensures)

pub returns-in-Ok-clause-stopped : goal.returns-in-Ok-clause-stopped
returns-in-Ok-clause-stopped c left stops =
    is_no_stop c.as_slice-list.result.now left (view_tree c.in-Ok.tree) c.in-Ok.ensures (subst (λ (ts : List Token). StopsAt ts left) (sym c.as_slice-list.ensures) stops)

pub returns-in-Err-Unexpected-clause-stopped : goal.returns-in-Err-Unexpected-clause-stopped
returns-in-Err-Unexpected-clause-stopped c left stops =
    let at_left = subst (λ (ts : List Token). StopsAt ts left) (sym c.as_slice-list.ensures) stops in
    let read : all_of c.as_slice-list.result.now ≡ Err (unexpected c.in-Err-Unexpected.rest.now) = rw c.in-Err-Unexpected.field-0-is at c.in-Err-Unexpected.ensures in
    inr (refl, c.spot_at.ensures ∙ is_stop c.args.tokens.now.end c.as_slice-list.result.now c.in-Err-Unexpected.rest.now left read at_left)

pub returns-in-Err-TooDeep-clause-stopped : goal.returns-in-Err-TooDeep-clause-stopped
returns-in-Err-TooDeep-clause-stopped c left stops = inl refl

pub returns-in-Ok-clause-unique : goal.returns-in-Ok-clause-unique
returns-in-Ok-clause-unique c = one_tree c.args.tokens.now.list

pub returns-in-Err-Memory-clause-unique : goal.returns-in-Err-Memory-clause-unique
returns-in-Err-Memory-clause-unique c = one_tree c.args.tokens.now.list

pub returns-in-Err-Unexpected-clause-unique : goal.returns-in-Err-Unexpected-clause-unique
returns-in-Err-Unexpected-clause-unique c = one_tree c.args.tokens.now.list

pub returns-in-Err-TooDeep-clause-unique : goal.returns-in-Err-TooDeep-clause-unique
returns-in-Err-TooDeep-clause-unique c = one_tree c.args.tokens.now.list
