use Rattle.std.proofs.Common.{◌≡◌, [], ◌∷◌, ◌++◌, length, map, sym, ap, subst, ◌∙◌, append_assoc}
use Rattle.std.proofs.lemmas.List.{map_push}
use Rattle.vale_heap_calls.specs.Calls.{value_of, AllGiven}
use Rattle.vale_heap_calls.proofs.StepLaws.{given_at, denote_push}
use Rattle.vale_heap_calls.proofs.session.cells_of.Goals as goal

pub cell_of-requires : goal.cell_of-requires
cell_of-requires c =
    let all : c.loop-value.yielded ++ c.in-Some.value ∷ c.next.new.self.rest.items ≡ c.args.values =
    ap (λ l. c.loop-value.yielded ++ l) (sym c.in-Some.ensures.steps.0) ∙ c.loop-value.invariant.rest ∙ c.into_iter-value-iterator.ensures.into_iter_gives.0 ∙ c.into_vec-value-items.ensures in
    given_at (length c.args.places.now) c.loop-value.yielded c.in-Some.value c.next.new.self.rest.items (subst (AllGiven (length c.args.places.now)) (sym all) c.requires)

pub loop-value-preserved : goal.loop-value-preserved
loop-value-preserved c = record {
  kept = rw (c.in_ok-push.ensures.items, map_push value_of c.loop-value.yielded c.in-Some.value) (denote_push c.args.places.now c.loop-value.cells.items (map value_of c.loop-value.yielded) c.cell_of.result (value_of c.in-Some.value) c.loop-value.invariant.kept c.cell_of.ensures);
  rest = append_assoc c.loop-value.yielded (c.in-Some.value ∷ []) c.next.new.self.rest.items ∙ ap (λ l. c.loop-value.yielded ++ l) (sym c.in-Some.ensures.steps.0) ∙ c.loop-value.invariant.rest;
}
