-- Objects that are destroyed.
use Rattle.std.proofs.Common.{◌≡◌, ◌<◌, ◌++◌, List, [], ◌∷◌, map, Option, Some, None, refl, sym, ap, ◌∙◌}
use Rattle.std.specs.List.{AllByRecursion}
use Rattle.std.specs.Prelude.{reverse, slice_get}
use Rattle.std.specs.Option.{option_map, option_or}
use Rattle.std.proofs.lemmas.List.{reverse-append}
use Rattle.vale_state_spec.specs.World.{Object, Value}
use Rattle.vale_code.specs.Destroy.{first_owned}
use Rattle.vale_heap.specs.HeapState.{HeapState, IsEnded, innermost}
use Rattle.vale_heap.specs.Standing.{DenoteAll, StandsEnded, StandsFound, StandsLooked, seat_within}
use Rattle.vale_heap.specs.declared.body.Body.{Body}
use Rattle.vale_heap.specs.declared.body.Cell.{Cell}
use Rattle.vale_heap.specs.declared.body.Cell.TheVariants.{Int, Truth, Text, Own, Ref, Iso}
use Rattle.vale_heap.specs.declared.body.Place.{Place}
use Rattle.vale_object_cells.specs.Names.{Apart, Knows, name_at, value_of}
use Rattle.vale_object_cells.proofs.Naming.{denotes_is, denotes_known}
use Rattle.vale_object_steps.specs.Drops.{CanEnd, Ends, IsKindAt, first_owned_cell, owned_by}
use Rattle.vale_object_steps.specs.Views.{nobody}

-- cells by names
pub values_are : (names : List Place) (cells : List Cell) (values : List Value) → Apart names → DenoteAll names cells values → map (value_of names) cells ≡ values
values_are names [] [] apart d = refl
values_are names (c ∷ cs) (v ∷ vs) apart d =
    let one = denotes_is names apart c v d.0 in
    let rest = values_are names cs vs apart d.1 in
    λ i. one i ∷ rest i
values_are names [] (v ∷ vs) apart d = absurd d
values_are names (c ∷ cs) [] apart d = absurd d

cells_known : (names : List Place) (cells : List Cell) (values : List Value) → DenoteAll names cells values → AllByRecursion (λ c. Knows names (Some c)) cells
cells_known names [] [] d = tt
cells_known names (c ∷ cs) (v ∷ vs) d = (denotes_known names c v d.0, cells_known names cs vs d.1)
cells_known names [] (v ∷ vs) d = absurd d
cells_known names (c ∷ cs) [] d = absurd d

pub slot_within : (heap : HeapState) (p : Place) → CanEnd heap p → p.slot < 64
slot_within heap p can = can.agrees.stands.at.in_page (name_at can.view.names p) p can.known

-- what lives is found
pub looks_living : (heap : HeapState) (p : Place) → CanEnd heap p → StandsLooked heap None p None → ⊥
looks_living heap p can looked =
    let v = can.view in
    let dead = looked v.low nobody v.names v.state.world (name_at v.names p) can.agrees.stands can.known in
    let clash : Some None ≡ Some (Some can.object) = sym dead ∙ can.lives in
    let y : ⊥ = cc in y

pub finds_living : (heap : HeapState) (p : Place) → CanEnd heap p → StandsFound heap p None → ⊥
finds_living heap p can found =
    let v = can.view in
    let n = name_at v.names p in
    let none = found None v.low nobody v.names v.state.world n can.agrees.stands can.known can.object can.lives in
    let holds = can.agrees.stands.at.live n p can.object can.known can.lives in
    let clash : None ≡ Some holds.seat = sym (ap (λ o. option_or (option_map (seat_within 0) o) None) none) ∙ holds.there in
    let y : ⊥ = cc in y

same_object : (o : Option (Option Object)) (x y : Object) → o ≡ Some (Some x) → o ≡ Some (Some y) → x ≡ y
same_object o x y e h = let same : Some (Some x) ≡ Some (Some y) = sym e ∙ h in cc

pub kind_is : (heap : HeapState) (p : Place) (body : Body) → StandsLooked heap None p (Some body) → IsKindAt heap p body.kind
kind_is heap p body looked v cells o agrees known lives =
    let means = looked v.low nobody v.names v.state.world (name_at v.names p) agrees.stands known in
    means.2 ∙ ap (λ (x : Object). x.kind) (same_object (slice_get v.state.world (name_at v.names p)) means.0 o means.1 lives)

pub ends : (heap new : HeapState) (p : Place) (body : Body) → StandsFound heap p (Some body) → StandsEnded heap new p → IsEnded heap new body p → Ends heap p new body
ends heap new p body found stands ended v cells o agrees known lives =
    let n = name_at v.names p in
    let means = found None v.low nobody v.names v.state.world n agrees.stands known in
    let same = same_object (slice_get v.state.world n) means.0 o means.1 lives in
    record {
      agrees = record {
        stands = stands None v.low nobody v.names v.state.world n agrees.stands known;
        regions = agrees.regions ∙ sym (ap (λ (h : HeapState). innermost h) ended.now);
        known = agrees.known;
      };
      kind = means.2 ∙ ap (λ (x : Object). x.kind) same;
      values = values_are v.names body.cells means.0.values agrees.stands.at.apart means.3 ∙ ap (λ (x : Object). x.values) same;
      known = cells_known v.names body.cells means.0.values means.3;
    }

-- the first owner among cells is the first among their values
pub owned_is : (names : List Place) (cells : List Cell) → first_owned (map (value_of names) cells) ≡ owned_by names (first_owned_cell cells)
owned_is names [] = refl
owned_is names (Own p ∷ cs) = refl
owned_is names (Iso p ∷ cs) = refl
owned_is names (Int z ∷ cs) = owned_is names cs
owned_is names (Truth b ∷ cs) = owned_is names cs
owned_is names (Text t ∷ cs) = owned_is names cs
owned_is names (Ref p ∷ cs) = owned_is names cs

-- what stands at the end comes first
pub last_first : (cs : List Cell) (c : Cell) → reverse (cs ++ c ∷ []) ≡ c ∷ reverse cs
last_first cs c = reverse-append cs (c ∷ [])
