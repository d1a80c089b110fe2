-- What steps find where a place leads.
use Rattle.std.proofs.Common.{◌≡◌, ℕ, zero, suc, ◌<◌, List, [], ◌∷◌, length, get_or, Option, Some, None, refl, sym, ap, subst, ◌∙◌, arith}
use Rattle.std.specs.Prelude.{IsSome, slice_get, slice_set}
use Rattle.std.specs.Option.{option_map, option_or}
use Rattle.vale_state_spec.specs.State.{Answer, State, found_or_dead, lent, living, object_of, on_object, traps, with_object}
use Rattle.vale_state_spec.specs.World.{IsDead, Lives, Object, Value, World, written}
use Rattle.vale_base.specs.declared.trap.TrapKind.TheVariants.{DeadReference}
use Rattle.vale_code.specs.Registers.{read}
use Rattle.vale_heap.specs.HeapLends.{changed}
use Rattle.vale_heap.specs.HeapState.{HeapState, look_in}
use Rattle.vale_heap.specs.Standing.{DenoteAll, Denotes, LookMeans, Stands, StandsChanged, StandsFound, StandsLooked, seat_within}
use Rattle.vale_heap.specs.declared.body.Body.{Body}
use Rattle.vale_heap.specs.declared.body.Cell.{Cell}
use Rattle.vale_heap.specs.declared.body.Cell.TheVariants.{Int, Truth, Text, Own, Ref, Iso}
use Rattle.vale_heap.specs.declared.body.Place.{Place}
use Rattle.vale_object_cells.specs.Cells.{held, lent_cell, place_in}
use Rattle.vale_object_cells.specs.Names.{Apart, IsKnown, Knows, name_at, value_in, value_of, values_in}
use Rattle.vale_object_cells.proofs.Naming.{denotes_is, denotes_known, lent_known, read_values}
use Rattle.vale_object_steps.specs.Doing.{on_value}
use Rattle.vale_object_steps.specs.Views.{Agrees, IsRight, View, nobody}

-- ---- what a cell leads to

led_to : (names : List Place) (c : Option Cell) (p : Place) (s : State) (k : ℕ → Object → Answer) → place_in c ≡ Some p
    → on_value (value_in names c) (λ w. with_object w s k) ≡ on_object (found_or_dead (name_at names p) (object_of (name_at names p) s)) k
led_to names (Some (Own q)) p s k e = let same : q ≡ p = cc in ap (λ x. on_object (found_or_dead (name_at names x) (object_of (name_at names x) s)) k) same
led_to names (Some (Ref q)) p s k e = let same : q ≡ p = cc in ap (λ x. on_object (found_or_dead (name_at names x) (object_of (name_at names x) s)) k) same
led_to names (Some (Iso q)) p s k e = let same : q ≡ p = cc in ap (λ x. on_object (found_or_dead (name_at names x) (object_of (name_at names x) s)) k) same
led_to names _ p s k e = absurd (let y : ⊥ = cc in y)

leads_on : (names : List Place) (c : Option Cell) (s : State) (k : ℕ → Object → Answer) → IsRight (on_value (value_in names c) (λ w. with_object w s k)) → (p : Place) × (place_in c ≡ Some p)
leads_on names None s k r = absurd r
leads_on names (Some (Int z)) s k r = absurd r
leads_on names (Some (Truth z)) s k r = absurd r
leads_on names (Some (Text z)) s k r = absurd r
leads_on names (Some (Own p)) s k r = (p, refl)
leads_on names (Some (Ref p)) s k r = (p, refl)
leads_on names (Some (Iso p)) s k r = (p, refl)

-- a step on an object has a rule only where the register leads to one
pub leads : (names : List Place) (cells : List (Option Cell)) (a : ℕ) (s : State) (k : ℕ → Object → Answer) → IsRight (on_value (read (values_in names cells) a) (λ w. with_object w s k)) → (p : Place) × (place_in (held cells a) ≡ Some p)
leads names cells a s k right = leads_on names (held cells a) s k (subst (λ o. IsRight (on_value o (λ w. with_object w s k))) (read_values names cells a) right)

pub led : (names : List Place) (cells : List (Option Cell)) (a : ℕ) (p : Place) (s : State) (k : ℕ → Object → Answer) → place_in (held cells a) ≡ Some p
    → on_value (read (values_in names cells) a) (λ w. with_object w s k) ≡ on_object (found_or_dead (name_at names p) (object_of (name_at names p) s)) k
led names cells a p s k e = ap (λ o. on_value o (λ w. with_object w s k)) (read_values names cells a) ∙ led_to names (held cells a) p s k e

-- ---- what is found there

-- each name that has a place was given
past_names : (p : Place) (world : World) (names : List Place) (n : ℕ) → slice_get world n ≡ None → slice_get names n ≡ Some p → length world ≡ length names → ⊥
past_names p [] [] n e h many = let y : ⊥ = cc in y
past_names p [] (q ∷ qs) n e h many = omega (arith, many)
past_names p (o ∷ os) [] n e h many = let y : ⊥ = cc in y
past_names p (o ∷ os) (q ∷ qs) zero e h many = let y : ⊥ = cc in y
past_names p (o ∷ os) (q ∷ qs) (suc n) e h many = past_names p os qs n e h (omega (arith, many))

module _ (v : View) (heap : HeapState) (cells : List (Option Cell)) (agrees : Agrees v heap cells) (a : ℕ) (p : Place) (at : place_in (held cells a) ≡ Some p) where
  pub known : IsKnown v.names p
  known = agrees.known a p at

  pub slot_of : p.slot < 64
  slot_of = agrees.stands.at.in_page (name_at v.names p) p known

  pub looks : (found : Option Body) → StandsLooked heap None p found → LookMeans v.names v.state.world (name_at v.names p) found
  looks found looked = looked v.low nobody v.names v.state.world (name_at v.names p) agrees.stands known

  none_lives : (o : Option (Option Object)) → slice_get v.state.world (name_at v.names p) ≡ o → StandsFound heap p None → o ≡ Some None
  none_lives None e found = absurd (past_names p v.state.world v.names (name_at v.names p) e known agrees.stands.at.as_many)
  none_lives (Some None) e found = refl
  none_lives (Some (Some o)) e found =
      let none = found None v.low nobody v.names v.state.world (name_at v.names p) agrees.stands known o e in
      let holds = agrees.stands.at.live (name_at v.names p) p o known e in
      let clash : None ≡ Some holds.seat = sym (ap (λ x. option_or (option_map (seat_within 0) x) None) none) ∙ holds.there in
      absurd (let y : ⊥ = cc in y)

  -- the same of what a call finds that changes or ends the object
  pub finds : (found : Option Body) → StandsFound heap p found → LookMeans v.names v.state.world (name_at v.names p) found
  finds None found = let o = slice_get v.state.world (name_at v.names p) in none_lives o refl found
  finds (Some body) found = found None v.low nobody v.names v.state.world (name_at v.names p) agrees.stands known

  pub on_dead : (k : ℕ → Object → Answer) → IsDead v.state.world (name_at v.names p) → on_value (read (values_in v.names cells) a) (λ w. with_object w v.state k) ≡ traps DeadReference
  on_dead k dead =
      led v.names cells a p v.state k at
      ∙ ap (λ o. on_object (found_or_dead (name_at v.names p) (living o)) k) dead

  pub on_living : (k : ℕ → Object → Answer) (o : Object) → Lives v.state.world (name_at v.names p) o → on_value (read (values_in v.names cells) a) (λ w. with_object w v.state k) ≡ k (name_at v.names p) o
  on_living k o lives =
      led v.names cells a p v.state k at
      ∙ ap (λ x. on_object (found_or_dead (name_at v.names p) (living x)) k) lives

-- ---- the values of an object

pub record FieldIs (names : List Place) (values : List Value) (field : ℕ) (c : Cell) : Type 0 where
  pub value : Value
  pub got : slice_get values field ≡ Some value
  pub denotes : Denotes names c value

pub field_is : (names : List Place) (field : ℕ) (cells : List Cell) (values : List Value) (c : Cell) → DenoteAll names cells values → slice_get cells field ≡ Some c → FieldIs names values field c
field_is names field [] values c d e = absurd (let x : ⊥ = cc in x)
field_is names zero (b ∷ bs) (v ∷ vs) c d e = record { value = v; got = refl; denotes = subst (λ x. Denotes names x v) (let same : b ≡ c = cc in same) d.0 }
field_is names (suc n) (b ∷ bs) (v ∷ vs) c d e = let h = field_is names n bs vs c d.1 e in record { value = h.value; got = h.got; denotes = h.denotes }
field_is names field (b ∷ bs) [] c d e = absurd d

pub field_within : (names : List Place) (field : ℕ) (cells : List Cell) (values : List Value) (w : Value) → DenoteAll names cells values → slice_get values field ≡ Some w → field < length cells
field_within names field [] [] w d e = absurd (let x : ⊥ = cc in x)
field_within names zero (b ∷ bs) (v ∷ vs) w d e = omega arith
field_within names (suc n) (b ∷ bs) (v ∷ vs) w d e = let h = field_within names n bs vs w d.1 e in omega (arith, h)
field_within names field [] (v ∷ vs) w d e = absurd d
field_within names field (b ∷ bs) [] w d e = absurd d

pub as_many : (names : List Place) (cells : List Cell) (values : List Value) → DenoteAll names cells values → length cells ≡ length values
as_many names [] [] d = refl
as_many names (c ∷ cs) (v ∷ vs) d = ap suc (as_many names cs vs d.1)
as_many names [] (v ∷ vs) d = absurd d
as_many names (c ∷ cs) [] d = absurd d

pub denote_set : (names : List Place) (field : ℕ) (cells : List Cell) (values : List Value) (c : Cell) (w : Value) → DenoteAll names cells values → Denotes names c w → DenoteAll names (slice_set cells field c) (slice_set values field w)
denote_set names field [] [] c w d e = d
denote_set names zero (b ∷ bs) (v ∷ vs) c w d e = (e, d.1)
denote_set names (suc n) (b ∷ bs) (v ∷ vs) c w d e = (d.0, denote_set names n bs vs c w d.1 e)
denote_set names field [] (v ∷ vs) c w d e = absurd d
denote_set names field (b ∷ bs) [] c w d e = absurd d

lent_is : (names : List Place) (c : Cell) → value_of names (lent_cell c) ≡ lent (value_of names c)
lent_is names (Int z) = refl
lent_is names (Truth z) = refl
lent_is names (Text z) = refl
lent_is names (Own z) = refl
lent_is names (Ref z) = refl
lent_is names (Iso z) = refl

-- what others get of a value of an object
pub lent_value : (names : List Place) (c : Cell) (w : Value) → Apart names → Denotes names c w → lent w ≡ value_of names (lent_cell c)
lent_value names c w apart d = sym (lent_is names c ∙ ap lent (denotes_is names apart c w d))

pub lent_knows : (names : List Place) (c : Cell) (w : Value) → Denotes names c w → Knows names (Some (lent_cell c))
lent_knows names c w d = lent_known names c (denotes_known names c w d)

-- ---- the world after a change

pub changes : (v : View) (heap : HeapState) (cells : List (Option Cell)) (p : Place) (o : Object) (body left : Body) (values : List Value) → Agrees v heap cells → IsKnown v.names p → look_in heap p ≡ Some body
    → StandsChanged heap p left → Lives v.state.world (name_at v.names p) o → left.kind ≡ o.kind → DenoteAll v.names left.cells values
    → Stands (changed heap p left) None v.low nobody v.names (written v.state.world (name_at v.names p) (record o { values = values }))
changes v heap cells p o body left values agrees known there stands lives kind denote =
    let some : IsSome (look_in heap p) = subst (λ x. IsSome x) (sym there) refl in
    let after = stands None v.low nobody v.names v.state.world (name_at v.names p) o values some agrees.stands known lives denote in
    subst (λ k. Stands (changed heap p left) None v.low nobody v.names (written v.state.world (name_at v.names p) (record { region = o.region; kind = k; values = values }))) kind after

pub got_at : {A : Type 0} (xs : List A) (i : ℕ) (d : A) → i < length xs → slice_get xs i ≡ Some (get_or xs i d)
got_at [] i d lt = absurd (omega arith)
got_at (x ∷ xs) zero d lt = refl
got_at (x ∷ xs) (suc i) d lt = got_at xs i d (omega arith)
