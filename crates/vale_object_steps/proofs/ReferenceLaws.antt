-- Owners and references that go from register to register.
use Rattle.std.proofs.Common.{◌≡◌, ℕ, ◌<◌, List, length, Option, Some, None, refl, ap, subst, ◌∙◌, arith}
use Rattle.std.proofs.lemmas.List.{length-set}
use Rattle.std.specs.Prelude.{slice_set}
use Rattle.vale_state_spec.specs.State.{State, gives, name_of}
use Rattle.vale_code.specs.Instructions.{leading, moved}
use Rattle.vale_code.specs.Registers.{as_frozen, put}
use Rattle.vale_heap.specs.HeapState.{HeapState}
use Rattle.vale_heap.specs.declared.body.Cell.{Cell}
use Rattle.vale_heap.specs.declared.body.Cell.TheVariants.{Int, Truth, Text, Own, Ref, Iso}
use Rattle.vale_heap.specs.declared.body.Place.{Place}
use Rattle.vale_object_cells.specs.Cells.{held, kept_cells, place_in}
use Rattle.vale_object_cells.specs.Names.{Knows, value_in, value_of, values_in}
use Rattle.vale_object_cells.proofs.Naming.{known_put, put_values, read_values}
use Rattle.vale_object_steps.specs.Doing.{freezes, given, moves, on_value, widens}
use Rattle.vale_object_steps.specs.Views.{Agrees, CanDo, Follows, IsRight, View}
use Rattle.vale_object_steps.specs.declared.effect.Effect.TheVariants as effect
use Rattle.vale_object_steps.proofs.Registers.{held_within, kept_from, kept_size, written_to}
use Rattle.vale_object_steps.proofs.FieldLaws.{same_names}

-- a cell that is given on, and what it leads to
record Led (names : List Place) (o : Option Cell) : Type 0 where
  cell : Cell
  place : Place
  is : o ≡ Some cell
  leads : place_in (Some cell) ≡ Some place

of_moved : (names : List Place) (s : State) (o : Option Cell) → IsRight (on_value (value_in names o) (λ v. given (moved v) s)) → Led names o
of_moved names s None r = absurd r
of_moved names s (Some (Int z)) r = absurd r
of_moved names s (Some (Truth z)) r = absurd r
of_moved names s (Some (Text z)) r = absurd r
of_moved names s (Some (Own p)) r = record { cell = Own p; place = p; is = refl; leads = refl }
of_moved names s (Some (Ref p)) r = absurd r
of_moved names s (Some (Iso p)) r = record { cell = Iso p; place = p; is = refl; leads = refl }

of_frozen : (names : List Place) (s : State) (o : Option Cell) → IsRight (on_value (value_in names o) (λ v. given (as_frozen (name_of v)) s)) → Led names o
of_frozen names s None r = absurd r
of_frozen names s (Some (Int z)) r = absurd r
of_frozen names s (Some (Truth z)) r = absurd r
of_frozen names s (Some (Text z)) r = absurd r
of_frozen names s (Some (Own p)) r = record { cell = Own p; place = p; is = refl; leads = refl }
of_frozen names s (Some (Ref p)) r = record { cell = Ref p; place = p; is = refl; leads = refl }
of_frozen names s (Some (Iso p)) r = record { cell = Iso p; place = p; is = refl; leads = refl }

of_leading : (names : List Place) (s : State) (o : Option Cell) → IsRight (on_value (value_in names o) (λ v. given (leading v) s)) → Led names o
of_leading names s None r = absurd r
of_leading names s (Some (Int z)) r = absurd r
of_leading names s (Some (Truth z)) r = absurd r
of_leading names s (Some (Text z)) r = absurd r
of_leading names s (Some (Own p)) r = record { cell = Own p; place = p; is = refl; leads = refl }
of_leading names s (Some (Ref p)) r = record { cell = Ref p; place = p; is = refl; leads = refl }
of_leading names s (Some (Iso p)) r = record { cell = Iso p; place = p; is = refl; leads = refl }

module _ (to a : ℕ) (heap : HeapState) (cells : List (Option Cell)) where
  moved_cell : (v : View) → IsRight (moves to a (values_in v.names cells) v.state).answer → Led v.names (held cells a)
  moved_cell v r = of_moved v.names v.state (held cells a) (subst (λ o. IsRight (on_value o (λ w. given (moved w) v.state))) (read_values v.names cells a) r)

  frozen_cell : (v : View) → IsRight (freezes to a (values_in v.names cells) v.state).answer → Led v.names (held cells a)
  frozen_cell v r = of_frozen v.names v.state (held cells a) (subst (λ o. IsRight (on_value o (λ w. given (as_frozen (name_of w)) v.state))) (read_values v.names cells a) r)

  leading_cell : (v : View) → IsRight (widens to a (values_in v.names cells) v.state).answer → Led v.names (held cells a)
  leading_cell v r = of_leading v.names v.state (held cells a) (subst (λ o. IsRight (on_value o (λ w. given (leading w) v.state))) (read_values v.names cells a) r)

  pub move_place : CanDo (moves to a) heap cells → (p : Place) × (place_in (held cells a) ≡ Some p)
  move_place can = let l = moved_cell can.view can.right in (l.place, ap place_in l.is ∙ l.leads)

  pub freeze_place : CanDo (freezes to a) heap cells → (p : Place) × (place_in (held cells a) ≡ Some p)
  freeze_place can = let l = frozen_cell can.view can.right in (l.place, ap place_in l.is ∙ l.leads)

  pub widen_place : CanDo (widens to a) heap cells → (p : Place) × (place_in (held cells a) ≡ Some p)
  widen_place can = let l = leading_cell can.view can.right in (l.place, ap place_in l.is ∙ l.leads)

moved_is : (names : List Place) (s : State) (o : Option Cell) (c : Cell) → o ≡ Some c → IsRight (on_value (value_in names o) (λ v. given (moved v) s)) → on_value (value_in names o) (λ v. given (moved v) s) ≡ gives (Some (value_of names c)) s
moved_is names s (Some (Own p)) c e r = let same : Own p ≡ c = cc in ap (λ x. gives (Some (value_of names x)) s) same
moved_is names s (Some (Iso p)) c e r = let same : Iso p ≡ c = cc in ap (λ x. gives (Some (value_of names x)) s) same
moved_is names s None c e r = absurd r
moved_is names s (Some _) c e r = absurd r

frozen_is : (names : List Place) (s : State) (o : Option Cell) (p : Place) → place_in o ≡ Some p → on_value (value_in names o) (λ v. given (as_frozen (name_of v)) s) ≡ gives (Some (value_of names (Ref p))) s
frozen_is names s (Some (Own q)) p e = let same : q ≡ p = cc in ap (λ x. gives (Some (value_of names (Ref x))) s) same
frozen_is names s (Some (Ref q)) p e = let same : q ≡ p = cc in ap (λ x. gives (Some (value_of names (Ref x))) s) same
frozen_is names s (Some (Iso q)) p e = let same : q ≡ p = cc in ap (λ x. gives (Some (value_of names (Ref x))) s) same
frozen_is names s _ p e = absurd (let y : ⊥ = cc in y)

leading_is : (names : List Place) (s : State) (c : Cell) (p : Place) → place_in (Some c) ≡ Some p → given (leading (value_of names c)) s ≡ gives (Some (value_of names c)) s
leading_is names s (Own q) p e = refl
leading_is names s (Ref q) p e = refl
leading_is names s (Iso q) p e = refl
leading_is names s _ p e = absurd (let y : ⊥ = cc in y)

module _ (to a : ℕ) (heap : HeapState) (cells new : List (Option Cell)) (room : to < length cells) where
  pub moved_to : new ≡ slice_set (slice_set cells a None) to (held cells a) → Follows (moves to a) heap cells effect.Done heap new
  moved_to is v agrees right =
      let l = moved_cell to a heap cells v right in
      let inside = held_within cells a l.cell l.is in
      let size : length (slice_set cells a None) ≡ length cells = length-set cells a None in
      let mid : Agrees v heap (slice_set cells a None) = record {
        stands = agrees.stands;
        regions = agrees.regions;
        known = known_put v.names cells a None agrees.known (λ p e. absurd (let y : ⊥ = cc in y));
      } in
      let w = written_to v heap (slice_set cells a None) new to l.cell mid (subst (Knows v.names) l.is (agrees.known a)) (omega (arith, room, size)) (is ∙ ap (slice_set (slice_set cells a None) to) l.is) in
      record {
        view = v;
        value = Some (value_of v.names l.cell);
        grows = same_names v v.state;
        steady = record { left = refl; spent = refl; pieces = refl; frozen = refl; quiet = refl };
        agrees = w.agrees;
        is = ap (λ o. on_value o (λ x. given (moved x) v.state)) (read_values v.names cells a)
            ∙ moved_is v.names v.state (held cells a) l.cell l.is (subst (λ o. IsRight (on_value o (λ x. given (moved x) v.state))) (read_values v.names cells a) right);
        registers = w.is ∙ ap (λ rs. put rs to (Some (value_of v.names l.cell))) (put_values v.names cells a None inside);
      }

  pub frozen_to : (p : Place) → place_in (held cells a) ≡ Some p → new ≡ slice_set cells to (Some (Ref p)) → Follows (freezes to a) heap cells effect.Done heap new
  frozen_to p at is v agrees right =
      let w = written_to v heap cells new to (Ref p) agrees (λ q e. agrees.known a q (at ∙ e)) room is in
      record {
        view = v;
        value = Some (value_of v.names (Ref p));
        grows = same_names v v.state;
        steady = record { left = refl; spent = refl; pieces = refl; frozen = refl; quiet = refl };
        agrees = w.agrees;
        is = ap (λ o. on_value o (λ x. given (as_frozen (name_of x)) v.state)) (read_values v.names cells a)
            ∙ frozen_is v.names v.state (held cells a) p at;
        registers = w.is;
      }

  pub widened_to : new ≡ slice_set (kept_cells (held cells a) a cells) to (held cells a) → Follows (widens to a) heap cells effect.Done heap new
  widened_to is v agrees right =
      let l = leading_cell to a heap cells v right in
      let k = kept_from v heap cells (kept_cells (held cells a) a cells) a l.cell agrees l.is refl in
      let size = kept_size cells (kept_cells (held cells a) a cells) a refl in
      let w = written_to v heap (kept_cells (held cells a) a cells) new to l.cell k.agrees (subst (Knows v.names) l.is (agrees.known a)) (omega (arith, room, size)) (is ∙ ap (slice_set (kept_cells (held cells a) a cells) to) l.is) in
      record {
        view = v;
        value = Some (value_of v.names l.cell);
        grows = same_names v v.state;
        steady = record { left = refl; spent = refl; pieces = refl; frozen = refl; quiet = refl };
        agrees = w.agrees;
        is = ap (λ o. on_value o (λ x. given (leading x) v.state)) (read_values v.names cells a ∙ ap (value_in v.names) l.is)
            ∙ leading_is v.names v.state l.cell l.place l.leads;
        registers = w.is ∙ ap (λ rs. put rs to (Some (value_of v.names l.cell))) k.is;
      }
