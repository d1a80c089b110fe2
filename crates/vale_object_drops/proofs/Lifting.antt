-- Registers whose owner or isolate is taken out.
use Rattle.std.proofs.Common.{◌≡◌, ℕ, ◌+◌, ◌<◌, ◌≤◌, List, length, take, drop, get_or, Some, None, refl, sym, ap, subst, ◌∙◌, arith}
use Rattle.std.specs.Prelude.{slice_set}
use Rattle.std.proofs.lemmas.List.{get_or-drop, get_or-take, length-drop, length-take-le}
use Rattle.vale_heap.specs.declared.body.Cell.{Cell}
use Rattle.vale_heap.specs.declared.body.Cell.TheVariants.{Int, Truth, Text, Own, Ref, Iso}
use Rattle.vale_object_cells.specs.Cells.{cell_in, cell_of, cells_in, held, place_of}
use Rattle.vale_object_cells.specs.declared.register.Register.{Register}
use Rattle.vale_object_cells.specs.declared.register.Shape.{Shape}
use Rattle.vale_object_cells.specs.declared.register.Shape.TheVariants as shape
use Rattle.vale_object_cells.proofs.Holding.{held_within, within}
use Rattle.vale_object_drops.specs.Destroying.{HoldsOwned, IsLifted, IsOwned}

same_owned : (c cell : Cell) → Some c ≡ Some cell → IsOwned cell → IsOwned c
same_owned c cell e o = let is : c ≡ cell = cc in subst IsOwned (sym is) o

module _ (base end a : ℕ) (row : List Register) (few : end ≤ length row) (owned : HoldsOwned (drop base (take end row)) a) where
  own_there : a < length (drop base (take end row))
  own_there = within owned.0 (drop base (take end row)) a owned.1 owned.2

  pub there : base + a < end
  there = let lt = own_there in omega (arith, lt, length-drop base (take end row), length-take-le end row few)

  module _ (d : Register) where
    abbrev holder : Register
    holder = get_or row (base + a) d

    holds : (u : ℕ → List ℕ) → held (cells_in u (drop base (take end row))) a ≡ cell_in holder (u a)
    holds u =
        held_within u (drop base (take end row)) a d own_there
        ∙ ap (λ r. cell_in r (u a)) (get_or-drop base (take end row) a d ∙ get_or-take end row (base + a) d there)

    by_shape : (s : Shape) → holder.shape ≡ s → (u : ℕ → List ℕ) → held (cells_in u (drop base (take end row))) a ≡ cell_of s holder.truth holder.number (place_of holder) (u a)
    by_shape s e u = holds u ∙ ap (λ x. cell_of x holder.truth holder.number (place_of holder) (u a)) e

    pub lifted_owner : (e : Register) → holder.shape ≡ shape.Own → ((x : List ℕ) → cell_in e x ≡ None) → IsLifted base end a row (Own (place_of holder)) (slice_set row (base + a) e)
    lifted_owner e is none = record { held_it = by_shape shape.Own is; empty = e; holds_nothing = none; is = refl }

    pub lifted_isolate : (e : Register) → holder.shape ≡ shape.Iso → ((x : List ℕ) → cell_in e x ≡ None) → IsLifted base end a row (Iso (place_of holder)) (slice_set row (base + a) e)
    lifted_isolate e is none = record { held_it = by_shape shape.Iso is; empty = e; holds_nothing = none; is = refl }

    owned_shape : (s : Shape) (cell : Cell) → cell_of s holder.truth holder.number (place_of holder) (owned.0 a) ≡ Some cell → IsOwned cell → (s ≡ shape.Own → ⊥) → (s ≡ shape.Iso → ⊥) → ⊥
    owned_shape shape.Own cell e o p q = p refl
    owned_shape shape.Iso cell e o p q = q refl
    owned_shape shape.Empty cell e o p q = let x : ⊥ = cc in x
    owned_shape shape.Int cell e o p q = same_owned (Int holder.number) cell e o
    owned_shape shape.Truth cell e o p q = same_owned (Truth holder.truth) cell e o
    owned_shape shape.Text cell e o p q = same_owned (Text (owned.0 a)) cell e o
    owned_shape shape.Ref cell e o p q = same_owned (Ref (place_of holder)) cell e o

    pub owns : (holder.shape ≡ shape.Own → ⊥) → (holder.shape ≡ shape.Iso → ⊥) → ⊥
    owns p q = owned_shape holder.shape owned.1 (let h = holds owned.0 in sym h ∙ owned.2) owned.3 p q
