-- Nothing is done where plain values are dropped.
use Rattle.std.proofs.Common.{◌≡◌, ℕ, ◌+◌, arith, [], ◌∷◌, Some, None, Bool, true, false, refl, ap, ◌∙◌}
use Rattle.vale_state_spec.specs.State.{State, Calls}
use Rattle.vale_state_spec.specs.World.{Int, Truth, Text, Own, Ref, Iso}
use Rattle.vale_base.specs.declared.spot.Spot.{Spot}
use Rattle.vale_code.specs.Registers.{Registers}
use Rattle.vale_model.specs.Runs.{Locals, goes, returned, then_do, outer}
use Rattle.vale_model.specs.Destruction.{Again, drop, drop_owned, drop_locals, leave}
use Rattle.vale_lowering.specs.Scopes.{Scope, entry}
use Rattle.vale_lowering.proofs.Registers.{Held, HasPlain, Base, Named, Agrees, agrees_pop, agrees_down, agrees_once, with_at, one_above}
use Rattle.vale_lowering.proofs.Reaches.{Fits, In, Put}

module _ (again : Again) (at : Spot) (calls : Calls) where
  pub drop_plain : (v : Held) (l : Locals) (w : State) → HasPlain v → drop again at v calls l w ≡ goes None l w
  drop_plain None l w h = absurd h
  drop_plain (Some (Int z)) l w h = refl
  drop_plain (Some (Truth b)) l w h = refl
  drop_plain (Some (Text t)) l w h = refl
  drop_plain (Some (Own m)) l w h = absurd h
  drop_plain (Some (Ref m)) l w h = absurd h
  drop_plain (Some (Iso m)) l w h = absurd h

  pub drop_owned_plain : (owned : Bool) (v : Held) (l : Locals) (w : State) → HasPlain v → drop_owned again at owned v calls l w ≡ goes None l w
  drop_owned_plain true v l w h = drop_plain v l w h
  drop_owned_plain false v l w h = refl

  pub drop_fitting : (gives owned : Bool) (v : Held) (l : Locals) (w : State) → Fits gives v → drop_owned again at owned v calls l w ≡ goes None l w
  drop_fitting true owned None l w h = absurd h
  drop_fitting true owned (Some v) l w h = drop_owned_plain owned (Some v) l w h
  drop_fitting false true None l w h = refl
  drop_fitting false false None l w h = refl
  drop_fitting false owned (Some v) l w h = absurd h

  drops : (s : Scope) (l k : Locals) (w : State) → Named s l → drop_locals again at l calls k w ≡ goes None k w
  drops [] [] k w h = refl
  drops [] (y ∷ l) k w h = absurd h
  drops (x ∷ s) [] k w h = absurd h
  drops (x ∷ s) (y ∷ l) k w h =
      ap (λ r. then_do r (λ u. drop_locals again at l calls)) (drop_owned_plain y.owned y.value k w h.1) ∙ drops s l k w h.2

  pub leave_plain : {A : Type 0} (v : Held) (s : Scope) (l : Locals) (w : State) → Named s l → leave {A = A} again at v calls l w ≡ returned v w
  leave_plain v s l w h = ap (λ r. then_do r (λ u l w. returned v w)) (drops s l [] w h)

-- ---- what holds after a part

pub in_fits : (gives : Bool) (h : ℕ) (s : Scope) (base : Base) (v : Held) (l : Locals) (regs : Registers) → In gives h s base v l regs → Fits gives v
in_fits true h s base None l regs a = absurd a
in_fits true h s base (Some v) l regs a = a.0
in_fits false h s base None l regs a = tt
in_fits false h s base (Some v) l regs a = absurd a

pub in_keeps : (gives : Bool) (h : ℕ) (s : Scope) (base : Base) (v : Held) (l : Locals) (regs : Registers) → In gives h s base v l regs → Agrees h s l base regs
in_keeps true h s base None l regs a = absurd a
in_keeps true h s base (Some v) l regs a = agrees_down s l base (with_at h (Some v) base) h (h + 1) regs (omega arith) (one_above base h (Some v)) a.1
in_keeps false h s base None l regs a = a
in_keeps false h s base (Some v) l regs a = absurd a

pub put_names : (gives : Bool) (d h : ℕ) (s : Scope) (base : Base) (v : Held) (l : Locals) (regs : Registers) → Put gives d h s base v l regs → Named s l
put_names true d h s base None l regs a = absurd a
put_names true d h s base (Some v) l regs a = a.1.names
put_names false d h s base None l regs a = a.names
put_names false d h s base (Some v) l regs a = absurd a

pub put_keeps : (d h : ℕ) (s : Scope) (base : Base) (v : Held) (l : Locals) (regs : Registers) → Put false d h s base v l regs → Agrees h s l base regs
put_keeps d h s base None l regs a = a
put_keeps d h s base (Some v) l regs a = absurd a

-- a scope ends
pub put_pop : (gives : Bool) (d h n : ℕ) (s : Scope) (base : Base) (v : Held) (l : Locals) (regs : Registers) → Put gives d (h + 1) (entry n h ∷ s) base v l regs → Put gives d h s base v (outer l) regs
put_pop true d h n s base None l regs a = absurd a
put_pop true d h n s base (Some v) l regs a = (a.0, agrees_pop s l (with_at d (Some v) base) h n regs a.1)
put_pop false d h n s base None l regs a = agrees_pop s l base h n regs a
put_pop false d h n s base (Some v) l regs a = absurd a

-- a block's value is the expression's that it ends
pub put_in : (gives : Bool) (h : ℕ) (s : Scope) (base : Base) (u v : Held) (l : Locals) (regs : Registers) → Put gives h (h + 1) s (with_at h u base) v l regs → In gives h s base v l regs
put_in true h s base u None l regs a = absurd a
put_in true h s base u (Some v) l regs a = (a.0, agrees_once s l base h (h + 1) (Some v) u regs a.1)
put_in false h s base u None l regs a = agrees_down s l base (with_at h u base) h (h + 1) regs (omega arith) (one_above base h u) a
put_in false h s base u (Some v) l regs a = absurd a

-- where nothing is wanted
pub in_put : (d h : ℕ) (s : Scope) (base : Base) (v : Held) (l : Locals) (regs : Registers) → In false h s base v l regs → Put false d h s base v l regs
in_put d h s base None l regs a = a
in_put d h s base (Some v) l regs a = absurd a
