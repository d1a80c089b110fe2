-- Heaps: what a later one has kept of an earlier one, and how often a name is owned.
use Rattle.std.proofs.Common.{◌≡◌, ◌<◌, ◌≤◌, ℕ, zero, suc, ◌+◌, ◌-◌, List, [], ◌∷◌, ◌++◌, length, map, replicate, Option, Some, None, Bool, true, false, refl, sym, ap, ◌∙◌, subst, arith, if◌then◌else◌}
use Rattle.std.specs.Prelude.{slice_get, slice_set}
use Rattle.vale_state_spec.specs.State as state
use Rattle.vale_state_spec.specs.State.{State, here, counted, living, name_of}
use Rattle.vale_state_spec.specs.World.{Value, Own, Iso, Region, Object, World, born, died, written, relabelled}
use Rattle.vale_base.specs.declared.name.Kind.{Kind}
use Rattle.vale_code.specs.Frames.{Frame, Running, Dropping, Looping, Alone, resume}
use Rattle.vale_code.specs.Registers.{Registers, read, put, registers_for}

abbrev pub object_at : World → ℕ → Option Object
object_at w n = living (slice_get w n)

abbrev values_or : Option Object → List Value
values_or None = []
values_or (Some o) = o.values

abbrev kind_in : Kind → Option Object → Kind
kind_in k None = k
kind_in k (Some o) = o.kind

-- ---- a later heap: no name gets another object or another kind

pub record Later (w v : World) : Type 0 where
  pub longer : length w ≤ length v
  pub same : (n : ℕ) → n < length w → (o : Object) → object_at v n ≡ Some o → (p : Object) × (object_at w n ≡ Some p) × (o.kind ≡ p.kind)

pub later_same : (w : World) → Later w w
later_same w = record { longer = omega arith; same = λ n lt o e. (o, e, refl) }

pub later_later : (u v w : World) → Later u v → Later v w → Later u w
later_later u v w a b = record {
  longer = let x = a.longer in let y = b.longer in omega (arith, x, y);
  same = λ n lt o e.
      let q = b.same n (let x = a.longer in omega (arith, x, lt)) o e in
      let p = a.same n lt q.0 q.1 in
      (p.0, p.1, q.2 ∙ p.2);
}

append_get : (w x : World) (n : ℕ) → n < length w → object_at (w ++ x) n ≡ object_at w n
append_get [] x n lt = absurd (omega arith)
append_get (a ∷ w) x zero lt = refl
append_get (a ∷ w) x (suc n) lt = append_get w x n (omega arith)

append_length : (w : World) (o : Option Object) → length (w ++ o ∷ []) ≡ suc (length w)
append_length [] o = refl
append_length (a ∷ w) o = ap suc (append_length w o)

pub later_born : (w : World) (o : Object) → Later w (born w o)
later_born w o = record {
  longer = let x = append_length w (Some o) in omega (arith, x);
  same = λ n lt p e. (p, sym (append_get w (Some o ∷ []) n lt) ∙ e, refl);
}

pub born_at : (w : World) (o : Object) → object_at (born w o) (length w) ≡ Some o
born_at [] o = refl
born_at (x ∷ w) o = born_at w o

pub born_each : (w : World) (o : Object) (P : Object → Type 0) → P o → ((k : ℕ) (p : Object) → object_at w k ≡ Some p → P p) → (n : ℕ) (p : Object) → object_at (born w o) n ≡ Some p → P p
born_each [] o P h g zero p e = let is : o ≡ p = cc in subst P is h
born_each [] o P h g (suc n) p e = let x : ⊥ = cc in absurd x
born_each (x ∷ w) o P h g zero p e = g zero p e
born_each (x ∷ w) o P h g (suc n) p e = born_each w o P h (λ k. g (suc k)) n p e

counted_world : (s : State) → (counted s).world ≡ s.world
counted_world s = from s.quiet
  where
    from : (b : Bool) → (if b then s else record s { most = Rattle.std.specs.Prelude.max s.most (state.live s.world); made = s.made + 1 }).world ≡ s.world
    from true = refl
    from false = refl

pub state_born : (kind : Kind) (vs : List Value) (s : State) → (state.born kind vs s).world ≡ born s.world (record { region = here s; kind = kind; values = vs })
state_born kind vs s = counted_world (record s { world = born s.world (record { region = here s; kind = kind; values = vs }) })

set_length : (w : World) (m : ℕ) (x : Option Object) → length (slice_set w m x) ≡ length w
set_length [] m x = refl
set_length (a ∷ w) zero x = refl
set_length (a ∷ w) (suc m) x = ap suc (set_length w m x)

-- what a heap has where one place has changed
set_at : (w : World) (m : ℕ) (x : Option Object) (n : ℕ) (o : Object) (P : Object → ℕ → Type 0) → ((o : Object) → x ≡ Some o → P o m) → ((k : ℕ) (o : Object) → object_at w k ≡ Some o → P o k) → object_at (slice_set w m x) n ≡ Some o → P o n
set_at [] m x n o P h g e = let y : ⊥ = cc in absurd y
set_at (a ∷ w) zero x zero o P h g e = h o e
set_at (a ∷ w) zero x (suc n) o P h g e = g (suc n) o e
set_at (a ∷ w) (suc m) x zero o P h g e = g zero o e
set_at (a ∷ w) (suc m) x (suc n) o P h g e = set_at w m x n o (λ o k. P o (suc k)) h (λ k. g (suc k)) e

pub set_each : (w : World) (m : ℕ) (x : Option Object) (P : Object → Type 0) → ((o : Object) → x ≡ Some o → P o) → ((k : ℕ) (o : Object) → object_at w k ≡ Some o → P o) → (n : ℕ) (o : Object) → object_at (slice_set w m x) n ≡ Some o → P o
set_each w m x P h g n o e = set_at w m x n o (λ o k. P o) h g e

pub later_died : (w : World) (m : ℕ) → Later w (died w m)
later_died w m = record {
  longer = let x = set_length w m None in omega (arith, x);
  same = λ n lt o e. set_at w m None n o (λ o k. (p : Object) × (object_at w k ≡ Some p) × (o.kind ≡ p.kind)) (λ o h. let y : ⊥ = cc in absurd y) (λ k o h. (o, h, refl)) e;
}

pub later_written : (w : World) (m : ℕ) (p : Object) (vs : List Value) → object_at w m ≡ Some p → Later w (written w m (record p { values = vs }))
later_written w m p vs here = record {
  longer = let x = set_length w m (Some (record p { values = vs })) in omega (arith, x);
  same = λ n lt o e.
      set_at w m (Some (record p { values = vs })) n o (λ o k. (q : Object) × (object_at w k ≡ Some q) × (o.kind ≡ q.kind))
      (λ o h. (p, here, sym (ap (λ x. kind_in p.kind x) h))) (λ k o h. (o, h, refl)) e;
}

pub relabelled_each : (w : World) (from to : Region) (n : ℕ) (o : Object) → object_at (relabelled from to w) n ≡ Some o → (p : Object) × (object_at w n ≡ Some p) × (o.kind ≡ p.kind) × (o.values ≡ p.values)
relabelled_each [] from to n o e = let y : ⊥ = cc in absurd y
relabelled_each (None ∷ w) from to zero o e = let y : ⊥ = cc in absurd y
relabelled_each (Some p ∷ w) from to zero o e = (p, refl, sym (ap (λ x. kind_in p.kind x) e), sym (ap values_or e))
relabelled_each (x ∷ w) from to (suc n) o e = relabelled_each w from to n o e

relabelled_length : (w : World) (from to : Region) → length (relabelled from to w) ≡ length w
relabelled_length [] from to = refl
relabelled_length (x ∷ w) from to = ap suc (relabelled_length w from to)

pub later_relabelled : (w : World) (from to : Region) → Later w (relabelled from to w)
later_relabelled w from to = record {
  longer = let x = relabelled_length w from to in omega (arith, x);
  same = λ n lt o e. let p = relabelled_each w from to n o e in (p.0, p.1, p.2);
}

-- ---- how often a name is owned

abbrev pub same : ℕ → ℕ → ℕ
same zero zero = 1
same zero (suc m) = 0
same (suc n) zero = 0
same (suc n) (suc m) = same n m

pub same_self : (n : ℕ) → same n n ≡ 1
same_self zero = refl
same_self (suc n) = same_self n

abbrev pub own : ℕ → Value → ℕ
own n (Own m) = same n m
own n (Iso m) = same n m
own n _ = 0

abbrev pub own_in : ℕ → Option Value → ℕ
own_in n None = 0
own_in n (Some v) = own n v

abbrev pub in_regs : ℕ → Registers → ℕ
in_regs n [] = 0
in_regs n (x ∷ xs) = own_in n x + in_regs n xs

abbrev pub in_values : ℕ → List Value → ℕ
in_values n [] = 0
in_values n (v ∷ vs) = own n v + in_values n vs

abbrev pub in_object : ℕ → Option Object → ℕ
in_object n None = 0
in_object n (Some o) = in_values n o.values

abbrev pub in_world : ℕ → World → ℕ
in_world n [] = 0
in_world n (x ∷ xs) = in_object n x + in_world n xs

abbrev pub in_frame : ℕ → Frame → ℕ
in_frame n (Running f) = in_regs n f.registers
in_frame n (Dropping f) = in_values n f.rest
in_frame n (Looping f) = 0
in_frame n (Alone v) = 0

abbrev pub in_frames : ℕ → List Frame → ℕ
in_frames n [] = 0
in_frames n (f ∷ fs) = in_frame n f + in_frames n fs

abbrev pub one_if : Option Object → ℕ
one_if None = 0
one_if (Some o) = 1

abbrev pub alive : ℕ → World → ℕ
alive n w = one_if (object_at w n)

pub living_is : (n : ℕ) (w : World) → 1 ≤ alive n w → (o : Object) × (object_at w n ≡ Some o)
living_is n w le = from (object_at w n) le
  where
    from : (x : Option Object) → 1 ≤ one_if x → (o : Object) × (x ≡ Some o)
    from None h = absurd (omega arith)
    from (Some o) h = (o, refl)

pub put_owns : (n : ℕ) (regs : Registers) (r : ℕ) (o : Option Value) → in_regs n (put regs r o) + own_in n (read regs r) ≡ in_regs n regs + own_in n o
put_owns n [] zero o = omega arith
put_owns n [] (suc r) o = let x = put_owns n [] r o in omega (arith, x)
put_owns n (x ∷ regs) zero o = omega arith
put_owns n (x ∷ regs) (suc r) o = let y = put_owns n regs r o in omega (arith, y)

pub begun_owns : (n count : ℕ) (vs : List Value) → in_regs n (registers_for count vs) ≡ in_values n vs
begun_owns n count vs = values vs (count - length vs)
  where
    nothing : (k : ℕ) → in_regs n (replicate k None) ≡ 0
    nothing zero = refl
    nothing (suc k) = let x = nothing k in omega (arith, x)

    values : (vs : List Value) (k : ℕ) → in_regs n (map Some vs ++ replicate k None) ≡ in_values n vs
    values [] k = nothing k
    values (v ∷ vs) k = ap (λ m. own n v + m) (values vs k)

pub values_set : (n : ℕ) (vs : List Value) (i : ℕ) (old new : Value) → slice_get vs i ≡ Some old → in_values n (slice_set vs i new) + own n old ≡ in_values n vs + own n new
values_set n [] i old new e = let x : ⊥ = cc in absurd x
values_set n (v ∷ vs) zero old new e = let same_value : v ≡ old = cc in let x = ap (λ v. own n v) same_value in omega (arith, x)
values_set n (v ∷ vs) (suc i) old new e = let x = values_set n vs i old new e in omega (arith, x)

pub values_append : (n : ℕ) (vs : List Value) (v : Value) → in_values n (vs ++ v ∷ []) ≡ in_values n vs + own n v
values_append n [] v = omega arith
values_append n (u ∷ vs) v = let x = values_append n vs v in omega (arith, x)

pub world_set : (n : ℕ) (w : World) (m : ℕ) (p : Object) (x : Option Object) → object_at w m ≡ Some p → in_world n (slice_set w m x) + in_values n p.values ≡ in_world n w + in_object n x
world_set n [] m p x e = let y : ⊥ = cc in absurd y
world_set n (a ∷ w) zero p x e = let y = ap (λ o. in_object n o) e in omega (arith, y)
world_set n (a ∷ w) (suc m) p x e = let y = world_set n w m p x e in omega (arith, y)

pub world_born : (n : ℕ) (w : World) (o : Object) → in_world n (born w o) ≡ in_world n w + in_values n o.values
world_born n [] o = omega arith
world_born n (x ∷ w) o = let y = world_born n w o in omega (arith, y)

pub alive_born : (n : ℕ) (w : World) (o : Object) → alive n (born w o) ≡ alive n w + same n (length w)
alive_born zero [] o = refl
alive_born (suc n) [] o = refl
alive_born zero (x ∷ w) o = omega arith
alive_born (suc n) (x ∷ w) o = alive_born n w o

pub alive_died : (n : ℕ) (w : World) (m : ℕ) (p : Object) → object_at w m ≡ Some p → alive n (died w m) + same n m ≡ alive n w
alive_died n [] m p e = let y : ⊥ = cc in absurd y
alive_died zero (x ∷ w) zero p e = let y = ap one_if e in omega (arith, y)
alive_died zero (x ∷ w) (suc m) p e = omega arith
alive_died (suc n) (x ∷ w) zero p e = omega arith
alive_died (suc n) (x ∷ w) (suc m) p e = alive_died n w m p e

pub alive_written : (n : ℕ) (w : World) (m : ℕ) (p o : Object) → object_at w m ≡ Some p → alive n (written w m o) ≡ alive n w
alive_written n [] m p o e = refl
alive_written zero (x ∷ w) zero p o e = sym (ap one_if e)
alive_written zero (x ∷ w) (suc m) p o e = refl
alive_written (suc n) (x ∷ w) zero p o e = refl
alive_written (suc n) (x ∷ w) (suc m) p o e = alive_written n w m p o e

pub world_relabelled : (n : ℕ) (w : World) (from to : Region) → in_world n (relabelled from to w) ≡ in_world n w
world_relabelled n [] from to = refl
world_relabelled n (None ∷ w) from to = let x = world_relabelled n w from to in omega (arith, x)
world_relabelled n (Some o ∷ w) from to = let x = world_relabelled n w from to in omega (arith, x)

pub alive_relabelled : (n : ℕ) (w : World) (from to : Region) → alive n (relabelled from to w) ≡ alive n w
alive_relabelled n [] from to = refl
alive_relabelled zero (None ∷ w) from to = refl
alive_relabelled zero (Some o ∷ w) from to = refl
alive_relabelled (suc n) (x ∷ w) from to = alive_relabelled n w from to

-- what comes back to a frame is at most added
pub resume_owns : (n : ℕ) (to : Option ℕ) (v : Option Value) (f : Frame) → in_frame n (resume to v f) ≤ in_frame n f + own_in n v
resume_owns n None v f = omega arith
resume_owns n (Some to) None f = omega arith
resume_owns n (Some to) (Some v) (Running f) = let x = put_owns n f.registers to (Some v) in omega (arith, x)
resume_owns n (Some to) (Some v) (Dropping f) = omega arith
resume_owns n (Some to) (Some v) (Looping f) = omega arith
resume_owns n (Some to) (Some v) (Alone o) = omega arith
