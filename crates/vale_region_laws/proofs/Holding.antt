-- What registers hold, before and after they are read and written.
use Rattle.std.proofs.Common.{◌≡◌, ◌≤◌, ℕ, zero, suc, ◌+◌, List, [], ◌∷◌, Option, Some, None, ◌⊎◌, inl, inr, refl, sym, ap, ◌∙◌, subst, arith}
use Rattle.vale_state_spec.specs.State.{State}
use Rattle.vale_state_spec.specs.World.{Value, Int, Truth, Text, Own, Ref, Iso, Freeze, World}
use Rattle.vale_code.specs.Registers.{Registers, read, put, kept}
use Rattle.vale_region_laws.specs.Holding.{Marks, mark, put_mark, held_as, in_register, in_registers, taken}
use Rattle.vale_region_laws.specs.Owned.{own}
use Rattle.vale_region_laws.specs.Passing.{IsPlain}
use Rattle.vale_region_laws.specs.Regions.{Each, Homes, Within, How, Held, Holder, HolderFits, held, holding}
use Rattle.vale_region_laws.proofs.Moving.{held_fits}
use Rattle.vale_region_laws.proofs.States.{FitsAt}

-- ---- a register is read

pub take_counts : (n a : ℕ) (how : How) (v : Value) (ms : Marks) (regs : Registers) (hs : List Holder) → mark ms a ≡ Some how → read regs a ≡ Some v
    → held n (in_registers ms regs hs) ≡ own n v + held n (in_registers (put_mark ms a None) regs hs)
take_counts n a how v [] regs hs m e = let x : ⊥ = cc in absurd x
take_counts n a how v (y ∷ ms) [] hs m e = let x : ⊥ = cc in absurd x
take_counts n zero how v (y ∷ ms) (x ∷ regs) hs m e =
    ap (λ k. held n (in_register k x (in_registers ms regs hs))) m ∙ ap (λ k. held n (in_register (Some how) k (in_registers ms regs hs))) e
take_counts n (suc a) how v (y ∷ ms) (x ∷ regs) hs m e = at y x (take_counts n a how v ms regs hs m e)
  where
    at : (y : Option How) (x : Option Value) → held n (in_registers ms regs hs) ≡ own n v + held n (in_registers (put_mark ms a None) regs hs)
        → held n (in_register y x (in_registers ms regs hs)) ≡ own n v + held n (in_register y x (in_registers (put_mark ms a None) regs hs))
    at None x g = g
    at (Some h) None g = g
    at (Some h) (Some u) g = omega (arith, g)

pub take_each : (P : Holder → Type 0) (a : ℕ) (how : How) (v : Value) (ms : Marks) (regs : Registers) (hs : List Holder) → mark ms a ≡ Some how → read regs a ≡ Some v
    → Each P (in_registers ms regs hs) → P (held_as how v) × Each P (in_registers (put_mark ms a None) regs hs)
take_each P a how v [] regs hs m e p = let x : ⊥ = cc in absurd x
take_each P a how v (y ∷ ms) [] hs m e p = let x : ⊥ = cc in absurd x
take_each P zero how v (y ∷ ms) (x ∷ regs) hs m e p =
    let q : Each P (in_register (Some how) x (in_registers ms regs hs)) = subst (λ k. Each P (in_register k x (in_registers ms regs hs))) m p in
    let r : Each P (in_register (Some how) (Some v) (in_registers ms regs hs)) = subst (λ k. Each P (in_register (Some how) k (in_registers ms regs hs))) e q in
    (r.0, r.1)
take_each P (suc a) how v (y ∷ ms) (x ∷ regs) hs m e p = at y x p (take_each P a how v ms regs hs m e)
  where
    at : (y : Option How) (x : Option Value) → Each P (in_register y x (in_registers ms regs hs))
        → (Each P (in_registers ms regs hs) → P (held_as how v) × Each P (in_registers (put_mark ms a None) regs hs))
        → P (held_as how v) × Each P (in_register y x (in_registers (put_mark ms a None) regs hs))
    at None x p f = f p
    at (Some h) None p f = f p
    at (Some h) (Some u) p f = let r = f p.1 in (r.0, (p.0, r.1))

-- what stands in a register of which nothing is said doesn't matter
pub unmarked : (a : ℕ) (x : Option Value) (ms : Marks) (regs : Registers) (hs : List Holder) → in_registers (put_mark ms a None) (put regs a x) hs ≡ in_registers (put_mark ms a None) regs hs
unmarked zero x [] [] hs = refl
unmarked zero x [] (y ∷ regs) hs = refl
unmarked zero x (m ∷ ms) [] hs = none ms
  where
    none : (ms : Marks) → in_registers ms [] hs ≡ hs
    none [] = refl
    none (m ∷ ms) = refl
unmarked zero x (m ∷ ms) (y ∷ regs) hs = refl
unmarked (suc a) x [] [] hs = unmarked a x [] [] hs ∙ none (put_mark [] a None)
  where
    none : (ms : Marks) → in_registers ms [] hs ≡ hs
    none [] = refl
    none (m ∷ ms) = refl
unmarked (suc a) x [] (y ∷ regs) hs = unmarked a x [] regs hs
unmarked (suc a) x (m ∷ ms) [] hs = at m (unmarked a x ms [] hs ∙ none (put_mark ms a None))
  where
    none : (ms : Marks) → in_registers ms [] hs ≡ hs
    none [] = refl
    none (m ∷ ms) = refl

    at : (m : Option How) → in_registers (put_mark ms a None) (put [] a x) hs ≡ hs → in_register m None (in_registers (put_mark ms a None) (put [] a x) hs) ≡ hs
    at None e = e
    at (Some h) e = e
unmarked (suc a) x (m ∷ ms) (y ∷ regs) hs = ap (in_register m y) (unmarked a x ms regs hs)

-- ---- a register is written

pub give_counts : (n to : ℕ) (how : How) (v : Value) (ms : Marks) (regs : Registers) (hs : List Holder)
    → held n (in_registers (put_mark ms to (Some how)) (put regs to (Some v)) hs) ≤ own n v + held n (in_registers ms regs hs)
give_counts n zero how v [] [] hs = omega arith
give_counts n zero how v [] (y ∷ regs) hs = omega arith
give_counts n zero how v (m ∷ ms) [] hs = at ms
  where
    at : (ms : Marks) → own n v + held n (in_registers ms [] hs) ≤ own n v + held n hs
    at [] = omega arith
    at (m ∷ ms) = omega arith
give_counts n zero how v (m ∷ ms) (y ∷ regs) hs = at m y
  where
    at : (m : Option How) (y : Option Value) → own n v + held n (in_registers ms regs hs) ≤ own n v + held n (in_register m y (in_registers ms regs hs))
    at None y = omega arith
    at (Some h) None = omega arith
    at (Some h) (Some u) = omega arith
give_counts n (suc to) how v [] [] hs = give_counts n to how v [] [] hs
give_counts n (suc to) how v [] (y ∷ regs) hs = give_counts n to how v [] regs hs
give_counts n (suc to) how v (m ∷ ms) [] hs = at m ms (give_counts n to how v ms [] hs)
  where
    at : (m : Option How) (ms : Marks) → held n (in_registers (put_mark ms to (Some how)) (put [] to (Some v)) hs) ≤ own n v + held n (in_registers ms [] hs)
        → held n (in_register m None (in_registers (put_mark ms to (Some how)) (put [] to (Some v)) hs)) ≤ own n v + held n hs
    at None [] g = g
    at None (k ∷ ms) g = g
    at (Some h) [] g = g
    at (Some h) (k ∷ ms) g = g
give_counts n (suc to) how v (m ∷ ms) (y ∷ regs) hs = at m y (give_counts n to how v ms regs hs)
  where
    at : (m : Option How) (y : Option Value) → held n (in_registers (put_mark ms to (Some how)) (put regs to (Some v)) hs) ≤ own n v + held n (in_registers ms regs hs)
        → held n (in_register m y (in_registers (put_mark ms to (Some how)) (put regs to (Some v)) hs)) ≤ own n v + held n (in_register m y (in_registers ms regs hs))
    at None y g = g
    at (Some h) None g = g
    at (Some h) (Some u) g = omega (arith, g)

pub give_each : (P : Holder → Type 0) (to : ℕ) (how : How) (v : Value) (ms : Marks) (regs : Registers) (hs : List Holder) → Each P hs → P (held_as how v) → Each P (in_registers ms regs hs)
    → Each P (in_registers (put_mark ms to (Some how)) (put regs to (Some v)) hs)
give_each P zero how v [] [] hs r p q = (p, q)
give_each P zero how v [] (y ∷ regs) hs r p q = (p, q)
give_each P zero how v (m ∷ ms) [] hs r p q = (p, at ms)
  where
    at : (ms : Marks) → Each P (in_registers ms [] hs)
    at [] = r
    at (m ∷ ms) = r
give_each P zero how v (m ∷ ms) (y ∷ regs) hs r p q = (p, at m y q)
  where
    at : (m : Option How) (y : Option Value) → Each P (in_register m y (in_registers ms regs hs)) → Each P (in_registers ms regs hs)
    at None y q = q
    at (Some h) None q = q
    at (Some h) (Some u) q = q.1
give_each P (suc to) how v [] [] hs r p q = give_each P to how v [] [] hs r p q
give_each P (suc to) how v [] (y ∷ regs) hs r p q = give_each P to how v [] regs hs r p q
give_each P (suc to) how v (m ∷ ms) [] hs r p q = at m (give_each P to how v ms [] hs r p (none ms))
  where
    none : (ms : Marks) → Each P (in_registers ms [] hs)
    none [] = r
    none (m ∷ ms) = r

    at : (m : Option How) → Each P (in_registers (put_mark ms to (Some how)) (put [] to (Some v)) hs) → Each P (in_register m None (in_registers (put_mark ms to (Some how)) (put [] to (Some v)) hs))
    at None g = g
    at (Some h) g = g
give_each P (suc to) how v (m ∷ ms) (y ∷ regs) hs r p q = at m y q (give_each P to how v ms regs hs r p)
  where
    at : (m : Option How) (y : Option Value) → Each P (in_register m y (in_registers ms regs hs))
        → (Each P (in_registers ms regs hs) → Each P (in_registers (put_mark ms to (Some how)) (put regs to (Some v)) hs))
        → Each P (in_register m y (in_registers (put_mark ms to (Some how)) (put regs to (Some v)) hs))
    at None y q f = f q
    at (Some h) None q f = f q
    at (Some h) (Some u) q f = (q.0, f q.1)

-- what lies after the registers
pub rest_each : (P : Holder → Type 0) (ms : Marks) (regs : Registers) (hs : List Holder) → Each P (in_registers ms regs hs) → Each P hs
rest_each P [] regs hs p = p
rest_each P (m ∷ ms) [] hs p = p
rest_each P (m ∷ ms) (y ∷ regs) hs p = rest_each P ms regs hs (at m y p)
  where
    at : (m : Option How) (y : Option Value) → Each P (in_register m y (in_registers ms regs hs)) → Each P (in_registers ms regs hs)
    at None y q = q
    at (Some h) None q = q
    at (Some h) (Some u) q = q.1

-- ---- values that lead nowhere

pub plain_owns : (v : Value) → IsPlain v → (n : ℕ) → own n v ≡ 0
plain_owns (Own m) h n = absurd h
plain_owns (Ref m) h n = absurd h
plain_owns (Iso m) h n = absurd h
plain_owns (Int m) h n = refl
plain_owns (Truth m) h n = refl
plain_owns (Text m) h n = refl

-- a plain value stays in its register, and fits anywhere
pub plain_taken : (r : ℕ) (v : Value) (ms : Marks) (regs : Registers) (hs : List Holder) → IsPlain v → in_registers (taken r v ms) (kept r v regs) hs ≡ in_registers ms regs hs
plain_taken r (Own m) ms regs hs h = absurd h
plain_taken r (Ref m) ms regs hs h = absurd h
plain_taken r (Iso m) ms regs hs h = absurd h
plain_taken r (Int m) ms regs hs h = refl
plain_taken r (Truth m) ms regs hs h = refl
plain_taken r (Text m) ms regs hs h = refl

pub plain_held : (home : Homes) (w : World) (c : ℕ) (v : Value) → IsPlain v → Within home w (Freeze c) v
plain_held home w c (Own m) h = absurd h
plain_held home w c (Ref m) h = absurd h
plain_held home w c (Iso m) h = absurd h
plain_held home w c (Int m) h = tt
plain_held home w c (Truth m) h = tt
plain_held home w c (Text m) h = tt

-- ---- with the invariant

module _ (home : Homes) (hs : List Holder) (s : State) where
  -- what a register holds, by its mark
  pub reads_fit : (a : ℕ) (how : How) (v : Value) (ms : Marks) (regs : Registers) → mark ms a ≡ Some how → read regs a ≡ Some v → FitsAt home (in_registers ms regs hs) s
      → HolderFits home s.world s.regions (held_as how v)
  reads_fit a how v ms regs m e f = (take_each _ a how v ms regs hs m e f.holders).0

  -- it is taken out
  pub take_fits : (a : ℕ) (how : How) (v : Value) (ms : Marks) (regs : Registers) (x : Option Value) → mark ms a ≡ Some how → read regs a ≡ Some v → FitsAt home (in_registers ms regs hs) s
      → FitsAt home (held_as how v ∷ in_registers (put_mark ms a None) (put regs a x) hs) s
  take_fits a how v ms regs x m e f = subst (λ gs. FitsAt home (held_as how v ∷ gs) s) (sym (unmarked a x ms regs hs))
      (held_fits home (in_registers ms regs hs) (held_as how v ∷ in_registers (put_mark ms a None) regs hs) s.world s.regions (λ n. let y = take_counts n a how v ms regs hs m e in omega (arith, y)) (take_each _ a how v ms regs hs m e f.holders) f)

  -- a value that owns nothing is copied out
  pub copy_fits : (a : ℕ) (how : How) (v : Value) (ms : Marks) (regs : Registers) → ((n : ℕ) → own n v ≡ 0) → mark ms a ≡ Some how → read regs a ≡ Some v → FitsAt home (in_registers ms regs hs) s
      → FitsAt home (held_as how v ∷ in_registers ms regs hs) s
  copy_fits a how v ms regs none m e f = held_fits home (in_registers ms regs hs) (held_as how v ∷ in_registers ms regs hs) s.world s.regions (λ n. let y = none n in omega (arith, y)) (reads_fit a how v ms regs m e f, f.holders) f

  -- whoever keeps it takes it out, where it owns something
  pub keep_fits : (a : ℕ) (how : How) (v : Value) (ms : Marks) (regs : Registers) → mark ms a ≡ Some how → read regs a ≡ Some v → FitsAt home (in_registers ms regs hs) s
      → FitsAt home (held_as how v ∷ in_registers (taken a v ms) (kept a v regs) hs) s
  keep_fits a how (Own n) ms regs m e f = take_fits a how (Own n) ms regs None m e f
  keep_fits a how (Iso n) ms regs m e f = take_fits a how (Iso n) ms regs None m e f
  keep_fits a how (Ref n) ms regs m e f = copy_fits a how (Ref n) ms regs (λ n. refl) m e f
  keep_fits a how (Int n) ms regs m e f = copy_fits a how (Int n) ms regs (λ n. refl) m e f
  keep_fits a how (Truth n) ms regs m e f = copy_fits a how (Truth n) ms regs (λ n. refl) m e f
  keep_fits a how (Text n) ms regs m e f = copy_fits a how (Text n) ms regs (λ n. refl) m e f

  -- a value comes into a register
  pub give_fits : (to : ℕ) (how : How) (v : Value) (ms : Marks) (regs : Registers) → FitsAt home (held_as how v ∷ in_registers ms regs hs) s
      → FitsAt home (in_registers (put_mark ms to (Some how)) (put regs to (Some v)) hs) s
  give_fits to how v ms regs f = held_fits home (held_as how v ∷ in_registers ms regs hs) (in_registers (put_mark ms to (Some how)) (put regs to (Some v)) hs) s.world s.regions
      (λ n. give_counts n to how v ms regs hs) (give_each _ to how v ms regs hs (rest_each _ ms regs hs f.holders.1) f.holders.0 f.holders.1) f

  -- a value is added that owns nothing
  pub add_fits : (how : How) (v : Value) (gs : List Holder) → ((n : ℕ) → own n v ≡ 0) → HolderFits home s.world s.regions (held_as how v) → FitsAt home gs s → FitsAt home (held_as how v ∷ gs) s
  add_fits how v gs none x f = held_fits home gs (held_as how v ∷ gs) s.world s.regions (λ n. let y = none n in omega (arith, y)) (x, f.holders) f

  -- it is stored, from this depth or where it leads nowhere
  pub store_fits : (a : ℕ) (v : Value) (ms : Marks) (regs : Registers) → (mark ms a ≡ Some (Held s.regions)) ⊎ IsPlain v → read regs a ≡ Some v → FitsAt home (in_registers ms regs hs) s
      → FitsAt home (holding s.regions v ∷ in_registers (taken a v ms) (kept a v regs) hs) s
  store_fits a v ms regs (inl m) e f = keep_fits a (Held s.regions) v ms regs m e f
  store_fits a v ms regs (inr is) e f = subst (λ gs. FitsAt home (holding s.regions v ∷ gs) s) (sym (plain_taken a v ms regs hs is))
      (add_fits (Held s.regions) v (in_registers ms regs hs) (plain_owns v is) (omega arith, plain_held home s.world s.regions v is) f)
