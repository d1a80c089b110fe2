-- Registers against locals and temporaries.
use Rattle.std.proofs.Common.{Option, Some, None, Bool, true, false, if◌then◌else◌, length, ◌≡◌, ◌≢◌, ℕ, zero, suc, ◌+◌, ◌<◌, ◌≤◌, List, [], ◌∷◌, refl, sym, ap, ◌∙◌, subst, ⊎_elim, arith}
use Rattle.std.proofs.lemmas.Bool.{cases_lt}
use Rattle.vale_state_spec.specs.World.{Value, Int, Truth, Text, Own, Ref, Iso}
use Rattle.vale_text.specs.Operations.{is_int}
use Rattle.vale_model.specs.Runs.{Local, Locals, has_name, held_by, with_held, outer, innermost}
use Rattle.vale_code.specs.Registers.{Registers, read, put}
use Rattle.vale_lowering.specs.Scopes.{Entry, Scope, entry, waiting, place_of}
use Rattle.vale_lowering.proofs.Ranges.{IsLawful}

abbrev pub Held : Type 0
Held = Option Value

-- ints, truths and the texts that a `str` may have
abbrev pub IsPlain : Value → Type 0
IsPlain (Int z) = is_int z ≡ true
IsPlain (Truth b) = Unit {0}
IsPlain (Text t) = IsLawful t
IsPlain (Own n) = ⊥
IsPlain (Ref n) = ⊥
IsPlain (Iso n) = ⊥

abbrev pub HasPlain : Held → Type 0
HasPlain None = ⊥
HasPlain (Some v) = IsPlain v

abbrev pub ArePlain : List Value → Type 0
ArePlain [] = Unit {0}
ArePlain (v ∷ vs) = IsPlain v × ArePlain vs

-- ---- registers

-- a where r is q, and else b
abbrev pub pick : ℕ → ℕ → Held → Held → Held
pick zero zero a b = a
pick zero (suc q) a b = b
pick (suc r) zero a b = b
pick (suc r) (suc q) a b = pick r q a b

pub pick_same : (r : ℕ) (a b : Held) → pick r r a b ≡ a
pick_same zero a b = refl
pick_same (suc r) a b = pick_same r a b

pub pick_other : (r q : ℕ) (a b : Held) → r ≢ q → pick r q a b ≡ b
pick_other zero zero a b h = absurd (h refl)
pick_other zero (suc q) a b h = refl
pick_other (suc r) zero a b h = refl
pick_other (suc r) (suc q) a b h = pick_other r q a b (λ e. h (ap suc e))

pub read_put : (regs : Registers) (d r : ℕ) (v : Held) → read (put regs d v) r ≡ pick r d v (read regs r)
read_put [] zero zero v = refl
read_put [] zero (suc r) v = refl
read_put [] (suc d) zero v = refl
read_put [] (suc d) (suc r) v = read_put [] d r v
read_put (x ∷ xs) zero zero v = refl
read_put (x ∷ xs) zero (suc r) v = refl
read_put (x ∷ xs) (suc d) zero v = refl
read_put (x ∷ xs) (suc d) (suc r) v = read_put xs d r v

pub pick_twice : (r d : ℕ) (a b c : Held) → pick r d a (pick r d b c) ≡ pick r d a c
pick_twice zero zero a b c = refl
pick_twice zero (suc d) a b c = refl
pick_twice (suc r) zero a b c = refl
pick_twice (suc r) (suc d) a b c = pick_twice r d a b c

pub pick_swap : (r d q : ℕ) (a b c : Held) → d ≢ q → pick r d a (pick r q b c) ≡ pick r q b (pick r d a c)
pick_swap zero zero zero a b c h = absurd (h refl)
pick_swap zero zero (suc q) a b c h = refl
pick_swap zero (suc d) zero a b c h = refl
pick_swap zero (suc d) (suc q) a b c h = refl
pick_swap (suc r) zero zero a b c h = refl
pick_swap (suc r) zero (suc q) a b c h = refl
pick_swap (suc r) (suc d) zero a b c h = refl
pick_swap (suc r) (suc d) (suc q) a b c h = pick_swap r d q a b c (λ e. h (ap suc e))

-- ---- locals

-- what the registers hold that no local has
abbrev pub Base : Type 0
Base = ℕ → Held

abbrev pub with_at : ℕ → Held → Base → Base
with_at d v base = λ r. pick r d v (base r)

-- A value that waits is a temporary: its register is the base's.
abbrev pub pick_local : Option ℕ → ℕ → ℕ → Held → Held → Held
pick_local None r q a b = b
pick_local (Some n) r q a b = pick r q a b

pub local_other : (m : Option ℕ) (r q : ℕ) (a b : Held) → r ≢ q → pick_local m r q a b ≡ b
local_other None r q a b h = refl
local_other (Some n) r q a b h = pick_other r q a b h

pub local_swap : (m : Option ℕ) (r d q : ℕ) (a b c : Held) → d ≢ q → pick r d a (pick_local m r q b c) ≡ pick_local m r q b (pick r d a c)
local_swap None r d q a b c h = refl
local_swap (Some n) r d q a b c h = pick_swap r d q a b c h

-- what a register holds: its local's value, or that of the base
abbrev pub look : Scope → Locals → Base → ℕ → Held
look [] l base r = base r
look (x ∷ s) [] base r = base r
look (x ∷ s) (y ∷ l) base r = pick_local x.name r x.register y.value (look s l base r)

-- the registers of the locals lie below h, each above those of the locals outside it
abbrev pub Falls : ℕ → Scope → Type 0
Falls h [] = Unit {0}
Falls h (x ∷ s) = (x.register < h) × Falls x.register s

-- the locals are those in scope, and hold numbers, truths and texts
abbrev pub Named : Scope → Locals → Type 0
Named [] [] = Unit {0}
Named [] (y ∷ l) = ⊥
Named (x ∷ s) [] = ⊥
Named (x ∷ s) (y ∷ l) = (x.name ≡ y.name) × HasPlain y.value × Named s l

pub record Agrees (h : ℕ) (s : Scope) (l : Locals) (base : Base) (regs : Registers) : Type 0 where
  pub names : Named s l
  pub each : (r : ℕ) → r < h → read regs r ≡ look s l base r

pub falls_up : (s : Scope) (h k : ℕ) → h ≤ k → Falls h s → Falls k s
falls_up [] h k le f = tt
falls_up (x ∷ s) h k le f = (omega (arith, f.0), f.1)

-- above the locals the base alone counts
pub look_above : (s : Scope) (l : Locals) (base : Base) (h r : ℕ) → Falls h s → h ≤ r → look s l base r ≡ base r
look_above [] l base h r f le = refl
look_above (x ∷ s) [] base h r f le = refl
look_above (x ∷ s) (y ∷ l) base h r f le =
    let ne : r ≢ x.register = omega (arith, f.0) in
    local_other x.name r x.register y.value (look s l base r) ne ∙ look_above s l base x.register r f.1 (omega (arith, f.0))

pub look_same : (s : Scope) (l : Locals) (b c : Base) (r : ℕ) → b r ≡ c r → look s l b r ≡ look s l c r
look_same [] l b c r e = e
look_same (x ∷ s) [] b c r e = e
look_same (x ∷ s) (y ∷ l) b c r e = ap (pick_local x.name r x.register y.value) (look_same s l b c r e)

-- a value goes to register h, whatever stood above
pub agrees_put : (s : Scope) (l : Locals) (base base' : Base) (h k : ℕ) (v : Held) (regs : Registers) → Falls h s → h ≤ k → ((r : ℕ) → r < h → base' r ≡ base r) → Agrees k s l base' regs → Agrees (h + 1) s l (with_at h v base) (put regs h v)
agrees_put s l base base' h k v regs f le same a = record { names = a.names; each = each }
  where
    below : (r : ℕ) → r < h → read (put regs h v) r ≡ look s l (with_at h v base) r
    below r lt =
        let ne : r ≢ h = omega arith in
        read_put regs h r v ∙ pick_other r h v (read regs r) ne ∙ a.each r (omega arith)
        ∙ look_same s l base' (with_at h v base) r (same r lt ∙ sym (pick_other r h v (base r) ne))

    here : read (put regs h v) h ≡ look s l (with_at h v base) h
    here =
        read_put regs h h v ∙ pick_same h v (read regs h)
        ∙ sym (look_above s l (with_at h v base) h h f (omega arith) ∙ pick_same h v (base h))

    each : (r : ℕ) → r < h + 1 → read (put regs h v) r ≡ look s l (with_at h v base) r
    each r lt =
        ⊎_elim (λ b. below r b)
        (λ ge. let e : h ≡ r = omega arith in subst (λ q. read (put regs h v) q ≡ look s l (with_at h v base) q) e here)
        (cases_lt r h)

-- the value in the register just below n
pub top_read : (s : Scope) (l : Locals) (base : Base) (h n : ℕ) (v : Held) (regs : Registers) → Falls h s → h < n → Agrees n s l (with_at h v base) regs → read regs h ≡ v
top_read s l base h n v regs f lt a =
    a.each h lt ∙ look_above s l (with_at h v base) h h f (omega arith) ∙ pick_same h v (base h)

-- and the one below it
pub next_read : (s : Scope) (l : Locals) (base : Base) (h n : ℕ) (x y : Held) (regs : Registers) → Falls h s → h < n → Agrees n s l (with_at (h + 1) y (with_at h x base)) regs → read regs h ≡ x
next_read s l base h n x y regs f lt a =
    let ne : h ≢ h + 1 = omega arith in
    a.each h lt ∙ look_above s l (with_at (h + 1) y (with_at h x base)) h h f (omega arith)
    ∙ pick_other h (h + 1) y (with_at h x base h) ne ∙ pick_same h x (base h)

pub two_above : (base : Base) (h : ℕ) (x y : Held) (r : ℕ) → r < h → with_at (h + 1) y (with_at h x base) r ≡ base r
two_above base h x y r lt =
    let ne : r ≢ h + 1 = omega arith in let ne' : r ≢ h = omega arith in
    pick_other r (h + 1) y (with_at h x base r) ne ∙ pick_other r h x (base r) ne'

pub one_above : (base : Base) (h : ℕ) (x : Held) (r : ℕ) → r < h → with_at h x base r ≡ base r
one_above base h x r lt = let ne' : r ≢ h = omega arith in pick_other r h x (base r) ne'

-- fewer registers, and another base that says the same of them
pub agrees_down : (s : Scope) (l : Locals) (base base' : Base) (h k : ℕ) (regs : Registers) → h ≤ k → ((r : ℕ) → r < h → base' r ≡ base r) → Agrees k s l base' regs → Agrees h s l base regs
agrees_down s l base base' h k regs le same a =
    record { names = a.names; each = λ r lt. a.each r (omega arith) ∙ look_same s l base' base r (same r lt) }

-- no local has the register d
abbrev pub Fresh : ℕ → Scope → Type 0
Fresh d [] = Unit {0}
Fresh d (x ∷ s) = (d ≢ x.register) × Fresh d s

pub fresh_above : (s : Scope) (h d : ℕ) → Falls h s → h ≤ d → Fresh d s
fresh_above [] h d f le = tt
fresh_above (x ∷ s) h d f le = (omega (arith, f.0), fresh_above s x.register d f.1 (omega (arith, f.0)))

pub look_dest : (s : Scope) (l : Locals) (base : Base) (d r : ℕ) (v : Held) → Fresh d s → pick r d v (look s l base r) ≡ look s l (with_at d v base) r
look_dest [] l base d r v f = refl
look_dest (x ∷ s) [] base d r v f = refl
look_dest (x ∷ s) (y ∷ l) base d r v f =
    local_swap x.name r d x.register v y.value (look s l base r) f.0 ∙ ap (pick_local x.name r x.register y.value) (look_dest s l base d r v f.1)

-- a value goes to a register that no local has
pub agrees_dest : (s : Scope) (l : Locals) (base base' : Base) (d h k : ℕ) (v : Held) (regs : Registers) → Fresh d s → h ≤ k → ((r : ℕ) → r < h → base' r ≡ base r) → Agrees k s l base' regs → Agrees h s l (with_at d v base) (put regs d v)
agrees_dest s l base base' d h k v regs f le same a =
    record { names = a.names; each = λ r lt. read_put regs d r v ∙ ap (pick r d v) (a.each r (omega arith) ∙ look_same s l base' base r (same r lt)) ∙ look_dest s l base d r v f }

-- the later value of a register counts
pub agrees_once : (s : Scope) (l : Locals) (base : Base) (d h : ℕ) (a b : Held) (regs : Registers) → Agrees h s l (with_at d a (with_at d b base)) regs → Agrees h s l (with_at d a base) regs
agrees_once s l base d h a b regs ag =
    record { names = ag.names; each = λ r lt. ag.each r lt ∙ look_same s l (with_at d a (with_at d b base)) (with_at d a base) r (pick_twice r d a b (base r)) }

-- one register more, whatever it holds
pub agrees_more : (s : Scope) (l : Locals) (base : Base) (h : ℕ) (regs : Registers) → Falls h s → Agrees h s l base regs → Agrees (h + 1) s l (with_at h (read regs h) base) regs
agrees_more s l base h regs f a = record { names = a.names; each = each }
  where
    here : read regs h ≡ look s l (with_at h (read regs h) base) h
    here = sym (look_above s l (with_at h (read regs h) base) h h f (omega arith) ∙ pick_same h (read regs h) (base h))

    each : (r : ℕ) → r < h + 1 → read regs r ≡ look s l (with_at h (read regs h) base) r
    each r lt =
        ⊎_elim (λ b. a.each r b ∙ look_same s l base (with_at h (read regs h) base) r (sym (one_above base h (read regs h) r b)))
        (λ ge. let e : h ≡ r = omega arith in subst (λ q. read regs q ≡ look s l (with_at h (read regs h) base) q) e here)
        (cases_lt r h)

-- ---- a local by its name

-- what a name has in the scope, and what it has among the locals
abbrev pub Meets : ℕ → Scope → Locals → Option ℕ → Held → Type 0
Meets h s l None u = Unit {0}
Meets h s l (Some r) None = ⊥
Meets h s l (Some r) (Some v) = (r < h) × IsPlain v × ((base : Base) → look s l base r ≡ Some v)

meets_here : (h n : ℕ) (x : Entry) (y : Local) (s : Scope) (l : Locals) → x.register < h → has_name n x.name ≡ true → (v : Held) → y.value ≡ v → HasPlain v → Meets h (x ∷ s) (y ∷ l) (Some x.register) v
meets_here h n x y s l lt is None e p = absurd p
meets_here h n x y s l lt is (Some v) e p = (lt, p, λ base. by x.name is base)
  where
    by : (m : Option ℕ) → has_name n m ≡ true → (base : Base) → pick_local m x.register x.register y.value (look s l base x.register) ≡ Some v
    by None is base = absurd (cc)
    by (Some k) is base = pick_same x.register y.value (look s l base x.register) ∙ e

meets_deeper : (h : ℕ) (x : Entry) (y : Local) (s : Scope) (l : Locals) (o : Option ℕ) (u : Held) → x.register < h → Meets x.register s l o u → Meets h (x ∷ s) (y ∷ l) o u
meets_deeper h x y s l None u lt m = tt
meets_deeper h x y s l (Some r) None lt m = m
meets_deeper h x y s l (Some r) (Some v) lt m =
    let ne : r ≢ x.register = omega (arith, m.0) in
    (omega (arith, m.0), m.1, λ base. local_other x.name r x.register y.value (look s l base r) ne ∙ m.2 base)

meets_at : (b : Bool) (h n : ℕ) (x : Entry) (y : Local) (s : Scope) (l : Locals) (o : Option ℕ) (u : Held) → has_name n x.name ≡ b → x.register < h → HasPlain y.value → Meets x.register s l o u → Meets h (x ∷ s) (y ∷ l) (if b then Some x.register else o) (if b then y.value else u)
meets_at true h n x y s l o u is lt p m = meets_here h n x y s l lt is y.value refl p
meets_at false h n x y s l o u is lt p m = meets_deeper h x y s l o u lt m

pub meets : (n h : ℕ) (s : Scope) (l : Locals) → Falls h s → Named s l → Meets h s l (place_of n s) (held_by n l)
meets n h [] [] f m = tt
meets n h [] (y ∷ l) f m = absurd m
meets n h (x ∷ s) [] f m = absurd m
meets n h (x ∷ s) (y ∷ l) f m =
    let same = meets_at (has_name n x.name) h n x y s l (place_of n s) (held_by n l) refl f.0 m.1 (meets n x.register s l f.1 m.2) in
    subst (λ q. Meets h (x ∷ s) (y ∷ l) (if has_name n x.name then Some x.register else place_of n s) (if has_name n q then y.value else held_by n l)) m.0 same

-- a local is set
abbrev pub Changes : ℕ → Value → Scope → Locals → Option ℕ → Locals → Type 0
Changes h v s l None l' = Unit {0}
Changes h v s l (Some r) l' = (r < h) × Named s l' × ((q : ℕ) (base : Base) → look s l' base q ≡ pick q r (Some v) (look s l base q))

changes_deeper : (h : ℕ) (v : Value) (x : Entry) (y : Local) (s : Scope) (l l' : Locals) (o : Option ℕ) → x.register < h → x.name ≡ y.name → HasPlain y.value → Changes x.register v s l o l' → Changes h v (x ∷ s) (y ∷ l) o (y ∷ l')
changes_deeper h v x y s l l' None lt n p c = tt
changes_deeper h v x y s l l' (Some r) lt n p c =
    let ne : r ≢ x.register = omega (arith, c.0) in
    (omega (arith, c.0), (n, p, c.1), λ q base. ap (pick_local x.name q x.register y.value) (c.2 q base) ∙ sym (local_swap x.name q r x.register (Some v) y.value (look s l base q) ne))

changes_at : (b : Bool) (h n : ℕ) (v : Value) (x : Entry) (y : Local) (s : Scope) (l l' : Locals) (o : Option ℕ) → has_name n x.name ≡ b → IsPlain v → x.register < h → x.name ≡ y.name → HasPlain y.value → Named s l → Changes x.register v s l o l' → Changes h v (x ∷ s) (y ∷ l) (if b then Some x.register else o) (if b then (record y { value = Some v } ∷ l) else (y ∷ l'))
changes_at true h n v x y s l l' o is pv lt e p m c =
    (lt, (e, pv, m), λ q base. by x.name is q base)
  where
    by : (k : Option ℕ) → has_name n k ≡ true → (q : ℕ) (base : Base) → pick_local k q x.register (Some v) (look s l base q) ≡ pick q x.register (Some v) (pick_local k q x.register y.value (look s l base q))
    by None is q base = absurd (cc)
    by (Some k) is q base = sym (pick_twice q x.register (Some v) y.value (look s l base q))
changes_at false h n v x y s l l' o is pv lt e p m c = changes_deeper h v x y s l l' o lt e p c

pub changes : (n h : ℕ) (v : Value) (s : Scope) (l : Locals) → IsPlain v → Falls h s → Named s l → Changes h v s l (place_of n s) (with_held n (Some v) l)
changes n h v [] [] pv f m = tt
changes n h v [] (y ∷ l) pv f m = absurd m
changes n h v (x ∷ s) [] pv f m = absurd m
changes n h v (x ∷ s) (y ∷ l) pv f m =
    let same = changes_at (has_name n x.name) h n v x y s l (with_held n (Some v) l) (place_of n s) refl pv f.0 m.0 m.1 m.2 (changes n x.register v s l pv f.1 m.2) in
    subst (λ q. Changes h v (x ∷ s) (y ∷ l) (if has_name n x.name then Some x.register else place_of n s) (if has_name n q then (record y { value = Some v } ∷ l) else (y ∷ with_held n (Some v) l))) m.0 same

pub agrees_set : (s : Scope) (l l' : Locals) (base : Base) (h r : ℕ) (v : Value) (regs : Registers) → Changes h v s l (Some r) l' → Agrees h s l base regs → Agrees h s l' base (put regs r (Some v))
agrees_set s l l' base h r v regs c a =
    record { names = c.1; each = λ q lt. read_put regs r q (Some v) ∙ ap (pick q r (Some v)) (a.each q lt) ∙ sym (c.2 q base) }

-- ---- scopes

-- the value in register h becomes a local
pub agrees_push : (s : Scope) (l : Locals) (base : Base) (h n : ℕ) (owned : Bool) (v : Value) (regs : Registers) → IsPlain v → Falls h s → Agrees (h + 1) s l (with_at h (Some v) base) regs → Agrees (h + 1) (entry n h ∷ s) (record { name = Some n; value = Some v; owned = owned } ∷ l) base regs
agrees_push s l base h n owned v regs p f a =
    record { names = (refl, p, a.names); each = λ r lt. a.each r lt ∙ sym (look_dest s l base h r (Some v) (fresh_above s h h f (omega arith))) }

pub agrees_pop : (s : Scope) (l : Locals) (base : Base) (h n : ℕ) (regs : Registers) → Agrees (h + 1) (entry n h ∷ s) l base regs → Agrees h s (outer l) base regs
agrees_pop s [] base h n regs a = absurd a.names
agrees_pop s (y ∷ l) base h n regs a =
    record { names = a.names.2; each = λ r lt. let ne : r ≢ h = omega arith in a.each r (omega arith) ∙ pick_other r h y.value (look s l base r) ne }

-- a value waits in its register
pub agrees_wait : (s : Scope) (l : Locals) (base : Base) (h k : ℕ) (owned : Bool) (v : Value) (regs : Registers) → IsPlain v → Agrees k s l base regs → Agrees k (waiting h ∷ s) (record { name = None; value = Some v; owned = owned } ∷ l) base regs
agrees_wait s l base h k owned v regs p a = record { names = (refl, p, a.names); each = a.each }

pub agrees_done : (s : Scope) (l : Locals) (base : Base) (h k : ℕ) (regs : Registers) → Agrees k (waiting h ∷ s) l base regs → Agrees k s (outer l) base regs
agrees_done s [] base h k regs a = absurd a.names
agrees_done s (y ∷ l) base h k regs a = record { names = a.names.2; each = a.each }

-- the innermost local holds something plain
pub innermost_plain : (x : Entry) (s : Scope) (l : Locals) → Named (x ∷ s) l → HasPlain (innermost l)
innermost_plain x s [] m = absurd m
innermost_plain x s (y ∷ l) m = m.1

-- ---- the values of a call

abbrev pub with_all : ℕ → List Value → Base → Base
with_all h [] base = base
with_all h (v ∷ vs) base = with_all (h + 1) vs (with_at h (Some v) base)

pub with_all_below : (h : ℕ) (vs : List Value) (base : Base) (r : ℕ) → r < h → with_all h vs base r ≡ base r
with_all_below h [] base r lt = refl
with_all_below h (v ∷ vs) base r lt = with_all_below (h + 1) vs (with_at h (Some v) base) r (omega arith) ∙ one_above base h (Some v) r lt

-- the registers from h on hold the values
abbrev pub Stand : ℕ → List Value → Registers → Type 0
Stand h [] regs = Unit {0}
Stand h (v ∷ vs) regs = (read regs h ≡ Some v) × Stand (h + 1) vs regs

pub all_stand : (s : Scope) (l : Locals) (vs : List Value) (h k n : ℕ) (base : Base) (regs : Registers) → Falls k s → k ≤ h → h + length vs ≤ n → Agrees n s l (with_all h vs base) regs → Stand h vs regs
all_stand s l [] h k n base regs f le lt a = tt
all_stand s l (v ∷ vs) h k n base regs f le lt a = (
  a.each h (omega arith) ∙ look_above s l (with_all (h + 1) vs (with_at h (Some v) base)) k h f le
      ∙ with_all_below (h + 1) vs (with_at h (Some v) base) h (omega arith) ∙ pick_same h (Some v) (base h),
  all_stand s l vs (h + 1) k n (with_at h (Some v) base) regs f (omega arith) (omega arith) a,
)
