-- How the locals of the flow of ownership and the registers that are gone go together: what is whole is there, and after a part just
-- what it moved is gone besides.
use Rattle.std.proofs.Common.{◌≡◌, ◌≢◌, ℕ, suc, ◌<◌, ◌≤◌, Bool, true, false, not, ◌&&◌, ◌==◌, if◌then◌else◌, List, [], ◌∷◌, length, Option, Some, None, refl, sym, ap, ◌∙◌, subst, arith}
use Rattle.std.proofs.lemmas.Bool.{eqb-true, eq-eqb}
use Rattle.vale_syntax.specs.declared.tree.NameAt.{NameAt}
use Rattle.vale_rules_spec.specs.Whole.{Local, Locals, declared, is_whole, moved, are_alike}
use Rattle.vale_model.specs.Runs.{has_name}
use Rattle.vale_lowering_objects.specs.Lowered.{moved_out}
use Rattle.vale_lowering_objects.specs.Scopes.{Entry, Scope, find, Gone, is_gone, without, same_truth, same_gone, After, comes, never, no_run, then_after}

-- ---- rows of a scope

-- a value that waits in a register, or a local of this name, and whether it is owned
pub data Row : Type 0 where
  waits : ℕ → Row
  holds : ℕ → ℕ → Bool → Row

abbrev pub row : Option ℕ → ℕ → Bool → Row
row None r owned = waits r
row (Some n) r owned = holds n r owned

abbrev pub rows : Scope → List Row
rows [] = []
rows (x ∷ s) = row x.name x.register x.owned ∷ rows s

abbrev pub place : Row → ℕ
place (waits r) = r
place (holds n r owned) = r

-- the registers lie below h, each above those of the rows outside
abbrev pub Falls : ℕ → List Row → Type 0
Falls h [] = Unit {0}
Falls h (x ∷ rs) = (place x < h) × Falls (place x) rs

-- ---- what is known before a part, and after it

-- THE RELATION: the locals are those of the rows, and what is whole is there.
abbrev pub Kept : List Row → Gone → Locals → Type 0
Kept [] g [] = Unit {0}
Kept [] g (l ∷ ls) = ⊥
Kept (waits r ∷ rs) g ls = Kept rs g ls
Kept (holds n r owned ∷ rs) g [] = ⊥
Kept (holds n r owned ∷ rs) g (l ∷ ls) = (l.name ≡ n) × (l.whole ≡ true → is_gone r g ≡ false) × Kept rs g ls

-- no local became whole, and what is whole is there
abbrev pub Fell : List Row → Locals → Gone → Locals → Type 0
Fell [] [] g [] = Unit {0}
Fell [] ls g ms = ⊥
Fell (waits r ∷ rs) ls g ms = Fell rs ls g ms
Fell (holds n r owned ∷ rs) (l ∷ ls) g (m ∷ ms) = (l.name ≡ n) × (m.name ≡ n) × (m.whole ≡ true → l.whole ≡ true) × (m.whole ≡ true → is_gone r g ≡ false) × Fell rs ls g ms
Fell (holds n r owned ∷ rs) ls g ms = ⊥

-- besides just those are gone that were moved
abbrev pub Went : List Row → Gone → Locals → Gone → Locals → Type 0
Went [] g [] g' [] = Unit {0}
Went [] g ls g' ms = ⊥
Went (waits r ∷ rs) g ls g' ms = (is_gone r g' ≡ is_gone r g) × Went rs g ls g' ms
Went (holds n r owned ∷ rs) g (l ∷ ls) g' (m ∷ ms) =
    (l.name ≡ n) × (m.name ≡ n) × (m.whole ≡ true → l.whole ≡ true) × (is_gone r g' ≡ (if l.whole then not m.whole else is_gone r g)) × Went rs g ls g' ms
Went (holds n r owned ∷ rs) g ls g' ms = ⊥

-- where a run comes after a part, just that is known; where none does, less
abbrev pub Goes : List Row → Gone → Locals → After → Locals → Type 0
Goes rs g ls (comes g') ms = Went rs g ls g' ms
Goes rs g ls (never g') ms = Fell rs ls g' ms

-- ---- truths

still_there : (l gone : Bool) → (l ≡ true → gone ≡ false) → gone ≡ (if l then not l else gone)
still_there true gone f = f refl
still_there false gone f = refl

there_after : (l m gone gone' : Bool) → (m ≡ true → l ≡ true) → gone' ≡ (if l then not m else gone) → m ≡ true → gone' ≡ false
there_after true true gone gone' f e is = e
there_after true false gone gone' f e is = absurd (cc)
there_after false m gone gone' f e is = absurd (let z : false ≡ true = f is in cc)

two_turns : (l m n a b c : Bool) → (m ≡ true → l ≡ true) → (n ≡ true → m ≡ true) → b ≡ (if l then not m else a) → c ≡ (if m then not n else b) → c ≡ (if l then not n else a)
two_turns true true n a b c f g e h = h
two_turns true false true a b c f g e h = absurd (let z : false ≡ true = g refl in cc)
two_turns true false false a b c f g e h = h ∙ e
two_turns false true n a b c f g e h = absurd (let z : false ≡ true = f refl in cc)
two_turns false false n a b c f g e h = h ∙ e

-- ---- one part after another

pub went_same : (rs : List Row) (g : Gone) (ls : Locals) → Kept rs g ls → Went rs g ls g ls
went_same [] g [] k = tt
went_same [] g (l ∷ ls) k = k
went_same (waits r ∷ rs) g ls k = (refl, went_same rs g ls k)
went_same (holds n r owned ∷ rs) g [] k = k
went_same (holds n r owned ∷ rs) g (l ∷ ls) k = (k.0, k.0, λ e. e, still_there l.whole (is_gone r g) k.1, went_same rs g ls k.2)

pub fell_same : (rs : List Row) (g : Gone) (ls : Locals) → Kept rs g ls → Fell rs ls g ls
fell_same [] g [] k = tt
fell_same [] g (l ∷ ls) k = k
fell_same (waits r ∷ rs) g ls k = fell_same rs g ls k
fell_same (holds n r owned ∷ rs) g [] k = k
fell_same (holds n r owned ∷ rs) g (l ∷ ls) k = (k.0, k.0, λ e. e, k.1, fell_same rs g ls k.2)

pub went_fell : (rs : List Row) (g g' : Gone) (ls ms : Locals) → Went rs g ls g' ms → Fell rs ls g' ms
went_fell [] g g' [] [] k = tt
went_fell [] g g' [] (m ∷ ms) k = k
went_fell [] g g' (l ∷ ls) ms k = k
went_fell (waits r ∷ rs) g g' ls ms k = went_fell rs g g' ls ms k.1
went_fell (holds n r owned ∷ rs) g g' (l ∷ ls) (m ∷ ms) k = (k.0, k.1, k.2, there_after l.whole m.whole (is_gone r g) (is_gone r g') k.2 k.3, went_fell rs g g' ls ms k.4)
went_fell (holds n r owned ∷ rs) g g' [] ms k = absurd k
went_fell (holds n r owned ∷ rs) g g' (l ∷ ls) [] k = absurd k

pub fell_kept : (rs : List Row) (g : Gone) (ls ms : Locals) → Fell rs ls g ms → Kept rs g ms
fell_kept [] g [] [] k = tt
fell_kept [] g [] (m ∷ ms) k = k
fell_kept [] g (l ∷ ls) ms k = absurd k
fell_kept (waits r ∷ rs) g ls ms k = fell_kept rs g ls ms k
fell_kept (holds n r owned ∷ rs) g (l ∷ ls) (m ∷ ms) k = (k.1, k.3, fell_kept rs g ls ms k.4)
fell_kept (holds n r owned ∷ rs) g [] ms k = absurd k
fell_kept (holds n r owned ∷ rs) g (l ∷ ls) [] k = absurd k

pub went_kept : (rs : List Row) (g g' : Gone) (ls ms : Locals) → Went rs g ls g' ms → Kept rs g' ms
went_kept rs g g' ls ms k = fell_kept rs g' ls ms (went_fell rs g g' ls ms k)

pub went_twice : (rs : List Row) (g g1 g2 : Gone) (ls ms ns : Locals) → Went rs g ls g1 ms → Went rs g1 ms g2 ns → Went rs g ls g2 ns
went_twice [] g g1 g2 [] [] [] j k = tt
went_twice [] g g1 g2 [] [] (n ∷ ns) j k = k
went_twice [] g g1 g2 [] (m ∷ ms) ns j k = absurd j
went_twice [] g g1 g2 (l ∷ ls) ms ns j k = absurd j
went_twice (waits r ∷ rs) g g1 g2 ls ms ns j k = (k.0 ∙ j.0, went_twice rs g g1 g2 ls ms ns j.1 k.1)
went_twice (holds x r owned ∷ rs) g g1 g2 (l ∷ ls) (m ∷ ms) (n ∷ ns) j k =
    (j.0, k.1, λ e. j.2 (k.2 e), two_turns l.whole m.whole n.whole (is_gone r g) (is_gone r g1) (is_gone r g2) j.2 k.2 j.3 k.3, went_twice rs g g1 g2 ls ms ns j.4 k.4)
went_twice (holds x r owned ∷ rs) g g1 g2 [] ms ns j k = absurd j
went_twice (holds x r owned ∷ rs) g g1 g2 (l ∷ ls) [] ns j k = absurd j
went_twice (holds x r owned ∷ rs) g g1 g2 (l ∷ ls) (m ∷ ms) [] j k = absurd k

pub fell_twice : (rs : List Row) (g1 g2 : Gone) (ls ms ns : Locals) → Fell rs ls g1 ms → Fell rs ms g2 ns → Fell rs ls g2 ns
fell_twice [] g1 g2 [] [] [] j k = tt
fell_twice [] g1 g2 [] [] (n ∷ ns) j k = k
fell_twice [] g1 g2 [] (m ∷ ms) ns j k = absurd j
fell_twice [] g1 g2 (l ∷ ls) ms ns j k = absurd j
fell_twice (waits r ∷ rs) g1 g2 ls ms ns j k = fell_twice rs g1 g2 ls ms ns j k
fell_twice (holds x r owned ∷ rs) g1 g2 (l ∷ ls) (m ∷ ms) (n ∷ ns) j k = (j.0, k.1, λ e. j.2 (k.2 e), k.3, fell_twice rs g1 g2 ls ms ns j.4 k.4)
fell_twice (holds x r owned ∷ rs) g1 g2 [] ms ns j k = absurd j
fell_twice (holds x r owned ∷ rs) g1 g2 (l ∷ ls) [] ns j k = absurd j
fell_twice (holds x r owned ∷ rs) g1 g2 (l ∷ ls) (m ∷ ms) [] j k = absurd k

-- with what was gone before
pub fell_from : (rs : List Row) (g g' : Gone) (ls ms : Locals) → Fell rs ls g ms → Kept rs g' ls → Fell rs ls g' ms
fell_from [] g g' [] [] k b = tt
fell_from [] g g' [] (m ∷ ms) k b = k
fell_from [] g g' (l ∷ ls) ms k b = absurd k
fell_from (waits r ∷ rs) g g' ls ms k b = fell_from rs g g' ls ms k b
fell_from (holds n r owned ∷ rs) g g' (l ∷ ls) (m ∷ ms) k b = (k.0, k.1, k.2, λ e. b.1 (k.2 e), fell_from rs g g' ls ms k.4 b.2)
fell_from (holds n r owned ∷ rs) g g' [] ms k b = absurd k
fell_from (holds n r owned ∷ rs) g g' (l ∷ ls) [] k b = absurd k

pub after_went : (rs : List Row) (g g1 : Gone) (ls ms ns : Locals) (o : After) → Went rs g ls g1 ms → Goes rs g1 ms o ns → Goes rs g ls o ns
after_went rs g g1 ls ms ns (comes g2) j k = went_twice rs g g1 g2 ls ms ns j k
after_went rs g g1 ls ms ns (never g2) j k = fell_twice rs g1 g2 ls ms ns (went_fell rs g g1 ls ms j) k

pub after_fell : (rs : List Row) (g g1 : Gone) (ls ms ns : Locals) (o : After) → Fell rs ls g1 ms → Goes rs g1 ms o ns → Goes rs g ls (no_run o) ns
after_fell rs g g1 ls ms ns (comes g2) j k = fell_twice rs g1 g2 ls ms ns j (went_fell rs g1 g2 ms ns k)
after_fell rs g g1 ls ms ns (never g2) j k = fell_twice rs g1 g2 ls ms ns j k

pub goes_then : (rs : List Row) (g : Gone) (ls ms ns : Locals) (o : After) (f : Gone → After) → Goes rs g ls o ms → ((g' : Gone) → Kept rs g' ms → Goes rs g' ms (f g') ns) → Goes rs g ls (then_after o f) ns
goes_then rs g ls ms ns (comes g1) f j k = after_went rs g g1 ls ms ns (f g1) j (k g1 (went_kept rs g g1 ls ms j))
goes_then rs g ls ms ns (never g1) f j k = after_fell rs g g1 ls ms ns (f g1) j (k g1 (fell_kept rs g1 ls ms j))

pub goes_no_more : (rs : List Row) (g : Gone) (ls ms : Locals) (o : After) → Goes rs g ls o ms → Goes rs g ls (no_run o) ms
goes_no_more rs g ls ms (comes g') k = went_fell rs g g' ls ms k
goes_no_more rs g ls ms (never g') k = k

-- what is gone after a part
abbrev pub gone_after : After → Gone
gone_after (comes g) = g
gone_after (never g) = g

pub goes_fell : (rs : List Row) (g : Gone) (ls ms : Locals) (o : After) → Goes rs g ls o ms → Fell rs ls (gone_after o) ms
goes_fell rs g ls ms (comes g') k = went_fell rs g g' ls ms k
goes_fell rs g ls ms (never g') k = k

pub fell_length : (rs : List Row) (g : Gone) (ls ms : Locals) → Fell rs ls g ms → length ms ≡ length ls
fell_length [] g [] [] k = refl
fell_length [] g [] (m ∷ ms) k = absurd k
fell_length [] g (l ∷ ls) ms k = absurd k
fell_length (waits r ∷ rs) g ls ms k = fell_length rs g ls ms k
fell_length (holds n r owned ∷ rs) g (l ∷ ls) (m ∷ ms) k = ap suc (fell_length rs g ls ms k.4)
fell_length (holds n r owned ∷ rs) g [] ms k = absurd k
fell_length (holds n r owned ∷ rs) g (l ∷ ls) [] k = absurd k

-- ---- the list of what is gone

gone_without_at : (b : Bool) (q r h : ℕ) (g : Gone) → r ≢ h → (q == h) ≡ b → is_gone r (without h g) ≡ is_gone r g → is_gone r (if b then without h g else q ∷ without h g) ≡ is_gone r (q ∷ g)
gone_without_at true q r h g ne e rest = rest ∙ sym (other (q == r) refl (eqb-true q h e))
  where
    other : (b : Bool) → (q == r) ≡ b → q ≡ h → (if b then true else is_gone r g) ≡ is_gone r g
    other true e is = absurd (ne (sym (eqb-true q r e) ∙ is))
    other false e is = refl
gone_without_at false q r h g ne e rest = ap (λ x. if q == r then true else x) rest

gone_without : (r h : ℕ) (g : Gone) → r ≢ h → is_gone r (without h g) ≡ is_gone r g
gone_without r h [] ne = refl
gone_without r h (q ∷ g) ne = gone_without_at (q == h) q r h g ne refl (gone_without r h g ne)

here_without_at : (b : Bool) (q h : ℕ) (g : Gone) → (q == h) ≡ b → is_gone h (without h g) ≡ false → is_gone h (if b then without h g else q ∷ without h g) ≡ false
here_without_at true q h g e rest = rest
here_without_at false q h g e rest = ap (λ b. if b then true else is_gone h (without h g)) e ∙ rest

here_without : (h : ℕ) (g : Gone) → is_gone h (without h g) ≡ false
here_without h [] = refl
here_without h (q ∷ g) = here_without_at (q == h) q h g refl (here_without h g)

gone_other : (r q : ℕ) (g : Gone) → r ≢ q → is_gone r (q ∷ g) ≡ is_gone r g
gone_other r q g ne = by (q == r) refl
  where
    by : (b : Bool) → (q == r) ≡ b → (if b then true else is_gone r g) ≡ is_gone r g
    by true e = absurd (ne (sym (eqb-true q r e)))
    by false e = refl

gone_here : (r : ℕ) (g : Gone) → is_gone r (r ∷ g) ≡ true
gone_here r g = ap (λ b. if b then true else is_gone r g) (eq-eqb r r refl)

-- alike in the registers below h
abbrev pub SameBelow : ℕ → Gone → Gone → Type 0
SameBelow h g g' = (r : ℕ) → r < h → is_gone r g' ≡ is_gone r g

below_without : (h : ℕ) (g : Gone) → SameBelow h g (without h g)
below_without h g r lt = gone_without r h g (λ e. omega (arith, lt, e))

same_deeper : (h k : ℕ) (g g' : Gone) → k < h → SameBelow h g g' → SameBelow k g g'
same_deeper h k g g' lt f r le = f r (omega (arith, lt, le))

kept_by : (rs : List Row) (h : ℕ) (g g' : Gone) (ls : Locals) → Falls h rs → SameBelow h g g' → Kept rs g ls → Kept rs g' ls
kept_by [] h g g' [] f s k = tt
kept_by [] h g g' (l ∷ ls) f s k = k
kept_by (waits r ∷ rs) h g g' ls f s k = kept_by rs r g g' ls f.1 (same_deeper h r g g' f.0 s) k
kept_by (holds n r owned ∷ rs) h g g' [] f s k = k
kept_by (holds n r owned ∷ rs) h g g' (l ∷ ls) f s k = (k.0, λ e. s r f.0 ∙ k.1 e, kept_by rs r g g' ls f.1 (same_deeper h r g g' f.0 s) k.2)

went_by : (rs : List Row) (h : ℕ) (g g1 g' : Gone) (ls ms : Locals) → Falls h rs → SameBelow h g g1 → Went rs g1 ls g' ms → Went rs g ls g' ms
went_by [] h g g1 g' [] [] f s k = tt
went_by [] h g g1 g' [] (m ∷ ms) f s k = k
went_by [] h g g1 g' (l ∷ ls) ms f s k = k
went_by (waits r ∷ rs) h g g1 g' ls ms f s k = (k.0 ∙ s r f.0, went_by rs r g g1 g' ls ms f.1 (same_deeper h r g g1 f.0 s) k.1)
went_by (holds n r owned ∷ rs) h g g1 g' (l ∷ ls) (m ∷ ms) f s k =
    (k.0, k.1, k.2, k.3 ∙ ap (λ b. if l.whole then not m.whole else b) (s r f.0), went_by rs r g g1 g' ls ms f.1 (same_deeper h r g g1 f.0 s) k.4)
went_by (holds n r owned ∷ rs) h g g1 g' [] ms f s k = k
went_by (holds n r owned ∷ rs) h g g1 g' (l ∷ ls) [] f s k = k

-- nothing below h changes
went_still : (rs : List Row) (h : ℕ) (g g' : Gone) (ls : Locals) → Falls h rs → SameBelow h g g' → Kept rs g ls → Went rs g ls g' ls
went_still [] h g g' [] f s k = tt
went_still [] h g g' (l ∷ ls) f s k = k
went_still (waits r ∷ rs) h g g' ls f s k = (s r f.0, went_still rs r g g' ls f.1 (same_deeper h r g g' f.0 s) k)
went_still (holds n r owned ∷ rs) h g g' [] f s k = k
went_still (holds n r owned ∷ rs) h g g' (l ∷ ls) f s k =
    (k.0, k.0, λ e. e, s r f.0 ∙ still_there l.whole (is_gone r g) k.1, went_still rs r g g' ls f.1 (same_deeper h r g g' f.0 s) k.2)

pub falls_up : (rs : List Row) (h k : ℕ) → h ≤ k → Falls h rs → Falls k rs
falls_up [] h k le f = tt
falls_up (x ∷ rs) h k le f = (omega (arith, le, f.0), f.1)

-- ---- scopes that end

pub kept_push : (rs : List Row) (h : ℕ) (g : Gone) (ls : Locals) (n : NameAt) (owned : Bool) → Falls h rs → Kept rs g ls → Kept (holds n.name.0 h owned ∷ rs) (without h g) (declared n ls)
kept_push rs h g ls n owned f k = (refl, λ e. here_without h g, kept_by rs h g (without h g) ls f (below_without h g) k)

pub kept_wait : (rs : List Row) (h : ℕ) (g : Gone) (ls : Locals) → Falls h rs → Kept rs g ls → Kept (waits h ∷ rs) (without h g) ls
kept_wait rs h g ls f k = kept_by rs h g (without h g) ls f (below_without h g) k

-- a part ran with one local more
abbrev pub Popped : List Row → Gone → Locals → After → Locals → Type 0
Popped rs g ls o ms = (d : Local) × (ns : Locals) × (ms ≡ d ∷ ns) × Goes rs g ls o ns

pub goes_pop : (rs : List Row) (h n : ℕ) (owned : Bool) (g : Gone) (l : Local) (ls ms : Locals) (o : After) → Falls h rs → Goes (holds n h owned ∷ rs) (without h g) (l ∷ ls) o ms → Popped rs g ls o ms
goes_pop rs h n owned g l ls (m ∷ ms) (comes g') f k = (m, ms, refl, went_by rs h g (without h g) g' ls ms f (below_without h g) k.4)
goes_pop rs h n owned g l ls (m ∷ ms) (never g') f k = (m, ms, refl, k.4)
goes_pop rs h n owned g l ls [] (comes g') f k = absurd k
goes_pop rs h n owned g l ls [] (never g') f k = absurd k

pub goes_wait : (rs : List Row) (h : ℕ) (g : Gone) (ls ms : Locals) (o : After) → Falls h rs → Goes (waits h ∷ rs) (without h g) ls o ms → Goes rs g ls o ms
goes_wait rs h g ls ms (comes g') f k = went_by rs h g (without h g) g' ls ms f (below_without h g) k.1
goes_wait rs h g ls ms (never g') f k = k

-- ---- moves

-- the register of a local
abbrev pub spot : ℕ → List Row → Option ℕ
spot n [] = None
spot n (waits r ∷ rs) = spot n rs
spot n (holds m r owned ∷ rs) = if m == n then Some r else spot n rs

abbrev pub out : Option ℕ → Gone → Gone
out None g = g
out (Some r) g = r ∷ g

-- below h
abbrev Below : ℕ → Option ℕ → Type 0
Below h None = Unit {0}
Below h (Some r) = r < h

below_up : (h k : ℕ) (o : Option ℕ) → h ≤ k → Below h o → Below k o
below_up h k None le b = tt
below_up h k (Some r) le b = omega (arith, le, b)

spot_below : (rs : List Row) (h n : ℕ) → Falls h rs → Below h (spot n rs)
spot_below [] h n f = tt
spot_below (waits r ∷ rs) h n f = below_up r h (spot n rs) (omega (arith, f.0)) (spot_below rs r n f.1)
spot_below (holds m r owned ∷ rs) h n f = by (m == n) (below_up r h (spot n rs) (omega (arith, f.0)) (spot_below rs r n f.1))
  where
    by : (b : Bool) → Below h (spot n rs) → Below h (if b then Some r else spot n rs)
    by true rest = f.0
    by false rest = rest

out_above : (o : Option ℕ) (r : ℕ) (g : Gone) → Below r o → is_gone r (out o g) ≡ is_gone r g
out_above None r g b = refl
out_above (Some q) r g b = gone_other r q g (λ e. omega (arith, b, e))

below_here : (r : ℕ) (g : Gone) → SameBelow r g (r ∷ g)
below_here r g q lt = gone_other q r g (λ e. omega (arith, lt, e))

moved_here : (l : Bool) (a : Bool) → l ≡ true → true ≡ (if l then not false else a)
moved_here true a e = refl
moved_here false a e = absurd (cc)

abbrev loc : ℕ → Bool → Local
loc n whole = record { name = n; whole = whole }

-- a local that is whole is moved
pub went_out : (rs : List Row) (h n : ℕ) (g : Gone) (ls : Locals) → Falls h rs → Kept rs g ls → is_whole n ls ≡ true → Went rs g ls (out (spot n rs) g) (moved n ls)
went_out [] h n g [] f k w = tt
went_out [] h n g (l ∷ ls) f k w = absurd k
went_out (waits r ∷ rs) h n g ls f k w = (out_above (spot n rs) r g (spot_below rs r n f.1), went_out rs r n g ls f.1 k w)
went_out (holds m r owned ∷ rs) h n g [] f k w = absurd k
went_out (holds m r owned ∷ rs) h n g (l ∷ ls) f k w = by (m == n) refl (λ v. went_out rs r n g ls f.1 k.2 v)
  where
    by : (b : Bool) → (m == n) ≡ b → (is_whole n ls ≡ true → Went rs g ls (out (spot n rs) g) (moved n ls))
        → Went (holds m r owned ∷ rs) g (l ∷ ls) (out (if m == n then Some r else spot n rs) g) (if l.name == n then loc n false ∷ ls else l ∷ moved n ls)
    by true e rest =
        let same : (l.name == n) ≡ true = ap (λ z. z == n) k.0 ∙ e in
        let whole : l.whole ≡ true = sym (ap (λ b. if b then l.whole else is_whole n ls) same) ∙ w in
        subst (λ b. Went (holds m r owned ∷ rs) g (l ∷ ls) (out (if b then Some r else spot n rs) g) (if l.name == n then loc n false ∷ ls else l ∷ moved n ls)) (sym e)
        (subst (λ b. Went (holds m r owned ∷ rs) g (l ∷ ls) (r ∷ g) (if b then loc n false ∷ ls else l ∷ moved n ls)) (sym same)
        (k.0, sym (eqb-true m n e), λ z. absurd (cc), gone_here r g ∙ moved_here l.whole (is_gone r g) whole, went_still rs r g (r ∷ g) ls f.1 (below_here r g) k.2))
    by false e rest =
        let other : (l.name == n) ≡ false = ap (λ z. z == n) k.0 ∙ e in
        let whole : is_whole n ls ≡ true = sym (ap (λ b. if b then l.whole else is_whole n ls) other) ∙ w in
        subst (λ b. Went (holds m r owned ∷ rs) g (l ∷ ls) (out (if b then Some r else spot n rs) g) (if l.name == n then loc n false ∷ ls else l ∷ moved n ls)) (sym e)
        (subst (λ b. Went (holds m r owned ∷ rs) g (l ∷ ls) (out (spot n rs) g) (if b then loc n false ∷ ls else l ∷ moved n ls)) (sym other)
        (k.0, k.0, λ z. z, out_above (spot n rs) r g (spot_below rs r n f.1) ∙ still_there l.whole (is_gone r g) k.1, rest whole))

-- ---- scopes and their rows

abbrev pub register_in : Option Entry → Option ℕ
register_in None = None
register_in (Some x) = Some x.register

find_spot : (n : ℕ) (s : Scope) → register_in (find n s) ≡ spot n (rows s)
find_spot n [] = refl
find_spot n (x ∷ s) = by x.name (find_spot n s)
  where
    chosen : (b : Bool) → register_in (find n s) ≡ spot n (rows s) → register_in (if b then Some x else find n s) ≡ (if b then Some x.register else spot n (rows s))
    chosen true rest = refl
    chosen false rest = rest

    by : (o : Option ℕ) → register_in (find n s) ≡ spot n (rows s) → register_in (if has_name n o then Some x else find n s) ≡ spot n (row o x.register x.owned ∷ rows s)
    by None rest = rest
    by (Some m) rest = chosen (m == n) rest

moved_register : (o : Option Entry) (g : Gone) → moved_out o g ≡ out (register_in o) g
moved_register None g = refl
moved_register (Some x) g = refl

pub goes_out : (s : Scope) (h n : ℕ) (g : Gone) (ls : Locals) → Falls h (rows s) → Kept (rows s) g ls → is_whole n ls ≡ true → Went (rows s) g ls (moved_out (find n s) g) (moved n ls)
goes_out s h n g ls f k w =
    subst (λ z. Went (rows s) g ls z (moved n ls)) (sym (moved_register (find n s) g ∙ ap (λ o. out o g) (find_spot n s))) (went_out (rows s) h n g ls f k w)

-- ---- ways that moved the same

alike_at : (m n : ℕ) (b c : Bool) (ls ms : Locals) → are_alike (record { name = m; whole = b } ∷ ls) (record { name = n; whole = c } ∷ ms) ≡ true → (b ≡ c) × (are_alike ls ms ≡ true)
alike_at m n true true ls ms e = (refl, e)
alike_at m n true false ls ms e = absurd (cc)
alike_at m n false true ls ms e = absurd (cc)
alike_at m n false false ls ms e = (refl, e)

alike_parts : (l m : Local) (ls ms : Locals) → are_alike (l ∷ ls) (m ∷ ms) ≡ true → (l.whole ≡ m.whole) × (are_alike ls ms ≡ true)
alike_parts l m ls ms e = alike_at l.name m.name l.whole m.whole ls ms e

alike_of : (m n : ℕ) (b c : Bool) (ls ms : Locals) → b ≡ c → are_alike ls ms ≡ true → are_alike (record { name = m; whole = b } ∷ ls) (record { name = n; whole = c } ∷ ms) ≡ true
alike_of m n true true ls ms e r = r
alike_of m n true false ls ms e r = absurd (cc)
alike_of m n false true ls ms e r = absurd (cc)
alike_of m n false false ls ms e r = r

pub alike_both : (ls ms ns : Locals) → are_alike ls ms ≡ true → are_alike ls ns ≡ true → are_alike ms ns ≡ true
alike_both [] [] [] a b = refl
alike_both [] [] (n ∷ ns) a b = absurd (cc)
alike_both [] (m ∷ ms) ns a b = absurd (cc)
alike_both (l ∷ ls) [] ns a b = absurd (cc)
alike_both (l ∷ ls) (m ∷ ms) [] a b = absurd (cc)
alike_both (l ∷ ls) (m ∷ ms) (n ∷ ns) a b =
    let x = alike_parts l m ls ms a in
    let y = alike_parts l n ls ns b in
    alike_of m.name n.name m.whole n.whole ms ns (sym x.0 ∙ y.0) (alike_both ls ms ns x.1 y.1)

pub alike_itself : (ls : Locals) → are_alike ls ls ≡ true
alike_itself [] = refl
alike_itself (l ∷ ls) = alike_of l.name l.name l.whole l.whole ls ls refl (alike_itself ls)

-- what is alike a part's end is one
pub went_alike : (rs : List Row) (g g' : Gone) (ls ms ns : Locals) (z : Gone) → Went rs g ls g' ms → Fell rs ls z ns → are_alike ns ms ≡ true → Went rs g ls g' ns
went_alike [] g g' [] [] [] z k f a = tt
went_alike [] g g' [] [] (n ∷ ns) z k f a = absurd f
went_alike [] g g' [] (m ∷ ms) ns z k f a = absurd k
went_alike [] g g' (l ∷ ls) ms ns z k f a = absurd k
went_alike (waits r ∷ rs) g g' ls ms ns z k f a = (k.0, went_alike rs g g' ls ms ns z k.1 f a)
went_alike (holds x r owned ∷ rs) g g' (l ∷ ls) (m ∷ ms) (n ∷ ns) z k f a =
    let p = alike_parts n m ns ms a in
    (k.0, f.1, f.2, k.3 ∙ ap (λ b. if l.whole then not b else is_gone r g) (sym p.0), went_alike rs g g' ls ms ns z k.4 f.4 p.1)
went_alike (holds x r owned ∷ rs) g g' [] ms ns z k f a = absurd k
went_alike (holds x r owned ∷ rs) g g' (l ∷ ls) [] ns z k f a = absurd k
went_alike (holds x r owned ∷ rs) g g' (l ∷ ls) (m ∷ ms) [] z k f a = absurd f

abbrev same_rows : List Row → Gone → Gone → Bool
same_rows [] g g' = true
same_rows (x ∷ rs) g g' = same_truth (is_gone (place x) g) (is_gone (place x) g') && same_rows rs g g'

pub truth_itself : (b c : Bool) → b ≡ c → same_truth b c ≡ true
truth_itself true true e = refl
truth_itself true false e = absurd (cc)
truth_itself false true e = absurd (cc)
truth_itself false false e = refl

pub both_true : (a b : Bool) → a ≡ true → b ≡ true → (a && b) ≡ true
both_true true b e f = f
both_true false b e f = e

went_rows : (rs : List Row) (g g1 g2 : Gone) (ls ms ns : Locals) → Went rs g ls g1 ms → Went rs g ls g2 ns → are_alike ms ns ≡ true → same_rows rs g1 g2 ≡ true
went_rows [] g g1 g2 ls ms ns j k a = refl
went_rows (waits r ∷ rs) g g1 g2 ls ms ns j k a = both_true (same_truth (is_gone r g1) (is_gone r g2)) (same_rows rs g1 g2) (truth_itself (is_gone r g1) (is_gone r g2) (j.0 ∙ sym k.0)) (went_rows rs g g1 g2 ls ms ns j.1 k.1 a)
went_rows (holds x r owned ∷ rs) g g1 g2 (l ∷ ls) (m ∷ ms) (n ∷ ns) j k a =
    let p = alike_parts m n ms ns a in
    both_true (same_truth (is_gone r g1) (is_gone r g2)) (same_rows rs g1 g2) (truth_itself (is_gone r g1) (is_gone r g2) (j.3 ∙ ap (λ b. if l.whole then not b else is_gone r g) p.0 ∙ sym k.3)) (went_rows rs g g1 g2 ls ms ns j.4 k.4 p.1)
went_rows (holds x r owned ∷ rs) g g1 g2 [] ms ns j k a = absurd j
went_rows (holds x r owned ∷ rs) g g1 g2 (l ∷ ls) [] ns j k a = absurd j
went_rows (holds x r owned ∷ rs) g g1 g2 (l ∷ ls) (m ∷ ms) [] j k a = absurd k

place_row : (o : Option ℕ) (r : ℕ) (owned : Bool) → place (row o r owned) ≡ r
place_row None r owned = refl
place_row (Some n) r owned = refl

rows_gone : (s : Scope) (g g' : Gone) → same_rows (rows s) g g' ≡ same_gone s g g'
rows_gone [] g g' = refl
rows_gone (x ∷ s) g g' =
    ap (λ r. same_truth (is_gone r g) (is_gone r g') && same_rows (rows s) g g') (place_row x.name x.register x.owned)
    ∙ ap (λ b. same_truth (is_gone x.register g) (is_gone x.register g') && b) (rows_gone s g g')

pub went_gone : (s : Scope) (g g1 g2 : Gone) (ls ms ns : Locals) → Went (rows s) g ls g1 ms → Went (rows s) g ls g2 ns → are_alike ms ns ≡ true → same_gone s g1 g2 ≡ true
went_gone s g g1 g2 ls ms ns j k a = sym (rows_gone s g1 g2) ∙ went_rows (rows s) g g1 g2 ls ms ns j k a
