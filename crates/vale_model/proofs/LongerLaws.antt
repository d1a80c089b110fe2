-- With more ticks left a part does the same, but where it is cut with fewer: there it goes on from what was printed.
use Rattle.std.proofs.Common.{◌≡◌, ℕ, zero, suc, ◌+◌, ◌≤◌, ◌<◌, ℤ, pos, List, ◌∷◌, ◌++◌, append_assoc, Option, Some, None, Bool, true, false, refl, sym, ap, ◌∙◌, subst, arith}
use Rattle.std.specs.Prelude.{if◌then◌else◌, ◌+ℤ◌}
use Rattle.vale_state_spec.specs.Outcome.{End, Done, Trap, Cut, Wrong}
use Rattle.vale_state_spec.specs.State.{State, Calls, Answer, gives, traps, fails, spend_of, has_depth, lent, freeze_iteration, thaw_iteration, RegionEnd, merged, kept, cleared}
use Rattle.vale_state_spec.specs.World.{Value, Int, Truth, Text, Own, Ref, Iso}
use Rattle.vale_base.specs.declared.piece.Piece.{Piece}
use Rattle.vale_base.specs.declared.spot.Spot.{Spot}
use Rattle.vale_base.specs.declared.trap.FrameAt.{FrameAt}
use Rattle.vale_base.specs.declared.trap.TrapKind.{TrapKind}
use Rattle.vale_base.specs.declared.trap.TrapKind.TheVariants.{CallDepth}
use Rattle.vale_model.specs.Runs.{Locals, Result, goes, returned, ended, Run, then_do, ◌>>=◌, give, nothing, wrong, trap, answered, step, change, ticked, tick, deep, under, the_value, valued, choose, held_by, with_held, read, move, exchange, outer, while_waits}
use Rattle.vale_model.specs.Loops.{number_in, turns, state_in}
use Rattle.vale_text.specs.Progress.{Progresses, Begins}
use Rattle.vale_model.specs.Progress.{GoesOn, AlwaysGoesOn}
use Rattle.vale_model.proofs.RunLaws.{bind_goes, give_goes, nothing_goes, wrong_goes, trap_goes, tick_goes, deep_goes, under_goes, fewer_goes, read_goes, move_goes, exchange_goes, while_waits_goes}

-- ---- states that differ in what no rule looks at, and in the ticks left

pub record Beside : Type 0 where
  pub left : ℕ
  pub most : ℕ
  pub made : ℕ
  pub quiet : Bool

abbrev pub beside : State → Beside → State
beside s x = record s { left = x.left; most = x.most; made = x.made; quiet = x.quiet }

-- ---- results

abbrev pub EndLonger : {A : Type 0} → End → State → Result A → Type 0
EndLonger Cut s r = Begins s.pieces (state_in r).pieces
EndLonger end s r = (x : Beside) × (s.left ≤ x.left) × (r ≡ ended end (beside s x))

-- the second result is that of the run with more ticks left
abbrev pub Longer : {A : Type 0} → Result A → Result A → Type 0
Longer (goes v l s) r = (x : Beside) × (s.left ≤ x.left) × (r ≡ goes v l (beside s x))
Longer (returned v s) r = (x : Beside) × (s.left ≤ x.left) × (r ≡ returned v (beside s x))
Longer (ended end s) r = EndLonger end s r

-- the first part with fewer ticks left than the second; the second has fewer left than this
pub record AlwaysLonger {A : Type 0} (n : ℕ) (m m' : Run A) : Type 0 where
  pub goes_on : AlwaysGoesOn n m'
  pub longer : (calls : Calls) (l : Locals) (s : State) (x : Beside) → s.left ≤ x.left → x.left < n → Longer (m calls l s) (m' calls l (beside s x))

-- ---- one part after another

pieces_on : {A B : Type 0} (n : ℕ) (ps : List Piece) (r : Result A) (go : A → Locals → State → Result B) → (state_in r).left < n → ((v : A) (l : Locals) (t : State) → t.left < n → GoesOn t (go v l t)) → Begins ps (state_in r).pieces → Begins ps (state_in (then_do r go)).pieces
pieces_on n ps (goes v l t) go lt on b =
    let a = (on v l t lt).0 in
    (b.0 ++ a.printed, a.pieces ∙ ap (λ qs. qs ++ a.printed) b.1 ∙ append_assoc ps b.0 a.printed)
pieces_on n ps (returned v t) go lt on b = b
pieces_on n ps (ended end t) go lt on b = b

end_on : {A B : Type 0} (n : ℕ) (end : End) (s : State) (r' : Result A) (go' : A → Locals → State → Result B) → (state_in r').left < n → ((v : A) (l : Locals) (t : State) → t.left < n → GoesOn t (go' v l t)) → EndLonger end s r' → EndLonger end s (then_do r' go')
end_on n Cut s r' go' few on h = pieces_on n s.pieces r' go' few on h
end_on n Done s r' go' few on h = (h.0, h.1, ap (λ r. then_do r go') h.2)
end_on n (Trap t) s r' go' few on h = (h.0, h.1, ap (λ r. then_do r go') h.2)
end_on n Wrong s r' go' few on h = (h.0, h.1, ap (λ r. then_do r go') h.2)

pub then_longer : {A B : Type 0} (n : ℕ) (r r' : Result A) (go go' : A → Locals → State → Result B) → (state_in r').left < n → ((v : A) (l : Locals) (t : State) → t.left < n → GoesOn t (go' v l t)) →
    ((v : A) (l : Locals) (s : State) (x : Beside) → s.left ≤ x.left → x.left < n → Longer (go v l s) (go' v l (beside s x))) → Longer r r' → Longer (then_do r go) (then_do r' go')
then_longer n (goes v l s) r' go go' few on more h =
    let e = h.2 in
    let left : (state_in r').left ≡ h.0.left = ap (λ r. (state_in r).left) e in
    subst (λ r. Longer (go v l s) (then_do r go')) (sym e) (more v l s h.0 h.1 (omega (arith, few, left)))
then_longer n (returned v s) r' go go' few on more h = (h.0, h.1, ap (λ r. then_do r go') h.2)
then_longer n (ended end s) r' go go' few on more h = end_on n end s r' go' few on h

pub few_left : {A : Type 0} (n : ℕ) (s : State) (r : Result A) → s.left < n → GoesOn s r → (state_in r).left < n
few_left n s r lt h = let few = h.0.fewer in omega (arith, lt, few)

pub bind_longer : {A B : Type 0} (n : ℕ) (m m' : Run A) (k k' : A → Run B) → AlwaysLonger n m m' → ((v : A) → AlwaysLonger n (k v) (k' v)) → AlwaysLonger n (m >>= k) (m' >>= k')
bind_longer n m m' k k' a b = record {
  goes_on = bind_goes n m' k' a.goes_on (λ v. (b v).goes_on);
  longer = λ calls l s x le lt.
      then_longer n (m calls l s) (m' calls l (beside s x)) (λ v. k v calls) (λ v. k' v calls)
      (few_left n (beside s x) (m' calls l (beside s x)) lt (a.goes_on.from calls l (beside s x) lt))
      (λ v l t lt. (b v).goes_on.from calls l t lt) (λ v l s x le lt. (b v).longer calls l s x le lt) (a.longer calls l s x le lt);
}

-- ---- single steps

pub give_longer : {A : Type 0} (n : ℕ) (v : A) → AlwaysLonger n (give v) (give v)
give_longer n v = record { goes_on = give_goes n v; longer = λ calls l s x le lt. (x, le, refl) }

pub nothing_longer : (n : ℕ) → AlwaysLonger n nothing nothing
nothing_longer n = record { goes_on = nothing_goes n; longer = λ calls l s x le lt. (x, le, refl) }

pub wrong_longer : {A : Type 0} (n : ℕ) → AlwaysLonger {A = A} n wrong wrong
wrong_longer n = record { goes_on = wrong_goes n; longer = λ calls l s x le lt. (x, le, refl) }

pub trap_longer : {A : Type 0} (n : ℕ) (kind : TrapKind) (at : Spot) → AlwaysLonger {A = A} n (trap kind at) (trap kind at)
trap_longer n kind at = record { goes_on = trap_goes n kind at; longer = λ calls l s x le lt. (x, le, refl) }

-- what a step comes to, and what it comes to from a state beside it
abbrev pub StepLonger : Answer → Answer → Type 0
StepLonger (gives v t) a = (x : Beside) × (t.left ≤ x.left) × (a ≡ gives v (beside t x))
StepLonger (traps kind) a = a ≡ traps kind
StepLonger fails a = a ≡ fails

answered_longer : (at : Spot) (a b : Answer) (calls : Calls) (l : Locals) (s : State) (x : Beside) → s.left ≤ x.left → StepLonger a b → Longer (answered at a calls l s) (answered at b calls l (beside s x))
answered_longer at (gives v t) b calls l s x le h = (h.0, h.1, ap (λ b. answered at b calls l (beside s x)) h.2)
answered_longer at (traps kind) b calls l s x le h = (x, le, ap (λ b. answered at b calls l (beside s x)) h)
answered_longer at fails b calls l s x le h = (x, le, ap (λ b. answered at b calls l (beside s x)) h)

pub step_longer : (n : ℕ) (at : Spot) (f : State → Answer) → AlwaysGoesOn n (step at f) → ((s : State) (x : Beside) → s.left ≤ x.left → StepLonger (f s) (f (beside s x))) → AlwaysLonger n (step at f) (step at f)
step_longer n at f on h = record { goes_on = on; longer = λ calls l s x le lt. answered_longer at (f s) (f (beside s x)) calls l s x le (h s x le) }

-- a change that looks at nothing in which the states differ
abbrev pub ChangeLonger : (State → State) → Type 0
ChangeLonger f = (s : State) (x : Beside) → s.left ≤ x.left → (z : Beside) × ((f s).left ≤ z.left) × (f (beside s x) ≡ beside (f s) z)

pub change_longer : (n : ℕ) (f : State → State) → AlwaysGoesOn n (change f) → ChangeLonger f → AlwaysLonger n (change f) (change f)
change_longer n f on h = record { goes_on = on; longer = λ calls l s x le lt. let z = h s x le in (z.0, z.1, ap (λ t. goes (tt {0}) l t) z.2) }

pub tick_longer : {A : Type 0} (n : ℕ) (m m' : Run A) → AlwaysLonger n m m' → AlwaysLonger (suc n) (tick >>= (λ _. m)) (tick >>= (λ _. m'))
tick_longer n m m' h = record {
  goes_on = tick_goes n m' h.goes_on;
  longer = λ calls l s x le lt. by calls l s x lt s.left x.left le refl (((tick_goes n m' h.goes_on).from calls l (beside s x) lt).0);
}
  where
    by : (calls : Calls) (l : Locals) (s : State) (x : Beside) → x.left < suc n → (a b : ℕ) → a ≤ b → b ≡ x.left → Progresses (beside s x) (state_in (then_do (ticked (spend_of b (beside s x)) calls l (beside s x)) (λ v. m' calls))) →
        Longer (then_do (ticked (spend_of a s) calls l s) (λ v. m calls)) (then_do (ticked (spend_of b (beside s x)) calls l (beside s x)) (λ v. m' calls))
    by calls l s x lt zero b le e later = (later.printed, later.pieces)
    by calls l s x lt (suc a) zero le e later = absurd (omega (arith, le))
    by calls l s x lt (suc a) (suc b) le e later =
        h.longer calls l (record s { left = a; spent = s.spent + 1 }) (record x { left = b }) (omega (arith, le)) (omega (arith, lt, e))

pub deep_longer : (n more : ℕ) (at : Spot) → AlwaysLonger n (deep more at) (deep more at)
deep_longer n more at = record { goes_on = deep_goes n more at; longer = λ calls l s x le lt. by calls l s x le (has_depth more calls s) }
  where
    by : (calls : Calls) (l : Locals) (s : State) (x : Beside) → s.left ≤ x.left → (b : Bool) → Longer (if b then goes (tt {0}) l s else trap CallDepth at calls l s) (if b then goes (tt {0}) l (beside s x) else trap CallDepth at calls l (beside s x))
    by calls l s x le true = (x, le, refl)
    by calls l s x le false = (x, le, refl)

pub under_longer : {A : Type 0} (n : ℕ) (frame : FrameAt) {m m' : Run A} → AlwaysLonger n m m' → AlwaysLonger n (under frame m) (under frame m')
under_longer n frame {m} {m'} h = record { goes_on = under_goes n frame m' h.goes_on; longer = λ calls l s x le lt. h.longer (frame ∷ calls) l s x le lt }

pub fewer_longer : {A : Type 0} (n : ℕ) {m m' : Run A} → AlwaysLonger (suc n) m m' → AlwaysLonger n m m'
fewer_longer n {m} {m'} h = record { goes_on = fewer_goes n m' h.goes_on; longer = λ calls l s x le lt. h.longer calls l s x le (omega (arith, lt)) }

pub the_value_longer : (n : ℕ) (v : Option Value) → AlwaysLonger n (the_value v) (the_value v)
the_value_longer n None = wrong_longer n
the_value_longer n (Some v) = give_longer n v

pub valued_longer : (n : ℕ) {m m' : Run (Option Value)} → AlwaysLonger n m m' → AlwaysLonger n (valued m) (valued m')
valued_longer n {m} {m'} h = bind_longer n m m' the_value the_value h (the_value_longer n)

pub choose_longer : {A : Type 0} (n : ℕ) (v : Value) {a a' b b' : Run A} → AlwaysLonger n a a' → AlwaysLonger n b b' → AlwaysLonger n (choose v a b) (choose v a' b')
choose_longer n (Truth true) h k = h
choose_longer n (Truth false) h k = k
choose_longer n (Int z) h k = wrong_longer n
choose_longer n (Text t) h k = wrong_longer n
choose_longer n (Own m) h k = wrong_longer n
choose_longer n (Ref m) h k = wrong_longer n
choose_longer n (Iso m) h k = wrong_longer n

-- ---- locals

relocated_longer : {A B : Type 0} (n : ℕ) (calls : Calls) (l : Locals) (s : State) (x : Beside) {m m' : Run A} (f : A → B) (k : A → Locals → Locals) → s.left ≤ x.left → x.left < n → AlwaysLonger n m m' → Longer (then_do (m calls l s) (λ v l s. goes (f v) (k v l) s)) (then_do (m' calls l (beside s x)) (λ v l s. goes (f v) (k v l) s))
relocated_longer n calls l s x {m} {m'} f k le lt h =
    then_longer n (m calls l s) (m' calls l (beside s x)) _ _
    (few_left n (beside s x) (m' calls l (beside s x)) lt (h.goes_on.from calls l (beside s x) lt))
    (λ v l t lt. ((give_goes n (f v)).from calls (k v l) t lt)) (λ v l s x le lt. (x, le, refl)) (h.longer calls l s x le lt)

pub read_longer : (n name : ℕ) → AlwaysLonger n (read name) (read name)
read_longer n name = record { goes_on = read_goes n name; longer = λ calls l s x le lt. (bind_longer n (the_value (held_by name l)) (the_value (held_by name l)) (λ v. give (lent v)) (λ v. give (lent v)) (the_value_longer n (held_by name l)) (λ v. give_longer n (lent v))).longer calls l s x le lt }

pub move_longer : (n name : ℕ) → AlwaysLonger n (move name) (move name)
move_longer n name = record { goes_on = move_goes n name; longer = λ calls l s x le lt. relocated_longer n calls l s x (λ v. v) (λ v l. with_held name None l) le lt (the_value_longer n (held_by name l)) }

pub exchange_longer : (n name : ℕ) (new : Value) → AlwaysLonger n (exchange name new) (exchange name new)
exchange_longer n name new = record { goes_on = exchange_goes n name new; longer = λ calls l s x le lt. relocated_longer n calls l s x (λ v. v) (λ v l. with_held name (Some new) l) le lt (the_value_longer n (held_by name l)) }

pub while_waits_longer : {A : Type 0} (n : ℕ) (owned : Bool) (v : Value) {m m' : Run A} → AlwaysLonger n m m' → AlwaysLonger n (while_waits owned v m) (while_waits owned v m')
while_waits_longer n owned v {m} {m'} h = record { goes_on = while_waits_goes n owned v m' h.goes_on; longer = λ calls l s x le lt. relocated_longer n calls (record { name = None; value = Some v; owned = owned } ∷ l) s x (λ r. r) (λ r l. outer l) le lt h }

-- ---- loops

pub number_in_longer : (n : ℕ) (v : Value) → AlwaysLonger n (number_in v) (number_in v)
number_in_longer n (Int z) = give_longer n z
number_in_longer n (Truth b) = wrong_longer n
number_in_longer n (Text t) = wrong_longer n
number_in_longer n (Own m) = wrong_longer n
number_in_longer n (Ref m) = wrong_longer n
number_in_longer n (Iso m) = wrong_longer n

pub turns_longer : (n more : ℕ) (z : ℤ) (body body' : ℤ → Run (Option Value)) → ((z : ℤ) → AlwaysLonger (suc n) (body z) (body' z)) → AlwaysLonger (suc n) (turns more z body) (turns more z body')
turns_longer n zero z body body' h = nothing_longer (suc n)
turns_longer n (suc more) z body body' h =
    tick_longer n _ _
    (bind_longer n (body z) (body' z) _ _ (fewer_longer n (h z)) (λ v. fewer_longer n (turns_longer n more (z +ℤ pos 1) body body' h)))

pub freeze_iteration_changes : ChangeLonger freeze_iteration
freeze_iteration_changes s x le = (x, le, refl)

pub thaw_iteration_changes : (end : RegionEnd) → ChangeLonger (thaw_iteration end)
thaw_iteration_changes merged s x le = (x, le, refl)
thaw_iteration_changes (kept root) s x le = (x, le, refl)
thaw_iteration_changes cleared s x le = (x, le, refl)
