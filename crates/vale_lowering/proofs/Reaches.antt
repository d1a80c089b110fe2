-- The run of a part of the code against a result of the meaning.
use Rattle.std.proofs.Common.{◌≡◌, ℕ, zero, suc, ◌+◌, ◌<◌, ◌≤◌, List, [], ◌∷◌, ◌++◌, length, Option, Some, None, Bool, true, false, ◌||◌, nat_lt, refl, sym, ap, ◌∙◌, subst, ◌⊎◌, inl, inr, arith}
use Rattle.std.specs.Prelude.{slice_get}
use Rattle.vale_state_spec.specs.Outcome.{End, Done, Cut, Wrong}
use Rattle.vale_state_spec.specs.State.{State, Calls, Answer, gives, traps, fails, spend, spend_of, trap_under}
use Rattle.vale_state_spec.specs.World.{Value, Int, Truth, Text, Own, Ref, Iso}
use Rattle.vale_base.specs.declared.spot.Spot.{Spot}
use Rattle.vale_base.specs.declared.trap.FrameAt.{FrameAt}
use Rattle.vale_model.specs.Runs as model
use Rattle.vale_model.specs.Runs.{Locals, Result, goes, returned, ended, Run, then_do, the_value, valued, choose, ◌>>=◌, tick}
use Rattle.vale_code.specs.Act.{act, act_if}
use Rattle.vale_code.specs.Enter.{with_func, with_form, form_of, leave_function}
use Rattle.vale_code.specs.Frames.{Active, Frame, Running, Config, Next, On, Over, under, leave, resume, after_tick}
use Rattle.vale_code.specs.Instructions as steps
use Rattle.vale_code.specs.Frames as frames
use Rattle.vale_code.specs.Instructions.{fetch, is_tick, is_free, jump_by, jump_unless, onward, with_truth, with_value, at_place}
use Rattle.vale_code.specs.Parts.{Parts}
use Rattle.vale_code.specs.Registers.{Registers, read, put}
use Rattle.vale_code.specs.Run.{then_go, exec, last_state}
use Rattle.vale_code.specs.declared.func.Func.{Func}
use Rattle.vale_code.specs.declared.instr.Instr.{Instr}
use Rattle.vale_code.specs.declared.instr.Instr.TheVariants as i
use Rattle.vale_lowering.specs.Instructions.{stuck, only_if}
use Rattle.vale_lowering.specs.Scopes.{Scope}
use Rattle.vale_lowering.proofs.Registers.{IsPlain, ArePlain, Base, with_at, with_all, Falls, Agrees, agrees_put}

-- what stays the same while a function runs: its call and number, where its value goes, the frames below, and whether it gives one
pub record Where : Type 0 where
  pub call : FrameAt
  pub function : ℕ
  pub dest : Option ℕ
  pub below : List Frame
  pub gives : Bool

abbrev pub active : Where → ℕ → Registers → Active
active k p regs = record { call = k.call; function = k.function; dest = k.dest; place = p; registers = regs }

abbrev pub conf : Where → ℕ → Registers → State → Config
conf k p regs w = record { top = Running (active k p regs); below = k.below; state = w }

abbrev pub calls_in : Where → Calls
calls_in k = k.call ∷ under k.below

-- the function is there, and is a plain one
pub record IsIn (code : Parts) (k : Where) : Type 0 where
  pub func : Func
  pub here : slice_get code.funcs k.function ≡ Some func
  pub plain : func.form ≡ 0

-- from c the code comes to d
pub record Comes (code : Parts) (c d : Config) : Type 0 where
  pub by : (n : ℕ) → (m : ℕ) × (exec code m c ≡ exec code n d)

-- the run from c is over
abbrev pub Stops : Parts → Config → End → State → Type 0
Stops code c e w = (m : ℕ) × (v : Option Value) × (exec code m c ≡ Some (record { end = e; value = v; state = w }))

abbrev pub GoesWrong : Parts → Config → Type 0
GoesWrong code c = (w : State) × Stops code c Wrong w

-- what holds of what a part gives, the locals and the registers, where it has run
abbrev pub Post : Type 0 → Type 1
Post A = A → Locals → Registers → Type 0

-- a value where one is given, and none where none is
abbrev pub Fits : Bool → Option Value → Type 0
Fits true None = ⊥
Fits true (Some v) = IsPlain v
Fits false None = Unit {0}
Fits false (Some v) = ⊥

-- the function gives its value to the frame below
abbrev pub Leaves : Parts → List Frame → Option ℕ → Config → Option Value → State → Type 0
Leaves code [] to c v w = Stops code c Done w
Leaves code (f ∷ below) to c v w = Comes code c (record { top = resume to v f; below = below; state = w })

-- the run of a part from c follows a result of the meaning, and where that goes on it comes to the place p; n bounds the ticks left
abbrev pub Reached : {A : Type 0} → Parts → Where → ℕ → ℕ → Post A → Config → Result A → Type 0
Reached code k n p post c (goes v l w) = (regs : Registers) × Comes code c (conf k p regs w) × post v l regs × (w.left ≤ n)
Reached code k n p post c (returned v w) = Leaves code k.below k.dest c v w × Fits k.gives v × (w.left ≤ n)
Reached code k n p post c (ended e w) = Stops code c e w

-- it does, unless it goes wrong
abbrev pub Reaches : {A : Type 0} → Parts → Where → ℕ → ℕ → Post A → Config → Result A → Type 0
Reaches code k n p post c r = GoesWrong code c ⊎ Reached code k n p post c r

-- the same, of what an instruction leads to
abbrev pub NextReaches : {A : Type 0} → Parts → Where → ℕ → ℕ → Post A → Next → Result A → Type 0
NextReaches code k n p post (On c) r = Reaches code k n p post c r
NextReaches code k n p post (Over e v w) r = (e ≡ Wrong) ⊎ (r ≡ ended e w)

abbrev pub HasAt : Parts → ℕ → ℕ → List Instr → Type 0
HasAt code f p [] = Unit {0}
HasAt code f p (i ∷ is) = (fetch code f p ≡ Some i) × HasAt code f (p + 1) is

-- a step that fits: its value is plain, and no ticks come
abbrev pub StepFits : Bool → State → Answer → Type 0
StepFits b w (gives v u) = Fits b v × (u.left ≤ w.left)
StepFits b w (traps kind) = Unit {0}
StepFits b w fails = Unit {0}

-- ---- what holds after a part

-- a value that is used stands in register h
abbrev pub Val : ℕ → Scope → Base → Post Value
Val h s base v l regs = IsPlain v × Agrees (h + 1) s l (with_at h (Some v) base) regs

-- an expression's value does, where it has one
abbrev pub In : Bool → ℕ → Scope → Base → Post (Option Value)
In true h s base None l regs = ⊥
In true h s base (Some v) l regs = Val h s base v l regs
In false h s base None l regs = Agrees h s l base regs
In false h s base (Some v) l regs = ⊥

-- a block's value goes to register d, below h
abbrev pub Put : Bool → ℕ → ℕ → Scope → Base → Post (Option Value)
Put true d h s base None l regs = ⊥
Put true d h s base (Some v) l regs = IsPlain v × Agrees h s l (with_at d (Some v) base) regs
Put false d h s base None l regs = Agrees h s l base regs
Put false d h s base (Some v) l regs = ⊥

-- a statement's value goes nowhere
abbrev pub Keeps : {A : Type 0} → ℕ → Scope → Base → Post A
Keeps h s base v l regs = Agrees h s l base regs

-- values stand from h on
abbrev pub All : ℕ → ℕ → Scope → Base → Post (List Value)
All many h s base vs l regs = ArePlain vs × (length vs ≡ many) × Agrees (h + many) s l (with_all h vs base) regs

module _ (code : Parts) (f : ℕ) where
  pub has_front : (a b : List Instr) (p : ℕ) → HasAt code f p (a ++ b) → HasAt code f p a
  has_front [] b p h = tt
  has_front (i ∷ a) b p h = (h.0, has_front a b (p + 1) h.1)

  pub has_back : (a b : List Instr) (p : ℕ) → HasAt code f p (a ++ b) → HasAt code f (p + length a) b
  has_back [] b p h = let e : p ≡ p + 0 = omega arith in subst (λ n. HasAt code f n b) e h
  has_back (i ∷ a) b p h =
      let e : p + 1 + length a ≡ p + length (i ∷ a) = omega arith in
      subst (λ n. HasAt code f n b) e (has_back a b (p + 1) h.1)

-- ---- ways

pub comes_refl : (code : Parts) (c : Config) → Comes code c c
comes_refl code c = record { by = λ m. (m, refl) }

pub comes_on : (code : Parts) (c c1 c2 : Config) → Comes code c c1 → Comes code c1 c2 → Comes code c c2
comes_on code c c1 c2 a b = record { by = λ m. let y = b.by m in let x = a.by y.0 in (x.0, x.1 ∙ y.1) }

pub comes_stops : (code : Parts) (c d : Config) (e : End) (w : State) → Comes code c d → Stops code d e w → Stops code c e w
comes_stops code c d e w a b = let x = a.by b.0 in (x.0, b.1, x.1 ∙ b.2)

pub comes_leaves : (code : Parts) (below : List Frame) (to : Option ℕ) (c d : Config) (v : Option Value) (w : State) → Comes code c d → Leaves code below to d v w → Leaves code below to c v w
comes_leaves code [] to c d v w a b = comes_stops code c d Done w a b
comes_leaves code (f ∷ below) to c d v w a b = comes_on code c d _ a b

module _ (code : Parts) (k : Where) (n : ℕ) where
  -- what an instruction does here
  abbrev pub does : ℕ → Registers → State → Instr → Next
  does p regs w x = act code (last_state code) (active k p regs) k.below w x

  one : (p : ℕ) (regs : Registers) (w : State) (x : Instr) → fetch code k.function p ≡ Some x → (m : ℕ) → exec code (suc m) (conf k p regs w) ≡ then_go (does p regs w x) (exec code m)
  one p regs w x e m = ap (λ o. then_go (act_if code (last_state code) (active k p regs) k.below w o) (exec code m)) e

  -- an instruction that goes on
  pub moves : (p : ℕ) (regs : Registers) (w : State) (x : Instr) (d : Config) → fetch code k.function p ≡ Some x → does p regs w x ≡ On d → Comes code (conf k p regs w) d
  moves p regs w x d e a = record { by = λ m. (suc m, one p regs w x e m ∙ ap (λ y. then_go y (exec code m)) a) }

  -- an instruction that ends the run
  pub stops : (p : ℕ) (regs : Registers) (w u : State) (x : Instr) (o : End) (v : Option Value) → fetch code k.function p ≡ Some x → does p regs w x ≡ Over o v u → Stops code (conf k p regs w) o u
  stops p regs w u x o v e a = (1, v, one p regs w x e 0 ∙ ap (λ y. then_go y (exec code 0)) a)

  pub wrongs : {A : Type 0} (p q : ℕ) (post : Post A) (regs : Registers) (w : State) (x : Instr) (r : Result A) (u : State) (v : Option Value) → fetch code k.function p ≡ Some x → does p regs w x ≡ Over Wrong v u → Reaches code k n q post (conf k p regs w) r
  wrongs p q post regs w x r u v e a = inl (u, stops p regs w u x Wrong v e a)

  comes_reached : {A : Type 0} (p : ℕ) (post : Post A) (c d : Config) (r : Result A) → Comes code c d → Reached code k n p post d r → Reached code k n p post c r
  comes_reached p post c d (goes v l w) a b = (b.0, comes_on code c d _ a b.1, b.2, b.3)
  comes_reached p post c d (returned v w) a b = (comes_leaves code k.below k.dest c d v w a b.0, b.1, b.2)
  comes_reached p post c d (ended e w) a b = comes_stops code c d e w a b

  pub comes_reaches : {A : Type 0} (p : ℕ) (post : Post A) (c d : Config) (r : Result A) → Comes code c d → Reaches code k n p post d r → Reaches code k n p post c r
  comes_reaches p post c d r a (inl (w, s)) = inl (w, comes_stops code c d Wrong w a s)
  comes_reaches p post c d r a (inr b) = inr (comes_reached p post c d r a b)

  -- an instruction, by what it leads to
  pub by_next : {A : Type 0} (p q : ℕ) (post : Post A) (regs : Registers) (w : State) (x : Instr) (next : Next) (r : Result A) → fetch code k.function p ≡ Some x → does p regs w x ≡ next → NextReaches code k n q post next r → Reaches code k n q post (conf k p regs w) r
  by_next p q post regs w x (On c) r e a b = comes_reaches q post _ c r (moves p regs w x c e a) b
  by_next p q post regs w x (Over o v u) r e a (inl is) = inl (u, subst (λ y. Stops code (conf k p regs w) y u) is (stops p regs w u x o v e a))
  by_next p q post regs w x (Over o v u) r e a (inr is) = inr (subst (Reached code k n q post (conf k p regs w)) (sym is) (stops p regs w u x o v e a))

  -- one part after another
  then_reached : {A B : Type 0} (p q : ℕ) (post : Post A) (post' : Post B) (c : Config) (r : Result A) (go : A → Locals → State → Result B) → Reached code k n p post c r → ((v : A) (l : Locals) (w : State) (regs : Registers) → post v l regs → w.left ≤ n → Reaches code k n q post' (conf k p regs w) (go v l w)) → Reaches code k n q post' c (then_do r go)
  then_reached p q post post' c (goes v l w) go a b = comes_reaches q post' c _ (go v l w) a.1 (b v l w a.0 a.2 a.3)
  then_reached p q post post' c (returned v w) go a b = inr a
  then_reached p q post post' c (ended e w) go a b = inr a

  pub then_reaches : {A B : Type 0} (p q : ℕ) (post : Post A) (post' : Post B) (c : Config) (r : Result A) (go : A → Locals → State → Result B) → Reaches code k n p post c r → ((v : A) (l : Locals) (w : State) (regs : Registers) → post v l regs → w.left ≤ n → Reaches code k n q post' (conf k p regs w) (go v l w)) → Reaches code k n q post' c (then_do r go)
  then_reaches p q post post' c r go (inl x) b = inl x
  then_reaches p q post post' c r go (inr a) b = then_reached p q post post' c r go a b

  -- the place at the end, under another name
  pub ends_at : {A : Type 0} (p q : ℕ) (post : Post A) (c : Config) (r : Result A) → p ≡ q → Reaches code k n p post c r → Reaches code k n q post c r
  ends_at p q post c r e a = subst (λ m. Reaches code k n m post c r) e a

  -- another claim where the part has run
  weaker_claim : {A : Type 0} (p : ℕ) (post post' : Post A) (c : Config) (r : Result A) → ((v : A) (l : Locals) (regs : Registers) → post v l regs → post' v l regs) → Reached code k n p post c r → Reached code k n p post' c r
  weaker_claim p post post' c (goes v l w) f a = (a.0, a.1, f v l a.0 a.2, a.3)
  weaker_claim p post post' c (returned v w) f a = a
  weaker_claim p post post' c (ended e w) f a = a

  pub weaker : {A : Type 0} (p : ℕ) (post post' : Post A) (c : Config) (r : Result A) → ((v : A) (l : Locals) (regs : Registers) → post v l regs → post' v l regs) → Reaches code k n p post c r → Reaches code k n p post' c r
  weaker p post post' c r f (inl x) = inl x
  weaker p post post' c r f (inr a) = inr (weaker_claim p post post' c r f a)

  -- a part that goes on where it is
  pub stays : {A : Type 0} (p : ℕ) (post : Post A) (v : A) (l : Locals) (regs : Registers) (w : State) → post v l regs → w.left ≤ n → Reaches code k n p post (conf k p regs w) (goes v l w)
  stays p post v l regs w a few = inr (regs, comes_refl code (conf k p regs w), a, few)

  -- ---- stuck code

  pub is_stuck : {A : Type 0} (p q h : ℕ) (post : Post A) (regs : Registers) (w : State) (r : Result A) → HasAt code k.function p (stuck h) → Reaches code k n q post (conf k p regs w) r
  is_stuck p q h post regs w r has = wrongs p q post regs w (i.Truth h 2) r w None has.0 refl

  pub only_if_runs : {A : Type 0} (b : Bool) (h p : ℕ) (cs : List Instr) (post : Post A) (regs : Registers) (w : State) (r : Result A) → HasAt code k.function p (only_if b h cs) → (b ≡ true → HasAt code k.function p cs → Reaches code k n (p + length cs) post (conf k p regs w) r) → Reaches code k n (p + length (only_if b h cs)) post (conf k p regs w) r
  only_if_runs true h p cs post regs w r has go = go refl has
  only_if_runs false h p cs post regs w r has go = is_stuck p _ h post regs w r has

  -- ---- values

  -- the value of a part that gives one
  pub values : (p h : ℕ) (s : Scope) (base : Base) (c : Config) (r : Result (Option Value)) → Reaches code k n p (In true h s base) c r → Reaches code k n p (Val h s base) c (then_do r (λ v. the_value v (calls_in k)))
  values p h s base c r a = then_reaches p p (In true h s base) (Val h s base) c r _ a by
    where
      by : (v : Option Value) (l : Locals) (w : State) (regs : Registers) → In true h s base v l regs → w.left ≤ n → Reaches code k n p (Val h s base) (conf k p regs w) (the_value v (calls_in k) l w)
      by None l w regs x few = absurd x
      by (Some v) l w regs x few = stays p (Val h s base) v l regs w x few

  -- an instruction that answers with a value
  pub answers : (p h m : ℕ) (s : Scope) (base base' : Base) (l : Locals) (regs : Registers) (w : State) (x : Instr) (at : Spot) (a : Answer) → Falls h s → ((r : ℕ) → r < h → base' r ≡ base r) → h ≤ m → Agrees m s l base' regs → w.left ≤ n → StepFits true w a → fetch code k.function p ≡ Some x → does p regs w x ≡ steps.answered (active k p regs) (Some h) regs at k.below w a → Reaches code k n (p + 1) (In true h s base) (conf k p regs w) (model.answered at a (calls_in k) l w)
  answers p h m s base base' l regs w x at (gives None u) fa same le ag few fit e a = absurd fit.0
  answers p h m s base base' l regs w x at (gives (Some v) u) fa same le ag few fit e a =
      inr (put regs h (Some v), moves p regs w x _ e a, (fit.0, agrees_put s l base base' h m (Some v) regs fa le same ag), omega (arith, few, fit.1))
  answers p h m s base base' l regs w x at (traps t) fa same le ag few fit e a = inr (stops p regs w w x _ None e a)
  answers p h m s base base' l regs w x at fails fa same le ag few fit e a = wrongs p (p + 1) (In true h s base) regs w x (ended Wrong w) w None e a

  -- one that has no trap
  pub surely : (p h m : ℕ) (s : Scope) (base base' : Base) (l : Locals) (regs : Registers) (w : State) (x : Instr) (at : Spot) (a : Answer) → Falls h s → ((r : ℕ) → r < h → base' r ≡ base r) → h ≤ m → Agrees m s l base' regs → w.left ≤ n → StepFits true w a → fetch code k.function p ≡ Some x → does p regs w x ≡ steps.certain (active k p regs) (Some h) regs k.below w a → Reaches code k n (p + 1) (In true h s base) (conf k p regs w) (model.answered at a (calls_in k) l w)
  surely p h m s base base' l regs w x at (gives None u) fa same le ag few fit e a = absurd fit.0
  surely p h m s base base' l regs w x at (gives (Some v) u) fa same le ag few fit e a =
      inr (put regs h (Some v), moves p regs w x _ e a, (fit.0, agrees_put s l base base' h m (Some v) regs fa le same ag), omega (arith, few, fit.1))
  surely p h m s base base' l regs w x at (traps t) fa same le ag few fit e a = wrongs p (p + 1) (In true h s base) regs w x (ended (trap_under t at (calls_in k)) w) w None e a
  surely p h m s base base' l regs w x at fails fa same le ag few fit e a = wrongs p (p + 1) (In true h s base) regs w x (ended Wrong w) w None e a

  -- one that gives nothing
  pub surely_nothing : (p h m : ℕ) (s : Scope) (base : Base) (l : Locals) (regs : Registers) (w : State) (x : Instr) (at : Spot) (a : Answer) → Agrees h s l base regs → w.left ≤ n → StepFits false w a → fetch code k.function p ≡ Some x → does p regs w x ≡ steps.certain (active k p regs) None regs k.below w a → Reaches code k n (p + 1) (In false h s base) (conf k p regs w) (model.answered at a (calls_in k) l w)
  surely_nothing p h m s base l regs w x at (gives None u) ag few fit e a = inr (regs, moves p regs w x _ e a, ag, omega (arith, few, fit.1))
  surely_nothing p h m s base l regs w x at (gives (Some v) u) ag few fit e a = absurd fit.0
  surely_nothing p h m s base l regs w x at (traps t) ag few fit e a = wrongs p (p + 1) (In false h s base) regs w x (ended (trap_under t at (calls_in k)) w) w None e a
  surely_nothing p h m s base l regs w x at fails ag few fit e a = wrongs p (p + 1) (In false h s base) regs w x (ended Wrong w) w None e a

  -- a value from nowhere, or from another register
  pub literal : (p h m : ℕ) (s : Scope) (base base' : Base) (l : Locals) (regs : Registers) (w : State) (x : Instr) (v : Value) → Falls h s → ((r : ℕ) → r < h → base' r ≡ base r) → h ≤ m → Agrees m s l base' regs → w.left ≤ n → IsPlain v → fetch code k.function p ≡ Some x → does p regs w x ≡ onward (active k p regs) (put regs h (Some v)) k.below w → Reaches code k n (p + 1) (In true h s base) (conf k p regs w) (goes (Some v) l w)
  literal p h m s base base' l regs w x v fa same le ag few pv e a =
      inr (put regs h (Some v), moves p regs w x _ e a, (pv, agrees_put s l base base' h m (Some v) regs fa le same ag), few)

  -- ---- jumps

  pub free_on : (from to : ℕ) (regs : Registers) → from < to → is_free code (active k from regs) to ≡ true
  free_on from to regs lt = let e : nat_lt from to ≡ true = grind (arith) in ap (λ b. b || is_tick (fetch code k.function to)) e

  pub free_back : (from to : ℕ) (regs : Registers) → fetch code k.function to ≡ Some i.Tick → is_free code (active k from regs) to ≡ true
  free_back from to regs e = ap (λ o. nat_lt from to || is_tick o) e ∙ or_true (nat_lt from to)
    where
      or_true : (b : Bool) → (b || true) ≡ true
      or_true true = refl
      or_true false = refl

  -- a jump that is free
  pub jumps : (p q : ℕ) (regs : Registers) (w : State) → fetch code k.function p ≡ Some (i.Jump q) → is_free code (active k p regs) q ≡ true → Comes code (conf k p regs w) (conf k q regs w)
  jumps p q regs w e free = moves p regs w (i.Jump q) (conf k q regs w) e (ap (λ b. jump_by b (active k p regs) q k.below w) free)

  jumps_from : {A : Type 0} (p q : ℕ) (post : Post A) (c : Config) (r : Result A) → fetch code k.function p ≡ Some (i.Jump q) → p < q → Reached code k n p post c r → Reached code k n q post c r
  jumps_from p q post c (goes v l w) e lt a = (a.0, comes_on code c (conf k p a.0 w) (conf k q a.0 w) a.1 (jumps p q a.0 w e (free_on p q a.0 lt)), a.2, a.3)
  jumps_from p q post c (returned v w) e lt a = a
  jumps_from p q post c (ended o w) e lt a = a

  pub jumps_on : {A : Type 0} (p q : ℕ) (post : Post A) (c : Config) (r : Result A) → fetch code k.function p ≡ Some (i.Jump q) → p < q → Reaches code k n p post c r → Reaches code k n q post c r
  jumps_on p q post c r e lt (inl x) = inl x
  jumps_on p q post c r e lt (inr a) = inr (jumps_from p q post c r e lt a)

  -- a test and two sides
  pub chooses : {A : Type 0} (v : Value) (h other p q : ℕ) (post : Post A) (regs : Registers) (l : Locals) (w : State) (a b : Run A) → read regs h ≡ Some v → fetch code k.function p ≡ Some (i.Unless h other) → p < other → (v ≡ Truth true → Reaches code k n q post (conf k (p + 1) regs w) (a (calls_in k) l w)) → (v ≡ Truth false → Reaches code k n q post (conf k other regs w) (b (calls_in k) l w)) → Reaches code k n q post (conf k p regs w) (choose v a b (calls_in k) l w)
  chooses (Truth true) h other p q post regs l w a b e at lt ra rb =
      comes_reaches q post _ (conf k (p + 1) regs w) (a (calls_in k) l w) (moves p regs w (i.Unless h other) _ at (ap (λ o. with_truth o w (jump_unless code (active k p regs) other k.below w)) e)) (ra refl)
  chooses (Truth false) h other p q post regs l w a b e at lt ra rb =
      comes_reaches q post _ (conf k other regs w) (b (calls_in k) l w) (moves p regs w (i.Unless h other) _ at (ap (λ o. with_truth o w (jump_unless code (active k p regs) other k.below w)) e ∙ ap (λ x. jump_by x (active k p regs) other k.below w) (free_on p other regs lt))) (rb refl)
  chooses (Int m) h other p q post regs l w a b e at lt ra rb = wrongs p q post regs w (i.Unless h other) (ended Wrong w) w None at (ap (λ o. with_truth o w (jump_unless code (active k p regs) other k.below w)) e)
  chooses (Text t) h other p q post regs l w a b e at lt ra rb = wrongs p q post regs w (i.Unless h other) (ended Wrong w) w None at (ap (λ o. with_truth o w (jump_unless code (active k p regs) other k.below w)) e)
  chooses (Own m) h other p q post regs l w a b e at lt ra rb = wrongs p q post regs w (i.Unless h other) (ended Wrong w) w None at (ap (λ o. with_truth o w (jump_unless code (active k p regs) other k.below w)) e)
  chooses (Ref m) h other p q post regs l w a b e at lt ra rb = wrongs p q post regs w (i.Unless h other) (ended Wrong w) w None at (ap (λ o. with_truth o w (jump_unless code (active k p regs) other k.below w)) e)
  chooses (Iso m) h other p q post regs l w a b e at lt ra rb = wrongs p q post regs w (i.Unless h other) (ended Wrong w) w None at (ap (λ o. with_truth o w (jump_unless code (active k p regs) other k.below w)) e)

  -- a tick, and what goes on with one less
  pub ticks : {A : Type 0} (p q : ℕ) (post : Post A) (regs : Registers) (l : Locals) (w : State) (go : Run A) → fetch code k.function p ≡ Some i.Tick → w.left ≤ n → ((u : State) → u.left < n → Reaches code k n q post (conf k (p + 1) regs u) (go (calls_in k) l u)) → Reaches code k n q post (conf k p regs w) ((tick >>= (λ _. go)) (calls_in k) l w)
  ticks p q post regs l w go e few rest = by_left w.left refl
    where
      ticks_of : Option State → Next
      ticks_of o = frames.ticked o w (λ u. onward (active k p regs) regs k.below u)

      by_left : (m : ℕ) → w.left ≡ m → Reaches code k n q post (conf k p regs w) (then_do (model.ticked (spend w) (calls_in k) l w) (λ v. go (calls_in k)))
      by_left zero e' =
          let none : spend w ≡ None = ap (λ m. spend_of m w) e' in
          subst (λ o. Reaches code k n q post (conf k p regs w) (then_do (model.ticked o (calls_in k) l w) (λ v. go (calls_in k)))) (sym none)
          (inr (stops p regs w w i.Tick Cut None e (ap (λ o. ticks_of o) none)))
      by_left (suc m) e' =
          let u : State = record w { left = m; spent = w.spent + 1 } in
          let some : spend w ≡ Some u = ap (λ m. spend_of m w) e' in
          subst (λ o. Reaches code k n q post (conf k p regs w) (then_do (model.ticked o (calls_in k) l w) (λ v. go (calls_in k)))) (sym some)
          (comes_reaches q post _ (conf k (p + 1) regs u) (go (calls_in k) l u) (moves p regs w i.Tick _ e (ap (λ o. ticks_of o) some)) (rest u (omega arith)))

  -- ---- the end of a function

  gone : (w : State) (v : Option Value) (below : List Frame) → k.below ≡ below → (p : ℕ) (regs : Registers) (x : Instr) → fetch code k.function p ≡ Some x → does p regs w x ≡ leave below k.dest v w → Leaves code below k.dest (conf k p regs w) v w
  gone w v [] b p regs x e a = stops p regs w w x Done v e a
  gone w v (f ∷ below) b p regs x e a = moves p regs w x _ e a

  left_by : (v : Option Value) (w : State) → IsIn code k → with_func (slice_get code.funcs k.function) w (λ form func. leave_function form k.dest v k.below w) ≡ leave k.below k.dest v w
  left_by v w is = ap (λ o. with_func o w (λ form func. leave_function form k.dest v k.below w)) is.here ∙ ap (λ m. with_form (form_of m) is.func w (λ form func. leave_function form k.dest v k.below w)) is.plain

  pub leaves : (p h : ℕ) (regs : Registers) (w : State) (v : Value) → IsIn code k → fetch code k.function p ≡ Some (i.Ret h) → read regs h ≡ Some v → Leaves code k.below k.dest (conf k p regs w) (Some v) w
  leaves p h regs w v is e r = gone w (Some v) k.below refl p regs (i.Ret h) e (ap (λ o. with_value o w (λ v. with_func (slice_get code.funcs k.function) w (λ form func. leave_function form k.dest (Some v) k.below w))) r ∙ left_by (Some v) w is)

  pub leaves_void : (p : ℕ) (regs : Registers) (w : State) → IsIn code k → fetch code k.function p ≡ Some i.RetVoid → Leaves code k.below k.dest (conf k p regs w) None w
  leaves_void p regs w is e = gone w None k.below refl p regs i.RetVoid e (left_by None w is)
