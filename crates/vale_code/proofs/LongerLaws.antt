-- A run with more ticks does the same, but where it is cut with fewer: there it goes on from what was printed.
use Rattle.std.proofs.Common.{◌≡◌, ◌≢◌, ℕ, zero, suc, ◌≤◌, List, [], ◌∷◌, append-nil, Option, Some, None, refl, sym, ap, ◌∙◌, subst}
use Rattle.vale_state_spec.specs.Outcome.{End, Done, Trap, Cut, Wrong, Outcome}
use Rattle.vale_state_spec.specs.State.{State, Given, given, begin, born, function_frame}
use Rattle.vale_state_spec.specs.World.{Value, Own, next_name}
use Rattle.vale_text.specs.Progress.{Begins, Progresses}
use Rattle.vale_code.proofs.Beside as side
use Rattle.vale_code.proofs.Beside.{Beside, beside}
use Rattle.vale_code.proofs.Ends.{run_ends, run_ends_once}
use Rattle.vale_code.proofs.LongerSteps as longer
use Rattle.vale_code.proofs.LongerSteps.{Longer, EndLonger, step_longer}
use Rattle.vale_code.proofs.RunLaws.{exec_later}
use Rattle.vale_code.specs.Enter.{Form, Plain, Pure, Iteration, Destructor, enter}
use Rattle.vale_code.specs.Frames.{Config, Next, On, Over}
use Rattle.vale_code.specs.Kinds.{text_at}
use Rattle.vale_code.specs.Parts.{Parts}
use Rattle.vale_code.specs.Run.{Ending, then_go, exec, step, first_spot, with_input, if_plain, start, ending_of, outcome_of, run_code}
use Rattle.vale_code.specs.declared.func.Func.{Func}
use Rattle.vale_code.specs.declared.ty.Ty.{Ty}
use Rattle.vale_code.specs.declared.ty.Ty.TheVariants as t

-- how a run that goes on from a step's outcome ends, where the run with fewer ticks ended so
abbrev GoesLonger : (ℕ → Option Ending) → End → Option Value → State → Type 0
GoesLonger more Cut v s = (m : ℕ) (g : Ending) → more m ≡ Some g → Begins s.pieces g.state.pieces
GoesLonger more end v s = (m : ℕ) × (y : Beside) × (more m ≡ Some (record { end = end; value = v; state = beside s y }))

module _ (code : Parts) where
  -- all that so many steps from a configuration may come to
  abbrev from : Config → ℕ → Option Ending
  from c m = exec code m c

  abbrev after : Next → ℕ → Option Ending
  after x m = then_go x (exec code m)

  -- a run that is over at once, where the longer one ends later than this state
  over_longer : (s0 : State) (end : End) (v : Option Value) (s : State) (x : Next) → EndLonger code s0.pieces end v s x
      → ((m : ℕ) (g : Ending) → after x m ≡ Some g → Begins s0.pieces g.state.pieces) → GoesLonger (after x) end v s
  over_longer s0 Cut v s x same on = λ m g e. subst (λ ps. Begins ps g.state.pieces) (sym same) (on m g e)
  over_longer s0 Done v s x h on = (0, h.0, ap (λ y. then_go y (exec code 0)) h.2)
  over_longer s0 (Trap info) v s x h on = (0, h.0, ap (λ y. then_go y (exec code 0)) h.2)
  over_longer s0 Wrong v s x h on = (0, h.0, ap (λ y. then_go y (exec code 0)) h.2)

  -- one step more before it
  step_before : (d : Config) (end : End) (v : Option Value) (s : State) (x : Next) → x ≡ On d → GoesLonger (from d) end v s → GoesLonger (after x) end v s
  step_before d Cut v s x is h = λ m g e. h m g (subst (λ y. then_go y (exec code m) ≡ Some g) is e)
  step_before d Done v s x is h = (h.0, h.1, ap (λ y. then_go y (exec code h.0)) is ∙ h.2)
  step_before d (Trap info) v s x is h = (h.0, h.1, ap (λ y. then_go y (exec code h.0)) is ∙ h.2)
  step_before d Wrong v s x is h = (h.0, h.1, ap (λ y. then_go y (exec code h.0)) is ∙ h.2)

  -- what holds after the first step holds of the whole
  as_run : (d : Config) (end : End) (v : Option Value) (s : State) → GoesLonger (after (step code d)) end v s → GoesLonger (from d) end v s
  as_run d Cut v s h = at
    where
      at : (m : ℕ) (g : Ending) → exec code m d ≡ Some g → Begins s.pieces g.state.pieces
      at zero g e = absurd (cc)
      at (suc m) g e = h m g e
  as_run d Done v s h = (suc h.0, h.1, h.2)
  as_run d (Trap info) v s h = (suc h.0, h.1, h.2)
  as_run d Wrong v s h = (suc h.0, h.1, h.2)

  later_begins : (s0 : State) (g : Ending) → Progresses s0 g.state → Begins s0.pieces g.state.pieces
  later_begins s0 g l = (l.printed, l.pieces)

  exec_longer : (n : ℕ) (c : Config) (x : Beside) (e : Ending) → c.state.left ≤ x.left → exec code n c ≡ Some e
      → GoesLonger (from (record c { state = beside c.state x })) e.end e.value e.state
  exec_longer zero c x e le h = absurd (cc)
  exec_longer (suc n) c x e le h =
      as_run c' e.end e.value e.state (at (step code c) (step_longer code c.state.pieces _ c x le refl) h (λ d y ly g. exec_longer n d y e ly g))
    where
      c' : Config
      c' = record c { state = beside c.state x }

      begins : (m : ℕ) (g : Ending) → after (step code c') m ≡ Some g → Begins c.state.pieces g.state.pieces
      begins m g k = later_begins c'.state g (exec_later code (suc m) c' g k).later

      at : (y : Next) → Longer code c.state.pieces y (step code c') → then_go y (exec code n) ≡ Some e
          → ((d : Config) (y : Beside) → d.state.left ≤ y.left → exec code n d ≡ Some e → GoesLonger (from (record d { state = beside d.state y })) e.end e.value e.state)
          → GoesLonger (after (step code c')) e.end e.value e.state
      at (On d) l k next = step_before (record d { state = beside d.state l.is.0 }) e.end e.value e.state (step code c') l.is.2 (next d l.is.0 l.is.1 k)
      at (Over end v s) l k next =
          let is : record { end = end; value = v; state = s } ≡ e = cc in
          subst (λ g. GoesLonger (after (step code c')) g.end g.value g.state) is (over_longer c.state end v s (step code c') l.is begins)

-- ---- whole runs

module _ (code : Parts) (input : Given) (fewer more : ℕ) (le : fewer ≤ more) where
  abbrev few : State
  few = begin fewer

  abbrev x : Beside
  x = record { left = more; most = 0; made = 0 }

  mains : (form : Form) (func : Func) (args : List Value) (s : State) (y : Beside) → s.left ≤ y.left → s.pieces ≡ []
      → Longer code [] (enter code.main form func (function_frame (text_at code func.name) first_spot) None args [] s)
      (enter code.main form func (function_frame (text_at code func.name) first_spot) None args [] (beside s y))
  mains form func args s y ly same = longer.enters code [] s y ly same code.main form func (function_frame (text_at code func.name) first_spot) None args []

  births : (kind : _) (vs : List Value) (go : List Value → State → Next) (u : State) (y : Beside) → u.left ≤ y.left → u.pieces ≡ []
      → ((args : List Value) (s : State) (y : Beside) → s.left ≤ y.left → s.pieces ≡ [] → Longer code [] (go args s) (go args (beside s y)))
      → Longer code [] (go (Own (next_name u.world) ∷ []) (born kind vs u)) (go (Own (next_name u.world) ∷ []) (born kind vs (beside u y)))
  births kind vs go u y ly same each =
      let b = side.births u y ly kind vs in
      subst (λ w. Longer code [] (go (Own (next_name u.world) ∷ []) (born kind vs u)) (go (Own (next_name u.world) ∷ []) w)) (sym b.is)
      (each (Own (next_name u.world) ∷ []) (born kind vs u) b.by b.left (side.births_keep kind vs u ∙ same))

  inputs : (tys : List Ty) (values : Option (List Value)) (go : List Value → State → Next)
      → ((args : List Value) (s : State) (y : Beside) → s.left ≤ y.left → s.pieces ≡ [] → Longer code [] (go args s) (go args (beside s y)))
      → Longer code [] (with_input tys values few go) (with_input tys values (beside few x) go)
  inputs [] None go each = each [] few x le refl
  inputs (t.Own kind ∷ []) (Some vs) go each = longer.after code [] few x _ _ le refl (λ u y ly same. births kind vs go u y ly same each)
  inputs _ _ go each = longer.stays code [] few x le

  plains : (form : Form) (m m' : Next) → Longer code [] m m' → Longer code [] (if_plain form few m) (if_plain form (beside few x) m')
  plains Plain m m' h = h
  plains Pure m m' h = longer.stays code [] few x le
  plains Iteration m m' h = longer.stays code [] few x le
  plains Destructor m m' h = longer.stays code [] few x le

  starts : Longer code [] (start code input fewer) (start code input more)
  starts =
      longer.with_a_function code [] few x le code.main _ _ (λ form func.
      plains form _ _ (inputs func.params (given input) _ (λ args s y ly same. mains form func args s y ly same)))

  run_longer : (e : Ending) (n : ℕ) → then_go (start code input fewer) (exec code n) ≡ Some e → GoesLonger (after code (start code input more)) e.end e.value e.state
  run_longer e n h = at (start code input fewer) starts h
    where
      at : (y : Next) → Longer code [] y (start code input more) → then_go y (exec code n) ≡ Some e → GoesLonger (after code (start code input more)) e.end e.value e.state
      at (On d) l k =
          step_before code (record d { state = beside d.state l.is.0 }) e.end e.value e.state (start code input more) l.is.2 (exec_longer code n d l.is.0 e l.is.1 k)
      at (Over end v s) l k =
          let is : record { end = end; value = v; state = s } ≡ e = cc in
          subst (λ g. GoesLonger (after code (start code input more)) g.end g.value g.state) is
          (over_longer code few end v s (start code input more) l.is (λ m g j. (g.state.pieces, refl)))

  -- the run with fewer ticks is a front of the other, and where it isn't cut it is the same
  record IsFront (a b : Outcome) : Type 0 where
    front : Begins a.pieces b.pieces
    same : a.end ≢ Cut → b ≡ a

  equal : (end : End) (v : Option Value) (s : State) → (m : ℕ) × (y : Beside) × (then_go (start code input more) (exec code m) ≡ Some (record { end = end; value = v; state = beside s y }))
      → IsFront (outcome_of (record { end = end; value = v; state = s })) (run_code code input more)
  equal end v s h =
      let is : ending_of code input more ≡ record { end = end; value = v; state = beside s h.1 } = run_ends_once code input more _ (h.0, h.2) in
      subst (λ g. IsFront (outcome_of (record { end = end; value = v; state = s })) (outcome_of g)) (sym is)
      (record { front = ([], sym (append-nil s.pieces)); same = λ d. refl })

  with_end : (end : End) (v : Option Value) (s : State) → GoesLonger (after code (start code input more)) end v s
      → IsFront (outcome_of (record { end = end; value = v; state = s })) (run_code code input more)
  with_end Cut v s h =
      let run = run_ends code input more in
      record { front = h run.0 (ending_of code input more) run.1; same = λ no. absurd (no refl) }
  with_end Done v s h = equal Done v s h
  with_end (Trap info) v s h = equal (Trap info) v s h
  with_end Wrong v s h = equal Wrong v s h

  is_front : IsFront (run_code code input fewer) (run_code code input more)
  is_front =
      let run = run_ends code input fewer in
      with_end (ending_of code input fewer).end (ending_of code input fewer).value (ending_of code input fewer).state (run_longer (ending_of code input fewer) run.0 run.1)

  pub front : Begins (run_code code input fewer).pieces (run_code code input more).pieces
  front = is_front.front

  pub same : (run_code code input fewer).end ≢ Cut → run_code code input more ≡ run_code code input fewer
  same = is_front.same
