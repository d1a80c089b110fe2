-- A call runs as it means, where what is called does.
use Rattle.std.proofs.Common.{◌≡◌, ℕ, zero, suc, ◌+◌, ◌<◌, ◌≤◌, List, [], ◌∷◌, length, map, Option, Some, None, Bool, true, false, if◌then◌else◌, refl, sym, ap, ◌∙◌, subst, ◌⊎◌, inl, inr, arith}
use Rattle.std.specs.Prelude.{slice_get, option_map}
use Rattle.std.proofs.lemmas.Bool.Decides.{Decides-eqb}
use Rattle.std.proofs.lemmas.Option.{slice_get-map}
use Rattle.vale_state_spec.specs.Outcome.{Wrong}
use Rattle.vale_state_spec.specs.State.{State, spend, spend_of, has_depth, function_frame}
use Rattle.vale_state_spec.specs.World.{Value}
use Rattle.vale_base.specs.declared.trap.FrameAt.{FrameAt}
use Rattle.vale_base.specs.declared.trap.TrapKind.TheVariants.{CallDepth}
use Rattle.vale_rules_spec.specs.Declarations.{head_params, param_type}
use Rattle.vale_syntax.specs.Tree.{Param, param}
use Rattle.vale_rules_spec.specs.Types.{is_copy, type_of}
use Rattle.vale_syntax.specs.declared.tree.NameAt.{NameAt}
use Rattle.vale_rules_spec.specs.Typed.{Function, Expr, Block}
use Rattle.vale_model.specs.Kinds.{head_of}
use Rattle.vale_model.specs.Parts.{Parts, name_text, name_of, param_names, has_name, first_function, is_pure, function_named}
use Rattle.vale_model.specs.Runs as model
use Rattle.vale_model.specs.Runs.{Locals, Result, goes, returned, ended, Run, then_do, ◌>>=◌, tick}
use Rattle.vale_model.specs.Destruction.{Again}
use Rattle.vale_model.specs.Expressions.{called, called_by}
use Rattle.vale_code.specs.Enter.{Form, Plain, with_func, with_form, form_of as form_in, if_called, enter}
use Rattle.vale_code.specs.Frames as frames
use Rattle.vale_code.specs.Frames.{Frame, Running, Config, Next, On, Over, under, resume, deeper, after_tick, on}
use Rattle.vale_code.specs.Instructions.{fetch, with_read, behind}
use Rattle.vale_code.specs.Kinds.{text_at, text_or_none, result_to}
use Rattle.vale_code.specs.Parts.{Parts as Code}
use Rattle.vale_code.specs.Registers.{Registers, Read, give_all, registers_for, put}
use Rattle.vale_code.specs.declared.func.Func.{Func}
use Rattle.vale_code.specs.declared.instr.Instr.{Instr}
use Rattle.vale_code.specs.declared.instr.Instr.TheVariants as i
use Rattle.vale_lowering.specs.Instructions.{only_if, registers_from, loop_code}
use Rattle.vale_lowering.specs.Scopes.{Scope, agree, Around, number_of_function, may_be_called, result_type}
use Rattle.vale_lowering.specs.Lowered.{value_code, block_code, call_code, form_of, names_in, functions_in, texts_in, lowered_function, lowered_parts}
use Rattle.vale_lowering.proofs.Registers.{ArePlain, Base, with_at, Falls, Agrees, agrees_put, agrees_down, with_all, with_all_below, Stand}
use Rattle.vale_lowering.proofs.Reaches.{Where, active, conf, calls_in, IsIn, Comes, Stops, GoesWrong, Fits, Post, Reaches, Reached, NextReaches, HasAt, In, does, by_next, is_stuck, only_if_runs}
use Rattle.vale_lowering.proofs.Lookups.{found_function, passes, found_text, in_front, goes_to, goes_nowhere, agree_same, all_given}

-- what comes back of a call to the frame that goes on after it, which gives a value or none
abbrev pub CameBack : Code → ℕ → Locals → Bool → Option ℕ → Frame → List Frame → Config → Result (Option Value) → Type 0
CameBack code n l0 gives to after below c (goes v l w) =
    Comes code c (record { top = resume to v after; below = below; state = w }) × (l ≡ l0) × Fits gives v × (w.left ≤ n)
CameBack code n l0 gives to after below c (returned v w) = ⊥
CameBack code n l0 gives to after below c (ended e w) = Stops code c e w

abbrev pub ComesBack : Code → ℕ → Locals → Bool → Option ℕ → Frame → List Frame → Config → Result (Option Value) → Type 0
ComesBack code n l0 gives to after below c r = GoesWrong code c ⊎ CameBack code n l0 gives to after below c r

module _ (parts : Parts) where
  abbrev pub program_code : Code
  program_code = lowered_parts parts

  abbrev pub functions : List Function
  functions = functions_in parts

  abbrev pub texts : List (List ℕ)
  texts = texts_in parts functions

  abbrev pub around : Bool → Around
  around gives = record { texts = texts; functions = functions; gives = gives }

  abbrev pub code_of_function : Function → Func
  code_of_function f = lowered_function parts texts functions f

  -- where a function begins
  abbrev pub entered : ℕ → Function → List Value → FrameAt → Option ℕ → List Frame → State → Config
  entered i f vs frame to below w = record {
    top = Running (record { call = frame; function = i; dest = to; place = 0; registers = registers_for (code_of_function f).registers vs });
    below = below;
    state = w;
  }

  abbrev pub while_code : Bool → Expr → Block → ℕ → ℕ → Scope → List Instr
  while_code gives c b p h s = loop_code p h (λ place. value_code (around gives) c place h s) (λ place. block_code (around gives) false b place h (h + 1) s)

  -- the code follows the turns of loops, and the calls, that have fewer ticks than n
  abbrev pub TurnsRun : Again → ℕ → Type 0
  TurnsRun again n =
      (k : Where) (c : Expr) (b : Block) (p h : ℕ) (s : Scope) (base : Base) (l : Locals) (regs : Registers) (w : State) →
      IsIn program_code k → w.left < n → Falls h s → Agrees h s l base regs → HasAt program_code k.function p (while_code k.gives c b p h s) →
      Reaches program_code k n (p + length (while_code k.gives c b p h s)) (In false h s base) (conf k (p + 2) regs w) (again.turn c b (calls_in k) l w)

  abbrev pub CallsRun : Again → ℕ → Type 0
  CallsRun again n =
      (i : ℕ) (f : Function) (vs : List Value) (frame : FrameAt) (to : Option ℕ) (after : Frame) (below : List Frame) (l : Locals) (w : State) →
      w.left < n → slice_get functions i ≡ Some f → is_pure f ≡ false → ArePlain vs → length (names_in f) ≡ length vs →
      ComesBack program_code n l (is_copy (result_type f)) to after below (entered i f vs frame to (after ∷ below) w) (again.call f vs frame (under (after ∷ below)) l w)

  -- what the turns and calls with fewer ticks owe
  pub record Follows (again : Again) (n : ℕ) : Type 0 where
    pub same : again.parts ≡ parts
    pub turns : TurnsRun again n
    pub calls : CallsRun again n

  -- ---- the function that is called

  pub func_at : (i : ℕ) (f : Function) → slice_get functions i ≡ Some f → slice_get program_code.funcs i ≡ Some (code_of_function f)
  func_at i f e = slice_get-map code_of_function functions i ∙ ap (option_map code_of_function) e

  pub text_of_function : (i : ℕ) (f : Function) → slice_get functions i ≡ Some f → text_at program_code (code_of_function f).name ≡ name_text parts (name_of f)
  text_of_function i f e =
      ap text_or_none (found_text (name_text parts (name_of f)) texts i
      (in_front (map (λ f. name_text parts (name_of f)) functions) _ i (name_text parts (name_of f))
      (slice_get-map (λ f. name_text parts (name_of f)) functions i ∙ ap (option_map (λ f. name_text parts (name_of f))) e)))

  pub many_names : (ps : List Param) → length (param_names ps) ≡ length ps
  many_names [] = refl
  many_names (param m x ∷ ps) = ap suc (many_names ps)

  pub plain_form : (b : Bool) → b ≡ false → form_of b ≡ 0
  plain_form true e = absurd (cc)
  plain_form false e = refl

  module _ (k : Where) (n : ℕ) (again : Again) (follows : Follows again n) where
    -- what comes back goes to its register
    came : (g : Bool) (p h : ℕ) (s : Scope) (base base' : Base) (m : ℕ) (l : Locals) (regs : Registers) (to : Option ℕ) (c : Config) (r : Result (Option Value)) → (g ≡ true → to ≡ Some h) → (g ≡ false → to ≡ None) → Falls h s → ((r : ℕ) → r < h → base' r ≡ base r) → h ≤ m → Agrees m s l base' regs → CameBack program_code n l g to (Running (active k (p + 1) regs)) k.below c r → Reached program_code k n (p + 1) (In g h s base) c r
    came true p h s base base' m l regs to c (goes None l' w) if_one if_none fa below le ag a = absurd a.2
    came true p h s base base' m l regs to c (goes (Some v) l' w) if_one if_none fa below le ag a = (
      put regs h (Some v),
      subst (λ o. Comes program_code c (record { top = resume o (Some v) (Running (active k (p + 1) regs)); below = k.below; state = w })) (if_one refl) a.0,
      (a.2, subst (λ x. Agrees (h + 1) s x (with_at h (Some v) base) (put regs h (Some v))) (sym a.1) (agrees_put s l base base' h m (Some v) regs fa le below ag)),
      a.3,
    )
    came false p h s base base' m l regs to c (goes (Some v) l' w) if_one if_none fa below le ag a = absurd a.2
    came false p h s base base' m l regs to c (goes None l' w) if_one if_none fa below le ag a = (
      regs,
      subst (λ o. Comes program_code c (record { top = resume o None (Running (active k (p + 1) regs)); below = k.below; state = w })) (if_none refl) a.0,
      subst (λ x. Agrees h s x base regs) (sym a.1) (agrees_down s l base base' h m regs le below ag),
      a.3,
    )
    came g p h s base base' m l regs to c (returned v w) if_one if_none fa below le ag a = absurd a
    came g p h s base base' m l regs to c (ended e w) if_one if_none fa below le ag a = a

    comes_back : (g : Bool) (p h : ℕ) (s : Scope) (base base' : Base) (m : ℕ) (l : Locals) (regs : Registers) (to : Option ℕ) (c : Config) (r : Result (Option Value)) → (g ≡ true → to ≡ Some h) → (g ≡ false → to ≡ None) → Falls h s → ((r : ℕ) → r < h → base' r ≡ base r) → h ≤ m → Agrees m s l base' regs → ComesBack program_code n l g to (Running (active k (p + 1) regs)) k.below c r → Reaches program_code k n (p + 1) (In g h s base) c r
    comes_back g p h s base base' m l regs to c r if_one if_none fa below le ag (inl x) = inl x
    comes_back g p h s base base' m l regs to c r if_one if_none fa below le ag (inr a) = inr (came g p h s base base' m l regs to c r if_one if_none fa below le ag a)

    module _ (vs : List Value) (p h : ℕ) (s : Scope) (base : Base) (l : Locals) (regs : Registers) (w : State) (fa : Falls h s) (few : w.left ≤ n) (plain : ArePlain vs) (stand : Stand h vs regs) (ag : Agrees (h + length vs) s l (with_all h vs base) regs) where
      abbrev after : Frame
      after = Running (active k (p + 1) regs)

      -- a function is entered, with its depth and its tick
      enters : (j : ℕ) (f : Function) (frame : FrameAt) → slice_get functions j ≡ Some f → is_pure f ≡ false → length (names_in f) ≡ length vs → NextReaches program_code k n (p + 1) (In (is_copy (result_type f)) h s base) (enter j Plain (code_of_function f) frame (result_to (code_of_function f).result h) vs (after ∷ k.below) w) (called_by false again f vs frame (calls_in k) l w)
      enters j f frame here pure many = by_depth (has_depth 1 (calls_in k) w)
        where
          to : Option ℕ
          to = result_to (code_of_function f).result h

          post : Post (Option Value)
          post = In (is_copy (result_type f)) h s base

          next : Option State → Next
          next o = frames.ticked o w (λ t. on (entered j f vs frame to (after ∷ k.below) t).top (after ∷ k.below) t)

          result : Option State → Result (Option Value)
          result o = then_do (model.ticked o (calls_in k) l w) (λ u. again.call f vs frame (calls_in k))

          by_left : (q : ℕ) → w.left ≡ q → NextReaches program_code k n (p + 1) post (next (spend_of q w)) (result (spend_of q w))
          by_left zero e = inr refl
          by_left (suc q) e =
              let u : State = record w { left = q; spent = w.spent + 1 } in
              comes_back (is_copy (result_type f)) p h s base (with_all h vs base) (h + length vs) l regs to (entered j f vs frame to (after ∷ k.below) u) (again.call f vs frame (calls_in k) l u)
              (goes_to (result_type f) h) (goes_nowhere (result_type f) h) fa (with_all_below h vs base) (omega arith) ag
              (follows.calls j f vs frame to after k.below l u (omega arith) here pure plain many)

          by_depth : (b : Bool) → NextReaches program_code k n (p + 1) post (if b then next (spend w) else frames.trap CallDepth frame.at (after ∷ k.below) w) (then_do (if b then goes (tt {0}) l w else model.trap CallDepth frame.at (calls_in k) l w) (λ v l w. (tick >>= (λ u. again.call f vs frame)) (calls_in k) l w))
          by_depth true = by_left w.left refl
          by_depth false = inr refl

      module _ (nm : NameAt) where
        abbrev number : ℕ
        number = number_of_function (has_name nm.name.0) functions

        abbrev frame_of_call : FrameAt
        frame_of_call = function_frame (name_text parts nm.name.0) nm.at

        abbrev entered_with : Form → Func → List Value → Registers → Next
        entered_with form func us rs =
            enter number form func (record { what = text_at program_code func.name; at = nm.at }) (result_to func.result h) us (behind (active k p regs) rs ∷ k.below) w

        abbrev on_function : Form → Func → Next
        on_function form func = if_called form w (with_read (give_all func.params (registers_from h (length vs)) regs) w (entered_with form func))

        instruction : (f : Function) → first_function (has_name nm.name.0) functions ≡ Some f → is_pure f ≡ false → does program_code k n p regs w (i.Call h number (registers_from h (length vs)) nm.at) ≡ with_read (give_all (code_of_function f).params (registers_from h (length vs)) regs) w (entered_with Plain (code_of_function f))
        instruction f e pure =
            ap (λ o. with_func o w on_function) (func_at number f (found_function (has_name nm.name.0) functions f e))
            ∙ ap (λ m. with_form (form_in m) (code_of_function f) w on_function) (plain_form (is_pure f) pure)

        named : (f : Function) → first_function (has_name nm.name.0) functions ≡ Some f → text_at program_code (code_of_function f).name ≡ name_text parts nm.name.0
        named f e =
            text_of_function number f (found_function (has_name nm.name.0) functions f e)
            ∙ ap (name_text parts) ((Decides-eqb (name_of f) nm.name.0).0 (passes (has_name nm.name.0) functions f e))

        calls_function : (f : Function) → first_function (has_name nm.name.0) functions ≡ Some f → is_pure f ≡ false → fetch program_code k.function p ≡ Some (i.Call h number (registers_from h (length vs)) nm.at) → Reaches program_code k n (p + 1) (In (is_copy (result_type f)) h s base) (conf k p regs w) (called_by false again f vs frame_of_call (calls_in k) l w)
        calls_function f e pure at = by (all_given (λ q. type_of (param_type q)) (head_params (head_of f)) vs h regs plain stand)
          where
            given : Option Read
            given = give_all (code_of_function f).params (registers_from h (length vs)) regs

            by : ((given ≡ Some (record { values = vs; after = regs })) × (length (head_params (head_of f)) ≡ length vs)) ⊎ (given ≡ None) → Reaches program_code k n (p + 1) (In (is_copy (result_type f)) h s base) (conf k p regs w) (called_by false again f vs frame_of_call (calls_in k) l w)
            by (inl (is, many)) =
                by_next program_code k n p (p + 1) _ regs w (i.Call h number (registers_from h (length vs)) nm.at) _ (called_by false again f vs frame_of_call (calls_in k) l w) at
                (instruction f e pure ∙ ap (λ o. with_read o w (entered_with Plain (code_of_function f))) is
                ∙ ap (λ t. enter number Plain (code_of_function f) (record { what = t; at = nm.at }) (result_to (code_of_function f).result h) vs (after ∷ k.below) w) (named f e))
                (enters number f frame_of_call (found_function (has_name nm.name.0) functions f e) pure (many_names (head_params (head_of f)) ∙ many))
            by (inr is) =
                by_next program_code k n p (p + 1) _ regs w (i.Call h number (registers_from h (length vs)) nm.at) (Over Wrong None w) (called_by false again f vs frame_of_call (calls_in k) l w) at
                (instruction f e pure ∙ ap (λ o. with_read o w (entered_with Plain (code_of_function f))) is) (inl refl)

        by_function : (gives : Bool) (o : Option Function) → first_function (has_name nm.name.0) functions ≡ o → HasAt program_code k.function p (only_if (may_be_called gives o) h (i.Call h number (registers_from h (length vs)) nm.at ∷ [])) → Reaches program_code k n (p + length (only_if (may_be_called gives o) h (i.Call h number (registers_from h (length vs)) nm.at ∷ []))) (In gives h s base) (conf k p regs w) (called again o vs frame_of_call (calls_in k) l w)
        by_function gives None e has = is_stuck program_code k n p (p + 1) h (In gives h s base) regs w (called again None vs frame_of_call (calls_in k) l w) has
        by_function gives (Some f) e has =
            only_if_runs program_code k n (may_be_called gives (Some f)) h p _ (In gives h s base) regs w (called again (Some f) vs frame_of_call (calls_in k) l w) has
            (λ may has. by_purity (is_pure f) refl may has.0)
          where
            by_purity : (b : Bool) → is_pure f ≡ b → (if b then false else agree gives (is_copy (result_type f))) ≡ true → fetch program_code k.function p ≡ Some (i.Call h number (registers_from h (length vs)) nm.at) → Reaches program_code k n (p + 1) (In gives h s base) (conf k p regs w) (called_by b again f vs frame_of_call (calls_in k) l w)
            by_purity true pure may at = absurd (cc)
            by_purity false pure may at =
                subst (λ g. Reaches program_code k n (p + 1) (In g h s base) (conf k p regs w) (called_by false again f vs frame_of_call (calls_in k) l w)) (sym (agree_same gives (is_copy (result_type f)) may))
                (calls_function f e pure at)

        -- a call of the function of a name
        pub call_runs : (gives : Bool) → HasAt program_code k.function p (call_code (around k.gives) gives nm (length vs) h) → Reaches program_code k n (p + length (call_code (around k.gives) gives nm (length vs) h)) (In gives h s base) (conf k p regs w) (called again (function_named again.parts nm.name.0) vs (function_frame (name_text again.parts nm.name.0) nm.at) (calls_in k) l w)
        call_runs gives has =
            subst (λ q. Reaches program_code k n (p + length (call_code (around k.gives) gives nm (length vs) h)) (In gives h s base) (conf k p regs w) (called again (function_named q nm.name.0) vs (function_frame (name_text q nm.name.0) nm.at) (calls_in k) l w)) (sym follows.same)
            (by_function gives (first_function (has_name nm.name.0) functions) refl has)
