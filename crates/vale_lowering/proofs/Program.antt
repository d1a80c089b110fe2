-- The code of a whole program does what the program means: by induction on the ticks.
use Rattle.std.proofs.Common.{◌≡◌, ℕ, zero, suc, ◌+◌, ◌≤◌, List, [], ◌∷◌, ◌++◌, length, Option, Some, None, Bool, true, false, refl, sym, ap, ◌∙◌, subst, inl, inr, arith}
use Rattle.std.specs.Prelude.{slice_get}
use Rattle.vale_state_spec.specs.State.{State}
use Rattle.vale_state_spec.specs.World.{Value}
use Rattle.vale_base.specs.declared.spot.Spot.{Spot}
use Rattle.vale_base.specs.declared.trap.FrameAt.{FrameAt}
use Rattle.vale_rules_spec.specs.Declarations.{head_params}
use Rattle.vale_rules_spec.specs.Types.{is_copy}
use Rattle.vale_rules_spec.specs.Typed.{Function, function_body, Block, block}
use Rattle.vale_model.specs.Kinds.{head_of, body_of}
use Rattle.vale_model.specs.Parts.{Parts, is_pure}
use Rattle.vale_model.specs.Runs.{Locals, Result, goes, returned, ended, valued}
use Rattle.vale_model.specs.Destruction.{Again, leave}
use Rattle.vale_model.specs.Expressions.{block_run, expr_run}
use Rattle.vale_model.specs.Meaning.{bound, back_to, body_run, with_bound, turn_run, level}
use Rattle.vale_code.specs.Frames.{Frame, Config, under}
use Rattle.vale_code.specs.Instructions.{with_value}
use Rattle.vale_code.specs.Enter.{with_func, leave_function}
use Rattle.vale_code.specs.Parts.{Parts as Code}
use Rattle.vale_code.specs.Registers.{Registers, read, registers_for}
use Rattle.vale_code.specs.declared.instr.Instr.{Instr}
use Rattle.vale_code.specs.declared.instr.Instr.TheVariants as i
use Rattle.vale_lowering.specs.Scopes.{Scope, parameters, result_type}
use Rattle.vale_lowering.specs.Lowered.{value_code, block_code, end_code, names_in, lowered_body}
use Rattle.vale_lowering.proofs.Registers.{ArePlain, with_at, look_above, Falls, falls_up, fresh_above, agrees_more}
use Rattle.vale_lowering.proofs.Reaches.{Where, conf, calls_in, IsIn, Fits, Post, Reaches, Reached, HasAt, In, Put, has_front, has_back, wrongs, then_reaches, weaker, leaves_void}
use Rattle.vale_lowering.proofs.Shapes.{loop_tests, loop_body, loop_test}
use Rattle.vale_lowering.proofs.Drops.{leave_plain, put_in, in_keeps}
use Rattle.vale_lowering.proofs.Calls.{ComesBack, program_code, functions, texts, around, code_of_function, entered, TurnsRun, CallsRun, Follows, func_at, plain_form}
use Rattle.vale_lowering.proofs.Tree.{block_runs, value_runs}
use Rattle.vale_lowering.proofs.Entry.{has_all, arguments_stand, empty_behind, enters, are_bound, falls_parameters}

reached_more : {A : Type 0} (code : Code) (k : Where) (n m p : ℕ) (post : Post A) (c : Config) (r : Result A) → n ≤ m → Reached code k n p post c r → Reached code k m p post c r
reached_more code k n m p post c (goes v l w) le a = (a.0, a.1, a.2, omega (arith, le, a.3))
reached_more code k n m p post c (returned v w) le a = (a.0, a.1, omega (arith, le, a.2))
reached_more code k n m p post c (ended e w) le a = a

reaches_more : {A : Type 0} (code : Code) (k : Where) (n m p : ℕ) (post : Post A) (c : Config) (r : Result A) → n ≤ m → Reaches code k n p post c r → Reaches code k m p post c r
reaches_more code k n m p post c r le (inl x) = inl x
reaches_more code k n m p post c r le (inr a) = inr (reached_more code k n m p post c r le a)

-- a function that has run to its end has returned
abbrev pub Never : Post (Option Value)
Never v l regs = ⊥

module _ (parts : Parts) (n : ℕ) (follows : Follows parts (level parts n) n) where
  abbrev again : Again
  again = level parts n

  module _ (k : Where) (f : Function) (vs : List Value) (here : slice_get (functions parts) k.function ≡ Some f) (pure : is_pure f ≡ false) (gives : k.gives ≡ is_copy (result_type f)) (plain : ArePlain vs) (many : length (names_in f) ≡ length vs) where
    abbrev names : List ℕ
    names = names_in f

    abbrev scope : Scope
    scope = parameters 0 names []

    abbrev regs0 : Registers
    regs0 = registers_for (code_of_function parts f).registers vs

    is_in : IsIn (program_code parts) k
    is_in = record { func = code_of_function parts f; here = func_at parts k.function f here; plain = plain_form parts (is_pure f) pure }

    abbrev block_instrs : List Instr
    block_instrs = block_code (around parts k.gives) false (body_of f) 0 (length names) (length names + 1) scope

    has : HasAt (program_code parts) k.function 0 (block_instrs ++ end_code k.gives (length names))
    has = has_all (program_code parts) k.function (code_of_function parts f) (block_instrs ++ end_code k.gives (length names)) [] (func_at parts k.function f here)
        (subst (λ g. lowered_body (texts parts) (functions parts) f ≡ block_code (around parts g) false (body_of f) 0 (length names) (length names + 1) scope ++ end_code g (length names)) (sym gives) refl)

    falls : Falls (length names) scope
    falls = falls_parameters names

    -- the end of the body, where nothing is given
    at_end : (g : Bool) → k.gives ≡ g → (end : Spot) (v : Option Value) (l : Locals) (w : State) (regs : Registers) → Put false (length names) (length names + 1) scope (read regs0) v l regs → w.left ≤ n → HasAt (program_code parts) k.function (0 + length block_instrs) (end_code g (length names)) → Reaches (program_code parts) k n 0 Never (conf k (0 + length block_instrs) regs w) (leave again end v (calls_in k) l w)
    at_end g e end (Some v) l w regs ag few at = absurd ag
    at_end true e end None l w regs ag few at =
        wrongs (program_code parts) k n (0 + length block_instrs) 0 Never regs w (i.Ret (length names)) (leave again end None (calls_in k) l w) w None at.0
        (ap (λ o. with_value o w (λ v. with_func (slice_get (program_code parts).funcs k.function) w (λ form func. leave_function form k.dest (Some v) k.below w))) empty)
      where
        empty : read regs (length names) ≡ None
        empty =
            ag.each (length names) (omega arith) ∙ look_above scope l (read regs0) (length names) (length names) falls (omega arith)
            ∙ ap (read regs0) many ∙ empty_behind (code_of_function parts f).registers vs
    at_end false e end None l w regs ag few at =
        subst (λ r. Reaches (program_code parts) k n 0 Never (conf k (0 + length block_instrs) regs w) r) (sym (leave_plain again end (calls_in k) None scope l w ag.names))
        (inr (leaves_void (program_code parts) k n (0 + length block_instrs) regs w is_in at.0, subst (λ g. Fits g None) (sym e) tt, few))

    -- a function's body from its entry
    pub body_runs : (b : Block) (l : Locals) (w : State) → body_of f ≡ b → bound (head_params (head_of f)) vs [] ≡ Some l → w.left ≤ n → Reaches (program_code parts) k n 0 Never (conf k 0 regs0 w) (body_run again b (calls_in k) l w)
    body_runs (block at end x ss) l w same b few =
        then_reaches (program_code parts) k n (0 + length block_instrs) 0 (Put false (length names) (length names + 1) scope (read regs0)) Never (conf k 0 regs0 w) (block_run again (block at end x ss) (calls_in k) l w) _
        (subst (λ b. Reaches (program_code parts) k n (0 + length block_instrs) (Put false (length names) (length names + 1) scope (read regs0)) (conf k 0 regs0 w) (block_run again b (calls_in k) l w)) same
        (block_runs parts k is_in n again follows (body_of f) false 0 (length names) (length names + 1) scope (read regs0) l regs0 w
        (falls_up scope (length names) (length names + 1) (omega arith) falls) (omega arith) (fresh_above scope (length names) (length names) falls (omega arith))
        (let en = enters (head_params (head_of f)) vs l regs0 plain (arguments_stand (code_of_function parts f).registers vs) b in record { names = en.named; each = λ r lt. en.all r }) few
        (has_front (program_code parts) k.function block_instrs _ 0 has)))
        (λ v l w regs ag few. at_end k.gives refl end v l w regs ag few (has_back (program_code parts) k.function block_instrs _ 0 has))

  -- ---- calls

  returns_to : (g : Bool) (to : Option ℕ) (after : Frame) (below : List Frame) (call : FrameAt) (j : ℕ) (l : Locals) (c : Config) (r : Result (Option Value)) → Reaches (program_code parts) (record { call = call; function = j; dest = to; below = after ∷ below; gives = g }) n 0 Never c r → ComesBack (program_code parts) (suc n) l g to after below c (back_to l r)
  returns_to g to after below call j l c r (inl x) = inl x
  returns_to g to after below call j l c (goes v k w) (inr a) = absurd a.2
  returns_to g to after below call j l c (returned v w) (inr a) = inr (a.0, refl, a.1, omega (arith, a.2))
  returns_to g to after below call j l c (ended e w) (inr a) = inr a

  calls_more : CallsRun parts (level parts (suc n)) (suc n)
  calls_more j (function_body h b) vs frame to after below l w less here pure plain many =
      let f = function_body h b in
      let k : Where = record { call = frame; function = j; dest = to; below = after ∷ below; gives = is_copy (result_type f) } in
      let m = are_bound (head_params h) vs [] many in
      subst (λ o. ComesBack (program_code parts) (suc n) l (is_copy (result_type f)) to after below (entered parts j f vs frame to (after ∷ below) w) (with_bound o (λ calls. body_run again b (frame ∷ calls)) (under (after ∷ below)) l w)) (sym m.1)
      (returns_to (is_copy (result_type f)) to after below frame j l (entered parts j f vs frame to (after ∷ below) w) (body_run again b (calls_in k) m.0 w)
      (body_runs k f vs here pure refl plain many b m.0 w refl m.1 (omega (arith, less))))

  -- ---- turns

  turns_more : TurnsRun parts (level parts (suc n)) (suc n)
  turns_more k c b p h s base l regs w is less fa ag has =
      let code = program_code parts in
      let tc = λ (q : ℕ). value_code (around parts k.gives) c q h s in
      let bc = λ (q : ℕ). block_code (around parts k.gives) false b q h (h + 1) s in
      let first = p + 2 + length (bc (p + 2)) in
      reaches_more code k n (suc n) _ (In false h s base) (conf k (p + 2) regs w) (turn_run again c b (calls_in k) l w) (omega arith)
      (then_reaches code k n first _ (In false h s base) (In false h s base) (conf k (p + 2) regs w) (block_run again b (calls_in k) l w) _
      (weaker code k n first (Put false h (h + 1) s (with_at h (read regs h) base)) (In false h s base) (conf k (p + 2) regs w) (block_run again b (calls_in k) l w) (λ v l regs' x. put_in false h s base (read regs h) v l regs' x)
      (block_runs parts k is n again follows b false (p + 2) h (h + 1) s (with_at h (read regs h) base) l regs w (falls_up s h (h + 1) (omega arith) fa) (omega arith) (fresh_above s h h fa (omega arith)) (agrees_more s l base h regs fa ag) (omega (arith, less)) (loop_body code k n p h tc bc has)))
      (λ v l w regs ag few. loop_tests code k n p h s base tc bc (conf k first regs w) (valued (expr_run again c) (calls_in k) l w) (again.turn c b) fa has
      (value_runs parts k is n again follows c first h s base l regs w fa (in_keeps false h s base v l regs ag) few (loop_test code k n p h tc bc has))
      (λ l w regs ag less. follows.turns k c b p h s base l regs w is less fa ag has)))

pub all_follow : (parts : Parts) (n : ℕ) → Follows parts (level parts n) n
all_follow parts zero = record {
  same = refl;
  turns = λ k c b p h s base l regs w is less fa ag has. absurd (omega (arith, less));
  calls = λ j f vs frame to after below l w less here pure plain many. absurd (omega (arith, less));
}
all_follow parts (suc n) = let r = all_follow parts n in record { same = refl; turns = turns_more parts n r; calls = calls_more parts n r }
