-- What a program means: the outcome of its `main` (docs/LANGUAGE.md, "Running").
use Rattle.std.specs.Prelude.{ℕ, zero, suc, List, [], ◌∷◌, Option, Some, None}
use Rattle.vale_state_spec.specs.Outcome.{Done, Cut, Outcome}
use Rattle.vale_state_spec.specs.State.{begin, main_frame, outcome, lent, Given, given}
use Rattle.vale_state_spec.specs.World.{Value}
use Rattle.vale_base.specs.declared.trap.FrameAt.{FrameAt}
use Rattle.vale_syntax.specs.Tree.{Param, param}
use Rattle.vale_rules_spec.specs.Declarations.{head_params}
use Rattle.vale_rules_spec.specs.Types.{Ty, void, imm, is_owned, type_of}
use Rattle.vale_rules_spec.specs.Typed.{Expr, Block, block, Function, function_body, Typed}
use Rattle.vale_model.specs.Parts.{Parts, parts_of, main_of}
use Rattle.vale_model.specs.Kinds.{head_of}
use Rattle.vale_model.specs.Runs.{Local, Locals, Result, goes, returned, ended, Run, ◌>>=◌, nothing, wrong, tick, valued, choose, under}
use Rattle.vale_model.specs.Destruction.{Again, drop_values, leave}
use Rattle.vale_model.specs.Expressions.{block_run, expr_run, called, made}

-- ---- functions

-- a parameter `&imm X` gets a reference to what its argument leads to
abbrev pub given_to : Ty → Value → Value
given_to (imm x) v = lent v
given_to _ v = v

abbrev pub parameter : Param → Value → Local
parameter (param n x) v = record { name = Some n.name.0; value = Some (given_to (type_of x) v); owned = is_owned (type_of x) }

-- the parameters with their values, the last innermost
abbrev pub bound : List Param → List Value → Locals → Option Locals
bound [] [] l = Some l
bound (p ∷ ps) (v ∷ vs) l = bound ps vs (parameter p v ∷ l)
bound _ _ l = None

-- a function that returned goes on where it was called
abbrev pub back_to : Locals → Result (Option Value) → Result (Option Value)
back_to l (goes v k s) = goes v l s
back_to l (returned v s) = goes v l s
back_to l (ended end s) = ended end s

-- A body that comes to its end returns nothing there.
abbrev pub body_run : Again → Block → Run (Option Value)
body_run again (block at end x ss) = do
  v ← block_run again (block at end x ss)
  leave again end v

abbrev pub with_bound : Option Locals → Run (Option Value) → Run (Option Value)
with_bound None m = wrong
with_bound (Some k) m = λ calls l s. back_to l (m calls k s)

abbrev pub function_run : Again → Function → List Value → FrameAt → Run (Option Value)
function_run again (function_body h b) vs frame = with_bound (bound (head_params h) vs []) (under frame (body_run again b))

-- ---- what goes on after a tick

-- a turn of a loop, and the test of the next
abbrev pub turn_run : Again → Expr → Block → Run (Option Value)
turn_run again c b = do
  _ ← block_run again b
  v ← valued (expr_run again c)
  choose v (tick >>= (λ _. again.turn c b)) nothing

abbrev pub no_tick_left : {A : Type 0} → Run A
no_tick_left = λ calls l s. ended Cut s

-- What is done with at most so many ticks left. Each part that it names runs after a tick was spent, so the number suffices
-- where it suffices at the start.
abbrev pub level : Parts → ℕ → Again
level p zero = record { parts = p; turn = λ c b. no_tick_left; call = λ f vs frame. no_tick_left; fields = λ vs frame. no_tick_left }
level p (suc n) = record {
  parts = p;
  turn = turn_run (level p n);
  call = function_run (level p n);
  fields = λ vs frame. under frame (drop_values (level p n) frame.at vs);
}

-- ---- the whole program

abbrev pub main_run : Again → Option Function → List Value → Run (Option Value)
main_run again f vs = called again f vs main_frame

-- the type of what `main` takes
abbrev pub taken_type : List Param → Ty
taken_type (param n x ∷ ps) = type_of x
taken_type [] = void

abbrev pub main_takes : Option Function → Ty
main_takes None = void
main_takes (Some f) = taken_type (head_params (head_of f))

-- the input array is made before `main` is entered
abbrev pub with_input : Again → Ty → Option (List Value) → (List Value → Run (Option Value)) → Run (Option Value)
with_input again x None go = go []
with_input again x (Some vs) go = do
  v ← valued (made again main_frame.at x vs)
  go (v ∷ [])

abbrev pub run_of : Parts → Given → ℕ → Result (Option Value)
run_of p input ticks =
    with_input (level p ticks) (main_takes (main_of p)) (given input) (main_run (level p ticks) (main_of p)) [] [] (begin ticks)

abbrev pub outcome_of : Result (Option Value) → Outcome
outcome_of (goes v l s) = outcome Done s
outcome_of (returned v s) = outcome Done s
outcome_of (ended end s) = outcome end s

-- the outcome of the program on its input, with so many ticks to spend
abbrev pub meaning : Typed → Given → ℕ → Outcome
meaning program input ticks = outcome_of (run_of (parts_of program) input ticks)
