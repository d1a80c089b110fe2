-- Where the depth ends: steps of codes at a state with many open freezes.
use Rattle.std.proofs.Common.{◌≡◌, ℕ, pos, [], ◌∷◌, Some, None, true, refl}
use Rattle.std.specs.Prelude.{codes}
use Rattle.vale_state_spec.specs.State.{State, begin}
use Rattle.vale_state_spec.specs.World.{Own, Freeze}
use Rattle.vale_base.specs.declared.trap.TrapKind.TheVariants.{CallDepth}
use Rattle.vale_code.proofs.Codes.{at, kind, function, main_of, code_of, struct, frame, in_main, trap}
use Rattle.vale_code.specs.Frames.{Frame, Running, Looping, Numbers, Config, Next, On, Over}
use Rattle.vale_code.specs.Parts.{Parts}
use Rattle.vale_code.specs.Run.{step}
use Rattle.vale_code.specs.declared.instr.Instr.{Instr}
use Rattle.vale_code.specs.declared.instr.Instr.TheVariants as i
use Rattle.vale_code.specs.declared.ty.Ty.TheVariants as t

-- `main` has one instruction, and `f` is of this form
abbrev code : ℕ → Instr → Parts
code form instr = code_of (struct None [] ∷ []) [] (main_of (instr ∷ i.RetVoid ∷ []) ∷ function 1 form (t.Int ∷ []) t.Void 1 (i.RetVoid ∷ []) ∷ [])

-- so many freezes are open, and an object lives
abbrev state : ℕ → State
state frozen = record (begin 9) { regions = frozen; frozen = frozen; world = Some (record { region = Freeze 0; kind = kind 0; values = [] }) ∷ [] }

abbrev main_frame : Frame
main_frame = Running (record { call = frame (codes "main") (at 1); function = 0; dest = None; place = 0; registers = Some (Own 0) ∷ [] })

-- `main` is under way, and so much more
abbrev config : ℕ → Config
config frozen = record { top = main_frame; below = []; state = state frozen }

abbrev loop : ℕ → Config
loop frozen = record {
  top = Looping (record { function = 1; at = at 3; dest = None; captured = []; items = Numbers (pos 0) 2; next = 0; done = []; quiet = true });
  below = main_frame ∷ [];
  state = record (state frozen) { quiet = true };
}

abbrev GoesOn : Next → Type 0
GoesOn (On c) = Unit {0}
GoesOn (Over end v s) = ⊥

abbrev IsTooDeep : ℕ → Next → Type 0
IsTooDeep column (On c) = ⊥
IsTooDeep column (Over end v s) = end ≡ trap CallDepth (at column) in_main

-- ---- 100,000 may be under way, and no more

no_argument : (form : ℕ) → Instr → Parts
no_argument form instr = code_of [] [] (main_of (instr ∷ i.RetVoid ∷ []) ∷ function 1 form [] t.Void 1 (i.RetVoid ∷ []) ∷ [])

call_fits : GoesOn (step (no_argument 0 (i.Call 1 1 [] (at 7))) (config 99998))
unfolding no_argument
call_fits = tt

call_is_too_deep : IsTooDeep 7 (step (no_argument 0 (i.Call 1 1 [] (at 7))) (config 99999))
unfolding no_argument
call_is_too_deep = refl

-- a pure call counts two
pure_call_fits : GoesOn (step (no_argument 1 (i.Call 1 1 [] (at 7))) (config 99997))
unfolding no_argument
pure_call_fits = tt

pure_call_is_too_deep : IsTooDeep 7 (step (no_argument 1 (i.Call 1 1 [] (at 7))) (config 99998))
unfolding no_argument
pure_call_is_too_deep = refl

freeze_fits : GoesOn (step (code 0 (i.Freeze (at 7))) (config 99998))
freeze_fits = tt

freeze_is_too_deep : IsTooDeep 7 (step (code 0 (i.Freeze (at 7))) (config 99999))
freeze_is_too_deep = refl

destruction_fits : GoesOn (step (code 0 (i.Destroy 0 (at 7))) (config 99998))
destruction_fits = tt

destruction_is_too_deep : IsTooDeep 7 (step (code 0 (i.Destroy 0 (at 7))) (config 99999))
destruction_is_too_deep = refl

-- an iteration counts one, and its freeze isn't counted again
iteration_fits : GoesOn (step (code 2 i.Tick) (loop 99998))
iteration_fits = tt

iteration_is_too_deep : IsTooDeep 3 (step (code 2 i.Tick) (loop 99999))
iteration_is_too_deep = refl
