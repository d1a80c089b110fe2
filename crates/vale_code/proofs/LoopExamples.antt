-- What parallel loops do, in short codes.
use Rattle.std.proofs.Common.{◌≡◌, ℕ, ◌+◌, ℤ, pos, List, [], ◌∷◌, ◌++◌, None, refl}
use Rattle.std.specs.Fmt.{digits}
use Rattle.std.specs.Prelude.{codes}
use Rattle.vale_state_spec.specs.Outcome.{Done, Cut, Wrong}
use Rattle.vale_state_spec.specs.State.{no_input}
use Rattle.vale_base.specs.declared.trap.TrapKind.TheVariants.{DivisionByZero, LoopTooWide}
use Rattle.vale_code.proofs.Codes.{at, kind, function, main_of, code_of, struct, line, piece, gives, frame, in_main, trap}
use Rattle.vale_code.specs.Need.{need}
use Rattle.vale_code.specs.Parts.{Parts}
use Rattle.vale_code.specs.Run.{run_code}
use Rattle.vale_code.specs.declared.func.Func.{Func}
use Rattle.vale_code.specs.declared.instr.Instr.{Instr}
use Rattle.vale_code.specs.declared.instr.Instr.TheVariants as i
use Rattle.vale_code.specs.declared.kind.KindInfo.{KindInfo}
use Rattle.vale_code.specs.declared.kind.KindInfo.TheVariants as k
use Rattle.vale_code.specs.declared.ty.Ty.TheVariants as t

-- `main` runs a loop of the function `f` over the numbers from one up to another
abbrev over_numbers : List KindInfo → ℤ → ℤ → List ℕ → List Func → List Instr → Parts
over_numbers kinds a b args funcs body =
    code_of kinds [] (main_of (i.Int 0 a ∷ i.Int 1 b ∷ i.ParRange 2 0 1 1 args (at 3) ∷ body ++ i.RetVoid ∷ []) ∷ funcs)

-- an iteration prints its number
shows : Func
shows = function 1 2 (t.Int ∷ []) t.Void 1 (i.Print 0 1 ∷ i.RetVoid ∷ [])

prints_in_order : run_code (over_numbers [] (pos 0) (pos 3) [] (shows ∷ []) []) no_input 4
    ≡ gives (piece 2 (line (codes "0")) ∷ piece 3 (line (codes "1")) ∷ piece 4 (line (codes "2")) ∷ []) Done 4
unfolding shows digits
prints_in_order = refl

is_cut : run_code (over_numbers [] (pos 0) (pos 3) [] (shows ∷ []) []) no_input 3
    ≡ gives (piece 2 (line (codes "0")) ∷ piece 3 (line (codes "1")) ∷ []) Cut 3
unfolding shows digits
is_cut = refl

-- iteration 2 divides by zero
divides : Func
divides = function 1 2 (t.Int ∷ []) t.Void 5
    (i.Print 0 1 ∷ i.Int 1 (pos 2) ∷ i.Cmp 2 0 0 1 ∷ i.Unless 2 6 ∷ i.Int 3 (pos 0) ∷ i.Div 4 0 3 (at 37) ∷ i.RetVoid ∷ [])

traps : run_code (over_numbers [] (pos 0) (pos 8) [] (divides ∷ []) []) no_input 20
    ≡ gives (piece 2 (line (codes "0")) ∷ piece 3 (line (codes "1")) ∷ piece 4 (line (codes "2")) ∷ [])
    (trap DivisionByZero (at 37) (frame (codes "iteration 2") (at 3) ∷ in_main)) 4
unfolding divides digits
traps = refl

too_wide : run_code (over_numbers [] (pos 0) (pos 1048577) [] (shows ∷ []) []) no_input 20 ≡ gives [] (trap LoopTooWide (at 3) in_main) 1
unfolding shows
too_wide = refl

no_array_kind : run_code (over_numbers [] (pos 5) (pos 2) [] (function 1 2 (t.Int ∷ []) t.Int 1 (i.Ret 0 ∷ []) ∷ []) []) no_input 20 ≡ gives [] Wrong 1
no_array_kind = refl

-- ---- values

-- the array is made after the last iteration
abbrev numbers_of : Parts → ℕ → List ℕ → ℕ → Type 0
numbers_of code tick text ticks = run_code code no_input 20 ≡ gives (piece tick text ∷ []) Done ticks

no_iterations : numbers_of (over_numbers (k.Array t.Int ∷ []) (pos 5) (pos 2) [] (function 1 2 (t.Int ∷ []) t.Int 1 (i.Ret 0 ∷ []) ∷ [])
    (i.Borrow 3 2 ∷ i.Len 4 3 (at 8) ∷ i.Print 4 0 ∷ i.Destroy 2 (at 9) ∷ [])) 2 (codes "0") 3
unfolding digits
no_iterations = refl

squares : numbers_of (over_numbers (k.Array t.Int ∷ []) (pos 4) (pos 7) [] (function 1 2 (t.Int ∷ []) t.Int 2 (i.Mul 1 0 0 (at 7) ∷ i.Ret 1 ∷ []) ∷ [])
    (i.Int 3 (pos 1) ∷ i.ElemOwn 4 2 3 (at 8) ∷ i.Print 4 0 ∷ i.Destroy 2 (at 9) ∷ [])) 5 (codes "25") 6
unfolding digits
squares = refl

-- each iteration gets the captured values
captures : numbers_of (over_numbers (k.Array t.Int ∷ []) (pos 4) (pos 7) (1 ∷ []) (function 1 2 (t.Int ∷ t.Int ∷ []) t.Int 3 (i.Mul 2 0 1 (at 7) ∷ i.Ret 2 ∷ []) ∷ [])
    (i.Int 3 (pos 1) ∷ i.ElemOwn 4 2 3 (at 8) ∷ i.Print 4 0 ∷ i.Destroy 2 (at 9) ∷ [])) 5 (codes "35") 6
unfolding digits
captures = refl

-- a loop in an iteration: the numbers of iterations of 0..0, 0..1 and 0..2
abbrev nested : Parts
nested = over_numbers (k.Array t.Int ∷ []) (pos 0) (pos 3) []
    (function 1 2 (t.Int ∷ []) t.Int 5 (i.Int 1 (pos 0) ∷ i.ParRange 2 1 0 2 [] (at 20) ∷ i.Borrow 3 2 ∷ i.Len 4 3 (at 21) ∷ i.Destroy 2 (at 22) ∷ i.Ret 4 ∷ [])
    ∷ function 2 2 (t.Int ∷ []) t.Int 1 (i.Ret 0 ∷ []) ∷ [])
    (i.Int 3 (pos 2) ∷ i.ElemOwn 4 2 3 (at 8) ∷ i.Print 4 0 ∷ i.Destroy 2 (at 9) ∷ [])

loops_in_iterations : numbers_of nested 14 (codes "2") 15
unfolding digits
loops_in_iterations = refl

-- ---- isolates

-- an iteration makes an object of its number, and another one adds 1 to an object
makes : Func
makes = function 1 2 (t.Int ∷ []) (t.Own (kind 0)) 2 (i.Make 1 (kind 0) (0 ∷ []) ∷ i.Ret 1 ∷ [])

adds : Func
adds = function 2 2 (t.Iso (kind 0) ∷ []) (t.Own (kind 0)) 4
    (i.Merge 1 0 ∷ i.LoadOwn 2 1 0 ∷ i.Int 3 (pos 1) ∷ i.Add 2 2 3 (at 20) ∷ i.SwapOwn 3 1 0 2 ∷ i.Ret 1 ∷ [])

abbrev ships : Parts
ships = over_numbers (struct None (t.Int ∷ []) ∷ k.Array (t.Iso (kind 0)) ∷ []) (pos 40) (pos 42) [] (makes ∷ adds ∷ [])
    (i.ParEach 3 2 2 [] (at 4) ∷ i.Borrow 4 3 ∷ i.Pop 5 4 (at 5) ∷ i.Merge 6 5 ∷ i.LoadOwn 7 6 0 ∷ i.Print 7 0 ∷ i.Destroy 6 (at 9) ∷ i.Destroy 3 (at 9) ∷ [])

makes_isolates : numbers_of ships 10 (codes "42") 13
unfolding makes adds digits
makes_isolates = refl

-- ---- the need

-- Both iterations of the first loop make an object; then there are the array and its two isolates. 4 objects are made in all.
needs : need ships no_input 20 1 ≡ 3
unfolding makes adds
needs = refl

needs_more : need ships no_input 20 18446744073709551615 ≡ 3 + 4
unfolding makes adds
needs_more = refl
