-- What the instructions on arrays do, in short codes.
use Rattle.std.proofs.Common.{◌≡◌, ℕ, pos, negsuc, List, [], ◌∷◌, ◌++◌, refl}
use Rattle.std.specs.Fmt.{digits}
use Rattle.std.specs.Prelude.{codes}
use Rattle.vale_state_spec.specs.Outcome.{Done, Wrong}
use Rattle.vale_state_spec.specs.State.{no_input}
use Rattle.vale_base.specs.declared.trap.TrapKind.{TrapKind}
use Rattle.vale_base.specs.declared.trap.TrapKind.TheVariants.{DeadReference, IndexOutOfRange, EmptyPop}
use Rattle.vale_code.proofs.Codes.{at, kind, main_of, code_of, piece, gives, in_main, trap}
use Rattle.vale_code.specs.Parts.{Parts}
use Rattle.vale_code.specs.Run.{run_code}
use Rattle.vale_code.specs.declared.instr.Instr.{Instr}
use Rattle.vale_code.specs.declared.instr.Instr.TheVariants as i
use Rattle.vale_code.specs.declared.kind.KindInfo.TheVariants as k
use Rattle.vale_code.specs.declared.ty.Ty.TheVariants as t

-- an array of 5 and 6 in register 1, and a reference to it in register 2; register 0 is 0, and register 3 is 1
abbrev of_array : List Instr → Parts
of_array body = code_of (k.Array t.Int ∷ []) []
    (main_of (i.Int 3 (pos 5) ∷ i.Int 4 (pos 6) ∷ i.Make 1 (kind 0) (3 ∷ 4 ∷ []) ∷ i.Borrow 2 1 ∷ i.Int 0 (pos 0) ∷ i.Int 3 (pos 1) ∷ body ++ i.RetVoid ∷ []) ∷ [])

abbrev prints : List Instr → List ℕ → Type 0
prints body text = run_code (of_array (body ++ i.Print 5 0 ∷ [])) no_input 10 ≡ gives (piece 2 text ∷ []) Done 2

abbrev traps : List Instr → TrapKind → Type 0
traps body why = run_code (of_array body) no_input 10 ≡ gives [] (trap why (at 7) in_main) 2

abbrev traps_dead : List Instr → Type 0
traps_dead body = run_code (of_array (i.Destroy 1 (at 6) ∷ body)) no_input 10 ≡ gives [] (trap DeadReference (at 7) in_main) 3

abbrev is_wrong_dead : List Instr → Type 0
is_wrong_dead body = run_code (of_array (i.Destroy 1 (at 6) ∷ body)) no_input 10 ≡ gives [] Wrong 3

element : prints (i.Elem 5 2 3 (at 7) ∷ []) (codes "6")
unfolding digits
element = refl

element_elided : prints (i.ElemLive 5 2 3 (at 7) ∷ []) (codes "6")
unfolding digits
element_elided = refl

element_of_an_owner : prints (i.ElemOwn 5 1 0 (at 7) ∷ []) (codes "5")
unfolding digits
element_of_an_owner = refl

element_out_of_range : traps (i.Int 6 (pos 2) ∷ i.Elem 5 2 6 (at 7) ∷ []) IndexOutOfRange
element_out_of_range = refl

element_below_zero : traps (i.Int 6 (negsuc 0) ∷ i.ElemOwn 5 1 6 (at 7) ∷ []) IndexOutOfRange
element_below_zero = refl

element_elided_out_of_range : traps (i.Int 6 (pos 2) ∷ i.ElemLive 5 2 6 (at 7) ∷ []) IndexOutOfRange
element_elided_out_of_range = refl

-- the object is tested before the range
element_of_the_dead : traps_dead (i.Int 6 (pos 2) ∷ i.Elem 5 2 6 (at 7) ∷ [])
element_of_the_dead = refl

element_elided_of_the_dead : is_wrong_dead (i.ElemLive 5 2 0 (at 7) ∷ [])
element_elided_of_the_dead = refl

length : prints (i.Len 5 2 (at 7) ∷ []) (codes "2")
unfolding digits
length = refl

length_elided : prints (i.LenLive 5 2 ∷ []) (codes "2")
unfolding digits
length_elided = refl

length_of_the_dead : traps_dead (i.Len 5 2 (at 7) ∷ [])
length_of_the_dead = refl

length_elided_of_the_dead : is_wrong_dead (i.LenLive 5 2 ∷ [])
length_elided_of_the_dead = refl

swapped : prints (i.Int 6 (pos 9) ∷ i.SwapEl 5 2 0 6 (at 7) ∷ i.Elem 6 2 0 (at 8) ∷ i.Add 5 5 6 (at 9) ∷ []) (codes "14")
unfolding digits
swapped = refl

swapped_of_an_owner : prints (i.Int 6 (pos 9) ∷ i.SwapElOwn 5 1 0 6 (at 7) ∷ i.ElemOwn 6 1 0 (at 8) ∷ i.Add 5 5 6 (at 9) ∷ []) (codes "14")
unfolding digits
swapped_of_an_owner = refl

swapped_out_of_range : traps (i.Int 6 (pos 2) ∷ i.SwapEl 5 2 6 0 (at 7) ∷ []) IndexOutOfRange
swapped_out_of_range = refl

swapped_of_the_dead : traps_dead (i.SwapEl 5 2 0 0 (at 7) ∷ [])
swapped_of_the_dead = refl

pushed : prints (i.Push 2 0 (at 7) ∷ i.Len 5 2 (at 8) ∷ []) (codes "3")
unfolding digits
pushed = refl

pushed_to_the_dead : traps_dead (i.Push 2 0 (at 7) ∷ [])
pushed_to_the_dead = refl

popped : prints (i.Pop 5 2 (at 7) ∷ i.Len 6 2 (at 8) ∷ i.Add 5 5 6 (at 9) ∷ []) (codes "7")
unfolding digits
popped = refl

popped_of_none : traps (i.Pop 5 2 (at 8) ∷ i.Pop 5 2 (at 8) ∷ i.Pop 5 2 (at 7) ∷ []) EmptyPop
popped_of_none = refl

popped_of_the_dead : traps_dead (i.Pop 5 2 (at 7) ∷ [])
popped_of_the_dead = refl
