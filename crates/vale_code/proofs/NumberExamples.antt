-- What the instructions on numbers, truths and texts do, in short codes.
use Rattle.std.proofs.Common.{◌≡◌, ℕ, ℤ, pos, negsuc, List, [], ◌∷◌, ◌++◌, refl}
use Rattle.std.specs.Fmt.{digits}
use Rattle.std.specs.Prelude.{codes}
use Rattle.vale_state_spec.specs.Outcome.{Done, Cut, Wrong}
use Rattle.vale_state_spec.specs.State.{no_input}
use Rattle.vale_base.specs.declared.trap.TrapKind.{TrapKind}
use Rattle.vale_base.specs.declared.trap.TrapKind.TheVariants.{Overflow, DivisionByZero, IndexOutOfRange, NotANumber}
use Rattle.vale_code.proofs.Codes.{at, main_of, alone, line, piece, gives, in_main, trap}
use Rattle.vale_code.specs.Parts.{Parts}
use Rattle.vale_code.specs.Run.{run_code}
use Rattle.vale_code.specs.declared.instr.Instr.{Instr}
use Rattle.vale_code.specs.declared.instr.Instr.TheVariants as i

-- two numbers, an operation on them, and its result printed
abbrev of_two : ℤ → ℤ → Instr → Parts
of_two x y instr = alone (i.Int 0 x ∷ i.Int 1 y ∷ instr ∷ i.Print 2 1 ∷ [])

abbrev prints : Parts → List ℕ → Type 0
prints code text = run_code code no_input 10 ≡ gives (piece 1 (line text) ∷ []) Done 1

abbrev traps : Parts → TrapKind → Type 0
traps code why = run_code code no_input 10 ≡ gives [] (trap why (at 7) in_main) 1

abbrev most : ℤ
most = pos 9223372036854775807

abbrev least : ℤ
least = negsuc 9223372036854775807

-- ---- numbers

seven : prints (alone (i.Int 0 (pos 7) ∷ i.Print 0 1 ∷ [])) (codes "7")
unfolding digits
seven = refl

no_line_feed : run_code (alone (i.Int 0 (pos 7) ∷ i.Print 0 0 ∷ [])) no_input 10 ≡ gives (piece 1 (codes "7") ∷ []) Done 1
unfolding digits
no_line_feed = refl

main_needs_a_tick : run_code (alone []) no_input 0 ≡ gives [] Cut 0
main_needs_a_tick = refl

sum : prints (of_two (pos 1) (pos 2) (i.Add 2 0 1 (at 7))) (codes "3")
unfolding digits
sum = refl

sum_too_great : traps (of_two most (pos 1) (i.Add 2 0 1 (at 7))) Overflow
sum_too_great = refl

difference : prints (of_two (pos 1) (pos 2) (i.Sub 2 0 1 (at 7))) (codes "-1")
unfolding digits
difference = refl

product : prints (of_two (pos 6) (negsuc 6) (i.Mul 2 0 1 (at 7))) (codes "-42")
unfolding digits
product = refl

quotient : prints (of_two (negsuc 6) (pos 2) (i.Div 2 0 1 (at 7))) (codes "-3")
unfolding digits
quotient = refl

no_quotient : traps (of_two (pos 1) (pos 0) (i.Div 2 0 1 (at 7))) DivisionByZero
no_quotient = refl

quotient_too_great : traps (of_two least (negsuc 0) (i.Div 2 0 1 (at 7))) Overflow
quotient_too_great = refl

remainder : prints (of_two (negsuc 6) (pos 2) (i.Rem 2 0 1 (at 7))) (codes "-1")
unfolding digits
remainder = refl

no_remainder : traps (of_two (pos 1) (pos 0) (i.Rem 2 0 1 (at 7))) DivisionByZero
no_remainder = refl

-- ---- truths

equal : prints (of_two (pos 2) (pos 2) (i.Cmp 2 0 0 1)) (codes "true")
equal = refl

unequal : prints (of_two (pos 2) (pos 2) (i.Cmp 2 1 0 1)) (codes "false")
unequal = refl

less : prints (of_two (negsuc 1) (pos 2) (i.Cmp 2 2 0 1)) (codes "true")
less = refl

at_most : prints (of_two (pos 2) (pos 2) (i.Cmp 2 3 0 1)) (codes "true")
at_most = refl

greater : prints (of_two (pos 2) (pos 2) (i.Cmp 2 4 0 1)) (codes "false")
greater = refl

at_least : prints (of_two (pos 1) (pos 2) (i.Cmp 2 5 0 1)) (codes "false")
at_least = refl

no_such_comparison : run_code (of_two (pos 1) (pos 2) (i.Cmp 2 6 0 1)) no_input 10 ≡ gives [] Wrong 1
no_such_comparison = refl

opposite : prints (alone (i.Truth 0 1 ∷ i.Not 2 0 ∷ i.Print 2 1 ∷ [])) (codes "false")
opposite = refl

-- ---- texts

abbrev of_texts : List ℕ → List ℕ → List Instr → Parts
of_texts s t body = record {
  texts = codes "main" ∷ s ∷ t ∷ [];
  kinds = [];
  impls = [];
  funcs = main_of (i.Text 0 1 ∷ i.Text 1 2 ∷ body ++ i.Print 2 1 ∷ i.RetVoid ∷ []) ∷ [];
  main = 0;
}

joined : prints (of_texts (codes "ab") (codes "c") (i.Join 2 0 1 (at 7) ∷ [])) (codes "abc")
joined = refl

text_length : prints (of_texts (codes "ab") [] (i.TextLen 2 0 ∷ [])) (codes "2")
unfolding digits
text_length = refl

sliced : prints (of_texts (codes "abcd") [] (i.Int 3 (pos 1) ∷ i.Int 4 (pos 3) ∷ i.Slice 2 0 3 4 (at 7) ∷ [])) (codes "bc")
sliced = refl

sliced_too_far : traps (of_texts (codes "abcd") [] (i.Int 3 (pos 1) ∷ i.Int 4 (pos 5) ∷ i.Slice 2 0 3 4 (at 7) ∷ [])) IndexOutOfRange
sliced_too_far = refl

one_byte : prints (of_texts (codes "ab") [] (i.Int 3 (pos 1) ∷ i.Byte 2 0 3 (at 7) ∷ [])) (codes "98")
unfolding digits
one_byte = refl

number_text : prints (alone (i.Int 0 (negsuc 11) ∷ i.TextOf 2 0 ∷ i.Print 2 1 ∷ [])) (codes "-12")
unfolding digits
number_text = refl

is_a_number : prints (of_texts (codes "-0") [] (i.IsNum 2 0 ∷ [])) (codes "true")
is_a_number = refl

number_in_a_text : prints (of_texts (codes "-12") [] (i.Num 2 0 (at 7) ∷ [])) (codes "-12")
unfolding digits
number_in_a_text = refl

no_number_in_a_text : traps (of_texts (codes "-") [] (i.Num 2 0 (at 7) ∷ [])) NotANumber
no_number_in_a_text = refl

-- ---- registers

copies : prints (alone (i.Int 0 (pos 5) ∷ i.Copy 1 0 ∷ i.Print 0 1 ∷ [])) (codes "5")
unfolding digits
copies = refl

empty_register : run_code (alone (i.Print 0 1 ∷ [])) no_input 10 ≡ gives [] Wrong 1
empty_register = refl

numbers_are_not_moved : run_code (alone (i.Int 0 (pos 5) ∷ i.Move 1 0 ∷ [])) no_input 10 ≡ gives [] Wrong 1
numbers_are_not_moved = refl

-- ---- jumps

-- prints the numbers below 3; the body begins with the tick of the turn
abbrev counting : Parts
counting = alone
    (i.Int 0 (pos 0) ∷ i.Int 1 (pos 3) ∷ i.Int 2 (pos 1) ∷ i.Jump 7
    ∷ i.Tick ∷ i.Print 0 1 ∷ i.Add 0 0 2 (at 7)
    ∷ i.Cmp 3 2 0 1 ∷ i.Unless 3 10 ∷ i.Jump 4 ∷ [])

counts : run_code counting no_input 10 ≡ gives (piece 2 (line (codes "0")) ∷ piece 3 (line (codes "1")) ∷ piece 4 (line (codes "2")) ∷ []) Done 4
unfolding digits
counts = refl

is_cut : run_code counting no_input 3 ≡ gives (piece 2 (line (codes "0")) ∷ piece 3 (line (codes "1")) ∷ []) Cut 3
unfolding digits
is_cut = refl

-- a jump back to what is no tick spends one, and so does an `unless` that is taken
jumps_on_the_spot : run_code (alone (i.Jump 0 ∷ [])) no_input 5 ≡ gives [] Cut 5
jumps_on_the_spot = refl

unless_on_the_spot : run_code (alone (i.Truth 0 0 ∷ i.Unless 0 1 ∷ [])) no_input 5 ≡ gives [] Cut 5
unless_on_the_spot = refl

unless_not_taken : run_code (alone (i.Truth 0 1 ∷ i.Unless 0 1 ∷ [])) no_input 5 ≡ gives [] Done 1
unless_not_taken = refl

past_the_end : run_code (alone (i.Jump 9 ∷ [])) no_input 5 ≡ gives [] Wrong 1
past_the_end = refl
