-- What is certified and what is refused, in short codes.
use Rattle.std.proofs.Common.{◌≡◌, ℕ, pos, List, [], ◌∷◌, Option, Some, None, true, false, refl}
use Rattle.std.specs.Prelude.{codes}
use Rattle.vale_base.specs.declared.name.Kind.{Kind}
use Rattle.vale_base.specs.declared.spot.Spot.{Spot}
use Rattle.vale_code.specs.Parts.{Parts}
use Rattle.vale_code.specs.declared.func.Func.{Func}
use Rattle.vale_code.specs.declared.func.Impl.{Impl}
use Rattle.vale_code.specs.declared.instr.Instr.{Instr}
use Rattle.vale_code.specs.declared.instr.Instr.TheVariants as i
use Rattle.vale_code.specs.declared.kind.KindInfo.{KindInfo}
use Rattle.vale_code.specs.declared.kind.KindInfo.TheVariants as k
use Rattle.vale_code.specs.declared.kind.MethodInfo.{MethodInfo}
use Rattle.vale_code.specs.declared.ty.Ty.{Ty}
use Rattle.vale_code.specs.declared.ty.Ty.TheVariants as t
use Rattle.vale_cert.specs.Certificate.{first_fault}
use Rattle.vale_cert.specs.declared.facts.FuncFacts.{FuncFacts}
use Rattle.vale_cert.specs.declared.facts.Label.{Label}
use Rattle.vale_cert.specs.declared.facts.RegFact.{RegFact}
use Rattle.vale_cert.specs.declared.facts.RegFact.TheVariants.{Empty, Held}
use Rattle.vale_cert.specs.declared.fault.Fault.{Fault}

-- ---- words

abbrev pub at : Spot
at = record { line = 1; col = 1 }

abbrev pub kind : ℕ → Kind
kind n = record { 0 = n }

abbrev pub function : ℕ → List Ty → Ty → List Instr → Func
function form params result body = record { name = 0; form = form; params = params; result = result; registers = 4; body = body }

abbrev pub plain : List Ty → Ty → List Instr → Func
plain params result body = function 0 params result body

abbrev pub code : List KindInfo → List Impl → List Func → Parts
code kinds impls funcs = record { texts = codes "main" ∷ []; kinds = kinds; impls = impls; funcs = funcs; main = 0 }

abbrev pub facts : List Label → FuncFacts
facts labels = record { live = []; labels = labels }

abbrev label : ℕ → List RegFact → Label
label p regs = record { at = p; depth = 0; regs = regs }

abbrev number : RegFact
number = Held t.Int 0 false

abbrev owner : RegFact
owner = Held (t.Own (kind 0)) 0 false

abbrev pub fails : ℕ → ℕ → Option Fault
fails rule n = Some (record { rule = rule; at = n })

-- only `main`, with these labels
abbrev of_main : List Instr → List Label → Option Fault
of_main body labels = first_fault (code [] [] (plain [] t.Void body ∷ [])) (facts labels ∷ [])

-- `main` and a function that it may call
abbrev of_two : Func → List Instr → Option Fault
of_two f body = first_fault (code [] [] (plain [] t.Void body ∷ f ∷ [])) (facts [] ∷ facts [] ∷ [])

-- `main` over these kinds and implementations, with a function
abbrev of_kinds : List KindInfo → List Impl → Func → Option Fault
of_kinds kinds impls f = first_fault (code kinds impls (plain [] t.Void (i.RetVoid ∷ []) ∷ f ∷ [])) (facts [] ∷ facts [] ∷ [])

-- ---- certified

prints_seven : of_main (i.Int 0 (pos 7) ∷ i.Print 0 1 ∷ i.RetVoid ∷ []) [] ≡ None
prints_seven = refl

-- the same in another order: the register that is printed is empty
prints_nothing : of_main (i.Print 0 1 ∷ i.Int 0 (pos 7) ∷ i.RetVoid ∷ []) [] ≡ fails 3 0
prints_nothing = refl

-- a loop: a label at its first instruction and after it
counts : of_main
    (i.Int 0 (pos 0) ∷ i.Int 1 (pos 3) ∷ i.Tick ∷ i.Add 0 0 1 at ∷ i.Cmp 2 2 0 1 ∷ i.Unless 2 7 ∷ i.Jump 2 ∷ i.RetVoid ∷ [])
    (label 2 (number ∷ number ∷ Empty ∷ Empty ∷ []) ∷ label 7 (Empty ∷ Empty ∷ Empty ∷ Empty ∷ []) ∷ []) ≡ None
counts = refl

calls : of_two (plain (t.Int ∷ t.Int ∷ []) t.Int (i.Add 2 0 1 at ∷ i.Ret 2 ∷ [])) (i.Int 3 (pos 1) ∷ i.Call 0 1 (3 ∷ 3 ∷ []) at ∷ i.Print 0 1 ∷ i.RetVoid ∷ []) ≡ None
calls = refl

-- `d` of a void result isn't looked at
calls_for_nothing : of_two (plain [] t.Void (i.RetVoid ∷ [])) (i.Call 99 1 [] at ∷ i.RetVoid ∷ []) ≡ None
calls_for_nothing = refl

-- ---- rule 1

number_outside : of_main (i.Int 4 (pos 7) ∷ i.RetVoid ∷ []) [] ≡ fails 1 0
number_outside = refl

no_instruction : of_main [] [] ≡ fails 1 0
no_instruction = refl

no_facts : first_fault (code [] [] (plain [] t.Void (i.RetVoid ∷ []) ∷ [])) [] ≡ fails 1 0
no_facts = refl

too_many_facts : first_fault (code [] [] (plain [] t.Void (i.RetVoid ∷ []) ∷ [])) (facts [] ∷ facts [] ∷ []) ≡ fails 1 1
too_many_facts = refl

no_main : first_fault (record (code [] [] (plain [] t.Void (i.RetVoid ∷ []) ∷ [])) { main = 1 }) (facts [] ∷ []) ≡ fails 1 1
no_main = refl

main_with_a_result : first_fault (code [] [] (plain [] t.Int (i.Int 0 (pos 7) ∷ i.Ret 0 ∷ []) ∷ [])) (facts [] ∷ []) ≡ fails 1 0
main_with_a_result = refl

too_few_registers : of_two (plain (t.Int ∷ t.Int ∷ t.Int ∷ t.Int ∷ t.Int ∷ []) t.Void (i.RetVoid ∷ [])) (i.RetVoid ∷ []) ≡ fails 1 1
too_few_registers = refl

live_of_a_plain_function : first_fault (code [] [] (plain [] t.Void (i.RetVoid ∷ []) ∷ [])) (record { live = 0 ∷ []; labels = [] } ∷ []) ≡ fails 1 0
live_of_a_plain_function = refl

label_outside : of_main (i.RetVoid ∷ []) (label 1 (Empty ∷ Empty ∷ Empty ∷ Empty ∷ []) ∷ []) ≡ fails 1 0
label_outside = refl

label_of_too_few : of_main (i.RetVoid ∷ []) (label 0 (Empty ∷ Empty ∷ []) ∷ []) ≡ fails 1 0
label_of_too_few = refl

abbrev struct : List Ty → KindInfo
struct [] = k.Struct 0 None []
struct (ty ∷ tys) = k.Struct 0 None (record { ty = ty; mutable = false } ∷ [])

abbrev nothing : Func
nothing = plain [] t.Void (i.RetVoid ∷ [])

field_of_isolates : of_kinds (struct (t.Own (kind 1) ∷ []) ∷ k.Array (t.Iso (kind 2)) ∷ struct [] ∷ []) [] nothing ≡ fails 1 0
field_of_isolates = refl

elements_that_are_isolates : of_kinds (k.Array (t.Iso (kind 1)) ∷ struct [] ∷ []) [] nothing ≡ None
elements_that_are_isolates = refl

-- the struct leads to an array of isolates by a reference
isolate_that_reaches_isolates : of_kinds (struct (t.Ref (kind 1) ∷ []) ∷ k.Array (t.Iso (kind 2)) ∷ struct [] ∷ []) [] (plain (t.Iso (kind 0) ∷ []) t.Void (i.Jump 0 ∷ [])) ≡ fails 1 4
isolate_that_reaches_isolates = refl

pure_with_a_reference : of_kinds (struct [] ∷ []) [] (function 1 (t.Ref (kind 0) ∷ []) t.Void (i.RetVoid ∷ [])) ≡ fails 1 2
pure_with_a_reference = refl

iteration_without_an_item : of_kinds [] [] (function 2 [] t.Void (i.RetVoid ∷ [])) ≡ fails 1 1
iteration_without_an_item = refl

destructor_of_nothing : of_kinds [] [] (function 3 [] t.Void (i.RetVoid ∷ [])) ≡ fails 1 1
destructor_of_nothing = refl

struct_with_a_plain_destructor : of_kinds (k.Struct 0 (Some 1) [] ∷ []) [] nothing ≡ fails 1 0
struct_with_a_plain_destructor = refl

abbrev method : MethodInfo
method = record { name = 0; is_pure = false; params = t.Ref (kind 0) ∷ []; result = t.Void }

abbrev of_method : MethodInfo → List Impl → Option Fault
of_method m impls = of_kinds (k.Interface 0 (m ∷ []) ∷ struct [] ∷ []) impls (plain (t.Ref (kind 1) ∷ []) t.Void (i.RetVoid ∷ []))

abbrev impl : List ℕ → Impl
impl funcs = record { interface = kind 0; of = kind 1; funcs = funcs }

implements : of_method method (impl (1 ∷ []) ∷ []) ≡ None
implements = refl

implements_by_another : of_method method (impl (0 ∷ []) ∷ []) ≡ fails 1 2
implements_by_another = refl

implements_too_little : of_method method (impl [] ∷ []) ≡ fails 1 2
implements_too_little = refl

implements_twice : of_method method (impl (1 ∷ []) ∷ impl (1 ∷ []) ∷ []) ≡ fails 1 3
implements_twice = refl

pure_method_with_a_reference : of_method (record method { is_pure = true }) [] ≡ fails 1 0
pure_method_with_a_reference = refl

-- ---- rule 2

sum_of_a_truth : of_main (i.Int 0 (pos 7) ∷ i.Truth 1 0 ∷ i.Add 2 0 1 at ∷ i.RetVoid ∷ []) [] ≡ fails 2 2
sum_of_a_truth = refl

-- an empty register and one of another type: rule 2 is the lower one
sum_of_a_truth_and_nothing : of_main (i.Truth 1 0 ∷ i.Add 2 0 1 at ∷ i.RetVoid ∷ []) [] ≡ fails 2 1
sum_of_a_truth_and_nothing = refl

order_of_truths : of_main (i.Truth 0 0 ∷ i.Cmp 1 2 0 0 ∷ i.RetVoid ∷ []) [] ≡ fails 2 1
order_of_truths = refl

equal_truths : of_main (i.Truth 0 0 ∷ i.Cmp 1 1 0 0 ∷ i.RetVoid ∷ []) [] ≡ None
equal_truths = refl

too_few_arguments : of_two (plain (t.Int ∷ []) t.Void (i.RetVoid ∷ [])) (i.Call 0 1 [] at ∷ i.RetVoid ∷ []) ≡ fails 2 0
too_few_arguments = refl

call_of_a_pure_function : of_two (function 1 [] t.Void (i.RetVoid ∷ [])) (i.Call 0 1 [] at ∷ i.RetVoid ∷ []) ≡ fails 2 0
call_of_a_pure_function = refl

value_of_nothing : of_main (i.Int 0 (pos 7) ∷ i.Ret 0 ∷ []) [] ≡ fails 2 1
value_of_nothing = refl

nothing_for_a_value : of_two (plain [] t.Int (i.RetVoid ∷ [])) (i.RetVoid ∷ []) ≡ fails 2 1
nothing_for_a_value = refl

not_yet : of_main (i.Int 0 (pos 7) ∷ i.Move 1 0 ∷ i.RetVoid ∷ []) [] ≡ fails 2 1
not_yet = refl

-- ---- rule 3

abbrev of_owner : List Instr → Option Fault
of_owner body = of_kinds (struct [] ∷ []) [] (plain (t.Own (kind 0) ∷ []) t.Void body)

owner_overwritten : of_owner (i.Int 0 (pos 7) ∷ i.RetVoid ∷ []) ≡ fails 3 1
owner_overwritten = refl

owner_left_there : of_owner (i.RetVoid ∷ []) ≡ fails 3 1
owner_left_there = refl

owner_handed_on : of_owner (i.Call 0 1 (0 ∷ []) at ∷ i.RetVoid ∷ []) ≡ None
owner_handed_on = refl

owner_handed_on_twice : of_owner (i.Call 0 1 (0 ∷ []) at ∷ i.Call 0 1 (0 ∷ []) at ∷ i.RetVoid ∷ []) ≡ fails 3 2
owner_handed_on_twice = refl

owner_printed : of_owner (i.Print 0 1 ∷ i.RetVoid ∷ []) ≡ fails 2 1
owner_printed = refl

-- ---- rules 4, 5 and 7

abbrev deep : Label
deep = record { at = 1; depth = 1; regs = Held (t.Ref (kind 0)) 0 false ∷ Empty ∷ Empty ∷ Empty ∷ [] }

abbrev of_reference : List Instr → List Label → Option Fault
of_reference body labels =
    first_fault (code (struct [] ∷ []) [] (plain [] t.Void (i.RetVoid ∷ []) ∷ plain (t.Ref (kind 0) ∷ []) t.Void body ∷ [])) (facts [] ∷ facts labels ∷ [])

copy_of_a_reference : of_reference (i.Copy 1 0 ∷ i.RetVoid ∷ []) [] ≡ None
copy_of_a_reference = refl

-- no way leads to the label: what it states is believed
copy_at_another_depth : of_reference (i.RetVoid ∷ i.Copy 1 0 ∷ i.RetVoid ∷ []) (deep ∷ []) ≡ fails 4 2
copy_at_another_depth = refl

left_at_another_depth : of_reference (i.RetVoid ∷ i.RetVoid ∷ []) (deep ∷ []) ≡ fails 4 2
left_at_another_depth = refl

another_depth_entered : of_reference (i.Tick ∷ i.Copy 1 0 ∷ i.RetVoid ∷ []) (deep ∷ []) ≡ fails 5 1
another_depth_entered = refl

label_asks_for_too_much : of_main (i.Tick ∷ i.RetVoid ∷ []) (label 1 (number ∷ Empty ∷ Empty ∷ Empty ∷ []) ∷ []) ≡ fails 5 0
label_asks_for_too_much = refl

entry_asks_for_too_much : of_main (i.RetVoid ∷ []) (label 0 (number ∷ Empty ∷ Empty ∷ Empty ∷ []) ∷ []) ≡ fails 5 0
entry_asks_for_too_much = refl

label_forgets_an_owner : first_fault
    (code (struct [] ∷ []) [] (plain [] t.Void (i.RetVoid ∷ []) ∷ plain (t.Own (kind 0) ∷ []) t.Void (i.Jump 1 ∷ i.Jump 1 ∷ []) ∷ []))
    (facts [] ∷ facts (label 1 (Empty ∷ Empty ∷ Empty ∷ Empty ∷ []) ∷ []) ∷ []) ≡ fails 5 1
label_forgets_an_owner = refl

-- a value where none is returned, empty or not
nothing_is_returned_as_a_value : of_main (i.Ret 0 ∷ []) [] ≡ fails 2 0
nothing_is_returned_as_a_value = refl

jump_to_no_label : of_main (i.Jump 0 ∷ []) [] ≡ fails 7 0
jump_to_no_label = refl

jump_to_itself : of_main (i.Jump 0 ∷ []) (label 0 (Empty ∷ Empty ∷ Empty ∷ Empty ∷ []) ∷ []) ≡ None
jump_to_itself = refl

past_the_end : of_main (i.Tick ∷ []) [] ≡ fails 7 0
past_the_end = refl

after_the_end : of_main (i.RetVoid ∷ i.RetVoid ∷ []) [] ≡ fails 7 1
after_the_end = refl

-- before every other rule at the first instruction
labels_that_fall : of_main (i.Print 0 1 ∷ i.Tick ∷ i.RetVoid ∷ []) (label 2 (Empty ∷ Empty ∷ Empty ∷ Empty ∷ []) ∷ label 1 (Empty ∷ Empty ∷ Empty ∷ Empty ∷ []) ∷ []) ≡ fails 7 0
labels_that_fall = refl
