-- What is certified and what is refused of instructions on objects, in short codes.
use Rattle.std.proofs.Common.{◌≡◌, ℕ, pos, List, [], ◌∷◌, Option, Some, None, Bool, true, false, refl}
use Rattle.vale_code.specs.declared.func.Impl.{Impl}
use Rattle.vale_code.specs.declared.instr.Instr.{Instr}
use Rattle.vale_code.specs.declared.instr.Instr.TheVariants as i
use Rattle.vale_code.specs.declared.kind.Field.{Field}
use Rattle.vale_code.specs.declared.kind.KindInfo.{KindInfo}
use Rattle.vale_code.specs.declared.kind.KindInfo.TheVariants as k
use Rattle.vale_code.specs.declared.kind.MethodInfo.{MethodInfo}
use Rattle.vale_code.specs.declared.ty.Ty.{Ty}
use Rattle.vale_code.specs.declared.ty.Ty.TheVariants as t
use Rattle.vale_cert.specs.Certificate.{first_fault}
use Rattle.vale_cert.specs.Objects.{has_room}
use Rattle.vale_cert.specs.declared.facts.Label.{Label}
use Rattle.vale_cert.specs.declared.facts.RegFact.{RegFact}
use Rattle.vale_cert.specs.declared.facts.RegFact.TheVariants.{Empty, Held}
use Rattle.vale_cert.specs.declared.fault.Fault.{Fault}
use Rattle.vale_cert.proofs.Examples.{at, kind, function, plain, code, facts, fails}

-- ---- words

-- struct Cell { v! int; }
abbrev cell : Ty
cell = t.Own (kind 0)

abbrev cell_ref : Ty
cell_ref = t.Ref (kind 0)

abbrev cell_imm : Ty
cell_imm = t.Frozen (kind 0)

-- struct Pair { owned! Cell; lent &Cell; }
abbrev pair : Ty
pair = t.Own (kind 1)

abbrev pair_ref : Ty
pair_ref = t.Ref (kind 1)

abbrev pair_imm : Ty
pair_imm = t.Frozen (kind 1)

-- []int, []Cell, []iso Cell
abbrev ints : Ty
ints = t.Own (kind 2)

abbrev ints_ref : Ty
ints_ref = t.Ref (kind 2)

abbrev ints_imm : Ty
ints_imm = t.Frozen (kind 2)

abbrev cells : Ty
cells = t.Own (kind 3)

abbrev cells_ref : Ty
cells_ref = t.Ref (kind 3)

abbrev isolates : Ty
isolates = t.Own (kind 5)

-- interface Shape { func plus(self &Shape, n int) int; func show(self &imm Shape); pure func look(self &imm Shape); }
abbrev shape : Ty
shape = t.Own (kind 4)

abbrev shape_ref : Ty
shape_ref = t.Ref (kind 4)

abbrev shape_imm : Ty
shape_imm = t.Frozen (kind 4)

abbrev field : Bool → Ty → Field
field mutable ty = record { ty = ty; mutable = mutable }

abbrev method : Bool → List Ty → Ty → MethodInfo
method is_pure params result = record { name = 0; is_pure = is_pure; params = params; result = result }

abbrev kinds : List KindInfo
kinds =
    k.Struct 0 None (field true t.Int ∷ [])
    ∷ k.Struct 0 None (field true cell ∷ field false cell_ref ∷ [])
    ∷ k.Array t.Int
    ∷ k.Array cell
    ∷ k.Interface 0 (method false (shape_ref ∷ t.Int ∷ []) t.Int ∷ method false (shape_imm ∷ []) t.Void ∷ method true (shape_imm ∷ []) t.Void ∷ [])
    ∷ k.Array (t.Iso (kind 0)) ∷ []

-- Cell implements Shape
abbrev impls : List Impl
impls = record { interface = kind 4; of = kind 0; funcs = 2 ∷ 3 ∷ 4 ∷ [] } ∷ []

-- `main`, a function with these parameters and this body, whose first instruction has number 1, and the methods
abbrev with_labels : List Ty → List Label → List Instr → Option Fault
with_labels params labels body =
    first_fault
    (code kinds impls
    (plain [] t.Void (i.RetVoid ∷ []) ∷ plain params t.Void body
    ∷ plain (cell_ref ∷ t.Int ∷ []) t.Int (i.Ret 1 ∷ []) ∷ plain (cell_imm ∷ []) t.Void (i.RetVoid ∷ []) ∷ function 1 (cell_imm ∷ []) t.Void (i.RetVoid ∷ []) ∷ []))
    (facts [] ∷ facts labels ∷ facts [] ∷ facts [] ∷ facts [] ∷ [])

abbrev of : List Ty → List Instr → Option Fault
of params body = with_labels params [] body

-- A label that no way leads to: what it states is believed. The first of the instructions has number 2.
abbrev believing : ℕ → RegFact → RegFact → List Instr → Option Fault
believing depth x y body = with_labels [] (record { at = 1; depth = depth; regs = x ∷ y ∷ Empty ∷ Empty ∷ [] } ∷ []) (i.RetVoid ∷ body)

-- what was written at depth 0, used at depth 1
abbrev deeper : Ty → List Instr → Option Fault
deeper ty body = believing 1 (Held ty 0 false) (Held t.Int 0 false) body

-- what was written at depth 1, used at depth 0
abbrev shallower : Ty → List Instr → Option Fault
shallower ty body = believing 0 (Held ty 1 false) (Held t.Int 0 false) body

-- after the first instruction a label states this of the first two registers
abbrev after_first : List Ty → Instr → RegFact → RegFact → Option Fault
after_first params instr x y =
    with_labels params (record { at = 1; depth = 0; regs = x ∷ y ∷ Empty ∷ Empty ∷ [] } ∷ []) (instr ∷ i.RetVoid ∷ [])

-- ---- move

moves : of (cell ∷ []) (i.Move 1 0 ∷ i.Destroy 1 at ∷ i.RetVoid ∷ []) ≡ None
moves = refl

moves_to_itself : of (cell ∷ []) (i.Move 0 0 ∷ i.Destroy 0 at ∷ i.RetVoid ∷ []) ≡ None
moves_to_itself = refl

moves_an_isolate : of (t.Iso (kind 0) ∷ []) (i.Move 1 0 ∷ i.Destroy 1 at ∷ i.RetVoid ∷ []) ≡ None
moves_an_isolate = refl

moves_a_number : of [] (i.Int 0 (pos 7) ∷ i.Move 1 0 ∷ i.RetVoid ∷ []) ≡ fails 2 2
moves_a_number = refl

moves_a_reference : of (cell_ref ∷ []) (i.Move 1 0 ∷ i.RetVoid ∷ []) ≡ fails 2 1
moves_a_reference = refl

moves_nothing : of [] (i.Move 1 0 ∷ i.RetVoid ∷ []) ≡ fails 3 1
moves_nothing = refl

moves_what_was_moved : of (cell ∷ []) (i.Move 1 0 ∷ i.Move 2 0 ∷ i.RetVoid ∷ []) ≡ fails 3 2
moves_what_was_moved = refl

moves_over_an_owner : of (cell ∷ cell ∷ []) (i.Move 0 1 ∷ i.RetVoid ∷ []) ≡ fails 3 1
moves_over_an_owner = refl

moves_at_another_depth : deeper cell (i.Move 2 0 ∷ i.RetVoid ∷ []) ≡ fails 4 2
moves_at_another_depth = refl

-- ---- make

makes_a_struct : of [] (i.Int 0 (pos 7) ∷ i.Make 1 (kind 0) (0 ∷ []) ∷ i.Destroy 1 at ∷ i.RetVoid ∷ []) ≡ None
makes_a_struct = refl

makes_an_array : of [] (i.Int 0 (pos 7) ∷ i.Make 1 (kind 2) (0 ∷ 0 ∷ []) ∷ i.Destroy 1 at ∷ i.RetVoid ∷ []) ≡ None
makes_an_array = refl

makes_an_array_of_no_isolates : of [] (i.Make 0 (kind 5) [] ∷ i.Destroy 0 at ∷ i.RetVoid ∷ []) ≡ None
makes_an_array_of_no_isolates = refl

makes_of_an_owner_in_its_place : of (cell ∷ []) (i.Make 0 (kind 3) (0 ∷ []) ∷ i.Destroy 0 at ∷ i.RetVoid ∷ []) ≡ None
makes_of_an_owner_in_its_place = refl

makes_an_interface : of [] (i.Make 0 (kind 4) [] ∷ i.RetVoid ∷ []) ≡ fails 2 1
makes_an_interface = refl

makes_of_too_few : of [] (i.Make 0 (kind 0) [] ∷ i.RetVoid ∷ []) ≡ fails 2 1
makes_of_too_few = refl

makes_of_too_many : of [] (i.Int 0 (pos 7) ∷ i.Make 1 (kind 0) (0 ∷ 0 ∷ []) ∷ i.RetVoid ∷ []) ≡ fails 2 2
makes_of_too_many = refl

makes_of_another_type : of [] (i.Truth 0 0 ∷ i.Make 1 (kind 0) (0 ∷ []) ∷ i.RetVoid ∷ []) ≡ fails 2 2
makes_of_another_type = refl

as_many_as_an_array_may_have : has_room (Some (k.Array t.Int)) 1048576 ≡ true
as_many_as_an_array_may_have = refl

more_than_an_array_may_have : has_room (Some (k.Array t.Int)) 1048577 ≡ false
more_than_an_array_may_have = refl

makes_of_nothing : of [] (i.Make 1 (kind 0) (0 ∷ []) ∷ i.RetVoid ∷ []) ≡ fails 3 1
makes_of_nothing = refl

makes_of_an_owner_twice : of (cell ∷ []) (i.Make 1 (kind 3) (0 ∷ 0 ∷ []) ∷ i.RetVoid ∷ []) ≡ fails 3 1
makes_of_an_owner_twice = refl

makes_over_an_owner : of (cell ∷ []) (i.Int 1 (pos 7) ∷ i.Make 0 (kind 0) (1 ∷ []) ∷ i.RetVoid ∷ []) ≡ fails 3 2
makes_over_an_owner = refl

makes_and_leaves_it : of [] (i.Int 0 (pos 7) ∷ i.Make 1 (kind 0) (0 ∷ []) ∷ i.RetVoid ∷ []) ≡ fails 3 3
makes_and_leaves_it = refl

makes_of_an_owner_of_another_depth : deeper cell (i.Make 2 (kind 3) (0 ∷ []) ∷ i.RetVoid ∷ []) ≡ fails 4 2
makes_of_an_owner_of_another_depth = refl

-- ---- borrow

-- the reference may outlive the object
borrows : of (cell ∷ []) (i.Borrow 1 0 ∷ i.Destroy 0 at ∷ i.Load 2 1 0 at ∷ i.RetVoid ∷ []) ≡ None
borrows = refl

borrows_of_a_reference : of (cell_ref ∷ []) (i.Borrow 1 0 ∷ i.RetVoid ∷ []) ≡ fails 2 1
borrows_of_a_reference = refl

borrows_of_an_isolate : of (t.Iso (kind 0) ∷ []) (i.Borrow 1 0 ∷ i.RetVoid ∷ []) ≡ fails 2 1
borrows_of_an_isolate = refl

borrows_of_nothing : of [] (i.Borrow 1 0 ∷ i.RetVoid ∷ []) ≡ fails 3 1
borrows_of_nothing = refl

borrows_over_the_owner : of (cell ∷ []) (i.Borrow 0 0 ∷ i.RetVoid ∷ []) ≡ fails 3 1
borrows_over_the_owner = refl

borrows_at_another_depth : deeper cell (i.Borrow 2 0 ∷ i.RetVoid ∷ []) ≡ fails 4 2
borrows_at_another_depth = refl

-- ---- fields of an owner

-- an owner's field gives a reference, and so does that of a reference
reads_fields : of (pair ∷ []) (i.LoadOwn 1 0 0 ∷ i.Load 2 1 0 at ∷ i.LoadOwn 1 0 1 ∷ i.Load 2 1 0 at ∷ i.Print 2 1 ∷ i.Destroy 0 at ∷ i.RetVoid ∷ []) ≡ None
reads_fields = refl

reads_no_such_field : of (pair ∷ []) (i.LoadOwn 1 0 2 ∷ i.RetVoid ∷ []) ≡ fails 2 1
reads_no_such_field = refl

reads_a_field_of_a_reference_as_an_owner : of (cell_ref ∷ []) (i.LoadOwn 1 0 0 ∷ i.RetVoid ∷ []) ≡ fails 2 1
reads_a_field_of_a_reference_as_an_owner = refl

reads_a_field_of_an_array : of (ints ∷ []) (i.LoadOwn 1 0 0 ∷ i.RetVoid ∷ []) ≡ fails 2 1
reads_a_field_of_an_array = refl

reads_a_field_of_nothing : of [] (i.LoadOwn 1 0 0 ∷ i.RetVoid ∷ []) ≡ fails 3 1
reads_a_field_of_nothing = refl

reads_a_field_over_the_owner : of (cell ∷ []) (i.LoadOwn 0 0 0 ∷ i.RetVoid ∷ []) ≡ fails 3 1
reads_a_field_over_the_owner = refl

reads_a_field_of_an_outer_owner : deeper cell (i.LoadOwn 2 0 0 ∷ i.RetVoid ∷ []) ≡ fails 4 2
reads_a_field_of_an_outer_owner = refl

-- ---- fields of a reference

reads_through_references : of (pair_ref ∷ []) (i.Load 1 0 0 at ∷ i.Load 2 1 0 at ∷ i.Print 2 1 ∷ i.RetVoid ∷ []) ≡ None
reads_through_references = refl

reads_through_a_reference_in_its_place : of (cell_ref ∷ []) (i.Load 0 0 0 at ∷ i.Print 0 1 ∷ i.RetVoid ∷ []) ≡ None
reads_through_a_reference_in_its_place = refl

reads_through_an_owner : of (cell ∷ []) (i.Load 1 0 0 at ∷ i.RetVoid ∷ []) ≡ fails 2 1
reads_through_an_owner = refl

reads_through_a_number : of [] (i.Int 0 (pos 7) ∷ i.Load 1 0 0 at ∷ i.RetVoid ∷ []) ≡ fails 2 2
reads_through_a_number = refl

reads_through_an_interface : of (shape_ref ∷ []) (i.Load 1 0 0 at ∷ i.RetVoid ∷ []) ≡ fails 2 1
reads_through_an_interface = refl

reads_no_such_field_of_a_reference : of (cell_ref ∷ []) (i.Load 1 0 1 at ∷ i.RetVoid ∷ []) ≡ fails 2 1
reads_no_such_field_of_a_reference = refl

reads_through_nothing : of [] (i.Load 1 0 0 at ∷ i.RetVoid ∷ []) ≡ fails 3 1
reads_through_nothing = refl

reads_over_an_owner : of (cell_ref ∷ cell ∷ []) (i.Load 1 0 0 at ∷ i.RetVoid ∷ []) ≡ fails 3 1
reads_over_an_owner = refl

-- at a greater depth a reference, an owner and an isolate are read as `&imm`
reads_through_an_outer_reference : deeper cell_ref (i.Load 2 0 0 at ∷ i.Jump 1 ∷ []) ≡ None
reads_through_an_outer_reference = refl

reads_through_an_outer_owner : deeper cell (i.Load 2 0 0 at ∷ i.Jump 1 ∷ []) ≡ None
reads_through_an_outer_owner = refl

reads_through_an_outer_isolate : deeper (t.Iso (kind 0)) (i.Load 2 0 0 at ∷ i.Jump 1 ∷ []) ≡ None
reads_through_an_outer_isolate = refl

reads_through_an_inner_reference : shallower cell_ref (i.Load 2 0 0 at ∷ i.RetVoid ∷ []) ≡ fails 4 2
reads_through_an_inner_reference = refl

reads_through_an_inner_owner : shallower cell (i.Load 2 0 0 at ∷ i.RetVoid ∷ []) ≡ fails 2 2
reads_through_an_inner_owner = refl

-- ---- what is known to be alive after a read

-- through `&imm` an owner's field is alive too
frozen_is_alive_after_a_read : after_first (pair_imm ∷ []) (i.Load 1 0 0 at) (Held pair_imm 0 true) (Held cell_imm 0 true) ≡ None
frozen_is_alive_after_a_read = refl

what_a_field_refers_to_may_be_dead : after_first (pair_imm ∷ []) (i.Load 1 0 1 at) (Held pair_imm 0 true) (Held cell_imm 0 true) ≡ fails 5 1
what_a_field_refers_to_may_be_dead = refl

what_a_field_refers_to_is_frozen : after_first (pair_imm ∷ []) (i.Load 1 0 1 at) (Held pair_imm 0 true) (Held cell_imm 0 false) ≡ None
what_a_field_refers_to_is_frozen = refl

frozen_may_be_dead_before_it_is_read : after_first (pair_imm ∷ []) (i.Tick) (Held pair_imm 0 true) Empty ≡ fails 5 1
frozen_may_be_dead_before_it_is_read = refl

a_reference_may_die_after_a_read : after_first (pair_ref ∷ []) (i.Load 1 0 0 at) (Held pair_ref 0 true) Empty ≡ fails 5 1
a_reference_may_die_after_a_read = refl

what_is_read_through_a_reference_may_die : after_first (pair_ref ∷ []) (i.Load 1 0 0 at) (Held pair_ref 0 false) (Held cell_ref 0 true) ≡ fails 5 1
what_is_read_through_a_reference_may_die = refl

what_is_written_over_is_forgotten : after_first (pair_imm ∷ []) (i.Load 0 0 1 at) (Held cell_imm 0 true) Empty ≡ fails 5 1
what_is_written_over_is_forgotten = refl

alive_by_its_length : after_first (ints_imm ∷ []) (i.Len 1 0 at) (Held ints_imm 0 true) (Held t.Int 0 false) ≡ None
alive_by_its_length = refl

alive_by_an_element : with_labels (ints_imm ∷ t.Int ∷ []) (record { at = 1; depth = 0; regs = (Held ints_imm 0 true) ∷ Empty ∷ Empty ∷ Empty ∷ [] } ∷ []) (i.Elem 2 0 1 at ∷ i.RetVoid ∷ []) ≡ None
alive_by_an_element = refl

alive_by_a_call : after_first (shape_imm ∷ []) (i.CallM 99 4 1 0 [] at) (Held shape_imm 0 true) Empty ≡ None
alive_by_a_call = refl

-- ---- elements of an owner

reads_elements : of (cells ∷ []) (i.Int 1 (pos 0) ∷ i.ElemOwn 2 0 1 at ∷ i.Load 3 2 0 at ∷ i.Print 3 1 ∷ i.Destroy 0 at ∷ i.RetVoid ∷ []) ≡ None
reads_elements = refl

reads_an_element_at_a_truth : of (ints ∷ []) (i.Truth 1 0 ∷ i.ElemOwn 2 0 1 at ∷ i.RetVoid ∷ []) ≡ fails 2 2
reads_an_element_at_a_truth = refl

reads_an_isolate_of_an_array : of (isolates ∷ []) (i.Int 1 (pos 7) ∷ i.ElemOwn 2 0 1 at ∷ i.RetVoid ∷ []) ≡ fails 2 2
reads_an_isolate_of_an_array = refl

reads_an_element_of_a_struct : of (cell ∷ []) (i.Int 1 (pos 7) ∷ i.ElemOwn 2 0 1 at ∷ i.RetVoid ∷ []) ≡ fails 2 2
reads_an_element_of_a_struct = refl

reads_an_element_at_nothing : of (ints ∷ []) (i.ElemOwn 2 0 1 at ∷ i.RetVoid ∷ []) ≡ fails 3 1
reads_an_element_at_nothing = refl

reads_an_element_of_nothing : of [] (i.Int 1 (pos 7) ∷ i.ElemOwn 2 0 1 at ∷ i.RetVoid ∷ []) ≡ fails 3 2
reads_an_element_of_nothing = refl

reads_an_element_over_the_owner : of (ints ∷ []) (i.Int 1 (pos 7) ∷ i.ElemOwn 0 0 1 at ∷ i.RetVoid ∷ []) ≡ fails 3 2
reads_an_element_over_the_owner = refl

reads_an_element_of_an_outer_owner : deeper ints (i.ElemOwn 2 0 1 at ∷ i.RetVoid ∷ []) ≡ fails 4 2
reads_an_element_of_an_outer_owner = refl

-- ---- elements of a reference

reads_elements_through_a_reference : of (ints_ref ∷ []) (i.Int 1 (pos 0) ∷ i.Elem 2 0 1 at ∷ i.Print 2 1 ∷ i.RetVoid ∷ []) ≡ None
reads_elements_through_a_reference = refl

reads_an_isolate_through_a_reference : of (t.Ref (kind 5) ∷ []) (i.Int 1 (pos 7) ∷ i.Elem 2 0 1 at ∷ i.RetVoid ∷ []) ≡ fails 2 2
reads_an_isolate_through_a_reference = refl

reads_an_isolate_through_frozen : of (t.Frozen (kind 5) ∷ []) (i.Int 1 (pos 7) ∷ i.Elem 2 0 1 at ∷ i.Load 3 2 0 at ∷ i.Print 3 1 ∷ i.RetVoid ∷ []) ≡ None
reads_an_isolate_through_frozen = refl

reads_an_element_through_an_owner : of (ints ∷ []) (i.Int 1 (pos 7) ∷ i.Elem 2 0 1 at ∷ i.RetVoid ∷ []) ≡ fails 2 2
reads_an_element_through_an_owner = refl

reads_an_element_of_a_struct_reference : of (cell_ref ∷ []) (i.Int 1 (pos 7) ∷ i.Elem 2 0 1 at ∷ i.RetVoid ∷ []) ≡ fails 2 2
reads_an_element_of_a_struct_reference = refl

reads_an_element_through_nothing : of [] (i.Int 1 (pos 7) ∷ i.Elem 2 0 1 at ∷ i.RetVoid ∷ []) ≡ fails 3 2
reads_an_element_through_nothing = refl

-- an empty register and an index of another type: rule 2 is the lower one
reads_an_element_of_another_type_through_nothing : of [] (i.Truth 1 0 ∷ i.Elem 2 0 1 at ∷ i.RetVoid ∷ []) ≡ fails 2 2
reads_an_element_of_another_type_through_nothing = refl

reads_an_element_over_an_owner : of (ints_ref ∷ cell ∷ []) (i.Int 2 (pos 7) ∷ i.Elem 1 0 2 at ∷ i.RetVoid ∷ []) ≡ fails 3 2
reads_an_element_over_an_owner = refl

reads_an_element_through_an_inner_reference : shallower ints_ref (i.Elem 2 0 1 at ∷ i.RetVoid ∷ []) ≡ fails 4 2
reads_an_element_through_an_inner_reference = refl

-- ---- len

measures : of (ints_ref ∷ []) (i.Len 1 0 at ∷ i.Print 1 1 ∷ i.RetVoid ∷ []) ≡ None
measures = refl

measures_an_outer_owner : deeper ints (i.Len 2 0 at ∷ i.Jump 1 ∷ []) ≡ None
measures_an_outer_owner = refl

measures_an_owner : of (ints ∷ []) (i.Len 1 0 at ∷ i.RetVoid ∷ []) ≡ fails 2 1
measures_an_owner = refl

measures_a_struct : of (cell_ref ∷ []) (i.Len 1 0 at ∷ i.RetVoid ∷ []) ≡ fails 2 1
measures_a_struct = refl

measures_nothing : of [] (i.Len 1 0 at ∷ i.RetVoid ∷ []) ≡ fails 3 1
measures_nothing = refl

measures_over_an_owner : of (ints_ref ∷ cell ∷ []) (i.Len 1 0 at ∷ i.RetVoid ∷ []) ≡ fails 3 1
measures_over_an_owner = refl

measures_an_inner_reference : shallower ints_ref (i.Len 2 0 at ∷ i.RetVoid ∷ []) ≡ fails 4 2
measures_an_inner_reference = refl

-- ---- set of a field of an owner

sets_a_field : of (cell ∷ []) (i.Int 1 (pos 7) ∷ i.SwapOwn 2 0 0 1 ∷ i.Print 2 1 ∷ i.Destroy 0 at ∷ i.RetVoid ∷ []) ≡ None
sets_a_field = refl

-- the old owner comes into the register that the new one left
sets_an_owner : of (pair ∷ cell ∷ []) (i.SwapOwn 1 0 0 1 ∷ i.Destroy 1 at ∷ i.Destroy 0 at ∷ i.RetVoid ∷ []) ≡ None
sets_an_owner = refl

sets_another_type : of (cell ∷ []) (i.Truth 1 0 ∷ i.SwapOwn 2 0 0 1 ∷ i.RetVoid ∷ []) ≡ fails 2 2
sets_another_type = refl

sets_no_such_field : of (cell ∷ []) (i.Int 1 (pos 7) ∷ i.SwapOwn 2 0 1 1 ∷ i.RetVoid ∷ []) ≡ fails 2 2
sets_no_such_field = refl

sets_a_field_of_a_reference_as_an_owner : of (cell_ref ∷ []) (i.Int 1 (pos 7) ∷ i.SwapOwn 2 0 0 1 ∷ i.RetVoid ∷ []) ≡ fails 2 2
sets_a_field_of_a_reference_as_an_owner = refl

sets_nothing : of (cell ∷ []) (i.SwapOwn 2 0 0 1 ∷ i.RetVoid ∷ []) ≡ fails 3 1
sets_nothing = refl

sets_a_field_of_nothing : of [] (i.Int 1 (pos 7) ∷ i.SwapOwn 2 0 0 1 ∷ i.RetVoid ∷ []) ≡ fails 3 2
sets_a_field_of_nothing = refl

sets_over_an_owner : of (pair ∷ cell ∷ []) (i.SwapOwn 0 0 0 1 ∷ i.RetVoid ∷ []) ≡ fails 3 1
sets_over_an_owner = refl

sets_and_leaves_the_old_owner : of (pair ∷ cell ∷ []) (i.SwapOwn 2 0 0 1 ∷ i.Destroy 0 at ∷ i.RetVoid ∷ []) ≡ fails 3 3
sets_and_leaves_the_old_owner = refl

sets_a_field_of_an_outer_owner : deeper cell (i.SwapOwn 2 0 0 1 ∷ i.RetVoid ∷ []) ≡ fails 4 2
sets_a_field_of_an_outer_owner = refl

-- ---- set of a field through a reference

sets_through_a_reference : of (cell_ref ∷ []) (i.Int 1 (pos 7) ∷ i.Swap 2 0 0 1 at ∷ i.Print 2 1 ∷ i.RetVoid ∷ []) ≡ None
sets_through_a_reference = refl

sets_an_owner_through_a_reference : of (pair_ref ∷ cell ∷ []) (i.Swap 1 0 0 1 at ∷ i.Destroy 1 at ∷ i.RetVoid ∷ []) ≡ None
sets_an_owner_through_a_reference = refl

sets_through_frozen : of (cell_imm ∷ []) (i.Int 1 (pos 7) ∷ i.Swap 2 0 0 1 at ∷ i.RetVoid ∷ []) ≡ fails 2 2
sets_through_frozen = refl

sets_through_an_owner : of (cell ∷ []) (i.Int 1 (pos 7) ∷ i.Swap 2 0 0 1 at ∷ i.RetVoid ∷ []) ≡ fails 2 2
sets_through_an_owner = refl

sets_another_type_through_a_reference : of (cell_ref ∷ []) (i.Truth 1 0 ∷ i.Swap 2 0 0 1 at ∷ i.RetVoid ∷ []) ≡ fails 2 2
sets_another_type_through_a_reference = refl

sets_nothing_through_a_reference : of (cell_ref ∷ []) (i.Swap 2 0 0 1 at ∷ i.RetVoid ∷ []) ≡ fails 3 1
sets_nothing_through_a_reference = refl

sets_through_nothing : of [] (i.Int 1 (pos 7) ∷ i.Swap 2 0 0 1 at ∷ i.RetVoid ∷ []) ≡ fails 3 2
sets_through_nothing = refl

sets_an_owner_twice : of (pair_ref ∷ cell ∷ []) (i.Swap 2 0 0 1 at ∷ i.Swap 3 0 0 1 at ∷ i.RetVoid ∷ []) ≡ fails 3 2
sets_an_owner_twice = refl

sets_through_an_outer_reference : deeper cell_ref (i.Swap 2 0 0 1 at ∷ i.RetVoid ∷ []) ≡ fails 4 2
sets_through_an_outer_reference = refl

-- ---- set of an element of an owner

sets_an_element : of (ints ∷ []) (i.Int 1 (pos 7) ∷ i.SwapElOwn 2 0 1 1 at ∷ i.Print 2 1 ∷ i.Destroy 0 at ∷ i.RetVoid ∷ []) ≡ None
sets_an_element = refl

sets_an_isolate : of (isolates ∷ t.Iso (kind 0) ∷ []) (i.Int 2 (pos 0) ∷ i.SwapElOwn 1 0 2 1 at ∷ i.Destroy 1 at ∷ i.Destroy 0 at ∷ i.RetVoid ∷ []) ≡ None
sets_an_isolate = refl

sets_an_element_at_a_truth : of (ints ∷ []) (i.Truth 1 0 ∷ i.Int 2 (pos 7) ∷ i.SwapElOwn 3 0 1 2 at ∷ i.RetVoid ∷ []) ≡ fails 2 3
sets_an_element_at_a_truth = refl

sets_an_element_of_another_type : of (ints ∷ []) (i.Truth 1 0 ∷ i.Int 2 (pos 7) ∷ i.SwapElOwn 3 0 2 1 at ∷ i.RetVoid ∷ []) ≡ fails 2 3
sets_an_element_of_another_type = refl

sets_an_element_of_a_struct : of (cell ∷ []) (i.Int 1 (pos 7) ∷ i.SwapElOwn 2 0 1 1 at ∷ i.RetVoid ∷ []) ≡ fails 2 2
sets_an_element_of_a_struct = refl

sets_an_element_to_nothing : of (ints ∷ []) (i.Int 1 (pos 7) ∷ i.SwapElOwn 3 0 1 2 at ∷ i.RetVoid ∷ []) ≡ fails 3 2
sets_an_element_to_nothing = refl

sets_an_element_at_nothing : of (ints ∷ []) (i.Int 2 (pos 7) ∷ i.SwapElOwn 3 0 1 2 at ∷ i.RetVoid ∷ []) ≡ fails 3 2
sets_an_element_at_nothing = refl

sets_an_element_over_the_owner : of (ints ∷ []) (i.Int 1 (pos 7) ∷ i.SwapElOwn 0 0 1 1 at ∷ i.RetVoid ∷ []) ≡ fails 3 2
sets_an_element_over_the_owner = refl

sets_an_element_of_an_outer_owner : deeper ints (i.SwapElOwn 2 0 1 1 at ∷ i.RetVoid ∷ []) ≡ fails 4 2
sets_an_element_of_an_outer_owner = refl

-- ---- set of an element through a reference

sets_an_element_through_a_reference : of (ints_ref ∷ []) (i.Int 1 (pos 7) ∷ i.SwapEl 2 0 1 1 at ∷ i.Print 2 1 ∷ i.RetVoid ∷ []) ≡ None
sets_an_element_through_a_reference = refl

sets_an_element_through_frozen : of (ints_imm ∷ []) (i.Int 1 (pos 7) ∷ i.SwapEl 2 0 1 1 at ∷ i.RetVoid ∷ []) ≡ fails 2 2
sets_an_element_through_frozen = refl

sets_an_element_through_an_owner : of (ints ∷ []) (i.Int 1 (pos 7) ∷ i.SwapEl 2 0 1 1 at ∷ i.RetVoid ∷ []) ≡ fails 2 2
sets_an_element_through_an_owner = refl

sets_an_element_of_another_type_through_a_reference : of (ints_ref ∷ []) (i.Truth 1 0 ∷ i.Int 2 (pos 7) ∷ i.SwapEl 3 0 2 1 at ∷ i.RetVoid ∷ []) ≡ fails 2 3
sets_an_element_of_another_type_through_a_reference = refl

sets_an_element_through_nothing : of [] (i.Int 1 (pos 7) ∷ i.SwapEl 2 0 1 1 at ∷ i.RetVoid ∷ []) ≡ fails 3 2
sets_an_element_through_nothing = refl

sets_an_element_to_nothing_through_a_reference : of (ints_ref ∷ []) (i.Int 1 (pos 7) ∷ i.SwapEl 3 0 1 2 at ∷ i.RetVoid ∷ []) ≡ fails 3 2
sets_an_element_to_nothing_through_a_reference = refl

sets_an_element_through_an_outer_reference : deeper ints_ref (i.SwapEl 2 0 1 1 at ∷ i.RetVoid ∷ []) ≡ fails 4 2
sets_an_element_through_an_outer_reference = refl

-- ---- push and pop

pushes : of (cells_ref ∷ cell ∷ []) (i.Push 0 1 at ∷ i.RetVoid ∷ []) ≡ None
pushes = refl

pushes_another_type : of (cells_ref ∷ []) (i.Int 1 (pos 7) ∷ i.Push 0 1 at ∷ i.RetVoid ∷ []) ≡ fails 2 2
pushes_another_type = refl

pushes_on_frozen : of (ints_imm ∷ []) (i.Int 1 (pos 7) ∷ i.Push 0 1 at ∷ i.RetVoid ∷ []) ≡ fails 2 2
pushes_on_frozen = refl

pushes_on_an_owner : of (ints ∷ []) (i.Int 1 (pos 7) ∷ i.Push 0 1 at ∷ i.RetVoid ∷ []) ≡ fails 2 2
pushes_on_an_owner = refl

pushes_on_a_struct : of (cell_ref ∷ []) (i.Int 1 (pos 7) ∷ i.Push 0 1 at ∷ i.RetVoid ∷ []) ≡ fails 2 2
pushes_on_a_struct = refl

pushes_nothing : of (ints_ref ∷ []) (i.Push 0 1 at ∷ i.RetVoid ∷ []) ≡ fails 3 1
pushes_nothing = refl

pushes_on_nothing : of [] (i.Int 1 (pos 7) ∷ i.Push 0 1 at ∷ i.RetVoid ∷ []) ≡ fails 3 2
pushes_on_nothing = refl

pushes_an_owner_twice : of (cells_ref ∷ cell ∷ []) (i.Push 0 1 at ∷ i.Push 0 1 at ∷ i.RetVoid ∷ []) ≡ fails 3 2
pushes_an_owner_twice = refl

pushes_on_an_outer_reference : deeper ints_ref (i.Push 0 1 at ∷ i.RetVoid ∷ []) ≡ fails 4 2
pushes_on_an_outer_reference = refl

pops : of (cells_ref ∷ []) (i.Pop 1 0 at ∷ i.Destroy 1 at ∷ i.RetVoid ∷ []) ≡ None
pops = refl

pops_an_isolate : of (t.Ref (kind 5) ∷ []) (i.Pop 1 0 at ∷ i.Destroy 1 at ∷ i.RetVoid ∷ []) ≡ None
pops_an_isolate = refl

pops_of_frozen : of (ints_imm ∷ []) (i.Pop 1 0 at ∷ i.RetVoid ∷ []) ≡ fails 2 1
pops_of_frozen = refl

pops_of_an_owner : of (ints ∷ []) (i.Pop 1 0 at ∷ i.RetVoid ∷ []) ≡ fails 2 1
pops_of_an_owner = refl

pops_of_nothing : of [] (i.Pop 1 0 at ∷ i.RetVoid ∷ []) ≡ fails 3 1
pops_of_nothing = refl

pops_over_an_owner : of (cells_ref ∷ cell ∷ []) (i.Pop 1 0 at ∷ i.RetVoid ∷ []) ≡ fails 3 1
pops_over_an_owner = refl

pops_and_leaves_it : of (cells_ref ∷ []) (i.Pop 1 0 at ∷ i.RetVoid ∷ []) ≡ fails 3 2
pops_and_leaves_it = refl

pops_of_an_outer_reference : deeper ints_ref (i.Pop 2 0 at ∷ i.RetVoid ∷ []) ≡ fails 4 2
pops_of_an_outer_reference = refl

-- ---- open

opens : of (pair ∷ []) (i.Open (1 ∷ 2 ∷ []) 0 ∷ i.Destroy 1 at ∷ i.Load 3 2 0 at ∷ i.RetVoid ∷ []) ≡ None
opens = refl

opens_into_its_place : of (pair ∷ []) (i.Open (0 ∷ 1 ∷ []) 0 ∷ i.Destroy 0 at ∷ i.RetVoid ∷ []) ≡ None
opens_into_its_place = refl

opens_into_too_few : of (pair ∷ []) (i.Open (1 ∷ []) 0 ∷ i.RetVoid ∷ []) ≡ fails 2 1
opens_into_too_few = refl

opens_into_too_many : of (cell ∷ []) (i.Open (1 ∷ 2 ∷ []) 0 ∷ i.RetVoid ∷ []) ≡ fails 2 1
opens_into_too_many = refl

opens_an_array : of (cells ∷ []) (i.Open [] 0 ∷ i.RetVoid ∷ []) ≡ fails 2 1
opens_an_array = refl

opens_an_interface : of (shape ∷ []) (i.Open [] 0 ∷ i.RetVoid ∷ []) ≡ fails 2 1
opens_an_interface = refl

opens_a_reference : of (cell_ref ∷ []) (i.Open (1 ∷ []) 0 ∷ i.RetVoid ∷ []) ≡ fails 2 1
opens_a_reference = refl

opens_nothing : of [] (i.Open (1 ∷ []) 0 ∷ i.RetVoid ∷ []) ≡ fails 3 1
opens_nothing = refl

opens_twice : of (cell ∷ []) (i.Open (1 ∷ []) 0 ∷ i.Open (1 ∷ []) 0 ∷ i.RetVoid ∷ []) ≡ fails 3 2
opens_twice = refl

opens_over_what_it_gave : of (pair ∷ []) (i.Open (1 ∷ 1 ∷ []) 0 ∷ i.RetVoid ∷ []) ≡ fails 3 1
opens_over_what_it_gave = refl

opens_over_an_owner : of (pair ∷ cell ∷ []) (i.Open (1 ∷ 2 ∷ []) 0 ∷ i.RetVoid ∷ []) ≡ fails 3 1
opens_over_an_owner = refl

opens_an_outer_owner : deeper cell (i.Open (2 ∷ []) 0 ∷ i.RetVoid ∷ []) ≡ fails 4 2
opens_an_outer_owner = refl

-- ---- destroy

destroys : of (pair ∷ []) (i.Destroy 0 at ∷ i.RetVoid ∷ []) ≡ None
destroys = refl

destroys_an_isolate : of (t.Iso (kind 0) ∷ []) (i.Destroy 0 at ∷ i.RetVoid ∷ []) ≡ None
destroys_an_isolate = refl

destroys_a_number : of [] (i.Int 0 (pos 7) ∷ i.Destroy 0 at ∷ i.RetVoid ∷ []) ≡ fails 2 2
destroys_a_number = refl

destroys_a_reference : of (cell_ref ∷ []) (i.Destroy 0 at ∷ i.RetVoid ∷ []) ≡ fails 2 1
destroys_a_reference = refl

destroys_nothing : of [] (i.Destroy 0 at ∷ i.RetVoid ∷ []) ≡ fails 3 1
destroys_nothing = refl

destroys_twice : of (cell ∷ []) (i.Destroy 0 at ∷ i.Destroy 0 at ∷ i.RetVoid ∷ []) ≡ fails 3 2
destroys_twice = refl

destroys_an_outer_owner : deeper cell (i.Destroy 0 at ∷ i.RetVoid ∷ []) ≡ fails 4 2
destroys_an_outer_owner = refl

-- ---- upcast

sees_an_owner : of (cell ∷ []) (i.Upcast 1 0 (kind 4) ∷ i.Destroy 1 at ∷ i.RetVoid ∷ []) ≡ None
sees_an_owner = refl

sees_an_owner_in_its_place : of (cell ∷ []) (i.Upcast 0 0 (kind 4) ∷ i.Destroy 0 at ∷ i.RetVoid ∷ []) ≡ None
sees_an_owner_in_its_place = refl

sees_an_isolate : of (t.Iso (kind 0) ∷ []) (i.Upcast 1 0 (kind 4) ∷ i.Destroy 1 at ∷ i.RetVoid ∷ []) ≡ None
sees_an_isolate = refl

sees_a_struct_that_does_not_implement : of (pair ∷ []) (i.Upcast 1 0 (kind 4) ∷ i.RetVoid ∷ []) ≡ fails 2 1
sees_a_struct_that_does_not_implement = refl

sees_a_struct_as_a_struct : of (cell ∷ []) (i.Upcast 1 0 (kind 0) ∷ i.RetVoid ∷ []) ≡ fails 2 1
sees_a_struct_as_a_struct = refl

sees_an_interface : of (shape ∷ []) (i.Upcast 1 0 (kind 4) ∷ i.RetVoid ∷ []) ≡ fails 2 1
sees_an_interface = refl

sees_a_number : of [] (i.Int 0 (pos 7) ∷ i.Upcast 1 0 (kind 4) ∷ i.RetVoid ∷ []) ≡ fails 2 2
sees_a_number = refl

sees_nothing : of [] (i.Upcast 1 0 (kind 4) ∷ i.RetVoid ∷ []) ≡ fails 3 1
sees_nothing = refl

sees_what_was_taken : of (cell ∷ []) (i.Upcast 1 0 (kind 4) ∷ i.Upcast 2 0 (kind 4) ∷ i.RetVoid ∷ []) ≡ fails 3 2
sees_what_was_taken = refl

sees_over_an_owner : of (cell ∷ cell ∷ []) (i.Upcast 0 1 (kind 4) ∷ i.RetVoid ∷ []) ≡ fails 3 1
sees_over_an_owner = refl

sees_an_outer_reference : deeper cell_ref (i.Upcast 2 0 (kind 4) ∷ i.RetVoid ∷ []) ≡ fails 4 2
sees_an_outer_reference = refl

sees_frozen_at_a_greater_depth : deeper cell_imm (i.Upcast 2 0 (kind 4) ∷ i.Jump 1 ∷ []) ≡ None
sees_frozen_at_a_greater_depth = refl

sees_what_is_alive : with_labels (cell_imm ∷ []) (record { at = 2; depth = 0; regs = (Held cell_imm 0 true) ∷ Empty ∷ (Held shape_imm 0 true) ∷ Empty ∷ [] } ∷ []) (i.Load 1 0 0 at ∷ i.Upcast 2 0 (kind 4) ∷ i.RetVoid ∷ []) ≡ None
sees_what_is_alive = refl

sees_what_may_be_dead : after_first (cell_imm ∷ []) (i.Upcast 1 0 (kind 4)) (Held cell_imm 0 false) (Held shape_imm 0 true) ≡ fails 5 1
sees_what_may_be_dead = refl

-- ---- calls of methods that aren't pure

calls_a_method : of (cell_ref ∷ []) (i.Upcast 1 0 (kind 4) ∷ i.Int 2 (pos 7) ∷ i.CallM 3 4 0 1 (2 ∷ []) at ∷ i.Print 3 1 ∷ i.RetVoid ∷ []) ≡ None
calls_a_method = refl

calls_a_method_of_frozen : of (shape_imm ∷ []) (i.CallM 99 4 1 0 [] at ∷ i.RetVoid ∷ []) ≡ None
calls_a_method_of_frozen = refl

calls_a_method_of_an_outer_owner : deeper shape (i.CallM 99 4 1 0 [] at ∷ i.Jump 1 ∷ []) ≡ None
calls_a_method_of_an_outer_owner = refl

calls_a_method_of_a_struct : of (cell_ref ∷ []) (i.Int 1 (pos 7) ∷ i.CallM 2 4 0 0 (1 ∷ []) at ∷ i.RetVoid ∷ []) ≡ fails 2 2
calls_a_method_of_a_struct = refl

calls_a_method_of_no_interface : of (cell_ref ∷ []) (i.CallM 1 0 0 0 [] at ∷ i.RetVoid ∷ []) ≡ fails 2 1
calls_a_method_of_no_interface = refl

calls_with_too_few : of (shape_ref ∷ []) (i.CallM 1 4 0 0 [] at ∷ i.RetVoid ∷ []) ≡ fails 2 1
calls_with_too_few = refl

calls_with_another_type : of (shape_ref ∷ []) (i.Truth 1 0 ∷ i.CallM 2 4 0 0 (1 ∷ []) at ∷ i.RetVoid ∷ []) ≡ fails 2 2
calls_with_another_type = refl

calls_of_frozen_what_may_change_it : of (shape_imm ∷ []) (i.Int 1 (pos 7) ∷ i.CallM 2 4 0 0 (1 ∷ []) at ∷ i.RetVoid ∷ []) ≡ fails 2 2
calls_of_frozen_what_may_change_it = refl

calls_of_a_reference_what_asks_for_frozen : of (shape_ref ∷ []) (i.CallM 99 4 1 0 [] at ∷ i.RetVoid ∷ []) ≡ fails 2 1
calls_of_a_reference_what_asks_for_frozen = refl

-- pure methods are called once there are freezes
calls_a_pure_method : of (shape_imm ∷ []) (i.CallM 99 4 2 0 [] at ∷ i.RetVoid ∷ []) ≡ fails 2 1
calls_a_pure_method = refl

calls_a_method_of_nothing : of [] (i.Int 1 (pos 7) ∷ i.CallM 2 4 0 0 (1 ∷ []) at ∷ i.RetVoid ∷ []) ≡ fails 3 2
calls_a_method_of_nothing = refl

calls_with_nothing : of (shape_ref ∷ []) (i.CallM 2 4 0 0 (1 ∷ []) at ∷ i.RetVoid ∷ []) ≡ fails 3 1
calls_with_nothing = refl

calls_over_an_owner : of (shape_ref ∷ cell ∷ []) (i.Int 2 (pos 7) ∷ i.CallM 1 4 0 0 (2 ∷ []) at ∷ i.RetVoid ∷ []) ≡ fails 3 2
calls_over_an_owner = refl

calls_a_method_of_an_outer_reference : deeper shape_ref (i.CallM 2 4 0 0 (1 ∷ []) at ∷ i.RetVoid ∷ []) ≡ fails 4 2
calls_a_method_of_an_outer_reference = refl

-- ---- destructors

abbrev of_destructor : List Instr → Option Fault
of_destructor body =
    first_fault (code (k.Struct 0 (Some 1) (field false t.Int ∷ []) ∷ []) [] (plain [] t.Void (i.RetVoid ∷ []) ∷ function 3 (cell ∷ []) t.Void body ∷ [])) (facts [] ∷ facts [] ∷ [])

takes_its_object_apart : of_destructor (i.Open (1 ∷ []) 0 ∷ i.Print 1 1 ∷ i.RetVoid ∷ []) ≡ None
takes_its_object_apart = refl

-- it would be called again, up to the depth that a run may have
destroys_its_object : of_destructor (i.Destroy 0 at ∷ i.RetVoid ∷ []) ≡ None
destroys_its_object = refl

leaves_its_object : of_destructor (i.RetVoid ∷ []) ≡ fails 3 1
leaves_its_object = refl
