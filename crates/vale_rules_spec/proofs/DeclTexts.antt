-- Texts that are declared, and texts that aren't, by computation: for each code both. A text stands here as its tree.
use Rattle.std.proofs.Common.{◌≡◌, ℕ, List, [], ◌∷◌, Option, Some, None, refl}
use Rattle.std.specs.Prelude.{true, false, codes, replicate, pos}
use Rattle.vale_base.specs.declared.spot.Spot.{Spot}
use Rattle.vale_syntax.specs.declared.tree.NameAt.{NameAt}
use Rattle.vale_syntax.specs.declared.fault.Fault.{Fault}
use Rattle.vale_rules_spec.specs.Judged.{first_of}
use Rattle.vale_rules_spec.specs.DeclFaults.{declaration_faults}
use Rattle.vale_syntax.specs.Tree.{int_type, bool_type, str_type, named_type, array_type, ref_type, imm_ref_type, iso_type, number, array, no_exprs, block, Stmts, no_stmts, more_stmts, destructure, express, param, head, function, field_decl, Item, struct_item, interface_item, impl_item, function_item, tree}

-- ---- nodes, with their columns in a text of one line

abbrev at : ℕ → Spot
at column = record { line = 1; col = column }

-- the name of a number
abbrev n : ℕ → ℕ → NameAt
n k column = record { name = record { 0 = k }; at = at column }

abbrev fault : ℕ → ℕ → Option Fault
fault code column = Some (record { code = code; at = at column })

-- the first fault of the tree with these names and items
abbrev text : List (List ℕ) → List Item → Option Fault
text names items = first_of (declaration_faults (tree names items))

-- ---- a name that is there twice

-- struct A { } struct B { } func main() { }
two_structs : text (codes "A" ∷ codes "B" ∷ codes "main" ∷ []) (struct_item (n 0 8) [] ∷ struct_item (n 1 21) [] ∷ function_item (function (head false (n 2 32) [] None) (block (at 39) (at 41) no_stmts)) ∷ []) ≡ None
two_structs = refl

-- struct A { } struct A { } func main() { }
a_struct_twice : text (codes "A" ∷ codes "main" ∷ []) (struct_item (n 0 8) [] ∷ struct_item (n 0 21) [] ∷ function_item (function (head false (n 1 32) [] None) (block (at 39) (at 41) no_stmts)) ∷ []) ≡ fault 10 21
a_struct_twice = refl

-- struct A { } func A() { } func main() { }
a_function_of_a_struct_s_name : text (codes "A" ∷ codes "main" ∷ []) (struct_item (n 0 8) [] ∷ function_item (function (head false (n 0 19) [] None) (block (at 23) (at 25) no_stmts)) ∷ function_item (function (head false (n 1 32) [] None) (block (at 39) (at 41) no_stmts)) ∷ []) ≡ fault 10 19
a_function_of_a_struct_s_name = refl

-- func len() { } func main() { }
a_built_in : text (codes "len" ∷ codes "main" ∷ []) (function_item (function (head false (n 0 6) [] None) (block (at 12) (at 14) no_stmts)) ∷ function_item (function (head false (n 1 21) [] None) (block (at 28) (at 30) no_stmts)) ∷ []) ≡ fault 10 6
a_built_in = refl

-- struct A { a int; a bool; } func main() { }
a_field_twice : text (codes "A" ∷ codes "a" ∷ codes "main" ∷ []) (struct_item (n 0 8) (field_decl (n 1 12) false (int_type (at 14)) ∷ field_decl (n 1 19) false (bool_type (at 21)) ∷ []) ∷ function_item (function (head false (n 2 34) [] None) (block (at 41) (at 43) no_stmts)) ∷ []) ≡ fault 10 19
a_field_twice = refl

-- func f(a int, a int) { } func main() { }
a_parameter_twice : text (codes "f" ∷ codes "a" ∷ codes "main" ∷ []) (function_item (function (head false (n 0 6) (param (n 1 8) (int_type (at 10)) ∷ param (n 1 15) (int_type (at 17)) ∷ []) None) (block (at 22) (at 24) no_stmts)) ∷ function_item (function (head false (n 2 31) [] None) (block (at 38) (at 40) no_stmts)) ∷ []) ≡ fault 10 15
a_parameter_twice = refl

-- struct A { } struct B { } func drop(self A) { } func drop(self B) { } func main() { }
drops_of_two_structs : text (codes "A" ∷ codes "B" ∷ codes "drop" ∷ codes "self" ∷ codes "main" ∷ []) (struct_item (n 0 8) [] ∷ struct_item (n 1 21) [] ∷ function_item (function (head false (n 2 32) (param (n 3 37) (named_type (n 0 42)) ∷ []) None) (block (at 45) (at 47) no_stmts)) ∷ function_item (function (head false (n 2 54) (param (n 3 59) (named_type (n 1 64)) ∷ []) None) (block (at 67) (at 69) no_stmts)) ∷ function_item (function (head false (n 4 76) [] None) (block (at 83) (at 85) no_stmts)) ∷ []) ≡ None
drops_of_two_structs = refl

-- struct A { } func drop(self A) { } func drop(self A) { } func main() { }
two_drops_of_one_struct : text (codes "A" ∷ codes "drop" ∷ codes "self" ∷ codes "main" ∷ []) (struct_item (n 0 8) [] ∷ function_item (function (head false (n 1 19) (param (n 2 24) (named_type (n 0 29)) ∷ []) None) (block (at 32) (at 34) no_stmts)) ∷ function_item (function (head false (n 1 41) (param (n 2 46) (named_type (n 0 51)) ∷ []) None) (block (at 54) (at 56) no_stmts)) ∷ function_item (function (head false (n 3 63) [] None) (block (at 70) (at 72) no_stmts)) ∷ []) ≡ fault 10 41
two_drops_of_one_struct = refl

-- struct A { } func drop(self &A) { } func drop(self A) { } func main() { }
a_drop_beside_one_that_is_not_lawful : text (codes "A" ∷ codes "drop" ∷ codes "self" ∷ codes "main" ∷ []) (struct_item (n 0 8) [] ∷ function_item (function (head false (n 1 19) (param (n 2 24) (ref_type (at 29) (named_type (n 0 30))) ∷ []) None) (block (at 33) (at 35) no_stmts)) ∷ function_item (function (head false (n 1 42) (param (n 2 47) (named_type (n 0 52)) ∷ []) None) (block (at 55) (at 57) no_stmts)) ∷ function_item (function (head false (n 3 64) [] None) (block (at 71) (at 73) no_stmts)) ∷ []) ≡ fault 15 19
a_drop_beside_one_that_is_not_lawful = refl

-- struct drop { } func main() { }
a_struct_named_drop : text (codes "drop" ∷ codes "main" ∷ []) (struct_item (n 0 8) [] ∷ function_item (function (head false (n 1 22) [] None) (block (at 29) (at 31) no_stmts)) ∷ []) ≡ fault 10 8
a_struct_named_drop = refl

-- interface I { func m(a &I); func m(a &I); } func main() { }
a_method_twice_in_an_interface : text (codes "I" ∷ codes "m" ∷ codes "a" ∷ codes "main" ∷ []) (interface_item (n 0 11) (head false (n 1 20) (param (n 2 22) (ref_type (at 24) (named_type (n 0 25))) ∷ []) None ∷ head false (n 1 34) (param (n 2 36) (ref_type (at 38) (named_type (n 0 39))) ∷ []) None ∷ []) ∷ function_item (function (head false (n 3 50) [] None) (block (at 57) (at 59) no_stmts)) ∷ []) ≡ fault 10 34
a_method_twice_in_an_interface = refl

-- interface I { func m(a &I); } struct S { } impl I for S { func m(a &S) { } func m(a &S) { } } func main() { }
a_method_twice : text (codes "I" ∷ codes "m" ∷ codes "a" ∷ codes "S" ∷ codes "main" ∷ []) (interface_item (n 0 11) (head false (n 1 20) (param (n 2 22) (ref_type (at 24) (named_type (n 0 25))) ∷ []) None ∷ []) ∷ struct_item (n 3 38) [] ∷ impl_item (at 44) (n 0 49) (n 3 55) (function (head false (n 1 64) (param (n 2 66) (ref_type (at 68) (named_type (n 3 69))) ∷ []) None) (block (at 72) (at 74) no_stmts) ∷ function (head false (n 1 81) (param (n 2 83) (ref_type (at 85) (named_type (n 3 86))) ∷ []) None) (block (at 89) (at 91) no_stmts) ∷ []) ∷ function_item (function (head false (n 4 100) [] None) (block (at 107) (at 109) no_stmts)) ∷ []) ≡ fault 10 81
a_method_twice = refl

-- interface I { } struct S { } impl I for S { } impl I for S { } func main() { }
an_implementation_twice : text (codes "I" ∷ codes "S" ∷ codes "main" ∷ []) (interface_item (n 0 11) [] ∷ struct_item (n 1 24) [] ∷ impl_item (at 30) (n 0 35) (n 1 41) [] ∷ impl_item (at 47) (n 0 52) (n 1 58) [] ∷ function_item (function (head false (n 2 69) [] None) (block (at 76) (at 78) no_stmts)) ∷ []) ≡ fault 10 47
an_implementation_twice = refl

-- ---- a name that is unknown

-- func f(x Foo) { } struct Foo { } func main() { }
a_struct_that_comes_later : text (codes "f" ∷ codes "x" ∷ codes "Foo" ∷ codes "main" ∷ []) (function_item (function (head false (n 0 6) (param (n 1 8) (named_type (n 2 10)) ∷ []) None) (block (at 15) (at 17) no_stmts)) ∷ struct_item (n 2 26) [] ∷ function_item (function (head false (n 3 39) [] None) (block (at 46) (at 48) no_stmts)) ∷ []) ≡ None
a_struct_that_comes_later = refl

-- func f(x Foo) { } func main() { }
an_unknown_type : text (codes "f" ∷ codes "x" ∷ codes "Foo" ∷ codes "main" ∷ []) (function_item (function (head false (n 0 6) (param (n 1 8) (named_type (n 2 10)) ∷ []) None) (block (at 15) (at 17) no_stmts)) ∷ function_item (function (head false (n 3 24) [] None) (block (at 31) (at 33) no_stmts)) ∷ []) ≡ fault 11 10
an_unknown_type = refl

-- func f(x f) { } func main() { }
a_function_is_no_type : text (codes "f" ∷ codes "x" ∷ codes "main" ∷ []) (function_item (function (head false (n 0 6) (param (n 1 8) (named_type (n 0 10)) ∷ []) None) (block (at 13) (at 15) no_stmts)) ∷ function_item (function (head false (n 2 22) [] None) (block (at 29) (at 31) no_stmts)) ∷ []) ≡ fault 11 10
a_function_is_no_type = refl

-- func f() { []Foo(); } func main() { }
an_unknown_type_in_a_body : text (codes "f" ∷ codes "Foo" ∷ codes "main" ∷ []) (function_item (function (head false (n 0 6) [] None) (block (at 10) (at 21) (more_stmts (express (array (at 12) (named_type (n 1 14)) no_exprs)) no_stmts))) ∷ function_item (function (head false (n 2 28) [] None) (block (at 35) (at 37) no_stmts)) ∷ []) ≡ fault 11 14
an_unknown_type_in_a_body = refl

-- struct S { } impl I for S { } func main() { }
an_unknown_interface : text (codes "S" ∷ codes "I" ∷ codes "main" ∷ []) (struct_item (n 0 8) [] ∷ impl_item (at 14) (n 1 19) (n 0 25) [] ∷ function_item (function (head false (n 2 36) [] None) (block (at 43) (at 45) no_stmts)) ∷ []) ≡ fault 11 19
an_unknown_interface = refl

-- interface I { } impl I for S { } func main() { }
an_unknown_struct : text (codes "I" ∷ codes "S" ∷ codes "main" ∷ []) (interface_item (n 0 11) [] ∷ impl_item (at 17) (n 0 22) (n 1 28) [] ∷ function_item (function (head false (n 2 39) [] None) (block (at 46) (at 48) no_stmts)) ∷ []) ≡ fault 11 28
an_unknown_struct = refl

-- interface I { } impl I for I { } func main() { }
an_interface_in_place_of_a_struct : text (codes "I" ∷ codes "main" ∷ []) (interface_item (n 0 11) [] ∷ impl_item (at 17) (n 0 22) (n 0 28) [] ∷ function_item (function (head false (n 1 39) [] None) (block (at 46) (at 48) no_stmts)) ∷ []) ≡ fault 11 28
an_interface_in_place_of_a_struct = refl

-- ---- methods

-- interface I { func m(self &I, a int) bool; pure func n(self &imm I); } struct S { } impl I for S { pure func n(x &imm S) { } func m(x &S, b int) bool { } } func main() { }
an_implementation : text (codes "I" ∷ codes "m" ∷ codes "self" ∷ codes "a" ∷ codes "n" ∷ codes "S" ∷ codes "x" ∷ codes "b" ∷ codes "main" ∷ []) (interface_item (n 0 11) (head false (n 1 20) (param (n 2 22) (ref_type (at 27) (named_type (n 0 28))) ∷ param (n 3 31) (int_type (at 33)) ∷ []) (Some (bool_type (at 38))) ∷ head true (n 4 54) (param (n 2 56) (imm_ref_type (at 61) (named_type (n 0 66))) ∷ []) None ∷ []) ∷ struct_item (n 5 79) [] ∷ impl_item (at 85) (n 0 90) (n 5 96) (function (head true (n 4 110) (param (n 6 112) (imm_ref_type (at 114) (named_type (n 5 119))) ∷ []) None) (block (at 122) (at 124) no_stmts) ∷ function (head false (n 1 131) (param (n 6 133) (ref_type (at 135) (named_type (n 5 136))) ∷ param (n 7 139) (int_type (at 141)) ∷ []) (Some (bool_type (at 146)))) (block (at 151) (at 153) no_stmts) ∷ []) ∷ function_item (function (head false (n 8 162) [] None) (block (at 169) (at 171) no_stmts)) ∷ []) ≡ None
an_implementation = refl

-- interface I { func m(self &I); } struct S { } impl I for S { } func main() { }
a_method_is_missing : text (codes "I" ∷ codes "m" ∷ codes "self" ∷ codes "S" ∷ codes "main" ∷ []) (interface_item (n 0 11) (head false (n 1 20) (param (n 2 22) (ref_type (at 27) (named_type (n 0 28))) ∷ []) None ∷ []) ∷ struct_item (n 3 41) [] ∷ impl_item (at 47) (n 0 52) (n 3 58) [] ∷ function_item (function (head false (n 4 69) [] None) (block (at 76) (at 78) no_stmts)) ∷ []) ≡ fault 12 47
a_method_is_missing = refl

-- interface I { } struct S { } impl I for S { func m(self &S) { } } func main() { }
a_method_too_many : text (codes "I" ∷ codes "S" ∷ codes "m" ∷ codes "self" ∷ codes "main" ∷ []) (interface_item (n 0 11) [] ∷ struct_item (n 1 24) [] ∷ impl_item (at 30) (n 0 35) (n 1 41) (function (head false (n 2 50) (param (n 3 52) (ref_type (at 57) (named_type (n 1 58))) ∷ []) None) (block (at 61) (at 63) no_stmts) ∷ []) ∷ function_item (function (head false (n 4 72) [] None) (block (at 79) (at 81) no_stmts)) ∷ []) ≡ fault 12 30
a_method_too_many = refl

-- interface I { func m(self &I, a int); } struct S { } impl I for S { func m(self &S, a bool) { } } func main() { }
another_parameter : text (codes "I" ∷ codes "m" ∷ codes "self" ∷ codes "a" ∷ codes "S" ∷ codes "main" ∷ []) (interface_item (n 0 11) (head false (n 1 20) (param (n 2 22) (ref_type (at 27) (named_type (n 0 28))) ∷ param (n 3 31) (int_type (at 33)) ∷ []) None ∷ []) ∷ struct_item (n 4 48) [] ∷ impl_item (at 54) (n 0 59) (n 4 65) (function (head false (n 1 74) (param (n 2 76) (ref_type (at 81) (named_type (n 4 82))) ∷ param (n 3 85) (bool_type (at 87)) ∷ []) None) (block (at 93) (at 95) no_stmts) ∷ []) ∷ function_item (function (head false (n 5 104) [] None) (block (at 111) (at 113) no_stmts)) ∷ []) ≡ fault 12 54
another_parameter = refl

-- interface I { func m(self &I) int; } struct S { } impl I for S { func m(self &S) { } } func main() { }
another_result : text (codes "I" ∷ codes "m" ∷ codes "self" ∷ codes "S" ∷ codes "main" ∷ []) (interface_item (n 0 11) (head false (n 1 20) (param (n 2 22) (ref_type (at 27) (named_type (n 0 28))) ∷ []) (Some (int_type (at 31))) ∷ []) ∷ struct_item (n 3 45) [] ∷ impl_item (at 51) (n 0 56) (n 3 62) (function (head false (n 1 71) (param (n 2 73) (ref_type (at 78) (named_type (n 3 79))) ∷ []) None) (block (at 82) (at 84) no_stmts) ∷ []) ∷ function_item (function (head false (n 4 93) [] None) (block (at 100) (at 102) no_stmts)) ∷ []) ≡ fault 12 51
another_result = refl

-- interface I { func m(self &imm I); } struct S { } impl I for S { pure func m(self &imm S) { } } func main() { }
another_purity : text (codes "I" ∷ codes "m" ∷ codes "self" ∷ codes "S" ∷ codes "main" ∷ []) (interface_item (n 0 11) (head false (n 1 20) (param (n 2 22) (imm_ref_type (at 27) (named_type (n 0 32))) ∷ []) None ∷ []) ∷ struct_item (n 3 45) [] ∷ impl_item (at 51) (n 0 56) (n 3 62) (function (head true (n 1 76) (param (n 2 78) (imm_ref_type (at 83) (named_type (n 3 88))) ∷ []) None) (block (at 91) (at 93) no_stmts) ∷ []) ∷ function_item (function (head false (n 4 102) [] None) (block (at 109) (at 111) no_stmts)) ∷ []) ≡ fault 12 51
another_purity = refl

-- interface I { func m(self &I); } struct S { } impl I for S { func m(self &imm S) { } } func main() { }
another_self : text (codes "I" ∷ codes "m" ∷ codes "self" ∷ codes "S" ∷ codes "main" ∷ []) (interface_item (n 0 11) (head false (n 1 20) (param (n 2 22) (ref_type (at 27) (named_type (n 0 28))) ∷ []) None ∷ []) ∷ struct_item (n 3 41) [] ∷ impl_item (at 47) (n 0 52) (n 3 58) (function (head false (n 1 67) (param (n 2 69) (imm_ref_type (at 74) (named_type (n 3 79))) ∷ []) None) (block (at 82) (at 84) no_stmts) ∷ []) ∷ function_item (function (head false (n 4 93) [] None) (block (at 100) (at 102) no_stmts)) ∷ []) ≡ fault 12 47
another_self = refl

-- interface I { func m(); } func main() { }
a_method_without_self : text (codes "I" ∷ codes "m" ∷ codes "main" ∷ []) (interface_item (n 0 11) (head false (n 1 20) [] None ∷ []) ∷ function_item (function (head false (n 2 32) [] None) (block (at 39) (at 41) no_stmts)) ∷ []) ≡ fault 12 20
a_method_without_self = refl

-- interface I { func m(self I); } func main() { }
a_method_of_an_owner : text (codes "I" ∷ codes "m" ∷ codes "self" ∷ codes "main" ∷ []) (interface_item (n 0 11) (head false (n 1 20) (param (n 2 22) (named_type (n 0 27)) ∷ []) None ∷ []) ∷ function_item (function (head false (n 3 38) [] None) (block (at 45) (at 47) no_stmts)) ∷ []) ≡ fault 12 20
a_method_of_an_owner = refl

-- interface I { pure func m(self &I); } func main() { }
a_pure_method_that_may_write : text (codes "I" ∷ codes "m" ∷ codes "self" ∷ codes "main" ∷ []) (interface_item (n 0 11) (head true (n 1 25) (param (n 2 27) (ref_type (at 32) (named_type (n 0 33))) ∷ []) None ∷ []) ∷ function_item (function (head false (n 3 44) [] None) (block (at 51) (at 53) no_stmts)) ∷ []) ≡ fault 12 25
a_pure_method_that_may_write = refl

-- ---- `main`

-- func main(xs []str) { }
main_takes_texts : text (codes "main" ∷ codes "xs" ∷ []) (function_item (function (head false (n 0 6) (param (n 1 11) (array_type (at 14) (str_type (at 16))) ∷ []) None) (block (at 21) (at 23) no_stmts)) ∷ []) ≡ None
main_takes_texts = refl

-- func main(xs []int) { }
main_takes_numbers : text (codes "main" ∷ codes "xs" ∷ []) (function_item (function (head false (n 0 6) (param (n 1 11) (array_type (at 14) (int_type (at 16))) ∷ []) None) (block (at 21) (at 23) no_stmts)) ∷ []) ≡ None
main_takes_numbers = refl

-- struct S { }
no_main : text (codes "S" ∷ []) (struct_item (n 0 8) [] ∷ []) ≡ fault 13 1
no_main = refl

-- struct main { }
a_struct_named_main : text (codes "main" ∷ []) (struct_item (n 0 8) [] ∷ []) ≡ fault 13 1
a_struct_named_main = refl

-- pure func main() { }
a_pure_main : text (codes "main" ∷ []) (function_item (function (head true (n 0 11) [] None) (block (at 18) (at 20) no_stmts)) ∷ []) ≡ fault 13 11
a_pure_main = refl

-- func main() int { }
a_main_with_a_result : text (codes "main" ∷ []) (function_item (function (head false (n 0 6) [] (Some (int_type (at 13)))) (block (at 17) (at 19) no_stmts)) ∷ []) ≡ fault 13 6
a_main_with_a_result = refl

-- func main(xs []bool) { }
main_takes_truths : text (codes "main" ∷ codes "xs" ∷ []) (function_item (function (head false (n 0 6) (param (n 1 11) (array_type (at 14) (bool_type (at 16))) ∷ []) None) (block (at 22) (at 24) no_stmts)) ∷ []) ≡ fault 13 6
main_takes_truths = refl

-- func main(x int) { } func main() { }
a_second_main_is_lawful : text (codes "main" ∷ codes "x" ∷ []) (function_item (function (head false (n 0 6) (param (n 1 11) (int_type (at 13)) ∷ []) None) (block (at 18) (at 20) no_stmts)) ∷ function_item (function (head false (n 0 27) [] None) (block (at 34) (at 36) no_stmts)) ∷ []) ≡ fault 10 27
a_second_main_is_lawful = refl

-- ---- isolates of what has isolates

-- func f(x iso S) { } struct S { } func main() { }
an_isolate : text (codes "f" ∷ codes "x" ∷ codes "S" ∷ codes "main" ∷ []) (function_item (function (head false (n 0 6) (param (n 1 8) (iso_type (at 10) (named_type (n 2 14))) ∷ []) None) (block (at 17) (at 19) no_stmts)) ∷ struct_item (n 2 28) [] ∷ function_item (function (head false (n 3 39) [] None) (block (at 46) (at 48) no_stmts)) ∷ []) ≡ None
an_isolate = refl

-- func f(x iso []iso S) { } struct S { } func main() { }
isolates_of_an_isolate_array : text (codes "f" ∷ codes "x" ∷ codes "S" ∷ codes "main" ∷ []) (function_item (function (head false (n 0 6) (param (n 1 8) (iso_type (at 10) (array_type (at 14) (iso_type (at 16) (named_type (n 2 20))))) ∷ []) None) (block (at 23) (at 25) no_stmts)) ∷ struct_item (n 2 34) [] ∷ function_item (function (head false (n 3 45) [] None) (block (at 52) (at 54) no_stmts)) ∷ []) ≡ fault 14 10
isolates_of_an_isolate_array = refl

-- func f(x iso S) { } struct S { a T; } struct T { b &[]iso U; } struct U { } func main() { }
an_isolate_of_a_struct_that_refers_to_isolates : text (codes "f" ∷ codes "x" ∷ codes "S" ∷ codes "a" ∷ codes "T" ∷ codes "b" ∷ codes "U" ∷ codes "main" ∷ []) (function_item (function (head false (n 0 6) (param (n 1 8) (iso_type (at 10) (named_type (n 2 14))) ∷ []) None) (block (at 17) (at 19) no_stmts)) ∷ struct_item (n 2 28) (field_decl (n 3 32) false (named_type (n 4 34)) ∷ []) ∷ struct_item (n 4 46) (field_decl (n 5 50) false (ref_type (at 52) (array_type (at 53) (iso_type (at 55) (named_type (n 6 59))))) ∷ []) ∷ struct_item (n 6 71) [] ∷ function_item (function (head false (n 7 82) [] None) (block (at 89) (at 91) no_stmts)) ∷ []) ≡ fault 14 10
an_isolate_of_a_struct_that_refers_to_isolates = refl

-- func f(x iso I) { } interface I { } struct T { b &[]iso U; } struct U { } impl I for T { } func main() { }
an_isolate_of_what_is_implemented_so : text (codes "f" ∷ codes "x" ∷ codes "I" ∷ codes "T" ∷ codes "b" ∷ codes "U" ∷ codes "main" ∷ []) (function_item (function (head false (n 0 6) (param (n 1 8) (iso_type (at 10) (named_type (n 2 14))) ∷ []) None) (block (at 17) (at 19) no_stmts)) ∷ interface_item (n 2 31) [] ∷ struct_item (n 3 44) (field_decl (n 4 48) false (ref_type (at 50) (array_type (at 51) (iso_type (at 53) (named_type (n 5 57))))) ∷ []) ∷ struct_item (n 5 69) [] ∷ impl_item (at 75) (n 2 80) (n 3 86) [] ∷ function_item (function (head false (n 6 97) [] None) (block (at 104) (at 106) no_stmts)) ∷ []) ≡ fault 14 10
an_isolate_of_what_is_implemented_so = refl

-- func f(x iso U) { } interface I { } struct T { b &[]iso U; } struct U { } impl I for T { } impl I for U { } func main() { }
a_struct_does_not_reach_what_else_is_implemented : text (codes "f" ∷ codes "x" ∷ codes "U" ∷ codes "I" ∷ codes "T" ∷ codes "b" ∷ codes "main" ∷ []) (function_item (function (head false (n 0 6) (param (n 1 8) (iso_type (at 10) (named_type (n 2 14))) ∷ []) None) (block (at 17) (at 19) no_stmts)) ∷ interface_item (n 3 31) [] ∷ struct_item (n 4 44) (field_decl (n 5 48) false (ref_type (at 50) (array_type (at 51) (iso_type (at 53) (named_type (n 2 57))))) ∷ []) ∷ struct_item (n 2 69) [] ∷ impl_item (at 75) (n 3 80) (n 4 86) [] ∷ impl_item (at 92) (n 3 97) (n 2 103) [] ∷ function_item (function (head false (n 6 114) [] None) (block (at 121) (at 123) no_stmts)) ∷ []) ≡ None
a_struct_does_not_reach_what_else_is_implemented = refl

-- func f(x iso S) { } struct S { a &T; } struct T { b &S; } func main() { }
a_ring_of_structs : text (codes "f" ∷ codes "x" ∷ codes "S" ∷ codes "a" ∷ codes "T" ∷ codes "b" ∷ codes "main" ∷ []) (function_item (function (head false (n 0 6) (param (n 1 8) (iso_type (at 10) (named_type (n 2 14))) ∷ []) None) (block (at 17) (at 19) no_stmts)) ∷ struct_item (n 2 28) (field_decl (n 3 32) false (ref_type (at 34) (named_type (n 4 35))) ∷ []) ∷ struct_item (n 4 47) (field_decl (n 5 51) false (ref_type (at 53) (named_type (n 2 54))) ∷ []) ∷ function_item (function (head false (n 6 64) [] None) (block (at 71) (at 73) no_stmts)) ∷ []) ≡ None
a_ring_of_structs = refl

-- ---- `drop`

-- func drop(self S) { } struct S { } func main() { }
a_drop : text (codes "drop" ∷ codes "self" ∷ codes "S" ∷ codes "main" ∷ []) (function_item (function (head false (n 0 6) (param (n 1 11) (named_type (n 2 16)) ∷ []) None) (block (at 19) (at 21) no_stmts)) ∷ struct_item (n 2 30) [] ∷ function_item (function (head false (n 3 41) [] None) (block (at 48) (at 50) no_stmts)) ∷ []) ≡ None
a_drop = refl

-- func drop(x int) { } func main() { }
a_drop_of_a_number : text (codes "drop" ∷ codes "x" ∷ codes "main" ∷ []) (function_item (function (head false (n 0 6) (param (n 1 11) (int_type (at 13)) ∷ []) None) (block (at 18) (at 20) no_stmts)) ∷ function_item (function (head false (n 2 27) [] None) (block (at 34) (at 36) no_stmts)) ∷ []) ≡ fault 15 6
a_drop_of_a_number = refl

-- func drop(x S) { } struct S { } func main() { }
a_drop_of_another_name : text (codes "drop" ∷ codes "x" ∷ codes "S" ∷ codes "main" ∷ []) (function_item (function (head false (n 0 6) (param (n 1 11) (named_type (n 2 13)) ∷ []) None) (block (at 16) (at 18) no_stmts)) ∷ struct_item (n 2 27) [] ∷ function_item (function (head false (n 3 38) [] None) (block (at 45) (at 47) no_stmts)) ∷ []) ≡ fault 15 6
a_drop_of_another_name = refl

-- func drop(self S) { } interface S { } func main() { }
a_drop_of_an_interface : text (codes "drop" ∷ codes "self" ∷ codes "S" ∷ codes "main" ∷ []) (function_item (function (head false (n 0 6) (param (n 1 11) (named_type (n 2 16)) ∷ []) None) (block (at 19) (at 21) no_stmts)) ∷ interface_item (n 2 33) [] ∷ function_item (function (head false (n 3 44) [] None) (block (at 51) (at 53) no_stmts)) ∷ []) ≡ fault 15 6
a_drop_of_an_interface = refl

-- pure func drop(self S) { } struct S { } func main() { }
a_pure_drop : text (codes "drop" ∷ codes "self" ∷ codes "S" ∷ codes "main" ∷ []) (function_item (function (head true (n 0 11) (param (n 1 16) (named_type (n 2 21)) ∷ []) None) (block (at 24) (at 26) no_stmts)) ∷ struct_item (n 2 35) [] ∷ function_item (function (head false (n 3 46) [] None) (block (at 53) (at 55) no_stmts)) ∷ []) ≡ fault 15 11
a_pure_drop = refl

-- func drop(self S) int { } struct S { } func main() { }
a_drop_with_a_result : text (codes "drop" ∷ codes "self" ∷ codes "S" ∷ codes "main" ∷ []) (function_item (function (head false (n 0 6) (param (n 1 11) (named_type (n 2 16)) ∷ []) (Some (int_type (at 19)))) (block (at 23) (at 25) no_stmts)) ∷ struct_item (n 2 34) [] ∷ function_item (function (head false (n 3 45) [] None) (block (at 52) (at 54) no_stmts)) ∷ []) ≡ fault 15 6
a_drop_with_a_result = refl

-- ---- types that are none

-- func f(a &[]int, b iso T, c []iso T, d &imm S) { } struct S { a []&S; b &[]iso T; } struct T { } func main() { }
types : text (codes "f" ∷ codes "a" ∷ codes "b" ∷ codes "T" ∷ codes "c" ∷ codes "d" ∷ codes "S" ∷ codes "main" ∷ []) (function_item (function (head false (n 0 6) (param (n 1 8) (ref_type (at 10) (array_type (at 11) (int_type (at 13)))) ∷ param (n 2 18) (iso_type (at 20) (named_type (n 3 24))) ∷ param (n 4 27) (array_type (at 29) (iso_type (at 31) (named_type (n 3 35)))) ∷ param (n 5 38) (imm_ref_type (at 40) (named_type (n 6 45))) ∷ []) None) (block (at 48) (at 50) no_stmts)) ∷ struct_item (n 6 59) (field_decl (n 1 63) false (array_type (at 65) (ref_type (at 67) (named_type (n 6 68)))) ∷ field_decl (n 2 71) false (ref_type (at 73) (array_type (at 74) (iso_type (at 76) (named_type (n 3 80))))) ∷ []) ∷ struct_item (n 3 92) [] ∷ function_item (function (head false (n 7 103) [] None) (block (at 110) (at 112) no_stmts)) ∷ []) ≡ None
types = refl

-- struct S { a &imm S; } func main() { }
a_frozen_field : text (codes "S" ∷ codes "a" ∷ codes "main" ∷ []) (struct_item (n 0 8) (field_decl (n 1 12) false (imm_ref_type (at 14) (named_type (n 0 19))) ∷ []) ∷ function_item (function (head false (n 2 29) [] None) (block (at 36) (at 38) no_stmts)) ∷ []) ≡ fault 16 14
a_frozen_field = refl

-- struct S { a []&imm S; } func main() { }
a_frozen_element : text (codes "S" ∷ codes "a" ∷ codes "main" ∷ []) (struct_item (n 0 8) (field_decl (n 1 12) false (array_type (at 14) (imm_ref_type (at 16) (named_type (n 0 21)))) ∷ []) ∷ function_item (function (head false (n 2 31) [] None) (block (at 38) (at 40) no_stmts)) ∷ []) ≡ fault 16 16
a_frozen_element = refl

-- func f() { []&imm S(); } struct S { } func main() { }
a_frozen_element_in_a_body : text (codes "f" ∷ codes "S" ∷ codes "main" ∷ []) (function_item (function (head false (n 0 6) [] None) (block (at 10) (at 24) (more_stmts (express (array (at 12) (imm_ref_type (at 14) (named_type (n 1 19))) no_exprs)) no_stmts))) ∷ struct_item (n 1 33) [] ∷ function_item (function (head false (n 2 44) [] None) (block (at 51) (at 53) no_stmts)) ∷ []) ≡ fault 16 14
a_frozen_element_in_a_body = refl

-- struct T { } struct S { a iso T; } func main() { }
a_field_of_an_isolate : text (codes "T" ∷ codes "S" ∷ codes "a" ∷ codes "main" ∷ []) (struct_item (n 0 8) [] ∷ struct_item (n 1 21) (field_decl (n 2 25) false (iso_type (at 27) (named_type (n 0 31))) ∷ []) ∷ function_item (function (head false (n 3 41) [] None) (block (at 48) (at 50) no_stmts)) ∷ []) ≡ fault 16 27
a_field_of_an_isolate = refl

-- struct T { } struct S { a [][]iso T; } func main() { }
a_field_of_isolates : text (codes "T" ∷ codes "S" ∷ codes "a" ∷ codes "main" ∷ []) (struct_item (n 0 8) [] ∷ struct_item (n 1 21) (field_decl (n 2 25) false (array_type (at 27) (array_type (at 29) (iso_type (at 31) (named_type (n 0 35))))) ∷ []) ∷ function_item (function (head false (n 3 45) [] None) (block (at 52) (at 54) no_stmts)) ∷ []) ≡ fault 16 27
a_field_of_isolates = refl

-- func f(a &int) { } func main() { }
a_reference_to_a_number : text (codes "f" ∷ codes "a" ∷ codes "main" ∷ []) (function_item (function (head false (n 0 6) (param (n 1 8) (ref_type (at 10) (int_type (at 11))) ∷ []) None) (block (at 16) (at 18) no_stmts)) ∷ function_item (function (head false (n 2 25) [] None) (block (at 32) (at 34) no_stmts)) ∷ []) ≡ fault 16 10
a_reference_to_a_number = refl

-- func f(a iso iso S) { } struct S { } func main() { }
an_isolate_of_an_isolate : text (codes "f" ∷ codes "a" ∷ codes "S" ∷ codes "main" ∷ []) (function_item (function (head false (n 0 6) (param (n 1 8) (iso_type (at 10) (iso_type (at 14) (named_type (n 2 18)))) ∷ []) None) (block (at 21) (at 23) no_stmts)) ∷ struct_item (n 2 32) [] ∷ function_item (function (head false (n 3 43) [] None) (block (at 50) (at 52) no_stmts)) ∷ []) ≡ fault 16 10
an_isolate_of_an_isolate = refl

-- ---- names that a function declares

-- as many names as the number, of one destructuring
abbrev many : ℕ → Stmts
many k = more_stmts (destructure (at 1) (replicate k (n 2 1)) (number (at 1) (pos 1))) no_stmts

as_many_as_there_may_be : text (codes "main" ∷ codes "f" ∷ codes "a" ∷ []) (function_item (function (head false (n 0 6) [] None) (block (at 1) (at 1) no_stmts)) ∷ function_item (function (head false (n 1 19) (param (n 2 21) (int_type (at 23)) ∷ []) None) (block (at 28) (at 28) (many 1023))) ∷ []) ≡ None
as_many_as_there_may_be = refl

one_more : text (codes "main" ∷ codes "f" ∷ codes "a" ∷ []) (function_item (function (head false (n 0 6) [] None) (block (at 1) (at 1) no_stmts)) ∷ function_item (function (head false (n 1 19) (param (n 2 21) (int_type (at 23)) ∷ []) None) (block (at 28) (at 28) (many 1024))) ∷ []) ≡ fault 17 19
one_more = refl
