-- Texts whose types are lawful, and texts whose types aren't, by computation: for each code both. A text stands here as its
-- tree.
use Rattle.std.proofs.Common.{◌≡◌, ℕ, List, [], ◌∷◌, Option, Some, None, refl}
use Rattle.std.specs.Prelude.{true, false, codes, pos}
use Rattle.vale_base.specs.declared.spot.Spot.{Spot}
use Rattle.vale_syntax.specs.declared.tree.NameAt.{NameAt}
use Rattle.vale_syntax.specs.declared.tree.BinaryOp.TheVariants.{Or, And, Equal, Less, GreaterEqual, Add, Sub, Mul}
use Rattle.vale_syntax.specs.declared.tree.UnaryOp.TheVariants.{Minus, Not, Borrow, Merge}
use Rattle.vale_syntax.specs.declared.fault.Fault.{Fault}
use Rattle.vale_rules_spec.specs.Judged.{Judged, fine, faulty, faults, first_of}
use Rattle.vale_rules_spec.specs.Typing.{typed}
use Rattle.vale_rules_spec.specs.Sites.{sites}
use Rattle.vale_rules_spec.specs.Typed.{Typed}
use Rattle.vale_syntax.specs.Tree.{int_type, bool_type, str_type, named_type, array_type, ref_type, imm_ref_type, iso_type, set, chain, unary, steps, number, quote, truth, name, call, paren, array, iso, form, no_exprs, more_exprs, link, no_links, more_links, field, method, index, no_steps, more_steps, branch, pure, parallel_range, parallel_each, else_if, no_else, otherwise, more_elses, block, declare, destructure, return_nothing, return_value, while, foreach, form_stmt, express, no_stmts, last, more_stmts, param, head, function, field_decl, Item, struct_item, interface_item, impl_item, function_item, tree}

-- ---- nodes, with their columns in a text of one line

abbrev at : ℕ → Spot
at column = record { line = 1; col = column }

-- the name of a number
abbrev n : ℕ → ℕ → NameAt
n k column = record { name = record { 0 = k }; at = at column }

abbrev fault : ℕ → ℕ → Option Fault
fault code column = Some (record { code = code; at = at column })

-- the first fault of the tree with these names and items
abbrev text : List (List ℕ) → List Item → Option Fault
text names items = first_of (faults (typed (tree names items)))

abbrev count : Judged Typed → Option ℕ
count (fine program) = Some (sites program)
count (faulty f fs) = None

-- how many sites the program has, where it has no fault
abbrev sites_of : List (List ℕ) → List Item → Option ℕ
sites_of names items = count (typed (tree names items))

-- ---- operators

-- func main() { x = 1 + 2 * 3; }
numbers_are_added : text (codes "main" ∷ codes "x" ∷ []) (function_item (function (head false (n 0 6) [] None) (block (at 13) (at 30) (more_stmts (declare (n 1 15) (chain (number (at 19) (pos 1)) (more_links (link (at 21) Add (chain (number (at 23) (pos 2)) (more_links (link (at 25) Mul (number (at 27) (pos 3))) no_links))) no_links))) no_stmts))) ∷ []) ≡ None
numbers_are_added = refl

-- func main() { x = 1 + true; }
a_number_and_a_truth : text (codes "main" ∷ codes "x" ∷ []) (function_item (function (head false (n 0 6) [] None) (block (at 13) (at 29) (more_stmts (declare (n 1 15) (chain (number (at 19) (pos 1)) (more_links (link (at 21) Add (truth (at 23) true)) no_links))) no_stmts))) ∷ []) ≡ fault 20 21
a_number_and_a_truth = refl

-- func main() { x = "a" + "b"; println(x + "c"); }
texts_are_joined : text (codes "main" ∷ codes "x" ∷ codes "println" ∷ []) (function_item (function (head false (n 0 6) [] None) (block (at 13) (at 48) (more_stmts (declare (n 1 15) (chain (quote (at 19) (codes "a")) (more_links (link (at 23) Add (quote (at 25) (codes "b"))) no_links))) (more_stmts (express (call (n 2 30) (more_exprs (chain (name (n 1 38)) (more_links (link (at 40) Add (quote (at 42) (codes "c"))) no_links)) no_exprs))) no_stmts)))) ∷ []) ≡ None
texts_are_joined = refl

-- func main() { x = "a" - "b"; }
texts_are_subtracted : text (codes "main" ∷ codes "x" ∷ []) (function_item (function (head false (n 0 6) [] None) (block (at 13) (at 30) (more_stmts (declare (n 1 15) (chain (quote (at 19) (codes "a")) (more_links (link (at 23) Sub (quote (at 25) (codes "b"))) no_links))) no_stmts))) ∷ []) ≡ fault 20 23
texts_are_subtracted = refl

-- func main() { x = "a" < "b"; y = 1 >= 2; z = x == y; }
order_and_equality : text (codes "main" ∷ codes "x" ∷ codes "y" ∷ codes "z" ∷ []) (function_item (function (head false (n 0 6) [] None) (block (at 13) (at 54) (more_stmts (declare (n 1 15) (chain (quote (at 19) (codes "a")) (more_links (link (at 23) Less (quote (at 25) (codes "b"))) no_links))) (more_stmts (declare (n 2 30) (chain (number (at 34) (pos 1)) (more_links (link (at 36) GreaterEqual (number (at 39) (pos 2))) no_links))) (more_stmts (declare (n 3 42) (chain (name (n 1 46)) (more_links (link (at 48) Equal (name (n 2 51))) no_links))) no_stmts))))) ∷ []) ≡ None
order_and_equality = refl

-- func main() { x = true < false; }
truths_have_no_order : text (codes "main" ∷ codes "x" ∷ []) (function_item (function (head false (n 0 6) [] None) (block (at 13) (at 33) (more_stmts (declare (n 1 15) (chain (truth (at 19) true) (more_links (link (at 24) Less (truth (at 26) false)) no_links))) no_stmts))) ∷ []) ≡ fault 20 24
truths_have_no_order = refl

-- func main() { x = "a" == 1; }
a_text_equals_a_number : text (codes "main" ∷ codes "x" ∷ []) (function_item (function (head false (n 0 6) [] None) (block (at 13) (at 29) (more_stmts (declare (n 1 15) (chain (quote (at 19) (codes "a")) (more_links (link (at 23) Equal (number (at 26) (pos 1))) no_links))) no_stmts))) ∷ []) ≡ fault 20 23
a_text_equals_a_number = refl

-- struct S { } func main() { s = S(); r = &s; b = r == r; }
references_have_no_equality : text (codes "S" ∷ codes "main" ∷ codes "s" ∷ codes "r" ∷ codes "b" ∷ []) (struct_item (n 0 8) [] ∷ function_item (function (head false (n 1 19) [] None) (block (at 26) (at 57) (more_stmts (declare (n 2 28) (call (n 0 32) no_exprs)) (more_stmts (declare (n 3 37) (unary (at 41) Borrow (name (n 2 42)))) (more_stmts (declare (n 4 45) (chain (name (n 3 49)) (more_links (link (at 51) Equal (name (n 3 54))) no_links))) no_stmts))))) ∷ []) ≡ fault 20 51
references_have_no_equality = refl

-- func main() { x = 1 + 2 - true; }
the_second_operator : text (codes "main" ∷ codes "x" ∷ []) (function_item (function (head false (n 0 6) [] None) (block (at 13) (at 33) (more_stmts (declare (n 1 15) (chain (number (at 19) (pos 1)) (more_links (link (at 21) Add (number (at 23) (pos 2))) (more_links (link (at 25) Sub (truth (at 27) true)) no_links)))) no_stmts))) ∷ []) ≡ fault 20 25
the_second_operator = refl

-- func main() { x = not true and false or true; }
truths : text (codes "main" ∷ codes "x" ∷ []) (function_item (function (head false (n 0 6) [] None) (block (at 13) (at 47) (more_stmts (declare (n 1 15) (chain (chain (unary (at 19) Not (truth (at 23) true)) (more_links (link (at 28) And (truth (at 32) false)) no_links)) (more_links (link (at 38) Or (truth (at 41) true)) no_links))) no_stmts))) ∷ []) ≡ None
truths = refl

-- func main() { x = -true; }
minus_of_a_truth : text (codes "main" ∷ codes "x" ∷ []) (function_item (function (head false (n 0 6) [] None) (block (at 13) (at 26) (more_stmts (declare (n 1 15) (unary (at 19) Minus (truth (at 20) true))) no_stmts))) ∷ []) ≡ fault 20 19
minus_of_a_truth = refl

-- func main() { x = not 1; }
not_of_a_number : text (codes "main" ∷ codes "x" ∷ []) (function_item (function (head false (n 0 6) [] None) (block (at 13) (at 26) (more_stmts (declare (n 1 15) (unary (at 19) Not (number (at 23) (pos 1)))) no_stmts))) ∷ []) ≡ fault 20 19
not_of_a_number = refl

-- func main() { x = true and 1; }
and_of_a_number : text (codes "main" ∷ codes "x" ∷ []) (function_item (function (head false (n 0 6) [] None) (block (at 13) (at 31) (more_stmts (declare (n 1 15) (chain (truth (at 19) true) (more_links (link (at 24) And (number (at 28) (pos 1))) no_links))) no_stmts))) ∷ []) ≡ fault 20 24
and_of_a_number = refl

-- ---- names

-- func main() { println(y); }
an_unknown_name : text (codes "main" ∷ codes "println" ∷ codes "y" ∷ []) (function_item (function (head false (n 0 6) [] None) (block (at 13) (at 27) (more_stmts (express (call (n 1 15) (more_exprs (name (n 2 23)) no_exprs))) no_stmts))) ∷ []) ≡ fault 21 23
an_unknown_name = refl

-- func main() { if true { x = 1; } println(x); }
a_name_behind_its_block : text (codes "main" ∷ codes "x" ∷ codes "println" ∷ []) (function_item (function (head false (n 0 6) [] None) (block (at 13) (at 46) (more_stmts (form_stmt (branch (at 15) (truth (at 18) true) (block (at 23) (at 32) (more_stmts (declare (n 1 25) (number (at 29) (pos 1))) no_stmts)) no_else)) (more_stmts (express (call (n 2 34) (more_exprs (name (n 1 42)) no_exprs))) no_stmts)))) ∷ []) ≡ fault 21 42
a_name_behind_its_block = refl

-- func main() { if true { x = 1; } x = 2; }
a_name_again_behind_its_block : text (codes "main" ∷ codes "x" ∷ []) (function_item (function (head false (n 0 6) [] None) (block (at 13) (at 41) (more_stmts (form_stmt (branch (at 15) (truth (at 18) true) (block (at 23) (at 32) (more_stmts (declare (n 1 25) (number (at 29) (pos 1))) no_stmts)) no_else)) (more_stmts (declare (n 1 34) (number (at 38) (pos 2))) no_stmts)))) ∷ []) ≡ None
a_name_again_behind_its_block = refl

-- func main() { x = 1; x = 2; }
a_name_twice : text (codes "main" ∷ codes "x" ∷ []) (function_item (function (head false (n 0 6) [] None) (block (at 13) (at 29) (more_stmts (declare (n 1 15) (number (at 19) (pos 1))) (more_stmts (declare (n 1 22) (number (at 26) (pos 2))) no_stmts)))) ∷ []) ≡ fault 27 22
a_name_twice = refl

-- func f(a int) { a = 1; } func main() { }
the_name_of_a_parameter : text (codes "f" ∷ codes "a" ∷ codes "main" ∷ []) (function_item (function (head false (n 0 6) (param (n 1 8) (int_type (at 10)) ∷ []) None) (block (at 15) (at 24) (more_stmts (declare (n 1 17) (number (at 21) (pos 1))) no_stmts))) ∷ function_item (function (head false (n 2 31) [] None) (block (at 38) (at 40) no_stmts)) ∷ []) ≡ fault 27 17
the_name_of_a_parameter = refl

-- func main() { i = 0; foreach i in true..2 { } }
the_name_of_a_loop_before_its_bounds : text (codes "main" ∷ codes "i" ∷ []) (function_item (function (head false (n 0 6) [] None) (block (at 13) (at 47) (more_stmts (declare (n 1 15) (number (at 19) (pos 0))) (more_stmts (foreach (at 22) (n 1 30) (truth (at 35) true) (number (at 41) (pos 2)) (block (at 43) (at 45) no_stmts)) no_stmts)))) ∷ []) ≡ fault 27 30
the_name_of_a_loop_before_its_bounds = refl

-- struct S { a int; b int; } func main() { [a, a] = S(1, 2); }
a_destructured_name_twice : text (codes "S" ∷ codes "a" ∷ codes "b" ∷ codes "main" ∷ []) (struct_item (n 0 8) (field_decl (n 1 12) false (int_type (at 14)) ∷ field_decl (n 2 19) false (int_type (at 21)) ∷ []) ∷ function_item (function (head false (n 3 33) [] None) (block (at 40) (at 60) (more_stmts (destructure (at 42) ((n 1 43) ∷ (n 1 46) ∷ []) (call (n 0 51) (more_exprs (number (at 53) (pos 1)) (more_exprs (number (at 56) (pos 2)) no_exprs)))) no_stmts))) ∷ []) ≡ fault 27 46
a_destructured_name_twice = refl

-- func f() { } func main() { x = f(); }
nothing_is_declared : text (codes "f" ∷ codes "main" ∷ codes "x" ∷ []) (function_item (function (head false (n 0 6) [] None) (block (at 10) (at 12) no_stmts)) ∷ function_item (function (head false (n 1 19) [] None) (block (at 26) (at 37) (more_stmts (declare (n 2 28) (call (n 0 32) no_exprs)) no_stmts))) ∷ []) ≡ fault 20 28
nothing_is_declared = refl

-- func f() { } func main() { x = 1; x = f(); }
a_name_of_a_void_value_twice : text (codes "f" ∷ codes "main" ∷ codes "x" ∷ []) (function_item (function (head false (n 0 6) [] None) (block (at 10) (at 12) no_stmts)) ∷ function_item (function (head false (n 1 19) [] None) (block (at 26) (at 44) (more_stmts (declare (n 2 28) (number (at 32) (pos 1))) (more_stmts (declare (n 2 35) (call (n 0 39) no_exprs)) no_stmts)))) ∷ []) ≡ fault 20 35
a_name_of_a_void_value_twice = refl

-- ---- calls

-- func f(a int, b str) int { return a; } func main() { println(f(1, "b")); }
a_call : text (codes "f" ∷ codes "a" ∷ codes "b" ∷ codes "main" ∷ codes "println" ∷ []) (function_item (function (head false (n 0 6) (param (n 1 8) (int_type (at 10)) ∷ param (n 2 15) (str_type (at 17)) ∷ []) (Some (int_type (at 22)))) (block (at 26) (at 38) (more_stmts (return_value (at 28) (name (n 1 35))) no_stmts))) ∷ function_item (function (head false (n 3 45) [] None) (block (at 52) (at 74) (more_stmts (express (call (n 4 54) (more_exprs (call (n 0 62) (more_exprs (number (at 64) (pos 1)) (more_exprs (quote (at 67) (codes "b")) no_exprs))) no_exprs))) no_stmts))) ∷ []) ≡ None
a_call = refl

-- func main() { f(1); }
an_unknown_function : text (codes "main" ∷ codes "f" ∷ []) (function_item (function (head false (n 0 6) [] None) (block (at 13) (at 21) (more_stmts (express (call (n 1 15) (more_exprs (number (at 17) (pos 1)) no_exprs))) no_stmts))) ∷ []) ≡ fault 21 15
an_unknown_function = refl

-- interface I { } func main() { I(); }
an_interface_is_called : text (codes "I" ∷ codes "main" ∷ []) (interface_item (n 0 11) [] ∷ function_item (function (head false (n 1 22) [] None) (block (at 29) (at 36) (more_stmts (express (call (n 0 31) no_exprs)) no_stmts))) ∷ []) ≡ fault 21 31
an_interface_is_called = refl

-- func f(a int) { } func main() { f(); }
too_few_arguments : text (codes "f" ∷ codes "a" ∷ codes "main" ∷ []) (function_item (function (head false (n 0 6) (param (n 1 8) (int_type (at 10)) ∷ []) None) (block (at 15) (at 17) no_stmts)) ∷ function_item (function (head false (n 2 24) [] None) (block (at 31) (at 38) (more_stmts (express (call (n 0 33) no_exprs)) no_stmts))) ∷ []) ≡ fault 22 33
too_few_arguments = refl

-- func f(a int) { } func main() { f(true, 1); }
too_many_arguments_one_of_them_wrong : text (codes "f" ∷ codes "a" ∷ codes "main" ∷ []) (function_item (function (head false (n 0 6) (param (n 1 8) (int_type (at 10)) ∷ []) None) (block (at 15) (at 17) no_stmts)) ∷ function_item (function (head false (n 2 24) [] None) (block (at 31) (at 45) (more_stmts (express (call (n 0 33) (more_exprs (truth (at 35) true) (more_exprs (number (at 41) (pos 1)) no_exprs)))) no_stmts))) ∷ []) ≡ fault 22 33
too_many_arguments_one_of_them_wrong = refl

-- func f(a int) { } func main() { f(true); }
a_wrong_argument : text (codes "f" ∷ codes "a" ∷ codes "main" ∷ []) (function_item (function (head false (n 0 6) (param (n 1 8) (int_type (at 10)) ∷ []) None) (block (at 15) (at 17) no_stmts)) ∷ function_item (function (head false (n 2 24) [] None) (block (at 31) (at 42) (more_stmts (express (call (n 0 33) (more_exprs (truth (at 35) true) no_exprs))) no_stmts))) ∷ []) ≡ fault 20 33
a_wrong_argument = refl

-- func f(a int) { } func main() { f(1 + true, 2); }
the_argument_s_own_fault_first : text (codes "f" ∷ codes "a" ∷ codes "main" ∷ []) (function_item (function (head false (n 0 6) (param (n 1 8) (int_type (at 10)) ∷ []) None) (block (at 15) (at 17) no_stmts)) ∷ function_item (function (head false (n 2 24) [] None) (block (at 31) (at 49) (more_stmts (express (call (n 0 33) (more_exprs (chain (number (at 35) (pos 1)) (more_links (link (at 37) Add (truth (at 39) true)) no_links)) (more_exprs (number (at 45) (pos 2)) no_exprs)))) no_stmts))) ∷ []) ≡ fault 20 37
the_argument_s_own_fault_first = refl

-- struct S { a int; } func main() { s = S(1); }
an_object_is_made : text (codes "S" ∷ codes "a" ∷ codes "main" ∷ codes "s" ∷ []) (struct_item (n 0 8) (field_decl (n 1 12) false (int_type (at 14)) ∷ []) ∷ function_item (function (head false (n 2 26) [] None) (block (at 33) (at 45) (more_stmts (declare (n 3 35) (call (n 0 39) (more_exprs (number (at 41) (pos 1)) no_exprs))) no_stmts))) ∷ []) ≡ None
an_object_is_made = refl

-- struct S { a int; } func main() { s = S(); }
an_object_without_its_field : text (codes "S" ∷ codes "a" ∷ codes "main" ∷ codes "s" ∷ []) (struct_item (n 0 8) (field_decl (n 1 12) false (int_type (at 14)) ∷ []) ∷ function_item (function (head false (n 2 26) [] None) (block (at 33) (at 44) (more_stmts (declare (n 3 35) (call (n 0 39) no_exprs)) no_stmts))) ∷ []) ≡ fault 22 39
an_object_without_its_field = refl

-- struct S { a int; } func main() { s = S(true); }
an_object_of_another_field_s_type : text (codes "S" ∷ codes "a" ∷ codes "main" ∷ codes "s" ∷ []) (struct_item (n 0 8) (field_decl (n 1 12) false (int_type (at 14)) ∷ []) ∷ function_item (function (head false (n 2 26) [] None) (block (at 33) (at 48) (more_stmts (declare (n 3 35) (call (n 0 39) (more_exprs (truth (at 41) true) no_exprs))) no_stmts))) ∷ []) ≡ fault 20 39
an_object_of_another_field_s_type = refl

-- func main() { println(slice("abc", 0, 1)); print(byte("a", 0)); println(number(text(1))); println(is_number("1")); println(len("a")); }
built_in_functions : text (codes "main" ∷ codes "println" ∷ codes "slice" ∷ codes "print" ∷ codes "byte" ∷ codes "number" ∷ codes "text" ∷ codes "is_number" ∷ codes "len" ∷ []) (function_item (function (head false (n 0 6) [] None) (block (at 13) (at 135) (more_stmts (express (call (n 1 15) (more_exprs (call (n 2 23) (more_exprs (quote (at 29) (codes "abc")) (more_exprs (number (at 36) (pos 0)) (more_exprs (number (at 39) (pos 1)) no_exprs)))) no_exprs))) (more_stmts (express (call (n 3 44) (more_exprs (call (n 4 50) (more_exprs (quote (at 55) (codes "a")) (more_exprs (number (at 60) (pos 0)) no_exprs))) no_exprs))) (more_stmts (express (call (n 1 65) (more_exprs (call (n 5 73) (more_exprs (call (n 6 80) (more_exprs (number (at 85) (pos 1)) no_exprs)) no_exprs)) no_exprs))) (more_stmts (express (call (n 1 91) (more_exprs (call (n 7 99) (more_exprs (quote (at 109) (codes "1")) no_exprs)) no_exprs))) (more_stmts (express (call (n 1 116) (more_exprs (call (n 8 124) (more_exprs (quote (at 128) (codes "a")) no_exprs)) no_exprs))) no_stmts))))))) ∷ []) ≡ None
built_in_functions = refl

-- func main() { println(); }
println_of_nothing : text (codes "main" ∷ codes "println" ∷ []) (function_item (function (head false (n 0 6) [] None) (block (at 13) (at 26) (more_stmts (express (call (n 1 15) no_exprs)) no_stmts))) ∷ []) ≡ fault 22 15
println_of_nothing = refl

-- struct S { } func main() { println(S()); }
println_of_an_owner : text (codes "S" ∷ codes "main" ∷ codes "println" ∷ []) (struct_item (n 0 8) [] ∷ function_item (function (head false (n 1 19) [] None) (block (at 26) (at 42) (more_stmts (express (call (n 2 28) (more_exprs (call (n 0 36) no_exprs) no_exprs))) no_stmts))) ∷ []) ≡ fault 20 28
println_of_an_owner = refl

-- struct S { } func main() { drop(S()); }
an_owner_is_dropped : text (codes "S" ∷ codes "main" ∷ codes "drop" ∷ []) (struct_item (n 0 8) [] ∷ function_item (function (head false (n 1 19) [] None) (block (at 26) (at 39) (more_stmts (express (call (n 2 28) (more_exprs (call (n 0 33) no_exprs) no_exprs))) no_stmts))) ∷ []) ≡ None
an_owner_is_dropped = refl

-- func main() { drop(1); }
a_number_is_dropped : text (codes "main" ∷ codes "drop" ∷ []) (function_item (function (head false (n 0 6) [] None) (block (at 13) (at 24) (more_stmts (express (call (n 1 15) (more_exprs (number (at 20) (pos 1)) no_exprs))) no_stmts))) ∷ []) ≡ fault 20 15
a_number_is_dropped = refl

-- func main() { a = []int(1); println(len(&a)); push(&a, 2); x = pop(&a); println(x); }
arrays : text (codes "main" ∷ codes "a" ∷ codes "println" ∷ codes "len" ∷ codes "push" ∷ codes "x" ∷ codes "pop" ∷ []) (function_item (function (head false (n 0 6) [] None) (block (at 13) (at 85) (more_stmts (declare (n 1 15) (array (at 19) (int_type (at 21)) (more_exprs (number (at 25) (pos 1)) no_exprs))) (more_stmts (express (call (n 2 29) (more_exprs (call (n 3 37) (more_exprs (unary (at 41) Borrow (name (n 1 42))) no_exprs)) no_exprs))) (more_stmts (express (call (n 4 47) (more_exprs (unary (at 52) Borrow (name (n 1 53))) (more_exprs (number (at 56) (pos 2)) no_exprs)))) (more_stmts (declare (n 5 60) (call (n 6 64) (more_exprs (unary (at 68) Borrow (name (n 1 69))) no_exprs))) (more_stmts (express (call (n 2 73) (more_exprs (name (n 5 81)) no_exprs))) no_stmts))))))) ∷ []) ≡ None
arrays = refl

-- func main() { a = []int(1); println(len(a)); }
len_of_an_owner : text (codes "main" ∷ codes "a" ∷ codes "println" ∷ codes "len" ∷ []) (function_item (function (head false (n 0 6) [] None) (block (at 13) (at 46) (more_stmts (declare (n 1 15) (array (at 19) (int_type (at 21)) (more_exprs (number (at 25) (pos 1)) no_exprs))) (more_stmts (express (call (n 2 29) (more_exprs (call (n 3 37) (more_exprs (name (n 1 41)) no_exprs)) no_exprs))) no_stmts)))) ∷ []) ≡ fault 20 37
len_of_an_owner = refl

-- func main() { a = []int(1); push(&a, true); }
push_of_another_type : text (codes "main" ∷ codes "a" ∷ codes "push" ∷ []) (function_item (function (head false (n 0 6) [] None) (block (at 13) (at 45) (more_stmts (declare (n 1 15) (array (at 19) (int_type (at 21)) (more_exprs (number (at 25) (pos 1)) no_exprs))) (more_stmts (express (call (n 2 29) (more_exprs (unary (at 34) Borrow (name (n 1 35))) (more_exprs (truth (at 38) true) no_exprs)))) no_stmts)))) ∷ []) ≡ fault 20 29
push_of_another_type = refl

-- func main() { a = []int(1, true); }
an_element_of_another_type : text (codes "main" ∷ codes "a" ∷ []) (function_item (function (head false (n 0 6) [] None) (block (at 13) (at 35) (more_stmts (declare (n 1 15) (array (at 19) (int_type (at 21)) (more_exprs (number (at 25) (pos 1)) (more_exprs (truth (at 28) true) no_exprs)))) no_stmts))) ∷ []) ≡ fault 20 19
an_element_of_another_type = refl

-- ---- places

-- func main() { set 1 = 2; }
a_number_is_set : text (codes "main" ∷ []) (function_item (function (head false (n 0 6) [] None) (block (at 13) (at 26) (more_stmts (express (set (at 15) (number (at 19) (pos 1)) (number (at 23) (pos 2)))) no_stmts))) ∷ []) ≡ fault 23 15
a_number_is_set = refl

-- func main() { set 1 = true; }
a_number_is_set_to_a_truth : text (codes "main" ∷ []) (function_item (function (head false (n 0 6) [] None) (block (at 13) (at 29) (more_stmts (express (set (at 15) (number (at 19) (pos 1)) (truth (at 23) true))) no_stmts))) ∷ []) ≡ fault 23 15
a_number_is_set_to_a_truth = refl

-- func main() { x = 1; y = set x = 2; println(y); }
a_local_is_set : text (codes "main" ∷ codes "x" ∷ codes "y" ∷ codes "println" ∷ []) (function_item (function (head false (n 0 6) [] None) (block (at 13) (at 49) (more_stmts (declare (n 1 15) (number (at 19) (pos 1))) (more_stmts (declare (n 2 22) (set (at 26) (name (n 1 30)) (number (at 34) (pos 2)))) (more_stmts (express (call (n 3 37) (more_exprs (name (n 2 45)) no_exprs))) no_stmts))))) ∷ []) ≡ None
a_local_is_set = refl

-- func main() { x = 1; set x = true; }
a_local_is_set_to_another_type : text (codes "main" ∷ codes "x" ∷ []) (function_item (function (head false (n 0 6) [] None) (block (at 13) (at 36) (more_stmts (declare (n 1 15) (number (at 19) (pos 1))) (more_stmts (express (set (at 22) (name (n 1 26)) (truth (at 30) true))) no_stmts)))) ∷ []) ≡ fault 20 22
a_local_is_set_to_another_type = refl

-- struct S { a! int; } func main() { s = S(1); set s.a = 2; }
a_field_is_set : text (codes "S" ∷ codes "a" ∷ codes "main" ∷ codes "s" ∷ []) (struct_item (n 0 8) (field_decl (n 1 12) true (int_type (at 15)) ∷ []) ∷ function_item (function (head false (n 2 27) [] None) (block (at 34) (at 59) (more_stmts (declare (n 3 36) (call (n 0 40) (more_exprs (number (at 42) (pos 1)) no_exprs))) (more_stmts (express (set (at 46) (steps (name (n 3 50)) (more_steps (field (at 51) (record { 0 = 1 })) no_steps)) (number (at 56) (pos 2)))) no_stmts)))) ∷ []) ≡ None
a_field_is_set = refl

-- struct S { a int; } func main() { s = S(1); set s.a = 2; }
a_field_without_mark_is_set : text (codes "S" ∷ codes "a" ∷ codes "main" ∷ codes "s" ∷ []) (struct_item (n 0 8) (field_decl (n 1 12) false (int_type (at 14)) ∷ []) ∷ function_item (function (head false (n 2 26) [] None) (block (at 33) (at 58) (more_stmts (declare (n 3 35) (call (n 0 39) (more_exprs (number (at 41) (pos 1)) no_exprs))) (more_stmts (express (set (at 45) (steps (name (n 3 49)) (more_steps (field (at 50) (record { 0 = 1 })) no_steps)) (number (at 55) (pos 2)))) no_stmts)))) ∷ []) ≡ fault 24 45
a_field_without_mark_is_set = refl

-- struct S { a int; } func main() { s = S(1); set s.a = true; }
a_field_without_mark_is_set_to_another_type : text (codes "S" ∷ codes "a" ∷ codes "main" ∷ codes "s" ∷ []) (struct_item (n 0 8) (field_decl (n 1 12) false (int_type (at 14)) ∷ []) ∷ function_item (function (head false (n 2 26) [] None) (block (at 33) (at 61) (more_stmts (declare (n 3 35) (call (n 0 39) (more_exprs (number (at 41) (pos 1)) no_exprs))) (more_stmts (express (set (at 45) (steps (name (n 3 49)) (more_steps (field (at 50) (record { 0 = 1 })) no_steps)) (truth (at 55) true))) no_stmts)))) ∷ []) ≡ fault 20 45
a_field_without_mark_is_set_to_another_type = refl

-- func main() { a = []int(1); set a[0] = 2; }
an_element_is_set : text (codes "main" ∷ codes "a" ∷ []) (function_item (function (head false (n 0 6) [] None) (block (at 13) (at 43) (more_stmts (declare (n 1 15) (array (at 19) (int_type (at 21)) (more_exprs (number (at 25) (pos 1)) no_exprs))) (more_stmts (express (set (at 29) (steps (name (n 1 33)) (more_steps (index (at 34) (number (at 35) (pos 0))) no_steps)) (number (at 40) (pos 2)))) no_stmts)))) ∷ []) ≡ None
an_element_is_set = refl

-- struct S { a []int; } func main() { s = S([]int(1)); set s.a[0] = 2; }
an_element_of_a_field_without_mark_is_set : text (codes "S" ∷ codes "a" ∷ codes "main" ∷ codes "s" ∷ []) (struct_item (n 0 8) (field_decl (n 1 12) false (array_type (at 14) (int_type (at 16))) ∷ []) ∷ function_item (function (head false (n 2 28) [] None) (block (at 35) (at 70) (more_stmts (declare (n 3 37) (call (n 0 41) (more_exprs (array (at 43) (int_type (at 45)) (more_exprs (number (at 49) (pos 1)) no_exprs)) no_exprs))) (more_stmts (express (set (at 54) (steps (name (n 3 58)) (more_steps (field (at 59) (record { 0 = 1 })) (more_steps (index (at 61) (number (at 62) (pos 0))) no_steps))) (number (at 67) (pos 2)))) no_stmts)))) ∷ []) ≡ None
an_element_of_a_field_without_mark_is_set = refl

-- func main() { x = &5; }
a_reference_to_a_number_s_value : text (codes "main" ∷ codes "x" ∷ []) (function_item (function (head false (n 0 6) [] None) (block (at 13) (at 23) (more_stmts (declare (n 1 15) (unary (at 19) Borrow (number (at 20) (pos 5)))) no_stmts))) ∷ []) ≡ fault 23 19
a_reference_to_a_number_s_value = refl

-- func main() { x = 1; y = &x; }
a_reference_to_a_number_s_place : text (codes "main" ∷ codes "x" ∷ codes "y" ∷ []) (function_item (function (head false (n 0 6) [] None) (block (at 13) (at 30) (more_stmts (declare (n 1 15) (number (at 19) (pos 1))) (more_stmts (declare (n 2 22) (unary (at 26) Borrow (name (n 1 27)))) no_stmts)))) ∷ []) ≡ fault 20 26
a_reference_to_a_number_s_place = refl

-- struct S { } func main() { s = S(); r = &s; q = &r; }
a_reference_to_a_reference : text (codes "S" ∷ codes "main" ∷ codes "s" ∷ codes "r" ∷ codes "q" ∷ []) (struct_item (n 0 8) [] ∷ function_item (function (head false (n 1 19) [] None) (block (at 26) (at 53) (more_stmts (declare (n 2 28) (call (n 0 32) no_exprs)) (more_stmts (declare (n 3 37) (unary (at 41) Borrow (name (n 2 42)))) (more_stmts (declare (n 4 45) (unary (at 49) Borrow (name (n 3 50)))) no_stmts))))) ∷ []) ≡ fault 20 49
a_reference_to_a_reference = refl

-- struct S { } func main() { s = S(); r = &(s); }
parentheses_are_no_place : text (codes "S" ∷ codes "main" ∷ codes "s" ∷ codes "r" ∷ []) (struct_item (n 0 8) [] ∷ function_item (function (head false (n 1 19) [] None) (block (at 26) (at 47) (more_stmts (declare (n 2 28) (call (n 0 32) no_exprs)) (more_stmts (declare (n 3 37) (unary (at 41) Borrow (paren (at 42) (name (n 2 43))))) no_stmts)))) ∷ []) ≡ fault 23 41
parentheses_are_no_place = refl

-- ---- steps

-- struct P { x int; } struct S { p P; } func main() { s = S(P(1)); println(s.p.x); }
fields_of_fields : text (codes "P" ∷ codes "x" ∷ codes "S" ∷ codes "p" ∷ codes "main" ∷ codes "s" ∷ codes "println" ∷ []) (struct_item (n 0 8) (field_decl (n 1 12) false (int_type (at 14)) ∷ []) ∷ struct_item (n 2 28) (field_decl (n 3 32) false (named_type (n 0 34)) ∷ []) ∷ function_item (function (head false (n 4 44) [] None) (block (at 51) (at 82) (more_stmts (declare (n 5 53) (call (n 2 57) (more_exprs (call (n 0 59) (more_exprs (number (at 61) (pos 1)) no_exprs)) no_exprs))) (more_stmts (express (call (n 6 66) (more_exprs (steps (name (n 5 74)) (more_steps (field (at 75) (record { 0 = 3 })) (more_steps (field (at 77) (record { 0 = 1 })) no_steps))) no_exprs))) no_stmts)))) ∷ []) ≡ None
fields_of_fields = refl

-- func main() { x = 1; println(x.a); }
a_field_of_a_number : text (codes "main" ∷ codes "x" ∷ codes "println" ∷ codes "a" ∷ []) (function_item (function (head false (n 0 6) [] None) (block (at 13) (at 36) (more_stmts (declare (n 1 15) (number (at 19) (pos 1))) (more_stmts (express (call (n 2 22) (more_exprs (steps (name (n 1 30)) (more_steps (field (at 31) (record { 0 = 3 })) no_steps)) no_exprs))) no_stmts)))) ∷ []) ≡ fault 20 31
a_field_of_a_number = refl

-- struct S { a int; } func main() { s = S(1); println(s.b); }
an_unknown_field : text (codes "S" ∷ codes "a" ∷ codes "main" ∷ codes "s" ∷ codes "println" ∷ codes "b" ∷ []) (struct_item (n 0 8) (field_decl (n 1 12) false (int_type (at 14)) ∷ []) ∷ function_item (function (head false (n 2 26) [] None) (block (at 33) (at 59) (more_stmts (declare (n 3 35) (call (n 0 39) (more_exprs (number (at 41) (pos 1)) no_exprs))) (more_stmts (express (call (n 4 45) (more_exprs (steps (name (n 3 53)) (more_steps (field (at 54) (record { 0 = 5 })) no_steps)) no_exprs))) no_stmts)))) ∷ []) ≡ fault 21 54
an_unknown_field = refl

-- struct S { a int; } func main() { println(S(1).a); }
a_field_of_an_owner_s_value : text (codes "S" ∷ codes "a" ∷ codes "main" ∷ codes "println" ∷ []) (struct_item (n 0 8) (field_decl (n 1 12) false (int_type (at 14)) ∷ []) ∷ function_item (function (head false (n 2 26) [] None) (block (at 33) (at 52) (more_stmts (express (call (n 3 35) (more_exprs (steps (call (n 0 43) (more_exprs (number (at 45) (pos 1)) no_exprs)) (more_steps (field (at 47) (record { 0 = 1 })) no_steps)) no_exprs))) no_stmts))) ∷ []) ≡ fault 25 47
a_field_of_an_owner_s_value = refl

-- struct S { a int; } func main() { println(S(1).b); }
an_unknown_field_of_an_owner_s_value : text (codes "S" ∷ codes "a" ∷ codes "main" ∷ codes "println" ∷ codes "b" ∷ []) (struct_item (n 0 8) (field_decl (n 1 12) false (int_type (at 14)) ∷ []) ∷ function_item (function (head false (n 2 26) [] None) (block (at 33) (at 52) (more_stmts (express (call (n 3 35) (more_exprs (steps (call (n 0 43) (more_exprs (number (at 45) (pos 1)) no_exprs)) (more_steps (field (at 47) (record { 0 = 4 })) no_steps)) no_exprs))) no_stmts))) ∷ []) ≡ fault 25 47
an_unknown_field_of_an_owner_s_value = refl

-- struct S { a int; } func f(r &S) &S { return r; } func main() { s = S(1); println(f(&s).a); }
a_field_of_a_reference_s_value : text (codes "S" ∷ codes "a" ∷ codes "f" ∷ codes "r" ∷ codes "main" ∷ codes "s" ∷ codes "println" ∷ []) (struct_item (n 0 8) (field_decl (n 1 12) false (int_type (at 14)) ∷ []) ∷ function_item (function (head false (n 2 26) (param (n 3 28) (ref_type (at 30) (named_type (n 0 31))) ∷ []) (Some (ref_type (at 34) (named_type (n 0 35))))) (block (at 37) (at 49) (more_stmts (return_value (at 39) (name (n 3 46))) no_stmts))) ∷ function_item (function (head false (n 4 56) [] None) (block (at 63) (at 93) (more_stmts (declare (n 5 65) (call (n 0 69) (more_exprs (number (at 71) (pos 1)) no_exprs))) (more_stmts (express (call (n 6 75) (more_exprs (steps (call (n 2 83) (more_exprs (unary (at 85) Borrow (name (n 5 86))) no_exprs)) (more_steps (field (at 88) (record { 0 = 1 })) no_steps)) no_exprs))) no_stmts)))) ∷ []) ≡ None
a_field_of_a_reference_s_value = refl

-- struct S { } func main() { s = S(); println(s[0]); }
an_element_of_a_struct : text (codes "S" ∷ codes "main" ∷ codes "s" ∷ codes "println" ∷ []) (struct_item (n 0 8) [] ∷ function_item (function (head false (n 1 19) [] None) (block (at 26) (at 52) (more_stmts (declare (n 2 28) (call (n 0 32) no_exprs)) (more_stmts (express (call (n 3 37) (more_exprs (steps (name (n 2 45)) (more_steps (index (at 46) (number (at 47) (pos 0))) no_steps)) no_exprs))) no_stmts)))) ∷ []) ≡ fault 20 46
an_element_of_a_struct = refl

-- func main() { a = []int(1); println(a[true]); }
an_index_that_is_a_truth : text (codes "main" ∷ codes "a" ∷ codes "println" ∷ []) (function_item (function (head false (n 0 6) [] None) (block (at 13) (at 47) (more_stmts (declare (n 1 15) (array (at 19) (int_type (at 21)) (more_exprs (number (at 25) (pos 1)) no_exprs))) (more_stmts (express (call (n 2 29) (more_exprs (steps (name (n 1 37)) (more_steps (index (at 38) (truth (at 39) true)) no_steps)) no_exprs))) no_stmts)))) ∷ []) ≡ fault 20 38
an_index_that_is_a_truth = refl

-- struct S { } func main() { println(S()[0]); }
an_element_of_an_owner_s_value : text (codes "S" ∷ codes "main" ∷ codes "println" ∷ []) (struct_item (n 0 8) [] ∷ function_item (function (head false (n 1 19) [] None) (block (at 26) (at 45) (more_stmts (express (call (n 2 28) (more_exprs (steps (call (n 0 36) no_exprs) (more_steps (index (at 39) (number (at 40) (pos 0))) no_steps)) no_exprs))) no_stmts))) ∷ []) ≡ fault 25 39
an_element_of_an_owner_s_value = refl

-- struct S { } func main() { println(S()[true]); }
a_truth_as_an_index_of_an_owner_s_value : text (codes "S" ∷ codes "main" ∷ codes "println" ∷ []) (struct_item (n 0 8) [] ∷ function_item (function (head false (n 1 19) [] None) (block (at 26) (at 48) (more_stmts (express (call (n 2 28) (more_exprs (steps (call (n 0 36) no_exprs) (more_steps (index (at 39) (truth (at 40) true)) no_steps)) no_exprs))) no_stmts))) ∷ []) ≡ fault 20 39
a_truth_as_an_index_of_an_owner_s_value = refl

-- struct S { } struct B { s S; } func main() { b = B(S()); t = b.s; }
an_owner_s_field_as_a_value : text (codes "S" ∷ codes "B" ∷ codes "s" ∷ codes "main" ∷ codes "b" ∷ codes "t" ∷ []) (struct_item (n 0 8) [] ∷ struct_item (n 1 21) (field_decl (n 2 25) false (named_type (n 0 27)) ∷ []) ∷ function_item (function (head false (n 3 37) [] None) (block (at 44) (at 67) (more_stmts (declare (n 4 46) (call (n 1 50) (more_exprs (call (n 0 52) no_exprs) no_exprs))) (more_stmts (declare (n 5 58) (steps (name (n 4 62)) (more_steps (field (at 63) (record { 0 = 2 })) no_steps))) no_stmts)))) ∷ []) ≡ fault 28 63
an_owner_s_field_as_a_value = refl

-- struct S { } struct B { s S; } func main() { b = B(S()); t = &b.s; }
a_reference_to_an_owner_s_field : text (codes "S" ∷ codes "B" ∷ codes "s" ∷ codes "main" ∷ codes "b" ∷ codes "t" ∷ []) (struct_item (n 0 8) [] ∷ struct_item (n 1 21) (field_decl (n 2 25) false (named_type (n 0 27)) ∷ []) ∷ function_item (function (head false (n 3 37) [] None) (block (at 44) (at 68) (more_stmts (declare (n 4 46) (call (n 1 50) (more_exprs (call (n 0 52) no_exprs) no_exprs))) (more_stmts (declare (n 5 58) (unary (at 62) Borrow (steps (name (n 4 63)) (more_steps (field (at 64) (record { 0 = 2 })) no_steps)))) no_stmts)))) ∷ []) ≡ None
a_reference_to_an_owner_s_field = refl

-- struct S { } struct B { s! S; } func main() { b = B(S()); t = set b.s = S(); }
an_owner_s_field_is_exchanged : text (codes "S" ∷ codes "B" ∷ codes "s" ∷ codes "main" ∷ codes "b" ∷ codes "t" ∷ []) (struct_item (n 0 8) [] ∷ struct_item (n 1 21) (field_decl (n 2 25) true (named_type (n 0 28)) ∷ []) ∷ function_item (function (head false (n 3 38) [] None) (block (at 45) (at 78) (more_stmts (declare (n 4 47) (call (n 1 51) (more_exprs (call (n 0 53) no_exprs) no_exprs))) (more_stmts (declare (n 5 59) (set (at 63) (steps (name (n 4 67)) (more_steps (field (at 68) (record { 0 = 2 })) no_steps)) (call (n 0 73) no_exprs))) no_stmts)))) ∷ []) ≡ None
an_owner_s_field_is_exchanged = refl

-- struct S { } func main() { a = []S(S()); t = a[0]; }
an_owner_s_element_as_a_value : text (codes "S" ∷ codes "main" ∷ codes "a" ∷ codes "t" ∷ []) (struct_item (n 0 8) [] ∷ function_item (function (head false (n 1 19) [] None) (block (at 26) (at 52) (more_stmts (declare (n 2 28) (array (at 32) (named_type (n 0 34)) (more_exprs (call (n 0 36) no_exprs) no_exprs))) (more_stmts (declare (n 3 42) (steps (name (n 2 46)) (more_steps (index (at 47) (number (at 48) (pos 0))) no_steps))) no_stmts)))) ∷ []) ≡ fault 28 47
an_owner_s_element_as_a_value = refl

-- struct S { } struct B { s S; } func main() { b = B(S()); pure { t = b.s; } }
an_owner_s_field_as_a_value_in_a_freeze : text (codes "S" ∷ codes "B" ∷ codes "s" ∷ codes "main" ∷ codes "b" ∷ codes "t" ∷ []) (struct_item (n 0 8) [] ∷ struct_item (n 1 21) (field_decl (n 2 25) false (named_type (n 0 27)) ∷ []) ∷ function_item (function (head false (n 3 37) [] None) (block (at 44) (at 76) (more_stmts (declare (n 4 46) (call (n 1 50) (more_exprs (call (n 0 52) no_exprs) no_exprs))) (last (form (pure (at 58) (block (at 63) (at 74) (more_stmts (declare (n 5 65) (steps (name (n 4 69)) (more_steps (field (at 70) (record { 0 = 2 })) no_steps))) no_stmts)))))))) ∷ []) ≡ fault 28 70
an_owner_s_field_as_a_value_in_a_freeze = refl

-- ---- methods

-- struct S { } interface I { func m(self &I, x int) int; } impl I for S { func m(self &S, x int) int { return x; } } func up(r &I) &I { return r; } func main() { s = S(); r = up(&s); println(r.m(1)); }
a_method : text (codes "S" ∷ codes "I" ∷ codes "m" ∷ codes "self" ∷ codes "x" ∷ codes "up" ∷ codes "r" ∷ codes "main" ∷ codes "s" ∷ codes "println" ∷ []) (struct_item (n 0 8) [] ∷ interface_item (n 1 24) (head false (n 2 33) (param (n 3 35) (ref_type (at 40) (named_type (n 1 41))) ∷ param (n 4 44) (int_type (at 46)) ∷ []) (Some (int_type (at 51))) ∷ []) ∷ impl_item (at 58) (n 1 63) (n 0 69) (function (head false (n 2 78) (param (n 3 80) (ref_type (at 85) (named_type (n 0 86))) ∷ param (n 4 89) (int_type (at 91)) ∷ []) (Some (int_type (at 96)))) (block (at 100) (at 112) (more_stmts (return_value (at 102) (name (n 4 109))) no_stmts)) ∷ []) ∷ function_item (function (head false (n 5 121) (param (n 6 124) (ref_type (at 126) (named_type (n 1 127))) ∷ []) (Some (ref_type (at 130) (named_type (n 1 131))))) (block (at 133) (at 145) (more_stmts (return_value (at 135) (name (n 6 142))) no_stmts))) ∷ function_item (function (head false (n 7 152) [] None) (block (at 159) (at 199) (more_stmts (declare (n 8 161) (call (n 0 165) no_exprs)) (more_stmts (declare (n 6 170) (call (n 5 174) (more_exprs (unary (at 177) Borrow (name (n 8 178))) no_exprs))) (more_stmts (express (call (n 9 182) (more_exprs (steps (name (n 6 190)) (more_steps (method (at 191) (record { 0 = 2 }) (more_exprs (number (at 194) (pos 1)) no_exprs)) no_steps)) no_exprs))) no_stmts))))) ∷ []) ≡ None
a_method = refl

-- struct S { } interface I { func m(self &I, x int) int; } impl I for S { func m(self &S, x int) int { return x; } } func up(r &I) &I { return r; } func main() { s = S(); r = up(&s); println(r.n(1)); }
an_unknown_method : text (codes "S" ∷ codes "I" ∷ codes "m" ∷ codes "self" ∷ codes "x" ∷ codes "up" ∷ codes "r" ∷ codes "main" ∷ codes "s" ∷ codes "println" ∷ codes "n" ∷ []) (struct_item (n 0 8) [] ∷ interface_item (n 1 24) (head false (n 2 33) (param (n 3 35) (ref_type (at 40) (named_type (n 1 41))) ∷ param (n 4 44) (int_type (at 46)) ∷ []) (Some (int_type (at 51))) ∷ []) ∷ impl_item (at 58) (n 1 63) (n 0 69) (function (head false (n 2 78) (param (n 3 80) (ref_type (at 85) (named_type (n 0 86))) ∷ param (n 4 89) (int_type (at 91)) ∷ []) (Some (int_type (at 96)))) (block (at 100) (at 112) (more_stmts (return_value (at 102) (name (n 4 109))) no_stmts)) ∷ []) ∷ function_item (function (head false (n 5 121) (param (n 6 124) (ref_type (at 126) (named_type (n 1 127))) ∷ []) (Some (ref_type (at 130) (named_type (n 1 131))))) (block (at 133) (at 145) (more_stmts (return_value (at 135) (name (n 6 142))) no_stmts))) ∷ function_item (function (head false (n 7 152) [] None) (block (at 159) (at 199) (more_stmts (declare (n 8 161) (call (n 0 165) no_exprs)) (more_stmts (declare (n 6 170) (call (n 5 174) (more_exprs (unary (at 177) Borrow (name (n 8 178))) no_exprs))) (more_stmts (express (call (n 9 182) (more_exprs (steps (name (n 6 190)) (more_steps (method (at 191) (record { 0 = 10 }) (more_exprs (number (at 194) (pos 1)) no_exprs)) no_steps)) no_exprs))) no_stmts))))) ∷ []) ≡ fault 21 191
an_unknown_method = refl

-- struct S { } interface I { func m(self &I, x int) int; } impl I for S { func m(self &S, x int) int { return x; } } func up(r &I) &I { return r; } func main() { s = S(); r = up(&s); println(r.m()); }
a_method_without_its_argument : text (codes "S" ∷ codes "I" ∷ codes "m" ∷ codes "self" ∷ codes "x" ∷ codes "up" ∷ codes "r" ∷ codes "main" ∷ codes "s" ∷ codes "println" ∷ []) (struct_item (n 0 8) [] ∷ interface_item (n 1 24) (head false (n 2 33) (param (n 3 35) (ref_type (at 40) (named_type (n 1 41))) ∷ param (n 4 44) (int_type (at 46)) ∷ []) (Some (int_type (at 51))) ∷ []) ∷ impl_item (at 58) (n 1 63) (n 0 69) (function (head false (n 2 78) (param (n 3 80) (ref_type (at 85) (named_type (n 0 86))) ∷ param (n 4 89) (int_type (at 91)) ∷ []) (Some (int_type (at 96)))) (block (at 100) (at 112) (more_stmts (return_value (at 102) (name (n 4 109))) no_stmts)) ∷ []) ∷ function_item (function (head false (n 5 121) (param (n 6 124) (ref_type (at 126) (named_type (n 1 127))) ∷ []) (Some (ref_type (at 130) (named_type (n 1 131))))) (block (at 133) (at 145) (more_stmts (return_value (at 135) (name (n 6 142))) no_stmts))) ∷ function_item (function (head false (n 7 152) [] None) (block (at 159) (at 198) (more_stmts (declare (n 8 161) (call (n 0 165) no_exprs)) (more_stmts (declare (n 6 170) (call (n 5 174) (more_exprs (unary (at 177) Borrow (name (n 8 178))) no_exprs))) (more_stmts (express (call (n 9 182) (more_exprs (steps (name (n 6 190)) (more_steps (method (at 191) (record { 0 = 2 }) no_exprs) no_steps)) no_exprs))) no_stmts))))) ∷ []) ≡ fault 22 191
a_method_without_its_argument = refl

-- struct S { } interface I { func m(self &I, x int) int; } impl I for S { func m(self &S, x int) int { return x; } } func up(r &I) &I { return r; } func main() { s = S(); r = up(&s); println(r.m(true)); }
a_method_with_a_wrong_argument : text (codes "S" ∷ codes "I" ∷ codes "m" ∷ codes "self" ∷ codes "x" ∷ codes "up" ∷ codes "r" ∷ codes "main" ∷ codes "s" ∷ codes "println" ∷ []) (struct_item (n 0 8) [] ∷ interface_item (n 1 24) (head false (n 2 33) (param (n 3 35) (ref_type (at 40) (named_type (n 1 41))) ∷ param (n 4 44) (int_type (at 46)) ∷ []) (Some (int_type (at 51))) ∷ []) ∷ impl_item (at 58) (n 1 63) (n 0 69) (function (head false (n 2 78) (param (n 3 80) (ref_type (at 85) (named_type (n 0 86))) ∷ param (n 4 89) (int_type (at 91)) ∷ []) (Some (int_type (at 96)))) (block (at 100) (at 112) (more_stmts (return_value (at 102) (name (n 4 109))) no_stmts)) ∷ []) ∷ function_item (function (head false (n 5 121) (param (n 6 124) (ref_type (at 126) (named_type (n 1 127))) ∷ []) (Some (ref_type (at 130) (named_type (n 1 131))))) (block (at 133) (at 145) (more_stmts (return_value (at 135) (name (n 6 142))) no_stmts))) ∷ function_item (function (head false (n 7 152) [] None) (block (at 159) (at 202) (more_stmts (declare (n 8 161) (call (n 0 165) no_exprs)) (more_stmts (declare (n 6 170) (call (n 5 174) (more_exprs (unary (at 177) Borrow (name (n 8 178))) no_exprs))) (more_stmts (express (call (n 9 182) (more_exprs (steps (name (n 6 190)) (more_steps (method (at 191) (record { 0 = 2 }) (more_exprs (truth (at 194) true) no_exprs)) no_steps)) no_exprs))) no_stmts))))) ∷ []) ≡ fault 20 191
a_method_with_a_wrong_argument = refl

-- struct S { } interface I { func m(self &I, x int) int; } impl I for S { func m(self &S, x int) int { return x; } } func up(r &I) &I { return r; } func main() { s = S(); println(s.m(1)); }
a_method_of_a_struct : text (codes "S" ∷ codes "I" ∷ codes "m" ∷ codes "self" ∷ codes "x" ∷ codes "up" ∷ codes "r" ∷ codes "main" ∷ codes "s" ∷ codes "println" ∷ []) (struct_item (n 0 8) [] ∷ interface_item (n 1 24) (head false (n 2 33) (param (n 3 35) (ref_type (at 40) (named_type (n 1 41))) ∷ param (n 4 44) (int_type (at 46)) ∷ []) (Some (int_type (at 51))) ∷ []) ∷ impl_item (at 58) (n 1 63) (n 0 69) (function (head false (n 2 78) (param (n 3 80) (ref_type (at 85) (named_type (n 0 86))) ∷ param (n 4 89) (int_type (at 91)) ∷ []) (Some (int_type (at 96)))) (block (at 100) (at 112) (more_stmts (return_value (at 102) (name (n 4 109))) no_stmts)) ∷ []) ∷ function_item (function (head false (n 5 121) (param (n 6 124) (ref_type (at 126) (named_type (n 1 127))) ∷ []) (Some (ref_type (at 130) (named_type (n 1 131))))) (block (at 133) (at 145) (more_stmts (return_value (at 135) (name (n 6 142))) no_stmts))) ∷ function_item (function (head false (n 7 152) [] None) (block (at 159) (at 187) (more_stmts (declare (n 8 161) (call (n 0 165) no_exprs)) (more_stmts (express (call (n 9 170) (more_exprs (steps (name (n 8 178)) (more_steps (method (at 179) (record { 0 = 2 }) (more_exprs (number (at 182) (pos 1)) no_exprs)) no_steps)) no_exprs))) no_stmts)))) ∷ []) ≡ fault 20 179
a_method_of_a_struct = refl

-- struct S { } func main() { s = S(); s.m(); }
a_method_of_a_struct_without_interface : text (codes "S" ∷ codes "main" ∷ codes "s" ∷ codes "m" ∷ []) (struct_item (n 0 8) [] ∷ function_item (function (head false (n 1 19) [] None) (block (at 26) (at 44) (more_stmts (declare (n 2 28) (call (n 0 32) no_exprs)) (more_stmts (express (steps (name (n 2 37)) (more_steps (method (at 38) (record { 0 = 3 }) no_exprs) no_steps))) no_stmts)))) ∷ []) ≡ fault 20 38
a_method_of_a_struct_without_interface = refl

-- struct S { } interface I { func m(self &I, x int) int; } impl I for S { func m(self &S, x int) int { return x; } } func up(r &I) &I { return r; } func f(i I) { } func main() { f(S()); }
a_struct_s_owner_for_an_interface_s : text (codes "S" ∷ codes "I" ∷ codes "m" ∷ codes "self" ∷ codes "x" ∷ codes "up" ∷ codes "r" ∷ codes "f" ∷ codes "i" ∷ codes "main" ∷ []) (struct_item (n 0 8) [] ∷ interface_item (n 1 24) (head false (n 2 33) (param (n 3 35) (ref_type (at 40) (named_type (n 1 41))) ∷ param (n 4 44) (int_type (at 46)) ∷ []) (Some (int_type (at 51))) ∷ []) ∷ impl_item (at 58) (n 1 63) (n 0 69) (function (head false (n 2 78) (param (n 3 80) (ref_type (at 85) (named_type (n 0 86))) ∷ param (n 4 89) (int_type (at 91)) ∷ []) (Some (int_type (at 96)))) (block (at 100) (at 112) (more_stmts (return_value (at 102) (name (n 4 109))) no_stmts)) ∷ []) ∷ function_item (function (head false (n 5 121) (param (n 6 124) (ref_type (at 126) (named_type (n 1 127))) ∷ []) (Some (ref_type (at 130) (named_type (n 1 131))))) (block (at 133) (at 145) (more_stmts (return_value (at 135) (name (n 6 142))) no_stmts))) ∷ function_item (function (head false (n 7 152) (param (n 8 154) (named_type (n 1 156)) ∷ []) None) (block (at 159) (at 161) no_stmts)) ∷ function_item (function (head false (n 9 168) [] None) (block (at 175) (at 185) (more_stmts (express (call (n 7 177) (more_exprs (call (n 0 179) no_exprs) no_exprs))) no_stmts))) ∷ []) ≡ None
a_struct_s_owner_for_an_interface_s = refl

-- struct S { } interface I { func m(self &I, x int) int; } impl I for S { func m(self &S, x int) int { return x; } } func up(r &I) &I { return r; } func f(a []I) { } func main() { f([]S()); }
an_array_of_structs_for_one_of_interfaces : text (codes "S" ∷ codes "I" ∷ codes "m" ∷ codes "self" ∷ codes "x" ∷ codes "up" ∷ codes "r" ∷ codes "f" ∷ codes "a" ∷ codes "main" ∷ []) (struct_item (n 0 8) [] ∷ interface_item (n 1 24) (head false (n 2 33) (param (n 3 35) (ref_type (at 40) (named_type (n 1 41))) ∷ param (n 4 44) (int_type (at 46)) ∷ []) (Some (int_type (at 51))) ∷ []) ∷ impl_item (at 58) (n 1 63) (n 0 69) (function (head false (n 2 78) (param (n 3 80) (ref_type (at 85) (named_type (n 0 86))) ∷ param (n 4 89) (int_type (at 91)) ∷ []) (Some (int_type (at 96)))) (block (at 100) (at 112) (more_stmts (return_value (at 102) (name (n 4 109))) no_stmts)) ∷ []) ∷ function_item (function (head false (n 5 121) (param (n 6 124) (ref_type (at 126) (named_type (n 1 127))) ∷ []) (Some (ref_type (at 130) (named_type (n 1 131))))) (block (at 133) (at 145) (more_stmts (return_value (at 135) (name (n 6 142))) no_stmts))) ∷ function_item (function (head false (n 7 152) (param (n 8 154) (array_type (at 156) (named_type (n 1 158))) ∷ []) None) (block (at 161) (at 163) no_stmts)) ∷ function_item (function (head false (n 9 170) [] None) (block (at 177) (at 189) (more_stmts (express (call (n 7 179) (more_exprs (array (at 181) (named_type (n 0 183)) no_exprs) no_exprs))) no_stmts))) ∷ []) ≡ fault 20 179
an_array_of_structs_for_one_of_interfaces = refl

-- struct S { } interface J { func m(self &imm J); pure func p(self &imm J, r &imm S) int; } func get(r &J) &J { return r; } func f(r &J) { get(r).m(); } func main() { }
a_method_of_frozen_objects : text (codes "S" ∷ codes "J" ∷ codes "m" ∷ codes "self" ∷ codes "p" ∷ codes "r" ∷ codes "get" ∷ codes "f" ∷ codes "main" ∷ []) (struct_item (n 0 8) [] ∷ interface_item (n 1 24) (head false (n 2 33) (param (n 3 35) (imm_ref_type (at 40) (named_type (n 1 45))) ∷ []) None ∷ head true (n 4 59) (param (n 3 61) (imm_ref_type (at 66) (named_type (n 1 71))) ∷ param (n 5 74) (imm_ref_type (at 76) (named_type (n 0 81))) ∷ []) (Some (int_type (at 84))) ∷ []) ∷ function_item (function (head false (n 6 96) (param (n 5 100) (ref_type (at 102) (named_type (n 1 103))) ∷ []) (Some (ref_type (at 106) (named_type (n 1 107))))) (block (at 109) (at 121) (more_stmts (return_value (at 111) (name (n 5 118))) no_stmts))) ∷ function_item (function (head false (n 7 128) (param (n 5 130) (ref_type (at 132) (named_type (n 1 133))) ∷ []) None) (block (at 136) (at 150) (more_stmts (express (steps (call (n 6 138) (more_exprs (name (n 5 142)) no_exprs)) (more_steps (method (at 144) (record { 0 = 2 }) no_exprs) no_steps))) no_stmts))) ∷ function_item (function (head false (n 8 157) [] None) (block (at 164) (at 166) no_stmts)) ∷ []) ≡ fault 20 144
a_method_of_frozen_objects = refl

-- struct S { } interface J { func m(self &imm J); pure func p(self &imm J, r &imm S) int; } func get(r &J) &J { return r; } func f(r &J) { pure { r.m(); } } func main() { }
a_method_of_frozen_objects_in_a_freeze : text (codes "S" ∷ codes "J" ∷ codes "m" ∷ codes "self" ∷ codes "p" ∷ codes "r" ∷ codes "get" ∷ codes "f" ∷ codes "main" ∷ []) (struct_item (n 0 8) [] ∷ interface_item (n 1 24) (head false (n 2 33) (param (n 3 35) (imm_ref_type (at 40) (named_type (n 1 45))) ∷ []) None ∷ head true (n 4 59) (param (n 3 61) (imm_ref_type (at 66) (named_type (n 1 71))) ∷ param (n 5 74) (imm_ref_type (at 76) (named_type (n 0 81))) ∷ []) (Some (int_type (at 84))) ∷ []) ∷ function_item (function (head false (n 6 96) (param (n 5 100) (ref_type (at 102) (named_type (n 1 103))) ∷ []) (Some (ref_type (at 106) (named_type (n 1 107))))) (block (at 109) (at 121) (more_stmts (return_value (at 111) (name (n 5 118))) no_stmts))) ∷ function_item (function (head false (n 7 128) (param (n 5 130) (ref_type (at 132) (named_type (n 1 133))) ∷ []) None) (block (at 136) (at 154) (last (form (pure (at 138) (block (at 143) (at 152) (more_stmts (express (steps (name (n 5 145)) (more_steps (method (at 146) (record { 0 = 2 }) no_exprs) no_steps))) no_stmts))))))) ∷ function_item (function (head false (n 8 161) [] None) (block (at 168) (at 170) no_stmts)) ∷ []) ≡ None
a_method_of_frozen_objects_in_a_freeze = refl

-- struct S { } interface J { func m(self &imm J); pure func p(self &imm J, r &imm S) int; } func get(r &J) &J { return r; } func f(r &J, s &S) int { return r.p(s); } func main() { }
a_pure_method : text (codes "S" ∷ codes "J" ∷ codes "m" ∷ codes "self" ∷ codes "p" ∷ codes "r" ∷ codes "get" ∷ codes "f" ∷ codes "s" ∷ codes "main" ∷ []) (struct_item (n 0 8) [] ∷ interface_item (n 1 24) (head false (n 2 33) (param (n 3 35) (imm_ref_type (at 40) (named_type (n 1 45))) ∷ []) None ∷ head true (n 4 59) (param (n 3 61) (imm_ref_type (at 66) (named_type (n 1 71))) ∷ param (n 5 74) (imm_ref_type (at 76) (named_type (n 0 81))) ∷ []) (Some (int_type (at 84))) ∷ []) ∷ function_item (function (head false (n 6 96) (param (n 5 100) (ref_type (at 102) (named_type (n 1 103))) ∷ []) (Some (ref_type (at 106) (named_type (n 1 107))))) (block (at 109) (at 121) (more_stmts (return_value (at 111) (name (n 5 118))) no_stmts))) ∷ function_item (function (head false (n 7 128) (param (n 5 130) (ref_type (at 132) (named_type (n 1 133))) ∷ param (n 8 136) (ref_type (at 138) (named_type (n 0 139))) ∷ []) (Some (int_type (at 142)))) (block (at 146) (at 163) (more_stmts (return_value (at 148) (steps (name (n 5 155)) (more_steps (method (at 156) (record { 0 = 4 }) (more_exprs (name (n 8 159)) no_exprs)) no_steps))) no_stmts))) ∷ function_item (function (head false (n 9 170) [] None) (block (at 177) (at 179) no_stmts)) ∷ []) ≡ None
a_pure_method = refl

-- ---- freezes

-- struct S { a int; } func main() { s = S(1); pure { println(s.a); } }
a_field_of_an_outer_owner : text (codes "S" ∷ codes "a" ∷ codes "main" ∷ codes "s" ∷ codes "println" ∷ []) (struct_item (n 0 8) (field_decl (n 1 12) false (int_type (at 14)) ∷ []) ∷ function_item (function (head false (n 2 26) [] None) (block (at 33) (at 68) (more_stmts (declare (n 3 35) (call (n 0 39) (more_exprs (number (at 41) (pos 1)) no_exprs))) (last (form (pure (at 45) (block (at 50) (at 66) (more_stmts (express (call (n 4 52) (more_exprs (steps (name (n 3 60)) (more_steps (field (at 61) (record { 0 = 1 })) no_steps)) no_exprs))) no_stmts)))))))) ∷ []) ≡ None
a_field_of_an_outer_owner = refl

-- struct S { a int; } func f(s &imm S) { } func main() { s = S(1); pure { f(s); } }
an_outer_owner_is_a_frozen_reference : text (codes "S" ∷ codes "a" ∷ codes "f" ∷ codes "s" ∷ codes "main" ∷ []) (struct_item (n 0 8) (field_decl (n 1 12) false (int_type (at 14)) ∷ []) ∷ function_item (function (head false (n 2 26) (param (n 3 28) (imm_ref_type (at 30) (named_type (n 0 35))) ∷ []) None) (block (at 38) (at 40) no_stmts)) ∷ function_item (function (head false (n 4 47) [] None) (block (at 54) (at 81) (more_stmts (declare (n 3 56) (call (n 0 60) (more_exprs (number (at 62) (pos 1)) no_exprs))) (last (form (pure (at 66) (block (at 71) (at 79) (more_stmts (express (call (n 2 73) (more_exprs (name (n 3 75)) no_exprs))) no_stmts)))))))) ∷ []) ≡ None
an_outer_owner_is_a_frozen_reference = refl

-- struct S { a int; } func f(s &S) { } func main() { s = S(1); pure { f(s); } }
an_outer_owner_as_a_reference_is_refused_later : text (codes "S" ∷ codes "a" ∷ codes "f" ∷ codes "s" ∷ codes "main" ∷ []) (struct_item (n 0 8) (field_decl (n 1 12) false (int_type (at 14)) ∷ []) ∷ function_item (function (head false (n 2 26) (param (n 3 28) (ref_type (at 30) (named_type (n 0 31))) ∷ []) None) (block (at 34) (at 36) no_stmts)) ∷ function_item (function (head false (n 4 43) [] None) (block (at 50) (at 77) (more_stmts (declare (n 3 52) (call (n 0 56) (more_exprs (number (at 58) (pos 1)) no_exprs))) (last (form (pure (at 62) (block (at 67) (at 75) (more_stmts (express (call (n 2 69) (more_exprs (name (n 3 71)) no_exprs))) no_stmts)))))))) ∷ []) ≡ None
an_outer_owner_as_a_reference_is_refused_later = refl

-- struct S { a int; } func f(s &imm S) { } func main() { s = S(1); f(&s); }
a_reference_for_a_frozen_one : text (codes "S" ∷ codes "a" ∷ codes "f" ∷ codes "s" ∷ codes "main" ∷ []) (struct_item (n 0 8) (field_decl (n 1 12) false (int_type (at 14)) ∷ []) ∷ function_item (function (head false (n 2 26) (param (n 3 28) (imm_ref_type (at 30) (named_type (n 0 35))) ∷ []) None) (block (at 38) (at 40) no_stmts)) ∷ function_item (function (head false (n 4 47) [] None) (block (at 54) (at 73) (more_stmts (declare (n 3 56) (call (n 0 60) (more_exprs (number (at 62) (pos 1)) no_exprs))) (more_stmts (express (call (n 2 66) (more_exprs (unary (at 68) Borrow (name (n 3 69))) no_exprs))) no_stmts)))) ∷ []) ≡ fault 20 66
a_reference_for_a_frozen_one = refl

-- struct S { a int; } pure func f(s &imm S) { } func main() { s = S(1); f(&s); }
a_reference_for_a_frozen_one_of_a_pure_function : text (codes "S" ∷ codes "a" ∷ codes "f" ∷ codes "s" ∷ codes "main" ∷ []) (struct_item (n 0 8) (field_decl (n 1 12) false (int_type (at 14)) ∷ []) ∷ function_item (function (head true (n 2 31) (param (n 3 33) (imm_ref_type (at 35) (named_type (n 0 40))) ∷ []) None) (block (at 43) (at 45) no_stmts)) ∷ function_item (function (head false (n 4 52) [] None) (block (at 59) (at 78) (more_stmts (declare (n 3 61) (call (n 0 65) (more_exprs (number (at 67) (pos 1)) no_exprs))) (more_stmts (express (call (n 2 71) (more_exprs (unary (at 73) Borrow (name (n 3 74))) no_exprs))) no_stmts)))) ∷ []) ≡ None
a_reference_for_a_frozen_one_of_a_pure_function = refl

-- func main() { x = pure { 1 + 2 }; println(x); }
a_value_of_a_freeze : text (codes "main" ∷ codes "x" ∷ codes "println" ∷ []) (function_item (function (head false (n 0 6) [] None) (block (at 13) (at 47) (more_stmts (declare (n 1 15) (form (pure (at 19) (block (at 24) (at 32) (last (chain (number (at 26) (pos 1)) (more_links (link (at 28) Add (number (at 30) (pos 2))) no_links))))))) (more_stmts (express (call (n 2 35) (more_exprs (name (n 1 43)) no_exprs))) no_stmts)))) ∷ []) ≡ None
a_value_of_a_freeze = refl

-- ---- isolates

-- struct S { } func main() { x = iso { S() }; s = merge x; }
an_isolate_is_made_and_merged : text (codes "S" ∷ codes "main" ∷ codes "x" ∷ codes "s" ∷ []) (struct_item (n 0 8) [] ∷ function_item (function (head false (n 1 19) [] None) (block (at 26) (at 58) (more_stmts (declare (n 2 28) (iso (at 32) (block (at 36) (at 42) (last (call (n 0 38) no_exprs))))) (more_stmts (declare (n 3 45) (unary (at 49) Merge (name (n 2 55)))) no_stmts)))) ∷ []) ≡ None
an_isolate_is_made_and_merged = refl

-- func main() { x = iso { 1 }; }
an_isolate_of_a_number : text (codes "main" ∷ codes "x" ∷ []) (function_item (function (head false (n 0 6) [] None) (block (at 13) (at 30) (more_stmts (declare (n 1 15) (iso (at 19) (block (at 23) (at 27) (last (number (at 25) (pos 1)))))) no_stmts))) ∷ []) ≡ fault 20 19
an_isolate_of_a_number = refl

-- struct S { } func main() { x = iso { []iso S() }; }
an_isolate_of_isolates : text (codes "S" ∷ codes "main" ∷ codes "x" ∷ []) (struct_item (n 0 8) [] ∷ function_item (function (head false (n 1 19) [] None) (block (at 26) (at 51) (more_stmts (declare (n 2 28) (iso (at 32) (block (at 36) (at 48) (last (array (at 38) (iso_type (at 40) (named_type (n 0 44))) no_exprs))))) no_stmts))) ∷ []) ≡ fault 20 32
an_isolate_of_isolates = refl

-- struct S { } func main() { s = S(); t = merge s; }
an_owner_is_merged : text (codes "S" ∷ codes "main" ∷ codes "s" ∷ codes "t" ∷ []) (struct_item (n 0 8) [] ∷ function_item (function (head false (n 1 19) [] None) (block (at 26) (at 50) (more_stmts (declare (n 2 28) (call (n 0 32) no_exprs)) (more_stmts (declare (n 3 37) (unary (at 41) Merge (name (n 2 47)))) no_stmts)))) ∷ []) ≡ fault 20 41
an_owner_is_merged = refl

-- struct S { a int; } func main() { x = iso { S(1) }; println(x.a); }
an_isolate_is_typed_as_if_open : text (codes "S" ∷ codes "a" ∷ codes "main" ∷ codes "x" ∷ codes "println" ∷ []) (struct_item (n 0 8) (field_decl (n 1 12) false (int_type (at 14)) ∷ []) ∷ function_item (function (head false (n 2 26) [] None) (block (at 33) (at 67) (more_stmts (declare (n 3 35) (iso (at 39) (block (at 43) (at 50) (last (call (n 0 45) (more_exprs (number (at 47) (pos 1)) no_exprs)))))) (more_stmts (express (call (n 4 53) (more_exprs (steps (name (n 3 61)) (more_steps (field (at 62) (record { 0 = 1 })) no_steps)) no_exprs))) no_stmts)))) ∷ []) ≡ None
an_isolate_is_typed_as_if_open = refl

-- ---- forms

-- func main() { x = if true { 1 } else if false { 2 } else { 3 }; println(x); }
an_if_with_a_value : text (codes "main" ∷ codes "x" ∷ codes "println" ∷ []) (function_item (function (head false (n 0 6) [] None) (block (at 13) (at 77) (more_stmts (declare (n 1 15) (form (branch (at 19) (truth (at 22) true) (block (at 27) (at 31) (last (number (at 29) (pos 1)))) (more_elses (else_if (at 38) (truth (at 41) false) (block (at 47) (at 51) (last (number (at 49) (pos 2))))) (otherwise (block (at 58) (at 62) (last (number (at 60) (pos 3))))))))) (more_stmts (express (call (n 2 65) (more_exprs (name (n 1 73)) no_exprs))) no_stmts)))) ∷ []) ≡ None
an_if_with_a_value = refl

-- func main() { if 1 { } }
a_condition_that_is_a_number : text (codes "main" ∷ []) (function_item (function (head false (n 0 6) [] None) (block (at 13) (at 24) (last (form (branch (at 15) (number (at 18) (pos 1)) (block (at 20) (at 22) no_stmts) no_else))))) ∷ []) ≡ fault 20 15
a_condition_that_is_a_number = refl

-- func main() { if true { } else if 1 { } }
a_further_condition_that_is_a_number : text (codes "main" ∷ []) (function_item (function (head false (n 0 6) [] None) (block (at 13) (at 41) (last (form (branch (at 15) (truth (at 18) true) (block (at 23) (at 25) no_stmts) (more_elses (else_if (at 32) (number (at 35) (pos 1)) (block (at 37) (at 39) no_stmts)) no_else)))))) ∷ []) ≡ fault 20 15
a_further_condition_that_is_a_number = refl

-- func main() { x = if true { 1 } else { true }; }
blocks_of_two_types : text (codes "main" ∷ codes "x" ∷ []) (function_item (function (head false (n 0 6) [] None) (block (at 13) (at 48) (more_stmts (declare (n 1 15) (form (branch (at 19) (truth (at 22) true) (block (at 27) (at 31) (last (number (at 29) (pos 1)))) (otherwise (block (at 38) (at 45) (last (truth (at 40) true))))))) no_stmts))) ∷ []) ≡ fault 20 19
blocks_of_two_types = refl

-- func main() { x = if true { 1 }; }
a_value_without_else : text (codes "main" ∷ codes "x" ∷ []) (function_item (function (head false (n 0 6) [] None) (block (at 13) (at 34) (more_stmts (declare (n 1 15) (form (branch (at 19) (truth (at 22) true) (block (at 27) (at 31) (last (number (at 29) (pos 1)))) no_else))) no_stmts))) ∷ []) ≡ fault 20 19
a_value_without_else = refl

-- func main() { pure { 1 } println(1); }
a_form_with_a_value_as_a_statement : text (codes "main" ∷ codes "println" ∷ []) (function_item (function (head false (n 0 6) [] None) (block (at 13) (at 38) (more_stmts (form_stmt (pure (at 15) (block (at 20) (at 24) (last (number (at 22) (pos 1)))))) (more_stmts (express (call (n 1 26) (more_exprs (number (at 34) (pos 1)) no_exprs))) no_stmts)))) ∷ []) ≡ fault 20 15
a_form_with_a_value_as_a_statement = refl

-- func main() { pure { 1 }; println(1); }
a_form_with_a_value_as_an_expression : text (codes "main" ∷ codes "println" ∷ []) (function_item (function (head false (n 0 6) [] None) (block (at 13) (at 39) (more_stmts (express (form (pure (at 15) (block (at 20) (at 24) (last (number (at 22) (pos 1))))))) (more_stmts (express (call (n 1 27) (more_exprs (number (at 35) (pos 1)) no_exprs))) no_stmts)))) ∷ []) ≡ None
a_form_with_a_value_as_an_expression = refl

-- func main() { x = 0; while x < 3 { set x = x + 1; } foreach i in 0..x { println(i); } }
a_loop : text (codes "main" ∷ codes "x" ∷ codes "i" ∷ codes "println" ∷ []) (function_item (function (head false (n 0 6) [] None) (block (at 13) (at 87) (more_stmts (declare (n 1 15) (number (at 19) (pos 0))) (more_stmts (while (at 22) (chain (name (n 1 28)) (more_links (link (at 30) Less (number (at 32) (pos 3))) no_links)) (block (at 34) (at 51) (more_stmts (express (set (at 36) (name (n 1 40)) (chain (name (n 1 44)) (more_links (link (at 46) Add (number (at 48) (pos 1))) no_links)))) no_stmts))) (more_stmts (foreach (at 53) (n 2 61) (number (at 66) (pos 0)) (name (n 1 69)) (block (at 71) (at 85) (more_stmts (express (call (n 3 73) (more_exprs (name (n 2 81)) no_exprs))) no_stmts))) no_stmts))))) ∷ []) ≡ None
a_loop = refl

-- func main() { while 1 { } }
a_loop_s_condition_is_a_number : text (codes "main" ∷ []) (function_item (function (head false (n 0 6) [] None) (block (at 13) (at 27) (more_stmts (while (at 15) (number (at 21) (pos 1)) (block (at 23) (at 25) no_stmts)) no_stmts))) ∷ []) ≡ fault 20 15
a_loop_s_condition_is_a_number = refl

-- func main() { while 1 { 2 } }
a_loop_s_block_has_a_value : text (codes "main" ∷ []) (function_item (function (head false (n 0 6) [] None) (block (at 13) (at 29) (more_stmts (while (at 15) (number (at 21) (pos 1)) (block (at 23) (at 27) (last (number (at 25) (pos 2))))) no_stmts))) ∷ []) ≡ fault 20 23
a_loop_s_block_has_a_value = refl

-- func main() { foreach i in 0..true { } }
a_bound_that_is_a_truth : text (codes "main" ∷ codes "i" ∷ []) (function_item (function (head false (n 0 6) [] None) (block (at 13) (at 40) (more_stmts (foreach (at 15) (n 1 23) (number (at 28) (pos 0)) (truth (at 31) true) (block (at 36) (at 38) no_stmts)) no_stmts))) ∷ []) ≡ fault 20 15
a_bound_that_is_a_truth = refl

-- func main() { 1 }
the_block_of_main_has_a_value : text (codes "main" ∷ []) (function_item (function (head false (n 0 6) [] None) (block (at 13) (at 17) (last (number (at 15) (pos 1))))) ∷ []) ≡ fault 20 13
the_block_of_main_has_a_value = refl

-- func main() { xs = parallel foreach i in 0..3 { i * i }; println(xs[0]); }
a_parallel_loop : text (codes "main" ∷ codes "xs" ∷ codes "i" ∷ codes "println" ∷ []) (function_item (function (head false (n 0 6) [] None) (block (at 13) (at 74) (more_stmts (declare (n 1 15) (form (parallel_range (at 20) (n 2 37) (number (at 42) (pos 0)) (number (at 45) (pos 3)) (block (at 47) (at 55) (last (chain (name (n 2 49)) (more_links (link (at 51) Mul (name (n 2 53))) no_links))))))) (more_stmts (express (call (n 3 58) (more_exprs (steps (name (n 1 66)) (more_steps (index (at 68) (number (at 69) (pos 0))) no_steps)) no_exprs))) no_stmts)))) ∷ []) ≡ None
a_parallel_loop = refl

-- func main() { parallel foreach i in 0..true { } }
a_parallel_loop_s_bound_is_a_truth : text (codes "main" ∷ codes "i" ∷ []) (function_item (function (head false (n 0 6) [] None) (block (at 13) (at 49) (last (form (parallel_range (at 15) (n 1 32) (number (at 37) (pos 0)) (truth (at 40) true) (block (at 45) (at 47) no_stmts)))))) ∷ []) ≡ fault 20 15
a_parallel_loop_s_bound_is_a_truth = refl

-- struct S { a int; } func main() { xs = parallel foreach i in 0..3 { S(i) }; ys = parallel foreach x in xs { merge x }; drop(ys); }
a_parallel_loop_over_isolates : text (codes "S" ∷ codes "a" ∷ codes "main" ∷ codes "xs" ∷ codes "i" ∷ codes "ys" ∷ codes "x" ∷ codes "drop" ∷ []) (struct_item (n 0 8) (field_decl (n 1 12) false (int_type (at 14)) ∷ []) ∷ function_item (function (head false (n 2 26) [] None) (block (at 33) (at 130) (more_stmts (declare (n 3 35) (form (parallel_range (at 40) (n 4 57) (number (at 62) (pos 0)) (number (at 65) (pos 3)) (block (at 67) (at 74) (last (call (n 0 69) (more_exprs (name (n 4 71)) no_exprs))))))) (more_stmts (declare (n 5 77) (form (parallel_each (at 82) (n 6 99) (name (n 3 104)) (block (at 107) (at 117) (last (unary (at 109) Merge (name (n 6 115)))))))) (more_stmts (express (call (n 7 120) (more_exprs (name (n 5 125)) no_exprs))) no_stmts))))) ∷ []) ≡ None
a_parallel_loop_over_isolates = refl

-- func main() { xs = []int(1); parallel foreach x in xs { } }
a_parallel_loop_over_numbers : text (codes "main" ∷ codes "xs" ∷ codes "x" ∷ []) (function_item (function (head false (n 0 6) [] None) (block (at 13) (at 59) (more_stmts (declare (n 1 15) (array (at 20) (int_type (at 22)) (more_exprs (number (at 26) (pos 1)) no_exprs))) (last (form (parallel_each (at 30) (n 2 47) (name (n 1 52)) (block (at 55) (at 57) no_stmts))))))) ∷ []) ≡ fault 20 30
a_parallel_loop_over_numbers = refl

-- struct S { } func f(s &S) { parallel foreach i in 0..1 { s } } func main() { }
a_parallel_loop_of_references_is_refused_later : text (codes "S" ∷ codes "f" ∷ codes "s" ∷ codes "i" ∷ codes "main" ∷ []) (struct_item (n 0 8) [] ∷ function_item (function (head false (n 1 19) (param (n 2 21) (ref_type (at 23) (named_type (n 0 24))) ∷ []) None) (block (at 27) (at 62) (last (form (parallel_range (at 29) (n 3 46) (number (at 51) (pos 0)) (number (at 54) (pos 1)) (block (at 56) (at 60) (last (name (n 2 58))))))))) ∷ function_item (function (head false (n 4 69) [] None) (block (at 76) (at 78) no_stmts)) ∷ []) ≡ None
a_parallel_loop_of_references_is_refused_later = refl

-- ---- functions

-- func f() int { return 1; } func main() { }
a_result : text (codes "f" ∷ codes "main" ∷ []) (function_item (function (head false (n 0 6) [] (Some (int_type (at 10)))) (block (at 14) (at 26) (more_stmts (return_value (at 16) (number (at 23) (pos 1))) no_stmts))) ∷ function_item (function (head false (n 1 33) [] None) (block (at 40) (at 42) no_stmts)) ∷ []) ≡ None
a_result = refl

-- func f() { return; } func main() { }
no_result : text (codes "f" ∷ codes "main" ∷ []) (function_item (function (head false (n 0 6) [] None) (block (at 10) (at 20) (more_stmts (return_nothing (at 12)) no_stmts))) ∷ function_item (function (head false (n 1 27) [] None) (block (at 34) (at 36) no_stmts)) ∷ []) ≡ None
no_result = refl

-- func f() int { } func main() { }
a_function_that_never_returns_its_result : text (codes "f" ∷ codes "main" ∷ []) (function_item (function (head false (n 0 6) [] (Some (int_type (at 10)))) (block (at 14) (at 16) no_stmts)) ∷ function_item (function (head false (n 1 23) [] None) (block (at 30) (at 32) no_stmts)) ∷ []) ≡ fault 26 6
a_function_that_never_returns_its_result = refl

-- func f(c bool) int { if c { return 1; } else { return 2; } } func main() { }
an_if_that_always_returns : text (codes "f" ∷ codes "c" ∷ codes "main" ∷ []) (function_item (function (head false (n 0 6) (param (n 1 8) (bool_type (at 10)) ∷ []) (Some (int_type (at 16)))) (block (at 20) (at 60) (last (form (branch (at 22) (name (n 1 25)) (block (at 27) (at 39) (more_stmts (return_value (at 29) (number (at 36) (pos 1))) no_stmts)) (otherwise (block (at 46) (at 58) (more_stmts (return_value (at 48) (number (at 55) (pos 2))) no_stmts)))))))) ∷ function_item (function (head false (n 2 67) [] None) (block (at 74) (at 76) no_stmts)) ∷ []) ≡ None
an_if_that_always_returns = refl

-- func f(c bool) int { if c { return 1; } } func main() { }
an_if_without_else_that_returns : text (codes "f" ∷ codes "c" ∷ codes "main" ∷ []) (function_item (function (head false (n 0 6) (param (n 1 8) (bool_type (at 10)) ∷ []) (Some (int_type (at 16)))) (block (at 20) (at 41) (last (form (branch (at 22) (name (n 1 25)) (block (at 27) (at 39) (more_stmts (return_value (at 29) (number (at 36) (pos 1))) no_stmts)) no_else))))) ∷ function_item (function (head false (n 2 48) [] None) (block (at 55) (at 57) no_stmts)) ∷ []) ≡ fault 26 6
an_if_without_else_that_returns = refl

-- func f() int { while true { return 1; } } func main() { }
a_loop_that_returns : text (codes "f" ∷ codes "main" ∷ []) (function_item (function (head false (n 0 6) [] (Some (int_type (at 10)))) (block (at 14) (at 41) (more_stmts (while (at 16) (truth (at 22) true) (block (at 27) (at 39) (more_stmts (return_value (at 29) (number (at 36) (pos 1))) no_stmts))) no_stmts))) ∷ function_item (function (head false (n 1 48) [] None) (block (at 55) (at 57) no_stmts)) ∷ []) ≡ fault 26 6
a_loop_that_returns = refl

-- func f() int { 1 } func main() { }
a_block_s_value_is_no_result : text (codes "f" ∷ codes "main" ∷ []) (function_item (function (head false (n 0 6) [] (Some (int_type (at 10)))) (block (at 14) (at 18) (last (number (at 16) (pos 1))))) ∷ function_item (function (head false (n 1 25) [] None) (block (at 32) (at 34) no_stmts)) ∷ []) ≡ fault 20 14
a_block_s_value_is_no_result = refl

-- func f() int { return true; } func main() { }
another_result : text (codes "f" ∷ codes "main" ∷ []) (function_item (function (head false (n 0 6) [] (Some (int_type (at 10)))) (block (at 14) (at 29) (more_stmts (return_value (at 16) (truth (at 23) true)) no_stmts))) ∷ function_item (function (head false (n 1 36) [] None) (block (at 43) (at 45) no_stmts)) ∷ []) ≡ fault 20 16
another_result = refl

-- func f() { return 1; } func main() { }
a_result_of_a_function_without_one : text (codes "f" ∷ codes "main" ∷ []) (function_item (function (head false (n 0 6) [] None) (block (at 10) (at 22) (more_stmts (return_value (at 12) (number (at 19) (pos 1))) no_stmts))) ∷ function_item (function (head false (n 1 29) [] None) (block (at 36) (at 38) no_stmts)) ∷ []) ≡ fault 20 12
a_result_of_a_function_without_one = refl

-- func f() int { return; } func main() { }
no_result_of_a_function_with_one : text (codes "f" ∷ codes "main" ∷ []) (function_item (function (head false (n 0 6) [] (Some (int_type (at 10)))) (block (at 14) (at 24) (more_stmts (return_nothing (at 16)) no_stmts))) ∷ function_item (function (head false (n 1 31) [] None) (block (at 38) (at 40) no_stmts)) ∷ []) ≡ fault 20 16
no_result_of_a_function_with_one = refl

-- struct S { a int; b str; } func main() { [x, y] = S(1, "b"); println(x); println(y); }
a_destructuring : text (codes "S" ∷ codes "a" ∷ codes "b" ∷ codes "main" ∷ codes "x" ∷ codes "y" ∷ codes "println" ∷ []) (struct_item (n 0 8) (field_decl (n 1 12) false (int_type (at 14)) ∷ field_decl (n 2 19) false (str_type (at 21)) ∷ []) ∷ function_item (function (head false (n 3 33) [] None) (block (at 40) (at 86) (more_stmts (destructure (at 42) ((n 4 43) ∷ (n 5 46) ∷ []) (call (n 0 51) (more_exprs (number (at 53) (pos 1)) (more_exprs (quote (at 56) (codes "b")) no_exprs)))) (more_stmts (express (call (n 6 62) (more_exprs (name (n 4 70)) no_exprs))) (more_stmts (express (call (n 6 74) (more_exprs (name (n 5 82)) no_exprs))) no_stmts))))) ∷ []) ≡ None
a_destructuring = refl

-- func main() { [x] = 1; }
a_number_is_destructured : text (codes "main" ∷ codes "x" ∷ []) (function_item (function (head false (n 0 6) [] None) (block (at 13) (at 24) (more_stmts (destructure (at 15) ((n 1 16) ∷ []) (number (at 21) (pos 1))) no_stmts))) ∷ []) ≡ fault 20 15
a_number_is_destructured = refl

-- struct S { a int; } func main() { [] = S(1); }
a_destructuring_without_a_field : text (codes "S" ∷ codes "a" ∷ codes "main" ∷ []) (struct_item (n 0 8) (field_decl (n 1 12) false (int_type (at 14)) ∷ []) ∷ function_item (function (head false (n 2 26) [] None) (block (at 33) (at 46) (more_stmts (destructure (at 35) [] (call (n 0 40) (more_exprs (number (at 42) (pos 1)) no_exprs))) no_stmts))) ∷ []) ≡ fault 22 35
a_destructuring_without_a_field = refl

-- ---- sites

-- struct S { a int; } func main() { s = S(1); println(s.a); }
an_owner_s_own_field_is_no_site : sites_of (codes "S" ∷ codes "a" ∷ codes "main" ∷ codes "s" ∷ codes "println" ∷ []) (struct_item (n 0 8) (field_decl (n 1 12) false (int_type (at 14)) ∷ []) ∷ function_item (function (head false (n 2 26) [] None) (block (at 33) (at 59) (more_stmts (declare (n 3 35) (call (n 0 39) (more_exprs (number (at 41) (pos 1)) no_exprs))) (more_stmts (express (call (n 4 45) (more_exprs (steps (name (n 3 53)) (more_steps (field (at 54) (record { 0 = 1 })) no_steps)) no_exprs))) no_stmts)))) ∷ []) ≡ Some 0
an_owner_s_own_field_is_no_site = refl

-- struct S { a int; } func f(s &S) { println(s.a); } func main() { }
a_field_through_a_reference_is_a_site : sites_of (codes "S" ∷ codes "a" ∷ codes "f" ∷ codes "s" ∷ codes "println" ∷ codes "main" ∷ []) (struct_item (n 0 8) (field_decl (n 1 12) false (int_type (at 14)) ∷ []) ∷ function_item (function (head false (n 2 26) (param (n 3 28) (ref_type (at 30) (named_type (n 0 31))) ∷ []) None) (block (at 34) (at 50) (more_stmts (express (call (n 4 36) (more_exprs (steps (name (n 3 44)) (more_steps (field (at 45) (record { 0 = 1 })) no_steps)) no_exprs))) no_stmts))) ∷ function_item (function (head false (n 5 57) [] None) (block (at 64) (at 66) no_stmts)) ∷ []) ≡ Some 1
a_field_through_a_reference_is_a_site = refl

-- struct P { x int; } struct S { p P; } func main() { s = S(P(1)); println(s.p.x); }
the_field_of_a_field_is_a_site : sites_of (codes "P" ∷ codes "x" ∷ codes "S" ∷ codes "p" ∷ codes "main" ∷ codes "s" ∷ codes "println" ∷ []) (struct_item (n 0 8) (field_decl (n 1 12) false (int_type (at 14)) ∷ []) ∷ struct_item (n 2 28) (field_decl (n 3 32) false (named_type (n 0 34)) ∷ []) ∷ function_item (function (head false (n 4 44) [] None) (block (at 51) (at 82) (more_stmts (declare (n 5 53) (call (n 2 57) (more_exprs (call (n 0 59) (more_exprs (number (at 61) (pos 1)) no_exprs)) no_exprs))) (more_stmts (express (call (n 6 66) (more_exprs (steps (name (n 5 74)) (more_steps (field (at 75) (record { 0 = 3 })) (more_steps (field (at 77) (record { 0 = 1 })) no_steps))) no_exprs))) no_stmts)))) ∷ []) ≡ Some 1
the_field_of_a_field_is_a_site = refl

-- func main() { a = []int(1); println(len(&a)); push(&a, 2); println(pop(&a)); println(len("a")); }
len_push_and_pop_are_sites : sites_of (codes "main" ∷ codes "a" ∷ codes "println" ∷ codes "len" ∷ codes "push" ∷ codes "pop" ∷ []) (function_item (function (head false (n 0 6) [] None) (block (at 13) (at 97) (more_stmts (declare (n 1 15) (array (at 19) (int_type (at 21)) (more_exprs (number (at 25) (pos 1)) no_exprs))) (more_stmts (express (call (n 2 29) (more_exprs (call (n 3 37) (more_exprs (unary (at 41) Borrow (name (n 1 42))) no_exprs)) no_exprs))) (more_stmts (express (call (n 4 47) (more_exprs (unary (at 52) Borrow (name (n 1 53))) (more_exprs (number (at 56) (pos 2)) no_exprs)))) (more_stmts (express (call (n 2 60) (more_exprs (call (n 5 68) (more_exprs (unary (at 72) Borrow (name (n 1 73))) no_exprs)) no_exprs))) (more_stmts (express (call (n 2 78) (more_exprs (call (n 3 86) (more_exprs (quote (at 90) (codes "a")) no_exprs)) no_exprs))) no_stmts))))))) ∷ []) ≡ Some 3
len_push_and_pop_are_sites = refl

-- struct S { } interface I { func m(self &I, x int) int; } impl I for S { func m(self &S, x int) int { return x; } } func up(r &I) &I { return r; } func main() { s = S(); r = up(&s); println(r.m(1)); }
a_method_call_is_a_site : sites_of (codes "S" ∷ codes "I" ∷ codes "m" ∷ codes "self" ∷ codes "x" ∷ codes "up" ∷ codes "r" ∷ codes "main" ∷ codes "s" ∷ codes "println" ∷ []) (struct_item (n 0 8) [] ∷ interface_item (n 1 24) (head false (n 2 33) (param (n 3 35) (ref_type (at 40) (named_type (n 1 41))) ∷ param (n 4 44) (int_type (at 46)) ∷ []) (Some (int_type (at 51))) ∷ []) ∷ impl_item (at 58) (n 1 63) (n 0 69) (function (head false (n 2 78) (param (n 3 80) (ref_type (at 85) (named_type (n 0 86))) ∷ param (n 4 89) (int_type (at 91)) ∷ []) (Some (int_type (at 96)))) (block (at 100) (at 112) (more_stmts (return_value (at 102) (name (n 4 109))) no_stmts)) ∷ []) ∷ function_item (function (head false (n 5 121) (param (n 6 124) (ref_type (at 126) (named_type (n 1 127))) ∷ []) (Some (ref_type (at 130) (named_type (n 1 131))))) (block (at 133) (at 145) (more_stmts (return_value (at 135) (name (n 6 142))) no_stmts))) ∷ function_item (function (head false (n 7 152) [] None) (block (at 159) (at 199) (more_stmts (declare (n 8 161) (call (n 0 165) no_exprs)) (more_stmts (declare (n 6 170) (call (n 5 174) (more_exprs (unary (at 177) Borrow (name (n 8 178))) no_exprs))) (more_stmts (express (call (n 9 182) (more_exprs (steps (name (n 6 190)) (more_steps (method (at 191) (record { 0 = 2 }) (more_exprs (number (at 194) (pos 1)) no_exprs)) no_steps)) no_exprs))) no_stmts))))) ∷ []) ≡ Some 1
a_method_call_is_a_site = refl

-- func main() { a = []int(1); println(a[0]); }
an_owner_s_own_element_is_no_site : sites_of (codes "main" ∷ codes "a" ∷ codes "println" ∷ []) (function_item (function (head false (n 0 6) [] None) (block (at 13) (at 44) (more_stmts (declare (n 1 15) (array (at 19) (int_type (at 21)) (more_exprs (number (at 25) (pos 1)) no_exprs))) (more_stmts (express (call (n 2 29) (more_exprs (steps (name (n 1 37)) (more_steps (index (at 38) (number (at 39) (pos 0))) no_steps)) no_exprs))) no_stmts)))) ∷ []) ≡ Some 0
an_owner_s_own_element_is_no_site = refl

-- func f(a []int) int { drop(a); return 0; } func main() { a = []int(1); println(a[f(a)]); }
an_element_behind_an_index_that_takes_the_array_is_a_site : sites_of (codes "f" ∷ codes "a" ∷ codes "drop" ∷ codes "main" ∷ codes "println" ∷ []) (function_item (function (head false (n 0 6) (param (n 1 8) (array_type (at 10) (int_type (at 12))) ∷ []) (Some (int_type (at 17)))) (block (at 21) (at 42) (more_stmts (express (call (n 2 23) (more_exprs (name (n 1 28)) no_exprs))) (more_stmts (return_value (at 32) (number (at 39) (pos 0))) no_stmts)))) ∷ function_item (function (head false (n 3 49) [] None) (block (at 56) (at 90) (more_stmts (declare (n 1 58) (array (at 62) (int_type (at 64)) (more_exprs (number (at 68) (pos 1)) no_exprs))) (more_stmts (express (call (n 4 72) (more_exprs (steps (name (n 1 80)) (more_steps (index (at 81) (call (n 0 82) (more_exprs (name (n 1 84)) no_exprs))) no_steps)) no_exprs))) no_stmts)))) ∷ []) ≡ Some 1
an_element_behind_an_index_that_takes_the_array_is_a_site = refl

-- func f(a []int) int { drop(a); return 0; } func main() { a = []int(1); println(a[f(set a = []int(1, 2))]); }
an_element_behind_an_index_that_sets_the_array_is_a_site : sites_of (codes "f" ∷ codes "a" ∷ codes "drop" ∷ codes "main" ∷ codes "println" ∷ []) (function_item (function (head false (n 0 6) (param (n 1 8) (array_type (at 10) (int_type (at 12))) ∷ []) (Some (int_type (at 17)))) (block (at 21) (at 42) (more_stmts (express (call (n 2 23) (more_exprs (name (n 1 28)) no_exprs))) (more_stmts (return_value (at 32) (number (at 39) (pos 0))) no_stmts)))) ∷ function_item (function (head false (n 3 49) [] None) (block (at 56) (at 108) (more_stmts (declare (n 1 58) (array (at 62) (int_type (at 64)) (more_exprs (number (at 68) (pos 1)) no_exprs))) (more_stmts (express (call (n 4 72) (more_exprs (steps (name (n 1 80)) (more_steps (index (at 81) (call (n 0 82) (more_exprs (set (at 84) (name (n 1 88)) (array (at 92) (int_type (at 94)) (more_exprs (number (at 98) (pos 1)) (more_exprs (number (at 101) (pos 2)) no_exprs)))) no_exprs))) no_steps)) no_exprs))) no_stmts)))) ∷ []) ≡ Some 1
an_element_behind_an_index_that_sets_the_array_is_a_site = refl

-- func main() { a = []int(1); println(a[len(&a) - 1]); }
an_element_behind_an_index_that_reads_the_array_has_only_the_site_of_len : sites_of (codes "main" ∷ codes "a" ∷ codes "println" ∷ codes "len" ∷ []) (function_item (function (head false (n 0 6) [] None) (block (at 13) (at 54) (more_stmts (declare (n 1 15) (array (at 19) (int_type (at 21)) (more_exprs (number (at 25) (pos 1)) no_exprs))) (more_stmts (express (call (n 2 29) (more_exprs (steps (name (n 1 37)) (more_steps (index (at 38) (chain (call (n 3 39) (more_exprs (unary (at 43) Borrow (name (n 1 44))) no_exprs)) (more_links (link (at 47) Sub (number (at 49) (pos 1))) no_links))) no_steps)) no_exprs))) no_stmts)))) ∷ []) ≡ Some 1
an_element_behind_an_index_that_reads_the_array_has_only_the_site_of_len = refl
