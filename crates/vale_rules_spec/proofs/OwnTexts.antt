-- Texts whose ownership is lawful, and texts whose ownership isn't, by computation: for each code both. A text stands here as its tree.
use Rattle.std.proofs.Common.{◌≡◌, ℕ, List, [], ◌∷◌, Option, Some, None, refl}
use Rattle.std.specs.Prelude.{true, false, codes, pos}
use Rattle.vale_base.specs.declared.spot.Spot.{Spot}
use Rattle.vale_syntax.specs.declared.tree.NameAt.{NameAt}
use Rattle.vale_syntax.specs.declared.tree.BinaryOp.TheVariants.{Or, And}
use Rattle.vale_syntax.specs.declared.tree.UnaryOp.TheVariants.{Borrow, Merge}
use Rattle.vale_syntax.specs.declared.fault.Fault.{Fault}
use Rattle.vale_rules_spec.specs.Judged.{Judged, fine, faulty, faults, first_of}
use Rattle.vale_rules_spec.specs.Typed.{Typed}
use Rattle.vale_rules_spec.specs.Typing.{typed}
use Rattle.vale_syntax.specs.Tree.{int_type, bool_type, named_type, set, chain, unary, steps, number, truth, name, call, paren, array, iso, form, no_exprs, more_exprs, link, no_links, more_links, field, index, no_steps, more_steps, branch, pure, else_if, no_else, otherwise, more_elses, block, declare, destructure, return_nothing, return_value, while, foreach, form_stmt, express, no_stmts, last, more_stmts, param, head, function, field_decl, Item, struct_item, function_item, tree, iso_type, ref_type, parallel_each, interface_item, impl_item}
use Rattle.vale_rules_spec.specs.Owned.{owned}

-- ---- nodes, with their columns in a text of one line

abbrev at : ℕ → Spot
at column = record { line = 1; col = column }

-- the name of a number
abbrev n : ℕ → ℕ → NameAt
n k column = record { name = record { 0 = k }; at = at column }

abbrev fault : ℕ → ℕ → Option Fault
fault code column = Some (record { code = code; at = at column })

abbrev in_typed : Judged Typed → Option Fault
in_typed (fine program) = first_of (faults (owned program))
in_typed (faulty f fs) = Some f

-- the first fault of the tree with these names and items, whose types are lawful
abbrev text : List (List ℕ) → List Item → Option Fault
text names items = in_typed (typed (tree names items))

-- ---- a moved local is named

-- struct S { } func main() { a = S(); drop(a); }
an_owner_is_dropped : text (codes "S" ∷ codes "main" ∷ codes "a" ∷ codes "drop" ∷ []) (struct_item (n 0 8) [] ∷ function_item (function (head false (n 1 19) [] None) (block (at 26) (at 46) (more_stmts (declare (n 2 28) (call (n 0 32) no_exprs)) (more_stmts (express (call (n 3 37) (more_exprs (name (n 2 42)) no_exprs))) no_stmts)))) ∷ []) ≡ None
an_owner_is_dropped = refl

-- struct S { } func main() { a = S(); drop(a); drop(a); }
an_owner_is_dropped_twice : text (codes "S" ∷ codes "main" ∷ codes "a" ∷ codes "drop" ∷ []) (struct_item (n 0 8) [] ∷ function_item (function (head false (n 1 19) [] None) (block (at 26) (at 55) (more_stmts (declare (n 2 28) (call (n 0 32) no_exprs)) (more_stmts (express (call (n 3 37) (more_exprs (name (n 2 42)) no_exprs))) (more_stmts (express (call (n 3 46) (more_exprs (name (n 2 51)) no_exprs))) no_stmts))))) ∷ []) ≡ fault 30 51
an_owner_is_dropped_twice = refl

-- struct S { } func main() { a = S(); drop(a); set a = S(); }
an_owner_is_dropped_and_set : text (codes "S" ∷ codes "main" ∷ codes "a" ∷ codes "drop" ∷ []) (struct_item (n 0 8) [] ∷ function_item (function (head false (n 1 19) [] None) (block (at 26) (at 59) (more_stmts (declare (n 2 28) (call (n 0 32) no_exprs)) (more_stmts (express (call (n 3 37) (more_exprs (name (n 2 42)) no_exprs))) (more_stmts (express (set (at 46) (name (n 2 50)) (call (n 0 54) no_exprs))) no_stmts))))) ∷ []) ≡ fault 30 50
an_owner_is_dropped_and_set = refl

-- struct S { } func main() { a = S(); set a = S(); drop(a); }
an_owner_is_set_and_dropped : text (codes "S" ∷ codes "main" ∷ codes "a" ∷ codes "drop" ∷ []) (struct_item (n 0 8) [] ∷ function_item (function (head false (n 1 19) [] None) (block (at 26) (at 59) (more_stmts (declare (n 2 28) (call (n 0 32) no_exprs)) (more_stmts (express (set (at 37) (name (n 2 41)) (call (n 0 45) no_exprs))) (more_stmts (express (call (n 3 50) (more_exprs (name (n 2 55)) no_exprs))) no_stmts))))) ∷ []) ≡ None
an_owner_is_set_and_dropped = refl

-- struct S { } func main() { a = S(); b = a; drop(b); }
an_owner_is_moved_to_another_local : text (codes "S" ∷ codes "main" ∷ codes "a" ∷ codes "b" ∷ codes "drop" ∷ []) (struct_item (n 0 8) [] ∷ function_item (function (head false (n 1 19) [] None) (block (at 26) (at 53) (more_stmts (declare (n 2 28) (call (n 0 32) no_exprs)) (more_stmts (declare (n 3 37) (name (n 2 41))) (more_stmts (express (call (n 4 44) (more_exprs (name (n 3 49)) no_exprs))) no_stmts))))) ∷ []) ≡ None
an_owner_is_moved_to_another_local = refl

-- struct S { } func main() { a = S(); b = a; c = &a; }
an_owner_is_moved_and_lent : text (codes "S" ∷ codes "main" ∷ codes "a" ∷ codes "b" ∷ codes "c" ∷ []) (struct_item (n 0 8) [] ∷ function_item (function (head false (n 1 19) [] None) (block (at 26) (at 52) (more_stmts (declare (n 2 28) (call (n 0 32) no_exprs)) (more_stmts (declare (n 3 37) (name (n 2 41))) (more_stmts (declare (n 4 44) (unary (at 48) Borrow (name (n 2 49)))) no_stmts))))) ∷ []) ≡ fault 30 49
an_owner_is_moved_and_lent = refl

-- struct S { } func main() { a = iso { S() }; drop(a); drop(a); }
an_isolate_is_dropped_twice : text (codes "S" ∷ codes "main" ∷ codes "a" ∷ codes "drop" ∷ []) (struct_item (n 0 8) [] ∷ function_item (function (head false (n 1 19) [] None) (block (at 26) (at 63) (more_stmts (declare (n 2 28) (iso (at 32) (block (at 36) (at 42) (last (call (n 0 38) no_exprs))))) (more_stmts (express (call (n 3 45) (more_exprs (name (n 2 50)) no_exprs))) (more_stmts (express (call (n 3 54) (more_exprs (name (n 2 59)) no_exprs))) no_stmts))))) ∷ []) ≡ fault 30 59
an_isolate_is_dropped_twice = refl

-- struct S { } func main() { a = iso { S() }; b = merge a; drop(b); }
an_isolate_is_merged : text (codes "S" ∷ codes "main" ∷ codes "a" ∷ codes "b" ∷ codes "drop" ∷ []) (struct_item (n 0 8) [] ∷ function_item (function (head false (n 1 19) [] None) (block (at 26) (at 67) (more_stmts (declare (n 2 28) (iso (at 32) (block (at 36) (at 42) (last (call (n 0 38) no_exprs))))) (more_stmts (declare (n 3 45) (unary (at 49) Merge (name (n 2 55)))) (more_stmts (express (call (n 4 58) (more_exprs (name (n 3 63)) no_exprs))) no_stmts))))) ∷ []) ≡ None
an_isolate_is_merged = refl

-- struct S { } func main() { a = iso { S() }; b = merge a; drop(a); }
an_isolate_is_merged_and_dropped : text (codes "S" ∷ codes "main" ∷ codes "a" ∷ codes "b" ∷ codes "drop" ∷ []) (struct_item (n 0 8) [] ∷ function_item (function (head false (n 1 19) [] None) (block (at 26) (at 67) (more_stmts (declare (n 2 28) (iso (at 32) (block (at 36) (at 42) (last (call (n 0 38) no_exprs))))) (more_stmts (declare (n 3 45) (unary (at 49) Merge (name (n 2 55)))) (more_stmts (express (call (n 4 58) (more_exprs (name (n 2 63)) no_exprs))) no_stmts))))) ∷ []) ≡ fault 30 63
an_isolate_is_merged_and_dropped = refl

-- struct S { } func f(s S) S { return s; } func main() { }
an_owner_is_returned : text (codes "S" ∷ codes "f" ∷ codes "s" ∷ codes "main" ∷ []) (struct_item (n 0 8) [] ∷ function_item (function (head false (n 1 19) (param (n 2 21) (named_type (n 0 23)) ∷ []) (Some (named_type (n 0 26)))) (block (at 28) (at 40) (more_stmts (return_value (at 30) (name (n 2 37))) no_stmts))) ∷ function_item (function (head false (n 3 47) [] None) (block (at 54) (at 56) no_stmts)) ∷ []) ≡ None
an_owner_is_returned = refl

-- struct S { } func f(s S) S { return s; drop(s); } func main() { }
an_owner_is_returned_and_dropped : text (codes "S" ∷ codes "f" ∷ codes "s" ∷ codes "drop" ∷ codes "main" ∷ []) (struct_item (n 0 8) [] ∷ function_item (function (head false (n 1 19) (param (n 2 21) (named_type (n 0 23)) ∷ []) (Some (named_type (n 0 26)))) (block (at 28) (at 49) (more_stmts (return_value (at 30) (name (n 2 37))) (more_stmts (express (call (n 3 40) (more_exprs (name (n 2 45)) no_exprs))) no_stmts)))) ∷ function_item (function (head false (n 4 56) [] None) (block (at 63) (at 65) no_stmts)) ∷ []) ≡ fault 30 45
an_owner_is_returned_and_dropped = refl

-- struct S { } func h(s S, t S) { } func main() { a = S(); h(a, a); }
an_owner_is_an_argument_twice : text (codes "S" ∷ codes "h" ∷ codes "s" ∷ codes "t" ∷ codes "main" ∷ codes "a" ∷ []) (struct_item (n 0 8) [] ∷ function_item (function (head false (n 1 19) (param (n 2 21) (named_type (n 0 23)) ∷ param (n 3 26) (named_type (n 0 28)) ∷ []) None) (block (at 31) (at 33) no_stmts)) ∷ function_item (function (head false (n 4 40) [] None) (block (at 47) (at 67) (more_stmts (declare (n 5 49) (call (n 0 53) no_exprs)) (more_stmts (express (call (n 1 58) (more_exprs (name (n 5 60)) (more_exprs (name (n 5 63)) no_exprs)))) no_stmts)))) ∷ []) ≡ fault 30 63
an_owner_is_an_argument_twice = refl

-- struct S { } func main() { a = S(); pure { x = a; } drop(a); }
an_outer_owner_is_read_in_a_freeze : text (codes "S" ∷ codes "main" ∷ codes "a" ∷ codes "x" ∷ codes "drop" ∷ []) (struct_item (n 0 8) [] ∷ function_item (function (head false (n 1 19) [] None) (block (at 26) (at 62) (more_stmts (declare (n 2 28) (call (n 0 32) no_exprs)) (more_stmts (form_stmt (pure (at 37) (block (at 42) (at 51) (more_stmts (declare (n 3 44) (name (n 2 48))) no_stmts)))) (more_stmts (express (call (n 4 53) (more_exprs (name (n 2 58)) no_exprs))) no_stmts))))) ∷ []) ≡ None
an_outer_owner_is_read_in_a_freeze = refl

-- struct S { } func main() { a = S(); drop(a); pure { x = &a; } }
a_moved_owner_is_read_in_a_freeze : text (codes "S" ∷ codes "main" ∷ codes "a" ∷ codes "drop" ∷ codes "x" ∷ []) (struct_item (n 0 8) [] ∷ function_item (function (head false (n 1 19) [] None) (block (at 26) (at 63) (more_stmts (declare (n 2 28) (call (n 0 32) no_exprs)) (more_stmts (express (call (n 3 37) (more_exprs (name (n 2 42)) no_exprs))) (last (form (pure (at 46) (block (at 51) (at 61) (more_stmts (declare (n 4 53) (unary (at 57) Borrow (name (n 2 58)))) no_stmts))))))))) ∷ []) ≡ fault 30 58
a_moved_owner_is_read_in_a_freeze = refl

-- struct S { } func main() { if true { a = S(); drop(a); } a = S(); drop(a); }
names_come_again_behind_their_blocks : text (codes "S" ∷ codes "main" ∷ codes "a" ∷ codes "drop" ∷ []) (struct_item (n 0 8) [] ∷ function_item (function (head false (n 1 19) [] None) (block (at 26) (at 76) (more_stmts (form_stmt (branch (at 28) (truth (at 31) true) (block (at 36) (at 56) (more_stmts (declare (n 2 38) (call (n 0 42) no_exprs)) (more_stmts (express (call (n 3 47) (more_exprs (name (n 2 52)) no_exprs))) no_stmts))) no_else)) (more_stmts (declare (n 2 58) (call (n 0 62) no_exprs)) (more_stmts (express (call (n 3 67) (more_exprs (name (n 2 72)) no_exprs))) no_stmts))))) ∷ []) ≡ None
names_come_again_behind_their_blocks = refl

-- struct S { } func g(s S) int { drop(s); return 0; } func main() { a = S(); x = []int(1); set x[g(a)] = g(a); }
the_value_of_a_set_comes_before_its_place : text (codes "S" ∷ codes "g" ∷ codes "s" ∷ codes "drop" ∷ codes "main" ∷ codes "a" ∷ codes "x" ∷ []) (struct_item (n 0 8) [] ∷ function_item (function (head false (n 1 19) (param (n 2 21) (named_type (n 0 23)) ∷ []) (Some (int_type (at 26)))) (block (at 30) (at 51) (more_stmts (express (call (n 3 32) (more_exprs (name (n 2 37)) no_exprs))) (more_stmts (return_value (at 41) (number (at 48) (pos 0))) no_stmts)))) ∷ function_item (function (head false (n 4 58) [] None) (block (at 65) (at 110) (more_stmts (declare (n 5 67) (call (n 0 71) no_exprs)) (more_stmts (declare (n 6 76) (array (at 80) (int_type (at 82)) (more_exprs (number (at 86) (pos 1)) no_exprs))) (more_stmts (express (set (at 90) (steps (name (n 6 94)) (more_steps (index (at 95) (call (n 1 96) (more_exprs (name (n 5 98)) no_exprs))) no_steps)) (call (n 1 104) (more_exprs (name (n 5 106)) no_exprs)))) no_stmts))))) ∷ []) ≡ fault 30 98
the_value_of_a_set_comes_before_its_place = refl

-- struct S { } struct B { s! S; } func main() { b = B(S()); a = S(); drop(a); drop(b); set b.s = a; }
the_place_of_a_set_is_told_first : text (codes "S" ∷ codes "B" ∷ codes "s" ∷ codes "main" ∷ codes "b" ∷ codes "a" ∷ codes "drop" ∷ []) (struct_item (n 0 8) [] ∷ struct_item (n 1 21) (field_decl (n 2 25) true (named_type (n 0 28)) ∷ []) ∷ function_item (function (head false (n 3 38) [] None) (block (at 45) (at 99) (more_stmts (declare (n 4 47) (call (n 1 51) (more_exprs (call (n 0 53) no_exprs) no_exprs))) (more_stmts (declare (n 5 59) (call (n 0 63) no_exprs)) (more_stmts (express (call (n 6 68) (more_exprs (name (n 5 73)) no_exprs))) (more_stmts (express (call (n 6 77) (more_exprs (name (n 4 82)) no_exprs))) (more_stmts (express (set (at 86) (steps (name (n 4 90)) (more_steps (field (at 91) (record { 0 = 2 })) no_steps)) (name (n 5 96)))) no_stmts))))))) ∷ []) ≡ fault 30 90
the_place_of_a_set_is_told_first = refl

-- ---- after some branches whole, after others moved

-- struct S { } func main() { a = S(); if true { drop(a); } }
one_side_drops : text (codes "S" ∷ codes "main" ∷ codes "a" ∷ codes "drop" ∷ []) (struct_item (n 0 8) [] ∷ function_item (function (head false (n 1 19) [] None) (block (at 26) (at 58) (more_stmts (declare (n 2 28) (call (n 0 32) no_exprs)) (last (form (branch (at 37) (truth (at 40) true) (block (at 45) (at 56) (more_stmts (express (call (n 3 47) (more_exprs (name (n 2 52)) no_exprs))) no_stmts)) no_else)))))) ∷ []) ≡ fault 31 37
one_side_drops = refl

-- struct S { } func main() { a = S(); if true { drop(a); } else { drop(a); } }
both_sides_drop : text (codes "S" ∷ codes "main" ∷ codes "a" ∷ codes "drop" ∷ []) (struct_item (n 0 8) [] ∷ function_item (function (head false (n 1 19) [] None) (block (at 26) (at 76) (more_stmts (declare (n 2 28) (call (n 0 32) no_exprs)) (last (form (branch (at 37) (truth (at 40) true) (block (at 45) (at 56) (more_stmts (express (call (n 3 47) (more_exprs (name (n 2 52)) no_exprs))) no_stmts)) (otherwise (block (at 63) (at 74) (more_stmts (express (call (n 3 65) (more_exprs (name (n 2 70)) no_exprs))) no_stmts))))))))) ∷ []) ≡ None
both_sides_drop = refl

-- struct S { } func main() { a = S(); if true { drop(a); } else if false { drop(a); } else { } }
two_of_three_sides_drop : text (codes "S" ∷ codes "main" ∷ codes "a" ∷ codes "drop" ∷ []) (struct_item (n 0 8) [] ∷ function_item (function (head false (n 1 19) [] None) (block (at 26) (at 94) (more_stmts (declare (n 2 28) (call (n 0 32) no_exprs)) (last (form (branch (at 37) (truth (at 40) true) (block (at 45) (at 56) (more_stmts (express (call (n 3 47) (more_exprs (name (n 2 52)) no_exprs))) no_stmts)) (more_elses (else_if (at 63) (truth (at 66) false) (block (at 72) (at 83) (more_stmts (express (call (n 3 74) (more_exprs (name (n 2 79)) no_exprs))) no_stmts))) (otherwise (block (at 90) (at 92) no_stmts))))))))) ∷ []) ≡ fault 31 37
two_of_three_sides_drop = refl

-- struct S { } func main() { a = S(); if true { drop(a); } else if false { drop(a); } else { drop(a); } }
three_sides_drop : text (codes "S" ∷ codes "main" ∷ codes "a" ∷ codes "drop" ∷ []) (struct_item (n 0 8) [] ∷ function_item (function (head false (n 1 19) [] None) (block (at 26) (at 103) (more_stmts (declare (n 2 28) (call (n 0 32) no_exprs)) (last (form (branch (at 37) (truth (at 40) true) (block (at 45) (at 56) (more_stmts (express (call (n 3 47) (more_exprs (name (n 2 52)) no_exprs))) no_stmts)) (more_elses (else_if (at 63) (truth (at 66) false) (block (at 72) (at 83) (more_stmts (express (call (n 3 74) (more_exprs (name (n 2 79)) no_exprs))) no_stmts))) (otherwise (block (at 90) (at 101) (more_stmts (express (call (n 3 92) (more_exprs (name (n 2 97)) no_exprs))) no_stmts)))))))))) ∷ []) ≡ None
three_sides_drop = refl

-- struct S { } func main() { a = S(); if true { drop(a); return; } drop(a); }
a_side_that_drops_returns : text (codes "S" ∷ codes "main" ∷ codes "a" ∷ codes "drop" ∷ []) (struct_item (n 0 8) [] ∷ function_item (function (head false (n 1 19) [] None) (block (at 26) (at 75) (more_stmts (declare (n 2 28) (call (n 0 32) no_exprs)) (more_stmts (form_stmt (branch (at 37) (truth (at 40) true) (block (at 45) (at 64) (more_stmts (express (call (n 3 47) (more_exprs (name (n 2 52)) no_exprs))) (more_stmts (return_nothing (at 56)) no_stmts))) no_else)) (more_stmts (express (call (n 3 66) (more_exprs (name (n 2 71)) no_exprs))) no_stmts))))) ∷ []) ≡ None
a_side_that_drops_returns = refl

-- struct S { } func main() { a = S(); if true { drop(a); } else { drop(a); } drop(a); }
both_sides_drop_and_the_owner_is_named : text (codes "S" ∷ codes "main" ∷ codes "a" ∷ codes "drop" ∷ []) (struct_item (n 0 8) [] ∷ function_item (function (head false (n 1 19) [] None) (block (at 26) (at 85) (more_stmts (declare (n 2 28) (call (n 0 32) no_exprs)) (more_stmts (form_stmt (branch (at 37) (truth (at 40) true) (block (at 45) (at 56) (more_stmts (express (call (n 3 47) (more_exprs (name (n 2 52)) no_exprs))) no_stmts)) (otherwise (block (at 63) (at 74) (more_stmts (express (call (n 3 65) (more_exprs (name (n 2 70)) no_exprs))) no_stmts))))) (more_stmts (express (call (n 3 76) (more_exprs (name (n 2 81)) no_exprs))) no_stmts))))) ∷ []) ≡ fault 30 81
both_sides_drop_and_the_owner_is_named = refl

-- struct S { } func f(s S) bool { drop(s); return true; } func main() { a = S(); if f(a) { } drop(a); }
a_condition_moves : text (codes "S" ∷ codes "f" ∷ codes "s" ∷ codes "drop" ∷ codes "main" ∷ codes "a" ∷ []) (struct_item (n 0 8) [] ∷ function_item (function (head false (n 1 19) (param (n 2 21) (named_type (n 0 23)) ∷ []) (Some (bool_type (at 26)))) (block (at 31) (at 55) (more_stmts (express (call (n 3 33) (more_exprs (name (n 2 38)) no_exprs))) (more_stmts (return_value (at 42) (truth (at 49) true)) no_stmts)))) ∷ function_item (function (head false (n 4 62) [] None) (block (at 69) (at 101) (more_stmts (declare (n 5 71) (call (n 0 75) no_exprs)) (more_stmts (form_stmt (branch (at 80) (call (n 1 83) (more_exprs (name (n 5 85)) no_exprs)) (block (at 88) (at 90) no_stmts) no_else)) (more_stmts (express (call (n 3 92) (more_exprs (name (n 5 97)) no_exprs))) no_stmts))))) ∷ []) ≡ fault 30 97
a_condition_moves = refl

-- struct S { } func f(s S) bool { drop(s); return true; } func main() { a = S(); if true { } else if f(a) { } }
a_further_condition_moves : text (codes "S" ∷ codes "f" ∷ codes "s" ∷ codes "drop" ∷ codes "main" ∷ codes "a" ∷ []) (struct_item (n 0 8) [] ∷ function_item (function (head false (n 1 19) (param (n 2 21) (named_type (n 0 23)) ∷ []) (Some (bool_type (at 26)))) (block (at 31) (at 55) (more_stmts (express (call (n 3 33) (more_exprs (name (n 2 38)) no_exprs))) (more_stmts (return_value (at 42) (truth (at 49) true)) no_stmts)))) ∷ function_item (function (head false (n 4 62) [] None) (block (at 69) (at 109) (more_stmts (declare (n 5 71) (call (n 0 75) no_exprs)) (last (form (branch (at 80) (truth (at 83) true) (block (at 88) (at 90) no_stmts) (more_elses (else_if (at 97) (call (n 1 100) (more_exprs (name (n 5 102)) no_exprs)) (block (at 105) (at 107) no_stmts)) no_else))))))) ∷ []) ≡ fault 31 80
a_further_condition_moves = refl

-- struct S { } func f(s S) bool { drop(s); return true; } func main() { a = S(); if f(a) { return; } else { return; } drop(a); }
all_sides_return_behind_a_condition_that_moves : text (codes "S" ∷ codes "f" ∷ codes "s" ∷ codes "drop" ∷ codes "main" ∷ codes "a" ∷ []) (struct_item (n 0 8) [] ∷ function_item (function (head false (n 1 19) (param (n 2 21) (named_type (n 0 23)) ∷ []) (Some (bool_type (at 26)))) (block (at 31) (at 55) (more_stmts (express (call (n 3 33) (more_exprs (name (n 2 38)) no_exprs))) (more_stmts (return_value (at 42) (truth (at 49) true)) no_stmts)))) ∷ function_item (function (head false (n 4 62) [] None) (block (at 69) (at 126) (more_stmts (declare (n 5 71) (call (n 0 75) no_exprs)) (more_stmts (form_stmt (branch (at 80) (call (n 1 83) (more_exprs (name (n 5 85)) no_exprs)) (block (at 88) (at 98) (more_stmts (return_nothing (at 90)) no_stmts)) (otherwise (block (at 105) (at 115) (more_stmts (return_nothing (at 107)) no_stmts))))) (more_stmts (express (call (n 3 117) (more_exprs (name (n 5 122)) no_exprs))) no_stmts))))) ∷ []) ≡ None
all_sides_return_behind_a_condition_that_moves = refl

-- struct S { } func f(s S) bool { drop(s); return true; } func main() { a = S(); x = f(a) and true; }
the_first_operand_moves : text (codes "S" ∷ codes "f" ∷ codes "s" ∷ codes "drop" ∷ codes "main" ∷ codes "a" ∷ codes "x" ∷ []) (struct_item (n 0 8) [] ∷ function_item (function (head false (n 1 19) (param (n 2 21) (named_type (n 0 23)) ∷ []) (Some (bool_type (at 26)))) (block (at 31) (at 55) (more_stmts (express (call (n 3 33) (more_exprs (name (n 2 38)) no_exprs))) (more_stmts (return_value (at 42) (truth (at 49) true)) no_stmts)))) ∷ function_item (function (head false (n 4 62) [] None) (block (at 69) (at 99) (more_stmts (declare (n 5 71) (call (n 0 75) no_exprs)) (more_stmts (declare (n 6 80) (chain (call (n 1 84) (more_exprs (name (n 5 86)) no_exprs)) (more_links (link (at 89) And (truth (at 93) true)) no_links))) no_stmts)))) ∷ []) ≡ None
the_first_operand_moves = refl

-- struct S { } func f(s S) bool { drop(s); return true; } func main() { a = S(); x = true and f(a); }
the_second_operand_of_and_moves : text (codes "S" ∷ codes "f" ∷ codes "s" ∷ codes "drop" ∷ codes "main" ∷ codes "a" ∷ codes "x" ∷ []) (struct_item (n 0 8) [] ∷ function_item (function (head false (n 1 19) (param (n 2 21) (named_type (n 0 23)) ∷ []) (Some (bool_type (at 26)))) (block (at 31) (at 55) (more_stmts (express (call (n 3 33) (more_exprs (name (n 2 38)) no_exprs))) (more_stmts (return_value (at 42) (truth (at 49) true)) no_stmts)))) ∷ function_item (function (head false (n 4 62) [] None) (block (at 69) (at 99) (more_stmts (declare (n 5 71) (call (n 0 75) no_exprs)) (more_stmts (declare (n 6 80) (chain (truth (at 84) true) (more_links (link (at 89) And (call (n 1 93) (more_exprs (name (n 5 95)) no_exprs))) no_links))) no_stmts)))) ∷ []) ≡ fault 31 89
the_second_operand_of_and_moves = refl

-- struct S { } func f(s S) bool { drop(s); return true; } func main() { a = S(); x = true or f(a); }
the_second_operand_of_or_moves : text (codes "S" ∷ codes "f" ∷ codes "s" ∷ codes "drop" ∷ codes "main" ∷ codes "a" ∷ codes "x" ∷ []) (struct_item (n 0 8) [] ∷ function_item (function (head false (n 1 19) (param (n 2 21) (named_type (n 0 23)) ∷ []) (Some (bool_type (at 26)))) (block (at 31) (at 55) (more_stmts (express (call (n 3 33) (more_exprs (name (n 2 38)) no_exprs))) (more_stmts (return_value (at 42) (truth (at 49) true)) no_stmts)))) ∷ function_item (function (head false (n 4 62) [] None) (block (at 69) (at 98) (more_stmts (declare (n 5 71) (call (n 0 75) no_exprs)) (more_stmts (declare (n 6 80) (chain (truth (at 84) true) (more_links (link (at 89) Or (call (n 1 92) (more_exprs (name (n 5 94)) no_exprs))) no_links))) no_stmts)))) ∷ []) ≡ fault 31 89
the_second_operand_of_or_moves = refl

-- struct S { } func f(s S) bool { drop(s); return true; } func main() { x = true and if true { a = S(); f(a) } else { false }; }
the_second_operand_moves_a_local_of_its_own : text (codes "S" ∷ codes "f" ∷ codes "s" ∷ codes "drop" ∷ codes "main" ∷ codes "x" ∷ codes "a" ∷ []) (struct_item (n 0 8) [] ∷ function_item (function (head false (n 1 19) (param (n 2 21) (named_type (n 0 23)) ∷ []) (Some (bool_type (at 26)))) (block (at 31) (at 55) (more_stmts (express (call (n 3 33) (more_exprs (name (n 2 38)) no_exprs))) (more_stmts (return_value (at 42) (truth (at 49) true)) no_stmts)))) ∷ function_item (function (head false (n 4 62) [] None) (block (at 69) (at 126) (more_stmts (declare (n 5 71) (chain (truth (at 75) true) (more_links (link (at 80) And (form (branch (at 84) (truth (at 87) true) (block (at 92) (at 108) (more_stmts (declare (n 6 94) (call (n 0 98) no_exprs)) (last (call (n 1 103) (more_exprs (name (n 6 105)) no_exprs))))) (otherwise (block (at 115) (at 123) (last (truth (at 117) false))))))) no_links))) no_stmts))) ∷ []) ≡ None
the_second_operand_moves_a_local_of_its_own = refl

-- struct S { } func main() { a = S(); b = if true { a } else { S() }; }
a_value_is_moved_on_one_side : text (codes "S" ∷ codes "main" ∷ codes "a" ∷ codes "b" ∷ []) (struct_item (n 0 8) [] ∷ function_item (function (head false (n 1 19) [] None) (block (at 26) (at 69) (more_stmts (declare (n 2 28) (call (n 0 32) no_exprs)) (more_stmts (declare (n 3 37) (form (branch (at 41) (truth (at 44) true) (block (at 49) (at 53) (last (name (n 2 51)))) (otherwise (block (at 60) (at 66) (last (call (n 0 62) no_exprs))))))) no_stmts)))) ∷ []) ≡ fault 31 41
a_value_is_moved_on_one_side = refl

-- struct S { } func main() { a = S(); if true { drop(a); drop(a); } }
a_side_is_told_before_its_if : text (codes "S" ∷ codes "main" ∷ codes "a" ∷ codes "drop" ∷ []) (struct_item (n 0 8) [] ∷ function_item (function (head false (n 1 19) [] None) (block (at 26) (at 67) (more_stmts (declare (n 2 28) (call (n 0 32) no_exprs)) (last (form (branch (at 37) (truth (at 40) true) (block (at 45) (at 65) (more_stmts (express (call (n 3 47) (more_exprs (name (n 2 52)) no_exprs))) (more_stmts (express (call (n 3 56) (more_exprs (name (n 2 61)) no_exprs))) no_stmts))) no_else)))))) ∷ []) ≡ fault 30 61
a_side_is_told_before_its_if = refl

-- struct S { } func f(s S) bool { drop(s); return true; } func main() { a = S(); x = true and true and f(a); }
the_third_operand_moves : text (codes "S" ∷ codes "f" ∷ codes "s" ∷ codes "drop" ∷ codes "main" ∷ codes "a" ∷ codes "x" ∷ []) (struct_item (n 0 8) [] ∷ function_item (function (head false (n 1 19) (param (n 2 21) (named_type (n 0 23)) ∷ []) (Some (bool_type (at 26)))) (block (at 31) (at 55) (more_stmts (express (call (n 3 33) (more_exprs (name (n 2 38)) no_exprs))) (more_stmts (return_value (at 42) (truth (at 49) true)) no_stmts)))) ∷ function_item (function (head false (n 4 62) [] None) (block (at 69) (at 108) (more_stmts (declare (n 5 71) (call (n 0 75) no_exprs)) (more_stmts (declare (n 6 80) (chain (truth (at 84) true) (more_links (link (at 89) And (truth (at 93) true)) (more_links (link (at 98) And (call (n 1 102) (more_exprs (name (n 5 104)) no_exprs))) no_links)))) no_stmts)))) ∷ []) ≡ fault 31 98
the_third_operand_moves = refl

-- ---- loops

-- struct S { } func main() { a = S(); while true { drop(a); } }
a_body_moves : text (codes "S" ∷ codes "main" ∷ codes "a" ∷ codes "drop" ∷ []) (struct_item (n 0 8) [] ∷ function_item (function (head false (n 1 19) [] None) (block (at 26) (at 61) (more_stmts (declare (n 2 28) (call (n 0 32) no_exprs)) (more_stmts (while (at 37) (truth (at 43) true) (block (at 48) (at 59) (more_stmts (express (call (n 3 50) (more_exprs (name (n 2 55)) no_exprs))) no_stmts))) no_stmts)))) ∷ []) ≡ fault 32 37
a_body_moves = refl

-- struct S { } func main() { a = S(); while true { drop(a); return; } drop(a); }
a_body_that_returns_moves : text (codes "S" ∷ codes "main" ∷ codes "a" ∷ codes "drop" ∷ []) (struct_item (n 0 8) [] ∷ function_item (function (head false (n 1 19) [] None) (block (at 26) (at 78) (more_stmts (declare (n 2 28) (call (n 0 32) no_exprs)) (more_stmts (while (at 37) (truth (at 43) true) (block (at 48) (at 67) (more_stmts (express (call (n 3 50) (more_exprs (name (n 2 55)) no_exprs))) (more_stmts (return_nothing (at 59)) no_stmts)))) (more_stmts (express (call (n 3 69) (more_exprs (name (n 2 74)) no_exprs))) no_stmts))))) ∷ []) ≡ None
a_body_that_returns_moves = refl

-- struct S { } func main() { while true { a = S(); drop(a); } }
a_body_moves_a_local_of_its_own : text (codes "S" ∷ codes "main" ∷ codes "a" ∷ codes "drop" ∷ []) (struct_item (n 0 8) [] ∷ function_item (function (head false (n 1 19) [] None) (block (at 26) (at 61) (more_stmts (while (at 28) (truth (at 34) true) (block (at 39) (at 59) (more_stmts (declare (n 2 41) (call (n 0 45) no_exprs)) (more_stmts (express (call (n 3 50) (more_exprs (name (n 2 55)) no_exprs))) no_stmts)))) no_stmts))) ∷ []) ≡ None
a_body_moves_a_local_of_its_own = refl

-- struct S { } func f(s S) bool { drop(s); return true; } func main() { a = S(); while f(a) { return; } }
a_condition_of_a_loop_moves : text (codes "S" ∷ codes "f" ∷ codes "s" ∷ codes "drop" ∷ codes "main" ∷ codes "a" ∷ []) (struct_item (n 0 8) [] ∷ function_item (function (head false (n 1 19) (param (n 2 21) (named_type (n 0 23)) ∷ []) (Some (bool_type (at 26)))) (block (at 31) (at 55) (more_stmts (express (call (n 3 33) (more_exprs (name (n 2 38)) no_exprs))) (more_stmts (return_value (at 42) (truth (at 49) true)) no_stmts)))) ∷ function_item (function (head false (n 4 62) [] None) (block (at 69) (at 103) (more_stmts (declare (n 5 71) (call (n 0 75) no_exprs)) (more_stmts (while (at 80) (call (n 1 86) (more_exprs (name (n 5 88)) no_exprs)) (block (at 91) (at 101) (more_stmts (return_nothing (at 93)) no_stmts))) no_stmts)))) ∷ []) ≡ fault 32 80
a_condition_of_a_loop_moves = refl

-- struct S { } func main() { a = S(); foreach i in 0..2 { drop(a); } }
a_turn_of_foreach_moves : text (codes "S" ∷ codes "main" ∷ codes "a" ∷ codes "i" ∷ codes "drop" ∷ []) (struct_item (n 0 8) [] ∷ function_item (function (head false (n 1 19) [] None) (block (at 26) (at 68) (more_stmts (declare (n 2 28) (call (n 0 32) no_exprs)) (more_stmts (foreach (at 37) (n 3 45) (number (at 50) (pos 0)) (number (at 53) (pos 2)) (block (at 55) (at 66) (more_stmts (express (call (n 4 57) (more_exprs (name (n 2 62)) no_exprs))) no_stmts))) no_stmts)))) ∷ []) ≡ fault 32 37
a_turn_of_foreach_moves = refl

-- struct S { } func g(s S) int { drop(s); return 0; } func main() { a = S(); foreach i in 0..g(a) { } }
a_bound_of_foreach_moves : text (codes "S" ∷ codes "g" ∷ codes "s" ∷ codes "drop" ∷ codes "main" ∷ codes "a" ∷ codes "i" ∷ []) (struct_item (n 0 8) [] ∷ function_item (function (head false (n 1 19) (param (n 2 21) (named_type (n 0 23)) ∷ []) (Some (int_type (at 26)))) (block (at 30) (at 51) (more_stmts (express (call (n 3 32) (more_exprs (name (n 2 37)) no_exprs))) (more_stmts (return_value (at 41) (number (at 48) (pos 0))) no_stmts)))) ∷ function_item (function (head false (n 4 58) [] None) (block (at 65) (at 101) (more_stmts (declare (n 5 67) (call (n 0 71) no_exprs)) (more_stmts (foreach (at 76) (n 6 84) (number (at 89) (pos 0)) (call (n 1 92) (more_exprs (name (n 5 94)) no_exprs)) (block (at 97) (at 99) no_stmts)) no_stmts)))) ∷ []) ≡ None
a_bound_of_foreach_moves = refl

-- struct S { } func g(s S) int { drop(s); return 0; } func main() { a = S(); foreach i in 0..g(a) { drop(a); } }
a_bound_of_foreach_moves_what_is_named : text (codes "S" ∷ codes "g" ∷ codes "s" ∷ codes "drop" ∷ codes "main" ∷ codes "a" ∷ codes "i" ∷ []) (struct_item (n 0 8) [] ∷ function_item (function (head false (n 1 19) (param (n 2 21) (named_type (n 0 23)) ∷ []) (Some (int_type (at 26)))) (block (at 30) (at 51) (more_stmts (express (call (n 3 32) (more_exprs (name (n 2 37)) no_exprs))) (more_stmts (return_value (at 41) (number (at 48) (pos 0))) no_stmts)))) ∷ function_item (function (head false (n 4 58) [] None) (block (at 65) (at 110) (more_stmts (declare (n 5 67) (call (n 0 71) no_exprs)) (more_stmts (foreach (at 76) (n 6 84) (number (at 89) (pos 0)) (call (n 1 92) (more_exprs (name (n 5 94)) no_exprs)) (block (at 97) (at 108) (more_stmts (express (call (n 3 99) (more_exprs (name (n 5 104)) no_exprs))) no_stmts))) no_stmts)))) ∷ []) ≡ fault 30 104
a_bound_of_foreach_moves_what_is_named = refl

-- struct S { } func main() { a = S(); while true { if true { drop(a); return; } } }
a_body_moves_where_it_returns : text (codes "S" ∷ codes "main" ∷ codes "a" ∷ codes "drop" ∷ []) (struct_item (n 0 8) [] ∷ function_item (function (head false (n 1 19) [] None) (block (at 26) (at 81) (more_stmts (declare (n 2 28) (call (n 0 32) no_exprs)) (more_stmts (while (at 37) (truth (at 43) true) (block (at 48) (at 79) (last (form (branch (at 50) (truth (at 53) true) (block (at 58) (at 77) (more_stmts (express (call (n 3 60) (more_exprs (name (n 2 65)) no_exprs))) (more_stmts (return_nothing (at 69)) no_stmts))) no_else))))) no_stmts)))) ∷ []) ≡ None
a_body_moves_where_it_returns = refl

-- struct S { } func main() { a = []iso S(iso { S() }); parallel foreach x in a { drop(x); } }
an_iteration_drops_its_isolate : text (codes "S" ∷ codes "main" ∷ codes "a" ∷ codes "x" ∷ codes "drop" ∷ []) (struct_item (n 0 8) [] ∷ function_item (function (head false (n 1 19) [] None) (block (at 26) (at 91) (more_stmts (declare (n 2 28) (array (at 32) (iso_type (at 34) (named_type (n 0 38))) (more_exprs (iso (at 40) (block (at 44) (at 50) (last (call (n 0 46) no_exprs)))) no_exprs))) (last (form (parallel_each (at 54) (n 3 71) (name (n 2 76)) (block (at 78) (at 89) (more_stmts (express (call (n 4 80) (more_exprs (name (n 3 85)) no_exprs))) no_stmts)))))))) ∷ []) ≡ None
an_iteration_drops_its_isolate = refl

-- struct S { } func main() { a = []iso S(iso { S() }); parallel foreach x in a { drop(x); } drop(a); }
isolates_are_handed_out_and_dropped : text (codes "S" ∷ codes "main" ∷ codes "a" ∷ codes "x" ∷ codes "drop" ∷ []) (struct_item (n 0 8) [] ∷ function_item (function (head false (n 1 19) [] None) (block (at 26) (at 100) (more_stmts (declare (n 2 28) (array (at 32) (iso_type (at 34) (named_type (n 0 38))) (more_exprs (iso (at 40) (block (at 44) (at 50) (last (call (n 0 46) no_exprs)))) no_exprs))) (more_stmts (form_stmt (parallel_each (at 54) (n 3 71) (name (n 2 76)) (block (at 78) (at 89) (more_stmts (express (call (n 4 80) (more_exprs (name (n 3 85)) no_exprs))) no_stmts)))) (more_stmts (express (call (n 4 91) (more_exprs (name (n 2 96)) no_exprs))) no_stmts))))) ∷ []) ≡ fault 30 96
isolates_are_handed_out_and_dropped = refl

-- ---- destructors

-- struct S { } func drop(self S) { [] = self; } func main() { }
a_destructor_takes_apart : text (codes "S" ∷ codes "drop" ∷ codes "self" ∷ codes "main" ∷ []) (struct_item (n 0 8) [] ∷ function_item (function (head false (n 1 19) (param (n 2 24) (named_type (n 0 29)) ∷ []) None) (block (at 32) (at 45) (more_stmts (destructure (at 34) [] (name (n 2 39))) no_stmts))) ∷ function_item (function (head false (n 3 52) [] None) (block (at 59) (at 61) no_stmts)) ∷ []) ≡ None
a_destructor_takes_apart = refl

-- struct S { } func drop(self S) { } func main() { }
a_destructor_does_nothing : text (codes "S" ∷ codes "drop" ∷ codes "self" ∷ codes "main" ∷ []) (struct_item (n 0 8) [] ∷ function_item (function (head false (n 1 19) (param (n 2 24) (named_type (n 0 29)) ∷ []) None) (block (at 32) (at 34) no_stmts)) ∷ function_item (function (head false (n 3 41) [] None) (block (at 48) (at 50) no_stmts)) ∷ []) ≡ fault 33 19
a_destructor_does_nothing = refl

-- struct S { } func drop(self S) { [] = (self); } func main() { }
a_destructor_takes_apart_in_parentheses : text (codes "S" ∷ codes "drop" ∷ codes "self" ∷ codes "main" ∷ []) (struct_item (n 0 8) [] ∷ function_item (function (head false (n 1 19) (param (n 2 24) (named_type (n 0 29)) ∷ []) None) (block (at 32) (at 47) (more_stmts (destructure (at 34) [] (paren (at 39) (name (n 2 40)))) no_stmts))) ∷ function_item (function (head false (n 3 54) [] None) (block (at 61) (at 63) no_stmts)) ∷ []) ≡ fault 33 19
a_destructor_takes_apart_in_parentheses = refl

-- struct S { } func drop(self S) { x = self; [] = x; } func main() { }
a_destructor_moves : text (codes "S" ∷ codes "drop" ∷ codes "self" ∷ codes "x" ∷ codes "main" ∷ []) (struct_item (n 0 8) [] ∷ function_item (function (head false (n 1 19) (param (n 2 24) (named_type (n 0 29)) ∷ []) None) (block (at 32) (at 52) (more_stmts (declare (n 3 34) (name (n 2 38))) (more_stmts (destructure (at 44) [] (name (n 3 49))) no_stmts)))) ∷ function_item (function (head false (n 4 59) [] None) (block (at 66) (at 68) no_stmts)) ∷ []) ≡ fault 33 19
a_destructor_moves = refl

-- struct S { } func drop(self S) { if true { return; } [] = self; } func main() { }
a_destructor_returns_early : text (codes "S" ∷ codes "drop" ∷ codes "self" ∷ codes "main" ∷ []) (struct_item (n 0 8) [] ∷ function_item (function (head false (n 1 19) (param (n 2 24) (named_type (n 0 29)) ∷ []) None) (block (at 32) (at 65) (more_stmts (form_stmt (branch (at 34) (truth (at 37) true) (block (at 42) (at 52) (more_stmts (return_nothing (at 44)) no_stmts)) no_else)) (more_stmts (destructure (at 54) [] (name (n 2 59))) no_stmts)))) ∷ function_item (function (head false (n 3 72) [] None) (block (at 79) (at 81) no_stmts)) ∷ []) ≡ None
a_destructor_returns_early = refl

-- struct S { } func drop(self S) { if true { [] = self; } } func main() { }
a_destructor_takes_apart_on_one_side : text (codes "S" ∷ codes "drop" ∷ codes "self" ∷ codes "main" ∷ []) (struct_item (n 0 8) [] ∷ function_item (function (head false (n 1 19) (param (n 2 24) (named_type (n 0 29)) ∷ []) None) (block (at 32) (at 57) (last (form (branch (at 34) (truth (at 37) true) (block (at 42) (at 55) (more_stmts (destructure (at 44) [] (name (n 2 49))) no_stmts)) no_else))))) ∷ function_item (function (head false (n 3 64) [] None) (block (at 71) (at 73) no_stmts)) ∷ []) ≡ fault 31 34
a_destructor_takes_apart_on_one_side = refl

-- struct S { } func drop(self S) { [] = self; [] = self; } func main() { }
a_destructor_takes_apart_twice : text (codes "S" ∷ codes "drop" ∷ codes "self" ∷ codes "main" ∷ []) (struct_item (n 0 8) [] ∷ function_item (function (head false (n 1 19) (param (n 2 24) (named_type (n 0 29)) ∷ []) None) (block (at 32) (at 56) (more_stmts (destructure (at 34) [] (name (n 2 39))) (more_stmts (destructure (at 45) [] (name (n 2 50))) no_stmts)))) ∷ function_item (function (head false (n 3 63) [] None) (block (at 70) (at 72) no_stmts)) ∷ []) ≡ fault 30 50
a_destructor_takes_apart_twice = refl

-- interface I { func drop(self &I); } struct S { } impl I for S { func drop(self &S) { } } func main() { }
a_method_is_no_destructor : text (codes "I" ∷ codes "drop" ∷ codes "self" ∷ codes "S" ∷ codes "main" ∷ []) (interface_item (n 0 11) (head false (n 1 20) (param (n 2 25) (ref_type (at 30) (named_type (n 0 31))) ∷ []) None ∷ []) ∷ struct_item (n 3 44) [] ∷ impl_item (at 50) (n 0 55) (n 3 61) (function (head false (n 1 70) (param (n 2 75) (ref_type (at 80) (named_type (n 3 81))) ∷ []) None) (block (at 84) (at 86) no_stmts) ∷ []) ∷ function_item (function (head false (n 4 95) [] None) (block (at 102) (at 104) no_stmts)) ∷ []) ≡ None
a_method_is_no_destructor = refl
