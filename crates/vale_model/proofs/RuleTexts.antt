-- What single rules do, by computation, in programs that show one of them each. A program stands here as its tree.
use Rattle.std.proofs.Common.{◌≡◌, ℕ, [], ◌∷◌, Option, Some, None, refl}
use Rattle.std.specs.Prelude.{true, false, codes, pos}
use Rattle.vale_state_spec.specs.Outcome.{Outcome, Trap}
use Rattle.vale_state_spec.specs.State.{numbers, lines}
use Rattle.vale_base.specs.declared.trap.TrapKind.TheVariants.{DivisionByZero, DeadReference, IndexOutOfRange, EmptyPop, NotANumber, CallDepth, LoopTooWide}
use Rattle.vale_syntax.specs.declared.tree.BinaryOp.TheVariants.{Or, And, Equal, Less, Add, Sub, Mul, Div, Rem}
use Rattle.vale_syntax.specs.declared.tree.UnaryOp.TheVariants.{Minus, Not, Borrow}
use Rattle.vale_rules_spec.specs.Judged.{Judged, fine, faulty}
use Rattle.vale_rules_spec.specs.Typing.{typed}
use Rattle.vale_rules_spec.specs.Typed.{Typed}
use Rattle.vale_syntax.specs.Tree.{int_type, bool_type, named_type, array_type, ref_type, imm_ref_type, set, chain, unary, steps, number, quote, truth, name, call, array, iso, form, no_exprs, more_exprs, link, no_links, more_links, field, method, index, no_steps, more_steps, branch, pure, parallel_range, no_else, otherwise, block, declare, destructure, return_nothing, return_value, foreach, form_stmt, express, no_stmts, last, more_stmts, param, head, function, field_decl, struct_item, interface_item, impl_item, function_item, Tree, tree}
use Rattle.vale_model.proofs.Programs.{at, n, run, run_on, piece, frame, in_main, done, cut, trapped, line, text_line, times, live_after, need_of}
use Rattle.std.specs.Prelude.{negsuc, Ok, Err}
use Rattle.vale_state_spec.specs.State.{begin, function_frame}
use Rattle.vale_model.specs.Expressions.{called}
use Rattle.vale_model.specs.Input.{taken, takes_numbers, takes_lines}
use Rattle.vale_model.specs.Meaning.{level, outcome_of}
use Rattle.vale_model.specs.Parts.{parts_of, function_named}

-- struct S { n int; }
-- func drop(self S) { [n] = self; println(n); }
-- func g(a S, b int) { }
-- func f(c bool) {
--   x = S(1);
--   g(S(2), if c { y = S(3); if c { return; } 1 } else { 4 });
-- }
-- func main() { f(true); }
abbrev waiting : Tree
waiting = tree (codes "S" ∷ codes "n" ∷ codes "drop" ∷ codes "self" ∷ codes "println" ∷ codes "g" ∷ codes "a" ∷ codes "b" ∷ codes "f" ∷ codes "c" ∷ codes "x" ∷ codes "y" ∷ codes "main" ∷ []) (struct_item (n 0 1 8) (field_decl (n 1 1 12) false (int_type (at 1 14)) ∷ []) ∷ function_item (function (head false (n 2 2 6) (param (n 3 2 11) (named_type (n 0 2 16)) ∷ []) None) (block (at 2 19) (at 2 45) (more_stmts (destructure (at 2 21) ((n 1 2 22) ∷ []) (name (n 3 2 27))) (more_stmts (express (call (n 4 2 33) (more_exprs (name (n 1 2 41)) no_exprs))) no_stmts)))) ∷ function_item (function (head false (n 5 3 6) (param (n 6 3 8) (named_type (n 0 3 10)) ∷ param (n 7 3 13) (int_type (at 3 15)) ∷ []) None) (block (at 3 20) (at 3 22) no_stmts)) ∷ function_item (function (head false (n 8 4 6) (param (n 9 4 8) (bool_type (at 4 10)) ∷ []) None) (block (at 4 16) (at 7 1) (more_stmts (declare (n 10 5 3) (call (n 0 5 7) (more_exprs (number (at 5 9) (pos 1)) no_exprs))) (more_stmts (express (call (n 5 6 3) (more_exprs (call (n 0 6 5) (more_exprs (number (at 6 7) (pos 2)) no_exprs)) (more_exprs (form (branch (at 6 11) (name (n 9 6 14)) (block (at 6 16) (at 6 47) (more_stmts (declare (n 11 6 18) (call (n 0 6 22) (more_exprs (number (at 6 24) (pos 3)) no_exprs))) (more_stmts (form_stmt (branch (at 6 28) (name (n 9 6 31)) (block (at 6 33) (at 6 43) (more_stmts (return_nothing (at 6 35)) no_stmts)) no_else)) (last (number (at 6 45) (pos 1)))))) (otherwise (block (at 6 54) (at 6 58) (last (number (at 6 56) (pos 4))))))) no_exprs)))) no_stmts)))) ∷ function_item (function (head false (n 12 8 6) ([]) None) (block (at 8 13) (at 8 24) (more_stmts (express (call (n 8 8 15) (more_exprs (truth (at 8 17) true) no_exprs))) no_stmts))) ∷ [])

a_return_drops_values_that_wait : run waiting 1000 ≡ done 11 (piece 7 (line 3) ∷ piece 9 (line 2) ∷ piece 11 (line 1) ∷ [])
a_return_drops_values_that_wait = refl

-- func f(a []int) int { return 0; }
-- func main() {
--   a = []int(5);
--   println(a[f(a)]);
-- }
abbrev own_index : Tree
own_index = tree (codes "f" ∷ codes "a" ∷ codes "main" ∷ codes "println" ∷ []) (function_item (function (head false (n 0 1 6) (param (n 1 1 8) (array_type (at 1 10) (int_type (at 1 12))) ∷ []) (Some (int_type (at 1 17)))) (block (at 1 21) (at 1 33) (more_stmts (return_value (at 1 23) (number (at 1 30) (pos 0))) no_stmts))) ∷ function_item (function (head false (n 2 2 6) ([]) None) (block (at 2 13) (at 5 1) (more_stmts (declare (n 1 3 3) (array (at 3 7) (int_type (at 3 9)) (more_exprs (number (at 3 13) (pos 5)) no_exprs))) (more_stmts (express (call (n 3 4 3) (more_exprs (steps (name (n 1 4 11)) (more_steps (index (at 4 12) (call (n 0 4 13) (more_exprs (name (n 1 4 15)) no_exprs))) no_steps)) no_exprs))) no_stmts)))) ∷ [])

an_index_takes_its_base_away : run own_index 1000 ≡ trapped 4 ([]) DeadReference (at 4 12) (in_main ∷ [])
an_index_takes_its_base_away = refl

-- interface Craft {
--   pure func score(self &imm Craft, k int) int;
--   func refuel(self &Craft, n int);
-- }
-- struct Tug { fuel! int; }
-- struct Liner { fuel! int; seats int; }
-- impl Craft for Tug {
--   pure func score(self &imm Tug, k int) int { return self.fuel + k; }
--   func refuel(self &Tug, n int) { set self.fuel = self.fuel + n; }
-- }
-- impl Craft for Liner {
--   pure func score(self &imm Liner, k int) int { return self.fuel * self.seats + k; }
--   func refuel(self &Liner, n int) { set self.fuel = self.fuel + n - self.seats; }
-- }
-- func main() {
--   fleet = []Craft(Tug(3), Liner(4, 2));
--   foreach i in 0..2 {
--     fleet[i].refuel(5);
--     println(fleet[i].score(i));
--   }
--   r = &fleet[1];
--   drop(pop(&fleet));
--   r.refuel(1);
-- }
abbrev fleet : Tree
fleet = tree (codes "Craft" ∷ codes "score" ∷ codes "self" ∷ codes "k" ∷ codes "refuel" ∷ codes "n" ∷ codes "Tug" ∷ codes "fuel" ∷ codes "Liner" ∷ codes "seats" ∷ codes "main" ∷ codes "fleet" ∷ codes "i" ∷ codes "println" ∷ codes "r" ∷ codes "drop" ∷ codes "pop" ∷ []) (interface_item (n 0 1 11) (head true (n 1 2 13) (param (n 2 2 19) (imm_ref_type (at 2 24) (named_type (n 0 2 29))) ∷ param (n 3 2 36) (int_type (at 2 38)) ∷ []) (Some (int_type (at 2 43))) ∷ head false (n 4 3 8) (param (n 2 3 15) (ref_type (at 3 20) (named_type (n 0 3 21))) ∷ param (n 5 3 28) (int_type (at 3 30)) ∷ []) None ∷ []) ∷ struct_item (n 6 5 8) (field_decl (n 7 5 14) true (int_type (at 5 20)) ∷ []) ∷ struct_item (n 8 6 8) (field_decl (n 7 6 16) true (int_type (at 6 22)) ∷ field_decl (n 9 6 27) false (int_type (at 6 33)) ∷ []) ∷ impl_item (at 7 1) (n 0 7 6) (n 6 7 16) (function (head true (n 1 8 13) (param (n 2 8 19) (imm_ref_type (at 8 24) (named_type (n 6 8 29))) ∷ param (n 3 8 34) (int_type (at 8 36)) ∷ []) (Some (int_type (at 8 41)))) (block (at 8 45) (at 8 69) (more_stmts (return_value (at 8 47) (chain (steps (name (n 2 8 54)) (more_steps (field (at 8 58) (record { 0 = 7 })) no_steps)) (more_links (link (at 8 64) Add (name (n 3 8 66))) no_links))) no_stmts)) ∷ function (head false (n 4 9 8) (param (n 2 9 15) (ref_type (at 9 20) (named_type (n 6 9 21))) ∷ param (n 5 9 26) (int_type (at 9 28)) ∷ []) None) (block (at 9 33) (at 9 66) (more_stmts (express (set (at 9 35) (steps (name (n 2 9 39)) (more_steps (field (at 9 43) (record { 0 = 7 })) no_steps)) (chain (steps (name (n 2 9 51)) (more_steps (field (at 9 55) (record { 0 = 7 })) no_steps)) (more_links (link (at 9 61) Add (name (n 5 9 63))) no_links)))) no_stmts)) ∷ []) ∷ impl_item (at 11 1) (n 0 11 6) (n 8 11 16) (function (head true (n 1 12 13) (param (n 2 12 19) (imm_ref_type (at 12 24) (named_type (n 8 12 29))) ∷ param (n 3 12 36) (int_type (at 12 38)) ∷ []) (Some (int_type (at 12 43)))) (block (at 12 47) (at 12 84) (more_stmts (return_value (at 12 49) (chain (chain (steps (name (n 2 12 56)) (more_steps (field (at 12 60) (record { 0 = 7 })) no_steps)) (more_links (link (at 12 66) Mul (steps (name (n 2 12 68)) (more_steps (field (at 12 72) (record { 0 = 9 })) no_steps))) no_links)) (more_links (link (at 12 79) Add (name (n 3 12 81))) no_links))) no_stmts)) ∷ function (head false (n 4 13 8) (param (n 2 13 15) (ref_type (at 13 20) (named_type (n 8 13 21))) ∷ param (n 5 13 28) (int_type (at 13 30)) ∷ []) None) (block (at 13 35) (at 13 81) (more_stmts (express (set (at 13 37) (steps (name (n 2 13 41)) (more_steps (field (at 13 45) (record { 0 = 7 })) no_steps)) (chain (steps (name (n 2 13 53)) (more_steps (field (at 13 57) (record { 0 = 7 })) no_steps)) (more_links (link (at 13 63) Add (name (n 5 13 65))) (more_links (link (at 13 67) Sub (steps (name (n 2 13 69)) (more_steps (field (at 13 73) (record { 0 = 9 })) no_steps))) no_links))))) no_stmts)) ∷ []) ∷ function_item (function (head false (n 10 15 6) ([]) None) (block (at 15 13) (at 24 1) (more_stmts (declare (n 11 16 3) (array (at 16 11) (named_type (n 0 16 13)) (more_exprs (call (n 6 16 19) (more_exprs (number (at 16 23) (pos 3)) no_exprs)) (more_exprs (call (n 8 16 27) (more_exprs (number (at 16 33) (pos 4)) (more_exprs (number (at 16 36) (pos 2)) no_exprs))) no_exprs)))) (more_stmts (foreach (at 17 3) (n 12 17 11) (number (at 17 16) (pos 0)) (number (at 17 19) (pos 2)) (block (at 17 21) (at 20 3) (more_stmts (express (steps (name (n 11 18 5)) (more_steps (index (at 18 10) (name (n 12 18 11))) (more_steps (method (at 18 13) (record { 0 = 4 }) (more_exprs (number (at 18 21) (pos 5)) no_exprs)) no_steps)))) (more_stmts (express (call (n 13 19 5) (more_exprs (steps (name (n 11 19 13)) (more_steps (index (at 19 18) (name (n 12 19 19))) (more_steps (method (at 19 21) (record { 0 = 1 }) (more_exprs (name (n 12 19 28)) no_exprs)) no_steps))) no_exprs))) no_stmts)))) (more_stmts (declare (n 14 21 3) (unary (at 21 7) Borrow (steps (name (n 11 21 8)) (more_steps (index (at 21 13) (number (at 21 14) (pos 1))) no_steps)))) (more_stmts (express (call (n 15 22 3) (more_exprs (call (n 16 22 8) (more_exprs (unary (at 22 12) Borrow (name (n 11 22 13))) no_exprs)) no_exprs))) (more_stmts (express (steps (name (n 14 23 3)) (more_steps (method (at 23 4) (record { 0 = 4 }) (more_exprs (number (at 23 12) (pos 1)) no_exprs)) no_steps))) no_stmts))))))) ∷ [])

each_struct_has_its_methods : run fleet 1000 ≡ trapped 11 (piece 7 (line 8) ∷ piece 10 (line 15) ∷ []) DeadReference (at 23 4) (in_main ∷ [])
each_struct_has_its_methods = refl

-- struct Node { next! []Node; }
-- func main() {
--   n = pure {
--     a = Node([]Node());
--     r = &a;
--     set r.next = []Node(a);
--     1
--   };
--   println(n);
-- }
abbrev circle : Tree
circle = tree (codes "Node" ∷ codes "next" ∷ codes "main" ∷ codes "n" ∷ codes "a" ∷ codes "r" ∷ codes "println" ∷ []) (struct_item (n 0 1 8) (field_decl (n 1 1 15) true (array_type (at 1 21) (named_type (n 0 1 23))) ∷ []) ∷ function_item (function (head false (n 2 2 6) ([]) None) (block (at 2 13) (at 10 1) (more_stmts (declare (n 3 3 3) (form (pure (at 3 7) (block (at 3 12) (at 8 3) (more_stmts (declare (n 4 4 5) (call (n 0 4 9) (more_exprs (array (at 4 14) (named_type (n 0 4 16)) no_exprs) no_exprs))) (more_stmts (declare (n 5 5 5) (unary (at 5 9) Borrow (name (n 4 5 10)))) (more_stmts (express (set (at 6 5) (steps (name (n 5 6 9)) (more_steps (field (at 6 10) (record { 0 = 1 })) no_steps)) (array (at 6 18) (named_type (n 0 6 20)) (more_exprs (name (n 4 6 25)) no_exprs)))) (last (number (at 7 5) (pos 1)))))))))) (more_stmts (express (call (n 6 9 3) (more_exprs (name (n 3 9 11)) no_exprs))) no_stmts)))) ∷ [])

a_region_is_cleared : run circle 1000 ≡ done 5 (piece 5 (line 1) ∷ [])
a_region_is_cleared = refl

nothing_lives_in_a_cleared_region : live_after circle 1000 ≡ Some 0
nothing_lives_in_a_cleared_region = refl

-- struct S { n int; }
-- func drop(self S) { [n] = self; println(n); }
-- func main() { x = iso { S(1) }; y = iso { S(2) }; drop(x); }
abbrev isolates : Tree
isolates = tree (codes "S" ∷ codes "n" ∷ codes "drop" ∷ codes "self" ∷ codes "println" ∷ codes "main" ∷ codes "x" ∷ codes "y" ∷ []) (struct_item (n 0 1 8) (field_decl (n 1 1 12) false (int_type (at 1 14)) ∷ []) ∷ function_item (function (head false (n 2 2 6) (param (n 3 2 11) (named_type (n 0 2 16)) ∷ []) None) (block (at 2 19) (at 2 45) (more_stmts (destructure (at 2 21) ((n 1 2 22) ∷ []) (name (n 3 2 27))) (more_stmts (express (call (n 4 2 33) (more_exprs (name (n 1 2 41)) no_exprs))) no_stmts)))) ∷ function_item (function (head false (n 5 3 6) ([]) None) (block (at 3 13) (at 3 60) (more_stmts (declare (n 6 3 15) (iso (at 3 19) (block (at 3 23) (at 3 30) (last (call (n 0 3 25) (more_exprs (number (at 3 27) (pos 1)) no_exprs)))))) (more_stmts (declare (n 7 3 33) (iso (at 3 37) (block (at 3 41) (at 3 48) (last (call (n 0 3 43) (more_exprs (number (at 3 45) (pos 2)) no_exprs)))))) (more_stmts (express (call (n 2 3 51) (more_exprs (name (n 6 3 56)) no_exprs))) no_stmts))))) ∷ [])

isolates_are_dropped : run isolates 1000 ≡ done 7 (piece 5 (line 1) ∷ piece 7 (line 2) ∷ [])
isolates_are_dropped = refl

-- func t(x int) bool { println(x); return true; }
-- func main() {
--   println(not t(1) and t(2));
--   println(t(3) or t(4));
-- }
abbrev early : Tree
early = tree (codes "t" ∷ codes "x" ∷ codes "println" ∷ codes "main" ∷ []) (function_item (function (head false (n 0 1 6) (param (n 1 1 8) (int_type (at 1 10)) ∷ []) (Some (bool_type (at 1 15)))) (block (at 1 20) (at 1 47) (more_stmts (express (call (n 2 1 22) (more_exprs (name (n 1 1 30)) no_exprs))) (more_stmts (return_value (at 1 34) (truth (at 1 41) true)) no_stmts)))) ∷ function_item (function (head false (n 3 2 6) ([]) None) (block (at 2 13) (at 5 1) (more_stmts (express (call (n 2 3 3) (more_exprs (chain (unary (at 3 11) Not (call (n 0 3 15) (more_exprs (number (at 3 17) (pos 1)) no_exprs))) (more_links (link (at 3 20) And (call (n 0 3 24) (more_exprs (number (at 3 26) (pos 2)) no_exprs))) no_links)) no_exprs))) (more_stmts (express (call (n 2 4 3) (more_exprs (chain (call (n 0 4 11) (more_exprs (number (at 4 13) (pos 3)) no_exprs)) (more_links (link (at 4 16) Or (call (n 0 4 19) (more_exprs (number (at 4 21) (pos 4)) no_exprs))) no_links)) no_exprs))) no_stmts)))) ∷ [])

and_and_or_stop_early : run early 1000 ≡ done 3 (piece 2 (line 1) ∷ piece 2 (text_line (codes "false")) ∷ piece 3 (line 3) ∷ piece 3 (text_line (codes "true")) ∷ [])
and_and_or_stop_early = refl

-- func main() {
--   println("ab" + "c" < "abd");
--   println(slice("hello", 1, 3));
--   println(byte("a", 0));
--   println(text(5));
-- }
abbrev texts : Tree
texts = tree (codes "main" ∷ codes "println" ∷ codes "slice" ∷ codes "byte" ∷ codes "text" ∷ []) (function_item (function (head false (n 0 1 6) ([]) None) (block (at 1 13) (at 6 1) (more_stmts (express (call (n 1 2 3) (more_exprs (chain (chain (quote (at 2 11) (codes "ab")) (more_links (link (at 2 16) Add (quote (at 2 18) (codes "c"))) no_links)) (more_links (link (at 2 22) Less (quote (at 2 24) (codes "abd"))) no_links)) no_exprs))) (more_stmts (express (call (n 1 3 3) (more_exprs (call (n 2 3 11) (more_exprs (quote (at 3 17) (codes "hello")) (more_exprs (number (at 3 26) (pos 1)) (more_exprs (number (at 3 29) (pos 3)) no_exprs)))) no_exprs))) (more_stmts (express (call (n 1 4 3) (more_exprs (call (n 3 4 11) (more_exprs (quote (at 4 16) (codes "a")) (more_exprs (number (at 4 21) (pos 0)) no_exprs))) no_exprs))) (more_stmts (express (call (n 1 5 3) (more_exprs (call (n 4 5 11) (more_exprs (number (at 5 16) (pos 5)) no_exprs)) no_exprs))) no_stmts)))))) ∷ [])

texts_are_compared_by_bytes : run texts 1000 ≡ done 1 (piece 1 (text_line (codes "true")) ∷ piece 1 (text_line (codes "el")) ∷ piece 1 (line 97) ∷ piece 1 (line 5) ∷ [])
texts_are_compared_by_bytes = refl

-- func main() {
--   println(len("xyz") - number("2") * 3 % 4);
--   println(is_number("-0") == is_number("-"));
-- }
abbrev numerals : Tree
numerals = tree (codes "main" ∷ codes "println" ∷ codes "len" ∷ codes "number" ∷ codes "is_number" ∷ []) (function_item (function (head false (n 0 1 6) ([]) None) (block (at 1 13) (at 4 1) (more_stmts (express (call (n 1 2 3) (more_exprs (chain (call (n 2 2 11) (more_exprs (quote (at 2 15) (codes "xyz")) no_exprs)) (more_links (link (at 2 22) Sub (chain (call (n 3 2 24) (more_exprs (quote (at 2 31) (codes "2")) no_exprs)) (more_links (link (at 2 36) Mul (number (at 2 38) (pos 3))) (more_links (link (at 2 40) Rem (number (at 2 42) (pos 4))) no_links)))) no_links)) no_exprs))) (more_stmts (express (call (n 1 3 3) (more_exprs (chain (call (n 4 3 11) (more_exprs (quote (at 3 21) (codes "-0")) no_exprs)) (more_links (link (at 3 27) Equal (call (n 4 3 30) (more_exprs (quote (at 3 40) (codes "-")) no_exprs))) no_links)) no_exprs))) no_stmts)))) ∷ [])

operators_in_their_order : run numerals 1000 ≡ done 1 (piece 1 (line 1) ∷ piece 1 (text_line (codes "false")) ∷ [])
operators_in_their_order = refl

-- struct S { n! int; }
-- func main() {
--   a = S(1);
--   r = &a;
--   drop(a);
--   set r.n = 1 / 0;
-- }
abbrev value_first : Tree
value_first = tree (codes "S" ∷ codes "n" ∷ codes "main" ∷ codes "a" ∷ codes "r" ∷ codes "drop" ∷ []) (struct_item (n 0 1 8) (field_decl (n 1 1 12) true (int_type (at 1 15)) ∷ []) ∷ function_item (function (head false (n 2 2 6) ([]) None) (block (at 2 13) (at 7 1) (more_stmts (declare (n 3 3 3) (call (n 0 3 7) (more_exprs (number (at 3 9) (pos 1)) no_exprs))) (more_stmts (declare (n 4 4 3) (unary (at 4 7) Borrow (name (n 3 4 8)))) (more_stmts (express (call (n 5 5 3) (more_exprs (name (n 3 5 8)) no_exprs))) (more_stmts (express (set (at 6 3) (steps (name (n 4 6 7)) (more_steps (field (at 6 8) (record { 0 = 1 })) no_steps)) (chain (number (at 6 13) (pos 1)) (more_links (link (at 6 15) Div (number (at 6 17) (pos 0))) no_links)))) no_stmts)))))) ∷ [])

the_value_is_set_before_the_place : run value_first 1000 ≡ trapped 3 ([]) DivisionByZero (at 6 15) (in_main ∷ [])
the_value_is_set_before_the_place = refl

-- struct S { n! int; }
-- func main() {
--   a = S(1);
--   r = &a;
--   drop(a);
--   set r.n = 2;
-- }
abbrev dead_place : Tree
dead_place = tree (codes "S" ∷ codes "n" ∷ codes "main" ∷ codes "a" ∷ codes "r" ∷ codes "drop" ∷ []) (struct_item (n 0 1 8) (field_decl (n 1 1 12) true (int_type (at 1 15)) ∷ []) ∷ function_item (function (head false (n 2 2 6) ([]) None) (block (at 2 13) (at 7 1) (more_stmts (declare (n 3 3 3) (call (n 0 3 7) (more_exprs (number (at 3 9) (pos 1)) no_exprs))) (more_stmts (declare (n 4 4 3) (unary (at 4 7) Borrow (name (n 3 4 8)))) (more_stmts (express (call (n 5 5 3) (more_exprs (name (n 3 5 8)) no_exprs))) (more_stmts (express (set (at 6 3) (steps (name (n 4 6 7)) (more_steps (field (at 6 8) (record { 0 = 1 })) no_steps)) (number (at 6 13) (pos 2)))) no_stmts)))))) ∷ [])

a_dead_place_is_set : run dead_place 1000 ≡ trapped 3 ([]) DeadReference (at 6 8) (in_main ∷ [])
a_dead_place_is_set = refl

-- func main() { foreach i in 0..3 { println(i); set i = 7; } }
abbrev turns : Tree
turns = tree (codes "main" ∷ codes "i" ∷ codes "println" ∷ []) (function_item (function (head false (n 0 1 6) ([]) None) (block (at 1 13) (at 1 60) (more_stmts (foreach (at 1 15) (n 1 1 23) (number (at 1 28) (pos 0)) (number (at 1 31) (pos 3)) (block (at 1 33) (at 1 58) (more_stmts (express (call (n 2 1 35) (more_exprs (name (n 1 1 43)) no_exprs))) (more_stmts (express (set (at 1 47) (name (n 1 1 51)) (number (at 1 55) (pos 7)))) no_stmts)))) no_stmts))) ∷ [])

a_body_sets_its_number : run turns 1000 ≡ done 4 (piece 2 (line 0) ∷ piece 3 (line 1) ∷ piece 4 (line 2) ∷ [])
a_body_sets_its_number = refl

-- func f(n int) { if n == 0 { println(1 / n); } f(n - 1); }
-- func main() { f(69); }
abbrev deep : Tree
deep = tree (codes "f" ∷ codes "n" ∷ codes "println" ∷ codes "main" ∷ []) (function_item (function (head false (n 0 1 6) (param (n 1 1 8) (int_type (at 1 10)) ∷ []) None) (block (at 1 15) (at 1 57) (more_stmts (form_stmt (branch (at 1 17) (chain (name (n 1 1 20)) (more_links (link (at 1 22) Equal (number (at 1 25) (pos 0))) no_links)) (block (at 1 27) (at 1 45) (more_stmts (express (call (n 2 1 29) (more_exprs (chain (number (at 1 37) (pos 1)) (more_links (link (at 1 39) Div (name (n 1 1 41))) no_links)) no_exprs))) no_stmts)) no_else)) (more_stmts (express (call (n 0 1 47) (more_exprs (chain (name (n 1 1 49)) (more_links (link (at 1 51) Sub (number (at 1 53) (pos 1))) no_links)) no_exprs))) no_stmts)))) ∷ function_item (function (head false (n 3 2 6) ([]) None) (block (at 2 13) (at 2 22) (more_stmts (express (call (n 0 2 15) (more_exprs (number (at 2 17) (pos 69)) no_exprs))) no_stmts))) ∷ [])

the_innermost_frames : run deep 1000 ≡ Some (record { pieces = []; end = Trap (record { kind = DivisionByZero; at = at 1 39; frames = times 64 (frame (codes "f") 1 47) []; more = 7 }); ticks = 71 })
the_innermost_frames = refl

-- func main() { parallel foreach i in 0..1048577 { } }
abbrev wide : Tree
wide = tree (codes "main" ∷ codes "i" ∷ []) (function_item (function (head false (n 0 1 6) ([]) None) (block (at 1 13) (at 1 52) (last (form (parallel_range (at 1 15) (n 1 1 32) (number (at 1 37) (pos 0)) (number (at 1 40) (pos 1048577)) (block (at 1 48) (at 1 50) no_stmts)))))) ∷ [])

a_loop_is_too_wide : run wide 1000 ≡ trapped 1 ([]) LoopTooWide (at 1 15) (in_main ∷ [])
a_loop_is_too_wide = refl

-- func main() {
--   a = []int(1, 2);
--   println(a[1]);
--   println(a[-1]);
-- }
abbrev range : Tree
range = tree (codes "main" ∷ codes "a" ∷ codes "println" ∷ []) (function_item (function (head false (n 0 1 6) ([]) None) (block (at 1 13) (at 5 1) (more_stmts (declare (n 1 2 3) (array (at 2 7) (int_type (at 2 9)) (more_exprs (number (at 2 13) (pos 1)) (more_exprs (number (at 2 16) (pos 2)) no_exprs)))) (more_stmts (express (call (n 2 3 3) (more_exprs (steps (name (n 1 3 11)) (more_steps (index (at 3 12) (number (at 3 13) (pos 1))) no_steps)) no_exprs))) (more_stmts (express (call (n 2 4 3) (more_exprs (steps (name (n 1 4 11)) (more_steps (index (at 4 12) (unary (at 4 13) Minus (number (at 4 14) (pos 1)))) no_steps)) no_exprs))) no_stmts))))) ∷ [])

an_index_is_out_of_range : run range 1000 ≡ trapped 2 (piece 2 (line 2) ∷ []) IndexOutOfRange (at 4 12) (in_main ∷ [])
an_index_is_out_of_range = refl

-- func main() {
--   a = []int();
--   push(&a, 1);
--   push(&a, 2);
--   println(pop(&a));
--   println(pop(&a));
--   println(pop(&a));
-- }
abbrev pops : Tree
pops = tree (codes "main" ∷ codes "a" ∷ codes "push" ∷ codes "println" ∷ codes "pop" ∷ []) (function_item (function (head false (n 0 1 6) ([]) None) (block (at 1 13) (at 8 1) (more_stmts (declare (n 1 2 3) (array (at 2 7) (int_type (at 2 9)) no_exprs)) (more_stmts (express (call (n 2 3 3) (more_exprs (unary (at 3 8) Borrow (name (n 1 3 9))) (more_exprs (number (at 3 12) (pos 1)) no_exprs)))) (more_stmts (express (call (n 2 4 3) (more_exprs (unary (at 4 8) Borrow (name (n 1 4 9))) (more_exprs (number (at 4 12) (pos 2)) no_exprs)))) (more_stmts (express (call (n 3 5 3) (more_exprs (call (n 4 5 11) (more_exprs (unary (at 5 15) Borrow (name (n 1 5 16))) no_exprs)) no_exprs))) (more_stmts (express (call (n 3 6 3) (more_exprs (call (n 4 6 11) (more_exprs (unary (at 6 15) Borrow (name (n 1 6 16))) no_exprs)) no_exprs))) (more_stmts (express (call (n 3 7 3) (more_exprs (call (n 4 7 11) (more_exprs (unary (at 7 15) Borrow (name (n 1 7 16))) no_exprs)) no_exprs))) no_stmts)))))))) ∷ [])

the_last_comes_out_first : run pops 1000 ≡ trapped 2 (piece 2 (line 2) ∷ piece 2 (line 1) ∷ []) EmptyPop (at 7 11) (in_main ∷ [])
the_last_comes_out_first = refl

-- func main() { println(number("-")); }
abbrev no_number : Tree
no_number = tree (codes "main" ∷ codes "println" ∷ codes "number" ∷ []) (function_item (function (head false (n 0 1 6) ([]) None) (block (at 1 13) (at 1 37) (more_stmts (express (call (n 1 1 15) (more_exprs (call (n 2 1 23) (more_exprs (quote (at 1 30) (codes "-")) no_exprs)) no_exprs))) no_stmts))) ∷ [])

a_text_is_no_number : run no_number 1000 ≡ trapped 1 ([]) NotANumber (at 1 23) (in_main ∷ [])
a_text_is_no_number = refl

-- struct S { n int; }
-- func drop(self S) { [n] = self; println(n); }
-- struct P { a S; b S; }
-- func main() {
--   [a, b] = P(S(1), S(2));
--   println(3);
-- }
abbrev apart : Tree
apart = tree (codes "S" ∷ codes "n" ∷ codes "drop" ∷ codes "self" ∷ codes "println" ∷ codes "P" ∷ codes "a" ∷ codes "b" ∷ codes "main" ∷ []) (struct_item (n 0 1 8) (field_decl (n 1 1 12) false (int_type (at 1 14)) ∷ []) ∷ function_item (function (head false (n 2 2 6) (param (n 3 2 11) (named_type (n 0 2 16)) ∷ []) None) (block (at 2 19) (at 2 45) (more_stmts (destructure (at 2 21) ((n 1 2 22) ∷ []) (name (n 3 2 27))) (more_stmts (express (call (n 4 2 33) (more_exprs (name (n 1 2 41)) no_exprs))) no_stmts)))) ∷ struct_item (n 5 3 8) (field_decl (n 6 3 12) false (named_type (n 0 3 14)) ∷ field_decl (n 7 3 17) false (named_type (n 0 3 19)) ∷ []) ∷ function_item (function (head false (n 8 4 6) ([]) None) (block (at 4 13) (at 7 1) (more_stmts (destructure (at 5 3) ((n 6 5 4) ∷ (n 7 5 7) ∷ []) (call (n 5 5 12) (more_exprs (call (n 0 5 14) (more_exprs (number (at 5 16) (pos 1)) no_exprs)) (more_exprs (call (n 0 5 20) (more_exprs (number (at 5 22) (pos 2)) no_exprs)) no_exprs)))) (more_stmts (express (call (n 4 6 3) (more_exprs (number (at 6 11) (pos 3)) no_exprs))) no_stmts)))) ∷ [])

names_of_a_destructuring_are_locals : run apart 1000 ≡ done 9 (piece 5 (line 3) ∷ piece 7 (line 2) ∷ piece 9 (line 1) ∷ [])
names_of_a_destructuring_are_locals = refl

-- struct S { n int; }
-- func drop(self S) { [n] = self; println(n); }
-- func main() { S(1); println(2); }
abbrev unused : Tree
unused = tree (codes "S" ∷ codes "n" ∷ codes "drop" ∷ codes "self" ∷ codes "println" ∷ codes "main" ∷ []) (struct_item (n 0 1 8) (field_decl (n 1 1 12) false (int_type (at 1 14)) ∷ []) ∷ function_item (function (head false (n 2 2 6) (param (n 3 2 11) (named_type (n 0 2 16)) ∷ []) None) (block (at 2 19) (at 2 45) (more_stmts (destructure (at 2 21) ((n 1 2 22) ∷ []) (name (n 3 2 27))) (more_stmts (express (call (n 4 2 33) (more_exprs (name (n 1 2 41)) no_exprs))) no_stmts)))) ∷ function_item (function (head false (n 5 3 6) ([]) None) (block (at 3 13) (at 3 33) (more_stmts (express (call (n 0 3 15) (more_exprs (number (at 3 17) (pos 1)) no_exprs))) (more_stmts (express (call (n 4 3 21) (more_exprs (number (at 3 29) (pos 2)) no_exprs))) no_stmts)))) ∷ [])

an_unused_value_is_dropped : run unused 1000 ≡ done 4 (piece 4 (line 1) ∷ piece 4 (line 2) ∷ [])
an_unused_value_is_dropped = refl

-- struct S { n int; }
-- func drop(self S) { [n] = self; println(1 / n); }
-- func main() {
--   x = S(0);
--   set x = S(1);
-- }
abbrev replaced : Tree
replaced = tree (codes "S" ∷ codes "n" ∷ codes "drop" ∷ codes "self" ∷ codes "println" ∷ codes "main" ∷ codes "x" ∷ []) (struct_item (n 0 1 8) (field_decl (n 1 1 12) false (int_type (at 1 14)) ∷ []) ∷ function_item (function (head false (n 2 2 6) (param (n 3 2 11) (named_type (n 0 2 16)) ∷ []) None) (block (at 2 19) (at 2 49) (more_stmts (destructure (at 2 21) ((n 1 2 22) ∷ []) (name (n 3 2 27))) (more_stmts (express (call (n 4 2 33) (more_exprs (chain (number (at 2 41) (pos 1)) (more_links (link (at 2 43) Div (name (n 1 2 45))) no_links)) no_exprs))) no_stmts)))) ∷ function_item (function (head false (n 5 3 6) ([]) None) (block (at 3 13) (at 6 1) (more_stmts (declare (n 6 4 3) (call (n 0 4 7) (more_exprs (number (at 4 9) (pos 0)) no_exprs))) (more_stmts (express (set (at 5 3) (name (n 6 5 7)) (call (n 0 5 11) (more_exprs (number (at 5 13) (pos 1)) no_exprs)))) no_stmts)))) ∷ [])

what_a_set_takes_out_is_dropped : run replaced 1000 ≡ trapped 5 ([]) DivisionByZero (at 2 43) (frame (codes "drop S") 5 3 ∷ in_main ∷ [])
what_a_set_takes_out_is_dropped = refl

-- func main() {
--   xs = parallel foreach i in 2..5 { i * i };
--   println(xs[2]);
-- }
abbrev squares : Tree
squares = tree (codes "main" ∷ codes "xs" ∷ codes "i" ∷ codes "println" ∷ []) (function_item (function (head false (n 0 1 6) ([]) None) (block (at 1 13) (at 4 1) (more_stmts (declare (n 1 2 3) (form (parallel_range (at 2 8) (n 2 2 25) (number (at 2 30) (pos 2)) (number (at 2 33) (pos 5)) (block (at 2 35) (at 2 43) (last (chain (name (n 2 2 37)) (more_links (link (at 2 39) Mul (name (n 2 2 41))) no_links))))))) (more_stmts (express (call (n 3 3 3) (more_exprs (steps (name (n 1 3 11)) (more_steps (index (at 3 13) (number (at 3 14) (pos 2))) no_steps)) no_exprs))) no_stmts)))) ∷ [])

a_loop_gives_an_array : run squares 1000 ≡ done 6 (piece 5 (line 16) ∷ [])
a_loop_gives_an_array = refl

-- func main() {
--   xs = parallel foreach i in 0..3 {
--     ys = parallel foreach j in 0..i { i * j };
--     t = 0;
--     foreach k in 0..len(&ys) { set t = t + ys[k]; }
--     t
--   };
--   println(xs[2]);
-- }
abbrev nested : Tree
nested = tree (codes "main" ∷ codes "xs" ∷ codes "i" ∷ codes "ys" ∷ codes "j" ∷ codes "t" ∷ codes "k" ∷ codes "len" ∷ codes "println" ∷ []) (function_item (function (head false (n 0 1 6) ([]) None) (block (at 1 13) (at 9 1) (more_stmts (declare (n 1 2 3) (form (parallel_range (at 2 8) (n 2 2 25) (number (at 2 30) (pos 0)) (number (at 2 33) (pos 3)) (block (at 2 35) (at 7 3) (more_stmts (declare (n 3 3 5) (form (parallel_range (at 3 10) (n 4 3 27) (number (at 3 32) (pos 0)) (name (n 2 3 35)) (block (at 3 37) (at 3 45) (last (chain (name (n 2 3 39)) (more_links (link (at 3 41) Mul (name (n 4 3 43))) no_links))))))) (more_stmts (declare (n 5 4 5) (number (at 4 9) (pos 0))) (more_stmts (foreach (at 5 5) (n 6 5 13) (number (at 5 18) (pos 0)) (call (n 7 5 21) (more_exprs (unary (at 5 25) Borrow (name (n 3 5 26))) no_exprs)) (block (at 5 30) (at 5 51) (more_stmts (express (set (at 5 32) (name (n 5 5 36)) (chain (name (n 5 5 40)) (more_links (link (at 5 42) Add (steps (name (n 3 5 44)) (more_steps (index (at 5 46) (name (n 6 5 47))) no_steps))) no_links)))) no_stmts))) (last (name (n 5 6 5)))))))))) (more_stmts (express (call (n 8 8 3) (more_exprs (steps (name (n 1 8 11)) (more_steps (index (at 8 13) (number (at 8 14) (pos 2))) no_steps)) no_exprs))) no_stmts)))) ∷ [])

a_loop_in_an_iteration : run nested 1000 ≡ done 18 (piece 17 (line 2) ∷ [])
a_loop_in_an_iteration = refl

-- func main() { xs = parallel foreach i in 5..2 { i }; println(len(&xs)); }
abbrev none : Tree
none = tree (codes "main" ∷ codes "xs" ∷ codes "i" ∷ codes "println" ∷ codes "len" ∷ []) (function_item (function (head false (n 0 1 6) ([]) None) (block (at 1 13) (at 1 73) (more_stmts (declare (n 1 1 15) (form (parallel_range (at 1 20) (n 2 1 37) (number (at 1 42) (pos 5)) (number (at 1 45) (pos 2)) (block (at 1 47) (at 1 51) (last (name (n 2 1 49))))))) (more_stmts (express (call (n 3 1 54) (more_exprs (call (n 4 1 62) (more_exprs (unary (at 1 66) Borrow (name (n 1 1 67))) no_exprs)) no_exprs))) no_stmts)))) ∷ [])

a_loop_without_iterations : run none 1000 ≡ done 3 (piece 2 (line 0) ∷ [])
a_loop_without_iterations = refl

-- func main(input []int) {
--   t = 0;
--   foreach i in 0..len(&input) { set t = t + input[i]; }
--   println(t);
-- }
abbrev sum_of_input : Tree
sum_of_input = tree (codes "main" ∷ codes "input" ∷ codes "t" ∷ codes "i" ∷ codes "len" ∷ codes "println" ∷ []) (function_item (function (head false (n 0 1 6) (param (n 1 1 11) (array_type (at 1 17) (int_type (at 1 19))) ∷ []) None) (block (at 1 24) (at 5 1) (more_stmts (declare (n 2 2 3) (number (at 2 7) (pos 0))) (more_stmts (foreach (at 3 3) (n 3 3 11) (number (at 3 16) (pos 0)) (call (n 4 3 19) (more_exprs (unary (at 3 23) Borrow (name (n 1 3 24))) no_exprs)) (block (at 3 31) (at 3 55) (more_stmts (express (set (at 3 33) (name (n 2 3 37)) (chain (name (n 2 3 41)) (more_links (link (at 3 43) Add (steps (name (n 1 3 45)) (more_steps (index (at 3 50) (name (n 3 3 51))) no_steps))) no_links)))) no_stmts))) (more_stmts (express (call (n 5 4 3) (more_exprs (name (n 2 4 11)) no_exprs))) no_stmts))))) ∷ [])

the_input_is_an_array : run_on sum_of_input (numbers (pos 3 ∷ pos 4 ∷ [])) 1000 ≡ done 5 (piece 4 (line 7) ∷ [])
the_input_is_an_array = refl

the_input_array_is_cut : run_on sum_of_input (numbers (pos 3 ∷ [])) 0 ≡ cut 0 ([])
the_input_array_is_cut = refl

-- struct Cell { v! int; }
-- func f0(x int) int { return x % 10000; }
-- func f1(x int) int { c = Cell(f0(x + 1)); set c.v = c.v * 3 + 1; return c.v % 10000; }
-- func main() {
--   xs = parallel foreach i in 0..8 { f1(i) };
--   t = 0;
--   foreach i in 0..8 { set t = t + xs[i]; }
--   println(t);
-- }
abbrev generated : Tree
generated = tree (codes "Cell" ∷ codes "v" ∷ codes "f0" ∷ codes "x" ∷ codes "f1" ∷ codes "c" ∷ codes "main" ∷ codes "xs" ∷ codes "i" ∷ codes "t" ∷ codes "println" ∷ []) (struct_item (n 0 1 8) (field_decl (n 1 1 15) true (int_type (at 1 18)) ∷ []) ∷ function_item (function (head false (n 2 2 6) (param (n 3 2 9) (int_type (at 2 11)) ∷ []) (Some (int_type (at 2 16)))) (block (at 2 20) (at 2 40) (more_stmts (return_value (at 2 22) (chain (name (n 3 2 29)) (more_links (link (at 2 31) Rem (number (at 2 33) (pos 10000))) no_links))) no_stmts))) ∷ function_item (function (head false (n 4 3 6) (param (n 3 3 9) (int_type (at 3 11)) ∷ []) (Some (int_type (at 3 16)))) (block (at 3 20) (at 3 86) (more_stmts (declare (n 5 3 22) (call (n 0 3 26) (more_exprs (call (n 2 3 31) (more_exprs (chain (name (n 3 3 34)) (more_links (link (at 3 36) Add (number (at 3 38) (pos 1))) no_links)) no_exprs)) no_exprs))) (more_stmts (express (set (at 3 43) (steps (name (n 5 3 47)) (more_steps (field (at 3 48) (record { 0 = 1 })) no_steps)) (chain (chain (steps (name (n 5 3 53)) (more_steps (field (at 3 54) (record { 0 = 1 })) no_steps)) (more_links (link (at 3 57) Mul (number (at 3 59) (pos 3))) no_links)) (more_links (link (at 3 61) Add (number (at 3 63) (pos 1))) no_links)))) (more_stmts (return_value (at 3 66) (chain (steps (name (n 5 3 73)) (more_steps (field (at 3 74) (record { 0 = 1 })) no_steps)) (more_links (link (at 3 77) Rem (number (at 3 79) (pos 10000))) no_links))) no_stmts))))) ∷ function_item (function (head false (n 6 4 6) ([]) None) (block (at 4 13) (at 9 1) (more_stmts (declare (n 7 5 3) (form (parallel_range (at 5 8) (n 8 5 25) (number (at 5 30) (pos 0)) (number (at 5 33) (pos 8)) (block (at 5 35) (at 5 43) (last (call (n 4 5 37) (more_exprs (name (n 8 5 40)) no_exprs))))))) (more_stmts (declare (n 9 6 3) (number (at 6 7) (pos 0))) (more_stmts (foreach (at 7 3) (n 8 7 11) (number (at 7 16) (pos 0)) (number (at 7 19) (pos 8)) (block (at 7 21) (at 7 42) (more_stmts (express (set (at 7 23) (name (n 9 7 27)) (chain (name (n 9 7 31)) (more_links (link (at 7 33) Add (steps (name (n 7 7 35)) (more_steps (index (at 7 37) (name (n 8 7 38))) no_steps))) no_links)))) no_stmts))) (more_stmts (express (call (n 10 8 3) (more_exprs (name (n 9 8 11)) no_exprs))) no_stmts)))))) ∷ [])

a_generated_program : run generated 1000 ≡ done 51 (piece 50 (line 116) ∷ [])
a_generated_program = refl

-- struct Ship { fuel! int; }
-- func f(r &Ship) int {
--   return pure { r.fuel + r.fuel };
-- }
-- func main() { a = Ship(1); println(f(&a)); }
abbrev frozen : Tree
frozen = tree (codes "Ship" ∷ codes "fuel" ∷ codes "f" ∷ codes "r" ∷ codes "main" ∷ codes "a" ∷ codes "println" ∷ []) (struct_item (n 0 1 8) (field_decl (n 1 1 15) true (int_type (at 1 21)) ∷ []) ∷ function_item (function (head false (n 2 2 6) (param (n 3 2 8) (ref_type (at 2 10) (named_type (n 0 2 11))) ∷ []) (Some (int_type (at 2 17)))) (block (at 2 21) (at 4 1) (more_stmts (return_value (at 3 3) (form (pure (at 3 10) (block (at 3 15) (at 3 33) (last (chain (steps (name (n 3 3 17)) (more_steps (field (at 3 18) (record { 0 = 1 })) no_steps)) (more_links (link (at 3 24) Add (steps (name (n 3 3 26)) (more_steps (field (at 3 27) (record { 0 = 1 })) no_steps))) no_links))))))) no_stmts))) ∷ function_item (function (head false (n 4 5 6) ([]) None) (block (at 5 13) (at 5 44) (more_stmts (declare (n 5 5 15) (call (n 0 5 19) (more_exprs (number (at 5 24) (pos 1)) no_exprs))) (more_stmts (express (call (n 6 5 28) (more_exprs (call (n 2 5 36) (more_exprs (unary (at 5 38) Borrow (name (n 5 5 39))) no_exprs)) no_exprs))) no_stmts)))) ∷ [])

a_freeze_reads_what_is_outside : run frozen 1000 ≡ done 4 (piece 3 (line 2) ∷ [])
a_freeze_reads_what_is_outside = refl

-- struct S { n int; }
-- func main() {
--   xs = []S();
--   foreach i in 0..64 { push(&xs, S(i)); }
--   println(len(&xs));
-- }
abbrev many : Tree
many = tree (codes "S" ∷ codes "n" ∷ codes "main" ∷ codes "xs" ∷ codes "i" ∷ codes "push" ∷ codes "println" ∷ codes "len" ∷ []) (struct_item (n 0 1 8) (field_decl (n 1 1 12) false (int_type (at 1 14)) ∷ []) ∷ function_item (function (head false (n 2 2 6) ([]) None) (block (at 2 13) (at 6 1) (more_stmts (declare (n 3 3 3) (array (at 3 8) (named_type (n 0 3 10)) no_exprs)) (more_stmts (foreach (at 4 3) (n 4 4 11) (number (at 4 16) (pos 0)) (number (at 4 19) (pos 64)) (block (at 4 22) (at 4 41) (more_stmts (express (call (n 5 4 24) (more_exprs (unary (at 4 29) Borrow (name (n 3 4 30))) (more_exprs (call (n 0 4 34) (more_exprs (name (n 4 4 36)) no_exprs)) no_exprs)))) no_stmts))) (more_stmts (express (call (n 6 5 3) (more_exprs (call (n 7 5 11) (more_exprs (unary (at 5 15) Borrow (name (n 3 5 16))) no_exprs)) no_exprs))) no_stmts))))) ∷ [])

an_object_each : need_of many 1000000000 1 ≡ Some 65
an_object_each = refl

-- struct Ship { fuel! int; }
-- func main() {
--   foreach i in 0..129 { a = Ship(i); }
-- }
abbrev one_by_one : Tree
one_by_one = tree (codes "Ship" ∷ codes "fuel" ∷ codes "main" ∷ codes "i" ∷ codes "a" ∷ []) (struct_item (n 0 1 8) (field_decl (n 1 1 15) true (int_type (at 1 21)) ∷ []) ∷ function_item (function (head false (n 2 2 6) ([]) None) (block (at 2 13) (at 4 1) (more_stmts (foreach (at 3 3) (n 3 3 11) (number (at 3 16) (pos 0)) (number (at 3 19) (pos 129)) (block (at 3 23) (at 3 38) (more_stmts (declare (n 4 3 25) (call (n 0 3 29) (more_exprs (name (n 3 3 34)) no_exprs))) no_stmts))) no_stmts))) ∷ [])

one_at_a_time : need_of one_by_one 1000000000 1 ≡ Some 1
one_at_a_time = refl

slots_are_used_up : need_of one_by_one 1000000000 18446744073709551614 ≡ Some 65
slots_are_used_up = refl

-- struct S { n int; }
-- func main() {
--   a = S(0);
--   parallel foreach i in 0..3 { b = S(i); c = S(b.n); }
-- }
abbrev at_once : Tree
at_once = tree (codes "S" ∷ codes "n" ∷ codes "main" ∷ codes "a" ∷ codes "i" ∷ codes "b" ∷ codes "c" ∷ []) (struct_item (n 0 1 8) (field_decl (n 1 1 12) false (int_type (at 1 14)) ∷ []) ∷ function_item (function (head false (n 2 2 6) ([]) None) (block (at 2 13) (at 5 1) (more_stmts (declare (n 3 3 3) (call (n 0 3 7) (more_exprs (number (at 3 9) (pos 0)) no_exprs))) (last (form (parallel_range (at 4 3) (n 4 4 20) (number (at 4 25) (pos 0)) (number (at 4 28) (pos 3)) (block (at 4 30) (at 4 54) (more_stmts (declare (n 5 4 32) (call (n 0 4 36) (more_exprs (name (n 4 4 38)) no_exprs))) (more_stmts (declare (n 6 4 42) (call (n 0 4 46) (more_exprs (steps (name (n 5 4 48)) (more_steps (field (at 4 49) (record { 0 = 1 })) no_steps)) no_exprs))) no_stmts))))))))) ∷ [])

iterations_are_counted_together : need_of at_once 1000000000 1 ≡ Some 7
iterations_are_counted_together = refl

-- ---- depth

-- func f() { } pure func g() int { return 1; } func main() { }
abbrev deeper : Tree
deeper = tree (codes "f" ∷ codes "g" ∷ codes "main" ∷ []) (function_item (function (head false (n 0 1 6) ([]) None) (block (at 1 10) (at 1 12) no_stmts)) ∷ function_item (function (head true (n 1 1 24) ([]) (Some (int_type (at 1 28)))) (block (at 1 32) (at 1 44) (more_stmts (return_value (at 1 34) (number (at 1 41) (pos 1))) no_stmts))) ∷ function_item (function (head false (n 2 1 51) ([]) None) (block (at 1 58) (at 1 60) no_stmts)) ∷ [])

-- a call of this function from `main` where so many freezes are open
abbrev call_in : ℕ → ℕ → Judged Typed → Option Outcome
call_in freezes k (fine program) =
    Some (outcome_of (called (level (parts_of program) 10) (function_named (parts_of program) k) [] (function_frame (codes "f") (at 7 7)) (in_main ∷ []) [] (record (begin 10) { regions = freezes; frozen = freezes })))
call_in freezes k (faulty f fs) = None

the_last_call : call_in 99998 0 (typed deeper) ≡ done 1 []
the_last_call = refl

-- it traps before its tick, in the function that calls
a_call_too_deep : call_in 99999 0 (typed deeper) ≡ trapped 0 [] CallDepth (at 7 7) (in_main ∷ [])
a_call_too_deep = refl

-- a call of a pure function counts two
the_last_pure_call : call_in 99997 1 (typed deeper) ≡ done 1 []
the_last_pure_call = refl

a_pure_call_too_deep : call_in 99998 1 (typed deeper) ≡ trapped 0 [] CallDepth (at 7 7) (in_main ∷ [])
a_pure_call_too_deep = refl

-- ---- input

numbers_between_blanks : taken takes_numbers (codes "1 -2\n") ≡ Ok (numbers (pos 1 ∷ negsuc 1 ∷ []))
numbers_between_blanks = refl

no_numbers : taken takes_numbers [] ≡ Ok (numbers [])
no_numbers = refl

no_number_at_its_place : taken takes_numbers (codes "1 2 x") ≡ Err 4
no_number_at_its_place = refl

no_int_at_its_place : taken takes_numbers (codes "9223372036854775808") ≡ Err 0
no_int_at_its_place = refl

lines_of_a_text : taken takes_lines (codes "a\n\nb") ≡ Ok (lines (codes "a" ∷ [] ∷ codes "b" ∷ []))
lines_of_a_text = refl

a_last_line_feed : taken takes_lines (codes "a\n") ≡ Ok (lines (codes "a" ∷ []))
a_last_line_feed = refl

no_lines_of_nothing : taken takes_lines [] ≡ Ok (lines [])
no_lines_of_nothing = refl
