-- What whole programs do, by computation: what they print and at which tick, how they end, and the ticks that they spend. A program
-- stands here as its tree.
use Rattle.std.proofs.Common.{◌≡◌, [], ◌∷◌, ◌++◌, Some, None, refl}
use Rattle.std.specs.Prelude.{true, false, codes, pos}
use Rattle.std.specs.Fmt.{decimal}
use Rattle.vale_base.specs.declared.trap.TrapKind.TheVariants.{Overflow, DivisionByZero, DeadReference}
use Rattle.vale_syntax.specs.declared.tree.BinaryOp.TheVariants.{Or, Equal, Greater, Add, Sub, Div}
use Rattle.vale_syntax.specs.declared.tree.UnaryOp.TheVariants.{Borrow, Merge}
use Rattle.vale_syntax.specs.Tree.{int_type, named_type, array_type, ref_type, imm_ref_type, iso_type, set, chain, unary, steps, number, truth, name, call, paren, array, iso, form, no_exprs, more_exprs, link, no_links, more_links, field, index, no_steps, more_steps, branch, parallel_range, parallel_each, no_else, block, declare, destructure, return_value, while, foreach, express, no_stmts, last, more_stmts, param, head, function, field_decl, struct_item, function_item, Tree, tree}
use Rattle.vale_model.proofs.Programs.{at, n, run, piece, frame, in_main, done, cut, trapped, line}

-- func main() { println(1 + 2); }
abbrev a_sum : Tree
a_sum = tree (codes "main" ∷ codes "println" ∷ []) (function_item (function (head false (n 0 1 6) ([]) None) (block (at 1 13) (at 1 31) (more_stmts (express (call (n 1 1 15) (more_exprs (chain (number (at 1 23) (pos 1)) (more_links (link (at 1 25) Add (number (at 1 27) (pos 2))) no_links)) no_exprs))) no_stmts))) ∷ [])

a_sum_is_printed : run a_sum 1000 ≡ done 1 (piece 1 (line 3) ∷ [])
a_sum_is_printed = refl

-- func main() { println(9223372036854775807 + 1); }
abbrev too_great : Tree
too_great = tree (codes "main" ∷ codes "println" ∷ []) (function_item (function (head false (n 0 1 6) ([]) None) (block (at 1 13) (at 1 49) (more_stmts (express (call (n 1 1 15) (more_exprs (chain (number (at 1 23) (pos 9223372036854775807)) (more_links (link (at 1 43) Add (number (at 1 45) (pos 1))) no_links)) no_exprs))) no_stmts))) ∷ [])

the_sum_is_too_great : run too_great 1000 ≡ trapped 1 ([]) Overflow (at 1 43) (in_main ∷ [])
the_sum_is_too_great = refl

-- struct Ship { fuel! int; }
-- func main() {
--   a = Ship(7);
--   r = &a;
--   println(r.fuel);
--   drop(a);
--   b = Ship(9);
--   println(r.fuel);
-- }
abbrev dropped : Tree
dropped = tree (codes "Ship" ∷ codes "fuel" ∷ codes "main" ∷ codes "a" ∷ codes "r" ∷ codes "println" ∷ codes "drop" ∷ codes "b" ∷ []) (struct_item (n 0 1 8) (field_decl (n 1 1 15) true (int_type (at 1 21)) ∷ []) ∷ function_item (function (head false (n 2 2 6) ([]) None) (block (at 2 13) (at 9 1) (more_stmts (declare (n 3 3 3) (call (n 0 3 7) (more_exprs (number (at 3 12) (pos 7)) no_exprs))) (more_stmts (declare (n 4 4 3) (unary (at 4 7) Borrow (name (n 3 4 8)))) (more_stmts (express (call (n 5 5 3) (more_exprs (steps (name (n 4 5 11)) (more_steps (field (at 5 12) (record { 0 = 1 })) no_steps)) no_exprs))) (more_stmts (express (call (n 6 6 3) (more_exprs (name (n 3 6 8)) no_exprs))) (more_stmts (declare (n 7 7 3) (call (n 0 7 7) (more_exprs (number (at 7 12) (pos 9)) no_exprs))) (more_stmts (express (call (n 5 8 3) (more_exprs (steps (name (n 4 8 11)) (more_steps (field (at 8 12) (record { 0 = 1 })) no_steps)) no_exprs))) no_stmts)))))))) ∷ [])

a_reference_to_a_dropped_object : run dropped 1000 ≡ trapped 4 (piece 2 (line 7) ∷ []) DeadReference (at 8 12) (in_main ∷ [])
a_reference_to_a_dropped_object = refl

-- struct Ship { fuel! int; }
-- func main() {
--   a = Ship(7);
--   r = &a;
--   println(r.fuel);
--   drop(a);
--   b = Ship(9);
--   drop(b);
--   c = Ship(11);
--   println(r.fuel);
-- }
abbrev dropped_twice : Tree
dropped_twice = tree (codes "Ship" ∷ codes "fuel" ∷ codes "main" ∷ codes "a" ∷ codes "r" ∷ codes "println" ∷ codes "drop" ∷ codes "b" ∷ codes "c" ∷ []) (struct_item (n 0 1 8) (field_decl (n 1 1 15) true (int_type (at 1 21)) ∷ []) ∷ function_item (function (head false (n 2 2 6) ([]) None) (block (at 2 13) (at 11 1) (more_stmts (declare (n 3 3 3) (call (n 0 3 7) (more_exprs (number (at 3 12) (pos 7)) no_exprs))) (more_stmts (declare (n 4 4 3) (unary (at 4 7) Borrow (name (n 3 4 8)))) (more_stmts (express (call (n 5 5 3) (more_exprs (steps (name (n 4 5 11)) (more_steps (field (at 5 12) (record { 0 = 1 })) no_steps)) no_exprs))) (more_stmts (express (call (n 6 6 3) (more_exprs (name (n 3 6 8)) no_exprs))) (more_stmts (declare (n 7 7 3) (call (n 0 7 7) (more_exprs (number (at 7 12) (pos 9)) no_exprs))) (more_stmts (express (call (n 6 8 3) (more_exprs (name (n 7 8 8)) no_exprs))) (more_stmts (declare (n 8 9 3) (call (n 0 9 7) (more_exprs (number (at 9 12) (pos 11)) no_exprs))) (more_stmts (express (call (n 5 10 3) (more_exprs (steps (name (n 4 10 11)) (more_steps (field (at 10 12) (record { 0 = 1 })) no_steps)) no_exprs))) no_stmts)))))))))) ∷ [])

a_reference_never_comes_to_life : run dropped_twice 1000 ≡ trapped 6 (piece 2 (line 7) ∷ []) DeadReference (at 10 12) (in_main ∷ [])
a_reference_never_comes_to_life = refl

-- struct Node { next! []Node; }
-- func main() {
--   a = Node([]Node());
--   r = &a;
--   set r.next = []Node(a);
-- }
abbrev a_circle : Tree
a_circle = tree (codes "Node" ∷ codes "next" ∷ codes "main" ∷ codes "a" ∷ codes "r" ∷ []) (struct_item (n 0 1 8) (field_decl (n 1 1 15) true (array_type (at 1 21) (named_type (n 0 1 23))) ∷ []) ∷ function_item (function (head false (n 2 2 6) ([]) None) (block (at 2 13) (at 6 1) (more_stmts (declare (n 3 3 3) (call (n 0 3 7) (more_exprs (array (at 3 12) (named_type (n 0 3 14)) no_exprs) no_exprs))) (more_stmts (declare (n 4 4 3) (unary (at 4 7) Borrow (name (n 3 4 8)))) (more_stmts (express (set (at 5 3) (steps (name (n 4 5 7)) (more_steps (field (at 5 8) (record { 0 = 1 })) no_steps)) (array (at 5 16) (named_type (n 0 5 18)) (more_exprs (name (n 3 5 23)) no_exprs)))) no_stmts))))) ∷ [])

a_circle_of_owners : run a_circle 5 ≡ done 5 ([])
a_circle_of_owners = refl

a_circle_is_cut : run a_circle 4 ≡ cut 4 ([])
a_circle_is_cut = refl

-- struct Child { up &Parent; }
-- struct Parent { id int; kid []Child; }
-- func drop(self Child) {
--   println(self.up.id);
--   [up] = self;
-- }
-- func main() {
--   p = Parent(5, []Child());
--   push(&p.kid, Child(&p));
-- }
abbrev family : Tree
family = tree (codes "Child" ∷ codes "up" ∷ codes "Parent" ∷ codes "id" ∷ codes "kid" ∷ codes "drop" ∷ codes "self" ∷ codes "println" ∷ codes "main" ∷ codes "p" ∷ codes "push" ∷ []) (struct_item (n 0 1 8) (field_decl (n 1 1 16) false (ref_type (at 1 19) (named_type (n 2 1 20))) ∷ []) ∷ struct_item (n 2 2 8) (field_decl (n 3 2 17) false (int_type (at 2 20)) ∷ field_decl (n 4 2 25) false (array_type (at 2 29) (named_type (n 0 2 31))) ∷ []) ∷ function_item (function (head false (n 5 3 6) (param (n 6 3 11) (named_type (n 0 3 16)) ∷ []) None) (block (at 3 23) (at 6 1) (more_stmts (express (call (n 7 4 3) (more_exprs (steps (name (n 6 4 11)) (more_steps (field (at 4 15) (record { 0 = 1 })) (more_steps (field (at 4 18) (record { 0 = 3 })) no_steps))) no_exprs))) (more_stmts (destructure (at 5 3) ((n 1 5 4) ∷ []) (name (n 6 5 10))) no_stmts)))) ∷ function_item (function (head false (n 8 7 6) ([]) None) (block (at 7 13) (at 10 1) (more_stmts (declare (n 9 8 3) (call (n 2 8 7) (more_exprs (number (at 8 14) (pos 5)) (more_exprs (array (at 8 17) (named_type (n 0 8 19)) no_exprs) no_exprs)))) (more_stmts (express (call (n 10 9 3) (more_exprs (unary (at 9 8) Borrow (steps (name (n 9 9 9)) (more_steps (field (at 9 10) (record { 0 = 4 })) no_steps))) (more_exprs (call (n 0 9 16) (more_exprs (unary (at 9 22) Borrow (name (n 9 9 23))) no_exprs)) no_exprs)))) no_stmts)))) ∷ [])

a_destructor_looks_up : run family 1000 ≡ trapped 7 ([]) DeadReference (at 4 18) (frame (codes "drop Child") 10 1 ∷ frame (codes "drop []Child") 10 1 ∷ frame (codes "drop Parent") 10 1 ∷ in_main ∷ [])
a_destructor_looks_up = refl

-- func main() { while true { println(1); } }
abbrev for_ever : Tree
for_ever = tree (codes "main" ∷ codes "println" ∷ []) (function_item (function (head false (n 0 1 6) ([]) None) (block (at 1 13) (at 1 42) (more_stmts (while (at 1 15) (truth (at 1 21) true) (block (at 1 26) (at 1 40) (more_stmts (express (call (n 1 1 28) (more_exprs (number (at 1 36) (pos 1)) no_exprs))) no_stmts))) no_stmts))) ∷ [])

a_loop_is_cut : run for_ever 3 ≡ cut 3 (piece 2 (line 1) ∷ piece 3 (line 1) ∷ [])
a_loop_is_cut = refl

-- func main() { parallel foreach i in 0..3 { println(i); } }
abbrev three : Tree
three = tree (codes "main" ∷ codes "i" ∷ codes "println" ∷ []) (function_item (function (head false (n 0 1 6) ([]) None) (block (at 1 13) (at 1 58) (last (form (parallel_range (at 1 15) (n 1 1 32) (number (at 1 37) (pos 0)) (number (at 1 40) (pos 3)) (block (at 1 42) (at 1 56) (more_stmts (express (call (n 2 1 44) (more_exprs (name (n 1 1 52)) no_exprs))) no_stmts))))))) ∷ [])

iterations_are_cut : run three 3 ≡ cut 3 (piece 2 (line 0) ∷ piece 3 (line 1) ∷ [])
iterations_are_cut = refl

iterations_in_order : run three 4 ≡ done 4 (piece 2 (line 0) ∷ piece 3 (line 1) ∷ piece 4 (line 2) ∷ [])
iterations_in_order = refl

-- func main() {
--   parallel foreach i in 0..8 {
--     println(i);
--     if i == 2 or i == 5 { println(1 / (i - i)); }
--   }
-- }
abbrev eight : Tree
eight = tree (codes "main" ∷ codes "i" ∷ codes "println" ∷ []) (function_item (function (head false (n 0 1 6) ([]) None) (block (at 1 13) (at 6 1) (last (form (parallel_range (at 2 3) (n 1 2 20) (number (at 2 25) (pos 0)) (number (at 2 28) (pos 8)) (block (at 2 30) (at 5 3) (more_stmts (express (call (n 2 3 5) (more_exprs (name (n 1 3 13)) no_exprs))) (last (form (branch (at 4 5) (chain (chain (name (n 1 4 8)) (more_links (link (at 4 10) Equal (number (at 4 13) (pos 2))) no_links)) (more_links (link (at 4 15) Or (chain (name (n 1 4 18)) (more_links (link (at 4 20) Equal (number (at 4 23) (pos 5))) no_links))) no_links)) (block (at 4 25) (at 4 49) (more_stmts (express (call (n 2 4 27) (more_exprs (chain (number (at 4 35) (pos 1)) (more_links (link (at 4 37) Div (paren (at 4 39) (chain (name (n 1 4 40)) (more_links (link (at 4 42) Sub (name (n 1 4 44))) no_links)))) no_links)) no_exprs))) no_stmts)) no_else)))))))))) ∷ [])

an_iteration_traps : run eight 1000 ≡ trapped 4 (piece 2 (line 0) ∷ piece 3 (line 1) ∷ piece 4 (line 2) ∷ []) DivisionByZero (at 4 37) (frame (codes "iteration " ++ decimal 2) 2 3 ∷ in_main ∷ [])
an_iteration_traps = refl

-- struct S { n int; }
-- func drop(self S) { [n] = self; println(n); }
-- func main() { a = S(1); b = S(2); }
abbrev two : Tree
two = tree (codes "S" ∷ codes "n" ∷ codes "drop" ∷ codes "self" ∷ codes "println" ∷ codes "main" ∷ codes "a" ∷ codes "b" ∷ []) (struct_item (n 0 1 8) (field_decl (n 1 1 12) false (int_type (at 1 14)) ∷ []) ∷ function_item (function (head false (n 2 2 6) (param (n 3 2 11) (named_type (n 0 2 16)) ∷ []) None) (block (at 2 19) (at 2 45) (more_stmts (destructure (at 2 21) ((n 1 2 22) ∷ []) (name (n 3 2 27))) (more_stmts (express (call (n 4 2 33) (more_exprs (name (n 1 2 41)) no_exprs))) no_stmts)))) ∷ function_item (function (head false (n 5 3 6) ([]) None) (block (at 3 13) (at 3 35) (more_stmts (declare (n 6 3 15) (call (n 0 3 19) (more_exprs (number (at 3 21) (pos 1)) no_exprs))) (more_stmts (declare (n 7 3 25) (call (n 0 3 29) (more_exprs (number (at 3 31) (pos 2)) no_exprs))) no_stmts)))) ∷ [])

the_last_is_dropped_first : run two 7 ≡ done 7 (piece 5 (line 2) ∷ piece 7 (line 1) ∷ [])
the_last_is_dropped_first = refl

a_death_is_cut : run two 6 ≡ cut 6 (piece 5 (line 2) ∷ [])
a_death_is_cut = refl

-- struct S { n! int; }
-- pure func twin(x iso S, r &imm S) S {
--   s = merge x;
--   set s.n = s.n + r.n;
--   return s;
-- }
-- func main() {
--   r = S(2);
--   t = twin(iso { S(40) }, &r);
--   println(t.n);
-- }
abbrev twins : Tree
twins = tree (codes "S" ∷ codes "n" ∷ codes "twin" ∷ codes "x" ∷ codes "r" ∷ codes "s" ∷ codes "main" ∷ codes "t" ∷ codes "println" ∷ []) (struct_item (n 0 1 8) (field_decl (n 1 1 12) true (int_type (at 1 15)) ∷ []) ∷ function_item (function (head true (n 2 2 11) (param (n 3 2 16) (iso_type (at 2 18) (named_type (n 0 2 22))) ∷ param (n 4 2 25) (imm_ref_type (at 2 27) (named_type (n 0 2 32))) ∷ []) (Some (named_type (n 0 2 35)))) (block (at 2 37) (at 6 1) (more_stmts (declare (n 5 3 3) (unary (at 3 7) Merge (name (n 3 3 13)))) (more_stmts (express (set (at 4 3) (steps (name (n 5 4 7)) (more_steps (field (at 4 8) (record { 0 = 1 })) no_steps)) (chain (steps (name (n 5 4 13)) (more_steps (field (at 4 14) (record { 0 = 1 })) no_steps)) (more_links (link (at 4 17) Add (steps (name (n 4 4 19)) (more_steps (field (at 4 20) (record { 0 = 1 })) no_steps))) no_links)))) (more_stmts (return_value (at 5 3) (name (n 5 5 10))) no_stmts))))) ∷ function_item (function (head false (n 6 7 6) ([]) None) (block (at 7 13) (at 11 1) (more_stmts (declare (n 4 8 3) (call (n 0 8 7) (more_exprs (number (at 8 9) (pos 2)) no_exprs))) (more_stmts (declare (n 7 9 3) (call (n 2 9 7) (more_exprs (iso (at 9 12) (block (at 9 16) (at 9 24) (last (call (n 0 9 18) (more_exprs (number (at 9 20) (pos 40)) no_exprs))))) (more_exprs (unary (at 9 27) Borrow (name (n 4 9 28))) no_exprs)))) (more_stmts (express (call (n 8 10 3) (more_exprs (steps (name (n 7 10 11)) (more_steps (field (at 10 12) (record { 0 = 1 })) no_steps)) no_exprs))) no_stmts))))) ∷ [])

a_pure_function_gives_an_owner : run twins 1000 ≡ done 6 (piece 4 (line 42) ∷ [])
a_pure_function_gives_an_owner = refl

-- struct Ship { fuel! int; }
-- func main() {
--   xs = []iso Ship();
--   foreach i in 0..100 { push(&xs, iso { Ship(i) }); }
--   ys = parallel foreach x in xs {
--     s = merge x;
--     set s.fuel = s.fuel + 1;
--     s
--   };
--   sum = 0;
--   while len(&ys) > 0 {
--     s = merge pop(&ys);
--     set sum = sum + s.fuel;
--   }
--   println(sum);
-- }
abbrev fleet : Tree
fleet = tree (codes "Ship" ∷ codes "fuel" ∷ codes "main" ∷ codes "xs" ∷ codes "i" ∷ codes "push" ∷ codes "ys" ∷ codes "x" ∷ codes "s" ∷ codes "sum" ∷ codes "len" ∷ codes "pop" ∷ codes "println" ∷ []) (struct_item (n 0 1 8) (field_decl (n 1 1 15) true (int_type (at 1 21)) ∷ []) ∷ function_item (function (head false (n 2 2 6) ([]) None) (block (at 2 13) (at 16 1) (more_stmts (declare (n 3 3 3) (array (at 3 8) (iso_type (at 3 10) (named_type (n 0 3 14))) no_exprs)) (more_stmts (foreach (at 4 3) (n 4 4 11) (number (at 4 16) (pos 0)) (number (at 4 19) (pos 100)) (block (at 4 23) (at 4 53) (more_stmts (express (call (n 5 4 25) (more_exprs (unary (at 4 30) Borrow (name (n 3 4 31))) (more_exprs (iso (at 4 35) (block (at 4 39) (at 4 49) (last (call (n 0 4 41) (more_exprs (name (n 4 4 46)) no_exprs))))) no_exprs)))) no_stmts))) (more_stmts (declare (n 6 5 3) (form (parallel_each (at 5 8) (n 7 5 25) (name (n 3 5 30)) (block (at 5 33) (at 9 3) (more_stmts (declare (n 8 6 5) (unary (at 6 9) Merge (name (n 7 6 15)))) (more_stmts (express (set (at 7 5) (steps (name (n 8 7 9)) (more_steps (field (at 7 10) (record { 0 = 1 })) no_steps)) (chain (steps (name (n 8 7 18)) (more_steps (field (at 7 19) (record { 0 = 1 })) no_steps)) (more_links (link (at 7 25) Add (number (at 7 27) (pos 1))) no_links)))) (last (name (n 8 8 5))))))))) (more_stmts (declare (n 9 10 3) (number (at 10 9) (pos 0))) (more_stmts (while (at 11 3) (chain (call (n 10 11 9) (more_exprs (unary (at 11 13) Borrow (name (n 6 11 14))) no_exprs)) (more_links (link (at 11 18) Greater (number (at 11 20) (pos 0))) no_links)) (block (at 11 22) (at 14 3) (more_stmts (declare (n 8 12 5) (unary (at 12 9) Merge (call (n 11 12 15) (more_exprs (unary (at 12 19) Borrow (name (n 6 12 20))) no_exprs)))) (more_stmts (express (set (at 13 5) (name (n 9 13 9)) (chain (name (n 9 13 15)) (more_links (link (at 13 19) Add (steps (name (n 8 13 21)) (more_steps (field (at 13 22) (record { 0 = 1 })) no_steps))) no_links)))) no_stmts)))) (more_stmts (express (call (n 12 15 3) (more_exprs (name (n 9 15 11)) no_exprs))) no_stmts)))))))) ∷ [])

isolates_go_through_a_loop : run fleet 100000 ≡ done 505 (piece 504 (line 5050) ∷ [])
isolates_go_through_a_loop = refl

-- struct Ship { fuel! int; }
-- struct Holder { r &Ship; }
-- func main() {
--   z = Ship(0);
--   xs = []iso Holder();
--   push(&xs, iso {
--     fleet = []Ship();
--     foreach i in 0..100 { push(&fleet, Ship(i)); }
--     Holder(&fleet[0])
--   });
--   parallel foreach x in xs {
--     y = Ship(5);
--     k = merge x;
--     println(k.r.fuel);
--   }
-- }
abbrev holder : Tree
holder = tree (codes "Ship" ∷ codes "fuel" ∷ codes "Holder" ∷ codes "r" ∷ codes "main" ∷ codes "z" ∷ codes "xs" ∷ codes "push" ∷ codes "fleet" ∷ codes "i" ∷ codes "x" ∷ codes "y" ∷ codes "k" ∷ codes "println" ∷ []) (struct_item (n 0 1 8) (field_decl (n 1 1 15) true (int_type (at 1 21)) ∷ []) ∷ struct_item (n 2 2 8) (field_decl (n 3 2 17) false (ref_type (at 2 19) (named_type (n 0 2 20))) ∷ []) ∷ function_item (function (head false (n 4 3 6) ([]) None) (block (at 3 13) (at 16 1) (more_stmts (declare (n 5 4 3) (call (n 0 4 7) (more_exprs (number (at 4 12) (pos 0)) no_exprs))) (more_stmts (declare (n 6 5 3) (array (at 5 8) (iso_type (at 5 10) (named_type (n 2 5 14))) no_exprs)) (more_stmts (express (call (n 7 6 3) (more_exprs (unary (at 6 8) Borrow (name (n 6 6 9))) (more_exprs (iso (at 6 13) (block (at 6 17) (at 10 3) (more_stmts (declare (n 8 7 5) (array (at 7 13) (named_type (n 0 7 15)) no_exprs)) (more_stmts (foreach (at 8 5) (n 9 8 13) (number (at 8 18) (pos 0)) (number (at 8 21) (pos 100)) (block (at 8 25) (at 8 50) (more_stmts (express (call (n 7 8 27) (more_exprs (unary (at 8 32) Borrow (name (n 8 8 33))) (more_exprs (call (n 0 8 40) (more_exprs (name (n 9 8 45)) no_exprs)) no_exprs)))) no_stmts))) (last (call (n 2 9 5) (more_exprs (unary (at 9 12) Borrow (steps (name (n 8 9 13)) (more_steps (index (at 9 18) (number (at 9 19) (pos 0))) no_steps))) no_exprs))))))) no_exprs)))) (last (form (parallel_each (at 11 3) (n 10 11 20) (name (n 6 11 25)) (block (at 11 28) (at 15 3) (more_stmts (declare (n 11 12 5) (call (n 0 12 9) (more_exprs (number (at 12 14) (pos 5)) no_exprs))) (more_stmts (declare (n 12 13 5) (unary (at 13 9) Merge (name (n 10 13 15)))) (more_stmts (express (call (n 13 14 5) (more_exprs (steps (name (n 12 14 13)) (more_steps (field (at 14 14) (record { 0 = 3 })) (more_steps (field (at 14 16) (record { 0 = 1 })) no_steps))) no_exprs))) no_stmts)))))))))))) ∷ [])

a_reference_out_of_a_merged_isolate : run holder 100000 ≡ trapped 309 ([]) DeadReference (at 14 16) (frame (codes "iteration " ++ decimal 0) 11 3 ∷ in_main ∷ [])
a_reference_out_of_a_merged_isolate = refl
