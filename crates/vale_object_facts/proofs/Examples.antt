-- Codes with owners that their facts certify, by computation; and that the facts are needed.
use Rattle.std.proofs.Common.{◌≡◌, ℕ, List, [], ◌∷◌, Option, Some, None, map, refl}
use Rattle.std.specs.Prelude.{true, false, codes, pos}
use Rattle.vale_base.specs.declared.spot.Spot.{Spot}
use Rattle.vale_syntax.specs.declared.tree.BinaryOp.{BinaryOp}
use Rattle.vale_syntax.specs.declared.tree.BinaryOp.TheVariants.{Less, Add, Or, And}
use Rattle.vale_syntax.specs.declared.tree.UnaryOp.TheVariants.{Minus, Not, Borrow}
use Rattle.vale_syntax.specs.declared.tree.NameAt.{NameAt}
use Rattle.vale_rules_spec.specs.Judged.{Judged, fine, faulty}
use Rattle.vale_rules_spec.specs.Typed.{Typed}
use Rattle.vale_rules_spec.specs.Typing.{typed}
use Rattle.vale_syntax.specs.Tree.{TypeExpr, int_type, named_type, array_type, ref_type, Expr, set, chain, unary, steps, number, truth, name, call, array, form, Exprs, no_exprs, more_exprs, link, no_links, more_links, Step, field, index, no_steps, more_steps, branch, pure, otherwise, no_else, Block, block, Stmt, declare, destructure, return_value, return_nothing, while, foreach, form_stmt, express, Stmts, no_stmts, last, more_stmts, Param, param, head, function, field_decl, Item, struct_item, function_item, tree}
use Rattle.vale_cert.specs.Certificate.{first_fault}
use Rattle.vale_cert.specs.declared.facts.FuncFacts.{FuncFacts}
use Rattle.vale_cert.specs.declared.fault.Fault.{Fault}
use Rattle.vale_lowering_objects.specs.Code.{lowered}
use Rattle.vale_object_facts.specs.Facts.{facts}

abbrev pub at : Spot
at = record { line = 1; col = 1 }

abbrev pub n : ℕ → NameAt
n k = record { name = record { 0 = k }; at = at }

-- the names
abbrev pub P : ℕ
P = 0

abbrev pub a : ℕ
a = 1

abbrev pub b : ℕ
b = 2

abbrev pub f : ℕ
f = 3

abbrev pub p : ℕ
p = 4

abbrev pub main : ℕ
main = 5

abbrev pub x : ℕ
x = 6

abbrev pub y : ℕ
y = 7

abbrev pub r : ℕ
r = 8

abbrev pub println : ℕ
println = 9

abbrev pub drop : ℕ
drop = 10

abbrev pub len : ℕ
len = 11

abbrev pub push : ℕ
push = 12

abbrev pub pop : ℕ
pop = 13

abbrev pub i : ℕ
i = 14

abbrev pub Q : ℕ
Q = 15

abbrev pub S : ℕ
S = 16

abbrev pub c : ℕ
c = 17

abbrev pub names : List (List ℕ)
names =
    codes "P" ∷ codes "a" ∷ codes "b" ∷ codes "f" ∷ codes "p" ∷ codes "main" ∷ codes "x" ∷ codes "y" ∷ codes "r" ∷ codes "println" ∷ codes "drop" ∷ codes "len"
    ∷ codes "push" ∷ codes "pop" ∷ codes "i" ∷ codes "Q" ∷ codes "S" ∷ codes "c" ∷ []

abbrev pub v : ℕ → Expr
v k = name (n k)

abbrev pub num : ℕ → Expr
num k = number at (pos k)

abbrev pub dot : ℕ → Step
dot k = field at (record { 0 = k })

abbrev pub from : Expr → Step → Expr
from e s = steps e (more_steps s no_steps)

abbrev pub from2 : Expr → Step → Step → Expr
from2 e s t = steps e (more_steps s (more_steps t no_steps))

abbrev pub from3 : Expr → Step → Step → Step → Expr
from3 e s t u = steps e (more_steps s (more_steps t (more_steps u no_steps)))

abbrev pub all_of : List Expr → Exprs
all_of [] = no_exprs
all_of (e ∷ es) = more_exprs e (all_of es)

abbrev pub calls : ℕ → List Expr → Expr
calls k es = call (n k) (all_of es)

abbrev pub op : BinaryOp → Expr → Expr → Expr
op o e d = chain e (more_links (link at o d) no_links)

abbrev pub ends : List Stmt → Stmts → Stmts
ends [] l = l
ends (s ∷ ss) l = more_stmts s (ends ss l)

abbrev pub run : List Stmt → Block
run ss = block at at (ends ss no_stmts)

abbrev pub gives : List Stmt → Expr → Block
gives ss e = block at at (ends ss (last e))

abbrev pub does : Expr → Stmt
does e = express e

abbrev pub if_else : Expr → Block → Block → Expr
if_else c d e = form (branch at c d (otherwise e))

abbrev pub func : ℕ → List Param → Option TypeExpr → Block → Item
func k ps t d = function_item (function (head false (n k) ps t) d)

abbrev pub takes : ℕ → TypeExpr → Param
takes k t = param (n k) t

abbrev pub int : TypeExpr
int = int_type at

abbrev pub kind : ℕ → TypeExpr
kind k = named_type (n k)

-- struct P { a int; b! int }
abbrev pub struct_p : Item
struct_p = struct_item (n P) (field_decl (n a) false int ∷ field_decl (n b) true int ∷ [])

-- struct Q { p! P; a int }
abbrev pub struct_q : Item
struct_q = struct_item (n Q) (field_decl (n p) true (kind P) ∷ field_decl (n a) false int ∷ [])

-- struct S { c! []P; p P }
abbrev pub struct_s : Item
struct_s = struct_item (n S) (field_decl (n c) true (array_type at (kind P)) ∷ field_decl (n p) false (kind P) ∷ [])

abbrev pub new_p : Expr → Expr → Expr
new_p d e = calls P (d ∷ e ∷ [])

-- the first broken rule, where the types of the program are lawful
abbrev pub fault_of : (Typed → List FuncFacts) → Judged Typed → Option (Option Fault)
fault_of given (fine program) = Some (first_fault (lowered program) (given program))
fault_of given (faulty g gs) = None

abbrev pub fault_in : List Item → Option (Option Fault)
fault_in items = fault_of facts (typed (tree names items))

-- func f(p P) int { return p.a; }
-- func main() { x = P(1, 2); set x.b = 3; y = x; println(y.b); r = &y; println(r.a); println(f(y)); }
structs : fault_in
    (struct_p ∷ func f (takes p (kind P) ∷ []) (Some int) (run (return_value at (from (v p) (dot a)) ∷ []))
    ∷ func main [] None (run
    (declare (n x) (new_p (num 1) (num 2)) ∷ does (set at (from (v x) (dot b)) (num 3)) ∷ declare (n y) (v x) ∷ does (calls println (from (v y) (dot b) ∷ []))
    ∷ declare (n r) (unary at Borrow (v y)) ∷ does (calls println (from (v r) (dot a) ∷ [])) ∷ does (calls println (calls f (v y ∷ []) ∷ [])) ∷ []))
    ∷ []) ≡ Some None
structs = refl

-- func main() { x = []int(1, 2); push(&x, 3); y = pop(&x); println(x[0] + y); println(len(&x)); set x[1] = 5; println(x[y]); }
arrays : fault_in
    (func main [] None (run
    (declare (n x) (array at int (all_of (num 1 ∷ num 2 ∷ []))) ∷ does (calls push (unary at Borrow (v x) ∷ num 3 ∷ [])) ∷ declare (n y) (calls pop (unary at Borrow (v x) ∷ []))
    ∷ does (calls println (op Add (from (v x) (index at (num 0))) (v y) ∷ [])) ∷ does (calls println (calls len (unary at Borrow (v x) ∷ []) ∷ []))
    ∷ does (set at (from (v x) (index at (num 1))) (num 5)) ∷ does (calls println (from (v x) (index at (v y)) ∷ [])) ∷ []))
    ∷ []) ≡ Some None
arrays = refl

-- func main() { x = []P(P(1, 2)); set x[0] = P(3, 4); push(&x, P(5, 6)); println(x[0].a); set x[0].b = 7; pop(&x); P(8, 9); }
owners_in_arrays : fault_in
    (struct_p ∷ func main [] None (run
    (declare (n x) (array at (kind P) (all_of (new_p (num 1) (num 2) ∷ []))) ∷ does (set at (from (v x) (index at (num 0))) (new_p (num 3) (num 4)))
    ∷ does (calls push (unary at Borrow (v x) ∷ new_p (num 5) (num 6) ∷ [])) ∷ does (calls println (from2 (v x) (index at (num 0)) (dot a) ∷ []))
    ∷ does (set at (from2 (v x) (index at (num 0)) (dot b)) (num 7)) ∷ does (calls pop (unary at Borrow (v x) ∷ [])) ∷ does (new_p (num 8) (num 9)) ∷ []))
    ∷ []) ≡ Some None
owners_in_arrays = refl

-- func main() { [x, y] = Q(P(1, 2), 3); println(x.a + y); [p, r] = x; println(p); y }
destructuring : fault_in
    (struct_p ∷ struct_q ∷ func main [] None (run
    (destructure at (n x ∷ n y ∷ []) (calls Q (new_p (num 1) (num 2) ∷ num 3 ∷ [])) ∷ does (calls println (op Add (from (v x) (dot a)) (v y) ∷ []))
    ∷ destructure at (n i ∷ n r ∷ []) (calls Q (new_p (num 1) (num 2) ∷ num 3 ∷ [])) ∷ destructure at (n p ∷ n f ∷ []) (v x) ∷ does (calls println (v p ∷ [])) ∷ []))
    ∷ []) ≡ Some None
destructuring = refl

-- func drop(p P) { [x, y] = p; println(x); }
-- func main() { x = P(1, 2); y = Q(P(3, 4), 5); drop(x); P(6, 7); }
destructors : fault_in
    (struct_p ∷ struct_q ∷ func drop (takes p (kind P) ∷ []) None (run (destructure at (n x ∷ n y ∷ []) (v p) ∷ does (calls println (v x ∷ [])) ∷ []))
    ∷ func main [] None (run
    (declare (n x) (new_p (num 1) (num 2)) ∷ declare (n y) (calls Q (new_p (num 3) (num 4) ∷ num 5 ∷ [])) ∷ does (calls drop (v x ∷ [])) ∷ does (new_p (num 6) (num 7)) ∷ []))
    ∷ []) ≡ Some None
destructors = refl

-- func f(p P, i int) int { return i; }
-- func main() { x = P(0, 0); println(f(P(1, 2), if true { y = P(3, 4); return; 1 } else { 2 })); println(x.a); return; println(5); }
returns : fault_in
    (struct_p ∷ func f (takes p (kind P) ∷ takes i int ∷ []) (Some int) (run (return_value at (v i) ∷ []))
    ∷ func main [] None (run
    (declare (n x) (new_p (num 0) (num 0))
    ∷ does (calls println (calls f (new_p (num 1) (num 2) ∷ if_else (truth at true) (gives (declare (n y) (new_p (num 3) (num 4)) ∷ return_nothing at ∷ []) (num 1)) (gives [] (num 2)) ∷ []) ∷ []))
    ∷ does (calls println (from (v x) (dot a) ∷ [])) ∷ return_nothing at ∷ does (calls println (num 5 ∷ [])) ∷ []))
    ∷ []) ≡ Some None
returns = refl

-- func main() { x = P(0, 1); foreach i in 0..3 { y = P(i, i); set x.b = x.b + y.a; } while x.b < 5 { set x.b = x.b + 1; y = x.b; println(y); } }
loops : fault_in
    (struct_p ∷ func main [] None (run
    (declare (n x) (new_p (num 0) (num 1))
    ∷ foreach at (n i) (num 0) (num 3) (run (declare (n y) (new_p (v i) (v i)) ∷ does (set at (from (v x) (dot b)) (op Add (from (v x) (dot b)) (from (v y) (dot a)))) ∷ []))
    ∷ while at (op Less (from (v x) (dot b)) (num 5)) (run (does (set at (from (v x) (dot b)) (op Add (from (v x) (dot b)) (num 1))) ∷ declare (n y) (from (v x) (dot b)) ∷ does (calls println (v y ∷ [])) ∷ []))
    ∷ []))
    ∷ []) ≡ Some None
loops = refl

-- func main() { x = P(1, 2); if true and not false { y = x; println(y.a); } else { if 1 < 2 or true { drop(x); } else { p = x; } } println(-3); }
branches : fault_in
    (struct_p ∷ func main [] None (run
    (declare (n x) (new_p (num 1) (num 2))
    ∷ form_stmt (branch at (op And (truth at true) (unary at Not (truth at false))) (run (declare (n y) (v x) ∷ does (calls println (from (v y) (dot a) ∷ [])) ∷ []))
    (otherwise (run (form_stmt (branch at (op Or (op Less (num 1) (num 2)) (truth at true)) (run (does (calls drop (v x ∷ [])) ∷ [])) (otherwise (run (declare (n p) (v x) ∷ [])))) ∷ []))))
    ∷ does (calls println (unary at Minus (num 3) ∷ [])) ∷ []))
    ∷ []) ≡ Some None
branches = refl

-- func f(r &P) int { set r.b = 9; return r.a; }
-- func main() { x = Q(P(1, 2), 3); println(f(x.p)); r = &x; set r.p.b = 4; y = r; set y.p = P(5, 6); println(r.p.b); p = set x.p = P(7, 8); }
references : fault_in
    (struct_p ∷ struct_q ∷ func f (takes r (ref_type at (kind P)) ∷ []) (Some int) (run (does (set at (from (v r) (dot b)) (num 9)) ∷ return_value at (from (v r) (dot a)) ∷ []))
    ∷ func main [] None (run
    (declare (n x) (calls Q (new_p (num 1) (num 2) ∷ num 3 ∷ [])) ∷ does (calls println (calls f (unary at Borrow (from (v x) (dot p)) ∷ []) ∷ [])) ∷ declare (n r) (unary at Borrow (v x))
    ∷ does (set at (from2 (v r) (dot p) (dot b)) (num 4)) ∷ declare (n y) (v r) ∷ does (set at (from (v y) (dot p)) (new_p (num 5) (num 6)))
    ∷ does (calls println (from2 (v r) (dot p) (dot b) ∷ [])) ∷ declare (n p) (set at (from (v x) (dot p)) (new_p (num 7) (num 8))) ∷ []))
    ∷ []) ≡ Some None
references = refl

-- an index with labels, which say what leads to the place that it is of
abbrev pub either : ℕ → ℕ → Expr
either k l = if_else (truth at true) (gives [] (num k)) (gives [] (num l))

-- func main() {
--   x = S([]P(P(1, 2), P(3, 4)), P(5, 6));
--   println(x.c[if true { 0 } else { 1 }].b); set x.c[if true { 1 } else { 0 }].b = 4; r = &x.c[if true { 0 } else { 1 }];
--   set r.b = 7; y = set x.c[if true { 0 } else { 1 }] = P(8, 9); println(x.p.a); set x.c = []P(P(1, 1));
-- }
nested_places : fault_in
    (struct_p ∷ struct_s ∷ func main [] None (run
    (declare (n x) (calls S (array at (kind P) (all_of (new_p (num 1) (num 2) ∷ new_p (num 3) (num 4) ∷ [])) ∷ new_p (num 5) (num 6) ∷ []))
    ∷ does (calls println (from3 (v x) (dot c) (index at (either 0 1)) (dot b) ∷ [])) ∷ does (set at (from3 (v x) (dot c) (index at (either 1 0)) (dot b)) (num 4))
    ∷ declare (n r) (unary at Borrow (from2 (v x) (dot c) (index at (either 0 1)))) ∷ does (set at (from (v r) (dot b)) (num 7))
    ∷ declare (n y) (set at (from2 (v x) (dot c) (index at (either 0 1))) (new_p (num 8) (num 9))) ∷ does (calls println (from2 (v x) (dot p) (dot a) ∷ []))
    ∷ does (set at (from (v x) (dot c)) (array at (kind P) (all_of (new_p (num 1) (num 1) ∷ [])))) ∷ []))
    ∷ []) ≡ Some None
nested_places = refl

-- func main() { x = [][]int([]int(1)); println(x[0][if true { 0 } else { 0 }]); set x[0][if true { 0 } else { 0 }] = 2; println(x[if true { return; 0 } else { return; 0 }][0]); }
nested_arrays : fault_in
    (func main [] None (run
    (declare (n x) (array at (array_type at int) (all_of (array at int (all_of (num 1 ∷ [])) ∷ []))) ∷ does (calls println (from2 (v x) (index at (num 0)) (index at (either 0 0)) ∷ []))
    ∷ does (set at (from2 (v x) (index at (num 0)) (index at (either 0 0))) (num 2))
    ∷ does (calls println (from2 (v x) (index at (if_else (truth at true) (gives (return_nothing at ∷ []) (num 0)) (gives (return_nothing at ∷ []) (num 0)))) (index at (num 0)) ∷ [])) ∷ []))
    ∷ []) ≡ Some None
nested_arrays = refl

-- func main() { x = P(1, 2); set x = P(3, 4); y = set x = P(5, 6); i = 1; p = set i = 2; set i = p; println(set i = 3); }
sets : fault_in
    (struct_p ∷ func main [] None (run
    (declare (n x) (new_p (num 1) (num 2)) ∷ does (set at (v x) (new_p (num 3) (num 4))) ∷ declare (n y) (set at (v x) (new_p (num 5) (num 6))) ∷ declare (n i) (num 1)
    ∷ declare (n p) (set at (v i) (num 2)) ∷ does (set at (v i) (v p)) ∷ does (calls println (set at (v i) (num 3) ∷ [])) ∷ []))
    ∷ []) ≡ Some None
sets = refl

-- func main() { x = P(1, 2); while true { if true { return; } println(x.a); return; println(1); } }
dead_turns : fault_in
    (struct_p ∷ func main [] None (run
    (declare (n x) (new_p (num 1) (num 2))
    ∷ while at (truth at true) (run (form_stmt (branch at (truth at true) (run (return_nothing at ∷ [])) no_else) ∷ does (calls println (from (v x) (dot a) ∷ [])) ∷ return_nothing at ∷ does (calls println (num 1 ∷ [])) ∷ []))
    ∷ []))
    ∷ []) ≡ Some None
dead_turns = refl

-- No rule allows a freeze yet: func main() { pure { } }
freezes_are_refused : fault_in (func main [] None (run (form_stmt (pure at (run [])) ∷ [])) ∷ []) ≡ Some (Some (record { rule = 2; at = 0 }))
freezes_are_refused = refl

abbrev pub bare : FuncFacts → FuncFacts
bare g = record { live = g.live; labels = [] }

-- without labels no code with jumps is certified
labels_are_asked :
    fault_of (λ program. map bare (facts program)) (typed (tree names (func main [] None (run (while at (truth at false) (run []) ∷ [])) ∷ []))) ≡ Some (Some (record { rule = 7; at = 0 }))
labels_are_asked = refl
