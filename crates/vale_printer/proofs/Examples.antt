-- Trees with their canonical texts.
use Rattle.std.proofs.Common.{◌≡◌, ℕ, true, false, [], ◌∷◌, ◌++◌, Some, None, codes, pos, refl}
use Rattle.std.specs.Fmt.{digits}
use Rattle.vale_base.specs.declared.spot.Spot.{Spot}
use Rattle.vale_syntax.specs.declared.tree.NameAt.{NameAt}
use Rattle.vale_syntax.specs.declared.tree.BinaryOp.TheVariants as b
use Rattle.vale_syntax.specs.declared.tree.UnaryOp.TheVariants as u
use Rattle.vale_syntax.specs.Tree as t
use Rattle.vale_syntax.specs.Canon.{canon}

abbrev at : Spot
at = record { line = 1; col = 1 }

abbrev n : ℕ → NameAt
n i = record { name = record { 0 = i }; at = at }

abbrev num : ℕ → t.Expr
num i = t.number at (pos i)

abbrev arg : t.Expr → t.Exprs
arg e = t.more_exprs e t.no_exprs

abbrev plus : t.Expr → t.Expr → t.Expr
plus e f = t.chain e (t.more_links (t.link at b.Add f) t.no_links)

abbrev both : t.Expr → t.Expr → t.Expr
both e f = t.chain e (t.more_links (t.link at b.And f) t.no_links)

abbrev block : t.Stmts → t.Block
block ss = t.block at at ss

abbrev then : t.Stmt → t.Stmts → t.Stmts
then x xs = t.more_stmts x xs

abbrev var : ℕ → t.Expr
var i = t.name (n i)

abbrev main : t.Stmts → t.Item
main ss = t.function_item (t.function (t.head false (n 0) [] None) (block ss))

no_items : canon (t.tree [] []) ≡ []
no_items = refl

-- `func main(){if true{println( 1+2 );}}`
prints_a_sum :
    canon (t.tree (codes "main" ∷ codes "println" ∷ [])
    (main (t.last (t.form (t.branch at (t.truth at true) (block (then (t.express (t.call (n 1) (arg (plus (num 1) (num 2))))) t.no_stmts)) t.no_else))) ∷ []))
    ≡ codes "func main() {\n  if true {\n    println(1 + 2);\n  }\n}\n"
unfolding digits
prints_a_sum = refl

-- words before a `(`, and what stands between the blocks of an `if`
words_before_parens :
    canon (t.tree (codes "main" ∷ codes "a" ∷ [])
    (main
    (then (t.form_stmt (t.branch at (t.paren at (var 1)) (block (then (t.return_value at (t.paren at (num 1))) t.no_stmts))
    (t.more_elses (t.else_if at (t.unary at u.Not (t.paren at (var 1))) (block t.no_stmts)) (t.otherwise (block (then (t.return_nothing at) t.no_stmts))))))
    (then (t.foreach at (n 1) (t.paren at (num 0)) (t.paren at (num 12)) (block (then (t.express (both (t.unary at u.Minus (var 1)) (t.paren at (t.unary at u.Not (var 1))))) t.no_stmts)))
    t.no_stmts)) ∷ []))
    ≡ codes "func main() {\n  if(a) {\n    return(1);\n  } else if not(a) {\n  } else {\n    return;\n  }\n  foreach a in (0)..(12) {\n    -a and (not a);\n  }\n}\n"
unfolding digits
words_before_parens = refl

-- fields, heads, methods and types
items :
    canon (t.tree (codes "S" ∷ codes "a" ∷ codes "I" ∷ codes "m" ∷ codes "self" ∷ [])
    (t.struct_item (n 0) []
    ∷ t.struct_item (n 0) (t.field_decl (n 1) true (t.int_type at) ∷ t.field_decl (n 1) false (t.array_type at (t.array_type at (t.str_type at))) ∷ [])
    ∷ t.interface_item (n 2) (t.head true (n 3) (t.param (n 4) (t.imm_ref_type at (t.named_type (n 2))) ∷ t.param (n 1) (t.iso_type at (t.array_type at (t.bool_type at))) ∷ []) (Some (t.ref_type at (t.named_type (n 0)))) ∷ [])
    ∷ t.impl_item at (n 2) (n 0) (t.function (t.head false (n 3) [] None) (block (t.last (t.array at (t.int_type at) (arg (num 1))))) ∷ [])
    ∷ []))
    ≡ codes "struct S {\n}\nstruct S {\n  a! int;\n  a [][]str;\n}\ninterface I {\n  pure func m(self &imm I, a iso []bool) &S;\n}\nimpl I for S {\n  func m() {\n    []int(1)\n  }\n}\n"
unfolding digits
items = refl

-- a block inside an expression: what follows its `}` stands after it
blocks_inside :
    canon (t.tree (codes "main" ∷ codes "x" ∷ codes "f" ∷ [])
    (main
    (then (t.declare (n 1) (t.form (t.parallel_range at (n 1) (num 0) (plus (num 8) (num 1)) (block (t.last (t.call (n 2) (t.more_exprs (t.iso at (block (t.last (t.call (n 2) t.no_exprs)))) (arg (t.steps (var 1) (t.more_steps (t.field at (record { 0 = 2 })) (t.more_steps (t.index at (num 0)) t.no_steps)))))))))))
    (then (t.destructure at (n 1 ∷ n 2 ∷ []) (t.unary at u.Merge (var 1)))
    (then (t.express (t.set at (var 1) (t.quote at (97 ∷ 10 ∷ 9 ∷ 92 ∷ 34 ∷ 13 ∷ 200 ∷ []))))
    (then (t.while at (t.truth at false) (block t.no_stmts))
    t.no_stmts)))) ∷ []))
    ≡ codes "func main() {\n  x = parallel foreach x in 0..8 + 1 {\n    f(iso {\n      f()\n    }, x.f[0])\n  };\n  [x, f] = merge x;\n  set x = \"a\\n\\t\\\\\\\"\r" ++ 200 ∷ codes "\";\n  while false {\n  }\n}\n"
unfolding digits
blocks_inside = refl
