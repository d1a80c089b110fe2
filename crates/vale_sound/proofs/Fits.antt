-- Types that fit are equal where values of them are copied, and what is known of a local then.
use Rattle.std.proofs.Common.{◌≡◌, ℕ, Bool, true, false, not, ◌&&◌, ◌==◌, List, [], ◌∷◌, Option, Some, None, if◌then◌else◌, refl, ap, ◌∙◌}
use Rattle.std.specs.List.{list_all}
use Rattle.std.proofs.lemmas.Bool.{false≢true, and_parts, eqb-true}
use Rattle.vale_syntax.specs.declared.built_in.BuiltIn.{BuiltIn}
use Rattle.vale_syntax.specs.declared.built_in.BuiltIn.TheVariants as b
use Rattle.vale_syntax.specs.declared.tree.BinaryOp.{BinaryOp}
use Rattle.vale_syntax.specs.declared.tree.BinaryOp.TheVariants as o
use Rattle.vale_syntax.specs.Tree.{Item, Head, head}
use Rattle.vale_rules_spec.specs.Declarations.{head_params}
use Rattle.vale_rules_spec.specs.Types.{Ty, void, int, bool, str, kind, array, ref, imm, iso, same, is_void, object_of, result_of, Local, view_here, as_frozen, local_seen, fits}
use Rattle.vale_rules_spec.specs.Typed as t
use Rattle.vale_rules_spec.specs.TypeRules.{all_fit, takes_operands, link_gives, takes_arguments, head_gives}
use Rattle.vale_served_spec.specs.Served.{type_is_served, expr_is_served, node_is_served, exprs_are_served, built_in_is_served, block_is_served, param_is_served, function_is_served}
use Rattle.vale_lowering.specs.Scopes.{head_result}

pub impossible : {A : Type 0} → false ≡ true → A
impossible e = absurd (false≢true e)

pub not_true : (a : Bool) → not a ≡ true → a ≡ false
not_true true e = impossible e
not_true false e = refl

-- ---- equal types

pub same_is : (x y : Ty) → same x y ≡ true → x ≡ y
same_is void void e = refl
same_is int int e = refl
same_is bool bool e = refl
same_is str str e = refl
same_is (kind m) (kind n) e = ap kind (eqb-true m n e)
same_is (array x) (array y) e = ap array (same_is x y e)
same_is (ref x) (ref y) e = ap ref (same_is x y e)
same_is (imm x) (imm y) e = ap imm (same_is x y e)
same_is (iso x) (iso y) e = ap iso (same_is x y e)
same_is _ _ e = impossible e

pub void_is : (x : Ty) → is_void x ≡ true → x ≡ void
void_is void e = refl
void_is _ e = impossible e

-- a type that fits is the one that is asked for
pub covered_fits : (items : List Item) (x y : Ty) → type_is_served x ≡ true → fits items x y ≡ true → x ≡ y
covered_fits items void y c e = same_is void y e
covered_fits items int y c e = same_is int y e
covered_fits items bool y c e = same_is bool y e
covered_fits items str y c e = same_is str y e
covered_fits items (kind n) y c e = impossible c
covered_fits items (array x) y c e = impossible c
covered_fits items (ref x) y c e = impossible c
covered_fits items (imm x) y c e = impossible c
covered_fits items (iso x) y c e = impossible c

-- ---- expressions

pub covered_type : (e : t.Expr) → expr_is_served e ≡ true → type_is_served (t.type e) ≡ true
covered_type (t.expr s node) c = (and_parts (type_is_served s.value) (node_is_served node) c).0

pub args_fit : (items : List Item) (es : t.Exprs) (takes : List Ty) → exprs_are_served es ≡ true → all_fit items false (t.types es) takes ≡ true → t.types es ≡ takes
args_fit items t.no_exprs [] c e = refl
args_fit items t.no_exprs (x ∷ xs) c e = impossible e
args_fit items (t.more_exprs a es) [] c e = impossible e
args_fit items (t.more_exprs a es) (x ∷ xs) c e =
    let p = and_parts (expr_is_served a) (exprs_are_served es) c in
    let q = and_parts (fits items (t.type a) x) (all_fit items false (t.types es) xs) e in
    ap (λ y. y ∷ t.types es) (covered_fits items (t.type a) x (covered_type a p.0) q.0) ∙ ap (λ ys. x ∷ ys) (args_fit items es xs p.1 q.1)

-- an operator gives a value
pub gives_value : (op : BinaryOp) (x y : Ty) → takes_operands op x y ≡ true → is_void (link_gives op x) ≡ false
gives_value o.Add void y e = impossible e
gives_value o.Add int y e = refl
gives_value o.Add bool y e = refl
gives_value o.Add str y e = refl
gives_value o.Add (kind n) y e = refl
gives_value o.Add (array x) y e = refl
gives_value o.Add (ref x) y e = refl
gives_value o.Add (imm x) y e = refl
gives_value o.Add (iso x) y e = refl
gives_value o.Or x y e = refl
gives_value o.And x y e = refl
gives_value o.Equal x y e = refl
gives_value o.NotEqual x y e = refl
gives_value o.Less x y e = refl
gives_value o.LessEqual x y e = refl
gives_value o.Greater x y e = refl
gives_value o.GreaterEqual x y e = refl
gives_value o.Sub x y e = refl
gives_value o.Mul x y e = refl
gives_value o.Div x y e = refl
gives_value o.Rem x y e = refl

-- ---- locals

frozen_type : (x : Ty) → type_is_served (as_frozen x (object_of x)).value ≡ true → x ≡ (as_frozen x (object_of x)).value
frozen_type void c = refl
frozen_type int c = refl
frozen_type bool c = refl
frozen_type str c = refl
frozen_type (kind n) c = impossible c
frozen_type (array x) c = impossible c
frozen_type (ref x) c = impossible c
frozen_type (imm x) c = impossible c
frozen_type (iso x) c = impossible c

-- as it is seen, its type is its own
pub seen_type : (depth : ℕ) (l : Local) → type_is_served (local_seen depth l).value ≡ true → l.ty ≡ (local_seen depth l).value
seen_type depth l = by (l.depth == depth)
  where
    by : (here : Bool) → type_is_served (if here then record { value = l.ty; view = view_here l.ty; place = Some l.ty } else as_frozen l.ty (object_of l.ty)).value ≡ true
        → l.ty ≡ (if here then record { value = l.ty; view = view_here l.ty; place = Some l.ty } else as_frozen l.ty (object_of l.ty)).value
    by true c = refl
    by false c = frozen_type l.ty c

frozen_place : (x : Ty) (o : Option Ty) → (as_frozen x o).place ≡ Some x
frozen_place x None = refl
frozen_place x (Some y) = refl

pub seen_place : (depth : ℕ) (l : Local) → (local_seen depth l).place ≡ Some l.ty
seen_place depth l = by (l.depth == depth)
  where
    by : (here : Bool) → (if here then record { value = l.ty; view = view_here l.ty; place = Some l.ty } else as_frozen l.ty (object_of l.ty)).place ≡ Some l.ty
    by true = refl
    by false = frozen_place l.ty (object_of l.ty)

-- ---- calls

pub same_gives : (h : Head) → head_gives h ≡ head_result h
same_gives (head is_pure n ps x) = refl

-- what it takes doesn't depend on the items
pub same_takes : (items : List Item) (f : BuiltIn) (xs : List Ty) → built_in_is_served f ≡ true → takes_arguments items f xs ≡ true → takes_arguments [] f xs ≡ true
same_takes items b.Print xs c e = e
same_takes items b.Println xs c e = e
same_takes items b.Drop xs c e = impossible c
same_takes items b.Len xs c e = e
same_takes items b.Push xs c e = impossible c
same_takes items b.Pop xs c e = impossible c
same_takes items b.Text xs c e = e
same_takes items b.Slice xs c e = e
same_takes items b.Byte xs c e = e
same_takes items b.IsNumber xs c e = e
same_takes items b.Number xs c e = e

-- ---- what is known of a function all of which is served

pub record ServedFunction (h : Head) (b : t.Block) : Type 0 where
  pub copies : list_all param_is_served (head_params h) ≡ true
  pub body : block_is_served b ≡ true

pub served_function : (h : Head) (b : t.Block) → function_is_served (t.function_body h b) ≡ true → ServedFunction h b
served_function (head is_pure n ps x) b e =
    let a = and_parts (not is_pure && list_all param_is_served ps && type_is_served (result_of x)) (block_is_served b) e in
    let c = and_parts (not is_pure && list_all param_is_served ps) (type_is_served (result_of x)) a.0 in
    record { copies = (and_parts (not is_pure) (list_all param_is_served ps) c.0).1; body = a.1 }
