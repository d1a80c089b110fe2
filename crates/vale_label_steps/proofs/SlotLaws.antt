-- What is known at a place, one slot at a time.
use Rattle.std.proofs.Common.{◌≡◌, ℕ, suc, ◌+◌, List, [], ◌∷◌, ◌++◌, length, refl, ap, ◌∙◌, arith}
use Rattle.std.specs.Prelude.{Bool}
use Rattle.vale_rules_spec.specs.Typed as t
use Rattle.vale_core.specs.declared.tree.Expr.{Expr, out-Expr}
use Rattle.vale_core.specs.View.{view_ty, view_expr, exprs_of}
use Rattle.vale_lowering.specs.Scopes.{place_of}
use Rattle.vale_core.proofs.PartLaws.{of_out_expr}
use Rattle.vale_lower_facts.specs.Slots as s
use Rattle.vale_lower_facts.specs.Marks.{with_args}
use Rattle.vale_label_steps.specs.declared.slots.Local.{Local}
use Rattle.vale_label_steps.specs.Standing.{slot_of, framed, waited}

pub type_by_parts : (e : Expr) → t.type (view_expr e) ≡ view_ty (out-Expr e).seen.value
type_by_parts e = ap t.type (of_out_expr e)

pub framed_more : (ls : List Local) (l : Local) (outer : s.Slots) → framed (ls ++ l ∷ []) outer ≡ slot_of l ∷ framed ls outer
framed_more [] l outer = refl
framed_more (m ∷ ls) l outer = framed_more ls l (slot_of m ∷ outer)

pub waited_more : (es : List t.Expr) (e : t.Expr) (h : ℕ) (outer : s.Slots) → waited (es ++ e ∷ []) h outer ≡ s.waits (h + length es) (t.type e) ∷ waited es h outer
waited_more [] e h outer = let q : h ≡ h + 0 = omega arith in ap (λ r. s.waits r (t.type e) ∷ outer) q
waited_more (x ∷ es) e h outer =
    let q : (h + 1) + length es ≡ h + suc (length es) = omega arith in
    waited_more es e (h + 1) (s.waits h (t.type x) ∷ outer)
    ∙ ap (λ r. s.waits r (t.type e) ∷ waited es (h + 1) (s.waits h (t.type x) ∷ outer)) q

-- no name stands for a value that waits
pub waited_names : (n : ℕ) (es : List t.Expr) (h : ℕ) (outer : s.Slots) → place_of n (s.scope_of (waited es h outer)) ≡ place_of n (s.scope_of outer)
waited_names n [] h outer = refl
waited_names n (e ∷ es) h outer = waited_names n es (h + 1) (s.waits h (t.type e) ∷ outer)

pub args_are_waited : (es : List t.Expr) (h : ℕ) (outer : s.Slots) (over : Bool) → with_args (exprs_of es) h (record { slots = outer; over = over }) ≡ record { slots = waited es h outer; over = over }
args_are_waited [] h outer over = refl
args_are_waited (e ∷ es) h outer over = args_are_waited es (h + 1) (s.waits h (t.type e) ∷ outer) over
