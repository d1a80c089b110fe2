-- The types of a program that fit: what the law asks can be met.
use Rattle.std.proofs.Common.{◌≡◌, ℕ, List, [], ◌∷◌, Option, Some, None, ◌⊎◌, inl, inr, refl, sym, ap}
use Rattle.std.specs.Prelude.{slice_get}
use Rattle.vale_syntax.specs.declared.tree.UnaryOp.TheVariants.{Borrow}
use Rattle.vale_rules_spec.specs.Judged.{Judged, fine, faulty}
use Rattle.vale_rules_spec.specs.Types as y
use Rattle.vale_rules_spec.specs.Typed.{Typed, Function}
use Rattle.vale_rules_spec.specs.Typing.{typed, entry}
use Rattle.vale_syntax.specs.Tree.{unary, declare, return_value, set, Item, tree}
use Rattle.vale_model.specs.Kinds.{head_of, body_of}
use Rattle.vale_model.specs.Parts.{parts_of}
use Rattle.vale_code.specs.declared.func.Func.{Func}
use Rattle.vale_code.specs.declared.ty.Ty.{Ty as CodeTy}
use Rattle.vale_code.specs.declared.ty.Ty.TheVariants as t
use Rattle.vale_lowering_objects.specs.Code.{lowered, lowered_function, functions_in, texts_of}
use Rattle.vale_object_facts.specs.Suits.{block_suits}
use Rattle.vale_object_facts.proofs.Examples.{at, n, P, a, b, f, p, main, x, r, println, names, v, num, dot, from, calls, run, does, func, takes, int, kind, struct_p, new_p}

-- struct P { a int; b! int }
-- func f(p P) int { return p.a; }
-- func main() { x = P(1, 2); r = &x; set r.b = 3; println(f(x)); }
abbrev items : List Item
items =
    struct_p ∷ func f (takes p (kind P) ∷ []) (Some int) (run (return_value at (from (v p) (dot a)) ∷ []))
    ∷ func main [] None (run
    (declare (n x) (new_p (num 1) (num 2)) ∷ declare (n r) (unary at Borrow (v x)) ∷ does (set at (from (v r) (dot b)) (num 3)) ∷ does (calls println (calls f (v x ∷ []) ∷ [])) ∷ []))
    ∷ []

abbrev asked_by : Typed → Option Function → Type 0
asked_by program None = ⊥
asked_by program (Some g) = block_suits (parts_of program) (lowered program) (functions_in (parts_of program)) (entry (head_of g)) y.void (body_of g)

-- what is asked of a function
abbrev asked_of : Judged Typed → ℕ → Type 0
asked_of (fine program) j = asked_by program (slice_get (functions_in (parts_of program)) j)
asked_of (faulty g gs) j = ⊥

abbrev lowered_by : Typed → Option Function → Option Func
lowered_by program None = None
lowered_by program (Some g) = let q = parts_of program in Some (lowered_function q (texts_of q (functions_in q)) (functions_in q) g)

abbrev form_of : Option Func → ℕ
form_of None = 0
form_of (Some g) = g.form

abbrev params_of : Option Func → List CodeTy
params_of None = []
params_of (Some g) = g.params

abbrev result_of : Option Func → CodeTy
result_of None = t.Void
result_of (Some g) = g.result

abbrev the_owner : y.Ty
the_owner = y.kind P

-- f
first_suits : asked_of (typed (tree names items)) 0
first_suits = (
  refl,
  (
    (
      refl,
      (
        (the_owner, record { is = record { name = p; ty = the_owner; depth = 0 }; found = refl; typed = refl; depth = refl }, (refl, refl)),
        (y.int, record { struct = P; object = refl; place = 0; found = refl; cell = refl }, (refl, refl)),
        tt,
        refl,
      ),
    ),
    refl,
  ),
)

abbrev func_by : Typed → ℕ → Option Func
func_by program j = lowered_by program (slice_get (functions_in (parts_of program)) j)

abbrev lowered_func : Judged Typed → Option Func
lowered_func (fine program) = func_by program 0
lowered_func (faulty g gs) = None

-- `main`, where f is lowered to this
second_suits : (g : Func) → lowered_func (typed (tree names items)) ≡ Some g → asked_of (typed (tree names items)) 1
second_suits g is = (
  refl,
  (
    (refl, ((refl, refl), (refl, (refl, tt)))),
    (
      (refl, (the_owner, record { is = record { name = x; ty = the_owner; depth = 0 }; found = refl; typed = refl; depth = refl }, (refl, refl), refl)),
      (
        (
          (
            (y.ref the_owner, record { is = record { name = r; ty = y.ref the_owner; depth = 0 }; found = refl; typed = refl; depth = refl }, inr refl),
            (refl, record { struct = P; object = refl; place = 1; found = refl; cell = refl }),
          ),
          refl,
          refl,
        ),
        (
          (
            (refl, refl),
            (
              (
                record { func = g; here = is; plain = ap (λ o. form_of o) (sym is); takes = ap (λ o. params_of o) (sym is); gives = ap (λ o. result_of o) (sym is) },
                (record { is = record { name = x; ty = the_owner; depth = 0 }; found = refl; typed = refl; depth = refl }, tt),
              ),
              tt,
            ),
          ),
          refl,
        ),
      ),
    ),
  ),
)
