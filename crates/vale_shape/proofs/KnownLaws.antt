-- Pairs in a set: which implementations it knows, and what one more adds.
use Rattle.std.proofs.Common.{◌≡◌, ℕ, List, [], ◌∷◌, ◌++◌, Bool, true, false, cond, ◌||◌, ◌&&◌, refl, sym, ap, ap₂, ◌∙◌, arith}
use Rattle.std.specs.Prelude.{◌==◌, nat_lt}
use Rattle.std.specs.List.{list_any}
use Rattle.std.specs.Ordering.{nat_cmp, is_eq, ordering_then}
use Rattle.std.specs.declared.cmp.Ordering.{Ordering}
use Rattle.std.specs.declared.cmp.Ordering.TheVariants.{Less, Equal, Greater}
use Rattle.std.proofs.Math.Path.{fun_ext}
use Rattle.std.proofs.lemmas.List.Folds.{list_any-append}
use Rattle.vale_base.specs.declared.name.Kind.{Kind}
use Rattle.vale_code.specs.Kinds.{is_for}
use Rattle.vale_code.specs.declared.func.Impl.{Impl}
use Rattle.vale_cert.specs.Objects.{is_implemented}
use Rattle.vale_cert.specs.Shape.{same_pair}
use Rattle.vale_shape.specs.Known.{pair_cmp}

other_if_less : (x y : ℕ) → nat_lt x y ≡ true → false ≡ (x == y)
other_if_less x y lt = grind (arith, lt)

equal_where : (b : Bool) → is_eq (cond b Equal Greater) ≡ b
equal_where true = refl
equal_where false = refl

is_eq_nat : (x y : ℕ) → is_eq (nat_cmp x y) ≡ (x == y)
is_eq_nat x y =
    elim (nat_lt x y) as (λ b. nat_lt x y ≡ b → is_eq (cond b Less (cond (x == y) Equal Greater)) ≡ (x == y)) [
      | true ↦ λ lt. other_if_less x y lt
      | false ↦ λ ge. equal_where (x == y)
    ] refl

is_eq_then : (r s : Ordering) → is_eq (ordering_then r s) ≡ (is_eq r && is_eq s)
is_eq_then Less s = refl
is_eq_then Equal s = refl
is_eq_then Greater s = refl

pub same_as_pair : (a b : ℕ × ℕ) → is_eq (pair_cmp a b) ≡ ((a.0 == b.0) && (a.1 == b.1))
same_as_pair a b = is_eq_then (nat_cmp a.0 b.0) (nat_cmp a.1 b.1) ∙ ap₂ (λ (x y : Bool). x && y) (is_eq_nat a.0 b.0) (is_eq_nat a.1 b.1)

eq_sym : (x y : ℕ) → (x == y) ≡ (y == x)
eq_sym x y = grind arith

one_pair : (item : Impl) (other : Impl) → same_pair item other ≡ is_for item.interface.0 item.of other
one_pair item other = ap₂ (λ (x y : Bool). x && y) (eq_sym item.interface.0 other.interface.0) (eq_sym item.of.0 other.of.0)

-- whether an earlier implementation has the same pair
pub has_pair : (item : Impl) (before : List Impl) → is_implemented before item.interface item.of ≡ list_any (same_pair item) before
has_pair item before = ap (λ (p : Impl → Bool). list_any p before) (sym (fun_ext (one_pair item)))

last_or : (x y : Bool) → cond x true y ≡ (y || (x || false))
last_or true true = refl
last_or true false = refl
last_or false true = refl
last_or false false = refl

-- what is known with one more
pub one_more : (item : Impl) (before : List Impl) (interface of : Kind) (b : Bool) → b ≡ is_implemented before interface of
    → cond (is_eq (pair_cmp (item.interface.0, item.of.0) (interface.0, of.0))) true b ≡ is_implemented (before ++ item ∷ []) interface of
one_more item before interface of b is =
    let pair = same_as_pair (item.interface.0, item.of.0) (interface.0, of.0) in
    ap₂ (λ (x y : Bool). cond x true y) pair is
    ∙ last_or (is_for interface.0 of item) (is_implemented before interface of)
    ∙ sym (list_any-append (is_for interface.0 of) before (item ∷ []))
