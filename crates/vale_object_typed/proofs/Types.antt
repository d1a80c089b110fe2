-- Types that fit are equal, where none is an isolate's and no struct is seen as an interface.
use Rattle.std.proofs.Common.{◌≡◌, ℕ, Bool, true, false, not, ◌||◌, ◌==◌, List, [], ◌∷◌, Some, None, refl, sym, ap, ◌∙◌, subst}
use Rattle.std.specs.List.{list_any}
use Rattle.std.proofs.lemmas.Bool.{and_parts, eqb-true}
use Rattle.vale_syntax.specs.Tree.{Item, struct_item, interface_item, impl_item, function_item}
use Rattle.vale_rules_spec.specs.Judged.{Rules, broken, ◌⇒◌}
use Rattle.vale_rules_spec.specs.TypeRules.{is_iso, all_fit}
use Rattle.vale_rules_spec.specs.Types.{Ty, void, int, bool, str, kind, array, ref, imm, iso, same, is_void, object_of, as_shared, View, blind, direct, shared, frozen, is_frozen, part_seen, is_impl, is_object_of, fits}
use Rattle.vale_object_typed.specs.Covered.{type_is_covered, types_are_covered}
use Rattle.vale_object_typed.specs.Fit.{is_impl_item}

pub same_is : (x z : Ty) → same x z ≡ true → x ≡ z
same_is void void e = refl
same_is int int e = refl
same_is bool bool e = refl
same_is str str e = refl
same_is (kind m) (kind n) e = ap kind (eqb-true m n e)
same_is (array x) (array z) e = ap array (same_is x z e)
same_is (ref x) (ref z) e = ap ref (same_is x z e)
same_is (imm x) (imm z) e = ap imm (same_is x z e)
same_is (iso x) (iso z) e = ap iso (same_is x z e)
same_is _ _ e = absurd (cc)

pub void_is : (x : Ty) → is_void x ≡ true → x ≡ void
void_is void e = refl
void_is _ e = absurd (cc)

-- ---- rows

pub rule_kept : (code : ℕ) (b : Bool) (rules : Rules) → broken ((code, b) ∷ rules) ≡ None → (b ≡ true) × (broken rules ≡ None)
rule_kept code true rules e = (refl, e)
rule_kept code false rules e = absurd (cc)

pub one_rule : (code : ℕ) (b : Bool) → broken ((code, b) ∷ []) ≡ None → b ≡ true
one_rule code b e = (rule_kept code b [] e).0

-- a rule that is asked only where another holds
pub asked : (a b : Bool) → (a ⇒ b) ≡ true → a ≡ true → b ≡ true
asked true b e h = e
asked false b e h = absurd (cc)

pub impossible : {A : Type 0} → false ≡ true → A
impossible e = absurd (cc)

-- ---- without implementations

none_implemented : (items : List Item) (m n : ℕ) → list_any is_impl_item items ≡ false → list_any (is_impl m n) items ≡ false
none_implemented [] m n e = refl
none_implemented (struct_item k fs ∷ items) m n e = none_implemented items m n e
none_implemented (interface_item k hs ∷ items) m n e = none_implemented items m n e
none_implemented (impl_item at i s fs ∷ items) m n e = absurd (cc)
none_implemented (function_item f ∷ items) m n e = none_implemented items m n e

one_of : (a b : Bool) → (a || b) ≡ true → b ≡ false → a ≡ true
one_of true b e f = refl
one_of false b e f = absurd (let z : true ≡ false = sym e ∙ f in cc)

module _ (items : List Item) (plain : list_any is_impl_item items ≡ false) where
  object_same : (x z : Ty) → is_object_of items x z ≡ true → x ≡ z
  object_same (kind m) (kind n) e = ap kind (eqb-true m n (one_of (m == n) (list_any (is_impl m n) items) e (none_implemented items m n plain)))
  object_same (kind m) void e = absurd (cc)
  object_same (kind m) int e = absurd (cc)
  object_same (kind m) bool e = absurd (cc)
  object_same (kind m) str e = absurd (cc)
  object_same (kind m) (array z) e = absurd (cc)
  object_same (kind m) (ref z) e = absurd (cc)
  object_same (kind m) (imm z) e = absurd (cc)
  object_same (kind m) (iso z) e = absurd (cc)
  object_same void z e = same_is void z e
  object_same int z e = same_is int z e
  object_same bool z e = same_is bool z e
  object_same str z e = same_is str z e
  object_same (array x) z e = same_is (array x) z e
  object_same (ref x) z e = same_is (ref x) z e
  object_same (imm x) z e = same_is (imm x) z e
  object_same (iso x) z e = same_is (iso x) z e

  module _ (kinds : List Ty) (texts : List (List ℕ)) where
    pub fits_same : (x z : Ty) → type_is_covered kinds texts x → fits items x z ≡ true → x ≡ z
    fits_same void z c e = same_is void z e
    fits_same int z c e = same_is int z e
    fits_same bool z c e = same_is bool z e
    fits_same str z c e = same_is str z e
    fits_same (kind m) z c e = object_same (kind m) z e
    fits_same (array x) z c e = same_is (array x) z e
    fits_same (ref x) (ref z) c e = ap ref (object_same x z e)
    fits_same (ref x) void c e = absurd (cc)
    fits_same (ref x) int c e = absurd (cc)
    fits_same (ref x) bool c e = absurd (cc)
    fits_same (ref x) str c e = absurd (cc)
    fits_same (ref x) (kind m) c e = absurd (cc)
    fits_same (ref x) (array z) c e = absurd (cc)
    fits_same (ref x) (imm z) c e = absurd (cc)
    fits_same (ref x) (iso z) c e = absurd (cc)
    fits_same (imm x) z c e = absurd c
    fits_same (iso x) z c e = absurd c

    pub all_same : (ts xs : List Ty) → types_are_covered kinds texts ts → all_fit items false ts xs ≡ true → ts ≡ xs
    all_same [] [] c e = refl
    all_same [] (x ∷ xs) c e = absurd (cc)
    all_same (t ∷ ts) [] c e = absurd (cc)
    all_same (t ∷ ts) (x ∷ xs) c e =
        let q = and_parts (fits items t x) (all_fit items false ts xs) e in
        ap (λ z. z ∷ ts) (fits_same t x c.0 q.0) ∙ ap (λ zs. x ∷ zs) (all_same ts xs c.1 q.1)

-- ---- what is read of cells

pub shared_value : (z : Ty) → (as_shared z (object_of z)).value ≡ z
shared_value void = refl
shared_value int = refl
shared_value bool = refl
shared_value str = refl
shared_value (kind n) = refl
shared_value (array x) = refl
shared_value (ref x) = refl
shared_value (imm x) = refl
shared_value (iso x) = refl

pub shared_place : (z : Ty) → (as_shared z (object_of z)).place ≡ Some z
shared_place void = refl
shared_place int = refl
shared_place bool = refl
shared_place str = refl
shared_place (kind n) = refl
shared_place (array x) = refl
shared_place (ref x) = refl
shared_place (imm x) = refl
shared_place (iso x) = refl

pub part_shared : (v : View) (z : Ty) → is_frozen v ≡ false → part_seen v z ≡ as_shared z (object_of z)
part_shared blind z e = refl
part_shared (direct w) z e = refl
part_shared (shared w) z e = refl
part_shared (frozen w) z e = absurd (cc)

module _ (kinds : List Ty) (texts : List (List ℕ)) where
  pub no_iso : (z : Ty) → type_is_covered kinds texts z → not (is_iso z) ≡ true
  no_iso void c = refl
  no_iso int c = refl
  no_iso bool c = refl
  no_iso str c = refl
  no_iso (kind n) c = refl
  no_iso (array x) c = refl
  no_iso (ref x) c = refl
  no_iso (imm x) c = refl
  no_iso (iso x) c = absurd c

  -- an owner's or a reference's
  pub object_covered : (z w : Ty) → type_is_covered kinds texts z → object_of z ≡ Some w → type_is_covered kinds texts w
  object_covered void w c e = absurd (cc)
  object_covered int w c e = absurd (cc)
  object_covered bool w c e = absurd (cc)
  object_covered str w c e = absurd (cc)
  object_covered (kind n) w c e = let q : kind n ≡ w = cc in subst (type_is_covered kinds texts) q c
  object_covered (array x) w c e = let q : array x ≡ w = cc in subst (type_is_covered kinds texts) q c
  object_covered (ref x) w c e = let q : x ≡ w = cc in subst (type_is_covered kinds texts) q c.1
  object_covered (imm x) w c e = absurd c
  object_covered (iso x) w c e = absurd c
