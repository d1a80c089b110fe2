-- What is stated of a register holds where more is known of it.
use Rattle.std.proofs.Common.{◌≡◌, ◌≢◌, ℕ, zero, suc, ◌<◌, List, [], ◌∷◌, length, Bool, true, false, not, ◌||◌, ◌==◌, if◌then◌else◌, refl, sym, ap, ◌∙◌, subst, arith, ⊎_elim}
use Rattle.std.specs.Prelude.{slice_set}
use Rattle.std.proofs.lemmas.Bool.{and_parts, and_from, cases_eq, eq-eqb, eqb-true, ne_eqb}
use Rattle.std.proofs.lemmas.List.{length-set}
use Rattle.vale_code.specs.Kinds.{same_type}
use Rattle.vale_code.specs.declared.ty.Ty.{Ty}
use Rattle.vale_code.specs.declared.ty.Ty.TheVariants as t
use Rattle.vale_cert.specs.Known.{fact_of, is_free, agrees}
use Rattle.vale_cert.specs.Types.{is_owned}
use Rattle.vale_cert.specs.declared.facts.RegFact.{RegFact}
use Rattle.vale_cert.specs.declared.facts.RegFact.TheVariants.{Empty, Held}
use Rattle.vale_cert.proofs.Fit.{type_is}

-- ---- facts

pub type_same : (ty : Ty) → same_type ty ty ≡ true
type_same t.Void = refl
type_same t.Int = refl
type_same t.Truth = refl
type_same t.Text = refl
type_same (t.Own k) = eq-eqb k.0 k.0 refl
type_same (t.Ref k) = eq-eqb k.0 k.0 refl
type_same (t.Frozen k) = eq-eqb k.0 k.0 refl
type_same (t.Iso k) = eq-eqb k.0 k.0 refl

pub held_agrees : (ty : Ty) (d : ℕ) (live : Bool) → agrees (Held ty d false) (Held ty d live) ≡ true
held_agrees ty d live = and_from _ _ (and_from _ _ (type_same ty) (eq-eqb d d refl)) refl

pub agrees_same : (x : RegFact) → agrees x x ≡ true
agrees_same Empty = refl
agrees_same (Held ty d false) = held_agrees ty d false
agrees_same (Held ty d true) = and_from _ _ (and_from _ _ (type_same ty) (eq-eqb d d refl)) refl

-- what is known of a register of which this is stated
pub held_is : (ty : Ty) (d : ℕ) (x : RegFact) → agrees (Held ty d false) x ≡ true → (live : Bool) × (x ≡ Held ty d live)
held_is ty d Empty e = absurd (cc)
held_is ty d (Held u c live) e =
    let one = and_parts _ _ e in let two = and_parts _ _ one.0 in
    (live, sym (ap (λ z. Held z d live) (type_is ty u two.0) ∙ ap (λ z. Held u z live) (eqb-true d c two.1)))

free_by : (ty u : Ty) → same_type ty u ≡ true → not (is_owned ty) ≡ true → not (is_owned u) ≡ true
free_by ty u e h = subst (λ z. not (is_owned z) ≡ true) (type_is ty u e) h

lives_on : (a b c o : Bool) → ((not a || (b || o)) ≡ true) → ((not b || (c || o)) ≡ true) → (not a || (c || o)) ≡ true
lives_on false b c o e f = refl
lives_on true true c o e f = f
lives_on true false true o e f = refl
lives_on true false false o e f = e

pub agrees_through : (x y z : RegFact) → agrees x y ≡ true → agrees y z ≡ true → agrees x z ≡ true
agrees_through Empty Empty z e f = f
agrees_through Empty (Held ty d l) Empty e f = absurd (cc)
agrees_through Empty (Held ty d l) (Held u c m) e f = free_by ty u (and_parts _ _ (and_parts _ _ f).0).0 e
agrees_through (Held ty d l) Empty z e f = absurd (cc)
agrees_through (Held ty d l) (Held u c m) Empty e f = absurd (cc)
agrees_through (Held ty d l) (Held u c m) (Held w b n) e f =
    let one = and_parts _ _ e in let two = and_parts _ _ one.0 in let three = and_parts _ _ f in let four = and_parts _ _ three.0 in
    let first = type_is ty u two.0 in let then_ = type_is u w four.0 in
    and_from _ _
    (and_from _ _ (subst (λ q. same_type ty q ≡ true) (first ∙ then_) (type_same ty)) (eq-eqb d b (eqb-true d c two.1 ∙ eqb-true c b four.1)))
    (lives_on l m n (is_owned w) (subst (λ q. (not l || (m || is_owned q)) ≡ true) then_ one.1) three.1)

-- ---- registers

pub fact_same : (regs : List RegFact) (r : ℕ) (x : RegFact) → r < length regs → fact_of (slice_set regs r x) r ≡ x
fact_same [] r x lt = absurd (omega (arith, lt))
fact_same (y ∷ regs) zero x lt = refl
fact_same (y ∷ regs) (suc r) x lt = fact_same regs r x (omega (arith, lt))

pub fact_other : (regs : List RegFact) (q r : ℕ) (x : RegFact) → r ≢ q → fact_of (slice_set regs q x) r ≡ fact_of regs r
fact_other [] q r x ne = refl
fact_other (y ∷ regs) zero zero x ne = absurd (ne refl)
fact_other (y ∷ regs) zero (suc r) x ne = refl
fact_other (y ∷ regs) (suc q) zero x ne = refl
fact_other (y ∷ regs) (suc q) (suc r) x ne = fact_other regs q r x (λ e. ne (ap suc e))

-- what is stated of each register
abbrev pub Facts : Type 0
Facts = ℕ → RegFact

abbrev pub put : ℕ → RegFact → Facts → Facts
put r x F = λ q. if r == q then x else F q

pub put_here : (r : ℕ) (x : RegFact) (F : Facts) (q : ℕ) → r ≡ q → put r x F q ≡ x
put_here r x F q e = ap (λ b. if b then x else F q) (eq-eqb r q e)

pub put_there : (r : ℕ) (x : RegFact) (F : Facts) (q : ℕ) → r ≢ q → put r x F q ≡ F q
put_there r x F q ne = ap (λ b. if b then x else F q) (ne_eqb r q ne)

module _ (count : ℕ) where
  -- it holds of so many registers
  pub record Hold (regs : List RegFact) (F : Facts) : Type 0 where
    pub size : length regs ≡ count
    pub each : (r : ℕ) → r < count → agrees (F r) (fact_of regs r) ≡ true

  pub hold_less : {regs : List RegFact} {F : Facts} (G : Facts) → Hold regs F → ((r : ℕ) → agrees (G r) (F r) ≡ true) → Hold regs G
  hold_less {regs} {F} G h a = record { size = h.size; each = λ r lt. agrees_through (G r) (F r) (fact_of regs r) (a r) (h.each r lt) }

  pub hold_put : {regs : List RegFact} {F : Facts} (r : ℕ) (x y : RegFact) → agrees y x ≡ true → Hold regs F → Hold (slice_set regs r x) (put r y F)
  hold_put {regs} {F} r x y a h = record { size = length-set regs r x ∙ h.size; each = each }
    where
      each : (q : ℕ) → q < count → agrees (put r y F q) (fact_of (slice_set regs r x) q) ≡ true
      each q lt =
          ⊎_elim
          (λ same. subst (λ z. agrees z (fact_of (slice_set regs r x) q) ≡ true) (sym (put_here r y F q same))
          (subst (λ z. agrees y (fact_of (slice_set regs r x) z) ≡ true) same
          (subst (λ z. agrees y z ≡ true) (sym (fact_same regs r x (let size = h.size in omega (arith, size, same, lt)))) a)))
          (λ ne. subst (λ z. agrees z (fact_of (slice_set regs r x) q) ≡ true) (sym (put_there r y F q ne))
          (subst (λ z. agrees (F q) z ≡ true) (sym (fact_other regs r q x (λ e. ne (sym e)))) (h.each q lt)))
          (cases_eq r q)

  -- a register that is stated to hold a value
  pub hold_at : {regs : List RegFact} {F : Facts} (r : ℕ) (ty : Ty) (d : ℕ) → Hold regs F → r < count → F r ≡ Held ty d false → (live : Bool) × (fact_of regs r ≡ Held ty d live)
  hold_at {regs} r ty d h lt e = held_is ty d (fact_of regs r) (subst (λ z. agrees z (fact_of regs r) ≡ true) e (h.each r lt))

  -- a register that is stated to be free
  pub hold_free : {regs : List RegFact} {F : Facts} (r : ℕ) → Hold regs F → r < count → is_free (F r) ≡ true → is_free (fact_of regs r) ≡ true
  hold_free {regs} {F} r h lt e = agrees_through Empty (F r) (fact_of regs r) e (h.each r lt)
