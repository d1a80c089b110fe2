-- What arguments, and other values that are taken from registers, are, and what they leave.
use Rattle.std.proofs.Common.{◌≡◌, ℕ, ◌+◌, ◌≤◌, List, [], ◌∷◌, Option, Some, None, Bool, true, false, not, ◌==◌, nat_lt, refl, sym, ap, ◌∙◌, subst, arith}
use Rattle.std.proofs.lemmas.Bool.{and_parts}
use Rattle.vale_state_spec.specs.State.{name_of}
use Rattle.vale_state_spec.specs.World.{Value, Int, Truth, Text, Own, Ref, Iso, World}
use Rattle.vale_base.specs.declared.name.Kind.{Kind}
use Rattle.vale_code.specs.Parts.{Parts}
use Rattle.vale_code.specs.Registers.{Registers, Read, read, kept, give_all, read_all, given_value, after_giving, after_keeping, and_then, as_frozen, named}
use Rattle.vale_code.specs.declared.ty.Ty.{Ty}
use Rattle.vale_code.specs.declared.ty.Ty.TheVariants as t
use Rattle.vale_cert.specs.Known.{fact_of, has, is_there}
use Rattle.vale_cert.specs.Rules.{taken, takes_all, Effect, passed, passes_all, after_passing, gives_frozen}
use Rattle.vale_cert.specs.Types.{is_owned}
use Rattle.vale_cert.specs.declared.facts.RegFact.{RegFact}
use Rattle.vale_cert.specs.declared.facts.RegFact.TheVariants.{Empty, Held}
use Rattle.vale_cert.proofs.Cells.{leading}
use Rattle.vale_cert.proofs.Fit.{value_has, kind_seen, kind_is, NameFits, Has, Holds, RegsFit, put_fits, reg_value, ArgsFit}
use Rattle.vale_cert.proofs.Heap.{own, own_in, in_regs, in_values, put_owns}

-- ---- arguments

-- what a parameter gets is of its type, and what stays fits; nothing is owned twice
pub record Passed (code : Parts) (w : World) (ty : Ty) (known : List RegFact) (a : ℕ) (regs : Registers) : Type 0 where
  pub value : Value
  pub given : given_value ty (read regs a) ≡ Some value
  pub has : Has code w ty value
  pub fits : RegsFit code w (after_passing known a ty) (after_giving ty a (read regs a) regs)
  pub owned : (n : ℕ) → own n value + in_regs n (after_giving ty a (read regs a) regs) ≤ in_regs n regs

-- the same of a value that is taken as it is
pub record Took (code : Parts) (w : World) (ty : Ty) (known : List RegFact) (a : ℕ) (regs : Registers) : Type 0 where
  pub value : Value
  pub is : read regs a ≡ Some value
  pub has : Has code w ty value
  pub fits : RegsFit code w (after_passing known a ty) (kept a value regs)
  pub owned : (n : ℕ) → own n value + in_regs n (kept a value regs) ≤ in_regs n regs

module _ (code : Parts) (w : World) where
  -- a reference to what a value leads to
  frozen_ref : (q kind : Kind) (ty : Ty) (v : Value) (x : ℕ) → kind_seen ty ≡ Some q → name_of v ≡ Some x → (q.0 == kind.0) ≡ true → Has code w ty v → Has code w (t.Frozen kind) (Ref x)
  frozen_ref q kind ty v x e g same_kind h = leading code w (t.Frozen kind) (Ref x) kind x refl refl refl (subst (λ q. NameFits code w q x) (kind_is q kind same_kind) (h.leads q x e g))

  abbrev Frozen_from : Kind → Option Value → Type 0
  Frozen_from kind o = (v : Value) × (as_frozen (named o) ≡ Some v) × Has code w (t.Frozen kind) v × ((n : ℕ) → own n v ≡ 0)

  as_ref : (q kind : Kind) (ty : Ty) (v : Value) (x : ℕ) (o : Option Value) → o ≡ Some v → kind_seen ty ≡ Some q → name_of v ≡ Some x → (q.0 == kind.0) ≡ true → Has code w ty v → Frozen_from kind o
  as_ref q kind ty v x o h e g same_kind has = (Ref x, ap (λ o. as_frozen (named o)) h ∙ ap as_frozen g, frozen_ref q kind ty v x e g same_kind has, λ n. refl)

  -- a value that leads somewhere gives a reference
  frozen_from : (d : ℕ) (kind : Kind) (fact : RegFact) (o : Option Value) → gives_frozen d kind.0 fact ≡ true → is_there fact ≡ true → Holds code w fact o → Frozen_from kind o
  frozen_from d kind Empty o e there h = let x : ⊥ = cc in absurd x
  frozen_from d kind (Held (t.Frozen q) m l) o e there h = from h.0 h.1 h.2 h.2.shape
    where
      from : (v : Value) → o ≡ Some v → Has code w (t.Frozen q) v → value_has (t.Frozen q) v ≡ true → Frozen_from kind o
      from (Ref x) h has g = as_ref q kind (t.Frozen q) (Ref x) x o h refl refl e has
      from _ h has g = let x : ⊥ = cc in absurd x
  frozen_from d kind (Held (t.Own q) m l) o e there h = from h.0 h.1 h.2 h.2.shape
    where
      from : (v : Value) → o ≡ Some v → Has code w (t.Own q) v → value_has (t.Own q) v ≡ true → Frozen_from kind o
      from (Own x) h has g = as_ref q kind (t.Own q) (Own x) x o h refl refl (and_parts (nat_lt m d) (q.0 == kind.0) e).1 has
      from _ h has g = let x : ⊥ = cc in absurd x
  frozen_from d kind (Held (t.Ref q) m l) o e there h = from h.0 h.1 h.2 h.2.shape
    where
      from : (v : Value) → o ≡ Some v → Has code w (t.Ref q) v → value_has (t.Ref q) v ≡ true → Frozen_from kind o
      from (Ref x) h has g = as_ref q kind (t.Ref q) (Ref x) x o h refl refl (and_parts (nat_lt m d) (q.0 == kind.0) e).1 has
      from _ h has g = let x : ⊥ = cc in absurd x
  frozen_from d kind (Held (t.Iso q) m l) o e there h = from h.0 h.1 h.2 h.2.shape
    where
      from : (v : Value) → o ≡ Some v → Has code w (t.Iso q) v → value_has (t.Iso q) v ≡ true → Frozen_from kind o
      from (Iso x) h has g = as_ref q kind (t.Iso q) (Iso x) x o h refl refl (and_parts (nat_lt m d) (q.0 == kind.0) e).1 has
      from _ h has g = let x : ⊥ = cc in absurd x
  frozen_from d kind (Held t.Void m l) o e there h = let x : false ≡ true = (and_parts (nat_lt m d) false e).1 in absurd (let y : ⊥ = cc in y)
  frozen_from d kind (Held t.Int m l) o e there h = let x : false ≡ true = (and_parts (nat_lt m d) false e).1 in absurd (let y : ⊥ = cc in y)
  frozen_from d kind (Held t.Truth m l) o e there h = let x : false ≡ true = (and_parts (nat_lt m d) false e).1 in absurd (let y : ⊥ = cc in y)
  frozen_from d kind (Held t.Text m l) o e there h = let x : false ≡ true = (and_parts (nat_lt m d) false e).1 in absurd (let y : ⊥ = cc in y)

  -- a copy value or a reference stays, and an owner or an isolate leaves its register
  pub stays : (ty : Ty) (known : List RegFact) (a : ℕ) (regs : Registers) (v : Value) → RegsFit code w known regs → read regs a ≡ Some v → value_has ty v ≡ true
      → RegsFit code w (after_passing known a ty) (kept a v regs) × ((n : ℕ) → own n v + in_regs n (kept a v regs) ≤ in_regs n regs)
  stays (t.Frozen k) known a regs (Ref m) fits h e = (fits, λ n. omega arith)
  stays t.Int known a regs (Int z) fits h e = (fits, λ n. omega arith)
  stays t.Truth known a regs (Truth b) fits h e = (fits, λ n. omega arith)
  stays t.Text known a regs (Text b) fits h e = (fits, λ n. omega arith)
  stays (t.Ref k) known a regs (Ref m) fits h e = (fits, λ n. omega arith)
  stays (t.Own k) known a regs (Own m) fits h e = (put_fits code w known regs a Empty None tt fits, λ n. let x = put_owns n regs a None in let y = ap (λ o. own_in n o) h in omega (arith, x, y))
  stays (t.Iso k) known a regs (Iso m) fits h e = (put_fits code w known regs a Empty None tt fits, λ n. let x = put_owns n regs a None in let y = ap (λ o. own_in n o) h in omega (arith, x, y))
  stays _ known a regs _ fits h e = let x : ⊥ = cc in absurd x

  pub took : (ty : Ty) (known : List RegFact) (a : ℕ) (regs : Registers) → RegsFit code w known regs → has ty (fact_of known a) ≡ true → is_there (fact_of known a) ≡ true → Took code w ty known a regs
  took ty known a regs fits e there =
      let v = reg_value code w known regs a ty fits e there in
      let st = stays ty known a regs v.0 fits v.1 v.2.shape in
      record { value = v.0; is = v.1; has = v.2; fits = st.0; owned = st.1 }

  -- what is used as it is
  used : (ty : Ty) (known : List RegFact) (a : ℕ) (regs : Registers) → RegsFit code w known regs → given_value ty (read regs a) ≡ read regs a → ((o : Option Value) → after_giving ty a o regs ≡ after_keeping a o regs) → has ty (fact_of known a) ≡ true → is_there (fact_of known a) ≡ true → Passed code w ty known a regs
  used ty known a regs fits same_value same_regs e there =
      let v = took ty known a regs fits e there in
      let after : kept a v.value regs ≡ after_giving ty a (read regs a) regs = sym (same_regs (read regs a) ∙ ap (λ o. after_keeping a o regs) v.is) in
      record {
        value = v.value;
        given = same_value ∙ v.is;
        has = v.has;
        fits = subst (λ r. RegsFit code w (after_passing known a ty) r) after v.fits;
        owned = λ n. subst (λ r. own n v.value + in_regs n r ≤ in_regs n regs) after (v.owned n);
      }

  module _ (depth : ℕ) where
    -- what is kept after an argument was kept before it
    pass_kept : (a : ℕ) (ty : Ty) (row : Effect) → (passed depth a ty row).kept.types ≡ true → (passed depth a ty row).kept.present ≡ true → (row.kept.types ≡ true) × (row.kept.present ≡ true)
    pass_kept a (t.Frozen k) row e g = ((and_parts _ _ e).0, (and_parts _ _ g).0)
    pass_kept a t.Void row e g = ((and_parts _ _ e).0, (and_parts _ _ g).0)
    pass_kept a t.Int row e g = ((and_parts _ _ e).0, (and_parts _ _ g).0)
    pass_kept a t.Truth row e g = ((and_parts _ _ e).0, (and_parts _ _ g).0)
    pass_kept a t.Text row e g = ((and_parts _ _ e).0, (and_parts _ _ g).0)
    pass_kept a (t.Own k) row e g = ((and_parts _ _ e).0, (and_parts _ _ g).0)
    pass_kept a (t.Ref k) row e g = ((and_parts _ _ e).0, (and_parts _ _ g).0)
    pass_kept a (t.Iso k) row e g = ((and_parts _ _ e).0, (and_parts _ _ g).0)

    pub passes_kept : (tys : List Ty) (args : List ℕ) (row : Effect) → (passes_all depth tys args row).kept.types ≡ true → (passes_all depth tys args row).kept.present ≡ true → (row.kept.types ≡ true) × (row.kept.present ≡ true)
    passes_kept [] [] row e g = (e, g)
    passes_kept [] (a ∷ more) row e g = let x : ⊥ = cc in absurd x
    passes_kept (ty ∷ tys) [] row e g = let x : ⊥ = cc in absurd x
    passes_kept (ty ∷ tys) (a ∷ more) row e g = let x = passes_kept tys more (passed depth a ty row) e g in pass_kept a ty row x.0 x.1

    pub passing : (a : ℕ) (ty : Ty) (row : Effect) (regs : Registers) → RegsFit code w row.after regs → (passed depth a ty row).kept.types ≡ true → (passed depth a ty row).kept.present ≡ true → Passed code w ty row.after a regs
    passing a (t.Frozen kind) row regs fits e g =
        let v = frozen_from depth kind (fact_of row.after a) (read regs a) (and_parts row.kept.types (gives_frozen depth kind.0 (fact_of row.after a)) e).1 (and_parts row.kept.present (is_there (fact_of row.after a)) g).1 (fits.each a) in
        record { value = v.0; given = v.1; has = v.2; fits = fits; owned = λ n. let x = v.3 n in omega (arith, x) }
    passing a t.Void row regs fits e g = used t.Void row.after a regs fits refl (λ o. refl) (and_parts row.kept.types (has t.Void (fact_of row.after a)) e).1 (and_parts row.kept.present (is_there (fact_of row.after a)) g).1
    passing a t.Int row regs fits e g = used t.Int row.after a regs fits refl (λ o. refl) (and_parts row.kept.types (has t.Int (fact_of row.after a)) e).1 (and_parts row.kept.present (is_there (fact_of row.after a)) g).1
    passing a t.Truth row regs fits e g = used t.Truth row.after a regs fits refl (λ o. refl) (and_parts row.kept.types (has t.Truth (fact_of row.after a)) e).1 (and_parts row.kept.present (is_there (fact_of row.after a)) g).1
    passing a t.Text row regs fits e g = used t.Text row.after a regs fits refl (λ o. refl) (and_parts row.kept.types (has t.Text (fact_of row.after a)) e).1 (and_parts row.kept.present (is_there (fact_of row.after a)) g).1
    passing a (t.Own k) row regs fits e g = used (t.Own k) row.after a regs fits refl (λ o. refl) (and_parts row.kept.types (has (t.Own k) (fact_of row.after a)) e).1 (and_parts row.kept.present (is_there (fact_of row.after a)) g).1
    passing a (t.Ref k) row regs fits e g = used (t.Ref k) row.after a regs fits refl (λ o. refl) (and_parts row.kept.types (has (t.Ref k) (fact_of row.after a)) e).1 (and_parts row.kept.present (is_there (fact_of row.after a)) g).1
    passing a (t.Iso k) row regs fits e g = used (t.Iso k) row.after a regs fits refl (λ o. refl) (and_parts row.kept.types (has (t.Iso k) (fact_of row.after a)) e).1 (and_parts row.kept.present (is_there (fact_of row.after a)) g).1

    -- all arguments
    pub record AllPassed (tys : List Ty) (args : List ℕ) (row : Effect) (regs : Registers) : Type 0 where
      pub got : Read
      pub given : give_all tys args regs ≡ Some got
      pub has : ArgsFit code w tys got.values
      pub fits : RegsFit code w (passes_all depth tys args row).after got.after
      pub owned : (n : ℕ) → in_values n got.values + in_regs n got.after ≤ in_regs n regs

    pub passing_all : (tys : List Ty) (args : List ℕ) (row : Effect) (regs : Registers) → RegsFit code w row.after regs → (passes_all depth tys args row).kept.types ≡ true → (passes_all depth tys args row).kept.present ≡ true → AllPassed tys args row regs
    passing_all [] [] row regs fits e g = record { got = record { values = []; after = regs }; given = refl; has = tt; fits = fits; owned = λ n. omega arith }
    passing_all [] (a ∷ more) row regs fits e g = let x : ⊥ = cc in absurd x
    passing_all (ty ∷ tys) [] row regs fits e g = let x : ⊥ = cc in absurd x
    passing_all (ty ∷ tys) (a ∷ more) row regs fits e g =
        let kept = passes_kept tys more (passed depth a ty row) e g in
        let p = passing a ty row regs fits kept.0 kept.1 in
        let r = passing_all tys more (passed depth a ty row) (after_giving ty a (read regs a) regs) p.fits e g in
        record {
          got = record { values = p.value ∷ r.got.values; after = r.got.after };
          given = ap (λ o. and_then o (give_all tys more (after_giving ty a (read regs a) regs))) p.given ∙ ap (λ o. and_then (Some p.value) o) r.given;
          has = (p.has, r.has);
          fits = r.fits;
          owned = λ n. let x = p.owned n in let y = r.owned n in omega (arith, x, y);
        }

    -- all values that are taken
    pub takes_kept : (tys : List Ty) (args : List ℕ) (row : Effect) → (takes_all depth tys args row).kept.types ≡ true → (takes_all depth tys args row).kept.present ≡ true → (row.kept.types ≡ true) × (row.kept.present ≡ true)
    takes_kept [] [] row e g = (e, g)
    takes_kept [] (a ∷ more) row e g = let x : ⊥ = cc in absurd x
    takes_kept (ty ∷ tys) [] row e g = let x : ⊥ = cc in absurd x
    takes_kept (ty ∷ tys) (a ∷ more) row e g = let x = takes_kept tys more (taken depth a ty row) e g in ((and_parts _ _ x.0).0, (and_parts _ _ x.1).0)

    pub record AllTaken (tys : List Ty) (args : List ℕ) (row : Effect) (regs : Registers) : Type 0 where
      pub got : Read
      pub given : read_all args regs ≡ Some got
      pub has : ArgsFit code w tys got.values
      pub fits : RegsFit code w (takes_all depth tys args row).after got.after
      pub owned : (n : ℕ) → in_values n got.values + in_regs n got.after ≤ in_regs n regs

    pub taking_all : (tys : List Ty) (args : List ℕ) (row : Effect) (regs : Registers) → RegsFit code w row.after regs → (takes_all depth tys args row).kept.types ≡ true → (takes_all depth tys args row).kept.present ≡ true → AllTaken tys args row regs
    taking_all [] [] row regs fits e g = record { got = record { values = []; after = regs }; given = refl; has = tt; fits = fits; owned = λ n. omega arith }
    taking_all [] (a ∷ more) row regs fits e g = let x : ⊥ = cc in absurd x
    taking_all (ty ∷ tys) [] row regs fits e g = let x : ⊥ = cc in absurd x
    taking_all (ty ∷ tys) (a ∷ more) row regs fits e g =
        let ok : ((taken depth a ty row).kept.types ≡ true) × ((taken depth a ty row).kept.present ≡ true) = takes_kept tys more (taken depth a ty row) e g in
        let v = took ty row.after a regs fits (and_parts row.kept.types (has ty (fact_of row.after a)) ok.0).1 (and_parts row.kept.present (is_there (fact_of row.after a)) ok.1).1 in
        let r = taking_all tys more (taken depth a ty row) (kept a v.value regs) v.fits e g in
        record {
          got = record { values = v.value ∷ r.got.values; after = r.got.after };
          given = ap (λ o. and_then o (read_all more (after_keeping a o regs))) v.is ∙ ap (λ o. and_then (Some v.value) o) r.given;
          has = (v.has, r.has);
          fits = r.fits;
          owned = λ n. let x = v.owned n in let y = r.owned n in omega (arith, x, y);
        }

pub not_is : (b : Bool) → not b ≡ true → b ≡ false
not_is false e = refl
not_is true e = let x : ⊥ = cc in absurd x

-- what leads nowhere is no owner's type
pub not_owned : (ty : Ty) → kind_seen ty ≡ None → is_owned ty ≡ false
not_owned t.Void e = refl
not_owned t.Int e = refl
not_owned t.Truth e = refl
not_owned t.Text e = refl
not_owned _ e = let x : ⊥ = cc in absurd x
