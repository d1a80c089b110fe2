-- Arguments and other values that are taken out of registers, as the certificate knows of them.
use Rattle.std.proofs.Common.{◌≡◌, ◌<◌, ℕ, ◌+◌, List, [], ◌∷◌, map, Option, Some, Bool, true, false, not, ◌||◌, ◌==◌, nat_lt, ◌⊎◌, inl, inr, refl, sym, ap, ◌∙◌, subst, arith}
use Rattle.std.proofs.lemmas.Bool.{and_parts}
use Rattle.vale_state_spec.specs.World.{Value, Int, Truth, Text, Own, Ref, Iso, World}
use Rattle.vale_base.specs.declared.name.Kind.{Kind}
use Rattle.vale_code.specs.Parts.{Parts}
use Rattle.vale_code.specs.Registers.{Registers, read, kept, after_giving}
use Rattle.vale_code.specs.declared.ty.Ty.{Ty}
use Rattle.vale_code.specs.declared.ty.Ty.TheVariants as t
use Rattle.vale_cert.specs.Known.{fact_of, has, is_there}
use Rattle.vale_cert.specs.Rules.{is_bound, is_usable, gives_frozen, Effect, passed, passes_all, taken as takes, takes_all, after_passing}
use Rattle.vale_cert.specs.Types.{is_frozen}
use Rattle.vale_cert.specs.declared.facts.RegFact.{RegFact}
use Rattle.vale_cert.specs.declared.facts.RegFact.TheVariants.{Empty, Held}
use Rattle.vale_cert.proofs.Arguments.{passes_kept, passing, takes_kept, took}
use Rattle.vale_cert.proofs.Fit.{value_has, type_is, Holds, RegsFit}
use Rattle.vale_region_laws.specs.Configs.{IsUnder, MarkUnder}
use Rattle.vale_region_laws.specs.Holding.{Marks, mark, taken}
use Rattle.vale_region_laws.specs.Passing.{IsPlain, PassOne, owner_out, isolate_out, reference_out, seen, here, plain, given_marks, PassAll, none, more, StoreAll, no_more, one_more}
use Rattle.vale_region_laws.specs.Regions.{Each, How}
use Rattle.vale_region_laws.specs.Regions as how
use Rattle.vale_region_laws.proofs.Passing.{given_under, taken_under}
use Rattle.vale_region_cert.specs.Told.{held_by_type, mark_of, IsTold, Told, passed_as}
use Rattle.vale_region_cert.proofs.Around.{mark_low}
use Rattle.vale_region_cert.proofs.Told.{told_taken}

pub some_is : (v w : Value) → Some v ≡ Some w → w ≡ v
some_is v w e = cc

pub holds_value : (code : Parts) (w : World) (fact : RegFact) (o : Option Value) → is_there fact ≡ true → Holds code w fact o → (v : Value) × (o ≡ Some v)
holds_value code w Empty o there h = let x : ⊥ = cc in absurd x
holds_value code w (Held ty d l) o there h = (h.0, h.1)

-- a parameter's marks, and those of what is kept
pub told_given : (b : ℕ) (facts : List RegFact) (ms : Marks) (a : ℕ) (ty : Ty) (v : Value) → (is_frozen ty ≡ true) ⊎ (value_has ty v ≡ true) → Told b facts ms → Told b (after_passing facts a ty) (given_marks ty a v ms)
told_given b facts ms a (t.Frozen k) v h x = x
told_given b facts ms a t.Void v (inr h) x = told_taken b facts ms a t.Void v h x
told_given b facts ms a t.Int v (inr h) x = told_taken b facts ms a t.Int v h x
told_given b facts ms a t.Truth v (inr h) x = told_taken b facts ms a t.Truth v h x
told_given b facts ms a t.Text v (inr h) x = told_taken b facts ms a t.Text v h x
told_given b facts ms a (t.Own k) v (inr h) x = told_taken b facts ms a (t.Own k) v h x
told_given b facts ms a (t.Ref k) v (inr h) x = told_taken b facts ms a (t.Ref k) v h x
told_given b facts ms a (t.Iso k) v (inr h) x = told_taken b facts ms a (t.Iso k) v h x
told_given b facts ms a _ v (inl h) x = let y : ⊥ = cc in absurd y

module _ (code : Parts) (w : World) (b depth c : ℕ) (deep : b + depth ≡ c) where
  -- what is used as it is lies at this depth, or leads nowhere
  pub used_as : (ty : Ty) (fact : RegFact) (m : Option How) (v : Value) → has ty fact ≡ true → is_there fact ≡ true → is_usable depth fact ≡ true → is_frozen ty ≡ false → value_has ty v ≡ true → IsTold (mark_of b fact) m
      → (m ≡ Some (how.Held c)) ⊎ IsPlain v
  used_as ty Empty m v e there u fz h told = let x : ⊥ = cc in absurd x
  used_as ty (Held y d l) m v e there u fz h told =
      let same = type_is y ty e in
      from ty fz (subst (λ y. (not (is_bound y) || (d == depth)) ≡ true) same u) v h (subst (λ y. IsTold (held_by_type y (b + d)) m) same told)
    where
      deep_here : (d == depth) ≡ true → b + d ≡ c
      deep_here e = let x : d ≡ depth = grind arith in ap (λ d. b + d) x ∙ deep

      from : (ty : Ty) → is_frozen ty ≡ false → (not (is_bound ty) || (d == depth)) ≡ true → (v : Value) → value_has ty v ≡ true → IsTold (held_by_type ty (b + d)) m → (m ≡ Some (how.Held c)) ⊎ IsPlain v
      from t.Int fz u (Int n) h told = inr tt
      from t.Truth fz u (Truth n) h told = inr tt
      from t.Text fz u (Text n) h told = inr tt
      from (t.Own k) fz u v h told = inl (told ∙ ap (λ a. Some (how.Held a)) (deep_here u))
      from (t.Ref k) fz u v h told = inl (told ∙ ap (λ a. Some (how.Held a)) (deep_here u))
      from (t.Iso k) fz u v h told = inl (told ∙ ap (λ a. Some (how.Held a)) (deep_here u))
      from _ fz u _ h told = let x : ⊥ = cc in absurd x

  -- ---- arguments

  abbrev PassesOne : Ty → Option How → Value → Type 0
  PassesOne ty m v = (u : Value) × PassOne c false ty m v (passed_as c ty) u

  frozen_passes : (k : Kind) (fact : RegFact) (m : Option How) (v : Value) → gives_frozen depth k.0 fact ≡ true → is_there fact ≡ true → Holds code w fact (Some v) → IsTold (mark_of b fact) m → ((h : How) → m ≡ Some h → IsUnder c c h)
      → PassesOne (t.Frozen k) m v
  frozen_passes k Empty m v e there h told low = let x : ⊥ = cc in absurd x
  frozen_passes k (Held (t.Frozen q) d l) m v e there h told low = from v (subst (λ v. value_has (t.Frozen q) v ≡ true) (some_is v h.0 h.1) h.2.shape)
    where
      from : (v : Value) → value_has (t.Frozen q) v ≡ true → PassesOne (t.Frozen k) m v
      from (Ref n) g = (Ref n, subst (λ m. PassOne c false (t.Frozen k) m (Ref n) (how.Seen c) (Ref n)) (sym told) (seen false k (b + d) n (low (how.Seen (b + d)) told)))
      from _ g = let x : ⊥ = cc in absurd x
  frozen_passes k (Held (t.Own q) d l) m v e there h told low = from v (subst (λ v. value_has (t.Own q) v ≡ true) (some_is v h.0 h.1) h.2.shape)
    where
      lt : b + d < c
      lt = let x : nat_lt d depth ≡ true = (and_parts (nat_lt d depth) (q.0 == k.0) e).0 in let y : d < depth = grind arith in omega (arith, y, deep)

      from : (v : Value) → value_has (t.Own q) v ≡ true → PassesOne (t.Frozen k) m v
      from (Own n) g = (Ref n, subst (λ m. PassOne c false (t.Frozen k) m (Own n) (how.Seen c) (Ref n)) (sym told) (owner_out false k (b + d) n lt))
      from _ g = let x : ⊥ = cc in absurd x
  frozen_passes k (Held (t.Ref q) d l) m v e there h told low = from v (subst (λ v. value_has (t.Ref q) v ≡ true) (some_is v h.0 h.1) h.2.shape)
    where
      lt : b + d < c
      lt = let x : nat_lt d depth ≡ true = (and_parts (nat_lt d depth) (q.0 == k.0) e).0 in let y : d < depth = grind arith in omega (arith, y, deep)

      from : (v : Value) → value_has (t.Ref q) v ≡ true → PassesOne (t.Frozen k) m v
      from (Ref n) g = (Ref n, subst (λ m. PassOne c false (t.Frozen k) m (Ref n) (how.Seen c) (Ref n)) (sym told) (reference_out false k (b + d) n lt))
      from _ g = let x : ⊥ = cc in absurd x
  frozen_passes k (Held (t.Iso q) d l) m v e there h told low = from v (subst (λ v. value_has (t.Iso q) v ≡ true) (some_is v h.0 h.1) h.2.shape)
    where
      lt : b + d < c
      lt = let x : nat_lt d depth ≡ true = (and_parts (nat_lt d depth) (q.0 == k.0) e).0 in let y : d < depth = grind arith in omega (arith, y, deep)

      from : (v : Value) → value_has (t.Iso q) v ≡ true → PassesOne (t.Frozen k) m v
      from (Iso n) g = (Ref n, subst (λ m. PassOne c false (t.Frozen k) m (Iso n) (how.Seen c) (Ref n)) (sym told) (isolate_out false k (b + d) n lt))
      from _ g = let x : ⊥ = cc in absurd x
  frozen_passes k (Held t.Void d l) m v e there h told low = let x : false ≡ true = (and_parts (nat_lt d depth) false e).1 in absurd (let y : ⊥ = cc in y)
  frozen_passes k (Held t.Int d l) m v e there h told low = let x : false ≡ true = (and_parts (nat_lt d depth) false e).1 in absurd (let y : ⊥ = cc in y)
  frozen_passes k (Held t.Truth d l) m v e there h told low = let x : false ≡ true = (and_parts (nat_lt d depth) false e).1 in absurd (let y : ⊥ = cc in y)
  frozen_passes k (Held t.Text d l) m v e there h told low = let x : false ≡ true = (and_parts (nat_lt d depth) false e).1 in absurd (let y : ⊥ = cc in y)

  not_frozen_as : (ty : Ty) → is_frozen ty ≡ false → passed_as c ty ≡ how.Held c
  not_frozen_as t.Void e = refl
  not_frozen_as t.Int e = refl
  not_frozen_as t.Truth e = refl
  not_frozen_as t.Text e = refl
  not_frozen_as (t.Own k) e = refl
  not_frozen_as (t.Ref k) e = refl
  not_frozen_as (t.Iso k) e = refl
  not_frozen_as (t.Frozen k) e = let x : ⊥ = cc in absurd x

  same_frozen : (ty : Ty) → is_frozen ty ≡ false → Rattle.vale_region_laws.specs.Passing.IsFrozen ty ≡ false
  same_frozen (t.Frozen k) e = let x : ⊥ = cc in absurd x
  same_frozen t.Void e = refl
  same_frozen t.Int e = refl
  same_frozen t.Truth e = refl
  same_frozen t.Text e = refl
  same_frozen (t.Own k) e = refl
  same_frozen (t.Ref k) e = refl
  same_frozen (t.Iso k) e = refl

  used_passes : (ty : Ty) (fact : RegFact) (m : Option How) (v : Value) → is_frozen ty ≡ false → has ty fact ≡ true → is_there fact ≡ true → is_usable depth fact ≡ true → value_has ty v ≡ true → IsTold (mark_of b fact) m → PassesOne ty m v
  used_passes ty fact m v fz e there u h told = (v, subst (λ p. PassOne c false ty m v p v) (sym (not_frozen_as ty fz)) (by (used_as ty fact m v e there u fz h told)))
    where
      by : (m ≡ Some (how.Held c)) ⊎ IsPlain v → PassOne c false ty m v (how.Held c) v
      by (inl q) = subst (λ m. PassOne c false ty m v (how.Held c) v) (sym q) (here ty v (same_frozen ty fz))
      by (inr p) = plain ty m v (same_frozen ty fz) p

  -- what the rules of one argument say
  record OneKept (ty : Ty) (fact : RegFact) : Type 0 where
    used : is_frozen ty ≡ false → (has ty fact ≡ true) × (is_usable depth fact ≡ true)
    frozen : (k : Kind) → ty ≡ t.Frozen k → gives_frozen depth k.0 fact ≡ true
    there : is_there fact ≡ true

  one_kept : (a : ℕ) (ty : Ty) (R : Effect) → (passed depth a ty R).kept.types ≡ true → (passed depth a ty R).kept.present ≡ true → (passed depth a ty R).kept.depths ≡ true → OneKept ty (fact_of R.after a) × (R.kept.depths ≡ true)
  one_kept a (t.Frozen k) R e g q = (record { used = λ fz. let x : ⊥ = cc in absurd x; frozen = λ n is. let like : k ≡ n = cc in subst (λ k. gives_frozen depth k.0 (fact_of R.after a) ≡ true) like (and_parts R.kept.types (gives_frozen depth k.0 (fact_of R.after a)) e).1; there = (and_parts R.kept.present (is_there (fact_of R.after a)) g).1 }, q)
  one_kept a t.Void R e g q = (record { used = λ fz. ((and_parts R.kept.types (has t.Void (fact_of R.after a)) e).1, (and_parts R.kept.depths (is_usable depth (fact_of R.after a)) q).1); frozen = λ n is. let x : ⊥ = cc in absurd x; there = (and_parts R.kept.present (is_there (fact_of R.after a)) g).1 }, (and_parts R.kept.depths (is_usable depth (fact_of R.after a)) q).0)
  one_kept a t.Int R e g q = (record { used = λ fz. ((and_parts R.kept.types (has t.Int (fact_of R.after a)) e).1, (and_parts R.kept.depths (is_usable depth (fact_of R.after a)) q).1); frozen = λ n is. let x : ⊥ = cc in absurd x; there = (and_parts R.kept.present (is_there (fact_of R.after a)) g).1 }, (and_parts R.kept.depths (is_usable depth (fact_of R.after a)) q).0)
  one_kept a t.Truth R e g q = (record { used = λ fz. ((and_parts R.kept.types (has t.Truth (fact_of R.after a)) e).1, (and_parts R.kept.depths (is_usable depth (fact_of R.after a)) q).1); frozen = λ n is. let x : ⊥ = cc in absurd x; there = (and_parts R.kept.present (is_there (fact_of R.after a)) g).1 }, (and_parts R.kept.depths (is_usable depth (fact_of R.after a)) q).0)
  one_kept a t.Text R e g q = (record { used = λ fz. ((and_parts R.kept.types (has t.Text (fact_of R.after a)) e).1, (and_parts R.kept.depths (is_usable depth (fact_of R.after a)) q).1); frozen = λ n is. let x : ⊥ = cc in absurd x; there = (and_parts R.kept.present (is_there (fact_of R.after a)) g).1 }, (and_parts R.kept.depths (is_usable depth (fact_of R.after a)) q).0)
  one_kept a (t.Own k) R e g q = (record { used = λ fz. ((and_parts R.kept.types (has (t.Own k) (fact_of R.after a)) e).1, (and_parts R.kept.depths (is_usable depth (fact_of R.after a)) q).1); frozen = λ n is. let x : ⊥ = cc in absurd x; there = (and_parts R.kept.present (is_there (fact_of R.after a)) g).1 }, (and_parts R.kept.depths (is_usable depth (fact_of R.after a)) q).0)
  one_kept a (t.Ref k) R e g q = (record { used = λ fz. ((and_parts R.kept.types (has (t.Ref k) (fact_of R.after a)) e).1, (and_parts R.kept.depths (is_usable depth (fact_of R.after a)) q).1); frozen = λ n is. let x : ⊥ = cc in absurd x; there = (and_parts R.kept.present (is_there (fact_of R.after a)) g).1 }, (and_parts R.kept.depths (is_usable depth (fact_of R.after a)) q).0)
  one_kept a (t.Iso k) R e g q = (record { used = λ fz. ((and_parts R.kept.types (has (t.Iso k) (fact_of R.after a)) e).1, (and_parts R.kept.depths (is_usable depth (fact_of R.after a)) q).1); frozen = λ n is. let x : ⊥ = cc in absurd x; there = (and_parts R.kept.present (is_there (fact_of R.after a)) g).1 }, (and_parts R.kept.depths (is_usable depth (fact_of R.after a)) q).0)

  pub passes_depths : (tys : List Ty) (args : List ℕ) (R : Effect) → (passes_all depth tys args R).kept.types ≡ true → (passes_all depth tys args R).kept.present ≡ true → (passes_all depth tys args R).kept.depths ≡ true → R.kept.depths ≡ true
  passes_depths [] [] R e g q = q
  passes_depths [] (a ∷ rest) R e g q = let x : ⊥ = cc in absurd x
  passes_depths (ty ∷ tys) [] R e g q = let x : ⊥ = cc in absurd x
  passes_depths (ty ∷ tys) (a ∷ rest) R e g q =
      let ok = passes_kept code w depth tys rest (passed depth a ty R) e g in
      (one_kept a ty R ok.0 ok.1 (passes_depths tys rest (passed depth a ty R) e g q)).1

  -- an argument: what comes of it, and that its value is one of its type where it is kept as it is
  one_passes : (ty : Ty) (fact : RegFact) (m : Option How) (v : Value) → OneKept ty fact → Holds code w fact (Some v) → IsTold (mark_of b fact) m → ((h : How) → m ≡ Some h → IsUnder c c h) → PassesOne ty m v × ((is_frozen ty ≡ true) ⊎ (value_has ty v ≡ true))
  one_passes ty fact m v k h told low = from ty k (is_frozen ty) refl
    where
      shape : (ty : Ty) (fact : RegFact) → has ty fact ≡ true → is_there fact ≡ true → Holds code w fact (Some v) → value_has ty v ≡ true
      shape ty Empty e there h = let x : ⊥ = cc in absurd x
      shape ty (Held y d l) e there h = subst (λ y. value_has y v ≡ true) (type_is y ty e) (subst (λ v. value_has y v ≡ true) (some_is v h.0 h.1) h.2.shape)

      by_kind : (ty : Ty) → OneKept ty fact → is_frozen ty ≡ true → PassesOne ty m v
      by_kind (t.Frozen q) k e = frozen_passes q fact m v (k.frozen q refl) k.there h told low
      by_kind _ k e = let x : ⊥ = cc in absurd x

      from : (ty : Ty) → OneKept ty fact → (f : Bool) → is_frozen ty ≡ f → PassesOne ty m v × ((is_frozen ty ≡ true) ⊎ (value_has ty v ≡ true))
      from ty k true e = (by_kind ty k e, inl e)
      from ty k false e =
          let u = k.used e in let s = shape ty fact u.0 k.there h in
          (used_passes ty fact m v e u.0 k.there u.1 s told, inr s)

  pub record Gives (tys : List Ty) (args : List ℕ) (R : Effect) (ms : Marks) (regs : Registers) : Type 0 where
    pub values : List Value
    pub marks : Marks
    pub after : Registers
    pub pass : PassAll c false tys args ms regs (map (passed_as c) tys) values marks after
    pub told : Told b (passes_all depth tys args R).after marks

  pub giving : (tys : List Ty) (args : List ℕ) (R : Effect) (ms : Marks) (regs : Registers) → RegsFit code w R.after regs → Told b R.after ms → Each (MarkUnder c c) ms
      → (passes_all depth tys args R).kept.types ≡ true → (passes_all depth tys args R).kept.present ≡ true → (passes_all depth tys args R).kept.depths ≡ true → Gives tys args R ms regs
  giving [] [] R ms regs fits told under e g q = record { values = []; marks = ms; after = regs; pass = none ms regs; told = told }
  giving [] (a ∷ rest) R ms regs fits told under e g q = let x : ⊥ = cc in absurd x
  giving (ty ∷ tys) [] R ms regs fits told under e g q = let x : ⊥ = cc in absurd x
  giving (ty ∷ tys) (a ∷ rest) R ms regs fits told under e g q =
      let ok = passes_kept code w depth tys rest (passed depth a ty R) e g in
      let k = one_kept a ty R ok.0 ok.1 (passes_depths tys rest (passed depth a ty R) e g q) in
      let p = passing code w depth a ty R regs fits ok.0 ok.1 in
      let v = holds_value code w (fact_of R.after a) (read regs a) k.0.there (fits.each a) in
      let one = one_passes ty (fact_of R.after a) (mark ms a) v.0 k.0 (subst (Holds code w (fact_of R.after a)) v.1 (fits.each a)) (told.each a) (λ h m. mark_low c a ms h under m) in
      let r = giving tys rest (passed depth a ty R) (given_marks ty a v.0 ms) (after_giving ty a (Some v.0) regs) (subst (λ o. RegsFit code w (after_passing R.after a ty) (after_giving ty a o regs)) v.1 p.fits)
      (told_given b R.after ms a ty v.0 one.1 told) (given_under c c ty a v.0 ms under) e g q in
      record { values = one.0.0 ∷ r.values; marks = r.marks; after = r.after; pass = more ty tys a rest ms regs v.0 one.0.0 (passed_as c ty) (map (passed_as c) tys) r.values r.marks r.after v.1 one.0.1 r.pass; told = r.told }

  -- ---- values that go into an object

  takes_depths : (tys : List Ty) (args : List ℕ) (R : Effect) → (takes_all depth tys args R).kept.types ≡ true → (takes_all depth tys args R).kept.depths ≡ true → R.kept.depths ≡ true
  takes_depths [] [] R e q = q
  takes_depths [] (a ∷ rest) R e q = let x : ⊥ = cc in absurd x
  takes_depths (ty ∷ tys) [] R e q = let x : ⊥ = cc in absurd x
  takes_depths (ty ∷ tys) (a ∷ rest) R e q = (and_parts R.kept.depths (is_usable depth (fact_of R.after a)) (takes_depths tys rest (takes depth a ty R) e q)).0

  abbrev pub NoneFrozen : List Ty → Type 0
  NoneFrozen tys = Each (λ ty. is_frozen ty ≡ false) tys

  pub record Stores (tys : List Ty) (args : List ℕ) (R : Effect) (ms : Marks) (regs : Registers) : Type 0 where
    pub values : List Value
    pub marks : Marks
    pub after : Registers
    pub all : StoreAll c args ms regs values marks after
    pub told : Told b (takes_all depth tys args R).after marks
    pub under : Each (MarkUnder c c) marks

  pub storing : (tys : List Ty) (args : List ℕ) (R : Effect) (ms : Marks) (regs : Registers) → NoneFrozen tys → RegsFit code w R.after regs → Told b R.after ms → Each (MarkUnder c c) ms
      → (takes_all depth tys args R).kept.types ≡ true → (takes_all depth tys args R).kept.present ≡ true → (takes_all depth tys args R).kept.depths ≡ true → Stores tys args R ms regs
  storing [] [] R ms regs fz fits told under e g q = record { values = []; marks = ms; after = regs; all = no_more ms regs; told = told; under = under }
  storing [] (a ∷ rest) R ms regs fz fits told under e g q = let x : ⊥ = cc in absurd x
  storing (ty ∷ tys) [] R ms regs fz fits told under e g q = let x : ⊥ = cc in absurd x
  storing (ty ∷ tys) (a ∷ rest) R ms regs fz fits told under e g q =
      let ok = takes_kept code w depth tys rest (takes depth a ty R) e g in
      let h = (and_parts R.kept.types (has ty (fact_of R.after a)) ok.0).1 in
      let there = (and_parts R.kept.present (is_there (fact_of R.after a)) ok.1).1 in
      let u = (and_parts R.kept.depths (is_usable depth (fact_of R.after a)) (takes_depths tys rest (takes depth a ty R) e q)).1 in
      let v = took code w ty R.after a regs fits h there in
      let r = storing tys rest (takes depth a ty R) (taken a v.value ms) (kept a v.value regs) fz.1 v.fits (told_taken b R.after ms a ty v.value v.has.shape told) (taken_under c c a v.value ms under) e g q in
      record {
        values = v.value ∷ r.values;
        marks = r.marks;
        after = r.after;
        all = one_more a rest ms regs v.value r.values r.marks r.after v.is (used_as ty (fact_of R.after a) (mark ms a) v.value h there u fz.0 v.has.shape (told.each a)) r.all;
        told = r.told;
        under = r.under;
      }
