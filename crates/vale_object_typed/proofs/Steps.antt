-- What is known of steps that keep the rules of types.
use Rattle.std.proofs.Common.{◌≡◌, ℕ, Bool, true, false, not, ◌||◌, ◌&&◌, List, [], ◌∷◌, Option, Some, None, is_some, if◌then◌else◌, inl, inr, refl, sym, ap, ◌∙◌, subst, ⊎_elim}
use Rattle.std.specs.Option.{option_and_then}
use Rattle.std.proofs.lemmas.Bool.{and_parts}
use Rattle.vale_base.specs.declared.name.Name.{Name}
use Rattle.vale_base.specs.declared.spot.Spot.{Spot}
use Rattle.vale_syntax.specs.Tree.{FieldDecl, Item, Expr, Steps, no_steps, more_steps}
use Rattle.vale_rules_spec.specs.Judged.{◌⇒◌, broken}
use Rattle.vale_rules_spec.specs.Takes.{takes}
use Rattle.vale_rules_spec.specs.TypeRules.{is_iso, is_int, array_in, kind_in_view, fields_seen, elements_seen, stays_in_place, field_rules, index_rules, part_of}
use Rattle.vale_rules_spec.specs.Types.{Ty, void, int, bool, str, kind, array, ref, imm, iso, is_owned, object_of, as_shared, View, blind, direct, shared, frozen, seen_object, is_frozen, part_seen, Seen, is_loose, fields_of, field_named}
use Rattle.vale_rules_spec.specs.Typed as t
use Rattle.vale_rules_spec.specs.Typed.{step_seen, steps_seen}
use Rattle.vale_rules_spec.specs.Typing.{Env, index_view, type_in}
use Rattle.vale_model.specs.Parts.{Parts}
use Rattle.vale_code.specs.Parts.{Parts as Code}
use Rattle.vale_lowering_objects.specs.Lowered.{step_view}
use Rattle.vale_object_facts.specs.Stands.{lent, lent_last}
use Rattle.vale_object_facts.specs.Suits.{HasItems, refers, expr_suits, start_suits, step_suits, steps_suit, place_suits, targets_suit, set_suits}
use Rattle.vale_object_typed.specs.Covered.{type_is_covered, step_is_covered, steps_are_covered}
use Rattle.vale_object_typed.specs.Tables.{HasTables}
use Rattle.vale_object_typed.proofs.Shapes.{Sees, Leads, Covered, part_refers}
use Rattle.vale_object_typed.proofs.Types.{rule_kept, one_rule, asked, same_is, shared_value, shared_place, part_shared, no_iso}

-- ---- views

index_sees : (local : Option ℕ) (v : View) (e : Expr) → Sees v (index_view local v e)
index_sees None v e = inl refl
index_sees (Some n) blind e = inl refl
index_sees (Some n) (shared w) e = inl refl
index_sees (Some n) (frozen w) e = inl refl
index_sees (Some n) (direct w) e = by (takes n true e)
  where
    by : (b : Bool) → Sees (direct w) (if b then shared w else direct w)
    by true = inr (w, refl, refl)
    by false = inl refl

sees_object : (b v : View) → Sees b v → seen_object v ≡ seen_object b
sees_object b v s = ⊎_elim (λ e. ap seen_object e) (λ d. ap seen_object d.2 ∙ sym (ap seen_object d.1)) s

sees_frozen : (b v : View) → Sees b v → is_frozen b ≡ is_frozen v
sees_frozen b v s = ⊎_elim (λ e. sym (ap is_frozen e)) (λ d. ap is_frozen d.1 ∙ sym (ap is_frozen d.2)) s

-- ---- fields and elements that are there

module _ (items : List Item) where
  record FoundField (o : Option Ty) (m : ℕ) : Type 0 where
    struct : ℕ
    fields : List FieldDecl
    z : Ty
    object : o ≡ Some (kind struct)
    declared : fields_of items struct ≡ Some fields
    typed : type_in (field_named fields m) ≡ Some z
    whole : type_in (option_and_then (λ fs. field_named fs m) (option_and_then (fields_of items) (kind_in_view o))) ≡ Some z

  some_type : (s m : ℕ) (fs : List FieldDecl) (o : Option Ty) → type_in (field_named fs m) ≡ o → fields_of items s ≡ Some fs → is_some o ≡ true → FoundField (Some (kind s)) m
  some_type s m fs None e d is = absurd (cc)
  some_type s m fs (Some z) e d is = record { struct = s; fields = fs; z = z; object = refl; declared = d; typed = e; whole = ap (λ q. type_in (option_and_then (λ fs. field_named fs m) q)) d ∙ e }

  some_fields : (s m : ℕ) (o : Option (List FieldDecl)) → fields_of items s ≡ o → is_some o ≡ true → is_some (type_in (option_and_then (λ fs. field_named fs m) o)) ≡ true → FoundField (Some (kind s)) m
  some_fields s m None d is typed = absurd (cc)
  some_fields s m (Some fs) d is typed = some_type s m fs (type_in (field_named fs m)) refl d typed

  found_field : (o : Option Ty) (m : ℕ) → is_some (option_and_then (fields_of items) (kind_in_view o)) ≡ true → is_some (type_in (option_and_then (λ fs. field_named fs m) (option_and_then (fields_of items) (kind_in_view o)))) ≡ true → FoundField o m
  found_field (Some (kind s)) m a b = some_fields s m (fields_of items s) refl a b
  found_field None m a b = absurd (cc)
  found_field (Some void) m a b = absurd (cc)
  found_field (Some int) m a b = absurd (cc)
  found_field (Some bool) m a b = absurd (cc)
  found_field (Some str) m a b = absurd (cc)
  found_field (Some (array x)) m a b = absurd (cc)
  found_field (Some (ref x)) m a b = absurd (cc)
  found_field (Some (imm x)) m a b = absurd (cc)
  found_field (Some (iso x)) m a b = absurd (cc)

found_items : (o : Option Ty) → is_some (array_in o) ≡ true → (z : Ty) × (o ≡ Some (array z)) × (array_in o ≡ Some z)
found_items (Some (array z)) e = (z, refl, refl)
found_items None e = absurd (cc)
found_items (Some void) e = absurd (cc)
found_items (Some int) e = absurd (cc)
found_items (Some bool) e = absurd (cc)
found_items (Some str) e = absurd (cc)
found_items (Some (kind n)) e = absurd (cc)
found_items (Some (ref x)) e = absurd (cc)
found_items (Some (imm x)) e = absurd (cc)
found_items (Some (iso x)) e = absurd (cc)

kept_by : (as_value : Bool) (o : Option Ty) (z : Ty) → o ≡ Some z → stays_in_place as_value o ≡ true → as_value ≡ true → is_owned z ≡ false
kept_by as_value o z e kept used = free (is_owned z) (asked as_value (not (is_owned z)) (subst (λ q. stays_in_place as_value q ≡ true) e kept) used)
  where
    free : (b : Bool) → not b ≡ true → b ≡ false
    free false e = refl
    free true e = absurd (cc)

module _ (names : List (List ℕ)) (items : List Item) (p : Parts) (c : Code) (functions : List t.Function) (tables : HasTables names items p c functions) where
  -- what is seen so has a covered type
  abbrev pub ObjectCovered : View → Type 0
  ObjectCovered v = (w : Ty) → seen_object v ≡ Some w → Covered p c functions w

  -- where a step leads to, and that this may be set
  pub record StepEnds (env : Env) (as_value : Bool) (base : View) (x : t.Step) : Type 0 where
    pub z : Ty
    pub seen : step_seen x ≡ as_shared z (object_of z)
    pub covered : Covered p c functions z
    pub sets : set_suits p c functions env z x
    pub sees : Sees base (step_view x)
    pub leads : Leads (step_view x)
    pub kept : as_value ≡ true → is_owned z ≡ false

  abbrev pub StepFits : Env → Bool → View → t.Step → Type 0
  StepFits env as_value base x = ObjectCovered base → step_is_covered p.kinds c.texts x → step_suits p c functions env x × StepEnds env as_value base x

  readable : (v : View) (z : Ty) → is_frozen v ≡ false → Covered p c functions z → (is_frozen v || not (is_iso z)) ≡ true
  readable v z e cov = ap (λ b. b || not (is_iso z)) e ∙ no_iso p.kinds c.texts z cov

  pub field_fits : (env : Env) (as_value : Bool) (base : Seen) (at : Spot) (n : Name) (may_be_set : Bool)
      → broken (field_rules as_value base (fields_seen items base.view) (type_in (option_and_then (λ fs. field_named fs n.0) (fields_seen items base.view)))) ≡ None
      → StepFits env as_value base.view (t.field (part_of base.view (type_in (option_and_then (λ fs. field_named fs n.0) (fields_seen items base.view)))) base.view may_be_set at n)
  field_fits env as_value base at n may_be_set kept object cov =
      let o = option_and_then (λ fs. field_named fs n.0) (fields_seen items base.view) in
      let loose = not (is_loose base) in
      let one = rule_kept 20 (loose ⇒ is_some (fields_seen items base.view)) ((21, is_some (fields_seen items base.view) ⇒ is_some (type_in o)) ∷ (25, loose) ∷ (28, stays_in_place as_value (type_in o)) ∷ []) kept in
      let two = rule_kept 21 (is_some (fields_seen items base.view) ⇒ is_some (type_in o)) ((25, loose) ∷ (28, stays_in_place as_value (type_in o)) ∷ []) one.1 in
      let three = rule_kept 25 loose ((28, stays_in_place as_value (type_in o)) ∷ []) two.1 in
      let there = asked loose (is_some (fields_seen items base.view)) one.0 three.0 in
      let f = found_field items (seen_object base.view) n.0 there (asked (is_some (fields_seen items base.view)) (is_some (type_in o)) two.0 there) in
      let part : part_of base.view (type_in o) ≡ part_seen base.view f.z = ap (part_of base.view) f.whole in
      let same : part_of base.view (type_in o) ≡ as_shared f.z (object_of f.z) = part ∙ part_shared base.view f.z cov.1 in
      let covered : Covered p c functions f.z = subst (Covered p c functions) (ap (λ s. s.value) same ∙ shared_value f.z) cov.0 in
      let has = tables.field base.view f.struct n.0 f.fields f.z f.object f.declared f.typed in (
        (f.z, has, (part, readable base.view f.z cov.1 covered)),
        record { z = f.z; seen = same; covered = covered; sets = (cov.1, has); sees = inl refl; leads = (kind f.struct, f.object); kept = kept_by as_value (type_in o) f.z f.whole (one_rule 28 (stays_in_place as_value (type_in o)) three.1) },
      )

  pub index_fits : (env : Env) (as_value : Bool) (local : Option ℕ) (base : Seen) (at : Spot) (e : Expr) (a : t.Expr) → (expr_is_suited : expr_suits p c functions env a) → broken (index_rules as_value base (elements_seen base.view) (t.type a)) ≡ None
      → ObjectCovered base.view → type_is_covered p.kinds c.texts (part_of base.view (elements_seen base.view)).value → is_frozen (index_view local base.view e) ≡ false
      → step_suits p c functions env (t.index (part_of base.view (elements_seen base.view)) (index_view local base.view e) at a) × StepEnds env as_value base.view (t.index (part_of base.view (elements_seen base.view)) (index_view local base.view e) at a)
  index_fits env as_value local base at e a suits kept object cov unfrozen =
      let v = index_view local base.view e in
      let o = elements_seen base.view in
      let loose = not (is_loose base) in
      let one = rule_kept 20 (is_int (t.type a) && (loose ⇒ is_some o)) ((25, loose) ∷ (28, stays_in_place as_value o) ∷ []) kept in
      let two = rule_kept 25 loose ((28, stays_in_place as_value o) ∷ []) one.1 in
      let parts = and_parts (is_int (t.type a)) (loose ⇒ is_some o) one.0 in
      let f = found_items (seen_object base.view) (asked loose (is_some o) parts.1 two.0) in
      let sees = index_sees local base.view e in
      let thawed : is_frozen base.view ≡ false = sees_frozen base.view v sees ∙ unfrozen in
      let same : part_of base.view o ≡ as_shared f.0 (object_of f.0) = ap (part_of base.view) f.2 ∙ part_shared base.view f.0 thawed in
      let covered : Covered p c functions f.0 = subst (Covered p c functions) (ap (λ s. s.value) same ∙ shared_value f.0) cov in
      let seen_array : seen_object v ≡ Some (array f.0) = sees_object base.view v sees ∙ f.1 in
      let listed = object (array f.0) f.1 in
      let has : HasItems p c v f.0 = record { object = seen_array; cell = tables.elements f.0 listed.0 } in
      let int_type = same_is (t.type a) int parts.0 in (
        (f.0, has, (same ∙ sym (part_shared v f.0 unfrozen), readable v f.0 unfrozen covered), int_type, suits),
        record { z = f.0; seen = same; covered = covered; sets = (unfrozen, has, int_type, suits); sees = sees; leads = (array f.0, seen_array); kept = kept_by as_value o f.0 f.2 (one_rule 28 (stays_in_place as_value o) two.1) },
      )

  -- ---- the steps after one, from what it led to

  pub part_covered : (z : Ty) → Covered p c functions z → ObjectCovered (as_shared z (object_of z)).view
  part_covered (kind n) cov w e = let q : kind n ≡ w = cc in subst (Covered p c functions) q cov
  part_covered (array x) cov w e = let q : array x ≡ w = cc in subst (Covered p c functions) q cov
  part_covered (ref x) cov w e = let q : x ≡ w = cc in subst (Covered p c functions) q cov.1
  part_covered (imm x) cov w e = absurd cov
  part_covered (iso x) cov w e = absurd cov
  part_covered void cov w e = absurd (cc)
  part_covered int cov w e = absurd (cc)
  part_covered bool cov w e = absurd (cc)
  part_covered str cov w e = absurd (cc)

  -- what is kept of the step before the last
  abbrev pub Kept : Bool → Steps → Ty → Type 0
  Kept as_value no_steps z = as_value ≡ true → is_owned z ≡ false
  Kept as_value (more_steps s ss) z = Unit {0}

  -- the place at the end may be set
  abbrev pub Targets : Env → Ty → Ty → t.Steps → Type 0
  Targets env z end t.no_steps = end ≡ z
  Targets env z end (t.more_steps x xs) = targets_suit p c functions env end (lent (as_shared z (object_of z))) (t.more_steps x xs)

  pub record StepsEnd (env : Env) (as_value : Bool) (z : Ty) (v : t.Steps) : Type 0 where
    pub suits : steps_suit p c functions env (lent (as_shared z (object_of z))) v
    pub end : Ty
    pub place : (steps_seen (as_shared z (object_of z)) v).place ≡ Some end
    pub targets : Targets env z end v
    pub kept : as_value ≡ true → is_owned end ≡ false
    pub last : lent_last (lent (as_shared z (object_of z))) v ≡ lent (steps_seen (as_shared z (object_of z)) v)

  abbrev pub StepsFit : Env → Bool → Steps → Seen → t.Steps → Type 0
  StepsFit env as_value ss base v = (z : Ty) → base ≡ as_shared z (object_of z) → Covered p c functions z → Kept as_value ss z → steps_are_covered p.kinds c.texts v → StepsEnd env as_value z v

  pub no_more : (env : Env) (as_value : Bool) (base : Seen) → StepsFit env as_value no_steps base t.no_steps
  no_more env as_value base z e cov kept c = record { suits = tt; end = z; place = shared_place z; targets = refl; kept = kept; last = refl }

  targets_more : (env : Env) (u z end : Ty) (x : t.Step) (xs : t.Steps) → refers u (step_view x) → step_suits p c functions env x → set_suits p c functions env z x → lent (step_seen x) ≡ lent (as_shared z (object_of z)) → Targets env z end xs → targets_suit p c functions env end u (t.more_steps x xs)
  targets_more env u z end x t.no_steps r s sets e targets = (r, subst (λ w. set_suits p c functions env w x) (sym targets) sets)
  targets_more env u z end x (t.more_steps y ys) r s sets e targets = (r, s, subst (λ w. targets_suit p c functions env end w (t.more_steps y ys)) (sym e) targets)

  pub place_more : (env : Env) (s : Seen) (a : t.Expr) (z end : Ty) (x : t.Step) (xs : t.Steps) → start_suits p c functions env (step_view x) a → step_suits p c functions env x → set_suits p c functions env z x → lent (step_seen x) ≡ lent (as_shared z (object_of z)) → Targets env z end xs
      → place_suits p c functions env end (t.expr s (t.steps a (t.more_steps x xs)))
  place_more env s a z end x t.no_steps r st sets e targets = (r, subst (λ w. set_suits p c functions env w x) (sym targets) sets)
  place_more env s a z end x (t.more_steps y ys) r st sets e targets = (r, st, subst (λ w. targets_suit p c functions env end w (t.more_steps y ys)) (sym e) targets)

  pub more_fit : (env : Env) (as_value used : Bool) (ss : Steps) (base : Seen) (x : t.Step) (xs : t.Steps) → ((z : Ty) → (used ≡ true → is_owned z ≡ false) → Kept as_value ss z) → StepFits env used base.view x → StepsFit env as_value ss (step_seen x) xs
      → (z : Ty) → base ≡ as_shared z (object_of z) → Covered p c functions z → steps_are_covered p.kinds c.texts (t.more_steps x xs) → StepsEnd env as_value z (t.more_steps x xs)
  more_fit env as_value used ss base x xs keeps fits more z e cov covers =
      let same : base.view ≡ (as_shared z (object_of z)).view = ap (λ s. s.view) e in
      let one = fits (subst ObjectCovered (sym same) (part_covered z cov)) covers.0 in
      let ends = one.1 in
      let rest = more ends.z ends.seen ends.covered (keeps ends.z ends.kept) covers.1 in
      let refers_to = part_refers p c functions z (step_view x) cov (subst (λ b. Sees b (step_view x)) same ends.sees) ends.leads in
      let lent_same : lent (step_seen x) ≡ lent (as_shared ends.z (object_of ends.z)) = ap lent ends.seen in
      record {
        suits = (refers_to, one.0, subst (λ u. steps_suit p c functions env u xs) (sym lent_same) rest.suits);
        end = rest.end;
        place = ap (λ s. (steps_seen s xs).place) ends.seen ∙ rest.place;
        targets = targets_more env (lent (as_shared z (object_of z))) ends.z rest.end x xs refers_to one.0 ends.sets lent_same rest.targets;
        kept = rest.kept;
        last = ap (λ u. lent_last u xs) lent_same ∙ rest.last ∙ sym (ap (λ s. lent (steps_seen s xs)) ends.seen);
      }
