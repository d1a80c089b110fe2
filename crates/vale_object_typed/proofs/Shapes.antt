-- What is known of expressions that name places: locals, and what steps lead to.
use Rattle.std.proofs.Common.{◌≡◌, Bool, true, false, not, ◌&&◌, ◌==◌, List, Some, None, if◌then◌else◌, ◌⊎◌, inl, inr, refl, sym, ap, ◌∙◌, subst, ⊎_elim}
use Rattle.std.proofs.lemmas.Bool.{eqb-true}
use Rattle.vale_syntax.specs.declared.tree.NameAt.{NameAt}
use Rattle.vale_rules_spec.specs.TypeRules.{is_owned_place, borrow_gives}
use Rattle.vale_rules_spec.specs.Types.{Ty, void, int, bool, str, kind, array, ref, imm, iso, is_owner, is_owned, object_of, as_shared, View, blind, direct, shared, seen_object, Seen, a_value, value_view, view_here, as_frozen, Local, local_of, local_seen, is_outer, is_movable}
use Rattle.vale_rules_spec.specs.Typed as t
use Rattle.vale_rules_spec.specs.Typed.{step_seen, steps_seen}
use Rattle.vale_rules_spec.specs.Typing.{Env, named}
use Rattle.vale_model.specs.Parts.{Parts}
use Rattle.vale_code.specs.Parts.{Parts as Code}
use Rattle.vale_object_facts.specs.Stands.{lent}
use Rattle.vale_object_facts.specs.Suits.{refers, starts_from, node_suits, expr_suits, place_suits}
use Rattle.vale_object_typed.specs.Covered.{type_is_covered}

-- a local of the depth at hand
abbrev pub here : Local → Seen
here l = record { value = l.ty; view = view_here l.ty; place = Some l.ty }

-- the type of what comes into a register
abbrev pub given : t.Expr → Ty
given (t.expr s (t.steps e ss)) = lent s
given (t.expr s node) = s.value

abbrev pub node_of : t.Expr → t.Node
node_of (t.expr s node) = node

-- how a step sees its base: as it is, or by a reference to it
abbrev pub Sees : View → View → Type 0
Sees b v = (v ≡ b) ⊎ ((w : Ty) × (b ≡ direct w) × (v ≡ shared w))

abbrev pub Leads : View → Type 0
Leads v = (w : Ty) × (seen_object v ≡ Some w)

module _ (p : Parts) (c : Code) (functions : List t.Function) where
  abbrev pub Covered : Ty → Type 0
  Covered = type_is_covered p.kinds c.texts

  abbrev pub LocalShape : Env → Bool → Seen → NameAt → Bool → Type 0
  LocalShape env as_value s n moved = (l : Local) × (local_of n.name.0 env.scope ≡ Some l) × (s ≡ here l) × (l.depth ≡ env.depth) × (as_value ≡ false → moved ≡ false)

  -- what an expression is to steps, `&` and `set`
  abbrev pub Shape : Env → Bool → t.Expr → Type 0
  Shape env as_value (t.expr s (t.name n o moved)) = LocalShape env as_value s n moved
  Shape env as_value (t.expr s (t.steps e ss)) = (z : Ty) × (s.place ≡ Some z) × place_suits p c functions env z (t.expr s (t.steps e ss))
  Shape env as_value (t.expr s node) = s ≡ a_value s.value

  abbrev pub Suited : Env → Bool → t.Expr → Type 0
  Suited env as_value x = node_suits p c functions env (given x) (node_of x) × Shape env as_value x × (as_value ≡ true → given x ≡ t.type x)

  pub suits_value : (env : Env) (x : t.Expr) → Suited env true x → expr_suits p c functions env x
  suits_value env (t.expr s node) h = subst (λ z. node_suits p c functions env z node) (h.2 refl) h.0

  -- ---- names

  near_is : (b : Bool) → not b ≡ false → b ≡ true
  near_is true e = refl
  near_is false e = absurd (cc)

  far_or_here : (l : Local) (s : Seen) (b : Bool) → b ≡ true → (if b then here l else s) ≡ here l
  far_or_here l s true e = refl
  far_or_here l s false e = absurd (cc)

  pub named_suits : (env : Env) (as_value : Bool) (n : NameAt) (l : Local) → local_of n.name.0 env.scope ≡ Some l → is_outer env.depth l ≡ false → Suited env as_value (named env as_value n (Some l))
  named_suits env as_value n l found inside =
      let near = near_is (l.depth == env.depth) inside in
      let depth = eqb-true l.depth env.depth near in
      let same : local_seen env.depth l ≡ here l = far_or_here l (as_frozen l.ty (object_of l.ty)) (l.depth == env.depth) near in
      (record { is = l; found = found; typed = sym (ap (λ s. s.value) same); depth = depth }, (l, found, same, depth, λ e. ap (λ b. b && is_movable env.depth l) e), λ e. refl)

  -- ---- what a first step starts from

  nothing_leads : (A : Type 0) (v : View) → Sees blind v → Leads v → A
  nothing_leads A v s l =
      ⊎_elim (λ e. absurd (let f : None ≡ Some l.0 = sym (ap seen_object e) ∙ l.1 in cc)) (λ d. absurd (let e : blind ≡ direct d.0 = d.1 in cc)) s

  -- a local is seen so
  pub local_starts : (x : Ty) (v : View) → Covered x → Sees (view_here x) v → Leads v → starts_from x v
  local_starts (kind n) v cov s l = ⊎_elim (λ e. subst (starts_from (kind n)) (sym e) (refl, refl)) (λ d. let same : kind n ≡ d.0 = (let e : direct (kind n) ≡ direct d.0 = d.1 in cc) in subst (starts_from (kind n)) (sym d.2) (inl (same, ap is_owner (sym same)))) s
  local_starts (array z) v cov s l = ⊎_elim (λ e. subst (starts_from (array z)) (sym e) (refl, refl)) (λ d. let same : array z ≡ d.0 = (let e : direct (array z) ≡ direct d.0 = d.1 in cc) in subst (starts_from (array z)) (sym d.2) (inl (same, ap is_owner (sym same)))) s
  local_starts (ref z) v cov s l = ⊎_elim (λ e. subst (starts_from (ref z)) (sym e) (inr refl)) (λ d. absurd (let e : shared z ≡ direct d.0 = d.1 in cc)) s
  local_starts (imm z) v cov s l = absurd cov
  local_starts (iso z) v cov s l = absurd cov
  local_starts void v cov s l = nothing_leads (starts_from void v) v s l
  local_starts int v cov s l = nothing_leads (starts_from int v) v s l
  local_starts bool v cov s l = nothing_leads (starts_from bool v) v s l
  local_starts str v cov s l = nothing_leads (starts_from str v) v s l

  -- a value is a reference to what is seen so
  pub value_refers : (x : Ty) (v : View) → Covered x → Sees (value_view x) v → Leads v → refers x v
  value_refers (ref z) v cov s l = ⊎_elim (λ e. subst (refers (ref z)) (sym e) refl) (λ d. absurd (let e : shared z ≡ direct d.0 = d.1 in cc)) s
  value_refers (imm z) v cov s l = absurd cov
  value_refers (iso z) v cov s l = absurd cov
  value_refers (kind n) v cov s l = nothing_leads (refers (kind n) v) v s l
  value_refers (array z) v cov s l = nothing_leads (refers (array z) v) v s l
  value_refers void v cov s l = nothing_leads (refers void v) v s l
  value_refers int v cov s l = nothing_leads (refers int v) v s l
  value_refers bool v cov s l = nothing_leads (refers bool v) v s l
  value_refers str v cov s l = nothing_leads (refers str v) v s l

  -- what a step led to is a reference to what the next sees
  pub part_refers : (z : Ty) (v : View) → Covered z → Sees (as_shared z (object_of z)).view v → Leads v → refers (lent (as_shared z (object_of z))) v
  part_refers (kind n) v cov s l = ⊎_elim (λ e. subst (refers (ref (kind n))) (sym e) refl) (λ d. absurd (let e : shared (kind n) ≡ direct d.0 = d.1 in cc)) s
  part_refers (array z) v cov s l = ⊎_elim (λ e. subst (refers (ref (array z))) (sym e) refl) (λ d. absurd (let e : shared (array z) ≡ direct d.0 = d.1 in cc)) s
  part_refers (ref z) v cov s l = ⊎_elim (λ e. subst (refers (ref z)) (sym e) refl) (λ d. absurd (let e : shared z ≡ direct d.0 = d.1 in cc)) s
  part_refers (imm z) v cov s l = absurd cov
  part_refers (iso z) v cov s l = absurd cov
  part_refers void v cov s l = nothing_leads (refers void v) v s l
  part_refers int v cov s l = nothing_leads (refers int v) v s l
  part_refers bool v cov s l = nothing_leads (refers bool v) v s l
  part_refers str v cov s l = nothing_leads (refers str v) v s l

  -- an owner that isn't used as a value
  pub plain_lent : (s : Seen) (z : Ty) → s.place ≡ Some z → is_owned z ≡ false → lent s ≡ s.value
  plain_lent s z e o = ap (λ q. if is_owned_place q then borrow_gives s.view else s.value) e ∙ ap (λ b. if b then borrow_gives s.view else s.value) o

  pub owned_lent : (s : Seen) (z : Ty) → s.place ≡ Some z → is_owned z ≡ true → lent s ≡ borrow_gives s.view
  owned_lent s z e o = ap (λ q. if is_owned_place q then borrow_gives s.view else s.value) e ∙ ap (λ b. if b then borrow_gives s.view else s.value) o
