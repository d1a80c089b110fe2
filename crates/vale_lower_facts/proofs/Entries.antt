-- What is known where a function is entered.
use Rattle.std.proofs.Common.{◌≡◌, ◌≢◌, ℕ, zero, suc, ◌+◌, ◌-◌, ◌≤◌, List, [], ◌∷◌, ◌++◌, length, map, replicate, Option, Some, None, Bool, true, false, ◌==◌, if◌then◌else◌, refl, sym, ap, ◌∙◌, subst, ⊎_elim, ◌⊎◌, inl, inr, arith, length-append}
use Rattle.std.specs.Prelude.{slice_get}
use Rattle.std.specs.List.{list_all}
use Rattle.std.proofs.lemmas.Bool.{and_parts, eqb-true}
use Rattle.std.proofs.lemmas.List.{length-map}
use Rattle.vale_syntax.specs.declared.tree.NameAt.{NameAt}
use Rattle.vale_syntax.specs.Tree.{Param, param}
use Rattle.vale_rules_spec.specs.Declarations.{param_type}
use Rattle.vale_rules_spec.specs.Types.{Ty, type_of, Local, local_of}
use Rattle.vale_rules_spec.specs.Types as y
use Rattle.vale_rules_spec.specs.Typing.{Env, with_local, with_params}
use Rattle.vale_model.specs.Parts.{param_names}
use Rattle.vale_code.specs.declared.ty.Ty.{Ty as CodeTy}
use Rattle.vale_cert.specs.Known.{fact_of, params_from}
use Rattle.vale_cert.specs.declared.facts.RegFact.{RegFact}
use Rattle.vale_cert.specs.declared.facts.RegFact.TheVariants.{Empty, Held}
use Rattle.vale_lowering.specs.Scopes.{place_of, parameters, code_type}
use Rattle.vale_lower_facts.specs.Slots.{Slots, local, scope_of, Stand, slot_at, or_last, type_at}
use Rattle.vale_lower_facts.specs.Marks.{param_slots}
use Rattle.vale_lower_facts.proofs.Stands.{Site, Covers, type_here, type_there, is_plain}
use Rattle.vale_lower_facts.proofs.Names.{copies_too, Placed}

-- ---- the parameters of a function and their slots

abbrev pub code_param : Param → CodeTy
code_param q = code_type (type_of (param_type q))

abbrev pub all_copy : List Param → Bool
all_copy ps = list_all (λ q. y.is_copy (type_of (param_type q))) ps

pub count_names : (ps : List Param) → length (param_names ps) ≡ length ps
count_names [] = refl
count_names (param n x ∷ ps) = ap suc (count_names ps)

pub params_scope : (ps : List Param) (r : ℕ) (s : Slots) → scope_of (param_slots r ps s) ≡ parameters r (param_names ps) (scope_of s)
params_scope [] r s = refl
params_scope (param n x ∷ ps) r s = params_scope ps (r + 1) (local n.name.0 r (type_of x) ∷ s)

pub params_gives : (ps : List Param) (env : Env) → (with_params ps env).gives ≡ env.gives
params_gives [] env = refl
params_gives (param n x ∷ ps) env = params_gives ps (with_local n (type_of x) env)

-- each slot is a parameter's
param_slot : (ps : List Param) (r q : ℕ) (s : Slots) (ty : CodeTy) → slot_at (param_slots r ps s) q ≡ Some ty → (slot_at s q ≡ Some ty) ⊎ ((j : ℕ) × (q ≡ r + j) × (slice_get (map code_param ps) j ≡ Some ty))
param_slot [] r q s ty e = inl e
param_slot (param n x ∷ ps) r q s ty e = ⊎_elim (λ d. here (r == q) refl d) (λ d. inr (suc d.0, let at = d.1 in omega (arith, at), d.2)) (param_slot ps (r + 1) q (local n.name.0 r (type_of x) ∷ s) ty e)
  where
    here : (b : Bool) → (r == q) ≡ b → (if b then Some (code_type (type_of x)) else slot_at s q) ≡ Some ty → (slot_at s q ≡ Some ty) ⊎ ((j : ℕ) × (q ≡ r + j) × (slice_get (map code_param (param n x ∷ ps)) j ≡ Some ty))
    here true is d = let same = eqb-true r q is in inr (0, omega (arith, same), d)
    here false is d = inl d

-- ---- what is known of the registers

params_facts : (tys : List CodeTy) (n j : ℕ) (ty : CodeTy) (rest : List RegFact) → slice_get tys j ≡ Some ty → fact_of (params_from n [] tys ++ rest) j ≡ Held ty 0 false
params_facts [] n j ty rest e = absurd (cc)
params_facts (u ∷ tys) n zero ty rest e = let same : u ≡ ty = cc in ap (λ x. Held x 0 false) same
params_facts (u ∷ tys) n (suc j) ty rest e = params_facts tys (n + 1) j ty rest e

count_params : (tys : List CodeTy) (n : ℕ) → length (params_from n [] tys) ≡ length tys
count_params [] n = refl
count_params (u ∷ tys) n = ap suc (count_params tys (n + 1))

count_empty : (n : ℕ) → length (replicate n Empty) ≡ n
count_empty zero = refl
count_empty (suc n) = ap suc (count_empty n)

empty_plain : (n r : ℕ) → is_plain (fact_of (replicate n Empty) r) ≡ true
empty_plain zero r = refl
empty_plain (suc n) zero = refl
empty_plain (suc n) (suc r) = empty_plain n r

params_plain : (ps : List Param) (n m r : ℕ) → all_copy ps ≡ true → is_plain (fact_of (params_from n [] (map code_param ps) ++ replicate m Empty) r) ≡ true
params_plain [] n m r e = empty_plain m r
params_plain (p ∷ ps) n m zero e = copies_too (type_of (param_type p)) (and_parts (y.is_copy (type_of (param_type p))) (all_copy ps) e).0
params_plain (p ∷ ps) n m (suc r) e = params_plain ps (n + 1) m r (and_parts (y.is_copy (type_of (param_type p))) (all_copy ps) e).1

module _ (k : Site) where
  abbrev start : Slots → Stand
  start s = record { slots = s; over = false }

  or_none : (r : ℕ) (o : Option CodeTy) → or_last k.last false r o ≡ o
  or_none r None = refl
  or_none r (Some ty) = refl

  pub at_start : (s : Slots) (r : ℕ) → type_at k.last (start s) r ≡ slot_at s r
  at_start s r = or_none r (slot_at s r)

  pub record Named (env : Env) (s : Slots) : Type 0 where
    pub each : (m : ℕ) (l : Local) → local_of m env.scope ≡ Some l → Placed k m l (start s)

  pub named_none : {env : Env} → env.scope ≡ [] → Named env []
  named_none {env} e = record { each = λ m l q. let z : local_of m [] ≡ Some l = subst (λ s. local_of m s ≡ Some l) e q in absurd (cc) }

  named_more : (n : NameAt) (ty : Ty) (r : ℕ) (env : Env) (s : Slots) → y.is_copy ty ≡ true → slot_at s r ≡ None → Named env s → Named (with_local n ty env) (local n.name.0 r ty ∷ s)
  named_more n ty r env s copy free named = record { each = λ m l e. by m l (n.name.0 == m) refl e }
    where
      new : Local
      new = record { name = n.name.0; ty = ty; depth = env.depth }

      here : (m : ℕ) (l : Local) → (n.name.0 == m) ≡ true → new ≡ l → Placed k m l (start (local n.name.0 r ty ∷ s))
      here m l q e =
          subst (λ l. Placed k m l (start (local n.name.0 r ty ∷ s))) e
          (record { register = r; found = ap (λ b. if b then Some r else place_of m (scope_of s)) q; typed = type_here k (local n.name.0 r ty) (start s) r refl; copy = copy })

      off : (q : ℕ) (u : CodeTy) → slot_at s q ≡ Some u → r ≢ q
      off q u e same = let z : slot_at s q ≡ None = subst (λ x. slot_at s x ≡ None) same free in let f : ⊥ = cc in f

      there : (m : ℕ) (l : Local) → (n.name.0 == m) ≡ false → Placed k m l (start s) → Placed k m l (start (local n.name.0 r ty ∷ s))
      there m l q p = record {
        register = p.register;
        found = ap (λ b. if b then Some r else place_of m (scope_of s)) q ∙ p.found;
        typed = type_there k (local n.name.0 r ty) (start s) p.register (off p.register (code_type l.ty) (sym (at_start s p.register) ∙ p.typed)) ∙ p.typed;
        copy = p.copy;
      }

      by : (m : ℕ) (l : Local) (b : Bool) → (n.name.0 == m) ≡ b → (if b then Some new else local_of m env.scope) ≡ Some l → Placed k m l (start (local n.name.0 r ty ∷ s))
      by m l true q e = here m l q (let z : new ≡ l = cc in z)
      by m l false q e = there m l q (named.each m l e)

  pub record Entered (env : Env) (r : ℕ) (s : Slots) : Type 0 where
    pub free : (q : ℕ) → r ≤ q → slot_at s q ≡ None
    pub named : Named env s

  pub params_enter : (ps : List Param) (r : ℕ) (env : Env) (s : Slots) → all_copy ps ≡ true → Entered env r s → Entered (with_params ps env) (r + length ps) (param_slots r ps s)
  params_enter [] r env s copy en = record { free = λ q le. en.free q (omega (arith, le)); named = en.named }
  params_enter (param n x ∷ ps) r env s copy en =
      let w = and_parts (y.is_copy (type_of x)) (all_copy ps) copy in
      let more = params_enter ps (r + 1) (with_local n (type_of x) env) (local n.name.0 r (type_of x) ∷ s) w.1
      (record { free = λ q le. slot_off q (omega (arith, le)) ∙ en.free q (omega (arith, le)); named = named_more n (type_of x) r env s w.0 (en.free r (omega arith)) en.named }) in
      record { free = λ q le. more.free q (omega (arith, le)); named = more.named }
    where
      slot_off : (q : ℕ) → r ≢ q → slot_at (local n.name.0 r (type_of x) ∷ s) q ≡ slot_at s q
      slot_off q ne = sym (at_start (local n.name.0 r (type_of x) ∷ s) q) ∙ type_there k (local n.name.0 r (type_of x)) (start s) q ne ∙ at_start s q

  -- the registers hold the parameters
  pub covers_entry : (ps : List Param) → all_copy ps ≡ true → length ps ≤ k.func.registers
      → Covers k (record { depth = 0; regs = params_from 0 [] (map code_param ps) ++ replicate (k.func.registers - length (map code_param ps)) Empty }) (start (param_slots 0 ps []))
  covers_entry ps copy le = record {
    depth = refl;
    size = size;
    plain = λ r. params_plain ps 0 (k.func.registers - length (map code_param ps)) r copy;
    held = λ r ty lt e. by r ty (param_slot ps 0 r [] ty (sym (at_start (param_slots 0 ps []) r) ∙ e));
  }
    where
      size : length (params_from 0 [] (map code_param ps) ++ replicate (k.func.registers - length (map code_param ps)) Empty) ≡ k.func.registers
      size = omega (arith, le, length-append (params_from 0 [] (map code_param ps)) (replicate (k.func.registers - length (map code_param ps)) Empty), count_params (map code_param ps) 0, length-map ps code_param, count_empty (k.func.registers - length (map code_param ps)))

      by : (r : ℕ) (ty : CodeTy) → (slot_at [] r ≡ Some ty) ⊎ ((j : ℕ) × (r ≡ 0 + j) × (slice_get (map code_param ps) j ≡ Some ty)) → fact_of (params_from 0 [] (map code_param ps) ++ replicate (k.func.registers - length (map code_param ps)) Empty) r ≡ Held ty 0 false
      by r ty (inl e) = absurd (cc)
      by r ty (inr d) =
          let at = d.1 in let same : d.0 ≡ r = omega (arith, at) in
          subst (λ q. fact_of (params_from 0 [] (map code_param ps) ++ replicate (k.func.registers - length (map code_param ps)) Empty) q ≡ Held ty 0 false) same
          (params_facts (map code_param ps) 0 d.0 ty (replicate (k.func.registers - length (map code_param ps)) Empty) d.2)
