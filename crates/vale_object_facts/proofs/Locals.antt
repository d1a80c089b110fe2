-- Where a program's locals stand, and how the walk goes through code that moves, copies, lends and sets them.
use Rattle.std.proofs.Common.{◌≡◌, ◌≢◌, ℕ, ◌+◌, ◌<◌, ◌≤◌, List, [], ◌∷◌, Some, Bool, true, false, not, ◌&&◌, ◌==◌, if◌then◌else◌, refl, sym, ap, ◌∙◌, subst, arith, ⊎_elim}
use Rattle.std.proofs.lemmas.Bool.{cases_eq, eq-eqb, ne_eqb}
use Rattle.vale_rules_spec.specs.Types.{Ty, Local, local_of}
use Rattle.vale_rules_spec.specs.Types as y
use Rattle.vale_syntax.specs.declared.tree.NameAt.{NameAt}
use Rattle.vale_rules_spec.specs.Typing.{Env, with_local as env_with_local}
use Rattle.vale_code.specs.declared.instr.Instr.TheVariants as i
use Rattle.vale_cert.specs.Known.{is_free, agrees}
use Rattle.vale_cert.specs.declared.facts.RegFact.TheVariants.{Empty, Held}
use Rattle.vale_lowering_objects.specs.Lowered.{move_out, lend, lend_local, moved_out}
use Rattle.vale_lowering_objects.specs.Program.{code_type}
use Rattle.vale_lowering_objects.specs.Scopes.{gives_of, is_owner, entry, find, Gone, is_gone}
use Rattle.vale_object_facts.specs.Slots.{Role, local, waits, at_hand, is_listed, list_slot, Slot, Slots, scope_of, scope_at, Stand, with_gone, holding, with_role, with_local, is_lost, slot_fact, fact_in}
use Rattle.vale_object_facts.proofs.Agreeing.{agrees_same}
use Rattle.vale_object_facts.proofs.Covering.{Site, at, held, Falls, falls_up, nothing_above}
use Rattle.vale_object_facts.proofs.Leaving.{Sits, owner_is}
use Rattle.vale_object_facts.proofs.Owners.{owned_too, moves_out, lends_run}
use Rattle.vale_object_facts.proofs.Rows.{beside_same, copy_runs}
use Rattle.vale_object_facts.proofs.Runs.{Runs, falls}
use Rattle.vale_object_facts.proofs.Ways.{Clean}

-- the locals of a program that have these slots
abbrev pub local_for : Role → Ty → ℕ → List Local → List Local
local_for (local n) ty d ls = record { name = n; ty = ty; depth = d } ∷ ls
local_for waits ty d ls = ls
local_for at_hand ty d ls = ls

abbrev pub locals_of : Slots → List Local
locals_of [] = []
locals_of (x ∷ xs) = local_for x.role x.ty x.depth (locals_of xs)

-- the slot of a local of this type
pub record Named (n : ℕ) (ty : Ty) (xs : Slots) : Type 0 where
  pub slot : Slot
  pub found : find n (scope_of xs) ≡ Some (entry n slot.register (gives_of slot.ty))
  pub typed : slot.ty ≡ ty
  pub listed : is_listed slot.role ≡ true
  -- it is one of the slots
  pub among : (k : Site) (h d : ℕ) → Falls k h xs → Sits d xs → (slot.register < h) × (slot.depth ≡ d) × ((g : Gone) → fact_in k.parts xs g slot.register ≡ slot_fact k.parts slot g)

further : (k : Site) (n : ℕ) (ty : Ty) (z : Slot) (xs : Slots) (x : Named n ty xs) (h d : ℕ) → Falls k h (z ∷ xs) → Sits d (z ∷ xs) → (x.slot.register < h) × (x.slot.depth ≡ d) × ((g : Gone) → fact_in k.parts (z ∷ xs) g x.slot.register ≡ slot_fact k.parts x.slot g)
further k n ty z xs x h d f s =
    let a = x.among k z.register d f.1 s.2 in
    let lt = f.0 in let lt2 = a.0 in
    (omega (arith, lt, lt2), a.1, λ g. ap (λ b. if b then slot_fact k.parts z g else fact_in k.parts xs g x.slot.register) (ne_eqb z.register x.slot.register (omega (arith, lt2))) ∙ a.2 g)

first_named : (n : ℕ) (m : ℕ) (z : Slot) (xs : Slots) (ty : Ty) → z.role ≡ local m → m ≡ n → z.ty ≡ ty → Named n ty (z ∷ xs)
first_named n m z xs ty role same typed = record {
  slot = z;
  found = ap (λ r. find n (list_slot r z.register (gives_of z.ty) (scope_of xs))) role ∙ ap (λ b. if b then Some (entry m z.register (gives_of z.ty)) else find n (scope_of xs)) (eq-eqb m n same) ∙ ap (λ q. Some (entry q z.register (gives_of z.ty))) same;
  typed = typed;
  listed = ap is_listed role;
  among = λ k h d f s. (f.0, s.0, λ g. ap (λ b. if b then slot_fact k.parts z g else fact_in k.parts xs g z.register) (eq-eqb z.register z.register refl));
}

later_named : (n : ℕ) (z : Slot) (xs : Slots) (ty : Ty) → find n (list_slot z.role z.register (gives_of z.ty) (scope_of xs)) ≡ find n (scope_of xs) → Named n ty xs → Named n ty (z ∷ xs)
later_named n z xs ty passes x = record { slot = x.slot; found = passes ∙ x.found; typed = x.typed; listed = x.listed; among = λ k h d f s. further k n ty z xs x h d f s }

named_by : (role : Role) (n : ℕ) (z : Slot) (xs : Slots) (l : Local) → z.role ≡ role → local_of n (local_for role z.ty z.depth (locals_of xs)) ≡ Some l → (local_of n (locals_of xs) ≡ Some l → Named n l.ty xs) → Named n l.ty (z ∷ xs)
named_by (local m) n z xs l is e rest = ⊎_elim (λ same. here same) (λ ne. there ne) (cases_eq m n)
  where
    here : m ≡ n → Named n l.ty (z ∷ xs)
    here same =
        let z1 : local_of n (record { name = m; ty = z.ty; depth = z.depth } ∷ locals_of xs) ≡ Some (record { name = m; ty = z.ty; depth = z.depth }) = ap (λ b. if b then Some (record { name = m; ty = z.ty; depth = z.depth }) else local_of n (locals_of xs)) (eq-eqb m n same) in
        let is_it : record { name = m; ty = z.ty; depth = z.depth } ≡ l = cc in
        first_named n m z xs l.ty is same (ap (λ q. q.ty) is_it)

    there : m ≢ n → Named n l.ty (z ∷ xs)
    there ne =
        later_named n z xs l.ty (ap (λ r. find n (list_slot r z.register (gives_of z.ty) (scope_of xs))) is ∙ ap (λ b. if b then Some (entry m z.register (gives_of z.ty)) else find n (scope_of xs)) (ne_eqb m n ne))
        (rest (sym (ap (λ b. if b then Some (record { name = m; ty = z.ty; depth = z.depth }) else local_of n (locals_of xs)) (ne_eqb m n ne)) ∙ e))
named_by waits n z xs l is e rest = later_named n z xs l.ty (ap (λ r. find n (list_slot r z.register (gives_of z.ty) (scope_of xs))) is) (rest e)
named_by at_hand n z xs l is e rest = later_named n z xs l.ty (ap (λ r. find n (list_slot r z.register (gives_of z.ty) (scope_of xs))) is) (rest e)

pub named : (n : ℕ) (xs : Slots) (l : Local) → local_of n (locals_of xs) ≡ Some l → Named n l.ty xs
named n [] l e = absurd (cc)
named n (z ∷ xs) l e = named_by z.role n z xs l refl e (named n xs l)

module _ (k : Site) where
  -- an owner that is gone changes nothing of other registers
  pub others_stay : (xs : Slots) (r q : ℕ) (g : Gone) → r ≢ q → fact_in k.parts xs (r ∷ g) q ≡ fact_in k.parts xs g q
  others_stay [] r q g ne = refl
  others_stay (z ∷ xs) r q g ne =
      ⊎_elim
      (λ e.
      ap (λ b. if z.register == q then (if is_listed z.role && y.is_owned z.ty && b then Empty else Held (code_type k.parts z.ty) z.depth false) else fact_in k.parts xs (r ∷ g) q)
      (ap (λ b. if b then true else is_gone z.register g) (ne_eqb r z.register (λ w. ne (w ∙ e))))
      ∙ ap (λ f. if z.register == q then slot_fact k.parts z g else f) (others_stay xs r q g ne))
      (λ n.
      ap (λ b. if b then slot_fact k.parts z (r ∷ g) else fact_in k.parts xs (r ∷ g) q) (ne_eqb z.register q n)
      ∙ others_stay xs r q g ne
      ∙ sym (ap (λ b. if b then slot_fact k.parts z g else fact_in k.parts xs g q) (ne_eqb z.register q n)))
      (cases_eq z.register q)

  -- ---- where a part stands

  pub record Stands (env : Env) (h : ℕ) (s : Stand) : Type 0 where
    pub scope : env.scope ≡ locals_of s.slots
    pub falls : Falls k h s.slots
    pub sits : Sits s.depth s.slots
    pub depth : s.depth ≡ 0
    pub level : env.depth ≡ s.depth
    pub gives : env.gives ≡ k.result

  pub none_at : {env : Env} {h : ℕ} {s : Stand} (r : ℕ) → Stands env h s → h ≤ r → at k s r ≡ Empty
  none_at {h = h} {s} r st le = nothing_above k h s.slots s.gone r st.falls le

  pub free_at : {env : Env} {h : ℕ} {s : Stand} (r : ℕ) → Stands env h s → h ≤ r → is_free (at k s r) ≡ true
  free_at r st le = ap is_free (none_at r st le)

  pub stands_up : {env : Env} {h : ℕ} {s : Stand} (j : ℕ) → h ≤ j → Stands env h s → Stands env j s
  stands_up {h = h} {s} j le st = record { scope = st.scope; falls = falls_up k h j s.slots le st.falls; sits = st.sits; depth = st.depth; level = st.level; gives = st.gives }

  pub stands_gone : {env : Env} {h : ℕ} {s : Stand} (g : Gone) → Stands env h s → Stands env h (with_gone g s)
  stands_gone g st = record { scope = st.scope; falls = st.falls; sits = st.sits; depth = st.depth; level = st.level; gives = st.gives }

  -- with a value at hand, which is no owner
  pub stands_holding : {env : Env} {h : ℕ} {s : Stand} (x : Ty) → y.is_owned x ≡ false → Stands env h s → Stands env (h + 1) (holding h x s)
  stands_holding {h = h} {s} x e st = record { scope = st.scope; falls = (omega arith, st.falls); sits = (refl, ap not e, st.sits); depth = st.depth; level = st.level; gives = st.gives }

  pub stands_waiting : {env : Env} {h : ℕ} {s : Stand} (x : Ty) → Stands env h s → Stands env (h + 1) (with_role waits h x s)
  stands_waiting {h = h} {s} x st = record { scope = st.scope; falls = (omega arith, st.falls); sits = (refl, refl, st.sits); depth = st.depth; level = st.level; gives = st.gives }

  pub stands_local : {env : Env} {h : ℕ} {s : Stand} (n : NameAt) (x : Ty) (g : Gone) → Stands env h s → Stands (env_with_local n x env) (h + 1) (with_local n.name.0 h x (with_gone g s))
  stands_local {env} {h} {s} n x g st = record {
    scope = ap (λ d. record { name = n.name.0; ty = x; depth = d } ∷ env.scope) st.level ∙ ap (λ ls. record { name = n.name.0; ty = x; depth = s.depth } ∷ ls) st.scope;
    falls = (omega arith, st.falls);
    sits = (refl, refl, st.sits);
    depth = st.depth;
    level = st.level;
    gives = st.gives;
  }

  -- ---- a local is used

  -- its slot
  module _ {env : Env} {h : ℕ} {s : Stand} (st : Stands env h s) {n : ℕ} {x : Ty} (nm : Named n x s.slots) where
    abbrev reg : ℕ
    reg = nm.slot.register

    pub below : reg < h
    below = (nm.among k h s.depth st.falls st.sits).0

    pub holds : is_lost nm.slot s.gone ≡ false → at k s reg ≡ held k x s.depth
    holds e =
        (nm.among k h s.depth st.falls st.sits).2 s.gone
        ∙ ap (λ b. if b then Empty else Held (code_type k.parts nm.slot.ty) nm.slot.depth false) e
        ∙ ap (λ t. held k t nm.slot.depth) nm.typed ∙ ap (λ d. held k x d) (nm.among k h s.depth st.falls st.sits).1

    pub lost : (g : Gone) → y.is_owned x ≡ true → at k (with_gone (reg ∷ g) s) reg ≡ Empty
    lost g o =
        (nm.among k h s.depth st.falls st.sits).2 (reg ∷ g)
        ∙ ap (λ b. if b then Empty else Held (code_type k.parts nm.slot.ty) nm.slot.depth false)
        (ap (λ b. b && y.is_owned nm.slot.ty && is_gone reg (reg ∷ g)) nm.listed ∙ ap (λ b. true && b && is_gone reg (reg ∷ g)) (ap y.is_owned nm.typed ∙ o) ∙ ap (λ b. if b then true else is_gone reg g) (eq-eqb reg reg refl))

    -- an owner is moved to h
    pub move_runs : {p : ℕ} → Clean (move_out (find n (scope_at s)) s.gone h) → y.is_owned x ≡ true
        → Runs k p (move_out (find n (scope_at s)) s.gone h) (s ∷ []) s (falls (holding h x (with_gone (moved_out (find n (scope_at s)) s.gone) s)))
    move_runs {p} clean o =
        subst (λ f. Clean (move_out f s.gone h) → Runs k p (move_out f s.gone h) (s ∷ []) s (falls (holding h x (with_gone (moved_out f s.gone) s)))) (sym nm.found)
        (λ clean. by (is_owner (gives_of nm.slot.ty)) (is_gone reg s.gone) refl clean) clean
      where
        by : (owned gone : Bool) → is_gone reg s.gone ≡ gone → Clean (if owned then (if gone then i.Truth h 2 ∷ [] else i.Move h reg ∷ []) else i.Truth h 2 ∷ [])
            → Runs k p (if owned then (if gone then i.Truth h 2 ∷ [] else i.Move h reg ∷ []) else i.Truth h 2 ∷ []) (s ∷ []) s (falls (holding h x (with_gone (reg ∷ s.gone) s)))
        by false gone e c = absurd (cc)
        by true true e c = absurd (cc)
        by true false e c =
            let lt = below in
            moves_out k h reg x (holds (ap (λ b. is_listed nm.slot.role && y.is_owned nm.slot.ty && b) e ∙ none (is_listed nm.slot.role && y.is_owned nm.slot.ty))) o (free_at h st (omega arith)) (omega (arith, lt)) refl (lost s.gone o)
            (λ q nh nr. subst (λ f. agrees f (at k s q) ≡ true) (sym (others_stay s.slots reg q s.gone nr)) (agrees_same (at k s q)))
          where
            none : (b : Bool) → (b && false) ≡ false
            none true = refl
            none false = refl

    -- any other value is copied
    pub load_runs : {p : ℕ} (v : y.View) → y.is_owned x ≡ false → Runs k p (lend_local (find n (scope_at s)) s.gone v h) (s ∷ []) s (falls (holding h x s))
    load_runs {p} v o =
        subst (λ f. Runs k p (lend_local f s.gone v h) (s ∷ []) s (falls (holding h x s))) (sym nm.found)
        (by (is_owner (gives_of nm.slot.ty)) (owner_is nm.slot.ty ∙ ap y.is_owned nm.typed ∙ o))
      where
        by : (owned : Bool) → owned ≡ false → Runs k p (if owned then (if is_gone reg s.gone then i.Truth h 2 ∷ [] else lend v h reg ∷ []) else i.Copy h reg ∷ []) (s ∷ []) s (falls (holding h x s))
        by true e = absurd (cc)
        by false e =
            copy_runs k h reg x (holds (ap (λ b. is_listed nm.slot.role && b && is_gone reg s.gone) (ap y.is_owned nm.typed ∙ o) ∙ ap (λ b. b && is_gone reg s.gone) (none (is_listed nm.slot.role)))) (ap not (owned_too k.parts x ∙ o)) (free_at h st (omega arith)) refl (beside_same k h s)
          where
            none : (b : Bool) → (b && false) ≡ false
            none true = refl
            none false = refl

    -- a reference to what an owner leads to
    pub lend_runs : {p : ℕ} (v : y.View) → Clean (lend_local (find n (scope_at s)) s.gone v h) → y.is_owner x ≡ true → y.is_frozen v ≡ false → Runs k p (lend_local (find n (scope_at s)) s.gone v h) (s ∷ []) s (falls (holding h (y.ref x) s))
    lend_runs {p} v clean o shared =
        subst (λ f. Clean (lend_local f s.gone v h) → Runs k p (lend_local f s.gone v h) (s ∷ []) s (falls (holding h (y.ref x) s))) (sym nm.found)
        (λ c. by (is_owner (gives_of nm.slot.ty)) (is_gone reg s.gone) (owner_is nm.slot.ty ∙ ap y.is_owned nm.typed ∙ owner_owned x o) refl c) clean
      where
        owner_owned : (z : Ty) → y.is_owner z ≡ true → y.is_owned z ≡ true
        owner_owned (y.kind m) e = refl
        owner_owned (y.array z) e = refl
        owner_owned y.void e = absurd (cc)
        owner_owned y.int e = absurd (cc)
        owner_owned y.bool e = absurd (cc)
        owner_owned y.str e = absurd (cc)
        owner_owned (y.ref z) e = absurd (cc)
        owner_owned (y.imm z) e = absurd (cc)
        owner_owned (y.iso z) e = absurd (cc)

        none : (b : Bool) → (b && false) ≡ false
        none true = refl
        none false = refl

        borrowed : is_gone reg s.gone ≡ false → Runs k p (i.Borrow h reg ∷ []) (s ∷ []) s (falls (holding h (y.ref x) s))
        borrowed e =
            lends_run k h reg x (holds (ap (λ b. is_listed nm.slot.role && y.is_owned nm.slot.ty && b) e ∙ none (is_listed nm.slot.role && y.is_owned nm.slot.ty))) o (free_at h st (omega arith)) refl (beside_same k h s)

        by : (owned gone : Bool) → owned ≡ true → is_gone reg s.gone ≡ gone → Clean (if owned then (if gone then i.Truth h 2 ∷ [] else lend v h reg ∷ []) else i.Copy h reg ∷ [])
            → Runs k p (if owned then (if gone then i.Truth h 2 ∷ [] else lend v h reg ∷ []) else i.Copy h reg ∷ []) (s ∷ []) s (falls (holding h (y.ref x) s))
        by false gone o g c = absurd (cc)
        by true true o g c = absurd (cc)
        by true false o g c = subst (λ b. Runs k p ((if b then i.Frozen h reg else i.Borrow h reg) ∷ []) (s ∷ []) s (falls (holding h (y.ref x) s))) (sym shared) (borrowed g)
