-- What a first step starts from: a local in its register, or a reference.
use Rattle.std.proofs.Common.{◌≡◌, ℕ, ◌+◌, ◌<◌, ◌≤◌, List, [], ◌∷◌, length, Option, Some, Bool, true, false, not, ◌&&◌, ◌||◌, ◌==◌, if◌then◌else◌, refl, sym, ap, ◌∙◌, subst, arith, ⊎_elim}
use Rattle.std.proofs.lemmas.Bool.{and_parts, eqb-true}
use Rattle.vale_rules_spec.specs.TypeRules.{borrow_gives}
use Rattle.vale_rules_spec.specs.Types.{Ty, View, blind, direct, shared, frozen, is_frozen, is_direct, is_owner, Seen}
use Rattle.vale_rules_spec.specs.Types as y
use Rattle.vale_rules_spec.specs.Typing.{Env}
use Rattle.vale_code.specs.declared.instr.Instr.{Instr}
use Rattle.vale_lowering.specs.Instructions.{only_if}
use Rattle.vale_lowering_objects.specs.Lowered.{stays_of, free_register, Origin, at_hand, reference, lend_local, from_local}
use Rattle.vale_lowering_objects.specs.Scopes.{gives_of, is_owner as owner_gives, Entry, entry, find, Gone, is_gone, After}
use Rattle.vale_object_facts.specs.Slots.{Role, local, waits, at_hand as role_at_hand, is_listed, list_slot, Slots, scope_of, scope_at, Stand, with_gone, holding}
use Rattle.vale_object_facts.specs.Stands.{Stands as Marks, gone_of}
use Rattle.vale_object_facts.specs.Suits.{starts_from, lent_from}
use Rattle.vale_object_facts.proofs.Arguments.{find_below}
use Rattle.vale_object_facts.proofs.Cells.{Leads}
use Rattle.vale_object_facts.proofs.Covering.{Site, held, Falls, holding_here}
use Rattle.vale_object_facts.proofs.Leaving.{owner_is}
use Rattle.vale_object_facts.proofs.Locals.{Named, Stands, stands_gone, below, holds, load_runs, lend_runs}
use Rattle.vale_object_facts.proofs.Parts.{chosen}
use Rattle.vale_object_facts.proofs.Runs.{ending, Runs, both, falls}
use Rattle.vale_object_facts.proofs.Waits.{Unnamed}
use Rattle.vale_object_facts.proofs.Ways.{Clean, clean_both}

-- ---- a register has one name

-- by what the outermost of the slots is
named_once : (k : Site) (n m r : ℕ) (ty : Ty) (xs : Slots) (x z : Entry) (role : Role) → Falls k r xs → find n (list_slot role r (gives_of ty) (scope_of xs)) ≡ Some x → find m (list_slot role r (gives_of ty) (scope_of xs)) ≡ Some z → z.register ≡ x.register
    → ((w : Entry) (q : ℕ) → find q (scope_of xs) ≡ Some w → w.register < r) → (find n (scope_of xs) ≡ Some x → find m (scope_of xs) ≡ Some z → m ≡ n) → m ≡ n
named_once k n m r ty xs x z (local q) f en em same low rest = by (q == n) (q == m) refl refl en em
  where
    by : (b c : Bool) → (q == n) ≡ b → (q == m) ≡ c → (if b then Some (entry q r (gives_of ty)) else find n (scope_of xs)) ≡ Some x → (if c then Some (entry q r (gives_of ty)) else find m (scope_of xs)) ≡ Some z → m ≡ n
    by true true bn bm en em = sym (eqb-true q m bm) ∙ eqb-true q n bn
    by true false bn bm en em =
        let is : entry q r (gives_of ty) ≡ x = cc in
        let at_r : x.register ≡ r = ap (λ w. w.register) (sym is) in
        let lt = low z m em in
        absurd (omega (arith, lt, at_r, same))
    by false true bn bm en em =
        let is : entry q r (gives_of ty) ≡ z = cc in
        let at_r : z.register ≡ r = ap (λ w. w.register) (sym is) in
        let lt = low x n en in
        absurd (omega (arith, lt, at_r, same))
    by false false bn bm en em = rest en em
named_once k n m r ty xs x z waits f en em same low rest = rest en em
named_once k n m r ty xs x z role_at_hand f en em same low rest = rest en em

pub one_name : (k : Site) (h n m : ℕ) (xs : Slots) (x z : Entry) → Falls k h xs → find n (scope_of xs) ≡ Some x → find m (scope_of xs) ≡ Some z → z.register ≡ x.register → m ≡ n
one_name k h n m [] x z f en em same = absurd (cc)
one_name k h n m (w ∷ xs) x z f en em same =
    named_once k n m w.register w.ty xs x z w.role f.1 en em same (λ v q e. find_below k w.register xs q v f.1 e) (λ en em. one_name k w.register n m xs x z f.1 en em same)

pub local_unnamed : (k : Site) (h n : ℕ) (ty : Ty) (xs : Slots) (nm : Named n ty xs) → Falls k h xs → Unnamed nm.slot.register true n (scope_of xs)
local_unnamed k h n ty xs nm f = record { each = λ m z e same. (refl, one_name k h n m xs (entry n nm.slot.register (gives_of nm.slot.ty)) z f nm.found e same) }

-- ---- where a step starts

-- with the first free register: as it stood, or with a reference at hand
pub data From (h : ℕ) (s : Stand) : ℕ → Stand → Type 0 where
  stays : From h s h s
  lies : (u : Ty) → y.is_owned u ≡ false → From h s (h + 1) (holding h u s)

pub borrow_free : (v : View) → y.is_owned (borrow_gives v) ≡ false
borrow_free blind = refl
borrow_free (direct x) = refl
borrow_free (shared x) = refl
borrow_free (frozen x) = refl

pub owner_owned : (x : Ty) → is_owner x ≡ true → y.is_owned x ≡ true
owner_owned (y.kind n) e = refl
owner_owned (y.array x) e = refl
owner_owned y.void e = absurd (cc)
owner_owned y.int e = absurd (cc)
owner_owned y.bool e = absurd (cc)
owner_owned y.str e = absurd (cc)
owner_owned (y.ref x) e = absurd (cc)
owner_owned (y.imm x) e = absurd (cc)
owner_owned (y.iso x) e = absurd (cc)

none_and : (b : Bool) → (b && false) ≡ false
none_and true = refl
none_and false = refl

-- an owner that is seen directly
direct_owner : (x : Ty) (v : View) → starts_from x v → is_direct v ≡ true → (v ≡ direct x) × (is_owner x ≡ true)
direct_owner x blind f e = absurd f
direct_owner x (direct w) f e = (ap direct (sym f.0), ap is_owner f.0 ∙ f.1)
direct_owner x (shared w) f e = absurd (cc)
direct_owner x (frozen w) f e = absurd (cc)

-- a reference is what it is seen through
reference_type : (x : Ty) (v : View) → starts_from x v → y.is_owned x ≡ false → x ≡ borrow_gives v
reference_type x blind f e = absurd f
reference_type x (direct w) f e = absurd (let z : true ≡ false = sym (owner_owned x (ap is_owner f.0 ∙ f.1)) ∙ e in cc)
reference_type x (shared w) f e = ⊎_elim (λ o. absurd (let z : true ≡ false = sym (owner_owned x (ap is_owner o.0 ∙ o.1)) ∙ e in cc)) (λ same. same) f
reference_type x (frozen w) f e = f

module _ (k : Site) {env : Env} {h : ℕ} {s : Stand} (st : Stands k env h s) {n : ℕ} {x : Ty} (nm : Named n x s.slots) where
  lends_owner : {p : ℕ} (v : View) (w : Ty) → is_frozen v ≡ false → x ≡ w → is_owner w ≡ true → Clean (lend_local (find n (scope_at s)) s.gone v h) → Runs k p (lend_local (find n (scope_at s)) s.gone v h) (s ∷ []) s (falls (holding h (y.ref w) s))
  lends_owner {p} v w unfrozen same own clean =
      subst (λ z. Runs k p (lend_local (find n (scope_at s)) s.gone v h) (s ∷ []) s (falls (holding h (y.ref z) s))) same (lend_runs k st nm v clean (ap is_owner same ∙ own) unfrozen)

  copies : {p : ℕ} (v : View) (w : Ty) → x ≡ w → y.is_owned w ≡ false → Runs k p (lend_local (find n (scope_at s)) s.gone v h) (s ∷ []) s (falls (holding h w s))
  copies {p} v w same plain = subst (λ z. Runs k p (lend_local (find n (scope_at s)) s.gone v h) (s ∷ []) s (falls (holding h z s))) same (load_runs k st nm v (ap y.is_owned same ∙ plain))

  -- what the local holds is lent to h
  pub lends_start : {p : ℕ} (v : View) → starts_from x v → Clean (lend_local (find n (scope_at s)) s.gone v h) → Runs k p (lend_local (find n (scope_at s)) s.gone v h) (s ∷ []) s (falls (holding h (borrow_gives v) s))
  lends_start blind f clean = absurd f
  lends_start (direct w) f clean = lends_owner (direct w) w refl f.0 f.1 clean
  lends_start (shared w) f clean = ⊎_elim (λ o. lends_owner (shared w) w refl o.0 o.1 clean) (λ same. copies (shared w) (y.ref w) same refl) f
  lends_start (frozen w) f clean = copies (frozen w) (y.imm w) f refl

  -- a place that is lent
  pub lends_place : {p : ℕ} (v : View) → lent_from x v → Clean (lend_local (find n (scope_at s)) s.gone v h) → Runs k p (lend_local (find n (scope_at s)) s.gone v h) (s ∷ []) s (falls (holding h (y.ref x) s))
  lends_place blind f clean = absurd f
  lends_place (direct w) f clean = lend_runs k st nm (direct w) clean (ap is_owner f.0 ∙ f.1) refl
  lends_place (shared w) f clean = lend_runs k st nm (shared w) clean (ap is_owner f.0 ∙ f.1) refl
  lends_place (frozen w) f clean = absurd f

module _ (k : Site) (env : Env) (h : ℕ) (s : Stand) (view : View) (rest : Origin → ℕ → ℕ → Gone → List Instr) (marks : ℕ → Stand → Marks) (after : ℕ → Gone → After) (end : Gone → Stand) where
  -- how the walk goes through what is done from where the step starts
  abbrev pub Continues : Type 0
  Continues =
      (o : Origin) (q j : ℕ) (g : Gone) (t : Stand) → From h (with_gone g s) j t → ((r : ℕ) → r < h → Unnamed r false 0 (scope_at s) → is_gone r g ≡ is_gone r s.gone) → ((c : Gone) → gone_of (after j g) ≡ c → Leads k (with_gone c t) o view)
      → Clean (rest o q j g) → Runs k q (rest o q j g) (marks j t) t (ending (after j g) end)

  -- it moves no local that it doesn't change
  abbrev pub Keeps : (ℕ → Bool) → Type 0
  Keeps changes = (r n j : ℕ) → r < h → Unnamed r true n (scope_at s) → changes n ≡ false → h ≤ j → is_gone r (gone_of (after j s.gone)) ≡ is_gone r s.gone

  module _ (st : Stands k env h s) (n : ℕ) (x : Ty) (changes : ℕ → Bool) (nm : Named n x s.slots) (starts : starts_from x view) (keeps : Keeps changes) (go : Continues) where
    abbrev r : ℕ
    r = nm.slot.register

    abbrev here : Entry
    here = entry n r (gives_of nm.slot.ty)

    owned_is : owner_gives (gives_of nm.slot.ty) ≡ y.is_owned x
    owned_is = owner_is nm.slot.ty ∙ ap y.is_owned nm.typed

    lt : r < h
    lt = below k st nm

    -- from an owner in its register
    owner_leads : changes n ≡ false → is_gone r s.gone ≡ false → is_direct view ≡ true → (c : Gone) → gone_of (after h s.gone) ≡ c → Leads k (with_gone c s) (at_hand r) view
    owner_leads still there is_direct c e =
        let d = direct_owner x view starts is_direct in
        let gone : is_gone r c ≡ false = ap (is_gone r) (sym e) ∙ keeps r n h lt (local_unnamed k h n x s.slots nm st.falls) still (omega arith) ∙ there in
        (x, d.0, d.1, holds k (stands_gone k c st) nm (ap (λ b. is_listed nm.slot.role && y.is_owned nm.slot.ty && b) gone ∙ none_and (is_listed nm.slot.role && y.is_owned nm.slot.ty)))

    -- from a reference in its register
    reference_leads : y.is_owned x ≡ false → (c : Gone) → Leads k (with_gone c s) (reference r) view
    reference_leads plain c =
        holds k (stands_gone k c st) nm (ap (λ b. is_listed nm.slot.role && b && is_gone r c) (ap y.is_owned nm.typed ∙ plain) ∙ ap (λ b. b && is_gone r c) (none_and (is_listed nm.slot.role)))
        ∙ ap (λ z. held k z s.depth) (reference_type x view starts plain)

    at_its_register : {p : ℕ} (owned : Bool) → y.is_owned x ≡ owned → changes n ≡ false → (not owned || is_direct view) ≡ true → Clean (only_if (not (owned && is_gone r s.gone)) h (rest (if owned then at_hand r else reference r) p h s.gone))
        → Runs k p (only_if (not (owned && is_gone r s.gone)) h (rest (if owned then at_hand r else reference r) p h s.gone)) (marks h s) s (ending (after h s.gone) end)
    at_its_register {p} true o still seen clean =
        chosen k (not (true && is_gone r s.gone)) h clean (λ t c. go (at_hand r) p h s.gone s stays (λ q lt u. refl) (owner_leads still (there (is_gone r s.gone) t) seen) c)
      where
        there : (b : Bool) → not b ≡ true → b ≡ false
        there false e = refl
        there true e = absurd (cc)
    at_its_register {p} false o still seen clean = go (reference r) p h s.gone s stays (λ q lt u. refl) (λ c e. reference_leads o c) clean

    from_register : {p : ℕ} → changes n ≡ false → (not here.owned || is_direct view) ≡ true → Clean (from_local (Some here) true view p h s.gone rest) → Runs k p (from_local (Some here) true view p h s.gone rest) (marks h s) s (ending (after h s.gone) end)
    from_register {p} still seen clean =
        subst (λ o. (not o || is_direct view) ≡ true → Clean (only_if (not (o && is_gone r s.gone)) h (rest (if o then at_hand r else reference r) p h s.gone)) → Runs k p (only_if (not (o && is_gone r s.gone)) h (rest (if o then at_hand r else reference r) p h s.gone)) (marks h s) s (ending (after h s.gone) end))
        (sym owned_is) (λ seen clean. at_its_register (y.is_owned x) refl still seen clean) seen clean

    from_reference : {p : ℕ} → Clean (from_local (Some here) false view p h s.gone rest) → Runs k p (from_local (Some here) false view p h s.gone rest) (s ∷ marks (h + 1) (holding h (borrow_gives view) s)) s (ending (after (h + 1) s.gone) end)
    from_reference {p} clean =
        let code = lend_local (Some here) s.gone view h in
        let parts = clean_both code (rest (reference h) (p + length code) (h + 1) s.gone) clean in
        both k
        (subst (λ f. Clean (lend_local f s.gone view h) → Runs k p (lend_local f s.gone view h) (s ∷ []) s (falls (holding h (borrow_gives view) s))) nm.found (λ c. lends_start k st nm view starts c) parts.0)
        (go (reference h) (p + length code) (h + 1) s.gone (holding h (borrow_gives view) s) (lies (borrow_gives view) (borrow_free view)) (λ q lt u. refl) (λ c e. holding_here k h (borrow_gives view) (with_gone c s)) parts.1)

    -- by whether it stays there
    abbrev Local : ℕ → Option Entry → Bool → Type 0
    Local p f b =
        Clean (from_local f b view p h s.gone rest) → Runs k p (from_local f b view p h s.gone rest) (if b then marks h s else s ∷ marks (h + 1) (holding h (borrow_gives view) s)) s (ending (after (free_register b h) s.gone) end)

    by_stay : {p : ℕ} (b : Bool) → stays_of (Some here) view (changes n) ≡ b → Local p (Some here) b
    by_stay true e clean = let z = and_parts (not (changes n)) (not here.owned || is_direct view) e in from_register (unchanged (changes n) z.0) z.1 clean
      where
        unchanged : (b : Bool) → not b ≡ true → b ≡ false
        unchanged false e = refl
        unchanged true e = absurd (cc)
    by_stay false e clean = from_reference clean

    pub local_starts : {p : ℕ} → Local p (find n (scope_at s)) (stays_of (find n (scope_at s)) view (changes n))
    local_starts {p} = subst (λ f. Local p f (stays_of f view (changes n))) (sym nm.found) (λ clean. by_stay (stays_of (Some here) view (changes n)) refl clean)
