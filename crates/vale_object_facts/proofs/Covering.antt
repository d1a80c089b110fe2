-- What is known of registers against what the stand of a place says.
use Rattle.std.proofs.Common.{◌≡◌, ◌≢◌, ℕ, zero, suc, ◌+◌, ◌<◌, ◌≤◌, List, [], ◌∷◌, length, Some, Bool, true, false, ◌&&◌, ◌==◌, if◌then◌else◌, refl, sym, ap, ◌∙◌, subst, arith, ⊎_elim}
use Rattle.std.proofs.lemmas.Bool.{and_parts, and_from, cases_eq, eq-eqb, ne_eqb}
use Rattle.vale_rules_spec.specs.Types.{Ty, is_owned, is_void}
use Rattle.vale_model.specs.Parts.{Parts}
use Rattle.vale_code.specs.Parts.{Parts as Code}
use Rattle.vale_code.specs.declared.func.Func.{Func}
use Rattle.vale_cert.specs.Known.{Known, fact_of, is_free, agrees, agree, may_enter}
use Rattle.vale_cert.specs.declared.facts.Label.{Label}
use Rattle.vale_cert.specs.declared.facts.RegFact.{RegFact}
use Rattle.vale_cert.specs.declared.facts.RegFact.TheVariants.{Empty, Held}
use Rattle.vale_lowering_objects.specs.Program.{code_type}
use Rattle.vale_lowering_objects.specs.Scopes.{Gone, gives_of, is_gone, without, same_gone, same_truth}
use Rattle.vale_object_facts.specs.Slots.{Role, at_hand, is_listed, list_slot, Slot, Slots, scope_of, Stand, with_gone, holding, given, with_role, is_lost, slot_fact, fact_in, fact_at, facts_from, label_for}
use Rattle.vale_object_facts.proofs.Agreeing.{agrees_same, agrees_through, Facts, Hold, hold_less}

-- ---- what is gone

other_gone : (h r q : ℕ) (g : Gone) → r ≢ h → is_gone r (without h g) ≡ is_gone r g → is_gone r (without h (q ∷ g)) ≡ is_gone r (q ∷ g)
other_gone h r q g ne rest =
    ⊎_elim
    (λ e.
    ap (λ b. is_gone r (if b then without h g else q ∷ without h g)) (eq-eqb q h e) ∙ rest
    ∙ sym (ap (λ b. if b then true else is_gone r g) (ne_eqb q r (λ z. ne (sym z ∙ e)))))
    (λ n. ap (λ b. is_gone r (if b then without h g else q ∷ without h g)) (ne_eqb q h n) ∙ ap (λ b. if q == r then true else b) rest)
    (cases_eq q h)

pub gone_without : (h r : ℕ) (g : Gone) → r ≢ h → is_gone r (without h g) ≡ is_gone r g
gone_without h r [] ne = refl
gone_without h r (q ∷ g) ne = other_gone h r q g ne (gone_without h r g ne)

none_gone : (h q : ℕ) (g : Gone) → is_gone h (without h g) ≡ false → is_gone h (without h (q ∷ g)) ≡ false
none_gone h q g rest =
    ⊎_elim
    (λ e. ap (λ b. is_gone h (if b then without h g else q ∷ without h g)) (eq-eqb q h e) ∙ rest)
    (λ n. ap (λ b. is_gone h (if b then without h g else q ∷ without h g)) (ne_eqb q h n) ∙ ap (λ b. if b then true else is_gone h (without h g)) (ne_eqb q h n) ∙ rest)
    (cases_eq q h)

pub not_gone : (h : ℕ) (g : Gone) → is_gone h (without h g) ≡ false
not_gone h [] = refl
not_gone h (q ∷ g) = none_gone h q g (not_gone h g)

-- a function of a code with its labels, the number of its first instruction, and what it gives
pub record Site : Type 0 where
  pub parts : Parts
  pub code : Code
  pub func : Func
  pub labels : List Label
  pub base : ℕ
  pub result : Ty

module _ (k : Site) where
  abbrev pub at : Stand → Facts
  at s = fact_at k.parts s

  abbrev pub held : Ty → ℕ → RegFact
  held x d = Held (code_type k.parts x) d false

  -- what is known of the registers is at least what the stand says
  pub record Covers (known : Known) (s : Stand) : Type 0 where
    pub depth : known.depth ≡ s.depth
    pub regs : Hold k.func.registers known.regs (at s)

  -- one stand says at least what another does, and of no owner more
  pub record Says (s u : Stand) : Type 0 where
    pub depth : s.depth ≡ u.depth
    pub each : (r : ℕ) → agrees (at u r) (at s r) ≡ true

  pub says_same : (s : Stand) → Says s s
  says_same s = record { depth = refl; each = λ r. agrees_same (at s r) }

  pub says_then : {s u v : Stand} → Says s u → Says u v → Says s v
  says_then {s} {u} {v} a b = record { depth = a.depth ∙ b.depth; each = λ r. agrees_through (at v r) (at u r) (at s r) (b.each r) (a.each r) }

  pub covers_less : {known : Known} {s u : Stand} → Covers known s → Says s u → Covers known u
  covers_less {u = u} c a = record { depth = c.depth ∙ a.depth; regs = hold_less k.func.registers (at u) c.regs a.each }

  -- ---- labels

  -- what a label states
  abbrev pub known_of : Stand → Known
  known_of s = record { depth = s.depth; regs = facts_from k.parts s 0 k.func.registers }

  pub length_facts : (s : Stand) (r count : ℕ) → length (facts_from k.parts s r count) ≡ count
  length_facts s r zero = refl
  length_facts s r (suc count) = ap suc (length_facts s (r + 1) count)

  fact_from : (s : Stand) (r count q : ℕ) → q < count → fact_of (facts_from k.parts s r count) q ≡ at s (r + q)
  fact_from s r zero q lt = absurd (omega (arith, lt))
  fact_from s r (suc count) zero lt = ap (at s) (let z : r ≡ r + 0 = omega arith in z)
  fact_from s r (suc count) (suc q) lt = fact_from s (r + 1) count q (omega (arith, lt)) ∙ ap (at s) (let z : r + 1 + q ≡ r + suc q = omega arith in z)

  pub covers_stated : (s : Stand) → Covers (known_of s) s
  covers_stated s = record {
    depth = refl;
    regs = record {
      size = length_facts s 0 k.func.registers;
      each = λ r lt. subst (λ z. agrees (at s r) z ≡ true) (sym (fact_from s 0 k.func.registers r lt ∙ ap (at s) (let z : 0 + r ≡ r = omega arith in z))) (agrees_same (at s r));
    };
  }

  agree_from : (s : Stand) (r count : ℕ) (regs : List RegFact) → length regs ≡ count → ((q : ℕ) → q < count → agrees (at s (r + q)) (fact_of regs q) ≡ true) → agree (facts_from k.parts s r count) regs ≡ true
  agree_from s r zero [] len h = refl
  agree_from s r zero (x ∷ regs) len h = absurd (omega (arith, len))
  agree_from s r (suc count) [] len h = absurd (omega (arith, len))
  agree_from s r (suc count) (x ∷ regs) len h =
      and_from _ _ (subst (λ q. agrees (at s q) x ≡ true) (let z : r + 0 ≡ r = omega arith in z) (h 0 (omega arith)))
      (agree_from s (r + 1) count regs (omega (arith, len)) (λ q lt. subst (λ z. agrees (at s z) (fact_of regs q) ≡ true) (let z : r + suc q ≡ r + 1 + q = omega arith in z) (h (suc q) (omega (arith, lt)))))

  -- what covers a stand may enter its label
  pub enters_label : {known : Known} {s : Stand} (place : ℕ) → Covers known s → may_enter (Some (label_for k.parts k.func.registers place s)) known ≡ true
  enters_label {known} {s} place c =
      and_from (s.depth == known.depth) _ (eq-eqb s.depth known.depth (sym c.depth))
      (agree_from s 0 k.func.registers known.regs c.regs.size (λ q lt. subst (λ z. agrees (at s z) (fact_of known.regs q) ≡ true) (let z : q ≡ 0 + q = omega arith in z) (c.regs.each q lt)))

  -- ---- where values stand

  -- the registers of the slots rise from the outermost on, and are all below h
  abbrev pub Falls : ℕ → Slots → Type 0
  Falls h [] = Unit {0}
  Falls h (x ∷ xs) = (x.register < h) × Falls x.register xs

  pub falls_up : (h j : ℕ) (xs : Slots) → h ≤ j → Falls h xs → Falls j xs
  falls_up h j [] le f = tt
  falls_up h j (x ∷ xs) le f = let lt = f.0 in (omega (arith, lt, le), f.1)

  pub nothing_above : (h : ℕ) (xs : Slots) (g : Gone) (r : ℕ) → Falls h xs → h ≤ r → fact_in k.parts xs g r ≡ Empty
  nothing_above h [] g r f le = refl
  nothing_above h (x ∷ xs) g r f le =
      let lt = f.0 in
      ap (λ b. if b then slot_fact k.parts x g else fact_in k.parts xs g r) (ne_eqb x.register r (omega (arith, lt, le)))
      ∙ nothing_above x.register xs g r f.1 (omega (arith, lt, le))

  -- ---- what is gone

  -- slots say the same where the same of their registers are gone
  abbrev pub Alike : Slots → Gone → Gone → Type 0
  Alike [] g c = Unit {0}
  Alike (x ∷ xs) g c = (is_lost x g ≡ is_lost x c) × Alike xs g c

  pub alike_facts : (xs : Slots) (g c : Gone) (r : ℕ) → Alike xs g c → fact_in k.parts xs g r ≡ fact_in k.parts xs c r
  alike_facts [] g c r a = refl
  alike_facts (x ∷ xs) g c r a =
      ap (λ b. if x.register == r then (if b then Empty else Held (code_type k.parts x.ty) x.depth false) else fact_in k.parts xs g r) a.0
      ∙ ap (λ f. if x.register == r then slot_fact k.parts x c else f) (alike_facts xs g c r a.1)

  pub alike_without : (h : ℕ) (xs : Slots) (g : Gone) → Falls h xs → Alike xs (without h g) g
  alike_without h [] g f = tt
  alike_without h (x ∷ xs) g f =
      let lt = f.0 in
      (ap (λ b. is_listed x.role && is_owned x.ty && b) (gone_without h x.register g (omega (arith, lt))), alike_without h xs g (falls_up x.register h xs (omega (arith, lt)) f.1))

  pub alike_more : (h : ℕ) (xs : Slots) (g : Gone) → Falls h xs → Alike xs (h ∷ g) g
  alike_more h [] g f = tt
  alike_more h (x ∷ xs) g f =
      let lt = f.0 in
      (ap (λ b. is_listed x.role && is_owned x.ty && (if b then true else is_gone x.register g)) (ne_eqb h x.register (omega (arith, lt))), alike_more h xs g (falls_up x.register h xs (omega (arith, lt)) f.1))

  truth_is : (b c : Bool) → same_truth b c ≡ true → b ≡ c
  truth_is true true e = refl
  truth_is false false e = refl
  truth_is true false e = absurd (cc)
  truth_is false true e = absurd (cc)

  one_alike : (role : Role) (x : Slot) (xs : Slots) (g c : Gone) → x.role ≡ role → same_gone (list_slot role x.register (gives_of x.ty) (scope_of xs)) g c ≡ true → (same_gone (scope_of xs) g c ≡ true → Alike xs g c) → Alike (x ∷ xs) g c
  one_alike (Role.local n) x xs g c is e rest = let z = and_parts (same_truth (is_gone x.register g) (is_gone x.register c)) (same_gone (scope_of xs) g c) e in (ap (λ b. is_listed x.role && is_owned x.ty && b) (truth_is _ _ z.0), rest z.1)
  one_alike Role.waits x xs g c is e rest = let z = and_parts (same_truth (is_gone x.register g) (is_gone x.register c)) (same_gone (scope_of xs) g c) e in (ap (λ b. is_listed x.role && is_owned x.ty && b) (truth_is _ _ z.0), rest z.1)
  one_alike at_hand x xs g c is e rest = (ap (λ o. is_listed o && is_owned x.ty && is_gone x.register g) is ∙ sym (ap (λ o. is_listed o && is_owned x.ty && is_gone x.register c) is), rest e)

  pub alike_gone : (xs : Slots) (g c : Gone) → same_gone (scope_of xs) g c ≡ true → Alike xs g c
  alike_gone [] g c e = tt
  alike_gone (x ∷ xs) g c e = one_alike x.role x xs g c refl e (alike_gone xs g c)

  -- ---- one stand and another

  pub holding_here : (h : ℕ) (x : Ty) (s : Stand) → at (holding h x s) h ≡ held x s.depth
  holding_here h x s = ap (λ b. if b then held x s.depth else at s h) (eq-eqb h h refl)

  pub holding_there : (h : ℕ) (x : Ty) (s : Stand) (r : ℕ) → h ≢ r → at (holding h x s) r ≡ at s r
  holding_there h x s r ne = ap (λ b. if b then held x s.depth else at s r) (ne_eqb h r ne)

  says_by : {s u : Stand} → s.depth ≡ u.depth → ((r : ℕ) → at u r ≡ at s r) → Says s u
  says_by {s} {u} d e = record { depth = d; each = λ r. subst (λ z. agrees (at u r) z ≡ true) (e r) (agrees_same (at u r)) }

  -- the same are gone
  pub says_gone : (s : Stand) (g c : Gone) → same_gone (scope_of s.slots) c g ≡ true → Says (with_gone g s) (with_gone c s)
  says_gone s g c e = says_by refl (λ r. alike_facts s.slots c g r (alike_gone s.slots c g e))

  -- the same value, over stands of which one says more
  pub says_holding : {s u : Stand} (h : ℕ) (x : Ty) → Says s u → Says (holding h x s) (holding h x u)
  says_holding {s} {u} h x a = record { depth = a.depth; each = each }
    where
      each : (r : ℕ) → agrees (at (holding h x u) r) (at (holding h x s) r) ≡ true
      each r =
          ⊎_elim
          (λ e. subst (λ b. agrees (if b then held x u.depth else at u r) (if b then held x s.depth else at s r) ≡ true) (sym (eq-eqb h r e))
          (subst (λ d. agrees (held x u.depth) (held x d) ≡ true) (sym a.depth) (agrees_same (held x u.depth))))
          (λ ne. subst (λ b. agrees (if b then held x u.depth else at u r) (if b then held x s.depth else at s r) ≡ true) (sym (ne_eqb h r ne)) (a.each r))
          (cases_eq h r)

  pub says_given : {s u : Stand} (h : ℕ) (x : Ty) → Says s u → Says (given h x s) (given h x u)
  says_given {s} {u} h x a = by (is_void x)
    where
      by : (b : Bool) → Says (if b then s else holding h x s) (if b then u else holding h x u)
      by true = a
      by false = says_holding h x a

  -- the value in h is listed
  pub says_role : {s : Stand} (role : Role) (h : ℕ) (x : Ty) → Falls h s.slots → Says (holding h x s) (with_role role h x s)
  says_role {s} role h x f = says_by refl same
    where
      lost : is_lost (record { role = role; register = h; ty = x; depth = s.depth }) (without h s.gone) ≡ false
      lost = ap (λ b. is_listed role && is_owned x && b) (not_gone h s.gone) ∙ by (is_listed role && is_owned x)
        where
          by : (b : Bool) → (b && false) ≡ false
          by true = refl
          by false = refl

      same : (r : ℕ) → at (with_role role h x s) r ≡ at (holding h x s) r
      same r =
          ap (λ b. if h == r then (if b then Empty else held x s.depth) else fact_in k.parts s.slots (without h s.gone) r) lost
          ∙ ap (λ z. if h == r then held x s.depth else z) (alike_facts s.slots (without h s.gone) s.gone r (alike_without h s.slots s.gone f))

  -- a value that is no owner and no isolate is forgotten, where nothing else is said of its register
  pub says_less : {s : Stand} (h : ℕ) (x : Ty) → at s h ≡ Empty → is_free (held x s.depth) ≡ true → Says (holding h x s) s
  says_less {s} h x none free = record { depth = refl; each = each }
    where
      each : (r : ℕ) → agrees (at s r) (at (holding h x s) r) ≡ true
      each r =
          ⊎_elim
          (λ e. subst (λ b. agrees (at s r) (if b then held x s.depth else at s r) ≡ true) (sym (eq-eqb h r e))
          (subst (λ z. agrees z (held x s.depth) ≡ true) (sym (ap (at s) (sym e) ∙ none)) free))
          (λ ne. subst (λ b. agrees (at s r) (if b then held x s.depth else at s r) ≡ true) (sym (ne_eqb h r ne)) (agrees_same (at s r)))
          (cases_eq h r)
