-- What is known of registers against what the slots of a place say.
use Rattle.std.proofs.Common.{◌≡◌, ◌≢◌, ℕ, zero, suc, ◌+◌, ◌<◌, ◌≤◌, List, [], ◌∷◌, length, Option, Some, None, Bool, true, false, ◌&&◌, ◌||◌, ◌==◌, if◌then◌else◌, refl, sym, ap, ◌∙◌, subst, ⊎_elim, arith}
use Rattle.std.specs.Prelude.{slice_set}
use Rattle.std.proofs.lemmas.Bool.{and_from, cases_eq, eq-eqb, eqb-true, ne_eqb}
use Rattle.std.proofs.lemmas.List.{length-set}
use Rattle.vale_rules_spec.specs.Types.{Ty}
use Rattle.vale_code.specs.Kinds.{same_type}
use Rattle.vale_code.specs.Parts.{Parts as Code}
use Rattle.vale_code.specs.declared.func.Func.{Func}
use Rattle.vale_code.specs.declared.ty.Ty.{Ty as CodeTy}
use Rattle.vale_code.specs.declared.ty.Ty.TheVariants as t
use Rattle.vale_cert.specs.Types.{is_copy}
use Rattle.vale_cert.specs.Known.{Known, fact_of, is_free, agrees, agree, may_enter}
use Rattle.vale_cert.specs.declared.facts.Label.{Label}
use Rattle.vale_cert.specs.declared.facts.RegFact.{RegFact}
use Rattle.vale_cert.specs.declared.facts.RegFact.TheVariants.{Empty, Held}
use Rattle.vale_lowering.specs.Scopes.{code_type}
use Rattle.vale_lower_facts.specs.Slots.{Slot, holds, slot_register, slot_type, Stand, with_slot, given, behind, slot_at, Last, or_last, type_at, fact_for, facts_from, label_for}

-- ---- facts

pub fact_same : (regs : List RegFact) (r : ℕ) (x : RegFact) → r < length regs → fact_of (slice_set regs r x) r ≡ x
fact_same [] r x lt = absurd (omega (arith, lt))
fact_same (y ∷ regs) zero x lt = refl
fact_same (y ∷ regs) (suc r) x lt = fact_same regs r x (omega (arith, lt))

pub fact_other : (regs : List RegFact) (q r : ℕ) (x : RegFact) → r ≢ q → fact_of (slice_set regs q x) r ≡ fact_of regs r
fact_other [] q r x ne = refl
fact_other (y ∷ regs) zero zero x ne = absurd (ne refl)
fact_other (y ∷ regs) zero (suc r) x ne = refl
fact_other (y ∷ regs) (suc q) zero x ne = refl
fact_other (y ∷ regs) (suc q) (suc r) x ne = fact_other regs q r x (λ e. ne (ap suc e))

-- nothing, or a number, a truth or a text
abbrev pub is_plain : RegFact → Bool
is_plain Empty = true
is_plain (Held ty depth live) = is_copy ty

pub plain_free : (x : RegFact) → is_plain x ≡ true → is_free x ≡ true
plain_free Empty e = refl
plain_free (Held t.Int d l) e = refl
plain_free (Held t.Truth d l) e = refl
plain_free (Held t.Text d l) e = refl
plain_free (Held t.Void d l) e = refl
plain_free (Held (t.Own k) d l) e = absurd (cc)
plain_free (Held (t.Ref k) d l) e = absurd (cc)
plain_free (Held (t.Frozen k) d l) e = absurd (cc)
plain_free (Held (t.Iso k) d l) e = absurd (cc)

pub plain_set : (regs : List RegFact) (q : ℕ) (x : RegFact) → is_plain x ≡ true → ((r : ℕ) → is_plain (fact_of regs r) ≡ true) → (r : ℕ) → is_plain (fact_of (slice_set regs q x) r) ≡ true
plain_set [] q x p h r = h r
plain_set (y ∷ regs) zero x p h zero = p
plain_set (y ∷ regs) zero x p h (suc r) = h (suc r)
plain_set (y ∷ regs) (suc q) x p h zero = h zero
plain_set (y ∷ regs) (suc q) x p h (suc r) = plain_set regs q x p (λ r. h (suc r)) r

-- ---- where code stands

-- a function of a code with its labels, the number of its first instruction, and what its end returns
pub record Site : Type 0 where
  pub code : Code
  pub func : Func
  pub labels : List Label
  pub base : ℕ
  -- the type of the function's result, in the program
  pub result : Ty
  pub last : Last
  pub last_plain : (ty : CodeTy) → last.ty ≡ Some ty → is_copy ty ≡ true

module _ (k : Site) where
  -- what is known of the registers is at least what the slots say
  pub record Covers (known : Known) (s : Stand) : Type 0 where
    pub depth : known.depth ≡ 0
    pub size : length known.regs ≡ k.func.registers
    pub plain : (r : ℕ) → is_plain (fact_of known.regs r) ≡ true
    pub held : (r : ℕ) (ty : CodeTy) → r < k.func.registers → type_at k.last s r ≡ Some ty → fact_of known.regs r ≡ Held ty 0 false

  -- one place says at least what another does
  pub record Says (s u : Stand) : Type 0 where
    pub each : (r : ℕ) (ty : CodeTy) → type_at k.last u r ≡ Some ty → type_at k.last s r ≡ Some ty

  pub says_same : (s : Stand) → Says s s
  says_same s = record { each = λ r ty e. e }

  pub says_then : {s u v : Stand} → Says s u → Says u v → Says s v
  says_then a b = record { each = λ r ty e. a.each r ty (b.each r ty e) }

  pub covers_less : {known : Known} {s u : Stand} → Covers known s → Says s u → Covers known u
  covers_less c a = record { depth = c.depth; size = c.size; plain = c.plain; held = λ r ty lt e. c.held r ty lt (a.each r ty e) }

  -- no slot stands at the register h or above
  pub record Below (h : ℕ) (s : Stand) : Type 0 where
    pub last : k.last.register < h
    pub free : (r : ℕ) → h ≤ r → slot_at s.slots r ≡ None
    pub off_last : slot_at s.slots k.last.register ≡ None

  pub below_up : {h j : ℕ} {s : Stand} → h ≤ j → Below h s → Below j s
  below_up le b = record { last = omega (arith, le, b.last); free = λ r ge. b.free r (omega (arith, le, ge)); off_last = b.off_last }

  pub below_behind : {h : ℕ} {s : Stand} (returns : Bool) → Below h s → Below h (behind returns s)
  below_behind returns b = record { last = b.last; free = b.free; off_last = b.off_last }

  last_no : (over : Bool) (r : ℕ) → k.last.register ≢ r → or_last k.last over r None ≡ None
  last_no true r ne = ap (λ b. if b then k.last.ty else None) (ne_eqb k.last.register r ne)
  last_no false r ne = refl

  -- above the slots nothing is said
  pub nothing_at : {h : ℕ} {s : Stand} → Below h s → (r : ℕ) → h ≤ r → type_at k.last s r ≡ None
  nothing_at {s = s} b r le =
      ap (or_last k.last s.over r) (b.free r le) ∙ last_no s.over r (let lt = b.last in omega (arith, lt, le))

  slot_here : (x : Slot) (s : Stand) (r : ℕ) → slot_register x ≡ r → slot_at (x ∷ s.slots) r ≡ Some (code_type (slot_type x))
  slot_here x s r e = ap (λ b. if b then Some (code_type (slot_type x)) else slot_at s.slots r) (eq-eqb (slot_register x) r e)

  slot_there : (x : Slot) (s : Stand) (r : ℕ) → slot_register x ≢ r → slot_at (x ∷ s.slots) r ≡ slot_at s.slots r
  slot_there x s r ne = ap (λ b. if b then Some (code_type (slot_type x)) else slot_at s.slots r) (ne_eqb (slot_register x) r ne)

  pub type_here : (x : Slot) (s : Stand) (r : ℕ) → slot_register x ≡ r → type_at k.last (with_slot x s) r ≡ Some (code_type (slot_type x))
  type_here x s r e = ap (or_last k.last s.over r) (slot_here x s r e)

  pub type_there : (x : Slot) (s : Stand) (r : ℕ) → slot_register x ≢ r → type_at k.last (with_slot x s) r ≡ type_at k.last s r
  type_there x s r ne = ap (or_last k.last s.over r) (slot_there x s r ne)

  pub below_slot : {s : Stand} (x : Slot) → Below (slot_register x) s → Below (slot_register x + 1) (with_slot x s)
  below_slot {s} x b = record { last = let lt = b.last in omega (arith, lt); free = λ r le. slot_there x s r (omega (arith, le)) ∙ b.free r (omega (arith, le)); off_last = slot_there x s k.last.register (let lt = b.last in omega (arith, lt)) ∙ b.off_last }

  -- a slot more says more
  pub says_slot : {s : Stand} (x : Slot) → Below (slot_register x) s → Says (with_slot x s) s
  says_slot {s} x b = record { each = λ r ty e. ⊎_elim (λ same. absurd (none r ty same e)) (λ ne. type_there x s r ne ∙ e) (cases_eq (slot_register x) r) }
    where
      none : (r : ℕ) (ty : CodeTy) → slot_register x ≡ r → type_at k.last s r ≡ Some ty → ⊥
      none r ty same e = let n : type_at k.last s r ≡ None = nothing_at b r (omega (arith, same)) in cc

  -- a slot that says what is said already
  pub says_again : (x : Slot) (s : Stand) → type_at k.last s (slot_register x) ≡ Some (code_type (slot_type x)) → Says (with_slot x s) s
  says_again x s has = record { each = λ r ty e. ⊎_elim (λ same. here r ty same e) (λ ne. type_there x s r ne ∙ e) (cases_eq (slot_register x) r) }
    where
      here : (r : ℕ) (ty : CodeTy) → slot_register x ≡ r → type_at k.last s r ≡ Some ty → type_at k.last (with_slot x s) r ≡ Some ty
      here r ty same e = type_here x s r same ∙ sym has ∙ ap (type_at k.last s) same ∙ e

  -- the same slot over more
  pub says_with : {s u : Stand} (x z : Slot) → slot_register x ≡ slot_register z → slot_type x ≡ slot_type z → Says s u → Says (with_slot x s) (with_slot z u)
  says_with {s} {u} x z same like a = record { each = each }
    where
      each : (r : ℕ) (ty : CodeTy) → type_at k.last (with_slot z u) r ≡ Some ty → type_at k.last (with_slot x s) r ≡ Some ty
      each r ty e =
          ⊎_elim
          (λ here. type_here x s r (same ∙ here) ∙ ap (λ q. Some (code_type q)) like ∙ sym (type_here z u r here) ∙ e)
          (λ ne. type_there x s r (λ q. ne (sym same ∙ q)) ∙ a.each r ty (sym (type_there z u r ne) ∙ e))
          (cases_eq (slot_register z) r)

  or_more : (a b : Bool) (r : ℕ) (o : Option CodeTy) (ty : CodeTy) → or_last k.last a r o ≡ Some ty → or_last k.last (b || a) r o ≡ Some ty
  or_more a b r (Some u) ty e = e
  or_more true true r None ty e = e
  or_more true false r None ty e = e
  or_more false b r None ty e = absurd (cc)

  or_less : (a b c : Bool) (r : ℕ) (o : Option CodeTy) (ty : CodeTy) → (b ≡ true → c ≡ true) → or_last k.last (b || a) r o ≡ Some ty → or_last k.last (c || a) r o ≡ Some ty
  or_less a b c r (Some u) ty f e = e
  or_less a true c r None ty f e = subst (λ x. or_last k.last (x || a) r None ≡ Some ty) (sym (f refl)) e
  or_less a false true r None ty f e = or_more a true r None ty e
  or_less a false false r None ty f e = e

  -- after a part that has returned, more is said
  pub says_behind : (s : Stand) (returns : Bool) → Says (behind returns s) s
  says_behind s returns = record { each = λ r ty e. or_more s.over returns r (slot_at s.slots r) ty e }

  pub says_returns : (s : Stand) (a b : Bool) → (b ≡ true → a ≡ true) → Says (behind a s) (behind b s)
  says_returns s a b f = record { each = λ r ty e. or_less s.over b a r (slot_at s.slots r) ty f e }

  -- after two parts
  pub says_both : (s : Stand) (a b : Bool) → Says (behind b (behind a s)) (behind (a || b) s)
  says_both s a b = record { each = λ r ty e. subst (λ x. or_last k.last x r (slot_at s.slots r) ≡ Some ty) (sym (swap a b s.over)) e }
    where
      swap : (x y z : Bool) → (y || (x || z)) ≡ ((x || y) || z)
      swap true true z = refl
      swap true false z = refl
      swap false true z = refl
      swap false false z = refl

  pub says_given : (b : Bool) (h : ℕ) (ty : Ty) {s u : Stand} → Says s u → Says (given b h ty s) (given b h ty u)
  says_given true h ty a = says_with (holds h ty) (holds h ty) refl refl a
  says_given false h ty a = a

  pub says_ungiven : (b : Bool) (h : ℕ) (ty : Ty) {s : Stand} → Below h s → Says (given b h ty s) s
  says_ungiven true h ty b = says_slot (holds h ty) b
  says_ungiven false h ty {s} b = says_same s

  -- ---- a place in a block, and the place where the block stands

  pub record Within (s o : Stand) : Type 0 where
    pub over : s.over ≡ o.over
    pub slots : (r : ℕ) (ty : CodeTy) → slot_at o.slots r ≡ Some ty → slot_at s.slots r ≡ Some ty
    pub off_last : slot_at s.slots k.last.register ≡ None

  pub within_same : {h : ℕ} {s : Stand} → Below h s → Within s s
  within_same b = record { over = refl; slots = λ r ty e. e; off_last = b.off_last }

  pub within_behind : {s o : Stand} (returns : Bool) → Within s o → Within (behind returns s) (behind returns o)
  within_behind returns w = record { over = ap (λ x. returns || x) w.over; slots = w.slots; off_last = w.off_last }

  pub within_slot : {s o : Stand} (x : Slot) → Below (slot_register x) s → Within s o → Within (with_slot x s) o
  within_slot {s} {o} x b w = record {
    over = w.over;
    slots = λ r ty e. ⊎_elim (λ same. absurd (none r ty same (w.slots r ty e))) (λ ne. slot_there x s r ne ∙ w.slots r ty e) (cases_eq (slot_register x) r);
    off_last = slot_there x s k.last.register (let lt = b.last in omega (arith, lt)) ∙ w.off_last;
  }
    where
      none : (r : ℕ) (ty : CodeTy) → slot_register x ≡ r → slot_at s.slots r ≡ Some ty → ⊥
      none r ty same e = let n : slot_at s.slots r ≡ None = b.free r (omega (arith, same)) in cc

  pub says_within : {s o : Stand} → Within s o → Says s o
  says_within {s} {o} w = record { each = λ r ty e. by r ty (slot_at o.slots r) refl e }
    where
      at_last : (r : ℕ) (ty : CodeTy) (a b : Bool) → o.over ≡ a → (k.last.register == r) ≡ b → (if a && b then k.last.ty else None) ≡ Some ty → type_at k.last s r ≡ Some ty
      at_last r ty true true ea eb e =
          let here : k.last.register ≡ r = eqb-true k.last.register r eb in
          ap (or_last k.last s.over r) (ap (slot_at s.slots) (sym here) ∙ w.off_last)
          ∙ ap (λ x. if x && (k.last.register == r) then k.last.ty else None) (w.over ∙ ea)
          ∙ ap (λ x. if true && x then k.last.ty else None) eb ∙ e
      at_last r ty true false ea eb e = absurd (cc)
      at_last r ty false b ea eb e = absurd (cc)

      by : (r : ℕ) (ty : CodeTy) (x : Option CodeTy) → slot_at o.slots r ≡ x → or_last k.last o.over r x ≡ Some ty → type_at k.last s r ≡ Some ty
      by r ty (Some u) q e = let same : slot_at o.slots r ≡ Some ty = q ∙ e in ap (or_last k.last s.over r) (w.slots r ty same)
      by r ty None q e = at_last r ty o.over (k.last.register == r) refl refl e

  -- ---- a register is written

  pub covers_put : {known : Known} {s : Stand} (x : Slot) (depth : ℕ) → depth ≡ 0 → is_copy (code_type (slot_type x)) ≡ true → Covers known s
      → Covers (record { depth = depth; regs = slice_set known.regs (slot_register x) (Held (code_type (slot_type x)) 0 false) }) (with_slot x s)
  covers_put {known} {s} x depth zero_depth copy c = record {
    depth = zero_depth;
    size = length-set known.regs (slot_register x) (Held (code_type (slot_type x)) 0 false) ∙ c.size;
    plain = plain_set known.regs (slot_register x) (Held (code_type (slot_type x)) 0 false) copy c.plain;
    held = held;
  }
    where
      new : RegFact
      new = Held (code_type (slot_type x)) 0 false

      here : (r : ℕ) (ty : CodeTy) → r < k.func.registers → slot_register x ≡ r → type_at k.last (with_slot x s) r ≡ Some ty → fact_of (slice_set known.regs (slot_register x) new) r ≡ Held ty 0 false
      here r ty lt same e =
          let is : code_type (slot_type x) ≡ ty = (let a = type_here x s r same in cc) in
          let size = c.size in
          subst (λ q. fact_of (slice_set known.regs (slot_register x) new) q ≡ Held ty 0 false) same
          (fact_same known.regs (slot_register x) new (omega (arith, lt, same, size)) ∙ ap (λ q. Held q 0 false) is)

      held : (r : ℕ) (ty : CodeTy) → r < k.func.registers → type_at k.last (with_slot x s) r ≡ Some ty → fact_of (slice_set known.regs (slot_register x) new) r ≡ Held ty 0 false
      held r ty lt e =
          ⊎_elim
          (λ same. here r ty lt same e)
          (λ ne. fact_other known.regs (slot_register x) r new (λ q. ne (sym q)) ∙ c.held r ty lt (sym (type_there x s r ne) ∙ e))
          (cases_eq (slot_register x) r)

  -- the same, where the value is written at the depth that is known
  pub covers_write : {known : Known} {s : Stand} (x : Slot) → is_copy (code_type (slot_type x)) ≡ true → Covers known s
      → Covers (record { depth = known.depth; regs = slice_set known.regs (slot_register x) (Held (code_type (slot_type x)) known.depth false) }) (with_slot x s)
  covers_write {known} {s} x copy c =
      subst (λ d. Covers (record { depth = d; regs = slice_set known.regs (slot_register x) (Held (code_type (slot_type x)) d false) }) (with_slot x s)) (sym c.depth)
      (covers_put x 0 refl copy c)

  -- the same registers
  pub covers_kept : {known : Known} {s : Stand} → Covers known s → Covers (record { depth = known.depth; regs = known.regs }) s
  covers_kept c = record { depth = c.depth; size = c.size; plain = c.plain; held = c.held }

  -- a register gets a value of the type that it holds
  pub covers_again : {known : Known} {s : Stand} (q : ℕ) (ty : CodeTy) → is_copy ty ≡ true → type_at k.last s q ≡ Some ty → Covers known s
      → Covers (record { depth = known.depth; regs = slice_set known.regs q (Held ty 0 false) }) s
  covers_again {known} {s} q ty copy has c = record {
    depth = c.depth;
    size = length-set known.regs q (Held ty 0 false) ∙ c.size;
    plain = plain_set known.regs q (Held ty 0 false) copy c.plain;
    held = held;
  }
    where
      held : (r : ℕ) (u : CodeTy) → r < k.func.registers → type_at k.last s r ≡ Some u → fact_of (slice_set known.regs q (Held ty 0 false)) r ≡ Held u 0 false
      held r u lt e =
          ⊎_elim
          (λ same. let is : ty ≡ u = cc in let size = c.size in
          subst (λ x. fact_of (slice_set known.regs q (Held ty 0 false)) x ≡ Held u 0 false) same
          (fact_same known.regs q (Held ty 0 false) (omega (arith, lt, same, size)) ∙ ap (λ x. Held x 0 false) is))
          (λ ne. fact_other known.regs q r (Held ty 0 false) (λ x. ne (sym x)) ∙ c.held r u lt e)
          (cases_eq q r)

  -- ---- labels

  -- the types that a place says anything with are those of values
  pub record Plain (s : Stand) : Type 0 where
    pub each : (r : ℕ) (ty : CodeTy) → r < k.func.registers → type_at k.last s r ≡ Some ty → is_copy ty ≡ true

  pub covers_plain : {known : Known} {s : Stand} → Covers known s → Plain s
  covers_plain {known} {s} c = record { each = λ r ty lt e. subst (λ x. is_plain x ≡ true) (c.held r ty lt e) (c.plain r) }

  last_copy : (b : Bool) (ty : CodeTy) → (if b then k.last.ty else None) ≡ Some ty → is_copy ty ≡ true
  last_copy true ty e = k.last_plain ty e
  last_copy false ty e = absurd (cc)

  or_copy : (a b : Bool) (r : ℕ) (o : Option CodeTy) (ty : CodeTy) → (or_last k.last a r o ≡ Some ty → is_copy ty ≡ true) → or_last k.last b r o ≡ Some ty → is_copy ty ≡ true
  or_copy a b r (Some u) ty h e = h e
  or_copy a b r None ty h e = last_copy (b && (k.last.register == r)) ty e

  pub plain_less : {s u : Stand} → Says s u → Plain s → Plain u
  plain_less a p = record { each = λ r ty lt e. p.each r ty lt (a.each r ty e) }

  pub plain_slot : {s : Stand} (x : Slot) → is_copy (code_type (slot_type x)) ≡ true → Plain s → Plain (with_slot x s)
  plain_slot {s} x copy p = record { each = λ r ty lt e. ⊎_elim (λ same. here r ty same e) (λ ne. p.each r ty lt (sym (type_there x s r ne) ∙ e)) (cases_eq (slot_register x) r) }
    where
      here : (r : ℕ) (ty : CodeTy) → slot_register x ≡ r → type_at k.last (with_slot x s) r ≡ Some ty → is_copy ty ≡ true
      here r ty same e = let is : code_type (slot_type x) ≡ ty = (let a = type_here x s r same in cc) in subst (λ q. is_copy q ≡ true) is copy

  pub plain_given : {s : Stand} (b : Bool) (h : ℕ) (x : Ty) → (b ≡ true → is_copy (code_type x) ≡ true) → Plain s → Plain (given b h x s)
  plain_given true h x copy p = plain_slot (holds h x) (copy refl) p
  plain_given false h x copy p = p

  pub plain_behind : {s : Stand} (returns : Bool) → Plain s → Plain (behind returns s)
  plain_behind {s} returns p = record { each = λ r ty lt e. or_copy s.over (returns || s.over) r (slot_at s.slots r) ty (p.each r ty lt) e }

  type_same : (ty : CodeTy) → is_copy ty ≡ true → same_type ty ty ≡ true
  type_same t.Int e = refl
  type_same t.Truth e = refl
  type_same t.Text e = refl
  type_same t.Void e = absurd (cc)
  type_same (t.Own m) e = absurd (cc)
  type_same (t.Ref m) e = absurd (cc)
  type_same (t.Frozen m) e = absurd (cc)
  type_same (t.Iso m) e = absurd (cc)

  agrees_for : (o : Option CodeTy) (x : RegFact) → is_plain x ≡ true → ((ty : CodeTy) → o ≡ Some ty → x ≡ Held ty 0 false) → agrees (fact_for o) x ≡ true
  agrees_for None x p h = plain_free x p
  agrees_for (Some ty) x p h = subst (λ q. agrees (Held ty 0 false) q ≡ true) (sym (h ty refl)) (by ty (subst (λ q. is_plain q ≡ true) (h ty refl) p))
    where
      by : (ty : CodeTy) → is_copy ty ≡ true → agrees (Held ty 0 false) (Held ty 0 false) ≡ true
      by ty e = ap (λ b. b && true && true) (type_same ty e)

  agree_from : (s : Stand) (r count : ℕ) (regs : List RegFact) → length regs ≡ count
      → ((q : ℕ) → is_plain (fact_of regs q) ≡ true)
      → ((q : ℕ) (ty : CodeTy) → q < count → type_at k.last s (r + q) ≡ Some ty → fact_of regs q ≡ Held ty 0 false)
      → agree (facts_from k.last s r count) regs ≡ true
  agree_from s r zero [] len p h = refl
  agree_from s r zero (x ∷ regs) len p h = absurd (omega (arith, len))
  agree_from s r (suc count) [] len p h = absurd (omega (arith, len))
  agree_from s r (suc count) (x ∷ regs) len p h =
      and_from (agrees (fact_for (type_at k.last s r)) x) (agree (facts_from k.last s (r + 1) count) regs)
      (agrees_for (type_at k.last s r) x (p 0) (λ ty e. h 0 ty (omega arith) (subst (λ q. type_at k.last s q ≡ Some ty) (let z : r ≡ r + 0 = omega arith in z) e)))
      (agree_from s (r + 1) count regs (omega (arith, len)) (λ q. p (suc q)) (λ q ty lt e. h (suc q) ty (omega (arith, lt)) (subst (λ x. type_at k.last s x ≡ Some ty) (let z : r + 1 + q ≡ r + suc q = omega arith in z) e)))

  -- what covers a place may enter its label
  pub enters_label : {known : Known} {s : Stand} (place : ℕ) → Covers known s → may_enter (Some (label_for k.last k.func.registers place s)) known ≡ true
  enters_label {known} {s} place c =
      and_from (0 == known.depth) (agree (facts_from k.last s 0 k.func.registers) known.regs) (eq-eqb 0 known.depth (sym c.depth))
      (agree_from s 0 k.func.registers known.regs c.size c.plain (λ q ty lt e. c.held q ty lt (subst (λ x. type_at k.last s x ≡ Some ty) (let z : 0 + q ≡ q = omega arith in z) e)))

  pub length_facts : (s : Stand) (r count : ℕ) → length (facts_from k.last s r count) ≡ count
  length_facts s r zero = refl
  length_facts s r (suc count) = ap suc (length_facts s (r + 1) count)

  fact_from : (s : Stand) (r count q : ℕ) → q < count → fact_of (facts_from k.last s r count) q ≡ fact_for (type_at k.last s (r + q))
  fact_from s r zero q lt = absurd (omega (arith, lt))
  fact_from s r (suc count) zero lt = ap (λ x. fact_for (type_at k.last s x)) (let z : r ≡ r + 0 = omega arith in z)
  fact_from s r (suc count) (suc q) lt = fact_from s (r + 1) count q (omega (arith, lt)) ∙ ap (λ x. fact_for (type_at k.last s x)) (let z : r + 1 + q ≡ r + suc q = omega arith in z)

  plain_from : (s : Stand) → Plain s → (r count q : ℕ) → r + count ≡ k.func.registers → is_plain (fact_of (facts_from k.last s r count) q) ≡ true
  plain_from s p r zero q all = refl
  plain_from s p r (suc count) zero all = by (type_at k.last s r) refl
    where
      by : (o : Option CodeTy) → type_at k.last s r ≡ o → is_plain (fact_for o) ≡ true
      by None e = refl
      by (Some ty) e = p.each r ty (omega (arith, all)) e
  plain_from s p r (suc count) (suc q) all = plain_from s p (r + 1) count q (omega (arith, all))

  -- what a label states
  abbrev pub known_of : Stand → Known
  known_of s = record { depth = 0; regs = facts_from k.last s 0 k.func.registers }

  pub covers_stated : (s : Stand) → Plain s → Covers (known_of s) s
  covers_stated s p = record {
    depth = refl;
    size = length_facts s 0 k.func.registers;
    plain = λ q. plain_from s p 0 k.func.registers q (omega arith);
    held = λ r ty lt e. fact_from s 0 k.func.registers r lt ∙ ap fact_for (subst (λ x. type_at k.last s x ≡ Some ty) (let z : r ≡ 0 + r = omega arith in z) e);
  }
