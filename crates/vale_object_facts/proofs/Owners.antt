-- The instructions on owners: they are moved, dropped, lent, made of values, and taken apart.
use Rattle.std.proofs.Common.{◌≡◌, ◌≢◌, ℕ, ◌≤◌, [], ◌∷◌, Bool, true, false, not, ◌||◌, refl, sym, ap, ◌∙◌, subst, arith, ⊎_elim}
use Rattle.std.specs.Prelude.{slice_set}
use Rattle.std.proofs.lemmas.Bool.{and_from, cases_eq}
use Rattle.vale_base.specs.declared.name.Kind.{Kind}
use Rattle.vale_base.specs.declared.spot.Spot.{Spot}
use Rattle.vale_rules_spec.specs.Types.{Ty}
use Rattle.vale_rules_spec.specs.Types as y
use Rattle.vale_model.specs.Parts.{Parts, kind_of}
use Rattle.vale_code.specs.Operands.{room_for}
use Rattle.vale_code.specs.declared.instr.Instr.TheVariants as i
use Rattle.vale_code.specs.declared.ty.Ty.{Ty as CodeTy}
use Rattle.vale_code.specs.declared.ty.Ty.TheVariants as t
use Rattle.vale_cert.specs.Types.{is_owned}
use Rattle.vale_cert.specs.Known.{Known, fact_of, is_there, is_free, agrees}
use Rattle.vale_cert.specs.Objects.{owner_kind}
use Rattle.vale_cert.specs.Rules.{is_moved, is_usable, moved_to, lent_to, is_known}
use Rattle.vale_cert.specs.declared.facts.RegFact.{RegFact}
use Rattle.vale_cert.specs.declared.facts.RegFact.TheVariants.{Empty, Held}
use Rattle.vale_lowering_objects.specs.Program.{code_type}
use Rattle.vale_object_facts.specs.Slots.{Stand, holding}
use Rattle.vale_object_facts.proofs.Agreeing.{agrees_same, Facts, put, put_here, put_there, hold_put, hold_at, hold_free}
use Rattle.vale_object_facts.proofs.Covering.{Site, at, held, Covers, holding_here, holding_there}
use Rattle.vale_object_facts.proofs.Runs.{Does, Runs, single, falls}
use Rattle.vale_object_facts.proofs.Ways.{in_order}
use Rattle.vale_object_facts.proofs.Rows.{usable, room, does_by, Beside, over}

-- the code's type of an owner or an isolate is one, and no other is
pub owned_too : (p : Parts) (x : Ty) → is_owned (code_type p x) ≡ y.is_owned x
owned_too p y.void = refl
owned_too p y.int = refl
owned_too p y.bool = refl
owned_too p y.str = refl
owned_too p (y.kind n) = refl
owned_too p (y.array x) = refl
owned_too p (y.ref x) = refl
owned_too p (y.imm x) = refl
owned_too p (y.iso x) = refl

pub free_type : (p : Parts) (x : Ty) (d : ℕ) → y.is_owned x ≡ false → is_free (Held (code_type p x) d false) ≡ true
free_type p x d e = ap not (owned_too p x ∙ e)

pub owner_type : (p : Parts) (x : Ty) → y.is_owner x ≡ true → code_type p x ≡ t.Own (kind_of p x)
owner_type p (y.kind n) e = refl
owner_type p (y.array x) e = refl
owner_type p y.void e = absurd (cc)
owner_type p y.int e = absurd (cc)
owner_type p y.bool e = absurd (cc)
owner_type p y.str e = absurd (cc)
owner_type p (y.ref x) e = absurd (cc)
owner_type p (y.imm x) e = absurd (cc)
owner_type p (y.iso x) e = absurd (cc)

module _ (k : Site) where
  -- what a register that was written says, and what the others say
  pub says_put : (F : Facts) (u : Stand) (r : ℕ) (x : RegFact) → agrees (at k u r) x ≡ true → ((q : ℕ) → r ≢ q → agrees (at k u q) (F q) ≡ true) → (q : ℕ) → agrees (at k u q) (put r x F q) ≡ true
  says_put F u r x a rest q =
      ⊎_elim
      (λ e. subst (λ z. agrees (at k u q) z ≡ true) (sym (put_here r x F q e)) (subst (λ z. agrees (at k u z) x ≡ true) e a))
      (λ ne. subst (λ z. agrees (at k u q) z ≡ true) (sym (put_there r x F q ne)) (rest q ne))
      (cases_eq r q)

  -- ---- an owner is moved

  -- out of the register a, into a register that is free
  pub moves_run : {p : ℕ} {s u : Stand} (to a : ℕ) (z : Ty) → at k s a ≡ held k z s.depth → y.is_owned z ≡ true → is_free (at k s to) ≡ true → a ≢ to → s.depth ≡ u.depth
      → ((q : ℕ) → agrees (at k u q) (put to (held k z u.depth) (put a Empty (at k s)) q) ≡ true)
      → Runs k p (i.Move to a ∷ []) (s ∷ []) s (falls u)
  moves_run {s = s} {u} to a z ha owned free ne d says = single k (i.Move to a) refl refl (in_order k (i.Move to a) refl) does
    where
      ty : CodeTy
      ty = code_type k.parts z

      by : room_for (i.Move to a) ≤ room k → (known : Known) → Covers k known s → (live : Bool) × (fact_of known.regs a ≡ Held ty s.depth live) → Does k (i.Move to a) known u
      by r known c is =
          let emptied = hold_put (room k) a Empty Empty refl c.regs in
          does_by k (i.Move to a) (slice_set (slice_set known.regs a Empty) to (Held ty known.depth false)) (put to (held k z u.depth) (put a Empty (at k s)))
          (record {
            types = ap is_moved is.1 ∙ owned_too k.parts z ∙ owned;
            present = and_from _ _ (ap is_there is.1) (hold_free (room k) to emptied (omega (arith, r)) (ap is_free (put_there a Empty (at k s) to ne) ∙ free));
            depths = ap (is_usable known.depth) is.1 ∙ usable ty known.depth s.depth is.0 c.depth;
          })
          (ap (λ f. slice_set (slice_set known.regs a Empty) to (moved_to known.depth f)) is.1)
          (hold_put (room k) to (Held ty known.depth false) (held k z u.depth) (subst (λ e. agrees (held k z u.depth) (Held ty e false) ≡ true) (sym (c.depth ∙ d)) (agrees_same (held k z u.depth))) emptied)
          (c.depth ∙ d) says

      does : room_for (i.Move to a) ≤ room k → (known : Known) → Covers k known s → Does k (i.Move to a) known u
      does r known c = by r known c (hold_at (room k) a ty s.depth c.regs (omega (arith, r)) ha)

  -- into h, which is the value at hand then
  pub moves_out : {p : ℕ} {s u : Stand} (h a : ℕ) (z : Ty) → at k s a ≡ held k z s.depth → y.is_owned z ≡ true → is_free (at k s h) ≡ true → a ≢ h → s.depth ≡ u.depth → at k u a ≡ Empty → ((q : ℕ) → h ≢ q → a ≢ q → agrees (at k u q) (at k s q) ≡ true)
      → Runs k p (i.Move h a ∷ []) (s ∷ []) s (falls (holding h z u))
  moves_out {s = s} {u} h a z ha owned free ne d gone rest =
      moves_run h a z ha owned free ne d
      (says_put (put a Empty (at k s)) (holding h z u) h (held k z u.depth) (subst (λ x. agrees x (held k z u.depth) ≡ true) (sym (holding_here k h z u)) (agrees_same (held k z u.depth)))
      (λ q nh. subst (λ x. agrees x (put a Empty (at k s) q) ≡ true) (sym (holding_there k h z u q nh))
      (says_but q nh)))
    where
      says_but : (q : ℕ) → h ≢ q → agrees (at k u q) (put a Empty (at k s) q) ≡ true
      says_but q nh =
          ⊎_elim
          (λ e. subst (λ x. agrees (at k u q) x ≡ true) (sym (put_here a Empty (at k s) q e)) (subst (λ x. agrees x Empty ≡ true) (sym (ap (at k u) (sym e) ∙ gone)) refl))
          (λ na. subst (λ x. agrees (at k u q) x ≡ true) (sym (put_there a Empty (at k s) q na)) (rest q nh na))
          (cases_eq a q)

  -- ---- an owner is dropped

  pub drops_run : {p : ℕ} {s u : Stand} (a : ℕ) (z : Ty) (spot : Spot) → at k s a ≡ held k z s.depth → y.is_owned z ≡ true → s.depth ≡ u.depth → at k u a ≡ Empty → ((q : ℕ) → a ≢ q → agrees (at k u q) (at k s q) ≡ true)
      → Runs k p (i.Destroy a spot ∷ []) (s ∷ []) s (falls u)
  drops_run {s = s} {u} a z spot ha owned d gone rest = single k (i.Destroy a spot) refl refl (in_order k (i.Destroy a spot) refl) does
    where
      ty : CodeTy
      ty = code_type k.parts z

      by : (known : Known) → Covers k known s → (live : Bool) × (fact_of known.regs a ≡ Held ty s.depth live) → Does k (i.Destroy a spot) known u
      by known c is =
          does_by k (i.Destroy a spot) (slice_set known.regs a Empty) (put a Empty (at k s))
          (record {
            types = ap is_moved is.1 ∙ owned_too k.parts z ∙ owned;
            present = ap is_there is.1;
            depths = ap (is_usable known.depth) is.1 ∙ usable ty known.depth s.depth is.0 c.depth;
          })
          refl (hold_put (room k) a Empty Empty refl c.regs) (c.depth ∙ d)
          (says_put (at k s) u a Empty (subst (λ x. agrees x Empty ≡ true) (sym gone) refl) rest)

      does : room_for (i.Destroy a spot) ≤ room k → (known : Known) → Covers k known s → Does k (i.Destroy a spot) known u
      does r known c = by known c (hold_at (room k) a ty s.depth c.regs (omega (arith, r)) ha)

  -- ---- a reference to what an owner leads to

  pub lends_run : {p : ℕ} {s u : Stand} (h a : ℕ) (z : Ty) → at k s a ≡ held k z s.depth → y.is_owner z ≡ true → is_free (at k s h) ≡ true → s.depth ≡ u.depth → Beside k h s u
      → Runs k p (i.Borrow h a ∷ []) (s ∷ []) s (falls (holding h (y.ref z) u))
  lends_run {s = s} {u} h a z ha owner free d b = single k (i.Borrow h a) refl refl (in_order k (i.Borrow h a) refl) does
    where
      kd : Kind
      kd = kind_of k.parts z

      lent : RegFact
      lent = held k (y.ref z) u.depth

      by : room_for (i.Borrow h a) ≤ room k → (known : Known) → Covers k known s → (live : Bool) × (fact_of known.regs a ≡ Held (t.Own kd) s.depth live) → Does k (i.Borrow h a) known (holding h (y.ref z) u)
      by r known c is =
          does_by k (i.Borrow h a) (slice_set known.regs h (Held (t.Ref kd) known.depth false)) (put h lent (at k s))
          (record {
            types = ap (λ f. not (is_there f) || is_known (owner_kind f)) is.1;
            present = and_from _ _ (ap is_there is.1) (hold_free (room k) h c.regs (omega (arith, r)) free);
            depths = ap (is_usable known.depth) is.1 ∙ usable (t.Own kd) known.depth s.depth is.0 c.depth;
          })
          (ap (λ f. slice_set known.regs h (lent_to known.depth f)) is.1)
          (hold_put (room k) h (Held (t.Ref kd) known.depth false) lent (subst (λ e. agrees lent (Held (t.Ref kd) e false) ≡ true) (sym (c.depth ∙ d)) (agrees_same lent)) c.regs)
          (c.depth ∙ d) (over k h (y.ref z) s u b)

      does : room_for (i.Borrow h a) ≤ room k → (known : Known) → Covers k known s → Does k (i.Borrow h a) known (holding h (y.ref z) u)
      does r known c = by r known c (hold_at (room k) a (t.Own kd) s.depth c.regs (omega (arith, r)) (ha ∙ ap (λ q. Held q s.depth false) (owner_type k.parts z owner)))
