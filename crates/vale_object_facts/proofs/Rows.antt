-- What an instruction does to what is known of the registers; and the instructions on numbers, truths and texts.
use Rattle.std.proofs.Common.{◌≡◌, ◌≢◌, ℕ, ◌<◌, ◌≤◌, ℤ, List, [], ◌∷◌, length, None, Bool, true, false, not, ◌&&◌, ◌||◌, ◌==◌, refl, sym, ap, ◌∙◌, subst, arith, ⊎_elim}
use Rattle.std.specs.Prelude.{slice_get, slice_set, nat_lt}
use Rattle.std.proofs.lemmas.Bool.{and_from, lt-ltb, cases_eq, eq-eqb}
use Rattle.vale_rules_spec.specs.Types.{Ty}
use Rattle.vale_rules_spec.specs.Types as y
use Rattle.vale_code.specs.Operands.{room_for}
use Rattle.vale_code.specs.declared.instr.Instr.{Instr}
use Rattle.vale_code.specs.declared.instr.Instr.TheVariants as i
use Rattle.vale_code.specs.declared.ty.Ty.{Ty as CodeTy}
use Rattle.vale_cert.specs.Types.{is_copy, is_owned}
use Rattle.vale_cert.specs.Known.{Known, fact_of, is_there, is_free, has, agrees}
use Rattle.vale_cert.specs.Numbers.{in_tables}
use Rattle.vale_cert.specs.Rules.{fine, reads, uses, overwrites, gets, copy_of, is_copied, is_bound, is_usable, is_ordered, is_comparable, are_alike, is_printable, is_short, if_types}
use Rattle.vale_cert.specs.Walk.{goes_on, target_of}
use Rattle.vale_cert.specs.declared.facts.RegFact.{RegFact}
use Rattle.vale_cert.specs.declared.facts.RegFact.TheVariants.{Empty, Held}
use Rattle.vale_cert.specs.declared.rules.Kept.{Kept}
use Rattle.vale_lowering_objects.specs.Program.{code_type}
use Rattle.vale_object_facts.specs.Slots.{Stand, holding}
use Rattle.vale_object_facts.proofs.Agreeing.{type_same, held_agrees, agrees_same, Facts, put, put_here, put_there, Hold, hold_less, hold_put, hold_at, hold_free}
use Rattle.vale_object_facts.proofs.Covering.{Site, at, held, Covers, Says, holding_here, holding_there}
use Rattle.vale_object_facts.proofs.Runs.{row_at, Does, Runs, single, falls}
use Rattle.vale_object_facts.proofs.Ways.{in_order}

-- ---- rules that are kept

pub record Fine (kept : Kept) : Type 0 where
  pub types : kept.types ≡ true
  pub present : kept.present ≡ true
  pub depths : kept.depths ≡ true

pub all_kept : Fine fine
all_kept = record { types = refl; present = refl; depths = refl }

usable_here : (ty : CodeTy) (d : ℕ) (live : Bool) → is_usable d (Held ty d live) ≡ true
usable_here ty d live = by (not (is_bound ty))
  where
    by : (b : Bool) → (b || (d == d)) ≡ true
    by true = refl
    by false = eq-eqb d d refl

-- a copied value is usable at every depth
pub usable : (ty : CodeTy) (depth d : ℕ) (live : Bool) → depth ≡ d → is_usable depth (Held ty d live) ≡ true
usable ty depth d live e = subst (λ z. is_usable z (Held ty d live) ≡ true) (sym e) (usable_here ty d live)

module _ (n : ℕ) where
  pub reads_fine : {regs : List RegFact} {F : Facts} {kept : Kept} (a : ℕ) (ty : CodeTy) (d : ℕ) → Fine kept → Hold n regs F → a < n → F a ≡ Held ty d false → Fine (reads regs a ty kept)
  reads_fine {regs} {kept = kept} a ty d f h lt e = by (hold_at n a ty d h lt e)
    where
      by : (live : Bool) × (fact_of regs a ≡ Held ty d live) → Fine (reads regs a ty kept)
      by is = record {
        types = and_from _ _ f.types (ap (has ty) is.1 ∙ type_same ty);
        present = and_from _ _ f.present (ap is_there is.1);
        depths = f.depths;
      }

  pub uses_fine : {regs : List RegFact} {F : Facts} {kept : Kept} (depth a : ℕ) (ty : CodeTy) (d : ℕ) → Fine kept → Hold n regs F → a < n → F a ≡ Held ty d false → depth ≡ d → Fine (uses depth regs a ty kept)
  uses_fine {regs} {kept = kept} depth a ty d f h lt e same = by (hold_at n a ty d h lt e)
    where
      by : (live : Bool) × (fact_of regs a ≡ Held ty d live) → Fine (uses depth regs a ty kept)
      by is = record {
        types = and_from _ _ f.types (ap (has ty) is.1 ∙ type_same ty);
        present = and_from _ _ f.present (ap is_there is.1);
        depths = and_from _ _ f.depths (ap (is_usable depth) is.1 ∙ usable ty depth d is.0 same);
      }

  pub overwrites_fine : {regs : List RegFact} {F : Facts} {kept : Kept} (to : ℕ) → Fine kept → Hold n regs F → to < n → is_free (F to) ≡ true → Fine (overwrites regs to kept)
  overwrites_fine to f h lt free = record { types = f.types; present = and_from _ _ f.present (hold_free n to h lt free); depths = f.depths }

module _ (k : Site) where
  abbrev pub room : ℕ
  room = k.func.registers

  pub does_by : {known : Known} {u : Stand} (instr : Instr) (regs : List RegFact) (F : Facts) → Fine (row_at k instr known).kept → (row_at k instr known).after ≡ regs → Hold room regs F → known.depth ≡ u.depth → ((r : ℕ) → agrees (at k u r) (F r) ≡ true) → Does k instr known u
  does_by {known} {u} instr regs F f e h d a = record {
    types = f.types;
    present = f.present;
    depths = f.depths;
    covers = record { depth = d; regs = hold_less room (at k u) (subst (λ z. Hold room z F) (sym e) h) a };
  }

  -- one stand says what another does but for this register
  abbrev pub Beside : ℕ → Stand → Stand → Type 0
  Beside h s u = (r : ℕ) → h ≢ r → agrees (at k u r) (at k s r) ≡ true

  pub over : (h : ℕ) (z : Ty) (s u : Stand) → Beside h s u → (r : ℕ) → agrees (at k (holding h z u) r) (put h (held k z u.depth) (at k s) r) ≡ true
  over h z s u a r =
      ⊎_elim
      (λ e. subst (λ x. agrees x (put h (held k z u.depth) (at k s) r) ≡ true) (sym (ap (at k (holding h z u)) (sym e) ∙ holding_here k h z u))
      (subst (λ x. agrees (held k z u.depth) x ≡ true) (sym (put_here h (held k z u.depth) (at k s) r e)) (agrees_same (held k z u.depth))))
      (λ ne. subst (λ x. agrees x (put h (held k z u.depth) (at k s) r) ≡ true) (sym (holding_there k h z u r ne))
      (subst (λ x. agrees (at k u r) x ≡ true) (sym (put_there h (held k z u.depth) (at k s) r ne)) (a r ne)))
      (cases_eq h r)

  pub beside_same : (h : ℕ) (s : Stand) → Beside h s s
  beside_same h s r ne = agrees_same (at k s r)

  pub beside_one : (h : ℕ) (x : Ty) (u : Stand) → Beside h (holding h x u) u
  beside_one h x u r ne = subst (λ z. agrees (at k u r) z ≡ true) (sym (holding_there k h x u r ne)) (agrees_same (at k u r))

  -- a value above the register is forgotten, where it is no owner
  pub beside_above : (h q : ℕ) (x : Ty) (s u : Stand) → is_free (held k x s.depth) ≡ true → at k u q ≡ Empty → Beside h s u → Beside h (holding q x s) u
  beside_above h q x s u free none a r ne =
      ⊎_elim
      (λ e. subst (λ z. agrees (at k u r) z ≡ true) (sym (ap (at k (holding q x s)) (sym e) ∙ holding_here k q x s))
      (subst (λ z. agrees z (held k x s.depth) ≡ true) (sym (ap (at k u) (sym e) ∙ none)) free))
      (λ other. subst (λ z. agrees (at k u r) z ≡ true) (sym (holding_there k q x s r other)) (a r ne))
      (cases_eq q r)

  -- ---- a value comes into h

  pub writes : {p : ℕ} {s u : Stand} (instr : Instr) (h : ℕ) (z : Ty) (kept : Known → Kept) → goes_on instr ≡ true → target_of instr ≡ None → in_tables k.code instr ≡ true
      → (room_for instr ≤ room → h < room)
      → (room_for instr ≤ room → (known : Known) → Covers k known s → row_at k instr known ≡ gets known.depth known.regs h (code_type k.parts z) (kept known))
      → (room_for instr ≤ room → (known : Known) → Covers k known s → Fine (kept known))
      → is_free (at k s h) ≡ true → s.depth ≡ u.depth → Beside h s u
      → Runs k p (instr ∷ []) (s ∷ []) s (falls (holding h z u))
  writes {s = s} {u} instr h z kept on none inside lt is f free d a = single k instr on none (in_order k instr inside) does
    where
      does : room_for instr ≤ room → (known : Known) → Covers k known s → Does k instr known (holding h z u)
      does r known c =
          let same : known.depth ≡ u.depth = c.depth ∙ d in
          let g = overwrites_fine room h (f r known c) c.regs (lt r) free in
          does_by instr (slice_set known.regs h (Held (code_type k.parts z) known.depth false)) (put h (held k z u.depth) (at k s))
          (record { types = ap (λ e. e.kept.types) (is r known c) ∙ g.types; present = ap (λ e. e.kept.present) (is r known c) ∙ g.present; depths = ap (λ e. e.kept.depths) (is r known c) ∙ g.depths })
          (ap (λ e. e.after) (is r known c))
          (hold_put room h (Held (code_type k.parts z) known.depth false) (held k z u.depth) (subst (λ e. agrees (held k z u.depth) (Held (code_type k.parts z) e false) ≡ true) (sym same) (agrees_same (held k z u.depth))) c.regs)
          same (over h z s u a)

  pub int_runs : {p : ℕ} {s : Stand} (h : ℕ) (z : ℤ) → is_free (at k s h) ≡ true → Runs k p (i.Int h z ∷ []) (s ∷ []) s (falls (holding h y.int s))
  int_runs {s = s} h z free = writes (i.Int h z) h y.int (λ known. fine) refl refl refl (λ r. omega (arith, r)) (λ r known c. refl) (λ r known c. all_kept) free refl (beside_same h s)

  pub truth_runs : {p : ℕ} {s : Stand} (h n : ℕ) → nat_lt n 2 ≡ true → is_free (at k s h) ≡ true → Runs k p (i.Truth h n ∷ []) (s ∷ []) s (falls (holding h y.bool s))
  truth_runs {s = s} h n lt free = writes (i.Truth h n) h y.bool (λ known. fine) refl refl lt (λ r. omega (arith, r)) (λ r known c. refl) (λ r known c. all_kept) free refl (beside_same h s)

  pub text_runs : {p : ℕ} {s : Stand} (h n : ℕ) → n < length k.code.texts → is_short (slice_get k.code.texts n) ≡ true → is_free (at k s h) ≡ true → Runs k p (i.Text h n ∷ []) (s ∷ []) s (falls (holding h y.str s))
  text_runs {s = s} h n lt short free =
      writes (i.Text h n) h y.str (λ known. if_types (is_short (slice_get k.code.texts n))) refl refl (lt-ltb n (length k.code.texts) lt) (λ r. omega (arith, r)) (λ r known c. refl)
      (λ r known c. record { types = short; present = refl; depths = refl }) free refl (beside_same h s)

  -- ---- from registers

  pub from_one : {p : ℕ} {s u : Stand} (instr : Instr) (h : ℕ) (z : Ty) (a : ℕ) (ta : CodeTy) (da : ℕ) → goes_on instr ≡ true → target_of instr ≡ None → in_tables k.code instr ≡ true
      → (room_for instr ≤ room → (h < room) × (a < room))
      → ((known : Known) → row_at k instr known ≡ gets known.depth known.regs h (code_type k.parts z) (reads known.regs a ta fine))
      → at k s a ≡ Held ta da false → is_free (at k s h) ≡ true → s.depth ≡ u.depth → Beside h s u
      → Runs k p (instr ∷ []) (s ∷ []) s (falls (holding h z u))
  from_one instr h z a ta da on none inside lt is ha free d b =
      writes instr h z (λ known. reads known.regs a ta fine) on none inside (λ r. (lt r).0) (λ r known c. is known) (λ r known c. reads_fine room a ta da all_kept c.regs (lt r).1 ha) free d b

  pub from_two : {p : ℕ} {s u : Stand} (instr : Instr) (h : ℕ) (z : Ty) (a b : ℕ) (ta tb : CodeTy) (da db : ℕ) → goes_on instr ≡ true → target_of instr ≡ None → in_tables k.code instr ≡ true
      → (room_for instr ≤ room → (h < room) × (a < room) × (b < room))
      → ((known : Known) → row_at k instr known ≡ gets known.depth known.regs h (code_type k.parts z) (reads known.regs b tb (reads known.regs a ta fine)))
      → at k s a ≡ Held ta da false → at k s b ≡ Held tb db false → is_free (at k s h) ≡ true → s.depth ≡ u.depth → Beside h s u
      → Runs k p (instr ∷ []) (s ∷ []) s (falls (holding h z u))
  from_two instr h z a b ta tb da db on none inside lt is ha hb free d be =
      writes instr h z (λ known. reads known.regs b tb (reads known.regs a ta fine)) on none inside (λ r. (lt r).0) (λ r known c. is known)
      (λ r known c. reads_fine room b tb db (reads_fine room a ta da all_kept c.regs (lt r).1 ha) c.regs (lt r).2 hb) free d be

  pub from_three : {p : ℕ} {s u : Stand} (instr : Instr) (h : ℕ) (z : Ty) (a b c : ℕ) (ta tb tc : CodeTy) (da db dc : ℕ) → goes_on instr ≡ true → target_of instr ≡ None → in_tables k.code instr ≡ true
      → (room_for instr ≤ room → (h < room) × (a < room) × (b < room) × (c < room))
      → ((known : Known) → row_at k instr known ≡ gets known.depth known.regs h (code_type k.parts z) (reads known.regs c tc (reads known.regs b tb (reads known.regs a ta fine))))
      → at k s a ≡ Held ta da false → at k s b ≡ Held tb db false → at k s c ≡ Held tc dc false → is_free (at k s h) ≡ true → s.depth ≡ u.depth → Beside h s u
      → Runs k p (instr ∷ []) (s ∷ []) s (falls (holding h z u))
  from_three instr h z a b c ta tb tc da db dc on none inside lt is ha hb hc free d be =
      writes instr h z (λ known. reads known.regs c tc (reads known.regs b tb (reads known.regs a ta fine))) on none inside (λ r. (lt r).0) (λ r known c. is known)
      (λ r known cov. reads_fine room c tc dc (reads_fine room b tb db (reads_fine room a ta da all_kept cov.regs (lt r).1 ha) cov.regs (lt r).2 hb) cov.regs (lt r).3 hc) free d be

  -- two values of one type are compared
  pub cmp_runs : {p : ℕ} {s u : Stand} (h choice a b : ℕ) (ty : CodeTy) (da db : ℕ) → nat_lt choice 6 ≡ true → is_ordered choice ty ≡ true → at k s a ≡ Held ty da false → at k s b ≡ Held ty db false → is_free (at k s h) ≡ true → s.depth ≡ u.depth → Beside h s u
      → Runs k p (i.Cmp h choice a b ∷ []) (s ∷ []) s (falls (holding h y.bool u))
  cmp_runs {s = s} h choice a b ty da db few o ha hb free d be =
      writes (i.Cmp h choice a b) h y.bool
      (λ known. record { types = is_comparable choice (fact_of known.regs a) && is_comparable choice (fact_of known.regs b) && are_alike (fact_of known.regs a) (fact_of known.regs b); present = is_there (fact_of known.regs a) && is_there (fact_of known.regs b); depths = true })
      refl refl few (λ r. omega (arith, r)) (λ r known c. refl)
      (λ r known c. alike (fact_of known.regs a) (fact_of known.regs b) (hold_at room a ty da c.regs (omega (arith, r)) ha) (hold_at room b ty db c.regs (omega (arith, r)) hb)) free d be
    where
      alike : (f g : RegFact) → (live : Bool) × (f ≡ Held ty da live) → (live : Bool) × (g ≡ Held ty db live)
          → Fine (record { types = is_comparable choice f && is_comparable choice g && are_alike f g; present = is_there f && is_there g; depths = true })
      alike f g ef eg = record {
        types = and_from _ _ (and_from _ _ (ap (is_comparable choice) ef.1 ∙ o) (ap (is_comparable choice) eg.1 ∙ o)) (ap (λ x. are_alike x g) ef.1 ∙ ap (are_alike (Held ty da ef.0)) eg.1 ∙ type_same ty);
        present = and_from _ _ (ap is_there ef.1) (ap is_there eg.1);
        depths = refl;
      }

  -- ---- copies, and what is printed

  copies_kept : (known : Known) (to a : ℕ) (ty : CodeTy) (d : ℕ) (live : Bool) → fact_of known.regs a ≡ Held ty d live → not (is_owned ty) ≡ true → is_free (fact_of known.regs to) ≡ true → known.depth ≡ d → Fine (row_at k (i.Copy to a) known).kept
  copies_kept known to a ty d live e copied free same = record {
    types = ap is_copied e ∙ copied;
    present = and_from _ _ (ap is_there e) free;
    depths = ap (is_usable known.depth) e ∙ usable ty known.depth d live same;
  }

  -- a value that is no owner and no isolate is copied to h
  pub copy_runs : {p : ℕ} {s u : Stand} (h a : ℕ) (z : Ty) → at k s a ≡ held k z s.depth → not (is_owned (code_type k.parts z)) ≡ true → is_free (at k s h) ≡ true → s.depth ≡ u.depth → Beside h s u
      → Runs k p (i.Copy h a ∷ []) (s ∷ []) s (falls (holding h z u))
  copy_runs {s = s} {u} h a z ha copied free d be = single k (i.Copy h a) refl refl (in_order k (i.Copy h a) refl) does
    where
      ty : CodeTy
      ty = code_type k.parts z

      by : room_for (i.Copy h a) ≤ room → (known : Known) → Covers k known s → (live : Bool) × (fact_of known.regs a ≡ Held ty s.depth live) → Does k (i.Copy h a) known (holding h z u)
      by r known c is =
          does_by (i.Copy h a) (slice_set known.regs h (Held ty known.depth is.0)) (put h (held k z u.depth) (at k s))
          (copies_kept known h a ty s.depth is.0 is.1 copied (hold_free room h c.regs (omega (arith, r)) free) c.depth)
          (ap (λ f. slice_set known.regs h (copy_of known.depth f)) is.1)
          (hold_put room h (Held ty known.depth is.0) (held k z u.depth) (subst (λ e. agrees (held k z u.depth) (Held ty e is.0) ≡ true) (sym (c.depth ∙ d)) (held_agrees ty u.depth is.0)) c.regs)
          (c.depth ∙ d) (over h z s u be)

      does : room_for (i.Copy h a) ≤ room → (known : Known) → Covers k known s → Does k (i.Copy h a) known (holding h z u)
      does r known c = by r known c (hold_at room a ty s.depth c.regs (omega (arith, r)) ha)

  pub print_runs : {p : ℕ} {s u : Stand} (a choice : ℕ) (ty : CodeTy) (d : ℕ) → nat_lt choice 2 ≡ true → is_copy ty ≡ true → at k s a ≡ Held ty d false → Says k s u → Runs k p (i.Print a choice ∷ []) (s ∷ []) s (falls u)
  print_runs {s = s} {u} a choice ty d few copy ha less = single k (i.Print a choice) refl refl (in_order k (i.Print a choice) few) does
    where
      by : (known : Known) → Covers k known s → (live : Bool) × (fact_of known.regs a ≡ Held ty d live) → Does k (i.Print a choice) known u
      by known c is =
          does_by (i.Print a choice) known.regs (at k s) (record { types = ap is_printable is.1 ∙ copy; present = ap is_there is.1; depths = refl }) refl c.regs (c.depth ∙ less.depth) less.each

      does : room_for (i.Print a choice) ≤ room → (known : Known) → Covers k known s → Does k (i.Print a choice) known u
      does r known c = by known c (hold_at room a ty d c.regs (omega (arith, r)) ha)
