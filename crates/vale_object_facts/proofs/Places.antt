-- The instructions on fields and elements: they are read, and get new values for old ones.
use Rattle.std.proofs.Common.{◌≡◌, ◌≢◌, ℕ, ◌<◌, ◌≤◌, List, [], ◌∷◌, Option, Some, None, Bool, true, false, not, ◌&&◌, ◌||◌, refl, sym, ap, ◌∙◌, subst, arith, ⊎_elim}
use Rattle.std.specs.Prelude.{slice_set, nat_lt}
use Rattle.std.proofs.lemmas.Bool.{and_from, cases_eq, le-ltb, le-leb}
use Rattle.vale_base.specs.declared.name.Kind.{Kind}
use Rattle.vale_base.specs.declared.spot.Spot.{Spot}
use Rattle.vale_rules_spec.specs.Types.{Ty}
use Rattle.vale_rules_spec.specs.Types as y
use Rattle.vale_code.specs.Operands.{room_for}
use Rattle.vale_code.specs.declared.instr.Instr.{Instr}
use Rattle.vale_code.specs.declared.instr.Instr.TheVariants as i
use Rattle.vale_code.specs.declared.ty.Ty.{Ty as CodeTy}
use Rattle.vale_code.specs.declared.ty.Ty.TheVariants as t
use Rattle.vale_cert.specs.Types.{is_owned, is_isolate, is_frozen}
use Rattle.vale_cert.specs.Known.{Known, fact_of, is_free, agrees}
use Rattle.vale_cert.specs.Numbers.{in_tables}
use Rattle.vale_cert.specs.Objects.{item_of, cell_by, owner_kind, reference_kind, read_kind, is_through_frozen, found_alive, seen}
use Rattle.vale_cert.specs.Rules.{Effect, uses, gets, is_readable, is_known, leads_as_owner, leads_as_reference, leads_to_read, reads_cell, reads_own, reads_found, finds_alive, after_passing, swaps, taken, pops, pushes}
use Rattle.vale_cert.specs.Walk.{goes_on, target_of}
use Rattle.vale_cert.specs.declared.facts.RegFact.{RegFact}
use Rattle.vale_cert.specs.declared.facts.RegFact.TheVariants.{Empty, Held}
use Rattle.vale_cert.specs.declared.rules.Kept.{Kept}
use Rattle.vale_lowering_objects.specs.Program.{code_type}
use Rattle.vale_object_facts.specs.Slots.{Stand, holding}
use Rattle.vale_object_facts.proofs.Agreeing.{held_agrees, agrees_same, Facts, put, put_here, put_there, Hold, hold_less, hold_put, hold_at, hold_free}
use Rattle.vale_object_facts.proofs.Covering.{Site, at, held, Covers, holding_here, holding_there}
use Rattle.vale_object_facts.proofs.Runs.{row_at, Does, Runs, single, falls}
use Rattle.vale_object_facts.proofs.Ways.{in_order}
use Rattle.vale_object_facts.proofs.Rows.{Fine, uses_fine, overwrites_fine, usable, room, does_by, Beside, over, writes}
use Rattle.vale_object_facts.proofs.Owners.{says_put}

-- a reference, `&imm` or not
abbrev pub leading : Bool → Kind → CodeTy
leading true kind = t.Frozen kind
leading false kind = t.Ref kind

-- what an operand leads to
module _ (cell : Kind → Option CodeTy) (kd : Kind) (ty : CodeTy) (is : cell kd ≡ Some ty) where
  pub owner_leads : (depth d : ℕ) (live : Bool) (f : RegFact) → f ≡ Held (t.Own kd) d live → depth ≡ d → Fine (leads_as_owner cell depth f)
  owner_leads depth d live f e same =
      subst (λ f. Fine (leads_as_owner cell depth f)) (sym e) (record { types = ap is_known is; present = refl; depths = usable (t.Own kd) depth d live same })

  pub reference_leads : (depth d : ℕ) (live : Bool) (f : RegFact) → f ≡ Held (t.Ref kd) d live → depth ≡ d → Fine (leads_as_reference cell depth f)
  reference_leads depth d live f e same =
      subst (λ f. Fine (leads_as_reference cell depth f)) (sym e) (record { types = ap is_known is; present = refl; depths = usable (t.Ref kd) depth d live same })

  readable : (frozen : Bool) (depth d : ℕ) (live : Bool) → depth ≡ d → is_readable depth (Held (leading frozen kd) d live) ≡ true
  readable true depth d live same = refl
  readable false depth d live same = le-leb d depth (omega (arith, same))

  pub read_leads : (frozen : Bool) (depth d : ℕ) (live : Bool) (f : RegFact) → f ≡ Held (leading frozen kd) d live → depth ≡ d → Fine (leads_to_read cell depth f)
  read_leads true depth d live f e same = subst (λ f. Fine (leads_to_read cell depth f)) (sym e) (record { types = ap is_known is; present = refl; depths = readable true depth d live same })
  read_leads false depth d live f e same = subst (λ f. Fine (leads_to_read cell depth f)) (sym e) (record { types = ap is_known is; present = refl; depths = readable false depth d live same })

-- what is read of a cell
module _ (depth to : ℕ) (frozen : Bool) (effect : Effect) (ty : CodeTy) (f : Fine effect.kept) (some : (frozen || not (is_isolate ty)) ≡ true) (free : is_free (fact_of effect.after to) ≡ true) where
  pub cell_fine : Fine (reads_cell depth frozen (Some ty) to effect).kept
  cell_fine = record {
    types = and_from _ _ f.types some;
    present = and_from _ _ f.present free;
    depths = f.depths;
  }

module _ (k : Site) where
  -- ---- what an owner's object holds is read

  pub owner_read : {p : ℕ} {s u : Stand} (instr : Instr) (h a : ℕ) (kd : Kind) (x : Ty) (ty : CodeTy) (cell : Kind → Option CodeTy) (kept : Known → Kept) → goes_on instr ≡ true → target_of instr ≡ None → in_tables k.code instr ≡ true
      → (room_for instr ≤ room k → (h < room k) × (a < room k))
      → ((known : Known) → row_at k instr known ≡ reads_own cell known.depth known.regs h a (kept known))
      → (room_for instr ≤ room k → (known : Known) → Covers k known s → Fine (kept known))
      → at k s a ≡ Held (t.Own kd) s.depth false → cell kd ≡ Some ty → not (is_isolate ty) ≡ true → code_type k.parts x ≡ seen false ty → is_free (at k s h) ≡ true → s.depth ≡ u.depth → Beside k h s u
      → Runs k p (instr ∷ []) (s ∷ []) s (falls (holding h x u))
  owner_read {s = s} {u} instr h a kd x ty cell kept on none inside lt is f ha there some same free d b = single k instr on none (in_order k instr inside) does
    where
      row_of : Known → RegFact → Effect
      row_of known fact = reads_cell known.depth false (cell_by cell (owner_kind fact)) h (record { kept = kept known; after = known.regs })

      row_is : (known : Known) (live : Bool) → fact_of known.regs a ≡ Held (t.Own kd) s.depth live → row_at k instr known ≡ reads_cell known.depth false (Some ty) h (record { kept = kept known; after = known.regs })
      row_is known live e = is known ∙ ap (row_of known) e ∙ ap (λ o. reads_cell known.depth false o h (record { kept = kept known; after = known.regs })) there

      by : room_for instr ≤ room k → (known : Known) → Covers k known s → (live : Bool) × (fact_of known.regs a ≡ Held (t.Own kd) s.depth live) → Does k instr known (holding h x u)
      by r known c e =
          let row = row_is known e.0 e.1 in
          does_by k instr (slice_set known.regs h (Held (seen false ty) known.depth false)) (put h (held k x u.depth) (at k s))
          (subst (λ z. Fine z.kept) (sym row) (cell_fine known.depth h false (record { kept = kept known; after = known.regs }) ty (f r known c) some (hold_free (room k) h c.regs (lt r).0 free)))
          (ap (λ z. z.after) row)
          (hold_put (room k) h (Held (seen false ty) known.depth false) (held k x u.depth)
          (subst (λ e. agrees (held k x u.depth) (Held (seen false ty) e false) ≡ true) (sym (c.depth ∙ d)) (subst (λ z. agrees (held k x u.depth) (Held z u.depth false) ≡ true) same (agrees_same (held k x u.depth)))) c.regs)
          (c.depth ∙ d) (over k h x s u b)

      does : room_for instr ≤ room k → (known : Known) → Covers k known s → Does k instr known (holding h x u)
      does r known c = by r known c (hold_at (room k) a (t.Own kd) s.depth c.regs (lt r).1 ha)

  -- ---- and what a reference leads to

  put_same : (F : Facts) (r : ℕ) (x : RegFact) → F r ≡ x → (q : ℕ) → F q ≡ put r x F q
  put_same F r x e q = ⊎_elim (λ same. ap F (sym same) ∙ e ∙ sym (put_here r x F q same)) (λ ne. sym (put_there r x F q ne)) (cases_eq r q)

  -- an operand that is found alive is known as before, or better
  pub found_hold : (n : ℕ) (regs : List RegFact) (F : Facts) (depth a : ℕ) (ty : CodeTy) (d : ℕ) (live : Bool) → Hold n regs F → F a ≡ Held ty d false → fact_of regs a ≡ Held ty d live → Hold n (finds_alive depth regs a) F
  found_hold n regs F depth a ty d live h e is =
      hold_less n F
      (hold_put n a (found_alive depth (fact_of regs a)) (Held ty d false) (subst (λ z. agrees (Held ty d false) (found_alive depth z) ≡ true) (sym is) (held_agrees ty d (live || is_frozen ty || nat_lt d depth))) h)
      (λ q. subst (λ z. agrees (F q) z ≡ true) (put_same F a (Held ty d false) e q) (agrees_same (F q)))

  seen_through : (frozen : Bool) (kd : Kind) (depth d : ℕ) (live : Bool) → depth ≡ d → is_through_frozen depth (Held (leading frozen kd) d live) ≡ frozen
  seen_through true kd depth d live same = refl
  seen_through false kd depth d live same = le-ltb d depth (omega (arith, same))

  read_kind_is : (frozen : Bool) (kd : Kind) (depth d : ℕ) (live : Bool) → read_kind depth (Held (leading frozen kd) d live) ≡ Some kd
  read_kind_is true kd depth d live = refl
  read_kind_is false kd depth d live = refl

  pub found_read : {p : ℕ} {s u : Stand} (instr : Instr) (h a : ℕ) (frozen : Bool) (kd : Kind) (x : Ty) (ty : CodeTy) (cell : Kind → Option CodeTy) (kept : Known → Kept) → goes_on instr ≡ true → target_of instr ≡ None → in_tables k.code instr ≡ true
      → (room_for instr ≤ room k → (h < room k) × (a < room k))
      → ((known : Known) → row_at k instr known ≡ reads_found cell known.depth known.regs h a (kept known))
      → (room_for instr ≤ room k → (known : Known) → Covers k known s → Fine (kept known))
      → at k s a ≡ Held (leading frozen kd) s.depth false → cell kd ≡ Some ty → (frozen || not (is_isolate ty)) ≡ true → code_type k.parts x ≡ seen frozen ty → is_free (at k s h) ≡ true → s.depth ≡ u.depth → Beside k h s u
      → Runs k p (instr ∷ []) (s ∷ []) s (falls (holding h x u))
  found_read {s = s} {u} instr h a frozen kd x ty cell kept on none inside lt is f ha there some same free d b = single k instr on none (in_order k instr inside) does
    where
      row_of : Known → Bool → Option Kind → Effect
      row_of known through kind = reads_cell known.depth through (cell_by cell kind) h (record { kept = kept known; after = finds_alive known.depth known.regs a })

      row_is : (known : Known) (live : Bool) → fact_of known.regs a ≡ Held (leading frozen kd) s.depth live → known.depth ≡ s.depth → row_at k instr known ≡ reads_cell known.depth frozen (Some ty) h (record { kept = kept known; after = finds_alive known.depth known.regs a })
      row_is known live e depth =
          is known
          ∙ ap (λ z. row_of known (is_through_frozen known.depth z) (read_kind known.depth z)) e
          ∙ ap (λ z. row_of known z (read_kind known.depth (Held (leading frozen kd) s.depth live))) (seen_through frozen kd known.depth s.depth live depth)
          ∙ ap (row_of known frozen) (read_kind_is frozen kd known.depth s.depth live)
          ∙ ap (λ o. reads_cell known.depth frozen o h (record { kept = kept known; after = finds_alive known.depth known.regs a })) there

      by : room_for instr ≤ room k → (known : Known) → Covers k known s → (live : Bool) × (fact_of known.regs a ≡ Held (leading frozen kd) s.depth live) → Does k instr known (holding h x u)
      by r known c e =
          let row = row_is known e.0 e.1 c.depth in
          let found = found_hold (room k) known.regs (at k s) known.depth a (leading frozen kd) s.depth e.0 c.regs ha e.1 in
          let new = Held (seen frozen ty) known.depth (frozen && is_owned ty) in
          does_by k instr (slice_set (finds_alive known.depth known.regs a) h new) (put h (held k x u.depth) (at k s))
          (subst (λ z. Fine z.kept) (sym row) (cell_fine known.depth h frozen (record { kept = kept known; after = finds_alive known.depth known.regs a }) ty (f r known c) some (hold_free (room k) h found (lt r).0 free)))
          (ap (λ z. z.after) row)
          (hold_put (room k) h new (held k x u.depth)
          (subst (λ e. agrees (held k x u.depth) (Held (seen frozen ty) e (frozen && is_owned ty)) ≡ true) (sym (c.depth ∙ d)) (subst (λ z. agrees (held k x u.depth) (Held z u.depth (frozen && is_owned ty)) ≡ true) same (held_agrees (code_type k.parts x) u.depth (frozen && is_owned ty)))) found)
          (c.depth ∙ d) (over k h x s u b)

      does : room_for instr ≤ room k → (known : Known) → Covers k known s → Does k instr known (holding h x u)
      does r known c = by r known c (hold_at (room k) a (leading frozen kd) s.depth c.regs (lt r).1 ha)

  -- ---- a cell gets a new value

  forget : (n : ℕ) (regs : List RegFact) (F : Facts) (v : ℕ) (ty : CodeTy) (d : ℕ) → Hold n regs F → F v ≡ Held ty d false → is_free (Held ty d false) ≡ true → Hold n regs (put v Empty F)
  forget n regs F v ty d h e free =
      hold_less n (put v Empty F) h
      (λ q.
      ⊎_elim
      (λ same. subst (λ z. agrees z (F q) ≡ true) (sym (put_here v Empty F q same)) (subst (λ z. is_free z ≡ true) (sym (ap F (sym same) ∙ e)) free))
      (λ ne. subst (λ z. agrees z (F q) ≡ true) (sym (put_there v Empty F q ne)) (agrees_same (F q)))
      (cases_eq v q))

  -- a value is taken out of a register, where it is an owner
  pub passed_hold : (n : ℕ) (regs : List RegFact) (F : Facts) (v : ℕ) (ty : CodeTy) (d : ℕ) → Hold n regs F → F v ≡ Held ty d false → Hold n (after_passing regs v ty) (put v Empty F)
  passed_hold n regs F v (t.Own kd) d h e = hold_put n v Empty Empty refl h
  passed_hold n regs F v (t.Iso kd) d h e = hold_put n v Empty Empty refl h
  passed_hold n regs F v t.Void d h e = forget n regs F v t.Void d h e refl
  passed_hold n regs F v t.Int d h e = forget n regs F v t.Int d h e refl
  passed_hold n regs F v t.Truth d h e = forget n regs F v t.Truth d h e refl
  passed_hold n regs F v t.Text d h e = forget n regs F v t.Text d h e refl
  passed_hold n regs F v (t.Ref kd) d h e = forget n regs F v (t.Ref kd) d h e refl
  passed_hold n regs F v (t.Frozen kd) d h e = forget n regs F v (t.Frozen kd) d h e refl

  -- the new value stands in v, and there goes the old one
  pub swap_runs : {p : ℕ} {s u : Stand} (instr : Instr) (v : ℕ) (z : Ty) (cell : Known → Option CodeTy) (kept : Known → Kept) → goes_on instr ≡ true → target_of instr ≡ None → in_tables k.code instr ≡ true
      → (room_for instr ≤ room k → v < room k)
      → ((known : Known) → row_at k instr known ≡ swaps known.depth known.regs (cell known) v v (kept known))
      → (room_for instr ≤ room k → (known : Known) → Covers k known s → Fine (kept known) × (cell known ≡ Some (code_type k.parts z)))
      → at k s v ≡ held k z s.depth → s.depth ≡ u.depth → Beside k v s u
      → Runs k p (instr ∷ []) (s ∷ []) s (falls (holding v z u))
  swap_runs {s = s} {u} instr v z cell kept on none inside lt is f ha d b = single k instr on none (in_order k instr inside) does
    where
      ty : CodeTy
      ty = code_type k.parts z

      beside : Beside k v s u → (q : ℕ) → v ≢ q → agrees (at k (holding v z u) q) (put v Empty (at k s) q) ≡ true
      beside b q ne = subst (λ x. agrees x (put v Empty (at k s) q) ≡ true) (sym (holding_there k v z u q ne)) (subst (λ x. agrees (at k u q) x ≡ true) (sym (put_there v Empty (at k s) q ne)) (b q ne))

      by : room_for instr ≤ room k → (known : Known) → Covers k known s → Fine (kept known) × (cell known ≡ Some ty) → Does k instr known (holding v z u)
      by r known c g =
          let row : row_at k instr known ≡ gets known.depth (after_passing known.regs v ty) v ty (uses known.depth known.regs v ty (kept known)) = is known ∙ ap (λ o. swaps known.depth known.regs o v v (kept known)) g.1 in
          let passed = passed_hold (room k) known.regs (at k s) v ty s.depth c.regs ha in
          let fine = uses_fine (room k) known.depth v ty s.depth g.0 c.regs (lt r) ha c.depth in
          does_by k instr (slice_set (after_passing known.regs v ty) v (Held ty known.depth false)) (put v (held k z u.depth) (put v Empty (at k s)))
          (record {
            types = ap (λ e. e.kept.types) row ∙ fine.types;
            present = ap (λ e. e.kept.present) row ∙ and_from _ _ fine.present (hold_free (room k) v passed (lt r) (ap is_free (put_here v Empty (at k s) v refl)));
            depths = ap (λ e. e.kept.depths) row ∙ fine.depths;
          })
          (ap (λ e. e.after) row)
          (hold_put (room k) v (Held ty known.depth false) (held k z u.depth) (subst (λ e. agrees (held k z u.depth) (Held ty e false) ≡ true) (sym (c.depth ∙ d)) (agrees_same (held k z u.depth))) passed)
          (c.depth ∙ d)
          (says_put k (put v Empty (at k s)) (holding v z u) v (held k z u.depth) (subst (λ x. agrees x (held k z u.depth) ≡ true) (sym (holding_here k v z u)) (agrees_same (held k z u.depth))) (beside b))

      does : room_for instr ≤ room k → (known : Known) → Covers k known s → Does k instr known (holding v z u)
      does r known c = by r known c (f r known c)

  -- ---- arrays, by references to them

  pub length_read : {p : ℕ} {s u : Stand} (h a : ℕ) (frozen : Bool) (kd : Kind) (ty : CodeTy) (spot : Spot) → at k s a ≡ Held (leading frozen kd) s.depth false → item_of k.code kd ≡ Some ty → is_free (at k s h) ≡ true → s.depth ≡ u.depth → Beside k h s u
      → Runs k p (i.Len h a spot ∷ []) (s ∷ []) s (falls (holding h y.int u))
  length_read {s = s} {u} h a frozen kd ty spot ha there free d b = single k (i.Len h a spot) refl refl (in_order k (i.Len h a spot) refl) does
    where
      by : room_for (i.Len h a spot) ≤ room k → (known : Known) → Covers k known s → (live : Bool) × (fact_of known.regs a ≡ Held (leading frozen kd) s.depth live) → Does k (i.Len h a spot) known (holding h y.int u)
      by r known c e =
          let found = found_hold (room k) known.regs (at k s) known.depth a (leading frozen kd) s.depth e.0 c.regs ha e.1 in
          does_by k (i.Len h a spot) (slice_set (finds_alive known.depth known.regs a) h (Held t.Int known.depth false)) (put h (held k y.int u.depth) (at k s))
          (overwrites_fine (room k) h (read_leads (item_of k.code) kd ty there frozen known.depth s.depth e.0 (fact_of known.regs a) e.1 c.depth) found (omega (arith, r)) free)
          refl
          (hold_put (room k) h (Held t.Int known.depth false) (held k y.int u.depth) (subst (λ e. agrees (held k y.int u.depth) (Held t.Int e false) ≡ true) (sym (c.depth ∙ d)) (agrees_same (held k y.int u.depth))) found)
          (c.depth ∙ d) (over k h y.int s u b)

      does : room_for (i.Len h a spot) ≤ room k → (known : Known) → Covers k known s → Does k (i.Len h a spot) known (holding h y.int u)
      does r known c = by r known c (hold_at (room k) a (leading frozen kd) s.depth c.regs (omega (arith, r)) ha)

  -- what a reference leads to, which may be changed
  array_leads : (s : Stand) (a : ℕ) (kd : Kind) (ty : CodeTy) → at k s a ≡ Held (t.Ref kd) s.depth false → item_of k.code kd ≡ Some ty → (known : Known) → Covers k known s → a < room k
      → Fine (leads_as_reference (item_of k.code) known.depth (fact_of known.regs a)) × (cell_by (item_of k.code) (reference_kind (fact_of known.regs a)) ≡ Some ty)
  array_leads s a kd ty ha there known c lt =
      let e = hold_at (room k) a (t.Ref kd) s.depth c.regs lt ha in
      (reference_leads (item_of k.code) kd ty there known.depth s.depth e.0 (fact_of known.regs a) e.1 c.depth, ap (λ f. cell_by (item_of k.code) (reference_kind f)) e.1 ∙ there)

  -- the last element comes to h
  pub pop_runs : {p : ℕ} {s u : Stand} (h a : ℕ) (kd : Kind) (z : Ty) (spot : Spot) → at k s a ≡ Held (t.Ref kd) s.depth false → item_of k.code kd ≡ Some (code_type k.parts z) → is_free (at k s h) ≡ true → s.depth ≡ u.depth → Beside k h s u
      → Runs k p (i.Pop h a spot ∷ []) (s ∷ []) s (falls (holding h z u))
  pop_runs {s = s} h a kd z spot ha there free d b =
      writes k (i.Pop h a spot) h z (λ known. leads_as_reference (item_of k.code) known.depth (fact_of known.regs a)) refl refl refl (λ r. omega (arith, r))
      (λ r known c. ap (λ o. pops known.depth known.regs o h (leads_as_reference (item_of k.code) known.depth (fact_of known.regs a))) (array_leads s a kd (code_type k.parts z) ha there known c (omega (arith, r))).1)
      (λ r known c. (array_leads s a kd (code_type k.parts z) ha there known c (omega (arith, r))).0) free d b

  -- what stands in v becomes the last element
  pub push_runs : {p : ℕ} {s u : Stand} (a v : ℕ) (kd : Kind) (z : Ty) (spot : Spot) → at k s a ≡ Held (t.Ref kd) s.depth false → item_of k.code kd ≡ Some (code_type k.parts z) → at k s v ≡ held k z s.depth → s.depth ≡ u.depth
      → ((q : ℕ) → v ≢ q → agrees (at k u q) (at k s q) ≡ true) → at k u v ≡ Empty → Runs k p (i.Push a v spot ∷ []) (s ∷ []) s (falls u)
  push_runs {s = s} {u} a v kd z spot ha there hv d b none = single k (i.Push a v spot) refl refl (in_order k (i.Push a v spot) refl) does
    where
      ty : CodeTy
      ty = code_type k.parts z

      kept : Known → Kept
      kept known = leads_as_reference (item_of k.code) known.depth (fact_of known.regs a)

      does : room_for (i.Push a v spot) ≤ room k → (known : Known) → Covers k known s → Does k (i.Push a v spot) known u
      does r known c =
          let led = array_leads s a kd ty ha there known c (omega (arith, r)) in
          let row : row_at k (i.Push a v spot) known ≡ taken known.depth v ty (record { kept = kept known; after = known.regs }) = ap (λ o. pushes known.depth known.regs o v (kept known)) led.1 in
          let fine = uses_fine (room k) known.depth v ty s.depth led.0 c.regs (omega (arith, r)) hv c.depth in
          does_by k (i.Push a v spot) (after_passing known.regs v ty) (put v Empty (at k s))
          (record { types = ap (λ e. e.kept.types) row ∙ fine.types; present = ap (λ e. e.kept.present) row ∙ fine.present; depths = ap (λ e. e.kept.depths) row ∙ fine.depths })
          (ap (λ e. e.after) row) (passed_hold (room k) known.regs (at k s) v ty s.depth c.regs hv) (c.depth ∙ d)
          (says_put k (at k s) u v Empty (subst (λ x. agrees x Empty ≡ true) (sym none) refl) b)
