-- How the walk goes through the instructions of a step, from what a local or a register holds: a field or an element is read, or
-- gets a new value.
use Rattle.std.proofs.Common.{◌≡◌, ℕ, [], ◌∷◌, Option, Some, Bool, true, false, not, ◌||◌, refl, sym, ap, ◌∙◌, subst, arith, ◌<◌}
use Rattle.vale_base.specs.declared.name.Kind.{Kind}
use Rattle.vale_base.specs.declared.spot.Spot.{Spot}
use Rattle.vale_rules_spec.specs.TypeRules.{is_iso, borrow_gives}
use Rattle.vale_rules_spec.specs.Types.{Ty, View, blind, direct, shared, frozen, seen_object, is_frozen, is_owner, object_of, as_shared, as_frozen, part_seen}
use Rattle.vale_rules_spec.specs.Types as y
use Rattle.vale_model.specs.Parts.{Parts, kind_of, field_place}
use Rattle.vale_code.specs.declared.instr.Instr.TheVariants as i
use Rattle.vale_code.specs.declared.ty.Ty.{Ty as CodeTy}
use Rattle.vale_code.specs.declared.ty.Ty.TheVariants as t
use Rattle.vale_cert.specs.Known.{Known, fact_of, is_free}
use Rattle.vale_cert.specs.Objects.{cell_by, field_of, item_of, owner_kind, reference_kind, seen}
use Rattle.vale_cert.specs.Rules.{reads, leads_as_owner, leads_as_reference, leads_to_read}
use Rattle.vale_cert.specs.Types.{is_isolate}
use Rattle.vale_cert.specs.declared.facts.RegFact.TheVariants.{Held}
use Rattle.vale_lowering_objects.specs.Lowered.{Origin, at_hand, reference, load_field, load_element, swap_field, swap_element}
use Rattle.vale_lowering_objects.specs.Program.{code_type}
use Rattle.vale_object_facts.specs.Slots.{Stand, holding}
use Rattle.vale_object_facts.specs.Stands.{lent}
use Rattle.vale_object_facts.specs.Suits.{HasField, HasItems}
use Rattle.vale_object_facts.proofs.Agreeing.{hold_at}
use Rattle.vale_object_facts.proofs.Covering.{Site, at, held, Covers}
use Rattle.vale_object_facts.proofs.Places.{leading, owner_leads, reference_leads, read_leads, owner_read, found_read, swap_runs}
use Rattle.vale_object_facts.proofs.Rows.{Fine, reads_fine, room, Beside}
use Rattle.vale_object_facts.proofs.Runs.{Runs, falls}

-- ---- types

shared_code : (p : Parts) (x : Ty) → not (is_iso x) ≡ true → code_type p (lent (as_shared x (object_of x))) ≡ seen false (code_type p x)
shared_code p y.void e = refl
shared_code p y.int e = refl
shared_code p y.bool e = refl
shared_code p y.str e = refl
shared_code p (y.kind n) e = refl
shared_code p (y.array x) e = refl
shared_code p (y.ref x) e = refl
shared_code p (y.imm x) e = refl
shared_code p (y.iso x) e = absurd (cc)

frozen_code : (p : Parts) (x : Ty) → code_type p (lent (as_frozen x (object_of x))) ≡ seen true (code_type p x)
frozen_code p y.void = refl
frozen_code p y.int = refl
frozen_code p y.bool = refl
frozen_code p y.str = refl
frozen_code p (y.kind n) = refl
frozen_code p (y.array x) = refl
frozen_code p (y.ref x) = refl
frozen_code p (y.imm x) = refl
frozen_code p (y.iso x) = refl

-- what is read of a cell
lent_code : (p : Parts) (v : View) (x : Ty) → (is_frozen v || not (is_iso x)) ≡ true → code_type p (lent (part_seen v x)) ≡ seen (is_frozen v) (code_type p x)
lent_code p blind x e = shared_code p x e
lent_code p (direct w) x e = shared_code p x e
lent_code p (shared w) x e = shared_code p x e
lent_code p (frozen w) x e = frozen_code p x

iso_same : (p : Parts) (x : Ty) → is_isolate (code_type p x) ≡ is_iso x
iso_same p y.void = refl
iso_same p y.int = refl
iso_same p y.bool = refl
iso_same p y.str = refl
iso_same p (y.kind n) = refl
iso_same p (y.array x) = refl
iso_same p (y.ref x) = refl
iso_same p (y.imm x) = refl
iso_same p (y.iso x) = refl

no_isolate : (p : Parts) (b : Bool) (x : Ty) → (b || not (is_iso x)) ≡ true → (b || not (is_isolate (code_type p x))) ≡ true
no_isolate p b x e = ap (λ z. b || not z) (iso_same p x) ∙ e

-- a reference to what is seen so
leading_code : (p : Parts) (v : View) (w : Ty) → seen_object v ≡ Some w → code_type p (borrow_gives v) ≡ leading (is_frozen v) (kind_of p w)
leading_code p blind w e = absurd (cc)
leading_code p (direct x) w e = let same : x ≡ w = cc in ap (λ z. t.Ref (kind_of p z)) same
leading_code p (shared x) w e = let same : x ≡ w = cc in ap (λ z. t.Ref (kind_of p z)) same
leading_code p (frozen x) w e = let same : x ≡ w = cc in ap (λ z. t.Frozen (kind_of p z)) same

module _ (k : Site) where
  -- a step's origin leads to what is seen so
  abbrev pub Leads : Stand → Origin → View → Type 0
  Leads s (at_hand r) v = (w : Ty) × (v ≡ direct w) × (is_owner w ≡ true) × (at k s r ≡ held k w s.depth)
  Leads s (reference r) v = at k s r ≡ held k (borrow_gives v) s.depth

  -- to the object of a struct or an array, which has a cell of this type
  module _ (s : Stand) (v : View) (w x : Ty) (object : seen_object v ≡ Some w) (own : code_type k.parts w ≡ t.Own (kind_of k.parts w)) (cell : Kind → Option CodeTy) (is : cell (kind_of k.parts w) ≡ Some (code_type k.parts x)) where
    abbrev kd : Kind
    kd = kind_of k.parts w

    owner_here : (r : ℕ) → Leads s (at_hand r) v → at k s r ≡ Held (t.Own kd) s.depth false
    owner_here r l =
        let found : Some l.0 ≡ Some w = sym (ap seen_object l.1) ∙ object in
        let same : l.0 ≡ w = cc in
        l.3 ∙ ap (λ z. held k z s.depth) same ∙ ap (λ z. Held z s.depth false) own

    reference_here : (r : ℕ) → Leads s (reference r) v → at k s r ≡ Held (leading (is_frozen v) kd) s.depth false
    reference_here r l = l ∙ ap (λ z. Held z s.depth false) (leading_code k.parts v w object)

    set_here : (r : ℕ) → is_frozen v ≡ false → Leads s (reference r) v → at k s r ≡ Held (t.Ref kd) s.depth false
    set_here r e l = reference_here r l ∙ ap (λ b. Held (leading b kd) s.depth false) e

    module _ (known : Known) (c : Covers k known s) (r : ℕ) (lt : r < room k) where
      from_owner : Leads s (at_hand r) v → Fine (leads_as_owner cell known.depth (fact_of known.regs r)) × (cell_by cell (owner_kind (fact_of known.regs r)) ≡ Some (code_type k.parts x))
      from_owner l =
          let e = hold_at (room k) r (t.Own kd) s.depth c.regs lt (owner_here r l) in
          (owner_leads cell kd (code_type k.parts x) is known.depth s.depth e.0 (fact_of known.regs r) e.1 c.depth, ap (λ f. cell_by cell (owner_kind f)) e.1 ∙ is)

      from_reference : Leads s (reference r) v → Fine (leads_to_read cell known.depth (fact_of known.regs r))
      from_reference l =
          let e = hold_at (room k) r (leading (is_frozen v) kd) s.depth c.regs lt (reference_here r l) in
          read_leads cell kd (code_type k.parts x) is (is_frozen v) known.depth s.depth e.0 (fact_of known.regs r) e.1 c.depth

      from_set : is_frozen v ≡ false → Leads s (reference r) v → Fine (leads_as_reference cell known.depth (fact_of known.regs r)) × (cell_by cell (reference_kind (fact_of known.regs r)) ≡ Some (code_type k.parts x))
      from_set unfrozen l =
          let e = hold_at (room k) r (t.Ref kd) s.depth c.regs lt (set_here r unfrozen l) in
          (reference_leads cell kd (code_type k.parts x) is known.depth s.depth e.0 (fact_of known.regs r) e.1 c.depth, ap (λ f. cell_by cell (reference_kind f)) e.1 ∙ is)

  -- ---- what is read

  module _ (s u : Stand) (v : View) (x : Ty) (spot : Spot) (h : ℕ) (some : (is_frozen v || not (is_iso x)) ≡ true) (free : is_free (at k s h) ≡ true) (d : s.depth ≡ u.depth) (b : Beside k h s u) where
    unfrozen_here : (r : ℕ) → Leads s (at_hand r) v → not (is_isolate (code_type k.parts x)) ≡ true
    unfrozen_here r l = ap (λ z. z || not (is_isolate (code_type k.parts x))) (sym (ap is_frozen l.1)) ∙ no_isolate k.parts (is_frozen v) x some

    lent_here : (r : ℕ) → Leads s (at_hand r) v → code_type k.parts (lent (part_seen v x)) ≡ seen false (code_type k.parts x)
    lent_here r l = lent_code k.parts v x some ∙ ap (λ z. seen z (code_type k.parts x)) (ap is_frozen l.1)

    pub field_read : {q : ℕ} (o : Origin) (m : ℕ) → HasField k.parts k.code v m x → Leads s o v → Runs k q (load_field o (field_place k.parts v m) spot h) (s ∷ []) s (falls (holding h (lent (part_seen v x)) u))
    field_read {q} o m f l = subst (λ z. Runs k q (load_field o z spot h) (s ∷ []) s (falls (holding h (lent (part_seen v x)) u))) (sym f.found) (by o l)
      where
        by : (o : Origin) → Leads s o v → Runs k q (load_field o (Some f.place) spot h) (s ∷ []) s (falls (holding h (lent (part_seen v x)) u))
        by (at_hand r) l =
            owner_read k (i.LoadOwn h r f.place) h r (kind_of k.parts (y.kind f.struct)) (lent (part_seen v x)) (code_type k.parts x) (field_of k.code f.place) (λ known. leads_as_owner (field_of k.code f.place) known.depth (fact_of known.regs r)) refl refl refl (λ lt. (omega (arith, lt), omega (arith, lt))) (λ known. refl)
            (λ lt known c. (from_owner s v (y.kind f.struct) x f.object refl (field_of k.code f.place) f.cell known c r (omega (arith, lt)) l).0)
            (owner_here s v (y.kind f.struct) x f.object refl (field_of k.code f.place) f.cell r l) f.cell (unfrozen_here r l) (lent_here r l) free d b
        by (reference r) l =
            found_read k (i.Load h r f.place spot) h r (is_frozen v) (kind_of k.parts (y.kind f.struct)) (lent (part_seen v x)) (code_type k.parts x) (field_of k.code f.place) (λ known. leads_to_read (field_of k.code f.place) known.depth (fact_of known.regs r)) refl refl refl (λ lt. (omega (arith, lt), omega (arith, lt))) (λ known. refl)
            (λ lt known c. from_reference s v (y.kind f.struct) x f.object refl (field_of k.code f.place) f.cell known c r (omega (arith, lt)) l)
            (reference_here s v (y.kind f.struct) x f.object refl (field_of k.code f.place) f.cell r l) f.cell (no_isolate k.parts (is_frozen v) x some) (lent_code k.parts v x some) free d b

    -- its index stands in j
    pub element_read : {q : ℕ} (o : Origin) (j : ℕ) → HasItems k.parts k.code v x → at k s j ≡ held k y.int s.depth → Leads s o v → Runs k q (load_element o j spot h) (s ∷ []) s (falls (holding h (lent (part_seen v x)) u))
    element_read {q} o j f here l = by o l
      where
        by : (o : Origin) → Leads s o v → Runs k q (load_element o j spot h) (s ∷ []) s (falls (holding h (lent (part_seen v x)) u))
        by (at_hand r) l =
            owner_read k (i.ElemOwn h r j spot) h r (kind_of k.parts (y.array x)) (lent (part_seen v x)) (code_type k.parts x) (item_of k.code) (λ known. reads known.regs j t.Int (leads_as_owner (item_of k.code) known.depth (fact_of known.regs r))) refl refl refl (λ lt. (omega (arith, lt), omega (arith, lt))) (λ known. refl)
            (λ lt known c. reads_fine (room k) j t.Int s.depth (from_owner s v (y.array x) x f.object refl (item_of k.code) f.cell known c r (omega (arith, lt)) l).0 c.regs (omega (arith, lt)) here)
            (owner_here s v (y.array x) x f.object refl (item_of k.code) f.cell r l) f.cell (unfrozen_here r l) (lent_here r l) free d b
        by (reference r) l =
            found_read k (i.Elem h r j spot) h r (is_frozen v) (kind_of k.parts (y.array x)) (lent (part_seen v x)) (code_type k.parts x) (item_of k.code) (λ known. reads known.regs j t.Int (leads_to_read (item_of k.code) known.depth (fact_of known.regs r))) refl refl refl (λ lt. (omega (arith, lt), omega (arith, lt))) (λ known. refl)
            (λ lt known c. reads_fine (room k) j t.Int s.depth (from_reference s v (y.array x) x f.object refl (item_of k.code) f.cell known c r (omega (arith, lt)) l) c.regs (omega (arith, lt)) here)
            (reference_here s v (y.array x) x f.object refl (item_of k.code) f.cell r l) f.cell (no_isolate k.parts (is_frozen v) x some) (lent_code k.parts v x some) free d b

  -- ---- what gets a new value, which stands in h, where then the old one is

  module _ (s u : Stand) (v : View) (x : Ty) (spot : Spot) (h : ℕ) (unfrozen : is_frozen v ≡ false) (value : at k s h ≡ held k x s.depth) (d : s.depth ≡ u.depth) (b : Beside k h s u) where
    pub field_swapped : {q : ℕ} (o : Origin) (m : ℕ) → HasField k.parts k.code v m x → Leads s o v → Runs k q (swap_field o (field_place k.parts v m) spot h) (s ∷ []) s (falls (holding h x u))
    field_swapped {q} o m f l = subst (λ z. Runs k q (swap_field o z spot h) (s ∷ []) s (falls (holding h x u))) (sym f.found) (by o l)
      where
        by : (o : Origin) → Leads s o v → Runs k q (swap_field o (Some f.place) spot h) (s ∷ []) s (falls (holding h x u))
        by (at_hand r) l =
            swap_runs k (i.SwapOwn h r f.place h) h x (λ known. cell_by (field_of k.code f.place) (owner_kind (fact_of known.regs r))) (λ known. leads_as_owner (field_of k.code f.place) known.depth (fact_of known.regs r)) refl refl refl (λ lt. omega (arith, lt)) (λ known. refl)
            (λ lt known c. from_owner s v (y.kind f.struct) x f.object refl (field_of k.code f.place) f.cell known c r (omega (arith, lt)) l) value d b
        by (reference r) l =
            swap_runs k (i.Swap h r f.place h spot) h x (λ known. cell_by (field_of k.code f.place) (reference_kind (fact_of known.regs r))) (λ known. leads_as_reference (field_of k.code f.place) known.depth (fact_of known.regs r)) refl refl refl (λ lt. omega (arith, lt)) (λ known. refl)
            (λ lt known c. from_set s v (y.kind f.struct) x f.object refl (field_of k.code f.place) f.cell known c r (omega (arith, lt)) unfrozen l) value d b

    pub element_swapped : {q : ℕ} (o : Origin) (j : ℕ) → HasItems k.parts k.code v x → at k s j ≡ held k y.int s.depth → Leads s o v → Runs k q (swap_element o j spot h) (s ∷ []) s (falls (holding h x u))
    element_swapped {q} o j f here l = by o l
      where
        by : (o : Origin) → Leads s o v → Runs k q (swap_element o j spot h) (s ∷ []) s (falls (holding h x u))
        by (at_hand r) l =
            swap_runs k (i.SwapElOwn h r j h spot) h x (λ known. cell_by (item_of k.code) (owner_kind (fact_of known.regs r))) (λ known. reads known.regs j t.Int (leads_as_owner (item_of k.code) known.depth (fact_of known.regs r))) refl refl refl (λ lt. omega (arith, lt)) (λ known. refl)
            (λ lt known c. let z = from_owner s v (y.array x) x f.object refl (item_of k.code) f.cell known c r (omega (arith, lt)) l in (reads_fine (room k) j t.Int s.depth z.0 c.regs (omega (arith, lt)) here, z.1)) value d b
        by (reference r) l =
            swap_runs k (i.SwapEl h r j h spot) h x (λ known. cell_by (item_of k.code) (reference_kind (fact_of known.regs r))) (λ known. reads known.regs j t.Int (leads_as_reference (item_of k.code) known.depth (fact_of known.regs r))) refl refl refl (λ lt. omega (arith, lt)) (λ known. refl)
            (λ lt known c. let z = from_set s v (y.array x) x f.object refl (item_of k.code) f.cell known c r (omega (arith, lt)) unfrozen l in (reads_fine (room k) j t.Int s.depth z.0 c.regs (omega (arith, lt)) here, z.1)) value d b
