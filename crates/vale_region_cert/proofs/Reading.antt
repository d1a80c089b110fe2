-- Fields and elements are read: what comes is held or seen as the certificate knows.
use Rattle.std.proofs.Common.{◌≡◌, ◌≤◌, ◌<◌, ℕ, ◌+◌, List, Option, Some, None, Bool, true, false, not, ◌&&◌, ◌||◌, nat_lt, nat_le, if◌then◌else◌, refl, sym, ap, ◌∙◌, subst, arith}
use Rattle.std.specs.Prelude.{slice_set}
use Rattle.std.proofs.lemmas.Bool.{and_parts}
use Rattle.vale_state_spec.specs.State.{State, name_of, living, load, element}
use Rattle.vale_state_spec.specs.World.{Value, Own, Ref, Iso, Object, Lives}
use Rattle.vale_base.specs.declared.name.Kind.{Kind}
use Rattle.vale_base.specs.declared.spot.Spot.{Spot}
use Rattle.vale_code.specs.Frames.{Running, Config}
use Rattle.vale_code.specs.Instructions.{with_value, with_owner, answered, certain, of_living, array_length}
use Rattle.vale_code.specs.Parts.{Parts}
use Rattle.vale_code.specs.Registers.{read}
use Rattle.vale_code.specs.declared.ty.Ty.{Ty}
use Rattle.vale_code.specs.declared.ty.Ty.TheVariants as t
use Rattle.vale_cert.specs.Certificate.{Certified}
use Rattle.vale_cert.specs.Known.{fact_of, is_there, has}
use Rattle.vale_cert.specs.Objects.{field_of, item_of, cell_by, owner_kind, reference_kind, read_kind, is_through_frozen, found_alive, seen}
use Rattle.vale_cert.specs.Rules.{is_bound, is_usable, is_readable, finds_alive, leads_as_owner, leads_to_read, reads, reads_own, reads_found, reads_cell, Effect}
use Rattle.vale_cert.specs.Types.{is_owned, is_isolate, is_frozen}
use Rattle.vale_cert.specs.Walk.{goes_on}
use Rattle.vale_cert.specs.declared.facts.FuncFacts.{FuncFacts}
use Rattle.vale_cert.specs.declared.facts.RegFact.{RegFact}
use Rattle.vale_cert.specs.declared.facts.RegFact.TheVariants.{Empty, Held}
use Rattle.vale_cert.proofs.Cells.{struct_values, array_at, Led, follows_read}
use Rattle.vale_cert.proofs.Fit.{value_has, NameFits, Has, Holds, reg_value}
use Rattle.vale_cert.proofs.Going.{Place, row, fits_here}
use Rattle.vale_cert.proofs.Reading.{cell_types, cell_present, owner_found, read_found}
use Rattle.vale_region_laws.specs.Configs.{IsUnder}
use Rattle.vale_region_laws.specs.Holding.{Marks, mark}
use Rattle.vale_region_laws.specs.Regions.{Each, How, IsNoIso}
use Rattle.vale_region_laws.specs.Regions as how
use Rattle.vale_region_laws.proofs.Acts.{load_seen_next, load_own_next, load_held_next, element_seen_next, element_own_next, element_held_next, answers_next, length_out}
use Rattle.vale_region_cert.specs.Joined.{RegionsFit, RegionsNext}
use Rattle.vale_region_cert.specs.Told.{mark_of, IsTold, Told}
use Rattle.vale_region_cert.proofs.Around.{mark_low, marks, hs, base, told_here, deep_here, bound_here}
use Rattle.vale_region_cert.proofs.Giving.{some_is}
use Rattle.vale_region_cert.proofs.Lawful.{fields_lawful, item_lawful, field_of_lawful, values_no_iso, items_no_iso}
use Rattle.vale_region_cert.proofs.Simple.{any_value, gets_plain, gets_held, gets_seen}
use Rattle.vale_region_cert.proofs.Told.{told_same}

pub owner_fact : (fact : RegFact) (kind : Kind) → owner_kind fact ≡ Some kind → (d : ℕ) × (live : Bool) × (fact ≡ Held (t.Own kind) d live)
owner_fact (Held (t.Own q) d live) kind e = let same : q ≡ kind = cc in (d, live, ap (λ q. Held (t.Own q) d live) same)
owner_fact _ kind e = let y : ⊥ = cc in absurd y

pub reference_fact : (fact : RegFact) (kind : Kind) → reference_kind fact ≡ Some kind → (d : ℕ) × (live : Bool) × (fact ≡ Held (t.Ref kind) d live)
reference_fact (Held (t.Ref q) d live) kind e = let same : q ≡ kind = cc in (d, live, ap (λ q. Held (t.Ref q) d live) same)
reference_fact _ kind e = let y : ⊥ = cc in absurd y

seen_held : (u : Ty) → is_frozen u ≡ false → is_frozen (seen false u) ≡ false
seen_held (t.Own k) e = refl
seen_held (t.Ref k) e = refl
seen_held (t.Iso k) e = refl
seen_held t.Void e = refl
seen_held t.Int e = refl
seen_held t.Truth e = refl
seen_held t.Text e = refl
seen_held (t.Frozen k) e = let y : ⊥ = cc in absurd y

seen_through : (u : Ty) → is_bound (seen true u) ≡ false
seen_through (t.Own k) = refl
seen_through (t.Ref k) = refl
seen_through (t.Iso k) = refl
seen_through (t.Frozen k) = refl
seen_through t.Void = refl
seen_through t.Int = refl
seen_through t.Truth = refl
seen_through t.Text = refl

cell_depths : (depth : ℕ) (frozen : Bool) (c : Option Ty) (to : ℕ) (R : Effect) → (reads_cell depth frozen c to R).kept.depths ≡ true → R.kept.depths ≡ true
cell_depths depth frozen None to R e = e
cell_depths depth frozen (Some u) to R e = e

-- a cell's rule on isolates
cell_isolate : (depth : ℕ) (c : Option Ty) (u : Ty) (to : ℕ) (R : Effect) → c ≡ Some u → (reads_cell depth false c to R).kept.types ≡ true → is_isolate u ≡ false
cell_isolate depth c u to R is e =
    let ok : (reads_cell depth false (Some u) to R).kept.types ≡ true = subst (λ c. (reads_cell depth false c to R).kept.types ≡ true) is e in
    from (is_isolate u) (and_parts R.kept.types (false || not (is_isolate u)) ok).1
  where
    from : (b : Bool) → (false || not b) ≡ true → b ≡ false
    from false e = refl
    from true e = let y : ⊥ = cc in absurd y

module _ (code : Parts) (facts : List FuncFacts) (cert : Certified code facts) (last : Config → State) (P : Place code facts) (x : RegionsFit code facts (record { top = Running P.f; below = P.below; state = P.s })) where
  open P use {ty, f, below, s, F, under_it, heap, owned, instr, instrs, here, S}

  abbrev ms : Marks
  ms = marks code facts P x

  abbrev b : ℕ
  b = base code facts P x

  told : Told b S.known.regs ms
  told = told_here code facts P x

  abbrev Open_ : Value → Type 0
  Open_ v = (n : ℕ) (o : Object) → name_of v ≡ Some n → Lives s.world n o → Each IsNoIso o.values

  -- no isolate stands in what is seen as a struct with this field, or as an array of such items
  pub struct_open : (field : ℕ) (kind : Kind) (u : Ty) (v : Value) (n : ℕ) → field_of code field kind ≡ Some u → name_of v ≡ Some n → NameFits code s.world kind n → Open_ v
  struct_open field kind u v n e g names m o q lives =
      let same : n ≡ m = (let y : Some n ≡ Some m = sym g ∙ q in let z : n ≡ m = cc in z) in
      let r = field_of_lawful code facts cert field kind u e in
      values_no_iso code facts cert s.world r.0 o.values (fields_lawful code facts cert kind r.0 r.1)
      (struct_values code facts cert s.world heap kind r.0 m o r.1 (subst (λ n. NameFits code s.world kind n) same names) (ap living lives))

  pub array_open : (kind : Kind) (u : Ty) (v : Value) (n : ℕ) → item_of code kind ≡ Some u → is_isolate u ≡ false → name_of v ≡ Some n → NameFits code s.world kind n → Open_ v
  array_open kind u v n e iso g names m o q lives =
      let same : n ≡ m = (let y : Some n ≡ Some m = sym g ∙ q in let z : n ≡ m = cc in z) in
      items_no_iso code facts cert s.world u o.values iso (array_at code facts cert s.world heap kind u m o e (subst (λ n. NameFits code s.world kind n) same names) (ap living lives)).values

  owner_mark : (a : ℕ) (kind : Kind) → owner_kind (fact_of S.known.regs a) ≡ Some kind → is_usable S.known.depth (fact_of S.known.regs a) ≡ true → mark ms a ≡ Some (how.Held s.regions)
  owner_mark a kind e u = let o = owner_fact (fact_of S.known.regs a) kind e in bound_here code facts P x (fact_of S.known.regs a) (t.Own kind) o.0 o.1 (mark ms a) o.2 refl u (told.each a)

  pub reference_mark : (a : ℕ) (kind : Kind) → reference_kind (fact_of S.known.regs a) ≡ Some kind → is_usable S.known.depth (fact_of S.known.regs a) ≡ true → mark ms a ≡ Some (how.Held s.regions)
  reference_mark a kind e u = let o = reference_fact (fact_of S.known.regs a) kind e in bound_here code facts P x (fact_of S.known.regs a) (t.Ref kind) o.0 o.1 (mark ms a) o.2 refl u (told.each a)

  pub owner_marked : (a : ℕ) (kind : Kind) → owner_kind (fact_of S.known.regs a) ≡ Some kind → is_usable S.known.depth (fact_of S.known.regs a) ≡ true → mark ms a ≡ Some (how.Held s.regions)
  owner_marked a kind e u = owner_mark a kind e u

  -- ---- through an owner

  pub load_own : goes_on instr ≡ true → (to a field : ℕ)
      → (reads_own (field_of code field) S.known.depth S.known.regs to a (leads_as_owner (field_of code field) S.known.depth (fact_of S.known.regs a))).kept.types ≡ true
      → (reads_own (field_of code field) S.known.depth S.known.regs to a (leads_as_owner (field_of code field) S.known.depth (fact_of S.known.regs a))).kept.present ≡ true
      → (reads_own (field_of code field) S.known.depth S.known.regs to a (leads_as_owner (field_of code field) S.known.depth (fact_of S.known.regs a))).kept.depths ≡ true
      → (row code facts P).after ≡ (reads_own (field_of code field) S.known.depth S.known.regs to a (leads_as_owner (field_of code field) S.known.depth (fact_of S.known.regs a))).after
      → RegionsNext code facts (with_owner (read f.registers a) s (λ n. certain f (Some to) f.registers below s (load field (Own n) s)))
  load_own on to a field e g q after =
      let fact = fact_of S.known.regs a in
      let K = leads_as_owner (field_of code field) S.known.depth fact in
      let c = cell_by (field_of code field) (owner_kind fact) in
      let R : Effect = record { kept = K; after = S.known.regs } in
      let w = owner_found code facts P (cell_by (field_of code field)) a (is_usable S.known.depth fact) refl (cell_types code facts P S.known.depth false c to R e) (cell_present code facts P S.known.depth false c to R g) in
      let fz = (field_of_lawful code facts cert field w.kind w.cell w.cell_of).2 in
      gets_held code facts last P x on S.known.regs ms told x.fits.stack.0 to (seen false w.cell) false _ (after ∙ ap (λ c. (reads_cell S.known.depth false c to R).after) w.cell_is) (seen_held w.cell fz)
      (load_own_next code last f below s x.fits.home (hs code facts P x) ms x.fits.fits to a field w.name (owner_mark a w.kind w.via (cell_depths S.known.depth false c to R q)) w.is (struct_open field w.kind w.cell (Own w.name) w.name w.cell_of refl w.names))

  pub elem_own : goes_on instr ≡ true → (to a i : ℕ) (at : Spot)
      → (reads_own (item_of code) S.known.depth S.known.regs to a (reads S.known.regs i t.Int (leads_as_owner (item_of code) S.known.depth (fact_of S.known.regs a)))).kept.types ≡ true
      → (reads_own (item_of code) S.known.depth S.known.regs to a (reads S.known.regs i t.Int (leads_as_owner (item_of code) S.known.depth (fact_of S.known.regs a)))).kept.present ≡ true
      → (reads_own (item_of code) S.known.depth S.known.regs to a (reads S.known.regs i t.Int (leads_as_owner (item_of code) S.known.depth (fact_of S.known.regs a)))).kept.depths ≡ true
      → (row code facts P).after ≡ (reads_own (item_of code) S.known.depth S.known.regs to a (reads S.known.regs i t.Int (leads_as_owner (item_of code) S.known.depth (fact_of S.known.regs a)))).after
      → RegionsNext code facts (with_owner (read f.registers a) s (λ n. with_value (read f.registers i) s (λ u. answered f (Some to) f.registers at below s (of_living (element (Own n) u s)))))
  elem_own on to a i at e g q after =
      let fact = fact_of S.known.regs a in
      let L = leads_as_owner (item_of code) S.known.depth fact in
      let K = reads S.known.regs i t.Int L in
      let c = cell_by (item_of code) (owner_kind fact) in
      let R : Effect = record { kept = K; after = S.known.regs } in
      let types = and_parts L.types (has t.Int (fact_of S.known.regs i)) (cell_types code facts P S.known.depth false c to R e) in
      let there = and_parts L.present (is_there (fact_of S.known.regs i)) (cell_present code facts P S.known.depth false c to R g) in
      let w = owner_found code facts P (cell_by (item_of code)) a (is_usable S.known.depth fact) refl types.0 there.0 in
      let v = reg_value code s.world S.known.regs f.registers i t.Int (fits_here code facts P) types.1 there.1 in
      let fz = item_lawful code facts cert w.kind w.cell w.cell_of in
      gets_held code facts last P x on S.known.regs ms told x.fits.stack.0 to (seen false w.cell) false _ (after ∙ ap (λ c. (reads_cell S.known.depth false c to R).after) w.cell_is) (seen_held w.cell fz)
      (element_own_next code last f below s x.fits.home (hs code facts P x) ms x.fits.fits to a i w.name at v.0 (owner_mark a w.kind w.via (cell_depths S.known.depth false c to R q)) w.is v.1
      (array_open w.kind w.cell (Own w.name) w.name w.cell_of (cell_isolate S.known.depth c w.cell to R w.cell_is e) refl w.names))

  -- ---- through what is found alive

  abbrev SeesOut : How → Type 0
  SeesOut (how.Held a) = a < s.regions
  SeesOut (how.Seen a) = a ≤ s.regions
  SeesOut how.Waits = ⊥

  -- it gives `&imm` by itself, or it is a reference `&X` of this depth
  data Way (fact : RegFact) (m : Option How) : Type 0 where
    through : (h : How) → m ≡ Some h → SeesOut h → is_through_frozen S.known.depth fact ≡ true → Way fact m
    direct : m ≡ Some (how.Held s.regions) → (kind : Kind) (d : ℕ) (live : Bool) → fact ≡ Held (t.Ref kind) d live → is_through_frozen S.known.depth fact ≡ false → Way fact m

  way : (fact : RegFact) (m : Option How) (kind : Kind) → read_kind S.known.depth fact ≡ Some kind → is_readable S.known.depth fact ≡ true → IsTold (mark_of b fact) m → ((h : How) → m ≡ Some h → IsUnder s.regions s.regions h) → Way fact m
  way Empty m kind e r h low = let y : ⊥ = cc in absurd y
  way (Held (t.Frozen k) d live) m kind e r h low = through (how.Seen (b + d)) h (low (how.Seen (b + d)) h) refl
  way (Held (t.Own k) d live) m kind e r h low = from (nat_lt d S.known.depth) refl e
    where
      from : (lt : Bool) → nat_lt d S.known.depth ≡ lt → (if lt then Some k else None) ≡ Some kind → Way (Held (t.Own k) d live) m
      from true q e = through (how.Held (b + d)) h (let y : d < S.known.depth = grind arith in let z = deep_here code facts P x in omega (arith, y, z)) q
      from false q e = let y : ⊥ = cc in absurd y
  way (Held (t.Iso k) d live) m kind e r h low = from (nat_lt d S.known.depth) refl e
    where
      from : (lt : Bool) → nat_lt d S.known.depth ≡ lt → (if lt then Some k else None) ≡ Some kind → Way (Held (t.Iso k) d live) m
      from true q e = through (how.Held (b + d)) h (let y : d < S.known.depth = grind arith in let z = deep_here code facts P x in omega (arith, y, z)) q
      from false q e = let y : ⊥ = cc in absurd y
  way (Held (t.Ref k) d live) m kind e r h low = from (nat_lt d S.known.depth) refl
    where
      from : (lt : Bool) → nat_lt d S.known.depth ≡ lt → Way (Held (t.Ref k) d live) m
      from true q = through (how.Held (b + d)) h (let y : d < S.known.depth = grind arith in let z = deep_here code facts P x in omega (arith, y, z)) q
      from false q =
          let le : nat_le d S.known.depth ≡ true = r in
          let same : d ≡ S.known.depth = grind arith in
          direct (h ∙ ap (λ a. Some (how.Held a)) (ap (λ d. b + d) same ∙ deep_here code facts P x)) k d live refl q
  way (Held t.Void d live) m kind e r h low = let y : ⊥ = cc in absurd y
  way (Held t.Int d live) m kind e r h low = let y : ⊥ = cc in absurd y
  way (Held t.Truth d live) m kind e r h low = let y : ⊥ = cc in absurd y
  way (Held t.Text d live) m kind e r h low = let y : ⊥ = cc in absurd y

  pub found_told : (a : ℕ) → Told b (finds_alive S.known.depth S.known.regs a) ms
  found_told a = told_same b S.known.regs ms a (found_alive S.known.depth (fact_of S.known.regs a)) (from (fact_of S.known.regs a) (told.each a)) told
    where
      from : (fact : RegFact) → IsTold (mark_of b fact) (mark ms a) → IsTold (mark_of b (found_alive S.known.depth fact)) (mark ms a)
      from Empty h = tt
      from (Held ty d live) h = h

  -- a reference's value
  pub no_iso_at : (fact : RegFact) (kind : Kind) (d : ℕ) (live : Bool) (v : Value) → fact ≡ Held (t.Ref kind) d live → Holds code s.world fact (Some v) → IsNoIso v
  no_iso_at fact kind d live v is h = from v (let g = subst (λ fact. Holds code s.world fact (Some v)) is h in subst (λ v. value_has (t.Ref kind) v ≡ true) (some_is v g.0 g.1) g.2.shape)
    where
      from : (v : Value) → value_has (t.Ref kind) v ≡ true → IsNoIso v
      from (Ref n) e = tt
      from (Iso n) e = let y : ⊥ = cc in absurd y
      from _ e = let y : ⊥ = cc in absurd y

  pub load_found : goes_on instr ≡ true → (to a field : ℕ) (at : Spot)
      → (reads_found (field_of code field) S.known.depth S.known.regs to a (leads_to_read (field_of code field) S.known.depth (fact_of S.known.regs a))).kept.types ≡ true
      → (reads_found (field_of code field) S.known.depth S.known.regs to a (leads_to_read (field_of code field) S.known.depth (fact_of S.known.regs a))).kept.present ≡ true
      → (reads_found (field_of code field) S.known.depth S.known.regs to a (leads_to_read (field_of code field) S.known.depth (fact_of S.known.regs a))).kept.depths ≡ true
      → (row code facts P).after ≡ (reads_found (field_of code field) S.known.depth S.known.regs to a (leads_to_read (field_of code field) S.known.depth (fact_of S.known.regs a))).after
      → RegionsNext code facts (with_value (read f.registers a) s (λ v. answered f (Some to) f.registers at below s (load field v s)))
  load_found on to a field at e g q after = by (way fact (mark ms a) w.kind w.via_kind (cell_depths S.known.depth frozen c to R q) (told.each a) (λ h m. mark_low s.regions a ms h x.fits.stack.0 m))
    where
      fact : RegFact
      fact = fact_of S.known.regs a

      frozen : Bool
      frozen = is_through_frozen S.known.depth (fact_of S.known.regs a)

      c : Option Ty
      c = cell_by (field_of code field) (read_kind S.known.depth (fact_of S.known.regs a))

      R : Effect
      R = record { kept = leads_to_read (field_of code field) S.known.depth (fact_of S.known.regs a); after = finds_alive S.known.depth S.known.regs a }

      w : Led code s.world (read_kind S.known.depth) (cell_by (field_of code field)) (fact_of S.known.regs a) (read f.registers a)
      w = read_found code facts P (read_kind S.known.depth) (cell_by (field_of code field)) a (is_readable S.known.depth (fact_of S.known.regs a)) (follows_read S.known.depth) refl
          (cell_types code facts P S.known.depth (is_through_frozen S.known.depth (fact_of S.known.regs a)) (cell_by (field_of code field) (read_kind S.known.depth (fact_of S.known.regs a))) to (record { kept = leads_to_read (field_of code field) S.known.depth (fact_of S.known.regs a); after = finds_alive S.known.depth S.known.regs a }) e)
          (cell_present code facts P S.known.depth (is_through_frozen S.known.depth (fact_of S.known.regs a)) (cell_by (field_of code field) (read_kind S.known.depth (fact_of S.known.regs a))) to (record { kept = leads_to_read (field_of code field) S.known.depth (fact_of S.known.regs a); after = finds_alive S.known.depth S.known.regs a }) g)

      by : Way fact (mark ms a) → RegionsNext code facts (with_value (read f.registers a) s (λ v. answered f (Some to) f.registers at below s (load field v s)))
      by (through h m le fz) =
          gets_seen code facts last P x on (finds_alive S.known.depth S.known.regs a) ms (found_told a) x.fits.stack.0 to (seen true w.cell) (true && is_owned w.cell) _
          (after ∙ ap (λ c. (reads_cell S.known.depth frozen c to R).after) w.cell_is ∙ ap (λ fz. slice_set (finds_alive S.known.depth S.known.regs a) to (Held (seen fz w.cell) S.known.depth (fz && is_owned w.cell))) fz) (seen_through w.cell)
          (load_seen_next code last f below s x.fits.home (hs code facts P x) ms x.fits.fits to a field at h w.value m le w.reads)
      by (direct m kind d live is fz) =
          gets_held code facts last P x on (finds_alive S.known.depth S.known.regs a) ms (found_told a) x.fits.stack.0 to (seen false w.cell) (false && is_owned w.cell) _
          (after ∙ ap (λ c. (reads_cell S.known.depth frozen c to R).after) w.cell_is ∙ ap (λ fz. slice_set (finds_alive S.known.depth S.known.regs a) to (Held (seen fz w.cell) S.known.depth (fz && is_owned w.cell))) fz) (seen_held w.cell (field_of_lawful code facts cert field w.kind w.cell w.cell_of).2)
          (load_held_next code last f below s x.fits.home (hs code facts P x) ms x.fits.fits to a field at w.value m (no_iso_at fact kind d live w.value is (subst (Holds code s.world fact) w.reads ((fits_here code facts P).each a))) w.reads
          (struct_open field w.kind w.cell w.value w.name w.cell_of w.named w.names))

  pub elem_found : goes_on instr ≡ true → (to a i : ℕ) (at : Spot)
      → (reads_found (item_of code) S.known.depth S.known.regs to a (reads S.known.regs i t.Int (leads_to_read (item_of code) S.known.depth (fact_of S.known.regs a)))).kept.types ≡ true
      → (reads_found (item_of code) S.known.depth S.known.regs to a (reads S.known.regs i t.Int (leads_to_read (item_of code) S.known.depth (fact_of S.known.regs a)))).kept.present ≡ true
      → (reads_found (item_of code) S.known.depth S.known.regs to a (reads S.known.regs i t.Int (leads_to_read (item_of code) S.known.depth (fact_of S.known.regs a)))).kept.depths ≡ true
      → (row code facts P).after ≡ (reads_found (item_of code) S.known.depth S.known.regs to a (reads S.known.regs i t.Int (leads_to_read (item_of code) S.known.depth (fact_of S.known.regs a)))).after
      → RegionsNext code facts (with_value (read f.registers a) s (λ v. with_value (read f.registers i) s (λ u. answered f (Some to) f.registers at below s (element v u s))))
  elem_found on to a i at e g q after = by (way fact (mark ms a) w.kind w.via_kind (cell_depths S.known.depth frozen c to R q) (told.each a) (λ h m. mark_low s.regions a ms h x.fits.stack.0 m))
    where
      fact : RegFact
      fact = fact_of S.known.regs a

      frozen : Bool
      frozen = is_through_frozen S.known.depth (fact_of S.known.regs a)

      c : Option Ty
      c = cell_by (item_of code) (read_kind S.known.depth (fact_of S.known.regs a))

      R : Effect
      R = record { kept = reads S.known.regs i t.Int (leads_to_read (item_of code) S.known.depth (fact_of S.known.regs a)); after = finds_alive S.known.depth S.known.regs a }

      types : ((leads_to_read (item_of code) S.known.depth (fact_of S.known.regs a)).types ≡ true) × (has t.Int (fact_of S.known.regs i) ≡ true)
      types = and_parts (leads_to_read (item_of code) S.known.depth (fact_of S.known.regs a)).types (has t.Int (fact_of S.known.regs i))
          (cell_types code facts P S.known.depth (is_through_frozen S.known.depth (fact_of S.known.regs a)) (cell_by (item_of code) (read_kind S.known.depth (fact_of S.known.regs a))) to (record { kept = reads S.known.regs i t.Int (leads_to_read (item_of code) S.known.depth (fact_of S.known.regs a)); after = finds_alive S.known.depth S.known.regs a }) e)

      there : ((leads_to_read (item_of code) S.known.depth (fact_of S.known.regs a)).present ≡ true) × (is_there (fact_of S.known.regs i) ≡ true)
      there = and_parts (leads_to_read (item_of code) S.known.depth (fact_of S.known.regs a)).present (is_there (fact_of S.known.regs i))
          (cell_present code facts P S.known.depth (is_through_frozen S.known.depth (fact_of S.known.regs a)) (cell_by (item_of code) (read_kind S.known.depth (fact_of S.known.regs a))) to (record { kept = reads S.known.regs i t.Int (leads_to_read (item_of code) S.known.depth (fact_of S.known.regs a)); after = finds_alive S.known.depth S.known.regs a }) g)

      w : Led code s.world (read_kind S.known.depth) (cell_by (item_of code)) (fact_of S.known.regs a) (read f.registers a)
      w = read_found code facts P (read_kind S.known.depth) (cell_by (item_of code)) a (is_readable S.known.depth (fact_of S.known.regs a)) (follows_read S.known.depth) refl types.0 there.0

      index : (v : Value) × (read f.registers i ≡ Some v) × Has code s.world t.Int v
      index = reg_value code s.world S.known.regs f.registers i t.Int (fits_here code facts P) types.1 there.1

      plain_cell : is_through_frozen S.known.depth (fact_of S.known.regs a) ≡ false → is_isolate w.cell ≡ false
      plain_cell fz = cell_isolate S.known.depth c w.cell to R w.cell_is (subst (λ fz. (reads_cell S.known.depth fz c to R).kept.types ≡ true) fz e)

      by : Way fact (mark ms a) → RegionsNext code facts (with_value (read f.registers a) s (λ v. with_value (read f.registers i) s (λ u. answered f (Some to) f.registers at below s (element v u s))))
      by (through h m le fz) =
          gets_seen code facts last P x on (finds_alive S.known.depth S.known.regs a) ms (found_told a) x.fits.stack.0 to (seen true w.cell) (true && is_owned w.cell) _
          (after ∙ ap (λ c. (reads_cell S.known.depth frozen c to R).after) w.cell_is ∙ ap (λ fz. slice_set (finds_alive S.known.depth S.known.regs a) to (Held (seen fz w.cell) S.known.depth (fz && is_owned w.cell))) fz) (seen_through w.cell)
          (element_seen_next code last f below s x.fits.home (hs code facts P x) ms x.fits.fits to a i at h w.value index.0 m le w.reads index.1)
      by (direct m kind d live is fz) =
          gets_held code facts last P x on (finds_alive S.known.depth S.known.regs a) ms (found_told a) x.fits.stack.0 to (seen false w.cell) (false && is_owned w.cell) _
          (after ∙ ap (λ c. (reads_cell S.known.depth frozen c to R).after) w.cell_is ∙ ap (λ fz. slice_set (finds_alive S.known.depth S.known.regs a) to (Held (seen fz w.cell) S.known.depth (fz && is_owned w.cell))) fz) (seen_held w.cell (item_lawful code facts cert w.kind w.cell w.cell_of))
          (element_held_next code last f below s x.fits.home (hs code facts P x) ms x.fits.fits to a i at w.value index.0 m (no_iso_at fact kind d live w.value is (subst (Holds code s.world fact) w.reads ((fits_here code facts P).each a))) w.reads index.1
          (array_open w.kind w.cell w.value w.name w.cell_of (plain_cell fz) w.named w.names))

  pub measures_found : goes_on instr ≡ true → (to a : ℕ) (at : Spot) → (row code facts P).after ≡ slice_set (finds_alive S.known.depth S.known.regs a) to (Held t.Int S.known.depth false)
      → RegionsNext code facts (with_value (read f.registers a) s (λ v. answered f (Some to) f.registers at below s (array_length v s)))
  measures_found on to a at after = any_value code facts s (read f.registers a) _ (λ v. gets_plain code facts last P x on (finds_alive S.known.depth S.known.regs a) (found_told a) to t.Int _ after refl
      (answers_next code last f below s x.fits.home (hs code facts P x) ms x.fits.fits to at (array_length v s) (length_out code last f below s x.fits.home (hs code facts P x) ms x.fits.fits v)))
