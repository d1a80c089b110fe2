-- An operand leads to an object, and a field or an element of it is read.
use Rattle.std.proofs.Common.{◌≡◌, ℕ, zero, suc, ◌+◌, ◌≤◌, pos, negsuc, List, [], ◌∷◌, length, Option, Some, None, Bool, true, false, not, ◌&&◌, ◌||◌, refl, sym, ap, ◌∙◌, subst, arith}
use Rattle.std.specs.Prelude.{slice_get, slice_set}
use Rattle.std.proofs.lemmas.Bool.{and_parts}
use Rattle.vale_state_spec.specs.State.{State, Answer, gives, traps}
use Rattle.vale_state_spec.specs.State.{with_object, element, element_at, element_in, changed, lent, load, field_in, look_up, found_or_dead, on_object, name_of}
use Rattle.vale_state_spec.specs.World.{Value, Int, Own, Object, written}
use Rattle.vale_base.specs.declared.name.Kind.{Kind}
use Rattle.vale_base.specs.declared.spot.Spot.{Spot}
use Rattle.vale_base.specs.declared.trap.TrapKind.TheVariants.{IndexOutOfRange}
use Rattle.vale_code.specs.Frames.{Running, on}
use Rattle.vale_code.specs.Instructions.{onward, with_value, with_owner, of_living, array_length, answered, certain}
use Rattle.vale_code.specs.Parts.{Parts}
use Rattle.vale_code.specs.Registers.{Registers, read, put, kept}
use Rattle.vale_code.specs.declared.ty.Ty.{Ty}
use Rattle.vale_code.specs.declared.ty.Ty.TheVariants as t
use Rattle.vale_cert.specs.Certificate.{Certified}
use Rattle.vale_cert.specs.Known as known
use Rattle.vale_cert.specs.Known.{fact_of, has, is_there}
use Rattle.vale_cert.specs.Objects.{field_of, item_of, cell_by, owner_kind, read_kind, is_through_frozen, found_alive, seen}
use Rattle.vale_cert.specs.Rules.{reads_own, reads_found, reads_cell, finds_alive, leads, leads_as_owner, leads_to_read, is_usable, is_readable, Effect, reads}
use Rattle.vale_cert.specs.Types.{is_owned, is_isolate}
use Rattle.vale_cert.specs.Walk.{after, goes_on}
use Rattle.vale_cert.specs.declared.facts.FuncFacts.{FuncFacts}
use Rattle.vale_cert.specs.declared.facts.RegFact.{RegFact}
use Rattle.vale_cert.specs.declared.facts.RegFact.TheVariants.{Empty, Held}
use Rattle.vale_cert.specs.declared.rules.Kept.{Kept}
use Rattle.vale_cert.proofs.Cells.{seen_has, cell_there, each_at, struct_at, array_at, written_fits, Follows, Led, led, follows_owner, follows_read}
use Rattle.vale_cert.proofs.Fit.{value_has, NameFits, Has, Holds, RegsFit, ObjectFits, regs_later, has_plain}
use Rattle.vale_cert.proofs.Heap.{object_at, later_written, same_self, own_in, in_regs, in_values, living_is, put_owns, world_set, alive_written}
use Rattle.vale_cert.proofs.Standing.{NextFits, a_trap}
use Rattle.vale_cert.proofs.Going.{Place, fits_here, goes, reading, results, row}

module _ (code : Parts) (facts : List FuncFacts) (P : Place code facts) where
  open P use {ty, f, below, s, F, under_it, heap, owned, instr, instrs, here, S}

  -- ---- objects

  -- a register of which nothing else is known than that it leads to what lives
  set_holds : (K : List RegFact) (regs : Registers) (a r : ℕ) (fact : RegFact) → Holds code s.world fact (read regs a) → ((q : ℕ) → Holds code s.world (fact_of K q) (read regs q)) → Holds code s.world (fact_of (slice_set K a fact) r) (read regs r)
  set_holds [] regs a r fact h fits = tt
  set_holds (x ∷ K) regs zero zero fact h fits = h
  set_holds (x ∷ K) regs zero (suc r) fact h fits = fits (suc r)
  set_holds (x ∷ K) regs (suc a) zero fact h fits = fits zero
  set_holds (x ∷ K) [] (suc a) (suc r) fact h fits = set_holds K [] a r fact h (λ q. fits (suc q))
  set_holds (x ∷ K) (y ∷ regs) (suc a) (suc r) fact h fits = set_holds K regs a r fact h (λ q. fits (suc q))

  found_holds : (depth : ℕ) (fact : RegFact) (o : Option Value) → Holds code s.world fact o → Holds code s.world (found_alive depth fact) o
  found_holds depth Empty o h = tt
  found_holds depth (Held u d l) o h = h

  pub found_fits : (a : ℕ) → RegsFit code s.world (finds_alive S.known.depth S.known.regs a) f.registers
  found_fits a = record { each = λ r. set_holds S.known.regs f.registers a r (found_alive S.known.depth (fact_of S.known.regs a)) (found_holds S.known.depth (fact_of S.known.regs a) (read f.registers a) ((fits_here code facts P).each a)) (fits_here code facts P).each }

  owner_operand : (fact : RegFact) (o : Option Value) (kind : Kind) → owner_kind fact ≡ Some kind → Holds code s.world fact o → (n : ℕ) × (o ≡ Some (Own n)) × Has code s.world (t.Own kind) (Own n)
  owner_operand (Held (t.Own q) d l) o kind e h = from h.0 h.1 h.2 h.2.shape
    where
      from : (v : Value) → o ≡ Some v → Has code s.world (t.Own q) v → value_has (t.Own q) v ≡ true → (n : ℕ) × (o ≡ Some (Own n)) × Has code s.world (t.Own kind) (Own n)
      from (Own n) g has y = let same_kind : q ≡ kind = cc in (n, g, subst (λ k. Has code s.world (t.Own k) (Own n)) same_kind has)
      from _ g has y = let x : ⊥ = cc in absurd x
  owner_operand _ o kind e h = let x : ⊥ = cc in absurd x

  -- an owner in a register leads to a living object
  lives_there : (a n : ℕ) → read f.registers a ≡ Some (Own n) → (o : Object) × (object_at s.world n ≡ Some o)
  lives_there a n e = let x = owned n in let y = put_owns n f.registers a None in let z = ap (λ o. own_in n o) e in let one = same_self n in living_is n s.world (omega (arith, x, y, z, one))

  -- the owner that an operand is, with the type of a cell of its object
  pub record OwnerFound {A : Type 0} (cells : Option Kind → Option A) (a : ℕ) : Type 0 where
    pub kind : Kind
    pub name : ℕ
    pub object : Object
    pub cell : A
    pub is : read f.registers a ≡ Some (Own name)
    pub names : NameFits code s.world kind name
    pub lives : object_at s.world name ≡ Some object
    pub via : owner_kind (fact_of S.known.regs a) ≡ Some kind
    pub cell_of : cells (Some kind) ≡ Some cell
    pub cell_is : cells (owner_kind (fact_of S.known.regs a)) ≡ Some cell

  pub owner_found : {A : Type 0} (cells : Option Kind → Option A) (a : ℕ) (usable : Bool) → cells None ≡ None → (leads usable (fact_of S.known.regs a) (cells (owner_kind (fact_of S.known.regs a)))).types ≡ true → is_there (fact_of S.known.regs a) ≡ true → OwnerFound cells a
  owner_found cells a usable none e there =
      let l = led code s.world owner_kind cells (fact_of S.known.regs a) (read f.registers a) follows_owner none e there ((fits_here code facts P).each a) in
      let v = owner_operand (fact_of S.known.regs a) (read f.registers a) l.kind l.via_kind ((fits_here code facts P).each a) in
      let o = lives_there a v.0 v.1 in
      record { kind = l.kind; name = v.0; object = o.0; cell = l.cell; is = v.1; names = v.2.leads l.kind v.0 refl refl; lives = o.1; via = l.via_kind; cell_of = l.cell_of; cell_is = l.cell_is }

  -- what was written of an object that lives
  pub writes : goes_on instr ≡ true → (n : ℕ) (o : Object) (vs : List Value) (regs : Registers) → object_at s.world n ≡ Some o → ObjectFits code s.world (record o { values = vs }) → RegsFit code s.world (row code facts P).after regs
      → ((m : ℕ) → in_regs m regs + in_values m vs ≤ in_regs m f.registers + in_values m o.values) → NextFits code facts (onward f regs below (changed n o vs s))
  writes on n o vs regs lives new fits fewer =
      let later = later_written s.world n o vs lives in
      goes code facts P on regs (changed n o vs s) (regs_later code s.world (written s.world n (record o { values = vs })) (row code facts P).after regs later fits) later
      (written_fits code s.world n o vs later heap new)
      (λ m. let x = fewer m in let y = owned m in let z = world_set m s.world n o (Some (record o { values = vs })) lives in let q = alive_written m s.world n o (record o { values = vs }) lives in omega (arith, x, y, z, q))

  -- ---- what is read of a cell

  pub cell_types : (depth : ℕ) (frozen : Bool) (c : Option Ty) (to : ℕ) (R : Effect) → (reads_cell depth frozen c to R).kept.types ≡ true → R.kept.types ≡ true
  cell_types depth frozen None to R e = e
  cell_types depth frozen (Some u) to R e = (and_parts R.kept.types (frozen || not (is_isolate u)) e).0

  pub cell_present : (depth : ℕ) (frozen : Bool) (c : Option Ty) (to : ℕ) (R : Effect) → (reads_cell depth frozen c to R).kept.present ≡ true → R.kept.present ≡ true
  cell_present depth frozen None to R e = e
  cell_present depth frozen (Some u) to R e = (and_parts R.kept.present (known.is_free (fact_of R.after to)) e).0

  -- a value that was read of a cell
  sees : goes_on instr ≡ true → (K : List RegFact) → RegsFit code s.world K f.registers → (frozen : Bool) (c : Option Ty) (u : Ty) (to : ℕ) (kept : Kept) (v : Value) → c ≡ Some u
      → (reads_cell S.known.depth frozen c to (record { kept = kept; after = K })).kept.types ≡ true → (row code facts P).after ≡ (reads_cell S.known.depth frozen c to (record { kept = kept; after = K })).after
      → Has code s.world u v → NextFits code facts (onward f (put f.registers to (Some (lent v))) below s)
  sees on K fits frozen c u to kept v is e after has =
      let ok : (reads_cell S.known.depth frozen (Some u) to (record { kept = kept; after = K })).kept.types ≡ true = subst (λ c. (reads_cell S.known.depth frozen c to (record { kept = kept; after = K })).kept.types ≡ true) is e in
      let seen_it = seen_has code s.world frozen u v (and_parts kept.types (frozen || not (is_isolate u)) ok).1 has in
      results code facts P on K fits (seen frozen u) to S.known.depth (frozen && is_owned u) (lent v) s (after ∙ ap (λ c. (reads_cell S.known.depth frozen c to (record { kept = kept; after = K })).after) is) seen_it.0 seen_it.1 refl

  pub load_own : Certified code facts → goes_on instr ≡ true → (to a field : ℕ)
      → (reads_own (field_of code field) S.known.depth S.known.regs to a (leads_as_owner (field_of code field) S.known.depth (fact_of S.known.regs a))).kept.types ≡ true
      → (reads_own (field_of code field) S.known.depth S.known.regs to a (leads_as_owner (field_of code field) S.known.depth (fact_of S.known.regs a))).kept.present ≡ true
      → (row code facts P).after ≡ (reads_own (field_of code field) S.known.depth S.known.regs to a (leads_as_owner (field_of code field) S.known.depth (fact_of S.known.regs a))).after
      → NextFits code facts (with_owner (read f.registers a) s (λ n. certain f (Some to) f.registers below s (load field (Own n) s)))
  load_own cert on to a field e g after =
      let K = leads_as_owner (field_of code field) S.known.depth (fact_of S.known.regs a) in
      let c = cell_by (field_of code field) (owner_kind (fact_of S.known.regs a)) in
      let R : Effect = record { kept = K; after = S.known.regs } in
      let w = owner_found (cell_by (field_of code field)) a (is_usable S.known.depth (fact_of S.known.regs a)) refl (cell_types S.known.depth false c to R e) (cell_present S.known.depth false c to R g) in
      let at = struct_at code facts cert s.world heap field w.kind w.cell w.name w.object w.cell_of w.names w.lives in
      let v = cell_there code s.world at.tys w.object.values field w.cell at.values at.at_field in
      subst (λ o. NextFits code facts (with_owner o s (λ n. certain f (Some to) f.registers below s (load field (Own n) s)))) (sym w.is)
      (subst (λ x. NextFits code facts (certain f (Some to) f.registers below s (on_object (found_or_dead w.name x) (λ n o. field_in (slice_get o.values field) s)))) (sym w.lives)
      (subst (λ x. NextFits code facts (certain f (Some to) f.registers below s (field_in x s))) (sym v.1)
      (sees on S.known.regs (fits_here code facts P) false c w.cell to K v.0 w.cell_is e after v.2)))

  -- ---- what is read through a reference

  pub read_found : {A : Type 0} (via : RegFact → Option Kind) (cells : Option Kind → Option A) (a : ℕ) (usable : Bool) → Follows via → cells None ≡ None → (leads usable (fact_of S.known.regs a) (cells (via (fact_of S.known.regs a)))).types ≡ true → is_there (fact_of S.known.regs a) ≡ true → Led code s.world via cells (fact_of S.known.regs a) (read f.registers a)
  read_found via cells a usable follows none e there = led code s.world via cells (fact_of S.known.regs a) (read f.registers a) follows none e there ((fits_here code facts P).each a)

  -- a step on an object that may be dead
  pub on_name : (to : Option ℕ) (regs : Registers) (at : Spot) (v : Value) (n : ℕ) (go : ℕ → Object → Answer) → name_of v ≡ Some n → ((o : Object) → object_at s.world n ≡ Some o → NextFits code facts (answered f to regs at below s (go n o)))
      → NextFits code facts (answered f to regs at below s (with_object v s go))
  on_name to regs at v n go e each = subst (λ x. NextFits code facts (answered f to regs at below s (on_object (look_up x s) go))) (sym e) (from (object_at s.world n) refl)
    where
      from : (x : Option Object) → object_at s.world n ≡ x → NextFits code facts (answered f to regs at below s (on_object (found_or_dead n x) go))
      from None q = a_trap code facts _ at (Running f ∷ below) s
      from (Some o) q = each o q

  pub load_found : Certified code facts → goes_on instr ≡ true → (to a field : ℕ) (at : Spot)
      → (reads_found (field_of code field) S.known.depth S.known.regs to a (leads_to_read (field_of code field) S.known.depth (fact_of S.known.regs a))).kept.types ≡ true
      → (reads_found (field_of code field) S.known.depth S.known.regs to a (leads_to_read (field_of code field) S.known.depth (fact_of S.known.regs a))).kept.present ≡ true
      → (row code facts P).after ≡ (reads_found (field_of code field) S.known.depth S.known.regs to a (leads_to_read (field_of code field) S.known.depth (fact_of S.known.regs a))).after
      → NextFits code facts (with_value (read f.registers a) s (λ v. answered f (Some to) f.registers at below s (load field v s)))
  load_found cert on to a field at e g after =
      let fact = fact_of S.known.regs a in
      let frozen = is_through_frozen S.known.depth fact in
      let K = leads_to_read (field_of code field) S.known.depth fact in
      let c = cell_by (field_of code field) (read_kind S.known.depth fact) in
      let R : Effect = record { kept = K; after = finds_alive S.known.depth S.known.regs a } in
      let w = read_found (read_kind S.known.depth) (cell_by (field_of code field)) a (is_readable S.known.depth fact) (follows_read S.known.depth) refl (cell_types S.known.depth frozen c to R e) (cell_present S.known.depth frozen c to R g) in
      subst (λ o. NextFits code facts (with_value o s (λ v. answered f (Some to) f.registers at below s (load field v s)))) (sym w.reads)
      (on_name (Some to) f.registers at w.value w.name (λ n o. field_in (slice_get o.values field) s) w.named (λ o lives.
      let st = struct_at code facts cert s.world heap field w.kind w.cell w.name o w.cell_of w.names lives in
      let v = cell_there code s.world st.tys o.values field w.cell st.values st.at_field in
      subst (λ x. NextFits code facts (answered f (Some to) f.registers at below s (field_in x s))) (sym v.1)
      (sees on (finds_alive S.known.depth S.known.regs a) (found_fits a) frozen c w.cell to K v.0 w.cell_is e after v.2)))

  pub len_found : Certified code facts → goes_on instr ≡ true → (to a : ℕ) (at : Spot) → (leads_to_read (item_of code) S.known.depth (fact_of S.known.regs a)).types ≡ true → is_there (fact_of S.known.regs a) ≡ true
      → (row code facts P).after ≡ slice_set (finds_alive S.known.depth S.known.regs a) to (Held t.Int S.known.depth false)
      → NextFits code facts (with_value (read f.registers a) s (λ v. answered f (Some to) f.registers at below s (array_length v s)))
  len_found cert on to a at e there after =
      let fact = fact_of S.known.regs a in
      let w = read_found (read_kind S.known.depth) (cell_by (item_of code)) a (is_readable S.known.depth fact) (follows_read S.known.depth) refl e there in
      subst (λ o. NextFits code facts (with_value o s (λ v. answered f (Some to) f.registers at below s (array_length v s)))) (sym w.reads)
      (on_name (Some to) f.registers at w.value w.name (λ n o. gives (Some (Int (pos (length o.values)))) s) w.named (λ o lives.
      results code facts P on (finds_alive S.known.depth S.known.regs a) (found_fits a) t.Int to S.known.depth false (Int (pos (length o.values))) s after (has_plain code s.world t.Int (Int (pos (length o.values))) refl refl) (λ n. refl) refl))

  -- an element at an index: it is there, or the run traps
  element_fits : (through : Answer → Answer) → ((v : Value) (u : State) → through (gives (Some v) u) ≡ gives (Some v) u) → through (traps IndexOutOfRange) ≡ traps IndexOutOfRange
      → (to : ℕ) (at : Spot) (u : Value) (o : Object) → value_has t.Int u ≡ true → ((i : ℕ) (v : Value) → slice_get o.values i ≡ Some v → NextFits code facts (onward f (put f.registers to (Some (lent v))) below s))
      → NextFits code facts (answered f (Some to) f.registers at below s (through (element_at u o s)))
  element_fits through gives_same traps_same to at (Int (pos i)) o e each = from (slice_get o.values i) refl
    where
      from : (x : Option Value) → slice_get o.values i ≡ x → NextFits code facts (answered f (Some to) f.registers at below s (through (element_in x s)))
      from None q = subst (λ x. NextFits code facts (answered f (Some to) f.registers at below s x)) (sym traps_same) (a_trap code facts IndexOutOfRange at (Running f ∷ below) s)
      from (Some v) q = subst (λ x. NextFits code facts (answered f (Some to) f.registers at below s x)) (sym (gives_same (lent v) s)) (each i v q)
  element_fits through gives_same traps_same to at (Int (negsuc i)) o e each = subst (λ x. NextFits code facts (answered f (Some to) f.registers at below s x)) (sym traps_same) (a_trap code facts IndexOutOfRange at (Running f ∷ below) s)
  element_fits through gives_same traps_same to at _ o e each = let x : ⊥ = cc in absurd x

  pub elem_own : Certified code facts → goes_on instr ≡ true → (to a x : ℕ) (at : Spot)
      → (reads_own (item_of code) S.known.depth S.known.regs to a (reads S.known.regs x t.Int (leads_as_owner (item_of code) S.known.depth (fact_of S.known.regs a)))).kept.types ≡ true
      → (reads_own (item_of code) S.known.depth S.known.regs to a (reads S.known.regs x t.Int (leads_as_owner (item_of code) S.known.depth (fact_of S.known.regs a)))).kept.present ≡ true
      → (row code facts P).after ≡ (reads_own (item_of code) S.known.depth S.known.regs to a (reads S.known.regs x t.Int (leads_as_owner (item_of code) S.known.depth (fact_of S.known.regs a)))).after
      → NextFits code facts (with_owner (read f.registers a) s (λ n. with_value (read f.registers x) s (λ u. answered f (Some to) f.registers at below s (of_living (element (Own n) u s)))))
  elem_own cert on to a x at e g after =
      let fact = fact_of S.known.regs a in
      let L = leads_as_owner (item_of code) S.known.depth fact in
      let K = reads S.known.regs x t.Int L in
      let c = cell_by (item_of code) (owner_kind fact) in
      let R : Effect = record { kept = K; after = S.known.regs } in
      let types = and_parts L.types (has t.Int (fact_of S.known.regs x)) (cell_types S.known.depth false c to R e) in
      let there = and_parts L.present (is_there (fact_of S.known.regs x)) (cell_present S.known.depth false c to R g) in
      let w = owner_found (cell_by (item_of code)) a (is_usable S.known.depth fact) refl types.0 there.0 in
      let ar = array_at code facts cert s.world heap w.kind w.cell w.name w.object w.cell_of w.names w.lives in
      subst (λ o. NextFits code facts (with_owner o s (λ n. with_value (read f.registers x) s (λ u. answered f (Some to) f.registers at below s (of_living (element (Own n) u s)))))) (sym w.is)
      (reading code facts P x t.Int _ types.1 there.1 (λ u h.
      subst (λ y. NextFits code facts (answered f (Some to) f.registers at below s (of_living (on_object (found_or_dead w.name y) (λ n o. element_at u o s))))) (sym w.lives)
      (element_fits of_living (λ v u. refl) refl to at u w.object h.shape (λ i v q.
      sees on S.known.regs (fits_here code facts P) false c w.cell to K v w.cell_is e after (each_at code s.world w.cell w.object.values i v ar.values q)))))

  pub elem_found : Certified code facts → goes_on instr ≡ true → (to a x : ℕ) (at : Spot)
      → (reads_found (item_of code) S.known.depth S.known.regs to a (reads S.known.regs x t.Int (leads_to_read (item_of code) S.known.depth (fact_of S.known.regs a)))).kept.types ≡ true
      → (reads_found (item_of code) S.known.depth S.known.regs to a (reads S.known.regs x t.Int (leads_to_read (item_of code) S.known.depth (fact_of S.known.regs a)))).kept.present ≡ true
      → (row code facts P).after ≡ (reads_found (item_of code) S.known.depth S.known.regs to a (reads S.known.regs x t.Int (leads_to_read (item_of code) S.known.depth (fact_of S.known.regs a)))).after
      → NextFits code facts (with_value (read f.registers a) s (λ v. with_value (read f.registers x) s (λ u. answered f (Some to) f.registers at below s (element v u s))))
  elem_found cert on to a x at e g after =
      let fact = fact_of S.known.regs a in
      let frozen = is_through_frozen S.known.depth fact in
      let L = leads_to_read (item_of code) S.known.depth fact in
      let K = reads S.known.regs x t.Int L in
      let c = cell_by (item_of code) (read_kind S.known.depth fact) in
      let R : Effect = record { kept = K; after = finds_alive S.known.depth S.known.regs a } in
      let types = and_parts L.types (has t.Int (fact_of S.known.regs x)) (cell_types S.known.depth frozen c to R e) in
      let there = and_parts L.present (is_there (fact_of S.known.regs x)) (cell_present S.known.depth frozen c to R g) in
      let w = read_found (read_kind S.known.depth) (cell_by (item_of code)) a (is_readable S.known.depth fact) (follows_read S.known.depth) refl types.0 there.0 in
      subst (λ o. NextFits code facts (with_value o s (λ v. with_value (read f.registers x) s (λ u. answered f (Some to) f.registers at below s (element v u s))))) (sym w.reads)
      (reading code facts P x t.Int _ types.1 there.1 (λ u h.
      on_name (Some to) f.registers at w.value w.name (λ n o. element_at u o s) w.named (λ o lives.
      let ar = array_at code facts cert s.world heap w.kind w.cell w.name o w.cell_of w.names lives in
      element_fits (λ x. x) (λ v u. refl) refl to at u o h.shape (λ i v q.
      sees on (finds_alive S.known.depth S.known.regs a) (found_fits a) frozen c w.cell to K v w.cell_is e after (each_at code s.world w.cell o.values i v ar.values q)))))
