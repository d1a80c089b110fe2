-- A field or an element is swapped, and an element is pushed or popped.
use Rattle.std.proofs.Common.{◌≡◌, ℕ, pos, negsuc, List, [], ◌∷◌, ◌++◌, length, replicate, Option, Some, None, Bool, true, false, ◌&&◌, if◌then◌else◌, nat_lt, refl, sym, ap, ◌∙◌, subst, arith}
use Rattle.std.specs.Prelude.{slice_get, slice_set}
use Rattle.std.proofs.lemmas.Bool.{and_parts}
use Rattle.vale_base.specs.Limits.{width_limit}
use Rattle.vale_state_spec.specs.State.{State, Answer, gives, traps}
use Rattle.vale_state_spec.specs.State.{swap, swapped_in, swap_element, element_swapped_at, element_swapped_in, push, pop, popped, front_from, last_from, changed, found_or_dead, on_object}
use Rattle.vale_state_spec.specs.World.{Value, Int, Own, Object}
use Rattle.vale_base.specs.declared.spot.Spot.{Spot}
use Rattle.vale_base.specs.declared.trap.TrapKind.TheVariants.{IndexOutOfRange, ArrayTooLong, EmptyPop}
use Rattle.vale_code.specs.Frames.{Running, on}
use Rattle.vale_code.specs.Instructions.{onward, with_value, with_owner, of_living, answered, certain}
use Rattle.vale_code.specs.Parts.{Parts}
use Rattle.vale_code.specs.Registers.{Registers, read, put, kept}
use Rattle.vale_code.specs.declared.ty.Ty.{Ty}
use Rattle.vale_code.specs.declared.ty.Ty.TheVariants as t
use Rattle.vale_cert.specs.Certificate.{Certified}
use Rattle.vale_cert.specs.Known as known
use Rattle.vale_cert.specs.Known.{fact_of, has, is_there}
use Rattle.vale_cert.specs.Objects.{field_of, item_of, cell_by, owner_kind, reference_kind}
use Rattle.vale_cert.specs.Rules.{swaps, pushes, pops, leads_as_owner, leads_as_reference, is_usable, reads, after_passing}
use Rattle.vale_cert.specs.Walk.{after, goes_on}
use Rattle.vale_cert.specs.declared.facts.FuncFacts.{FuncFacts}
use Rattle.vale_cert.specs.declared.facts.RegFact.{RegFact}
use Rattle.vale_cert.specs.declared.facts.RegFact.TheVariants.{Held}
use Rattle.vale_cert.specs.declared.rules.Kept.{Kept}
use Rattle.vale_cert.proofs.Cells.{cell_there, cell_set, Each, to_each, each_at, each_set, each_append, each_front, front_owns, StructAt, ArrayAt, struct_at, array_at, follows_reference}
use Rattle.vale_cert.proofs.Fit.{value_has, Has, RegsFit, ObjectFits, put_fits}
use Rattle.vale_cert.proofs.Heap.{object_at, in_values, put_owns, values_set, values_append}
use Rattle.vale_cert.proofs.Arguments.{Took, took}
use Rattle.vale_cert.proofs.Standing.{NextFits, a_trap}
use Rattle.vale_cert.proofs.Going.{Place, fits_here, reading, row}
use Rattle.vale_cert.proofs.Reading.{on_name, owner_found, read_found, writes}

module _ (code : Parts) (facts : List FuncFacts) (P : Place code facts) where
  open P use {ty, f, below, s, F, under_it, heap, owned, instr, instrs, here, S}

  -- ---- what is written to a cell

  pub record SwapFound (u : Ty) (to b : ℕ) (after : List RegFact) : Type 0 where
    pub took_it : Took code s.world u S.known.regs b f.registers
    pub after_is : after ≡ slice_set (after_passing S.known.regs b u) to (Held u S.known.depth false)

  pub swap_types : (c : Option Ty) (to b : ℕ) (L : Kept) → (swaps S.known.depth S.known.regs c to b L).kept.types ≡ true → L.types ≡ true
  swap_types None to b L e = e
  swap_types (Some u) to b L e = (and_parts L.types (has u (fact_of S.known.regs b)) e).0

  pub swap_present : (c : Option Ty) (to b : ℕ) (L : Kept) → (swaps S.known.depth S.known.regs c to b L).kept.present ≡ true → L.present ≡ true
  swap_present None to b L e = e
  swap_present (Some u) to b L e = (and_parts L.present (is_there (fact_of S.known.regs b)) (and_parts (L.present && is_there (fact_of S.known.regs b)) (known.is_free (fact_of (after_passing S.known.regs b u) to)) e).0).0

  pub swap_found : (c : Option Ty) (u : Ty) (to b : ℕ) (L : Kept) → c ≡ Some u → (swaps S.known.depth S.known.regs c to b L).kept.types ≡ true → (swaps S.known.depth S.known.regs c to b L).kept.present ≡ true
      → (row code facts P).after ≡ (swaps S.known.depth S.known.regs c to b L).after → SwapFound u to b (row code facts P).after
  swap_found c u to b L is e g after =
      let types : (swaps S.known.depth S.known.regs (Some u) to b L).kept.types ≡ true = subst (λ c. (swaps S.known.depth S.known.regs c to b L).kept.types ≡ true) is e in
      let there : (swaps S.known.depth S.known.regs (Some u) to b L).kept.present ≡ true = subst (λ c. (swaps S.known.depth S.known.regs c to b L).kept.present ≡ true) is g in
      record {
        took_it = took code s.world u S.known.regs b f.registers (fits_here code facts P) (and_parts L.types (has u (fact_of S.known.regs b)) types).1
            (and_parts L.present (is_there (fact_of S.known.regs b)) (and_parts (L.present && is_there (fact_of S.known.regs b)) (known.is_free (fact_of (after_passing S.known.regs b u) to)) there).0).1;
        after_is = after ∙ ap (λ c. (swaps S.known.depth S.known.regs c to b L).after) is;
      }

  -- one value is swapped for another
  stores : goes_on instr ≡ true → (to b : ℕ) (u : Ty) (F : SwapFound u to b (row code facts P).after) (n : ℕ) (o : Object) (i : ℕ) (old : Value) → object_at s.world n ≡ Some o → slice_get o.values i ≡ Some old → Has code s.world u old
      → ObjectFits code s.world (record o { values = slice_set o.values i F.took_it.value }) → NextFits code facts (onward f (put (kept b F.took_it.value f.registers) to (Some old)) below (changed n o (slice_set o.values i F.took_it.value) s))
  stores on to b u F n o i old lives there has_old new =
      writes code facts P on n o (slice_set o.values i F.took_it.value) (put (kept b F.took_it.value f.registers) to (Some old)) lives new
      (subst (λ x. RegsFit code s.world x (put (kept b F.took_it.value f.registers) to (Some old))) (sym F.after_is)
      (put_fits code s.world (after_passing S.known.regs b u) (kept b F.took_it.value f.registers) to (Held u S.known.depth false) (Some old) (old, refl, has_old) F.took_it.fits))
      (λ m. let x = put_owns m (kept b F.took_it.value f.registers) to (Some old) in let y = F.took_it.owned m in let z = values_set m o.values i old F.took_it.value there in omega (arith, x, y, z))

  struct_written : (field : ℕ) (u : Ty) (o : Object) (new : Value) → StructAt code s.world field u o → Has code s.world u new → ObjectFits code s.world (record o { values = slice_set o.values field new })
  struct_written field u o new st h = record { tys = st.tys; cells = st.cells (length (slice_set o.values field new)); values = cell_set code s.world st.tys o.values field u new st.values st.at_field h }

  array_written : (item : Ty) (o : Object) (vs : List Value) → ArrayAt code s.world item o → Each code s.world item vs → ObjectFits code s.world (record o { values = vs })
  array_written item o vs ar h = record { tys = replicate (length vs) item; cells = ar.cells (length vs); values = to_each code s.world item vs h }

  pub swap_own : Certified code facts → goes_on instr ≡ true → (to a field b : ℕ)
      → (swaps S.known.depth S.known.regs (cell_by (field_of code field) (owner_kind (fact_of S.known.regs a))) to b (leads_as_owner (field_of code field) S.known.depth (fact_of S.known.regs a))).kept.types ≡ true
      → (swaps S.known.depth S.known.regs (cell_by (field_of code field) (owner_kind (fact_of S.known.regs a))) to b (leads_as_owner (field_of code field) S.known.depth (fact_of S.known.regs a))).kept.present ≡ true
      → (row code facts P).after ≡ (swaps S.known.depth S.known.regs (cell_by (field_of code field) (owner_kind (fact_of S.known.regs a))) to b (leads_as_owner (field_of code field) S.known.depth (fact_of S.known.regs a))).after
      → NextFits code facts (with_owner (read f.registers a) s (λ n. with_value (read f.registers b) s (λ new. certain f (Some to) (kept b new f.registers) below s (swap field (Own n) new s))))
  swap_own cert on to a field b e g after =
      let fact = fact_of S.known.regs a in
      let L = leads_as_owner (field_of code field) S.known.depth fact in
      let c = cell_by (field_of code field) (owner_kind fact) in
      let w = owner_found code facts P (cell_by (field_of code field)) a (is_usable S.known.depth fact) refl (swap_types c to b L e) (swap_present c to b L g) in
      let F = swap_found c w.cell to b L w.cell_is e g after in
      let st = struct_at code facts cert s.world heap field w.kind w.cell w.name w.object w.cell_of w.names w.lives in
      let old = cell_there code s.world st.tys w.object.values field w.cell st.values st.at_field in
      subst (λ o. NextFits code facts (with_owner o s (λ n. with_value (read f.registers b) s (λ new. certain f (Some to) (kept b new f.registers) below s (swap field (Own n) new s))))) (sym w.is)
      (subst (λ o. NextFits code facts (with_value o s (λ new. certain f (Some to) (kept b new f.registers) below s (swap field (Own w.name) new s)))) (sym F.took_it.is)
      (subst (λ x. NextFits code facts (certain f (Some to) (kept b F.took_it.value f.registers) below s (on_object (found_or_dead w.name x) (λ n o. swapped_in (slice_get o.values field) n o field F.took_it.value s)))) (sym w.lives)
      (subst (λ x. NextFits code facts (certain f (Some to) (kept b F.took_it.value f.registers) below s (swapped_in x w.name w.object field F.took_it.value s))) (sym old.1)
      (stores on to b w.cell F w.name w.object field old.0 w.lives old.1 old.2 (struct_written field w.cell w.object F.took_it.value st F.took_it.has)))))

  pub swap_found_at : Certified code facts → goes_on instr ≡ true → (to a field b : ℕ) (at : Spot)
      → (swaps S.known.depth S.known.regs (cell_by (field_of code field) (reference_kind (fact_of S.known.regs a))) to b (leads_as_reference (field_of code field) S.known.depth (fact_of S.known.regs a))).kept.types ≡ true
      → (swaps S.known.depth S.known.regs (cell_by (field_of code field) (reference_kind (fact_of S.known.regs a))) to b (leads_as_reference (field_of code field) S.known.depth (fact_of S.known.regs a))).kept.present ≡ true
      → (row code facts P).after ≡ (swaps S.known.depth S.known.regs (cell_by (field_of code field) (reference_kind (fact_of S.known.regs a))) to b (leads_as_reference (field_of code field) S.known.depth (fact_of S.known.regs a))).after
      → NextFits code facts (with_value (read f.registers a) s (λ v. with_value (read f.registers b) s (λ new. answered f (Some to) (kept b new f.registers) at below s (swap field v new s))))
  swap_found_at cert on to a field b at e g after =
      let fact = fact_of S.known.regs a in
      let L = leads_as_reference (field_of code field) S.known.depth fact in
      let c = cell_by (field_of code field) (reference_kind fact) in
      let w = read_found code facts P reference_kind (cell_by (field_of code field)) a (is_usable S.known.depth fact) follows_reference refl (swap_types c to b L e) (swap_present c to b L g) in
      let F = swap_found c w.cell to b L w.cell_is e g after in
      subst (λ o. NextFits code facts (with_value o s (λ v. with_value (read f.registers b) s (λ new. answered f (Some to) (kept b new f.registers) at below s (swap field v new s))))) (sym w.reads)
      (subst (λ o. NextFits code facts (with_value o s (λ new. answered f (Some to) (kept b new f.registers) at below s (swap field w.value new s)))) (sym F.took_it.is)
      (on_name code facts P (Some to) (kept b F.took_it.value f.registers) at w.value w.name (λ n o. swapped_in (slice_get o.values field) n o field F.took_it.value s) w.named (λ o lives.
      let st = struct_at code facts cert s.world heap field w.kind w.cell w.name o w.cell_of w.names lives in
      let old = cell_there code s.world st.tys o.values field w.cell st.values st.at_field in
      subst (λ x. NextFits code facts (answered f (Some to) (kept b F.took_it.value f.registers) at below s (swapped_in x w.name o field F.took_it.value s))) (sym old.1)
      (stores on to b w.cell F w.name o field old.0 lives old.1 old.2 (struct_written field w.cell o F.took_it.value st F.took_it.has)))))

  -- an element is swapped, or the run traps
  element_swaps : (through : Answer → Answer) → ((v : Value) (u : State) → through (gives (Some v) u) ≡ gives (Some v) u) → through (traps IndexOutOfRange) ≡ traps IndexOutOfRange
      → (to : ℕ) (regs : Registers) (at : Spot) (u : Value) (n : ℕ) (o : Object) (new : Value) → value_has t.Int u ≡ true
      → ((i : ℕ) (old : Value) → slice_get o.values i ≡ Some old → NextFits code facts (onward f (put regs to (Some old)) below (changed n o (slice_set o.values i new) s)))
      → NextFits code facts (answered f (Some to) regs at below s (through (element_swapped_at u n o new s)))
  element_swaps through gives_same traps_same to regs at (Int (pos i)) n o new e each = from (slice_get o.values i) refl
    where
      from : (x : Option Value) → slice_get o.values i ≡ x → NextFits code facts (answered f (Some to) regs at below s (through (element_swapped_in x n o i new s)))
      from None q = subst (λ x. NextFits code facts (answered f (Some to) regs at below s x)) (sym traps_same) (a_trap code facts IndexOutOfRange at (Running f ∷ below) s)
      from (Some v) q = subst (λ x. NextFits code facts (answered f (Some to) regs at below s x)) (sym (gives_same v (changed n o (slice_set o.values i new) s))) (each i v q)
  element_swaps through gives_same traps_same to regs at (Int (negsuc i)) n o new e each = subst (λ x. NextFits code facts (answered f (Some to) regs at below s x)) (sym traps_same) (a_trap code facts IndexOutOfRange at (Running f ∷ below) s)
  element_swaps through gives_same traps_same to regs at _ n o new e each = let x : ⊥ = cc in absurd x

  pub swap_element_own : Certified code facts → goes_on instr ≡ true → (to a x b : ℕ) (at : Spot)
      → (swaps S.known.depth S.known.regs (cell_by (item_of code) (owner_kind (fact_of S.known.regs a))) to b (reads S.known.regs x t.Int (leads_as_owner (item_of code) S.known.depth (fact_of S.known.regs a)))).kept.types ≡ true
      → (swaps S.known.depth S.known.regs (cell_by (item_of code) (owner_kind (fact_of S.known.regs a))) to b (reads S.known.regs x t.Int (leads_as_owner (item_of code) S.known.depth (fact_of S.known.regs a)))).kept.present ≡ true
      → (row code facts P).after ≡ (swaps S.known.depth S.known.regs (cell_by (item_of code) (owner_kind (fact_of S.known.regs a))) to b (reads S.known.regs x t.Int (leads_as_owner (item_of code) S.known.depth (fact_of S.known.regs a)))).after
      → NextFits code facts (with_owner (read f.registers a) s (λ n. with_value (read f.registers x) s (λ u. with_value (read f.registers b) s (λ new. answered f (Some to) (kept b new f.registers) at below s (of_living (swap_element (Own n) u new s))))))
  swap_element_own cert on to a x b at e g after =
      let fact = fact_of S.known.regs a in
      let L = leads_as_owner (item_of code) S.known.depth fact in
      let K = reads S.known.regs x t.Int L in
      let c = cell_by (item_of code) (owner_kind fact) in
      let types = and_parts L.types (has t.Int (fact_of S.known.regs x)) (swap_types c to b K e) in
      let there = and_parts L.present (is_there (fact_of S.known.regs x)) (swap_present c to b K g) in
      let w = owner_found code facts P (cell_by (item_of code)) a (is_usable S.known.depth fact) refl types.0 there.0 in
      let F = swap_found c w.cell to b K w.cell_is e g after in
      let ar = array_at code facts cert s.world heap w.kind w.cell w.name w.object w.cell_of w.names w.lives in
      subst (λ o. NextFits code facts (with_owner o s (λ n. with_value (read f.registers x) s (λ u. with_value (read f.registers b) s (λ new. answered f (Some to) (kept b new f.registers) at below s (of_living (swap_element (Own n) u new s))))))) (sym w.is)
      (reading code facts P x t.Int _ types.1 there.1 (λ u h.
      subst (λ o. NextFits code facts (with_value o s (λ new. answered f (Some to) (kept b new f.registers) at below s (of_living (swap_element (Own w.name) u new s))))) (sym F.took_it.is)
      (subst (λ y. NextFits code facts (answered f (Some to) (kept b F.took_it.value f.registers) at below s (of_living (on_object (found_or_dead w.name y) (λ n o. element_swapped_at u n o F.took_it.value s))))) (sym w.lives)
      (element_swaps of_living (λ v u. refl) refl to (kept b F.took_it.value f.registers) at u w.name w.object F.took_it.value h.shape (λ i old q.
      stores on to b w.cell F w.name w.object i old w.lives q (each_at code s.world w.cell w.object.values i old ar.values q)
      (array_written w.cell w.object (slice_set w.object.values i F.took_it.value) ar (each_set code s.world w.cell w.object.values i F.took_it.value ar.values F.took_it.has)))))))

  pub swap_element_found : Certified code facts → goes_on instr ≡ true → (to a x b : ℕ) (at : Spot)
      → (swaps S.known.depth S.known.regs (cell_by (item_of code) (reference_kind (fact_of S.known.regs a))) to b (reads S.known.regs x t.Int (leads_as_reference (item_of code) S.known.depth (fact_of S.known.regs a)))).kept.types ≡ true
      → (swaps S.known.depth S.known.regs (cell_by (item_of code) (reference_kind (fact_of S.known.regs a))) to b (reads S.known.regs x t.Int (leads_as_reference (item_of code) S.known.depth (fact_of S.known.regs a)))).kept.present ≡ true
      → (row code facts P).after ≡ (swaps S.known.depth S.known.regs (cell_by (item_of code) (reference_kind (fact_of S.known.regs a))) to b (reads S.known.regs x t.Int (leads_as_reference (item_of code) S.known.depth (fact_of S.known.regs a)))).after
      → NextFits code facts (with_value (read f.registers a) s (λ v. with_value (read f.registers x) s (λ u. with_value (read f.registers b) s (λ new. answered f (Some to) (kept b new f.registers) at below s (swap_element v u new s)))))
  swap_element_found cert on to a x b at e g after =
      let fact = fact_of S.known.regs a in
      let L = leads_as_reference (item_of code) S.known.depth fact in
      let K = reads S.known.regs x t.Int L in
      let c = cell_by (item_of code) (reference_kind fact) in
      let types = and_parts L.types (has t.Int (fact_of S.known.regs x)) (swap_types c to b K e) in
      let there = and_parts L.present (is_there (fact_of S.known.regs x)) (swap_present c to b K g) in
      let w = read_found code facts P reference_kind (cell_by (item_of code)) a (is_usable S.known.depth fact) follows_reference refl types.0 there.0 in
      let F = swap_found c w.cell to b K w.cell_is e g after in
      subst (λ o. NextFits code facts (with_value o s (λ v. with_value (read f.registers x) s (λ u. with_value (read f.registers b) s (λ new. answered f (Some to) (kept b new f.registers) at below s (swap_element v u new s)))))) (sym w.reads)
      (reading code facts P x t.Int _ types.1 there.1 (λ u h.
      subst (λ o. NextFits code facts (with_value o s (λ new. answered f (Some to) (kept b new f.registers) at below s (swap_element w.value u new s)))) (sym F.took_it.is)
      (on_name code facts P (Some to) (kept b F.took_it.value f.registers) at w.value w.name (λ n o. element_swapped_at u n o F.took_it.value s) w.named (λ o lives.
      let ar = array_at code facts cert s.world heap w.kind w.cell w.name o w.cell_of w.names lives in
      element_swaps (λ x. x) (λ v u. refl) refl to (kept b F.took_it.value f.registers) at u w.name o F.took_it.value h.shape (λ i old q.
      stores on to b w.cell F w.name o i old lives q (each_at code s.world w.cell o.values i old ar.values q)
      (array_written w.cell o (slice_set o.values i F.took_it.value) ar (each_set code s.world w.cell o.values i F.took_it.value ar.values F.took_it.has)))))))

  pub fill_parts : (c : Option Ty) (b : ℕ) (L : Kept) → (pushes S.known.depth S.known.regs c b L).kept.types ≡ true → (pushes S.known.depth S.known.regs c b L).kept.present ≡ true → (L.types ≡ true) × (L.present ≡ true)
  fill_parts None b L e g = (e, g)
  fill_parts (Some u) b L e g = ((and_parts L.types (has u (fact_of S.known.regs b)) e).0, (and_parts L.present (is_there (fact_of S.known.regs b)) g).0)

  pub pushing : Certified code facts → goes_on instr ≡ true → (a b : ℕ) (at : Spot)
      → (pushes S.known.depth S.known.regs (cell_by (item_of code) (reference_kind (fact_of S.known.regs a))) b (leads_as_reference (item_of code) S.known.depth (fact_of S.known.regs a))).kept.types ≡ true
      → (pushes S.known.depth S.known.regs (cell_by (item_of code) (reference_kind (fact_of S.known.regs a))) b (leads_as_reference (item_of code) S.known.depth (fact_of S.known.regs a))).kept.present ≡ true
      → (row code facts P).after ≡ (pushes S.known.depth S.known.regs (cell_by (item_of code) (reference_kind (fact_of S.known.regs a))) b (leads_as_reference (item_of code) S.known.depth (fact_of S.known.regs a))).after
      → NextFits code facts (with_value (read f.registers a) s (λ v. with_value (read f.registers b) s (λ new. answered f None (kept b new f.registers) at below s (push v new s))))
  pushing cert on a b at e g after =
      let fact = fact_of S.known.regs a in
      let L = leads_as_reference (item_of code) S.known.depth fact in
      let c = cell_by (item_of code) (reference_kind fact) in
      let ok = fill_parts c b L e g in
      let w = read_found code facts P reference_kind (cell_by (item_of code)) a (is_usable S.known.depth fact) follows_reference refl ok.0 ok.1 in
      let types : (pushes S.known.depth S.known.regs (Some w.cell) b L).kept.types ≡ true = subst (λ c. (pushes S.known.depth S.known.regs c b L).kept.types ≡ true) w.cell_is e in
      let there : (pushes S.known.depth S.known.regs (Some w.cell) b L).kept.present ≡ true = subst (λ c. (pushes S.known.depth S.known.regs c b L).kept.present ≡ true) w.cell_is g in
      let v = took code s.world w.cell S.known.regs b f.registers (fits_here code facts P) (and_parts L.types (has w.cell (fact_of S.known.regs b)) types).1 (and_parts L.present (is_there (fact_of S.known.regs b)) there).1 in
      subst (λ o. NextFits code facts (with_value o s (λ v. with_value (read f.registers b) s (λ new. answered f None (kept b new f.registers) at below s (push v new s))))) (sym w.reads)
      (subst (λ o. NextFits code facts (with_value o s (λ new. answered f None (kept b new f.registers) at below s (push w.value new s)))) (sym v.is)
      (on_name code facts P None (kept b v.value f.registers) at w.value w.name (λ n o. if nat_lt (length o.values) width_limit then gives None (changed n o (o.values ++ v.value ∷ []) s) else traps ArrayTooLong) w.named (λ o lives.
      by_length w.cell w.name o v (after ∙ ap (λ c. (pushes S.known.depth S.known.regs c b L).after) w.cell_is) lives (array_at code facts cert s.world heap w.kind w.cell w.name o w.cell_of w.names lives) (nat_lt (length o.values) width_limit))))
    where
      by_length : (u : Ty) (n : ℕ) (o : Object) (v : Took code s.world u S.known.regs b f.registers) → (row code facts P).after ≡ after_passing S.known.regs b u → object_at s.world n ≡ Some o → ArrayAt code s.world u o → (room : Bool)
          → NextFits code facts (answered f None (kept b v.value f.registers) at below s (if room then gives None (changed n o (o.values ++ v.value ∷ []) s) else traps ArrayTooLong))
      by_length u n o v after lives ar false = a_trap code facts ArrayTooLong at (Running f ∷ below) s
      by_length u n o v after lives ar true =
          writes code facts P on n o (o.values ++ v.value ∷ []) (kept b v.value f.registers) lives (array_written u o (o.values ++ v.value ∷ []) ar (each_append code s.world u o.values v.value ar.values v.has))
          (subst (λ x. RegsFit code s.world x (kept b v.value f.registers)) (sym after) v.fits)
          (λ m. let x = v.owned m in let y = values_append m o.values v.value in omega (arith, x, y))

  pub back_parts : (c : Option Ty) (to : ℕ) (L : Kept) → (pops S.known.depth S.known.regs c to L).kept.types ≡ true → (pops S.known.depth S.known.regs c to L).kept.present ≡ true → (L.types ≡ true) × (L.present ≡ true)
  back_parts None to L e g = (e, g)
  back_parts (Some u) to L e g = (e, (and_parts L.present (known.is_free (fact_of S.known.regs to)) g).0)

  pub popping : Certified code facts → goes_on instr ≡ true → (to a : ℕ) (at : Spot)
      → (pops S.known.depth S.known.regs (cell_by (item_of code) (reference_kind (fact_of S.known.regs a))) to (leads_as_reference (item_of code) S.known.depth (fact_of S.known.regs a))).kept.types ≡ true
      → (pops S.known.depth S.known.regs (cell_by (item_of code) (reference_kind (fact_of S.known.regs a))) to (leads_as_reference (item_of code) S.known.depth (fact_of S.known.regs a))).kept.present ≡ true
      → (row code facts P).after ≡ (pops S.known.depth S.known.regs (cell_by (item_of code) (reference_kind (fact_of S.known.regs a))) to (leads_as_reference (item_of code) S.known.depth (fact_of S.known.regs a))).after
      → NextFits code facts (with_value (read f.registers a) s (λ v. answered f (Some to) f.registers at below s (pop v s)))
  popping cert on to a at e g after =
      let fact = fact_of S.known.regs a in
      let L = leads_as_reference (item_of code) S.known.depth fact in
      let c = cell_by (item_of code) (reference_kind fact) in
      let ok = back_parts c to L e g in
      let w = read_found code facts P reference_kind (cell_by (item_of code)) a (is_usable S.known.depth fact) follows_reference refl ok.0 ok.1 in
      subst (λ o. NextFits code facts (with_value o s (λ v. answered f (Some to) f.registers at below s (pop v s)))) (sym w.reads)
      (on_name code facts P (Some to) f.registers at w.value w.name (λ n o. popped n o o.values s) w.named (λ o lives.
      by_values w.cell w.name o (after ∙ ap (λ c. (pops S.known.depth S.known.regs c to L).after) w.cell_is) lives (array_at code facts cert s.world heap w.kind w.cell w.name o w.cell_of w.names lives) o.values refl))
    where
      by_values : (u : Ty) (n : ℕ) (o : Object) → (row code facts P).after ≡ slice_set S.known.regs to (Held u S.known.depth false) → object_at s.world n ≡ Some o → ArrayAt code s.world u o → (vs : List Value) → o.values ≡ vs
          → NextFits code facts (answered f (Some to) f.registers at below s (popped n o vs s))
      by_values u n o after lives ar [] q = a_trap code facts EmptyPop at (Running f ∷ below) s
      by_values u n o after lives ar (v ∷ vs) q =
          let each : Each code s.world u (v ∷ vs) = subst (λ x. Each code s.world u x) q ar.values in
          let r = each_front code s.world u v vs each.0 each.1 in
          writes code facts P on n o (front_from v vs) (put f.registers to (Some (last_from v vs))) lives (array_written u o (front_from v vs) ar r.0)
          (subst (λ x. RegsFit code s.world x (put f.registers to (Some (last_from v vs)))) (sym after)
          (put_fits code s.world S.known.regs f.registers to (Held u S.known.depth false) (Some (last_from v vs)) (last_from v vs, refl, r.1) (fits_here code facts P)))
          (λ m. let x = put_owns m f.registers to (Some (last_from v vs)) in let y = front_owns m v vs in let z = ap (λ x. in_values m x) q in omega (arith, x, y, z))
