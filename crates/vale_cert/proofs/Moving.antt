-- Owners and references in registers: they are moved, lent, destroyed, and seen as interfaces.
use Rattle.std.proofs.Common.{◌≡◌, ℕ, List, ◌∷◌, Option, Some, None, true, false, refl, sym, ap, ◌∙◌, subst, arith}
use Rattle.std.specs.Prelude.{slice_set}
use Rattle.std.proofs.lemmas.Bool.{and_parts}
use Rattle.vale_state_spec.specs.World.{Value, Own, Ref, Iso}
use Rattle.vale_base.specs.declared.name.Kind.{Kind}
use Rattle.vale_base.specs.declared.spot.Spot.{Spot}
use Rattle.vale_code.specs.Destroy.{destroy}
use Rattle.vale_code.specs.Frames.{on}
use Rattle.vale_code.specs.Instructions as act_on
use Rattle.vale_code.specs.Instructions.{behind, with_value, moved, borrowed, gets, is_free}
use Rattle.vale_code.specs.Parts.{Parts}
use Rattle.vale_code.specs.Registers.{read, put, kept}
use Rattle.vale_code.specs.declared.ty.Ty.{Ty}
use Rattle.vale_code.specs.declared.ty.Ty.TheVariants as t
use Rattle.vale_cert.specs.Certificate.{Certified}
use Rattle.vale_cert.specs.Known as known
use Rattle.vale_cert.specs.Known.{fact_of, is_there}
use Rattle.vale_cert.specs.Objects.{raised, may_be_raised, is_implemented, owner_kind}
use Rattle.vale_cert.specs.Rules.{is_raised, raised_to, after_taking, moves, is_moved, moved_to, borrows, lent_to, drops, is_usable, after_passing}
use Rattle.vale_cert.specs.Types.{is_owned}
use Rattle.vale_cert.specs.Walk.{after, goes_on}
use Rattle.vale_cert.specs.declared.facts.FuncFacts.{FuncFacts}
use Rattle.vale_cert.specs.declared.facts.RegFact.{RegFact}
use Rattle.vale_cert.specs.declared.facts.RegFact.TheVariants.{Empty, Held}
use Rattle.vale_cert.proofs.Cells.{leading}
use Rattle.vale_cert.proofs.Fit.{value_has, NameFits, Has, Holds, RegsFit, regs_later, put_fits}
use Rattle.vale_cert.proofs.Heap.{own_in, put_owns}
use Rattle.vale_cert.proofs.KindLaws.{raised_fits}
use Rattle.vale_cert.proofs.Arguments.{stays}
use Rattle.vale_cert.proofs.Standing.{NextFits, is_owner, destroying_value}
use Rattle.vale_cert.proofs.Going.{Place, fits_here, next_active, results, row, stays_on}
use Rattle.vale_cert.proofs.Reading.{owner_found}

module _ (code : Parts) (facts : List FuncFacts) (P : Place code facts) where
  open P use {ty, f, below, s, F, under_it, heap, owned, instr, instrs, here, S}

  -- ---- owners and references in registers

  moved_same : (u : Ty) (v : Value) → is_owned u ≡ true → value_has u v ≡ true → moved v ≡ Some v
  moved_same (t.Own q) (Own n) e h = refl
  moved_same (t.Iso q) (Iso n) e h = refl
  moved_same _ _ e h = let x : ⊥ = cc in absurd x

  owner_value : (u : Ty) (v : Value) → is_owned u ≡ true → value_has u v ≡ true → is_owner v ≡ true
  owner_value (t.Own q) (Own n) e h = refl
  owner_value (t.Iso q) (Iso n) e h = refl
  owner_value _ _ e h = let x : ⊥ = cc in absurd x

  a_move : (depth : ℕ) (fact : RegFact) (o : Option Value) → is_moved fact ≡ true → is_there fact ≡ true → Holds code s.world fact o → (v : Value) × (o ≡ Some v) × (moved v ≡ Some v) × (is_owner v ≡ true) × Holds code s.world (moved_to depth fact) (Some v)
  a_move depth Empty o e there h = let x : ⊥ = cc in absurd x
  a_move depth (Held u d l) o e there h = (h.0, h.1, moved_same u h.0 e h.2.shape, owner_value u h.0 e h.2.shape, (h.0, refl, h.2))

  pub moving : goes_on instr ≡ true → (to a : ℕ) → (moves S.known.depth S.known.regs to a).kept.types ≡ true → (moves S.known.depth S.known.regs to a).kept.present ≡ true → (row code facts P).after ≡ (moves S.known.depth S.known.regs to a).after
      → NextFits code facts (with_value (read f.registers a) s (λ v. gets f to (moved v) (put f.registers a None) below s))
  moving on to a e g after =
      let fact = fact_of S.known.regs a in
      let m = a_move S.known.depth fact (read f.registers a) e (and_parts (is_there fact) (known.is_free (fact_of (slice_set S.known.regs a Empty) to)) g).0 ((fits_here code facts P).each a) in
      subst (λ o. NextFits code facts (with_value o s (λ v. gets f to (moved v) (put f.registers a None) below s))) (sym m.1)
      (subst (λ o. NextFits code facts (gets f to o (put f.registers a None) below s)) (sym m.2)
      (stays_on code facts P on (put (put f.registers a None) to (Some m.0)) s refl
      (subst (λ x. RegsFit code s.world x (put (put f.registers a None) to (Some m.0))) (sym after)
      (put_fits code s.world (slice_set S.known.regs a Empty) (put f.registers a None) to (moved_to S.known.depth fact) (Some m.0) m.4 (put_fits code s.world S.known.regs f.registers a Empty None tt (fits_here code facts P))))
      (λ n. let x = put_owns n (put f.registers a None) to (Some m.0) in let y = put_owns n f.registers a None in let z = ap (λ o. own_in n o) m.1 in omega (arith, x, y, z))))

  pub borrowing : goes_on instr ≡ true → (to a : ℕ) → (borrows S.known.depth S.known.regs to a).kept.types ≡ true → (borrows S.known.depth S.known.regs to a).kept.present ≡ true → (row code facts P).after ≡ (borrows S.known.depth S.known.regs to a).after
      → NextFits code facts (with_value (read f.registers a) s (λ v. gets f to (borrowed v) f.registers below s))
  borrowing on to a e g after =
      let fact = fact_of S.known.regs a in
      let w = owner_found code facts P (λ o. o) a (is_usable S.known.depth fact) refl e (and_parts (is_there fact) (known.is_free (fact_of S.known.regs to)) g).0 in
      subst (λ o. NextFits code facts (with_value o s (λ v. gets f to (borrowed v) f.registers below s))) (sym w.is)
      (results code facts P on S.known.regs (fits_here code facts P) (t.Ref w.kind) to S.known.depth false (Ref w.name) s (after ∙ ap (λ x. slice_set S.known.regs to x) (lent_fact fact w.kind w.via))
      (leading code s.world (t.Ref w.kind) (Ref w.name) w.kind w.name refl refl refl w.names) (λ n. refl) refl)
    where
      lent_fact : (fact : RegFact) (kind : Kind) → owner_kind fact ≡ Some kind → lent_to S.known.depth fact ≡ Held (t.Ref kind) S.known.depth false
      lent_fact (Held (t.Own q) d l) kind e = let same_kind : q ≡ kind = cc in ap (λ q. Held (t.Ref q) S.known.depth false) same_kind
      lent_fact _ kind e = let x : ⊥ = cc in absurd x

  pub dropping : Certified code facts → goes_on instr ≡ true → (a : ℕ) (at : Spot) → (drops S.known.depth S.known.regs a).kept.types ≡ true → (drops S.known.depth S.known.regs a).kept.present ≡ true → (row code facts P).after ≡ (drops S.known.depth S.known.regs a).after
      → NextFits code facts (with_value (read f.registers a) s (λ v. destroy code v at (behind f (put f.registers a None) ∷ below) s))
  dropping cert on a at e g after =
      let fact = fact_of S.known.regs a in
      let m = a_move S.known.depth fact (read f.registers a) e g ((fits_here code facts P).each a) in
      let fits : RegsFit code s.world (row code facts P).after (put f.registers a None) = subst (λ x. RegsFit code s.world x (put f.registers a None)) (sym after) (put_fits code s.world S.known.regs f.registers a Empty None tt (fits_here code facts P)) in
      subst (λ o. NextFits code facts (with_value o s (λ v. destroy code v at (behind f (put f.registers a None) ∷ below) s))) (sym m.1)
      (destroying_value code facts cert m.0 at (behind f (put f.registers a None) ∷ below) s m.3
      (ty, (λ w o l r. next_active code facts P on w (put f.registers a None) (regs_later code s.world w (row code facts P).after (put f.registers a None) l fits)), under_it) heap
      (λ n. let x = owned n in let y = put_owns n f.registers a None in let z = ap (λ o. own_in n o) m.1 in omega (arith, x, y, z)))

  -- ---- views

  raised_has : Certified code facts → (interface : Kind) (u : Ty) (v : Value) → may_be_raised code.impls interface u ≡ true → Has code s.world u v → value_has u v ≡ true → Has code s.world (raised interface u) v × (act_on.leading v ≡ Some v)
  raised_has cert interface (t.Own q) (Own n) e h shape = (leading code s.world (t.Own interface) (Own n) interface n refl refl refl (raised_name cert interface q n e (h.leads q n refl refl)), refl)
    where
      raised_name : Certified code facts → (interface q : Kind) (n : ℕ) → is_implemented code.impls interface q ≡ true → NameFits code s.world q n → NameFits code s.world interface n
      raised_name cert interface q n e h = record { given = h.given; fits = λ o l. raised_fits code facts cert interface q o.kind e (h.fits o l) }
  raised_has cert interface (t.Ref q) (Ref n) e h shape = (leading code s.world (t.Ref interface) (Ref n) interface n refl refl refl (record { given = (h.leads q n refl refl).given; fits = λ o l. raised_fits code facts cert interface q o.kind e ((h.leads q n refl refl).fits o l) }), refl)
  raised_has cert interface (t.Frozen q) (Ref n) e h shape = (leading code s.world (t.Frozen interface) (Ref n) interface n refl refl refl (record { given = (h.leads q n refl refl).given; fits = λ o l. raised_fits code facts cert interface q o.kind e ((h.leads q n refl refl).fits o l) }), refl)
  raised_has cert interface (t.Iso q) (Iso n) e h shape = (leading code s.world (t.Iso interface) (Iso n) interface n refl refl refl (record { given = (h.leads q n refl refl).given; fits = λ o l. raised_fits code facts cert interface q o.kind e ((h.leads q n refl refl).fits o l) }), refl)
  raised_has cert interface _ _ e h shape = let x : ⊥ = cc in absurd x

  pub upcasting : Certified code facts → goes_on instr ≡ true → (to a : ℕ) (interface : Kind) (fact : RegFact) → Holds code s.world fact (read f.registers a) → is_raised code.impls interface fact ≡ true → is_there fact ≡ true
      → (row code facts P).after ≡ slice_set (after_taking S.known.regs a fact) to (raised_to S.known.depth interface fact)
      → NextFits code facts (with_value (read f.registers a) s (λ v. gets f to (act_on.leading v) (kept a v f.registers) below s))
  upcasting cert on to a interface Empty h e there after = let x : ⊥ = cc in absurd x
  upcasting cert on to a interface (Held u d l) h e there after =
      let r = raised_has cert interface u h.0 e h.2 h.2.shape in
      let st = stays code s.world u S.known.regs a f.registers h.0 (fits_here code facts P) h.1 h.2.shape in
      subst (λ o. NextFits code facts (with_value o s (λ v. gets f to (act_on.leading v) (kept a v f.registers) below s))) (sym h.1)
      (subst (λ o. NextFits code facts (gets f to o (kept a h.0 f.registers) below s)) (sym r.1)
      (stays_on code facts P on (put (kept a h.0 f.registers) to (Some h.0)) s refl
      (subst (λ x. RegsFit code s.world x (put (kept a h.0 f.registers) to (Some h.0))) (sym after)
      (put_fits code s.world (after_passing S.known.regs a u) (kept a h.0 f.registers) to (Held (raised interface u) S.known.depth l) (Some h.0) (h.0, refl, r.0) st.0))
      (λ n. let x = put_owns n (kept a h.0 f.registers) to (Some h.0) in let y = st.1 n in omega (arith, x, y))))
