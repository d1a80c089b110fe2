-- A value is seen as an interface, and a function returns one.
use Rattle.std.proofs.Common.{◌≡◌, ℕ, ◌+◌, List, [], ◌∷◌, Some, Bool, true, false, ◌⊎◌, inl, inr, refl, sym, ap, ◌∙◌, subst, arith}
use Rattle.std.specs.Prelude.{slice_set}
use Rattle.vale_state_spec.specs.State.{State}
use Rattle.vale_state_spec.specs.World.{Value}
use Rattle.vale_base.specs.declared.name.Kind.{Kind}
use Rattle.vale_code.specs.Enter.{Form, Plain, Pure, Iteration, Destructor, function, leave_function}
use Rattle.vale_code.specs.Frames.{Frame, Running, Config, Next, leave}
use Rattle.vale_code.specs.Instructions.{with_value, gets, leading}
use Rattle.vale_code.specs.Parts.{Parts}
use Rattle.vale_code.specs.Registers.{read, kept}
use Rattle.vale_code.specs.declared.ty.Ty.{Ty}
use Rattle.vale_code.specs.declared.ty.Ty.TheVariants as t
use Rattle.vale_cert.specs.Known.{fact_of, is_there, has}
use Rattle.vale_cert.specs.Objects.{raised, may_be_raised}
use Rattle.vale_cert.specs.Rules.{is_bound, is_usable, is_raised, raised_to, after_taking, after_passing}
use Rattle.vale_cert.specs.Types.{is_void, is_frozen}
use Rattle.vale_cert.specs.Walk.{goes_on}
use Rattle.vale_cert.specs.declared.facts.FuncFacts.{FuncFacts}
use Rattle.vale_cert.specs.declared.facts.RegFact.{RegFact}
use Rattle.vale_cert.specs.declared.facts.RegFact.TheVariants.{Empty, Held}
use Rattle.vale_cert.proofs.Fit.{value_has, type_is, Holds}
use Rattle.vale_cert.proofs.Going.{Place, row, fits_here}
use Rattle.vale_region_laws.specs.Holding.{Marks, mark, taken, held_as}
use Rattle.vale_region_laws.specs.Passing.{IsPlain}
use Rattle.vale_region_laws.specs.Regions.{How}
use Rattle.vale_region_laws.specs.Regions as how
use Rattle.vale_region_laws.proofs.Acts.{upcast_held_next, upcast_seen_next}
use Rattle.vale_region_laws.proofs.Holding.{add_fits, plain_owns, plain_held}
use Rattle.vale_region_laws.proofs.Leaving.{value_alone, nothing_left}
use Rattle.vale_region_laws.proofs.Moving.{held_fits, deeper_seen}
use Rattle.vale_region_laws.proofs.Passing.{taken_under}
use Rattle.vale_region_laws.proofs.States.{FitsAt}
use Rattle.vale_region_cert.specs.Joined.{FramesTold, RegionsFit, RegionsNext}
use Rattle.vale_region_cert.specs.Told.{Told, passed_as}
use Rattle.vale_region_cert.proofs.Around.{marks, hs, base, told_here, deep_here, same_function}
use Rattle.vale_region_cert.proofs.Frames.{with_known, leave_with, IsQuiet}
use Rattle.vale_region_cert.proofs.Giving.{used_as}
use Rattle.vale_region_cert.proofs.Simple.{value_is, gets_held, gets_seen, bound, seen_mark, ends_at, comes_out_at, quiet_form_here}
use Rattle.vale_region_cert.proofs.Told.{told_taken}

module _ (code : Parts) (facts : List FuncFacts) (last : Config → State) (P : Place code facts) (x : RegionsFit code facts (record { top = Running P.f; below = P.below; state = P.s })) where
  open P use {ty, f, below, s, F, under_it, heap, owned, instr, instrs, here, S}

  abbrev ms : Marks
  ms = marks code facts P x

  abbrev b : ℕ
  b = base code facts P x

  told : Told b S.known.regs ms
  told = told_here code facts P x

  -- ---- views

  abbrev sees_it : ℕ → ℕ → Next
  sees_it to a = with_value (read f.registers a) s (λ v. gets f to (leading v) (kept a v f.registers) below s)

  pub upcasting : goes_on instr ≡ true → (to a : ℕ) (interface : Kind) → is_raised code.impls interface (fact_of S.known.regs a) ≡ true → is_there (fact_of S.known.regs a) ≡ true → is_usable S.known.depth (fact_of S.known.regs a) ≡ true
      → (row code facts P).after ≡ slice_set (after_taking S.known.regs a (fact_of S.known.regs a)) to (raised_to S.known.depth interface (fact_of S.known.regs a)) → RegionsNext code facts (sees_it to a)
  upcasting on to a interface e there u after = from (fact_of S.known.regs a) refl e there after ((fits_here code facts P).each a)
    where
      held : (ty up : Ty) (d : ℕ) (live : Bool) (v : Value) → fact_of S.known.regs a ≡ Held ty d live → is_bound ty ≡ true → is_frozen up ≡ false → (row code facts P).after ≡ slice_set (after_passing S.known.regs a ty) to (Held up S.known.depth live)
          → read f.registers a ≡ Some v → value_has ty v ≡ true → RegionsNext code facts (sees_it to a)
      held ty up d live v is bd fz after reads h =
          gets_held code facts last P x on (after_passing S.known.regs a ty) (taken a v ms) (told_taken b S.known.regs ms a ty v h told) (taken_under s.regions s.regions a v ms x.fits.stack.0) to up live _ after fz
          (upcast_held_next code last f below s x.fits.home (hs code facts P x) ms x.fits.fits to a interface v (bound code facts last P x a ty d live is bd u) reads)

      by_type : (ty : Ty) (d : ℕ) (live : Bool) (v : Value) → fact_of S.known.regs a ≡ Held ty d live → may_be_raised code.impls interface ty ≡ true → (row code facts P).after ≡ slice_set (after_passing S.known.regs a ty) to (Held (raised interface ty) S.known.depth live)
          → read f.registers a ≡ Some v → value_has ty v ≡ true → RegionsNext code facts (sees_it to a)
      by_type (t.Own k) d live v is e after reads h = held (t.Own k) (t.Own interface) d live v is refl refl after reads h
      by_type (t.Ref k) d live v is e after reads h = held (t.Ref k) (t.Ref interface) d live v is refl refl after reads h
      by_type (t.Iso k) d live v is e after reads h = held (t.Iso k) (t.Iso interface) d live v is refl refl after reads h
      by_type (t.Frozen k) d live v is e after reads h =
          let m = seen_mark code facts last P x a k d live is in
          gets_seen code facts last P x on S.known.regs ms told x.fits.stack.0 to (t.Frozen interface) live _ after refl
          (upcast_seen_next code last f below s x.fits.home (hs code facts P x) ms x.fits.fits to a (b + d) interface v m.0 m.1 reads)
      by_type t.Void d live v is e after reads h = let y : ⊥ = cc in absurd y
      by_type t.Int d live v is e after reads h = let y : ⊥ = cc in absurd y
      by_type t.Truth d live v is e after reads h = let y : ⊥ = cc in absurd y
      by_type t.Text d live v is e after reads h = let y : ⊥ = cc in absurd y

      from : (fact : RegFact) → fact_of S.known.regs a ≡ fact → is_raised code.impls interface fact ≡ true → is_there fact ≡ true → (row code facts P).after ≡ slice_set (after_taking S.known.regs a fact) to (raised_to S.known.depth interface fact) → Holds code s.world fact (read f.registers a)
          → RegionsNext code facts (sees_it to a)
      from Empty is e there after h = let y : ⊥ = cc in absurd y
      from (Held ty d live) is e there after h = by_type ty d live h.0 is e after h.1 h.2.shape

  -- ---- returns

  -- what comes out of a register, alone, as a value of a result's type
  frozen_comes_out : (a : ℕ) (k : Kind) (v : Value) → is_there (fact_of S.known.regs a) ≡ true → has (t.Frozen k) (fact_of S.known.regs a) ≡ true → read f.registers a ≡ Some v → FitsAt x.fits.home (held_as (how.Seen s.regions) v ∷ hs code facts P x) s
  frozen_comes_out a k v there e reads = from (fact_of S.known.regs a) refl there e
    where
      from : (fact : RegFact) → fact_of S.known.regs a ≡ fact → is_there fact ≡ true → has (t.Frozen k) fact ≡ true → FitsAt x.fits.home (held_as (how.Seen s.regions) v ∷ hs code facts P x) s
      from Empty is there e = let y : ⊥ = cc in absurd y
      from (Held y d live) is there e =
          let m = seen_mark code facts last P x a k d live (is ∙ ap (λ y. Held y d live) (type_is y (t.Frozen k) e)) in
          let alone = value_alone code last f below s x.fits a (how.Seen (b + d)) v m.0 reads in
          held_fits x.fits.home _ (held_as (how.Seen s.regions) v ∷ hs code facts P x) s.world s.regions (λ n. omega arith)
          ((omega arith, deeper_seen x.fits.home s.world (b + d) s.regions v m.1 alone.holders.0.1), alone.holders.1) alone

  frozen_is : (ty : Ty) → is_frozen ty ≡ true → (k : Kind) × (ty ≡ t.Frozen k)
  frozen_is (t.Frozen k) e = (k, refl)
  frozen_is _ e = let y : ⊥ = cc in absurd y

  not_frozen : (ty : Ty) → is_frozen ty ≡ false → passed_as s.regions ty ≡ how.Held s.regions
  not_frozen t.Void e = refl
  not_frozen t.Int e = refl
  not_frozen t.Truth e = refl
  not_frozen t.Text e = refl
  not_frozen (t.Own k) e = refl
  not_frozen (t.Ref k) e = refl
  not_frozen (t.Iso k) e = refl
  not_frozen (t.Frozen k) e = let y : ⊥ = cc in absurd y

  comes_out : (a : ℕ) (ty : Ty) (v : Value) → is_there (fact_of S.known.regs a) ≡ true → has ty (fact_of S.known.regs a) ≡ true → is_usable S.known.depth (fact_of S.known.regs a) ≡ true → read f.registers a ≡ Some v → value_has ty v ≡ true
      → FitsAt x.fits.home (held_as (passed_as s.regions ty) v ∷ hs code facts P x) s
  comes_out a ty v there e u reads h = choose (is_frozen ty) refl
    where
      by : passed_as s.regions ty ≡ how.Held s.regions → (mark ms a ≡ Some (how.Held s.regions)) ⊎ IsPlain v → FitsAt x.fits.home (held_as (passed_as s.regions ty) v ∷ hs code facts P x) s
      by q (inl m) = subst (λ h. FitsAt x.fits.home (held_as h v ∷ hs code facts P x) s) (sym q) (value_alone code last f below s x.fits a (how.Held s.regions) v m reads)
      by q (inr is) = subst (λ h. FitsAt x.fits.home (held_as h v ∷ hs code facts P x) s) (sym q) (add_fits x.fits.home [] s (how.Held s.regions) v (hs code facts P x) (plain_owns v is) (omega arith, plain_held x.fits.home s.world s.regions v is) (nothing_left code last f below s x.fits))

      choose : (fz : Bool) → is_frozen ty ≡ fz → FitsAt x.fits.home (held_as (passed_as s.regions ty) v ∷ hs code facts P x) s
      choose true z =
          let k = frozen_is ty z in
          subst (λ ty. FitsAt x.fits.home (held_as (passed_as s.regions ty) v ∷ hs code facts P x) s) (sym k.1) (frozen_comes_out a k.0 v there (subst (λ ty. has ty (fact_of S.known.regs a) ≡ true) k.1 e) reads)
      choose false z = by (not_frozen ty z) (used_as code s.world b S.known.depth s.regions (deep_here code facts P x) ty (fact_of S.known.regs a) (mark ms a) v e there u z h (told.each a))

  pub returns : S.known.depth ≡ 0 → (a : ℕ) (v : Value) → is_void F.func.result ≡ false → is_there (fact_of S.known.regs a) ≡ true → has F.func.result (fact_of S.known.regs a) ≡ true → is_usable S.known.depth (fact_of S.known.regs a) ≡ true
      → read f.registers a ≡ Some v → value_has F.func.result v ≡ true → RegionsNext code facts (with_value (read f.registers a) s (λ v. function code f.function s (λ form func. leave_function form f.dest (Some v) below s)))
  returns deep a v some there e u reads h = value_is code facts s _ v _ reads
      (with_known code facts f.function s _ (λ form func found is. by form (quiet_form_here code facts last P x form func found is) (comes_out_at code facts last P x x.fits.marks below x.fits.stack.2 _ x.fits.stack.5 (ends_at code facts last P x deep))))
    where
      alone : FitsAt x.fits.home (held_as (passed_as s.regions F.func.result) v ∷ hs code facts P x) s
      alone = comes_out a F.func.result v there e u reads h

      out : (fs : List Frame) → below ≡ fs → (fs ≡ []) ⊎ (s.regions ≡ x.fits.stack.2) → RegionsNext code facts (leave below f.dest (Some v) s)
      out fs q (inl z) = subst (λ fs. RegionsNext code facts (leave fs f.dest (Some v) s)) (sym (q ∙ z)) tt
      out fs q (inr r) = leave_with code facts x.fits.stack.2 _ below s x.fits.home x.fits.marks f.dest F.func.result v some r x.fits.stack.5
          (subst (λ c. FitsAt x.fits.home (held_as (passed_as c F.func.result) v ∷ hs code facts P x) s) r alone)
          (subst (λ ty. FramesTold code facts f.dest ty x.fits.marks below) (ap (λ func. func.result) (same_function code facts P x)) x.told.1)

      by : (form : Form) → IsQuiet form → (below ≡ []) ⊎ (s.regions ≡ x.fits.stack.2) → RegionsNext code facts (leave_function form f.dest (Some v) below s)
      by Plain q r = out below refl r
      by Destructor q r = out below refl r
      by Pure q r = absurd q
      by Iteration q r = absurd q
