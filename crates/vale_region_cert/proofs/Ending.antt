-- What ends in a step of certified code lies in the innermost region, and is the root of no isolate.
use Rattle.std.proofs.Common.{◌≡◌, ◌≢◌, ◌<◌, ℕ, List, [], ◌∷◌, ◌++◌, length, Some, None, true, refl, sym, ap, ◌∙◌, subst, arith, length-append}
use Rattle.std.specs.Prelude.{slice_get, slice_set}
use Rattle.std.proofs.lemmas.Option.{slice_get-get_or}
use Rattle.std.proofs.Math.Seq.{get_or-append_seam}
use Rattle.vale_state_spec.specs.State.{State, Given}
use Rattle.vale_state_spec.specs.World.{Own, Freeze, Isolate, Object, Lives}
use Rattle.vale_code.specs.Destroy.{Owned, first_owned}
use Rattle.vale_code.specs.Frames.{Active, Emptying, Frame, Running, Dropping, Looping, Alone, Config}
use Rattle.vale_code.specs.Instructions.{fetch, instruction_in}
use Rattle.vale_code.specs.Parts.{Parts}
use Rattle.vale_code.specs.Registers.{read}
use Rattle.vale_code.specs.Run.{start}
use Rattle.vale_code.specs.declared.instr.Instr.{Instr}
use Rattle.vale_code.specs.declared.instr.Instr.TheVariants as i
use Rattle.vale_code.specs.declared.ty.Ty.{Ty}
use Rattle.vale_cert.specs.Certificate.{Certified}
use Rattle.vale_cert.specs.Input.{takes_input}
use Rattle.vale_cert.specs.Known.{fact_of}
use Rattle.vale_cert.specs.Objects.{owner_kind}
use Rattle.vale_cert.specs.Rules.{Effect, fields_by, leads, is_usable}
use Rattle.vale_cert.specs.Walk.{walk}
use Rattle.vale_cert.specs.declared.facts.FuncFacts.{FuncFacts}
use Rattle.vale_cert.specs.declared.facts.RegFact.TheVariants.{Empty}
use Rattle.vale_cert.proofs.Fit.{WorldFits}
use Rattle.vale_cert.proofs.Going.{Place}
use Rattle.vale_cert.proofs.Heap.{in_regs}
use Rattle.vale_cert.proofs.Making.{opens_parts}
use Rattle.vale_cert.proofs.Reading.{owner_found}
use Rattle.vale_cert.proofs.Standing.{ActiveFits, StackFits, OwnedBeside, FrameFits, dest_of, ConfigFits as TypesFit}
use Rattle.vale_cert.proofs.Walks.{Stepped, stepped}
use Rattle.vale_region_laws.specs.Holding.{mark, in_frames}
use Rattle.vale_region_laws.specs.Regions.{Homes, Holder, holding, holding_all}
use Rattle.vale_region_laws.specs.Regions as how
use Rattle.vale_region_laws.proofs.Counts.{held_all}
use Rattle.vale_region_laws.proofs.Dropping.{first_counts, first_each}
use Rattle.vale_region_laws.proofs.Ending.{dies_inside, ends_no_root}
use Rattle.vale_region_laws.proofs.Holding.{take_fits}
use Rattle.vale_region_laws.proofs.Moving.{held_fits}
use Rattle.vale_region_laws.proofs.States.{FitsAt}
use Rattle.vale_region_cert.specs.Joined.{RegionsFit}
use Rattle.vale_region_cert.specs.Reached.{Reached, EndsBy, EndsAt, Ends}
use Rattle.vale_region_cert.proofs.Making.{opens_depths}
use Rattle.vale_region_cert.proofs.Reading.{owner_marked}
use Rattle.vale_region_cert.proofs.Simple.{owned_at}
use Rattle.vale_region_cert.proofs.Starting.{run_keeps}

-- its owner is held at the innermost depth
abbrev HeldInside : State → ℕ → Type 0
HeldInside s n = (home : Homes) × (gs : List Holder) × FitsAt home (holding s.regions (Own n) ∷ gs) s

module _ (code : Parts) (facts : List FuncFacts) (cert : Certified code facts) (last : Config → State) (ty : Ty) (f : Active) (below : List Frame) (s : State) (F : ActiveFits code facts s.world ty f) (under_it : StackFits code facts s.world ty f.dest below)
    (heap : WorldFits code s.world) (owned : OwnedBeside code facts s.world (λ n. in_regs n f.registers) below) (x : RegionsFit code facts (record { top = Running f; below = below; state = s })) where
  abbrev before : (instr : Instr) (instrs : List Instr) → F.rest ≡ instr ∷ instrs → Stepped code F.func F.of.labels F.is_judged.base f.place instr instrs (Some F.known) → Place code facts
  before instr instrs here S = record { ty = ty; f = f; below = below; s = s; F = F; under_it = under_it; heap = heap; owned = owned; instr = instr; instrs = instrs; here = here; S = S }

  inside_of : (a n : ℕ) → mark x.fits.top.marks a ≡ Some (how.Held s.regions) → read f.registers a ≡ Some (Own n) → HeldInside s n
  inside_of a n m e = (x.fits.home, _, take_fits x.fits.home (in_frames x.fits.marks below) s a (how.Held s.regions) (Own n) x.fits.top.marks f.registers None m e x.fits.fits)

  ends : (instr : Instr) (instrs : List Instr) → F.rest ≡ instr ∷ instrs → Stepped code F.func F.of.labels F.is_judged.base f.place instr instrs (Some F.known) → (n : ℕ) → EndsBy f (Some instr) n → HeldInside s n
  ends (i.Destroy a at) is e S n h = inside_of a n (owned_at code facts last (before (i.Destroy a at) is e S) x a S.keeps.types S.keeps.present S.keeps.depths).mark_is h
  ends (i.Open tos a) is e S n h =
      let P = before (i.Open tos a) is e S in
      let fact = fact_of S.known.regs a in
      let c = fields_by code (owner_kind fact) in
      let R : Effect = record { kept = leads (is_usable S.known.depth fact) fact c; after = slice_set S.known.regs a Empty } in
      let ok = opens_parts code facts P c tos R S.keeps.types S.keeps.present in
      let w = owner_found code facts P (fields_by code) a (is_usable S.known.depth fact) refl ok.0 ok.1 in
      inside_of a n (owner_marked code facts cert last P x a w.kind w.via (opens_depths code facts cert last P x c tos R S.keeps.depths)) h
  ends _ is e S n h = absurd h

  running : (n : ℕ) → EndsBy f (fetch code f.function f.place) n → HeldInside s n
  running n h = from F.rest refl F.walks
    where
      from : (is : List Instr) → F.rest ≡ is → walk code F.func F.of.labels F.is_judged.base f.place is F.came (Some F.known) ≡ None → HeldInside s n
      from [] e w =
          let whole : F.func.body ≡ F.before ++ [] = F.split ∙ ap (λ l. F.before ++ l) e in
          let long : length F.func.body ≡ length (F.before ++ []) = ap length whole in
          absurd (omega (arith, long, length-append F.before [], F.at, F.inside))
      from (instr ∷ instrs) e w =
          let whole : F.func.body ≡ F.before ++ instr ∷ instrs = F.split ∙ ap (λ l. F.before ++ l) e in
          let within : length F.before < length (F.before ++ instr ∷ instrs) = omega (arith, length-append F.before (instr ∷ instrs)) in
          let here : slice_get (F.before ++ instr ∷ instrs) (length F.before) ≡ Some instr = slice_get-get_or (F.before ++ instr ∷ instrs) (length F.before) instr within ∙ ap Some (get_or-append_seam F.before instr instrs instr) in
          let fetched : fetch code f.function f.place ≡ Some instr =
          ap (λ o. instruction_in o f.place) F.found ∙ ap (λ l. slice_get l f.place) whole ∙ ap (λ n. slice_get (F.before ++ instr ∷ instrs) n) (sym F.at) ∙ here in
          ends instr instrs e (stepped code F.func F.of.labels F.is_judged.base f.place instr instrs F.came (Some F.known) w) n (subst (λ o. EndsBy f o n) fetched h)

-- the next value that a dead object owned
emptying : (code : Parts) (facts : List FuncFacts) (f : Emptying) (below : List Frame) (s : State) → RegionsFit code facts (record { top = Dropping f; below = below; state = s }) → (n : ℕ) (o : Owned) → first_owned f.rest ≡ Some o → o.first ≡ Own n → HeldInside s n
emptying code facts f below s x n o h is = (
  x.fits.home,
  holding_all x.fits.top.depth o.rest (in_frames x.fits.marks below),
  subst (λ v. FitsAt x.fits.home (holding s.regions v ∷ holding_all x.fits.top.depth o.rest (in_frames x.fits.marks below)) s) is
      (subst (λ a. FitsAt x.fits.home (holding a o.first ∷ holding_all x.fits.top.depth o.rest (in_frames x.fits.marks below)) s) x.fits.depth
      (held_fits x.fits.home (holding_all x.fits.top.depth f.rest (in_frames x.fits.marks below)) (holding x.fits.top.depth o.first ∷ holding_all x.fits.top.depth o.rest (in_frames x.fits.marks below)) s.world s.regions
      (λ k. let y = held_all k x.fits.top.depth f.rest (in_frames x.fits.marks below) in let z = held_all k x.fits.top.depth o.rest (in_frames x.fits.marks below) in let w = first_counts k f.rest o h in omega (arith, y, z, w))
      (first_each _ x.fits.top.depth (in_frames x.fits.marks below) f.rest o h x.fits.fits.holders) x.fits.fits)),
)

held_inside : (code : Parts) (facts : List FuncFacts) → Certified code facts → (last : Config → State) (d : Config) → TypesFit code facts d → RegionsFit code facts d → (n : ℕ) → Ends code d n → HeldInside d.state n
held_inside code facts cert last d types x n h = from d.top d.below d.state types.ty types.top types.below types.heap types.owned x h
  where
    from : (top : Frame) (below : List Frame) (s : State) (ty : Ty) → FrameFits code facts s.world ty top → StackFits code facts s.world ty (dest_of top) below → WorldFits code s.world
        → OwnedBeside code facts s.world (λ n. Rattle.vale_cert.proofs.Heap.in_frame n top) below → RegionsFit code facts (record { top = top; below = below; state = s }) → EndsAt code top n → HeldInside s n
    from (Running f) below s ty fits st heap owned x h = running code facts cert last ty f below s fits st heap owned x n h
    from (Dropping f) below s ty fits st heap owned x h = emptying code facts f below s x n h.0 h.1 h.2
    from (Looping f) below s ty fits st heap owned x h = absurd h
    from (Alone v) below s ty fits st heap owned x h = absurd h

module _ (code : Parts) (facts : List FuncFacts) (cert : Certified code facts) (input : Given) (takes : takes_input code input ≡ true) (ticks : ℕ) (last : Config → State) (d : Config) (reached : Reached code last (start code input ticks) d) where
  inside : (n : ℕ) → Ends code d n → HeldInside d.state n
  inside n h = let r = run_keeps code facts cert input takes ticks last d reached in held_inside code facts cert last d r.0 r.1 n h

  pub ends_innermost : (n : ℕ) (o : Object) → Ends code d n → Lives d.state.world n o → o.region ≡ Freeze d.state.regions
  ends_innermost n o h lives = let i = inside n h in dies_inside i.0 i.1 d.state.world d.state.regions n o lives i.2

  pub no_root_ends : (n : ℕ) (o : Object) → Ends code d n → Lives d.state.world n o → (k : ℕ) (p : Object) → Lives d.state.world k p → p.region ≢ Isolate n
  no_root_ends n o h lives = let i = inside n h in ends_no_root i.0 i.1 d.state.world d.state.regions n o lives i.2
