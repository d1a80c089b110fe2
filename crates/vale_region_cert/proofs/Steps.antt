-- Every step of certified code keeps the region invariant.
use Rattle.std.proofs.Common.{◌≡◌, ◌<◌, ℕ, ◌+◌, List, [], ◌∷◌, ◌++◌, length, Option, Some, None, Bool, true, false, ◌&&◌, ◌==◌, refl, sym, ap, ◌∙◌, subst, arith}
use Rattle.std.specs.Prelude.{slice_get}
use Rattle.std.proofs.lemmas.Bool.{and_parts}
use Rattle.std.proofs.lemmas.Option.{slice_get-get_or}
use Rattle.std.proofs.Math.Seq.{get_or-append_seam}
use Rattle.vale_state_spec.specs.State.{State, shown}
use Rattle.vale_text.specs.Steps as step
use Rattle.vale_code.specs.Act.{act, act_if, step_of}
use Rattle.vale_code.specs.Frames.{Active, Frame, Running, Dropping, Looping, Alone, Config}
use Rattle.vale_code.specs.Instructions.{fetch, instruction_in, truth_of, comparison_of, text_length}
use Rattle.vale_code.specs.Parts.{Parts}
use Rattle.vale_code.specs.Registers.{read}
use Rattle.vale_code.specs.declared.instr.Instr.{Instr}
use Rattle.vale_code.specs.declared.instr.Instr.TheVariants as i
use Rattle.vale_code.specs.declared.ty.Ty.{Ty}
use Rattle.vale_code.specs.declared.ty.Ty.TheVariants as t
use Rattle.vale_code.specs.Kinds.{kind_of}
use Rattle.vale_cert.specs.Certificate.{Certified}
use Rattle.vale_cert.specs.Known.{fact_of, is_there, has, is_free}
use Rattle.vale_cert.specs.Objects.{method_of}
use Rattle.vale_cert.specs.Rules.{is_usable}
use Rattle.vale_cert.specs.Types.{is_void}
use Rattle.vale_cert.specs.Walk.{walk}
use Rattle.vale_cert.specs.declared.facts.FuncFacts.{FuncFacts}
use Rattle.vale_cert.proofs.Fit.{WorldFits, reg_value}
use Rattle.vale_cert.proofs.Going.{Place, fits_here}
use Rattle.vale_cert.proofs.Heap.{in_regs}
use Rattle.vale_cert.proofs.Reading.{owner_found}
use Rattle.vale_cert.proofs.Standing.{ActiveFits, StackFits, OwnedBeside, ConfigFits as TypesFit}
use Rattle.vale_cert.proofs.Walks.{Stepped, stepped}
use Rattle.vale_region_laws.proofs.Plain.{add_out, sub_out, mul_out, div_out, rem_out, compare_out, opposite_out, join_out, slice_out, byte_out, text_of_out, is_number_out, number_out, text_length_out}
use Rattle.vale_region_cert.specs.Joined.{RegionsFit, RegionsNext}
use Rattle.vale_region_cert.proofs.Calls.{calling}
use Rattle.vale_region_cert.proofs.Frames.{with_tick, drops}
use Rattle.vale_region_cert.proofs.Leaving.{upcasting, returns}
use Rattle.vale_region_cert.proofs.Making.{making, opening}
use Rattle.vale_region_cert.proofs.Methods.{method_called}
use Rattle.vale_region_cert.proofs.Reading.{load_own, load_found, elem_own, elem_found, measures_found}
use Rattle.vale_region_cert.proofs.Simple.{any_value, any_two, any_choice, computes, surely, sets, stays, prints, jumps, branches, copying, moving, borrowing, dropping, returns_nothing}
use Rattle.vale_region_cert.proofs.Writing.{swaps_own, swaps_found, swaps_element_own, swaps_element_found, pushes_it, pops_it}

module _ (code : Parts) (facts : List FuncFacts) (cert : Certified code facts) (last : Config → State) (ty : Ty) (f : Active) (below : List Frame) (s : State) (F : ActiveFits code facts s.world ty f) (under_it : StackFits code facts s.world ty f.dest below)
    (heap : WorldFits code s.world) (owned : OwnedBeside code facts s.world (λ n. in_regs n f.registers) below) (x : RegionsFit code facts (record { top = Running f; below = below; state = s })) where
  abbrev before : (instr : Instr) (instrs : List Instr) → F.rest ≡ instr ∷ instrs → Stepped code F.func F.of.labels F.is_judged.base f.place instr instrs (Some F.known) → Place code facts
  before instr instrs here S = record { ty = ty; f = f; below = below; s = s; F = F; under_it = under_it; heap = heap; owned = owned; instr = instr; instrs = instrs; here = here; S = S }

  void_is : (ty : Ty) → is_void ty ≡ true → ty ≡ t.Void
  void_is t.Void e = refl
  void_is _ e = let y : ⊥ = cc in absurd y

  not_void : (b : Bool) → Rattle.std.proofs.Common.not b ≡ true → b ≡ false
  not_void false e = refl
  not_void true e = let y : ⊥ = cc in absurd y

  at_zero : (n : ℕ) → (n == 0) ≡ true → n ≡ 0
  at_zero n e = grind arith

  acts : (instr : Instr) (instrs : List Instr) → F.rest ≡ instr ∷ instrs → Stepped code F.func F.of.labels F.is_judged.base f.place instr instrs (Some F.known) → RegionsNext code facts (act code last f below s instr)
  acts (i.Int to n) is e S = sets code facts last (before (i.Int to n) is e S) x refl to t.Int (Rattle.vale_state_spec.specs.World.Int n) refl refl tt
  acts (i.Truth to choice) is e S = any_choice code facts s (truth_of choice) _ (λ b. sets code facts last (before (i.Truth to choice) is e S) x refl to t.Truth (Rattle.vale_state_spec.specs.World.Truth b) refl refl tt)
  acts (i.Text to n) is e S = any_choice code facts s (slice_get code.texts n) _ (λ w. sets code facts last (before (i.Text to n) is e S) x refl to t.Text (Rattle.vale_state_spec.specs.World.Text w) refl refl tt)
  acts (i.Copy to a) is e S = copying code facts last (before (i.Copy to a) is e S) x refl to a S.keeps.types (and_parts _ _ S.keeps.present).0 S.keeps.depths refl
  acts (i.Add to a b at) is e S = any_two code facts s (read f.registers a) (read f.registers b) _ (λ v w. computes code facts last (before (i.Add to a b at) is e S) x refl to t.Int at (step.add v w s) refl refl (add_out s v w))
  acts (i.Sub to a b at) is e S = any_two code facts s (read f.registers a) (read f.registers b) _ (λ v w. computes code facts last (before (i.Sub to a b at) is e S) x refl to t.Int at (step.sub v w s) refl refl (sub_out s v w))
  acts (i.Mul to a b at) is e S = any_two code facts s (read f.registers a) (read f.registers b) _ (λ v w. computes code facts last (before (i.Mul to a b at) is e S) x refl to t.Int at (step.mul v w s) refl refl (mul_out s v w))
  acts (i.Div to a b at) is e S = any_two code facts s (read f.registers a) (read f.registers b) _ (λ v w. computes code facts last (before (i.Div to a b at) is e S) x refl to t.Int at (step.div v w s) refl refl (div_out s v w))
  acts (i.Rem to a b at) is e S = any_two code facts s (read f.registers a) (read f.registers b) _ (λ v w. computes code facts last (before (i.Rem to a b at) is e S) x refl to t.Int at (step.rem v w s) refl refl (rem_out s v w))
  acts (i.Cmp to choice a b) is e S = any_choice code facts s (comparison_of choice) _ (λ c. any_two code facts s (read f.registers a) (read f.registers b) _ (λ v w. surely code facts last (before (i.Cmp to choice a b) is e S) x refl to t.Truth (step.compare c v w s) refl refl (compare_out s c v w)))
  acts (i.Not to a) is e S = any_value code facts s (read f.registers a) _ (λ v. surely code facts last (before (i.Not to a) is e S) x refl to t.Truth (step.opposite v s) refl refl (opposite_out s v))
  acts (i.Join to a b at) is e S = any_two code facts s (read f.registers a) (read f.registers b) _ (λ v w. computes code facts last (before (i.Join to a b at) is e S) x refl to t.Text at (step.join v w s) refl refl (join_out s v w))
  acts (i.TextLen to a) is e S = any_value code facts s (read f.registers a) _ (λ v. surely code facts last (before (i.TextLen to a) is e S) x refl to t.Int (text_length v s) refl refl (text_length_out s v))
  acts (i.Slice to a y z at) is e S = any_value code facts s (read f.registers a) _ (λ v. any_two code facts s (read f.registers y) (read f.registers z) _ (λ u w. computes code facts last (before (i.Slice to a y z at) is e S) x refl to t.Text at (step.slice v u w s) refl refl (slice_out s v u w)))
  acts (i.Byte to a y at) is e S = any_two code facts s (read f.registers a) (read f.registers y) _ (λ v w. computes code facts last (before (i.Byte to a y at) is e S) x refl to t.Int at (step.byte v w s) refl refl (byte_out s v w))
  acts (i.TextOf to a) is e S = any_value code facts s (read f.registers a) _ (λ v. surely code facts last (before (i.TextOf to a) is e S) x refl to t.Text (step.text_of v s) refl refl (text_of_out s v))
  acts (i.IsNum to a) is e S = any_value code facts s (read f.registers a) _ (λ v. surely code facts last (before (i.IsNum to a) is e S) x refl to t.Truth (step.is_number v s) refl refl (is_number_out s v))
  acts (i.Num to a at) is e S = any_value code facts s (read f.registers a) _ (λ v. computes code facts last (before (i.Num to a at) is e S) x refl to t.Int at (step.number v s) refl refl (number_out s v))
  acts (i.Print a choice) is e S = any_choice code facts s (truth_of choice) _ (λ line. any_value code facts s (read f.registers a) _ (λ v. prints code facts last (before (i.Print a choice) is e S) x refl line (shown v) refl))
  acts (i.Jump q) is e S = jumps code facts last (before (i.Jump q) is e S) x q refl refl
  acts (i.Unless a q) is e S = branches code facts last (before (i.Unless a q) is e S) x refl (read f.registers a) q refl refl
  acts i.Tick is e S = with_tick code facts s _ (λ n. stays code facts last (before i.Tick is e S) x refl (record s { left = n; spent = s.spent + 1 }) refl refl refl)
  acts (i.Call to g args at) is e S = calling code facts cert last (before (i.Call to g args at) is e S) x refl to g args at (slice_get code.funcs g) refl S.keeps.types S.keeps.present S.keeps.depths refl
  acts (i.Ret a) is e S =
      let P = before (i.Ret a) is e S in
      let fact = fact_of S.known.regs a in
      let types = and_parts (Rattle.std.proofs.Common.not (is_void F.func.result)) (has F.func.result fact) S.keeps.types in
      let present = and_parts (true && is_there fact) _ S.keeps.present in
      let there = (and_parts true (is_there fact) present.0).1 in
      let depths = and_parts (true && is_usable S.known.depth fact) (S.known.depth == 0) S.keeps.depths in
      let usable = (and_parts true (is_usable S.known.depth fact) depths.0).1 in
      let v = reg_value code s.world S.known.regs f.registers a F.func.result (fits_here code facts P) types.1 there in
      returns code facts last P x (at_zero S.known.depth depths.1) a v.0 (not_void (is_void F.func.result) types.0) there types.1 usable v.1 v.2.shape
  acts i.RetVoid is e S =
      returns_nothing code facts last (before i.RetVoid is e S) x (at_zero S.known.depth (and_parts true (S.known.depth == 0) S.keeps.depths).1) (void_is F.func.result S.keeps.types)
  acts (i.Move to a) is e S = moving code facts last (before (i.Move to a) is e S) x refl to a S.keeps.types (and_parts (is_there (fact_of S.known.regs a)) _ S.keeps.present).0 S.keeps.depths refl
  acts (i.Borrow to a) is e S =
      let P = before (i.Borrow to a) is e S in
      let fact = fact_of S.known.regs a in
      let w = owner_found code facts P (λ o. o) a (is_usable S.known.depth fact) refl S.keeps.types (and_parts (is_there fact) (is_free (fact_of S.known.regs to)) S.keeps.present).0 in
      borrowing code facts last P x refl to a w.kind w.via S.keeps.depths refl
  acts (i.Destroy a at) is e S = dropping code facts last (before (i.Destroy a at) is e S) x cert refl a at S.keeps.types S.keeps.present S.keeps.depths refl
  acts (i.LoadOwn to a field) is e S = load_own code facts cert last (before (i.LoadOwn to a field) is e S) x refl to a field S.keeps.types S.keeps.present S.keeps.depths refl
  acts (i.Load to a field at) is e S = load_found code facts cert last (before (i.Load to a field at) is e S) x refl to a field at S.keeps.types S.keeps.present S.keeps.depths refl
  acts (i.ElemOwn to a y at) is e S = elem_own code facts cert last (before (i.ElemOwn to a y at) is e S) x refl to a y at S.keeps.types S.keeps.present S.keeps.depths refl
  acts (i.Elem to a y at) is e S = elem_found code facts cert last (before (i.Elem to a y at) is e S) x refl to a y at S.keeps.types S.keeps.present S.keeps.depths refl
  acts (i.Len to a at) is e S = measures_found code facts cert last (before (i.Len to a at) is e S) x refl to a at refl
  acts (i.SwapOwn to a field b) is e S = swaps_own code facts cert last (before (i.SwapOwn to a field b) is e S) x refl to a field b S.keeps.types S.keeps.present S.keeps.depths refl
  acts (i.Swap to a field b at) is e S = swaps_found code facts cert last (before (i.Swap to a field b at) is e S) x refl to a field b at S.keeps.types S.keeps.present S.keeps.depths refl
  acts (i.SwapElOwn to a y b at) is e S = swaps_element_own code facts cert last (before (i.SwapElOwn to a y b at) is e S) x refl to a y b at S.keeps.types S.keeps.present S.keeps.depths refl
  acts (i.SwapEl to a y b at) is e S = swaps_element_found code facts cert last (before (i.SwapEl to a y b at) is e S) x refl to a y b at S.keeps.types S.keeps.present S.keeps.depths refl
  acts (i.Push a b at) is e S = pushes_it code facts cert last (before (i.Push a b at) is e S) x refl a b at S.keeps.types S.keeps.present S.keeps.depths refl
  acts (i.Pop to a at) is e S = pops_it code facts cert last (before (i.Pop to a at) is e S) x refl to a at S.keeps.types S.keeps.present S.keeps.depths refl
  acts (i.Make to kind args) is e S = making code facts cert last (before (i.Make to kind args) is e S) x refl to kind args (kind_of code kind) refl S.keeps.types S.keeps.present S.keeps.depths refl
  acts (i.Open tos a) is e S = opening code facts cert last (before (i.Open tos a) is e S) x refl tos a S.keeps.types S.keeps.present S.keeps.depths refl
  acts (i.Upcast to a kind) is e S = upcasting code facts last (before (i.Upcast to a kind) is e S) x refl to a kind S.keeps.types (and_parts (is_there (fact_of S.known.regs a)) _ S.keeps.present).0 S.keeps.depths refl
  acts (i.CallM to interface method a args at) is e S = method_called code facts cert last (before (i.CallM to interface method a args at) is e S) x refl to interface method a args at (method_of code interface method) refl S.keeps.types S.keeps.present S.keeps.depths refl
  acts _ is e S = let z : false ≡ true = S.keeps.types in absurd (let y : ⊥ = cc in y)

  pub step_keeps : RegionsNext code facts (step_of code last (Running f) below s)
  step_keeps = from F.rest refl F.walks
    where
      from : (is : List Instr) → F.rest ≡ is → walk code F.func F.of.labels F.is_judged.base f.place is F.came (Some F.known) ≡ None → RegionsNext code facts (step_of code last (Running f) below s)
      from [] e w =
          let whole : F.func.body ≡ F.before ++ [] = F.split ∙ ap (λ l. F.before ++ l) e in
          let long : length F.func.body ≡ length (F.before ++ []) = ap length whole in
          absurd (omega (arith, long, Rattle.std.proofs.Common.length-append F.before [], F.at, F.inside))
      from (instr ∷ instrs) e w =
          let whole : F.func.body ≡ F.before ++ instr ∷ instrs = F.split ∙ ap (λ l. F.before ++ l) e in
          let within : length F.before < length (F.before ++ instr ∷ instrs) = omega (arith, Rattle.std.proofs.Common.length-append F.before (instr ∷ instrs)) in
          let here : slice_get (F.before ++ instr ∷ instrs) (length F.before) ≡ Some instr = slice_get-get_or (F.before ++ instr ∷ instrs) (length F.before) instr within ∙ ap Some (get_or-append_seam F.before instr instrs instr) in
          let fetched : fetch code f.function f.place ≡ Some instr =
          ap (λ o. instruction_in o f.place) F.found ∙ ap (λ l. slice_get l f.place) whole ∙ ap (λ n. slice_get (F.before ++ instr ∷ instrs) n) (sym F.at) ∙ here in
          subst (λ o. RegionsNext code facts (act_if code last f below s o)) (sym fetched)
          (acts instr instrs e (stepped code F.func F.of.labels F.is_judged.base f.place instr instrs F.came (Some F.known) w))

-- each step of a configuration whose types fit
pub config_keeps : (code : Parts) (facts : List FuncFacts) → Certified code facts → (last : Config → State) (d : Config) → TypesFit code facts d → RegionsFit code facts d → RegionsNext code facts (step_of code last d.top d.below d.state)
config_keeps code facts cert last d types x = from d.top d.below d.state types.ty types.top types.below types.heap types.owned x
  where
    from : (top : Frame) (below : List Frame) (s : State) (ty : Ty) → Rattle.vale_cert.proofs.Standing.FrameFits code facts s.world ty top → StackFits code facts s.world ty (Rattle.vale_cert.proofs.Standing.dest_of top) below → WorldFits code s.world
        → OwnedBeside code facts s.world (λ n. Rattle.vale_cert.proofs.Heap.in_frame n top) below → RegionsFit code facts (record { top = top; below = below; state = s }) → RegionsNext code facts (step_of code last top below s)
    from (Running f) below s ty fits st heap owned x = step_keeps code facts cert last ty f below s fits st heap owned x
    from (Dropping f) below s ty fits st heap owned x = drops code facts cert f below s x
    from (Looping f) below s ty fits st heap owned x = absurd fits
    from (Alone v) below s ty fits st heap owned x = absurd fits
