-- A run of certified code begins in the region invariant, and each configuration that it comes to keeps it.
use Rattle.std.proofs.Common.{◌≡◌, ℕ, zero, suc, ◌+◌, List, [], ◌∷◌, map, Option, Some, None, true, refl, sym, ◌∙◌, subst}
use Rattle.std.specs.Prelude.{slice_get}
use Rattle.vale_state_spec.specs.State.{State, Given, given, begin, born, function_frame, spend_of}
use Rattle.vale_state_spec.specs.World.{Value, Own, next_name}
use Rattle.vale_code.specs.Act.{step_by}
use Rattle.vale_code.specs.Enter.{Form, Plain, Pure, Iteration, Destructor, form_of, enter}
use Rattle.vale_code.specs.Frames.{Config, Next, ticked}
use Rattle.vale_code.specs.Kinds.{text_at}
use Rattle.vale_code.specs.Parts.{Parts}
use Rattle.vale_code.specs.Run.{with_input, if_plain, start, first_spot}
use Rattle.vale_code.specs.declared.func.Func.{Func}
use Rattle.vale_code.specs.declared.ty.Ty.{Ty}
use Rattle.vale_code.specs.declared.ty.Ty.TheVariants as t
use Rattle.vale_cert.specs.Certificate.{Certified}
use Rattle.vale_cert.specs.Input.{takes_input}
use Rattle.vale_cert.specs.declared.facts.FuncFacts.{FuncFacts}
use Rattle.vale_cert.proofs.Safe.{config_step}
use Rattle.vale_cert.proofs.Standing.{ConfigFits as TypesFit, NextFits as TypesNext}
use Rattle.vale_cert.proofs.Start as types
use Rattle.vale_region_laws.specs.Configs.{in_args}
use Rattle.vale_region_laws.specs.Holding.{held_as}
use Rattle.vale_region_laws.specs.Regions.{Each, At}
use Rattle.vale_region_laws.specs.Regions as how
use Rattle.vale_region_laws.proofs.Starting.{ArePlain, given_plain, plain_fits}
use Rattle.vale_region_laws.proofs.StepLaws.{begins_fit}
use Rattle.vale_region_laws.proofs.States.{FitsAt, make_fits, born_regions}
use Rattle.vale_region_cert.specs.Joined.{RegionsFit, RegionsNext}
use Rattle.vale_region_cert.specs.Reached.{Reached, here, later}
use Rattle.vale_region_cert.specs.Told.{passed_as}
use Rattle.vale_region_cert.proofs.Frames.{with_known, enters}
use Rattle.vale_region_cert.proofs.Steps.{config_keeps}

module _ (code : Parts) (facts : List FuncFacts) (cert : Certified code facts) (ticks : ℕ) where
  begins : (func : Func) (args : List Value) (s : State) → slice_get code.funcs code.main ≡ Some func → form_of func.form ≡ Some Plain → s.regions ≡ 0 → FitsAt (λ n. At 0) (in_args (map (passed_as s.regions) func.params) args []) s
      → RegionsNext code facts (enter code.main Plain func (function_frame (text_at code func.name) first_spot) None args [] s)
  begins func args s found is e fits = enters code facts cert code.main Plain func (function_frame (text_at code func.name) first_spot) None args [] s (λ n. At 0) [] found is tt (sym e) tt fits tt

  input_fits : (func : Func) → slice_get code.funcs code.main ≡ Some func → form_of func.form ≡ Some Plain → (tys : List Ty) → func.params ≡ tys → (values : Option (List Value)) → ArePlain values
      → RegionsNext code facts (with_input tys values (begin ticks) (λ args s. enter code.main Plain func (function_frame (text_at code func.name) first_spot) None args [] s))
  input_fits func found is [] params None h = begins func [] (begin ticks) found is refl (subst (λ tys. FitsAt (λ n. At 0) (in_args (map (passed_as 0) tys) [] []) (begin ticks)) (sym params) begins_fit)
  input_fits func found is (t.Own kind ∷ []) params (Some values) h = from ticks
    where
      made : (u : State) → u.world ≡ [] → u.regions ≡ 0 → FitsAt (λ n. At 0) [] u → RegionsNext code facts (enter code.main Plain func (function_frame (text_at code func.name) first_spot) None (Own (next_name u.world) ∷ []) [] (born kind values u))
      made u w e fits = begins func (Own (next_name u.world) ∷ []) (born kind values u) found is (born_regions kind values u ∙ e)
          (subst (λ tys. FitsAt (λ n. At 0) (in_args (map (passed_as (born kind values u).regions) tys) (Own (next_name u.world) ∷ []) []) (born kind values u)) (sym params)
          (subst (λ c. FitsAt (λ n. At 0) (held_as (how.Held c) (Own (next_name u.world)) ∷ []) (born kind values u)) (sym (born_regions kind values u))
          (make_fits (λ n. At 0) [] u kind values (plain_fits (λ n. At 0) u values h fits))))

      from : (n : ℕ) → RegionsNext code facts (ticked (spend_of n (begin ticks)) (begin ticks) (λ u. enter code.main Plain func (function_frame (text_at code func.name) first_spot) None (Own (next_name u.world) ∷ []) [] (born kind values u)))
      from zero = tt
      from (suc n) = made (record (begin ticks) { left = n; spent = 0 + 1 }) refl refl begins_fit
  input_fits func found is _ params _ h = tt

  pub start_keeps : (input : Given) → RegionsNext code facts (start code input ticks)
  start_keeps input = with_known code facts code.main (begin ticks) _ (λ form func found is. by form func found is)
    where
      by : (form : Form) (func : Func) → slice_get code.funcs code.main ≡ Some func → form_of func.form ≡ Some form
          → RegionsNext code facts (if_plain form (begin ticks) (with_input func.params (given input) (begin ticks) (λ args s. enter code.main form func (function_frame (text_at code func.name) first_spot) None args [] s)))
      by Plain func found is = input_fits func found is func.params refl (given input) (given_plain input)
      by Pure func found is = tt
      by Iteration func found is = tt
      by Destructor func found is = tt

both : (code : Parts) (facts : List FuncFacts) → Certified code facts → (last : Config → State) (x : Next) (d : Config) → TypesNext code facts x → RegionsNext code facts x → Reached code last x d → TypesFit code facts d × RegionsFit code facts d
both code facts cert last x d types regions (here _) = (types, regions)
both code facts cert last x d types regions (later c _ more) =
    both code facts cert last (step_by code last c) d (config_step code facts cert last types.ty c.top c.below c.state types.top types.below types.heap types.owned) (config_keeps code facts cert last c types regions) more

pub run_keeps : (code : Parts) (facts : List FuncFacts) → Certified code facts → (input : Given) → takes_input code input ≡ true → (ticks : ℕ) (last : Config → State) (d : Config) → Reached code last (start code input ticks) d
    → TypesFit code facts d × RegionsFit code facts d
run_keeps code facts cert input takes ticks last d reached =
    both code facts cert last (start code input ticks) d (types.start_fits code facts cert input takes ticks) (start_keeps code facts cert ticks input) reached
