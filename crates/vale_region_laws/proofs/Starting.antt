-- Every run begins with a configuration that fits.
use Rattle.std.proofs.Common.{◌≡◌, ℕ, zero, suc, ◌+◌, ℤ, List, [], ◌∷◌, Option, Some, None, refl, sym, subst, arith}
use Rattle.vale_state_spec.specs.State.{State, Given, no_input, numbers, lines, given, ints, texts, begin, born, function_frame, spend_of}
use Rattle.vale_state_spec.specs.World.{Value, Own, next_name}
use Rattle.vale_code.specs.Enter.{Form, Plain, Pure, Iteration, Destructor, enter}
use Rattle.vale_code.specs.Frames.{Next, ticked}
use Rattle.vale_code.specs.Kinds.{text_at}
use Rattle.vale_code.specs.Parts.{Parts}
use Rattle.vale_code.specs.Run.{with_input, if_plain, start, first_spot}
use Rattle.vale_code.specs.declared.func.Func.{Func}
use Rattle.vale_code.specs.declared.ty.Ty.{Ty}
use Rattle.vale_code.specs.declared.ty.Ty.TheVariants as t
use Rattle.vale_region_laws.specs.Configs.{IsUnder, form_at, NextFits, in_args}
use Rattle.vale_region_laws.specs.Passing.{IsPlain}
use Rattle.vale_region_laws.specs.Regions.{Each, At, Homes, How, Held, holding_all}
use Rattle.vale_region_laws.proofs.Dropping.{with_known}
use Rattle.vale_region_laws.proofs.Frames.{enter_fits}
use Rattle.vale_region_laws.proofs.Holding.{add_fits, plain_owns, plain_held}
use Rattle.vale_region_laws.proofs.States.{FitsAt, make_fits, born_regions}
use Rattle.vale_region_laws.proofs.StepLaws.{begins_fit}

nowhere : Homes
nowhere n = At 0

ints_plain : (zs : List ℤ) → Each IsPlain (ints zs)
ints_plain [] = tt
ints_plain (z ∷ zs) = (tt, ints_plain zs)

texts_plain : (ts : List (List ℕ)) → Each IsPlain (texts ts)
texts_plain [] = tt
texts_plain (u ∷ ts) = (tt, texts_plain ts)

pub plain_fits : (home : Homes) (s : State) (vs : List Value) → Each IsPlain vs → FitsAt home [] s → FitsAt home (holding_all s.regions vs []) s
plain_fits home s [] h f = f
plain_fits home s (v ∷ vs) h f = add_fits home [] s (Held s.regions) v (holding_all s.regions vs []) (plain_owns v h.0) (omega arith, plain_held home s.world s.regions v h.0) (plain_fits home s vs h.1 f)

abbrev pub ArePlain : Option (List Value) → Type 0
ArePlain None = Unit {0}
ArePlain (Some vs) = Each IsPlain vs

pub given_plain : (input : Given) → ArePlain (given input)
given_plain no_input = tt
given_plain (numbers zs) = ints_plain zs
given_plain (lines ts) = texts_plain ts

module _ (code : Parts) (ticks : ℕ) where
  first : FitsAt (λ n. At 0) [] (begin ticks)
  first = begins_fit

  abbrev Goes : (List Value → State → Next) → Type 0
  Goes go = (args : List Value) (ps : List How) (s : State) → s.regions ≡ 0 → Each (IsUnder 0 0) ps → FitsAt (λ n. At 0) (in_args ps args []) s → NextFits code (go args s)

  input_fits : (tys : List Ty) (values : Option (List Value)) (go : List Value → State → Next) → ArePlain values → Goes go → NextFits code (with_input tys values (begin ticks) go)
  input_fits [] None go h each = each [] [] (begin ticks) refl tt first
  input_fits (t.Own kind ∷ []) (Some values) go h each = from ticks
    where
      from : (n : ℕ) → NextFits code (ticked (spend_of n (begin ticks)) (begin ticks) (λ u. go (Own (next_name u.world) ∷ []) (born kind values u)))
      from zero = tt
      from (suc n) = each (Own 0 ∷ []) (Held 0 ∷ []) (born kind values (record (begin ticks) { left = n; spent = 0 + 1 })) (born_regions kind values (record (begin ticks) { left = n; spent = 0 + 1 })) (omega arith, tt)
          (make_fits (λ n. At 0) [] (record (begin ticks) { left = n; spent = 0 + 1 }) kind values (plain_fits (λ n. At 0) (record (begin ticks) { left = n; spent = 0 + 1 }) values h first))
  input_fits _ _ go h each = tt

  pub start_fits : (input : Given) → NextFits code (start code input ticks)
  start_fits input = with_known code code.main (begin ticks) _ (λ form func is found. by form func is)
    where
      by : (form : Form) (func : Func) → form_at code code.main ≡ Some form
          → NextFits code (if_plain form (begin ticks) (with_input func.params (given input) (begin ticks) (λ args s. enter code.main form func (function_frame (text_at code func.name) first_spot) None args [] s)))
      by Plain func is = input_fits func.params (given input) _ (given_plain input)
          (λ args ps s e u f. enter_fits code code.main Plain func (function_frame (text_at code func.name) first_spot) None ps args [] s (λ n. At 0) [] is tt (subst (λ c. Each (IsUnder c c) ps) (sym e) u) f)
      by Pure func is = tt
      by Iteration func is = tt
      by Destructor func is = tt
