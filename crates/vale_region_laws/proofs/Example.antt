-- A configuration inside a `pure` block, just before its value leaves it: it fits, what the instruction asks holds, and so the
-- configuration after it fits.
use Rattle.std.proofs.Common.{◌≡◌, ◌≤◌, ℕ, zero, suc, ◌+◌, [], ◌∷◌, Some, None, refl, subst, arith}
use Rattle.vale_state_spec.specs.State.{State, begin, main_frame}
use Rattle.vale_state_spec.specs.World.{Own, Freeze, Object, Lives}
use Rattle.vale_code.specs.Act.{step_of}
use Rattle.vale_code.specs.Enter.{Plain}
use Rattle.vale_code.specs.Frames.{Active, Running, Config}
use Rattle.vale_code.specs.Parts.{Parts}
use Rattle.vale_code.specs.declared.func.Func.{Func}
use Rattle.vale_code.specs.declared.instr.Instr.TheVariants as i
use Rattle.vale_code.specs.declared.ty.Ty.TheVariants as t
use Rattle.vale_region_laws.specs.Configs.{ConfigFits, NextFits}
use Rattle.vale_region_laws.specs.Owned.{in_world, alive}
use Rattle.vale_region_laws.specs.Regions.{At, Held, InRegion, ObjectFits, holding, held}
use Rattle.vale_region_laws.proofs.Whole.{step_keeps}

func : Func
func = record { name = 0; form = 0; params = []; result = t.Void; registers = 1; body = i.ThawMerge 0 0 ∷ i.RetVoid ∷ [] }

code : Parts
code = record { texts = []; kinds = []; impls = []; funcs = func ∷ []; main = 0 }

thing : Object
thing = record { region = Freeze 1; kind = record { 0 = 0 }; values = [] }

state_here : State
state_here = record (begin 9) { world = Some thing ∷ []; regions = 1; frozen = 1 }

active : Active
active = record { call = main_frame; function = 0; dest = None; place = 0; registers = Some (Own 0) ∷ [] }

config_fits : ConfigFits code (record { top = Running active; below = []; state = state_here })
unfolding code func active state_here thing
config_fits = record {
  home = λ n. At 0;
  top = record { depth = 1; marks = Some (Held 1) ∷ [] };
  marks = [];
  depth = refl;
  stack = ((omega arith, tt), Plain, 0, refl, omega arith, tt);
  fits = record { once = once; holders = ((omega arith, there), tt); objects = objects };
}
  where
    there : InRegion (Some thing ∷ []) 0 (Freeze 1)
    there = record { object = thing; lives = refl; region = refl }

    once : (n : ℕ) → held n (holding 1 (Own 0) ∷ []) + in_world n (Some thing ∷ []) ≤ alive n (Some thing ∷ [])
    once zero = omega arith
    once (suc n) = omega arith

    objects : (n : ℕ) (o : Object) → Lives (Some thing ∷ []) n o → ObjectFits (λ n. At 0) (Some thing ∷ []) 1 o
    objects zero o e = let q : thing ≡ o = cc in subst (ObjectFits (λ n. At 0) (Some thing ∷ []) 1) q (record { region = omega arith; cells = tt })
    objects (suc n) o e = let y : ⊥ = cc in absurd y

after_fits : (last : Config → State) → NextFits code (step_of code last (Running active) [] state_here)
unfolding code func active state_here thing config_fits
after_fits last = step_keeps code last (Running active) [] state_here config_fits (0, 0, refl, refl, (refl, omega arith, tt, (tt, tt)))
