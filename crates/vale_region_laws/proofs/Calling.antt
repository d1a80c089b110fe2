-- Calls and parallel loops as instructions.
use Rattle.std.proofs.Common.{◌≡◌, ℕ, suc, List, [], ◌∷◌, map, Option, Some, true, false, sym, subst, arith}
use Rattle.std.specs.Prelude.{slice_get}
use Rattle.vale_state_spec.specs.State.{State}
use Rattle.vale_state_spec.specs.World.{Value}
use Rattle.vale_base.specs.declared.spot.Spot.{Spot}
use Rattle.vale_code.specs.Act.{act, called, loops, without_first}
use Rattle.vale_code.specs.Enter.{Form, Plain, Pure, Iteration, Destructor, if_called, if_iteration}
use Rattle.vale_code.specs.Frames.{Active, Items, Frame, Running, Config, Next}
use Rattle.vale_code.specs.Instructions.{behind, with_read}
use Rattle.vale_code.specs.Kinds.{result_to}
use Rattle.vale_code.specs.Loops.{loop_begins}
use Rattle.vale_code.specs.Parts.{Parts}
use Rattle.vale_code.specs.Registers.{Registers, Read, give_all}
use Rattle.vale_code.specs.declared.func.Func.{Func}
use Rattle.vale_code.specs.declared.instr.Instr.TheVariants as i
use Rattle.vale_region_laws.specs.Asks.{CallAsks}
use Rattle.vale_region_laws.specs.Configs.{MarkUnder, form_at, StackFits, ConfigFits, NextFits}
use Rattle.vale_region_laws.specs.Holding.{Marks, in_registers, items_wait, in_frames}
use Rattle.vale_region_laws.specs.Passing.{seen_in}
use Rattle.vale_region_laws.specs.Regions.{Each, Homes, Sees, NoDeeper}
use Rattle.vale_region_laws.proofs.Dropping.{with_known}
use Rattle.vale_region_laws.proofs.Entering.{see_fits}
use Rattle.vale_region_laws.proofs.Leaving.{called_next, rest_stands, waits_here}
use Rattle.vale_region_laws.proofs.Looping.{begins_fit}
use Rattle.vale_region_laws.proofs.Passing.{all_pass, all_seen, seen_args_under}
use Rattle.vale_region_laws.proofs.Standing.{standing_no_deeper}
use Rattle.vale_region_laws.proofs.States.{FitsAt}

module _ (code : Parts) (last : Config → State) (f : Active) (below : List Frame) (s : State) (x : ConfigFits code (record { top = Running f; below = below; state = s })) where
  low : Each (NoDeeper s.regions) (in_frames x.marks below)
  low = standing_no_deeper s.regions s.regions s.regions (omega arith) (in_frames x.marks below) (rest_stands code last f below s x)

  read_is : (y : Option Read) (r : Read) (go : List Value → Registers → Next) → y ≡ Some r → NextFits code (go r.values r.after) → NextFits code (with_read y s go)
  read_is y r go e h = subst (λ y. NextFits code (with_read y s go)) (sym e) h

  pub call_next : (to g : ℕ) (args : List ℕ) (at : Spot) → ((form : Form) (func : Func) → form_at code g ≡ Some form → slice_get code.funcs g ≡ Some func → CallAsks code f s x.top.marks x.stack.1 x.stack.2 form func args)
      → NextFits code (act code last f below s (i.Call to g args at))
  call_next to g args at asks = with_known code g s _ (λ form func is found. by form func is (asks form func is found))
    where
      by : (form : Form) (func : Func) → form_at code g ≡ Some form → CallAsks code f s x.top.marks x.stack.1 x.stack.2 form func args
          → NextFits code (if_called form s (with_read (give_all func.params args f.registers) s (λ vs regs. called code last f below s g form func to at vs regs)))
      by Plain func is a =
          let all = all_pass s false func.params args x.top.marks f.registers a.hows a.values a.marks a.after x.home (in_frames x.marks below) a.pass x.stack.0 low x.fits in
          read_is (give_all func.params args f.registers) (record { values = a.values; after = a.after }) _ all.given
          (called_next code last f below s x g Plain func to at a.hows a.values a.marks a.after all.home_after is all.marks all.args all.fits)
      by Pure func is a =
          let all = all_pass s true func.params args x.top.marks f.registers a.hows a.values a.marks a.after x.home (in_frames x.marks below) a.pass x.stack.0 low x.fits in
          read_is (give_all func.params args f.registers) (record { values = a.values; after = a.after }) _ all.given
          (called_next code last f below s x g Pure func to at (map (seen_in s.regions) a.hows) a.values a.marks a.after all.home_after is all.marks (seen_args_under s.regions a.hows)
          (all_seen s func.params args x.top.marks f.registers a.hows a.values a.marks a.after all.home_after (in_registers a.marks a.after (in_frames x.marks below)) a.pass all.fits))
      by Iteration func is a = tt
      by Destructor func is a = tt

  -- ---- loops: what all iterations get is seen at their depth

  pub loops_next : (to : ℕ) (items : Items) (g : ℕ) (args : List ℕ) (regs : Registers) (at : Spot) (t : State) (home : Homes) (ns : Marks) → t.regions ≡ s.regions → Each (MarkUnder s.regions s.regions) ns
      → ((func : Func) → slice_get code.funcs g ≡ Some func → (vs : List Value) × (after : Registers) × (ms : Marks) × (give_all (without_first func.params) args regs ≡ Some (record { values = vs; after = after }))
      × Each (MarkUnder s.regions s.regions) ms × Each (Sees home t.world (suc s.regions)) vs × FitsAt home (items_wait items (in_registers ms after (in_frames x.marks below))) t)
      → NextFits code (loops code last f below s to items g args regs at t)
  loops_next to items g args regs at t home ns e u each = with_known code g t _ (λ form func is found. by form func (each func found))
    where
      by : (form : Form) (func : Func)
          → (vs : List Value) × (after : Registers) × (ms : Marks) × (give_all (without_first func.params) args regs ≡ Some (record { values = vs; after = after }))
          × Each (MarkUnder s.regions s.regions) ms × Each (Sees home t.world (suc s.regions)) vs × FitsAt home (items_wait items (in_registers ms after (in_frames x.marks below))) t
          → NextFits code (if_iteration form t (with_read (give_all (without_first func.params) args regs) t (λ vs after.
          loop_begins code last
          (record { function = g; at = at; dest = result_to func.result to; captured = vs; items = items; next = 0; done = []; quiet = t.quiet })
          (behind f after ∷ below) t)))
      by Plain func y = tt
      by Pure func y = tt
      by Destructor func y = tt
      by Iteration func y = subst (λ r. NextFits code (with_read r t (λ vs after.
          loop_begins code last
          (record { function = g; at = at; dest = result_to func.result to; captured = vs; items = items; next = 0; done = []; quiet = t.quiet })
          (behind f after ∷ below) t))) (sym y.3)
          (begins_fit code last (record { function = g; at = at; dest = result_to func.result to; captured = y.0; items = items; next = 0; done = []; quiet = t.quiet }) (behind f y.1 ∷ below) t home
          (record { depth = s.regions; marks = [] }) (record { depth = s.regions; marks = y.2 } ∷ x.marks) (sym e)
          (subst (λ c. StackFits code c c (record { depth = s.regions; marks = y.2 } ∷ x.marks) (behind f y.1 ∷ below)) (sym e) (waits_here code last f below s x y.2 y.1 y.4))
          (see_fits home y.0 _ t.world t.regions (suc s.regions) (omega (arith, e)) y.5 y.6))
