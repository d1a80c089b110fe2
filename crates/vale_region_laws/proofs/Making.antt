-- Objects are made of values of registers.
use Rattle.std.proofs.Common.{◌≡◌, ℕ, zero, suc, ◌+◌, List, [], ◌∷◌, length, Some, Bool, true, false, if◌then◌else◌, refl, sym, ap, ◌∙◌, subst, arith}
use Rattle.vale_state_spec.specs.State.{State, spend_of, born, make}
use Rattle.vale_state_spec.specs.World.{Value, Own, next_name}
use Rattle.vale_base.specs.declared.name.Kind.{Kind}
use Rattle.vale_code.specs.Act.{act}
use Rattle.vale_code.specs.Frames.{Active, Frame, Config, ticked, after_tick, wrong}
use Rattle.vale_code.specs.Instructions.{certain, with_read}
use Rattle.vale_code.specs.Kinds.{holds_values, kind_of}
use Rattle.vale_code.specs.Parts.{Parts}
use Rattle.vale_code.specs.Registers.{Registers, read, kept, and_then, after_keeping, read_all}
use Rattle.vale_code.specs.declared.instr.Instr.TheVariants as i
use Rattle.vale_region_laws.specs.Holding.{Marks, put_mark, in_registers, taken}
use Rattle.vale_region_laws.specs.Passing.{StoreAll, no_more, one_more}
use Rattle.vale_region_laws.specs.Regions.{Homes, Held, Holder, holding, holding_all}
use Rattle.vale_region_laws.proofs.Acts.{Around, NextFits_}
use Rattle.vale_region_laws.proofs.Holding.{store_fits, give_fits}
use Rattle.vale_region_laws.proofs.Moving.{held_fits}
use Rattle.vale_region_laws.proofs.Passing.{Moves, moves_first, moves_one, moves_registers}
use Rattle.vale_region_laws.proofs.States.{FitsAt, make_fits, born_regions}

pub moves_held : (h : Holder) (a : ℕ) (vs : List Value) (hs gs : List Holder) → Moves h hs gs → Moves h (holding_all a vs hs) (holding_all a vs gs)
moves_held h a [] hs gs x = x
moves_held h a (v ∷ vs) hs gs x = moves_one h (holding a v) _ _ (moves_held h a vs hs gs x)

read_more : (r : ℕ) (rs : List ℕ) (regs : Registers) (v : Value) (vs : List Value) (after : Registers) → read regs r ≡ Some v → read_all rs (kept r v regs) ≡ Some (record { values = vs; after = after })
    → read_all (r ∷ rs) regs ≡ Some (record { values = v ∷ vs; after = after })
read_more r rs regs v vs after e h = ap (λ x. and_then x (read_all rs (after_keeping r x regs))) e ∙ ap (and_then (Some v)) h

pub all_read : (c : ℕ) (rs : List ℕ) (ms : Marks) (regs : Registers) (vs : List Value) (ns : Marks) (after : Registers) → StoreAll c rs ms regs vs ns after → read_all rs regs ≡ Some (record { values = vs; after = after })
all_read c rs ms regs vs ns after (no_more _ _) = refl
all_read c rs ms regs vs ns after (one_more r rs' _ _ v vs' _ _ e m rest) = read_more r rs' regs v vs' after e (all_read c rs' (taken r v ms) (kept r v regs) vs' ns after rest)

pub all_stored : (s : State) (home : Homes) (rs : List ℕ) (ms : Marks) (regs : Registers) (vs : List Value) (ns : Marks) (after : Registers) (hs : List Holder) → StoreAll s.regions rs ms regs vs ns after
    → FitsAt home (in_registers ms regs hs) s → FitsAt home (holding_all s.regions vs (in_registers ns after hs)) s
all_stored s home rs ms regs vs ns after hs (no_more _ _) f = f
all_stored s home rs ms regs vs ns after hs (one_more r rs' _ _ v vs' _ _ e m rest) f =
    let f1 = store_fits home hs s r v ms regs m e f in
    let behind = moves_registers (holding s.regions v) (taken r v ms) (kept r v regs) hs (holding s.regions v ∷ hs) (moves_first (holding s.regions v) hs) in
    let f2 = held_fits home (holding s.regions v ∷ in_registers (taken r v ms) (kept r v regs) hs) (in_registers (taken r v ms) (kept r v regs) (holding s.regions v ∷ hs)) s.world s.regions
    (λ n. let y = behind.counts n in omega (arith, y)) (behind.goes _ f1.holders.0 f1.holders.1) f1 in
    let f3 = all_stored s home rs' (taken r v ms) (kept r v regs) vs' ns after (holding s.regions v ∷ hs) rest f2 in
    let front = moves_held (holding s.regions v) s.regions vs' (in_registers ns after hs) (in_registers ns after (holding s.regions v ∷ hs)) (moves_registers (holding s.regions v) ns after hs (holding s.regions v ∷ hs) (moves_first (holding s.regions v) hs)) in
    held_fits home (holding_all s.regions vs' (in_registers ns after (holding s.regions v ∷ hs))) (holding s.regions v ∷ holding_all s.regions vs' (in_registers ns after hs)) s.world s.regions
    (λ n. let y = front.counts n in omega (arith, y)) (front.comes _ f3.holders) f3

module _ (code : Parts) (last : Config → State) (f : Active) (below : List Frame) (s : State) (home : Homes) (hs : List Holder) (ms : Marks) (fits : FitsAt home (in_registers ms f.registers hs) s) where
  abbrev r : Around
  r = record { function = f.function; dest = f.dest; place = f.place + 1; below = below; opened = s.regions }

  pub make_next : (to : ℕ) (kind : Kind) (args : List ℕ) (vs : List Value) (ns : Marks) (after : Registers) → StoreAll s.regions args ms f.registers vs ns after
      → NextFits_ r (put_mark ns to (Some (Held s.regions))) hs (act code last f below s (i.Make to kind args))
  make_next to kind args vs ns after st = room (holds_values (kind_of code kind) (length args))
    where
      made : (n : ℕ) → NextFits_ r (put_mark ns to (Some (Held s.regions))) hs (ticked (spend_of n s) s (λ t. certain f (Some to) after below t (make kind vs t)))
      made zero = tt
      made (suc n) = (
        home,
        give_fits home hs (born kind vs (record s { left = n; spent = s.spent + 1 })) to (Held s.regions) (Own (next_name s.world)) ns after
            (make_fits home (in_registers ns after hs) (record s { left = n; spent = s.spent + 1 }) kind vs (all_stored s home args ms f.registers vs ns after hs st fits)),
        refl,
        refl,
        refl,
        refl,
        born_regions kind vs (record s { left = n; spent = s.spent + 1 }),
      )

      room : (b : Bool) → NextFits_ r (put_mark ns to (Some (Held s.regions))) hs (if b then with_read (read_all args f.registers) s (λ vs regs. after_tick s (λ t. certain f (Some to) regs below t (make kind vs t))) else wrong s)
      room false = tt
      room true = subst (λ y. NextFits_ r (put_mark ns to (Some (Held s.regions))) hs (with_read y s (λ vs regs. after_tick s (λ t. certain f (Some to) regs below t (make kind vs t)))))
          (sym (all_read s.regions args ms f.registers vs ns after st)) (made s.left)
