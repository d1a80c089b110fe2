-- Methods are called.
use Rattle.std.proofs.Common.{◌≡◌, ◌≤◌, ℕ, suc, List, ◌∷◌, map, Option, Some, None, true, false, ◌⊎◌, inl, inr, refl, sym, subst, arith}
use Rattle.std.specs.Prelude.{slice_get}
use Rattle.vale_state_spec.specs.State.{State, name_of, object_of, found_or_dead, look_up, look, lent}
use Rattle.vale_state_spec.specs.World.{Value, Int, Truth, Text, Own, Ref, Iso, Freeze, Object}
use Rattle.vale_base.specs.declared.spot.Spot.{Spot}
use Rattle.vale_code.specs.Act.{called, call_of_object, dispatch, on_looked, without_first}
use Rattle.vale_code.specs.Enter.{Form, Plain, Pure, Iteration, Destructor, if_called}
use Rattle.vale_code.specs.Frames.{Active, Frame, Running, Config, Next}
use Rattle.vale_code.specs.Instructions.{with_value, with_read, with_choice}
use Rattle.vale_code.specs.Kinds.{method_in}
use Rattle.vale_code.specs.Parts.{Parts}
use Rattle.vale_code.specs.Registers.{Registers, Read, read, give_all}
use Rattle.vale_code.specs.declared.func.Func.{Func}
use Rattle.vale_region_laws.specs.Asks.{SeesOut, MethodAsks, Receives}
use Rattle.vale_region_laws.specs.Configs.{IsUnder, form_at, ConfigFits, NextFits, in_args}
use Rattle.vale_region_laws.specs.Holding.{Marks, mark, held_as, in_registers, in_frames}
use Rattle.vale_region_laws.specs.Passing.{seen_in}
use Rattle.vale_region_laws.specs.Regions.{Each, Homes, Within, Sees, How, Held, Seen, Waits, HowFits, HowDeep, Holder, HolderFits, NoDeeper, IsNoDeeper, IsNoIso}
use Rattle.vale_region_laws.proofs.Dropping.{with_known}
use Rattle.vale_region_laws.proofs.Holding.{reads_fit, add_fits}
use Rattle.vale_region_laws.proofs.Leaving.{called_next, rest_stands}
use Rattle.vale_region_laws.proofs.Moving.{held_fits, lent_seen, deeper_seen}
use Rattle.vale_region_laws.proofs.Passing.{moves_first, moves_registers, moves_args, all_pass, all_seen, seen_args_under}
use Rattle.vale_region_laws.proofs.Standing.{standing_no_deeper}
use Rattle.vale_region_laws.proofs.States.{FitsAt}

module _ (code : Parts) (last : Config → State) (f : Active) (below : List Frame) (s : State) (x : ConfigFits code (record { top = Running f; below = below; state = s })) where
  low : Each (NoDeeper s.regions) (in_frames x.marks below)
  low = standing_no_deeper s.regions s.regions s.regions (omega arith) (in_frames x.marks below) (rest_stands code last f below s x)

  read_is : (y : Option Read) (r : Read) (go : List Value → Registers → Next) → y ≡ Some r → NextFits code (go r.values r.after) → NextFits code (with_read y s go)
  read_is y r go e h = subst (λ y. NextFits code (with_read y s go)) (sym e) h

  -- the receiver, as a reference to the object
  pub record Receiver (n : ℕ) : Type 0 where
    pub how : How
    pub low_enough : IsNoDeeper s.regions how
    pub under : IsUnder s.regions s.regions how
    pub fits : HolderFits x.home s.world s.regions (held_as how (Ref n))
    pub inside : (home : Homes) → HowFits home s.world how (Ref n) → HowFits home s.world (seen_in s.regions how) (Ref n)
    pub deep : IsUnder s.regions (suc s.regions) (seen_in s.regions how)

  seen_receiver : (n : ℕ) → Sees x.home s.world s.regions (Ref n) → Receiver n
  seen_receiver n h = record {
    how = Seen s.regions;
    low_enough = omega arith;
    under = omega arith;
    fits = (omega arith, h);
    inside = λ home y. deeper_seen home s.world s.regions (suc s.regions) (Ref n) (omega arith) y;
    deep = omega arith;
  }

  held_receiver : (n : ℕ) → Within x.home s.world (Freeze s.regions) (Ref n) → Receiver n
  held_receiver n h = record {
    how = Held s.regions;
    low_enough = tt;
    under = omega arith;
    fits = (omega arith, h);
    inside = λ home y. lent_seen home s.world (suc s.regions) (Freeze s.regions) (Ref n) (omega arith) y;
    deep = omega arith;
  }

  receiver : (a : ℕ) (v : Value) (n : ℕ) → read f.registers a ≡ Some v → name_of v ≡ Some n → ((how : How) × (mark x.top.marks a ≡ Some how) × SeesOut s.regions how) ⊎ ((mark x.top.marks a ≡ Some (Held s.regions)) × IsNoIso v) → Receiver n
  receiver a v n e g (inl m) = at m.0 v g m.2 (reads_fit x.home (in_frames x.marks below) s a m.0 v x.top.marks f.registers m.1 e x.fits).1
    where
      by : (v : Value) → name_of v ≡ Some n → Sees x.home s.world s.regions (lent v) → Sees x.home s.world s.regions (Ref n)
      by (Own k) g y = let q : k ≡ n = cc in subst (λ n. Sees x.home s.world s.regions (Ref n)) q y
      by (Ref k) g y = let q : k ≡ n = cc in subst (λ n. Sees x.home s.world s.regions (Ref n)) q y
      by (Iso k) g y = let q : k ≡ n = cc in subst (λ n. Sees x.home s.world s.regions (Ref n)) q y
      by (Int k) g y = let z : ⊥ = cc in absurd z
      by (Truth k) g y = let z : ⊥ = cc in absurd z
      by (Text k) g y = let z : ⊥ = cc in absurd z

      seen_by : (b : ℕ) (v : Value) → b ≤ s.regions → Sees x.home s.world b v → Sees x.home s.world s.regions (lent v)
      seen_by b (Own k) le y = absurd y
      seen_by b (Ref k) le y = deeper_seen x.home s.world b s.regions (Ref k) le y
      seen_by b (Iso k) le y = absurd y
      seen_by b (Int k) le y = tt
      seen_by b (Truth k) le y = tt
      seen_by b (Text k) le y = tt

      at : (how : How) (v : Value) → name_of v ≡ Some n → SeesOut s.regions how → HowFits x.home s.world how v → Receiver n
      at (Held b) v g lt y = seen_receiver n (by v g (lent_seen x.home s.world s.regions (Freeze b) v lt y))
      at (Seen b) v g le y = seen_receiver n (by v g (seen_by b v le y))
      at Waits v g le y = absurd le
  receiver a v n e g (inr m) = at v g m.1 (reads_fit x.home (in_frames x.marks below) s a (Held s.regions) v x.top.marks f.registers m.0 e x.fits).1
    where
      at : (v : Value) → name_of v ≡ Some n → IsNoIso v → Within x.home s.world (Freeze s.regions) v → Receiver n
      at (Own k) g none y = let q : k ≡ n = cc in held_receiver n (subst (λ n. Within x.home s.world (Freeze s.regions) (Ref n)) q (inr y))
      at (Ref k) g none y = let q : k ≡ n = cc in held_receiver n (subst (λ n. Within x.home s.world (Freeze s.regions) (Ref n)) q y)
      at (Iso k) g none y = absurd none
      at (Int k) g none y = let z : ⊥ = cc in absurd z
      at (Truth k) g none y = let z : ⊥ = cc in absurd z
      at (Text k) g none y = let z : ⊥ = cc in absurd z

  -- the receiver goes after the registers, and comes before the arguments
  module _ (n : ℕ) (r : Receiver n) where
    first : Holder
    first = held_as r.how (Ref n)

    pub behind : FitsAt x.home (in_registers x.top.marks f.registers (held_as r.how (Ref n) ∷ in_frames x.marks below)) s
    behind =
        let m = moves_registers (held_as r.how (Ref n)) x.top.marks f.registers (in_frames x.marks below) (held_as r.how (Ref n) ∷ in_frames x.marks below) (moves_first (held_as r.how (Ref n)) (in_frames x.marks below)) in
        let added = add_fits x.home (in_frames x.marks below) s r.how (Ref n) (in_registers x.top.marks f.registers (in_frames x.marks below)) (λ k. refl) r.fits x.fits in
        held_fits x.home _ (in_registers x.top.marks f.registers (held_as r.how (Ref n) ∷ in_frames x.marks below)) s.world s.regions (λ n. let y = m.counts n in omega (arith, y)) (m.goes _ added.holders.0 added.holders.1) added

    pub front : (home : Homes) (ps : List How) (vs : List Value) (ns : Marks) (after : Registers) → FitsAt home (in_args ps vs (in_registers ns after (held_as r.how (Ref n) ∷ in_frames x.marks below))) s
        → FitsAt home (held_as r.how (Ref n) ∷ in_args ps vs (in_registers ns after (in_frames x.marks below))) s
    front home ps vs ns after y =
        let m = moves_args (held_as r.how (Ref n)) ps vs (in_registers ns after (in_frames x.marks below)) (in_registers ns after (held_as r.how (Ref n) ∷ in_frames x.marks below))
        (moves_registers (held_as r.how (Ref n)) ns after (in_frames x.marks below) (held_as r.how (Ref n) ∷ in_frames x.marks below) (moves_first (held_as r.how (Ref n)) (in_frames x.marks below))) in
        held_fits home _ (held_as r.how (Ref n) ∷ in_args ps vs (in_registers ns after (in_frames x.marks below))) s.world s.regions (λ n. let y = m.counts n in omega (arith, y)) (m.comes _ y.holders) y

    pub object_called : (to g : ℕ) (args : List ℕ) (at : Spot) → ((form : Form) (func : Func) → form_at code g ≡ Some form → slice_get code.funcs g ≡ Some func → MethodAsks code f s x.top.marks x.stack.1 x.stack.2 form func args)
        → NextFits code (call_of_object code last f below s n to g args at)
    object_called to g args at asks = with_known code g s _ (λ form func is found. by form func is (asks form func is found))
      where
        in_deep : (p : How) → IsUnder s.regions (suc s.regions) p → HowDeep s.regions p
        in_deep (Held a) u = u
        in_deep (Seen a) u = u
        in_deep Waits u = tt

        by : (form : Form) (func : Func) → form_at code g ≡ Some form → MethodAsks code f s x.top.marks x.stack.1 x.stack.2 form func args
            → NextFits code (if_called form s (with_read (give_all (without_first func.params) args f.registers) s (λ vs regs. called code last f below s g form func to at (Ref n ∷ vs) regs)))
        by Plain func is a =
            let all = all_pass s false (without_first func.params) args x.top.marks f.registers a.hows a.values a.marks a.after x.home (held_as r.how (Ref n) ∷ in_frames x.marks below) a.pass x.stack.0 (r.low_enough, low) behind in
            read_is (give_all (without_first func.params) args f.registers) (record { values = a.values; after = a.after }) _ all.given
            (called_next code last f below s x g Plain func to at (r.how ∷ a.hows) (Ref n ∷ a.values) a.marks a.after all.home_after is all.marks (r.under, all.args) (front all.home_after a.hows a.values a.marks a.after all.fits))
        by Pure func is a =
            let all = all_pass s true (without_first func.params) args x.top.marks f.registers a.hows a.values a.marks a.after x.home (held_as r.how (Ref n) ∷ in_frames x.marks below) a.pass x.stack.0 (r.low_enough, low) behind in
            let seen = all_seen s (without_first func.params) args x.top.marks f.registers a.hows a.values a.marks a.after all.home_after (in_registers a.marks a.after (held_as r.how (Ref n) ∷ in_frames x.marks below)) a.pass all.fits in
            let there = front all.home_after (map (seen_in s.regions) a.hows) a.values a.marks a.after seen in
            read_is (give_all (without_first func.params) args f.registers) (record { values = a.values; after = a.after }) _ all.given
            (called_next code last f below s x g Pure func to at (seen_in s.regions r.how ∷ map (seen_in s.regions) a.hows) (Ref n ∷ a.values) a.marks a.after all.home_after is all.marks (r.deep, seen_args_under s.regions a.hows)
            (held_fits all.home_after _ (held_as (seen_in s.regions r.how) (Ref n) ∷ in_args (map (seen_in s.regions) a.hows) a.values (in_registers a.marks a.after (in_frames x.marks below))) s.world s.regions (λ k. omega arith)
            ((in_deep (seen_in s.regions r.how) r.deep, r.inside all.home_after there.holders.0.1), there.holders.1) there))
        by Iteration func is a = tt
        by Destructor func is a = tt

  pub dispatch_next : (if_dead : Next) (to interface method a : ℕ) (args : List ℕ) (at : Spot) → NextFits code if_dead → Receives code f s x.top.marks x.stack.1 x.stack.2 a args → NextFits code (dispatch code last f below s if_dead to interface method a args at)
  dispatch_next if_dead to interface method a args at gone q = subst (λ y. NextFits code (with_value y s (λ v. on_looked (look v s) s if_dead (λ n o. with_choice (method_in code.impls interface method o.kind) s (λ g. call_of_object code last f below s n to g args at))))) (sym q.1)
      (named (name_of q.0) refl)
    where
      chosen : (n : ℕ) → name_of q.0 ≡ Some n → (y : Option ℕ) → NextFits code (with_choice y s (λ g. call_of_object code last f below s n to g args at))
      chosen n e None = tt
      chosen n e (Some g) = object_called n (receiver a q.0 n q.1 e q.2) to g args at (q.3 g)

      alive : (n : ℕ) → name_of q.0 ≡ Some n → (y : Option Object) → NextFits code (on_looked (found_or_dead n y) s if_dead (λ n o. with_choice (method_in code.impls interface method o.kind) s (λ g. call_of_object code last f below s n to g args at)))
      alive n e None = gone
      alive n e (Some o) = chosen n e (method_in code.impls interface method o.kind)

      named : (y : Option ℕ) → name_of q.0 ≡ y → NextFits code (on_looked (look_up y s) s if_dead (λ n o. with_choice (method_in code.impls interface method o.kind) s (λ g. call_of_object code last f below s n to g args at)))
      named None e = tt
      named (Some n) e = alive n e (object_of n s)
