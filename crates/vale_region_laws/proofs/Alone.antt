-- An iteration by itself begins with a configuration that fits: of the loop's items it holds its own alone.
use Rattle.std.proofs.Common.{◌≡◌, ℕ, zero, suc, List, [], ◌∷◌, map, Some, None, refl, sym, subst, arith}
use Rattle.std.specs.Prelude.{slice_get}
use Rattle.vale_state_spec.specs.State.{State, alone, iteration_frame}
use Rattle.vale_state_spec.specs.World.{Value, Int}
use Rattle.vale_code.specs.Enter.{Form, Plain, Pure, Iteration, Destructor, if_iteration, enter}
use Rattle.vale_code.specs.Frames.{Iterating, Items, Numbers, Elements, Frame, Looping, Alone}
use Rattle.vale_code.specs.Loops.{iterate}
use Rattle.vale_code.specs.Parts.{Parts}
use Rattle.vale_code.specs.declared.func.Func.{Func}
use Rattle.vale_region_laws.specs.Alone.{IsItem}
use Rattle.vale_region_laws.specs.Configs.{form_at, ConfigFits, NextFits}
use Rattle.vale_region_laws.specs.Holding.{waiting_all, seeing_all, items_wait, in_frames}
use Rattle.vale_region_laws.specs.Regions.{Seen, Waits, Holder, waiting, holding_all}
use Rattle.vale_region_laws.proofs.Dropping.{with_known}
use Rattle.vale_region_laws.proofs.Frames.{enter_fits}
use Rattle.vale_region_laws.proofs.Leaving.{after_first}
use Rattle.vale_region_laws.proofs.Looping.{Behind, behind_same, behind_more, behind_held, behind_waits, drop_fits, fronted, args_seen, seen_under}
use Rattle.vale_region_laws.proofs.Moving.{held_fits}
use Rattle.vale_region_laws.proofs.States.{FitsAt}

picked : (vs : List Value) (k : ℕ) (v : Value) (before after : List Holder) → slice_get vs k ≡ Some v → Behind before after → Behind (waiting_all vs before) (waiting v ∷ after)
picked [] k v before after e b = let y : ⊥ = cc in absurd y
picked (u ∷ vs) zero v before after e b = let q : u ≡ v = cc in subst (λ v. Behind (waiting u ∷ waiting_all vs before) (waiting v ∷ after)) q (after_first (waiting u) _ _ (behind_waits vs before after b))
picked (u ∷ vs) (suc k) v before after e b = behind_more (waiting u) _ _ (picked vs k v before after e b)

under_seen : (a : ℕ) (vs : List Value) (before after : List Holder) → Behind before after → Behind (seeing_all a vs before) (seeing_all a vs after)
under_seen a [] before after b = b
under_seen a (v ∷ vs) before after b = after_first _ _ _ (under_seen a vs before after b)

module _ (code : Parts) (f : Iterating) (below : List Frame) (s : State) (x : ConfigFits code (record { top = Looping f; below = below; state = s })) where
  own_item : (items : Items) (v : Value) → IsItem items v → FitsAt x.home (seeing_all (suc x.top.depth) f.captured (items_wait items (holding_all x.top.depth f.done (in_frames x.marks below)))) s
      → FitsAt x.home (waiting v ∷ seeing_all (suc x.top.depth) f.captured (in_frames x.marks below)) s
  own_item (Numbers z more) v is fits =
      let less = drop_fits x.home _ (seeing_all (suc x.top.depth) f.captured (in_frames x.marks below)) s (under_seen (suc x.top.depth) f.captured _ _ (behind_held x.top.depth f.done _ _ (behind_same (in_frames x.marks below)))) fits in
      subst (λ v. FitsAt x.home (waiting v ∷ seeing_all (suc x.top.depth) f.captured (in_frames x.marks below)) s) (sym is.1)
      (held_fits x.home _ (waiting (Int is.0) ∷ seeing_all (suc x.top.depth) f.captured (in_frames x.marks below)) s.world s.regions (λ n. omega arith) ((tt, tt), less.holders) less)
  own_item (Elements vs) v is fits =
      let less = drop_fits x.home _ (seeing_all (suc x.top.depth) f.captured (waiting v ∷ in_frames x.marks below)) s
      (under_seen (suc x.top.depth) f.captured _ _ (picked vs is.0 v _ _ is.1 (behind_held x.top.depth f.done _ _ (behind_same (in_frames x.marks below))))) fits in
      let front = fronted (waiting v) (suc x.top.depth) f.captured (in_frames x.marks below) in
      held_fits x.home _ (waiting v ∷ seeing_all (suc x.top.depth) f.captured (in_frames x.marks below)) s.world s.regions (λ n. let y = front.counts n in omega (arith, y)) (front.each _ less.holders) less

  pub alone_fits : (k : ℕ) (v : Value) → IsItem f.items v → NextFits code (iterate code f k v (Alone None ∷ below) (alone s))
  alone_fits k v is = with_known code f.function (alone s) _ (λ form func is found. by form is func)
    where
      by : (form : Form) → form_at code f.function ≡ Some form → (func : Func) → NextFits code (if_iteration form (alone s) (enter f.function form func (iteration_frame k f.at) (Some 0) (v ∷ f.captured) (Alone None ∷ below) (alone s)))
      by Plain form_is func = tt
      by Pure form_is func = tt
      by Destructor form_is func = tt
      by Iteration form_is func = enter_fits code f.function Iteration func (iteration_frame k f.at) (Some 0) (Waits ∷ map (λ v. Seen (suc x.top.depth)) f.captured) (v ∷ f.captured) (Alone None ∷ below) (alone s) x.home
          (record { depth = s.regions; marks = [] } ∷ x.marks) form_is (refl, omega arith, x.stack) (tt, seen_under s.regions (suc x.top.depth) f.captured (let e = x.depth in omega (arith, e)))
          (subst (λ gs. FitsAt x.home (waiting v ∷ gs) s) (sym (args_seen (suc x.top.depth) f.captured (in_frames x.marks below))) (own_item f.items v is x.fits))
