-- How the destruction of an isolate begins: its objects join the innermost region, and its root has an owner.
use Rattle.std.proofs.Common.{◌≡◌, ℕ, ◌+◌, List, Bool, if◌then◌else◌, Some, None, refl, sym, ap, subst, ◌∙◌, arith}
use Rattle.vale_base.specs.declared.spot.Spot.{Spot}
use Rattle.vale_state_spec.specs.State.{State, join_isolate}
use Rattle.vale_state_spec.specs.World.{Freeze, Isolate, relabelled}
use Rattle.vale_code.specs.Frames as meaning
use Rattle.vale_code.specs.Frames.{Next}
use Rattle.vale_code.specs.Parts.{Parts}
use Rattle.vale_heap.specs.HeapState.{HeapState, IsRoot, KeepsFrames, innermost, rehomed, seat_at, with_merged}
use Rattle.vale_heap.specs.Standing.{Stands, StandsIsoMerged}
use Rattle.vale_heap.specs.declared.body.Cell.TheVariants.{Iso, Own}
use Rattle.vale_heap.specs.declared.body.Place.{Place}
use Rattle.vale_heap.specs.declared.seat.Home.TheVariants.{Kept, Open}
use Rattle.vale_heap.specs.declared.seat.Seat.{Seat}
use Rattle.vale_heap.proofs.MoveLaws.{home_eq-refl}
use Rattle.vale_heap.proofs.RegionLaws.{seat_moved}
use Rattle.vale_object_cells.specs.Names.{IsKnown, name_at}
use Rattle.vale_object_cells.specs.declared.register.Register.{Register}
use Rattle.vale_object_steps.specs.Views.{Steady, View, nobody}
use Rattle.vale_object_frames.specs.declared.frame.Frame.{Frame}
use Rattle.vale_object_flow.specs.Flow.{Comes, GoesOn, Runs, all_frames, row_of}
use Rattle.vale_object_flow.specs.declared.control.Came.{Came}
use Rattle.vale_object_flow.specs.declared.control.Came.TheVariants as came
use Rattle.vale_object_flow.specs.declared.control.Control.{Control}
use Rattle.vale_object_drops.specs.Destroying.{CanDestroy, Destroys, destroy_next, stack_of}

pub keeps_then : (a b c : HeapState) → KeepsFrames a b → KeepsFrames b c → KeepsFrames a c
keeps_then a b c f g = record { as_long = g.as_long ∙ f.as_long; known = λ out k. g.known out (f.known out k); of_hand = λ hand ok. g.of_hand hand (f.of_hand hand ok) }

-- the objects of an isolate are of the innermost region
abbrev pub merged : View → Place → View
merged v p = record v { state = join_isolate (name_at v.names p) v.state }

-- what a merged view leads to, the one before it leads to
went_on : (code : Parts) (v : View) (p : Place) (next : Next) (heap : HeapState) (frames : List Frame) (texts : List (List ℕ)) (row : List Register) (left : ℕ) → GoesOn code (merged v p) next heap frames texts row left → GoesOn code v next heap frames texts row left
went_on code v p next heap frames texts row left g = record {
  view = g.view;
  grows = record { more = g.grows.more; names = g.grows.names; low = g.grows.low };
  runs = g.runs;
  ticks = g.ticks;
  pieces = g.pieces;
  frozen = g.frozen;
  is = g.is;
}

stayed : (v : View) (p : Place) (t : State) → Steady (merged v p).state t → Steady v.state t
stayed v p t s = record { left = s.left; spent = s.spent; pieces = s.pieces; frozen = s.frozen; quiet = s.quiet }

came_on : (code : Parts) (v : View) (p : Place) (frames : List meaning.Frame) (told : Came) (next : Next) (heap : HeapState) (c : Control) (left : ℕ) → Comes code (merged v p) frames told next heap c left → Comes code v frames told next heap c left
came_on code v p frames came.Running next heap c left g = went_on code v p next heap (all_frames c) c.texts (row_of c) left g
came_on code v p frames came.Dropping next heap c left g = went_on code v p next heap c.below c.texts (row_of c) left g
came_on code v p frames (came.Trap kind at) next heap c left g = (g.0, stayed v p g.0 g.1, g.2)
came_on code v p frames came.Done next heap c left g = (g.0, g.1, stayed v p g.1 g.2, g.3)
came_on code v p frames came.Cut next heap c left g = (g.0, stayed v p g.0 g.1, g.2)

module _ (heap new : HeapState) (p : Place) (is : new ≡ with_merged heap p) where
  pub no_root_then : IsRoot heap p → IsRoot new p → ⊥
  no_root_then root after =
      let m = innermost heap in
      let moved : seat_at new p.frame ≡ rehomed (Kept p) (Open m) (seat_at heap p.frame) = ap (λ (h : HeapState). seat_at h p.frame) is ∙ seat_moved heap.seats (Kept p) (Open m) p.frame in
      let now : Some after.seat ≡ Some (record (root.seat) { home = Open m }) =
      sym after.there
      ∙ moved
      ∙ ap (rehomed (Kept p) (Open m)) root.there
      ∙ ap (λ (b : Bool). Some (record (root.seat) { home = if b then Open m else root.seat.home })) (home_eq-refl root.seat.home (Kept p) root.home_is) in
      let seat : after.seat ≡ record (root.seat) { home = Open m } = cc in
      let clash : Open m ≡ Kept p = sym (ap (λ (s : Seat). s.home) seat) ∙ after.home_is in
      let x : ⊥ = cc in
      x

  module _ (stands : StandsIsoMerged heap new p) (code : Parts) where
    pub runs_merged : (v : View) (frames : List Frame) (texts : List (List ℕ)) (row : List Register) (left : ℕ) → IsKnown v.names p → Runs code v heap frames texts row left → Runs code (merged v p) new frames texts row left
    runs_merged v frames texts row left known runs =
        let n = name_at v.names p in
        let here : 0 + innermost heap ≡ v.state.regions = omega (arith, runs.regions) in
        record {
          stands = subst (λ k. Stands new None v.low nobody v.names (relabelled (Isolate n) (Freeze k) v.state.world)) here (stands None v.low nobody v.names v.state.world n runs.stands known);
          regions = runs.regions ∙ sym (ap (λ (h : HeapState). innermost h) is);
          known = runs.known;
          ticks_left = runs.ticks_left;
          lie = runs.lie;
        }

    module _ (depth : ℕ) (old : Control) (left : ℕ) (at : Spot) where
      pub can_destroy : CanDestroy code depth heap old left (Iso p) at → CanDestroy code depth new old left (Own p) at
      can_destroy can = record {
        view = merged can.view p;
        runs = runs_merged can.view old.below old.texts (row_of old) left (can.known p refl) can.runs;
        known = λ q e. can.known q e;
        deep = can.deep;
        right = can.right;
      }

      pub destroys_merged : (told : Came) (after : HeapState) (control : Control) (new_left : ℕ) → Destroys code depth new old left (Own p) at told after control new_left → Destroys code depth heap old left (Iso p) at told after control new_left
      destroys_merged told after control new_left d v runs known deep right =
          came_on code v p (stack_of code v old) told (destroy_next code v old (Iso p) at) after control new_left (d (merged v p) (runs_merged v old.below old.texts (row_of old) left (known p refl) runs) (λ q e. known q e) deep right)
