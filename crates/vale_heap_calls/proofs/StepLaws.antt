-- One call of a heap stands for one call of a heap of names.
use Rattle.std.proofs.Common.{◌≡◌, ℕ, zero, suc, ◌+◌, ◌-◌, ◌<◌, Bool, true, false, List, [], ◌∷◌, ◌++◌, length, get_or, map, replicate, Option, Some, None, refl, sym, ap, subst, ◌∙◌, inl, inr, arith}
use Rattle.std.specs.Prelude.{slice_get, IsSome}
use Rattle.std.specs.Option.{option_or, option_map}
use Rattle.std.proofs.lemmas.Bool.{cases_Bool, cases_lt}
use Rattle.std.proofs.lemmas.List.{get_or-replicate, get_or_past, length-replicate}
use Rattle.vale_table.specs.Plain.{Plain, frames_of, out_of, floor_of, OpensAt}
use Rattle.vale_table.specs.Lending.{Same, StillOut}
use Rattle.vale_base.specs.declared.name.Kind.{Kind}
use Rattle.vale_state_spec.specs.World.{Value, Freeze, Isolate, Object, World, Lives, IsDead, born, died, written, relabelled, cleared}
use Rattle.vale_heap.specs.declared.body.Place.{Place}
use Rattle.vale_heap.specs.declared.body.Cell.{Cell}
use Rattle.vale_heap.specs.declared.body.Body.{Body}
use Rattle.vale_heap.specs.declared.seat.Seat.{Seat}
use Rattle.vale_heap.specs.declared.seat.Home.TheVariants.{Open}
use Rattle.vale_heap.specs.HeapState.{HeapState, opened, Lent, IsMade, seat_at, innermost, look_in, KnowsFrames, KeepsFrames, IsRoot, LivesIn}
use Rattle.vale_heap.specs.HeapLends.{changed}
use Rattle.vale_heap.specs.Standing.{HasPlace, Denotes, DenoteAll, Stands, LookMeans, HereMeans, inner_freeze, outer_freeze, seat_in, seat_within, StandsMade, StandsLooked, StandsFound, StandsEnded, StandsChanged, StandsSame, StandsMerged, StandsKept, StandsCleared, StandsIsoMerged}
use Rattle.vale_heap.proofs.LayoutLaws.{heap_opens}
use Rattle.vale_heap.proofs.NameLaws.{no_root_law, is_root_law, inner_law}
use Rattle.vale_heap_calls.specs.declared.call.Named.{Named}
use Rattle.vale_heap_calls.specs.declared.call.Call.TheVariants.{Make, Look, Change, End, FreezeIn, FreezeMerge, FreezeKeep, FreezeClear, Merge}
use Rattle.vale_heap_calls.specs.declared.call.Reply.TheVariants.{Made, NoPage, Alive, Dead, Done}
use Rattle.vale_heap_calls.specs.Calls.{value_of, IsGiven, AllGiven, State, inner, with_world, closed, IsName}
use Rattle.vale_heap_calls.specs.Tied.{IsTied, CanCall, Follows}

-- ---- lists of values

pub given_at : (n : ℕ) (xs : List Named) (x : Named) (ys : List Named) → AllGiven n (xs ++ x ∷ ys) → IsGiven n x
given_at n [] x ys all = all.0
given_at n (y ∷ xs) x ys all = given_at n xs x ys all.1

pub denote_push : (names : List Place) (cells : List Cell) (values : List Value) (cell : Cell) (value : Value) → DenoteAll names cells values → Denotes names cell value → DenoteAll names (cells ++ cell ∷ []) (values ++ value ∷ [])
denote_push names [] [] cell value all one = (one, tt)
denote_push names (c ∷ cells) (v ∷ values) cell value all one = (all.0, denote_push names cells values cell value all.1 one)
denote_push names [] (v ∷ values) cell value all one = absurd all
denote_push names (c ∷ cells) [] cell value all one = absurd all

-- ---- names and places

pub got : {X : Type 0} (xs : List X) (n : ℕ) (x : X) → n < length xs → x ≡ get_or xs n x → slice_get xs n ≡ Some x
got [] n x h e = absurd (omega (arith, h))
got (y ∷ xs) zero x h e = ap (λ z. Some z) (sym e)
got (y ∷ xs) (suc n) x h e = got xs n x (omega (arith, h)) e

pub name_within : (heap : HeapState) (table : Plain) (places : List Place) (s : State) (name : ℕ) → IsTied heap table places s → IsName s name → name < length places
name_within heap table places s name tied h = omega (arith, h, tied.stands.at.as_many)

pub places_given : (heap : HeapState) (table : Plain) (places : List Place) (s : State) (values : List Named) → IsTied heap table places s → AllGiven (length s.world) values → AllGiven (length places) values
places_given heap table places s values tied all = subst (λ n. AllGiven n values) tied.stands.at.as_many all

pub slot_within : (heap : HeapState) (table : Plain) (places : List Place) (s : State) (name : ℕ) (at : Place) → IsTied heap table places s → HasPlace places name at → at.slot < 64
slot_within heap table places s name at tied has = tied.stands.at.in_page name at has

inner_is : (heap : HeapState) (table : Plain) (places : List Place) (s : State) → IsTied heap table places s → inner_freeze heap None ≡ inner s
inner_is heap table places s tied = ap Freeze (omega (arith, tied.regions))

outer_is : (heap : HeapState) (table : Plain) (places : List Place) (s : State) → IsTied heap table places s → outer_freeze heap None ≡ Freeze (s.regions - 2)
outer_is heap table places s tied = ap Freeze (omega (arith, tied.regions))

tied_after : (heap new : HeapState) (table : Plain) (places : List Place) (s next : State) (tied : IsTied heap table places s) → KeepsFrames heap new → Stands new None tied.low (λ _. false) places next.world → new.regions ≡ next.regions → IsTied new table places next
tied_after heap new table places s next tied keeps stands regions = record {
  low = tied.low;
  stands = stands;
  regions = regions;
  known = keeps.known (out_of table) tied.known;
  few = omega (arith, tied.few, keeps.as_long);
  floors = tied.floors;
}

-- ---- an object is made

-- a frame that isn't known to be out now wasn't before
unknown_was : (out new_out : ℕ → Bool) (frame : ℕ) → StillOut out new_out → new_out frame ≡ false → out frame ≡ false
unknown_was out new_out frame more unknown = elim (cases_Bool (out frame)) [
  | inr e ↦ e
  | inl e ↦ absurd (let clash : true ≡ false = sym (more frame e) ∙ unknown in cc)
]

pub make_law : (heap new : HeapState) (table new_table : Plain) (places : List Place) (kind : Kind) (cells : List Cell) (values : List Named) (place : Place) →
    DenoteAll places cells (map value_of values) → StandsMade heap new (out_of table) (floor_of table) (record { kind = kind; cells = cells }) place →
    KnowsFrames new (out_of new_table) → length new.seats ≡ length heap.seats → StillOut (out_of table) (out_of new_table) → Same (floor_of table) (floor_of new_table) → frames_of new_table ≡ frames_of table → new.regions ≡ heap.regions →
    Follows heap new table new_table places (places ++ place ∷ []) (Make kind values) Made
make_law heap new table new_table places kind cells values place denote stands known long more floors frames regions s tied lawful =
    let object : Object = record { region = inner s; kind = kind; values = map value_of values } in
    let next : State = with_world s (born s.world object) in
    let was = stands None tied.low (λ _. false) places s.world (map value_of values) tied.stands denote (λ f seat e. absurd (cc)) (λ n p gone has. absurd (cc)) tied.floors in (
      next,
      refl,
      record {
        low = tied.low;
        stands = subst (λ r. Stands new None tied.low (λ _. false) (places ++ place ∷ []) (born s.world (record { region = r; kind = kind; values = map value_of values }))) (inner_is heap table places s tied) was;
        regions = regions ∙ tied.regions;
        known = known;
        few = omega (arith, tied.few, long, frames);
        floors = λ f slot unknown. tied.floors f slot (unknown_was (out_of table) (out_of new_table) f more unknown) ∙ sym (floors f);
      },
    )

pub refused_law : (heap new : HeapState) (table new_table : Plain) (places : List Place) (kind : Kind) (values : List Named) →
    new ≡ heap → KnowsFrames new (out_of new_table) → StillOut (out_of table) (out_of new_table) → Same (floor_of table) (floor_of new_table) → frames_of new_table ≡ frames_of table →
    Follows heap new table new_table places places (Make kind values) NoPage
refused_law heap new table new_table places kind values same known more floors frames s tied lawful = (
  s,
  refl,
  record {
    low = tied.low;
    stands = subst (λ h. Stands h None tied.low (λ _. false) places s.world) (sym same) tied.stands;
    regions = ap (λ (h : HeapState). h.regions) same ∙ tied.regions;
    known = known;
    few = omega (arith, tied.few, frames, ap (λ (h : HeapState). length h.seats) same);
    floors = λ f slot unknown. tied.floors f slot (unknown_was (out_of table) (out_of new_table) f more unknown) ∙ sym (floors f);
  },
)

-- ---- looks, changes and ends

-- what a look means is what the heap of names answers
pub alive_law : (places : List Place) (world : World) (name : ℕ) (body : Body) → LookMeans places world name (Some body) → (object : Object) × Lives world name object × (object.kind ≡ body.kind)
alive_law places world name body means = (means.0, means.1, sym means.2)

-- where the heap has nothing at a name's place, the name is dead
pub dead_law : (heap : HeapState) (low : ℕ → ℕ → ℕ) (places : List Place) (world : World) (name : ℕ) (at : Place) → Stands heap None low (λ _. false) places world → HasPlace places name at → name < length world → HereMeans heap places world name at None → IsDead world name
dead_law heap low places world name at stands has within here = by_got (slice_get world name) refl (got_some world name within)
  where
    got_some : {X : Type 0} (xs : List X) (n : ℕ) → n < length xs → (x : X) × (slice_get xs n ≡ Some x)
    got_some [] n h = absurd (omega (arith, h))
    got_some (y ∷ xs) zero h = (y, refl)
    got_some (y ∷ xs) (suc n) h = got_some xs n (omega (arith, h))

    own_page : (object : Object) → Lives world name object → seat_at heap at.frame ≡ None → ⊥
    own_page object lives none =
        let h = stands.at.live name at object has lives in
        let clash : None ≡ Some h.seat = sym (ap (λ o. option_or (option_map (seat_within 0) o) None) none) ∙ h.there in
        cc

    by_got : (o : Option (Option Object)) → slice_get world name ≡ o → (x : Option Object) × (slice_get world name ≡ Some x) → IsDead world name
    by_got o e (None, is) = is
    by_got o e (Some object, is) = absurd (own_page object is (here object is))

module _ (heap : HeapState) (table : Plain) (places : List Place) (name : ℕ) (at : Place) (is : at ≡ get_or places name at) where
  named : (s : State) → IsTied heap table places s → IsName s name → HasPlace places name at
  named s tied given = got places name at (name_within heap table places s name tied given) is

  pub look_alive : (body : Body) → StandsLooked heap None at (Some body) → Follows heap heap table table places places (Look name) (Alive body.kind)
  look_alive body looked s tied given =
      let means = looked tied.low (λ _. false) places s.world name tied.stands (named s tied given) in
      (s, (means.0, means.1, sym means.2, refl), tied)

  pub look_dead : StandsLooked heap None at None → Follows heap heap table table places places (Look name) Dead
  look_dead looked s tied given = (s, (looked tied.low (λ _. false) places s.world name tied.stands (named s tied given), refl), tied)

  pub end_no_root : CanCall heap table places (End name) → IsRoot heap at → ⊥
  end_no_root can = no_root_law heap None can.1.low (λ _. false) places can.0.world name at can.1.stands (named can.0 can.1 can.2.0) can.2.1

  pub end_alive : (new : HeapState) (body : Body) → StandsFound heap at (Some body) → StandsEnded heap new at → KeepsFrames heap new → new.regions ≡ heap.regions → Follows heap new table table places places (End name) (Alive body.kind)
  end_alive new body found ended keeps regions s tied lawful =
      let has = named s tied lawful.0 in
      let means = found None tied.low (λ _. false) places s.world name tied.stands has in
      let next : State = with_world s (died s.world name) in
      (next, (means.0, means.1, sym means.2, refl), tied_after heap new table places s next tied keeps (ended None tied.low (λ _. false) places s.world name tied.stands has) (regions ∙ tied.regions))

  pub end_dead : (new : HeapState) → StandsFound heap at None → new ≡ heap → Follows heap new table table places places (End name) Dead
  end_dead new found same s tied lawful =
      let has = named s tied lawful.0 in
      let here = found None tied.low (λ _. false) places s.world name tied.stands has in
      (s, (dead_law heap tied.low places s.world name at tied.stands has lawful.0 here, refl), subst (λ h. IsTied h table places s) (sym same) tied)

  pub change_alive : (was left : Body) (values : List Named) → StandsFound heap at (Some was) → IsSome (look_in heap at) → StandsChanged heap at left → KeepsFrames heap (changed heap at left) → left.kind ≡ was.kind → DenoteAll places left.cells (map value_of values) →
      Follows heap (changed heap at left) table table places places (Change name values) (Alive was.kind)
  change_alive was left values found some stands keeps kind denote s tied lawful =
      let has = named s tied lawful.0 in
      let means = found None tied.low (λ _. false) places s.world name tied.stands has in
      let next : State = with_world s (written s.world name (record { region = means.0.region; kind = was.kind; values = map value_of values })) in
      let after = stands None tied.low (λ _. false) places s.world name means.0 (map value_of values) some tied.stands has means.1 denote in (
        next,
        (means.0, means.1, sym means.2, refl),
        tied_after heap (changed heap at left) table places s next tied keeps
            (subst (λ k. Stands (changed heap at left) None tied.low (λ _. false) places (written s.world name (record { region = means.0.region; kind = k; values = map value_of values }))) kind after) tied.regions,
      )

  pub change_dead : (new : HeapState) (values : List Named) → StandsFound heap at None → new ≡ heap → Follows heap new table table places places (Change name values) Dead
  change_dead new values found same s tied lawful =
      let has = named s tied lawful.0 in
      let here = found None tied.low (λ _. false) places s.world name tied.stands has in
      (s, (dead_law heap tied.low places s.world name at tied.stands has lawful.0 here, refl), subst (λ h. IsTied h table places s) (sym same) tied)

  -- a name that is alive was given
  alive_name : (s : State) (object : Object) → Lives s.world name object → IsName s name
  alive_name s object lives = within s.world (Some object) name lives
    where
      within : {X : Type 0} (xs : List X) (x : X) (n : ℕ) → slice_get xs n ≡ Some x → n < length xs
      within [] x n e = absurd (cc)
      within (y ∷ xs) x zero e = omega arith
      within (y ∷ xs) x (suc n) e = let later = within xs x n e in omega (arith, later)

  pub keep_can : CanCall heap table places (FreezeKeep name) → LivesIn heap (Open (innermost heap)) at
  keep_can can =
      let s = can.0 in
      let tied = can.1 in
      let alive = can.2.1 in
      inner_law heap None tied.low (λ _. false) places s.world name at can.2.1 tied.stands (named s tied (alive_name s can.2.1 can.2.2)) can.2.2 (can.2.3 ∙ sym (inner_is heap table places s tied))

  pub keep_law : (new : HeapState) → StandsKept heap new at → KeepsFrames heap new → new.regions ≡ innermost heap → Follows heap new table table places places (FreezeKeep name) Done
  keep_law new kept keeps regions s tied lawful =
      let has = named s tied (alive_name s lawful.1 lawful.2) in
      let next : State = closed s (relabelled (inner s) (Isolate name) s.world) in (
        next,
        refl,
        tied_after heap new table places s next tied keeps
            (subst (λ r. Stands new None tied.low (λ _. false) places (relabelled r (Isolate name) s.world)) (inner_is heap table places s tied) (kept None tied.low (λ _. false) places s.world name tied.stands has))
            (regions ∙ ap (λ n. n - 1) tied.regions),
      )

  pub merge_can : CanCall heap table places (Merge name) → IsRoot heap at
  merge_can can =
      let s = can.0 in
      let tied = can.1 in
      let has = named s tied (alive_name s can.2.0 can.2.1) in
      let h = tied.stands.at.live name at can.2.0 has can.2.1 in
      by_seat (seat_at heap at.frame) refl h.seat h.there
    where
      by_seat : (o : Option Seat) → seat_at heap at.frame ≡ o → (seat : Seat) → option_or (option_map (seat_within 0) (seat_at heap at.frame)) None ≡ Some seat → IsRoot heap at
      by_seat None e seat there = absurd (let clash : None ≡ Some seat = sym (ap (λ o. option_or (option_map (seat_within 0) o) None) e) ∙ there in cc)
      by_seat (Some own) e seat there =
          is_root_law heap None can.1.low (λ _. false) places can.0.world name at can.2.0 own can.1.stands (named can.0 can.1 (alive_name can.0 can.2.0 can.2.1)) can.2.1 can.2.2 e

  pub merge_law : (new : HeapState) → StandsIsoMerged heap new at → KeepsFrames heap new → new.regions ≡ heap.regions → Follows heap new table table places places (Merge name) Done
  merge_law new merged keeps regions s tied lawful =
      let has = named s tied (alive_name s lawful.0 lawful.1) in
      let next : State = with_world s (relabelled (Isolate name) (inner s) s.world) in (
        next,
        refl,
        tied_after heap new table places s next tied keeps
            (subst (λ r. Stands new None tied.low (λ _. false) places (relabelled (Isolate name) r s.world)) (inner_is heap table places s tied) (merged None tied.low (λ _. false) places s.world name tied.stands has))
            (regions ∙ tied.regions),
      )

-- ---- regions

module _ (heap new : HeapState) (table : Plain) (places : List Place) (keeps : KeepsFrames heap new) where
  pub open_law : StandsSame heap new → new.regions ≡ heap.regions + 1 → Follows heap new table table places places FreezeIn Done
  open_law same regions s tied lawful =
      let next : State = record s { regions = s.regions + 1 } in
      (next, refl, tied_after heap new table places s next tied keeps (same None tied.low (λ _. false) places s.world tied.stands) (regions ∙ ap (λ n. n + 1) tied.regions))

  pub close_law : StandsMerged heap new → new.regions ≡ innermost heap → Follows heap new table table places places FreezeMerge Done
  close_law merged regions s tied lawful =
      let next : State = closed s (relabelled (inner s) (Freeze (s.regions - 2)) s.world) in (
        next,
        refl,
        tied_after heap new table places s next tied keeps
            (subst (λ r. Stands new None tied.low (λ _. false) places (relabelled (inner s) r s.world)) (outer_is heap table places s tied)
            (subst (λ r. Stands new None tied.low (λ _. false) places (relabelled r (outer_freeze heap None) s.world)) (inner_is heap table places s tied) (merged None tied.low (λ _. false) places s.world tied.stands)))
            (regions ∙ ap (λ n. n - 1) tied.regions),
      )

  pub clear_law : StandsCleared heap new → new.regions ≡ innermost heap → Follows heap new table table places places FreezeClear Done
  clear_law dead regions s tied lawful =
      let next : State = closed s (cleared (inner s) s.world) in (
        next,
        refl,
        tied_after heap new table places s next tied keeps
            (subst (λ r. Stands new None tied.low (λ _. false) places (cleared r s.world)) (inner_is heap table places s tied) (dead None tied.low (λ _. false) places s.world tied.stands))
            (regions ∙ ap (λ n. n - 1) tied.regions),
      )

pub can_regions : (heap : HeapState) (table : Plain) (places : List Place) (s : State) → IsTied heap table places s → heap.regions ≡ s.regions
can_regions heap table places s tied = tied.regions

pub merge_name : (heap : HeapState) (table : Plain) (places : List Place) (name : ℕ) → CanCall heap table places (Merge name) → name < length places
merge_name heap table places name can = name_within heap table places can.0 name can.1 (within can.0.world (Some can.2.0) name can.2.1)
  where
    within : {X : Type 0} (xs : List X) (x : X) (n : ℕ) → slice_get xs n ≡ Some x → n < length xs
    within [] x n e = absurd (cc)
    within (y ∷ xs) x zero e = omega arith
    within (y ∷ xs) x (suc n) e = let later = within xs x n e in omega (arith, later)

pub made_regions : (old new : HeapState) (lent : Lent) (body : Body) (place : Place) → IsMade old new lent body place → new.regions ≡ old.regions
made_regions old new lent body place (inl made) = ap (λ (h : HeapState). h.regions) made.put.now
made_regions old new lent body place (inr made) = ap (λ (h : HeapState). h.regions) made.put.now

-- ---- a session that opens

none_at : (frames frame : ℕ) → get_or (replicate frames (let o : Option Seat = None in o)) frame None ≡ None
none_at frames frame = elim (cases_lt frame frames) [
  | inl h ↦ get_or-replicate frames frame (let o : Option Seat = None in o) None h
  | inr h ↦ get_or_past (replicate frames (let o : Option Seat = None in o)) frame None (omega (arith, h, length-replicate frames (let o : Option Seat = None in o)))
]

no_page : (frames depth frame : ℕ) (seat : Seat) → seat_at (opened frames depth) frame ≡ Some seat → ⊥
no_page frames depth frame seat e = let clash : None ≡ Some seat = sym (none_at frames frame) ∙ e in cc

no_page_in : (frames depth frame : ℕ) (seat : Seat) → seat_in (opened frames depth) None frame ≡ Some seat → ⊥
no_page_in frames depth frame seat e = let clash : None ≡ Some seat = sym (ap (λ o. option_or (option_map (seat_within 0) o) None) (none_at frames frame)) ∙ e in cc

pub open_tied : (frames depth first : ℕ) (table : Plain) → OpensAt table frames first → IsTied (opened frames depth) table [] (record { world = []; regions = 1 })
open_tied frames depth first table opens = record {
  low = λ f slot. floor_of table f;
  stands = record {
    heap_ok = heap_opens frames depth;
    below_ok = λ other e. absurd (cc);
    distinct = λ f s other e at. no_page frames depth f s e;
    at = record {
      as_many = refl;
      pages = λ f s e. absurd (no_page_in frames depth f s e);
      in_page = λ n p has. absurd (cc);
      apart = λ n m p has also. absurd (cc);
      live = λ n p o has lives. absurd (cc);
      dead_here = λ n p s has dead there. absurd (cc);
      dead_gone = λ n p has dead gone. absurd (cc);
      named = λ f slot s b within there has. absurd (no_page_in frames depth f s there);
    };
  };
  regions = refl;
  known = λ f s e. absurd (no_page frames depth f s e);
  few = omega (arith, opens.many, length-replicate frames (let o : Option Seat = None in o));
  floors = λ f slot unknown. refl;
}
