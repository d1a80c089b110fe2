-- What each call of a heap keeps of a heap without isolates, or with one.
use Rattle.std.proofs.Common.{◌≡◌, ◌≢◌, ℕ, ◌+◌, ◌-◌, ◌<◌, Bool, true, false, length, get_or, set, Option, Some, None, cond, refl, sym, ap, subst, ◌∙◌, inl, inr, arith, nat_eq}
use Rattle.std.specs.Prelude.{IfSome, IfNone, IfOk, OnErr, Result, Ok, Err, is_some, ◌&&◌}
use Rattle.std.specs.Option.{option_map, option_or}
use Rattle.std.proofs.lemmas.Bool.{cases_eq}
use Rattle.std.proofs.lemmas.List.{get_or-set_same, get_or-set_other, length-replicate}
use Rattle.vale_page.specs.PageState.{PageState, body_at, with_body, after_death, live_count}
use Rattle.vale_table.specs.Plain.{Plain, frames_of, out_of, OpensAt}
use Rattle.vale_heap.specs.declared.body.Place.{Place}
use Rattle.vale_heap.specs.declared.body.Body.{Body}
use Rattle.vale_heap.specs.declared.heap.NoPage.{NoPage}
use Rattle.vale_heap.specs.declared.seat.Seat.{Seat}
use Rattle.vale_heap.specs.declared.seat.Home.{Home}
use Rattle.vale_heap.specs.declared.seat.Home.TheVariants.{Spare, Open, Kept}
use Rattle.vale_heap.specs.HeapState.{HeapState, opened, seat_at, body_in, innermost, Lent, IsMade, IsPut, IsEnded, IsRefused, IsRoot, IsFor, LivesIn, KnowsFrames, KeepsFrames, with_seat, with_spare, with_home, without_region, with_merged, home_eq, rehomed}
use Rattle.vale_heap.specs.Standing.{look_over}
use Rattle.vale_heap.specs.HeapLends.{changed, with_written}
use Rattle.vale_heap.proofs.HeapLaws.{set_some, got_lt, open_kept, spare_kept}
use Rattle.vale_heap.proofs.MoveLaws.{rehomed_some, home_eq-refl, home_eq-true}
use Rattle.vale_heap.proofs.PutLaws.{no_seat, same_some}
use Rattle.vale_heap.proofs.RegionLaws.{seat_moved}
use Rattle.vale_heap_rows.specs.LentHeap.{HasNoIsolate, IsLent, IsKept, is_root_in}

pub no_root : (h : HeapState) (at : Place) → HasNoIsolate h → IsRoot h at → ⊥
no_root h at none root = none at.frame root.seat at root.there root.home_is

-- one page is another now, which isn't an isolate's
seat_free : (h : HeapState) (frame : ℕ) (o : Option Seat) → HasNoIsolate h → ((seat : Seat) (root : Place) → o ≡ Some seat → seat.home ≡ Kept root → ⊥) → HasNoIsolate (with_seat h frame o)
seat_free h frame o none new f seat root there home = elim (cases_eq f frame) [
  | inl same ↦ new seat root (set_some h.seats frame o seat (ap (λ k. get_or (set h.seats frame o) k None) (sym same) ∙ there)) home
  | inr apart ↦ none f seat root (sym (get_or-set_other h.seats frame f o None apart) ∙ there) home
]

home_of : (one other : Seat) (root : Place) → Some one ≡ Some other → other.home ≡ Kept root → one.home ≡ Kept root
home_of one other root same home = ap (λ (s : Seat). s.home) (same_some one other (Some other) (sym same) refl) ∙ home

put_free : (old new : HeapState) (body : Body) (place : Place) → IsPut old new body place → HasNoIsolate old → HasNoIsolate new
put_free old new body place put none = subst HasNoIsolate (sym put.now)
    (seat_free old place.frame put.seat none (λ seat root is home. open_kept (innermost old) root (home_of _ seat root (sym put.puts.now ∙ is) home)))

spare_free : (old : HeapState) (frame : ℕ) (page : PageState Body) → HasNoIsolate old → HasNoIsolate (with_spare old frame page)
spare_free old frame page none = seat_free old frame _ none (λ seat root is home. spare_kept root (home_of _ seat root is home))

made_free : (old new : HeapState) (lent : Lent) (body : Body) (place : Place) → IsMade old new lent body place → HasNoIsolate old → HasNoIsolate new
made_free old new lent body place (inl made) none = put_free old new body place made.put none
made_free old new lent body place (inr made) none = put_free (with_spare old place.frame made.page) new body place made.put (spare_free old place.frame made.page none)

made_regions : (old new : HeapState) (lent : Lent) (body : Body) (place : Place) → IsMade old new lent body place → new.regions ≡ old.regions
made_regions old new lent body place (inl made) = ap (λ (h : HeapState). h.regions) made.put.now
made_regions old new lent body place (inr made) = ap (λ (h : HeapState). h.regions) made.put.now

made_depth : (old new : HeapState) (lent : Lent) (body : Body) (place : Place) → IsMade old new lent body place → new.depth ≡ old.depth
made_depth old new lent body place (inl made) = ap (λ (h : HeapState). h.depth) made.put.now
made_depth old new lent body place (inr made) = ap (λ (h : HeapState). h.depth) made.put.now

ended_free : (old new : HeapState) (body : Body) (place : Place) → IsEnded old new body place → HasNoIsolate old → HasNoIsolate new
ended_free old new body place ended none = subst HasNoIsolate (sym ended.now)
    (seat_free old place.frame ended.seat none (λ seat root is home. by_test (nat_test (after_death ended.ends.seat.page place.slot)) root (home_of _ seat root (sym ended.ends.now ∙ is) home)))
  where
    nat_test : PageState Body → Bool
    nat_test page = nat_eq (live_count page) 0

    by_test : (b : Bool) (root : Place) → cond b Spare ended.ends.seat.home ≡ Kept root → ⊥
    by_test true root home = spare_kept root home
    by_test false root home = none place.frame ended.ends.seat root ended.ends.was home

changed_free : (h : HeapState) (at : Place) (left : Body) → HasNoIsolate h → HasNoIsolate (changed h at left)
changed_free h at left none = seat_free h at.frame _ none (by_seat (seat_at h at.frame) refl)
  where
    by_seat : (o : Option Seat) → seat_at h at.frame ≡ o → (seat : Seat) (root : Place) → option_map (λ s. with_written s at.slot left) o ≡ Some seat → seat.home ≡ Kept root → ⊥
    by_seat None e seat root is home = cc
    by_seat (Some was) e seat root is home = none at.frame was root e (home_of (with_written was at.slot left) seat root is home)

merged_free : (h : HeapState) (depth : ℕ) → HasNoIsolate h → HasNoIsolate (without_region h (Open depth))
merged_free h depth none f seat root there home =
    let was = rehomed_some (Open (innermost h)) (Open depth) (seat_at h f) seat (sym (seat_moved h.seats (Open (innermost h)) (Open depth) f) ∙ there) in
    by_test (home_eq was.0.home (Open (innermost h))) (none f was.0 root was.1) (ap (λ (s : Seat). s.home) was.2 ∙ home)
  where
    by_test : {was : Home} (b : Bool) → (was ≡ Kept root → ⊥) → cond b (Open depth) was ≡ Kept root → ⊥
    by_test true apart is = open_kept depth root is
    by_test false apart is = apart is

-- ---- the calls

pub open_lent : (frames depth first : ℕ) (table : Plain) → OpensAt table frames first → IsLent (opened frames depth) table 0 depth
open_lent frames depth first table opens = record {
  few = omega (arith, opens.many, length-replicate frames (let o : Option Seat = None in o));
  known = λ f s e. absurd (no_seat frames f s e);
  no_isolate = λ f s root e home. no_seat frames f s e;
  regions = refl;
  deep = refl;
}

made_lent : (old new : HeapState) (table new_table : Plain) (freezes depth : ℕ) (lent : Lent) (body : Body) (place : Place) →
    IsLent old table freezes depth → IsMade old new lent body place → KnowsFrames new (out_of new_table) → length new.seats ≡ length old.seats → frames_of new_table ≡ frames_of table → IsLent new new_table freezes depth
made_lent old new table new_table freezes depth lent body place was made known long frames = record {
  few = omega (arith, was.few, long, frames);
  known = known;
  no_isolate = made_free old new lent body place made was.no_isolate;
  regions = made_regions old new lent body place made ∙ was.regions;
  deep = made_depth old new lent body place made ∙ was.deep;
}

refused_lent : (old new : HeapState) (table new_table : Plain) (freezes depth : ℕ) → IsLent old table freezes depth → new ≡ old → KnowsFrames new (out_of new_table) → frames_of new_table ≡ frames_of table → IsLent new new_table freezes depth
refused_lent old new table new_table freezes depth was same known frames = record {
  few = omega (arith, was.few, ap (λ (h : HeapState). length h.seats) same, frames);
  known = known;
  no_isolate = subst HasNoIsolate (sym same) was.no_isolate;
  regions = ap (λ (h : HeapState). h.regions) same ∙ was.regions;
  deep = ap (λ (h : HeapState). h.depth) same ∙ was.deep;
}

pub make_lent : (old new : HeapState) (table new_table : Plain) (freezes depth : ℕ) (lent : Lent) (body : Body) (made : Result Place NoPage) →
    IsLent old table freezes depth → IfOk made (IsMade old new lent body) → OnErr made (IsRefused old new lent) → KnowsFrames new (out_of new_table) → length new.seats ≡ length old.seats → frames_of new_table ≡ frames_of table → IsLent new new_table freezes depth
make_lent old new table new_table freezes depth lent body (Ok place) was made refused known long frames = made_lent old new table new_table freezes depth lent body place was made known long frames
make_lent old new table new_table freezes depth lent body (Err back) was made refused known long frames = refused_lent old new table new_table freezes depth was refused.unchanged known frames

module _ (old new : HeapState) (table : Plain) (freezes depth : ℕ) (was : IsLent old table freezes depth) (keeps : KeepsFrames old new) where
  kept_lent : (new_freezes : ℕ) → HasNoIsolate new → new.regions ≡ new_freezes + 1 → new.depth ≡ depth → IsLent new table new_freezes depth
  kept_lent new_freezes none regions deep = record {
    few = omega (arith, was.few, keeps.as_long);
    known = keeps.known (out_of table) was.known;
    no_isolate = none;
    regions = regions;
    deep = deep;
  }

  ended_lent : (body : Body) (place : Place) → IsEnded old new body place → IsLent new table freezes depth
  ended_lent body place ended =
      kept_lent freezes (ended_free old new body place ended was.no_isolate) (ap (λ (h : HeapState). h.regions) ended.now ∙ was.regions) (ap (λ (h : HeapState). h.depth) ended.now ∙ was.deep)

  pub end_lent : (found : Option Body) (place : Place) → IfSome found (λ body. IsEnded old new body place) → IfNone found (new ≡ old) → IsLent new table freezes depth
  end_lent None place ended same = subst (λ h. IsLent h table freezes depth) (sym same) was
  end_lent (Some body) place ended same = ended_lent body place ended

  pub merge_lent : new ≡ without_region old (Open (innermost old - 1)) → 0 < freezes → IsLent new table (freezes - 1) depth
  merge_lent is some =
      let regions : new.regions ≡ innermost old = ap (λ (h : HeapState). h.regions) is in
      kept_lent (freezes - 1) (subst HasNoIsolate (sym is) (merged_free old (innermost old - 1) was.no_isolate)) (omega (arith, regions, was.regions, some)) (ap (λ (h : HeapState). h.depth) is ∙ was.deep)

pub change_lent : (old : HeapState) (table : Plain) (freezes depth : ℕ) (at : Place) (left : Body) → IsLent old table freezes depth → KeepsFrames old (changed old at left) → IsLent (changed old at left) table freezes depth
change_lent old table freezes depth at left was keeps =
    kept_lent old (changed old at left) table freezes depth was keeps freezes (changed_free old at left was.no_isolate) was.regions was.deep

-- ---- the innermost region becomes an isolate

put_home : (old new : HeapState) (body : Body) (place : Place) → IsPut old new body place → IsFor (Open (innermost old)) (seat_at new place.frame)
put_home old new body place put = (
  record { page = with_body put.puts.seat.page place.slot body; home = Open (innermost old) },
  ap (λ (h : HeapState). seat_at h place.frame) put.now ∙ get_or-set_same old.seats place.frame put.seat None (got_lt old.seats place.frame put.puts.seat put.puts.was) ∙ put.puts.now,
  refl,
)

made_home : (old new : HeapState) (lent : Lent) (body : Body) (place : Place) → IsMade old new lent body place → IsFor (Open (innermost old)) (seat_at new place.frame)
made_home old new lent body place (inl made) = put_home old new body place made.put
made_home old new lent body place (inr made) = put_home (with_spare old place.frame made.page) new body place made.put

-- an object that was made, and is there, lives in the innermost region
pub made_lives : (old new : HeapState) (lent : Lent) (body found : Body) (place : Place) → IsMade old new lent body place → look_over new None place ≡ Some found → LivesIn new (Open (innermost new)) place
made_lives old new lent body found place made there =
    let home = made_home old new lent body place made in
    record {
      seat = home.0;
      there = home.1;
      home_is = home.2 ∙ ap (λ n. Open (n - 1)) (sym (made_regions old new lent body place made));
      body = found;
      at = ap (λ o. body_in (option_or o None) place.slot place.generation) (sym home.1) ∙ there;
    }

only_kept : (h : HeapState) (root : Place) → HasNoIsolate h → (frame : ℕ) (seat : Seat) (other : Place) → seat_at (without_region h (Kept root)) frame ≡ Some seat → seat.home ≡ Kept other → other ≢ root → ⊥
only_kept h root none f seat other there home apart =
    let was = rehomed_some (Open (innermost h)) (Kept root) (seat_at h f) seat (sym (seat_moved h.seats (Open (innermost h)) (Kept root) f) ∙ there) in
    by_test (home_eq was.0.home (Open (innermost h))) (none f was.0 other was.1) (ap (λ (s : Seat). s.home) was.2 ∙ home)
  where
    by_test : {was : Home} (b : Bool) → (was ≡ Kept other → ⊥) → cond b (Kept root) was ≡ Kept other → ⊥
    by_test true never is = let same : other ≡ root = cc in apart same
    by_test false never is = never is

moved_root : (h : HeapState) (root : Place) → LivesIn h (Open (innermost h)) root → IsRoot (without_region h (Kept root)) root
moved_root h root lives = record {
  seat = with_home (Kept root) lives.seat;
  there = seat_moved h.seats (Open (innermost h)) (Kept root) root.frame ∙ ap (rehomed (Open (innermost h)) (Kept root)) lives.there ∙ ap (λ b. Some (with_home (cond b (Kept root) lives.seat.home) lives.seat)) (home_eq-refl lives.seat.home (Open (innermost h)) lives.home_is);
  home_is = refl;
  body = lives.body;
  at = lives.at;
}

and_true : (a b : Bool) → (a && b) ≡ true → (a ≡ true) × (b ≡ true)
and_true true b e = (refl, e)
and_true false b e = absurd (cc)

root_test : (h : HeapState) (root : Place) → IsRoot h root → is_root_in (seat_at h root.frame) root ≡ true
root_test h root is = ap (λ o. is_root_in o root) is.there ∙ ap (λ b. b && is_some (body_at is.seat.page root.slot root.generation)) (home_eq-refl is.seat.home (Kept root) is.home_is) ∙ ap is_some is.at

tested : (h : HeapState) (root : Place) → is_root_in (seat_at h root.frame) root ≡ true → IsRoot h root
tested h root test = by_seat (seat_at h root.frame) refl test
  where
    by_body : (seat : Seat) → seat_at h root.frame ≡ Some seat → (o : Option Body) → body_at seat.page root.slot root.generation ≡ o → home_eq seat.home (Kept root) && is_some o ≡ true → IsRoot h root
    by_body seat there None at test = absurd (let both = and_true (home_eq seat.home (Kept root)) false test in let clash : false ≡ true = both.1 in cc)
    by_body seat there (Some body) at test = record {
      seat = seat;
      there = there;
      home_is = home_eq-true seat.home (Kept root) (and_true (home_eq seat.home (Kept root)) true test).0;
      body = body;
      at = at;
    }

    by_seat : (o : Option Seat) → seat_at h root.frame ≡ o → is_root_in o root ≡ true → IsRoot h root
    by_seat None there test = absurd (cc)
    by_seat (Some seat) there test = by_body seat there (body_at seat.page root.slot root.generation) refl test

pub keep_kept : (old new : HeapState) (table : Plain) (freezes depth : ℕ) (root : Place) → IsLent old table freezes depth → LivesIn old (Open (innermost old)) root → new ≡ without_region old (Kept root) → KeepsFrames old new → 0 < freezes → IsKept new table (freezes - 1) depth root
keep_kept old new table freezes depth root was lives is keeps some =
    let regions : new.regions ≡ innermost old = ap (λ (h : HeapState). h.regions) is in
    record {
      few = omega (arith, was.few, keeps.as_long);
      known = keeps.known (out_of table) was.known;
      only = λ f seat other there. only_kept old root was.no_isolate f seat other (sym (ap (λ (h : HeapState). seat_at h f) is) ∙ there);
      is_root = root_test new root (subst (λ h. IsRoot h root) (sym is) (moved_root old root lives));
      regions = omega (arith, regions, was.regions, some);
      deep = ap (λ (h : HeapState). h.depth) is ∙ was.deep;
    }

-- ---- the isolate joins the innermost region

joined_free : (old : HeapState) (table : Plain) (freezes depth : ℕ) (root : Place) → IsKept old table freezes depth root → HasNoIsolate (with_merged old root)
joined_free old table freezes depth root was f seat other there home =
    let came = rehomed_some (Kept root) (Open (innermost old)) (seat_at old f) seat (sym (seat_moved old.seats (Kept root) (Open (innermost old)) f) ∙ there) in
    by_test came.0 came.1 (home_eq came.0.home (Kept root)) refl (ap (λ (s : Seat). s.home) came.2 ∙ home)
  where
    by_test : (old_seat : Seat) → seat_at old f ≡ Some old_seat → (b : Bool) → home_eq old_seat.home (Kept root) ≡ b → cond b (Open (innermost old)) old_seat.home ≡ Kept other → ⊥
    by_test old_seat at true e is = open_kept (innermost old) other is
    by_test old_seat at false e is = was.only f old_seat other at is (λ same.
        let clash : true ≡ false = sym (home_eq-refl old_seat.home (Kept root) (is ∙ ap Kept same)) ∙ e in
        cc)

pub root_there : (h : HeapState) (table : Plain) (freezes depth : ℕ) (root : Place) → IsKept h table freezes depth root → IsRoot h root
root_there h table freezes depth root was = tested h root was.is_root

pub join_lent : (old new : HeapState) (table : Plain) (freezes depth : ℕ) (root : Place) → IsKept old table freezes depth root → new ≡ with_merged old root → KeepsFrames old new → IsLent new table freezes depth
join_lent old new table freezes depth root was is keeps = record {
  few = omega (arith, was.few, keeps.as_long);
  known = keeps.known (out_of table) was.known;
  no_isolate = subst HasNoIsolate (sym is) (joined_free old table freezes depth root was);
  regions = ap (λ (h : HeapState). h.regions) is ∙ was.regions;
  deep = ap (λ (h : HeapState). h.depth) is ∙ was.deep;
}
