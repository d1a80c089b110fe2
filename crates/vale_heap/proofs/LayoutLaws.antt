-- Laws of the lists that a heap keeps its pages on.
use Rattle.std.proofs.Common.{◌≡◌, ◌≢◌, ℕ, replicate, ◌+◌, ◌-◌, ◌*◌, ◌<◌, ◌^◌, Bool, true, false, List, length, get_or, set, Option, Some, None, cond, max, refl, sym, ap, subst, ◌∙◌, inl, inr, arith, nat_eq}
use Rattle.std.specs.Prelude.{◌&&◌, nat_lt, IfSome, IfNone}
use Rattle.std.proofs.lemmas.Bool.{cases_eq, cases_lt, eqb-true, eqb-false, eq-eqb, ne_eqb}
use Rattle.std.proofs.lemmas.Option.{same_Some}
use Rattle.std.proofs.lemmas.List.{length-set, get_or-set_same, get_or-set_other, get_or_past, get_or-replicate, length-replicate, set-get_or}
use Rattle.vale_page.specs.PageState.{free_count, live_count, retired_count, body_of}
use Rattle.vale_heap.specs.declared.body.Place.{Place}
use Rattle.vale_heap.specs.declared.seat.Seat.{Seat}
use Rattle.vale_heap.specs.declared.seat.Home.{Home}
use Rattle.vale_heap.specs.declared.seat.Home.TheVariants.{Spare, Open, Kept}
use Rattle.vale_heap.specs.HeapState.{HeapState, seat_at, innermost, opened, IsRoot, IsHeap, FitsHome, serves, has_room, with_seat, IsFor, NoneFor}
use Rattle.vale_heap.specs.declared.body.Body.{Body}
use Rattle.vale_heap.specs.HeapLends.{with_written}
use Rattle.vale_heap.specs.ListState.{ListState, list_at}
use Rattle.vale_heap.specs.Layout.{roomy_list, full_list, spare_list, list_of, list_for, IsLaidOut}
use Rattle.vale_heap.proofs.HeapLaws.{heap_with_seat, can_write, written_live, got_lt}

-- ---- one page is another now

-- the lists with this frame's page on its list
abbrev pub with_listed : (frames frame : ℕ) → Option Seat → ListState → ListState
with_listed frames frame o l = record l { on = set l.on frame (list_for frames frame o) }

pub laid_out : (h : HeapState) (l : ListState) (frame : ℕ) (o : Option Seat) → IsLaidOut h l → frame < length h.seats → IsHeap (with_seat h frame o) → IsLaidOut (with_seat h frame o) (with_listed (length h.seats) frame o l)
laid_out h l frame o ok within heap =
    let long : length (set h.seats frame o) ≡ length h.seats = length-set h.seats frame o in
    record {
      heap = heap;
      items = length-set l.on frame (list_for (length h.seats) frame o) ∙ ok.items ∙ sym long;
      listed = λ f h2. subst (λ n. get_or (set l.on frame (list_for (length h.seats) frame o)) f None ≡ list_for n f (get_or (set h.seats frame o) f None)) (sym long) (elim (cases_eq f frame) [
        | inl same ↦
            ap (λ x. get_or (set l.on frame (list_for (length h.seats) frame o)) x None) same
            ∙ get_or-set_same l.on frame (list_for (length h.seats) frame o) None (omega (arith, ok.items, within))
            ∙ ap (list_for (length h.seats) frame) (sym (get_or-set_same h.seats frame o None within))
            ∙ ap (λ x. list_for (length h.seats) x (get_or (set h.seats frame o) x None)) (sym same)
        | inr other ↦
            get_or-set_other l.on frame f (list_for (length h.seats) frame o) None other
            ∙ ok.listed f (omega (arith, h2, long))
            ∙ ap (list_for (length h.seats) f) (sym (get_or-set_other h.seats frame f o None other))
      ]);
      many = ok.many ∙ ap (λ n. n + 1 + 2 * h.regions) (sym long);
      most = ok.most ∙ ap (λ n. n + 1 + 2 * max h.depth 1) (sym long);
      few = omega (arith, long, ok.few);
    }

-- ---- the numbers of the lists

-- a page's list is one of the heap's
pub list_within : (h : HeapState) (frame : ℕ) (seat : Seat) (list : ℕ) → IsHeap h → seat_at h frame ≡ Some seat → list_for (length h.seats) frame (Some seat) ≡ Some list → list < length h.seats + 1 + 2 * h.regions
list_within h frame seat list ok there is = by_home (live_count seat.page) seat.home (nat_lt 0 (free_count seat.page)) (ok.seats_ok frame seat there).fits (λ root e. ok.roots frame seat root there e) is
  where
    by_home : (live : ℕ) (home : Home) (room : Bool) → FitsHome h.regions live home → ((root : Place) → home ≡ Kept root → IsRoot h root) → list_of (length h.seats) frame home room ≡ Some list → list < length h.seats + 1 + 2 * h.regions
    by_home live Spare true fits root is = let e = same_Some _ _ is in omega (arith, e)
    by_home live Spare false fits root is = absurd (cc)
    by_home live (Open depth) true fits root is = let e = same_Some _ _ is in omega (arith, e, fits.0)
    by_home live (Open depth) false fits root is = let e = same_Some _ _ is in omega (arith, e, fits.0)
    by_home live (Kept place) room fits root is = by_test (nat_eq place.frame frame) is
      where
        by_test : (b : Bool) → cond b None (Some place.frame) ≡ Some list → list < length h.seats + 1 + 2 * h.regions
        by_test true is = absurd (cc)
        by_test false is = let e = same_Some _ _ is in let at = root place refl in let within = got_lt h.seats place.frame at.seat at.there in omega (arith, e, within)

pub if_within : (h : HeapState) (frame : ℕ) (o : Option Seat) (lists : ℕ) → IsHeap h → seat_at h frame ≡ o → lists ≡ length h.seats + 1 + 2 * h.regions → IfSome (list_for (length h.seats) frame o) (λ l. l < lists)
if_within h frame None lists ok there many = tt
if_within h frame (Some seat) lists ok there many = by_list (list_for (length h.seats) frame (Some seat)) refl
  where
    by_list : (o : Option ℕ) → list_for (length h.seats) frame (Some seat) ≡ o → IfSome o (λ l. l < lists)
    by_list None e = tt
    by_list (Some list) e = let within = list_within h frame seat list ok there e in omega (arith, within, many)

-- where a page is on a list of an open region, it is for that region
roomy_is : (frames frame region : ℕ) (home : Home) (room : Bool) → ((root : Place) → home ≡ Kept root → root.frame < frames) → list_of frames frame home room ≡ Some (roomy_list frames region) → (home ≡ Open region) × (room ≡ true)
roomy_is frames frame region Spare true within is = absurd (let e = same_Some _ _ is in omega (arith, e))
roomy_is frames frame region Spare false within is = absurd (cc)
roomy_is frames frame region (Open depth) true within is = let e = same_Some _ _ is in (ap Open (omega (arith, e)), refl)
roomy_is frames frame region (Open depth) false within is = absurd (let e = same_Some _ _ is in omega (arith, e))
roomy_is frames frame region (Kept root) room within is = absurd (by_test (nat_eq root.frame frame) is)
  where
    by_test : (b : Bool) → cond b None (Some root.frame) ≡ Some (roomy_list frames region) → ⊥
    by_test true is = cc
    by_test false is = let e = same_Some _ _ is in let h = within root refl in omega (arith, e, h)

full_is : (frames frame region : ℕ) (home : Home) (room : Bool) → ((root : Place) → home ≡ Kept root → root.frame < frames) → list_of frames frame home room ≡ Some (full_list frames region) → home ≡ Open region
full_is frames frame region Spare true within is = absurd (let e = same_Some _ _ is in omega (arith, e))
full_is frames frame region Spare false within is = absurd (cc)
full_is frames frame region (Open depth) true within is = absurd (let e = same_Some _ _ is in omega (arith, e))
full_is frames frame region (Open depth) false within is = let e = same_Some _ _ is in ap Open (omega (arith, e))
full_is frames frame region (Kept root) room within is = absurd (by_test (nat_eq root.frame frame) is)
  where
    by_test : (b : Bool) → cond b None (Some root.frame) ≡ Some (full_list frames region) → ⊥
    by_test true is = cc
    by_test false is = let e = same_Some _ _ is in let h = within root refl in omega (arith, e, h)

spare_is : (frames frame : ℕ) (home : Home) (room : Bool) → ((root : Place) → home ≡ Kept root → root.frame < frames) → list_of frames frame home room ≡ Some (spare_list frames) → (home ≡ Spare) × (room ≡ true)
spare_is frames frame Spare true within is = (refl, refl)
spare_is frames frame Spare false within is = absurd (cc)
spare_is frames frame (Open depth) true within is = absurd (let e = same_Some _ _ is in omega (arith, e))
spare_is frames frame (Open depth) false within is = absurd (let e = same_Some _ _ is in omega (arith, e))
spare_is frames frame (Kept root) room within is = absurd (by_test (nat_eq root.frame frame) is)
  where
    by_test : (b : Bool) → cond b None (Some root.frame) ≡ Some (spare_list frames) → ⊥
    by_test true is = cc
    by_test false is = let e = same_Some _ _ is in let h = within root refl in omega (arith, e, h)

-- where a page is on the list of a frame, it is for an isolate whose root is in that frame, which isn't its own
beside_is : (frames frame at : ℕ) (home : Home) (room : Bool) → at < frames → list_of frames frame home room ≡ Some at → (root : Place) × (home ≡ Kept root) × (root.frame ≡ at) × (root.frame ≢ frame)
beside_is frames frame at Spare true within is = absurd (let e = same_Some _ _ is in omega (arith, e, within))
beside_is frames frame at Spare false within is = absurd (cc)
beside_is frames frame at (Open depth) true within is = absurd (let e = same_Some _ _ is in omega (arith, e, within))
beside_is frames frame at (Open depth) false within is = absurd (let e = same_Some _ _ is in omega (arith, e, within))
beside_is frames frame at (Kept root) room within is = by_test (nat_eq root.frame frame) refl is
  where
    by_test : (b : Bool) → nat_eq root.frame frame ≡ b → cond b None (Some root.frame) ≡ Some at → (other : Place) × (Kept root ≡ Kept other) × (other.frame ≡ at) × (other.frame ≢ frame)
    by_test true test is = absurd (cc)
    by_test false test is = (root, refl, same_Some _ _ is, eqb-false root.frame frame test)

-- ---- what is on a list

-- the page of an item
some_seat : (frames frame list : ℕ) (o : Option Seat) → list_for frames frame o ≡ Some list → (seat : Seat) × (o ≡ Some seat) × (list_of frames frame seat.home (nat_lt 0 (free_count seat.page)) ≡ Some list)
some_seat frames frame list None is = absurd (cc)
some_seat frames frame list (Some seat) is = (seat, refl, is)

module _ (h : HeapState) (l : ListState) (ok : IsLaidOut h l) where
  roots_within : (frame : ℕ) (seat : Seat) → seat_at h frame ≡ Some seat → (root : Place) → seat.home ≡ Kept root → root.frame < length h.seats
  roots_within frame seat there root e = let at = ok.heap.roots frame seat root there e in got_lt h.seats root.frame at.seat at.there

  listed_seat : (frame list : ℕ) → frame < length l.on → list_at l frame ≡ Some list → (seat : Seat) × (seat_at h frame ≡ Some seat) × (list_of (length h.seats) frame seat.home (nat_lt 0 (free_count seat.page)) ≡ Some list)
  listed_seat frame list within is = some_seat (length h.seats) frame list (seat_at h frame) (sym (ok.listed frame (omega (arith, within, ok.items))) ∙ is)

  -- and the other way round
  on_list : (frame list : ℕ) (seat : Seat) → seat_at h frame ≡ Some seat → list_of (length h.seats) frame seat.home (nat_lt 0 (free_count seat.page)) ≡ Some list → (frame < length l.on) × (list_at l frame ≡ Some list)
  on_list frame list seat there is =
      let within = got_lt h.seats frame seat there in
      (omega (arith, within, ok.items), ok.listed frame within ∙ ap (list_for (length h.seats) frame) there ∙ is)

  pub roomy_has_room : (frame region : ℕ) → frame < length l.on → list_at l frame ≡ Some (roomy_list (length h.seats) region) → has_room region (seat_at h frame) ≡ true
  roomy_has_room frame region within is =
      let at = listed_seat frame (roomy_list (length h.seats) region) within is in
      let two = roomy_is (length h.seats) frame region at.0.home (nat_lt 0 (free_count at.0.page)) (roots_within frame at.0 at.1) at.2 in
      ap (has_room region) at.1 ∙ ap (λ home. serves region home && nat_lt 0 (free_count at.0.page)) two.0 ∙ ap (λ b. b && nat_lt 0 (free_count at.0.page)) (eq-eqb region region refl) ∙ two.1

  pub spare_has_room : (frame region : ℕ) → frame < length l.on → list_at l frame ≡ Some (spare_list (length h.seats)) → has_room region (seat_at h frame) ≡ true
  spare_has_room frame region within is =
      let at = listed_seat frame (spare_list (length h.seats)) within is in
      let two = spare_is (length h.seats) frame at.0.home (nat_lt 0 (free_count at.0.page)) (roots_within frame at.0 at.1) at.2 in
      ap (has_room region) at.1 ∙ ap (λ home. serves region home && nat_lt 0 (free_count at.0.page)) two.0 ∙ two.1

  pub lists_no_room : (region : ℕ) → ((frame : ℕ) → frame < length l.on → list_at l frame ≢ Some (roomy_list (length h.seats) region)) → ((frame : ℕ) → frame < length l.on → list_at l frame ≢ Some (spare_list (length h.seats))) → (frame : ℕ) → has_room region (seat_at h frame) ≡ false
  lists_no_room region no_roomy no_spare frame = by_seat (seat_at h frame) refl
    where
      by_home : (seat : Seat) → seat_at h frame ≡ Some seat → (home : Home) (room : Bool) → seat.home ≡ home → nat_lt 0 (free_count seat.page) ≡ room → (serves region home && room) ≡ false
      by_home seat there Spare false is test = refl
      by_home seat there Spare true is test = absurd (
          let on = on_list frame (spare_list (length h.seats)) seat there (ap (λ x. list_of (length h.seats) frame x (nat_lt 0 (free_count seat.page))) is ∙ ap (list_of (length h.seats) frame Spare) test) in
          no_spare frame on.0 on.1)
      by_home seat there (Kept root) room is test = refl
      by_home seat there (Open depth) room is test = by_test room (nat_eq depth region) test refl
        where
          by_test : (room b : Bool) → nat_lt 0 (free_count seat.page) ≡ room → nat_eq depth region ≡ b → (b && room) ≡ false
          by_test room false test e = refl
          by_test false true test e = refl
          by_test true true test e = absurd (
              let on = on_list frame (roomy_list (length h.seats) region) seat there (ap (λ x. list_of (length h.seats) frame x (nat_lt 0 (free_count seat.page))) is ∙ ap (list_of (length h.seats) frame (Open depth)) test ∙ ap (λ d. Some (roomy_list (length h.seats) d)) (eqb-true depth region e)) in
              no_roomy frame on.0 on.1)

      by_seat : (o : Option Seat) → seat_at h frame ≡ o → has_room region o ≡ false
      by_seat None e = refl
      by_seat (Some seat) e = by_home seat e seat.home (nat_lt 0 (free_count seat.page)) refl refl

  pub roomy_is_for : (frame region : ℕ) → frame < length l.on → list_at l frame ≡ Some (roomy_list (length h.seats) region) → IsFor (Open region) (seat_at h frame)
  roomy_is_for frame region within is =
      let at = listed_seat frame (roomy_list (length h.seats) region) within is in
      (at.0, at.1, (roomy_is (length h.seats) frame region at.0.home (nat_lt 0 (free_count at.0.page)) (roots_within frame at.0 at.1) at.2).0)

  pub full_is_for : (frame region : ℕ) → frame < length l.on → list_at l frame ≡ Some (full_list (length h.seats) region) → IsFor (Open region) (seat_at h frame)
  full_is_for frame region within is =
      let at = listed_seat frame (full_list (length h.seats) region) within is in
      (at.0, at.1, full_is (length h.seats) frame region at.0.home (nat_lt 0 (free_count at.0.page)) (roots_within frame at.0 at.1) at.2)

  pub lists_none_for : (region : ℕ) → ((frame : ℕ) → frame < length l.on → list_at l frame ≢ Some (roomy_list (length h.seats) region)) → ((frame : ℕ) → frame < length l.on → list_at l frame ≢ Some (full_list (length h.seats) region)) → NoneFor (Open region) h
  lists_none_for region no_roomy no_full frame is = by_room (nat_lt 0 (free_count is.0.page)) refl
    where
      by_room : (room : Bool) → nat_lt 0 (free_count is.0.page) ≡ room → ⊥
      by_room true test = let on = on_list frame (roomy_list (length h.seats) region) is.0 is.1 (ap (λ x. list_of (length h.seats) frame x (nat_lt 0 (free_count is.0.page))) is.2 ∙ ap (list_of (length h.seats) frame (Open region)) test) in no_roomy frame on.0 on.1
      by_room false test = let on = on_list frame (full_list (length h.seats) region) is.0 is.1 (ap (λ x. list_of (length h.seats) frame x (nat_lt 0 (free_count is.0.page))) is.2 ∙ ap (list_of (length h.seats) frame (Open region)) test) in no_full frame on.0 on.1

  -- no page of a region: none on its lists
  pub none_for_lists : (region : ℕ) → NoneFor (Open region) h → (frame : ℕ) → frame < length l.on → (list_at l frame ≢ Some (roomy_list (length h.seats) region)) × (list_at l frame ≢ Some (full_list (length h.seats) region))
  none_for_lists region none frame within = (λ e. none frame (roomy_is_for frame region within e), λ e. none frame (full_is_for frame region within e))

  same_root : (root iso : Place) → IsRoot h root → IsRoot h iso → root.frame ≡ iso.frame → root ≡ iso
  same_root root iso a b e =
      let seats : a.seat ≡ b.seat = same_Some _ _ (sym a.there ∙ ap (seat_at h) e ∙ b.there) in
      let homes : Kept root ≡ Kept iso = sym a.home_is ∙ ap (λ (s : Seat). s.home) seats ∙ b.home_is in
      cc

  pub beside_is_for : (frame : ℕ) (iso : Place) → IsRoot h iso → frame < length l.on → list_at l frame ≡ Some iso.frame → (frame ≢ iso.frame) × IsFor (Kept iso) (seat_at h frame)
  beside_is_for frame iso root within is =
      let at = listed_seat frame iso.frame within is in
      let found = beside_is (length h.seats) frame iso.frame at.0.home (nat_lt 0 (free_count at.0.page)) (got_lt h.seats iso.frame root.seat root.there) at.2 in
      let one : found.0 ≡ iso = same_root found.0 iso (ok.heap.roots frame at.0 found.0 at.1 found.1) root found.2 in
      (λ e. found.3 (found.2 ∙ sym e), (at.0, at.1, found.1 ∙ ap Kept one))

  pub lists_none_beside : (iso : Place) → ((frame : ℕ) → frame < length l.on → list_at l frame ≢ Some iso.frame) → (frame : ℕ) → IsFor (Kept iso) (seat_at h frame) → frame ≡ iso.frame
  lists_none_beside iso none frame is = elim (cases_eq frame iso.frame) [
    | inl e ↦ e
    | inr apart ↦ absurd (
        let on = on_list frame iso.frame is.0 is.1 (ap (λ x. list_of (length h.seats) frame x (nat_lt 0 (free_count is.0.page))) is.2 ∙ ap (λ b. cond b None (Some iso.frame)) (ne_eqb iso.frame frame (λ e. apart (sym e)))) in
        none frame on.0 on.1)
  ]

-- ---- one region more, and one less

pub laid_opened : (h : HeapState) (l : ListState) → IsLaidOut h l → IsHeap (record h { regions = h.regions + 1 }) → IsLaidOut (record h { regions = h.regions + 1 }) (record l { lists = l.lists + 2 })
laid_opened h l ok heap = record { heap = heap; items = ok.items; listed = ok.listed; many = omega (arith, ok.many); most = ok.most; few = ok.few }

pub laid_closed : (h : HeapState) (l : ListState) → IsLaidOut h l → 1 < h.regions → IsHeap (record h { regions = innermost h }) → IsLaidOut (record h { regions = innermost h }) (record l { lists = l.lists - 2 })
laid_closed h l ok some heap = record { heap = heap; items = ok.items; listed = ok.listed; many = omega (arith, ok.many, some); most = ok.most; few = ok.few }

-- what is first on the list of spare pages has room
pub first_spare : (h : HeapState) (l : ListState) (ok : IsLaidOut h l) (region : ℕ) (o : Option ℕ) → IfSome o (λ item. (item < length l.on) × (list_at l item ≡ Some (spare_list (length h.seats)))) → IfSome o (λ frame. has_room region (seat_at h frame) ≡ true)
first_spare h l ok region None some = tt
first_spare h l ok region (Some frame) some = spare_has_room h l ok frame region some.0 some.1

pub first_full : (h : HeapState) (l : ListState) (ok : IsLaidOut h l) (region : ℕ) (o : Option ℕ) → IfSome o (λ item. (item < length l.on) × (list_at l item ≡ Some (full_list (length h.seats) region))) → IfSome o (λ frame. IsFor (Open region) (seat_at h frame))
first_full h l ok region None some = tt
first_full h l ok region (Some frame) some = full_is_for h l ok frame region some.0 some.1

pub first_beside : (h : HeapState) (l : ListState) (ok : IsLaidOut h l) (iso : Place) → IsRoot h iso → (o : Option ℕ) → IfSome o (λ item. (item < length l.on) × (list_at l item ≡ Some iso.frame)) → IfSome o (λ frame. (frame ≢ iso.frame) × IsFor (Kept iso) (seat_at h frame))
first_beside h l ok iso root None some = tt
first_beside h l ok iso root (Some frame) some = beside_is_for h l ok frame iso root some.0 some.1

-- where there is nothing on the lists that were asked, there is nothing at all
pub no_room_law : (h : HeapState) (l : ListState) (ok : IsLaidOut h l) (region : ℕ) (o : Option ℕ) → ((frame : ℕ) → frame < length l.on → list_at l frame ≢ Some (roomy_list (length h.seats) region)) →
    IfNone o ((frame : ℕ) → frame < length l.on → list_at l frame ≢ Some (spare_list (length h.seats))) → IfNone o ((frame : ℕ) → has_room region (seat_at h frame) ≡ false)
no_room_law h l ok region None no_roomy no_spare = lists_no_room h l ok region no_roomy no_spare
no_room_law h l ok region (Some frame) no_roomy no_spare = tt

pub none_for_law : (h : HeapState) (l : ListState) (ok : IsLaidOut h l) (region : ℕ) (o : Option ℕ) → ((frame : ℕ) → frame < length l.on → list_at l frame ≢ Some (roomy_list (length h.seats) region)) →
    IfNone o ((frame : ℕ) → frame < length l.on → list_at l frame ≢ Some (full_list (length h.seats) region)) → IfNone o (NoneFor (Open region) h)
none_for_law h l ok region None no_roomy no_full = lists_none_for h l ok region no_roomy no_full
none_for_law h l ok region (Some frame) no_roomy no_full = tt

pub none_beside_law : (h : HeapState) (l : ListState) (ok : IsLaidOut h l) (iso : Place) (o : Option ℕ) → IfNone o ((frame : ℕ) → frame < length l.on → list_at l frame ≢ Some iso.frame) → IfNone o ((frame : ℕ) → IsFor (Kept iso) (seat_at h frame) → frame ≡ iso.frame)
none_beside_law h l ok iso None none = lists_none_beside h l ok iso none
none_beside_law h l ok iso (Some frame) none = tt

pub room_lt : (xs : List (Option Seat)) (region i : ℕ) → has_room region (get_or xs i None) ≡ true → i < length xs
room_lt xs region i e = elim (cases_lt i (length xs)) [
  | inl h ↦ h
  | inr h ↦ absurd (let clash : false ≡ true = sym (ap (has_room region) (get_or_past xs i None h)) ∙ e in cc)
]

-- ---- as the code puts a frame on its list

relisted : (h : HeapState) (l : ListState) (frame : ℕ) (o : Option Seat) → frame < length h.seats → with_listed (length (set h.seats frame o)) frame (get_or (set h.seats frame o) frame None) l ≡ with_listed (length h.seats) frame o l
relisted h l frame o within =
    ap (λ n. with_listed n frame (get_or (set h.seats frame o) frame None) l) (length-set h.seats frame o)
    ∙ ap (λ x. with_listed (length h.seats) frame x l) (get_or-set_same h.seats frame o None within)

pub relisted_law : (h : HeapState) (l new : ListState) (frame : ℕ) (o : Option Seat) (items : List (Option Seat)) → IsLaidOut h l → frame < length h.seats → IsHeap (with_seat h frame o) → items ≡ set h.seats frame o →
    new ≡ with_listed (length items) frame (get_or items frame None) l → IsLaidOut (with_seat h frame o) new
relisted_law h l new frame o items ok within heap are is =
    subst (IsLaidOut (with_seat h frame o)) (sym (is ∙ ap (λ xs. with_listed (length xs) frame (get_or xs frame None) l) are ∙ relisted h l frame o within)) (laid_out h l frame o ok within heap)

-- the list of the page is there
pub relist_within : (h : HeapState) (l : ListState) (frame : ℕ) (o : Option Seat) (items : List (Option Seat)) → IsLaidOut h l → frame < length h.seats → IsHeap (with_seat h frame o) → items ≡ set h.seats frame o →
    IfSome (list_for (length items) frame (get_or items frame None)) (λ list. list < l.lists)
relist_within h l frame o items ok within heap are =
    subst (λ xs. IfSome (list_for (length xs) frame (get_or xs frame None)) (λ list. list < l.lists)) (sym are)
    (if_within (with_seat h frame o) frame (get_or (set h.seats frame o) frame None) l.lists heap refl (omega (arith, ok.many, length-set h.seats frame o)))

-- ---- as the code moves a page that is another now to its list

pub listed_law : (h : HeapState) (l new : ListState) (frame frames : ℕ) (o : Option Seat) (list : Option ℕ) → IsLaidOut h l → frame < length h.seats → IsHeap (with_seat h frame o) → frames ≡ length h.seats → list ≡ list_for frames frame o →
    new ≡ record l { on = set l.on frame list } → IsLaidOut (with_seat h frame o) new
listed_law h l new frame frames o list ok within heap many to is =
    subst (IsLaidOut (with_seat h frame o)) (sym (is ∙ ap (λ x. record l { on = set l.on frame x }) (to ∙ ap (λ n. list_for n frame o) many))) (laid_out h l frame o ok within heap)

pub list_there : (h : HeapState) (l : ListState) (frame frames : ℕ) (o : Option Seat) (list : Option ℕ) → IsLaidOut h l → frame < length h.seats → IsHeap (with_seat h frame o) → frames ≡ length h.seats → list ≡ list_for frames frame o →
    IfSome list (λ x. x < l.lists)
list_there h l frame frames o list ok within heap many to =
    let here : list_for (length (set h.seats frame o)) frame (get_or (set h.seats frame o) frame None) ≡ list_for (length h.seats) frame o =
    ap (λ n. list_for n frame (get_or (set h.seats frame o) frame None)) (length-set h.seats frame o) ∙ ap (list_for (length h.seats) frame) (get_or-set_same h.seats frame o None within) in
    subst (λ x. IfSome x (λ list. list < l.lists)) (here ∙ sym (to ∙ ap (λ n. list_for n frame o) many)) (relist_within h l frame o (set h.seats frame o) ok within heap refl)

-- ---- a heap that opens

nothing_at : (frames frame : ℕ) (seat : Seat) → get_or (replicate frames None) frame None ≡ Some seat → ⊥
nothing_at frames frame seat at = elim (cases_lt frame frames) [
  | inl h ↦ let clash : None ≡ Some seat = sym (get_or-replicate frames frame None None h) ∙ at in cc
  | inr h ↦ let clash : None ≡ Some seat = sym (get_or_past (replicate frames None) frame None (omega (arith, h, length-replicate frames (let o : Option Seat = None in o)))) ∙ at in cc
]

pub heap_opens : (frames depth : ℕ) → IsHeap (opened frames depth)
heap_opens frames depth = record {
  seats_ok = λ f s at. absurd (nothing_at frames f s at);
  roots = λ f s root at _. absurd (nothing_at frames f s at);
  some_open = omega arith;
  within_depth = omega arith;
}

pub open_laid : (frames depth : ℕ) → frames < 2 ^ 32 → IsLaidOut (opened frames depth) (record { on = replicate frames None; lists = frames + 3; most = frames + 1 + 2 * max depth 1 })
open_laid frames depth few =
    let seats : length (replicate frames (let o : Option Seat = None in o)) ≡ frames = length-replicate frames (let o : Option Seat = None in o) in
    let on : length (replicate frames (let o : Option ℕ = None in o)) ≡ frames = length-replicate frames (let o : Option ℕ = None in o) in
    record {
      heap = heap_opens frames depth;
      items = on ∙ sym seats;
      listed = λ frame h.
          let within : frame < frames = omega (arith, h, seats) in
          get_or-replicate frames frame None None within ∙ ap (list_for (length (replicate frames None)) frame) (sym (get_or-replicate frames frame None None within));
      many = omega (arith, seats);
      most = omega (arith, seats);
      few = omega (arith, seats, few);
    }

-- ---- a page that is another now stays on its list, as where another body is in a slot that has one

pub laid_same : (h : HeapState) (l : ListState) (frame : ℕ) (o : Option Seat) → IsLaidOut h l → frame < length h.seats → IsHeap (with_seat h frame o) → list_for (length h.seats) frame o ≡ list_for (length h.seats) frame (seat_at h frame) → IsLaidOut (with_seat h frame o) l
laid_same h l frame o ok within heap same =
    let on : set l.on frame (list_for (length h.seats) frame o) ≡ l.on = ap (set l.on frame) (same ∙ sym (ok.listed frame within)) ∙ set-get_or l.on frame None in
    let lists : with_listed (length h.seats) frame o l ≡ l = ap (λ xs. record l { on = xs }) on in
    subst (IsLaidOut (with_seat h frame o)) lists (laid_out h l frame o ok within heap)

pub laid_written : (h : HeapState) (l : ListState) (frame slot : ℕ) (seat : Seat) (body w : Body) → IsLaidOut h l → slot < 64 → seat_at h frame ≡ Some seat → body_of seat.page slot ≡ Some body → IsLaidOut (with_seat h frame (Some (with_written seat slot w))) l
laid_written h l frame slot seat body w ok within there body_there =
    let page_ok = (ok.heap.seats_ok frame seat there).page in
    let live = written_live seat.page slot body w page_ok within body_there in
    let free : list_for (length h.seats) frame (Some (with_written seat slot w)) ≡ list_for (length h.seats) frame (Some seat) =
    ap (λ n. list_of (length h.seats) frame seat.home (nat_lt 0 (64 - (n + retired_count seat.page)))) (sym live) in
    laid_same h l frame (Some (with_written seat slot w)) ok (got_lt h.seats frame seat there) (heap_with_seat h frame (with_written seat slot w) (can_write h frame slot seat body w ok.heap within there body_there))
    (free ∙ ap (list_for (length h.seats) frame) (sym there))

-- ---- the lists of a region that closes

last_is_full : (h : HeapState) (l : ListState) → IsLaidOut h l → 1 < h.regions → l.lists - 1 ≡ full_list (length h.seats) (innermost h)
last_is_full h l ok many = omega (arith, ok.many, many)

pub no_full : (h : HeapState) (l : ListState) (ok : IsLaidOut h l) → 1 < h.regions → NoneFor (Open (innermost h)) h → (frame : ℕ) → frame < length l.on → list_at l frame ≢ Some (l.lists - 1)
no_full h l ok many none frame within e = (none_for_lists h l ok (innermost h) none frame within).1 (e ∙ ap (λ n. Some n) (last_is_full h l ok many))

pub no_roomy : (h : HeapState) (l : ListState) (ok : IsLaidOut h l) → 1 < h.regions → NoneFor (Open (innermost h)) h → (frame : ℕ) → frame < length l.on → list_at l frame ≢ Some (l.lists - 1 - 1)
no_roomy h l ok many none frame within e = (none_for_lists h l ok (innermost h) none frame within).0 (e ∙ ap (λ n. Some n) (omega (arith, ok.many, many)))
