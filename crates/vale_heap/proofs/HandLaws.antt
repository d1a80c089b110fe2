-- Each page of a heap is of its lender's hand, and a claim comes only where the heap's own slots are used up.
use Rattle.std.proofs.Common.{◌≡◌, ℕ, zero, suc, ◌+◌, ◌<◌, ◌≤◌, Bool, true, false, List, [], ◌∷◌, length, get_or, set, Option, Some, None, is_some, cond, count_by, sum_by, refl, sym, ap, subst, ◌∙◌, inl, inr, arith, nat_eq}
use Rattle.std.specs.Option.{option_map}
use Rattle.std.specs.Prelude.{◌&&◌, nat_lt}
use Rattle.std.proofs.lemmas.Bool.{cases_eq, cases_lt, eq-eqb}
use Rattle.std.proofs.lemmas.Bool.Decides.{nat_tests}
use Rattle.std.proofs.lemmas.List.{length-set, get_or-set_same, get_or-set_other, get_or_past}
use Rattle.std.proofs.lemmas.List.Sums.{sum_by-cons}
use Rattle.vale_page.specs.PageState.{PageState, IsPage, generation_at, live_count, retired_count, free_count, with_body, after_death}
use Rattle.vale_page.proofs.PageLaws.{page_counts, by_death}
use Rattle.vale_table.specs.Lending.{StillOut}
use Rattle.vale_heap.specs.declared.body.Place.{Place}
use Rattle.vale_heap.specs.declared.body.Body.{Body}
use Rattle.vale_heap.specs.declared.seat.Seat.{Seat}
use Rattle.vale_heap.specs.declared.seat.Home.{Home}
use Rattle.vale_heap.specs.declared.seat.Home.TheVariants.{Spare, Open, Kept}
use Rattle.vale_heap.specs.HeapState.{HeapState, seat_at, innermost, FitsHome, IsSeat, IsHeap, serves, has_room, with_seat, with_spare, Lent, IsMade, IsMadeByClaim, IsPut, IsEnded, KnowsFrames, live_of, is_spent, IsFrugal, ClaimsFrugally, IsOfHand, OfHand, KeepsFrames}
use Rattle.vale_heap.specs.HeapLends.{with_written, changed}
use Rattle.vale_heap.proofs.PutLaws.{same_some}
use Rattle.vale_heap.proofs.HeapLaws.{heap_put, heap_spare, left_seat, set_some}

-- ---- what a lender knows and holds

-- a frame that has a page after a put had one before
pub put_known : (old new : HeapState) (body : Body) (place : Place) (out : ℕ → Bool) → IsPut old new body place → KnowsFrames old out → KnowsFrames new out
put_known old new body place out put known f s e = elim (cases_eq f place.frame) [
  | inl same ↦ known f put.puts.seat (ap (seat_at old) same ∙ put.puts.was)
  | inr apart ↦ known f s (sym (get_or-set_other old.seats place.frame f put.seat None apart) ∙ sym (ap (λ h. seat_at h f) put.now) ∙ e)
]

pub spare_known : (old : HeapState) (frame : ℕ) (page : PageState Body) (out new_out : ℕ → Bool) → KnowsFrames old out → StillOut out new_out → new_out frame ≡ true → KnowsFrames (with_spare old frame page) new_out
spare_known old frame page out new_out known more here f s e = elim (cases_eq f frame) [
  | inl same ↦ ap new_out same ∙ here
  | inr apart ↦ more f (known f s (sym (get_or-set_other old.seats frame f (Some (record { page = page; home = Spare })) None apart) ∙ e))
]

put_of_hand : (old new : HeapState) (body : Body) (place : Place) (hand : ℕ → Option ℕ) → IsPut old new body place → OfHand old hand → OfHand new hand
put_of_hand old new body place hand put ok frame seat at = elim (cases_eq frame place.frame) [
  | inr apart ↦ ok frame seat (sym (get_or-set_other old.seats place.frame frame put.seat None apart) ∙ sym (ap (λ h. seat_at h frame) put.now) ∙ at)
  | inl here ↦
      let now : put.seat ≡ Some seat = set_some old.seats place.frame put.seat seat (sym (ap (λ h. seat_at h place.frame) put.now) ∙ ap (seat_at new) (sym here) ∙ at) in
      let same : record { page = with_body put.puts.seat.page place.slot body; home = Open (innermost old) } ≡ seat = same_some _ _ _ put.puts.now now in
      subst (λ (s : Seat). IsOfHand hand frame s) same (ok frame put.puts.seat (ap (seat_at old) here ∙ put.puts.was))
]

pub made_of_hand : (old new : HeapState) (lent : Lent) (body : Body) (place : Place) → IsMade old new lent body place → OfHand old lent.hand → OfHand new lent.new_hand
made_of_hand old new lent body place (inl made) ok =
    put_of_hand old new body place lent.new_hand made.put (λ frame seat at. let was = ok frame seat at in (was.0, made.same_hand frame ∙ was.1, was.2))
made_of_hand old new lent body place (inr made) ok =
    put_of_hand (with_spare old place.frame made.page) new body place lent.new_hand made.put spare
  where
    spare : OfHand (with_spare old place.frame made.page) lent.new_hand
    spare frame seat at = elim (cases_eq frame place.frame) [
      | inr apart ↦ let was = ok frame seat (sym (get_or-set_other old.seats place.frame frame (Some (record { page = made.page; home = Spare })) None apart) ∙ at) in (was.0, made.claimed.other_hand frame apart ∙ was.1, was.2)
      | inl here ↦
          let same : record { page = made.page; home = Spare } ≡ seat = same_some _ _ (Some seat) (sym (set_some old.seats place.frame (Some (record { page = made.page; home = Spare })) seat (ap (λ k. get_or (set old.seats place.frame (Some (record { page = made.page; home = Spare }))) k None) (sym here) ∙ at))) refl in
          subst (λ (s : Seat). IsOfHand lent.new_hand frame s) same (made.base, ap lent.new_hand here ∙ made.claimed.held, λ slot h. let each = made.claimed.blank.each slot h in omega (arith, each))
    ]

-- no generation is lower after a death
pub after_generation : (page : PageState Body) (slot k : ℕ) → generation_at page k ≤ generation_at (after_death page slot) k
after_generation page slot k = by_death (λ q. generation_at page k ≤ generation_at q k) page slot (λ _. omega arith) (λ _. rises)
  where
    rises : generation_at page k ≤ get_or (set page.generations slot (generation_at page slot + 1)) k 0
    rises = elim (cases_eq k slot) [
      | inr apart ↦ let same = get_or-set_other page.generations slot k (generation_at page slot + 1) 0 apart in omega (arith, same)
      | inl here ↦ elim (cases_lt slot (length page.generations)) [
        | inl within ↦
            let now : get_or (set page.generations slot (generation_at page slot + 1)) k 0 ≡ generation_at page slot + 1 = ap (λ n. get_or (set page.generations slot (generation_at page slot + 1)) n 0) here ∙ get_or-set_same page.generations slot (generation_at page slot + 1) 0 within in
            let was : generation_at page k ≡ generation_at page slot = ap (generation_at page) here in
            omega (arith, now, was)
        | inr past ↦ let none : generation_at page k ≡ 0 = get_or_past page.generations k 0 (omega (arith, past, here)) in omega (arith, none)
      ]
    ]

-- what a lender knows and holds stays so where one page is later
pub keeps_with_seat : (old : HeapState) (frame : ℕ) (seat new : Seat) → seat_at old frame ≡ Some seat → ((slot : ℕ) → slot < 64 → generation_at seat.page slot ≤ generation_at new.page slot) → KeepsFrames old (with_seat old frame (Some new))
keeps_with_seat old frame seat new there later = record {
  as_long = length-set old.seats frame (Some new);
  known = λ out known f s e. elim (cases_eq f frame) [
    | inl same ↦ known f seat (ap (seat_at old) same ∙ there)
    | inr apart ↦ known f s (sym (get_or-set_other old.seats frame f (Some new) None apart) ∙ e)
  ];
  of_hand = λ hand ok f s e. elim (cases_eq f frame) [
    | inl same ↦
        let is : new ≡ s = same_some _ _ (Some s) (sym (set_some old.seats frame (Some new) s (ap (λ k. get_or (set old.seats frame (Some new)) k None) (sym same) ∙ e))) refl in
        let was = ok f seat (ap (seat_at old) same ∙ there) in
        subst (λ (x : Seat). IsOfHand hand f x) is (was.0, was.1, λ slot h. let a = was.2 slot h in let b = later slot h in omega (arith, a, b))
    | inr apart ↦ ok f s (sym (get_or-set_other old.seats frame f (Some new) None apart) ∙ e)
  ];
}

pub ended_keeps : (old new : HeapState) (body : Body) (place : Place) → IsEnded old new body place → KeepsFrames old new
ended_keeps old new body place ended =
    let ends = ended.ends in
    subst (KeepsFrames old) (sym (ended.now ∙ ap (with_seat old place.frame) ends.now))
    (keeps_with_seat old place.frame ends.seat (left_seat ends.seat place.slot) ends.was (λ slot h. after_generation ends.seat.page place.slot slot))

pub keeps_same : (h : HeapState) → KeepsFrames h h
keeps_same h = record { as_long = refl; known = λ out known. known; of_hand = λ hand ok. ok }

pub changed_keeps : (h : HeapState) (at : Place) (left : Body) → KeepsFrames h (changed h at left)
changed_keeps h at left = by_seat (seat_at h at.frame) refl
  where
    by_seat : (o : Option Seat) → seat_at h at.frame ≡ o → KeepsFrames h (with_seat h at.frame (option_map (λ s. with_written s at.slot left) o))
    by_seat (Some seat) e = keeps_with_seat h at.frame seat (with_written seat at.slot left) e (λ slot _. omega arith)
    by_seat None e = record {
      as_long = length-set h.seats at.frame None;
      known = λ out known f s there. known f s (same f s there);
      of_hand = λ hand ok f s there. ok f s (same f s there);
    }
      where
        same : (f : ℕ) (s : Seat) → seat_at (with_seat h at.frame None) f ≡ Some s → seat_at h f ≡ Some s
        same f s there = elim (cases_eq f at.frame) [
          | inr apart ↦ sym (get_or-set_other h.seats at.frame f None None apart) ∙ there
          | inl here ↦ absurd (let clash : None ≡ Some s = set_some h.seats at.frame None s (ap (seat_at (with_seat h at.frame None)) (sym here) ∙ there) in cc)
        ]

-- ---- a claim comes only where the heap's own slots are used up

-- a page pays for its frame by a live object, or by being spent
abbrev pub Pays : Option Seat → Type 0
Pays o = cond (is_some o) 1 0 ≤ live_of o + cond (is_spent o) 1 0

all_pay : (xs : List (Option Seat)) → ((i : ℕ) → Pays (get_or xs i None)) → count_by is_some xs ≤ sum_by live_of xs + count_by is_spent xs
all_pay [] each = omega arith
all_pay (o ∷ xs) each =
    let later = all_pay xs (λ i. each (suc i)) in
    let here = each 0 in
    omega (arith, sum_by-cons (λ x. cond (is_some x) 1 0) o xs, sum_by-cons live_of o xs, sum_by-cons (λ x. cond (is_spent x) 1 0) o xs)

-- a page without a free slot and without a live object is spent
spent_pays : (seat : Seat) → IsPage seat.page → live_count seat.page ≡ 0 → free_count seat.page ≡ 0 → Pays (Some seat)
spent_pays seat ok none full =
    let few = page_counts seat.page ok in
    let all : retired_count seat.page ≡ 64 = omega (arith, few, none, full) in
    let spent : nat_eq (retired_count seat.page) 64 ≡ true = eq-eqb _ _ all in
    subst (λ b. 1 ≤ live_count seat.page + cond b 1 0) (sym spent) (omega arith)

live_pays : (seat : Seat) → 0 < live_count seat.page → Pays (Some seat)
live_pays seat some = omega (arith, some)

no_free : (n : ℕ) → nat_lt 0 n ≡ false → n ≡ 0
no_free zero e = refl
no_free (suc n) e = absurd (grind (arith, nat_tests))

seat_pays : (regions region frame : ℕ) (seat : Seat) → IsSeat regions frame seat → has_room region (Some seat) ≡ false → Pays (Some seat)
seat_pays regions region frame seat ok full = by_home seat.home ok.fits full
  where
    by_home : (home : Home) → FitsHome regions (live_count seat.page) home → (serves region home && nat_lt 0 (free_count seat.page)) ≡ false → Pays (Some seat)
    by_home Spare fits full = spent_pays seat ok.page fits (no_free (free_count seat.page) full)
    by_home (Open depth) fits full = live_pays seat fits.1
    by_home (Kept root) fits full = live_pays seat fits

claim_is_frugal : (old new : HeapState) (lent : Lent) (body : Body) (place : Place) → IsHeap old → lent.frames ≤ length old.seats → seat_at old place.frame ≡ None → IsMadeByClaim old new lent body place → IsFrugal new
claim_is_frugal old new lent body place ok few none made =
    let spare = with_spare old place.frame made.page in
    let spare_ok = heap_spare old place.frame made.base made.page ok (omega (arith, made.claimed.within, few)) none made.claimed.blank in
    let new_ok = heap_put spare new body place spare_ok made.put in
    all_pay new.seats (λ i. by_seat i (get_or new.seats i None) refl new_ok)
  where
    by_seat : (i : ℕ) (o : Option Seat) → get_or new.seats i None ≡ o → IsHeap new → Pays o
    by_seat i None e new_ok = omega arith
    by_seat i (Some seat) e new_ok = elim (cases_eq i place.frame) [
      | inl here ↦
          let put_seat : Seat = record { page = with_body made.put.puts.seat.page place.slot body; home = Open (innermost old) } in
          let at : made.put.seat ≡ Some seat = set_some (with_spare old place.frame made.page).seats place.frame made.put.seat seat (ap (λ (h : HeapState). get_or h.seats place.frame None) (sym made.put.now) ∙ ap (λ k. get_or new.seats k None) (sym here) ∙ e) in
          let now : put_seat ≡ seat = same_some _ _ _ made.put.puts.now at in
          let seat_ok : IsSeat new.regions i put_seat = subst (λ s. IsSeat new.regions i s) (sym now) (new_ok.seats_ok i seat e) in
          subst (λ s. Pays (Some s)) now (live_pays put_seat seat_ok.fits.1)
      | inr apart ↦
          let same : get_or new.seats i None ≡ get_or old.seats i None = ap (λ (h : HeapState). get_or h.seats i None) made.put.now ∙ get_or-set_other _ place.frame i made.put.seat None apart ∙ get_or-set_other old.seats place.frame i _ None apart in
          seat_pays old.regions (innermost old) i seat (ok.seats_ok i seat (sym same ∙ e)) (ap (has_room (innermost old)) (sym (sym same ∙ e)) ∙ made.no_room i)
    ]

pub frugal_law : (old new : HeapState) (lent : Lent) (body : Body) (place : Place) → IsHeap old → lent.frames ≤ length old.seats → IsMade old new lent body place → ClaimsFrugally old new place
frugal_law old new lent body place ok few (inl made) none = absurd (let clash : None ≡ Some made.put.puts.seat = sym none ∙ made.put.puts.was in cc)
frugal_law old new lent body place ok few (inr made) none = claim_is_frugal old new lent body place ok few none made
