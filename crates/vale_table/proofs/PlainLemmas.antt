-- Lemmas on what a claim and a gift leave of a plain table's pages.
use Rattle.std.proofs.Common.{◌≡◌, ℕ, zero, suc, ◌+◌, ◌<◌, ◌≤◌, ◌^◌, min, List, [], ◌∷◌, length, get_or, set, map, Option, Some, None, IfSome, is_none, true, false, cond, refl, sym, ap, subst, ◌∙◌, inl, inr, arith, replicate}
use Rattle.std.specs.Prelude.{slice_get}
use Rattle.std.proofs.lemmas.Bool.{cases_eq, cases_lt}
use Rattle.std.proofs.lemmas.List.{length-set, get_or-set_same, get_or-set_other, length-map, length-replicate, get_or-replicate, get_or_past, map-set}
use Rattle.vale_page.specs.PageState.{PageState, IsBlankAt, IsBatch, base_of}
use Rattle.vale_table.specs.Plain.{Plain, IsTable, frames_of, hand_of, out_of, floor_of}
use Rattle.vale_table.specs.Lending.{IsClaimed, IsClaimedAt, SameBut, IsGiven}

module _ {B : Type 0} where
  -- the page at the first frame that is home leaves
  pub table_taken : (pages : List (Option (PageState B))) (bases : List ℕ) (next frame : ℕ) → IsTable pages bases next → frame < length bases → ((k : ℕ) → k < frame → get_or pages k None ≡ None) → IsTable (set pages frame None) bases (frame + 1)
  table_taken pages bases next frame ok within none = record {
    many = length-set pages frame None ∙ ok.many;
    home = λ k h. elim (cases_eq k frame) [
      | inl same ↦ rw (same, get_or-set_same pages frame None None (omega (arith, ok.many))) tt
      | inr other ↦ rw (get_or-set_other pages frame k None None other) (ok.home k h)
    ];
    passed = λ k h. elim (cases_eq k frame) [
      | inl same ↦ ap (λ i. get_or (set pages frame None) i None) same ∙ get_or-set_same pages frame None None (omega (arith, ok.many))
      | inr other ↦ get_or-set_other pages frame k None None other ∙ none k (omega arith)
    ];
    next_within = omega arith;
    few = ok.few;
    fit = ok.fit;
  }

  pub table_given : (pages : List (Option (PageState B))) (bases : List ℕ) (next frame base : ℕ) (page : PageState B) → IsTable pages bases next → frame < length bases → base < 2 ^ 64 → IsBlankAt page frame base
      → IsTable (set pages frame (Some page)) (set bases frame base) (min next frame)
  table_given pages bases next frame base page ok within fits blank = record {
    many = length-set pages frame _ ∙ ok.many ∙ sym (length-set bases frame base);
    home = λ k h. elim (cases_eq k frame) [
      | inl same ↦ rw (same, get_or-set_same pages frame (Some page) None (omega (arith, ok.many)), get_or-set_same bases frame base 0 within) blank
      | inr other ↦ rw (get_or-set_other pages frame k (Some page) None other, get_or-set_other bases frame k base 0 other) (ok.home k (omega (arith, length-set bases frame base)))
    ];
    passed = λ k h. get_or-set_other pages frame k (Some page) None (λ e. omega arith) ∙ ok.passed k (omega arith);
    next_within = omega (arith, ok.next_within, length-set bases frame base);
    few = omega (arith, ok.few, length-set bases frame base);
    fit = λ k h. elim (cases_eq k frame) [
      | inl same ↦ rw (same, get_or-set_same bases frame base 0 within) fits
      | inr other ↦ rw (get_or-set_other bases frame k base 0 other) (ok.fit k (omega (arith, length-set bases frame base)))
    ];
  }

  -- what contracts see of the pages and the bases
  abbrev pub shown : List (Option (PageState B)) → List ℕ → Plain
  shown pages bases = record { out = map is_none pages; bases = bases }

  -- whether a frame is out
  out_at : (pages : List (Option (PageState B))) (k : ℕ) → k < length pages → get_or (map is_none pages) k false ≡ is_none (get_or pages k None)
  out_at [] k h = absurd (omega arith)
  out_at (p ∷ ps) zero h = refl
  out_at (p ∷ ps) (suc k) h = out_at ps k (omega arith)

  out_past : (pages : List (Option (PageState B))) (k : ℕ) → length pages ≤ k → get_or (map is_none pages) k false ≡ false
  out_past pages k h = get_or_past (map is_none pages) k false (omega (arith, length-map pages is_none))

  module _ (pages : List (Option (PageState B))) (bases : List ℕ) (frame : ℕ) where
    -- the table after the frame's page has left
    abbrev lent : Plain
    lent = shown (set pages frame None) bases

    IsLent : PageState B → ℕ → ℕ → Type 0
    IsLent page f base =
        IsClaimedAt (frames_of (shown pages bases)) (hand_of (shown pages bases)) (hand_of lent) (out_of (shown pages bases)) (out_of lent) (floor_of (shown pages bases)) page f base

    other_out : SameBut frame (out_of (shown pages bases)) (out_of lent)
    other_out k apart = ap (λ l. get_or l k false) (map-set is_none pages frame None) ∙ get_or-set_other (map is_none pages) frame k true false apart

    now_out : frame < length pages → out_of lent frame ≡ true
    now_out here = ap (λ l. get_or l frame false) (map-set is_none pages frame None) ∙ get_or-set_same (map is_none pages) frame true false (omega (arith, length-map pages is_none))

    pub claimed : (next : ℕ) (page : PageState B) → IsTable pages bases next → frame < length bases → get_or pages frame None ≡ Some page
        → IsClaimed (frames_of (shown pages bases)) (hand_of (shown pages bases)) (hand_of lent) (out_of (shown pages bases)) (out_of lent) (floor_of (shown pages bases)) page
    unfolding IsLent
    claimed next page ok within there =
        let here : frame < length pages = omega (arith, ok.many) in
        let home : IsBlankAt page frame (get_or bases frame 0) = rw there at (ok.home frame within) in
        let now : out_of lent frame ≡ true = now_out here in (
          get_or bases frame 0,
          subst (λ f. IsLent page f (get_or bases frame 0)) (sym home.frame_is) (record {
            blank = home;
            within = omega (arith, length-map pages is_none);
            unknown = out_at pages frame here ∙ ap is_none there;
            known = now;
            floor = omega arith;
            held = ap (λ b. cond b (Some (get_or bases frame 0)) None) now;
            other_hand = λ k apart. ap (λ b. cond b (Some (get_or bases k 0)) None) (other_out k apart);
          }),
        )

    pub claimed_if : (next : ℕ) (o : Option (PageState B)) → IsTable pages bases next → frame < length bases → get_or pages frame None ≡ o
        → IfSome o (IsClaimed (frames_of (shown pages bases)) (hand_of (shown pages bases)) (hand_of lent) (out_of (shown pages bases)) (out_of lent) (floor_of (shown pages bases)))
    claimed_if next None ok within there = tt
    claimed_if next (Some page) ok within there = claimed next page ok within there

    pub still_out : (k : ℕ) → frame < length pages → out_of (shown pages bases) k ≡ true → out_of lent k ≡ true
    still_out k here was = elim (cases_eq k frame) [
      | inl same ↦ ap (out_of lent) same ∙ now_out here
      | inr apart ↦ other_out k apart ∙ was
    ]

  pub given : (pages : List (Option (PageState B))) (bases : List ℕ) (next : ℕ) (page home : PageState B) (base : ℕ) → IsTable pages bases next → page.frame < length bases → base ≡ base_of page →
      let new : Plain = shown (set pages page.frame (Some home)) (set bases page.frame base) in
      IsGiven (hand_of (shown pages bases)) (hand_of new) (out_of (shown pages bases)) (out_of new) (floor_of (shown pages bases)) (floor_of new) page
  given pages bases next page home base ok within is =
      let here : page.frame < length pages = omega (arith, ok.many) in
      let now : get_or (map is_none (set pages page.frame (Some home))) page.frame false ≡ false =
      ap (λ l. get_or l page.frame false) (map-set is_none pages page.frame (Some home)) ∙ get_or-set_same (map is_none pages) page.frame false false (omega (arith, length-map pages is_none)) in
      let other : SameBut page.frame (λ k. get_or (map is_none pages) k false) (λ k. get_or (map is_none (set pages page.frame (Some home))) k false) =
      λ k apart. ap (λ l. get_or l k false) (map-set is_none pages page.frame (Some home)) ∙ get_or-set_other (map is_none pages) page.frame k false false apart in
      record {
        left = ap (λ b. cond b (Some (get_or (set bases page.frame base) page.frame 0)) None) now;
        other_hand = λ k apart. ap (λ b. cond b (Some (get_or (set bases page.frame base) k 0)) None) (other k apart) ∙ ap (λ n. cond (get_or (map is_none pages) k false) (Some n) None) (get_or-set_other bases page.frame k base 0 apart);
        home = now;
        other_out = other;
        floor = get_or-set_same bases page.frame base 0 within ∙ is;
        other_floors = λ k apart. get_or-set_other bases page.frame k base 0 apart;
      }

  -- a frame of the hand is a frame of the table
  pub held_within : (pages : List (Option (PageState B))) (bases : List ℕ) (next frame claimed : ℕ) → IsTable pages bases next → hand_of (shown pages bases) frame ≡ Some claimed → frame < length bases
  held_within pages bases next frame claimed ok held = elim (cases_lt frame (length bases)) [
    | inl h ↦ h
    | inr h ↦ absurd (let clash : None ≡ Some claimed = sym (ap (λ b. cond b (Some (get_or bases frame 0)) None) (out_past pages frame (omega (arith, ok.many)))) ∙ held in cc)
  ]

  -- where no page is home, every frame is out
  pub none_home : (pages : List (Option (PageState B))) → ((k : ℕ) → k < length pages → get_or pages k None ≡ None) → (k : ℕ) → k < length pages → get_or (map is_none pages) k false ≡ true
  none_home pages none k h = out_at pages k h ∙ ap is_none (none k h)

  home_of : (P : PageState B → Type 0) (pages : List (PageState B)) (k : ℕ) → IfSome (slice_get pages k) P → IfSome (get_or (map Some pages) k None) P
  home_of P [] k h = tt
  home_of P (p ∷ ps) zero h = h
  home_of P (p ∷ ps) (suc k) h = home_of P ps k h

  pub table_opened : (pages : List (PageState B)) (bases : List ℕ) (frames first : ℕ) → IsBatch pages frames first → bases ≡ replicate frames first → frames < 2 ^ 32 → first < 2 ^ 64 → IsTable (map Some pages) bases 0
  table_opened pages bases frames first batch same few fits =
      let long : length bases ≡ frames = ap length same ∙ length-replicate frames first in
      let base : (k : ℕ) → k < frames → get_or bases k 0 ≡ first = λ k h. ap (λ l. get_or l k 0) same ∙ get_or-replicate frames k first 0 h in
      record {
        many = length-map pages Some ∙ batch.many ∙ sym long;
        home = λ k h. let within : k < frames = omega arith in rw (base k within) (home_of (λ page. IsBlankAt page k first) pages k (batch.each k within));
        passed = λ k h. absurd (omega arith);
        next_within = omega arith;
        few = omega arith;
        fit = λ k h. let within : k < frames = omega arith in rw (base k within) fits;
      }

  pub all_home : (pages : List (PageState B)) (k : ℕ) → get_or (map is_none (map Some pages)) k false ≡ false
  all_home [] k = refl
  all_home (p ∷ ps) zero = refl
  all_home (p ∷ ps) (suc k) = all_home ps k
