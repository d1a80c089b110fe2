-- How standing is kept by a death and by a page that comes.
use Rattle.std.proofs.Common.{◌≡◌, ◌≢◌, ◌⊎◌, ℕ, zero, suc, ◌<◌, ◌≤◌, ◌^◌, Bool, true, List, [], ◌∷◌, set, Option, Some, None, cond, refl, sym, ap, subst, ◌∙◌, inl, inr, arith, nat_eq}
use Rattle.std.specs.Prelude.{slice_get}
use Rattle.std.proofs.lemmas.Bool.{cases_eq}
use Rattle.std.proofs.lemmas.List.{length-set, get_or-set_same, get_or-set_other}
use Rattle.vale_page.specs.PageState.{PageState, IsPage, IsBlankAt, body_of, body_at, generation_at, level_at, after_death}
use Rattle.vale_page.proofs.PageLaws.{page_after_death, not_retired}
use Rattle.vale_heap.specs.declared.body.Place.{Place}
use Rattle.vale_heap.specs.declared.body.Body.{Body}
use Rattle.vale_heap.specs.declared.seat.Seat.{Seat}
use Rattle.vale_heap.specs.declared.seat.Home.{Home}
use Rattle.vale_heap.specs.declared.seat.Home.TheVariants.{Spare}
use Rattle.vale_state_spec.specs.World.{Object, World, Lives, IsDead}
use Rattle.vale_heap.specs.HeapState.{body_in}
use Rattle.vale_heap.specs.Standing.{HasPlace, IsRegion, Holds, IsNamed, StandsAt, LookMeans}
use Rattle.vale_page.proofs.PageLaws.{at_generation, at_body, generation-le-level, after_body, after_generation_other, after_level_other, after_level_same, no_body}
use Rattle.vale_heap.proofs.PutLaws.{IsOneChange, same_some, same_place, name_cases, got_within}

module _ {X : Type 0} where
  pub set_got_same : (xs : List X) (n : ℕ) (x y : X) → slice_get xs n ≡ Some y → slice_get (set xs n x) n ≡ Some x
  set_got_same [] n x y h = absurd (cc)
  set_got_same (z ∷ zs) zero x y h = refl
  set_got_same (z ∷ zs) (suc n) x y h = set_got_same zs n x y h

  pub set_got_other : (xs : List X) (n k : ℕ) (x : X) → k ≢ n → slice_get (set xs n x) k ≡ slice_get xs k
  set_got_other [] n k x apart = refl
  set_got_other (z ∷ zs) zero zero x apart = absurd (apart refl)
  set_got_other (z ∷ zs) zero (suc k) x apart = refl
  set_got_other (z ∷ zs) (suc n) zero x apart = refl
  set_got_other (z ∷ zs) (suc n) (suc k) x apart = set_got_other zs n k x (λ e. apart (ap suc e))

-- what it takes to end the object at a place
pub record CanEnd (seats new_seats : ℕ → Option Seat) (low : ℕ → ℕ → ℕ) (away : ℕ → Bool) (names : List Place) (world : World) (place : Place) (seat : Seat) (home : Home) (body : Body) (name : ℕ) : Type 0 where
  pub stood : StandsAt seats low away names world
  pub change : IsOneChange seats new_seats place.frame seat (record { page = after_death seat.page place.slot; home = home })
  pub page_ok : IsPage seat.page
  pub at : body_at seat.page place.slot place.generation ≡ Some body
  pub homes : (seat.home ≡ home) ⊎ ((slot : ℕ) → body_of (after_death seat.page place.slot) slot ≡ None)
  pub has : HasPlace names name place

module _ (seats new_seats : ℕ → Option Seat) (low : ℕ → ℕ → ℕ) (away : ℕ → Bool) (names : List Place) (world : World) (place : Place) (seat : Seat) (home : Home) (body : Body) (name : ℕ)
    (can : CanEnd seats new_seats low away names world place seat home body name) where
  end_within : place.slot < 64
  end_within = can.stood.in_page name place can.has

  end_there : body_of seat.page place.slot ≡ Some body
  end_there = at_body seat.page place.slot place.generation body can.at

  end_is : generation_at seat.page place.slot ≡ place.generation
  end_is = at_generation seat.page place.slot place.generation body can.at

  -- another name's place in this frame is another slot
  other_slot : (n : ℕ) (p : Place) (b : Body) → n ≢ name → HasPlace names n p → p.frame ≡ place.frame → body_at seat.page p.slot p.generation ≡ Some b → p.slot ≢ place.slot
  other_slot n p b apart has e at same =
      let g : p.generation ≡ place.generation = sym (at_generation seat.page p.slot p.generation b at) ∙ ap (generation_at seat.page) same ∙ end_is in
      let one : p ≡ place = same_place p place.frame place.slot place.generation e same g in
      apart (can.stood.apart n name place (has ∙ ap (λ x. Some x) one) can.has)

  after_at : (k generation : ℕ) → k ≢ place.slot → body_at (after_death seat.page place.slot) k generation ≡ body_at seat.page k generation
  after_at k generation apart =
      ap (λ g. cond (nat_eq g generation) (body_of (after_death seat.page place.slot) k) None) (after_generation_other seat.page place.slot k apart)
      ∙ ap (λ o. cond (nat_eq (generation_at seat.page k) generation) o None) (after_body seat.page place.slot k ∙ get_or-set_other seat.page.bodies place.slot k None None apart)

  end_holds : (n : ℕ) (p : Place) (o : Object) → n ≢ name → HasPlace names n p → Holds seats names p o → Holds new_seats names p o
  end_holds n p o apart has h = elim (cases_eq p.frame place.frame) [
    | inr other ↦ record { seat = h.seat; there = can.change.others p.frame other ∙ h.there; body = h.body; at = h.at; kind = h.kind; cells = h.cells; region = h.region }
    | inl e ↦
        let same : seat ≡ h.seat = same_some _ _ _ can.change.was (ap seats (sym e) ∙ h.there) in
        let was : body_at seat.page p.slot p.generation ≡ Some h.body = ap (λ (s : Seat). body_at s.page p.slot p.generation) same ∙ h.at in
        let slots = other_slot n p h.body apart has e was in
        let now : body_at (after_death seat.page place.slot) p.slot p.generation ≡ Some h.body = after_at p.slot p.generation slots ∙ was in
        record {
          seat = record { page = after_death seat.page place.slot; home = home };
          there = ap new_seats e ∙ can.change.now;
          body = h.body;
          at = now;
          kind = h.kind;
          cells = h.cells;
          region = elim can.homes [
            | inl stays ↦ subst (λ x. IsRegion names x o.region) (ap (λ (s : Seat). s.home) (sym same) ∙ stays) h.region
            | inr none ↦ absurd (let clash : None ≡ Some h.body = sym (none p.slot) ∙ at_body (after_death seat.page place.slot) p.slot p.generation h.body now in cc)
          ];
        }
  ]

  -- the name's object before
  end_object : (object : Object) × Lives world name object
  end_object =
      let n = can.stood.named place.frame place.slot seat body end_within can.change.was end_there in
      let one : name ≡ n.name = can.stood.apart name n.name place can.has (n.place ∙ ap (λ x. Some x) (sym (same_place place place.frame place.slot (generation_at seat.page place.slot) refl refl (sym end_is)))) in
      (n.object, ap (slice_get world) one ∙ n.lives)

  new_world : World
  new_world = set world name None

  end_dead : (n : ℕ) → IsDead (set world name None) n → (n ≡ name) ⊎ ((n ≢ name) × IsDead world n)
  end_dead n dead = elim (cases_eq n name) [
    | inl e ↦ inl e
    | inr apart ↦ inr (apart, sym (set_got_other world name n None apart) ∙ dead)
  ]

  end_lives : (n : ℕ) (o : Object) → Lives (set world name None) n o → (n ≢ name) × Lives world n o
  end_lives n o lives = elim (cases_eq n name) [
    | inl e ↦ absurd (let clash : Some None ≡ Some (Some o) = sym (set_got_same world name None (Some end_object.0) end_object.1) ∙ ap (slice_get (set world name None)) (sym e) ∙ lives in cc)
    | inr apart ↦ (apart, sym (set_got_other world name n None apart) ∙ lives)
  ]

  -- no slot counts less than before
  level_grows : (k : ℕ) → level_at seat.page k ≤ level_at (after_death seat.page place.slot) k
  level_grows k = elim (cases_eq k place.slot) [
    | inl e ↦ subst (λ s. level_at seat.page s ≤ level_at (after_death seat.page place.slot) s) (sym e) (let l = after_level_same seat.page place.slot body can.page_ok end_within end_there in omega (arith, l))
    | inr apart ↦ let l = after_level_other seat.page place.slot k apart in omega (arith, l)
  ]

  end_dead_here : (n : ℕ) (p : Place) (s : Seat) → HasPlace names n p → IsDead (set world name None) n → new_seats p.frame ≡ Some s → p.generation < level_at s.page p.slot
  end_dead_here n p s has dead there = elim (cases_eq p.frame place.frame) [
    | inr other ↦ elim (end_dead n dead) [
      | inl e ↦ absurd (other (ap (λ (x : Place). x.frame) (same_some p place _ (ap (slice_get names) (sym e) ∙ has) can.has)))
      | inr was ↦ can.stood.dead_here n p s has was.1 (sym (can.change.others p.frame other) ∙ there)
    ]
    | inl f ↦
        let same : record { page = after_death seat.page place.slot; home = home } ≡ s = same_some _ _ _ can.change.now (ap new_seats (sym f) ∙ there) in
        subst (λ (x : Seat). p.generation < level_at x.page p.slot) same (elim (end_dead n dead) [
          | inl e ↦
              let one : p ≡ place = same_some p place _ (ap (slice_get names) (sym e) ∙ has) can.has in
              subst (λ (x : Place). x.generation < level_at (after_death seat.page place.slot) x.slot) (sym one)
              (let l = after_level_same seat.page place.slot body can.page_ok end_within end_there in let g = generation-le-level seat.page place.slot can.page_ok end_within in omega (arith, l, g, end_is))
          | inr was ↦ let before = can.stood.dead_here n p seat has was.1 (ap seats f ∙ can.change.was) in let more = level_grows p.slot in omega (arith, before, more)
        ])
  ]

  end_dead_gone : (n : ℕ) (p : Place) → HasPlace names n p → IsDead (set world name None) n → new_seats p.frame ≡ None → (p.generation < low p.frame p.slot) ⊎ ((away n ≡ true) × (p.generation ≡ low p.frame p.slot))
  end_dead_gone n p has dead gone = elim (cases_eq p.frame place.frame) [
    | inl f ↦ absurd (let clash : None ≡ Some (record { page = after_death seat.page place.slot; home = home }) = sym gone ∙ ap new_seats f ∙ can.change.now in cc)
    | inr other ↦ elim (end_dead n dead) [
      | inl e ↦ absurd (other (ap (λ (x : Place). x.frame) (same_some p place _ (ap (slice_get names) (sym e) ∙ has) can.has)))
      | inr was ↦ can.stood.dead_gone n p has was.1 (sym (can.change.others p.frame other) ∙ gone)
    ]
  ]

  still_named : (s t : Seat) (frame slot : ℕ) → generation_at t.page slot ≡ generation_at s.page slot → ((frame ≢ place.frame) ⊎ (slot ≢ place.slot)) → IsNamed s frame slot names world → IsNamed t frame slot names (set world name None)
  still_named s t frame slot g apart n =
      let other : n.name ≢ name = λ e.
      let one = same_some _ place _ n.place (ap (slice_get names) e ∙ can.has) in
      elim apart [ inl x ↦ x (ap (λ (q : Place). q.frame) one) | inr x ↦ x (ap (λ (q : Place). q.slot) one) ] in
      record {
        name = n.name;
        object = n.object;
        place = n.place ∙ ap (λ x. Some x) (same_place _ frame slot (generation_at t.page slot) refl refl (sym g));
        lives = set_got_other world name n.name None other ∙ n.lives;
      }

  end_named : (frame slot : ℕ) (s : Seat) (b : Body) → slot < 64 → new_seats frame ≡ Some s → body_of s.page slot ≡ Some b → IsNamed s frame slot names (set world name None)
  end_named frame slot s b within there has = elim (cases_eq frame place.frame) [
    | inr other ↦ still_named s s frame slot refl (inl other) (can.stood.named frame slot s b within (sym (can.change.others frame other) ∙ there) has)
    | inl f ↦
        let same : record { page = after_death seat.page place.slot; home = home } ≡ s = same_some _ _ _ can.change.now (ap new_seats (sym f) ∙ there) in
        let now : body_of (after_death seat.page place.slot) slot ≡ Some b = ap (λ (x : Seat). body_of x.page slot) same ∙ has in
        let apart : slot ≢ place.slot = λ e.
        let clash : None ≡ Some b = sym (get_or-set_same seat.page.bodies place.slot None None (omega (arith, can.page_ok.bodies, end_within))) ∙ sym (after_body seat.page place.slot place.slot) ∙ ap (body_of (after_death seat.page place.slot)) (sym e) ∙ now in cc in
        let was : body_of seat.page slot ≡ Some b = sym (after_body seat.page place.slot slot ∙ get_or-set_other seat.page.bodies place.slot slot None None apart) ∙ now in
        still_named seat s frame slot (ap (λ (x : Seat). generation_at x.page slot) (sym same) ∙ after_generation_other seat.page place.slot slot apart) (inr apart)
        (can.stood.named frame slot seat b within (ap seats f ∙ can.change.was) was)
  ]

  pub end_stands : StandsAt new_seats low away names (set world name None)
  end_stands = record {
    as_many = length-set world name None ∙ can.stood.as_many;
    pages = λ frame s there. elim (cases_eq frame place.frame) [
      | inr other ↦ can.stood.pages frame s (sym (can.change.others frame other) ∙ there)
      | inl e ↦
          let same : record { page = after_death seat.page place.slot; home = home } ≡ s = same_some _ _ _ can.change.now (ap new_seats (sym e) ∙ there) in
          subst (λ (x : Seat). IsPage x.page) same (page_after_death seat.page place.slot body can.page_ok end_within end_there)
    ];
    in_page = can.stood.in_page;
    apart = can.stood.apart;
    live = λ n p o has lives. let l = end_lives n o lives in end_holds n p o l.0 has (can.stood.live n p o has l.1);
    dead_here = end_dead_here;
    dead_gone = end_dead_gone;
    named = end_named;
  }

-- an empty page that comes in: its frame was in no heap, and no slot of it is below `low`
pub spare_stands : (seats new_seats : ℕ → Option Seat) (low : ℕ → ℕ → ℕ) (away : ℕ → Bool) (names : List Place) (world : World) (frame base : ℕ) (page : PageState Body) →
    StandsAt seats low away names world → seats frame ≡ None → new_seats frame ≡ Some (record { page = page; home = Spare }) → ((k : ℕ) → k ≢ frame → new_seats k ≡ seats k) →
    IsBlankAt page frame base → ((slot : ℕ) → slot < 64 → low frame slot ≤ base) → ((name : ℕ) (p : Place) → away name ≡ true → HasPlace names name p → p.frame ≢ frame) →
    StandsAt new_seats low away names world
spare_stands seats new_seats low away names world frame base page ok was now others blank floor elsewhere = record {
  as_many = ok.as_many;
  pages = λ f s there. elim (cases_eq f frame) [
    | inr other ↦ ok.pages f s (sym (others f other) ∙ there)
    | inl e ↦ subst (λ (x : Seat). IsPage x.page) (same_some (record { page = page; home = Spare }) s _ now (ap new_seats (sym e) ∙ there)) blank.page
  ];
  in_page = ok.in_page;
  apart = ok.apart;
  live = λ n p o has lives.
      let h = ok.live n p o has lives in
      let other : p.frame ≢ frame = λ e. let clash : None ≡ Some h.seat = sym was ∙ ap seats (sym e) ∙ h.there in cc in
      record { seat = h.seat; there = others p.frame other ∙ h.there; body = h.body; at = h.at; kind = h.kind; cells = h.cells; region = h.region };
  dead_here = λ n p s has dead there. elim (cases_eq p.frame frame) [
    | inr other ↦ ok.dead_here n p s has dead (sym (others p.frame other) ∙ there)
    | inl e ↦
        let same : record { page = page; home = Spare } ≡ s = same_some _ _ _ now (ap new_seats (sym e) ∙ there) in
        let within = ok.in_page n p has in
        let level = generation-le-level page p.slot blank.page within in
        let base_is = blank.each p.slot within in
        subst (λ (x : Seat). p.generation < level_at x.page p.slot) same (elim (ok.dead_gone n p has dead (ap seats e ∙ was)) [
          | inl below ↦ let at : low p.frame p.slot ≤ base = subst (λ f. low f p.slot ≤ base) (sym e) (floor p.slot within) in omega (arith, below, at, level, base_is)
          | inr gone ↦ absurd (elsewhere n p gone.0 has e)
        ])
  ];
  dead_gone = λ n p has dead gone. elim (cases_eq p.frame frame) [
    | inr other ↦ ok.dead_gone n p has dead (sym (others p.frame other) ∙ gone)
    | inl e ↦ absurd (let clash : None ≡ Some (record { page = page; home = Spare }) = sym gone ∙ ap new_seats e ∙ now in cc)
  ];
  named = λ f slot s b within there has. elim (cases_eq f frame) [
    | inr other ↦ ok.named f slot s b within (sym (others f other) ∙ there) has
    | inl e ↦ absurd (
        let same : record { page = page; home = Spare } ≡ s = same_some _ _ _ now (ap new_seats (sym e) ∙ there) in
        let clash : None ≡ Some b = sym (no_body page slot blank.blank.no_live) ∙ ap (λ (x : Seat). body_of x.page slot) same ∙ has in cc)
  ];
}

-- a place below the slot's level has no body
dead_at : (page : PageState Body) (slot generation : ℕ) (body : Body) → IsPage page → slot < 64 → generation < level_at page slot → body_at page slot generation ≡ Some body → ⊥
dead_at page slot generation body ok within below at =
    let there = at_body page slot generation body at in
    let is = at_generation page slot generation body at in
    let serves = not_retired page ok slot body within there in
    let level : level_at page slot ≡ generation_at page slot = ap (λ r. cond r (2 ^ 64) (generation_at page slot)) serves in
    omega (arith, below, is, level)

-- what a look gives is what the world has under the name
pub look_law : (seats : ℕ → Option Seat) (low : ℕ → ℕ → ℕ) (away : ℕ → Bool) (names : List Place) (world : World) (name : ℕ) (place : Place) → StandsAt seats low away names world → HasPlace names name place → LookMeans names world name (body_in (seats place.frame) place.slot place.generation)
look_law seats low away names world name place ok has = elim (name_cases world name (omega (arith, got_within names place name has, ok.as_many))) [
  | inl living ↦
      let h = ok.live name place living.0 has living.1 in
      subst (λ o. LookMeans names world name o) (sym (ap (λ o. body_in o place.slot place.generation) h.there ∙ h.at)) (living.0, living.1, h.kind, h.cells)
  | inr dead ↦ by_seat dead (seats place.frame) refl
]
  where
    by_body : IsDead world name → (seat : Seat) → seats place.frame ≡ Some seat → (o : Option Body) → body_at seat.page place.slot place.generation ≡ o → LookMeans names world name o
    by_body dead seat there None at = dead
    by_body dead seat there (Some body) at = absurd (dead_at seat.page place.slot place.generation body (ok.pages place.frame seat there) (ok.in_page name place has) (ok.dead_here name place seat has dead there) at)

    by_seat : IsDead world name → (o : Option Seat) → seats place.frame ≡ o → LookMeans names world name (body_in o place.slot place.generation)
    by_seat dead None e = dead
    by_seat dead (Some seat) e = by_body dead seat e (body_at seat.page place.slot place.generation) refl
