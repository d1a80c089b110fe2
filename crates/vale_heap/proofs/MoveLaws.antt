-- How standing is kept where pages are for something else, and where the objects of a region die.
use Rattle.std.proofs.Common.{◌≡◌, ◌≢◌, ◌⊎◌, ℕ, zero, suc, ◌<◌, Bool, true, false, List, [], ◌∷◌, Option, Some, None, cond, refl, sym, ap, subst, ◌∙◌, inl, inr, arith, nat_eq}
use Rattle.std.specs.Prelude.{slice_get, ◌&&◌}
use Rattle.std.specs.Option.{option_map}
use Rattle.std.proofs.lemmas.Bool.{cases_Bool, eqb-true, eq-eqb}
use Rattle.std.proofs.lemmas.Option.{same_Some, slice_get-map}
use Rattle.std.proofs.lemmas.List.{length-map}
use Rattle.vale_page.specs.PageState.{PageState, IsPage, body_of, body_at, generation_at, level_at}
use Rattle.vale_state_spec.specs.World.{Region, Freeze, Isolate, Object, World, Lives, IsDead, region_eq, moved, relabelled, cleared}
use Rattle.vale_heap.specs.declared.body.Place.{Place}
use Rattle.vale_heap.specs.declared.body.Body.{Body}
use Rattle.vale_heap.specs.declared.seat.Seat.{Seat}
use Rattle.vale_heap.specs.declared.seat.Home.{Home}
use Rattle.vale_heap.specs.declared.seat.Home.TheVariants.{Spare, Open, Kept}
use Rattle.vale_heap.specs.HeapState.{home_eq, rehomed, death_count, IsEmptied, IsClearedSeat}
use Rattle.vale_heap.specs.Standing.{HasPlace, IsRegion, Holds, IsNamed, StandsAt}
use Rattle.vale_page.proofs.PageLaws.{at_body, at_generation, generation-le-level}
use Rattle.vale_heap.proofs.PutLaws.{same_some}

-- ---- what pages are for

home_refl : (home : Home) → home_eq home home ≡ true
home_refl Spare = refl
home_refl (Open depth) = eq-eqb depth depth refl
home_refl (Kept root) = rw (eq-eqb root.frame root.frame refl, eq-eqb root.slot root.slot refl, eq-eqb root.generation root.generation refl) refl

pub home_eq-refl : (home other : Home) → home ≡ other → home_eq home other ≡ true
home_eq-refl home other e = subst (λ h. home_eq home h ≡ true) e (home_refl home)

and_true : (a b : Bool) → (a && b) ≡ true → (a ≡ true) × (b ≡ true)
and_true true b e = (refl, e)
and_true false b e = absurd (cc)

pub home_eq-true : (home other : Home) → home_eq home other ≡ true → home ≡ other
home_eq-true Spare Spare e = refl
home_eq-true (Open a) (Open b) e = ap Open (eqb-true a b e)
home_eq-true (Kept p) (Kept q) e =
    let two = and_true ((nat_eq p.frame q.frame) && (nat_eq p.slot q.slot)) (nat_eq p.generation q.generation) e in
    let one = and_true (nat_eq p.frame q.frame) (nat_eq p.slot q.slot) two.0 in
    let f : p.frame ≡ q.frame = eqb-true _ _ one.0 in
    let s : p.slot ≡ q.slot = eqb-true _ _ one.1 in
    let g : p.generation ≡ q.generation = eqb-true _ _ two.1 in
    λ i. Kept (record { frame = f i; slot = s i; generation = g i })
home_eq-true _ _ e = absurd (cc)

pub home_eq-false : (home other : Home) → home ≢ other → home_eq home other ≡ false
home_eq-false home other apart = elim (cases_Bool (home_eq home other)) [
  | inl e ↦ absurd (apart (home_eq-true home other e))
  | inr e ↦ e
]

pub region_refl : (region : Region) → region_eq region region ≡ true
region_refl (Freeze at) = eq-eqb at at refl
region_refl (Isolate name) = eq-eqb name name refl

pub region_eq-true : (region other : Region) → region_eq region other ≡ true → region ≡ other
region_eq-true (Freeze a) (Freeze b) e = ap Freeze (eqb-true a b e)
region_eq-true (Isolate a) (Isolate b) e = ap Isolate (eqb-true a b e)
region_eq-true _ _ e = absurd (cc)

both_false : (a b : Bool) → (a ≡ true → b ≡ true) → (b ≡ true → a ≡ true) → a ≡ b
both_false true true f g = refl
both_false false false f g = refl
both_false true false f g = sym (f refl)
both_false false true f g = g refl

-- a page is for an open region where the object is of that region
pub agree_open : (names : List Place) (depth : ℕ) (home : Home) (region : Region) → IsRegion names home region → home_eq home (Open depth) ≡ region_eq region (Freeze depth)
agree_open names depth (Open other) (Freeze at) is = ap (λ d. nat_eq d depth) is
agree_open names depth (Kept root) (Isolate name) is = refl
agree_open names depth _ _ is = absurd is

-- a page is for an isolate where the object is of the isolate of that name
pub agree_kept : (names : List Place) (iso : Place) (name : ℕ) → ((n m : ℕ) (p : Place) → HasPlace names n p → HasPlace names m p → n ≡ m) → HasPlace names name iso →
    (home : Home) (region : Region) → IsRegion names home region → home_eq home (Kept iso) ≡ region_eq region (Isolate name)
agree_kept names iso name apart has (Open depth) (Freeze at) is = refl
agree_kept names iso name apart has (Kept root) (Isolate other) is =
    both_false _ _
    (λ e. let same : Kept root ≡ Kept iso = home_eq-true (Kept root) (Kept iso) e in let one : root ≡ iso = cc in eq-eqb other name (apart other name iso (is ∙ ap (λ x. Some x) one) has))
    (λ e. let same : root ≡ iso = same_some root iso _ (ap (slice_get names) (sym (eqb-true other name e)) ∙ is) has in home_eq-refl (Kept root) (Kept iso) (ap Kept same))
agree_kept names iso name apart has _ _ is = absurd is

-- ---- pages that are for something else

abbrev pub rehome_seat : Home → Home → Seat → Seat
rehome_seat from to seat = record seat { home = cond (home_eq seat.home from) to seat.home }

-- a page that is there was there
pub rehomed_some : (from to : Home) (o : Option Seat) (new : Seat) → rehomed from to o ≡ Some new → (old : Seat) × (o ≡ Some old) × (rehome_seat from to old ≡ new)
rehomed_some from to None new e = absurd (cc)
rehomed_some from to (Some old) new e = (old, refl, same_Some _ _ e)

pub rehomed_none : (from to : Home) (o : Option Seat) → rehomed from to o ≡ None → o ≡ None
rehomed_none from to None e = refl
rehomed_none from to (Some old) e = absurd (cc)

abbrev moved_object : Region → Region → Object → Object
moved_object from to object = record object { region = cond (region_eq object.region from) to object.region }

lives_moved : (from to : Region) (world : World) (name : ℕ) (object : Object) → Lives world name object → Lives (relabelled from to world) name (moved_object from to object)
lives_moved from to world name object lives = slice_get-map (moved from to) world name ∙ ap (option_map (moved from to)) lives

-- what lives in the relabelled world lived before
moved_lived : (from to : Region) (world : World) (name : ℕ) (object : Object) → Lives (relabelled from to world) name object → (old : Object) × Lives world name old × (moved_object from to old ≡ object)
moved_lived from to [] name object lives = absurd (cc)
moved_lived from to (None ∷ world) zero object lives = absurd (cc)
moved_lived from to (Some old ∷ world) zero object lives = (old, refl, same_Some _ _ (same_Some _ _ lives))
moved_lived from to (o ∷ world) (suc name) object lives = moved_lived from to world name object lives

moved_dead : (from to : Region) (world : World) (name : ℕ) → IsDead (relabelled from to world) name → IsDead world name
moved_dead from to [] name dead = absurd (cc)
moved_dead from to (None ∷ world) zero dead = refl
moved_dead from to (Some old ∷ world) zero dead = absurd (cc)
moved_dead from to (o ∷ world) (suc name) dead = moved_dead from to world name dead

-- regions still agree where the two changes agree
region_moved : (names : List Place) (from to : Home) (rfrom rto : Region) (home : Home) (region : Region) → (home_eq home from ≡ region_eq region rfrom) → IsRegion names to rto → IsRegion names home region → IsRegion names (cond (home_eq home from) to home) (cond (region_eq region rfrom) rto region)
region_moved names from to rfrom rto home region same lands is = subst (λ b. IsRegion names (cond b to home) (cond (region_eq region rfrom) rto region)) (sym same) (by_test (region_eq region rfrom))
  where
    by_test : (b : Bool) → IsRegion names (cond b to home) (cond b rto region)
    by_test true = lands
    by_test false = is

module _ (seats new_seats : ℕ → Option Seat) (low : ℕ → ℕ → ℕ) (away : ℕ → Bool) (names : List Place) (world : World) (from to : Home) (rfrom rto : Region)
    (ok : StandsAt seats low away names world)
    (are : (frame : ℕ) → new_seats frame ≡ rehomed from to (seats frame))
    (agree : (home : Home) (region : Region) → IsRegion names home region → home_eq home from ≡ region_eq region rfrom)
    (lands : IsRegion names to rto) where
  was_seat : (frame : ℕ) (new : Seat) → new_seats frame ≡ Some new → (old : Seat) × (seats frame ≡ Some old) × (rehome_seat from to old ≡ new)
  was_seat frame new e = rehomed_some from to (seats frame) new (sym (are frame) ∙ e)

  rehome_holds : (place : Place) (object : Object) → Holds seats names place object → Holds new_seats names place (moved_object rfrom rto object)
  rehome_holds place object h = record {
    seat = rehome_seat from to h.seat;
    there = are place.frame ∙ ap (rehomed from to) h.there;
    body = h.body;
    at = h.at;
    kind = h.kind;
    cells = h.cells;
    region = region_moved names from to rfrom rto h.seat.home object.region (agree h.seat.home object.region h.region) lands h.region;
  }

  pub rehome_stands : StandsAt new_seats low away names (relabelled rfrom rto world)
  rehome_stands = record {
    as_many = length-map world _ ∙ ok.as_many;
    pages = λ frame s there. let was = was_seat frame s there in subst (λ (x : Seat). IsPage x.page) was.2 (ok.pages frame was.0 was.1);
    in_page = ok.in_page;
    apart = ok.apart;
    live = λ name place object has lives. let was = moved_lived rfrom rto world name object lives in subst (λ o. Holds new_seats names place o) was.2 (rehome_holds place was.0 (ok.live name place was.0 has was.1));
    dead_here = λ name place s has dead there. let was = was_seat place.frame s there in subst (λ (x : Seat). place.generation < level_at x.page place.slot) was.2 (ok.dead_here name place was.0 has (moved_dead rfrom rto world name dead) was.1);
    dead_gone = λ name place has dead gone. ok.dead_gone name place has (moved_dead rfrom rto world name dead) (rehomed_none from to (seats place.frame) (sym (are place.frame) ∙ gone));
    named = λ frame slot s body within there has.
        let was = was_seat frame s there in
        let n = ok.named frame slot was.0 body within was.1 (ap (λ (x : Seat). body_of x.page slot) was.2 ∙ has) in
        record {
          name = n.name;
          object = moved_object rfrom rto n.object;
          place = subst (λ (x : Seat). HasPlace names n.name (record { frame = frame; slot = slot; generation = generation_at x.page slot })) was.2 n.place;
          lives = lives_moved rfrom rto world n.name n.object n.lives;
        };
  }

-- ---- the objects of a region die

lives_cleared : (of : Region) (world : World) (name : ℕ) (object : Object) → Lives world name object → region_eq object.region of ≡ false → Lives (cleared of world) name object
lives_cleared of [] name object lives stays = absurd (cc)
lives_cleared of (None ∷ world) zero object lives stays = absurd (cc)
lives_cleared of (Some x ∷ world) zero object lives stays =
    let is : x ≡ object = same_Some _ _ (same_Some _ _ lives) in
    ap (λ b. Some (cond b None (Some x))) (ap (λ (o : Object). region_eq o.region of) is ∙ stays) ∙ ap (λ o. Some (Some o)) is
lives_cleared of (o ∷ world) (suc name) object lives stays = lives_cleared of world name object lives stays

cleared_lived : (of : Region) (world : World) (name : ℕ) (object : Object) → Lives (cleared of world) name object → Lives world name object × (region_eq object.region of ≡ false)
cleared_lived of [] name object lives = absurd (cc)
cleared_lived of (None ∷ world) zero object lives = absurd (cc)
cleared_lived of (Some x ∷ world) zero object lives = by_test (region_eq x.region of) refl lives
  where
    by_test : (b : Bool) → region_eq x.region of ≡ b → Some (cond b None (Some x)) ≡ Some (Some object) → (Some (Some x) ≡ Some (Some object)) × (region_eq object.region of ≡ false)
    by_test true e lives = absurd (cc)
    by_test false e lives = (lives, ap (λ (o : Object). region_eq o.region of) (sym (same_Some _ _ (same_Some _ _ lives))) ∙ e)
cleared_lived of (o ∷ world) (suc name) object lives = cleared_lived of world name object lives

cleared_dead : (of : Region) (world : World) (name : ℕ) → IsDead (cleared of world) name → IsDead world name ⊎ ((object : Object) × Lives world name object × (region_eq object.region of ≡ true))
cleared_dead of [] name dead = absurd (cc)
cleared_dead of (None ∷ world) zero dead = inl refl
cleared_dead of (Some x ∷ world) zero dead = by_test (region_eq x.region of) refl dead
  where
    by_test : (b : Bool) → region_eq x.region of ≡ b → Some (cond b None (Some x)) ≡ Some None → (Some (Some x) ≡ Some None) ⊎ ((object : Object) × (Some (Some x) ≡ Some (Some object)) × (region_eq object.region of ≡ true))
    by_test true e dead = inr (x, refl, e)
    by_test false e dead = absurd (cc)
cleared_dead of (o ∷ world) (suc name) dead = cleared_dead of world name dead

-- a page that is there now: as it was and for something else, or emptied
abbrev Came : Home → Option Seat → Seat → Type 0
Came of o new = (old : Seat) × (o ≡ Some old) × (((home_eq old.home of ≡ false) × (old ≡ new)) ⊎ ((home_eq old.home of ≡ true) × (page : PageState Body) × (record { page = page; home = Spare } ≡ new) × IsEmptied old.page page))

came : (of : Home) (o now : Option Seat) (new : Seat) → IsClearedSeat of o now → now ≡ Some new → Came of o new
came of None now new is e = absurd (let clash : None ≡ Some new = sym is ∙ e in cc)
came of (Some old) now new (inl same) e = (old, refl, inl (same.0, same_Some _ _ (sym same.1 ∙ e)))
came of (Some old) now new (inr emptied) e = (old, refl, inr (emptied.0, emptied.1, same_Some _ _ (sym emptied.2 ∙ e), emptied.3))

came_none : (of : Home) (o now : Option Seat) → IsClearedSeat of o now → now ≡ None → o ≡ None
came_none of None now is e = refl
came_none of (Some old) now (inl same) e = absurd (let clash : None ≡ Some old = sym e ∙ same.1 in cc)
came_none of (Some old) now (inr emptied) e = absurd (let clash : None ≡ Some (record { page = emptied.1; home = Spare }) = sym e ∙ emptied.2 in cc)

stays_seat : (of : Home) (o now : Option Seat) (seat : Seat) → IsClearedSeat of o now → o ≡ Some seat → home_eq seat.home of ≡ false → now ≡ Some seat
stays_seat of None now seat is e apart = absurd (cc)
stays_seat of (Some old) now seat (inl same) e apart = same.1 ∙ e
stays_seat of (Some old) now seat (inr emptied) e apart = absurd (let clash : true ≡ false = sym emptied.0 ∙ ap (λ (s : Seat). home_eq s.home of) (same_Some _ _ e) ∙ apart in cc)

module _ (seats new_seats : ℕ → Option Seat) (low : ℕ → ℕ → ℕ) (away : ℕ → Bool) (names : List Place) (world : World) (of : Home) (rof : Region)
    (ok : StandsAt seats low away names world)
    (each : (frame : ℕ) → IsClearedSeat of (seats frame) (new_seats frame))
    (agree : (home : Home) (region : Region) → IsRegion names home region → home_eq home of ≡ region_eq region rof) where
  clear_came : (frame : ℕ) (new : Seat) → new_seats frame ≡ Some new → Came of (seats frame) new
  clear_came frame new e = came of (seats frame) (new_seats frame) new (each frame) e

  clear_holds : (place : Place) (object : Object) → region_eq object.region rof ≡ false → Holds seats names place object → Holds new_seats names place object
  clear_holds place object stays h = record {
    seat = h.seat;
    there = stays_seat of (seats place.frame) (new_seats place.frame) h.seat (each place.frame) h.there (agree h.seat.home object.region h.region ∙ stays);
    body = h.body;
    at = h.at;
    kind = h.kind;
    cells = h.cells;
    region = h.region;
  }

  -- a name that died in this clearing
  clear_died : (name : ℕ) (place : Place) (object : Object) (old new : Seat) → HasPlace names name place → Lives world name object → region_eq object.region rof ≡ true → seats place.frame ≡ Some old →
      ((home_eq old.home of ≡ false) × (old ≡ new)) ⊎ ((home_eq old.home of ≡ true) × (page : PageState Body) × (record { page = page; home = Spare } ≡ new) × IsEmptied old.page page) → place.generation < level_at new.page place.slot
  clear_died name place object old new has lives is there (inl same) =
      let h = ok.live name place object has lives in
      absurd (let clash : true ≡ false = sym (agree h.seat.home object.region h.region ∙ is) ∙ ap (λ (s : Seat). home_eq s.home of) (same_some _ _ _ h.there there) ∙ same.0 in cc)
  clear_died name place object old new has lives is there (inr emptied) =
      let h = ok.live name place object has lives in
      let within = ok.in_page name place has in
      let same : h.seat ≡ old = same_some _ _ _ h.there there in
      let at : body_at old.page place.slot place.generation ≡ Some h.body = ap (λ (s : Seat). body_at s.page place.slot place.generation) (sym same) ∙ h.at in
      let generation = at_generation old.page place.slot place.generation h.body at in
      let level = generation-le-level old.page place.slot (ok.pages place.frame old there) within in
      let one : death_count (body_of old.page place.slot) ≡ 1 = ap death_count (at_body old.page place.slot place.generation h.body at) in
      let now = emptied.3.levels place.slot within in
      subst (λ (s : Seat). place.generation < level_at s.page place.slot) emptied.2 (omega (arith, generation, level, one, now))

  clear_dead_here : (name : ℕ) (place : Place) (new : Seat) → HasPlace names name place → IsDead (cleared rof world) name → new_seats place.frame ≡ Some new → place.generation < level_at new.page place.slot
  clear_dead_here name place new has dead there =
      let c = clear_came place.frame new there in
      elim (cleared_dead rof world name dead) [
        | inr lived ↦ clear_died name place lived.0 c.0 new has lived.1 lived.2 c.1 c.2
        | inl was ↦
            let before = ok.dead_here name place c.0 has was c.1 in
            elim c.2 [
              | inl same ↦ subst (λ (s : Seat). place.generation < level_at s.page place.slot) same.1 before
              | inr emptied ↦
                  let now = emptied.3.levels place.slot (ok.in_page name place has) in
                  subst (λ (s : Seat). place.generation < level_at s.page place.slot) emptied.2 (omega (arith, before, now))
            ]
      ]

  clear_named : (frame slot : ℕ) (new : Seat) (body : Body) → slot < 64 → new_seats frame ≡ Some new → body_of new.page slot ≡ Some body → IsNamed new frame slot names (cleared rof world)
  clear_named frame slot new body within there has =
      let c = clear_came frame new there in
      elim c.2 [
        | inr emptied ↦ absurd (let clash : None ≡ Some body = sym (emptied.3.empty slot) ∙ ap (λ (s : Seat). body_of s.page slot) emptied.2 ∙ has in cc)
        | inl same ↦
            let n = ok.named frame slot c.0 body within c.1 (ap (λ (s : Seat). body_of s.page slot) same.1 ∙ has) in
            let h = ok.live n.name (record { frame = frame; slot = slot; generation = generation_at c.0.page slot }) n.object n.place n.lives in
            let stays : region_eq n.object.region rof ≡ false = sym (agree h.seat.home n.object.region h.region) ∙ ap (λ (s : Seat). home_eq s.home of) (same_some _ _ _ h.there c.1) ∙ same.0 in
            record {
              name = n.name;
              object = n.object;
              place = subst (λ (x : Seat). HasPlace names n.name (record { frame = frame; slot = slot; generation = generation_at x.page slot })) same.1 n.place;
              lives = lives_cleared rof world n.name n.object n.lives stays;
            }
      ]

  pub clear_stands : StandsAt new_seats low away names (cleared rof world)
  clear_stands = record {
    as_many = length-map world _ ∙ ok.as_many;
    pages = λ frame new there. let c = clear_came frame new there in elim c.2 [
      | inl same ↦ subst (λ (s : Seat). IsPage s.page) same.1 (ok.pages frame c.0 c.1)
      | inr emptied ↦ subst (λ (s : Seat). IsPage s.page) emptied.2 emptied.3.page
    ];
    in_page = ok.in_page;
    apart = ok.apart;
    live = λ name place object has lives. let was = cleared_lived rof world name object lives in clear_holds place object was.1 (ok.live name place object has was.0);
    dead_here = clear_dead_here;
    dead_gone = λ name place has dead gone.
        let none = came_none of (seats place.frame) (new_seats place.frame) (each place.frame) gone in
        elim (cleared_dead rof world name dead) [
          | inl was ↦ ok.dead_gone name place has was none
          | inr lived ↦ absurd (let h = ok.live name place lived.0 has lived.1 in let clash : None ≡ Some h.seat = sym none ∙ h.there in cc)
        ];
    named = clear_named;
  }
