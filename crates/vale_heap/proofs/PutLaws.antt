-- How standing is kept where a body is put into a free slot.
use Rattle.std.proofs.Common.{◌≡◌, ◌≢◌, ◌⊎◌, ℕ, zero, suc, ◌+◌, ◌<◌, ◌^◌, Bool, true, false, List, [], ◌∷◌, ◌++◌, length, get_or, set, Option, Some, None, cond, refl, sym, ap, subst, ◌∙◌, inl, inr, arith, replicate, nat_eq, length-append}
use Rattle.std.specs.Prelude.{slice_get}
use Rattle.std.proofs.lemmas.Bool.{cases_eq, cases_lt, eq-eqb}
use Rattle.std.proofs.lemmas.Option.{same_Some}
use Rattle.std.proofs.lemmas.List.{get_or-set_same, get_or-set_other, get_or-replicate, get_or_past, length-replicate}
use Rattle.vale_page.specs.PageState.{PageState, IsPage, IsFree, body_of, body_at, generation_at, level_at, with_body}
use Rattle.vale_page.proofs.PageLaws.{page_with_body}
use Rattle.vale_heap.specs.declared.body.Place.{Place}
use Rattle.vale_heap.specs.declared.body.Cell.{Cell}
use Rattle.vale_heap.specs.declared.body.Cell.TheVariants.{Int, Truth, Text, Own, Ref, Iso}
use Rattle.vale_heap.specs.declared.body.Body.{Body}
use Rattle.vale_heap.specs.declared.seat.Seat.{Seat}
use Rattle.vale_heap.specs.declared.seat.Home.{Home}
use Rattle.vale_heap.specs.declared.seat.Home.TheVariants.{Open, Kept}
use Rattle.vale_state_spec.specs.World.{Value, Region, Freeze, Isolate, Object, World, Lives, IsDead}
use Rattle.vale_state_spec.specs.World.{Int as number, Truth as truth, Text as text, Own as owner, Ref as reference, Iso as isolate}
use Rattle.vale_heap.specs.Standing.{HasPlace, Denotes, DenoteAll, IsRegion, Holds, IsNamed, StandsAt}

-- a list of nothing has no seat
pub no_seat : (n frame : ℕ) (seat : Seat) → get_or (replicate n None) frame None ≡ Some seat → ⊥
no_seat n frame seat at = elim (cases_lt frame n) [
  | inl h ↦ let clash : None ≡ Some seat = sym (get_or-replicate n frame None None h) ∙ at in cc
  | inr h ↦ let clash : None ≡ Some seat = sym (get_or_past (replicate n None) frame None (omega (arith, length-replicate n (let o : Option Seat = None in o)))) ∙ at in cc
]

pub same_place : (p : Place) (frame slot generation : ℕ) → p.frame ≡ frame → p.slot ≡ slot → p.generation ≡ generation → p ≡ record { frame = frame; slot = slot; generation = generation }
same_place p frame slot generation a b c = λ i. record { frame = a i; slot = b i; generation = c i }

module _ {X : Type 0} where
  -- what was in a list is there after a push
  pub push_keeps : (xs : List X) (x y : X) (n : ℕ) → slice_get xs n ≡ Some y → slice_get (xs ++ x ∷ []) n ≡ Some y
  push_keeps [] x y n h = absurd (cc)
  push_keeps (z ∷ zs) x y zero h = h
  push_keeps (z ∷ zs) x y (suc n) h = push_keeps zs x y n h

  pub push_last : (xs : List X) (x : X) → slice_get (xs ++ x ∷ []) (length xs) ≡ Some x
  push_last [] x = refl
  push_last (z ∷ zs) x = push_last zs x

  -- what is in a pushed list was there, or is the last
  pub push_cases : (xs : List X) (x y : X) (n : ℕ) → slice_get (xs ++ x ∷ []) n ≡ Some y → (slice_get xs n ≡ Some y) ⊎ ((n ≡ length xs) × (x ≡ y))
  push_cases [] x y zero h = inr (refl, cc)
  push_cases [] x y (suc n) h = absurd (cc)
  push_cases (z ∷ zs) x y zero h = inl h
  push_cases (z ∷ zs) x y (suc n) h = elim (push_cases zs x y n h) [
    | inl was ↦ inl was
    | inr last ↦ inr (ap suc last.0, last.1)
  ]

  pub got_within : (xs : List X) (y : X) (n : ℕ) → slice_get xs n ≡ Some y → n < length xs
  got_within [] y n h = absurd (cc)
  got_within (z ∷ zs) y zero h = omega arith
  got_within (z ∷ zs) y (suc n) h = let later = got_within zs y n h in omega arith

pub same_some : {X : Type 0} (x y : X) (o : Option X) → o ≡ Some x → o ≡ Some y → x ≡ y
same_some x y o p q = let e : Some x ≡ Some y = sym p ∙ q in cc

pub denote_more : (names : List Place) (x : Place) (cell : Cell) (value : Value) → Denotes names cell value → Denotes (names ++ x ∷ []) cell value
denote_more names x (Int i) (number j) h = h
denote_more names x (Truth b) (truth c) h = h
denote_more names x (Text s) (text t) h = h
denote_more names x (Own place) (owner name) h = push_keeps names x place name h
denote_more names x (Ref place) (reference name) h = push_keeps names x place name h
denote_more names x (Iso place) (isolate name) h = push_keeps names x place name h
denote_more names x _ _ h = absurd h

pub denote_all_more : (names : List Place) (x : Place) (cells : List Cell) (values : List Value) → DenoteAll names cells values → DenoteAll (names ++ x ∷ []) cells values
denote_all_more names x [] [] h = tt
denote_all_more names x (c ∷ cs) (v ∷ vs) h = (denote_more names x c v h.0, denote_all_more names x cs vs h.1)
denote_all_more names x [] (v ∷ vs) h = absurd h
denote_all_more names x (c ∷ cs) [] h = absurd h

pub region_more : (names : List Place) (x : Place) (home : Home) (region : Region) → IsRegion names home region → IsRegion (names ++ x ∷ []) home region
region_more names x (Open depth) (Freeze at) h = h
region_more names x (Kept root) (Isolate name) h = push_keeps names x root name h
region_more names x _ _ h = absurd h

-- a name that was given lives or is dead
pub name_cases : (world : World) (name : ℕ) → name < length world → ((object : Object) × Lives world name object) ⊎ IsDead world name
name_cases [] name h = absurd (omega arith)
name_cases (None ∷ world) zero h = inr refl
name_cases (Some object ∷ world) zero h = inl (object, refl)
name_cases (o ∷ world) (suc name) h = name_cases world name (omega arith)

-- a free slot's place is no name's
pub fresh_place : (seats : ℕ → Option Seat) (low : ℕ → ℕ → ℕ) (away : ℕ → Bool) (names : List Place) (world : World) (place : Place) (seat : Seat) → StandsAt seats low away names world → seats place.frame ≡ Some seat → IsFree seat.page place.slot → place.generation ≡ generation_at seat.page place.slot → (name : ℕ) → HasPlace names name place → ⊥
fresh_place seats low away names world place seat ok was free is name has =
    elim (name_cases world name (omega (arith, got_within names place name has, ok.as_many))) [
      | inl living ↦
          let holds = ok.live name place living.0 has living.1 in
          let same : seat ≡ holds.seat = same_some _ _ _ was holds.there in
          let body : body_at seat.page place.slot place.generation ≡ Some holds.body = ap (λ s. body_at s.page place.slot place.generation) same ∙ holds.at in
          no_body seat.page place.slot place.generation holds.body free body
      | inr dead ↦
          let below = ok.dead_here name place seat has dead was in
          let level : level_at seat.page place.slot ≡ generation_at seat.page place.slot = ap (λ r. cond r (2 ^ 64) (generation_at seat.page place.slot)) free.serves in
          omega (arith, below, level, is)
    ]
  where
    no_body : (page : PageState Body) (slot generation : ℕ) (body : Body) → IsFree page slot → body_at page slot generation ≡ Some body → ⊥
    no_body page slot generation body free at = by_test (nat_eq (generation_at page slot) generation) at
      where
        by_test : (b : Bool) → cond b (body_of page slot) None ≡ Some body → ⊥
        by_test true at = let clash : None ≡ Some body = sym free.empty ∙ at in cc
        by_test false at = cc

-- one page of the pages is another one now
pub record IsOneChange (seats new_seats : ℕ → Option Seat) (frame : ℕ) (old new : Seat) : Type 0 where
  pub was : seats frame ≡ Some old
  pub now : new_seats frame ≡ Some new
  pub others : (k : ℕ) → k ≢ frame → new_seats k ≡ seats k

-- a slot of a page that is not this one, or another slot of this page
body_kept : (page : PageState Body) (slot other generation : ℕ) (body : Body) → other ≢ slot → body_at (with_body page slot body) other generation ≡ body_at page other generation
body_kept page slot other generation body apart = ap (λ o. cond (nat_eq (generation_at page other) generation) o None) (get_or-set_other page.bodies slot other (Some body) None apart)

free_is_bare : (page : PageState Body) (slot generation : ℕ) (body : Body) → IsFree page slot → body_at page slot generation ≡ Some body → ⊥
free_is_bare page slot generation body free at = by_test (nat_eq (generation_at page slot) generation) at
  where
    by_test : (b : Bool) → cond b (body_of page slot) None ≡ Some body → ⊥
    by_test true at = let clash : None ≡ Some body = sym free.empty ∙ at in cc
    by_test false at = cc

at_is_of : (page : PageState Body) (slot generation : ℕ) (body : Body) → body_at page slot generation ≡ Some body → body_of page slot ≡ Some body
at_is_of page slot generation body at = by_test (nat_eq (generation_at page slot) generation) at
  where
    by_test : (b : Bool) → cond b (body_of page slot) None ≡ Some body → body_of page slot ≡ Some body
    by_test true at = at
    by_test false at = absurd (cc)

-- what it takes to put a body into a slot of the pages
pub record CanPut (seats new_seats : ℕ → Option Seat) (low : ℕ → ℕ → ℕ) (away : ℕ → Bool) (names : List Place) (world : World) (place : Place) (seat : Seat) (home : Home) (body : Body) (object : Object) : Type 0 where
  pub stood : StandsAt seats low away names world
  pub change : IsOneChange seats new_seats place.frame seat (record { page = with_body seat.page place.slot body; home = home })
  pub page_ok : IsPage seat.page
  pub free : IsFree seat.page place.slot
  pub generation : place.generation ≡ generation_at seat.page place.slot
  pub homes : (seat.home ≡ home) ⊎ ((slot : ℕ) → body_of seat.page slot ≡ None)
  pub kind : body.kind ≡ object.kind
  pub cells : DenoteAll names body.cells object.values
  pub region : IsRegion names home object.region

-- a body in a free slot gets the next name
module _ (seats new_seats : ℕ → Option Seat) (low : ℕ → ℕ → ℕ) (away : ℕ → Bool) (names : List Place) (world : World) (place : Place) (seat : Seat) (home : Home) (body : Body) (object : Object)
    (can : CanPut seats new_seats low away names world place seat home body object) where
  put_fresh : (name : ℕ) → HasPlace names name place → ⊥
  put_fresh = fresh_place seats low away names world place seat can.stood can.change.was can.free can.generation

  put_holds : (p : Place) (o : Object) → Holds seats names p o → Holds new_seats (names ++ place ∷ []) p o
  put_holds p o h = elim (cases_eq p.frame place.frame) [
    | inr other ↦ record {
      seat = h.seat;
      there = can.change.others p.frame other ∙ h.there;
      body = h.body;
      at = h.at;
      kind = h.kind;
      cells = denote_all_more names place _ _ h.cells;
      region = region_more names place _ _ h.region;
    }
    | inl e ↦
        let same : seat ≡ h.seat = same_some _ _ _ can.change.was (ap seats (sym e) ∙ h.there) in
        let was : body_at seat.page p.slot p.generation ≡ Some h.body = ap (λ (s : Seat). body_at s.page p.slot p.generation) same ∙ h.at in
        let apart : p.slot ≢ place.slot = λ e2. free_is_bare seat.page place.slot p.generation h.body can.free (ap (λ s. body_at seat.page s p.generation) (sym e2) ∙ was) in
        record {
          seat = record { page = with_body seat.page place.slot body; home = home };
          there = ap new_seats e ∙ can.change.now;
          body = h.body;
          at = body_kept seat.page place.slot p.slot p.generation body apart ∙ was;
          kind = h.kind;
          cells = denote_all_more names place _ _ h.cells;
          region = region_more names place _ _ (elim can.homes [
            | inl stays ↦ subst (λ x. IsRegion names x o.region) (ap (λ (s : Seat). s.home) (sym same) ∙ stays) h.region
            | inr bare ↦ absurd (let clash : None ≡ Some h.body = sym (bare p.slot) ∙ at_is_of seat.page p.slot p.generation h.body was in cc)
          ]);
        }
  ]

  put_new : Holds new_seats (names ++ place ∷ []) place object
  put_new =
      let got : get_or (set seat.page.bodies place.slot (Some body)) place.slot None ≡ Some body = get_or-set_same seat.page.bodies place.slot (Some body) None (omega (arith, can.page_ok.bodies, can.free.within)) in
      let test : nat_eq (generation_at seat.page place.slot) place.generation ≡ true = eq-eqb _ _ (sym can.generation) in
      record {
        seat = record { page = with_body seat.page place.slot body; home = home };
        there = can.change.now;
        body = body;
        at = ap (λ b. cond b (get_or (set seat.page.bodies place.slot (Some body)) place.slot None) None) test ∙ got;
        kind = can.kind;
        cells = denote_all_more names place _ _ can.cells;
        region = region_more names place _ _ can.region;
      }

  -- an old name of the new world
  old_name : (name : ℕ) (p : Place) → HasPlace names name p → name < length world
  old_name name p has = omega (arith, got_within names p name has, can.stood.as_many)

  put_live : (name : ℕ) (p : Place) (o : Object) → HasPlace (names ++ place ∷ []) name p → Lives (world ++ Some object ∷ []) name o → Holds new_seats (names ++ place ∷ []) p o
  put_live name p o has lives = elim (push_cases names place p name has) [
    | inl had ↦ elim (push_cases world (Some object) (Some o) name lives) [
      | inl lived ↦ put_holds p o (can.stood.live name p o had lived)
      | inr last ↦ absurd (omega (arith, old_name name p had, last.0))
    ]
    | inr new ↦ elim (push_cases world (Some object) (Some o) name lives) [
      | inl lived ↦ absurd (omega (arith, got_within world (Some o) name lived, can.stood.as_many, new.0))
      | inr last ↦
          let of : object ≡ o = same_Some _ _ last.1 in
          subst (λ x. Holds new_seats (names ++ place ∷ []) x o) new.1 (subst (λ x. Holds new_seats (names ++ place ∷ []) place x) of put_new)
    ]
  ]

  put_apart : (name other : ℕ) (p : Place) → HasPlace (names ++ place ∷ []) name p → HasPlace (names ++ place ∷ []) other p → name ≡ other
  put_apart name other p has also = elim (push_cases names place p name has) [
    | inl had ↦ elim (push_cases names place p other also) [
      | inl too ↦ can.stood.apart name other p had too
      | inr new ↦ absurd (put_fresh name (had ∙ ap (λ x. Some x) (sym new.1)))
    ]
    | inr new ↦ elim (push_cases names place p other also) [
      | inl too ↦ absurd (put_fresh other (too ∙ ap (λ x. Some x) (sym new.1)))
      | inr also_new ↦ new.0 ∙ sym also_new.0
    ]
  ]

  put_dead : (name : ℕ) (p : Place) → HasPlace (names ++ place ∷ []) name p → IsDead (world ++ Some object ∷ []) name → HasPlace names name p × IsDead world name
  put_dead name p has dead = elim (push_cases world (Some object) None name dead) [
    | inl was ↦ elim (push_cases names place p name has) [
      | inl had ↦ (had, was)
      | inr new ↦ absurd (omega (arith, got_within world None name was, can.stood.as_many, new.0))
    ]
    | inr last ↦ absurd (let clash = last.1 in cc)
  ]

  put_dead_here : (name : ℕ) (p : Place) (s : Seat) → HasPlace (names ++ place ∷ []) name p → IsDead (world ++ Some object ∷ []) name → new_seats p.frame ≡ Some s → p.generation < level_at s.page p.slot
  put_dead_here name p s has dead there =
      let old = put_dead name p has dead in
      elim (cases_eq p.frame place.frame) [
        | inr other ↦ can.stood.dead_here name p s old.0 old.1 (sym (can.change.others p.frame other) ∙ there)
        | inl e ↦
            let same : record { page = with_body seat.page place.slot body; home = home } ≡ s = same_some _ _ _ can.change.now (ap new_seats (sym e) ∙ there) in
            subst (λ (x : Seat). p.generation < level_at x.page p.slot) same (can.stood.dead_here name p seat old.0 old.1 (ap seats e ∙ can.change.was))
      ]

  put_dead_gone : (name : ℕ) (p : Place) → HasPlace (names ++ place ∷ []) name p → IsDead (world ++ Some object ∷ []) name → new_seats p.frame ≡ None → (p.generation < low p.frame p.slot) ⊎ ((away name ≡ true) × (p.generation ≡ low p.frame p.slot))
  put_dead_gone name p has dead gone =
      let old = put_dead name p has dead in
      elim (cases_eq p.frame place.frame) [
        | inr other ↦ can.stood.dead_gone name p old.0 old.1 (sym (can.change.others p.frame other) ∙ gone)
        | inl e ↦ absurd (let clash : None ≡ Some (record { page = with_body seat.page place.slot body; home = home }) = sym gone ∙ ap new_seats e ∙ can.change.now in cc)
      ]

  named_more : (s : Seat) (frame slot : ℕ) → IsNamed s frame slot names world → IsNamed s frame slot (names ++ place ∷ []) (world ++ Some object ∷ [])
  named_more s frame slot n = record { name = n.name; object = n.object; place = push_keeps names place _ n.name n.place; lives = push_keeps world (Some object) _ n.name n.lives }

  put_named : (frame slot : ℕ) (s : Seat) (b : Body) → slot < 64 → new_seats frame ≡ Some s → body_of s.page slot ≡ Some b → IsNamed s frame slot (names ++ place ∷ []) (world ++ Some object ∷ [])
  put_named frame slot s b within there has = elim (cases_eq frame place.frame) [
    | inr other ↦ named_more s frame slot (can.stood.named frame slot s b within (sym (can.change.others frame other) ∙ there) has)
    | inl e ↦
        let same : record { page = with_body seat.page place.slot body; home = home } ≡ s = same_some _ _ _ can.change.now (ap new_seats (sym e) ∙ there) in
        subst (λ (x : Seat). IsNamed x frame slot (names ++ place ∷ []) (world ++ Some object ∷ [])) same (elim (cases_eq slot place.slot) [
          | inl here ↦ record {
            name = length names;
            object = object;
            place = push_last names place ∙ ap (λ x. Some x) (same_place place frame slot (generation_at seat.page slot) (sym e) (sym here) (can.generation ∙ ap (generation_at seat.page) (sym here)));
            lives = ap (slice_get (world ++ Some object ∷ [])) (sym can.stood.as_many) ∙ push_last world (Some object);
          }
          | inr apart ↦
              let was : body_of seat.page slot ≡ Some b = sym (get_or-set_other seat.page.bodies place.slot slot (Some body) None apart) ∙ ap (λ (x : Seat). body_of x.page slot) same ∙ has in
              let n = can.stood.named frame slot seat b within (ap seats e ∙ can.change.was) was in
              record { name = n.name; object = n.object; place = push_keeps names place _ n.name n.place; lives = push_keeps world (Some object) _ n.name n.lives }
        ])
  ]

  pub put_stands : StandsAt new_seats low away (names ++ place ∷ []) (world ++ Some object ∷ [])
  put_stands = record {
    as_many = length-append world (Some object ∷ []) ∙ ap (λ n. n + 1) can.stood.as_many ∙ sym (length-append names (place ∷ []));
    pages = λ frame s there. elim (cases_eq frame place.frame) [
      | inr other ↦ can.stood.pages frame s (sym (can.change.others frame other) ∙ there)
      | inl e ↦
          let same : record { page = with_body seat.page place.slot body; home = home } ≡ s = same_some _ _ _ can.change.now (ap new_seats (sym e) ∙ there) in
          subst (λ (x : Seat). IsPage x.page) same (page_with_body seat.page place.slot body can.page_ok can.free.serves)
    ];
    in_page = λ name p has. elim (push_cases names place p name has) [
      | inl had ↦ can.stood.in_page name p had
      | inr new ↦ subst (λ (x : Place). x.slot < 64) new.1 can.free.within
    ];
    apart = put_apart;
    live = put_live;
    dead_here = put_dead_here;
    dead_gone = put_dead_gone;
    named = put_named;
  }
