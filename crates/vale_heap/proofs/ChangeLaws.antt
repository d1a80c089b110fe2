-- How standing is kept where a live object's body is written.
use Rattle.std.proofs.Common.{◌≡◌, ◌≢◌, ℕ, ◌<◌, Bool, true, List, get_or, set, Option, Some, None, cond, refl, sym, ap, subst, ◌∙◌, inl, inr, arith, nat_eq}
use Rattle.std.specs.Prelude.{slice_get}
use Rattle.std.proofs.lemmas.Bool.{cases_eq, eq-eqb}
use Rattle.std.proofs.lemmas.Option.{same_Some}
use Rattle.std.proofs.lemmas.List.{length-set, get_or-set_same, get_or-set_other}
use Rattle.vale_page.specs.PageState.{IsPage, body_of, body_at, generation_at, level_at, with_body}
use Rattle.vale_page.proofs.PageLaws.{page_with_body, not_retired}
use Rattle.vale_heap.specs.declared.body.Place.{Place}
use Rattle.vale_heap.specs.declared.body.Body.{Body}
use Rattle.vale_heap.specs.declared.seat.Seat.{Seat}
use Rattle.vale_state_spec.specs.World.{Object, World, Lives, IsDead}
use Rattle.vale_heap.specs.Standing.{HasPlace, DenoteAll, IsRegion, Holds, StandsAt}
use Rattle.vale_page.proofs.PageLaws.{at_generation, at_body}
use Rattle.vale_heap.proofs.PutLaws.{IsOneChange, same_some, same_place}
use Rattle.vale_heap.proofs.EndLaws.{set_got_same, set_got_other}

-- what it takes to write the body of a live name
pub record CanWrite (seats new_seats : ℕ → Option Seat) (low : ℕ → ℕ → ℕ) (away : ℕ → Bool) (names : List Place) (world : World) (place : Place) (seat : Seat) (body : Body) (name : ℕ) (old new : Object) : Type 0 where
  pub stood : StandsAt seats low away names world
  pub change : IsOneChange seats new_seats place.frame seat (record seat { page = with_body seat.page place.slot body })
  pub has : HasPlace names name place
  pub lived : Lives world name old
  pub kind : body.kind ≡ new.kind
  pub cells : DenoteAll names body.cells new.values
  pub region : new.region ≡ old.region

module _ (seats new_seats : ℕ → Option Seat) (low : ℕ → ℕ → ℕ) (away : ℕ → Bool) (names : List Place) (world : World) (place : Place) (seat : Seat) (body : Body) (name : ℕ) (old new : Object)
    (can : CanWrite seats new_seats low away names world place seat body name old new) where
  written : Seat
  written = record seat { page = with_body seat.page place.slot body }

  before : Holds seats names place old
  before = can.stood.live name place old can.has can.lived

  same_seat : before.seat ≡ seat
  same_seat = same_some _ _ _ before.there can.change.was

  was_at : body_at seat.page place.slot place.generation ≡ Some before.body
  was_at = ap (λ (s : Seat). body_at s.page place.slot place.generation) (sym same_seat) ∙ before.at

  write_within : place.slot < 64
  write_within = can.stood.in_page name place can.has

  write_page : IsPage seat.page
  write_page = can.stood.pages place.frame seat can.change.was

  other_body : (slot generation : ℕ) → slot ≢ place.slot → body_at (with_body seat.page place.slot body) slot generation ≡ body_at seat.page slot generation
  other_body slot generation apart = ap (λ o. cond (nat_eq (generation_at seat.page slot) generation) o None) (get_or-set_other seat.page.bodies place.slot slot (Some body) None apart)

  write_new : Holds new_seats names place new
  write_new =
      let got : get_or (set seat.page.bodies place.slot (Some body)) place.slot None ≡ Some body = get_or-set_same seat.page.bodies place.slot (Some body) None (omega (arith, write_page.bodies, write_within)) in
      let test : nat_eq (generation_at seat.page place.slot) place.generation ≡ true = eq-eqb _ _ (at_generation seat.page place.slot place.generation before.body was_at) in
      record {
        seat = record seat { page = with_body seat.page place.slot body };
        there = can.change.now;
        body = body;
        at = ap (λ b. cond b (get_or (set seat.page.bodies place.slot (Some body)) place.slot None) None) test ∙ got;
        kind = can.kind;
        cells = can.cells;
        region = subst (λ r. IsRegion names seat.home r) (sym can.region) (subst (λ (s : Seat). IsRegion names s.home old.region) same_seat before.region);
      }

  write_holds : (n : ℕ) (p : Place) (o : Object) → n ≢ name → HasPlace names n p → Holds seats names p o → Holds new_seats names p o
  write_holds n p o apart has h = elim (cases_eq p.frame place.frame) [
    | inr other ↦ record { seat = h.seat; there = can.change.others p.frame other ∙ h.there; body = h.body; at = h.at; kind = h.kind; cells = h.cells; region = h.region }
    | inl e ↦
        let same : seat ≡ h.seat = same_some _ _ _ can.change.was (ap seats (sym e) ∙ h.there) in
        let was : body_at seat.page p.slot p.generation ≡ Some h.body = ap (λ (s : Seat). body_at s.page p.slot p.generation) same ∙ h.at in
        let slots : p.slot ≢ place.slot = λ s.
        let g : p.generation ≡ place.generation = sym (at_generation seat.page p.slot p.generation h.body was) ∙ ap (generation_at seat.page) s ∙ at_generation seat.page place.slot place.generation before.body was_at in
        apart (can.stood.apart n name place (has ∙ ap (λ x. Some x) (same_place p place.frame place.slot place.generation e s g)) can.has) in
        record {
          seat = record seat { page = with_body seat.page place.slot body };
          there = ap new_seats e ∙ can.change.now;
          body = h.body;
          at = other_body p.slot p.generation slots ∙ was;
          kind = h.kind;
          cells = h.cells;
          region = subst (λ (s : Seat). IsRegion names s.home o.region) (sym same) h.region;
        }
  ]

  write_dead : (n : ℕ) → IsDead (set world name (Some new)) n → IsDead world n
  write_dead n dead = elim (cases_eq n name) [
    | inl e ↦ absurd (let clash : Some (Some new) ≡ Some None = sym (set_got_same world name (Some new) (Some old) can.lived) ∙ ap (slice_get (set world name (Some new))) (sym e) ∙ dead in cc)
    | inr apart ↦ sym (set_got_other world name n (Some new) apart) ∙ dead
  ]

  lives_after : (n : ℕ) (o : Object) → Lives world n o → (x : Object) × Lives (set world name (Some new)) n x
  lives_after n o lives = elim (cases_eq n name) [
    | inl e ↦ (new, ap (slice_get (set world name (Some new))) e ∙ set_got_same world name (Some new) (Some old) can.lived)
    | inr apart ↦ (o, set_got_other world name n (Some new) apart ∙ lives)
  ]

  -- the seat of a frame now, and the one before: the same levels and generations, a body where there was one
  seat_before : (frame : ℕ) (s : Seat) → new_seats frame ≡ Some s → (t : Seat) × (seats frame ≡ Some t) × ((k : ℕ) → level_at s.page k ≡ level_at t.page k) × ((k : ℕ) → generation_at s.page k ≡ generation_at t.page k) × (IsPage t.page → IsPage s.page) × ((k : ℕ) (b : Body) → body_of s.page k ≡ Some b → (c : Body) × (body_of t.page k ≡ Some c))
  seat_before frame s there = elim (cases_eq frame place.frame) [
    | inr other ↦ (s, sym (can.change.others frame other) ∙ there, λ k. refl, λ k. refl, λ ok. ok, λ k b has. (b, has))
    | inl e ↦
        let same : record seat { page = with_body seat.page place.slot body } ≡ s = same_some _ _ _ can.change.now (ap new_seats (sym e) ∙ there) in (
          seat,
          ap seats e ∙ can.change.was,
          λ k. ap (λ (x : Seat). level_at x.page k) (sym same),
          λ k. ap (λ (x : Seat). generation_at x.page k) (sym same),
          λ ok. subst (λ (x : Seat). IsPage x.page) same (page_with_body seat.page place.slot body ok (not_retired seat.page ok place.slot before.body write_within (at_body seat.page place.slot place.generation before.body was_at))),
          λ k b has. elim (cases_eq k place.slot) [
            | inl here ↦ (before.body, ap (body_of seat.page) here ∙ at_body seat.page place.slot place.generation before.body was_at)
            | inr apart ↦ (b, sym (get_or-set_other seat.page.bodies place.slot k (Some body) None apart) ∙ ap (λ (x : Seat). body_of x.page k) same ∙ has)
          ],
        )
  ]

  pub write_stands : StandsAt new_seats low away names (set world name (Some new))
  write_stands = record {
    as_many = length-set world name (Some new) ∙ can.stood.as_many;
    pages = λ frame s there. let t = seat_before frame s there in t.4 (can.stood.pages frame t.0 t.1);
    in_page = can.stood.in_page;
    apart = can.stood.apart;
    live = λ n p o has lives. elim (cases_eq n name) [
      | inl e ↦
          let of : new ≡ o = same_Some _ _ (same_Some _ _ (sym (set_got_same world name (Some new) (Some old) can.lived) ∙ ap (slice_get (set world name (Some new))) (sym e) ∙ lives)) in
          let at : place ≡ p = same_some place p _ can.has (ap (slice_get names) (sym e) ∙ has) in
          subst (λ x. Holds new_seats names x o) at (subst (λ x. Holds new_seats names place x) of write_new)
      | inr apart ↦ write_holds n p o apart has (can.stood.live n p o has (sym (set_got_other world name n (Some new) apart) ∙ lives))
    ];
    dead_here = λ n p s has dead there.
        let t = seat_before p.frame s there in
        let below = can.stood.dead_here n p t.0 has (write_dead n dead) t.1 in
        let level = t.2 p.slot in
        omega (arith, below, level);
    dead_gone = λ n p has dead gone. elim (cases_eq p.frame place.frame) [
      | inl e ↦ absurd (let clash : None ≡ Some (record seat { page = with_body seat.page place.slot body }) = sym gone ∙ ap new_seats e ∙ can.change.now in cc)
      | inr other ↦ can.stood.dead_gone n p has (write_dead n dead) (sym (can.change.others p.frame other) ∙ gone)
    ];
    named = λ frame slot s b within there has.
        let t = seat_before frame s there in
        let c = t.5 slot b has in
        let n = can.stood.named frame slot t.0 c.0 within t.1 c.1 in
        let after = lives_after n.name n.object n.lives in
        record {
          name = n.name;
          object = after.0;
          place = n.place ∙ ap (λ x. Some x) (same_place _ frame slot (generation_at s.page slot) refl refl (sym (t.3 slot)));
          lives = after.1;
        };
  }
