-- What turns give, as the loop over them sees it, and as reading sees it.
use Rattle.std.proofs.Common.{◌≡◌, ◌<◌, ◌≤◌, ◌-◌, ◌+◌, ℕ, zero, suc, List, [], ◌∷◌, ◌++◌, Result, Ok, Err, refl, sym, ap, subst, ◌∙◌, arith}
use Rattle.std.specs.Prelude.{map}
use Rattle.std.specs.Borrow.{Bor}
use Rattle.std.specs.Fn.{Shared, FnReturnsAt}
use Rattle.std.proofs.lemmas.List.{map_push}
use Rattle.vale_syntax.specs.declared.token.Token.{Token}
use Rattle.vale_syntax.specs.View.{listed}
use Rattle.vale_reading.specs.declared.stop.Stop.{Stop}
use Rattle.vale_reading.specs.declared.stop.Stop.TheVariants as stop
use Rattle.vale_reading.specs.declared.stop.Turn.{Turn}
use Rattle.vale_reading.specs.declared.stop.Turn.TheVariants.{More, End}
use Rattle.vale_reading.specs.Steps.{Read, Reader, with_front, turns_at, faulty}
use Rattle.vale_reading.specs.Gives.{Fails, Gives, turned}
use Rattle.vale_reading.specs.Turns.{FoundTurn, FoundAll, AfterTurn, Turns, items_alone, TurnsAlone}
use Rattle.vale_reading.proofs.Loops.{front_none, front_more, front_fails, one_more, at_end, failing, at_out}

module _ {X E : Type 0} (gives : List Token → FoundTurn X E → Type 0) where
  item_then : (others : List X → List Token → FoundAll X E → Type 0) (xs : List X) (x : X) (rest : Bor (List Token)) (result : FoundAll X E) → others (xs ++ x ∷ []) rest.now result → AfterTurn others xs (Ok (More x, rest)) result
  item_then others xs x rest (Ok y) h = h
  item_then others xs x rest (Err stop.Memory) h = tt
  item_then others xs x rest (Err (stop.Unexpected us)) h = h
  item_then others xs x rest (Err (stop.TooDeep us)) h = h

  pub before_all : (count : ℕ) (xs : List X) (ts : List Token) (result : FoundAll X E) → Turns gives (count - 0) xs ts result → Turns gives count xs ts result
  before_all count xs ts result h = let same : count - 0 ≡ count = omega arith in subst (λ (n : ℕ). Turns gives n xs ts result) same h

  -- the loop: what the turns that are left may give, all of them may
  module _ (count i : ℕ) (xs : List X) (ts : List Token) (all : FoundAll X E → Type 0) (goes : (result : FoundAll X E) → Turns gives (count - i) xs ts result → all result) where
    by_turn : (result : FoundAll X E) (t : FoundTurn X E) → i < count → gives ts t → AfterTurn (Turns gives (count - (i + 1))) xs t result → all result
    by_turn result t lt g h =
        let k : count - i ≡ suc (count - (i + 1)) = omega arith in
        goes result (subst (λ (n : ℕ). Turns gives n xs ts result) (sym k) (t, g, h))

    pub after_stop : (s : Stop) → i < count → gives ts (Err s) → all (Err s)
    after_stop s lt g = by_turn (Err s) (Err s) lt g refl

    pub after_end : (e : E) (rest : Bor (List Token)) → i < count → gives ts (Ok (End e, rest)) → all (Ok ((xs, e), rest))
    after_end e rest lt g = by_turn (Ok ((xs, e), rest)) (Ok (End e, rest)) lt g refl

    pub after_full : (x : X) (rest : Bor (List Token)) → i < count → gives ts (Ok (More x, rest)) → all (Err stop.Memory)
    after_full x rest lt g = by_turn (Err stop.Memory) (Ok (More x, rest)) lt g tt

    pub after_item : (x : X) (rest : Bor (List Token)) → i < count → gives ts (Ok (More x, rest)) → (result : FoundAll X E) → Turns gives (count - (i + 1)) (xs ++ x ∷ []) rest.now result → all result
    after_item x rest lt g result h = by_turn result (Ok (More x, rest)) lt g (item_then (Turns gives (count - (i + 1))) xs x rest result h)

    pub after_all : (us : Bor (List Token)) → count ≤ i → us.now ≡ ts → all (Err (stop.Unexpected us))
    after_all us le e =
        let k : count - i ≡ 0 = omega arith in
        goes (Err (stop.Unexpected us)) (subst (λ (n : ℕ). Turns gives n xs ts (Err (stop.Unexpected us))) (sym k) e)

-- reading: where each turn gives what reading an item gives, they give what reading the list gives
module _ {X E Y F L : Type 0} (v : X → Y) (w : E → F) (turn : Reader (Turn Y F)) (more : Y → L → L) (end : F → L)
    (gives : List Token → FoundTurn X E → Type 0) (reads : (ts : List Token) (t : FoundTurn X E) → gives ts t → Gives (λ x. (turned v w x.0, x.1.now)) t (turn ts)) where
  abbrev others : ℕ → Reader L
  others n = turns_at turn more end faulty n

  abbrev Seen : FoundAll X E → Read L → Type 0
  Seen result r = Gives (λ (x : (List X × E) × Bor (List Token)). (listed more (map v x.0.0) (end (w x.0.1)), x.1.now)) result r

  pushed : (n : ℕ) (xs : List X) (ts : List Token) (x : X) (rest : Bor (List Token)) (result : FoundAll X E) → turn ts ≡ Ok (More (v x), rest.now)
      → Seen result (with_front (listed more (map v (xs ++ x ∷ []))) (others n rest.now)) → Seen result (with_front (listed more (map v xs)) (others (suc n) ts))
  pushed n xs ts x rest result h s =
      let one : others (suc n) ts ≡ with_front (more (v x)) (others n rest.now) = one_more turn more end faulty n ts rest.now (v x) h in
      let same : with_front (listed more (map v (xs ++ x ∷ []))) (others n rest.now) ≡ with_front (listed more (map v xs)) (others (suc n) ts) =
      ap (λ (ys : List Y). with_front (listed more ys) (others n rest.now)) (map_push v xs x) ∙ (front_more more (map v xs) (v x) (others n rest.now) ∙ ap (λ (r : Read L). with_front (listed more (map v xs)) r) (sym one)) in
      subst (Seen result) same s

  ended : (n : ℕ) (xs : List X) (ts : List Token) (e : E) (rest : Bor (List Token)) → turn ts ≡ Ok (End (w e), rest.now) → Seen (Ok ((xs, e), rest)) (with_front (listed more (map v xs)) (others (suc n) ts))
  ended n xs ts e rest h = ap (λ (r : Read L). with_front (listed more (map v xs)) r) (at_end turn more end faulty n ts rest.now (w e) h)

  stopped : (n : ℕ) (xs : List X) (ts : List Token) (s : Stop) → Fails s (turn ts) → Seen (Err s) (with_front (listed more (map v xs)) (others (suc n) ts))
  stopped n xs ts s h = front_fails s (listed more (map v xs)) (others (suc n) ts) (failing turn more end faulty n ts s h)

  out_by : (xs : List X) (ts : List Token) (result : FoundAll X E) → Turns gives 0 xs ts result → Seen result (with_front (listed more (map v xs)) (others 0 ts))
  out_by xs ts (Ok y) h = absurd h
  out_by xs ts (Err stop.Memory) h = absurd h
  out_by xs ts (Err (stop.Unexpected us)) h = rw (at_out turn more end faulty ts, h) refl
  out_by xs ts (Err (stop.TooDeep us)) h = absurd h

  -- so many turns give what reading as many items gives
  abbrev Give : ℕ → Type 0
  Give n = (xs : List X) (ts : List Token) (result : FoundAll X E) → Turns gives n xs ts result → Seen result (with_front (listed more (map v xs)) (others n ts))

  item_by : (n : ℕ) (again : Give n) (xs : List X) (ts : List Token) (x : X) (rest : Bor (List Token)) (result : FoundAll X E) → turn ts ≡ Ok (More (v x), rest.now) → AfterTurn (Turns gives n) xs (Ok (More x, rest)) result
      → Seen result (with_front (listed more (map v xs)) (others (suc n) ts))
  item_by n again xs ts x rest (Ok y) e h = pushed n xs ts x rest (Ok y) e (again (xs ++ x ∷ []) rest.now (Ok y) h)
  item_by n again xs ts x rest (Err stop.Memory) e h = tt
  item_by n again xs ts x rest (Err (stop.Unexpected us)) e h = pushed n xs ts x rest (Err (stop.Unexpected us)) e (again (xs ++ x ∷ []) rest.now (Err (stop.Unexpected us)) h)
  item_by n again xs ts x rest (Err (stop.TooDeep us)) e h = pushed n xs ts x rest (Err (stop.TooDeep us)) e (again (xs ++ x ∷ []) rest.now (Err (stop.TooDeep us)) h)

  turn_by : (n : ℕ) (again : Give n) (xs : List X) (ts : List Token) (t : FoundTurn X E) (result : FoundAll X E) → Gives (λ x. (turned v w x.0, x.1.now)) t (turn ts) → AfterTurn (Turns gives n) xs t result
      → Seen result (with_front (listed more (map v xs)) (others (suc n) ts))
  turn_by n again xs ts (Ok (More x, rest)) result e h = item_by n again xs ts x rest result e h
  turn_by n again xs ts (Ok (End e, rest)) result i h = subst (λ (r : FoundAll X E). Seen r (with_front (listed more (map v xs)) (others (suc n) ts))) (sym h) (ended n xs ts e rest i)
  turn_by n again xs ts (Err s) result e h = subst (λ (r : FoundAll X E). Seen r (with_front (listed more (map v xs)) (others (suc n) ts))) (sym h) (stopped n xs ts s e)

  pub turns_give : (n : ℕ) → Give n
  turns_give zero xs ts result h = out_by xs ts result h
  turns_give (suc n) xs ts result (t, g, h) = turn_by n (turns_give n) xs ts t result (reads ts t g) h

-- the same of the turns that are calls of a function
module _ {X E Y F L C : Type 0} (v : X → Y) (w : E → F) (turn : Reader (Turn Y F)) (more : Y → L → L) (end : F → L) (calls : Shared C (Bor (List Token) × Unit {0}) (FoundTurn X E)) (f : C)
    (reads : (ts : Bor (List Token)) (t : FoundTurn X E) → calls.post f (ts, tt) t → Gives (λ x. (turned v w x.0, x.1.now)) t (turn ts.now)) where
  read_at : (ts : List Token) (t : FoundTurn X E) → FnReturnsAt calls f ts t → Gives (λ x. (turned v w x.0, x.1.now)) t (turn ts)
  read_at ts t p = subst (λ (us : List Token). Gives (λ x. (turned v w x.0, x.1.now)) t (turn us)) p.shows (reads p.shown t p.says.met)

  pub calls_give : (n : ℕ) (xs : List X) (ts : List Token) (result : FoundAll X E) → Turns (FnReturnsAt calls f) n xs ts result
      → Gives (λ (x : (List X × E) × Bor (List Token)). (listed more (map v x.0.0) (end (w x.0.1)), x.1.now)) result (with_front (listed more (map v xs)) (turns_at turn more end faulty n ts))
  calls_give n xs ts result h = turns_give v w turn more end (FnReturnsAt calls f) read_at n xs ts result h

  alone_by : (all : FoundAll X E) (r : Read L) → Gives (λ (x : (List X × E) × Bor (List Token)). (listed more (map v x.0.0) (end (w x.0.1)), x.1.now)) all r
      → (nil : L) → ((e : E) → end (w e) ≡ nil) → Gives (λ (x : List X × Bor (List Token)). (listed more (map v x.0) nil, x.1.now)) (items_alone all) r
  alone_by (Ok ((xs, e), rest)) r h nil same = h ∙ ap (λ (l : L). Ok (listed more (map v xs) l, rest.now)) (same e)
  alone_by (Err s) r h nil same = h

  pub calls_give_alone : (nil : L) → ((e : E) → end (w e) ≡ nil) → (n : ℕ) (xs : List X) (ts : List Token) (result : Result (List X × Bor (List Token)) Stop) → TurnsAlone (FnReturnsAt calls f) n xs ts result
      → Gives (λ (x : List X × Bor (List Token)). (listed more (map v x.0) nil, x.1.now)) result (with_front (listed more (map v xs)) (turns_at turn more end faulty n ts))
  calls_give_alone nil same n xs ts result h =
      let r : Read L = with_front (listed more (map v xs)) (turns_at turn more end faulty n ts) in
      subst (λ (z : Result (List X × Bor (List Token)) Stop). Gives (λ (x : List X × Bor (List Token)). (listed more (map v x.0) nil, x.1.now)) z r) (sym h.alone) (alone_by h.all r (calls_give n xs ts h.all h.turns) nil same)

  -- from the first item on
  pub calls_start : (n : ℕ) (ts : List Token) (result : FoundAll X E) → Turns (FnReturnsAt calls f) n [] ts result
      → Gives (λ (x : (List X × E) × Bor (List Token)). (listed more (map v x.0.0) (end (w x.0.1)), x.1.now)) result (turns_at turn more end faulty n ts)
  calls_start n ts result h =
      subst (λ (r : Read L). Gives (λ (x : (List X × E) × Bor (List Token)). (listed more (map v x.0.0) (end (w x.0.1)), x.1.now)) result r) (front_none more (turns_at turn more end faulty n ts)) (calls_give n [] ts result h)

  pub calls_start_alone : (nil : L) → ((e : E) → end (w e) ≡ nil) → (n : ℕ) (ts : List Token) (result : Result (List X × Bor (List Token)) Stop) → TurnsAlone (FnReturnsAt calls f) n [] ts result
      → Gives (λ (x : List X × Bor (List Token)). (listed more (map v x.0) nil, x.1.now)) result (turns_at turn more end faulty n ts)
  calls_start_alone nil same n ts result h =
      subst (λ (r : Read L). Gives (λ (x : List X × Bor (List Token)). (listed more (map v x.0) nil, x.1.now)) result r) (front_none more (turns_at turn more end faulty n ts)) (calls_give_alone nil same n [] ts result h)

listed_is : {Y : Type 0} (ys : List Y) → listed (λ y ys. y ∷ ys) ys [] ≡ ys
listed_is [] = refl
listed_is (y ∷ ys) = ap (λ (zs : List _). y ∷ zs) (listed_is ys)

seen_listed : {X Y : Type 0} (v : X → Y) (result : Result (List X × Bor (List Token)) Stop) (r : Read (List Y)) → Gives (λ (x : List X × Bor (List Token)). (listed (λ y ys. y ∷ ys) (map v x.0) [], x.1.now)) result r
    → Gives (λ (x : List X × Bor (List Token)). (map v x.0, x.1.now)) result r
seen_listed v (Ok (xs, rest)) r h = h ∙ ap (λ (ys : List _). Ok (ys, rest.now)) (listed_is (map v xs))
seen_listed v (Err s) r h = h

-- a list that definitions see as a list
pub calls_give_list : {X Y E F C : Type 0} (v : X → Y) (w : E → F) (turn : Reader (Turn Y F)) (calls : Shared C (Bor (List Token) × Unit {0}) (FoundTurn X E)) (f : C)
    (reads : (ts : Bor (List Token)) (t : FoundTurn X E) → calls.post f (ts, tt) t → Gives (λ x. (turned v w x.0, x.1.now)) t (turn ts.now)) (n : ℕ) (ts : List Token) (result : Result (List X × Bor (List Token)) Stop)
    → TurnsAlone (FnReturnsAt calls f) n [] ts result → Gives (λ (x : List X × Bor (List Token)). (map v x.0, x.1.now)) result (turns_at turn (λ x xs. x ∷ xs) (λ _. []) faulty n ts)
calls_give_list v w turn calls f reads n ts result h =
    seen_listed v result (turns_at turn (λ x xs. x ∷ xs) (λ _. []) faulty n ts) (calls_start_alone v w turn (λ x xs. x ∷ xs) (λ _. []) calls f reads [] (λ e. refl) n ts result h)
