-- Lists that the code reads an item a turn.
use Rattle.std.proofs.Common.{◌≡◌, ◌<◌, ◌≤◌, ◌-◌, ◌+◌, ℕ, suc, List, [], ◌∷◌, ◌++◌, Ok, Err, refl, sym, ap, subst, ◌∙◌, arith}
use Rattle.std.specs.Prelude.{map}
use Rattle.std.proofs.lemmas.List.{map_push}
use Rattle.vale_syntax.specs.declared.token.Token.{Token}
use Rattle.vale_syntax.specs.View.{listed}
use Rattle.vale_reading.specs.declared.stop.Stop.{Stop}
use Rattle.vale_reading.specs.declared.stop.Stop.TheVariants as stop
use Rattle.vale_reading.specs.declared.stop.Turn.{Turn}
use Rattle.vale_reading.specs.declared.stop.Turn.TheVariants.{More, End}
use Rattle.vale_reading.specs.Steps.{Read, Reader, with_front, turns_at}
use Rattle.vale_reading.specs.Gives.{Fails}

listed_more : {X L : Type 0} (more : X → L → L) (xs : List X) (x : X) (end : L) → listed more (xs ++ x ∷ []) end ≡ listed more xs (more x end)
listed_more more [] x end = refl
listed_more more (y ∷ xs) x end = ap (more y) (listed_more more xs x end)

pub front_more : {X L : Type 0} (more : X → L → L) (xs : List X) (x : X) (r : Read L) → with_front (listed more (xs ++ x ∷ [])) r ≡ with_front (listed more xs) (with_front (more x) r)
front_more more xs x (Ok y) = ap (λ (l : _). Ok (l, y.1)) (listed_more more xs x y.0)
front_more more xs x (Err e) = refl

pub front_fails : {L : Type 0} (s : Stop) (f : L → L) (r : Read L) → Fails s r → Fails s (with_front f r)
front_fails stop.Memory f r h = tt
front_fails (stop.Unexpected ts) f r h = rw h refl
front_fails (stop.TooDeep ts) f r h = rw h refl

pub front_none : {X L : Type 0} (more : X → L → L) (r : Read L) → with_front (listed more []) r ≡ r
front_none more (Ok y) = refl
front_none more (Err e) = refl

module _ {Y E L : Type 0} (turn : Reader (Turn Y E)) (more : Y → L → L) (end : E → L) (out : Reader L) where
  pub one_more : (n : ℕ) (ts rest : List Token) (y : Y) → turn ts ≡ Ok (More y, rest) → turns_at turn more end out (suc n) ts ≡ with_front (more y) (turns_at turn more end out n rest)
  unfolding turns_at
  one_more n ts rest y h = rw h refl

  pub at_end : (n : ℕ) (ts rest : List Token) (e : E) → turn ts ≡ Ok (End e, rest) → turns_at turn more end out (suc n) ts ≡ Ok (end e, rest)
  unfolding turns_at
  at_end n ts rest e h = rw h refl

  pub failing : (n : ℕ) (ts : List Token) (s : Stop) → Fails s (turn ts) → Fails s (turns_at turn more end out (suc n) ts)
  unfolding turns_at
  failing n ts stop.Memory h = tt
  failing n ts (stop.Unexpected us) h = rw h refl
  failing n ts (stop.TooDeep us) h = rw h refl

  pub at_out : (ts : List Token) → turns_at turn more end out 0 ts ≡ out ts
  unfolding turns_at
  at_out ts = refl

  module _ {X : Type 0} (v : X → Y) (xs : List X) (count i : ℕ) (ts : List Token) (total : Read L) (so_far : with_front (listed more (map v xs)) (turns_at turn more end out (count - i) ts) ≡ total) where
    pub turn_more : (x : X) (rest : List Token) → i < count → turn ts ≡ Ok (More (v x), rest) → with_front (listed more (map v (xs ++ x ∷ []))) (turns_at turn more end out (count - (i + 1)) rest) ≡ total
    turn_more x rest lt h =
        let k : count - i ≡ suc (count - (i + 1)) = omega arith in
        let before : with_front (listed more (map v xs)) (with_front (more (v x)) (turns_at turn more end out (count - (i + 1)) rest)) ≡ total =
        ap (λ (r : Read L). with_front (listed more (map v xs)) r) (sym (one_more (count - (i + 1)) ts rest (v x) h)) ∙ (ap (λ (n : ℕ). with_front (listed more (map v xs)) (turns_at turn more end out n ts)) (sym k) ∙ so_far) in
        rw (map_push v xs x) (front_more more (map v xs) (v x) (turns_at turn more end out (count - (i + 1)) rest) ∙ before)

    pub turn_end : (e : E) (rest : List Token) → i < count → turn ts ≡ Ok (End e, rest) → total ≡ Ok (listed more (map v xs) (end e), rest)
    turn_end e rest lt h =
        let k : count - i ≡ suc (count - (i + 1)) = omega arith in
        sym so_far ∙ rw (k, at_end (count - (i + 1)) ts rest e h) refl

    pub turn_fails : (s : Stop) → i < count → Fails s (turn ts) → Fails s total
    turn_fails s lt h =
        let k : count - i ≡ suc (count - (i + 1)) = omega arith in
        subst (λ (r : Read L). Fails s r) so_far (front_fails s (listed more (map v xs)) (turns_at turn more end out (count - i) ts) (subst (λ (n : ℕ). Fails s (turns_at turn more end out n ts)) (sym k) (failing (count - (i + 1)) ts s h)))

    pub turns_over : (l : L) (rest : List Token) → count ≤ i → out ts ≡ Ok (l, rest) → total ≡ Ok (listed more (map v xs) l, rest)
    turns_over l rest le h =
        let k : count - i ≡ 0 = omega arith in
        sym so_far ∙ rw (k, at_out ts, h) refl

-- a list is its items before the empty list
pub list_seen : {X : Type 0} (xs : List X) → listed (λ n ns. n ∷ ns) (map (λ n. n) xs) [] ≡ xs
list_seen [] = refl
list_seen (x ∷ xs) = ap (λ (ys : List _). x ∷ ys) (list_seen xs)
