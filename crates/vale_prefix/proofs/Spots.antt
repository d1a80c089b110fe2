-- The spot of code 5, by the grammar alone.
use Rattle.std.proofs.Common.{◌≡◌, ◌<◌, ◌≤◌, ℕ, suc, true, List, [], ◌∷◌, ◌++◌, append_assoc, length, Result, Ok, Err, refl, sym, ap, subst, ◌∙◌, arith}
use Rattle.vale_base.specs.Limits.{level_limit}
use Rattle.vale_syntax.specs.declared.token.Token.{Token}
use Rattle.vale_syntax.specs.Tree.{Item, Tree}
use Rattle.vale_syntax.specs.Grammar.{names_in}
use Rattle.vale_reading.specs.Steps.{from, Fault, unexpected, too_deep, Read}
use Rattle.vale_reading.specs.ItemReading.{read_at, all_of, tree_of, items_of, items_at, read_items}
use Rattle.vale_reading_laws.proofs.MoreLevels.{Follows}
use Rattle.vale_reading_laws.proofs.MoreItems.{items_grow}
use Rattle.vale_reading_laws.proofs.MoreItems.{levels as counts}
use Rattle.vale_prefix.proofs.Parts.{Whole, Took}
use Rattle.vale_prefix.proofs.Items.{SomeItems, items_read}
use Rattle.vale_prefix_spec.specs.Begins.{Begins, GoesNoFurther, StopsAt, GoesThrough, spells_within}
use Rattle.vale_prefix.proofs.Viable.{begins, viable_before}
use Rattle.vale_prefix.proofs.Exact.{none_through, none_whole}

append_nil : (a : List Token) → a ++ [] ≡ a
append_nil [] = refl
append_nil (t ∷ a) = ap (λ (z : List Token). t ∷ z) (append_nil a)

no_further : (levels : ℕ) (ts front left : List Token) → ts ≡ front ++ left → read_at levels ts ≡ Err (unexpected left) → GoesNoFurther front left
no_further levels ts front [] e h = none_whole levels front (subst (λ (z : List Token). read_at levels z ≡ Err (unexpected [])) (e ∙ append_nil front) h)
no_further levels ts front (t ∷ after) e h = none_through levels front t after (subst (λ (z : List Token). read_at levels z ≡ Err (unexpected (t ∷ after))) e h)

stops_at : (levels : ℕ) (ts left : List Token) → read_at levels ts ≡ Err (unexpected left) → StopsAt ts left
stops_at levels ts left h = let v = viable_before levels ts (unexpected left) h in record { front = v.0; there = v.1; begins = v.2; no_further = no_further levels ts v.0 left v.1 h }

-- what the parser's fault of code 5 says
pub all_stops : (ts left : List Token) → all_of ts ≡ Err (unexpected left) → StopsAt ts left
unfolding all_of
all_stops ts left h = stops_at level_limit ts left h

-- ---- the token that opens a level too many is one through which a program goes

no_token : (t : Token) (ts : List Token) → [] ≡ t ∷ ts → ⊥
no_token t ts e = cc

heads : (t u : Token) (ts us : List Token) → t ∷ ts ≡ u ∷ us → (t ≡ u) × (ts ≡ us)
heads t u ts us e = (cc, cc)

longer : (a mid : List Token) → length mid ≤ length (a ++ mid)
longer [] mid = omega arith
longer (t ∷ a) mid = let le : length mid ≤ length (a ++ mid) = longer a mid in omega (arith, le)

past : (front a : List Token) (t : Token) (after rest : List Token) → front ++ t ∷ after ≡ a ++ rest → length rest < length (t ∷ after) → (b : List Token) × (a ≡ (front ++ t ∷ []) ++ b)
past [] [] t after rest e lt = absurd (omega (arith, lt, ap length e))
past [] (u ∷ a) t after rest e lt = (a, ap (λ (z : Token). z ∷ a) (sym (heads t u after (a ++ rest) e).0))
past (u ∷ front) [] t after rest e lt = let le : length (t ∷ after) ≤ length (front ++ t ∷ after) = longer front (t ∷ after) in absurd (omega (arith, lt, le, ap length e))
past (u ∷ front) (v ∷ a) t after rest e lt =
    let h = heads u v (front ++ t ∷ after) (a ++ rest) e in
    let r = past front a t after rest h.1 lt in
    (r.0, subst (λ (z : Token). z ∷ a ≡ u ∷ ((front ++ t ∷ []) ++ r.0)) h.0 (ap (λ (z : List Token). u ∷ z) r.1))

shorter : (front b : List Token) → Begins (front ++ b) → Begins front
shorter front b h = record { levels = h.levels; rest = b ++ h.rest; tree = h.tree; spells = subst (spells_within h.levels h.tree) (append_assoc front b h.rest) h.spells }

through_by : (front a : List Token) (t : Token) (after rest : List Token) → front ++ t ∷ after ≡ a ++ rest → length rest < length (t ∷ after) → Begins a → Begins (front ++ t ∷ [])
through_by front a t after rest e lt h = let b = past front a t after rest e lt in shorter (front ++ t ∷ []) b.0 (subst Begins b.1 h)

-- what was read, or what stands before the fault, goes past the token
through_read : (front : List Token) (t : Token) (after : List Token) (q : Read (List Item)) → Took SomeItems (front ++ t ∷ after) q → Follows {A = List Item} true (Err (too_deep (t ∷ after))) q → Begins (front ++ t ∷ [])
through_read front t after (Ok y) h lt = through_by front h.0 t after y.1 h.1 lt (begins h.0 ([], subst (Whole SomeItems) (sym (append_nil h.0)) h.2))
through_read front t after (Err f) h lt = through_by front h.0 t after (from f) h.1 lt (begins h.0 h.2)

abbrev items_fault : Fault → Read (List Item)
items_fault f = Err f

fault_deep : (names : List (List ℕ)) (r : Read (List Item)) (us : List Token) → tree_of names (read_items r) ≡ Err (too_deep us) → r ≡ Err (too_deep us)
fault_deep names (Ok y) us e = absurd cc
fault_deep names (Err f) us e = ap items_fault (same f us e) where
  same : (f : Fault) (us : List Token) → tree_of names (read_items (Err f)) ≡ Err (too_deep us) → f ≡ too_deep us
  same f us e = cc

through_deep : (levels : ℕ) (front : List Token) (t : Token) (after : List Token) → read_at levels (front ++ t ∷ after) ≡ Err (too_deep (t ∷ after)) → Begins (front ++ t ∷ [])
through_deep d front t after h =
    let ts : List Token = front ++ t ∷ after in
    let lt : d < suc d = omega arith in
    let less : items_at (names_in ts) d ts ≡ Err (too_deep (t ∷ after)) = fault_deep (names_in ts) (items_at (names_in ts) d ts) (t ∷ after) h in
    let follows : Follows {A = List Item} true (Err (too_deep (t ∷ after))) (items_at (names_in ts) (suc d) ts) = subst (λ (r : Read (List Item)). Follows true r (items_at (names_in ts) (suc d) ts)) less (items_grow (names_in ts) (counts true d (suc d) lt) ts).follows in
    through_read front t after (items_at (names_in ts) (suc d) ts) (items_read (names_in ts) (suc d) ts).took follows

no_fewer : (q : Read (List Item)) → Follows {A = List Item} true (Err (too_deep [])) q → ⊥
no_fewer (Ok y) lt = omega (arith, lt)
no_fewer (Err f) lt = omega (arith, lt)

never_at_end : (d : ℕ) (ts : List Token) → read_at d ts ≡ Err (too_deep []) → ⊥
never_at_end d ts h =
    let lt : d < suc d = omega arith in
    let less : items_at (names_in ts) d ts ≡ Err (too_deep []) = fault_deep (names_in ts) (items_at (names_in ts) d ts) [] h in
    no_fewer (items_at (names_in ts) (suc d) ts) (subst (λ (r : Read (List Item)). Follows true r (items_at (names_in ts) (suc d) ts)) less (items_grow (names_in ts) (counts true d (suc d) lt) ts).follows)

deep_more : (levels : ℕ) (front : List Token) (t : Token) (after ts : List Token) → ts ≡ front ++ t ∷ after → read_at levels ts ≡ Err (too_deep (t ∷ after)) → GoesThrough ts (t ∷ after)
deep_more levels front t after ts e h = record { front = front; token = t; after = after; there = e; first = refl; begins = through_deep levels front t after (subst (λ (z : List Token). read_at levels z ≡ Err (too_deep (t ∷ after))) e h) }

-- a level is wanting at a token, and never at the end
deep_by : (levels : ℕ) (front ts left : List Token) → ts ≡ front ++ left → read_at levels ts ≡ Err (too_deep left) → GoesThrough ts left
deep_by levels front ts [] e h = absurd (never_at_end levels ts h)
deep_by levels front ts (t ∷ after) e h = deep_more levels front t after ts e h

-- what the parser's fault of code 6 says of programs
pub all_go_through : (ts left : List Token) → all_of ts ≡ Err (too_deep left) → GoesThrough ts left
unfolding all_of
all_go_through ts left h = let v = viable_before level_limit ts (too_deep left) h in deep_by level_limit v.0 ts left v.1 h

-- ---- there is one place where tokens stop to begin a program, and none where they are one

tails : (a b x y : List Token) → a ++ x ≡ b ++ y → length x ≡ length y → x ≡ y
tails [] [] x y e l = e
tails [] (u ∷ b) x y e l = let le : length y ≤ length (b ++ y) = longer b y in absurd (omega (arith, le, l, ap length e))
tails (t ∷ a) [] x y e l = let le : length x ≤ length (a ++ x) = longer a x in absurd (omega (arith, le, l, ap length e))
tails (t ∷ a) (u ∷ b) x y e l = tails a b x y (heads t u (a ++ x) (b ++ y) e).1 l

-- what begins a program goes no further than the place
no_longer : (ts front left front2 left2 : List Token) → ts ≡ front ++ left → ts ≡ front2 ++ left2 → Begins front → GoesNoFurther front2 left2 → length left < length left2 → ⊥
no_longer ts front left front2 [] e e2 h stops lt = omega (arith, lt)
no_longer ts front left front2 (t ∷ after) e e2 h stops lt = stops (through_by front2 front t after left (sym e2 ∙ e) lt h)

pub one_stop : (ts left left2 : List Token) → StopsAt ts left → StopsAt ts left2 → left ≡ left2
one_stop ts left left2 h h2 =
    let less : length left < length left2 → ⊥ = no_longer ts h.front left h2.front left2 h.there h2.there h.begins h2.no_further in
    let more : length left2 < length left → ⊥ = no_longer ts h2.front left2 h.front left h2.there h.there h2.begins h.no_further in
    tails h.front h2.front left left2 (sym h.there ∙ h2.there) (equal (length left) (length left2) less more) where
      equal : (m n : ℕ) → (m < n → ⊥) → (n < m → ⊥) → m ≡ n
      equal m n a b = omega (arith, a, b)

spelled_by : (d : ℕ) (ts front left : List Token) (x : Tree) → ts ≡ front ++ left → spells_within d x ts → GoesNoFurther front left → ⊥
spelled_by d ts front [] x e h stops = stops d x (subst (spells_within d x) (e ∙ append_nil front) h)
spelled_by d ts front (t ∷ after) x e h stops = stops (record { levels = d; rest = after; tree = x; spells = subst (spells_within d x) (e ∙ sym (append_assoc front (t ∷ []) after)) h })

pub spelled_no_stop : (d : ℕ) (ts left : List Token) (x : Tree) → spells_within d x ts → StopsAt ts left → ⊥
spelled_no_stop d ts left x h s = spelled_by d ts s.front left x s.there h s.no_further
