-- Places and their names.
use Rattle.std.proofs.Common.{◌≡◌, ℕ, zero, suc, ◌<◌, Bool, true, false, ◌&&◌, nat_eq, if◌then◌else◌, List, [], ◌∷◌, ◌++◌, length, Option, Some, None, refl, sym, ap, subst, ◌∙◌, arith}
use Rattle.std.specs.Prelude.{slice_get, slice_set}
use Rattle.std.proofs.lemmas.Bool.{eqb-true, eq-eqb}
use Rattle.std.proofs.lemmas.List.{length-set}
use Rattle.vale_state_spec.specs.World.{Value}
use Rattle.vale_state_spec.specs.World.{Int as number, Truth as truth, Text as text, Own as owner, Ref as reference, Iso as isolate}
use Rattle.vale_code.specs.Registers.{read, put, kept}
use Rattle.vale_heap.specs.Standing.{HasPlace, Denotes}
use Rattle.vale_heap.specs.declared.body.Place.{Place}
use Rattle.vale_heap.specs.declared.body.Cell.{Cell}
use Rattle.vale_heap.specs.declared.body.Cell.TheVariants.{Int, Truth, Text, Own, Ref, Iso}
use Rattle.vale_object_cells.specs.Cells.{held, kept_cells, lent_cell}
use Rattle.vale_object_cells.specs.Names.{place_eq, name_at, IsKnown, value_of, value_in, values_in, Knows, AllKnown, Apart}

and_true : (a b : Bool) → (a && b) ≡ true → (a ≡ true) × (b ≡ true)
and_true true b e = (refl, e)
and_true false b e = absurd (cc)

place_eq-true : (p q : Place) → place_eq p q ≡ true → p ≡ q
place_eq-true p q e =
    let two = and_true ((nat_eq p.frame q.frame) && (nat_eq p.slot q.slot)) (nat_eq p.generation q.generation) e in
    let one = and_true (nat_eq p.frame q.frame) (nat_eq p.slot q.slot) two.0 in
    let f : p.frame ≡ q.frame = eqb-true _ _ one.0 in
    let s : p.slot ≡ q.slot = eqb-true _ _ one.1 in
    let g : p.generation ≡ q.generation = eqb-true _ _ two.1 in
    λ i. record { frame = f i; slot = s i; generation = g i }

and_both : (a b : Bool) → a ≡ true → b ≡ true → (a && b) ≡ true
and_both true b e h = h
and_both false b e h = absurd (cc)

place_eq-refl : (p : Place) → place_eq p p ≡ true
place_eq-refl p = and_both _ _ (and_both _ _ (eq-eqb p.frame p.frame refl) (eq-eqb p.slot p.slot refl)) (eq-eqb p.generation p.generation refl)

pub found_known : (names : List Place) (n : ℕ) (p : Place) → HasPlace names n p → IsKnown names p
found_known [] n p has = absurd (cc)
found_known (q ∷ qs) n p has = by_eq (λ k. found_known qs k p) (place_eq q p) refl n has
  where
    by_eq : ((k : ℕ) → HasPlace qs k p → IsKnown qs p) → (b : Bool) → place_eq q p ≡ b → (n : ℕ) → slice_get (q ∷ qs) n ≡ Some p → slice_get (q ∷ qs) (if b then 0 else suc (name_at qs p)) ≡ Some p
    by_eq rec true e n has = ap (λ x. Some x) (place_eq-true q p e)
    by_eq rec false e zero has =
        let same : q ≡ p = cc in
        let clash : true ≡ false = sym (ap (λ x. place_eq x p) same ∙ place_eq-refl p) ∙ e in
        absurd (let x : ⊥ = cc in x)
    by_eq rec false e (suc n) has = rec n has

pub name_more : (names more : List Place) (p : Place) → IsKnown names p → name_at (names ++ more) p ≡ name_at names p
name_more [] more p has = absurd (cc)
name_more (q ∷ qs) more p has = by_eq (name_more qs more p) (place_eq q p) has
  where
    by_eq : (IsKnown qs p → name_at (qs ++ more) p ≡ name_at qs p) → (b : Bool) → slice_get (q ∷ qs) (if b then 0 else suc (name_at qs p)) ≡ Some p → (if b then 0 else suc (name_at (qs ++ more) p)) ≡ (if b then 0 else suc (name_at qs p))
    by_eq rec true h = refl
    by_eq rec false h = ap suc (rec h)

get_more : (names more : List Place) (n : ℕ) (p : Place) → slice_get names n ≡ Some p → slice_get (names ++ more) n ≡ Some p
get_more [] more n p has = absurd (cc)
get_more (q ∷ qs) more zero p has = has
get_more (q ∷ qs) more (suc n) p has = get_more qs more n p has

pub known_more : (names more : List Place) (p : Place) → IsKnown names p → IsKnown (names ++ more) p
known_more names more p k = ap (slice_get (names ++ more)) (name_more names more p k) ∙ get_more names more (name_at names p) p k

pub last_has : (names : List Place) (p : Place) → HasPlace (names ++ p ∷ []) (length names) p
last_has [] p = refl
last_has (q ∷ qs) p = last_has qs p

pub name_is : (names : List Place) (n : ℕ) (p : Place) → Apart names → HasPlace names n p → name_at names p ≡ n
name_is names n p apart has = apart (name_at names p) n p (found_known names n p has) has

-- ---- cells

pub value_more : (names more : List Place) (c : Option Cell) → Knows names c → value_in (names ++ more) c ≡ value_in names c
value_more names more None k = refl
value_more names more (Some (Int z)) k = refl
value_more names more (Some (Truth z)) k = refl
value_more names more (Some (Text z)) k = refl
value_more names more (Some (Own p)) k = ap (λ n. Some (owner n)) (name_more names more p (k p refl))
value_more names more (Some (Ref p)) k = ap (λ n. Some (reference n)) (name_more names more p (k p refl))
value_more names more (Some (Iso p)) k = ap (λ n. Some (isolate n)) (name_more names more p (k p refl))

pub values_more : (names more : List Place) (cells : List (Option Cell)) → AllKnown names cells → values_in (names ++ more) cells ≡ values_in names cells
values_more names more [] k = refl
values_more names more (c ∷ cs) k =
    let one = value_more names more c (k 0) in
    let rest = values_more names more cs (λ r. k (suc r)) in
    λ i. one i ∷ rest i

pub all_known_more : (names more : List Place) (cells : List (Option Cell)) → AllKnown names cells → AllKnown (names ++ more) cells
all_known_more names more cells k r p e = known_more names more p (k r p e)

pub denotes_is : (names : List Place) → Apart names → (c : Cell) (v : Value) → Denotes names c v → value_of names c ≡ v
denotes_is names apart (Int a) (number b) h = ap number h
denotes_is names apart (Truth a) (truth b) h = ap truth h
denotes_is names apart (Text a) (text b) h = ap text h
denotes_is names apart (Own p) (owner n) h = ap owner (name_is names n p apart h)
denotes_is names apart (Ref p) (reference n) h = ap reference (name_is names n p apart h)
denotes_is names apart (Iso p) (isolate n) h = ap isolate (name_is names n p apart h)
denotes_is names apart _ _ h = absurd h

pub denotes_known : (names : List Place) (c : Cell) (v : Value) → Denotes names c v → Knows names (Some c)
denotes_known names (Own q) (owner n) h p e = subst (IsKnown names) (let same : q ≡ p = cc in same) (found_known names n q h)
denotes_known names (Ref q) (reference n) h p e = subst (IsKnown names) (let same : q ≡ p = cc in same) (found_known names n q h)
denotes_known names (Iso q) (isolate n) h p e = subst (IsKnown names) (let same : q ≡ p = cc in same) (found_known names n q h)
denotes_known names (Int a) (number b) h p e = absurd (let x : ⊥ = cc in x)
denotes_known names (Truth a) (truth b) h p e = absurd (let x : ⊥ = cc in x)
denotes_known names (Text a) (text b) h p e = absurd (let x : ⊥ = cc in x)
denotes_known names _ _ h p e = absurd h

pub is_denoted : (names : List Place) (c : Cell) → Knows names (Some c) → Denotes names c (value_of names c)
is_denoted names (Int z) k = refl
is_denoted names (Truth z) k = refl
is_denoted names (Text z) k = refl
is_denoted names (Own p) k = k p refl
is_denoted names (Ref p) k = k p refl
is_denoted names (Iso p) k = k p refl

pub lent_known : (names : List Place) (c : Cell) → Knows names (Some c) → Knows names (Some (lent_cell c))
lent_known names (Int z) k p e = k p e
lent_known names (Truth z) k p e = k p e
lent_known names (Text z) k p e = k p e
lent_known names (Own q) k p e = k p e
lent_known names (Ref q) k p e = k p e
lent_known names (Iso q) k p e = k p e

-- ---- registers

pub read_values : (names : List Place) (cells : List (Option Cell)) (r : ℕ) → read (values_in names cells) r ≡ value_in names (held cells r)
read_values names [] r = refl
read_values names (c ∷ cs) zero = refl
read_values names (c ∷ cs) (suc r) = read_values names cs r

pub put_values : (names : List Place) (cells : List (Option Cell)) (to : ℕ) (c : Option Cell) → to < length cells → values_in names (slice_set cells to c) ≡ put (values_in names cells) to (value_in names c)
put_values names [] to c lt = absurd (omega arith)
put_values names (d ∷ ds) zero c lt = refl
put_values names (d ∷ ds) (suc to) c lt = ap (λ l. value_in names d ∷ l) (put_values names ds to c (omega arith))

pub known_put : (names : List Place) (cells : List (Option Cell)) (to : ℕ) (c : Option Cell) → AllKnown names cells → Knows names c → AllKnown names (slice_set cells to c)
known_put names [] to c k n r p e = k r p e
known_put names (d ∷ ds) zero c k n zero p e = n p e
known_put names (d ∷ ds) zero c k n (suc r) p e = k (suc r) p e
known_put names (d ∷ ds) (suc to) c k n zero p e = k zero p e
known_put names (d ∷ ds) (suc to) c k n (suc r) p e = known_put names ds to c (λ r. k (suc r)) n r p e

-- ---- a register whose value is kept

pub kept_is : (names : List Place) (cells : List (Option Cell)) (a : ℕ) (c : Cell) → a < length cells → values_in names (kept_cells (Some c) a cells) ≡ kept a (value_of names c) (values_in names cells)
kept_is names cells a (Int z) lt = refl
kept_is names cells a (Truth z) lt = refl
kept_is names cells a (Text z) lt = refl
kept_is names cells a (Own p) lt = put_values names cells a None lt
kept_is names cells a (Ref p) lt = refl
kept_is names cells a (Iso p) lt = put_values names cells a None lt

pub kept_known : (names : List Place) (cells : List (Option Cell)) (a : ℕ) (c : Option Cell) → AllKnown names cells → AllKnown names (kept_cells c a cells)
kept_known names cells a None k = k
kept_known names cells a (Some (Int z)) k = k
kept_known names cells a (Some (Truth z)) k = k
kept_known names cells a (Some (Text z)) k = k
kept_known names cells a (Some (Own p)) k = known_put names cells a None k (λ q x. absurd (let y : ⊥ = cc in y))
kept_known names cells a (Some (Ref p)) k = k
kept_known names cells a (Some (Iso p)) k = known_put names cells a None k (λ q x. absurd (let y : ⊥ = cc in y))

pub kept_long : (cells : List (Option Cell)) (a : ℕ) (c : Option Cell) → length (kept_cells c a cells) ≡ length cells
kept_long cells a None = refl
kept_long cells a (Some (Int z)) = refl
kept_long cells a (Some (Truth z)) = refl
kept_long cells a (Some (Text z)) = refl
kept_long cells a (Some (Own p)) = length-set cells a None
kept_long cells a (Some (Ref p)) = refl
kept_long cells a (Some (Iso p)) = length-set cells a None
