-- How the loop over a number's bytes, from the last one to the first, comes to what reading gives.
use Rattle.std.proofs.Common.{◌≡◌, ℕ, zero, suc, ◌+◌, ◌-◌, ◌*◌, ◌<◌, ◌≤◌, Bool, true, false, cond, ltb, leb, ◌&&◌, List, [], ◌∷◌, length, get_or, drop, Option, Some, Ok, Err, refl, sym, ap, ap₂, subst, ◌∙◌, drop-cons, arith, inl, inr, ◌⊎◌}
use Rattle.std.proofs.lemmas.Bool.{lt-ltb, le-leb, lt-leb, and_left, and_right}
use Rattle.vale_codec.specs.declared.fault.Reason.TheVariants.{Ends, Number}
use Rattle.vale_codec.specs.Numbers.{Group, lower, group_at, judged, number_read, IsUnended}
use Rattle.vale_codec.proofs.NumberLaws.{group_small, group_large, no_group, read_is}

abbrev group : ℕ → List ℕ → Option Group
group worth rest = Some (record { worth = worth; shortest = true; rest = rest })

pub begins_at : (bytes : List ℕ) (i : ℕ) → i < length bytes → get_or bytes i 0 < 128 → group_at (drop i bytes) ≡ group (get_or bytes i 0) (drop (suc i) bytes)
begins_at bytes i inside small = rw (drop-cons bytes i 0 inside) (group_small (get_or bytes i 0) (drop (suc i) bytes) small)

-- one more byte in front
pub goes_on : (bytes rest : List ℕ) (i j worth next : ℕ) → j ≡ suc i → i < length bytes → 128 ≤ get_or bytes i 0 → 0 < worth → next ≡ get_or bytes i 0 - 128 + 128 * worth
    → group_at (drop j bytes) ≡ group worth rest → group_at (drop i bytes) ≡ group next rest
goes_on bytes rest i j worth next ej inside big pos en e =
    let f : group_at (drop (suc i) bytes) ≡ group worth rest = subst (λ (k : ℕ). group_at (drop k bytes) ≡ group worth rest) ej e in
    ap group_at (drop-cons bytes i 0 inside) ∙ group_large (get_or bytes i 0) (drop (suc i) bytes) big ∙ ap (lower (get_or bytes i 0)) f
    ∙ ap₂ (λ (w : ℕ) (t : Bool). Some (record { worth = w; shortest = t; rest = rest })) (sym en) (lt-ltb 0 worth pos)

-- bytes that begin with no number up to the limit
abbrev pub IsBad : ℕ → List ℕ → Type 0
IsBad limit bytes = (g : Group) × (group_at bytes ≡ Some g) × ((g.shortest ≡ false) ⊎ (limit < g.worth))

not_positive : (w : ℕ) → w ≡ 0 → (true && ltb 0 w) ≡ false
not_positive w e = rw e refl

pub turns_bad : (bytes rest : List ℕ) (i j worth limit : ℕ) → j ≡ suc i → i < length bytes → 128 ≤ get_or bytes i 0 → (worth ≡ 0) ⊎ (limit < get_or bytes i 0 - 128 + 128 * worth)
    → group_at (drop j bytes) ≡ group worth rest → IsBad limit (drop i bytes)
turns_bad bytes rest i j worth limit ej inside big bad e =
    let f : group_at (drop (suc i) bytes) ≡ group worth rest = subst (λ (k : ℕ). group_at (drop k bytes) ≡ group worth rest) ej e in
    let made : Group = record { worth = get_or bytes i 0 - 128 + 128 * worth; shortest = true && ltb 0 worth; rest = rest } in
    let at : group_at (drop i bytes) ≡ Some made = ap group_at (drop-cons bytes i 0 inside) ∙ group_large (get_or bytes i 0) (drop (suc i) bytes) big ∙ ap (lower (get_or bytes i 0)) f in
    (made, at, elim bad [ inl z ↦ inl (not_positive worth z) | inr l ↦ inr l ])

-- however many bytes stand before them
pub stays_bad : (bytes : List ℕ) (i limit : ℕ) → i ≤ length bytes → ((k : ℕ) → k < i → 128 ≤ get_or bytes k 0) → IsBad limit (drop i bytes) → IsBad limit bytes
stays_bad bytes zero limit le known bad = bad
stays_bad [] (suc i) limit le known bad = absurd (omega arith)
stays_bad (b ∷ bytes) (suc i) limit le known bad =
    let t = stays_bad bytes i limit (omega arith) (λ k lt. known (suc k) (omega arith)) bad in
    let big : 128 ≤ b = known 0 (omega arith) in
    let g = t.0 in
    let made : Group = record { worth = b - 128 + 128 * g.worth; shortest = g.shortest && ltb 0 g.worth; rest = g.rest } in
    (made, group_large b bytes big ∙ ap (lower b) t.1, elim t.2 [ inl z ↦ inl (and_left g.shortest (ltb 0 g.worth) z) | inr l ↦ inr (omega arith) ])

pub bad_read : (limit : ℕ) (bytes : List ℕ) → IsBad limit bytes → number_read limit bytes ≡ Err (record { reason = Number; left = length bytes })
bad_read limit bytes bad =
    let g = bad.0 in
    let no : (g.shortest && leb g.worth limit) ≡ false = elim bad.2 [ inl z ↦ and_left g.shortest (leb g.worth limit) z | inr l ↦ and_right g.shortest (leb g.worth limit) (lt-leb g.worth limit l) ] in
    read_is limit bytes ∙ ap (judged limit (length bytes)) bad.1
    ∙ ap (λ (t : Bool). cond t (Ok (g.worth, g.rest)) (Err (record { reason = Number; left = length bytes }))) no

pub good_read : (limit worth i : ℕ) (bytes rest : List ℕ) → i ≡ 0 → worth ≤ limit → group_at (drop i bytes) ≡ group worth rest → number_read limit bytes ≡ Ok (worth, rest)
good_read limit worth i bytes rest ei le e =
    let f : group_at bytes ≡ group worth rest = subst (λ (k : ℕ). group_at (drop k bytes) ≡ group worth rest) ei e in
    read_is limit bytes ∙ ap (judged limit (length bytes)) f
    ∙ ap (λ (t : Bool). cond t (Ok (worth, rest)) (Err (record { reason = Number; left = length bytes }))) (le-leb worth limit le)

pub large_read : (limit worth i : ℕ) (bytes rest : List ℕ) → i ≡ 0 → limit < worth → group_at (drop i bytes) ≡ group worth rest → number_read limit bytes ≡ Err (record { reason = Number; left = length bytes })
large_read limit worth i bytes rest ei lt e =
    let f : group_at bytes ≡ group worth rest = subst (λ (k : ℕ). group_at (drop k bytes) ≡ group worth rest) ei e in
    let made : Group = record { worth = worth; shortest = true; rest = rest } in
    bad_read limit bytes (made, f, inr lt)

all_big : (bytes : List ℕ) → ((k : ℕ) → k < length bytes → 128 ≤ get_or bytes k 0) → IsUnended bytes
all_big [] known = tt
all_big (b ∷ bytes) known = (known 0 (omega arith), all_big bytes (λ k lt. known (suc k) (omega arith)))

pub unended_read : (limit : ℕ) (bytes : List ℕ) → ((k : ℕ) → k < length bytes → 128 ≤ get_or bytes k 0) → number_read limit bytes ≡ Err (record { reason = Ends; left = 0 })
unended_read limit bytes known = read_is limit bytes ∙ ap (judged limit (length bytes)) (no_group bytes (all_big bytes known))
