-- Rounds, each of which keeps what the one before has: as many as there are numbers reach all that any round does.
use Rattle.std.proofs.Common.{◌≡◌, ℕ, zero, suc, ◌+◌, ◌-◌, ◌<◌, ◌≤◌, Bool, true, false, refl, sym, ap, subst, ◌∙◌, ⊎_elim, arith, inl, inr, ◌⊎◌}
use Rattle.std.proofs.lemmas.Bool.{cases_lt, false≢true}

-- each number of the one set is in the other
abbrev pub Within : (ℕ → Bool) → (ℕ → Bool) → Type 0
Within a b = (n : ℕ) → a n ≡ true → b n ≡ true

both_ways : (x y : Bool) → (x ≡ true → y ≡ true) → (y ≡ true → x ≡ true) → x ≡ y
both_ways true y on back = sym (on refl)
both_ways false true on back = back refl
both_ways false false on back = refl

one : Bool → ℕ
one true = 1
one false = 0

-- how many of the first k numbers are in the set
tally : (ℕ → Bool) → ℕ → ℕ
tally a zero = 0
tally a (suc k) = one (a k) + tally a k

one_le : (x y : Bool) → (x ≡ true → y ≡ true) → one x ≤ one y
unfolding one
one_le true true on = let h : 1 ≤ 1 = omega arith in h
one_le true false on = absurd (false≢true (on refl))
one_le false true on = let h : 0 ≤ 1 = omega arith in h
one_le false false on = let h : 0 ≤ 0 = omega arith in h

one_most : (x : Bool) → one x ≤ 1
unfolding one
one_most true = let h : 1 ≤ 1 = omega arith in h
one_most false = let h : 0 ≤ 1 = omega arith in h

in_if_one : (x : Bool) → 1 ≤ one x → x ≡ true
unfolding one
in_if_one true le = refl
in_if_one false le = let h : ⊥ = omega (arith, le) in absurd h

one_if_in : (x : Bool) → x ≡ true → 1 ≤ one x
unfolding one
one_if_in true is = let h : 1 ≤ 1 = omega arith in h
one_if_in false is = absurd (false≢true is)

tally_le : (a b : ℕ → Bool) → Within a b → (k : ℕ) → tally a k ≤ tally b k
unfolding tally
tally_le a b sub zero = let h : 0 ≤ 0 = omega arith in h
tally_le a b sub (suc k) = let x = one_le (a k) (b k) (sub k) in let y = tally_le a b sub k in omega (arith, x, y)

tally_most : (a : ℕ → Bool) (k : ℕ) → tally a k ≤ k
unfolding tally
tally_most a zero = let h : 0 ≤ 0 = omega arith in h
tally_most a (suc k) = let x = one_most (a k) in let y = tally_most a k in omega (arith, x, y)

-- a larger set with no more numbers has no other
no_more : (a b : ℕ → Bool) → Within a b → (k : ℕ) → tally b k ≤ tally a k → (n : ℕ) → n < k → b n ≡ true → a n ≡ true
unfolding tally
no_more a b sub zero le n lt is = let h : ⊥ = omega (arith, lt) in absurd h
no_more a b sub (suc k) le n lt is =
    let x = one_le (a k) (b k) (sub k) in
    let y = tally_le a b sub k in
    ⊎_elim
    (λ less. no_more a b sub k (omega (arith, le, x, y)) n less is)
    (λ ge.
    let last : k ≡ n = omega (arith, lt, ge) in
    let full = one_if_in (b k) (ap b last ∙ is) in
    ap a (sym last) ∙ in_if_one (a k) (omega (arith, le, y, full)))
    (cases_lt n k)

-- as many numbers as there are, are all
all_in : (a : ℕ → Bool) (k : ℕ) → k ≤ tally a k → (n : ℕ) → n < k → a n ≡ true
unfolding tally
all_in a zero le n lt = let h : ⊥ = omega (arith, lt) in absurd h
all_in a (suc k) le n lt =
    let x = one_most (a k) in
    let y = tally_most a k in
    ⊎_elim
    (λ less. all_in a k (omega (arith, le, x)) n less)
    (λ ge. let last : k ≡ n = omega (arith, lt, ge) in ap a (sym last) ∙ in_if_one (a k) (omega (arith, le, y)))
    (cases_lt n k)

-- ---- rounds

module _
    (next : (ℕ → Bool) → ℕ → Bool)
    (count : ℕ)
    (rises : (a b : ℕ → Bool) → Within a b → Within (next a) (next b))
    (past : (a : ℕ → Bool) (n : ℕ) → count ≤ n → next a n ≡ false)
    (round : ℕ → ℕ → Bool)
    (first : (n : ℕ) → round 0 n ≡ false)
    (after : (m n : ℕ) → round (suc m) n ≡ next (round m) n)
  where
    -- what a round has, the next one has
    kept : (m : ℕ) → Within (round m) (round (suc m))
    kept zero n is = absurd (false≢true (sym (first n) ∙ is))
    kept (suc m) n is = after (suc m) n ∙ rises (round m) (round (suc m)) (kept m) n (sym (after m n) ∙ is)

    -- and each later one
    later : (j m : ℕ) → j ≤ m → Within (round j) (round m)
    later j zero le n is = let h : j ≡ 0 = omega (arith, le) in subst (λ (i : ℕ). round i n ≡ true) h is
    later j (suc m) le n is =
        ⊎_elim
        (λ less. kept m n (later j m (omega (arith, less)) n is))
        (λ ge. let h : j ≡ suc m = omega (arith, le, ge) in subst (λ (i : ℕ). round i n ≡ true) h is)
        (cases_lt j (suc m))

    none_past : (m n : ℕ) → count ≤ n → round m n ≡ false
    none_past zero n le = first n
    none_past (suc m) n le = after m n ∙ past (round m) n le

    -- a round after which none has more
    abbrev pub Settled : ℕ → Type 0
    Settled m = Within (round (suc m)) (round m)

    -- what is in a round that has settled is in all later ones, and nothing else
    settled_on : (m : ℕ) → Settled m → (k : ℕ) → Within (round (k + m)) (round m)
    settled_on m settled zero n is = subst (λ (j : ℕ). round j n ≡ true) (let h : 0 + m ≡ m = omega arith in h) is
    settled_on m settled (suc k) n is =
        let here : round (suc (k + m)) n ≡ true = subst (λ (j : ℕ). round j n ≡ true) (let h : suc k + m ≡ suc (k + m) = omega arith in h) is in
        settled n (after m n ∙ rises (round (k + m)) (round m) (settled_on m settled k) n (sym (after (k + m) n) ∙ here))

    either : (m : ℕ) → ((j : ℕ) × (j ≤ m) × Settled j) ⊎ (m ≤ tally (round m) count)
    either zero = inr (let h : 0 ≤ tally (round 0) count = omega arith in h)
    either (suc m) =
        ⊎_elim
        (λ found. inl (found.0, let h : found.0 ≤ suc m = omega (arith, found.1) in h, found.2))
        (λ many. ⊎_elim
        (λ less. inr (let h : suc m ≤ tally (round (suc m)) count = omega (arith, many, less) in h))
        (λ no. inl (
          m,
          let h : m ≤ suc m = omega arith in h,
          λ n is.
              ⊎_elim
              (λ inside. no_more (round m) (round (suc m)) (kept m) count no n inside is)
              (λ ge. absurd (false≢true (sym (none_past (suc m) n ge) ∙ is)))
              (cases_lt n count),
        ))
        (cases_lt (tally (round m) count) (tally (round (suc m)) count)))
        (either m)

    -- in as many rounds as there are numbers all has settled
    settles : Settled count
    settles =
        ⊎_elim
        (λ found. λ n is.
        let j = found.0 in
        let on : suc count ≡ (suc count - j) + j = omega (arith, found.1) in
        let low : round j n ≡ true = settled_on j found.2 (suc count - j) n (subst (λ (i : ℕ). round i n ≡ true) on is) in
        later j count found.1 n low)
        (λ many. λ n is.
        ⊎_elim
        (λ inside. all_in (round count) count many n inside)
        (λ ge. absurd (false≢true (sym (none_past (suc count) n ge) ∙ is)))
        (cases_lt n count))
        (either count)

    -- ---- sets between

    -- nothing but what is reached
    abbrev pub Sound : (ℕ → Bool) → Type 0
    Sound a = Within a (round count)

    pub stays_sound : (a : ℕ → Bool) → Sound a → Sound (next a)
    stays_sound a sound n is = settles n (after count n ∙ rises a (round count) sound n is)

    pub goes_on : (a : ℕ → Bool) (m : ℕ) → Within (round m) a → Within (round (suc m)) (next a)
    goes_on a m all n is = rises (round m) a all n (sym (after m n) ∙ is)

    within_fixed : (a : ℕ → Bool) → ((n : ℕ) → a n ≡ next a n) → (m : ℕ) → Within (round m) a
    within_fixed a same zero n is = absurd (false≢true (sym (first n) ∙ is))
    within_fixed a same (suc m) n is = same n ∙ goes_on a m (within_fixed a same m) n is

    pub fixed : (a : ℕ → Bool) → Sound a → ((n : ℕ) → a n ≡ next a n) → (n : ℕ) → a n ≡ round count n
    fixed a sound same n = both_ways (a n) (round count n) (sound n) (within_fixed a same count n)

    pub all_rounds : (a : ℕ → Bool) → Sound a → Within (round count) a → (n : ℕ) → a n ≡ round count n
    all_rounds a sound all n = both_ways (a n) (round count n) (sound n) (all n)
