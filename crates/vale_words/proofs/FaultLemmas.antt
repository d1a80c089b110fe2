-- The first fault of a list of words.
use Rattle.std.proofs.Common.{◌≡◌, ℕ, suc, ◌+◌, List, [], ◌∷◌, ◌++◌, length, refl, sym, ap, subst, ◌∙◌, append_assoc, append-nil, arith}
use Rattle.vale_words.specs.FirstFault.{Word, Begins, StopsAt, IsFirstFault}

-- the first word is wrong
pub at_first : (Lawful : List Word → Type 0) (word : Word) (more : List Word) → Begins Lawful [] → ((after : List Word) → Lawful (word ∷ after) → ⊥) → IsFirstFault Lawful (word ∷ more) 0
at_first Lawful word more begins none =
    record { front = []; back = word ∷ more; whole = refl; at = refl; begins = begins; stops = λ (after, lawful). none after lawful }

-- a word is missing
pub at_end : (Lawful : List Word → Type 0) → Begins Lawful [] → (Lawful [] → ⊥) → IsFirstFault Lawful [] 0
at_end Lawful begins none =
    record { front = []; back = []; whole = refl; at = refl; begins = begins; stops = none }

-- a fault after the first word
pub behind : (Lawful : List Word → Type 0) (word : Word) (more : List Word) (index : ℕ) → IsFirstFault (λ words. Lawful (word ∷ words)) more index → IsFirstFault Lawful (word ∷ more) (index + 1)
behind Lawful word more index fault =
    record {
      front = word ∷ fault.front;
      back = fault.back;
      whole = ap (λ ws. word ∷ ws) fault.whole;
      at = omega (arith, fault.at);
      begins = fault.begins;
      stops = stops_behind fault.front fault.back fault.stops;
    } where
      stops_behind : (front back : List Word) → StopsAt (λ words. Lawful (word ∷ words)) front back → StopsAt Lawful (word ∷ front) back
      stops_behind front [] stops = stops
      stops_behind front (w ∷ ws) stops = stops

-- the same of what is lawful in the same cases
pub same_fault : (L M : List Word → Type 0) (words : List Word) (index : ℕ) → ((ws : List Word) → L ws → M ws) → ((ws : List Word) → M ws → L ws) → IsFirstFault L words index → IsFirstFault M words index
same_fault L M words index to from fault =
    record {
      front = fault.front;
      back = fault.back;
      whole = fault.whole;
      at = fault.at;
      begins = (fault.begins.0, to (fault.front ++ fault.begins.0) fault.begins.1);
      stops = stops_too fault.front fault.back fault.stops;
    } where
      stops_too : (front back : List Word) → StopsAt L front back → StopsAt M front back
      stops_too front [] stops = λ m. stops (from front m)
      stops_too front (w ∷ ws) stops = λ (more, m). stops (more, from ((front ++ w ∷ []) ++ more) m)

-- words with a fault aren't lawful
pub unlawful : (Lawful : List Word → Type 0) (words : List Word) (index : ℕ) → IsFirstFault Lawful words index → Lawful words → ⊥
unlawful Lawful words index fault lawful = by_back fault.front fault.back (subst Lawful fault.whole lawful) fault.stops where
  by_back : (front back : List Word) → Lawful (front ++ back) → StopsAt Lawful front back → ⊥
  by_back front [] l stops = stops (subst Lawful (append-nil front) l)
  by_back front (w ∷ ws) l stops = stops (ws, subst Lawful (sym (append_assoc front (w ∷ []) ws)) l)

-- a front that begins a lawful list isn't longer than the one at a fault
same_front : (Lawful : List Word → Type 0) (front back other after : List Word) → front ++ back ≡ other ++ after → Begins Lawful front → StopsAt Lawful front back → Begins Lawful other → StopsAt Lawful other after → length front ≡ length other
same_front Lawful [] back [] after e b s c t = refl
same_front Lawful [] [] (w ∷ other) after e b s c t = absurd (cc e)
same_front Lawful [] (v ∷ back) (w ∷ other) after e b s (more, l) t =
    let first : v ≡ w = cc e in
    absurd (s (other ++ more, subst (λ z. Lawful (z ∷ (other ++ more))) (sym first) l))
same_front Lawful (v ∷ front) back [] [] e b s c t = absurd (cc e)
same_front Lawful (v ∷ front) back [] (w ∷ after) e (more, l) s c t =
    let first : v ≡ w = cc e in
    absurd (t (front ++ more, subst (λ z. Lawful (z ∷ (front ++ more))) first l))
same_front Lawful (v ∷ front) back (w ∷ other) after e b s c t =
    let first : v ≡ w = cc e in
    let more : front ++ back ≡ other ++ after = cc e in
    ap (λ n. suc n) (same_front (λ ws. Lawful (v ∷ ws)) front back other after more b (inside front back s) (subst (λ z. Begins Lawful (z ∷ other)) (sym first) c) (inside other after (subst (λ z. StopsAt Lawful (z ∷ other) after) (sym first) t))) where
      inside : (fs bs : List Word) → StopsAt Lawful (v ∷ fs) bs → StopsAt (λ ws. Lawful (v ∷ ws)) fs bs
      inside fs [] stops = stops
      inside fs (x ∷ xs) stops = stops

-- there is one first fault
pub one_fault : (Lawful : List Word → Type 0) (words : List Word) (i j : ℕ) → IsFirstFault Lawful words i → IsFirstFault Lawful words j → i ≡ j
one_fault Lawful words i j f g =
    f.at ∙ (same_front Lawful f.front f.back g.front g.back (sym f.whole ∙ g.whole) f.begins f.stops g.begins g.stops ∙ sym g.at)
