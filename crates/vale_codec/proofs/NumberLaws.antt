-- The laws of numbers, lists, texts and choices.
use Rattle.std.proofs.Common.{◌≡◌, ℕ, zero, suc, ◌+◌, ◌-◌, ◌*◌, ◌/◌, ◌%◌, ◌<◌, ◌≤◌, Bool, true, false, cond, ltb, leb, ◌&&◌, List, [], ◌∷◌, ◌++◌, length, Option, Some, None, Ok, Err, refl, sym, ap, ap₂, subst, ◌∙◌, arith, inl, inr, ◌⊎◌}
use Rattle.std.specs.List.{flat_map}
use Rattle.std.proofs.lemmas.Bool.{cases_lt, lt-ltb, le-ltb, ltb-true, leb-true, le-leb, and_parts, cases_Bool}
use Rattle.std.proofs.lemmas.List.{append_cancel_right}
use Rattle.vale_codec.specs.declared.fault.Fault.{Fault}
use Rattle.vale_codec.specs.declared.fault.Reason.TheVariants.{Ends, Number}
use Rattle.vale_codec.specs.Format.{Format, Begins, followed, made, many, byte_string, pick}
use Rattle.vale_codec.specs.Numbers.{spell_by, spell, Group, lower, group_at, judged, number_read, IsUnended, IsGroup, number, largest_word, list_of, text, choice}
use Rattle.vale_codec.proofs.FormatLaws.{IsBytes, Lawful, ok_is, followed_lawful, made_lawful, byte_string_lawful, many_lawful, IsCase, AreCases, picked_lawful, picked_tagged}

spell_small : (k n : ℕ) → n < 128 → spell_by k n ≡ n ∷ []
unfolding spell_by
spell_small zero n lt = refl
spell_small (suc k) n lt = rw (lt-ltb n 128 lt) refl

spell_large : (k n : ℕ) → 128 ≤ n → spell_by (suc k) n ≡ (n % 128 + 128) ∷ spell_by k (n / 128)
unfolding spell_by
spell_large k n le = rw (le-ltb n 128 le) refl

-- how many steps are left doesn't matter, where they suffice
same_spelling : (j k n : ℕ) → n ≤ j → n ≤ k → spell_by j n ≡ spell_by k n
same_spelling zero k n le lf = let lt : n < 128 = omega arith in spell_small zero n lt ∙ sym (spell_small k n lt)
same_spelling (suc j) zero n le lf = let lt : n < 128 = omega arith in spell_small (suc j) n lt ∙ sym (spell_small zero n lt)
same_spelling (suc j) (suc k) n le lf =
    elim (cases_lt n 128) [
      | inl lt ↦ spell_small (suc j) n lt ∙ sym (spell_small (suc k) n lt)
      | inr ge ↦
          let low : n / 128 ≤ j = omega arith in
          let high : n / 128 ≤ k = omega arith in
          spell_large j n ge ∙ ap (λ (t : List ℕ). (n % 128 + 128) ∷ t) (same_spelling j k (n / 128) low high) ∙ sym (spell_large k n ge)
    ]

-- the first byte of a longer number, and the rest
pub spell_step : (n : ℕ) → 128 ≤ n → spell n ≡ (n % 128 + 128) ∷ spell (n / 128)
spell_step zero ge = absurd (omega arith)
spell_step (suc k) ge =
    let low : suc k / 128 ≤ k = omega arith in
    spell_large k (suc k) ge ∙ ap (λ (t : List ℕ). (suc k % 128 + 128) ∷ t) (same_spelling k (suc k / 128) (suc k / 128) low (omega arith))

pub spell_last : (n : ℕ) → n < 128 → spell n ≡ n ∷ []
spell_last n lt = spell_small n n lt

-- the spelling of a number with one more byte in front
spell_grown : (b v k : ℕ) → 128 ≤ b → b < 256 → 0 < v → b - 128 + 128 * v ≤ suc k → spell_by (suc k) (b - 128 + 128 * v) ≡ b ∷ spell_by k v
spell_grown b v k ge lt pos le =
    let n = b - 128 + 128 * v in
    let low : n % 128 + 128 ≡ b = omega arith in
    let high : n / 128 ≡ v = omega arith in
    let big : 128 ≤ n = omega arith in
    spell_large k n big ∙ ap₂ (λ (x y : ℕ). x ∷ spell_by k y) low high

grown : (b k w v : ℕ) (bytes tail rest : List ℕ) → w ≡ b - 128 + 128 * v → rest ≡ tail → 128 ≤ b → b < 256 → 0 < v → b - 128 + 128 * v ≤ suc k → bytes ≡ spell_by k v ++ tail → b ∷ bytes ≡ spell_by (suc k) w ++ rest
grown b k w v bytes tail rest ew er ge lt pos le e =
    ap (λ (t : List ℕ). b ∷ t) e ∙ ap₂ (λ (t r : List ℕ). t ++ r) (sym (spell_grown b v k ge lt pos le) ∙ ap (spell_by (suc k)) (sym ew)) (sym er)

pub group_none : group_at [] ≡ None
unfolding group_at
group_none = refl

pub group_small : (b : ℕ) (bytes : List ℕ) → b < 128 → group_at (b ∷ bytes) ≡ Some (record { worth = b; shortest = true; rest = bytes })
unfolding group_at
group_small b bytes lt = rw (lt-ltb b 128 lt) refl

pub group_large : (b : ℕ) (bytes : List ℕ) → 128 ≤ b → group_at (b ∷ bytes) ≡ lower b (group_at bytes)
unfolding group_at
group_large b bytes le = rw (le-ltb b 128 le) refl

pub lower_some : (b : ℕ) (o : Option Group) (g : Group) → lower b o ≡ Some g → (h : Group) × (o ≡ Some h) × (g.worth ≡ b - 128 + 128 * h.worth) × (g.shortest ≡ (h.shortest && ltb 0 h.worth)) × (g.rest ≡ h.rest)
lower_some b None g e = absurd cc
lower_some b (Some h) g e =
    let made : Group = record { worth = b - 128 + 128 * h.worth; shortest = h.shortest && ltb 0 h.worth; rest = h.rest } in
    let f : made ≡ g = cc in
    (h, refl, ap (λ (x : Group). x.worth) (sym f), ap (λ (x : Group). x.shortest) (sym f), ap (λ (x : Group). x.rest) (sym f))

lower_none : (b : ℕ) (o : Option Group) → lower b o ≡ None → o ≡ None
lower_none b None e = refl
lower_none b (Some h) e = absurd cc

some_small : (b : ℕ) (bytes : List ℕ) (g : Group) → b < 128 → group_at (b ∷ bytes) ≡ Some g → (g.worth ≡ b) × (g.shortest ≡ true) × (g.rest ≡ bytes)
some_small b bytes g lt e =
    let made : Group = record { worth = b; shortest = true; rest = bytes } in
    let h : Some made ≡ Some g = sym (group_small b bytes lt) ∙ e in
    let f : made ≡ g = cc in
    (ap (λ (x : Group). x.worth) (sym f), ap (λ (x : Group). x.shortest) (sym f), ap (λ (x : Group). x.rest) (sym f))

-- a shortest form is the spelling
group_takes : (bytes : List ℕ) (k : ℕ) (g : Group) → IsBytes bytes → group_at bytes ≡ Some g → g.shortest ≡ true → g.worth ≤ k → bytes ≡ spell_by k g.worth ++ g.rest
group_takes [] k g fits e s le = absurd (let h = group_none in cc)
group_takes (b ∷ bytes) zero g fits e s le =
    elim (cases_lt b 128) [
      | inl lt ↦ let p = some_small b bytes g lt e in rw (p.0, p.2, spell_small zero b lt) refl
      | inr ge ↦
          let p = lower_some b (group_at bytes) g (sym (group_large b bytes ge) ∙ e) in
          let q = and_parts p.0.shortest (ltb 0 p.0.worth) (sym p.3 ∙ s) in
          absurd (omega (arith, ltb-true 0 p.0.worth q.1, p.2, le))
    ]
group_takes (b ∷ bytes) (suc k) g fits e s le =
    elim (cases_lt b 128) [
      | inl lt ↦ let p = some_small b bytes g lt e in rw (p.0, p.2, spell_small (suc k) b lt) refl
      | inr ge ↦
          let p = lower_some b (group_at bytes) g (sym (group_large b bytes ge) ∙ e) in
          let q = and_parts p.0.shortest (ltb 0 p.0.worth) (sym p.3 ∙ s) in
          let pos = ltb-true 0 p.0.worth q.1 in
          let below : p.0.worth ≤ k = omega (arith, pos, p.2, le) in
          let small : b - 128 + 128 * p.0.worth ≤ suc k = omega (arith, p.2, le) in
          let tail = group_takes bytes k p.0 fits.1 p.1 q.0 below in
          grown b k g.worth p.0.worth bytes p.0.rest g.rest p.2 p.4 ge fits.0 pos small tail
    ]

-- and the spelling is a shortest form
group_again : (k n : ℕ) (rest : List ℕ) → n ≤ k → group_at (spell_by k n ++ rest) ≡ Some (record { worth = n; shortest = true; rest = rest })
group_again zero n rest le =
    let lt : n < 128 = omega arith in
    rw (spell_small zero n lt) (group_small n rest lt)
group_again (suc k) n rest le =
    elim (cases_lt n 128) [
      | inl lt ↦ rw (spell_small (suc k) n lt) (group_small n rest lt)
      | inr ge ↦
          let low : n / 128 ≤ k = omega arith in
          let pos : 0 < n / 128 = omega arith in
          let worth : n % 128 + 128 - 128 + 128 * (n / 128) ≡ n = omega arith in
          rw (spell_large k n ge)
          (group_large (n % 128 + 128) (spell_by k (n / 128) ++ rest) (omega arith)
          ∙ ap (lower (n % 128 + 128)) (group_again k (n / 128) rest low)
          ∙ ap₂ (λ (w : ℕ) (t : Bool). Some (record { worth = w; shortest = t; rest = rest })) worth (lt-ltb 0 (n / 128) pos))
    ]

-- a group has a worth, whatever follows it
group_there : (here rest : List ℕ) → IsGroup here → (g : Group) × (group_at (here ++ rest) ≡ Some g) × (g.rest ≡ rest)
group_there [] rest h = absurd h
group_there (b ∷ here) rest (inl h) = (record { worth = b; shortest = true; rest = here ++ rest }, group_small b (here ++ rest) h.0, ap (λ (t : List ℕ). t ++ rest) h.1)
group_there (b ∷ here) rest (inr h) =
    let t = group_there here rest h.1 in
    (record { worth = b - 128 + 128 * t.0.worth; shortest = t.0.shortest && ltb 0 t.0.worth; rest = t.0.rest }, group_large b (here ++ rest) h.0 ∙ ap (lower b) t.1, t.2)

-- and what has a worth begins with a group
group_parts : (bytes : List ℕ) (g : Group) → group_at bytes ≡ Some g → (here : List ℕ) × (bytes ≡ here ++ g.rest) × IsGroup here
group_parts [] g e = absurd (let h = group_none in cc)
group_parts (b ∷ bytes) g e =
    elim (cases_lt b 128) [
      | inl lt ↦ let p = some_small b bytes g lt e in (b ∷ [], ap (λ (t : List ℕ). b ∷ t) (sym p.2), inl (lt, refl))
      | inr ge ↦
          let p = lower_some b (group_at bytes) g (sym (group_large b bytes ge) ∙ e) in
          let t = group_parts bytes p.0 p.1 in
          (b ∷ t.0, ap (λ (x : List ℕ). b ∷ x) (t.1 ∙ ap (λ (r : List ℕ). t.0 ++ r) (sym p.4)), inr (ge, t.2))
    ]

unended : (bytes : List ℕ) → group_at bytes ≡ None → IsUnended bytes
unended [] e = tt
unended (b ∷ bytes) e =
    elim (cases_lt b 128) [
      | inl lt ↦ absurd (let h = group_small b bytes lt in cc)
      | inr ge ↦ (ge, unended bytes (lower_none b (group_at bytes) (sym (group_large b bytes ge) ∙ e)))
    ]

pub no_group : (bytes : List ℕ) → IsUnended bytes → group_at bytes ≡ None
no_group [] h = group_none
no_group (b ∷ bytes) h = group_large b bytes h.0 ∙ ap (lower b) (no_group bytes h.1)

judged_ok : (limit left : ℕ) (o : Option Group) (x : ℕ × List ℕ) → judged limit left o ≡ Ok x → (g : Group) × (o ≡ Some g) × (g.shortest ≡ true) × (g.worth ≤ limit) × ((g.worth, g.rest) ≡ x)
judged_ok limit left None x e = absurd cc
judged_ok limit left (Some g) x e =
    elim (cases_Bool (g.shortest && leb g.worth limit)) [
      | inl t ↦ let h = rw t at e in let p = and_parts g.shortest (leb g.worth limit) t in (g, refl, p.0, leb-true g.worth limit p.1, ok_is (g.worth, g.rest) x h)
      | inr t ↦ absurd (let h = rw t at e in cc)
    ]

judged_err : (limit left : ℕ) (o : Option Group) (d : Fault) → judged limit left o ≡ Err d → ((o ≡ None) × (record { reason = Ends; left = 0 } ≡ d)) ⊎ ((g : Group) × (o ≡ Some g) × ((g.shortest && leb g.worth limit) ≡ false) × (record { reason = Number; left = left } ≡ d))
judged_err limit left None d e = inl (refl, cc)
judged_err limit left (Some g) d e =
    elim (cases_Bool (g.shortest && leb g.worth limit)) [
      | inl t ↦ absurd (let h = rw t at e in cc)
      | inr t ↦ let h = rw t at e in inr (g, refl, t, cc)
    ]

pub read_is : (limit : ℕ) (bytes : List ℕ) → number_read limit bytes ≡ judged limit (length bytes) (group_at bytes)
unfolding number_read
read_is limit bytes = refl

number_again : (limit n : ℕ) (rest : List ℕ) → n ≤ limit → number_read limit (spell n ++ rest) ≡ Ok (n, rest)
number_again limit n rest le =
    read_is limit (spell n ++ rest)
    ∙ ap (judged limit (length (spell n ++ rest))) (group_again n n rest (omega arith))
    ∙ ap (λ (t : Bool). cond t (Ok (n, rest)) (Err (record { reason = Number; left = length (spell n ++ rest) }))) (le-leb n limit le)

-- what is no shortest form of a number up to the limit
number_wrong : (limit : ℕ) (bytes here rest : List ℕ) → IsBytes bytes → bytes ≡ here ++ rest → IsGroup here → ((n : ℕ) → n ≤ limit → here ≡ spell n → ⊥) → number_read limit bytes ≡ Err (record { reason = Number; left = length bytes })
number_wrong limit bytes here rest fits parts group bad =
    let t = group_there here rest group in
    let g = t.0 in
    let at : group_at bytes ≡ Some g = ap group_at parts ∙ t.1 in
    elim (cases_Bool (g.shortest && leb g.worth limit)) [
      | inl good ↦
          let p = and_parts g.shortest (leb g.worth limit) good in
          let whole : bytes ≡ spell g.worth ++ g.rest = group_takes bytes g.worth g fits at p.0 (omega arith) in
          let e : here ++ rest ≡ spell g.worth ++ rest = sym parts ∙ whole ∙ ap (λ (r : List ℕ). spell g.worth ++ r) t.2 in
          absurd (bad g.worth (leb-true g.worth limit p.1) (append_cancel_right here (spell g.worth) rest e))
      | inr good ↦
          read_is limit bytes ∙ ap (judged limit (length bytes)) at
          ∙ ap (λ (t : Bool). cond t (Ok (g.worth, g.rest)) (Err (record { reason = Number; left = length bytes }))) good
    ]

pub number_lawful : (limit : ℕ) → Lawful (number limit)
number_lawful limit = record {
  takes = λ bytes x fits e.
      let j = judged_ok limit (length bytes) (group_at bytes) x (sym (read_is limit bytes) ∙ e) in
      subst (λ (y : ℕ × List ℕ). Begins (number limit) bytes y.0 y.1) j.4 (record { fits = j.3; parts = group_takes bytes j.0.worth j.0 fits j.1 j.2 (omega arith) });
  again = λ n rest fits. number_again limit n rest fits;
  met = λ bytes e fits h.
      elim (judged_err limit (length bytes) (group_at bytes) e (sym (read_is limit bytes) ∙ h)) [
        | inl n ↦ inl (unended bytes n.0, sym n.1)
        | inr n ↦
            let p = group_parts bytes n.0 n.1 in
            inr (
              p.0,
              n.0.rest,
              p.1,
              p.2,
              λ k le spelled.
                  absurd (let again : number_read limit bytes ≡ Ok (k, n.0.rest) = ap (number_read limit) (p.1 ∙ ap (λ (t : List ℕ). t ++ n.0.rest) spelled) ∙ number_again limit k n.0.rest le in cc),
              sym n.3,
            )
      ];
  fault = λ bytes e fits h.
      elim h [
        | inl n ↦ read_is limit bytes ∙ ap (judged limit (length bytes)) (no_group bytes n.0) ∙ ap (λ (d : Fault). Err d) (sym n.1)
        | inr n ↦ number_wrong limit bytes n.0 n.1 fits n.2 n.3 n.4 ∙ ap (λ (d : Fault). Err d) (sym n.5)
      ];
  near = λ bytes e h.
      elim h [
        | inl n ↦ let k : e.left ≡ 0 = ap (λ (d : Fault). d.left) n.1 in omega arith
        | inr n ↦ let k : e.left ≡ length bytes = ap (λ (d : Fault). d.left) n.5 in omega arith
      ];
}

pub list_lawful : {A : Type 0} (f : Format A) → Lawful f → Lawful (list_of f)
list_lawful {A} f lf = made_lawful (followed (number largest_word) (many f)) (λ p. p.1) (λ xs. spell (length xs) ++ flat_map f.write xs)
    (followed_lawful (number largest_word) (many f) (number_lawful largest_word) (λ n. many_lawful f lf n))
    (λ p fits. ap (λ (n : ℕ). spell n ++ flat_map f.write p.1) fits.1.0)

pub text_lawful : Lawful text
text_lawful = made_lawful (followed (number largest_word) byte_string) (λ p. p.1) (λ bytes. spell (length bytes) ++ bytes)
    (followed_lawful (number largest_word) byte_string (number_lawful largest_word) byte_string_lawful)
    (λ p fits. ap (λ (n : ℕ). spell n ++ p.1) fits.1)

pub choice_lawful : {A : Type 0} (last : ℕ) (forms : List (Format A)) (tag : A → ℕ) (payload : A → List ℕ) → AreCases tag payload 0 forms → Lawful (choice last forms tag payload)
choice_lawful last forms tag payload cases = made_lawful (followed (number last) (pick forms)) (λ p. p.1) (λ x. spell (tag x) ++ payload x)
    (followed_lawful (number last) (pick forms) (number_lawful last) (picked_lawful tag payload 0 forms cases))
    (λ p fits. let t = picked_tagged tag payload 0 forms cases p.0 p.1 fits.1 in
    ap₂ (λ (n : ℕ) (text : List ℕ). spell n ++ text) (t.0 ∙ omega arith) (sym t.1))

pub made_case : {A B : Type 0} (f : Format A) (make : A → B) (tag : B → ℕ) (payload : B → List ℕ) (n : ℕ) → Lawful f → ((x : A) → payload (make x) ≡ f.write x) → ((x : A) → tag (make x) ≡ n) → IsCase (made f make payload) tag payload n
made_case f make tag payload n lf same tagged = record {
  lawful = made_lawful f make payload lf (λ x _. same x);
  tagged = λ y fits. ap tag fits.1 ∙ tagged fits.0;
  writes = λ y. refl;
}
