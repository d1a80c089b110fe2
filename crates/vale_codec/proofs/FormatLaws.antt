-- The laws of a format, and that each composition keeps them.
use Rattle.std.proofs.Common.{◌≡◌, ℕ, zero, suc, ◌+◌, ◌<◌, ◌≤◌, List, [], ◌∷◌, ◌++◌, length, take, drop, Result, Ok, Err, refl, sym, ap, subst, ◌∙◌, append_assoc, arith, inl, inr, ◌⊎◌}
use Rattle.std.specs.List.{flat_map, AllByRecursion}
use Rattle.std.proofs.lemmas.Bool.{cases_lt, lt-ltb, le-ltb}
use Rattle.std.proofs.lemmas.List.{take_at, drop_at, take-append-drop, length-append, length-take}
use Rattle.std.proofs.lemmas.List.Concat.{flat_map-cons}
use Rattle.vale_codec.specs.declared.fault.Fault.{Fault}
use Rattle.vale_codec.specs.declared.fault.Reason.{Reason}
use Rattle.vale_codec.specs.declared.fault.Reason.TheVariants.{Ends, Number}
use Rattle.vale_codec.specs.Format.{Format, ◌>>=◌, Begins, followed, made, nothing, never, byte_string, many_read, many, pick}

abbrev pub IsBytes : List ℕ → Type 0
IsBytes [] = Unit {0}
IsBytes (b ∷ bytes) = (b < 256) × IsBytes bytes

pub rest_is_bytes : (front rest : List ℕ) → IsBytes (front ++ rest) → IsBytes rest
rest_is_bytes [] rest h = h
rest_is_bytes (b ∷ front) rest h = rest_is_bytes front rest h.1

pub rest_of : (bytes front rest : List ℕ) → bytes ≡ front ++ rest → IsBytes bytes → IsBytes rest
rest_of bytes front rest e h = rest_is_bytes front rest (subst IsBytes e h)

-- the value of a step that did not fail
pub bind_ok : {A B : Type 0} (r : Result A Fault) (f : A → Result B Fault) (y : B) → (r >>= f) ≡ Ok y → (x : A) × (r ≡ Ok x) × (f x ≡ Ok y)
bind_ok (Ok x) f y e = (x, refl, e)
bind_ok (Err d) f y e = absurd cc

-- where two steps failed
pub bind_err : {A B : Type 0} (r : Result A Fault) (f : A → Result B Fault) (d : Fault) → (r >>= f) ≡ Err d → (r ≡ Err d) ⊎ ((x : A) × (r ≡ Ok x) × (f x ≡ Err d))
bind_err (Ok x) f d e = inr (x, refl, e)
bind_err (Err c) f d e = inl cc

abbrev done : {A : Type 0} → A → Result A Fault
done x = Ok x

pub ok_is : {A : Type 0} (x y : A) → done x ≡ done y → x ≡ y
ok_is x y e = cc

-- What is read is spelled so; what is spelled so is read; the fault that is met is the first; the first fault is met; and it
-- lies within the bytes.
pub record Lawful {A : Type 0} (f : Format A) : Type 0 where
  pub takes : (bytes : List ℕ) (x : A × List ℕ) → IsBytes bytes → f.read bytes ≡ Ok x → Begins f bytes x.0 x.1
  pub again : (x : A) (rest : List ℕ) → f.Fits x → f.read (f.write x ++ rest) ≡ Ok (x, rest)
  pub met : (bytes : List ℕ) (e : Fault) → IsBytes bytes → f.read bytes ≡ Err e → f.Faulty bytes e
  pub fault : (bytes : List ℕ) (e : Fault) → IsBytes bytes → f.Faulty bytes e → f.read bytes ≡ Err e
  pub near : (bytes : List ℕ) (e : Fault) → f.Faulty bytes e → e.left ≤ length bytes

-- what begins with a spelling is read
pub reads : {A : Type 0} (f : Format A) (l : Lawful f) (bytes : List ℕ) (x : A) (rest : List ℕ) → Begins f bytes x rest → f.read bytes ≡ Ok (x, rest)
reads f l bytes x rest b = ap f.read b.parts ∙ l.again x rest b.fits

-- One value is spelled so, and no spelling is a front of another.
pub one_value : {A : Type 0} (f : Format A) (l : Lawful f) (bytes : List ℕ) (x y : A) (a b : List ℕ) → Begins f bytes x a → Begins f bytes y b → (x ≡ y) × (a ≡ b)
one_value f l bytes x y a b p q =
    let e : (x, a) ≡ (y, b) = ok_is (x, a) (y, b) (sym (reads f l bytes x a p) ∙ reads f l bytes y b q) in
    (ap (λ (z : _ × List ℕ). z.0) e, ap (λ (z : _ × List ℕ). z.1) e)

-- Bytes begin with a spelling or have a fault
pub either_way : {A : Type 0} (f : Format A) (l : Lawful f) (bytes : List ℕ) → IsBytes bytes → ((x : A) × (rest : List ℕ) × Begins f bytes x rest) ⊎ ((e : Fault) × f.Faulty bytes e)
either_way f l bytes fits =
    elim (cases_result (f.read bytes)) [
      | inl h ↦ inl (h.0.0, h.0.1, l.takes bytes h.0 fits h.1)
      | inr h ↦ inr (h.0, l.met bytes h.0 fits h.1)
    ]
  where
    cases_result : {X : Type 0} (r : Result X Fault) → ((x : X) × (r ≡ Ok x)) ⊎ ((e : Fault) × (r ≡ Err e))
    cases_result (Ok x) = inl (x, refl)
    cases_result (Err e) = inr (e, refl)

-- and never both, nor two faults
pub not_both : {A : Type 0} (f : Format A) (l : Lawful f) (bytes : List ℕ) (x : A) (rest : List ℕ) (e : Fault) → IsBytes bytes → Begins f bytes x rest → f.Faulty bytes e → ⊥
not_both f l bytes x rest e fits p q = let a = reads f l bytes x rest p in let b = l.fault bytes e fits q in absurd cc

pub one_fault : {A : Type 0} (f : Format A) (l : Lawful f) (bytes : List ℕ) (d e : Fault) → IsBytes bytes → f.Faulty bytes d → f.Faulty bytes e → d ≡ e
one_fault f l bytes d e fits p q = let a = l.fault bytes d fits p in let b = l.fault bytes e fits q in cc

-- ---- compositions

at_end : (reason : Reason) (n : ℕ) (e : Fault) → record { reason = reason; left = 0 } ≡ e → e.left ≤ n
at_end reason n e h = let k : e.left ≡ 0 = ap (λ (d : Fault). d.left) (sym h) in omega arith

pub shorter : {A : Type 0} (f : Format A) (bytes : List ℕ) (x : A) (rest : List ℕ) → Begins f bytes x rest → length rest ≤ length bytes
shorter f bytes x rest b = let k : length bytes ≡ length (f.write x) + length rest = ap length b.parts ∙ length-append (f.write x) rest in omega arith

pub followed_lawful : {A B : Type 0} (f : Format A) (g : A → Format B) → Lawful f → ((x : A) → Lawful (g x)) → Lawful (followed f g)
followed_lawful {A} {B} f g lf lg = record {
  takes = λ bytes x fits e.
      let a = bind_ok (f.read bytes) (λ x. ((g x.0).read x.1 >>= λ y. Ok ((x.0, y.0), y.1))) x e in
      let b = bind_ok ((g a.0.0).read a.0.1) (λ y. Ok ((a.0.0, y.0), y.1)) x a.2 in
      let first = lf.takes bytes a.0 fits a.1 in
      let second = (lg a.0.0).takes a.0.1 b.0 (rest_of bytes (f.write a.0.0) a.0.1 first.parts fits) b.1 in
      let made : (A × B) × List ℕ = ((a.0.0, b.0.0), b.0.1) in
      subst (λ (y : (A × B) × List ℕ). Begins (followed f g) bytes y.0 y.1) (ok_is made x b.2) (record {
        fits = (first.fits, second.fits);
        parts = first.parts ∙ ap (λ (t : List ℕ). f.write a.0.0 ++ t) second.parts ∙ sym (append_assoc (f.write a.0.0) ((g a.0.0).write b.0.0) b.0.1);
      });
  again = λ p rest fits.
      let one : f.read ((f.write p.0 ++ (g p.0).write p.1) ++ rest) ≡ Ok (p.0, (g p.0).write p.1 ++ rest)
      = ap f.read (append_assoc (f.write p.0) ((g p.0).write p.1) rest) ∙ lf.again p.0 ((g p.0).write p.1 ++ rest) fits.0 in
      ap (λ (r : Result (A × List ℕ) Fault). r >>= λ x. ((g x.0).read x.1 >>= λ y. Ok ((x.0, y.0), y.1))) one
      ∙ ap (λ (r : Result (B × List ℕ) Fault). r >>= λ y. Ok ((p.0, y.0), y.1)) ((lg p.0).again p.1 rest fits.1);
  met = λ bytes e fits h.
      elim (bind_err (f.read bytes) (λ x. ((g x.0).read x.1 >>= λ y. Ok ((x.0, y.0), y.1))) e h) [
        | inl a ↦ inl (lf.met bytes e fits a)
        | inr a ↦
            let first = lf.takes bytes a.0 fits a.1 in
            elim (bind_err ((g a.0.0).read a.0.1) (λ y. Ok ((a.0.0, y.0), y.1)) e a.2) [
              | inl b ↦ inr (a.0.0, a.0.1, first, (lg a.0.0).met a.0.1 e (rest_of bytes (f.write a.0.0) a.0.1 first.parts fits) b)
              | inr b ↦ absurd (let c = b.2 in cc)
            ]
      ];
  fault = λ bytes e fits h.
      elim h [
        | inl a ↦ ap (λ (r : Result (A × List ℕ) Fault). r >>= λ x. ((g x.0).read x.1 >>= λ y. Ok ((x.0, y.0), y.1))) (lf.fault bytes e fits a)
        | inr a ↦
            ap (λ (r : Result (A × List ℕ) Fault). r >>= λ x. ((g x.0).read x.1 >>= λ y. Ok ((x.0, y.0), y.1))) (reads f lf bytes a.0 a.1 a.2)
            ∙ ap (λ (r : Result (B × List ℕ) Fault). r >>= λ y. Ok ((a.0, y.0), y.1)) ((lg a.0).fault a.1 e (rest_of bytes (f.write a.0) a.1 a.2.parts fits) a.3)
      ];
  near = λ bytes e h.
      elim h [
        | inl a ↦ lf.near bytes e a
        | inr a ↦ let k = (lg a.0).near a.1 e a.3 in let j = shorter f bytes a.0 a.1 a.2 in omega arith
      ];
}

pub made_lawful : {A B : Type 0} (f : Format A) (make : A → B) (write : B → List ℕ) → Lawful f → ((x : A) → f.Fits x → write (make x) ≡ f.write x) → Lawful (made f make write)
made_lawful {A} {B} f make write lf same = record {
  takes = λ bytes y fits e.
      let a = bind_ok (f.read bytes) (λ x. Ok (make x.0, x.1)) y e in
      let first = lf.takes bytes a.0 fits a.1 in
      let result : B × List ℕ = (make a.0.0, a.0.1) in
      subst (λ (y : B × List ℕ). Begins (made f make write) bytes y.0 y.1) (ok_is result y a.2) (record {
        fits = (a.0.0, refl, first.fits);
        parts = first.parts ∙ ap (λ (t : List ℕ). t ++ a.0.1) (sym (same a.0.0 first.fits));
      });
  again = λ y rest fits.
      let text : write y ≡ f.write fits.0 = ap write fits.1 ∙ same fits.0 fits.2 in
      ap (λ (t : List ℕ). f.read (t ++ rest) >>= λ x. Ok (make x.0, x.1)) text
      ∙ ap (λ (r : Result (A × List ℕ) Fault). r >>= λ x. Ok (make x.0, x.1)) (lf.again fits.0 rest fits.2)
      ∙ ap (λ (z : B). Ok (z, rest)) (sym fits.1);
  met = λ bytes e fits h.
      elim (bind_err (f.read bytes) (λ x. Ok (make x.0, x.1)) e h) [
        | inl a ↦ lf.met bytes e fits a
        | inr a ↦ absurd (let c = a.2 in cc)
      ];
  fault = λ bytes e fits h. ap (λ (r : Result (A × List ℕ) Fault). r >>= λ x. Ok (make x.0, x.1)) (lf.fault bytes e fits h);
  near = lf.near;
}

pub nothing_lawful : Lawful nothing
nothing_lawful = record {
  takes = λ bytes x fits e. subst (λ (y : Unit {0} × List ℕ). Begins nothing bytes y.0 y.1) (ok_is (tt, bytes) x e) (record { fits = tt; parts = refl });
  again = λ x rest fits. refl;
  met = λ bytes e fits h. absurd cc;
  fault = λ bytes e fits h. absurd h;
  near = λ bytes e h. absurd h;
}

pub never_lawful : {A : Type 0} → Lawful (never {A = A})
never_lawful {A} = record {
  takes = λ bytes x fits e. absurd cc;
  again = λ x rest fits. absurd fits;
  met = λ bytes e fits h. cc;
  fault = λ bytes e fits h. cc;
  near = λ bytes e h. at_end Number (length bytes) e h;
}

pub byte_string_lawful : (n : ℕ) → Lawful (byte_string n)
byte_string_lawful n = record {
  takes = λ bytes x fits e.
      elim (cases_lt (length bytes) n) [
        | inl lt ↦ absurd (let h = rw (lt-ltb (length bytes) n lt) at e in cc)
        | inr le ↦
            let h = rw (le-ltb (length bytes) n le) at e in
            subst (λ (y : List ℕ × List ℕ). Begins (byte_string n) bytes y.0 y.1) (ok_is (take n bytes, drop n bytes) x h)
            (record { fits = omega (arith, length-take n bytes); parts = sym (take-append-drop n bytes) })
      ];
  again = λ x rest fits.
      let le : n ≤ length (x ++ rest) = omega (arith, length-append x rest) in
      rw (le-ltb (length (x ++ rest)) n le, take_at x rest n fits, drop_at x rest n fits) refl;
  met = λ bytes e fits h.
      elim (cases_lt (length bytes) n) [
        | inl lt ↦ let k = rw (lt-ltb (length bytes) n lt) at h in (lt, cc)
        | inr le ↦ absurd (let k = rw (le-ltb (length bytes) n le) at h in cc)
      ];
  fault = λ bytes e fits h. rw (lt-ltb (length bytes) n h.0) (ap (λ (d : Fault). Err d) h.1);
  near = λ bytes e h. at_end Ends (length bytes) e h.1;
}

abbrev one_more : {A : Type 0} → Format A → ℕ → Result (A × List ℕ) Fault → Result (List A × List ℕ) Fault
one_more f n r = r >>= λ x. (many_read f n x.1 >>= λ xs. Ok (x.0 ∷ xs.0, xs.1))

abbrev paired : {A : Type 0} → A → Result (List A × List ℕ) Fault → Result ((A × List A) × List ℕ) Fault
paired x r = r >>= λ y. Ok ((x, y.0), y.1)

abbrev consed : {A : Type 0} → Result ((A × List A) × List ℕ) Fault → Result (List A × List ℕ) Fault
consed r = r >>= λ p. Ok (p.0.0 ∷ p.0.1, p.1)

abbrev one_pair : {A : Type 0} → Format A → ℕ → Result (A × List ℕ) Fault → Result (List A × List ℕ) Fault
one_pair f n r = consed (r >>= λ x. paired x.0 (many_read f n x.1))

later : {A : Type 0} (x : A) (r : Result (List A × List ℕ) Fault) → consed (paired x r) ≡ (r >>= λ xs. Ok (x ∷ xs.0, xs.1))
later x (Ok y) = refl
later x (Err e) = refl

same_more : {A : Type 0} (f : Format A) (n : ℕ) (r : Result (A × List ℕ) Fault) → one_pair f n r ≡ one_more f n r
same_more f n (Ok x) = later x.0 (many_read f n x.1)
same_more f n (Err e) = refl

abbrev FitsPair : {A : Type 0} → Format A → ℕ → List A → Type 0
FitsPair {A} f n xs = (p : A × List A) × (xs ≡ p.0 ∷ p.1) × (f.Fits p.0 × ((length p.1 ≡ n) × AllByRecursion f.Fits p.1))

to_pair : {A : Type 0} (f : Format A) (n : ℕ) (xs : List A) → (length xs ≡ suc n) × AllByRecursion f.Fits xs → FitsPair f n xs
to_pair f n [] h = absurd (let e = h.0 in cc)
to_pair f n (x ∷ xs) h = let e : length xs ≡ n = let e = h.0 in cc in ((x, xs), refl, (h.1.0, (e, h.1.1)))

from_pair : {A : Type 0} (f : Format A) (n : ℕ) (xs : List A) → FitsPair f n xs → (length xs ≡ suc n) × AllByRecursion f.Fits xs
from_pair {A} f n xs h = subst (λ (ys : List A). (length ys ≡ suc n) × AllByRecursion f.Fits ys) (sym h.1) (ap suc h.2.1.0, (h.2.0, h.2.1.1))

none_read : {A : Type 0} (f : Format A) (x : List A) (rest : List ℕ) → length x ≡ 0 → many_read f 0 (flat_map f.write x ++ rest) ≡ Ok (x, rest)
unfolding many_read
none_read f [] rest e = refl
none_read f (y ∷ x) rest e = absurd cc

pub many_lawful : {A : Type 0} (f : Format A) → Lawful f → (n : ℕ) → Lawful (many f n)
unfolding many_read
many_lawful {A} f lf zero = record {
  takes = λ bytes x fits e. subst (λ (y : List A × List ℕ). Begins (many f 0) bytes y.0 y.1) (ok_is ([], bytes) x e) (record { fits = (refl, tt); parts = refl });
  again = λ x rest fits. none_read f x rest fits.0;
  met = λ bytes e fits h. absurd cc;
  fault = λ bytes e fits h. absurd h;
  near = λ bytes e h. absurd h;
}
many_lawful {A} f lf (suc n) =
    let here : Lawful (made (followed f (λ _. many f n)) (λ p. p.0 ∷ p.1) (λ xs. flat_map f.write xs)) =
    made_lawful (followed f (λ _. many f n)) (λ p. p.0 ∷ p.1) (λ xs. flat_map f.write xs) (followed_lawful f (λ _. many f n) lf (λ _. many_lawful f lf n)) (λ p _. flat_map-cons f.write p.0 p.1) in
    record {
      takes = λ bytes x fits e.
          let b = here.takes bytes x fits (same_more f n (f.read bytes) ∙ e) in
          record { fits = from_pair f n x.0 b.fits; parts = b.parts };
      again = λ x rest fits. sym (same_more f n (f.read (flat_map f.write x ++ rest))) ∙ here.again x rest (to_pair f n x fits);
      met = λ bytes e fits h. here.met bytes e fits (same_more f n (f.read bytes) ∙ h);
      fault = λ bytes e fits h. sym (same_more f n (f.read bytes)) ∙ here.fault bytes e fits h;
      near = here.near;
    }

-- ---- a choice among forms

-- A form of the values with this tag, that spells them as payload says.
pub record IsCase {A : Type 0} (f : Format A) (tag : A → ℕ) (payload : A → List ℕ) (n : ℕ) : Type 0 where
  pub lawful : Lawful f
  pub tagged : (x : A) → f.Fits x → tag x ≡ n
  pub writes : (x : A) → f.write x ≡ payload x

abbrev pub AreCases : {A : Type 0} → (A → ℕ) → (A → List ℕ) → ℕ → List (Format A) → Type 0
AreCases tag payload n [] = Unit {0}
AreCases tag payload n (f ∷ fs) = IsCase f tag payload n × AreCases tag payload (suc n) fs

pub picked_lawful : {A : Type 0} (tag : A → ℕ) (payload : A → List ℕ) (n : ℕ) (fs : List (Format A)) → AreCases tag payload n fs → (k : ℕ) → Lawful (pick fs k)
picked_lawful tag payload n [] h k = never_lawful
picked_lawful tag payload n (f ∷ fs) h zero = h.0.lawful
picked_lawful tag payload n (f ∷ fs) h (suc k) = picked_lawful tag payload (suc n) fs h.1 k

pub picked_tagged : {A : Type 0} (tag : A → ℕ) (payload : A → List ℕ) (n : ℕ) (fs : List (Format A)) → AreCases tag payload n fs → (k : ℕ) (x : A) → (pick fs k).Fits x → (tag x ≡ n + k) × ((pick fs k).write x ≡ payload x)
picked_tagged tag payload n [] h k x fits = absurd fits
picked_tagged tag payload n (f ∷ fs) h zero x fits = (h.0.tagged x fits ∙ omega arith, h.0.writes x)
picked_tagged tag payload n (f ∷ fs) h (suc k) x fits = let a = picked_tagged tag payload (suc n) fs h.1 k x fits in (a.0 ∙ omega arith, a.1)
