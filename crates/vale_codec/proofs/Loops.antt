-- Reading values one after the other, as a loop does.
use Rattle.std.proofs.Common.{◌≡◌, ℕ, suc, ◌-◌, ◌+◌, ◌≤◌, ◌<◌, List, [], ◌∷◌, ◌++◌, Result, Ok, Err, refl, sym, ap, ◌∙◌, append_assoc, arith}
use Rattle.std.proofs.lemmas.List.{append-nil}
use Rattle.vale_base.specs.declared.fault.Fail.{Fail}
use Rattle.vale_base.specs.declared.fault.Fail.TheVariants as fails
use Rattle.vale_codec.specs.declared.fault.Fault.{Fault}
use Rattle.vale_codec.specs.Format.{Format, ◌>>=◌, Fails, many_read}

-- what was read before, and what is still read
abbrev pub with_front : {A : Type 0} → List A → Result (List A × List ℕ) Fault → Result (List A × List ℕ) Fault
with_front front read = read >>= λ x. Ok (front ++ x.0, x.1)

abbrev so_many : {A : Type 0} → List A → List ℕ → Result (List A × List ℕ) Fault
so_many xs rest = Ok (xs, rest)

regroup : {A : Type 0} (front : List A) (n : A) (read : Result (List A × List ℕ) Fault) → with_front front (read >>= λ x. Ok (n ∷ x.0, x.1)) ≡ with_front (front ++ n ∷ []) read
regroup {A} front n (Ok x) = ap (λ (ns : List A). so_many ns x.1) (simp append_assoc)
regroup front n (Err f) = refl

pub goes_on : {A : Type 0} (f : Format A) (front : List A) (count i : ℕ) (bytes : List ℕ) (n : A) (after : List ℕ) (total : Result (List A × List ℕ) Fault) → i < count → f.read bytes ≡ Ok (n, after)
    → with_front front (many_read f (count - i) bytes) ≡ total → with_front (front ++ n ∷ []) (many_read f (count - (i + 1)) after) ≡ total
unfolding many_read
goes_on f front count i bytes n after total lt h so_far =
    let k : count - i ≡ suc (count - (i + 1)) = omega arith in
    let one : with_front front (many_read f (count - i) bytes) ≡ with_front (front ++ n ∷ []) (many_read f (count - (i + 1)) after) = rw (k, h) (regroup front n (many_read f (count - (i + 1)) after)) in
    sym one ∙ so_far

pub ends : {A : Type 0} (f : Format A) (e : Fail Fault) (front : List A) (count i : ℕ) (bytes : List ℕ) (total : Result (List A × List ℕ) Fault) → i < count → Fails e (f.read bytes)
    → with_front front (many_read f (count - i) bytes) ≡ total → Fails e total
unfolding many_read
ends f fails.Memory front count i bytes total lt h so_far = tt
ends f (fails.Is d) front count i bytes total lt h so_far =
    let k : count - i ≡ suc (count - (i + 1)) = omega arith in
    let one : with_front front (many_read f (count - i) bytes) ≡ Err d = rw (k, h) refl in
    sym so_far ∙ one

pub is_done : {A : Type 0} (f : Format A) (front : List A) (count i : ℕ) (bytes : List ℕ) (total : Result (List A × List ℕ) Fault) → count ≤ i → with_front front (many_read f (count - i) bytes) ≡ total → total ≡ Ok (front, bytes)
unfolding many_read
is_done {A} f front count i bytes total le so_far =
    let k : count - i ≡ 0 = omega arith in
    let one : with_front front (many_read f (count - i) bytes) ≡ Ok (front, bytes) = rw k (ap (λ (ns : List A). so_many ns bytes) (append-nil front)) in
    sym so_far ∙ one

-- one step's answer through the steps after it
pub fails_on : {A B : Type 0} (e : Fail Fault) (r : Result A Fault) (f : A → Result B Fault) → Fails e r → Fails e (r >>= f)
fails_on fails.Memory r f h = tt
fails_on {A} {B} (fails.Is d) r f h = ap (λ (s : Result A Fault). s >>= f) h

pub reads_on : {A B : Type 0} (r : Result A Fault) (x : A) (f : A → Result B Fault) → r ≡ Ok x → (r >>= f) ≡ f x
reads_on {A} r x f h = ap (λ (s : Result A Fault). s >>= f) h
