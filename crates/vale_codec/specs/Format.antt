-- A format says how the values of a type stand in a file. It is stated once for each kind of field, and composed.
use Rattle.std.specs.Prelude.{◌≡◌, ℕ, zero, suc, ◌<◌, List, [], ◌∷◌, ◌++◌, length, take, drop, Result, Ok, Err, nat_lt, if◌then◌else◌, ◌⊎◌}
use Rattle.std.specs.List.{flat_map, AllByRecursion}
use Rattle.vale_base.specs.declared.fault.Fail.{Fail}
use Rattle.vale_base.specs.declared.fault.Fail.TheVariants as fails
use Rattle.vale_codec.specs.declared.fault.Fault.{Fault}
use Rattle.vale_codec.specs.declared.fault.Reason.TheVariants.{Ends, Number}

-- read: the value at the front and the bytes after it, or the first fault.
-- write: the spelling. Fits: which values have one.
-- Faulty: the bytes do not begin with a spelling, and this is their first fault.
pub record Format (A : Type 0) : Type 1 where
  pub read : List ℕ → Result (A × List ℕ) Fault
  pub write : A → List ℕ
  pub Fits : A → Type 0
  pub Faulty : List ℕ → Fault → Type 0

infixl 10 ◌>>=◌
abbrev pub ◌>>=◌ : {A B : Type 0} → Result A Fault → (A → Result B Fault) → Result B Fault
(Ok x) >>= f = f x
(Err e) >>= f = Err e

-- What a function returned, seen by view, is what reading gives, unless memory ran out.
abbrev pub Fails : {Y : Type 0} → Fail Fault → Result Y Fault → Type 0
Fails fails.Memory read = Unit {0}
Fails (fails.Is f) read = read ≡ Err f

abbrev pub Gives : {X Y : Type 0} → (X → Y) → Result X (Fail Fault) → Result Y Fault → Type 0
Gives view (Ok x) read = read ≡ Ok (view x)
Gives view (Err e) read = Fails e read

-- The bytes begin with the spelling of a value that fits, and the rest follows it.
pub record Begins {A : Type 0} (f : Format A) (bytes : List ℕ) (x : A) (rest : List ℕ) : Type 0 where
  pub fits : f.Fits x
  pub parts : bytes ≡ f.write x ++ rest

-- A value, and then one whose format the first value may determine.
abbrev pub followed : {A B : Type 0} → Format A → (A → Format B) → Format (A × B)
followed {A} f g = record {
  read = λ bytes. f.read bytes >>= λ x. ((g x.0).read x.1 >>= λ y. Ok ((x.0, y.0), y.1));
  write = λ p. f.write p.0 ++ (g p.0).write p.1;
  Fits = λ p. f.Fits p.0 × (g p.0).Fits p.1;
  Faulty = λ bytes e. f.Faulty bytes e ⊎ ((x : A) × (rest : List ℕ) × Begins f bytes x rest × (g x).Faulty rest e);
}

abbrev pub both : {A B : Type 0} → Format A → Format B → Format (A × B)
both f g = followed f (λ _. g)

-- The same bytes, for the values that a constructor makes; write says again how each of them is spelled.
abbrev pub made : {A B : Type 0} → Format A → (A → B) → (B → List ℕ) → Format B
made {A} f make write = record {
  read = λ bytes. f.read bytes >>= λ x. Ok (make x.0, x.1);
  write = write;
  Fits = λ y. (x : A) × (y ≡ make x) × f.Fits x;
  Faulty = f.Faulty;
}

-- No bytes at all, for the one value.
abbrev pub nothing : Format (Unit {0})
nothing = record {
  read = λ bytes. Ok (tt, bytes);
  write = λ _. [];
  Fits = λ _. Unit {0};
  Faulty = λ _ _. ⊥;
}

-- No value.
abbrev pub never : {A : Type 0} → Format A
never = record {
  read = λ bytes. Err (record { reason = Number; left = 0 });
  write = λ _. [];
  Fits = λ _. ⊥;
  Faulty = λ bytes e. record { reason = Number; left = 0 } ≡ e;
}

-- So many bytes.
abbrev pub byte_string : ℕ → Format (List ℕ)
byte_string n = record {
  read = λ bytes. if nat_lt (length bytes) n then Err (record { reason = Ends; left = 0 }) else Ok (take n bytes, drop n bytes);
  write = λ bytes. bytes;
  Fits = λ bytes. length bytes ≡ n;
  Faulty = λ bytes e. (length bytes < n) × (record { reason = Ends; left = 0 } ≡ e);
}

-- So many values, one after the other.
unfoldable pub many_read : {A : Type 0} → Format A → ℕ → List ℕ → Result (List A × List ℕ) Fault
many_read f zero bytes = Ok ([], bytes)
many_read f (suc n) bytes = f.read bytes >>= λ x. (many_read f n x.1 >>= λ xs. Ok (x.0 ∷ xs.0, xs.1))

abbrev pub many_faulty : {A : Type 0} → Format A → ℕ → List ℕ → Fault → Type 0
many_faulty f zero bytes e = ⊥
many_faulty {A} f (suc n) bytes e = f.Faulty bytes e ⊎ ((x : A) × (rest : List ℕ) × Begins f bytes x rest × many_faulty f n rest e)

abbrev pub many : {A : Type 0} → Format A → ℕ → Format (List A)
many f n = record {
  read = many_read f n;
  write = λ xs. flat_map f.write xs;
  Fits = λ xs. (length xs ≡ n) × AllByRecursion f.Fits xs;
  Faulty = many_faulty f n;
}

-- The format at a place of a list.
abbrev pub pick : {A : Type 0} → List (Format A) → ℕ → Format A
pick [] n = never
pick (f ∷ fs) zero = f
pick (f ∷ fs) (suc n) = pick fs n
