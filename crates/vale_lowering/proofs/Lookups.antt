-- The numbers of functions and texts stand for them.
use Rattle.std.proofs.Common.{◌≡◌, ℕ, zero, suc, ◌+◌, List, [], ◌∷◌, ◌++◌, length, map, Option, Some, None, Bool, true, false, if◌then◌else◌, refl, sym, ap, ◌∙◌, subst, ◌⊎◌, inl, inr}
use Rattle.std.specs.Prelude.{slice_get, bytes_eq}
use Rattle.std.proofs.lemmas.Slice.Eq.{bytes_eq-Decides}
use Rattle.vale_state_spec.specs.World.{Value, Int, Truth, Text, Own, Ref, Iso}
use Rattle.vale_rules_spec.specs.Types.{Ty, is_copy}
use Rattle.vale_rules_spec.specs.Types as y
use Rattle.vale_rules_spec.specs.Typed.{Function}
use Rattle.vale_model.specs.Parts.{first_function}
use Rattle.vale_code.specs.Kinds.{result_to}
use Rattle.vale_code.specs.Registers.{Registers, Read, read, kept, and_then, after_keeping, given_value, after_giving, give_all}
use Rattle.vale_lowering.specs.Instructions.{registers_from}
use Rattle.vale_lowering.specs.Scopes.{number_of_text, number_of_function, code_type, agree}
use Rattle.vale_lowering.proofs.Registers.{IsPlain, ArePlain, Stand}

-- ---- functions

found_here : (test : Function → Bool) (g f : Function) (fs : List Function) (b : Bool) → (first_function test fs ≡ Some f → slice_get fs (number_of_function test fs) ≡ Some f) → (if b then Some g else first_function test fs) ≡ Some f → slice_get (g ∷ fs) (if b then 0 else suc (number_of_function test fs)) ≡ Some f
found_here test g f fs true rest e = e
found_here test g f fs false rest e = rest e

pub found_function : (test : Function → Bool) (fs : List Function) (f : Function) → first_function test fs ≡ Some f → slice_get fs (number_of_function test fs) ≡ Some f
found_function test [] f e = absurd (cc)
found_function test (g ∷ fs) f e = found_here test g f fs (test g) (found_function test fs f) e

passes_here : (test : Function → Bool) (g f : Function) (fs : List Function) (b : Bool) → test g ≡ b → (first_function test fs ≡ Some f → test f ≡ true) → (if b then Some g else first_function test fs) ≡ Some f → test f ≡ true
passes_here test g f fs true is rest e = let same : g ≡ f = cc in subst (λ x. test x ≡ true) same is
passes_here test g f fs false is rest e = rest e

pub passes : (test : Function → Bool) (fs : List Function) (f : Function) → first_function test fs ≡ Some f → test f ≡ true
passes test [] f e = absurd (cc)
passes test (g ∷ fs) f e = passes_here test g f fs (test g) refl (passes test fs f) e

-- ---- texts

text_here : (text u : List ℕ) (us : List (List ℕ)) (b : Bool) → bytes_eq text u ≡ b → ((i : ℕ) → slice_get us i ≡ Some text → slice_get us (number_of_text text us) ≡ Some text) → (i : ℕ) → slice_get (u ∷ us) i ≡ Some text → slice_get (u ∷ us) (if b then 0 else suc (number_of_text text us)) ≡ Some text
text_here text u us true is rest i e = ap Some (sym ((bytes_eq-Decides text u).0 is))
text_here text u us false is rest zero e = let same : text ≡ u = cc in let yes = (bytes_eq-Decides text u).1 same in absurd (cc)
text_here text u us false is rest (suc i) e = rest i e

pub found_text : (text : List ℕ) (us : List (List ℕ)) (i : ℕ) → slice_get us i ≡ Some text → slice_get us (number_of_text text us) ≡ Some text
found_text text [] i e = absurd (cc)
found_text text (u ∷ us) i e = text_here text u us (bytes_eq text u) refl (found_text text us) i e

maybe_here : (text u : List ℕ) (us : List (List ℕ)) (b : Bool) → bytes_eq text u ≡ b → (slice_get us (number_of_text text us) ≡ Some text) ⊎ (slice_get us (number_of_text text us) ≡ None) → (slice_get (u ∷ us) (if b then 0 else suc (number_of_text text us)) ≡ Some text) ⊎ (slice_get (u ∷ us) (if b then 0 else suc (number_of_text text us)) ≡ None)
maybe_here text u us true is rest = inl (ap Some (sym ((bytes_eq-Decides text u).0 is)))
maybe_here text u us false is rest = rest

pub text_or_none : (text : List ℕ) (us : List (List ℕ)) → (slice_get us (number_of_text text us) ≡ Some text) ⊎ (slice_get us (number_of_text text us) ≡ None)
text_or_none text [] = inr refl
text_or_none text (u ∷ us) = maybe_here text u us (bytes_eq text u) refl (text_or_none text us)

pub in_front : {A : Type 0} (xs ys : List A) (i : ℕ) (x : A) → slice_get xs i ≡ Some x → slice_get (xs ++ ys) i ≡ Some x
in_front [] ys i x e = absurd (cc)
in_front (z ∷ xs) ys zero x e = e
in_front (z ∷ xs) ys (suc i) x e = in_front xs ys i x e

-- ---- types

pub goes_to : (x : Ty) (to : ℕ) → is_copy x ≡ true → result_to (code_type x) to ≡ Some to
goes_to y.int to e = refl
goes_to y.bool to e = refl
goes_to y.str to e = refl
goes_to y.void to e = absurd (cc)
goes_to (y.kind m) to e = absurd (cc)
goes_to (y.array x) to e = absurd (cc)
goes_to (y.ref x) to e = absurd (cc)
goes_to (y.imm x) to e = absurd (cc)
goes_to (y.iso x) to e = absurd (cc)

pub goes_nowhere : (x : Ty) (to : ℕ) → is_copy x ≡ false → result_to (code_type x) to ≡ None
goes_nowhere y.int to e = absurd (cc)
goes_nowhere y.bool to e = absurd (cc)
goes_nowhere y.str to e = absurd (cc)
goes_nowhere y.void to e = refl
goes_nowhere (y.kind m) to e = refl
goes_nowhere (y.array x) to e = refl
goes_nowhere (y.ref x) to e = refl
goes_nowhere (y.imm x) to e = refl
goes_nowhere (y.iso x) to e = refl

pub agree_same : (a b : Bool) → agree a b ≡ true → a ≡ b
agree_same true true e = refl
agree_same true false e = absurd (cc)
agree_same false true e = absurd (cc)
agree_same false false e = refl

-- ---- arguments

plain_kept : (r : ℕ) (v : Value) (regs : Registers) → IsPlain v → kept r v regs ≡ regs
plain_kept r (Int z) regs pv = refl
plain_kept r (Truth b) regs pv = refl
plain_kept r (Text t) regs pv = refl
plain_kept r (Own m) regs pv = absurd pv
plain_kept r (Ref m) regs pv = absurd pv
plain_kept r (Iso m) regs pv = absurd pv

-- what a parameter of these types gets
as_given : (x : Ty) (r : ℕ) (v : Option Value) (regs : Registers) (rest : Registers → Option Read) → and_then (given_value (code_type x) v) (rest (after_giving (code_type x) r v regs)) ≡ and_then v (rest (after_keeping r v regs))
as_given y.int r v regs rest = refl
as_given y.bool r v regs rest = refl
as_given y.str r v regs rest = refl
as_given y.void r v regs rest = refl
as_given (y.kind m) r v regs rest = refl
as_given (y.array x) r v regs rest = refl
as_given (y.ref x) r v regs rest = refl
as_given (y.imm x) r v regs rest = refl
as_given (y.iso x) r v regs rest = refl

abbrev pub read_as : List Value → Registers → Option Read
read_as vs regs = Some (record { values = vs; after = regs })

with_first : (v : Value) (vs : List Value) (n : ℕ) (o : Option Read) (regs : Registers) → ((o ≡ read_as vs regs) × (n ≡ length vs)) ⊎ (o ≡ None) → ((and_then (Some v) o ≡ read_as (v ∷ vs) regs) × (suc n ≡ length (v ∷ vs))) ⊎ (and_then (Some v) o ≡ None)
with_first v vs n o regs (inl (e, d)) = inl (ap (and_then (Some v)) e, ap suc d)
with_first v vs n o regs (inr e) = inr (ap (and_then (Some v)) e)

-- Plain values are given as they stand, where there are as many as parameters.
pub all_given : {P : Type 0} (type : P → Ty) (ps : List P) (vs : List Value) (h : ℕ) (regs : Registers) → ArePlain vs → Stand h vs regs →
    ((give_all (map (λ q. code_type (type q)) ps) (registers_from h (length vs)) regs ≡ read_as vs regs) × (length ps ≡ length vs)) ⊎ (give_all (map (λ q. code_type (type q)) ps) (registers_from h (length vs)) regs ≡ None)
all_given type [] [] h regs pvs st = inl (refl, refl)
all_given type [] (v ∷ vs) h regs pvs st = inr refl
all_given type (q ∷ ps) [] h regs pvs st = inr refl
all_given type (q ∷ ps) (v ∷ vs) h regs pvs st =
    subst (λ o. ((o ≡ read_as (v ∷ vs) regs) × (suc (length ps) ≡ length (v ∷ vs))) ⊎ (o ≡ None)) (sym is)
    (with_first v vs (length ps) (rest regs) regs (all_given type ps vs (h + 1) regs pvs.1 st.1))
  where
    rest : Registers → Option Read
    rest r = give_all (map (λ q. code_type (type q)) ps) (registers_from (h + 1) (length vs)) r

    is : and_then (given_value (code_type (type q)) (read regs h)) (rest (after_giving (code_type (type q)) h (read regs h) regs)) ≡ and_then (Some v) (rest regs)
    is = as_given (type q) h (read regs h) regs rest ∙ ap (λ o. and_then o (rest (after_keeping h o regs))) st.0 ∙ ap (λ r. and_then (Some v) (rest r)) (plain_kept h v regs pvs.0)
