-- Steps on values of the right types have an answer.
use Rattle.std.proofs.Common.{◌≡◌, ◌<◌, ℕ, zero, suc, ℤ, List, Some, None, Bool, true, false, refl, subst, arith}
use Rattle.std.specs.Prelude.{nat_lt, Result, Ok, Err}
use Rattle.vale_state_spec.specs.State.{State, Answer, gives, traps, fails, print, print_text}
use Rattle.vale_state_spec.specs.World.{Value, Int, Truth, Text, World}
use Rattle.vale_base.specs.declared.trap.TrapKind.{TrapKind}
use Rattle.vale_text.specs.Operations as o
use Rattle.vale_text.specs.Steps as step
use Rattle.vale_text.specs.Steps.{Comparison, equal, not_equal, less, less_equal, greater, greater_equal, on_int, on_text, on_truth, on_ints, gives_int, gives_text, truths_compared}
use Rattle.vale_code.specs.Instructions.{truth_of, comparison_of, text_length}
use Rattle.vale_code.specs.declared.ty.Ty.{Ty}
use Rattle.vale_code.specs.declared.ty.Ty.TheVariants as t
use Rattle.vale_cert.specs.Types.{is_copy}
use Rattle.vale_cert.specs.Rules.{is_ordered}
use Rattle.vale_cert.proofs.Fit.{value_has}

-- a value of the type over the same heap, or a trap
abbrev pub Answers : World → Ty → Answer → Type 0
Answers w ty (gives None s) = ⊥
Answers w ty (gives (Some v) s) = (value_has ty v ≡ true) × (s.world ≡ w)
Answers w ty (traps kind) = Unit {0}
Answers w ty fails = ⊥

-- a value of the type over the same heap
abbrev pub Surely : World → Ty → Answer → Type 0
Surely w ty (gives None s) = ⊥
Surely w ty (gives (Some v) s) = (value_has ty v ≡ true) × (s.world ≡ w)
Surely w ty (traps kind) = ⊥
Surely w ty fails = ⊥

abbrev pub SurelyNothing : World → Answer → Type 0
SurelyNothing w (gives None s) = s.world ≡ w
SurelyNothing w (gives (Some v) s) = ⊥
SurelyNothing w (traps kind) = ⊥
SurelyNothing w fails = ⊥

-- ---- values of a type

pub as_int : (v : Value) (P : Value → Type 0) → value_has t.Int v ≡ true → ((z : ℤ) → P (Int z)) → P v
as_int (Int z) P e go = go z
as_int _ P e go = let x : ⊥ = cc in absurd x

pub as_truth : (v : Value) (P : Value → Type 0) → value_has t.Truth v ≡ true → ((b : Bool) → P (Truth b)) → P v
as_truth (Truth b) P e go = go b
as_truth _ P e go = let x : ⊥ = cc in absurd x

pub as_text : (v : Value) (P : Value → Type 0) → value_has t.Text v ≡ true → ((bytes : List ℕ) → P (Text bytes)) → P v
as_text (Text bytes) P e go = go bytes
as_text _ P e go = let x : ⊥ = cc in absurd x

-- ---- numbers

int_answers : (s : State) (r : Result ℤ TrapKind) → Answers s.world t.Int (gives_int s r)
int_answers s (Ok z) = (refl, refl)
int_answers s (Err kind) = tt

text_answers : (s : State) (r : Result (List ℕ) TrapKind) → Answers s.world t.Text (gives_text s r)
text_answers s (Ok bytes) = (refl, refl)
text_answers s (Err kind) = tt

pub ints_answer : (s : State) (ty : Ty) (go : ℤ → ℤ → Answer) (v w : Value) → value_has t.Int v ≡ true → value_has t.Int w ≡ true → ((x y : ℤ) → Answers s.world ty (go x y)) → Answers s.world ty (on_ints go v w)
ints_answer s ty go v w e g each =
    as_int v (λ v. Answers s.world ty (on_ints go v w)) e (λ x. as_int w (λ w. Answers s.world ty (on_ints go (Int x) w)) g (λ y. each x y))

pub add_answers : (v w : Value) (s : State) → value_has t.Int v ≡ true → value_has t.Int w ≡ true → Answers s.world t.Int (step.add v w s)
add_answers v w s e g = ints_answer s t.Int (λ x y. gives_int s (o.add x y)) v w e g (λ x y. int_answers s (o.add x y))

pub sub_answers : (v w : Value) (s : State) → value_has t.Int v ≡ true → value_has t.Int w ≡ true → Answers s.world t.Int (step.sub v w s)
sub_answers v w s e g = ints_answer s t.Int (λ x y. gives_int s (o.sub x y)) v w e g (λ x y. int_answers s (o.sub x y))

pub mul_answers : (v w : Value) (s : State) → value_has t.Int v ≡ true → value_has t.Int w ≡ true → Answers s.world t.Int (step.mul v w s)
mul_answers v w s e g = ints_answer s t.Int (λ x y. gives_int s (o.mul x y)) v w e g (λ x y. int_answers s (o.mul x y))

pub div_answers : (v w : Value) (s : State) → value_has t.Int v ≡ true → value_has t.Int w ≡ true → Answers s.world t.Int (step.div v w s)
div_answers v w s e g = ints_answer s t.Int (λ x y. gives_int s (o.div x y)) v w e g (λ x y. int_answers s (o.div x y))

pub rem_answers : (v w : Value) (s : State) → value_has t.Int v ≡ true → value_has t.Int w ≡ true → Answers s.world t.Int (step.rem v w s)
rem_answers v w s e g = ints_answer s t.Int (λ x y. gives_int s (o.rem x y)) v w e g (λ x y. int_answers s (o.rem x y))

-- ---- comparisons and truths

pub opposite_answers : (v : Value) (s : State) → value_has t.Truth v ≡ true → Surely s.world t.Truth (step.opposite v s)
opposite_answers v s e = as_truth v (λ v. Surely s.world t.Truth (step.opposite v s)) e (λ b. (refl, refl))

-- two truths are compared by the first two comparisons
truths_answer : (choice : ℕ) (c : Comparison) (a b : Bool) (s : State) → nat_lt choice 2 ≡ true → comparison_of choice ≡ Some c → Surely s.world t.Truth (truths_compared c a b s)
truths_answer zero c a b s e h = subst (λ c. Surely s.world t.Truth (truths_compared c a b s)) (let x : equal ≡ c = cc in x) (refl, refl)
truths_answer (suc zero) c a b s e h = subst (λ c. Surely s.world t.Truth (truths_compared c a b s)) (let x : not_equal ≡ c = cc in x) (refl, refl)
truths_answer (suc (suc n)) c a b s e h = absurd (let x : suc (suc n) < 2 = grind arith in omega arith)

pub compare_answers : (choice : ℕ) (c : Comparison) (ty : Ty) (v w : Value) (s : State) → comparison_of choice ≡ Some c → is_ordered choice ty ≡ true → value_has ty v ≡ true → value_has ty w ≡ true → Surely s.world t.Truth (step.compare c v w s)
compare_answers choice c t.Int v w s h e f g =
    as_int v (λ v. Surely s.world t.Truth (step.compare c v w s)) f (λ x. as_int w (λ w. Surely s.world t.Truth (step.compare c (Int x) w s)) g (λ y. (refl, refl)))
compare_answers choice c t.Text v w s h e f g =
    as_text v (λ v. Surely s.world t.Truth (step.compare c v w s)) f (λ x. as_text w (λ w. Surely s.world t.Truth (step.compare c (Text x) w s)) g (λ y. (refl, refl)))
compare_answers choice c t.Truth v w s h e f g =
    as_truth v (λ v. Surely s.world t.Truth (step.compare c v w s)) f (λ a. as_truth w (λ w. Surely s.world t.Truth (step.compare c (Truth a) w s)) g (λ b. truths_answer choice c a b s e h))
compare_answers choice c t.Void v w s h e f g = let x : ⊥ = cc in absurd x
compare_answers choice c (t.Own k) v w s h e f g = let x : ⊥ = cc in absurd x
compare_answers choice c (t.Ref k) v w s h e f g = let x : ⊥ = cc in absurd x
compare_answers choice c (t.Frozen k) v w s h e f g = let x : ⊥ = cc in absurd x
compare_answers choice c (t.Iso k) v w s h e f g = let x : ⊥ = cc in absurd x

-- ---- choices inside their tables

pub truth_is : (choice : ℕ) → nat_lt choice 2 ≡ true → (b : Bool) × (truth_of choice ≡ Some b)
truth_is zero e = (false, refl)
truth_is (suc zero) e = (true, refl)
truth_is (suc (suc n)) e = absurd (let x : suc (suc n) < 2 = grind arith in omega arith)

pub comparison_is : (choice : ℕ) → nat_lt choice 6 ≡ true → (c : Comparison) × (comparison_of choice ≡ Some c)
comparison_is zero e = (equal, refl)
comparison_is (suc zero) e = (not_equal, refl)
comparison_is (suc (suc zero)) e = (less, refl)
comparison_is (suc (suc (suc zero))) e = (less_equal, refl)
comparison_is (suc (suc (suc (suc zero)))) e = (greater, refl)
comparison_is (suc (suc (suc (suc (suc zero))))) e = (greater_equal, refl)
comparison_is (suc (suc (suc (suc (suc (suc n)))))) e = absurd (let x : suc (suc (suc (suc (suc (suc n))))) < 6 = grind arith in omega arith)

-- ---- texts

pub join_answers : (v w : Value) (s : State) → value_has t.Text v ≡ true → value_has t.Text w ≡ true → Answers s.world t.Text (step.join v w s)
join_answers v w s e g =
    as_text v (λ v. Answers s.world t.Text (step.join v w s)) e (λ x. as_text w (λ w. Answers s.world t.Text (step.join (Text x) w s)) g (λ y. text_answers s (o.join x y)))

pub slice_answers : (v a b : Value) (s : State) → value_has t.Text v ≡ true → value_has t.Int a ≡ true → value_has t.Int b ≡ true → Answers s.world t.Text (step.slice v a b s)
slice_answers v a b s e f g =
    as_text v (λ v. Answers s.world t.Text (step.slice v a b s)) e (λ x.
    ints_answer s t.Text (λ i j. gives_text s (o.slice x i j)) a b f g (λ i j. text_answers s (o.slice x i j)))

pub byte_answers : (v i : Value) (s : State) → value_has t.Text v ≡ true → value_has t.Int i ≡ true → Answers s.world t.Int (step.byte v i s)
byte_answers v i s e g =
    as_text v (λ v. Answers s.world t.Int (step.byte v i s)) e (λ x. as_int i (λ i. Answers s.world t.Int (step.byte (Text x) i s)) g (λ y. int_answers s (o.byte x y)))

pub number_answers : (v : Value) (s : State) → value_has t.Text v ≡ true → Answers s.world t.Int (step.number v s)
number_answers v s e = as_text v (λ v. Answers s.world t.Int (step.number v s)) e (λ x. int_answers s (o.number x))

pub length_answers : (v : Value) (s : State) → value_has t.Text v ≡ true → Surely s.world t.Int (text_length v s)
length_answers v s e = as_text v (λ v. Surely s.world t.Int (text_length v s)) e (λ x. (refl, refl))

pub text_of_answers : (v : Value) (s : State) → value_has t.Int v ≡ true → Surely s.world t.Text (step.text_of v s)
text_of_answers v s e = as_int v (λ v. Surely s.world t.Text (step.text_of v s)) e (λ x. (refl, refl))

pub is_number_answers : (v : Value) (s : State) → value_has t.Text v ≡ true → Surely s.world t.Truth (step.is_number v s)
is_number_answers v s e = as_text v (λ v. Surely s.world t.Truth (step.is_number v s)) e (λ x. (refl, refl))

-- ---- printing

text_printed : (line : Bool) (bytes : List ℕ) (s : State) → SurelyNothing s.world (print_text line (Some bytes) s)
text_printed true bytes s = refl
text_printed false bytes s = refl

truth_printed : (line : Bool) (b : Bool) (s : State) → SurelyNothing s.world (print line (Truth b) s)
truth_printed line true s = text_printed line _ s
truth_printed line false s = text_printed line _ s

pub print_answers : (line : Bool) (ty : Ty) (v : Value) (s : State) → is_copy ty ≡ true → value_has ty v ≡ true → SurelyNothing s.world (print line v s)
print_answers line t.Int v s e f = as_int v (λ v. SurelyNothing s.world (print line v s)) f (λ z. text_printed line _ s)
print_answers line t.Truth v s e f = as_truth v (λ v. SurelyNothing s.world (print line v s)) f (λ b. truth_printed line b s)
print_answers line t.Text v s e f = as_text v (λ v. SurelyNothing s.world (print line v s)) f (λ x. text_printed line x s)
print_answers line t.Void v s e f = let x : ⊥ = cc in absurd x
print_answers line (t.Own k) v s e f = let x : ⊥ = cc in absurd x
print_answers line (t.Ref k) v s e f = let x : ⊥ = cc in absurd x
print_answers line (t.Frozen k) v s e f = let x : ⊥ = cc in absurd x
print_answers line (t.Iso k) v s e f = let x : ⊥ = cc in absurd x
