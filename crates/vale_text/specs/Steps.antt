-- The operations on values: single steps of a run, which programs and code both go by.
use Rattle.std.specs.Prelude.{ℕ, ℤ, pos, Bool, true, false, not, List, Some, Result, Ok, Err}
use Rattle.std.specs.Ordering.{int_cmp, nat_cmp}
use Rattle.std.specs.declared.cmp.Ordering.{Ordering}
use Rattle.std.specs.declared.cmp.Ordering.TheVariants.{Less, Equal, Greater}
use Rattle.std.specs.Cmp.Lexicographic.{slice_cmp}
use Rattle.vale_state_spec.specs.State.{State, Answer, gives, traps, fails}
use Rattle.vale_state_spec.specs.World.{Value, Int, Truth, Text}
use Rattle.vale_base.specs.declared.trap.TrapKind.{TrapKind}
use Rattle.vale_text.specs.Operations as o

-- ---- numbers, truths and texts of values

abbrev pub on_int : Value → (ℤ → Answer) → Answer
on_int (Int z) go = go z
on_int _ go = fails

abbrev pub on_truth : Value → (Bool → Answer) → Answer
on_truth (Truth b) go = go b
on_truth _ go = fails

abbrev pub on_text : Value → (List ℕ → Answer) → Answer
on_text (Text t) go = go t
on_text _ go = fails

abbrev pub gives_int : State → Result ℤ TrapKind → Answer
gives_int s (Ok z) = gives (Some (Int z)) s
gives_int s (Err kind) = traps kind

abbrev pub gives_text : State → Result (List ℕ) TrapKind → Answer
gives_text s (Ok t) = gives (Some (Text t)) s
gives_text s (Err kind) = traps kind

abbrev pub gives_truth : State → Bool → Answer
gives_truth s b = gives (Some (Truth b)) s

abbrev pub on_ints : (ℤ → ℤ → Answer) → Value → Value → Answer
on_ints go v w = on_int v (λ x. on_int w (λ y. go x y))

-- ---- numbers

abbrev pub add : Value → Value → State → Answer
add v w s = on_ints (λ x y. gives_int s (o.add x y)) v w

abbrev pub sub : Value → Value → State → Answer
sub v w s = on_ints (λ x y. gives_int s (o.sub x y)) v w

abbrev pub mul : Value → Value → State → Answer
mul v w s = on_ints (λ x y. gives_int s (o.mul x y)) v w

abbrev pub div : Value → Value → State → Answer
div v w s = on_ints (λ x y. gives_int s (o.div x y)) v w

abbrev pub rem : Value → Value → State → Answer
rem v w s = on_ints (λ x y. gives_int s (o.rem x y)) v w

-- the number below zero
abbrev pub minus : Value → State → Answer
minus v s = sub (Int (pos 0)) v s

-- ---- comparisons

pub data Comparison : Type 0 where
  equal : Comparison
  not_equal : Comparison
  less : Comparison
  less_equal : Comparison
  greater : Comparison
  greater_equal : Comparison

-- whether it holds, where the first is less than the second, where both are equal, and else
abbrev pub holds : Comparison → Ordering → Bool
holds equal Equal = true
holds equal _ = false
holds not_equal Equal = false
holds not_equal _ = true
holds less Less = true
holds less _ = false
holds less_equal Greater = false
holds less_equal _ = true
holds greater Greater = true
holds greater _ = false
holds greater_equal Less = false
holds greater_equal _ = true

abbrev pub same_truth : Bool → Bool → Bool
same_truth true b = b
same_truth false b = not b

abbrev pub truths_compared : Comparison → Bool → Bool → State → Answer
truths_compared equal a b s = gives_truth s (same_truth a b)
truths_compared not_equal a b s = gives_truth s (not (same_truth a b))
truths_compared _ a b s = fails

-- two numbers by size, two texts by their bytes; of two truths only whether they are equal
abbrev pub compare : Comparison → Value → Value → State → Answer
compare c (Int x) (Int y) s = gives_truth s (holds c (int_cmp x y))
compare c (Text x) (Text y) s = gives_truth s (holds c (slice_cmp nat_cmp x y))
compare c (Truth a) (Truth b) s = truths_compared c a b s
compare c _ _ s = fails

abbrev pub opposite : Value → State → Answer
opposite v s = on_truth v (λ b. gives_truth s (not b))

-- ---- texts

abbrev pub join : Value → Value → State → Answer
join v w s = on_text v (λ x. on_text w (λ y. gives_text s (o.join x y)))

abbrev pub slice : Value → Value → Value → State → Answer
slice v a b s = on_text v (λ t. on_ints (λ x y. gives_text s (o.slice t x y)) a b)

abbrev pub byte : Value → Value → State → Answer
byte v i s = on_text v (λ t. on_int i (λ x. gives_int s (o.byte t x)))

abbrev pub text_of : Value → State → Answer
text_of v s = on_int v (λ x. gives_text s (Ok (o.text_of x)))

abbrev pub is_number : Value → State → Answer
is_number v s = on_text v (λ t. gives_truth s (o.is_number t))

abbrev pub number : Value → State → Answer
number v s = on_text v (λ t. gives_int s (o.number t))
