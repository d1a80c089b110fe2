-- Operations on values that lead nowhere give such a value, in the same state.
use Rattle.std.proofs.Common.{◌≡◌, ℕ, ℤ, List, Option, Some, None, Bool, refl, Result, Ok, Err}
use Rattle.vale_state_spec.specs.State.{State, Answer}
use Rattle.vale_state_spec.specs.World.{Value, Int, Truth, Text, Own, Ref, Iso}
use Rattle.vale_base.specs.declared.trap.TrapKind.{TrapKind}
use Rattle.vale_text.specs.Operations as o
use Rattle.vale_text.specs.Steps.{on_int, on_truth, on_text, gives_int, gives_text, add, sub, mul, div, rem, Comparison, equal, not_equal, less, less_equal, greater, greater_equal, truths_compared, compare, opposite, join, slice, byte, text_of, is_number, number}
use Rattle.vale_code.specs.Instructions.{text_length}
use Rattle.vale_region_laws.specs.Passing.{IsPlain}
use Rattle.vale_region_laws.proofs.States.{Gives}

abbrev pub PlainOut : State → Option Value → State → Type 0
PlainOut s None t = ⊥
PlainOut s (Some v) t = IsPlain v × (t ≡ s)

module _ (s : State) where
  abbrev Out : Answer → Type 0
  Out = Gives (PlainOut s)

  int_out : (v : Value) (go : ℤ → Answer) → ((z : ℤ) → Out (go z)) → Out (on_int v go)
  int_out (Int z) go h = h z
  int_out (Truth b) go h = tt
  int_out (Text t) go h = tt
  int_out (Own n) go h = tt
  int_out (Ref n) go h = tt
  int_out (Iso n) go h = tt

  truth_out : (v : Value) (go : Bool → Answer) → ((b : Bool) → Out (go b)) → Out (on_truth v go)
  truth_out (Truth b) go h = h b
  truth_out (Int z) go h = tt
  truth_out (Text t) go h = tt
  truth_out (Own n) go h = tt
  truth_out (Ref n) go h = tt
  truth_out (Iso n) go h = tt

  text_out : (v : Value) (go : List ℕ → Answer) → ((t : List ℕ) → Out (go t)) → Out (on_text v go)
  text_out (Text t) go h = h t
  text_out (Int z) go h = tt
  text_out (Truth b) go h = tt
  text_out (Own n) go h = tt
  text_out (Ref n) go h = tt
  text_out (Iso n) go h = tt

  gives_an_int : (r : Result ℤ TrapKind) → Out (gives_int s r)
  gives_an_int (Ok z) = (tt, refl)
  gives_an_int (Err k) = tt

  gives_a_text : (r : Result (List ℕ) TrapKind) → Out (gives_text s r)
  gives_a_text (Ok z) = (tt, refl)
  gives_a_text (Err k) = tt

  pub add_out : (v w : Value) → Out (add v w s)
  add_out v w = int_out v _ (λ x. int_out w _ (λ y. gives_an_int (o.add x y)))

  pub sub_out : (v w : Value) → Out (sub v w s)
  sub_out v w = int_out v _ (λ x. int_out w _ (λ y. gives_an_int (o.sub x y)))

  pub mul_out : (v w : Value) → Out (mul v w s)
  mul_out v w = int_out v _ (λ x. int_out w _ (λ y. gives_an_int (o.mul x y)))

  pub div_out : (v w : Value) → Out (div v w s)
  div_out v w = int_out v _ (λ x. int_out w _ (λ y. gives_an_int (o.div x y)))

  pub rem_out : (v w : Value) → Out (rem v w s)
  rem_out v w = int_out v _ (λ x. int_out w _ (λ y. gives_an_int (o.rem x y)))

  truths_out : (c : Comparison) (a b : Bool) → Out (truths_compared c a b s)
  truths_out equal a b = (tt, refl)
  truths_out not_equal a b = (tt, refl)
  truths_out less a b = tt
  truths_out less_equal a b = tt
  truths_out greater a b = tt
  truths_out greater_equal a b = tt

  pub compare_out : (c : Comparison) (v w : Value) → Out (compare c v w s)
  compare_out c (Int x) (Int y) = (tt, refl)
  compare_out c (Text x) (Text y) = (tt, refl)
  compare_out c (Truth x) (Truth y) = truths_out c x y
  compare_out c _ _ = tt

  pub opposite_out : (v : Value) → Out (opposite v s)
  opposite_out v = truth_out v _ (λ b. (tt, refl))

  pub join_out : (v w : Value) → Out (join v w s)
  join_out v w = text_out v _ (λ x. text_out w _ (λ y. gives_a_text (o.join x y)))

  pub slice_out : (v a b : Value) → Out (slice v a b s)
  slice_out v a b = text_out v _ (λ t. int_out a _ (λ x. int_out b _ (λ y. gives_a_text (o.slice t x y))))

  pub byte_out : (v i : Value) → Out (byte v i s)
  byte_out v i = text_out v _ (λ t. int_out i _ (λ x. gives_an_int (o.byte t x)))

  pub text_of_out : (v : Value) → Out (text_of v s)
  text_of_out v = int_out v _ (λ x. (tt, refl))

  pub is_number_out : (v : Value) → Out (is_number v s)
  is_number_out v = text_out v _ (λ t. (tt, refl))

  pub number_out : (v : Value) → Out (number v s)
  number_out v = text_out v _ (λ t. gives_an_int (o.number t))

  pub text_length_out : (v : Value) → Out (text_length v s)
  text_length_out v = text_out v _ (λ t. (tt, refl))
