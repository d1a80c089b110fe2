-- What operations answer: a value in the same state, a trap, or nothing.
use Rattle.std.proofs.Common.{◌≡◌, ℕ, ℤ, pos, List, Bool, Result, Ok, Err, refl, ◌⊎◌, inl, inr}
use Rattle.vale_state_spec.specs.State.{State, Answer, fails}
use Rattle.vale_state_spec.specs.World.{Value, Int, Truth, Text, Own, Ref, Iso}
use Rattle.vale_base.specs.declared.trap.TrapKind.{TrapKind}
use Rattle.vale_text.specs.Operations as p
use Rattle.vale_text.specs.Steps as o
use Rattle.vale_model.specs.Expressions.{plus}
use Rattle.vale_code.specs.Instructions.{text_length}
use Rattle.vale_lowering_objects.proofs.Steps.{Answers}

module _ (w : State) where
  int_answers : (r : Result ℤ TrapKind) → Answers w (o.gives_int w r)
  int_answers (Ok z) = refl
  int_answers (Err kind) = tt

  text_answers : (r : Result (List ℕ) TrapKind) → Answers w (o.gives_text w r)
  text_answers (Ok t) = refl
  text_answers (Err kind) = tt

  on_int_answers : (v : Value) (go : ℤ → Answer) → ((z : ℤ) → Answers w (go z)) → Answers w (o.on_int v go)
  on_int_answers (Int z) go h = h z
  on_int_answers (Truth b) go h = tt
  on_int_answers (Text t) go h = tt
  on_int_answers (Own n) go h = tt
  on_int_answers (Ref n) go h = tt
  on_int_answers (Iso n) go h = tt

  on_truth_answers : (v : Value) (go : Bool → Answer) → ((b : Bool) → Answers w (go b)) → Answers w (o.on_truth v go)
  on_truth_answers (Truth b) go h = h b
  on_truth_answers (Int z) go h = tt
  on_truth_answers (Text t) go h = tt
  on_truth_answers (Own n) go h = tt
  on_truth_answers (Ref n) go h = tt
  on_truth_answers (Iso n) go h = tt

  on_text_answers : (v : Value) (go : List ℕ → Answer) → ((t : List ℕ) → Answers w (go t)) → Answers w (o.on_text v go)
  on_text_answers (Text t) go h = h t
  on_text_answers (Int z) go h = tt
  on_text_answers (Truth b) go h = tt
  on_text_answers (Own n) go h = tt
  on_text_answers (Ref n) go h = tt
  on_text_answers (Iso n) go h = tt

  pub ints_answer : (f : ℤ → ℤ → Result ℤ TrapKind) (v u : Value) → Answers w (o.on_ints (λ x y. o.gives_int w (f x y)) v u)
  ints_answer f v u = on_int_answers v _ (λ x. on_int_answers u _ (λ y. int_answers (f x y)))

  pub minus_answers : (v : Value) → Answers w (o.minus v w)
  minus_answers v = ints_answer p.sub (Int (pos 0)) v

  pub join_answers : (v u : Value) → Answers w (o.join v u w)
  join_answers v u = on_text_answers v _ (λ x. on_text_answers u _ (λ y. text_answers (p.join x y)))

  pub slice_answers : (v a b : Value) → Answers w (o.slice v a b w)
  slice_answers v a b = on_text_answers v _ (λ t. on_int_answers a _ (λ x. on_int_answers b _ (λ y. text_answers (p.slice t x y))))

  pub byte_answers : (v a : Value) → Answers w (o.byte v a w)
  byte_answers v a = on_text_answers v _ (λ t. on_int_answers a _ (λ x. int_answers (p.byte t x)))

  pub text_of_answers : (v : Value) → Answers w (o.text_of v w)
  text_of_answers v = on_int_answers v _ (λ x. refl)

  pub is_number_answers : (v : Value) → Answers w (o.is_number v w)
  is_number_answers v = on_text_answers v _ (λ t. refl)

  pub number_answers : (v : Value) → Answers w (o.number v w)
  number_answers v = on_text_answers v _ (λ t. int_answers (p.number t))

  pub length_answers : (v : Value) → Answers w (text_length v w)
  length_answers v = on_text_answers v _ (λ t. refl)

  pub opposite_answers : (v : Value) → Answers w (o.opposite v w)
  opposite_answers v = on_truth_answers v _ (λ b. refl)

  truths_answer : (c : o.Comparison) (a b : Bool) → Answers w (o.truths_compared c a b w)
  truths_answer o.equal a b = refl
  truths_answer o.not_equal a b = refl
  truths_answer o.less a b = tt
  truths_answer o.less_equal a b = tt
  truths_answer o.greater a b = tt
  truths_answer o.greater_equal a b = tt

  pub compare_answers : (c : o.Comparison) (v u : Value) → Answers w (o.compare c v u w)
  compare_answers c (Int x) (Int y) = refl
  compare_answers c (Text x) (Text y) = refl
  compare_answers c (Truth a) (Truth b) = truths_answer c a b
  compare_answers c (Int x) (Truth b) = tt
  compare_answers c (Int x) (Text b) = tt
  compare_answers c (Int x) (Own b) = tt
  compare_answers c (Int x) (Ref b) = tt
  compare_answers c (Int x) (Iso b) = tt
  compare_answers c (Text x) (Int b) = tt
  compare_answers c (Text x) (Truth b) = tt
  compare_answers c (Text x) (Own b) = tt
  compare_answers c (Text x) (Ref b) = tt
  compare_answers c (Text x) (Iso b) = tt
  compare_answers c (Truth x) (Int b) = tt
  compare_answers c (Truth x) (Text b) = tt
  compare_answers c (Truth x) (Own b) = tt
  compare_answers c (Truth x) (Ref b) = tt
  compare_answers c (Truth x) (Iso b) = tt
  compare_answers c (Own x) u = tt
  compare_answers c (Ref x) u = tt
  compare_answers c (Iso x) u = tt

  -- ---- steps that are chosen by types: they are those of the values, or fail

  pub joins : (v u : Value) → (o.join v u w ≡ plus v u w) ⊎ (o.join v u w ≡ fails)
  joins (Text t) u = inl refl
  joins (Int z) u = inr refl
  joins (Truth b) u = inr refl
  joins (Own n) u = inr refl
  joins (Ref n) u = inr refl
  joins (Iso n) u = inr refl

  pub adds : (v u : Value) → (o.add v u w ≡ plus v u w) ⊎ (o.add v u w ≡ fails)
  adds (Text t) u = inr refl
  adds (Int z) u = inl refl
  adds (Truth b) u = inl refl
  adds (Own n) u = inl refl
  adds (Ref n) u = inl refl
  adds (Iso n) u = inl refl
