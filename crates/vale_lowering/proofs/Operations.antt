-- Single steps give plain values.
use Rattle.std.proofs.Common.{◌≡◌, ℕ, ◌≤◌, ℤ, pos, List, Option, Some, None, Bool, true, false, Result, Ok, Err, refl, ◌⊎◌, inl, inr, arith}
use Rattle.vale_state_spec.specs.State.{State, Answer, fails, print, print_text, shown, len}
use Rattle.vale_state_spec.specs.World.{Value, Int, Truth, Text, Own, Ref, Iso}
use Rattle.vale_base.specs.declared.trap.TrapKind.{TrapKind}
use Rattle.vale_text.specs.Operations as p
use Rattle.vale_text.specs.Operations.{is_int}
use Rattle.vale_text.specs.Steps as o
use Rattle.vale_model.specs.Expressions.{plus}
use Rattle.vale_code.specs.Instructions.{text_length}
use Rattle.vale_lowering.proofs.Ranges.{IsLawful, GivesInt, GivesText, KeepsInts, sub_keeps, number_gives, byte_gives, join_gives, slice_gives, length_is_int, text_of_is_lawful}
use Rattle.vale_lowering.proofs.Registers.{IsPlain}
use Rattle.vale_lowering.proofs.Reaches.{StepFits}

same : (w : State) → w.left ≤ w.left
same w = omega arith

module _ (w : State) where
  int_fits : (r : Result ℤ TrapKind) → GivesInt r → StepFits true w (o.gives_int w r)
  int_fits (Ok z) g = (g z refl, same w)
  int_fits (Err kind) g = tt

  text_fits : (r : Result (List ℕ) TrapKind) → GivesText r → StepFits true w (o.gives_text w r)
  text_fits (Ok t) g = (g t refl, same w)
  text_fits (Err kind) g = tt

  on_int_fits : (v : Value) (go : ℤ → Answer) → IsPlain v → ((z : ℤ) → is_int z ≡ true → StepFits true w (go z)) → StepFits true w (o.on_int v go)
  on_int_fits (Int z) go pv h = h z pv
  on_int_fits (Truth b) go pv h = tt
  on_int_fits (Text t) go pv h = tt
  on_int_fits (Own n) go pv h = tt
  on_int_fits (Ref n) go pv h = tt
  on_int_fits (Iso n) go pv h = tt

  on_truth_fits : (v : Value) (go : Bool → Answer) → ((b : Bool) → StepFits true w (go b)) → StepFits true w (o.on_truth v go)
  on_truth_fits (Truth b) go h = h b
  on_truth_fits (Int z) go h = tt
  on_truth_fits (Text t) go h = tt
  on_truth_fits (Own n) go h = tt
  on_truth_fits (Ref n) go h = tt
  on_truth_fits (Iso n) go h = tt

  on_text_fits : (v : Value) (go : List ℕ → Answer) → IsPlain v → ((t : List ℕ) → IsLawful t → StepFits true w (go t)) → StepFits true w (o.on_text v go)
  on_text_fits (Text t) go pv h = h t pv
  on_text_fits (Int z) go pv h = tt
  on_text_fits (Truth b) go pv h = tt
  on_text_fits (Own n) go pv h = tt
  on_text_fits (Ref n) go pv h = tt
  on_text_fits (Iso n) go pv h = tt

  -- an operator on two numbers
  pub ints_fit : (f : ℤ → ℤ → Result ℤ TrapKind) (v u : Value) → KeepsInts f → IsPlain v → IsPlain u → StepFits true w (o.on_ints (λ x y. o.gives_int w (f x y)) v u)
  ints_fit f v u keeps pv pu = on_int_fits v _ pv (λ x hx. on_int_fits u _ pu (λ y hy. int_fits (f x y) (keeps x y hx hy)))

  pub minus_fits : (v : Value) → IsPlain v → StepFits true w (o.minus v w)
  minus_fits v pv = ints_fit p.sub (Int (pos 0)) v sub_keeps refl pv

  pub join_fits : (v u : Value) → IsPlain v → IsPlain u → StepFits true w (o.join v u w)
  join_fits v u pv pu = on_text_fits v _ pv (λ x hx. on_text_fits u _ pu (λ y hy. text_fits (p.join x y) (join_gives x y hx hy)))

  pub slice_fits : (v a b : Value) → IsPlain v → IsPlain a → IsPlain b → StepFits true w (o.slice v a b w)
  slice_fits v a b pv pa pb = on_text_fits v _ pv (λ t h. on_int_fits a _ pa (λ x hx. on_int_fits b _ pb (λ y hy. text_fits (p.slice t x y) (slice_gives t x y h))))

  pub byte_fits : (v a : Value) → IsPlain v → IsPlain a → StepFits true w (o.byte v a w)
  byte_fits v a pv pa = on_text_fits v _ pv (λ t h. on_int_fits a _ pa (λ x hx. int_fits (p.byte t x) (byte_gives t x h)))

  pub text_of_fits : (v : Value) → IsPlain v → StepFits true w (o.text_of v w)
  text_of_fits v pv = on_int_fits v _ pv (λ x h. (text_of_is_lawful x h, same w))

  pub is_number_fits : (v : Value) → IsPlain v → StepFits true w (o.is_number v w)
  is_number_fits v pv = on_text_fits v _ pv (λ t h. (tt, same w))

  pub number_fits : (v : Value) → IsPlain v → StepFits true w (o.number v w)
  number_fits v pv = on_text_fits v _ pv (λ t h. int_fits (p.number t) (number_gives t))

  pub length_fits : (v : Value) → IsPlain v → StepFits true w (text_length v w)
  length_fits v pv = on_text_fits v _ pv (λ t h. (length_is_int t h, same w))

  pub opposite_fits : (v : Value) → StepFits true w (o.opposite v w)
  opposite_fits v = on_truth_fits v _ (λ b. (tt, same w))

  truths_fit : (c : o.Comparison) (a b : Bool) → StepFits true w (o.truths_compared c a b w)
  truths_fit o.equal a b = (tt, same w)
  truths_fit o.not_equal a b = (tt, same w)
  truths_fit o.less a b = tt
  truths_fit o.less_equal a b = tt
  truths_fit o.greater a b = tt
  truths_fit o.greater_equal a b = tt

  pub compare_fits : (c : o.Comparison) (v u : Value) → StepFits true w (o.compare c v u w)
  compare_fits c (Int x) (Int y) = (tt, same w)
  compare_fits c (Text x) (Text y) = (tt, same w)
  compare_fits c (Truth a) (Truth b) = truths_fit c a b
  compare_fits c (Int x) (Truth b) = tt
  compare_fits c (Int x) (Text b) = tt
  compare_fits c (Int x) (Own b) = tt
  compare_fits c (Int x) (Ref b) = tt
  compare_fits c (Int x) (Iso b) = tt
  compare_fits c (Text x) (Int b) = tt
  compare_fits c (Text x) (Truth b) = tt
  compare_fits c (Text x) (Own b) = tt
  compare_fits c (Text x) (Ref b) = tt
  compare_fits c (Text x) (Iso b) = tt
  compare_fits c (Truth x) (Int b) = tt
  compare_fits c (Truth x) (Text b) = tt
  compare_fits c (Truth x) (Own b) = tt
  compare_fits c (Truth x) (Ref b) = tt
  compare_fits c (Truth x) (Iso b) = tt
  compare_fits c (Own x) u = tt
  compare_fits c (Ref x) u = tt
  compare_fits c (Iso x) u = tt

  pub print_fits : (line : Bool) (v : Value) → StepFits false w (print line v w)
  print_fits line v = by line (shown v)
    where
      by : (line : Bool) (text : Option (List ℕ)) → StepFits false w (print_text line text w)
      by line None = tt
      by true (Some bytes) = (tt, same w)
      by false (Some bytes) = (tt, same w)

  -- ---- steps that are chosen by types: they are those of the values, or fail

  pub joins : (v u : Value) → (o.join v u w ≡ plus v u w) ⊎ (o.join v u w ≡ fails)
  joins (Text t) u = inl refl
  joins (Int z) u = inr refl
  joins (Truth b) u = inr refl
  joins (Own n) u = inr refl
  joins (Ref n) u = inr refl
  joins (Iso n) u = inr refl

  pub adds : (v u : Value) → (o.add v u w ≡ plus v u w) ⊎ (o.add v u w ≡ fails)
  adds (Text t) u = inr refl
  adds (Int z) u = inl refl
  adds (Truth b) u = inl refl
  adds (Own n) u = inl refl
  adds (Ref n) u = inl refl
  adds (Iso n) u = inl refl

  pub lengths : (v : Value) → (text_length v w ≡ len v w) ⊎ (text_length v w ≡ fails)
  lengths (Text t) = inl refl
  lengths (Int z) = inr refl
  lengths (Truth b) = inr refl
  lengths (Own n) = inr refl
  lengths (Ref n) = inr refl
  lengths (Iso n) = inr refl
