-- States that differ in the ticks left, and in what is counted for the need: single steps come to the same from both.
use Rattle.std.proofs.Common.{◌≡◌, ℕ, ◌+◌, ◌≤◌, ℤ, pos, negsuc, List, [], ◌∷◌, ◌++◌, length, Option, Some, None, Result, Ok, Err, Bool, true, false, nat_lt, if◌then◌else◌, refl, ap}
use Rattle.std.specs.Prelude.{slice_get, max}
use Rattle.vale_base.specs.Limits.{width_limit}
use Rattle.vale_state_spec.specs.State.{State, Answer, gives, traps, fails, Looked, found, dead, nowhere, on_object, with_object, look_up, found_or_dead, object_of, name_of, field_in, load, swapped_in, swap, element_in, element_at, element, element_swapped_in, element_swapped_at, swap_element, push, popped, pop, merge, print, print_text, shown, born, changed, here, live, thaw, thaw_iteration, RegionEnd, merged, kept, cleared, end_of_pure, end_of_isolate}
use Rattle.vale_state_spec.specs.World.{Value, Int, Truth, Text, Own, Ref, Iso, Object}
use Rattle.vale_state_spec.specs.World as w
use Rattle.vale_base.specs.declared.name.Kind.{Kind}
use Rattle.vale_base.specs.declared.trap.TrapKind.{TrapKind}
use Rattle.vale_base.specs.declared.trap.TrapKind.TheVariants.{DeadReference, ArrayTooLong}
use Rattle.vale_text.specs.Steps as step
use Rattle.vale_code.specs.Enter.{Form, Plain, Pure, Iteration, Destructor, begun, ended}
use Rattle.vale_code.specs.Instructions.{of_living, array_length, text_length}

pub record Beside : Type 0 where
  pub left : ℕ
  pub most : ℕ
  pub made : ℕ

-- the state with so many ticks left, and counted so
abbrev pub beside : State → Beside → State
beside s x = record s { left = x.left; most = x.most; made = x.made }

-- this state is beside the other, with at least as many ticks left
pub record IsBeside (s t : State) : Type 0 where
  pub by : Beside
  pub left : s.left ≤ by.left
  pub is : t ≡ beside s by

-- the second answer is that of the state beside
abbrev pub StepLonger : Answer → Answer → Type 0
StepLonger (gives v t) b = (y : Beside) × (t.left ≤ y.left) × (b ≡ gives v (beside t y))
StepLonger (traps kind) b = b ≡ traps kind
StepLonger fails b = b ≡ fails

module _ (s : State) (x : Beside) (le : s.left ≤ x.left) where
  abbrev t : State
  t = beside s x

  -- ---- values

  on_int : (v : Value) (go go' : ℤ → Answer) → ((z : ℤ) → StepLonger (go z) (go' z)) → StepLonger (step.on_int v go) (step.on_int v go')
  on_int (Int z) go go' each = each z
  on_int (Truth b) go go' each = refl
  on_int (Text u) go go' each = refl
  on_int (Own n) go go' each = refl
  on_int (Ref n) go go' each = refl
  on_int (Iso n) go go' each = refl

  on_truth : (v : Value) (go go' : Bool → Answer) → ((b : Bool) → StepLonger (go b) (go' b)) → StepLonger (step.on_truth v go) (step.on_truth v go')
  on_truth (Int z) go go' each = refl
  on_truth (Truth b) go go' each = each b
  on_truth (Text u) go go' each = refl
  on_truth (Own n) go go' each = refl
  on_truth (Ref n) go go' each = refl
  on_truth (Iso n) go go' each = refl

  on_text : (v : Value) (go go' : List ℕ → Answer) → ((u : List ℕ) → StepLonger (go u) (go' u)) → StepLonger (step.on_text v go) (step.on_text v go')
  on_text (Int z) go go' each = refl
  on_text (Truth b) go go' each = refl
  on_text (Text u) go go' each = each u
  on_text (Own n) go go' each = refl
  on_text (Ref n) go go' each = refl
  on_text (Iso n) go go' each = refl

  given_int : (r : Result ℤ TrapKind) → StepLonger (step.gives_int s r) (step.gives_int t r)
  given_int (Ok z) = (x, le, refl)
  given_int (Err kind) = refl

  given_text : (r : Result (List ℕ) TrapKind) → StepLonger (step.gives_text s r) (step.gives_text t r)
  given_text (Ok u) = (x, le, refl)
  given_text (Err kind) = refl

  pub ints : (f : ℤ → ℤ → Result ℤ TrapKind) (v u : Value) → StepLonger (step.on_ints (λ a b. step.gives_int s (f a b)) v u) (step.on_ints (λ a b. step.gives_int t (f a b)) v u)
  ints f v u = on_int v _ _ (λ a. on_int u _ _ (λ b. given_int (f a b)))

  truths : (c : step.Comparison) (a b : Bool) → StepLonger (step.truths_compared c a b s) (step.truths_compared c a b t)
  truths step.equal a b = (x, le, refl)
  truths step.not_equal a b = (x, le, refl)
  truths step.less a b = refl
  truths step.less_equal a b = refl
  truths step.greater a b = refl
  truths step.greater_equal a b = refl

  pub compares : (c : step.Comparison) (v u : Value) → StepLonger (step.compare c v u s) (step.compare c v u t)
  compares c (Int a) (Int b) = (x, le, refl)
  compares c (Text a) (Text b) = (x, le, refl)
  compares c (Truth a) (Truth b) = truths c a b
  compares c _ _ = refl

  pub opposites : (v : Value) → StepLonger (step.opposite v s) (step.opposite v t)
  opposites v = on_truth v _ _ (λ b. (x, le, refl))

  pub joins : (v u : Value) → StepLonger (step.join v u s) (step.join v u t)
  joins v u = on_text v _ _ (λ a. on_text u _ _ (λ b. given_text _))

  pub slices : (v a b : Value) → StepLonger (step.slice v a b s) (step.slice v a b t)
  slices v a b = on_text v _ _ (λ u. on_int a _ _ (λ m. on_int b _ _ (λ n. given_text _)))

  pub bytes : (v a : Value) → StepLonger (step.byte v a s) (step.byte v a t)
  bytes v a = on_text v _ _ (λ u. on_int a _ _ (λ m. given_int _))

  pub texts_of : (v : Value) → StepLonger (step.text_of v s) (step.text_of v t)
  texts_of v = on_int v _ _ (λ z. (x, le, refl))

  pub are_numbers : (v : Value) → StepLonger (step.is_number v s) (step.is_number v t)
  are_numbers v = on_text v _ _ (λ u. (x, le, refl))

  pub numbers : (v : Value) → StepLonger (step.number v s) (step.number v t)
  numbers v = on_text v _ _ (λ u. given_int _)

  pub text_lengths : (v : Value) → StepLonger (text_length v s) (text_length v t)
  text_lengths v = on_text v _ _ (λ u. (x, le, refl))

  -- ---- objects

  looked : (l : Looked) (go go' : ℕ → Object → Answer) → ((n : ℕ) (o : Object) → StepLonger (go n o) (go' n o)) → StepLonger (on_object l go) (on_object l go')
  looked (found n o) go go' each = each n o
  looked dead go go' each = refl
  looked nowhere go go' each = refl

  on_its_object : (v : Value) (go go' : ℕ → Object → Answer) → ((n : ℕ) (o : Object) → StepLonger (go n o) (go' n o)) → StepLonger (with_object v s go) (with_object v t go')
  on_its_object v go go' each = named (name_of v)
    where
      named : (n : Option ℕ) → StepLonger (on_object (look_up n s) go) (on_object (look_up n t) go')
      named None = refl
      named (Some n) = looked (found_or_dead n (object_of n s)) go go' each

  fields : (v : Option Value) → StepLonger (field_in v s) (field_in v t)
  fields None = refl
  fields (Some v) = (x, le, refl)

  pub loads : (i : ℕ) (v : Value) → StepLonger (load i v s) (load i v t)
  loads i v = on_its_object v _ _ (λ n o. fields (slice_get o.values i))

  swapped : (old : Option Value) (n : ℕ) (o : Object) (i : ℕ) (new : Value) → StepLonger (swapped_in old n o i new s) (swapped_in old n o i new t)
  swapped None n o i new = refl
  swapped (Some old) n o i new = (x, le, refl)

  pub swaps : (i : ℕ) (v new : Value) → StepLonger (swap i v new s) (swap i v new t)
  swaps i v new = on_its_object v _ _ (λ n o. swapped (slice_get o.values i) n o i new)

  elements_in : (v : Option Value) → StepLonger (element_in v s) (element_in v t)
  elements_in None = refl
  elements_in (Some v) = (x, le, refl)

  indexed : (u : Value) (o : Object) → StepLonger (element_at u o s) (element_at u o t)
  indexed (Int (pos i)) o = elements_in (slice_get o.values i)
  indexed (Int (negsuc i)) o = refl
  indexed (Truth b) o = refl
  indexed (Text u) o = refl
  indexed (Own n) o = refl
  indexed (Ref n) o = refl
  indexed (Iso n) o = refl

  pub elements : (v u : Value) → StepLonger (element v u s) (element v u t)
  elements v u = on_its_object v _ _ (λ n o. indexed u o)

  element_swapped : (old : Option Value) (n : ℕ) (o : Object) (i : ℕ) (new : Value) → StepLonger (element_swapped_in old n o i new s) (element_swapped_in old n o i new t)
  element_swapped None n o i new = refl
  element_swapped (Some old) n o i new = (x, le, refl)

  swapped_at : (u : Value) (n : ℕ) (o : Object) (new : Value) → StepLonger (element_swapped_at u n o new s) (element_swapped_at u n o new t)
  swapped_at (Int (pos i)) n o new = element_swapped (slice_get o.values i) n o i new
  swapped_at (Int (negsuc i)) n o new = refl
  swapped_at (Truth b) n o new = refl
  swapped_at (Text u) n o new = refl
  swapped_at (Own m) n o new = refl
  swapped_at (Ref m) n o new = refl
  swapped_at (Iso m) n o new = refl

  pub swaps_elements : (v u new : Value) → StepLonger (swap_element v u new s) (swap_element v u new t)
  swaps_elements v u new = on_its_object v _ _ (λ n o. swapped_at u n o new)

  pub array_lengths : (v : Value) → StepLonger (array_length v s) (array_length v t)
  array_lengths v = on_its_object v _ _ (λ n o. (x, le, refl))

  pub pushes : (v new : Value) → StepLonger (push v new s) (push v new t)
  pushes v new = on_its_object v _ _ (λ n o. room (nat_lt (length o.values) width_limit) n o)
    where
      room : (b : Bool) (n : ℕ) (o : Object)
          → StepLonger (if b then gives None (changed n o (o.values ++ new ∷ []) s) else traps ArrayTooLong) (if b then gives None (changed n o (o.values ++ new ∷ []) t) else traps ArrayTooLong)
      room true n o = (x, le, refl)
      room false n o = refl

  pops_of : (n : ℕ) (o : Object) (vs : List Value) → StepLonger (popped n o vs s) (popped n o vs t)
  pops_of n o [] = refl
  pops_of n o (v ∷ vs) = (x, le, refl)

  pub pops : (v : Value) → StepLonger (pop v s) (pop v t)
  pops v = on_its_object v _ _ (λ n o. pops_of n o o.values)

  pub merges : (v : Value) → StepLonger (merge v s) (merge v t)
  merges (Int z) = refl
  merges (Truth b) = refl
  merges (Text u) = refl
  merges (Own n) = refl
  merges (Ref n) = refl
  merges (Iso n) = (x, le, refl)

  printed_text : (line : Bool) (u : Option (List ℕ)) → StepLonger (print_text line u s) (print_text line u t)
  printed_text line None = refl
  printed_text true (Some u) = (x, le, refl)
  printed_text false (Some u) = (x, le, refl)

  pub prints : (line : Bool) (v : Value) → StepLonger (print line v s) (print line v t)
  prints line v = printed_text line (shown v)

  pub births : (kind : Kind) (values : List Value) → IsBeside (born kind values s) (born kind values t)
  births kind values = at s.quiet
    where
      grown : State → State
      grown u = record u { world = w.born u.world (record { region = here u; kind = kind; values = values }) }

      count : State → State
      count u = record u { most = max u.most (live u.world); made = u.made + 1 }

      at : (b : Bool) → IsBeside (if b then grown s else count (grown s)) (if b then grown t else count (grown t))
      at true = record { by = x; left = le; is = refl }
      at false = record { by = record x { most = max x.most (live (grown s).world); made = x.made + 1 }; left = le; is = refl }

  -- ---- functions

  pub begins : (form : Form) → IsBeside (begun form s) (begun form t)
  begins Plain = record { by = x; left = le; is = refl }
  begins Pure = record { by = x; left = le; is = refl }
  begins Iteration = record { by = x; left = le; is = refl }
  begins Destructor = record { by = x; left = le; is = refl }

  thaws : (end : RegionEnd) → IsBeside (thaw end s) (thaw end t)
  thaws merged = record { by = x; left = le; is = refl }
  thaws (kept root) = record { by = x; left = le; is = refl }
  thaws cleared = record { by = x; left = le; is = refl }

  thaws_iteration : (end : RegionEnd) → IsBeside (thaw_iteration end s) (thaw_iteration end t)
  thaws_iteration merged = record { by = x; left = le; is = refl }
  thaws_iteration (kept root) = record { by = x; left = le; is = refl }
  thaws_iteration cleared = record { by = x; left = le; is = refl }

  pub ends : (form : Form) (v : Option Value) → IsBeside (ended form v s) (ended form v t)
  ends Plain v = record { by = x; left = le; is = refl }
  ends Pure v = thaws (end_of_pure v)
  ends Iteration v = thaws_iteration (end_of_isolate v)
  ends Destructor v = record { by = x; left = le; is = refl }

pub living : (a b : Answer) → StepLonger a b → StepLonger (of_living a) (of_living b)
living (gives v u) b h = (h.0, h.1, ap of_living h.2)
living (traps DeadReference) b e = ap of_living e
living (traps _) b e = ap of_living e
living fails b e = ap of_living e

kept_by : (s : State) (b : Bool) (u v : State) → u.pieces ≡ s.pieces → v.pieces ≡ s.pieces → (if b then u else v).pieces ≡ s.pieces
kept_by s true u v h g = h
kept_by s false u v h g = g

pub births_keep : (kind : Kind) (values : List Value) (s : State) → (born kind values s).pieces ≡ s.pieces
births_keep kind values s = kept_by s s.quiet _ _ refl refl
