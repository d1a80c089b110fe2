-- Every single step comes to the same from states that differ in what no rule looks at.
use Rattle.std.proofs.Common.{◌≡◌, ℕ, ◌+◌, ◌≤◌, ℤ, pos, negsuc, List, [], ◌∷◌, ◌++◌, Option, Some, None, Bool, true, false, refl}
use Rattle.std.specs.Prelude.{slice_get, if◌then◌else◌, Result, Ok, Err, max, nat_lt, length}
use Rattle.vale_base.specs.Limits.{width_limit}
use Rattle.vale_state_spec.specs.State.{State, Answer, gives, traps, print_text, print, shown, object_of, make, dies, changed, found_or_dead, look_up, on_object, with_object, name_of, load, field_in, swap, swapped_in, element, element_at, element_in, swap_element, element_swapped_at, element_swapped_in, len, push, pop, popped, freeze, RegionEnd, merged, kept, cleared, thaw, join_isolate, merge, here, live}
use Rattle.vale_state_spec.specs.World.{Value, Int, Truth, Text, Own, Ref, Iso, Object}
use Rattle.vale_state_spec.specs.World as w
use Rattle.vale_base.specs.declared.name.Kind.{Kind}
use Rattle.vale_base.specs.declared.trap.TrapKind.{TrapKind}
use Rattle.vale_base.specs.declared.trap.TrapKind.TheVariants.{ArrayTooLong}
use Rattle.vale_text.specs.Steps as o
use Rattle.vale_text.specs.Operations as p
use Rattle.vale_syntax.specs.declared.tree.BinaryOp.{BinaryOp}
use Rattle.vale_syntax.specs.declared.tree.BinaryOp.TheVariants.{Or, And, Equal, NotEqual, Less, LessEqual, Greater, GreaterEqual, Add, Sub, Mul, Div, Rem}
use Rattle.vale_model.specs.Expressions.{plus, operated}
use Rattle.vale_model.proofs.LongerLaws.{Beside, beside, StepLonger, ChangeLonger}

-- ---- changes

pub dies_changes : (n : ℕ) → ChangeLonger (dies n)
dies_changes n s x le = (x, le, refl)

pub freeze_changes : ChangeLonger freeze
freeze_changes s x le = (x, le, refl)

pub thaw_changes : (end : RegionEnd) → ChangeLonger (thaw end)
thaw_changes merged s x le = (x, le, refl)
thaw_changes (kept root) s x le = (x, le, refl)
thaw_changes cleared s x le = (x, le, refl)

pub join_isolate_changes : (n : ℕ) → ChangeLonger (join_isolate n)
join_isolate_changes n s x le = (x, le, refl)

module _ (s : State) (x : Beside) (le : s.left ≤ x.left) where
  -- ---- objects

  pub print_longer : (line : Bool) (v : Value) → StepLonger (print line v s) (print line v (beside s x))
  print_longer line v = by line (shown v)
    where
      by : (line : Bool) (text : Option (List ℕ)) → StepLonger (print_text line text s) (print_text line text (beside s x))
      by line None = refl
      by true (Some bytes) = (x, le, refl)
      by false (Some bytes) = (x, le, refl)

  pub make_longer : (kind : Kind) (values : List Value) → StepLonger (make kind values s) (make kind values (beside s x))
  make_longer kind values = by s.quiet x.quiet
    where
      grown : State → State
      grown t = record t { world = w.born t.world (record { region = here t; kind = kind; values = values }) }

      count : State → State
      count t = record t { most = max t.most (live t.world); made = t.made + 1 }

      by : (a b : Bool) → (z : Beside) × ((if a then grown s else count (grown s)).left ≤ z.left) ×
          (gives (Some (Own (w.next_name s.world))) (if b then grown (beside s x) else count (grown (beside s x))) ≡ gives (Some (Own (w.next_name s.world))) (beside (if a then grown s else count (grown s)) z))
      by true true = (x, le, refl)
      by true false = (record x { most = max x.most (live (grown s).world); made = x.made + 1 }, le, refl)
      by false true = (x, le, refl)
      by false false = (record x { most = max x.most (live (grown s).world); made = x.made + 1 }, le, refl)

  on_object_longer : (v : Value) (go go' : ℕ → Object → Answer) → ((n : ℕ) (o : Object) → StepLonger (go n o) (go' n o)) → StepLonger (with_object v s go) (with_object v (beside s x) go')
  on_object_longer v go go' h = named (name_of v)
    where
      living_one : (n : ℕ) (y : Option Object) → StepLonger (on_object (found_or_dead n y) go) (on_object (found_or_dead n y) go')
      living_one n None = refl
      living_one n (Some o) = h n o

      named : (y : Option ℕ) → StepLonger (on_object (look_up y s) go) (on_object (look_up y (beside s x)) go')
      named None = refl
      named (Some n) = living_one n (object_of n s)

  pub load_longer : (i : ℕ) (v : Value) → StepLonger (load i v s) (load i v (beside s x))
  load_longer i v = on_object_longer v _ _ (λ n o. by (slice_get o.values i))
    where
      by : (y : Option Value) → StepLonger (field_in y s) (field_in y (beside s x))
      by None = refl
      by (Some u) = (x, le, refl)

  pub swap_longer : (i : ℕ) (v new : Value) → StepLonger (swap i v new s) (swap i v new (beside s x))
  swap_longer i v new = on_object_longer v _ _ (λ n o. by n o (slice_get o.values i))
    where
      by : (n : ℕ) (o : Object) (y : Option Value) → StepLonger (swapped_in y n o i new s) (swapped_in y n o i new (beside s x))
      by n o None = refl
      by n o (Some old) = (x, le, refl)

  element_at_longer : (index : Value) (o : Object) → StepLonger (element_at index o s) (element_at index o (beside s x))
  element_at_longer (Int (pos i)) o = by (slice_get o.values i)
    where
      by : (y : Option Value) → StepLonger (element_in y s) (element_in y (beside s x))
      by None = refl
      by (Some u) = (x, le, refl)
  element_at_longer (Int (negsuc i)) o = refl
  element_at_longer (Truth m) o = refl
  element_at_longer (Text m) o = refl
  element_at_longer (Own m) o = refl
  element_at_longer (Ref m) o = refl
  element_at_longer (Iso m) o = refl

  pub element_longer : (v index : Value) → StepLonger (element v index s) (element v index (beside s x))
  element_longer v index = on_object_longer v _ _ (λ n o. element_at_longer index o)

  element_swapped_longer : (index : Value) (n : ℕ) (o : Object) (new : Value) → StepLonger (element_swapped_at index n o new s) (element_swapped_at index n o new (beside s x))
  element_swapped_longer (Int (pos i)) n o new = by (slice_get o.values i)
    where
      by : (y : Option Value) → StepLonger (element_swapped_in y n o i new s) (element_swapped_in y n o i new (beside s x))
      by None = refl
      by (Some u) = (x, le, refl)
  element_swapped_longer (Int (negsuc i)) n o new = refl
  element_swapped_longer (Truth m) n o new = refl
  element_swapped_longer (Text m) n o new = refl
  element_swapped_longer (Own m) n o new = refl
  element_swapped_longer (Ref m) n o new = refl
  element_swapped_longer (Iso m) n o new = refl

  pub swap_element_longer : (v index new : Value) → StepLonger (swap_element v index new s) (swap_element v index new (beside s x))
  swap_element_longer v index new = on_object_longer v _ _ (λ n o. element_swapped_longer index n o new)

  pub len_longer : (v : Value) → StepLonger (len v s) (len v (beside s x))
  len_longer (Text t) = (x, le, refl)
  len_longer (Int z) = refl
  len_longer (Truth b) = refl
  len_longer (Own n) = on_object_longer (Own n) _ _ (λ n o. (x, le, refl))
  len_longer (Ref n) = on_object_longer (Ref n) _ _ (λ n o. (x, le, refl))
  len_longer (Iso n) = on_object_longer (Iso n) _ _ (λ n o. (x, le, refl))

  pub push_longer : (v new : Value) → StepLonger (push v new s) (push v new (beside s x))
  push_longer v new = on_object_longer v _ _ (λ n o. by n o (nat_lt (length o.values) width_limit))
    where
      by : (n : ℕ) (o : Object) (b : Bool) → StepLonger (if b then gives None (changed n o (o.values ++ new ∷ []) s) else traps ArrayTooLong) (if b then gives None (changed n o (o.values ++ new ∷ []) (beside s x)) else traps ArrayTooLong)
      by n o true = (x, le, refl)
      by n o false = refl

  pub pop_longer : (v : Value) → StepLonger (pop v s) (pop v (beside s x))
  pop_longer v = on_object_longer v _ _ (λ n o. by n o o.values)
    where
      by : (n : ℕ) (o : Object) (vs : List Value) → StepLonger (popped n o vs s) (popped n o vs (beside s x))
      by n o [] = refl
      by n o (u ∷ us) = (x, le, refl)

  pub merge_longer : (v : Value) → StepLonger (merge v s) (merge v (beside s x))
  merge_longer (Iso n) = (x, le, refl)
  merge_longer (Int m) = refl
  merge_longer (Truth m) = refl
  merge_longer (Text m) = refl
  merge_longer (Own m) = refl
  merge_longer (Ref m) = refl

  -- ---- operations

  int_longer : (r : Result ℤ TrapKind) → StepLonger (o.gives_int s r) (o.gives_int (beside s x) r)
  int_longer (Ok z) = (x, le, refl)
  int_longer (Err kind) = refl

  text_longer : (r : Result (List ℕ) TrapKind) → StepLonger (o.gives_text s r) (o.gives_text (beside s x) r)
  text_longer (Ok t) = (x, le, refl)
  text_longer (Err kind) = refl

  on_int_longer : (v : Value) (go go' : ℤ → Answer) → ((z : ℤ) → StepLonger (go z) (go' z)) → StepLonger (o.on_int v go) (o.on_int v go')
  on_int_longer (Int z) go go' h = h z
  on_int_longer (Truth m) go go' h = refl
  on_int_longer (Text m) go go' h = refl
  on_int_longer (Own m) go go' h = refl
  on_int_longer (Ref m) go go' h = refl
  on_int_longer (Iso m) go go' h = refl

  on_truth_longer : (v : Value) (go go' : Bool → Answer) → ((b : Bool) → StepLonger (go b) (go' b)) → StepLonger (o.on_truth v go) (o.on_truth v go')
  on_truth_longer (Truth b) go go' h = h b
  on_truth_longer (Int m) go go' h = refl
  on_truth_longer (Text m) go go' h = refl
  on_truth_longer (Own m) go go' h = refl
  on_truth_longer (Ref m) go go' h = refl
  on_truth_longer (Iso m) go go' h = refl

  on_text_longer : (v : Value) (go go' : List ℕ → Answer) → ((t : List ℕ) → StepLonger (go t) (go' t)) → StepLonger (o.on_text v go) (o.on_text v go')
  on_text_longer (Text t) go go' h = h t
  on_text_longer (Int m) go go' h = refl
  on_text_longer (Truth m) go go' h = refl
  on_text_longer (Own m) go go' h = refl
  on_text_longer (Ref m) go go' h = refl
  on_text_longer (Iso m) go go' h = refl

  pub ints_longer : (f : ℤ → ℤ → Result ℤ TrapKind) (v u : Value) → StepLonger (o.on_ints (λ a b. o.gives_int s (f a b)) v u) (o.on_ints (λ a b. o.gives_int (beside s x) (f a b)) v u)
  ints_longer f v u = on_int_longer v _ _ (λ a. on_int_longer u _ _ (λ b. int_longer (f a b)))

  join_longer : (v u : Value) → StepLonger (o.join v u s) (o.join v u (beside s x))
  join_longer v u = on_text_longer v _ _ (λ a. on_text_longer u _ _ (λ b. text_longer (p.join a b)))

  pub slice_longer : (v a b : Value) → StepLonger (o.slice v a b s) (o.slice v a b (beside s x))
  slice_longer v a b = on_text_longer v _ _ (λ t. on_int_longer a _ _ (λ y. on_int_longer b _ _ (λ z. text_longer (p.slice t y z))))

  pub byte_longer : (v i : Value) → StepLonger (o.byte v i s) (o.byte v i (beside s x))
  byte_longer v i = on_text_longer v _ _ (λ t. on_int_longer i _ _ (λ z. int_longer (p.byte t z)))

  pub text_of_longer : (v : Value) → StepLonger (o.text_of v s) (o.text_of v (beside s x))
  text_of_longer v = on_int_longer v _ _ (λ z. (x, le, refl))

  pub is_number_longer : (v : Value) → StepLonger (o.is_number v s) (o.is_number v (beside s x))
  is_number_longer v = on_text_longer v _ _ (λ t. (x, le, refl))

  pub number_longer : (v : Value) → StepLonger (o.number v s) (o.number v (beside s x))
  number_longer v = on_text_longer v _ _ (λ t. int_longer (p.number t))

  pub opposite_longer : (v : Value) → StepLonger (o.opposite v s) (o.opposite v (beside s x))
  opposite_longer v = on_truth_longer v _ _ (λ b. (x, le, refl))

  truths_longer : (c : o.Comparison) (a b : Bool) → StepLonger (o.truths_compared c a b s) (o.truths_compared c a b (beside s x))
  truths_longer o.equal a b = (x, le, refl)
  truths_longer o.not_equal a b = (x, le, refl)
  truths_longer o.less a b = refl
  truths_longer o.less_equal a b = refl
  truths_longer o.greater a b = refl
  truths_longer o.greater_equal a b = refl

  compare_longer : (c : o.Comparison) (v u : Value) → StepLonger (o.compare c v u s) (o.compare c v u (beside s x))
  compare_longer c (Int a) (Int b) = (x, le, refl)
  compare_longer c (Int a) (Truth b) = refl
  compare_longer c (Int a) (Text b) = refl
  compare_longer c (Int a) (Own b) = refl
  compare_longer c (Int a) (Ref b) = refl
  compare_longer c (Int a) (Iso b) = refl
  compare_longer c (Truth a) (Int b) = refl
  compare_longer c (Truth a) (Truth b) = truths_longer c a b
  compare_longer c (Truth a) (Text b) = refl
  compare_longer c (Truth a) (Own b) = refl
  compare_longer c (Truth a) (Ref b) = refl
  compare_longer c (Truth a) (Iso b) = refl
  compare_longer c (Text a) (Int b) = refl
  compare_longer c (Text a) (Truth b) = refl
  compare_longer c (Text a) (Text b) = (x, le, refl)
  compare_longer c (Text a) (Own b) = refl
  compare_longer c (Text a) (Ref b) = refl
  compare_longer c (Text a) (Iso b) = refl
  compare_longer c (Own a) u = refl
  compare_longer c (Ref a) u = refl
  compare_longer c (Iso a) u = refl

  plus_longer : (v u : Value) → StepLonger (plus v u s) (plus v u (beside s x))
  plus_longer (Text a) u = join_longer (Text a) u
  plus_longer (Int a) u = ints_longer p.add (Int a) u
  plus_longer (Truth a) u = ints_longer p.add (Truth a) u
  plus_longer (Own a) u = ints_longer p.add (Own a) u
  plus_longer (Ref a) u = ints_longer p.add (Ref a) u
  plus_longer (Iso a) u = ints_longer p.add (Iso a) u

  pub operated_longer : (op : BinaryOp) (v u : Value) → StepLonger (operated op v u s) (operated op v u (beside s x))
  operated_longer Or v u = refl
  operated_longer And v u = refl
  operated_longer Equal v u = compare_longer o.equal v u
  operated_longer NotEqual v u = compare_longer o.not_equal v u
  operated_longer Less v u = compare_longer o.less v u
  operated_longer LessEqual v u = compare_longer o.less_equal v u
  operated_longer Greater v u = compare_longer o.greater v u
  operated_longer GreaterEqual v u = compare_longer o.greater_equal v u
  operated_longer Add v u = plus_longer v u
  operated_longer Sub v u = ints_longer p.sub v u
  operated_longer Mul v u = ints_longer p.mul v u
  operated_longer Div v u = ints_longer p.div v u
  operated_longer Rem v u = ints_longer p.rem v u
