-- Elements of arrays.
use Rattle.std.proofs.Common.{◌≡◌, ℕ, zero, suc, ◌++◌, ◌<◌, ◌≤◌, ℤ, List, [], ◌∷◌, length, Option, Some, None, Bool, true, false, refl, sym, ap, subst, ◌∙◌, arith}
use Rattle.std.specs.Prelude.{pos, negsuc, nat_lt, if◌then◌else◌, slice_get, slice_set}
use Rattle.std.proofs.lemmas.Bool.{ltb-true, ltb-false}
use Rattle.vale_base.specs.Limits.{width_limit}
use Rattle.vale_base.specs.declared.trap.TrapKind.TheVariants.{ArrayTooLong, DeadReference, EmptyPop, IndexOutOfRange}
use Rattle.vale_state_spec.specs.State.{Answer, State, changed, element, element_at, element_in, element_swapped_at, element_swapped_in, front_from, gives, last_from, popped, push, swap_element, traps}
use Rattle.vale_state_spec.specs.World.{Object, Value}
use Rattle.vale_state_spec.specs.World.{Int as number}
use Rattle.vale_code.specs.Registers.{put, read}
use Rattle.vale_heap.specs.HeapLends as lends
use Rattle.vale_heap.specs.HeapState.{HeapState, look_in}
use Rattle.vale_heap.specs.Standing.{DenoteAll, Denotes, StandsChanged, StandsFound, StandsLooked}
use Rattle.vale_heap.specs.declared.body.Body.{Body}
use Rattle.vale_heap.specs.declared.body.Cell.{Cell}
use Rattle.vale_heap.specs.declared.body.Cell.TheVariants.{Int, Truth, Text, Own, Ref, Iso}
use Rattle.vale_heap.specs.declared.body.Place.{Place}
use Rattle.vale_object_cells.specs.Cells.{held, kept_cells, lent_cell, place_in}
use Rattle.vale_object_cells.specs.Names.{Knows, name_at, value_of, values_in}
use Rattle.vale_object_cells.proofs.Naming.{denotes_is, denotes_known, is_denoted}
use Rattle.vale_object_steps.specs.Doing.{counts, exchanges, on_value, pops, pushes, reads}
use Rattle.vale_object_steps.specs.Indices.{found_index}
use Rattle.vale_object_steps.specs.Views.{Agrees, CanDo, Follows, IsRight, View}
use Rattle.vale_object_steps.specs.declared.effect.Effect.TheVariants as effect
use Rattle.vale_object_steps.proofs.Registers.{kept_from, kept_size, on_held, on_there, written_to}
use Rattle.vale_object_steps.proofs.Objects.{as_many, changes, denote_set, field_is, finds, known, leads, lent_knows, lent_value, looks, on_dead, on_living}
use Rattle.vale_object_steps.proofs.FieldLaws.{same_names}

-- ---- indices

index_some : (i count k : ℕ) (b : Bool) → nat_lt i count ≡ b → (if b then Some i else None) ≡ Some k → (i ≡ k) × (k < count)
index_some i count k true e h = let same : i ≡ k = cc in (same, subst (λ n. n < count) same (ltb-true i count e))
index_some i count k false e h = absurd (let x : ⊥ = cc in x)

index_none : (i count : ℕ) (b : Bool) → nat_lt i count ≡ b → (if b then Some i else None) ≡ None → count ≤ i
index_none i count true e h = absurd (let x : ⊥ = cc in x)
index_none i count false e h = ltb-false i count e

past_end : {A : Type 0} (xs : List A) (i : ℕ) → length xs ≤ i → slice_get xs i ≡ None
past_end [] i le = refl
past_end (x ∷ xs) zero le = absurd (omega (arith, le))
past_end (x ∷ xs) (suc i) le = past_end xs i (omega (arith, le))

pub index_within : (z : ℤ) (count k : ℕ) → found_index z count ≡ Some k → k < count
index_within (pos i) count k e = (index_some i count k (nat_lt i count) refl e).1
index_within (negsuc i) count k e = absurd (let x : ⊥ = cc in x)

element_some : (z : ℤ) (o : Object) (s : State) (k : ℕ) → found_index z (length o.values) ≡ Some k → element_at (number z) o s ≡ element_in (slice_get o.values k) s
element_some (pos i) o s k e = ap (λ n. element_in (slice_get o.values n) s) (index_some i (length o.values) k (nat_lt i (length o.values)) refl e).0
element_some (negsuc i) o s k e = absurd (let x : ⊥ = cc in x)

element_none : (z : ℤ) (o : Object) (s : State) → found_index z (length o.values) ≡ None → element_at (number z) o s ≡ traps IndexOutOfRange
element_none (pos i) o s e = ap (λ x. element_in x s) (past_end o.values i (index_none i (length o.values) (nat_lt i (length o.values)) refl e))
element_none (negsuc i) o s e = refl

swapped_some : (z : ℤ) (n : ℕ) (o : Object) (x : Value) (s : State) (k : ℕ) → found_index z (length o.values) ≡ Some k → element_swapped_at (number z) n o x s ≡ element_swapped_in (slice_get o.values k) n o k x s
swapped_some (pos i) n o x s k e = ap (λ m. element_swapped_in (slice_get o.values m) n o m x s) (index_some i (length o.values) k (nat_lt i (length o.values)) refl e).0
swapped_some (negsuc i) n o x s k e = absurd (let y : ⊥ = cc in y)

swapped_none : (z : ℤ) (n : ℕ) (o : Object) (x : Value) (s : State) → found_index z (length o.values) ≡ None → element_swapped_at (number z) n o x s ≡ traps IndexOutOfRange
swapped_none (pos i) n o x s e = ap (λ y. element_swapped_in y n o i x s) (past_end o.values i (index_none i (length o.values) (nat_lt i (length o.values)) refl e))
swapped_none (negsuc i) n o x s e = refl

-- what was found of an index, by what it and the count are
pub index_of : (z y : ℤ) (n m : ℕ) (o p : Option ℕ) → y ≡ z → o ≡ found_index y m → m ≡ n → o ≡ p → found_index z n ≡ p
index_of z y n m o p e h k q = sym (λ i. found_index (e i) (k i)) ∙ sym h ∙ q

-- an index has a rule only where it is a number
element_number : (names : List Place) (c : Cell) (o : Object) (s : State) → IsRight (element_at (value_of names c) o s) → (z : ℤ) × (c ≡ Int z)
element_number names (Int z) o s r = (z, refl)
element_number names (Truth z) o s r = absurd r
element_number names (Text z) o s r = absurd r
element_number names (Own z) o s r = absurd r
element_number names (Ref z) o s r = absurd r
element_number names (Iso z) o s r = absurd r

swapped_number : (names : List Place) (c : Cell) (n : ℕ) (o : Object) (x : Value) (s : State) → IsRight (element_swapped_at (value_of names c) n o x s) → (z : ℤ) × (c ≡ Int z)
swapped_number names (Int z) n o x s r = (z, refl)
swapped_number names (Truth z) n o x s r = absurd r
swapped_number names (Text z) n o x s r = absurd r
swapped_number names (Own z) n o x s r = absurd r
swapped_number names (Ref z) n o x s r = absurd r
swapped_number names (Iso z) n o x s r = absurd r

-- ---- an element that is read

module _ (to a x : ℕ) (heap : HeapState) (cells : List (Option Cell)) where
  abbrev on_read : Cell → View → ℕ → Object → Answer
  on_read c v n o = element_at (value_of v.names c) o v.state

  read_index : (v : View) → IsRight (reads to a x (values_in v.names cells) v.state).answer → (c : Cell) × (held cells x ≡ Some c)
  read_index v right = on_there v.names cells x (λ u. on_value (read (values_in v.names cells) a) (λ w. element w u v.state)) right

  read_is : (v : View) (c : Cell) → held cells x ≡ Some c → (reads to a x (values_in v.names cells) v.state).answer ≡ on_value (read (values_in v.names cells) a) (λ w. element w (value_of v.names c) v.state)
  read_is v c e = on_held v.names cells x c (λ u. on_value (read (values_in v.names cells) a) (λ w. element w u v.state)) e

  pub read_place : CanDo (reads to a x) heap cells → (p : Place) × (place_in (held cells a) ≡ Some p)
  read_place can =
      let v = can.view in
      let c = read_index v can.right in
      leads v.names cells a v.state (on_read c.0 v) (subst IsRight (read_is v c.0 c.1) can.right)

  pub read_number : (p : Place) (body : Body) → CanDo (reads to a x) heap cells → place_in (held cells a) ≡ Some p → StandsLooked heap None p (Some body) → (z : ℤ) × (held cells x ≡ Some (Int z))
  read_number p body can at looked =
      let v = can.view in
      let c = read_index v can.right in
      let means = looks v heap cells can.agrees a p at (Some body) looked in
      let z = element_number v.names c.0 means.0 v.state (subst IsRight (read_is v c.0 c.1 ∙ on_living v heap cells can.agrees a p at (on_read c.0 v) means.0 means.1) can.right) in
      (z.0, c.1 ∙ ap (λ y. Some y) z.1)

  pub read_dead : (p : Place) (new : HeapState) (after : List (Option Cell)) → place_in (held cells a) ≡ Some p → StandsLooked heap None p None → Follows (reads to a x) heap cells (effect.Trap DeadReference) new after
  read_dead p new after at looked v agrees right =
      let c = read_index v right in
      read_is v c.0 c.1 ∙ on_dead v heap cells agrees a p at (on_read c.0 v) (looks v heap cells agrees a p at None looked)

  pub read_outside : (p : Place) (body : Body) (z : ℤ) (new : HeapState) (after : List (Option Cell)) → place_in (held cells a) ≡ Some p → StandsLooked heap None p (Some body) → held cells x ≡ Some (Int z)
      → found_index z (length body.cells) ≡ None → Follows (reads to a x) heap cells (effect.Trap IndexOutOfRange) new after
  read_outside p body z new after at looked e none v agrees right =
      let means = looks v heap cells agrees a p at (Some body) looked in
      let many = as_many v.names body.cells means.0.values means.3 in
      read_is v (Int z) e
      ∙ on_living v heap cells agrees a p at (on_read (Int z) v) means.0 means.1
      ∙ element_none z means.0 v.state (sym (ap (found_index z) many) ∙ none)

  pub read_found : (p : Place) (body : Body) (z : ℤ) (k : ℕ) (c : Cell) (after : List (Option Cell)) → place_in (held cells a) ≡ Some p → StandsLooked heap None p (Some body) → held cells x ≡ Some (Int z)
      → found_index z (length body.cells) ≡ Some k → slice_get body.cells k ≡ Some c → after ≡ slice_set cells to (Some (lent_cell c)) → to < length cells → Follows (reads to a x) heap cells effect.Done heap after
  read_found p body z k c after at looked e some got is room v agrees right =
      let means = looks v heap cells agrees a p at (Some body) looked in
      let many = as_many v.names body.cells means.0.values means.3 in
      let f = field_is v.names k body.cells means.0.values c means.3 got in
      let w = written_to v heap cells after to (lent_cell c) agrees (lent_knows v.names c f.value f.denotes) room is in
      record {
        view = v;
        value = Some (value_of v.names (lent_cell c));
        grows = same_names v v.state;
        steady = record { left = refl; spent = refl; pieces = refl; frozen = refl; quiet = refl };
        agrees = w.agrees;
        is =
            read_is v (Int z) e
            ∙ on_living v heap cells agrees a p at (on_read (Int z) v) means.0 means.1
            ∙ element_some z means.0 v.state k (sym (ap (found_index z) many) ∙ some)
            ∙ ap (λ o. element_in o v.state) f.got
            ∙ ap (λ y. gives (Some y) v.state) (lent_value v.names c f.value agrees.stands.at.apart f.denotes);
        registers = w.is;
      }

-- ---- how many there are

module _ (to a : ℕ) (heap : HeapState) (cells : List (Option Cell)) where
  abbrev on_count : State → ℕ → Object → Answer
  on_count s n o = gives (Some (number (pos (length o.values)))) s

  pub count_place : CanDo (counts to a) heap cells → (p : Place) × (place_in (held cells a) ≡ Some p)
  count_place can = leads can.view.names cells a can.view.state (on_count can.view.state) can.right

  pub count_dead : (p : Place) (new : HeapState) (after : List (Option Cell)) → place_in (held cells a) ≡ Some p → StandsLooked heap None p None → Follows (counts to a) heap cells (effect.Trap DeadReference) new after
  count_dead p new after at looked v agrees right = on_dead v heap cells agrees a p at (on_count v.state) (looks v heap cells agrees a p at None looked)

  pub count_found : (p : Place) (body : Body) (after : List (Option Cell)) → place_in (held cells a) ≡ Some p → StandsLooked heap None p (Some body)
      → after ≡ slice_set cells to (Some (Int (pos (length body.cells)))) → to < length cells → Follows (counts to a) heap cells effect.Done heap after
  count_found p body after at looked is room v agrees right =
      let means = looks v heap cells agrees a p at (Some body) looked in
      let many = as_many v.names body.cells means.0.values means.3 in
      let w = written_to v heap cells after to (Int (pos (length body.cells))) agrees (λ q h. absurd (let y : ⊥ = cc in y)) room is in
      record {
        view = v;
        value = Some (number (pos (length body.cells)));
        grows = same_names v v.state;
        steady = record { left = refl; spent = refl; pieces = refl; frozen = refl; quiet = refl };
        agrees = w.agrees;
        is = on_living v heap cells agrees a p at (on_count v.state) means.0 means.1 ∙ ap (λ n. gives (Some (number (pos n))) v.state) (sym many);
        registers = w.is;
      }

-- ---- an element that is set

module _ (to a x b : ℕ) (heap : HeapState) (cells : List (Option Cell)) where
  abbrev on_exchange : Cell → Cell → View → ℕ → Object → Answer
  on_exchange i c v n o = element_swapped_at (value_of v.names i) n o (value_of v.names c) v.state

  exchange_index : (v : View) → IsRight (exchanges to a x b (values_in v.names cells) v.state).answer → (i : Cell) × (held cells x ≡ Some i)
  exchange_index v right = on_there v.names cells x (λ u. on_value (read (values_in v.names cells) b) (λ new. on_value (read (values_in v.names cells) a) (λ w. swap_element w u new v.state))) right

  exchange_half : (v : View) (i : Cell) → held cells x ≡ Some i → (exchanges to a x b (values_in v.names cells) v.state).answer ≡ on_value (read (values_in v.names cells) b) (λ new. on_value (read (values_in v.names cells) a) (λ w. swap_element w (value_of v.names i) new v.state))
  exchange_half v i e = on_held v.names cells x i (λ u. on_value (read (values_in v.names cells) b) (λ new. on_value (read (values_in v.names cells) a) (λ w. swap_element w u new v.state))) e

  exchange_is : (v : View) (i c : Cell) → held cells x ≡ Some i → held cells b ≡ Some c → (exchanges to a x b (values_in v.names cells) v.state).answer ≡ on_value (read (values_in v.names cells) a) (λ w. swap_element w (value_of v.names i) (value_of v.names c) v.state)
  exchange_is v i c e h = exchange_half v i e ∙ on_held v.names cells b c (λ new. on_value (read (values_in v.names cells) a) (λ w. swap_element w (value_of v.names i) new v.state)) h

  exchange_new : (v : View) (i : Cell) → held cells x ≡ Some i → IsRight (exchanges to a x b (values_in v.names cells) v.state).answer → (c : Cell) × (held cells b ≡ Some c)
  exchange_new v i e right = on_there v.names cells b (λ new. on_value (read (values_in v.names cells) a) (λ w. swap_element w (value_of v.names i) new v.state)) (subst IsRight (exchange_half v i e) right)

  pub exchange_value : CanDo (exchanges to a x b) heap cells → (c : Cell) × (held cells b ≡ Some c)
  exchange_value can = let i = exchange_index can.view can.right in exchange_new can.view i.0 i.1 can.right

  pub exchange_place : CanDo (exchanges to a x b) heap cells → (p : Place) × (place_in (held cells a) ≡ Some p)
  exchange_place can =
      let v = can.view in
      let i = exchange_index v can.right in
      let c = exchange_new v i.0 i.1 can.right in
      leads v.names cells a v.state (on_exchange i.0 c.0 v) (subst IsRight (exchange_is v i.0 c.0 i.1 c.1) can.right)

  pub exchange_number : (p : Place) (body : Body) → CanDo (exchanges to a x b) heap cells → place_in (held cells a) ≡ Some p → StandsFound heap p (Some body) → (z : ℤ) × (held cells x ≡ Some (Int z))
  exchange_number p body can at found =
      let v = can.view in
      let i = exchange_index v can.right in
      let c = exchange_new v i.0 i.1 can.right in
      let means = finds v heap cells can.agrees a p at (Some body) found in
      let z = swapped_number v.names i.0 (name_at v.names p) means.0 (value_of v.names c.0) v.state (subst IsRight (exchange_is v i.0 c.0 i.1 c.1 ∙ on_living v heap cells can.agrees a p at (on_exchange i.0 c.0 v) means.0 means.1) can.right) in
      (z.0, i.1 ∙ ap (λ y. Some y) z.1)

  pub exchange_dead : (p : Place) (new : HeapState) (after : List (Option Cell)) → place_in (held cells a) ≡ Some p → StandsFound heap p None → Follows (exchanges to a x b) heap cells (effect.Trap DeadReference) new after
  exchange_dead p new after at found v agrees right =
      let i = exchange_index v right in
      let c = exchange_new v i.0 i.1 right in
      exchange_is v i.0 c.0 i.1 c.1 ∙ on_dead v heap cells agrees a p at (on_exchange i.0 c.0 v) (finds v heap cells agrees a p at None found)

  pub exchange_outside : (p : Place) (body : Body) (z : ℤ) (new : HeapState) (after : List (Option Cell)) → place_in (held cells a) ≡ Some p → StandsFound heap p (Some body) → held cells x ≡ Some (Int z)
      → found_index z (length body.cells) ≡ None → Follows (exchanges to a x b) heap cells (effect.Trap IndexOutOfRange) new after
  exchange_outside p body z new after at found e none v agrees right =
      let c = exchange_new v (Int z) e right in
      let means = finds v heap cells agrees a p at (Some body) found in
      let many = as_many v.names body.cells means.0.values means.3 in
      exchange_is v (Int z) c.0 e c.1
      ∙ on_living v heap cells agrees a p at (on_exchange (Int z) c.0 v) means.0 means.1
      ∙ swapped_none z (name_at v.names p) means.0 (value_of v.names c.0) v.state (sym (ap (found_index z) many) ∙ none)

  pub exchange_found : (p : Place) (body left : Body) (z : ℤ) (k : ℕ) (c was : Cell) (mid after : List (Option Cell)) → place_in (held cells a) ≡ Some p → look_in heap p ≡ Some body → StandsFound heap p (Some body) → StandsChanged heap p left
      → left.kind ≡ body.kind → left.cells ≡ slice_set body.cells k c → held cells x ≡ Some (Int z) → found_index z (length body.cells) ≡ Some k → held cells b ≡ Some c → mid ≡ kept_cells (held cells b) b cells
      → slice_get body.cells k ≡ Some was → after ≡ slice_set mid to (Some was) → to < length cells → Follows (exchanges to a x b) heap cells effect.Done (lends.changed heap p left) after
  exchange_found p body left z k c was mid after at there found stands kind cells_are e some new kept got is room v agrees right =
      let n = name_at v.names p in
      let means = finds v heap cells agrees a p at (Some body) found in
      let o = means.0 in
      let y = value_of v.names c in
      let many = as_many v.names body.cells o.values means.3 in
      let f = field_is v.names k body.cells o.values was means.3 got in
      let knows : Knows v.names (Some c) = subst (Knows v.names) new (agrees.known b) in
      let denote : DenoteAll v.names left.cells (slice_set o.values k y) =
      subst (λ cs. DenoteAll v.names cs (slice_set o.values k y)) (sym cells_are) (denote_set v.names k body.cells o.values c y means.3 (is_denoted v.names c knows)) in
      let s : State = changed n o (slice_set o.values k y) v.state in
      let u : View = record v { state = s } in
      let stood = changes v heap cells p o body left (slice_set o.values k y) agrees (known v heap cells agrees a p at) there stands means.1 (kind ∙ means.2) denote in
      let kp = kept_from v heap cells mid b c agrees new kept in
      let size = kept_size cells mid b kept in
      let still : Agrees u (lends.changed heap p left) mid = record { stands = stood; regions = agrees.regions; known = kp.agrees.known } in
      let w = written_to u (lends.changed heap p left) mid after to was still (denotes_known v.names was f.value f.denotes) (omega (arith, room, size)) is in
      record {
        view = u;
        value = Some (value_of v.names was);
        grows = same_names v s;
        steady = record { left = refl; spent = refl; pieces = refl; frozen = refl; quiet = refl };
        agrees = w.agrees;
        is =
            exchange_is v (Int z) c e new
            ∙ on_living v heap cells agrees a p at (on_exchange (Int z) c v) o means.1
            ∙ swapped_some z n o y v.state k (sym (ap (found_index z) many) ∙ some)
            ∙ ap (λ g. element_swapped_in g n o k y v.state) f.got
            ∙ ap (λ g. gives (Some g) s) (sym (denotes_is v.names agrees.stands.at.apart was f.value f.denotes));
        registers = w.is ∙ ap (λ rs. put rs to (Some (value_of v.names was))) kp.is;
      }

-- ---- elements at the end

denote_more : (names : List Place) (cells : List Cell) (values : List Value) (c : Cell) (w : Value) → DenoteAll names cells values → Denotes names c w → DenoteAll names (cells ++ c ∷ []) (values ++ w ∷ [])
denote_more names [] [] c w d e = (e, tt)
denote_more names (b ∷ bs) (v ∷ vs) c w d e = (d.0, denote_more names bs vs c w d.1 e)
denote_more names [] (v ∷ vs) c w d e = absurd d
denote_more names (b ∷ bs) [] c w d e = absurd d

-- the values of cells, the last one apart
record Parted (names : List Place) (cells : List Cell) (c : Cell) (values : List Value) : Type 0 where
  front : List Value
  last : Value
  is : values ≡ front ++ last ∷ []
  rest : DenoteAll names cells front
  denotes : Denotes names c last

parted : (names : List Place) (cells : List Cell) (c : Cell) (values : List Value) → DenoteAll names (cells ++ c ∷ []) values → Parted names cells c values
parted names [] c [] d = absurd d
parted names [] c (v ∷ []) d = record { front = []; last = v; is = refl; rest = tt; denotes = d.0 }
parted names [] c (v ∷ w ∷ ws) d = absurd d.1
parted names (b ∷ bs) c [] d = absurd d
parted names (b ∷ bs) c (v ∷ vs) d = let h = parted names bs c vs d.1 in record { front = v ∷ h.front; last = h.last; is = ap (λ l. v ∷ l) h.is; rest = (d.0, h.rest); denotes = h.denotes }

last_is : (v : Value) (vs : List Value) (w : Value) → last_from v (vs ++ w ∷ []) ≡ w
last_is v [] w = refl
last_is v (u ∷ us) w = last_is u us w

front_is : (v : Value) (vs : List Value) (w : Value) → front_from v (vs ++ w ∷ []) ≡ v ∷ vs
front_is v [] w = refl
front_is v (u ∷ us) w = ap (λ l. v ∷ l) (front_is u us w)

popped_is : (n : ℕ) (o : Object) (front : List Value) (w : Value) (s : State) → popped n o (front ++ w ∷ []) s ≡ gives (Some w) (changed n o front s)
popped_is n o [] w s = refl
popped_is n o (v ∷ vs) w s = λ i. gives (Some (last_is v vs w i)) (changed n o (front_is v vs w i) s)

module _ (a b : ℕ) (heap : HeapState) (cells : List (Option Cell)) where
  abbrev on_push : Cell → View → ℕ → Object → Answer
  on_push c v n o = if nat_lt (length o.values) width_limit then gives None (changed n o (o.values ++ value_of v.names c ∷ []) v.state) else traps ArrayTooLong

  push_new : (v : View) → IsRight (pushes a b (values_in v.names cells) v.state).answer → (c : Cell) × (held cells b ≡ Some c)
  push_new v right = on_there v.names cells b (λ new. on_value (read (values_in v.names cells) a) (λ w. push w new v.state)) right

  push_is : (v : View) (c : Cell) → held cells b ≡ Some c → (pushes a b (values_in v.names cells) v.state).answer ≡ on_value (read (values_in v.names cells) a) (λ w. push w (value_of v.names c) v.state)
  push_is v c e = on_held v.names cells b c (λ new. on_value (read (values_in v.names cells) a) (λ w. push w new v.state)) e

  pub push_value : CanDo (pushes a b) heap cells → (c : Cell) × (held cells b ≡ Some c)
  push_value can = push_new can.view can.right

  pub push_place : CanDo (pushes a b) heap cells → (p : Place) × (place_in (held cells a) ≡ Some p)
  push_place can =
      let v = can.view in
      let c = push_new v can.right in
      leads v.names cells a v.state (on_push c.0 v) (subst IsRight (push_is v c.0 c.1) can.right)

  pub push_dead : (p : Place) (new : HeapState) (after : List (Option Cell)) → place_in (held cells a) ≡ Some p → StandsFound heap p None → Follows (pushes a b) heap cells (effect.Trap DeadReference) new after
  push_dead p new after at found v agrees right =
      let c = push_new v right in
      push_is v c.0 c.1 ∙ on_dead v heap cells agrees a p at (on_push c.0 v) (finds v heap cells agrees a p at None found)

  pub push_full : (p : Place) (body : Body) (new : HeapState) (after : List (Option Cell)) → place_in (held cells a) ≡ Some p → StandsFound heap p (Some body) → width_limit ≤ length body.cells
      → Follows (pushes a b) heap cells (effect.Trap ArrayTooLong) new after
  push_full p body new after at found full v agrees right =
      let c = push_new v right in
      let means = finds v heap cells agrees a p at (Some body) found in
      let many = as_many v.names body.cells means.0.values means.3 in
      push_is v c.0 c.1
      ∙ on_living v heap cells agrees a p at (on_push c.0 v) means.0 means.1
      ∙ too_many (length means.0.values) (gives None (changed (name_at v.names p) means.0 (means.0.values ++ value_of v.names c.0 ∷ []) v.state)) (subst (λ n. width_limit ≤ n) many full)
    where
      by_test : (n : ℕ) (x : Answer) (t : Bool) → nat_lt n width_limit ≡ t → width_limit ≤ n → (if t then x else traps ArrayTooLong) ≡ traps ArrayTooLong
      by_test n x true e le = absurd (let lt = ltb-true n width_limit e in omega (arith, lt, le))
      by_test n x false e le = refl

      too_many : (n : ℕ) (x : Answer) → width_limit ≤ n → (if nat_lt n width_limit then x else traps ArrayTooLong) ≡ traps ArrayTooLong
      too_many n x le = by_test n x (nat_lt n width_limit) refl le

  pub push_found : (p : Place) (body left : Body) (c : Cell) (after : List (Option Cell)) → place_in (held cells a) ≡ Some p → look_in heap p ≡ Some body → StandsFound heap p (Some body) → StandsChanged heap p left
      → left.kind ≡ body.kind → left.cells ≡ body.cells ++ c ∷ [] → length body.cells < width_limit → held cells b ≡ Some c → after ≡ kept_cells (held cells b) b cells
      → Follows (pushes a b) heap cells effect.Done (lends.changed heap p left) after
  push_found p body left c after at there found stands kind cells_are few new kept v agrees right =
      let n = name_at v.names p in
      let means = finds v heap cells agrees a p at (Some body) found in
      let o = means.0 in
      let y = value_of v.names c in
      let many = as_many v.names body.cells o.values means.3 in
      let knows : Knows v.names (Some c) = subst (Knows v.names) new (agrees.known b) in
      let denote : DenoteAll v.names left.cells (o.values ++ y ∷ []) =
      subst (λ cs. DenoteAll v.names cs (o.values ++ y ∷ [])) (sym cells_are) (denote_more v.names body.cells o.values c y means.3 (is_denoted v.names c knows)) in
      let s : State = changed n o (o.values ++ y ∷ []) v.state in
      let u : View = record v { state = s } in
      let stood = changes v heap cells p o body left (o.values ++ y ∷ []) agrees (known v heap cells agrees a p at) there stands means.1 (kind ∙ means.2) denote in
      let kp = kept_from v heap cells after b c agrees new kept in
      record {
        view = u;
        value = None;
        grows = same_names v s;
        steady = record { left = refl; spent = refl; pieces = refl; frozen = refl; quiet = refl };
        agrees = record { stands = stood; regions = agrees.regions; known = kp.agrees.known };
        is =
            push_is v c new
            ∙ on_living v heap cells agrees a p at (on_push c v) o means.1
            ∙ fits (length o.values) (gives None s) (subst (λ k. k < width_limit) many few);
        registers = kp.is;
      }
    where
      by_test : (n : ℕ) (x : Answer) (t : Bool) → nat_lt n width_limit ≡ t → n < width_limit → (if t then x else traps ArrayTooLong) ≡ x
      by_test n x true e lt = refl
      by_test n x false e lt = absurd (let le = ltb-false n width_limit e in omega (arith, lt, le))

      fits : (n : ℕ) (x : Answer) → n < width_limit → (if nat_lt n width_limit then x else traps ArrayTooLong) ≡ x
      fits n x lt = by_test n x (nat_lt n width_limit) refl lt

module _ (to a : ℕ) (heap : HeapState) (cells : List (Option Cell)) where
  abbrev on_pop : State → ℕ → Object → Answer
  on_pop s n o = popped n o o.values s

  pub pop_place : CanDo (pops to a) heap cells → (p : Place) × (place_in (held cells a) ≡ Some p)
  pop_place can = leads can.view.names cells a can.view.state (on_pop can.view.state) can.right

  pub pop_dead : (p : Place) (new : HeapState) (after : List (Option Cell)) → place_in (held cells a) ≡ Some p → StandsFound heap p None → Follows (pops to a) heap cells (effect.Trap DeadReference) new after
  pop_dead p new after at found v agrees right = on_dead v heap cells agrees a p at (on_pop v.state) (finds v heap cells agrees a p at None found)

  none_denoted : (names : List Place) (cs : List Cell) (values : List Value) → DenoteAll names cs values → cs ≡ [] → values ≡ []
  none_denoted names cs [] d e = refl
  none_denoted names [] (v ∷ vs) d e = absurd d
  none_denoted names (c ∷ cs) (v ∷ vs) d e = absurd (let y : ⊥ = cc in y)

  pub pop_empty : (p : Place) (body : Body) (new : HeapState) (after : List (Option Cell)) → place_in (held cells a) ≡ Some p → StandsFound heap p (Some body) → body.cells ≡ []
      → Follows (pops to a) heap cells (effect.Trap EmptyPop) new after
  pop_empty p body new after at found none v agrees right =
      let means = finds v heap cells agrees a p at (Some body) found in
      on_living v heap cells agrees a p at (on_pop v.state) means.0 means.1
      ∙ ap (λ vs. popped (name_at v.names p) means.0 vs v.state) (none_denoted v.names body.cells means.0.values means.3 none)

  pub pop_found : (p : Place) (body left : Body) (was : Cell) (after : List (Option Cell)) → place_in (held cells a) ≡ Some p → look_in heap p ≡ Some body → StandsFound heap p (Some body) → StandsChanged heap p left
      → left.kind ≡ body.kind → body.cells ≡ left.cells ++ was ∷ [] → after ≡ slice_set cells to (Some was) → to < length cells
      → Follows (pops to a) heap cells effect.Done (lends.changed heap p left) after
  pop_found p body left was after at there found stands kind cells_are is room v agrees right =
      let n = name_at v.names p in
      let means = finds v heap cells agrees a p at (Some body) found in
      let o = means.0 in
      let h = parted v.names left.cells was o.values (subst (λ cs. DenoteAll v.names cs o.values) cells_are means.3) in
      let s : State = changed n o h.front v.state in
      let u : View = record v { state = s } in
      let stood = changes v heap cells p o body left h.front agrees (known v heap cells agrees a p at) there stands means.1 (kind ∙ means.2) h.rest in
      let still : Agrees u (lends.changed heap p left) cells = record { stands = stood; regions = agrees.regions; known = agrees.known } in
      let w = written_to u (lends.changed heap p left) cells after to was still (denotes_known v.names was h.last h.denotes) room is in
      record {
        view = u;
        value = Some (value_of v.names was);
        grows = same_names v s;
        steady = record { left = refl; spent = refl; pieces = refl; frozen = refl; quiet = refl };
        agrees = w.agrees;
        is =
            on_living v heap cells agrees a p at (on_pop v.state) o means.1
            ∙ ap (λ vs. popped n o vs v.state) h.is
            ∙ popped_is n o h.front h.last v.state
            ∙ ap (λ g. gives (Some g) s) (sym (denotes_is v.names agrees.stands.at.apart was h.last h.denotes));
        registers = w.is;
      }
