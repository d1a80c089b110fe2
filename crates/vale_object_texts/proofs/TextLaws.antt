-- Texts that are made or read, by names.
use Rattle.std.proofs.Common.{◌≡◌, ℕ, ◌+◌, ◌<◌, ◌^◌, ℤ, pos, List, length, Bool, Option, Some, None, refl, sym, ap, subst, ◌∙◌, arith}
use Rattle.std.specs.Prelude.{IfOk, Ok, Result, slice_get, slice_set}
use Rattle.std.proofs.lemmas.Option.{slice_get_within}
use Rattle.vale_base.specs.declared.fault.Fail.{Fail}
use Rattle.vale_base.specs.declared.spot.Spot.{Spot}
use Rattle.vale_base.specs.declared.trap.TrapKind.{TrapKind}
use Rattle.vale_state_spec.specs.State.{Answer, State, fails, gives, traps}
use Rattle.vale_state_spec.specs.World.{Value}
use Rattle.vale_state_spec.specs.World.{Int as number, Truth as truth, Text as text, Own as owner, Ref as reference, Iso as isolate}
use Rattle.vale_code.specs.Frames.{Next}
use Rattle.vale_code.specs.Instructions.{answered, certain, onward, text_length, with_choice, with_value}
use Rattle.vale_code.specs.Parts.{Parts}
use Rattle.vale_code.specs.Registers.{put, read}
use Rattle.vale_code.specs.declared.instr.Instr.{Instr}
use Rattle.vale_code.specs.declared.instr.Instr.TheVariants as i
use Rattle.vale_text.specs.Gives.{Gives}
use Rattle.vale_text.specs.Operations as o
use Rattle.vale_text.specs.Steps as step
use Rattle.vale_text.specs.Steps.{gives_int, gives_text, gives_truth, on_int, on_text}
use Rattle.vale_heap.specs.HeapState.{HeapState}
use Rattle.vale_heap.specs.declared.body.Cell.{Cell}
use Rattle.vale_heap.specs.declared.body.Cell.TheVariants.{Int, Truth, Text}
use Rattle.vale_turn.specs.View.{IsRight}
use Rattle.vale_turn.specs.declared.stop.Stop.{Stop}
use Rattle.vale_turn.specs.declared.stop.Stop.TheVariants as stop
use Rattle.vale_object_cells.specs.Cells.{HoldsInt, cells_in, held}
use Rattle.vale_object_cells.specs.Names.{values_in}
use Rattle.vale_object_cells.specs.declared.register.Register.{Register}
use Rattle.vale_object_cells.proofs.Holding.{within}
use Rattle.vale_object_compares.proofs.CompareLaws.{holds_text, reads}
use Rattle.vale_object_numbers.proofs.NumberLaws.{holds_int, wrote}
use Rattle.vale_object_steps.specs.Views.{View}
use Rattle.vale_object_turn.specs.Steps.{HasRule, Obeys, Scene, Stepped, active, next_of}
use Rattle.vale_object_turn.proofs.Stepping.{if_ok}
use Rattle.vale_object_texts.specs.Texts.{HasRuleIn, Lands, ObeysIn}

-- a spot for what has no trap
abbrev pub nowhere : Spot
nowhere = record { line = 0; col = 0 }

-- ---- where what an operation comes to goes

module _ (to : ℕ) (at : Spot) (cells new : List (Option Cell)) (place : ℕ) where
  pub lands_text : (x : List ℕ) → to < length cells → new ≡ slice_set cells to (Some (Text x)) → Lands to at (λ s. gives_text s (Ok x)) cells place stop.Going new (place + 1)
  lands_text x lt is heap left s v runs =
      wrote heap cells place left s v to (Text x) new (answered (active s v place cells) (Some to) (values_in v.names cells) at s.below v.state (gives_text v.state (Ok x))) (λ p h. let y : ⊥ = cc in y) lt is runs refl

  pub lands_int : (z : ℤ) → to < length cells → new ≡ slice_set cells to (Some (Int z)) → Lands to at (λ s. gives_int s (Ok z)) cells place stop.Going new (place + 1)
  lands_int z lt is heap left s v runs =
      wrote heap cells place left s v to (Int z) new (answered (active s v place cells) (Some to) (values_in v.names cells) at s.below v.state (gives_int v.state (Ok z))) (λ p h. let y : ⊥ = cc in y) lt is runs refl

  pub lands_truth : (b : Bool) → to < length cells → new ≡ slice_set cells to (Some (Truth b)) → Lands to at (λ s. gives_truth s b) cells place stop.Going new (place + 1)
  lands_truth b lt is heap left s v runs =
      wrote heap cells place left s v to (Truth b) new (answered (active s v place cells) (Some to) (values_in v.names cells) at s.below v.state (gives_truth v.state b)) (λ p h. let y : ⊥ = cc in y) lt is runs refl

  pub lands_trap : (kind : TrapKind) (answer : State → Answer) (new_place : ℕ) → ((s : State) → answer s ≡ traps kind) → Lands to at answer cells place (stop.Trap kind at) new new_place
  lands_trap kind answer new_place e heap left s v runs = ap (answered (active s v place cells) (Some to) (values_in v.names cells) at s.below v.state) (e v.state)

-- a text that was made goes to the register, where this is what the operation gives
pub lands_made : {F : Type 0} (outcome : Result (List ℕ) (Fail TrapKind)) (x : List ℕ) (r : Result Stop F) (to : ℕ) (at : Spot) (cells new : List (Option Cell)) (place new_place : ℕ) → outcome ≡ Ok x → IfOk r (λ told. (at : Spot) → Lands to at (λ s. gives_text s (Ok x)) cells place told new new_place)
    → IfOk r (λ told. (meaning : Result (List ℕ) TrapKind) → Gives outcome meaning → Lands to at (λ s. gives_text s meaning) cells place told new new_place)
lands_made outcome x r to at cells new place new_place e lands =
    if_ok r (λ told. (at : Spot) → Lands to at (λ s. gives_text s (Ok x)) cells place told new new_place) (λ told. (meaning : Result (List ℕ) TrapKind) → Gives outcome meaning → Lands to at (λ s. gives_text s meaning) cells place told new new_place) lands
    (λ told made meaning g. subst (λ (m : Result (List ℕ) TrapKind). Lands to at (λ s. gives_text s m) cells place told new new_place) (sym (subst (λ (o : Result (List ℕ) (Fail TrapKind)). Gives o meaning) e g)) (made at))

-- ---- what instructions lead to

module _ (cells : List (Option Cell)) (place to : ℕ) (at : Spot) where
  abbrev pub LeadsTo : Instr → (State → Answer) → Type 0
  LeadsTo instr answer = (s : Scene) (v : View) → next_of s v place cells instr ≡ answered (active s v place cells) (Some to) (values_in v.names cells) at s.below v.state (answer v.state)

  pub obeys : (instr same : Instr) → instr ≡ same → (answer : State → Answer) (told : Stop) (new : List (Option Cell)) (new_place : ℕ) → LeadsTo same answer → Lands to at answer cells place told new new_place
      → (heap : HeapState) (left : ℕ) → Obeys instr heap cells place left told heap new new_place left
  obeys instr same is answer told new new_place leads lands heap left =
      subst (λ j. Obeys j heap cells place left told heap new new_place left) (sym is)
      (λ s v runs right. subst (λ next. Stepped s v place cells told next heap new new_place left) (sym (leads s v)) (lands heap left s v runs))

  -- the same of a text that was made, or that an operation gives
  pub obeys_taken : {F : Type 0} (instr same : Instr) → instr ≡ same → (x : List ℕ) (r : Result Stop F) (new : List (Option Cell)) (new_place : ℕ) → LeadsTo same (λ s. gives_text s (Ok x)) → IfOk r (λ told. (at : Spot) → Lands to at (λ s. gives_text s (Ok x)) cells place told new new_place)
      → IfOk r (λ told. (heap : HeapState) (left : ℕ) → Obeys instr heap cells place left told heap new new_place left)
  obeys_taken instr same is x r new new_place leads lands =
      if_ok r (λ told. (at : Spot) → Lands to at (λ s. gives_text s (Ok x)) cells place told new new_place) (λ told. (heap : HeapState) (left : ℕ) → Obeys instr heap cells place left told heap new new_place left) lands
      (λ told made. obeys instr same is (λ s. gives_text s (Ok x)) told new new_place leads (made at))

  pub obeys_given : {F : Type 0} (instr same : Instr) → instr ≡ same → (outcome : Result (List ℕ) (Fail TrapKind)) (meaning : Result (List ℕ) TrapKind) → Gives outcome meaning → (r : Result Stop F) (new : List (Option Cell)) (new_place : ℕ) → LeadsTo same (λ s. gives_text s meaning)
      → IfOk r (λ told. (meaning : Result (List ℕ) TrapKind) → Gives outcome meaning → Lands to at (λ s. gives_text s meaning) cells place told new new_place) → IfOk r (λ told. (heap : HeapState) (left : ℕ) → Obeys instr heap cells place left told heap new new_place left)
  obeys_given instr same is outcome meaning g r new new_place leads lands =
      if_ok r (λ told. (meaning : Result (List ℕ) TrapKind) → Gives outcome meaning → Lands to at (λ s. gives_text s meaning) cells place told new new_place) (λ told. (heap : HeapState) (left : ℕ) → Obeys instr heap cells place left told heap new new_place left) lands
      (λ told made. obeys instr same is (λ s. gives_text s meaning) told new new_place leads (made meaning g))

  -- the same of an answer that is told otherwise
  pub leads_as : {A : Type 0} (instr : Instr) (go : State → A → Answer) (x y : A) → y ≡ x → LeadsTo instr (λ s. go s x) → LeadsTo instr (λ s. go s y)
  leads_as instr go x y is leads s v = leads s v ∙ ap (λ a. answered (active s v place cells) (Some to) (values_in v.names cells) at s.below v.state (go v.state a)) (sym is)

  pub joined : (a b : ℕ) (x y : List ℕ) → held cells a ≡ Some (Text x) → held cells b ≡ Some (Text y) → LeadsTo (i.Join to a b at) (λ s. gives_text s (o.join x y))
  joined a b x y e h s v =
      let regs = values_in v.names cells in
      let told = answered (active s v place cells) (Some to) regs at s.below v.state in
      ap (λ p. with_value p v.state (λ u. with_value (read regs b) v.state (λ w. told (step.join u w v.state)))) (reads v.names cells a (Text x) e)
      ∙ ap (λ q. with_value q v.state (λ w. told (step.join (text x) w v.state))) (reads v.names cells b (Text y) h)

  pub sliced : (a m n : ℕ) (x : List ℕ) (y z : ℤ) → held cells a ≡ Some (Text x) → held cells m ≡ Some (Int y) → held cells n ≡ Some (Int z) → LeadsTo (i.Slice to a m n at) (λ s. gives_text s (o.slice x y z))
  sliced a m n x y z e h k s v =
      let regs = values_in v.names cells in
      let told = answered (active s v place cells) (Some to) regs at s.below v.state in
      ap (λ p. with_value p v.state (λ t. with_value (read regs m) v.state (λ u. with_value (read regs n) v.state (λ w. told (step.slice t u w v.state))))) (reads v.names cells a (Text x) e)
      ∙ ap (λ p. with_value p v.state (λ u. with_value (read regs n) v.state (λ w. told (step.slice (text x) u w v.state)))) (reads v.names cells m (Int y) h)
      ∙ ap (λ p. with_value p v.state (λ w. told (step.slice (text x) (number y) w v.state))) (reads v.names cells n (Int z) k)

  pub spelled : (a : ℕ) (z : ℤ) → held cells a ≡ Some (Int z) → LeadsTo (i.TextOf to a) (λ s. gives_text s (Ok (o.text_of z)))
  spelled a z e s v = ap (λ p. with_value p v.state (λ u. certain (active s v place cells) (Some to) (values_in v.names cells) s.below v.state (step.text_of u v.state))) (reads v.names cells a (Int z) e)

  pub measured : (a : ℕ) (x : List ℕ) → held cells a ≡ Some (Text x) → LeadsTo (i.TextLen to a) (λ s. gives_int s (Ok (pos (length x))))
  measured a x e s v = ap (λ p. with_value p v.state (λ u. certain (active s v place cells) (Some to) (values_in v.names cells) s.below v.state (text_length u v.state))) (reads v.names cells a (Text x) e)

  pub picked : (a n : ℕ) (x : List ℕ) (z : ℤ) → held cells a ≡ Some (Text x) → held cells n ≡ Some (Int z) → LeadsTo (i.Byte to a n at) (λ s. gives_int s (o.byte x z))
  picked a n x z e h s v =
      let regs = values_in v.names cells in
      let told = answered (active s v place cells) (Some to) regs at s.below v.state in
      ap (λ p. with_value p v.state (λ u. with_value (read regs n) v.state (λ w. told (step.byte u w v.state)))) (reads v.names cells a (Text x) e)
      ∙ ap (λ q. with_value q v.state (λ w. told (step.byte (text x) w v.state))) (reads v.names cells n (Int z) h)

  pub tested : (a : ℕ) (x : List ℕ) → held cells a ≡ Some (Text x) → LeadsTo (i.IsNum to a) (λ s. gives_truth s (o.is_number x))
  tested a x e s v = ap (λ p. with_value p v.state (λ u. certain (active s v place cells) (Some to) (values_in v.names cells) s.below v.state (step.is_number u v.state))) (reads v.names cells a (Text x) e)

  pub numbered : (a : ℕ) (x : List ℕ) → held cells a ≡ Some (Text x) → LeadsTo (i.Num to a at) (λ s. gives_int s (o.number x))
  numbered a x e s v = ap (λ p. with_value p v.state (λ u. answered (active s v place cells) (Some to) (values_in v.names cells) at s.below v.state (step.number u v.state))) (reads v.names cells a (Text x) e)

-- ---- what a rule tells of operands

there : (p : Option Value) (s : State) (go : Value → Next) → IsRight (with_value p s go) → (v : Value) × (p ≡ Some v) × IsRight (go v)
there None s go r = absurd r
there (Some v) s go r = (v, refl, r)

module _ (told : Answer → Next) (never : IsRight (told fails) → ⊥) where
  on_texts : (go : List ℕ → Answer) (v : Value) → IsRight (told (on_text v go)) → (x : List ℕ) × (v ≡ text x) × IsRight (told (go x))
  on_texts go (text x) r = (x, refl, r)
  on_texts go (number x) r = absurd (never r)
  on_texts go (truth x) r = absurd (never r)
  on_texts go (owner x) r = absurd (never r)
  on_texts go (reference x) r = absurd (never r)
  on_texts go (isolate x) r = absurd (never r)

  on_numbers : (go : ℤ → Answer) (v : Value) → IsRight (told (on_int v go)) → (x : ℤ) × (v ≡ number x) × IsRight (told (go x))
  on_numbers go (number x) r = (x, refl, r)
  on_numbers go (text x) r = absurd (never r)
  on_numbers go (truth x) r = absurd (never r)
  on_numbers go (owner x) r = absurd (never r)
  on_numbers go (reference x) r = absurd (never r)
  on_numbers go (isolate x) r = absurd (never r)

module _ (t : ℕ → List ℕ) (rs : List Register) (place : ℕ) (instr : Instr) (h : (heap : HeapState) × (left : ℕ) × HasRule heap (cells_in t rs) place left instr) where
  abbrev pub HasText : ℕ → Type 0
  HasText a = held (cells_in t rs) a ≡ Some (Text (t a))

  abbrev RuleOf : Instr → Type 0
  RuleOf same = HasRule h.0 (cells_in t rs) place h.1 same

  is_text : (same : Instr) (r : RuleOf same) (a : ℕ) (v : Value) (x : List ℕ) → read (values_in r.view.names (cells_in t rs)) a ≡ Some v → v ≡ text x → HasText a
  is_text same r a v x e k = holds_text r.view.names t rs a x (e ∙ ap Some k)

  is_int : (same : Instr) (r : RuleOf same) (a : ℕ) (v : Value) (x : ℤ) → read (values_in r.view.names (cells_in t rs)) a ≡ Some v → v ≡ number x → HoldsInt rs a
  is_int same r a v x e k = (t, x, holds_int r.view.names (cells_in t rs) a x (e ∙ ap Some k))

  pub joins : (to a b : ℕ) (at : Spot) → instr ≡ i.Join to a b at → HasText a × HasText b
  joins to a b at e =
      let r : RuleOf (i.Join to a b at) = subst RuleOf e h.2 in
      let regs = values_in r.view.names (cells_in t rs) in
      let s = r.view.state in
      let told = answered (active r.scene r.view place (cells_in t rs)) (Some to) regs at r.scene.below s in
      let p = there (read regs a) s (λ v. with_value (read regs b) s (λ w. told (step.join v w s))) r.right in
      let q = there (read regs b) s (λ w. told (step.join p.0 w s)) p.2 in
      let x = on_texts told (λ w. w) (λ x. on_text q.0 (λ y. gives_text s (o.join x y))) p.0 q.2 in
      let y = on_texts told (λ w. w) (λ y. gives_text s (o.join x.0 y)) q.0 x.2 in
      (is_text (i.Join to a b at) r a p.0 x.0 p.1 x.1, is_text (i.Join to a b at) r b q.0 y.0 q.1 y.1)

  pub slices : (to a m n : ℕ) (at : Spot) → instr ≡ i.Slice to a m n at → HasText a × HoldsInt rs m × HoldsInt rs n
  slices to a m n at e =
      let same = i.Slice to a m n at in
      let r : RuleOf same = subst RuleOf e h.2 in
      let regs = values_in r.view.names (cells_in t rs) in
      let s = r.view.state in
      let told = answered (active r.scene r.view place (cells_in t rs)) (Some to) regs at r.scene.below s in
      let p = there (read regs a) s (λ v. with_value (read regs m) s (λ u. with_value (read regs n) s (λ w. told (step.slice v u w s)))) r.right in
      let q = there (read regs m) s (λ u. with_value (read regs n) s (λ w. told (step.slice p.0 u w s))) p.2 in
      let k = there (read regs n) s (λ w. told (step.slice p.0 q.0 w s)) q.2 in
      let x = on_texts told (λ w. w) (λ x. on_int q.0 (λ y. on_int k.0 (λ z. gives_text s (o.slice x y z)))) p.0 k.2 in
      let y = on_numbers told (λ w. w) (λ y. on_int k.0 (λ z. gives_text s (o.slice x.0 y z))) q.0 x.2 in
      let z = on_numbers told (λ w. w) (λ z. gives_text s (o.slice x.0 y.0 z)) k.0 y.2 in
      (is_text same r a p.0 x.0 p.1 x.1, is_int same r m q.0 y.0 q.1 y.1, is_int same r n k.0 z.0 k.1 z.1)

  pub spells : (to a : ℕ) → instr ≡ i.TextOf to a → HoldsInt rs a
  spells to a e =
      let same = i.TextOf to a in
      let r : RuleOf same = subst RuleOf e h.2 in
      let regs = values_in r.view.names (cells_in t rs) in
      let s = r.view.state in
      let told = certain (active r.scene r.view place (cells_in t rs)) (Some to) regs r.scene.below s in
      let p = there (read regs a) s (λ v. told (step.text_of v s)) r.right in
      let x = on_numbers told (λ w. w) (λ x. gives_text s (Ok (o.text_of x))) p.0 p.2 in
      is_int same r a p.0 x.0 p.1 x.1

  pub measures : (to a : ℕ) → instr ≡ i.TextLen to a → HasText a
  measures to a e =
      let same = i.TextLen to a in
      let r : RuleOf same = subst RuleOf e h.2 in
      let regs = values_in r.view.names (cells_in t rs) in
      let s = r.view.state in
      let told = certain (active r.scene r.view place (cells_in t rs)) (Some to) regs r.scene.below s in
      let p = there (read regs a) s (λ v. told (text_length v s)) r.right in
      let x = on_texts told (λ w. w) (λ x. gives (Some (number (pos (length x)))) s) p.0 p.2 in
      is_text same r a p.0 x.0 p.1 x.1

  pub picks : (to a n : ℕ) (at : Spot) → instr ≡ i.Byte to a n at → HasText a × HoldsInt rs n
  picks to a n at e =
      let same = i.Byte to a n at in
      let r : RuleOf same = subst RuleOf e h.2 in
      let regs = values_in r.view.names (cells_in t rs) in
      let s = r.view.state in
      let told = answered (active r.scene r.view place (cells_in t rs)) (Some to) regs at r.scene.below s in
      let p = there (read regs a) s (λ v. with_value (read regs n) s (λ w. told (step.byte v w s))) r.right in
      let q = there (read regs n) s (λ w. told (step.byte p.0 w s)) p.2 in
      let x = on_texts told (λ w. w) (λ x. on_int q.0 (λ y. gives_int s (o.byte x y))) p.0 q.2 in
      let y = on_numbers told (λ w. w) (λ y. gives_int s (o.byte x.0 y)) q.0 x.2 in
      (is_text same r a p.0 x.0 p.1 x.1, is_int same r n q.0 y.0 q.1 y.1)

  pub tests : (to a : ℕ) → instr ≡ i.IsNum to a → HasText a
  tests to a e =
      let same = i.IsNum to a in
      let r : RuleOf same = subst RuleOf e h.2 in
      let regs = values_in r.view.names (cells_in t rs) in
      let s = r.view.state in
      let told = certain (active r.scene r.view place (cells_in t rs)) (Some to) regs r.scene.below s in
      let p = there (read regs a) s (λ v. told (step.is_number v s)) r.right in
      let x = on_texts told (λ w. w) (λ x. gives_truth s (o.is_number x)) p.0 p.2 in
      is_text same r a p.0 x.0 p.1 x.1

  pub numbers : (to a : ℕ) (at : Spot) → instr ≡ i.Num to a at → HasText a
  numbers to a at e =
      let same = i.Num to a at in
      let r : RuleOf same = subst RuleOf e h.2 in
      let regs = values_in r.view.names (cells_in t rs) in
      let s = r.view.state in
      let told = answered (active r.scene r.view place (cells_in t rs)) (Some to) regs at r.scene.below s in
      let p = there (read regs a) s (λ v. told (step.number v s)) r.right in
      let x = on_texts told (λ w. w) (λ x. gives_int s (o.number x)) p.0 p.2 in
      is_text same r a p.0 x.0 p.1 x.1

-- ---- a register that holds a text

module _ (t : ℕ → List ℕ) (rs : List Register) (a : ℕ) (e : held (cells_in t rs) a ≡ Some (Text (t a))) where
  pub text_bound : (base : ℕ) → base + length rs < 2 ^ 64 → base + a < 2 ^ 64
  text_bound base few = let lt : a < length rs = within t rs a (Text (t a)) e in omega (arith, lt, few)

  pub text_held : (x : List ℕ) → x ≡ t a → held (cells_in t rs) a ≡ Some (Text x)
  text_held x is = e ∙ ap (λ y. Some (Text y)) (sym is)

-- ---- a text of the code

some_text : (p : Option (List ℕ)) (s : State) (go : List ℕ → Next) → IsRight (with_choice p s go) → (x : List ℕ) × (p ≡ Some x)
some_text None s go r = absurd r
some_text (Some x) s go r = (x, refl)

module _ (code : Parts) (cells : List (Option Cell)) (place to n : ℕ) where
  pub quoted_within : (heap : HeapState) (left : ℕ) → HasRuleIn code heap cells place left (i.Text to n) → n < length code.texts
  quoted_within heap left h =
      let r = h.rule in
      let f = active r.scene r.view place cells in
      let x = some_text (slice_get r.scene.code.texts n) r.view.state (λ t. onward f (put (values_in r.view.names cells) to (Some (text t))) r.scene.below r.view.state) r.right in
      slice_get_within code.texts n x.0 (ap (λ (c : Parts). slice_get c.texts n) (sym h.is_code) ∙ x.1)

  quotes_so : (x : List ℕ) (at : Spot) (told : Stop) (new : List (Option Cell)) (new_place : ℕ) → slice_get code.texts n ≡ Some x → Lands to at (λ s. gives_text s (Ok x)) cells place told new new_place
      → (heap : HeapState) (left : ℕ) → ObeysIn code (i.Text to n) heap cells place left told heap new new_place left
  quotes_so x at told new new_place e lands heap left s v is runs right =
      let f = active s v place cells in
      let next_is = ap (λ p. with_choice p v.state (λ t. onward f (put (values_in v.names cells) to (Some (text t))) s.below v.state)) (ap (λ (c : Parts). slice_get c.texts n) is ∙ e) in
      subst (λ next. Stepped s v place cells told next heap new new_place left) (sym next_is) (lands heap left s v runs)

  pub quotes : {F : Type 0} (x : List ℕ) (r : Result Stop F) (new : List (Option Cell)) (new_place : ℕ) → slice_get code.texts n ≡ Some x → IfOk r (λ told. (at : Spot) → Lands to at (λ s. gives_text s (Ok x)) cells place told new new_place)
      → IfOk r (λ told. (heap : HeapState) (left : ℕ) → ObeysIn code (i.Text to n) heap cells place left told heap new new_place left)
  quotes x r new new_place e lands =
      if_ok r (λ told. (at : Spot) → Lands to at (λ s. gives_text s (Ok x)) cells place told new new_place) (λ told. (heap : HeapState) (left : ℕ) → ObeysIn code (i.Text to n) heap cells place left told heap new new_place left) lands
      (λ told made. quotes_so x nowhere told new new_place e (made nowhere))
