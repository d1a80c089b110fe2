-- What a step that has a rule tells of the registers that an instruction aside reads.
use Rattle.std.proofs.Common.{◌≡◌, ℕ, zero, suc, ◌+◌, ◌-◌, ◌<◌, ℤ, pos, List, [], ◌∷◌, ◌++◌, length, Option, Some, None, Bool, true, false, if◌then◌else◌, Vec, Global, append_assoc, refl, sym, ap, ◌∙◌, subst, arith}
use Rattle.std.specs.Prelude.{slice_get}
use Rattle.vale_base.specs.declared.piece.Piece.{Piece}
use Rattle.vale_base.specs.declared.spot.Spot.{Spot}
use Rattle.vale_state_spec.specs.State.{State, Answer, gives, print, print_text, printed, shown}
use Rattle.vale_state_spec.specs.World.{Value, Int, Truth, Text}
use Rattle.vale_code.specs.Frames.{Active, Frame, Next, On}
use Rattle.vale_code.specs.Instructions.{answered, behind, certain, comparison_of, copied, gets, onward, text_length, truth_of, with_choice, with_value}
use Rattle.vale_code.specs.Parts.{Parts}
use Rattle.vale_code.specs.Registers.{Registers, put, read}
use Rattle.vale_code.specs.declared.instr.Instr.{Instr}
use Rattle.vale_code.specs.declared.instr.Instr.TheVariants as i
use Rattle.vale_text.specs.Operations as o
use Rattle.vale_text.specs.Steps.{gives_int, gives_text, on_int, on_ints, on_text}
use Rattle.vale_turn.specs.Comparing.{compared}
use Rattle.vale_turn.specs.View.{IsRight}
use Rattle.vale_turn.proofs.Rules.{both_right, compared_is, read_cell, value_right}
use Rattle.vale_registers.specs.Cells.{empty, values_in, HoldsInt, HoldsText, HoldsValue, IsShaped}
use Rattle.vale_registers.specs.declared.cell.Shape.{Shape}
use Rattle.vale_registers.specs.declared.cell.Shape.TheVariants as shape
use Rattle.vale_registers.proofs.Registers.{not_empty, text_is}
use Rattle.vale_machine.specs.Aside.{HasRuleIn, next_in}
use Rattle.vale_machine.specs.Printing.{IsShown, shown_in}
use Rattle.vale_machine.specs.View.{active, below, config_of, own_cells, own_texts, registers_of, scene_of, state_of, state_with}
use Rattle.vale_machine.specs.declared.machine.Machine.{Machine}

abbrev IsText : Option Value → Type 0
IsText v = (x : List ℕ) × (v ≡ Some (Text x))

abbrev IsInt : Option Value → Type 0
IsInt v = (z : ℤ) × (v ≡ Some (Int z))

module _ (f : Active) (to : Option ℕ) (regs : Registers) (at : Spot) (below : List Frame) (s : State) where
  abbrev told : Answer → Next
  told a = answered f to regs at below s a

  abbrev surely : Answer → Next
  surely a = certain f to regs below s a

  text_told : (go : List ℕ → Answer) (v : Option Value) → IsRight (with_value v s (λ x. told (on_text x go))) → IsText v
  text_told go None r = absurd r
  text_told go (Some (Text x)) r = (x, refl)
  text_told go (Some _) r = absurd r

  text_surely : (go : List ℕ → Answer) (v : Option Value) → IsRight (with_value v s (λ x. surely (on_text x go))) → IsText v
  text_surely go None r = absurd r
  text_surely go (Some (Text x)) r = (x, refl)
  text_surely go (Some _) r = absurd r

  int_surely : (go : ℤ → Answer) (v : Option Value) → IsRight (with_value v s (λ x. surely (on_int x go))) → IsInt v
  int_surely go None r = absurd r
  int_surely go (Some (Int x)) r = (x, refl)
  int_surely go (Some _) r = absurd r

  texts_told : (go : List ℕ → List ℕ → Answer) (v w : Option Value) → IsRight (with_value v s (λ x. with_value w s (λ y. told (on_text x (λ a. on_text y (λ b. go a b)))))) → IsText v × IsText w
  texts_told go None w r = absurd r
  texts_told go (Some (Text x)) None r = absurd r
  texts_told go (Some (Text x)) (Some (Text y)) r = ((x, refl), (y, refl))
  texts_told go (Some (Text x)) (Some _) r = absurd r
  texts_told go (Some _) None r = absurd r
  texts_told go (Some _) (Some w) r = absurd r

  text_int_told : (go : List ℕ → ℤ → Answer) (v w : Option Value) → IsRight (with_value v s (λ x. with_value w s (λ y. told (on_text x (λ a. on_int y (λ b. go a b)))))) → IsText v × IsInt w
  text_int_told go None w r = absurd r
  text_int_told go (Some (Text x)) None r = absurd r
  text_int_told go (Some (Text x)) (Some (Int y)) r = ((x, refl), (y, refl))
  text_int_told go (Some (Text x)) (Some _) r = absurd r
  text_int_told go (Some _) None r = absurd r
  text_int_told go (Some _) (Some w) r = absurd r

  part_told : (go : List ℕ → ℤ → ℤ → Answer) (v a b : Option Value) → IsRight (with_value v s (λ x. with_value a s (λ y. with_value b s (λ z. told (on_text x (λ t. on_ints (λ p q. go t p q) y z)))))) → IsText v × IsInt a × IsInt b
  part_told go None a b r = absurd r
  part_told go (Some (Text x)) None b r = absurd r
  part_told go (Some (Text x)) (Some (Int y)) None r = absurd r
  part_told go (Some (Text x)) (Some (Int y)) (Some (Int z)) r = ((x, refl), (y, refl), (z, refl))
  part_told go (Some (Text x)) (Some (Int y)) (Some _) r = absurd r
  part_told go (Some (Text x)) (Some _) None r = absurd r
  part_told go (Some (Text x)) (Some _) (Some z) r = absurd r
  part_told go (Some _) None b r = absurd r
  part_told go (Some _) (Some a) None r = absurd r
  part_told go (Some _) (Some a) (Some b) r = absurd r

module _ (code : Parts) (m : Machine) (instr : Instr) (h : HasRuleIn code m instr) where
  abbrev regs : Registers
  regs = registers_of m

  abbrev st : State
  st = state_of h.taken m

  holds_text : (r : ℕ) → IsText (read regs r) → HoldsText (own_cells m) r
  holds_text r x = (own_texts m, x.0, x.1)

  holds_int : (r : ℕ) → IsInt (read regs r) → HoldsInt (own_cells m) r
  holds_int r x = (own_texts m, x.0, x.1)

  pub joined : (to a b : ℕ) (at : Spot) → instr ≡ i.Join to a b at → HoldsText (own_cells m) a × HoldsText (own_cells m) b
  joined to a b at e =
      let k = subst (λ x. HasRuleIn code m x) e h in
      let r = texts_told (active code m) (Some to) regs at (below code m) (state_of k.taken m) (λ x y. gives_text (state_of k.taken m) (o.join x y)) (read regs a) (read regs b) k.right in
      (holds_text a r.0, holds_text b r.1)

  pub measured : (to a : ℕ) → instr ≡ i.TextLen to a → HoldsText (own_cells m) a
  measured to a e =
      let k = subst (λ x. HasRuleIn code m x) e h in
      let at : Spot = record { line = 1; col = 1 } in
      holds_text a (text_surely (active code m) (Some to) regs at (below code m) (state_of k.taken m) _ (read regs a) k.right)

  pub sliced : (to a x y : ℕ) (at : Spot) → instr ≡ i.Slice to a x y at → HoldsText (own_cells m) a × HoldsInt (own_cells m) x × HoldsInt (own_cells m) y
  sliced to a x y at e =
      let k = subst (λ x. HasRuleIn code m x) e h in
      let r = part_told (active code m) (Some to) regs at (below code m) (state_of k.taken m) (λ t p q. gives_text (state_of k.taken m) (o.slice t p q)) (read regs a) (read regs x) (read regs y) k.right in
      (holds_text a r.0, holds_int x r.1, holds_int y r.2)

  pub picked : (to a x : ℕ) (at : Spot) → instr ≡ i.Byte to a x at → HoldsText (own_cells m) a × HoldsInt (own_cells m) x
  picked to a x at e =
      let k = subst (λ x. HasRuleIn code m x) e h in
      let r = text_int_told (active code m) (Some to) regs at (below code m) (state_of k.taken m) (λ t p. gives_int (state_of k.taken m) (o.byte t p)) (read regs a) (read regs x) k.right in
      (holds_text a r.0, holds_int x r.1)

  pub spelled : (to a : ℕ) → instr ≡ i.TextOf to a → HoldsInt (own_cells m) a
  spelled to a e =
      let k = subst (λ x. HasRuleIn code m x) e h in
      let at : Spot = record { line = 1; col = 1 } in
      holds_int a (int_surely (active code m) (Some to) regs at (below code m) (state_of k.taken m) _ (read regs a) k.right)

  pub tested : (to a : ℕ) → instr ≡ i.IsNum to a → HoldsText (own_cells m) a
  tested to a e =
      let k = subst (λ x. HasRuleIn code m x) e h in
      let at : Spot = record { line = 1; col = 1 } in
      holds_text a (text_surely (active code m) (Some to) regs at (below code m) (state_of k.taken m) _ (read regs a) k.right)

  pub numbered : (to a : ℕ) (at : Spot) → instr ≡ i.Num to a at → HoldsText (own_cells m) a
  numbered to a at e =
      let k = subst (λ x. HasRuleIn code m x) e h in
      holds_text a (text_told (active code m) (Some to) regs at (below code m) (state_of k.taken m) _ (read regs a) k.right)

  pub held : (to a : ℕ) → instr ≡ i.Copy to a → HoldsValue (own_cells m) a
  held to a e =
      let k = subst (λ x. HasRuleIn code m x) e h in
      let r = value_right (active code m) to regs (below code m) (state_of k.taken m) (read regs a) k.right in
      (own_texts m, r.0, r.1)

  pub comparing : (to choice a b : ℕ) → instr ≡ i.Cmp to choice a b → (x : Bool) × (compared (comparison_of choice) (read regs a) (read regs b) ≡ Some x)
  comparing to choice a b e =
      let k = subst (λ x. HasRuleIn code m x) e h in
      both_right (active code m) to regs (below code m) (state_of k.taken m) (comparison_of choice) (read regs a) (read regs b) (read_cell (own_texts m) (own_cells m) a) (read_cell (own_texts m) (own_cells m) b) k.right

  -- ---- texts of the code, and what is printed

  there : (texts : List (List ℕ)) (n : ℕ) (s : State) (go : List ℕ → Next) → IsRight (with_choice (slice_get texts n) s go) → n < length texts
  there texts n s go r = at texts n r
    where
      at : (texts : List (List ℕ)) (n : ℕ) → IsRight (with_choice (slice_get texts n) s go) → n < length texts
      at [] n r = absurd r
      at (t ∷ ts) zero r = omega arith
      at (t ∷ ts) (suc n) r = let q = at ts n r in omega (arith, q)

  pub quoted : (to n : ℕ) → instr ≡ i.Text to n → n < length code.texts
  quoted to n e =
      let k = subst (λ x. HasRuleIn code m x) e h in
      there code.texts n (state_of k.taken m) _ k.right

  abbrev Prints : Option Bool → Option Value → State → Next
  Prints c v s = with_choice c s (λ line. with_value v s (λ x. certain (active code m) None regs (below code m) s (print line x s)))

  prints : (c : Option Bool) (v : Option Value) (s : State) → IsRight (Prints c v s) → ((b : Bool) × (c ≡ Some b)) × ((x : List ℕ) × (shown_in v ≡ Some x))
  prints None v s r = absurd r
  prints (Some line) None s r = absurd r
  prints (Some line) (Some v) s r = ((line, refl), some (shown v) refl)
    where
      some : (x : Option (List ℕ)) → shown v ≡ x → (y : List ℕ) × (shown v ≡ Some y)
      some None q = absurd (subst (λ x. IsRight (certain (active code m) None regs (below code m) s (print_text line x s))) q r)
      some (Some x) q = (x, q)

  pub shows : (a choice : ℕ) → instr ≡ i.Print a choice → IsShown m a × ((b : Bool) × (truth_of choice ≡ Some b))
  shows a choice e =
      let k = subst (λ x. HasRuleIn code m x) e h in
      let r = prints (truth_of choice) (read regs a) (state_of k.taken m) k.right in
      ((own_texts m, r.1.0, r.1.1), r.0)

-- ---- what is copied

module _ (code : Parts) (taken : List Piece) (m : Machine) (to a : ℕ) where
  abbrev copies : Option Value → Next
  copies o = with_value o (state_of taken m) (λ v. gets (active code m) to (copied v) (registers_of m) (below code m) (state_of taken m))

  abbrev goes_with : Option Value → Next
  goes_with o = onward (active code m) (put (registers_of m) to o) (below code m) (state_of taken m)

  pub copied_int : (n : ℤ) → read (registers_of m) a ≡ Some (Int n) → next_in code taken m (i.Copy to a) ≡ goes_with (Some (Int n))
  copied_int n e = ap copies e

  pub measured_here : (t : List ℕ) → read (registers_of m) a ≡ Some (Text t) → next_in code taken m (i.TextLen to a) ≡ goes_with (Some (Int (pos (length t))))
  measured_here t e = ap (λ o. with_value o (state_of taken m) (λ v. certain (active code m) (Some to) (registers_of m) (below code m) (state_of taken m) (text_length v (state_of taken m)))) e

  pub copied_truth : (b : Bool) → read (registers_of m) a ≡ Some (Truth b) → next_in code taken m (i.Copy to a) ≡ goes_with (Some (Truth b))
  copied_truth b e = ap copies e

  pub copied_text : HoldsText (own_cells m) a → next_in code taken m (i.Copy to a) ≡ goes_with (read (registers_of m) a)
  copied_text h =
      let e = text_is (own_cells m) a empty h (own_texts m) in
      ap copies e ∙ ap goes_with (sym e)

  pub compared_here : (choice b : ℕ) (t : Bool) → compared (comparison_of choice) (read (registers_of m) a) (read (registers_of m) b) ≡ Some t → next_in code taken m (i.Cmp to choice a b) ≡ goes_with (Some (Truth t))
  compared_here choice b t e = compared_is code m.top.function (scene_of code taken m) m.top.place (own_cells m) m.left to choice a b t e

-- ---- what is printed

pub shown_value : (m : Machine) (from : ℕ) → IsShown m from → HoldsValue (own_cells m) from
shown_value m from h = some (read (values_in h.0 (own_cells m)) from) refl
  where
    some : (o : Option Value) → read (values_in h.0 (own_cells m)) from ≡ o → HoldsValue (own_cells m) from
    some None q = let e : None ≡ Some h.1 = ap shown_in (sym q) ∙ h.2 in let x : ⊥ = cc in absurd x
    some (Some v) q = (h.0, v, q)

pub not_shown : (m : Machine) (from : ℕ) (s : Shape) → IsShaped (own_cells m) from s → s ≡ shape.Empty → IsShown m from → ⊥
not_shown m from s q e h = not_empty (own_cells m) from s q e (shown_value m from h)

pub printed_here : (code : Parts) (taken : List Piece) (m : Machine) (from choice : ℕ) (line : Bool) (bytes : List ℕ) → truth_of choice ≡ Some line → shown_in (read (registers_of m) from) ≡ Some bytes
    → next_in code taken m (i.Print from choice) ≡ certain (active code m) None (registers_of m) (below code m) (state_of taken m) (print_text line (Some bytes) (state_of taken m))
printed_here code taken m from choice line bytes e h = ap (λ o. with_choice o s (λ l. with_value (read (registers_of m) from) s (λ v. surely_prints (print l v s)))) e ∙ at (read (registers_of m) from) h
  where
    s : State
    s = state_of taken m

    surely_prints : Answer → Next
    surely_prints a = certain (active code m) None (registers_of m) (below code m) s a

    at : (o : Option Value) → shown_in o ≡ Some bytes → with_value o s (λ v. surely_prints (print line v s)) ≡ surely_prints (print_text line (Some bytes) s)
    at None q = let x : ⊥ = cc in absurd x
    at (Some v) q = ap (λ x. surely_prints (print_text line x s)) q

-- ---- what was printed

printed_is : (line : Bool) (bytes all : List ℕ) (s : State) → all ≡ (if line then bytes ++ 10 ∷ [] else bytes) → print_text line (Some bytes) s ≡ gives None (printed all s)
printed_is true bytes all s e = ap (λ b. gives None (printed b s)) (sym e)
printed_is false bytes all s e = ap (λ b. gives None (printed b s)) (sym e)

pub prints_on : (code : Parts) (taken : List Piece) (m : Machine) (pieces : Vec Piece Global) (line : Bool) (bytes all : List ℕ) → all ≡ (if line then bytes ++ 10 ∷ [] else bytes) → pieces.items ≡ m.pieces.items ++ record { tick = m.given - m.left; bytes = all } ∷ []
    → certain (active code m) None (registers_of m) (below code m) (state_of taken m) (print_text line (Some bytes) (state_of taken m)) ≡ On (config_of code taken (record m { pieces = pieces; top = record m.top { place = m.top.place + 1 } }))
prints_on code taken m pieces line bytes all is e =
    ap (certain (active code m) None (registers_of m) (below code m) (state_of taken m)) (printed_is line bytes all (state_of taken m) is)
    ∙ ap (λ ps. On (record { top = behind (active code m) (registers_of m); below = below code m; state = state_with m.left (m.given - m.left) ps }))
    (append_assoc taken m.pieces.items (record { tick = m.given - m.left; bytes = all } ∷ []) ∙ ap (λ l. taken ++ l) (sym e))
