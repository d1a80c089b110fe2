-- How the walk goes through operators between two values.
use Rattle.std.proofs.Common.{◌≡◌, ℕ, ◌+◌, ◌<◌, ◌≤◌, pos, [], ◌∷◌, None, Bool, true, false, ◌&&◌, refl, ap, ◌∙◌, arith}
use Rattle.std.specs.Prelude.{nat_lt}
use Rattle.std.proofs.lemmas.Bool.{and_parts}
use Rattle.vale_base.specs.declared.spot.Spot.{Spot}
use Rattle.vale_syntax.specs.declared.tree.BinaryOp.{BinaryOp}
use Rattle.vale_syntax.specs.declared.tree.BinaryOp.TheVariants as op
use Rattle.vale_syntax.specs.declared.tree.UnaryOp.TheVariants as unary_op
use Rattle.vale_rules_spec.specs.TypeRules.{is_int, is_bool, have_order, have_equality, takes_operands, link_gives}
use Rattle.vale_rules_spec.specs.Types.{Ty}
use Rattle.vale_rules_spec.specs.Types as y
use Rattle.vale_rules_spec.specs.Typing.{Env}
use Rattle.vale_model.specs.Parts.{Parts}
use Rattle.vale_code.specs.Operands.{room_for}
use Rattle.vale_code.specs.declared.instr.Instr.{Instr}
use Rattle.vale_code.specs.declared.instr.Instr.TheVariants as i
use Rattle.vale_code.specs.declared.ty.Ty.TheVariants as t
use Rattle.vale_cert.specs.Known.{Known, is_free}
use Rattle.vale_cert.specs.Numbers.{in_tables}
use Rattle.vale_cert.specs.Rules.{fine, reads, gets, is_ordered}
use Rattle.vale_cert.specs.Walk.{goes_on, target_of}
use Rattle.vale_cert.specs.declared.facts.RegFact.TheVariants.{Held}
use Rattle.vale_lowering.specs.Instructions.{operator}
use Rattle.vale_lowering_objects.specs.Program.{code_type}
use Rattle.vale_object_facts.specs.Slots.{Stand, holding}
use Rattle.vale_object_facts.specs.Stands.{unary_stands}
use Rattle.vale_object_facts.proofs.Covering.{Site, at, held, holding_here, holding_there}
use Rattle.vale_object_facts.proofs.Locals.{Stands, none_at}
use Rattle.vale_object_facts.proofs.Owners.{free_type}
use Rattle.vale_object_facts.proofs.Rows.{room, Beside, beside_one, beside_above, int_runs, from_one, from_two, cmp_runs}
use Rattle.vale_object_facts.proofs.Runs.{row_at, Runs, both, falls}

-- the values of an operator are no owners
pub record Plain (p : Parts) (a b : Ty) : Type 0 where
  pub first : y.is_owned a ≡ false
  pub second : y.is_owned b ≡ false

pub record Alike (p : Parts) (choice : ℕ) (a b : Ty) : Type 0 where
  pub plain : Plain p a b
  pub same : code_type p b ≡ code_type p a
  pub ordered : is_ordered choice (code_type p a) ≡ true

order_alike : (p : Parts) (choice : ℕ) (a b : Ty) → have_order a b ≡ true → Alike p choice a b
order_alike p choice y.int y.int e = record { plain = record { first = refl; second = refl }; same = refl; ordered = refl }
order_alike p choice y.str y.str e = record { plain = record { first = refl; second = refl }; same = refl; ordered = refl }
order_alike p choice _ _ e = let f : ⊥ = cc in absurd f

equal_alike : (p : Parts) (choice : ℕ) (a b : Ty) → nat_lt choice 2 ≡ true → have_equality a b ≡ true → Alike p choice a b
equal_alike p choice y.bool y.bool lt e = record { plain = record { first = refl; second = refl }; same = refl; ordered = lt }
equal_alike p choice y.int y.int lt e = record { plain = record { first = refl; second = refl }; same = refl; ordered = refl }
equal_alike p choice y.str y.str lt e = record { plain = record { first = refl; second = refl }; same = refl; ordered = refl }
equal_alike p choice _ _ lt e = let f : ⊥ = cc in absurd f

pub int_is : (x : Ty) → is_int x ≡ true → x ≡ y.int
int_is y.int e = refl
int_is _ e = let f : ⊥ = cc in absurd f

pub bool_is : (x : Ty) → is_bool x ≡ true → x ≡ y.bool
bool_is y.bool e = refl
bool_is _ e = let f : ⊥ = cc in absurd f

both_ints : (p : Parts) (a b : Ty) → (is_int a && is_int b) ≡ true → Plain p a b
both_ints p a b e = let z = and_parts (is_int a) (is_int b) e in record { first = ap y.is_owned (int_is a z.0); second = ap y.is_owned (int_is b z.1) }

both_truths : (p : Parts) (a b : Ty) → (is_bool a && is_bool b) ≡ true → Plain p a b
both_truths p a b e = let z = and_parts (is_bool a) (is_bool b) e in record { first = ap y.is_owned (bool_is a z.0); second = ap y.is_owned (bool_is b z.1) }

pub operands_plain : (p : Parts) (o : BinaryOp) (a b : Ty) → takes_operands o a b ≡ true → Plain p a b
operands_plain p op.Or a b e = both_truths p a b e
operands_plain p op.And a b e = both_truths p a b e
operands_plain p op.Equal a b e = (equal_alike p 0 a b refl e).plain
operands_plain p op.NotEqual a b e = (equal_alike p 1 a b refl e).plain
operands_plain p op.Less a b e = (order_alike p 2 a b e).plain
operands_plain p op.LessEqual a b e = (order_alike p 3 a b e).plain
operands_plain p op.Greater a b e = (order_alike p 4 a b e).plain
operands_plain p op.GreaterEqual a b e = (order_alike p 5 a b e).plain
operands_plain p op.Add a b e = (order_alike p 0 a b e).plain
operands_plain p op.Sub a b e = both_ints p a b e
operands_plain p op.Mul a b e = both_ints p a b e
operands_plain p op.Div a b e = both_ints p a b e
operands_plain p op.Rem a b e = both_ints p a b e

-- an operator that isn't `and` or `or`
abbrev pub is_plain : BinaryOp → Bool
is_plain op.Or = false
is_plain op.And = false
is_plain _ = true

module _ (k : Site) (env : Env) (h : ℕ) (s : Stand) (st : Stands k env h s) where
  abbrev pub two : Ty → Ty → Stand
  two a b = holding (h + 1) b (holding h a s)

  first_of : (a b : Ty) → at k (two a b) h ≡ held k a s.depth
  first_of a b = holding_there k (h + 1) b (holding h a s) h (omega arith) ∙ holding_here k h a s

  second_of : (a b : Ty) → at k (two a b) (h + 1) ≡ held k b s.depth
  second_of a b = holding_here k (h + 1) b (holding h a s)

  free_first : (a b : Ty) → y.is_owned a ≡ false → is_free (at k (two a b) h) ≡ true
  free_first a b e = ap is_free (first_of a b) ∙ free_type k.parts a s.depth e

  over_two : (a b : Ty) → y.is_owned b ≡ false → Beside k h (two a b) s
  over_two a b e = beside_above k h (h + 1) b (holding h a s) s (free_type k.parts b s.depth e) (none_at k (h + 1) st (omega arith)) (beside_one k h a s)

  compared : {p : ℕ} (choice : ℕ) (a b : Ty) → nat_lt choice 6 ≡ true → Alike k.parts choice a b → Runs k p (i.Cmp h choice h (h + 1) ∷ []) (two a b ∷ []) (two a b) (falls (holding h y.bool s))
  compared choice a b few z =
      cmp_runs k h choice h (h + 1) (code_type k.parts a) s.depth s.depth few z.ordered (first_of a b) (second_of a b ∙ ap (λ q. Held q s.depth false) z.same) (free_first a b z.plain.first) refl (over_two a b z.plain.second)

  two_ints : {p : ℕ} (instr : Instr) (a b : Ty) → (is_int a && is_int b) ≡ true → goes_on instr ≡ true → target_of instr ≡ None → in_tables k.code instr ≡ true → (room_for instr ≤ room k → (h < room k) × (h < room k) × (h + 1 < room k))
      → ((known : Known) → row_at k instr known ≡ gets known.depth known.regs h t.Int (reads known.regs (h + 1) t.Int (reads known.regs h t.Int fine)))
      → Runs k p (instr ∷ []) (two a b ∷ []) (two a b) (falls (holding h y.int s))
  two_ints instr a b e on none inside lt is =
      let z = and_parts (is_int a) (is_int b) e in
      let pl = both_ints k.parts a b e in
      from_two k instr h y.int h (h + 1) t.Int t.Int s.depth s.depth on none inside lt is
      (first_of a b ∙ ap (λ x. held k x s.depth) (int_is a z.0)) (second_of a b ∙ ap (λ x. held k x s.depth) (int_is b z.1)) (free_first a b pl.first) refl (over_two a b pl.second)

  added : {p : ℕ} (spot : Spot) (a b : Ty) → have_order a b ≡ true → Runs k p (operator op.Add a spot h ∷ []) (two a b ∷ []) (two a b) (falls (holding h a s))
  added spot y.int y.int e = two_ints (i.Add h h (h + 1) spot) y.int y.int refl refl refl refl (λ r. (omega (arith, r), omega (arith, r), omega (arith, r))) (λ known. refl)
  added spot y.str y.str e =
      from_two k (i.Join h h (h + 1) spot) h y.str h (h + 1) t.Text t.Text s.depth s.depth refl refl refl (λ r. (omega (arith, r), omega (arith, r), omega (arith, r))) (λ known. refl)
      (first_of y.str y.str) (second_of y.str y.str) (free_first y.str y.str refl) refl (over_two y.str y.str refl)
  added spot _ _ e = let f : ⊥ = cc in absurd f

  pub operator_runs : {p : ℕ} (o : BinaryOp) (spot : Spot) (a b : Ty) → is_plain o ≡ true → takes_operands o a b ≡ true → Runs k p (operator o a spot h ∷ []) (two a b ∷ []) (two a b) (falls (holding h (link_gives o a) s))
  operator_runs op.Or spot a b pl e = absurd (cc)
  operator_runs op.And spot a b pl e = absurd (cc)
  operator_runs op.Equal spot a b pl e = compared 0 a b refl (equal_alike k.parts 0 a b refl e)
  operator_runs op.NotEqual spot a b pl e = compared 1 a b refl (equal_alike k.parts 1 a b refl e)
  operator_runs op.Less spot a b pl e = compared 2 a b refl (order_alike k.parts 2 a b e)
  operator_runs op.LessEqual spot a b pl e = compared 3 a b refl (order_alike k.parts 3 a b e)
  operator_runs op.Greater spot a b pl e = compared 4 a b refl (order_alike k.parts 4 a b e)
  operator_runs op.GreaterEqual spot a b pl e = compared 5 a b refl (order_alike k.parts 5 a b e)
  operator_runs op.Add spot a b pl e = added spot a b e
  operator_runs op.Sub spot a b pl e = two_ints (i.Sub h h (h + 1) spot) a b e refl refl refl (λ r. (omega (arith, r), omega (arith, r), omega (arith, r))) (λ known. refl)
  operator_runs op.Mul spot a b pl e = two_ints (i.Mul h h (h + 1) spot) a b e refl refl refl (λ r. (omega (arith, r), omega (arith, r), omega (arith, r))) (λ known. refl)
  operator_runs op.Div spot a b pl e = two_ints (i.Div h h (h + 1) spot) a b e refl refl refl (λ r. (omega (arith, r), omega (arith, r), omega (arith, r))) (λ known. refl)
  operator_runs op.Rem spot a b pl e = two_ints (i.Rem h h (h + 1) spot) a b e refl refl refl (λ r. (omega (arith, r), omega (arith, r), omega (arith, r))) (λ known. refl)

  -- ---- of one value

  pub not_runs : {p : ℕ} → Runs k p (i.Not h h ∷ []) (holding h y.bool s ∷ []) (holding h y.bool s) (falls (holding h y.bool s))
  not_runs =
      from_one k (i.Not h h) h y.bool h t.Truth s.depth refl refl refl (λ r. (omega (arith, r), omega (arith, r))) (λ known. refl)
      (holding_here k h y.bool s) (ap is_free (holding_here k h y.bool s)) refl (beside_one k h y.bool s)

  pub minus_runs : {p : ℕ} (spot : Spot) → Runs k p (i.Int (h + 1) (pos 0) ∷ i.Sub h (h + 1) h spot ∷ []) (unary_stands unary_op.Minus y.int h s) (holding h y.int s) (falls (holding h y.int s))
  minus_runs spot =
      both k {a = i.Int (h + 1) (pos 0) ∷ []} {b = i.Sub h (h + 1) h spot ∷ []} {ma = holding h y.int s ∷ []} {mb = two y.int y.int ∷ []}
      (int_runs k (h + 1) (pos 0) (ap is_free (holding_there k h y.int s (h + 1) (omega arith) ∙ none_at k (h + 1) st (omega arith))))
      (from_two k (i.Sub h (h + 1) h spot) h y.int (h + 1) h t.Int t.Int s.depth s.depth refl refl refl (λ r. (omega (arith, r), omega (arith, r), omega (arith, r))) (λ known. refl)
      (second_of y.int y.int) (first_of y.int y.int) (free_first y.int y.int refl) refl (over_two y.int y.int refl))
