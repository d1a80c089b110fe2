-- The shapes of code: what is put together of the code of parts. A value goes to the register h, and the registers below h keep
-- what they hold.
use Rattle.std.specs.Prelude.{ℕ, zero, suc, ◌+◌, pos, Bool, true, false, List, [], ◌∷◌, ◌++◌, length, Option, Some, None}
use Rattle.vale_base.specs.declared.spot.Spot.{Spot}
use Rattle.vale_syntax.specs.declared.built_in.BuiltIn.{BuiltIn}
use Rattle.vale_syntax.specs.declared.built_in.BuiltIn.TheVariants as b
use Rattle.vale_syntax.specs.declared.tree.BinaryOp.{BinaryOp}
use Rattle.vale_syntax.specs.declared.tree.BinaryOp.TheVariants as op
use Rattle.vale_syntax.specs.declared.tree.UnaryOp.{UnaryOp}
use Rattle.vale_syntax.specs.declared.tree.UnaryOp.TheVariants as unary
use Rattle.vale_rules_spec.specs.Types.{Ty}
use Rattle.vale_rules_spec.specs.Types as y
use Rattle.vale_code.specs.declared.instr.Instr.{Instr}
use Rattle.vale_code.specs.declared.instr.Instr.TheVariants as i

-- No truth has this number, so that no step follows: for what no typed program has, and for what isn't lowered yet.
abbrev pub stuck : ℕ → List Instr
stuck h = i.Truth h 2 ∷ []

abbrev pub only_if : Bool → ℕ → List Instr → List Instr
only_if true h code = code
only_if false h code = stuck h

-- the first part, and what follows it at the place where it ends
abbrev pub then_at : ℕ → List Instr → (ℕ → List Instr) → List Instr
then_at place a b = a ++ b (place + length a)

-- ---- locals

abbrev pub load : Option ℕ → ℕ → List Instr
load None h = stuck h
load (Some r) h = i.Copy h r ∷ []

-- the local gets what stands in h
abbrev pub store : Option ℕ → ℕ → List Instr
store None h = stuck h
store (Some r) h = i.Copy r h ∷ []

-- the local gets what stands in h, and h what the local held
abbrev pub exchange : Option ℕ → ℕ → List Instr
exchange None h = stuck h
exchange (Some r) h = i.Copy (h + 1) r ∷ i.Copy r h ∷ i.Copy h (h + 1) ∷ []

-- ---- ways

-- a test, one side, and a jump over the other
abbrev pub if_code : ℕ → ℕ → List Instr → (ℕ → List Instr) → (ℕ → List Instr) → List Instr
if_code place h test a b =
    let one = a (place + length test + 1) in
    let other = place + length test + 1 + length one + 1 in
    let two = b other in
    test ++ (i.Unless h other ∷ (one ++ (i.Jump (other + length two) ∷ two)))

-- what is done only where h is true
abbrev pub and_code : ℕ → ℕ → (ℕ → List Instr) → List Instr
and_code place h a = let one = a (place + 1) in i.Unless h (place + 1 + length one) ∷ one

-- A jump to the test, and the body, which begins with its tick, so that the jump back to it spends none of its own.
abbrev pub loop_code : ℕ → ℕ → (ℕ → List Instr) → (ℕ → List Instr) → List Instr
loop_code place h test body =
    let b = body (place + 2) in
    let start = place + 2 + length b in
    let t = test start in
    i.Jump start ∷ i.Tick ∷ (b ++ (t ++ (i.Unless h (start + length t + 2) ∷ i.Jump (place + 1) ∷ [])))

-- A counter in h and the bound in h + 1: a turn for each number from the counter to the one before the bound. The difference of the
-- counter to itself has no rule where it is no number; the test has none where the bound is no number then. Each turn gets a copy of
-- the counter in the register after both, so that what the body does with it leaves the counter as it is.
abbrev pub count_code : ℕ → ℕ → Spot → (ℕ → List Instr) → List Instr
count_code place h at body =
    let r = h + 1 + 1 in
    i.Sub r h h at ∷
    loop_code (place + 1) r (λ place. i.Cmp r 2 h (h + 1) ∷ [])
    (λ place. i.Copy r h ∷ (body (place + 1) ++ (i.Int r (pos 1) ∷ i.Add h h r at ∷ [])))

-- ---- operators

-- between h and h + 1, where the value has this type
abbrev pub operator : BinaryOp → Ty → Spot → ℕ → Instr
operator op.Equal x at h = i.Cmp h 0 h (h + 1)
operator op.NotEqual x at h = i.Cmp h 1 h (h + 1)
operator op.Less x at h = i.Cmp h 2 h (h + 1)
operator op.LessEqual x at h = i.Cmp h 3 h (h + 1)
operator op.Greater x at h = i.Cmp h 4 h (h + 1)
operator op.GreaterEqual x at h = i.Cmp h 5 h (h + 1)
operator op.Add y.str at h = i.Join h h (h + 1) at
operator op.Add _ at h = i.Add h h (h + 1) at
operator op.Sub x at h = i.Sub h h (h + 1) at
operator op.Mul x at h = i.Mul h h (h + 1) at
operator op.Div x at h = i.Div h h (h + 1) at
operator op.Rem x at h = i.Rem h h (h + 1) at
operator op.Or x at h = i.Truth h 2
operator op.And x at h = i.Truth h 2

-- the operator between h and an operand, by the place and the register of the operand's code
abbrev pub link_code : BinaryOp → Ty → Spot → (ℕ → ℕ → List Instr) → ℕ → ℕ → List Instr
link_code op.Or x at operand place h = if_code place h [] (λ place. []) (λ place. operand place h)
link_code op.And x at operand place h = and_code place h (λ place. operand place h)
link_code o x at operand place h = operand place (h + 1) ++ (operator o x at h ∷ [])

abbrev pub unary_code : UnaryOp → Spot → ℕ → List Instr
unary_code unary.Minus at h = i.Int (h + 1) (pos 0) ∷ i.Sub h (h + 1) h at ∷ []
unary_code unary.Not at h = i.Not h h ∷ []
unary_code unary.Borrow at h = stuck h
unary_code unary.Merge at h = stuck h

-- ---- calls

-- so many registers from one on
abbrev pub registers_from : ℕ → ℕ → List ℕ
registers_from h zero = []
registers_from h (suc count) = h ∷ registers_from (h + 1) count

-- a built-in function of so many values from h on, where a value is wanted or none
abbrev pub built_in_code : BuiltIn → ℕ → Bool → Spot → ℕ → List Instr
built_in_code b.Print (suc zero) false at h = i.Print h 0 ∷ []
built_in_code b.Println (suc zero) false at h = i.Print h 1 ∷ []
built_in_code b.Len (suc zero) true at h = i.TextLen h h ∷ []
built_in_code b.Text (suc zero) true at h = i.TextOf h h ∷ []
built_in_code b.Slice (suc (suc (suc zero))) true at h = i.Slice h h (h + 1) (h + 1 + 1) at ∷ []
built_in_code b.Byte (suc (suc zero)) true at h = i.Byte h h (h + 1) at ∷ []
built_in_code b.IsNumber (suc zero) true at h = i.IsNum h h ∷ []
built_in_code b.Number (suc zero) true at h = i.Num h h at ∷ []
built_in_code _ _ _ at h = stuck h
