-- Operators run as they mean.
use Rattle.std.proofs.Common.{◌≡◌, ◌≢◌, ℕ, ◌+◌, ◌<◌, ◌≤◌, pos, List, [], ◌∷◌, ◌++◌, length, Option, Some, None, true, false, refl, ap, ◌∙◌, subst, ◌⊎◌, inl, inr, arith, length-append}
use Rattle.vale_state_spec.specs.Outcome.{Wrong}
use Rattle.vale_state_spec.specs.State.{State, Answer, fails}
use Rattle.vale_state_spec.specs.World.{Value, Int, Truth}
use Rattle.vale_base.specs.declared.spot.Spot.{Spot}
use Rattle.vale_text.specs.Operations as number
use Rattle.vale_text.specs.Steps as o
use Rattle.vale_rules_spec.specs.Types.{Ty}
use Rattle.vale_rules_spec.specs.Types as y
use Rattle.vale_syntax.specs.declared.tree.BinaryOp.{BinaryOp}
use Rattle.vale_syntax.specs.declared.tree.BinaryOp.TheVariants as op
use Rattle.vale_syntax.specs.declared.tree.UnaryOp.{UnaryOp}
use Rattle.vale_syntax.specs.declared.tree.UnaryOp.TheVariants as unary
use Rattle.vale_model.specs.Runs.{Locals, goes, ended, Run, then_do, valued, give, answered}
use Rattle.vale_model.specs.Expressions.{operated, plus, link_run, unary_run}
use Rattle.vale_code.specs.Frames.{Next}
use Rattle.vale_code.specs.Instructions as steps
use Rattle.vale_code.specs.Instructions.{fetch, with_value}
use Rattle.vale_code.specs.Parts.{Parts}
use Rattle.vale_code.specs.Registers.{Registers, read, put}
use Rattle.vale_code.specs.declared.instr.Instr.{Instr}
use Rattle.vale_code.specs.declared.instr.Instr.TheVariants as i
use Rattle.vale_lowering.specs.Instructions.{if_code, and_code, operator, link_code, unary_code}
use Rattle.vale_lowering.specs.Scopes.{Scope}
use Rattle.vale_lowering.proofs.Registers.{IsPlain, Base, with_at, Falls, falls_up, Agrees, agrees_down, top_read, next_read, one_above, two_above, pick_same, pick_other, read_put}
use Rattle.vale_lowering.proofs.Reaches.{Where, active, conf, calls_in, Reaches, StepFits, HasAt, Val, In, has_front, has_back, does, moves, wrongs, comes_reaches, then_reaches, ends_at, stays, is_stuck, values, answers, surely, chooses}
use Rattle.vale_lowering.proofs.Shapes.{if_runs}
use Rattle.vale_lowering.proofs.Operations as fit
use Rattle.vale_lowering.proofs.Ranges.{add_keeps, sub_keeps, mul_keeps, div_keeps, rem_keeps}

pub reads_two : (regs : Registers) (w : State) (a b : ℕ) (v u : Value) (go : Value → Value → Next) → read regs a ≡ Some v → read regs b ≡ Some u → with_value (read regs a) w (λ v. with_value (read regs b) w (λ u. go v u)) ≡ go v u
reads_two regs w a b v u go e d =
    ap (λ x. with_value x w (λ v. with_value (read regs b) w (λ u. go v u))) e ∙ ap (λ x. with_value x w (λ u. go v u)) d

pub reads_one : (regs : Registers) (w : State) (a : ℕ) (v : Value) (go : Value → Next) → read regs a ≡ Some v → with_value (read regs a) w go ≡ go v
reads_one regs w a v go e = ap (λ x. with_value x w go) e

module _ (code : Parts) (k : Where) (n : ℕ) where
  -- ---- an instruction between two registers
  module _ (p h m : ℕ) (s : Scope) (base base' : Base) (l : Locals) (regs : Registers) (w : State) (at : Spot) (v u : Value) (fa : Falls h s) (below : (r : ℕ) → r < h → base' r ≡ base r) (le : h ≤ m) (ag : Agrees m s l base' regs) (few : w.left ≤ n) (pv : IsPlain v) (pu : IsPlain u) (first : read regs h ≡ Some v) (second : read regs (h + 1) ≡ Some u) where
    compares : (choice : ℕ) (c : o.Comparison) → fetch code k.function p ≡ Some (i.Cmp h choice h (h + 1)) → does code k n p regs w (i.Cmp h choice h (h + 1)) ≡ with_value (read regs h) w (λ v. with_value (read regs (h + 1)) w (λ u. steps.certain (active k p regs) (Some h) regs k.below w (o.compare c v u w))) → Reaches code k n (p + 1) (In true h s base) (conf k p regs w) (answered at (o.compare c v u w) (calls_in k) l w)
    compares choice c e d =
        surely code k n p h m s base base' l regs w (i.Cmp h choice h (h + 1)) at (o.compare c v u w) fa below le ag few (fit.compare_fits w c v u) e
        (d ∙ reads_two regs w h (h + 1) v u (λ v u. steps.certain (active k p regs) (Some h) regs k.below w (o.compare c v u w)) first second)

    -- one that may trap; a is what it does with two values, which is b or fails
    one_of : (x : Instr) (a : Value → Value → Answer) (b : Answer) → (a v u ≡ b) ⊎ (a v u ≡ fails) → StepFits true w (a v u) → fetch code k.function p ≡ Some x → does code k n p regs w x ≡ with_value (read regs h) w (λ v. with_value (read regs (h + 1)) w (λ u. steps.answered (active k p regs) (Some h) regs at k.below w (a v u))) → Reaches code k n (p + 1) (In true h s base) (conf k p regs w) (answered at b (calls_in k) l w)
    one_of x a b (inl is) fits e d =
        subst (λ y. Reaches code k n (p + 1) (In true h s base) (conf k p regs w) (answered at y (calls_in k) l w)) is
        (answers code k n p h m s base base' l regs w x at (a v u) fa below le ag few fits e
        (d ∙ reads_two regs w h (h + 1) v u (λ v u. steps.answered (active k p regs) (Some h) regs at k.below w (a v u)) first second))
    one_of x a b (inr is) fits e d =
        wrongs code k n p (p + 1) (In true h s base) regs w x (answered at b (calls_in k) l w) w None e
        (d ∙ reads_two regs w h (h + 1) v u (λ v u. steps.answered (active k p regs) (Some h) regs at k.below w (a v u)) first second
        ∙ ap (λ y. steps.answered (active k p regs) (Some h) regs at k.below w y) is)

    adds : fetch code k.function p ≡ Some (i.Add h h (h + 1) at) → Reaches code k n (p + 1) (In true h s base) (conf k p regs w) (answered at (plus v u w) (calls_in k) l w)
    adds e = one_of (i.Add h h (h + 1) at) (λ v u. o.add v u w) (plus v u w) (fit.adds w v u) (fit.ints_fit w number.add v u add_keeps pv pu) e refl

    pub operates : (op : BinaryOp) (x : Ty) → fetch code k.function p ≡ Some (operator op x at h) → Reaches code k n (p + 1) (In true h s base) (conf k p regs w) (answered at (operated op v u w) (calls_in k) l w)
    operates op.Equal x e = compares 0 o.equal e refl
    operates op.NotEqual x e = compares 1 o.not_equal e refl
    operates op.Less x e = compares 2 o.less e refl
    operates op.LessEqual x e = compares 3 o.less_equal e refl
    operates op.Greater x e = compares 4 o.greater e refl
    operates op.GreaterEqual x e = compares 5 o.greater_equal e refl
    operates op.Add y.str e = one_of (i.Join h h (h + 1) at) (λ v u. o.join v u w) (plus v u w) (fit.joins w v u) (fit.join_fits w v u pv pu) e refl
    operates op.Add y.void e = adds e
    operates op.Add y.int e = adds e
    operates op.Add y.bool e = adds e
    operates op.Add (y.kind m) e = adds e
    operates op.Add (y.array x) e = adds e
    operates op.Add (y.ref x) e = adds e
    operates op.Add (y.imm x) e = adds e
    operates op.Add (y.iso x) e = adds e
    operates op.Sub x e = one_of (i.Sub h h (h + 1) at) (λ v u. o.sub v u w) (o.sub v u w) (inl refl) (fit.ints_fit w number.sub v u sub_keeps pv pu) e refl
    operates op.Mul x e = one_of (i.Mul h h (h + 1) at) (λ v u. o.mul v u w) (o.mul v u w) (inl refl) (fit.ints_fit w number.mul v u mul_keeps pv pu) e refl
    operates op.Div x e = one_of (i.Div h h (h + 1) at) (λ v u. o.div v u w) (o.div v u w) (inl refl) (fit.ints_fit w number.div v u div_keeps pv pu) e refl
    operates op.Rem x e = one_of (i.Rem h h (h + 1) at) (λ v u. o.rem v u w) (o.rem v u w) (inl refl) (fit.ints_fit w number.rem v u rem_keeps pv pu) e refl
    operates op.Or x e = wrongs code k n p (p + 1) (In true h s base) regs w (i.Truth h 2) (ended Wrong w) w None e refl
    operates op.And x e = wrongs code k n p (p + 1) (In true h s base) regs w (i.Truth h 2) (ended Wrong w) w None e refl

  -- ---- an operator after its first operand

  abbrev pub OperandRuns : Scope → (ℕ → ℕ → List Instr) → Run (Option Value) → Type 0
  OperandRuns s co operand =
      (q h : ℕ) (base : Base) (l : Locals) (regs : Registers) (w : State) → Falls h s → Agrees h s l base regs → w.left ≤ n → HasAt code k.function q (co q h) →
      Reaches code k n (q + length (co q h)) (In true h s base) (conf k q regs w) (operand (calls_in k) l w)

  module _ (p h : ℕ) (s : Scope) (base : Base) (co : ℕ → ℕ → List Instr) (operand : Run (Option Value)) (runs : OperandRuns s co operand) (at : Spot) (x : Ty) (v : Value) (l : Locals) (regs : Registers) (w : State) (fa : Falls h s) (here : Val h s base v l regs) (few : w.left ≤ n) where
    up : Falls (h + 1) s
    up = falls_up s h (h + 1) (omega arith) fa

    strict : (op : BinaryOp) → HasAt code k.function p (co p (h + 1) ++ (operator op x at h ∷ [])) → Reaches code k n (p + length (co p (h + 1) ++ (operator op x at h ∷ []))) (In true h s base) (conf k p regs w) (then_do (valued operand (calls_in k) l w) (λ u l w. answered at (operated op v u w) (calls_in k) l w))
    strict op has =
        ends_at code k n (p1 + 1) _ (In true h s base) (conf k p regs w) _ len
        (then_reaches code k n p1 (p1 + 1) (Val (h + 1) s (with_at h (Some v) base)) (In true h s base) (conf k p regs w) (valued operand (calls_in k) l w) _
        (values code k n p1 (h + 1) s (with_at h (Some v) base) (conf k p regs w) (operand (calls_in k) l w) (runs p (h + 1) (with_at h (Some v) base) l regs w up here.1 few (has_front code k.function (co p (h + 1)) _ p has)))
        (λ u l w regs ag few.
        operates p1 h (h + 1 + 1) s base (with_at (h + 1) (Some u) (with_at h (Some v) base)) l regs w at v u fa (two_above base h (Some v) (Some u)) (omega arith) ag.1 few here.0 ag.0
        (next_read s l base h (h + 1 + 1) (Some v) (Some u) regs fa (omega arith) ag.1) (top_read s l (with_at h (Some v) base) (h + 1) (h + 1 + 1) (Some u) regs up (omega arith) ag.1) op x (has_back code k.function (co p (h + 1)) _ p has).0))
      where
        p1 : ℕ
        p1 = p + length (co p (h + 1))

        len : p1 + 1 ≡ p + length (co p (h + 1) ++ (operator op x at h ∷ []))
        len = omega (arith, length-append (co p (h + 1)) (operator op x at h ∷ []))

    down : (v : Value) (l : Locals) (regs : Registers) → Val h s base v l regs → Agrees h s l base regs
    down v l regs ag = agrees_down s l base (with_at h (Some v) base) h (h + 1) regs (omega arith) (one_above base h (Some v)) ag.1

    ors : HasAt code k.function p (if_code p h [] (λ q. []) (λ q. co q h)) → Reaches code k n (p + length (if_code p h [] (λ q. []) (λ q. co q h))) (In true h s base) (conf k p regs w) (link_run at op.Or v operand (calls_in k) l w)
    ors has =
        if_runs code k n p h s base [] (λ q. []) (λ q. co q h) (conf k p regs w) (goes v l w) (give (Some (Truth true))) operand (In true h s base) fa has
        (ends_at code k n p (p + 0) (Val h s base) (conf k p regs w) (goes v l w) (omega arith) (stays code k n p (Val h s base) v l regs w here few))
        (λ q v l w regs is ag few has. ends_at code k n q (q + 0) (In true h s base) (conf k q regs w) (goes (Some (Truth true)) l w) (omega arith) (stays code k n q (In true h s base) (Some (Truth true)) l regs w (subst (λ v. Val h s base v l regs) is ag) few))
        (λ q v l w regs is ag few has. runs q h base l regs w fa (down v l regs ag) few has)

    ands : HasAt code k.function p (and_code p h (λ q. co q h)) → Reaches code k n (p + length (and_code p h (λ q. co q h))) (In true h s base) (conf k p regs w) (link_run at op.And v operand (calls_in k) l w)
    ands has =
        chooses code k n v h (p + 1 + length (co (p + 1) h)) p _ (In true h s base) regs l w operand (give (Some (Truth false))) (top_read s l base h (h + 1) (Some v) regs fa (omega arith) here.1) has.0 (omega arith)
        (λ is. ends_at code k n (p + 1 + length (co (p + 1) h)) _ (In true h s base) (conf k (p + 1) regs w) _ (omega arith) (runs (p + 1) h base l regs w fa (down v l regs here) few has.1))
        (λ is. ends_at code k n (p + 1 + length (co (p + 1) h)) _ (In true h s base) (conf k (p + 1 + length (co (p + 1) h)) regs w) (goes (Some (Truth false)) l w) (omega arith) (stays code k n (p + 1 + length (co (p + 1) h)) (In true h s base) (Some (Truth false)) l regs w (subst (λ v. Val h s base v l regs) is here) few))

    pub links : (op : BinaryOp) → HasAt code k.function p (link_code op x at co p h) → Reaches code k n (p + length (link_code op x at co p h)) (In true h s base) (conf k p regs w) (link_run at op v operand (calls_in k) l w)
    links op.Or has = ors has
    links op.And has = ands has
    links op.Equal has = strict op.Equal has
    links op.NotEqual has = strict op.NotEqual has
    links op.Less has = strict op.Less has
    links op.LessEqual has = strict op.LessEqual has
    links op.Greater has = strict op.Greater has
    links op.GreaterEqual has = strict op.GreaterEqual has
    links op.Add has = strict op.Add has
    links op.Sub has = strict op.Sub has
    links op.Mul has = strict op.Mul has
    links op.Div has = strict op.Div has
    links op.Rem has = strict op.Rem has

  -- ---- an operator before its operand

  module _ (p h : ℕ) (s : Scope) (base : Base) (at : Spot) (v : Value) (l : Locals) (regs : Registers) (w : State) (fa : Falls h s) (here : Val h s base v l regs) (few : w.left ≤ n) where
    read_here : read regs h ≡ Some v
    read_here = top_read s l base h (h + 1) (Some v) regs fa (omega arith) here.1

    negates : HasAt code k.function p (unary_code unary.Minus at h) → Reaches code k n (p + 2) (In true h s base) (conf k p regs w) (answered at (o.minus v w) (calls_in k) l w)
    negates has =
        ends_at code k n (p + 1 + 1) (p + 2) (In true h s base) (conf k p regs w) _ (omega arith)
        (comes_reaches code k n (p + 1 + 1) (In true h s base) (conf k p regs w) (conf k (p + 1) regs1 w) _ (moves code k n p regs w (i.Int (h + 1) (pos 0)) _ has.0 refl)
        (answers code k n (p + 1) h h s base base l regs1 w (i.Sub h (h + 1) h at) at (o.minus v w) fa (λ r lt. refl) (omega arith) kept few (fit.minus_fits w v here.0) has.1.0
        (reads_two regs1 w (h + 1) h (Int (pos 0)) v (λ v u. steps.answered (active k (p + 1) regs1) (Some h) regs1 at k.below w (o.sub v u w))
        (read_put regs (h + 1) (h + 1) (Some (Int (pos 0))) ∙ pick_same (h + 1) (Some (Int (pos 0))) (read regs (h + 1))) still)))
      where
        regs1 : Registers
        regs1 = put regs (h + 1) (Some (Int (pos 0)))

        still : read regs1 h ≡ Some v
        still =
            let ne : h ≢ h + 1 = omega arith in
            read_put regs (h + 1) h (Some (Int (pos 0))) ∙ pick_other h (h + 1) (Some (Int (pos 0))) (read regs h) ne ∙ read_here

        kept : Agrees h s l base regs1
        kept = record {
          names = here.1.names;
          each = λ q lt. let ne : q ≢ h + 1 = omega arith in
              read_put regs (h + 1) q (Some (Int (pos 0))) ∙ pick_other q (h + 1) (Some (Int (pos 0))) (read regs q) ne ∙ (agrees_down s l base (with_at h (Some v) base) h (h + 1) regs (omega arith) (one_above base h (Some v)) here.1).each q lt;
        }

    pub unaries : (op : UnaryOp) → HasAt code k.function p (unary_code op at h) → Reaches code k n (p + length (unary_code op at h)) (In true h s base) (conf k p regs w) (unary_run at op v (calls_in k) l w)
    unaries unary.Minus has = negates has
    unaries unary.Not has =
        surely code k n p h (h + 1) s base (with_at h (Some v) base) l regs w (i.Not h h) at (o.opposite v w) fa (one_above base h (Some v)) (omega arith) here.1 few (fit.opposite_fits w v) has.0
        (reads_one regs w h v (λ v. steps.certain (active k p regs) (Some h) regs k.below w (o.opposite v w)) read_here)
    unaries unary.Borrow has = is_stuck code k n p (p + 1) h (In true h s base) regs w (unary_run at unary.Borrow v (calls_in k) l w) has
    unaries unary.Merge has = is_stuck code k n p (p + 1) h (In true h s base) regs w (unary_run at unary.Merge v (calls_in k) l w) has
