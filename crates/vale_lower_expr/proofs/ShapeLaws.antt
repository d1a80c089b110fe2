-- The instructions of single nodes, by cases.
use Rattle.std.proofs.Common.{◌≡◌, ℕ, zero, suc, ◌+◌, [], ◌∷◌, ◌++◌, refl, ap, ◌∙◌, arith}
use Rattle.std.specs.Prelude.{if◌then◌else◌}
use Rattle.vale_base.specs.declared.spot.Spot.{Spot}
use Rattle.vale_syntax.specs.declared.tree.BinaryOp.TheVariants as op
use Rattle.vale_rules_spec.specs.Types.{Ty}
use Rattle.vale_rules_spec.specs.Types as y
use Rattle.vale_code.specs.declared.instr.Instr.TheVariants as i
use Rattle.vale_lowering.specs.Instructions.{operator, registers_from}
use Rattle.vale_lower_expr.specs.Found.{is_text}

pub add_by_type : (x : Ty) (at : Spot) (h : ℕ) → operator op.Add x at h ≡ (if is_text x then i.Join h h (h + 1) at else i.Add h h (h + 1) at)
add_by_type y.void at h = refl
add_by_type y.int at h = refl
add_by_type y.bool at h = refl
add_by_type y.str at h = refl
add_by_type (y.kind n) at h = refl
add_by_type (y.array x) at h = refl
add_by_type (y.ref x) at h = refl
add_by_type (y.imm x) at h = refl
add_by_type (y.iso x) at h = refl

pub registers_more : (h count : ℕ) → registers_from h (count + 1) ≡ registers_from h count ++ (h + count) ∷ []
registers_more h zero = let e : h ≡ h + 0 = omega arith in ap (λ n. n ∷ []) e
registers_more h (suc count) =
    let e : (h + 1) + count ≡ h + suc count = omega arith in
    let m : suc count + 1 ≡ suc (count + 1) = omega arith in
    ap (λ n. registers_from h n) m ∙ ap (λ z. h ∷ z) (registers_more (h + 1) count ∙ ap (λ n. registers_from (h + 1) count ++ n ∷ []) e)
