-- How many functions stand beside facts.
use Rattle.std.proofs.Common.{◌≡◌, ◌<◌, ◌≤◌, List, [], ◌∷◌, length, suc, refl, ap, arith}
use Rattle.vale_code.specs.declared.func.Func.{Func}
use Rattle.vale_cert.specs.declared.facts.FuncFacts.{FuncFacts}
use Rattle.vale_file_spec.specs.File.{beside}

pub fewer_facts : (fs : List Func) (xs : List FuncFacts) → length xs < length fs → length (beside fs xs) ≡ length xs
fewer_facts [] xs lt = absurd (omega arith)
fewer_facts (f ∷ fs) [] lt = refl
fewer_facts (f ∷ fs) (x ∷ xs) lt = ap suc (fewer_facts fs xs (omega arith))

pub fewer_funcs : (fs : List Func) (xs : List FuncFacts) → length fs ≤ length xs → length (beside fs xs) ≡ length fs
fewer_funcs [] xs le = refl
fewer_funcs (f ∷ fs) [] le = absurd (omega arith)
fewer_funcs (f ∷ fs) (x ∷ xs) le = ap suc (fewer_funcs fs xs (omega arith))
