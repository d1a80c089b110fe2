-- Arguments that are too many or too few.
use Rattle.std.proofs.Common.{◌≡◌, ℕ, ◌<◌, List, [], ◌∷◌, length, refl, arith}
use Rattle.vale_code.specs.declared.ty.Ty.{Ty}
use Rattle.vale_code.specs.declared.kind.Field.{Field}
use Rattle.vale_cert.specs.Objects.{types_of}
use Rattle.vale_cert.specs.Rules.{Effect, passes_all, takes_all, puts_all, too_many_or_few}

pub too_many : (depth : ℕ) (tys : List Ty) (args : List ℕ) (row : Effect) → length tys < 1 → 0 < length args → passes_all depth tys args row ≡ too_many_or_few row
too_many depth [] [] row e h = absurd (omega arith)
too_many depth [] (a ∷ more) row e h = refl
too_many depth (ty ∷ tys) args row e h = absurd (omega arith)

pub too_few : (depth : ℕ) (tys : List Ty) (args : List ℕ) (row : Effect) → 0 < length tys → length args ≡ 0 → passes_all depth tys args row ≡ too_many_or_few row
too_few depth [] args row e h = absurd (omega arith)
too_few depth (ty ∷ tys) [] row e h = refl
too_few depth (ty ∷ tys) (a ∷ more) row e h = absurd (omega arith)

pub takes_many : (depth : ℕ) (fields : List Field) (args : List ℕ) (row : Effect) → length fields < 1 → 0 < length args → takes_all depth (types_of fields) args row ≡ too_many_or_few row
takes_many depth [] [] row e h = absurd (omega arith)
takes_many depth [] (a ∷ more) row e h = refl
takes_many depth (field ∷ fields) args row e h = absurd (omega arith)

pub takes_few : (depth : ℕ) (fields : List Field) (args : List ℕ) (row : Effect) → 0 < length fields → length args ≡ 0 → takes_all depth (types_of fields) args row ≡ too_many_or_few row
takes_few depth [] args row e h = absurd (omega arith)
takes_few depth (field ∷ fields) [] row e h = refl
takes_few depth (field ∷ fields) (a ∷ more) row e h = absurd (omega arith)

pub puts_many : (depth : ℕ) (fields : List Field) (args : List ℕ) (row : Effect) → length fields < 1 → 0 < length args → puts_all depth (types_of fields) args row ≡ too_many_or_few row
puts_many depth [] [] row e h = absurd (omega arith)
puts_many depth [] (a ∷ more) row e h = refl
puts_many depth (field ∷ fields) args row e h = absurd (omega arith)

pub puts_few : (depth : ℕ) (fields : List Field) (args : List ℕ) (row : Effect) → 0 < length fields → length args ≡ 0 → puts_all depth (types_of fields) args row ≡ too_many_or_few row
puts_few depth [] args row e h = absurd (omega arith)
puts_few depth (field ∷ fields) [] row e h = refl
puts_few depth (field ∷ fields) (a ∷ more) row e h = absurd (omega arith)
