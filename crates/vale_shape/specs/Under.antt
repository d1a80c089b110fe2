-- Which kinds are arrays of isolates, or of such arrays.
use Rattle.std.specs.Prelude.{ℕ, List, length, Bool, ◌≡◌}
use Rattle.vale_code.specs.Parts.{Parts}
use Rattle.vale_code.specs.declared.ty.Ty.TheVariants.{Own}
use Rattle.vale_cert.specs.Types.{marked, isolates_under}

-- these marks say which
abbrev pub MarksArrays : Parts → List Bool → Type 0
MarksArrays code arrays = (n : ℕ) → marked arrays n ≡ isolates_under code (length code.kinds) (Own (record { 0 = n }))
