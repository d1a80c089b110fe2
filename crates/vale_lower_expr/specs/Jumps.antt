-- Jumps that are set once their target is known.
use Rattle.std.specs.Prelude.{ℕ, List, [], ◌∷◌, slice_set}
use Rattle.vale_code.specs.declared.instr.Instr.{Instr}
use Rattle.vale_code.specs.declared.instr.Instr.TheVariants as i

-- a jump to the end at each of these places
abbrev pub jumps_set : List ℕ → ℕ → List Instr → List Instr
jumps_set [] end code = code
jumps_set (place ∷ places) end code = jumps_set places end (slice_set code place (i.Jump end))
