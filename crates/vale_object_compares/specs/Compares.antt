-- What a comparison of two registers comes to, by names.
use Rattle.std.specs.Prelude.{ℕ, List, Option, Bool}
use Rattle.vale_code.specs.Instructions.{comparison_of}
use Rattle.vale_code.specs.Registers.{read}
use Rattle.vale_heap.specs.declared.body.Cell.{Cell}
use Rattle.vale_heap.specs.declared.body.Place.{Place}
use Rattle.vale_turn.specs.Comparing.{compared}
use Rattle.vale_object_cells.specs.Names.{values_in}

abbrev pub compared_in : List Place → List (Option Cell) → ℕ → ℕ → ℕ → Option Bool
compared_in names cells choice a b = compared (comparison_of choice) (read (values_in names cells) a) (read (values_in names cells) b)
