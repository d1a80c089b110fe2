-- What is copied from register to register: numbers, truths, texts and references.
use Rattle.std.specs.Prelude.{◌≡◌, ℕ, List, Some}
use Rattle.vale_heap.specs.declared.body.Cell.{Cell}
use Rattle.vale_heap.specs.declared.body.Cell.TheVariants.{Own, Iso}
use Rattle.vale_object_cells.specs.Cells.{cells_in, held}
use Rattle.vale_object_cells.specs.declared.register.Register.{Register}

abbrev pub IsCopied : Cell → Type 0
IsCopied (Own p) = ⊥
IsCopied (Iso p) = ⊥
IsCopied _ = Unit {0}

abbrev pub HoldsCopied : List Register → ℕ → Type 0
HoldsCopied registers r = (t : ℕ → List ℕ) × (c : Cell) × (held (cells_in t registers) r ≡ Some c) × IsCopied c
