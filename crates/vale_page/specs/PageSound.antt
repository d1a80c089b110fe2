-- What a page says of its block of slots, and what holds of it.
use Rattle.std.specs.Prelude.{◌≡◌, ℕ, map}
use Rattle.vale_page.specs.BlockState.{generation_in, body_in, spents, IsSound}
use Rattle.vale_page.specs.PageState.{PageState, IsPage, live_count, retired_count}
use Rattle.vale_page.specs.declared.block.Block.{Block}

abbrev pub page_of : {B : Type 0} → ℕ → Block B → PageState B
page_of frame b = record {
  frame = frame;
  generations = map (generation_in b.first) b.generations.cells;
  bodies = map body_in b.bodies.cells;
  retired = spents b.generations.cells b.bodies.cells;
}

pub record IsKept {B : Type 0} (frame : ℕ) (b : Block B) (live_slots retired_slots : ℕ) : Type 0 where
  pub block : IsSound b
  pub page : IsPage (page_of frame b)
  pub live : live_slots ≡ live_count (page_of frame b)
  pub retired : retired_slots ≡ retired_count (page_of frame b)
