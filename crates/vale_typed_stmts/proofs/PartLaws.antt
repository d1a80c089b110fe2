-- What is known of a block by its parts.
use Rattle.std.proofs.Common.{◌≡◌, ap}
use Rattle.vale_syntax.specs.declared.tree.Block.{Block, out-Block}
use Rattle.vale_rules_spec.specs.Typing.{block_spot}
use Rattle.vale_syntax.specs.View.{view_block}
use Rattle.vale_syntax.proofs.PartLaws.{of_out_block}

pub of_block_spot : (b : Block) → block_spot (view_block b) ≡ (out-Block b).at
of_block_spot b = ap block_spot (of_out_block b)
