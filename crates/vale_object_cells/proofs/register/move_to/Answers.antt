use Rattle.vale_object_cells.proofs.Holding.{place_within}
use Rattle.vale_object_cells.proofs.register.move_to.Goals as goal

pub shape_at-shape-requires : goal.shape_at-shape-requires
shape_at-shape-requires c = place_within c.args.registers.now c.args.from c.requires.place

pub empty-requires : goal.empty-requires
empty-requires c = place_within c.args.registers.now c.args.from c.requires.place
