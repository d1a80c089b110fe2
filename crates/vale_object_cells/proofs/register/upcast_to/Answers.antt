use Rattle.vale_object_cells.proofs.Holding.{place_within}
use Rattle.vale_object_cells.proofs.register.upcast_to.Goals as goal

pub shape_at-requires : goal.shape_at-requires
shape_at-requires c = place_within c.args.registers.now c.args.from c.requires.place

pub empty-requires : goal.empty-requires
empty-requires c = place_within c.args.registers.now c.args.from c.requires.place

pub empty-requires-in-Iso : goal.empty-requires-in-Iso
empty-requires-in-Iso c = place_within c.args.registers.now c.args.from c.requires.place
