use Rattle.std.proofs.Common.{refl}
use Rattle.vale_code.specs.declared.instr.Instr.TheVariants as i
use Rattle.vale_object_cells.specs.Cells.{cells_in}
use Rattle.vale_object_steps.specs.Doing.{freezes, moves, widens}
use Rattle.vale_object_turn.proofs.Mirrors.{borrow_mirrors, frozen_mirrors, move_mirrors, upcast_mirrors}
use Rattle.vale_object_turn.proofs.Stepping.{can_so, goes}
use Rattle.vale_object_turn.proofs.obey.obey_reference.Goals as goal

pub transfer-requires-clause-right : goal.transfer-requires-clause-right
transfer-requires-clause-right c =
    let h = c.requires.right in
    (h.0, h.1, can_so c.args.instr.now (i.Move c.in-Move.to c.in-Move.from) (moves c.in-Move.to c.in-Move.from) h.1 (cells_in h.0 c.args.registers.now) c.args.place.now c.in-Move.is (move_mirrors c.in-Move.to c.in-Move.from) (h.2, h.3))

pub returns-in-Move : goal.returns-in-Move
returns-in-Move c = record {
  step = λ t heap left.
      goes c.args.instr.now (i.Move c.in-Move.to c.in-Move.from) (moves c.in-Move.to c.in-Move.from) heap (cells_in t c.args.registers.now) c.args.place.now c.in-Move.is heap (cells_in t c.transfer.new.registers) _ left (move_mirrors c.in-Move.to c.in-Move.from) (c.transfer.ensures t heap) refl;
}

pub borrow-requires-clause-right : goal.borrow-requires-clause-right
borrow-requires-clause-right c =
    let h = c.requires.right in
    (h.0, h.1, can_so c.args.instr.now (i.Borrow c.in-Borrow.to c.in-Borrow.from) (freezes c.in-Borrow.to c.in-Borrow.from) h.1 (cells_in h.0 c.args.registers.now) c.args.place.now c.in-Borrow.is (borrow_mirrors c.in-Borrow.to c.in-Borrow.from) (h.2, h.3))

pub returns-in-Borrow : goal.returns-in-Borrow
returns-in-Borrow c = record {
  step = λ t heap left.
      goes c.args.instr.now (i.Borrow c.in-Borrow.to c.in-Borrow.from) (freezes c.in-Borrow.to c.in-Borrow.from) heap (cells_in t c.args.registers.now) c.args.place.now c.in-Borrow.is heap (cells_in t c.borrow.new.registers) _ left (borrow_mirrors c.in-Borrow.to c.in-Borrow.from) (c.borrow.ensures t heap) refl;
}

pub borrow-requires-in-Frozen-clause-right : goal.borrow-requires-in-Frozen-clause-right
borrow-requires-in-Frozen-clause-right c =
    let h = c.requires.right in
    (h.0, h.1, can_so c.args.instr.now (i.Frozen c.in-Frozen.to c.in-Frozen.from) (freezes c.in-Frozen.to c.in-Frozen.from) h.1 (cells_in h.0 c.args.registers.now) c.args.place.now c.in-Frozen.is (frozen_mirrors c.in-Frozen.to c.in-Frozen.from) (h.2, h.3))

pub returns-in-Frozen : goal.returns-in-Frozen
returns-in-Frozen c = record {
  step = λ t heap left.
      goes c.args.instr.now (i.Frozen c.in-Frozen.to c.in-Frozen.from) (freezes c.in-Frozen.to c.in-Frozen.from) heap (cells_in t c.args.registers.now) c.args.place.now c.in-Frozen.is heap (cells_in t c.borrow-in-Frozen.new.registers) _ left (frozen_mirrors c.in-Frozen.to c.in-Frozen.from) (c.borrow-in-Frozen.ensures t heap) refl;
}

pub widen-requires-clause-right : goal.widen-requires-clause-right
widen-requires-clause-right c =
    let h = c.requires.right in
    (h.0, h.1, can_so c.args.instr.now (i.Upcast c.in-Upcast.to c.in-Upcast.from c.in-Upcast.kind) (widens c.in-Upcast.to c.in-Upcast.from) h.1 (cells_in h.0 c.args.registers.now) c.args.place.now c.in-Upcast.is (upcast_mirrors c.in-Upcast.to c.in-Upcast.from c.in-Upcast.kind) (h.2, h.3))

pub returns-in-Upcast : goal.returns-in-Upcast
returns-in-Upcast c = record {
  step = λ t heap left.
      goes c.args.instr.now (i.Upcast c.in-Upcast.to c.in-Upcast.from c.in-Upcast.kind) (widens c.in-Upcast.to c.in-Upcast.from) heap (cells_in t c.args.registers.now) c.args.place.now c.in-Upcast.is heap (cells_in t c.widen.new.registers) _ left (upcast_mirrors c.in-Upcast.to c.in-Upcast.from c.in-Upcast.kind) (c.widen.ensures t heap) refl;
}
