use Rattle.std.specs.Prelude.{Ok}
use Rattle.vale_registers.specs.Passing.{from_base}
use Rattle.vale_registers.specs.Texts.{text_at}
use Rattle.vale_code.specs.declared.instr.Instr.TheVariants as i
use Rattle.vale_object_cells.specs.Cells.{cells_from}
use Rattle.vale_object_steps.specs.Doing.{counts, loads, reads}
use Rattle.vale_object_turn.proofs.Mirrors.{elem_live_mirrors, elem_mirrors, elem_own_mirrors, len_live_mirrors, len_mirrors, load_live_mirrors, load_mirrors, load_own_mirrors}
use Rattle.vale_object_turn.proofs.Stepping.{can, can_so, lands, lands_surely, never_traps, ok_on, ok_surely}
use Rattle.vale_object_turn.proofs.obey.obey_look.Goals as goal

pub load-from_owner-requires-clause-right : goal.load-from_owner-requires-clause-right
load-from_owner-requires-clause-right c = (can_so c.args.instr.now (i.LoadOwn c.in-LoadOwn.to c.in-LoadOwn.object c.in-LoadOwn.field) (loads c.in-LoadOwn.to c.in-LoadOwn.object c.in-LoadOwn.field) c.args.heap.now (cells_from c.args.base c.args.texts.now c.args.registers.now) c.args.place.now c.in-LoadOwn.is (load_own_mirrors c.in-LoadOwn.to c.in-LoadOwn.object c.in-LoadOwn.field) c.requires.right)

pub go_on-requires-clause-no_trap : goal.go_on-requires-clause-no_trap
go_on-requires-clause-no_trap c = never_traps c.args.instr.now (i.LoadOwn c.in-LoadOwn.to c.in-LoadOwn.object c.in-LoadOwn.field) (loads c.in-LoadOwn.to c.in-LoadOwn.object c.in-LoadOwn.field) c.args.heap.now (cells_from c.args.base c.args.texts.now c.args.registers.now) c.args.place.now c.in-LoadOwn.is c.load-from_owner.result c.args.heap.now (cells_from c.args.base c.load-from_owner.new.texts c.load-from_owner.new.registers) (load_own_mirrors c.in-LoadOwn.to c.in-LoadOwn.object c.in-LoadOwn.field) c.requires.right c.load-from_owner.ensures.step

pub returns-in-LoadOwn-clause-step : goal.returns-in-LoadOwn-clause-step
returns-in-LoadOwn-clause-step c = lands_surely c.args.instr.now (i.LoadOwn c.in-LoadOwn.to c.in-LoadOwn.object c.in-LoadOwn.field) (loads c.in-LoadOwn.to c.in-LoadOwn.object c.in-LoadOwn.field) c.args.heap.now (cells_from c.args.base c.args.texts.now c.args.registers.now) c.args.place.now c.in-LoadOwn.is c.load-from_owner.result c.go_on.result c.args.heap.now (cells_from c.args.base c.load-from_owner.new.texts c.load-from_owner.new.registers) c.go_on.new.place (load_own_mirrors c.in-LoadOwn.to c.in-LoadOwn.object c.in-LoadOwn.field) c.load-from_owner.ensures.step c.go_on.ensures

pub returns-in-LoadOwn-clause-others : goal.returns-in-LoadOwn-clause-others
returns-in-LoadOwn-clause-others c = ok_surely c.load-from_owner.result c.go_on.result _ _ _ c.go_on.ensures c.load-from_owner.ensures.others

pub load-checked-requires-clause-right : goal.load-checked-requires-clause-right
load-checked-requires-clause-right c = (can c.args.instr.now (i.Load c.in-Load.to c.in-Load.object c.in-Load.field c.in-Load.at) (loads c.in-Load.to c.in-Load.object c.in-Load.field) c.args.heap.now (cells_from c.args.base c.args.texts.now c.args.registers.now) c.args.place.now c.in-Load.is c.in-Load.at (load_mirrors c.in-Load.to c.in-Load.object c.in-Load.field c.in-Load.at) c.requires.right)

pub returns-in-Load-clause-step : goal.returns-in-Load-clause-step
returns-in-Load-clause-step c = lands c.args.instr.now (i.Load c.in-Load.to c.in-Load.object c.in-Load.field c.in-Load.at) (loads c.in-Load.to c.in-Load.object c.in-Load.field) c.args.heap.now (cells_from c.args.base c.args.texts.now c.args.registers.now) c.args.place.now c.in-Load.is c.in-Load.at c.load-checked.result c.land.result c.args.heap.now (cells_from c.args.base c.load-checked.new.texts c.load-checked.new.registers) c.land.new.place (load_mirrors c.in-Load.to c.in-Load.object c.in-Load.field c.in-Load.at) c.load-checked.ensures.step c.land.ensures

pub returns-in-Load-clause-others : goal.returns-in-Load-clause-others
returns-in-Load-clause-others c = ok_on c.load-checked.result c.land.result _ _ c.land.ensures c.load-checked.ensures.others

pub load-living-requires-clause-right : goal.load-living-requires-clause-right
load-living-requires-clause-right c = (can_so c.args.instr.now (i.LoadLive c.in-LoadLive.to c.in-LoadLive.object c.in-LoadLive.field) (loads c.in-LoadLive.to c.in-LoadLive.object c.in-LoadLive.field) c.args.heap.now (cells_from c.args.base c.args.texts.now c.args.registers.now) c.args.place.now c.in-LoadLive.is (load_live_mirrors c.in-LoadLive.to c.in-LoadLive.object c.in-LoadLive.field) c.requires.right)

pub go_on-requires-in-LoadLive-clause-no_trap : goal.go_on-requires-in-LoadLive-clause-no_trap
go_on-requires-in-LoadLive-clause-no_trap c = never_traps c.args.instr.now (i.LoadLive c.in-LoadLive.to c.in-LoadLive.object c.in-LoadLive.field) (loads c.in-LoadLive.to c.in-LoadLive.object c.in-LoadLive.field) c.args.heap.now (cells_from c.args.base c.args.texts.now c.args.registers.now) c.args.place.now c.in-LoadLive.is c.load-living.result c.args.heap.now (cells_from c.args.base c.load-living.new.texts c.load-living.new.registers) (load_live_mirrors c.in-LoadLive.to c.in-LoadLive.object c.in-LoadLive.field) c.requires.right c.load-living.ensures.step

pub returns-in-LoadLive-clause-step : goal.returns-in-LoadLive-clause-step
returns-in-LoadLive-clause-step c = lands_surely c.args.instr.now (i.LoadLive c.in-LoadLive.to c.in-LoadLive.object c.in-LoadLive.field) (loads c.in-LoadLive.to c.in-LoadLive.object c.in-LoadLive.field) c.args.heap.now (cells_from c.args.base c.args.texts.now c.args.registers.now) c.args.place.now c.in-LoadLive.is c.load-living.result c.go_on-in-LoadLive.result c.args.heap.now (cells_from c.args.base c.load-living.new.texts c.load-living.new.registers) c.go_on-in-LoadLive.new.place (load_live_mirrors c.in-LoadLive.to c.in-LoadLive.object c.in-LoadLive.field) c.load-living.ensures.step c.go_on-in-LoadLive.ensures

pub returns-in-LoadLive-clause-others : goal.returns-in-LoadLive-clause-others
returns-in-LoadLive-clause-others c = ok_surely c.load-living.result c.go_on-in-LoadLive.result _ _ _ c.go_on-in-LoadLive.ensures c.load-living.ensures.others

pub element-from_owner-requires-clause-right : goal.element-from_owner-requires-clause-right
element-from_owner-requires-clause-right c = (can c.args.instr.now (i.ElemOwn c.in-ElemOwn.to c.in-ElemOwn.object c.in-ElemOwn.index c.in-ElemOwn.at) (reads c.in-ElemOwn.to c.in-ElemOwn.object c.in-ElemOwn.index) c.args.heap.now (cells_from c.args.base c.args.texts.now c.args.registers.now) c.args.place.now c.in-ElemOwn.is c.in-ElemOwn.at (elem_own_mirrors c.in-ElemOwn.to c.in-ElemOwn.object c.in-ElemOwn.index c.in-ElemOwn.at) c.requires.right)

pub returns-in-ElemOwn-clause-step : goal.returns-in-ElemOwn-clause-step
returns-in-ElemOwn-clause-step c = lands c.args.instr.now (i.ElemOwn c.in-ElemOwn.to c.in-ElemOwn.object c.in-ElemOwn.index c.in-ElemOwn.at) (reads c.in-ElemOwn.to c.in-ElemOwn.object c.in-ElemOwn.index) c.args.heap.now (cells_from c.args.base c.args.texts.now c.args.registers.now) c.args.place.now c.in-ElemOwn.is c.in-ElemOwn.at c.element-from_owner.result c.land-in-ElemOwn.result c.args.heap.now (cells_from c.args.base c.element-from_owner.new.texts c.element-from_owner.new.registers) c.land-in-ElemOwn.new.place (elem_own_mirrors c.in-ElemOwn.to c.in-ElemOwn.object c.in-ElemOwn.index c.in-ElemOwn.at) c.element-from_owner.ensures.step c.land-in-ElemOwn.ensures

pub returns-in-ElemOwn-clause-others : goal.returns-in-ElemOwn-clause-others
returns-in-ElemOwn-clause-others c = ok_on c.element-from_owner.result c.land-in-ElemOwn.result _ _ c.land-in-ElemOwn.ensures c.element-from_owner.ensures.others

pub element-checked-requires-clause-right : goal.element-checked-requires-clause-right
element-checked-requires-clause-right c = (can c.args.instr.now (i.Elem c.in-Elem.to c.in-Elem.object c.in-Elem.index c.in-Elem.at) (reads c.in-Elem.to c.in-Elem.object c.in-Elem.index) c.args.heap.now (cells_from c.args.base c.args.texts.now c.args.registers.now) c.args.place.now c.in-Elem.is c.in-Elem.at (elem_mirrors c.in-Elem.to c.in-Elem.object c.in-Elem.index c.in-Elem.at) c.requires.right)

pub returns-in-Elem-clause-step : goal.returns-in-Elem-clause-step
returns-in-Elem-clause-step c = lands c.args.instr.now (i.Elem c.in-Elem.to c.in-Elem.object c.in-Elem.index c.in-Elem.at) (reads c.in-Elem.to c.in-Elem.object c.in-Elem.index) c.args.heap.now (cells_from c.args.base c.args.texts.now c.args.registers.now) c.args.place.now c.in-Elem.is c.in-Elem.at c.element-checked.result c.land-in-Elem.result c.args.heap.now (cells_from c.args.base c.element-checked.new.texts c.element-checked.new.registers) c.land-in-Elem.new.place (elem_mirrors c.in-Elem.to c.in-Elem.object c.in-Elem.index c.in-Elem.at) c.element-checked.ensures.step c.land-in-Elem.ensures

pub returns-in-Elem-clause-others : goal.returns-in-Elem-clause-others
returns-in-Elem-clause-others c = ok_on c.element-checked.result c.land-in-Elem.result _ _ c.land-in-Elem.ensures c.element-checked.ensures.others

pub element-living-requires-clause-right : goal.element-living-requires-clause-right
element-living-requires-clause-right c = (can c.args.instr.now (i.ElemLive c.in-ElemLive.to c.in-ElemLive.object c.in-ElemLive.index c.in-ElemLive.at) (reads c.in-ElemLive.to c.in-ElemLive.object c.in-ElemLive.index) c.args.heap.now (cells_from c.args.base c.args.texts.now c.args.registers.now) c.args.place.now c.in-ElemLive.is c.in-ElemLive.at (elem_live_mirrors c.in-ElemLive.to c.in-ElemLive.object c.in-ElemLive.index c.in-ElemLive.at) c.requires.right)

pub returns-in-ElemLive-clause-step : goal.returns-in-ElemLive-clause-step
returns-in-ElemLive-clause-step c = lands c.args.instr.now (i.ElemLive c.in-ElemLive.to c.in-ElemLive.object c.in-ElemLive.index c.in-ElemLive.at) (reads c.in-ElemLive.to c.in-ElemLive.object c.in-ElemLive.index) c.args.heap.now (cells_from c.args.base c.args.texts.now c.args.registers.now) c.args.place.now c.in-ElemLive.is c.in-ElemLive.at c.element-living.result c.land-in-ElemLive.result c.args.heap.now (cells_from c.args.base c.element-living.new.texts c.element-living.new.registers) c.land-in-ElemLive.new.place (elem_live_mirrors c.in-ElemLive.to c.in-ElemLive.object c.in-ElemLive.index c.in-ElemLive.at) c.element-living.ensures.step c.land-in-ElemLive.ensures

pub returns-in-ElemLive-clause-others : goal.returns-in-ElemLive-clause-others
returns-in-ElemLive-clause-others c = ok_on c.element-living.result c.land-in-ElemLive.result _ _ c.land-in-ElemLive.ensures c.element-living.ensures.others

pub count-counted-requires-clause-right : goal.count-counted-requires-clause-right
count-counted-requires-clause-right c = ((from_base c.args.base (text_at c.args.texts.now)), (can c.args.instr.now (i.Len c.in-Len.to c.in-Len.object c.in-Len.at) (counts c.in-Len.to c.in-Len.object) c.args.heap.now (cells_from c.args.base c.args.texts.now c.args.registers.now) c.args.place.now c.in-Len.is c.in-Len.at (len_mirrors c.in-Len.to c.in-Len.object c.in-Len.at) c.requires.right))

pub returns-in-Len-clause-step : goal.returns-in-Len-clause-step
returns-in-Len-clause-step c = lands c.args.instr.now (i.Len c.in-Len.to c.in-Len.object c.in-Len.at) (counts c.in-Len.to c.in-Len.object) c.args.heap.now (cells_from c.args.base c.args.texts.now c.args.registers.now) c.args.place.now c.in-Len.is c.in-Len.at (Ok c.count-counted.result) c.land-in-Len.result c.args.heap.now (cells_from c.args.base c.args.texts.now c.count-counted.new.registers) c.land-in-Len.new.place (len_mirrors c.in-Len.to c.in-Len.object c.in-Len.at) (c.count-counted.ensures.step (from_base c.args.base (text_at c.args.texts.now))) c.land-in-Len.ensures

pub count-measured-requires-clause-right : goal.count-measured-requires-clause-right
count-measured-requires-clause-right c = ((from_base c.args.base (text_at c.args.texts.now)), (can_so c.args.instr.now (i.LenLive c.in-LenLive.to c.in-LenLive.object) (counts c.in-LenLive.to c.in-LenLive.object) c.args.heap.now (cells_from c.args.base c.args.texts.now c.args.registers.now) c.args.place.now c.in-LenLive.is (len_live_mirrors c.in-LenLive.to c.in-LenLive.object) c.requires.right))

pub go_on-requires-in-LenLive-clause-no_trap : goal.go_on-requires-in-LenLive-clause-no_trap
go_on-requires-in-LenLive-clause-no_trap c = never_traps c.args.instr.now (i.LenLive c.in-LenLive.to c.in-LenLive.object) (counts c.in-LenLive.to c.in-LenLive.object) c.args.heap.now (cells_from c.args.base c.args.texts.now c.args.registers.now) c.args.place.now c.in-LenLive.is (Ok c.count-measured.result) c.args.heap.now (cells_from c.args.base c.args.texts.now c.count-measured.new.registers) (len_live_mirrors c.in-LenLive.to c.in-LenLive.object) c.requires.right (c.count-measured.ensures.step (from_base c.args.base (text_at c.args.texts.now)))

pub returns-in-LenLive-clause-step : goal.returns-in-LenLive-clause-step
returns-in-LenLive-clause-step c = lands_surely c.args.instr.now (i.LenLive c.in-LenLive.to c.in-LenLive.object) (counts c.in-LenLive.to c.in-LenLive.object) c.args.heap.now (cells_from c.args.base c.args.texts.now c.args.registers.now) c.args.place.now c.in-LenLive.is (Ok c.count-measured.result) c.go_on-in-LenLive.result c.args.heap.now (cells_from c.args.base c.args.texts.now c.count-measured.new.registers) c.go_on-in-LenLive.new.place (len_live_mirrors c.in-LenLive.to c.in-LenLive.object) (c.count-measured.ensures.step (from_base c.args.base (text_at c.args.texts.now))) c.go_on-in-LenLive.ensures
