use Rattle.vale_code.specs.declared.instr.Instr.TheVariants as i
use Rattle.vale_object_cells.specs.Cells.{cells_from}
use Rattle.vale_object_steps.specs.Doing.{exchanges, pops, pushes, swaps}
use Rattle.vale_object_turn.proofs.Mirrors.{pop_mirrors, push_mirrors, swap_el_mirrors, swap_el_own_mirrors, swap_mirrors, swap_own_mirrors}
use Rattle.vale_object_turn.proofs.Stepping.{can, can_so, lands, lands_surely, never_traps, ok_on, ok_surely}
use Rattle.vale_object_turn.proofs.obey.obey_change.Goals as goal

pub swap-from_owner-requires-clause-right : goal.swap-from_owner-requires-clause-right
swap-from_owner-requires-clause-right c = (can_so c.args.instr.now (i.SwapOwn c.in-SwapOwn.to c.in-SwapOwn.object c.in-SwapOwn.field c.in-SwapOwn.value) (swaps c.in-SwapOwn.to c.in-SwapOwn.object c.in-SwapOwn.field c.in-SwapOwn.value) c.args.heap.now (cells_from c.args.base c.args.texts.now c.args.registers.now) c.args.place.now c.in-SwapOwn.is (swap_own_mirrors c.in-SwapOwn.to c.in-SwapOwn.object c.in-SwapOwn.field c.in-SwapOwn.value) c.requires.right)

pub go_on-requires-clause-no_trap : goal.go_on-requires-clause-no_trap
go_on-requires-clause-no_trap c = never_traps c.args.instr.now (i.SwapOwn c.in-SwapOwn.to c.in-SwapOwn.object c.in-SwapOwn.field c.in-SwapOwn.value) (swaps c.in-SwapOwn.to c.in-SwapOwn.object c.in-SwapOwn.field c.in-SwapOwn.value) c.args.heap.now (cells_from c.args.base c.args.texts.now c.args.registers.now) c.args.place.now c.in-SwapOwn.is c.swap-from_owner.result c.swap-from_owner.new.heap (cells_from c.args.base c.swap-from_owner.new.texts c.swap-from_owner.new.registers) (swap_own_mirrors c.in-SwapOwn.to c.in-SwapOwn.object c.in-SwapOwn.field c.in-SwapOwn.value) c.requires.right c.swap-from_owner.ensures.step

pub returns-in-SwapOwn-clause-step : goal.returns-in-SwapOwn-clause-step
returns-in-SwapOwn-clause-step c = lands_surely c.args.instr.now (i.SwapOwn c.in-SwapOwn.to c.in-SwapOwn.object c.in-SwapOwn.field c.in-SwapOwn.value) (swaps c.in-SwapOwn.to c.in-SwapOwn.object c.in-SwapOwn.field c.in-SwapOwn.value) c.args.heap.now (cells_from c.args.base c.args.texts.now c.args.registers.now) c.args.place.now c.in-SwapOwn.is c.swap-from_owner.result c.go_on.result c.swap-from_owner.new.heap (cells_from c.args.base c.swap-from_owner.new.texts c.swap-from_owner.new.registers) c.go_on.new.place (swap_own_mirrors c.in-SwapOwn.to c.in-SwapOwn.object c.in-SwapOwn.field c.in-SwapOwn.value) c.swap-from_owner.ensures.step c.go_on.ensures

pub returns-in-SwapOwn-clause-others : goal.returns-in-SwapOwn-clause-others
returns-in-SwapOwn-clause-others c = ok_surely c.swap-from_owner.result c.go_on.result _ _ _ c.go_on.ensures c.swap-from_owner.ensures.others

pub swap-checked-requires-clause-right : goal.swap-checked-requires-clause-right
swap-checked-requires-clause-right c = (can c.args.instr.now (i.Swap c.in-Swap.to c.in-Swap.object c.in-Swap.field c.in-Swap.value c.in-Swap.at) (swaps c.in-Swap.to c.in-Swap.object c.in-Swap.field c.in-Swap.value) c.args.heap.now (cells_from c.args.base c.args.texts.now c.args.registers.now) c.args.place.now c.in-Swap.is c.in-Swap.at (swap_mirrors c.in-Swap.to c.in-Swap.object c.in-Swap.field c.in-Swap.value c.in-Swap.at) c.requires.right)

pub returns-in-Swap-clause-step : goal.returns-in-Swap-clause-step
returns-in-Swap-clause-step c = lands c.args.instr.now (i.Swap c.in-Swap.to c.in-Swap.object c.in-Swap.field c.in-Swap.value c.in-Swap.at) (swaps c.in-Swap.to c.in-Swap.object c.in-Swap.field c.in-Swap.value) c.args.heap.now (cells_from c.args.base c.args.texts.now c.args.registers.now) c.args.place.now c.in-Swap.is c.in-Swap.at c.swap-checked.result c.land.result c.swap-checked.new.heap (cells_from c.args.base c.swap-checked.new.texts c.swap-checked.new.registers) c.land.new.place (swap_mirrors c.in-Swap.to c.in-Swap.object c.in-Swap.field c.in-Swap.value c.in-Swap.at) c.swap-checked.ensures.step c.land.ensures

pub returns-in-Swap-clause-others : goal.returns-in-Swap-clause-others
returns-in-Swap-clause-others c = ok_on c.swap-checked.result c.land.result _ _ c.land.ensures c.swap-checked.ensures.others

pub exchange-from_owner-requires-clause-right : goal.exchange-from_owner-requires-clause-right
exchange-from_owner-requires-clause-right c = (can c.args.instr.now (i.SwapElOwn c.in-SwapElOwn.to c.in-SwapElOwn.object c.in-SwapElOwn.index c.in-SwapElOwn.value c.in-SwapElOwn.at) (exchanges c.in-SwapElOwn.to c.in-SwapElOwn.object c.in-SwapElOwn.index c.in-SwapElOwn.value) c.args.heap.now (cells_from c.args.base c.args.texts.now c.args.registers.now) c.args.place.now c.in-SwapElOwn.is c.in-SwapElOwn.at (swap_el_own_mirrors c.in-SwapElOwn.to c.in-SwapElOwn.object c.in-SwapElOwn.index c.in-SwapElOwn.value c.in-SwapElOwn.at) c.requires.right)

pub returns-in-SwapElOwn-clause-step : goal.returns-in-SwapElOwn-clause-step
returns-in-SwapElOwn-clause-step c = lands c.args.instr.now (i.SwapElOwn c.in-SwapElOwn.to c.in-SwapElOwn.object c.in-SwapElOwn.index c.in-SwapElOwn.value c.in-SwapElOwn.at) (exchanges c.in-SwapElOwn.to c.in-SwapElOwn.object c.in-SwapElOwn.index c.in-SwapElOwn.value) c.args.heap.now (cells_from c.args.base c.args.texts.now c.args.registers.now) c.args.place.now c.in-SwapElOwn.is c.in-SwapElOwn.at c.exchange-from_owner.result c.land-in-SwapElOwn.result c.exchange-from_owner.new.heap (cells_from c.args.base c.exchange-from_owner.new.texts c.exchange-from_owner.new.registers) c.land-in-SwapElOwn.new.place (swap_el_own_mirrors c.in-SwapElOwn.to c.in-SwapElOwn.object c.in-SwapElOwn.index c.in-SwapElOwn.value c.in-SwapElOwn.at) c.exchange-from_owner.ensures.step c.land-in-SwapElOwn.ensures

pub returns-in-SwapElOwn-clause-others : goal.returns-in-SwapElOwn-clause-others
returns-in-SwapElOwn-clause-others c = ok_on c.exchange-from_owner.result c.land-in-SwapElOwn.result _ _ c.land-in-SwapElOwn.ensures c.exchange-from_owner.ensures.others

pub exchange-checked-requires-clause-right : goal.exchange-checked-requires-clause-right
exchange-checked-requires-clause-right c = (can c.args.instr.now (i.SwapEl c.in-SwapEl.to c.in-SwapEl.object c.in-SwapEl.index c.in-SwapEl.value c.in-SwapEl.at) (exchanges c.in-SwapEl.to c.in-SwapEl.object c.in-SwapEl.index c.in-SwapEl.value) c.args.heap.now (cells_from c.args.base c.args.texts.now c.args.registers.now) c.args.place.now c.in-SwapEl.is c.in-SwapEl.at (swap_el_mirrors c.in-SwapEl.to c.in-SwapEl.object c.in-SwapEl.index c.in-SwapEl.value c.in-SwapEl.at) c.requires.right)

pub returns-in-SwapEl-clause-step : goal.returns-in-SwapEl-clause-step
returns-in-SwapEl-clause-step c = lands c.args.instr.now (i.SwapEl c.in-SwapEl.to c.in-SwapEl.object c.in-SwapEl.index c.in-SwapEl.value c.in-SwapEl.at) (exchanges c.in-SwapEl.to c.in-SwapEl.object c.in-SwapEl.index c.in-SwapEl.value) c.args.heap.now (cells_from c.args.base c.args.texts.now c.args.registers.now) c.args.place.now c.in-SwapEl.is c.in-SwapEl.at c.exchange-checked.result c.land-in-SwapEl.result c.exchange-checked.new.heap (cells_from c.args.base c.exchange-checked.new.texts c.exchange-checked.new.registers) c.land-in-SwapEl.new.place (swap_el_mirrors c.in-SwapEl.to c.in-SwapEl.object c.in-SwapEl.index c.in-SwapEl.value c.in-SwapEl.at) c.exchange-checked.ensures.step c.land-in-SwapEl.ensures

pub returns-in-SwapEl-clause-others : goal.returns-in-SwapEl-clause-others
returns-in-SwapEl-clause-others c = ok_on c.exchange-checked.result c.land-in-SwapEl.result _ _ c.land-in-SwapEl.ensures c.exchange-checked.ensures.others

pub push-checked-requires-clause-right : goal.push-checked-requires-clause-right
push-checked-requires-clause-right c = (can c.args.instr.now (i.Push c.in-Push.object c.in-Push.value c.in-Push.at) (pushes c.in-Push.object c.in-Push.value) c.args.heap.now (cells_from c.args.base c.args.texts.now c.args.registers.now) c.args.place.now c.in-Push.is c.in-Push.at (push_mirrors c.in-Push.object c.in-Push.value c.in-Push.at) c.requires.right)

pub returns-in-Push-clause-step : goal.returns-in-Push-clause-step
returns-in-Push-clause-step c = lands c.args.instr.now (i.Push c.in-Push.object c.in-Push.value c.in-Push.at) (pushes c.in-Push.object c.in-Push.value) c.args.heap.now (cells_from c.args.base c.args.texts.now c.args.registers.now) c.args.place.now c.in-Push.is c.in-Push.at c.push-checked.result c.land-in-Push.result c.push-checked.new.heap (cells_from c.args.base c.args.texts.now c.push-checked.new.registers) c.land-in-Push.new.place (push_mirrors c.in-Push.object c.in-Push.value c.in-Push.at) c.push-checked.ensures.step c.land-in-Push.ensures

pub pop-checked-requires-clause-right : goal.pop-checked-requires-clause-right
pop-checked-requires-clause-right c = (can c.args.instr.now (i.Pop c.in-Pop.to c.in-Pop.object c.in-Pop.at) (pops c.in-Pop.to c.in-Pop.object) c.args.heap.now (cells_from c.args.base c.args.texts.now c.args.registers.now) c.args.place.now c.in-Pop.is c.in-Pop.at (pop_mirrors c.in-Pop.to c.in-Pop.object c.in-Pop.at) c.requires.right)

pub returns-in-Pop-clause-step : goal.returns-in-Pop-clause-step
returns-in-Pop-clause-step c = lands c.args.instr.now (i.Pop c.in-Pop.to c.in-Pop.object c.in-Pop.at) (pops c.in-Pop.to c.in-Pop.object) c.args.heap.now (cells_from c.args.base c.args.texts.now c.args.registers.now) c.args.place.now c.in-Pop.is c.in-Pop.at c.pop-checked.result c.land-in-Pop.result c.pop-checked.new.heap (cells_from c.args.base c.pop-checked.new.texts c.pop-checked.new.registers) c.land-in-Pop.new.place (pop_mirrors c.in-Pop.to c.in-Pop.object c.in-Pop.at) c.pop-checked.ensures.step c.land-in-Pop.ensures

pub returns-in-Pop-clause-others : goal.returns-in-Pop-clause-others
returns-in-Pop-clause-others c = ok_on c.pop-checked.result c.land-in-Pop.result _ _ c.land-in-Pop.ensures c.pop-checked.ensures.others
