use Rattle.std.proofs.Common.{map, sym, subst}
use Rattle.vale_table.specs.Lending.{IsFull}
use Rattle.vale_table.specs.Plain.{out_of}
use Rattle.vale_heap.specs.Standing.{DenoteAll}
use Rattle.vale_heap_calls.specs.Calls.{value_of}
use Rattle.vale_heap_calls.proofs.StepLaws.{make_law, made_regions}
use Rattle.vale_heap_calls.proofs.session.Session.make.Goals as goal

pub returns-in-Ok-clause-follows : goal.returns-in-Ok-clause-follows
returns-in-Ok-clause-follows c =
    let denote : DenoteAll c.args.self.now.places.items c.in_ok-cells.cells (map value_of c.args.values) =
    subst (λ p. DenoteAll p c.in_ok-cells.cells (map value_of c.args.values)) c.deref.ensures.value c.in_ok-cells.ensures in
    let made = c.in-Ok.ensures in
    rw c.in_ok-push-in-Ok.ensures.items (make_law c.args.self.now.heap c.make.new.self c.args.self.now.table c.make.new.lender c.args.self.now.places.items c.args.kind c.in_ok-cells.cells c.args.values c.in-Ok.place denote made.stands made.still_known made.as_long made.known_out made.floors made.frames (made_regions _ _ _ _ _ made.made))

pub returns-in-Err-clause-cause : goal.returns-in-Err-clause-cause
returns-in-Err-clause-cause c =
    let why = c.in-Err.ensures.refused in
    (why.no_room, subst (λ n. IsFull n (out_of c.make.new.lender)) (sym c.in-Err.ensures.frames) why.full)
