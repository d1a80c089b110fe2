use Rattle.std.proofs.Common.{◌≡◌, ℕ, ◌+◌, ◌<◌, List, [], Some, get_or, length, sym, subst, arith}
use Rattle.vale_heap.specs.declared.body.Cell.{Cell as ACell}
use Rattle.vale_object_cells.specs.Cells.{cells_from, cells_in, held}
use Rattle.vale_object_passing.specs.Giving.{given_as}
use Rattle.vale_object_passing.specs.Passing.{IsGiven}
use Rattle.vale_object_passing.proofs.Giving.{as_many_types}
use Rattle.vale_object_passing.proofs.Passes.{all_given, giving_given, giving_more}
use Rattle.vale_object_passing.proofs.arguments.give_all.Goals as goal

pub bounds-types-at : goal.bounds-types-at
bounds-types-at c =
    let many = as_many_types [] c.args.types.now c.args.args.now (cells_from c.args.base c.args.texts.now c.args.frame.now) c.requires.given in
    omega (arith, many, c.loop-at-test.true)

pub give-requires-clause-there : goal.give-requires-clause-there
give-requires-clause-there c =
    let many = as_many_types [] c.args.types.now c.args.args.now (cells_from c.args.base c.args.texts.now c.args.frame.now) c.requires.given in
    let lt : c.loop-at.at < length c.args.args.now = omega (arith, c.loop-at-test.true) in
    subst (λ b. (t : ℕ → List ℕ) × (x : ACell) × (given_as b (held (cells_in t c.loop-at.frame) (get_or c.args.args.now c.loop-at.at 0)) ≡ Some x)) (sym c.is_frozen-frozen.ensures)
    (giving_given c.args.base c.args.first c.loop-at.at c.args.types.now c.args.args.now c.args.frame.now c.args.texts.now c.loop-at.frame c.loop-at.own c.loop-at.texts _ c.loop-at.invariant c.requires.given many lt)

pub loop-at-preserved : goal.loop-at-preserved
loop-at-preserved c =
    let many = as_many_types [] c.args.types.now c.args.args.now (cells_from c.args.base c.args.texts.now c.args.frame.now) c.requires.given in
    let lt : c.loop-at.at < length c.args.args.now = omega (arith, c.loop-at-test.true) in
    let given = subst (λ b. IsGiven b c.args.base (get_or c.args.args.now c.loop-at.at 0) (c.args.first + c.loop-at.at) c.loop-at.frame c.loop-at.texts c.give.new.frame c.give.new.to c.give.new.texts) c.is_frozen-frozen.ensures c.in_ok-give.ensures in
    giving_more c.args.base c.args.first c.loop-at.at c.args.types.now c.args.args.now c.args.frame.now c.args.texts.now c.loop-at.frame c.loop-at.own c.loop-at.texts _ c.give.new.frame c.give.new.to c.give.new.texts c.loop-at.invariant c.requires.given many lt c.give.auto.frame given

pub returns : goal.returns
returns c =
    let many = as_many_types [] c.args.types.now c.args.args.now (cells_from c.args.base c.args.texts.now c.args.frame.now) c.requires.given in
    all_given c.args.base c.args.first c.loop-at.at c.args.types.now c.args.args.now c.args.frame.now c.args.texts.now c.loop-at.frame c.loop-at.own c.loop-at.texts c.loop-at.invariant many (omega (arith, c.loop-at-test.false))
