use Rattle.std.proofs.Common.{◌≡◌, ◌-◌, length, take, ap, ◌∙◌, arith}
use Rattle.std.specs.Prelude.{slice_set}
use Rattle.std.proofs.Common.{Some}
use Rattle.vale_heap.specs.declared.body.Cell.TheVariants.{Own}
use Rattle.vale_object_drops.proofs.Owning.{own_cells, under_same}
use Rattle.vale_object_drops.proofs.begin.own_first.Goals as goal

pub returns-clause-cells : goal.returns-clause-cells
returns-clause-cells c =
    let s = c.split_at_mut-used in
    let u = c.split_at_mut-own in
    let many : length c.set_own.new.registers ≡ c.args.end - c.args.base = omega (arith, c.set_own.auto.registers, c.blank.auto.registers, u.ensures.back_len, s.ensures.front_len) in
    let count : length u.result.1.now ≡ c.args.end - c.args.base = omega (arith, u.ensures.back_len, s.ensures.front_len) in
    own_cells c.args.base c.args.end c.args.registers.now u.result.0.now c.set_own.new.registers s.result.1.now c.requires.base c.requires.end (u.ensures.front ∙ ap (take c.args.base) s.ensures.front) u.ensures.front_len many c.args.place
    (length u.result.1.now) count (λ t. c.set_own.ensures t ∙ ap (λ l. slice_set l 0 (Some (Own c.args.place))) (c.blank.ensures t))

pub returns-clause-row : goal.returns-clause-row
returns-clause-row c =
    let s = c.split_at_mut-used in
    let u = c.split_at_mut-own in
    let many : length c.set_own.new.registers ≡ c.args.end - c.args.base = omega (arith, c.set_own.auto.registers, c.blank.auto.registers, u.ensures.back_len, s.ensures.front_len) in
    under_same c.args.base c.args.end c.args.registers.now u.result.0.now c.set_own.new.registers s.result.1.now c.requires.base c.requires.end (u.ensures.front ∙ ap (take c.args.base) s.ensures.front) u.ensures.front_len many
