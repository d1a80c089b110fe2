use Rattle.std.proofs.Common.{refl, arith}
use Rattle.vale_object_drops.proofs.Lifting.{lifted_isolate, lifted_owner, owns, there}
use Rattle.vale_object_drops.proofs.drops.lift.Goals as goal

pub bounds-registers-base : goal.bounds-registers-base
bounds-registers-base c =
    let lt = there c.args.base c.args.end c.args.from c.args.registers.now c.requires.end c.requires.owned in
    omega (arith, lt, c.requires.end)

pub returns-in-Own : goal.returns-in-Own
returns-in-Own c = lifted_owner c.args.base c.args.end c.args.from c.args.registers.now c.requires.end c.requires.owned _ _ c.in-Own.is (λ x. refl)

pub returns-in-Iso : goal.returns-in-Iso
returns-in-Iso c = lifted_isolate c.args.base c.args.end c.args.from c.args.registers.now c.requires.end c.requires.owned _ _ c.in-Iso.is (λ x. refl)

pub unreachable-requires : goal.unreachable-requires
unreachable-requires c = owns c.args.base c.args.end c.args.from c.args.registers.now c.requires.end c.requires.owned _ c.in_default.not-Own c.in_default.not-Iso
