use Rattle.std.proofs.Common.{◌≡◌, ◌+◌, ◌-◌, ◌∷◌, replicate, Some, None, refl, ap, ◌∙◌, arith}
use Rattle.vale_heap.specs.declared.body.Cell.TheVariants.{Own}
use Rattle.vale_object_flow.proofs.Calling.{same_front}
use Rattle.vale_object_drops.proofs.begin.enter_destructor.Goals as goal

pub lay_owner-requires-clause-base : goal.lay_owner-requires-clause-base
lay_owner-requires-clause-base c =
    let some = c.requires.room c.function_of-callee.result.now c.function_of-callee.ensures in
    omega (arith, some)

pub returns : goal.returns
returns c =
    let m = c.args.control.now in
    let n = c.function_of-callee.result.now.registers in
    let count : m.end + n - m.end - 1 ≡ n - 1 = omega arith in
    record {
      func = c.function_of-callee.result.now;
      found = c.function_of-callee.ensures;
      cells = λ u. c.lay_owner.ensures.cells u ∙ ap (λ k. Some (Own c.args.place) ∷ replicate k None) count;
      row = c.lay_owner.ensures.row ∙ same_front m.end m.registers.items c.reserve.new.registers.items c.requires.end c.in-Ok.ensures.same;
      many = omega (arith, c.lay_owner.ensures.size, c.in-Ok.ensures.size);
      end = refl;
      top = refl;
      below = refl;
      texts = refl;
    }
