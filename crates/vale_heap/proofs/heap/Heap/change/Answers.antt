use Rattle.std.proofs.Common.{◌≡◌, Option, Some, None, sym, refl, arith}
use Rattle.std.proofs.lemmas.Grind.{common_steps}
use Rattle.vale_heap.specs.declared.body.Body.{Body}
use Rattle.vale_heap.specs.HeapState.{look_in}
use Rattle.vale_heap.proofs.HandLaws.{changed_keeps}
use Rattle.vale_heap.proofs.StandLaws.{found_law, changed_law}
use Rattle.vale_heap.proofs.heap.Heap.change.Goals as goal

pub returns-then-is_some : goal.returns-then-is_some
returns-then-is_some c = (
  refl,
  record {
    writes_back = tt;
    value = sym c.body_mut.ensures.value;
    found = found_law c.args.self.now c.args.at (Some c.body_mut.result.now) (sym c.body_mut.ensures.value);
    stands = λ left. changed_law c.args.self.now c.args.at left;
    keeps = λ left. changed_keeps c.args.self.now c.args.at left;
  },
)

pub returns-else-is_some : goal.returns-else-is_some
returns-else-is_some c =
    let none : Option Body = None in
    let value : none ≡ look_in c.args.self.now c.args.at = grind (arith, common_steps) in (
      refl,
      record {
        writes_back = tt;
        value = value;
        found = found_law c.args.self.now c.args.at None value;
        stands = λ left. changed_law c.args.self.now c.args.at left;
        keeps = λ left. changed_keeps c.args.self.now c.args.at left;
      },
    )
