use Rattle.std.proofs.Common.{◌∙◌}
use Rattle.vale_object_cells.specs.Cells.{cells_from}
use Rattle.vale_object_texts.proofs.PrintLaws.{prints, prints_right}
use Rattle.vale_object_texts.proofs.prints.obey_print.Goals as goal

pub is_line-line-requires : goal.is_line-line-requires
is_line-line-requires c =
    let k = prints_right (cells_from c.args.base c.args.texts.now c.args.registers.now) c.args.place.now c.args.from c.args.choice c.requires.right in k.0

pub shown_bytes-requires-clause-right : goal.shown_bytes-requires-clause-right
shown_bytes-requires-clause-right c =
    let k = prints_right (cells_from c.args.base c.args.texts.now c.args.registers.now) c.args.place.now c.args.from c.args.choice c.requires.right in k.1

pub returns-clause-step : goal.returns-clause-step
returns-clause-step c = record {
  bytes = c.from_vec-bytes.result;
  pieces = c.in-Ok.ensures.items;
  step = prints (cells_from c.args.base c.args.texts.now c.args.registers.now) c.args.place.now c.args.from c.args.choice c.is_line-line.result c.in_ok-shown.shown.items c.from_vec-bytes.result c.is_line-line.ensures c.in_ok-shown.ensures
      (c.from_vec-bytes.ensures ∙ c.in_ok-ended.ensures);
}
