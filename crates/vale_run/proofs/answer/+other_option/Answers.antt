use Rattle.std.proofs.Common.{◌≡◌, true, sym, ◌∙◌}
use Rattle.std.specs.Prelude.{string_bytes, codes}
use Rattle.std.specs.Str.{bytes_eq}
use Rattle.vale_run.proofs.Jobs.{first_option}
use Rattle.vale_run.proofs.answer.+other_option.Goals as goal

pub returns-then-eq : goal.returns-then-eq
returns-then-eq t c =
    let whole = first_option c.args.words.now c.key-item.result c.args.index c.in-len2-up.len_at_least c.key-item.is in
    let tested = c.if-eq.ensures in
    let true_is = c.if-eq.true in
    let eq = c.eq.ensures in
    let same : bytes_eq (string_bytes c.key-item.result) (codes "--ticks") ≡ true = cc (c.as_str.ensures.value, c.eq.ensures, c.if-eq.true) in
    c.other_option.ensures ∙ sym (rw same at whole)
