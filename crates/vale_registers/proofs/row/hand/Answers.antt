use Rattle.std.proofs.Common.{◌≡◌, ◌<◌, length, get_or, sym, ap, ◌∙◌, arith}
use Rattle.std.specs.Prelude.{slice_set}
use Rattle.std.proofs.lemmas.List.{get_or_read, length-set}
use Rattle.vale_registers.specs.Shares.{share_text}
use Rattle.vale_registers.specs.declared.row.Share.TheVariants as share
use Rattle.vale_registers.proofs.Rows.{found, past, written_else, written_here}
use Rattle.vale_registers.proofs.row.hand.Goals as goal

pub returns-then-from-len-clause-to : goal.returns-then-from-len-clause-to
returns-then-from-len-clause-to c =
    let items = c.args.shares.now.items in
    let lt : c.args.from < length items = omega (arith, c.len.ensures, c.args.shares.now.ok.0, c.if-from-len.true) in
    let read : c.index_mut.result.now ≡ get_or items c.args.from share.Blank = get_or_read _ c.args.from _ lt c.index_mut.ensures.value share.Blank in
    written_here (slice_set items c.args.from _) c.args.to _ (omega (arith, lt, c.requires, length-set items c.args.from c.replace-share.new.dest))
    ∙ ap share_text (c.replace-share.ensures.value ∙ read) ∙ sym (found items c.args.from share.Blank lt)

pub returns-then-from-len-clause-others : goal.returns-then-from-len-clause-others
returns-then-from-len-clause-others c = λ i n m.
    written_else (slice_set c.args.shares.now.items c.args.from _) c.args.to _ i n ∙ written_else c.args.shares.now.items c.args.from _ i m

pub returns-then-to-len-clause-to : goal.returns-then-to-len-clause-to
returns-then-to-len-clause-to c =
    let items = c.args.shares.now.items in
    written_here items c.args.to share.Blank (omega (arith, c.len-2.ensures, c.args.shares.now.ok.0, c.if-to-len.true))
    ∙ sym (past items c.args.from (omega (arith, c.len.ensures, c.args.shares.now.ok.0, c.if-from-len.false)))

pub returns-then-to-len-clause-others : goal.returns-then-to-len-clause-others
returns-then-to-len-clause-others c = λ i n m. written_else c.args.shares.now.items c.args.to share.Blank i n

pub returns-else-to-len-clause-to : goal.returns-else-to-len-clause-to
returns-else-to-len-clause-to c =
    let items = c.args.shares.now.items in
    past items c.args.to (omega (arith, c.len-2.ensures, c.args.shares.now.ok.0, c.if-to-len.false))
    ∙ sym (past items c.args.from (omega (arith, c.len.ensures, c.args.shares.now.ok.0, c.if-from-len.false)))
