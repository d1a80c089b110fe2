use Rattle.vale_syntax.specs.Layout.{lay_expr}
use Rattle.vale_syntax.specs.View.{view_expr}
use Rattle.vale_printer.proofs.ArmLaws as arms
use Rattle.vale_printer.proofs.ListLaws.{commas_all}
use Rattle.vale_printer.proofs.exprs.+exprs.Goals as goal

pub block-returns-in-None : goal.block-returns-in-None
block-returns-in-None t c =
    arms.block_adds c.args.names.now c.args.depth _ _ _ c.args.text.now.items c.close_block.result _ _ _ c.in_ok-inner.ensures c.as_slice.ensures c.in-None.is
    c.in_ok-sign.ensures c.in_ok-all_stmts.ensures c.close_block.ensures

pub block-returns-in_ok-expr-in-Some : goal.block-returns-in_ok-expr-in-Some
block-returns-in_ok-expr-in-Some t c =
    arms.block_last_adds c.args.names.now c.args.depth _ _ _ _ _ c.args.text.now.items c.close_block-in-Some.result _ _ _ _ _ c.in_ok-inner.ensures c.as_slice.ensures c.in-Some.is c.get.ensures
    c.in_ok-sign.ensures c.in_ok-all_stmts.ensures c.in_ok-new_line-in-Some.ensures c.in_ok-expr-in-Some.ensures c.close_block-in-Some.ensures

pub expr-returns-in_ok-expr-in-Chain : goal.expr-returns-in_ok-expr-in-Chain
expr-returns-in_ok-expr-in-Chain t c =
    arms.chain_adds c.args.names.now c.args.depth _ _ _ _ _ c.args.text.now.items c.more_operands.result _ _ c.in-Chain.is c.get-in-Chain.ensures c.as_slice.ensures
    c.in_ok-expr-in-Chain.ensures c.more_operands.ensures

pub expr-returns-in_ok-unary_op-in-Unary : goal.expr-returns-in_ok-unary_op-in-Unary
expr-returns-in_ok-unary_op-in-Unary t c =
    arms.unary_adds c.args.names.now c.args.depth _ _ _ _ _ _ c.args.text.now.items c.expr-in-Unary.result _ _ c.in-Unary.is c.get-in-Unary.ensures c.get-in-Unary-2.ensures
    c.in_ok-unary_op-in-Unary.ensures c.expr-in-Unary.ensures

pub expr-returns-in_ok-expr-in-Steps : goal.expr-returns-in_ok-expr-in-Steps
expr-returns-in_ok-expr-in-Steps t c =
    arms.steps_adds c.args.names.now c.args.depth _ _ _ _ _ c.args.text.now.items c.all_steps.result _ _ c.in-Steps.is c.get-in-Steps.ensures c.as_slice-in-Steps.ensures
    c.in_ok-expr-in-Steps.ensures c.all_steps.ensures

pub expr-returns-in_ok-named-in-Call : goal.expr-returns-in_ok-named-in-Call
expr-returns-in_ok-named-in-Call t c =
    arms.call_adds c.args.names.now c.args.depth _ _ _ _ c.args.text.now.items c.args_in_parens.result _ _ c.in-Call.is c.as_slice-in-Call.ensures
    c.in_ok-named-in-Call.ensures c.args_in_parens.ensures

pub expr-returns-in_ok-expr-in-Paren : goal.expr-returns-in_ok-expr-in-Paren
expr-returns-in_ok-expr-in-Paren t c =
    arms.paren_adds c.args.names.now c.args.depth _ _ _ _ c.args.text.now.items c.sign-in-Paren.result _ _ _ c.in-Paren.is c.get-in-Paren.ensures
    c.in_ok-sign-in-Paren.ensures c.in_ok-expr-in-Paren.ensures c.sign-in-Paren.ensures

pub expr-returns-in_ok-type_expr-in-Array : goal.expr-returns-in_ok-type_expr-in-Array
expr-returns-in_ok-type_expr-in-Array t c =
    arms.array_adds c.args.names.now c.args.depth _ _ _ _ _ c.args.text.now.items c.args_in_parens-in-Array.result _ _ _ c.in-Array.is c.as_slice-in-Array.ensures
    c.in_ok-brackets-in-Array.ensures c.in_ok-type_expr-in-Array.ensures c.args_in_parens-in-Array.ensures

pub expr-returns-in_ok-word_gap-in-Iso : goal.expr-returns-in_ok-word_gap-in-Iso
expr-returns-in_ok-word_gap-in-Iso t c =
    arms.iso_adds c.args.names.now c.args.depth _ _ _ c.args.text.now.items c.block.result _ _ c.in-Iso.is
    c.in_ok-word_gap-in-Iso.ensures c.block.ensures

pub form-returns-in-None : goal.form-returns-in-None
form-returns-in-None t c =
    arms.if_adds c.args.names.now c.args.depth _ _ _ _ _ _ _ c.args.text.now.items _ _ _ _ _ _ c.in-If.is c.as_slice.ensures c.in-None.is
    c.in_ok-word-in-If.ensures c.in_ok-after_word-in-If.ensures c.in_ok-expr-in-If.ensures c.in_ok-gap-in-If.ensures c.in_ok-block-in-If.ensures c.in_ok-all_else_ifs-in-If.ensures

pub form-returns-in_ok-word_gap-in-Some : goal.form-returns-in_ok-word_gap-in-Some
form-returns-in_ok-word_gap-in-Some t c =
    arms.if_else_adds c.args.names.now c.args.depth _ _ _ _ _ _ _ _ c.args.text.now.items c.block-in-Some.result _ _ _ _ _ _ _ _ _ c.in-If.is c.as_slice.ensures c.in-Some.is
    c.in_ok-word-in-If.ensures c.in_ok-after_word-in-If.ensures c.in_ok-expr-in-If.ensures c.in_ok-gap-in-If.ensures c.in_ok-block-in-If.ensures c.in_ok-all_else_ifs-in-If.ensures
    c.in_ok-gap-in-Some.ensures c.in_ok-word_gap-in-Some.ensures c.block-in-Some.ensures

pub form-returns-in_ok-word_gap-in-Pure : goal.form-returns-in_ok-word_gap-in-Pure
form-returns-in_ok-word_gap-in-Pure t c =
    arms.pure_adds c.args.names.now c.args.depth _ _ _ c.args.text.now.items c.block-in-Pure.result _ _ c.in-Pure.is
    c.in_ok-word_gap-in-Pure.ensures c.block-in-Pure.ensures

pub form-returns-in_ok-gap-in-ParallelRange : goal.form-returns-in_ok-gap-in-ParallelRange
form-returns-in_ok-gap-in-ParallelRange t c =
    arms.range_adds c.args.names.now c.args.depth _ _ _ _ _ _ c.args.text.now.items c.block-in-ParallelRange.result _ _ _ _ _ _ _ c.in-ParallelRange.is
    c.in_ok-word_gap-in-ParallelRange.ensures c.in_ok-loop_head-in-ParallelRange.ensures c.in_ok-expr-in-ParallelRange.ensures c.in_ok-sign-in-ParallelRange.ensures c.in_ok-expr-in-ParallelRange-2.ensures c.in_ok-gap-in-ParallelRange.ensures c.block-in-ParallelRange.ensures

pub form-returns-in_ok-gap-in-ParallelEach : goal.form-returns-in_ok-gap-in-ParallelEach
form-returns-in_ok-gap-in-ParallelEach t c =
    arms.each_adds c.args.names.now c.args.depth _ _ _ _ _ c.args.text.now.items c.block-in-ParallelEach.result _ _ _ _ _ c.in-ParallelEach.is
    c.in_ok-word_gap-in-ParallelEach.ensures c.in_ok-loop_head-in-ParallelEach.ensures c.in_ok-expr-in-ParallelEach.ensures c.in_ok-gap-in-ParallelEach.ensures c.block-in-ParallelEach.ensures

pub stmt-returns-in_ok-gap-in-Foreach : goal.stmt-returns-in_ok-gap-in-Foreach
stmt-returns-in_ok-gap-in-Foreach t c =
    arms.foreach_adds c.args.names.now c.args.depth _ _ _ _ _ _ c.args.text.now.items c.block-in-Foreach.result _ _ _ _ _ _ c.in-Foreach.is
    c.in_ok-loop_head-in-Foreach.ensures c.in_ok-expr-in-Foreach.ensures c.in_ok-sign-in-Foreach.ensures c.in_ok-expr-in-Foreach-2.ensures c.in_ok-gap-in-Foreach.ensures c.block-in-Foreach.ensures

pub stmt-returns-in_ok-expr-in-Express : goal.stmt-returns-in_ok-expr-in-Express
stmt-returns-in_ok-expr-in-Express t c =
    arms.express_adds c.args.names.now c.args.depth _ _ c.args.text.now.items c.sign-in-Express.result _ _ c.in-Express.is
    c.in_ok-expr-in-Express.ensures c.sign-in-Express.ensures

pub else_if-returns : goal.else_if-returns
else_if-returns t c =
    arms.else_if_adds c.args.names.now c.args.depth _ c.args.text.now.items c.block.result _ _ _ _ _
    c.in_ok-else_if_words.ensures c.in_ok-after_word.ensures c.in_ok-expr.ensures c.in_ok-gap.ensures c.block.ensures

pub args_in_parens-returns : goal.args_in_parens-returns
args_in_parens-returns t c =
    arms.parens_adds c.args.names.now c.args.depth c.args.args.now c.args.text.now.items c.sign-2.result _ _ _
    c.in_ok-sign.ensures c.in_ok-all_args.ensures c.sign-2.ensures

pub all_args-returns : goal.all_args-returns
all_args-returns t c =
    commas_all (λ x. lay_expr c.args.names.now c.args.depth (view_expr x)) c.args.args.now _ _ c.args.text.now.items _ _
    c.in-len1-up.len_at_least c.first-item.is c.in_ok-expr.ensures c.loop-arg.invariant c.loop-arg-test.false
