use Rattle.vale_blocks.proofs.nesting.+nesting.Given as goal

abbrev pub decreases-expr : goal.decreases-expr
decreases-expr l = l.depth

abbrev pub decreases-stmts : goal.decreases-stmts
decreases-stmts l = l.depth
