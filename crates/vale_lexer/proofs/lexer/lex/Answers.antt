use Rattle.std.proofs.Common.{◌≡◌, ◌∙◌, ap, sym, length, arith, refl, length-drop}
use Rattle.vale_lexer.specs.declared.pieces.Piece.TheVariants as p
use Rattle.vale_lexer.specs.Next.{next}
use Rattle.vale_lexer.proofs.OneCut.{one_tokens, one_fault, no_cut}
use Rattle.vale_lexer.proofs.Goes.{Goes-blank, Goes-comment, Goes-token, Goes-end, Goes-fault, step_few}
use Rattle.vale_lexer.proofs.lexer.lex.Goals as goal

-- ---- there is one cutting

pub returns-in_err-first_piece-clause-unique : goal.returns-in_err-first_piece-clause-unique
returns-in_err-first_piece-clause-unique c = one_tokens c.args.bytes.now

pub returns-in_err-push-in-Token-clause-unique : goal.returns-in_err-push-in-Token-clause-unique
returns-in_err-push-in-Token-clause-unique c = one_tokens c.args.bytes.now

pub returns-in-End-clause-unique : goal.returns-in-End-clause-unique
returns-in-End-clause-unique c = one_tokens c.args.bytes.now

pub returns-in-Fault-clause-unique : goal.returns-in-Fault-clause-unique
returns-in-Fault-clause-unique c = one_tokens c.args.bytes.now

-- ---- the end

pub returns-in-End-clause-found : goal.returns-in-End-clause-found
returns-in-End-clause-found c =
    let found : p.End ≡ next c.loop-list.rest.now = sym c.in-End.is ∙ c.in_ok-first_piece.ensures in
    rw c.from_vec.ensures (Goes-end _ _ _ _ c.loop-list.invariant.goes found)

pub returns-in-End-clause-complete : goal.returns-in-End-clause-complete
returns-in-End-clause-complete c tokens cuts =
    let found : p.End ≡ next c.loop-list.rest.now = sym c.in-End.is ∙ c.in_ok-first_piece.ensures in
    rw c.from_vec.ensures (one_tokens c.args.bytes.now _ tokens (Goes-end _ _ _ _ c.loop-list.invariant.goes found) cuts)

pub returns-in-End-clause-refused : goal.returns-in-End-clause-refused
returns-in-End-clause-refused c code at fault =
    let found : p.End ≡ next c.loop-list.rest.now = sym c.in-End.is ∙ c.in_ok-first_piece.ensures in
    no_cut c.args.bytes.now code at fault _ (Goes-end _ _ _ _ c.loop-list.invariant.goes found)

-- ---- a blank

pub behind-rest-requires : goal.behind-rest-requires
behind-rest-requires c = (Goes-blank _ _ _ _ c.in-Blank.byte c.loop-list.invariant.goes (sym c.in-Blank.is ∙ c.in_ok-first_piece.ensures)).within

pub step-at-requires-clause-lines : goal.step-at-requires-clause-lines
step-at-requires-clause-lines c =
    let b = Goes-blank _ _ _ _ c.in-Blank.byte c.loop-list.invariant.goes (sym c.in-Blank.is ∙ c.in_ok-first_piece.ensures) in
    omega (arith, b.within, c.loop-list.invariant.few_lines)

pub step-at-requires-clause-cols : goal.step-at-requires-clause-cols
step-at-requires-clause-cols c =
    let b = Goes-blank _ _ _ _ c.in-Blank.byte c.loop-list.invariant.goes (sym c.in-Blank.is ∙ c.in_ok-first_piece.ensures) in
    omega (arith, b.within, c.loop-list.invariant.few_cols)

pub loop-list-smaller-in-Blank : goal.loop-list-smaller-in-Blank
loop-list-smaller-in-Blank c =
    let b = Goes-blank _ _ _ _ c.in-Blank.byte c.loop-list.invariant.goes (sym c.in-Blank.is ∙ c.in_ok-first_piece.ensures) in
    omega (arith, b.within, ap length c.behind-rest.ensures, length-drop 1 c.loop-list.rest.now)

pub loop-list-preserved-in-Blank : goal.loop-list-preserved-in-Blank
loop-list-preserved-in-Blank c =
    let b = Goes-blank _ _ _ _ c.in-Blank.byte c.loop-list.invariant.goes (sym c.in-Blank.is ∙ c.in_ok-first_piece.ensures) in
    let few = step_few c.loop-list.at c.in-Blank.byte (length c.loop-list.rest.now) b.within c.loop-list.invariant.few_lines c.loop-list.invariant.few_cols in
    rw (c.step-at.ensures, c.behind-rest.ensures)
    (record {
      goes = b.goes;
      few_lines = omega (arith, few.lines, length-drop 1 c.loop-list.rest.now);
      few_cols = omega (arith, few.cols, length-drop 1 c.loop-list.rest.now);
    })

-- ---- a comment

pub behind-rest-requires-in-Comment : goal.behind-rest-requires-in-Comment
behind-rest-requires-in-Comment c = (Goes-comment _ _ _ _ c.in-Comment.len c.loop-list.invariant.goes (sym c.in-Comment.is ∙ c.in_ok-first_piece.ensures)).within

pub along-at-requires : goal.along-at-requires
along-at-requires c =
    let b = Goes-comment _ _ _ _ c.in-Comment.len c.loop-list.invariant.goes (sym c.in-Comment.is ∙ c.in_ok-first_piece.ensures) in
    omega (arith, b.within, c.loop-list.invariant.few_cols)

pub loop-list-smaller-in-Comment : goal.loop-list-smaller-in-Comment
loop-list-smaller-in-Comment c =
    let b = Goes-comment _ _ _ _ c.in-Comment.len c.loop-list.invariant.goes (sym c.in-Comment.is ∙ c.in_ok-first_piece.ensures) in
    omega (arith, b.within, b.some, ap length c.behind-rest-in-Comment.ensures, length-drop c.in-Comment.len c.loop-list.rest.now)

pub loop-list-preserved-in-Comment : goal.loop-list-preserved-in-Comment
loop-list-preserved-in-Comment c =
    let b = Goes-comment _ _ _ _ c.in-Comment.len c.loop-list.invariant.goes (sym c.in-Comment.is ∙ c.in_ok-first_piece.ensures) in
    rw (c.along-at.ensures, c.behind-rest-in-Comment.ensures)
    (record {
      goes = b.goes;
      few_lines = omega (arith, b.within, c.loop-list.invariant.few_lines, length-drop c.in-Comment.len c.loop-list.rest.now);
      few_cols = omega (arith, b.within, c.loop-list.invariant.few_cols, length-drop c.in-Comment.len c.loop-list.rest.now);
    })

-- ---- a token

pub behind-rest-requires-in-Token : goal.behind-rest-requires-in-Token
behind-rest-requires-in-Token c = (Goes-token _ _ _ _ c.in-Token.len (record { kind = c.in-Token.kind; at = c.loop-list.at }) c.loop-list.invariant.goes (sym c.in-Token.is ∙ c.in_ok-first_piece.ensures) refl).within

pub along-at-requires-in-Token : goal.along-at-requires-in-Token
along-at-requires-in-Token c =
    let b = Goes-token _ _ _ _ c.in-Token.len (record { kind = c.in-Token.kind; at = c.loop-list.at }) c.loop-list.invariant.goes (sym c.in-Token.is ∙ c.in_ok-first_piece.ensures) refl in
    omega (arith, b.within, c.loop-list.invariant.few_cols)

pub loop-list-smaller : goal.loop-list-smaller
loop-list-smaller c =
    let b = Goes-token _ _ _ _ c.in-Token.len (record { kind = c.in-Token.kind; at = c.loop-list.at }) c.loop-list.invariant.goes (sym c.in-Token.is ∙ c.in_ok-first_piece.ensures) refl in
    omega (arith, b.within, b.some, ap length c.behind-rest-in-Token.ensures, length-drop c.in-Token.len c.loop-list.rest.now)

pub loop-list-preserved : goal.loop-list-preserved
loop-list-preserved c =
    let b = Goes-token _ _ _ _ c.in-Token.len (record { kind = c.in-Token.kind; at = c.loop-list.at }) c.loop-list.invariant.goes (sym c.in-Token.is ∙ c.in_ok-first_piece.ensures) refl in
    rw (c.in_ok-push-in-Token.ensures.items, c.along-at-in-Token.ensures, c.behind-rest-in-Token.ensures)
    (record {
      goes = b.goes;
      few_lines = omega (arith, b.within, c.loop-list.invariant.few_lines, length-drop c.in-Token.len c.loop-list.rest.now);
      few_cols = omega (arith, b.within, c.loop-list.invariant.few_cols, length-drop c.in-Token.len c.loop-list.rest.now);
    })

-- ---- a fault

pub along-requires : goal.along-requires
along-requires c =
    let b = Goes-fault _ _ _ _ c.in-Fault.code c.in-Fault.offset c.loop-list.invariant.goes (sym c.in-Fault.is ∙ c.in_ok-first_piece.ensures) in
    omega (arith, b.within, c.loop-list.invariant.few_cols)

pub returns-in-Fault-clause-fault : goal.returns-in-Fault-clause-fault
returns-in-Fault-clause-fault c =
    let b = Goes-fault _ _ _ _ c.in-Fault.code c.in-Fault.offset c.loop-list.invariant.goes (sym c.in-Fault.is ∙ c.in_ok-first_piece.ensures) in
    rw c.along.ensures b.fault

pub returns-in-Fault-clause-refused : goal.returns-in-Fault-clause-refused
returns-in-Fault-clause-refused c code at fault =
    let b = Goes-fault _ _ _ _ c.in-Fault.code c.in-Fault.offset c.loop-list.invariant.goes (sym c.in-Fault.is ∙ c.in_ok-first_piece.ensures) in
    rw c.along.ensures (one_fault c.args.bytes.now c.in-Fault.code code _ at b.fault fault)

pub returns-in-Fault-clause-complete : goal.returns-in-Fault-clause-complete
returns-in-Fault-clause-complete c tokens cuts =
    let b = Goes-fault _ _ _ _ c.in-Fault.code c.in-Fault.offset c.loop-list.invariant.goes (sym c.in-Fault.is ∙ c.in_ok-first_piece.ensures) in
    no_cut c.args.bytes.now _ _ b.fault tokens cuts

pub returns-in-Fault-clause-uncut : goal.returns-in-Fault-clause-uncut
returns-in-Fault-clause-uncut c tokens cuts =
    let b = Goes-fault _ _ _ _ c.in-Fault.code c.in-Fault.offset c.loop-list.invariant.goes (sym c.in-Fault.is ∙ c.in_ok-first_piece.ensures) in
    no_cut c.args.bytes.now _ _ b.fault tokens cuts
