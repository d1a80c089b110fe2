use Rattle.std.proofs.Common.{◌≡◌, ◌∙◌, ◌++◌, Some, None, ap, sym, arith, append-nil, length-drop}
use Rattle.std.proofs.lemmas.Grind.{common_steps}
use Rattle.vale_lexer.specs.Next.{part_of}
use Rattle.vale_lexer.proofs.Scans.{scan_part, scan_stop, taken, take-rest}
use Rattle.vale_lexer.proofs.quotes.scan.Goals as goal

pub loop-byte-preserved : goal.loop-byte-preserved
loop-byte-preserved c =
    let e : part_of c.loop-byte.rest.now ≡ Some (c.in-Some.byte, c.in-Some.len) = grind (arith, common_steps, c.part.ensures, c.in-Some.is) in
    let p = scan_part c.loop-byte.rest.now c.in-Some.byte c.in-Some.len e in
    rw (take-rest c.in-Some.len c.loop-byte.rest.now)
    (record {
      text = rw c.in_ok-push.ensures.items (taken _ _ _ _ _ p.text c.loop-byte.invariant.text);
      within = omega (arith, length-drop c.in-Some.len c.loop-byte.rest.now, c.loop-byte.invariant.within);
      rest = sym p.rest ∙ c.loop-byte.invariant.rest;
    })

pub returns-clause-text : goal.returns-clause-text
returns-clause-text c =
    let e : part_of c.loop-byte.rest.now ≡ None = grind (arith, common_steps, c.part.ensures, c.in_default.not-Some) in
    let stop = scan_stop c.loop-byte.rest.now e in
    sym (append-nil c.loop-byte.text.items) ∙ (ap (λ s. c.loop-byte.text.items ++ s.text) (sym stop) ∙ c.loop-byte.invariant.text)

pub returns-clause-rest : goal.returns-clause-rest
returns-clause-rest c =
    let e : part_of c.loop-byte.rest.now ≡ None = grind (arith, common_steps, c.part.ensures, c.in_default.not-Some) in
    let stop = scan_stop c.loop-byte.rest.now e in
    ap (λ s. s.rest) (sym stop) ∙ c.loop-byte.invariant.rest
