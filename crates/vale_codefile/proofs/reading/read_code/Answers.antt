use Rattle.std.proofs.Common.{◌≡◌, ◌∙◌, ap, arith}
use Rattle.vale_file_spec.proofs.WholeLaws.{bytes_of, fails_is, file_takes, only_one, no_fault, not_spelled, first_fault, same_fault}
use Rattle.vale_base.specs.declared.fault.Fail.TheVariants as fails
use Rattle.vale_file_spec.specs.File.{file_read}
use Rattle.vale_codefile.proofs.reading.read_code.Goals as goal

pub returns-in-Ok-clause-found : goal.returns-in-Ok-clause-found
returns-in-Ok-clause-found c = file_takes c.args.bytes.now 1 c.in-Ok.code c.in-Ok.facts (bytes_of c.args.bytes.now (λ i. omega (arith, c.type_inv.bytes i))) c.in-Ok.ensures

pub returns-in-Ok-clause-only : goal.returns-in-Ok-clause-only
returns-in-Ok-clause-only c = λ code facts s.
    let both = only_one c.args.bytes.now c.in-Ok.code code c.in-Ok.facts facts c.in-Ok.ensures s in
    (ap (λ z. z.0) both, ap (λ z. z.1) both)

pub returns-in-Ok-clause-faulty : goal.returns-in-Ok-clause-faulty
returns-in-Ok-clause-faulty c = no_fault c.args.bytes.now (tt, (1, (c.in-Ok.code, c.in-Ok.facts))) (bytes_of c.args.bytes.now (λ i. omega (arith, c.type_inv.bytes i))) c.in-Ok.ensures

pub returns-in-Err-Is-clause-only : goal.returns-in-Err-Is-clause-only
returns-in-Err-Is-clause-only c =
    let is : c.in-Err-Is.field-0 ≡ fails.Is c.in-Err-Is.fault = cc in
    let e = fails_is c.in-Err-Is.field-0 c.in-Err-Is.fault (file_read c.args.bytes.now) is c.in-Err-Is.ensures in
    not_spelled c.args.bytes.now c.in-Err-Is.fault e

pub returns-in-Err-Is-clause-fault : goal.returns-in-Err-Is-clause-fault
returns-in-Err-Is-clause-fault c =
    let is : c.in-Err-Is.field-0 ≡ fails.Is c.in-Err-Is.fault = cc in
    let e = fails_is c.in-Err-Is.field-0 c.in-Err-Is.fault (file_read c.args.bytes.now) is c.in-Err-Is.ensures in
    first_fault c.args.bytes.now c.in-Err-Is.fault c.code_of.result c.saturating_sub-at.result (bytes_of c.args.bytes.now (λ i. omega (arith, c.type_inv.bytes i))) e c.code_of.ensures (omega arith)

pub returns-in-Err-Is-clause-faulty : goal.returns-in-Err-Is-clause-faulty
returns-in-Err-Is-clause-faulty c = λ code at h.
    let is : c.in-Err-Is.field-0 ≡ fails.Is c.in-Err-Is.fault = cc in
    let e = fails_is c.in-Err-Is.field-0 c.in-Err-Is.fault (file_read c.args.bytes.now) is c.in-Err-Is.ensures in
    let s = same_fault c.args.bytes.now c.in-Err-Is.fault code at (bytes_of c.args.bytes.now (λ i. omega (arith, c.type_inv.bytes i))) e h in
    (c.code_of.ensures ∙ s.0, omega (arith, s.1))
