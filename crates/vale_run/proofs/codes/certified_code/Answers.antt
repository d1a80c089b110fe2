use Rattle.std.proofs.Common.{arith}
use Rattle.vale_front.proofs.ByteLaws.{all_bytes}
use Rattle.vale_run.proofs.CodeLaws.{is_certified}
use Rattle.vale_run.specs.CodeFiles.{IsReadable, misspelled}
use Rattle.vale_run.proofs.codes.certified_code.Goals as goal

pub returns-in-Err-Is-clause-fault : goal.returns-in-Err-Is-clause-fault
returns-in-Err-Is-clause-fault c =
    let why = rw c.in-Err-Is.field-0-is at c.in-Err-Is.ensures.fault in
    let readable : IsReadable c.args.bytes.now = record { within = omega (arith, c.if-bytes-gt-CODE_FILE_LIMIT.false); small = all_bytes c.args.bytes.now (λ k. omega (arith, c.type_inv.bytes k)) } in
    rw c.in-Err-Is.field-0-is (misspelled readable why)

pub returns-in-Ok-verify-clause-found : goal.returns-in-Ok-verify-clause-found
returns-in-Ok-verify-clause-found c = record {
  reads = record {
    readable = record { within = omega (arith, c.if-bytes-gt-CODE_FILE_LIMIT.false); small = all_bytes c.args.bytes.now (λ k. omega (arith, c.type_inv.bytes k)) };
    spells = rw (c.in-Ok-verify.ensures.found.0, c.in-Ok-verify.ensures.found.1) c.in-Ok.ensures.found;
  };
  certified = is_certified c.in-Ok-verify.verified.code c.in-Ok-verify.verified.facts c.in-Ok-verify.verified.certified;
}

pub returns-in-Err-Is-verify-clause-fault : goal.returns-in-Err-Is-verify-clause-fault
returns-in-Err-Is-verify-clause-fault c = record {
  code = c.in-Ok.both.0;
  facts = c.in-Ok.both.1;
  reads = record {
    readable = record { within = omega (arith, c.if-bytes-gt-CODE_FILE_LIMIT.false); small = all_bytes c.args.bytes.now (λ k. omega (arith, c.type_inv.bytes k)) };
    spells = c.in-Ok.ensures.found;
  };
  first = rw c.in-Err-Is-verify.field-0-is at c.in-Err-Is-verify.ensures.fault;
}
