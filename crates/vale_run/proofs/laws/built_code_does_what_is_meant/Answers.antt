use Rattle.vale_run.proofs.BuiltLaws.{built}
use Rattle.vale_run.proofs.laws.built_code_does_what_is_meant.Goals as goal

pub returns : goal.returns
returns c = λ text tree decls program bytes accepts.
    built program (c.served_programs_are_plain.ensures.input text tree decls program bytes accepts) (c.accepted_programs_run.ensures text tree decls program bytes accepts)
