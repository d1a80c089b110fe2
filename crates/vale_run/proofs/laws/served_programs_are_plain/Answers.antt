use Rattle.vale_run.proofs.PlainLaws.{takes_no_input, has_no_site}
use Rattle.vale_run.proofs.laws.served_programs_are_plain.Goals as goal

pub returns-clause-input : goal.returns-clause-input
returns-clause-input c = λ text tree decls program bytes accepts.
    takes_no_input program
    (c.well_formed_programs_are_well_typed.ensures text tree decls program bytes
    (record { reads = accepts.reads; declares = accepts.serves.declares; types = accepts.serves.types; owns = accepts.serves.owns }) accepts.serves.served)

pub returns-clause-sites : goal.returns-clause-sites
returns-clause-sites c = λ text tree decls program bytes accepts.
    has_no_site program accepts.serves.served
    (c.well_formed_programs_are_well_typed.ensures text tree decls program bytes
    (record { reads = accepts.reads; declares = accepts.serves.declares; types = accepts.serves.types; owns = accepts.serves.owns }) accepts.serves.served)
