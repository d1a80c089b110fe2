use Rattle.vale_sound.proofs.laws.accepted_programs_run.Goals as goal

pub returns : goal.returns
returns c = λ text tree decls program bytes accepts.
    c.well_formed_programs_run.ensures text tree decls program bytes
    (record { reads = accepts.reads; declares = accepts.serves.declares; types = accepts.serves.types; owns = accepts.serves.owns })
    accepts.serves.served
