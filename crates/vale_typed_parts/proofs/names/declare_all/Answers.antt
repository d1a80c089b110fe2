use Rattle.vale_core.proofs.ViewLaws.{of_declare}
use Rattle.vale_typed_parts.proofs.names.declare_all.Goals as goal

pub returns-in-Declare : goal.returns-in-Declare
returns-in-Declare c = rw (c.in-Declare.is, of_declare c.in-Declare.name c.in-Declare.ty c.in-Declare.field-2) c.push_local.ensures
