-- What a body names, as the definitions have it.
use Rattle.vale_lowering.specs.Scopes as s
use Rattle.vale_lower_expr.specs.declared.around.Around.{Around}
use Rattle.vale_lower_expr.specs.Held.{texts_of, functions_of}

abbrev pub view_around : Around → s.Around
view_around a = record { texts = texts_of a.texts.now; functions = functions_of a.functions.now; gives = a.gives }
