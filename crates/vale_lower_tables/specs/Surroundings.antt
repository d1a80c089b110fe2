-- What a body names, as the definitions have it.
use Rattle.std.specs.Prelude.{map}
use Rattle.vale_core.specs.View.{view_item}
use Rattle.vale_model.specs.Parts.{Parts}
use Rattle.vale_lowering_objects.specs.Scopes as s
use Rattle.vale_lower_expr.specs.Held.{texts_of}
use Rattle.vale_lower_flow.specs.Kept.{view_gives}
use Rattle.vale_lower_kinds.specs.Held.{kinds_in}
use Rattle.vale_lower_tables.specs.declared.around.Around.{Around}
use Rattle.vale_lower_tables.specs.declared.around.Tables.{Tables}
use Rattle.vale_lower_tables.specs.Callable.{functions_of}

abbrev pub parts_in : Tables → Parts
parts_in t = record { names = t.names.now; items = map view_item t.items.now; kinds = kinds_in t.kinds }

abbrev pub view_around : Around → s.Around
view_around a = record { parts = parts_in a.tables.now; texts = texts_of a.texts.now; functions = functions_of a.functions.now; gives = view_gives a.gives }
