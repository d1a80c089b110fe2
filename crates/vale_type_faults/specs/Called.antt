-- What a name stands for in a call.
use Rattle.std.specs.Prelude.{map}
use Rattle.vale_rules_spec.specs.TypeRules as r
use Rattle.vale_syntax.specs.View.{view_field, view_head}
use Rattle.vale_type_faults.specs.declared.calls.Called.{Called}
use Rattle.vale_type_faults.specs.declared.calls.Called.TheVariants.{Nothing, Language, Struct, Program}

abbrev pub view_called : Called → r.Called
view_called Nothing = r.nothing
view_called (Language f) = r.language f
view_called (Struct fs) = r.struct (map view_field fs.now)
view_called (Program h) = r.program (view_head h.now)
