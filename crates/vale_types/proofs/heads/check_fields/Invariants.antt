use Rattle.std.proofs.Common.{◌≡◌, List, [], map, drop}
use Rattle.vale_syntax.specs.Tree.{FieldDecl}
use Rattle.vale_rules_spec.specs.Judged.{stopped, one_by_one}
use Rattle.vale_syntax.specs.View.{view_item, view_field}
use Rattle.vale_rules_spec.specs.Declarations.{field_name}
use Rattle.vale_rules_spec.specs.DeclFaults.{field_faults}
use Rattle.vale_types.specs.Before.{AreNamesOf}
use Rattle.vale_types.proofs.heads.check_fields.Given as goal

-- the names are those of the fields so far, and the fields that are left give what all of them give
abbrev pub invariant-loop-field : goal.invariant-loop-field
invariant-loop-field l = (fs : List FieldDecl) × AreNamesOf field_name l.before fs × (stopped (one_by_one (field_faults (map view_item l.items)) fs (map view_field (drop l.field-index l.fields))) (tt {0}) ≡ stopped (one_by_one (field_faults (map view_item l.items)) [] (map view_field l.fields)) (tt {0}))
