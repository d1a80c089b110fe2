use Rattle.std.proofs.Common.{◌≡◌, drop}
use Rattle.std.specs.List.{list_any}
use Rattle.vale_cert.specs.Types.{marked, field_reaches}
use Rattle.vale_marks.proofs.ways.fields_lead.Given as goal

-- what is left decides
abbrev pub invariant-loop-field : goal.invariant-loop-field
invariant-loop-field l = list_any (field_reaches (marked l.marks)) (drop l.field-index l.fields) ≡ list_any (field_reaches (marked l.marks)) l.fields
