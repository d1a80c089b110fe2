use Rattle.std.proofs.Common.{◌≡◌, take}
use Rattle.vale_typed_parts.proofs.copies.copy_fields.Given as goal

-- the first of them are copied
abbrev pub invariant-loop-field : goal.invariant-loop-field
invariant-loop-field l = l.done ≡ take l.field-index l.fields
