use Rattle.std.proofs.Common.{◌≡◌, ℕ, length, drop, ◌||◌}
use Rattle.std.specs.Prelude.{slice_get}
use Rattle.vale_cert.specs.Types.{marked}
use Rattle.vale_marks.specs.Ways.{impls_lead}
use Rattle.vale_marks.proofs.ways.turn_impls.Given as goal

-- what is left makes up the rest
abbrev pub invariant-loop-item : goal.invariant-loop-item
invariant-loop-item l = record {
  len : length l.next ≡ length l.code.kinds;
  rest : (n : ℕ) → (marked l.next n || impls_lead (marked l.marks) (drop l.item-index l.code.impls) n (slice_get l.code.kinds n)) ≡ (marked l.fn.next n || impls_lead (marked l.marks) l.code.impls n (slice_get l.code.kinds n));
}
