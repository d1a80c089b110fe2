use Rattle.std.proofs.Common.{◌≡◌, [], map, drop}
use Rattle.std.specs.Prelude.{flat_map}
use Rattle.vale_core.specs.View.{view_item}
use Rattle.vale_model.specs.Kinds.{named_kinds}
use Rattle.vale_lower_kinds.specs.Added.{added, kind_types}
use Rattle.vale_lower_kinds.specs.Names.{AreNumbered, names_of}
use Rattle.vale_lower_kinds.proofs.named.Named.among.Given as goal

abbrev pub invariant-loop-item : goal.invariant-loop-item
invariant-loop-item l = record {
  numbered : AreNumbered (names_of l.all.items) l.places;
  left : added (kind_types (names_of l.all.items)) (flat_map named_kinds (map view_item (drop l.item-index l.items))) ≡ added [] (flat_map named_kinds (map view_item l.items));
}
