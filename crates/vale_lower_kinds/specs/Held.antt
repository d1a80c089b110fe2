-- The kinds that are kept.
use Rattle.std.specs.Prelude.{ℕ, List, map, ◌++◌}
use Rattle.vale_rules_spec.specs.Types.{Ty, array}
use Rattle.vale_core.specs.View.{view_ty}
use Rattle.vale_lower_kinds.specs.declared.named.Named.{Named}
use Rattle.vale_lower_kinds.specs.declared.kinds.Kinds.{Kinds}
use Rattle.vale_lower_kinds.specs.Added.{kind_types}
use Rattle.vale_lower_kinds.specs.Names.{names_of}

abbrev pub named_in : Named → List ℕ
named_in t = names_of t.all.items

abbrev pub elements_in : Kinds → List Ty
elements_in t = map view_ty t.elements.items

abbrev pub kinds_in : Kinds → List Ty
kinds_in t = kind_types (named_in t.named) ++ map array (elements_in t)
