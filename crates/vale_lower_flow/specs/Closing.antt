-- What is still to be done at the end of a list of parts, the last part's first.
use Rattle.std.specs.Prelude.{ℕ, Bool, true, false, List, [], ◌∷◌}
use Rattle.vale_base.specs.declared.spot.Spot.{Spot}
use Rattle.vale_lowering_objects.specs.Scopes.{Entry}
use Rattle.vale_lowering_objects.specs.Lowered.{drop_entry}
use Rattle.vale_lower_flow.specs.declared.closing.Closing.{Closing}
use Rattle.vale_lower_flow.specs.declared.closing.Closing.TheVariants as c
use Rattle.vale_lower_flow.specs.declared.closing.Closings.{Closings}
use Rattle.vale_lower_flow.specs.Entries.{entry_of}
use Rattle.vale_lower_flow.specs.Flow.{Going, only, ended, if_there}

-- a local or a waiting value is dropped, where a run comes
unfoldable pub dropped : Entry → Spot → Going → Going
dropped x at = if_there (λ place g. drop_entry x g at)

abbrev pub closed_one : Closing → Going → Going
closed_one (c.Cut place h) f = only false place h f
closed_one (c.End start) f = ended (record { comes = false; start = start }) f
closed_one (c.Drop l at) f = dropped (entry_of l) at f

abbrev pub closed_all : List Closing → Going → Going
closed_all [] f = f
closed_all (x ∷ xs) f = closed_one x (closed_all xs f)

unfoldable pub closed : Closings → Going → Going
closed c f = closed_all c.all.items f
