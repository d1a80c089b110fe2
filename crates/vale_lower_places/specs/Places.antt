-- What single nodes with owners make of what was emitted.
use Rattle.std.specs.Prelude.{ℕ, ◌++◌, true, Option}
use Rattle.vale_base.specs.declared.spot.Spot.{Spot}
use Rattle.vale_rules_spec.specs.Types as y
use Rattle.vale_lowering.specs.Instructions.{only_if}
use Rattle.vale_lowering_objects.specs.Scopes.{Gives, owner, copy, agree, Scope, Entry}
use Rattle.vale_lowering_objects.specs.Lowered.{move_out, moved_out, lend_local, exchange, store, drop_scope}
use Rattle.vale_lower_flow.specs.Flow.{Going}

-- the owner of a local is moved to h
unfoldable pub moved : Option Entry → Gives → ℕ → Going → Going
moved x gives h f = record { code = f.code ++ only_if (agree gives owner) h (move_out x f.gone h); gone = moved_out x f.gone; comes = true }

-- what a local holds goes to h: a reference, where it is an owner
unfoldable pub lent : Option Entry → Gives → y.View → ℕ → Going → Going
lent x gives view h f = record { code = f.code ++ only_if (agree gives copy) h (lend_local x f.gone view h); gone = f.gone; comes = true }

-- a local gets what stands in h, and h what it held
unfoldable pub exchanged : Option Entry → Gives → ℕ → Going → Going
exchanged x q h f = record { code = f.code ++ exchange x f.gone q h; gone = f.gone; comes = true }

-- the same, where what it held is dropped
unfoldable pub stored : Option Entry → Gives → ℕ → Spot → Going → Going
stored x q h at f = record { code = f.code ++ store x f.gone q h at; gone = f.gone; comes = true }

-- all that is in scope is dropped, the innermost first
unfoldable pub scope_dropped : Scope → Spot → Going → Going
scope_dropped s at f = record { code = f.code ++ drop_scope s f.gone at; gone = f.gone; comes = true }
