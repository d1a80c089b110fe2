-- What the parts of statements make of what was emitted before them.
use Rattle.std.specs.Prelude.{ℕ, ◌+◌, ◌∷◌}
use Rattle.vale_base.specs.declared.spot.Spot.{Spot}
use Rattle.vale_rules_spec.specs.Typed.{Block}
use Rattle.vale_lowering.specs.Instructions.{only_if}
use Rattle.vale_lowering_objects.specs.Scopes.{void, copy, entry, Scope, without, comes, closes, Around}
use Rattle.vale_lowering_objects.specs.Lowered.{count_code, block_code, block_after}
use Rattle.vale_lower_flow.specs.Flow.{Going, emitted}

module _ (a : Around) (at : Spot) (n : ℕ) (b : Block) (h : ℕ) (s : Scope) where
  -- the scope of a turn of a loop over numbers: its local stands after the counter and the bound
  abbrev pub turn_scope : Scope
  turn_scope = entry n (h + 2) copy ∷ s

  -- the turns of a loop over numbers, whose counter and bound stand in h and after it
  unfoldable pub count_emitted : Going → Going
  count_emitted = emitted (λ place g. only_if (closes s g (block_after b (h + 2 + 1) turn_scope (without (h + 2) g))) h
      (count_code place h at (block_after b (h + 2 + 1) turn_scope (without (h + 2) g)) (λ place. block_code a void b place h (h + 2 + 1) turn_scope (without (h + 2) g))))
      (λ g. comes g)
