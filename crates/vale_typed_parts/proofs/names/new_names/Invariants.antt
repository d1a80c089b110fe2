use Rattle.std.proofs.Common.{◌≡◌, ◌∷◌, drop}
use Rattle.vale_rules_spec.specs.Judged.{first}
use Rattle.vale_rules_spec.specs.Types as y
use Rattle.vale_rules_spec.specs.Typing.{new_names}
use Rattle.vale_seen.specs.Scope.{framed, locals}
use Rattle.vale_typed_parts.specs.Walk.{env_at}
use Rattle.vale_typed_parts.proofs.LoopLaws.{with_parts}
use Rattle.vale_typed_parts.proofs.names.new_names.Given as goal

-- what is done, with what the names that are left give, is what all of them give
abbrev pub invariant-loop-name : goal.invariant-loop-name
invariant-loop-name l = (gives : y.Ty) → with_parts ◌∷◌ l.done (first (new_names (env_at gives l.depth (framed l.frame.items (locals l.scope))) (drop l.name-index l.names))) ≡ first (new_names (env_at gives l.depth (locals l.scope)) l.names)
