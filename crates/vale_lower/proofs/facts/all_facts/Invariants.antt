use Rattle.std.proofs.Common.{◌≡◌, ℕ, List, map, take}
use Rattle.vale_rules_spec.specs.Typed as t
use Rattle.vale_core.specs.View.{view_function}
use Rattle.vale_model.specs.Parts.{Parts}
use Rattle.vale_lowering.specs.Lowered.{lowered_function}
use Rattle.vale_lower_facts.specs.Marks.{function_facts}
use Rattle.vale_lower.proofs.facts.all_facts.Given as goal

abbrev pub invariant-loop-at : goal.invariant-loop-at
invariant-loop-at l = (p : Parts) (texts : List (List ℕ)) (fs : List t.Function) → l.funcs ≡ map (lowered_function p texts fs) (map (λ g. view_function g.now) l.functions) → l.facts ≡ map (function_facts p texts fs) (map (λ g. view_function g.now) (take l.at l.functions))
