-- When facts certify a code: no rule is broken. Rule 1 is looked for first; the others are told at the first instruction, and
-- there by the lowest rule.
use Rattle.std.specs.Prelude.{◌≡◌, ℕ, List, Option, Some, None}
use Rattle.vale_code.specs.Parts.{Parts}
use Rattle.vale_cert.specs.Shape.{shape_fault}
use Rattle.vale_cert.specs.Walk.{or_else, functions_fault}
use Rattle.vale_cert.specs.declared.facts.FuncFacts.{FuncFacts}
use Rattle.vale_cert.specs.declared.fault.Fault.{Fault}

abbrev pub rule_one : Option ℕ → Option Fault
rule_one None = None
rule_one (Some n) = Some (record { rule = 1; at = n })

-- the first rule that is broken, and where
abbrev pub first_fault : Parts → List FuncFacts → Option Fault
first_fault code facts = or_else (rule_one (shape_fault code facts)) (functions_fault code 0 code.funcs facts)

abbrev pub Certified : Parts → List FuncFacts → Type 0
Certified code facts = first_fault code facts ≡ None
