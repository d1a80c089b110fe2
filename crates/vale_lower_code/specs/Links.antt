-- The code of one operator and its operand.
use Rattle.std.specs.Prelude.{ℕ, List}
use Rattle.vale_rules_spec.specs.Typed.{Link, link}
use Rattle.vale_code.specs.declared.instr.Instr.{Instr}
use Rattle.vale_lowering.specs.Instructions.{link_code}
use Rattle.vale_lowering.specs.Scopes.{Scope, Around}
use Rattle.vale_lowering.specs.Lowered.{value_code}

abbrev pub one_link_code : Around → Link → ℕ → ℕ → Scope → List Instr
one_link_code around (link x at op e) place h s = link_code op x.value at (λ place h. value_code around e place h s) place h
