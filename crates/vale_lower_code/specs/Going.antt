-- What one statement of a block comes to.
use Rattle.std.specs.Prelude.{ℕ, ◌+◌, Bool, true, false, List, ◌∷◌, ◌++◌}
use Rattle.vale_rules_spec.specs.Typed.{Node, set, Stmt, declare, destructure}
use Rattle.vale_code.specs.declared.instr.Instr.{Instr}
use Rattle.vale_lowering.specs.Instructions.{stuck}
use Rattle.vale_lowering.specs.Scopes.{Scope, Around, entry}
use Rattle.vale_lowering.specs.Lowered.{value_code, stmt_code, store_code}

-- whether the block goes on after it
abbrev pub is_lowered : Stmt → Bool
is_lowered (destructure at ns xs e) = false
is_lowered _ = true

abbrev pub next_code : Around → Stmt → ℕ → ℕ → Scope → List Instr
next_code around (declare n x e) place h s = value_code around e place h s
next_code around (destructure at ns xs e) place h s = stuck h
next_code around x place h s = stmt_code around x place h s

-- the next free register after it, and what is in scope there
abbrev pub next_register : Stmt → ℕ → ℕ
next_register (declare n x e) h = h + 1
next_register _ h = h

abbrev pub next_scope : Stmt → ℕ → Scope → Scope
next_scope (declare n x e) h s = entry n.name.0 h ∷ s
next_scope _ h s = s

-- a `set` whose value isn't used
abbrev pub set_only_code : Around → Node → ℕ → ℕ → Scope → List Instr
set_only_code around (set at p e) place h s = value_code around e place h s ++ store_code p h s
set_only_code around _ place h s = stuck h
