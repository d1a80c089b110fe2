-- What is still to be done at the end of the branches of an `if`, and of a first step.
use Rattle.std.specs.Prelude.{ℕ, Bool, List, [], ◌∷◌, Option}
use Rattle.vale_code.specs.declared.instr.Instr.{Instr}
use Rattle.vale_rules_spec.specs.Types as y
use Rattle.vale_lowering_objects.specs.Lowered.{Origin, from_local, stays_of, free_register}
use Rattle.vale_lowering_objects.specs.Scopes.{Scope, Entry, Gone, After, may_meet}
use Rattle.vale_lower_flow.specs.Flow.{Going, emitted, only, ended, joined, side_after, after_of}
use Rattle.vale_lower_parts.specs.declared.branch.Branch.{Branch}
use Rattle.vale_lower_parts.specs.declared.branch.Base.{Base}

-- both sides of a test end, and what its condition begins
unfoldable pub branch_ended : Branch → ℕ → Scope → Gone → Going → Going
branch_ended b h s before f =
    only b.is_value b.start h (ended b.mark
    (only (may_meet s (side_after b.side) (after_of f.comes f.gone)) b.test h (joined b.side.comes b.side.jump before (side_after b.side) f)))

abbrev pub branches_ended : List Branch → ℕ → Scope → Gone → Going → Going
branches_ended [] h s before f = f
branches_ended (b ∷ bs) h s before f = branch_ended b h s before (branches_ended bs h s before f)

-- what starts from a base ends
unfoldable pub base_ended : Base → ℕ → Going → Going
base_ended b h f = only b.is_there b.start h (ended b.mark f)

-- ---- first steps

-- any part that starts from an origin, with the first free register
abbrev pub Rest : Type 0
Rest = Origin → ℕ → ℕ → Gone → List Instr

abbrev pub Leaves : Type 0
Leaves = ℕ → Gone → After

-- such a part, from a local
abbrev pub local_started : y.View → ℕ → Rest → Leaves → Option Entry → Bool → Going → Going
local_started view h part after x changes = emitted (λ place g. from_local x (stays_of x view changes) view place h g part) (λ g. after (free_register (stays_of x view changes) h) g)
