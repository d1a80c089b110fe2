-- What a walk over a body has found so far: the first fault in the order of the tree, and the locals in scope.
use Rattle.std.specs.Prelude.{ℕ, ◌-◌, Bool, true, false, ◌&&◌, ◌||◌, List, [], ◌∷◌, length, drop, Option, Some, None, option_map}
use Rattle.vale_base.specs.declared.spot.Spot.{Spot}
use Rattle.vale_syntax.specs.declared.fault.Fault.{Fault}
use Rattle.vale_syntax.specs.declared.tree.BinaryOp.{BinaryOp}
use Rattle.vale_syntax.specs.declared.tree.BinaryOp.TheVariants.{Or, And}
use Rattle.vale_syntax.specs.declared.tree.NameAt.{NameAt}
use Rattle.vale_rules_spec.specs.Judged.{own, first_of}
use Rattle.vale_rules_spec.specs.Owned.{Flow, Branches, name_flow}
use Rattle.vale_rules_spec.specs.Whole as w
use Rattle.vale_rules_spec.specs.Whole.{Locals, declared, all_declared, moved, are_alike}
use Rattle.vale_owner_flow.specs.declared.locals.Local.{Local}
use Rattle.vale_owner_flow.specs.declared.flow_state.FlowState.{FlowState}
use Rattle.vale_owner_flow.specs.declared.branches.Branches as code

-- ---- the locals, of which the code has the last declared last

abbrev pub local_of : Local → w.Local
local_of l = record { name = l.name.0; whole = l.whole }

abbrev pub scope_over : List Local → Locals → Locals
scope_over [] outer = outer
scope_over (l ∷ ls) outer = scope_over ls (local_of l ∷ outer)

unfoldable pub in_scope : List Local → Locals
in_scope ls = scope_over ls []

-- ---- what is found

pub record FlowView : Type 0 where
  pub first : Option Fault
  pub locals : Locals

unfoldable pub found : FlowState → FlowView
found s = record { first = s.fault; locals = in_scope s.locals.items }

abbrev pub earlier : Option Fault → Option Fault → Option Fault
earlier None g = g
earlier (Some f) g = Some f

unfoldable pub nothing : FlowView
nothing = record { first = None; locals = [] }

-- after a part with this flow
abbrev pub going : (Locals → Flow) → FlowView → FlowView
going part f = record { first = earlier f.first (first_of (part f.locals).faults); locals = (part f.locals).after }

unfoldable pub naming : NameAt → Bool → FlowView → FlowView
naming n is_moved = going (name_flow n is_moved)

unfoldable pub declaring : NameAt → FlowView → FlowView
declaring n f = record { first = f.first; locals = declared n f.locals }

unfoldable pub declaring_all : List NameAt → FlowView → FlowView
declaring_all ns f = record { first = f.first; locals = all_declared ns f.locals }

unfoldable pub moving : ℕ → FlowView → FlowView
moving n f = record { first = f.first; locals = moved n f.locals }

-- a rule with this code is kept or broken at the spot
unfoldable pub judged : Spot → ℕ → Bool → FlowView → FlowView
judged at code kept f = record { first = earlier f.first (first_of (own at ((code, kept) ∷ []))); locals = f.locals }

-- a fault that stands after what is found
unfoldable pub told : Option Fault → FlowView → FlowView
told fault f = record { first = earlier f.first fault; locals = f.locals }

unfoldable pub with_first : Option Fault → FlowView → FlowView
with_first fault f = record { first = fault; locals = f.locals }

unfoldable pub back_to : Locals → FlowView → FlowView
back_to ls f = record { first = f.first; locals = ls }

-- so many of the locals, the first declared
unfoldable pub closed : ℕ → FlowView → FlowView
closed count f = record { first = f.first; locals = drop (length f.locals - count) f.locals }

-- the end of a loop, by whether its condition leaves the locals as they are, the locals before its body and whether the body
-- always returns
unfoldable pub loop_ended : Spot → Bool → Locals → Bool → FlowView → FlowView
loop_ended at stays start returns f = record {
  first = earlier f.first (first_of (own at ((32, stays && (returns || are_alike start f.locals)) ∷ [])));
  locals = start;
}

-- ---- the branches of an `if`, or of an operator

-- whether the operand after it may be left out
abbrev pub may_skip : BinaryOp → Bool
may_skip Or = true
may_skip And = true
may_skip _ = false

-- the first of them, and whether the others are as it is
pub record Kept : Type 0 where
  pub first : Option Locals
  pub alike : Bool

unfoldable pub kept : code.Branches → Kept
kept k = record { first = option_map (λ v. in_scope v.items) k.first; alike = k.alike }

unfoldable pub no_branches : Kept
no_branches = record { first = None; alike = true }

abbrev pub with_one : Locals → Option Locals → Bool → Kept
with_one ls None alike = record { first = Some ls; alike = alike }
with_one ls (Some first) alike = record { first = Some first; alike = alike && are_alike first ls }

-- after a block that always returns, or ends with these locals
unfoldable pub with_branch : Bool → Locals → Kept → Kept
with_branch true ls k = k
with_branch false ls k = with_one ls k.first k.alike

unfoldable pub with_branches : Branches → Kept → Kept
with_branches [] k = k
with_branches (w ∷ ws) k = with_branches ws (with_branch false w k)

-- the sides of an `if`: the first fault, and the branches
pub record Sided : Type 0 where
  pub first : Option Fault
  pub branches : Kept

unfoldable pub sided : FlowView → Kept → Sided
sided f k = record { first = f.first; branches = k }

abbrev pub or_else : Option Locals → Locals → Locals
or_else None before = before
or_else (Some ls) before = ls

-- the end of an `if`, by the locals before it
unfoldable pub branch_ended : Spot → Locals → Sided → FlowView
branch_ended at before s = record { first = earlier s.first (first_of (own at ((31, s.branches.alike) ∷ []))); locals = or_else s.branches.first before }
