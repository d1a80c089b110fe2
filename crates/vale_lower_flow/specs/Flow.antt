-- What was emitted of a body so far, what is gone there, and whether a run comes there; and how all three change.
use Rattle.std.specs.Prelude.{ℕ, zero, suc, ◌+◌, Bool, true, false, ◌&&◌, ◌==◌, List, [], ◌∷◌, ◌++◌, length, take, slice_set, if◌then◌else◌}
use Rattle.vale_base.specs.declared.spot.Spot.{Spot}
use Rattle.vale_code.specs.declared.instr.Instr.{Instr}
use Rattle.vale_code.specs.declared.instr.Instr.TheVariants as i
use Rattle.vale_lowering.specs.Instructions.{stuck}
use Rattle.vale_lowering_objects.specs.Scopes.{Gone, Scope, After, comes, never, met, may_meet, closes, is_gone, without}
use Rattle.vale_lower_flow.specs.declared.flow.Flow.{Flow}
use Rattle.vale_lower_flow.specs.declared.flow.Mark.{Mark}
use Rattle.vale_lower_flow.specs.declared.flow.Side.{Side}
use Rattle.vale_lower_flow.specs.Entries.{gone_of}

pub record Going : Type 0 where
  pub code : List Instr
  pub gone : Gone
  pub comes : Bool

unfoldable pub going : Flow → Going
going f = record { code = f.code.items; gone = gone_of f.gone; comes = f.comes }

-- ---- what a part makes of it

abbrev pub gone_in : After → Gone
gone_in (comes g) = g
gone_in (never g) = g

abbrev pub comes_in : After → Bool
comes_in (comes g) = true
comes_in (never g) = false

abbrev pub after_of : Bool → Gone → After
after_of true g = comes g
after_of false g = never g

-- a part that has this code and leaves this, by its place and what is gone before it
unfoldable pub emitted : (ℕ → Gone → List Instr) → (Gone → After) → Going → Going
emitted part after f = record { code = f.code ++ part (length f.code) f.gone; gone = gone_in (after f.gone); comes = comes_in (after f.gone) }

-- ---- single changes

unfoldable pub put : List Instr → Going → Going
put xs f = record { code = f.code ++ xs; gone = f.gone; comes = true }

-- another instruction at a place
unfoldable pub replaced : ℕ → Instr → Going → Going
replaced place x f = record { code = slice_set f.code place x; gone = f.gone; comes = f.comes }

unfoldable pub arrived : Going → Going
arrived f = record { code = f.code; gone = f.gone; comes = true }

unfoldable pub left : Going → Going
left f = record { code = f.code; gone = f.gone; comes = false }

-- the owner of a register is gone
unfoldable pub taken : ℕ → Going → Going
taken r f = record { code = f.code; gone = r ∷ f.gone; comes = f.comes }

-- a register gets a value
unfoldable pub filled : ℕ → Going → Going
filled r f = record { code = f.code; gone = without r f.gone; comes = f.comes }

unfoldable pub back_to : Gone → Going → Going
back_to g f = record { code = f.code; gone = g; comes = true }

-- The code from the place on is kept only where the test holds; else no step follows there.
unfoldable pub only : Bool → ℕ → ℕ → Going → Going
only true place h f = f
only false place h f = record { code = take place f.code ++ stuck h; gone = f.gone; comes = f.comes }

-- ---- what follows a part

unfoldable pub mark_of : Going → Mark
mark_of f = record { comes = f.comes; start = length f.code }

-- what follows begins, where r is the first free register
unfoldable pub begun : ℕ → Going → Going
begun r f = if f.comes then f else record { code = f.code ++ i.Truth r 1 ∷ i.Unless r (length f.code) ∷ []; gone = f.gone; comes = true }

abbrev pub dead_end : ℕ → List Instr → List Instr
dead_end start code = if length code == start + 2 then take start code else code ++ i.Jump (length code) ∷ []

-- it ends; the mark stands at the end of the part before
unfoldable pub ended : Mark → Going → Going
ended m f = if m.comes then f else record { code = dead_end m.start f.code; gone = f.gone; comes = false }

-- what is done only where a run comes
unfoldable pub if_there : (ℕ → Gone → List Instr) → Going → Going
if_there rest f = if f.comes then record { code = f.code ++ rest (length f.code) f.gone; gone = f.gone; comes = true } else f

-- ---- two sides of a test

abbrev pub end_of_side : Bool → List Instr → List Instr
end_of_side true code = code ++ i.Jump 0 ∷ []
end_of_side false code = code

-- The first side ends; the other begins with what was gone before the two. The test was held at its place.
unfoldable pub turned : ℕ → ℕ → Gone → Going → Going
turned test h before f =
    let code = end_of_side f.comes f.code in
    record { code = slice_set code test (i.Unless h (length code)); gone = before; comes = true }

abbrev pub side_after : Side → After
side_after d = after_of d.comes (gone_of d.gone)

abbrev pub end_of_sides : Bool → ℕ → List Instr → List Instr
end_of_sides true jump code = slice_set code jump (i.Jump (length code))
end_of_sides false jump code = code

-- both end
unfoldable pub joined : Bool → ℕ → Gone → After → Going → Going
joined first jump before after f =
    let both = met before after (after_of f.comes f.gone) in
    record { code = end_of_sides first jump f.code; gone = gone_in both; comes = comes_in both }

-- ---- what is done only where a test holds, and turns

-- what is done only where the test is true ends: the test was held at its place, and this was gone before
unfoldable pub skipped : ℕ → ℕ → Gone → Going → Going
skipped test h before f = record { code = slice_set f.code test (i.Unless h (length f.code)); gone = before; comes = true }

-- A loop ends after its test, whose code begins at this place; its first jump was held at `start`.
unfoldable pub looped : ℕ → ℕ → ℕ → Gone → Going → Going
looped start test h before f =
    record { code = slice_set (f.code ++ i.Unless h (length f.code + 1 + 1) ∷ i.Jump (start + 1) ∷ []) start (i.Jump test); gone = before; comes = true }
