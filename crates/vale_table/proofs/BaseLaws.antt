-- The base of a frame never falls, whatever lawful step is made.
use Rattle.std.proofs.Common.{◌≡◌, ℕ, ◌≤◌, List, set, sym, ap, ◌∙◌, subst, arith}
use mathlib.Core.Option.{some, some-injective}
use mathlib.Core.Logic.{dite}
use native.Mathlib.Decide.{ℕ_discrete}
use lib.ListN.{get_elem?}
use Rattle.atomic_table.proofs.Lists.{set_here, set_else, at_map}
use Rattle.vale_table.specs.Rule.{Frame, free, held, frame_base, Core, Event, look, take, give, split, join, inherits, after, May}
use Rattle.vale_table.proofs.MarkLemmas.{inside}

-- the frame f stands in the list, at a base that isn't below
StandsAbove : List Frame → ℕ → Frame → Type 0
StandsAbove frames f x = (y : Frame) × (get_elem? frames f ≡ some y) × (frame_base x ≤ frame_base y)

-- one frame is set to z, which isn't below what was there
set_above : (frames : List Frame) (g : ℕ) (was z : Frame) → get_elem? frames g ≡ some was → frame_base was ≤ frame_base z → (f : ℕ) (x : Frame) → get_elem? frames f ≡ some x → StandsAbove (set frames g z) f x
unfolding StandsAbove
set_above frames g was z there above f x at = dite (ℕ_discrete f g)
    (λ same.
    let is : x ≡ was = some-injective x was (sym at ∙ ap (get_elem? frames) same ∙ there) in
    let level = ap frame_base is in
    (z, subst (λ (i : ℕ). get_elem? (set frames g z) i ≡ some z) (sym same) (set_here frames g z (inside frames g was there)), omega (arith, level, above)))
    (λ apart. (x, set_else frames g f z apart ∙ at, omega arith))

inherited : (other id : ℕ) (x : Frame) → frame_base x ≤ frame_base (inherits other id x)
inherited other id (free b) = omega arith
inherited other id (held o b) = omega arith

pub bases_rise : (e : Event) (c : Core) → May e c → (f : ℕ) (x : Frame) → get_elem? c.frames f ≡ some x → (y : Frame) × (get_elem? (after e c).frames f ≡ some y) × (frame_base x ≤ frame_base y)
unfolding StandsAbove
bases_rise look c may f x at = (x, at, omega arith)
bases_rise (take o g b) c may f x at = set_above c.frames g (free b) (held o b) may (omega arith) f x at
bases_rise (give o g b) c may f x at = set_above c.frames g (held o may.old) (free b) may.owned may.not_below f x at
bases_rise (split id) c may f x at = (x, at, omega arith)
bases_rise (join id other) c may f x at = (inherits other id x, at_map (inherits other id) c.frames f x at, inherited other id x)
