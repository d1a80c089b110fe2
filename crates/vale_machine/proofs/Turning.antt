-- One instruction as a turn.
use Rattle.std.proofs.Common.{◌≡◌, ℕ, List, true, false, sym, ap, ◌∙◌, subst, arith}
use Rattle.vale_base.specs.declared.piece.Piece.{Piece}
use Rattle.vale_code.specs.Frames.{Config, Next, On}
use Rattle.vale_code.specs.Frames as Frames
use Rattle.vale_code.specs.Instructions.{fetch}
use Rattle.vale_code.specs.Parts.{Parts}
use Rattle.vale_code.specs.Run.{step}
use Rattle.vale_turn.specs.View.{EndsBy, IsSafe, is_going}
use Rattle.vale_turn.specs.declared.stop.Stop.{Stop}
use Rattle.vale_turn.specs.declared.stop.Stop.TheVariants as stop
use Rattle.vale_turn.proofs.Stretching.{safe_on}
use Rattle.vale_machine.specs.UnderWay.{IsUnderWay, TookOne}
use Rattle.vale_machine.specs.View.{GoesOn, IsLaid, KeepsTicks, config_of, own_cells, scene_of}
use Rattle.vale_machine.specs.declared.machine.Machine.{Machine}
use Rattle.vale_machine.proofs.Running.{laid_by}

pub took_step : (code : Parts) (taken : List Piece) (t : Stop) (old new : Machine) → true ≡ is_going t → TookOne code taken t old new → step code (config_of code taken old) ≡ On (config_of code taken new)
took_step code taken stop.Going old new e h = h
took_step code taken _ old new e h = let x : ⊥ = cc in absurd x

stood : (code : Parts) (taken : List Piece) (t : Stop) (old new : Machine) → false ≡ is_going t → TookOne code taken t old new
    → EndsBy code new.top.function (scene_of code taken new) t new.top.place (own_cells new) new.left × (config_of code taken new ≡ config_of code taken old)
stood code taken stop.Going old new e h = let x : ⊥ = cc in absurd x
stood code taken stop.Aside old new e h = h
stood code taken stop.Enters old new e h = h
stood code taken (stop.Leaves from) old new e h = h
stood code taken (stop.Trap kind at) old new e h = h
stood code taken stop.Cut old new e h = h

pub stood_ends : (code : Parts) (taken : List Piece) (t : Stop) (old new : Machine) → false ≡ is_going t → TookOne code taken t old new → EndsBy code new.top.function (scene_of code taken new) t new.top.place (own_cells new) new.left
stood_ends code taken t old new e h = (stood code taken t old new e h).0

pub stood_same : (code : Parts) (taken : List Piece) (t : Stop) (old new : Machine) → false ≡ is_going t → TookOne code taken t old new → config_of code taken new ≡ config_of code taken old
stood_same code taken t old new e h = (stood code taken t old new e h).1

pub stood_under_way : (code : Parts) (taken : List Piece) (t : Stop) (old new : Machine) → false ≡ is_going t → TookOne code taken t old new → GoesOn old new → IsUnderWay code taken old → IsUnderWay code taken new
stood_under_way code taken t old new e h g u = record {
  runnable = u.runnable;
  laid = laid_by code old new g.top (ap (λ l. l.items) g.below) g.end g.cells u.laid;
  ticks = omega (arith, u.ticks, g.ticks.given, g.ticks.left);
  safe = subst (λ (x : Config). IsSafe code x) (sym (stood_same code taken t old new e h)) u.safe;
}

-- a turn that goes on
pub turned_on : (code : Parts) (taken : List Piece) (old new : Machine) → step code (config_of code taken old) ≡ On (config_of code taken new) → IsLaid code new → KeepsTicks old new → IsUnderWay code taken old → IsUnderWay code taken new
turned_on code taken old new e laid ticks u = record {
  runnable = u.runnable;
  laid = laid;
  ticks = omega (arith, u.ticks, ticks.given, ticks.left);
  safe = safe_on code (config_of code taken old) (config_of code taken new) e u.safe;
}

-- ---- where the machine stands

abbrev place_of : Frames.Frame → ℕ
place_of (Frames.Running f) = f.place
place_of _ = 0

abbrev function_of : Frames.Frame → ℕ
function_of (Frames.Running f) = f.function
function_of _ = 0

-- a machine that stood still has the same instruction next
pub stood_fetches : (code : Parts) (taken : List Piece) (t : Stop) (old new : Machine) → false ≡ is_going t → TookOne code taken t old new → fetch code new.top.function new.top.place ≡ fetch code old.top.function old.top.place
stood_fetches code taken t old new e h =
    let same = stood_same code taken t old new e h in
    ap (λ n. fetch code n new.top.place) (ap (λ (c : Config). function_of c.top) same) ∙ ap (fetch code old.top.function) (ap (λ (c : Config). place_of c.top) same)

pub stood_step : (code : Parts) (taken : List Piece) (t : Stop) (old new : Machine) → false ≡ is_going t → TookOne code taken t old new → step code (config_of code taken old) ≡ step code (config_of code taken new)
stood_step code taken t old new e h = ap (step code) (sym (stood_same code taken t old new e h))

pub then_ticks : (old mid new : Machine) → KeepsTicks old mid → KeepsTicks mid new → KeepsTicks old new
then_ticks old mid new a b = record { given = b.given ∙ a.given; left = omega (arith, a.left, b.left) }
