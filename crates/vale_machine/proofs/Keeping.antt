-- Where memory is wanting, the pieces so far are the first of those that the code means.
use Rattle.std.proofs.Common.{◌≡◌, List, [], ◌++◌, append-nil, sym, ap, ◌∙◌, subst, append_assoc}
use Rattle.vale_base.specs.declared.piece.Piece.{Piece}
use Rattle.vale_code.specs.Frames.{Config, Next, On, Over}
use Rattle.vale_code.specs.Parts.{Parts}
use Rattle.vale_code.specs.Run.{go_on, state_in, step, steps}
use Rattle.vale_code.proofs.RunLaws.{steps_later}
use Rattle.vale_text.specs.Progress.{Begins, Progresses}
use Rattle.vale_machine.specs.UnderWay.{HasFirst}
use Rattle.vale_machine.specs.View.{HasMemory, KeepsPieces, Stepped, config_of, state_of}
use Rattle.vale_machine.specs.declared.machine.Machine.{Machine}
use Rattle.vale_machine.specs.declared.machine.Step.{Step}
use Rattle.vale_machine.specs.declared.machine.Step.TheVariants as s

-- a step that has memory
pub sure_keeps : (t : Step) (old new : Machine) → HasMemory t → KeepsPieces t old new
sure_keeps s.Memory old new h = absurd h
sure_keeps _ old new h = tt

-- a step from a machine with the same pieces
pub keeps_on : (t : Step) (old mid new : Machine) → mid.pieces.items ≡ old.pieces.items → KeepsPieces t mid new → KeepsPieces t old new
keeps_on s.Memory old mid new e h = h ∙ e
keeps_on _ old mid new e h = tt

pub begins_on : (ps qs rs : List Piece) → Begins ps qs → Begins qs rs → Begins ps rs
begins_on ps qs rs h g = (h.0 ++ g.0, g.1 ∙ ap (λ l. l ++ g.0) h.1 ∙ append_assoc ps h.0 g.0)

-- a step of the code's meaning only adds pieces
step_progresses : (code : Parts) (c : Config) → Progresses c.state (state_in (step code c))
step_progresses code c = at (step code c) (steps_later code 1 c)
  where
    at : (x : Next) → Progresses c.state (state_in (go_on x (steps code 0))) → Progresses c.state (state_in x)
    at (On d) goes = goes
    at (Over end v t) goes = goes

pub has_first : (code : Parts) (taken : List Piece) (t : Step) (old new : Machine) → KeepsPieces t old new → HasFirst t (step code (config_of code taken old)) (state_of taken new)
has_first code taken s.Memory old new e =
    let goes = step_progresses code (config_of code taken old) in
    (goes.printed, goes.pieces ∙ ap (λ ps. (taken ++ ps) ++ goes.printed) (sym e))
has_first code taken _ old new e = tt

-- no step loses a piece
pub none_lost : (code : Parts) (t : Step) (old new : Machine) → KeepsPieces t old new → Stepped code [] t (step code (config_of code [] old)) new → Begins old.pieces.items new.pieces.items
none_lost code t old new = at t
  where
    goes : Begins old.pieces.items (state_in (step code (config_of code [] old))).pieces
    goes = let more = step_progresses code (config_of code [] old) in (more.printed, more.pieces)

    led : (next : Next) → step code (config_of code [] old) ≡ next → Begins old.pieces.items (state_in next).pieces
    led next e = subst (λ (x : Next). Begins old.pieces.items (state_in x).pieces) e goes

    at : (t : Step) → KeepsPieces t old new → Stepped code [] t (step code (config_of code [] old)) new → Begins old.pieces.items new.pieces.items
    at s.Going k h = led _ h
    at (s.Trap kind spot) k h = led _ h
    at s.Done k h = led _ h.1
    at s.Cut k h = led _ h
    at s.Memory k h = ([], k ∙ sym (append-nil old.pieces.items))
