-- Words for the short codes of the examples.
use Rattle.std.proofs.Common.{ℕ, List, [], ◌∷◌, ◌++◌, Option, true}
use Rattle.std.specs.Prelude.{codes}
use Rattle.vale_state_spec.specs.Outcome.{Outcome, End, Trap}
use Rattle.vale_base.specs.declared.name.Kind.{Kind}
use Rattle.vale_base.specs.declared.spot.Spot.{Spot}
use Rattle.vale_base.specs.declared.piece.Piece.{Piece}
use Rattle.vale_base.specs.declared.trap.FrameAt.{FrameAt}
use Rattle.vale_base.specs.declared.trap.TrapKind.{TrapKind}
use Rattle.vale_code.specs.Parts.{Parts}
use Rattle.vale_code.specs.declared.func.Func.{Func}
use Rattle.vale_code.specs.declared.func.Impl.{Impl}
use Rattle.vale_code.specs.declared.instr.Instr.{Instr}
use Rattle.vale_code.specs.declared.instr.Instr.TheVariants as i
use Rattle.vale_code.specs.declared.kind.Field.{Field}
use Rattle.vale_code.specs.declared.kind.KindInfo.{KindInfo}
use Rattle.vale_code.specs.declared.kind.KindInfo.TheVariants as k
use Rattle.vale_code.specs.declared.ty.Ty.{Ty}
use Rattle.vale_code.specs.declared.ty.Ty.TheVariants as t

-- the spot in this column of line 1
abbrev pub at : ℕ → Spot
at column = record { line = 1; col = column }

abbrev pub kind : ℕ → Kind
kind n = record { 0 = n }

-- ---- codes: the texts are `main`, `f` and `S`

abbrev pub function : ℕ → ℕ → List Ty → Ty → ℕ → List Instr → Func
function name form params result registers body =
    record { name = name; form = form; params = params; result = result; registers = registers; body = body }

abbrev pub main_of : List Instr → Func
main_of body = function 0 0 [] t.Void 8 body

abbrev pub code_of : List KindInfo → List Impl → List Func → Parts
code_of kinds impls funcs = record { texts = codes "main" ∷ codes "f" ∷ codes "S" ∷ []; kinds = kinds; impls = impls; funcs = funcs; main = 0 }

-- only `main`, which ends after this
abbrev pub alone : List Instr → Parts
alone body = code_of [] [] (main_of (body ++ i.RetVoid ∷ []) ∷ [])

-- `main`, and a function `f`
abbrev pub with_f : Func → List Instr → Parts
with_f f body = code_of [] [] (main_of (body ++ i.RetVoid ∷ []) ∷ f ∷ [])

abbrev pub field : Ty → Field
field ty = record { ty = ty; mutable = true }

-- a struct `S` with these fields
abbrev pub struct : Option ℕ → List Ty → KindInfo
struct destructor [] = k.Struct 2 destructor []
struct destructor (a ∷ []) = k.Struct 2 destructor (field a ∷ [])
struct destructor (a ∷ b ∷ _) = k.Struct 2 destructor (field a ∷ field b ∷ [])

-- ---- outcomes

abbrev pub line : List ℕ → List ℕ
line text = text ++ 10 ∷ []

abbrev pub piece : ℕ → List ℕ → Piece
piece tick bytes = record { tick = tick; bytes = bytes }

abbrev pub gives : List Piece → End → ℕ → Outcome
gives pieces end ticks = record { pieces = pieces; end = end; ticks = ticks }

abbrev pub frame : List ℕ → Spot → FrameAt
frame what spot = record { what = what; at = spot }

abbrev pub in_main : List FrameAt
in_main = frame (codes "main") (at 1) ∷ []

abbrev pub trap : TrapKind → Spot → List FrameAt → End
trap why spot frames = Trap (record { kind = why; at = spot; frames = frames; more = 0 })
