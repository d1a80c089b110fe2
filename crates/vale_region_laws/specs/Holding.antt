-- What the frames of a run hold.
use Rattle.std.specs.Prelude.{ℕ, zero, suc, List, [], ◌∷◌, Option, Some, None}
use Rattle.vale_state_spec.specs.World.{Value, Int, Truth, Text, Own, Ref, Iso}
use Rattle.vale_code.specs.Frames.{Frame, Running, Dropping, Looping, Alone, Items, Numbers, Elements}
use Rattle.vale_code.specs.Registers.{Registers}
use Rattle.vale_region_laws.specs.Regions.{How, Holder, seeing, waiting, holding_all}

-- how each register is held, as a certificate tells: of what it calls empty nothing is said
abbrev pub Marks : Type 0
Marks = List (Option How)

abbrev pub mark : Marks → ℕ → Option How
mark [] r = None
mark (m ∷ ms) zero = m
mark (m ∷ ms) (suc r) = mark ms r

abbrev pub put_mark : Marks → ℕ → Option How → Marks
put_mark [] zero m = m ∷ []
put_mark [] (suc r) m = None ∷ put_mark [] r m
put_mark (x ∷ ms) zero m = m ∷ ms
put_mark (x ∷ ms) (suc r) m = x ∷ put_mark ms r m

abbrev pub held_as : How → Value → Holder
held_as how v = record { how = how; value = v }

abbrev pub in_register : Option How → Option Value → List Holder → List Holder
in_register None x hs = hs
in_register (Some how) None hs = hs
in_register (Some how) (Some v) hs = held_as how v ∷ hs

abbrev pub in_registers : Marks → Registers → List Holder → List Holder
in_registers [] regs hs = hs
in_registers (m ∷ ms) [] hs = hs
in_registers (m ∷ ms) (x ∷ xs) hs = in_register m x (in_registers ms xs hs)

abbrev pub waiting_all : List Value → List Holder → List Holder
waiting_all [] hs = hs
waiting_all (v ∷ vs) hs = waiting v ∷ waiting_all vs hs

abbrev pub seeing_all : ℕ → List Value → List Holder → List Holder
seeing_all a [] hs = hs
seeing_all a (v ∷ vs) hs = seeing a v ∷ seeing_all a vs hs

abbrev pub items_wait : Items → List Holder → List Holder
items_wait (Numbers x more) hs = hs
items_wait (Elements vs) hs = waiting_all vs hs

-- a frame, with the number of freezes that are open when it is at the top, and the marks of its registers
pub record Marked : Type 0 where
  pub depth : ℕ
  pub marks : Marks

abbrev pub in_frame : Marked → Frame → List Holder → List Holder
in_frame m (Running f) hs = in_registers m.marks f.registers hs
in_frame m (Dropping f) hs = holding_all m.depth f.rest hs
in_frame m (Looping f) hs = seeing_all (suc m.depth) f.captured (items_wait f.items (holding_all m.depth f.done hs))
in_frame m (Alone v) hs = hs

abbrev pub in_frames : List Marked → List Frame → List Holder
in_frames [] fs = []
in_frames (m ∷ ms) [] = []
in_frames (m ∷ ms) (f ∷ fs) = in_frame m f (in_frames ms fs)

-- ---- registers that are read and kept

-- the marks after a value was taken out of a register by whoever keeps it
abbrev pub taken : ℕ → Value → Marks → Marks
taken r (Own n) ms = put_mark ms r None
taken r (Iso n) ms = put_mark ms r None
taken r (Ref n) ms = ms
taken r (Int z) ms = ms
taken r (Truth b) ms = ms
taken r (Text t) ms = ms
