-- What the facts of a certificate tell of how registers are held.
use Rattle.std.specs.Prelude.{◌≡◌, ℕ, ◌+◌, List, Option, Some, None}
use Rattle.vale_code.specs.declared.ty.Ty.{Ty}
use Rattle.vale_code.specs.declared.ty.Ty.TheVariants as t
use Rattle.vale_cert.specs.Known.{fact_of}
use Rattle.vale_cert.specs.declared.facts.RegFact.{RegFact}
use Rattle.vale_cert.specs.declared.facts.RegFact.TheVariants.{Empty, Held}
use Rattle.vale_region_laws.specs.Holding.{Marks, mark, put_mark}
use Rattle.vale_region_laws.specs.Regions.{How}
use Rattle.vale_region_laws.specs.Regions as how

-- a value of this type that was written at this depth of the run; of a number, a truth or a text nothing is told
abbrev pub held_by_type : Ty → ℕ → Option How
held_by_type (t.Own kind) a = Some (how.Held a)
held_by_type (t.Ref kind) a = Some (how.Held a)
held_by_type (t.Iso kind) a = Some (how.Held a)
held_by_type (t.Frozen kind) a = Some (how.Seen a)
held_by_type _ a = None

-- a register of a frame whose base is b
abbrev pub mark_of : ℕ → RegFact → Option How
mark_of b Empty = None
mark_of b (Held ty depth live) = held_by_type ty (b + depth)

abbrev pub IsTold : Option How → Option How → Type 0
IsTold None m = Unit {0}
IsTold (Some how) m = m ≡ Some how

-- each register is marked as is known of it
pub record Told (b : ℕ) (facts : List RegFact) (ms : Marks) : Type 0 where
  pub each : (r : ℕ) → IsTold (mark_of b (fact_of facts r)) (mark ms r)

-- ---- values that come to registers

-- how a value of this type is held that comes where so many freezes are open
abbrev pub passed_as : ℕ → Ty → How
passed_as c (t.Frozen kind) = how.Seen c
passed_as c _ = how.Held c

-- the marks of a frame once a value of this type has come to this register
abbrev pub resumed : Option ℕ → Ty → ℕ → Marks → Marks
resumed None ty c ms = ms
resumed (Some to) t.Void c ms = ms
resumed (Some to) ty c ms = put_mark ms to (Some (passed_as c ty))
