-- The region invariant of a configuration, where the registers of each function under way are held as the certificate knows of
-- them at its place.
use Rattle.std.specs.Prelude.{◌≡◌, ℕ, ◌+◌, List, [], ◌∷◌, Option, Some, None, slice_get}
use Rattle.vale_code.specs.Enter.{Form, form_of}
use Rattle.vale_code.specs.Frames.{Active, Frame, Running, Dropping, Looping, Alone, Config, Next, On, Over}
use Rattle.vale_code.specs.Parts.{Parts}
use Rattle.vale_code.specs.declared.func.Func.{Func}
use Rattle.vale_code.specs.declared.ty.Ty.{Ty}
use Rattle.vale_code.specs.declared.ty.Ty.TheVariants as t
use Rattle.vale_cert.specs.Known.{Known}
use Rattle.vale_cert.specs.Places.{known_in}
use Rattle.vale_cert.specs.declared.facts.FuncFacts.{FuncFacts}
use Rattle.vale_region_laws.specs.Configs.{base_of, ConfigFits}
use Rattle.vale_region_laws.specs.Holding.{Marked}
use Rattle.vale_region_cert.specs.Told.{Told, resumed}

-- the depth at which frames go on
abbrev pub out_of : List Marked → ℕ
out_of [] = 0
out_of (m ∷ ms) = m.depth

-- A function under way over frames that go on at this depth. The frame above gives a value of this type to this register.
pub record ActiveTold (code : Parts) (facts : List FuncFacts) (dest : Option ℕ) (ty : Ty) (m : Marked) (out : ℕ) (f : Active) : Type 0 where
  pub func : Func
  pub form : Form
  pub known : Known
  pub found : slice_get code.funcs f.function ≡ Some func
  pub is_form : form_of func.form ≡ Some form
  pub states : known_in code facts f.function f.place ≡ Some known
  pub deep : m.depth ≡ base_of form out + known.depth
  pub told : Told (base_of form out) known.regs (resumed dest ty m.depth m.marks)

abbrev pub FramesTold : Parts → List FuncFacts → Option ℕ → Ty → List Marked → List Frame → Type 0
FramesTold code facts dest ty [] [] = Unit {0}
FramesTold code facts dest ty [] (f ∷ fs) = ⊥
FramesTold code facts dest ty (m ∷ ms) [] = ⊥
FramesTold code facts dest ty (m ∷ ms) (Running f ∷ fs) = (a : ActiveTold code facts dest ty m (out_of ms) f) × FramesTold code facts f.dest a.func.result ms fs
FramesTold code facts dest ty (m ∷ ms) (Dropping f ∷ fs) = FramesTold code facts None t.Void ms fs
FramesTold code facts dest ty (m ∷ ms) (Looping f ∷ fs) = ⊥
FramesTold code facts dest ty (m ∷ ms) (Alone v ∷ fs) = ⊥

pub record RegionsFit (code : Parts) (facts : List FuncFacts) (d : Config) : Type 0 where
  pub fits : ConfigFits code d
  pub told : FramesTold code facts None t.Void (fits.top ∷ fits.marks) (d.top ∷ d.below)

abbrev pub RegionsNext : Parts → List FuncFacts → Next → Type 0
RegionsNext code facts (On d) = RegionsFit code facts d
RegionsNext code facts (Over end v s) = Unit {0}
