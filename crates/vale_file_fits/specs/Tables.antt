-- Which codes with facts have a spelling: those whose choices, forms and shapes lie in the tables of the format. Each number of
-- a code is of 32 bits, or of 64 in the instruction `int`, so of these there is nothing to be said.
use Rattle.std.specs.Prelude.{◌≡◌, ℕ, ◌<◌, ◌≤◌, List, [], ◌∷◌, length, Some}
use Rattle.std.specs.List.{AllByRecursion}
use Rattle.vale_cert.specs.declared.facts.FuncFacts.{FuncFacts}
use Rattle.vale_code.specs.Parts.{Parts}
use Rattle.vale_code.specs.declared.func.Func.{Func}
use Rattle.vale_code.specs.declared.instr.Instr.{Instr}
use Rattle.vale_code.specs.declared.instr.Instr.TheVariants as i
use Rattle.vale_code.specs.declared.kind.KindInfo.{KindInfo}
use Rattle.vale_code.specs.declared.kind.KindInfo.TheVariants as k
use Rattle.vale_codec.specs.Numbers.{largest_word}
use Rattle.vale_file_spec.specs.File.{beside}

-- the choice of an instruction is one of those that it has
abbrev pub ChoicesFit : Instr → Type 0
ChoicesFit (i.Truth to choice) = choice ≤ 1
ChoicesFit (i.Cmp to choice left right) = choice ≤ 5
ChoicesFit (i.Print from choice) = choice ≤ 1
ChoicesFit _ = Unit {0}

-- there is a number after that of a destructor
abbrev pub DestructorFits : KindInfo → Type 0
DestructorFits (k.Struct name (Some f) fields) = f < largest_word
DestructorFits _ = Unit {0}

-- only iterations have live parameters
abbrev pub LiveFits : ℕ → List ℕ → Type 0
LiveFits form [] = Unit {0}
LiveFits form (n ∷ live) = form ≡ 2

-- a function with its facts
pub record FuncFits (f : Func × FuncFacts) : Type 0 where
  pub form : f.0.form ≤ 3
  pub choices : AllByRecursion ChoicesFit f.0.body
  pub live : LiveFits f.0.form f.1.live
  pub labels : AllByRecursion (λ l. length l.regs ≡ f.0.registers) f.1.labels

pub record InTables (code : Parts) (facts : List FuncFacts) : Type 0 where
  pub kinds : AllByRecursion DestructorFits code.kinds
  pub entries : length facts ≡ length code.funcs
  pub funcs : AllByRecursion FuncFits (beside code.funcs facts)
