-- Parts that have a spelling where their lists are short enough and their choices lie in the tables.
use Rattle.std.specs.Prelude.{◌≡◌, ◌≤◌, length, true}
use Rattle.std.specs.List.{AllByRecursion}
use Rattle.vale_cert.specs.Small.{facts_are_small}
use Rattle.vale_cert.specs.declared.facts.FuncFacts.{FuncFacts}
use Rattle.vale_cert.specs.declared.facts.Label.{Label}
use Rattle.vale_code.specs.Sizes.{method_is_small, kind_is_small, impl_is_small, instr_is_small, func_is_small}
use Rattle.vale_code.specs.declared.func.Func.{Func}
use Rattle.vale_code.specs.declared.func.Impl.{Impl}
use Rattle.vale_code.specs.declared.instr.Instr.{Instr}
use Rattle.vale_code.specs.declared.kind.KindInfo.{KindInfo}
use Rattle.vale_code.specs.declared.kind.MethodInfo.{MethodInfo}
use Rattle.vale_codec.specs.Numbers.{largest_word}
use Rattle.vale_file_fits.specs.Operands.{OperandsFit}
use Rattle.vale_file_fits.specs.Tables.{ChoicesFit, DestructorFits, FuncFits}
use Rattle.vale_file_spec.specs.File.{method, kind_info, impl_info, reg, func}
use Rattle.vale_file_spec.specs.Types.{word}

abbrev pub MethodIsFit : MethodInfo → Type 0
MethodIsFit m = method_is_small m ≡ true → method.Fits m

abbrev pub KindIsFit : KindInfo → Type 0
KindIsFit info = kind_is_small info ≡ true → DestructorFits info → kind_info.Fits info

abbrev pub ImplIsFit : Impl → Type 0
ImplIsFit impl = impl_is_small impl ≡ true → impl_info.Fits impl

abbrev pub InstrIsFit : Instr → Type 0
InstrIsFit instr = instr_is_small instr ≡ true → ChoicesFit instr → OperandsFit instr

-- but for how many registers there are
abbrev pub LabelIsFit : Label → Type 0
LabelIsFit l = word.Fits l.at × (word.Fits l.depth × AllByRecursion reg.Fits l.regs)

abbrev pub FuncIsFit : Func × FuncFacts → Type 0
FuncIsFit f = func_is_small f.0 ≡ true → length f.0.body ≤ largest_word → facts_are_small f.1 ≡ true → FuncFits f → func.Fits f
