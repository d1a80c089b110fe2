-- How long the lists of a code may be, so that each part of a code has a number below 2^32.
use Rattle.std.specs.Prelude.{◌≡◌, ℕ, ◌+◌, ◌<◌, List, [], ◌∷◌, length, Bool, true, ◌&&◌, nat_lt}
use Rattle.std.specs.List.{list_all}
use Rattle.vale_code.specs.declared.func.Func.{Func}
use Rattle.vale_code.specs.declared.func.Impl.{Impl}
use Rattle.vale_code.specs.declared.instr.Instr.{Instr}
use Rattle.vale_code.specs.declared.instr.Instr.TheVariants as i
use Rattle.vale_code.specs.declared.kind.KindInfo.{KindInfo}
use Rattle.vale_code.specs.declared.kind.KindInfo.TheVariants as k
use Rattle.vale_code.specs.declared.kind.MethodInfo.{MethodInfo}

-- the number of parts that no list has
abbrev pub parts_limit : ℕ
parts_limit = 4294967296

abbrev pub is_few : ℕ → Bool
is_few count = nat_lt count parts_limit

abbrev pub text_is_small : List ℕ → Bool
text_is_small text = is_few (length text)

abbrev pub method_is_small : MethodInfo → Bool
method_is_small m = is_few (length m.params)

abbrev pub kind_is_small : KindInfo → Bool
kind_is_small (k.Struct name destructor fields) = is_few (length fields)
kind_is_small (k.Interface name methods) = is_few (length methods) && list_all method_is_small methods
kind_is_small (k.Array item) = true

abbrev pub impl_is_small : Impl → Bool
impl_is_small impl = is_few (length impl.funcs)

abbrev pub instr_is_small : Instr → Bool
instr_is_small (i.Call to func args at) = is_few (length args)
instr_is_small (i.CallM to interface method object args at) = is_few (length args)
instr_is_small (i.CallMLive to interface method object args at) = is_few (length args)
instr_is_small (i.Make to kind args) = is_few (length args)
instr_is_small (i.Open to from) = is_few (length to)
instr_is_small (i.ParRange to first end func args at) = is_few (length args)
instr_is_small (i.ParEach to array func args at) = is_few (length args)
instr_is_small _ = true

abbrev pub func_is_small : Func → Bool
func_is_small func = is_few (length func.params) && list_all instr_is_small func.body

-- all instructions together
abbrev pub instructions : List Func → ℕ
instructions [] = 0
instructions (f ∷ fs) = length f.body + instructions fs

-- Each list has fewer parts than that, and so have all instructions together, and all kinds, implementations and functions together.
pub record IsSmall (texts : List (List ℕ)) (kinds : List KindInfo) (impls : List Impl) (funcs : List Func) : Type 0 where
  pub texts_few : length texts < parts_limit
  pub items_few : length kinds + length impls + length funcs < parts_limit
  pub instructions_few : instructions funcs < parts_limit
  pub each_text : list_all text_is_small texts ≡ true
  pub each_kind : list_all kind_is_small kinds ≡ true
  pub each_impl : list_all impl_is_small impls ≡ true
  pub each_func : list_all func_is_small funcs ≡ true
