-- A code as its parts.
use Rattle.std.specs.Prelude.{ℕ, List}
use Rattle.vale_code.specs.declared.func.Func.{Func}
use Rattle.vale_code.specs.declared.func.Impl.{Impl}
use Rattle.vale_code.specs.declared.kind.KindInfo.{KindInfo}

pub record Parts : Type 0 where
  pub texts : List (List ℕ)
  pub kinds : List KindInfo
  pub impls : List Impl
  pub funcs : List Func
  pub main : ℕ
