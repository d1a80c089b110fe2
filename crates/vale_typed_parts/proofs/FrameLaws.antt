-- The locals of a block, with one more.
use Rattle.std.proofs.Common.{◌≡◌, List, [], ◌∷◌, ◌++◌, refl}
use Rattle.vale_rules_spec.specs.Types as y
use Rattle.vale_seen.specs.declared.scope.Local.{Local}
use Rattle.vale_seen.specs.Scope.{view_local, framed}

pub framed_more : (ls : List Local) (l : Local) (outer : List y.Local) → framed (ls ++ l ∷ []) outer ≡ view_local l ∷ framed ls outer
framed_more [] l outer = refl
framed_more (m ∷ ls) l outer = framed_more ls l (view_local m ∷ outer)
