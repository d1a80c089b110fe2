-- Lists with one more.
use Rattle.std.proofs.Common.{◌≡◌, suc, List, [], ◌∷◌, ◌++◌, length, refl, ap}
use Rattle.std.specs.Prelude.{map}
use Rattle.vale_syntax.specs.declared.tree.NameAt.{NameAt}
use Rattle.vale_model.specs.Expressions.{numbers_of}
use Rattle.vale_lower_flow.specs.declared.gives.Gives.{Gives}
use Rattle.vale_lower_flow.specs.Kept.{view_gives}
use Rattle.vale_lower_flow.proofs.ScopeLaws.{framed_more}

pub gives_more : (qs : List Gives) (q : Gives) → map view_gives (qs ++ q ∷ []) ≡ map view_gives qs ++ view_gives q ∷ []
gives_more [] q = refl
gives_more (p ∷ qs) q = ap (λ z. view_gives p ∷ z) (gives_more qs q)

pub numbers_length : (ns : List NameAt) → length (numbers_of ns) ≡ length ns
numbers_length [] = refl
numbers_length (n ∷ ns) = ap suc (numbers_length ns)

pub ruleset waits = (framed_more, gives_more)
