-- What is in scope, with one more.
use Rattle.std.proofs.Common.{◌≡◌, ℕ, zero, suc, List, [], ◌∷◌, ◌++◌, ◌+◌, refl, ap, arith}
use Rattle.vale_lowering.specs.Scopes.{Entry, waiting, place_of}
use Rattle.vale_lower_expr.specs.declared.scope.Local.{Local}
use Rattle.vale_lower_expr.specs.Entries.{entry_of, framed, awaited}

pub framed_more : (ls : List Local) (l : Local) (outer : List Entry) → framed (ls ++ l ∷ []) outer ≡ entry_of l ∷ framed ls outer
framed_more [] l outer = refl
framed_more (m ∷ ls) l outer = framed_more ls l (entry_of m ∷ outer)

-- no name stands for a value that waits
pub awaited_places : (n h count : ℕ) (outer : List Entry) → place_of n (awaited h count outer) ≡ place_of n outer
awaited_places n h zero outer = refl
awaited_places n h (suc count) outer = awaited_places n h count outer

pub awaited_more : (h count : ℕ) (outer : List Entry) → awaited h (count + 1) outer ≡ waiting (h + count) ∷ awaited h count outer
awaited_more h count outer = let e : count + 1 ≡ suc count = omega arith in ap (λ n. awaited h n outer) e
