-- Which locals are whole. A local is whole once it is declared, and moved once it is named as a value, where its type is that of an
-- owner or an isolate.
use Rattle.std.specs.Prelude.{ℕ, ◌-◌, Bool, true, false, ◌==◌, ◌&&◌, List, [], ◌∷◌, length, drop, if◌then◌else◌}
use Rattle.vale_syntax.specs.declared.tree.NameAt.{NameAt}
use Rattle.vale_syntax.specs.Tree.{Param, param}

pub record Local : Type 0 where
  pub name : ℕ
  pub whole : Bool

-- the locals in scope, the last declared first
abbrev pub Locals : Type 0
Locals = List Local

abbrev pub declared : NameAt → Locals → Locals
declared n ls = record { name = n.name.0; whole = true } ∷ ls

abbrev pub all_declared : List NameAt → Locals → Locals
all_declared [] ls = ls
all_declared (n ∷ ns) ls = all_declared ns (declared n ls)

abbrev pub params_declared : List Param → Locals → Locals
params_declared [] ls = ls
params_declared (param n x ∷ ps) ls = params_declared ps (declared n ls)

-- what isn't in scope isn't moved
abbrev pub is_whole : ℕ → Locals → Bool
is_whole n [] = true
is_whole n (l ∷ ls) = if l.name == n then l.whole else is_whole n ls

abbrev pub moved : ℕ → Locals → Locals
moved n [] = []
moved n (l ∷ ls) = if l.name == n then record { name = n; whole = false } ∷ ls else l ∷ moved n ls

-- of these locals, those that were in scope before, which are as many as these
abbrev pub outer : Locals → Locals → Locals
outer before ls = drop (length ls - length before) ls

-- whether the same locals are whole
abbrev pub are_alike : Locals → Locals → Bool
are_alike [] [] = true
are_alike (l ∷ ls) (m ∷ ms) = same l.whole m.whole && are_alike ls ms
  where
    same : Bool → Bool → Bool
    same true b = b
    same false true = false
    same false false = true
are_alike _ _ = false
