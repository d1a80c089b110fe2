-- Labels in rising order, as they stand before the instructions of a function.
use Rattle.std.specs.Prelude.{ℕ, List, [], ◌∷◌, Bool, true, ◌&&◌, ◌==◌, nat_le, if◌then◌else◌}
use Rattle.vale_cert.specs.Known.{rise, rise_from}
use Rattle.vale_cert.specs.declared.facts.FuncFacts.{FuncFacts}
use Rattle.vale_cert.specs.declared.facts.Label.{Label}
use Rattle.vale_code.specs.declared.func.Func.{Func}

-- the labels rise, and none stands before place p
abbrev pub rise_at : ℕ → List Label → Bool
rise_at p [] = true
rise_at p (label ∷ labels) = nat_le p label.at && rise_from label.at labels

-- those after the label at place p, where they begin with it
abbrev pub past : ℕ → List Label → List Label
past p [] = []
past p (label ∷ labels) = if label.at == p then labels else label ∷ labels

-- the labels of each function rise
abbrev pub each_rises : List Func → List FuncFacts → Bool
each_rises [] facts = true
each_rises (f ∷ fs) [] = true
each_rises (f ∷ fs) (known ∷ facts) = rise known.labels && each_rises fs facts
