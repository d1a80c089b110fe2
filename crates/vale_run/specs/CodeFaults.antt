-- Why the code of a file can't be used, and what is told of it.
use Rattle.std.specs.Prelude.{ℕ, List}
use Rattle.vale_deliver.specs.declared.answer.Answer.{Answer}
use Rattle.vale_run.specs.CodeFiles.{Misread, Uncertified}
use Rattle.vale_run.specs.Effects.{Effect, misreads, distrusts}
use Rattle.vale_run.specs.Owed.{misread, distrusted}
use Rattle.vale_run.specs.declared.codes.CodeFault.{CodeFault}
use Rattle.vale_run.specs.declared.codes.CodeFault.TheVariants as f

-- these bytes are at fault so
abbrev pub IsFaulty : List ℕ → CodeFault → Type 0
IsFaulty bytes (f.Misread fault) = Misread bytes fault.code fault.at
IsFaulty bytes (f.Distrusted fault) = Uncertified bytes fault.rule fault.at

abbrev pub effect_of : CodeFault → Effect
effect_of (f.Misread fault) = misreads fault.code fault.at
effect_of (f.Distrusted fault) = distrusts fault.rule fault.at

abbrev pub told_of : CodeFault → Answer
told_of (f.Misread fault) = misread fault.code fault.at
told_of (f.Distrusted fault) = distrusted fault.rule fault.at
