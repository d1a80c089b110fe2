-- What is told of a code file that can't be used is owed.
use Rattle.std.proofs.Common.{◌≡◌, ℕ, List, refl}
use Rattle.vale_deliver.specs.declared.answer.Answer.{Answer}
use Rattle.vale_run.specs.CodeFaults.{IsFaulty, told_of}
use Rattle.vale_run.specs.CodeMeans.{ExecsTo, misread_exec, distrusted_exec, ListsTo, misread_list, distrusted_list}
use Rattle.vale_run.specs.Effects.{misreads, distrusts}
use Rattle.vale_run.specs.Owed.{AnswersSome}
use Rattle.vale_run.specs.declared.codes.CodeFault.{CodeFault}
use Rattle.vale_run.specs.declared.codes.CodeFault.TheVariants as f
use Rattle.vale_words.specs.declared.job.Options.{Options}

pub exec_faulty : (bytes : List ℕ) (options : Options) (fault : CodeFault) (a : Answer) → IsFaulty bytes fault → a ≡ told_of fault → AnswersSome (ExecsTo bytes options) a
exec_faulty bytes options (f.Misread x) a why is = (misreads x.code x.at, misread_exec x.code x.at why refl, is)
exec_faulty bytes options (f.Distrusted x) a why is = (distrusts x.rule x.at, distrusted_exec x.rule x.at why refl, is)

pub list_faulty : (bytes : List ℕ) (fault : CodeFault) (a : Answer) → IsFaulty bytes fault → a ≡ told_of fault → AnswersSome (ListsTo bytes) a
list_faulty bytes (f.Misread x) a why is = (misreads x.code x.at, misread_list x.code x.at why refl, is)
list_faulty bytes (f.Distrusted x) a why is = (distrusts x.rule x.at, distrusted_list x.rule x.at why refl, is)
