-- What is owed to the words of the command line: a status, and the bytes for `out` and `err`.
use Rattle.std.specs.Fmt.{decimal}
use Rattle.std.specs.Prelude.{ℕ, ◌≡◌, ◌⊎◌, ◌+◌, ◌/◌, ◌%◌, List, [], ◌∷◌, ◌++◌, Option, None, Some, IsSome, codes, drop, take, if◌then◌else◌}
use Rattle.std.specs.Str.{bytes_eq}
use Rattle.vale_base.specs.declared.spot.Spot.{Spot}
use Rattle.vale_deliver.specs.Outside.{Outside}
use Rattle.vale_deliver.specs.declared.answer.Answer.{Answer}
use Rattle.vale_ports.specs.Shelf.{ShelfState}
use Rattle.vale_ports.specs.Streams.{SourceState, SinkState}
use Rattle.vale_ports.specs.declared.files.File.{File}
use Rattle.vale_model.specs.Report.{spot_text, report_text}
use Rattle.vale_run.specs.Effects.{Effect, refuses, rejects, prints, runs, writes, misreads, distrusts, leaves_code}
use Rattle.vale_run.specs.Means.{Means}
use Rattle.vale_state_spec.specs.Outcome.{Outcome, End, Done, Trap, Cut, Wrong, output}
use Rattle.vale_words.specs.FirstFault.{Word, IsFirstFault}
use Rattle.vale_words.specs.Words.{Asks, Lawful}
use Rattle.vale_words.specs.declared.job.Job.{Job}
use Rattle.vale_words.specs.declared.job.Job.TheVariants.{Run, Check, Fmt, Build, Exec, List as ListCode}

-- ---- answers

-- an answer that writes no file
abbrev pub plain_answer : ℕ → List ℕ → List ℕ → Answer
plain_answer status out err = record { status = status; file = None; out = out; err = err }

-- the line that tells a refusal: its code by two digits, and its spot
abbrev pub refusal_text : ℕ → Spot → List ℕ
refusal_text code at = codes "E" ++ decimal (code / 10) ++ decimal (code % 10) ++ codes " at " ++ spot_text at ++ codes "\n"

-- the text is refused, with this code and spot
abbrev pub refused : ℕ → Spot → Answer
refused code at = plain_answer 1 [] (refusal_text code at)

abbrev pub bad_word : ℕ → Answer
bad_word index = plain_answer 2 [] (codes "word " ++ decimal index ++ codes "\n")

abbrev pub bad_input : ℕ → Answer
bad_input place = plain_answer 2 [] (codes "input at " ++ decimal place ++ codes "\n")

-- a code file can't be read, by this fault at this byte
abbrev pub misread : ℕ → ℕ → Answer
misread code at = plain_answer 9 [] (codes "F0" ++ decimal code ++ codes " at " ++ decimal at ++ codes "\n")

-- the code of a file isn't certified, by this rule at this place
abbrev pub distrusted : ℕ → ℕ → Answer
distrusted rule at = plain_answer 9 [] (codes "V0" ++ decimal rule ++ codes " at " ++ decimal at ++ codes "\n")

-- nothing but this file
abbrev pub written : File → Answer
written file = record { status = 0; file = Some file; out = []; err = [] }

abbrev pub read_fault : Answer
read_fault = plain_answer 6 [] (codes "read fault\n")

-- more than so many frames are needed, after this much of the output
abbrev pub no_page : ℕ → List ℕ → Answer
no_page frames out = plain_answer 5 out (codes "no page: frames " ++ decimal frames ++ codes "\n")

-- ---- what an effect is answered by

-- the answer at a run's end
abbrev pub AnswersEnd : End → ℕ → List ℕ → Answer → Type 0
AnswersEnd Done ticks out a = a ≡ plain_answer 0 out []
AnswersEnd (Trap info) ticks out a = a ≡ plain_answer 3 out (report_text info)
AnswersEnd Cut ticks out a = a ≡ plain_answer 4 out (codes "cut after " ++ decimal ticks ++ codes " ticks\n")
AnswersEnd Wrong ticks out a = ⊥

-- the answer to an outcome
abbrev pub EndsWith : Outcome → Answer → Type 0
EndsWith o a = AnswersEnd o.end o.ticks (output o) a

-- the answer to what a job comes to
abbrev pub Allows : Effect → Answer → Type 0
Allows (refuses code at) a = a ≡ refused code at
Allows (rejects place) a = a ≡ bad_input place
Allows (prints out) a = a ≡ plain_answer 0 out []
Allows (runs o) a = EndsWith o a
Allows (writes file) a = a ≡ written file
Allows (misreads code at) a = a ≡ misread code at
Allows (distrusts rule at) a = a ≡ distrusted rule at
Allows leaves_code a = a ≡ bad_word 0

-- the answer to an effect that is so
abbrev pub AnswersSome : (Effect → Type 0) → Answer → Type 0
AnswersSome P a = (e : Effect) × P e × Allows e a

-- ---- what is owed

-- the index of the first option that isn't `--ticks`, where the options begin at this index
abbrev pub other_option : ℕ → List Word → Option ℕ
other_option index [] = None
other_option index (key ∷ []) = None
other_option index (key ∷ value ∷ more) = if bytes_eq key (codes "--ticks") then other_option (index + 2) more else Some index

-- The least index of a word whose command or option isn't served yet: of the commands all are but `gen`, of the options
-- `--ticks`.
abbrev pub unserved : Job → List Word → Option ℕ
unserved (Run file options) words = other_option 2 (drop 2 words)
unserved (Check file) words = None
unserved (Fmt file) words = None
unserved (Build file code) words = None
unserved (Exec code options) words = other_option 2 (drop 2 words)
unserved (ListCode code) words = None
unserved _ words = Some 0

-- the words ask for this job, and it is served
pub record Serves (words : List Word) (job : Job) : Type 0 where
  pub asked : Asks words job
  pub served : unserved job words ≡ None

-- the answer that is owed to the words, with the outside before the call and after it
pub data Owes (words : List Word) (old new : Outside) (a : Answer) : Type 0 where
  no_job : (index : ℕ) → IsFirstFault Lawful words index → a ≡ bad_word index → Owes words old new a
  not_served : (job : Job) (index : ℕ) → Asks words job → unserved job words ≡ Some index → a ≡ bad_word index → Owes words old new a
  served : (job : Job) → Serves words job → (e : Effect) → Means job words old new e → Allows e a → Owes words old new a

-- the same where the source isn't touched, whatever it and the sinks are, and the shelf after the call
abbrev pub OwesUntaken : List Word → ShelfState → Answer → Type 0
OwesUntaken words before a =
    (input : SourceState) (after : ShelfState) (out err new_out new_err : SinkState)
    → Owes words (record { shelf = before; input = input; out = out; err = err }) (record { shelf = after; input = input; out = new_out; err = new_err }) a

-- These bytes are the first of the output of a run, which may go out before it has ended. Of any other job nothing goes out
-- before all of its output is known.
abbrev pub PrintsFront : List Word → Outside → Outside → List ℕ → Type 0
PrintsFront words old new out =
    (out ≡ []) ⊎ ((job : Job) × (o : Outcome) × Serves words job × Means job words old new (runs o) × ((n : ℕ) × (out ≡ take n (output o))))

-- ---- at most one answer

-- the shelf and the source tell what they hold
pub record IsTold (old : Outside) : Type 0 where
  pub files : IsSome old.shelf.files
  pub input : IsSome old.input.left

-- Whatever the outside is after the call: where it tells what it holds before, one answer at most is owed.
abbrev pub OwesOne : Type 0
OwesOne =
    (words : List Word) (old new later : Outside) (a b : Answer) → IsTold old → Owes words old new a → Owes words old later b → a ≡ b
