-- The causes of the answers that nothing owes.
use Rattle.std.specs.Prelude.{ℕ, ◌≡◌, ◌<◌, List, Some, slice_get, false}
use Rattle.vale_deliver.specs.Outside.{Outside}
use Rattle.vale_ports.specs.Faults.{Rose}
use Rattle.vale_ports.specs.Shelf.{ShelfState}
use Rattle.vale_run.specs.Means.{HasOptions, Needs, TakesInput}
use Rattle.vale_run.specs.Owed.{Serves}
use Rattle.vale_words.specs.FirstFault.{Word}
use Rattle.vale_words.specs.declared.job.Job.{Job}
use Rattle.vale_words.specs.declared.job.Job.TheVariants.{Run, Check, Fmt, Build, Exec, List as ListCode}
use Rattle.vale_words.specs.declared.job.Options.{Options}

-- ---- read faults

-- the read of a file of this name failed in the call
abbrev pub ReadFailed : ShelfState → ShelfState → List ℕ → Type 0
ReadFailed old new name = Rose old.faults new.faults × (new.last_fault ≡ Some (record { name = name; is_write = false }))

-- the read of the file under the word of this index failed in the call
abbrev pub FileReadFailed : ℕ → List Word → ShelfState → ShelfState → Type 0
FileReadFailed file words old new = (name : List ℕ) × (slice_get words file ≡ Some name) × ReadFailed old new name

-- the read of a file of the job failed in the call
abbrev pub JobReadFailed : Job → List Word → ShelfState → ShelfState → Type 0
JobReadFailed (Run file options) words old new = FileReadFailed file words old new
JobReadFailed (Check file) words old new = FileReadFailed file words old new
JobReadFailed (Fmt file) words old new = FileReadFailed file words old new
JobReadFailed (Build file code) words old new = FileReadFailed file words old new
JobReadFailed (Exec code options) words old new = FileReadFailed code words old new
JobReadFailed (ListCode code) words old new = FileReadFailed code words old new
JobReadFailed _ words old new = ⊥

-- the words ask for a job that is served, and the read of a file of the job failed in the call
abbrev pub FileFails : List Word → ShelfState → ShelfState → Type 0
FileFails words old new = (job : Job) × Serves words job × JobReadFailed job words old new

-- in the call a read failed that the job makes: of a file of its own, or of the input, where its program takes it
pub data ReadFails (words : List Word) (old new : Outside) : Type 0 where
  of_file : FileFails words old.shelf new.shelf → ReadFails words old new
  of_input : (job : Job) → Serves words job → TakesInput job words old.shelf → Rose old.input.faults new.input.faults → ReadFails words old new

-- ---- pages

-- The job's run has so many frames, and needs more. (That all of them were out isn't said here: they are the call's own.)
pub record LacksPages (words : List Word) (old : Outside) (frames : ℕ) : Type 0 where
  pub job : Job
  pub serves : Serves words job
  pub options : Options
  pub chosen : HasOptions job options
  pub has : frames ≡ options.frames
  pub needed : ℕ
  pub needs : Needs job options words old needed
  pub more : frames < needed

-- ---- what may be touched

-- the words ask for something that is served, so the shelf may be read
abbrev pub MayRead : List Word → Type 0
MayRead words = (job : Job) × Serves words job

-- what the words ask for may take input
abbrev pub MayTakeInput : List Word → ShelfState → Type 0
MayTakeInput words shelf = (job : Job) × Serves words job × TakesInput job words shelf

-- the words ask for the one job that writes a file
abbrev pub MayWrite : List Word → Type 0
MayWrite words = (file code : ℕ) × Serves words (Build file code)
