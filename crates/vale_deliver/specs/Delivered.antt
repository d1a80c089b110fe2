-- What became of an answer. Its file is written first, then `out`, then `err`; it all got there, or a write failed in the
-- call, status 7 tells it, and nothing more was written anywhere.
use Rattle.std.specs.Prelude.{ℕ, ◌≡◌, List, [], Option, None, Some, take, codes, true}
use Rattle.std.specs.Io.KnownBytes.{Appends}
use Rattle.vale_deliver.specs.Outside.{Outside}
use Rattle.vale_deliver.specs.declared.answer.Answer.{Answer}
use Rattle.vale_ports.specs.Faults.{Rose}
use Rattle.vale_ports.specs.Shelf.{ShelfState, KeepsFiles, KeepsOtherFiles, HasFile}
use Rattle.vale_ports.specs.declared.files.File.{File}

-- these bytes went out, or the first of them
abbrev pub AppendsFront : Option (List ℕ) → Option (List ℕ) → List ℕ → Type 0
AppendsFront old new bytes = (n : ℕ) × Appends old new (take n bytes)

-- ---- the sinks

-- both sinks got all their bytes
pub record AllSent (a : Answer) (status : ℕ) (old new : Outside) : Type 0 where
  pub same_status : status ≡ a.status
  pub out_whole : Appends old.out.written new.out.written a.out
  pub err_whole : Appends old.err.written new.err.written a.err

-- `out` failed, and `err` is as it was
pub record OutFailed (a : Answer) (status : ℕ) (old new : Outside) : Type 0 where
  pub write_fault : status ≡ 7
  pub cause : Rose old.out.faults new.out.faults
  pub out_front : AppendsFront old.out.written new.out.written a.out
  pub err_kept : new.err ≡ old.err

-- `err` failed, after all that there was for `out`
pub record ErrFailed (a : Answer) (status : ℕ) (old new : Outside) : Type 0 where
  pub write_fault : status ≡ 7
  pub cause : Rose old.err.faults new.err.faults
  pub out_whole : Appends old.out.written new.out.written a.out
  pub err_front : AppendsFront old.err.written new.err.written a.err

-- what became of the bytes
pub data Sent (a : Answer) (status : ℕ) (old new : Outside) : Type 0 where
  all_sent : AllSent a status old new → Sent a status old new
  out_failed : OutFailed a status old new → Sent a status old new
  err_failed : ErrFailed a status old new → Sent a status old new

-- ---- the file

-- the file stands on the shelf, where there is one, and every other is as it was
abbrev pub PutsFile : Option File → ShelfState → ShelfState → Type 0
PutsFile None old new = KeepsFiles old.files new.files
PutsFile (Some file) old new = HasFile new.files file.name file.bytes × KeepsOtherFiles old.files new.files file.name

-- the write of a file of this name failed in the call
abbrev pub WriteFailed : ShelfState → ShelfState → List ℕ → Type 0
WriteFailed old new name = Rose old.faults new.faults × (new.last_fault ≡ Some (record { name = name; is_write = true }))

-- The shelf failed at the file, and the sinks are as they were. What stands under its name isn't known.
pub record PutFailed (file : File) (status : ℕ) (old new : Outside) : Type 0 where
  pub write_fault : status ≡ 7
  pub cause : WriteFailed old.shelf new.shelf file.name
  pub others : KeepsOtherFiles old.shelf.files new.shelf.files file.name
  pub out_kept : new.out ≡ old.out
  pub err_kept : new.err ≡ old.err

-- ---- the answer

pub data Delivered (a : Answer) (status : ℕ) (old new : Outside) : Type 0 where
  sent : PutsFile a.file old.shelf new.shelf → Sent a status old new → Delivered a status old new
  put_failed : (file : File) → a.file ≡ Some file → PutFailed file status old new → Delivered a status old new

-- the answer where memory is wanting, after this much of the output
abbrev pub no_memory : List ℕ → Answer
no_memory out = record { status = 8; file = None; out = out; err = codes "memory\n" }

-- what became of an answer that was handed on; only where it has a file may memory be wanting
pub data Handed (a : Answer) (status : ℕ) (old new : Outside) : Type 0 where
  delivered : Delivered a status old new → Handed a status old new
  wants_memory : (file : File) → a.file ≡ Some file → Delivered (no_memory []) status old new → Handed a status old new
