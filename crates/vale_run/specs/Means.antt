-- What a job comes to: by the words, by what the shelf holds, and by what the source gives.
use Rattle.std.specs.Fmt.{decimal}
use Rattle.std.specs.Io.KnownBytes.{IsAtEnd}
use Rattle.std.specs.Prelude.{ℕ, ◌≡◌, ◌≢◌, ◌++◌, ⊤, List, Option, None, Some, Ok, Err, Result, codes, slice_get}
use Rattle.vale_base.specs.declared.spot.Spot.{Spot}
use Rattle.vale_deliver.specs.Outside.{Outside}
use Rattle.vale_front.specs.Front.{Unread, Refused, Accepts}
use Rattle.vale_model.specs.Input.{Form, takes_nothing, form_of, taken}
use Rattle.vale_model.specs.Meaning.{main_takes, meaning}
use Rattle.vale_model.specs.Need.{need}
use Rattle.vale_model.specs.Parts.{parts_of, main_of}
use Rattle.vale_ports.specs.Shelf.{ShelfState, HasFile}
use Rattle.vale_ports.specs.Streams.{SourceState}
use Rattle.vale_rules_spec.specs.Sites.{sites}
use Rattle.vale_rules_spec.specs.Typed.{Typed}
use Rattle.vale_rules_spec.specs.WellFormed.{Reads}
use Rattle.vale_run.specs.CodeMeans.{BuildsTo, ExecsTo, ListsTo}
use Rattle.vale_run.specs.Effects.{Effect, refuses, rejects, prints, runs}
use Rattle.vale_state_spec.specs.State.{Given}
use Rattle.vale_syntax.specs.Canon.{canon}
use Rattle.vale_syntax.specs.Tree.{Tree}
use Rattle.vale_syntax.specs.declared.decls.Decls.{Decls}
use Rattle.vale_words.specs.FirstFault.{Word}
use Rattle.vale_words.specs.declared.job.Job.{Job}
use Rattle.vale_words.specs.declared.job.Job.TheVariants.{Run, Check, Fmt, Build, Exec, List as ListCode}
use Rattle.vale_words.specs.declared.job.Options.{Options}

-- ---- what is read

-- A shelf has a file with this text under the word of this index; where it doesn't tell its files, any text. Nothing else
-- is read of the shelf.
abbrev pub HasText : List Word → ℕ → ShelfState → List ℕ → Type 0
HasText words file shelf text = (name : List ℕ) × (slice_get words file ≡ Some name) × HasFile shelf.files name text

-- these bytes are left of a source, where it tells what is left
abbrev pub HasLeft : Option (List ℕ) → List ℕ → Type 0
HasLeft None bytes = ⊤
HasLeft (Some left) bytes = bytes ≡ left

-- the form of the input that the program takes
abbrev pub input_form : Typed → Form
input_form program = form_of (main_takes (main_of (parts_of program)))

-- the source is as it was where nothing is taken; else it is read to its end
abbrev pub IsTaken : Form → SourceState → SourceState → Type 0
IsTaken takes_nothing old new = new ≡ old
IsTaken _ old new = IsAtEnd new.left

-- The program's input, or the place at which it is unlawful, by all the bytes that are left of the source; where it doesn't
-- tell them, by any.
abbrev pub HasInput : Typed → SourceState → Result Given ℕ → Type 0
HasInput program source input = (bytes : List ℕ) × HasLeft source.left bytes × (taken (input_form program) bytes ≡ input)

-- ---- what is done

-- what the run of a text comes to, with the source before the call and after it
pub data RunsTo (text : List ℕ) (options : Options) (old new : SourceState) (e : Effect) : Type 0 where
  refused_run : (code : ℕ) (at : Spot) → Refused text code at → e ≡ refuses code at → RunsTo text options old new e
  no_input_read : (tree : Tree) (decls : Decls) (program : Typed) → Accepts text tree decls program
      → (place : ℕ) → HasInput program old (Err place) → e ≡ rejects place → RunsTo text options old new e
  input_read : (tree : Tree) (decls : Decls) (program : Typed) → Accepts text tree decls program
      → (input : Given) → HasInput program old (Ok input) → IsTaken (input_form program) old new
      → e ≡ runs (meaning program input options.ticks) → RunsTo text options old new e

-- so many checks are kept and so many dropped
abbrev pub counts : ℕ → ℕ → List ℕ
counts kept elided = codes "kept " ++ decimal kept ++ codes "\nelided " ++ decimal elided ++ codes "\n"

-- what the check of a text comes to: each site is kept
pub data ChecksTo (text : List ℕ) (e : Effect) : Type 0 where
  refused_check : (code : ℕ) (at : Spot) → Refused text code at → e ≡ refuses code at → ChecksTo text e
  checks : (tree : Tree) (decls : Decls) (program : Typed) → Accepts text tree decls program
      → e ≡ prints (counts (sites program) 0) → ChecksTo text e

-- what the laying out of a text comes to: every tree is served
pub data FormatsTo (text : List ℕ) (e : Effect) : Type 0 where
  refused_format : (code : ℕ) (at : Spot) → Unread text code at → e ≡ refuses code at → FormatsTo text e
  formats : (tree : Tree) → Reads text tree → e ≡ prints (canon tree) → FormatsTo text e

-- what a job that is served comes to, with the outside before the call and after it
abbrev pub Means : Job → List Word → Outside → Outside → Effect → Type 0
Means (Run file options) words old new e = (text : List ℕ) × HasText words file old.shelf text × RunsTo text options old.input new.input e
Means (Check file) words old new e = (text : List ℕ) × HasText words file old.shelf text × ChecksTo text e
Means (Fmt file) words old new e = (text : List ℕ) × HasText words file old.shelf text × FormatsTo text e
Means (Build file code) words old new e =
    (text : List ℕ) × HasText words file old.shelf text × (name : List ℕ) × (slice_get words code ≡ Some name) × BuildsTo text name e
Means (Exec code options) words old new e = (bytes : List ℕ) × HasText words code old.shelf bytes × ExecsTo bytes options e
Means (ListCode code) words old new e = (bytes : List ℕ) × HasText words code old.shelf bytes × ListsTo bytes e
Means _ words old new e = ⊥

-- ---- what is asked of the outside besides

-- the job runs this program
abbrev pub RunsProgram : Job → List Word → ShelfState → Typed → Type 0
RunsProgram (Run file options) words shelf program =
    (text : List ℕ) × HasText words file shelf text × (tree : Tree) × (decls : Decls) × Accepts text tree decls program
RunsProgram _ words shelf program = ⊥

-- the program that the job runs takes input
abbrev pub TakesInput : Job → List Word → ShelfState → Type 0
TakesInput job words shelf = (program : Typed) × RunsProgram job words shelf program × (input_form program ≢ takes_nothing)

-- how the job is to be run
abbrev pub HasOptions : Job → Options → Type 0
HasOptions (Run file options) chosen = chosen ≡ options
HasOptions _ chosen = ⊥

-- the frames that suffice the job's run
abbrev pub Needs : Job → Options → List Word → Outside → ℕ → Type 0
Needs job options words old frames =
    (program : Typed) × RunsProgram job words old.shelf program
    × (input : Given) × HasInput program old.input (Ok input) × (frames ≡ need program input options.ticks options.first)
