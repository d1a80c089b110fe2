-- What a job on code files comes to: by the text that is built, or by the bytes of the file.
use Rattle.std.specs.Prelude.{ℕ, ◌≡◌, true, false, List}
use Rattle.vale_base.specs.declared.spot.Spot.{Spot}
use Rattle.vale_cert.specs.declared.facts.FuncFacts.{FuncFacts}
use Rattle.vale_code.specs.Parts.{Parts}
use Rattle.vale_code.specs.Run.{run_code}
use Rattle.vale_file_spec.specs.File.{Spells}
use Rattle.vale_front.specs.Front.{Refused, Accepts}
use Rattle.vale_listing.specs.Listing.{listing}
use Rattle.vale_lower_facts.specs.Marks.{lowered_facts}
use Rattle.vale_lowering.specs.Lowered.{lowered}
use Rattle.vale_rules_spec.specs.Typed.{Typed}
use Rattle.vale_run.specs.CodeFiles.{Misread, Uncertified, ReadsCertified, is_run}
use Rattle.vale_run.specs.Effects.{Effect, refuses, prints, runs, writes, misreads, distrusts, leaves_code}
use Rattle.vale_state_spec.specs.State.{no_input}
use Rattle.vale_syntax.specs.Tree.{Tree}
use Rattle.vale_syntax.specs.declared.decls.Decls.{Decls}
use Rattle.vale_words.specs.declared.job.Options.{Options}

-- what the build of a text comes to: the file of this name gets the one spelling of its lowered code with the facts
pub data BuildsTo (text name : List ℕ) (e : Effect) : Type 0 where
  refused_build : (code : ℕ) (at : Spot) → Refused text code at → e ≡ refuses code at → BuildsTo text name e
  builds : (tree : Tree) (decls : Decls) (program : Typed) → Accepts text tree decls program
      → (bytes : List ℕ) → Spells bytes 1 (lowered program) (lowered_facts program)
      → e ≡ writes (record { name = name; bytes = bytes }) → BuildsTo text name e

-- what the run of a code file comes to
pub data ExecsTo (bytes : List ℕ) (options : Options) (e : Effect) : Type 0 where
  misread_exec : (code at : ℕ) → Misread bytes code at → e ≡ misreads code at → ExecsTo bytes options e
  distrusted_exec : (rule at : ℕ) → Uncertified bytes rule at → e ≡ distrusts rule at → ExecsTo bytes options e
  unrun : (code : Parts) (facts : List FuncFacts) → ReadsCertified bytes code facts → is_run code ≡ false
      → e ≡ leaves_code → ExecsTo bytes options e
  execs : (code : Parts) (facts : List FuncFacts) → ReadsCertified bytes code facts → is_run code ≡ true
      → e ≡ runs (run_code code no_input options.ticks) → ExecsTo bytes options e

-- what the listing of a code file comes to
pub data ListsTo (bytes : List ℕ) (e : Effect) : Type 0 where
  misread_list : (code at : ℕ) → Misread bytes code at → e ≡ misreads code at → ListsTo bytes e
  distrusted_list : (rule at : ℕ) → Uncertified bytes rule at → e ≡ distrusts rule at → ListsTo bytes e
  lists : (code : Parts) (facts : List FuncFacts) → ReadsCertified bytes code facts → e ≡ prints (listing code facts) → ListsTo bytes e
