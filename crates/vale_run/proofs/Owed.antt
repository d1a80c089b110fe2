-- The answer to a text that was read up to its limit.
use Rattle.std.proofs.Common.{◌≡◌, ℕ, ◌≤◌, List, Option, None, Some, length, take, sym, subst, refl, arith}
use Rattle.std.specs.Option.{option_map}
use Rattle.std.proofs.lemmas.List.{length-take, take_all}
use Rattle.vale_base.specs.Limits.{program_limit, code_file_limit}
use Rattle.vale_base.specs.declared.spot.Spot.{Spot}
use Rattle.vale_deliver.specs.declared.answer.Answer.{Answer}
use Rattle.vale_ports.specs.Shelf.{Files, ReadsFile, HasFile}
use Rattle.vale_ports.specs.Streams.{SourceState}
use Rattle.vale_front.specs.Front.{Unread, too_long, no_tokens, no_tree, Refused, unread, unsound}
use Rattle.vale_rules_spec.specs.WellFormed.{Reads}
use Rattle.vale_cert.specs.declared.facts.FuncFacts.{FuncFacts}
use Rattle.vale_code.specs.Parts.{Parts}
use Rattle.vale_run.specs.CodeFiles.{IsReadable, Misread, too_long as too_long_file, misspelled, ReadsCode, Uncertified, ReadsCertified}
use Rattle.vale_run.specs.CodeMeans.{BuildsTo, refused_build, builds, ExecsTo, misread_exec, distrusted_exec, unrun, execs, ListsTo, misread_list, distrusted_list, lists}
use Rattle.vale_run.specs.Effects.{Effect}
use Rattle.vale_run.specs.Means.{RunsTo, refused_run, no_input_read, input_read, ChecksTo, refused_check, checks, FormatsTo, refused_format, formats}
use Rattle.vale_run.specs.Owed.{AnswersSome}
use Rattle.vale_words.specs.declared.job.Options.{Options}

-- a front within the limit is the whole
whole : (text : List ℕ) → length (take 1048577 text) ≤ program_limit → take 1048577 text ≡ text
whole text h = take_all 1048577 text (omega (arith, length-take 1048577 text))

Unread-whole : (text : List ℕ) (code : ℕ) (at : Spot) → Unread (take 1048577 text) code at → Unread text code at
Unread-whole text code at (too_long h c s) = too_long (omega (arith, length-take 1048577 text, h)) c s
Unread-whole text code at (no_tokens h uncut fault) = subst (λ t. Unread t code at) (whole text h) (no_tokens h uncut fault)
Unread-whole text code at (no_tree h tokens cuts none why) = subst (λ t. Unread t code at) (whole text h) (no_tree h tokens cuts none why)

Refused-whole : (text : List ℕ) (code : ℕ) (at : Spot) → Refused (take 1048577 text) code at → Refused text code at
Refused-whole text code at (unread u) = unread (Unread-whole text code at u)
Refused-whole text code at (unsound parsed r u) = unsound parsed (subst (λ t. Reads t parsed) (whole text r.within) r) u

RunsTo-whole : (options : Options) (old new : SourceState) (e : Effect) (text : List ℕ) → RunsTo (take 1048577 text) options old new e → RunsTo text options old new e
RunsTo-whole options old new e text (refused_run code at r is) = refused_run code at (Refused-whole text code at r) is
RunsTo-whole options old new e text (no_input_read parsed decls program r place has is) =
    subst (λ t. RunsTo t options old new e) (whole text r.reads.within) (no_input_read parsed decls program r place has is)
RunsTo-whole options old new e text (input_read parsed decls program r input has taken is) =
    subst (λ t. RunsTo t options old new e) (whole text r.reads.within) (input_read parsed decls program r input has taken is)

ChecksTo-whole : (e : Effect) (text : List ℕ) → ChecksTo (take 1048577 text) e → ChecksTo text e
ChecksTo-whole e text (refused_check code at r is) = refused_check code at (Refused-whole text code at r) is
ChecksTo-whole e text (checks parsed decls types r is) = subst (λ t. ChecksTo t e) (whole text r.reads.within) (checks parsed decls types r is)

FormatsTo-whole : (e : Effect) (text : List ℕ) → FormatsTo (take 1048577 text) e → FormatsTo text e
FormatsTo-whole e text (refused_format code at r is) = refused_format code at (Unread-whole text code at r) is
FormatsTo-whole e text (formats parsed r is) = subst (λ t. FormatsTo t e) (whole text r.within) (formats parsed r is)

BuildsTo-whole : (name : List ℕ) (e : Effect) (text : List ℕ) → BuildsTo (take 1048577 text) name e → BuildsTo text name e
BuildsTo-whole name e text (refused_build code at r is) = refused_build code at (Refused-whole text code at r) is
BuildsTo-whole name e text (builds parsed decls program r bytes spells is) =
    subst (λ t. BuildsTo t name e) (whole text r.reads.within) (builds parsed decls program r bytes spells is)

-- ---- code files

-- a front within the limit is the whole
whole_file : (bytes : List ℕ) → length (take 268435457 bytes) ≤ code_file_limit → take 268435457 bytes ≡ bytes
whole_file bytes h = take_all 268435457 bytes (omega (arith, length-take 268435457 bytes))

Misread-whole : (bytes : List ℕ) (code at : ℕ) → Misread (take 268435457 bytes) code at → Misread bytes code at
Misread-whole bytes code at (too_long_file h c s) = too_long_file (omega (arith, length-take 268435457 bytes, h)) c s
Misread-whole bytes code at (misspelled r h) = subst (λ t. Misread t code at) (whole_file bytes r.within) (misspelled r h)

Uncertified-whole : (bytes : List ℕ) (rule at : ℕ) → Uncertified (take 268435457 bytes) rule at → Uncertified bytes rule at
Uncertified-whole bytes rule at u = subst (λ t. Uncertified t rule at) (whole_file bytes u.reads.readable.within) u

ReadsCertified-whole : (code : Parts) (facts : List FuncFacts) (bytes : List ℕ) → ReadsCertified (take 268435457 bytes) code facts → ReadsCertified bytes code facts
ReadsCertified-whole code facts bytes r = subst (λ t. ReadsCertified t code facts) (whole_file bytes r.reads.readable.within) r

ExecsTo-whole : (options : Options) (e : Effect) (bytes : List ℕ) → ExecsTo (take 268435457 bytes) options e → ExecsTo bytes options e
ExecsTo-whole options e bytes (misread_exec code at m is) = misread_exec code at (Misread-whole bytes code at m) is
ExecsTo-whole options e bytes (distrusted_exec rule at u is) = distrusted_exec rule at (Uncertified-whole bytes rule at u) is
ExecsTo-whole options e bytes (unrun code facts r un is) = unrun code facts (ReadsCertified-whole code facts bytes r) un is
ExecsTo-whole options e bytes (execs code facts r fit is) = execs code facts (ReadsCertified-whole code facts bytes r) fit is

ListsTo-whole : (e : Effect) (bytes : List ℕ) → ListsTo (take 268435457 bytes) e → ListsTo bytes e
ListsTo-whole e bytes (misread_list code at m is) = misread_list code at (Misread-whole bytes code at m) is
ListsTo-whole e bytes (distrusted_list rule at u is) = distrusted_list rule at (Uncertified-whole bytes rule at u) is
ListsTo-whole e bytes (lists code facts r is) = lists code facts (ReadsCertified-whole code facts bytes r) is

-- ---- what was read of a file

module _ (most : ℕ) (Fits : List ℕ → Type 0) (fits_whole : (text : List ℕ) → Fits (take most text) → Fits text) where
  found : (file : Option (List ℕ)) (bytes : List ℕ) → option_map (λ whole. take most whole) file ≡ Some bytes → Fits bytes → (text : List ℕ) × (file ≡ Some text) × Fits text
  found None bytes e r = absurd (cc e)
  found (Some text) bytes e r =
      let same : take most text ≡ bytes = cc e in
      (text, refl, fits_whole text (subst Fits (sym same) r))

  of_read : (files : Option Files) (name bytes : List ℕ) → ReadsFile files name most bytes → Fits bytes → (text : List ℕ) × HasFile files name text × Fits text
  of_read None name bytes read r = (bytes, tt, r)
  of_read (Some files) name bytes read r = found (files name) bytes read r

-- what was read of the file tells the answer to all of it
pub RunsTo-read : (files : Option Files) (name bytes : List ℕ) (options : Options) (a : Answer) → ReadsFile files name 1048577 bytes → ((input : SourceState) → AnswersSome (RunsTo bytes options input input) a)
    → (text : List ℕ) × HasFile files name text × ((input : SourceState) → AnswersSome (RunsTo text options input input) a)
RunsTo-read files name bytes options a read r =
    of_read 1048577 (λ t. (input : SourceState) → AnswersSome (RunsTo t options input input) a)
    (λ text answered input. let (e, does, allows) = answered input in (e, RunsTo-whole options input input e text does, allows)) files name bytes read r

pub ChecksTo-read : (files : Option Files) (name bytes : List ℕ) (a : Answer) → ReadsFile files name 1048577 bytes → AnswersSome (ChecksTo bytes) a
    → (text : List ℕ) × HasFile files name text × AnswersSome (ChecksTo text) a
ChecksTo-read files name bytes a read r =
    of_read 1048577 (λ t. AnswersSome (ChecksTo t) a) (λ text (e, does, allows). (e, ChecksTo-whole e text does, allows)) files name bytes read r

pub FormatsTo-read : (files : Option Files) (name bytes : List ℕ) (a : Answer) → ReadsFile files name 1048577 bytes → AnswersSome (FormatsTo bytes) a
    → (text : List ℕ) × HasFile files name text × AnswersSome (FormatsTo text) a
FormatsTo-read files name bytes a read r =
    of_read 1048577 (λ t. AnswersSome (FormatsTo t) a) (λ text (e, does, allows). (e, FormatsTo-whole e text does, allows)) files name bytes read r

pub BuildsTo-read : (files : Option Files) (name bytes code : List ℕ) (a : Answer) → ReadsFile files name 1048577 bytes → AnswersSome (BuildsTo bytes code) a
    → (text : List ℕ) × HasFile files name text × AnswersSome (BuildsTo text code) a
BuildsTo-read files name bytes code a read r =
    of_read 1048577 (λ t. AnswersSome (BuildsTo t code) a) (λ text (e, does, allows). (e, BuildsTo-whole code e text does, allows)) files name bytes read r

pub ExecsTo-read : (files : Option Files) (name bytes : List ℕ) (options : Options) (a : Answer) → ReadsFile files name 268435457 bytes → AnswersSome (ExecsTo bytes options) a
    → (text : List ℕ) × HasFile files name text × AnswersSome (ExecsTo text options) a
ExecsTo-read files name bytes options a read r =
    of_read 268435457 (λ t. AnswersSome (ExecsTo t options) a) (λ text (e, does, allows). (e, ExecsTo-whole options e text does, allows)) files name bytes read r

pub ListsTo-read : (files : Option Files) (name bytes : List ℕ) (a : Answer) → ReadsFile files name 268435457 bytes → AnswersSome (ListsTo bytes) a
    → (text : List ℕ) × HasFile files name text × AnswersSome (ListsTo text) a
ListsTo-read files name bytes a read r =
    of_read 268435457 (λ t. AnswersSome (ListsTo t) a) (λ text (e, does, allows). (e, ListsTo-whole e text does, allows)) files name bytes read r
