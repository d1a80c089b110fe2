-- What a code file comes to: it can't be read, its facts don't certify its code, or it spells certified code.
use Rattle.std.specs.List.{list_all}
use Rattle.std.specs.Prelude.{ℕ, ◌≡◌, ◌≤◌, ◌<◌, ◌==◌, ◌&&◌, Bool, true, false, List, Option, None, Some, length, slice_get}
use Rattle.vale_base.specs.Limits.{code_file_limit}
use Rattle.vale_cert.specs.Certificate.{Certified, first_fault}
use Rattle.vale_cert.specs.declared.facts.FuncFacts.{FuncFacts}
use Rattle.vale_code.specs.Parts.{Parts}
use Rattle.vale_code.specs.declared.func.Func.{Func}
use Rattle.vale_file_spec.specs.File.{Spells, HasFault}
use Rattle.vale_syntax.specs.Bytes.{is_byte}

-- these are bytes, and no more of them than a code file may have
pub record IsReadable (bytes : List ℕ) : Type 0 where
  pub within : length bytes ≤ code_file_limit
  pub small : list_all is_byte bytes ≡ true

-- they spell no code: the fault's code, and its byte
pub data Misread (bytes : List ℕ) (code at : ℕ) : Type 0 where
  too_long : code_file_limit < length bytes → code ≡ 6 → at ≡ code_file_limit → Misread bytes code at
  misspelled : IsReadable bytes → HasFault bytes code at → Misread bytes code at

-- they spell this code with these facts
pub record ReadsCode (bytes : List ℕ) (code : Parts) (facts : List FuncFacts) : Type 0 where
  pub readable : IsReadable bytes
  pub spells : Spells bytes 1 code facts

-- they spell a code that its facts don't certify: the first rule that is broken, and where
pub record Uncertified (bytes : List ℕ) (rule at : ℕ) : Type 0 where
  pub code : Parts
  pub facts : List FuncFacts
  pub reads : ReadsCode bytes code facts
  pub first : first_fault code facts ≡ Some (record { rule = rule; at = at })

-- they spell this code, and these facts certify it
pub record ReadsCertified (bytes : List ℕ) (code : Parts) (facts : List FuncFacts) : Type 0 where
  pub reads : ReadsCode bytes code facts
  pub certified : Certified code facts

-- a function that takes nothing
abbrev pub takes_nothing : Option Func → Bool
takes_nothing None = false
takes_nothing (Some f) = length f.params == 0

-- So far code is run that has no kinds and whose `main` takes nothing.
abbrev pub is_run : Parts → Bool
is_run code = (length code.kinds == 0) && takes_nothing (slice_get code.funcs code.main)
