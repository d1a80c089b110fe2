-- What a shelf holds, and what its calls do to it.
use Rattle.std.specs.Prelude.{ℕ, ◌≤◌, ◌≡◌, ◌≢◌, ⊤, List, Option, None, Some, take, Result, Err}
use Rattle.std.specs.Option.{option_map}
use Rattle.vale_ports.specs.Faults.{Rose}
use Rattle.vale_ports.specs.declared.shelf.ShelfFault.{ShelfFault}
use Rattle.vale_ports.specs.declared.shelf.ShelfFault.TheVariants.{Failed, Memory}
use Rattle.vale_ports.specs.declared.shelf.ShelfCall.{ShelfCall}

-- a file's bytes by its name, or that no file has the name
abbrev pub Files : Type 0
Files = List ℕ → Option (List ℕ)

-- the files, where the shelf tells them, how often it has failed, and the last call that failed
pub record ShelfState : Type 0 where
  pub files : Option Files
  pub faults : ℕ
  pub last_fault : Option ShelfCall

-- a shelf that tells nothing of its files
abbrev pub untold : ℕ → Option ShelfCall → ShelfState
untold count last = record { files = None; faults = count; last_fault = last }

-- these are the first bytes of the file
abbrev pub ReadsFile : Option Files → List ℕ → ℕ → List ℕ → Type 0
ReadsFile None name limit bytes = ⊤
ReadsFile (Some files) name limit bytes = option_map (λ whole. take limit whole) (files name) ≡ Some bytes

-- files that are told stay as they were
abbrev pub KeepsFiles : Option Files → Option Files → Type 0
KeepsFiles None now = ⊤
KeepsFiles (Some old) None = ⊥
KeepsFiles (Some old) (Some now) = (n : List ℕ) → now n ≡ old n

-- files that are told stay as they were, but for this name
abbrev pub KeepsOtherFiles : Option Files → Option Files → List ℕ → Type 0
KeepsOtherFiles None now name = ⊤
KeepsOtherFiles (Some old) None name = ⊥
KeepsOtherFiles (Some old) (Some now) name = (n : List ℕ) → n ≢ name → now n ≡ old n

-- these bytes stand under the name
abbrev pub HasFile : Option Files → List ℕ → List ℕ → Type 0
HasFile None name bytes = ⊤
HasFile (Some files) name bytes = files name ≡ Some bytes

-- `Failed` comes only where the count rose, and the last fault is then this call; no other answer changes it, and want of
-- memory leaves the count as it was
pub record HasShelfCause {T : Type 0} (old new : ShelfState) (call : ShelfCall) (result : Result T ShelfFault) : Type 0 where
  pub later : old.faults ≤ new.faults
  pub rose : result ≡ Err Failed → Rose old.faults new.faults
  pub last : result ≡ Err Failed → new.last_fault ≡ Some call
  pub kept : result ≢ Err Failed → new.last_fault ≡ old.last_fault
  pub still : result ≡ Err Memory → new.faults ≡ old.faults
