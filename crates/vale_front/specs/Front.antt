-- Which texts are accepted, and what the others are refused with.
use Rattle.std.specs.Prelude.{ℕ, ◌≡◌, ◌≤◌, ◌<◌, true, false, List, length}
use Rattle.vale_base.specs.Limits.{program_limit}
use Rattle.vale_base.specs.declared.spot.Spot.{Spot}
use Rattle.vale_front.specs.Interfaces.{has_interfaces}
use Rattle.vale_served_spec.specs.Served.{is_served}
use Rattle.vale_region_spec.specs.Isolated.{isolated}
use Rattle.vale_region_spec.specs.Regions.{framed}
use Rattle.vale_rules_spec.specs.Owned.{owned}
use Rattle.vale_reading.specs.ItemReading.{all_of}
use Rattle.vale_parser.specs.Refusal.{IsRefusal}
use Rattle.vale_syntax.specs.Cut.{start, cut, LexFaultAt}
use Rattle.vale_rules_spec.specs.DeclFaults.{declared}
use Rattle.vale_syntax.specs.Grammar.{spells}
use Rattle.vale_rules_spec.specs.Judged.{IsFine, IsFirstFault}
use Rattle.vale_syntax.specs.Tree.{Tree}
use Rattle.vale_rules_spec.specs.Typed.{Typed}
use Rattle.vale_rules_spec.specs.Typing.{typed}
use Rattle.vale_rules_spec.specs.WellFormed.{Reads}
use Rattle.vale_syntax.specs.declared.decls.Decls.{Decls}
use Rattle.vale_syntax.specs.declared.fault.Fault.{Fault}
use Rattle.vale_syntax.specs.declared.token.Tokens.{Tokens}

-- The text has no tree, and is refused with this code at this spot: the first of its phases that can't go on says why.
pub data Unread (text : List ℕ) (code : ℕ) (at : Spot) : Type 0 where
  too_long : program_limit < length text → code ≡ 1 → at ≡ start → Unread text code at
  -- nothing cuts it, and this is its first fault
  no_tokens : length text ≤ program_limit → ((tokens : Tokens) → cut text tokens → ⊥) → LexFaultAt text code at
      → Unread text code at
  -- no tree is spelled by its tokens, and this is where their reading stops
  no_tree : length text ≤ program_limit → (tokens : Tokens) → cut text tokens
      → ((tree : Tree) → spells tree tokens.list → ⊥)
      → IsRefusal tokens.end (all_of tokens.list) (record { code = code; at = at })
      → Unread text code at

-- The tree is refused with this code at this spot: the first faulty node of the first phase that finds one; or, before
-- the phases, interfaces, which they don't judge yet, and, after them, what isn't served yet.
pub data Unsound (tree : Tree) (code : ℕ) (at : Spot) : Type 0 where
  with_interfaces : has_interfaces tree ≡ true → code ≡ 5 → at ≡ start → Unsound tree code at
  ill_declared : has_interfaces tree ≡ false → (f : Fault) → IsFirstFault (declared tree) f → code ≡ f.code → at ≡ f.at
      → Unsound tree code at
  ill_typed : has_interfaces tree ≡ false → (decls : Decls) → IsFine (declared tree) decls
      → (f : Fault) → IsFirstFault (typed tree) f → code ≡ f.code → at ≡ f.at
      → Unsound tree code at
  ill_owned : has_interfaces tree ≡ false → (decls : Decls) (program : Typed) → IsFine (declared tree) decls
      → IsFine (typed tree) program → (f : Fault) → IsFirstFault (owned program) f → code ≡ f.code → at ≡ f.at
      → Unsound tree code at
  ill_framed : has_interfaces tree ≡ false → (decls : Decls) (program : Typed) → IsFine (declared tree) decls
      → IsFine (typed tree) program → IsFine (owned program) program
      → (f : Fault) → IsFirstFault (framed program) f → code ≡ f.code → at ≡ f.at
      → Unsound tree code at
  ill_isolated : has_interfaces tree ≡ false → (decls : Decls) (program : Typed) → IsFine (declared tree) decls
      → IsFine (typed tree) program → IsFine (owned program) program → IsFine (framed program) tt
      → (f : Fault) → IsFirstFault (isolated program) f → code ≡ f.code → at ≡ f.at
      → Unsound tree code at
  not_served : has_interfaces tree ≡ false → (decls : Decls) (program : Typed) → IsFine (declared tree) decls
      → IsFine (typed tree) program → IsFine (owned program) program → IsFine (framed program) tt
      → IsFine (isolated program) tt → is_served program ≡ false → code ≡ 5 → at ≡ start
      → Unsound tree code at

-- the tree breaks no rule, has this typed tree, and all of it is served
pub record Serves (tree : Tree) (decls : Decls) (program : Typed) : Type 0 where
  pub plain : has_interfaces tree ≡ false
  pub declares : IsFine (declared tree) decls
  pub types : IsFine (typed tree) program
  pub owns : IsFine (owned program) program
  pub frames : IsFine (framed program) tt
  pub isolates : IsFine (isolated program) tt
  pub served : is_served program ≡ true

-- the text is refused with this code at this spot
pub data Refused (text : List ℕ) (code : ℕ) (at : Spot) : Type 0 where
  unread : Unread text code at → Refused text code at
  unsound : (tree : Tree) → Reads text tree → Unsound tree code at → Refused text code at

-- the text is read as a tree that is served, with this typed tree
pub record Accepts (text : List ℕ) (tree : Tree) (decls : Decls) (program : Typed) : Type 0 where
  pub reads : Reads text tree
  pub serves : Serves tree decls program
