-- What is known of registers before an instruction, and what labels ask.
use Rattle.std.specs.Prelude.{ℕ, ◌+◌, ◌-◌, List, [], ◌∷◌, ◌++◌, length, replicate, Option, Some, None, Bool, true, false, not, ◌&&◌, ◌||◌, ◌==◌, nat_lt, if◌then◌else◌, slice_get}
use Rattle.std.specs.List.{list_any}
use Rattle.vale_code.specs.Kinds.{same_type}
use Rattle.vale_code.specs.declared.func.Func.{Func}
use Rattle.vale_code.specs.declared.ty.Ty.{Ty}
use Rattle.vale_cert.specs.Types.{◌⇒◌, is_owned}
use Rattle.vale_cert.specs.declared.facts.FuncFacts.{FuncFacts}
use Rattle.vale_cert.specs.declared.facts.Label.{Label}
use Rattle.vale_cert.specs.declared.facts.RegFact.{RegFact}
use Rattle.vale_cert.specs.declared.facts.RegFact.TheVariants.{Empty, Held}

-- the depth, and each register
pub record Known : Type 0 where
  pub depth : ℕ
  pub regs : List RegFact

abbrev pub or_empty : Option RegFact → RegFact
or_empty None = Empty
or_empty (Some fact) = fact

-- what is known of a register
abbrev pub fact_of : List RegFact → ℕ → RegFact
fact_of regs r = or_empty (slice_get regs r)

-- ---- tests of a register

abbrev pub is_there : RegFact → Bool
is_there Empty = false
is_there (Held ty depth live) = true

-- an empty register has no other type
abbrev pub has : Ty → RegFact → Bool
has ty Empty = true
has ty (Held u depth live) = same_type u ty

-- it holds no owner or isolate, so that it may be written
abbrev pub is_free : RegFact → Bool
is_free Empty = true
is_free (Held ty depth live) = not (is_owned ty)

-- ---- a function's entry

abbrev pub is_in : ℕ → List ℕ → Bool
is_in n ns = list_any (λ m. m == n) ns

-- the parameters from the n-th on
abbrev pub params_from : ℕ → List ℕ → List Ty → List RegFact
params_from n live [] = []
params_from n live (ty ∷ tys) = Held ty 0 (is_in n live) ∷ params_from (n + 1) live tys

-- the first registers hold the parameters, and the others are empty
abbrev pub entry : Func → FuncFacts → Known
entry f facts = record { depth = 0; regs = params_from 0 facts.live f.params ++ replicate (f.registers - length f.params) Empty }

-- ---- labels

abbrev pub label_at : List Label → ℕ → Option Label
label_at [] p = None
label_at (label ∷ labels) p = if label.at == p then Some label else label_at labels p

abbrev pub is_label : Option Label → Bool
is_label None = false
is_label (Some label) = true

-- each place is greater than the one before it
abbrev pub rise_from : ℕ → List Label → Bool
rise_from p [] = true
rise_from p (label ∷ labels) = nat_lt p label.at && rise_from label.at labels

abbrev pub rise : List Label → Bool
rise [] = true
rise (label ∷ labels) = rise_from label.at labels

-- what is stated of a register holds: its type and its depth, and that it is known to be alive. Where nothing is stated it
-- may hold anything but an owner or an isolate.
abbrev pub agrees : RegFact → RegFact → Bool
agrees Empty fact = is_free fact
agrees (Held ty depth live) Empty = false
agrees (Held ty depth live) (Held u d l) = same_type ty u && (depth == d) && (live ⇒ (l || is_owned u))

abbrev pub agree : List RegFact → List RegFact → Bool
agree [] [] = true
agree [] (fact ∷ facts) = false
agree (stated ∷ more) [] = false
agree (stated ∷ more) (fact ∷ facts) = agrees stated fact && agree more facts

abbrev pub may_enter : Option Label → Known → Bool
may_enter None known = true
may_enter (Some label) known = (label.depth == known.depth) && agree label.regs known.regs

-- a label replaces what is known
abbrev pub stated : Option Label → Option Known → Option Known
stated None o = o
stated (Some label) o = Some (record { depth = label.depth; regs = label.regs })
