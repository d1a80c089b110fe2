-- The facts that certify the code of a program with owners: a label at each place that a jump names, which states what is known there.
use Rattle.std.specs.Prelude.{ℕ, ◌+◌, Bool, false, ◌==◌, List, [], ◌∷◌, length, map, Option, Some, None, if◌then◌else◌}
use Rattle.std.specs.List.{list_any}
use Rattle.vale_syntax.specs.Tree.{Param, param}
use Rattle.vale_rules_spec.specs.Declarations.{head_params}
use Rattle.vale_rules_spec.specs.Types.{type_of}
use Rattle.vale_rules_spec.specs.Types as y
use Rattle.vale_rules_spec.specs.Typed.{Function, Typed}
use Rattle.vale_model.specs.Kinds.{head_of, body_of}
use Rattle.vale_model.specs.Parts.{Parts, parts_of}
use Rattle.vale_code.specs.declared.func.Func.{Func}
use Rattle.vale_code.specs.declared.instr.Instr.{Instr}
use Rattle.vale_cert.specs.Walk.{target_of}
use Rattle.vale_cert.specs.declared.facts.FuncFacts.{FuncFacts}
use Rattle.vale_cert.specs.declared.facts.Label.{Label}
use Rattle.vale_lowering_objects.specs.Code.{lowered_function, functions_in, texts_of}
use Rattle.vale_lowering_objects.specs.Lowered.{block_after}
use Rattle.vale_lowering_objects.specs.Program.{names_in}
use Rattle.vale_object_facts.specs.Slots.{local, Slots, Stand, scope_at, with_gone, label_for}
use Rattle.vale_object_facts.specs.Stands.{Stands, comes_stands, leave_stands, block_stands}

-- the parameters have the first registers, in order
abbrev pub param_slots : ℕ → List Param → Slots → Slots
param_slots r [] s = s
param_slots r (param n x ∷ ps) s = param_slots (r + 1) ps (record { role = local n.name.0; register = r; ty = type_of x; depth = 0 } ∷ s)

abbrev pub entry_stand : Function → Stand
entry_stand f = record { depth = 0; slots = param_slots 0 (head_params (head_of f)) []; gone = [] }

-- before each instruction of a function's body
abbrev pub body_stands : Function → Stands
body_stands f =
    let h = length (names_in f) in let s = entry_stand f in
    comes_stands (block_stands (body_of f) h (h + 1) s) (block_after (body_of f) (h + 1) (scope_at s) []) (λ g. leave_stands h y.void (with_gone g s))

-- ---- labels

abbrev pub is_at : ℕ → Option ℕ → Bool
is_at p None = false
is_at p (Some q) = q == p

-- an instruction names the place
abbrev pub is_named : List Instr → ℕ → Bool
is_named code p = list_any (λ instr. is_at p (target_of instr)) code

-- at the places that some code names
abbrev pub labels_from : Parts → List Instr → ℕ → ℕ → Stands → List Label
labels_from p code registers place [] = []
labels_from p code registers place (s ∷ ms) =
    if is_named code place then label_for p registers place s ∷ labels_from p code registers (place + 1) ms else labels_from p code registers (place + 1) ms

-- ---- programs

abbrev pub facts_for : Parts → Function → Func → FuncFacts
facts_for p f func = record { live = []; labels = labels_from p func.body func.registers 0 (body_stands f) }

abbrev pub function_facts : Parts → List (List ℕ) → List Function → Function → FuncFacts
function_facts p texts fs f = facts_for p f (lowered_function p texts fs f)

abbrev pub facts_of_parts : Parts → List FuncFacts
facts_of_parts p = let fs = functions_in p in map (function_facts p (texts_of p fs) fs) fs

-- the facts with which the code of a program is certified
abbrev pub facts : Typed → List FuncFacts
facts program = facts_of_parts (parts_of program)
