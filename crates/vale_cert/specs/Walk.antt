-- The rules of all instructions, in order: what is known before each, which a label replaces, and what each leads to.
use Rattle.std.specs.Prelude.{ℕ, ◌+◌, List, [], ◌∷◌, length, Option, Some, None, Bool, true, false, ◌&&◌, nat_lt, if◌then◌else◌}
use Rattle.vale_code.specs.Parts.{Parts}
use Rattle.vale_code.specs.declared.func.Func.{Func}
use Rattle.vale_code.specs.declared.instr.Instr.{Instr}
use Rattle.vale_code.specs.declared.instr.Instr.TheVariants as i
use Rattle.vale_cert.specs.Known.{Known, entry, label_at, is_label, rise, may_enter, stated}
use Rattle.vale_cert.specs.Rules.{Effect, effect, Row, row}
use Rattle.vale_cert.specs.declared.facts.FuncFacts.{FuncFacts}
use Rattle.vale_cert.specs.declared.facts.Label.{Label}
use Rattle.vale_cert.specs.declared.fault.Fault.{Fault}

-- ---- where an instruction leads

-- the instruction after it is not its successor
abbrev pub goes_on : Instr → Bool
goes_on (i.Jump target) = false
goes_on (i.Ret a) = false
goes_on i.RetVoid = false
goes_on _ = true

abbrev pub target_of : Instr → Option ℕ
target_of (i.Jump target) = Some target
target_of (i.Unless a target) = Some target
target_of _ = None

-- ---- the first broken rule

-- rules, each with its number and whether it is kept, in rising order
abbrev pub Rules : Type 0
Rules = List (ℕ × Bool)

abbrev pub broken : Rules → Option ℕ
broken [] = None
broken (rule ∷ rules) = if rule.1 then broken rules else Some rule.0

abbrev pub fault_of : ℕ → Option ℕ → Option Fault
fault_of at None = None
fault_of at (Some rule) = Some (record { rule = rule; at = at })

abbrev pub or_else : Option Fault → Option Fault → Option Fault
or_else None o = o
or_else (Some fault) o = Some fault

-- ---- one function, whose first instruction has this number among those of all functions

module _ (code : Parts) (f : Func) (labels : List Label) (base : ℕ) where
  abbrev pub effect_of : Instr → Known → Effect
  effect_of instr known = effect code f.result known.depth known.regs instr

  abbrev pub row_of : Instr → Known → Row
  row_of instr known = row code f.result known.depth known.regs instr

  -- what is known after an instruction
  abbrev pub after : Instr → Known → Known
  after instr known = record { depth = (row_of instr known).depth; regs = (row_of instr known).after }

  abbrev pub enters : Option ℕ → Known → Bool
  enters None known = true
  enters (Some p) known = may_enter (label_at labels p) known

  abbrev pub has_target : Option ℕ → Bool
  has_target None = true
  has_target (Some p) = is_label (label_at labels p)

  -- the place after an instruction, where that is its successor
  abbrev pub next_of : ℕ → Instr → Option ℕ
  next_of p instr = if goes_on instr then Some (p + 1) else None

  abbrev pub is_place : Option ℕ → Bool
  is_place None = true
  is_place (Some p) = nat_lt p (length f.body)

  -- the rules of the instruction at a place; came says that the function's entry may enter the label there
  abbrev pub rules : ℕ → Bool → Instr → Known → Rules
  rules p came instr known =
      (2, (row_of instr known).kept.types)
      ∷ (3, (row_of instr known).kept.present)
      ∷ (4, (row_of instr known).kept.depths)
      ∷ (5, came && enters (target_of instr) (after instr known) && enters (next_of p instr) (after instr known))
      ∷ (6, (row_of instr known).lives)
      ∷ (7, has_target (target_of instr) && is_place (next_of p instr)) ∷ []

  abbrev pub known_after : Instr → Known → Option Known
  known_after instr known = if goes_on instr then Some (after instr known) else None

  -- an instruction that nothing is known before is at no label after one that doesn't go on
  abbrev pub if_known : ℕ → Option Known → (Known → Option Fault) → Option Fault
  if_known p None go = Some (record { rule = 7; at = base + p })
  if_known p (Some known) go = go known

  abbrev pub walk : ℕ → List Instr → Bool → Option Known → Option Fault
  walk p [] came o = None
  walk p (instr ∷ instrs) came o =
      if_known p (stated (label_at labels p) o) (λ known.
      or_else (fault_of (base + p) (broken (rules p came instr known)))
      (walk (p + 1) instrs true (known_after instr known)))

abbrev pub function_fault : Parts → ℕ → Func → FuncFacts → Option Fault
function_fault code base f facts =
    if rise facts.labels
    then walk code f facts.labels base 0 f.body (may_enter (label_at facts.labels 0) (entry f facts)) (Some (entry f facts))
    else Some (record { rule = 7; at = base })

-- ---- all functions

abbrev pub functions_fault : Parts → ℕ → List Func → List FuncFacts → Option Fault
functions_fault code base [] facts = None
functions_fault code base (f ∷ fs) [] = None
functions_fault code base (f ∷ fs) (facts ∷ more) =
    or_else (function_fault code base f facts) (functions_fault code (base + length f.body) fs more)
