-- The rules of one instruction, and what the walk makes of them.
use Rattle.std.proofs.Common.{◌≡◌, ℕ, ◌+◌, ◌<◌, List, [], ◌∷◌, length, get_or, drop, Bool, true, false, Some, None, Option, ◌&&◌, if◌then◌else◌, refl, sym, ap, ◌∙◌, subst}
use Rattle.std.proofs.lemmas.List.{drop_more}
use Rattle.std.proofs.lemmas.Bool.{and_parts, eqb-true}
use Rattle.std.specs.Prelude.{IfSome, ◌==◌}
use Rattle.std.specs.List.{list_all}
use Rattle.vale_code.specs.Parts.{Parts}
use Rattle.vale_code.specs.declared.func.Func.{Func}
use Rattle.vale_code.specs.declared.instr.Instr.{Instr}
use Rattle.vale_cert.specs.Known.{Known, label_at, stated, may_enter}
use Rattle.vale_cert.specs.Rules.{Row, row}
use Rattle.vale_cert.specs.Walk.{after, broken, rules, enters, has_target, next_of, is_place, target_of, walk, goes_on, if_known, or_else, fault_of, known_after}
use Rattle.vale_cert.specs.declared.facts.Label.{Label}
use Rattle.vale_cert.specs.declared.fault.Fault.{Fault}
use Rattle.vale_cert.specs.declared.rules.Kept.{Kept}
use Rattle.vale_verifier.specs.Walking.{states_all}

-- ---- the rules of one instruction

all_of : (kept : Kept) (came a b v l : Bool) → broken ((2, kept.types) ∷ (3, kept.present) ∷ (4, kept.depths) ∷ (5, came && (a && b)) ∷ (6, v) ∷ (7, l) ∷ []) ≡ broken ((2, kept.types) ∷ (3, kept.present) ∷ (4, kept.depths) ∷ (5, came && a && b) ∷ (6, v) ∷ (7, l) ∷ [])
all_of kept true a b v l = refl
all_of kept false a b v l = refl

module _ (code : Parts) (f : Func) (labels : List Label) (base p : ℕ) (came : Bool) (instr : Instr) (known : Known) where
  -- what is known after it
  abbrev then_known : Row → Known
  then_known r = record { depth = r.depth; regs = r.after }

  abbrev leads : Bool
  leads = has_target code f labels base (target_of instr) && is_place code f labels base (next_of code f labels base p instr)

  pub judged : (e l : Bool) (r : Row) → row code f.result known.depth known.regs instr ≡ r
      → e ≡ (enters code f labels base (target_of instr) (record { depth = r.depth; regs = r.after }) && enters code f labels base (next_of code f labels base p instr) (record { depth = r.depth; regs = r.after }))
      → l ≡ (has_target code f labels base (target_of instr) && is_place code f labels base (next_of code f labels base p instr))
      → broken ((2, r.kept.types) ∷ (3, r.kept.present) ∷ (4, r.kept.depths) ∷ (5, came && e) ∷ (6, r.lives) ∷ (7, l) ∷ []) ≡ broken (rules code f labels base p came instr known)
  judged e l r is entered led =
      subst
      (λ (x : Row). broken ((2, r.kept.types) ∷ (3, r.kept.present) ∷ (4, r.kept.depths) ∷ (5, came && e) ∷ (6, r.lives) ∷ (7, l) ∷ [])
      ≡ broken ((2, x.kept.types) ∷ (3, x.kept.present) ∷ (4, x.kept.depths) ∷ (5, came && enters code f labels base (target_of instr) (then_known x) && enters code f labels base (next_of code f labels base p instr) (then_known x)) ∷ (6, x.lives) ∷ (7, leads) ∷ []))
      (sym is)
      (rw (entered, led)
      (all_of r.kept came (enters code f labels base (target_of instr) (then_known r)) (enters code f labels base (next_of code f labels base p instr) (then_known r)) r.lives leads))

-- ---- two tests, the second of which is tried where the first holds

pub both_hold : (a b x y : Bool) → x ≡ a → y ≡ b → a ≡ true → b ≡ (x && y)
both_hold a b x y p q t = rw (p, q, t) refl

pub first_fails : (a x y : Bool) → x ≡ a → a ≡ false → a ≡ (x && y)
first_fails a x y p f = rw (p, f) refl

-- ---- the next label lies among those after

pub next_enters : (code : Parts) (f : Func) (labels left : List Label) (base p : ℕ) (instr : Instr) (known : Known) → label_at left (p + 1) ≡ label_at labels (p + 1)
    → enters code f left base (next_of code f left base p instr) known ≡ enters code f labels base (next_of code f labels base p instr) known
next_enters code f labels left base p instr known same = by (goes_on instr)
  where
    by : (b : Bool) → enters code f left base (if b then Some (p + 1) else None) known ≡ enters code f labels base (if b then Some (p + 1) else None) known
    by true = ap (λ (o : Option Label). may_enter o known) same
    by false = refl

-- ---- the walk, by one instruction

module _ (code : Parts) (f : Func) (labels : List Label) (base p : ℕ) (body : List Instr) (instr : Instr) (came : Bool) (o : Option Known) (inside : p < length body) (is : instr ≡ get_or body p instr) where
  unfolded : walk code f labels base p (drop p body) came o ≡ walk code f labels base p (instr ∷ drop (p + 1) body) came o
  unfolded = ap (λ (x : List Instr). walk code f labels base p x came o) (drop_more body p instr inside ∙ ap (λ (x : Instr). x ∷ drop (p + 1) body) (sym is))

  abbrev rest_of : Option Known → Option Fault
  rest_of s = if_known code f labels base p s (λ known. or_else (fault_of (base + p) (broken (rules code f labels base p came instr known))) (walk code f labels base (p + 1) (drop (p + 1) body) true (known_after code f labels base instr known)))

  pub nothing_known : stated (label_at labels p) o ≡ None → walk code f labels base p (drop p body) came o ≡ Some (record { rule = 7; at = base + p })
  nothing_known none = unfolded ∙ ap rest_of none

  pub breaks : (known : Known) (rule : ℕ) → stated (label_at labels p) o ≡ Some known → broken (rules code f labels base p came instr known) ≡ Some rule
      → walk code f labels base p (drop p body) came o ≡ Some (record { rule = rule; at = base + p })
  breaks known rule some broke =
      unfolded ∙ ap rest_of some
      ∙ ap (λ (x : Option ℕ). or_else (fault_of (base + p) x) (walk code f labels base (p + 1) (drop (p + 1) body) true (known_after code f labels base instr known))) broke

  pub goes_further : (known new : Known) (next : Option Known) → stated (label_at labels p) o ≡ Some known → broken (rules code f labels base p came instr known) ≡ None
      → after code f labels base instr known ≡ new → next ≡ (if goes_on instr then Some new else None)
      → walk code f labels base (p + 1) (drop (p + 1) body) true next ≡ walk code f labels base p (drop p body) came o
  goes_further known new next some fine is on =
      let same : next ≡ known_after code f labels base instr known = on ∙ ap (λ (x : Known). if goes_on instr then Some x else None) (sym is) in
      ap (walk code f labels base (p + 1) (drop (p + 1) body) true) same
      ∙ sym (unfolded ∙ ap rest_of some
      ∙ ap (λ (x : Option ℕ). or_else (fault_of (base + p) x) (walk code f labels base (p + 1) (drop (p + 1) body) true (known_after code f labels base instr known))) fine)

-- ---- labels that state something of each register

pub states_each : (registers : ℕ) (labels : List Label) (p : ℕ) → list_all (states_all registers) labels ≡ true → IfSome (label_at labels p) (λ l. length l.regs ≡ registers)
states_each registers [] p e = tt
states_each registers (l ∷ labels) p e =
    let a = and_parts (states_all registers l) (list_all (states_all registers) labels) e in
    by (l.at == p) (eqb-true (length l.regs) registers a.0) (states_each registers labels p a.1)
  where
    by : (b : Bool) → length l.regs ≡ registers → IfSome (label_at labels p) (λ l. length l.regs ≡ registers) → IfSome (if b then Some l else label_at labels p) (λ l. length l.regs ≡ registers)
    by true here more = here
    by false here more = more
