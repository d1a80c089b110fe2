-- The facts of registers, put in one after another, are those of a label.
use Rattle.std.proofs.Common.{◌≡◌, ℕ, zero, suc, ◌+◌, ◌≤◌, List, [], ◌∷◌, ◌++◌, length, Option, Some, None, refl, ap, sym, ◌∙◌, arith}
use Rattle.std.specs.Prelude.{Bool, true, false, ◌&&◌, ◌==◌, if◌then◌else◌, slice_set}
use Rattle.std.proofs.lemmas.Bool.{eq-eqb, ne_eqb}
use Rattle.vale_rules_spec.specs.Typed as t
use Rattle.vale_code.specs.declared.ty.Ty.{Ty as CodeTy}
use Rattle.vale_cert.specs.declared.facts.RegFact.{RegFact}
use Rattle.vale_cert.specs.declared.facts.RegFact.TheVariants.{Empty, Held}
use Rattle.vale_lowering.specs.Scopes.{code_type}
use Rattle.vale_lower_facts.specs.Slots as s
use Rattle.vale_lower_facts.specs.Slots.{Stand, Last, fact_for, or_last, slot_at, type_at, facts_from}
use Rattle.vale_label_steps.specs.declared.slots.Local.{Local}
use Rattle.vale_label_steps.specs.Filling.{nothing_known, last_known, locals_known, args_known, slots_known}
use Rattle.vale_label_steps.specs.Standing.{slot_of, framed, waited}

pub set_past : (xs : List RegFact) (n : ℕ) (x : RegFact) → length xs ≤ n → slice_set xs n x ≡ xs
set_past [] n x h = refl
set_past (y ∷ ys) zero x h = absurd (omega (arith, h))
set_past (y ∷ ys) (suc n) x h = ap (λ (zs : List RegFact). y ∷ zs) (set_past ys n x (omega (arith, h)))

pub framed_known : (ls : List Local) (outer : s.Slots) (facts : List RegFact) → slots_known (framed ls outer) facts ≡ locals_known ls (slots_known outer facts)
framed_known [] outer facts = refl
framed_known (l ∷ ls) outer facts = framed_known ls (slot_of l ∷ outer) facts

pub waited_known : (es : List t.Expr) (h : ℕ) (outer : s.Slots) (facts : List RegFact) → slots_known (waited es h outer) facts ≡ args_known es h (slots_known outer facts)
waited_known [] h outer facts = refl
waited_known (e ∷ es) h outer facts = waited_known es (h + 1) (s.waits h (t.type e) ∷ outer) facts

pub ruleset slots = (framed_known, waited_known)

-- ---- by the types of registers

abbrev Types : Type 0
Types = ℕ → Option CodeTy

abbrev facts_by : Types → ℕ → ℕ → List RegFact
facts_by f r zero = []
facts_by f r (suc count) = fact_for (f r) ∷ facts_by f (r + 1) count

abbrev set_type : ℕ → CodeTy → Types → Types
set_type at ty f r = if at == r then Some ty else f r

same_from : (f g : Types) (r count : ℕ) → ((q : ℕ) → r ≤ q → f q ≡ g q) → facts_by f r count ≡ facts_by g r count
same_from f g r zero same = refl
same_from f g r (suc count) same =
    ap (λ o. fact_for o ∷ facts_by f (r + 1) count) (same r (omega arith))
    ∙ ap (λ z. fact_for (g r) ∷ z) (same_from f g (r + 1) count (λ q le. same q (omega (arith, le))))

set_fact : (f : Types) (ty : CodeTy) (r count k at : ℕ) → at ≡ r + k → slice_set (facts_by f r count) k (Held ty 0 false) ≡ facts_by (set_type at ty f) r count
set_fact f ty r zero k at e = refl
set_fact f ty r (suc count) zero at e =
    ap (λ b. fact_for (if b then Some ty else f r) ∷ facts_by f (r + 1) count) (sym (eq-eqb at r (omega (arith, e))))
    ∙ ap (λ z. fact_for (set_type at ty f r) ∷ z) (same_from f (set_type at ty f) (r + 1) count (λ q le. sym (ap (λ b. if b then Some ty else f q) (ne_eqb at q (omega (arith, e, le))))))
set_fact f ty r (suc count) (suc k) at e =
    ap (λ z. fact_for (f r) ∷ z) (set_fact f ty (r + 1) count k at (omega (arith, e)))
    ∙ ap (λ b. fact_for (if b then Some ty else f r) ∷ facts_by (set_type at ty f) (r + 1) count) (sym (ne_eqb at r (omega (arith, e))))

none_known : (registers r : ℕ) → nothing_known registers ≡ facts_by (λ q. None) r registers
none_known zero r = refl
none_known (suc registers) r = ap (λ z. Empty ∷ z) (none_known registers (r + 1))

-- what the slots say, or else another
abbrev known_or : Types → s.Slots → Types
known_or f [] r = f r
known_or f (x ∷ xs) r = if s.slot_register x == r then Some (code_type (s.slot_type x)) else known_or f xs r

slots_by : (f : Types) (registers : ℕ) (xs : s.Slots) → slots_known xs (facts_by f 0 registers) ≡ facts_by (known_or f xs) 0 registers
slots_by f registers [] = refl
slots_by f registers (x ∷ xs) =
    ap (λ z. slice_set z (s.slot_register x) (Held (code_type (s.slot_type x)) 0 false)) (slots_by f registers xs)
    ∙ set_fact (known_or f xs) (code_type (s.slot_type x)) 0 registers (s.slot_register x) (s.slot_register x) (omega arith)

abbrev last_only : Last → Bool → Types
last_only l over r = if over && (l.register == r) then l.ty else None

last_by : (l : Last) (over : Bool) (registers : ℕ) → last_known over l.register l.ty (facts_by (λ q. None) 0 registers) ≡ facts_by (last_only l over) 0 registers
last_by l false registers = refl
last_by l true registers = by l.ty refl
  where
    none : (b : Bool) (o : Option CodeTy) → o ≡ None → None ≡ (if b then o else None)
    none true o e = sym e
    none false o e = refl

    by : (o : Option CodeTy) → l.ty ≡ o → last_known true l.register o (facts_by (λ q. None) 0 registers) ≡ facts_by (λ r. if l.register == r then l.ty else None) 0 registers
    by None e = same_from (λ q. None) (λ r. if l.register == r then l.ty else None) 0 registers (λ q le. none (l.register == q) l.ty e)
    by (Some ty) e =
        set_fact (λ q. None) ty 0 registers l.register l.register (omega arith)
        ∙ same_from (set_type l.register ty (λ q. None)) (λ r. if l.register == r then l.ty else None) 0 registers (λ q le. ap (λ o. if l.register == q then o else None) (sym e))

last_or_known : (l : Last) (over : Bool) (xs : s.Slots) (r : ℕ) → known_or (last_only l over) xs r ≡ or_last l over r (slot_at xs r)
last_or_known l over [] r = refl
last_or_known l over (x ∷ xs) r = by (s.slot_register x == r) (last_or_known l over xs r)
  where
    by : (b : Bool) → known_or (last_only l over) xs r ≡ or_last l over r (slot_at xs r) → (if b then Some (code_type (s.slot_type x)) else known_or (last_only l over) xs r) ≡ or_last l over r (if b then Some (code_type (s.slot_type x)) else slot_at xs r)
    by true e = refl
    by false e = e

are_from : (l : Last) (z : Stand) (r count : ℕ) → facts_by (type_at l z) r count ≡ facts_from l z r count
are_from l z r zero = refl
are_from l z r (suc count) = ap (λ fs. fact_for (type_at l z r) ∷ fs) (are_from l z (r + 1) count)

-- all of them
pub all_known : (l : Last) (z : Stand) (registers : ℕ) → slots_known z.slots (last_known z.over l.register l.ty (nothing_known registers)) ≡ facts_from l z 0 registers
all_known l z registers =
    ap (λ fs. slots_known z.slots (last_known z.over l.register l.ty fs)) (none_known registers 0)
    ∙ ap (λ fs. slots_known z.slots fs) (last_by l z.over registers)
    ∙ slots_by (last_only l z.over) registers z.slots
    ∙ same_from (known_or (last_only l z.over) z.slots) (type_at l z) 0 registers (λ q le. last_or_known l z.over z.slots q)
    ∙ are_from l z 0 registers

pub nothing_more : (registers : ℕ) → nothing_known (registers + 1) ≡ nothing_known registers ++ Empty ∷ []
nothing_more zero = refl
nothing_more (suc registers) = let q : suc registers + 1 ≡ suc (registers + 1) = omega arith in ap nothing_known q ∙ ap (λ z. Empty ∷ z) (nothing_more registers)
