-- What is known of registers, one more at a time.
use Rattle.std.proofs.Common.{◌≡◌, ℕ, zero, suc, ◌+◌, ◌-◌, ◌<◌, ◌≤◌, List, [], ◌∷◌, ◌++◌, length, get_or, take, drop, replicate, false, refl, sym, ap, ◌∙◌, arith, append_assoc}
use Rattle.std.proofs.Math.ListN.{set}
use Rattle.std.proofs.lemmas.List.{take_more, drop_more, set_at, length-take-le}
use Rattle.vale_code.specs.declared.ty.Ty.{Ty}
use Rattle.vale_cert.specs.Known.{agree, is_in, params_from}
use Rattle.vale_cert.specs.declared.facts.RegFact.{RegFact}
use Rattle.vale_cert.specs.declared.facts.RegFact.TheVariants.{Empty, Held}

-- fewer registers than are stated
pub too_few_facts : (xs ys : List RegFact) (i : ℕ) → i < length xs → length ys < 1 → agree (drop i xs) ys ≡ false
too_few_facts xs (y ∷ ys) i lt few = absurd (omega arith)
too_few_facts [] [] i lt few = absurd (omega arith)
too_few_facts (x ∷ xs) [] zero lt few = refl
too_few_facts (x ∷ xs) [] (suc i) lt few = too_few_facts xs [] i (omega arith) few

-- ---- all are empty

at_its_end : (i : ℕ) (rest : List RegFact) → replicate i Empty ++ Empty ∷ rest ≡ replicate (suc i) Empty ++ rest
at_its_end zero rest = refl
at_its_end (suc i) rest = ap (λ (x : List RegFact). Empty ∷ x) (at_its_end i rest)

length_empty : (i : ℕ) → length (replicate {A = RegFact} i Empty) ≡ i
length_empty zero = refl
length_empty (suc i) = ap suc (length_empty i)

pub one_empty : (regs : List RegFact) (i : ℕ) → i < length regs → set (replicate i Empty ++ drop i regs) i Empty ≡ replicate (i + 1) Empty ++ drop (i + 1) regs
one_empty regs i lt =
    ap (λ (x : List RegFact). set (replicate i Empty ++ x) i Empty) (drop_more regs i Empty lt)
    ∙ set_at (replicate i Empty) (get_or regs i Empty) (drop (i + 1) regs) Empty i (length_empty i)
    ∙ at_its_end i (drop (i + 1) regs)
    ∙ ap (λ (x : ℕ). replicate x Empty ++ drop (i + 1) regs) (let e : suc i ≡ i + 1 = omega arith in e)

-- ---- the first hold parameters

length_params : (n : ℕ) (live : List ℕ) (tys : List Ty) → length (params_from n live tys) ≡ length tys
length_params n live [] = refl
length_params n live (ty ∷ tys) = ap suc (length_params (n + 1) live tys)

one_param : (n : ℕ) (live : List ℕ) (tys : List Ty) (ty : Ty) → params_from n live (tys ++ ty ∷ []) ≡ params_from n live tys ++ Held ty 0 (is_in (n + length tys) live) ∷ []
one_param n live [] ty = let e : n ≡ n + 0 = omega arith in ap (λ (m : ℕ). Held ty 0 (is_in m live) ∷ []) e
one_param n live (t ∷ tys) ty =
    let e : n + 1 + length tys ≡ n + length (t ∷ tys) = omega arith in
    ap (λ (r : List RegFact). Held t 0 (is_in n live) ∷ r)
    (one_param (n + 1) live tys ty ∙ ap (λ (m : ℕ). params_from (n + 1) live tys ++ Held ty 0 (is_in m live) ∷ []) e)

pub enters_one : (room : ℕ) (live : List ℕ) (params : List Ty) (i : ℕ) (ty : Ty) → i < length params → length params ≤ room → ty ≡ get_or params i ty
    → set (params_from 0 live (take i params) ++ replicate (room - i) Empty) i (Held ty 0 (is_in i live)) ≡ params_from 0 live (take (i + 1) params) ++ replicate (room - (i + 1)) Empty
enters_one room live params i ty lt le is =
    let front = params_from 0 live (take i params) in
    let rest = replicate {A = RegFact} (room - (i + 1)) Empty in
    let one : RegFact = Held ty 0 (is_in i live) in
    let more : room - i ≡ suc (room - (i + 1)) = omega arith in
    let short : length (take i params) ≡ i = length-take-le i params (omega arith) in
    let whole : length front ≡ i = length_params 0 live (take i params) ∙ short in
    let place : 0 + length (take i params) ≡ i = omega (arith, short) in
    ap (λ (k : ℕ). set (front ++ replicate k Empty) i one) more
    ∙ set_at front Empty rest one i whole
    ∙ sym (append_assoc front (one ∷ []) rest)
    ∙ ap (λ (x : List RegFact). x ++ rest)
    (sym
    (ap (params_from 0 live) (take_more params i ty lt ∙ ap (λ (t : Ty). take i params ++ t ∷ []) (sym is))
    ∙ one_param 0 live (take i params) ty
    ∙ ap (λ (m : ℕ). front ++ Held ty 0 (is_in m live) ∷ []) place))
