-- Marks one after another.
use Rattle.std.proofs.Common.{◌≡◌, ℕ, zero, suc, ◌+◌, List, [], ◌∷◌, ◌++◌, length, Some, None, refl, ap, sym, ◌∙◌, append_assoc, append-nil, length-append, arith}
use Rattle.vale_cert.specs.declared.facts.Label.{Label}
use Rattle.vale_lower_facts.specs.Slots.{Last, label_for}
use Rattle.vale_lower_facts.specs.Marks.{Marks, labels_from}
use Rattle.vale_label_steps.specs.declared.labels.Labels.{Labels}
use Rattle.vale_label_steps.specs.Progress.{Progress, progress, with_marks}

-- the labels of marks and then of others
pub labels_in_turn : (l : Last) (registers place : ℕ) (ms ns : Marks) → labels_from l registers place (ms ++ ns) ≡ labels_from l registers place ms ++ labels_from l registers (place + length ms) ns
labels_in_turn l registers place [] ns = let q : place ≡ place + 0 = omega arith in ap (λ n. labels_from l registers n ns) q
labels_in_turn l registers place (None ∷ ms) ns =
    let q : (place + 1) + length ms ≡ place + suc (length ms) = omega arith in
    labels_in_turn l registers (place + 1) ms ns ∙ ap (λ n. labels_from l registers (place + 1) ms ++ labels_from l registers n ns) q
labels_in_turn l registers place (Some s ∷ ms) ns =
    let q : (place + 1) + length ms ≡ place + suc (length ms) = omega arith in
    ap (λ z. label_for l registers place s ∷ z) (labels_in_turn l registers (place + 1) ms ns ∙ ap (λ n. labels_from l registers (place + 1) ms ++ labels_from l registers n ns) q)

abbrev made : Last → ℕ → List Label → ℕ → Progress
made l registers labels place = record { last = l; registers = registers; labels = labels; place = place }

pub no_marks : (p : Progress) → with_marks [] p ≡ p
unfolding with_marks
no_marks p = let q : p.place + 0 ≡ p.place = omega arith in ap (λ z. made p.last p.registers z (p.place + 0)) (append-nil p.labels) ∙ ap (λ n. made p.last p.registers p.labels n) q

pub in_turn : (ms ns : Marks) (p : Progress) → with_marks ns (with_marks ms p) ≡ with_marks (ms ++ ns) p
unfolding with_marks
in_turn ms ns p =
    let q : (p.place + length ms) + length ns ≡ p.place + length (ms ++ ns) = omega (arith, length-append ms ns) in
    ap (λ z. made p.last p.registers z ((p.place + length ms) + length ns))
    (append_assoc p.labels (labels_from p.last p.registers p.place ms) (labels_from p.last p.registers (p.place + length ms) ns)
    ∙ ap (λ z. p.labels ++ z) (sym (labels_in_turn p.last p.registers p.place ms ns)))
    ∙ ap (λ n. made p.last p.registers (p.labels ++ labels_from p.last p.registers p.place (ms ++ ns)) n) q

-- ---- what they are

pub progress_is : (l : Labels) → progress l ≡ made (record { register = l.last; ty = l.result_type }) l.registers l.labels.items l.place
unfolding progress
progress_is l = refl

pub with_marks_is : (ms : Marks) (p : Progress) → with_marks ms p ≡ made p.last p.registers (p.labels ++ labels_from p.last p.registers p.place ms) (p.place + length ms)
unfolding with_marks
with_marks_is ms p = refl

pub ruleset labelled = (progress_is, with_marks_is, append-nil)
