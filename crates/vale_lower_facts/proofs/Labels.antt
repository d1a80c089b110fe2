-- The labels that marks give.
use Rattle.std.proofs.Common.{◌≡◌, ℕ, zero, suc, ◌+◌, ◌<◌, ◌≤◌, List, [], ◌∷◌, length, Option, Some, None, Bool, true, if◌then◌else◌, refl, ap, ◌∙◌, arith}
use Rattle.std.specs.List.{list_all}
use Rattle.std.proofs.lemmas.Bool.{and_from, lt-ltb, eq-eqb, ne_eqb}
use Rattle.vale_code.specs.declared.instr.Instr.{Instr}
use Rattle.vale_code.specs.declared.ty.Ty.{Ty as CodeTy}
use Rattle.vale_code.specs.declared.ty.Ty.TheVariants as t
use Rattle.vale_cert.specs.Known.{label_at, rise, rise_from}
use Rattle.vale_cert.specs.Shape.{label_is_lawful, fact_is_lawful}
use Rattle.vale_cert.specs.Types.{is_copy, is_type}
use Rattle.vale_cert.specs.declared.facts.Label.{Label}
use Rattle.vale_lowering.specs.Lowered.{registers_in}
use Rattle.vale_lower_facts.specs.Slots.{Stand, Last, type_at, fact_for, facts_from, label_for}
use Rattle.vale_lower_facts.specs.Marks.{Marks, labels_from}
use Rattle.vale_lower_facts.proofs.Stands.{Site, Plain, length_facts}
use Rattle.vale_lower_facts.proofs.Runs.{FitsEach, AllPlain}

module _ (l : Last) (registers : ℕ) where
  -- ---- where they stand

  none_before : (ms : Marks) (p q : ℕ) → q < p → label_at (labels_from l registers p ms) q ≡ None
  none_before [] p q lt = refl
  none_before (None ∷ ms) p q lt = none_before ms (p + 1) q (omega (arith, lt))
  none_before (Some s ∷ ms) p q lt =
      ap (λ b. if b then Some (label_for l registers p s) else label_at (labels_from l registers (p + 1) ms) q) (ne_eqb p q (omega (arith, lt)))
      ∙ none_before ms (p + 1) q (omega (arith, lt))

  -- those from a place on are all that stand there
  abbrev pub Same : List Label → List Label → ℕ → Type 0
  Same all some p = (q : ℕ) → p ≤ q → label_at all q ≡ label_at some q

  first_label : (all : List Label) (s : Stand) (ms : Marks) (p : ℕ) → Same all (labels_from l registers p (Some s ∷ ms)) p → label_at all p ≡ Some (label_for l registers p s)
  first_label all s ms p same = same p (omega arith) ∙ ap (λ b. if b then Some (label_for l registers p s) else label_at (labels_from l registers (p + 1) ms) p) (eq-eqb p p refl)

  later_labels : (all : List Label) (s : Stand) (ms : Marks) (p : ℕ) → Same all (labels_from l registers p (Some s ∷ ms)) p → Same all (labels_from l registers (p + 1) ms) (p + 1)
  later_labels all s ms p same q le =
      same q (omega (arith, le))
      ∙ ap (λ b. if b then Some (label_for l registers p s) else label_at (labels_from l registers (p + 1) ms) q) (ne_eqb p q (omega (arith, le)))

  -- ---- they rise

  pub rise_after : (ms : Marks) (p q : ℕ) → p < q → rise_from p (labels_from l registers q ms) ≡ true
  rise_after [] p q lt = refl
  rise_after (None ∷ ms) p q lt = rise_after ms p (q + 1) (omega (arith, lt))
  rise_after (Some s ∷ ms) p q lt = and_from _ _ (lt-ltb p q lt) (rise_after ms q (q + 1) (omega arith))

  pub rises : (ms : Marks) (p : ℕ) → rise (labels_from l registers p ms) ≡ true
  rises [] p = refl
  rises (None ∷ ms) p = rises ms (p + 1)
  rises (Some s ∷ ms) p = rise_after ms p (p + 1) (omega arith)

module _ (k : Site) where
  -- marks and labels fit
  pub fits_each : (cs : List Instr) (ms : Marks) (p : ℕ) → length ms ≡ length cs → Same k.last k.func.registers k.labels (labels_from k.last k.func.registers p ms) p → registers_in cs ≤ k.func.registers → FitsEach k p cs ms
  fits_each [] ms p len same room = tt
  fits_each (x ∷ cs) [] p len same room = absurd (omega (arith, len))
  fits_each (x ∷ cs) (None ∷ ms) p len same room = (
    same p (omega arith) ∙ none_before k.last k.func.registers ms (p + 1) p (omega arith),
    omega (arith, room),
    fits_each cs ms (p + 1) (omega (arith, len)) (λ q le. same q (omega (arith, le))) (omega (arith, room)),
  )
  fits_each (x ∷ cs) (Some s ∷ ms) p len same room = (
    first_label k.last k.func.registers k.labels s ms p same,
    omega (arith, room),
    fits_each cs ms (p + 1) (omega (arith, len)) (later_labels k.last k.func.registers k.labels s ms p same) (omega (arith, room)),
  )

  -- ---- they are lawful

  module _ (reaches : ℕ → Bool) where
    pub copy_lawful : (ty : CodeTy) → is_copy ty ≡ true → is_type k.code reaches ty ≡ true
    copy_lawful t.Int e = refl
    copy_lawful t.Truth e = refl
    copy_lawful t.Text e = refl
    copy_lawful t.Void e = absurd (cc)
    copy_lawful (t.Own m) e = absurd (cc)
    copy_lawful (t.Ref m) e = absurd (cc)
    copy_lawful (t.Frozen m) e = absurd (cc)
    copy_lawful (t.Iso m) e = absurd (cc)

    facts_lawful : (s : Stand) (r count : ℕ) → r + count ≡ k.func.registers → Plain k s → list_all (fact_is_lawful k.code reaches) (facts_from k.last s r count) ≡ true
    facts_lawful s r zero all p = refl
    facts_lawful s r (suc count) all p = and_from _ _ (by (type_at k.last s r) refl) (facts_lawful s (r + 1) count (omega (arith, all)) p)
      where
        by : (o : Option CodeTy) → type_at k.last s r ≡ o → fact_is_lawful k.code reaches (fact_for o) ≡ true
        by None e = refl
        by (Some ty) e = copy_lawful ty (p.each r ty (omega (arith, all)) e)

    pub labels_lawful : (ms : Marks) (p : ℕ) → p + length ms ≤ length k.func.body → AllPlain k ms → list_all (label_is_lawful k.code reaches k.func) (labels_from k.last k.func.registers p ms) ≡ true
    labels_lawful [] p le pl = refl
    labels_lawful (None ∷ ms) p le pl = labels_lawful ms (p + 1) (omega (arith, le)) pl
    labels_lawful (Some s ∷ ms) p le pl =
        and_from _ _
        (and_from _ _ (and_from _ _ (lt-ltb p (length k.func.body) (omega (arith, le))) (eq-eqb (length (facts_from k.last s 0 k.func.registers)) k.func.registers (length_facts k s 0 k.func.registers)))
        (facts_lawful s 0 k.func.registers (omega arith) pl.0))
        (labels_lawful ms (p + 1) (omega (arith, le)) pl.1)
