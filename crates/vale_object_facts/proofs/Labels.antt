-- The labels of a function stand exactly at the places that its instructions name, and the facts of a function whose code the walk
-- goes through break no rule.
use Rattle.std.proofs.Common.{◌≡◌, ℕ, suc, ◌+◌, ◌<◌, ◌≤◌, List, [], ◌∷◌, ◌++◌, length, Some, None, Bool, true, false, ◌||◌, if◌then◌else◌, refl, sym, ap, ◌∙◌, subst, arith, ⊎_elim, length-append, append_assoc}
use Rattle.std.specs.List.{list_any}
use Rattle.std.proofs.lemmas.Bool.{and_from, lt-ltb, cases_eq, eq-eqb, ne_eqb}
use Rattle.vale_model.specs.Parts.{Parts}
use Rattle.vale_code.specs.declared.instr.Instr.{Instr}
use Rattle.vale_cert.specs.Known.{label_at, is_label, rise, rise_from}
use Rattle.vale_cert.specs.Walk.{target_of}
use Rattle.vale_cert.specs.declared.facts.Label.{Label}
use Rattle.vale_lowering_objects.specs.Code.{registers_in}
use Rattle.vale_object_facts.specs.Facts.{is_at, is_named, labels_from}
use Rattle.vale_object_facts.specs.Slots.{Stand, label_for}
use Rattle.vale_object_facts.specs.Stands.{Stands}
use Rattle.vale_object_facts.proofs.Covering.{Site}
use Rattle.vale_object_facts.proofs.Runs.{FitsEach}

module _ (p : Parts) (code : List Instr) (registers : ℕ) where
  -- those from a place on
  abbrev pub from_place : ℕ → Stands → List Label
  from_place place ms = labels_from p code registers place ms

  -- of the place, and then of the others
  abbrev pub from_named : Bool → ℕ → Stand → List Label → List Label
  from_named b place s labels = if b then label_for p registers place s ∷ labels else labels

  none_with : (b : Bool) (place q : ℕ) (s : Stand) (labels : List Label) → q < place → label_at labels q ≡ None → label_at (from_named b place s labels) q ≡ None
  none_with true place q s labels lt e = ap (λ b. if b then Some (label_for p registers place s) else label_at labels q) (ne_eqb place q (omega (arith, lt))) ∙ e
  none_with false place q s labels lt e = e

  pub none_before : (ms : Stands) (place q : ℕ) → q < place → label_at (from_place place ms) q ≡ None
  none_before [] place q lt = refl
  none_before (s ∷ ms) place q lt = none_with (is_named code place) place q s (from_place (place + 1) ms) lt (none_before ms (place + 1) q (omega (arith, lt)))

  rise_with : (b : Bool) (place q : ℕ) (s : Stand) (labels : List Label) → q < place → rise_from q labels ≡ true → rise_from place labels ≡ true → rise_from q (from_named b place s labels) ≡ true
  rise_with true place q s labels lt e f = and_from _ _ (lt-ltb q place lt) f
  rise_with false place q s labels lt e f = e

  pub rise_after : (ms : Stands) (place q : ℕ) → q < place → rise_from q (from_place place ms) ≡ true
  rise_after [] place q lt = refl
  rise_after (s ∷ ms) place q lt = rise_with (is_named code place) place q s (from_place (place + 1) ms) lt (rise_after ms (place + 1) q (omega (arith, lt))) (rise_after ms (place + 1) place (omega arith))

  rises_with : (b : Bool) (place : ℕ) (s : Stand) (labels : List Label) → rise labels ≡ true → rise_from place labels ≡ true → rise (from_named b place s labels) ≡ true
  rises_with true place s labels e f = f
  rises_with false place s labels e f = e

  pub rises : (ms : Stands) (place : ℕ) → rise (from_place place ms) ≡ true
  rises [] place = refl
  rises (s ∷ ms) place = rises_with (is_named code place) place s (from_place (place + 1) ms) (rises ms (place + 1)) (rise_after ms (place + 1) place (omega arith))

  -- those from a place on are all that stand there
  abbrev pub Same : List Label → ℕ → Stands → Type 0
  Same all place ms = (q : ℕ) → place ≤ q → label_at all q ≡ label_at (from_place place ms) q

  said_with : (b : Bool) (place : ℕ) (s : Stand) (ms : Stands) (l : Label) → label_at (from_named b place s (from_place (place + 1) ms)) place ≡ Some l → l ≡ label_for p registers place s
  said_with true place s ms l e =
      let here : label_at (label_for p registers place s ∷ from_place (place + 1) ms) place ≡ Some (label_for p registers place s) = ap (λ b. if b then Some (label_for p registers place s) else label_at (from_place (place + 1) ms) place) (eq-eqb place place refl) in
      cc
  said_with false place s ms l e = let none : label_at (from_place (place + 1) ms) place ≡ None = none_before ms (place + 1) place (omega arith) in absurd (cc)

  there_with : (b : Bool) (place q : ℕ) (s : Stand) (ms : Stands) → place + 1 ≤ q → label_at (from_named b place s (from_place (place + 1) ms)) q ≡ label_at (from_place (place + 1) ms) q
  there_with true place q s ms le = ap (λ b. if b then Some (label_for p registers place s) else label_at (from_place (place + 1) ms) q) (ne_eqb place q (omega (arith, le)))
  there_with false place q s ms le = refl

  pub same_later : (all : List Label) (place : ℕ) (s : Stand) (ms : Stands) → Same all place (s ∷ ms) → Same all (place + 1) ms
  same_later all place s ms same q le = same q (omega (arith, le)) ∙ there_with (is_named code place) place q s ms le

  pub same_says : (all : List Label) (place : ℕ) (s : Stand) (ms : Stands) → Same all place (s ∷ ms) → (l : Label) → label_at all place ≡ Some l → l ≡ label_for p registers place s
  same_says all place s ms same l e = said_with (is_named code place) place s ms l (sym (same place (omega arith)) ∙ e)

  here_with : (b : Bool) (place : ℕ) (s : Stand) (ms : Stands) → b ≡ true → is_label (label_at (from_named b place s (from_place (place + 1) ms)) place) ≡ true
  here_with true place s ms e = ap (λ b. is_label (if b then Some (label_for p registers place s) else label_at (from_place (place + 1) ms) place)) (eq-eqb place place refl)
  here_with false place s ms e = absurd (cc)

  -- a place that is named has a label
  pub named_here : (ms : Stands) (place q : ℕ) → is_named code q ≡ true → place ≤ q → q < place + length ms → is_label (label_at (from_place place ms) q) ≡ true
  named_here [] place q e le lt = absurd (omega (arith, le, lt))
  named_here (s ∷ ms) place q e le lt =
      ⊎_elim
      (λ same. subst (λ z. is_label (label_at (from_place place (s ∷ ms)) z) ≡ true) same (here_with (is_named code place) place s ms (ap (is_named code) same ∙ e)))
      (λ ne.
      subst (λ o. is_label o ≡ true) (sym (there_with (is_named code place) place q s ms (omega (arith, le, ne))))
      (named_here ms (place + 1) q e (omega (arith, le, ne)) (omega (arith, lt))))
      (cases_eq place q)

any_back : (test : Instr → Bool) (a b : List Instr) → list_any test b ≡ true → list_any test (a ++ b) ≡ true
any_back test [] b e = e
any_back test (x ∷ a) b e = or_right (test x) (list_any test (a ++ b)) (any_back test a b e)
  where
    or_right : (c d : Bool) → d ≡ true → (c || d) ≡ true
    or_right true d e = refl
    or_right false d e = e

any_first : (test : Instr → Bool) (x : Instr) (b : List Instr) → test x ≡ true → list_any test (x ∷ b) ≡ true
any_first test x b e = ap (λ c. c || list_any test b) e

pub names_it : (before rest : List Instr) (instr : Instr) (q : ℕ) → target_of instr ≡ Some q → is_named (before ++ (instr ∷ rest)) q ≡ true
names_it before rest instr q e =
    any_back (λ instr. is_at q (target_of instr)) before (instr ∷ rest) (any_first (λ instr. is_at q (target_of instr)) instr rest (ap (is_at q) e ∙ eq-eqb q q refl))

module _ (k : Site) (all : Stands) (labels : k.labels ≡ labels_from k.parts k.func.body k.func.registers 0 all) (along : length all ≡ length k.func.body) where
  has_label : (q : ℕ) → is_named k.func.body q ≡ true → q < length k.func.body → is_label (label_at k.labels q) ≡ true
  has_label q e lt = subst (λ l. is_label (label_at l q) ≡ true) (sym labels) (named_here k.parts k.func.body k.func.registers all 0 q e (omega arith) (omega (arith, along, lt)))

  -- each instruction stands with its stand
  pub fits_each : (before cs : List Instr) (ms : Stands) → k.func.body ≡ before ++ cs → length ms ≡ length cs → Same k.parts k.func.body k.func.registers k.labels (length before) ms → registers_in cs ≤ k.func.registers → FitsEach k (length before) cs ms
  fits_each before [] ms is len same room = tt
  fits_each before (c ∷ cs) [] is len same room = absurd (omega (arith, len))
  fits_each before (c ∷ cs) (m ∷ ms) is len same room =
      let size : length k.func.body ≡ length before + suc (length cs) = ap length is ∙ length-append before (c ∷ cs) in
      let next : length (before ++ (c ∷ [])) ≡ length before + 1 = length-append before (c ∷ []) in (
        record {
          inside = omega (arith, size);
          room = omega (arith, room);
          label = same_says k.parts k.func.body k.func.registers k.labels (length before) m ms same;
          target = λ q e lt. has_label q (subst (λ b. is_named b q ≡ true) (sym is) (names_it before cs c q e)) lt;
        },
        subst (λ z. FitsEach k z cs ms) next
            (fits_each (before ++ (c ∷ [])) cs ms (is ∙ sym (append_assoc before (c ∷ []) cs)) (omega (arith, len))
            (subst (λ z. Same k.parts k.func.body k.func.registers k.labels z ms) (sym next) (same_later k.parts k.func.body k.func.registers k.labels (length before) m ms same))
            (omega (arith, room))),
      )
