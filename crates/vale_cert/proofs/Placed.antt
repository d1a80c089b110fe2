-- What is known at places of a function, one after another.
use Rattle.std.proofs.Common.{◌≡◌, ℕ, zero, suc, ◌+◌, ◌<◌, List, [], ◌∷◌, ◌++◌, length, Option, Some, refl, sym, ap, ◌∙◌, subst, arith, length-append}
use Rattle.std.specs.Prelude.{slice_get}
use Rattle.vale_code.specs.Parts.{Parts}
use Rattle.vale_code.specs.declared.func.Func.{Func}
use Rattle.vale_code.specs.declared.instr.Instr.{Instr}
use Rattle.vale_cert.specs.Known.{Known, entry, label_at, stated}
use Rattle.vale_cert.specs.Places.{known_beyond, known_nth, known_at, known_of, known_in}
use Rattle.vale_cert.specs.Walk.{known_after}
use Rattle.vale_cert.specs.declared.facts.FuncFacts.{FuncFacts}
use Rattle.vale_cert.specs.declared.facts.Label.{Label}

module _ (code : Parts) (f : Func) (labels : List Label) where
  nth_next : (p : ℕ) (before : List Instr) (instr x : Instr) (after : List Instr) (o : Option Known) (k : Known) → known_nth code f labels p (before ++ instr ∷ x ∷ after) o (length before) ≡ Some k
      → known_nth code f labels p (before ++ instr ∷ x ∷ after) o (suc (length before)) ≡ stated (label_at labels (p + suc (length before))) (known_after code f labels 0 instr k)
  nth_next p [] instr x after o k e = ap (λ s. stated (label_at labels (p + 1)) (known_beyond code f labels instr s)) e
  nth_next p (y ∷ before) instr x after o k e =
      nth_next (p + 1) before instr x after (known_beyond code f labels y (stated (label_at labels p) o)) k e
      ∙ ap (λ q. stated (label_at labels q) (known_after code f labels 0 instr k)) (let q : p + 1 + suc (length before) ≡ p + suc (suc (length before)) = omega arith in q)

  nth_label : (p n : ℕ) (instrs : List Instr) (o : Option Known) (l : Label) → n < length instrs → label_at labels (p + n) ≡ Some l → known_nth code f labels p instrs o n ≡ Some (record { depth = l.depth; regs = l.regs })
  nth_label p n [] o l lt e = absurd (omega arith)
  nth_label p zero (instr ∷ instrs) o l lt e =
      let q : p + 0 ≡ p = omega arith in ap (λ x. stated x o) (subst (λ p. label_at labels p ≡ Some l) q e)
  nth_label p (suc n) (instr ∷ instrs) o l lt e =
      nth_label (p + 1) n instrs (known_beyond code f labels instr (stated (label_at labels p) o)) l (omega arith)
      (let q : p + suc n ≡ p + 1 + n = omega arith in subst (λ p. label_at labels p ≡ Some l) q e)

module _ (code : Parts) (f : Func) (facts : FuncFacts) where
  -- at the place after an instruction
  pub known_next : (place : ℕ) (before : List Instr) (instr : Instr) (after : List Instr) (k : Known) → f.body ≡ before ++ instr ∷ after → length before ≡ place → place + 1 < length f.body → known_at code f facts place ≡ Some k
      → known_at code f facts (place + 1) ≡ stated (label_at facts.labels (place + 1)) (known_after code f facts.labels 0 instr k)
  known_next place before instr [] k split at inside e =
      let long : length f.body ≡ length (before ++ instr ∷ []) = ap length split in
      let x = length-append before (instr ∷ []) in absurd (omega (arith, long, x, at, inside))
  known_next place before instr (x ∷ after) k split at inside e =
      subst (λ body. known_nth code f facts.labels 0 body (Some (entry f facts)) (place + 1) ≡ stated (label_at facts.labels (place + 1)) (known_after code f facts.labels 0 instr k)) (sym split)
      (subst (λ n. known_nth code f facts.labels 0 (before ++ instr ∷ x ∷ after) (Some (entry f facts)) n ≡ stated (label_at facts.labels n) (known_after code f facts.labels 0 instr k)) (let q : suc (length before) ≡ place + 1 = omega (arith, at) in q)
      (same_label (suc (length before)) _
      (nth_next code f facts.labels 0 before instr x after (Some (entry f facts)) k
      (subst (λ n. known_nth code f facts.labels 0 (before ++ instr ∷ x ∷ after) (Some (entry f facts)) n ≡ Some k) (sym at)
      (subst (λ body. known_nth code f facts.labels 0 body (Some (entry f facts)) place ≡ Some k) split e)))))
    where
      same_label : (n : ℕ) (s : Option Known) → s ≡ stated (label_at facts.labels (0 + n)) (known_after code f facts.labels 0 instr k) → s ≡ stated (label_at facts.labels n) (known_after code f facts.labels 0 instr k)
      same_label n s e = e ∙ ap (λ q. stated (label_at facts.labels q) (known_after code f facts.labels 0 instr k)) (let q : 0 + n ≡ n = omega arith in q)

  -- at a label
  pub known_labelled : (place : ℕ) (l : Label) → place < length f.body → label_at facts.labels place ≡ Some l → known_at code f facts place ≡ Some (record { depth = l.depth; regs = l.regs })
  known_labelled place l lt e = nth_label code f facts.labels 0 place f.body (Some (entry f facts)) l lt (let q : place ≡ 0 + place = omega arith in subst (λ p. label_at facts.labels p ≡ Some l) q e)

  -- at the begin
  pub known_first : 0 < length f.body → known_at code f facts 0 ≡ stated (label_at facts.labels 0) (Some (entry f facts))
  known_first some = at f.body some
    where
      at : (body : List Instr) → 0 < length body → known_nth code f facts.labels 0 body (Some (entry f facts)) 0 ≡ stated (label_at facts.labels 0) (Some (entry f facts))
      at [] lt = absurd (omega arith)
      at (x ∷ body) lt = refl

pub known_there : (code : Parts) (facts : List FuncFacts) (function place : ℕ) (f : Func) (of : FuncFacts) → slice_get code.funcs function ≡ Some f → slice_get facts function ≡ Some of → known_in code facts function place ≡ known_at code f of place
known_there code facts function place f of e g = ap (λ o. known_of code o (slice_get facts function) place) e ∙ ap (λ o. known_of code (Some f) o place) g
