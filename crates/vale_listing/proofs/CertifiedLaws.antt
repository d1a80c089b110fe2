-- The labels of certified code rise.
use Rattle.std.proofs.Common.{◌≡◌, ℕ, zero, suc, ◌+◌, ◌<◌, true, List, [], ◌∷◌, length, Option, Some, None, refl, arith, inl, inr}
use Rattle.std.proofs.lemmas.Bool.{and_parts, cases_Bool}
use Rattle.std.specs.List.{slice_get}
use Rattle.vale_cert.specs.Certificate.{Certified, rule_one}
use Rattle.vale_cert.specs.Known.{rise}
use Rattle.vale_cert.specs.Shape.{shape_fault}
use Rattle.vale_cert.specs.Walk.{or_else, function_fault, functions_fault}
use Rattle.vale_cert.specs.declared.facts.FuncFacts.{FuncFacts}
use Rattle.vale_cert.specs.declared.fault.Fault.{Fault}
use Rattle.vale_code.specs.Parts.{Parts}
use Rattle.vale_code.specs.declared.func.Func.{Func}
use Rattle.vale_listing.specs.Labels.{each_rises}
use Rattle.vale_listing.specs.Listing.{labels_of}

neither : (a b : Option Fault) → or_else a b ≡ None → (a ≡ None) × (b ≡ None)
neither None b h = (refl, h)
neither (Some x) b h = absurd cc

function_rises : (code : Parts) (base : ℕ) (f : Func) (known : FuncFacts) → function_fault code base f known ≡ None → rise known.labels ≡ true
function_rises code base f known h =
    elim (cases_Bool (rise known.labels)) [
      | inl t ↦ t
      | inr t ↦ absurd (let k = rw t at h in cc)
    ]

functions_rise : (code : Parts) (base : ℕ) (fs : List Func) (facts : List FuncFacts) → functions_fault code base fs facts ≡ None → each_rises fs facts ≡ true
functions_rise code base [] facts h = refl
functions_rise code base (f ∷ fs) [] h = refl
functions_rise code base (f ∷ fs) (known ∷ facts) h =
    let a = neither (function_fault code base f known) (functions_fault code (base + length f.body) fs facts) h in
    rw (function_rises code base f known a.0, functions_rise code (base + length f.body) fs facts a.1) refl

pub certified_rises : (code : Parts) (facts : List FuncFacts) → Certified code facts → each_rises code.funcs facts ≡ true
certified_rises code facts h =
    let a = neither (rule_one (shape_fault code facts)) (functions_fault code 0 code.funcs facts) h in
    functions_rise code 0 code.funcs facts a.1

-- the labels of a function
pub labels_rise : (fs : List Func) (facts : List FuncFacts) (n : ℕ) → each_rises fs facts ≡ true → n < length fs → rise (labels_of (slice_get facts n)) ≡ true
labels_rise [] facts n h lt = absurd (omega arith)
labels_rise (f ∷ fs) [] n h lt = refl
labels_rise (f ∷ fs) (known ∷ facts) zero h lt = (and_parts (rise known.labels) (each_rises fs facts) h).0
labels_rise (f ∷ fs) (known ∷ facts) (suc n) h lt = labels_rise fs facts n (and_parts (rise known.labels) (each_rises fs facts) h).1 (omega arith)
