-- Certified code with its facts is spelled by what is written of it.
use Rattle.std.proofs.Common.{◌≡◌, ℕ, List, Option, None, Some, refl}
use Rattle.std.proofs.Math.Logic.{∥∥₁_elim}
use Rattle.vale_cert.specs.Certificate.{first_fault, Certified, rule_one}
use Rattle.vale_cert.specs.Shape.{shape_fault}
use Rattle.vale_cert.specs.Walk.{or_else}
use Rattle.vale_cert.specs.declared.facts.FuncFacts.{FuncFacts}
use Rattle.vale_cert.specs.declared.fault.Fault.{Fault}
use Rattle.vale_code.specs.Parts.{Parts}
use Rattle.vale_file_spec.specs.File.{front, Spells}

untruncated : (o : Option Fault) → ∥ o ≡ None ∥₁ → o ≡ None
untruncated None t = refl
untruncated (Some f) t = absurd (∥∥₁_elim t (λ x y. absurd x) (λ e. let x : ⊥ = cc in x))

no_first : (a : Option ℕ) (b : Option Fault) → or_else (rule_one a) b ≡ None → a ≡ None
no_first None b h = refl
no_first (Some n) b h = absurd cc

pub shaped : (code : Parts) (facts : List FuncFacts) → ∥ Certified code facts ∥₁ → shape_fault code facts ≡ None
shaped code facts t = no_first (shape_fault code facts) _ (untruncated (first_fault code facts) t)

pub is_spelled : (bytes : List ℕ) (code : Parts) (facts : List FuncFacts) → front.Fits (tt, (1, (code, facts))) → bytes ≡ front.write (tt, (1, (code, facts))) → Spells bytes 1 code facts
is_spelled bytes code facts fits whole = record { fits = fits; whole = whole }
