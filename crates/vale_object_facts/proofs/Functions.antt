-- A function breaks no rule, where the walk goes through its code from its entry on.
use Rattle.std.proofs.Common.{◌≡◌, ℕ, ◌+◌, ◌≤◌, [], length, Some, None, true, if◌then◌else◌, refl, ap, ◌∙◌, subst, append-nil}
use Rattle.vale_rules_spec.specs.Types.{Ty}
use Rattle.vale_model.specs.Parts.{Parts}
use Rattle.vale_code.specs.Parts.{Parts as Code}
use Rattle.vale_code.specs.declared.func.Func.{Func}
use Rattle.vale_cert.specs.Known.{entry, label_at, may_enter, rise}
use Rattle.vale_cert.specs.Walk.{walk, function_fault}
use Rattle.vale_cert.specs.declared.facts.FuncFacts.{FuncFacts}
use Rattle.vale_lowering_objects.specs.Code.{registers_in}
use Rattle.vale_object_facts.specs.Facts.{labels_from}
use Rattle.vale_object_facts.specs.Slots.{Stand}
use Rattle.vale_object_facts.specs.Stands.{Stands}
use Rattle.vale_object_facts.proofs.Covering.{Site, Covers}
use Rattle.vale_object_facts.proofs.Labels.{rises, fits_each}
use Rattle.vale_object_facts.proofs.Runs.{Arrives, Ready, Runs, Fits, stops, cut_end, numbered}

module _ (p : Parts) (code : Code) (f : Func) (base : ℕ) (result : Ty) (facts : FuncFacts) (all : Stands) (s : Stand) where
  abbrev pub site : Site
  site = record { parts = p; code = code; func = f; labels = facts.labels; base = base; result = result }

  module _ (labels : facts.labels ≡ labels_from p f.body f.registers 0 all) (room : registers_in f.body ≤ f.registers) (runs : Runs site 0 f.body all s stops) where
    fits : Fits site 0 f.body all
    fits = record { each = fits_each site all labels runs.along [] f.body all refl runs.along (λ q le. ap (λ l. label_at l q) labels) room }

    -- its numbers lie within their tables
    pub all_numbered : numbered site f.body ≡ true
    all_numbered = runs.numbered fits

    ready : Ready site 0 s f.body
    ready = subst (λ cs. Ready site 0 s cs) (append-nil f.body) (runs.ready fits [] (cut_end site (0 + length f.body)))

    pub covered_is_faultless : Covers site (entry f facts) s → function_fault code base f facts ≡ None
    covered_is_faultless covers =
        ap (λ b. if b then walk code f facts.labels base 0 f.body (may_enter (label_at facts.labels 0) (entry f facts)) (Some (entry f facts)) else Some (record { rule = 7; at = base })) (ap rise labels ∙ rises p f.body f.registers all 0)
        ∙ ap (λ b. walk code f facts.labels base 0 f.body b (Some (entry f facts))) arrives.enters ∙ arrives.walks
      where
        arrives : Arrives site 0 f.body (entry f facts)
        arrives = ready.arrives (entry f facts) covers
