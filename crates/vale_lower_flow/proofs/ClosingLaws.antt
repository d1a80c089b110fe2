-- What is to be done at the end, with one thing more.
use Rattle.std.proofs.Common.{◌≡◌, List, [], ◌∷◌, ◌++◌, refl, ap, ◌∙◌, append-nil}
use Rattle.std.specs.Prelude.{Bool, true, false, if◌then◌else◌}
use Rattle.vale_base.specs.declared.spot.Spot.{Spot}
use Rattle.vale_code.specs.declared.instr.Instr.TheVariants as i
use Rattle.vale_lowering_objects.specs.Scopes.{is_gone}
use Rattle.vale_lower_flow.specs.declared.closing.Closing.{Closing}
use Rattle.vale_lower_flow.specs.declared.scope.Local.{Local}
use Rattle.vale_lower_flow.specs.Entries.{entry_of}
use Rattle.vale_lower_flow.specs.Flow.{Going, if_there}
use Rattle.vale_lower_flow.specs.Closing.{dropped, closed_one, closed_all}
use Rattle.vale_lower_flow.proofs.PartLaws.{there_none}

pub closed_more : (xs : List Closing) (x : Closing) (f : Going) → closed_all (xs ++ x ∷ []) f ≡ closed_all xs (closed_one x f)
closed_more [] x f = refl
closed_more (y ∷ xs) x f = ap (λ z. closed_one y z) (closed_more xs x f)

pub ruleset more = (closed_more)

copied_by : (l : Local) (b : Bool) (at : Spot) (f : Going) → l.owned ≡ b → b ≡ false → dropped (entry_of l) at f ≡ f
unfolding dropped
copied_by l b at f e eb =
    ap (λ k. if_there (λ place g. if k then (if is_gone l.register g then [] else i.Destroy l.register at ∷ []) else []) f) (e ∙ eb) ∙ there_none f

-- what isn't owned isn't dropped
pub dropped_copy : (l : Local) (at : Spot) (f : Going) → l.owned ≡ false → dropped (entry_of l) at f ≡ f
dropped_copy l at f e = copied_by l false at f e refl

pub ruleset copied = (dropped_copy)

pub ruleset drops = (append-nil)
