-- What is done behind a part, where a run comes there and where none does.
use Rattle.std.proofs.Common.{◌≡◌, ℕ, List, [], ◌∷◌, ◌++◌, length, refl, ap, sym, ◌∙◌, append_assoc}
use Rattle.std.specs.Prelude.{Bool, true, false, Option, if◌then◌else◌}
use Rattle.vale_base.specs.declared.spot.Spot.{Spot}
use Rattle.vale_code.specs.declared.instr.Instr.{Instr}
use Rattle.vale_lowering_objects.specs.Scopes.{Gives, Scope, Entry}
use Rattle.vale_lowering_objects.specs.Lowered.{drop_scope, store}
use Rattle.vale_lower_flow.specs.Flow.{Going, put, if_there}
use Rattle.vale_lower_flow.proofs.PartLaws.{Part, state}
use Rattle.vale_lower_places.specs.Places.{scope_dropped, stored}

there_by : (rest : Part) (f : Going) (k : Bool) → f.comes ≡ k → if_there rest f ≡ (if k then state (f.code ++ rest (length f.code) f.gone) f.gone true else f)
unfolding if_there
there_by rest f k e = ap (λ b. if b then state (f.code ++ rest (length f.code) f.gone) f.gone true else f) e

pub there_none : (rest : Part) (f : Going) → f.comes ≡ false → if_there rest f ≡ f
there_none rest f e = there_by rest f false e

pub there_put : (xs : List Instr) (f : Going) → f.comes ≡ true → if_there (λ place g. xs) f ≡ put xs f
unfolding put
there_put xs f e = there_by (λ place g. xs) f true e

pub there_two : (x y : Instr) (f : Going) → f.comes ≡ true → if_there (λ place g. x ∷ y ∷ []) f ≡ put (y ∷ []) (put (x ∷ []) f)
unfolding put
there_two x y f e = there_by (λ place g. x ∷ y ∷ []) f true e ∙ ap (λ w. state w f.gone true) (sym (append_assoc f.code (x ∷ []) (y ∷ [])))

pub there_stored : (x : Option Entry) (q : Gives) (h : ℕ) (at : Spot) (f : Going) → f.comes ≡ true → if_there (λ place g. store x g q h at) f ≡ stored x q h at f
unfolding stored
there_stored x q h at f e = there_by (λ place g. store x g q h at) f true e

pub there_dropped : (s : Scope) (at : Spot) (z : Instr) (f : Going) → f.comes ≡ true → if_there (λ place g. drop_scope s g at ++ (z ∷ [])) f ≡ put (z ∷ []) (scope_dropped s at f)
unfolding put scope_dropped
there_dropped s at z f e =
    there_by (λ place g. drop_scope s g at ++ (z ∷ [])) f true e
    ∙ ap (λ w. state w f.gone true) (sym (append_assoc f.code (drop_scope s f.gone at) (z ∷ [])))

pub gone_put : (xs : List Instr) (f : Going) → (put xs f).gone ≡ f.gone
unfolding put
gone_put xs f = refl

pub ruleset ends = (there_put, there_none)

pub ruleset stores = (there_stored, there_none)

pub ruleset returns = (there_dropped, there_none)

pub ruleset counts = (there_two, there_none)

pub ruleset jumps = (gone_put)
