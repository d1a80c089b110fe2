-- What written types are, and which values fit parameters.
use Rattle.std.proofs.Common.{◌≡◌, ℕ, suc, ◌+◌, ◌<◌, List, [], ◌∷◌, length, get_or, drop, map, refl, ap, sym, ◌∙◌}
use Rattle.std.specs.Prelude.{Bool, true, false, ◌&&◌}
use Rattle.std.proofs.lemmas.List.{drop_more}
use Rattle.vale_syntax.specs.declared.tree.Param.{Param}
use Rattle.vale_syntax.specs.View.{view_type, view_param}
use Rattle.vale_syntax.proofs.ViewLaws as v
use Rattle.vale_rules_spec.specs.Types.{type_of}
use Rattle.vale_lowering_objects.specs.Scopes.{gives_of, agree, all_agree}
use Rattle.vale_lowering_objects.specs.Lowered.{param_gives_of}
use Rattle.vale_lower_flow.specs.declared.gives.Gives.{Gives}
use Rattle.vale_lower_flow.specs.Kept.{view_gives}

pub ruleset types = (v.of_int, v.of_bool, v.of_str, v.of_named, v.of_array_type, v.of_ref, v.of_imm_ref, v.of_iso_type)

and_false : (a b : Bool) → b ≡ false → (a && b) ≡ false
and_false true b e = e
and_false false b e = refl

-- more values, or more parameters
pub unlike : (vs : List Gives) (ps : List Param) → (length vs ≡ length ps → ⊥) → all_agree (map view_gives vs) (param_gives_of (map view_param ps)) ≡ false
unlike [] [] h = absurd (h refl)
unlike [] (p ∷ ps) h = refl
unlike (v ∷ vs) [] h = refl
unlike (v ∷ vs) (p ∷ ps) h = and_false (agree (view_gives v) (gives_of (type_of (view_type p.ty)))) (all_agree (map view_gives vs) (param_gives_of (map view_param ps))) (unlike vs ps (λ e. h (ap suc e)))

-- the next of both
pub fit_next : (vs : List Gives) (ps : List Param) (at : ℕ) (v : Gives) (p : Param) → at < length vs → at < length ps → v ≡ get_or vs at v → p ≡ get_or ps at p
    → all_agree (map view_gives (drop at vs)) (param_gives_of (map view_param (drop at ps)))
    ≡ (agree (view_gives v) (gives_of (type_of (view_type p.ty))) && all_agree (map view_gives (drop (at + 1) vs)) (param_gives_of (map view_param (drop (at + 1) ps))))
fit_next vs ps at v p lv lp ev ep =
    ap (λ (z : List Gives). all_agree (map view_gives z) (param_gives_of (map view_param (drop at ps)))) (drop_more vs at v lv ∙ ap (λ (x : Gives). x ∷ drop (at + 1) vs) (sym ev))
    ∙ ap (λ (z : List Param). all_agree (map view_gives (v ∷ drop (at + 1) vs)) (param_gives_of (map view_param z))) (drop_more ps at p lp ∙ ap (λ (x : Param). x ∷ drop (at + 1) ps) (sym ep))

pub ruleset fits = (unlike, fit_next)
