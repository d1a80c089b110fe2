-- The parameters of a function.
use Rattle.std.proofs.Common.{◌≡◌, ℕ, suc, ◌+◌, ◌<◌, List, [], ◌∷◌, ◌++◌, length, get_or, drop, refl, ap, sym, ◌∙◌}
use Rattle.std.proofs.lemmas.List.{drop_more}
use Rattle.std.specs.Prelude.{map}
use Rattle.vale_syntax.specs.declared.tree.Param.{Param}
use Rattle.vale_syntax.specs.View.{view_param}
use Rattle.vale_model.specs.Parts.{param_names}
use Rattle.vale_lowering.specs.Scopes.{Scope, parameters}
use Rattle.vale_lower_expr.specs.declared.scope.Local.{Local}
use Rattle.vale_lower_expr.specs.Entries.{framed}
use Rattle.vale_lower_expr.proofs.ScopeLaws.{framed_more}

pub names_length : (ps : List Param) → length (param_names (map view_param ps)) ≡ length ps
names_length [] = refl
names_length (p ∷ ps) = ap suc (names_length ps)

-- one parameter more, of those from a place on
pub param_next : (ls ls2 : List Local) (p : Param) (i next next2 : ℕ) (ps : List Param) (all : Scope) → i < length ps → p ≡ get_or ps i p
    → ls2 ≡ ls ++ record { name = p.name.name; register = next } ∷ [] → next2 ≡ next + 1
    → parameters next (param_names (map view_param (drop i ps))) (framed ls []) ≡ all
    → parameters next2 (param_names (map view_param (drop (i + 1) ps))) (framed ls2 []) ≡ all
param_next ls ls2 p i next next2 ps all lt is el en so_far =
    let l : Local = record { name = p.name.name; register = next } in
    let one : drop i ps ≡ p ∷ drop (i + 1) ps = drop_more ps i p lt ∙ ap (λ (x : Param). x ∷ drop (i + 1) ps) (sym is) in
    let names : List ℕ = param_names (map view_param (drop (i + 1) ps)) in
    ap (λ (n : ℕ). parameters n names (framed ls2 [])) en
    ∙ (ap (λ (z : List Local). parameters (next + 1) names (framed z [])) el
    ∙ (ap (λ (z : Scope). parameters (next + 1) names z) (framed_more ls l [])
    ∙ (ap (λ (z : List Param). parameters next (param_names (map view_param z)) (framed ls [])) (sym one) ∙ so_far)))

pub ruleset param_laws = (names_length, framed_more)
