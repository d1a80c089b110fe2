-- A chain or steps that are empty or not.
use Rattle.std.proofs.Common.{◌≡◌, List, [], ◌∷◌, Bool, true, false, Result, Ok, Err, refl, sym, ◌∙◌}
use Rattle.std.specs.Prelude.{map, IfOk, IsTrue, ◌↔◌}
use Rattle.vale_base.specs.declared.fault.Memory.{Memory}
use Rattle.vale_syntax.specs.declared.tree.Expr as declared
use Rattle.vale_syntax.specs.declared.tree.Link.{Link}
use Rattle.vale_syntax.specs.declared.tree.Step.{Step}
use Rattle.vale_syntax.specs.Tree.{Expr, chain, steps}
use Rattle.vale_syntax.specs.View.{links_of, steps_of, view_expr, view_link, view_step}
use Rattle.vale_reading.specs.Reading.{chained, stepped}

pub no_chain : (x : Expr) (ls : List Link) → ls ≡ [] → x ≡ chained x (links_of (map view_link ls))
no_chain x [] h = refl
no_chain x (l ∷ ls) h = absurd cc

chain_is : (x : Expr) (ls : List Link) → (ls ≡ [] → ⊥) → chain x (links_of (map view_link ls)) ≡ chained x (links_of (map view_link ls))
chain_is x [] h = absurd (h refl)
chain_is x (l ∷ ls) h = refl

pub chain_given : (x : Expr) (ls : List Link) (r : Result declared.Expr Memory) → IfOk r (λ e. view_expr e ≡ chain x (links_of (map view_link ls))) → (b : Bool) → (IsTrue b ↔ (ls ≡ [])) → b ≡ false → IfOk r (λ e. view_expr e ≡ chained x (links_of (map view_link ls)))
chain_given x ls (Ok e) h b iff off = h ∙ chain_is x ls (λ is. let both : false ≡ true = sym off ∙ iff.1 is in cc)
chain_given x ls (Err e) h b iff off = tt

pub no_steps_is : (x : Expr) (ps : List Step) → ps ≡ [] → x ≡ stepped x (steps_of (map view_step ps))
no_steps_is x [] h = refl
no_steps_is x (p ∷ ps) h = absurd cc

steps_are : (x : Expr) (ps : List Step) → (ps ≡ [] → ⊥) → steps x (steps_of (map view_step ps)) ≡ stepped x (steps_of (map view_step ps))
steps_are x [] h = absurd (h refl)
steps_are x (p ∷ ps) h = refl

pub steps_given : (x : Expr) (ps : List Step) (r : Result declared.Expr Memory) → IfOk r (λ e. view_expr e ≡ steps x (steps_of (map view_step ps))) → (b : Bool) → (IsTrue b ↔ (ps ≡ [])) → b ≡ false → IfOk r (λ e. view_expr e ≡ stepped x (steps_of (map view_step ps)))
steps_given x ps (Ok e) h b iff off = h ∙ steps_are x ps (λ is. let both : false ≡ true = sym off ∙ iff.1 is in cc)
steps_given x ps (Err e) h b iff off = tt
