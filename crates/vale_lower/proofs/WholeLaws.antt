-- The functions of a program and their code.
use Rattle.std.proofs.Common.{◌≡◌, ℕ, suc, ◌+◌, ◌<◌, ◌≤◌, List, [], ◌∷◌, ◌++◌, length, get_or, take, refl, ap, sym, ◌∙◌, arith}
use Rattle.std.specs.Prelude.{map}
use Rattle.std.specs.Borrow.{Bor}
use Rattle.std.proofs.lemmas.List.{take_more, take_all, map-append, get_or-map}
use Rattle.vale_rules_spec.specs.Typed as t
use Rattle.vale_core.specs.declared.tree.Function.{Function}
use Rattle.vale_core.specs.View.{view_function}
use Rattle.vale_model.specs.Parts.{Parts}
use Rattle.vale_code.specs.declared.func.Func.{Func}
use Rattle.vale_cert.specs.declared.facts.FuncFacts.{FuncFacts}
use Rattle.vale_lowering.specs.Lowered.{lowered_function}
use Rattle.vale_lower_facts.specs.Marks.{function_facts}

pub map_length : {A B : Type 0} (f : A → B) (xs : List A) → length (map f xs) ≡ length xs
map_length f [] = refl
map_length f (x ∷ xs) = ap suc (map_length f xs)

abbrev viewed : List (Bor Function) → List t.Function
viewed each = map (λ g. view_function g.now) each

-- one of the functions and its code
code_of_one : (lower : t.Function → Func) (funcs : List Func) (each : List (Bor Function)) (i : ℕ) (g : Bor Function) (x : Func) → i < length each → g ≡ get_or each i g → x ≡ get_or funcs i x
    → funcs ≡ map lower (viewed each) → x ≡ lower (view_function g.now)
code_of_one lower funcs each i g x lt ig ix e =
    ix ∙ ap (λ (z : List Func). get_or z i x) e
    ∙ get_or-map lower (viewed each) i (view_function g.now) x (omega (arith, lt, map_length (λ (y : Bor Function). view_function y.now) each))
    ∙ ap (λ (z : t.Function). lower z) (get_or-map (λ (y : Bor Function). view_function y.now) each i g (view_function g.now) lt ∙ ap (λ (y : Bor Function). view_function y.now) (sym ig))

-- the facts of one function more
pub facts_next : (p : Parts) (texts : List (List ℕ)) (fs : List t.Function) (funcs : List Func) (each : List (Bor Function)) (i : ℕ) (g : Bor Function) (x : Func) (y : FuncFacts) (facts facts2 : List FuncFacts)
    → i < length each → g ≡ get_or each i g → x ≡ get_or funcs i x → facts2 ≡ facts ++ y ∷ []
    → ((lowered_function p texts fs (view_function g.now)).registers ≡ x.registers → y ≡ function_facts p texts fs (view_function g.now))
    → funcs ≡ map (lowered_function p texts fs) (map (λ g. view_function g.now) each)
    → facts ≡ map (function_facts p texts fs) (map (λ g. view_function g.now) (take i each)) → facts2 ≡ map (function_facts p texts fs) (map (λ g. view_function g.now) (take (i + 1) each))
facts_next p texts fs funcs each i g x y facts facts2 lt ig ix ef ey e so_far =
    let make : t.Function → FuncFacts = function_facts p texts fs in
    let one : take (i + 1) each ≡ take i each ++ g ∷ [] = take_more each i g lt ∙ ap (λ (h : Bor Function). take i each ++ h ∷ []) (sym ig) in
    let made : y ≡ make (view_function g.now) = ey (ap (λ (z : Func). z.registers) (sym (code_of_one (lowered_function p texts fs) funcs each i g x lt ig ix e))) in
    ef ∙ (ap (λ (z : FuncFacts). facts ++ z ∷ []) made ∙ (ap (λ (z : List FuncFacts). z ++ make (view_function g.now) ∷ []) so_far
    ∙ (sym (map-append make (viewed (take i each)) (view_function g.now ∷ []))
    ∙ (ap (λ (z : List t.Function). map make z) (sym (map-append (λ (h : Bor Function). view_function h.now) (take i each) (g ∷ [])))
    ∙ ap (λ (z : List (Bor Function)). map make (viewed z)) (sym one)))))

pub facts_all : (make : t.Function → FuncFacts) (facts : List FuncFacts) (each : List (Bor Function)) (i : ℕ)
    → length each ≤ i → facts ≡ map make (map (λ g. view_function g.now) (take i each)) → facts ≡ map make (map (λ g. view_function g.now) each)
facts_all make facts each i le so_far = so_far ∙ ap (λ (z : List (Bor Function)). map make (viewed z)) (take_all i each le)

pub ruleset facts = (map_length)
