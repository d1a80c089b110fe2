-- The code of all functions, and the whole.
use Rattle.std.proofs.Common.{◌≡◌, ℕ, ◌+◌, ◌<◌, ◌≤◌, List, [], ◌∷◌, ◌++◌, length, get_or, take, refl, ap, sym, ◌∙◌}
use Rattle.std.specs.Prelude.{map, flat_map, codes, slice_index_or}
use Rattle.std.specs.Borrow.{Bor}
use Rattle.std.proofs.lemmas.List.{take_more, take_all, map-append}
use Rattle.vale_rules_spec.specs.Declarations.{is_called, head_name}
use Rattle.vale_rules_spec.specs.Typed as t
use Rattle.vale_core.specs.declared.tree.Core.{Core}
use Rattle.vale_core.specs.declared.tree.Function.{Function}
use Rattle.vale_core.specs.declared.tree.Item.{Item}
use Rattle.vale_core.specs.View.{view_core, view_function, view_item}
use Rattle.vale_model.specs.Kinds.{head_of}
use Rattle.vale_model.specs.Parts as p
use Rattle.vale_model.specs.Parts.{Parts, parts_of, name_of, has_text}
use Rattle.vale_code.specs.Parts.{Parts as Code}
use Rattle.vale_code.specs.declared.func.Func.{Func}
use Rattle.vale_code.specs.declared.func.Impl.{Impl}
use Rattle.vale_code.specs.declared.kind.KindInfo.{KindInfo}
use Rattle.vale_lowering.specs.Lowered.{lowered, lowered_function, functions_in, texts_in}
use Rattle.vale_lowering.specs.Scopes.{number_of_function}
use Rattle.vale_lowering.specs.Texts.{function_quotes}
use Rattle.vale_lower_expr.specs.declared.functions.Functions.{Functions}
use Rattle.vale_lower_expr.specs.Held.{functions_of}

abbrev viewed : List (Bor Function) → List t.Function
viewed each = map (λ g. view_function g.now) each

-- one function more
pub funcs_next : (lower : t.Function → Func) (funcs funcs2 : List Func) (x : Func) (each : List (Bor Function)) (i : ℕ) (g : Bor Function)
    → i < length each → g ≡ get_or each i g → funcs2 ≡ funcs ++ x ∷ [] → x ≡ lower (view_function g.now)
    → funcs ≡ map lower (map (λ g. view_function g.now) (take i each)) → funcs2 ≡ map lower (map (λ g. view_function g.now) (take (i + 1) each))
funcs_next lower funcs funcs2 x each i g lt is ef ex so_far =
    let one : take (i + 1) each ≡ take i each ++ g ∷ [] = take_more each i g lt ∙ ap (λ (y : Bor Function). take i each ++ y ∷ []) (sym is) in
    ef ∙ (ap (λ (y : Func). funcs ++ y ∷ []) ex ∙ (ap (λ (z : List Func). z ++ lower (view_function g.now) ∷ []) so_far
    ∙ (sym (map-append lower (viewed (take i each)) (view_function g.now ∷ []))
    ∙ (ap (λ (z : List t.Function). map lower z) (sym (map-append (λ (y : Bor Function). view_function y.now) (take i each) (g ∷ [])))
    ∙ ap (λ (z : List (Bor Function)). map lower (viewed z)) (sym one)))))

pub funcs_all : (lower : t.Function → Func) (funcs : List Func) (each : List (Bor Function)) (fs : List t.Function) (i : ℕ)
    → length each ≤ i → map (λ g. view_function g.now) each ≡ fs → funcs ≡ map lower (map (λ g. view_function g.now) (take i each)) → funcs ≡ map lower fs
funcs_all lower funcs each fs i le e so_far =
    so_far ∙ (ap (λ (z : List (Bor Function)). map lower (viewed z)) (take_all i each le) ∙ ap (λ (z : List t.Function). map lower z) e)

map_viewed : {A : Type 0} (make : t.Function → A) (each : List (Bor Function)) → map (λ g. make (view_function g.now)) each ≡ map make (viewed each)
map_viewed make [] = refl
map_viewed make (g ∷ each) = ap (λ z. make (view_function g.now) ∷ z) (map_viewed make each)

flat_viewed : {A : Type 0} (make : t.Function → List A) (each : List (Bor Function)) → flat_map (λ g. make (view_function g.now)) each ≡ flat_map make (viewed each)
flat_viewed make [] = refl
flat_viewed make (g ∷ each) = ap (λ z. make (view_function g.now) ++ z) (flat_viewed make each)

abbrev code_of : List (List ℕ) → List KindInfo → List Impl → List Func → ℕ → Code
code_of texts kinds impls funcs main = record { texts = texts; kinds = kinds; impls = impls; funcs = funcs; main = main }

pub whole : (core : Core) (names texts all : List (List ℕ)) (items : List Item) (f : Functions) (each : List (Bor Function)) (kinds : List KindInfo) (impls : List Impl) (funcs : List Func) (main : ℕ)
    → names ≡ core.names → items ≡ core.items → functions_of f ≡ flat_map p.functions_of (map view_item items) → map (λ g. view_function g.now) each ≡ functions_of f
    → texts ≡ map (λ g. slice_index_or names (name_of (view_function g.now)) []) each ++ flat_map (λ g. function_quotes (view_function g.now)) each → all ≡ texts
    → ((q : Parts) → q.names ≡ names → funcs ≡ map (lowered_function q all (functions_of f)) (functions_of f))
    → main ≡ number_of_function (λ g. is_called names (codes "main") (head_name (head_of g))) (map (λ g. view_function g.now) each)
    → kinds ≡ [] → impls ≡ []
    → record { texts = texts; kinds = kinds; impls = impls; funcs = funcs; main = main } ≡ lowered (view_core core)
whole core names texts all items f each kinds impls funcs main en ei ef ev et ea el em ek ex =
    let q : Parts = parts_of (view_core core) in
    let fs : List t.Function = functions_in q in
    let ts : List (List ℕ) = texts_in q fs in
    let e1 : functions_of f ≡ fs = ef ∙ ap (λ (z : List Item). flat_map p.functions_of (map view_item z)) ei in
    let e2 : viewed each ≡ fs = ev ∙ e1 in
    let n1 : map (λ (g : Bor Function). slice_index_or names (name_of (view_function g.now)) []) each ≡ map (λ (g : t.Function). slice_index_or core.names (name_of g) []) fs =
    map_viewed (λ (g : t.Function). slice_index_or names (name_of g) []) each
    ∙ (ap (λ (z : List (List ℕ)). map (λ (g : t.Function). slice_index_or z (name_of g) []) (viewed each)) en ∙ ap (λ (z : List t.Function). map (λ (g : t.Function). slice_index_or core.names (name_of g) []) z) e2) in
    let n2 : flat_map (λ (g : Bor Function). function_quotes (view_function g.now)) each ≡ flat_map function_quotes fs = flat_viewed function_quotes each ∙ ap (λ (z : List t.Function). flat_map function_quotes z) e2 in
    let t1 : texts ≡ ts = et ∙ (ap (λ (z : List (List ℕ)). z ++ flat_map (λ (g : Bor Function). function_quotes (view_function g.now)) each) n1
    ∙ ap (λ (z : List (List ℕ)). map (λ (g : t.Function). slice_index_or core.names (name_of g) []) fs ++ z) n2) in
    let f1 : funcs ≡ map (lowered_function q ts fs) fs = el q (sym en) ∙ (ap (λ (z : List (List ℕ)). map (lowered_function q z (functions_of f)) (functions_of f)) (ea ∙ t1) ∙ ap (λ (z : List t.Function). map (lowered_function q ts z) z) e1) in
    let m1 : main ≡ number_of_function (has_text q (codes "main")) fs = em ∙ (ap (λ (z : List (List ℕ)). number_of_function (λ (g : t.Function). is_called z (codes "main") (head_name (head_of g))) (viewed each)) en
    ∙ ap (λ (z : List t.Function). number_of_function (λ (g : t.Function). is_called core.names (codes "main") (head_name (head_of g))) z) e2) in
    ap (λ (z : List (List ℕ)). code_of z kinds impls funcs main) t1
    ∙ (ap (λ (z : List KindInfo). code_of ts z impls funcs main) ek
    ∙ (ap (λ (z : List Impl). code_of ts [] z funcs main) ex
    ∙ (ap (λ (z : List Func). code_of ts [] [] z main) f1
    ∙ ap (λ (z : ℕ). code_of ts [] [] (map (lowered_function q ts fs) fs) z) m1)))
