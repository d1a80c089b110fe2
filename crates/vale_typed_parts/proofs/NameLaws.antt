-- Names that are declared together.
use Rattle.std.proofs.Common.{◌≡◌, ℕ, ◌+◌, ◌<◌, List, [], ◌∷◌, ◌++◌, length, get_or, drop, ap, sym, ◌∙◌, refl}
use Rattle.std.specs.Prelude.{Result, Ok, Err, Option, Some, None}
use Rattle.vale_base.specs.declared.spot.Spot.{Spot}
use Rattle.vale_syntax.specs.declared.fault.Fault.{Fault}
use Rattle.vale_syntax.specs.declared.tree.NameAt.{NameAt}
use Rattle.vale_rules_spec.specs.Judged.{broken, first}
use Rattle.vale_rules_spec.specs.TypeRules.{new_name_rules}
use Rattle.vale_rules_spec.specs.Types.{void}
use Rattle.vale_rules_spec.specs.Typing.{Env, with_local, new_name, new_names}
use Rattle.vale_rules_spec.proofs.JudgedLaws.{◌>>=◌, meets, first_leaf}
use Rattle.vale_typed_parts.proofs.LoopLaws.{with_parts, part_passes, pair_passes, first_pair}

-- one name more
pub new_more : (here there : Env) (done ns : List NameAt) (i : ℕ) (d : NameAt) (whole : Result (List NameAt) Fault) → i < length ns → first (new_name here (get_or ns i d)) ≡ Ok (get_or ns i d) → with_local (get_or ns i d) void here ≡ there → with_parts ◌∷◌ done (first (new_names here (drop i ns))) ≡ whole → with_parts ◌∷◌ (done ++ get_or ns i d ∷ []) (first (new_names there (drop (i + 1) ns))) ≡ whole
new_more here there done ns i d whole l passes step h =
    let n : NameAt = get_or ns i d in
    let left : Env → Result (List NameAt) Fault = λ env. first (new_names env (drop (i + 1) ns)) in
    part_passes ◌∷◌ done ns i d n whole (λ (ms : List NameAt). first (new_names here ms)) (left there) n l refl
    (pair_passes (λ v. v.0 ∷ v.1) (new_name here n) n (new_names (with_local n void here) (drop (i + 1) ns)) passes ∙ ap (λ (env : Env). left env >>= λ b. Ok (n ∷ b)) step)
    h

meets_same : {B : Type 0} (at : Spot) (code : Option ℕ) (b a : B) → meets at code b ≡ Ok a → a ≡ b
meets_same at None b a h = cc
meets_same at (Some code) b a h = cc

pair_same : (r : Result NameAt Fault) (s : Result (List NameAt) Fault) (n : NameAt) (ns ms : List NameAt) → ((a : NameAt) → r ≡ Ok a → a ≡ n) → ((bs : List NameAt) → s ≡ Ok bs → bs ≡ ns) → (r >>= λ a. s >>= λ b. Ok (a ∷ b)) ≡ Ok ms → ms ≡ n ∷ ns
pair_same (Ok a) (Ok b) n ns ms p q h = let x : a ≡ n = p a refl in let y : b ≡ ns = q b refl in cc
pair_same (Ok a) (Err e) n ns ms p q h = cc
pair_same (Err e) s n ns ms p q h = cc

-- names without a fault are the ones that stand there
pub new_names_same : (env : Env) (ns ms : List NameAt) → first (new_names env ns) ≡ Ok ms → ms ≡ ns
new_names_same env [] ms h = cc
new_names_same env (n ∷ ns) ms h =
    pair_same (first (new_name env n)) (first (new_names (with_local n void env) ns)) n ns ms
    (λ a e. meets_same n.at (broken (new_name_rules n env.scope)) n a (sym (first_leaf n.at (new_name_rules n env.scope) n) ∙ e))
    (new_names_same (with_local n void env) ns)
    (sym (first_pair (λ v. v.0 ∷ v.1) (new_name env n) (new_names (with_local n void env) ns)) ∙ h)
