-- The kinds of items, by their parts.
use Rattle.std.proofs.Common.{◌≡◌, ℕ, List, [], ◌∷◌, ◌++◌, refl, ap, sym, ◌∙◌, append_assoc}
use Rattle.std.specs.Prelude.{map, flat_map}
use Rattle.vale_syntax.specs.Tree.{Head, head}
use Rattle.vale_rules_spec.specs.Types.{Ty}
use Rattle.vale_rules_spec.specs.Typed.{Item}
use Rattle.vale_model.specs.Kinds.{kinds_of, named_kinds, declared_arrays, made_arrays}
use Rattle.vale_lower_kinds.specs.Added.{added}
use Rattle.vale_lower_kinds.proofs.AddedLaws.{added_more, added_one, once_is}

pub kinds_by_parts : (items : List Item) (k0 k1 k2 : List Ty) → k0 ≡ added [] (flat_map named_kinds items) → k1 ≡ added k0 (flat_map declared_arrays items) → k2 ≡ added k1 (flat_map made_arrays items) → k2 ≡ kinds_of items
kinds_by_parts items k0 k1 k2 e0 e1 e2 =
    let ns : List Ty = flat_map named_kinds items in
    let ds : List Ty = flat_map declared_arrays items in
    let ms : List Ty = flat_map made_arrays items in
    e2 ∙ ap (λ k. added k ms) (e1 ∙ ap (λ k. added k ds) e0 ∙ sym (added_more [] ns ds))
    ∙ sym (added_more [] (ns ++ ds) ms)
    ∙ sym (once_is ((ns ++ ds) ++ ms))

pub ruleset adds = (added_more)

pub ruleset wholes = (kinds_by_parts)
