-- The code of a program that is declared and typed has its kinds.
use Rattle.std.proofs.Common.{◌≡◌, ℕ, List, [], ◌∷◌, Option, Some, None, refl, sym, subst}
use Rattle.std.specs.Prelude.{slice_get, option_map}
use Rattle.std.proofs.lemmas.Option.{slice_get-map}
use Rattle.vale_base.specs.declared.name.Kind.{Kind}
use Rattle.vale_syntax.specs.Tree.{Item, tree}
use Rattle.vale_syntax.specs.declared.fault.Fault.{Fault}
use Rattle.vale_rules_spec.specs.DeclFaults.{declaration_faults, item_faults, program_spot}
use Rattle.vale_rules_spec.specs.DeclRules.{program_rules}
use Rattle.vale_rules_spec.specs.Declarations.{declarations}
use Rattle.vale_rules_spec.specs.Judged.{Judged, fine, faulty, unless, plain, own, one_by_one}
use Rattle.vale_rules_spec.specs.Types.{Ty}
use Rattle.vale_rules_spec.specs.Typed as t
use Rattle.vale_rules_spec.specs.Typed.{Typed}
use Rattle.vale_rules_spec.specs.Typing.{in_items}
use Rattle.vale_model.specs.Destruction as model
use Rattle.vale_model.specs.Kinds.{kinds_of}
use Rattle.vale_model.specs.Parts.{Parts, parts_of}
use Rattle.vale_code.specs.Kinds as code_kinds
use Rattle.vale_lowering_objects.specs.Code.{lowered, lowered_parts, functions_in, texts_of, kind_info}
use Rattle.vale_lowering_objects.specs.Destruction.{SameDestructor, SameKinds}
use Rattle.vale_object_kinds.specs.Kinds.{KindsOfProgram}
use Rattle.vale_object_kinds.proofs.Destructors.{Matches, drop_items, all_match, by_type}
use Rattle.vale_object_kinds.proofs.Holds.{Holds}
use Rattle.vale_object_kinds.proofs.Items.{AllClean, all_clean, items_known, typed_grounded}
use Rattle.vale_object_kinds.proofs.Known.{Grounded}
use Rattle.vale_object_kinds.proofs.KnownParts.{none_in}
use Rattle.vale_object_kinds.proofs.Texts.{texts_same}

without_faults : {A : Type 0} (fs : List Fault) (a b : A) → unless fs a ≡ fine b → fs ≡ []
without_faults [] a b e = refl
without_faults (f ∷ fs) a b e = absurd (cc)

-- what is typed has the tree's names, and its items typed
module _ (names : List (List ℕ)) (items : List Item) (program : Typed) where
  abbrev IsTyped : List t.Item → Type 0
  IsTyped zs = (in_items names items items ≡ fine zs) × (t.typed names zs ≡ program)

  typed_items : (j : Judged (List t.Item)) → in_items names items items ≡ j → plain (λ v. t.typed names v) j ≡ fine program → (zs : List t.Item) × IsTyped zs
  typed_items (fine zs) e f = let same : t.typed names zs ≡ program = cc in (zs, (e, same))
  typed_items (faulty g gs) e f = absurd (cc)

module _ (names : List (List ℕ)) (items : List Item) (clean : AllClean (item_faults names items) [] items) (zs : List t.Item) (is_typed : in_items names items items ≡ fine zs) where
  abbrev p : Parts
  p = record { names = names; items = zs; kinds = kinds_of zs }

  matches : Matches names items items zs
  matches = subst (λ j. Holds (Matches names items items) j) is_typed (all_match names items items (drop_items names items [] items clean))

  grounded : Grounded [] (kinds_of zs)
  grounded = typed_grounded items names (items_known items names [] items clean) zs is_typed

  same_destructor : (k : Kind) → SameDestructor (lowered_parts p) (functions_in p) (code_kinds.destructor_of (lowered_parts p) k) (model.destructor_in p (slice_get p.kinds k.0))
  same_destructor k =
      subst (λ o. SameDestructor (lowered_parts p) (functions_in p) (code_kinds.destructor_in o) (model.destructor_in p (slice_get p.kinds k.0))) (sym (slice_get-map (kind_info p (texts_of p (functions_in p)) (functions_in p)) p.kinds k.0))
      (by (slice_get p.kinds k.0))
    where
      by : (o : Option Ty) → SameDestructor (lowered_parts p) (functions_in p) (code_kinds.destructor_in (option_map (kind_info p (texts_of p (functions_in p)) (functions_in p)) o)) (model.destructor_in p o)
      by None = tt
      by (Some x) = by_type names items clean zs (kinds_of zs) matches x

  same_kinds : SameKinds (lowered_parts p) (functions_in p) p
  same_kinds = record { texts = λ k. texts_same p grounded k.0; destructors = same_destructor }

pub kinds_of_program : KindsOfProgram
kinds_of_program (tree names items) decls program is_declared is_typed =
    let faultless = without_faults (declaration_faults (tree names items)) (declarations items) decls is_declared in
    let parts = none_in (one_by_one (item_faults names items) [] items) (own program_spot (program_rules names items)) faultless in
    let clean = all_clean (item_faults names items) [] items parts.0 in
    let zs = typed_items names items program (in_items names items items) refl is_typed in
    subst (λ q. SameKinds (lowered q) (functions_in (parts_of q)) (parts_of q)) zs.1.1 (same_kinds names items clean zs.0 zs.1.0)
