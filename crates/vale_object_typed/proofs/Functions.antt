-- The types of the parts of each function of a typed program fit.
use Rattle.std.proofs.Common.{◌≡◌, ℕ, zero, suc, false, List, [], ◌∷◌, Some, refl, subst}
use Rattle.std.specs.Prelude.{slice_get, flat_map}
use Rattle.std.specs.List.{list_any}
use Rattle.vale_syntax.specs.Tree.{Function, function, Item, struct_item, interface_item, impl_item, function_item}
use Rattle.vale_rules_spec.specs.Declarations.{head_name}
use Rattle.vale_rules_spec.specs.Judged.{Judged, fine, faulty, both, plain as plain_node}
use Rattle.vale_rules_spec.specs.Returns.{block_returns}
use Rattle.vale_rules_spec.specs.Types.{void}
use Rattle.vale_rules_spec.specs.Typed as t
use Rattle.vale_rules_spec.specs.Typed.{Typed}
use Rattle.vale_rules_spec.specs.TypeRules.{head_gives, function_rules}
use Rattle.vale_rules_spec.specs.Typing.{entry, void_block, in_function, in_functions, in_item, in_items}
use Rattle.vale_model.specs.Kinds.{head_of, body_of}
use Rattle.vale_model.specs.Parts.{Parts, parts_of, functions_of}
use Rattle.vale_code.specs.Parts.{Parts as Code}
use Rattle.vale_lowering_objects.specs.Code.{functions_in}
use Rattle.vale_object_facts.specs.Suits.{block_suits}
use Rattle.vale_object_typed.specs.Covered.{block_is_covered, function_is_covered}
use Rattle.vale_object_typed.specs.Fit.{is_impl_item, TypedProgramsFit}
use Rattle.vale_object_typed.specs.Tables.{HasTables}
use Rattle.vale_object_kinds.proofs.Holds.{Holds, Pair, holds_node, holds_plain, holds_both}
use Rattle.vale_object_typed.proofs.Tree.{void_meets}

module _ (names : List (List ℕ)) (items : List Item) (plain : list_any is_impl_item items ≡ false) (p : Parts) (c : Code) (functions : List t.Function) (tables : HasTables names items p c functions) where
  abbrev pub FunctionFits : t.Function → Type 0
  FunctionFits f = function_is_covered p.kinds c.texts f → block_suits p c functions (entry (head_of f)) void (body_of f)

  abbrev BodyFits : t.Block → t.Function → Type 0
  BodyFits b f = FunctionFits f

  function_fits : (f : Function) → Holds FunctionFits (in_function names items f)
  function_fits (function h b) =
      holds_node (λ v. block_is_covered p.kinds c.texts v → block_suits p c functions (entry h) void v) FunctionFits (head_name h).at (λ v. function_rules (head_gives h) (block_returns v)) (λ v. t.function_body h v) (void_block names items (entry h) b)
      (void_meets names items plain p c functions tables b (entry h)) (λ v g kept cov. g cov)

  abbrev pub AllFit : List t.Function → Type 0
  AllFit [] = Unit {0}
  AllFit (f ∷ fs) = FunctionFits f × AllFit fs

  pub all_at : (fs : List t.Function) (j : ℕ) (f : t.Function) → AllFit fs → slice_get fs j ≡ Some f → FunctionFits f
  all_at [] j f a e = absurd (cc)
  all_at (g ∷ fs) zero f a e = let same : g ≡ f = cc in subst FunctionFits same a.0
  all_at (g ∷ fs) (suc j) f a e = all_at fs j f a.1 e

  abbrev ItemFits : t.Item → Type 0
  ItemFits x = (ys : List t.Item) → AllFit (flat_map functions_of ys) → AllFit (flat_map functions_of (x ∷ ys))

  abbrev pub ItemsFit : List t.Item → Type 0
  ItemsFit ys = AllFit (flat_map functions_of ys)

  any_holds : {A : Type 0} (j : Judged A) → Holds (λ a. Unit {0}) j
  any_holds (fine a) = tt
  any_holds (faulty f fs) = tt

  item_fits : (x : Item) → Holds ItemFits (in_item names items x)
  item_fits (struct_item n fs) = λ ys r. r
  item_fits (interface_item n hs) = λ ys r. r
  item_fits (impl_item at i s fs) = holds_plain (λ v. Unit {0}) ItemFits (λ v. t.impl_item at i s v) (in_functions names items fs) (any_holds (in_functions names items fs)) (λ v h ys r. r)
  item_fits (function_item f) = holds_plain FunctionFits ItemFits (λ v. t.function_item v) (in_function names items f) (function_fits f) (λ v h ys r. (h, r))

  pub items_fit : (xs : List Item) → Holds ItemsFit (in_items names items xs)
  items_fit [] = tt
  items_fit (x ∷ xs) =
      holds_plain (Pair ItemFits ItemsFit) ItemsFit (λ v. v.0 ∷ v.1) (both (in_item names items x) (in_items names items xs)) (holds_both ItemFits ItemsFit (in_item names items x) (in_items names items xs) (item_fits x) (items_fit xs))
      (λ v h. h.0 v.1 h.1)

-- what is typed has the tree's names, and its items typed
pub typed_items : (names : List (List ℕ)) (program : Typed) (j : Judged (List t.Item)) → plain_node (λ v. t.typed names v) j ≡ fine program → (zs : List t.Item) × (j ≡ fine zs) × (t.typed names zs ≡ program)
typed_items names program (fine zs) e = let same : t.typed names zs ≡ program = cc in (zs, refl, same)
typed_items names program (faulty g gs) e = absurd (cc)

pub typed_programs_fit : TypedProgramsFit
typed_programs_fit names items program code functions is plain tables j f here cov =
    let zs = typed_items names program (in_items names items items) is in
    subst
    (λ q.
    HasTables names items (parts_of q) code functions → slice_get (functions_in (parts_of q)) j ≡ Some f → function_is_covered (parts_of q).kinds code.texts f → block_suits (parts_of q) code functions (entry (head_of f)) void (body_of f)) zs.2
    (λ tables here cov.
    all_at names items plain (parts_of (t.typed names zs.0)) code functions tables (functions_in (parts_of (t.typed names zs.0))) j f
    (subst (λ q. Holds (ItemsFit names items plain (parts_of (t.typed names zs.0)) code functions tables) q) zs.1 (items_fit names items plain (parts_of (t.typed names zs.0)) code functions tables items)) here cov)
    tables here cov
