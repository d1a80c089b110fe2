-- The rules of freezes: a row for each kind of node, its rules in rising order of their codes (docs/LANGUAGE.md, "Freezes and
-- isolates").
use Rattle.std.specs.Prelude.{ℕ, Bool, true, false, not, ◌||◌, ◌&&◌, ◌==◌, List, [], ◌∷◌, Option, Some, None, if◌then◌else◌}
use Rattle.std.specs.List.{list_any}
use Rattle.std.specs.Option.{option_and_then, option_map_or}
use Rattle.vale_syntax.specs.declared.built_in.BuiltIn.{BuiltIn}
use Rattle.vale_syntax.specs.declared.built_in.BuiltIn.TheVariants as b
use Rattle.vale_syntax.specs.declared.tree.NameAt.{NameAt}
use Rattle.vale_syntax.specs.Tree.{Param, Head, head, TypeExpr}
use Rattle.vale_rules_spec.specs.Judged.{Rules}
use Rattle.vale_region_spec.specs.declared.around.Around.{Around}
use Rattle.vale_rules_spec.specs.Declarations.{head_name, head_params, param_type}
use Rattle.vale_rules_spec.specs.Types.{Ty, ref, type_of, result_of, is_copy, View, seen_object, is_frozen, Seen, method_named}
use Rattle.vale_rules_spec.specs.Typed.{Expr, expr, name, steps, Callee, built_in, Step, field, method, index, Steps, no_steps, more_steps, Item, struct_item, interface_item, impl_item, function_item, function_body, seen}
use Rattle.vale_rules_spec.specs.TypeRules.{is_imm, is_iso, is_owned_place, popped, field_types, param_types, method_takes, kind_in_view}

abbrev pub is_ref : Ty → Bool
is_ref (ref x) = true
is_ref _ = false

abbrev pub is_reference : Ty → Bool
is_reference t = is_ref t || is_imm t

-- ---- an `&imm X` where an `&X` is asked for

abbrev pub thaws : Ty → Ty → Bool
thaws t asked = is_imm t && is_ref asked

-- one of them does, where those are asked for
abbrev pub any_thaws : List Ty → List Ty → Bool
any_thaws [] asked = false
any_thaws (t ∷ ts) [] = false
any_thaws (t ∷ ts) (u ∷ us) = thaws t u || any_thaws ts us

-- ---- what items ask for

abbrev pub name_of : Item → Option ℕ
name_of (struct_item n fs) = Some n.name.0
name_of (interface_item n hs) = Some n.name.0
name_of (impl_item at i s fs) = None
name_of (function_item (function_body h body)) = Some (head_name h).name.0

abbrev pub is_name : Option ℕ → ℕ → Bool
is_name None n = false
is_name (Some m) n = m == n

-- the item of this name, of which a declared program has one
abbrev pub item_named : List Item → ℕ → Option Item
item_named [] n = None
item_named (x ∷ xs) n = if is_name (name_of x) n then Some x else item_named xs n

-- a constructor or a function
abbrev pub takes_of : Option Item → List Ty
takes_of (Some (struct_item n fs)) = field_types fs
takes_of (Some (function_item (function_body h body))) = param_types (head_params h)
takes_of _ = []

abbrev pub methods_in : Option Item → List Head
methods_in (Some (interface_item n hs)) = hs
methods_in _ = []

-- the method of this name that a step calls
abbrev pub method_called : List Item → View → ℕ → Option Head
method_called items v n = method_named (methods_in (option_and_then (item_named items) (kind_in_view (seen_object v)))) n

-- ---- calls

-- `push` and `pop` change their array
abbrev pub changes_frozen : Callee → List Ty → Bool
changes_frozen (built_in b.Push) (t ∷ ts) = is_imm t
changes_frozen (built_in b.Pop) (t ∷ ts) = is_imm t
changes_frozen _ _ = false

-- what is pushed becomes an element
abbrev pub built_in_thaws : BuiltIn → List Ty → Bool
built_in_thaws b.Push (t ∷ u ∷ ts) = thaws u (popped t)
built_in_thaws _ _ = false

abbrev pub call_thaws : List Item → NameAt → Callee → List Ty → Bool
call_thaws items n (built_in f) args = built_in_thaws f args
call_thaws items n _ args = any_thaws args (takes_of (item_named items n.name.0))

abbrev pub call_rules : List Item → NameAt → Callee → List Ty → Rules
call_rules items n f args = (40, not (changes_frozen f args)) ∷ (41, not (call_thaws items n f args)) ∷ []

-- a method that takes its object as `&` is called through an `&imm`
abbrev pub receiver_thaws : View → Head → Bool
receiver_thaws v (head is_pure n [] x) = false
receiver_thaws v (head is_pure n (p ∷ ps) x) = is_frozen v && is_ref (type_of (param_type p))

abbrev pub method_thaws : View → Option Head → List Ty → Bool
method_thaws v None args = false
method_thaws v (Some h) args = receiver_thaws v h || any_thaws args (method_takes h)

abbrev pub method_rules : View → Option Head → List Ty → Rules
method_rules v h args = (41, not (method_thaws v h args)) ∷ []

-- `[]T(args)`
abbrev pub array_rules : Ty → List Ty → Rules
array_rules t args = (41, not (list_any (λ a. thaws a t) args)) ∷ []

-- ---- names, and `set p = e`

-- an outer owner or isolate is named as a value
abbrev pub name_rules : Bool → Seen → Bool → Rules
name_rules as_value s is_outer = (42, not (as_value && (is_outer && is_owned_place s.place))) ∷ []

abbrev pub step_is_frozen : Step → Bool
step_is_frozen (field s v may_be_set at n) = is_frozen v
step_is_frozen (method s v at n es) = is_frozen v
step_is_frozen (index s v at e) = is_frozen v

-- the last step sees its base as `&imm`
abbrev pub last_is_frozen : Steps → Bool
last_is_frozen no_steps = false
last_is_frozen (more_steps s no_steps) = step_is_frozen s
last_is_frozen (more_steps s ss) = last_is_frozen ss

abbrev pub is_frozen_place : Expr → Bool
is_frozen_place (expr s (steps e ss)) = last_is_frozen ss
is_frozen_place _ = false

abbrev pub is_outer_local : Expr → Bool
is_outer_local (expr s (name n is_outer is_moved)) = is_outer
is_outer_local _ = false

abbrev pub set_rules : Expr → Ty → Rules
set_rules p t =
    (40, not (is_frozen_place p))
    ∷ (41, not (option_map_or (thaws t) (seen p).place false))
    ∷ (42, not (is_outer_local p)) ∷ []

-- ---- blocks and `return`

-- the block of a `pure`
abbrev pub pure_rules : Ty → Rules
pure_rules t = (41, not (is_reference t)) ∷ []

abbrev pub return_rules : Around → Ty → Rules
return_rules r t = (41, not (is_imm t && r.gives_ref)) ∷ (44, not r.is_inside) ∷ []

abbrev pub return_nothing_rules : Around → Rules
return_nothing_rules r = (44, not r.is_inside) ∷ []

-- ---- heads of pure functions and methods

abbrev pub may_be_passed : Ty → Bool
may_be_passed t = is_copy t || (is_imm t || is_iso t)

abbrev pub param_rules : Param → Rules
param_rules p = (43, may_be_passed (type_of (param_type p))) ∷ []

abbrev pub result_rules : Option TypeExpr → Rules
result_rules x = (43, not (is_reference (result_of x))) ∷ []
