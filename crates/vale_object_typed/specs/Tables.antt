-- What the tables of a code have of a program.
use Rattle.std.specs.Prelude.{◌≡◌, ℕ, true, false, List, Some, slice_get}
use Rattle.std.specs.List.{list_any}
use Rattle.vale_syntax.specs.declared.tree.NameAt.{NameAt}
use Rattle.vale_syntax.specs.Tree.{Head, FieldDecl, Item}
use Rattle.vale_rules_spec.specs.Declarations.{head_params}
use Rattle.vale_rules_spec.specs.TypeRules.{called, program, field_types, param_types, is_pure_head, head_gives}
use Rattle.vale_rules_spec.specs.Typing.{type_in}
use Rattle.vale_rules_spec.specs.Types.{Ty, kind, array, same, View, seen_object, fields_of, field_named}
use Rattle.vale_rules_spec.specs.Typed.{Function}
use Rattle.vale_model.specs.Parts.{Parts, kind_of, has_name}
use Rattle.vale_code.specs.Kinds as code
use Rattle.vale_code.specs.Parts.{Parts as Code}
use Rattle.vale_code.specs.declared.func.Func.{Func}
use Rattle.vale_cert.specs.Objects.{item_of, fields_of as code_fields}
use Rattle.vale_lowering.specs.Scopes.{number_of_function}
use Rattle.vale_lowering_objects.specs.Program.{code_type}
use Rattle.vale_object_facts.specs.Suits.{code_types, HasField}

-- a function of this head, which isn't pure, is one of the code's
pub record HasFunction (p : Parts) (c : Code) (functions : List Function) (n : ℕ) (h : Head) : Type 0 where
  pub func : Func
  pub here : slice_get c.funcs (number_of_function (has_name n) functions) ≡ Some func
  pub plain : func.form ≡ 0
  pub takes : func.params ≡ code_types p (param_types (head_params h))
  pub gives : func.result ≡ code_type p (head_gives h)

-- of the program with these names and these items
pub record HasTables (names : List (List ℕ)) (items : List Item) (p : Parts) (c : Code) (functions : List Function) : Type 0 where
  -- a struct has its fields
  pub made : (n : ℕ) (fs : List FieldDecl) → fields_of items n ≡ Some fs → code_fields (code.kind_of c (kind_of p (kind n))) ≡ Some (code_types p (field_types fs))
  pub field : (v : View) (n m : ℕ) (fs : List FieldDecl) (t : Ty) → seen_object v ≡ Some (kind n) → fields_of items n ≡ Some fs → type_in (field_named fs m) ≡ Some t → HasField p c v m t
  -- an array that is among the kinds has its elements
  pub elements : (x : Ty) → list_any (same (array x)) p.kinds ≡ true → item_of c (kind_of p (array x)) ≡ Some (code_type p x)
  pub callable : (n : NameAt) (h : Head) → called names items n ≡ program h → is_pure_head h ≡ false → HasFunction p c functions n.name.0 h
