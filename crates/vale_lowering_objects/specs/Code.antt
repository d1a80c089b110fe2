-- The code of a whole program: its texts, its kinds and its functions.
use Rattle.std.specs.Prelude.{ℕ, suc, ◌+◌, max, Bool, ◌&&◌, ◌==◌, List, [], ◌∷◌, ◌++◌, length, map, flat_map, Option, Some, None, codes, option_map, if◌then◌else◌}
use Rattle.vale_syntax.specs.Tree.{FieldDecl, field_decl, Head, head}
use Rattle.vale_rules_spec.specs.Declarations.{head_params, head_name, param_type}
use Rattle.vale_rules_spec.specs.Types.{Ty, type_of, result_of}
use Rattle.vale_rules_spec.specs.Types as y
use Rattle.vale_rules_spec.specs.Typed.{Function, Item, interface_item, Typed}
use Rattle.vale_model.specs.Kinds.{head_of}
use Rattle.vale_model.specs.Parts.{Parts, parts_of, name_text, name_of, functions_of, has_text, takes_struct, fields_in, is_pure}
use Rattle.vale_code.specs.Operands.{room_for}
use Rattle.vale_code.specs.Parts.{Parts as Code}
use Rattle.vale_code.specs.declared.func.Func.{Func}
use Rattle.vale_code.specs.declared.instr.Instr.{Instr}
use Rattle.vale_code.specs.declared.kind.Field.{Field}
use Rattle.vale_code.specs.declared.kind.MethodInfo.{MethodInfo}
use Rattle.vale_code.specs.declared.kind.KindInfo.{KindInfo}
use Rattle.vale_code.specs.declared.kind.KindInfo.TheVariants as k
use Rattle.vale_lowering.specs.Scopes.{number_of_function, number_of_text, result_type}
use Rattle.vale_lowering_objects.specs.Destruction.{SameKinds}
use Rattle.vale_lowering_objects.specs.Program.{IsCode, code_type, form_number, lowered_body, names_in}
use Rattle.vale_lowering_objects.specs.Quotes.{function_quotes}

-- ---- kinds

abbrev pub is_destructor_of : Parts → ℕ → Function → Bool
is_destructor_of p s f = has_text p (codes "drop") f && takes_struct s (head_params (head_of f))

-- the number of the first function that the test accepts, where there is one
abbrev pub function_with : (Function → Bool) → List Function → Option ℕ
function_with test [] = None
function_with test (f ∷ fs) = if test f then Some 0 else option_map (λ j. suc j) (function_with test fs)

abbrev pub code_field : Parts → FieldDecl → Field
code_field p (field_decl n may_be_set x) = record { ty = code_type p (type_of x); mutable = may_be_set }

abbrev pub code_method : Parts → List (List ℕ) → Head → MethodInfo
code_method p texts (head is_pure n ps x) = record {
  name = number_of_text (name_text p n.name.0) texts;
  is_pure = is_pure;
  params = map (λ q. code_type p (type_of (param_type q))) ps;
  result = code_type p (result_of x);
}

-- the methods of an interface, where this is one
abbrev pub methods_in : ℕ → Item → List (List Head)
methods_in i (interface_item n hs) = if n.name.0 == i then hs ∷ [] else []
methods_in i _ = []

abbrev pub kind_of_name : Parts → List (List ℕ) → List Function → ℕ → List (List Head) → KindInfo
kind_of_name p texts fs s [] = k.Struct (number_of_text (name_text p s) texts) (function_with (is_destructor_of p s) fs) (map (code_field p) (flat_map (fields_in s) p.items))
kind_of_name p texts fs s (hs ∷ more) = k.Interface (number_of_text (name_text p s) texts) (map (code_method p texts) hs)

abbrev pub kind_info : Parts → List (List ℕ) → List Function → Ty → KindInfo
kind_info p texts fs (y.kind s) = kind_of_name p texts fs s (flat_map (methods_in s) p.items)
kind_info p texts fs (y.array x) = k.Array (code_type p x)
kind_info p texts fs x = k.Array (code_type p x)

-- ---- texts

abbrev pub kind_names : Parts → Ty → List (List ℕ)
kind_names p (y.kind s) = name_text p s ∷ []
kind_names p x = []

abbrev pub method_names : Parts → Item → List (List ℕ)
method_names p (interface_item n hs) = map (λ h. name_text p (head_name h).name.0) hs
method_names p _ = []

-- The names of the functions, of the kinds and of their methods, and then the quotes, in the order of the program.
abbrev pub texts_of : Parts → List Function → List (List ℕ)
texts_of p fs = map (λ f. name_text p (name_of f)) fs ++ (flat_map (kind_names p) p.kinds ++ flat_map (method_names p) p.items ++ flat_map function_quotes fs)

-- ---- functions

-- more than each register that one of these instructions names
abbrev pub registers_in : List Instr → ℕ
registers_in [] = 0
registers_in (x ∷ xs) = max (room_for x) (registers_in xs)

abbrev pub lowered_function : Parts → List (List ℕ) → List Function → Function → Func
lowered_function p texts fs f = record {
  name = number_of_text (name_text p (name_of f)) texts;
  form = form_number p f;
  params = map (λ q. code_type p (type_of (param_type q))) (head_params (head_of f));
  result = code_type p (result_type f);
  registers = max (length (names_in f) + 1) (registers_in (lowered_body p texts fs f));
  body = lowered_body p texts fs f;
}

abbrev pub functions_in : Parts → List Function
functions_in p = flat_map functions_of p.items

abbrev pub lowered_parts : Parts → Code
lowered_parts p = let fs = functions_in p in let texts = texts_of p fs in record {
  texts = texts;
  kinds = map (kind_info p texts fs) p.kinds;
  impls = [];
  funcs = map (lowered_function p texts fs) fs;
  main = number_of_function (has_text p (codes "main")) fs;
}

-- the code of a program
abbrev pub lowered : Typed → Code
lowered program = lowered_parts (parts_of program)

-- The code of a program has its functions' lowered code, where its kinds are those of the program.
abbrev pub CodeOfProgram : Type 0
CodeOfProgram = (program : Typed) → SameKinds (lowered program) (functions_in (parts_of program)) (parts_of program) → IsCode (lowered program) (parts_of program) (functions_in (parts_of program))
