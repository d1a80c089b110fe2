-- The code of a program has, for each of its functions, that function's lowered code.
use Rattle.std.proofs.Common.{◌≡◌, ℕ, ◌++◌, map, Some, refl, ap, ◌∙◌}
use Rattle.std.specs.Prelude.{slice_get, option_map, flat_map}
use Rattle.std.proofs.lemmas.Option.{slice_get-map}
use Rattle.vale_rules_spec.specs.Typed.{Function}
use Rattle.vale_model.specs.Parts.{Parts, parts_of, name_of, name_text}
use Rattle.vale_code.specs.Kinds.{text_or_none}
use Rattle.vale_lowering.proofs.Lookups.{found_text, in_front}
use Rattle.vale_lowering_objects.specs.Code.{CodeOfProgram, functions_in, texts_of, lowered_function, lowered_parts, kind_names, method_names}
use Rattle.vale_lowering_objects.specs.Program.{IsLowered}
use Rattle.vale_lowering_objects.specs.Quotes.{function_quotes}

pub func_here : (p : Parts) (j : ℕ) (f : Function) → slice_get (functions_in p) j ≡ Some f → slice_get (lowered_parts p).funcs j ≡ Some (lowered_function p (texts_of p (functions_in p)) (functions_in p) f)
func_here p j f e =
    let fs = functions_in p in
    let low = lowered_function p (texts_of p fs) fs in
    slice_get-map low fs j ∙ ap (option_map low) e

pub is_lowered : (p : Parts) (j : ℕ) (f : Function) → slice_get (functions_in p) j ≡ Some f → IsLowered (lowered_parts p) p (functions_in p) j f
is_lowered p j f e =
    let fs = functions_in p in
    let names = map (λ f. name_text p (name_of f)) fs in
    let others = flat_map (kind_names p) p.kinds ++ flat_map (method_names p) p.items ++ flat_map function_quotes fs in
    let here = slice_get-map (λ f. name_text p (name_of f)) fs j ∙ ap (option_map (λ f. name_text p (name_of f))) e in record {
      func = lowered_function p (texts_of p fs) fs f;
      here = func_here p j f e;
      form = refl;
      params = refl;
      result = refl;
      name = ap text_or_none (found_text (name_text p (name_of f)) (texts_of p fs) j (in_front names others j (name_text p (name_of f)) here));
      body = refl;
    }

pub code_of_program : CodeOfProgram
code_of_program program kinds = record { all = refl; at = is_lowered (parts_of program); kinds = kinds }
