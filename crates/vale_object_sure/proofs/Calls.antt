-- What lowered code calls may be called.
use Rattle.std.proofs.Common.{◌≡◌, ℕ, suc, Bool, true, false, ◌&&◌, if◌then◌else◌, List, [], ◌∷◌, map, Option, Some, None, option_map, slice_get, refl, sym, ap, ◌∙◌}
use Rattle.std.proofs.lemmas.Option.{slice_get-map}
use Rattle.vale_syntax.specs.Tree.{Param}
use Rattle.vale_rules_spec.specs.Declarations.{head_params, param_type}
use Rattle.vale_rules_spec.specs.Types.{Ty, void, int, bool, str, kind, array, ref, imm, iso, type_of}
use Rattle.vale_rules_spec.specs.Typed.{Function}
use Rattle.vale_model.specs.Kinds.{head_of}
use Rattle.vale_model.specs.Parts.{Parts, has_name, first_function, is_pure}
use Rattle.vale_code.specs.declared.func.Func.{Func}
use Rattle.vale_code.specs.declared.ty.Ty.{Ty as CodeTy}
use Rattle.vale_code.specs.declared.ty.Ty.TheVariants as t
use Rattle.vale_lowering.specs.Scopes.{number_of_function, result_type}
use Rattle.vale_lowering_objects.specs.Code.{functions_in, lowered_function, lowered_parts, texts_of}
use Rattle.vale_lowering_objects.specs.Lowered.{all_gives, param_gives_of, result_gives, is_destructor, may_be_called}
use Rattle.vale_lowering_objects.specs.Program.{code_type}
use Rattle.vale_lowering_objects.specs.Scopes.{Gives, copy, owner, gives_of, agree, all_agree}
use Rattle.vale_lowering_objects.specs.Scopes as g
use Rattle.vale_object_facts.specs.Suits.{code_types}
use Rattle.vale_object_sure.proofs.Callees.{AllCallable, agree_same}
use Rattle.vale_object_sure.proofs.Ties.{both_true}

-- what values of a type of the code are
abbrev code_gives : CodeTy → Gives
code_gives t.Void = g.void
code_gives (t.Own k) = owner
code_gives (t.Iso k) = owner
code_gives _ = copy

type_gives : (p : Parts) (x : Ty) → code_gives (code_type p x) ≡ gives_of x
type_gives p void = refl
type_gives p int = refl
type_gives p bool = refl
type_gives p str = refl
type_gives p (kind n) = refl
type_gives p (array x) = refl
type_gives p (ref x) = refl
type_gives p (imm x) = refl
type_gives p (iso x) = refl

same_gives : (p : Parts) (x z : Ty) → code_type p x ≡ code_type p z → gives_of x ≡ gives_of z
same_gives p x z e = sym (type_gives p x) ∙ ap code_gives e ∙ type_gives p z

params_agree : (p : Parts) (ps : List Param) (ts : List Ty) → map (λ q. code_type p (type_of (param_type q))) ps ≡ code_types p ts → all_agree (all_gives ts) (param_gives_of ps) ≡ true
params_agree p [] [] e = refl
params_agree p [] (x ∷ ts) e = absurd (cc)
params_agree p (q ∷ ps) [] e = absurd (cc)
params_agree p (q ∷ ps) (x ∷ ts) e =
    let first : code_type p (type_of (param_type q)) ≡ code_type p x = cc in
    let rest : map (λ q. code_type p (type_of (param_type q))) ps ≡ code_types p ts = cc in
    both_true (agree (gives_of x) (gives_of (type_of (param_type q)))) (all_agree (all_gives ts) (param_gives_of ps)) (agree_same (gives_of x) (gives_of (type_of (param_type q))) (sym (same_gives p (type_of (param_type q)) x first))) (params_agree p ps ts rest)

-- a function's number leads to it
first_at : (test : Function → Bool) (fs : List Function) → slice_get fs (number_of_function test fs) ≡ first_function test fs
first_at test [] = refl
first_at test (f ∷ fs) = by (test f) (first_at test fs)
  where
    by : (b : Bool) → slice_get fs (number_of_function test fs) ≡ first_function test fs → slice_get (f ∷ fs) (if b then 0 else suc (number_of_function test fs)) ≡ (if b then Some f else first_function test fs)
    by true law = refl
    by false law = law

abbrev form_by : Bool → Bool → ℕ
form_by a b = if a then 1 else (if b then 3 else 0)

plain_form : (a b : Bool) → form_by a b ≡ 0 → b ≡ false
plain_form true b e = absurd (cc)
plain_form false true e = absurd (cc)
plain_form false false e = refl

called_by : (p : Parts) (texts : List (List ℕ)) (fs : List Function) (ts : List Ty) (x : Ty) (func : Func) (o : Option Function) → option_map (lowered_function p texts fs) o ≡ Some func → func.form ≡ 0 → func.params ≡ code_types p ts → func.result ≡ code_type p x → may_be_called p (gives_of x) (all_gives ts) o ≡ true
called_by p texts fs ts x func None e plain takes gives = absurd (cc)
called_by p texts fs ts x func (Some f) e plain takes gives =
    let same : lowered_function p texts fs f ≡ func = cc in
    let kept : is_destructor p f ≡ false = plain_form (is_pure f) (is_destructor p f) (ap (λ q. q.form) same ∙ plain) in
    ap (λ b. if b then false else agree (gives_of x) (result_gives f) && all_agree (all_gives ts) (param_gives_of (head_params (head_of f)))) kept
    ∙ both_true (agree (gives_of x) (result_gives f)) (all_agree (all_gives ts) (param_gives_of (head_params (head_of f))))
    (agree_same (gives_of x) (result_gives f) (sym (same_gives p (result_type f) x (ap (λ q. q.result) same ∙ gives)))) (params_agree p (head_params (head_of f)) ts (ap (λ q. q.params) same ∙ takes))

pub all_callable : (p : Parts) → AllCallable p (lowered_parts p) (functions_in p)
all_callable p n ts x called =
    let fs = functions_in p in
    let texts = texts_of p fs in
    let number = number_of_function (has_name n.name.0) fs in
    let here : option_map (lowered_function p texts fs) (first_function (has_name n.name.0) fs) ≡ Some called.func =
    ap (option_map (lowered_function p texts fs)) (sym (first_at (has_name n.name.0) fs)) ∙ sym (slice_get-map (lowered_function p texts fs) fs number) ∙ called.here in
    called_by p texts fs ts x called.func (first_function (has_name n.name.0) fs) here called.plain called.takes called.gives
