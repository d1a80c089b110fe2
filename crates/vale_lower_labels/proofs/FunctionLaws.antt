-- The parameters and the labels of a function.
use Rattle.std.proofs.Common.{◌≡◌, ℕ, suc, ◌+◌, List, [], ◌∷◌, ◌++◌, length, Option, None, Some, refl, ap, sym, ◌∙◌}
use Rattle.std.specs.Prelude.{Bool, true, false, map, is_some, if◌then◌else◌}
use Rattle.vale_syntax.specs.declared.tree.Param.{Param}
use Rattle.vale_rules_spec.specs.Declarations.{head_params}
use Rattle.vale_rules_spec.specs.Types.{Ty, is_copy}
use Rattle.vale_rules_spec.specs.Typed as t
use Rattle.vale_syntax.specs.View.{view_param}
use Rattle.vale_code.specs.declared.ty.Ty.{Ty as CodeTy}
use Rattle.vale_cert.specs.declared.facts.Label.{Label}
use Rattle.vale_cert.specs.declared.facts.FuncFacts.{FuncFacts}
use Rattle.vale_model.specs.Kinds.{head_of, body_of}
use Rattle.vale_model.specs.Parts.{Parts, param_names}
use Rattle.vale_lowering.specs.Lowered.{lowered_function, around_of, names_in}
use Rattle.vale_lowering.specs.Scopes.{result_type, code_type}
use Rattle.vale_lower_facts.specs.Slots as s
use Rattle.vale_lower_facts.specs.Marks.{Marks, mark, value_type, param_slots, labels_from, last_of, entry_stand, function_marks, function_facts, block_due}
use Rattle.vale_rules_spec.specs.Returns.{block_returns}
use Rattle.vale_label_steps.specs.declared.labels.Labels.{Labels}
use Rattle.vale_lower_labels.specs.Bodies.{body_marks, plain_of}
use Rattle.vale_label_steps.specs.Progress.{Progress, progress, with_marks}
use Rattle.vale_lower_labels.proofs.PlainLaws.{same_block}
use Rattle.vale_label_steps.proofs.ProgressLaws.{in_turn, progress_is, with_marks_is}

pub names_length : (ps : List Param) → length (param_names (map view_param ps)) ≡ length ps
names_length [] = refl
names_length (p ∷ ps) = ap suc (names_length ps)

gives_by : (b : Bool) (x : CodeTy) → is_some (if b then Some x else None) ≡ b
gives_by true x = refl
gives_by false x = refl

pub gives : (x : Ty) → is_some (value_type x) ≡ is_copy x
gives x = gives_by (is_copy x) (code_type x)

-- the labels so far, where there were none before
pub labels_are : (l : Labels) (ms : Marks) (last : s.Last) (registers : ℕ) → progress l ≡ with_marks ms (record { last = last; registers = registers; labels = []; place = 0 }) → l.labels.items ≡ labels_from last registers 0 ms
labels_are l ms last registers e = ap (λ (p : Progress). p.labels) (sym (progress_is l) ∙ e ∙ with_marks_is ms (record { last = last; registers = registers; labels = []; place = 0 }))

pub body_is : (f : t.Function) → function_marks (plain_of f) f ≡ body_marks (is_some (value_type (result_type f))) (body_of f) (length (names_in f) + 1) (entry_stand f)
body_is f = ap (λ b. body_marks b (body_of f) (length (names_in f) + 1) (entry_stand f)) (sym (gives (result_type f)))

pub plain_facts : (p : Parts) (texts : List (List ℕ)) (fs : List t.Function) (f : t.Function) → function_marks (around_of texts fs f) f ≡ function_marks (plain_of f) f
plain_facts p texts fs f =
    ap (λ z. z ++ (mark (block_due (around_of texts fs f).gives false (body_of f) false) (s.behind (block_returns (body_of f)) (entry_stand f)) ∷ []))
    (same_block (around_of texts fs f) false (body_of f) (length (names_in f) + 1) (entry_stand f) false)

-- the labels of a function, by what its walk began with
pub function_by_parts : (f : t.Function) (l : Labels) (given : Option CodeTy) (next : ℕ) (slots : s.Slots) (over : Bool) (registers : ℕ) → given ≡ value_type (result_type f) → next ≡ length (names_in f)
    → slots ≡ param_slots 0 (head_params (head_of f)) [] → over ≡ false
    → progress l ≡ with_marks (body_marks (is_some given) (body_of f) (next + 1) (record { slots = slots; over = over })) (record { last = record { register = next; ty = given }; registers = registers; labels = []; place = 0 })
    → l.labels.items ≡ labels_from (last_of f) registers 0 (function_marks (plain_of f) f)
function_by_parts f l given next slots over registers eg en es eo e =
    let ty : Option CodeTy = value_type (result_type f) in
    let n : ℕ = length (names_in f) in
    let entry : s.Slots = param_slots 0 (head_params (head_of f)) [] in
    labels_are l (body_marks (is_some given) (body_of f) (next + 1) (record { slots = slots; over = over })) (record { register = next; ty = given }) registers e
    ∙ ap (λ (z : Option CodeTy). labels_from (record { register = next; ty = z }) registers 0 (body_marks (is_some z) (body_of f) (next + 1) (record { slots = slots; over = over }))) eg
    ∙ ap (λ (k : ℕ). labels_from (record { register = k; ty = ty }) registers 0 (body_marks (is_some ty) (body_of f) (k + 1) (record { slots = slots; over = over }))) en
    ∙ ap (λ (z : s.Slots). labels_from (record { register = n; ty = ty }) registers 0 (body_marks (is_some ty) (body_of f) (n + 1) (record { slots = z; over = over }))) es
    ∙ ap (λ (b : Bool). labels_from (record { register = n; ty = ty }) registers 0 (body_marks (is_some ty) (body_of f) (n + 1) (record { slots = entry; over = b }))) eo
    ∙ ap (λ (ms : Marks). labels_from (last_of f) registers 0 ms) (sym (body_is f))

abbrev facts_with : List ℕ → List Label → FuncFacts
facts_with live labels = record { live = live; labels = labels }

-- the facts of a function, by its labels
pub facts_by_parts : (p : Parts) (texts : List (List ℕ)) (fs : List t.Function) (f : t.Function) (registers : ℕ) (live : List ℕ) (labels : List Label) → (lowered_function p texts fs f).registers ≡ registers → live ≡ []
    → labels ≡ labels_from (last_of f) registers 0 (function_marks (plain_of f) f) → facts_with live labels ≡ function_facts p texts fs f
facts_by_parts p texts fs f registers live labels er ev el =
    ap (λ (ns : List ℕ). facts_with ns labels) ev
    ∙ ap (λ (ls : List Label). facts_with [] ls)
    (el
    ∙ ap (λ (k : ℕ). labels_from (last_of f) k 0 (function_marks (plain_of f) f)) (sym er)
    ∙ ap (λ (ms : Marks). labels_from (last_of f) (lowered_function p texts fs f).registers 0 ms) (sym (plain_facts p texts fs f)))

pub ruleset params = (names_length)

pub ruleset bodies = (in_turn)

pub ruleset functions = (labels_are, body_is)
