-- Numbers of texts and functions: what is found by hash is what is found by walking.
use Rattle.std.proofs.Common.{◌≡◌, ℕ, suc, ◌+◌, ◌<◌, List, [], ◌∷◌, length, get_or, drop, Option, Some, None, refl, ap, sym, ◌∙◌, arith}
use Rattle.std.specs.Prelude.{Bool, true, false, not, ◌&&◌, bytes_eq, if◌then◌else◌}
use Rattle.std.proofs.lemmas.List.{drop_more}
use Rattle.std.proofs.lemmas.Slice.Eq.{bytes_eq-Decides}
use Rattle.vale_rules_spec.specs.Typed.{Function}
use Rattle.vale_rules_spec.specs.Types.{is_copy}
use Rattle.vale_model.specs.Parts.{is_pure, has_name, first_function}
use Rattle.vale_lowering.specs.Scopes.{agree, number_of_text, number_of_function, may_be_called, result_type}
use Rattle.vale_lower_expr.specs.declared.functions.Callable.{Callable}
use Rattle.vale_lower_expr.specs.Found.{or_else}
use Rattle.vale_lower_expr.specs.Numbered.{or_count, callable, callable_from}
use Rattle.vale_lower_expr.specs.Held.{called}

eq_sym : (x y : List ℕ) (a b : Bool) → bytes_eq x y ≡ a → bytes_eq y x ≡ b → bytes_eq x y ≡ bytes_eq y x
eq_sym x y true true h g = h ∙ sym g
eq_sym x y false false h g = h ∙ sym g
eq_sym x y true false h g = let same : x ≡ y = (bytes_eq-Decides x y).0 h in h ∙ sym ((bytes_eq-Decides y x).1 (sym same))
eq_sym x y false true h g = let same : y ≡ x = (bytes_eq-Decides y x).0 g in (bytes_eq-Decides x y).1 (sym same) ∙ sym g

text_step_by : (o : Option ℕ) (b : Bool) (at rest : ℕ) → or_count (or_else o (if b then Some at else None)) ((at + 1) + rest) ≡ or_count o (at + (if b then 0 else suc rest))
text_step_by (Some n) b at rest = refl
text_step_by None true at rest = omega arith
text_step_by None false at rest = omega arith

-- one text more
pub text_step : (o : Option ℕ) (text u : List ℕ) (at : ℕ) (us : List (List ℕ)) → or_count (or_else o (if bytes_eq u text then Some at else None)) ((at + 1) + number_of_text text us) ≡ or_count o (at + number_of_text text (u ∷ us))
text_step o text u at us =
    ap (λ (b : Bool). or_count (or_else o (if b then Some at else None)) ((at + 1) + number_of_text text us)) (eq_sym u text (bytes_eq u text) (bytes_eq text u) refl refl)
    ∙ text_step_by o (bytes_eq text u) at (number_of_text text us)

-- a function is added after those that were there, before those that are left
pub add_callable : (o : Option Callable) (b : Bool) (c : Callable) (rest : Option Callable) → or_else (or_else o (if b then Some c else None)) rest ≡ or_else o (if b then Some c else rest)
add_callable None true c rest = refl
add_callable None false c rest = refl
add_callable (Some k) b c rest = refl

abbrev number_where : Bool → Option Callable → Option ℕ
number_where gives None = None
number_where gives (Some c) = if not c.is_pure && agree gives c.gives then Some c.number else None

here_by : (p q : Bool) (at : ℕ) → (if not p && q then Some at else None) ≡ (if (if p then false else q) then Some (at + 0) else None)
here_by true q at = refl
here_by false true at = ap Some (let e : at ≡ at + 0 = omega arith in e)
here_by false false at = refl

later_by : (b : Bool) (at n : ℕ) → (if b then Some ((at + 1) + n) else None) ≡ (if b then Some (at + suc n) else None)
later_by true at n = ap Some (let e : (at + 1) + n ≡ at + suc n = omega arith in e)
later_by false at n = refl

called_if : (gives b : Bool) (f : Function) (more : Option Callable) (found : Option Function) (n at : ℕ)
    → number_where gives more ≡ (if may_be_called gives found then Some ((at + 1) + n) else None)
    → number_where gives (if b then Some (callable at f) else more) ≡ (if may_be_called gives (if b then Some f else found) then Some (at + (if b then 0 else suc n)) else None)
called_if gives true f more found n at law = here_by (is_pure f) (agree gives (is_copy (result_type f))) at
called_if gives false f more found n at law = law ∙ later_by (may_be_called gives found) at n

called_at : (gives : Bool) (at n : ℕ) (fs : List Function) → number_where gives (callable_from at n fs) ≡ (if may_be_called gives (first_function (has_name n) fs) then Some (at + number_of_function (has_name n) fs) else None)
called_at gives at n [] = refl
called_at gives at n (f ∷ fs) =
    called_if gives (has_name n f) f (callable_from (at + 1) n fs) (first_function (has_name n) fs) (number_of_function (has_name n) fs) at (called_at gives (at + 1) n fs)

zero_first : (b : Bool) (n : ℕ) → (if b then Some (0 + n) else None) ≡ (if b then Some n else None)
zero_first true n = ap Some (let e : 0 + n ≡ n = omega arith in e)
zero_first false n = refl

pub called_from : (gives : Bool) (n : ℕ) (fs : List Function) → called gives n fs ≡ number_where gives (callable_from 0 n fs)
called_from gives n fs = sym (called_at gives 0 n fs ∙ zero_first (may_be_called gives (first_function (has_name n) fs)) (number_of_function (has_name n) fs))

-- one text more, of those from a place on
pub text_next : (old new : Option ℕ) (q u v : List ℕ) (i : ℕ) (all : List (List ℕ)) → i < length all → u ≡ get_or all i u → v ≡ u
    → new ≡ or_else old (if bytes_eq v q then Some i else None) → or_count old (i + number_of_text q (drop i all)) ≡ number_of_text q all
    → or_count new ((i + 1) + number_of_text q (drop (i + 1) all)) ≡ number_of_text q all
text_next old new q u v i all lt is same e so_far =
    let one : drop i all ≡ u ∷ drop (i + 1) all = drop_more all i u lt ∙ ap (λ (x : List ℕ). x ∷ drop (i + 1) all) (sym is) in
    ap (λ (o : Option ℕ). or_count o ((i + 1) + number_of_text q (drop (i + 1) all))) (e ∙ ap (λ (x : List ℕ). or_else old (if bytes_eq x q then Some i else None)) same)
    ∙ (text_step old q u i (drop (i + 1) all) ∙ (ap (λ (z : List (List ℕ)). or_count old (i + number_of_text q z)) (sym one) ∙ so_far))
