-- What is emitted of one node, by cases.
use Rattle.std.proofs.Common.{◌≡◌, ℕ, suc, ◌<◌, List, [], ◌∷◌, Option, None, Some, length, get_or, refl, ap, arith, rules}
use Rattle.std.specs.Prelude.{Bool, true, false, ◌&&◌, nat_le, if◌then◌else◌}
use Rattle.std.specs.List.{list_all}
use Rattle.vale_base.specs.Limits.{text_limit}
use Rattle.vale_syntax.specs.declared.tree.NameAt.{NameAt}
use Rattle.vale_rules_spec.specs.Typed as t
use Rattle.vale_core.specs.declared.tree.Expr.{Expr, out-Expr}
use Rattle.vale_core.specs.View.{view_seen, view_expr, view_node}
use Rattle.vale_core.proofs.ViewLaws as v
use Rattle.vale_code.specs.declared.instr.Instr.{Instr}
use Rattle.vale_code.specs.declared.instr.Instr.TheVariants as i
use Rattle.vale_model.specs.Parts.{has_name, first_function}
use Rattle.vale_lowering.specs.Instructions.{stuck, only_if, store, exchange, registers_from}
use Rattle.vale_lowering.specs.Lowered.{call_code, set_code, store_code}
use Rattle.vale_lowering.specs.Scopes.{Scope, Around, number_of_function, may_be_called}
use Rattle.vale_syntax.specs.Bytes.{is_byte}
use Rattle.vale_lowering.specs.Texts.{is_lawful_text}
use Rattle.vale_core.proofs.PartLaws.{of_out_expr}
use Rattle.vale_lower_expr.specs.Held.{called}
use Rattle.vale_lower_expr.specs.Places.{place_named, is_set}

pub place_by_parts : (e : Expr) (s : Scope) → place_named (view_expr e) s ≡ place_named (t.expr (view_seen (out-Expr e).seen) (view_node (out-Expr e).node)) s
place_by_parts e s = ap (λ z. place_named z s) (of_out_expr e)

pub ruleset places = (place_by_parts, v.of_set, v.of_chain, v.of_unary, v.of_steps, v.of_number, v.of_quote, v.of_truth, v.of_name, v.of_call, v.of_paren, v.of_elements, v.of_isolate, v.of_form)

pub set_test_by_parts : (e : Expr) → is_set (view_expr e) ≡ is_set (t.expr (view_seen (out-Expr e).seen) (view_node (out-Expr e).node))
set_test_by_parts e = ap is_set (of_out_expr e)

pub ruleset sets = (set_test_by_parts, v.of_set, v.of_chain, v.of_unary, v.of_steps, v.of_number, v.of_quote, v.of_truth, v.of_name, v.of_call, v.of_paren, v.of_elements, v.of_isolate, v.of_form)

pub set_by_place : (p : t.Expr) (h : ℕ) (s : Scope) → set_code p h s ≡ exchange (place_named p s) h
set_by_place (t.expr x (t.set at p e)) h s = refl
set_by_place (t.expr x (t.chain e ls)) h s = refl
set_by_place (t.expr x (t.unary at op e)) h s = refl
set_by_place (t.expr x (t.steps e ss)) h s = refl
set_by_place (t.expr x (t.number at n)) h s = refl
set_by_place (t.expr x (t.quote at text)) h s = refl
set_by_place (t.expr x (t.truth at b)) h s = refl
set_by_place (t.expr x (t.name n is_outer moved)) h s = refl
set_by_place (t.expr x (t.call n f es)) h s = refl
set_by_place (t.expr x (t.paren at e)) h s = refl
set_by_place (t.expr x (t.array at y es)) h s = refl
set_by_place (t.expr x (t.iso at b)) h s = refl
set_by_place (t.expr x (t.form f)) h s = refl

pub store_by_place : (p : t.Expr) (h : ℕ) (s : Scope) → store_code p h s ≡ store (place_named p s) h
store_by_place (t.expr x (t.set at p e)) h s = refl
store_by_place (t.expr x (t.chain e ls)) h s = refl
store_by_place (t.expr x (t.unary at op e)) h s = refl
store_by_place (t.expr x (t.steps e ss)) h s = refl
store_by_place (t.expr x (t.number at n)) h s = refl
store_by_place (t.expr x (t.quote at text)) h s = refl
store_by_place (t.expr x (t.truth at b)) h s = refl
store_by_place (t.expr x (t.name n is_outer moved)) h s = refl
store_by_place (t.expr x (t.call n f es)) h s = refl
store_by_place (t.expr x (t.paren at e)) h s = refl
store_by_place (t.expr x (t.array at y es)) h s = refl
store_by_place (t.expr x (t.iso at b)) h s = refl
store_by_place (t.expr x (t.form f)) h s = refl

abbrev pub call_of : Option ℕ → NameAt → ℕ → ℕ → List Instr
call_of None n values h = stuck h
call_of (Some f) n values h = i.Call h f (registers_from h values) n.at ∷ []

call_by : (b : Bool) (f h values : ℕ) (n : NameAt) → only_if b h (i.Call h f (registers_from h values) n.at ∷ []) ≡ call_of (if b then Some f else None) n values h
call_by true f h values n = refl
call_by false f h values n = refl

pub call_by_number : (around : Around) (gives : Bool) (n : NameAt) (values h : ℕ) → call_code around gives n values h ≡ call_of (called gives n.name.0 around.functions) n values h
call_by_number around gives n values h = call_by (may_be_called gives (first_function (has_name n.name.0) around.functions)) (number_of_function (has_name n.name.0) around.functions) h values n

all_bytes : (text : List ℕ) → ((k : ℕ) → get_or text k 0 < 256) → list_all is_byte text ≡ true
all_bytes [] each = refl
all_bytes (b ∷ text) each = rw (byte b (each 0), all_bytes text (λ k. each (suc k))) refl
  where
    byte : (b : ℕ) → b < 256 → is_byte b ≡ true
    byte b h = search (rules, arith)

pub lawful_text : (text : List ℕ) → ((k : ℕ) → get_or text k 0 < 256) → is_lawful_text text ≡ nat_le (length text) text_limit
lawful_text text each = rw (all_bytes text each) (and_true (nat_le (length text) text_limit))
  where
    and_true : (a : Bool) → (a && true) ≡ a
    and_true true = refl
    and_true false = refl
