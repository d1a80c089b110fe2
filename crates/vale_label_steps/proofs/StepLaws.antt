-- The marks of one node, by cases.
use Rattle.std.proofs.Common.{◌≡◌, ℕ, zero, suc, [], ◌∷◌, Option, Some, None, refl, ap}
use Rattle.std.specs.Prelude.{Bool, true, false}
use Rattle.vale_base.specs.declared.spot.Spot.{Spot}
use Rattle.vale_syntax.specs.declared.tree.NameAt.{NameAt}
use Rattle.vale_syntax.specs.declared.built_in.BuiltIn.{BuiltIn}
use Rattle.vale_syntax.specs.declared.built_in.BuiltIn.TheVariants as b
use Rattle.vale_rules_spec.specs.Typed as t
use Rattle.vale_core.specs.declared.tree.Expr.{Expr, out-Expr}
use Rattle.vale_core.specs.declared.tree.Block.{Block, out-Block}
use Rattle.vale_core.specs.View.{view_ty, view_seen, view_expr, view_node, view_block}
use Rattle.vale_core.proofs.ViewLaws as v
use Rattle.vale_code.specs.declared.instr.Instr.{Instr}
use Rattle.vale_lowering.specs.Instructions.{exchange, store, built_in_code, only_if}
use Rattle.vale_lowering.specs.Lowered.{callee_code, set_code, store_code}
use Rattle.vale_lowering.specs.Scopes.{Scope, Around, place_of}
use Rattle.vale_lower_facts.specs.Slots.{Stand}
use Rattle.vale_lower_facts.specs.Marks.{Marks, mark, marked}
use Rattle.vale_label_steps.specs.Shapes.{is_found, sets_local}
use Rattle.vale_core.proofs.PartLaws.{of_out_expr, of_out_block}
use Rattle.vale_label_steps.proofs.ProgressLaws.{in_turn, no_marks}

pub place_by_parts : (e : Expr) (s : Scope) → sets_local (view_expr e) s ≡ sets_local (t.expr (view_seen (out-Expr e).seen) (view_node (out-Expr e).node)) s
place_by_parts e s = ap (λ z. sets_local z s) (of_out_expr e)

pub block_type_by_parts : (b : Block) → t.block_type (view_block b) ≡ view_ty (out-Block b).ty
block_type_by_parts b = ap t.block_type (of_out_block b)

-- as many as of a set
abbrev set_marks : Bool → Bool → Stand → Marks
set_marks true due s = mark due s ∷ None ∷ None ∷ []
set_marks false due s = mark due s ∷ []

module _ (due : Bool) (s : Stand) where
  marked_exchange : (o : Option ℕ) (h : ℕ) → marked due s (exchange o h) ≡ set_marks (is_found o) due s
  marked_exchange None h = refl
  marked_exchange (Some r) h = refl

  marked_store : (o : Option ℕ) (h : ℕ) → marked due s (store o h) ≡ mark due s ∷ []
  marked_store None h = refl
  marked_store (Some r) h = refl

  pub set_by_place : (p : t.Expr) (h : ℕ) (z : Scope) → marked due s (set_code p h z) ≡ set_marks (sets_local p z) due s
  set_by_place (t.expr x (t.set at p e)) h z = refl
  set_by_place (t.expr x (t.chain e ls)) h z = refl
  set_by_place (t.expr x (t.unary at op e)) h z = refl
  set_by_place (t.expr x (t.steps e ss)) h z = refl
  set_by_place (t.expr x (t.number at n)) h z = refl
  set_by_place (t.expr x (t.quote at text)) h z = refl
  set_by_place (t.expr x (t.truth at b)) h z = refl
  set_by_place (t.expr x (t.name n is_outer moved)) h z = marked_exchange (place_of n.name.0 z) h
  set_by_place (t.expr x (t.call n f es)) h z = refl
  set_by_place (t.expr x (t.paren at e)) h z = refl
  set_by_place (t.expr x (t.array at y es)) h z = refl
  set_by_place (t.expr x (t.iso at b)) h z = refl
  set_by_place (t.expr x (t.form f)) h z = refl

  pub of_store : (p : t.Expr) (h : ℕ) (z : Scope) → marked due s (store_code p h z) ≡ mark due s ∷ []
  of_store (t.expr x (t.set at p e)) h z = refl
  of_store (t.expr x (t.chain e ls)) h z = refl
  of_store (t.expr x (t.unary at op e)) h z = refl
  of_store (t.expr x (t.steps e ss)) h z = refl
  of_store (t.expr x (t.number at n)) h z = refl
  of_store (t.expr x (t.quote at text)) h z = refl
  of_store (t.expr x (t.truth at b)) h z = refl
  of_store (t.expr x (t.name n is_outer moved)) h z = marked_store (place_of n.name.0 z) h
  of_store (t.expr x (t.call n f es)) h z = refl
  of_store (t.expr x (t.paren at e)) h z = refl
  of_store (t.expr x (t.array at y es)) h z = refl
  of_store (t.expr x (t.iso at b)) h z = refl
  of_store (t.expr x (t.form f)) h z = refl

  marked_only : (b : Bool) (h : ℕ) (x : Instr) → marked due s (only_if b h (x ∷ [])) ≡ mark due s ∷ []
  marked_only true h x = refl
  marked_only false h x = refl

  marked_built_in : (f : BuiltIn) (n : ℕ) (gives : Bool) (at : Spot) (h : ℕ) → marked due s (built_in_code f n gives at h) ≡ mark due s ∷ []
  marked_built_in b.Print zero gives at h = refl
  marked_built_in b.Print (suc zero) true at h = refl
  marked_built_in b.Print (suc zero) false at h = refl
  marked_built_in b.Print (suc (suc n)) gives at h = refl
  marked_built_in b.Println zero gives at h = refl
  marked_built_in b.Println (suc zero) true at h = refl
  marked_built_in b.Println (suc zero) false at h = refl
  marked_built_in b.Println (suc (suc n)) gives at h = refl
  marked_built_in b.Len zero gives at h = refl
  marked_built_in b.Len (suc zero) true at h = refl
  marked_built_in b.Len (suc zero) false at h = refl
  marked_built_in b.Len (suc (suc n)) gives at h = refl
  marked_built_in b.Text zero gives at h = refl
  marked_built_in b.Text (suc zero) true at h = refl
  marked_built_in b.Text (suc zero) false at h = refl
  marked_built_in b.Text (suc (suc n)) gives at h = refl
  marked_built_in b.Slice zero gives at h = refl
  marked_built_in b.Slice (suc zero) gives at h = refl
  marked_built_in b.Slice (suc (suc zero)) gives at h = refl
  marked_built_in b.Slice (suc (suc (suc zero))) true at h = refl
  marked_built_in b.Slice (suc (suc (suc zero))) false at h = refl
  marked_built_in b.Slice (suc (suc (suc (suc n)))) gives at h = refl
  marked_built_in b.Byte zero gives at h = refl
  marked_built_in b.Byte (suc zero) gives at h = refl
  marked_built_in b.Byte (suc (suc zero)) true at h = refl
  marked_built_in b.Byte (suc (suc zero)) false at h = refl
  marked_built_in b.Byte (suc (suc (suc n))) gives at h = refl
  marked_built_in b.IsNumber zero gives at h = refl
  marked_built_in b.IsNumber (suc zero) true at h = refl
  marked_built_in b.IsNumber (suc zero) false at h = refl
  marked_built_in b.IsNumber (suc (suc n)) gives at h = refl
  marked_built_in b.Number zero gives at h = refl
  marked_built_in b.Number (suc zero) true at h = refl
  marked_built_in b.Number (suc zero) false at h = refl
  marked_built_in b.Number (suc (suc n)) gives at h = refl
  marked_built_in b.Drop n gives at h = refl
  marked_built_in b.Push n gives at h = refl
  marked_built_in b.Pop n gives at h = refl

  pub of_callee : (around : Around) (gives : Bool) (n : NameAt) (f : t.Callee) (values h : ℕ) → marked due s (callee_code around gives n f values h) ≡ mark due s ∷ []
  of_callee around gives n (t.built_in f) values h = marked_built_in f values gives n.at h
  of_callee around gives n t.constructor values h = refl
  of_callee around gives n (t.function is_pure) values h = marked_only _ h _

pub ruleset places = (place_by_parts, v.of_set, v.of_chain, v.of_unary, v.of_steps, v.of_number, v.of_quote, v.of_truth, v.of_name, v.of_call, v.of_paren, v.of_elements, v.of_isolate, v.of_form)

pub ruleset puts = (set_by_place, in_turn)

pub ruleset ends = (block_type_by_parts)

pub ruleset turns = (in_turn)
