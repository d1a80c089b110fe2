-- The marks of a part, by those of its own parts.
use Rattle.std.proofs.Common.{◌≡◌, ℕ, zero, suc, ◌+◌, List, [], ◌∷◌, ◌++◌, length, refl, ap, sym, ◌∙◌, append_assoc, append-nil, rules}
use Rattle.std.specs.Prelude.{Bool, true, false, ◌&&◌, Option, None, Some, map, option_map, if◌then◌else◌}
use Rattle.vale_rules_spec.specs.Types.{is_copy, int}
use Rattle.vale_rules_spec.specs.Typed as t
use Rattle.vale_rules_spec.specs.Typed.{type, block_type}
use Rattle.vale_syntax.specs.View.{listed}
use Rattle.vale_core.specs.declared.tree.Expr.{Expr, out-Expr}
use Rattle.vale_core.specs.declared.tree.Block.{Block, out-Block}
use Rattle.vale_core.specs.declared.tree.ElseIf.{ElseIf, out-ElseIf}
use Rattle.vale_core.specs.declared.tree.Link.{Link, out-Link}
use Rattle.vale_core.specs.View.{view_ty, view_expr, view_node, view_stmt, view_block, view_else_if, view_link, stmts_of}
use Rattle.vale_core.proofs.ViewLaws as v
use Rattle.vale_lowering.specs.Scopes.{Around}
use Rattle.vale_rules_spec.specs.Types as y
use Rattle.vale_lower_facts.specs.Slots.{Stand, with_slot, local, holds, given, behind, scope_at}
use Rattle.vale_rules_spec.specs.Returns.{block_returns}
use Rattle.vale_lower_facts.specs.Marks.{Marks, mark, expr_marks, value_marks, node_marks, links_marks, elses_marks, block_marks, stmts_marks, unused_marks, only_marks, link_marks, expr_due, value_due, node_due, links_due, link_due, block_due, stmts_due, unused_due}
use Rattle.vale_lower_labels.specs.Going.{one_link_marks, link_op, store_marks, turns_marks, return_marks}
use Rattle.vale_label_steps.specs.Progress.{Progress, with_marks}
use Rattle.vale_lower_expr.specs.Places.{is_set}
use Rattle.vale_lower_labels.specs.Sides.{side_marks, sides_marks, sides_due}
use Rattle.vale_label_steps.proofs.ProgressLaws.{in_turn, no_marks}
use Rattle.vale_core.proofs.PartLaws.{of_out_expr, of_out_link, of_out_block, of_out_else_if}
use Rattle.vale_label_steps.proofs.SlotLaws.{type_by_parts, waited_more, args_are_waited}
use Rattle.vale_label_steps.proofs.StepLaws.{of_store, of_callee}

-- ---- expressions

pub expr_due_by_parts : (e : Expr) → expr_due (view_expr e) ≡ node_due (is_copy (view_ty (out-Expr e).seen.value)) (view_node (out-Expr e).node)
expr_due_by_parts e = ap expr_due (of_out_expr e)

pub value_due_by_parts : (e : Expr) → value_due (view_expr e) ≡ (is_copy (view_ty (out-Expr e).seen.value) && node_due (is_copy (view_ty (out-Expr e).seen.value)) (view_node (out-Expr e).node))
value_due_by_parts e = ap value_due (of_out_expr e)

pub link_op_by_parts : (l : Link) → link_op (view_link l) ≡ (out-Link l).op
link_op_by_parts l = ap link_op (of_out_link l)

module _ (a : Around) (h : ℕ) (s : Stand) (due : Bool) where
  pub expr_by_parts : (e : Expr) → expr_marks a (view_expr e) h s due ≡ node_marks a (is_copy (view_ty (out-Expr e).seen.value)) (view_node (out-Expr e).node) h s due
  expr_by_parts e = ap (λ z. expr_marks a z h s due) (of_out_expr e)

  pub value_by_parts : (e : Expr) → value_marks a (view_expr e) h s due ≡ only_marks (is_copy (view_ty (out-Expr e).seen.value)) due s (node_marks a (is_copy (view_ty (out-Expr e).seen.value)) (view_node (out-Expr e).node) h s due)
  value_by_parts e = ap (λ z. value_marks a z h s due) (of_out_expr e)

  pub link_by_parts : (x : y.Ty) (l : Link) → one_link_marks a x (view_link l) h s due ≡ link_marks (out-Link l).op x (view_ty (out-Expr (out-Link l).operand).seen.value) (value_due (view_expr (out-Link l).operand)) (λ h s due. value_marks a (view_expr (out-Link l).operand) h s due) h s due
  link_by_parts x l =
      ap (λ z. one_link_marks a x z h s due) (of_out_link l)
      ∙ ap (λ z. link_marks (out-Link l).op x z (value_due (view_expr (out-Link l).operand)) (λ h s due. value_marks a (view_expr (out-Link l).operand) h s due) h s due) (type_by_parts (out-Link l).operand)

  pub links_first : (x : y.Ty) (l : t.Link) (ls : t.Links) → links_marks a x (t.more_links l ls) h s due ≡ one_link_marks a x l h s due ++ links_marks a (t.link_seen l).value ls h s (link_due (link_op l))
  links_first x (t.link z at op e) ls = refl

  pub else_if_by_parts : (gives : Bool) (e : ElseIf) → side_marks a gives (view_else_if e) h s due ≡ side_marks a gives (t.else_if (out-ElseIf e).at (view_expr (out-ElseIf e).condition) (view_block (out-ElseIf e).block)) h s due
  else_if_by_parts gives e = ap (λ z. side_marks a gives z h s due) (of_out_else_if e)

  pub block_by_parts : (gives : Bool) (b : Block) → block_marks a gives (view_block b) h s due ≡ stmts_marks a gives (stmts_of (map view_stmt (out-Block b).stmts) (option_map view_expr (out-Block b).last)) h s due
  block_by_parts gives b = ap (λ z. block_marks a gives z h s due) (of_out_block b)

pub link_type_by_parts : (l : Link) → (t.link_seen (view_link l)).value ≡ view_ty (out-Link l).seen.value
link_type_by_parts l = ap (λ z. (t.link_seen z).value) (of_out_link l)

pub links_due_first : (l : t.Link) (ls : t.Links) (due : Bool) → links_due (t.more_links l ls) due ≡ links_due ls (link_due (link_op l))
links_due_first (t.link z at op e) ls due = refl

pub block_due_by_parts : (returns gives : Bool) (b : Block) (due : Bool) → block_due returns gives (view_block b) due ≡ stmts_due returns gives (stmts_of (map view_stmt (out-Block b).stmts) (option_map view_expr (out-Block b).last)) due
block_due_by_parts returns gives b due = ap (λ z. block_due returns gives z due) (of_out_block b)

-- ---- values that aren't used

node_of : t.Expr → t.Node
node_of (t.expr x node) = node

unused_by : (a : Around) (h : ℕ) (s : Stand) (due : Bool) (e : t.Expr) → unused_marks a e h s due ≡ (if is_set e then store_marks a (node_of e) h s due else expr_marks a e h s due)
unfolding node_of
unused_by a h s due (t.expr x (t.set at p e)) = ap (λ z. value_marks a e h s due ++ z) (of_store (value_due e) (with_slot (holds h (type e)) s) p h (scope_at s))
unused_by a h s due (t.expr x (t.chain e ls)) = refl
unused_by a h s due (t.expr x (t.unary at op e)) = refl
unused_by a h s due (t.expr x (t.steps e ss)) = refl
unused_by a h s due (t.expr x (t.number at n)) = refl
unused_by a h s due (t.expr x (t.quote at text)) = refl
unused_by a h s due (t.expr x (t.truth at b)) = refl
unused_by a h s due (t.expr x (t.name n is_outer moved)) = refl
unused_by a h s due (t.expr x (t.call n f es)) = refl
unused_by a h s due (t.expr x (t.paren at e)) = refl
unused_by a h s due (t.expr x (t.array at y es)) = refl
unused_by a h s due (t.expr x (t.iso at b)) = refl
unused_by a h s due (t.expr x (t.form f)) = refl

pub unused_by_test : (a : Around) (h : ℕ) (s : Stand) (due : Bool) (e : Expr) → unused_marks a (view_expr e) h s due ≡ (if is_set (view_expr e) then store_marks a (view_node (out-Expr e).node) h s due else expr_marks a (view_expr e) h s due)
unfolding node_of
unused_by_test a h s due e =
    unused_by a h s due (view_expr e)
    ∙ ap (λ (z : t.Expr). if is_set (view_expr e) then store_marks a (node_of z) h s due else expr_marks a (view_expr e) h s due) (of_out_expr e)

pub unused_due_by_test : (e : t.Expr) → unused_due e ≡ (if is_set e then false else expr_due e)
unused_due_by_test (t.expr x (t.set at p e)) = refl
unused_due_by_test (t.expr x (t.chain e ls)) = refl
unused_due_by_test (t.expr x (t.unary at op e)) = refl
unused_due_by_test (t.expr x (t.steps e ss)) = refl
unused_due_by_test (t.expr x (t.number at n)) = refl
unused_due_by_test (t.expr x (t.quote at text)) = refl
unused_due_by_test (t.expr x (t.truth at b)) = refl
unused_due_by_test (t.expr x (t.name n is_outer moved)) = refl
unused_due_by_test (t.expr x (t.call n f es)) = refl
unused_due_by_test (t.expr x (t.paren at e)) = refl
unused_due_by_test (t.expr x (t.array at y es)) = refl
unused_due_by_test (t.expr x (t.iso at b)) = refl
unused_due_by_test (t.expr x (t.form f)) = refl

-- ---- the sides of an `if`

flat : (xs ys zs us : Marks) (m n : Option Stand) → xs ++ (m ∷ (ys ++ (n ∷ (zs ++ us)))) ≡ ((xs ++ (m ∷ (ys ++ (n ∷ [])))) ++ zs) ++ us
flat xs ys zs us m n = simp append_assoc

module _ (a : Around) (gives : Bool) (h : ℕ) (s : Stand) where
  pub elses_by_parts : (es : List t.ElseIf) (end : t.Elses) (due : Bool) → elses_marks a gives (listed t.more_elses es end) h s due ≡ sides_marks a gives es h s due ++ elses_marks a gives end h s (sides_due es due)
  elses_by_parts [] end due = refl
  elses_by_parts (t.else_if at c b ∷ es) end due =
      ap (λ z. value_marks a c h s due ++ (mark (value_due c) (with_slot (holds h (type c)) s) ∷ (block_marks a gives b (h + 1) s false
      ++ (mark (block_due a.gives gives b false) (given gives h (block_type b) (behind (block_returns b) s)) ∷ z)))) (elses_by_parts es end true)
      ∙ flat (value_marks a c h s due) (block_marks a gives b (h + 1) s false) (sides_marks a gives es h s true) (elses_marks a gives end h s (sides_due es true))
      (mark (value_due c) (with_slot (holds h (type c)) s)) (mark (block_due a.gives gives b false) (given gives h (block_type b) (behind (block_returns b) s)))

-- ---- statements

-- of a `return` of a value, in a function that gives one
pub return_by_parts : (a : Around) (e : Expr) (h : ℕ) (s : Stand) (due due2 : Bool) (p p2 p3 : Progress) → a.gives ≡ true
    → p2 ≡ with_marks (value_marks a (view_expr e) h s due) p → due2 ≡ value_due (view_expr e)
    → p3 ≡ with_marks (mark due2 (with_slot (holds h (view_ty (out-Expr e).seen.value)) s) ∷ []) p2 → p3 ≡ with_marks (return_marks a (view_expr e) h s due) p
return_by_parts a e h s due due2 p p2 p3 gives e2 ed e3 =
    let value : Marks = value_marks a (view_expr e) h s due in
    let last : Marks = mark (value_due (view_expr e)) (with_slot (holds h (type (view_expr e))) s) ∷ [] in
    e3
    ∙ ap (λ (d : Bool). with_marks (mark d (with_slot (holds h (view_ty (out-Expr e).seen.value)) s) ∷ []) p2) ed
    ∙ ap (λ (x : y.Ty). with_marks (mark (value_due (view_expr e)) (with_slot (holds h x) s) ∷ []) p2) (sym (type_by_parts e))
    ∙ ap (λ (q : Progress). with_marks last q) e2
    ∙ in_turn value last p
    ∙ ap (λ (d : Bool). with_marks (only_marks d due s (value ++ last)) p) (sym gives)

module _ (a : Around) (b : t.Block) (n turn : ℕ) (s : Stand) (due : Bool) where
  -- of a loop over numbers after its bounds, by what is known in its block
  pub turns_by_parts : (next : ℕ) (z : Stand) (due1 due2 : Bool) (p p1 p2 p3 : Progress) → next ≡ turn + 1 → z ≡ with_slot (local n turn int) s
      → p1 ≡ with_marks (mark due s ∷ None ∷ Some s ∷ None ∷ []) p → due1 ≡ false
      → p2 ≡ with_marks (block_marks a false b next z due1) p1 → due2 ≡ block_due a.gives false b due1
      → p3 ≡ with_marks (mark due2 (behind (block_returns b) s) ∷ None ∷ Some s ∷ None ∷ None ∷ []) p2
      → p3 ≡ with_marks (turns_marks a b n turn s due) p
  turns_by_parts next z due1 due2 p p1 p2 p3 en ez e1 ed1 e2 ed2 e3 =
      let started : Marks = mark due s ∷ None ∷ Some s ∷ None ∷ [] in
      let body : Marks = block_marks a false b (turn + 1) (with_slot (local n turn int) s) false in
      let turned : Marks = mark (block_due a.gives false b false) (behind (block_returns b) s) ∷ None ∷ [] in
      let tested : Marks = Some s ∷ None ∷ None ∷ [] in
      e3
      ∙ ap (λ (d : Bool). with_marks (mark d (behind (block_returns b) s) ∷ None ∷ Some s ∷ None ∷ None ∷ []) p2) (ed2 ∙ ap (λ (d : Bool). block_due a.gives false b d) ed1)
      ∙ ap (λ (q : Progress). with_marks (turned ++ tested) q) (e2
      ∙ ap (λ (k : ℕ). with_marks (block_marks a false b k z due1) p1) en
      ∙ ap (λ (k : Stand). with_marks (block_marks a false b (turn + 1) k due1) p1) ez
      ∙ ap (λ (d : Bool). with_marks (block_marks a false b (turn + 1) (with_slot (local n turn int) s) d) p1) ed1
      ∙ ap (λ (q : Progress). with_marks body q) e1
      ∙ in_turn started body p)
      ∙ in_turn (started ++ body) (turned ++ tested) p
      ∙ ap (λ (ms : Marks). with_marks (mark due s ∷ None ∷ Some s ∷ None ∷ ms) p) (sym (append_assoc body turned tested))

pub ruleset exprs = (expr_by_parts, value_by_parts, expr_due_by_parts, value_due_by_parts)

pub ruleset unused = (unused_by_test, unused_due_by_test)

pub ruleset nodes = (v.of_set, v.of_chain, v.of_unary, v.of_steps, v.of_number, v.of_quote, v.of_truth, v.of_name, v.of_call, v.of_paren, v.of_elements, v.of_isolate, v.of_form, type_by_parts, args_are_waited, of_callee, in_turn)

pub ruleset lists = (links_first, links_due_first, link_type_by_parts, link_op_by_parts, type_by_parts, waited_more, in_turn, no_marks)

pub ruleset links = (link_by_parts, link_op_by_parts, type_by_parts, in_turn)

pub ruleset forms = (v.of_if, v.of_pure, v.of_parallel_range, v.of_parallel_each, elses_by_parts, type_by_parts, in_turn, append_assoc)

pub ruleset sides = (else_if_by_parts, type_by_parts, in_turn)

pub ruleset lasts = (type_by_parts, in_turn, no_marks)

pub ruleset blocks = (block_by_parts, block_due_by_parts)

pub ruleset nexts = (v.of_declare, v.of_destructure, v.of_return, v.of_return_nothing, v.of_return_value, v.of_while, v.of_foreach, v.of_form_stmt, v.of_express)

pub ruleset stmts = (v.of_declare, v.of_destructure, v.of_return_nothing, v.of_return_value, v.of_while, v.of_foreach, v.of_form_stmt, v.of_express, type_by_parts, in_turn, append_assoc)

pub ruleset turns = (in_turn, append_assoc)
