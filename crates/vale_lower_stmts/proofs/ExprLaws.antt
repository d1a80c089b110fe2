-- What expressions make, by what each call made.
use Rattle.std.proofs.Common.{◌≡◌, ℕ, suc, ◌+◌, ◌<◌, ◌≤◌, List, [], ◌∷◌, ◌++◌, drop, get_or, length, refl, ap, sym, ◌∙◌, append_assoc, append-nil}
use Rattle.std.specs.Prelude.{Bool, true, false, Option, Some, None, map, unwrap_or}
use Rattle.std.proofs.lemmas.Option.{none-some}
use Rattle.std.proofs.lemmas.List.{drop_all}
use Rattle.vale_rules_spec.specs.Types as y
use Rattle.vale_rules_spec.specs.Typed as t
use Rattle.vale_rules_spec.specs.Typed.{type}
use Rattle.vale_core.specs.declared.tree.Expr.{Expr, out-Expr}
use Rattle.vale_core.specs.declared.tree.Node.{Node}
use Rattle.vale_core.specs.declared.tree.Link.{Link, out-Link}
use Rattle.vale_core.specs.View.{view_ty, view_view, view_expr, view_node, view_link, exprs_of, links_of}
use Rattle.vale_core.proofs.PartLaws.{of_out_expr, of_out_link}
use Rattle.vale_lowering_objects.specs.Scopes.{Gives, copy, gives_of, is_value, agree, Scope, Around, waiting, find}
use Rattle.vale_lowering_objects.specs.Lowered.{gives_list}
use Rattle.vale_lower_flow.specs.declared.closing.Closings.{Closings}
use Rattle.vale_lower_flow.specs.Closing.{closed}
use Rattle.vale_lower_flow.specs.Flow.{Going, only, arrived, mark_of, begun, ended, filled}
use Rattle.vale_lower_places.specs.Places.{lent}
use Rattle.vale_lower_parts.specs.Named.{unmoved, node_of}
use Rattle.vale_lower_parts.specs.Emitted.{expr_emitted, node_emitted, borrow_emitted, args_emitted, link_emitted, links_emitted}
use Rattle.vale_lower_parts.proofs.NodeLaws.{expr_by_parts, type_by_parts, borrow_named, no_args, more_args, no_links, more_links, operand_of}
use Rattle.vale_lower_stmts.proofs.FrontLaws.{next_of}

abbrev pub view_in : t.Expr → y.View
view_in (t.expr x node) = x.view

pub view_by_parts : (e : Expr) → view_in (view_expr e) ≡ view_view (out-Expr e).seen.view
view_by_parts e = ap view_in (of_out_expr e)

pub node_by_parts : (e : Expr) → node_of (view_expr e) ≡ view_node (out-Expr e).node
node_by_parts e = ap node_of (of_out_expr e)

module _ (a : Around) (h : ℕ) (s : Scope) where
  -- a node of a kind
  pub node_as : (x : y.Ty) (q : Gives) (n : Node) (z : t.Node) (f r : Going) → view_node n ≡ z → r ≡ node_emitted a x q z h s f → r ≡ node_emitted a x q (view_node n) h s f
  node_as x q n z f r e er = er ∙ ap (λ (w : t.Node). node_emitted a x q w h s f) (sym e)

  pub by_expr : (e : Expr) (q : Gives) (f r : Going) → q ≡ gives_of (type (view_expr e)) → r ≡ node_emitted a (view_ty (out-Expr e).seen.value) q (view_node (out-Expr e).node) h s f → r ≡ expr_emitted a (view_expr e) h s f
  by_expr e q f r eq er =
      let x : y.Ty = view_ty (out-Expr e).seen.value in
      er ∙ ap (λ (z : Gives). node_emitted a x z (view_node (out-Expr e).node) h s f) (eq ∙ ap gives_of (type_by_parts e)) ∙ sym (expr_by_parts a h s e f)

  -- ---- references to places

  pub by_borrow_named : (e : t.Expr) (n : ℕ) (f : Going) → Some n ≡ unmoved e → borrow_emitted a e h s f ≡ lent (find n s) copy (view_in e) h f
  by_borrow_named (t.expr x (t.name m is_outer false)) n f e = borrow_named a h s x m is_outer f ∙ ap (λ (z : Option ℕ). lent (find (unwrap_or z n) s) copy x.view h f) (sym e)
  by_borrow_named (t.expr x (t.name m is_outer true)) n f e = absurd (none-some n (sym e))
  by_borrow_named (t.expr x (t.set at p w)) n f e = absurd (none-some n (sym e))
  by_borrow_named (t.expr x (t.chain w ls)) n f e = absurd (none-some n (sym e))
  by_borrow_named (t.expr x (t.unary at op w)) n f e = absurd (none-some n (sym e))
  by_borrow_named (t.expr x (t.steps w ss)) n f e = absurd (none-some n (sym e))
  by_borrow_named (t.expr x (t.number at w)) n f e = absurd (none-some n (sym e))
  by_borrow_named (t.expr x (t.quote at text)) n f e = absurd (none-some n (sym e))
  by_borrow_named (t.expr x (t.truth at b)) n f e = absurd (none-some n (sym e))
  by_borrow_named (t.expr x (t.call m c es)) n f e = absurd (none-some n (sym e))
  by_borrow_named (t.expr x (t.paren at w)) n f e = absurd (none-some n (sym e))
  by_borrow_named (t.expr x (t.array at w es)) n f e = absurd (none-some n (sym e))
  by_borrow_named (t.expr x (t.iso at b)) n f e = absurd (none-some n (sym e))
  by_borrow_named (t.expr x (t.form w)) n f e = absurd (none-some n (sym e))

  pub by_borrow_node : (e : t.Expr) (f : Going) → None ≡ unmoved e → node_emitted a (type e) copy (node_of e) h s f ≡ borrow_emitted a e h s f
  unfolding node_emitted borrow_emitted
  by_borrow_node (t.expr x (t.name m is_outer false)) f e = absurd (none-some m.name.0 e)
  by_borrow_node (t.expr x (t.name m is_outer true)) f e = refl
  by_borrow_node (t.expr x (t.set at p w)) f e = refl
  by_borrow_node (t.expr x (t.chain w ls)) f e = refl
  by_borrow_node (t.expr x (t.unary at op w)) f e = refl
  by_borrow_node (t.expr x (t.steps w ss)) f e = refl
  by_borrow_node (t.expr x (t.number at w)) f e = refl
  by_borrow_node (t.expr x (t.quote at text)) f e = refl
  by_borrow_node (t.expr x (t.truth at b)) f e = refl
  by_borrow_node (t.expr x (t.call m c es)) f e = refl
  by_borrow_node (t.expr x (t.paren at w)) f e = refl
  by_borrow_node (t.expr x (t.array at w es)) f e = refl
  by_borrow_node (t.expr x (t.iso at b)) f e = refl
  by_borrow_node (t.expr x (t.form w)) f e = refl

  -- by its type and its node
  pub by_node : (e : Expr) (f r : Going) → r ≡ node_emitted a (view_ty (out-Expr e).seen.value) copy (view_node (out-Expr e).node) h s f → r ≡ node_emitted a (type (view_expr e)) copy (node_of (view_expr e)) h s f
  by_node e f r er =
      er ∙ ap (λ (x : y.Ty). node_emitted a x copy (view_node (out-Expr e).node) h s f) (sym (type_by_parts e))
      ∙ ap (λ (n : t.Node). node_emitted a (type (view_expr e)) copy n h s f) (sym (node_by_parts e))

  -- ---- values that wait

  -- those that are left, from one on
  abbrev pub args_left : List Expr → ℕ → Going → Going
  args_left es i f = args_emitted a (exprs_of (map view_expr (drop i es))) h s f

pub args_next : (a : Around) (c0 c1 : Closings) (es : List Expr) (i : ℕ) (e : Expr) (h h1 start : ℕ) (q : Gives) (s s1 : Scope) (f f1 f2 goal : Going) →
    i < length es → e ≡ get_or es i e → q ≡ gives_of (type (view_expr e)) → start ≡ length f.code → f1 ≡ expr_emitted a (view_expr e) h s f → h1 ≡ h + 1 → s1 ≡ waiting h q ∷ s → f2 ≡ filled h (begun (h + 1) f1)
    → ((g : Going) → closed c1 g ≡ closed c0 (only (is_value q) start h (ended (mark_of f1) g)))
    → closed c0 (args_left a h s es i f) ≡ goal → closed c1 (args_left a h1 s1 es (i + 1) f2) ≡ goal
args_next a c0 c1 es i e h h1 start q s s1 f f1 f2 goal lt is eq est e1 eh e_s e2 ec so_far =
    let rest : t.Exprs = exprs_of (map view_expr (drop (i + 1) es)) in
    let v : t.Expr = view_expr e in
    let p : Gives = gives_of (type v) in
    let g1 : Going = expr_emitted a v h s f in
    let after : ℕ → Scope → Going → Going = λ (k : ℕ) (z : Scope) (g : Going). args_emitted a rest k z g in
    let whole : Gives → ℕ → Going → Going = λ (z : Gives) (n : ℕ) (g : Going). only (is_value z) n h (ended (mark_of g) (after (h + 1) (waiting h z ∷ s) (filled h (begun (h + 1) g)))) in
    ap (λ (k : ℕ). closed c1 (after k s1 f2)) eh ∙ (ap (λ (z : Scope). closed c1 (after (h + 1) z f2)) e_s ∙ (ap (λ (g : Going). closed c1 (after (h + 1) (waiting h q ∷ s) g)) e2
    ∙ (ec (after (h + 1) (waiting h q ∷ s) (filled h (begun (h + 1) f1)))
    ∙ (ap (λ (g : Going). closed c0 (whole q start g)) e1 ∙ (ap (λ (n : ℕ). closed c0 (whole q n g1)) est ∙ (ap (λ (z : Gives). closed c0 (whole z (length f.code) g1)) eq
    ∙ (ap (λ (g : Going). closed c0 g) (sym (more_args a h s v rest f)) ∙ (ap (λ (z : List Expr). closed c0 (args_emitted a (exprs_of (map view_expr z)) h s f)) (sym (next_of es i e lt is)) ∙ so_far))))))))

pub args_end : (a : Around) (c : Closings) (es : List Expr) (i h : ℕ) (s : Scope) (f goal : Going) → length es ≤ i → closed c (args_left a h s es i f) ≡ goal → closed c (arrived f) ≡ goal
args_end a c es i h s f goal le so_far =
    ap (λ (g : Going). closed c g) (sym (no_args a h s f)) ∙ (ap (λ (z : List Expr). closed c (args_emitted a (exprs_of (map view_expr z)) h s f)) (sym (drop_all i es le)) ∙ so_far)

-- what they are
pub given_next : (es : List Expr) (i : ℕ) (e : Expr) (q : Gives) (qs qs1 goal : List Gives) → i < length es → e ≡ get_or es i e → q ≡ gives_of (type (view_expr e)) → qs1 ≡ qs ++ q ∷ []
    → qs ++ gives_list (exprs_of (map view_expr (drop i es))) ≡ goal → qs1 ++ gives_list (exprs_of (map view_expr (drop (i + 1) es))) ≡ goal
given_next es i e q qs qs1 goal lt is eq e1 so_far =
    let rest : List Gives = gives_list (exprs_of (map view_expr (drop (i + 1) es))) in
    ap (λ (z : List Gives). z ++ rest) e1 ∙ (append_assoc qs (q ∷ []) rest ∙ (ap (λ (z : Gives). qs ++ z ∷ rest) eq ∙ (ap (λ (z : List Expr). qs ++ gives_list (exprs_of (map view_expr z))) (sym (next_of es i e lt is)) ∙ so_far)))

pub given_end : (es : List Expr) (i : ℕ) (qs goal : List Gives) → length es ≤ i → qs ++ gives_list (exprs_of (map view_expr (drop i es))) ≡ goal → qs ≡ goal
given_end es i qs goal le so_far =
    sym (append-nil qs) ∙ (ap (λ (z : List Expr). qs ++ gives_list (exprs_of (map view_expr z))) (sym (drop_all i es le)) ∙ so_far)

pub given_length : (es : List Expr) → length (gives_list (exprs_of (map view_expr es))) ≡ length es
given_length [] = refl
given_length (e ∷ es) = ap suc (given_length es)

-- ---- operators

pub operand_by_parts : (a : Around) (h : ℕ) (s : Scope) (l : Link) → operand_of a h s (view_link l) ≡ view_expr (out-Link l).operand
operand_by_parts a h s l = ap (λ (z : t.Link). operand_of a h s z) (of_out_link l)

pub links_next : (a : Around) (c0 c1 : Closings) (ls : List Link) (i : ℕ) (l : Link) (h next start : ℕ) (ok : Bool) (s : Scope) (f f1 f2 goal : Going) →
    i < length ls → l ≡ get_or ls i l → ok ≡ agree copy (gives_of (type (view_expr (out-Link l).operand))) → start ≡ length f.code → next ≡ h + 1 → f1 ≡ link_emitted a (view_link l) h s f → f2 ≡ begun next f1
    → ((g : Going) → closed c1 g ≡ closed c0 (only ok start h (ended (mark_of f1) g)))
    → closed c0 (links_emitted a (links_of (map view_link (drop i ls))) h s f) ≡ goal → closed c1 (links_emitted a (links_of (map view_link (drop (i + 1) ls))) h s f2) ≡ goal
links_next a c0 c1 ls i l h next start ok s f f1 f2 goal lt is eo est en e1 e2 ec so_far =
    let rest : t.Links = links_of (map view_link (drop (i + 1) ls)) in
    let v : t.Link = view_link l in
    let g1 : Going = link_emitted a v h s f in
    let whole : Bool → ℕ → Going → Going = λ (b : Bool) (n : ℕ) (g : Going). only b n h (ended (mark_of g) (links_emitted a rest h s (begun (h + 1) g))) in
    let ok2 : Bool = agree copy (gives_of (type (operand_of a h s v))) in
    ap (λ (g : Going). closed c1 (links_emitted a rest h s g)) (e2 ∙ ap (λ (n : ℕ). begun n f1) en)
    ∙ (ec (links_emitted a rest h s (begun (h + 1) f1))
    ∙ (ap (λ (g : Going). closed c0 (whole ok start g)) e1 ∙ (ap (λ (n : ℕ). closed c0 (whole ok n g1)) est
    ∙ (ap (λ (b : Bool). closed c0 (whole b (length f.code) g1)) (eo ∙ ap (λ (z : t.Expr). agree copy (gives_of (type z))) (sym (operand_by_parts a h s l)))
    ∙ (ap (λ (g : Going). closed c0 g) (sym (more_links a h s v rest f)) ∙ (ap (λ (z : List Link). closed c0 (links_emitted a (links_of (map view_link z)) h s f)) (sym (next_of ls i l lt is)) ∙ so_far))))))

pub links_end : (a : Around) (c : Closings) (ls : List Link) (i h : ℕ) (s : Scope) (f goal : Going) → length ls ≤ i → closed c (links_emitted a (links_of (map view_link (drop i ls))) h s f) ≡ goal → closed c (arrived f) ≡ goal
links_end a c ls i h s f goal le so_far =
    ap (λ (g : Going). closed c g) (sym (no_links a h s f)) ∙ (ap (λ (z : List Link). closed c (links_emitted a (links_of (map view_link z)) h s f)) (sym (drop_all i ls le)) ∙ so_far)
