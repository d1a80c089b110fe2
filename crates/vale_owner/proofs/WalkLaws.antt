-- What is found after each part, by its own parts.
use Rattle.std.proofs.Common.{◌≡◌, ℕ, List, [], ◌∷◌, ◌++◌, length, refl, ap, sym, ◌∙◌, append-nil}
use Rattle.std.specs.Prelude.{ℤ, Bool, true, false, ◌&&◌, ◌||◌, Option, Some, None, map, option_map, if◌then◌else◌}
use Rattle.vale_base.specs.declared.name.Name.{Name}
use Rattle.vale_base.specs.declared.spot.Spot.{Spot}
use Rattle.vale_syntax.specs.declared.fault.Fault.{Fault}
use Rattle.vale_syntax.specs.declared.tree.BinaryOp.{BinaryOp}
use Rattle.vale_syntax.specs.declared.tree.BinaryOp.TheVariants as op
use Rattle.vale_syntax.specs.declared.tree.UnaryOp.{UnaryOp}
use Rattle.vale_syntax.specs.declared.tree.NameAt.{NameAt}
use Rattle.vale_rules_spec.specs.Judged.{own, first_of}
use Rattle.vale_rules_spec.specs.Types as y
use Rattle.vale_rules_spec.specs.Typed as t
use Rattle.vale_syntax.specs.View.{listed}
use Rattle.vale_core.specs.declared.tree.Expr.{Expr, out-Expr}
use Rattle.vale_core.specs.declared.tree.Link.{Link, out-Link}
use Rattle.vale_core.specs.declared.tree.ElseIf.{ElseIf, out-ElseIf}
use Rattle.vale_core.specs.declared.tree.Block.{Block, out-Block}
use Rattle.vale_core.specs.View.{view_expr, view_node, view_stmt, view_block, view_else_if, view_link, stmts_of, last_end, return_of}
use Rattle.vale_core.proofs.ViewLaws as v
use Rattle.vale_core.proofs.PartLaws.{of_out_expr, of_out_link, of_out_block, of_out_else_if}
use Rattle.vale_rules_spec.specs.Owned.{◌then◌, expr_flow, exprs_flow, links_flow, step_flow, steps_flow, elses_flow, block_flow, body_flow, stmts_flow, stmt_flow, add_branch, agree, behind, loop_rules}
use Rattle.vale_rules_spec.specs.Returns.{block_returns}
use Rattle.vale_rules_spec.specs.Whole.{Locals, are_alike}
use Rattle.vale_owner_flow.specs.FlowView.{FlowView, earlier, going, naming, judged, told, with_first, back_to, closed, declaring, declaring_all, loop_ended, Kept, no_branches, with_branch, with_branches, Sided, sided, branch_ended, or_else, may_skip}
use Rattle.vale_owner.specs.After.{after_expr, after_node, after_exprs, after_link, after_links, after_step, after_steps, after_form, after_block, after_body, after_stmts, after_stmt, after_set, after_iteration, after_side, branches_of_side, after_else_if, branches_of_else_if, after_else_ifs, branches_of_else_ifs, after_sides, link_flow}
use Rattle.vale_owner_flow.proofs.FoundLaws.{made, in_turn, earlier_none, going_still, going_then, all_branches, branches_behind, one_way}
use Rattle.vale_owner_flow.proofs.LocalLaws.{alike_itself}

abbrev sides_made : Option Fault → Kept → Sided
sides_made first branches = record { first = first; branches = branches }

-- ---- expressions

pub expr_by_parts : (e : Expr) (f : FlowView) → after_expr (view_expr e) f ≡ after_node (view_node (out-Expr e).node) f
unfolding after_expr after_node
expr_by_parts e f = ap (λ z. going (expr_flow z) f) (of_out_expr e)

module _ (f : FlowView) where
  pub at_set : (at : Spot) (p e : t.Expr) → after_node (t.set at p e) f ≡ after_set p e f
  unfolding after_node after_set after_expr told with_first
  at_set at p e = ap (λ z. made z (expr_flow p (expr_flow e f.locals).after).after) (in_turn f.first (expr_flow p (expr_flow e f.locals).after).faults (expr_flow e f.locals).faults)

  pub at_chain : (e : t.Expr) (ls : t.Links) → after_node (t.chain e ls) f ≡ after_links ls (after_expr e f)
  unfolding after_node after_links after_expr
  at_chain e ls = going_then (expr_flow e) (links_flow ls) f

  pub at_unary : (at : Spot) (o : UnaryOp) (e : t.Expr) → after_node (t.unary at o e) f ≡ after_expr e f
  unfolding after_node after_expr
  at_unary at o e = refl

  pub at_steps : (e : t.Expr) (ss : t.Steps) → after_node (t.steps e ss) f ≡ after_steps ss (after_expr e f)
  unfolding after_node after_steps after_expr
  at_steps e ss = going_then (expr_flow e) (steps_flow ss) f

  pub at_number : (at : Spot) (n : ℤ) → after_node (t.number at n) f ≡ f
  unfolding after_node
  at_number at n = going_still f

  pub at_quote : (at : Spot) (text : List ℕ) → after_node (t.quote at text) f ≡ f
  unfolding after_node
  at_quote at text = going_still f

  pub at_truth : (at : Spot) (b : Bool) → after_node (t.truth at b) f ≡ f
  unfolding after_node
  at_truth at b = going_still f

  pub at_name : (n : NameAt) (is_outer is_moved : Bool) → after_node (t.name n is_outer is_moved) f ≡ naming n is_moved f
  unfolding after_node naming
  at_name n is_outer is_moved = refl

  pub at_call : (n : NameAt) (g : t.Callee) (es : t.Exprs) → after_node (t.call n g es) f ≡ after_exprs es f
  unfolding after_node after_exprs
  at_call n g es = refl

  pub at_paren : (at : Spot) (e : t.Expr) → after_node (t.paren at e) f ≡ after_expr e f
  unfolding after_node after_expr
  at_paren at e = refl

  pub at_array : (at : Spot) (x : y.Ty) (es : t.Exprs) → after_node (t.array at x es) f ≡ after_exprs es f
  unfolding after_node after_exprs
  at_array at x es = refl

  pub at_iso : (at : Spot) (b : t.Block) → after_node (t.iso at b) f ≡ after_block b f
  unfolding after_node after_block
  at_iso at b = refl

  pub at_form : (z : t.Form) → after_node (t.form z) f ≡ after_form z f
  unfolding after_node after_form
  at_form z = refl

  -- ---- lists of expressions, operators and steps

  pub no_exprs : after_exprs t.no_exprs f ≡ f
  unfolding after_exprs
  no_exprs = going_still f

  pub more_exprs : (e : t.Expr) (es : t.Exprs) → after_exprs (t.more_exprs e es) f ≡ after_exprs es (after_expr e f)
  unfolding after_exprs after_expr
  more_exprs e es = going_then (expr_flow e) (exprs_flow es) f

  pub no_links : after_links t.no_links f ≡ f
  unfolding after_links
  no_links = going_still f

  pub more_links : (l : t.Link) (ls : t.Links) → after_links (t.more_links l ls) f ≡ after_links ls (after_link l f)
  unfolding after_links after_link
  more_links (t.link x at o e) ls = going_then (link_flow (t.link x at o e)) (links_flow ls) f

  pub no_steps : after_steps t.no_steps f ≡ f
  unfolding after_steps
  no_steps = going_still f

  pub more_steps : (s : t.Step) (ss : t.Steps) → after_steps (t.more_steps s ss) f ≡ after_steps ss (after_step s f)
  unfolding after_steps after_step
  more_steps s ss = going_then (step_flow s) (steps_flow ss) f

  pub at_field : (x : y.Seen) (w : y.View) (b : Bool) (at : Spot) (n : Name) → after_step (t.field x w b at n) f ≡ f
  unfolding after_step
  at_field x w b at n = going_still f

  pub at_method : (x : y.Seen) (w : y.View) (at : Spot) (n : Name) (es : t.Exprs) → after_step (t.method x w at n es) f ≡ after_exprs es f
  unfolding after_step after_exprs
  at_method x w at n es = refl

  pub at_index : (x : y.Seen) (w : y.View) (at : Spot) (e : t.Expr) → after_step (t.index x w at e) f ≡ after_expr e f
  unfolding after_step after_expr
  at_index x w at e = refl

-- ---- an operator and its operand

of_link : (x : y.Seen) (at : Spot) (o : BinaryOp) (e : t.Expr) (f : FlowView) → after_link (t.link x at o e) f ≡ (if may_skip o then judged at 31 (are_alike f.locals (after_expr e f).locals) (after_expr e f) else after_expr e f)
unfolding after_link after_expr judged
of_link x at op.Or e f = ap (λ z. made z (expr_flow e f.locals).after) (in_turn f.first (expr_flow e f.locals).faults (own at ((31, are_alike f.locals (expr_flow e f.locals).after) ∷ [])))
of_link x at op.And e f = ap (λ z. made z (expr_flow e f.locals).after) (in_turn f.first (expr_flow e f.locals).faults (own at ((31, are_alike f.locals (expr_flow e f.locals).after) ∷ [])))
of_link x at o e f = ap (λ z. made (earlier f.first (first_of z)) (expr_flow e f.locals).after) (append-nil (expr_flow e f.locals).faults)

pub link_by_parts : (l : Link) (f : FlowView) → after_link (view_link l) f ≡ (if may_skip (out-Link l).op then judged (out-Link l).at 31 (are_alike f.locals (after_expr (view_expr (out-Link l).operand) f).locals) (after_expr (view_expr (out-Link l).operand) f) else after_expr (view_expr (out-Link l).operand) f)
link_by_parts l f = ap (λ z. after_link z f) (of_out_link l) ∙ of_link _ (out-Link l).at (out-Link l).op (view_expr (out-Link l).operand) f

-- ---- sides

module _ (f : FlowView) where
  pub iteration_is : (n : NameAt) (b : t.Block) → after_iteration n b f ≡ back_to f.locals (after_body n b f)
  unfolding after_iteration
  iteration_is n b = refl

  pub side_is : (b : t.Block) → after_side b f ≡ back_to f.locals (after_block b f)
  unfolding after_side
  side_is b = refl

  pub branches_are : (b : t.Block) (k : Kept) → branches_of_side b f k ≡ with_branch (block_returns b) (after_block b f).locals k
  unfolding branches_of_side
  branches_are b k = refl

  pub else_if_by_parts : (e : ElseIf) → after_else_if (view_else_if e) f ≡ after_side (view_block (out-ElseIf e).block) (after_expr (view_expr (out-ElseIf e).condition) f)
  unfolding after_else_if
  else_if_by_parts e = ap (λ z. after_else_if z f) (of_out_else_if e)

  pub else_if_branches_by_parts : (e : ElseIf) (k : Kept) → branches_of_else_if (view_else_if e) f k ≡ branches_of_side (view_block (out-ElseIf e).block) (after_expr (view_expr (out-ElseIf e).condition) f) k
  unfolding branches_of_else_if
  else_if_branches_by_parts e k = ap (λ z. branches_of_else_if z f k) (of_out_else_if e)

  pub no_else : (k : Kept) → after_sides t.no_else f k ≡ sided f (with_branch false f.locals k)
  unfolding after_sides sided with_branches with_branch
  no_else k = ap (λ z. sides_made z (with_branch false f.locals k)) (earlier_none f.first)

  pub otherwise : (b : t.Block) (k : Kept) → after_sides (t.otherwise b) f k ≡ sided (after_side b f) (branches_of_side b f k)
  unfolding after_sides sided after_side branches_of_side after_block back_to with_branches
  otherwise b k = ap (λ z. sides_made (earlier f.first (first_of (block_flow b f.locals).faults)) z) (one_way (block_returns b) (block_flow b f.locals).after [] k)

  pub more_sides : (e : t.ElseIf) (es : t.Elses) (k : Kept) → after_sides (t.more_elses e es) f k ≡ after_sides es (after_else_if e f) (branches_of_else_if e f k)
  unfolding after_sides after_else_if branches_of_else_if after_side branches_of_side after_block after_expr back_to
  more_sides (t.else_if at c b) es k =
      let ls : Locals = (expr_flow c f.locals).after in
      let bs : List Fault = (block_flow b ls).faults in
      ap (λ z. sides_made z (with_branches (add_branch (block_returns b) (block_flow b ls).after (elses_flow es ls).branches) k))
      (in_turn f.first (expr_flow c f.locals).faults (bs ++ (elses_flow es ls).faults)
      ∙ in_turn (earlier f.first (first_of (expr_flow c f.locals).faults)) bs (elses_flow es ls).faults)
      ∙ ap (λ z. sides_made (earlier (earlier (earlier f.first (first_of (expr_flow c f.locals).faults)) (first_of bs)) (first_of (elses_flow es ls).faults)) z)
      (one_way (block_returns b) (block_flow b ls).after (elses_flow es ls).branches k)

pub sides_by_parts : (es : List t.ElseIf) (end : t.Elses) (f : FlowView) (k : Kept) → after_sides (listed t.more_elses es end) f k ≡ after_sides end (after_else_ifs es f) (branches_of_else_ifs es f k)
sides_by_parts [] end f k = refl
sides_by_parts (e ∷ es) end f k = more_sides f e (listed t.more_elses es end) k ∙ sides_by_parts es end (after_else_if e f) (branches_of_else_if e f k)

-- ---- forms

module _ (f : FlowView) where
  pub at_if : (at : Spot) (c : t.Expr) (b : t.Block) (es : t.Elses) → after_form (t.branch at c b es) f ≡ branch_ended at f.locals (after_sides es (after_side b (after_expr c f)) (branches_of_side b (after_expr c f) no_branches))
  unfolding after_form after_sides after_side branches_of_side after_block after_expr back_to branch_ended
  at_if at c b es =
      let ls : Locals = (expr_flow c f.locals).after in
      let cs : List Fault = (expr_flow c f.locals).faults in
      let bs : List Fault = (block_flow b ls).faults in
      let es_faults : List Fault = (elses_flow es ls).faults in
      let ws = add_branch (block_returns b) (block_flow b ls).after (elses_flow es ls).branches in
      let ended : Bool → List Fault = λ alike. own at ((31, alike) ∷ []) in
      let same = one_way (block_returns b) (block_flow b ls).after (elses_flow es ls).branches no_branches in
      ap (λ z. made z (behind f.locals ws))
      (in_turn f.first cs (bs ++ (es_faults ++ ended (agree ws)))
      ∙ in_turn (earlier f.first (first_of cs)) bs (es_faults ++ ended (agree ws))
      ∙ in_turn (earlier (earlier f.first (first_of cs)) (first_of bs)) es_faults (ended (agree ws)))
      ∙ ap (λ alike. made (earlier (earlier (earlier (earlier f.first (first_of cs)) (first_of bs)) (first_of es_faults)) (first_of (ended alike))) (behind f.locals ws)) (sym (all_branches ws))
      ∙ ap (λ z. made (earlier (earlier (earlier (earlier f.first (first_of cs)) (first_of bs)) (first_of es_faults)) (first_of (ended (with_branches ws no_branches).alike))) z) (sym (branches_behind f.locals ws))
      ∙ ap (λ k. made (earlier (earlier (earlier (earlier f.first (first_of cs)) (first_of bs)) (first_of es_faults)) (first_of (ended k.alike))) (or_else k.first f.locals)) same

  pub at_pure : (at : Spot) (b : t.Block) → after_form (t.pure at b) f ≡ after_block b f
  unfolding after_form after_block
  at_pure at b = refl

  pub at_range : (at : Spot) (n : NameAt) (a e : t.Expr) (b : t.Block) → after_form (t.parallel_range at n a e b) f ≡ after_iteration n b (after_expr e (after_expr a f))
  unfolding after_form after_iteration after_body after_expr back_to
  at_range at n a e b =
      let ls : Locals = (expr_flow a f.locals).after in
      let us : Locals = (expr_flow e ls).after in
      ap (λ z. made z us)
      (in_turn f.first ((expr_flow a f.locals).faults ++ (expr_flow e ls).faults) (body_flow n b us).faults
      ∙ ap (λ z. earlier z (first_of (body_flow n b us).faults)) (in_turn f.first (expr_flow a f.locals).faults (expr_flow e ls).faults))

  pub at_each : (at : Spot) (n : NameAt) (e : t.Expr) (b : t.Block) → after_form (t.parallel_each at n e b) f ≡ after_iteration n b (after_expr e f)
  unfolding after_form after_iteration after_body after_expr back_to
  at_each at n e b = ap (λ z. made z (expr_flow e f.locals).after) (in_turn f.first (expr_flow e f.locals).faults (body_flow n b (expr_flow e f.locals).after).faults)

  -- ---- blocks

  pub block_by_parts : (b : Block) → after_block (view_block b) f ≡ closed (length f.locals) (after_stmts (stmts_of (map view_stmt (out-Block b).stmts) (option_map view_expr (out-Block b).last)) f)
  unfolding after_block after_stmts closed
  block_by_parts b = ap (λ z. going (block_flow z) f) (of_out_block b)

  pub body_by_parts : (n : NameAt) (b : Block) → after_body n (view_block b) f ≡ closed (length f.locals) (after_stmts (stmts_of (map view_stmt (out-Block b).stmts) (option_map view_expr (out-Block b).last)) (declaring n f))
  unfolding after_body after_stmts closed declaring
  body_by_parts n b = ap (λ z. going (body_flow n z) f) (of_out_block b)

  -- ---- statements

  pub no_stmts : after_stmts t.no_stmts f ≡ f
  unfolding after_stmts
  no_stmts = going_still f

  pub the_last : (e : t.Expr) → after_stmts (t.last e) f ≡ after_expr e f
  unfolding after_stmts after_expr
  the_last e = refl

  pub more_stmts : (s : t.Stmt) (ss : t.Stmts) → after_stmts (t.more_stmts s ss) f ≡ after_stmts ss (after_stmt s f)
  unfolding after_stmts after_stmt
  more_stmts s ss = going_then (stmt_flow s) (stmts_flow ss) f

  pub at_return : (at : Spot) (e : Option t.Expr) → after_stmt (return_of at e) f ≡ after_stmts (last_end e) f
  unfolding after_stmt after_stmts
  at_return at None = refl
  at_return at (Some e) = refl

  pub at_declare : (n : NameAt) (x : y.Ty) (e : t.Expr) → after_stmt (t.declare n x e) f ≡ declaring n (after_expr e f)
  unfolding after_stmt after_expr declaring
  at_declare n x e = refl

  pub at_destructure : (at : Spot) (ns : List NameAt) (xs : List y.Ty) (e : t.Expr) → after_stmt (t.destructure at ns xs e) f ≡ declaring_all ns (after_expr e f)
  unfolding after_stmt after_expr declaring_all
  at_destructure at ns xs e = refl

  pub at_while : (at : Spot) (c : t.Expr) (b : t.Block) → after_stmt (t.while at c b) f ≡ loop_ended at (are_alike f.locals (after_expr c f).locals) (after_expr c f).locals (block_returns b) (after_block b (after_expr c f))
  unfolding after_stmt after_expr after_block loop_ended
  at_while at c b =
      let us : Locals = (expr_flow c f.locals).after in
      let cs : List Fault = (expr_flow c f.locals).faults in
      let bs : List Fault = (block_flow b us).faults in
      let ends : List Fault = own at (loop_rules f.locals (expr_flow c f.locals) (block_returns b) (block_flow b us)) in
      ap (λ z. made z us) (in_turn f.first cs (bs ++ ends) ∙ in_turn (earlier f.first (first_of cs)) bs ends)

  pub at_foreach : (at : Spot) (n : NameAt) (a e : t.Expr) (b : t.Block) → after_stmt (t.foreach at n a e b) f
      ≡ loop_ended at true (after_expr e (after_expr a f)).locals (block_returns b) (after_body n b (after_expr e (after_expr a f)))
  unfolding after_stmt after_expr after_body loop_ended
  at_foreach at n a e b =
      let ls : Locals = (expr_flow a f.locals).after in
      let us : Locals = (expr_flow e ls).after in
      let bs : List Fault = (body_flow n b us).faults in
      let ends : Bool → List Fault = λ stays. own at ((32, stays && (block_returns b || are_alike us (body_flow n b us).after)) ∷ []) in
      let two : List Fault = (expr_flow a f.locals).faults ++ (expr_flow e ls).faults in
      ap (λ z. made z us)
      (in_turn f.first two (bs ++ ends (are_alike us us))
      ∙ in_turn (earlier f.first (first_of two)) bs (ends (are_alike us us))
      ∙ ap (λ z. earlier (earlier z (first_of bs)) (first_of (ends (are_alike us us)))) (in_turn f.first (expr_flow a f.locals).faults (expr_flow e ls).faults)
      ∙ ap (λ z. earlier (earlier (earlier (earlier f.first (first_of (expr_flow a f.locals).faults)) (first_of (expr_flow e ls).faults)) (first_of bs)) (first_of (ends z))) (alike_itself us))

  pub at_form_stmt : (z : t.Form) → after_stmt (t.form_stmt z) f ≡ after_form z f
  unfolding after_stmt after_form
  at_form_stmt z = refl

  pub at_express : (e : t.Expr) → after_stmt (t.express e) f ≡ after_expr e f
  unfolding after_stmt after_expr
  at_express e = refl

pub stmts_by_parts : (ss : List t.Stmt) (end : t.Stmts) (f : FlowView) → after_stmts (listed t.more_stmts ss end) f ≡ after_stmts end (after_stmts (listed t.more_stmts ss t.no_stmts) f)
stmts_by_parts [] end f = ap (λ z. after_stmts end z) (sym (no_stmts f))
stmts_by_parts (s ∷ ss) end f =
    more_stmts f s (listed t.more_stmts ss end)
    ∙ stmts_by_parts ss end (after_stmt s f)
    ∙ ap (λ z. after_stmts end z) (sym (more_stmts f s (listed t.more_stmts ss t.no_stmts)))

pub set_is : (p e : t.Expr) (f : FlowView) → after_set p e f ≡ told (after_expr e (with_first None f)).first (after_expr p (with_first f.first (after_expr e (with_first None f))))
unfolding after_set
set_is p e f = refl

-- ---- the laws by which the walk is proved

pub ruleset exprs = (expr_by_parts)

pub ruleset nodes = (v.of_set, v.of_chain, v.of_unary, v.of_steps, v.of_number, v.of_quote, v.of_truth, v.of_name, v.of_call, v.of_paren, v.of_elements, v.of_isolate, v.of_form, at_set, at_chain, at_unary, at_steps, at_number, at_quote, at_truth, at_name, at_call, at_paren, at_array, at_iso, at_form, set_is)

pub ruleset lists = (no_exprs, more_exprs, no_links, more_links, no_steps, more_steps, no_stmts, the_last, more_stmts)

pub ruleset links = (link_by_parts)

pub ruleset steps = (v.of_field, v.of_method, v.of_index, at_field, at_method, at_index)

pub ruleset forms = (sides_by_parts, v.of_if, v.of_pure, v.of_parallel_range, v.of_parallel_each, at_if, at_pure, at_range, at_each)

pub ruleset sides = (iteration_is, side_is, branches_are)

pub ruleset else_ifs = (else_if_by_parts, else_if_branches_by_parts, no_else, otherwise)

pub ruleset blocks = (block_by_parts, body_by_parts, stmts_by_parts)

pub ruleset stmts = (v.of_declare, v.of_destructure, v.of_return, v.of_while, v.of_foreach, v.of_form_stmt, v.of_express, at_declare, at_destructure, at_return, at_while, at_foreach, at_form_stmt, at_express)
