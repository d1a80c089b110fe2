-- The marks of a part need nothing of what its body names but whether its function gives a value.
use Rattle.std.proofs.Common.{◌≡◌, ℕ, ◌+◌, [], ◌∷◌, ◌++◌, Some, refl, ap, sym, ◌∙◌}
use Rattle.std.specs.Prelude.{Bool, true, false}
use Rattle.vale_syntax.specs.declared.tree.BinaryOp.{BinaryOp}
use Rattle.vale_syntax.specs.declared.tree.NameAt.{NameAt}
use Rattle.vale_syntax.specs.declared.tree.BinaryOp.TheVariants as op
use Rattle.vale_rules_spec.specs.Types.{Ty, int, bool, is_copy}
use Rattle.vale_rules_spec.specs.Typed as t
use Rattle.vale_rules_spec.specs.Typed.{type, block_type}
use Rattle.vale_lowering.specs.Lowered.{count, callee_code}
use Rattle.vale_lowering.specs.Scopes.{Around, agree}
use Rattle.vale_lower_facts.specs.Slots.{Stand, with_slot, local, holds, waits, given, behind}
use Rattle.vale_rules_spec.specs.Returns.{block_returns, stmt_returns}
use Rattle.vale_lower_facts.specs.Marks.{Marks, mark, marked, only_marks, if_marks, loop_marks, count_marks, counted, link_marks, with_args, expr_marks, value_marks, node_marks, args_marks, links_marks, form_marks, elses_marks, block_marks, stmts_marks, stmt_marks, unused_marks, value_due, args_due, link_due, block_due, stmt_due}
use Rattle.vale_label_steps.specs.Standing.{plain}
use Rattle.vale_label_steps.proofs.StepLaws.{of_callee}

both : {a b c d : Marks} → a ≡ b → c ≡ d → (a ++ c) ≡ (b ++ d)
both {a} {b} {c} {d} e f = ap (λ z. z ++ c) e ∙ ap (λ z. b ++ z) f

same_link : (o : BinaryOp) (x y : Ty) (d : Bool) (f g : ℕ → Stand → Bool → Marks) → ((h : ℕ) (s : Stand) (due : Bool) → f h s due ≡ g h s due) → (h : ℕ) (s : Stand) (due : Bool) → link_marks o x y d f h s due ≡ link_marks o x y d g h s due
same_link op.Or x y d f g e h s due = ap (λ z. if_marks [] due (with_slot (holds h x) s) [] false s z) (e h s true)
same_link op.And x y d f g e h s due = ap (λ z. mark due (with_slot (holds h x) s) ∷ z) (e h s false)
same_link op.Equal x y d f g e h s due = both (e (h + 1) (with_slot (holds h x) s) due) refl
same_link op.NotEqual x y d f g e h s due = both (e (h + 1) (with_slot (holds h x) s) due) refl
same_link op.Less x y d f g e h s due = both (e (h + 1) (with_slot (holds h x) s) due) refl
same_link op.LessEqual x y d f g e h s due = both (e (h + 1) (with_slot (holds h x) s) due) refl
same_link op.Greater x y d f g e h s due = both (e (h + 1) (with_slot (holds h x) s) due) refl
same_link op.GreaterEqual x y d f g e h s due = both (e (h + 1) (with_slot (holds h x) s) due) refl
same_link op.Add x y d f g e h s due = both (e (h + 1) (with_slot (holds h x) s) due) refl
same_link op.Sub x y d f g e h s due = both (e (h + 1) (with_slot (holds h x) s) due) refl
same_link op.Mul x y d f g e h s due = both (e (h + 1) (with_slot (holds h x) s) due) refl
same_link op.Div x y d f g e h s due = both (e (h + 1) (with_slot (holds h x) s) due) refl
same_link op.Rem x y d f g e h s due = both (e (h + 1) (with_slot (holds h x) s) due) refl

module _ (a : Around) where
  abbrev p : Around
  p = plain a.gives

  same_callee : (due : Bool) (s : Stand) (gives : Bool) (n : NameAt) (f : t.Callee) (values h : ℕ) → marked due s (callee_code a gives n f values h) ≡ marked due s (callee_code p gives n f values h)
  same_callee due s gives n f values h = of_callee due s a gives n f values h ∙ sym (of_callee due s p gives n f values h)

  -- of a test and two sides
  same_if : (due due_behind : Bool) (tested behind_one : Stand) {t1 t2 a1 a2 b1 b2 : Marks} → t1 ≡ t2 → a1 ≡ a2 → b1 ≡ b2 → if_marks t1 due tested a1 due_behind behind_one b1 ≡ if_marks t2 due tested a2 due_behind behind_one b2
  same_if due due_behind tested behind_one e f g =
      both e (ap (λ z. mark due tested ∷ z) (both f (ap (λ z. mark due_behind behind_one ∷ z) g)))

  same_loop : (due : Bool) (s : Stand) (due_behind : Bool) (tested : Stand) {a1 a2 t1 t2 : Marks} → a1 ≡ a2 → t1 ≡ t2 → loop_marks due s a1 t1 due_behind tested ≡ loop_marks due s a2 t2 due_behind tested
  same_loop due s due_behind tested e f = ap (λ z. mark due s ∷ Some s ∷ z) (both e (both f refl))

  mutual
    same_expr : (e : t.Expr) (h : ℕ) (s : Stand) (due : Bool) → expr_marks a e h s due ≡ expr_marks p e h s due
    same_expr (t.expr x node) h s due = same_node (is_copy x.value) node h s due

    same_value : (e : t.Expr) (h : ℕ) (s : Stand) (due : Bool) → value_marks a e h s due ≡ value_marks p e h s due
    same_value (t.expr x node) h s due = ap (λ z. only_marks (is_copy x.value) due s z) (same_node (is_copy x.value) node h s due)

    same_node : (gives : Bool) (n : t.Node) (h : ℕ) (s : Stand) (due : Bool) → node_marks a gives n h s due ≡ node_marks p gives n h s due
    same_node gives (t.number at n) h s due = refl
    same_node gives (t.quote at text) h s due = refl
    same_node gives (t.truth at b) h s due = refl
    same_node gives (t.name n is_outer moved) h s due = refl
    same_node gives (t.paren at e) h s due = ap (λ z. only_marks (agree gives (is_copy (type e))) due s z) (same_expr e h s due)
    same_node gives (t.chain e ls) h s due = ap (λ z. only_marks gives due s z) (both (same_value e h s due) (same_links (type e) ls h s (value_due e)))
    same_node gives (t.unary at o e) h s due = ap (λ z. only_marks gives due s z) (both (same_value e h s due) refl)
    same_node gives (t.set at q e) h s due = ap (λ z. only_marks gives due s z) (both (same_value e h s due) refl)
    same_node gives (t.call n f es) h s due = both (same_args es h s due) (same_callee (args_due es due) (with_args es h s) gives n f (count es) h)
    same_node gives (t.form f) h s due = same_form gives f h s due
    same_node gives (t.steps e ss) h s due = refl
    same_node gives (t.array at x es) h s due = refl
    same_node gives (t.iso at b) h s due = refl

    same_args : (es : t.Exprs) (h : ℕ) (s : Stand) (due : Bool) → args_marks a es h s due ≡ args_marks p es h s due
    same_args t.no_exprs h s due = refl
    same_args (t.more_exprs e es) h s due = both (same_value e h s due) (same_args es (h + 1) (with_slot (waits h (type e)) s) (value_due e))

    same_links : (x : Ty) (ls : t.Links) (h : ℕ) (s : Stand) (due : Bool) → links_marks a x ls h s due ≡ links_marks p x ls h s due
    same_links x t.no_links h s due = refl
    same_links x (t.more_links (t.link y at o e) ls) h s due =
        both (same_link o x (type e) (value_due e) (λ h s due. value_marks a e h s due) (λ h s due. value_marks p e h s due) (λ h s due. same_value e h s due) h s due)
        (same_links y.value ls h s (link_due o))

    same_form : (gives : Bool) (f : t.Form) (h : ℕ) (s : Stand) (due : Bool) → form_marks a gives f h s due ≡ form_marks p gives f h s due
    same_form gives (t.branch at c b es) h s due =
        same_if (value_due c) (block_due a.gives gives b false) (with_slot (holds h (type c)) s) (given gives h (block_type b) (behind (block_returns b) s))
        (same_value c h s due) (same_block gives b (h + 1) s false) (same_elses gives es h s true)
    same_form gives (t.pure at b) h s due = refl
    same_form gives (t.parallel_range at n c e b) h s due = refl
    same_form gives (t.parallel_each at n e b) h s due = refl

    same_elses : (gives : Bool) (es : t.Elses) (h : ℕ) (s : Stand) (due : Bool) → elses_marks a gives es h s due ≡ elses_marks p gives es h s due
    same_elses gives t.no_else h s due = refl
    same_elses gives (t.otherwise b) h s due = same_block gives b (h + 1) s due
    same_elses gives (t.more_elses (t.else_if at c b) es) h s due =
        same_if (value_due c) (block_due a.gives gives b false) (with_slot (holds h (type c)) s) (given gives h (block_type b) (behind (block_returns b) s))
        (same_value c h s due) (same_block gives b (h + 1) s false) (same_elses gives es h s true)

    pub same_block : (gives : Bool) (b : t.Block) (h : ℕ) (s : Stand) (due : Bool) → block_marks a gives b h s due ≡ block_marks p gives b h s due
    same_block gives (t.block at end x ss) h s due = same_stmts gives ss h s due

    same_stmts : (gives : Bool) (ss : t.Stmts) (h : ℕ) (s : Stand) (due : Bool) → stmts_marks a gives ss h s due ≡ stmts_marks p gives ss h s due
    same_stmts gives t.no_stmts h s due = refl
    same_stmts true (t.last e) h s due = both (same_value e h s due) refl
    same_stmts false (t.last e) h s due = ap (λ z. only_marks (agree false (is_copy (type e))) due s z) (same_expr e h s due)
    same_stmts gives (t.more_stmts (t.declare n x e) ss) h s due = both (same_value e h s due) (same_stmts gives ss (h + 1) (with_slot (local n.name.0 h x) s) (value_due e))
    same_stmts gives (t.more_stmts (t.destructure at ns xs e) ss) h s due = refl
    same_stmts gives (t.more_stmts (t.return_nothing at) ss) h s due = both (same_stmt (t.return_nothing at) h s due) (same_stmts gives ss h (behind true s) (stmt_due a.gives (t.return_nothing at)))
    same_stmts gives (t.more_stmts (t.return_value at e) ss) h s due = both (same_stmt (t.return_value at e) h s due) (same_stmts gives ss h (behind true s) (stmt_due a.gives (t.return_value at e)))
    same_stmts gives (t.more_stmts (t.while at c b) ss) h s due = both (same_stmt (t.while at c b) h s due) (same_stmts gives ss h (behind false s) true)
    same_stmts gives (t.more_stmts (t.foreach at n c e b) ss) h s due = both (same_stmt (t.foreach at n c e b) h s due) (same_stmts gives ss h (behind false s) true)
    same_stmts gives (t.more_stmts (t.form_stmt f) ss) h s due = both (same_stmt (t.form_stmt f) h s due) (same_stmts gives ss h (behind (stmt_returns (t.form_stmt f)) s) (stmt_due a.gives (t.form_stmt f)))
    same_stmts gives (t.more_stmts (t.express e) ss) h s due = both (same_stmt (t.express e) h s due) (same_stmts gives ss h (behind (stmt_returns (t.express e)) s) (stmt_due a.gives (t.express e)))

    same_stmt : (x : t.Stmt) (h : ℕ) (s : Stand) (due : Bool) → stmt_marks a x h s due ≡ stmt_marks p x h s due
    same_stmt (t.declare n x e) h s due = refl
    same_stmt (t.destructure at ns xs e) h s due = refl
    same_stmt (t.return_nothing at) h s due = refl
    same_stmt (t.return_value at e) h s due = ap (λ z. only_marks a.gives due s z) (both (same_value e h s due) refl)
    same_stmt (t.while at c b) h s due = same_loop due s (value_due c) (with_slot (holds h (type c)) s) (same_block false b (h + 1) s false) (same_value c h s true)
    same_stmt (t.foreach at n c e b) h s due =
        both (same_value c h s due) (both (same_value e (h + 1) (with_slot (holds h (type c)) s) (value_due c))
        (ap (λ z. count_marks (value_due e) (counted (type c) (type e) h s) z (block_due a.gives false b false) (behind (block_returns b) (counted (type c) (type e) h s)) (with_slot (holds (h + 1 + 1) bool) (counted (type c) (type e) h s)))
        (same_block false b (h + 1 + 1 + 1) (with_slot (local n.name.0 (h + 1 + 1) int) (counted (type c) (type e) h s)) false)))
    same_stmt (t.form_stmt f) h s due = same_form false f h s due
    same_stmt (t.express e) h s due = same_unused e h s due

    same_unused : (e : t.Expr) (h : ℕ) (s : Stand) (due : Bool) → unused_marks a e h s due ≡ unused_marks p e h s due
    same_unused (t.expr x (t.set at q e)) h s due = both (same_value e h s due) refl
    same_unused (t.expr x (t.chain e ls)) h s due = same_node (is_copy x.value) (t.chain e ls) h s due
    same_unused (t.expr x (t.unary at o e)) h s due = same_node (is_copy x.value) (t.unary at o e) h s due
    same_unused (t.expr x (t.steps e ss)) h s due = refl
    same_unused (t.expr x (t.number at n)) h s due = refl
    same_unused (t.expr x (t.quote at text)) h s due = refl
    same_unused (t.expr x (t.truth at b)) h s due = refl
    same_unused (t.expr x (t.name n is_outer moved)) h s due = refl
    same_unused (t.expr x (t.call n f es)) h s due = same_node (is_copy x.value) (t.call n f es) h s due
    same_unused (t.expr x (t.paren at e)) h s due = same_node (is_copy x.value) (t.paren at e) h s due
    same_unused (t.expr x (t.array at y es)) h s due = refl
    same_unused (t.expr x (t.iso at b)) h s due = refl
    same_unused (t.expr x (t.form f)) h s due = same_node (is_copy x.value) (t.form f) h s due
