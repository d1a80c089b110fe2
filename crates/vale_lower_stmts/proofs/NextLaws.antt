-- What forms, and the statements of blocks make, by what each call made.
use Rattle.std.proofs.Common.{◌≡◌, ℕ, ◌+◌, List, [], ◌∷◌, length, ap, sym, ◌∙◌}
use Rattle.std.proofs.lemmas.Bool.{false≢true}
use Rattle.std.specs.Prelude.{Bool, true, false, ◌&&◌, Option, Some, None, map, option_map}
use Rattle.vale_base.specs.declared.spot.Spot.{Spot}
use Rattle.vale_syntax.specs.declared.tree.NameAt.{NameAt}
use Rattle.vale_rules_spec.specs.Types as y
use Rattle.vale_rules_spec.specs.Typed as t
use Rattle.vale_rules_spec.specs.Typed.{type}
use Rattle.vale_core.specs.declared.tree.Expr.{Expr}
use Rattle.vale_core.specs.declared.tree.Block.{Block}
use Rattle.vale_core.specs.declared.tree.ElseIf.{ElseIf}
use Rattle.vale_core.specs.declared.tree.Form.{Form}
use Rattle.vale_core.specs.declared.tree.Form.TheVariants as d
use Rattle.vale_core.specs.declared.tree.Stmt.{Stmt}
use Rattle.vale_core.specs.declared.tree.Stmt.TheVariants as m
use Rattle.vale_core.specs.View.{view_expr, view_form, view_stmt, view_block, view_else_if, elses_of}
use Rattle.vale_core.proofs.ViewLaws as v
use Rattle.vale_model.specs.Expressions.{numbers_of}
use Rattle.vale_code.specs.declared.instr.Instr.TheVariants as i
use Rattle.vale_lowering.specs.Instructions.{stuck, registers_from}
use Rattle.vale_lowering_objects.specs.Scopes.{Gives, owner, gives_of, is_value, agree, Entry, entry, Scope, Gone, Around}
use Rattle.vale_lowering_objects.specs.Lowered.{all_gives, thaw_code, stmts_code, stmts_after}
use Rattle.vale_lower_flow.specs.declared.closing.Closings.{Closings}
use Rattle.vale_lower_flow.specs.declared.flow.Mark.{Mark}
use Rattle.vale_lower_flow.specs.Closing.{closed, dropped}
use Rattle.vale_lower_flow.specs.Flow.{Going, put, only, mark_of, begun, ended, filled, if_there}
use Rattle.vale_lower_parts.specs.declared.branch.Branch.{Branch}
use Rattle.vale_lower_parts.specs.Branches.{branch_ended}
use Rattle.vale_lower_parts.specs.Located.{Rest, Leaves, located, at_rest}
use Rattle.vale_lower_parts.specs.Emitted.{expr_emitted, node_emitted, form_emitted, elses_emitted, block_emitted, stmts_emitted, stmt_emitted}
use Rattle.vale_lower_parts.proofs.FormLaws.{pure_is, iso_is, range_is, each_is, if_is}
use Rattle.vale_lower_parts.proofs.BlockLaws.{declare_is, destructure_is, return_nothing_next, return_value_next, while_next, foreach_next, form_next, express_next, next_stmt}
use Rattle.vale_lower_stmts.proofs.FrontLaws.{kept}
use Rattle.vale_lower_stmts.proofs.ListLaws.{numbers_length}

module _ (a : Around) (h : ℕ) (s : Scope) where
  -- a block after a freeze
  frozen_block : (q : Gives) (at : Spot) (b : t.Block) (next : ℕ) (f f1 f2 : Going) → next ≡ h + 1 → f1 ≡ put (i.Freeze at ∷ []) f → f2 ≡ block_emitted a q b h next s f1 → f2 ≡ block_emitted a q b h (h + 1) s (put (i.Freeze at ∷ []) f)
  frozen_block q at b next f f1 f2 en e1 e2 = e2 ∙ ap (λ (g : Going). block_emitted a q b h next s g) e1 ∙ ap (λ (n : ℕ). block_emitted a q b h n s (put (i.Freeze at ∷ []) f)) en

  pub by_iso : (x : y.Ty) (q : Gives) (at : Spot) (b : t.Block) (next start : ℕ) (ok : Bool) (f f1 f2 r : Going) → next ≡ h + 1 → start ≡ length f.code → f1 ≡ put (i.Freeze at ∷ []) f → f2 ≡ block_emitted a owner b h next s f1 → ok ≡ agree q owner
      → r ≡ only ok start h (if_there (λ place g. i.ThawKeep h h ∷ []) f2) → r ≡ node_emitted a x q (t.iso at b) h s f
  by_iso x q at b next start ok f f1 f2 r en es e1 e2 eo er =
      let body : Going = block_emitted a owner b h (h + 1) s (put (i.Freeze at ∷ []) f) in
      kept ok (agree q owner) start (length f.code) h (if_there (λ place g. i.ThawKeep h h ∷ []) f2) (if_there (λ place g. i.ThawKeep h h ∷ []) body) r es eo
      (ap (λ (g : Going). if_there (λ place g. i.ThawKeep h h ∷ []) g) (frozen_block owner at b next f f1 f2 en e1 e2)) er
      ∙ sym (iso_is a h s x q at b f)

  -- ---- forms

  form_as : (x : y.Ty) (q : Gives) (w : Form) (z : t.Form) (f : Going) → view_form w ≡ z → form_emitted a x q z h s f ≡ form_emitted a x q (view_form w) h s f
  form_as x q w z f e = ap (λ (u : t.Form). form_emitted a x q u h s f) (sym e)

  pub by_pure : (x : y.Ty) (q : Gives) (w : Form) (at : Spot) (b : Block) (next : ℕ) (k : Bool) (f f1 f2 r : Going) → w ≡ d.Pure at b → next ≡ h + 1 → f1 ≡ put (i.Freeze at ∷ []) f → f2 ≡ block_emitted a q (view_block b) h next s f1 → k ≡ y.is_owner x
      → r ≡ if_there (λ place g. thaw_code k q h) f2 → r ≡ form_emitted a x q (view_form w) h s f
  by_pure x q w at b next k f f1 f2 r is en e1 e2 ek er =
      er ∙ ap (λ (z : Bool). if_there (λ place g. thaw_code z q h) f2) ek ∙ ap (λ (g : Going). if_there (λ place g. thaw_code (y.is_owner x) q h) g) (frozen_block q at (view_block b) next f f1 f2 en e1 e2)
      ∙ sym (pure_is a h s x q at (view_block b) f) ∙ form_as x q w (t.pure at (view_block b)) f (ap view_form is ∙ v.of_pure at b)

  pub by_range : (x : y.Ty) (q : Gives) (w : Form) (at : Spot) (n : NameAt) (c e : Expr) (b : Block) (f r : Going) → w ≡ d.ParallelRange at n c e b → r ≡ put (stuck h) f → r ≡ form_emitted a x q (view_form w) h s f
  by_range x q w at n c e b f r is er =
      er ∙ sym (range_is a h s x q at n (view_expr c) (view_expr e) (view_block b) f) ∙ form_as x q w (t.parallel_range at n (view_expr c) (view_expr e) (view_block b)) f (ap view_form is ∙ v.of_parallel_range at n c e b)

  pub by_each : (x : y.Ty) (q : Gives) (w : Form) (at : Spot) (n : NameAt) (e : Expr) (b : Block) (f r : Going) → w ≡ d.ParallelEach at n e b → r ≡ put (stuck h) f → r ≡ form_emitted a x q (view_form w) h s f
  by_each x q w at n e b f r is er =
      er ∙ sym (each_is a h s x q at n (view_expr e) (view_block b) f) ∙ form_as x q w (t.parallel_each at n (view_expr e) (view_block b)) f (ap view_form is ∙ v.of_parallel_each at n e b)

  pub by_if : (x : y.Ty) (q : Gives) (w : Form) (at : Spot) (c : Expr) (b : Block) (es : List ElseIf) (o : Option Block) (z : Branch) (before : Gone) (f f1 f2 r : Going) → w ≡ d.If at c b es o → before ≡ f.gone
      → ((at : Spot) (es : t.Elses) (before : Gone) → branch_ended z h s before (elses_emitted a q es before h s f1) ≡ elses_emitted a q (t.more_elses (t.else_if at (view_expr c) (view_block b)) es) before h s f)
      → f2 ≡ elses_emitted a q (elses_of (map view_else_if es) (option_map view_block o)) before h s f1 → r ≡ branch_ended z h s before f2 → r ≡ form_emitted a x q (view_form w) h s f
  by_if x q w at c b es o z before f f1 f2 r is eb make e2 er =
      let rest : t.Elses = elses_of (map view_else_if es) (option_map view_block o) in
      er ∙ ap (λ (g : Going). branch_ended z h s before g) e2 ∙ make at rest before
      ∙ ap (λ (g : Gone). elses_emitted a q (t.more_elses (t.else_if at (view_expr c) (view_block b)) rest) g h s f) eb
      ∙ sym (if_is a h s x q at (view_expr c) (view_block b) rest f) ∙ form_as x q w (t.branch at (view_expr c) (view_block b) rest) f (ap view_form is ∙ v.of_if at c b es o)

-- ---- the statements of a block

-- it declares no local
abbrev pub is_plain : t.Stmt → Bool
is_plain (t.declare n x e) = false
is_plain (t.destructure at ns xs e) = false
is_plain _ = true

pub plain_return : (at : Spot) (e : Option Expr) → is_plain (view_stmt (m.Return at e)) ≡ true
plain_return at None = ap is_plain (v.of_return_nothing at)
plain_return at (Some e) = ap is_plain (v.of_return_value at e)

module _ (a : Around) (end : Spot) (h : ℕ) (s : Scope) where
  module _ (q : Gives) (to : ℕ) where
    next_is : (x : t.Stmt) (ss : t.Stmts) (f : Going) → is_plain x ≡ true → stmts_emitted a q end (t.more_stmts x ss) to h s f ≡ next_stmt a q end to h s x ss f
    next_is (t.declare n x e) ss f k = absurd (false≢true k)
    next_is (t.destructure at ns xs e) ss f k = absurd (false≢true k)
    next_is (t.return_nothing at) ss f k = return_nothing_next a q end to h s at ss f
    next_is (t.return_value at e) ss f k = return_value_next a q end to h s at e ss f
    next_is (t.while at c b) ss f k = while_next a q end to h s at c b ss f
    next_is (t.foreach at n c e b) ss f k = foreach_next a q end to h s at n c e b ss f
    next_is (t.form_stmt z) ss f k = form_next a q end to h s z ss f
    next_is (t.express e) ss f k = express_next a q end to h s e ss f

  pub by_next : (c0 c1 : Closings) (x : t.Stmt) (m : Mark) (f f1 f2 : Going) → is_plain x ≡ true → f1 ≡ stmt_emitted a x h s f → m ≡ mark_of f1 → f2 ≡ begun h f1 → ((g : Going) → closed c1 g ≡ closed c0 (ended m g))
      → (q : Gives) (to : ℕ) (rest : t.Stmts) → closed c1 (stmts_emitted a q end rest to h s f2) ≡ closed c0 (stmts_emitted a q end (t.more_stmts x rest) to h s f)
  by_next c0 c1 x m f f1 f2 k e1 em e2 ec q to rest =
      let after : Going → Going = λ (g : Going). stmts_emitted a q end rest to h s g in
      ap (λ (g : Going). closed c1 (after g)) e2 ∙ (ec (after (begun h f1)) ∙ (ap (λ (z : Mark). closed c0 (ended z (after (begun h f1)))) em
      ∙ (ap (λ (g : Going). closed c0 (ended (mark_of g) (after (begun h g)))) e1 ∙ ap (λ (g : Going). closed c0 g) (sym (next_is q to x rest f k)))))

  pub by_declare : (c0 c1 : Closings) (x : Stmt) (n : NameAt) (w : y.Ty) (e : t.Expr) (ok : Bool) (p : Gives) (start h1 : ℕ) (m : Mark) (s1 : Scope) (f f1 f2 : Going) → view_stmt x ≡ t.declare n w e → p ≡ gives_of w
      → start ≡ length f.code → m ≡ mark_of (expr_emitted a e h s f) → ok ≡ (is_value (gives_of (type e)) && is_value (gives_of w)) → f1 ≡ begun (h + 1) (expr_emitted a e h s f) → h1 ≡ h + 1 → s1 ≡ entry n.name.0 h p ∷ s → f2 ≡ filled h f1
      → ((g : Going) → closed c1 g ≡ closed c0 (only ok start h (ended m (dropped (entry n.name.0 h p) end g))))
      → (q : Gives) (to : ℕ) (rest : t.Stmts) → closed c1 (stmts_emitted a q end rest to h1 s1 f2) ≡ closed c0 (stmts_emitted a q end (t.more_stmts (view_stmt x) rest) to h s f)
  by_declare c0 c1 x n w e ok p start h1 m s1 f f1 f2 is ep est em eo e1 eh e_s e2 ec q to rest =
      let one : Going = expr_emitted a e h s f in
      let local : Gives → Entry = λ (z : Gives). entry n.name.0 h z in
      let after : ℕ → Scope → Going → Going = λ (k : ℕ) (z : Scope) (g : Going). stmts_emitted a q end rest to k z g in
      let inner : Gives → Going → Going = λ (z : Gives) (g : Going). dropped (local z) end (after (h + 1) (local z ∷ s) (filled h g)) in
      let ok2 : Bool = is_value (gives_of (type e)) && is_value (gives_of w) in
      ap (λ (k : ℕ). closed c1 (after k s1 f2)) eh ∙ (ap (λ (z : Scope). closed c1 (after (h + 1) z f2)) e_s ∙ (ap (λ (g : Going). closed c1 (after (h + 1) (local p ∷ s) g)) e2
      ∙ (ec (after (h + 1) (local p ∷ s) (filled h f1))
      ∙ (ap (λ (g : Going). closed c0 (only ok start h (ended m (inner p g)))) e1 ∙ (ap (λ (z : Gives). closed c0 (only ok start h (ended m (inner z (begun (h + 1) one))))) ep
      ∙ (ap (λ (z : Mark). closed c0 (only ok start h (ended z (inner (gives_of w) (begun (h + 1) one))))) em ∙ (ap (λ (k : ℕ). closed c0 (only ok k h (ended (mark_of one) (inner (gives_of w) (begun (h + 1) one))))) est
      ∙ (ap (λ (b : Bool). closed c0 (only b (length f.code) h (ended (mark_of one) (inner (gives_of w) (begun (h + 1) one))))) eo
      ∙ (ap (λ (g : Going). closed c0 g) (sym (declare_is a q end to h s n w e rest f)) ∙ ap (λ (z : t.Stmt). closed c0 (stmts_emitted a q end (t.more_stmts z rest) to h s f)) (sym is))))))))))

  -- what the locals of a destructuring leave to what runs in their scope
  abbrev pub Opened : Closings → Closings → Bool → ℕ → Mark → List NameAt → List y.Ty → ℕ → Scope → Going → Going → Type 0
  Opened c0 c1 ok start m ns ws h1 s1 f1 f2 = (after : Leaves) (rest : Rest) → closed c1 (at_rest end after rest h1 s1 f2)
      ≡ closed c0 (only ok start h (ended m (located end after rest (numbers_of ns) (all_gives ws) h s (put (i.Open (registers_from h (length ns)) h ∷ []) f1))))

  pub by_destructure : (c0 c1 : Closings) (x : Stmt) (at : Spot) (ns : List NameAt) (ws : List y.Ty) (e : t.Expr) (ok : Bool) (start h1 : ℕ) (m : Mark) (s1 : Scope) (f f1 f2 : Going) → view_stmt x ≡ t.destructure at ns ws e
      → start ≡ length f.code → m ≡ mark_of (expr_emitted a e h s f) → ok ≡ is_value (gives_of (type e)) → f1 ≡ begun (h + 1) (expr_emitted a e h s f) → Opened c0 c1 ok start m ns ws h1 s1 f1 f2
      → (q : Gives) (to : ℕ) (rest : t.Stmts) → closed c1 (stmts_emitted a q end rest to h1 s1 f2) ≡ closed c0 (stmts_emitted a q end (t.more_stmts (view_stmt x) rest) to h s f)
  unfolding at_rest stmts_emitted
  by_destructure c0 c1 x at ns ws e ok start h1 m s1 f f1 f2 is est em eo e1 make q to rest =
      let after : Leaves = λ h s g. stmts_after rest h s g in
      let more : Rest = λ place h s g. stmts_code a q end rest place to h s g in
      let one : Going = expr_emitted a e h s f in
      let inner : ℕ → Going → Going = λ (k : ℕ) (g : Going). located end after more (numbers_of ns) (all_gives ws) h s (put (i.Open (registers_from h k) h ∷ []) g) in
      make after more
      ∙ (ap (λ (g : Going). closed c0 (only ok start h (ended m (inner (length ns) g)))) e1 ∙ (ap (λ (k : ℕ). closed c0 (only ok start h (ended m (inner k (begun (h + 1) one))))) (sym (numbers_length ns))
      ∙ (ap (λ (z : Mark). closed c0 (only ok start h (ended z (inner (length (numbers_of ns)) (begun (h + 1) one))))) em
      ∙ (ap (λ (k : ℕ). closed c0 (only ok k h (ended (mark_of one) (inner (length (numbers_of ns)) (begun (h + 1) one))))) est
      ∙ (ap (λ (b : Bool). closed c0 (only b (length f.code) h (ended (mark_of one) (inner (length (numbers_of ns)) (begun (h + 1) one))))) eo
      ∙ (ap (λ (g : Going). closed c0 g) (sym (destructure_is a q end to h s at ns ws e rest f)) ∙ ap (λ (z : t.Stmt). closed c0 (stmts_emitted a q end (t.more_stmts z rest) to h s f)) (sym is)))))))
