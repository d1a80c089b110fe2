-- What forms, blocks and statements make, by what each call made.
use Rattle.std.proofs.Common.{◌≡◌, ℕ, ◌+◌, ◌<◌, ◌≤◌, List, [], ◌∷◌, ◌++◌, drop, get_or, length, refl, ap, sym, ◌∙◌}
use Rattle.std.specs.Prelude.{Bool, Option, Some, map, option_map, unwrap_or}
use Rattle.std.proofs.lemmas.Option.{none-some}
use Rattle.std.proofs.lemmas.List.{drop_all}
use Rattle.vale_base.specs.declared.spot.Spot.{Spot}
use Rattle.vale_rules_spec.specs.Typed as t
use Rattle.vale_rules_spec.specs.Typed.{type}
use Rattle.vale_core.specs.declared.tree.Block.{Block, out-Block}
use Rattle.vale_core.specs.declared.tree.ElseIf.{ElseIf, out-ElseIf}
use Rattle.vale_core.specs.declared.tree.Stmt.{Stmt}
use Rattle.vale_core.specs.View.{view_ty, view_expr, view_stmt, view_block, view_else_if, elses_of, else_end, stmts_of, last_end}
use Rattle.vale_core.proofs.PartLaws.{of_out_block, of_out_else_if}
use Rattle.vale_code.specs.declared.instr.Instr.TheVariants as i
use Rattle.vale_lowering_objects.specs.Scopes.{Gives, gives_of, is_value, may_meet, Scope, Gone, After, Around}
use Rattle.vale_lower_flow.specs.declared.closing.Closings.{Closings}
use Rattle.vale_lower_flow.specs.declared.flow.Mark.{Mark}
use Rattle.vale_lower_flow.specs.Closing.{closed}
use Rattle.vale_lower_flow.specs.Entries.{gone_of}
use Rattle.vale_lower_flow.specs.Flow.{Going, put, only, mark_of, begun, ended, turned, joined, side_after, after_of}
use Rattle.vale_lower_parts.specs.declared.branch.Branch.{Branch}
use Rattle.vale_lower_parts.specs.Branches.{branch_ended, branches_ended}
use Rattle.vale_lower_parts.specs.Named.{node_of}
use Rattle.vale_lower_parts.specs.Emitted.{expr_emitted, elses_emitted, block_emitted, stmts_emitted, stmt_emitted}
use Rattle.vale_lower_parts.proofs.FormLaws.{branches_more, branch_is}
use Rattle.vale_lower_parts.proofs.BlockLaws.{block_is}
use Rattle.vale_lower_stmts.specs.Placed.{set_local, store_emitted}
use Rattle.vale_lower_stmts.proofs.StmtLaws.{store_is}
use Rattle.vale_lower_stmts.proofs.FrontLaws.{next_of}

-- ---- branches

module _ (a : Around) (q : Gives) (h : ℕ) (s : Scope) where
  -- a block behind a test
  abbrev pub behind_test : t.Block → Going → Going
  behind_test b f = block_emitted a q b h (h + 1) s (put (i.Jump 0 ∷ []) f)

  -- a branch whose block has ended, and what stands on the other side
  pub by_branch : (c : t.Expr) (b : t.Block) (z : Branch) (start test : ℕ) (is_value2 : Bool) (m : Mark) (f f1 f3 f4 : Going) →
      start ≡ length f.code → m ≡ mark_of (expr_emitted a c h s f) → f1 ≡ begun (h + 1) (expr_emitted a c h s f) → is_value2 ≡ is_value (gives_of (type c)) → test ≡ length f1.code → f3 ≡ behind_test b f1
      → z.start ≡ start → z.mark ≡ m → z.is_value ≡ is_value2 → z.test ≡ test → gone_of z.side.gone ≡ f3.gone → z.side.comes ≡ f3.comes → z.side.jump ≡ length f3.code → f4 ≡ turned test h f1.gone f3
      → (at : Spot) (es : t.Elses) (before : Gone) → branch_ended z h s before (elses_emitted a q es before h s f4) ≡ elses_emitted a q (t.more_elses (t.else_if at c b) es) before h s f
  unfolding branch_ended
  by_branch c b z start test is_value2 m f f1 f3 f4 es0 em e1 ev et e3 zs zm zv zt zg zc zj e4 at es before =
      let g1 : Going = begun (h + 1) (expr_emitted a c h s f) in
      let g3 : Going = behind_test b g1 in
      let f5 : Going = elses_emitted a q es before h s f4 in
      let after : After = after_of f5.comes f5.gone in
      let e31 : f3 ≡ g3 = e3 ∙ ap (λ (g : Going). behind_test b g) e1 in
      let side : side_after z.side ≡ after_of f3.comes f3.gone = ap (λ (k : Bool). after_of k (gone_of z.side.gone)) zc ∙ ap (λ (g : Gone). after_of f3.comes g) zg in
      let in_f1 : Going → Going → Going = λ (u : Going) (v : Going).
      let w : Going = elses_emitted a q es before h s (turned (length u.code) h u.gone v) in
      only (is_value (gives_of (type c))) (length f.code) h (ended (mark_of (expr_emitted a c h s f)) (only (may_meet s (after_of v.comes v.gone) (after_of w.comes w.gone)) (length u.code) h (joined v.comes (length v.code) before (after_of v.comes v.gone) w))) in
      ap (λ (k : Bool). only k z.start h (ended z.mark (only (may_meet s (side_after z.side) after) z.test h (joined z.side.comes z.side.jump before (side_after z.side) f5)))) (zv ∙ ev)
      ∙ (ap (λ (i : ℕ). only (is_value (gives_of (type c))) i h (ended z.mark (only (may_meet s (side_after z.side) after) z.test h (joined z.side.comes z.side.jump before (side_after z.side) f5)))) (zs ∙ es0)
      ∙ (ap (λ (k : Mark). only (is_value (gives_of (type c))) (length f.code) h (ended k (only (may_meet s (side_after z.side) after) z.test h (joined z.side.comes z.side.jump before (side_after z.side) f5)))) (zm ∙ em)
      ∙ (ap (λ (p : After). only (is_value (gives_of (type c))) (length f.code) h (ended (mark_of (expr_emitted a c h s f)) (only (may_meet s p after) z.test h (joined z.side.comes z.side.jump before p f5)))) side
      ∙ (ap (λ (i : ℕ). only (is_value (gives_of (type c))) (length f.code) h (ended (mark_of (expr_emitted a c h s f)) (only (may_meet s (after_of f3.comes f3.gone) after) i h (joined z.side.comes z.side.jump before (after_of f3.comes f3.gone) f5)))) (zt ∙ et)
      ∙ (ap (λ (k : Bool). only (is_value (gives_of (type c))) (length f.code) h (ended (mark_of (expr_emitted a c h s f)) (only (may_meet s (after_of f3.comes f3.gone) after) (length f1.code) h (joined k z.side.jump before (after_of f3.comes f3.gone) f5)))) zc
      ∙ (ap (λ (i : ℕ). only (is_value (gives_of (type c))) (length f.code) h (ended (mark_of (expr_emitted a c h s f)) (only (may_meet s (after_of f3.comes f3.gone) after) (length f1.code) h (joined f3.comes i before (after_of f3.comes f3.gone) f5)))) zj
      ∙ (ap (λ (v : Going). let w : Going = elses_emitted a q es before h s v in only (is_value (gives_of (type c))) (length f.code) h (ended (mark_of (expr_emitted a c h s f)) (only (may_meet s (after_of f3.comes f3.gone) (after_of w.comes w.gone)) (length f1.code) h (joined f3.comes (length f3.code) before (after_of f3.comes f3.gone) w)))) (e4 ∙ ap (λ (i : ℕ). turned i h f1.gone f3) et)
      ∙ (ap (λ (v : Going). in_f1 f1 v) e31 ∙ (ap (λ (u : Going). in_f1 u g3) e1 ∙ branch_is a h s q before at c b es f)))))))))

  -- one branch more of those that are left
  pub elses_next : (bs bs1 : List Branch) (es : List ElseIf) (o : Option t.Block) (i : ℕ) (e : ElseIf) (b : Branch) (before : Gone) (f f1 goal : Going) →
      i < length es → e ≡ get_or es i e → bs1 ≡ bs ++ b ∷ []
      → ((at : Spot) (more : t.Elses) (first : Gone) → branch_ended b h s first (elses_emitted a q more first h s f1) ≡ elses_emitted a q (t.more_elses (t.else_if at (view_expr (out-ElseIf e).condition) (view_block (out-ElseIf e).block)) more) first h s f)
      → branches_ended bs h s before (elses_emitted a q (elses_of (map view_else_if (drop i es)) o) before h s f) ≡ goal
      → branches_ended bs1 h s before (elses_emitted a q (elses_of (map view_else_if (drop (i + 1) es)) o) before h s f1) ≡ goal
  elses_next bs bs1 es o i e b before f f1 goal lt is eb make so_far =
      let rest : t.Elses = elses_of (map view_else_if (drop (i + 1) es)) o in
      ap (λ (z : List Branch). branches_ended z h s before (elses_emitted a q rest before h s f1)) eb
      ∙ (branches_more bs b h s before (elses_emitted a q rest before h s f1)
      ∙ (ap (λ (g : Going). branches_ended bs h s before g) (make (out-ElseIf e).at rest before)
      ∙ (ap (λ (z : t.ElseIf). branches_ended bs h s before (elses_emitted a q (t.more_elses z rest) before h s f)) (sym (of_out_else_if e))
      ∙ (ap (λ (z : List ElseIf). branches_ended bs h s before (elses_emitted a q (elses_of (map view_else_if z) o) before h s f)) (sym (next_of es i e lt is)) ∙ so_far))))

  pub elses_end : (bs : List Branch) (es : List ElseIf) (o : Option t.Block) (i : ℕ) (before : Gone) (f f1 goal : Going) → length es ≤ i → f1 ≡ elses_emitted a q (else_end o) before h s f
      → branches_ended bs h s before (elses_emitted a q (elses_of (map view_else_if (drop i es)) o) before h s f) ≡ goal → branches_ended bs h s before f1 ≡ goal
  elses_end bs es o i before f f1 goal le e1 so_far =
      ap (λ (g : Going). branches_ended bs h s before g) e1 ∙ (ap (λ (z : List ElseIf). branches_ended bs h s before (elses_emitted a q (elses_of (map view_else_if z) o) before h s f)) (sym (drop_all i es le)) ∙ so_far)

-- ---- blocks

module _ (a : Around) (q : Gives) (end : Spot) (to : ℕ) (o : Option t.Expr) where
  -- the statements that are left
  abbrev pub stmts_left : List Stmt → ℕ → ℕ → Scope → Going → Going
  stmts_left xs i h s f = stmts_emitted a q end (stmts_of (map view_stmt (drop i xs)) o) to h s f

  pub stmts_next : (c0 c1 : Closings) (xs : List Stmt) (i : ℕ) (x : Stmt) (h h1 : ℕ) (s s1 : Scope) (f f1 goal : Going) → i < length xs → x ≡ get_or xs i x
      → ((p : Gives) (k : ℕ) (rest : t.Stmts) → closed c1 (stmts_emitted a p end rest k h1 s1 f1) ≡ closed c0 (stmts_emitted a p end (t.more_stmts (view_stmt x) rest) k h s f))
      → closed c0 (stmts_left xs i h s f) ≡ goal → closed c1 (stmts_left xs (i + 1) h1 s1 f1) ≡ goal
  stmts_next c0 c1 xs i x h h1 s s1 f f1 goal lt is make so_far =
      make q to (stmts_of (map view_stmt (drop (i + 1) xs)) o)
      ∙ (ap (λ (z : List Stmt). closed c0 (stmts_emitted a q end (stmts_of (map view_stmt z) o) to h s f)) (sym (next_of xs i x lt is)) ∙ so_far)

  pub stmts_end : (c : Closings) (xs : List Stmt) (i : ℕ) (h : ℕ) (s : Scope) (f f1 goal : Going) → length xs ≤ i → f1 ≡ stmts_emitted a q end (last_end o) to h s f → closed c (stmts_left xs i h s f) ≡ goal → closed c f1 ≡ goal
  stmts_end c xs i h s f f1 goal le e1 so_far =
      ap (λ (g : Going). closed c g) e1 ∙ (ap (λ (z : List Stmt). closed c (stmts_emitted a q end (stmts_of (map view_stmt z) o) to h s f)) (sym (drop_all i xs le)) ∙ so_far)

pub block_by_parts : (a : Around) (q : Gives) (b : Block) (to h : ℕ) (s : Scope) (f : Going) →
    stmts_emitted a q (out-Block b).end (stmts_of (map view_stmt (out-Block b).stmts) (option_map view_expr (out-Block b).last)) to h s f ≡ block_emitted a q (view_block b) to h s f
block_by_parts a q b to h s f =
    sym (ap (λ (z : t.Block). block_emitted a q z to h s f) (of_out_block b) ∙ block_is a q (out-Block b).end to (out-Block b).at (view_ty (out-Block b).ty) (stmts_of (map view_stmt (out-Block b).stmts) (option_map view_expr (out-Block b).last)) h s f)

-- ---- a local that is set, and what it held is dropped

module _ (a : Around) (h : ℕ) (s : Scope) where
  pub by_store : (e : t.Expr) (n : ℕ) (q : Gives) (f r : Going) → Some n ≡ set_local e → q ≡ gives_of (type e)
      → ((at : Spot) (p w : t.Expr) → node_of e ≡ t.set at p w → r ≡ store_emitted a q at n w h s f) → r ≡ stmt_emitted a (t.express e) h s f
  by_store (t.expr x (t.chain w ls)) n q f r e eq make = absurd (none-some n (sym e))
  by_store (t.expr x (t.unary at op w)) n q f r e eq make = absurd (none-some n (sym e))
  by_store (t.expr x (t.steps w ss)) n q f r e eq make = absurd (none-some n (sym e))
  by_store (t.expr x (t.number at k)) n q f r e eq make = absurd (none-some n (sym e))
  by_store (t.expr x (t.quote at text)) n q f r e eq make = absurd (none-some n (sym e))
  by_store (t.expr x (t.truth at b)) n q f r e eq make = absurd (none-some n (sym e))
  by_store (t.expr x (t.call m c es)) n q f r e eq make = absurd (none-some n (sym e))
  by_store (t.expr x (t.paren at w)) n q f r e eq make = absurd (none-some n (sym e))
  by_store (t.expr x (t.array at w es)) n q f r e eq make = absurd (none-some n (sym e))
  by_store (t.expr x (t.iso at b)) n q f r e eq make = absurd (none-some n (sym e))
  by_store (t.expr x (t.form w)) n q f r e eq make = absurd (none-some n (sym e))
  by_store (t.expr x (t.name m is_outer is_moved)) n q f r e eq make = absurd (none-some n (sym e))
  by_store (t.expr x (t.set at0 (t.expr z (t.chain w ls)) w0)) n q f r e eq make = absurd (none-some n (sym e))
  by_store (t.expr x (t.set at0 (t.expr z (t.unary at op w)) w0)) n q f r e eq make = absurd (none-some n (sym e))
  by_store (t.expr x (t.set at0 (t.expr z (t.steps w ss)) w0)) n q f r e eq make = absurd (none-some n (sym e))
  by_store (t.expr x (t.set at0 (t.expr z (t.number at k)) w0)) n q f r e eq make = absurd (none-some n (sym e))
  by_store (t.expr x (t.set at0 (t.expr z (t.quote at text)) w0)) n q f r e eq make = absurd (none-some n (sym e))
  by_store (t.expr x (t.set at0 (t.expr z (t.truth at b)) w0)) n q f r e eq make = absurd (none-some n (sym e))
  by_store (t.expr x (t.set at0 (t.expr z (t.call m c es)) w0)) n q f r e eq make = absurd (none-some n (sym e))
  by_store (t.expr x (t.set at0 (t.expr z (t.paren at w)) w0)) n q f r e eq make = absurd (none-some n (sym e))
  by_store (t.expr x (t.set at0 (t.expr z (t.array at w es)) w0)) n q f r e eq make = absurd (none-some n (sym e))
  by_store (t.expr x (t.set at0 (t.expr z (t.iso at b)) w0)) n q f r e eq make = absurd (none-some n (sym e))
  by_store (t.expr x (t.set at0 (t.expr z (t.form w)) w0)) n q f r e eq make = absurd (none-some n (sym e))
  by_store (t.expr x (t.set at0 (t.expr z (t.set at p w)) w0)) n q f r e eq make = absurd (none-some n (sym e))
  by_store (t.expr x (t.set at0 (t.expr z (t.name m is_outer is_moved)) w0)) n q f r e eq make =
      make at0 (t.expr z (t.name m is_outer is_moved)) w0 refl
      ∙ ap (λ (p : Gives). store_emitted a p at0 n w0 h s f) eq ∙ ap (λ (k : Option ℕ). store_emitted a (gives_of x.value) at0 (unwrap_or k n) w0 h s f) e
      ∙ store_is a h s x z at0 m is_outer is_moved w0 f
