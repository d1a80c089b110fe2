-- What statements make, by what each call made.
use Rattle.std.proofs.Common.{◌≡◌, ℕ, ◌+◌, List, [], ◌∷◌, ◌++◌, length, refl, ap, sym, ◌∙◌, true≢false, arith}
use Rattle.std.specs.Prelude.{Bool, true, false, ◌&&◌, pos, Option, None}
use Rattle.vale_base.specs.declared.spot.Spot.{Spot}
use Rattle.vale_syntax.specs.declared.tree.NameAt.{NameAt}
use Rattle.vale_rules_spec.specs.Typed as t
use Rattle.vale_rules_spec.specs.Typed.{type}
use Rattle.vale_core.specs.declared.tree.Expr.{Expr}
use Rattle.vale_core.specs.declared.tree.Node.{Node}
use Rattle.vale_core.specs.declared.tree.Node.TheVariants as d
use Rattle.vale_core.specs.declared.tree.Stmt.{Stmt}
use Rattle.vale_core.specs.View.{view_expr, view_node, view_stmt}
use Rattle.vale_core.proofs.ViewLaws as views
use Rattle.vale_model.specs.Expressions.{expr_spot}
use Rattle.vale_code.specs.declared.instr.Instr.{Instr}
use Rattle.vale_code.specs.declared.instr.Instr.TheVariants as i
use Rattle.vale_lowering.specs.Instructions.{stuck}
use Rattle.vale_lowering_objects.specs.Scopes.{Gives, void, copy, gives_of, is_value, agree, Entry, entry, Scope, Gone, Around, closes, find}
use Rattle.vale_lowering_objects.specs.Lowered.{drop_scope, drop_value, store}
use Rattle.vale_lower_flow.specs.declared.flow.Mark.{Mark}
use Rattle.vale_lower_flow.specs.Entries.{gone_of}
use Rattle.vale_lower_flow.specs.Flow.{Going, emitted, put, left, back_to, filled, only, mark_of, begun, ended, if_there, looped, after_of}
use Rattle.vale_lower_looks.specs.Comes.{expr_comes}
use Rattle.vale_lower_places.specs.Places.{scope_dropped}
use Rattle.vale_lower_parts.specs.Emitted.{expr_emitted, block_emitted, stmt_emitted}
use Rattle.vale_lower_stmts.specs.declared.loops.Turns.{Turns}
use Rattle.vale_lower_stmts.specs.declared.loops.Test.{Test}
use Rattle.vale_lower_stmts.specs.declared.loops.Passed.{Passed}
use Rattle.vale_lower_stmts.specs.declared.loops.Count.{Count}
use Rattle.vale_lower_stmts.specs.Counted.{count_emitted}
use Rattle.vale_lower_stmts.specs.Placed.{set_local, unused_emitted, store_emitted}
use Rattle.vale_lower_stmts.proofs.CountLaws.{count_is, foreach_is}
use Rattle.vale_lower_stmts.proofs.NextLaws.{is_plain}
use Rattle.vale_lower_stmts.proofs.StmtLaws.{return_nothing_is, return_value_is, turns_is, no_turns_is, unused_is, begun_gone}

abbrev pub set_at : t.Node → Spot → Spot
set_at (t.set at p e) other = at
set_at _ other = other

abbrev pub set_new : t.Node → t.Expr → t.Expr
set_new (t.set at p e) other = e
set_new _ other = other

module _ (a : Around) (h : ℕ) (s : Scope) where
  pub stmt_as : (x : Stmt) (z : t.Stmt) (f r : Going) → view_stmt x ≡ z → r ≡ stmt_emitted a z h s f → r ≡ stmt_emitted a (view_stmt x) h s f
  stmt_as x z f r e er = er ∙ ap (λ (w : t.Stmt). stmt_emitted a w h s f) (sym e)

  -- a declaration has no code as a statement by itself
  pub by_locals : (x : t.Stmt) (f : Going) → is_plain x ≡ false → put (stuck h) f ≡ stmt_emitted a x h s f
  unfolding put stmt_emitted emitted
  by_locals (t.declare n w e) f k = refl
  by_locals (t.destructure at ns ws e) f k = refl
  by_locals (t.return_nothing at) f k = absurd (true≢false k)
  by_locals (t.return_value at e) f k = absurd (true≢false k)
  by_locals (t.while at c b) f k = absurd (true≢false k)
  by_locals (t.foreach at n c e b) f k = absurd (true≢false k)
  by_locals (t.form_stmt z) f k = absurd (true≢false k)
  by_locals (t.express e) f k = absurd (true≢false k)

  pub by_return_nothing : (at : Spot) (ok : Bool) (f r : Going) → ok ≡ agree a.gives void → r ≡ left (only ok (length f.code) h (put (i.RetVoid ∷ []) (scope_dropped s at f))) → r ≡ stmt_emitted a (t.return_nothing at) h s f
  by_return_nothing at ok f r eo er = er ∙ ap (λ (b : Bool). left (only b (length f.code) h (put (i.RetVoid ∷ []) (scope_dropped s at f)))) eo ∙ sym (return_nothing_is a h s at f)

  pub by_return : (at : Spot) (e : t.Expr) (ok : Bool) (start : ℕ) (f f1 r : Going) → start ≡ length f.code → f1 ≡ expr_emitted a e h s f → ok ≡ (is_value (gives_of (type e)) && agree a.gives (gives_of (type e)))
      → r ≡ left (only ok start h (if_there (λ place g. drop_scope s g at ++ (i.Ret h ∷ [])) f1)) → r ≡ stmt_emitted a (t.return_value at e) h s f
  by_return at e ok start f f1 r es e1 eo er =
      let whole : Bool → ℕ → Going → Going = λ (b : Bool) (n : ℕ) (g : Going). left (only b n h (if_there (λ place w. drop_scope s w at ++ (i.Ret h ∷ [])) g)) in
      er ∙ ap (λ (b : Bool). whole b start f1) eo ∙ ap (λ (n : ℕ). whole (is_value (gives_of (type e)) && agree a.gives (gives_of (type e))) n f1) es
      ∙ ap (λ (g : Going). whole (is_value (gives_of (type e)) && agree a.gives (gives_of (type e))) (length f.code) g) e1 ∙ sym (return_value_is a h s at e f)

  -- ---- loops

  pub by_turns : (c : t.Expr) (b : t.Block) (z : Turns) (test : Test) (ok : Bool) (next : ℕ) (f f1 f2 f3 f4 r : Going) → next ≡ h + 1 → ok ≡ is_value (gives_of (type c))
      → gone_of z.before ≡ f.gone → z.start ≡ length f.code → f1 ≡ put (i.Tick ∷ []) (put (i.Jump 0 ∷ []) f) → f2 ≡ block_emitted a void b h next s f1
      → test.closes ≡ closes s (gone_of z.before) (after_of f2.comes f2.gone) → test.place ≡ length f2.code → f3 ≡ back_to (gone_of z.before) f2 → f4 ≡ expr_emitted a c h s f3
      → r ≡ only (ok && (closes s (gone_of z.before) (after_of f4.comes f4.gone) && test.closes)) z.start h (looped z.start test.place h (gone_of z.before) f4)
      → (at : Spot) → expr_comes c ≡ true → r ≡ stmt_emitted a (t.while at c b) h s f
  by_turns c b z test ok next f f1 f2 f3 f4 r en eo eg es e1 e2 ec ep e3 e4 er at comes =
      let v : Bool = is_value (gives_of (type c)) in
      let n : ℕ = length f.code in
      let whole : Bool → Bool → Gone → ℕ → ℕ → Going → Going = λ (u : Bool) (k : Bool) (g : Gone) (m : ℕ) (p : ℕ) (w : Going). only (u && (closes s g (after_of w.comes w.gone) && k)) m h (looped m p h g w) in
      let back : Going → Going = λ (u : Going). whole v (closes s f.gone (after_of u.comes u.gone)) f.gone n (length u.code) (expr_emitted a c h s (back_to f.gone u)) in
      er ∙ ap (λ (u : Bool). whole u test.closes (gone_of z.before) z.start test.place f4) eo ∙ ap (λ (m : ℕ). whole v test.closes (gone_of z.before) m test.place f4) es
      ∙ ap (λ (p : ℕ). whole v test.closes (gone_of z.before) n p f4) ep ∙ ap (λ (k : Bool). whole v k (gone_of z.before) n (length f2.code) f4) ec
      ∙ ap (λ (w : Going). whole v (closes s (gone_of z.before) (after_of f2.comes f2.gone)) (gone_of z.before) n (length f2.code) w) (e4 ∙ ap (λ (w : Going). expr_emitted a c h s w) e3)
      ∙ ap (λ (g : Gone). whole v (closes s g (after_of f2.comes f2.gone)) g n (length f2.code) (expr_emitted a c h s (back_to g f2))) eg
      ∙ ap back (e2 ∙ ap (λ (w : Going). block_emitted a void b h next s w) e1 ∙ ap (λ (m : ℕ). block_emitted a void b h m s (put (i.Tick ∷ []) (put (i.Jump 0 ∷ []) f))) en)
      ∙ turns_is a h s at c b f comes

  pub by_no_turns : (c : t.Expr) (b : t.Block) (before : Gone) (z : Passed) (start next : ℕ) (m : Mark) (ok : Bool) (f f1 f2 f3 r : Going) → ok ≡ is_value (gives_of (type c)) → before ≡ f.gone
      → start ≡ length f.code → next ≡ h + 1 → m ≡ mark_of (expr_emitted a c h s f) → f1 ≡ begun (h + 1) (expr_emitted a c h s f)
      → z.front.start ≡ start → z.front.mark ≡ m → gone_of z.before ≡ before → gone_of z.now ≡ f1.gone → f2 ≡ back_to before f1 → f3 ≡ block_emitted a void b h next s f2
      → r ≡ only (ok && closes s (gone_of z.before) (after_of f3.comes f3.gone)) z.front.start h (ended z.front.mark (back_to (gone_of z.now) f3))
      → (at : Spot) → expr_comes c ≡ false → r ≡ stmt_emitted a (t.while at c b) h s f
  by_no_turns c b before z start next m ok f f1 f2 f3 r eo eb es en em e1 zs zm zb zn e2 e3 er at never =
      let v : Bool = is_value (gives_of (type c)) in
      let one : Going = expr_emitted a c h s f in
      let body : Going = block_emitted a void b h (h + 1) s (back_to f.gone (begun (h + 1) one)) in
      let whole : Bool → Gone → ℕ → Mark → Gone → Going → Going = λ (u : Bool) (g : Gone) (n : ℕ) (k : Mark) (now : Gone) (w : Going). only (u && closes s g (after_of w.comes w.gone)) n h (ended k (back_to now w)) in
      let e_body : f3 ≡ body = e3 ∙ ap (λ (w : Going). block_emitted a void b h next s w) (e2 ∙ ap (λ (g : Gone). back_to g f1) eb ∙ ap (λ (w : Going). back_to f.gone w) e1) ∙ ap (λ (n : ℕ). block_emitted a void b h n s (back_to f.gone (begun (h + 1) one))) en in
      let e_now : gone_of z.now ≡ one.gone = zn ∙ ap (λ (w : Going). w.gone) e1 ∙ begun_gone (h + 1) one in
      er ∙ ap (λ (u : Bool). whole u (gone_of z.before) z.front.start z.front.mark (gone_of z.now) f3) eo ∙ ap (λ (g : Gone). whole v g z.front.start z.front.mark (gone_of z.now) f3) (zb ∙ eb)
      ∙ ap (λ (n : ℕ). whole v f.gone n z.front.mark (gone_of z.now) f3) (zs ∙ es) ∙ ap (λ (k : Mark). whole v f.gone (length f.code) k (gone_of z.now) f3) (zm ∙ em)
      ∙ ap (λ (g : Gone). whole v f.gone (length f.code) (mark_of one) g f3) e_now ∙ ap (λ (w : Going). whole v f.gone (length f.code) (mark_of one) one.gone w) e_body
      ∙ no_turns_is a h s at c b f never

  -- ---- loops over numbers

  module _ (at : Spot) (n : ℕ) (b : t.Block) where
    abbrev pub on : ℕ → List Instr
    on turn = i.Int turn (pos 1) ∷ i.Add h h turn at ∷ []

    abbrev pub sub : ℕ → Going → Going
    sub turn f = put (i.Sub turn h h at ∷ []) f

    abbrev pub begun_turn : ℕ → Going → Going
    begun_turn turn f = filled turn (put (i.Copy turn h ∷ []) (put (i.Tick ∷ []) (put (i.Jump 0 ∷ []) (sub turn f))))

    abbrev pub counted : Gone → ℕ → ℕ → ℕ → Going → Going
    counted g first start turn w =
        only (closes s g (after_of w.comes w.gone)) first h (looped start (length (if_there (λ place z. on turn) w).code) turn g (put (i.Cmp turn 2 h (h + 1) ∷ []) (back_to g (if_there (λ place z. on turn) w))))

    pub by_count : (turn next : ℕ) (x : Entry) (z : Count) (f f1 f2 r : Going) → turn ≡ h + 2 → next ≡ turn + 1 → x ≡ entry n turn copy → z.first ≡ length f.code → gone_of z.turns.before ≡ f.gone → z.turns.start ≡ length (sub turn f).code
        → f1 ≡ begun_turn turn f → f2 ≡ block_emitted a void b h next (x ∷ s) f1 → r ≡ counted (gone_of z.turns.before) z.first z.turns.start turn f2 → r ≡ count_emitted a at n b h s f
    by_count turn next x z f f1 f2 r et en ex zf zg zs e1 e2 er =
        let body : ℕ → Entry → ℕ → Going = λ (k : ℕ) (y : Entry) (m : ℕ). block_emitted a void b h k (y ∷ s) (begun_turn m f) in
        er ∙ ap (λ (g : Gone). counted g z.first z.turns.start turn f2) zg ∙ ap (λ (m : ℕ). counted f.gone m z.turns.start turn f2) zf ∙ ap (λ (m : ℕ). counted f.gone (length f.code) m turn f2) zs
        ∙ ap (λ (w : Going). counted f.gone (length f.code) (length (sub turn f).code) turn w) (e2 ∙ ap (λ (w : Going). block_emitted a void b h next (x ∷ s) w) e1 ∙ ap (λ (k : ℕ). body k x turn) en ∙ ap (λ (y : Entry). body (turn + 1) y turn) ex)
        ∙ ap (λ (m : ℕ). counted f.gone (length f.code) (length (sub m f).code) m (body (m + 1) (entry n m copy) m)) et
        ∙ count_is a at n b h s f

  pub by_foreach : (at : Spot) (n : NameAt) (c e : t.Expr) (b : t.Block) (ok : Bool) (start next1 : ℕ) (m1 m2 : Mark) (f g1 g2 g3 g4 r : Going) → ok ≡ (is_value (gives_of (type c)) && is_value (gives_of (type e)))
      → start ≡ length f.code → next1 ≡ h + 1 → m1 ≡ mark_of (expr_emitted a c h s f) → g1 ≡ begun (h + 1) (expr_emitted a c h s f)
      → m2 ≡ mark_of (expr_emitted a e next1 s g1) → g2 ≡ begun (next1 + 1) (expr_emitted a e next1 s g1) → g3 ≡ count_emitted a at n.name.0 b h s g2 → g4 ≡ ended m2 g3 → r ≡ only ok start h (ended m1 g4)
      → r ≡ stmt_emitted a (t.foreach at n c e b) h s f
  by_foreach at n c e b ok start next1 m1 m2 f g1 g2 g3 g4 r eo es en em1 e1 em2 e2 e3 e4 er =
      let v : Bool = is_value (gives_of (type c)) && is_value (gives_of (type e)) in
      let one : Going = expr_emitted a c h s f in
      let two : ℕ → Going → Going = λ (k : ℕ) (w : Going). expr_emitted a e k s w in
      let rest : ℕ → ℕ → Going → Going = λ (k : ℕ) (j : ℕ) (w : Going). ended (mark_of (two k w)) (count_emitted a at n.name.0 b h s (begun j (two k w))) in
      let whole : Going → Going = λ (w : Going). only v (length f.code) h (ended (mark_of one) w) in
      let two_more : h + 1 + 1 ≡ h + 2 = omega arith in
      er ∙ ap (λ (u : Bool). only u start h (ended m1 g4)) eo ∙ ap (λ (k : ℕ). only v k h (ended m1 g4)) es ∙ ap (λ (k : Mark). only v (length f.code) h (ended k g4)) em1
      ∙ ap whole (e4 ∙ ap (λ (k : Mark). ended k g3) em2 ∙ ap (λ (w : Going). ended (mark_of (two next1 g1)) w) (e3 ∙ ap (λ (w : Going). count_emitted a at n.name.0 b h s w) e2))
      ∙ ap (λ (w : Going). whole (rest next1 (next1 + 1) w)) e1
      ∙ ap (λ (k : ℕ). whole (rest k (k + 1) (begun (h + 1) one))) en
      ∙ ap (λ (j : ℕ). whole (rest (h + 1) j (begun (h + 1) one))) two_more
      ∙ foreach_is a h s at n c e b f

  -- ---- values that aren't used

  pub by_unused : (e : t.Expr) (q : Gives) (at : Spot) (f f1 r : Going) → None ≡ set_local e → q ≡ gives_of (type e) → at ≡ expr_spot e → f1 ≡ expr_emitted a e h s f → r ≡ if_there (λ place g. drop_value q h at) f1 → r ≡ stmt_emitted a (t.express e) h s f
  unfolding unused_emitted
  by_unused e q at f f1 r none eq es e1 er =
      er ∙ ap (λ (p : Gives). if_there (λ place g. drop_value p h at) f1) eq ∙ ap (λ (z : Spot). if_there (λ place g. drop_value (gives_of (type e)) h z) f1) es
      ∙ ap (λ (w : Going). if_there (λ place g. drop_value (gives_of (type e)) h (expr_spot e)) w) e1 ∙ unused_is a h s e f none

  pub by_new : (x : Node) (at0 : Spot) (p0 e0 : Expr) (n : ℕ) (local : Option Entry) (q given : Gives) (ok : Bool) (start : ℕ) (f f1 r : Going) → x ≡ d.Set at0 p0 e0 → given ≡ gives_of (type (view_expr e0)) → local ≡ find n s → start ≡ length f.code
      → ok ≡ (is_value (gives_of (type (view_expr e0))) && agree q (gives_of (type (view_expr e0)))) → f1 ≡ expr_emitted a (view_expr e0) h s f → r ≡ only ok start h (if_there (λ place g. store local g given h at0) f1)
      → (at : Spot) (p e : t.Expr) → view_node x ≡ t.set at p e → r ≡ store_emitted a q at n e h s f
  unfolding store_emitted
  by_new x at0 p0 e0 n local q given ok start f f1 r is eg el es eo e1 er at p e same =
      let z : t.Expr = view_expr e0 in
      let v : Bool = is_value (gives_of (type z)) && agree q (gives_of (type z)) in
      let whole : Bool → ℕ → Option Entry → Gives → Going → Going = λ (u : Bool) (k : ℕ) (l : Option Entry) (w : Gives) (g : Going). only u k h (if_there (λ place j. store l j w h at0) g) in
      er ∙ ap (λ (u : Bool). whole u start local given f1) eo ∙ ap (λ (k : ℕ). whole v k local given f1) es ∙ ap (λ (l : Option Entry). whole v (length f.code) l given f1) el
      ∙ ap (λ (w : Gives). whole v (length f.code) (find n s) w f1) eg ∙ ap (λ (g : Going). whole v (length f.code) (find n s) (gives_of (type z)) g) e1
      ∙ ap (λ (k : t.Node). store_emitted a q (set_at k at0) n (set_new k z) h s f) (sym (views.of_set at0 p0 e0) ∙ ap view_node (sym is) ∙ same)
