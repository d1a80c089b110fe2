-- What was emitted with jumps that were set later, by the steps in which it was emitted.
use Rattle.std.proofs.Common.{◌≡◌, ℕ, ◌+◌, List, [], ◌∷◌, ◌++◌, length, refl, ap, sym, ◌∙◌}
use Rattle.std.specs.Prelude.{Bool, false, Option, map, option_map, slice_set, pos}
use Rattle.vale_base.specs.declared.spot.Spot.{Spot}
use Rattle.vale_syntax.specs.declared.tree.NameAt.{NameAt}
use Rattle.vale_syntax.specs.declared.tree.BinaryOp.TheVariants as op
use Rattle.vale_rules_spec.specs.Typed as t
use Rattle.vale_core.specs.declared.tree.Expr.{Expr}
use Rattle.vale_core.specs.declared.tree.Block.{Block}
use Rattle.vale_core.specs.declared.tree.Stmt.{Stmt}
use Rattle.vale_core.specs.declared.tree.Stmt.TheVariants as m
use Rattle.vale_core.specs.declared.tree.Form.{Form}
use Rattle.vale_core.specs.declared.tree.Form.TheVariants as f
use Rattle.vale_core.specs.declared.tree.ElseIf.{ElseIf, out-ElseIf}
use Rattle.vale_core.specs.declared.tree.Link.{Link, out-Link}
use Rattle.vale_core.specs.View.{view_ty, view_expr, view_form, view_stmt, view_block, view_else_if, view_link, else_end}
use Rattle.vale_core.proofs.ViewLaws as v
use Rattle.vale_code.specs.declared.instr.Instr.{Instr}
use Rattle.vale_code.specs.declared.instr.Instr.TheVariants as i
use Rattle.vale_lowering.specs.Instructions.{then_at, count_code, link_code}
use Rattle.vale_lowering.specs.Lowered.{value_code, form_code, elses_code, block_code, stmt_code}
use Rattle.vale_lowering.specs.Scopes.{Scope, Around, entry}
use Rattle.vale_lower_expr.specs.Jumps.{jumps_set}
use Rattle.vale_lower_code.specs.Links.{one_link_code}
use Rattle.vale_lower_code.specs.Sides.{side_end, side_code, else_if_code, else_if_end, sides_code, sides_ends}
use Rattle.vale_lower_code.proofs.PatchLaws.{set_side, side_end_is, set_and, set_or_from, set_loop}
use Rattle.vale_lower_code.proofs.WalkLaws.{link_by_parts, else_if_by_parts, else_if_ends_by_parts, set_if, set_count, in_turn}

module _ (a : Around) (h : ℕ) (s : Scope) (base : List Instr) where
  -- ---- operators

  pub by_or : (l : Link) (c2 c3 c4 : List Instr) (jump : ℕ) → (out-Link l).op ≡ op.Or → jump ≡ length base + 1
      → c2 ≡ base ++ i.Unless h (length base + 1 + 1) ∷ i.Jump 0 ∷ [] → c3 ≡ c2 ++ value_code a (view_expr (out-Link l).operand) (length c2) h s
      → c4 ≡ slice_set c3 jump (i.Jump (length c3)) → c4 ≡ base ++ one_link_code a (view_link l) (length base) h s
  by_or l c2 c3 c4 jump is m e2 e3 e4 =
      let operand : ℕ → ℕ → List Instr = λ place h. value_code a (view_expr (out-Link l).operand) place h s in
      e4 ∙ (set_or_from base (λ place. operand place h) c2 c3 jump h e2 m e3
      ∙ (ap (λ o. base ++ link_code o (view_ty (out-Link l).seen.value) (out-Link l).at operand (length base) h) (sym is)
      ∙ ap (λ (z : List Instr). base ++ z) (sym (link_by_parts a (length base) h s l))))

  pub by_and : (l : Link) (c2 c3 c4 : List Instr) (test : ℕ) → (out-Link l).op ≡ op.And → test ≡ length base
      → c2 ≡ base ++ i.Jump 0 ∷ [] → c3 ≡ c2 ++ value_code a (view_expr (out-Link l).operand) (length c2) h s
      → c4 ≡ slice_set c3 test (i.Unless h (length c3)) → c4 ≡ base ++ one_link_code a (view_link l) (length base) h s
  by_and l c2 c3 c4 test is m e2 e3 e4 =
      let operand : ℕ → ℕ → List Instr = λ place h. value_code a (view_expr (out-Link l).operand) place h s in
      e4 ∙ (set_and base (λ place. operand place h) c2 c3 (i.Jump 0) test (length c3) h m e2 e3 refl
      ∙ (ap (λ o. base ++ link_code o (view_ty (out-Link l).seen.value) (out-Link l).at operand (length base) h) (sym is)
      ∙ ap (λ (z : List Instr). base ++ z) (sym (link_by_parts a (length base) h s l))))

  -- ---- sides

  module _ (gives : Bool) (c : Expr) (b : Block) (c1 c2 c3 c4 : List Instr) (test next : ℕ) where
    side_done : next ≡ h + 1 → c1 ≡ base ++ value_code a (view_expr c) (length base) h s → test ≡ length c1 → c2 ≡ c1 ++ i.Jump 0 ∷ []
        → c3 ≡ c2 ++ block_code a gives (view_block b) (length c2) h next s → c4 ≡ slice_set (c3 ++ i.Jump 0 ∷ []) test (i.Unless h (length c3 + 1))
        → c4 ≡ base ++ side_code (length base) h (value_code a (view_expr c) (length base) h s) (λ place. block_code a gives (view_block b) place h (h + 1) s) 0
    side_done en e1 m1 e2 e3 e4 =
        let body : ℕ → List Instr = λ place. block_code a gives (view_block b) place h (h + 1) s in
        let f3 : c3 ≡ c2 ++ body (length c2) = e3 ∙ ap (λ (n : ℕ). c2 ++ block_code a gives (view_block b) (length c2) h n s) en in
        e4 ∙ set_side base (value_code a (view_expr c) (length base) h s) body c1 c2 c3 (i.Jump 0) (i.Jump 0) test h 0 e1 m1 e2 f3 refl

    side_ends : next ≡ h + 1 → c1 ≡ base ++ value_code a (view_expr c) (length base) h s → c2 ≡ c1 ++ i.Jump 0 ∷ []
        → c3 ≡ c2 ++ block_code a gives (view_block b) (length c2) h next s
        → length c3 ≡ side_end (length base) (value_code a (view_expr c) (length base) h s) (λ place. block_code a gives (view_block b) place h (h + 1) s)
    side_ends en e1 e2 e3 =
        let body : ℕ → List Instr = λ place. block_code a gives (view_block b) place h (h + 1) s in
        let f3 : c3 ≡ c2 ++ body (length c2) = e3 ∙ ap (λ (n : ℕ). c2 ++ block_code a gives (view_block b) (length c2) h n s) en in
        side_end_is base (value_code a (view_expr c) (length base) h s) body c1 c2 c3 (i.Jump 0) e1 e2 f3

  pub by_else_if : (gives : Bool) (e : ElseIf) (c1 c2 c3 c4 : List Instr) (test next : ℕ) → next ≡ h + 1
      → c1 ≡ base ++ value_code a (view_expr (out-ElseIf e).condition) (length base) h s → test ≡ length c1 → c2 ≡ c1 ++ i.Jump 0 ∷ []
      → c3 ≡ c2 ++ block_code a gives (view_block (out-ElseIf e).block) (length c2) h next s → c4 ≡ slice_set (c3 ++ i.Jump 0 ∷ []) test (i.Unless h (length c3 + 1))
      → c4 ≡ base ++ else_if_code a gives (view_else_if e) 0 (length base) h s
  by_else_if gives e c1 c2 c3 c4 test next en e1 m1 e2 e3 e4 =
      side_done gives (out-ElseIf e).condition (out-ElseIf e).block c1 c2 c3 c4 test next en e1 m1 e2 e3 e4
      ∙ ap (λ (z : List Instr). base ++ z) (sym (else_if_by_parts a (length base) h s gives e 0))

  pub else_if_ends : (gives : Bool) (e : ElseIf) (c1 c2 c3 : List Instr) (next : ℕ) (ends ends2 : List ℕ) → next ≡ h + 1
      → c1 ≡ base ++ value_code a (view_expr (out-ElseIf e).condition) (length base) h s → c2 ≡ c1 ++ i.Jump 0 ∷ []
      → c3 ≡ c2 ++ block_code a gives (view_block (out-ElseIf e).block) (length c2) h next s → ends2 ≡ ends ++ length c3 ∷ []
      → ends2 ≡ ends ++ else_if_end a gives (view_else_if e) (length base) h s ∷ []
  else_if_ends gives e c1 c2 c3 next ends ends2 en e1 e2 e3 ee =
      ee ∙ ap (λ (n : ℕ). ends ++ n ∷ []) (side_ends gives (out-ElseIf e).condition (out-ElseIf e).block c1 c2 c3 c3 0 next en e1 e2 e3 ∙ sym (else_if_ends_by_parts a (length base) h s gives e))

  pub by_if : (gives : Bool) (x : Form) (at : Spot) (c : Expr) (b : Block) (es : List ElseIf) (o : Option Block) (c1 c2 c3 ca cb cc0 cd : List Instr) (test next : ℕ) (ends0 ends1 ends2 : List ℕ)
      → x ≡ f.If at c b es o → next ≡ h + 1 → ends0 ≡ []
      → c1 ≡ base ++ value_code a (view_expr c) (length base) h s → test ≡ length c1 → c2 ≡ c1 ++ i.Jump 0 ∷ []
      → c3 ≡ c2 ++ block_code a gives (view_block b) (length c2) h next s
      → ca ≡ slice_set (c3 ++ i.Jump 0 ∷ []) test (i.Unless h (length c3 + 1)) → ends1 ≡ ends0 ++ length c3 ∷ []
      → cb ≡ ca ++ sides_code a gives (map view_else_if es) 0 (length ca) h s → ends2 ≡ ends1 ++ sides_ends a gives (map view_else_if es) (length ca) h s
      → cc0 ≡ cb ++ elses_code a gives (else_end (option_map view_block o)) (length cb) h s → cd ≡ jumps_set ends2 (length cc0) cc0
      → cd ≡ base ++ form_code a gives (view_form x) (length base) h s
  by_if gives x at c b es o c1 c2 c3 ca cb cc0 cd test next ends0 ends1 ends2 ex en e0 e1 m1 e2 e3 ea ee eb ef ec ed =
      let fe : ends1 ≡ else_if_end a gives (t.else_if at (view_expr c) (view_block b)) (length base) h s ∷ [] =
      ee ∙ (ap (λ (z : List ℕ). z ++ length c3 ∷ []) e0 ∙ ap (λ (n : ℕ). n ∷ []) (side_ends gives c b c1 c2 c3 ca test next en e1 e2 e3)) in
      ed ∙ (set_if a gives h s at (view_expr c) (view_block b) (map view_else_if es) (else_end (option_map view_block o)) base ca cb cc0 ends1 ends2
      (side_done gives c b c1 c2 c3 ca test next en e1 m1 e2 e3 ea) fe eb ef ec
      ∙ ap (λ (z : t.Form). base ++ form_code a gives z (length base) h s) (sym (ap view_form ex ∙ v.of_if at c b es o)))

  -- ---- loops

  pub by_while : (x : Stmt) (at : Spot) (c : Expr) (b : Block) (c1 c2 c3 c4 c5 : List Instr) (start test next : ℕ)
      → x ≡ m.While at c b → next ≡ h + 1 → start ≡ length base → c1 ≡ base ++ i.Jump 0 ∷ [] → c2 ≡ c1 ++ i.Tick ∷ []
      → c3 ≡ c2 ++ block_code a false (view_block b) (length c2) h next s → test ≡ length c3 → c4 ≡ c3 ++ value_code a (view_expr c) (length c3) h s
      → c5 ≡ slice_set (c4 ++ i.Unless h (length c4 + 1 + 1) ∷ i.Jump (start + 1) ∷ []) start (i.Jump test)
      → c5 ≡ base ++ stmt_code a (view_stmt x) (length base) h s
  by_while x at c b c1 c2 c3 c4 c5 start test next ex en ms e1 e2 e3 mt e4 e5 =
      let body : ℕ → List Instr = λ place. block_code a false (view_block b) place h (h + 1) s in
      let f3 : c3 ≡ c2 ++ body (length c2) = e3 ∙ ap (λ (n : ℕ). c2 ++ block_code a false (view_block b) (length c2) h n s) en in
      e5 ∙ (set_loop base (λ place. value_code a (view_expr c) place h s) body c1 c2 c3 c4 (i.Jump 0) start test h ms e1 e2 f3 mt e4
      ∙ ap (λ (z : t.Stmt). base ++ stmt_code a z (length base) h s) (sym (ap view_stmt ex ∙ v.of_while at c b)))

  pub by_foreach : (x : Stmt) (at : Spot) (n : NameAt) (w z : Expr) (b : Block) (c1 c2 c3 c4 c5 : List Instr) (bound turn next start : ℕ) (s2 : Scope)
      → x ≡ m.Foreach at n w z b → bound ≡ h + 1 → turn ≡ bound + 1 → next ≡ turn + 1
      → c1 ≡ base ++ value_code a (view_expr w) (length base) h s → c2 ≡ c1 ++ value_code a (view_expr z) (length c1) bound s
      → start ≡ length c2 + 1 → c3 ≡ c2 ++ i.Sub turn h h at ∷ i.Jump 0 ∷ i.Tick ∷ i.Copy turn h ∷ []
      → s2 ≡ entry n.name.0 turn ∷ s → c4 ≡ c3 ++ block_code a false (view_block b) (length c3) h next s2
      → c5 ≡ slice_set ((c4 ++ i.Int turn (pos 1) ∷ i.Add h h turn at ∷ i.Cmp turn 2 h bound ∷ []) ++ i.Unless turn (length c4 + 1 + 1 + 1 + 1 + 1) ∷ i.Jump (start + 1) ∷ []) start (i.Jump (length c4 + 1 + 1))
      → c5 ≡ base ++ stmt_code a (view_stmt x) (length base) h s
  by_foreach x at n w z b c1 c2 c3 c4 c5 bound turn next start s2 ex eb et en e1 e2 ms e3 e_s e4 e5 =
      let r : ℕ = h + 1 + 1 in
      let body : ℕ → List Instr = λ place. block_code a false (view_block b) place h (h + 1 + 1 + 1) (entry n.name.0 (h + 1 + 1) ∷ s) in
      let er : turn ≡ h + 1 + 1 = et ∙ ap (λ (k : ℕ). k + 1) eb in
      let ex3 : next ≡ h + 1 + 1 + 1 = en ∙ ap (λ (k : ℕ). k + 1) er in
      let f2 : c2 ≡ c1 ++ value_code a (view_expr z) (length c1) (h + 1) s = e2 ∙ ap (λ (k : ℕ). c1 ++ value_code a (view_expr z) (length c1) k s) eb in
      let f3 : c3 ≡ c2 ++ i.Sub (h + 1 + 1) h h at ∷ i.Jump 0 ∷ i.Tick ∷ i.Copy (h + 1 + 1) h ∷ [] = e3 ∙ ap (λ (k : ℕ). c2 ++ i.Sub k h h at ∷ i.Jump 0 ∷ i.Tick ∷ i.Copy k h ∷ []) er in
      let fs : s2 ≡ entry n.name.0 (h + 1 + 1) ∷ s = e_s ∙ ap (λ (k : ℕ). entry n.name.0 k ∷ s) er in
      let f4 : c4 ≡ c3 ++ body (length c3) = e4 ∙ (ap (λ (k : ℕ). c3 ++ block_code a false (view_block b) (length c3) h k s2) ex3 ∙ ap (λ (y : Scope). c3 ++ block_code a false (view_block b) (length c3) h (h + 1 + 1 + 1) y) fs) in
      e5
      ∙ (ap (λ (k : ℕ). slice_set ((c4 ++ i.Int k (pos 1) ∷ i.Add h h k at ∷ i.Cmp k 2 h bound ∷ []) ++ i.Unless k (length c4 + 1 + 1 + 1 + 1 + 1) ∷ i.Jump (start + 1) ∷ []) start (i.Jump (length c4 + 1 + 1))) er
      ∙ (ap (λ (k : ℕ). slice_set ((c4 ++ i.Int (h + 1 + 1) (pos 1) ∷ i.Add h h (h + 1 + 1) at ∷ i.Cmp (h + 1 + 1) 2 h k ∷ []) ++ i.Unless (h + 1 + 1) (length c4 + 1 + 1 + 1 + 1 + 1) ∷ i.Jump (start + 1) ∷ []) start (i.Jump (length c4 + 1 + 1))) eb
      ∙ (set_count c2 c3 c4 body at h start ms f3 f4
      ∙ (in_turn c1 c2 (value_code a (view_expr z) (length c1) (h + 1) s) (λ place. count_code place h at body) f2
      ∙ (in_turn base c1 (value_code a (view_expr w) (length base) h s) (λ place. then_at place (value_code a (view_expr z) place (h + 1) s) (λ place. count_code place h at body)) e1
      ∙ ap (λ (y : t.Stmt). base ++ stmt_code a y (length base) h s) (sym (ap view_stmt ex ∙ v.of_foreach at n w z b)))))))
