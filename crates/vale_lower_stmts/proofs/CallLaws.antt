-- What calls, arrays and operators make, by what each call made.
use Rattle.std.proofs.Common.{◌≡◌, ℕ, ◌+◌, List, [], ◌∷◌, length, ap, sym, ◌∙◌, arith}
use Rattle.std.specs.Prelude.{Bool, ◌&&◌, map}
use Rattle.vale_base.specs.declared.spot.Spot.{Spot}
use Rattle.vale_syntax.specs.declared.tree.NameAt.{NameAt}
use Rattle.vale_syntax.specs.declared.tree.BinaryOp.{BinaryOp}
use Rattle.vale_syntax.specs.declared.tree.BinaryOp.TheVariants as op
use Rattle.vale_syntax.specs.declared.tree.UnaryOp.{UnaryOp}
use Rattle.vale_syntax.specs.declared.tree.UnaryOp.TheVariants as unary_op
use Rattle.vale_rules_spec.specs.Types as y
use Rattle.vale_rules_spec.specs.Typed as t
use Rattle.vale_rules_spec.specs.Typed.{type}
use Rattle.vale_core.specs.declared.tree.Expr.{Expr}
use Rattle.vale_core.specs.declared.tree.Link.{Link, out-Link}
use Rattle.vale_core.specs.View.{view_ty, view_seen, view_expr, view_link, exprs_of}
use Rattle.vale_code.specs.declared.instr.Instr.{Instr}
use Rattle.vale_code.specs.declared.instr.Instr.TheVariants as i
use Rattle.vale_lowering.specs.Instructions.{operator, unary_code}
use Rattle.vale_lowering_objects.specs.Scopes.{Gives, copy, gives_of, is_value, agree, Scope, Gone, After, Around, closes}
use Rattle.vale_lowering_objects.specs.Lowered.{callee_code, make_code, first_type, gives_list}
use Rattle.vale_lower_flow.specs.declared.gives.Gives.{Gives as Kept}
use Rattle.vale_lower_flow.specs.declared.flow.Mark.{Mark}
use Rattle.vale_lower_flow.specs.Entries.{gone_of}
use Rattle.vale_lower_flow.specs.Kept.{view_gives}
use Rattle.vale_lower_flow.specs.Flow.{Going, put, only, mark_of, begun, ended, turned, joined, skipped, side_after, after_of}
use Rattle.vale_lower_parts.specs.Emitted.{expr_emitted, node_emitted, args_emitted, link_emitted}
use Rattle.vale_lower_parts.proofs.NodeLaws.{call_is, array_is, minus_is, not_is, plain_unary, link_by_parts, or_is, and_is, link_is, operated}
use Rattle.vale_lower_stmts.specs.declared.sides.OtherSide.{OtherSide}
use Rattle.vale_lower_stmts.specs.declared.sides.HeldTest.{HeldTest}
use Rattle.vale_lower_stmts.proofs.EndLaws.{gone_put}
use Rattle.vale_lower_stmts.proofs.ExprLaws.{given_length}

module _ (a : Around) (h : ℕ) (s : Scope) where
  -- values, and what is made of them
  module _ (es : List Expr) (make : List Gives → List Instr) where
    abbrev pub all : t.Exprs
    all = exprs_of (map view_expr es)

    abbrev pub made : Going → Going
    made f = ended (mark_of (args_emitted a all h s f)) (put (make (gives_list all)) (begun (h + length (gives_list all)) (args_emitted a all h s f)))

    pub by_values : (qs : List Kept) (m : Mark) (f f1 f2 r : Going) → map view_gives qs ≡ gives_list all → m ≡ mark_of (args_emitted a all h s f) → f1 ≡ begun (h + length es) (args_emitted a all h s f) → f2 ≡ put (make (map view_gives qs)) f1 → r ≡ ended m f2
        → r ≡ made f
    by_values qs m f f1 f2 r eq em e1 e2 er =
        let g : Going = args_emitted a all h s f in
        er ∙ ap (λ (z : Mark). ended z f2) em ∙ ap (λ (z : Going). ended (mark_of g) z) e2 ∙ ap (λ (z : List Gives). ended (mark_of g) (put (make z) f1)) eq
        ∙ ap (λ (z : Going). ended (mark_of g) (put (make (gives_list all)) z)) e1 ∙ ap (λ (n : ℕ). ended (mark_of g) (put (make (gives_list all)) (begun (h + n) g))) (sym (given_length es))

  pub by_call : (x : y.Ty) (q : Gives) (n : NameAt) (v : t.Callee) (es : List Expr) (qs : List Kept) (m : Mark) (f f1 f2 r : Going) → map view_gives qs ≡ gives_list (exprs_of (map view_expr es)) → m ≡ mark_of (args_emitted a (exprs_of (map view_expr es)) h s f)
      → f1 ≡ begun (h + length es) (args_emitted a (exprs_of (map view_expr es)) h s f) → f2 ≡ put (callee_code a q n v (first_type (exprs_of (map view_expr es))) (map view_gives qs) h) f1 → r ≡ ended m f2
      → r ≡ node_emitted a x q (t.call n v (exprs_of (map view_expr es))) h s f
  by_call x q n v es qs m f f1 f2 r eq em e1 e2 er =
      by_values es (λ (z : List Gives). callee_code a q n v (first_type (exprs_of (map view_expr es))) z h) qs m f f1 f2 r eq em e1 e2 er ∙ sym (call_is a h s x q n v (exprs_of (map view_expr es)) f)

  pub by_array : (x : y.Ty) (q : Gives) (at : Spot) (w : y.Ty) (es : List Expr) (qs : List Kept) (m : Mark) (f f1 f2 r : Going) → map view_gives qs ≡ gives_list (exprs_of (map view_expr es)) → m ≡ mark_of (args_emitted a (exprs_of (map view_expr es)) h s f)
      → f1 ≡ begun (h + length es) (args_emitted a (exprs_of (map view_expr es)) h s f) → f2 ≡ put (make_code a.parts q x (map view_gives qs) h) f1 → r ≡ ended m f2
      → r ≡ node_emitted a x q (t.array at w (exprs_of (map view_expr es))) h s f
  by_array x q at w es qs m f f1 f2 r eq em e1 e2 er =
      by_values es (λ (z : List Gives). make_code a.parts q x z h) qs m f f1 f2 r eq em e1 e2 er ∙ sym (array_is a h s x q at w (exprs_of (map view_expr es)) f)

  -- ---- operators on one value

  module _ (x : y.Ty) (q : Gives) (at : Spot) (e : t.Expr) where
    abbrev pub wanted : Bool
    wanted = is_value (gives_of (type e)) && agree q copy

    abbrev pub one_operated : UnaryOp → Going → Going
    one_operated o f = only wanted (length f.code) h (ended (mark_of (expr_emitted a e h s f)) (put (unary_code o at h) (begun (h + 1) (expr_emitted a e h s f))))

    pub by_minus : (f : Going) → one_operated unary_op.Minus f ≡ node_emitted a x q (t.unary at unary_op.Minus e) h s f
    unfolding plain_unary
    by_minus f = sym (minus_is a h s x q at e f)

    pub by_not : (f : Going) → one_operated unary_op.Not f ≡ node_emitted a x q (t.unary at unary_op.Not e) h s f
    unfolding plain_unary
    by_not f = sym (not_is a h s x q at e f)

  -- ---- operators

  abbrev pub jump : List Instr
  jump = i.Jump 0 ∷ []

  abbrev pub operand : Link → t.Expr
  operand l = view_expr (out-Link l).operand

  -- by its operator
  link_as : (l : Link) (o : BinaryOp) (f : Going) → (out-Link l).op ≡ o → link_emitted a (t.link (view_seen (out-Link l).seen) (out-Link l).at o (operand l)) h s f ≡ link_emitted a (view_link l) h s f
  link_as l o f e = ap (λ (z : BinaryOp). link_emitted a (t.link (view_seen (out-Link l).seen) (out-Link l).at z (operand l)) h s f) (sym e) ∙ sym (link_by_parts a h s l f)

  pub by_or : (l : Link) (z : OtherSide) (f f1 f2 r : Going) → (out-Link l).op ≡ op.Or → z.test ≡ length f.code → gone_of z.side.gone ≡ f.gone → z.side.comes ≡ (put jump f).comes → z.side.jump ≡ length (put jump f).code
      → f1 ≡ turned (length f.code) h f.gone (put jump f) → f2 ≡ expr_emitted a (operand l) h s f1
      → r ≡ only (closes s (gone_of z.side.gone) (after_of f2.comes f2.gone)) z.test h (joined z.side.comes z.side.jump [] (side_after z.side) f2) → r ≡ link_emitted a (view_link l) h s f
  by_or l z f f1 f2 r eo et eg ec ej e1 e2 er =
      let g0 : Going = put jump f in
      let n : ℕ = length f.code in
      let side : side_after z.side ≡ after_of g0.comes g0.gone = ap (λ (k : Bool). after_of k (gone_of z.side.gone)) ec ∙ ap (λ (g : Gone). after_of g0.comes g) (eg ∙ sym (gone_put jump f)) in
      let whole : Going → Going = λ (v : Going). only (closes s f.gone (after_of v.comes v.gone)) n h (joined g0.comes (length g0.code) [] (after_of g0.comes g0.gone) v) in
      er ∙ ap (λ (g : Gone). only (closes s g (after_of f2.comes f2.gone)) z.test h (joined z.side.comes z.side.jump [] (side_after z.side) f2)) eg
      ∙ ap (λ (k : ℕ). only (closes s f.gone (after_of f2.comes f2.gone)) k h (joined z.side.comes z.side.jump [] (side_after z.side) f2)) et
      ∙ ap (λ (w : After). only (closes s f.gone (after_of f2.comes f2.gone)) n h (joined z.side.comes z.side.jump [] w f2)) side
      ∙ ap (λ (k : Bool). only (closes s f.gone (after_of f2.comes f2.gone)) n h (joined k z.side.jump [] (after_of g0.comes g0.gone) f2)) ec
      ∙ ap (λ (k : ℕ). only (closes s f.gone (after_of f2.comes f2.gone)) n h (joined g0.comes k [] (after_of g0.comes g0.gone) f2)) ej
      ∙ ap whole (e2 ∙ ap (λ (v : Going). expr_emitted a (operand l) h s v) e1)
      ∙ sym (or_is a h s (view_seen (out-Link l).seen) (out-Link l).at (operand l) [] f)
      ∙ link_as l op.Or f eo

  pub by_and : (l : Link) (z : HeldTest) (f f1 f2 r : Going) → (out-Link l).op ≡ op.And → z.test ≡ length f.code → gone_of z.before ≡ f.gone → f1 ≡ put jump f → f2 ≡ expr_emitted a (operand l) h s f1
      → r ≡ only (closes s (gone_of z.before) (after_of f2.comes f2.gone)) z.test h (skipped z.test h (gone_of z.before) f2) → r ≡ link_emitted a (view_link l) h s f
  by_and l z f f1 f2 r eo et eg e1 e2 er =
      let whole : Gone → ℕ → Going → Going = λ (g : Gone) (n : ℕ) (v : Going). only (closes s g (after_of v.comes v.gone)) n h (skipped n h g v) in
      er ∙ ap (λ (g : Gone). whole g z.test f2) eg ∙ ap (λ (n : ℕ). whole f.gone n f2) et
      ∙ ap (λ (v : Going). whole f.gone (length f.code) v) (e2 ∙ ap (λ (v : Going). expr_emitted a (operand l) h s v) e1)
      ∙ sym (and_is a h s (view_seen (out-Link l).seen) (out-Link l).at (operand l) f)
      ∙ link_as l op.And f eo

  pub by_operator : (l : Link) (next : ℕ) (f : Going) (m : Mark) (f1 f2 r : Going) → ((out-Link l).op ≡ op.Or → ⊥) → ((out-Link l).op ≡ op.And → ⊥) → next ≡ h + 1
      → m ≡ mark_of (expr_emitted a (operand l) next s f) → f1 ≡ begun (next + 1) (expr_emitted a (operand l) next s f) → f2 ≡ put (operator (out-Link l).op (view_ty (out-Link l).seen.value) (out-Link l).at h ∷ []) f1 → r ≡ ended m f2
      → r ≡ link_emitted a (view_link l) h s f
  unfolding operated
  by_operator l next f m f1 f2 r not_or not_and en em e1 e2 er =
      let one : List Instr = operator (out-Link l).op (view_ty (out-Link l).seen.value) (out-Link l).at h ∷ [] in
      let whole : ℕ → ℕ → Going = λ (k : ℕ) (n : ℕ). ended (mark_of (expr_emitted a (operand l) k s f)) (put one (begun n (expr_emitted a (operand l) k s f))) in
      let two : next + 1 ≡ h + 2 = omega arith in
      er ∙ ap (λ (z : Mark). ended z f2) em ∙ ap (λ (v : Going). ended (mark_of (expr_emitted a (operand l) next s f)) v) (e2 ∙ ap (λ (v : Going). put one v) e1)
      ∙ ap (λ (n : ℕ). whole next n) two ∙ ap (λ (k : ℕ). whole k (h + 2)) en
      ∙ sym (link_is a h s (out-Link l).op (view_seen (out-Link l).seen) (out-Link l).at (operand l) f not_or not_and)
      ∙ sym (link_by_parts a h s l f)
