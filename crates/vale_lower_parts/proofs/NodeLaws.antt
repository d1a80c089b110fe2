-- What an expression makes, by what its parts make.
use Rattle.std.proofs.Common.{◌≡◌, ℕ, zero, suc, ◌+◌, List, [], ◌∷◌, ◌++◌, length, refl, ap, sym, ◌∙◌, append-nil}
use Rattle.std.specs.Prelude.{ℤ, Bool, true, false, ◌&&◌, map}
use Rattle.vale_base.specs.declared.spot.Spot.{Spot}
use Rattle.vale_syntax.specs.declared.tree.NameAt.{NameAt}
use Rattle.vale_syntax.specs.declared.tree.BinaryOp.{BinaryOp}
use Rattle.vale_syntax.specs.declared.tree.BinaryOp.TheVariants as op
use Rattle.vale_syntax.specs.declared.tree.UnaryOp.{UnaryOp}
use Rattle.vale_syntax.specs.declared.tree.UnaryOp.TheVariants as unary_op
use Rattle.vale_text.specs.Operations.{is_int}
use Rattle.vale_rules_spec.specs.Types as y
use Rattle.vale_rules_spec.specs.Typed as t
use Rattle.vale_rules_spec.specs.Typed.{type, Callee}
use Rattle.vale_core.specs.declared.tree.Expr.{Expr, out-Expr}
use Rattle.vale_core.specs.declared.tree.Link.{Link, out-Link}
use Rattle.vale_core.specs.View.{view_ty, view_view, view_seen, view_expr, view_node, view_link, exprs_of}
use Rattle.vale_core.proofs.ViewLaws as v
use Rattle.vale_core.proofs.PartLaws.{of_out_expr, of_out_link}
use Rattle.vale_code.specs.declared.instr.Instr.{Instr}
use Rattle.vale_code.specs.declared.instr.Instr.TheVariants as i
use Rattle.vale_lowering.specs.Instructions.{only_if, and_code, operator, unary_code}
use Rattle.vale_lowering.specs.Scopes.{number_of_text}
use Rattle.vale_lowering.specs.Texts.{is_lawful_text}
use Rattle.vale_lowering_objects.specs.Scopes.{Gives, void, copy, owner, gives_of, is_value, agree, Scope, Gone, After, comes, never, then_after, no_run, Around, waiting, without, find, closes}
use Rattle.vale_lowering_objects.specs.Lowered.{expr_code, node_code, links_code, args_code, link_code, borrow_code, expr_after, node_after, links_after, args_after, link_after, callee_code, make_code, then_code, sides, gives_list, first_type, truth_number}
use Rattle.vale_lower_flow.specs.Flow.{Going, gone_in, comes_in, emitted, put, arrived, only, mark_of, begun, ended, filled, turned, joined, skipped, after_of}
use Rattle.vale_lower_flow.proofs.PartLaws as p
use Rattle.vale_lower_flow.proofs.PartLaws.{Part, only_is, then_is, put_is, fill_then, nothing_is, sides_is}
use Rattle.vale_lower_places.specs.Places.{moved, lent}
use Rattle.vale_lower_parts.specs.Named.{unmoved, unmoved_in}
use Rattle.vale_lower_parts.specs.Emitted.{expr_emitted, node_emitted, borrow_emitted, args_emitted, one_link_code, one_link_after, link_emitted, links_emitted}

pub type_by_parts : (e : Expr) → type (view_expr e) ≡ view_ty (out-Expr e).seen.value
type_by_parts e = ap type (of_out_expr e)

-- what leaves the same
pub leaves_same : (part : Part) (x z : Gone → After) (f : Going) → x f.gone ≡ z f.gone → emitted part x f ≡ emitted part z f
unfolding emitted
leaves_same part x z f e = ap (λ q. record { code = f.code ++ part (length f.code) f.gone; gone = gone_in q; comes = comes_in q }) e

pub then_nothing : (q : After) → then_after q (λ g. comes g) ≡ q
then_nothing (comes g) = refl
then_nothing (never g) = refl

after_is : (q : After) → after_of (comes_in q) (gone_in q) ≡ q
after_is (comes g) = refl
after_is (never g) = refl

pub after_emitted : (part : Part) (x : Gone → After) (f : Going) → after_of (emitted part x f).comes (emitted part x f).gone ≡ x f.gone
unfolding emitted
after_emitted part x f = after_is (x f.gone)

pub gone_turned : (test h : ℕ) (g : Gone) (f : Going) → (turned test h g f).gone ≡ g
unfolding turned
gone_turned test h g f = refl

pub gone_put : (xs : List Instr) (f : Going) → (put xs f).gone ≡ f.gone
unfolding put
gone_put xs f = refl

arrived_put : (xs : List Instr) (f : Going) → arrived (put xs f) ≡ put xs f
unfolding arrived put
arrived_put xs f = refl

-- an instruction after a part
pub then_put : (r : ℕ) (xs : List Instr) (a : Part) (x : Gone → After) (f : Going) →
    ended (mark_of (emitted a x f)) (put xs (begun r (emitted a x f))) ≡ emitted (λ place g. then_code place r (a place g) (x g) (λ place g. xs)) x f
then_put r xs a x f =
    ap (λ z. ended (mark_of (emitted a x f)) z) (put_is xs (begun r (emitted a x f)))
    ∙ then_is r a (λ place g. xs) x (λ g. comes g) f
    ∙ leaves_same (λ place g. then_code place r (a place g) (x g) (λ place g. xs)) (λ g. then_after (x g) (λ g. comes g)) x f (then_nothing (x f.gone))

module _ (a : Around) (h : ℕ) (s : Scope) where
  pub expr_by_parts : (e : Expr) (f : Going) → expr_emitted a (view_expr e) h s f ≡ node_emitted a (view_ty (out-Expr e).seen.value) (gives_of (view_ty (out-Expr e).seen.value)) (view_node (out-Expr e).node) h s f
  unfolding expr_emitted node_emitted
  expr_by_parts e f = ap (λ z. emitted (λ place g. expr_code a z place h s g) (λ g. expr_after z h s g) f) (of_out_expr e)

  -- ---- nodes

  module _ (x : y.Ty) (q : Gives) where
    pub number_is : (at : Spot) (n : ℤ) (f : Going) → node_emitted a x q (t.number at n) h s f ≡ put (only_if (agree q copy && is_int n) h (i.Int h n ∷ [])) f
    unfolding node_emitted emitted put
    number_is at n f = refl

    pub quote_is : (at : Spot) (text : List ℕ) (f : Going) → node_emitted a x q (t.quote at text) h s f ≡ put (only_if (agree q copy && is_lawful_text text) h (i.Text h (number_of_text text a.texts) ∷ [])) f
    unfolding node_emitted emitted put
    quote_is at text f = refl

    pub truth_is : (at : Spot) (b : Bool) (f : Going) → node_emitted a x q (t.truth at b) h s f ≡ put (only_if (agree q copy) h (i.Truth h (truth_number b) ∷ [])) f
    unfolding node_emitted emitted put
    truth_is at b f = refl

    pub moved_is : (n : NameAt) (is_outer : Bool) (f : Going) → node_emitted a x q (t.name n is_outer true) h s f ≡ moved (find n.name.0 s) q h f
    unfolding node_emitted emitted moved
    moved_is n is_outer f = refl

    pub lent_is : (n : NameAt) (is_outer : Bool) (f : Going) → node_emitted a x q (t.name n is_outer false) h s f ≡ lent (find n.name.0 s) q (y.frozen x) h f
    unfolding node_emitted emitted lent
    lent_is n is_outer f = refl

    pub paren_is : (at : Spot) (e : t.Expr) (f : Going) → node_emitted a x q (t.paren at e) h s f ≡ only (agree q (gives_of (type e))) (length f.code) h (expr_emitted a e h s f)
    unfolding node_emitted expr_emitted
    paren_is at e f = sym (only_is (λ g. agree q (gives_of (type e))) h (λ place g. expr_code a e place h s g) (λ g. expr_after e h s g) f)

    pub chain_is : (e : t.Expr) (ls : t.Links) (f : Going) → node_emitted a x q (t.chain e ls) h s f
        ≡ only (is_value (gives_of (type e)) && agree q copy) (length f.code) h (ended (mark_of (expr_emitted a e h s f)) (links_emitted a ls h s (begun (h + 1) (expr_emitted a e h s f))))
    unfolding node_emitted expr_emitted links_emitted
    chain_is e ls f =
        let one : Part = λ place g. expr_code a e place h s g in
        let two : Part = λ place g. links_code a ls place h s g in
        let after : Gone → After = λ g. expr_after e h s g in
        let more : Gone → After = λ g. links_after ls h s g in
        let ok = is_value (gives_of (type e)) && agree q copy in
        sym (ap (λ z. only ok (length f.code) h z) (then_is (h + 1) one two after more f)
        ∙ only_is (λ g. ok) h (λ place g. then_code place (h + 1) (one place g) (after g) two) (λ g. then_after (after g) more) f)

    pub borrow_is : (at : Spot) (e : t.Expr) (f : Going) → node_emitted a x q (t.unary at unary_op.Borrow e) h s f ≡ only (agree q copy) (length f.code) h (borrow_emitted a e h s f)
    unfolding node_emitted borrow_emitted
    borrow_is at e f = sym (only_is (λ g. agree q copy) h (λ place g. borrow_code a e place h s g) (λ g. expr_after e h s g) f)

    pub merge_is : (at : Spot) (e : t.Expr) (f : Going) → node_emitted a x q (t.unary at unary_op.Merge e) h s f
        ≡ only (agree owner (gives_of (type e)) && agree q owner) (length f.code) h (ended (mark_of (expr_emitted a e h s f)) (put (i.Merge h h ∷ []) (begun (h + 1) (expr_emitted a e h s f))))
    unfolding node_emitted expr_emitted
    merge_is at e f =
        let one : Part = λ place g. expr_code a e place h s g in
        let after : Gone → After = λ g. expr_after e h s g in
        let ok = agree owner (gives_of (type e)) && agree q owner in
        sym (ap (λ z. only ok (length f.code) h z) (then_put (h + 1) (i.Merge h h ∷ []) one after f)
        ∙ only_is (λ g. ok) h (λ place g. then_code place (h + 1) (one place g) (after g) (λ place g. i.Merge h h ∷ [])) after f)

    -- the other operators
    unfoldable pub plain_unary : (at : Spot) (op : UnaryOp) (e : t.Expr) (f : Going) → Going
    plain_unary at op e f =
        only (is_value (gives_of (type e)) && agree q copy) (length f.code) h (ended (mark_of (expr_emitted a e h s f)) (put (unary_code op at h) (begun (h + 1) (expr_emitted a e h s f))))

    plain_unary_is : (at : Spot) (op : UnaryOp) (e : t.Expr) (f : Going) → emitted (λ place g. only_if (is_value (gives_of (type e)) && agree q copy) h (then_code place (h + 1) (expr_code a e place h s g) (expr_after e h s g) (λ place g. unary_code op at h))) (λ g. expr_after e h s g) f ≡ plain_unary at op e f
    unfolding expr_emitted plain_unary
    plain_unary_is at op e f =
        let one : Part = λ place g. expr_code a e place h s g in
        let after : Gone → After = λ g. expr_after e h s g in
        let ok = is_value (gives_of (type e)) && agree q copy in
        sym (ap (λ z. only ok (length f.code) h z) (then_put (h + 1) (unary_code op at h) one after f)
        ∙ only_is (λ g. ok) h (λ place g. then_code place (h + 1) (one place g) (after g) (λ place g. unary_code op at h)) after f)

    pub minus_is : (at : Spot) (e : t.Expr) (f : Going) → node_emitted a x q (t.unary at unary_op.Minus e) h s f ≡ plain_unary at unary_op.Minus e f
    unfolding node_emitted
    minus_is at e f = plain_unary_is at unary_op.Minus e f

    pub not_is : (at : Spot) (e : t.Expr) (f : Going) → node_emitted a x q (t.unary at unary_op.Not e) h s f ≡ plain_unary at unary_op.Not e f
    unfolding node_emitted
    not_is at e f = plain_unary_is at unary_op.Not e f

    pub call_is : (n : NameAt) (c : Callee) (es : t.Exprs) (f : Going) → node_emitted a x q (t.call n c es) h s f
        ≡ ended (mark_of (args_emitted a es h s f)) (put (callee_code a q n c (first_type es) (gives_list es) h) (begun (h + length (gives_list es)) (args_emitted a es h s f)))
    unfolding node_emitted args_emitted
    call_is n c es f = sym (then_put (h + length (gives_list es)) (callee_code a q n c (first_type es) (gives_list es) h) (λ place g. args_code a es place h s g) (λ g. args_after es h s g) f)

    pub array_is : (at : Spot) (z : y.Ty) (es : t.Exprs) (f : Going) → node_emitted a x q (t.array at z es) h s f
        ≡ ended (mark_of (args_emitted a es h s f)) (put (make_code a.parts q x (gives_list es) h) (begun (h + length (gives_list es)) (args_emitted a es h s f)))
    unfolding node_emitted args_emitted
    array_is at z es f = sym (then_put (h + length (gives_list es)) (make_code a.parts q x (gives_list es) h) (λ place g. args_code a es place h s g) (λ g. args_after es h s g) f)

  -- ---- lists

  pub no_args : (f : Going) → args_emitted a t.no_exprs h s f ≡ arrived f
  unfolding args_emitted
  no_args f = sym (nothing_is f)

  pub more_args : (e : t.Expr) (es : t.Exprs) (f : Going) → args_emitted a (t.more_exprs e es) h s f
      ≡ only (is_value (gives_of (type e))) (length f.code) h (ended (mark_of (expr_emitted a e h s f)) (args_emitted a es (h + 1) (waiting h (gives_of (type e)) ∷ s) (filled h (begun (h + 1) (expr_emitted a e h s f)))))
  unfolding args_emitted expr_emitted
  more_args e es f =
      let inner : Scope = waiting h (gives_of (type e)) ∷ s in
      let one : Part = λ place g. expr_code a e place h s g in
      let after : Gone → After = λ g. expr_after e h s g in
      let two : Part = λ place g. args_code a es place (h + 1) inner g in
      let more : Gone → After = λ g. args_after es (h + 1) inner g in
      let ok = is_value (gives_of (type e)) in
      sym (ap (λ z. only ok (length f.code) h (ended (mark_of (emitted one after f)) z)) (fill_then h two more (begun (h + 1) (emitted one after f)))
      ∙ ap (λ z. only ok (length f.code) h z) (then_is (h + 1) one (λ place g. two place (without h g)) after (λ g. more (without h g)) f)
      ∙ only_is (λ g. ok) h (λ place g. then_code place (h + 1) (one place g) (after g) (λ place g. two place (without h g))) (λ g. then_after (after g) (λ g. more (without h g))) f)

  pub no_links : (f : Going) → links_emitted a t.no_links h s f ≡ arrived f
  unfolding links_emitted
  no_links f = sym (nothing_is f)

  abbrev pub operand_of : t.Link → t.Expr
  operand_of (t.link x at op e) = e

  pub more_links : (l : t.Link) (ls : t.Links) (f : Going) → links_emitted a (t.more_links l ls) h s f
      ≡ only (agree copy (gives_of (type (operand_of l)))) (length f.code) h (ended (mark_of (link_emitted a l h s f)) (links_emitted a ls h s (begun (h + 1) (link_emitted a l h s f))))
  unfolding links_emitted link_emitted
  more_links (t.link x at op e) ls f =
      let l : t.Link = t.link x at op e in
      let one : Part = λ place g. one_link_code a l place h s g in
      let after : Gone → After = λ g. one_link_after a l h s g in
      let two : Part = λ place g. links_code a ls place h s g in
      let more : Gone → After = λ g. links_after ls h s g in
      let ok = agree copy (gives_of (type e)) in
      sym (ap (λ z. only ok (length f.code) h z) (then_is (h + 1) one two after more f)
      ∙ only_is (λ g. ok) h (λ place g. then_code place (h + 1) (one place g) (after g) two) (λ g. then_after (after g) more) f)

  -- ---- operators

  pub or_is : (x : y.Seen) (at : Spot) (e : t.Expr) (before : Gone) (f : Going) →
      let f1 = put (i.Jump 0 ∷ []) f in
      let f2 = expr_emitted a e h s (turned (length f.code) h f.gone f1) in
      link_emitted a (t.link x at op.Or e) h s f
      ≡ only (closes s f.gone (after_of f2.comes f2.gone)) (length f.code) h (joined f1.comes (length f1.code) before (after_of f1.comes f1.gone) f2)
  unfolding link_emitted expr_emitted
  or_is x at e before f =
      let b : Part = λ place g. expr_code a e place h s g in
      let y : Gone → After = λ g. expr_after e h s g in
      let none : Part = λ place g. [] in
      let n = length f.code in
      let ended_by : Going → Going = λ f1. joined f1.comes (length f1.code) before (after_of f1.comes f1.gone) (emitted b y (turned n h f.gone f1)) in
      let f1 = put (i.Jump 0 ∷ []) f in
      let same : emitted none (λ g. comes g) f1 ≡ f1 = sym (nothing_is f1) ∙ arrived_put (i.Jump 0 ∷ []) f in
      let both : ended_by f1 ≡ emitted (λ place g. sides place h (comes g) (λ place. []) (λ place. b place g)) (λ g. comes g) f =
      ap ended_by (sym same) ∙ sides_is h none b (λ g. comes g) y before f in
      let f2 = emitted b y (turned n h f.gone f1) in
      let closing : closes s f.gone (after_of f2.comes f2.gone) ≡ closes s f.gone (y f.gone) = ap (λ q. closes s f.gone q) (after_emitted b y (turned n h f.gone f1) ∙ ap y (gone_turned n h f.gone f1)) in
      sym (ap (λ k. only k n h (ended_by f1)) closing
      ∙ ap (λ z. only (closes s f.gone (y f.gone)) n h z) both
      ∙ only_is (λ g. closes s g (y g)) h (λ place g. sides place h (comes g) (λ place. []) (λ place. b place g)) (λ g. comes g) f)

  pub and_is : (x : y.Seen) (at : Spot) (e : t.Expr) (f : Going) →
      let f2 = expr_emitted a e h s (put (i.Jump 0 ∷ []) f) in
      link_emitted a (t.link x at op.And e) h s f
      ≡ only (closes s f.gone (after_of f2.comes f2.gone)) (length f.code) h (skipped (length f.code) h f.gone f2)
  unfolding link_emitted expr_emitted
  and_is x at e f =
      let b : Part = λ place g. expr_code a e place h s g in
      let y : Gone → After = λ g. expr_after e h s g in
      let n = length f.code in
      let f1 = put (i.Jump 0 ∷ []) f in
      let f2 = emitted b y f1 in
      let closing : closes s f.gone (after_of f2.comes f2.gone) ≡ closes s f.gone (y f.gone) = ap (λ q. closes s f.gone q) (after_emitted b y f1 ∙ ap y (gone_put (i.Jump 0 ∷ []) f)) in
      sym (ap (λ k. only k n h (skipped n h f.gone f2)) closing
      ∙ ap (λ z. only (closes s f.gone (y f.gone)) n h z) (p.and_is h b y f)
      ∙ only_is (λ g. closes s g (y g)) h (λ place g. and_code place h (λ place. b place g)) (λ g. comes g) f)

  -- the others: both operands, and then the operator
  unfoldable pub operated : BinaryOp → y.Ty → Spot → t.Expr → Going → Going
  operated o x at e f = ended (mark_of (expr_emitted a e (h + 1) s f)) (put (operator o x at h ∷ []) (begun (h + 2) (expr_emitted a e (h + 1) s f)))

  operated_is : (o : BinaryOp) (x : y.Ty) (at : Spot) (e : t.Expr) (f : Going) →
      emitted (λ place g. then_code place (h + 2) (expr_code a e place (h + 1) s g) (expr_after e (h + 1) s g) (λ place g. operator o x at h ∷ [])) (λ g. expr_after e (h + 1) s g) f ≡ operated o x at e f
  unfolding operated expr_emitted
  operated_is o x at e f = sym (then_put (h + 2) (operator o x at h ∷ []) (λ place g. expr_code a e place (h + 1) s g) (λ g. expr_after e (h + 1) s g) f)

  pub link_is : (o : BinaryOp) (x : y.Seen) (at : Spot) (e : t.Expr) (f : Going) → (o ≡ op.Or → ⊥) → (o ≡ op.And → ⊥) → link_emitted a (t.link x at o e) h s f ≡ operated o x.value at e f
  unfolding link_emitted
  link_is op.Or x at e f not_or _ = absurd (not_or refl)
  link_is op.And x at e f _ not_and = absurd (not_and refl)
  link_is op.Equal x at e f _ _ = operated_is op.Equal x.value at e f
  link_is op.NotEqual x at e f _ _ = operated_is op.NotEqual x.value at e f
  link_is op.Less x at e f _ _ = operated_is op.Less x.value at e f
  link_is op.LessEqual x at e f _ _ = operated_is op.LessEqual x.value at e f
  link_is op.Greater x at e f _ _ = operated_is op.Greater x.value at e f
  link_is op.GreaterEqual x at e f _ _ = operated_is op.GreaterEqual x.value at e f
  link_is op.Add x at e f _ _ = operated_is op.Add x.value at e f
  link_is op.Sub x at e f _ _ = operated_is op.Sub x.value at e f
  link_is op.Mul x at e f _ _ = operated_is op.Mul x.value at e f
  link_is op.Div x at e f _ _ = operated_is op.Div x.value at e f
  link_is op.Rem x at e f _ _ = operated_is op.Rem x.value at e f

  pub link_by_parts : (l : Link) (f : Going) → link_emitted a (view_link l) h s f ≡ link_emitted a (t.link (view_seen (out-Link l).seen) (out-Link l).at (out-Link l).op (view_expr (out-Link l).operand)) h s f
  link_by_parts l f = ap (λ z. link_emitted a z h s f) (of_out_link l)

  -- ---- references to places

  pub borrow_named : (x : y.Seen) (n : NameAt) (is_outer : Bool) (f : Going) → borrow_emitted a (t.expr x (t.name n is_outer false)) h s f ≡ lent (find n.name.0 s) copy x.view h f
  unfolding borrow_emitted emitted lent
  borrow_named x n is_outer f = refl

pub unmoved_by_parts : (e : Expr) → unmoved (view_expr e) ≡ unmoved_in (view_node (out-Expr e).node)
unmoved_by_parts e = ap unmoved (of_out_expr e)

pub ruleset names = (unmoved_by_parts, v.of_set, v.of_chain, v.of_unary, v.of_steps, v.of_number, v.of_quote, v.of_truth, v.of_name, v.of_call, v.of_paren, v.of_elements, v.of_isolate, v.of_form)

pub ruleset exprs = (expr_by_parts)

pub ruleset nodes = (v.of_set, v.of_chain, v.of_unary, v.of_steps, v.of_number, v.of_quote, v.of_truth, v.of_name, v.of_call, v.of_paren, v.of_elements, v.of_isolate, v.of_form, number_is, quote_is, truth_is, moved_is, lent_is, call_is, array_is, type_by_parts)

pub ruleset parens = (paren_is, type_by_parts)

pub ruleset chains = (chain_is, type_by_parts)

pub ruleset unaries = (borrow_is, merge_is, minus_is, not_is, type_by_parts)

pub ruleset links = (link_by_parts, or_is, and_is)
