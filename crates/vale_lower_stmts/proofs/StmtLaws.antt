-- What statements make, by what their parts make.
use Rattle.std.proofs.Common.{◌≡◌, ℕ, ◌+◌, List, [], ◌∷◌, ◌++◌, length, refl, ap, sym, ◌∙◌, append_assoc, true≢false}
use Rattle.std.specs.Prelude.{Bool, true, false, ◌&&◌, None, if◌then◌else◌}
use Rattle.std.proofs.lemmas.Option.{none-some}
use Rattle.vale_base.specs.declared.spot.Spot.{Spot}
use Rattle.vale_syntax.specs.declared.tree.NameAt.{NameAt}
use Rattle.vale_rules_spec.specs.Types as y
use Rattle.vale_rules_spec.specs.Typed as t
use Rattle.vale_rules_spec.specs.Typed.{type}
use Rattle.vale_model.specs.Expressions.{expr_spot}
use Rattle.vale_code.specs.declared.instr.Instr.{Instr}
use Rattle.vale_code.specs.declared.instr.Instr.TheVariants as i
use Rattle.vale_lowering.specs.Instructions.{only_if, loop_code}
use Rattle.vale_lowering_objects.specs.Scopes.{void, gives_of, is_value, agree, Scope, Gone, find, After, comes, never, no_run, then_after, closes, Around}
use Rattle.vale_lowering_objects.specs.Lowered.{then_code, if_comes, turns_code, loop_after, drop_scope, drop_value, store, expr_code, expr_after, block_code, block_after}
use Rattle.vale_lower_flow.specs.Flow.{Going, gone_in, comes_in, after_of, emitted, put, left, back_to, only, mark_of, begun, ended, if_there, looped}
use Rattle.vale_lower_flow.proofs.PartLaws.{Part, state, only_is, then_is, there_is, loop_is}
use Rattle.vale_lower_places.specs.Places.{scope_dropped}
use Rattle.vale_lower_looks.specs.Comes.{expr_comes}
use Rattle.vale_lower_looks.proofs.AfterLaws.{expr_comes_is}
use Rattle.vale_lower_parts.specs.Emitted.{expr_emitted, block_emitted, form_emitted, stmt_emitted}
use Rattle.vale_lower_stmts.specs.Placed.{set_local, unused_emitted, store_emitted}
use Rattle.vale_lower_parts.proofs.NodeLaws.{leaves_same, then_nothing, after_emitted, gone_put}

gone_back : (g : Gone) (f : Going) → (back_to g f).gone ≡ g
unfolding back_to
gone_back g f = refl

-- ---- returns

left_by : (c : List Instr) (q : After) → left (state c (gone_in q) (comes_in q)) ≡ state c (gone_in (no_run q)) (comes_in (no_run q))
unfolding left
left_by c (comes g) = refl
left_by c (never g) = refl

pub left_is : (part : Part) (x : Gone → After) (f : Going) → left (emitted part x f) ≡ emitted part (λ g. no_run (x g)) f
unfolding emitted
left_is part x f = left_by (f.code ++ part (length f.code) f.gone) (x f.gone)

-- all that is in scope is dropped, and then one instruction
pub dropped_then : (s : Scope) (at : Spot) (z : Instr) (f : Going) → put (z ∷ []) (scope_dropped s at f) ≡ emitted (λ place g. drop_scope s g at ++ (z ∷ [])) (λ g. comes g) f
unfolding put scope_dropped emitted
dropped_then s at z f = ap (λ w. state w f.gone true) (append_assoc f.code (drop_scope s f.gone at) (z ∷ []))

-- ---- loops

turns_by : (place h : ℕ) (q : After) (test body : ℕ → List Instr) → comes_in q ≡ true → turns_code place h q test body ≡ loop_code place h test body
turns_by place h (comes g) test body e = refl
turns_by place h (never g) test body e = absurd (true≢false (sym e))

loop_after_by : (g : Gone) (q : After) → comes_in q ≡ true → loop_after g q ≡ comes g
loop_after_by g (comes now) e = refl
loop_after_by g (never now) e = absurd (true≢false (sym e))

no_turns_by : (place h : ℕ) (q : After) (test body : ℕ → List Instr) → comes_in q ≡ false → turns_code place h q test body ≡ then_code place (h + 1) (test place) q (λ place g. body place)
no_turns_by place h (comes g) test body e = absurd (true≢false e)
no_turns_by place h (never g) test body e = refl

no_loop_by : (g : Gone) (q : After) → comes_in q ≡ false → loop_after g q ≡ q
no_loop_by g (comes now) e = absurd (true≢false e)
no_loop_by g (never now) e = refl

-- what has the same code and leaves the same
pub same_part : (one two : Part) (x z : Gone → After) (f : Going) → one (length f.code) f.gone ≡ two (length f.code) f.gone → x f.gone ≡ z f.gone → emitted one x f ≡ emitted two z f
unfolding emitted
same_part one two x z f e1 e2 =
    ap (λ w. state (f.code ++ w) (gone_in (x f.gone)) (comes_in (x f.gone))) e1
    ∙ ap (λ q. state (f.code ++ two (length f.code) f.gone) (gone_in q) (comes_in q)) e2

never_closes : (s : Scope) (g : Gone) (q : After) → comes_in q ≡ false → closes s g q ≡ true
never_closes s g (comes now) e = absurd (true≢false e)
never_closes s g (never now) e = refl

begun_by : (r : ℕ) (f : Going) (k : Bool) → f.comes ≡ k → begun r f ≡ (if k then f else state (f.code ++ i.Truth r 1 ∷ i.Unless r (length f.code) ∷ []) f.gone true)
unfolding begun
begun_by r f k e = ap (λ b. if b then f else state (f.code ++ i.Truth r 1 ∷ i.Unless r (length f.code) ∷ []) f.gone true) e

begun_gone_by : (r : ℕ) (f : Going) (k : Bool) → f.comes ≡ k → (begun r f).gone ≡ f.gone
begun_gone_by r f true e = ap (λ z. z.gone) (begun_by r f true e)
begun_gone_by r f false e = ap (λ z. z.gone) (begun_by r f false e)

pub begun_gone : (r : ℕ) (f : Going) → (begun r f).gone ≡ f.gone
begun_gone r f = begun_gone_by r f f.comes refl

begun_comes_by : (r : ℕ) (f : Going) (k : Bool) → f.comes ≡ k → (begun r f).comes ≡ true
begun_comes_by r f true e = ap (λ z. z.comes) (begun_by r f true e) ∙ e
begun_comes_by r f false e = ap (λ z. z.comes) (begun_by r f false e)

begun_comes : (r : ℕ) (f : Going) → (begun r f).comes ≡ true
begun_comes r f = begun_comes_by r f f.comes refl

-- what runs from what was gone before, where what is gone then is as before it
body_back : (body : Part) (z : Gone → After) (g : Gone) (f : Going) (now : Gone) → f.gone ≡ now → f.comes ≡ true → back_to now (emitted body z (back_to g f)) ≡ emitted (λ place later. body place g) (λ later. comes later) f
unfolding back_to emitted
body_back body z g f now e k = ap (λ w. state (f.code ++ body (length f.code) g) w true) (sym e)

module _ (a : Around) (h : ℕ) (s : Scope) where
  pub return_nothing_is : (at : Spot) (f : Going) → stmt_emitted a (t.return_nothing at) h s f ≡ left (only (agree a.gives void) (length f.code) h (put (i.RetVoid ∷ []) (scope_dropped s at f)))
  unfolding stmt_emitted
  return_nothing_is at f =
      let part : Part = λ place g. drop_scope s g at ++ (i.RetVoid ∷ []) in
      sym (ap (λ z. left (only (agree a.gives void) (length f.code) h z)) (dropped_then s at i.RetVoid f)
      ∙ ap left (only_is (λ g. agree a.gives void) h part (λ g. comes g) f)
      ∙ left_is (λ place g. only_if (agree a.gives void) h (part place g)) (λ g. comes g) f)

  pub return_value_is : (at : Spot) (e : t.Expr) (f : Going) → stmt_emitted a (t.return_value at e) h s f
      ≡ left (only (is_value (gives_of (type e)) && agree a.gives (gives_of (type e))) (length f.code) h (if_there (λ place g. drop_scope s g at ++ (i.Ret h ∷ [])) (expr_emitted a e h s f)))
  unfolding stmt_emitted expr_emitted
  return_value_is at e f =
      let one : Part = λ place g. expr_code a e place h s g in
      let x : Gone → After = λ g. expr_after e h s g in
      let rest : Part = λ place g. drop_scope s g at ++ (i.Ret h ∷ []) in
      let ok = is_value (gives_of (type e)) && agree a.gives (gives_of (type e)) in
      sym (ap (λ z. left (only ok (length f.code) h z)) (there_is rest one x f)
      ∙ ap left (only_is (λ g. ok) h (λ place g. if_comes place (one place g) (x g) rest) x f)
      ∙ left_is (λ place g. only_if ok h (if_comes place (one place g) (x g) rest)) x f)

  pub form_stmt_is : (z : t.Form) (f : Going) → stmt_emitted a (t.form_stmt z) h s f ≡ form_emitted a y.void void z h s f
  unfolding stmt_emitted form_emitted
  form_stmt_is z f = refl

  -- a loop, where a run comes behind its condition
  pub turns_is : (at : Spot) (c : t.Expr) (b : t.Block) (f : Going) → expr_comes c ≡ true →
      let f2 = block_emitted a void b h (h + 1) s (put (i.Tick ∷ []) (put (i.Jump 0 ∷ []) f)) in
      let f3 = expr_emitted a c h s (back_to f.gone f2) in
      only (is_value (gives_of (type c)) && (closes s f.gone (after_of f3.comes f3.gone) && closes s f.gone (after_of f2.comes f2.gone))) (length f.code) h (looped (length f.code) (length f2.code) h f.gone f3)
      ≡ stmt_emitted a (t.while at c b) h s f
  unfolding stmt_emitted expr_emitted block_emitted emitted put back_to looped only
  turns_is at c b f e =
      let test : Part = λ place g. expr_code a c place h s g in
      let x : Gone → After = λ g. expr_after c h s g in
      let body : Part = λ place g. block_code a void b place h (h + 1) s g in
      let z : Gone → After = λ g. block_after b (h + 1) s g in
      let n = length f.code in
      let g0 = f.gone in
      let f1 = put (i.Tick ∷ []) (put (i.Jump 0 ∷ []) f) in
      let f2 = emitted body z f1 in
      let f3 = emitted test x (back_to g0 f2) in
      let ex : after_of f3.comes f3.gone ≡ x g0 = after_emitted test x (back_to g0 f2) ∙ ap x (gone_back g0 f2) in
      let ez : after_of f2.comes f2.gone ≡ z g0 = after_emitted body z f1 ∙ ap z (gone_put (i.Tick ∷ []) (put (i.Jump 0 ∷ []) f) ∙ gone_put (i.Jump 0 ∷ []) f) in
      let v = is_value (gives_of (type c)) in
      let whole = looped n (length f2.code) h g0 f3 in
      let comes_there : comes_in (x g0) ≡ true = expr_comes_is c h s g0 ∙ e in
      let loop : Part = λ place g. loop_code place h (λ place. test place g) (λ place. body place g) in
      ap (λ q. only (v && (closes s g0 q && closes s g0 (after_of f2.comes f2.gone))) n h whole) ex
      ∙ ap (λ q. only (v && (closes s g0 (x g0) && closes s g0 q)) n h whole) ez
      ∙ ap (λ q. only (v && (closes s g0 (x g0) && closes s g0 (z g0))) n h q) (loop_is h test body x z f)
      ∙ only_is (λ g. v && (closes s g (x g) && closes s g (z g))) h loop (λ g. comes g) f
      ∙ same_part (λ place g. only_if (v && (closes s g (x g) && closes s g (z g))) h (loop place g))
      (λ place g. only_if (v && (closes s g (x g) && closes s g (z g))) h (turns_code place h (x g) (λ place. test place g) (λ place. body place g)))
      (λ g. comes g) (λ g. loop_after g (x g)) f
      (ap (λ q. only_if (v && (closes s g0 (x g0) && closes s g0 (z g0))) h q) (sym (turns_by n h (x g0) (λ place. test place g0) (λ place. body place g0) comes_there)))
      (sym (loop_after_by g0 (x g0) comes_there))

  -- a condition behind which no run comes
  pub no_turns_is : (at : Spot) (c : t.Expr) (b : t.Block) (f : Going) → expr_comes c ≡ false →
      let f1 = expr_emitted a c h s f in
      let f2 = block_emitted a void b h (h + 1) s (back_to f.gone (begun (h + 1) f1)) in
      only (is_value (gives_of (type c)) && closes s f.gone (after_of f2.comes f2.gone)) (length f.code) h (ended (mark_of f1) (back_to f1.gone f2))
      ≡ stmt_emitted a (t.while at c b) h s f
  unfolding stmt_emitted expr_emitted block_emitted
  no_turns_is at c b f e =
      let test : Part = λ place g. expr_code a c place h s g in
      let x : Gone → After = λ g. expr_after c h s g in
      let body : Part = λ place g. block_code a void b place h (h + 1) s g in
      let z : Gone → After = λ g. block_after b (h + 1) s g in
      let n = length f.code in
      let g0 = f.gone in
      let f1 = emitted test x f in
      let f2 = emitted body z (back_to g0 (begun (h + 1) f1)) in
      let none : comes_in (x g0) ≡ false = expr_comes_is c h s g0 ∙ e in
      let ez : after_of f2.comes f2.gone ≡ z g0 = after_emitted body z (back_to g0 (begun (h + 1) f1)) ∙ ap z (gone_back g0 (begun (h + 1) f1)) in
      let v = is_value (gives_of (type c)) in
      let turns : Part = λ place g. then_code place (h + 1) (test place g) (x g) (λ place now. body place g0) in
      ap (λ q. only (v && closes s g0 q) n h (ended (mark_of f1) (back_to f1.gone f2))) ez
      ∙ ap (λ q. only (v && closes s g0 (z g0)) n h (ended (mark_of f1) q)) (body_back body z g0 (begun (h + 1) f1) f1.gone (begun_gone (h + 1) f1) (begun_comes (h + 1) f1))
      ∙ ap (λ q. only (v && closes s g0 (z g0)) n h q) (then_is (h + 1) test (λ place now. body place g0) x (λ now. comes now) f)
      ∙ only_is (λ g. v && closes s g (z g)) h turns (λ g. then_after (x g) (λ now. comes now)) f
      ∙ same_part (λ place g. only_if (v && closes s g (z g)) h (turns place g))
      (λ place g. only_if (v && (closes s g (x g) && closes s g (z g))) h (turns_code place h (x g) (λ place. test place g) (λ place. body place g)))
      (λ g. then_after (x g) (λ now. comes now)) (λ g. loop_after g (x g)) f
      (ap (λ q. only_if (v && closes s g0 (z g0)) h q) (sym (no_turns_by n h (x g0) (λ place. test place g0) (λ place. body place g0) none))
      ∙ ap (λ q. only_if (v && (q && closes s g0 (z g0))) h (turns_code n h (x g0) (λ place. test place g0) (λ place. body place g0))) (sym (never_closes s g0 (x g0) none)))
      (then_nothing (x g0) ∙ sym (no_loop_by g0 (x g0) none))

  -- ---- values that aren't used

  unused_by : (x : y.Seen) (node : t.Node) (f : Going) →
      unused_emitted a (t.expr x node) h s f
      ≡ emitted (λ place g. if_comes place (expr_code a (t.expr x node) place h s g) (expr_after (t.expr x node) h s g) (λ place g. drop_value (gives_of x.value) h (expr_spot (t.expr x node)))) (λ g. expr_after (t.expr x node) h s g) f
  unfolding unused_emitted expr_emitted
  unused_by x node f =
      there_is (λ place g. drop_value (gives_of x.value) h (expr_spot (t.expr x node))) (λ place g. expr_code a (t.expr x node) place h s g) (λ g. expr_after (t.expr x node) h s g) f

  pub unused_is : (e : t.Expr) (f : Going) → None ≡ set_local e → unused_emitted a e h s f ≡ stmt_emitted a (t.express e) h s f
  unfolding stmt_emitted
  unused_is (t.expr x (t.chain w ls)) f e = unused_by x (t.chain w ls) f
  unused_is (t.expr x (t.unary at op w)) f e = unused_by x (t.unary at op w) f
  unused_is (t.expr x (t.steps w ss)) f e = unused_by x (t.steps w ss) f
  unused_is (t.expr x (t.number at n)) f e = unused_by x (t.number at n) f
  unused_is (t.expr x (t.quote at text)) f e = unused_by x (t.quote at text) f
  unused_is (t.expr x (t.truth at b)) f e = unused_by x (t.truth at b) f
  unused_is (t.expr x (t.name n o m)) f e = unused_by x (t.name n o m) f
  unused_is (t.expr x (t.call n c es)) f e = unused_by x (t.call n c es) f
  unused_is (t.expr x (t.paren at w)) f e = unused_by x (t.paren at w) f
  unused_is (t.expr x (t.array at w es)) f e = unused_by x (t.array at w es) f
  unused_is (t.expr x (t.iso at b)) f e = unused_by x (t.iso at b) f
  unused_is (t.expr x (t.form w)) f e = unused_by x (t.form w) f
  unused_is (t.expr x (t.set at (t.expr y (t.chain w ls)) z)) f e = unused_by x (t.set at (t.expr y (t.chain w ls)) z) f
  unused_is (t.expr x (t.set at (t.expr y (t.unary at2 op w)) z)) f e = unused_by x (t.set at (t.expr y (t.unary at2 op w)) z) f
  unused_is (t.expr x (t.set at (t.expr y (t.steps w ss)) z)) f e = unused_by x (t.set at (t.expr y (t.steps w ss)) z) f
  unused_is (t.expr x (t.set at (t.expr y (t.number at2 n)) z)) f e = unused_by x (t.set at (t.expr y (t.number at2 n)) z) f
  unused_is (t.expr x (t.set at (t.expr y (t.quote at2 text)) z)) f e = unused_by x (t.set at (t.expr y (t.quote at2 text)) z) f
  unused_is (t.expr x (t.set at (t.expr y (t.truth at2 b)) z)) f e = unused_by x (t.set at (t.expr y (t.truth at2 b)) z) f
  unused_is (t.expr x (t.set at (t.expr y (t.name n o m)) z)) f e = absurd (none-some n.name.0 e)
  unused_is (t.expr x (t.set at (t.expr y (t.call n c es)) z)) f e = unused_by x (t.set at (t.expr y (t.call n c es)) z) f
  unused_is (t.expr x (t.set at (t.expr y (t.paren at2 w)) z)) f e = unused_by x (t.set at (t.expr y (t.paren at2 w)) z) f
  unused_is (t.expr x (t.set at (t.expr y (t.array at2 w es)) z)) f e = unused_by x (t.set at (t.expr y (t.array at2 w es)) z) f
  unused_is (t.expr x (t.set at (t.expr y (t.iso at2 b)) z)) f e = unused_by x (t.set at (t.expr y (t.iso at2 b)) z) f
  unused_is (t.expr x (t.set at (t.expr y (t.form w)) z)) f e = unused_by x (t.set at (t.expr y (t.form w)) z) f
  unused_is (t.expr x (t.set at (t.expr y (t.set at2 p2 z2)) z)) f e = unused_by x (t.set at (t.expr y (t.set at2 p2 z2)) z) f

  pub store_is : (x y : y.Seen) (at : Spot) (n : NameAt) (is_outer is_moved : Bool) (e : t.Expr) (f : Going) →
      store_emitted a (gives_of x.value) at n.name.0 e h s f ≡ stmt_emitted a (t.express (t.expr x (t.set at (t.expr y (t.name n is_outer is_moved)) e))) h s f
  unfolding stmt_emitted expr_emitted store_emitted
  store_is x y at n is_outer is_moved e f =
      let one : Part = λ place g. expr_code a e place h s g in
      let leaves : Gone → After = λ g. expr_after e h s g in
      let rest : Part = λ place g. store (find n.name.0 s) g (gives_of (type e)) h at in
      let ok = is_value (gives_of (type e)) && agree (gives_of x.value) (gives_of (type e)) in
      ap (λ z. only ok (length f.code) h z) (there_is rest one leaves f)
      ∙ only_is (λ g. ok) h (λ place g. if_comes place (one place g) (leaves g) rest) leaves f
      ∙ leaves_same (λ place g. only_if ok h (if_comes place (one place g) (leaves g) rest)) leaves (λ g. then_after (leaves g) (λ g. comes g)) f (sym (then_nothing (leaves f.gone)))
