-- What blocks make, by what their statements make.
use Rattle.std.proofs.Common.{◌≡◌, ℕ, zero, suc, ◌+◌, List, [], ◌∷◌, ◌++◌, length, get_or, drop, ◌<◌, refl, ap, sym, ◌∙◌, arith, true≢false}
use Rattle.std.specs.Prelude.{Bool, true, false, ◌&&◌, ◌==◌, min, map, if◌then◌else◌}
use Rattle.std.proofs.lemmas.Bool.{eq-eqb, ne_eqb, eqb-true}
use Rattle.std.proofs.lemmas.List.{drop_more}
use Rattle.vale_base.specs.declared.spot.Spot.{Spot}
use Rattle.vale_syntax.specs.declared.tree.NameAt.{NameAt}
use Rattle.vale_rules_spec.specs.Types as y
use Rattle.vale_rules_spec.specs.Typed as t
use Rattle.vale_rules_spec.specs.Typed.{type}
use Rattle.vale_model.specs.Expressions.{numbers_of}
use Rattle.vale_code.specs.declared.instr.Instr.{Instr}
use Rattle.vale_code.specs.declared.instr.Instr.TheVariants as i
use Rattle.vale_lowering.specs.Instructions.{stuck, only_if, registers_from}
use Rattle.vale_lowering_objects.specs.Scopes.{Gives, void, gives_of, is_value, agree, Entry, entry, Scope, Gone, without, After, comes, then_after, Around}
use Rattle.vale_lowering_objects.specs.Lowered.{all_gives, then_code, if_comes, hand, drop_entry, locals_code, locals_after, expr_code, expr_after, stmts_code, stmts_after, stmt_code, stmt_after}
use Rattle.vale_lower_flow.specs.declared.closing.Closings.{Closings}
use Rattle.vale_lower_flow.specs.Closing.{dropped, closed}
use Rattle.vale_lower_flow.specs.Flow.{Going, emitted, put, arrived, only, mark_of, begun, ended, filled, if_there}
use Rattle.vale_lower_flow.proofs.ScopeLaws.{framed_more}
use Rattle.vale_lower_flow.proofs.PartLaws.{Part, only_is, then_is, there_is, put_then, fill_then, nothing_is}
use Rattle.vale_core.specs.declared.ty.Ty.{Ty}
use Rattle.vale_core.specs.View.{view_ty}
use Rattle.vale_lower_parts.specs.Located.{Rest, Leaves, located, at_rest}
use Rattle.vale_lower_parts.specs.Emitted.{expr_emitted, stmts_emitted, stmt_emitted, block_emitted}

-- what may be done where a run comes
there_by : (xs : List Instr) (f : Going) (k : Bool) → f.comes ≡ k → if_there (λ place g. xs) f ≡ (if k then put xs f else f)
unfolding if_there put
there_by xs f true e = ap (λ b. if b then record { code = f.code ++ xs; gone = f.gone; comes = true } else f) e
there_by xs f false e = ap (λ b. if b then record { code = f.code ++ xs; gone = f.gone; comes = true } else f) e

pub there_put : (xs : List Instr) (f : Going) → f.comes ≡ true → if_there (λ place g. xs) f ≡ put xs f
there_put xs f e = there_by xs f true e

pub there_not : (xs : List Instr) (f : Going) → f.comes ≡ false → if_there (λ place g. xs) f ≡ f
there_not xs f e = there_by xs f false e

-- ---- locals

module _ (end : Spot) (after : Leaves) (rest : Rest) where
  pub none_located : (h : ℕ) (s : Scope) (f : Going) → located end after rest [] [] h s f ≡ at_rest end after rest h s f
  unfolding located at_rest
  none_located h s f = refl

  pub more_located : (n : ℕ) (ns : List ℕ) (q : Gives) (qs : List Gives) (h : ℕ) (s : Scope) (f : Going) →
      located end after rest (n ∷ ns) (q ∷ qs) h s f ≡ only (is_value q) (length f.code) h (dropped (entry n h q) end (located end after rest ns qs (h + 1) (entry n h q ∷ s) (filled h f)))
  unfolding located dropped
  more_located n ns q qs h s f =
      let inner : Scope = entry n h q ∷ s in
      let one : Part = λ place g. locals_code ns qs end place (h + 1) inner g after rest in
      let leaves : Gone → After = λ g. locals_after ns qs (h + 1) inner g after in
      let drops : Part = λ place g. drop_entry (entry n h q) g end in
      sym (ap (λ z. only (is_value q) (length f.code) h (if_there drops z)) (fill_then h one leaves f)
      ∙ ap (λ z. only (is_value q) (length f.code) h z) (there_is drops (λ place g. one place (without h g)) (λ g. leaves (without h g)) f)
      ∙ only_is (λ g. is_value q) h (λ place g. if_comes place (one place (without h g)) (leaves (without h g)) drops) (λ g. leaves (without h g)) f)

  pub fewer_located : (n : ℕ) (ns : List ℕ) (h : ℕ) (s : Scope) (f : Going) → located end after rest (n ∷ ns) [] h s f ≡ only false (length f.code) h (at_rest end after rest h s f)
  unfolding located at_rest
  fewer_located n ns h s f = sym (only_is (λ g. false) h (λ place g. rest place h s g) (λ g. after h s g) f)

  pub others_located : (q : Gives) (qs : List Gives) (h : ℕ) (s : Scope) (f : Going) → located end after rest [] (q ∷ qs) h s f ≡ only false (length f.code) h (at_rest end after rest h s f)
  unfolding located at_rest
  others_located q qs h s f = sym (only_is (λ g. false) h (λ place g. rest place h s g) (λ g. after h s g) f)

-- ---- the locals of a destructuring, by their names and types as they are kept

suc_eq : (a b : ℕ) → (suc a == suc b) ≡ (a == b)
suc_eq a b = by (a == b) refl
  where
    by : (k : Bool) → (a == b) ≡ k → (suc a == suc b) ≡ k
    by true e = eq-eqb (suc a) (suc b) (ap suc (eqb-true a b e))
    by false e = ne_eqb (suc a) (suc b) (λ f. let same : a ≡ b = omega arith in true≢false (sym (eq-eqb a b same) ∙ e))

only_all : (n h : ℕ) (f : Going) → only true n h f ≡ f
unfolding only
only_all n h f = refl

module _ (end : Spot) (after : Leaves) (rest : Rest) where
  abbrev pub kept_located : List NameAt → List Ty → ℕ → Scope → Going → Going
  kept_located ns xs h s f = located end after rest (numbers_of ns) (all_gives (map view_ty xs)) h s f

  pub located_end : (k : ℕ) (ns : List NameAt) (xs : List Ty) (h : ℕ) (s : Scope) (f : Going) → k ≡ min (length ns) (length xs) →
      kept_located (drop k ns) (drop k xs) h s f ≡ only (length ns == length xs) (length f.code) h (at_rest end after rest h s f)
  located_end zero [] [] h s f e = none_located end after rest h s f ∙ sym (only_all (length f.code) h (at_rest end after rest h s f))
  located_end (suc k) [] [] h s f e = none_located end after rest h s f ∙ sym (only_all (length f.code) h (at_rest end after rest h s f))
  located_end zero [] (x ∷ xs) h s f e =
      others_located end after rest (gives_of (view_ty x)) (all_gives (map view_ty xs)) h s f
      ∙ ap (λ b. only b (length f.code) h (at_rest end after rest h s f)) (sym (ne_eqb 0 (suc (length xs)) (λ q. omega arith)))
  located_end (suc k) [] (x ∷ xs) h s f e = absurd (omega arith)
  located_end zero (n ∷ ns) [] h s f e =
      fewer_located end after rest n.name.0 (numbers_of ns) h s f
      ∙ ap (λ b. only b (length f.code) h (at_rest end after rest h s f)) (sym (ne_eqb (suc (length ns)) 0 (λ q. omega arith)))
  located_end (suc k) (n ∷ ns) [] h s f e = absurd (omega arith)
  located_end zero (n ∷ ns) (x ∷ xs) h s f e = absurd (omega arith)
  located_end (suc k) (n ∷ ns) (x ∷ xs) h s f e =
      located_end k ns xs h s f (omega arith)
      ∙ ap (λ b. only b (length f.code) h (at_rest end after rest h s f)) (sym (suc_eq (length ns) (length xs)))

  pub located_next : (k : ℕ) (ns : List NameAt) (xs : List Ty) (n : NameAt) (x : Ty) (h : ℕ) (s : Scope) (f : Going) → drop k ns ≡ n ∷ drop (k + 1) ns → drop k xs ≡ x ∷ drop (k + 1) xs →
      let local = entry n.name.0 h (gives_of (view_ty x)) in
      kept_located (drop k ns) (drop k xs) h s f
      ≡ only (is_value (gives_of (view_ty x))) (length f.code) h (dropped local end (kept_located (drop (k + 1) ns) (drop (k + 1) xs) (h + 1) (local ∷ s) (filled h f)))
  located_next k ns xs n x h s f en ex =
      ap (λ z. kept_located z (drop k xs) h s f) en ∙ ap (λ z. kept_located (n ∷ drop (k + 1) ns) z h s f) ex
      ∙ more_located end after rest n.name.0 (numbers_of (drop (k + 1) ns)) (gives_of (view_ty x)) (all_gives (map view_ty (drop (k + 1) xs))) h s f

-- an element before those after it
pub next_of : (xs : List Ty) (k : ℕ) (x : Ty) → k < length xs → x ≡ get_or xs k x → drop k xs ≡ x ∷ drop (k + 1) xs
next_of xs k x lt is = drop_more xs k x lt ∙ ap (λ (z : Ty). z ∷ drop (k + 1) xs) (sym is)

-- one local more of a destructuring, with what is to be done at its end
pub declared_step : (end : Spot) (after : Leaves) (rest : Rest) (c0 c1 c2 : Closings) (ns : List NameAt) (xs : List Ty) (k : ℕ) (n : NameAt) (x : Ty) (h h2 start : ℕ) (test : Bool) (q : Gives) (s s2 : Scope) (f f2 : Going) →
    drop k ns ≡ n ∷ drop (k + 1) ns → drop k xs ≡ x ∷ drop (k + 1) xs → q ≡ gives_of (view_ty x) → test ≡ is_value q → start ≡ length f.code
    → ((g : Going) → closed c1 g ≡ closed c0 (only test start h g)) → h2 ≡ h + 1 → s2 ≡ entry n.name.0 h q ∷ s → f2 ≡ filled h f
    → ((g : Going) → closed c2 g ≡ closed c1 (dropped (entry n.name.0 h q) end g))
    → closed c2 (kept_located end after rest (drop (k + 1) ns) (drop (k + 1) xs) h2 s2 f2) ≡ closed c0 (kept_located end after rest (drop k ns) (drop k xs) h s f)
declared_step end after rest c0 c1 c2 ns xs k n x h h2 start test q s s2 f f2 en ex eq et es e1 eh e_s ef e2 =
    let one : Gives → Entry = λ (z : Gives). entry n.name.0 h z in
    let more : ℕ → Scope → Going → Going = λ (i : ℕ) (t : Scope) (g : Going). kept_located end after rest (drop (k + 1) ns) (drop (k + 1) xs) i t g in
    ap (λ (i : ℕ). closed c2 (more i s2 f2)) eh ∙ (ap (λ (t : Scope). closed c2 (more (h + 1) t f2)) e_s ∙ (ap (λ (g : Going). closed c2 (more (h + 1) (one q ∷ s) g)) ef
    ∙ (e2 (more (h + 1) (one q ∷ s) (filled h f)) ∙ (e1 (dropped (one q) end (more (h + 1) (one q ∷ s) (filled h f)))
    ∙ (ap (λ (b : Bool). closed c0 (only b start h (dropped (one q) end (more (h + 1) (one q ∷ s) (filled h f))))) et
    ∙ (ap (λ (m : ℕ). closed c0 (only (is_value q) m h (dropped (one q) end (more (h + 1) (one q ∷ s) (filled h f))))) es
    ∙ (ap (λ (z : Gives). closed c0 (only (is_value z) (length f.code) h (dropped (one z) end (more (h + 1) (one z ∷ s) (filled h f))))) eq
    ∙ ap (λ (g : Going). closed c0 g) (sym (located_next end after rest k ns xs n x h s f en ex)))))))))

-- and where the names or the types end
pub declared_end : (end : Spot) (after : Leaves) (rest : Rest) (c0 c1 : Closings) (ns : List NameAt) (xs : List Ty) (k h start : ℕ) (test : Bool) (s : Scope) (f : Going) →
    k ≡ min (length ns) (length xs) → test ≡ (length ns == length xs) → start ≡ length f.code → ((g : Going) → closed c1 g ≡ closed c0 (only test start h g))
    → closed c1 (at_rest end after rest h s f) ≡ closed c0 (kept_located end after rest (drop k ns) (drop k xs) h s f)
declared_end end after rest c0 c1 ns xs k h start test s f ek et es e1 =
    e1 (at_rest end after rest h s f)
    ∙ (ap (λ (b : Bool). closed c0 (only b start h (at_rest end after rest h s f))) et
    ∙ (ap (λ (m : ℕ). closed c0 (only (length ns == length xs) m h (at_rest end after rest h s f))) es
    ∙ ap (λ (g : Going). closed c0 g) (sym (located_end end after rest k ns xs h s f ek))))

pub ruleset frames = (framed_more)

-- ---- statements one after another

module _ (a : Around) (q : Gives) (end : Spot) (to : ℕ) where
  pub block_is : (at : Spot) (x : y.Ty) (ss : t.Stmts) (h : ℕ) (s : Scope) (f : Going) → block_emitted a q (t.block at end x ss) to h s f ≡ stmts_emitted a q end ss to h s f
  unfolding block_emitted stmts_emitted
  block_is at x ss h s f = refl

  module _ (h : ℕ) (s : Scope) where
    pub no_stmts_is : (f : Going) → stmts_emitted a q end t.no_stmts to h s f ≡ only (agree q void) (length f.code) h (arrived f)
    unfolding stmts_emitted
    no_stmts_is f =
        sym (ap (λ z. only (agree q void) (length f.code) h z) (nothing_is f) ∙ only_is (λ g. agree q void) h (λ place g. []) (λ g. comes g) f)

    pub last_is : (e : t.Expr) (f : Going) → stmts_emitted a q end (t.last e) to h s f
        ≡ only (agree q (gives_of (type e))) (length f.code) h (if_there (λ place g. hand q to h) (expr_emitted a e h s f))
    unfolding stmts_emitted expr_emitted
    last_is e f =
        let one : Part = λ place g. expr_code a e place h s g in
        let after : Gone → After = λ g. expr_after e h s g in
        let ok = agree q (gives_of (type e)) in
        sym (ap (λ z. only ok (length f.code) h z) (there_is (λ place g. hand q to h) one after f)
        ∙ only_is (λ g. ok) h (λ place g. if_comes place (one place g) (after g) (λ place g. hand q to h)) after f)

    pub declare_is : (n : NameAt) (x : y.Ty) (e : t.Expr) (ss : t.Stmts) (f : Going) →
        let local = entry n.name.0 h (gives_of x) in
        let f1 = expr_emitted a e h s f in
        stmts_emitted a q end (t.more_stmts (t.declare n x e) ss) to h s f
        ≡ only (is_value (gives_of (type e)) && is_value (gives_of x)) (length f.code) h (ended (mark_of f1)
        (dropped local end (stmts_emitted a q end ss to (h + 1) (local ∷ s) (filled h (begun (h + 1) f1)))))
    unfolding stmts_emitted expr_emitted dropped
    declare_is n x e ss f =
        let local : Entry = entry n.name.0 h (gives_of x) in
        let inner : Scope = local ∷ s in
        let one : Part = λ place g. expr_code a e place h s g in
        let leaves : Gone → After = λ g. expr_after e h s g in
        let two : Part = λ place g. stmts_code a q end ss place to (h + 1) inner g in
        let more : Gone → After = λ g. stmts_after ss (h + 1) inner g in
        let drops : Part = λ place g. drop_entry local g end in
        let ok = is_value (gives_of (type e)) && is_value (gives_of x) in
        let f1 = emitted one leaves f in
        let f2 = begun (h + 1) f1 in
        let all : Part = λ place g. if_comes place (two place (without h g)) (more (without h g)) drops in
        sym (ap (λ z. only ok (length f.code) h (ended (mark_of f1) (if_there drops z))) (fill_then h two more f2)
        ∙ ap (λ z. only ok (length f.code) h (ended (mark_of f1) z)) (there_is drops (λ place g. two place (without h g)) (λ g. more (without h g)) f2)
        ∙ ap (λ z. only ok (length f.code) h z) (then_is (h + 1) one all leaves (λ g. more (without h g)) f)
        ∙ only_is (λ g. ok) h (λ place g. then_code place (h + 1) (one place g) (leaves g) all) (λ g. then_after (leaves g) (λ g. more (without h g))) f)

    pub destructure_is : (at : Spot) (ns : List NameAt) (xs : List y.Ty) (e : t.Expr) (ss : t.Stmts) (f : Going) →
        let f1 = expr_emitted a e h s f in
        stmts_emitted a q end (t.more_stmts (t.destructure at ns xs e) ss) to h s f
        ≡ only (is_value (gives_of (type e))) (length f.code) h (ended (mark_of f1)
        (located end (λ h s g. stmts_after ss h s g) (λ place h s g. stmts_code a q end ss place to h s g) (numbers_of ns) (all_gives xs) h s (put (i.Open (registers_from h (length (numbers_of ns))) h ∷ []) (begun (h + 1) f1))))
    unfolding stmts_emitted expr_emitted located
    destructure_is at ns xs e ss f =
        let one : Part = λ place g. expr_code a e place h s g in
        let leaves : Gone → After = λ g. expr_after e h s g in
        let opened : List Instr = i.Open (registers_from h (length (numbers_of ns))) h ∷ [] in
        let after : Leaves = λ h s g. stmts_after ss h s g in
        let rest : Rest = λ place h s g. stmts_code a q end ss place to h s g in
        let two : Part = λ place g. locals_code (numbers_of ns) (all_gives xs) end place h s g after rest in
        let more : Gone → After = λ g. locals_after (numbers_of ns) (all_gives xs) h s g after in
        let ok = is_value (gives_of (type e)) in
        let f1 = emitted one leaves f in
        let all : Part = λ place g. opened ++ two (place + length opened) g in
        sym (ap (λ z. only ok (length f.code) h (ended (mark_of f1) z)) (put_then opened two more (begun (h + 1) f1))
        ∙ ap (λ z. only ok (length f.code) h z) (then_is (h + 1) one all leaves more f)
        ∙ only_is (λ g. ok) h (λ place g. then_code place (h + 1) (one place g) (leaves g) all) (λ g. then_after (leaves g) more) f)

    -- any other statement
    abbrev pub next_stmt : t.Stmt → t.Stmts → Going → Going
    next_stmt x ss f = ended (mark_of (stmt_emitted a x h s f)) (stmts_emitted a q end ss to h s (begun h (stmt_emitted a x h s f)))

    next_by : (x : t.Stmt) (ss : t.Stmts) (f : Going) → next_stmt x ss f
        ≡ emitted (λ place g. then_code place h (stmt_code a x place h s g) (stmt_after x h s g) (λ place g. stmts_code a q end ss place to h s g)) (λ g. then_after (stmt_after x h s g) (λ g. stmts_after ss h s g)) f
    unfolding stmts_emitted stmt_emitted
    next_by x ss f =
        then_is h (λ place g. stmt_code a x place h s g) (λ place g. stmts_code a q end ss place to h s g) (λ g. stmt_after x h s g) (λ g. stmts_after ss h s g) f

    pub return_nothing_next : (at : Spot) (ss : t.Stmts) (f : Going) → stmts_emitted a q end (t.more_stmts (t.return_nothing at) ss) to h s f ≡ next_stmt (t.return_nothing at) ss f
    unfolding stmts_emitted
    return_nothing_next at ss f = sym (next_by (t.return_nothing at) ss f)

    pub return_value_next : (at : Spot) (e : t.Expr) (ss : t.Stmts) (f : Going) → stmts_emitted a q end (t.more_stmts (t.return_value at e) ss) to h s f ≡ next_stmt (t.return_value at e) ss f
    unfolding stmts_emitted
    return_value_next at e ss f = sym (next_by (t.return_value at e) ss f)

    pub while_next : (at : Spot) (c : t.Expr) (b : t.Block) (ss : t.Stmts) (f : Going) → stmts_emitted a q end (t.more_stmts (t.while at c b) ss) to h s f ≡ next_stmt (t.while at c b) ss f
    unfolding stmts_emitted
    while_next at c b ss f = sym (next_by (t.while at c b) ss f)

    pub foreach_next : (at : Spot) (n : NameAt) (c e : t.Expr) (b : t.Block) (ss : t.Stmts) (f : Going) → stmts_emitted a q end (t.more_stmts (t.foreach at n c e b) ss) to h s f ≡ next_stmt (t.foreach at n c e b) ss f
    unfolding stmts_emitted
    foreach_next at n c e b ss f = sym (next_by (t.foreach at n c e b) ss f)

    pub form_next : (z : t.Form) (ss : t.Stmts) (f : Going) → stmts_emitted a q end (t.more_stmts (t.form_stmt z) ss) to h s f ≡ next_stmt (t.form_stmt z) ss f
    unfolding stmts_emitted
    form_next z ss f = sym (next_by (t.form_stmt z) ss f)

    pub express_next : (e : t.Expr) (ss : t.Stmts) (f : Going) → stmts_emitted a q end (t.more_stmts (t.express e) ss) to h s f ≡ next_stmt (t.express e) ss f
    unfolding stmts_emitted
    express_next e ss f = sym (next_by (t.express e) ss f)
