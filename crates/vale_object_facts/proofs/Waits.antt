-- No part moves what waits, nor anything else that has no name; and a part that doesn't change a local doesn't move it.
use Rattle.std.proofs.Common.{◌≡◌, ◌≢◌, ℕ, ◌+◌, ◌<◌, ◌≤◌, List, [], ◌∷◌, Option, Some, None, Bool, true, false, ◌&&◌, ◌||◌, ◌==◌, if◌then◌else◌, refl, sym, ap, ◌∙◌, arith}
use Rattle.std.proofs.lemmas.Bool.{eq-eqb, ne_eqb}
use Rattle.vale_syntax.specs.declared.tree.BinaryOp.{BinaryOp}
use Rattle.vale_syntax.specs.declared.tree.BinaryOp.TheVariants as op
use Rattle.vale_rules_spec.specs.Types.{View}
use Rattle.vale_rules_spec.specs.Typed.{Expr, expr, Node, set, chain, unary, steps, number, quote, truth, name, call, paren, array, iso, form, Exprs, no_exprs, more_exprs, link, Links, no_links, more_links, Step, field, method, index, Steps, no_steps, more_steps, Form, branch, pure, parallel_range, parallel_each, else_if, Elses, no_else, otherwise, more_elses, Block, block, Stmt, declare, destructure, return_nothing, return_value, while, foreach, form_stmt, express, Stmts, no_stmts, last, more_stmts, type}
use Rattle.vale_model.specs.Expressions.{numbers_of}
use Rattle.vale_model.specs.Runs as model
use Rattle.vale_lowering_objects.specs.Changes.{is_local, expr_changes, node_changes, exprs_change, links_change, step_changes, steps_change, form_changes, elses_change, block_changes, stmts_change, stmt_changes}
use Rattle.vale_lowering_objects.specs.Lowered.{all_gives, locals_after, moved_out, loop_after, link_after, step_view, stays_of, free_register, expr_after, node_after, start_after, step_after, steps_after, place_after, targets_after, args_after, links_after, form_after, elses_after, block_after, stmts_after, stmt_after}
use Rattle.vale_lowering_objects.specs.Scopes.{Gives, gives_of, Entry, Scope, entry, waiting, find, Gone, is_gone, without, After, comes, never, no_run, then_after, met}
use Rattle.vale_object_facts.specs.Stands.{gone_of}
use Rattle.vale_object_facts.proofs.Covering.{gone_without}

pub none_run : (o : After) → gone_of (no_run o) ≡ gone_of o
none_run (comes g) = refl
none_run (never g) = refl

module _ (r : ℕ) (named : Bool) (local : ℕ) where
  -- a part with such changes leaves the register, where the local stands for it
  abbrev pub Still : Bool → Type 0
  Still changes = (named && changes) ≡ false

  still_by : (n a b : Bool) → (n && (a || b)) ≡ false → ((n && a) ≡ false) × ((n && b) ≡ false)
  still_by false a b e = (refl, refl)
  still_by true false b e = (refl, e)
  still_by true true b e = absurd (cc)

  pub still_parts : (a b : Bool) → Still (a || b) → Still a × Still b
  still_parts a b e = still_by named a b e

  -- no other name stands for the register
  pub record Unnamed (s : Scope) : Type 0 where
    pub each : (n : ℕ) (x : Entry) → find n s ≡ Some x → x.register ≡ r → (named ≡ true) × (n ≡ local)

  pub unnamed_push : (e : Entry) (s : Scope) → e.register ≢ r → Unnamed s → Unnamed (e ∷ s)
  unnamed_push e s ne u = record { each = λ n x is. by n x (model.has_name n e.name) is }
    where
      by : (n : ℕ) (x : Entry) (b : Bool) → (if b then Some e else find n s) ≡ Some x → x.register ≡ r → (named ≡ true) × (n ≡ local)
      by n x true is = let same : e ≡ x = cc in λ q. absurd (ne (ap (λ z. z.register) same ∙ q))
      by n x false is = u.each n x is

  -- it is as much gone after a part as before
  abbrev pub Keeps : Gone → After → Type 0
  Keeps g o = is_gone r (gone_of o) ≡ is_gone r g

  then_keeps : (g : Gone) (o : After) (f : Gone → After) → Keeps g o → ((c : Gone) → is_gone r c ≡ is_gone r g → Keeps g (f c)) → Keeps g (then_after o f)
  then_keeps g (comes c) f e k = k c e
  then_keeps g (never c) f e k = ap (is_gone r) (none_run (f c)) ∙ k c e

  met_keeps : (g before : Gone) (a b : After) → is_gone r before ≡ is_gone r g → Keeps g a → Keeps g b → Keeps g (met before a b)
  met_keeps g before (comes c) b e x z = x
  met_keeps g before (never c) (comes d) e x z = z
  met_keeps g before (never c) (never d) e x z = e

  loop_keeps : (g : Gone) (o : After) → Keeps g o → Keeps g (loop_after g o)
  loop_keeps g (comes c) e = refl
  loop_keeps g (never c) e = e

  moved_keeps : (s : Scope) (n : ℕ) (g : Gone) → Unnamed s → Still (n == local) → is_gone r (moved_out (find n s) g) ≡ is_gone r g
  moved_keeps s n g u st = by (find n s) refl
    where
      away_from : (x : Entry) → find n s ≡ Some x → x.register ≢ r
      away_from x e same = let z = u.each n x e same in absurd (let f : (named && (n == local)) ≡ true = ap (λ b. b && (n == local)) z.0 ∙ eq-eqb n local z.1 in let g : true ≡ false = sym f ∙ st in cc)

      by : (o : Option Entry) → find n s ≡ o → is_gone r (moved_out o g) ≡ is_gone r g
      by None e = refl
      by (Some x) e = ap (λ b. if b then true else is_gone r g) (ne_eqb x.register r (away_from x e))

  free_above : (b : Bool) (h : ℕ) → h ≤ free_register b h
  free_above true h = omega arith
  free_above false h = omega arith

  away : (h : ℕ) → r < h → h ≢ r
  away h lt e = absurd (omega (arith, lt, e))

  dropped : (h : ℕ) (g : Gone) → r < h → is_gone r (without h g) ≡ is_gone r g
  dropped h g lt = gone_without h r g (λ e. away h lt (sym e))

  locals_keep : (ns : List ℕ) (qs : List Gives) (h : ℕ) (s : Scope) (g : Gone) (f : ℕ → Scope → Gone → After) → r < h → Unnamed s → ((h : ℕ) (s : Scope) (c : Gone) → r < h → Unnamed s → Keeps c (f h s c)) → Keeps g (locals_after ns qs h s g f)
  locals_keep [] [] h s g f lt u k = k h s g lt u
  locals_keep [] (q ∷ qs) h s g f lt u k = k h s g lt u
  locals_keep (n ∷ ns) [] h s g f lt u k = k h s g lt u
  locals_keep (n ∷ ns) (q ∷ qs) h s g f lt u k = locals_keep ns qs (h + 1) (entry n h q ∷ s) (without h g) f (omega (arith, lt)) (unnamed_push (entry n h q) s (away h lt) u) k ∙ dropped h g lt

  link_keeps : (o : BinaryOp) (h : ℕ) (g : Gone) (f : ℕ → Gone → After) → Keeps g (f (h + 1) g) → Keeps g (link_after o f h g)
  link_keeps op.Or h g f e = refl
  link_keeps op.And h g f e = refl
  link_keeps op.Equal h g f e = e
  link_keeps op.NotEqual h g f e = e
  link_keeps op.Less h g f e = e
  link_keeps op.LessEqual h g f e = e
  link_keeps op.Greater h g f e = e
  link_keeps op.GreaterEqual h g f e = e
  link_keeps op.Add h g f e = e
  link_keeps op.Sub h g f e = e
  link_keeps op.Mul h g f e = e
  link_keeps op.Div h g f e = e
  link_keeps op.Rem h g f e = e

  mutual
    pub expr_keeps : (e : Expr) (h : ℕ) (s : Scope) (g : Gone) → r < h → Unnamed s → Still (expr_changes local e) → Keeps g (expr_after e h s g)
    expr_keeps (expr x node) h s g lt u t = node_keeps node h s g lt u t

    pub node_keeps : (node : Node) (h : ℕ) (s : Scope) (g : Gone) → r < h → Unnamed s → Still (node_changes local node) → Keeps g (node_after node h s g)
    node_keeps (name n is_outer true) h s g lt u t = moved_keeps s n.name.0 g u t
    node_keeps (name n is_outer false) h s g lt u t = refl
    node_keeps (paren at e) h s g lt u t = expr_keeps e h s g lt u t
    node_keeps (chain e ls) h s g lt u t =
        let b = still_parts (expr_changes local e) (links_change local ls) t in then_keeps g (expr_after e h s g) (λ g. links_after ls h s g) (expr_keeps e h s g lt u b.0) (λ c e. links_keep ls h s c lt u b.1 ∙ e)
    node_keeps (unary at o e) h s g lt u t = expr_keeps e h s g lt u t
    node_keeps (call n f es) h s g lt u t = args_keep es h s g lt u t
    node_keeps (array at x es) h s g lt u t = args_keep es h s g lt u t
    node_keeps (form f) h s g lt u t = form_keeps f h s g lt u t
    node_keeps (set at p e) h s g lt u t =
        let a = still_parts (is_local local p || expr_changes local p) (expr_changes local e) t in
        let b = still_parts (is_local local p) (expr_changes local p) a.0 in
        then_keeps g (expr_after e h s g) (λ g. place_after p (gives_of (type e)) h s g) (expr_keeps e h s g lt u a.1) (λ c e'. place_keeps p (gives_of (type e)) h s c lt u b.1 ∙ e')
    node_keeps (steps e (more_steps x xs)) h s g lt u t =
        let a = still_parts (expr_changes local e) (step_changes local x || steps_change local xs) t in
        let b = still_parts (step_changes local x) (steps_change local xs) a.1 in
        then_keeps g (start_after e (step_view x) (λ n. step_changes n x) h s g (λ k g. step_after x k s g)) (λ g. steps_after xs h s g)
        (start_keeps e (step_view x) (λ n. step_changes n x) h s g (λ k g. step_after x k s g) lt u a.0 (λ j c le e. step_keeps x j s c (omega (arith, lt, le)) u b.0 ∙ e))
        (λ c e. steps_keep xs h s c lt u b.1 ∙ e)
    node_keeps (steps e no_steps) h s g lt u t = refl
    node_keeps (iso at b) h s g lt u t = block_keeps b (h + 1) s g (omega (arith, lt)) u t
    node_keeps (number at n) h s g lt u t = refl
    node_keeps (quote at text) h s g lt u t = refl
    node_keeps (truth at v) h s g lt u t = refl

    pub start_keeps : (e : Expr) (view : View) (changes : ℕ → Bool) (h : ℕ) (s : Scope) (g : Gone) (rest : ℕ → Gone → After) → r < h → Unnamed s → Still (expr_changes local e) → ((j : ℕ) (c : Gone) → h ≤ j → is_gone r c ≡ is_gone r g → Keeps g (rest j c)) → Keeps g (start_after e view changes h s g rest)
    start_keeps (expr y (name n is_outer false)) view changes h s g rest lt u t k = k (free_register (stays_of (find n.name.0 s) view (changes n.name.0)) h) g (free_above (stays_of (find n.name.0 s) view (changes n.name.0)) h) refl
    start_keeps (expr y (name n is_outer true)) view changes h s g rest lt u t k = then_keeps g (node_after (name n is_outer true) h s g) (λ g. rest (h + 1) g) (node_keeps (name n is_outer true) h s g lt u t) (λ c e. k (h + 1) c (omega arith) e)
    start_keeps (expr y (set at p1 e1)) view changes h s g rest lt u t k = then_keeps g (node_after (set at p1 e1) h s g) (λ g. rest (h + 1) g) (node_keeps (set at p1 e1) h s g lt u t) (λ c e. k (h + 1) c (omega arith) e)
    start_keeps (expr y (chain e1 ls)) view changes h s g rest lt u t k = then_keeps g (node_after (chain e1 ls) h s g) (λ g. rest (h + 1) g) (node_keeps (chain e1 ls) h s g lt u t) (λ c e. k (h + 1) c (omega arith) e)
    start_keeps (expr y (unary at o e1)) view changes h s g rest lt u t k = then_keeps g (node_after (unary at o e1) h s g) (λ g. rest (h + 1) g) (node_keeps (unary at o e1) h s g lt u t) (λ c e. k (h + 1) c (omega arith) e)
    start_keeps (expr y (steps e1 ss)) view changes h s g rest lt u t k = then_keeps g (node_after (steps e1 ss) h s g) (λ g. rest (h + 1) g) (node_keeps (steps e1 ss) h s g lt u t) (λ c e. k (h + 1) c (omega arith) e)
    start_keeps (expr y (number at n)) view changes h s g rest lt u t k = then_keeps g (node_after (number at n) h s g) (λ g. rest (h + 1) g) (node_keeps (number at n) h s g lt u t) (λ c e. k (h + 1) c (omega arith) e)
    start_keeps (expr y (quote at text)) view changes h s g rest lt u t k = then_keeps g (node_after (quote at text) h s g) (λ g. rest (h + 1) g) (node_keeps (quote at text) h s g lt u t) (λ c e. k (h + 1) c (omega arith) e)
    start_keeps (expr y (truth at v)) view changes h s g rest lt u t k = then_keeps g (node_after (truth at v) h s g) (λ g. rest (h + 1) g) (node_keeps (truth at v) h s g lt u t) (λ c e. k (h + 1) c (omega arith) e)
    start_keeps (expr y (call n f es)) view changes h s g rest lt u t k = then_keeps g (node_after (call n f es) h s g) (λ g. rest (h + 1) g) (node_keeps (call n f es) h s g lt u t) (λ c e. k (h + 1) c (omega arith) e)
    start_keeps (expr y (paren at e1)) view changes h s g rest lt u t k = then_keeps g (node_after (paren at e1) h s g) (λ g. rest (h + 1) g) (node_keeps (paren at e1) h s g lt u t) (λ c e. k (h + 1) c (omega arith) e)
    start_keeps (expr y (array at x es)) view changes h s g rest lt u t k = then_keeps g (node_after (array at x es) h s g) (λ g. rest (h + 1) g) (node_keeps (array at x es) h s g lt u t) (λ c e. k (h + 1) c (omega arith) e)
    start_keeps (expr y (iso at b)) view changes h s g rest lt u t k = then_keeps g (node_after (iso at b) h s g) (λ g. rest (h + 1) g) (node_keeps (iso at b) h s g lt u t) (λ c e. k (h + 1) c (omega arith) e)
    start_keeps (expr y (form f)) view changes h s g rest lt u t k = then_keeps g (node_after (form f) h s g) (λ g. rest (h + 1) g) (node_keeps (form f) h s g lt u t) (λ c e. k (h + 1) c (omega arith) e)

    pub step_keeps : (x : Step) (j : ℕ) (s : Scope) (g : Gone) → r < j → Unnamed s → Still (step_changes local x) → Keeps g (step_after x j s g)
    step_keeps (field y view may_be_set at m) j s g lt u t = refl
    step_keeps (index y view at e) j s g lt u t = expr_keeps e j s g lt u t
    step_keeps (method y view at m es) j s g lt u t = refl

    pub steps_keep : (xs : Steps) (h : ℕ) (s : Scope) (g : Gone) → r < h → Unnamed s → Still (steps_change local xs) → Keeps g (steps_after xs h s g)
    steps_keep no_steps h s g lt u t = refl
    steps_keep (more_steps x xs) h s g lt u t =
        let b = still_parts (step_changes local x) (steps_change local xs) t in then_keeps g (step_after x (h + 1) s g) (λ g. steps_after xs h s g) (step_keeps x (h + 1) s g (omega (arith, lt)) u b.0) (λ c e. steps_keep xs h s c lt u b.1 ∙ e)

    place_keeps : (p : Expr) (q : Gives) (h : ℕ) (s : Scope) (g : Gone) → r < h → Unnamed s → Still (expr_changes local p) → Keeps g (place_after p q h s g)
    place_keeps (expr x (steps e (more_steps y no_steps))) q h s g lt u t =
        let a = still_parts (expr_changes local e) (step_changes local y || false) t in
        let b = still_parts (step_changes local y) false a.1 in
        start_keeps e (step_view y) (λ n. step_changes n y) (h + 1) (waiting h q ∷ s) (without h g) (λ k g. step_after y k (waiting h q ∷ s) g) (omega (arith, lt)) (unnamed_push (waiting h q) s (away h lt) u) a.0
        (λ j c le e. step_keeps y j (waiting h q ∷ s) c (omega (arith, lt, le)) (unnamed_push (waiting h q) s (away h lt) u) b.0 ∙ e) ∙ dropped h g lt
    place_keeps (expr x (steps e (more_steps y (more_steps z zs)))) q h s g lt u t =
        let a = still_parts (expr_changes local e) (step_changes local y || steps_change local (more_steps z zs)) t in
        let b = still_parts (step_changes local y) (steps_change local (more_steps z zs)) a.1 in
        then_keeps (without h g) (start_after e (step_view y) (λ n. step_changes n y) (h + 1) (waiting h q ∷ s) (without h g) (λ k g. step_after y k (waiting h q ∷ s) g)) (λ g. targets_after (more_steps z zs) (h + 1) (waiting h q ∷ s) g)
        (start_keeps e (step_view y) (λ n. step_changes n y) (h + 1) (waiting h q ∷ s) (without h g) (λ k g. step_after y k (waiting h q ∷ s) g) (omega (arith, lt)) (unnamed_push (waiting h q) s (away h lt) u) a.0
        (λ j c le e. step_keeps y j (waiting h q ∷ s) c (omega (arith, lt, le)) (unnamed_push (waiting h q) s (away h lt) u) b.0 ∙ e))
        (λ c e. targets_keep (more_steps z zs) (h + 1) (waiting h q ∷ s) c (omega (arith, lt)) (unnamed_push (waiting h q) s (away h lt) u) b.1 ∙ e) ∙ dropped h g lt
    place_keeps (expr x (steps e no_steps)) q h s g lt u t = refl
    place_keeps (expr x (set at p1 e1)) q h s g lt u t = refl
    place_keeps (expr x (chain e1 ls)) q h s g lt u t = refl
    place_keeps (expr x (unary at o e1)) q h s g lt u t = refl
    place_keeps (expr x (name n is_outer moved)) q h s g lt u t = refl
    place_keeps (expr x (number at n)) q h s g lt u t = refl
    place_keeps (expr x (quote at text)) q h s g lt u t = refl
    place_keeps (expr x (truth at v)) q h s g lt u t = refl
    place_keeps (expr x (call n f es)) q h s g lt u t = refl
    place_keeps (expr x (paren at e1)) q h s g lt u t = refl
    place_keeps (expr x (array at x1 es)) q h s g lt u t = refl
    place_keeps (expr x (iso at b)) q h s g lt u t = refl
    place_keeps (expr x (form f)) q h s g lt u t = refl

    pub targets_keep : (xs : Steps) (h : ℕ) (s : Scope) (g : Gone) → r < h → Unnamed s → Still (steps_change local xs) → Keeps g (targets_after xs h s g)
    targets_keep no_steps h s g lt u t = refl
    targets_keep (more_steps x no_steps) h s g lt u t = let b = still_parts (step_changes local x) false t in step_keeps x (h + 1) s g (omega (arith, lt)) u b.0
    targets_keep (more_steps x (more_steps y ys)) h s g lt u t =
        let b = still_parts (step_changes local x) (steps_change local (more_steps y ys)) t in
        then_keeps g (step_after x (h + 1) s g) (λ g. targets_after (more_steps y ys) h s g) (step_keeps x (h + 1) s g (omega (arith, lt)) u b.0) (λ c e. targets_keep (more_steps y ys) h s c lt u b.1 ∙ e)

    pub args_keep : (es : Exprs) (h : ℕ) (s : Scope) (g : Gone) → r < h → Unnamed s → Still (exprs_change local es) → Keeps g (args_after es h s g)
    args_keep no_exprs h s g lt u t = refl
    args_keep (more_exprs e es) h s g lt u t =
        let b = still_parts (expr_changes local e) (exprs_change local es) t in
        then_keeps g (expr_after e h s g) (λ g. args_after es (h + 1) (waiting h (gives_of (type e)) ∷ s) (without h g)) (expr_keeps e h s g lt u b.0)
        (λ c e'. args_keep es (h + 1) (waiting h (gives_of (type e)) ∷ s) (without h c) (omega (arith, lt)) (unnamed_push (waiting h (gives_of (type e))) s (away h lt) u) b.1 ∙ dropped h c lt ∙ e')

    links_keep : (ls : Links) (h : ℕ) (s : Scope) (g : Gone) → r < h → Unnamed s → Still (links_change local ls) → Keeps g (links_after ls h s g)
    links_keep no_links h s g lt u t = refl
    links_keep (more_links (link x at o e) ls) h s g lt u t =
        let b = still_parts (expr_changes local e) (links_change local ls) t in
        then_keeps g (link_after o (λ h g. expr_after e h s g) h g) (λ g. links_after ls h s g) (link_keeps o h g (λ h g. expr_after e h s g) (expr_keeps e (h + 1) s g (omega (arith, lt)) u b.0)) (λ c e'. links_keep ls h s c lt u b.1 ∙ e')

    form_keeps : (f : Form) (h : ℕ) (s : Scope) (g : Gone) → r < h → Unnamed s → Still (form_changes local f) → Keeps g (form_after f h s g)
    form_keeps (branch at c b es) h s g lt u t =
        let x = still_parts (expr_changes local c || block_changes local b) (elses_change local es) t in
        let y = still_parts (expr_changes local c) (block_changes local b) x.0 in
        then_keeps g (expr_after c h s g) (λ now. met g (block_after b (h + 1) s now) (elses_after es g h s now)) (expr_keeps c h s g lt u y.0)
        (λ now e. met_keeps g g (block_after b (h + 1) s now) (elses_after es g h s now) refl (block_keeps b (h + 1) s now (omega (arith, lt)) u y.1 ∙ e) (elses_keep es g h s now lt u x.1 (sym e) ∙ e))
    form_keeps (pure at b) h s g lt u t = block_keeps b (h + 1) s g (omega (arith, lt)) u t
    form_keeps (parallel_range at n a e b) h s g lt u t = refl
    form_keeps (parallel_each at n e b) h s g lt u t = refl

    elses_keep : (es : Elses) (before : Gone) (h : ℕ) (s : Scope) (g : Gone) → r < h → Unnamed s → Still (elses_change local es) → is_gone r before ≡ is_gone r g → Keeps g (elses_after es before h s g)
    elses_keep no_else before h s g lt u t e = refl
    elses_keep (otherwise b) before h s g lt u t e = block_keeps b (h + 1) s g (omega (arith, lt)) u t
    elses_keep (more_elses (else_if at c b) es) before h s g lt u t e =
        let x = still_parts (expr_changes local c || block_changes local b) (elses_change local es) t in
        let y = still_parts (expr_changes local c) (block_changes local b) x.0 in
        then_keeps g (expr_after c h s g) (λ g. met before (block_after b (h + 1) s g) (elses_after es before h s g)) (expr_keeps c h s g lt u y.0)
        (λ now e'. met_keeps g before (block_after b (h + 1) s now) (elses_after es before h s now) e (block_keeps b (h + 1) s now (omega (arith, lt)) u y.1 ∙ e') (elses_keep es before h s now lt u x.1 (e ∙ sym e') ∙ e'))

    pub block_keeps : (b : Block) (h : ℕ) (s : Scope) (g : Gone) → r < h → Unnamed s → Still (block_changes local b) → Keeps g (block_after b h s g)
    block_keeps (block at end x ss) h s g lt u t = stmts_keep ss h s g lt u t

    stmts_keep : (ss : Stmts) (h : ℕ) (s : Scope) (g : Gone) → r < h → Unnamed s → Still (stmts_change local ss) → Keeps g (stmts_after ss h s g)
    stmts_keep no_stmts h s g lt u t = refl
    stmts_keep (last e) h s g lt u t = expr_keeps e h s g lt u t
    stmts_keep (more_stmts (declare n x e) ss) h s g lt u t =
        let b = still_parts (expr_changes local e) (stmts_change local ss) t in
        then_keeps g (expr_after e h s g) (λ g. stmts_after ss (h + 1) (entry n.name.0 h (gives_of x) ∷ s) (without h g)) (expr_keeps e h s g lt u b.0)
        (λ c e'. stmts_keep ss (h + 1) (entry n.name.0 h (gives_of x) ∷ s) (without h c) (omega (arith, lt)) (unnamed_push (entry n.name.0 h (gives_of x)) s (away h lt) u) b.1 ∙ dropped h c lt ∙ e')
    stmts_keep (more_stmts (destructure at ns xs e) ss) h s g lt u t =
        let b = still_parts (expr_changes local e) (stmts_change local ss) t in
        then_keeps g (expr_after e h s g) (λ g. locals_after (numbers_of ns) (all_gives xs) h s g (λ h s g. stmts_after ss h s g)) (expr_keeps e h s g lt u b.0)
        (λ c e'. locals_keep (numbers_of ns) (all_gives xs) h s c (λ h s g. stmts_after ss h s g) lt u (λ h s c lt u. stmts_keep ss h s c lt u b.1) ∙ e')
    stmts_keep (more_stmts (return_nothing at) ss) h s g lt u t =
        let b' = still_parts (stmt_changes local (return_nothing at)) (stmts_change local ss) t in then_keeps g (stmt_after (return_nothing at) h s g) (λ g. stmts_after ss h s g) (stmt_keeps (return_nothing at) h s g lt u b'.0) (λ c e'. stmts_keep ss h s c lt u b'.1 ∙ e')
    stmts_keep (more_stmts (return_value at e) ss) h s g lt u t =
        let b' = still_parts (stmt_changes local (return_value at e)) (stmts_change local ss) t in then_keeps g (stmt_after (return_value at e) h s g) (λ g. stmts_after ss h s g) (stmt_keeps (return_value at e) h s g lt u b'.0) (λ c e'. stmts_keep ss h s c lt u b'.1 ∙ e')
    stmts_keep (more_stmts (while at c1 b) ss) h s g lt u t =
        let b' = still_parts (stmt_changes local (while at c1 b)) (stmts_change local ss) t in then_keeps g (stmt_after (while at c1 b) h s g) (λ g. stmts_after ss h s g) (stmt_keeps (while at c1 b) h s g lt u b'.0) (λ c e'. stmts_keep ss h s c lt u b'.1 ∙ e')
    stmts_keep (more_stmts (foreach at n a e b) ss) h s g lt u t =
        let b' = still_parts (stmt_changes local (foreach at n a e b)) (stmts_change local ss) t in then_keeps g (stmt_after (foreach at n a e b) h s g) (λ g. stmts_after ss h s g) (stmt_keeps (foreach at n a e b) h s g lt u b'.0) (λ c e'. stmts_keep ss h s c lt u b'.1 ∙ e')
    stmts_keep (more_stmts (form_stmt f) ss) h s g lt u t =
        let b' = still_parts (stmt_changes local (form_stmt f)) (stmts_change local ss) t in then_keeps g (stmt_after (form_stmt f) h s g) (λ g. stmts_after ss h s g) (stmt_keeps (form_stmt f) h s g lt u b'.0) (λ c e'. stmts_keep ss h s c lt u b'.1 ∙ e')
    stmts_keep (more_stmts (express e) ss) h s g lt u t =
        let b' = still_parts (stmt_changes local (express e)) (stmts_change local ss) t in then_keeps g (stmt_after (express e) h s g) (λ g. stmts_after ss h s g) (stmt_keeps (express e) h s g lt u b'.0) (λ c e'. stmts_keep ss h s c lt u b'.1 ∙ e')

    stmt_keeps : (x : Stmt) (h : ℕ) (s : Scope) (g : Gone) → r < h → Unnamed s → Still (stmt_changes local x) → Keeps g (stmt_after x h s g)
    stmt_keeps (return_nothing at) h s g lt u t = refl
    stmt_keeps (return_value at e) h s g lt u t = ap (is_gone r) (none_run (expr_after e h s g)) ∙ expr_keeps e h s g lt u t
    stmt_keeps (while at c b) h s g lt u t = let x = still_parts (expr_changes local c) (block_changes local b) t in loop_keeps g (expr_after c h s g) (expr_keeps c h s g lt u x.0)
    stmt_keeps (foreach at n a e b) h s g lt u t =
        let x = still_parts (expr_changes local a || expr_changes local e) (block_changes local b) t in
        let y = still_parts (expr_changes local a) (expr_changes local e) x.0 in
        then_keeps g (expr_after a h s g) (λ g. expr_after e (h + 1) s g) (expr_keeps a h s g lt u y.0) (λ c e'. expr_keeps e (h + 1) s c (omega (arith, lt)) u y.1 ∙ e')
    stmt_keeps (form_stmt f) h s g lt u t = form_keeps f h s g lt u t
    stmt_keeps (express e) h s g lt u t = expr_keeps e h s g lt u t
    stmt_keeps (declare n x e) h s g lt u t = refl
    stmt_keeps (destructure at ns xs e) h s g lt u t = refl
