-- What is gone after a part that breaks no rule of ownership is what it moved: by induction on the typed tree.
use Rattle.std.proofs.Common.{◌≡◌, ℕ, ◌+◌, ◌-◌, ◌<◌, ◌≤◌, Bool, true, false, ◌&&◌, ◌||◌, List, [], ◌∷◌, ◌++◌, length, drop, Some, None, Option, refl, sym, ap, ◌∙◌, subst, arith, append_assoc}
use Rattle.std.proofs.lemmas.Bool.{and_parts}
use Rattle.std.proofs.Math.Seq.{drop-append_seam}
use Rattle.vale_base.specs.declared.spot.Spot.{Spot}
use Rattle.vale_syntax.specs.declared.tree.BinaryOp.{BinaryOp}
use Rattle.vale_syntax.specs.declared.tree.BinaryOp.TheVariants as op
use Rattle.vale_syntax.specs.declared.tree.NameAt.{NameAt}
use Rattle.vale_syntax.specs.declared.tree.UnaryOp.TheVariants as unary_op
use Rattle.vale_model.specs.Expressions.{numbers_of}
use Rattle.vale_rules_spec.specs.Judged.{broken, fault_of, own}
use Rattle.vale_rules_spec.specs.Owned.{still, add_branch, agree, link_rules, loop_rules, expr_flow, node_flow, exprs_flow, links_flow, step_flow, steps_flow, form_flow, elses_flow, block_flow, body_flow, stmts_flow, stmt_flow}
use Rattle.vale_rules_spec.specs.Returns.{block_returns}
use Rattle.vale_rules_spec.specs.Types.{Ty, View}
use Rattle.vale_rules_spec.specs.Typed.{Expr, expr, Node, set, chain, unary, steps, number, quote, truth, name, call, paren, array, iso, form, Exprs, no_exprs, more_exprs, link, Links, no_links, more_links, Step, field, method, index, Steps, no_steps, more_steps, Form, branch, pure, parallel_range, parallel_each, else_if, Elses, no_else, otherwise, more_elses, Block, block, Stmt, declare, destructure, return_nothing, return_value, while, foreach, form_stmt, express, Stmts, no_stmts, last, more_stmts, type}
use Rattle.vale_rules_spec.specs.Whole.{Local, Locals, declared, all_declared, is_whole, outer, are_alike}
use Rattle.vale_lowering_objects.specs.Changes.{step_changes}
use Rattle.vale_lowering_objects.specs.Lowered.{all_gives, locals_after, loop_after, link_after, step_view, stays_of, free_register, expr_after, node_after, start_after, step_after, steps_after, place_after, targets_after, args_after, links_after, form_after, elses_after, block_after, stmts_after, stmt_after}
use Rattle.vale_lowering_objects.specs.Scopes.{Gives, gives_of, is_owner, Scope, entry, waiting, find, Gone, without, After, comes, never, then_after, met}
use Rattle.vale_object_sure.proofs.Marks.{are_locals, expr_marks, node_marks, place_marks, exprs_mark, links_mark, step_marks, steps_mark, form_marks, elses_mark, block_marks, stmts_mark, stmt_marks}
use Rattle.vale_object_sure.proofs.Never.{block_never}
use Rattle.vale_object_sure.proofs.Ties.{Row, holds, rows, Falls, Kept, Fell, Goes, went_same, fell_same, went_fell, went_kept, fell_kept, goes_then, goes_no_more, gone_after, goes_fell, fell_length, falls_up, kept_push, kept_wait, goes_pop, goes_wait, goes_out, after_went, after_fell, fell_twice}
use Rattle.vale_object_sure.proofs.Ways.{Rest, rest_of, join, met_then, other_side, met_goes, agree_less, still_goes}

-- ---- faults

pub none_in : {A : Type 0} (xs ys : List A) → xs ++ ys ≡ [] → (xs ≡ []) × (ys ≡ [])
none_in [] ys e = (refl, e)
none_in (x ∷ xs) ys e = absurd (cc)

fault_none : (at : Spot) (o : Option ℕ) → fault_of at o ≡ [] → o ≡ None
fault_none at None e = refl
fault_none at (Some code) e = absurd (cc)

kept_first : (code : ℕ) (b : Bool) → broken ((code, b) ∷ []) ≡ None → b ≡ true
kept_first code true e = refl
kept_first code false e = absurd (cc)

-- a row of one rule that isn't broken
pub rule_holds : (at : Spot) (code : ℕ) (b : Bool) → own at ((code, b) ∷ []) ≡ [] → b ≡ true
rule_holds at code b e = kept_first code b (fault_none at (broken ((code, b) ∷ [])) e)

-- ---- blocks

-- the locals after statements, with those that they declared
abbrev pub Leaves : List Row → Gone → Locals → After → Locals → Type 0
Leaves rs g ls o r = (extra : Locals) × (ms : Locals) × (r ≡ extra ++ ms) × Goes rs g ls o ms

outer_is : (extra ls ms : Locals) → length ms ≡ length ls → outer ls (extra ++ ms) ≡ ms
outer_is extra ls ms e = ap (λ n. drop (length (extra ++ ms) - n) (extra ++ ms)) (sym e) ∙ drop_end extra ms
  where
    drop_end : (extra ms : Locals) → drop (length (extra ++ ms) - length ms) (extra ++ ms) ≡ ms
    drop_end extra ms = ap (λ n. drop n (extra ++ ms)) (many extra ms) ∙ drop-append_seam extra ms
      where
        long : (extra ms : Locals) → length (extra ++ ms) ≡ length extra + length ms
        long [] ms = omega arith
        long (x ∷ extra) ms = let h = long extra ms in omega (arith, h)

        many : (extra ms : Locals) → length (extra ++ ms) - length ms ≡ length extra
        many extra ms = let h = long extra ms in omega (arith, h)

pub leaves_block : (rs : List Row) (g : Gone) (ls r : Locals) (o : After) → Leaves rs g ls o r → Goes rs g ls o (outer ls r)
leaves_block rs g ls r o k =
    let many = fell_length rs (gone_after o) ls k.1 (goes_fell rs g ls k.1 o k.3) in
    subst (λ l. Goes rs g ls o l) (sym (ap (outer ls) k.2 ∙ outer_is k.0 ls k.1 many)) k.3

leaves_then : (rs : List Row) (g : Gone) (ls ms r : Locals) (o : After) (f : Gone → After) → Goes rs g ls o ms → ((g' : Gone) → Kept rs g' ms → Leaves rs g' ms (f g') r) → Leaves rs g ls (then_after o f) r
leaves_then rs g ls ms r (comes g1) f j go = let k = go g1 (went_kept rs g g1 ls ms j) in (k.0, k.1, k.2, after_went rs g g1 ls ms k.1 (f g1) j k.3)
leaves_then rs g ls ms r (never g1) f j go = let k = go g1 (fell_kept rs g1 ls ms j) in (k.0, k.1, k.2, after_fell rs g g1 ls ms k.1 (f g1) j k.3)

pub leaves_pop : (rs : List Row) (h n : ℕ) (owned : Bool) (g : Gone) (l : Local) (ls r : Locals) (o : After) → Falls h rs → Leaves (holds n h owned ∷ rs) (without h g) (l ∷ ls) o r → Leaves rs g ls o r
leaves_pop rs h n owned g l ls r o f k =
    let p = goes_pop rs h n owned g l ls k.1 o f k.3 in
    (k.0 ++ p.0 ∷ [], p.1, k.2 ∙ ap (λ z. k.0 ++ z) p.2 ∙ sym (append_assoc k.0 (p.0 ∷ []) p.1), p.3)

above : (h : ℕ) → h < h + 1
above h = omega arith

-- ---- single nodes

pub free_above : (b : Bool) (h : ℕ) → h ≤ free_register b h
free_above true h = omega arith
free_above false h = omega arith

pub link_goes : (o : BinaryOp) (rs : List Row) (h : ℕ) (at : Spot) (g : Gone) (us ms : Locals) (f : ℕ → Gone → After) → Kept rs g us → ((k : ℕ) → h ≤ k → Goes rs g us (f k g) ms) → own at (link_rules o us ms) ≡ [] → Goes rs g us (link_after o f h g) ms
link_goes op.Or rs h at g us ms f k go c = still_goes rs g (gone_after (f h g)) us ms k (goes_fell rs g us ms (f h g) (go h (omega arith))) (rule_holds at 31 (are_alike us ms) c)
link_goes op.And rs h at g us ms f k go c = still_goes rs g (gone_after (f h g)) us ms k (goes_fell rs g us ms (f h g) (go h (omega arith))) (rule_holds at 31 (are_alike us ms) c)
link_goes o rs h at g us ms f k go c = go (h + 1) (omega arith)

loop_goes : (rs : List Row) (g : Gone) (ls ms : Locals) (o : After) → Kept rs g ls → Goes rs g ls o ms → are_alike ls ms ≡ true → Goes rs g ls (loop_after g o) ms
loop_goes rs g ls ms (comes g') k j a = still_goes rs g g' ls ms k (went_fell rs g g' ls ms j) a
loop_goes rs g ls ms (never g') k j a = j

-- a statement that declares nothing
abbrev pub Plain : Stmt → Type 0
Plain (declare n x e) = ⊥
Plain (destructure at ns xs e) = ⊥
Plain _ = Unit {0}

-- several locals, and what runs in their scope
locals_leave : (ns : List NameAt) (xs : List Ty) (h : ℕ) (s : Scope) (g : Gone) (ls : Locals) (rest : ℕ → Scope → Gone → After) (C : Locals → Type 0) (end : Locals → Locals) → are_locals ns xs → Falls h (rows s) → Kept (rows s) g ls → C (all_declared ns ls)
    → ((h : ℕ) (s : Scope) (g : Gone) (ls : Locals) → Falls h (rows s) → Kept (rows s) g ls → C ls → Leaves (rows s) g ls (rest h s g) (end ls)) → Leaves (rows s) g ls (locals_after (numbers_of ns) (all_gives xs) h s g rest) (end (all_declared ns ls))
locals_leave [] [] h s g ls rest C end a f k c go = go h s g ls f k c
locals_leave [] (x ∷ xs) h s g ls rest C end a f k c go = absurd a
locals_leave (n ∷ ns) [] h s g ls rest C end a f k c go = absurd a
locals_leave (n ∷ ns) (x ∷ xs) h s g ls rest C end a f k c go =
    leaves_pop (rows s) h n.name.0 (is_owner (gives_of x)) g (record { name = n.name.0; whole = true }) ls (end (all_declared ns (declared n ls))) (locals_after (numbers_of ns) (all_gives xs) (h + 1) (entry n.name.0 h (gives_of x) ∷ s) (without h g) rest) f
    (locals_leave ns xs (h + 1) (entry n.name.0 h (gives_of x) ∷ s) (without h g) (declared n ls) rest C end a.1 (above h, f) (kept_push (rows s) h g ls n (is_owner (gives_of x)) f k) c go)

-- ---- by induction on the tree

mutual
  pub expr_goes : (e : Expr) (used : Bool) (h : ℕ) (s : Scope) (g : Gone) (ls : Locals) → expr_marks used e → Falls h (rows s) → Kept (rows s) g ls → (expr_flow e ls).faults ≡ [] → Goes (rows s) g ls (expr_after e h s g) (expr_flow e ls).after
  expr_goes (expr x node) used h s g ls m f k c = node_goes node used x.value h s g ls m f k c

  pub node_goes : (node : Node) (used : Bool) (x : Ty) (h : ℕ) (s : Scope) (g : Gone) (ls : Locals) → node_marks used x node → Falls h (rows s) → Kept (rows s) g ls → (node_flow node ls).faults ≡ [] → Goes (rows s) g ls (node_after node h s g) (node_flow node ls).after
  node_goes (name n is_outer true) used x h s g ls m f k c = goes_out s h n.name.0 g ls f k (rule_holds n.at 30 (is_whole n.name.0 ls) c)
  node_goes (name n is_outer false) used x h s g ls m f k c = went_same (rows s) g ls k
  node_goes (number at n) used x h s g ls m f k c = went_same (rows s) g ls k
  node_goes (quote at text) used x h s g ls m f k c = went_same (rows s) g ls k
  node_goes (truth at b) used x h s g ls m f k c = went_same (rows s) g ls k
  node_goes (paren at e) used x h s g ls m f k c = expr_goes e true h s g ls m f k c
  node_goes (chain e xs) used x h s g ls m f k c =
      let parts = none_in (expr_flow e ls).faults (links_flow xs (expr_flow e ls).after).faults c in
      goes_then (rows s) g ls (expr_flow e ls).after (links_flow xs (expr_flow e ls).after).after (expr_after e h s g) (λ g. links_after xs h s g) (expr_goes e true h s g ls m.1 f k parts.0)
      (λ g' k'. links_go xs h s g' (expr_flow e ls).after m.2 f k' parts.1)
  node_goes (unary at unary_op.Minus e) used x h s g ls m f k c = expr_goes e true h s g ls m f k c
  node_goes (unary at unary_op.Not e) used x h s g ls m f k c = expr_goes e true h s g ls m f k c
  node_goes (unary at unary_op.Borrow e) used x h s g ls m f k c = expr_goes e false h s g ls m.1 f k c
  node_goes (unary at unary_op.Merge e) used x h s g ls m f k c = absurd m
  node_goes (call n callee es) used x h s g ls m f k c = args_go es h s g ls m.3 f k c
  node_goes (array at y es) used x h s g ls m f k c = args_go es h s g ls m.2 f k c
  node_goes (form v) used x h s g ls m f k c = form_goes v h s g ls m f k c
  node_goes (set at p e) used x h s g ls m f k c =
      let parts = none_in (expr_flow p (expr_flow e ls).after).faults (expr_flow e ls).faults c in
      goes_then (rows s) g ls (expr_flow e ls).after (expr_flow p (expr_flow e ls).after).after (expr_after e h s g) (λ g. place_after p (gives_of (type e)) h s g) (expr_goes e true h s g ls m.2 f k parts.1)
      (λ g' k'. place_goes p (gives_of (type e)) h s g' (expr_flow e ls).after m.0 f k' parts.0)
  node_goes (steps e no_steps) used x h s g ls m f k c = absurd m
  node_goes (steps e (more_steps y ys)) used x h s g ls m f k c =
      let us = (expr_flow e ls).after in
      let vs = (step_flow y us).after in
      let parts = none_in (expr_flow e ls).faults ((step_flow y us).faults ++ (steps_flow ys vs).faults) c in
      let more = none_in (step_flow y us).faults (steps_flow ys vs).faults parts.1 in
      goes_then (rows s) g ls vs (steps_flow ys vs).after (start_after e (step_view y) (λ n. step_changes n y) h s g (λ k g. step_after y k s g)) (λ g. steps_after ys h s g)
      (start_goes e (step_view y) (λ n. step_changes n y) h s g ls (λ k g. step_after y k s g) vs m.1 f k parts.0 (λ i g' le k'. step_goes y i s g' us m.2 (falls_up (rows s) h i le f) k' more.0))
      (λ g' k'. steps_go ys h s g' vs m.3 f k' more.1)
  node_goes (iso at b) used x h s g ls m f k c = absurd m

  pub start_goes : (e : Expr) (v : View) (changes : ℕ → Bool) (h : ℕ) (s : Scope) (g : Gone) (ls : Locals) (rest : ℕ → Gone → After) (ms : Locals) → expr_marks false e → Falls h (rows s) → Kept (rows s) g ls → (expr_flow e ls).faults ≡ []
      → ((k : ℕ) (g' : Gone) → h ≤ k → Kept (rows s) g' (expr_flow e ls).after → Goes (rows s) g' (expr_flow e ls).after (rest k g') ms) → Goes (rows s) g ls (start_after e v changes h s g rest) ms
  start_goes (expr y (name n is_outer false)) v changes h s g ls rest ms m f k c go =
      let stays = stays_of (find n.name.0 s) v (changes n.name.0) in
      go (free_register stays h) g (free_above stays h) k
  start_goes (expr y node) v changes h s g ls rest ms m f k c go =
      goes_then (rows s) g ls (node_flow node ls).after ms (node_after node h s g) (λ g. rest (h + 1) g) (node_goes node false y.value h s g ls m f k c) (λ g' k'. go (h + 1) g' (omega arith) k')

  pub step_goes : (x : Step) (i : ℕ) (s : Scope) (g : Gone) (ls : Locals) → step_marks x → Falls i (rows s) → Kept (rows s) g ls → (step_flow x ls).faults ≡ [] → Goes (rows s) g ls (step_after x i s g) (step_flow x ls).after
  step_goes (field y v may_be_set at n) i s g ls m f k c = went_same (rows s) g ls k
  step_goes (method y v at n es) i s g ls m f k c = absurd m
  step_goes (index y v at e) i s g ls m f k c = expr_goes e true i s g ls m f k c

  pub steps_go : (xs : Steps) (h : ℕ) (s : Scope) (g : Gone) (ls : Locals) → steps_mark xs → Falls h (rows s) → Kept (rows s) g ls → (steps_flow xs ls).faults ≡ [] → Goes (rows s) g ls (steps_after xs h s g) (steps_flow xs ls).after
  steps_go no_steps h s g ls m f k c = went_same (rows s) g ls k
  steps_go (more_steps x xs) h s g ls m f k c =
      let us = (step_flow x ls).after in
      let parts = none_in (step_flow x ls).faults (steps_flow xs us).faults c in
      goes_then (rows s) g ls us (steps_flow xs us).after (step_after x (h + 1) s g) (λ g. steps_after xs h s g) (step_goes x (h + 1) s g ls m.0 (falls_up (rows s) h (h + 1) (omega arith) f) k parts.0) (λ g' k'. steps_go xs h s g' us m.1 f k' parts.1)

  pub place_goes : (p : Expr) (q : Gives) (h : ℕ) (s : Scope) (g : Gone) (ls : Locals) → place_marks p → Falls h (rows s) → Kept (rows s) g ls → (expr_flow p ls).faults ≡ [] → Goes (rows s) g ls (place_after p q h s g) (expr_flow p ls).after
  place_goes (expr x (name n is_outer false)) q h s g ls m f k c = went_same (rows s) g ls k
  place_goes (expr x (name n is_outer true)) q h s g ls m f k c = absurd (cc)
  place_goes (expr x (steps e no_steps)) q h s g ls m f k c = absurd m
  place_goes (expr x (steps e (more_steps y no_steps))) q h s g ls m f k c =
      let us = (expr_flow e ls).after in
      let parts = none_in (expr_flow e ls).faults ((step_flow y us).faults ++ []) c in
      let one = none_in (step_flow y us).faults [] parts.1 in
      goes_wait (rows s) h g ls (step_flow y us).after (start_after e (step_view y) (λ n. step_changes n y) (h + 1) (waiting h q ∷ s) (without h g) (λ k g. step_after y k (waiting h q ∷ s) g)) f
      (start_goes e (step_view y) (λ n. step_changes n y) (h + 1) (waiting h q ∷ s) (without h g) ls (λ k g. step_after y k (waiting h q ∷ s) g) (step_flow y us).after m.0 (above h, f) (kept_wait (rows s) h g ls f k) parts.0
      (λ i g' le k'. step_goes y i (waiting h q ∷ s) g' us m.1 (falls_up (rows (waiting h q ∷ s)) (h + 1) i le (above h, f)) k' one.0))
  place_goes (expr x (steps e (more_steps y (more_steps z zs)))) q h s g ls m f k c =
      let us = (expr_flow e ls).after in
      let vs = (step_flow y us).after in
      let ws = (steps_flow (more_steps z zs) vs).after in
      let parts = none_in (expr_flow e ls).faults ((step_flow y us).faults ++ (steps_flow (more_steps z zs) vs).faults) c in
      let more = none_in (step_flow y us).faults (steps_flow (more_steps z zs) vs).faults parts.1 in
      let scope = waiting h q ∷ s in
      goes_wait (rows s) h g ls ws (place_after (expr x (steps e (more_steps y (more_steps z zs)))) q h s g) f
      (goes_then (rows scope) (without h g) ls vs ws (start_after e (step_view y) (λ n. step_changes n y) (h + 1) scope (without h g) (λ k g. step_after y k scope g)) (λ g. targets_after (more_steps z zs) (h + 1) scope g)
      (start_goes e (step_view y) (λ n. step_changes n y) (h + 1) scope (without h g) ls (λ k g. step_after y k scope g) vs m.0 (above h, f) (kept_wait (rows s) h g ls f k) parts.0
      (λ i g' le k'. step_goes y i scope g' us m.1 (falls_up (rows scope) (h + 1) i le (above h, f)) k' more.0))
      (λ g' k'. targets_go (more_steps z zs) (h + 1) scope g' vs m.2 (above h, f) k' more.1))
  place_goes (expr x node) q h s g ls m f k c = absurd m

  pub targets_go : (xs : Steps) (h : ℕ) (s : Scope) (g : Gone) (ls : Locals) → steps_mark xs → Falls h (rows s) → Kept (rows s) g ls → (steps_flow xs ls).faults ≡ [] → Goes (rows s) g ls (targets_after xs h s g) (steps_flow xs ls).after
  targets_go no_steps h s g ls m f k c = went_same (rows s) g ls k
  targets_go (more_steps x no_steps) h s g ls m f k c =
      let parts = none_in (step_flow x ls).faults [] c in
      step_goes x (h + 1) s g ls m.0 (falls_up (rows s) h (h + 1) (omega arith) f) k parts.0
  targets_go (more_steps x (more_steps z zs)) h s g ls m f k c =
      let us = (step_flow x ls).after in
      let parts = none_in (step_flow x ls).faults (steps_flow (more_steps z zs) us).faults c in
      goes_then (rows s) g ls us (steps_flow (more_steps z zs) us).after (step_after x (h + 1) s g) (λ g. targets_after (more_steps z zs) h s g) (step_goes x (h + 1) s g ls m.0 (falls_up (rows s) h (h + 1) (omega arith) f) k parts.0)
      (λ g' k'. targets_go (more_steps z zs) h s g' us m.1 f k' parts.1)

  pub args_go : (es : Exprs) (h : ℕ) (s : Scope) (g : Gone) (ls : Locals) → exprs_mark es → Falls h (rows s) → Kept (rows s) g ls → (exprs_flow es ls).faults ≡ [] → Goes (rows s) g ls (args_after es h s g) (exprs_flow es ls).after
  args_go no_exprs h s g ls m f k c = went_same (rows s) g ls k
  args_go (more_exprs e es) h s g ls m f k c =
      let us = (expr_flow e ls).after in
      let parts = none_in (expr_flow e ls).faults (exprs_flow es us).faults c in
      goes_then (rows s) g ls us (exprs_flow es us).after (expr_after e h s g) (λ g. args_after es (h + 1) (waiting h (gives_of (type e)) ∷ s) (without h g)) (expr_goes e true h s g ls m.0 f k parts.0)
      (λ g' k'. goes_wait (rows s) h g' us (exprs_flow es us).after (args_after es (h + 1) (waiting h (gives_of (type e)) ∷ s) (without h g')) f
      (args_go es (h + 1) (waiting h (gives_of (type e)) ∷ s) (without h g') us m.1 (above h, f) (kept_wait (rows s) h g' us f k') parts.1))

  pub links_go : (xs : Links) (h : ℕ) (s : Scope) (g : Gone) (ls : Locals) → links_mark xs → Falls h (rows s) → Kept (rows s) g ls → (links_flow xs ls).faults ≡ [] → Goes (rows s) g ls (links_after xs h s g) (links_flow xs ls).after
  links_go no_links h s g ls m f k c = went_same (rows s) g ls k
  links_go (more_links (link x at o e) xs) h s g ls m f k c =
      let us = (expr_flow e ls).after in
      let parts = none_in ((expr_flow e ls).faults ++ own at (link_rules o ls us)) (links_flow xs us).faults c in
      let one = none_in (expr_flow e ls).faults (own at (link_rules o ls us)) parts.0 in
      goes_then (rows s) g ls us (links_flow xs us).after (link_after o (λ h g. expr_after e h s g) h g) (λ g. links_after xs h s g)
      (link_goes o (rows s) h at g ls us (λ h g. expr_after e h s g) k (λ i le. expr_goes e true i s g ls m.0 (falls_up (rows s) h i le f) k one.0) one.1) (λ g' k'. links_go xs h s g' us m.1 f k' parts.1)

  pub form_goes : (v : Form) (h : ℕ) (s : Scope) (g : Gone) (ls : Locals) → form_marks v → Falls h (rows s) → Kept (rows s) g ls → (form_flow v ls).faults ≡ [] → Goes (rows s) g ls (form_after v h s g) (form_flow v ls).after
  form_goes (branch at q b es) h s g ls m f k c =
      let us = (expr_flow q ls).after in
      let ms = (block_flow b us).after in
      let ws = (elses_flow es us).branches in
      let returns = block_returns b in
      let one = none_in (expr_flow q ls).faults ((block_flow b us).faults ++ ((elses_flow es us).faults ++ own at ((31, agree (add_branch returns ms ws)) ∷ []))) c in
      let two = none_in (block_flow b us).faults ((elses_flow es us).faults ++ own at ((31, agree (add_branch returns ms ws)) ∷ [])) one.1 in
      let three = none_in (elses_flow es us).faults (own at ((31, agree (add_branch returns ms ws)) ∷ [])) two.1 in
      let alike = rule_holds at 31 (agree (add_branch returns ms ws)) three.1 in
      let goes = expr_goes q true h s g ls m.0 f k one.0 in
      met_goes (rows s) g ls (add_branch returns ms ws) (form_after (branch at q b es) h s g)
      (met_then (rows s) g ls k g g ls us (add_branch returns ms ws) (expr_after q h s g) (λ now. met g (block_after b (h + 1) s now) (elses_after es g h s now)) (fell_same (rows s) g ls k) goes
      (λ now k'.
      join (rows s) g ls k now (gone_after (expr_after q h s g)) us ms returns ws (block_after b (h + 1) s now) (elses_after es g h s now) (goes_fell (rows s) g ls us (expr_after q h s g) goes) (λ r. block_never b (h + 1) s now r)
      (block_goes b (h + 1) s now us m.1 (falls_up (rows s) h (h + 1) (omega arith) f) k' two.0)
      (elses_go es g ls (gone_after (expr_after q h s g)) h s now us m.2 f k (goes_fell (rows s) g ls us (expr_after q h s g) goes) k' three.0 (agree_less returns ms ws alike)) alike))
  form_goes (pure at b) h s g ls m f k c = absurd m
  form_goes (parallel_range at n a e b) h s g ls m f k c = absurd m
  form_goes (parallel_each at n e b) h s g ls m f k c = absurd m

  pub elses_go : (es : Elses) (gone : Gone) (before : Locals) (z : Gone) (h : ℕ) (s : Scope) (g : Gone) (ls : Locals) → elses_mark es → Falls h (rows s) → Kept (rows s) gone before → Fell (rows s) before z ls → Kept (rows s) g ls → (elses_flow es ls).faults ≡ [] → agree (elses_flow es ls).branches ≡ true
      → Rest (rows s) g ls gone before (elses_flow es ls).branches (elses_after es gone h s g)
  elses_go no_else gone before z h s g ls m f b fell k c a = (ls, [], refl, went_same (rows s) g ls k)
  elses_go (otherwise b) gone before z h s g ls m f kept fell k c a =
      other_side (rows s) gone before kept g z ls (block_flow b ls).after (block_returns b) (block_after b (h + 1) s g) fell (λ r. block_never b (h + 1) s g r) (block_goes b (h + 1) s g ls m (falls_up (rows s) h (h + 1) (omega arith) f) k c)
  elses_go (more_elses (else_if at q b) es) gone before z h s g ls m f kept fell k c a =
      let us = (expr_flow q ls).after in
      let ms = (block_flow b us).after in
      let ws = (elses_flow es us).branches in
      let returns = block_returns b in
      let one = none_in (expr_flow q ls).faults ((block_flow b us).faults ++ (elses_flow es us).faults) c in
      let two = none_in (block_flow b us).faults (elses_flow es us).faults one.1 in
      let goes = expr_goes q true h s g ls m.0 f k one.0 in
      rest_of (rows s) gone before kept g ls (add_branch returns ms ws) (elses_after (more_elses (else_if at q b) es) gone h s g)
      (met_then (rows s) gone before kept g z ls us (add_branch returns ms ws) (expr_after q h s g) (λ g. met gone (block_after b (h + 1) s g) (elses_after es gone h s g)) fell goes
      (λ now k'.
      let since = fell_twice (rows s) z (gone_after (expr_after q h s g)) before ls us fell (goes_fell (rows s) g ls us (expr_after q h s g) goes) in
      join (rows s) gone before kept now (gone_after (expr_after q h s g)) us ms returns ws (block_after b (h + 1) s now) (elses_after es gone h s now) since (λ r. block_never b (h + 1) s now r)
      (block_goes b (h + 1) s now us m.1 (falls_up (rows s) h (h + 1) (omega arith) f) k' two.0) (elses_go es gone before (gone_after (expr_after q h s g)) h s now us m.2 f kept since k' two.1 (agree_less returns ms ws a)) a))

  pub block_goes : (b : Block) (h : ℕ) (s : Scope) (g : Gone) (ls : Locals) → block_marks b → Falls h (rows s) → Kept (rows s) g ls → (block_flow b ls).faults ≡ [] → Goes (rows s) g ls (block_after b h s g) (block_flow b ls).after
  block_goes (block at end x ss) h s g ls m f k c = leaves_block (rows s) g ls (stmts_flow ss ls).after (stmts_after ss h s g) (stmts_go ss h s g ls m f k c)

  pub stmts_go : (ss : Stmts) (h : ℕ) (s : Scope) (g : Gone) (ls : Locals) → stmts_mark ss → Falls h (rows s) → Kept (rows s) g ls → (stmts_flow ss ls).faults ≡ [] → Leaves (rows s) g ls (stmts_after ss h s g) (stmts_flow ss ls).after
  stmts_go no_stmts h s g ls m f k c = ([], ls, refl, went_same (rows s) g ls k)
  stmts_go (last e) h s g ls m f k c = ([], (expr_flow e ls).after, refl, expr_goes e true h s g ls m f k c)
  stmts_go (more_stmts (declare n x e) ss) h s g ls m f k c =
      let us = (expr_flow e ls).after in
      let parts = none_in (expr_flow e ls).faults (stmts_flow ss (declared n us)).faults c in
      leaves_then (rows s) g ls us (stmts_flow ss (declared n us)).after (expr_after e h s g) (λ g. stmts_after ss (h + 1) (entry n.name.0 h (gives_of x) ∷ s) (without h g)) (expr_goes e true h s g ls m.0.1 f k parts.0)
      (λ g' k'. leaves_pop (rows s) h n.name.0 (is_owner (gives_of x)) g' (record { name = n.name.0; whole = true }) us (stmts_flow ss (declared n us)).after (stmts_after ss (h + 1) (entry n.name.0 h (gives_of x) ∷ s) (without h g')) f
      (stmts_go ss (h + 1) (entry n.name.0 h (gives_of x) ∷ s) (without h g') (declared n us) m.1 (above h, f) (kept_push (rows s) h g' us n (is_owner (gives_of x)) f k') parts.1))
  stmts_go (more_stmts (destructure at ns xs e) ss) h s g ls m f k c =
      let us = (expr_flow e ls).after in
      let parts = none_in (expr_flow e ls).faults (stmts_flow ss (all_declared ns us)).faults c in
      leaves_then (rows s) g ls us (stmts_flow ss (all_declared ns us)).after (expr_after e h s g) (λ g. locals_after (numbers_of ns) (all_gives xs) h s g (λ h s g. stmts_after ss h s g)) (expr_goes e true h s g ls m.0.1 f k parts.0)
      (λ g' k'. locals_leave ns xs h s g' us (λ h s g. stmts_after ss h s g) (λ l. (stmts_flow ss l).faults ≡ []) (λ l. (stmts_flow ss l).after) m.0.0 f k' parts.1 (λ h s g ls f k c. stmts_go ss h s g ls m.1 f k c))
  stmts_go (more_stmts x ss) h s g ls m f k c =
      let us = (stmt_flow x ls).after in
      let parts = none_in (stmt_flow x ls).faults (stmts_flow ss us).faults c in
      leaves_then (rows s) g ls us (stmts_flow ss us).after (stmt_after x h s g) (λ g. stmts_after ss h s g) (stmt_goes x h s g ls tt m.0 f k parts.0) (λ g' k'. stmts_go ss h s g' us m.1 f k' parts.1)

  pub stmt_goes : (x : Stmt) (h : ℕ) (s : Scope) (g : Gone) (ls : Locals) → Plain x → stmt_marks x → Falls h (rows s) → Kept (rows s) g ls → (stmt_flow x ls).faults ≡ [] → Goes (rows s) g ls (stmt_after x h s g) (stmt_flow x ls).after
  stmt_goes (declare n x e) h s g ls p m f k c = absurd p
  stmt_goes (destructure at ns xs e) h s g ls p m f k c = absurd p
  stmt_goes (return_nothing at) h s g ls p m f k c = fell_same (rows s) g ls k
  stmt_goes (return_value at e) h s g ls p m f k c = goes_no_more (rows s) g ls (expr_flow e ls).after (expr_after e h s g) (expr_goes e true h s g ls m.1 f k c)
  stmt_goes (while at q b) h s g ls p m f k c =
      let us = (expr_flow q ls).after in
      let ms = (block_flow b us).after in
      let one = none_in (expr_flow q ls).faults ((block_flow b us).faults ++ own at (loop_rules ls (expr_flow q ls) (block_returns b) (block_flow b us))) c in
      let two = none_in (block_flow b us).faults (own at (loop_rules ls (expr_flow q ls) (block_returns b) (block_flow b us))) one.1 in
      let alike = and_parts (are_alike ls us) (block_returns b || are_alike us ms) (rule_holds at 32 (are_alike ls us && (block_returns b || are_alike us ms)) two.1) in
      loop_goes (rows s) g ls us (expr_after q h s g) k (expr_goes q true h s g ls m.0 f k one.0) alike.0
  stmt_goes (foreach at n a e b) h s g ls p m f k c =
      let us = (expr_flow a ls).after in
      let ms = (expr_flow e us).after in
      let one = none_in ((expr_flow a ls).faults ++ (expr_flow e us).faults) ([] ++ ((body_flow n b ms).faults ++ own at (loop_rules ms (still ms) (block_returns b) (body_flow n b ms)))) c in
      let two = none_in (expr_flow a ls).faults (expr_flow e us).faults one.0 in
      goes_then (rows s) g ls us ms (expr_after a h s g) (λ g. expr_after e (h + 1) s g) (expr_goes a true h s g ls m.0 f k two.0) (λ g' k'. expr_goes e true (h + 1) s g' us m.1 (falls_up (rows s) h (h + 1) (omega arith) f) k' two.1)
  stmt_goes (form_stmt v) h s g ls p m f k c = form_goes v h s g ls m f k c
  stmt_goes (express e) h s g ls p m f k c = expr_goes e true h s g ls m f k c
