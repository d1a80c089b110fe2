-- The code of each part of a program does what the part means: by induction on the tree.
use Rattle.std.proofs.Common.{◌≡◌, ◌≢◌, ℕ, suc, ℤ, ◌+◌, ◌<◌, ◌≤◌, List, [], ◌∷◌, ◌++◌, length, Option, Some, None, Bool, true, false, ◌&&◌, refl, sym, ap, subst, ◌⊎◌, inl, inr, arith, length-append}
use Rattle.std.specs.Prelude.{slice_get}
use Rattle.vale_state_spec.specs.State.{State}
use Rattle.vale_state_spec.specs.World.{Value, Int, Truth, Text}
use Rattle.vale_base.specs.declared.spot.Spot.{Spot}
use Rattle.vale_text.specs.Operations.{is_int}
use Rattle.vale_syntax.specs.declared.tree.NameAt.{NameAt}
use Rattle.vale_rules_spec.specs.Types.{Ty, void, is_copy, is_owned}
use Rattle.vale_rules_spec.specs.Typed.{Callee, built_in, constructor, function, Expr, expr, Node, set, chain, unary, steps, number, quote, truth, name, call, paren, array, iso, form, Exprs, no_exprs, more_exprs, link, Links, no_links, more_links, Form, branch, pure, parallel_range, parallel_each, else_if, Elses, no_else, otherwise, more_elses, Block, block, declare, destructure, return_nothing, return_value, while, foreach, form_stmt, express, Stmts, no_stmts, last, more_stmts, type}
use Rattle.vale_model.specs.Parts.{Parts}
use Rattle.vale_model.specs.Runs.{Locals, Result, goes, returned, ended, Run, then_do, the_value, valued, give, held_by, with_held, outer, innermost, while_waits}
use Rattle.vale_model.specs.Destruction.{Again, drop_owned, leave, with_local}
use Rattle.vale_model.specs.Expressions.{expr_run, node_run, exprs_run, links_run, link_run, set_run, form_run, elses_run, block_run, stmts_run, stmt_run, callee_run, iteration_body, expr_spot}
use Rattle.vale_code.specs.Instructions.{onward, with_choice}
use Rattle.vale_code.specs.Parts.{Parts as Code}
use Rattle.vale_code.specs.Registers.{Registers, put}
use Rattle.vale_code.specs.declared.instr.Instr.{Instr}
use Rattle.vale_code.specs.declared.instr.Instr.TheVariants as i
use Rattle.vale_lowering.specs.Instructions.{only_if, load, loop_code, count_code, link_code, unary_code}
use Rattle.vale_lowering.specs.Scopes.{Scope, entry, waiting, place_of, agree, Around, number_of_text}
use Rattle.vale_lowering.specs.Texts.{is_lawful_text}
use Rattle.vale_lowering.specs.Lowered.{count, callee_code, set_code, store_code, unused_code, expr_code, value_code, node_code, args_code, links_code, form_code, elses_code, block_code, stmts_code, stmt_code}
use Rattle.vale_lowering.proofs.Ranges.{IsLawful, lawful}
use Rattle.vale_lowering.proofs.Registers.{Base, with_at, with_all, Falls, falls_up, Agrees, agrees_dest, agrees_push, agrees_wait, agrees_done, all_stand, Fresh, fresh_above, top_read, one_above, meets, changes, innermost_plain}
use Rattle.vale_lowering.proofs.Reaches.{Where, active, conf, calls_in, IsIn, Post, Reaches, Fits, HasAt, Val, In, Put, Keeps, All, has_front, has_back, moves, wrongs, comes_reaches, then_reaches, ends_at, weaker, stays, is_stuck, only_if_runs, values, literal, free_on, jumps, leaves, leaves_void}
use Rattle.vale_lowering.proofs.Shapes.{if_runs, loop_tests, loop_test, copy_does, loads, stores, exchanges}
use Rattle.vale_lowering.proofs.Operators.{links, unaries}
use Rattle.vale_lowering.proofs.Counts.{count_runs}
use Rattle.vale_lowering.proofs.BuiltIns.{built_ins}
use Rattle.vale_lowering.proofs.Lookups.{text_or_none, agree_same}
use Rattle.vale_lowering.proofs.Drops.{drop_owned_plain, drop_fitting, leave_plain, in_fits, in_keeps, put_names, put_keeps, put_pop, put_in, in_put}
use Rattle.vale_lowering.proofs.Calls.{program_code, texts, around, Follows, call_runs}

and_first : (a b : Bool) → (a && b) ≡ true → a ≡ true
and_first true b e = refl
and_first false b e = e

and_second : (a b : Bool) → (a && b) ≡ true → b ≡ true
and_second true b e = e
and_second false b e = absurd (cc)

then_then : {A B C : Type 0} (r : Result A) (f : A → Locals → State → Result B) (g : B → Locals → State → Result C) → then_do (then_do r f) g ≡ then_do r (λ v l w. then_do (f v l w) g)
then_then (goes v l w) f g = refl
then_then (returned v w) f g = refl
then_then (ended e w) f g = refl

module _ (parts : Parts) (k : Where) (is : IsIn (program_code parts) k) (n : ℕ) (again : Again) (follows : Follows parts again n) where
  abbrev code : Code
  code = program_code parts

  abbrev a : Around
  a = around parts k.gives

  -- how parts run from a place on, up to the place after their code
  abbrev Runs : {A : Type 0} → List Instr → Post A → ℕ → Registers → State → Result A → Type 0
  Runs cs post p regs w r = HasAt code k.function p cs → Reaches code k n (p + length cs) post (conf k p regs w) r

  -- a value where one is wanted and may be
  given_if : (b gives : Bool) (cs : List Instr) (p h : ℕ) (s : Scope) (base : Base) (regs : Registers) (w : State) (r : Result (Option Value)) → (b ≡ true → gives ≡ true) → (b ≡ true → Runs cs (In true h s base) p regs w r) → Runs (only_if b h cs) (In gives h s base) p regs w r
  given_if b gives cs p h s base regs w r so run has =
      only_if_runs code k n b h p cs (In gives h s base) regs w r has
      (λ e has. subst (λ g. Reaches code k n (p + length cs) (In g h s base) (conf k p regs w) r) (sym (so e)) (run e has))

  -- a value where one is wanted
  given : (gives : Bool) (cs : List Instr) (p h : ℕ) (s : Scope) (base : Base) (regs : Registers) (w : State) (r : Result (Option Value)) → Runs cs (In true h s base) p regs w r → Runs (only_if gives h cs) (In gives h s base) p regs w r
  given gives cs p h s base regs w r run = given_if gives gives cs p h s base regs w r (λ e. e) (λ e. run)

  -- one part and then another
  joined : {A B : Type 0} (cs ds : List Instr) (post : Post A) (post' : Post B) (p : ℕ) (regs : Registers) (w : State) (r : Result A) (go : A → Locals → State → Result B) → Runs cs post p regs w r → ((v : A) (l : Locals) (w : State) (regs : Registers) → post v l regs → w.left ≤ n → Runs ds post' (p + length cs) regs w (go v l w)) → Runs (cs ++ ds) post' p regs w (then_do r go)
  joined cs ds post post' p regs w r go first second has =
      let len : p + length cs + length ds ≡ p + length (cs ++ ds) = omega (arith, length-append cs ds) in
      ends_at code k n _ _ post' (conf k p regs w) (then_do r go) len
      (then_reaches code k n (p + length cs) _ post post' (conf k p regs w) r go (first (has_front code k.function cs ds p has))
      (λ v l w regs ag few. second v l w regs ag few (has_back code k.function cs ds p has)))

  text_runs : (text : List ℕ) (p h : ℕ) (s : Scope) (base : Base) (l : Locals) (regs : Registers) (w : State) → Falls h s → Agrees h s l base regs → w.left ≤ n → IsLawful text → Runs (i.Text h (number_of_text text (texts parts)) ∷ []) (In true h s base) p regs w (goes (Some (Text text)) l w)
  text_runs text p h s base l regs w fa ag few pt has = by (text_or_none text (texts parts))
    where
      j : ℕ
      j = number_of_text text (texts parts)

      by : (slice_get (texts parts) j ≡ Some text) ⊎ (slice_get (texts parts) j ≡ None) → Reaches code k n (p + 1) (In true h s base) (conf k p regs w) (goes (Some (Text text)) l w)
      by (inl e) = literal code k n p h h s base base l regs w (i.Text h j) (Text text) fa (λ r lt. refl) (omega arith) ag few pt has.0 (ap (λ o. with_choice o w (λ t. onward (active k p regs) (put regs h (Some (Text t))) k.below w)) e)
      by (inr e) = wrongs code k n p (p + 1) (In true h s base) regs w (i.Text h j) (goes (Some (Text text)) l w) w None has.0 (ap (λ o. with_choice o w (λ t. onward (active k p regs) (put regs h (Some (Text t))) k.below w)) e)

  -- ---- the set of a local

  set_runs : (q : Expr) (owned : Bool) (v : Value) (p h : ℕ) (s : Scope) (base : Base) (l : Locals) (regs : Registers) (w : State) → Falls h s → Val h s base v l regs → w.left ≤ n → Runs (set_code q h s) (In true h s base) p regs w (while_waits owned v (set_run again v q) (calls_in k) l w)
  set_runs (expr x (name m is_outer moved)) owned v p h s base l regs w fa ag few has =
      exchanges code k n p h s base l (with_held m.name.0 (Some v) l) regs w v (place_of m.name.0 s) (held_by m.name.0 l)
      (λ u. then_do (then_do (then_do (the_value u (calls_in k) (record { name = None; value = Some v; owned = owned } ∷ l) w) (λ u l w. goes u (with_held m.name.0 (Some v) l) w)) (λ u. give (Some u) (calls_in k))) (λ r l w. goes r (outer l) w))
      fa ag few (meets m.name.0 h s l fa ag.1.names) (changes m.name.0 h v s l ag.0 fa ag.1.names) (λ u. refl) has
  set_runs (expr x (set at e q)) owned v p h s base l regs w fa ag few has = is_stuck code k n p (p + 1) h (In true h s base) regs w (while_waits owned v (set_run again v (expr x (set at e q))) (calls_in k) l w) has
  set_runs (expr x (chain e ls)) owned v p h s base l regs w fa ag few has = is_stuck code k n p (p + 1) h (In true h s base) regs w (while_waits owned v (set_run again v (expr x (chain e ls))) (calls_in k) l w) has
  set_runs (expr x (unary at op e)) owned v p h s base l regs w fa ag few has = is_stuck code k n p (p + 1) h (In true h s base) regs w (while_waits owned v (set_run again v (expr x (unary at op e))) (calls_in k) l w) has
  set_runs (expr x (steps e ss)) owned v p h s base l regs w fa ag few has = is_stuck code k n p (p + 1) h (In true h s base) regs w (while_waits owned v (set_run again v (expr x (steps e ss))) (calls_in k) l w) has
  set_runs (expr x (number at z)) owned v p h s base l regs w fa ag few has = is_stuck code k n p (p + 1) h (In true h s base) regs w (while_waits owned v (set_run again v (expr x (number at z))) (calls_in k) l w) has
  set_runs (expr x (quote at t)) owned v p h s base l regs w fa ag few has = is_stuck code k n p (p + 1) h (In true h s base) regs w (while_waits owned v (set_run again v (expr x (quote at t))) (calls_in k) l w) has
  set_runs (expr x (truth at b)) owned v p h s base l regs w fa ag few has = is_stuck code k n p (p + 1) h (In true h s base) regs w (while_waits owned v (set_run again v (expr x (truth at b))) (calls_in k) l w) has
  set_runs (expr x (call m f es)) owned v p h s base l regs w fa ag few has = is_stuck code k n p (p + 1) h (In true h s base) regs w (while_waits owned v (set_run again v (expr x (call m f es))) (calls_in k) l w) has
  set_runs (expr x (paren at e)) owned v p h s base l regs w fa ag few has = is_stuck code k n p (p + 1) h (In true h s base) regs w (while_waits owned v (set_run again v (expr x (paren at e))) (calls_in k) l w) has
  set_runs (expr x (array at t es)) owned v p h s base l regs w fa ag few has = is_stuck code k n p (p + 1) h (In true h s base) regs w (while_waits owned v (set_run again v (expr x (array at t es))) (calls_in k) l w) has
  set_runs (expr x (iso at b)) owned v p h s base l regs w fa ag few has = is_stuck code k n p (p + 1) h (In true h s base) regs w (while_waits owned v (set_run again v (expr x (iso at b))) (calls_in k) l w) has
  set_runs (expr x (form f)) owned v p h s base l regs w fa ag few has = is_stuck code k n p (p + 1) h (In true h s base) regs w (while_waits owned v (set_run again v (expr x (form f))) (calls_in k) l w) has

  -- ---- calls

  callee_runs : (gives : Bool) (m : NameAt) (f : Callee) (vs : List Value) (many p h : ℕ) (s : Scope) (base : Base) (l : Locals) (regs : Registers) (w : State) → Falls h s → All many h s base vs l regs → w.left ≤ n → Runs (callee_code a gives m f many h) (In gives h s base) p regs w (callee_run again m f vs (calls_in k) l w)
  callee_runs gives m f vs many p h s base l regs w fa ag few =
      subst (λ q. Runs (callee_code a gives m f q h) (In gives h s base) p regs w (callee_run again m f vs (calls_in k) l w)) ag.1
      (by f (subst (λ q. Agrees (h + q) s l (with_all h vs base) regs) (sym ag.1) ag.2))
    where
      by : (f : Callee) → Agrees (h + length vs) s l (with_all h vs base) regs → Runs (callee_code a gives m f (length vs) h) (In gives h s base) p regs w (callee_run again m f vs (calls_in k) l w)
      by (built_in b) here has = built_ins code k n again p h s base l regs w m.at fa few b vs gives ag.0 (all_stand s l vs h h (h + length vs) base regs fa (omega arith) (omega arith) here) here has
      by constructor here has = is_stuck code k n p (p + 1) h (In gives h s base) regs w (callee_run again m constructor vs (calls_in k) l w) has
      by (function is_pure) here has = call_runs parts k n again follows vs p h s base l regs w fa few ag.0 (all_stand s l vs h h (h + length vs) base regs fa (omega arith) (omega arith) here) here m gives has

  -- ---- blocks

  -- a block's value goes to its register
  hands : (cs : List Instr) (p d h : ℕ) (s : Scope) (base : Base) (regs : Registers) (w : State) (r : Result (Option Value)) → Falls h s → Fresh d s → Runs cs (In true h s base) p regs w r → Runs (cs ++ (i.Copy d h ∷ [])) (Put true d h s base) p regs w r
  hands cs p d h s base regs w r fa fr run has =
      as_it_is r (joined cs (i.Copy d h ∷ []) (In true h s base) (Put true d h s base) p regs w r (λ v l w. goes v l w) run by has)
    where
      as_it_is : (r : Result (Option Value)) → Reaches code k n (p + length (cs ++ (i.Copy d h ∷ []))) (Put true d h s base) (conf k p regs w) (then_do r (λ v l w. goes v l w)) → Reaches code k n (p + length (cs ++ (i.Copy d h ∷ []))) (Put true d h s base) (conf k p regs w) r
      as_it_is (goes v l w) x = x
      as_it_is (returned v w) x = x
      as_it_is (ended e w) x = x

      by : (v : Option Value) (l : Locals) (w : State) (regs : Registers) → In true h s base v l regs → w.left ≤ n → Runs (i.Copy d h ∷ []) (Put true d h s base) (p + length cs) regs w (goes v l w)
      by None l w regs ag few has = absurd ag
      by (Some v) l w regs ag few has =
          inr (
            put regs d (Some v),
            moves code k n (p + length cs) regs w (i.Copy d h) _ has.0 (copy_does code k n (p + length cs) d h regs w v ag.0 (top_read s l base h (h + 1) (Some v) regs fa (omega arith) ag.1)),
            (ag.0, agrees_dest s l base (with_at h (Some v) base) d h (h + 1) (Some v) regs fr (omega arith) (one_above base h (Some v)) ag.1),
            few,
          )

  -- a local lives while the rest of its block runs
  scoped : (gives : Bool) (end : Spot) (m d h p : ℕ) (owned : Bool) (v : Value) (cs : List Instr) (s : Scope) (base : Base) (l : Locals) (regs : Registers) (w : State) (rest : Run (Option Value)) → Runs cs (Put gives d (h + 1) (entry m h ∷ s) base) p regs w (rest (calls_in k) (record { name = Some m; value = Some v; owned = owned } ∷ l) w) → Runs cs (Put gives d h s base) p regs w (with_local again end m owned v rest (calls_in k) l w)
  scoped gives end m d h p owned v cs s base l regs w rest run has =
      then_reaches code k n (p + length cs) (p + length cs) (Put gives d (h + 1) (entry m h ∷ s) base) (Put gives d h s base) (conf k p regs w) _ _ (run has)
      (λ u l w regs ag few.
      subst (λ r. Reaches code k n (p + length cs) (Put gives d h s base) (conf k (p + length cs) regs w) (then_do r (λ x l w. goes u l w)))
      (sym (drop_owned_plain again end (calls_in k) owned (innermost l) (outer l) w (innermost_plain (entry m h) s l (put_names gives d (h + 1) (entry m h ∷ s) base u l regs ag))))
      (stays code k n (p + length cs) (Put gives d h s base) u (outer l) regs w (put_pop gives d h m s base u l regs ag) few))

  -- ---- statements

  -- a value that isn't used
  unused : (gives owned : Bool) (at : Spot) (cs : List Instr) (p h : ℕ) (s : Scope) (base : Base) (regs : Registers) (w : State) (r : Result (Option Value)) → Runs cs (In gives h s base) p regs w r → Runs cs (Keeps {A = Option Value} h s base) p regs w (then_do r (λ v. drop_owned again at owned v (calls_in k)))
  unused gives owned at cs p h s base regs w r run has =
      then_reaches code k n (p + length cs) (p + length cs) (In gives h s base) (Keeps {A = Option Value} h s base) (conf k p regs w) r _ (run has)
      (λ v l w regs ag few.
      subst (λ x. Reaches code k n (p + length cs) (Keeps {A = Option Value} h s base) (conf k (p + length cs) regs w) x) (sym (drop_fitting again at (calls_in k) gives owned v l w (in_fits gives h s base v l regs ag)))
      (stays code k n (p + length cs) (Keeps {A = Option Value} h s base) None l regs w (in_keeps gives h s base v l regs ag) few))

  returns : (at : Spot) (cs : List Instr) (p h : ℕ) (s : Scope) (base : Base) (regs : Registers) (w : State) (r : Result (Option Value)) → k.gives ≡ true → Falls h s → Runs cs (In true h s base) p regs w r → Runs (cs ++ (i.Ret h ∷ [])) (Keeps {A = Option Value} h s base) p regs w (then_do r (λ v. leave again at v (calls_in k)))
  returns at cs p h s base regs w r gives fa run = joined cs (i.Ret h ∷ []) (In true h s base) (Keeps h s base) p regs w r (λ v. leave again at v (calls_in k)) run by
    where
      by : (v : Option Value) (l : Locals) (w : State) (regs : Registers) → In true h s base v l regs → w.left ≤ n → Runs (i.Ret h ∷ []) (Keeps {A = Option Value} h s base) (p + length cs) regs w (leave again at v (calls_in k) l w)
      by None l w regs ag few has = absurd ag
      by (Some v) l w regs ag few has =
          subst (λ x. Reaches code k n (p + length cs + 1) (Keeps h s base) (conf k (p + length cs) regs w) x) (sym (leave_plain again at (calls_in k) (Some v) s l w ag.1.names))
          (inr (leaves code k n (p + length cs) h regs w v is has.0 (top_read s l base h (h + 1) (Some v) regs fa (omega arith) ag.1), subst (λ g. Fits g (Some v)) (sym gives) ag.0, few))

  returns_nothing : (at : Spot) (p h : ℕ) (s : Scope) (base : Base) (l : Locals) (regs : Registers) (w : State) → Agrees h s l base regs → w.left ≤ n → Runs (only_if (agree k.gives false) h (i.RetVoid ∷ [])) (Keeps {A = Option Value} h s base) p regs w (leave again at None (calls_in k) l w)
  returns_nothing at p h s base l regs w ag few has =
      only_if_runs code k n (agree k.gives false) h p (i.RetVoid ∷ []) (Keeps h s base) regs w (leave again at None (calls_in k) l w) has
      (λ e has. subst (λ x. Reaches code k n (p + 1) (Keeps h s base) (conf k p regs w) x) (sym (leave_plain again at (calls_in k) None s l w ag.names))
      (inr (leaves_void code k n p regs w is has.0, subst (λ g. Fits g None) (sym (agree_same k.gives false e)) tt, few)))

  -- ---- the set of a local, whose old value isn't used

  store_runs : (q : Expr) (drop_at : Spot) (owned dropped : Bool) (v : Value) (p h : ℕ) (s : Scope) (base : Base) (l : Locals) (regs : Registers) (w : State) → Falls h s → Val h s base v l regs → w.left ≤ n → Runs (store_code q h s) (Keeps {A = Option Value} h s base) p regs w (then_do (while_waits owned v (set_run again v q) (calls_in k) l w) (λ u. drop_owned again drop_at dropped u (calls_in k)))
  store_runs (expr x (name m is_outer moved)) drop_at owned dropped v p h s base l regs w fa ag few has =
      stores code k n p h s base l (with_held m.name.0 (Some v) l) regs w v (place_of m.name.0 s) (held_by m.name.0 l)
      (λ u. then_do (then_do (then_do (then_do (the_value u (calls_in k) (record { name = None; value = Some v; owned = owned } ∷ l) w) (λ u l w. goes u (with_held m.name.0 (Some v) l) w)) (λ u. give (Some u) (calls_in k))) (λ r l w. goes r (outer l) w)) (λ u. drop_owned again drop_at dropped u (calls_in k)))
      fa ag few (meets m.name.0 h s l fa ag.1.names) (changes m.name.0 h v s l ag.0 fa ag.1.names) (λ u pu. drop_owned_plain again drop_at (calls_in k) dropped (Some u) (with_held m.name.0 (Some v) l) w pu) has
  store_runs (expr x (chain e ls)) drop_at owned dropped v p h s base l regs w fa ag few has = is_stuck code k n p (p + 1) h (Keeps {A = Option Value} h s base) regs w (then_do (while_waits owned v (set_run again v (expr x (chain e ls))) (calls_in k) l w) (λ u. drop_owned again drop_at dropped u (calls_in k))) has
  store_runs (expr x (unary at op e)) drop_at owned dropped v p h s base l regs w fa ag few has = is_stuck code k n p (p + 1) h (Keeps {A = Option Value} h s base) regs w (then_do (while_waits owned v (set_run again v (expr x (unary at op e))) (calls_in k) l w) (λ u. drop_owned again drop_at dropped u (calls_in k))) has
  store_runs (expr x (steps e ss)) drop_at owned dropped v p h s base l regs w fa ag few has = is_stuck code k n p (p + 1) h (Keeps {A = Option Value} h s base) regs w (then_do (while_waits owned v (set_run again v (expr x (steps e ss))) (calls_in k) l w) (λ u. drop_owned again drop_at dropped u (calls_in k))) has
  store_runs (expr x (number at z)) drop_at owned dropped v p h s base l regs w fa ag few has = is_stuck code k n p (p + 1) h (Keeps {A = Option Value} h s base) regs w (then_do (while_waits owned v (set_run again v (expr x (number at z))) (calls_in k) l w) (λ u. drop_owned again drop_at dropped u (calls_in k))) has
  store_runs (expr x (quote at t)) drop_at owned dropped v p h s base l regs w fa ag few has = is_stuck code k n p (p + 1) h (Keeps {A = Option Value} h s base) regs w (then_do (while_waits owned v (set_run again v (expr x (quote at t))) (calls_in k) l w) (λ u. drop_owned again drop_at dropped u (calls_in k))) has
  store_runs (expr x (truth at b)) drop_at owned dropped v p h s base l regs w fa ag few has = is_stuck code k n p (p + 1) h (Keeps {A = Option Value} h s base) regs w (then_do (while_waits owned v (set_run again v (expr x (truth at b))) (calls_in k) l w) (λ u. drop_owned again drop_at dropped u (calls_in k))) has
  store_runs (expr x (call m f es)) drop_at owned dropped v p h s base l regs w fa ag few has = is_stuck code k n p (p + 1) h (Keeps {A = Option Value} h s base) regs w (then_do (while_waits owned v (set_run again v (expr x (call m f es))) (calls_in k) l w) (λ u. drop_owned again drop_at dropped u (calls_in k))) has
  store_runs (expr x (paren at e)) drop_at owned dropped v p h s base l regs w fa ag few has = is_stuck code k n p (p + 1) h (Keeps {A = Option Value} h s base) regs w (then_do (while_waits owned v (set_run again v (expr x (paren at e))) (calls_in k) l w) (λ u. drop_owned again drop_at dropped u (calls_in k))) has
  store_runs (expr x (array at t es)) drop_at owned dropped v p h s base l regs w fa ag few has = is_stuck code k n p (p + 1) h (Keeps {A = Option Value} h s base) regs w (then_do (while_waits owned v (set_run again v (expr x (array at t es))) (calls_in k) l w) (λ u. drop_owned again drop_at dropped u (calls_in k))) has
  store_runs (expr x (iso at b)) drop_at owned dropped v p h s base l regs w fa ag few has = is_stuck code k n p (p + 1) h (Keeps {A = Option Value} h s base) regs w (then_do (while_waits owned v (set_run again v (expr x (iso at b))) (calls_in k) l w) (λ u. drop_owned again drop_at dropped u (calls_in k))) has
  store_runs (expr x (form f)) drop_at owned dropped v p h s base l regs w fa ag few has = is_stuck code k n p (p + 1) h (Keeps {A = Option Value} h s base) regs w (then_do (while_waits owned v (set_run again v (expr x (form f))) (calls_in k) l w) (λ u. drop_owned again drop_at dropped u (calls_in k))) has
  store_runs (expr x (set at e q)) drop_at owned dropped v p h s base l regs w fa ag few has = is_stuck code k n p (p + 1) h (Keeps {A = Option Value} h s base) regs w (then_do (while_waits owned v (set_run again v (expr x (set at e q))) (calls_in k) l w) (λ u. drop_owned again drop_at dropped u (calls_in k))) has

  -- ---- by induction on the tree

  mutual
    pub expr_runs : (e : Expr) (p h : ℕ) (s : Scope) (base : Base) (l : Locals) (regs : Registers) (w : State) → Falls h s → Agrees h s l base regs → w.left ≤ n → Runs (expr_code a e p h s) (In (is_copy (type e)) h s base) p regs w (expr_run again e (calls_in k) l w)
    expr_runs (expr x node) p h s base l regs w fa ag few has = node_runs node x.value (is_copy x.value) p h s base l regs w fa ag few has

    -- an expression whose value is used
    pub wanted_runs : (e : Expr) (p h : ℕ) (s : Scope) (base : Base) (l : Locals) (regs : Registers) (w : State) → Falls h s → Agrees h s l base regs → w.left ≤ n → Runs (value_code a e p h s) (In true h s base) p regs w (expr_run again e (calls_in k) l w)
    wanted_runs (expr x node) p h s base l regs w fa ag few has =
        only_if_runs code k n (is_copy x.value) h p (node_code a (is_copy x.value) node p h s) (In true h s base) regs w (node_run again x.value node (calls_in k) l w) has
        (λ e has. subst (λ g. Reaches code k n (p + length (node_code a (is_copy x.value) node p h s)) (In g h s base) (conf k p regs w) (node_run again x.value node (calls_in k) l w)) e
        (node_runs node x.value (is_copy x.value) p h s base l regs w fa ag few has))

    pub value_runs : (e : Expr) (p h : ℕ) (s : Scope) (base : Base) (l : Locals) (regs : Registers) (w : State) → Falls h s → Agrees h s l base regs → w.left ≤ n → Runs (value_code a e p h s) (Val h s base) p regs w (valued (expr_run again e) (calls_in k) l w)
    value_runs (expr x node) p h s base l regs w fa ag few has =
        values code k n _ h s base (conf k p regs w) (node_run again x.value node (calls_in k) l w)
        (only_if_runs code k n (is_copy x.value) h p (node_code a (is_copy x.value) node p h s) (In true h s base) regs w (node_run again x.value node (calls_in k) l w) has
        (λ e has. subst (λ g. Reaches code k n (p + length (node_code a (is_copy x.value) node p h s)) (In g h s base) (conf k p regs w) (node_run again x.value node (calls_in k) l w)) e
        (node_runs node x.value (is_copy x.value) p h s base l regs w fa ag few has)))

    node_runs : (node : Node) (x : Ty) (gives : Bool) (p h : ℕ) (s : Scope) (base : Base) (l : Locals) (regs : Registers) (w : State) → Falls h s → Agrees h s l base regs → w.left ≤ n → Runs (node_code a gives node p h s) (In gives h s base) p regs w (node_run again x node (calls_in k) l w)
    node_runs (number at z) x gives p h s base l regs w fa ag few has =
        given_if (gives && is_int z) gives (i.Int h z ∷ []) p h s base regs w (goes (Some (Int z)) l w) (and_first gives (is_int z))
        (λ e has. literal code k n p h h s base base l regs w (i.Int h z) (Int z) fa (λ r lt. refl) (omega arith) ag few (and_second gives (is_int z) e) has.0 refl) has
    node_runs (quote at t) x gives p h s base l regs w fa ag few has =
        given_if (gives && is_lawful_text t) gives _ p h s base regs w (goes (Some (Text t)) l w) (and_first gives (is_lawful_text t))
        (λ e. text_runs t p h s base l regs w fa ag few (lawful t (and_second gives (is_lawful_text t) e))) has
    node_runs (truth at true) x gives p h s base l regs w fa ag few has =
        given gives (i.Truth h 1 ∷ []) p h s base regs w (goes (Some (Truth true)) l w)
        (λ has. literal code k n p h h s base base l regs w (i.Truth h 1) (Truth true) fa (λ r lt. refl) (omega arith) ag few tt has.0 refl) has
    node_runs (truth at false) x gives p h s base l regs w fa ag few has =
        given gives (i.Truth h 0 ∷ []) p h s base regs w (goes (Some (Truth false)) l w)
        (λ has. literal code k n p h h s base base l regs w (i.Truth h 0) (Truth false) fa (λ r lt. refl) (omega arith) ag few tt has.0 refl) has
    node_runs (name m is_outer true) x gives p h s base l regs w fa ag few has = is_stuck code k n p (p + 1) h (In gives h s base) regs w (node_run again x (name m is_outer true) (calls_in k) l w) has
    node_runs (name m is_outer false) x gives p h s base l regs w fa ag few has =
        given gives (load (place_of m.name.0 s) h) p h s base regs w (node_run again x (name m is_outer false) (calls_in k) l w)
        (λ has. loads code k n p h s base l regs w (place_of m.name.0 s) (held_by m.name.0 l) fa ag few (meets m.name.0 h s l fa ag.names) has) has
    node_runs (paren at e) x gives p h s base l regs w fa ag few has =
        only_if_runs code k n (agree gives (is_copy (type e))) h p (expr_code a e p h s) (In gives h s base) regs w (expr_run again e (calls_in k) l w) has
        (λ same has. subst (λ g. Reaches code k n (p + length (expr_code a e p h s)) (In g h s base) (conf k p regs w) (expr_run again e (calls_in k) l w)) (sym (agree_same gives (is_copy (type e)) same))
        (expr_runs e p h s base l regs w fa ag few has))
    node_runs (chain e ls) x gives p h s base l regs w fa ag few has =
        given gives (value_code a e p h s ++ links_code a ls (p + length (value_code a e p h s)) h s) p h s base regs w (node_run again x (chain e ls) (calls_in k) l w)
        (joined (value_code a e p h s) _ (Val h s base) (In true h s base) p regs w (valued (expr_run again e) (calls_in k) l w) (λ v. links_run again v ls (calls_in k)) (value_runs e p h s base l regs w fa ag few)
        (λ v l w regs ag few. links_runs ls v (p + length (value_code a e p h s)) h s base l regs w fa ag few)) has
    node_runs (unary at op e) x gives p h s base l regs w fa ag few has =
        given gives (value_code a e p h s ++ unary_code op at h) p h s base regs w (node_run again x (unary at op e) (calls_in k) l w)
        (joined (value_code a e p h s) (unary_code op at h) (Val h s base) (In true h s base) p regs w (valued (expr_run again e) (calls_in k) l w) _ (value_runs e p h s base l regs w fa ag few)
        (λ v l w regs ag few. unaries code k n (p + length (value_code a e p h s)) h s base at v l regs w fa ag few op)) has
    node_runs (set at q e) x gives p h s base l regs w fa ag few has =
        given gives (value_code a e p h s ++ set_code q h s) p h s base regs w (node_run again x (set at q e) (calls_in k) l w)
        (joined (value_code a e p h s) (set_code q h s) (Val h s base) (In true h s base) p regs w (valued (expr_run again e) (calls_in k) l w) _ (value_runs e p h s base l regs w fa ag few)
        (λ v l w regs ag few. set_runs q (is_owned (type e)) v (p + length (value_code a e p h s)) h s base l regs w fa ag few)) has
    node_runs (call m f es) x gives p h s base l regs w fa ag few has =
        joined (args_code a es p h s) (callee_code a gives m f (count es) h) (All (count es) h s base) (In gives h s base) p regs w (exprs_run again es (calls_in k) l w) (λ vs. callee_run again m f vs (calls_in k)) (args_runs es p h s base l regs w fa ag few)
        (λ vs l w regs ag few. callee_runs gives m f vs (count es) (p + length (args_code a es p h s)) h s base l regs w fa ag few) has
    node_runs (form f) x gives p h s base l regs w fa ag few has = form_runs f x gives p h s base l regs w fa ag few has
    node_runs (steps e ss) x gives p h s base l regs w fa ag few has = is_stuck code k n p (p + 1) h (In gives h s base) regs w (node_run again x (steps e ss) (calls_in k) l w) has
    node_runs (array at t es) x gives p h s base l regs w fa ag few has = is_stuck code k n p (p + 1) h (In gives h s base) regs w (node_run again x (array at t es) (calls_in k) l w) has
    node_runs (iso at b) x gives p h s base l regs w fa ag few has = is_stuck code k n p (p + 1) h (In gives h s base) regs w (node_run again x (iso at b) (calls_in k) l w) has

    args_runs : (es : Exprs) (p h : ℕ) (s : Scope) (base : Base) (l : Locals) (regs : Registers) (w : State) → Falls h s → Agrees h s l base regs → w.left ≤ n → Runs (args_code a es p h s) (All (count es) h s base) p regs w (exprs_run again es (calls_in k) l w)
    args_runs no_exprs p h s base l regs w fa ag few has =
        let e : p ≡ p + 0 = omega arith in
        let e' : h ≡ h + 0 = omega arith in
        ends_at code k n p (p + 0) (All 0 h s base) (conf k p regs w) (goes [] l w) e
        (stays code k n p (All 0 h s base) [] l regs w (tt, refl, subst (λ m. Agrees m s l base regs) e' ag) few)
    args_runs (more_exprs e es) p h s base l regs w fa ag few has =
        joined (value_code a e p h s) (args_code a es (p + length (value_code a e p h s)) (h + 1) (waiting h ∷ s)) (Val h s base) (All (suc (count es)) h s base) p regs w (valued (expr_run again e) (calls_in k) l w) _ (value_runs e p h s base l regs w fa ag few)
        (λ v l w regs ag few has.
        let q = p + length (value_code a e p h s) in
        let cs = args_code a es q (h + 1) (waiting h ∷ s) in
        let up : h < h + 1 = omega arith in
        let base' = with_at h (Some v) base in
        then_reaches code k n (q + length cs) (q + length cs) (All (count es) (h + 1) s base') (All (suc (count es)) h s base) (conf k q regs w) (while_waits (is_owned (type e)) v (exprs_run again es) (calls_in k) l w) (λ vs l w. goes (v ∷ vs) l w)
        (then_reaches code k n (q + length cs) (q + length cs) (All (count es) (h + 1) (waiting h ∷ s) base') (All (count es) (h + 1) s base') (conf k q regs w) (exprs_run again es (calls_in k) (record { name = None; value = Some v; owned = is_owned (type e) } ∷ l) w) (λ vs l w. goes vs (outer l) w)
        (args_runs es q (h + 1) (waiting h ∷ s) base' (record { name = None; value = Some v; owned = is_owned (type e) } ∷ l) regs w (up, fa) (agrees_wait s l base' h (h + 1) (is_owned (type e)) v regs ag.0 ag.1) few has)
        (λ vs l w regs rest few. stays code k n (q + length cs) (All (count es) (h + 1) s base') vs (outer l) regs w (rest.0, rest.1, agrees_done s l (with_all (h + 1) vs base') h (h + 1 + count es) regs rest.2) few))
        (λ vs l w regs rest few.
        let more : h + 1 + count es ≡ h + suc (count es) = omega arith in
        stays code k n (q + length cs) (All (suc (count es)) h s base) (v ∷ vs) l regs w ((ag.0, rest.0), ap suc rest.1, subst (λ m. Agrees m s l (with_all (h + 1) vs base') regs) more rest.2) few)) has

    links_runs : (ls : Links) (v : Value) (p h : ℕ) (s : Scope) (base : Base) (l : Locals) (regs : Registers) (w : State) → Falls h s → Val h s base v l regs → w.left ≤ n → Runs (links_code a ls p h s) (In true h s base) p regs w (links_run again v ls (calls_in k) l w)
    links_runs no_links v p h s base l regs w fa ag few has =
        ends_at code k n p (p + 0) (In true h s base) (conf k p regs w) (goes (Some v) l w) (omega arith) (stays code k n p (In true h s base) (Some v) l regs w ag few)
    links_runs (more_links (link x at op e) ls) v p h s base l regs w fa ag few has =
        let cs = link_code op x.value at (λ place h. value_code a e place h s) p h in
        joined cs (links_code a ls (p + length cs) h s) (Val h s base) (In true h s base) p regs w (valued (link_run at op v (expr_run again e)) (calls_in k) l w) (λ u. links_run again u ls (calls_in k))
        (λ has. values code k n _ h s base (conf k p regs w) (link_run at op v (expr_run again e) (calls_in k) l w)
        (links code k n p h s base (λ place h. value_code a e place h s) (expr_run again e) (λ q h base l regs w fa ag few has. wanted_runs e q h s base l regs w fa ag few has) at x.value v l regs w fa ag few op has))
        (λ u l w regs ag few. links_runs ls u (p + length cs) h s base l regs w fa ag few) has

    form_runs : (f : Form) (x : Ty) (gives : Bool) (p h : ℕ) (s : Scope) (base : Base) (l : Locals) (regs : Registers) (w : State) → Falls h s → Agrees h s l base regs → w.left ≤ n → Runs (form_code a gives f p h s) (In gives h s base) p regs w (form_run again x f (calls_in k) l w)
    form_runs (branch at c b es) x gives p h s base l regs w fa ag few has =
        if_runs code k n p h s base (value_code a c p h s) (λ place. block_code a gives b place h (h + 1) s) (λ place. elses_code a gives es place h s) (conf k p regs w) (valued (expr_run again c) (calls_in k) l w) (block_run again b) (elses_run again es) (In gives h s base) fa has
        (value_runs c p h s base l regs w fa ag few (has_front code k.function (value_code a c p h s) _ p has))
        (λ q v l w regs is ag few has. weaker code k n _ (Put gives h (h + 1) s (with_at h (Some v) base)) (In gives h s base) _ _ (λ u l regs x. put_in gives h s base (Some v) u l regs x) (block_runs b gives q h (h + 1) s (with_at h (Some v) base) l regs w (falls_up s h (h + 1) (omega arith) fa) (omega arith) (fresh_above s h h fa (omega arith)) ag.1 few has))
        (λ q v l w regs is ag few has. elses_runs es gives v q h s base l regs w fa ag few has)
    form_runs (pure at b) x gives p h s base l regs w fa ag few has = is_stuck code k n p (p + 1) h (In gives h s base) regs w (form_run again x (pure at b) (calls_in k) l w) has
    form_runs (parallel_range at m e f b) x gives p h s base l regs w fa ag few has = is_stuck code k n p (p + 1) h (In gives h s base) regs w (form_run again x (parallel_range at m e f b) (calls_in k) l w) has
    form_runs (parallel_each at m e b) x gives p h s base l regs w fa ag few has = is_stuck code k n p (p + 1) h (In gives h s base) regs w (form_run again x (parallel_each at m e b) (calls_in k) l w) has

    elses_runs : (es : Elses) (gives : Bool) (v : Value) (p h : ℕ) (s : Scope) (base : Base) (l : Locals) (regs : Registers) (w : State) → Falls h s → Val h s base v l regs → w.left ≤ n → Runs (elses_code a gives es p h s) (In gives h s base) p regs w (elses_run again es (calls_in k) l w)
    elses_runs no_else gives v p h s base l regs w fa ag few has =
        only_if_runs code k n (agree gives false) h p [] (In gives h s base) regs w (goes None l w) has
        (λ e has. subst (λ g. Reaches code k n (p + 0) (In g h s base) (conf k p regs w) (goes None l w)) (sym (agree_same gives false e))
        (ends_at code k n p (p + 0) (In false h s base) (conf k p regs w) (goes None l w) (omega arith) (stays code k n p (In false h s base) None l regs w (in_keeps true h s base (Some v) l regs ag) few)))
    elses_runs (otherwise b) gives v p h s base l regs w fa ag few has =
        weaker code k n _ (Put gives h (h + 1) s (with_at h (Some v) base)) (In gives h s base) _ _ (λ u l regs x. put_in gives h s base (Some v) u l regs x) (block_runs b gives p h (h + 1) s (with_at h (Some v) base) l regs w (falls_up s h (h + 1) (omega arith) fa) (omega arith) (fresh_above s h h fa (omega arith)) ag.1 few has)
    elses_runs (more_elses (else_if at c b) es) gives u p h s base l regs w fa ag few has =
        if_runs code k n p h s base (value_code a c p h s) (λ place. block_code a gives b place h (h + 1) s) (λ place. elses_code a gives es place h s) (conf k p regs w) (valued (expr_run again c) (calls_in k) l w) (block_run again b) (elses_run again es) (In gives h s base) fa has
        (value_runs c p h s base l regs w fa (in_keeps true h s base (Some u) l regs ag) few (has_front code k.function (value_code a c p h s) _ p has))
        (λ q v l w regs is ag few has. weaker code k n _ (Put gives h (h + 1) s (with_at h (Some v) base)) (In gives h s base) _ _ (λ u l regs x. put_in gives h s base (Some v) u l regs x) (block_runs b gives q h (h + 1) s (with_at h (Some v) base) l regs w (falls_up s h (h + 1) (omega arith) fa) (omega arith) (fresh_above s h h fa (omega arith)) ag.1 few has))
        (λ q v l w regs is ag few has. elses_runs es gives v q h s base l regs w fa ag few has)

    pub block_runs : (b : Block) (gives : Bool) (p d h : ℕ) (s : Scope) (base : Base) (l : Locals) (regs : Registers) (w : State) → Falls h s → d < h → Fresh d s → Agrees h s l base regs → w.left ≤ n → Runs (block_code a gives b p d h s) (Put gives d h s base) p regs w (block_run again b (calls_in k) l w)
    block_runs (block at end x ss) gives p d h s base l regs w fa lt fr ag few has = stmts_runs ss end gives p d h s base l regs w fa lt fr ag few has

    stmts_runs : (ss : Stmts) (end : Spot) (gives : Bool) (p d h : ℕ) (s : Scope) (base : Base) (l : Locals) (regs : Registers) (w : State) → Falls h s → d < h → Fresh d s → Agrees h s l base regs → w.left ≤ n → Runs (stmts_code a gives ss p d h s) (Put gives d h s base) p regs w (stmts_run again end ss (calls_in k) l w)
    stmts_runs no_stmts end gives p d h s base l regs w fa lt fr ag few has =
        only_if_runs code k n (agree gives false) h p [] (Put gives d h s base) regs w (goes None l w) has
        (λ e has. subst (λ g. Reaches code k n (p + 0) (Put g d h s base) (conf k p regs w) (goes None l w)) (sym (agree_same gives false e))
        (ends_at code k n p (p + 0) (Put false d h s base) (conf k p regs w) (goes None l w) (omega arith) (stays code k n p (Put false d h s base) None l regs w ag few)))
    stmts_runs (last e) end true p d h s base l regs w fa lt fr ag few has =
        hands (value_code a e p h s) p d h s base regs w (expr_run again e (calls_in k) l w) fa fr (wanted_runs e p h s base l regs w fa ag few) has
    stmts_runs (last e) end false p d h s base l regs w fa lt fr ag few has =
        only_if_runs code k n (agree false (is_copy (type e))) h p (expr_code a e p h s) (Put false d h s base) regs w (expr_run again e (calls_in k) l w) has
        (λ same has. weaker code k n _ (In false h s base) (Put false d h s base) (conf k p regs w) (expr_run again e (calls_in k) l w) (in_put d h s base)
        (subst (λ g. Reaches code k n (p + length (expr_code a e p h s)) (In g h s base) (conf k p regs w) (expr_run again e (calls_in k) l w)) (sym (agree_same false (is_copy (type e)) same))
        (expr_runs e p h s base l regs w fa ag few has)))
    stmts_runs (more_stmts (declare m x e) ss) end gives p d h s base l regs w fa lt fr ag few has =
        let up : h < h + 1 = omega arith in
        let ne : d ≢ h = omega arith in
        joined (value_code a e p h s) (stmts_code a gives ss (p + length (value_code a e p h s)) d (h + 1) (entry m.name.0 h ∷ s)) (Val h s base) (Put gives d h s base) p regs w (valued (expr_run again e) (calls_in k) l w) _ (value_runs e p h s base l regs w fa ag few)
        (λ v l w regs ag few.
        scoped gives end m.name.0 d h (p + length (value_code a e p h s)) (is_owned x) v (stmts_code a gives ss (p + length (value_code a e p h s)) d (h + 1) (entry m.name.0 h ∷ s)) s base l regs w (stmts_run again end ss)
        (stmts_runs ss end gives (p + length (value_code a e p h s)) d (h + 1) (entry m.name.0 h ∷ s) base (record { name = Some m.name.0; value = Some v; owned = is_owned x } ∷ l) regs w (up, fa) (omega arith) (ne, fr) (agrees_push s l base h m.name.0 (is_owned x) v regs ag.0 fa ag.1) few)) has
    stmts_runs (more_stmts (destructure at ns xs e) ss) end gives p d h s base l regs w fa lt fr ag few has =
        is_stuck code k n p (p + 1) h (Put gives d h s base) regs w (stmts_run again end (more_stmts (destructure at ns xs e) ss) (calls_in k) l w) has
    stmts_runs (more_stmts (return_nothing at) ss) end gives p d h s base l regs w fa lt fr ag few has =
        joined (stmt_code a (return_nothing at) p h s) (stmts_code a gives ss (p + length (stmt_code a (return_nothing at) p h s)) d h s) (Keeps h s base) (Put gives d h s base) p regs w _ _ (returns_nothing at p h s base l regs w ag few)
        (λ v l w regs ag few. stmts_runs ss end gives _ d h s base l regs w fa lt fr ag few) has
    stmts_runs (more_stmts (return_value at e) ss) end gives p d h s base l regs w fa lt fr ag few has =
        joined (stmt_code a (return_value at e) p h s) (stmts_code a gives ss (p + length (stmt_code a (return_value at e) p h s)) d h s) (Keeps h s base) (Put gives d h s base) p regs w (stmt_run again (return_value at e) (calls_in k) l w) _
        (λ has. only_if_runs code k n k.gives h p (value_code a e p h s ++ (i.Ret h ∷ [])) (Keeps h s base) regs w (stmt_run again (return_value at e) (calls_in k) l w) has
        (λ gives has. returns at (value_code a e p h s) p h s base regs w (expr_run again e (calls_in k) l w) gives fa (wanted_runs e p h s base l regs w fa ag few) has))
        (λ v l w regs ag few. stmts_runs ss end gives _ d h s base l regs w fa lt fr ag few) has
    stmts_runs (more_stmts (while at c b) ss) end gives p d h s base l regs w fa lt fr ag few has =
        let tc = λ (q : ℕ). value_code a c q h s in
        let bc = λ (q : ℕ). block_code a false b q h (h + 1) s in
        let start = p + 2 + length (bc (p + 2)) in
        joined (loop_code p h tc bc) (stmts_code a gives ss (p + length (loop_code p h tc bc)) d h s) (In false h s base) (Put gives d h s base) p regs w (stmt_run again (while at c b) (calls_in k) l w) _
        (λ has. comes_reaches code k n _ (In false h s base) (conf k p regs w) (conf k start regs w) (stmt_run again (while at c b) (calls_in k) l w) (jumps code k n p start regs w has.0 (free_on code k n p start regs (omega arith)))
        (loop_tests code k n p h s base tc bc (conf k start regs w) (valued (expr_run again c) (calls_in k) l w) (again.turn c b) fa has
        (value_runs c start h s base l regs w fa ag few (loop_test code k n p h tc bc has))
        (λ l w regs ag less. follows.turns k c b p h s base l regs w is less fa ag has)))
        (λ v l w regs ag few. stmts_runs ss end gives _ d h s base l regs w fa lt fr (in_keeps false h s base v l regs ag) few) has
    stmts_runs (more_stmts (foreach at m e f (block bat bend bx bs)) ss) end gives p d h s base l regs w fa lt fr ag few has =
        let b = block bat bend bx bs in
        let r = h + 1 + 1 in
        let inner = entry m.name.0 r ∷ s in
        let ce = value_code a e p h s in
        let q = p + length ce in
        let cf = value_code a f q (h + 1) s in
        let body = λ (q : ℕ). block_code a false b q h (r + 1) inner in
        let run = λ (z : ℤ). iteration_body again m false (Int z) b in
        let ne : h ≢ r = omega arith in
        joined (stmt_code a (foreach at m e f b) p h s) (stmts_code a gives ss (p + length (stmt_code a (foreach at m e f b) p h s)) d h s) (In false h s base) (Put gives d h s base) p regs w (stmt_run again (foreach at m e f b) (calls_in k) l w) _
        (joined ce (cf ++ count_code (q + length cf) h at body) (Val h s base) (In false h s base) p regs w (valued (expr_run again e) (calls_in k) l w) _ (value_runs e p h s base l regs w fa ag few)
        (λ v l w regs ag few.
        joined cf (count_code (q + length cf) h at body) (Val (h + 1) s (with_at h (Some v) base)) (In false h s base) q regs w (valued (expr_run again f) (calls_in k) l w) _ (value_runs f q (h + 1) s (with_at h (Some v) base) l regs w (falls_up s h (h + 1) (omega arith) fa) ag.1 few)
        (λ u l w regs ag' few has.
        count_runs code k n (q + length cf) h s base at body run fa has l regs w few
        (λ q x base l regs w hx ag few has.
        weaker code k n _ (Put false h r s base) (Keeps {A = Option Value} r s base) (conf k q regs w) (run x (calls_in k) l w) (put_keeps h r s base)
        (scoped false bend m.name.0 h r q false (Int x) (body q) s base l regs w (stmts_run again bend bs)
        (stmts_runs bs bend false q h (r + 1) inner base (record { name = Some m.name.0; value = Some (Int x); owned = false } ∷ l) regs w (omega arith, falls_up s h r (omega arith) fa) (omega arith) (ne, fresh_above s h h fa (omega arith)) (agrees_push s l base r m.name.0 false (Int x) regs hx (falls_up s h r (omega arith) fa) ag) few) has))
        v u ag.0 ag')))
        (λ v l w regs ag few. stmts_runs ss end gives _ d h s base l regs w fa lt fr (in_keeps false h s base v l regs ag) few) has
    stmts_runs (more_stmts (form_stmt f) ss) end gives p d h s base l regs w fa lt fr ag few has =
        joined (form_code a false f p h s) (stmts_code a gives ss (p + length (form_code a false f p h s)) d h s) (In false h s base) (Put gives d h s base) p regs w (form_run again void f (calls_in k) l w) _ (form_runs f void false p h s base l regs w fa ag few)
        (λ v l w regs ag few. stmts_runs ss end gives _ d h s base l regs w fa lt fr (in_keeps false h s base v l regs ag) few) has
    stmts_runs (more_stmts (express e) ss) end gives p d h s base l regs w fa lt fr ag few has =
        joined (unused_code a e p h s) (stmts_code a gives ss (p + length (unused_code a e p h s)) d h s) (Keeps {A = Option Value} h s base) (Put gives d h s base) p regs w (stmt_run again (express e) (calls_in k) l w) (λ u. stmts_run again end ss (calls_in k))
        (unused_runs e (expr_spot e) (is_owned (type e)) p h s base l regs w fa ag few)
        (λ v l w regs ag few. stmts_runs ss end gives _ d h s base l regs w fa lt fr ag few) has

    -- an expression whose value isn't used
    unused_runs : (e : Expr) (drop_at : Spot) (dropped : Bool) (p h : ℕ) (s : Scope) (base : Base) (l : Locals) (regs : Registers) (w : State) → Falls h s → Agrees h s l base regs → w.left ≤ n → Runs (unused_code a e p h s) (Keeps {A = Option Value} h s base) p regs w (then_do (expr_run again e (calls_in k) l w) (λ v. drop_owned again drop_at dropped v (calls_in k)))
    unused_runs (expr x (set at q e)) drop_at dropped p h s base l regs w fa ag few has =
        subst (λ r. Reaches code k n (p + length (value_code a e p h s ++ store_code q h s)) (Keeps {A = Option Value} h s base) (conf k p regs w) r)
        (sym (then_then (valued (expr_run again e) (calls_in k) l w) (λ v. while_waits (is_owned (type e)) v (set_run again v q) (calls_in k)) (λ v. drop_owned again drop_at dropped v (calls_in k))))
        (joined (value_code a e p h s) (store_code q h s) (Val h s base) (Keeps {A = Option Value} h s base) p regs w (valued (expr_run again e) (calls_in k) l w) (λ v l w. then_do (while_waits (is_owned (type e)) v (set_run again v q) (calls_in k) l w) (λ u. drop_owned again drop_at dropped u (calls_in k))) (value_runs e p h s base l regs w fa ag few)
        (λ v l w regs ag few. store_runs q drop_at (is_owned (type e)) dropped v (p + length (value_code a e p h s)) h s base l regs w fa ag few) has)
    unused_runs (expr x (chain e ls)) drop_at dropped p h s base l regs w fa ag few has = unused (is_copy x.value) dropped drop_at (node_code a (is_copy x.value) (chain e ls) p h s) p h s base regs w (node_run again x.value (chain e ls) (calls_in k) l w) (node_runs (chain e ls) x.value (is_copy x.value) p h s base l regs w fa ag few) has
    unused_runs (expr x (unary at op e)) drop_at dropped p h s base l regs w fa ag few has = unused (is_copy x.value) dropped drop_at (node_code a (is_copy x.value) (unary at op e) p h s) p h s base regs w (node_run again x.value (unary at op e) (calls_in k) l w) (node_runs (unary at op e) x.value (is_copy x.value) p h s base l regs w fa ag few) has
    unused_runs (expr x (steps e ss)) drop_at dropped p h s base l regs w fa ag few has = unused (is_copy x.value) dropped drop_at (node_code a (is_copy x.value) (steps e ss) p h s) p h s base regs w (node_run again x.value (steps e ss) (calls_in k) l w) (node_runs (steps e ss) x.value (is_copy x.value) p h s base l regs w fa ag few) has
    unused_runs (expr x (number at z)) drop_at dropped p h s base l regs w fa ag few has = unused (is_copy x.value) dropped drop_at (node_code a (is_copy x.value) (number at z) p h s) p h s base regs w (node_run again x.value (number at z) (calls_in k) l w) (node_runs (number at z) x.value (is_copy x.value) p h s base l regs w fa ag few) has
    unused_runs (expr x (quote at t)) drop_at dropped p h s base l regs w fa ag few has = unused (is_copy x.value) dropped drop_at (node_code a (is_copy x.value) (quote at t) p h s) p h s base regs w (node_run again x.value (quote at t) (calls_in k) l w) (node_runs (quote at t) x.value (is_copy x.value) p h s base l regs w fa ag few) has
    unused_runs (expr x (truth at b)) drop_at dropped p h s base l regs w fa ag few has = unused (is_copy x.value) dropped drop_at (node_code a (is_copy x.value) (truth at b) p h s) p h s base regs w (node_run again x.value (truth at b) (calls_in k) l w) (node_runs (truth at b) x.value (is_copy x.value) p h s base l regs w fa ag few) has
    unused_runs (expr x (name m is_outer moved)) drop_at dropped p h s base l regs w fa ag few has = unused (is_copy x.value) dropped drop_at (node_code a (is_copy x.value) (name m is_outer moved) p h s) p h s base regs w (node_run again x.value (name m is_outer moved) (calls_in k) l w) (node_runs (name m is_outer moved) x.value (is_copy x.value) p h s base l regs w fa ag few) has
    unused_runs (expr x (call m f es)) drop_at dropped p h s base l regs w fa ag few has = unused (is_copy x.value) dropped drop_at (node_code a (is_copy x.value) (call m f es) p h s) p h s base regs w (node_run again x.value (call m f es) (calls_in k) l w) (node_runs (call m f es) x.value (is_copy x.value) p h s base l regs w fa ag few) has
    unused_runs (expr x (paren at e)) drop_at dropped p h s base l regs w fa ag few has = unused (is_copy x.value) dropped drop_at (node_code a (is_copy x.value) (paren at e) p h s) p h s base regs w (node_run again x.value (paren at e) (calls_in k) l w) (node_runs (paren at e) x.value (is_copy x.value) p h s base l regs w fa ag few) has
    unused_runs (expr x (array at t es)) drop_at dropped p h s base l regs w fa ag few has = unused (is_copy x.value) dropped drop_at (node_code a (is_copy x.value) (array at t es) p h s) p h s base regs w (node_run again x.value (array at t es) (calls_in k) l w) (node_runs (array at t es) x.value (is_copy x.value) p h s base l regs w fa ag few) has
    unused_runs (expr x (iso at b)) drop_at dropped p h s base l regs w fa ag few has = unused (is_copy x.value) dropped drop_at (node_code a (is_copy x.value) (iso at b) p h s) p h s base regs w (node_run again x.value (iso at b) (calls_in k) l w) (node_runs (iso at b) x.value (is_copy x.value) p h s base l regs w fa ag few) has
    unused_runs (expr x (form f)) drop_at dropped p h s base l regs w fa ag few has = unused (is_copy x.value) dropped drop_at (node_code a (is_copy x.value) (form f) p h s) p h s base regs w (node_run again x.value (form f) (calls_in k) l w) (node_runs (form f) x.value (is_copy x.value) p h s base l regs w fa ag few) has
