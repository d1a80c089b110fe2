-- A part that neither sets nor moves a local leaves what it holds.
use Rattle.std.proofs.Common.{◌≡◌, ℕ, zero, suc, ◌+◌, ◌==◌, pos, ◌||◌, List, [], ◌∷◌, Option, Some, None, Bool, true, false, if◌then◌else◌, refl, sym, ap, ◌∙◌, subst}
use Rattle.std.specs.Prelude.{nat_lt, ◌+ℤ◌, ℤ}
use Rattle.std.proofs.lemmas.Bool.Decides.{Decides-eqb}
use Rattle.vale_base.specs.Limits.{width_limit}
use Rattle.vale_base.specs.declared.spot.Spot.{Spot}
use Rattle.vale_base.specs.declared.trap.FrameAt.{FrameAt}
use Rattle.vale_base.specs.declared.trap.TrapKind.{TrapKind}
use Rattle.vale_base.specs.declared.trap.TrapKind.TheVariants.{CallDepth, LoopTooWide, DeadReference}
use Rattle.vale_state_spec.specs.State.{State, Calls, Answer, gives, traps, fails, spend, has_depth, Looked, found, dead, nowhere, look, load, element, swap, swap_element, len, push, pop, make, merge, print, freeze, thaw, RegionEnd, end_of_pure, end_of_isolate, isolated, function_frame, method_frame, width_of, dies, drop_frame, join_isolate, object_of, freeze_iteration, thaw_iteration, iteration_frame, is_outermost, loop_counted, counting_as}
use Rattle.vale_state_spec.specs.World.{Value, Int, Truth, Text, Own, Ref, Iso, Object}
use Rattle.vale_text.specs.Steps as o
use Rattle.vale_syntax.specs.declared.built_in.BuiltIn.{BuiltIn}
use Rattle.vale_syntax.specs.declared.built_in.BuiltIn.TheVariants as b
use Rattle.vale_syntax.specs.declared.tree.NameAt.{NameAt}
use Rattle.vale_syntax.specs.declared.tree.BinaryOp.{BinaryOp}
use Rattle.vale_syntax.specs.declared.tree.BinaryOp.TheVariants.{Or, And, Equal, NotEqual, Less, LessEqual, Greater, GreaterEqual, Add, Sub, Mul, Div, Rem}
use Rattle.vale_syntax.specs.declared.tree.UnaryOp.{UnaryOp}
use Rattle.vale_syntax.specs.declared.tree.UnaryOp.TheVariants.{Minus, Not, Borrow, Merge}
use Rattle.vale_rules_spec.specs.Declarations.{head_params}
use Rattle.vale_rules_spec.specs.Types.{Ty, void, is_owned, is_owner, seen_object, array}
use Rattle.vale_rules_spec.specs.Types as y
use Rattle.vale_rules_spec.specs.Typed as t
use Rattle.vale_rules_spec.specs.Typed.{Callee, built_in, constructor, function, Expr, expr, Node, set, chain, unary, steps, number, quote, truth, name, call, paren, iso, form, Exprs, no_exprs, more_exprs, link, Links, no_links, more_links, Step, field, method, index, Steps, no_steps, more_steps, Form, branch, pure, parallel_range, parallel_each, else_if, Elses, no_else, otherwise, more_elses, Block, block, Stmt, declare, destructure, return_nothing, return_value, while, foreach, form_stmt, express, Stmts, no_stmts, last, more_stmts, Function, function_body, type}
use Rattle.vale_model.specs.Parts.{Parts, name_text, is_pure, function_named, method_of, field_place, kind_of, type_of_kind, kind_text}
use Rattle.vale_model.specs.Runs.{Local, Locals, Result, goes, returned, ended, Run, then_do, ◌>>=◌, give, nothing, wrong, trap, answered, step, change, ticked, tick, deep, under, the_value, valued, choose, has_name, held_by, with_held, read, move, exchange, outer, innermost, while_waits}
use Rattle.vale_model.specs.Destruction.{Again, destructor_in, destroyed_by, destroyed, destroy, drop, drop_owned, drop_values, drop_locals, leave, with_local, with_locals}
use Rattle.vale_model.specs.Loops.{number_in, turns, in_region, iteration, collected, in_order, each_alone, loop, indices, numbered, emptied, taken_apart, loop_value}
use Rattle.vale_model.specs.Expressions.{operated, link_run, unary_run, called_by, called, dispatched_to, dispatched_on, dispatched, built_in_run, made, callee_run, on_place, frozen_run, end_of_block, expr_spot, numbers_of, expr_run, node_run, exprs_run, links_run, step_run, steps_run, set_run, set_steps, set_step, form_run, iteration_body, elses_run, block_run, stmts_run, stmt_run}
use Rattle.vale_model.specs.Meaning.{bound, back_to, body_run, with_bound, function_run, turn_run, level}
use Rattle.vale_lowering_objects.specs.Changes.{is_local, expr_changes, node_changes, exprs_change, links_change, step_changes, steps_change, form_changes, elses_change, block_changes, stmts_change, stmt_changes}

or_first : (a b : Bool) → (a || b) ≡ false → a ≡ false
or_first true b e = e
or_first false b e = refl

or_second : (a b : Bool) → (a || b) ≡ false → b ≡ false
or_second true b e = absurd (cc)
or_second false b e = e

module _ (x : ℕ) where
  -- the same locals, those of this name with the same values
  abbrev pub Same : Locals → Locals → Type 0
  Same [] [] = Unit {0}
  Same [] (z ∷ k) = ⊥
  Same (y ∷ l) [] = ⊥
  Same (y ∷ l) (z ∷ k) = (z.name ≡ y.name) × (has_name x y.name ≡ true → z.value ≡ y.value) × Same l k

  pub same_refl : (l : Locals) → Same l l
  same_refl [] = tt
  same_refl (y ∷ l) = (refl, λ e. refl, same_refl l)

  same_trans : (l k m : Locals) → Same l k → Same k m → Same l m
  same_trans [] [] [] a b = tt
  same_trans [] [] (z ∷ m) a b = b
  same_trans [] (z ∷ k) m a b = absurd a
  same_trans (y ∷ l) [] m a b = absurd a
  same_trans (y ∷ l) (z ∷ k) [] a b = absurd b
  same_trans (y ∷ l) (z ∷ k) (u ∷ m) a b = (b.0 ∙ a.0, λ e. b.1 (ap (has_name x) a.0 ∙ e) ∙ a.1 e, same_trans l k m a.2 b.2)

  pub same_held : (l k : Locals) → Same l k → held_by x k ≡ held_by x l
  same_held [] [] a = refl
  same_held [] (z ∷ k) a = absurd a
  same_held (y ∷ l) [] a = absurd a
  same_held (y ∷ l) (z ∷ k) a = by (has_name x y.name) refl (same_held l k a.2)
    where
      by : (b : Bool) → has_name x y.name ≡ b → held_by x k ≡ held_by x l → (if has_name x z.name then z.value else held_by x k) ≡ (if has_name x y.name then y.value else held_by x l)
      by true e rest = ap (λ b. if b then z.value else held_by x k) (ap (has_name x) a.0 ∙ e) ∙ a.1 e ∙ sym (ap (λ b. if b then y.value else held_by x l) e)
      by false e rest = ap (λ b. if b then z.value else held_by x k) (ap (has_name x) a.0 ∙ e) ∙ rest ∙ sym (ap (λ b. if b then y.value else held_by x l) e)

  same_outer : (y : Local) (l k : Locals) → Same (y ∷ l) k → Same l (outer k)
  same_outer y l [] a = absurd a
  same_outer y l (z ∷ k) a = a.2

  no_two : (n : ℕ) (m : Option ℕ) → (n == x) ≡ false → has_name n m ≡ true → has_name x m ≡ true → ⊥
  no_two n None ne a b = cc
  no_two n (Some m) ne a b =
      let e1 : m ≡ n = (Decides-eqb m n).0 a in
      let e2 : m ≡ x = (Decides-eqb m x).0 b in
      let e3 : (n == x) ≡ true = (Decides-eqb n x).1 (sym e1 ∙ e2) in
      let f : true ≡ false = sym e3 ∙ ne in
      cc

  -- another local gets a value
  same_with : (n : ℕ) (v : Option Value) (l : Locals) → (n == x) ≡ false → Same l (with_held n v l)
  same_with n v [] ne = tt
  same_with n v (y ∷ l) ne = by (has_name n y.name) refl (same_with n v l ne)
    where
      by : (b : Bool) → has_name n y.name ≡ b → Same l (with_held n v l) → Same (y ∷ l) (if b then (record y { value = v } ∷ l) else (y ∷ with_held n v l))
      by true e rest = (refl, λ f. absurd (no_two n y.name ne e f), same_refl l)
      by false e rest = (refl, λ f. refl, rest)

  -- ---- parts

  abbrev pub KeptIn : {A : Type 0} → Locals → Result A → Type 0
  KeptIn l (goes v k s) = Same l k
  KeptIn l (returned v s) = Unit {0}
  KeptIn l (ended end s) = Unit {0}

  pub record Keeps {A : Type 0} (m : Run A) : Type 0 where
    pub from : (calls : Calls) (l : Locals) (s : State) → KeptIn l (m calls l s)

  kept_trans : {A : Type 0} (l k : Locals) (r : Result A) → Same l k → KeptIn k r → KeptIn l r
  kept_trans l k (goes v m s) a b = same_trans l k m a b
  kept_trans l k (returned v s) a b = tt
  kept_trans l k (ended end s) a b = tt

  pub then_keeps : {A B : Type 0} (l : Locals) (r : Result A) (go : A → Locals → State → Result B) → KeptIn l r → ((v : A) (k : Locals) (s : State) → KeptIn k (go v k s)) → KeptIn l (then_do r go)
  then_keeps l (goes v k s) go a b = kept_trans l k (go v k s) a (b v k s)
  then_keeps l (returned v s) go a b = tt
  then_keeps l (ended end s) go a b = tt

  pub bind_keeps : {A B : Type 0} (m : Run A) (k : A → Run B) → Keeps m → ((v : A) → Keeps (k v)) → Keeps (m >>= k)
  bind_keeps m k a b = record { from = λ calls l s. then_keeps l (m calls l s) (λ v. k v calls) (a.from calls l s) (λ v l s. (b v).from calls l s) }

  give_keeps : {A : Type 0} (v : A) → Keeps (give v)
  give_keeps v = record { from = λ calls l s. same_refl l }

  nothing_keeps : Keeps nothing
  nothing_keeps = record { from = λ calls l s. same_refl l }

  wrong_keeps : {A : Type 0} → Keeps {A = A} wrong
  wrong_keeps = record { from = λ calls l s. tt }

  trap_keeps : {A : Type 0} (kind : TrapKind) (at : Spot) → Keeps {A = A} (trap kind at)
  trap_keeps kind at = record { from = λ calls l s. tt }

  answered_keeps : (at : Spot) (a : Answer) (calls : Calls) (l : Locals) (s : State) → KeptIn l (answered at a calls l s)
  answered_keeps at (gives v u) calls l s = same_refl l
  answered_keeps at (traps kind) calls l s = tt
  answered_keeps at fails calls l s = tt

  step_keeps : (at : Spot) (f : State → Answer) → Keeps (step at f)
  step_keeps at f = record { from = λ calls l s. answered_keeps at (f s) calls l s }

  change_keeps : (f : State → State) → Keeps (change f)
  change_keeps f = record { from = λ calls l s. same_refl l }

  tick_keeps : Keeps tick
  tick_keeps = record { from = λ calls l s. by calls l s (spend s) }
    where
      by : (calls : Calls) (l : Locals) (s : State) (o : Option State) → KeptIn l (ticked o calls l s)
      by calls l s None = tt
      by calls l s (Some u) = same_refl l

  tick_then : {A : Type 0} (m : Run A) → Keeps m → Keeps (tick >>= (λ _. m))
  tick_then m h = bind_keeps tick (λ _. m) tick_keeps (λ _. h)

  deep_keeps : (more : ℕ) (at : Spot) → Keeps (deep more at)
  deep_keeps more at = record { from = λ calls l s. by calls l s (has_depth more calls s) }
    where
      by : (calls : Calls) (l : Locals) (s : State) (b : Bool) → KeptIn l (if b then goes (tt {0}) l s else trap CallDepth at calls l s)
      by calls l s true = same_refl l
      by calls l s false = tt

  under_keeps : {A : Type 0} (frame : FrameAt) (m : Run A) → Keeps m → Keeps (under frame m)
  under_keeps frame m h = record { from = λ calls l s. h.from (frame ∷ calls) l s }

  the_value_keeps : (v : Option Value) → Keeps (the_value v)
  the_value_keeps None = record { from = λ calls l s. tt }
  the_value_keeps (Some v) = give_keeps v

  pub valued_keeps : (m : Run (Option Value)) → Keeps m → Keeps (valued m)
  valued_keeps m h = bind_keeps m the_value h the_value_keeps

  choose_keeps : {A : Type 0} (v : Value) (a b : Run A) → Keeps a → Keeps b → Keeps (choose v a b)
  choose_keeps (Truth true) a b h k = h
  choose_keeps (Truth false) a b h k = k
  choose_keeps (Int z) a b h k = wrong_keeps
  choose_keeps (Text z) a b h k = wrong_keeps
  choose_keeps (Own m) a b h k = wrong_keeps
  choose_keeps (Ref m) a b h k = wrong_keeps
  choose_keeps (Iso m) a b h k = wrong_keeps

  -- ---- locals

  read_keeps : (n : ℕ) → Keeps (read n)
  read_keeps n = record { from = λ calls l s. then_keeps l (the_value (held_by n l) calls l s) _ ((the_value_keeps (held_by n l)).from calls l s) (λ v k s. same_refl k) }

  move_keeps : (n : ℕ) → (n == x) ≡ false → Keeps (move n)
  move_keeps n ne = record { from = λ calls l s. then_keeps l (the_value (held_by n l) calls l s) _ ((the_value_keeps (held_by n l)).from calls l s) (λ v k s. same_with n None k ne) }

  exchange_keeps : (n : ℕ) (new : Value) → (n == x) ≡ false → Keeps (exchange n new)
  exchange_keeps n new ne = record { from = λ calls l s. then_keeps l (the_value (held_by n l) calls l s) _ ((the_value_keeps (held_by n l)).from calls l s) (λ v k s. same_with n (Some new) k ne) }

  popped : {A B : Type 0} (y : Local) (l : Locals) (r : Result A) (go : A → Locals → State → Result B) → KeptIn (y ∷ l) r → ((v : A) (k : Locals) (s : State) → Same l (outer k) → KeptIn l (go v k s)) → KeptIn l (then_do r go)
  popped y l (goes v k s) go a b = b v k s (same_outer y l k a)
  popped y l (returned v s) go a b = tt
  popped y l (ended end s) go a b = tt

  while_waits_keeps : {A : Type 0} (owned : Bool) (v : Value) (m : Run A) → Keeps m → Keeps (while_waits owned v m)
  while_waits_keeps owned v m h = record { from = λ calls l s. popped (record { name = None; value = Some v; owned = owned }) l (m calls (record { name = None; value = Some v; owned = owned } ∷ l) s) _ (h.from calls (record { name = None; value = Some v; owned = owned } ∷ l) s) (λ r k s e. e) }

  -- ---- loops

  number_in_keeps : (v : Value) → Keeps (number_in v)
  number_in_keeps (Int z) = give_keeps z
  number_in_keeps (Truth b) = wrong_keeps
  number_in_keeps (Text z) = wrong_keeps
  number_in_keeps (Own m) = wrong_keeps
  number_in_keeps (Ref m) = wrong_keeps
  number_in_keeps (Iso m) = wrong_keeps

  turns_keeps : (more : ℕ) (z : ℤ) (body : ℤ → Run (Option Value)) → ((z : ℤ) → Keeps (body z)) → Keeps (turns more z body)
  turns_keeps zero z body h = nothing_keeps
  turns_keeps (suc more) z body h = bind_keeps tick _ tick_keeps (λ _. bind_keeps (body z) _ (h z) (λ _. turns_keeps more (z +ℤ pos 1) body h))

  in_region_keeps : (body : Run (Option Value)) → Keeps body → Keeps (in_region body)
  in_region_keeps body h = bind_keeps (change freeze_iteration) _ (change_keeps freeze_iteration) (λ _. bind_keeps body _ h (λ v. bind_keeps (change (thaw_iteration (end_of_isolate v))) _ (change_keeps (thaw_iteration (end_of_isolate v))) (λ _. give_keeps (isolated v))))

  iteration_keeps : (at : Spot) (k : ℕ) (body : Run (Option Value)) → Keeps body → Keeps (iteration at k body)
  iteration_keeps at k body h = bind_keeps (deep 1 at) _ (deep_keeps 1 at) (λ _. bind_keeps tick _ tick_keeps (λ _. under_keeps (iteration_frame k at) (in_region body) (in_region_keeps body h)))

  in_order_keeps : (at : Spot) (k : ℕ) (vs : List Value) (body : Value → Run (Option Value)) → ((v : Value) → Keeps (body v)) → Keeps (in_order at k vs body)
  in_order_keeps at k [] body h = give_keeps []
  in_order_keeps at k (v ∷ vs) body h =
      bind_keeps (iteration at k (body v)) _ (iteration_keeps at k (body v) (h v))
      (λ u. bind_keeps (in_order at (k + 1) vs body) _ (in_order_keeps at (k + 1) vs body h) (λ us. give_keeps (collected u us)))

  loop_keeps : (at : Spot) (vs : List Value) (body : Value → Run (Option Value)) → ((v : Value) → Keeps (body v)) → Keeps (loop at vs body)
  loop_keeps at vs body h = record { from = λ calls l s. by calls l s (is_outermost s) }
    where
      by : (calls : Calls) (l : Locals) (s : State) (b : Bool) →
          KeptIn l (if b then then_do (in_order at 0 vs body calls l (loop_counted (each_alone at 0 vs body calls l s) s)) (λ us l u. goes us l (counting_as s u)) else in_order at 0 vs body calls l s)
      by calls l s false = (in_order_keeps at 0 vs body h).from calls l s
      by calls l s true =
          let u = loop_counted (each_alone at 0 vs body calls l s) s in
          then_keeps l (in_order at 0 vs body calls l u) (λ us l u. goes us l (counting_as s u)) ((in_order_keeps at 0 vs body h).from calls l u) (λ us k u. same_refl k)

  numbered_keeps : (at : Spot) (a b : ℤ) → Keeps (numbered at a b)
  numbered_keeps at a b = by (nat_lt width_limit (width_of a b))
    where
      by : (c : Bool) → Keeps (if c then trap LoopTooWide at else give (indices (width_of a b) a))
      by true = trap_keeps LoopTooWide at
      by false = give_keeps (indices (width_of a b) a)

  emptied_keeps : (m : ℕ) (z : Option Object) → Keeps (emptied m z)
  emptied_keeps m None = wrong_keeps
  emptied_keeps m (Some z) = bind_keeps tick _ tick_keeps (λ _. bind_keeps (change (dies m)) _ (change_keeps (dies m)) (λ _. give_keeps z.values))

  taken_apart_keeps : (v : Value) → Keeps (taken_apart v)
  taken_apart_keeps (Own m) = record { from = λ calls l s. (emptied_keeps m (object_of m s)).from calls l s }
  taken_apart_keeps (Int z) = wrong_keeps
  taken_apart_keeps (Truth b) = wrong_keeps
  taken_apart_keeps (Text z) = wrong_keeps
  taken_apart_keeps (Ref m) = wrong_keeps
  taken_apart_keeps (Iso m) = wrong_keeps

  loop_value_keeps : (p : Parts) (at : Spot) (y : Ty) (vs : List Value) → Keeps (loop_value p at y vs)
  loop_value_keeps p at (array z) vs = bind_keeps tick _ tick_keeps (λ _. step_keeps at (make (kind_of p (array z)) vs))
  loop_value_keeps p at y.void vs = nothing_keeps
  loop_value_keeps p at y.int vs = nothing_keeps
  loop_value_keeps p at y.bool vs = nothing_keeps
  loop_value_keeps p at y.str vs = nothing_keeps
  loop_value_keeps p at (y.kind k) vs = nothing_keeps
  loop_value_keeps p at (y.ref z) vs = nothing_keeps
  loop_value_keeps p at (y.imm z) vs = nothing_keeps
  loop_value_keeps p at (y.iso z) vs = nothing_keeps

-- what goes on after a tick leaves a local too
pub record KeepsAll (x : ℕ) (again : Again) : Type 0 where
  pub turns : (c : Expr) (b : Block) → expr_changes x c ≡ false → block_changes x b ≡ false → Keeps x (again.turn c b)
  pub calls : (f : Function) (vs : List Value) (frame : FrameAt) → Keeps x (again.call f vs frame)
  pub fields : (vs : List Value) (frame : FrameAt) → Keeps x (again.fields vs frame)

module _ (local : ℕ) (again : Again) (keeps : KeepsAll local again) where
  -- ---- destruction

  destroyed_by_keeps : (f : Option Function) (m : ℕ) (x : Object) (frame : FrameAt) → Keeps local (destroyed_by again f m x frame)
  destroyed_by_keeps None m x frame =
      tick_then local (change (dies m) >>= (λ _. again.fields x.values frame))
      (bind_keeps local (change (dies m)) _ (change_keeps local (dies m)) (λ _. keeps.fields x.values frame))
  destroyed_by_keeps (Some f) m x frame = tick_then local (again.call f (Own m ∷ []) frame) (keeps.calls f (Own m ∷ []) frame)

  destroyed_keeps : (at : Spot) (m : ℕ) (x : Option Object) → Keeps local (destroyed again at m x)
  destroyed_keeps at m None = wrong_keeps local
  destroyed_keeps at m (Some x) =
      bind_keeps local (deep 1 at) _ (deep_keeps local 1 at)
      (λ _. destroyed_by_keeps (destructor_in again.parts (type_of_kind again.parts x.kind)) m x (drop_frame (kind_text again.parts x.kind) at))

  pub destroy_keeps : (at : Spot) (m : ℕ) → Keeps local (destroy again at m)
  destroy_keeps at m = record { from = λ calls l s. (destroyed_keeps at m (object_of m s)).from calls l s }

  drop_keeps : (at : Spot) (v : Option Value) → Keeps local (drop again at v)
  drop_keeps at None = nothing_keeps local
  drop_keeps at (Some (Own m)) = destroy_keeps at m
  drop_keeps at (Some (Iso m)) = bind_keeps local (change (join_isolate m)) _ (change_keeps local (join_isolate m)) (λ _. destroy_keeps at m)
  drop_keeps at (Some (Int z)) = nothing_keeps local
  drop_keeps at (Some (Truth z)) = nothing_keeps local
  drop_keeps at (Some (Text z)) = nothing_keeps local
  drop_keeps at (Some (Ref z)) = nothing_keeps local

  drop_owned_keeps : (at : Spot) (owned : Bool) (v : Option Value) → Keeps local (drop_owned again at owned v)
  drop_owned_keeps at true v = drop_keeps at v
  drop_owned_keeps at false v = nothing_keeps local

  pub drop_values_keeps : (at : Spot) (vs : List Value) → Keeps local (drop_values again at vs)
  drop_values_keeps at [] = nothing_keeps local
  drop_values_keeps at (v ∷ vs) = bind_keeps local (drop again at (Some v)) _ (drop_keeps at (Some v)) (λ _. drop_values_keeps at vs)

  leave_keeps : (A : Type 0) (at : Spot) (v : Option Value) → Keeps local {A = A} (leave again at v)
  leave_keeps A at v = record { from = λ calls l s. by l (drop_locals again at l calls [] s) }
    where
      by : (l : Locals) (r : Result (Option Value)) → KeptIn local {A = A} l (then_do r (λ u l s. returned v s))
      by l (goes u k s) = tt
      by l (returned u s) = tt
      by l (ended end s) = tt

  pub with_local_keeps : {A : Type 0} (end : Spot) (k : ℕ) (owned : Bool) (v : Value) (m : Run A) → Keeps local m → Keeps local (with_local again end k owned v m)
  with_local_keeps end k owned v m h = record {
    from = λ calls l s. popped local (record { name = Some k; value = Some v; owned = owned }) l (m calls (record { name = Some k; value = Some v; owned = owned } ∷ l) s) _
        (h.from calls (record { name = Some k; value = Some v; owned = owned } ∷ l) s)
        (λ r k s e. kept_trans local l (outer k) (then_do (drop_owned again end owned (innermost k) calls (outer k) s) (λ u l s. goes r l s)) e
        (then_keeps local (outer k) (drop_owned again end owned (innermost k) calls (outer k) s) (λ u l s. goes r l s) ((drop_owned_keeps end owned (innermost k)).from calls (outer k) s) (λ u k s. same_refl local k)));
  }

  with_locals_keeps : {A : Type 0} (end : Spot) (ks : List ℕ) (xs : List Ty) (vs : List Value) (m : Run A) → Keeps local m → Keeps local (with_locals again end ks xs vs m)
  with_locals_keeps end [] [] [] m h = h
  with_locals_keeps end [] [] (v ∷ vs) m h = wrong_keeps local
  with_locals_keeps end [] (x ∷ xs) vs m h = wrong_keeps local
  with_locals_keeps end (k ∷ ks) [] vs m h = wrong_keeps local
  with_locals_keeps end (k ∷ ks) (x ∷ xs) [] m h = wrong_keeps local
  with_locals_keeps end (k ∷ ks) (x ∷ xs) (v ∷ vs) m h = with_local_keeps end k (is_owned x) v (with_locals again end ks xs vs m) (with_locals_keeps end ks xs vs m h)

  -- ---- calls

  operated_link : (op : BinaryOp) (at : Spot) (v : Value) (m : Run (Option Value)) → Keeps local m → Keeps local (valued m >>= (λ w. step at (operated op v w)))
  operated_link op at v m h = bind_keeps local (valued m) _ (valued_keeps local m h) (λ w. step_keeps local at (operated op v w))

  link_keeps : (at : Spot) (op : BinaryOp) (v : Value) (m : Run (Option Value)) → Keeps local m → Keeps local (link_run at op v m)
  link_keeps at Or v m h = choose_keeps local v (give (Some (Truth true))) m (give_keeps local (Some (Truth true))) h
  link_keeps at And v m h = choose_keeps local v m (give (Some (Truth false))) h (give_keeps local (Some (Truth false)))
  link_keeps at Equal v m h = operated_link Equal at v m h
  link_keeps at NotEqual v m h = operated_link NotEqual at v m h
  link_keeps at Less v m h = operated_link Less at v m h
  link_keeps at LessEqual v m h = operated_link LessEqual at v m h
  link_keeps at Greater v m h = operated_link Greater at v m h
  link_keeps at GreaterEqual v m h = operated_link GreaterEqual at v m h
  link_keeps at Add v m h = operated_link Add at v m h
  link_keeps at Sub v m h = operated_link Sub at v m h
  link_keeps at Mul v m h = operated_link Mul at v m h
  link_keeps at Div v m h = operated_link Div at v m h
  link_keeps at Rem v m h = operated_link Rem at v m h

  unary_keeps : (at : Spot) (op : UnaryOp) (v : Value) → Keeps local (unary_run at op v)
  unary_keeps at Minus v = step_keeps local at (o.minus v)
  unary_keeps at Not v = step_keeps local at (o.opposite v)
  unary_keeps at Borrow v = give_keeps local (Some v)
  unary_keeps at Merge v = step_keeps local at (merge v)

  called_by_keeps : (is_it : Bool) (f : Function) (vs : List Value) (frame : FrameAt) → Keeps local (called_by is_it again f vs frame)
  called_by_keeps false f vs frame =
      bind_keeps local (deep 1 frame.at) _ (deep_keeps local 1 frame.at) (λ _. tick_then local (again.call f vs frame) (keeps.calls f vs frame))
  called_by_keeps true f vs frame =
      bind_keeps local (deep 2 frame.at) _ (deep_keeps local 2 frame.at)
      (λ _. tick_then local (change freeze >>= (λ _. again.call f vs frame >>= (λ v. change (thaw (end_of_pure v)) >>= (λ _. give v))))
      (bind_keeps local (change freeze) _ (change_keeps local freeze)
      (λ _. bind_keeps local (again.call f vs frame) _ (keeps.calls f vs frame)
      (λ v. bind_keeps local (change (thaw (end_of_pure v))) _ (change_keeps local (thaw (end_of_pure v))) (λ _. give_keeps local v)))))

  pub called_keeps : (f : Option Function) (vs : List Value) (frame : FrameAt) → Keeps local (called again f vs frame)
  called_keeps None vs frame = wrong_keeps local
  called_keeps (Some f) vs frame = called_by_keeps (is_pure f) f vs frame

  dispatched_to_keeps : (at : Spot) (x z : Option Ty) (m : ℕ) (vs : List Value) → Keeps local (dispatched_to again at x z m vs)
  dispatched_to_keeps at None z m vs = wrong_keeps local
  dispatched_to_keeps at (Some y.void) z m vs = wrong_keeps local
  dispatched_to_keeps at (Some y.int) z m vs = wrong_keeps local
  dispatched_to_keeps at (Some y.bool) z m vs = wrong_keeps local
  dispatched_to_keeps at (Some y.str) z m vs = wrong_keeps local
  dispatched_to_keeps at (Some (y.array x)) z m vs = wrong_keeps local
  dispatched_to_keeps at (Some (y.ref x)) z m vs = wrong_keeps local
  dispatched_to_keeps at (Some (y.imm x)) z m vs = wrong_keeps local
  dispatched_to_keeps at (Some (y.iso x)) z m vs = wrong_keeps local
  dispatched_to_keeps at (Some (y.kind i)) None m vs = wrong_keeps local
  dispatched_to_keeps at (Some (y.kind i)) (Some y.void) m vs = wrong_keeps local
  dispatched_to_keeps at (Some (y.kind i)) (Some y.int) m vs = wrong_keeps local
  dispatched_to_keeps at (Some (y.kind i)) (Some y.bool) m vs = wrong_keeps local
  dispatched_to_keeps at (Some (y.kind i)) (Some y.str) m vs = wrong_keeps local
  dispatched_to_keeps at (Some (y.kind i)) (Some (y.array x)) m vs = wrong_keeps local
  dispatched_to_keeps at (Some (y.kind i)) (Some (y.ref x)) m vs = wrong_keeps local
  dispatched_to_keeps at (Some (y.kind i)) (Some (y.imm x)) m vs = wrong_keeps local
  dispatched_to_keeps at (Some (y.kind i)) (Some (y.iso x)) m vs = wrong_keeps local
  dispatched_to_keeps at (Some (y.kind i)) (Some (y.kind k)) m vs = called_keeps (method_of again.parts i k m) vs (method_frame (name_text again.parts k) (name_text again.parts m) at)

  dispatched_on_keeps : (at : Spot) (x : Option Ty) (m : ℕ) (vs : List Value) (looked : Looked) → Keeps local (dispatched_on again at x m vs looked)
  dispatched_on_keeps at x m vs (found k object) = dispatched_to_keeps at x (type_of_kind again.parts object.kind) m (Ref k ∷ vs)
  dispatched_on_keeps at x m vs dead = trap_keeps local DeadReference at
  dispatched_on_keeps at x m vs nowhere = wrong_keeps local

  pub dispatched_keeps : (at : Spot) (x : Option Ty) (m : ℕ) (v : Value) (vs : List Value) → Keeps local (dispatched again at x m v vs)
  dispatched_keeps at x m v vs = record { from = λ calls l s. (dispatched_on_keeps at x m vs (look v s)).from calls l s }

  built_in_keeps : (at : Spot) (f : BuiltIn) (vs : List Value) → Keeps local (built_in_run again at f vs)
  built_in_keeps at b.Print ([]) = wrong_keeps local
  built_in_keeps at b.Print (v ∷ []) = step_keeps local at (print false v)
  built_in_keeps at b.Print (v ∷ w ∷ ws) = wrong_keeps local
  built_in_keeps at b.Println ([]) = wrong_keeps local
  built_in_keeps at b.Println (v ∷ []) = step_keeps local at (print true v)
  built_in_keeps at b.Println (v ∷ w ∷ ws) = wrong_keeps local
  built_in_keeps at b.Drop ([]) = wrong_keeps local
  built_in_keeps at b.Drop (v ∷ []) = drop_keeps at (Some v)
  built_in_keeps at b.Drop (v ∷ w ∷ ws) = wrong_keeps local
  built_in_keeps at b.Len ([]) = wrong_keeps local
  built_in_keeps at b.Len (v ∷ []) = step_keeps local at (len v)
  built_in_keeps at b.Len (v ∷ w ∷ ws) = wrong_keeps local
  built_in_keeps at b.Push ([]) = wrong_keeps local
  built_in_keeps at b.Push (r ∷ []) = wrong_keeps local
  built_in_keeps at b.Push (r ∷ v ∷ []) = step_keeps local at (push r v)
  built_in_keeps at b.Push (r ∷ v ∷ w ∷ ws) = wrong_keeps local
  built_in_keeps at b.Pop ([]) = wrong_keeps local
  built_in_keeps at b.Pop (r ∷ []) = step_keeps local at (pop r)
  built_in_keeps at b.Pop (r ∷ w ∷ ws) = wrong_keeps local
  built_in_keeps at b.Text ([]) = wrong_keeps local
  built_in_keeps at b.Text (v ∷ []) = step_keeps local at (o.text_of v)
  built_in_keeps at b.Text (v ∷ w ∷ ws) = wrong_keeps local
  built_in_keeps at b.Slice ([]) = wrong_keeps local
  built_in_keeps at b.Slice (t ∷ []) = wrong_keeps local
  built_in_keeps at b.Slice (t ∷ x ∷ []) = wrong_keeps local
  built_in_keeps at b.Slice (t ∷ x ∷ z ∷ []) = step_keeps local at (o.slice t x z)
  built_in_keeps at b.Slice (t ∷ x ∷ z ∷ w ∷ ws) = wrong_keeps local
  built_in_keeps at b.Byte ([]) = wrong_keeps local
  built_in_keeps at b.Byte (t ∷ []) = wrong_keeps local
  built_in_keeps at b.Byte (t ∷ x ∷ []) = step_keeps local at (o.byte t x)
  built_in_keeps at b.Byte (t ∷ x ∷ w ∷ ws) = wrong_keeps local
  built_in_keeps at b.IsNumber ([]) = wrong_keeps local
  built_in_keeps at b.IsNumber (t ∷ []) = step_keeps local at (o.is_number t)
  built_in_keeps at b.IsNumber (t ∷ w ∷ ws) = wrong_keeps local
  built_in_keeps at b.Number ([]) = wrong_keeps local
  built_in_keeps at b.Number (t ∷ []) = step_keeps local at (o.number t)
  built_in_keeps at b.Number (t ∷ w ∷ ws) = wrong_keeps local

  pub made_keeps : (at : Spot) (x : Ty) (vs : List Value) → Keeps local (made again at x vs)
  made_keeps at x vs = tick_then local (step at (make (kind_of again.parts x) vs)) (step_keeps local at (make (kind_of again.parts x) vs))

  callee_keeps : (k : NameAt) (f : Callee) (vs : List Value) → Keeps local (callee_run again k f vs)
  callee_keeps k (built_in f) vs = built_in_keeps k.at f vs
  callee_keeps k constructor vs = made_keeps k.at (y.kind k.name.0) vs
  callee_keeps k (function is_it) vs = called_keeps (function_named again.parts k.name.0) vs (function_frame (name_text again.parts k.name.0) k.at)

  on_place_keeps : (i : Option ℕ) (go : ℕ → Run (Option Value)) → ((i : ℕ) → Keeps local (go i)) → Keeps local (on_place i go)
  on_place_keeps None go h = wrong_keeps local
  on_place_keeps (Some i) go h = h i

  frozen_keeps : (at : Spot) (end : Option Value → RegionEnd) (m : Run (Option Value)) → Keeps local m → Keeps local (frozen_run at end m)
  frozen_keeps at end m h =
      bind_keeps local (deep 1 at) _ (deep_keeps local 1 at)
      (λ _. bind_keeps local (change freeze) _ (change_keeps local freeze)
      (λ _. bind_keeps local m _ h
      (λ v. bind_keeps local (change (thaw (end v))) _ (change_keeps local (thaw (end v))) (λ _. give_keeps local v))))

  -- ---- the tree

  whole_value : (e : Expr) → Keeps local (expr_run again e) → Keeps local (valued (expr_run again e))
  whole_value e h = valued_keeps local (expr_run again e) h

  mutual
    pub expr_keeps : (e : Expr) → expr_changes local e ≡ false → Keeps local (expr_run again e)
    expr_keeps (expr x node) ne = node_keeps x.value node ne

    node_keeps : (x : Ty) (node : Node) → node_changes local node ≡ false → Keeps local (node_run again x node)
    node_keeps x (number at k) ne = give_keeps local (Some (Int k))
    node_keeps x (quote at text) ne = give_keeps local (Some (Text text))
    node_keeps x (truth at b) ne = give_keeps local (Some (Truth b))
    node_keeps x (name k is_outer true) ne = bind_keeps local (move k.name.0) _ (move_keeps local k.name.0 ne) (λ v. give_keeps local (Some v))
    node_keeps x (name k is_outer false) ne = bind_keeps local (read k.name.0) _ (read_keeps local k.name.0) (λ v. give_keeps local (Some v))
    node_keeps x (paren at e) ne = expr_keeps e ne
    node_keeps x (chain e ls) ne = bind_keeps local (valued (expr_run again e)) _ (whole_value e (expr_keeps e (or_first _ _ ne))) (λ v. links_keeps v ls (or_second (expr_changes local e) _ ne))
    node_keeps x (unary at op e) ne = bind_keeps local (valued (expr_run again e)) _ (whole_value e (expr_keeps e ne)) (λ v. unary_keeps at op v)
    node_keeps x (steps e ss) ne = bind_keeps local (valued (expr_run again e)) _ (whole_value e (expr_keeps e (or_first _ _ ne))) (λ v. steps_keeps v ss (or_second (expr_changes local e) _ ne))
    node_keeps x (set at q e) ne =
        let both = or_first (is_local local q || expr_changes local q) (expr_changes local e) ne in
        bind_keeps local (valued (expr_run again e)) _ (whole_value e (expr_keeps e (or_second (is_local local q || expr_changes local q) (expr_changes local e) ne)))
        (λ v. while_waits_keeps local (is_owned (type e)) v (set_run again v q) (set_keeps v q (or_first (is_local local q) (expr_changes local q) both) (or_second (is_local local q) (expr_changes local q) both)))
    node_keeps x (call k f es) ne = bind_keeps local (exprs_run again es) _ (exprs_keeps es ne) (λ vs. callee_keeps k f vs)
    node_keeps x (t.array at z es) ne = bind_keeps local (exprs_run again es) _ (exprs_keeps es ne) (λ vs. made_keeps at x vs)
    node_keeps x (iso at b) ne = bind_keeps local (frozen_run at end_of_isolate (block_run again b)) _ (frozen_keeps at end_of_isolate (block_run again b) (block_keeps b ne)) (λ v. give_keeps local (isolated v))
    node_keeps x (form f) ne = form_keeps x f ne

    exprs_keeps : (es : Exprs) → exprs_change local es ≡ false → Keeps local (exprs_run again es)
    exprs_keeps no_exprs ne = give_keeps local []
    exprs_keeps (more_exprs e es) ne =
        bind_keeps local (valued (expr_run again e)) _ (whole_value e (expr_keeps e (or_first _ _ ne)))
        (λ v. bind_keeps local (while_waits (is_owned (type e)) v (exprs_run again es)) _ (while_waits_keeps local (is_owned (type e)) v (exprs_run again es) (exprs_keeps es (or_second (expr_changes local e) _ ne))) (λ vs. give_keeps local (v ∷ vs)))

    links_keeps : (v : Value) (ls : Links) → links_change local ls ≡ false → Keeps local (links_run again v ls)
    links_keeps v no_links ne = give_keeps local (Some v)
    links_keeps v (more_links (link x at op e) ls) ne =
        bind_keeps local (valued (link_run at op v (expr_run again e))) _ (valued_keeps local (link_run at op v (expr_run again e)) (link_keeps at op v (expr_run again e) (expr_keeps e (or_first _ _ ne))))
        (λ w. links_keeps w ls (or_second (expr_changes local e) _ ne))

    step_keeps_on : (v : Value) (x : Step) → step_changes local x ≡ false → Keeps local (step_run again v x)
    step_keeps_on v (field x view may at k) ne = on_place_keeps (field_place again.parts view k.0) _ (λ i. step_keeps local at (load i v))
    step_keeps_on v (index x view at e) ne = bind_keeps local (valued (expr_run again e)) _ (whole_value e (expr_keeps e ne)) (λ i. step_keeps local at (element v i))
    step_keeps_on v (method x view at k es) ne = bind_keeps local (exprs_run again es) _ (exprs_keeps es ne) (λ vs. dispatched_keeps at (seen_object view) k.0 v vs)

    steps_keeps : (v : Value) (ss : Steps) → steps_change local ss ≡ false → Keeps local (steps_run again v ss)
    steps_keeps v no_steps ne = give_keeps local (Some v)
    steps_keeps v (more_steps x no_steps) ne = step_keeps_on v x (or_first _ _ ne)
    steps_keeps v (more_steps x (more_steps z zs)) ne =
        bind_keeps local (valued (step_run again v x)) _ (valued_keeps local (step_run again v x) (step_keeps_on v x (or_first _ _ ne)))
        (λ w. steps_keeps w (more_steps z zs) (or_second (step_changes local x) _ ne))

    set_keeps : (new : Value) (q : Expr) → is_local local q ≡ false → expr_changes local q ≡ false → Keeps local (set_run again new q)
    set_keeps new (expr x (name k is_outer moved)) other ne = bind_keeps local (exchange k.name.0 new) _ (exchange_keeps local k.name.0 new other) (λ old. give_keeps local (Some old))
    set_keeps new (expr x (steps e ss)) other ne = bind_keeps local (valued (expr_run again e)) _ (whole_value e (expr_keeps e (or_first _ _ ne))) (λ v. set_steps_keeps new v ss (or_second (expr_changes local e) _ ne))
    set_keeps new (expr x (set at q e)) other ne = wrong_keeps local
    set_keeps new (expr x (chain e ls)) other ne = wrong_keeps local
    set_keeps new (expr x (unary at op e)) other ne = wrong_keeps local
    set_keeps new (expr x (number at k)) other ne = wrong_keeps local
    set_keeps new (expr x (quote at text)) other ne = wrong_keeps local
    set_keeps new (expr x (truth at b)) other ne = wrong_keeps local
    set_keeps new (expr x (call k f es)) other ne = wrong_keeps local
    set_keeps new (expr x (paren at e)) other ne = wrong_keeps local
    set_keeps new (expr x (t.array at z es)) other ne = wrong_keeps local
    set_keeps new (expr x (iso at b)) other ne = wrong_keeps local
    set_keeps new (expr x (form f)) other ne = wrong_keeps local

    set_steps_keeps : (new v : Value) (ss : Steps) → steps_change local ss ≡ false → Keeps local (set_steps again new v ss)
    set_steps_keeps new v no_steps ne = wrong_keeps local
    set_steps_keeps new v (more_steps x no_steps) ne = set_step_keeps new v x (or_first _ _ ne)
    set_steps_keeps new v (more_steps x (more_steps z zs)) ne =
        bind_keeps local (valued (step_run again v x)) _ (valued_keeps local (step_run again v x) (step_keeps_on v x (or_first _ _ ne)))
        (λ w. set_steps_keeps new w (more_steps z zs) (or_second (step_changes local x) _ ne))

    set_step_keeps : (new v : Value) (x : Step) → step_changes local x ≡ false → Keeps local (set_step again new v x)
    set_step_keeps new v (field x view may at k) ne = on_place_keeps (field_place again.parts view k.0) _ (λ i. step_keeps local at (swap i v new))
    set_step_keeps new v (index x view at e) ne = bind_keeps local (valued (expr_run again e)) _ (whole_value e (expr_keeps e ne)) (λ i. step_keeps local at (swap_element v i new))
    set_step_keeps new v (method x view at k es) ne = wrong_keeps local

    form_keeps : (x : Ty) (f : Form) → form_changes local f ≡ false → Keeps local (form_run again x f)
    form_keeps x (branch at c b es) ne =
        let both = or_first (expr_changes local c || block_changes local b) (elses_change local es) ne in
        bind_keeps local (valued (expr_run again c)) _ (whole_value c (expr_keeps c (or_first (expr_changes local c) (block_changes local b) both)))
        (λ v. choose_keeps local v (block_run again b) (elses_run again es) (block_keeps b (or_second (expr_changes local c) (block_changes local b) both)) (elses_keeps es (or_second (expr_changes local c || block_changes local b) (elses_change local es) ne)))
    form_keeps x (pure at b) ne = frozen_keeps at (λ v. end_of_block (is_owner x)) (block_run again b) (block_keeps b ne)
    form_keeps x (parallel_range at k a e b) ne =
        let both = or_first (expr_changes local a || expr_changes local e) (block_changes local b) ne in
        bind_keeps local (valued (expr_run again a)) _ (whole_value a (expr_keeps a (or_first (expr_changes local a) (expr_changes local e) both)))
        (λ v. bind_keeps local (valued (expr_run again e)) _ (whole_value e (expr_keeps e (or_second (expr_changes local a) (expr_changes local e) both)))
        (λ w. bind_keeps local (number_in v) _ (number_in_keeps local v)
        (λ from. bind_keeps local (number_in w) _ (number_in_keeps local w)
        (λ to. bind_keeps local (numbered at from to) _ (numbered_keeps local at from to)
        (λ firsts. bind_keeps local (loop at firsts (λ first. iteration_body again k false first b)) _ (loop_keeps local at firsts (λ first. iteration_body again k false first b) (λ first. body_keeps k false first b (or_second (expr_changes local a || expr_changes local e) (block_changes local b) ne)))
        (λ vs. loop_value_keeps local again.parts at x vs))))))
    form_keeps x (parallel_each at k e b) ne =
        bind_keeps local (valued (expr_run again e)) _ (whole_value e (expr_keeps e (or_first _ _ ne)))
        (λ v. bind_keeps local (taken_apart v) _ (taken_apart_keeps local v)
        (λ firsts. bind_keeps local (loop at firsts (λ first. iteration_body again k true first b)) _ (loop_keeps local at firsts (λ first. iteration_body again k true first b) (λ first. body_keeps k true first b (or_second (expr_changes local e) _ ne)))
        (λ vs. loop_value_keeps local again.parts at x vs)))

    body_keeps : (k : NameAt) (owned : Bool) (first : Value) (b : Block) → block_changes local b ≡ false → Keeps local (iteration_body again k owned first b)
    body_keeps k owned first (block at end x ss) ne = with_local_keeps end k.name.0 owned first (stmts_run again end ss) (stmts_keeps end ss ne)

    elses_keeps : (es : Elses) → elses_change local es ≡ false → Keeps local (elses_run again es)
    elses_keeps no_else ne = nothing_keeps local
    elses_keeps (otherwise b) ne = block_keeps b ne
    elses_keeps (more_elses (else_if at c b) es) ne =
        let both = or_first (expr_changes local c || block_changes local b) (elses_change local es) ne in
        bind_keeps local (valued (expr_run again c)) _ (whole_value c (expr_keeps c (or_first (expr_changes local c) (block_changes local b) both)))
        (λ v. choose_keeps local v (block_run again b) (elses_run again es) (block_keeps b (or_second (expr_changes local c) (block_changes local b) both)) (elses_keeps es (or_second (expr_changes local c || block_changes local b) (elses_change local es) ne)))

    pub block_keeps : (b : Block) → block_changes local b ≡ false → Keeps local (block_run again b)
    block_keeps (block at end x ss) ne = stmts_keeps end ss ne

    stmts_keeps : (end : Spot) (ss : Stmts) → stmts_change local ss ≡ false → Keeps local (stmts_run again end ss)
    stmts_keeps end no_stmts ne = nothing_keeps local
    stmts_keeps end (last e) ne = expr_keeps e ne
    stmts_keeps end (more_stmts (declare k x e) ss) ne =
        bind_keeps local (valued (expr_run again e)) _ (whole_value e (expr_keeps e (or_first _ _ ne)))
        (λ v. with_local_keeps end k.name.0 (is_owned x) v (stmts_run again end ss) (stmts_keeps end ss (or_second (expr_changes local e) _ ne)))
    stmts_keeps end (more_stmts (destructure at ks xs e) ss) ne =
        bind_keeps local (valued (expr_run again e)) _ (whole_value e (expr_keeps e (or_first _ _ ne)))
        (λ v. bind_keeps local (taken_apart v) _ (taken_apart_keeps local v)
        (λ vs. with_locals_keeps end (numbers_of ks) xs vs (stmts_run again end ss) (stmts_keeps end ss (or_second (expr_changes local e) _ ne))))
    stmts_keeps end (more_stmts (return_nothing at) ss) ne = bind_keeps local (stmt_run again (return_nothing at)) _ (stmt_keeps (return_nothing at) (or_first _ _ ne)) (λ _. stmts_keeps end ss (or_second (stmt_changes local (return_nothing at)) _ ne))
    stmts_keeps end (more_stmts (return_value at e) ss) ne = bind_keeps local (stmt_run again (return_value at e)) _ (stmt_keeps (return_value at e) (or_first _ _ ne)) (λ _. stmts_keeps end ss (or_second (stmt_changes local (return_value at e)) _ ne))
    stmts_keeps end (more_stmts (while at c b) ss) ne = bind_keeps local (stmt_run again (while at c b)) _ (stmt_keeps (while at c b) (or_first _ _ ne)) (λ _. stmts_keeps end ss (or_second (stmt_changes local (while at c b)) _ ne))
    stmts_keeps end (more_stmts (foreach at k a e b) ss) ne = bind_keeps local (stmt_run again (foreach at k a e b)) _ (stmt_keeps (foreach at k a e b) (or_first _ _ ne)) (λ _. stmts_keeps end ss (or_second (stmt_changes local (foreach at k a e b)) _ ne))
    stmts_keeps end (more_stmts (form_stmt f) ss) ne = bind_keeps local (stmt_run again (form_stmt f)) _ (stmt_keeps (form_stmt f) (or_first _ _ ne)) (λ _. stmts_keeps end ss (or_second (stmt_changes local (form_stmt f)) _ ne))
    stmts_keeps end (more_stmts (express e) ss) ne = bind_keeps local (stmt_run again (express e)) _ (stmt_keeps (express e) (or_first _ _ ne)) (λ _. stmts_keeps end ss (or_second (stmt_changes local (express e)) _ ne))

    stmt_keeps : (x : Stmt) → stmt_changes local x ≡ false → Keeps local (stmt_run again x)
    stmt_keeps (declare k x e) ne = wrong_keeps local
    stmt_keeps (destructure at ks xs e) ne = wrong_keeps local
    stmt_keeps (return_nothing at) ne = leave_keeps (Option Value) at None
    stmt_keeps (return_value at e) ne = bind_keeps local (expr_run again e) _ (expr_keeps e ne) (λ v. leave_keeps (Option Value) at v)
    stmt_keeps (while at c b) ne =
        let ct = or_first (expr_changes local c) (block_changes local b) ne in
        let bt = or_second (expr_changes local c) (block_changes local b) ne in
        bind_keeps local (valued (expr_run again c)) _ (whole_value c (expr_keeps c ct)) (λ v. choose_keeps local v (tick >>= (λ _. again.turn c b)) nothing (tick_then local (again.turn c b) (keeps.turns c b ct bt)) (nothing_keeps local))
    stmt_keeps (foreach at k a e b) ne =
        let both = or_first (expr_changes local a || expr_changes local e) (block_changes local b) ne in
        bind_keeps local (valued (expr_run again a)) _ (whole_value a (expr_keeps a (or_first (expr_changes local a) (expr_changes local e) both)))
        (λ v. bind_keeps local (valued (expr_run again e)) _ (whole_value e (expr_keeps e (or_second (expr_changes local a) (expr_changes local e) both)))
        (λ w. bind_keeps local (number_in v) _ (number_in_keeps local v)
        (λ from. bind_keeps local (number_in w) _ (number_in_keeps local w)
        (λ to. turns_keeps local (width_of from to) from (λ z. iteration_body again k false (Int z) b) (λ z. body_keeps k false (Int z) b (or_second (expr_changes local a || expr_changes local e) (block_changes local b) ne))))))
    stmt_keeps (form_stmt f) ne = form_keeps void f ne
    stmt_keeps (express e) ne = bind_keeps local (expr_run again e) _ (expr_keeps e ne) (λ v. drop_owned_keeps (expr_spot e) (is_owned (type e)) v)

  -- ---- after a tick

  back_keeps : (l : Locals) (r : Result (Option Value)) → KeptIn local l (back_to l r)
  back_keeps l (goes v k s) = same_refl local l
  back_keeps l (returned v s) = same_refl local l
  back_keeps l (ended end s) = tt

  with_bound_keeps : (k : Option Locals) (m : Run (Option Value)) → Keeps local (with_bound k m)
  with_bound_keeps None m = wrong_keeps local
  with_bound_keeps (Some k) m = record { from = λ calls l s. back_keeps l (m calls k s) }

  function_keeps : (f : Function) (vs : List Value) (frame : FrameAt) → Keeps local (function_run again f vs frame)
  function_keeps (function_body h b) vs frame = with_bound_keeps (bound (head_params h) vs []) (under frame (body_run again b))

  turn_keeps : (c : Expr) (b : Block) → expr_changes local c ≡ false → block_changes local b ≡ false → Keeps local (turn_run again c b)
  turn_keeps c b ct bt =
      bind_keeps local (block_run again b) _ (block_keeps b bt)
      (λ _. bind_keeps local (valued (expr_run again c)) _ (whole_value c (expr_keeps c ct))
      (λ v. choose_keeps local v (tick >>= (λ _. again.turn c b)) nothing (tick_then local (again.turn c b) (keeps.turns c b ct bt)) (nothing_keeps local)))

pub level_keeps : (local : ℕ) (p : Parts) (n : ℕ) → KeepsAll local (level p n)
level_keeps local p zero = record {
  turns = λ c b ct bt. record { from = λ calls l s. tt };
  calls = λ f vs frame. record { from = λ calls l s. tt };
  fields = λ vs frame. record { from = λ calls l s. tt };
}
level_keeps local p (suc n) = record {
  turns = λ c b ct bt. turn_keeps local (level p n) (level_keeps local p n) c b ct bt;
  calls = λ f vs frame. function_keeps local (level p n) (level_keeps local p n) f vs frame;
  fields = λ vs frame. under_keeps local frame (drop_values (level p n) frame.at vs) (drop_values_keeps local (level p n) (level_keeps local p n) frame.at vs);
}

-- what a local holds after a part that leaves it
pub still_holds : {A : Type 0} (local : ℕ) (l k : Locals) (v : A) (s : State) (r : Result A) → KeptIn local l r → r ≡ goes v k s → held_by local k ≡ held_by local l
still_holds local l k v s r a e = same_held local l k (subst (KeptIn local l) e a)
