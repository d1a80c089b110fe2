-- Every expression, statement and block goes on as runs do, where what it does after a tick does.
use Rattle.std.proofs.Common.{ℕ, suc, pos, List, [], ◌∷◌, Option, Some, None, Bool, true, false}
use Rattle.vale_state_spec.specs.State.{State, Looked, found, dead, nowhere, look, load, element, swap, swap_element, len, push, pop, make, merge, print, freeze, thaw, RegionEnd, end_of_pure, end_of_isolate, isolated, function_frame, method_frame, width_of, dies, drop_frame, join_isolate, object_of}
use Rattle.vale_state_spec.specs.World.{Value, Int, Truth, Text, Own, Ref, Iso, Object}
use Rattle.vale_base.specs.declared.spot.Spot.{Spot}
use Rattle.vale_base.specs.declared.trap.FrameAt.{FrameAt}
use Rattle.vale_base.specs.declared.trap.TrapKind.TheVariants.{DeadReference}
use Rattle.vale_text.specs.Steps as o
use Rattle.vale_text.specs.Operations as p
use Rattle.vale_syntax.specs.declared.built_in.BuiltIn.{BuiltIn}
use Rattle.vale_syntax.specs.declared.built_in.BuiltIn.TheVariants as b
use Rattle.vale_syntax.specs.declared.tree.NameAt.{NameAt}
use Rattle.vale_syntax.specs.declared.tree.BinaryOp.{BinaryOp}
use Rattle.vale_syntax.specs.declared.tree.BinaryOp.TheVariants.{Or, And, Equal, NotEqual, Less, LessEqual, Greater, GreaterEqual, Add, Sub, Mul, Div, Rem}
use Rattle.vale_syntax.specs.declared.tree.UnaryOp.{UnaryOp}
use Rattle.vale_syntax.specs.declared.tree.UnaryOp.TheVariants.{Minus, Not, Borrow, Merge}
use Rattle.vale_rules_spec.specs.Types.{Ty, void, is_owned, is_owner, seen_object}
use Rattle.vale_rules_spec.specs.Types as y
use Rattle.vale_rules_spec.specs.Typed.{Callee, built_in, constructor, function, Expr, expr, Node, set, chain, unary, steps, number, quote, truth, name, call, paren, array, iso, form, Exprs, no_exprs, more_exprs, link, Links, no_links, more_links, Step, field, method, index, Steps, no_steps, more_steps, Form, branch, pure, parallel_range, parallel_each, else_if, Elses, no_else, otherwise, more_elses, Block, block, Stmt, declare, destructure, return_nothing, return_value, while, foreach, form_stmt, express, Stmts, no_stmts, last, more_stmts, Function, type}
use Rattle.vale_model.specs.Parts.{name_text, is_pure, function_named, method_of, field_place, kind_of, type_of_kind, kind_text}
use Rattle.vale_model.specs.Runs.{Locals, goes, returned, Run, ◌>>=◌, give, nothing, step, change, tick, deep, valued, read, move, exchange, while_waits, innermost, outer}
use Rattle.vale_model.specs.Destruction.{Again, destructor_in, destroyed_by, destroyed, destroy, drop, drop_owned, drop_values, drop_locals, leave, with_local, with_locals}
use Rattle.vale_model.specs.Loops.{number_in, loop, numbered, taken_apart}
use Rattle.vale_model.specs.Expressions.{plus, operated, link_run, unary_run, called_by, called, dispatched_to, dispatched_on, dispatched, built_in_run, made, callee_run, on_place, frozen_run, end_of_block, expr_spot, numbers_of, expr_run, node_run, exprs_run, links_run, step_run, steps_run, set_run, set_steps, set_step, form_run, iteration_body, elses_run, block_run, stmts_run, stmt_run}
use Rattle.vale_text.specs.Progress.{StepGoesOn}
use Rattle.vale_model.specs.Progress.{AlwaysGoesOn}
use Rattle.vale_text.proofs.StateLaws.{later_refl, dies_later, freeze_later, thaw_later, join_isolate_later, print_goes, make_goes, load_goes, swap_goes, element_goes, swap_element_goes, len_goes, push_goes, pop_goes, merge_goes, ints_goes, join_goes, slice_goes, byte_goes, text_of_goes, is_number_goes, number_goes, opposite_goes, compare_goes}
use Rattle.vale_model.proofs.RunLaws.{then_goes, bind_goes, give_goes, nothing_goes, wrong_goes, trap_goes, step_goes, change_goes, tick_goes, deep_goes, valued_goes, choose_goes, read_goes, move_goes, exchange_goes, while_waits_goes, number_in_goes, turns_goes, loop_goes, numbered_goes, taken_apart_goes, loop_value_goes}

-- ---- operators

plus_goes : (v w : Value) (s : State) → StepGoesOn s (plus v w s)
plus_goes (Text x) w s = join_goes (Text x) w s
plus_goes (Int x) w s = ints_goes p.add (Int x) w s
plus_goes (Truth x) w s = ints_goes p.add (Truth x) w s
plus_goes (Own x) w s = ints_goes p.add (Own x) w s
plus_goes (Ref x) w s = ints_goes p.add (Ref x) w s
plus_goes (Iso x) w s = ints_goes p.add (Iso x) w s

pub operated_goes : (op : BinaryOp) (v w : Value) (s : State) → StepGoesOn s (operated op v w s)
operated_goes Or v w s = tt
operated_goes And v w s = tt
operated_goes Equal v w s = compare_goes o.equal v w s
operated_goes NotEqual v w s = compare_goes o.not_equal v w s
operated_goes Less v w s = compare_goes o.less v w s
operated_goes LessEqual v w s = compare_goes o.less_equal v w s
operated_goes Greater v w s = compare_goes o.greater v w s
operated_goes GreaterEqual v w s = compare_goes o.greater_equal v w s
operated_goes Add v w s = plus_goes v w s
operated_goes Sub v w s = ints_goes p.sub v w s
operated_goes Mul v w s = ints_goes p.mul v w s
operated_goes Div v w s = ints_goes p.div v w s
operated_goes Rem v w s = ints_goes p.rem v w s

-- what a part does after a tick goes on as runs do
pub record Follows (again : Again) (n : ℕ) : Type 0 where
  pub turns_on : (c : Expr) (b : Block) → AlwaysGoesOn n (again.turn c b)
  pub calls_on : (f : Function) (vs : List Value) (frame : FrameAt) → AlwaysGoesOn n (again.call f vs frame)
  pub fields_on : (vs : List Value) (frame : FrameAt) → AlwaysGoesOn n (again.fields vs frame)

module _ (again : Again) (n : ℕ) (follows : Follows again n) where
  -- ---- destruction

  destroyed_by_goes : (f : Option Function) (m : ℕ) (x : Object) (frame : FrameAt) → AlwaysGoesOn (suc n) (destroyed_by again f m x frame)
  destroyed_by_goes None m x frame =
      tick_goes n (change (dies m) >>= (λ _. again.fields x.values frame))
      (bind_goes n (change (dies m)) _ (change_goes n (dies m) (dies_later m)) (λ _. follows.fields_on x.values frame))
  destroyed_by_goes (Some f) m x frame = tick_goes n (again.call f (Own m ∷ []) frame) (follows.calls_on f (Own m ∷ []) frame)

  destroyed_goes : (at : Spot) (m : ℕ) (x : Option Object) → AlwaysGoesOn (suc n) (destroyed again at m x)
  destroyed_goes at m None = wrong_goes (suc n)
  destroyed_goes at m (Some x) =
      bind_goes (suc n) (deep 1 at) _ (deep_goes (suc n) 1 at)
      (λ _. destroyed_by_goes (destructor_in again.parts (type_of_kind again.parts x.kind)) m x (drop_frame (kind_text again.parts x.kind) at))

  pub destroy_goes : (at : Spot) (m : ℕ) → AlwaysGoesOn (suc n) (destroy again at m)
  destroy_goes at m = record { from = λ calls l s lt. (destroyed_goes at m (object_of m s)).from calls l s lt }

  drop_goes : (at : Spot) (v : Option Value) → AlwaysGoesOn (suc n) (drop again at v)
  drop_goes at None = nothing_goes (suc n)
  drop_goes at (Some (Own m)) = destroy_goes at m
  drop_goes at (Some (Iso m)) = bind_goes (suc n) (change (join_isolate m)) _ (change_goes (suc n) (join_isolate m) (join_isolate_later m)) (λ _. destroy_goes at m)
  drop_goes at (Some (Int z)) = nothing_goes (suc n)
  drop_goes at (Some (Truth z)) = nothing_goes (suc n)
  drop_goes at (Some (Text z)) = nothing_goes (suc n)
  drop_goes at (Some (Ref z)) = nothing_goes (suc n)

  drop_owned_goes : (at : Spot) (owned : Bool) (v : Option Value) → AlwaysGoesOn (suc n) (drop_owned again at owned v)
  drop_owned_goes at true v = drop_goes at v
  drop_owned_goes at false v = nothing_goes (suc n)

  pub drop_values_goes : (at : Spot) (vs : List Value) → AlwaysGoesOn (suc n) (drop_values again at vs)
  drop_values_goes at [] = nothing_goes (suc n)
  drop_values_goes at (v ∷ vs) = bind_goes (suc n) (drop again at (Some v)) _ (drop_goes at (Some v)) (λ _. drop_values_goes at vs)

  drop_locals_goes : (at : Spot) (l : Locals) → AlwaysGoesOn (suc n) (drop_locals again at l)
  drop_locals_goes at [] = nothing_goes (suc n)
  drop_locals_goes at (x ∷ l) = bind_goes (suc n) (drop_owned again at x.owned x.value) _ (drop_owned_goes at x.owned x.value) (λ _. drop_locals_goes at l)

  pub leave_goes : (A : Type 0) (at : Spot) (v : Option Value) → AlwaysGoesOn {A = A} (suc n) (leave again at v)
  leave_goes A at v = record { from = λ calls l s lt. then_goes s (suc n) (drop_locals again at l calls [] s) (λ u l s. returned v s) lt ((drop_locals_goes at l).from calls [] s lt) (λ u l t lt. (later_refl t, tt)) }

  pub with_local_goes : {A : Type 0} (end : Spot) (k : ℕ) (owned : Bool) (v : Value) (m : Run A) → AlwaysGoesOn (suc n) m → AlwaysGoesOn (suc n) (with_local again end k owned v m)
  with_local_goes end k owned v m h = record {
    from = λ calls l s lt. then_goes s (suc n) (m calls (record { name = Some k; value = Some v; owned = owned } ∷ l) s) _ lt
        (h.from calls (record { name = Some k; value = Some v; owned = owned } ∷ l) s lt)
        (λ r l t lt. then_goes t (suc n) (drop_owned again end owned (innermost l) calls (outer l) t) (λ u l s. goes r l s) lt ((drop_owned_goes end owned (innermost l)).from calls (outer l) t lt) (λ u l t lt. (later_refl t, tt)));
  }

  with_locals_goes : {A : Type 0} (end : Spot) (ks : List ℕ) (xs : List Ty) (vs : List Value) (m : Run A) → AlwaysGoesOn (suc n) m → AlwaysGoesOn (suc n) (with_locals again end ks xs vs m)
  with_locals_goes end [] [] [] m h = h
  with_locals_goes end [] [] (v ∷ vs) m h = wrong_goes (suc n)
  with_locals_goes end [] (x ∷ xs) vs m h = wrong_goes (suc n)
  with_locals_goes end (k ∷ ks) [] vs m h = wrong_goes (suc n)
  with_locals_goes end (k ∷ ks) (x ∷ xs) [] m h = wrong_goes (suc n)
  with_locals_goes end (k ∷ ks) (x ∷ xs) (v ∷ vs) m h = with_local_goes end k (is_owned x) v (with_locals again end ks xs vs m) (with_locals_goes end ks xs vs m h)

  -- ---- calls

  operated_link : (op : BinaryOp) (at : Spot) (v : Value) (m : Run (Option Value)) → AlwaysGoesOn (suc n) m → AlwaysGoesOn (suc n) (valued m >>= (λ w. step at (operated op v w)))
  operated_link op at v m h = bind_goes (suc n) (valued m) _ (valued_goes (suc n) m h) (λ w. step_goes (suc n) at (operated op v w) (operated_goes op v w))

  link_goes : (at : Spot) (op : BinaryOp) (v : Value) (m : Run (Option Value)) → AlwaysGoesOn (suc n) m → AlwaysGoesOn (suc n) (link_run at op v m)
  link_goes at Or v m h = choose_goes (suc n) v (give (Some (Truth true))) m (give_goes (suc n) (Some (Truth true))) h
  link_goes at And v m h = choose_goes (suc n) v m (give (Some (Truth false))) h (give_goes (suc n) (Some (Truth false)))
  link_goes at Equal v m h = operated_link Equal at v m h
  link_goes at NotEqual v m h = operated_link NotEqual at v m h
  link_goes at Less v m h = operated_link Less at v m h
  link_goes at LessEqual v m h = operated_link LessEqual at v m h
  link_goes at Greater v m h = operated_link Greater at v m h
  link_goes at GreaterEqual v m h = operated_link GreaterEqual at v m h
  link_goes at Add v m h = operated_link Add at v m h
  link_goes at Sub v m h = operated_link Sub at v m h
  link_goes at Mul v m h = operated_link Mul at v m h
  link_goes at Div v m h = operated_link Div at v m h
  link_goes at Rem v m h = operated_link Rem at v m h

  unary_goes : (at : Spot) (op : UnaryOp) (v : Value) → AlwaysGoesOn (suc n) (unary_run at op v)
  unary_goes at Minus v = step_goes (suc n) at (o.minus v) (ints_goes p.sub (Int (pos 0)) v)
  unary_goes at Not v = step_goes (suc n) at (o.opposite v) (opposite_goes v)
  unary_goes at Borrow v = give_goes (suc n) (Some v)
  unary_goes at Merge v = step_goes (suc n) at (merge v) (merge_goes v)

  called_by_goes : (is_it : Bool) (f : Function) (vs : List Value) (frame : FrameAt) → AlwaysGoesOn (suc n) (called_by is_it again f vs frame)
  called_by_goes false f vs frame =
      bind_goes (suc n) (deep 1 frame.at) _ (deep_goes (suc n) 1 frame.at) (λ _. tick_goes n (again.call f vs frame) (follows.calls_on f vs frame))
  called_by_goes true f vs frame =
      bind_goes (suc n) (deep 2 frame.at) _ (deep_goes (suc n) 2 frame.at)
      (λ _. tick_goes n (change freeze >>= (λ _. again.call f vs frame >>= (λ v. change (thaw (end_of_pure v)) >>= (λ _. give v))))
      (bind_goes n (change freeze) _ (change_goes n freeze freeze_later)
      (λ _. bind_goes n (again.call f vs frame) _ (follows.calls_on f vs frame)
      (λ v. bind_goes n (change (thaw (end_of_pure v))) _ (change_goes n (thaw (end_of_pure v)) (thaw_later (end_of_pure v))) (λ _. give_goes n v)))))

  pub called_goes : (f : Option Function) (vs : List Value) (frame : FrameAt) → AlwaysGoesOn (suc n) (called again f vs frame)
  called_goes None vs frame = wrong_goes (suc n)
  called_goes (Some f) vs frame = called_by_goes (is_pure f) f vs frame

  dispatched_to_goes : (at : Spot) (x z : Option Ty) (m : ℕ) (vs : List Value) → AlwaysGoesOn (suc n) (dispatched_to again at x z m vs)
  dispatched_to_goes at None z m vs = wrong_goes (suc n)
  dispatched_to_goes at (Some y.void) z m vs = wrong_goes (suc n)
  dispatched_to_goes at (Some y.int) z m vs = wrong_goes (suc n)
  dispatched_to_goes at (Some y.bool) z m vs = wrong_goes (suc n)
  dispatched_to_goes at (Some y.str) z m vs = wrong_goes (suc n)
  dispatched_to_goes at (Some (y.array x)) z m vs = wrong_goes (suc n)
  dispatched_to_goes at (Some (y.ref x)) z m vs = wrong_goes (suc n)
  dispatched_to_goes at (Some (y.imm x)) z m vs = wrong_goes (suc n)
  dispatched_to_goes at (Some (y.iso x)) z m vs = wrong_goes (suc n)
  dispatched_to_goes at (Some (y.kind i)) None m vs = wrong_goes (suc n)
  dispatched_to_goes at (Some (y.kind i)) (Some y.void) m vs = wrong_goes (suc n)
  dispatched_to_goes at (Some (y.kind i)) (Some y.int) m vs = wrong_goes (suc n)
  dispatched_to_goes at (Some (y.kind i)) (Some y.bool) m vs = wrong_goes (suc n)
  dispatched_to_goes at (Some (y.kind i)) (Some y.str) m vs = wrong_goes (suc n)
  dispatched_to_goes at (Some (y.kind i)) (Some (y.array x)) m vs = wrong_goes (suc n)
  dispatched_to_goes at (Some (y.kind i)) (Some (y.ref x)) m vs = wrong_goes (suc n)
  dispatched_to_goes at (Some (y.kind i)) (Some (y.imm x)) m vs = wrong_goes (suc n)
  dispatched_to_goes at (Some (y.kind i)) (Some (y.iso x)) m vs = wrong_goes (suc n)
  dispatched_to_goes at (Some (y.kind i)) (Some (y.kind k)) m vs = called_goes (method_of again.parts i k m) vs (method_frame (name_text again.parts k) (name_text again.parts m) at)

  dispatched_on_goes : (at : Spot) (x : Option Ty) (m : ℕ) (vs : List Value) (looked : Looked) → AlwaysGoesOn (suc n) (dispatched_on again at x m vs looked)
  dispatched_on_goes at x m vs (found k object) = dispatched_to_goes at x (type_of_kind again.parts object.kind) m (Ref k ∷ vs)
  dispatched_on_goes at x m vs dead = trap_goes (suc n) DeadReference at
  dispatched_on_goes at x m vs nowhere = wrong_goes (suc n)

  pub dispatched_goes : (at : Spot) (x : Option Ty) (m : ℕ) (v : Value) (vs : List Value) → AlwaysGoesOn (suc n) (dispatched again at x m v vs)
  dispatched_goes at x m v vs = record { from = λ calls l s lt. (dispatched_on_goes at x m vs (look v s)).from calls l s lt }

  built_in_goes : (at : Spot) (f : BuiltIn) (vs : List Value) → AlwaysGoesOn (suc n) (built_in_run again at f vs)
  built_in_goes at b.Print ([]) = wrong_goes (suc n)
  built_in_goes at b.Print (v ∷ []) = step_goes (suc n) at (print false v) (print_goes false v)
  built_in_goes at b.Print (v ∷ w ∷ ws) = wrong_goes (suc n)
  built_in_goes at b.Println ([]) = wrong_goes (suc n)
  built_in_goes at b.Println (v ∷ []) = step_goes (suc n) at (print true v) (print_goes true v)
  built_in_goes at b.Println (v ∷ w ∷ ws) = wrong_goes (suc n)
  built_in_goes at b.Drop ([]) = wrong_goes (suc n)
  built_in_goes at b.Drop (v ∷ []) = drop_goes at (Some v)
  built_in_goes at b.Drop (v ∷ w ∷ ws) = wrong_goes (suc n)
  built_in_goes at b.Len ([]) = wrong_goes (suc n)
  built_in_goes at b.Len (v ∷ []) = step_goes (suc n) at (len v) (len_goes v)
  built_in_goes at b.Len (v ∷ w ∷ ws) = wrong_goes (suc n)
  built_in_goes at b.Push ([]) = wrong_goes (suc n)
  built_in_goes at b.Push (r ∷ []) = wrong_goes (suc n)
  built_in_goes at b.Push (r ∷ v ∷ []) = step_goes (suc n) at (push r v) (push_goes r v)
  built_in_goes at b.Push (r ∷ v ∷ w ∷ ws) = wrong_goes (suc n)
  built_in_goes at b.Pop ([]) = wrong_goes (suc n)
  built_in_goes at b.Pop (r ∷ []) = step_goes (suc n) at (pop r) (pop_goes r)
  built_in_goes at b.Pop (r ∷ w ∷ ws) = wrong_goes (suc n)
  built_in_goes at b.Text ([]) = wrong_goes (suc n)
  built_in_goes at b.Text (v ∷ []) = step_goes (suc n) at (o.text_of v) (text_of_goes v)
  built_in_goes at b.Text (v ∷ w ∷ ws) = wrong_goes (suc n)
  built_in_goes at b.Slice ([]) = wrong_goes (suc n)
  built_in_goes at b.Slice (t ∷ []) = wrong_goes (suc n)
  built_in_goes at b.Slice (t ∷ x ∷ []) = wrong_goes (suc n)
  built_in_goes at b.Slice (t ∷ x ∷ z ∷ []) = step_goes (suc n) at (o.slice t x z) (slice_goes t x z)
  built_in_goes at b.Slice (t ∷ x ∷ z ∷ w ∷ ws) = wrong_goes (suc n)
  built_in_goes at b.Byte ([]) = wrong_goes (suc n)
  built_in_goes at b.Byte (t ∷ []) = wrong_goes (suc n)
  built_in_goes at b.Byte (t ∷ x ∷ []) = step_goes (suc n) at (o.byte t x) (byte_goes t x)
  built_in_goes at b.Byte (t ∷ x ∷ w ∷ ws) = wrong_goes (suc n)
  built_in_goes at b.IsNumber ([]) = wrong_goes (suc n)
  built_in_goes at b.IsNumber (t ∷ []) = step_goes (suc n) at (o.is_number t) (is_number_goes t)
  built_in_goes at b.IsNumber (t ∷ w ∷ ws) = wrong_goes (suc n)
  built_in_goes at b.Number ([]) = wrong_goes (suc n)
  built_in_goes at b.Number (t ∷ []) = step_goes (suc n) at (o.number t) (number_goes t)
  built_in_goes at b.Number (t ∷ w ∷ ws) = wrong_goes (suc n)

  pub made_goes : (at : Spot) (x : Ty) (vs : List Value) → AlwaysGoesOn (suc n) (made again at x vs)
  made_goes at x vs = tick_goes n (step at (make (kind_of again.parts x) vs)) (step_goes n at (make (kind_of again.parts x) vs) (make_goes (kind_of again.parts x) vs))

  callee_goes : (k : NameAt) (f : Callee) (vs : List Value) → AlwaysGoesOn (suc n) (callee_run again k f vs)
  callee_goes k (built_in f) vs = built_in_goes k.at f vs
  callee_goes k constructor vs = made_goes k.at (y.kind k.name.0) vs
  callee_goes k (function is_it) vs = called_goes (function_named again.parts k.name.0) vs (function_frame (name_text again.parts k.name.0) k.at)

  on_place_goes : (i : Option ℕ) (go : ℕ → Run (Option Value)) → ((i : ℕ) → AlwaysGoesOn (suc n) (go i)) → AlwaysGoesOn (suc n) (on_place i go)
  on_place_goes None go h = wrong_goes (suc n)
  on_place_goes (Some i) go h = h i

  frozen_goes : (at : Spot) (end : Option Value → RegionEnd) (m : Run (Option Value)) → AlwaysGoesOn (suc n) m → AlwaysGoesOn (suc n) (frozen_run at end m)
  frozen_goes at end m h =
      bind_goes (suc n) (deep 1 at) _ (deep_goes (suc n) 1 at)
      (λ _. bind_goes (suc n) (change freeze) _ (change_goes (suc n) freeze freeze_later)
      (λ _. bind_goes (suc n) m _ h
      (λ v. bind_goes (suc n) (change (thaw (end v))) _ (change_goes (suc n) (thaw (end v)) (thaw_later (end v))) (λ _. give_goes (suc n) v))))

  -- ---- the tree

  mutual
    pub expr_goes : (e : Expr) → AlwaysGoesOn (suc n) (expr_run again e)
    expr_goes (expr x node) = node_goes x.value node

    node_goes : (x : Ty) (node : Node) → AlwaysGoesOn (suc n) (node_run again x node)
    node_goes x (number at k) = give_goes (suc n) (Some (Int k))
    node_goes x (quote at text) = give_goes (suc n) (Some (Text text))
    node_goes x (truth at b) = give_goes (suc n) (Some (Truth b))
    node_goes x (name k is_outer true) = bind_goes (suc n) (move k.name.0) _ (move_goes (suc n) k.name.0) (λ v. give_goes (suc n) (Some v))
    node_goes x (name k is_outer false) = bind_goes (suc n) (read k.name.0) _ (read_goes (suc n) k.name.0) (λ v. give_goes (suc n) (Some v))
    node_goes x (paren at e) = expr_goes e
    node_goes x (chain e ls) = bind_goes (suc n) (valued (expr_run again e)) _ (valued_goes (suc n) (expr_run again e) (expr_goes e)) (λ v. links_goes v ls)
    node_goes x (unary at op e) = bind_goes (suc n) (valued (expr_run again e)) _ (valued_goes (suc n) (expr_run again e) (expr_goes e)) (λ v. unary_goes at op v)
    node_goes x (steps e ss) = bind_goes (suc n) (valued (expr_run again e)) _ (valued_goes (suc n) (expr_run again e) (expr_goes e)) (λ v. steps_goes v ss)
    node_goes x (set at q e) = bind_goes (suc n) (valued (expr_run again e)) _ (valued_goes (suc n) (expr_run again e) (expr_goes e)) (λ v. while_waits_goes (suc n) (is_owned (type e)) v (set_run again v q) (set_goes v q))
    node_goes x (call k f es) = bind_goes (suc n) (exprs_run again es) _ (exprs_goes es) (λ vs. callee_goes k f vs)
    node_goes x (array at t es) = bind_goes (suc n) (exprs_run again es) _ (exprs_goes es) (λ vs. made_goes at x vs)
    node_goes x (iso at b) = bind_goes (suc n) (frozen_run at end_of_isolate (block_run again b)) _ (frozen_goes at end_of_isolate (block_run again b) (block_goes b)) (λ v. give_goes (suc n) (isolated v))
    node_goes x (form f) = form_goes x f

    exprs_goes : (es : Exprs) → AlwaysGoesOn (suc n) (exprs_run again es)
    exprs_goes no_exprs = give_goes (suc n) []
    exprs_goes (more_exprs e es) =
        bind_goes (suc n) (valued (expr_run again e)) _ (valued_goes (suc n) (expr_run again e) (expr_goes e))
        (λ v. bind_goes (suc n) (while_waits (is_owned (type e)) v (exprs_run again es)) _ (while_waits_goes (suc n) (is_owned (type e)) v (exprs_run again es) (exprs_goes es)) (λ vs. give_goes (suc n) (v ∷ vs)))

    links_goes : (v : Value) (ls : Links) → AlwaysGoesOn (suc n) (links_run again v ls)
    links_goes v no_links = give_goes (suc n) (Some v)
    links_goes v (more_links (link x at op e) ls) =
        bind_goes (suc n) (valued (link_run at op v (expr_run again e))) _ (valued_goes (suc n) (link_run at op v (expr_run again e)) (link_goes at op v (expr_run again e) (expr_goes e))) (λ w. links_goes w ls)

    step_goes_on : (v : Value) (x : Step) → AlwaysGoesOn (suc n) (step_run again v x)
    step_goes_on v (field x view may at k) = on_place_goes (field_place again.parts view k.0) _ (λ i. step_goes (suc n) at (load i v) (load_goes i v))
    step_goes_on v (index x view at e) = bind_goes (suc n) (valued (expr_run again e)) _ (valued_goes (suc n) (expr_run again e) (expr_goes e)) (λ i. step_goes (suc n) at (element v i) (element_goes v i))
    step_goes_on v (method x view at k es) = bind_goes (suc n) (exprs_run again es) _ (exprs_goes es) (λ vs. dispatched_goes at (seen_object view) k.0 v vs)

    steps_goes : (v : Value) (ss : Steps) → AlwaysGoesOn (suc n) (steps_run again v ss)
    steps_goes v no_steps = give_goes (suc n) (Some v)
    steps_goes v (more_steps x no_steps) = step_goes_on v x
    steps_goes v (more_steps x (more_steps z zs)) =
        bind_goes (suc n) (valued (step_run again v x)) _ (valued_goes (suc n) (step_run again v x) (step_goes_on v x)) (λ w. steps_goes w (more_steps z zs))

    set_goes : (new : Value) (q : Expr) → AlwaysGoesOn (suc n) (set_run again new q)
    set_goes new (expr x (name k is_outer moved)) = bind_goes (suc n) (exchange k.name.0 new) _ (exchange_goes (suc n) k.name.0 new) (λ old. give_goes (suc n) (Some old))
    set_goes new (expr x (steps e ss)) = bind_goes (suc n) (valued (expr_run again e)) _ (valued_goes (suc n) (expr_run again e) (expr_goes e)) (λ v. set_steps_goes new v ss)
    set_goes new (expr x (set at q e)) = wrong_goes (suc n)
    set_goes new (expr x (chain e ls)) = wrong_goes (suc n)
    set_goes new (expr x (unary at op e)) = wrong_goes (suc n)
    set_goes new (expr x (number at k)) = wrong_goes (suc n)
    set_goes new (expr x (quote at text)) = wrong_goes (suc n)
    set_goes new (expr x (truth at b)) = wrong_goes (suc n)
    set_goes new (expr x (call k f es)) = wrong_goes (suc n)
    set_goes new (expr x (paren at e)) = wrong_goes (suc n)
    set_goes new (expr x (array at t es)) = wrong_goes (suc n)
    set_goes new (expr x (iso at b)) = wrong_goes (suc n)
    set_goes new (expr x (form f)) = wrong_goes (suc n)

    set_steps_goes : (new v : Value) (ss : Steps) → AlwaysGoesOn (suc n) (set_steps again new v ss)
    set_steps_goes new v no_steps = wrong_goes (suc n)
    set_steps_goes new v (more_steps x no_steps) = set_step_goes new v x
    set_steps_goes new v (more_steps x (more_steps z zs)) = bind_goes (suc n) (valued (step_run again v x)) _ (valued_goes (suc n) (step_run again v x) (step_goes_on v x)) (λ w. set_steps_goes new w (more_steps z zs))

    set_step_goes : (new v : Value) (x : Step) → AlwaysGoesOn (suc n) (set_step again new v x)
    set_step_goes new v (field x view may at k) = on_place_goes (field_place again.parts view k.0) _ (λ i. step_goes (suc n) at (swap i v new) (swap_goes i v new))
    set_step_goes new v (index x view at e) = bind_goes (suc n) (valued (expr_run again e)) _ (valued_goes (suc n) (expr_run again e) (expr_goes e)) (λ i. step_goes (suc n) at (swap_element v i new) (swap_element_goes v i new))
    set_step_goes new v (method x view at k es) = wrong_goes (suc n)

    form_goes : (x : Ty) (f : Form) → AlwaysGoesOn (suc n) (form_run again x f)
    form_goes x (branch at c b es) = bind_goes (suc n) (valued (expr_run again c)) _ (valued_goes (suc n) (expr_run again c) (expr_goes c)) (λ v. choose_goes (suc n) v (block_run again b) (elses_run again es) (block_goes b) (elses_goes es))
    form_goes x (pure at b) = frozen_goes at (λ v. end_of_block (is_owner x)) (block_run again b) (block_goes b)
    form_goes x (parallel_range at k a e b) =
        bind_goes (suc n) (valued (expr_run again a)) _ (valued_goes (suc n) (expr_run again a) (expr_goes a))
        (λ v. bind_goes (suc n) (valued (expr_run again e)) _ (valued_goes (suc n) (expr_run again e) (expr_goes e))
        (λ w. bind_goes (suc n) (number_in v) _ (number_in_goes (suc n) v)
        (λ from. bind_goes (suc n) (number_in w) _ (number_in_goes (suc n) w)
        (λ to. bind_goes (suc n) (numbered at from to) _ (numbered_goes (suc n) at from to)
        (λ firsts. bind_goes (suc n) (loop at firsts (λ first. iteration_body again k false first b)) _ (loop_goes n at firsts (λ first. iteration_body again k false first b) (λ first. body_goes k false first b))
        (λ vs. loop_value_goes n again.parts at x vs))))))
    form_goes x (parallel_each at k e b) =
        bind_goes (suc n) (valued (expr_run again e)) _ (valued_goes (suc n) (expr_run again e) (expr_goes e))
        (λ v. bind_goes (suc n) (taken_apart v) _ (taken_apart_goes n v)
        (λ firsts. bind_goes (suc n) (loop at firsts (λ first. iteration_body again k true first b)) _ (loop_goes n at firsts (λ first. iteration_body again k true first b) (λ first. body_goes k true first b))
        (λ vs. loop_value_goes n again.parts at x vs)))

    body_goes : (k : NameAt) (owned : Bool) (first : Value) (b : Block) → AlwaysGoesOn (suc n) (iteration_body again k owned first b)
    body_goes k owned first (block at end x ss) = with_local_goes end k.name.0 owned first (stmts_run again end ss) (stmts_goes end ss)

    elses_goes : (es : Elses) → AlwaysGoesOn (suc n) (elses_run again es)
    elses_goes no_else = nothing_goes (suc n)
    elses_goes (otherwise b) = block_goes b
    elses_goes (more_elses (else_if at c b) es) = bind_goes (suc n) (valued (expr_run again c)) _ (valued_goes (suc n) (expr_run again c) (expr_goes c)) (λ v. choose_goes (suc n) v (block_run again b) (elses_run again es) (block_goes b) (elses_goes es))

    pub block_goes : (b : Block) → AlwaysGoesOn (suc n) (block_run again b)
    block_goes (block at end x ss) = stmts_goes end ss

    stmts_goes : (end : Spot) (ss : Stmts) → AlwaysGoesOn (suc n) (stmts_run again end ss)
    stmts_goes end no_stmts = nothing_goes (suc n)
    stmts_goes end (last e) = expr_goes e
    stmts_goes end (more_stmts (declare k x e) ss) = bind_goes (suc n) (valued (expr_run again e)) _ (valued_goes (suc n) (expr_run again e) (expr_goes e)) (λ v. with_local_goes end k.name.0 (is_owned x) v (stmts_run again end ss) (stmts_goes end ss))
    stmts_goes end (more_stmts (destructure at ks xs e) ss) =
        bind_goes (suc n) (valued (expr_run again e)) _ (valued_goes (suc n) (expr_run again e) (expr_goes e))
        (λ v. bind_goes (suc n) (taken_apart v) _ (taken_apart_goes n v) (λ vs. with_locals_goes end (numbers_of ks) xs vs (stmts_run again end ss) (stmts_goes end ss)))
    stmts_goes end (more_stmts (return_nothing at) ss) = bind_goes (suc n) (stmt_run again (return_nothing at)) _ (stmt_goes (return_nothing at)) (λ _. stmts_goes end ss)
    stmts_goes end (more_stmts (return_value at e) ss) = bind_goes (suc n) (stmt_run again (return_value at e)) _ (stmt_goes (return_value at e)) (λ _. stmts_goes end ss)
    stmts_goes end (more_stmts (while at c b) ss) = bind_goes (suc n) (stmt_run again (while at c b)) _ (stmt_goes (while at c b)) (λ _. stmts_goes end ss)
    stmts_goes end (more_stmts (foreach at k a e b) ss) = bind_goes (suc n) (stmt_run again (foreach at k a e b)) _ (stmt_goes (foreach at k a e b)) (λ _. stmts_goes end ss)
    stmts_goes end (more_stmts (form_stmt f) ss) = bind_goes (suc n) (stmt_run again (form_stmt f)) _ (stmt_goes (form_stmt f)) (λ _. stmts_goes end ss)
    stmts_goes end (more_stmts (express e) ss) = bind_goes (suc n) (stmt_run again (express e)) _ (stmt_goes (express e)) (λ _. stmts_goes end ss)

    stmt_goes : (x : Stmt) → AlwaysGoesOn (suc n) (stmt_run again x)
    stmt_goes (declare k x e) = wrong_goes (suc n)
    stmt_goes (destructure at ks xs e) = wrong_goes (suc n)
    stmt_goes (return_nothing at) = leave_goes (Option Value) at None
    stmt_goes (return_value at e) = bind_goes (suc n) (expr_run again e) _ (expr_goes e) (λ v. leave_goes (Option Value) at v)
    stmt_goes (while at c b) = bind_goes (suc n) (valued (expr_run again c)) _ (valued_goes (suc n) (expr_run again c) (expr_goes c)) (λ v. choose_goes (suc n) v (tick >>= (λ _. again.turn c b)) nothing (tick_goes n (again.turn c b) (follows.turns_on c b)) (nothing_goes (suc n)))
    stmt_goes (foreach at k a e b) =
        bind_goes (suc n) (valued (expr_run again a)) _ (valued_goes (suc n) (expr_run again a) (expr_goes a))
        (λ v. bind_goes (suc n) (valued (expr_run again e)) _ (valued_goes (suc n) (expr_run again e) (expr_goes e))
        (λ w. bind_goes (suc n) (number_in v) _ (number_in_goes (suc n) v)
        (λ from. bind_goes (suc n) (number_in w) _ (number_in_goes (suc n) w)
        (λ to. turns_goes n (width_of from to) from (λ x. iteration_body again k false (Int x) b) (λ x. body_goes k false (Int x) b)))))
    stmt_goes (form_stmt f) = form_goes void f
    stmt_goes (express e) = bind_goes (suc n) (expr_run again e) _ (expr_goes e) (λ v. drop_owned_goes (expr_spot e) (is_owned (type e)) v)
