-- With more ticks left every expression, statement and block does the same, but where it is cut with fewer.
use Rattle.std.proofs.Common.{◌≡◌, ℕ, suc, ◌+◌, ◌≤◌, ◌<◌, ℤ, pos, List, [], ◌∷◌, Option, Some, None, Bool, true, false, refl, sym, subst}
use Rattle.std.specs.Prelude.{if◌then◌else◌, nat_lt}
use Rattle.vale_base.specs.Limits.{width_limit}
use Rattle.vale_state_spec.specs.State.{State, Calls, Looked, found, dead, nowhere, look, load, element, swap, swap_element, len, push, pop, make, merge, print, freeze, thaw, RegionEnd, end_of_pure, end_of_isolate, isolated, function_frame, method_frame, width_of, dies, drop_frame, join_isolate, object_of, freeze_iteration, thaw_iteration, iteration_frame, is_outermost, loop_counted, counting_as}
use Rattle.vale_state_spec.specs.World.{Value, Int, Truth, Text, Own, Ref, Iso, Object}
use Rattle.vale_base.specs.declared.spot.Spot.{Spot}
use Rattle.vale_base.specs.declared.trap.FrameAt.{FrameAt}
use Rattle.vale_base.specs.declared.trap.TrapKind.TheVariants.{DeadReference, LoopTooWide}
use Rattle.vale_text.specs.Steps as o
use Rattle.vale_text.specs.Operations as q
use Rattle.vale_syntax.specs.declared.built_in.BuiltIn.{BuiltIn}
use Rattle.vale_syntax.specs.declared.built_in.BuiltIn.TheVariants as b
use Rattle.vale_syntax.specs.declared.tree.NameAt.{NameAt}
use Rattle.vale_syntax.specs.declared.tree.BinaryOp.{BinaryOp}
use Rattle.vale_syntax.specs.declared.tree.BinaryOp.TheVariants.{Or, And, Equal, NotEqual, Less, LessEqual, Greater, GreaterEqual, Add, Sub, Mul, Div, Rem}
use Rattle.vale_syntax.specs.declared.tree.UnaryOp.{UnaryOp}
use Rattle.vale_syntax.specs.declared.tree.UnaryOp.TheVariants.{Minus, Not, Borrow, Merge}
use Rattle.vale_rules_spec.specs.Types.{Ty, void, is_owned, is_owner, seen_object}
use Rattle.vale_rules_spec.specs.Types as y
use Rattle.vale_rules_spec.specs.Typed.{Callee, built_in, constructor, function, Expr, expr, Node, set, chain, unary, steps, number, quote, truth, name, call, paren, array, iso, form, Exprs, no_exprs, more_exprs, link, Links, no_links, more_links, Step, field, method, index, Steps, no_steps, more_steps, Form, branch, pure, parallel_range, parallel_each, else_if, Elses, no_else, otherwise, more_elses, Block, block, Stmt, declare, destructure, return_nothing, return_value, while, foreach, form_stmt, express, Stmts, no_stmts, last, more_stmts, Function, type}
use Rattle.vale_model.specs.Parts.{Parts, name_text, is_pure, function_named, method_of, field_place, kind_of, type_of_kind, kind_text}
use Rattle.vale_model.specs.Runs.{Locals, goes, returned, Run, then_do, ◌>>=◌, give, trap, step, valued, innermost, outer}
use Rattle.vale_model.specs.Destruction.{Again, destructor_in, destroyed_by, destroyed, destroy, drop, drop_owned, drop_values, drop_locals, leave, with_local, with_locals}
use Rattle.vale_model.specs.Loops.{in_region, iteration, collected, in_order, each_alone, loop, indices, numbered, emptied, taken_apart, loop_value}
use Rattle.vale_model.specs.Expressions.{operated, link_run, unary_run, called_by, called, dispatched_to, dispatched_on, dispatched, built_in_run, made, callee_run, on_place, frozen_run, end_of_block, expr_spot, numbers_of, expr_run, node_run, exprs_run, links_run, step_run, steps_run, set_run, set_steps, set_step, form_run, iteration_body, elses_run, block_run, stmts_run, stmt_run}
use Rattle.vale_text.proofs.StateLaws.{later_refl, dies_later, freeze_later, thaw_later, freeze_iteration_later, thaw_iteration_later, join_isolate_later, counting_as_later, print_goes, make_goes, load_goes, swap_goes, element_goes, swap_element_goes, len_goes, push_goes, pop_goes, merge_goes, ints_goes, slice_goes, byte_goes, text_of_goes, is_number_goes, number_goes, opposite_goes}
use Rattle.vale_model.proofs.RunLaws.{then_goes, step_goes, change_goes, loop_goes, taken_apart_goes}
use Rattle.vale_model.proofs.TreeLaws.{Follows, operated_goes, destroy_goes, leave_goes, with_local_goes, dispatched_goes}
use Rattle.vale_model.proofs.LongerLaws.{Beside, beside, Longer, AlwaysLonger, then_longer, few_left, bind_longer, give_longer, nothing_longer, wrong_longer, trap_longer, step_longer, change_longer, tick_longer, deep_longer, under_longer, fewer_longer, valued_longer, choose_longer, read_longer, move_longer, exchange_longer, while_waits_longer, number_in_longer, turns_longer, freeze_iteration_changes, thaw_iteration_changes}
use Rattle.vale_model.proofs.LongerSteps.{dies_changes, freeze_changes, thaw_changes, join_isolate_changes, print_longer, make_longer, load_longer, swap_longer, element_longer, swap_element_longer, len_longer, push_longer, pop_longer, merge_longer, ints_longer, slice_longer, byte_longer, text_of_longer, is_number_longer, number_longer, opposite_longer, operated_longer}

-- ---- loops

in_region_longer : (n : ℕ) (body body' : Run (Option Value)) → AlwaysLonger n body body' → AlwaysLonger n (in_region body) (in_region body')
in_region_longer n body body' h =
    bind_longer n _ _ _ _ (change_longer n freeze_iteration (change_goes n freeze_iteration freeze_iteration_later) freeze_iteration_changes)
    (λ _. bind_longer n body body' _ _ h
    (λ v. bind_longer n _ _ _ _ (change_longer n (thaw_iteration (end_of_isolate v)) (change_goes n (thaw_iteration (end_of_isolate v)) (thaw_iteration_later (end_of_isolate v))) (thaw_iteration_changes (end_of_isolate v)))
    (λ _. give_longer n (isolated v))))

iteration_longer : (n : ℕ) (at : Spot) (k : ℕ) (body body' : Run (Option Value)) → AlwaysLonger (suc n) body body' → AlwaysLonger (suc n) (iteration at k body) (iteration at k body')
iteration_longer n at k body body' h =
    bind_longer (suc n) _ _ _ _ (deep_longer (suc n) 1 at)
    (λ _. tick_longer n _ _ (under_longer n (iteration_frame k at) (in_region_longer n body body' (fewer_longer n h))))

in_order_longer : (n : ℕ) (at : Spot) (k : ℕ) (vs : List Value) (body body' : Value → Run (Option Value)) → ((v : Value) → AlwaysLonger (suc n) (body v) (body' v)) → AlwaysLonger (suc n) (in_order at k vs body) (in_order at k vs body')
in_order_longer n at k [] body body' h = give_longer (suc n) []
in_order_longer n at k (v ∷ vs) body body' h =
    bind_longer (suc n) _ _ _ _ (iteration_longer n at k (body v) (body' v) (h v))
    (λ u. bind_longer (suc n) _ _ _ _ (in_order_longer n at (k + 1) vs body body' h) (λ us. give_longer (suc n) (collected u us)))

loop_longer : (n : ℕ) (at : Spot) (vs : List Value) (body body' : Value → Run (Option Value)) → ((v : Value) → AlwaysLonger (suc n) (body v) (body' v)) → AlwaysLonger (suc n) (loop at vs body) (loop at vs body')
loop_longer n at vs body body' h = record {
  goes_on = loop_goes n at vs body' (λ v. (h v).goes_on);
  longer = λ calls l s x le lt. by calls l s x le lt (is_outermost s);
}
  where
    by : (calls : Calls) (l : Locals) (s : State) (x : Beside) → s.left ≤ x.left → x.left < suc n → (o : Bool) →
        Longer (if o then then_do (in_order at 0 vs body calls l (loop_counted (each_alone at 0 vs body calls l s) s)) (λ us l t. goes us l (counting_as s t)) else in_order at 0 vs body calls l s)
        (if o then then_do (in_order at 0 vs body' calls l (loop_counted (each_alone at 0 vs body' calls l (beside s x)) (beside s x))) (λ us l t. goes us l (counting_as (beside s x) t)) else in_order at 0 vs body' calls l (beside s x))
    by calls l s x le lt false = (in_order_longer n at 0 vs body body' h).longer calls l s x le lt
    by calls l s x le lt true =
        let u = loop_counted (each_alone at 0 vs body calls l s) s in
        let t = loop_counted (each_alone at 0 vs body' calls l (beside s x)) (beside s x) in
        let z : Beside = record { left = x.left; most = t.most; made = t.made; quiet = true } in
        then_longer (suc n) (in_order at 0 vs body calls l u) (in_order at 0 vs body' calls l t) (λ us l t. goes us l (counting_as s t)) (λ us l t. goes us l (counting_as (beside s x) t))
        (few_left (suc n) t (in_order at 0 vs body' calls l t) lt ((in_order_longer n at 0 vs body body' h).goes_on.from calls l t lt))
        (λ us l t lt. (counting_as_later (beside s x) t, tt))
        (λ us l t y le lt. (record y { quiet = x.quiet }, le, refl))
        ((in_order_longer n at 0 vs body body' h).longer calls l u z le lt)

numbered_longer : (n : ℕ) (at : Spot) (c d : ℤ) → AlwaysLonger n (numbered at c d) (numbered at c d)
numbered_longer n at c d = by (nat_lt width_limit (width_of c d))
  where
    by : (t : Bool) → AlwaysLonger n (if t then trap LoopTooWide at else give (indices (width_of c d) c)) (if t then trap LoopTooWide at else give (indices (width_of c d) c))
    by true = trap_longer n LoopTooWide at
    by false = give_longer n (indices (width_of c d) c)

emptied_longer : (n k : ℕ) (o : Option Object) → AlwaysLonger (suc n) (emptied k o) (emptied k o)
emptied_longer n k None = wrong_longer (suc n)
emptied_longer n k (Some o) =
    tick_longer n _ _ (bind_longer n _ _ _ _ (change_longer n (dies k) (change_goes n (dies k) (dies_later k)) (dies_changes k)) (λ _. give_longer n o.values))

taken_apart_longer : (n : ℕ) (v : Value) → AlwaysLonger (suc n) (taken_apart v) (taken_apart v)
taken_apart_longer n (Own m) = record { goes_on = taken_apart_goes n (Own m); longer = λ calls l s x le lt. (emptied_longer n m (object_of m s)).longer calls l s x le lt }
taken_apart_longer n (Int z) = wrong_longer (suc n)
taken_apart_longer n (Truth z) = wrong_longer (suc n)
taken_apart_longer n (Text z) = wrong_longer (suc n)
taken_apart_longer n (Ref z) = wrong_longer (suc n)
taken_apart_longer n (Iso z) = wrong_longer (suc n)

loop_value_longer : (n : ℕ) (p : Parts) (at : Spot) (x : Ty) (vs : List Value) → AlwaysLonger (suc n) (loop_value p at x vs) (loop_value p at x vs)
loop_value_longer n p at (y.array x) vs =
    tick_longer n _ _ (step_longer n at (make (kind_of p (y.array x)) vs) (step_goes n at (make (kind_of p (y.array x)) vs) (make_goes (kind_of p (y.array x)) vs)) (λ s x2 le. make_longer s x2 le (kind_of p (y.array x)) vs))
loop_value_longer n p at y.void vs = nothing_longer (suc n)
loop_value_longer n p at y.int vs = nothing_longer (suc n)
loop_value_longer n p at y.bool vs = nothing_longer (suc n)
loop_value_longer n p at y.str vs = nothing_longer (suc n)
loop_value_longer n p at (y.kind k) vs = nothing_longer (suc n)
loop_value_longer n p at (y.ref x) vs = nothing_longer (suc n)
loop_value_longer n p at (y.imm x) vs = nothing_longer (suc n)
loop_value_longer n p at (y.iso x) vs = nothing_longer (suc n)

-- ---- what runs after a tick

pub record Alongside (a a' : Again) (n : ℕ) : Type 0 where
  pub turns_on : (c : Expr) (b : Block) → AlwaysLonger n (a.turn c b) (a'.turn c b)
  pub calls_on : (f : Function) (vs : List Value) (frame : FrameAt) → AlwaysLonger n (a.call f vs frame) (a'.call f vs frame)
  pub fields_on : (vs : List Value) (frame : FrameAt) → AlwaysLonger n (a.fields vs frame) (a'.fields vs frame)

-- a value, after the drop of the innermost local
abbrev dropped : {A : Type 0} → Again → Spot → Bool → A → Run A
dropped c end owned r = λ calls l s. then_do (drop_owned c end owned (innermost l) calls (outer l) s) (λ u l s. goes r l s)

abbrev pub with_parts : Parts → Again → Again
with_parts p a = record a { parts = p }

look_same : (v : Value) (s : State) (x : Beside) → look v (beside s x) ≡ look v s
look_same (Int m) s x = refl
look_same (Truth m) s x = refl
look_same (Text m) s x = refl
look_same (Own m) s x = refl
look_same (Ref m) s x = refl
look_same (Iso m) s x = refl

module _ (p : Parts) (a a' : Again) (n : ℕ) (follows : Alongside a a' n) where
  abbrev again : Again
  again = with_parts p a

  abbrev again' : Again
  again' = with_parts p a'

  goes_with : Follows (with_parts p a') n
  goes_with = record {
    turns_on = λ c b. (follows.turns_on c b).goes_on;
    calls_on = λ f vs frame. (follows.calls_on f vs frame).goes_on;
    fields_on = λ vs frame. (follows.fields_on vs frame).goes_on;
  }

  -- ---- destruction

  destroyed_by_longer : (f : Option Function) (m : ℕ) (x : Object) (frame : FrameAt) → AlwaysLonger (suc n) (destroyed_by again f m x frame) (destroyed_by again' f m x frame)
  destroyed_by_longer None m x frame =
      tick_longer n _ _ (bind_longer n _ _ _ _ (change_longer n (dies m) (change_goes n (dies m) (dies_later m)) (dies_changes m)) (λ _. follows.fields_on x.values frame))
  destroyed_by_longer (Some f) m x frame = tick_longer n _ _ (follows.calls_on f (Own m ∷ []) frame)

  destroyed_longer : (at : Spot) (m : ℕ) (x : Option Object) → AlwaysLonger (suc n) (destroyed again at m x) (destroyed again' at m x)
  destroyed_longer at m None = wrong_longer (suc n)
  destroyed_longer at m (Some x) =
      bind_longer (suc n) _ _ _ _ (deep_longer (suc n) 1 at)
      (λ _. destroyed_by_longer (destructor_in p (type_of_kind p x.kind)) m x (drop_frame (kind_text p x.kind) at))

  destroy_longer : (at : Spot) (m : ℕ) → AlwaysLonger (suc n) (destroy again at m) (destroy again' at m)
  destroy_longer at m = record { goes_on = destroy_goes again' n goes_with at m; longer = λ calls l s x le lt. (destroyed_longer at m (object_of m s)).longer calls l s x le lt }

  drop_longer : (at : Spot) (v : Option Value) → AlwaysLonger (suc n) (drop again at v) (drop again' at v)
  drop_longer at None = nothing_longer (suc n)
  drop_longer at (Some (Own m)) = destroy_longer at m
  drop_longer at (Some (Iso m)) = bind_longer (suc n) _ _ _ _ (change_longer (suc n) (join_isolate m) (change_goes (suc n) (join_isolate m) (join_isolate_later m)) (join_isolate_changes m)) (λ _. destroy_longer at m)
  drop_longer at (Some (Int z)) = nothing_longer (suc n)
  drop_longer at (Some (Truth z)) = nothing_longer (suc n)
  drop_longer at (Some (Text z)) = nothing_longer (suc n)
  drop_longer at (Some (Ref z)) = nothing_longer (suc n)

  drop_owned_longer : (at : Spot) (owned : Bool) (v : Option Value) → AlwaysLonger (suc n) (drop_owned again at owned v) (drop_owned again' at owned v)
  drop_owned_longer at true v = drop_longer at v
  drop_owned_longer at false v = nothing_longer (suc n)

  pub drop_values_longer : (at : Spot) (vs : List Value) → AlwaysLonger (suc n) (drop_values again at vs) (drop_values again' at vs)
  drop_values_longer at [] = nothing_longer (suc n)
  drop_values_longer at (v ∷ vs) = bind_longer (suc n) _ _ _ _ (drop_longer at (Some v)) (λ _. drop_values_longer at vs)

  drop_locals_longer : (at : Spot) (l : Locals) → AlwaysLonger (suc n) (drop_locals again at l) (drop_locals again' at l)
  drop_locals_longer at [] = nothing_longer (suc n)
  drop_locals_longer at (x ∷ l) = bind_longer (suc n) _ _ _ _ (drop_owned_longer at x.owned x.value) (λ _. drop_locals_longer at l)

  pub leave_longer : (A : Type 0) (at : Spot) (v : Option Value) → AlwaysLonger {A = A} (suc n) (leave again at v) (leave again' at v)
  leave_longer A at v = record {
    goes_on = leave_goes again' n goes_with A at v;
    longer = λ calls l s x le lt.
        then_longer (suc n) (drop_locals again at l calls [] s) (drop_locals again' at l calls [] (beside s x)) (λ u l s. returned v s) (λ u l s. returned v s)
        (few_left (suc n) (beside s x) (drop_locals again' at l calls [] (beside s x)) lt ((drop_locals_longer at l).goes_on.from calls [] (beside s x) lt))
        (λ u l t lt. (later_refl t, tt)) (λ u l s x le lt. (x, le, refl)) ((drop_locals_longer at l).longer calls [] s x le lt);
  }

  dropped_longer : {A : Type 0} (end : Spot) (owned : Bool) (r : A) → AlwaysLonger (suc n) (dropped again end owned r) (dropped again' end owned r)
  dropped_longer end owned r = record {
    goes_on = record { from = λ calls l s lt. then_goes s (suc n) (drop_owned again' end owned (innermost l) calls (outer l) s) (λ u l s. goes r l s) lt ((drop_owned_longer end owned (innermost l)).goes_on.from calls (outer l) s lt) (λ u l t lt. (later_refl t, tt)) };
    longer = λ calls l s x le lt.
        then_longer (suc n) (drop_owned again end owned (innermost l) calls (outer l) s) (drop_owned again' end owned (innermost l) calls (outer l) (beside s x)) (λ u l s. goes r l s) (λ u l s. goes r l s)
        (few_left (suc n) (beside s x) (drop_owned again' end owned (innermost l) calls (outer l) (beside s x)) lt ((drop_owned_longer end owned (innermost l)).goes_on.from calls (outer l) (beside s x) lt))
        (λ u l t lt. (later_refl t, tt)) (λ u l s x le lt. (x, le, refl)) ((drop_owned_longer end owned (innermost l)).longer calls (outer l) s x le lt);
  }

  with_local_longer : {A : Type 0} (end : Spot) (k : ℕ) (owned : Bool) (v : Value) (m m' : Run A) → AlwaysLonger (suc n) m m' → AlwaysLonger (suc n) (with_local again end k owned v m) (with_local again' end k owned v m')
  with_local_longer end k owned v m m' h = record {
    goes_on = with_local_goes again' n goes_with end k owned v m' h.goes_on;
    longer = λ calls l s x le lt.
        then_longer (suc n) (m calls (record { name = Some k; value = Some v; owned = owned } ∷ l) s) (m' calls (record { name = Some k; value = Some v; owned = owned } ∷ l) (beside s x)) _ _
        (few_left (suc n) (beside s x) (m' calls (record { name = Some k; value = Some v; owned = owned } ∷ l) (beside s x)) lt (h.goes_on.from calls (record { name = Some k; value = Some v; owned = owned } ∷ l) (beside s x) lt))
        (λ r l t lt. (dropped_longer end owned r).goes_on.from calls l t lt)
        (λ r l s x le lt. (dropped_longer end owned r).longer calls l s x le lt)
        (h.longer calls (record { name = Some k; value = Some v; owned = owned } ∷ l) s x le lt);
  }

  with_locals_longer : {A : Type 0} (end : Spot) (ks : List ℕ) (xs : List Ty) (vs : List Value) (m m' : Run A) → AlwaysLonger (suc n) m m' → AlwaysLonger (suc n) (with_locals again end ks xs vs m) (with_locals again' end ks xs vs m')
  with_locals_longer end [] [] [] m m' h = h
  with_locals_longer end [] [] (v ∷ vs) m m' h = wrong_longer (suc n)
  with_locals_longer end [] (x ∷ xs) vs m m' h = wrong_longer (suc n)
  with_locals_longer end (k ∷ ks) [] vs m m' h = wrong_longer (suc n)
  with_locals_longer end (k ∷ ks) (x ∷ xs) [] m m' h = wrong_longer (suc n)
  with_locals_longer end (k ∷ ks) (x ∷ xs) (v ∷ vs) m m' h = with_local_longer end k (is_owned x) v _ _ (with_locals_longer end ks xs vs m m' h)

  -- ---- calls

  operated_link : (op : BinaryOp) (at : Spot) (v : Value) (m m' : Run (Option Value)) → AlwaysLonger (suc n) m m' → AlwaysLonger (suc n) (valued m >>= (λ w. step at (operated op v w))) (valued m' >>= (λ w. step at (operated op v w)))
  operated_link op at v m m' h = bind_longer (suc n) _ _ _ _ (valued_longer (suc n) h) (λ w. step_longer (suc n) at (operated op v w) (step_goes (suc n) at (operated op v w) (operated_goes op v w)) (λ s x le. operated_longer s x le op v w))

  link_longer : (at : Spot) (op : BinaryOp) (v : Value) (m m' : Run (Option Value)) → AlwaysLonger (suc n) m m' → AlwaysLonger (suc n) (link_run at op v m) (link_run at op v m')
  link_longer at Or v m m' h = choose_longer (suc n) v (give_longer (suc n) (Some (Truth true))) h
  link_longer at And v m m' h = choose_longer (suc n) v h (give_longer (suc n) (Some (Truth false)))
  link_longer at Equal v m m' h = operated_link Equal at v m m' h
  link_longer at NotEqual v m m' h = operated_link NotEqual at v m m' h
  link_longer at Less v m m' h = operated_link Less at v m m' h
  link_longer at LessEqual v m m' h = operated_link LessEqual at v m m' h
  link_longer at Greater v m m' h = operated_link Greater at v m m' h
  link_longer at GreaterEqual v m m' h = operated_link GreaterEqual at v m m' h
  link_longer at Add v m m' h = operated_link Add at v m m' h
  link_longer at Sub v m m' h = operated_link Sub at v m m' h
  link_longer at Mul v m m' h = operated_link Mul at v m m' h
  link_longer at Div v m m' h = operated_link Div at v m m' h
  link_longer at Rem v m m' h = operated_link Rem at v m m' h

  unary_longer : (at : Spot) (op : UnaryOp) (v : Value) → AlwaysLonger (suc n) (unary_run at op v) (unary_run at op v)
  unary_longer at Minus v = step_longer (suc n) at (o.minus v) (step_goes (suc n) at (o.minus v) (ints_goes q.sub (Int (pos 0)) v)) (λ s x le. ints_longer s x le q.sub (Int (pos 0)) v)
  unary_longer at Not v = step_longer (suc n) at (o.opposite v) (step_goes (suc n) at (o.opposite v) (opposite_goes v)) (λ s x le. opposite_longer s x le v)
  unary_longer at Borrow v = give_longer (suc n) (Some v)
  unary_longer at Merge v = step_longer (suc n) at (merge v) (step_goes (suc n) at (merge v) (merge_goes v)) (λ s x le. merge_longer s x le v)

  called_by_longer : (is_it : Bool) (f : Function) (vs : List Value) (frame : FrameAt) → AlwaysLonger (suc n) (called_by is_it again f vs frame) (called_by is_it again' f vs frame)
  called_by_longer false f vs frame =
      bind_longer (suc n) _ _ _ _ (deep_longer (suc n) 1 frame.at) (λ _. tick_longer n _ _ (follows.calls_on f vs frame))
  called_by_longer true f vs frame =
      bind_longer (suc n) _ _ _ _ (deep_longer (suc n) 2 frame.at)
      (λ _. tick_longer n _ _
      (bind_longer n _ _ _ _ (change_longer (n) (freeze) (change_goes (n) (freeze) (freeze_later)) (freeze_changes))
      (λ _. bind_longer n (a.call f vs frame) (a'.call f vs frame) _ _ (follows.calls_on f vs frame)
      (λ v. bind_longer n _ _ _ _ (change_longer (n) (thaw (end_of_pure v)) (change_goes (n) (thaw (end_of_pure v)) (thaw_later (end_of_pure v))) (thaw_changes (end_of_pure v))) (λ _. give_longer n v)))))

  pub called_longer : (f : Option Function) (vs : List Value) (frame : FrameAt) → AlwaysLonger (suc n) (called again f vs frame) (called again' f vs frame)
  called_longer None vs frame = wrong_longer (suc n)
  called_longer (Some f) vs frame = called_by_longer (is_pure f) f vs frame

  dispatched_to_longer : (at : Spot) (x z : Option Ty) (m : ℕ) (vs : List Value) → AlwaysLonger (suc n) (dispatched_to again at x z m vs) (dispatched_to again' at x z m vs)
  dispatched_to_longer at None z m vs = wrong_longer (suc n)
  dispatched_to_longer at (Some y.void) z m vs = wrong_longer (suc n)
  dispatched_to_longer at (Some y.int) z m vs = wrong_longer (suc n)
  dispatched_to_longer at (Some y.bool) z m vs = wrong_longer (suc n)
  dispatched_to_longer at (Some y.str) z m vs = wrong_longer (suc n)
  dispatched_to_longer at (Some (y.array x)) z m vs = wrong_longer (suc n)
  dispatched_to_longer at (Some (y.ref x)) z m vs = wrong_longer (suc n)
  dispatched_to_longer at (Some (y.imm x)) z m vs = wrong_longer (suc n)
  dispatched_to_longer at (Some (y.iso x)) z m vs = wrong_longer (suc n)
  dispatched_to_longer at (Some (y.kind i)) None m vs = wrong_longer (suc n)
  dispatched_to_longer at (Some (y.kind i)) (Some y.void) m vs = wrong_longer (suc n)
  dispatched_to_longer at (Some (y.kind i)) (Some y.int) m vs = wrong_longer (suc n)
  dispatched_to_longer at (Some (y.kind i)) (Some y.bool) m vs = wrong_longer (suc n)
  dispatched_to_longer at (Some (y.kind i)) (Some y.str) m vs = wrong_longer (suc n)
  dispatched_to_longer at (Some (y.kind i)) (Some (y.array x)) m vs = wrong_longer (suc n)
  dispatched_to_longer at (Some (y.kind i)) (Some (y.ref x)) m vs = wrong_longer (suc n)
  dispatched_to_longer at (Some (y.kind i)) (Some (y.imm x)) m vs = wrong_longer (suc n)
  dispatched_to_longer at (Some (y.kind i)) (Some (y.iso x)) m vs = wrong_longer (suc n)
  dispatched_to_longer at (Some (y.kind i)) (Some (y.kind k)) m vs = called_longer (method_of p i k m) vs (method_frame (name_text p k) (name_text p m) at)

  dispatched_on_longer : (at : Spot) (x : Option Ty) (m : ℕ) (vs : List Value) (looked : Looked) → AlwaysLonger (suc n) (dispatched_on again at x m vs looked) (dispatched_on again' at x m vs looked)
  dispatched_on_longer at x m vs (found k object) = dispatched_to_longer at x (type_of_kind p object.kind) m (Ref k ∷ vs)
  dispatched_on_longer at x m vs dead = trap_longer (suc n) DeadReference at
  dispatched_on_longer at x m vs nowhere = wrong_longer (suc n)

  dispatched_longer : (at : Spot) (x : Option Ty) (m : ℕ) (v : Value) (vs : List Value) → AlwaysLonger (suc n) (dispatched again at x m v vs) (dispatched again' at x m v vs)
  dispatched_longer at x m v vs = record {
    goes_on = dispatched_goes again' n goes_with at x m v vs;
    longer = λ calls l s z le lt.
        subst (λ looked. Longer (dispatched again at x m v vs calls l s) (dispatched_on again' at x m vs looked calls l (beside s z))) (sym (look_same v s z)) ((dispatched_on_longer at x m vs (look v s)).longer calls l s z le lt);
  }

  built_in_longer : (at : Spot) (f : BuiltIn) (vs : List Value) → AlwaysLonger (suc n) (built_in_run again at f vs) (built_in_run again' at f vs)
  built_in_longer at b.Print ([]) = wrong_longer (suc n)
  built_in_longer at b.Print (v ∷ []) = step_longer (suc n) at (print false v) (step_goes (suc n) at (print false v) (print_goes false v)) (λ s x le. print_longer s x le false v)
  built_in_longer at b.Print (v ∷ w ∷ ws) = wrong_longer (suc n)
  built_in_longer at b.Println ([]) = wrong_longer (suc n)
  built_in_longer at b.Println (v ∷ []) = step_longer (suc n) at (print true v) (step_goes (suc n) at (print true v) (print_goes true v)) (λ s x le. print_longer s x le true v)
  built_in_longer at b.Println (v ∷ w ∷ ws) = wrong_longer (suc n)
  built_in_longer at b.Drop ([]) = wrong_longer (suc n)
  built_in_longer at b.Drop (v ∷ []) = drop_longer at (Some v)
  built_in_longer at b.Drop (v ∷ w ∷ ws) = wrong_longer (suc n)
  built_in_longer at b.Len ([]) = wrong_longer (suc n)
  built_in_longer at b.Len (v ∷ []) = step_longer (suc n) at (len v) (step_goes (suc n) at (len v) (len_goes v)) (λ s x le. len_longer s x le v)
  built_in_longer at b.Len (v ∷ w ∷ ws) = wrong_longer (suc n)
  built_in_longer at b.Push ([]) = wrong_longer (suc n)
  built_in_longer at b.Push (r ∷ []) = wrong_longer (suc n)
  built_in_longer at b.Push (r ∷ v ∷ []) = step_longer (suc n) at (push r v) (step_goes (suc n) at (push r v) (push_goes r v)) (λ s x le. push_longer s x le r v)
  built_in_longer at b.Push (r ∷ v ∷ w ∷ ws) = wrong_longer (suc n)
  built_in_longer at b.Pop ([]) = wrong_longer (suc n)
  built_in_longer at b.Pop (r ∷ []) = step_longer (suc n) at (pop r) (step_goes (suc n) at (pop r) (pop_goes r)) (λ s x le. pop_longer s x le r)
  built_in_longer at b.Pop (r ∷ w ∷ ws) = wrong_longer (suc n)
  built_in_longer at b.Text ([]) = wrong_longer (suc n)
  built_in_longer at b.Text (v ∷ []) = step_longer (suc n) at (o.text_of v) (step_goes (suc n) at (o.text_of v) (text_of_goes v)) (λ s x le. text_of_longer s x le v)
  built_in_longer at b.Text (v ∷ w ∷ ws) = wrong_longer (suc n)
  built_in_longer at b.Slice ([]) = wrong_longer (suc n)
  built_in_longer at b.Slice (t ∷ []) = wrong_longer (suc n)
  built_in_longer at b.Slice (t ∷ y ∷ []) = wrong_longer (suc n)
  built_in_longer at b.Slice (t ∷ y ∷ z ∷ []) = step_longer (suc n) at (o.slice t y z) (step_goes (suc n) at (o.slice t y z) (slice_goes t y z)) (λ s x le. slice_longer s x le t y z)
  built_in_longer at b.Slice (t ∷ y ∷ z ∷ w ∷ ws) = wrong_longer (suc n)
  built_in_longer at b.Byte ([]) = wrong_longer (suc n)
  built_in_longer at b.Byte (t ∷ []) = wrong_longer (suc n)
  built_in_longer at b.Byte (t ∷ y ∷ []) = step_longer (suc n) at (o.byte t y) (step_goes (suc n) at (o.byte t y) (byte_goes t y)) (λ s x le. byte_longer s x le t y)
  built_in_longer at b.Byte (t ∷ y ∷ w ∷ ws) = wrong_longer (suc n)
  built_in_longer at b.IsNumber ([]) = wrong_longer (suc n)
  built_in_longer at b.IsNumber (t ∷ []) = step_longer (suc n) at (o.is_number t) (step_goes (suc n) at (o.is_number t) (is_number_goes t)) (λ s x le. is_number_longer s x le t)
  built_in_longer at b.IsNumber (t ∷ w ∷ ws) = wrong_longer (suc n)
  built_in_longer at b.Number ([]) = wrong_longer (suc n)
  built_in_longer at b.Number (t ∷ []) = step_longer (suc n) at (o.number t) (step_goes (suc n) at (o.number t) (number_goes t)) (λ s x le. number_longer s x le t)
  built_in_longer at b.Number (t ∷ w ∷ ws) = wrong_longer (suc n)

  pub made_longer : (at : Spot) (x : Ty) (vs : List Value) → AlwaysLonger (suc n) (made again at x vs) (made again' at x vs)
  made_longer at x vs = tick_longer n _ _ (step_longer n at (make (kind_of p x) vs) (step_goes n at (make (kind_of p x) vs) (make_goes (kind_of p x) vs)) (λ s z le. make_longer s z le (kind_of p x) vs))

  callee_longer : (k : NameAt) (f : Callee) (vs : List Value) → AlwaysLonger (suc n) (callee_run again k f vs) (callee_run again' k f vs)
  callee_longer k (built_in f) vs = built_in_longer k.at f vs
  callee_longer k constructor vs = made_longer k.at (y.kind k.name.0) vs
  callee_longer k (function is_it) vs = called_longer (function_named p k.name.0) vs (function_frame (name_text p k.name.0) k.at)

  on_place_longer : (i : Option ℕ) (go : ℕ → Run (Option Value)) → ((i : ℕ) → AlwaysLonger (suc n) (go i) (go i)) → AlwaysLonger (suc n) (on_place i go) (on_place i go)
  on_place_longer None go h = wrong_longer (suc n)
  on_place_longer (Some i) go h = h i

  frozen_longer : (at : Spot) (end : Option Value → RegionEnd) (m m' : Run (Option Value)) → AlwaysLonger (suc n) m m' → AlwaysLonger (suc n) (frozen_run at end m) (frozen_run at end m')
  frozen_longer at end m m' h =
      bind_longer (suc n) _ _ _ _ (deep_longer (suc n) 1 at)
      (λ _. bind_longer (suc n) _ _ _ _ (change_longer (suc n) (freeze) (change_goes (suc n) (freeze) (freeze_later)) (freeze_changes))
      (λ _. bind_longer (suc n) m m' _ _ h
      (λ v. bind_longer (suc n) _ _ _ _ (change_longer (suc n) (thaw (end v)) (change_goes (suc n) (thaw (end v)) (thaw_later (end v))) (thaw_changes (end v))) (λ _. give_longer (suc n) v))))

  -- ---- the tree

  mutual
    pub expr_longer : (e : Expr) → AlwaysLonger (suc n) (expr_run again e) (expr_run again' e)
    expr_longer (expr x node) = node_longer x.value node

    node_longer : (x : Ty) (node : Node) → AlwaysLonger (suc n) (node_run again x node) (node_run again' x node)
    node_longer x (number at k) = give_longer (suc n) (Some (Int k))
    node_longer x (quote at text) = give_longer (suc n) (Some (Text text))
    node_longer x (truth at b) = give_longer (suc n) (Some (Truth b))
    node_longer x (name k is_outer true) = bind_longer (suc n) _ _ _ _ (move_longer (suc n) k.name.0) (λ v. give_longer (suc n) (Some v))
    node_longer x (name k is_outer false) = bind_longer (suc n) _ _ _ _ (read_longer (suc n) k.name.0) (λ v. give_longer (suc n) (Some v))
    node_longer x (paren at e) = expr_longer e
    node_longer x (chain e ls) = bind_longer (suc n) _ _ _ _ (valued_longer (suc n) (expr_longer e)) (λ v. links_longer v ls)
    node_longer x (unary at op e) = bind_longer (suc n) _ _ _ _ (valued_longer (suc n) (expr_longer e)) (λ v. unary_longer at op v)
    node_longer x (steps e ss) = bind_longer (suc n) _ _ _ _ (valued_longer (suc n) (expr_longer e)) (λ v. steps_longer v ss)
    node_longer x (set at r e) = bind_longer (suc n) _ _ _ _ (valued_longer (suc n) (expr_longer e)) (λ v. while_waits_longer (suc n) (is_owned (type e)) v (set_longer v r))
    node_longer x (call k f es) = bind_longer (suc n) _ _ _ _ (exprs_longer es) (λ vs. callee_longer k f vs)
    node_longer x (array at t es) = bind_longer (suc n) _ _ _ _ (exprs_longer es) (λ vs. made_longer at x vs)
    node_longer x (iso at b) = bind_longer (suc n) _ _ _ _ (frozen_longer at end_of_isolate _ _ (block_longer b)) (λ v. give_longer (suc n) (isolated v))
    node_longer x (form f) = form_longer x f

    exprs_longer : (es : Exprs) → AlwaysLonger (suc n) (exprs_run again es) (exprs_run again' es)
    exprs_longer no_exprs = give_longer (suc n) []
    exprs_longer (more_exprs e es) = bind_longer (suc n) _ _ _ _ (valued_longer (suc n) (expr_longer e)) (λ v. bind_longer (suc n) _ _ _ _ (while_waits_longer (suc n) (is_owned (type e)) v (exprs_longer es)) (λ vs. give_longer (suc n) (v ∷ vs)))

    links_longer : (v : Value) (ls : Links) → AlwaysLonger (suc n) (links_run again v ls) (links_run again' v ls)
    links_longer v no_links = give_longer (suc n) (Some v)
    links_longer v (more_links (link x at op e) ls) = bind_longer (suc n) _ _ _ _ (valued_longer (suc n) (link_longer at op v _ _ (expr_longer e))) (λ w. links_longer w ls)

    step_longer_on : (v : Value) (x : Step) → AlwaysLonger (suc n) (step_run again v x) (step_run again' v x)
    step_longer_on v (field x view may at k) = on_place_longer (field_place p view k.0) _ (λ i. step_longer (suc n) at (load i v) (step_goes (suc n) at (load i v) (load_goes i v)) (λ s x le. load_longer s x le i v))
    step_longer_on v (index x view at e) = bind_longer (suc n) _ _ _ _ (valued_longer (suc n) (expr_longer e)) (λ i. step_longer (suc n) at (element v i) (step_goes (suc n) at (element v i) (element_goes v i)) (λ s x le. element_longer s x le v i))
    step_longer_on v (method x view at k es) = bind_longer (suc n) _ _ _ _ (exprs_longer es) (λ vs. dispatched_longer at (seen_object view) k.0 v vs)

    steps_longer : (v : Value) (ss : Steps) → AlwaysLonger (suc n) (steps_run again v ss) (steps_run again' v ss)
    steps_longer v no_steps = give_longer (suc n) (Some v)
    steps_longer v (more_steps x no_steps) = step_longer_on v x
    steps_longer v (more_steps x (more_steps z zs)) = bind_longer (suc n) _ _ _ _ (valued_longer (suc n) (step_longer_on v x)) (λ w. steps_longer w (more_steps z zs))

    set_longer : (new : Value) (r : Expr) → AlwaysLonger (suc n) (set_run again new r) (set_run again' new r)
    set_longer new (expr x (name k is_outer moved)) = bind_longer (suc n) _ _ _ _ (exchange_longer (suc n) k.name.0 new) (λ old. give_longer (suc n) (Some old))
    set_longer new (expr x (steps e ss)) = bind_longer (suc n) _ _ _ _ (valued_longer (suc n) (expr_longer e)) (λ v. set_steps_longer new v ss)
    set_longer new (expr x (set at q e)) = wrong_longer (suc n)
    set_longer new (expr x (chain e ls)) = wrong_longer (suc n)
    set_longer new (expr x (unary at op e)) = wrong_longer (suc n)
    set_longer new (expr x (number at k)) = wrong_longer (suc n)
    set_longer new (expr x (quote at text)) = wrong_longer (suc n)
    set_longer new (expr x (truth at b)) = wrong_longer (suc n)
    set_longer new (expr x (call k f es)) = wrong_longer (suc n)
    set_longer new (expr x (paren at e)) = wrong_longer (suc n)
    set_longer new (expr x (array at t es)) = wrong_longer (suc n)
    set_longer new (expr x (iso at b)) = wrong_longer (suc n)
    set_longer new (expr x (form f)) = wrong_longer (suc n)

    set_steps_longer : (new v : Value) (ss : Steps) → AlwaysLonger (suc n) (set_steps again new v ss) (set_steps again' new v ss)
    set_steps_longer new v no_steps = wrong_longer (suc n)
    set_steps_longer new v (more_steps x no_steps) = set_step_longer new v x
    set_steps_longer new v (more_steps x (more_steps z zs)) = bind_longer (suc n) _ _ _ _ (valued_longer (suc n) (step_longer_on v x)) (λ w. set_steps_longer new w (more_steps z zs))

    set_step_longer : (new v : Value) (x : Step) → AlwaysLonger (suc n) (set_step again new v x) (set_step again' new v x)
    set_step_longer new v (field x view may at k) = on_place_longer (field_place p view k.0) _ (λ i. step_longer (suc n) at (swap i v new) (step_goes (suc n) at (swap i v new) (swap_goes i v new)) (λ s x le. swap_longer s x le i v new))
    set_step_longer new v (index x view at e) = bind_longer (suc n) _ _ _ _ (valued_longer (suc n) (expr_longer e)) (λ i. step_longer (suc n) at (swap_element v i new) (step_goes (suc n) at (swap_element v i new) (swap_element_goes v i new)) (λ s x le. swap_element_longer s x le v i new))
    set_step_longer new v (method x view at k es) = wrong_longer (suc n)

    form_longer : (x : Ty) (f : Form) → AlwaysLonger (suc n) (form_run again x f) (form_run again' x f)
    form_longer x (branch at c b es) = bind_longer (suc n) _ _ _ _ (valued_longer (suc n) (expr_longer c)) (λ v. choose_longer (suc n) v (block_longer b) (elses_longer es))
    form_longer x (pure at b) = frozen_longer at (λ v. end_of_block (is_owner x)) _ _ (block_longer b)
    form_longer x (parallel_range at k c e b) = bind_longer (suc n) _ _ _ _ (valued_longer (suc n) (expr_longer c)) (λ v. bind_longer (suc n) _ _ _ _ (valued_longer (suc n) (expr_longer e)) (λ w. bind_longer (suc n) _ _ _ _ (number_in_longer (suc n) v) (λ from. bind_longer (suc n) _ _ _ _ (number_in_longer (suc n) w) (λ to. bind_longer (suc n) _ _ _ _ (numbered_longer (suc n) at from to) (λ firsts. bind_longer (suc n) _ _ _ _ (loop_longer n at firsts _ _ (λ first. body_longer k false first b)) (λ vs. loop_value_longer n p at x vs))))))
    form_longer x (parallel_each at k e b) = bind_longer (suc n) _ _ _ _ (valued_longer (suc n) (expr_longer e)) (λ v. bind_longer (suc n) _ _ _ _ (taken_apart_longer n v) (λ firsts. bind_longer (suc n) _ _ _ _ (loop_longer n at firsts _ _ (λ first. body_longer k true first b)) (λ vs. loop_value_longer n p at x vs)))

    body_longer : (k : NameAt) (owned : Bool) (first : Value) (b : Block) → AlwaysLonger (suc n) (iteration_body again k owned first b) (iteration_body again' k owned first b)
    body_longer k owned first (block at end x ss) = with_local_longer end k.name.0 owned first _ _ (stmts_longer end ss)

    elses_longer : (es : Elses) → AlwaysLonger (suc n) (elses_run again es) (elses_run again' es)
    elses_longer no_else = nothing_longer (suc n)
    elses_longer (otherwise b) = block_longer b
    elses_longer (more_elses (else_if at c b) es) = bind_longer (suc n) _ _ _ _ (valued_longer (suc n) (expr_longer c)) (λ v. choose_longer (suc n) v (block_longer b) (elses_longer es))

    pub block_longer : (b : Block) → AlwaysLonger (suc n) (block_run again b) (block_run again' b)
    block_longer (block at end x ss) = stmts_longer end ss

    stmts_longer : (end : Spot) (ss : Stmts) → AlwaysLonger (suc n) (stmts_run again end ss) (stmts_run again' end ss)
    stmts_longer end no_stmts = nothing_longer (suc n)
    stmts_longer end (last e) = expr_longer e
    stmts_longer end (more_stmts (declare k x e) ss) = bind_longer (suc n) _ _ _ _ (valued_longer (suc n) (expr_longer e)) (λ v. with_local_longer end k.name.0 (is_owned x) v _ _ (stmts_longer end ss))
    stmts_longer end (more_stmts (destructure at ks xs e) ss) = bind_longer (suc n) _ _ _ _ (valued_longer (suc n) (expr_longer e)) (λ v. bind_longer (suc n) _ _ _ _ (taken_apart_longer n v) (λ vs. with_locals_longer end (numbers_of ks) xs vs _ _ (stmts_longer end ss)))
    stmts_longer end (more_stmts (return_nothing at) ss) = bind_longer (suc n) _ _ _ _ (stmt_longer (return_nothing at)) (λ _. stmts_longer end ss)
    stmts_longer end (more_stmts (return_value at e) ss) = bind_longer (suc n) _ _ _ _ (stmt_longer (return_value at e)) (λ _. stmts_longer end ss)
    stmts_longer end (more_stmts (while at c b) ss) = bind_longer (suc n) _ _ _ _ (stmt_longer (while at c b)) (λ _. stmts_longer end ss)
    stmts_longer end (more_stmts (foreach at k c e b) ss) = bind_longer (suc n) _ _ _ _ (stmt_longer (foreach at k c e b)) (λ _. stmts_longer end ss)
    stmts_longer end (more_stmts (form_stmt f) ss) = bind_longer (suc n) _ _ _ _ (stmt_longer (form_stmt f)) (λ _. stmts_longer end ss)
    stmts_longer end (more_stmts (express e) ss) = bind_longer (suc n) _ _ _ _ (stmt_longer (express e)) (λ _. stmts_longer end ss)

    stmt_longer : (x : Stmt) → AlwaysLonger (suc n) (stmt_run again x) (stmt_run again' x)
    stmt_longer (declare k x e) = wrong_longer (suc n)
    stmt_longer (destructure at ks xs e) = wrong_longer (suc n)
    stmt_longer (return_nothing at) = leave_longer (Option Value) at None
    stmt_longer (return_value at e) = bind_longer (suc n) _ _ _ _ (expr_longer e) (λ v. leave_longer (Option Value) at v)
    stmt_longer (while at c b) = bind_longer (suc n) _ _ _ _ (valued_longer (suc n) (expr_longer c)) (λ v. choose_longer (suc n) v (tick_longer n _ _ (follows.turns_on c b)) (nothing_longer (suc n)))
    stmt_longer (foreach at k c e b) = bind_longer (suc n) _ _ _ _ (valued_longer (suc n) (expr_longer c)) (λ v. bind_longer (suc n) _ _ _ _ (valued_longer (suc n) (expr_longer e)) (λ w. bind_longer (suc n) _ _ _ _ (number_in_longer (suc n) v) (λ from. bind_longer (suc n) _ _ _ _ (number_in_longer (suc n) w) (λ to. turns_longer n (width_of from to) from _ _ (λ z. body_longer k false (Int z) b)))))
    stmt_longer (form_stmt f) = form_longer void f
    stmt_longer (express e) = bind_longer (suc n) _ _ _ _ (expr_longer e) (λ v. drop_owned_longer (expr_spot e) (is_owned (type e)) v)
