-- What steps and what is set make, by what their parts make.
use Rattle.std.proofs.Common.{◌≡◌, ℕ, zero, suc, ◌+◌, List, [], ◌∷◌, ◌++◌, length, refl, ap, sym, ◌∙◌}
use Rattle.std.specs.Prelude.{Bool, true, false, ◌&&◌, Option, Some, None, unwrap_or}
use Rattle.std.proofs.lemmas.Option.{none-some}
use Rattle.vale_base.specs.declared.name.Name.{Name}
use Rattle.vale_base.specs.declared.spot.Spot.{Spot}
use Rattle.vale_syntax.specs.declared.tree.NameAt.{NameAt}
use Rattle.vale_rules_spec.specs.Types as y
use Rattle.vale_rules_spec.specs.Typed as t
use Rattle.vale_rules_spec.specs.Typed.{type}
use Rattle.vale_model.specs.Parts.{field_place}
use Rattle.vale_code.specs.declared.instr.Instr.{Instr}
use Rattle.vale_lowering.specs.Instructions.{stuck, only_if}
use Rattle.vale_lowering_objects.specs.Changes.{step_changes}
use Rattle.vale_lowering_objects.specs.Scopes.{Gives, copy, gives_of, is_value, agree, Entry, Scope, Gone, without, After, comes, never, then_after, Around, waiting, find}
use Rattle.vale_lowering_objects.specs.Lowered.{Origin, reference, origin_of, is_there, stays_of, free_register, from_local, lend_local, then_code, expr_code, node_code, start_code, step_code, steps_code, place_code, targets_code, swap_code, borrow_code, expr_after, node_after, start_after, step_after, steps_after, place_after, targets_after, load_field, load_element, swap_field, swap_element, exchange, step_view}
use Rattle.vale_lower_flow.specs.declared.flow.Mark.{Mark}
use Rattle.vale_lower_flow.specs.Flow.{Going, emitted, put, arrived, only, mark_of, begun, ended, filled}
use Rattle.vale_lower_flow.proofs.PartLaws.{Part, only_is, then_is, fill_then, nothing_is}
use Rattle.vale_lower_places.specs.Places.{lent, exchanged}
use Rattle.vale_core.proofs.ViewLaws as v
use Rattle.vale_lower_places.specs.declared.places.Origin.{Origin as Kept}
use Rattle.vale_lower_places.specs.declared.places.Origin.TheVariants as o
use Rattle.vale_lower_places.specs.Origins.{view_origin}
use Rattle.vale_lower_parts.specs.Branches.{Rest, Leaves, local_started, base_ended}
use Rattle.vale_lower_parts.specs.Named.{unmoved, unmoved_in, node_of}
use Rattle.vale_lower_parts.specs.Emitted.{expr_emitted, node_emitted, borrow_emitted, started, step_emitted, swap_emitted, first_emitted, first_swapped, steps_emitted, targets_emitted, place_emitted}
use Rattle.vale_lower_parts.proofs.NodeLaws.{then_put}

some_none : (n : ℕ) → Some n ≡ None → ⊥
some_none n e = none-some n (sym e)

-- ---- what starts from a local

module _ (h : ℕ) (view : y.View) (part : Rest) (after : Leaves) where
  -- no local: no step follows
  pub local_none : (o : Origin) (ch : Bool) (f : Going) → only false (length f.code) h (emitted (λ place g. part o place h g) (after h) f) ≡ local_started view h part after None ch f
  local_none o ch f = only_is (λ g. false) h (λ place g. part o place h g) (after h) f

  -- a local that stays in its register
  pub local_stays : (x : Entry) (ch : Bool) (f : Going) → stays_of (Some x) view ch ≡ true → only (is_there x f.gone) (length f.code) h (emitted (λ place g. part (origin_of x) place h g) (after h) f) ≡ local_started view h part after (Some x) ch f
  local_stays x ch f e =
      only_is (λ g. is_there x g) h (λ place g. part (origin_of x) place h g) (after h) f
      ∙ ap (λ b. emitted (λ place g. from_local (Some x) b view place h g part) (λ g. after (free_register b h) g) f) (sym e)

  -- a local that is lent first
  pub local_lent : (x : Entry) (ch : Bool) (f : Going) → stays_of (Some x) view ch ≡ false →
      ended (mark_of (lent (Some x) copy view h f)) (emitted (λ place g. part (reference h) place (h + 1) g) (after (h + 1)) (begun (h + 1) (lent (Some x) copy view h f))) ≡ local_started view h part after (Some x) ch f
  unfolding lent emitted
  local_lent x ch f e =
      then_is (h + 1) (λ place g. lend_local (Some x) g view h) (λ place g. part (reference h) place (h + 1) g) (λ g. comes g) (after (h + 1)) f
      ∙ ap (λ b. emitted (λ place g. from_local (Some x) b view place h g part) (λ g. after (free_register b h) g) f) (sym e)

module _ (a : Around) (h : ℕ) (s : Scope) where
  -- ---- what a first step starts from

  module _ (view : y.View) (changes : ℕ → Bool) (part : Rest) (after : Leaves) where
    pub started_named : (e : t.Expr) (n : ℕ) (f : Going) → Some n ≡ unmoved e → started a e view changes h s part after f ≡ local_started view h part after (find n s) (changes n) f
    unfolding started
    started_named (t.expr z (t.name n is_outer false)) m f e = ap (λ o. local_started view h part after (find (unwrap_or o m) s) (changes (unwrap_or o m)) f) (sym e)
    started_named (t.expr z (t.name n is_outer true)) m f e = absurd (some_none m e)
    started_named (t.expr z (t.set at p w)) m f e = absurd (some_none m e)
    started_named (t.expr z (t.chain w ls)) m f e = absurd (some_none m e)
    started_named (t.expr z (t.unary at op w)) m f e = absurd (some_none m e)
    started_named (t.expr z (t.steps w ss)) m f e = absurd (some_none m e)
    started_named (t.expr z (t.number at n)) m f e = absurd (some_none m e)
    started_named (t.expr z (t.quote at text)) m f e = absurd (some_none m e)
    started_named (t.expr z (t.truth at b)) m f e = absurd (some_none m e)
    started_named (t.expr z (t.call n c es)) m f e = absurd (some_none m e)
    started_named (t.expr z (t.paren at w)) m f e = absurd (some_none m e)
    started_named (t.expr z (t.array at w es)) m f e = absurd (some_none m e)
    started_named (t.expr z (t.iso at b)) m f e = absurd (some_none m e)
    started_named (t.expr z (t.form w)) m f e = absurd (some_none m e)

    abbrev pub node_started : t.Expr → Going → Going
    node_started e f =
        let f1 = node_emitted a (type e) copy (node_of e) h s f in
        only (agree copy (gives_of (type e))) (length f.code) h (ended (mark_of f1) (emitted (λ place g. part (reference h) place (h + 1) g) (after (h + 1)) (begun (h + 1) f1)))

    -- a value
    node_started_by : (x : y.Seen) (node : t.Node) (f : Going) →
        node_started (t.expr x node) f
        ≡ emitted (λ place g. only_if (agree copy (gives_of x.value)) h (then_code place (h + 1) (node_code a x.value copy node place h s g) (node_after node h s g) (λ place g. part (reference h) place (h + 1) g)))
        (λ g. then_after (node_after node h s g) (λ g. after (h + 1) g)) f
    unfolding node_emitted
    node_started_by x node f =
        let one : Part = λ place g. node_code a x.value copy node place h s g in
        let leaves : Gone → After = λ g. node_after node h s g in
        let two : Part = λ place g. part (reference h) place (h + 1) g in
        let ok = agree copy (gives_of x.value) in
        ap (λ z. only ok (length f.code) h z) (then_is (h + 1) one two leaves (after (h + 1)) f)
        ∙ only_is (λ g. ok) h (λ place g. then_code place (h + 1) (one place g) (leaves g) two) (λ g. then_after (leaves g) (after (h + 1))) f

    pub started_node : (e : t.Expr) (f : Going) → None ≡ unmoved e → node_started e f ≡ started a e view changes h s part after f
    unfolding started
    started_node (t.expr z (t.name n is_outer false)) f e = absurd (some_none n.name.0 (sym e))
    started_node (t.expr z (t.name n is_outer true)) f e = node_started_by z (t.name n is_outer true) f
    started_node (t.expr z (t.set at p w)) f e = node_started_by z (t.set at p w) f
    started_node (t.expr z (t.chain w ls)) f e = node_started_by z (t.chain w ls) f
    started_node (t.expr z (t.unary at op w)) f e = node_started_by z (t.unary at op w) f
    started_node (t.expr z (t.steps w ss)) f e = node_started_by z (t.steps w ss) f
    started_node (t.expr z (t.number at n)) f e = node_started_by z (t.number at n) f
    started_node (t.expr z (t.quote at text)) f e = node_started_by z (t.quote at text) f
    started_node (t.expr z (t.truth at b)) f e = node_started_by z (t.truth at b) f
    started_node (t.expr z (t.call n c es)) f e = node_started_by z (t.call n c es) f
    started_node (t.expr z (t.paren at w)) f e = node_started_by z (t.paren at w) f
    started_node (t.expr z (t.array at w es)) f e = node_started_by z (t.array at w es) f
    started_node (t.expr z (t.iso at b)) f e = node_started_by z (t.iso at b) f
    started_node (t.expr z (t.form w)) f e = node_started_by z (t.form w) f

  -- ---- single steps

  module _ (o : Origin) (to : ℕ) where
    pub field_is : (x : y.Seen) (view : y.View) (b : Bool) (at : Spot) (m : Name) (f : Going) → step_emitted a o (t.field x view b at m) to h s f ≡ put (load_field o (field_place a.parts view m.0) at to) f
    unfolding step_emitted emitted put
    field_is x view b at m f = refl

    pub method_is : (x : y.Seen) (view : y.View) (at : Spot) (m : Name) (es : t.Exprs) (f : Going) → step_emitted a o (t.method x view at m es) to h s f ≡ put (stuck to) f
    unfolding step_emitted emitted put
    method_is x view at m es f = refl

    pub index_is : (x : y.Seen) (view : y.View) (at : Spot) (e : t.Expr) (f : Going) → step_emitted a o (t.index x view at e) to h s f
        ≡ only (agree copy (gives_of (type e))) (length f.code) to (ended (mark_of (expr_emitted a e h s f)) (put (load_element o h at to) (begun (h + 1) (expr_emitted a e h s f))))
    unfolding step_emitted expr_emitted
    index_is x view at e f =
        let one : Part = λ place g. expr_code a e place h s g in
        let after : Gone → After = λ g. expr_after e h s g in
        let ok = agree copy (gives_of (type e)) in
        sym (ap (λ z. only ok (length f.code) to z) (then_put (h + 1) (load_element o h at to) one after f)
        ∙ only_is (λ g. ok) to (λ place g. then_code place (h + 1) (one place g) (after g) (λ place g. load_element o h at to)) after f)

    pub field_set : (x : y.Seen) (view : y.View) (b : Bool) (at : Spot) (m : Name) (f : Going) → swap_emitted a o (t.field x view b at m) to h s f ≡ put (swap_field o (field_place a.parts view m.0) at to) f
    unfolding swap_emitted emitted put
    field_set x view b at m f = refl

    pub method_set : (x : y.Seen) (view : y.View) (at : Spot) (m : Name) (es : t.Exprs) (f : Going) → swap_emitted a o (t.method x view at m es) to h s f ≡ put (stuck to) f
    unfolding swap_emitted emitted put
    method_set x view at m es f = refl

    pub index_set : (x : y.Seen) (view : y.View) (at : Spot) (e : t.Expr) (f : Going) → swap_emitted a o (t.index x view at e) to h s f
        ≡ only (agree copy (gives_of (type e))) (length f.code) to (ended (mark_of (expr_emitted a e h s f)) (put (swap_element o h at to) (begun (h + 1) (expr_emitted a e h s f))))
    unfolding swap_emitted expr_emitted
    index_set x view at e f =
        let one : Part = λ place g. expr_code a e place h s g in
        let after : Gone → After = λ g. expr_after e h s g in
        let ok = agree copy (gives_of (type e)) in
        sym (ap (λ z. only ok (length f.code) to z) (then_put (h + 1) (swap_element o h at to) one after f)
        ∙ only_is (λ g. ok) to (λ place g. then_code place (h + 1) (one place g) (after g) (λ place g. swap_element o h at to)) after f)

  -- ---- steps one after another

  pub no_steps_is : (f : Going) → steps_emitted a t.no_steps h s f ≡ arrived f
  unfolding steps_emitted
  no_steps_is f = sym (nothing_is f)

  pub more_steps_is : (x : t.Step) (xs : t.Steps) (f : Going) → steps_emitted a (t.more_steps x xs) h s f
      ≡ ended (mark_of (step_emitted a (reference h) x h (h + 1) s f)) (steps_emitted a xs h s (begun (h + 1) (step_emitted a (reference h) x h (h + 1) s f)))
  unfolding steps_emitted step_emitted
  more_steps_is x xs f =
      sym (then_is (h + 1) (λ place g. step_code a (reference h) x place h (h + 1) s g) (λ place g. steps_code a xs place h s g) (λ g. step_after x (h + 1) s g) (λ g. steps_after xs h s g) f)

  pub chain_of_steps : (x : y.Ty) (q : Gives) (e : t.Expr) (z : t.Step) (zs : t.Steps) (f : Going) → node_emitted a x q (t.steps e (t.more_steps z zs)) h s f
      ≡ only (agree q copy) (length f.code) h (ended (mark_of (first_emitted a e z h s f)) (steps_emitted a zs h s (begun (h + 1) (first_emitted a e z h s f))))
  unfolding node_emitted first_emitted started steps_emitted
  chain_of_steps x q e z zs f =
      let one : Part = λ place g. start_code a e (step_view z) (λ n. step_changes n z) place h s g (λ o place k g. step_code a o z place h k s g) in
      let after : Gone → After = λ g. start_after e (step_view z) (λ n. step_changes n z) h s g (λ k g. step_after z k s g) in
      let two : Part = λ place g. steps_code a zs place h s g in
      let more : Gone → After = λ g. steps_after zs h s g in
      sym (ap (λ w. only (agree q copy) (length f.code) h w) (then_is (h + 1) one two after more f)
      ∙ only_is (λ g. agree q copy) h (λ place g. then_code place (h + 1) (one place g) (after g) two) (λ g. then_after (after g) more) f)

  pub chain_of_none : (x : y.Ty) (q : Gives) (e : t.Expr) (f : Going) → node_emitted a x q (t.steps e t.no_steps) h s f ≡ put (stuck h) f
  unfolding node_emitted emitted put
  chain_of_none x q e f = refl

  -- ---- what is set

  pub set_is : (x : y.Ty) (q : Gives) (at : Spot) (p e : t.Expr) (f : Going) → node_emitted a x q (t.set at p e) h s f
      ≡ only (is_value (gives_of (type e)) && agree q (gives_of (type e))) (length f.code) h (ended (mark_of (expr_emitted a e h s f)) (place_emitted a p (gives_of (type e)) h s (begun (h + 1) (expr_emitted a e h s f))))
  unfolding node_emitted expr_emitted place_emitted
  set_is x q at p e f =
      let one : Part = λ place g. expr_code a e place h s g in
      let after : Gone → After = λ g. expr_after e h s g in
      let two : Part = λ place g. place_code a p (gives_of (type e)) place h s g in
      let more : Gone → After = λ g. place_after p (gives_of (type e)) h s g in
      let ok = is_value (gives_of (type e)) && agree q (gives_of (type e)) in
      sym (ap (λ w. only ok (length f.code) h w) (then_is (h + 1) one two after more f)
      ∙ only_is (λ g. ok) h (λ place g. then_code place (h + 1) (one place g) (after g) two) (λ g. then_after (after g) more) f)

  pub place_named : (x : y.Seen) (q : Gives) (n : NameAt) (is_outer is_moved : Bool) (f : Going) → place_emitted a (t.expr x (t.name n is_outer is_moved)) q h s f ≡ exchanged (find n.name.0 s) q h f
  unfolding place_emitted emitted exchanged
  place_named x q n is_outer is_moved f = refl

  pub place_of_none : (x : y.Seen) (q : Gives) (e : t.Expr) (f : Going) → place_emitted a (t.expr x (t.steps e t.no_steps)) q h s f ≡ put (stuck h) f
  unfolding place_emitted emitted put
  place_of_none x q e f = refl

  pub place_of_one : (x : y.Seen) (q : Gives) (e : t.Expr) (z : t.Step) (f : Going) → place_emitted a (t.expr x (t.steps e (t.more_steps z t.no_steps))) q h s f
      ≡ first_swapped a e z h (h + 1) (waiting h q ∷ s) (filled h f)
  unfolding place_emitted first_swapped started
  place_of_one x q e z f =
      let inner : Scope = waiting h q ∷ s in
      sym (fill_then h (λ place g. start_code a e (step_view z) (λ n. step_changes n z) place (h + 1) inner g (λ o place k g. swap_code a o z place h k inner g))
      (λ g. start_after e (step_view z) (λ n. step_changes n z) (h + 1) inner g (λ k g. step_after z k inner g)) f)

  pub place_of_more : (x : y.Seen) (q : Gives) (e : t.Expr) (z w : t.Step) (ws : t.Steps) (f : Going) → place_emitted a (t.expr x (t.steps e (t.more_steps z (t.more_steps w ws)))) q h s f
      ≡ ended (mark_of (first_emitted a e z (h + 1) (waiting h q ∷ s) (filled h f))) (targets_emitted a (t.more_steps w ws) h (h + 1) (waiting h q ∷ s) (begun (h + 2) (first_emitted a e z (h + 1) (waiting h q ∷ s) (filled h f))))
  unfolding place_emitted first_emitted started targets_emitted
  place_of_more x q e z w ws f =
      let inner : Scope = waiting h q ∷ s in
      let one : Part = λ place g. start_code a e (step_view z) (λ n. step_changes n z) place (h + 1) inner g (λ o place k g. step_code a o z place (h + 1) k inner g) in
      let after : Gone → After = λ g. start_after e (step_view z) (λ n. step_changes n z) (h + 1) inner g (λ k g. step_after z k inner g) in
      let two : Part = λ place g. targets_code a (t.more_steps w ws) place h (h + 1) inner g in
      let more : Gone → After = λ g. targets_after (t.more_steps w ws) (h + 1) inner g in
      sym (then_is (h + 2) one two after more (filled h f)
      ∙ fill_then h (λ place g. then_code place (h + 2) (one place g) (after g) two) (λ g. then_after (after g) more) f)

-- ---- the targets of a place

module _ (a : Around) (new h : ℕ) (s : Scope) where
  pub no_targets : (f : Going) → targets_emitted a t.no_steps new h s f ≡ put (stuck new) f
  unfolding targets_emitted emitted put
  no_targets f = refl

  pub last_target : (x : t.Step) (f : Going) → targets_emitted a (t.more_steps x t.no_steps) new h s f ≡ swap_emitted a (reference h) x new (h + 1) s f
  unfolding targets_emitted swap_emitted
  last_target x f = refl

  pub more_targets : (x w : t.Step) (ws : t.Steps) (f : Going) → targets_emitted a (t.more_steps x (t.more_steps w ws)) new h s f
      ≡ ended (mark_of (step_emitted a (reference h) x h (h + 1) s f)) (targets_emitted a (t.more_steps w ws) new h s (begun (h + 1) (step_emitted a (reference h) x h (h + 1) s f)))
  unfolding targets_emitted step_emitted
  more_targets x w ws f =
      sym (then_is (h + 1) (λ place g. step_code a (reference h) x place h (h + 1) s g) (λ place g. targets_code a (t.more_steps w ws) place new h s g) (λ g. step_after x (h + 1) s g) (λ g. targets_after (t.more_steps w ws) h s g) f)

-- ---- what starts from a local, ended

ended_here : (start : ℕ) (f : Going) → ended (record { comes = true; start = start }) f ≡ f
unfolding ended
ended_here start f = refl

only_true : (n h : ℕ) (f : Going) → only true n h f ≡ f
unfolding only
only_true n h f = refl

module _ (view : y.View) (h : ℕ) (part : Rest) (after : Leaves) (ch : Bool) (f : Going) where
  abbrev from_base : Kept → ℕ → Going → Going
  from_base o next = emitted (λ place g. part (view_origin o) place next g) (after next)

  pub none_ended : (o : Kept) (start : ℕ) → start ≡ length f.code →
      base_ended (record { origin = o; next = h; start = start; is_there = false; mark = record { comes = true; start = start } }) h (from_base o h f) ≡ local_started view h part after None ch f
  unfolding base_ended
  none_ended o start e =
      ap (λ z. only false start h z) (ended_here start (from_base o h f)) ∙ ap (λ n. only false n h (from_base o h f)) e
      ∙ local_none h view part after (view_origin o) ch f

  pub stays_ended : (x : Entry) (o : Kept) (start : ℕ) (there : Bool) → start ≡ length f.code → view_origin o ≡ origin_of x → there ≡ is_there x f.gone → stays_of (Some x) view ch ≡ true →
      base_ended (record { origin = o; next = h; start = start; is_there = there; mark = record { comes = true; start = start } }) h (from_base o h f) ≡ local_started view h part after (Some x) ch f
  unfolding base_ended
  stays_ended x o start there e eo et es =
      ap (λ z. only there start h z) (ended_here start (from_base o h f)) ∙ ap (λ n. only there n h (from_base o h f)) e
      ∙ ap (λ b. only b (length f.code) h (from_base o h f)) et
      ∙ ap (λ z. only (is_there x f.gone) (length f.code) h (emitted (λ place g. part z place h g) (after h) f)) eo
      ∙ local_stays h view part after x ch f es

  pub lent_ended : (x : Entry) (start next : ℕ) (m : Mark) (f1 f2 : Going) → next ≡ h + 1 → f1 ≡ lent (Some x) copy view h f → m ≡ mark_of f1 → f2 ≡ begun next f1 → stays_of (Some x) view ch ≡ false →
      base_ended (record { origin = o.Reference h; next = next; start = start; is_there = true; mark = m }) h (from_base (o.Reference h) next f2) ≡ local_started view h part after (Some x) ch f
  unfolding base_ended
  lent_ended x start next m f1 f2 en e1 em e2 es =
      let l : Going = lent (Some x) copy view h f in
      only_true start h (ended m (from_base (o.Reference h) next f2))
      ∙ ap (λ k. ended k (from_base (o.Reference h) next f2)) (em ∙ ap mark_of e1)
      ∙ ap (λ z. ended (mark_of l) (from_base (o.Reference h) next z)) (e2 ∙ ap (λ z. begun next z) e1)
      ∙ ap (λ n. ended (mark_of l) (from_base (o.Reference h) n (begun n l))) en
      ∙ local_lent h view part after x ch f es

pub ruleset bases = (none_ended, stays_ended, lent_ended)

pub ruleset views = (v.of_field, v.of_method, v.of_index)
