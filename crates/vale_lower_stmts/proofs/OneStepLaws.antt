-- What single steps make, by what each call made.
use Rattle.std.proofs.Common.{◌≡◌, ℕ, ◌+◌, ◌<◌, List, [], ◌∷◌, length, ap, sym, ◌∙◌, arith}
use Rattle.std.specs.Prelude.{Bool, ◌&&◌, Option, map}
use Rattle.vale_base.specs.declared.name.Name.{Name}
use Rattle.vale_base.specs.declared.spot.Spot.{Spot}
use Rattle.vale_rules_spec.specs.Types as y
use Rattle.vale_rules_spec.specs.Typed as t
use Rattle.vale_rules_spec.specs.Typed.{type}
use Rattle.vale_core.specs.declared.tree.Expr.{Expr}
use Rattle.vale_core.specs.declared.tree.Step.{Step}
use Rattle.vale_core.specs.declared.tree.Step.TheVariants as p
use Rattle.vale_core.specs.declared.seen.Seen.{Seen}
use Rattle.vale_core.specs.declared.seen.View.{View}
use Rattle.vale_core.specs.View.{view_seen, view_view, view_expr, view_step, exprs_of, steps_of}
use Rattle.vale_core.proofs.ViewLaws as v
use Rattle.vale_model.specs.Parts.{field_place}
use Rattle.vale_lowering.specs.Instructions.{stuck}
use Rattle.vale_lowering_objects.specs.Changes.{step_changes}
use Rattle.vale_lowering_objects.specs.Scopes.{Gives, copy, gives_of, is_value, agree, Entry, Scope, Around, waiting}
use Rattle.vale_lowering_objects.specs.Lowered.{Origin, load_field, load_element, swap_field, swap_element, step_view, step_code, step_after, swap_code}
use Rattle.vale_lower_flow.specs.declared.flow.Mark.{Mark}
use Rattle.vale_lower_flow.specs.Flow.{Going, emitted, put, only, mark_of, begun, ended, filled}
use Rattle.vale_lower_places.specs.Origins.{view_origin}
use Rattle.vale_lower_parts.specs.declared.branch.Base.{Base}
use Rattle.vale_lower_parts.specs.Branches.{Rest, Leaves, base_ended}
use Rattle.vale_lower_parts.specs.Emitted.{expr_emitted, node_emitted, started, step_emitted, swap_emitted, first_emitted, first_swapped, steps_emitted, targets_emitted, place_emitted}
use Rattle.vale_lower_parts.proofs.StepLaws.{field_is, method_is, index_is, field_set, method_set, index_set, chain_of_steps, chain_of_none, set_is, place_of_none, place_of_one, place_of_more, no_targets}
use Rattle.vale_lower_stmts.proofs.FrontLaws.{front_closed}

module _ (a : Around) (h : ℕ) (s : Scope) where
  module _ (o : Origin) (to : ℕ) where
    step_as : (x : Step) (z : t.Step) (f : Going) → view_step x ≡ z → step_emitted a o z to h s f ≡ step_emitted a o (view_step x) to h s f
    step_as x z f e = ap (λ (w : t.Step). step_emitted a o w to h s f) (sym e)

    swap_as : (x : Step) (z : t.Step) (f : Going) → view_step x ≡ z → swap_emitted a o z to h s f ≡ swap_emitted a o (view_step x) to h s f
    swap_as x z f e = ap (λ (w : t.Step). swap_emitted a o w to h s f) (sym e)

    pub by_field : (x : Step) (seen : Seen) (view : View) (b : Bool) (at : Spot) (m : Name) (place : Option ℕ) (f r : Going) → x ≡ p.Field seen view b at m → place ≡ field_place a.parts (view_view view) m.0 → r ≡ put (load_field o place at to) f
        → r ≡ step_emitted a o (view_step x) to h s f
    by_field x seen view b at m place f r is ep er =
        er ∙ ap (λ (z : Option ℕ). put (load_field o z at to) f) ep ∙ sym (field_is a h s o to (view_seen seen) (view_view view) b at m f)
        ∙ step_as x (t.field (view_seen seen) (view_view view) b at m) f (ap view_step is ∙ v.of_field seen view b at m)

    pub by_method : (x : Step) (seen : Seen) (view : View) (at : Spot) (m : Name) (es : List Expr) (f r : Going) → x ≡ p.Method seen view at m es → r ≡ put (stuck to) f → r ≡ step_emitted a o (view_step x) to h s f
    by_method x seen view at m es f r is er =
        er ∙ sym (method_is a h s o to (view_seen seen) (view_view view) at m (exprs_of (map view_expr es)) f) ∙ step_as x (t.method (view_seen seen) (view_view view) at m (exprs_of (map view_expr es))) f (ap view_step is ∙ v.of_method seen view at m es)

    pub by_index : (x : Step) (seen : Seen) (view : View) (at : Spot) (e : Expr) (ok : Bool) (start : ℕ) (m : Mark) (f f1 f2 r : Going) → x ≡ p.Index seen view at e
        → start ≡ length f.code → m ≡ mark_of (expr_emitted a (view_expr e) h s f) → ok ≡ agree copy (gives_of (type (view_expr e))) → f1 ≡ begun (h + 1) (expr_emitted a (view_expr e) h s f) → f2 ≡ put (load_element o h at to) f1
        → r ≡ only ok start to (ended m f2) → r ≡ step_emitted a o (view_step x) to h s f
    by_index x seen view at e ok start m f f1 f2 r is es em eo e1 e2 er =
        front_closed (λ (z : Going). put (load_element o h at to) z) ok (agree copy (gives_of (type (view_expr e)))) start (length f.code) to m (mark_of (expr_emitted a (view_expr e) h s f)) f1 (begun (h + 1) (expr_emitted a (view_expr e) h s f)) f2 r es em eo e1 e2 er
        ∙ sym (index_is a h s o to (view_seen seen) (view_view view) at (view_expr e) f) ∙ step_as x (t.index (view_seen seen) (view_view view) at (view_expr e)) f (ap view_step is ∙ v.of_index seen view at e)

    pub by_field_set : (x : Step) (seen : Seen) (view : View) (b : Bool) (at : Spot) (m : Name) (place : Option ℕ) (f r : Going) → x ≡ p.Field seen view b at m → place ≡ field_place a.parts (view_view view) m.0 → r ≡ put (swap_field o place at to) f
        → r ≡ swap_emitted a o (view_step x) to h s f
    by_field_set x seen view b at m place f r is ep er =
        er ∙ ap (λ (z : Option ℕ). put (swap_field o z at to) f) ep ∙ sym (field_set a h s o to (view_seen seen) (view_view view) b at m f)
        ∙ swap_as x (t.field (view_seen seen) (view_view view) b at m) f (ap view_step is ∙ v.of_field seen view b at m)

    pub by_method_set : (x : Step) (seen : Seen) (view : View) (at : Spot) (m : Name) (es : List Expr) (f r : Going) → x ≡ p.Method seen view at m es → r ≡ put (stuck to) f → r ≡ swap_emitted a o (view_step x) to h s f
    by_method_set x seen view at m es f r is er =
        er ∙ sym (method_set a h s o to (view_seen seen) (view_view view) at m (exprs_of (map view_expr es)) f) ∙ swap_as x (t.method (view_seen seen) (view_view view) at m (exprs_of (map view_expr es))) f (ap view_step is ∙ v.of_method seen view at m es)

    pub by_index_set : (x : Step) (seen : Seen) (view : View) (at : Spot) (e : Expr) (ok : Bool) (start : ℕ) (m : Mark) (f f1 f2 r : Going) → x ≡ p.Index seen view at e
        → start ≡ length f.code → m ≡ mark_of (expr_emitted a (view_expr e) h s f) → ok ≡ agree copy (gives_of (type (view_expr e))) → f1 ≡ begun (h + 1) (expr_emitted a (view_expr e) h s f) → f2 ≡ put (swap_element o h at to) f1
        → r ≡ only ok start to (ended m f2) → r ≡ swap_emitted a o (view_step x) to h s f
    by_index_set x seen view at e ok start m f f1 f2 r is es em eo e1 e2 er =
        front_closed (λ (z : Going). put (swap_element o h at to) z) ok (agree copy (gives_of (type (view_expr e)))) start (length f.code) to m (mark_of (expr_emitted a (view_expr e) h s f)) f1 (begun (h + 1) (expr_emitted a (view_expr e) h s f)) f2 r es em eo e1 e2 er
        ∙ sym (index_set a h s o to (view_seen seen) (view_view view) at (view_expr e) f) ∙ swap_as x (t.index (view_seen seen) (view_view view) at (view_expr e)) f (ap view_step is ∙ v.of_index seen view at e)

  -- ---- first steps

  -- any part from a base
  abbrev pub FromBase : Base → t.Expr → t.Step → Going → Going → Type 0
  FromBase b e x f f1 = (part : Rest) (after : Leaves) → base_ended b h (emitted (λ place g. part (view_origin b.origin) place b.next g) (after b.next) f1) ≡ started a e (step_view x) (λ n. step_changes n x) h s part after f

  pub by_first : (b : Base) (e : t.Expr) (x : t.Step) (f f1 f2 r : Going) → FromBase b e x f f1 → f2 ≡ step_emitted a (view_origin b.origin) x h b.next s f1 → r ≡ base_ended b h f2 → r ≡ first_emitted a e x h s f
  unfolding step_emitted first_emitted
  by_first b e x f f1 f2 r make e2 er =
      er ∙ ap (λ (g : Going). base_ended b h g) e2 ∙ make (λ o place k g. step_code a o x place h k s g) (λ k g. step_after x k s g)

  pub by_first_set : (b : Base) (e : t.Expr) (x : t.Step) (new : ℕ) (f f1 f2 r : Going) → FromBase b e x f f1 → f2 ≡ swap_emitted a (view_origin b.origin) x new b.next s f1 → r ≡ base_ended b h f2 → r ≡ first_swapped a e x new h s f
  unfolding swap_emitted first_swapped
  by_first_set b e x new f f1 f2 r make e2 er =
      er ∙ ap (λ (g : Going). base_ended b h g) e2 ∙ make (λ o place k g. swap_code a o x place new k s g) (λ k g. step_after x k s g)

  -- ---- chains of steps

  pub by_steps : (x : y.Ty) (q : Gives) (e : t.Expr) (z : Step) (zs : List Step) (ok : Bool) (start : ℕ) (m : Mark) (f f1 f2 r : Going) → start ≡ length f.code → m ≡ mark_of (first_emitted a e (view_step z) h s f) → ok ≡ agree q copy
      → f1 ≡ begun (h + 1) (first_emitted a e (view_step z) h s f) → f2 ≡ steps_emitted a (steps_of (map view_step zs)) h s f1 → r ≡ only ok start h (ended m f2) → r ≡ node_emitted a x q (t.steps e (steps_of (map view_step (z ∷ zs)))) h s f
  by_steps x q e z zs ok start m f f1 f2 r es em eo e1 e2 er =
      let first : Going = first_emitted a e (view_step z) h s f in
      front_closed (λ (w : Going). steps_emitted a (steps_of (map view_step zs)) h s w) ok (agree q copy) start (length f.code) h m (mark_of first) f1 (begun (h + 1) first) f2 r es em eo e1 e2 er
      ∙ sym (chain_of_steps a h s x q e (view_step z) (steps_of (map view_step zs)) f)

  -- ---- what is set

  pub by_set : (x : y.Ty) (q given : Gives) (at : Spot) (place e : t.Expr) (ok : Bool) (start : ℕ) (m : Mark) (f f1 f2 r : Going) → given ≡ gives_of (type e) → start ≡ length f.code → m ≡ mark_of (expr_emitted a e h s f) → ok ≡ (is_value (gives_of (type e)) && agree q (gives_of (type e)))
      → f1 ≡ begun (h + 1) (expr_emitted a e h s f) → f2 ≡ place_emitted a place given h s f1 → r ≡ only ok start h (ended m f2) → r ≡ node_emitted a x q (t.set at place e) h s f
  by_set x q given at place e ok start m f f1 f2 r eg es em eo e1 e2 er =
      let one : Going = expr_emitted a e h s f in
      front_closed (λ (w : Going). place_emitted a place (gives_of (type e)) h s w) ok (is_value (gives_of (type e)) && agree q (gives_of (type e))) start (length f.code) h m (mark_of one) f1 (begun (h + 1) one) f2 r es em eo e1 (e2 ∙ ap (λ (w : Gives). place_emitted a place w h s f1) eg) er
      ∙ sym (set_is a h s x q at place e f)

  module _ (q : Gives) (x : y.Seen) (e : t.Expr) (z : Step) (w : Entry) (next : ℕ) where
    pub by_target_one : (zs : List Step) (f f1 r : Going) → length zs ≡ 0 → next ≡ h + 1 → w ≡ waiting h q → f1 ≡ filled h f → r ≡ first_swapped a e (view_step z) h next (w ∷ s) f1
        → r ≡ place_emitted a (t.expr x (t.steps e (steps_of (map view_step (z ∷ zs))))) q h s f
    by_target_one [] f f1 r en e_next ew e1 er =
        er ∙ ap (λ (g : Going). first_swapped a e (view_step z) h next (w ∷ s) g) e1 ∙ ap (λ (u : Entry). first_swapped a e (view_step z) h next (u ∷ s) (filled h f)) ew
        ∙ ap (λ (k : ℕ). first_swapped a e (view_step z) h k (waiting h q ∷ s) (filled h f)) e_next ∙ sym (place_of_one a h s x q e (view_step z) f)
    by_target_one (y ∷ ys) f f1 r en e_next ew e1 er = absurd (omega arith)

    pub by_target_more : (zs : List Step) (next2 : ℕ) (m : Mark) (f f1 f2 f3 f4 r : Going) → 0 < length zs → next ≡ h + 1 → next2 ≡ next + 1 → w ≡ waiting h q → f1 ≡ filled h f → f2 ≡ first_emitted a e (view_step z) next (w ∷ s) f1
        → m ≡ mark_of f2 → f3 ≡ begun next2 f2 → f4 ≡ targets_emitted a (steps_of (map view_step zs)) h next (w ∷ s) f3 → r ≡ ended m f4
        → r ≡ place_emitted a (t.expr x (t.steps e (steps_of (map view_step (z ∷ zs))))) q h s f
    by_target_more [] next2 m f f1 f2 f3 f4 r lt e_next e_next2 ew e1 e2 em e3 e4 er = absurd (omega arith)
    by_target_more (y ∷ ys) next2 m f f1 f2 f3 f4 r lt e_next e_next2 ew e1 e2 em e3 e4 er =
        let rest : t.Steps = t.more_steps (view_step y) (steps_of (map view_step ys)) in
        let first : ℕ → Entry → Going → Going = λ (k : ℕ) (u : Entry) (g : Going). first_emitted a e (view_step z) k (u ∷ s) g in
        let whole : ℕ → ℕ → Entry → Going → Going = λ (n : ℕ) (k : ℕ) (u : Entry) (g : Going). ended (mark_of g) (targets_emitted a rest h k (u ∷ s) (begun n g)) in
        let two : next + 1 ≡ h + 2 = omega arith in
        er ∙ ap (λ (k : Mark). ended k f4) em ∙ ap (λ (g : Going). ended (mark_of f2) g) (e4 ∙ ap (λ (g : Going). targets_emitted a rest h next (w ∷ s) g) (e3 ∙ ap (λ (n : ℕ). begun n f2) (e_next2 ∙ two)))
        ∙ ap (λ (g : Going). whole (h + 2) next w g) (e2 ∙ ap (λ (g : Going). first next w g) e1)
        ∙ ap (λ (u : Entry). whole (h + 2) next u (first next u (filled h f))) ew
        ∙ ap (λ (k : ℕ). whole (h + 2) k (waiting h q) (first k (waiting h q) (filled h f))) e_next
        ∙ sym (place_of_more a h s x q e (view_step z) (view_step y) (steps_of (map view_step ys)) f)

  -- ---- where there are no steps

  pub by_no_chain : (x : y.Ty) (q : Gives) (e : t.Expr) (zs : List Step) (f : Going) → length zs < 1 → put (stuck h) f ≡ node_emitted a x q (t.steps e (steps_of (map view_step zs))) h s f
  by_no_chain x q e [] f lt = sym (chain_of_none a h s x q e f)
  by_no_chain x q e (z ∷ zs) f lt = absurd (omega arith)

  pub by_no_place : (x : y.Seen) (q : Gives) (e : t.Expr) (zs : List Step) (f : Going) → length zs < 1 → put (stuck h) f ≡ place_emitted a (t.expr x (t.steps e (steps_of (map view_step zs)))) q h s f
  by_no_place x q e [] f lt = sym (place_of_none a h s x q e f)
  by_no_place x q e (z ∷ zs) f lt = absurd (omega arith)

  pub by_no_targets : (new : ℕ) (zs : List Step) (f : Going) → length zs < 1 → put (stuck new) f ≡ targets_emitted a (steps_of (map view_step zs)) new h s f
  by_no_targets new [] f lt = sym (no_targets a new h s f)
  by_no_targets new (z ∷ zs) f lt = absurd (omega arith)
