-- What steps and what is set make, by what each call made.
use Rattle.std.proofs.Common.{◌≡◌, ℕ, ◌+◌, ◌<◌, ◌≤◌, List, [], ◌∷◌, ◌++◌, drop, get_or, length, refl, ap, sym, ◌∙◌}
use Rattle.std.specs.Prelude.{Bool, true, false, Option, map}
use Rattle.std.proofs.lemmas.Bool.{false≢true}
use Rattle.std.proofs.lemmas.List.{drop_all}
use Rattle.vale_base.specs.declared.spot.Spot.{Spot}
use Rattle.vale_rules_spec.specs.Types as y
use Rattle.vale_rules_spec.specs.Typed as t
use Rattle.vale_rules_spec.specs.Typed.{type}
use Rattle.vale_core.specs.declared.tree.Step.{Step}
use Rattle.vale_core.specs.View.{view_step, steps_of}
use Rattle.vale_lowering.specs.Instructions.{stuck}
use Rattle.vale_lowering_objects.specs.Scopes.{Gives, Entry, Scope, Around, find}
use Rattle.vale_lowering_objects.specs.Lowered.{reference}
use Rattle.vale_lower_flow.specs.declared.closing.Closings.{Closings}
use Rattle.vale_lower_flow.specs.declared.flow.Mark.{Mark}
use Rattle.vale_lower_flow.specs.Closing.{closed}
use Rattle.vale_lower_flow.specs.Flow.{Going, emitted, put, only, arrived, mark_of, begun, ended}
use Rattle.vale_lower_places.specs.Places.{exchanged}
use Rattle.vale_lower_places.specs.declared.places.Origin.TheVariants as o
use Rattle.vale_lower_parts.specs.Named.{node_of}
use Rattle.vale_lower_parts.specs.Branches.{Rest, Leaves, base_ended, local_started}
use Rattle.vale_lower_parts.specs.Emitted.{step_emitted, swap_emitted, steps_emitted, targets_emitted, place_emitted}
use Rattle.vale_lower_parts.proofs.StepLaws.{no_steps_is, more_steps_is, place_named, last_target, more_targets}
use Rattle.vale_lower_stmts.specs.Placed.{a_local, some_steps, nothing, place_of}
use Rattle.vale_lower_stmts.proofs.FrontLaws.{next_of}

-- ---- what a first step starts from

module _ (h : ℕ) (part : Rest) (after : Leaves) where
  abbrev pub from_value : ℕ → Going → Going
  from_value next = emitted (λ place g. part (reference h) place next g) (after next)

  pub base_by_value : (start next : ℕ) (there there2 : Bool) (m : Mark) (f f1 g : Going) → start ≡ length f.code → next ≡ h + 1 → there ≡ there2 → m ≡ mark_of g → f1 ≡ begun (h + 1) g →
      base_ended (record { origin = o.Reference h; next = next; start = start; is_there = there; mark = m }) h (from_value next f1) ≡ only there2 (length f.code) h (ended (mark_of g) (from_value (h + 1) (begun (h + 1) g)))
  unfolding base_ended
  base_by_value start next there there2 m f f1 g es en et em e1 =
      ap (λ (b : Bool). only b start h (ended m (from_value next f1))) et ∙ ap (λ (i : ℕ). only there2 i h (ended m (from_value next f1))) es
      ∙ ap (λ (z : Mark). only there2 (length f.code) h (ended z (from_value next f1))) em ∙ ap (λ (i : ℕ). only there2 (length f.code) h (ended (mark_of g) (from_value i f1))) en
      ∙ ap (λ (z : Going). only there2 (length f.code) h (ended (mark_of g) (from_value (h + 1) z))) e1

-- from a local that is named
pub named_as : (a : Around) (h : ℕ) (s : Scope) (view view2 : y.View) (changes : ℕ → Bool) (part : Rest) (after : Leaves) (n : ℕ) (x : Option Entry) (ch : Bool) (f g r : Going) → view ≡ view2 → x ≡ find n s → ch ≡ changes n
    → r ≡ local_started view h part after x ch f → g ≡ local_started view2 h part after (find n s) (changes n) f → r ≡ g
named_as a h s view view2 changes part after n x ch f g r ev ex ec er eg =
    er ∙ ap (λ (z : y.View). local_started z h part after x ch f) ev ∙ ap (λ (z : Option Entry). local_started view2 h part after z ch f) ex
    ∙ ap (λ (b : Bool). local_started view2 h part after (find n s) b f) ec ∙ sym eg

-- ---- steps one after another

pub steps_next : (a : Around) (c0 c1 : Closings) (xs : List Step) (i : ℕ) (x : Step) (h next : ℕ) (m : Mark) (s : Scope) (f f1 f2 goal : Going) →
    i < length xs → x ≡ get_or xs i x → next ≡ h + 1 → f1 ≡ step_emitted a (reference h) (view_step x) h next s f → m ≡ mark_of f1 → f2 ≡ begun next f1
    → ((g : Going) → closed c1 g ≡ closed c0 (ended m g))
    → closed c0 (steps_emitted a (steps_of (map view_step (drop i xs))) h s f) ≡ goal → closed c1 (steps_emitted a (steps_of (map view_step (drop (i + 1) xs))) h s f2) ≡ goal
steps_next a c0 c1 xs i x h next m s f f1 f2 goal lt is en e1 em e2 ec so_far =
    let rest : t.Steps = steps_of (map view_step (drop (i + 1) xs)) in
    let v : t.Step = view_step x in
    let one : ℕ → Going = λ (k : ℕ). step_emitted a (reference h) v h k s f in
    let whole : ℕ → Going → Going = λ (k : ℕ) (g : Going). ended (mark_of g) (steps_emitted a rest h s (begun k g)) in
    ap (λ (g : Going). closed c1 (steps_emitted a rest h s g)) e2
    ∙ (ec (steps_emitted a rest h s (begun next f1))
    ∙ (ap (λ (z : Mark). closed c0 (ended z (steps_emitted a rest h s (begun next f1)))) em
    ∙ (ap (λ (g : Going). closed c0 (whole next g)) e1 ∙ (ap (λ (k : ℕ). closed c0 (whole k (one k))) en
    ∙ (ap (λ (g : Going). closed c0 g) (sym (more_steps_is a h s v rest f)) ∙ (ap (λ (z : List Step). closed c0 (steps_emitted a (steps_of (map view_step z)) h s f)) (sym (next_of xs i x lt is)) ∙ so_far))))))

pub steps_end : (a : Around) (c : Closings) (xs : List Step) (i h : ℕ) (s : Scope) (f goal : Going) → length xs ≤ i → closed c (steps_emitted a (steps_of (map view_step (drop i xs))) h s f) ≡ goal → closed c (arrived f) ≡ goal
steps_end a c xs i h s f goal le so_far =
    ap (λ (g : Going). closed c g) (sym (no_steps_is a h s f)) ∙ (ap (λ (z : List Step). closed c (steps_emitted a (steps_of (map view_step z)) h s f)) (sym (drop_all i xs le)) ∙ so_far)

-- ---- the steps of a place: those that are left, and the last after them

abbrev pub targets_left : Around → List Step → ℕ → Step → ℕ → ℕ → Scope → Going → Going
targets_left a xs i last new h s f = targets_emitted a (steps_of (map view_step (drop i xs ++ last ∷ []))) new h s f

target_more : (a : Around) (x last : Step) (ws : List Step) (new h : ℕ) (s : Scope) (f : Going) →
    targets_emitted a (steps_of (map view_step (x ∷ (ws ++ last ∷ [])))) new h s f
    ≡ ended (mark_of (step_emitted a (reference h) (view_step x) h (h + 1) s f)) (targets_emitted a (steps_of (map view_step (ws ++ last ∷ []))) new h s (begun (h + 1) (step_emitted a (reference h) (view_step x) h (h + 1) s f)))
target_more a x last [] new h s f = more_targets a new h s (view_step x) (view_step last) t.no_steps f
target_more a x last (w ∷ ws) new h s f = more_targets a new h s (view_step x) (view_step w) (steps_of (map view_step (ws ++ last ∷ []))) f

pub targets_next : (a : Around) (c0 c1 : Closings) (xs : List Step) (i : ℕ) (x last : Step) (new h next : ℕ) (m : Mark) (s : Scope) (f f1 f2 goal : Going) →
    i < length xs → x ≡ get_or xs i x → next ≡ h + 1 → f1 ≡ step_emitted a (reference h) (view_step x) h next s f → m ≡ mark_of f1 → f2 ≡ begun next f1
    → ((g : Going) → closed c1 g ≡ closed c0 (ended m g))
    → closed c0 (targets_left a xs i last new h s f) ≡ goal → closed c1 (targets_left a xs (i + 1) last new h s f2) ≡ goal
targets_next a c0 c1 xs i x last new h next m s f f1 f2 goal lt is en e1 em e2 ec so_far =
    let rest : t.Steps = steps_of (map view_step (drop (i + 1) xs ++ last ∷ [])) in
    let v : t.Step = view_step x in
    let one : ℕ → Going = λ (k : ℕ). step_emitted a (reference h) v h k s f in
    let whole : ℕ → Going → Going = λ (k : ℕ) (g : Going). ended (mark_of g) (targets_emitted a rest new h s (begun k g)) in
    ap (λ (g : Going). closed c1 (targets_emitted a rest new h s g)) e2
    ∙ (ec (targets_emitted a rest new h s (begun next f1))
    ∙ (ap (λ (z : Mark). closed c0 (ended z (targets_emitted a rest new h s (begun next f1)))) em
    ∙ (ap (λ (g : Going). closed c0 (whole next g)) e1 ∙ (ap (λ (k : ℕ). closed c0 (whole k (one k))) en
    ∙ (ap (λ (g : Going). closed c0 g) (sym (target_more a x last (drop (i + 1) xs) new h s f)) ∙ (ap (λ (z : List Step). closed c0 (targets_emitted a (steps_of (map view_step (z ++ last ∷ []))) new h s f)) (sym (next_of xs i x lt is)) ∙ so_far))))))

pub targets_end : (a : Around) (c : Closings) (xs : List Step) (i : ℕ) (last : Step) (new h next : ℕ) (s : Scope) (f f1 goal : Going) → length xs ≤ i → next ≡ h + 1 → f1 ≡ swap_emitted a (reference h) (view_step last) new next s f
    → closed c (targets_left a xs i last new h s f) ≡ goal → closed c f1 ≡ goal
targets_end a c xs i last new h next s f f1 goal le en e1 so_far =
    ap (λ (g : Going). closed c g) (e1 ∙ ap (λ (k : ℕ). swap_emitted a (reference h) (view_step last) new k s f) en ∙ sym (last_target a new h s (view_step last) f))
    ∙ (ap (λ (z : List Step). closed c (targets_emitted a (steps_of (map view_step (z ++ last ∷ []))) new h s f)) (sym (drop_all i xs le)) ∙ so_far)

-- ---- what is set

abbrev pub is_steps : t.Node → Bool
is_steps (t.steps e ss) = true
is_steps _ = false

pub not_steps : (n : t.Node) (e : t.Expr) (ss : t.Steps) → is_steps n ≡ false → n ≡ t.steps e ss → ⊥
not_steps n e ss k at = false≢true (sym k ∙ ap is_steps at)

abbrev pub is_set : t.Node → Bool
is_set (t.set at p e) = true
is_set _ = false

pub not_set : (n : t.Node) (at : Spot) (p e : t.Expr) → is_set n ≡ false → n ≡ t.set at p e → ⊥
not_set n at p e k same = false≢true (sym k ∙ ap is_set same)

module _ (a : Around) (h : ℕ) (s : Scope) (q : Gives) where
  local_one : (n m : ℕ) → a_local n ≡ a_local m → n ≡ m
  local_one n m e = cc

  pub by_place_local : (p : t.Expr) (n : ℕ) (f : Going) → a_local n ≡ place_of p → place_emitted a p q h s f ≡ exchanged (find n s) q h f
  by_place_local (t.expr x (t.name m is_outer is_moved)) n f e = place_named a h s x q m is_outer is_moved f ∙ ap (λ (k : ℕ). exchanged (find k s) q h f) (sym (local_one n m.name.0 e))
  by_place_local (t.expr x (t.set at p w)) n f e = absurd cc
  by_place_local (t.expr x (t.chain w ls)) n f e = absurd cc
  by_place_local (t.expr x (t.unary at op w)) n f e = absurd cc
  by_place_local (t.expr x (t.steps w ss)) n f e = absurd cc
  by_place_local (t.expr x (t.number at w)) n f e = absurd cc
  by_place_local (t.expr x (t.quote at text)) n f e = absurd cc
  by_place_local (t.expr x (t.truth at b)) n f e = absurd cc
  by_place_local (t.expr x (t.call m c es)) n f e = absurd cc
  by_place_local (t.expr x (t.paren at w)) n f e = absurd cc
  by_place_local (t.expr x (t.array at w es)) n f e = absurd cc
  by_place_local (t.expr x (t.iso at b)) n f e = absurd cc
  by_place_local (t.expr x (t.form w)) n f e = absurd cc

  pub by_place_nothing : (p : t.Expr) (f : Going) → nothing ≡ place_of p → place_emitted a p q h s f ≡ put (stuck h) f
  unfolding place_emitted emitted put
  by_place_nothing (t.expr x (t.name m is_outer is_moved)) f e = absurd cc
  by_place_nothing (t.expr x (t.set at p w)) f e = refl
  by_place_nothing (t.expr x (t.chain w ls)) f e = refl
  by_place_nothing (t.expr x (t.unary at op w)) f e = refl
  by_place_nothing (t.expr x (t.steps w ss)) f e = absurd cc
  by_place_nothing (t.expr x (t.number at w)) f e = refl
  by_place_nothing (t.expr x (t.quote at text)) f e = refl
  by_place_nothing (t.expr x (t.truth at b)) f e = refl
  by_place_nothing (t.expr x (t.call m c es)) f e = refl
  by_place_nothing (t.expr x (t.paren at w)) f e = refl
  by_place_nothing (t.expr x (t.array at w es)) f e = refl
  by_place_nothing (t.expr x (t.iso at b)) f e = refl
  by_place_nothing (t.expr x (t.form w)) f e = refl

  pub by_place_steps : (p : t.Expr) (f r : Going) → some_steps ≡ place_of p → ((x : y.Seen) (e : t.Expr) (ss : t.Steps) → node_of p ≡ t.steps e ss → r ≡ place_emitted a (t.expr x (t.steps e ss)) q h s f) → r ≡ place_emitted a p q h s f
  by_place_steps (t.expr x (t.steps w ss)) f r e make = make x w ss refl
  by_place_steps (t.expr x (t.name m is_outer is_moved)) f r e make = absurd cc
  by_place_steps (t.expr x (t.set at p w)) f r e make = absurd cc
  by_place_steps (t.expr x (t.chain w ls)) f r e make = absurd cc
  by_place_steps (t.expr x (t.unary at op w)) f r e make = absurd cc
  by_place_steps (t.expr x (t.number at w)) f r e make = absurd cc
  by_place_steps (t.expr x (t.quote at text)) f r e make = absurd cc
  by_place_steps (t.expr x (t.truth at b)) f r e make = absurd cc
  by_place_steps (t.expr x (t.call m c es)) f r e make = absurd cc
  by_place_steps (t.expr x (t.paren at w)) f r e make = absurd cc
  by_place_steps (t.expr x (t.array at w es)) f r e make = absurd cc
  by_place_steps (t.expr x (t.iso at b)) f r e make = absurd cc
  by_place_steps (t.expr x (t.form w)) f r e make = absurd cc

  -- the steps of a node that is some
  pub by_target : (p : t.Node) (e0 : t.Expr) (ss0 : t.Steps) (f r : Going) → p ≡ t.steps e0 ss0 → ((x : y.Seen) → r ≡ place_emitted a (t.expr x (t.steps e0 ss0)) q h s f)
      → (x : y.Seen) (e : t.Expr) (ss : t.Steps) → p ≡ t.steps e ss → r ≡ place_emitted a (t.expr x (t.steps e ss)) q h s f
  by_target p e0 ss0 f r is make x e ss at =
      make x ∙ ap (λ (n : t.Node). place_emitted a (t.expr x n) q h s f) (sym is ∙ at)
