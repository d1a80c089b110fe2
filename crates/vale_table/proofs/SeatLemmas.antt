-- Opening, splitting and joining.
use Rattle.std.proofs.Common.{◌≡◌, ℕ, zero, suc, ◌+◌, ◌<◌, ◌≤◌, ◌≢◌, ◌⊎◌, List, [], ◌∷◌, ◌++◌, map, length, get_or, set, replicate, refl, sym, ap, ◌∙◌, subst, Bool, true, false, arith, inl, ⊎_elim, Option, Some, IfSome, if◌then◌else◌, ◌==◌, max, ◌||◌, length-append, append-nil, eq-eqb, ne_eqb}
use Rattle.std.proofs.lemmas.List.{length-map, length-replicate, nil_from_length}
use mathlib.Core.Option.{some, some-injective, some-ne-none}
use mathlib.Core.Logic.{dite}
use native.Mathlib.Decide.{ℕ_discrete}
use lib.ListN.{get_elem?}
use Rattle.std.specs.Prelude.{slice_get}
use Rattle.atomic_table.specs.Table.{opening, Splits, Joins}
use Rattle.atomic_table.proofs.Lists.{at_set, at_snoc, at_longer, at_map, set_here, set_else}
use Rattle.vale_table.specs.declared.view.View.{View}
use Rattle.vale_table.specs.declared.view.Mark.{Mark}
use Rattle.vale_table.specs.declared.view.Role.TheVariants.{Root, Worker, Spent}
use Rattle.vale_page.specs.PageState.{PageState, IsBlankAt, IsBatch}
use Rattle.vale_table.specs.Marks.{unknown, mark, passed_on, both_marks, root_view, spent_view, root_left, worker_right, both_views}
use Rattle.vale_table.specs.Rule.{Frame, free, held, split, join, inherits, after, start, next, St, FitsFree, IsFreeAt, FitsOwner, FitsOther, IsHeldBy, Stands, is_worker, count_workers, IsRooted, Keeps, ArePages}
use Rattle.vale_table.proofs.MarkLemmas.{passed_at, merged_at, replicate_at, inside, of_map}
use Rattle.vale_table.proofs.StepLemmas.{Homes, count_set, counted, is_root}

count_append : (vs ws : List View) → count_workers (vs ++ ws) ≡ count_workers vs + count_workers ws
count_append [] ws = omega arith
count_append (v ∷ vs) ws = omega (arith, count_append vs ws)

-- what holds of no knowledge
free_unknown : (b : ℕ) → FitsFree b unknown
free_unknown b = record { floor = omega arith; bases = refl; is_out = refl; seen = inl refl; carried = refl }

other_unknown : (b : ℕ) → FitsOther b unknown
other_unknown b = record { floor = omega arith; bases = refl; carried = refl }

free_passed : (b : ℕ) (m : Mark) → FitsFree b m → FitsFree b (passed_on m)
free_passed b m h = record { floor = h.floor; bases = refl; is_out = h.is_out; seen = inl refl; carried = refl }

chosen : (c : Bool) (x y : ℕ) (P : ℕ → Type 0) → P x → P y → P (if c then x else y)
chosen true x y P p q = p
chosen false x y P p q = q

or_true : (a : Bool) → (a || true) ≡ true
or_true true = refl
or_true false = refl

or_false : (a : Bool) → (a || false) ≡ a
or_false true = refl
or_false false = refl

append_none : (l : List ℕ) → l ++ [] ≡ l
append_none [] = refl
append_none (x ∷ xs) = ap (λ (t : List ℕ). x ∷ t) (append_none xs)

max_le : (a b c : ℕ) → a ≤ c → b ≤ c → max a b ≤ c
max_le a b c p q = omega arith

free_both : (b : ℕ) (m k : Mark) → FitsFree b m → FitsFree b k → FitsFree b (both_marks m k)
free_both b m k p q = record {
  floor = max_le m.floor k.floor b p.floor q.floor;
  bases = (λ i. p.bases i ++ q.bases i);
  is_out = (λ i. p.is_out i || q.is_out i);
  seen = chosen (m.seen == 0) k.seen m.seen (λ x. (x ≡ 0) ⊎ (x ≡ b)) q.seen p.seen;
  carried = (λ i. p.carried i || q.carried i);
}

other_both : (b : ℕ) (m k : Mark) → FitsOther b m → FitsOther b k → FitsOther b (both_marks m k)
other_both b m k p q = record { floor = max_le m.floor k.floor b p.floor q.floor; bases = (λ i. p.bases i ++ q.bases i); carried = (λ i. p.carried i || q.carried i) }

module _ {B : Type 0} where
  owner_left : (hs : Homes B) (f b : ℕ) (m k : Mark) → FitsOwner hs f b m → FitsOther b k → FitsOwner hs f b (both_marks m k)
  owner_left hs f b m k p q =
      let c : (m.carried || k.carried) ≡ m.carried = ap (λ (x : Bool). m.carried || x) q.carried ∙ or_false m.carried in
      record {
        floor = max_le m.floor k.floor b p.floor q.floor;
        bases = (λ i. p.bases i ++ q.bases i);
        is_out = ap (λ (x : Bool). x || k.is_out) p.is_out;
        away = λ e. p.away (sym c ∙ e);
        home = λ e. p.home (sym c ∙ e);
      }

  owner_right : (hs : Homes B) (f b : ℕ) (m k : Mark) → FitsOther b m → FitsOwner hs f b k → FitsOwner hs f b (both_marks m k)
  owner_right hs f b m k p q =
      let c : (m.carried || k.carried) ≡ k.carried = ap (λ (x : Bool). x || k.carried) p.carried in
      record {
        floor = max_le m.floor k.floor b p.floor q.floor;
        bases = (λ i. p.bases i ++ q.bases i);
        is_out = ap (λ (x : Bool). m.is_out || x) q.is_out ∙ or_true m.is_out;
        away = λ e. q.away (sym c ∙ e);
        home = λ e. q.home (sym c ∙ e);
      }

-- one more worker
rooted_split : (views : List View) (id : ℕ) (v : View) → IsRooted views → get_elem? views id ≡ some v → v.role ≡ Root → IsRooted (set views id (root_left v) ++ worker_right v ∷ [])
rooted_split views id v r at root =
    let w : View = root_left v in
    let u : View = worker_right v in
    let who = is_root views r id v at root in
    let vs : List View = set views id w in
    let first : get_elem? vs 0 ≡ some w = subst (λ (i : ℕ). get_elem? vs i ≡ some w) who.0 (set_here views id w (inside views id v at)) in
    record {
      root = w;
      at = at_longer vs (u ∷ []) 0 w first;
      role = root;
      workers = omega (arith, count_append vs (u ∷ []), count_set views id v w at, r.workers, ap (λ (x : View). x.workers) who.1);
      only = λ i x e is. ⊎_elim
          (λ (t : get_elem? vs i ≡ some x). ⊎_elim (λ (z : (i ≡ id) × (w ≡ x)). z.0 ∙ who.0) (λ (z : (i ≢ id) × (get_elem? views i ≡ some x)). r.only i x z.1 is) (at_set views id i w x t))
          (λ (t : u ≡ x). absurd (let e : Worker ≡ Root = ap (λ (y : View). y.role) t ∙ is in cc)) (at_snoc vs u x i e);
      spent = λ i x e is. ⊎_elim
          (λ (t : get_elem? vs i ≡ some x). ⊎_elim (λ (z : (i ≡ id) × (w ≡ x)). absurd (let e : Root ≡ Spent = sym root ∙ ap (λ (y : View). y.role) z.1 ∙ is in cc)) (λ (z : (i ≢ id) × (get_elem? views i ≡ some x)). r.spent i x z.1 is) (at_set views id i w x t))
          (λ (t : u ≡ x). absurd (let e : Worker ≡ Spent = ap (λ (y : View). y.role) t ∙ is in cc)) (at_snoc vs u x i e);
    }

-- one worker less
rooted_join : (views : List View) (id other : ℕ) (v w : View) → IsRooted views → get_elem? views id ≡ some v → get_elem? views other ≡ some w → ¬ (other ≡ id) → v.role ≡ Root → w.role ≡ Worker
    → IsRooted (set (set views id (both_views v w)) other spent_view)
rooted_join views id other v w r at there' apart root works =
    let u : View = both_views v w in
    let who = is_root views r id v at root in
    let vs : List View = set views id u in
    let at' : get_elem? vs other ≡ some w = set_else views id other u apart ∙ there' in
    let one : get_elem? vs id ≡ some u = set_here views id u (inside views id v at) in
    let first : get_elem? (set vs other spent_view) id ≡ some u = set_else vs other id spent_view (λ e. apart (sym e)) ∙ one in
    let a = ap is_worker root in
    let b = ap is_worker works in
    let least = counted views other w there' in
    record {
      root = u;
      at = subst (λ (i : ℕ). get_elem? (set vs other spent_view) i ≡ some u) who.0 first;
      role = root;
      workers = omega (arith, count_set vs other w spent_view at', count_set views id v u at, r.workers, ap (λ (x : View). x.workers) who.1, a, b, least);
      only = λ i x e is. ⊎_elim (λ (z : (i ≡ other) × (spent_view ≡ x)). absurd (let e : Spent ≡ Root = ap (λ (y : View). y.role) z.1 ∙ is in cc))
          (λ (z : (i ≢ other) × (get_elem? vs i ≡ some x)). ⊎_elim (λ (y : (i ≡ id) × (u ≡ x)). y.0 ∙ who.0) (λ (y : (i ≢ id) × (get_elem? views i ≡ some x)). r.only i x y.1 is) (at_set views id i u x z.1)) (at_set vs other i spent_view x e);
      spent = λ i x e is. ⊎_elim (λ (z : (i ≡ other) × (spent_view ≡ x)). sym z.1)
          (λ (z : (i ≢ other) × (get_elem? vs i ≡ some x)). ⊎_elim (λ (y : (i ≡ id) × (u ≡ x)). absurd (let e : Root ≡ Spent = sym root ∙ ap (λ (q : View). q.role) y.1 ∙ is in cc)) (λ (y : (i ≢ id) × (get_elem? views i ≡ some x)). r.spent i x y.1 is) (at_set views id i u x z.1)) (at_set vs other i spent_view x e);
    }

module _ {B : Type 0} where
  abbrev with_views : St B → List View → St B
  with_views s vs = record { words = s.words; homes = s.homes; views = vs }

  split_at : (s : St B) (id : ℕ) (v : View) → get_elem? s.views id ≡ some v → (f : ℕ) (x : Frame) → Stands s f x → Stands (with_views s (set s.views id (root_left v) ++ worker_right v ∷ [])) f x
  split_at s id v at f (free b) h = record {
    positive = h.positive;
    word = h.word;
    home = h.home;
    known = λ i u e. ⊎_elim
        (λ (t : get_elem? (set s.views id (root_left v)) i ≡ some u). ⊎_elim (λ (z : (i ≡ id) × (root_left v ≡ u)). subst (λ (y : View). FitsFree b (mark y f)) z.1 (h.known id v at)) (λ (z : (i ≢ id) × (get_elem? s.views i ≡ some u)). h.known i u z.1) (at_set s.views id i (root_left v) u t))
        (λ (t : worker_right v ≡ u). subst (λ (y : View). FitsFree b (mark y f)) t (subst (FitsFree b) (sym (passed_at v.marks f)) (free_passed b (mark v f) (h.known id v at))))
        (at_snoc (set s.views id (root_left v)) (worker_right v) u i e);
  }
  split_at s id v at f (held o b) h =
      let w : View = root_left v in
      let vs : List View = set s.views id w in
      let u : View = h.owner.0 in
      let floor : (mark v f).floor ≤ b = dite (ℕ_discrete id o)
      (λ z. subst (λ (y : View). (mark y f).floor ≤ b) (some-injective u v (sym h.owner.1 ∙ ap (get_elem? s.views) (sym z) ∙ at)) h.owner.2.floor)
      (λ ne. (h.known id v ne at).floor) in
      record {
        positive = h.positive;
        word = h.word;
        owner = dite (ℕ_discrete o id)
            (λ z.
            let same : u ≡ v = some-injective u v (sym h.owner.1 ∙ ap (get_elem? s.views) z ∙ at) in
            (w, at_longer vs (worker_right v ∷ []) o w (ap (get_elem? vs) z ∙ set_here s.views id w (inside s.views id v at)), subst (λ (y : View). FitsOwner s.homes f b (mark y f)) same h.owner.2))
            (λ ne. (u, at_longer vs (worker_right v ∷ []) o u (set_else s.views id o w ne ∙ h.owner.1), h.owner.2));
        known = λ i x far e. ⊎_elim
            (λ (t : get_elem? vs i ≡ some x). ⊎_elim (λ (z : (i ≡ id) × (w ≡ x)). subst (λ (y : View). FitsOther b (mark y f)) z.1 (h.known id v (λ q. far (z.0 ∙ q)) at)) (λ (z : (i ≢ id) × (get_elem? s.views i ≡ some x)). h.known i x far z.1) (at_set s.views id i w x t))
            (λ (t : worker_right v ≡ x). subst (λ (y : View). FitsOther b (mark y f)) t (subst (FitsOther b) (sym (passed_at v.marks f)) record { floor = floor; bases = refl; carried = refl }))
            (at_snoc vs (worker_right v) x i e);
      }

  pub splits : (n first id : ℕ) (v : View) → v.role ≡ Root → Splits {S = Option (PageState B)} (Keeps n first) id v (root_left v) (worker_right v)
  splits n first id v root s k at = record {
    core = after (split id) k.core;
    reached = next k.core (split id) k.reached (is_root s.views k.rooted id v at root).0;
    long = k.long;
    many = omega (arith, k.many, count_append (set s.views id (root_left v)) (worker_right v ∷ []), count_set s.views id v (root_left v) at);
    words = k.words;
    homes = k.homes;
    rooted = rooted_split s.views id v k.rooted at root;
    each = λ f x e. split_at s id v at f x (k.each f x e);
  }

  join_free : (s : St B) (id other : ℕ) (v w : View) → get_elem? s.views id ≡ some v → get_elem? s.views other ≡ some w → (f b : ℕ) → IsFreeAt s f b → IsFreeAt (with_views s (set (set s.views id (both_views v w)) other spent_view)) f b
  join_free s id other v w at there' f b h =
      let u : View = both_views v w in
      let both : FitsFree b (mark u f) = subst (FitsFree b) (sym (merged_at v.marks w.marks f)) (free_both b (mark v f) (mark w f) (h.known id v at) (h.known other w there')) in
      record {
        positive = h.positive;
        word = h.word;
        home = h.home;
        known = λ i x e. ⊎_elim (λ (z : (i ≡ other) × (spent_view ≡ x)). subst (λ (y : View). FitsFree b (mark y f)) z.1 (free_unknown b))
            (λ (z : (i ≢ other) × (get_elem? (set s.views id u) i ≡ some x)). ⊎_elim (λ (y : (i ≡ id) × (u ≡ x)). subst (λ (q : View). FitsFree b (mark q f)) y.1 both) (λ (y : (i ≢ id) × (get_elem? s.views i ≡ some x)). h.known i x y.1) (at_set s.views id i u x z.1))
            (at_set (set s.views id u) other i spent_view x e);
      }

  -- the frame goes to the owner o, who was its owner or gets it from the other seat
  join_held : (s : St B) (id other : ℕ) (v w : View) → get_elem? s.views id ≡ some v → get_elem? s.views other ≡ some w → ¬ (other ≡ id) → (f o b : ℕ) → IsHeldBy s f o b
      → Dec (o ≡ other) → Dec (o ≡ id) → (to : ℕ) → (o ≡ other → to ≡ id) → (o ≢ other → to ≡ o) → IsHeldBy (with_views s (set (set s.views id (both_views v w)) other spent_view)) f to b
  join_held s id other v w at there' apart f o b h gone same to moves keeps' =
      let u : View = both_views v w in
      let vs : List View = set s.views id u in
      let ws : List View = set vs other spent_view in
      let at_id : get_elem? ws id ≡ some u = set_else vs other id spent_view (λ e. apart (sym e)) ∙ set_here s.views id u (inside s.views id v at) in
      let k : mark u f ≡ both_marks (mark v f) (mark w f) = merged_at v.marks w.marks f in
      let rest : (m : ℕ) → to ≡ m → m ≢ other → (m ≢ id → FitsOther b (mark u f)) → ((i : ℕ) (x : View) → ¬ (i ≡ m) → i ≢ id → i ≢ other → get_elem? s.views i ≡ some x → FitsOther b (mark x f)) → (i : ℕ) (x : View) → ¬ (i ≡ to) → get_elem? ws i ≡ some x → FitsOther b (mark x f) =
      λ m is away mine others i x far e. ⊎_elim (λ (z : (i ≡ other) × (spent_view ≡ x)). subst (λ (y : View). FitsOther b (mark y f)) z.1 (other_unknown b))
      (λ (z : (i ≢ other) × (get_elem? vs i ≡ some x)). ⊎_elim (λ (y : (i ≡ id) × (u ≡ x)). subst (λ (q : View). FitsOther b (mark q f)) y.1 (mine (λ e'. far (y.0 ∙ sym e' ∙ sym is))))
      (λ (y : (i ≢ id) × (get_elem? s.views i ≡ some x)). others i x (λ e'. far (e' ∙ sym is)) y.0 z.0 y.1) (at_set s.views id i u x z.1))
      (at_set vs other i spent_view x e) in
      dite gone
      (λ g.
      let is : to ≡ id = moves g in
      let its : FitsOwner s.homes f b (mark w f) = subst (λ (y : View). FitsOwner s.homes f b (mark y f)) (some-injective h.owner.0 w (sym h.owner.1 ∙ ap (get_elem? s.views) g ∙ there')) h.owner.2 in
      let mine : FitsOther b (mark v f) = h.known id v (λ e. apart (sym g ∙ sym e)) at in
      record {
        positive = h.positive;
        word = h.word;
        owner = (u, ap (get_elem? ws) is ∙ at_id, subst (FitsOwner s.homes f b) (sym k) (owner_right s.homes f b (mark v f) (mark w f) mine its));
        known = rest id is (λ e. apart (sym e)) (λ ne. absurd (ne refl)) (λ i x far _ no e. h.known i x (λ q. no (q ∙ g)) e);
      })
      (λ stays.
      let is : to ≡ o = keeps' stays in
      let its : FitsOther b (mark w f) = h.known other w (λ e. stays (sym e)) there' in
      dite same
      (λ z.
      let mine : FitsOwner s.homes f b (mark v f) = subst (λ (y : View). FitsOwner s.homes f b (mark y f)) (some-injective h.owner.0 v (sym h.owner.1 ∙ ap (get_elem? s.views) z ∙ at)) h.owner.2 in
      record {
        positive = h.positive;
        word = h.word;
        owner = (u, ap (get_elem? ws) (is ∙ z) ∙ at_id, subst (FitsOwner s.homes f b) (sym k) (owner_left s.homes f b (mark v f) (mark w f) mine its));
        known = rest id (is ∙ z) (λ e. apart (sym e)) (λ ne. absurd (ne refl)) (λ i x far ne _ e. h.known i x (λ q. ne (q ∙ z)) e);
      })
      (λ ne.
      let mine : FitsOther b (mark v f) = h.known id v (λ e. ne (sym e)) at in
      record {
        positive = h.positive;
        word = h.word;
        owner = (h.owner.0, ap (get_elem? ws) is ∙ set_else vs other o spent_view stays ∙ set_else s.views id o u ne ∙ h.owner.1, h.owner.2);
        known = rest o is stays (λ _. subst (FitsOther b) (sym k) (other_both b (mark v f) (mark w f) mine its)) (λ i x far _ _ e. h.known i x far e);
      }))

  join_at : (s : St B) (id other : ℕ) (v w : View) → get_elem? s.views id ≡ some v → get_elem? s.views other ≡ some w → ¬ (other ≡ id) → (f : ℕ) (x : Frame) → Stands s f x → Stands (with_views s (set (set s.views id (both_views v w)) other spent_view)) f (inherits other id x)
  join_at s id other v w at there' apart f (free b) h = join_free s id other v w at there' f b h
  join_at s id other v w at there' apart f (held o b) h = join_held s id other v w at there' apart f o b h (ℕ_discrete o other) (ℕ_discrete o id) (if o == other then id else o)
      (λ e. ap (λ (c : Bool). if c then id else o) (eq-eqb o other e)) (λ ne. ap (λ (c : Bool). if c then id else o) (ne_eqb o other ne))

  pub joins : (n first id other : ℕ) (v w : View) → v.role ≡ Root → w.role ≡ Worker → Joins {S = Option (PageState B)} (Keeps n first) id v other w (both_views v w) spent_view
  joins n first id other v w root works s k at apart late =
      let there' : get_elem? s.views other ≡ some w = sym (set_else s.views id other (both_views v w) apart) ∙ late in
      record {
        core = after (join id other) k.core;
        reached = next k.core (join id other) k.reached record { root = (is_root s.views k.rooted id v at root).0; apart = apart; worker = omega (arith, k.many, counted s.views other w there', ap is_worker works) };
        long = length-map k.core.frames (inherits other id) ∙ k.long;
        many = omega (arith, k.many, count_set (set s.views id (both_views v w)) other w spent_view late, count_set s.views id v (both_views v w) at, ap is_worker works);
        words = k.words;
        homes = k.homes;
        rooted = rooted_join s.views id other v w k.rooted at there' apart root works;
        each = λ f y e. let x = of_map (inherits other id) k.core.frames f y e in subst (Stands (with_views s (set (set s.views id (both_views v w)) other spent_view)) f) x.2 (join_at s id other v w at there' apart f x.0 (k.each f x.0 x.1));
      }

  -- the pages lie in order, each fresh
  pub opens : (n first : ℕ) (words : List ℕ) (slots : List (Option (PageState B))) → words ≡ replicate n first → length slots ≡ n → 0 < first
      → ((f : ℕ) → f < n → (p : PageState B) × (get_elem? slots f ≡ some (Some p)) × IsBlankAt p f first) → Keeps n first (opening words slots (root_view n first))
  opens n first words slots is long pos fresh = record {
    core = record { frames = replicate n (free first); workers = 0 };
    reached = start;
    long = length-replicate n (free first);
    many = refl;
    words = ap length is ∙ length-replicate n first;
    homes = length-map slots some ∙ long;
    rooted = record {
      root = root_view n first;
      at = refl;
      role = refl;
      workers = refl;
      only = λ i v e _. one i v e;
      spent = λ i v e over. absurd (let r : Root ≡ Spent = ap (λ (y : View). y.role) (first_is i v e) ∙ over in cc);
    };
    each = λ f x e.
        let near : f < n = subst (λ (k : ℕ). f < k) (length-replicate n (free first)) (inside (replicate n (free first)) f x e) in
        subst (Stands (opening words slots (root_view n first)) f) (same n f x e) record {
          positive = pos;
          word = ap (λ (l : List ℕ). get_or l f 0) is ∙ word_at n f near;
          home = (let p = fresh f near in (p.0, at_map some slots f (Some p.0) p.1, p.2));
          known = λ i v e'. subst (λ (y : View). FitsFree first (mark y f)) (first_is i v e') (subst (FitsFree first) (sym (replicate_at n f _ near)) record { floor = omega arith; bases = refl; is_out = refl; seen = inl refl; carried = refl });
        };
  }
    where
      one : (i : ℕ) (v : View) → get_elem? (root_view n first ∷ []) i ≡ some v → i ≡ 0
      one zero v e = refl
      one (suc i) v e = absurd (some-ne-none v (sym e))

      first_is : (i : ℕ) (v : View) → get_elem? (root_view n first ∷ []) i ≡ some v → root_view n first ≡ v
      first_is zero v e = some-injective _ v e
      first_is (suc i) v e = absurd (some-ne-none v (sym e))

      same : (m f : ℕ) (x : Frame) → get_elem? (replicate m (free first)) f ≡ some x → free first ≡ x
      same zero f x e = absurd (some-ne-none x (sym e))
      same (suc m) zero x e = some-injective _ x e
      same (suc m) (suc f) x e = same m f x e

      word_at : (m f : ℕ) → f < m → get_or (replicate m first) f 0 ≡ first
      word_at zero f h = absurd (omega arith)
      word_at (suc m) zero h = refl
      word_at (suc m) (suc f) h = word_at m f (omega arith)

grown_words : (n b : ℕ) → replicate n b ++ b ∷ [] ≡ replicate (suc n) b
grown_words zero b = refl
grown_words (suc n) b = ap (λ (l : List ℕ). b ∷ l) (grown_words n b)

-- one word for each page
pub more_words : {A : Type 0} → (b : ℕ) (ps : List A) (p : A) (ws vs : List ℕ) → ws ≡ replicate (length ps) b → vs ≡ ws ++ b ∷ [] → vs ≡ replicate (length (ps ++ p ∷ [])) b
more_words b ps p ws vs e is =
    is ∙ ap (λ (l : List ℕ). l ++ b ∷ []) e ∙ grown_words (length ps) b ∙ ap (λ (k : ℕ). replicate k b) (let s : suc (length ps) ≡ length (ps ++ p ∷ []) = omega (arith, length-append ps (p ∷ [])) in s)

module _ {B : Type 0} where
  page_at : (P : PageState B → Type 0) (ps : List (PageState B)) (k : ℕ) → k < length ps → IfSome (slice_get ps k) P → (p : PageState B) × (get_elem? (map Some ps) k ≡ some (Some p)) × P p
  page_at P [] k h is = absurd (omega arith)
  page_at P (p ∷ ps) zero h is = (p, refl, is)
  page_at P (p ∷ ps) (suc k) h is = page_at P ps k (omega arith) is

  -- the pages of a batch lie in order, each blank at the first base
  pub batch_lies : (ps : List (PageState B)) (n first : ℕ) → IsBatch ps n first → ArePages first n (map Some ps)
  batch_lies ps n first is f near = page_at (λ p. IsBlankAt p f first) ps f (omega (arith, is.many)) (is.each f near)

  -- the pages that a loop has gone over, where none are left
  pub whole_batch : (ps rest items : List (PageState B)) (n first : ℕ) → length rest ≡ 0 → ps ++ rest ≡ items → IsBatch items n first → IsBatch ps n first
  whole_batch ps rest items n first none is batch =
      let all : ps ≡ items = sym (append-nil ps) ∙ ap (λ (l : List (PageState B)). ps ++ l) (sym (nil_from_length rest none)) ∙ is in
      subst (λ (l : List (PageState B)). IsBatch l n first) (sym all) batch

  pub opens_here : (n first : ℕ) (words items : List ℕ) (slots : List (Option (PageState B))) (ps : List (PageState B)) → words ≡ items → items ≡ replicate (length ps) first → slots ≡ map Some ps → 0 < first → IsBatch ps n first
      → Keeps n first (opening words slots (root_view n first))
  opens_here n first words items slots ps same is lie pos batch =
      opens n first words slots (same ∙ is ∙ ap (λ (k : ℕ). replicate k first) batch.many) (ap length lie ∙ length-map ps Some ∙ batch.many) pos
      (subst (ArePages first n) (sym lie) (batch_lies ps n first batch))
