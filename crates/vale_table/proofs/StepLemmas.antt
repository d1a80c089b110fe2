-- Each step keeps the rule.
use Rattle.std.proofs.Common.{◌≡◌, ℕ, zero, suc, ◌+◌, ◌<◌, ◌≤◌, ◌≢◌, List, [], ◌∷◌, length, get_or, set, refl, sym, ap, ◌∙◌, subst, true≢false, arith, inr, ⊎_elim, length-set, get_or-set_other, get_or-set_same, Option, Some, eqb}
use mathlib.Core.Option as maybe
use mathlib.Core.Option.{some, none, some-injective, some-ne-none}
use mathlib.Core.Logic.{dite}
use native.Mathlib.Decide.{ℕ_discrete}
use lib.ListN.{get_elem?}
use prog.Atomic.{either}
use Rattle.atomic_table.specs.Table.{step, Act, keeps, takes, Valid, carried_after, stepped, Allows}
use Rattle.atomic_table.proofs.Lists.{at_set, set_again, set_here, set_else, exchanged}
use Rattle.vale_table.specs.declared.view.View.{View}
use Rattle.vale_table.specs.declared.view.Mark.{Mark}
use Rattle.vale_table.specs.declared.view.Role.TheVariants.{Root, Spent}
use Rattle.vale_page.specs.PageState.{PageState, IsBlankAt}
use Rattle.vale_table.specs.Marks.{mark, with_mark, knows_out, saw, claimed_at, spent_view}
use Rattle.vale_table.specs.Rule.{Frame, free, held, Core, take, Reached, next, St, FitsFree, IsFreeAt, FitsOwner, FitsOther, IsHeldBy, Stands, is_worker, count_workers, IsRooted, Keeps}
use Rattle.vale_table.specs.Steps.{Sat, looked, tried}
use Rattle.vale_table.proofs.MarkLemmas.{put_same, put_other, there, inside}

-- the seat id, with the view v, learns m of the frame f: what all views know of another frame g, and of f
pub elsewhere : (views : List View) (id f g : ℕ) (v : View) (m : Mark) → get_elem? views id ≡ some v → g ≢ f → (P : ℕ → Mark → Type 0)
    → ((i : ℕ) (u : View) → get_elem? views i ≡ some u → P i (mark u g)) → (i : ℕ) (u : View) → get_elem? (set views id (with_mark v f m)) i ≡ some u → P i (mark u g)
elsewhere views id f g v m at ne P h i u e =
    let w : View = with_mark v f m in
    ⊎_elim
    (λ (t : (i ≡ id) × (w ≡ u)).
    let same : mark v g ≡ mark u g = sym (put_other v.marks f g m ne) ∙ ap (λ (x : View). mark x g) t.1 in
    subst (λ (y : ℕ × Mark). P y.0 y.1) (λ k. (sym t.0 k, same k)) (h id v at))
    (λ (t : (i ≢ id) × (get_elem? views i ≡ some u)). h i u t.1)
    (at_set views id i w u e)

pub here : (views : List View) (id f : ℕ) (v : View) (m : Mark) (P : ℕ → Mark → Type 0) → P id m
    → ((i : ℕ) (u : View) → i ≢ id → get_elem? views i ≡ some u → P i (mark u f)) → (i : ℕ) (u : View) → get_elem? (set views id (with_mark v f m)) i ≡ some u → P i (mark u f)
here views id f v m P mine h i u e =
    let w : View = with_mark v f m in
    ⊎_elim
    (λ (t : (i ≡ id) × (w ≡ u)).
    let same : m ≡ mark u f = sym (put_same v.marks f m) ∙ ap (λ (x : View). mark x f) t.1 in
    subst (λ (y : ℕ × Mark). P y.0 y.1) (λ k. (sym t.0 k, same k)) mine)
    (λ (t : (i ≢ id) × (get_elem? views i ≡ some u)). h i u t.0 t.1)
    (at_set views id i w u e)

pub count_set : (views : List View) (id : ℕ) (v w : View) → get_elem? views id ≡ some v → count_workers (set views id w) + is_worker v.role ≡ count_workers views + is_worker w.role
count_set [] id v w e = absurd (some-ne-none v (sym e))
count_set (x ∷ xs) zero v w e = omega (arith, ap (λ (y : View). is_worker y.role) (some-injective x v e))
count_set (x ∷ xs) (suc id) v w e = omega (arith, count_set xs id v w e)

pub counted : (views : List View) (i : ℕ) (v : View) → get_elem? views i ≡ some v → is_worker v.role ≤ count_workers views
counted [] i v e = absurd (some-ne-none v (sym e))
counted (x ∷ xs) zero v e = omega (arith, ap (λ (y : View). is_worker y.role) (some-injective x v e))
counted (x ∷ xs) (suc i) v e = omega (arith, counted xs i v e)

pub is_root : (views : List View) (r : IsRooted views) (id : ℕ) (v : View) → get_elem? views id ≡ some v → v.role ≡ Root → (id ≡ 0) × (r.root ≡ v)
is_root views r id v at root = let z = r.only id v at root in (z, some-injective r.root v (sym r.at ∙ ap (get_elem? views) (sym z) ∙ at))

pub rooted_mark : (views : List View) (id f : ℕ) (v : View) (m : Mark) → IsRooted views → get_elem? views id ≡ some v → v.role ≢ Spent → IsRooted (set views id (with_mark v f m))
rooted_mark views id f v m r at alive =
    let w : View = with_mark v f m in
    let near = inside views id v at in
    let count : count_workers (set views id w) ≡ count_workers views = omega (arith, count_set views id v w at) in
    let only : (i : ℕ) (u : View) → get_elem? (set views id w) i ≡ some u → u.role ≡ Root → i ≡ 0 = λ i u e root.
    ⊎_elim (λ (t : (i ≡ id) × (w ≡ u)). t.0 ∙ r.only id v at (ap (λ (x : View). x.role) t.1 ∙ root)) (λ (t : (i ≢ id) × (get_elem? views i ≡ some u)). r.only i u t.1 root) (at_set views id i w u e) in
    let spent : (i : ℕ) (u : View) → get_elem? (set views id w) i ≡ some u → u.role ≡ Spent → u ≡ spent_view = λ i u e over.
    ⊎_elim (λ (t : (i ≡ id) × (w ≡ u)). absurd (alive (ap (λ (x : View). x.role) t.1 ∙ over))) (λ (t : (i ≢ id) × (get_elem? views i ≡ some u)). r.spent i u t.1 over) (at_set views id i w u e) in
    dite (ℕ_discrete id 0)
    (λ z.
    let same : r.root ≡ v = some-injective r.root v (sym r.at ∙ ap (get_elem? views) (sym z) ∙ at) in
    record {
      root = w;
      at = subst (λ (i : ℕ). get_elem? (set views id w) i ≡ some w) z (set_here views id w near);
      role = ap (λ (x : View). x.role) (sym same) ∙ r.role;
      workers = ap (λ (x : View). x.workers) (sym same) ∙ r.workers ∙ sym count;
      only = only;
      spent = spent;
    })
    (λ ne. record { root = r.root; at = set_else views id 0 w (λ e. ne (sym e)) ∙ r.at; role = r.role; workers = r.workers ∙ sym count; only = only; spent = spent })

abbrev pub Homes : Type 0 → Type 0
Homes B = List (maybe.Option (Option (PageState B)))

-- the core with one frame as x
abbrev pub with_frame : Core → ℕ → Frame → Core
with_frame c f x = record { frames = set c.frames f x; workers = c.workers }

-- a step that changes no frame
pub stayed : (n first : ℕ) (c : Core) (f : ℕ) (x : Frame) → Reached n first c → get_elem? c.frames f ≡ some x → Reached n first (with_frame c f x)
stayed n first c f x r e = subst (λ (l : List Frame). Reached n first record { frames = l; workers = c.workers }) (sym (set_again c.frames f x e)) r

module _ {B : Type 0} where
  -- the word f becomes n, the seat id has the view w, and the slots are hs
  abbrev pub shift : St B → ℕ → ℕ → Homes B → ℕ → View → St B
  shift s f n hs id w = record { words = set s.words f n; homes = hs; views = set s.views id w }

  pub others : (s : St B) (f id g n : ℕ) (hs : Homes B) (v : View) (m : Mark) → get_elem? s.views id ≡ some v → g ≢ f → get_elem? hs g ≡ get_elem? s.homes g
      → (x : Frame) → Stands s g x → Stands (shift s f n hs id (with_mark v f m)) g x
  others s f id g n hs v m at ne same (free b) h = record {
    positive = h.positive;
    word = get_or-set_other s.words f g n 0 ne ∙ h.word;
    home = (h.home.0, same ∙ h.home.1, h.home.2);
    known = elsewhere s.views id f g v m at ne (λ i k. FitsFree b k) h.known;
  }
  others s f id g n hs v m at ne same (held o b) h =
      let w : View = with_mark v f m in
      let moved : (k : Mark) → FitsOwner s.homes g b k → FitsOwner hs g b k = λ k q. record { floor = q.floor; bases = q.bases; is_out = q.is_out; away = λ c. same ∙ q.away c; home = λ c. same ∙ q.home c } in
      let u : View = h.owner.0 in
      record {
        positive = h.positive;
        word = get_or-set_other s.words f g n 0 ne ∙ h.word;
        owner = dite (ℕ_discrete o id)
            (λ z.
            let mine : u ≡ v = some-injective u v (sym h.owner.1 ∙ ap (get_elem? s.views) z ∙ at) in
            let k : mark u g ≡ mark w g = ap (λ (x : View). mark x g) mine ∙ sym (put_other v.marks f g m ne) in
            (w, ap (get_elem? (set s.views id w)) z ∙ set_here s.views id w (inside s.views id v at), moved (mark w g) (subst (FitsOwner s.homes g b) k h.owner.2)))
            (λ apart. (u, set_else s.views id o w apart ∙ h.owner.1, moved (mark u g) h.owner.2));
        known = λ i x far e. elsewhere s.views id f g v m at ne (λ j k. ¬ (j ≡ o) → FitsOther b k) (λ j y e' far'. h.known j y far' e') i x e far;
      }

  -- a step on the frame f, after which it stands as x
  pub keeps_at : (n first : ℕ) (s : St B) (k : Keeps n first s) (f id word : ℕ) (hs : Homes B) (v : View) (m : Mark) (x : Frame) → Reached n first (with_frame k.core f x) → get_elem? s.views id ≡ some v → v.role ≢ Spent → length hs ≡ length s.homes
      → ((g : ℕ) → g ≢ f → get_elem? hs g ≡ get_elem? s.homes g) → Stands (shift s f word hs id (with_mark v f m)) f x → Keeps n first (shift s f word hs id (with_mark v f m))
  keeps_at n first s k f id word hs v m x how at alive long same now = let t : St B = shift s f word hs id (with_mark v f m) in record {
    core = with_frame k.core f x;
    reached = how;
    long = length-set k.core.frames f x ∙ k.long;
    many = omega (arith, k.many, count_set s.views id v (with_mark v f m) at);
    words = length-set s.words f word ∙ k.words;
    homes = long ∙ k.homes;
    rooted = rooted_mark s.views id f v m k.rooted at alive;
    each = λ g y e. ⊎_elim (λ (z : (g ≡ f) × (x ≡ y)). subst (λ (p : ℕ × Frame). Stands t p.0 p.1) (λ i. (sym z.0 i, z.1 i)) now)
        (λ (z : (g ≢ f) × (get_elem? k.core.frames g ≡ some y)). others s f id g word hs v m at z.0 (same g z.0) y (k.each g y z.1)) (at_set k.core.frames f g x y e);
  }

  -- the frame f is free at b after the step
  pub becomes_free : (s : St B) (f id b word : ℕ) (hs : Homes B) (v : View) (m : Mark) → f < length s.words → word ≡ b → 0 < b → ((p : PageState B) × (get_elem? hs f ≡ some (some (Some p))) × IsBlankAt p f b)
      → FitsFree b m → ((i : ℕ) (u : View) → i ≢ id → get_elem? s.views i ≡ some u → FitsFree b (mark u f)) → IsFreeAt (shift s f word hs id (with_mark v f m)) f b
  becomes_free s f id b word hs v m near is pos home mine rest =
      record { positive = pos; word = get_or-set_same s.words f word 0 near ∙ is; home = home; known = here s.views id f v m (λ i k. FitsFree b k) mine rest }

  -- the frame f is held by the seat id after the step
  pub becomes_held : (s : St B) (f id b word : ℕ) (hs : Homes B) (v : View) (m : Mark) → get_elem? s.views id ≡ some v → f < length s.words → word ≡ 0 → 0 < b
      → FitsOwner hs f b m → ((i : ℕ) (u : View) → i ≢ id → get_elem? s.views i ≡ some u → FitsOther b (mark u f)) → IsHeldBy (shift s f word hs id (with_mark v f m)) f id b
  becomes_held s f id b word hs v m at near is pos mine rest = let w : View = with_mark v f m in record {
    positive = pos;
    word = get_or-set_same s.words f word 0 near ∙ is;
    owner = (w, set_here s.views id w (inside s.views id v at), subst (FitsOwner hs f b) (sym (put_same v.marks f m)) mine);
    known = λ i u far e. here s.views id f v m (λ j k. ¬ (j ≡ id) → FitsOther b k) (λ far'. absurd (far' refl)) (λ j y ne e' _. rest j y ne e') i u e far;
  }

  -- the frame f stays held by another seat
  pub stays_held : (s : St B) (f id o b word : ℕ) (v : View) (m : Mark) → o ≢ id → f < length s.words → word ≡ 0 → IsHeldBy s f o b → FitsOther b m → IsHeldBy (shift s f word s.homes id (with_mark v f m)) f o b
  stays_held s f id o b word v m apart near is h mine = let w : View = with_mark v f m in record {
    positive = h.positive;
    word = get_or-set_same s.words f word 0 near ∙ is;
    owner = (h.owner.0, set_else s.views id o w apart ∙ h.owner.1, h.owner.2);
    known = λ i u far e. here s.views id f v m (λ j k. ¬ (j ≡ o) → FitsOther b k) (λ _. mine) (λ j y ne e' far'. h.known j y far' e') i u e far;
  }

  -- who has the frame in its view is its owner
  pub mine_at : (s : St B) (f id b : ℕ) (v : View) (x : Frame) (c : List Frame) → get_elem? c f ≡ some x → get_elem? s.views id ≡ some v → (mark v f).bases ≡ b ∷ [] → Stands s f x → IsHeldBy s f id b × (get_elem? c f ≡ some (held id b))
  mine_at s f id b v (free c) core e at has h = absurd (omega (arith, ap length (sym has ∙ (h.known id v at).bases)))
  mine_at s f id b v (held o c) core e at has h =
      let u : View = h.owner.0 in
      dite (ℕ_discrete id o)
      (λ z.
      let same : u ≡ v = some-injective u v (sym h.owner.1 ∙ ap (get_elem? s.views) (sym z) ∙ at) in
      let one : c ∷ [] ≡ b ∷ [] = sym h.owner.2.bases ∙ ap (λ (y : View). (mark y f).bases) same ∙ has in
      let base : c ≡ b = ap (λ (l : List ℕ). get_or l 0 0) one in
      subst (λ (y : ℕ × ℕ). IsHeldBy s f y.0 y.1 × (get_elem? core f ≡ some (held y.0 y.1))) (λ i. (sym z i, base i)) (h, e))
      (λ ne. absurd (omega (arith, ap length (sym has ∙ (h.known id v ne at).bases))))

  pub owner_mark : (s : St B) (f id b : ℕ) (v : View) → get_elem? s.views id ≡ some v → IsHeldBy s f id b → FitsOwner s.homes f b (mark v f)
  owner_mark s f id b v at h = subst (λ (y : View). FitsOwner s.homes f b (mark y f)) (some-injective h.owner.0 v (sym h.owner.1 ∙ at)) h.owner.2

  abbrev pub Goes : ℕ → ℕ → St B → ℕ → ℕ → Sat B → (ℕ → Sat B → Type 0) → ℕ → Type 0
  Goes n first s f id m then k = (w : View) × (a : Act (Option (PageState B))) × Valid s.homes m.1 a × Keeps n first (stepped s f k id m.1 w a) × then (get_or s.words f 0) (w, carried_after m.1 a)

  looks_at : (n first slots id f : ℕ) (m : Sat B) (s : St B) (k : Keeps n first s) (x : Frame) → get_elem? k.core.frames f ≡ some x → f < n → m.0.role ≢ Spent → get_elem? s.views id ≡ some m.0 → Stands s f x
      → Goes n first s f id m (looked (step slots f 0 0 none) m) (get_or s.words f 0)
  looks_at n first slots id f m s k (free b) is near alive at h =
      let r : ℕ = get_or s.words f 0 in
      let old : Mark = mark m.0 f in
      let fits : FitsFree b old = h.known id m.0 at in
      let inner : f < length s.words = omega (arith, k.words) in (
        with_mark m.0 f (saw r old),
        keeps,
        tt,
        keeps_at n first s k f id r s.homes m.0 (saw r old) (free b) (stayed n first k.core f (free b) k.reached is) at alive refl (λ g _. refl)
            (becomes_free s f id b r s.homes m.0 (saw r old) inner h.word h.positive h.home record { floor = fits.floor; bases = fits.bases; is_out = fits.is_out; seen = inr h.word; carried = fits.carried } (λ i u ne e. h.known i u e)),
        ((λ z. absurd (omega (arith, h.word, h.positive))), λ _. refl),
      )
  looks_at n first slots id f m s k (held o b) is near alive at h =
      let r : ℕ = get_or s.words f 0 in
      let old : Mark = mark m.0 f in
      let inner : f < length s.words = omega (arith, k.words) in
      let kept : Stands (shift s f r s.homes id (with_mark m.0 f (knows_out old))) f (held o b) = dite (ℕ_discrete o id)
      (λ z.
      let h' : IsHeldBy s f id b = subst (λ (j : ℕ). IsHeldBy s f j b) z h in
      let fits : FitsOwner s.homes f b old = owner_mark s f id b m.0 at h' in
      subst (λ (j : ℕ). IsHeldBy (shift s f r s.homes id (with_mark m.0 f (knows_out old))) f j b) (sym z)
      (becomes_held s f id b r s.homes m.0 (knows_out old) at inner h.word h.positive record { floor = fits.floor; bases = fits.bases; is_out = refl; away = fits.away; home = fits.home } (λ i u ne e. h'.known i u ne e)))
      (λ ne.
      let fits : FitsOther b old = h.known id m.0 (λ e. ne (sym e)) at in
      stays_held s f id o b r m.0 (knows_out old) ne inner h.word h record { floor = fits.floor; bases = fits.bases; carried = fits.carried }) in (
        with_mark m.0 f (knows_out old),
        keeps,
        tt,
        keeps_at n first s k f id r s.homes m.0 (knows_out old) (held o b) (stayed n first k.core f (held o b) k.reached is) at alive refl (λ g _. refl) kept,
        ((λ _. refl), λ ne. absurd (ne h.word)),
      )

  pub looks : (n first slots id f : ℕ) (m : Sat B) → f < n → m.0.role ≢ Spent → Allows (Keeps n first) slots id m f (λ y. y) (looked (step slots f 0 0 none) m)
  looks n first slots id f m near alive s k wide at small = let x = there k.core.frames f (omega (arith, k.long)) in looks_at n first slots id f m s k x.0 x.1 near alive at (k.each f x.0 x.1)

  lost : (n first slots id f b : ℕ) (m : Sat B) (s : St B) (k : Keeps n first s) (o c : ℕ) → get_elem? k.core.frames f ≡ some (held o c) → f < n → m.0.role ≢ Spent → get_elem? s.views id ≡ some m.0 → IsHeldBy s f o c → 0 < b
      → Goes n first s f id m (tried (step slots f b 0 none) m) (get_or s.words f 0)
  lost n first slots id f b m s k o c is near alive at h pos =
      let l = looks_at n first slots id f m s k (held o c) is near alive at h in
      let r : ℕ = get_or s.words f 0 in
      (l.0, l.1, l.2, l.3, ((λ hit. absurd (omega (arith, h.word, pos, hit))), λ _. (h.word, l.4.0 h.word)))

  won : (n first slots id f b : ℕ) (m : Sat B) (s : St B) (k : Keeps n first s) → get_elem? k.core.frames f ≡ some (free b) → f < n → m.0.role ≢ Spent → get_elem? s.views id ≡ some m.0 → IsFreeAt s f b
      → Goes n first s f id m (tried (step slots f b 0 none) m) 0
  won n first slots id f b m s k is near alive at h =
      let old : Mark = mark m.0 f in
      let new : Mark = claimed_at b old in
      let fits : FitsFree b old = h.known id m.0 at in
      let inner : f < length s.words = omega (arith, k.words) in
      let within : f < length s.homes = omega (arith, k.homes) in
      let hs : Homes B = set s.homes f none in
      let p : PageState B = h.home.0 in (
        with_mark m.0 f new,
        takes f (Some p),
        h.home.1,
        keeps_at n first s k f id 0 hs m.0 new (held id b) (next k.core (take id f b) k.reached is) at alive (length-set s.homes f none) (λ g ne. set_else s.homes f g none ne)
            (becomes_held s f id b 0 hs m.0 new at inner refl h.positive record { floor = fits.floor; bases = refl; is_out = refl; away = λ _. set_here s.homes f none within; home = λ c. absurd (true≢false c) }
            (λ i u ne e. let q = h.known i u e in record { floor = q.floor; bases = q.bases; carried = q.carried })),
        ((λ _. (p, h.home.2, refl, fits.floor, fits.is_out, fits.bases)), λ miss. absurd (miss h.word)),
      )

  tries_at : (n first slots id f b : ℕ) (m : Sat B) (s : St B) (k : Keeps n first s) (x : Frame) → get_elem? k.core.frames f ≡ some x → f < n → m.0.role ≢ Spent → get_elem? s.views id ≡ some m.0 → Stands s f x → (mark m.0 f).seen ≡ b → 0 < b
      → Goes n first s f id m (tried (step slots f b 0 none) m) (either (eqb (get_or s.words f 0) b) 0 (get_or s.words f 0))
  tries_at n first slots id f b m s k (free c) is near alive at h sees pos =
      let fits : FitsFree c (mark m.0 f) = h.known id m.0 at in
      let same : c ≡ b = ⊎_elim (λ (z : (mark m.0 f).seen ≡ 0). absurd (omega (arith, z, sees, pos))) (λ (e : (mark m.0 f).seen ≡ c). sym e ∙ sees) fits.seen in
      let h' : IsFreeAt s f b = subst (IsFreeAt s f) same h in
      exchanged (get_or s.words f 0) b 0 (Goes n first s f id m (tried (step slots f b 0 none) m)) (λ hit. won n first slots id f b m s k (is ∙ ap (λ (y : ℕ). some (free y)) same) near alive at h') (λ miss. absurd (miss h'.word))
  tries_at n first slots id f b m s k (held o c) is near alive at h sees pos =
      exchanged (get_or s.words f 0) b 0 (Goes n first s f id m (tried (step slots f b 0 none) m)) (λ hit. absurd (omega (arith, h.word, pos, hit))) (λ miss. lost n first slots id f b m s k o c is near alive at h pos)

  pub tries : (n first slots id f b : ℕ) (m : Sat B) → f < n → m.0.role ≢ Spent → (mark m.0 f).seen ≡ b → 0 < b → Allows (Keeps n first) slots id m f (λ y. either (eqb y b) 0 y) (tried (step slots f b 0 none) m)
  tries n first slots id f b m near alive sees pos s k wide at small = let x = there k.core.frames f (omega (arith, k.long)) in tries_at n first slots id f b m s k x.0 x.1 near alive at (k.each f x.0 x.1) sees pos
