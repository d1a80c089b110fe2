-- The steps by which a slot goes home, comes into the hand, or goes home with a page.
use Rattle.std.proofs.Common.{◌≡◌, ℕ, ◌<◌, ◌≤◌, ◌≢◌, List, [], ◌∷◌, length, get_or, set, refl, sym, ap, ◌∙◌, subst, true, false, true≢false, arith, inl, inr, length-set, Option, Some, None}
use mathlib.Core.Option.{some, none}
use mathlib.Core.Logic.{dite}
use native.Mathlib.Decide.{ℕ_discrete}
use lib.ListN.{get_elem?}
use lib.Seq.{set-get_or}
use Rattle.atomic_table.specs.Table.{step, keeps, takes, gives, Allows}
use Rattle.atomic_table.proofs.Lists.{set_here, set_else, set_again}
use Rattle.vale_table.specs.declared.view.View.{View}
use Rattle.vale_table.specs.declared.view.Mark.{Mark}
use Rattle.vale_table.specs.declared.view.Role.{Role}
use Rattle.vale_table.specs.declared.view.Role.TheVariants.{Root, Worker, Spent}
use Rattle.vale_page.specs.PageState.{PageState, IsBlankAt}
use Rattle.vale_table.specs.Marks.{mark, with_mark, carrying, given_at, spent_view}
use Rattle.vale_table.specs.Rule.{Frame, free, held, give, next, St, FitsFree, FitsOwner, IsHeldBy, Stands, is_worker, count_workers, IsRooted, Keeps}
use Rattle.vale_table.specs.Steps.{Sat, put_home, fetched, gave, IsSane, told}
use Rattle.vale_table.proofs.MarkLemmas.{there}
use Rattle.vale_table.proofs.StepLemmas.{Homes, stayed, keeps_at, becomes_free, becomes_held, mine_at, owner_mark, counted, is_root}

-- where the root's view has no worker, no view is a worker's
all_joined : (views : List View) (r : IsRooted views) (id : ℕ) (v : View) → get_elem? views id ≡ some v → v.role ≡ Root → v.workers ≡ 0 → count_workers views ≡ 0
all_joined views r id v at root none-left = sym r.workers ∙ ap (λ (x : View). x.workers) (is_root views r id v at root).1 ∙ none-left

-- so each view but the root's is spent
over : (views : List View) (r : IsRooted views) (id : ℕ) (v : View) → get_elem? views id ≡ some v → v.role ≡ Root → v.workers ≡ 0 → (i : ℕ) (u : View) → i ≢ id → get_elem? views i ≡ some u → u ≡ spent_view
over views r id v at root none-left i u ne e = pick u.role refl
  where
    pick : (role : Role) → u.role ≡ role → u ≡ spent_view
    pick Root is = absurd (ne (r.only i u e is ∙ sym (is_root views r id v at root).0))
    pick Worker is = absurd (omega (arith, counted views i u e, ap is_worker is, all_joined views r id v at root none-left))
    pick Spent is = r.spent i u e is

module _ {B : Type 0} where
  frame_mine : (n first : ℕ) (s : St B) (k : Keeps n first s) (f id b : ℕ) (v : View) → f < n → get_elem? s.views id ≡ some v → (mark v f).bases ≡ b ∷ [] → IsHeldBy s f id b × (get_elem? k.core.frames f ≡ some (held id b))
  frame_mine n first s k f id b v near at has = let x = there k.core.frames f (omega (arith, k.long)) in mine_at s f id b v x.0 k.core.frames x.1 at has (k.each f x.0 x.1)

  puts_home_at : (n first slots id f b : ℕ) (v : View) → f < n → v.role ≢ Spent → (mark v f).bases ≡ b ∷ []
      → Allows {S = Option (PageState B)} (Keeps n first) slots id (v, (f, None) ∷ []) f (λ y. y) (put_home (step slots f 0 0 none) (v, (f, None) ∷ []))
  puts_home_at n first slots id f b v near alive has s k wide at small =
      let own = frame_mine n first s k f id b v near at has in
      let h : IsHeldBy s f id b = own.0 in
      let old : Mark = mark v f in
      let new : Mark = carrying false old in
      let fits : FitsOwner s.homes f b old = owner_mark s f id b v at h in
      let hs : Homes B = set s.homes f (some None) in
      let within : f < length s.homes = omega (arith, k.homes) in
      let inner : f < length s.words = omega (arith, k.words) in (
        with_mark v f new,
        gives,
        tt,
        keeps_at n first s k f id (get_or s.words f 0) hs v new (held id b) (stayed n first k.core f (held id b) k.reached own.1) at alive (length-set s.homes f (some None)) (λ g ne. set_else s.homes f g (some None) ne)
            (becomes_held s f id b (get_or s.words f 0) hs v new at inner h.word h.positive
            record { floor = fits.floor; bases = fits.bases; is_out = fits.is_out; away = λ c. absurd (true≢false (sym c)); home = λ _. set_here s.homes f (some None) within } (λ i u ne e. h.known i u ne e)),
        refl,
      )

  fetches_at : (n first slots id f b : ℕ) (v : View) → f < n → v.role ≢ Spent → (mark v f).bases ≡ b ∷ [] → (mark v f).carried ≡ false
      → Allows {S = Option (PageState B)} (Keeps n first) slots id (v, []) f (λ y. y) (fetched (step slots f 0 0 none) (v, []))
  fetches_at n first slots id f b v near alive has home s k wide at small =
      let own = frame_mine n first s k f id b v near at has in
      let h : IsHeldBy s f id b = own.0 in
      let old : Mark = mark v f in
      let new : Mark = carrying true old in
      let fits : FitsOwner s.homes f b old = owner_mark s f id b v at h in
      let hs : Homes B = set s.homes f none in
      let within : f < length s.homes = omega (arith, k.homes) in
      let inner : f < length s.words = omega (arith, k.words) in (
        with_mark v f new,
        takes f None,
        fits.home home,
        keeps_at n first s k f id (get_or s.words f 0) hs v new (held id b) (stayed n first k.core f (held id b) k.reached own.1) at alive (length-set s.homes f none) (λ g ne. set_else s.homes f g none ne)
            (becomes_held s f id b (get_or s.words f 0) hs v new at inner h.word h.positive
            record { floor = fits.floor; bases = fits.bases; is_out = fits.is_out; away = λ _. set_here s.homes f none within; home = λ c. absurd (true≢false c) } (λ i u ne e. h.known i u ne e)),
        refl,
      )

  gives_home_at : (n first slots id f b base : ℕ) (p : PageState B) (v : View) → f < n → v.role ≡ Root → v.workers ≡ 0 → (mark v f).bases ≡ b ∷ [] → 0 < base → b ≤ base → IsBlankAt p f base
      → Allows {S = Option (PageState B)} (Keeps n first) slots id (v, (f, Some p) ∷ []) f (λ _. base) (gave (step slots f base 0 none) (v, (f, Some p) ∷ []))
  gives_home_at n first slots id f b base p v near root none-left has pos above fresh s k wide at small =
      let own = frame_mine n first s k f id b v near at has in
      let h : IsHeldBy s f id b = own.0 in
      let new : Mark = given_at base in
      let hs : Homes B = set s.homes f (some (Some p)) in
      let within : f < length s.homes = omega (arith, k.homes) in
      let inner : f < length s.words = omega (arith, k.words) in
      let alive : v.role ≢ Spent = λ e. cc in (
        with_mark v f new,
        gives,
        tt,
        keeps_at n first s k f id base hs v new (free base) (next k.core (give id f base) k.reached record { root = (is_root s.views k.rooted id v at root).0; no_worker = k.many ∙ all_joined s.views k.rooted id v at root none-left; old = b; owned = own.1; not_below = above }) at alive (length-set s.homes f (some (Some p))) (λ g ne. set_else s.homes f g (some (Some p)) ne)
            (becomes_free s f id base base hs v new inner refl pos (p, set_here s.homes f (some (Some p)) within, fresh)
            record { floor = omega arith; bases = refl; is_out = refl; seen = inr refl; carried = refl }
            (λ i u ne e. subst (λ (x : View). FitsFree base (mark x f)) (sym (over s.views k.rooted id v at root none-left i u ne e))
            record { floor = omega arith; bases = refl; is_out = refl; seen = inl refl; carried = refl })),
        refl,
      )

  -- the same at a seat that is known
  pub puts_home : (n first slots id f b : ℕ) (m : Sat B) → m.1 ≡ (f, None) ∷ [] → f < n → m.0.role ≢ Spent → (mark m.0 f).bases ≡ b ∷ [] → Allows (Keeps n first) slots id m f (λ y. y) (put_home (step slots f 0 0 none) m)
  puts_home n first slots id f b m e near alive has = subst (λ (c : List (ℕ × Option (PageState B))). Allows (Keeps n first) slots id (m.0, c) f (λ y. y) (put_home (step slots f 0 0 none) (m.0, c))) (sym e) (puts_home_at n first slots id f b m.0 near alive has)

  pub fetches : (n first slots id f b : ℕ) (m : Sat B) → m.1 ≡ [] → f < n → m.0.role ≢ Spent → (mark m.0 f).bases ≡ b ∷ [] → (mark m.0 f).carried ≡ false → Allows (Keeps n first) slots id m f (λ y. y) (fetched (step slots f 0 0 none) m)
  fetches n first slots id f b m e near alive has home = subst (λ (c : List (ℕ × Option (PageState B))). Allows (Keeps n first) slots id (m.0, c) f (λ y. y) (fetched (step slots f 0 0 none) (m.0, c))) (sym e) (fetches_at n first slots id f b m.0 near alive has home)

  pub gives_home : (n first slots id f b base : ℕ) (p : PageState B) (m : Sat B) → m.1 ≡ (f, Some p) ∷ [] → f < n → m.0.role ≡ Root → m.0.workers ≡ 0 → (mark m.0 f).bases ≡ b ∷ [] → 0 < base → b ≤ base → IsBlankAt p f base
      → Allows (Keeps n first) slots id m f (λ _. base) (gave (step slots f base 0 none) m)
  gives_home n first slots id f b base p m e near root none-left has pos above fresh = subst (λ (c : List (ℕ × Option (PageState B))). Allows (Keeps n first) slots id (m.0, c) f (λ _. base) (gave (step slots f base 0 none) (m.0, c))) (sym e) (gives_home_at n first slots id f b base p m.0 near root none-left has pos above fresh)

  -- a load changes nothing, and tells what the rule says of the view
  pub tells : (n first slots id w : ℕ) (m : Sat B) → Allows (Keeps n first) slots id m w (λ y. y) (told (step slots w 0 0 none) m)
  tells n first slots id w m s k wide at small = (
    m.0,
    keeps,
    tt,
    subst (Keeps n first) (λ i. record { words = sym (set-get_or s.words w 0) i; homes = s.homes; views = sym (set_again s.views id m.0 at) i }) k,
    (refl, λ f near. let x = there k.core.frames f (omega (arith, k.long, k.homes, wide)) in sane f x.0 (k.each f x.0 x.1)),
  )
    where
      none_held : (k : Mark) → k.bases ≡ [] → IsSane k
      none_held k e = record { once = omega (arith, ap length e); above = λ b is. absurd (omega (arith, ap length e, ap length is)) }

      sane : (f : ℕ) (x : Frame) → Stands s f x → IsSane (mark m.0 f)
      sane f (free b) h = none_held (mark m.0 f) (h.known id m.0 at).bases
      sane f (held o b) h = dite (ℕ_discrete id o)
          (λ z.
          let q = owner_mark s f id b m.0 at (subst (λ (j : ℕ). IsHeldBy s f j b) (sym z) h) in
          record { once = omega (arith, ap length q.bases); above = λ c is. let e : b ≡ c = ap (λ (l : List ℕ). get_or l 0 0) (sym q.bases ∙ is) in subst (λ (y : ℕ). ((mark m.0 f).floor ≤ y) × (0 < y)) e (q.floor, h.positive) })
          (λ ne. none_held (mark m.0 f) (h.known id m.0 ne at).bases)
