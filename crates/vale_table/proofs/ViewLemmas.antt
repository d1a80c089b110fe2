-- What a seat knows after each step, and what that means to a lender.
use Rattle.std.proofs.Common.{◌≡◌, ℕ, zero, suc, ◌+◌, ◌<◌, ◌≤◌, ◌≢◌, ◌⊎◌, List, [], ◌∷◌, ◌++◌, length, get_or, refl, sym, ap, ◌∙◌, subst, Bool, true, false, true≢false, arith, inl, inr, ⊎_elim, Option, Some, None, MatchOption, max, ◌||◌, length-append}
use mathlib.Core.Logic.{dite}
use native.Mathlib.Decide.{ℕ_discrete, dec_lt}
use Rattle.atomic_table.specs.Table.{rest}
use Rattle.atomic_table.specs.Seated.{TableId}
use Rattle.vale_page.specs.PageState.{PageState, IsBlankAt, base_of}
use Rattle.vale_page.proofs.PageLaws.{generation-le-base}
use Rattle.vale_table.specs.declared.view.View.{View}
use Rattle.vale_table.specs.declared.view.Mark.{Mark}
use Rattle.vale_table.specs.declared.view.Role.{Role}
use Rattle.vale_table.specs.declared.view.Role.TheVariants.{Root, Worker, Spent}
use Rattle.vale_table.specs.Marks.{unknown, mark, with_mark, knows_out, saw, claimed_at, carrying, given_at, both_marks, root_view, root_left, worker_right, both_views}
use Rattle.vale_table.specs.Steps.{Sat, marked, Won, IsSane}
use Rattle.vale_table.specs.Lending.{IsClaimedAt, CanGive}
use Rattle.vale_table.specs.Seats.{Lending, lending, is_root_role, first_base, either_hand, IsResting, IsMarked, held_at, IsLearned, IsLent, IsBack, IsOpened, IsSplit, IsJoined}
use Rattle.vale_table.proofs.MarkLemmas.{put_same, put_other, passed_at, merged_at, replicate_at}

pub marked_is : (v : View) (f : ℕ) (m : Mark) (w : View) → w ≡ with_mark v f m → IsMarked v f m w
marked_is v f m w e = subst (IsMarked v f m) (sym e) record { role = refl; workers = refl; here = put_same v.marks f m; other = λ g ne. put_other v.marks f g m ne }

-- two changes of one frame
pub marked_twice : (v w x : View) (f : ℕ) (m k : Mark) → IsMarked v f m w → IsMarked w f k x → IsMarked v f k x
marked_twice v w x f m k a b = record { role = b.role ∙ a.role; workers = b.workers ∙ a.workers; here = b.here; other = λ g ne. b.other g ne ∙ a.other g ne }

module _ {B : Type 0} where
  pub wins : (m n x y : Sat B) (f b : ℕ) (r : Option (PageState B)) → m.1 ≡ [] → Won m f b n → n.1 ≡ (f, r) ∷ rest n.1 → x ≡ (n.0, (f, None) ∷ rest n.1) → y ≡ (marked x f (carrying false (mark x.0 f)), rest x.1)
      → (y.1 ≡ []) × ((p : PageState B) × (r ≡ Some p) × IsBlankAt p f b × IsMarked m.0 f (held_at b (mark m.0 f)) y.0 × ((mark m.0 f).floor ≤ b) × ((mark m.0 f).is_out ≡ false) × ((mark m.0 f).bases ≡ []))
  wins m n x y f b r empty won took left home =
      let e : n ≡ (marked m f (claimed_at b (mark m.0 f)), (f, Some won.0) ∷ m.1) = won.2 in
      let tail : rest n.1 ≡ [] = ap (λ (z : Sat B). rest z.1) e ∙ empty in
      let first : List (ℕ × Option (PageState B)) → Option (PageState B) = elim [ [] ↦ None | z ∷ zs ↦ z.1 ] in
      let is : r ≡ Some won.0 = ap first (sym took ∙ ap (λ (z : Sat B). z.1) e) in
      let one : IsMarked m.0 f (claimed_at b (mark m.0 f)) x.0 = marked_is m.0 f (claimed_at b (mark m.0 f)) x.0 (ap (λ (z : Sat B). z.0) left ∙ ap (λ (z : Sat B). z.0) e) in
      let two : IsMarked x.0 f (carrying false (mark x.0 f)) y.0 = marked_is x.0 f (carrying false (mark x.0 f)) y.0 (ap (λ (z : Sat B). z.0) home) in
      let both : IsMarked m.0 f (held_at b (mark m.0 f)) y.0 = subst (λ (k : Mark). IsMarked m.0 f k y.0) (ap (carrying false) one.here) (marked_twice m.0 x.0 y.0 f _ _ one two) in
      (ap (λ (z : Sat B). z.1) home ∙ ap (λ (z : Sat B). rest z.1) left ∙ tail, (won.0, is, won.1, both, won.3, won.4, won.5))

  -- the seat between taking the page out and putting the empty slot home
  pub won_slot : (m n x : Sat B) (f b : ℕ) (r : Option (PageState B)) → m.1 ≡ [] → m.0.role ≢ Spent → Won m f b n → x ≡ (n.0, (f, None) ∷ rest n.1) → (x.1 ≡ (f, None) ∷ []) × (x.0.role ≢ Spent) × ((mark x.0 f).bases ≡ b ∷ [])
  won_slot m n x f b r empty alive won left =
      let e : n ≡ (marked m f (claimed_at b (mark m.0 f)), (f, Some won.0) ∷ m.1) = won.2 in
      let one : IsMarked m.0 f (claimed_at b (mark m.0 f)) x.0 = marked_is m.0 f (claimed_at b (mark m.0 f)) x.0 (ap (λ (z : Sat B). z.0) left ∙ ap (λ (z : Sat B). z.0) e) in (
        ap (λ (z : Sat B). z.1) left ∙ ap (λ (l : List (ℕ × Option (PageState B))). (f, None) ∷ l) (ap (λ (z : Sat B). rest z.1) e ∙ empty),
        (λ s. alive (sym one.role ∙ s)),
        ap (λ (k : Mark). k.bases) one.here,
      )

  -- the seat that has fetched the empty slot of a frame of its own, and put a page in
  pub fetched_slot : (m n x : Sat B) (f b : ℕ) (r q : Option (PageState B)) → n ≡ (marked m f (carrying true (mark m.0 f)), (f, None) ∷ m.1) → m.1 ≡ [] → (mark m.0 f).bases ≡ b ∷ [] → x ≡ (n.0, (f, q) ∷ rest n.1)
      → (x.1 ≡ (f, q) ∷ []) × (x.0.role ≡ m.0.role) × (x.0.workers ≡ m.0.workers) × ((mark x.0 f).bases ≡ b ∷ []) × IsMarked m.0 f (carrying true (mark m.0 f)) x.0
  fetched_slot m n x f b r q e empty has left =
      let one : IsMarked m.0 f (carrying true (mark m.0 f)) x.0 = marked_is m.0 f (carrying true (mark m.0 f)) x.0 (ap (λ (z : Sat B). z.0) left ∙ ap (λ (z : Sat B). z.0) e) in (
        ap (λ (z : Sat B). z.1) left ∙ ap (λ (l : List (ℕ × Option (PageState B))). (f, q) ∷ l) (ap (λ (z : Sat B). rest z.1) e ∙ empty),
        one.role,
        one.workers,
        ap (λ (k : Mark). k.bases) one.here ∙ has,
        one,
      )

  pub had_none : (cs : List (ℕ × Option (PageState B))) (n : Sat B) (f : ℕ) (k : View) (r : Option (PageState B)) → n ≡ (k, (f, None) ∷ cs) → n.1 ≡ (f, r) ∷ rest n.1 → r ≡ None
  had_none cs n f k r e took = let first : List (ℕ × Option (PageState B)) → Option (PageState B) = elim [ [] ↦ None | z ∷ zs ↦ z.1 ] in ap first (sym took ∙ ap (λ (z : Sat B). z.1) e)

-- a fact of the frame f and of each other frame
each_frame : (f : ℕ) (P : ℕ → Type 0) → P f → ((g : ℕ) → g ≢ f → P g) → (g : ℕ) → P g
each_frame f P here others g = dite (ℕ_discrete g f) (λ e. subst P (sym e) here) (λ ne. others g ne)

same_sane : (m k : Mark) → k.floor ≡ m.floor → k.bases ≡ m.bases → IsSane m → IsSane k
same_sane m k floor bases h = record {
  once = omega (arith, h.once, ap length bases);
  above = λ b e. let a = h.above b (sym bases ∙ e) in (omega (arith, floor, a.0), a.1);
}

no_base_sane : (m : Mark) → m.bases ≡ [] → IsSane m
no_base_sane m none = record { once = omega (arith, ap length none); above = λ b e. absurd (omega (arith, ap length none, ap length e)) }

some_bases : (bs : List ℕ) (b : ℕ) → first_base bs ≡ Some b → 0 < length bs
some_bases [] b e = absurd (cc)
some_bases (x ∷ xs) b e = omega arith

one_base : (bs : List ℕ) (b : ℕ) → length bs ≤ 1 → first_base bs ≡ Some b → bs ≡ b ∷ []
one_base [] b one e = absurd (cc)
one_base (x ∷ []) b one e = let same : x ≡ b = cc in ap (λ (y : ℕ). y ∷ []) same
one_base (x ∷ y ∷ ys) b one e = absurd (omega arith)

-- The hand of a view that rests is sound.
pub rest_from : (n : ℕ) (v : View) → v.role ≢ Spent → ((f : ℕ) → (mark v f).carried ≡ false) → ((f : ℕ) → 0 < length (mark v f).bases → (mark v f).is_out ≡ true)
    → ((f : ℕ) → 0 < length (mark v f).bases → f < n) → ((f : ℕ) → f < n → IsSane (mark v f)) → IsResting n v
rest_from n v alive empty out within sane = record {
  alive = alive;
  empty = empty;
  out = out;
  within = within;
  sane = sane;
  sound = λ f b has.
      let some = some_bases (mark v f).bases b has in
      let is = sane f (within f some) in
      record { within = within f some; is_out = out f some; floor = (is.above b (one_base (mark v f).bases b is.once has)).0 };
}

module _ (z : TableId) (v w : View) (f : ℕ) (m : Mark) (is : IsMarked v f m w) where
  resting_marked : IsResting z.slots v → f < z.slots → m.carried ≡ false → (0 < length m.bases → m.is_out ≡ true) → IsSane m → IsResting z.slots w
  resting_marked h near empty out sane =
      rest_from z.slots w (λ s. h.alive (sym is.role ∙ s))
      (each_frame f (λ g. (mark w g).carried ≡ false) (ap (λ (k : Mark). k.carried) is.here ∙ empty) (λ g ne. ap (λ (k : Mark). k.carried) (is.other g ne) ∙ h.empty g))
      (each_frame f (λ g. 0 < length (mark w g).bases → (mark w g).is_out ≡ true) (subst (λ (k : Mark). 0 < length k.bases → k.is_out ≡ true) (sym is.here) out)
      (λ g ne. subst (λ (k : Mark). 0 < length k.bases → k.is_out ≡ true) (sym (is.other g ne)) (h.out g)))
      (each_frame f (λ g. 0 < length (mark w g).bases → g < z.slots) (λ _. near) (λ g ne. subst (λ (k : Mark). 0 < length k.bases → g < z.slots) (sym (is.other g ne)) (h.within g)))
      (each_frame f (λ g. g < z.slots → IsSane (mark w g)) (λ _. subst IsSane (sym is.here) sane) (λ g ne. subst (λ (k : Mark). g < z.slots → IsSane k) (sym (is.other g ne)) (h.sane g)))

  same_post : (lending z w).post ≡ (lending z v).post
  same_post = λ i. record { place = Some z; is_root = is_root_role (is.role i); workers = is.workers i }

  same_floors : m.floor ≡ (mark v f).floor → (g : ℕ) → (mark w g).floor ≡ (mark v g).floor
  same_floors floor = each_frame f (λ g. (mark w g).floor ≡ (mark v g).floor) (ap (λ (k : Mark). k.floor) is.here ∙ floor) (λ g ne. ap (λ (k : Mark). k.floor) (is.other g ne))

  still_known : ((mark v f).is_out ≡ true → m.is_out ≡ true) → (g : ℕ) → (mark v g).is_out ≡ true → (mark w g).is_out ≡ true
  still_known out = each_frame f (λ g. (mark v g).is_out ≡ true → (mark w g).is_out ≡ true) (λ e. ap (λ (k : Mark). k.is_out) is.here ∙ out e) (λ g ne e. ap (λ (k : Mark). k.is_out) (is.other g ne) ∙ e)

  other_hands : (g : ℕ) → g ≢ f → first_base (mark w g).bases ≡ first_base (mark v g).bases
  other_hands g ne = ap (λ (k : Mark). first_base k.bases) (is.other g ne)

  learned_marked : m.floor ≡ (mark v f).floor → m.bases ≡ (mark v f).bases → ((mark v f).is_out ≡ true → m.is_out ≡ true) → IsLearned (lending z v) (lending z w)
  learned_marked floor bases out = record {
    frames = refl;
    post = same_post;
    floors = same_floors floor;
    known = still_known out;
    same_hand = each_frame f (λ g. first_base (mark w g).bases ≡ first_base (mark v g).bases) (ap (λ (k : Mark). first_base k.bases) is.here ∙ ap first_base bases) other_hands;
  }

pub knows : (z : TableId) (v w : View) (f : ℕ) → f < z.slots → IsMarked v f (knows_out (mark v f)) w → IsResting z.slots v → IsResting z.slots w × IsLearned (lending z v) (lending z w) × ((mark w f).is_out ≡ true)
knows z v w f near is h = (
  resting_marked z v w f _ is h near (h.empty f) (λ _. refl) (same_sane (mark v f) (knows_out (mark v f)) refl refl (h.sane f near)),
  learned_marked z v w f _ is refl refl (λ _. refl),
  ap (λ (k : Mark). k.is_out) is.here,
)

pub sees : (z : TableId) (v w : View) (f r : ℕ) → f < z.slots → IsMarked v f (saw r (mark v f)) w → IsResting z.slots v → IsResting z.slots w × IsLearned (lending z v) (lending z w) × ((mark w f).seen ≡ r)
sees z v w f r near is h = (
  resting_marked z v w f _ is h near (h.empty f) (h.out f) (same_sane (mark v f) (saw r (mark v f)) refl refl (h.sane f near)),
  learned_marked z v w f _ is refl refl (λ e. e),
  ap (λ (k : Mark). k.seen) is.here,
)

module _ {B : Type 0} where
  pub holds : (z : TableId) (v w : View) (f b : ℕ) (p : PageState B) → f < z.slots → 0 < b → IsBlankAt p f b → IsMarked v f (held_at b (mark v f)) w → (mark v f).floor ≤ b → (mark v f).is_out ≡ false → (mark v f).bases ≡ [] → IsResting z.slots v
      → IsResting z.slots w × IsLent (lending z v) (lending z w) p × ((mark w f).is_out ≡ true)
  holds z v w f b p near pos blank is floor out bases h =
      let first : List ℕ → ℕ = λ l. get_or l 0 0 in
      let l : Lending = lending z v in
      let k : Lending = lending z w in
      let now_out : (mark w f).is_out ≡ true = ap (λ (k : Mark). k.is_out) is.here in (
        resting_marked z v w f _ is h near refl (λ _. refl) record { once = omega arith; above = λ c e. let same : b ≡ c = ap first e in (omega (arith, floor), omega arith) },
        record {
          frames = refl;
          post = same_post z v w f _ is;
          floors = same_floors z v w f _ is refl;
          known = still_known z v w f _ is (λ _. refl);
          claimed = (
            b,
            subst (λ (g : ℕ). IsClaimedAt l.frames l.hand k.hand l.out k.out l.floors p g b) (sym blank.frame_is)
                record { blank = blank; within = near; unknown = out; known = now_out; floor = floor; held = ap (λ (k : Mark). first_base k.bases) is.here; other_hand = other_hands z v w f _ is },
          );
        },
        now_out,
      )

  -- what a page that may go home shows of its frame
  pub can_go_home : (z : TableId) (v : View) (p : PageState B) → IsResting z.slots v → CanGive (lending z v).hand p
      → (p.frame < z.slots) × (0 < base_of p) × ((b : ℕ) × ((mark v p.frame).bases ≡ b ∷ []) × (b ≤ base_of p))
  can_go_home z v p h can =
      let held = h.sound p.frame can.claimed can.held in
      let sane = h.sane p.frame held.within in
      let one : (mark v p.frame).bases ≡ can.claimed ∷ [] = one_base (mark v p.frame).bases can.claimed sane.once can.held in
      let least = can.not_below 0 (omega arith) in
      let most = generation-le-base p 0 in (
        held.within,
        (let pos = (sane.above can.claimed one).1 in omega (arith, pos, least, most)),
        (can.claimed, one, omega (arith, least, most)),
      )

  gives_back : (z : TableId) (v w : View) (f b : ℕ) (p : PageState B) → f ≡ p.frame → b ≡ base_of p → f < z.slots → IsMarked v f (given_at b) w → IsResting z.slots v → IsResting z.slots w × IsBack (lending z v) (lending z w) p
  gives_back z v w f b p of base near is h =
      let l : Lending = lending z v in
      let k : Lending = lending z w in (
        resting_marked z v w f _ is h near refl (λ some. absurd (omega (arith, some))) (no_base_sane (given_at b) refl),
        record {
          frames = refl;
          post = same_post z v w f _ is;
          given = record {
            left = subst (λ (g : ℕ). k.hand g ≡ None) of (ap (λ (k : Mark). first_base k.bases) is.here);
            other_hand = subst (λ (j : ℕ). (g : ℕ) → g ≢ j → k.hand g ≡ l.hand g) of (other_hands z v w f _ is);
            home = subst (λ (g : ℕ). k.out g ≡ false) of (ap (λ (k : Mark). k.is_out) is.here);
            other_out = subst (λ (j : ℕ). (g : ℕ) → g ≢ j → k.out g ≡ l.out g) of (λ g ne. ap (λ (k : Mark). k.is_out) (is.other g ne));
            floor = subst (λ (g : ℕ). k.floors g ≡ base_of p) of (ap (λ (k : Mark). k.floor) is.here ∙ base);
            other_floors = subst (λ (j : ℕ). (g : ℕ) → g ≢ j → k.floors g ≡ l.floors g) of (λ g ne. ap (λ (k : Mark). k.floor) (is.other g ne));
          };
        },
      )

module _ {B : Type 0} where
  pub gives_back_as : (z y : TableId) (v w : View) (f b : ℕ) (p : PageState B) → y ≡ z → f ≡ p.frame → b ≡ base_of p → f < z.slots → IsMarked v f (given_at b) w → IsResting z.slots v
      → IsResting y.slots w × IsBack (lending z v) (lending y w) p
  gives_back_as z y v w f b p same of base near is h = subst (λ (x : TableId). IsResting x.slots w × IsBack (lending z v) (lending x w) p) (sym same) (gives_back z v w f b p of base near is h)

pub learned_nothing : (l : Lending) → IsLearned l l
learned_nothing l = record { frames = refl; post = refl; floors = λ g. refl; known = λ g e. e; same_hand = λ g. refl }

pub learned_twice : (l k j : Lending) → IsLearned l k → IsLearned k j → IsLearned l j
learned_twice l k j p q = record { frames = q.frames ∙ p.frames; post = q.post ∙ p.post; floors = λ g. q.floors g ∙ p.floors g; known = λ g e. q.known g (p.known g e); same_hand = λ g. q.same_hand g ∙ p.same_hand g }

was_false : (a b : Bool) → (a ≡ true → b ≡ true) → b ≡ false → a ≡ false
was_false true b h e = absurd (true≢false (sym (h refl) ∙ e))
was_false false b h e = refl

module _ {B : Type 0} where
  pub learned_lent : (l k j : Lending) (p : PageState B) → IsLearned l k → IsLent k j p → IsLent l j p
  learned_lent l k j p n q =
      let c = q.claimed.1 in
      record {
        frames = q.frames ∙ n.frames;
        post = q.post ∙ n.post;
        floors = λ g. q.floors g ∙ n.floors g;
        known = λ g e. q.known g (n.known g e);
        claimed = (
          q.claimed.0,
          record {
            blank = c.blank;
            within = (let few = n.frames in omega (arith, c.within, few));
            unknown = was_false (l.out p.frame) (k.out p.frame) (n.known p.frame) c.unknown;
            known = c.known;
            floor = (let same = n.floors p.frame in omega (arith, c.floor, same));
            held = c.held;
            other_hand = λ g ne. c.other_hand g ne ∙ n.same_hand g;
          },
        );
      }

-- What a claim of the frame f at b leaves, after its word was seen: the view v became w by the look, and w became u by the exchange.
module _ {B : Type 0} where
  pub record IsTried (z y : TableId) (v u : View) (f : ℕ) (r : Option (PageState B)) : Type 0 where
    pub rests : IsResting y.slots u
    pub passed : (mark u f).is_out ≡ true
    pub known : (g : ℕ) → (mark v g).is_out ≡ true → (mark u g).is_out ≡ true
    pub means : MatchOption r (IsLearned (lending z v) (lending y u)) (IsLent (lending z v) (lending y u))

  abbrev pub WonOrLost : View → View → ℕ → ℕ → Option (PageState B) → Type 0
  WonOrLost w u f b r =
      MatchOption r (IsMarked w f (knows_out (mark w f)) u)
      (λ p. IsBlankAt p f b × IsMarked w f (held_at b (mark w f)) u × ((mark w f).floor ≤ b) × ((mark w f).is_out ≡ false) × ((mark w f).bases ≡ []))

  tried_at : (z : TableId) (v w u : View) (f b : ℕ) (r : Option (PageState B)) → f < z.slots → 0 < b → IsMarked v f (saw b (mark v f)) w → IsResting z.slots v → WonOrLost w u f b r → IsTried z z v u f r
  tried_at z v w u f b None near pos look h lost =
      let first = sees z v w f b near look h in
      let second = knows z w u f near lost first.0 in
      record { rests = second.0; passed = second.2; known = λ g e. second.1.known g (first.1.known g e); means = learned_twice _ _ _ first.1 second.1 }
  tried_at z v w u f b (Some p) near pos look h won =
      let first = sees z v w f b near look h in
      let second = holds z w u f b p near pos won.0 won.1 won.2 won.3 won.4 first.0 in
      record { rests = second.0; passed = second.2; known = λ g e. second.1.known g (first.1.known g e); means = learned_lent _ _ _ p first.1 second.1 }

  pub tried_as : (z y : TableId) (v w u : View) (f b : ℕ) (r : Option (PageState B)) → y ≡ z → f < z.slots → 0 < b → IsMarked v f (saw b (mark v f)) w → IsResting z.slots v → WonOrLost w u f b r → IsTried z y v u f r
  tried_as z y v w u f b r same near pos look h won = subst (λ (x : TableId). IsTried z x v u f r) (sym same) (tried_at z v w u f b r near pos look h won)

-- the frame's word was found to be 0
pub found_out : (z y : TableId) (v w : View) (f : ℕ) → y ≡ z → f < z.slots → IsMarked v f (knows_out (mark v f)) w → IsResting z.slots v → IsResting y.slots w × IsLearned (lending z v) (lending y w) × ((mark w f).is_out ≡ true)
found_out z y v w f same near is h = subst (λ (x : TableId). IsResting x.slots w × IsLearned (lending z v) (lending x w) × ((mark w f).is_out ≡ true)) (sym same) (knows z v w f near is h)

-- the frames below the next one are those below this one, and this one
pub passed_next : (f : ℕ) (P : ℕ → Type 0) → ((g : ℕ) → g < f → P g) → P f → (g : ℕ) → g < f + 1 → P g
passed_next f P before here g near = dite (ℕ_discrete g f) (λ e. subst P (sym e) here) (λ ne. before g (omega (arith, near, ne)))

root_role : (r : Role) → is_root_role r ≡ true → r ≡ Root
root_role Root e = refl
root_role Worker e = absurd (true≢false (sym e))
root_role Spent e = absurd (true≢false (sym e))

worker_role : (r : Role) → r ≢ Spent → is_root_role r ≡ false → r ≡ Worker
worker_role Root alive e = absurd (true≢false e)
worker_role Worker alive e = refl
worker_role Spent alive e = absurd (alive refl)

pub root_of : (z : TableId) (v : View) → (lending z v).post.is_root ≡ true → v.role ≡ Root
root_of z v e = root_role v.role e

pub worker_of : (z y : TableId) (v : View) → IsResting z.slots v → (lending y v).post.is_root ≡ false → v.role ≡ Worker
worker_of z y v h e = worker_role v.role h.alive e

pub right_rests : (z : TableId) (v : View) → IsResting z.slots (worker_right v)
right_rests z v =
    rest_from z.slots (worker_right v) (λ e. let e' : Worker ≡ Spent = e in cc)
    (λ f. ap (λ (m : Mark). m.carried) (passed_at v.marks f))
    (λ f some. absurd (omega (arith, some, ap (λ (m : Mark). length m.bases) (passed_at v.marks f))))
    (λ f some. absurd (omega (arith, some, ap (λ (m : Mark). length m.bases) (passed_at v.marks f))))
    (λ f near. no_base_sane _ (ap (λ (m : Mark). m.bases) (passed_at v.marks f)))

splits_off : (z : TableId) (v : View) → IsSplit (lending z v) (lending z (root_left v)) (lending z (worker_right v))
splits_off z v = record {
  frames = refl;
  post = refl;
  same_hand = λ f. refl;
  same_out = λ f. refl;
  same_floors = λ f. refl;
  worker_frames = refl;
  worker_post = refl;
  worker_hand = λ f. ap (λ (m : Mark). first_base m.bases) (passed_at v.marks f);
  worker_out = λ f. ap (λ (m : Mark). m.is_out) (passed_at v.marks f);
  worker_floors = λ f. ap (λ (m : Mark). m.floor) (passed_at v.marks f);
}

both_false : (a b : Bool) → a ≡ false → b ≡ false → (a || b) ≡ false
both_false a b e z = λ i. e i || z i

or_left : (a b : Bool) → a ≡ true → (a || b) ≡ true
or_left a b e = ap (λ (x : Bool). x || b) e

or_right : (a b : Bool) → b ≡ true → (a || b) ≡ true
or_right true b e = refl
or_right false b e = e

some_of_two : (xs ys : List ℕ) → 0 < length (xs ++ ys) → (0 < length xs) ⊎ (0 < length ys)
some_of_two [] ys h = inr h
some_of_two (x ∷ xs) ys h = inl (omega arith)

one_of_two : (xs ys : List ℕ) → length (xs ++ ys) ≤ 1 → (first_base xs ≡ None) ⊎ (first_base ys ≡ None)
one_of_two [] ys h = inl refl
one_of_two (x ∷ xs) [] h = inr refl
one_of_two (x ∷ xs) (y ∷ ys) h = absurd (let e = h in omega (arith, length-append xs (y ∷ ys)))

no_more : (n : ℕ) → (0 < n → ⊥) → n ≡ 0
no_more zero none = refl
no_more (suc n) none = absurd (none (omega arith))

first_of_two : (xs ys : List ℕ) → first_base (xs ++ ys) ≡ either_hand (first_base xs) (first_base ys)
first_of_two [] ys = refl
first_of_two (x ∷ xs) ys = refl

module _ (z : TableId) (v w : View) (hv : IsResting z.slots v) (hw : IsResting z.slots w) (sane : (f : ℕ) → f < z.slots → IsSane (mark (both_views v w) f)) where
  at : (f : ℕ) → mark (both_views v w) f ≡ both_marks (mark v f) (mark w f)
  at f = merged_at v.marks w.marks f

  some_at : (f : ℕ) → 0 < length (mark (both_views v w) f).bases → (0 < length (mark v f).bases) ⊎ (0 < length (mark w f).bases)
  some_at f some = some_of_two (mark v f).bases (mark w f).bases (subst (λ (m : Mark). 0 < length m.bases) (at f) some)

  both_rest : IsResting z.slots (both_views v w)
  both_rest =
      rest_from z.slots (both_views v w) hv.alive
      (λ f. ap (λ (m : Mark). m.carried) (at f) ∙ both_false (mark v f).carried (mark w f).carried (hv.empty f) (hw.empty f))
      (λ f some. ap (λ (m : Mark). m.is_out) (at f) ∙ ⊎_elim (λ s. or_left (mark v f).is_out (mark w f).is_out (hv.out f s)) (λ s. or_right (mark v f).is_out (mark w f).is_out (hw.out f s)) (some_at f some))
      (λ f some. ⊎_elim (hv.within f) (hw.within f) (some_at f some)) sane

  -- a frame that is none of the table's is in neither hand
  once_at : (f : ℕ) → length ((mark v f).bases ++ (mark w f).bases) ≤ 1
  once_at f = dite (dec_lt f z.slots) (λ near. let h = (sane f near).once in subst (λ (m : Mark). length m.bases ≤ 1) (at f) h)
      (λ far. omega (arith, no_more _ (λ some. far (hv.within f some)), no_more _ (λ some. far (hw.within f some)), length-append (mark v f).bases (mark w f).bases))

  joins_in : IsJoined (lending z v) (lending z w) (lending z (both_views v w))
  joins_in = record {
    frames = refl;
    post = refl;
    apart = λ f. one_of_two (mark v f).bases (mark w f).bases (once_at f);
    hand = λ f. ap (λ (m : Mark). first_base m.bases) (at f) ∙ first_of_two (mark v f).bases (mark w f).bases;
    out = λ f. ap (λ (m : Mark). m.is_out) (at f);
    floors = λ f. ap (λ (m : Mark). m.floor) (at f);
    sound = both_rest.sound;
  }

pub rests_as : (n k : ℕ) (v w : View) → k ≡ n → w ≡ v → IsResting n v → IsResting k w
rests_as n k v w e is h = subst (λ (y : ℕ × View). IsResting y.0 y.1) (λ i. (sym e i, sym is i)) h

pub splits_as : (z a b : TableId) (v w u : View) → a ≡ z → b ≡ z → w ≡ root_left v → u ≡ worker_right v → IsSplit (lending z v) (lending a w) (lending b u)
splits_as z a b v w u ea eb ew eu = subst (λ (y : TableId × TableId × View × View). IsSplit (lending z v) (lending y.0 y.2) (lending y.1 y.3)) (λ i. (sym ea i, sym eb i, sym ew i, sym eu i)) (splits_off z v)

pub joins_as : (z a b : TableId) (v w u : View) → a ≡ z → b ≡ z → u ≡ both_views v w → IsResting z.slots v → IsResting a.slots w → ((f : ℕ) → f < z.slots → IsSane (mark u f)) → IsResting b.slots u × IsJoined (lending z v) (lending a w) (lending b u)
joins_as z a b v w u ea eb eu hv hw sane =
    let hw' : IsResting z.slots w = subst (λ (y : TableId). IsResting y.slots w) ea hw in
    let sane' : (f : ℕ) → f < z.slots → IsSane (mark (both_views v w) f) = subst (λ (y : View). (f : ℕ) → f < z.slots → IsSane (mark y f)) eu sane in (
      subst (λ (y : TableId × View). IsResting y.0.slots y.1) (λ i. (sym eb i, sym eu i)) (both_rest z v w hv hw' sane'),
      subst (λ (y : TableId × TableId × View). IsJoined (lending z v) (lending y.0 w) (lending y.1 y.2)) (λ i. (sym ea i, sym eb i, sym eu i)) (joins_in z v w hv hw' sane'),
    )

first_mark : ℕ → Mark
first_mark b = record { floor = b; bases = []; is_out = false; seen = 0; carried = false }

-- what holds of each mark of the first view
each_first : (n b : ℕ) (P : Mark → Type 0) → P (first_mark b) → P unknown → (f : ℕ) → P (mark (root_view n b) f)
unfolding first_mark
each_first zero b P p q f = q
each_first (suc n) b P p q zero = p
each_first (suc n) b P p q (suc f) = each_first n b P p q f

root_rests : (n b : ℕ) → IsResting n (root_view n b)
unfolding first_mark
root_rests n b =
    rest_from n (root_view n b) (λ e. let e' : Root ≡ Spent = e in cc)
    (each_first n b (λ m. m.carried ≡ false) refl refl)
    (each_first n b (λ m. 0 < length m.bases → m.is_out ≡ true) (λ h. absurd (omega arith)) (λ h. absurd (omega arith)))
    (λ f. each_first n b (λ m. 0 < length m.bases → f < n) (λ h. absurd (omega arith)) (λ h. absurd (omega arith)) f)
    (λ f _. each_first n b IsSane (no_base_sane _ refl) (no_base_sane _ refl) f)

pub opens_as : (n b : ℕ) (z : TableId) (v : View) → z.slots ≡ n → v ≡ root_view n b → IsResting z.slots v × IsOpened n b (lending z v)
unfolding first_mark
opens_as n b z v e is = (
  subst (λ (y : ℕ × View). IsResting y.0 y.1) (λ i. (sym e i, sym is i)) (root_rests n b),
  subst (λ (y : View). IsOpened n b (lending z y)) (sym is) record {
    many = e;
    alone = record { root = refl; no_worker = refl };
    hand = each_first n b (λ m. first_base m.bases ≡ None) refl refl;
    out = each_first n b (λ m. m.is_out ≡ false) refl refl;
    floors = λ f near. ap (λ (m : Mark). m.floor) (replicate_at n f _ near);
  },
)

pub worker_out : (v : View) (f : ℕ) → (mark (worker_right v) f).is_out ≡ (mark v f).is_out
worker_out v f = ap (λ (m : Mark). m.is_out) (passed_at v.marks f)

-- a frame below the greater of two numbers is known by one seat or by the other
pub either_out : (a b : Bool) (f n k m : ℕ) → f < m → m ≡ max n k → (f < n → a ≡ true) → (f < k → b ≡ true) → (a || b) ≡ true
either_out a b f n k m near is one two = dite (dec_lt f n) (λ h. or_left a b (one h)) (λ h. or_right a b (two (omega arith)))
