-- Laws of the calls that open and close regions.
use Rattle.std.proofs.Common.{◌≡◌, ◌≢◌, ℕ, zero, suc, ◌+◌, ◌-◌, ◌<◌, Bool, true, false, List, [], ◌∷◌, get_or, set, map, count_by, Option, Some, None, cond, refl, sym, ap, subst, ◌∙◌, inl, inr, arith}
use Rattle.std.specs.Option.{option_map}
use Rattle.std.proofs.lemmas.Bool.{cases_eq}
use Rattle.std.proofs.lemmas.Option.{same_Some}
use Rattle.std.proofs.lemmas.List.{length-map, get_or-set_same, get_or-set_other, map-set, set-get_or, ext_get_or}
use Rattle.std.proofs.lemmas.List.Sums.{sum_by-set}
use Rattle.vale_page.specs.PageState.{live_count}
use Rattle.vale_heap.specs.declared.body.Place.{Place}
use Rattle.vale_heap.specs.declared.seat.Seat.{Seat}
use Rattle.vale_heap.specs.declared.seat.Home.{Home}
use Rattle.vale_heap.specs.declared.seat.Home.TheVariants.{Spare, Open, Kept}
use Rattle.vale_heap.specs.HeapState.{HeapState, seat_at, innermost, LivesIn, IsRoot, FitsHome, IsHeap, with_seat, with_home, with_moved, with_rehomed, with_region, without_region, with_merged, home_eq, rehomed, IsFor, NoneFor, IsMovable, IsExit}
use Rattle.vale_heap.proofs.HeapLaws.{heap_with_seat, can_leave, can_join, root_elsewhere, root_home, open_kept, got_lt, set_some}
use Rattle.vale_heap.proofs.MoveLaws.{home_eq-refl, home_eq-false}

-- ---- one page moves

pub moved_is : (h : HeapState) (frame : ℕ) (to : Home) (seat : Seat) → seat_at h frame ≡ Some seat → with_moved h frame to ≡ with_seat h frame (Some (with_home to seat))
moved_is h frame to seat there = ap (λ o. with_seat h frame (option_map (with_home to) o)) there

exit_fits : (h : HeapState) (to : Home) (live : ℕ) → 0 < h.regions → IsExit h to → 0 < live → FitsHome h.regions live to
exit_fits h Spare live some exit lives = absurd exit
exit_fits h (Open depth) live some exit lives = (omega (arith, exit, some), lives)
exit_fits h (Kept root) live some exit lives = lives

-- the root of another page's isolate is elsewhere
root_apart : (h : HeapState) (frame region : ℕ) (root : Place) → IsFor (Open region) (seat_at h frame) → IsRoot h root → root.frame ≢ frame
root_apart h frame region root is at e = open_kept region root (sym is.2 ∙ root_home h root is.0 at (ap (seat_at h) e ∙ is.1))

open_fits : (regions live region : ℕ) (home : Home) → home ≡ Open region → FitsHome regions live home → 0 < live
open_fits regions live region home e fits = let at : FitsHome regions live (Open region) = subst (FitsHome regions live) e fits in at.1

pub can_exit : (h : HeapState) (frame : ℕ) (to : Home) → IsHeap h → IsExit h to → IsFor (Open (innermost h)) (seat_at h frame) → IsMovable h frame to
can_exit h frame to ok exit is =
    let seat = is.0 in
    let was = ok.seats_ok frame seat is.1 in
    record {
      seat = seat;
      there = is.1;
      heap = subst IsHeap (sym (moved_is h frame to seat is.1)) (heap_with_seat h frame (with_home to seat)
          (can_leave h frame (innermost h) seat to ok is.1 is.2 (exit_fits h to (live_count seat.page) ok.some_open exit (open_fits h.regions (live_count seat.page) (innermost h) seat.home is.2 was.fits))
          (λ root e. let at : IsRoot h root = subst (IsExit h) e exit in root_elsewhere h frame _ root (root_apart h frame (innermost h) root is at) at)));
    }

pub exit_kept : (h : HeapState) (frame : ℕ) (to : Home) → IsExit h to → IsFor (Open (innermost h)) (seat_at h frame) → IsExit (with_moved h frame to) to
exit_kept h frame Spare exit is = exit
exit_kept h frame (Open depth) exit is = exit
exit_kept h frame (Kept root) exit is = root_elsewhere h frame _ root (root_apart h frame (innermost h) root is exit) exit

-- a heap's page after a move of all
pub seat_moved : (seats : List (Option Seat)) (from to : Home) (frame : ℕ) → get_or (map (rehomed from to) seats) frame None ≡ rehomed from to (get_or seats frame None)
seat_moved [] from to frame = refl
seat_moved (o ∷ seats) from to zero = refl
seat_moved (o ∷ seats) from to (suc frame) = seat_moved seats from to frame

either_same : {X : Type 0} (b : Bool) (x : X) → cond b x x ≡ x
either_same true x = refl
either_same false x = refl

-- a page that was moved by itself is moved no further
pub map_moved : (h : HeapState) (frame : ℕ) (from to : Home) → IsFor from (seat_at h frame) → map (rehomed from to) (with_moved h frame to).seats ≡ map (rehomed from to) h.seats
map_moved h frame from to is =
    let seat = is.0 in
    let moved : rehomed from to (option_map (with_home to) (seat_at h frame)) ≡ Some (with_home to seat) =
    ap (λ o. rehomed from to (option_map (with_home to) o)) is.1 ∙ ap (λ home. Some (record seat { home = home })) (either_same (home_eq to from) to) in
    let was : get_or (map (rehomed from to) h.seats) frame None ≡ Some (with_home to seat) =
    seat_moved h.seats from to frame ∙ ap (rehomed from to) is.1 ∙ ap (λ b. Some (record seat { home = cond b to seat.home })) (home_eq-refl seat.home from is.2) in
    map-set (rehomed from to) h.seats frame (option_map (with_home to) (seat_at h frame))
    ∙ ap (set (map (rehomed from to) h.seats) frame) (moved ∙ sym was)
    ∙ set-get_or (map (rehomed from to) h.seats) frame None

-- where no page is for the first, nothing moves
pub map_none : (h : HeapState) (from to : Home) → NoneFor from h → map (rehomed from to) h.seats ≡ h.seats
map_none h from to none =
    ext_get_or None (map (rehomed from to) h.seats) h.seats (length-map h.seats (rehomed from to)) (λ i _. seat_moved h.seats from to i ∙ by_seat i (get_or h.seats i None) refl)
  where
    by_seat : (i : ℕ) (o : Option Seat) → get_or h.seats i None ≡ o → rehomed from to o ≡ o
    by_seat i None e = refl
    by_seat i (Some seat) e = ap (λ b. Some (record seat { home = cond b to seat.home })) (home_eq-false seat.home from (λ home. none i (seat, e, home)))

-- ---- how many pages are for something

abbrev pub is_for : Home → Option Seat → Bool
is_for home None = false
is_for home (Some seat) = home_eq seat.home home

abbrev pub pages_for : Home → HeapState → ℕ
pages_for home h = count_by (is_for home) h.seats

for_counts : (home : Home) (o : Option Seat) → IsFor home o → is_for home o ≡ true
for_counts home o is = ap (is_for home) is.1 ∙ home_eq-refl is.0.home home is.2

-- a page that is for something else now counts no more
pub fewer_with : (h : HeapState) (frame : ℕ) (home : Home) (new : Option Seat) → IsFor home (seat_at h frame) → is_for home new ≡ false → pages_for home (with_seat h frame new) < pages_for home h
fewer_with h frame home new is apart =
    let counted = sum_by-set (λ o. cond (is_for home o) 1 0) h.seats frame new None (got_lt h.seats frame is.0 is.1) in
    let one : ◌≡◌ {A = ℕ} (cond (is_for home (get_or h.seats frame None)) 1 0) 1 = ap (λ b. cond b 1 0) (for_counts home (seat_at h frame) is) in
    let none : ◌≡◌ {A = ℕ} (cond (is_for home new) 1 0) 0 = ap (λ b. cond b 1 0) apart in
    omega (arith, counted, one, none)

pub fewer_moved : (h : HeapState) (frame : ℕ) (from to : Home) → IsFor from (seat_at h frame) → to ≢ from → pages_for from (with_moved h frame to) < pages_for from h
fewer_moved h frame from to is apart = fewer_with h frame from (option_map (with_home to) (seat_at h frame)) is (ap (λ o. is_for from (option_map (with_home to) o)) is.1 ∙ home_eq-false to from apart)

pub exit_apart : (h : HeapState) (to : Home) → IsExit h to → to ≢ Open (innermost h)
exit_apart h Spare exit e = absurd exit
exit_apart h (Open depth) exit e = let same : depth ≡ innermost h = cc in omega (arith, exit, same)
exit_apart h (Kept root) exit e = cc

-- ---- the innermost region loses its pages, one after the other

pub record IsEmptying (old now : HeapState) (to : Home) : Type 0 where
  pub maps : map (rehomed (Open (innermost old)) to) now.seats ≡ map (rehomed (Open (innermost old)) to) old.seats
  pub regions : now.regions ≡ old.regions
  pub depth : now.depth ≡ old.depth
  pub exit : IsExit now to

pub emptying_starts : (h : HeapState) (to : Home) → IsExit h to → IsEmptying h h to
emptying_starts h to exit = record { maps = refl; regions = refl; depth = refl; exit = exit }

pub emptying_goes : (old now : HeapState) (frame : ℕ) (to : Home) → IsEmptying old now to → IsFor (Open (innermost now)) (seat_at now frame) → IsEmptying old (with_moved now frame to) to
emptying_goes old now frame to is page = record {
  maps = map_moved now frame (Open (innermost old)) to (page.0, page.1, page.2 ∙ ap (λ n. Open (n - 1)) is.regions) ∙ is.maps;
  regions = is.regions;
  depth = is.depth;
  exit = exit_kept now frame to is.exit page;
}

pub emptied_is : (old now : HeapState) (to : Home) → IsEmptying old now to → NoneFor (Open (innermost old)) now → now ≡ with_rehomed old (Open (innermost old)) to
emptied_is old now to is none =
    let seats : now.seats ≡ map (rehomed (Open (innermost old)) to) old.seats = sym (map_none now (Open (innermost old)) to none) ∙ is.maps in
    λ i. record { seats = seats i; regions = is.regions i; depth = is.depth i }

-- ---- a region closes

fits_less : (regions live : ℕ) (home : Home) → home ≢ Open (regions - 1) → FitsHome regions live home → FitsHome (regions - 1) live home
fits_less regions live Spare apart fits = fits
fits_less regions live (Open depth) apart fits = (omega (arith, fits.0, (let other : depth ≢ regions - 1 = λ e. apart (ap Open e) in other)), fits.1)
fits_less regions live (Kept root) apart fits = fits

root_regions : (h : HeapState) (regions : ℕ) (root : Place) → IsRoot h root → IsRoot (record h { regions = regions }) root
root_regions h regions root is = record { seat = is.seat; there = is.there; home_is = is.home_is; body = is.body; at = is.at }

pub heap_closed : (h : HeapState) → IsHeap h → 1 < h.regions → NoneFor (Open (innermost h)) h → IsHeap (record h { regions = innermost h })
heap_closed h ok many none = record {
  seats_ok = λ f s e. let was = ok.seats_ok f s e in record { of = was.of; page = was.page; fits = fits_less h.regions (live_count s.page) s.home (λ home. none f (s, e, home)) was.fits };
  roots = λ f s root e home. root_regions h (innermost h) root (ok.roots f s root e home);
  some_open = omega (arith, many);
  within_depth = omega (arith, ok.within_depth);
}

fits_more : (regions live : ℕ) (home : Home) → FitsHome regions live home → FitsHome (regions + 1) live home
fits_more regions live Spare fits = fits
fits_more regions live (Open depth) fits = (omega (arith, fits.0), fits.1)
fits_more regions live (Kept root) fits = fits

pub heap_opened : (h : HeapState) → IsHeap h → h.regions < h.depth → IsHeap (with_region h)
heap_opened h ok within = record {
  seats_ok = λ f s e. let was = ok.seats_ok f s e in record { of = was.of; page = was.page; fits = fits_more h.regions (live_count s.page) s.home was.fits };
  roots = λ f s root e home. root_regions h (h.regions + 1) root (ok.roots f s root e home);
  some_open = omega arith;
  within_depth = omega (arith, within);
}

-- ---- the pages of an isolate join a region

kept_open : (region : ℕ) (iso : Place) → Open region ≢ Kept iso
kept_open region iso e = cc

pub can_merge : (h : HeapState) (frame : ℕ) (iso : Place) → IsHeap h → IsRoot h iso → frame ≢ iso.frame → IsFor (Kept iso) (seat_at h frame) → IsMovable h frame (Open (innermost h))
can_merge h frame iso ok root apart is = record {
  seat = is.0;
  there = is.1;
  heap = subst IsHeap (sym (moved_is h frame (Open (innermost h)) is.0 is.1)) (heap_with_seat h frame (with_home (Open (innermost h)) is.0)
      (can_join h frame (innermost h) is.0 iso ok is.1 is.2 (omega (arith, ok.some_open)) (λ f s here _ _ _. apart (sym here))));
}

pub can_merge_root : (h : HeapState) (iso : Place) → IsHeap h → IsRoot h iso → ((frame : ℕ) → IsFor (Kept iso) (seat_at h frame) → frame ≡ iso.frame) → IsMovable h iso.frame (Open (innermost h))
can_merge_root h iso ok root alone = record {
  seat = root.seat;
  there = root.there;
  heap = subst IsHeap (sym (moved_is h iso.frame (Open (innermost h)) root.seat root.there)) (heap_with_seat h iso.frame (with_home (Open (innermost h)) root.seat)
      (can_join h iso.frame (innermost h) root.seat iso ok root.there root.home_is (omega (arith, ok.some_open)) (λ f s _ apart at home. apart (alone f (s, at, home)))));
}

pub record IsMerging (old now : HeapState) (iso : Place) : Type 0 where
  pub maps : map (rehomed (Kept iso) (Open (innermost old))) now.seats ≡ map (rehomed (Kept iso) (Open (innermost old))) old.seats
  pub regions : now.regions ≡ old.regions
  pub depth : now.depth ≡ old.depth
  pub root : IsRoot now iso

pub merging_starts : (h : HeapState) (iso : Place) → IsRoot h iso → IsMerging h h iso
merging_starts h iso root = record { maps = refl; regions = refl; depth = refl; root = root }

pub merging_goes : (old now : HeapState) (frame : ℕ) (iso : Place) → IsMerging old now iso → frame ≢ iso.frame → IsFor (Kept iso) (seat_at now frame) → IsMerging old (with_moved now frame (Open (innermost old))) iso
merging_goes old now frame iso is apart page = record {
  maps = map_moved now frame (Kept iso) (Open (innermost old)) page ∙ is.maps;
  regions = is.regions;
  depth = is.depth;
  root = root_elsewhere now frame _ iso (λ e. apart (sym e)) is.root;
}

pub merged_is : (old now : HeapState) (iso : Place) → IsMerging old now iso → ((frame : ℕ) → IsFor (Kept iso) (seat_at now frame) → frame ≡ iso.frame) → with_moved now iso.frame (Open (innermost old)) ≡ with_merged old iso
merged_is old now iso is alone =
    let last : HeapState = with_moved now iso.frame (Open (innermost old)) in
    let none : NoneFor (Kept iso) (with_moved now iso.frame (Open (innermost old))) = none_left in
    let seats : last.seats ≡ map (rehomed (Kept iso) (Open (innermost old))) old.seats =
    sym (map_none last (Kept iso) (Open (innermost old)) none) ∙ map_moved now iso.frame (Kept iso) (Open (innermost old)) (is.root.seat, is.root.there, is.root.home_is) ∙ is.maps in
    λ i. record { seats = seats i; regions = is.regions i; depth = is.depth i }
  where
    none_left : NoneFor (Kept iso) (with_moved now iso.frame (Open (innermost old)))
    none_left frame page = elim (cases_eq frame iso.frame) [
      | inl same ↦
          let at : option_map (with_home (Open (innermost old))) (seat_at now iso.frame) ≡ Some page.0 = set_some now.seats iso.frame _ page.0 (ap (seat_at (with_moved now iso.frame (Open (innermost old)))) (sym same) ∙ page.1) in
          let seat : with_home (Open (innermost old)) is.root.seat ≡ page.0 = same_Some _ _ (ap (option_map (with_home (Open (innermost old)))) (sym is.root.there) ∙ at) in
          kept_open (innermost old) iso (ap (λ (s : Seat). s.home) seat ∙ page.2)
      | inr apart ↦ apart (alone frame (page.0, sym (get_or-set_other now.seats iso.frame frame _ None apart) ∙ page.1, page.2))
    ]

-- ---- the innermost region becomes an isolate

pub can_keep : (h : HeapState) (root : Place) → IsHeap h → LivesIn h (Open (innermost h)) root → IsMovable h root.frame (Kept root)
can_keep h root ok lives =
    let was = ok.seats_ok root.frame lives.seat lives.there in
    record {
      seat = lives.seat;
      there = lives.there;
      heap = subst IsHeap (sym (moved_is h root.frame (Kept root) lives.seat lives.there)) (heap_with_seat h root.frame (with_home (Kept root) lives.seat)
          (can_leave h root.frame (innermost h) lives.seat (Kept root) ok lives.there lives.home_is (open_fits h.regions (live_count lives.seat.page) (innermost h) lives.seat.home lives.home_is was.fits)
          (λ other e. let one : root ≡ other = cc in subst (IsRoot (with_seat h root.frame (Some (with_home (Kept root) lives.seat)))) one (record {
            seat = with_home (Kept root) lives.seat;
            there = get_or-set_same h.seats root.frame (Some (with_home (Kept root) lives.seat)) None (got_lt h.seats root.frame lives.seat lives.there);
            home_is = refl;
            body = lives.body;
            at = lives.at;
          }))));
    }

pub kept_root : (h : HeapState) (root : Place) → LivesIn h (Open (innermost h)) root → IsRoot (with_moved h root.frame (Kept root)) root
kept_root h root lives = subst (λ x. IsRoot x root) (sym (moved_is h root.frame (Kept root) lives.seat lives.there)) (record {
  seat = with_home (Kept root) lives.seat;
  there = get_or-set_same h.seats root.frame (Some (with_home (Kept root) lives.seat)) None (got_lt h.seats root.frame lives.seat lives.there);
  home_is = refl;
  body = lives.body;
  at = lives.at;
})

-- ---- a region that lost its pages closes

pub none_still : (h now : HeapState) (to : Home) → now ≡ with_rehomed h (Open (innermost h)) to → NoneFor (Open (innermost h)) now → NoneFor (Open (innermost now)) now
none_still h now to is none = subst (λ n. NoneFor (Open n) now) (sym (ap innermost is)) none

pub closed_is : (old h now new : HeapState) (to : Home) → map (rehomed (Open (innermost old)) to) h.seats ≡ map (rehomed (Open (innermost old)) to) old.seats → h.regions ≡ old.regions → h.depth ≡ old.depth →
    now ≡ with_rehomed h (Open (innermost h)) to → new ≡ record now { regions = innermost now } → new ≡ without_region old to
closed_is old h now new to maps regions depth now_is new_is =
    let inner : innermost h ≡ innermost old = ap (λ n. n - 1) regions in
    let seats : new.seats ≡ map (rehomed (Open (innermost old)) to) old.seats =
    ap (λ (x : HeapState). x.seats) new_is ∙ ap (λ (x : HeapState). x.seats) now_is ∙ ap (λ n. map (rehomed (Open n) to) h.seats) inner ∙ maps in
    let new_regions : new.regions ≡ innermost old = ap (λ (x : HeapState). x.regions) new_is ∙ ap innermost now_is ∙ inner in
    let new_depth : new.depth ≡ old.depth = ap (λ (x : HeapState). x.depth) new_is ∙ ap (λ (x : HeapState). x.depth) now_is ∙ depth in
    λ i. record { seats = seats i; regions = new_regions i; depth = new_depth i }
