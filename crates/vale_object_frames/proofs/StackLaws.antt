-- The last of the frames of a stack is the innermost.
use Rattle.std.proofs.Common.{◌≡◌, ℕ, ◌+◌, ◌-◌, ◌<◌, ◌++◌, List, [], ◌∷◌, length, take, get_or, reverse, Some, refl, sym, ap, subst, ◌∙◌, arith}
use Rattle.std.specs.Prelude.{slice_set}
use Rattle.std.proofs.lemmas.List.{length-reverse, length-set, reverse-append, take-set, take_all, take_more, take_more_set}
use Rattle.vale_base.specs.declared.name.Kind.{Kind}
use Rattle.vale_base.specs.declared.spot.Spot.{Spot}
use Rattle.vale_heap.specs.declared.body.Cell.{Cell}
use Rattle.vale_object_frames.specs.Stacks.{DropsNext, DropsOne, HasDropped, HasNone, IsDropping, IsLeft, is_dropping, rest_of}
use Rattle.vale_object_frames.specs.declared.frame.Frame.{Frame}
use Rattle.vale_object_frames.specs.declared.frame.Frame.TheVariants as frame
use Rattle.vale_object_frames.specs.declared.frame.Leftover.{Leftover}
use Rattle.vale_object_steps.specs.Drops.{first_owned_cell}

pub last_first : (fs : List Frame) (f : Frame) → reverse (fs ++ f ∷ []) ≡ f ∷ reverse fs
last_first fs f = reverse-append fs (f ∷ [])

module _ (fs : List Frame) (some : 0 < length fs) where
  abbrev last : ℕ
  last = length fs - 1

  abbrev under : List Frame
  under = take last fs

  whole : (xs : List Frame) → length xs ≡ length fs → take (last + 1) xs ≡ xs
  whole xs e = take_all (last + 1) xs (omega (arith, e, some))

  pub top_is : (d : Frame) → reverse fs ≡ get_or fs last d ∷ reverse under
  top_is d = ap reverse (sym (whole fs refl) ∙ take_more fs last d (omega (arith, some))) ∙ last_first under (get_or fs last d)

  pub top_set : (x : Frame) → reverse (slice_set fs last x) ≡ x ∷ reverse under
  top_set x = ap reverse (sym (whole (slice_set fs last x) (length-set fs last x)) ∙ take_more_set fs last x (omega (arith, some))) ∙ last_first under x

  pub top_dropping : (d : Frame) → IsDropping (reverse fs) → IsDropping (get_or fs last d ∷ [])
  top_dropping d h = only (get_or fs last d) (reverse under) (subst IsDropping (top_is d) h)
    where
      only : (f : Frame) (gs : List Frame) → IsDropping (f ∷ gs) → IsDropping (f ∷ [])
      only (frame.Running a) gs h = absurd h
      only (frame.Dropping l) gs h = tt

  pub dropping_by : (d : Frame) → is_dropping (reverse fs) ≡ is_dropping (get_or fs last d ∷ [])
  dropping_by d = ap is_dropping (top_is d) ∙ only (get_or fs last d) (reverse under)
    where
      only : (f : Frame) (gs : List Frame) → is_dropping (f ∷ gs) ≡ is_dropping (f ∷ [])
      only (frame.Running a) gs = refl
      only (frame.Dropping l) gs = refl

  pub drops_next : (d x : Frame) (cell : Cell) (at : Spot) → DropsOne cell at (get_or fs last d) x → DropsNext cell at (reverse fs) (reverse (slice_set fs last x))
  drops_next d x cell at h = record { top = get_or fs last d; new_top = x; below = reverse under; old_is = top_is d; new_is = top_set x; drops = h }

  pub has_dropped : (d x : Frame) → HasNone (get_or fs last d) → HasDropped (reverse fs) (reverse (take last (slice_set fs last x)))
  has_dropped d x h = record { top = get_or fs last d; is = top_is d ∙ ap (λ l. get_or fs last d ∷ reverse l) (sym (take-set fs last x)); none = h }

pub some_frames : (fs : List Frame) → IsDropping (reverse fs) → 0 < length fs
some_frames fs h = by (reverse fs) h (length-reverse fs)
  where
    by : (gs : List Frame) → IsDropping gs → length gs ≡ length fs → 0 < length fs
    by [] h e = absurd h
    by (g ∷ gs) h e = omega (arith, e)

pub is_left : (kind : Kind) (at : Spot) (cells : List Cell) (old new : List Frame) (l : Leftover) → l.kind ≡ kind → l.at ≡ at → rest_of l ≡ cells → new ≡ frame.Dropping l ∷ old → IsLeft kind at cells old new
is_left kind at cells old new l a b c e = record { leftover = l; is = e; kind_is = a; at_is = b; rest_is = c }

pub drops_one : (cell : Cell) (l m : Leftover) (old : Frame) → old ≡ frame.Dropping l → m.kind ≡ l.kind → m.at ≡ l.at → first_owned_cell (rest_of l) ≡ Some (record { first = cell; rest = rest_of m }) → DropsOne cell l.at old (frame.Dropping m)
drops_one cell l m old e a b next = record { was = l; now = m; old_is = e; new_is = refl; kind_is = a; at_was = refl; at_is = b; next = next }
