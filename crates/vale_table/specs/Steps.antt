-- What each step tells: of the step, the seat before, the number found and the seat after.
use Rattle.std.specs.Prelude.{◌≡◌, ◌≢◌, ℕ, ◌<◌, ◌≤◌, length, [], ◌∷◌, true, false, Option, Some, None}
use Rattle.atomic_table.specs.Table.{Me, Step, rest}
use Rattle.vale_page.specs.PageState.{PageState, IsBlankAt}
use Rattle.vale_table.specs.declared.view.View.{View}
use Rattle.vale_table.specs.declared.view.Mark.{Mark}
use Rattle.vale_table.specs.Marks.{mark, with_mark, knows_out, saw, claimed_at, carrying, given_at}

-- a seat's view, and the slots in its hand
abbrev pub Sat : Type 0 → Type 0
Sat B = Me (Option (PageState B)) View

abbrev pub Telling : Type 0 → Type 1
Telling B = Step (Option (PageState B)) → Sat B → ℕ → Sat B → Type 0

-- the view after a change of what it knows of one frame
abbrev pub marked : {B : Type 0} → Sat B → ℕ → Mark → View
marked m f k = with_mark m.0 f k

-- a load of a frame's word
abbrev pub looked : {B : Type 0} → Telling B
looked st m r n = (r ≡ 0 → n ≡ (marked m st.word (knows_out (mark m.0 st.word)), m.1)) × (r ≢ 0 → n ≡ (marked m st.word (saw r (mark m.0 st.word)), m.1))

-- the frame was won at b: the slot in the hand has its page, and the frame wasn't known to be out, nor below its floor
abbrev pub Won : {B : Type 0} → Sat B → ℕ → ℕ → Sat B → Type 0
Won {B} m f b n = (p : PageState B) × IsBlankAt p f b × (n ≡ (marked m f (claimed_at b (mark m.0 f)), (f, Some p) ∷ m.1)) × ((mark m.0 f).floor ≤ b) × ((mark m.0 f).is_out ≡ false) × ((mark m.0 f).bases ≡ [])

-- an exchange of a frame's base for 0, won or lost. A lost one found 0.
abbrev pub tried : {B : Type 0} → Telling B
tried st m r n = (r ≡ st.first → Won m st.word st.first n) × (r ≢ st.first → (r ≡ 0) × (n ≡ (marked m st.word (knows_out (mark m.0 st.word)), m.1)))

-- a load of an own frame's word, by which its slot goes home
abbrev pub put_home : {B : Type 0} → Telling B
put_home st m r n = n ≡ (marked m st.word (carrying false (mark m.0 st.word)), rest m.1)

-- a load of an own frame's word, by which its empty slot comes into the hand
abbrev pub fetched : {B : Type 0} → Telling B
fetched st m r n = n ≡ (marked m st.word (carrying true (mark m.0 st.word)), (st.word, None) ∷ m.1)

-- a swap of an own frame's word for a base, by which the slot goes home with its page
abbrev pub gave : {B : Type 0} → Telling B
gave st m r n = n ≡ (marked m st.word (given_at st.first), rest m.1)

-- what the rule says of a mark by itself
pub record IsSane (m : Mark) : Type 0 where
  pub once : length m.bases ≤ 1
  pub above : (b : ℕ) → m.bases ≡ b ∷ [] → (m.floor ≤ b) × (0 < b)

-- a load that changes nothing, and tells what the rule says of the seat's own view
abbrev pub told : {B : Type 0} → Telling B
told st m r n = (n ≡ m) × ((f : ℕ) → f < st.slots → IsSane (mark m.0 f))
