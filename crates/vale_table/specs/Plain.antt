-- What a contract sees of a plain table: for each frame whether it is out, and its base.
use Rattle.std.specs.Prelude.{◌≡◌, ℕ, ◌<◌, ◌≤◌, ◌^◌, List, length, Option, Some, None, IfSome, unwrap_or, is_some, Bool, true, false, if◌then◌else◌, slice_index, slice_index_or, refl}
use Rattle.std.proofs.Common.{sym, ap, ◌∙◌, subst, inl, inr}
use Rattle.std.proofs.Math.Nat.{le_refl}
use Rattle.std.proofs.lemmas.Bool.{cases_lt, true≢false}
use Rattle.std.proofs.lemmas.List.{get_or_past}
use Rattle.std.specs.Coded.{Coded, code_by, coded×, coded_ℕ, coded_bool, coded_list}
use Rattle.vale_page.specs.PageState.{PageState, IsBlankAt}
use Rattle.vale_table.specs.Lending.{IsHeldAt, IsSoundHand}

pub record Plain : Type 0 where
  pub out : List Bool
  pub bases : List ℕ

-- a table is stored as the pair of its parts
abbrev pub plain_code : Coded Plain
plain_code = code_by (List Bool × List ℕ) (coded× (coded_list coded_bool) (coded_list coded_ℕ)) (λ t. (t.out, t.bases)) (λ p. record { out = p.0; bases = p.1 }) (λ _. refl)

abbrev pub frames_of : Plain → ℕ
frames_of t = length t.out

abbrev pub out_of : Plain → ℕ → Bool
out_of t frame = slice_index_or t.out frame false

abbrev pub floor_of : Plain → ℕ → ℕ
floor_of t frame = slice_index t.bases frame

-- a frame that is out is in the hand, at its base
abbrev pub hand_of : Plain → ℕ → Option ℕ
hand_of t frame = if out_of t frame then Some (floor_of t frame) else None

module _ {B : Type 0} where
  -- a page at home is blank, at the base of its frame; no frame before `next` is at home
  pub record IsTable (pages : List (Option (PageState B))) (bases : List ℕ) (next : ℕ) : Type 0 where
    pub many : length pages ≡ length bases
    pub home : (frame : ℕ) → frame < length bases → IfSome (slice_index_or pages frame None) (λ page. IsBlankAt page frame (slice_index bases frame))
    pub passed : (frame : ℕ) → frame < next → slice_index_or pages frame None ≡ None
    pub next_within : next ≤ length bases
    pub few : length bases < 2 ^ 32
    pub fit : (frame : ℕ) → frame < length bases → slice_index bases frame < 2 ^ 64

-- every frame is at home, at the first base
pub record OpensAt (t : Plain) (frames first : ℕ) : Type 0 where
  pub many : frames_of t ≡ frames
  pub home : (frame : ℕ) → out_of t frame ≡ false
  pub bases : (frame : ℕ) → frame < frames → floor_of t frame ≡ first

within_out : (os : List Bool) (frame : ℕ) → slice_index_or os frame false ≡ true → frame < length os
within_out os frame e = elim (cases_lt frame (length os)) [
  | inl within ↦ within
  | inr past ↦ absurd (true≢false (sym e ∙ get_or_past os frame false past))
]

-- a frame of the hand is one of the table's, and out, and it was claimed at its floor
pub sound_hand : (t : Plain) → IsSoundHand (frames_of t) (hand_of t) (out_of t) (floor_of t)
sound_hand t frame base has = by_test (out_of t frame) refl has
  where
    by_test : (b : Bool) → out_of t frame ≡ b → (if b then Some (floor_of t frame) else None) ≡ Some base → IsHeldAt (frames_of t) (out_of t) (floor_of t) frame base
    by_test false e has = absurd (true≢false (ap is_some (sym has)))
    by_test true e has = record {
      within = within_out t.out frame e;
      is_out = e;
      floor = subst (λ n. floor_of t frame ≤ n) (ap (λ o. unwrap_or o 0) has) (le_refl (floor_of t frame));
    }
