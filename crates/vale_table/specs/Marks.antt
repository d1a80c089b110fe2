-- What a seat knows, frame by frame, and how each step changes it.
use Rattle.std.specs.Prelude.{ℕ, zero, suc, ◌+◌, ◌-◌, List, [], ◌∷◌, ◌++◌, map, Bool, true, false, ◌||◌, max, if◌then◌else◌, ◌==◌, slice_index_or, replicate}
use Rattle.vale_table.specs.declared.view.View.{View}
use Rattle.vale_table.specs.declared.view.Mark.{Mark}
use Rattle.vale_table.specs.declared.view.Role.TheVariants.{Root, Worker, Spent}

-- nothing is known
abbrev pub unknown : Mark
unknown = record { floor = 0; bases = []; is_out = false; seen = 0; carried = false }

-- what a view knows of a frame
abbrev pub mark : View → ℕ → Mark
mark v f = slice_index_or v.marks f unknown

-- the list with this at the place f, made longer where it ends before
abbrev pub put : List Mark → ℕ → Mark → List Mark
put [] zero m = m ∷ []
put [] (suc k) m = unknown ∷ put [] k m
put (x ∷ xs) zero m = m ∷ xs
put (x ∷ xs) (suc k) m = x ∷ put xs k m

-- the same view, but for what it knows of the frame f
abbrev pub with_mark : View → ℕ → Mark → View
with_mark v f m = record { role = v.role; workers = v.workers; marks = put v.marks f m }

-- the frame's word was found to be 0
abbrev pub knows_out : Mark → Mark
knows_out m = record { floor = m.floor; bases = m.bases; is_out = true; seen = m.seen; carried = m.carried }

-- the frame's word was found to be b
abbrev pub saw : ℕ → Mark → Mark
saw b m = record { floor = m.floor; bases = m.bases; is_out = m.is_out; seen = b; carried = m.carried }

-- the frame was claimed at b, and its slot came into the hand
abbrev pub claimed_at : ℕ → Mark → Mark
claimed_at b m = record { floor = m.floor; bases = b ∷ []; is_out = true; seen = m.seen; carried = true }

-- the frame's slot is in the hand, or isn't
abbrev pub carrying : Bool → Mark → Mark
carrying c m = record { floor = m.floor; bases = m.bases; is_out = m.is_out; seen = m.seen; carried = c }

-- the frame went home at b
abbrev pub given_at : ℕ → Mark
given_at b = record { floor = b; bases = []; is_out = false; seen = b; carried = false }

-- what a new worker is told of a frame
abbrev pub passed_on : Mark → Mark
passed_on m = record { floor = m.floor; bases = []; is_out = m.is_out; seen = 0; carried = false }

-- What two seats know together. A frame that both held would have two bases.
abbrev pub both_marks : Mark → Mark → Mark
both_marks m k = record {
  floor = max m.floor k.floor;
  bases = m.bases ++ k.bases;
  is_out = m.is_out || k.is_out;
  seen = if m.seen == 0 then k.seen else m.seen;
  carried = m.carried || k.carried;
}

abbrev pub merged : List Mark → List Mark → List Mark
merged [] ks = map (both_marks unknown) ks
merged (m ∷ ms) [] = map (λ x. both_marks x unknown) (m ∷ ms)
merged (m ∷ ms) (k ∷ ks) = both_marks m k ∷ merged ms ks

-- the root's view of a table whose frames are all free at the first base
abbrev pub root_view : ℕ → ℕ → View
root_view frames first = record { role = Root; workers = 0; marks = replicate frames record { floor = first; bases = []; is_out = false; seen = 0; carried = false } }

-- what is left of a joined worker's view
abbrev pub spent_view : View
spent_view = record { role = Spent; workers = 0; marks = [] }

-- the root's view after a split, and the new worker's
abbrev pub root_left : View → View
root_left v = record { role = v.role; workers = v.workers + 1; marks = v.marks }

abbrev pub worker_right : View → View
worker_right v = record { role = Worker; workers = 0; marks = map passed_on v.marks }

-- the root's view after a join
abbrev pub both_views : View → View → View
both_views v w = record { role = v.role; workers = v.workers - 1; marks = merged v.marks w.marks }
