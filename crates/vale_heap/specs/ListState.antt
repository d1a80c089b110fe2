-- What a contract sees of lists that share their items: for each item the list that it is on, how many lists there are, and how
-- many there may be at most.
use Rattle.std.specs.Prelude.{◌≡◌, ◌⊎◌, ℕ, ◌+◌, ◌-◌, ◌<◌, ◌≤◌, List, length, Option, Some, None, slice_index, slice_index_or, slice_set, nat_lt, if◌then◌else◌}

pub record ListState : Type 0 where
  pub on : List (Option ℕ)
  pub lists : ℕ
  pub most : ℕ

-- the list that an item is on
abbrev pub list_at : ListState → ℕ → Option ℕ
list_at s item = slice_index_or s.on item None

-- The nodes of the rings are the items and then the heads of the lists. This is the list of a node.
abbrev pub list_of_node : List (Option ℕ) → ℕ → Option ℕ
list_of_node on node = if nat_lt node (length on) then slice_index_or on node None else Some (node - length on)

-- Each node is before the node that is after it. So the nodes stand in rings, and on each ring they are of one list.
-- On the way from an item the ranks fall up to the head of its list. So the ring of a head has all items of its list.
pub record IsRinged (next previous : List ℕ) (on : List (Option ℕ)) (lists : ℕ) : Type 0 where
  pub nexts : length next ≡ length on + lists
  pub previouses : length previous ≡ length on + lists
  pub next_within : (node : ℕ) → node < length on + lists → slice_index next node < length on + lists
  pub previous_within : (node : ℕ) → node < length on + lists → slice_index previous node < length on + lists
  pub back : (node : ℕ) → node < length on + lists → slice_index previous (slice_index next node) ≡ node
  pub forth : (node : ℕ) → node < length on + lists → slice_index next (slice_index previous node) ≡ node
  pub alike : (node : ℕ) → node < length on + lists → list_of_node on (slice_index next node) ≡ list_of_node on node
  pub alone : (item : ℕ) → item < length on → slice_index_or on item None ≡ None → slice_index next item ≡ item
  pub listed : (item list : ℕ) → item < length on → slice_index_or on item None ≡ Some list → list < lists
  pub rank : ℕ → ℕ
  pub falls : (item list : ℕ) → item < length on → slice_index_or on item None ≡ Some list →
      (slice_index next item ≡ length on + list) ⊎ (rank (slice_index next item) < rank item)

-- the places for all nodes are there
pub record IsRoomy (next_room previous_room : ℕ) (s : ListState) : Type 0 where
  pub few : s.lists ≤ s.most
  pub next : length s.on + s.most ≤ next_room
  pub previous : length s.on + s.most ≤ previous_room

-- the nodes after the nodes, and before them, where what is before an item is before what is after it
abbrev pub unlinked_next : List ℕ → List ℕ → ℕ → List ℕ
unlinked_next next previous item = slice_set next (slice_index previous item) (slice_index next item)

abbrev pub unlinked_previous : List ℕ → List ℕ → ℕ → List ℕ
unlinked_previous next previous item = slice_set previous (slice_index next item) (slice_index previous item)

-- then the item comes after a head
abbrev pub linked_next : List ℕ → ℕ → ℕ → List ℕ
linked_next next item head = slice_set (slice_set next head item) item (slice_index next head)

abbrev pub linked_previous : List ℕ → List ℕ → ℕ → ℕ → List ℕ
linked_previous next previous item head = slice_set (slice_set previous item head) (slice_index next head) item
