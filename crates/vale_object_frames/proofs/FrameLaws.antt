-- Frames stay what they are where names are added, and where texts above them change.
use Rattle.std.proofs.Common.{◌≡◌, ℕ, zero, suc, ◌+◌, ◌<◌, ◌++◌, List, [], ◌∷◌, length, take, drop, map, Some, refl, sym, ap, subst, arith}
use Rattle.std.specs.List.{AllByRecursion}
use Rattle.std.proofs.lemmas.List.{length-drop}
use Rattle.vale_code.specs.Frames.{under}
use Rattle.vale_code.specs.Parts.{Parts}
use Rattle.vale_registers.specs.Passing.{from_base}
use Rattle.vale_registers.specs.Texts.{text_at}
use Rattle.vale_heap.specs.declared.body.Cell.{Cell}
use Rattle.vale_heap.specs.declared.body.Cell.TheVariants.{Int, Truth, Text, Own, Ref, Iso}
use Rattle.vale_heap.specs.declared.body.Place.{Place}
use Rattle.vale_object_cells.specs.Cells.{cells_from}
use Rattle.vale_object_cells.specs.Names.{AllKnown, Knows, value_of, values_in}
use Rattle.vale_object_cells.specs.declared.register.Register.{Register}
use Rattle.vale_object_cells.proofs.Holding.{same_cells}
use Rattle.vale_object_cells.proofs.Naming.{all_known_more, known_more, name_more, values_more}
use Rattle.vale_state_spec.specs.World.{Own as owner, Ref as reference, Iso as isolate}
use Rattle.vale_object_frames.specs.Frames.{AreKnown, active_of, emptying_of, frames_in}
use Rattle.vale_object_frames.specs.Stacks.{rest_of}
use Rattle.vale_object_frames.specs.declared.frame.Frame.{Frame}
use Rattle.vale_object_frames.specs.declared.frame.Frame.TheVariants as frame
use Rattle.vale_code.specs.Frames as meaning
use Rattle.vale_state_spec.specs.State.{drop_frame}
use Rattle.vale_code.specs.Kinds.{kind_text}

-- ---- names that are added

cell_more : (names more : List Place) (c : Cell) → Knows names (Some c) → value_of (names ++ more) c ≡ value_of names c
cell_more names more (Int z) k = refl
cell_more names more (Truth z) k = refl
cell_more names more (Text z) k = refl
cell_more names more (Own p) k = ap owner (name_more names more p (k p refl))
cell_more names more (Ref p) k = ap reference (name_more names more p (k p refl))
cell_more names more (Iso p) k = ap isolate (name_more names more p (k p refl))

pub rest_more : (names more : List Place) (cells : List Cell) → AllByRecursion (λ c. Knows names (Some c)) cells → map (value_of (names ++ more)) cells ≡ map (value_of names) cells
rest_more names more [] k = refl
rest_more names more (c ∷ cs) k =
    let one = cell_more names more c k.0 in
    let rest = rest_more names more cs k.1 in
    λ i. one i ∷ rest i

pub rest_known_more : (names more : List Place) (cells : List Cell) → AllByRecursion (λ c. Knows names (Some c)) cells → AllByRecursion (λ c. Knows (names ++ more) (Some c)) cells
rest_known_more names more [] k = tt
rest_known_more names more (c ∷ cs) k = ((λ p e. known_more names more p (k.0 p e)), rest_known_more names more cs k.1)

pub frames_more : (code : Parts) (names more : List Place) (fs : List Frame) (texts : List (List ℕ)) (row : List Register) → AreKnown names fs texts row → frames_in code (names ++ more) fs texts row ≡ frames_in code names fs texts row
frames_more code names more [] texts row k = refl
frames_more code names more (frame.Running a ∷ fs) texts row k =
    let one = values_more names more (cells_from a.base texts (drop a.base row)) k.0 in
    let rest = frames_more code names more fs texts (take a.base row) k.1 in
    λ i. meaning.Running (active_of code a (one i)) ∷ rest i
frames_more code names more (frame.Dropping l ∷ fs) texts row k =
    let one = rest_more names more (rest_of l) k.0 in
    let rest = frames_more code names more fs texts row k.1 in
    λ i. meaning.Dropping (record { call = drop_frame (kind_text code l.kind) l.at; rest = one i }) ∷ rest i

pub known_by_more : (names more : List Place) (fs : List Frame) (texts : List (List ℕ)) (row : List Register) → AreKnown names fs texts row → AreKnown (names ++ more) fs texts row
known_by_more names more [] texts row k = tt
known_by_more names more (frame.Running a ∷ fs) texts row k = (all_known_more names more (cells_from a.base texts (drop a.base row)) k.0, known_by_more names more fs texts (take a.base row) k.1)
known_by_more names more (frame.Dropping l ∷ fs) texts row k = (rest_known_more names more (rest_of l) k.0, known_by_more names more fs texts row k.1)

-- ---- texts of other registers

take_fewer : (n i : ℕ) (row : List Register) → i < length (take n row) → i < length row
take_fewer zero i [] lt = lt
take_fewer zero i (x ∷ xs) lt = absurd (omega (arith, lt))
take_fewer (suc n) i [] lt = lt
take_fewer (suc n) zero (x ∷ xs) lt = omega arith
take_fewer (suc n) (suc i) (x ∷ xs) lt = let h = take_fewer n i xs (omega (arith, lt)) in omega (arith, h)

pub own_same : (base : ℕ) (old new : List (List ℕ)) (row : List Register) → ((i : ℕ) → i < length row → text_at new i ≡ text_at old i) → cells_from base new (drop base row) ≡ cells_from base old (drop base row)
own_same base old new row same =
    same_cells (from_base base (text_at old)) (from_base base (text_at new)) (drop base row) (λ i lt. same (base + i) (let e = length-drop base row in omega (arith, lt, e)))

pub frames_same : (code : Parts) (names : List Place) (fs : List Frame) (old new : List (List ℕ)) (row : List Register) → ((i : ℕ) → i < length row → text_at new i ≡ text_at old i) → frames_in code names fs new row ≡ frames_in code names fs old row
frames_same code names [] old new row same = refl
frames_same code names (frame.Running a ∷ fs) old new row same =
    let one = own_same a.base old new row same in
    let rest = frames_same code names fs old new (take a.base row) (λ i lt. same i (take_fewer a.base i row lt)) in
    λ i. meaning.Running (active_of code a (values_in names (one i))) ∷ rest i
frames_same code names (frame.Dropping l ∷ fs) old new row same = ap (λ r. meaning.Dropping (emptying_of code names l) ∷ r) (frames_same code names fs old new row same)

pub known_same : (names : List Place) (fs : List Frame) (old new : List (List ℕ)) (row : List Register) → ((i : ℕ) → i < length row → text_at new i ≡ text_at old i) → AreKnown names fs old row → AreKnown names fs new row
known_same names [] old new row same k = tt
known_same names (frame.Running a ∷ fs) old new row same k = (
  subst (AllKnown names) (sym (own_same a.base old new row same)) k.0,
  known_same names fs old new (take a.base row) (λ i lt. same i (take_fewer a.base i row lt)) k.1,
)
known_same names (frame.Dropping l ∷ fs) old new row same k = (k.0, known_same names fs old new row same k.1)

-- ---- how many there are

pub as_many_calls : (code : Parts) (names : List Place) (fs : List Frame) (texts : List (List ℕ)) (row : List Register) → length (under (frames_in code names fs texts row)) ≡ length fs
as_many_calls code names [] texts row = refl
as_many_calls code names (frame.Running a ∷ fs) texts row = ap suc (as_many_calls code names fs texts (take a.base row))
as_many_calls code names (frame.Dropping l ∷ fs) texts row = ap suc (as_many_calls code names fs texts row)
