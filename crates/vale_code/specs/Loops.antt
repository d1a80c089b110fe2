-- Parallel loops: their iterations run one after another, each in a region of its own.
use Rattle.std.specs.Prelude.{ℕ, ◌+◌, List, [], ◌∷◌, Option, Some, None, Bool, true, false}
use Rattle.vale_state_spec.specs.State.{State, born, alone, loop_counted, is_outermost, iteration_frame}
use Rattle.vale_state_spec.specs.World.{Value, Own, next_name}
use Rattle.vale_base.specs.declared.name.Kind.{Kind}
use Rattle.vale_code.specs.Enter.{function, enter, if_iteration}
use Rattle.vale_code.specs.Frames.{Frame, Looping, Alone, Iterating, Item, Config, Next, On, Over, on, wrong, after_tick, leave, next_item, all_items}
use Rattle.vale_code.specs.Kinds.{array_of, element_type}
use Rattle.vale_code.specs.Parts.{Parts}
use Rattle.vale_code.specs.declared.ty.Ty.{Ty}

-- iteration k of a loop begins with its item, over these frames
abbrev pub iterate : Parts → Iterating → ℕ → Value → List Frame → State → Next
iterate code f k item frames s =
    function code f.function s (λ form func.
    if_iteration form s (enter f.function form func (iteration_frame k f.at) (Some 0) (item ∷ f.captured) frames s))

abbrev pub array_made : Option Kind → Iterating → List Frame → State → Next
array_made None f below s = wrong s
array_made (Some kind) f below s = after_tick s (λ t. leave below f.dest (Some (Own (next_name t.world))) (born kind f.done t))

-- the values of the iterations become an array, where they have some
abbrev pub gathered : Parts → Option Ty → Iterating → List Frame → State → Next
gathered code None f below s = leave below None None s
gathered code (Some item) f below s = array_made (array_of code item) f below s

abbrev pub loop_over : Parts → Iterating → List Frame → State → Next
loop_over code f below s = function code f.function s (λ form func. gathered code (element_type func.result) f below (record s { quiet = f.quiet }))

abbrev pub loop_goes_on : Parts → Option Item → Iterating → List Frame → State → Next
loop_goes_on code None f below s = loop_over code f below s
loop_goes_on code (Some item) f below s = iterate code f f.next item.first (Looping (record f { items = item.rest; next = f.next + 1 }) ∷ below) s

-- the next iteration of a loop, or its end
abbrev pub loop_next : Parts → Iterating → List Frame → State → Next
loop_next code f below s = loop_goes_on code (next_item f.items) f below s

-- ---- each iteration by itself

-- the state at the end of what a step leads to, where this is the state at the end of a configuration
abbrev pub state_after : (Config → State) → Next → State
state_after last (On c) = last c
state_after last (Over end v s) = s

abbrev pub alone_after : Parts → (Config → State) → Iterating → List Frame → State → ℕ → List Value → List State
alone_after code last f below s k [] = []
alone_after code last f below s k (item ∷ items) =
    state_after last (iterate code f k item (Alone None ∷ below) (alone s)) ∷ alone_after code last f below s (k + 1) items

abbrev pub counted_from : Bool → Parts → (Config → State) → Iterating → List Frame → State → State
counted_from true code last f below s = loop_counted (alone_after code last f below s 0 (all_items f.items)) s
counted_from false code last f below s = s

-- A loop begins over the frames that go on after it. One that is no part of an iteration counts what each of its iterations
-- makes by itself from here on.
abbrev pub loop_begins : Parts → (Config → State) → Iterating → List Frame → State → Next
loop_begins code last f frames s = on (Looping f) frames (counted_from (is_outermost s) code last f frames s)
