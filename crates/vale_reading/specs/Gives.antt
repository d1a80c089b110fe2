-- How what a function returns stands to what reading gives.
use Rattle.std.specs.Prelude.{◌≡◌, List, Result, Ok, Err}
use Rattle.vale_syntax.specs.declared.token.Token.{Token}
use Rattle.vale_reading.specs.declared.stop.Stop.{Stop}
use Rattle.vale_reading.specs.declared.stop.Stop.TheVariants as stop
use Rattle.vale_reading.specs.declared.stop.Turn.{Turn}
use Rattle.vale_reading.specs.declared.stop.Turn.TheVariants.{More, End}
use Rattle.vale_reading.specs.Steps.{Fault, unexpected, too_deep}

-- The fault is that of reading, unless memory ran out.
abbrev pub Fails : {Y : Type 0} → Stop → Result Y Fault → Type 0
Fails stop.Memory read = Unit {0}
Fails (stop.Unexpected ts) read = read ≡ Err (unexpected ts.now)
Fails (stop.TooDeep ts) read = read ≡ Err (too_deep ts.now)

-- What a function returned, seen by view, is what reading gives, unless memory ran out.
abbrev pub Gives : {X Y : Type 0} → (X → Y) → Result X Stop → Result Y Fault → Type 0
Gives view (Ok x) read = read ≡ Ok (view x)
Gives view (Err e) read = Fails e read

abbrev pub IsTooDeep : Stop → List Token → Type 0
IsTooDeep stop.Memory here = ⊥
IsTooDeep (stop.Unexpected ts) here = ⊥
IsTooDeep (stop.TooDeep ts) here = ts.now ≡ here

-- a turn, its parts seen by their views
abbrev pub turned : {X Y E F : Type 0} → (X → Y) → (E → F) → Turn X E → Turn Y F
turned v w (More x) = More (v x)
turned v w (End e) = End (w e)
