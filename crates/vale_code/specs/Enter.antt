-- How functions are entered and left.
use Rattle.std.specs.Prelude.{ℕ, zero, suc, List, Option, Some, None, slice_get}
use Rattle.vale_state_spec.specs.State.{State, freeze, freeze_iteration, thaw, thaw_iteration, end_of_pure, end_of_isolate, isolated}
use Rattle.vale_state_spec.specs.World.{Value}
use Rattle.vale_base.specs.declared.trap.FrameAt.{FrameAt}
use Rattle.vale_code.specs.Frames.{Frame, Running, Next, on, wrong, deeper, after_tick, leave}
use Rattle.vale_code.specs.Parts.{Parts}
use Rattle.vale_code.specs.Registers.{registers_for}
use Rattle.vale_code.specs.declared.func.Func.{Func}

-- what a function is: a plain or a pure one, the iterations of a parallel loop, or a destructor
pub data Form : Type 0 where
  Plain : Form
  Pure : Form
  Iteration : Form
  Destructor : Form

abbrev pub form_of : ℕ → Option Form
form_of zero = Some Plain
form_of (suc zero) = Some Pure
form_of (suc (suc zero)) = Some Iteration
form_of (suc (suc (suc zero))) = Some Destructor
form_of _ = None

-- how much the depth grows
abbrev pub weight : Form → ℕ
weight Pure = 2
weight _ = 1

-- the freeze that begins with a function
abbrev pub begun : Form → State → State
begun Pure s = freeze s
begun Iteration s = freeze_iteration s
begun _ s = s

-- the freeze that ends with it, by its value
abbrev pub ended : Form → Option Value → State → State
ended Pure v s = thaw (end_of_pure v) s
ended Iteration v s = thaw_iteration (end_of_isolate v) s
ended _ v s = s

-- the value that comes out of it
abbrev pub outgoing : Form → Option Value → Option Value
outgoing Iteration v = isolated v
outgoing _ v = v

abbrev pub with_form : Option Form → Func → State → (Form → Func → Next) → Next
with_form None func s go = wrong s
with_form (Some form) func s go = go form func

abbrev pub with_func : Option Func → State → (Form → Func → Next) → Next
with_func None s go = wrong s
with_func (Some func) s go = with_form (form_of func.form) func s go

-- a step with a function and its form
abbrev pub function : Parts → ℕ → State → (Form → Func → Next) → Next
function code f s go = with_func (slice_get code.funcs f) s go

-- A function is entered over the frames that go on after it: the depth allows it, and a tick is spent.
abbrev pub enter : ℕ → Form → Func → FrameAt → Option ℕ → List Value → List Frame → State → Next
enter f form func call dest args frames s =
    deeper (weight form) call.at frames s (after_tick s (λ t.
    on (Running (record { call = call; function = f; dest = dest; place = 0; registers = registers_for func.registers args })) frames (begun form t)))

-- these forms are called
abbrev pub if_called : Form → State → Next → Next
if_called Plain s go = go
if_called Pure s go = go
if_called _ s go = wrong s

abbrev pub if_iteration : Form → State → Next → Next
if_iteration Iteration s go = go
if_iteration _ s go = wrong s

abbrev pub if_destructor : Form → State → Next → Next
if_destructor Destructor s go = go
if_destructor _ s go = wrong s

-- a function of this form is left, with its value where it has one
abbrev pub leave_function : Form → Option ℕ → Option Value → List Frame → State → Next
leave_function form dest v below s = leave below dest (outgoing form v) (ended form v s)
