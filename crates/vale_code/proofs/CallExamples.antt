-- What calls do, in short codes.
use Rattle.std.proofs.Common.{◌≡◌, ℕ, pos, negsuc, List, [], ◌∷◌, ◌++◌, None, false, refl}
use Rattle.std.specs.Fmt.{digits}
use Rattle.std.specs.Prelude.{codes}
use Rattle.vale_state_spec.specs.Outcome.{Done, Cut, Wrong}
use Rattle.vale_state_spec.specs.State.{no_input, numbers, lines}
use Rattle.vale_base.specs.declared.trap.TrapKind.TheVariants.{DeadReference, Overflow}
use Rattle.vale_code.proofs.Codes.{at, kind, function, main_of, code_of, alone, with_f, struct, line, piece, gives, frame, in_main, trap}
use Rattle.vale_code.specs.Parts.{Parts}
use Rattle.vale_code.specs.Run.{run_code}
use Rattle.vale_code.specs.declared.func.Func.{Func}
use Rattle.vale_code.specs.declared.func.Impl.{Impl}
use Rattle.vale_code.specs.declared.instr.Instr.{Instr}
use Rattle.vale_code.specs.declared.instr.Instr.TheVariants as i
use Rattle.vale_code.specs.declared.kind.KindInfo.{KindInfo}
use Rattle.vale_code.specs.declared.kind.KindInfo.TheVariants as k
use Rattle.vale_code.specs.declared.ty.Ty.{Ty}
use Rattle.vale_code.specs.declared.ty.Ty.TheVariants as t

-- `f(x)` is x + 1
abbrev successor : Func
successor = function 1 0 (t.Int ∷ []) t.Int 3 (i.Int 1 (pos 1) ∷ i.Add 2 0 1 (at 20) ∷ i.Ret 2 ∷ [])

calls : run_code (with_f successor (i.Int 0 (pos 41) ∷ i.Call 3 1 (0 ∷ []) (at 9) ∷ i.Print 3 1 ∷ [])) no_input 10
    ≡ gives (piece 2 (line (codes "42")) ∷ []) Done 2
unfolding digits
calls = refl

-- a trap has the frames that are under way, the innermost first
traps_inside : run_code (with_f successor (i.Int 0 (pos 9223372036854775807) ∷ i.Call 3 1 (0 ∷ []) (at 9) ∷ [])) no_input 10
    ≡ gives [] (trap Overflow (at 20) (frame (codes "f") (at 9) ∷ in_main)) 2
traps_inside = refl

needs_a_tick : run_code (with_f successor (i.Int 0 (pos 1) ∷ i.Call 3 1 (0 ∷ []) (at 9) ∷ [])) no_input 1 ≡ gives [] Cut 1
needs_a_tick = refl

-- a void result is written nowhere
abbrev void : Func
void = function 1 0 [] t.Void 1 (i.RetVoid ∷ [])

writes_nothing : run_code (with_f void (i.Int 0 (pos 5) ∷ i.Call 0 1 [] (at 9) ∷ i.Print 0 1 ∷ [])) no_input 10
    ≡ gives (piece 2 (line (codes "5")) ∷ []) Done 2
unfolding digits
writes_nothing = refl

too_many_arguments : run_code (with_f void (i.Int 0 (pos 5) ∷ i.Call 0 1 (0 ∷ []) (at 9) ∷ [])) no_input 10 ≡ gives [] Wrong 1
too_many_arguments = refl

-- `f` calls itself until the ticks are at their end
abbrev forever : Func
forever = function 1 0 [] t.Void 1 (i.Call 0 1 [] (at 30) ∷ i.RetVoid ∷ [])

calls_itself : run_code (with_f forever (i.Call 0 1 [] (at 9) ∷ [])) no_input 6 ≡ gives [] Cut 6
calls_itself = refl

-- ---- methods: an interface of one method, and a struct

abbrev kinds : List KindInfo
kinds = struct None (t.Int ∷ []) ∷ k.Interface 1 (record { name = 1; is_pure = false; params = t.Ref (kind 1) ∷ t.Int ∷ []; result = t.Int } ∷ []) ∷ []

abbrev impl : Impl
impl = record { interface = kind 1; of = kind 0; funcs = 1 ∷ [] }

-- the field and a number
abbrev method : ℕ → Ty → Func
method form self = function 2 form (self ∷ t.Int ∷ []) t.Int 4 (i.Load 2 0 0 (at 30) ∷ i.Add 3 2 1 (at 31) ∷ i.Ret 3 ∷ [])

abbrev with_method : Func → List Instr → Parts
with_method m body = code_of kinds (impl ∷ []) (main_of (i.Int 0 (pos 5) ∷ i.Make 1 (kind 0) (0 ∷ []) ∷ i.Borrow 2 1 ∷ i.Upcast 3 2 (kind 1) ∷ body ++ i.RetVoid ∷ []) ∷ m ∷ [])

dispatches : run_code (with_method (method 0 (t.Ref (kind 0))) (i.CallM 4 1 0 3 (0 ∷ []) (at 9) ∷ i.Print 4 1 ∷ i.Destroy 1 (at 10) ∷ [])) no_input 10
    ≡ gives (piece 3 (line (codes "10")) ∷ []) Done 4
unfolding digits
dispatches = refl

dispatches_elided : run_code (with_method (method 0 (t.Ref (kind 0))) (i.CallMLive 4 1 0 3 (0 ∷ []) (at 9) ∷ i.Print 4 1 ∷ i.Destroy 1 (at 10) ∷ [])) no_input 10
    ≡ gives (piece 3 (line (codes "10")) ∷ []) Done 4
unfolding digits
dispatches_elided = refl

dispatches_on_the_dead : run_code (with_method (method 0 (t.Ref (kind 0))) (i.Destroy 1 (at 8) ∷ i.CallM 4 1 0 3 (0 ∷ []) (at 9) ∷ [])) no_input 10
    ≡ gives [] (trap DeadReference (at 9) in_main) 3
dispatches_on_the_dead = refl

dispatches_elided_on_the_dead : run_code (with_method (method 0 (t.Ref (kind 0))) (i.Destroy 1 (at 8) ∷ i.CallMLive 4 1 0 3 (0 ∷ []) (at 9) ∷ [])) no_input 10
    ≡ gives [] Wrong 3
dispatches_elided_on_the_dead = refl

-- a pure method gets a reference into frozen data, of the owner too
dispatches_purely : run_code (with_method (method 1 (t.Frozen (kind 0))) (i.CallM 4 1 0 1 (0 ∷ []) (at 9) ∷ i.Print 4 1 ∷ i.Destroy 1 (at 10) ∷ [])) no_input 10
    ≡ gives (piece 3 (line (codes "10")) ∷ []) Done 4
unfolding digits
dispatches_purely = refl

-- ---- the input

abbrev with_input : Ty → KindInfo → List Instr → Parts
with_input param array body = code_of (array ∷ []) [] (function 0 0 (param ∷ []) t.Void 8 (body ++ i.Destroy 0 (at 9) ∷ i.RetVoid ∷ []) ∷ [])

counts_its_input : run_code (with_input (t.Own (kind 0)) (k.Array t.Int) (i.Borrow 1 0 ∷ i.Len 2 1 (at 8) ∷ i.Print 2 1 ∷ [])) (numbers (pos 1 ∷ negsuc 1 ∷ [])) 10
    ≡ gives (piece 2 (line (codes "2")) ∷ []) Done 3
unfolding digits
counts_its_input = refl

prints_its_input : run_code (with_input (t.Own (kind 0)) (k.Array t.Text) (i.Int 1 (pos 0) ∷ i.ElemOwn 2 0 1 (at 8) ∷ i.Print 2 1 ∷ [])) (lines (codes "ab" ∷ [])) 10
    ≡ gives (piece 2 (line (codes "ab")) ∷ []) Done 3
prints_its_input = refl

takes_no_input : run_code (alone []) (numbers []) 10 ≡ gives [] Wrong 0
takes_no_input = refl
