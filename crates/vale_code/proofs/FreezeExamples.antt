-- What freezes and isolates do, in short codes.
use Rattle.std.proofs.Common.{◌≡◌, ℕ, pos, List, [], ◌∷◌, ◌++◌, None, refl}
use Rattle.std.specs.Fmt.{digits}
use Rattle.std.specs.Prelude.{codes}
use Rattle.vale_state_spec.specs.Outcome.{Done, Wrong}
use Rattle.vale_state_spec.specs.State.{no_input}
use Rattle.vale_base.specs.declared.trap.TrapKind.TheVariants.{DeadReference}
use Rattle.vale_code.proofs.Codes.{at, kind, function, main_of, code_of, struct, line, piece, gives, in_main, trap}
use Rattle.vale_code.specs.Parts.{Parts}
use Rattle.vale_code.specs.Run.{run_code}
use Rattle.vale_code.specs.declared.func.Func.{Func}
use Rattle.vale_code.specs.declared.instr.Instr.{Instr}
use Rattle.vale_code.specs.declared.instr.Instr.TheVariants as i
use Rattle.vale_code.specs.declared.kind.KindInfo.TheVariants as k
use Rattle.vale_code.specs.declared.ty.Ty.TheVariants as t

-- code with the struct `S` of a number, of which 7 is in register 0
abbrev with_struct : List Func → List Instr → Parts
with_struct funcs body = code_of (struct None (t.Int ∷ []) ∷ k.Interface 1 [] ∷ []) [] (main_of (i.Int 0 (pos 7) ∷ body ++ i.RetVoid ∷ []) ∷ funcs)

abbrev prints_seven : List Func → List Instr → ℕ → ℕ → Type 0
prints_seven funcs body tick ticks = run_code (with_struct funcs body) no_input 20 ≡ gives (piece tick (line (codes "7")) ∷ []) Done ticks

abbrev is_dead : List Func → List Instr → ℕ → Type 0
is_dead funcs body ticks = run_code (with_struct funcs body) no_input 20 ≡ gives [] (trap DeadReference (at 7) in_main) ticks

-- ---- the three ends of a freeze

merged : prints_seven [] (i.Freeze (at 5) ∷ i.Make 1 (kind 0) (0 ∷ []) ∷ i.ThawMerge 2 1 ∷ i.LoadOwn 3 2 0 ∷ i.Print 3 1 ∷ i.Destroy 2 (at 9) ∷ []) 2 3
unfolding digits
merged = refl

-- no tick is spent, and no destructor is called
cleared : is_dead [] (i.Freeze (at 5) ∷ i.Make 1 (kind 0) (0 ∷ []) ∷ i.Borrow 2 1 ∷ i.ThawClear ∷ i.Load 3 2 0 (at 7) ∷ []) 2
cleared = refl

-- what was made before the freeze stays
stays : prints_seven [] (i.Make 1 (kind 0) (0 ∷ []) ∷ i.Freeze (at 5) ∷ i.ThawClear ∷ i.LoadOwn 2 1 0 ∷ i.Print 2 1 ∷ i.Destroy 1 (at 9) ∷ []) 2 3
unfolding digits
stays = refl

kept : prints_seven [] (i.Freeze (at 5) ∷ i.Make 1 (kind 0) (0 ∷ []) ∷ i.ThawKeep 2 1 ∷ i.Merge 3 2 ∷ i.LoadOwn 4 3 0 ∷ i.Print 4 1 ∷ i.Destroy 3 (at 9) ∷ []) 2 3
unfolding digits
kept = refl

-- an isolate outlives the freeze around it, what was merged doesn't
isolate_stays : prints_seven []
    (i.Freeze (at 5) ∷ i.Freeze (at 6) ∷ i.Make 1 (kind 0) (0 ∷ []) ∷ i.ThawKeep 2 1 ∷ i.ThawClear
    ∷ i.Merge 3 2 ∷ i.LoadOwn 4 3 0 ∷ i.Print 4 1 ∷ i.Destroy 3 (at 9) ∷ []) 2 3
unfolding digits
isolate_stays = refl

merged_into_a_freeze : is_dead []
    (i.Freeze (at 5) ∷ i.Freeze (at 6) ∷ i.Make 1 (kind 0) (0 ∷ []) ∷ i.ThawMerge 2 1 ∷ i.Borrow 3 2 ∷ i.ThawClear ∷ i.Load 4 3 0 (at 7) ∷ []) 2
merged_into_a_freeze = refl

-- ---- isolates

isolate_is_dropped : run_code (with_struct [] (i.Freeze (at 5) ∷ i.Make 1 (kind 0) (0 ∷ []) ∷ i.ThawKeep 2 1 ∷ i.Destroy 2 (at 9) ∷ [])) no_input 20 ≡ gives [] Done 3
isolate_is_dropped = refl

-- an isolate is read as frozen data
isolate_is_read : prints_seven []
    (i.Freeze (at 5) ∷ i.Make 1 (kind 0) (0 ∷ []) ∷ i.ThawKeep 2 1 ∷ i.Freeze (at 6) ∷ i.Frozen 3 2 ∷ i.LoadLive 4 3 0 ∷ i.Print 4 1 ∷ i.ThawClear ∷ i.Destroy 2 (at 9) ∷ []) 2 3
unfolding digits
isolate_is_read = refl

owner_is_no_isolate : run_code (with_struct [] (i.Make 1 (kind 0) (0 ∷ []) ∷ i.Merge 2 1 ∷ [])) no_input 20 ≡ gives [] Wrong 2
owner_is_no_isolate = refl

-- ---- pure functions

-- the argument gives a reference, and stays
reads : Func
reads = function 1 1 (t.Frozen (kind 0) ∷ []) t.Int 2 (i.LoadLive 1 0 0 ∷ i.Ret 1 ∷ [])

reads_purely : prints_seven (reads ∷ []) (i.Make 1 (kind 0) (0 ∷ []) ∷ i.Call 2 1 (1 ∷ []) (at 8) ∷ i.Print 2 1 ∷ i.Destroy 1 (at 9) ∷ []) 3 4
unfolding reads digits
reads_purely = refl

-- an owner that comes out is merged
makes : Func
makes = function 1 1 (t.Int ∷ []) (t.Own (kind 0)) 2 (i.Make 1 (kind 0) (0 ∷ []) ∷ i.Ret 1 ∷ [])

makes_purely : prints_seven (makes ∷ []) (i.Call 1 1 (0 ∷ []) (at 8) ∷ i.LoadOwn 2 1 0 ∷ i.Print 2 1 ∷ i.Destroy 1 (at 9) ∷ []) 3 4
unfolding makes digits
makes_purely = refl

-- what is left after is removed
leaves_behind : Func
leaves_behind = function 1 1 (t.Int ∷ []) (t.Ref (kind 0)) 3 (i.Make 1 (kind 0) (0 ∷ []) ∷ i.Borrow 2 1 ∷ i.Ret 2 ∷ [])

is_removed : is_dead (leaves_behind ∷ []) (i.Call 1 1 (0 ∷ []) (at 8) ∷ i.Load 2 1 0 (at 7) ∷ []) 3
unfolding leaves_behind
is_removed = refl

-- ---- views as interfaces

upcasts : prints_seven [] (i.Make 1 (kind 0) (0 ∷ []) ∷ i.Upcast 2 1 (kind 1) ∷ i.LoadOwn 3 2 0 ∷ i.Print 3 1 ∷ i.Destroy 2 (at 9) ∷ []) 2 3
unfolding digits
upcasts = refl

upcast_moves : run_code (with_struct [] (i.Make 1 (kind 0) (0 ∷ []) ∷ i.Upcast 2 1 (kind 1) ∷ i.Destroy 1 (at 9) ∷ [])) no_input 20 ≡ gives [] Wrong 2
upcast_moves = refl
