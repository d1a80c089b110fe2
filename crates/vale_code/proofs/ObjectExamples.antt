-- What the instructions on objects do, in short codes.
use Rattle.std.proofs.Common.{◌≡◌, ℕ, pos, List, [], ◌∷◌, ◌++◌, Option, Some, None, refl}
use Rattle.std.specs.Fmt.{digits}
use Rattle.std.specs.Prelude.{codes}
use Rattle.vale_state_spec.specs.Outcome.{Done, Cut, Wrong}
use Rattle.vale_state_spec.specs.State.{no_input}
use Rattle.vale_base.specs.declared.trap.TrapKind.TheVariants.{DeadReference}
use Rattle.vale_code.proofs.Codes.{at, kind, function, main_of, code_of, field, struct, line, piece, gives, frame, in_main, trap}
use Rattle.vale_code.specs.Parts.{Parts}
use Rattle.vale_code.specs.Run.{run_code}
use Rattle.vale_code.specs.declared.func.Func.{Func}
use Rattle.vale_code.specs.declared.instr.Instr.{Instr}
use Rattle.vale_code.specs.declared.instr.Instr.TheVariants as i
use Rattle.vale_code.specs.declared.kind.KindInfo.TheVariants as k
use Rattle.vale_code.specs.declared.ty.Ty.TheVariants as t

-- an object of `S` with the number 7 in register 1, and a reference to it in register 2
abbrev of_object : Option ℕ → List Func → List Instr → Parts
of_object destructor funcs body = code_of (struct destructor (t.Int ∷ []) ∷ []) []
    (main_of (i.Int 0 (pos 7) ∷ i.Make 1 (kind 0) (0 ∷ []) ∷ i.Borrow 2 1 ∷ body ++ i.RetVoid ∷ []) ∷ funcs)

abbrev plain : List Instr → Parts
plain body = of_object None [] body

loads : run_code (plain (i.Load 3 2 0 (at 7) ∷ i.Print 3 1 ∷ i.LoadLive 3 2 0 ∷ i.Print 3 1 ∷ i.LoadOwn 3 1 0 ∷ i.Print 3 1 ∷ i.Destroy 1 (at 9) ∷ [])) no_input 10
    ≡ gives (piece 2 (line (codes "7")) ∷ piece 2 (line (codes "7")) ∷ piece 2 (line (codes "7")) ∷ []) Done 3
unfolding digits
loads = refl

loads_dead : run_code (plain (i.Destroy 1 (at 6) ∷ i.Load 3 2 0 (at 7) ∷ [])) no_input 10 ≡ gives [] (trap DeadReference (at 7) in_main) 3
loads_dead = refl

loads_dead_elided : run_code (plain (i.Destroy 1 (at 6) ∷ i.LoadLive 3 2 0 ∷ [])) no_input 10 ≡ gives [] Wrong 3
loads_dead_elided = refl

loads_through_a_reference_only : run_code (plain (i.LoadOwn 3 2 0 ∷ [])) no_input 10 ≡ gives [] Wrong 2
loads_through_a_reference_only = refl

-- the old value comes out
swaps : run_code (plain (i.Int 3 (pos 8) ∷ i.Swap 4 2 0 3 (at 7) ∷ i.Print 4 1 ∷ i.Int 3 (pos 9) ∷ i.SwapOwn 4 1 0 3 ∷ i.Print 4 1 ∷ i.Load 4 2 0 (at 8) ∷ i.Print 4 1 ∷ i.Destroy 1 (at 9) ∷ [])) no_input 10
    ≡ gives (piece 2 (line (codes "7")) ∷ piece 2 (line (codes "8")) ∷ piece 2 (line (codes "9")) ∷ []) Done 3
unfolding digits
swaps = refl

swaps_dead : run_code (plain (i.Destroy 1 (at 6) ∷ i.Swap 4 2 0 0 (at 7) ∷ [])) no_input 10 ≡ gives [] (trap DeadReference (at 7) in_main) 3
swaps_dead = refl

-- an owner leaves its register, and a dead name never comes back
moves : run_code (plain (i.Move 3 1 ∷ i.Destroy 3 (at 6) ∷ i.Make 1 (kind 0) (0 ∷ []) ∷ i.Load 4 2 0 (at 7) ∷ [])) no_input 10
    ≡ gives [] (trap DeadReference (at 7) in_main) 4
moves = refl

owners_are_not_copied : run_code (plain (i.Copy 3 1 ∷ [])) no_input 10 ≡ gives [] Wrong 2
owners_are_not_copied = refl

is_empty_after : run_code (plain (i.Move 3 1 ∷ i.Destroy 1 (at 6) ∷ [])) no_input 10 ≡ gives [] Wrong 2
is_empty_after = refl

opens : run_code (plain (i.Open (3 ∷ []) 1 ∷ i.Print 3 1 ∷ i.Load 3 2 0 (at 7) ∷ [])) no_input 10
    ≡ gives (piece 3 (line (codes "7")) ∷ []) (trap DeadReference (at 7) in_main) 3
unfolding digits
opens = refl

wants_all_fields : run_code (plain (i.Make 1 (kind 0) [] ∷ [])) no_input 10 ≡ gives [] Wrong 2
wants_all_fields = refl

-- ---- destruction

-- prints its field and takes itself apart
abbrev destructor : Func
destructor = function 1 3 (t.Own (kind 0) ∷ []) t.Void 2 (i.Open (1 ∷ []) 0 ∷ i.Print 1 1 ∷ i.RetVoid ∷ [])

is_destroyed : run_code (of_object (Some 1) (destructor ∷ []) (i.Destroy 1 (at 6) ∷ [])) no_input 10 ≡ gives (piece 4 (line (codes "7")) ∷ []) Done 4
unfolding digits
is_destroyed = refl

is_cut_before_the_death : run_code (of_object (Some 1) (destructor ∷ []) (i.Destroy 1 (at 6) ∷ [])) no_input 3 ≡ gives [] Cut 3
is_cut_before_the_death = refl

-- Objects of `Parent` hold an array of objects of `Child`, which hold a reference to the parent; the destructor of a child looks at
-- its dead parent.
abbrev family : Parts
family = record {
  texts = codes "main" ∷ codes "Parent" ∷ codes "Child" ∷ codes "drop" ∷ [];
  kinds = k.Struct 1 None (field (t.Own (kind 2)) ∷ [])
      ∷ k.Struct 2 (Some 1) (field (t.Ref (kind 0)) ∷ [])
      ∷ k.Array (t.Own (kind 1)) ∷ [];
  impls = [];
  funcs = function 0 0 [] t.Void 8
      (i.Make 0 (kind 2) [] ∷ i.Make 1 (kind 0) (0 ∷ [])
      ∷ i.LoadOwn 2 1 0 ∷ i.Borrow 3 1 ∷ i.Make 4 (kind 1) (3 ∷ []) ∷ i.Push 2 4 (at 5)
      ∷ i.Destroy 1 (at 10) ∷ i.RetVoid ∷ [])
      ∷ function 3 3 (t.Own (kind 1) ∷ []) t.Void 4
      (i.LoadOwn 1 0 0 ∷ i.Load 2 1 0 (at 18) ∷ i.Open (3 ∷ []) 0 ∷ i.RetVoid ∷ [])
      ∷ [];
  main = 0;
}

looks_at_the_dead : run_code family no_input 20
    ≡ gives [] (trap DeadReference (at 18)
    (frame (codes "drop Child") (at 10) ∷ frame (codes "drop []Child") (at 10) ∷ frame (codes "drop Parent") (at 10) ∷ in_main)) 7
looks_at_the_dead = refl
