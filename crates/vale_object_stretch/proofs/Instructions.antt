-- What an instruction of a sound run has: a rule, a place, and no root that it takes apart.
use Rattle.std.proofs.Common.{◌≡◌, ℕ, zero, suc, ◌<◌, List, [], ◌∷◌, length, Option, Some, None, refl, sym, ap, ◌∙◌, subst, arith}
use Rattle.std.specs.Prelude.{Bool, slice_get}
use Rattle.vale_state_spec.specs.State.{State, dies, object_of}
use Rattle.vale_state_spec.specs.World.{Own}
use Rattle.vale_code.specs.Act.{act, act_if}
use Rattle.vale_code.specs.Frames.{Config, Next, after_tick}
use Rattle.vale_code.specs.Instructions.{fetch, instruction_in, onward, with_choice, with_owner, with_registers}
use Rattle.vale_code.specs.Parts.{Parts}
use Rattle.vale_code.specs.Registers.{put, put_all, read}
use Rattle.vale_code.specs.Run.{last_state, step}
use Rattle.vale_code.specs.declared.func.Func.{Func}
use Rattle.vale_code.specs.declared.instr.Instr.{Instr}
use Rattle.vale_code.specs.declared.instr.Instr.TheVariants as i
use Rattle.vale_heap.specs.HeapState.{HeapState, IsRoot}
use Rattle.vale_heap.specs.declared.body.Cell.{Cell}
use Rattle.vale_heap.specs.declared.body.Cell.TheVariants as cell
use Rattle.vale_heap.specs.declared.body.Place.{Place}
use Rattle.vale_heap.proofs.NameLaws.{no_root_law}
use Rattle.vale_turn.specs.View.{IsBody, IsRight}
use Rattle.vale_turn.proofs.Stretching.{fetched}
use Rattle.vale_object_cells.specs.Cells.{held, place_in}
use Rattle.vale_object_cells.specs.Names.{name_at, value_in, values_in}
use Rattle.vale_object_cells.proofs.Naming.{read_values}
use Rattle.vale_object_steps.specs.Views.{View, nobody}
use Rattle.vale_object_turn.specs.Steps.{Scene, active, config, next_of}
use Rattle.vale_object_within.specs.Within.{FitsOpened, HasRuleWithin}
use Rattle.vale_object_stretch.specs.Sound.{IsGood, ended_by}
use Rattle.vale_object_stretch.specs.Stretch.{IsUnderWay}

index_within : (xs : List Instr) (n : ℕ) (x : Instr) → slice_get xs n ≡ Some x → n < length xs
index_within [] n x e = absurd (let y : ⊥ = cc in y)
index_within (z ∷ zs) zero x e = omega arith
index_within (z ∷ zs) (suc n) x e = let h = index_within zs n x e in omega (arith, h)

module _ (code : Parts) (function : ℕ) (out : ℕ → Bool) (floors : ℕ → ℕ) (s : Scene) (v : View) (heap : HeapState) (cells : List (Option Cell)) (place left : ℕ) (u : IsUnderWay code function out floors s v heap cells place left) where
  abbrev here : Config
  here = config s v place cells

  pub good : IsGood code here
  good = u.sound 0 here refl

  abbrev goes : Option Instr → Next
  goes o = act_if code (last_state code) (active s v place cells) s.below v.state o

  -- a step that has a rule is of an instruction
  some_instr : (o : Option Instr) → IsRight (goes o) → (instr : Instr) × (o ≡ Some instr)
  some_instr None r = absurd r
  some_instr (Some instr) r = (instr, refl)

  pub place_within : (func : Func) → slice_get code.funcs function ≡ Some func → place < length func.body
  place_within func found =
      let h = some_instr (fetch code s.function place) good.right in
      index_within func.body place h.0 (sym (ap (λ o. instruction_in o place) found) ∙ ap (λ g. fetch code g place) (sym u.of_function) ∙ h.1)

  module _ (func : Func) (body : List Instr) (instr : Instr) (found : slice_get code.funcs function ≡ Some func) (is : func.body ≡ body) (at : slice_get body place ≡ Some instr) where
    pub is_fetched : fetch code function place ≡ Some instr
    is_fetched = fetched code function place func instr found (ap (λ b. slice_get b place) is ∙ at)

    pub is_here : fetch code s.function place ≡ Some instr
    is_here = ap (λ g. fetch code g place) u.of_function ∙ is_fetched

    -- the step of the code's meaning is what the instruction leads to
    pub step_is : step code here ≡ next_of s v place cells instr
    step_is =
        ap goes is_here
        ∙ ap (λ (c : Parts). act c (last_state code) (active s v place cells) s.below v.state instr) (sym u.of_code)
        ∙ ap (λ (l : Config → State). act s.code l (active s v place cells) s.below v.state instr) (sym u.by_last)

    pub is_right : IsRight (next_of s v place cells instr)
    is_right = subst IsRight step_is good.right

    pub is_body : IsBody s.code s.function body
    is_body = record {
      func = func;
      found = ap (λ (c : Parts). slice_get c.funcs s.function) u.of_code ∙ (ap (λ g. slice_get code.funcs g) u.of_function ∙ found);
      is = is;
    }

    pub rule_within : HasRuleWithin code body heap cells place left instr
    rule_within = record { rule = record { scene = s; view = v; runs = u.runs; right = is_right }; of_code = u.of_code; is_body = is_body }

-- ---- what is taken apart

-- what an owner's step needs of a register
owner_held : (names : List Place) (c : Option Cell) (p : Place) (s : State) (go : ℕ → Next) → IsRight (with_owner (value_in names c) s go) → place_in c ≡ Some p → c ≡ Some (cell.Own p)
owner_held names (Some (cell.Own q)) p s go r e = ap (λ x. Some (cell.Own x)) (let same : q ≡ p = cc in same)
owner_held names None p s go r e = absurd r
owner_held names (Some (cell.Int z)) p s go r e = absurd r
owner_held names (Some (cell.Truth z)) p s go r e = absurd r
owner_held names (Some (cell.Text z)) p s go r e = absurd r
owner_held names (Some (cell.Ref z)) p s go r e = absurd r
owner_held names (Some (cell.Iso z)) p s go r e = absurd r

module _ (code : Parts) (function : ℕ) (out : ℕ → Bool) (floors : ℕ → ℕ) (s : Scene) (v : View) (heap : HeapState) (cells : List (Option Cell)) (place left : ℕ) (u : IsUnderWay code function out floors s v heap cells place left) where
  -- what is left to do, once the owner is known
  abbrev opening : List ℕ → ℕ → ℕ → Next
  opening to a n =
      with_choice (object_of n v.state) v.state (λ o.
      with_registers (put_all to o.values (put (values_in v.names cells) a None)) v.state (λ regs. after_tick v.state (λ t. onward (active s v place cells) regs s.below (dies n t))))

  no_root : (to : List ℕ) (a : ℕ) → fetch code s.function place ≡ Some (i.Open to a) → IsRight (next_of s v place cells (i.Open to a)) → (p : Place) → place_in (held cells a) ≡ Some p → IsRoot heap p → ⊥
  no_root to a fetched right p at root =
      let names = v.names in
      let e = owner_held names (held cells a) p v.state (opening to a) (subst (λ o. IsRight (with_owner o v.state (opening to a))) (read_values names cells a) right) at in
      let own : read (values_in names cells) a ≡ Some (Own (name_at names p)) = read_values names cells a ∙ ap (value_in names) e in
      no_root_law heap None v.low nobody names v.state.world (name_at names p) p u.runs.agrees.stands (u.runs.agrees.known a p at)
      (λ o lives. (u.sound 0 (config s v place cells) refl).no_root (name_at names p) o (a, ap ended_by fetched, own) lives) root

  pub fits_opened : (instr : Instr) → fetch code s.function place ≡ Some instr → IsRight (next_of s v place cells instr) → FitsOpened heap cells instr
  fits_opened (i.Open to a) fetched right = no_root to a fetched right
  fits_opened _ fetched right = tt
