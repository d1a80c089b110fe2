-- A stretch of steps within one function.
use Rattle.std.proofs.Common.{◌≡◌, ℕ, zero, suc, ◌<◌, ◌≤◌, List, [], ◌∷◌, length, Option, Some, None, refl, sym, ap, ◌∙◌, subst, arith}
use Rattle.std.specs.Prelude.{slice_get}
use Rattle.vale_state_spec.specs.Outcome.{Wrong}
use Rattle.vale_state_spec.specs.State.{begin, main_frame}
use Rattle.vale_code.specs.Act.{act_if}
use Rattle.vale_code.specs.Frames.{Config, Next, On, Over}
use Rattle.vale_code.specs.Fuel.{fuel}
use Rattle.vale_code.specs.Instructions.{fetch, instruction_in}
use Rattle.vale_code.specs.Parts.{Parts}
use Rattle.vale_code.specs.Run.{go_on, last_state, step, steps}
use Rattle.vale_code.specs.declared.func.Func.{Func}
use Rattle.vale_code.specs.declared.instr.Instr.{Instr}
use Rattle.vale_code.proofs.Ends.{step_less}
use Rattle.vale_turn.specs.View.{EndsBy, HasRule, IfStopped, Leaving, IsRight, IsSafe, Leads, Obeyed, OnceBy, Scene, active, config, next_of, state_at}
use Rattle.vale_turn.specs.declared.stop.Stop.{Stop}
use Rattle.vale_turn.specs.declared.stop.Stop.TheVariants as stop
use Rattle.vale_registers.specs.declared.cell.Cell.{Cell}

-- ---- what is fetched

pub fetched : (code : Parts) (function place : ℕ) (func : Func) (instr : Instr) → slice_get code.funcs function ≡ Some func → slice_get func.body place ≡ Some instr → fetch code function place ≡ Some instr
fetched code function place func instr found e = ap (λ o. instruction_in o place) found ∙ e

module _ (code : Parts) (function : ℕ) (s : Scene) (place : ℕ) (cells : List Cell) (left : ℕ) where
  abbrev here : Config
  here = config function s place cells left

  abbrev goes : Option Instr → Next
  goes o = act_if code (last_state code) (active function s place cells) s.below (state_at s left) o

  pub step_is : (instr : Instr) → fetch code function place ≡ Some instr → step code here ≡ next_of code function s place cells left instr
  step_is instr e = ap goes e

  pub right : (c : Config) → IsSafe code c → IsRight (step code c)
  right c safe = at (step code c) refl
    where
      at : (x : Next) → step code c ≡ x → IsRight x
      at (On d) e = tt
      at (Over Wrong v t) e = safe 1 v t (ap (λ y. go_on y (steps code 0)) e)
      at (Over _ v t) e = tt

  -- a step that has a rule is of an instruction
  some_instr : (o : Option Instr) → IsRight (goes o) → (instr : Instr) × (o ≡ Some instr)
  some_instr None r = absurd r
  some_instr (Some instr) r = (instr, refl)

  index_within : (xs : List Instr) (n : ℕ) (x : Instr) → slice_get xs n ≡ Some x → n < length xs
  index_within [] n x e = absurd (let y : ⊥ = cc in y)
  index_within (z ∷ zs) zero x e = omega arith
  index_within (z ∷ zs) (suc n) x e = let h = index_within zs n x e in omega (arith, h)

  pub place_within : (func : Func) → slice_get code.funcs function ≡ Some func → IsSafe code here → place < length func.body
  place_within func found safe =
      let i = some_instr (fetch code function place) (right here safe) in
      index_within func.body place i.0 (sym (ap (λ o. instruction_in o place) found) ∙ i.1)

  pub rule_of : (func : Func) (body : List Instr) (instr : Instr) → slice_get code.funcs function ≡ Some func → func.body ≡ body → slice_get body place ≡ Some instr → left ≤ s.given → IsSafe code here → HasRule body place cells left instr
  rule_of func body instr found is e few safe = record {
    code = code;
    function = function;
    scene = s;
    is_body = record { func = func; found = found; is = is };
    ticks = few;
    right = subst IsRight (step_is instr (fetched code function place func instr found (ap (λ b. slice_get b place) is ∙ e))) (right here safe);
  }

-- ---- going on

pub safe_on : (code : Parts) (c d : Config) → step code c ≡ On d → IsSafe code c → IsSafe code d
safe_on code c d e safe = λ n v t h. safe (suc n) v t (ap (λ x. go_on x (steps code n)) e ∙ h)

by_step : (code : Parts) (n : ℕ) (c d e : Config) → ((b : Config) → steps code n b ≡ On d → steps code (suc n) b ≡ On e) → (x : Next) → step code c ≡ x → go_on (step code c) (steps code n) ≡ On d → go_on (step code c) (steps code (suc n)) ≡ On e
by_step code n c d e more (On b) q w = ap (λ x. go_on x (steps code (suc n))) q ∙ more b (sym (ap (λ x. go_on x (steps code n)) q) ∙ w)
by_step code n c d e more (Over end v t) q w = absurd (let y : Over end v t ≡ On d = sym (ap (λ x. go_on x (steps code n)) q) ∙ w in let z : ⊥ = cc in z)

steps_last : (code : Parts) (n : ℕ) (c d e : Config) → steps code n c ≡ On d → step code d ≡ On e → steps code (suc n) c ≡ On e
steps_last code zero c d e h k = let same : c ≡ d = cc in ap (λ x. go_on (step code x) (steps code 0)) same ∙ ap (λ x. go_on x (steps code 0)) k
steps_last code (suc n) c d e h k = by_step code n c d e (λ b w. steps_last code n b d e w k) (step code c) refl h

pub leads_here : (code : Parts) (c : Config) → Leads code c c
leads_here code c = record { count = 0; on = refl }

pub leads_on : (code : Parts) (c d e : Config) → Leads code c d → step code d ≡ On e → Leads code c e
leads_on code c d e l k = record { count = suc l.count; on = steps_last code l.count c d e l.on k }

-- ---- the measure

-- around a function of which nothing else is known
abbrev pub bare : ℕ → Scene
bare given = record { call = main_frame; dest = None; below = []; state = begin 0; given = given; text = λ i. [] }

abbrev Less : Parts → ℕ → Next → Type 0
Less code b (On c) = fuel code c < b
Less code b (Over end v s) = Unit {0}

pub less_fuel : (code : Parts) (c d : Config) → step code c ≡ On d → fuel code d < fuel code c
less_fuel code c d e = subst (λ y. Less code (fuel code c) y) e (step_less code (last_state code) c).less

-- ---- where the stretch ends

pub stopped : {P : Type 0} → (t : Stop) → (t ≡ stop.Going → ⊥) → IfStopped t P → P
stopped stop.Going n h = absurd (n refl)
stopped _ n h = h

pub same_config : (function : ℕ) (s : Scene) (p q : ℕ) (cs ds : List Cell) (l k : ℕ) → p ≡ q → cs ≡ ds → l ≡ k → config function s p cs l ≡ config function s q ds k
same_config function s p q cs ds l k e h j = λ i. config function s (e i) (h i) (j i)

pub ends_by : (code : Parts) (function : ℕ) (s : Scene) (t : Stop) (place : ℕ) (cells : List Cell) (left : ℕ) (p : ℕ) (cs : List Cell) (l : ℕ) (instr : Instr) → (t ≡ stop.Going → ⊥)
    → fetch code function place ≡ Some instr → Obeyed function s t (next_of code function s place cells left instr) p cs l → Leaving t instr → p ≡ place → cs ≡ cells → l ≡ left → EndsBy code function s t p cs l
ends_by code function s stop.Going place cells left p cs l instr n e h k a b d = n refl
ends_by code function s stop.Aside place cells left p cs l instr n e h k a b d = (instr, ap (fetch code function) a ∙ e, k)
ends_by code function s stop.Enters place cells left p cs l instr n e h k a b d = (instr, ap (fetch code function) a ∙ e, k)
ends_by code function s (stop.Leaves (Some from)) place cells left p cs l instr n e h k a b d = ap (fetch code function) a ∙ e ∙ ap Some k
ends_by code function s (stop.Leaves None) place cells left p cs l instr n e h k a b d = ap (fetch code function) a ∙ e ∙ ap Some k
ends_by code function s (stop.Trap kind at) place cells left p cs l instr n e h k a b d = ap (step code) (same_config function s p place cs cells l left a b d) ∙ step_is code function s place cells left instr e ∙ h
ends_by code function s stop.Cut place cells left p cs l instr n e h k a b d = ap (step code) (same_config function s p place cs cells l left a b d) ∙ step_is code function s place cells left instr e ∙ h

pub once_by : (code : Parts) (function : ℕ) (s : Scene) (t : Stop) (place : ℕ) (cells : List Cell) (left : ℕ) (p : ℕ) (cs : List Cell) (l : ℕ) (instr : Instr)
    → fetch code function place ≡ Some instr → Obeyed function s t (next_of code function s place cells left instr) p cs l → Leaving t instr → IfStopped t ((p ≡ place) × (cs ≡ cells) × (l ≡ left)) → OnceBy code function s t (config function s place cells left) p cs l
once_by code function s stop.Going place cells left p cs l instr e h k same = step_is code function s place cells left instr e ∙ h
once_by code function s stop.Aside place cells left p cs l instr e h k same = ends_by code function s stop.Aside place cells left p cs l instr (λ q. let x : ⊥ = cc in x) e h k same.0 same.1 same.2
once_by code function s stop.Enters place cells left p cs l instr e h k same = ends_by code function s stop.Enters place cells left p cs l instr (λ q. let x : ⊥ = cc in x) e h k same.0 same.1 same.2
once_by code function s (stop.Leaves from) place cells left p cs l instr e h k same = ends_by code function s (stop.Leaves from) place cells left p cs l instr (λ q. let x : ⊥ = cc in x) e h k same.0 same.1 same.2
once_by code function s (stop.Trap kind at) place cells left p cs l instr e h k same = ends_by code function s (stop.Trap kind at) place cells left p cs l instr (λ q. let x : ⊥ = cc in x) e h k same.0 same.1 same.2
once_by code function s stop.Cut place cells left p cs l instr e h k same = ends_by code function s stop.Cut place cells left p cs l instr (λ q. let x : ⊥ = cc in x) e h k same.0 same.1 same.2
