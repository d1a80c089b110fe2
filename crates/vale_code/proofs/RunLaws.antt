-- Runs go on as they should: ticks are only spent, pieces are only added, and names never return.
use Rattle.std.proofs.Common.{◌≡◌, ℕ, zero, suc, ◌≤◌, List, [], ◌∷◌, Option, Some, None, sym, ap, subst, arith}
use Rattle.vale_state_spec.specs.Outcome.{End, Cut}
use Rattle.vale_state_spec.specs.State.{State, Given, given, begin, born, function_frame, living}
use Rattle.vale_state_spec.specs.World.{Value, Own, IsDead, next_name}
use Rattle.vale_text.proofs.StateLaws.{later_refl, later_trans, born_later_state}
use Rattle.vale_text.specs.Progress.{Progresses, EndsRight, StampsRise}
use Rattle.vale_code.proofs.Ends.{step_less, run_ends}
use Rattle.vale_code.proofs.Fits as fits
use Rattle.vale_code.proofs.Fits.{ticks, ticks_fewer, Fits}
use Rattle.vale_base.specs.declared.spot.Spot.{Spot}
use Rattle.vale_code.specs.Destroy.{destroy, destroy_object}
use Rattle.vale_code.specs.Enter.{Form, Plain, Pure, Iteration, Destructor, enter}
use Rattle.vale_code.specs.Frames.{Config, Frame, Next, On, Over, wrong}
use Rattle.vale_code.specs.Fuel.{fuel}
use Rattle.vale_code.specs.Kinds.{text_at}
use Rattle.vale_code.specs.Parts.{Parts}
use Rattle.vale_code.specs.Run.{Ending, then_go, exec, last_state, step, go_on, steps, state_in, first_spot, with_input, if_plain, start, ending_of, run_code}
use Rattle.vale_code.specs.declared.func.Func.{Func}
use Rattle.vale_code.specs.declared.ty.Ty.{Ty}
use Rattle.vale_code.specs.declared.ty.Ty.TheVariants as t

-- ---- steps

pub steps_later : (code : Parts) (n : ℕ) (c : Config) → Progresses c.state (state_in (steps code n c))
steps_later code zero c = later_refl c.state
steps_later code (suc n) c = at (step code c) (step_less code (last_state code) c) (λ d. steps_later code n d)
  where
    at : (x : Next) → Fits code c.state (fuel code c) x → ((d : Config) → Progresses d.state (state_in (steps code n d))) → Progresses c.state (state_in (go_on x (steps code n)))
    at (On d) fit next = later_trans c.state d.state (state_in (steps code n d)) fit.later (next d)
    at (Over end v s) fit next = fit.later

-- an ending that a run comes to from a state
pub record EndsLater (s : State) (e : Ending) : Type 0 where
  pub later : Progresses s e.state
  pub right : EndsRight e.end e.state

pub exec_later : (code : Parts) (n : ℕ) (c : Config) (e : Ending) → exec code n c ≡ Some e → EndsLater c.state e
exec_later code zero c e h = absurd (cc)
exec_later code (suc n) c e h = at (step code c) (step_less code (last_state code) c) h (λ d g. exec_later code n d e g)
  where
    at : (x : Next) → Fits code c.state (fuel code c) x → then_go x (exec code n) ≡ Some e → ((d : Config) → exec code n d ≡ Some e → EndsLater d.state e) → EndsLater c.state e
    at (On d) fit g next = let rest = next d g in record { later = later_trans c.state d.state e.state fit.later rest.later; right = rest.right }
    at (Over end v s) fit g next = let is : record { end = end; value = v; state = s } ≡ e = cc in subst (λ y. EndsLater c.state y) is (record { later = fit.later; right = fit.right })

-- no rule drops what has died
pub dead_stay : (code : Parts) (name : ℕ) (at : Spot) (frames : List Frame) (s : State) → IsDead s.world name → destroy code (Own name) at frames s ≡ wrong s
dead_stay code name at frames s is = ap (λ o. destroy_object code (living o) name at frames s) is

-- ---- the start

module _ (code : Parts) (input : Given) (amount : ℕ) where
  abbrev origin : State
  origin = begin amount

  abbrev bound : ℕ
  bound = suc (ticks code origin)

  main_fits : (form : Form) (func : Func) (args : List Value) (s : State) → Progresses origin s
      → Fits code origin bound (enter code.main form func (function_frame (text_at code func.name) first_spot) None args [] s)
  main_fits form func args s l = fits.enters code origin bound code.main form func (function_frame (text_at code func.name) first_spot) None args [] s l (omega (arith, ticks_fewer code origin s l))

  input_fits : (tys : List Ty) (values : Option (List Value)) (go : List Value → State → Next)
      → ((args : List Value) (s : State) → Progresses origin s → Fits code origin bound (go args s)) → Fits code origin bound (with_input tys values origin go)
  input_fits [] None go each = each [] origin (later_refl origin)
  input_fits (t.Own kind ∷ []) (Some vs) go each =
      fits.after code origin bound origin _ (later_refl origin) (λ u l less.
      each (Own (next_name u.world) ∷ []) (born kind vs u) (later_trans origin u (born kind vs u) l (born_later_state kind vs u)))
  input_fits _ _ go each = fits.stays code origin bound None origin (later_refl origin)

  plain_fits : (form : Form) (m : Next) → Fits code origin bound m → Fits code origin bound (if_plain form origin m)
  plain_fits Plain m h = h
  plain_fits Pure m h = fits.stays code origin bound None origin (later_refl origin)
  plain_fits Iteration m h = fits.stays code origin bound None origin (later_refl origin)
  plain_fits Destructor m h = fits.stays code origin bound None origin (later_refl origin)

  start_fits : Fits code origin bound (start code input amount)
  start_fits =
      fits.with_a_function code origin bound code.main origin _ (later_refl origin) (λ form func.
      plain_fits form _ (input_fits func.params (given input) _ (λ args s l. main_fits form func args s l)))

  ends_later : EndsLater origin (ending_of code input amount)
  ends_later = let run = run_ends code input amount in at (start code input amount) start_fits run.0 run.1
    where
      at : (x : Next) → Fits code origin bound x → (n : ℕ) → then_go x (exec code n) ≡ Some (ending_of code input amount) → EndsLater origin (ending_of code input amount)
      at (On c) fit n h = let rest = exec_later code n c (ending_of code input amount) h in record { later = later_trans origin c.state _ fit.later rest.later; right = rest.right }
      at (Over end v s) fit n h =
          let is : record { end = end; value = v; state = s } ≡ ending_of code input amount = cc in
          subst (λ y. EndsLater origin y) is (record { later = fit.later; right = fit.right })

  -- ---- whole runs

  pub within : (run_code code input amount).ticks ≤ amount
  within = omega (arith, ends_later.later.ticks)

  all_spent : (end : End) (s : State) → Progresses origin s → EndsRight end s → end ≡ Cut → s.spent ≡ amount
  all_spent end s l right is = let none : EndsRight Cut s = subst (λ x. EndsRight x s) is right in omega (arith, none, l.ticks)

  pub cut : (run_code code input amount).end ≡ Cut → (run_code code input amount).ticks ≡ amount
  cut is = all_spent (ending_of code input amount).end (ending_of code input amount).state ends_later.later ends_later.right is

  pub stamps : StampsRise 0 (run_code code input amount).pieces (run_code code input amount).ticks
  stamps = subst (λ ps. StampsRise 0 ps (ending_of code input amount).state.spent) (sym ends_later.later.pieces) ends_later.later.stamps
