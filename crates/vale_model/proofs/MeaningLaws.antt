-- What holds of whole runs: by induction on the ticks.
use Rattle.std.proofs.Common.{◌≡◌, ℕ, zero, suc, ◌≤◌, List, [], ◌∷◌, Option, Some, None, refl, sym, ap, ◌∙◌, subst, arith}
use Rattle.std.specs.Prelude.{slice_get}
use Rattle.vale_state_spec.specs.Outcome.{Done, Trap, Cut, Wrong}
use Rattle.vale_state_spec.specs.State.{State, Calls, begin, Given, given, main_frame, living}
use Rattle.vale_state_spec.specs.World.{Value, IsDead}
use Rattle.vale_base.specs.declared.spot.Spot.{Spot}
use Rattle.vale_base.specs.declared.trap.FrameAt.{FrameAt}
use Rattle.vale_rules_spec.specs.Declarations.{head_params}
use Rattle.vale_rules_spec.specs.Types.{Ty}
use Rattle.vale_rules_spec.specs.Typed.{Expr, Block, block, Function, function_body, Typed}
use Rattle.vale_model.specs.Parts.{Parts, parts_of, main_of}
use Rattle.vale_model.specs.Runs.{Locals, Result, goes, returned, ended, Run, ◌>>=◌, nothing, tick, valued, under}
use Rattle.vale_model.specs.Destruction.{Again, drop_values, destroyed, destroy}
use Rattle.vale_model.specs.Expressions.{block_run, expr_run, made}
use Rattle.vale_model.specs.Loops.{state_in}
use Rattle.vale_model.specs.Meaning.{bound, back_to, body_run, with_bound, function_run, turn_run, level, main_run, main_takes, with_input, run_of, outcome_of, meaning}
use Rattle.vale_text.specs.Progress.{StampsRise, NameProgresses}
use Rattle.vale_model.specs.Progress.{GoesOn, AlwaysGoesOn}
use Rattle.vale_model.proofs.RunLaws.{bind_goes, nothing_goes, wrong_goes, tick_goes, under_goes, valued_goes, choose_goes}
use Rattle.vale_model.proofs.TreeLaws.{Follows, leave_goes, drop_values_goes, called_goes, made_goes, expr_goes, block_goes}

-- ---- functions

back_goes : (s : State) (l : Locals) (r : Result (Option Value)) → GoesOn s r → GoesOn s (back_to l r)
back_goes s l (goes v k t) h = h
back_goes s l (returned v t) h = h
back_goes s l (ended end t) h = h

pub with_bound_goes : (n : ℕ) (k : Option Locals) (m : Run (Option Value)) → AlwaysGoesOn n m → AlwaysGoesOn n (with_bound k m)
with_bound_goes n None m h = wrong_goes n
with_bound_goes n (Some k) m h = record { from = λ calls l s lt. back_goes s l (m calls k s) (h.from calls k s lt) }

module _ (again : Again) (n : ℕ) (follows : Follows again n) where
  body_goes : (b : Block) → AlwaysGoesOn (suc n) (body_run again b)
  body_goes (block at end x ss) = bind_goes (suc n) (block_run again (block at end x ss)) _ (block_goes again n follows (block at end x ss)) (λ v. leave_goes again n follows (Option Value) end v)

  pub function_goes : (f : Function) (vs : List Value) (frame : FrameAt) → AlwaysGoesOn (suc n) (function_run again f vs frame)
  function_goes (function_body h b) vs frame = with_bound_goes (suc n) (bound (head_params h) vs []) (under frame (body_run again b)) (under_goes (suc n) frame (body_run again b) (body_goes b))

  pub turn_goes : (c : Expr) (b : Block) → AlwaysGoesOn (suc n) (turn_run again c b)
  turn_goes c b =
      bind_goes (suc n) (block_run again b) _ (block_goes again n follows b)
      (λ _. bind_goes (suc n) (valued (expr_run again c)) _ (valued_goes (suc n) (expr_run again c) (expr_goes again n follows c))
      (λ v. choose_goes (suc n) v (tick >>= (λ _. again.turn c b)) nothing (tick_goes n (again.turn c b) (follows.turns_on c b)) (nothing_goes (suc n))))

-- ---- levels

pub level_follows : (p : Parts) (n : ℕ) → Follows (level p n) n
level_follows p zero = record {
  turns_on = λ c b. record { from = λ calls l s lt. absurd (omega (arith, lt)) };
  calls_on = λ f vs frame. record { from = λ calls l s lt. absurd (omega (arith, lt)) };
  fields_on = λ vs frame. record { from = λ calls l s lt. absurd (omega (arith, lt)) };
}
level_follows p (suc n) = record {
  turns_on = turn_goes (level p n) n (level_follows p n);
  calls_on = function_goes (level p n) n (level_follows p n);
  fields_on = λ vs frame. under_goes (suc n) frame (drop_values (level p n) frame.at vs) (drop_values_goes (level p n) n (level_follows p n) frame.at vs);
}

-- ---- whole programs

with_input_goes : (again : Again) (n : ℕ) → Follows again n → (x : Ty) (vs : Option (List Value)) (go : List Value → Run (Option Value)) → ((vs : List Value) → AlwaysGoesOn (suc n) (go vs)) → AlwaysGoesOn (suc n) (with_input again x vs go)
with_input_goes again n follows x None go h = h []
with_input_goes again n follows x (Some vs) go h =
    bind_goes (suc n) (valued (made again main_frame.at x vs)) _ (valued_goes (suc n) (made again main_frame.at x vs) (made_goes again n follows main_frame.at x vs)) (λ v. h (v ∷ []))

pub run_goes : (p : Parts) (input : Given) (ticks : ℕ) → GoesOn (begin ticks) (run_of p input ticks)
run_goes p input ticks =
    (with_input_goes (level p ticks) ticks (level_follows p ticks) (main_takes (main_of p)) (given input) (main_run (level p ticks) (main_of p)) (λ vs. called_goes (level p ticks) ticks (level_follows p ticks) (main_of p) vs main_frame)).from [] [] (begin ticks) (omega arith)

-- ---- outcomes

outcome_ticks : (r : Result (Option Value)) → (outcome_of r).ticks ≡ (state_in r).spent
outcome_ticks (goes v l s) = refl
outcome_ticks (returned v s) = refl
outcome_ticks (ended end s) = refl

outcome_pieces : (r : Result (Option Value)) → (outcome_of r).pieces ≡ (state_in r).pieces
outcome_pieces (goes v l s) = refl
outcome_pieces (returned v s) = refl
outcome_pieces (ended end s) = refl

cut_ticks : (ticks : ℕ) (r : Result (Option Value)) → GoesOn (begin ticks) r → (outcome_of r).end ≡ Cut → (state_in r).left ≡ 0
cut_ticks ticks (goes v l s) h e = absurd (cc)
cut_ticks ticks (returned v s) h e = absurd (cc)
cut_ticks ticks (ended Cut s) h e = h.1
cut_ticks ticks (ended Done s) h e = absurd (cc)
cut_ticks ticks (ended Wrong s) h e = absurd (cc)
cut_ticks ticks (ended (Trap t) s) h e = absurd (cc)

within : (ticks : ℕ) (r : Result (Option Value)) → GoesOn (begin ticks) r → (outcome_of r).ticks ≤ ticks
within ticks r h = let a = h.0.ticks in let b = outcome_ticks r in omega (arith, a, b)

spends_all : (ticks : ℕ) (r : Result (Option Value)) → GoesOn (begin ticks) r → (outcome_of r).end ≡ Cut → (outcome_of r).ticks ≡ ticks
spends_all ticks r h e = let a = h.0.ticks in let b = outcome_ticks r in let c = cut_ticks ticks r h e in omega (arith, a, b, c)

rise : (ticks : ℕ) (r : Result (Option Value)) → GoesOn (begin ticks) r → StampsRise 0 (outcome_of r).pieces (outcome_of r).ticks
rise ticks r h =
    subst (λ ps. StampsRise 0 ps (outcome_of r).ticks) (sym (outcome_pieces r ∙ h.0.pieces)) (subst (StampsRise 0 h.0.printed) (sym (outcome_ticks r)) h.0.stamps)

module _ (program : Typed) (input : Given) (ticks : ℕ) where
  pub ticks_within : (meaning program input ticks).ticks ≤ ticks
  ticks_within = within ticks (run_of (parts_of program) input ticks) (run_goes (parts_of program) input ticks)

  pub cut_spends_all : (meaning program input ticks).end ≡ Cut → (meaning program input ticks).ticks ≡ ticks
  cut_spends_all = spends_all ticks (run_of (parts_of program) input ticks) (run_goes (parts_of program) input ticks)

  pub stamps_rise : StampsRise 0 (meaning program input ticks).pieces (meaning program input ticks).ticks
  stamps_rise = rise ticks (run_of (parts_of program) input ticks) (run_goes (parts_of program) input ticks)

pub names_stay : (p : Parts) (ticks : ℕ) (b : Block) (calls : Calls) (l : Locals) (s : State) → s.left ≤ ticks → (name : ℕ) → NameProgresses (slice_get s.world name) (slice_get (state_in (block_run (level p ticks) b calls l s)).world name)
names_stay p ticks b calls l s few name = ((block_goes (level p ticks) ticks (level_follows p ticks) b).from calls l s (omega (arith, few))).0.names name

pub dead_stay : (again : Again) (at : Spot) (name : ℕ) (calls : Calls) (l : Locals) (s : State) → IsDead s.world name → destroy again at name calls l s ≡ ended Wrong s
dead_stay again at name calls l s e = ap (λ x. destroyed again at name (living x) calls l s) e
