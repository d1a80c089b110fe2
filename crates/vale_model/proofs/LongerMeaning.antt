-- With more ticks a whole run does the same, but where it is cut with fewer: there it goes on from what was printed.
use Rattle.std.proofs.Common.{◌≡◌, ℕ, zero, suc, ◌≤◌, List, [], ◌∷◌, append-nil, Option, Some, None, false, refl, sym, ap, ◌∙◌, subst, arith}
use Rattle.vale_state_spec.specs.Outcome.{End, Done, Trap, Cut, Wrong, Outcome}
use Rattle.vale_state_spec.specs.State.{State, begin, Given, given, main_frame}
use Rattle.vale_state_spec.specs.World.{Value}
use Rattle.vale_base.specs.declared.trap.FrameAt.{FrameAt}
use Rattle.vale_rules_spec.specs.Declarations.{head_params}
use Rattle.vale_rules_spec.specs.Types.{Ty}
use Rattle.vale_rules_spec.specs.Typed.{Expr, Block, block, Function, function_body, Typed}
use Rattle.vale_model.specs.Parts.{Parts, parts_of, main_of}
use Rattle.vale_model.specs.Runs.{Locals, Result, goes, returned, ended, Run, under}
use Rattle.vale_model.specs.Destruction.{Again, drop_values}
use Rattle.vale_model.specs.Loops.{state_in}
use Rattle.vale_model.specs.Meaning.{bound, back_to, body_run, with_bound, function_run, turn_run, level, main_run, main_takes, with_input, run_of, outcome_of, meaning, no_tick_left}
use Rattle.vale_text.specs.Progress.{Begins}
use Rattle.vale_model.specs.Progress.{AlwaysGoesOn}
use Rattle.vale_model.proofs.MeaningLaws.{level_follows, with_bound_goes}
use Rattle.vale_model.proofs.LongerLaws.{beside, Longer, EndLonger, AlwaysLonger, bind_longer, nothing_longer, wrong_longer, tick_longer, under_longer, valued_longer, choose_longer}
use Rattle.vale_model.proofs.LongerTree.{Alongside, with_parts, leave_longer, drop_values_longer, called_longer, made_longer, expr_longer, block_longer}

-- ---- functions

back_end : (l : Locals) (end : End) (s : State) (r : Result (Option Value)) → EndLonger end s r → EndLonger end s (back_to l r)
back_end l Cut s (goes v k t) h = h
back_end l Cut s (returned v t) h = h
back_end l Cut s (ended end t) h = h
back_end l Done s r h = (h.0, h.1, ap (back_to l) h.2)
back_end l (Trap t) s r h = (h.0, h.1, ap (back_to l) h.2)
back_end l Wrong s r h = (h.0, h.1, ap (back_to l) h.2)

back_longer : (l : Locals) (r r' : Result (Option Value)) → Longer r r' → Longer (back_to l r) (back_to l r')
back_longer l (goes v k s) r' h = (h.0, h.1, ap (back_to l) h.2)
back_longer l (returned v s) r' h = (h.0, h.1, ap (back_to l) h.2)
back_longer l (ended end s) r' h = back_end l end s r' h

with_bound_longer : (n : ℕ) (k : Option Locals) (m m' : Run (Option Value)) → AlwaysLonger n m m' → AlwaysLonger n (with_bound k m) (with_bound k m')
with_bound_longer n None m m' h = wrong_longer n
with_bound_longer n (Some k) m m' h = record {
  goes_on = with_bound_goes n (Some k) m' h.goes_on;
  longer = λ calls l s x le lt. back_longer l (m calls k s) (m' calls k (beside s x)) (h.longer calls k s x le lt);
}

module _ (p : Parts) (a a' : Again) (n : ℕ) (follows : Alongside a a' n) where
  body_longer : (b : Block) → AlwaysLonger (suc n) (body_run (with_parts p a) b) (body_run (with_parts p a') b)
  body_longer (block at end x ss) = bind_longer (suc n) _ _ _ _ (block_longer p a a' n follows (block at end x ss)) (λ v. leave_longer p a a' n follows (Option Value) end v)

  function_longer : (f : Function) (vs : List Value) (frame : FrameAt) → AlwaysLonger (suc n) (function_run (with_parts p a) f vs frame) (function_run (with_parts p a') f vs frame)
  function_longer (function_body h b) vs frame = with_bound_longer (suc n) (bound (head_params h) vs []) _ _ (under_longer (suc n) frame (body_longer b))

  turn_longer : (c : Expr) (b : Block) → AlwaysLonger (suc n) (turn_run (with_parts p a) c b) (turn_run (with_parts p a') c b)
  turn_longer c b =
      bind_longer (suc n) _ _ _ _ (block_longer p a a' n follows b)
      (λ _. bind_longer (suc n) _ _ _ _ (valued_longer (suc n) (expr_longer p a a' n follows c))
      (λ v. choose_longer (suc n) v (tick_longer n _ _ (follows.turns_on c b)) (nothing_longer (suc n))))

  fields_longer : (vs : List Value) (frame : FrameAt) → AlwaysLonger (suc n) (under frame (drop_values (with_parts p a) frame.at vs)) (under frame (drop_values (with_parts p a') frame.at vs))
  fields_longer vs frame = under_longer (suc n) frame (drop_values_longer p a a' n follows frame.at vs)

-- ---- levels

level_is : (p : Parts) (n : ℕ) → with_parts p (level p n) ≡ level p n
level_is p zero = refl
level_is p (suc n) = refl

-- without a tick left nothing more is printed, and with some it goes on from there
cut_longer : (n : ℕ) (m' : Run (Option Value)) → AlwaysGoesOn n m' → AlwaysLonger n no_tick_left m'
cut_longer n m' on = record {
  goes_on = on;
  longer = λ calls l s x le lt. let later = (on.from calls l (beside s x) lt).0 in (later.printed, later.pieces);
}

with_levels : {A : Type 0} (p : Parts) (i j : ℕ) (n : ℕ) (m : Again → Run A) → AlwaysLonger n (m (with_parts p (level p i))) (m (with_parts p (level p j))) → AlwaysLonger n (m (level p i)) (m (level p j))
with_levels p i j n m h = subst (λ c. AlwaysLonger n (m (level p i)) (m c)) (level_is p j) (subst (λ c. AlwaysLonger n (m c) (m (with_parts p (level p j)))) (level_is p i) h)

level_longer : (p : Parts) (i j : ℕ) → Alongside (level p i) (level p j) j
level_longer p zero j = record {
  turns_on = λ c b. cut_longer j ((level p j).turn c b) ((level_follows p j).turns_on c b);
  calls_on = λ f vs frame. cut_longer j ((level p j).call f vs frame) ((level_follows p j).calls_on f vs frame);
  fields_on = λ vs frame. cut_longer j ((level p j).fields vs frame) ((level_follows p j).fields_on vs frame);
}
level_longer p (suc i) zero = record {
  turns_on = λ c b. record { goes_on = (level_follows p zero).turns_on c b; longer = λ calls l s x le lt. absurd (omega (arith, lt)) };
  calls_on = λ f vs frame. record { goes_on = (level_follows p zero).calls_on f vs frame; longer = λ calls l s x le lt. absurd (omega (arith, lt)) };
  fields_on = λ vs frame. record { goes_on = (level_follows p zero).fields_on vs frame; longer = λ calls l s x le lt. absurd (omega (arith, lt)) };
}
level_longer p (suc i) (suc j) = record {
  turns_on = λ c b. with_levels p i j (suc j) (λ again. turn_run again c b) (turn_longer p (level p i) (level p j) j (level_longer p i j) c b);
  calls_on = λ f vs frame. with_levels p i j (suc j) (λ again. function_run again f vs frame) (function_longer p (level p i) (level p j) j (level_longer p i j) f vs frame);
  fields_on = λ vs frame. with_levels p i j (suc j) (λ again. under frame (drop_values again frame.at vs)) (fields_longer p (level p i) (level p j) j (level_longer p i j) vs frame);
}

-- ---- whole programs

with_input_longer : (p : Parts) (a a' : Again) (n : ℕ) → Alongside a a' n → (x : Ty) (vs : Option (List Value)) (f : Option Function) → AlwaysLonger (suc n) (with_input (with_parts p a) x vs (main_run (with_parts p a) f)) (with_input (with_parts p a') x vs (main_run (with_parts p a') f))
with_input_longer p a a' n follows x None f = called_longer p a a' n follows f [] main_frame
with_input_longer p a a' n follows x (Some vs) f =
    bind_longer (suc n) _ _ _ _ (valued_longer (suc n) (made_longer p a a' n follows main_frame.at x vs)) (λ v. called_longer p a a' n follows f (v ∷ []) main_frame)

run_longer : (p : Parts) (input : Given) (i j : ℕ) → i ≤ j → Longer (run_of p input i) (run_of p input j)
run_longer p input i j le =
    (with_levels p i j (suc j) (λ again. with_input again (main_takes (main_of p)) (given input) (main_run again (main_of p)))
    (with_input_longer p (level p i) (level p j) j (level_longer p i j) (main_takes (main_of p)) (given input) (main_of p))).longer
    [] [] (begin i) (record { left = j; most = 0; made = 0; quiet = false }) le (omega arith)

-- ---- outcomes

-- what the outcomes have to do with one another
pub record GoesFurther (o o' : Outcome) : Type 0 where
  pub printed : Begins o.pieces o'.pieces
  pub same : (o.end ≡ Cut → ⊥) → o' ≡ o

equal_further : (o o' : Outcome) → o' ≡ o → GoesFurther o o'
equal_further o o' e = record { printed = ([], ap (λ (o : Outcome). o.pieces) e ∙ sym (append-nil o.pieces)); same = λ not_cut. e }

pieces_in : (r : Result (Option Value)) → (state_in r).pieces ≡ (outcome_of r).pieces
pieces_in (goes v l s) = refl
pieces_in (returned v s) = refl
pieces_in (ended end s) = refl

further_end : (end : End) (s : State) (r' : Result (Option Value)) → EndLonger end s r' → GoesFurther (outcome_of (ended end s)) (outcome_of r')
further_end Cut s r' h = record { printed = (h.0, sym (pieces_in r') ∙ h.1); same = λ not_cut. absurd (not_cut refl) }
further_end Done s r' h = equal_further _ _ (ap outcome_of h.2)
further_end (Trap t) s r' h = equal_further _ _ (ap outcome_of h.2)
further_end Wrong s r' h = equal_further _ _ (ap outcome_of h.2)

further : (r r' : Result (Option Value)) → Longer r r' → GoesFurther (outcome_of r) (outcome_of r')
further (goes v l s) r' h = equal_further _ _ (ap outcome_of h.2)
further (returned v s) r' h = equal_further _ _ (ap outcome_of h.2)
further (ended end s) r' h = further_end end s r' h

pub runs_further : (program : Typed) (input : Given) (fewer more : ℕ) → fewer ≤ more → GoesFurther (meaning program input fewer) (meaning program input more)
runs_further program input fewer more le =
    further (run_of (parts_of program) input fewer) (run_of (parts_of program) input more) (run_longer (parts_of program) input fewer more le)

pub cut_begins : (program : Typed) (input : Given) (fewer more : ℕ) → fewer ≤ more → Begins (meaning program input fewer).pieces (meaning program input more).pieces
cut_begins program input fewer more le = (runs_further program input fewer more le).printed

pub uncut_stays : (program : Typed) (input : Given) (fewer more : ℕ) → fewer ≤ more → ((meaning program input fewer).end ≡ Cut → ⊥) → meaning program input more ≡ meaning program input fewer
uncut_stays program input fewer more le = (runs_further program input fewer more le).same
