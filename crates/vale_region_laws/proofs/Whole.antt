-- Every step of a configuration keeps the invariant, where its instruction's operands are as certificates ask.
use Rattle.std.proofs.Common.{◌≡◌, ◌≤◌, ℕ, zero, suc, ◌+◌, List, [], ◌∷◌, ◌++◌, Option, Some, None, Bool, true, false, ◌⊎◌, inl, inr, refl, sym, ap, ◌∙◌, subst, arith}
use Rattle.std.specs.Prelude.{slice_get}
use Rattle.vale_state_spec.specs.State.{State, Answer, spend_of, print_text, shown, printed}
use Rattle.vale_state_spec.specs.World.{Value, Int, Truth, Text, Own, Ref, Iso}
use Rattle.vale_base.specs.declared.spot.Spot.{Spot}
use Rattle.vale_base.specs.declared.trap.TrapKind.TheVariants.{DeadReference}
use Rattle.vale_text.specs.Steps as step
use Rattle.vale_code.specs.Act.{act, act_if, step_of}
use Rattle.vale_code.specs.Enter.{Plain, Destructor}
use Rattle.vale_code.specs.Frames.{Active, Frame, Running, Dropping, Looping, Alone, Config, Next, On, Over, trap, wrong, ticked}
use Rattle.vale_code.specs.Instructions.{truth_of, comparison_of, text_length, at_place, jump_by, jump_unless, is_free, fetch, onward, with_value, with_truth, with_choice, certain, answered, gets, copied, array_length}
use Rattle.vale_code.specs.Parts.{Parts}
use Rattle.vale_code.specs.Registers.{Registers, read, put, put_all}
use Rattle.vale_code.specs.declared.instr.Instr.{Instr}
use Rattle.vale_code.specs.declared.instr.Instr.TheVariants as i
use Rattle.vale_region_laws.specs.Asks.{lower_marks, IsRead, EndAsks, Asks, AsksIf, AsksOf, IsWeaker}
use Rattle.vale_region_laws.specs.Configs.{IsUnder, MarkUnder, base_of, form_at, StackFits, TopFits, ConfigFits, NextFits}
use Rattle.vale_region_laws.specs.Holding.{Marks, mark, put_mark, held_as, in_register, in_registers, taken, in_frames}
use Rattle.vale_region_laws.specs.Passing.{IsPlain, StoreAll, no_more, one_more}
use Rattle.vale_region_laws.specs.Regions.{Each, How, Held, Seen, Waits, Holder, Fits, scene, holding, holding_all, lower_all, Leaves}
use Rattle.vale_region_laws.proofs.Acts.{Around, TopFits as ActTop, NextFits_, copy_held_next, copy_seen_next, move_next, borrow_next, frozen_next, upcast_held_next, upcast_seen_next, load_seen_next, load_live_next, element_seen_next, load_own_next, load_held_next, element_own_next, element_held_next, element_live_next, answers_next, surely_next, plain_next, length_out, stays_next, push_next, pop_next, swap_next, swap_own_next, swap_element_next, swap_element_own_next, merge_next, opened_next, freeze_next, thaw_merge_next, thaw_keep_next, thaw_clear_next}
use Rattle.vale_region_laws.proofs.Calling.{call_next}
use Rattle.vale_region_laws.proofs.Capturing.{par_range_next, par_each_next}
use Rattle.vale_region_laws.proofs.Counts.{each_map}
use Rattle.vale_region_laws.proofs.Dispatching.{dispatch_next}
use Rattle.vale_region_laws.proofs.Dropping as dropping
use Rattle.vale_region_laws.proofs.Frames.{mark_put}
use Rattle.vale_region_laws.proofs.Holding.{give_counts, give_each, rest_each}
use Rattle.vale_region_laws.proofs.Leaving.{registers_behind, after_first, destroy_next, ret_next, ret_seen_next, retvoid_next}
use Rattle.vale_region_laws.proofs.Looping.{Behind, behind_same, drop_fits, loop_fits}
use Rattle.vale_region_laws.proofs.Making.{make_next, moves_held}
use Rattle.vale_region_laws.proofs.Passing.{none_put, taken_under, moves_first}
use Rattle.vale_region_laws.proofs.Plain.{PlainOut, add_out, sub_out, mul_out, div_out, rem_out, compare_out, opposite_out, join_out, slice_out, byte_out, text_of_out, is_number_out, number_out, text_length_out}
use Rattle.vale_region_laws.proofs.Standing.{standing_leaves, standing_same, stack_stands, base_out}
use Rattle.vale_region_laws.proofs.States.{Gives}

-- ---- values that come into registers, one after another

then_behind : (a b c : List Holder) → Behind a b → Behind b c → Behind a c
then_behind a b c x y = record { counts = λ n. let p = x.counts n in let q = y.counts n in omega (arith, p, q); each = λ P p. y.each P (x.each P p) }

under_held : (a : ℕ) (vs : List Value) (before after : List Holder) → Behind before after → Behind (holding_all a vs before) (holding_all a vs after)
under_held a [] before after b = b
under_held a (v ∷ vs) before after b = after_first (holding a v) _ _ (under_held a vs before after b)

abbrev pub marks_put : ℕ → List ℕ → Marks → Marks
marks_put c [] ms = ms
marks_put c (r ∷ rs) ms = marks_put c rs (put_mark ms r (Some (Held c)))

pub put_all_fits : (c : ℕ) (rs : List ℕ) (vs : List Value) (ms : Marks) (regs after : Registers) (hs : List Holder) → put_all rs vs regs ≡ Some after → Behind (holding_all c vs (in_registers ms regs hs)) (in_registers (marks_put c rs ms) after hs)
put_all_fits c [] [] ms regs after hs e = let q : regs ≡ after = cc in subst (λ a. Behind (in_registers ms regs hs) (in_registers ms a hs)) q (behind_same (in_registers ms regs hs))
put_all_fits c [] (v ∷ vs) ms regs after hs e = let y : ⊥ = cc in absurd y
put_all_fits c (r ∷ rs) [] ms regs after hs e = let y : ⊥ = cc in absurd y
put_all_fits c (r ∷ rs) (v ∷ vs) ms regs after hs e =
    let m = moves_held (holding c v) c vs (in_registers ms regs hs) (holding c v ∷ in_registers ms regs hs) (moves_first (holding c v) (in_registers ms regs hs)) in
    then_behind _ _ _ (record { counts = λ n. let y = m.counts n in omega (arith, y); each = λ P x. m.goes P x.0 x.1 })
    (then_behind _ _ _ (under_held c vs (holding c v ∷ in_registers ms regs hs) (in_registers (put_mark ms r (Some (Held c))) (put regs r (Some v)) hs)
    (record { counts = λ n. give_counts n r (Held c) v ms regs hs; each = λ P x. give_each P r (Held c) v ms regs hs (rest_each P ms regs hs x.1) x.0 x.1 }))
    (put_all_fits c rs vs (put_mark ms r (Some (Held c))) (put regs r (Some v)) after hs e))

pub marks_put_under : (c : ℕ) (rs : List ℕ) (ms : Marks) → Each (MarkUnder c c) ms → Each (MarkUnder c c) (marks_put c rs ms)
marks_put_under c [] ms u = u
marks_put_under c (r ∷ rs) ms u = marks_put_under c rs (put_mark ms r (Some (Held c))) (mark_under c r (Held c) ms (omega arith) u)
  where
    mark_under : (r to : ℕ) (how : How) (ms : Marks) → IsUnder r r how → Each (MarkUnder r r) ms → Each (MarkUnder r r) (put_mark ms to (Some how))
    mark_under r zero how [] u x = (u, tt)
    mark_under r (suc to) how [] u x = (tt, mark_under r to how [] u x)
    mark_under r zero how (m ∷ ms) u x = (u, x.1)
    mark_under r (suc to) how (m ∷ ms) u x = (x.0, mark_under r to how ms u x.1)

-- what is made of registers
stored_under : (c : ℕ) (rs : List ℕ) (ms : Marks) (regs : Registers) (vs : List Value) (ns : Marks) (after : Registers) → StoreAll c rs ms regs vs ns after → Each (MarkUnder c c) ms → Each (MarkUnder c c) ns
stored_under c rs ms regs vs ns after (no_more _ _) u = u
stored_under c rs ms regs vs ns after (one_more r rs' _ _ v vs' _ _ e m rest) u = stored_under c rs' _ _ vs' ns after rest (taken_under c c r v ms u)

-- own registers and what lies below may be left
both_leave : (d : ℕ) (ms : Marks) (regs : Registers) (hs : List Holder) → Each (Leaves d) (in_registers ms regs []) → Each (Leaves d) hs → Each (Leaves d) (in_registers ms regs hs)
both_leave d [] regs hs x y = y
both_leave d (m ∷ ms) [] hs x y = y
both_leave d (m ∷ ms) (z ∷ regs) hs x y = at m z x (both_leave d ms regs hs)
  where
    at : (m : Option How) (z : Option Value) → Each (Leaves d) (in_register m z (in_registers ms regs [])) → (Each (Leaves d) (in_registers ms regs []) → Each (Leaves d) hs → Each (Leaves d) (in_registers ms regs hs)) → Each (Leaves d) (in_register m z (in_registers ms regs hs))
    at None z x f = f x y
    at (Some h) None x f = f x y
    at (Some h) (Some v) x f = (x.0, f x.1 y)

module _ (code : Parts) (last : Config → State) (f : Active) (below : List Frame) (s : State) (x : ConfigFits code (record { top = Running f; below = below; state = s })) where
  abbrev ms : Marks
  ms = x.top.marks

  abbrev hs : List Holder
  hs = in_frames x.marks below

  -- it goes on in the same function, at a place
  abbrev at_place_in : ℕ → ℕ → Around
  at_place_in p d = record { function = f.function; dest = f.dest; place = p; below = below; opened = d }

  abbrev around : ℕ → Around
  around d = at_place_in (f.place + 1) d

  -- the function goes on with other registers
  goes_on : (p d : ℕ) (ns : Marks) (next : Next) → base_of x.stack.1 x.stack.2 ≤ d → Each (MarkUnder d d) ns
      → NextFits_ (at_place_in p d) ns (in_frames x.marks below) next → NextFits code next
  goes_on p d ns (Over end v t) le u h = tt
  goes_on p d ns (On e) le u h = at e.top e.below e.state h
    where
      at : (top : Frame) (fs : List Frame) (t : State) → ActTop (at_place_in p d) ns (in_frames x.marks below) top fs t → ConfigFits code (record { top = top; below = fs; state = t })
      at (Running g) fs t h = record {
        home = h.0;
        top = record { depth = t.regions; marks = ns };
        marks = x.marks;
        depth = refl;
        stack = subst (λ c. TopFits code (record { depth = t.regions; marks = ns }) x.marks (Running g) fs c) (sym h.6)
            (u, x.stack.1, x.stack.2, ap (form_at code) h.2 ∙ x.stack.3, le, subst (λ fs. StackFits code x.stack.2 (base_of x.stack.1 x.stack.2) x.marks fs) (sym h.5) x.stack.5);
        fits = subst (λ fs. Fits (scene h.0 (in_registers ns g.registers (in_frames x.marks fs)) t.world t.regions)) (sym h.5) h.1;
      }
      at (Dropping g) fs t h = absurd h
      at (Looping g) fs t h = absurd h
      at (Alone v) fs t h = absurd h

  here_at : (p : ℕ) (ns : Marks) (next : Next) → Each (MarkUnder s.regions s.regions) ns → NextFits_ (at_place_in p s.regions) ns (in_frames x.marks below) next → NextFits code next
  here_at p ns next u h = goes_on p s.regions ns next x.stack.4 u h

  here_on : (ns : Marks) (next : Next) → Each (MarkUnder s.regions s.regions) ns → NextFits_ (around s.regions) ns (in_frames x.marks below) next → NextFits code next
  here_on ns next u h = here_at (f.place + 1) ns next u h

  gets_held : (to : ℕ) (next : Next) → NextFits_ (around s.regions) (put_mark x.top.marks to (Some (Held s.regions))) (in_frames x.marks below) next → NextFits code next
  gets_held to next h = here_on _ next (mark_put code s.regions to (Held s.regions) x.top.marks (omega arith) x.stack.0) h

  gets_seen : (to : ℕ) (next : Next) → NextFits_ (around s.regions) (put_mark x.top.marks to (Some (Seen s.regions))) (in_frames x.marks below) next → NextFits code next
  gets_seen to next h = here_on _ next (mark_put code s.regions to (Seen s.regions) x.top.marks (omega arith) x.stack.0) h

  after_taking : (to b : ℕ) (v : Value) (next : Next) → NextFits_ (around s.regions) (put_mark (taken b v x.top.marks) to (Some (Held s.regions))) (in_frames x.marks below) next → NextFits code next
  after_taking to b v next h = here_on _ next (mark_put code s.regions to (Held s.regions) (taken b v x.top.marks) (omega arith) (taken_under s.regions s.regions b v x.top.marks x.stack.0)) h

  -- ---- operands that may be missing

  any_value : (y : Option Value) (go : Value → Next) → ((v : Value) → NextFits code (go v)) → NextFits code (with_value y s go)
  any_value None go each = tt
  any_value (Some v) go each = each v

  any_two : (y z : Option Value) (go : Value → Value → Next) → ((v u : Value) → NextFits code (go v u)) → NextFits code (with_value y s (λ v. with_value z s (λ u. go v u)))
  any_two y z go each = any_value y _ (λ v. any_value z _ (λ u. each v u))

  any_choice : {A : Type 0} (y : Option A) (go : A → Next) → ((a : A) → NextFits code (go a)) → NextFits code (with_choice y s go)
  any_choice None go each = tt
  any_choice (Some a) go each = each a

  stays : (t : State) → t.world ≡ s.world → t.regions ≡ s.regions → (p : ℕ) → NextFits code (at_place f p below t)
  stays t w e p = here_at p x.top.marks (at_place f p below t) x.stack.0 (stays_next code last f below s x.home (in_frames x.marks below) x.top.marks x.fits t w e p)

  jumps : (free : Bool) (p : ℕ) → NextFits code (jump_by free f p below s)
  jumps true p = stays s refl refl p
  jumps false p = from s.left
    where
      from : (n : ℕ) → NextFits code (ticked (spend_of n s) s (λ t. at_place f p below t))
      from zero = tt
      from (suc n) = stays (record s { left = n; spent = s.spent + 1 }) refl refl p

  unless : (y : Option Value) (p : ℕ) → NextFits code (with_truth y s (jump_unless code f p below s))
  unless None p = tt
  unless (Some (Truth true)) p = stays s refl refl (f.place + 1)
  unless (Some (Truth false)) p = jumps (is_free code f p) p
  unless (Some (Int z)) p = tt
  unless (Some (Text t)) p = tt
  unless (Some (Own n)) p = tt
  unless (Some (Ref n)) p = tt
  unless (Some (Iso n)) p = tt

  prints : (line : Bool) (y : Option (List ℕ)) → NextFits code (certain f None f.registers below s (print_text line y s))
  prints line None = tt
  prints true (Some bytes) = stays (printed (bytes ++ 10 ∷ []) s) refl refl (f.place + 1)
  prints false (Some bytes) = stays (printed bytes s) refl refl (f.place + 1)

  -- ---- each instruction

  held_act : (to : ℕ) (instr : Instr) → NextFits_ (around s.regions) (put_mark x.top.marks to (Some (Held s.regions))) (in_frames x.marks below) (act code last f below s instr) → NextFits code (act code last f below s instr)
  held_act to instr h = gets_held to (act code last f below s instr) h

  seen_act : (to : ℕ) (instr : Instr) → NextFits_ (around s.regions) (put_mark x.top.marks to (Some (Seen s.regions))) (in_frames x.marks below) (act code last f below s instr) → NextFits code (act code last f below s instr)
  seen_act to instr h = gets_seen to (act code last f below s instr) h

  stored_act : (to b : ℕ) (v : Value) (instr : Instr) → NextFits_ (around s.regions) (put_mark (taken b v x.top.marks) to (Some (Held s.regions))) (in_frames x.marks below) (act code last f below s instr) → NextFits code (act code last f below s instr)
  stored_act to b v instr h = after_taking to b v (act code last f below s instr) h

  moved_act : (to a : ℕ) (instr : Instr) → NextFits_ (around s.regions) (put_mark (put_mark x.top.marks a None) to (Some (Held s.regions))) (in_frames x.marks below) (act code last f below s instr) → NextFits code (act code last f below s instr)
  moved_act to a instr h = here_on _ (act code last f below s instr) (mark_put code s.regions to (Held s.regions) (put_mark x.top.marks a None) (omega arith) (none_put s.regions s.regions a x.top.marks x.stack.0)) h

  -- with a trap or without, of what is computed
  computes : (to : ℕ) (at : Spot) (a : Answer) → Gives (PlainOut s) a → NextFits code (answered f (Some to) f.registers at below s a)
  computes to at a p = gets_held to (answered f (Some to) f.registers at below s a) (answers_next code last f below s x.home (in_frames x.marks below) x.top.marks x.fits to at a p)

  surely : (to : ℕ) (a : Answer) → Gives (PlainOut s) a → NextFits code (certain f (Some to) f.registers below s a)
  surely to a p = gets_held to (certain f (Some to) f.registers below s a) (surely_next code last f below s x.home (in_frames x.marks below) x.top.marks x.fits to a p)

  literal : (to : ℕ) (v : Value) → IsPlain v → NextFits code (onward f (put f.registers to (Some v)) below s)
  literal to v is = gets_held to (onward f (put f.registers to (Some v)) below s) (plain_next code last f below s x.home (in_frames x.marks below) x.top.marks x.fits to v is)

  copies_next : (to a : ℕ) (v : Value) → read f.registers a ≡ Some v → IsPlain v → NextFits code (act code last f below s (i.Copy to a))
  copies_next to a v e is = subst (λ y. NextFits code (with_value y s (λ v. gets f to (copied v) f.registers below s))) (sym e) (at v is)
    where
      at : (v : Value) → IsPlain v → NextFits code (gets f to (copied v) f.registers below s)
      at (Own n) h = absurd h
      at (Ref n) h = absurd h
      at (Iso n) h = absurd h
      at (Int n) h = literal to (Int n) tt
      at (Truth n) h = literal to (Truth n) tt
      at (Text n) h = literal to (Text n) tt

  outer_leaves : (d : ℕ) → base_of x.stack.1 x.stack.2 ≤ d → Each (Leaves d) (in_frames x.marks below)
  outer_leaves d le = standing_leaves x.stack.2 (base_of x.stack.1 x.stack.2) d (let y = base_out x.stack.1 x.stack.2 in omega (arith, y, le)) (omega (arith, le)) (in_frames x.marks below) (stack_stands code x.stack.2 (base_of x.stack.1 x.stack.2) x.marks below x.stack.5)

  outer_same : (d : ℕ) → base_of x.stack.1 x.stack.2 ≤ d → lower_all d (in_frames x.marks below) ≡ in_frames x.marks below
  outer_same d le = standing_same x.stack.2 (base_of x.stack.1 x.stack.2) d (let y = base_out x.stack.1 x.stack.2 in omega (arith, y, le)) (in_frames x.marks below) (stack_stands code x.stack.2 (base_of x.stack.1 x.stack.2) x.marks below x.stack.5)

  thaws_act : (d : ℕ) (ns : Marks) (instr : Instr) → base_of x.stack.1 x.stack.2 ≤ d → Each (MarkUnder d d) ns → NextFits_ (around d) ns (lower_all d (in_frames x.marks below)) (act code last f below s instr) → NextFits code (act code last f below s instr)
  thaws_act d ns instr le u h = goes_on (f.place + 1) d ns (act code last f below s instr) le u (subst (λ hs. NextFits_ (around d) ns hs (act code last f below s instr)) (outer_same d le) h)

  put_under : (d to : ℕ) (ns : Marks) → Each (MarkUnder d d) ns → Each (MarkUnder d d) (put_mark ns to (Some (Held d)))
  put_under d to ns u = mark_put code d to (Held d) ns (omega arith) u

  abbrev Ask : Instr → Type 0
  Ask = Asks code f s x.top.marks x.stack.1 x.stack.2

  copy_act : (to a : ℕ) → Ask (i.Copy to a) → NextFits code (act code last f below s (i.Copy to a))
  copy_act to a q = at q.2
    where
      at : IsPlain q.0 ⊎ ((mark x.top.marks a ≡ Some (Held s.regions)) ⊎ ((b : ℕ) × (mark x.top.marks a ≡ Some (Seen b)) × (b ≤ s.regions))) → NextFits code (act code last f below s (i.Copy to a))
      at (inl is) = copies_next to a q.0 q.1 is
      at (inr (inl m)) = held_act to (i.Copy to a) (copy_held_next code last f below s x.home (in_frames x.marks below) x.top.marks x.fits to a q.0 m q.1)
      at (inr (inr m)) = seen_act to (i.Copy to a) (copy_seen_next code last f below s x.home (in_frames x.marks below) x.top.marks x.fits to a m.0 q.0 m.1 m.2 q.1)

  pub act_fits : (instr : Instr) → Ask instr → NextFits code (act code last f below s instr)
  act_fits (i.Int to n) q = literal to (Int n) tt
  act_fits (i.Truth to choice) q = any_choice (truth_of choice) _ (λ b. literal to (Truth b) tt)
  act_fits (i.Text to n) q = any_choice (slice_get code.texts n) _ (λ t. literal to (Text t) tt)
  act_fits (i.Copy to a) q = copy_act to a q
  act_fits (i.Move to a) q = moved_act to a (i.Move to a) (move_next code last f below s x.home (in_frames x.marks below) x.top.marks x.fits to a q.0 q.2 q.1)
  act_fits (i.Add to a b at) q = any_two (read f.registers a) (read f.registers b) _ (λ v u. computes to at (step.add v u s) (add_out s v u))
  act_fits (i.Sub to a b at) q = any_two (read f.registers a) (read f.registers b) _ (λ v u. computes to at (step.sub v u s) (sub_out s v u))
  act_fits (i.Mul to a b at) q = any_two (read f.registers a) (read f.registers b) _ (λ v u. computes to at (step.mul v u s) (mul_out s v u))
  act_fits (i.Div to a b at) q = any_two (read f.registers a) (read f.registers b) _ (λ v u. computes to at (step.div v u s) (div_out s v u))
  act_fits (i.Rem to a b at) q = any_two (read f.registers a) (read f.registers b) _ (λ v u. computes to at (step.rem v u s) (rem_out s v u))
  act_fits (i.Cmp to choice a b) q = any_choice (comparison_of choice) _ (λ c. any_two (read f.registers a) (read f.registers b) _ (λ v u. surely to (step.compare c v u s) (compare_out s c v u)))
  act_fits (i.Not to a) q = any_value (read f.registers a) _ (λ v. surely to (step.opposite v s) (opposite_out s v))
  act_fits (i.Join to a b at) q = any_two (read f.registers a) (read f.registers b) _ (λ v u. computes to at (step.join v u s) (join_out s v u))
  act_fits (i.TextLen to a) q = any_value (read f.registers a) _ (λ v. surely to (text_length v s) (text_length_out s v))
  act_fits (i.Slice to a y z at) q = any_value (read f.registers a) _ (λ v. any_two (read f.registers y) (read f.registers z) _ (λ u k. computes to at (step.slice v u k s) (slice_out s v u k)))
  act_fits (i.Byte to a y at) q = any_two (read f.registers a) (read f.registers y) _ (λ v u. computes to at (step.byte v u s) (byte_out s v u))
  act_fits (i.TextOf to a) q = any_value (read f.registers a) _ (λ v. surely to (step.text_of v s) (text_of_out s v))
  act_fits (i.IsNum to a) q = any_value (read f.registers a) _ (λ v. surely to (step.is_number v s) (is_number_out s v))
  act_fits (i.Num to a at) q = any_value (read f.registers a) _ (λ v. computes to at (step.number v s) (number_out s v))
  act_fits (i.Print a choice) q = any_choice (truth_of choice) _ (λ line. any_value (read f.registers a) _ (λ v. prints line (shown v)))
  act_fits (i.Jump target) q = jumps (is_free code f target) target
  act_fits (i.Unless a target) q = unless (read f.registers a) target
  act_fits i.Tick q = from s.left
    where
      from : (n : ℕ) → NextFits code (ticked (spend_of n s) s (λ t. onward f f.registers below t))
      from zero = tt
      from (suc n) = stays (record s { left = n; spent = s.spent + 1 }) refl refl (f.place + 1)
  act_fits (i.Call to g args at) q = call_next code last f below s x to g args at q
  act_fits (i.CallM to interface method a args at) q = dispatch_next code last f below s x (trap DeadReference at (Running f ∷ below) s) to interface method a args at tt q
  act_fits (i.CallMLive to interface method a args at) q = dispatch_next code last f below s x (wrong s) to interface method a args at tt q
  act_fits (i.Ret a) q = at q.3
    where
      at : (((mark x.top.marks a ≡ Some (Held s.regions)) ⊎ IsPlain q.0) × ((n : ℕ) → q.0 ≡ Ref n → (x.stack.1 ≡ Plain) ⊎ (x.stack.1 ≡ Destructor)) × EndAsks code f s x.top.marks x.stack.1 x.stack.2 x.stack.1 q.0)
          ⊎ ((b : ℕ) × (x.stack.1 ≡ Plain) × (mark x.top.marks a ≡ Some (Seen b)) × (b ≤ s.regions)) → NextFits code (act code last f below s (i.Ret a))
      at (inl m) = ret_next code last f below s x a q.0 q.2 m.0 q.1 m.1 m.2
      at (inr m) = ret_seen_next code last f below s x a m.0 q.0 m.1 (sym (ap (λ form. base_of form x.stack.2) m.1) ∙ q.2) m.2 m.3 q.1
  act_fits i.RetVoid q = retvoid_next code last f below s x q
  act_fits (i.Make to kind args) q = here_on _ (act code last f below s (i.Make to kind args)) (mark_put code s.regions to (Held s.regions) q.1 (omega arith) (stored_under s.regions args x.top.marks f.registers q.0 q.1 q.2 q.3 x.stack.0))
      (make_next code last f below s x.home (in_frames x.marks below) x.top.marks x.fits to kind args q.0 q.1 q.2 q.3)
  act_fits (i.Borrow to a) q = held_act to (i.Borrow to a) (borrow_next code last f below s x.home (in_frames x.marks below) x.top.marks x.fits to a q.0 q.2 q.1)
  act_fits (i.Frozen to a) q = seen_act to (i.Frozen to a) (frozen_next code last f below s x.home (in_frames x.marks below) x.top.marks x.fits to a q.2.0 q.0 q.2.1 q.2.2 q.1)
  act_fits (i.LoadOwn to a field) q = held_act to (i.LoadOwn to a field) (load_own_next code last f below s x.home (in_frames x.marks below) x.top.marks x.fits to a field q.0 q.2 q.1 q.3)
  act_fits (i.Load to a field at) q = by q.2
    where
      by : IsRead code f s x.top.marks x.stack.1 x.stack.2 a q.0 → NextFits code (act code last f below s (i.Load to a field at))
      by (inl m) = seen_act to (i.Load to a field at) (load_seen_next code last f below s x.home (in_frames x.marks below) x.top.marks x.fits to a field at m.0 q.0 m.1 m.2 q.1)
      by (inr m) = held_act to (i.Load to a field at) (load_held_next code last f below s x.home (in_frames x.marks below) x.top.marks x.fits to a field at q.0 m.0 m.1 q.1 m.2)
  act_fits (i.LoadLive to a field) q = seen_act to (i.LoadLive to a field) (load_live_next code last f below s x.home (in_frames x.marks below) x.top.marks x.fits to a field q.2.0 q.0 q.2.1 q.2.2 q.1)
  act_fits (i.ElemOwn to a y at) q = held_act to (i.ElemOwn to a y at) (element_own_next code last f below s x.home (in_frames x.marks below) x.top.marks x.fits to a y q.0 at q.1 q.4 q.2 q.3 q.5)
  act_fits (i.Elem to a y at) q = by q.4
    where
      by : IsRead code f s x.top.marks x.stack.1 x.stack.2 a q.0 → NextFits code (act code last f below s (i.Elem to a y at))
      by (inl m) = seen_act to (i.Elem to a y at) (element_seen_next code last f below s x.home (in_frames x.marks below) x.top.marks x.fits to a y at m.0 q.0 q.1 m.1 m.2 q.2 q.3)
      by (inr m) = held_act to (i.Elem to a y at) (element_held_next code last f below s x.home (in_frames x.marks below) x.top.marks x.fits to a y at q.0 q.1 m.0 m.1 q.2 q.3 m.2)
  act_fits (i.ElemLive to a y at) q = seen_act to (i.ElemLive to a y at) (element_live_next code last f below s x.home (in_frames x.marks below) x.top.marks x.fits to a y at q.4.0 q.0 q.1 q.4.1 q.4.2 q.2 q.3)
  act_fits (i.Len to a at) q = any_value (read f.registers a) _ (λ v. computes to at (array_length v s) (length_out code last f below s x.home (in_frames x.marks below) x.top.marks x.fits v))
  act_fits (i.LenLive to a) q = any_value (read f.registers a) _ (λ v. surely to (array_length v s) (length_out code last f below s x.home (in_frames x.marks below) x.top.marks x.fits v))
  act_fits (i.SwapOwn to a field b) q = stored_act to b q.1 (i.SwapOwn to a field b) (swap_own_next code last f below s x.home (in_frames x.marks below) x.top.marks x.fits to a field b q.0 q.1 q.4 q.5 q.2 q.3)
  act_fits (i.Swap to a field b at) q = stored_act to b q.1 (i.Swap to a field b at) (swap_next code last f below s x.home (in_frames x.marks below) x.top.marks x.fits to a field b at q.0 q.1 q.4 q.5 q.6 q.2 q.3)
  act_fits (i.SwapElOwn to a y b at) q = stored_act to b q.2 (i.SwapElOwn to a y b at) (swap_element_own_next code last f below s x.home (in_frames x.marks below) x.top.marks x.fits to a y b q.0 at q.1 q.2 q.6 q.7 q.3 q.4 q.5)
  act_fits (i.SwapEl to a y b at) q = stored_act to b q.2 (i.SwapEl to a y b at) (swap_element_next code last f below s x.home (in_frames x.marks below) x.top.marks x.fits to a y b at q.0 q.1 q.2 q.6 q.7 q.8 q.3 q.4 q.5)
  act_fits (i.Push a b at) q = here_on _ (act code last f below s (i.Push a b at)) (taken_under s.regions s.regions b q.1 x.top.marks x.stack.0) (push_next code last f below s x.home (in_frames x.marks below) x.top.marks x.fits a b at q.0 q.1 q.4 q.5 q.6 q.2 q.3)
  act_fits (i.Pop to a at) q = held_act to (i.Pop to a at) (pop_next code last f below s x.home (in_frames x.marks below) x.top.marks x.fits to a at q.0 q.2 q.3 q.1)
  act_fits (i.Open to a) q = here_on (marks_put s.regions to (put_mark x.top.marks a None)) (act code last f below s (i.Open to a)) (marks_put_under s.regions to (put_mark x.top.marks a None) (none_put s.regions s.regions a x.top.marks x.stack.0))
      (opened_next code last f below s x.home (in_frames x.marks below) x.top.marks x.fits to a q.0 q.1 q.2 (marks_put s.regions to (put_mark x.top.marks a None)) q.4 q.3 q.5 q.6
      (λ t g. drop_fits x.home _ _ t (put_all_fits s.regions to q.1.values (put_mark x.top.marks a None) (put f.registers a None) q.2 (in_frames x.marks below) q.6) g))
  act_fits (i.Destroy a at) q = destroy_next code last f below s x a at q.0 q.2 q.1
  act_fits (i.Merge to a) q = moved_act to a (i.Merge to a) (merge_next code last f below s x.home (in_frames x.marks below) x.top.marks x.fits to a q.0 q.2 q.1)
  act_fits (i.Freeze at) q = goes_on (f.place + 1) (suc s.regions) x.top.marks (act code last f below s (i.Freeze at)) (let y = x.stack.4 in omega (arith, y)) (each_map _ _ x.top.marks deeper x.stack.0)
      (freeze_next code last f below s x.home (in_frames x.marks below) x.top.marks x.fits at)
    where
      one_deeper : (how : How) → IsUnder s.regions s.regions how → IsUnder (suc s.regions) (suc s.regions) how
      one_deeper (Held a) u = omega (arith, u)
      one_deeper (Seen a) u = omega (arith, u)
      one_deeper Waits u = tt

      deeper : (m : Option How) → MarkUnder s.regions s.regions m → MarkUnder (suc s.regions) (suc s.regions) m
      deeper None u = tt
      deeper (Some how) u = one_deeper how u
  act_fits (i.ThawMerge to a) q = thaws_act q.1 (put_mark (lower_marks q.1 (put_mark x.top.marks a None)) to (Some (Held q.1))) (i.ThawMerge to a) q.4.1 (put_under q.1 to (lower_marks q.1 (put_mark x.top.marks a None)) q.4.3)
      (thaw_merge_next code last f below s x.home (in_frames x.marks below) x.top.marks x.fits q.1 q.4.0 to a q.0 q.3 q.2
      (both_leave q.1 (put_mark x.top.marks a None) (put f.registers a None) (in_frames x.marks below) q.4.2 (outer_leaves q.1 q.4.1)))
  act_fits (i.ThawKeep to a) q = thaws_act q.1 (put_mark (lower_marks q.1 (put_mark x.top.marks a None)) to (Some (Held q.1))) (i.ThawKeep to a) q.4.1 (put_under q.1 to (lower_marks q.1 (put_mark x.top.marks a None)) q.4.3)
      (thaw_keep_next code last f below s x.home (in_frames x.marks below) x.top.marks x.fits q.1 q.4.0 to a q.0 q.3 q.2
      (both_leave q.1 (put_mark x.top.marks a None) (put f.registers a None) (in_frames x.marks below) q.4.2 (outer_leaves q.1 q.4.1)) q.5)
  act_fits i.ThawClear q = thaws_act q.0 (lower_marks q.0 x.top.marks) i.ThawClear q.1.1 q.1.3
      (thaw_clear_next code last f below s x.home (in_frames x.marks below) x.top.marks x.fits q.0 q.1.0 (both_leave q.0 x.top.marks f.registers (in_frames x.marks below) q.1.2 (outer_leaves q.0 q.1.1)))
  act_fits (i.ParRange to a b g args at) q = par_range_next code last f below s x to a b g args at q.0 q.1 q.2 q.3 q.4
  act_fits (i.ParEach to a g args at) q = par_each_next code last f below s x to a g args at q.0 q.1 q.3 q.2 q.4 q.5 q.6
  act_fits (i.Upcast to a kind) q = by q.2
    where
      by : (mark x.top.marks a ≡ Some (Held s.regions)) ⊎ ((b : ℕ) × (mark x.top.marks a ≡ Some (Seen b)) × (b ≤ s.regions)) → NextFits code (act code last f below s (i.Upcast to a kind))
      by (inl m) = stored_act to a q.0 (i.Upcast to a kind) (upcast_held_next code last f below s x.home (in_frames x.marks below) x.top.marks x.fits to a kind q.0 m q.1)
      by (inr m) = seen_act to (i.Upcast to a kind) (upcast_seen_next code last f below s x.home (in_frames x.marks below) x.top.marks x.fits to a m.0 kind q.0 m.1 m.2 q.1)

  pub act_if_fits : (o : Option Instr) → AsksIf code f s x.top.marks x.stack.1 x.stack.2 o → NextFits code (act_if code last f below s o)
  act_if_fits None q = tt
  act_if_fits (Some instr) q = act_fits instr q

-- ---- every step

pub step_keeps : (code : Parts) (last : Config → State) (top : Frame) (below : List Frame) (s : State) (x : ConfigFits code (record { top = top; below = below; state = s })) → AsksOf code top below s x → NextFits code (step_of code last top below s)
step_keeps code last (Running f) below s x q = act_if_fits code last f below s x (fetch code f.function f.place) q
step_keeps code last (Dropping f) below s x q = dropping.drop_fits code f below s x
step_keeps code last (Looping f) below s x q = loop_fits code f below s x
step_keeps code last (Alone v) below s x q = tt

-- ---- marks are forgotten

weaker_nothing : (ns : Marks) (regs : Registers) (gs : List Holder) → IsWeaker ns [] → Behind gs (in_registers ns regs gs)
weaker_nothing [] regs gs x = behind_same gs
weaker_nothing (None ∷ ns) [] gs x = behind_same gs
weaker_nothing (None ∷ ns) (y ∷ regs) gs x = weaker_nothing ns regs gs x
weaker_nothing (Some h ∷ ns) regs gs x = absurd x

pub weaker_registers : (ns ms : Marks) (regs : Registers) (hs : List Holder) → IsWeaker ns ms → Behind (in_registers ms regs hs) (in_registers ns regs hs)
weaker_registers [] ms regs hs x = registers_behind ms regs hs
weaker_registers (None ∷ ns) [] regs hs x = weaker_nothing (None ∷ ns) regs hs x
weaker_registers (Some h ∷ ns) [] regs hs x = absurd x
weaker_registers (None ∷ ns) (m ∷ ms) [] hs x = behind_same hs
weaker_registers (None ∷ ns) (m ∷ ms) (y ∷ regs) hs x = at m y (weaker_registers ns ms regs hs x)
  where
    at : (m : Option How) (y : Option Value) → Behind (in_registers ms regs hs) (in_registers ns regs hs) → Behind (in_register m y (in_registers ms regs hs)) (in_registers ns regs hs)
    at None y b = b
    at (Some h) None b = b
    at (Some h) (Some v) b = record { counts = λ n. let y = b.counts n in omega (arith, y); each = λ P y. b.each P y.1 }
weaker_registers (Some h ∷ ns) (m ∷ ms) [] hs x = behind_same hs
weaker_registers (Some h ∷ ns) (m ∷ ms) (y ∷ regs) hs x =
    subst (λ m. Behind (in_register m y (in_registers ms regs hs)) (in_register (Some h) y (in_registers ns regs hs))) (sym x.0) (at y (weaker_registers ns ms regs hs x.1))
  where
    at : (y : Option Value) → Behind (in_registers ms regs hs) (in_registers ns regs hs) → Behind (in_register (Some h) y (in_registers ms regs hs)) (in_register (Some h) y (in_registers ns regs hs))
    at None b = b
    at (Some v) b = after_first (held_as h v) _ _ b

weaker_under : (r b : ℕ) (ns ms : Marks) → IsWeaker ns ms → Each (MarkUnder r b) ms → Each (MarkUnder r b) ns
weaker_under r b [] _ x u = tt
weaker_under r b (None ∷ ns) [] x u = (tt, weaker_under r b ns [] x tt)
weaker_under r b (Some h ∷ ns) [] x u = absurd x
weaker_under r b (None ∷ ns) (m ∷ ms) x u = (tt, weaker_under r b ns ms x u.1)
weaker_under r b (Some h ∷ ns) (m ∷ ms) x u = (subst (MarkUnder r b) x.0 u.0, weaker_under r b ns ms x.1 u.1)

-- a configuration fits with fewer marks too
pub forgets : (code : Parts) (f : Active) (below : List Frame) (s : State) (x : ConfigFits code (record { top = Running f; below = below; state = s })) (ns : Marks) → IsWeaker ns x.top.marks
    → ConfigFits code (record { top = Running f; below = below; state = s })
forgets code f below s x ns weaker = record {
  home = x.home;
  top = record { depth = x.top.depth; marks = ns };
  marks = x.marks;
  depth = x.depth;
  stack = (weaker_under s.regions s.regions ns x.top.marks weaker x.stack.0, x.stack.1, x.stack.2, x.stack.3, x.stack.4, x.stack.5);
  fits = drop_fits x.home (in_registers x.top.marks f.registers (in_frames x.marks below)) (in_registers ns f.registers (in_frames x.marks below)) s (weaker_registers ns x.top.marks f.registers (in_frames x.marks below) weaker) x.fits;
}
