-- From the innermost function, by its registers, to all frames, and back.
use Rattle.std.proofs.Common.{◌≡◌, ℕ, ◌-◌, ◌<◌, ◌≤◌, List, ◌∷◌, length, take, Option, refl, sym, ap, ◌∙◌, subst, arith}
use Rattle.std.specs.Prelude.{Bool, IfOk, Result}
use Rattle.std.proofs.lemmas.List.{length-take-le}
use Rattle.vale_code.specs.Frames as meaning
use Rattle.vale_code.specs.Frames.{Config}
use Rattle.vale_code.specs.Instructions.{fetch}
use Rattle.vale_code.specs.Parts.{Parts}
use Rattle.vale_heap.specs.HeapState.{HeapState}
use Rattle.vale_heap.specs.declared.body.Cell.{Cell}
use Rattle.vale_registers.specs.Texts.{text_at}
use Rattle.vale_turn.specs.View.{Leads}
use Rattle.vale_turn.specs.declared.stop.Stop.{Stop}
use Rattle.vale_turn.specs.declared.stop.Stop.TheVariants as stop
use Rattle.vale_object_cells.specs.Names.{AllKnown, values_in}
use Rattle.vale_object_cells.specs.declared.register.Register.{Register}
use Rattle.vale_object_cells.specs.Cells.{cells_from}
use Rattle.vale_object_steps.specs.Views.{Grows, View}
use Rattle.vale_object_steps.specs.declared.effect.Want.{Want}
use Rattle.vale_object_turn.specs.Steps as turn
use Rattle.vale_object_stretch.specs.Stretch as stretch
use Rattle.vale_object_stretch.specs.Stretch.{AreFit, Leaving}
use Rattle.vale_object_passing.specs.Passing.{cells_of}
use Rattle.vale_object_frames.specs.Frames.{AreKnown, Lie, call_of, frames_in}
use Rattle.vale_object_frames.specs.declared.frame.Active.{Active}
use Rattle.vale_object_frames.specs.declared.frame.Frame.TheVariants as frame
use Rattle.vale_object_frames.proofs.FrameLaws.{frames_more, frames_same, known_by_more, known_same}
use Rattle.vale_object_flow.specs.Flow.{Runs, all_frames, row_of}
use Rattle.vale_object_flow.specs.declared.control.Control.{Control}
use Rattle.vale_object_advance.specs.Advance.{AllFit, Ended, IsUnderWay, Led, config_of, scene_of}

-- ---- registers that are part of others

-- what a stretch comes to, over these registers before it and those after it
abbrev pub Went : Result Stop Want → Parts → ℕ → (ℕ → Bool) → (ℕ → ℕ) → HeapState → HeapState → ℕ → List (List ℕ) → List (List ℕ) → ℕ → ℕ → ℕ → ℕ → List Register → List Register → Type 0
Went r code function out floors heap new base texts newer place left new_place new_left x y =
    IfOk r (λ told. (s : turn.Scene) (v : View) → stretch.IsUnderWay code function out floors s v heap (cells_from base texts x) place left
    → stretch.Ended code s v (turn.config s v place (cells_from base texts x)) told new (cells_from base newer y) new_place new_left)

pub went_as : (r : Result Stop Want) (code : Parts) (function : ℕ) (out : ℕ → Bool) (floors : ℕ → ℕ) (heap new : HeapState) (base : ℕ) (texts newer : List (List ℕ)) (place left new_place new_left : ℕ) (x own y after : List Register) → x ≡ own → y ≡ after
    → Went r code function out floors heap new base texts newer place left new_place new_left own after → Went r code function out floors heap new base texts newer place left new_place new_left x y
went_as r code function out floors heap new base texts newer place left new_place new_left x own y after a b h =
    subst (λ z. Went r code function out floors heap new base texts newer place left new_place new_left z y) (sym a) (subst (λ z. Went r code function out floors heap new base texts newer place left new_place new_left own z) (sym b) h)

-- ---- the innermost function

module _ (code : Parts) (v : View) (heap : HeapState) (c : Control) (left : ℕ) where
  abbrev cells : List (Option Cell)
  cells = cells_of c.top.base c.end c.texts c.registers.items

  pub runs_within : Runs code v heap (all_frames c) c.texts (row_of c) left → turn.Runs v heap cells left
  runs_within r = record { agrees = record { stands = r.stands; regions = r.regions; known = r.known.0 }; ticks_left = r.ticks_left }

  pub under_way_within : (out : ℕ → Bool) (floors : ℕ → ℕ) → IsUnderWay code out floors v heap c left → stretch.IsUnderWay code c.top.function out floors (scene_of code v c) v heap cells c.top.place left
  under_way_within out floors u = record { of_code = refl; by_last = refl; of_function = refl; low = u.low; runs = runs_within u.runs; sound = u.sound }

  -- its registers are as many as it has
  pub fits_within : c.end ≤ length c.registers.items → AllFit code → Runs code v heap (all_frames c) c.texts (row_of c) left → AreFit code c.top.function (c.end - c.top.base)
  fits_within few fits r =
      let p = r.lie.0 in
      let count : length (row_of c) ≡ c.end = length-take-le c.end c.registers.items few in
      subst (AreFit code c.top.function) (let size = p.size in omega (arith, size, count)) (fits.fit c.top.function p.func p.found)

-- ---- the same frames once it has gone on

module _ (code : Parts) (v : View) (old new : Control) (end : new.end ≡ old.end) (below : new.below ≡ old.below) (top : new.top ≡ record (old.top) { place = new.top.place })
    (under : take old.top.base (row_of new) ≡ take old.top.base (row_of old)) (few : old.top.base ≤ length (row_of old)) (as_many : length (row_of new) ≡ length (row_of old))
    (others : (i : ℕ) → i < old.top.base → text_at new.texts i ≡ text_at old.texts i) where
  abbrev base : ℕ
  base = old.top.base

  abbrev low : List Register
  low = take base (row_of old)

  within : (i : ℕ) → i < length low → text_at new.texts i ≡ text_at old.texts i
  within i lt = others i (let count = length-take-le base (row_of old) few in omega (arith, lt, count))

  base_is : new.top.base ≡ base
  base_is = ap (λ (a : Active). a.base) top

  -- what lies below the function is as it was
  below_is : (w : View) → Grows v w → AreKnown v.names old.below old.texts low → frames_in code w.names new.below new.texts (take new.top.base (row_of new)) ≡ frames_in code v.names old.below old.texts low
  below_is w g known =
      ap (λ fs. frames_in code w.names fs new.texts (take new.top.base (row_of new))) below
      ∙ ap (λ n. frames_in code w.names old.below new.texts (take n (row_of new))) base_is
      ∙ ap (frames_in code w.names old.below new.texts) under
      ∙ frames_same code w.names old.below old.texts new.texts low within
      ∙ ap (λ ns. frames_in code ns old.below old.texts low) g.names
      ∙ frames_more code v.names g.more old.below old.texts low known

  below_known : (w : View) → Grows v w → AreKnown v.names old.below old.texts low → AreKnown w.names new.below new.texts (take new.top.base (row_of new))
  below_known w g known =
      subst (λ fs. AreKnown w.names fs new.texts (take new.top.base (row_of new))) (sym below)
      (subst (λ n. AreKnown w.names old.below new.texts (take n (row_of new))) (sym base_is)
      (subst (AreKnown w.names old.below new.texts) (sym under)
      (known_same w.names old.below old.texts new.texts low within
      (subst (λ ns. AreKnown ns old.below old.texts low) (sym g.names) (known_by_more v.names g.more old.below old.texts low known)))))

  module _ (heap after : HeapState) (left new_left : ℕ) (r : Runs code v heap (all_frames old) old.texts (row_of old) left) where
    abbrev cells_now : List (Option Cell)
    cells_now = cells_of old.top.base old.end new.texts new.registers.items

    own_is : cells_of new.top.base new.end new.texts new.registers.items ≡ cells_now
    own_is = λ i. cells_of (base_is i) (end i) new.texts new.registers.items

    -- the configuration of the function, and that of all frames
    config_is : (w : View) → Grows v w → turn.config (scene_of code v old) w new.top.place cells_now ≡ config_of code w new
    config_is w g =
        let call : call_of code old.top ≡ call_of code new.top = sym (ap (call_of code) top) in
        let function : old.top.function ≡ new.top.function = sym (ap (λ (a : Active). a.function) top) in
        let dest : old.top.dest ≡ new.top.dest = sym (ap (λ (a : Active). a.dest) top) in
        let own = sym own_is in
        let fs = sym (below_is w g r.known.1) in
        λ i. record { top = meaning.Running (record { call = call i; function = function i; dest = dest i; place = new.top.place; registers = values_in w.names (own i) }); below = fs i; state = w.state }

    lies : Lie code (all_frames new) (length (row_of new))
    lies =
        subst (Lie code (all_frames new)) (sym as_many)
        (subst (λ fs. Lie code (frame.Running new.top ∷ fs) (length (row_of old))) (sym below)
        (subst (λ a. Lie code (frame.Running a ∷ old.below) (length (row_of old))) (sym top)
        (record { func = r.lie.0.func; found = r.lie.0.found; plain = r.lie.0.plain; size = r.lie.0.size }, r.lie.1, r.lie.2)))

    pub runs_so : (w : View) → Grows v w → turn.Runs w after cells_now new_left → Runs code w after (all_frames new) new.texts (row_of new) new_left
    runs_so w g t = record {
      stands = t.agrees.stands;
      regions = t.agrees.regions;
      known = (subst (λ cs. AllKnown w.names cs) (sym own_is) t.agrees.known, below_known w g r.known.1);
      ticks_left = t.ticks_left;
      lie = lies;
    }

    led_so : (c : Config) → stretch.Led code (scene_of code v old) v c after cells_now new.top.place new_left → Led code v c after new new_left
    led_so c l = record {
      view = l.view;
      grows = l.grows;
      runs = runs_so l.view l.grows l.runs;
      steady = l.steady;
      leads = subst (Leads code c) (config_is l.view l.grows) l.leads;
    }

    function_is : new.top.function ≡ old.top.function
    function_is = ap (λ (a : Active). a.function) top

    pub ended_so : (told : Stop) → stretch.Ended code (scene_of code v old) v (config_of code v old) told after cells_now new.top.place new_left → Ended code v (config_of code v old) told after new new_left
    ended_so stop.Going e = e
    ended_so (stop.Trap kind at) e = e
    ended_so stop.Cut e = e
    ended_so stop.Aside e = (led_so (config_of code v old) e.0, (e.1.0, ap (λ f. fetch code f new.top.place) function_is ∙ e.1.1, e.1.2))
    ended_so stop.Enters e = (led_so (config_of code v old) e.0, (e.1.0, ap (λ f. fetch code f new.top.place) function_is ∙ e.1.1, e.1.2))
    ended_so (stop.Leaves from) e = (led_so (config_of code v old) e.0, (e.1.0, ap (λ f. fetch code f new.top.place) function_is ∙ e.1.1, e.1.2))
