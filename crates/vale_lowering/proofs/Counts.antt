-- A counted loop runs as it means.
use Rattle.std.proofs.Common.{◌≡◌, ◌≢◌, ℕ, zero, suc, ◌+◌, ◌≤◌, ℤ, pos, negsuc, ◌+ℤ◌, ◌-ℤ◌, ◌≤ℤ◌, List, [], ◌∷◌, ◌++◌, length, Option, Some, None, Bool, true, false, if◌then◌else◌, Ok, Err, refl, ap, ◌∙◌, subst, arith, length-append}
use Rattle.std.proofs.lemmas.Int.{ints}
use Rattle.std.specs.Ordering.{int_cmp}
use Rattle.vale_state_spec.specs.State.{State, width_of, not_negative}
use Rattle.vale_state_spec.specs.World.{Value, Int, Truth, Text, Own, Ref, Iso}
use Rattle.vale_base.specs.declared.spot.Spot.{Spot}
use Rattle.vale_base.specs.declared.trap.TrapKind.TheVariants.{Overflow}
use Rattle.vale_text.specs.Operations.{is_int}
use Rattle.vale_text.specs.Operations as number
use Rattle.vale_text.specs.Steps as o
use Rattle.vale_model.specs.Runs.{Locals, Result, goes, Run, nothing, tick, ◌>>=◌}
use Rattle.vale_model.specs.Loops.{number_in, turns}
use Rattle.vale_code.specs.Frames.{wrong}
use Rattle.vale_code.specs.Instructions as steps
use Rattle.vale_code.specs.Parts.{Parts}
use Rattle.vale_code.specs.Registers.{Registers, read, put}
use Rattle.vale_code.specs.declared.instr.Instr.{Instr}
use Rattle.vale_code.specs.declared.instr.Instr.TheVariants as i
use Rattle.vale_lowering.specs.Instructions.{count_code}
use Rattle.vale_lowering.specs.Scopes.{Scope}
use Rattle.vale_lowering.proofs.Registers.{Held, IsPlain, Base, with_at, Falls, falls_up, fresh_above, Agrees, agrees_put, agrees_down, agrees_dest, top_read, next_read, one_above, two_above, pick, pick_same, pick_swap, pick_twice, read_put}
use Rattle.vale_lowering.proofs.Reaches.{Where, active, conf, calls_in, Comes, Reaches, HasAt, Val, In, Keeps, has_front, has_back, comes_on, does, moves, wrongs, comes_reaches, then_reaches, stays, free_on, free_back, jumps, chooses, ticks}
use Rattle.vale_lowering.proofs.Shapes.{loop_body, loop_test, loop_end, copy_does}
use Rattle.vale_lowering.proofs.Operators.{reads_two}

-- ---- the numbers of the turns

is_none : (d : ℤ) → not_negative d ≡ 0 → d ≤ℤ pos 0
is_none (pos n) e = omega (arith, ints, e)
is_none (negsuc n) e = omega (arith, ints)

is_some : (d : ℤ) (more : ℕ) → not_negative d ≡ suc more → d ≡ pos (suc more)
is_some (pos n) more e = ap pos e
is_some (negsuc n) more e = absurd (cc)

count_ends : (x y : ℤ) → width_of x y ≡ 0 → o.holds o.less (int_cmp x y) ≡ false
count_ends x y e = let h = is_none (y -ℤ x) e in grind (arith, ints, h)

count_goes_on : (x y : ℤ) (more : ℕ) → width_of x y ≡ suc more → o.holds o.less (int_cmp x y) ≡ true
count_goes_on x y more e = let h = is_some (y -ℤ x) more e in grind (arith, ints, h)

next_width : (x y : ℤ) (more : ℕ) → width_of x y ≡ suc more → width_of (x +ℤ pos 1) y ≡ more
next_width x y more e =
    let h = is_some (y -ℤ x) more e in
    let d : y -ℤ (x +ℤ pos 1) ≡ pos more = omega (arith, ints, h) in
    ap not_negative d

next_is_int : (x y : ℤ) (more : ℕ) → is_int x ≡ true → is_int y ≡ true → width_of x y ≡ suc more → is_int (x +ℤ pos 1) ≡ true
next_is_int x y more hx hy e = let h = is_some (y -ℤ x) more e in grind (arith, ints, h, hx, hy)

no_difference : (x : ℤ) → x -ℤ x ≡ pos 0
no_difference x = omega (arith, ints)

-- ---- the loop

module _ (code : Parts) (k : Where) (n p h : ℕ) (s : Scope) (base : Base) (at : Spot) (body : ℕ → List Instr) (run : ℤ → Run (Option Value)) (fa : Falls h s) (has : HasAt code k.function p (count_code p h at body)) where
  -- the register after the counter and the bound
  abbrev top : ℕ
  top = h + 1 + 1

  falls_top : Falls top s
  falls_top = falls_up s h top (omega arith) fa

  -- the counter and the bound in their registers
  abbrev counted : Value → Value → Base
  counted x y = with_at (h + 1) (Some y) (with_at h (Some x) base)

  abbrev test : ℕ → List Instr
  test q = i.Cmp top 2 h (h + 1) ∷ []

  abbrev count_on : List Instr
  count_on = i.Int top (pos 1) ∷ i.Add h h top at ∷ []

  abbrev turn : ℕ → List Instr
  turn q = i.Copy top h ∷ (body (q + 1) ++ count_on)

  -- the places of a turn, of the test, and after the loop
  abbrev begins : ℕ
  begins = p + 1 + 2

  abbrev start : ℕ
  start = begins + length (turn begins)

  abbrev end : ℕ
  end = p + length (count_code p h at body)

  -- The body runs in each turn as it means, and leaves the counter and the bound as they are.
  abbrev pub BodyRuns : Type 0
  BodyRuns =
      (q : ℕ) (x : ℤ) (base : Base) (l : Locals) (regs : Registers) (w : State) → is_int x ≡ true → Agrees (top + 1) s l (with_at top (Some (Int x)) base) regs → w.left ≤ n → HasAt code k.function q (body q) →
      Reaches code k n (q + length (body q)) (Keeps {A = Option Value} top s base) (conf k q regs w) (run x (calls_in k) l w)

  -- a value in the register after both
  put_top : (v : Held) (base : Base) (l : Locals) (regs : Registers) → Agrees top s l base regs → Agrees top s l base (put regs top v)
  put_top v base l regs ag =
      agrees_down s l base (with_at top v base) top (top + 1) (put regs top v) (omega arith) (one_above base top v)
      (agrees_put s l base base top top v regs falls_top (omega arith) (λ r lt. refl) ag)

  counter_read : (x y : Value) (l : Locals) (regs : Registers) → Agrees top s l (counted x y) regs → read regs h ≡ Some x
  counter_read x y l regs ag = next_read s l base h top (Some x) (Some y) regs fa (omega arith) ag

  bound_read : (x y : Value) (l : Locals) (regs : Registers) → Agrees top s l (counted x y) regs → read regs (h + 1) ≡ Some y
  bound_read x y l regs ag = top_read s l (with_at h (Some x) base) (h + 1) top (Some y) regs (falls_up s h (h + 1) (omega arith) fa) (omega arith) ag

  -- the counter gets another number
  agrees_next : (x y z : Value) (l : Locals) (regs : Registers) → Agrees top s l (counted x y) regs → Agrees top s l (counted z y) (put regs h (Some z))
  agrees_next x y z l regs ag =
      let ne : h ≢ h + 1 = omega arith in
      agrees_down s l (counted z y) (with_at h (Some z) (counted x y)) top top (put regs h (Some z)) (omega arith)
      (λ r lt. pick_swap r h (h + 1) (Some z) (Some y) (pick r h (Some x) (base r)) ne ∙ ap (pick r (h + 1) (Some y)) (pick_twice r h (Some z) (Some x) (base r)))
      (agrees_dest s l (counted x y) (counted x y) h top top (Some z) regs (fresh_above s h h fa (omega arith)) (omega arith) (λ r lt. refl) ag)

  -- after the body: the next number, and on to the test
  module _ (x y : ℤ) (next : is_int (x +ℤ pos 1) ≡ true) (l : Locals) (regs : Registers) (w : State) (ag : Agrees top s l (counted (Int x) (Int y)) regs) where
    abbrev q : ℕ
    q = begins + 1 + length (body (begins + 1))

    abbrev with_one : Registers
    with_one = put regs top (Some (Int (pos 1)))

    abbrev with_next : Registers
    with_next = put with_one h (Some (Int (x +ℤ pos 1)))

    kept : Agrees top s l (counted (Int x) (Int y)) with_one
    kept = put_top (Some (Int (pos 1))) (counted (Int x) (Int y)) l regs ag

    adds : o.add (Int x) (Int (pos 1)) w ≡ o.gives_int w (Ok (x +ℤ pos 1))
    adds = ap (λ b. o.gives_int w (if b then Ok (x +ℤ pos 1) else Err Overflow)) next

    counts_on : HasAt code k.function q count_on → Comes code (conf k q regs w) (conf k start with_next w)
    counts_on here =
        let on : q + 1 + 1 ≡ start = omega (arith, length-append (body (begins + 1)) count_on) in
        subst (λ r. Comes code (conf k q regs w) (conf k r with_next w)) on
        (comes_on code _ (conf k (q + 1) with_one w) _ (moves code k n q regs w (i.Int top (pos 1)) _ here.0 refl)
        (moves code k n (q + 1) with_one w (i.Add h h top at) _ here.1.0
        (reads_two with_one w h top (Int x) (Int (pos 1)) (λ v u. steps.answered (active k (q + 1) with_one) (Some h) with_one at k.below w (o.add v u w))
        (counter_read (Int x) (Int y) l with_one kept) (read_put regs top top (Some (Int (pos 1))) ∙ pick_same top (Some (Int (pos 1))) (read regs top))
        ∙ ap (λ a. steps.answered (active k (q + 1) with_one) (Some h) with_one at k.below w a) adds)))

    counted_on : Agrees top s l (counted (Int (x +ℤ pos 1)) (Int y)) with_next
    counted_on = agrees_next (Int x) (Int y) (Int (x +ℤ pos 1)) l with_one kept

  -- a turn, and what comes from the next test on
  turn_runs : BodyRuns → (x y : ℤ) (more : ℕ) (l : Locals) (regs : Registers) (w : State) → is_int x ≡ true → is_int (x +ℤ pos 1) ≡ true → Agrees top s l (counted (Int x) (Int y)) regs → w.left ≤ n →
      ((l : Locals) (regs : Registers) (w : State) → Agrees top s l (counted (Int (x +ℤ pos 1)) (Int y)) regs → w.left ≤ n → Reaches code k n end (In false h s base) (conf k start regs w) (turns more (x +ℤ pos 1) run (calls_in k) l w)) →
      Reaches code k n end (In false h s base) (conf k begins regs w) ((run x >>= (λ _. turns more (x +ℤ pos 1) run)) (calls_in k) l w)
  turn_runs runs x y more l regs w hx next ag few rest =
      comes_reaches code k n end (In false h s base) (conf k begins regs w) (conf k (begins + 1) copied w) _
      (moves code k n begins regs w (i.Copy top h) _ has_turn.0 (copy_does code k n begins top h regs w (Int x) hx (counter_read (Int x) (Int y) l regs ag)))
      (then_reaches code k n (begins + 1 + length (body (begins + 1))) end (Keeps {A = Option Value} top s (counted (Int x) (Int y))) (In false h s base) (conf k (begins + 1) copied w) (run x (calls_in k) l w) _
      (runs (begins + 1) x (counted (Int x) (Int y)) l copied w hx (agrees_put s l (counted (Int x) (Int y)) (counted (Int x) (Int y)) top top (Some (Int x)) regs falls_top (omega arith) (λ r lt. refl) ag) few (has_front code k.function (body (begins + 1)) count_on (begins + 1) has_turn.1))
      (λ v l w regs ag few.
      comes_reaches code k n end (In false h s base) _ (conf k start (with_next x y next l regs w ag) w) _
      (counts_on x y next l regs w ag (has_back code k.function (body (begins + 1)) count_on (begins + 1) has_turn.1))
      (rest l (with_next x y next l regs w ag) w (counted_on x y next l regs w ag) few)))
    where
      copied : Registers
      copied = put regs top (Some (Int x))

      has_turn : HasAt code k.function begins (turn begins)
      has_turn = loop_body code k n (p + 1) top test turn has.1

  -- the test
  tests : (x y : ℤ) (b : Bool) (l : Locals) (regs : Registers) (w : State) → o.holds o.less (int_cmp x y) ≡ b → Agrees top s l (counted (Int x) (Int y)) regs → Comes code (conf k start regs w) (conf k (start + 1) (put regs top (Some (Truth b))) w)
  tests x y b l regs w is ag =
      moves code k n start regs w (i.Cmp top 2 h (h + 1)) _ (loop_test code k n (p + 1) top test turn has.1).0
      (reads_two regs w h (h + 1) (Int x) (Int y) (λ v u. steps.certain (active k start regs) (Some top) regs k.below w (o.compare o.less v u w)) (counter_read (Int x) (Int y) l regs ag) (bound_read (Int x) (Int y) l regs ag)
      ∙ ap (λ c. steps.certain (active k start regs) (Some top) regs k.below w (o.gives_truth w c)) is)

  -- from the test on, with so many turns left
  counts : BodyRuns → (more : ℕ) (x y : ℤ) (l : Locals) (regs : Registers) (w : State) → width_of x y ≡ more → is_int x ≡ true → is_int y ≡ true → Agrees top s l (counted (Int x) (Int y)) regs → w.left ≤ n → Reaches code k n end (In false h s base) (conf k start regs w) (turns more x run (calls_in k) l w)
  counts runs zero x y l regs w left hx hy ag few =
      let tested = put regs top (Some (Truth false)) in
      let keep = put_top (Some (Truth false)) (counted (Int x) (Int y)) l regs ag in
      comes_reaches code k n end (In false h s base) _ (conf k (start + 1) tested w) (turns zero x run (calls_in k) l w) (tests x y false l regs w (count_ends x y left) ag)
      (chooses code k n (Truth false) top (start + 1 + 2) (start + 1) end (In false h s base) tested l w nothing nothing (read_put regs top top (Some (Truth false)) ∙ pick_same top (Some (Truth false)) (read regs top)) (loop_end code k n (p + 1) top test turn has.1).0 (omega arith)
      (λ is. absurd (cc))
      (λ is. subst (λ q. Reaches code k n q (In false h s base) (conf k (start + 1 + 2) tested w) (goes None l w)) len
      (stays code k n (start + 1 + 2) (In false h s base) None l tested w (agrees_down s l base (counted (Int x) (Int y)) h top tested (omega arith) (two_above base h (Some (Int x)) (Some (Int y))) keep) few)))
    where
      len : start + 1 + 2 ≡ end
      len = omega (arith, length-append (turn begins) (i.Cmp top 2 h (h + 1) ∷ i.Unless top (start + 1 + 2) ∷ i.Jump (p + 1 + 1) ∷ []))
  counts runs (suc more) x y l regs w left hx hy ag few =
      let tested = put regs top (Some (Truth true)) in
      let next = next_is_int x y more hx hy left in
      comes_reaches code k n end (In false h s base) _ (conf k (start + 1) tested w) (turns (suc more) x run (calls_in k) l w) (tests x y true l regs w (count_goes_on x y more left) ag)
      (chooses code k n (Truth true) top (start + 1 + 2) (start + 1) end (In false h s base) tested l w (tick >>= (λ _. run x >>= (λ _. turns more (x +ℤ pos 1) run))) nothing (read_put regs top top (Some (Truth true)) ∙ pick_same top (Some (Truth true)) (read regs top)) (loop_end code k n (p + 1) top test turn has.1).0 (omega arith)
      (λ is.
      comes_reaches code k n end (In false h s base) _ (conf k (p + 1 + 1) tested w) (turns (suc more) x run (calls_in k) l w)
      (jumps code k n (start + 1 + 1) (p + 1 + 1) tested w (loop_end code k n (p + 1) top test turn has.1).1.0 (free_back code k n (start + 1 + 1) (p + 1 + 1) tested has.1.1.0))
      (ticks code k n (p + 1 + 1) end (In false h s base) tested l w (run x >>= (λ _. turns more (x +ℤ pos 1) run)) has.1.1.0 few
      (λ u less. subst (λ q. Reaches code k n end (In false h s base) (conf k q tested u) ((run x >>= (λ _. turns more (x +ℤ pos 1) run)) (calls_in k) l u)) two_on
      (turn_runs runs x y more l tested u hx next (put_top (Some (Truth true)) (counted (Int x) (Int y)) l regs ag) (omega (arith, less))
      (λ l regs w ag few. counts runs more (x +ℤ pos 1) y l regs w (next_width x y more left) next hy ag few)))))
      (λ is. absurd (cc)))
    where
      two_on : begins ≡ p + 1 + 1 + 1
      two_on = omega arith

  module _ (l : Locals) (regs : Registers) (w : State) (few : w.left ≤ n) where
    differs : (v u : Value) → Agrees top s l (counted v u) regs → does code k n p regs w (i.Sub top h h at) ≡ steps.answered (active k p regs) (Some top) regs at k.below w (o.sub v v w)
    differs v u ag = reads_two regs w h h v v (λ v u. steps.answered (active k p regs) (Some top) regs at k.below w (o.sub v u w)) (counter_read v u l regs ag) (counter_read v u l regs ag)

    abbrev checked : Registers
    checked = put regs top (Some (Int (pos 0)))

    abbrev counted_from : Value → Value → Result (Option Value)
    counted_from v u = (number_in v >>= (λ x. number_in u >>= (λ y. turns (width_of x y) x run))) (calls_in k) l w

    abbrev Owed : Value → Value → Type 0
    Owed v u = Reaches code k n end (In false h s base) (conf k p regs w) (counted_from v u)

    no_count : (v u : Value) → Agrees top s l (counted v u) regs → steps.answered (active k p regs) (Some top) regs at k.below w (o.sub v v w) ≡ wrong w → Owed v u
    no_count v u ag e = wrongs code k n p end (In false h s base) regs w (i.Sub top h h at) (counted_from v u) w None has.0 (differs v u ag ∙ e)

    begun : (x : ℤ) (u : Value) → Agrees top s l (counted (Int x) u) regs → Comes code (conf k p regs w) (conf k start checked w)
    begun x u ag =
        comes_on code _ (conf k (p + 1) checked w) _
        (moves code k n p regs w (i.Sub top h h at) _ has.0 (differs (Int x) u ag ∙ ap (λ d. steps.answered (active k p regs) (Some top) regs at k.below w (o.gives_int w (number.int_or Overflow d))) (no_difference x)))
        (jumps code k n (p + 1) start checked w has.1.0 (free_on code k n (p + 1) start checked (omega arith)))

    no_bound : (x : ℤ) (u : Value) → Agrees top s l (counted (Int x) u) regs → steps.certain (active k start checked) (Some top) checked k.below w (o.compare o.less (Int x) u w) ≡ wrong w → Owed (Int x) u
    no_bound x u ag e =
        let keep = put_top (Some (Int (pos 0))) (counted (Int x) u) l regs ag in
        comes_reaches code k n end (In false h s base) _ (conf k start checked w) (counted_from (Int x) u) (begun x u ag)
        (wrongs code k n start end (In false h s base) checked w (i.Cmp top 2 h (h + 1)) (counted_from (Int x) u) w None (loop_test code k n (p + 1) top test turn has.1).0
        (reads_two checked w h (h + 1) (Int x) u (λ v u. steps.certain (active k start checked) (Some top) checked k.below w (o.compare o.less v u w)) (counter_read (Int x) u l checked keep) (bound_read (Int x) u l checked keep) ∙ e))

    -- from the bounds on
    pub count_runs : BodyRuns → (v u : Value) → IsPlain v → Val (h + 1) s (with_at h (Some v) base) u l regs → Owed v u
    count_runs runs (Int x) (Int y) pv ag =
        comes_reaches code k n end (In false h s base) _ (conf k start checked w) (counted_from (Int x) (Int y)) (begun x (Int y) ag.1)
        (counts runs (width_of x y) x y l checked w refl pv ag.0 (put_top (Some (Int (pos 0))) (counted (Int x) (Int y)) l regs ag.1) few)
    count_runs runs (Int x) (Truth b) pv ag = no_bound x (Truth b) ag.1 refl
    count_runs runs (Int x) (Text t) pv ag = no_bound x (Text t) ag.1 refl
    count_runs runs (Int x) (Own m) pv ag = absurd ag.0
    count_runs runs (Int x) (Ref m) pv ag = absurd ag.0
    count_runs runs (Int x) (Iso m) pv ag = absurd ag.0
    count_runs runs (Truth b) u pv ag = no_count (Truth b) u ag.1 refl
    count_runs runs (Text t) u pv ag = no_count (Text t) u ag.1 refl
    count_runs runs (Own m) u pv ag = absurd pv
    count_runs runs (Ref m) u pv ag = absurd pv
    count_runs runs (Iso m) u pv ag = absurd pv
