-- What is put together of parts runs as its parts do.
use Rattle.std.proofs.Common.{◌≡◌, ◌≢◌, ℕ, ◌+◌, ◌<◌, ◌≤◌, List, [], ◌∷◌, ◌++◌, length, Option, Some, None, true, false, refl, sym, ap, ◌∙◌, subst, inr, arith, length-append}
use Rattle.vale_state_spec.specs.State.{State, lent}
use Rattle.vale_state_spec.specs.World.{Value, Int, Truth, Text, Own, Ref, Iso}
use Rattle.vale_model.specs.Runs.{Locals, Result, goes, Run, then_do, the_value, choose, give, nothing, ◌>>=◌, tick}
use Rattle.vale_code.specs.Frames.{Config}
use Rattle.vale_code.specs.Instructions as steps
use Rattle.vale_code.specs.Instructions.{fetch, onward, with_value, copied, with_choice}
use Rattle.vale_code.specs.Parts.{Parts}
use Rattle.vale_code.specs.Registers.{Registers, read, put}
use Rattle.vale_code.specs.declared.instr.Instr.{Instr}
use Rattle.vale_code.specs.declared.instr.Instr.TheVariants as i
use Rattle.vale_lowering.specs.Instructions.{load, store, exchange, if_code, loop_code}
use Rattle.vale_lowering.specs.Scopes.{Scope}
use Rattle.vale_lowering.proofs.Registers.{Held, IsPlain, Base, with_at, Falls, Agrees, agrees_put, agrees_down, agrees_set, top_read, one_above, Meets, Changes, pick_same, pick_other, read_put}
use Rattle.vale_lowering.proofs.Reaches.{Where, active, conf, calls_in, Comes, Reaches, Post, HasAt, Val, In, Keeps, has_front, has_back, comes_on, does, moves, comes_reaches, then_reaches, ends_at, stays, is_stuck, literal, free_back, jumps, jumps_on, chooses, ticks}

module _ (code : Parts) (k : Where) (n : ℕ) where
  -- ---- ways

  pub if_runs : (p h : ℕ) (s : Scope) (base : Base) (ct : List Instr) (ca cb : ℕ → List Instr) (c : Config) (rt : Result Value) (a b : Run (Option Value)) (post : Post (Option Value)) → Falls h s → HasAt code k.function p (if_code p h ct ca cb) → Reaches code k n (p + length ct) (Val h s base) c rt → ((q : ℕ) (v : Value) (l : Locals) (w : State) (regs : Registers) → v ≡ Truth true → Val h s base v l regs → w.left ≤ n → HasAt code k.function q (ca q) → Reaches code k n (q + length (ca q)) post (conf k q regs w) (a (calls_in k) l w)) → ((q : ℕ) (v : Value) (l : Locals) (w : State) (regs : Registers) → v ≡ Truth false → Val h s base v l regs → w.left ≤ n → HasAt code k.function q (cb q) → Reaches code k n (q + length (cb q)) post (conf k q regs w) (b (calls_in k) l w)) → Reaches code k n (p + length (if_code p h ct ca cb)) post c (then_do rt (λ v. choose v a b (calls_in k)))
  if_runs p h s base ct ca cb c rt a b post fa has test ra rb =
      then_reaches code k n p2 _ (Val h s base) post c rt _ test
      (λ v l w regs ag few. chooses code k n v h other p2 _ post regs l w a b (top_read s l base h (h + 1) (Some v) regs fa (omega arith) ag.1) hu.0 (omega arith)
      (λ is. jumps_on code k n (p2 + 1 + length one) _ post _ (a (calls_in k) l w) at_jump (omega (arith, len)) (ra (p2 + 1) v l w regs is ag few (has_front code k.function one _ (p2 + 1) hu.1)))
      (λ is. ends_at code k n (other + length two) _ post _ (b (calls_in k) l w) len (rb other v l w regs is ag few at_no)))
    where
      p2 : ℕ
      p2 = p + length ct

      one : List Instr
      one = ca (p2 + 1)

      other : ℕ
      other = p2 + 1 + length one + 1

      two : List Instr
      two = cb other

      hu : HasAt code k.function p2 (i.Unless h other ∷ (one ++ (i.Jump (other + length two) ∷ two)))
      hu = has_back code k.function ct _ p has

      hj : HasAt code k.function (p2 + 1 + length one) (i.Jump (other + length two) ∷ two)
      hj = has_back code k.function one _ (p2 + 1) hu.1

      len : other + length two ≡ p + length (if_code p h ct ca cb)
      len = omega (arith, length-append ct (i.Unless h other ∷ (one ++ (i.Jump (other + length two) ∷ two))), length-append one (i.Jump (other + length two) ∷ two))

      at_jump : fetch code k.function (p2 + 1 + length one) ≡ Some (i.Jump (p + length (if_code p h ct ca cb)))
      at_jump = hj.0 ∙ ap (λ q. Some (i.Jump q)) len

      at_no : HasAt code k.function other two
      at_no = hj.1

  -- the parts of a loop
  module _ (p h : ℕ) (tc bc : ℕ → List Instr) (has : HasAt code k.function p (loop_code p h tc bc)) where
    abbrev test_place : ℕ
    test_place = p + 2 + length (bc (p + 2))

    abbrev behind_test : List Instr
    behind_test = i.Unless h (test_place + length (tc test_place) + 2) ∷ i.Jump (p + 1) ∷ []

    behind_tick : HasAt code k.function (p + 2) (bc (p + 2) ++ (tc test_place ++ behind_test))
    behind_tick =
        let e : p + 1 + 1 ≡ p + 2 = omega arith in
        subst (λ q. HasAt code k.function q (bc (p + 2) ++ (tc test_place ++ behind_test))) e has.1.1

    pub loop_body : HasAt code k.function (p + 2) (bc (p + 2))
    loop_body = has_front code k.function (bc (p + 2)) _ (p + 2) behind_tick

    pub loop_test : HasAt code k.function test_place (tc test_place)
    loop_test = has_front code k.function (tc test_place) _ test_place (has_back code k.function (bc (p + 2)) _ (p + 2) behind_tick)

    pub loop_end : HasAt code k.function (test_place + length (tc test_place)) behind_test
    loop_end = has_back code k.function (tc test_place) _ test_place (has_back code k.function (bc (p + 2)) _ (p + 2) behind_tick)

  -- the test of a loop, from which its turns follow
  pub loop_tests : (p h : ℕ) (s : Scope) (base : Base) (tc bc : ℕ → List Instr) (c : Config) (rt : Result Value) (turn : Run (Option Value)) → Falls h s → HasAt code k.function p (loop_code p h tc bc) → Reaches code k n (p + 2 + length (bc (p + 2)) + length (tc (p + 2 + length (bc (p + 2))))) (Val h s base) c rt → ((l : Locals) (w : State) (regs : Registers) → Agrees h s l base regs → w.left < n → Reaches code k n (p + length (loop_code p h tc bc)) (In false h s base) (conf k (p + 2) regs w) (turn (calls_in k) l w)) → Reaches code k n (p + length (loop_code p h tc bc)) (In false h s base) c (then_do rt (λ v. choose v (tick >>= (λ _. turn)) nothing (calls_in k)))
  loop_tests p h s base tc bc c rt turn fa has test again =
      then_reaches code k n p2 _ (Val h s base) (In false h s base) c rt _ test
      (λ v l w regs ag few.
      let keep = agrees_down s l base (with_at h (Some v) base) h (h + 1) regs (omega arith) (one_above base h (Some v)) ag.1 in
      chooses code k n v h end p2 _ (In false h s base) regs l w (tick >>= (λ _. turn)) nothing (top_read s l base h (h + 1) (Some v) regs fa (omega arith) ag.1) he.0 (omega arith)
      (λ is. comes_reaches code k n _ (In false h s base) _ (conf k (p + 1) regs w) _ (jumps code k n (p2 + 1) (p + 1) regs w he.1.0 (free_back code k n (p2 + 1) (p + 1) regs has.1.0))
      (ticks code k n (p + 1) _ (In false h s base) regs l w turn has.1.0 few
      (λ u less. subst (λ q. Reaches code k n (p + length (loop_code p h tc bc)) (In false h s base) (conf k q regs u) (turn (calls_in k) l u)) two_on (again l u regs keep less))))
      (λ is. subst (λ q. Reaches code k n q (In false h s base) (conf k end regs w) (goes None l w)) len (stays code k n end (In false h s base) None l regs w keep few)))
    where
      b : List Instr
      b = bc (p + 2)

      begins : ℕ
      begins = p + 2 + length b

      t : List Instr
      t = tc begins

      p2 : ℕ
      p2 = begins + length t

      end : ℕ
      end = begins + length t + 2

      two_on : p + 2 ≡ p + 1 + 1
      two_on = omega arith

      he : HasAt code k.function p2 (i.Unless h end ∷ i.Jump (p + 1) ∷ [])
      he = loop_end p h tc bc has

      len : end ≡ p + length (loop_code p h tc bc)
      len = omega (arith, length-append b (t ++ (i.Unless h end ∷ i.Jump (p + 1) ∷ [])), length-append t (i.Unless h end ∷ i.Jump (p + 1) ∷ []))

  -- ---- locals

  -- what a plain value is copied to
  copied_is : (v : Value) → IsPlain v → copied v ≡ Some v
  copied_is (Int z) pv = refl
  copied_is (Truth b) pv = refl
  copied_is (Text t) pv = refl
  copied_is (Own m) pv = absurd pv
  copied_is (Ref m) pv = absurd pv
  copied_is (Iso m) pv = absurd pv

  pub copy_does : (p to from : ℕ) (regs : Registers) (w : State) (v : Value) → IsPlain v → read regs from ≡ Some v → does code k n p regs w (i.Copy to from) ≡ onward (active k p regs) (put regs to (Some v)) k.below w
  copy_does p to from regs w v pv e =
      ap (λ o. with_value o w (λ v. steps.gets (active k p regs) to (copied v) regs k.below w)) e ∙ ap (λ o. steps.gets (active k p regs) to o regs k.below w) (copied_is v pv)

  lent_is : (v : Value) → IsPlain v → lent v ≡ v
  lent_is (Int z) pv = refl
  lent_is (Truth b) pv = refl
  lent_is (Text t) pv = refl
  lent_is (Own m) pv = absurd pv
  lent_is (Ref m) pv = absurd pv
  lent_is (Iso m) pv = absurd pv

  -- a local's value
  pub loads : (p h : ℕ) (s : Scope) (base : Base) (l : Locals) (regs : Registers) (w : State) (o : Option ℕ) (u : Held) → Falls h s → Agrees h s l base regs → w.left ≤ n → Meets h s l o u → HasAt code k.function p (load o h) → Reaches code k n (p + length (load o h)) (In true h s base) (conf k p regs w) (then_do (then_do (the_value u (calls_in k) l w) (λ v. give (lent v) (calls_in k))) (λ v. give (Some v) (calls_in k)))
  loads p h s base l regs w None u fa ag few m has = is_stuck code k n p _ h (In true h s base) regs w _ has
  loads p h s base l regs w (Some r) None fa ag few m has = absurd m
  loads p h s base l regs w (Some r) (Some v) fa ag few m has =
      subst (λ x. Reaches code k n (p + 1) (In true h s base) (conf k p regs w) (goes (Some x) l w)) (sym (lent_is v m.1))
      (literal code k n p h h s base base l regs w (i.Copy h r) v fa (λ r lt. refl) (omega arith) ag few m.1 has.0 (copy_does p h r regs w v m.1 (ag.each r m.0 ∙ m.2 base)))

  -- A local gets what stands in h; r is what comes of what it held.
  pub stores : (p h : ℕ) (s : Scope) (base : Base) (l l' : Locals) (regs : Registers) (w : State) (v : Value) (o : Option ℕ) (u : Held) (r : Held → Result (Option Value)) → Falls h s → Val h s base v l regs → w.left ≤ n → Meets h s l o u → Changes h v s l o l' → ((u : Value) → IsPlain u → r (Some u) ≡ goes None l' w) → HasAt code k.function p (store o h) → Reaches code k n (p + length (store o h)) (Keeps {A = Option Value} h s base) (conf k p regs w) (r u)
  stores p h s base l l' regs w v None u r fa ag few m c gone has = is_stuck code k n p _ h (Keeps {A = Option Value} h s base) regs w (r u) has
  stores p h s base l l' regs w v (Some x) None r fa ag few m c gone has = absurd m
  stores p h s base l l' regs w v (Some q) (Some u) r fa ag few m c gone has =
      subst (λ x. Reaches code k n (p + 1) (Keeps {A = Option Value} h s base) (conf k p regs w) x) (sym (gone u m.1))
      (inr (
        put regs q (Some v),
        moves code k n p regs w (i.Copy q h) _ has.0 (copy_does p q h regs w v ag.0 (top_read s l base h (h + 1) (Some v) regs fa (omega arith) ag.1)),
        agrees_set s l l' base h q v regs c (agrees_down s l base (with_at h (Some v) base) h (h + 1) regs (omega arith) (one_above base h (Some v)) ag.1),
        few,
      ))

  -- A local gets what stands in h, and h what the local held; r is what comes of what it held.
  pub exchanges : (p h : ℕ) (s : Scope) (base : Base) (l l' : Locals) (regs : Registers) (w : State) (v : Value) (o : Option ℕ) (u : Held) (r : Held → Result (Option Value)) → Falls h s → Val h s base v l regs → w.left ≤ n → Meets h s l o u → Changes h v s l o l' → ((u : Value) → r (Some u) ≡ goes (Some u) l' w) → HasAt code k.function p (exchange o h) → Reaches code k n (p + length (exchange o h)) (In true h s base) (conf k p regs w) (r u)
  exchanges p h s base l l' regs w v None u r fa ag few m c gone has = is_stuck code k n p _ h (In true h s base) regs w (r u) has
  exchanges p h s base l l' regs w v (Some x) None r fa ag few m c gone has = absurd m
  exchanges p h s base l l' regs w v (Some q) (Some u) r fa ag few m c gone has =
      let on : p + 1 + 1 + 1 ≡ p + 3 = omega arith in
      subst (λ x. Reaches code k n (p + 3) (In true h s base) (conf k p regs w) x) (sym (gone u))
      (inr (
        regs3,
        subst (λ x. Comes code (conf k p regs w) (conf k x regs3 w)) on (comes_on code _ (conf k (p + 1) regs1 w) _ first (comes_on code _ (conf k (p + 1 + 1) regs2 w) _ second third)),
        (m.1, agrees_put s l' base base h h (Some u) regs2 fa (omega arith) (λ r lt. refl) low),
        few,
      ))
    where
      high : h < h + 1
      high = omega arith

      regs1 : Registers
      regs1 = put regs (h + 1) (Some u)

      regs2 : Registers
      regs2 = put regs1 q (Some v)

      regs3 : Registers
      regs3 = put regs2 h (Some u)

      here : read regs q ≡ Some u
      here =
          ag.1.each q (omega (arith, m.0)) ∙ m.2 (with_at h (Some v) base)

      first : Comes code (conf k p regs w) (conf k (p + 1) regs1 w)
      first = moves code k n p regs w (i.Copy (h + 1) q) _ has.0 (copy_does p (h + 1) q regs w u m.1 here)

      still : read regs1 h ≡ Some v
      still =
          let ne : h ≢ h + 1 = omega arith in
          read_put regs (h + 1) h (Some u) ∙ pick_other h (h + 1) (Some u) (read regs h) ne ∙ top_read s l base h (h + 1) (Some v) regs fa (omega arith) ag.1

      second : Comes code (conf k (p + 1) regs1 w) (conf k (p + 1 + 1) regs2 w)
      second = moves code k n (p + 1) regs1 w (i.Copy q h) _ has.1.0 (copy_does (p + 1) q h regs1 w v ag.0 still)

      other : read regs2 (h + 1) ≡ Some u
      other =
          let ne : h + 1 ≢ q = omega (arith, m.0) in
          read_put regs1 q (h + 1) (Some v) ∙ pick_other (h + 1) q (Some v) (read regs1 (h + 1)) ne ∙ read_put regs (h + 1) (h + 1) (Some u) ∙ pick_same (h + 1) (Some u) (read regs (h + 1))

      third : Comes code (conf k (p + 1 + 1) regs2 w) (conf k (p + 1 + 1 + 1) regs3 w)
      third = moves code k n (p + 1 + 1) regs2 w (i.Copy h (h + 1)) _ has.1.1.0 (copy_does (p + 1 + 1) h (h + 1) regs2 w u m.1 other)

      kept : Agrees h s l base regs1
      kept = record {
        names = ag.1.names;
        each = λ x lt. let ne : x ≢ h + 1 = omega arith in
            read_put regs (h + 1) x (Some u) ∙ pick_other x (h + 1) (Some u) (read regs x) ne ∙ (agrees_down s l base (with_at h (Some v) base) h (h + 1) regs (omega arith) (one_above base h (Some v)) ag.1).each x lt;
      }

      low : Agrees h s l' base regs2
      low = agrees_set s l l' base h q v regs1 c kept
