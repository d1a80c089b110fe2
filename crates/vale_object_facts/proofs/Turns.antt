-- How the walk goes through tests with their sides, and through loops.
use Rattle.std.proofs.Common.{◌≡◌, ℕ, suc, ◌+◌, List, [], ◌∷◌, ◌++◌, length, Some, false, refl, sym, ap, ◌∙◌, subst, arith, length-append, append_assoc}
use Rattle.std.proofs.lemmas.Bool.{and_from}
use Rattle.vale_code.specs.declared.instr.Instr.{Instr}
use Rattle.vale_code.specs.declared.instr.Instr.TheVariants as i
use Rattle.vale_code.specs.declared.ty.Ty.TheVariants as t
use Rattle.vale_cert.specs.Known.{Known}
use Rattle.vale_cert.specs.Walk.{target_of}
use Rattle.vale_cert.specs.declared.facts.RegFact.TheVariants.{Held}
use Rattle.vale_lowering_objects.specs.Lowered.{jump_over}
use Rattle.vale_lowering_objects.specs.Scopes.{Gone, After, comes, never, met}
use Rattle.vale_object_facts.specs.Slots.{Stand}
use Rattle.vale_object_facts.specs.Stands.{Stands, sides_stands, loop_stands}
use Rattle.vale_object_facts.proofs.Covering.{Site, at, Covers, Says, says_same, known_of, covers_stated}
use Rattle.vale_object_facts.proofs.Runs.{Ready, Cut, End, falls, stops, ending, Next, ready_more, ready_at, Placed, no_way, Does, goes, target_ready, target_placed, covers_kept, jumps, tests, Fits, front, back, tail, numbered_both, Runs}
use Rattle.vale_object_facts.proofs.Ways.{in_order}

module _ (k : Site) where
  -- a place that an instruction names has a label
  pub cut_named : {p q : ℕ} {instr : Instr} {s u : Stand} {is : List Instr} → Placed k p instr s → target_of instr ≡ Some q → Ready k q u is → Cut k q is
  cut_named {q = q} {u = u} {is} pl e r = no_way k is (pl.target q e (r.arrives (known_of k u) (covers_stated k u)).inside) r

  ready_in : {p : ℕ} {s : Stand} {is js : List Instr} → is ≡ js → Ready k p s is → Ready k p s js
  ready_in {p} {s} e r = subst (λ x. Ready k p s x) e r

  -- where both sides come to their end, the same are gone
  abbrev pub Meets : After → After → (Gone → Stand) → Type 0
  Meets (comes g) (comes c) end = Says k (end c) (end g)
  Meets _ _ end = Unit {0}

  -- ---- a test, where the first side comes to its end

  module _ (p h d : ℕ) (one two : List Instr) (om tw : Stands) (tested s1 s2 : Stand) (g : Gone) (second : After) (end : Gone → Stand) (is : at k tested h ≡ Held t.Truth d false)
      (y : Runs k (p + 1) one om s1 (falls (end g))) (z : Runs k (p + 1 + length one + 1) two tw s2 (ending second end)) (a1 : Says k tested s1) (a2 : Says k tested s2) (a3 : Meets (comes g) second end)
    where
      abbrev other : ℕ
      other = p + 1 + length one + 1

      abbrev fin : ℕ
      fin = other + length two

      abbrev whole : List Instr
      whole = i.Unless h other ∷ (one ++ (i.Jump fin ∷ two))

      abbrev whole_ms : Stands
      whole_ms = tested ∷ (om ++ (end g ∷ tw))

      after_one : Fits k p whole whole_ms → Fits k (p + 1 + length one) (i.Jump fin ∷ two) (end g ∷ tw)
      after_one f = back k one (i.Jump fin ∷ two) om (end g ∷ tw) y.along (tail k f)

      two_end : (o : After) → Meets (comes g) o end → {rest : List Instr} → Ready k fin (end g) rest → Cut k fin rest → Next k fin (ending o end) rest
      two_end (comes c) a r cut = ready_more k a r
      two_end (never c) a r cut = cut

      ready_both : Fits k p whole whole_ms → (rest : List Instr) → Ready k (p + length whole) (end g) rest → Ready k p tested (whole ++ rest)
      ready_both f rest r =
          let first = f.each.0 in
          let jump = (after_one f).each.0 in
          let room = first.room in
          let r' : Ready k fin (end g) rest = ready_at k (let e : p + length whole ≡ fin = omega (arith, length-append one (i.Jump fin ∷ two)) in e) r in
          let two_ready : Ready k other s2 (two ++ rest) = z.ready (tail k (after_one f)) rest (two_end second a3 r' (cut_named jump refl r')) in
          let jump_ready : Ready k (p + 1 + length one) (end g) (i.Jump fin ∷ (two ++ rest)) = jumps k fin jump (target_ready k jump refl r') (says_same k (end g)) (cut_named first refl two_ready) in
          let one_ready = y.ready (front k one (i.Jump fin ∷ two) om (end g ∷ tw) y.along (tail k f)) (i.Jump fin ∷ (two ++ rest)) jump_ready in
          ready_in (ap (λ l. i.Unless h other ∷ l) (sym (append_assoc one (i.Jump fin ∷ two) rest)))
          (tests k h other d first (omega (arith, room)) is (target_ready k first refl two_ready) a2 one_ready a1)

      both_come : Runs k p whole whole_ms tested (falls (end g))
      both_come = record {
        along = let a = y.along in let b = z.along in omega (arith, a, b, length-append om (end g ∷ tw), length-append one (i.Jump fin ∷ two));
        numbered = λ f.
            and_from _ _ (in_order k (i.Unless h other) refl f.each.0.room)
            (numbered_both k one (i.Jump fin ∷ two) (y.numbered (front k one (i.Jump fin ∷ two) om (end g ∷ tw) y.along (tail k f))) (z.numbered (tail k (after_one f))));
        ready = ready_both;
      }

  -- ---- a test, where the first side doesn't

  module _ (p h d : ℕ) (one two : List Instr) (om tw : Stands) (tested s1 s2 : Stand) (e : End) (is : at k tested h ≡ Held t.Truth d false)
      (y : Runs k (p + 1) one om s1 stops) (z : Runs k (p + 1 + length one + 0) two tw s2 e) (a1 : Says k tested s1) (a2 : Says k tested s2)
    where
      abbrev other' : ℕ
      other' = p + 1 + length one + 0

      abbrev whole' : List Instr
      whole' = i.Unless h other' ∷ (one ++ two)

      abbrev whole_ms' : Stands
      whole_ms' = tested ∷ (om ++ tw)

      after_one' : Fits k p whole' whole_ms' → Fits k other' two tw
      after_one' f = subst (λ q. Fits k q two tw) (let e : p + 1 + length one ≡ other' = omega arith in e) (back k one two om tw y.along (tail k f))

      ready_one : Fits k p whole' whole_ms' → (rest : List Instr) → Next k (p + length whole') e rest → Ready k p tested (whole' ++ rest)
      ready_one f rest r =
          let first = f.each.0 in
          let room = first.room in
          let two_ready : Ready k other' s2 (two ++ rest) = z.ready (after_one' f) rest (subst (λ q. Next k q e rest) (let e : p + length whole' ≡ other' + length two = omega (arith, length-append one two) in e) r) in
          let cut : Cut k (p + 1 + length one) (two ++ rest) = subst (λ q. Cut k q (two ++ rest)) (let e : other' ≡ p + 1 + length one = omega arith in e) (cut_named first refl two_ready) in
          let one_ready = y.ready (front k one two om tw y.along (tail k f)) (two ++ rest) cut in
          ready_in (ap (λ l. i.Unless h other' ∷ l) (sym (append_assoc one two rest)))
          (tests k h other' d first (omega (arith, room)) is (target_ready k first refl two_ready) a2 one_ready a1)

      one_comes : Runs k p whole' whole_ms' tested e
      one_comes = record {
        along = let a = y.along in let b = z.along in omega (arith, a, b, length-append om tw, length-append one two);
        numbered = λ f.
            and_from _ _ (in_order k (i.Unless h other') refl f.each.0.room)
            (numbered_both k one two (y.numbered (front k one two om tw y.along (tail k f))) (z.numbered (after_one' f)));
        ready = ready_one;
      }

  never_met : (before g : Gone) (o : After) (u : Gone → Stand) → ending o u ≡ ending (met before (never g) o) u
  never_met before g (comes c) u = refl
  never_met before g (never c) u = refl

  pub sides_runs : (first second : After) (before : Gone) (p h d : ℕ) (one two : List Instr) (om tw : Stands) (tested s1 s2 : Stand) (end : Gone → Stand) → at k tested h ≡ Held t.Truth d false
      → Runs k (p + 1) one om s1 (ending first end) → Runs k (p + 1 + length one + length (jump_over first 0)) two tw s2 (ending second end) → Says k tested s1 → Says k tested s2 → Meets first second end
      → Runs k p (i.Unless h (p + 1 + length one + length (jump_over first 0)) ∷ (one ++ (jump_over first (p + 1 + length one + length (jump_over first 0) + length two) ++ two))) (sides_stands tested om first end tw) tested (ending (met before first second) end)
  sides_runs (comes g) second before p h d one two om tw tested s1 s2 end is y z a1 a2 a3 = both_come p h d one two om tw tested s1 s2 g second end is y z a1 a2 a3
  sides_runs (never g) second before p h d one two om tw tested s1 s2 end is y z a1 a2 a3 =
      subst (λ e. Runs k p (i.Unless h (p + 1 + length one + 0) ∷ (one ++ two)) (tested ∷ (om ++ tw)) tested e) (never_met before g second end)
      (one_comes p h d one two om tw tested s1 s2 (ending second end) is y z a1 a2)

  -- a side that is run only where the register is true
  pub and_runs : (after : After) (p h d : ℕ) (one : List Instr) (om : Stands) (tested s1 u : Stand) (end : Gone → Stand) → at k tested h ≡ Held t.Truth d false → Runs k (p + 1) one om s1 (ending after end)
      → Says k tested s1 → Says k tested u → ((g : Gone) → after ≡ comes g → Says k (end g) u)
      → Runs k p (i.Unless h (p + 1 + length one) ∷ one) (tested ∷ om) tested (falls u)
  and_runs after p h d one om tested s1 u end is y a1 a2 a3 = record {
    along = ap suc y.along;
    numbered = λ f. and_from _ _ (in_order k (i.Unless h (p + 1 + length one)) refl f.each.0.room) (y.numbered (tail k f));
    ready = λ f rest r.
        let first = f.each.0 in
        let room = first.room in
        let r' : Ready k (p + 1 + length one) u rest = ready_at k (let z : p + suc (length one) ≡ p + 1 + length one = omega arith in z) r in
        tests k h (p + 1 + length one) d first (omega (arith, room)) is (target_ready k first refl r') a2 (y.ready (tail k f) rest (by after refl r' (cut_named first refl r'))) a1;
  }
    where
      by : (o : After) → after ≡ o → {rest : List Instr} → Ready k (p + 1 + length one) u rest → Cut k (p + 1 + length one) rest → Next k (p + 1 + length one) (ending o end) rest
      by (comes g) e r cut = ready_more k (a3 g e) r
      by (never g) e r cut = cut

  -- ---- loops

  ticks : {s : Stand} (known : Known) → Covers k known s → Does k i.Tick known s
  ticks known c = record { types = refl; present = refl; depths = refl; covers = covers_kept k c }

  module _ (p h d : ℕ) (body test : List Instr) (bm tm : Stands) (s tested : Stand) (after : After) (end : Gone → Stand) (x : Runs k (p + 2) body bm s (ending after end)) (y : Runs k (p + 2 + length body) test tm s (falls tested))
      (is : at k tested h ≡ Held t.Truth d false) (a1 : (g : Gone) → after ≡ comes g → Says k (end g) s) (a2 : Says k tested s)
    where
      abbrev start : ℕ
      start = p + 2 + length body

      abbrev loop_end : ℕ
      loop_end = start + length test + 2

      abbrev turns : List Instr
      turns = i.Unless h loop_end ∷ i.Jump (p + 1) ∷ []

      abbrev loop : List Instr
      loop = i.Jump start ∷ i.Tick ∷ (body ++ (test ++ turns))

      abbrev turn_ms : Stands
      turn_ms = tested ∷ tested ∷ []

      abbrev loop_ms : Stands
      loop_ms = s ∷ s ∷ (bm ++ (tm ++ turn_ms))

      in_loop : Fits k p loop loop_ms → Fits k (p + 2) (body ++ (test ++ turns)) (bm ++ (tm ++ turn_ms))
      in_loop f = subst (λ q. Fits k q (body ++ (test ++ turns)) (bm ++ (tm ++ turn_ms))) (let z : p + 1 + 1 ≡ p + 2 = omega arith in z) (tail k (tail k f))

      in_test : Fits k p loop loop_ms → Fits k start (test ++ turns) (tm ++ turn_ms)
      in_test f = back k body (test ++ turns) bm (tm ++ turn_ms) x.along (in_loop f)

      in_turns : Fits k p loop loop_ms → Fits k (start + length test) turns turn_ms
      in_turns f = back k test turns tm turn_ms y.along (in_test f)

      body_end : (o : After) → after ≡ o → {rest : List Instr} → Ready k start s rest → Cut k start rest → Next k start (ending o end) rest
      body_end (comes g) e r cut = ready_more k (a1 g e) r
      body_end (never g) e r cut = cut

      loop_ready : Fits k p loop loop_ms → (rest : List Instr) → Ready k (p + length loop) s rest → Ready k p s (loop ++ rest)
      loop_ready f rest r =
          let first = f.each.0 in
          let tick = f.each.1.0 in
          let test_jump = (in_turns f).each.0 in
          let back_jump = (in_turns f).each.1.0 in
          let room = test_jump.room in
          let r' : Ready k loop_end s rest = ready_at k (let e : p + length loop ≡ loop_end = omega (arith, length-append body (test ++ turns), length-append test turns) in e) r in
          let cut : Cut k (start + length test + 1 + 1) rest = subst (λ q. Cut k q rest) (let e : loop_end ≡ start + length test + 1 + 1 = omega arith in e) (cut_named test_jump refl r') in
          let back_ready : Ready k (start + length test + 1) tested (i.Jump (p + 1) ∷ rest) = jumps k (p + 1) back_jump (target_placed k back_jump refl tick) a2 cut in
          let test_ready : Ready k start s (test ++ (turns ++ rest)) =
          y.ready (front k test turns tm turn_ms y.along (in_test f)) (turns ++ rest) (tests k h loop_end d test_jump (omega (arith, room)) is (target_ready k test_jump refl r') a2 back_ready (says_same k tested)) in
          let body_ready : Ready k (p + 2) s (body ++ (test ++ (turns ++ rest))) =
          x.ready (front k body (test ++ turns) bm (tm ++ turn_ms) x.along (in_loop f)) (test ++ (turns ++ rest)) (body_end after refl test_ready (cut_named first refl test_ready)) in
          let tick_ready : Ready k (p + 1) s (i.Tick ∷ (body ++ (test ++ (turns ++ rest)))) = goes k i.Tick refl refl tick ticks (ready_at k (let e : p + 2 ≡ p + 1 + 1 = omega arith in e) body_ready) in
          let all : Ready k p s (i.Jump start ∷ i.Tick ∷ (body ++ (test ++ (turns ++ rest)))) = jumps k start first (target_ready k first refl test_ready) (says_same k s) (cut_named back_jump refl tick_ready) in
          ready_in (ap (λ l. i.Jump start ∷ i.Tick ∷ l) (sym (append_assoc body (test ++ turns) rest ∙ ap (λ l. body ++ l) (append_assoc test turns rest)))) all

      pub loop_whole : Runs k p loop loop_ms s (falls s)
      loop_whole = record {
        along = let a = x.along in let c = y.along in omega (arith, a, c, length-append bm (tm ++ turn_ms), length-append tm turn_ms, length-append body (test ++ turns), length-append test turns);
        numbered = λ f.
            numbered_both k body (test ++ turns) (x.numbered (front k body (test ++ turns) bm (tm ++ turn_ms) x.along (in_loop f)))
            (numbered_both k test turns (y.numbered (front k test turns tm turn_ms y.along (in_test f))) (and_from _ _ (in_order k (i.Unless h loop_end) refl (in_turns f).each.0.room) refl));
        ready = loop_ready;
      }

  pub loop_runs : (after : After) (p h d : ℕ) (body test : List Instr) (bm tm : Stands) (s tested : Stand) (end : Gone → Stand) → Runs k (p + 2) body bm s (ending after end) → Runs k (p + 2 + length body) test tm s (falls tested)
      → at k tested h ≡ Held t.Truth d false → ((g : Gone) → after ≡ comes g → Says k (end g) s) → Says k tested s
      → Runs k p (i.Jump (p + 2 + length body) ∷ i.Tick ∷ (body ++ (test ++ (i.Unless h (p + 2 + length body + length test + 2) ∷ i.Jump (p + 1) ∷ [])))) (loop_stands s bm tm tested) s (falls s)
  loop_runs after p h d body test bm tm s tested end x y is a1 a2 = loop_whole p h d body test bm tm s tested after end x y is a1 a2
