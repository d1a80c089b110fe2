-- How the walk goes through the shapes of code: tests with their sides, loops and returns.
use Rattle.std.proofs.Common.{◌≡◌, ℕ, zero, suc, ◌+◌, ◌<◌, List, [], ◌∷◌, ◌++◌, length, Some, None, Bool, true, false, not, refl, sym, ap, ◌∙◌, subst, arith, length-append, append_assoc}
use Rattle.std.specs.Prelude.{slice_set}
use Rattle.std.specs.List.{list_all}
use Rattle.std.proofs.lemmas.Bool.{and_from, eq-eqb}
use Rattle.std.proofs.lemmas.List.Folds.{list_all-append}
use Rattle.vale_code.specs.declared.instr.Instr.{Instr}
use Rattle.vale_code.specs.declared.instr.Instr.TheVariants as i
use Rattle.vale_code.specs.declared.ty.Ty.{Ty as CodeTy}
use Rattle.vale_code.specs.declared.ty.Ty.TheVariants as t
use Rattle.vale_cert.specs.Known.{Known, fact_of, is_there, has, is_free, label_at}
use Rattle.vale_cert.specs.Numbers.{numbers}
use Rattle.vale_cert.specs.Rules.{is_usable}
use Rattle.vale_cert.specs.Types.{is_void, is_copy}
use Rattle.vale_cert.specs.declared.facts.RegFact.{RegFact}
use Rattle.vale_cert.specs.declared.facts.RegFact.TheVariants.{Empty}
use Rattle.vale_lower_facts.specs.Slots.{Stand, behind, type_at}
use Rattle.vale_lower_facts.specs.Marks.{Marks, mark, if_marks, loop_marks}
use Rattle.vale_lower_facts.proofs.Stands.{Site, Covers, Says, says_same, Plain, plain_less, covers_plain, plain_behind, covers_kept, is_plain, plain_free, known_of, covers_stated}
use Rattle.vale_lower_facts.proofs.Rows.{own, numbered as one_numbered}
use Rattle.vale_lower_facts.proofs.Runs.{row_at, Ready, ready_more, Goes, step, no_way, label_mark, Does, goes, target_ready, target_label, jumps, tests, Fits, front, back, tail, AllPlain, all_plain, plain_both, Runs}

module _ (k : Site) where
  pub ready_due : {p : ℕ} {s : Stand} {is : List Instr} (d : Bool) → Ready k p true s is → Ready k p d s is
  ready_due d r = record { labelled = λ e. r.labelled refl; arrives = r.arrives }

  pub ready_at : {p q : ℕ} {d : Bool} {s : Stand} {is : List Instr} → p ≡ q → Ready k p d s is → Ready k q d s is
  ready_at {d = d} {s} {is} e r = subst (λ x. Ready k x d s is) e r

  pub ready_in : {p : ℕ} {d : Bool} {s : Stand} {is js : List Instr} → is ≡ js → Ready k p d s is → Ready k p d s js
  ready_in {p} {d} {s} e r = subst (λ x. Ready k p d s x) e r

  abbrev numbered : List Instr → Bool
  numbered cs = list_all (numbers k.code k.func.registers) cs

  numbered_both : (a b : List Instr) → numbered a ≡ true → numbered b ≡ true → numbered (a ++ b) ≡ true
  numbered_both a b e f = list_all-append (numbers k.code k.func.registers) a b ∙ and_from _ _ e f

  -- ---- a test with two sides

  assoc_if : (test one two rest : List Instr) (x y : Instr) → (test ++ (x ∷ (one ++ (y ∷ two)))) ++ rest ≡ test ++ (x ∷ (one ++ (y ∷ (two ++ rest))))
  assoc_if test one two rest x y = append_assoc test (x ∷ (one ++ (y ∷ two))) rest ∙ ap (λ l. test ++ (x ∷ l)) (append_assoc one (y ∷ two) rest)

  module _ (p h : ℕ) (test one two : List Instr) (tm om tw : Marks) (due dt d1 d2 : Bool) (s tested s1 b1 s2 b2 u : Stand) (x : Runs k p test tm due s dt tested) (is : type_at k.last tested h ≡ Some t.Truth)
      (y : Runs k (p + length test + 1) one om false s1 d1 b1) (z : Runs k (p + length test + 1 + length one + 1) two tw true s2 d2 b2)
      (a1 : Says k tested s1) (a2 : Says k tested s2) (a3 : Says k b1 s2) (a4 : Says k b1 u) (a5 : Says k b2 u)
    where
      abbrev other : ℕ
      other = p + length test + 1 + length one + 1

      abbrev end : ℕ
      end = other + length two

      abbrev sides : List Instr
      sides = one ++ (i.Jump end ∷ two)

      abbrev whole : List Instr
      whole = test ++ (i.Unless h other ∷ sides)

      if_along : length (if_marks tm dt tested om d1 b1 tw) ≡ length whole
      if_along =
          let a = x.along in let b = y.along in let c = z.along in
          omega (arith, a, b, c, length-append tm (mark dt tested ∷ (om ++ (mark d1 b1 ∷ tw))), length-append om (mark d1 b1 ∷ tw), length-append test (i.Unless h other ∷ sides), length-append one (i.Jump end ∷ two))

      if_numbered : Fits k p whole (if_marks tm dt tested om d1 b1 tw) → numbered whole ≡ true
      if_numbered f =
          let f2 = back k test (i.Unless h other ∷ sides) tm (mark dt tested ∷ (om ++ (mark d1 b1 ∷ tw))) x.along f in
          let f3 = tail k f2 in
          let f4 = back k one (i.Jump end ∷ two) om (mark d1 b1 ∷ tw) y.along f3 in
          let room = f2.each.1 in
          numbered_both test (i.Unless h other ∷ sides) (x.numbered (front k test (i.Unless h other ∷ sides) tm (mark dt tested ∷ (om ++ (mark d1 b1 ∷ tw))) x.along f))
          (and_from _ _ (one_numbered k (i.Unless h other) refl room)
          (numbered_both one (i.Jump end ∷ two) (y.numbered (front k one (i.Jump end ∷ two) om (mark d1 b1 ∷ tw) y.along f3)) (z.numbered (tail k f4))))

      if_ready : Fits k p whole (if_marks tm dt tested om d1 b1 tw) → (rest : List Instr) → Ready k (p + length whole) true u rest → Ready k p due s (whole ++ rest)
      if_ready f rest r =
          let f2 = back k test (i.Unless h other ∷ sides) tm (mark dt tested ∷ (om ++ (mark d1 b1 ∷ tw))) x.along f in
          let f3 = tail k f2 in
          let f4 = back k one (i.Jump end ∷ two) om (mark d1 b1 ∷ tw) y.along f3 in
          let room = f2.each.1 in
          let len : p + length whole ≡ end = omega (arith, length-append test (i.Unless h other ∷ sides), length-append one (i.Jump end ∷ two)) in
          let r' : Ready k end true u rest = ready_at len r in
          let two_ready : Ready k other true s2 (two ++ rest) = z.ready (tail k f4) rest (ready_due d2 (ready_more k a5 r')) in
          let jump_ready : Ready k (p + length test + 1 + length one) d1 b1 (i.Jump end ∷ (two ++ rest)) = jumps k end f4.each.0 (target_ready k r') a4 two_ready (plain_less k a3) in
          let one_ready = y.ready (front k one (i.Jump end ∷ two) om (mark d1 b1 ∷ tw) y.along f3) (i.Jump end ∷ (two ++ rest)) jump_ready in
          ready_in (sym (assoc_if test one two rest (i.Unless h other) (i.Jump end)))
          (x.ready (front k test (i.Unless h other ∷ sides) tm (mark dt tested ∷ (om ++ (mark d1 b1 ∷ tw))) x.along f) (i.Unless h other ∷ (one ++ (i.Jump end ∷ (two ++ rest))))
          (tests k h other f2.each.0 (omega (arith, room)) is (target_ready k two_ready) a2 one_ready a1))

      if_plains : Plain k s → Plain k u × AllPlain k (if_marks tm dt tested om d1 b1 tw)
      if_plains p =
          let a = x.plains p in
          let b = y.plains (plain_less k a1 a.0) in
          let c = z.plains (plain_less k a2 a.0) in
          (plain_less k a4 b.0, plain_both k tm (mark dt tested ∷ (om ++ (mark d1 b1 ∷ tw))) a.1 (all_plain k dt tested (om ++ (mark d1 b1 ∷ tw)) a.0 (plain_both k om (mark d1 b1 ∷ tw) b.1 (all_plain k d1 b1 tw b.0 c.1))))

      if_whole : Runs k p whole (if_marks tm dt tested om d1 b1 tw) due s true u
      if_whole = record { along = if_along; numbered = if_numbered; ready = if_ready; plains = if_plains }

  pub if_runs : {p : ℕ} (h : ℕ) {test one two : List Instr} {tm om tw : Marks} {due dt d1 d2 : Bool} {s tested s1 b1 s2 b2 u : Stand} → Runs k p test tm due s dt tested → type_at k.last tested h ≡ Some t.Truth
      → Runs k (p + length test + 1) one om false s1 d1 b1 → Runs k (p + length test + 1 + length one + 1) two tw true s2 d2 b2
      → Says k tested s1 → Says k tested s2 → Says k b1 s2 → Says k b1 u → Says k b2 u
      → Runs k p (test ++ (i.Unless h (p + length test + 1 + length one + 1) ∷ (one ++ (i.Jump (p + length test + 1 + length one + 1 + length two) ∷ two)))) (if_marks tm dt tested om d1 b1 tw) due s true u
  if_runs {p} h {test} {one} {two} {tm} {om} {tw} {due} {dt} {d1} {d2} {s} {tested} {s1} {b1} {s2} {b2} {u} x is y z a1 a2 a3 a4 a5 =
      if_whole p h test one two tm om tw due dt d1 d2 s tested s1 b1 s2 b2 u x is y z a1 a2 a3 a4 a5

  -- a side that is run only where the register is true
  pub and_runs : {p h : ℕ} {one : List Instr} {om : Marks} {due d : Bool} {tested s1 b1 u : Stand} → type_at k.last tested h ≡ Some t.Truth → Runs k (p + 1) one om false s1 d b1 → Says k tested s1 → Says k tested u → Says k b1 u → Runs k p (i.Unless h (p + 1 + length one) ∷ one) (mark due tested ∷ om) due tested true u
  and_runs {p} {h} {one} {om} {due} {d} {tested} {s1} {b1} {u} is y a1 a2 a3 = record {
    along = ap suc y.along;
    numbered = λ f. let room = f.each.1 in and_from _ _ (one_numbered k (i.Unless h (p + 1 + length one)) refl (omega (arith, room))) (y.numbered (tail k f));
    ready = λ f rest r.
        let room = f.each.1 in
        let r' : Ready k (p + 1 + length one) true u rest = ready_at (let z : p + suc (length one) ≡ p + 1 + length one = omega arith in z) r in
        tests k h (p + 1 + length one) f.each.0 (omega (arith, room)) is (target_ready k r') a2 (y.ready (tail k f) rest (ready_due d (ready_more k a3 r'))) a1;
    plains = λ p. (plain_less k a2 p, all_plain k due tested om p (y.plains (plain_less k a1 p)).1);
  }

  -- ---- loops

  ticks : {s : Stand} (known : Known) → Covers k known s → Does k i.Tick known s
  ticks known c = record { types = refl; present = refl; depths = refl; covers = covers_kept k c }

  module _ (p h : ℕ) (body test : List Instr) (bm tm : Marks) (due d dt : Bool) (s b tested : Stand) (x : Runs k (p + 2) body bm false s d b) (y : Runs k (p + 2 + length body) test tm true s dt tested)
      (is : type_at k.last tested h ≡ Some t.Truth) (a1 : Says k b s) (a2 : Says k tested s)
    where
      abbrev start : ℕ
      start = p + 2 + length body

      abbrev loop_end : ℕ
      loop_end = start + length test + 2

      abbrev turns : List Instr
      turns = i.Unless h loop_end ∷ i.Jump (p + 1) ∷ []

      abbrev loop : List Instr
      loop = i.Jump start ∷ i.Tick ∷ (body ++ (test ++ turns))

      abbrev loop_ms : Marks
      loop_ms = loop_marks due s bm tm dt tested

      inner : Fits k p loop loop_ms → Fits k (p + 2) (body ++ (test ++ turns)) (bm ++ (tm ++ (mark dt tested ∷ None ∷ [])))
      inner f = subst (λ q. Fits k q (body ++ (test ++ turns)) (bm ++ (tm ++ (mark dt tested ∷ None ∷ [])))) (let z : p + 1 + 1 ≡ p + 2 = omega arith in z) (tail k (tail k f))

      loop_along : length loop_ms ≡ length loop
      loop_along =
          let a = x.along in let c = y.along in
          omega (arith, a, c, length-append bm (tm ++ (mark dt tested ∷ None ∷ [])), length-append tm (mark dt tested ∷ None ∷ []), length-append body (test ++ turns), length-append test turns)

      loop_numbered : Fits k p loop loop_ms → numbered loop ≡ true
      loop_numbered f =
          let fb = inner f in
          let ft = back k body (test ++ turns) bm (tm ++ (mark dt tested ∷ None ∷ [])) x.along fb in
          let fe = back k test turns tm (mark dt tested ∷ None ∷ []) y.along ft in
          let room = fe.each.1 in
          numbered_both body (test ++ turns) (x.numbered (front k body (test ++ turns) bm (tm ++ (mark dt tested ∷ None ∷ [])) x.along fb))
          (numbered_both test turns (y.numbered (front k test turns tm (mark dt tested ∷ None ∷ []) y.along ft)) (and_from _ _ (one_numbered k (i.Unless h (p + 2 + length body + length test + 2)) refl (omega (arith, room))) refl))

      loop_ready : Fits k p loop loop_ms → (rest : List Instr) → Ready k (p + length loop) true s rest → Ready k p due s (loop ++ rest)
      loop_ready f rest r =
          let fb = inner f in
          let ft = back k body (test ++ turns) bm (tm ++ (mark dt tested ∷ None ∷ [])) x.along fb in
          let fe = back k test turns tm (mark dt tested ∷ None ∷ []) y.along ft in
          let room = fe.each.1 in
          let len : p + length loop ≡ loop_end = omega (arith, length-append body (test ++ turns), length-append test turns) in
          let r' : Ready k loop_end true s rest = ready_at len r in
          let r'' : Ready k (start + length test + 1 + 1) true s rest = ready_at (let z : loop_end ≡ start + length test + 1 + 1 = omega arith in z) r' in
          let back_ready : Ready k (start + length test + 1) false s (i.Jump (p + 1) ∷ rest) = jumps k (p + 1) fe.each.2.0 (target_label k f.each.2.0) (says_same k s) r'' (λ pl. pl) in
          let test_ready : Ready k start true s (test ++ (turns ++ rest)) =
          y.ready (front k test turns tm (mark dt tested ∷ None ∷ []) y.along ft) (turns ++ rest) (tests k h loop_end fe.each.0 (omega (arith, room)) is (target_ready k r') a2 back_ready a2) in
          let body_ready : Ready k (p + 2) false s (body ++ (test ++ (turns ++ rest))) = x.ready (front k body (test ++ turns) bm (tm ++ (mark dt tested ∷ None ∷ [])) x.along fb) (test ++ (turns ++ rest)) (ready_due d (ready_more k a1 test_ready)) in
          let tick_ready : Ready k (p + 1) true s (i.Tick ∷ (body ++ (test ++ (turns ++ rest)))) =
          goes k i.Tick refl refl f.each.2.0 ticks (ready_at (let z : p + 2 ≡ p + 1 + 1 = omega arith in z) body_ready) in
          let all : Ready k p due s (i.Jump start ∷ i.Tick ∷ (body ++ (test ++ (turns ++ rest)))) = jumps k start f.each.0 (target_ready k test_ready) (says_same k s) tick_ready (λ pl. pl) in
          ready_in (ap (λ l. i.Jump start ∷ i.Tick ∷ l) (sym (append_assoc body (test ++ turns) rest ∙ ap (λ l. body ++ l) (append_assoc test turns rest)))) all

      loop_plains : Plain k s → Plain k s × AllPlain k loop_ms
      loop_plains p =
          let a = x.plains p in
          let c = y.plains p in
          (p, all_plain k due s (Some s ∷ (bm ++ (tm ++ (mark dt tested ∷ None ∷ [])))) p (p, plain_both k bm (tm ++ (mark dt tested ∷ None ∷ [])) a.1 (plain_both k tm (mark dt tested ∷ None ∷ []) c.1 (all_plain k dt tested (None ∷ []) c.0 tt))))

      loop_whole : Runs k p loop loop_ms due s true s
      loop_whole = record { along = loop_along; numbered = loop_numbered; ready = loop_ready; plains = loop_plains }

  pub loop_runs : {p : ℕ} (h : ℕ) {body test : List Instr} {bm tm : Marks} (due : Bool) {d dt : Bool} {s b tested : Stand} → Runs k (p + 2) body bm false s d b → Runs k (p + 2 + length body) test tm true s dt tested
      → type_at k.last tested h ≡ Some t.Truth → Says k b s → Says k tested s
      → Runs k p (i.Jump (p + 2 + length body) ∷ i.Tick ∷ (body ++ (test ++ (i.Unless h (p + 2 + length body + length test + 2) ∷ i.Jump (p + 1) ∷ [])))) (loop_marks due s bm tm dt tested) due s true s
  loop_runs {p} h {body} {test} {bm} {tm} due {d} {dt} {s} {b} {tested} x y is a1 a2 = loop_whole p h body test bm tm due d dt s b tested x y is a1 a2

  -- ---- returns

  not_void : (ty : CodeTy) → is_copy ty ≡ true → not (is_void ty) ≡ true
  not_void t.Void e = let x : ⊥ = cc in absurd x
  not_void _ e = refl

  all_free : (regs : List RegFact) → ((r : ℕ) → is_plain (fact_of regs r) ≡ true) → list_all is_free regs ≡ true
  all_free [] h = refl
  all_free (x ∷ regs) h = and_from (is_free x) (list_all is_free regs) (plain_free x (h 0)) (all_free regs (λ r. h (suc r)))

  emptied : (regs : List RegFact) (q : ℕ) → ((r : ℕ) → is_plain (fact_of regs r) ≡ true) → (r : ℕ) → is_plain (fact_of (slice_set regs q Empty) r) ≡ true
  emptied [] q h r = h r
  emptied (x ∷ regs) zero h zero = refl
  emptied (x ∷ regs) zero h (suc r) = h (suc r)
  emptied (x ∷ regs) (suc q) h zero = h zero
  emptied (x ∷ regs) (suc q) h (suc r) = emptied regs q (λ r. h (suc r)) r

  -- what a return does, wherever it stands
  pub record Leaves (instr : Instr) (known : Known) : Type 0 where
    pub types : (row_at k instr known).kept.types ≡ true
    pub present : (row_at k instr known).kept.present ≡ true
    pub depths : (row_at k instr known).kept.depths ≡ true

  pub value_leaves : {s : Stand} (h : ℕ) (known : Known) → h < k.func.registers → type_at k.last s h ≡ Some k.func.result → Covers k known s → Leaves (i.Ret h) known
  value_leaves h known lt is c =
      let e = c.held h k.func.result lt is in
      let o = own k.func.result (subst (λ x. is_plain x ≡ true) e (c.plain h)) in
      record {
        types = and_from _ _ (not_void k.func.result (subst (λ x. is_plain x ≡ true) e (c.plain h))) (ap (has k.func.result) e ∙ o.has_it);
        present = and_from _ _ (ap is_there e) (all_free (slice_set known.regs h Empty) (emptied known.regs h c.plain));
        depths = and_from _ _ (ap (is_usable known.depth) e ∙ o.usable known.depth) (eq-eqb known.depth 0 c.depth);
      }

  pub nothing_leaves : {s : Stand} (known : Known) → k.func.result ≡ t.Void → Covers k known s → Leaves i.RetVoid known
  nothing_leaves known e c = record {
    types = ap is_void e;
    present = all_free known.regs c.plain;
    depths = eq-eqb known.depth 0 c.depth;
  }

  -- after a return no run goes on
  module _ {p : ℕ} {due : Bool} {s : Stand} {rest : List Instr} where
    pub ret_ready : (h : ℕ) → label_at k.labels p ≡ label_mark k p (mark due s) → h < k.func.registers → type_at k.last s h ≡ Some k.func.result → Ready k (p + 1) true (behind true s) rest → Ready k p due s (i.Ret h ∷ rest)
    ret_ready h e lt is r = step k p due s (i.Ret h) rest e by
      where
        by : (known : Known) → Covers k known s → Goes k p (i.Ret h) known rest
        by known c =
            let l = value_leaves h known lt is c in
            let pl = plain_behind k true (covers_plain k c) in
            let less = (r.arrives (known_of k (behind true s)) (covers_stated k (behind true s) pl)).inside in
            record { types = l.types; present = l.present; depths = l.depths; to_target = refl; to_next = refl; target = refl; next = refl; inside = omega (arith, less); walks = no_way k rest r pl }

    pub void_ready : label_at k.labels p ≡ label_mark k p (mark due s) → k.func.result ≡ t.Void → Ready k (p + 1) true (behind true s) rest → Ready k p due s (i.RetVoid ∷ rest)
    void_ready e is r = step k p due s i.RetVoid rest e by
      where
        by : (known : Known) → Covers k known s → Goes k p i.RetVoid known rest
        by known c =
            let l = nothing_leaves known is c in
            let pl = plain_behind k true (covers_plain k c) in
            let less = (r.arrives (known_of k (behind true s)) (covers_stated k (behind true s) pl)).inside in
            record { types = l.types; present = l.present; depths = l.depths; to_target = refl; to_next = refl; target = refl; next = refl; inside = omega (arith, less); walks = no_way k rest r pl }

  pub ret_runs : {p h : ℕ} {due : Bool} {s : Stand} → type_at k.last s h ≡ Some k.func.result → Runs k p (i.Ret h ∷ []) (mark due s ∷ []) due s true (behind true s)
  ret_runs {p} {h} {due} {s} is = record {
    along = refl;
    numbered = λ f. let room = f.each.1 in and_from _ _ (one_numbered k (i.Ret h) refl room) refl;
    ready = λ f rest r. let room = f.each.1 in ret_ready h f.each.0 (omega (arith, room)) is r;
    plains = λ p. (plain_behind k true p, all_plain k due s [] p tt);
  }

  pub void_runs : {p : ℕ} {due : Bool} {s : Stand} → k.func.result ≡ t.Void → Runs k p (i.RetVoid ∷ []) (mark due s ∷ []) due s true (behind true s)
  void_runs {due = due} {s} is = record { along = refl; numbered = λ f. refl; ready = λ f rest r. void_ready f.each.0 is r; plains = λ p. (plain_behind k true p, all_plain k due s [] p tt) }
