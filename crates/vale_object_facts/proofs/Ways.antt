-- How the walk goes through the shapes of code: one part after another, code that no run comes to, tests with their sides, and loops.
use Rattle.std.proofs.Common.{◌≡◌, ℕ, ◌+◌, ◌<◌, ◌≤◌, List, [], ◌∷◌, ◌++◌, length, Bool, true, false, ◌||◌, refl, sym, ap, ◌∙◌, subst, arith, length-append, append_assoc}
use Rattle.std.specs.List.{list_all}
use Rattle.std.proofs.lemmas.Bool.{and_parts, and_from}
use Rattle.std.proofs.lemmas.List.Folds.{list_all-append}
use Rattle.vale_rules_spec.specs.Types as y
use Rattle.vale_code.specs.Operands.{reads as registers_read, writes, room_for}
use Rattle.vale_code.proofs.OperandLaws.{below_room}
use Rattle.vale_code.specs.declared.instr.Instr.{Instr}
use Rattle.vale_code.specs.declared.instr.Instr.TheVariants as i
use Rattle.vale_code.specs.declared.ty.Ty.TheVariants as t
use Rattle.vale_cert.specs.Known.{Known, is_free, agrees}
use Rattle.vale_cert.specs.Numbers.{numbers, in_tables, is_void_call}
use Rattle.vale_cert.specs.declared.facts.RegFact.TheVariants.{Empty, Held}
use Rattle.vale_lowering.specs.Instructions.{only_if}
use Rattle.vale_lowering_objects.specs.Lowered.{dead_code, then_code, if_comes}
use Rattle.vale_lowering_objects.specs.Scopes.{Gone, After, comes, never, no_run, then_after}
use Rattle.vale_object_facts.specs.Slots.{Stand, holding}
use Rattle.vale_object_facts.specs.Suits.{is_sure, Sure}
use Rattle.vale_object_facts.specs.Stands.{Stands, gone_of, dead_stands, then_stands, comes_stands}
use Rattle.vale_object_facts.proofs.Agreeing.{hold_put, hold_free, agrees_same}
use Rattle.vale_object_facts.proofs.Covering.{Site, at, Covers, Says, says_same, says_less, holding_here}
use Rattle.vale_object_facts.proofs.Runs.{Ready, Cut, End, falls, stops, ending, Next, ready_more, ready_at, no_way, Does, goes, target_placed, jumps, tests, Fits, front, back, tail, numbered, numbered_both, Runs, both}

-- ---- code without instructions that no step follows

abbrev pub Clean : List Instr → Type 0
Clean cs = Sure cs

pub clean_both : (a b : List Instr) → Clean (a ++ b) → Clean a × Clean b
clean_both a b c = and_parts (list_all is_sure a) (list_all is_sure b) (sym (list_all-append is_sure a b) ∙ c)

pub clean_only : (b : Bool) (h : ℕ) (cs : List Instr) → Clean (only_if b h cs) → (b ≡ true) × Clean cs
clean_only true h cs c = (refl, c)
clean_only false h cs c = absurd (cc)

pub clean_dead : (p r : ℕ) (xs : List Instr) → Clean (dead_code p r xs) → Clean xs
clean_dead p r [] c = refl
clean_dead p r (x ∷ xs) c = (clean_both (x ∷ xs) (i.Jump (p + 2 + length (x ∷ xs)) ∷ []) c).0

module _ (k : Site) where
  or_right : (a b : Bool) → b ≡ true → (a || b) ≡ true
  or_right true b e = refl
  or_right false b e = e

  -- where there are registers enough
  pub in_order : (instr : Instr) → in_tables k.code instr ≡ true → room_for instr ≤ k.func.registers → numbers k.code k.func.registers instr ≡ true
  in_order instr inside room =
      and_from _ _
      (and_from _ _ (below_room k.func.registers (registers_read instr) (omega (arith, room)))
      (or_right (is_void_call k.code instr) _ (below_room k.func.registers (writes instr) (omega (arith, room)))))
      inside

  pub one_in_order : (instr : Instr) → in_tables k.code instr ≡ true → room_for instr ≤ k.func.registers → numbered k (instr ∷ []) ≡ true
  one_in_order instr inside room = and_from _ _ (in_order instr inside room) refl

  -- ---- code that no run comes to

  pub record Dead (p : ℕ) (cs : List Instr) (ms : Stands) : Type 0 where
    pub along : length ms ≡ length cs
    pub numbered : Fits k p cs ms → numbered k cs ≡ true
    pub ready : Fits k p cs ms → (rest : List Instr) → Cut k (p + length cs) rest → Cut k p (cs ++ rest)

  -- what is known where a part ends is at least this
  abbrev pub Reaches : End → Stand → Type 0
  Reaches (falls u) s = Says k u s
  Reaches stops s = Unit {0}

  pub stops_then : {p : ℕ} {a b : List Instr} {ma mb : Stands} {s : Stand} → Runs k p a ma s stops → Dead (p + length a) b mb → Runs k p (a ++ b) (ma ++ mb) s stops
  stops_then {p} {a} {b} {ma} {mb} {s} x z = record {
    along = length-append ma mb ∙ ap (λ n. n + length mb) x.along ∙ ap (λ n. length a + n) z.along ∙ sym (length-append a b);
    numbered = λ f. numbered_both k a b (x.numbered (front k a b ma mb x.along f)) (z.numbered (back k a b ma mb x.along f));
    ready = λ f rest r.
        subst (λ l. Ready k p s l) (sym (append_assoc a b rest))
        (x.ready (front k a b ma mb x.along f) (b ++ rest)
        (z.ready (back k a b ma mb x.along f) rest (subst (λ q. Cut k q rest) (let z : p + length (a ++ b) ≡ p + length a + length b = omega (arith, length-append a b) in z) r)));
  }

  truth_does : {s : Stand} (r n : ℕ) (known : Known) → r < k.func.registers → at k s r ≡ Empty → Covers k known s → Does k (i.Truth r n) known (holding r y.bool s)
  truth_does {s} r n known lt none c = record {
    types = refl;
    present = hold_free k.func.registers r c.regs lt (ap is_free none);
    depths = refl;
    covers = record { depth = c.depth; regs = hold_put k.func.registers r (Held t.Truth known.depth false) (Held t.Truth s.depth false) (subst (λ d. agrees (Held t.Truth s.depth false) (Held t.Truth d false) ≡ true) (sym c.depth) (agrees_same (Held t.Truth s.depth false))) c.regs };
  }

  module _ (p r : ℕ) (x : Instr) (xs : List Instr) (m : Stand) (ms : Stands) (start end : Stand) (e : End) (z : Runs k (p + 2) (x ∷ xs) (m ∷ ms) start e) (to : Reaches e end) (none : at k start r ≡ Empty) where
    abbrev q : ℕ
    q = p + 2 + length (x ∷ xs)

    abbrev dead : List Instr
    dead = dead_code p r (x ∷ xs)

    abbrev dead_ms : Stands
    dead_ms = dead_stands r start (m ∷ ms) end

    inner : Fits k p dead dead_ms → Fits k (p + 2) ((x ∷ xs) ++ (i.Jump q ∷ [])) ((m ∷ ms) ++ (end ∷ []))
    inner f = subst (λ q'. Fits k q' ((x ∷ xs) ++ (i.Jump q ∷ [])) ((m ∷ ms) ++ (end ∷ []))) (let z : p + 1 + 1 ≡ p + 2 = omega arith in z) (tail k (tail k f))

    last : Fits k p dead dead_ms → Fits k q (i.Jump q ∷ []) (end ∷ [])
    last f = back k (x ∷ xs) (i.Jump q ∷ []) (m ∷ ms) (end ∷ []) z.along (inner f)

    forgets : Says k (holding r y.bool start) start
    forgets = says_less k r y.bool none refl

    jump_ready : Fits k p dead dead_ms → (rest : List Instr) → Cut k (q + 1) rest → Ready k q end (i.Jump q ∷ rest)
    jump_ready f rest cut = let pl = (last f).each.0 in jumps k q pl (target_placed k pl refl pl) (says_same k end) cut

    end_ready : Fits k p dead dead_ms → (rest : List Instr) → Cut k (q + 1) rest → (o : End) → Reaches o end → Next k q o (i.Jump q ∷ rest)
    end_ready f rest cut (falls u) a = ready_more k a (jump_ready f rest cut)
    end_ready f rest cut stops a = let pl = (last f).each.0 in no_way k (i.Jump q ∷ rest) (pl.target q refl pl.inside) (jump_ready f rest cut)

    dead_ready : Fits k p dead dead_ms → (rest : List Instr) → Cut k (p + length dead) rest → Cut k p (dead ++ rest)
    dead_ready f rest cut =
        let first = f.each.0 in
        let second = f.each.1.0 in
        let room = second.room in
        let cut' : Cut k (q + 1) rest = subst (λ z. Cut k z rest) (let e : p + length dead ≡ q + 1 = omega (arith, length-append (x ∷ xs) (i.Jump q ∷ [])) in e) cut in
        let body = z.ready (front k (x ∷ xs) (i.Jump q ∷ []) (m ∷ ms) (end ∷ []) z.along (inner f)) (i.Jump q ∷ rest) (end_ready f rest cut' e to) in
        let test = tests k r p start.depth second (omega (arith, room)) (holding_here k r y.bool start) (target_placed k second refl first) forgets (ready_at k (let e : p + 2 ≡ p + 1 + 1 = omega arith in e) body) forgets in
        subst (λ l. Cut k p (i.Truth r 1 ∷ i.Unless r p ∷ l)) (sym (append_assoc (x ∷ xs) (i.Jump q ∷ []) rest))
        (no_way k (i.Truth r 1 ∷ i.Unless r p ∷ ((x ∷ xs) ++ (i.Jump q ∷ rest))) (second.target p refl first.inside)
        (goes k (i.Truth r 1) refl refl first (λ known c. truth_does r 1 known (omega (arith, room)) none c) test))

    dead_numbered : Fits k p dead dead_ms → numbered k dead ≡ true
    dead_numbered f =
        let first = f.each.0.room in let second = f.each.1.0.room in
        and_from _ _ (in_order (i.Truth r 1) refl first) (and_from _ _ (in_order (i.Unless r p) refl second)
        (numbered_both k (x ∷ xs) (i.Jump q ∷ []) (z.numbered (front k (x ∷ xs) (i.Jump q ∷ []) (m ∷ ms) (end ∷ []) z.along (inner f))) refl))

    dead_whole : Dead p dead dead_ms
    dead_whole = record {
      along = let a = z.along in omega (arith, a, length-append (x ∷ xs) (i.Jump q ∷ []), length-append (m ∷ ms) (end ∷ []));
      numbered = dead_numbered;
      ready = dead_ready;
    }

  pub dead_runs : (p r : ℕ) (xs : List Instr) (ms : Stands) (start end : Stand) (e : End) → Runs k (p + 2) xs ms start e → Reaches e end → at k start r ≡ Empty → Dead p (dead_code p r xs) (dead_stands r start ms end)
  dead_runs p r [] [] start end e z to none = record { along = refl; numbered = λ f. refl; ready = λ f rest cut. subst (λ q. Cut k q rest) (let z : p + 0 ≡ p = omega arith in z) cut }
  dead_runs p r [] (m ∷ ms) start end e z to none = absurd (let a = z.along in omega (arith, a))
  dead_runs p r (x ∷ xs) [] start end e z to none = absurd (let a = z.along in omega (arith, a))
  dead_runs p r (x ∷ xs) (m ∷ ms) start end e z to none = dead_whole p r x xs m ms start end e z to none

  -- ---- one part after another

  pub ending_none : (a : After) (u : Gone → Stand) → ending (no_run a) u ≡ stops
  ending_none (comes g) u = refl
  ending_none (never g) u = refl

  reaches_end : (a : After) (u : Gone → Stand) → Reaches (ending a u) (u (gone_of a))
  reaches_end (comes g) u = says_same k (u g)
  reaches_end (never g) u = tt

  -- with what is known to be gone after the first
  pub then_runs_known : (o : After) (p r : ℕ) (a : List Instr) (ma : Stands) (rest : ℕ → Gone → List Instr) (start : Gone → Stand) (rms : Gone → Stands) (next : Gone → After) (end : Gone → Stand) (s : Stand)
      → Clean (then_code p r a o rest) → (Clean a → Runs k p a ma s (ending o start)) → ((g : Gone) (q : ℕ) → gone_of o ≡ g → Clean (rest q g) → Runs k q (rest q g) (rms g) (start g) (ending (next g) end)) → ((g : Gone) → at k (start g) r ≡ Empty)
      → Runs k p (then_code p r a o rest) (then_stands r ma o start rms next end) s (ending (then_after o next) end)
  then_runs_known (comes g) p r a ma rest start rms next end s clean x z none =
      let c = clean_both a (rest (p + length a) g) clean in both k (x c.0) (z g (p + length a) refl c.1)
  then_runs_known (never g) p r a ma rest start rms next end s clean x z none =
      let q = p + length a in
      let c = clean_both a (dead_code q r (rest (q + 2) g)) clean in
      subst (λ e. Runs k p (a ++ dead_code q r (rest (q + 2) g)) (ma ++ dead_stands r (start g) (rms g) (end (gone_of (next g)))) s e) (sym (ending_none (next g) end))
      (stops_then (x c.0)
      (dead_runs q r (rest (q + 2) g) (rms g) (start g) (end (gone_of (next g))) (ending (next g) end) (z g (q + 2) refl (clean_dead q r (rest (q + 2) g) c.1)) (reaches_end (next g) end) (none g)))

  pub then_runs : (o : After) (p r : ℕ) (a : List Instr) (ma : Stands) (rest : ℕ → Gone → List Instr) (start : Gone → Stand) (rms : Gone → Stands) (next : Gone → After) (end : Gone → Stand) (s : Stand)
      → Clean (then_code p r a o rest) → (Clean a → Runs k p a ma s (ending o start)) → ((g : Gone) (q : ℕ) → Clean (rest q g) → Runs k q (rest q g) (rms g) (start g) (ending (next g) end)) → ((g : Gone) → at k (start g) r ≡ Empty)
      → Runs k p (then_code p r a o rest) (then_stands r ma o start rms next end) s (ending (then_after o next) end)
  then_runs o p r a ma rest start rms next end s clean x z none = then_runs_known o p r a ma rest start rms next end s clean x (λ g q e c. z g q c) none

  -- what is done only where a run comes
  pub comes_runs : (o : After) (p : ℕ) (a : List Instr) (ma : Stands) (rest : ℕ → Gone → List Instr) (start : Gone → Stand) (rms : Gone → Stands) (end : Gone → Stand) (s : Stand)
      → Clean (if_comes p a o rest) → (Clean a → Runs k p a ma s (ending o start)) → ((g : Gone) (q : ℕ) → Clean (rest q g) → Runs k q (rest q g) (rms g) (start g) (falls (end g)))
      → Runs k p (if_comes p a o rest) (comes_stands ma o rms) s (ending o end)
  comes_runs (comes g) p a ma rest start rms end s clean x z = let c = clean_both a (rest (p + length a) g) clean in both k (x c.0) (z g (p + length a) c.1)
  comes_runs (never g) p a ma rest start rms end s clean x z = x clean

  -- the same, where that leaves the function
  pub comes_stops : (o : After) (p : ℕ) (a : List Instr) (ma : Stands) (rest : ℕ → Gone → List Instr) (start : Gone → Stand) (rms : Gone → Stands) (s : Stand)
      → Clean (if_comes p a o rest) → (Clean a → Runs k p a ma s (ending o start)) → ((g : Gone) (q : ℕ) → Clean (rest q g) → Runs k q (rest q g) (rms g) (start g) stops)
      → Runs k p (if_comes p a o rest) (comes_stands ma o rms) s stops
  comes_stops (comes g) p a ma rest start rms s clean x z = let c = clean_both a (rest (p + length a) g) clean in both k (x c.0) (z g (p + length a) c.1)
  comes_stops (never g) p a ma rest start rms s clean x z = x clean
