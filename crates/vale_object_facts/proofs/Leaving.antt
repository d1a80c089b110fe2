-- How the walk goes through the end of a function: what is in scope is dropped, and then the function is left.
use Rattle.std.proofs.Common.{◌≡◌, ◌≢◌, ℕ, zero, suc, ◌+◌, ◌<◌, List, [], ◌∷◌, ◌++◌, length, Bool, true, false, not, ◌&&◌, ◌||◌, ◌==◌, if◌then◌else◌, refl, sym, ap, ◌∙◌, subst, arith, ⊎_elim}
use Rattle.std.specs.Prelude.{slice_set}
use Rattle.std.specs.List.{list_all}
use Rattle.std.proofs.lemmas.Bool.{and_from, cases_eq, eq-eqb, ne_eqb}
use Rattle.vale_base.specs.declared.spot.Spot.{Spot}
use Rattle.vale_rules_spec.specs.Types.{Ty}
use Rattle.vale_rules_spec.specs.Types as y
use Rattle.vale_code.specs.declared.instr.Instr.{Instr}
use Rattle.vale_code.specs.declared.instr.Instr.TheVariants as i
use Rattle.vale_code.specs.declared.ty.Ty.{Ty as CodeTy}
use Rattle.vale_code.specs.declared.ty.Ty.TheVariants as t
use Rattle.vale_cert.specs.Types.{is_void}
use Rattle.vale_cert.specs.Known.{Known, fact_of, is_there, has, is_free, agrees}
use Rattle.vale_cert.specs.Rules.{is_usable}
use Rattle.vale_cert.specs.declared.facts.RegFact.{RegFact}
use Rattle.vale_cert.specs.declared.facts.RegFact.TheVariants.{Empty, Held}
use Rattle.vale_lowering_objects.specs.Lowered.{drop_scope}
use Rattle.vale_lowering_objects.specs.Program.{code_type}
use Rattle.vale_lowering_objects.specs.Scopes.{gives_of, is_owner, is_gone}
use Rattle.vale_object_facts.specs.Slots.{Role, local, waits, at_hand, is_listed, Slot, Slots, list_slot, scope_of, Stand, holding, given, is_lost, slot_fact, fact_in}
use Rattle.vale_object_facts.specs.Stands.{Stands, scope_stands, with_slots, leave_stands}
use Rattle.vale_object_facts.proofs.Agreeing.{type_same, agrees_same, put, put_here, put_there, hold_put, hold_less, hold_at}
use Rattle.vale_object_facts.proofs.Covering.{Site, at, held, Covers, Says, Falls, nothing_above, falls_up, holding_here, holding_there}
use Rattle.vale_object_facts.proofs.Runs.{Goes, step, Cut, Runs, runs_from, both, stops}
use Rattle.vale_object_facts.proofs.Ways.{one_in_order}
use Rattle.vale_object_facts.proofs.Rows.{usable, room}
use Rattle.vale_object_facts.proofs.Owners.{free_type, drops_run}

pub owner_is : (x : Ty) → is_owner (gives_of x) ≡ y.is_owned x
owner_is y.void = refl
owner_is y.int = refl
owner_is y.bool = refl
owner_is y.str = refl
owner_is (y.kind n) = refl
owner_is (y.array x) = refl
owner_is (y.ref x) = refl
owner_is (y.imm x) = refl
owner_is (y.iso x) = refl

-- all slots are of this depth, and none at hand holds an owner
abbrev pub Sits : ℕ → Slots → Type 0
Sits d [] = Unit {0}
Sits d (x ∷ xs) = (x.depth ≡ d) × ((is_listed x.role || not (y.is_owned x.ty)) ≡ true) × Sits d xs

all_free : (n : ℕ) (regs : List RegFact) → length regs ≡ n → ((r : ℕ) → r < n → is_free (fact_of regs r) ≡ true) → list_all is_free regs ≡ true
all_free n [] len h = refl
all_free zero (x ∷ regs) len h = absurd (omega (arith, len))
all_free (suc n) (x ∷ regs) len h = and_from _ _ (h 0 (omega arith)) (all_free n regs (omega (arith, len)) (λ r lt. h (suc r) (omega (arith, lt))))

module _ (k : Site) where
  -- ---- a function is left

  -- with a value in h, where it has one
  pub returns : {p : ℕ} {s : Stand} (h : ℕ) (ty : CodeTy) → at k s h ≡ Held ty 0 false → ((q : ℕ) → h ≢ q → at k s q ≡ Empty) → s.depth ≡ 0 → k.func.result ≡ ty → is_void ty ≡ false → Runs k p (i.Ret h ∷ []) (s ∷ []) s stops
  returns {p} {s} h ty here others depth result some = record {
    along = refl;
    numbered = λ f. one_in_order k (i.Ret h) refl f.each.0.room;
    ready = λ f rest cut. let room = f.each.0.room in step k f.each.0 (λ known c. leaves rest cut known c (hold_at k.func.registers h ty 0 c.regs (omega (arith, room)) here));
  }
    where
      nothing : (q : ℕ) → is_free (put h Empty (at k s) q) ≡ true
      nothing q = ⊎_elim (λ e. ap is_free (put_here h Empty (at k s) q e)) (λ ne. ap is_free (put_there h Empty (at k s) q ne ∙ others q ne)) (cases_eq h q)

      free_after : (known : Known) → Covers k known s → list_all is_free (slice_set known.regs h Empty) ≡ true
      free_after known c =
          let emptied = hold_put (room k) h Empty Empty refl c.regs in
          all_free (room k) (slice_set known.regs h Empty) emptied.size (λ r lt. (hold_less (room k) (λ q. Empty) emptied (λ q. nothing q)).each r lt)

      leaves : (rest : List Instr) → Cut k (p + 1) rest → (known : Known) → Covers k known s → (live : Bool) × (fact_of known.regs h ≡ Held ty 0 live) → Goes k p (i.Ret h) known rest
      leaves rest cut known c e = record {
        types = and_from _ _ (ap (λ z. not (is_void z)) result ∙ ap not some) (ap (has k.func.result) e.1 ∙ ap (λ z. has z (Held ty 0 e.0)) result ∙ type_same ty);
        present = and_from _ _ (ap is_there e.1) (free_after known c);
        depths = and_from _ _ (ap (is_usable known.depth) e.1 ∙ usable ty known.depth 0 e.0 (c.depth ∙ depth)) (eq-eqb known.depth 0 (c.depth ∙ depth));
        to_target = refl;
        to_next = refl;
        target = refl;
        next = refl;
        walks = cut.walks;
      }

  pub returns_nothing : {p : ℕ} {s : Stand} → ((q : ℕ) → at k s q ≡ Empty) → s.depth ≡ 0 → k.func.result ≡ t.Void → Runs k p (i.RetVoid ∷ []) (s ∷ []) s stops
  returns_nothing {p} {s} none depth result = record {
    along = refl;
    numbered = λ f. one_in_order k i.RetVoid refl f.each.0.room;
    ready = λ f rest cut. step k f.each.0 (λ known c. record {
      types = ap is_void result;
      present = all_free (room k) known.regs c.regs.size (λ r lt. (hold_less (room k) (λ q. Empty) c.regs (λ q. ap is_free (none q))).each r lt);
      depths = eq-eqb known.depth 0 (c.depth ∙ depth);
      to_target = refl;
      to_next = refl;
      target = refl;
      next = refl;
      walks = cut.walks;
    });
  }

  -- ---- what is in scope is dropped

  module _ (h : ℕ) (x : Ty) (s : Stand) (spot : Spot) where
    abbrev pub left : Slots → Stand
    left xs = given h x (with_slots s xs)

    -- of a register below h
    left_at : (xs : Slots) (r : ℕ) → r < h → at k (left xs) r ≡ fact_in k.parts xs s.gone r
    left_at xs r lt = by (y.is_void x)
      where
        by : (b : Bool) → at k (if b then with_slots s xs else holding h x (with_slots s xs)) r ≡ fact_in k.parts xs s.gone r
        by true = refl
        by false = holding_there k h x (with_slots s xs) r (omega (arith, lt))

    -- a register says no more in a smaller scope
    left_beside : (z : Slot) (xs : Slots) (q : ℕ) → z.register ≢ q → agrees (at k (left xs) q) (at k (left (z ∷ xs)) q) ≡ true
    left_beside z xs q ne = by (y.is_void x)
      where
        same : at k (with_slots s (z ∷ xs)) q ≡ at k (with_slots s xs) q
        same = ap (λ b. if b then slot_fact k.parts z s.gone else fact_in k.parts xs s.gone q) (ne_eqb z.register q ne)

        by : (b : Bool) → agrees (at k (if b then with_slots s xs else holding h x (with_slots s xs)) q) (at k (if b then with_slots s (z ∷ xs) else holding h x (with_slots s (z ∷ xs))) q) ≡ true
        by true = subst (λ f. agrees (at k (with_slots s xs) q) f ≡ true) (sym same) (agrees_same (at k (with_slots s xs) q))
        by false =
            subst (λ f. agrees (if h == q then held k x s.depth else at k (with_slots s xs) q) (if h == q then held k x s.depth else f) ≡ true) (sym same)
            (agrees_same (if h == q then held k x s.depth else at k (with_slots s xs) q))

    left_none : (z : Slot) (xs : Slots) → z.register < h → Falls k z.register xs → at k (left xs) z.register ≡ Empty
    left_none z xs lt f = left_at xs z.register lt ∙ nothing_above k z.register xs s.gone z.register f (omega arith)

    left_here : (z : Slot) (xs : Slots) → z.register < h → at k (left (z ∷ xs)) z.register ≡ slot_fact k.parts z s.gone
    left_here z xs lt = left_at (z ∷ xs) z.register lt ∙ ap (λ b. if b then slot_fact k.parts z s.gone else fact_in k.parts xs s.gone z.register) (eq-eqb z.register z.register refl)

    -- a slot that holds no owner is forgotten
    forgets : (z : Slot) (xs : Slots) → z.register < h → Falls k z.register xs → is_free (slot_fact k.parts z s.gone) ≡ true → Says k (left (z ∷ xs)) (left xs)
    forgets z xs lt f free = record { depth = same_depth (y.is_void x); each = each }
      where
        same_depth : (b : Bool) → (if b then with_slots s (z ∷ xs) else holding h x (with_slots s (z ∷ xs))).depth ≡ (if b then with_slots s xs else holding h x (with_slots s xs)).depth
        same_depth true = refl
        same_depth false = refl

        each : (q : ℕ) → agrees (at k (left xs) q) (at k (left (z ∷ xs)) q) ≡ true
        each q =
            ⊎_elim
            (λ e.
            subst (λ r. agrees (at k (left xs) r) (at k (left (z ∷ xs)) r) ≡ true) e
            (subst (λ f. agrees f (at k (left (z ∷ xs)) z.register) ≡ true) (sym (left_none z xs lt f))
            (subst (λ f. is_free f ≡ true) (sym (left_here z xs lt)) free)))
            (λ ne. left_beside z xs q ne)
            (cases_eq z.register q)

    -- ---- one after another, and then what leaves the function

    module _ (last : List Instr) (ms : Stands) (final : (p : ℕ) → Runs k p last ms (left []) stops) where
      abbrev Drops : ℕ → Slots → Type 0
      Drops p xs = Runs k p (drop_scope (scope_of xs) s.gone spot ++ last) (scope_stands left xs s.gone ++ ms) (left xs) stops

      -- a listed slot, by whether it is owned and gone
      abbrev first_code : Bool → Bool → ℕ → List Instr
      first_code owned gone r = if owned then (if gone then [] else i.Destroy r spot ∷ []) else []

      by_owned : (z : Slot) (xs : Slots) (p : ℕ) (owned gone : Bool) → z.register < h → Falls k z.register xs → z.depth ≡ s.depth → is_listed z.role ≡ true → y.is_owned z.ty ≡ owned → is_gone z.register s.gone ≡ gone → ((p : ℕ) → Drops p xs)
          → Runs k p ((first_code owned gone z.register ++ drop_scope (scope_of xs) s.gone spot) ++ last) (((if true && owned && not gone then left (z ∷ xs) ∷ [] else []) ++ scope_stands left xs s.gone) ++ ms) (left (z ∷ xs)) stops
      by_owned z xs p true true lt f d li o g rest =
          runs_from k (forgets z xs lt f (ap (λ b. is_free (if b then Empty else Held (code_type k.parts z.ty) z.depth false)) (ap (λ b. b && y.is_owned z.ty && is_gone z.register s.gone) li ∙ ap (λ b. true && b && is_gone z.register s.gone) o ∙ ap (λ b. true && true && b) g))) (rest p)
      by_owned z xs p false gone lt f d li o g rest =
          runs_from k (forgets z xs lt f (free_slot (is_lost z s.gone))) (rest p)
        where
          free_slot : (b : Bool) → is_free (if b then Empty else Held (code_type k.parts z.ty) z.depth false) ≡ true
          free_slot true = refl
          free_slot false = free_type k.parts z.ty z.depth o
      by_owned z xs p true false lt f d li o g rest =
          both k {a = i.Destroy z.register spot ∷ []} {b = drop_scope (scope_of xs) s.gone spot ++ last} {ma = left (z ∷ xs) ∷ []} {mb = scope_stands left xs s.gone ++ ms}
          (drops_run k z.register z.ty spot
          (left_here z xs lt ∙ ap (λ b. if b then Empty else Held (code_type k.parts z.ty) z.depth false) (ap (λ b. is_listed z.role && y.is_owned z.ty && b) g ∙ none_lost (is_listed z.role && y.is_owned z.ty)) ∙ ap (λ e. held k z.ty e) (d ∙ sym (depth_left (z ∷ xs))))
          o (depth_left (z ∷ xs) ∙ sym (depth_left xs)) (left_none z xs lt f) (λ q ne. left_beside z xs q ne))
          (rest (p + 1))
        where
          none_lost : (b : Bool) → (b && false) ≡ false
          none_lost true = refl
          none_lost false = refl

          depth_by : (b : Bool) (xs : Slots) → (if b then with_slots s xs else holding h x (with_slots s xs)).depth ≡ s.depth
          depth_by true xs = refl
          depth_by false xs = refl

          depth_left : (xs : Slots) → (left xs).depth ≡ s.depth
          depth_left xs = depth_by (y.is_void x) xs

      by_role : (role : Role) (z : Slot) (xs : Slots) (p : ℕ) → z.role ≡ role → z.register < h → Falls k z.register xs → z.depth ≡ s.depth → (is_listed role || not (y.is_owned z.ty)) ≡ true → ((p : ℕ) → Drops p xs)
          → Runs k p (drop_scope (list_slot role z.register (gives_of z.ty) (scope_of xs)) s.gone spot ++ last) (((if is_listed role && y.is_owned z.ty && not (is_gone z.register s.gone) then left (z ∷ xs) ∷ [] else []) ++ scope_stands left xs s.gone) ++ ms) (left (z ∷ xs)) stops
      by_role (local n) z xs p is lt f d li rest =
          subst (λ o. Runs k p ((first_code o (is_gone z.register s.gone) z.register ++ drop_scope (scope_of xs) s.gone spot) ++ last) (((if true && y.is_owned z.ty && not (is_gone z.register s.gone) then left (z ∷ xs) ∷ [] else []) ++ scope_stands left xs s.gone) ++ ms) (left (z ∷ xs)) stops) (sym (owner_is z.ty))
          (by_owned z xs p (y.is_owned z.ty) (is_gone z.register s.gone) lt f d (ap is_listed is) refl refl rest)
      by_role waits z xs p is lt f d li rest =
          subst (λ o. Runs k p ((first_code o (is_gone z.register s.gone) z.register ++ drop_scope (scope_of xs) s.gone spot) ++ last) (((if true && y.is_owned z.ty && not (is_gone z.register s.gone) then left (z ∷ xs) ∷ [] else []) ++ scope_stands left xs s.gone) ++ ms) (left (z ∷ xs)) stops) (sym (owner_is z.ty))
          (by_owned z xs p (y.is_owned z.ty) (is_gone z.register s.gone) lt f d (ap is_listed is) refl refl rest)
      by_role at_hand z xs p is lt f d li rest = runs_from k (forgets z xs lt f (free_slot (is_lost z s.gone))) (rest p)
        where
          copied : (b : Bool) → (false || not b) ≡ true → b ≡ false
          copied false e = refl
          copied true e = absurd (cc)

          free_slot : (b : Bool) → is_free (if b then Empty else Held (code_type k.parts z.ty) z.depth false) ≡ true
          free_slot true = refl
          free_slot false = free_type k.parts z.ty z.depth (copied (y.is_owned z.ty) li)

      pub drops : (xs : Slots) (p : ℕ) → Falls k h xs → Sits s.depth xs → Drops p xs
      drops [] p f sits = final p
      drops (z ∷ xs) p f sits =
          let lt = f.0 in
          by_role z.role z xs p refl lt f.1 sits.0 sits.1 (λ p. drops xs p (falls_up k z.register h xs (omega (arith, lt)) f.1) sits.2)

  -- a function that has a value
  pub leaves_with : (h : ℕ) (x : Ty) (s : Stand) (spot : Spot) (p : ℕ) → Falls k h s.slots → Sits s.depth s.slots → s.depth ≡ 0 → y.is_void x ≡ false → k.func.result ≡ code_type k.parts x
      → Runs k p (drop_scope (scope_of s.slots) s.gone spot ++ (i.Ret h ∷ [])) (leave_stands h x s) (given h x s) stops
  leaves_with h x s spot p f sits depth some result = drops h x s spot (i.Ret h ∷ []) (given h x (with_slots s []) ∷ []) final s.slots p f sits
    where
      valued : (b : Bool) → b ≡ false → is_void (code_type k.parts x) ≡ false → (p : ℕ) → Runs k p (i.Ret h ∷ []) ((if b then with_slots s [] else holding h x (with_slots s [])) ∷ []) (if b then with_slots s [] else holding h x (with_slots s [])) stops
      valued true e some p = absurd (cc)
      valued false e some p =
          returns h (code_type k.parts x) (holding_here k h x (with_slots s []) ∙ ap (λ d. held k x d) depth) (λ q ne. holding_there k h x (with_slots s []) q ne) depth result some

      void_too : (x : Ty) → y.is_void x ≡ false → is_void (code_type k.parts x) ≡ false
      void_too y.void e = absurd (cc)
      void_too y.int e = refl
      void_too y.bool e = refl
      void_too y.str e = refl
      void_too (y.kind n) e = refl
      void_too (y.array x) e = refl
      void_too (y.ref x) e = refl
      void_too (y.imm x) e = refl
      void_too (y.iso x) e = refl

      final : (p : ℕ) → Runs k p (i.Ret h ∷ []) (given h x (with_slots s []) ∷ []) (given h x (with_slots s [])) stops
      final p = valued (y.is_void x) some (void_too x some) p

  -- a function that has none
  pub leaves : (h : ℕ) (s : Stand) (spot : Spot) (p : ℕ) → Falls k h s.slots → Sits s.depth s.slots → s.depth ≡ 0 → k.func.result ≡ t.Void
      → Runs k p (drop_scope (scope_of s.slots) s.gone spot ++ (i.RetVoid ∷ [])) (leave_stands h y.void s) s stops
  leaves h s spot p f sits depth result = drops h y.void s spot (i.RetVoid ∷ []) (with_slots s [] ∷ []) (λ p. returns_nothing (λ q. refl) depth result) s.slots p f sits
