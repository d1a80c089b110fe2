-- Objects that are made, and objects that are taken apart.
use Rattle.std.proofs.Common.{◌≡◌, ℕ, zero, suc, ◌+◌, ◌-◌, ◌<◌, ◌≤◌, ◌++◌, List, [], ◌∷◌, length, drop, drop-cons, get_or, max, Option, Some, None, Bool, true, false, refl, sym, ap, subst, ◌∙◌, arith, append_assoc, append-nil}
use Rattle.std.proofs.lemmas.List.{length-set}
use Rattle.std.specs.Prelude.{Err, IsSome, Ok, OnOk, Result, if◌then◌else◌, slice_get, slice_index, slice_set}
use Rattle.std.proofs.Common.{inl, inr}
use Rattle.vale_base.specs.declared.name.Kind.{Kind}
use Rattle.vale_state_spec.specs.State.{State, born, counted, dies, live, living, object_of}
use Rattle.vale_state_spec.specs.World.{Freeze, Object, Value, World}
use Rattle.vale_state_spec.specs.World.{Own as owner}
use Rattle.vale_state_spec.specs.World as w
use Rattle.vale_code.specs.Registers.{Read, Registers, after_keeping, and_then, put, put_all, read, read_all, with_result}
use Rattle.vale_heap.specs.HeapState.{HeapState, IsEnded, IsMade, Lent, innermost}
use Rattle.vale_heap.specs.Standing.{DenoteAll, Stands, StandsEnded, StandsFound, StandsMade, inner_freeze}
use Rattle.vale_heap.specs.declared.body.Body.{Body}
use Rattle.vale_heap.specs.declared.body.Cell.{Cell}
use Rattle.vale_heap.specs.declared.body.Cell.TheVariants.{Int, Truth, Text, Own, Ref, Iso}
use Rattle.vale_heap.specs.declared.body.Place.{Place}
use Rattle.vale_object_cells.specs.Cells.{held, kept_cells, place_in}
use Rattle.vale_object_cells.specs.Names.{AllKnown, Apart, IsKnown, Knows, name_at, value_in, value_of, values_in}
use Rattle.vale_object_cells.proofs.Naming.{all_known_more, denotes_is, denotes_known, found_known, is_denoted, kept_is, kept_known, kept_long, known_put, last_has, name_is, put_values, read_values, values_more}
use Rattle.vale_object_steps.specs.Doing.{Doing, makes, made_of, opened, opened_of, opened_to, opens}
use Rattle.vale_object_steps.specs.Keeping.{AreBelow, Kept, fill_from, keep_from, kept_then}
use Rattle.vale_object_steps.specs.Lent.{FollowsLent}
use Rattle.vale_object_steps.specs.Views.{Agrees, CanDo, Follows, IsRight, Steady, View, nobody}
use Rattle.vale_object_steps.specs.declared.effect.Effect.TheVariants as effect
use Rattle.vale_object_steps.proofs.Registers.{held_within, read_held, written_to}
use Rattle.vale_object_steps.proofs.Objects.{as_many, finds, known}
use Rattle.vale_object_steps.proofs.FieldLaws.{same_names}

-- ---- what registers hold is kept

kept_some : (o : Option Cell) (go : Cell → Option Kept) → IsSome (kept_then o go) → (c : Cell) × (o ≡ Some c)
kept_some None go e = absurd (let y : ⊥ = cc in y)
kept_some (Some c) go e = (c, refl)

-- the next register holds something
pub keep_there : (before : List Cell) (r : ℕ) (rs : List ℕ) (now : List (Option Cell)) → IsSome (keep_from before (r ∷ rs) now) → (c : Cell) × (held now r ≡ Some c)
keep_there before r rs now some = kept_some (held now r) (λ c. keep_from (before ++ c ∷ []) rs (kept_cells (held now r) r now)) some

-- and is kept behind those before
pub keep_next : (before : List Cell) (r : ℕ) (rs : List ℕ) (now after : List (Option Cell)) (c : Cell) → held now r ≡ Some c → after ≡ kept_cells (held now r) r now → keep_from before (r ∷ rs) now ≡ keep_from (before ++ c ∷ []) rs after
keep_next before r rs now after c e is =
    ap (λ o. kept_then o (λ d. keep_from (before ++ d ∷ []) rs (kept_cells (held now r) r now))) e
    ∙ ap (keep_from (before ++ c ∷ []) rs) (sym is)

-- what was kept, by names
record KeptAs (names : List Place) (before : List Cell) (rs : List ℕ) (now : List (Option Cell)) (k : Kept) : Type 0 where
  cells : List Cell
  values : List Value
  is : k.cells ≡ before ++ cells
  reads : read_all rs (values_in names now) ≡ Some (record { values = values; after = values_in names k.after })
  denote : DenoteAll names cells values
  known : AllKnown names k.after
  size : length k.after ≡ length now

kept_as : (names : List Place) (before : List Cell) (rs : List ℕ) (now : List (Option Cell)) (k : Kept) → AllKnown names now → keep_from before rs now ≡ Some k → KeptAs names before rs now k
kept_as names before [] now k all e =
    let first : Kept = record { cells = before; after = now } in
    let same : first ≡ k = cc in
    let cs : before ≡ k.cells = ap (λ (x : Kept). x.cells) same in
    let rs : now ≡ k.after = ap (λ (x : Kept). x.after) same in
    record {
      cells = [];
      values = [];
      is = sym cs ∙ sym (append-nil before);
      reads = ap (λ x. Some (record { values = []; after = values_in names x })) rs;
      denote = tt;
      known = subst (AllKnown names) rs all;
      size = ap length (sym rs);
    }
kept_as names before (r ∷ rs) now k all e = at (held now r) refl (λ c next known more. kept_as names (before ++ c ∷ []) rs next k known more)
  where
    at : (o : Option Cell) → held now r ≡ o → ((c : Cell) (next : List (Option Cell)) → AllKnown names next → keep_from (before ++ c ∷ []) rs next ≡ Some k → KeptAs names (before ++ c ∷ []) rs next k) → KeptAs names before (r ∷ rs) now k
    at None h rec = absurd (let clash : None ≡ Some k = sym (ap (λ o. kept_then o (λ d. keep_from (before ++ d ∷ []) rs (kept_cells (held now r) r now))) h) ∙ e in let y : ⊥ = cc in y)
    at (Some c) h rec =
        let next : List (Option Cell) = kept_cells (held now r) r now in
        let t = rec c next (kept_known names now r (held now r) all) (sym (keep_next before r rs now next c h refl) ∙ e) in
        let knows : Knows names (Some c) = subst (Knows names) h (all r) in
        let value : read (values_in names now) r ≡ Some (value_of names c) = read_held names now r c h in
        let after : values_in names next ≡ after_keeping r (read (values_in names now) r) (values_in names now) =
        ap (λ o. values_in names (kept_cells o r now)) h ∙ kept_is names now r c (held_within now r c h) ∙ sym (ap (λ o. after_keeping r o (values_in names now)) value) in
        record {
          cells = c ∷ t.cells;
          values = value_of names c ∷ t.values;
          is = t.is ∙ append_assoc before (c ∷ []) t.cells;
          reads =
              ap (and_then (read (values_in names now) r)) (ap (read_all rs) (sym after) ∙ t.reads)
              ∙ ap (λ o. and_then o (Some (record { values = t.values; after = values_in names k.after }))) value;
          denote = (is_denoted names c knows, t.denote);
          known = t.known;
          size = t.size ∙ kept_long now r (held now r);
        }

read_rest : (o : Option Value) (rest : Option Read) (x : Read) → and_then o rest ≡ Some x → (v : Value) × (y : Read) × (o ≡ Some v) × (rest ≡ Some y)
read_rest None rest x e = absurd (let y : ⊥ = cc in y)
read_rest (Some v) None x e = absurd (let y : ⊥ = cc in y)
read_rest (Some v) (Some r) x e = (v, r, refl, refl)

cell_there : (names : List Place) (o : Option Cell) (v : Value) → value_in names o ≡ Some v → (c : Cell) × (o ≡ Some c)
cell_there names None v e = absurd (let y : ⊥ = cc in y)
cell_there names (Some c) v e = (c, refl)

-- registers that are read are kept
keeps_read : (names : List Place) (before : List Cell) (rs : List ℕ) (now : List (Option Cell)) (x : Read) → read_all rs (values_in names now) ≡ Some x → IsSome (keep_from before rs now)
keeps_read names before [] now x e = refl
keeps_read names before (r ∷ rs) now x e =
    let p = read_rest (read (values_in names now) r) (read_all rs (after_keeping r (read (values_in names now) r) (values_in names now))) x e in
    let c = cell_there names (held now r) p.0 (sym (read_values names now r) ∙ p.2) in
    let next : List (Option Cell) = kept_cells (held now r) r now in
    let value : read (values_in names now) r ≡ Some (value_of names c.0) = read_held names now r c.0 c.1 in
    let after : values_in names next ≡ after_keeping r (read (values_in names now) r) (values_in names now) =
    ap (λ o. values_in names (kept_cells o r now)) c.1 ∙ kept_is names now r c.0 (held_within now r c.0 c.1) ∙ sym (ap (λ o. after_keeping r o (values_in names now)) value) in
    subst (λ o. IsSome o) (sym (keep_next before r rs now next c.0 c.1 refl)) (keeps_read names (before ++ c.0 ∷ []) rs next p.1 (ap (read_all rs) after ∙ p.3))

-- ---- a birth

-- a step is of a whole read
made_read : (to : ℕ) (kind : Kind) (regs : Registers) (s : State) (o : Option Read) → IsRight (made_of to kind regs s o).answer → (x : Read) × (o ≡ Some x)
made_read to kind regs s None r = absurd r
made_read to kind regs s (Some x) r = (x, refl)

pub make_there : (to : ℕ) (kind : Kind) (args : List ℕ) (heap : HeapState) (cells : List (Option Cell)) → CanDo (makes to kind args) heap cells → IsSome (keep_from [] args cells)
make_there to kind args heap cells can =
    let v = can.view in
    let x = made_read to kind (values_in v.names cells) v.state (read_all args (values_in v.names cells)) can.right in
    keeps_read v.names [] args cells x.0 x.1

-- a count leaves the world and the regions
counted_by : (q : Bool) (s t : State) → s.world ≡ t.world → s.regions ≡ t.regions → ((if q then s else t).world ≡ s.world) × ((if q then s else t).regions ≡ s.regions)
counted_by true s t e h = (refl, refl)
counted_by false s t e h = (sym e, sym h)

counted_same : (s : State) → ((counted s).world ≡ s.world) × ((counted s).regions ≡ s.regions)
counted_same s = counted_by s.quiet s (record s { most = max s.most (live s.world); made = s.made + 1 }) refl refl

steady_by : (q : Bool) (r s t : State) → Steady r s → Steady r t → Steady r (if q then s else t)
steady_by true r s t a b = a
steady_by false r s t a b = b

-- a birth leaves the rest of the state
born_steady : (s : State) (kind : Kind) (values : List Value) → Steady s (born kind values s)
born_steady s kind values =
    let t : State = record s { world = w.born s.world (record { region = Freeze s.regions; kind = kind; values = values }) } in
    steady_by s.quiet s t (record t { most = max t.most (live t.world); made = t.made + 1 })
    (record { left = refl; spent = refl; pieces = refl; frozen = refl; quiet = refl })
    (record { left = refl; spent = refl; pieces = refl; frozen = refl; quiet = refl })

made_regions : (old new : HeapState) (lent : Lent) (body : Body) (place : Place) → IsMade old new lent body place → new.regions ≡ old.regions
made_regions old new lent body place (inl h) = ap (λ (x : HeapState). x.regions) h.put.now
made_regions old new lent body place (inr h) = ap (λ (x : HeapState). x.regions) h.put.now

pub make_found : (to : ℕ) (kind : Kind) (args : List ℕ) (heap new : HeapState) (lent : Lent) (out : ℕ → Bool) (floors : ℕ → ℕ) (cells mid after : List (Option Cell)) (kept : List Cell) (place : Place)
    → keep_from [] args cells ≡ Some (record { cells = kept; after = mid }) → StandsMade heap new out floors (record { kind = kind; cells = kept }) place → IsMade heap new lent (record { kind = kind; cells = kept }) place
    → after ≡ slice_set mid to (Some (Own place)) → to < length cells → FollowsLent out floors (makes to kind args) heap cells new after
make_found to kind args heap new lent out floors cells mid after kept place keep stands made is room v low agrees right =
    let k = kept_as v.names [] args cells (record { cells = kept; after = mid }) agrees.known keep in
    let vs = k.values in
    let s = v.state in
    let names : List Place = v.names ++ place ∷ [] in
    let o : Object = record { region = Freeze s.regions; kind = kind; values = vs } in
    let denote : DenoteAll v.names kept vs = subst (λ cs. DenoteAll v.names cs vs) (sym k.is) k.denote in
    let stood = stands None v.low nobody v.names s.world vs agrees.stands denote (λ f seat x. absurd (let y : ⊥ = cc in y)) (λ n p gone has. absurd (let y : ⊥ = cc in y)) low in
    let whole : 0 + innermost heap ≡ innermost heap = omega arith in
    let region : inner_freeze heap None ≡ Freeze s.regions = ap Freeze (whole ∙ sym agrees.regions) in
    let stood_here : Stands new None v.low nobody names (w.born s.world o) = subst (λ r. Stands new None v.low nobody names (w.born s.world (record { region = r; kind = kind; values = vs }))) region stood in
    let t : State = born kind vs s in
    let same = counted_same (record s { world = w.born s.world o }) in
    let u : View = record { names = names; low = v.low; state = t } in
    let name : name_at names place ≡ length v.names = name_is names (length v.names) place stood_here.at.apart (last_has v.names place) in
    let is_known : IsKnown names place = found_known names (length v.names) place (last_has v.names place) in
    let regions : t.regions ≡ innermost new = same.1 ∙ agrees.regions ∙ sym (ap (λ n. n - 1) (made_regions heap new lent (record { kind = kind; cells = kept }) place made)) in
    let before : Agrees u new mid = record {
      stands = subst (Stands new None v.low nobody names) (sym same.0) stood_here;
      regions = regions;
      known = all_known_more v.names (place ∷ []) mid k.known;
    } in
    let wr = written_to u new mid after to (Own place) before (λ p e. subst (IsKnown names) (let q : place ≡ p = cc in q) is_known) (omega (arith, room, k.size)) is in
    record {
      view = u;
      value = Some (owner (length s.world));
      grows = record { more = place ∷ []; names = refl; low = refl };
      steady = born_steady s kind vs;
      agrees = wr.agrees;
      is = ap (λ x. (made_of to kind (values_in v.names cells) s x).answer) k.reads;
      registers =
          wr.is
          ∙ ap (λ n. put (values_in names mid) to (Some (owner n))) (name ∙ sym agrees.stands.at.as_many)
          ∙ ap (λ rs. put rs to (Some (owner (length s.world)))) (values_more v.names (place ∷ []) mid k.known)
          ∙ sym (ap (λ x. with_result (made_of to kind (values_in v.names cells) s x).to (Some (owner (length s.world))) (made_of to kind (values_in v.names cells) s x).after) k.reads);
    }

-- ---- registers get cells

fill_long : (to : List ℕ) (cells : List Cell) (now : List (Option Cell)) → length (fill_from to cells now) ≡ length now
fill_long [] cells now = refl
fill_long (r ∷ rs) [] now = refl
fill_long (r ∷ rs) (c ∷ cs) now = fill_long rs cs (slice_set now r (Some c)) ∙ length-set now r (Some c)

-- registers that got cells, by names
record FilledAs (names : List Place) (to : List ℕ) (values : List Value) (now after : List (Option Cell)) : Type 0 where
  puts : put_all to values (values_in names now) ≡ Some (values_in names after)
  known : AllKnown names after

filled_as : (names : List Place) (to : List ℕ) (cells : List Cell) (values : List Value) (now : List (Option Cell)) → Apart names → AllKnown names now → DenoteAll names cells values → length to ≡ length cells → AreBelow to (length now)
    → FilledAs names to values now (fill_from to cells now)
filled_as names [] [] [] now apart all d many below = record { puts = refl; known = all }
filled_as names [] (c ∷ cs) values now apart all d many below = absurd (omega (arith, many))
filled_as names (r ∷ rs) [] values now apart all d many below = absurd (omega (arith, many))
filled_as names [] [] (v ∷ vs) now apart all d many below = absurd d
filled_as names (r ∷ rs) (c ∷ cs) [] now apart all d many below = absurd d
filled_as names (r ∷ rs) (c ∷ cs) (v ∷ vs) now apart all d many below =
    let next : List (Option Cell) = slice_set now r (Some c) in
    let size : length next ≡ length now = length-set now r (Some c) in
    let room : r < length now = below 0 (omega arith) in
    let t = filled_as names rs cs vs next apart (known_put names now r (Some c) all (denotes_known names c v d.0)) d.1 (omega (arith, many)) (λ k lt. let h : slice_index rs k < length now = below (suc k) (omega (arith, lt)) in omega (arith, h, size)) in
    let put_here : values_in names next ≡ put (values_in names now) r (Some v) = put_values names now r (Some c) room ∙ ap (λ x. put (values_in names now) r (Some x)) (denotes_is names apart c v d.0) in
    record { puts = ap (put_all rs vs) (sym put_here) ∙ t.puts; known = t.known }

-- as many values as registers
put_many : (to : List ℕ) (values : List Value) (regs after : Registers) → put_all to values regs ≡ Some after → length to ≡ length values
put_many [] [] regs after e = refl
put_many [] (v ∷ vs) regs after e = absurd (let y : ⊥ = cc in y)
put_many (r ∷ rs) [] regs after e = absurd (let y : ⊥ = cc in y)
put_many (r ∷ rs) (v ∷ vs) regs after e = ap suc (put_many rs vs (put regs r (Some v)) after e)

-- ---- a death

opened_owner : (to : List ℕ) (from : ℕ) (regs : Registers) (s : State) (names : List Place) (o : Option Cell) → IsRight (opened to from regs s (value_in names o)).answer → (p : Place) × (o ≡ Some (Own p))
opened_owner to from regs s names None r = absurd r
opened_owner to from regs s names (Some (Int z)) r = absurd r
opened_owner to from regs s names (Some (Truth z)) r = absurd r
opened_owner to from regs s names (Some (Text z)) r = absurd r
opened_owner to from regs s names (Some (Own p)) r = (p, refl)
opened_owner to from regs s names (Some (Ref z)) r = absurd r
opened_owner to from regs s names (Some (Iso z)) r = absurd r

opened_object : (to : List ℕ) (from : ℕ) (regs : Registers) (s : State) (n : ℕ) (o : Option Object) → IsRight (opened_of to from regs s n o).answer → (x : Object) × (o ≡ Some x)
opened_object to from regs s n None r = absurd r
opened_object to from regs s n (Some x) r = (x, refl)

opened_put : (n : ℕ) (regs : Registers) (s : State) (o : Option Registers) → IsRight (opened_to n regs s o).answer → (x : Registers) × (o ≡ Some x)
opened_put n regs s None r = absurd r
opened_put n regs s (Some x) r = (x, refl)

lives_there : (o : Option (Option Object)) (x : Object) → living o ≡ Some x → o ≡ Some (Some x)
lives_there None x e = absurd (let y : ⊥ = cc in y)
lives_there (Some None) x e = absurd (let y : ⊥ = cc in y)
lives_there (Some (Some y)) x e = ap (λ z. Some z) e

module _ (to : List ℕ) (from : ℕ) (heap : HeapState) (cells : List (Option Cell)) where
  open_owner : (v : View) → IsRight (opens to from (values_in v.names cells) v.state).answer → (p : Place) × (held cells from ≡ Some (Own p))
  open_owner v right = opened_owner to from (values_in v.names cells) v.state v.names (held cells from) (subst (λ o. IsRight (opened to from (values_in v.names cells) v.state o).answer) (read_values v.names cells from) right)

  pub open_place : CanDo (opens to from) heap cells → (p : Place) × (place_in (held cells from) ≡ Some p)
  open_place can = let p = open_owner can.view can.right in (p.0, ap place_in p.1)

  -- the register holds the owner of the place that it leads to
  open_held : (v : View) (p : Place) → IsRight (opens to from (values_in v.names cells) v.state).answer → place_in (held cells from) ≡ Some p → held cells from ≡ Some (Own p)
  open_held v p right at =
      let q = open_owner v right in
      let same : Some q.0 ≡ Some p = sym (ap place_in q.1) ∙ at in
      q.1 ∙ ap (λ x. Some (Own x)) (let y : q.0 ≡ p = cc in y)

  -- the step, by the owner's object
  open_is : (v : View) (p : Place) → held cells from ≡ Some (Own p) → opens to from (values_in v.names cells) v.state ≡ opened_of to from (values_in v.names cells) v.state (name_at v.names p) (object_of (name_at v.names p) v.state)
  open_is v p e = ap (opened to from (values_in v.names cells) v.state) (read_held v.names cells from (Own p) e)

  -- the owner's object lives
  pub open_lives : (p : Place) → CanDo (opens to from) heap cells → place_in (held cells from) ≡ Some p → StandsFound heap p None → ⊥
  open_lives p can at found =
      let v = can.view in
      let e = open_held v p can.right at in
      let n = name_at v.names p in
      let x = opened_object to from (values_in v.names cells) v.state n (object_of n v.state) (subst (λ (d : Doing). IsRight d.answer) (open_is v p e) can.right) in
      let dead = finds v heap cells can.agrees from p at None found in
      let lives = lives_there (slice_get v.state.world n) x.0 x.1 in
      let clash : Some None ≡ Some (Some x.0) = sym dead ∙ lives in
      let y : ⊥ = cc in y

  -- there are as many registers as values
  pub open_many : (p : Place) (body : Body) → CanDo (opens to from) heap cells → place_in (held cells from) ≡ Some p → StandsFound heap p (Some body) → length to ≡ length body.cells
  open_many p body can at found =
      let v = can.view in
      let e = open_held v p can.right at in
      let n = name_at v.names p in
      let regs = values_in v.names cells in
      let means = finds v heap cells can.agrees from p at (Some body) found in
      let right : IsRight (opened_of to from regs v.state n (Some means.0)).answer = subst (λ (d : Doing). IsRight d.answer) (open_is v p e ∙ ap (λ o. opened_of to from regs v.state n (living o)) means.1) can.right in
      let x = opened_put n regs v.state (put_all to means.0.values (put regs from None)) right in
      put_many to means.0.values (put regs from None) x.0 x.1 ∙ sym (as_many v.names body.cells means.0.values means.3)

  pub open_found : (p : Place) (body : Body) (new : HeapState) (mid after : List (Option Cell)) → place_in (held cells from) ≡ Some p → StandsFound heap p (Some body) → StandsEnded heap new p → IsEnded heap new body p
      → mid ≡ slice_set cells from None → length to ≡ length body.cells → AreBelow to (length cells) → after ≡ fill_from to body.cells mid → Follows (opens to from) heap cells effect.Done new after
  open_found p body new mid after at found ends ended emptied many below is v agrees right =
      let e = open_held v p right at in
      let n = name_at v.names p in
      let s = v.state in
      let regs = values_in v.names cells in
      let is_known = known v heap cells agrees from p at in
      let means = finds v heap cells agrees from p at (Some body) found in
      let within = held_within cells from (Own p) e in
      let size : length mid ≡ length cells = ap length emptied ∙ length-set cells from None in
      let known_mid : AllKnown v.names mid = subst (AllKnown v.names) (sym emptied) (known_put v.names cells from None agrees.known (λ q h. absurd (let y : ⊥ = cc in y))) in
      let f = filled_as v.names to body.cells means.0.values mid agrees.stands.at.apart known_mid means.3 many (λ k lt. let h = below k lt in omega (arith, h, size)) in
      let mid_is : values_in v.names mid ≡ put regs from None = ap (values_in v.names) emptied ∙ put_values v.names cells from None within in
      let puts : put_all to means.0.values (put regs from None) ≡ Some (values_in v.names (fill_from to body.cells mid)) = ap (put_all to means.0.values) (sym mid_is) ∙ f.puts in
      let step : opens to from regs s ≡ opened_to n regs s (Some (values_in v.names (fill_from to body.cells mid))) =
      open_is v p e ∙ ap (λ o. opened_of to from regs s n (living o)) means.1 ∙ ap (opened_to n regs s) puts in
      let u : View = record v { state = dies n s } in
      record {
        view = u;
        value = None;
        grows = same_names v (dies n s);
        steady = record { left = refl; spent = refl; pieces = refl; frozen = refl; quiet = refl };
        agrees = record {
          stands = ends None v.low nobody v.names s.world n agrees.stands is_known;
          regions = agrees.regions ∙ sym (ap (λ (h : HeapState). innermost h) ended.now);
          known = subst (AllKnown v.names) (sym is) f.known;
        };
        is = ap (λ (d : Doing). d.answer) step;
        registers = ap (values_in v.names) is ∙ sym (ap (λ (d : Doing). with_result d.to None d.after) step);
      }

-- ---- loops

-- the next register of those that are kept
pub keep_here : (args : List ℕ) (at : ℕ) (before : List Cell) (start now : List (Option Cell)) → at < length args → keep_from [] args start ≡ keep_from before (drop at args) now → IsSome (keep_from [] args start) → (c : Cell) × (held now (get_or args at 0) ≡ Some c)
keep_here args at before start now lt e some =
    keep_there before (get_or args at 0) (drop (suc at) args) now (subst (λ o. IsSome o) (e ∙ ap (λ rs. keep_from before rs now) (drop-cons args at 0 lt)) some)

pub keep_more : (args : List ℕ) (at : ℕ) (before : List Cell) (start now after : List (Option Cell)) (c : Cell) → at < length args → keep_from [] args start ≡ keep_from before (drop at args) now → held now (get_or args at 0) ≡ Some c
    → after ≡ kept_cells (held now (get_or args at 0)) (get_or args at 0) now → keep_from [] args start ≡ keep_from (before ++ c ∷ []) (drop (at + 1) args) after
keep_more args at before start now after c lt e here is =
    let next : suc at ≡ at + 1 = omega arith in
    e
    ∙ ap (λ rs. keep_from before rs now) (drop-cons args at 0 lt)
    ∙ keep_next before (get_or args at 0) (drop (suc at) args) now after c here is
    ∙ ap (λ k. keep_from (before ++ c ∷ []) (drop k args) after) next

pub keep_end : (args : List ℕ) (at : ℕ) (before : List Cell) (start now : List (Option Cell)) → length args ≤ at → keep_from [] args start ≡ keep_from before (drop at args) now → keep_from [] args start ≡ Some (record { cells = before; after = now })
keep_end args at before start now le e = e ∙ ap (λ rs. keep_from before rs now) (none_left args at le)
  where
    none_left : (xs : List ℕ) (n : ℕ) → length xs ≤ n → drop n xs ≡ []
    none_left [] zero le = refl
    none_left [] (suc n) le = refl
    none_left (x ∷ xs) zero le = absurd (omega (arith, le))
    none_left (x ∷ xs) (suc n) le = none_left xs n (omega (arith, le))

-- the next cell goes to the next register
pub fill_more : (to : List ℕ) (at : ℕ) (c : Cell) (cells : List Cell) (now after : List (Option Cell)) → at < length to → after ≡ slice_set now (get_or to at 0) (Some c)
    → fill_from (drop at to) (c ∷ cells) now ≡ fill_from (drop (at + 1) to) cells after
fill_more to at c cells now after lt is =
    let next : suc at ≡ at + 1 = omega arith in
    ap (λ rs. fill_from rs (c ∷ cells) now) (drop-cons to at 0 lt)
    ∙ ap (fill_from (drop (suc at) to) cells) (sym is)
    ∙ ap (λ k. fill_from (drop k to) cells after) next

pub fill_end : (to : List ℕ) (now : List (Option Cell)) → fill_from to [] now ≡ now
fill_end [] now = refl
fill_end (r ∷ rs) now = refl

-- what holds where a call is done, by what it says
pub on_ok : {A E : Type 0} (r : Result A E) (P Q : Type 0) → OnOk r P → (P → Q) → OnOk r Q
on_ok (Ok x) P Q h f = f h
on_ok (Err e) P Q h f = tt
