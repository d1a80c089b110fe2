-- How the walk goes through objects that are made of the values that wait, and through calls of functions.
use Rattle.std.proofs.Common.{◌≡◌, ℕ, zero, suc, ◌+◌, ◌<◌, ◌≤◌, List, [], ◌∷◌, length, map, replicate, Option, Some, None, Bool, true, false, if◌then◌else◌, refl, sym, ap, ◌∙◌, subst, arith}
use Rattle.std.specs.Prelude.{slice_get, nat_le}
use Rattle.std.proofs.lemmas.Bool.{and_from, lt-ltb, eq-eqb}
use Rattle.std.proofs.lemmas.Option.{slice_get_within}
use Rattle.vale_base.specs.Limits.{width_limit}
use Rattle.vale_base.specs.declared.name.Kind.{Kind}
use Rattle.vale_base.specs.declared.spot.Spot.{Spot}
use Rattle.vale_rules_spec.specs.Types.{Ty}
use Rattle.vale_rules_spec.specs.Types as y
use Rattle.vale_rules_spec.specs.Typed.{Exprs, no_exprs, more_exprs, types}
use Rattle.vale_rules_spec.specs.Typing.{Env}
use Rattle.vale_code.specs.Kinds as code
use Rattle.vale_code.specs.Operands.{room_of, room_for}
use Rattle.vale_code.specs.declared.func.Func.{Func}
use Rattle.vale_code.specs.declared.instr.Instr.{Instr}
use Rattle.vale_code.specs.declared.instr.Instr.TheVariants as i
use Rattle.vale_code.specs.declared.kind.KindInfo.{KindInfo}
use Rattle.vale_code.specs.declared.kind.KindInfo.TheVariants as k
use Rattle.vale_code.specs.declared.ty.Ty.{Ty as CodeTy}
use Rattle.vale_code.specs.declared.ty.Ty.TheVariants as t
use Rattle.vale_cert.specs.Known.{Known, fact_of, is_there, is_free, agrees}
use Rattle.vale_cert.specs.Objects.{cells_of, fields_of, has_room, item_in}
use Rattle.vale_cert.specs.Rules.{Effect, gives_frozen, passes, passes_all, passed, takes_all, taken, comes_back, calls, call_by_form, gets, makes_of, if_types, all_fine}
use Rattle.vale_cert.specs.declared.facts.RegFact.{RegFact}
use Rattle.vale_cert.specs.declared.facts.RegFact.TheVariants.{Empty, Held}
use Rattle.vale_lowering.specs.Instructions.{registers_from}
use Rattle.vale_lowering_objects.specs.Lowered.{gives_list}
use Rattle.vale_lowering_objects.specs.Program.{code_type}
use Rattle.vale_lowering_objects.specs.Scopes.{Gone}
use Rattle.vale_object_facts.specs.Slots.{Stand, with_gone, holding, given}
use Rattle.vale_object_facts.specs.Stands.{with_args}
use Rattle.vale_object_facts.specs.Suits.{code_types}
use Rattle.vale_object_facts.proofs.Agreeing.{agrees_same, Facts, put, put_there, Hold, hold_less, hold_put, hold_at, hold_free}
use Rattle.vale_object_facts.proofs.Arguments.{args_below, args_fall, args_depth, Wait}
use Rattle.vale_object_facts.proofs.Covering.{Site, at, held, Covers, nothing_above, holding_here, holding_there}
use Rattle.vale_object_facts.proofs.Locals.{Stands, none_at, stands_gone}
use Rattle.vale_object_facts.proofs.Owners.{says_put}
use Rattle.vale_object_facts.proofs.Places.{passed_hold}
use Rattle.vale_object_facts.proofs.Rows.{Fine, all_kept, uses_fine, room}
use Rattle.vale_object_facts.proofs.Runs.{row_at, Does, Runs, single, falls}
use Rattle.vale_object_facts.proofs.Taking.{emptied, emptied_says}
use Rattle.vale_object_facts.proofs.Ways.{in_order}

-- ---- how many

pub length_from : (h n : ℕ) → length (registers_from h n) ≡ n
length_from h zero = refl
length_from h (suc n) = ap suc (length_from (h + 1) n)

pub count_gives : (es : Exprs) → length (gives_list es) ≡ length (types es)
count_gives no_exprs = refl
count_gives (more_exprs e es) = ap suc (count_gives es)

-- where there is room for all of them
pub room_for_all : (h n m : ℕ) → room_of (registers_from h m) ≤ n → h ≤ n → h + m ≤ n
room_for_all h n zero le lt = omega (arith, lt)
room_for_all h n (suc m) le lt =
    let rest = room_for_all (h + 1) n m (omega (arith, le)) (omega (arith, le)) in
    omega (arith, rest)

-- ---- kinds that have cells

pub struct_cells : (o : Option KindInfo) (tys : List CodeTy) (n : ℕ) → fields_of o ≡ Some tys → (cells_of o n ≡ Some tys) × (has_room o n ≡ true)
struct_cells (Some (k.Struct name destructor fields)) tys n e = (e, refl)
struct_cells (Some (k.Interface name methods)) tys n e = absurd (cc)
struct_cells (Some (k.Array item)) tys n e = absurd (cc)
struct_cells None tys n e = absurd (cc)

pub array_cells : (o : Option KindInfo) (ty : CodeTy) (n : ℕ) → item_in o ≡ Some ty → nat_le n width_limit ≡ true → (cells_of o n ≡ Some (replicate n ty)) × (has_room o n ≡ true)
array_cells (Some (k.Array item)) ty n e few = let same : item ≡ ty = cc in (ap (λ z. Some (replicate n z)) same, few)
array_cells (Some (k.Interface name methods)) ty n e few = absurd (cc)
array_cells (Some (k.Struct name destructor fields)) ty n e few = absurd (cc)
array_cells None ty n e few = absurd (cc)

some_kind : (o : Option KindInfo) (tys : List CodeTy) (n : ℕ) → cells_of o n ≡ Some tys → (info : KindInfo) × (o ≡ Some info)
some_kind None tys n e = absurd (cc)
some_kind (Some info) tys n e = (info, refl)

module _ (k : Site) where
  -- ---- values are taken out of registers

  wait_above : (ts : List Ty) (j h d : ℕ) (F : Facts) (x : RegFact) → h < j → Wait k ts j d F → Wait k ts j d (put h x F)
  wait_above [] j h d F x lt w = tt
  wait_above (t ∷ ts) j h d F x lt w = (put_there h x F j (omega (arith, lt)) ∙ w.0, wait_above ts (j + 1) h d F x (omega (arith, lt)) w.1)

  pub record Taken (F : Facts) (ts : List Ty) (h : ℕ) (e : Effect) : Type 0 where
    pub fine : Fine e.kept
    pub hold : Hold (room k) e.after (emptied ts h F)

  pub takes_each : (depth d : ℕ) (ts : List Ty) (h : ℕ) (F : Facts) (e : Effect) → depth ≡ d → Fine e.kept → Hold (room k) e.after F → h + length ts ≤ room k → Wait k ts h d F → Taken F ts h (takes_all depth (map (code_type k.parts) ts) (registers_from h (length ts)) e)
  takes_each depth d [] h F e same f hold le w = record { fine = f; hold = hold }
  takes_each depth d (t ∷ ts) h F e same f hold le w =
      let rest =
      takes_each depth d ts (h + 1) (put h Empty F) (taken depth h (code_type k.parts t) e) same (uses_fine (room k) depth h (code_type k.parts t) d f hold (omega (arith, le)) w.0 same)
      (passed_hold k (room k) e.after F h (code_type k.parts t) d hold w.0) (omega (arith, le)) (wait_above ts (h + 1) h d F Empty (omega arith) w.1) in
      record { fine = rest.fine; hold = rest.hold }

  -- ---- and given to a function

  frozen_passes : (depth d : ℕ) (kd : Kind) (h : ℕ) (F : Facts) (e : Effect) → Fine e.kept → Hold (room k) e.after F → h < room k → F h ≡ Held (t.Frozen kd) d false → Fine (passes depth e.after h (t.Frozen kd) e.kept)
  frozen_passes depth d kd h F e f hold lt here = by (hold_at (room k) h (t.Frozen kd) d hold lt here)
    where
      by : (live : Bool) × (fact_of e.after h ≡ Held (t.Frozen kd) d live) → Fine (passes depth e.after h (t.Frozen kd) e.kept)
      by is = record {
        types = and_from _ _ f.types (ap (gives_frozen depth kd.0) is.1 ∙ eq-eqb kd.0 kd.0 refl);
        present = and_from _ _ f.present (ap is_there is.1);
        depths = f.depths;
      }

  one_passes : (depth d : ℕ) (ty : CodeTy) (h : ℕ) (F : Facts) (e : Effect) → depth ≡ d → Fine e.kept → Hold (room k) e.after F → h < room k → F h ≡ Held ty d false → Fine (passes depth e.after h ty e.kept)
  one_passes depth d (t.Frozen kd) h F e same f hold lt here = frozen_passes depth d kd h F e f hold lt here
  one_passes depth d t.Void h F e same f hold lt here = uses_fine (room k) depth h t.Void d f hold lt here same
  one_passes depth d t.Int h F e same f hold lt here = uses_fine (room k) depth h t.Int d f hold lt here same
  one_passes depth d t.Truth h F e same f hold lt here = uses_fine (room k) depth h t.Truth d f hold lt here same
  one_passes depth d t.Text h F e same f hold lt here = uses_fine (room k) depth h t.Text d f hold lt here same
  one_passes depth d (t.Own kd) h F e same f hold lt here = uses_fine (room k) depth h (t.Own kd) d f hold lt here same
  one_passes depth d (t.Ref kd) h F e same f hold lt here = uses_fine (room k) depth h (t.Ref kd) d f hold lt here same
  one_passes depth d (t.Iso kd) h F e same f hold lt here = uses_fine (room k) depth h (t.Iso kd) d f hold lt here same

  passes_each : (depth d : ℕ) (ts : List Ty) (h : ℕ) (F : Facts) (e : Effect) → depth ≡ d → Fine e.kept → Hold (room k) e.after F → h + length ts ≤ room k → Wait k ts h d F → Taken F ts h (passes_all depth (map (code_type k.parts) ts) (registers_from h (length ts)) e)
  passes_each depth d [] h F e same f hold le w = record { fine = f; hold = hold }
  passes_each depth d (t ∷ ts) h F e same f hold le w =
      let rest =
      passes_each depth d ts (h + 1) (put h Empty F) (passed depth h (code_type k.parts t) e) same (one_passes depth d (code_type k.parts t) h F e same f hold (omega (arith, le)) w.0)
      (passed_hold k (room k) e.after F h (code_type k.parts t) d hold w.0) (omega (arith, le)) (wait_above ts (h + 1) h d F Empty (omega arith) w.1) in
      record { fine = rest.fine; hold = rest.hold }

  -- ---- what comes of them

  module _ (env : Env) (h : ℕ) (s : Stand) (st : Stands k env h s) (g : Gone) (es : Exprs) (wait : Wait k (types es) h s.depth (at k (with_gone g (with_args es h s)))) where
    abbrev pub args : Stand
    args = with_gone g (with_args es h s)

    abbrev before : Stand
    before = with_gone g s

    abbrev left : Facts
    left = emptied (types es) h (at k args)

    args_same : args.depth ≡ s.depth
    args_same = args_depth es h s

    left_says : (q : ℕ) → agrees (at k before q) (left q) ≡ true
    left_says q =
        emptied_says (types es) h (at k args) (at k before) (λ q lt. sym (args_below k es h s g q lt)) (λ q le. none_at k q (stands_gone k g st) le)
        (λ q le. nothing_above k (h + length (types es)) (with_args es h s).slots g q (args_fall k es h s st.falls) le) q

    left_free : is_free (left h) ≡ true
    left_free = subst (λ f. agrees f (left h) ≡ true) (none_at k h (stands_gone k g st) (omega arith)) (left_says h)

    record Came (x : Ty) (known : Known) (row : Effect) : Type 0 where
      fine : Fine row.kept
      covers : Covers k (record { depth = known.depth; regs = row.after }) (given h x before)

    module _ (known : Known) (c : Covers k known args) (lt : h < room k) (e : Effect) (done : Taken (at k args) (types es) h e) where
      came_value : (x : Ty) (row : Effect) → y.is_void x ≡ false → row ≡ gets known.depth e.after h (code_type k.parts x) e.kept → Came x known row
      came_value x row some is = record { fine = kept; covers = there (y.is_void x) some }
        where
          same : known.depth ≡ s.depth
          same = c.depth ∙ args_same

          kept : Fine row.kept
          kept = record {
            types = ap (λ r. r.kept.types) is ∙ done.fine.types;
            present = ap (λ r. r.kept.present) is ∙ and_from _ _ done.fine.present (hold_free (room k) h done.hold lt left_free);
            depths = ap (λ r. r.kept.depths) is ∙ done.fine.depths;
          }

          got : Hold (room k) row.after (put h (held k x s.depth) left)
          got =
              subst (λ r. Hold (room k) r (put h (held k x s.depth) left)) (sym (ap (λ r. r.after) is))
              (hold_put (room k) h (Held (code_type k.parts x) known.depth false) (held k x s.depth) (subst (λ d. agrees (held k x s.depth) (Held (code_type k.parts x) d false) ≡ true) (sym same) (agrees_same (held k x s.depth))) done.hold)

          holds : Hold (room k) row.after (at k (holding h x before))
          holds =
              hold_less (room k) (at k (holding h x before)) got
              (says_put k left (holding h x before) h (held k x s.depth) (subst (λ f. agrees f (held k x s.depth) ≡ true) (sym (holding_here k h x before)) (agrees_same (held k x s.depth)))
              (λ q ne. subst (λ f. agrees f (left q) ≡ true) (sym (holding_there k h x before q ne)) (left_says q)))

          there : (b : Bool) → b ≡ false → Covers k (record { depth = known.depth; regs = row.after }) (if b then before else holding h x before)
          there false e = record { depth = same; regs = holds }
          there true e = absurd (cc)

      came_back : (x : Ty) → Came x known (comes_back known.depth (code_type k.parts x) h e)
      came_back y.void = record { fine = done.fine; covers = record { depth = c.depth ∙ args_same; regs = hold_less (room k) (at k before) done.hold left_says } }
      came_back y.int = came_value y.int (comes_back known.depth (code_type k.parts y.int) h e) refl refl
      came_back y.bool = came_value y.bool (comes_back known.depth (code_type k.parts y.bool) h e) refl refl
      came_back y.str = came_value y.str (comes_back known.depth (code_type k.parts y.str) h e) refl refl
      came_back (y.kind n) = came_value (y.kind n) (comes_back known.depth (code_type k.parts (y.kind n)) h e) refl refl
      came_back (y.array x) = came_value (y.array x) (comes_back known.depth (code_type k.parts (y.array x)) h e) refl refl
      came_back (y.ref x) = came_value (y.ref x) (comes_back known.depth (code_type k.parts (y.ref x)) h e) refl refl
      came_back (y.imm x) = came_value (y.imm x) (comes_back known.depth (code_type k.parts (y.imm x)) h e) refl refl
      came_back (y.iso x) = came_value (y.iso x) (comes_back known.depth (code_type k.parts (y.iso x)) h e) refl refl

    -- an instruction of which that comes
    came_does : (instr : Instr) (x : Ty) (known : Known) (row : Effect) → row_at k instr known ≡ row → Came x known row → Does k instr known (given h x before)
    came_does instr x known row is z = record {
      types = ap (λ r. r.kept.types) is ∙ z.fine.types;
      present = ap (λ r. r.kept.present) is ∙ z.fine.present;
      depths = ap (λ r. r.kept.depths) is ∙ z.fine.depths;
      covers = subst (λ r. Covers k (record { depth = known.depth; regs = r.after }) (given h x before)) (sym is) z.covers;
    }

    abbrev count : ℕ
    count = length (types es)

    -- ---- objects

    -- of a kind with cells of these types
    module _ (x : Ty) (kd : Kind) (own : code_type k.parts x ≡ t.Own kd) (some : y.is_void x ≡ false) (cells : cells_of (code.kind_of k.code kd) count ≡ Some (code_types k.parts (types es))) (enough : has_room (code.kind_of k.code kd) count ≡ true) where
      abbrev make : Instr
      make = i.Make h kd (registers_from h count)

      abbrev start : Known → Effect
      start known = record { kept = if_types (has_room (code.kind_of k.code kd) count); after = known.regs }

      abbrev all_taken : Known → Effect
      all_taken known = takes_all known.depth (code_types k.parts (types es)) (registers_from h count) (start known)

      make_row : (known : Known) → row_at k make known ≡ gets known.depth (all_taken known).after h (code_type k.parts x) (all_taken known).kept
      make_row known =
          ap (λ n. makes_of known.depth (cells_of (code.kind_of k.code kd) n) kd h (registers_from h count) (record { kept = if_types (has_room (code.kind_of k.code kd) n); after = known.regs })) (length_from h count)
          ∙ ap (λ o. makes_of known.depth o kd h (registers_from h count) (start known)) cells
          ∙ ap (λ ty. gets known.depth (all_taken known).after h ty (all_taken known).kept) (sym own)

      make_does : room_for make ≤ room k → (known : Known) → Covers k known args → Does k make known (given h x before)
      make_does r known c =
          came_does make x known (gets known.depth (all_taken known).after h (code_type k.parts x) (all_taken known).kept) (make_row known)
          (came_value known c (omega (arith, r)) (all_taken known)
          (takes_each known.depth s.depth (types es) h (at k args) (start known) (c.depth ∙ args_same) (record { types = enough; present = refl; depths = refl }) c.regs (room_for_all h (room k) count (omega (arith, r)) (omega (arith, r))) wait)
          x (gets known.depth (all_taken known).after h (code_type k.parts x) (all_taken known).kept) some refl)

      pub make_runs : {p : ℕ} → Runs k p (make ∷ []) (args ∷ []) args (falls (given h x before))
      make_runs =
          let info = some_kind (code.kind_of k.code kd) (code_types k.parts (types es)) count cells in
          single k make refl refl (in_order k make (lt-ltb kd.0 (length k.code.kinds) (slice_get_within k.code.kinds kd.0 info.0 info.1))) make_does

    -- ---- functions

    module _ (n : ℕ) (f : Func) (x : Ty) (spot : Spot) (here : slice_get k.code.funcs n ≡ Some f) (plain : f.form ≡ 0) (takes : f.params ≡ code_types k.parts (types es)) (gives : f.result ≡ code_type k.parts x) where
      abbrev call : Instr
      call = i.Call h n (registers_from h count) spot

      abbrev all_passed : Known → Effect
      all_passed known = passes_all known.depth (code_types k.parts (types es)) (registers_from h count) (all_fine known.regs)

      call_row : (known : Known) → row_at k call known ≡ comes_back known.depth (code_type k.parts x) h (all_passed known)
      call_row known =
          ap (λ o. calls known.depth known.regs o h (registers_from h count)) here
          ∙ ap (λ b. call_by_form b known.depth known.regs f h (registers_from h count)) (eq-eqb f.form 0 plain)
          ∙ ap (λ r. comes_back known.depth r h (passes_all known.depth f.params (registers_from h count) (all_fine known.regs))) gives
          ∙ ap (λ ps. comes_back known.depth (code_type k.parts x) h (passes_all known.depth ps (registers_from h count) (all_fine known.regs))) takes

      call_does : room_for call ≤ room k → (known : Known) → Covers k known args → Does k call known (given h x before)
      call_does r known c =
          came_does call x known (comes_back known.depth (code_type k.parts x) h (all_passed known)) (call_row known)
          (came_back known c (omega (arith, r)) (all_passed known)
          (passes_each known.depth s.depth (types es) h (at k args) (all_fine known.regs) (c.depth ∙ args_same) all_kept c.regs (room_for_all h (room k) count (omega (arith, r)) (omega (arith, r))) wait)
          x)

      pub call_runs : {p : ℕ} → Runs k p (call ∷ []) (args ∷ []) args (falls (given h x before))
      call_runs = single k call refl refl (in_order k call (lt-ltb n (length k.code.funcs) (slice_get_within k.code.funcs n f here))) call_does
