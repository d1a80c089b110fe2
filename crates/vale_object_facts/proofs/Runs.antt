-- How the walk of a function goes through parts of its code: where the walk goes through what stands after a part, from whatever
-- covers the place after it, it goes through the part too, from whatever covers the place before it.
use Rattle.std.proofs.Common.{◌≡◌, ℕ, ◌+◌, ◌<◌, ◌≤◌, List, [], ◌∷◌, ◌++◌, length, Option, Some, None, Bool, true, false, ◌&&◌, if◌then◌else◌, refl, sym, ap, ◌∙◌, subst, arith, length-append, append_assoc}
use Rattle.std.specs.List.{list_all}
use Rattle.std.proofs.lemmas.Bool.{and_from, lt-ltb}
use Rattle.std.proofs.lemmas.List.Folds.{list_all-append}
use Rattle.vale_code.specs.Operands.{room_for}
use Rattle.vale_code.specs.declared.instr.Instr.{Instr}
use Rattle.vale_code.specs.declared.instr.Instr.TheVariants as i
use Rattle.vale_code.specs.declared.ty.Ty.TheVariants as t
use Rattle.vale_cert.specs.Known.{Known, fact_of, is_there, has, label_at, is_label, may_enter, stated}
use Rattle.vale_cert.specs.Numbers.{numbers}
use Rattle.vale_cert.specs.Rules.{Effect}
use Rattle.vale_cert.specs.Walk.{Rules, broken, fault_of, or_else, effect_of, after, enters, has_target, next_of, is_place, rules, known_after, if_known, walk, goes_on, target_of}
use Rattle.vale_cert.specs.declared.facts.Label.{Label}
use Rattle.vale_cert.specs.declared.facts.RegFact.TheVariants.{Held}
use Rattle.vale_cert.specs.declared.fault.Fault.{Fault}
use Rattle.vale_lowering_objects.specs.Scopes.{Gone, After, comes, never}
use Rattle.vale_object_facts.specs.Slots.{Stand, label_for}
use Rattle.vale_object_facts.specs.Stands.{Stands}
use Rattle.vale_object_facts.proofs.Agreeing.{hold_at}
use Rattle.vale_object_facts.proofs.Covering.{Site, at, Covers, Says, covers_less, known_of, covers_stated, enters_label}

one_kept : (n : ℕ) (a : Bool) (rest : Rules) → a ≡ true → broken rest ≡ None → broken ((n, a) ∷ rest) ≡ None
one_kept n true rest e h = h
one_kept n false rest e h = absurd (cc)

label_any : (o : Option Label) (known : Known) → is_label o ≡ true → stated o None ≡ stated o (Some known)
label_any None known e = absurd (cc)
label_any (Some label) known e = refl

-- what is known where a part ends, if a run comes there
pub data End : Type 0 where
  falls : Stand → End
  stops : End

abbrev pub ending : After → (Gone → Stand) → End
ending (comes g) u = falls (u g)
ending (never g) u = stops

module _ (k : Site) where
  abbrev pub W : ℕ → List Instr → Option Known → Option Fault
  W p is o = walk k.code k.func k.labels k.base p is true o

  abbrev pub row_at : Instr → Known → Effect
  row_at instr known = effect_of k.code k.func k.labels k.base instr known

  abbrev pub next_known : Instr → Known → Known
  next_known instr known = after k.code k.func k.labels k.base instr known

  -- ---- places

  -- the walk may come to a place
  pub record Arrives (p : ℕ) (is : List Instr) (known : Known) : Type 0 where
    pub enters : may_enter (label_at k.labels p) known ≡ true
    pub inside : p < length k.func.body
    pub walks : W p is (Some known) ≡ None

  -- and does from whatever covers this
  pub record Ready (p : ℕ) (s : Stand) (is : List Instr) : Type 0 where
    pub arrives : (known : Known) → Covers k known s → Arrives p is known

  -- nothing runs into a place: it has a label, or nothing stands there
  pub record Cut (p : ℕ) (is : List Instr) : Type 0 where
    pub walks : W p is None ≡ None

  abbrev pub Next : ℕ → End → List Instr → Type 0
  Next p (falls s) is = Ready p s is
  Next p stops is = Cut p is

  pub ready_more : {p : ℕ} {s u : Stand} {is : List Instr} → Says k s u → Ready p u is → Ready p s is
  ready_more a r = record { arrives = λ known c. r.arrives known (covers_less k c a) }

  pub ready_at : {p q : ℕ} {s : Stand} {is : List Instr} → p ≡ q → Ready p s is → Ready q s is
  ready_at {s = s} {is} e r = subst (λ x. Ready x s is) e r

  pub next_at : {p q : ℕ} (e : End) (is : List Instr) → p ≡ q → Next p e is → Next q e is
  next_at e is same r = subst (λ x. Next x e is) same r

  -- an instruction stands at a place: what a label there states, and that there is one where the instruction leads
  pub record Placed (p : ℕ) (instr : Instr) (s : Stand) : Type 0 where
    pub inside : p < length k.func.body
    pub room : room_for instr ≤ k.func.registers
    pub label : (l : Label) → label_at k.labels p ≡ Some l → l ≡ label_for k.parts k.func.registers p s
    pub target : (q : ℕ) → target_of instr ≡ Some q → q < length k.func.body → is_label (label_at k.labels q) ≡ true

  -- ---- one instruction

  -- its rules are kept, and the walk goes on after it
  pub record Goes (p : ℕ) (instr : Instr) (known : Known) (rest : List Instr) : Type 0 where
    pub types : (row_at instr known).kept.types ≡ true
    pub present : (row_at instr known).kept.present ≡ true
    pub depths : (row_at instr known).kept.depths ≡ true
    pub to_target : enters k.code k.func k.labels k.base (target_of instr) (next_known instr known) ≡ true
    pub to_next : enters k.code k.func k.labels k.base (next_of k.code k.func k.labels k.base p instr) (next_known instr known) ≡ true
    pub target : has_target k.code k.func k.labels k.base (target_of instr) ≡ true
    pub next : is_place k.code k.func k.labels k.base (next_of k.code k.func k.labels k.base p instr) ≡ true
    pub walks : W (p + 1) rest (known_after k.code k.func k.labels k.base instr known) ≡ None

  abbrev go_on : ℕ → Instr → List Instr → Known → Option Fault
  go_on p instr rest known =
      or_else (fault_of (k.base + p) (broken (rules k.code k.func k.labels k.base p true instr known)))
      (W (p + 1) rest (known_after k.code k.func k.labels k.base instr known))

  module _ (p : ℕ) (instr : Instr) (known : Known) where
    abbrev into : Bool
    into = true && enters k.code k.func k.labels k.base (target_of instr) (next_known instr known) && enters k.code k.func k.labels k.base (next_of k.code k.func k.labels k.base p instr) (next_known instr known)

    abbrev places : Bool
    places = has_target k.code k.func k.labels k.base (target_of instr) && is_place k.code k.func k.labels k.base (next_of k.code k.func k.labels k.base p instr)

    abbrev last_three : Rules
    last_three = (5, into) ∷ (6, true) ∷ (7, places) ∷ []

    last_kept : into ≡ true → places ≡ true → broken last_three ≡ None
    last_kept a b = one_kept 5 into ((6, true) ∷ (7, places) ∷ []) a (one_kept 6 true ((7, places) ∷ []) refl (one_kept 7 places [] b refl))

    none_broken : (row_at instr known).kept.types ≡ true → (row_at instr known).kept.present ≡ true → (row_at instr known).kept.depths ≡ true → broken last_three ≡ None → broken (rules k.code k.func k.labels k.base p true instr known) ≡ None
    none_broken a b c two =
        one_kept 2 (row_at instr known).kept.types ((3, (row_at instr known).kept.present) ∷ (4, (row_at instr known).kept.depths) ∷ last_three) a
        (one_kept 3 (row_at instr known).kept.present ((4, (row_at instr known).kept.depths) ∷ last_three) b
        (one_kept 4 (row_at instr known).kept.depths last_three c two))

  goes_on_well : (p : ℕ) (instr : Instr) (known : Known) (rest : List Instr) → Goes p instr known rest → go_on p instr rest known ≡ None
  goes_on_well p instr known rest g =
      ap (λ b. or_else (fault_of (k.base + p) b) (W (p + 1) rest (known_after k.code k.func k.labels k.base instr known)))
      (none_broken p instr known g.types g.present g.depths (last_kept p instr known (and_from _ _ g.to_target g.to_next) (and_from _ _ g.target g.next)))
      ∙ g.walks

  walk_by : (p : ℕ) (instr : Instr) (rest : List Instr) (o : Option Known) (known : Known) → stated (label_at k.labels p) o ≡ Some known → Goes p instr known rest → W p (instr ∷ rest) o ≡ None
  walk_by p instr rest o known e g =
      ap (λ s. if_known k.code k.func k.labels k.base p s (λ known. go_on p instr rest known)) e ∙ goes_on_well p instr known rest g

  pub step : {p : ℕ} {s : Stand} {instr : Instr} {rest : List Instr} → Placed p instr s → ((known : Known) → Covers k known s → Goes p instr known rest) → Ready p s (instr ∷ rest)
  step {p} {s} {instr} {rest} pl go = record { arrives = λ known c. by known c (label_at k.labels p) refl }
    where
      by : (known : Known) → Covers k known s → (o : Option Label) → label_at k.labels p ≡ o → Arrives p (instr ∷ rest) known
      by known c None e = record {
        enters = subst (λ o. may_enter o known ≡ true) (sym e) refl;
        inside = pl.inside;
        walks = walk_by p instr rest (Some known) known (ap (λ o. stated o (Some known)) e) (go known c);
      }
      by known c (Some l) e =
          let is : label_at k.labels p ≡ Some (label_for k.parts k.func.registers p s) = e ∙ ap Some (pl.label l e) in
          record {
            enters = subst (λ o. may_enter o known ≡ true) (sym is) (enters_label k p c);
            inside = pl.inside;
            walks = walk_by p instr rest (Some known) (known_of k s) (ap (λ o. stated o (Some known)) is) (go (known_of k s) (covers_stated k s));
          }

  -- a label that nothing runs into
  pub no_way : {p : ℕ} {s : Stand} (is : List Instr) → is_label (label_at k.labels p) ≡ true → Ready p s is → Cut p is
  no_way [] e r = record { walks = refl }
  no_way {p} {s} (instr ∷ is) e r = record {
    walks =
        ap (λ o. if_known k.code k.func k.labels k.base p o (λ known. go_on p instr is known)) (label_any (label_at k.labels p) (known_of k s) e)
        ∙ (r.arrives (known_of k s) (covers_stated k s)).walks;
  }

  pub cut_end : (p : ℕ) → Cut p []
  cut_end p = record { walks = refl }

  -- what an instruction does that goes on to the next
  pub record Does (instr : Instr) (known : Known) (u : Stand) : Type 0 where
    pub types : (row_at instr known).kept.types ≡ true
    pub present : (row_at instr known).kept.present ≡ true
    pub depths : (row_at instr known).kept.depths ≡ true
    pub covers : Covers k (next_known instr known) u

  pub goes : {p : ℕ} {s u : Stand} {rest : List Instr} (instr : Instr) → goes_on instr ≡ true → target_of instr ≡ None → Placed p instr s → ((known : Known) → Covers k known s → Does instr known u) → Ready (p + 1) u rest → Ready p s (instr ∷ rest)
  goes {p} {s} {u} {rest} instr on none pl does r = step pl (λ known c. with_next known (does known c) (r.arrives (next_known instr known) (does known c).covers))
    where
      with_next : (known : Known) → Does instr known u → Arrives (p + 1) rest (next_known instr known) → Goes p instr known rest
      with_next known x a = record {
        types = x.types;
        present = x.present;
        depths = x.depths;
        to_target = subst (λ o. enters k.code k.func k.labels k.base o (next_known instr known) ≡ true) (sym none) refl;
        to_next = subst (λ b. enters k.code k.func k.labels k.base (if b then Some (p + 1) else None) (next_known instr known) ≡ true) (sym on) a.enters;
        target = subst (λ o. has_target k.code k.func k.labels k.base o ≡ true) (sym none) refl;
        next = subst (λ b. is_place k.code k.func k.labels k.base (if b then Some (p + 1) else None) ≡ true) (sym on) (lt-ltb (p + 1) (length k.func.body) a.inside);
        walks = subst (λ b. W (p + 1) rest (if b then Some (next_known instr known) else None) ≡ None) (sym on) a.walks;
      }

  -- ---- jumps

  -- a place that what covers this may jump to
  pub record Target (q : ℕ) (s : Stand) : Type 0 where
    pub labelled : is_label (label_at k.labels q) ≡ true
    pub enters : (known : Known) → Covers k known s → may_enter (label_at k.labels q) known ≡ true

  pub target_ready : {p q : ℕ} {instr : Instr} {s u : Stand} {is : List Instr} → Placed p instr s → target_of instr ≡ Some q → Ready q u is → Target q u
  target_ready {q = q} {u = u} pl e r = record {
    labelled = pl.target q e (r.arrives (known_of k u) (covers_stated k u)).inside;
    enters = λ known c. (r.arrives known c).enters;
  }

  enters_at : (q : ℕ) (u : Stand) (o : Option Label) → ((l : Label) → o ≡ Some l → l ≡ label_for k.parts k.func.registers q u) → (known : Known) → Covers k known u → may_enter o known ≡ true
  enters_at q u None says known c = refl
  enters_at q u (Some l) says known c = subst (λ z. may_enter (Some z) known ≡ true) (sym (says l refl)) (enters_label k q c)

  -- a place whose instruction is known
  pub target_placed : {p q : ℕ} {instr there : Instr} {s u : Stand} → Placed p instr s → target_of instr ≡ Some q → Placed q there u → Target q u
  target_placed {q = q} {u = u} pl e at_q = record { labelled = pl.target q e at_q.inside; enters = λ known c. enters_at q u (label_at k.labels q) at_q.label known c }

  pub covers_kept : {known : Known} {s : Stand} → Covers k known s → Covers k (record { depth = known.depth; regs = known.regs }) s
  covers_kept c = record { depth = c.depth; regs = c.regs }

  pub jumps : {p : ℕ} {s u : Stand} {rest : List Instr} (q : ℕ) → Placed p (i.Jump q) s → Target q u → Says k s u → Cut (p + 1) rest → Ready p s (i.Jump q ∷ rest)
  jumps {p} {s} {u} {rest} q pl to a cut = step pl by
    where
      by : (known : Known) → Covers k known s → Goes p (i.Jump q) known rest
      by known c = record {
        types = refl;
        present = refl;
        depths = refl;
        to_target = to.enters (next_known (i.Jump q) known) (covers_less k (covers_kept c) a);
        to_next = refl;
        target = to.labelled;
        next = refl;
        walks = cut.walks;
      }

  -- a register holds a truth
  pub tests : {p : ℕ} {s u v : Stand} {rest : List Instr} (h q d : ℕ) → Placed p (i.Unless h q) s → h < k.func.registers → at k s h ≡ Held t.Truth d false → Target q u → Says k s u → Ready (p + 1) v rest → Says k s v → Ready p s (i.Unless h q ∷ rest)
  tests {p} {s} {u} {v} {rest} h q d pl lt is to a r b = step pl by
    where
      with_next : (known : Known) → Covers k known s → (live : Bool) × (fact_of known.regs h ≡ Held t.Truth d live) → Arrives (p + 1) rest (next_known (i.Unless h q) known) → Goes p (i.Unless h q) known rest
      with_next known c f n = record {
        types = ap (λ x. true && has t.Truth x) f.1;
        present = ap (λ x. true && is_there x) f.1;
        depths = refl;
        to_target = to.enters (next_known (i.Unless h q) known) (covers_less k (covers_kept c) a);
        to_next = n.enters;
        target = to.labelled;
        next = lt-ltb (p + 1) (length k.func.body) n.inside;
        walks = n.walks;
      }

      by : (known : Known) → Covers k known s → Goes p (i.Unless h q) known rest
      by known c = with_next known c (hold_at k.func.registers h t.Truth d c.regs lt is) (r.arrives (next_known (i.Unless h q) known) (covers_less k (covers_kept c) b))

  -- ---- parts of code

  -- each instruction with its stand
  abbrev pub FitsEach : ℕ → List Instr → Stands → Type 0
  FitsEach p [] ms = Unit {0}
  FitsEach p (c ∷ cs) [] = ⊥
  FitsEach p (c ∷ cs) (m ∷ ms) = Placed p c m × FitsEach (p + 1) cs ms

  pub record Fits (p : ℕ) (cs : List Instr) (ms : Stands) : Type 0 where
    pub each : FitsEach p cs ms

  front_each : (p : ℕ) (a b : List Instr) (ma mb : Stands) → length ma ≡ length a → FitsEach p (a ++ b) (ma ++ mb) → FitsEach p a ma
  front_each p [] b ma mb len f = tt
  front_each p (c ∷ a) b [] mb len f = absurd (omega (arith, len))
  front_each p (c ∷ a) b (m ∷ ma) mb len f = (f.0, front_each (p + 1) a b ma mb (omega (arith, len)) f.1)

  back_each : (p q : ℕ) (a b : List Instr) (ma mb : Stands) → length ma ≡ length a → q ≡ p + length a → FitsEach p (a ++ b) (ma ++ mb) → FitsEach q b mb
  back_each p q [] b [] mb len is f = subst (λ x. FitsEach x b mb) (let z : p ≡ q = omega (arith, is) in z) f
  back_each p q [] b (m ∷ ma) mb len is f = absurd (omega (arith, len))
  back_each p q (c ∷ a) b [] mb len is f = absurd (omega (arith, len))
  back_each p q (c ∷ a) b (m ∷ ma) mb len is f = back_each (p + 1) q a b ma mb (omega (arith, len)) (omega (arith, is)) f.1

  pub front : {p : ℕ} (a b : List Instr) (ma mb : Stands) → length ma ≡ length a → Fits p (a ++ b) (ma ++ mb) → Fits p a ma
  front {p} a b ma mb len f = record { each = front_each p a b ma mb len f.each }

  pub back : {p : ℕ} (a b : List Instr) (ma mb : Stands) → length ma ≡ length a → Fits p (a ++ b) (ma ++ mb) → Fits (p + length a) b mb
  back {p} a b ma mb len f = record { each = back_each p (p + length a) a b ma mb len refl f.each }

  pub tail : {p : ℕ} {c : Instr} {cs : List Instr} {m : Stand} {ms : Stands} → Fits p (c ∷ cs) (m ∷ ms) → Fits (p + 1) cs ms
  tail f = record { each = f.each.1 }

  abbrev pub numbered : List Instr → Bool
  numbered cs = list_all (numbers k.code k.func.registers) cs

  pub numbered_both : (a b : List Instr) → numbered a ≡ true → numbered b ≡ true → numbered (a ++ b) ≡ true
  numbered_both a b e f = list_all-append (numbers k.code k.func.registers) a b ∙ and_from _ _ e f

  pub record Runs (p : ℕ) (cs : List Instr) (ms : Stands) (s : Stand) (e : End) : Type 0 where
    pub along : length ms ≡ length cs
    pub numbered : Fits p cs ms → numbered cs ≡ true
    pub ready : Fits p cs ms → (rest : List Instr) → Next (p + length cs) e rest → Ready p s (cs ++ rest)

  pub nothing : (p : ℕ) (s : Stand) → Runs p [] [] s (falls s)
  nothing p s = record { along = refl; numbered = λ f. refl; ready = λ f rest r. ready_at (let z : p + 0 ≡ p = omega arith in z) r }

  pub runs_less : {p : ℕ} {cs : List Instr} {ms : Stands} {s u v : Stand} → Runs p cs ms s (falls u) → Says k u v → Runs p cs ms s (falls v)
  runs_less x a = record { along = x.along; numbered = x.numbered; ready = λ f rest r. x.ready f rest (ready_more a r) }

  pub runs_from : {p : ℕ} {cs : List Instr} {ms : Stands} {s t : Stand} {e : End} → Says k s t → Runs p cs ms t e → Runs p cs ms s e
  runs_from a x = record { along = x.along; numbered = x.numbered; ready = λ f rest r. ready_more a (x.ready f rest r) }

  -- where a part ends, less is said
  pub ends_less : {p : ℕ} {cs : List Instr} {ms : Stands} {s : Stand} (a : After) {u v : Gone → Stand} → ((g : Gone) → Says k (u g) (v g)) → Runs p cs ms s (ending a u) → Runs p cs ms s (ending a v)
  ends_less (comes g) f x = runs_less x (f g)
  ends_less (never g) f x = x

  -- one part and then another
  pub both : {p : ℕ} {a b : List Instr} {ma mb : Stands} {s u : Stand} {e : End} → Runs p a ma s (falls u) → Runs (p + length a) b mb u e → Runs p (a ++ b) (ma ++ mb) s e
  both {p} {a} {b} {ma} {mb} {s} {u} {e} x z = record {
    along = length-append ma mb ∙ ap (λ n. n + length mb) x.along ∙ ap (λ n. length a + n) z.along ∙ sym (length-append a b);
    numbered = λ f. numbered_both a b (x.numbered (front a b ma mb x.along f)) (z.numbered (back a b ma mb x.along f));
    ready = λ f rest r.
        subst (λ l. Ready p s l) (sym (append_assoc a b rest))
        (x.ready (front a b ma mb x.along f) (b ++ rest)
        (z.ready (back a b ma mb x.along f) rest (next_at e rest (let z : p + length (a ++ b) ≡ p + length a + length b = omega (arith, length-append a b) in z) r)));
  }

  -- an instruction that goes on
  pub single : {p : ℕ} {s u : Stand} (instr : Instr) → goes_on instr ≡ true → target_of instr ≡ None
      → (room_for instr ≤ k.func.registers → numbers k.code k.func.registers instr ≡ true)
      → (room_for instr ≤ k.func.registers → (known : Known) → Covers k known s → Does instr known u)
      → Runs p (instr ∷ []) (s ∷ []) s (falls u)
  single {s = s} instr on none number does = record {
    along = refl;
    numbered = λ f. and_from _ _ (number f.each.0.room) refl;
    ready = λ f rest r. goes instr on none f.each.0 (does f.each.0.room) r;
  }
