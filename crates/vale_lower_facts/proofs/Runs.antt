-- How the walk of a function goes through parts of its code: where the walk goes through what stands after a part, from whatever
-- covers the place after it, it goes through the part too, from whatever covers the place before it.
use Rattle.std.proofs.Common.{◌≡◌, ℕ, ◌+◌, ◌<◌, ◌≤◌, List, [], ◌∷◌, ◌++◌, length, Option, Some, None, Bool, true, false, ◌&&◌, if◌then◌else◌, refl, sym, ap, ◌∙◌, subst, arith, length-append, append_assoc}
use Rattle.std.specs.List.{list_all}
use Rattle.std.proofs.lemmas.Bool.{and_from, lt-ltb}
use Rattle.std.proofs.lemmas.List.Folds.{list_all-append}
use Rattle.vale_code.specs.Operands.{room_for}
use Rattle.vale_code.specs.declared.instr.Instr.{Instr}
use Rattle.vale_code.specs.declared.instr.Instr.TheVariants as i
use Rattle.vale_code.specs.declared.ty.Ty.TheVariants as t
use Rattle.vale_cert.specs.Known.{Known, fact_of, is_there, has, label_at, is_label, may_enter, stated}
use Rattle.vale_cert.specs.Numbers.{numbers}
use Rattle.vale_cert.specs.Rules.{Effect}
use Rattle.vale_cert.specs.Walk.{Rules, broken, fault_of, or_else, effect_of, after, enters, has_target, next_of, is_place, rules, known_after, if_known, walk, goes_on, target_of}
use Rattle.vale_cert.specs.declared.facts.Label.{Label}
use Rattle.vale_cert.specs.declared.facts.RegFact.TheVariants.{Held}
use Rattle.vale_cert.specs.declared.fault.Fault.{Fault}
use Rattle.vale_lower_facts.specs.Slots.{Stand, type_at, label_for}
use Rattle.vale_lower_facts.specs.Marks.{Marks, mark}
use Rattle.vale_lower_facts.proofs.Stands.{Site, Covers, Says, covers_less, Plain, plain_less, covers_plain, enters_label, known_of, covers_stated, covers_kept}

one_kept : (n : ℕ) (a : Bool) (rest : Rules) → a ≡ true → broken rest ≡ None → broken ((n, a) ∷ rest) ≡ None
one_kept n true rest e h = h
one_kept n false rest e h = absurd (cc)

label_any : (o : Option Label) (known : Known) → is_label o ≡ true → stated o None ≡ stated o (Some known)
label_any None known e = absurd (cc)
label_any (Some label) known e = refl

module _ (k : Site) where
  abbrev pub W : ℕ → List Instr → Option Known → Option Fault
  W p is o = walk k.code k.func k.labels k.base p is true o

  abbrev pub row_at : Instr → Known → Effect
  row_at instr known = effect_of k.code k.func k.labels k.base instr known

  abbrev pub next_known : Instr → Known → Known
  next_known instr known = after k.code k.func k.labels k.base instr known

  -- the walk may come to a place
  pub record Arrives (p : ℕ) (is : List Instr) (known : Known) : Type 0 where
    pub enters : may_enter (label_at k.labels p) known ≡ true
    pub inside : p < length k.func.body
    pub walks : W p is (Some known) ≡ None

  -- and does from whatever covers this; where the place is due a label, it has one
  pub record Ready (p : ℕ) (due : Bool) (s : Stand) (is : List Instr) : Type 0 where
    pub labelled : due ≡ true → is_label (label_at k.labels p) ≡ true
    pub arrives : (known : Known) → Covers k known s → Arrives p is known

  pub ready_more : {p : ℕ} {due : Bool} {s u : Stand} {is : List Instr} → Says k s u → Ready p due u is → Ready p due s is
  ready_more a r = record { labelled = r.labelled; arrives = λ known c. r.arrives known (covers_less k c a) }

  -- ---- one instruction

  -- its rules are kept, and the walk goes on after it
  pub record Goes (p : ℕ) (instr : Instr) (known : Known) (rest : List Instr) : Type 0 where
    pub types : (row_at instr known).kept.types ≡ true
    pub present : (row_at instr known).kept.present ≡ true
    pub depths : (row_at instr known).kept.depths ≡ true
    pub to_target : enters k.code k.func k.labels k.base (target_of instr) (next_known instr known) ≡ true
    pub to_next : enters k.code k.func k.labels k.base (next_of k.code k.func k.labels k.base p instr) (next_known instr known) ≡ true
    pub target : has_target k.code k.func k.labels k.base (target_of instr) ≡ true
    pub next : is_place k.code k.func k.labels k.base (next_of k.code k.func k.labels k.base p instr) ≡ true
    pub inside : p < length k.func.body
    pub walks : W (p + 1) rest (known_after k.code k.func k.labels k.base instr known) ≡ None

  abbrev go_on : ℕ → Instr → List Instr → Known → Option Fault
  go_on p instr rest known =
      or_else (fault_of (k.base + p) (broken (rules k.code k.func k.labels k.base p true instr known)))
      (W (p + 1) rest (known_after k.code k.func k.labels k.base instr known))

  module _ (p : ℕ) (instr : Instr) (known : Known) where
    abbrev into : Bool
    into = true && enters k.code k.func k.labels k.base (target_of instr) (next_known instr known) && enters k.code k.func k.labels k.base (next_of k.code k.func k.labels k.base p instr) (next_known instr known)

    abbrev places : Bool
    places = has_target k.code k.func k.labels k.base (target_of instr) && is_place k.code k.func k.labels k.base (next_of k.code k.func k.labels k.base p instr)

    abbrev last_three : Rules
    last_three = (5, into) ∷ (6, true) ∷ (7, places) ∷ []

    last_kept : into ≡ true → places ≡ true → broken last_three ≡ None
    last_kept a b = one_kept 5 into ((6, true) ∷ (7, places) ∷ []) a (one_kept 6 true ((7, places) ∷ []) refl (one_kept 7 places [] b refl))

    none_broken : (row_at instr known).kept.types ≡ true → (row_at instr known).kept.present ≡ true → (row_at instr known).kept.depths ≡ true → broken last_three ≡ None → broken (rules k.code k.func k.labels k.base p true instr known) ≡ None
    none_broken a b c two =
        one_kept 2 (row_at instr known).kept.types ((3, (row_at instr known).kept.present) ∷ (4, (row_at instr known).kept.depths) ∷ last_three) a
        (one_kept 3 (row_at instr known).kept.present ((4, (row_at instr known).kept.depths) ∷ last_three) b
        (one_kept 4 (row_at instr known).kept.depths last_three c two))

  goes_on_well : (p : ℕ) (instr : Instr) (known : Known) (rest : List Instr) → Goes p instr known rest → go_on p instr rest known ≡ None
  goes_on_well p instr known rest g =
      ap (λ b. or_else (fault_of (k.base + p) b) (W (p + 1) rest (known_after k.code k.func k.labels k.base instr known)))
      (none_broken p instr known g.types g.present g.depths (last_kept p instr known (and_from _ _ g.to_target g.to_next) (and_from _ _ g.target g.next)))
      ∙ g.walks

  walk_by : (p : ℕ) (instr : Instr) (rest : List Instr) (o : Option Known) (known : Known) → stated (label_at k.labels p) o ≡ Some known → Goes p instr known rest → W p (instr ∷ rest) o ≡ None
  walk_by p instr rest o known e g =
      ap (λ s. if_known k.code k.func k.labels k.base p s (λ known. go_on p instr rest known)) e ∙ goes_on_well p instr known rest g

  abbrev pub label_mark : ℕ → Option Stand → Option Label
  label_mark p None = None
  label_mark p (Some s) = Some (label_for k.last k.func.registers p s)

  pub step : (p : ℕ) (due : Bool) (s : Stand) (instr : Instr) (rest : List Instr) → label_at k.labels p ≡ label_mark p (mark due s) → ((known : Known) → Covers k known s → Goes p instr known rest) → Ready p due s (instr ∷ rest)
  step p false s instr rest e go = record {
    labelled = λ x. absurd (cc);
    arrives = λ known c.
        record {
          enters = subst (λ o. may_enter o known ≡ true) (sym e) refl;
          inside = (go known c).inside;
          walks = walk_by p instr rest (Some known) known (ap (λ o. stated o (Some known)) e) (go known c);
        };
  }
  step p true s instr rest e go = record {
    labelled = λ x. ap is_label e;
    arrives = λ known c.
        record {
          enters = subst (λ o. may_enter o known ≡ true) (sym e) (enters_label k p c);
          inside = (go known c).inside;
          walks =
              walk_by p instr rest (Some known) (known_of k s) (ap (λ o. stated o (Some known)) e)
              (go (known_of k s) (covers_stated k s (covers_plain k c)));
        };
  }

  -- a label that nothing runs into
  pub no_way : {p : ℕ} {s : Stand} (is : List Instr) → Ready p true s is → Plain k s → W p is None ≡ None
  no_way [] r pl = refl
  no_way {p} {s} (instr ∷ is) r pl =
      ap (λ o. if_known k.code k.func k.labels k.base p o (λ known. go_on p instr is known)) (label_any (label_at k.labels p) (known_of k s) (r.labelled refl))
      ∙ (r.arrives (known_of k s) (covers_stated k s pl)).walks

  -- what an instruction does that goes on to the next
  pub record Does (instr : Instr) (known : Known) (u : Stand) : Type 0 where
    pub types : (row_at instr known).kept.types ≡ true
    pub present : (row_at instr known).kept.present ≡ true
    pub depths : (row_at instr known).kept.depths ≡ true
    pub covers : Covers k (next_known instr known) u

  pub goes : {p : ℕ} {due d : Bool} {s u : Stand} {rest : List Instr} (instr : Instr) → goes_on instr ≡ true → target_of instr ≡ None → label_at k.labels p ≡ label_mark p (mark due s) → ((known : Known) → Covers k known s → Does instr known u) → Ready (p + 1) d u rest → Ready p due s (instr ∷ rest)
  goes {p} {due} {d} {s} {u} {rest} instr on none e does r = step p due s instr rest e by
    where
      with_next : (known : Known) → Does instr known u → Arrives (p + 1) rest (next_known instr known) → Goes p instr known rest
      with_next known x a = record {
        types = x.types;
        present = x.present;
        depths = x.depths;
        to_target = subst (λ o. enters k.code k.func k.labels k.base o (next_known instr known) ≡ true) (sym none) refl;
        to_next = subst (λ b. enters k.code k.func k.labels k.base (if b then Some (p + 1) else None) (next_known instr known) ≡ true) (sym on) a.enters;
        target = subst (λ o. has_target k.code k.func k.labels k.base o ≡ true) (sym none) refl;
        next = subst (λ b. is_place k.code k.func k.labels k.base (if b then Some (p + 1) else None) ≡ true) (sym on) (lt-ltb (p + 1) (length k.func.body) a.inside);
        inside = let lt = a.inside in omega (arith, lt);
        walks = subst (λ b. W (p + 1) rest (if b then Some (next_known instr known) else None) ≡ None) (sym on) a.walks;
      }

      by : (known : Known) → Covers k known s → Goes p instr known rest
      by known c = with_next known (does known c) (r.arrives (next_known instr known) (does known c).covers)

  -- ---- jumps

  -- a place that what covers this may jump to
  pub record Target (q : ℕ) (s : Stand) : Type 0 where
    pub labelled : is_label (label_at k.labels q) ≡ true
    pub enters : (known : Known) → Covers k known s → may_enter (label_at k.labels q) known ≡ true

  pub target_ready : {q : ℕ} {s : Stand} {is : List Instr} → Ready q true s is → Target q s
  target_ready r = record { labelled = r.labelled refl; enters = λ known c. (r.arrives known c).enters }

  pub target_label : {q : ℕ} {s : Stand} → label_at k.labels q ≡ label_mark q (Some s) → Target q s
  target_label {q} {s} e = record { labelled = ap is_label e; enters = λ known c. subst (λ o. may_enter o known ≡ true) (sym e) (enters_label k q c) }

  pub jumps : {p : ℕ} {due : Bool} {s u v : Stand} {rest : List Instr} (q : ℕ) → label_at k.labels p ≡ label_mark p (mark due s) → Target q u → Says k s u → Ready (p + 1) true v rest → (Plain k s → Plain k v) → Ready p due s (i.Jump q ∷ rest)
  jumps {p} {due} {s} {u} {v} {rest} q e to a r more = step p due s (i.Jump q) rest e by
    where
      by : (known : Known) → Covers k known s → Goes p (i.Jump q) known rest
      by known c = record {
        types = refl;
        present = refl;
        depths = refl;
        to_target = to.enters (next_known (i.Jump q) known) (covers_less k (covers_kept k c) a);
        to_next = refl;
        target = to.labelled;
        next = refl;
        inside = let lt = (r.arrives (known_of k v) (covers_stated k v (more (covers_plain k c)))).inside in omega (arith, lt);
        walks = no_way rest r (more (covers_plain k c));
      }

  pub tests : {p : ℕ} {due d : Bool} {s u v : Stand} {rest : List Instr} (h q : ℕ) → label_at k.labels p ≡ label_mark p (mark due s) → h < k.func.registers → type_at k.last s h ≡ Some t.Truth → Target q u → Says k s u → Ready (p + 1) d v rest → Says k s v → Ready p due s (i.Unless h q ∷ rest)
  tests {p} {due} {d} {s} {u} {v} {rest} h q e lt is to a r b = step p due s (i.Unless h q) rest e by
    where
      with_next : (known : Known) → Covers k known s → fact_of known.regs h ≡ Held t.Truth 0 false → Arrives (p + 1) rest (next_known (i.Unless h q) known) → Goes p (i.Unless h q) known rest
      with_next known c f n = record {
        types = ap (λ x. true && has t.Truth x) f;
        present = ap (λ x. true && is_there x) f;
        depths = refl;
        to_target = to.enters (next_known (i.Unless h q) known) (covers_less k (covers_kept k c) a);
        to_next = n.enters;
        target = to.labelled;
        next = lt-ltb (p + 1) (length k.func.body) n.inside;
        inside = let less = n.inside in omega (arith, less);
        walks = n.walks;
      }

      by : (known : Known) → Covers k known s → Goes p (i.Unless h q) known rest
      by known c = with_next known c (c.held h t.Truth lt is) (r.arrives (next_known (i.Unless h q) known) (covers_less k (covers_kept k c) b))

  -- ---- marks and rooms

  -- labels stand at the marks and nowhere else, and there are registers enough
  abbrev pub FitsEach : ℕ → List Instr → Marks → Type 0
  FitsEach p [] ms = Unit {0}
  FitsEach p (c ∷ cs) [] = ⊥
  FitsEach p (c ∷ cs) (m ∷ ms) = (label_at k.labels p ≡ label_mark p m) × (room_for c ≤ k.func.registers) × FitsEach (p + 1) cs ms

  pub record Fits (p : ℕ) (cs : List Instr) (ms : Marks) : Type 0 where
    pub each : FitsEach p cs ms

  front_each : (p : ℕ) (a b : List Instr) (ma mb : Marks) → length ma ≡ length a → FitsEach p (a ++ b) (ma ++ mb) → FitsEach p a ma
  front_each p [] b ma mb len f = tt
  front_each p (c ∷ a) b [] mb len f = absurd (omega (arith, len))
  front_each p (c ∷ a) b (m ∷ ma) mb len f = (f.0, f.1, front_each (p + 1) a b ma mb (omega (arith, len)) f.2)

  back_each : (p q : ℕ) (a b : List Instr) (ma mb : Marks) → length ma ≡ length a → q ≡ p + length a → FitsEach p (a ++ b) (ma ++ mb) → FitsEach q b mb
  back_each p q [] b [] mb len is f = subst (λ x. FitsEach x b mb) (let z : p ≡ q = omega (arith, is) in z) f
  back_each p q [] b (m ∷ ma) mb len is f = absurd (omega (arith, len))
  back_each p q (c ∷ a) b [] mb len is f = absurd (omega (arith, len))
  back_each p q (c ∷ a) b (m ∷ ma) mb len is f = back_each (p + 1) q a b ma mb (omega (arith, len)) (omega (arith, is)) f.2

  pub front : {p : ℕ} (a b : List Instr) (ma mb : Marks) → length ma ≡ length a → Fits p (a ++ b) (ma ++ mb) → Fits p a ma
  front {p} a b ma mb len f = record { each = front_each p a b ma mb len f.each }

  pub back : {p : ℕ} (a b : List Instr) (ma mb : Marks) → length ma ≡ length a → Fits p (a ++ b) (ma ++ mb) → Fits (p + length a) b mb
  back {p} a b ma mb len f = record { each = back_each p (p + length a) a b ma mb len refl f.each }

  pub tail : {p : ℕ} {c : Instr} {cs : List Instr} {m : Option Stand} {ms : Marks} → Fits p (c ∷ cs) (m ∷ ms) → Fits (p + 1) cs ms
  tail f = record { each = f.each.2 }

  -- ---- parts of code

  -- what the labels state are types of values
  abbrev pub AllPlain : Marks → Type 0
  AllPlain [] = Unit {0}
  AllPlain (None ∷ ms) = AllPlain ms
  AllPlain (Some s ∷ ms) = Plain k s × AllPlain ms

  pub all_plain : (due : Bool) (s : Stand) (ms : Marks) → Plain k s → AllPlain ms → AllPlain (mark due s ∷ ms)
  all_plain false s ms p q = q
  all_plain true s ms p q = (p, q)

  pub plain_both : (ms ns : Marks) → AllPlain ms → AllPlain ns → AllPlain (ms ++ ns)
  plain_both [] ns p q = q
  plain_both (None ∷ ms) ns p q = plain_both ms ns p q
  plain_both (Some s ∷ ms) ns p q = (p.0, plain_both ms ns p.1 q)

  pub record Runs (p : ℕ) (cs : List Instr) (ms : Marks) (due : Bool) (s : Stand) (d : Bool) (u : Stand) : Type 0 where
    pub along : length ms ≡ length cs
    pub numbered : Fits p cs ms → list_all (numbers k.code k.func.registers) cs ≡ true
    pub ready : Fits p cs ms → (rest : List Instr) → Ready (p + length cs) d u rest → Ready p due s (cs ++ rest)
    pub plains : Plain k s → Plain k u × AllPlain ms

  pub nothing : (p : ℕ) (due : Bool) (s : Stand) → Runs p [] [] due s due s
  nothing p due s = record { along = refl; numbered = λ f. refl; ready = λ f rest r. subst (λ q. Ready q due s rest) (let z : p + 0 ≡ p = omega arith in z) r; plains = λ p. (p, tt) }

  pub runs_less : {p : ℕ} {cs : List Instr} {ms : Marks} {due d : Bool} {s u v : Stand} → Runs p cs ms due s d u → Says k u v → Runs p cs ms due s d v
  runs_less x a = record { along = x.along; numbered = x.numbered; ready = λ f rest r. x.ready f rest (ready_more a r); plains = λ p. (plain_less k a (x.plains p).0, (x.plains p).1) }

  -- one part and then another
  pub both : {p : ℕ} {a b : List Instr} {ma mb : Marks} {due d e : Bool} {s u v : Stand} → Runs p a ma due s d u → Runs (p + length a) b mb d u e v → Runs p (a ++ b) (ma ++ mb) due s e v
  both {p} {a} {b} {ma} {mb} {due} {d} {e} {s} {u} {v} x z = record {
    along = length-append ma mb ∙ ap (λ n. n + length mb) x.along ∙ ap (λ n. length a + n) z.along ∙ sym (length-append a b);
    numbered = λ f.
        list_all-append (numbers k.code k.func.registers) a b ∙ and_from _ _ (x.numbered (front a b ma mb x.along f)) (z.numbered (back a b ma mb x.along f));
    ready = λ f rest r.
        subst (λ l. Ready p due s l) (sym (append_assoc a b rest))
        (x.ready (front a b ma mb x.along f) (b ++ rest)
        (z.ready (back a b ma mb x.along f) rest (subst (λ q. Ready q e v rest) (let z : p + length (a ++ b) ≡ p + length a + length b = omega (arith, length-append a b) in z) r)));
    plains = λ p. let one = x.plains p in let two = z.plains one.0 in (two.0, plain_both ma mb one.1 two.1);
  }

  -- an instruction that goes on
  pub single : {p : ℕ} {due : Bool} {s u : Stand} (instr : Instr) → goes_on instr ≡ true → target_of instr ≡ None
      → (room_for instr ≤ k.func.registers → numbers k.code k.func.registers instr ≡ true)
      → (room_for instr ≤ k.func.registers → (known : Known) → Covers k known s → Does instr known u)
      → (Plain k s → Plain k u)
      → Runs p (instr ∷ []) (mark due s ∷ []) due s false u
  single {due = due} {s} instr on none number does pl = record {
    along = refl;
    numbered = λ f. and_from _ _ (number f.each.1) refl;
    ready = λ f rest r. goes instr on none f.each.0 (does f.each.1) r;
    plains = λ p. (pl p, all_plain due s [] p tt);
  }
