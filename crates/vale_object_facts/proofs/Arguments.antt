-- The values of a call, which wait in the registers from one on.
use Rattle.std.proofs.Common.{◌≡◌, ℕ, ◌+◌, ◌<◌, ◌≤◌, List, [], ◌∷◌, length, Some, Bool, true, false, ◌&&◌, if◌then◌else◌, refl, sym, ap, ◌∙◌, subst, arith, ⊎_elim}
use Rattle.std.proofs.lemmas.Bool.{cases_eq, cases_lt, eq-eqb, ne_eqb}
use Rattle.vale_rules_spec.specs.Types.{Ty}
use Rattle.vale_rules_spec.specs.Types as y
use Rattle.vale_rules_spec.specs.Typed.{Exprs, no_exprs, more_exprs, type, types}
use Rattle.vale_model.specs.Runs as model
use Rattle.vale_cert.specs.Known.{is_free, agrees}
use Rattle.vale_cert.specs.declared.facts.RegFact.TheVariants.{Empty}
use Rattle.vale_lowering_objects.specs.Lowered.{expr_after, args_after}
use Rattle.vale_lowering_objects.specs.Scopes.{gives_of, Entry, entry, waiting, find, Gone, is_gone, without, After, comes, never, then_after}
use Rattle.vale_object_facts.specs.Slots.{Role, local, waits, at_hand, list_slot, Slots, scope_of, scope_at, Stand, with_gone, with_waiting, is_lost, slot_fact, fact_in}
use Rattle.vale_object_facts.specs.Stands.{gone_of, with_args}
use Rattle.vale_object_facts.proofs.Agreeing.{agrees_same, Facts}
use Rattle.vale_object_facts.proofs.Covering.{Site, at, held, Says, Falls, falls_up, nothing_above, not_gone}
use Rattle.vale_object_facts.proofs.Owners.{free_type}
use Rattle.vale_object_facts.proofs.Waits.{none_run, args_keep}

-- ---- names stand for registers below

-- by what the outermost of the slots is, and what holds of the others
found_below : (h r n : ℕ) (xs : Slots) (ty : Ty) (x : Entry) (role : Role) → r < h → (find n (scope_of xs) ≡ Some x → x.register < h) → find n (list_slot role r (gives_of ty) (scope_of xs)) ≡ Some x → x.register < h
found_below h r n xs ty x (local m) lt rest e = either (model.has_name n (Some m)) e
  where
    either : (b : Bool) → (if b then Some (entry m r (gives_of ty)) else find n (scope_of xs)) ≡ Some x → x.register < h
    either true e = let is : entry m r (gives_of ty) ≡ x = cc in let same : x.register ≡ r = ap (λ q. q.register) (sym is) in omega (arith, lt, same)
    either false e = rest e
found_below h r n xs ty x waits lt rest e = rest e
found_below h r n xs ty x at_hand lt rest e = rest e

pub find_below : (k : Site) (h : ℕ) (xs : Slots) (n : ℕ) (x : Entry) → Falls k h xs → find n (scope_of xs) ≡ Some x → x.register < h
find_below k h [] n x f e = absurd (cc)
find_below k h (z ∷ xs) n x f e =
    let lt = f.0 in found_below h z.register n xs z.ty x z.role lt (λ e. let lt2 = find_below k z.register xs n x f.1 e in omega (arith, lt, lt2)) e

-- ---- the values

-- what is gone doesn't tell which values wait
pub args_gone : (es : Exprs) (h : ℕ) (s t : Stand) (g : Gone) → s.depth ≡ t.depth → s.slots ≡ t.slots → with_gone g (with_args es h s) ≡ with_gone g (with_args es h t)
args_gone no_exprs h s t g d e = ap (λ n. record { depth = n; slots = s.slots; gone = g }) d ∙ ap (λ xs. record { depth = t.depth; slots = xs; gone = g }) e
args_gone (more_exprs x es) h s t g d e =
    args_gone es (h + 1) (with_waiting h (type x) s) (with_waiting h (type x) t) g d
    (ap (λ n. record { role = waits; register = h; ty = type x; depth = n } ∷ s.slots) d ∙ ap (λ xs. record { role = waits; register = h; ty = type x; depth = t.depth } ∷ xs) e)

pub args_depth : (es : Exprs) (h : ℕ) (s : Stand) → (with_args es h s).depth ≡ s.depth
args_depth no_exprs h s = refl
args_depth (more_exprs e es) h s = args_depth es (h + 1) (with_waiting h (type e) s)

gone_then : (o : After) (f : Gone → After) → gone_of (then_after o f) ≡ gone_of (f (gone_of o))
gone_then (comes g) f = refl
gone_then (never g) f = none_run (f g)

module _ (k : Site) where
  -- they leave what is below them
  pub args_below : (es : Exprs) (h : ℕ) (s : Stand) (g : Gone) (q : ℕ) → q < h → fact_in k.parts (with_args es h s).slots g q ≡ fact_in k.parts s.slots g q
  args_below no_exprs h s g q lt = refl
  args_below (more_exprs e es) h s g q lt =
      args_below es (h + 1) (with_waiting h (type e) s) g q (omega (arith, lt))
      ∙ ap (λ b. if b then slot_fact k.parts (record { role = waits; register = h; ty = type e; depth = s.depth }) g else fact_in k.parts s.slots g q) (ne_eqb h q (omega (arith, lt)))

  pub args_fall : (es : Exprs) (h : ℕ) (s : Stand) → Falls k h s.slots → Falls k (h + length (types es)) (with_args es h s).slots
  args_fall no_exprs h s f = falls_up k h (h + 0) s.slots (omega arith) f
  args_fall (more_exprs e es) h s f =
      falls_up k (h + 1 + length (types es)) (h + length (types (more_exprs e es))) (with_args es (h + 1) (with_waiting h (type e) s)).slots (omega arith)
      (args_fall es (h + 1) (with_waiting h (type e) s) (omega arith, f))

  -- none is an owner
  abbrev pub Plain : List Ty → Type 0
  Plain [] = Unit {0}
  Plain (t ∷ ts) = (y.is_owned t ≡ false) × Plain ts

  plain_args : (es : Exprs) (h : ℕ) (s : Stand) (g : Gone) (q : ℕ) → Plain (types es) → Falls k h s.slots → h ≤ q → is_free (fact_in k.parts (with_args es h s).slots g q) ≡ true
  plain_args no_exprs h s g q p f le = ap is_free (nothing_above k h s.slots g q f le)
  plain_args (more_exprs e es) h s g q p f le =
      ⊎_elim
      (λ same.
      subst (λ z. is_free (fact_in k.parts (with_args (more_exprs e es) h s).slots g z) ≡ true) same
      (ap is_free (args_below es (h + 1) (with_waiting h (type e) s) g h (omega arith) ∙ ap (λ b. if b then slot_fact k.parts (record { role = waits; register = h; ty = type e; depth = s.depth }) g else fact_in k.parts s.slots g h) (eq-eqb h h refl))
      ∙ free_slot (is_lost (record { role = waits; register = h; ty = type e; depth = s.depth }) g)))
      (λ ne. plain_args es (h + 1) (with_waiting h (type e) s) g q p.1 (omega arith, f) (omega (arith, le, ne)))
      (cases_eq h q)
    where
      free_slot : (b : Bool) → is_free (if b then Empty else held k (type e) s.depth) ≡ true
      free_slot true = refl
      free_slot false = free_type k.parts (type e) s.depth p.0

  -- so they are forgotten
  pub plain_says : (es : Exprs) (h : ℕ) (s : Stand) (g : Gone) → Plain (types es) → Falls k h s.slots → Says k (with_gone g (with_args es h s)) (with_gone g s)
  plain_says es h s g p f = record { depth = args_depth es h s; each = each }
    where
      each : (q : ℕ) → agrees (at k (with_gone g s) q) (at k (with_gone g (with_args es h s)) q) ≡ true
      each q =
          ⊎_elim
          (λ lt. subst (λ x. agrees (at k (with_gone g s) q) x ≡ true) (sym (args_below es h s g q lt)) (agrees_same (at k (with_gone g s) q)))
          (λ le. subst (λ x. agrees x (at k (with_gone g (with_args es h s)) q) ≡ true) (sym (nothing_above k h s.slots g q f le)) (plain_args es h s g q p f le))
          (cases_lt q h)

  -- each is there
  abbrev pub Wait : List Ty → ℕ → ℕ → Facts → Type 0
  Wait [] h d F = Unit {0}
  Wait (t ∷ ts) h d F = (F h ≡ held k t d) × Wait ts (h + 1) d F

  pub args_wait : (es : Exprs) (h : ℕ) (s : Stand) (g : Gone) → Falls k h s.slots → gone_of (args_after es h (scope_at s) s.gone) ≡ g → Wait (types es) h s.depth (at k (with_gone g (with_args es h s)))
  args_wait no_exprs h s g f e = tt
  args_wait (more_exprs x es) h s g f e = (first, subst (λ t. Wait (types es) (h + 1) s.depth (at k t)) same (args_wait es (h + 1) inner g (omega arith, f) last))
    where
      c : Gone
      c = gone_of (expr_after x h (scope_at s) s.gone)

      inner : Stand
      inner = with_waiting h (type x) (with_gone c s)

      last : gone_of (args_after es (h + 1) (waiting h (gives_of (type x)) ∷ scope_at s) (without h c)) ≡ g
      last = sym (gone_then (expr_after x h (scope_at s) s.gone) (λ g. args_after es (h + 1) (waiting h (gives_of (type x)) ∷ scope_at s) (without h g))) ∙ e

      same : with_gone g (with_args es (h + 1) inner) ≡ with_gone g (with_args es (h + 1) (with_waiting h (type x) s))
      same = args_gone es (h + 1) inner (with_waiting h (type x) s) g refl refl

      there : is_gone h g ≡ false
      there =
          ap (is_gone h) (sym last)
          ∙ args_keep h false 0 es (h + 1) (waiting h (gives_of (type x)) ∷ scope_at s) (without h c) (omega arith) (record { each = λ n z e' q. let lt = find_below k h s.slots n z f e' in absurd (omega (arith, lt, q)) }) refl
          ∙ not_gone h c

      first : at k (with_gone g (with_args es (h + 1) (with_waiting h (type x) s))) h ≡ held k (type x) s.depth
      first =
          args_below es (h + 1) (with_waiting h (type x) s) g h (omega arith)
          ∙ ap (λ b. if b then slot_fact k.parts (record { role = waits; register = h; ty = type x; depth = s.depth }) g else fact_in k.parts s.slots g h) (eq-eqb h h refl)
          ∙ ap (λ b. if b then Empty else held k (type x) s.depth) (ap (λ b. true && y.is_owned (type x) && b) there ∙ none (true && y.is_owned (type x)))
        where
          none : (b : Bool) → (b && false) ≡ false
          none true = refl
          none false = refl
