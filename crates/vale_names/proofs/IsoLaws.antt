-- The least closed set of names with the holders of isolates has those that reach one.
use Rattle.std.proofs.Common.{◌≡◌, ℕ, List, [], ◌∷◌, inl, inr, refl, sym}
use Rattle.std.specs.Prelude.{Bool, true, ◌&&◌, ◌==◌, Result, Ok, Err, IfOk}
use Rattle.std.specs.List.{list_any}
use Rattle.std.proofs.lemmas.Bool.{and_parts, and_from, or_cases, eqb-true, eq-eqb}
use Rattle.vale_syntax.specs.Tree.{Item}
use Rattle.vale_rules_spec.specs.Reach.{Edge, Leads, IsReached, here, along, is_reached}
use Rattle.vale_rules_spec.specs.Declarations.{leads, iso_holders}
use Rattle.vale_rules_spec.proofs.ReachLaws.{itself_along, one_more, is_sound}
use Rattle.vale_base.specs.declared.fault.Memory.{Memory}
use Rattle.vale_names.specs.declared.names.Names.{Names}
use Rattle.vale_names.specs.Names.{has}
use Rattle.vale_names.specs.Isos.{is_in, is_edge, IsClosed, IsLeast}
use Rattle.vale_names.proofs.TestLaws.{or_here, or_there, same_tests}

-- ---- an edge, and a number of a list, by their tests

edge_leads : (edges : List Edge) (m n : ℕ) → is_edge edges m n ≡ true → Leads edges m n
edge_leads [] m n e = cc
edge_leads (edge ∷ edges) m n e = elim (or_cases (edge.0 == m && edge.1 == n) (is_edge edges m n) e) [
  | inl h ↦ let parts = and_parts (edge.0 == m) (edge.1 == n) h in inl (eqb-true edge.0 m parts.0, eqb-true edge.1 n parts.1)
  | inr h ↦ inr (edge_leads edges m n h)
]

leads_edge : (edges : List Edge) (m n : ℕ) → Leads edges m n → is_edge edges m n ≡ true
leads_edge [] m n l = elim l [ ]
leads_edge (edge ∷ edges) m n (inl l) = or_here (edge.0 == m && edge.1 == n) (is_edge edges m n) (and_from (edge.0 == m) (edge.1 == n) (eq-eqb edge.0 m l.0) (eq-eqb edge.1 n l.1))
leads_edge (edge ∷ edges) m n (inr l) = or_there (edge.0 == m && edge.1 == n) (is_edge edges m n) (leads_edge edges m n l)

in_here : (m : ℕ) (ms : List ℕ) → is_in (m ∷ ms) m ≡ true
in_here m ms = or_here (m == m) (is_in ms m) (eq-eqb m m refl)

-- ---- what reaches a holder

reach_edge : (edges : List Edge) (m n : ℕ) (ms : List ℕ) → Leads edges m n → list_any (is_reached edges n) ms ≡ true → list_any (is_reached edges m) ms ≡ true
reach_edge edges m n [] l e = e
reach_edge edges m n (h ∷ ms) l e = elim (or_cases (is_reached edges n h) (list_any (is_reached edges n) ms) e) [
  | inl r ↦ or_here (is_reached edges m h) (list_any (is_reached edges m) ms) (one_more edges m n h l r)
  | inr r ↦ or_there (is_reached edges m h) (list_any (is_reached edges m) ms) (reach_edge edges m n ms l r)
]

reach_holder : (edges : List Edge) (n : ℕ) (ms : List ℕ) → is_in ms n ≡ true → list_any (is_reached edges n) ms ≡ true
reach_holder edges n [] e = cc
reach_holder edges n (m ∷ ms) e = elim (or_cases (m == n) (is_in ms n) e) [
  | inl h ↦ or_here (is_reached edges n m) (list_any (is_reached edges n) ms) (itself_along edges m n (eqb-true m n h))
  | inr h ↦ or_there (is_reached edges n m) (list_any (is_reached edges n) ms) (reach_holder edges n ms h)
]

reached_holder : (edges : List Edge) (n : ℕ) (ms : List ℕ) → list_any (is_reached edges n) ms ≡ true → (h : ℕ) × (is_in ms h ≡ true) × IsReached edges n h
reached_holder edges n [] e = cc
reached_holder edges n (h ∷ ms) e = elim (or_cases (is_reached edges n h) (list_any (is_reached edges n) ms) e) [
  | inl r ↦ (h, in_here h ms, is_sound edges n h r)
  | inr r ↦ let more = reached_holder edges n ms r in (more.0, or_there (h == more.0) (is_in ms more.0) more.1, more.2)
]

moved : (has : ℕ → Bool) (m n : ℕ) → m ≡ n → has m ≡ true → has n ≡ true
moved has m n e h = cc

back : (has : ℕ → Bool) (edges : List Edge) (n h : ℕ) → IsClosed edges has → IsReached edges n h → has h ≡ true → has n ≡ true
back has edges n h closed (here e) t = moved has h n (sym e) t
back has edges n h closed (along {k = k} l r) t = closed n k (leads_edge edges n k l) (back has edges k h closed r t)

-- the least closed set has exactly the names that reach a holder
pub least_reaches : (edges : List Edge) (ms : List ℕ) (has : ℕ → Bool) → IsLeast edges ms has → (n : ℕ) → has n ≡ list_any (is_reached edges n) ms
least_reaches edges ms has is n = same_tests (has n) (list_any (is_reached edges n) ms)
    (is.least (λ m. list_any (is_reached edges m) ms)
    (λ m k e r. reach_edge edges m k ms (edge_leads edges m k e) r)
    (λ m i. reach_holder edges m ms i) n)
    (λ e. let found = reached_holder edges n ms e in back has edges n found.0 is.closed found.2 (is.begins found.0 found.1))

pub all_reach : (items : List Item) (r : Result Names Memory) → IfOk r (λ isos. IsLeast (leads items) (iso_holders items) (has isos)) → IfOk r (λ isos. (n : ℕ) → has isos n ≡ list_any (is_reached (leads items) n) (iso_holders items))
all_reach items (Ok isos) is = least_reaches (leads items) (iso_holders items) (has isos) is
all_reach items (Err e) is = tt {0}
