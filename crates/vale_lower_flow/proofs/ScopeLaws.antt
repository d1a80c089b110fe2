-- What is in scope and what is gone, with one more.
use Rattle.std.proofs.Common.{◌≡◌, ℕ, ◌+◌, ◌<◌, List, [], ◌∷◌, ◌++◌, length, take, drop, get_or, refl, ap, sym, ◌∙◌, true≢false}
use Rattle.std.proofs.lemmas.List.{take_more, drop_more, get_or_default}
use Rattle.std.specs.Prelude.{Bool, true, false, not, ◌&&◌, ◌==◌, Option, Some, None, option_map, if◌then◌else◌}
use Rattle.std.specs.List.{filter}
use Rattle.vale_model.specs.Runs.{has_name}
use Rattle.vale_lowering_objects.specs.Scopes.{Entry, find, is_gone, without, same_gone, same_truth}
use Rattle.vale_lowering_objects.specs.Scopes as s
use Rattle.vale_lower_flow.specs.declared.scope.Local.{Local}
use Rattle.vale_lower_flow.specs.Entries.{entry_of, framed, gone_over, all_same}
use Rattle.vale_lower_flow.specs.Kept.{or_else}

pub framed_more : (ls : List Local) (l : Local) (outer : List Entry) → framed (ls ++ l ∷ []) outer ≡ entry_of l ∷ framed ls outer
framed_more [] l outer = refl
framed_more (m ∷ ls) l outer = framed_more ls l (entry_of m ∷ outer)

pub gone_more : (rs : List ℕ) (r : ℕ) (g : s.Gone) → gone_over (rs ++ r ∷ []) g ≡ r ∷ gone_over rs g
gone_more [] r g = refl
gone_more (q ∷ rs) r g = gone_more rs r (q ∷ g)

or_true : (b : Bool) → (if b then true else true) ≡ true
or_true true = refl
or_true false = refl

or_swap : (a b c : Bool) → (if a then true else if b then true else c) ≡ (if b then true else if a then true else c)
or_swap true b c = sym (or_true b)
or_swap false true c = refl
or_swap false false c = refl

-- what is gone after all, or before
pub gone_first : (r q : ℕ) (rs : List ℕ) (g : s.Gone) → is_gone r (gone_over rs (q ∷ g)) ≡ (if q == r then true else is_gone r (gone_over rs g))
gone_first r q [] g = refl
gone_first r q (p ∷ rs) g =
    gone_first r p rs (q ∷ g)
    ∙ ap (λ b. if p == r then true else b) (gone_first r q rs g)
    ∙ or_swap (p == r) (q == r) (is_gone r (gone_over rs g))
    ∙ ap (λ b. if q == r then true else b) (sym (gone_first r p rs g))

without_by : (r q : ℕ) (g : s.Gone) (b : Bool) → (q == r) ≡ b → without r g ≡ g → (if b then true else is_gone r g) ≡ false → without r (q ∷ g) ≡ q ∷ g
without_by r q g true e so_far h = absurd (true≢false h)
without_by r q g false e so_far h = ap (λ b. if b then without r g else q ∷ without r g) e ∙ ap (λ z. q ∷ z) so_far

left_gone : (b c : Bool) → (if b then true else c) ≡ false → c ≡ false
left_gone true c h = absurd (true≢false h)
left_gone false c h = h

pub without_none : (r : ℕ) (g : s.Gone) → is_gone r g ≡ false → without r g ≡ g
without_none r [] h = refl
without_none r (q ∷ g) h =
    without_by r q g (q == r) refl (without_none r g (left_gone (q == r) (is_gone r g) h)) h

abbrev pub other_than : ℕ → ℕ → Bool
other_than r q = not (q == r)

first_without : (r q : ℕ) (rs : List ℕ) (g : s.Gone) (b : Bool) → (q == r) ≡ b
    → gone_over (filter (other_than r) rs) (if b then without r g else q ∷ without r g) ≡ gone_over (if not b then q ∷ filter (other_than r) rs else filter (other_than r) rs) (without r g)
first_without r q rs g true e = refl
first_without r q rs g false e = refl

-- without one of all, those before too
without_over : (r : ℕ) (rs : List ℕ) (g : s.Gone) → without r (gone_over rs g) ≡ gone_over (filter (other_than r) rs) (without r g)
without_over r [] g = refl
without_over r (q ∷ rs) g = without_over r rs (q ∷ g) ∙ first_without r q rs g (q == r) refl

pub removed : (r : ℕ) (rs rs2 : List ℕ) → rs2 ≡ filter (other_than r) rs → gone_over rs2 [] ≡ without r (gone_over rs [])
removed r rs rs2 e = ap (λ z. gone_over z []) e ∙ sym (without_over r rs [])

-- one that is looked at, of those from a place on
pub has_next : (r : ℕ) (rs : List ℕ) (i x : ℕ) (all : Bool) → i < length rs → x ≡ get_or rs i x → (x == r) ≡ false → is_gone r (gone_over (drop i rs) []) ≡ all → is_gone r (gone_over (drop (i + 1) rs) []) ≡ all
has_next r rs i x all lt is e so_far =
    let one : drop i rs ≡ x ∷ drop (i + 1) rs = drop_more rs i x lt ∙ ap (λ (z : ℕ). z ∷ drop (i + 1) rs) (sym is) in
    sym (ap (λ b. if b then true else is_gone r (gone_over (drop (i + 1) rs) [])) e) ∙ (sym (gone_first r x (drop (i + 1) rs) []) ∙ (ap (λ (z : List ℕ). is_gone r (gone_over z [])) (sym one) ∙ so_far))

pub has_here : (r : ℕ) (rs : List ℕ) (i x : ℕ) (all : Bool) → i < length rs → x ≡ get_or rs i x → (x == r) ≡ true → is_gone r (gone_over (drop i rs) []) ≡ all → true ≡ all
has_here r rs i x all lt is e so_far =
    let one : drop i rs ≡ x ∷ drop (i + 1) rs = drop_more rs i x lt ∙ ap (λ (z : ℕ). z ∷ drop (i + 1) rs) (sym is) in
    sym (ap (λ b. if b then true else is_gone r (gone_over (drop (i + 1) rs) [])) e) ∙ (sym (gone_first r x (drop (i + 1) rs) []) ∙ (ap (λ (z : List ℕ). is_gone r (gone_over z [])) (sym one) ∙ so_far))

pub ruleset withouts = (without_none)

-- ---- which are the same

and_swap : (a b c : Bool) → (a && (b && c)) ≡ ((b && a) && c)
and_swap true true c = refl
and_swap true false c = refl
and_swap false true c = refl
and_swap false false c = refl

pub same_framed : (ls : List Local) (outer : List Entry) (g g' : s.Gone) → same_gone (framed ls outer) g g' ≡ (all_same ls g g' && same_gone outer g g')
same_framed [] outer g g' = refl
same_framed (l ∷ ls) outer g g' =
    same_framed ls (entry_of l ∷ outer) g g'
    ∙ and_swap (all_same ls g g') (same_truth (is_gone l.register g) (is_gone l.register g')) (same_gone outer g g')

-- ---- the last of a name

pub find_next : (n : ℕ) (ls : List Local) (i : ℕ) (l : Local) (found found2 : Option Local) → i < length ls → l ≡ get_or ls i l
    → ((outer : List Entry) → find n (framed (take i ls) outer) ≡ or_else (option_map entry_of found) (find n outer))
    → found2 ≡ (if has_name n (entry_of l).name then Some l else found)
    → (outer : List Entry) → find n (framed (take (i + 1) ls) outer) ≡ or_else (option_map entry_of found2) (find n outer)
find_next n ls i l found found2 lt is so_far e outer =
    let one : take (i + 1) ls ≡ take i ls ++ l ∷ [] = take_more ls i l lt ∙ ap (λ (z : Local). take i ls ++ z ∷ []) (sym is) in
    ap (λ (z : List Local). find n (framed z outer)) one
    ∙ (ap (λ (z : List Entry). find n z) (framed_more (take i ls) l outer)
    ∙ (ap (λ (z : Option Entry). if has_name n (entry_of l).name then Some (entry_of l) else z) (so_far outer)
    ∙ (by (has_name n (entry_of l).name) ∙ ap (λ (z : Option Local). or_else (option_map entry_of z) (find n outer)) (sym e))))
  where
    by : (b : Bool) → (if b then Some (entry_of l) else or_else (option_map entry_of found) (find n outer)) ≡ or_else (option_map entry_of (if b then Some l else found)) (find n outer)
    by true = refl
    by false = refl
