-- Locals as the code has them, the last declared last.
use Rattle.std.proofs.Common.{◌≡◌, ◌≢◌, ℕ, suc, ◌+◌, ◌-◌, ◌<◌, ◌≤◌, List, [], ◌∷◌, ◌++◌, length, get_or, set, take, drop, refl, ap, sym, ◌∙◌, arith, append_assoc, length-drop}
use Rattle.std.proofs.lemmas.Bool.{eqb-true, eq-eqb, ne_eqb}
use Rattle.std.proofs.lemmas.List.{drop_more, drop_all, take_more, take-append-drop, length-take-le}
use Rattle.std.proofs.Math.Seq.{drop-append_seam, take-length}
use Rattle.std.specs.Prelude.{Bool, true, false, ◌==◌, ◌&&◌, Option, Some, None, if◌then◌else◌}
use Rattle.vale_rules_spec.specs.Whole as w
use Rattle.vale_rules_spec.specs.Whole.{Locals, is_whole, moved, are_alike}
use Rattle.vale_owner_flow.specs.declared.locals.Local.{Local}
use Rattle.vale_owner_flow.specs.FlowView.{local_of, scope_over, in_scope}
use Rattle.vale_owner_flow.specs.Places.{or_first, place_of, same, alike}

scope_more : (ls : List Local) (l : Local) (outer : Locals) → scope_over (ls ++ l ∷ []) outer ≡ local_of l ∷ scope_over ls outer
scope_more [] l outer = refl
scope_more (m ∷ ls) l outer = scope_more ls l (local_of m ∷ outer)

pub one_more : (ls : List Local) (l : Local) → in_scope (ls ++ l ∷ []) ≡ local_of l ∷ in_scope ls
unfolding in_scope
one_more ls l = scope_more ls l []

-- ---- where they stand

-- whether the local at the place is whole, or what is outside
abbrev whole_or : Local → Option ℕ → List Local → Bool → Bool
whole_or d None ls outside = outside
whole_or d (Some at) ls outside = (get_or ls at d).whole

whole_first : (d : Local) (b : Bool) (l : Local) (ls : List Local) (p : Option ℕ) (outside : Bool) → whole_or d p ls (if b then l.whole else outside) ≡ whole_or d (or_first b p) (l ∷ ls) outside
whole_first d true l ls None outside = refl
whole_first d false l ls None outside = refl
whole_first d b l ls (Some at) outside = refl

whole_over : (d : Local) (n : ℕ) (ls : List Local) (outer : Locals) → is_whole n (scope_over ls outer) ≡ whole_or d (place_of n ls) ls (is_whole n outer)
whole_over d n [] outer = refl
whole_over d n (l ∷ ls) outer = whole_over d n ls (local_of l ∷ outer) ∙ whole_first d (l.name.0 == n) l ls (place_of n ls) (is_whole n outer)

pub whole_at : (d : Local) (n : ℕ) (ls : List Local) (at : ℕ) → Some at ≡ place_of n ls → is_whole n (in_scope ls) ≡ (get_or ls at d).whole
unfolding in_scope
whole_at d n ls at e = whole_over d n ls [] ∙ ap (λ p. whole_or d p ls true) (sym e)

pub whole_none : (n : ℕ) (ls : List Local) → None ≡ place_of n ls → is_whole n (in_scope ls) ≡ true
unfolding in_scope
whole_none n ls e = whole_over (record { name = record { 0 = 0 }; whole = true }) n ls [] ∙ ap (λ p. whole_or (record { name = record { 0 = 0 }; whole = true }) p ls true) (sym e)

abbrev out : Local → Local
out l = record { name = l.name; whole = false }

-- the local at the place is moved, or one outside is
abbrev moved_or : Local → Option ℕ → ℕ → List Local → Locals → Locals
moved_or d None n ls outer = scope_over ls (moved n outer)
moved_or d (Some at) n ls outer = scope_over (set ls at (out (get_or ls at d))) outer

abbrev loc : ℕ → Bool → w.Local
loc n whole = record { name = n; whole = whole }

moved_here : (n : ℕ) (l : Local) (outer : Locals) (b : Bool) → (l.name.0 == n) ≡ b → (if b then loc n false ∷ outer else local_of l ∷ moved n outer) ≡ moved_or l (or_first b None) n (l ∷ []) outer
moved_here n l outer true e = ap (λ m. loc m false ∷ outer) (sym (eqb-true l.name.0 n e))
moved_here n l outer false e = refl

moved_first : (d : Local) (n : ℕ) (l : Local) (ls : List Local) (outer : Locals) (p : Option ℕ) (b : Bool) → (l.name.0 == n) ≡ b
    → moved_or d p n ls (local_of l ∷ outer) ≡ moved_or d (or_first b p) n (l ∷ ls) outer
moved_first d n l ls outer (Some at) b e = refl
moved_first d n l ls outer None true e = ap (λ c. scope_over ls (if c then loc n false ∷ outer else local_of l ∷ moved n outer)) e ∙ ap (λ m. scope_over ls (loc m false ∷ outer)) (sym (eqb-true l.name.0 n e))
moved_first d n l ls outer None false e = ap (λ c. scope_over ls (if c then loc n false ∷ outer else local_of l ∷ moved n outer)) e

moved_over : (d : Local) (n : ℕ) (ls : List Local) (outer : Locals) → moved n (scope_over ls outer) ≡ moved_or d (place_of n ls) n ls outer
moved_over d n [] outer = refl
moved_over d n (l ∷ ls) outer = moved_over d n ls (local_of l ∷ outer) ∙ moved_first d n l ls outer (place_of n ls) (l.name.0 == n) refl

pub moved_at : (d : Local) (n : ℕ) (ls : List Local) (at : ℕ) → Some at ≡ place_of n ls → moved n (in_scope ls) ≡ in_scope (set ls at (out (get_or ls at d)))
unfolding in_scope
moved_at d n ls at e = moved_over d n ls [] ∙ ap (λ p. moved_or d p n ls []) (sym e)

pub moved_none : (n : ℕ) (ls : List Local) → None ≡ place_of n ls → moved n (in_scope ls) ≡ in_scope ls
unfolding in_scope
moved_none n ls e = moved_over (record { name = record { 0 = 0 }; whole = true }) n ls [] ∙ ap (λ p. moved_or (record { name = record { 0 = 0 }; whole = true }) p n ls []) (sym e)

pub ruleset wholes = (whole_at, whole_none)

pub ruleset moves = (moved_at, moved_none)

-- the last of some
pub place_more : (n : ℕ) (ls : List Local) (l : Local) → place_of n (ls ++ l ∷ []) ≡ (if l.name.0 == n then Some (length ls) else place_of n ls)
place_more n [] l = refl
place_more n (m ∷ ls) l = ap (or_first (m.name.0 == n)) (place_more n ls l) ∙ over (l.name.0 == n)
  where
    over : (b : Bool) → or_first (m.name.0 == n) (if b then Some (length ls) else place_of n ls) ≡ (if b then Some (suc (length ls)) else or_first (m.name.0 == n) (place_of n ls))
    over true = refl
    over false = refl

place_next : (n : ℕ) (ls : List Local) (m j : ℕ) (d : Local) → m ≡ j + 1 → j < length ls → place_of n (take m ls) ≡ (if (get_or ls j d).name.0 == n then Some j else place_of n (take j ls))
place_next n ls m j d e lt =
    ap (λ k. place_of n (take k ls)) e
    ∙ ap (place_of n) (take_more ls j d lt)
    ∙ place_more n (take j ls) (get_or ls j d)
    ∙ ap (λ k. if (get_or ls j d).name.0 == n then Some k else place_of n (take j ls)) (length-take-le j ls (omega (arith, lt)))

pub place_hit : (n : ℕ) (ls : List Local) (m j : ℕ) (d : Local) (whole : Option ℕ) → m ≡ j + 1 → j < length ls → (get_or ls j d).name.0 ≡ n → place_of n (take m ls) ≡ whole → Some j ≡ whole
place_hit n ls m j d whole e lt same flow_state =
    sym (place_next n ls m j d e lt ∙ ap (λ b. if b then Some j else place_of n (take j ls)) (eq-eqb (get_or ls j d).name.0 n same)) ∙ flow_state

pub place_miss : (n : ℕ) (ls : List Local) (m i j : ℕ) (d : Local) (whole : Option ℕ) → m ≡ j + 1 → i ≡ j → j < length ls → (get_or ls i d).name.0 ≢ n → place_of n (take m ls) ≡ whole → place_of n (take j ls) ≡ whole
place_miss n ls m i j d whole e at lt other flow_state =
    sym (place_next n ls m j d e lt ∙ ap (λ b. if b then Some j else place_of n (take j ls)) (ap (λ k. (get_or ls k d).name.0 == n) (sym at) ∙ ne_eqb (get_or ls i d).name.0 n other)) ∙ flow_state

pub place_all : (n : ℕ) (ls : List Local) (m : ℕ) → m ≡ length ls → place_of n (take m ls) ≡ place_of n ls
place_all n ls m e = ap (λ k. place_of n (take k ls)) e ∙ ap (place_of n) (take-length ls)

pub place_end : (n : ℕ) (ls : List Local) (m : ℕ) (whole : Option ℕ) → m ≡ 0 → place_of n (take m ls) ≡ whole → None ≡ whole
place_end n ls m whole e flow_state = sym (ap (λ k. place_of n (take k ls)) e) ∙ flow_state

pub ruleset places = (place_hit, place_all, place_end)

-- ---- how many there are

over_append : (ls : List Local) (outer : Locals) → scope_over ls outer ≡ scope_over ls [] ++ outer
over_append [] outer = refl
over_append (l ∷ ls) outer =
    over_append ls (local_of l ∷ outer)
    ∙ sym (append_assoc (scope_over ls []) (local_of l ∷ []) outer)
    ∙ ap (λ z. z ++ outer) (sym (over_append ls (local_of l ∷ [])))

over_two : (xs ys : List Local) (outer : Locals) → scope_over (xs ++ ys) outer ≡ scope_over ys (scope_over xs outer)
over_two [] ys outer = refl
over_two (x ∷ xs) ys outer = over_two xs ys (local_of x ∷ outer)

as_many_over : (ls : List Local) (outer : Locals) → length (scope_over ls outer) ≡ length ls + length outer
as_many_over [] outer = omega arith
as_many_over (l ∷ ls) outer = let h = as_many_over ls (local_of l ∷ outer) in omega (arith, h)

pub as_many : (ls : List Local) → length (in_scope ls) ≡ length ls
unfolding in_scope
as_many ls = let h = as_many_over ls [] in omega (arith, h)

pub first_ones : (ls : List Local) (count : ℕ) → in_scope (take count ls) ≡ drop (length (in_scope ls) - count) (in_scope ls)
unfolding in_scope
first_ones ls count =
    let kept : Locals = scope_over (take count ls) [] in
    let more : Locals = scope_over (drop count ls) [] in
    let split : scope_over ls [] ≡ more ++ kept = ap (λ z. scope_over z []) (sym (take-append-drop count ls)) ∙ over_two (take count ls) (drop count ls) [] ∙ over_append (drop count ls) kept in
    let whole = as_many_over ls [] in
    let rest = as_many_over (drop count ls) [] in
    let left = length-drop count ls in
    let long : length more ≡ length (scope_over ls []) - count = omega (arith, whole, rest, left) in
    sym (drop-append_seam more kept) ∙ ap (λ z. drop (length more) z) (sym split) ∙ ap (λ k. drop k (scope_over ls [])) long

-- ---- whether they are alike

one_alike : (m n : ℕ) (b c : Bool) (ls ms : Locals) → are_alike (loc m b ∷ ls) (loc n c ∷ ms) ≡ (same b c && are_alike ls ms)
one_alike m n true c ls ms = refl
one_alike m n false true ls ms = refl
one_alike m n false false ls ms = refl

pub alike_itself : (ls : Locals) → are_alike ls ls ≡ true
alike_itself [] = refl
alike_itself (l ∷ ls) = one_alike l.name l.name l.whole l.whole ls ls ∙ itself l.whole ∙ alike_itself ls
  where
    itself : (b : Bool) → (same b b && are_alike ls ls) ≡ are_alike ls ls
    itself true = refl
    itself false = refl

and_false : (b : Bool) → (b && false) ≡ false
and_false true = refl
and_false false = refl

unlike_over : (ls ms : Locals) → length ls ≢ length ms → are_alike ls ms ≡ false
unlike_over [] [] h = absurd (h refl)
unlike_over [] (m ∷ ms) h = refl
unlike_over (l ∷ ls) [] h = refl
unlike_over (l ∷ ls) (m ∷ ms) h =
    one_alike l.name m.name l.whole m.whole ls ms
    ∙ ap (λ z. same l.whole m.whole && z) (unlike_over ls ms (λ e. h (ap suc e)))
    ∙ and_false (same l.whole m.whole)

pub unlike : (ls ms : List Local) → length ls ≢ length ms → are_alike (in_scope ls) (in_scope ms) ≡ false
unlike ls ms h = unlike_over (in_scope ls) (in_scope ms) (λ e. h (sym (as_many ls) ∙ e ∙ as_many ms))

turned : (a b c : Bool) → (a && (b && c)) ≡ ((b && a) && c)
turned true true c = refl
turned true false c = refl
turned false true c = refl
turned false false c = refl

alike_over : (xs ys : List Local) (o p : Locals) → length xs ≡ length ys → are_alike (scope_over xs o) (scope_over ys p) ≡ (alike xs ys && are_alike o p)
alike_over [] [] o p e = refl
alike_over [] (y ∷ ys) o p e = absurd (omega (arith, e))
alike_over (x ∷ xs) [] o p e = absurd (omega (arith, e))
alike_over (x ∷ xs) (y ∷ ys) o p e =
    alike_over xs ys (local_of x ∷ o) (local_of y ∷ p) (omega (arith, e))
    ∙ ap (λ z. alike xs ys && z) (one_alike x.name.0 y.name.0 x.whole y.whole o p)
    ∙ turned (alike xs ys) (same x.whole y.whole) (are_alike o p)

and_true : (b : Bool) → (b && true) ≡ b
and_true true = refl
and_true false = refl

pub alike_in_scope : (xs ys : List Local) → length xs ≡ length ys → are_alike (in_scope xs) (in_scope ys) ≡ alike xs ys
unfolding in_scope
alike_in_scope xs ys e = alike_over xs ys [] [] e ∙ and_true (alike xs ys)

pub alike_next : (xs ys : List Local) (at : ℕ) (d e : Local) → at < length xs → at < length ys → alike (drop at xs) (drop at ys) ≡ (same (get_or xs at d).whole (get_or ys at e).whole && alike (drop (at + 1) xs) (drop (at + 1) ys))
alike_next xs ys at d e lx ly = ap (λ z. alike z (drop at ys)) (drop_more xs at d lx) ∙ ap (λ z. alike (get_or xs at d ∷ drop (at + 1) xs) z) (drop_more ys at e ly)

pub alike_end : (xs ys : List Local) (at : ℕ) → length xs ≤ at → length ys ≤ at → alike (drop at xs) (drop at ys) ≡ true
alike_end xs ys at lx ly = ap (λ z. alike z (drop at ys)) (drop_all at xs lx) ∙ ap (λ z. alike [] z) (drop_all at ys ly)

pub alike_differ : (xs ys : List Local) (at : ℕ) (d e : Local) → length xs ≡ length ys → at < length xs → same (get_or xs at d).whole (get_or ys at e).whole ≡ false
    → alike (drop at xs) (drop at ys) ≡ alike xs ys → false ≡ are_alike (in_scope xs) (in_scope ys)
alike_differ xs ys at d e many lt other flow_state =
    let here : alike (drop at xs) (drop at ys) ≡ false = alike_next xs ys at d e lt (omega (arith, lt, many)) ∙ ap (λ b. b && alike (drop (at + 1) xs) (drop (at + 1) ys)) other in
    sym (alike_in_scope xs ys many ∙ sym flow_state ∙ here)

pub ruleset likeness = (unlike, alike_in_scope, alike_next, alike_end)
