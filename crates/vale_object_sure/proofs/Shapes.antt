-- Code is sure where what it is put together of is.
use Rattle.std.proofs.Common.{◌≡◌, ℕ, ◌+◌, pos, Bool, true, false, not, ◌&&◌, if◌then◌else◌, List, [], ◌∷◌, ◌++◌, length, Option, Some, refl, sym, ◌∙◌, subst}
use Rattle.std.specs.List.{list_all}
use Rattle.std.proofs.lemmas.List.Folds.{list_all-append}
use Rattle.vale_base.specs.declared.spot.Spot.{Spot}
use Rattle.vale_rules_spec.specs.Types as y
use Rattle.vale_rules_spec.specs.Whole.{Locals}
use Rattle.vale_code.specs.declared.instr.Instr.{Instr}
use Rattle.vale_code.specs.declared.instr.Instr.TheVariants as i
use Rattle.vale_lowering.specs.Instructions.{only_if, loop_code, and_code}
use Rattle.vale_lowering_objects.specs.Lowered.{dead_code, then_code, if_comes, jump_over, sides, turns_code, count_code, hand, move_out, Origin, at_hand, reference, origin_of, lend, lend_local, is_there, from_local, load_field, load_element, swap_field, swap_element, exchange_by, exchange, store_by, store, drop_value, drop_entry, drop_scope, free_register}
use Rattle.vale_lowering_objects.specs.Scopes.{Gives, void, copy, owner, is_value, is_owner, Entry, Scope, Gone, is_gone, same_truth, After, comes, never}
use Rattle.vale_object_facts.specs.Suits.{is_sure, Sure}
use Rattle.vale_object_sure.proofs.Ties.{Row, Kept, Goes, went_kept, fell_kept, both_true, truth_itself}

pub sure_more : (x : Instr) (xs : List Instr) → is_sure x ≡ true → Sure xs → Sure (x ∷ xs)
sure_more x xs a b = both_true (is_sure x) (list_all is_sure xs) a b

pub sure_both : (xs zs : List Instr) → Sure xs → Sure zs → Sure (xs ++ zs)
sure_both xs zs a b = list_all-append is_sure xs zs ∙ both_true (list_all is_sure xs) (list_all is_sure zs) a b

pub sure_if : (b : Bool) (h : ℕ) (xs : List Instr) → b ≡ true → Sure xs → Sure (only_if b h xs)
sure_if true h xs e a = a
sure_if false h xs e a = absurd (cc)

-- ---- parts, one after another

dead_sure : (place r : ℕ) (xs : List Instr) → Sure xs → Sure (dead_code place r xs)
dead_sure place r [] a = refl
dead_sure place r (x ∷ xs) a = sure_both (x ∷ xs) (i.Jump (place + 2 + length (x ∷ xs)) ∷ []) a refl

pub then_sure : (rs : List Row) (g : Gone) (ls ms : Locals) (place r : ℕ) (a : List Instr) (o : After) (rest : ℕ → Gone → List Instr) → Sure a → Goes rs g ls o ms → ((q : ℕ) (g' : Gone) → Kept rs g' ms → Sure (rest q g')) → Sure (then_code place r a o rest)
then_sure rs g ls ms place r a (comes g') rest s k f = sure_both a (rest (place + length a) g') s (f (place + length a) g' (went_kept rs g g' ls ms k))
then_sure rs g ls ms place r a (never g') rest s k f =
    sure_both a (dead_code (place + length a) r (rest (place + length a + 2) g')) s (dead_sure (place + length a) r (rest (place + length a + 2) g') (f (place + length a + 2) g' (fell_kept rs g' ls ms k)))

pub last_sure : (place r : ℕ) (a : List Instr) (o : After) (rest : ℕ → Gone → List Instr) → Sure a → ((q : ℕ) (g' : Gone) → Sure (rest q g')) → Sure (then_code place r a o rest)
last_sure place r a (comes g') rest s f = sure_both a (rest (place + length a) g') s (f (place + length a) g')
last_sure place r a (never g') rest s f = sure_both a (dead_code (place + length a) r (rest (place + length a + 2) g')) s (dead_sure (place + length a) r (rest (place + length a + 2) g') (f (place + length a + 2) g'))

pub comes_sure : (place : ℕ) (a : List Instr) (o : After) (rest : ℕ → Gone → List Instr) → Sure a → ((q : ℕ) (g' : Gone) → Sure (rest q g')) → Sure (if_comes place a o rest)
comes_sure place a (comes g') rest s f = sure_both a (rest (place + length a) g') s (f (place + length a) g')
comes_sure place a (never g') rest s f = s

-- with what is known where a run comes
pub kept_sure : (rs : List Row) (g : Gone) (ls ms : Locals) (place : ℕ) (a : List Instr) (o : After) (rest : ℕ → Gone → List Instr) → Sure a → Goes rs g ls o ms → ((q : ℕ) (g' : Gone) → Kept rs g' ms → Sure (rest q g')) → Sure (if_comes place a o rest)
kept_sure rs g ls ms place a (comes g') rest s k f = sure_both a (rest (place + length a) g') s (f (place + length a) g' (went_kept rs g g' ls ms k))
kept_sure rs g ls ms place a (never g') rest s k f = s

-- ---- ways

jump_sure : (o : After) (to : ℕ) → Sure (jump_over o to)
jump_sure (comes g) to = refl
jump_sure (never g) to = refl

pub sides_sure : (place h : ℕ) (first : After) (a b : ℕ → List Instr) → ((q : ℕ) → Sure (a q)) → ((q : ℕ) → Sure (b q)) → Sure (sides place h first a b)
sides_sure place h first a b f k =
    let one = a (place + 1) in
    let other = place + 1 + length one + length (jump_over first 0) in
    let two = b other in
    sure_both one (jump_over first (other + length two) ++ two) (f (place + 1)) (sure_both (jump_over first (other + length two)) two (jump_sure first (other + length two)) (k other))

pub and_sure : (place h : ℕ) (a : ℕ → List Instr) → ((q : ℕ) → Sure (a q)) → Sure (and_code place h a)
and_sure place h a f = f (place + 1)

pub loop_sure : (place h : ℕ) (test body : ℕ → List Instr) → ((q : ℕ) → Sure (test q)) → ((q : ℕ) → Sure (body q)) → Sure (loop_code place h test body)
loop_sure place h test body f k =
    let b = body (place + 2) in
    let start = place + 2 + length b in
    let t = test start in
    sure_both b (t ++ (i.Unless h (start + length t + 2) ∷ i.Jump (place + 1) ∷ [])) (k (place + 2)) (sure_both t (i.Unless h (start + length t + 2) ∷ i.Jump (place + 1) ∷ []) (f start) refl)

pub turns_sure : (place h : ℕ) (o : After) (test body : ℕ → List Instr) → ((q : ℕ) → Sure (test q)) → ((q : ℕ) → Sure (body q)) → Sure (turns_code place h o test body)
turns_sure place h (comes g) test body f k = loop_sure place h test body f k
turns_sure place h (never g) test body f k = last_sure place (h + 1) (test place) (never g) (λ place g. body place) (f place) (λ q g'. k q)

pub count_sure : (place h : ℕ) (at : Spot) (o : After) (body : ℕ → List Instr) → ((q : ℕ) → Sure (body q)) → Sure (count_code place h at o body)
count_sure place h at o body f =
    loop_sure (place + 1) (h + 2) (λ place. i.Cmp (h + 2) 2 h (h + 1) ∷ []) (λ place. i.Copy (h + 2) h ∷ if_comes (place + 1) (body (place + 1)) o (λ place g. i.Int (h + 2) (pos 1) ∷ i.Add h h (h + 2) at ∷ []))
    (λ q. refl) (λ q. comes_sure (q + 1) (body (q + 1)) o (λ place g. i.Int (h + 2) (pos 1) ∷ i.Add h h (h + 2) at ∷ []) (f (q + 1)) (λ r g. refl))

-- ---- values

pub hand_sure : (q : Gives) (to h : ℕ) → Sure (hand q to h)
hand_sure void to h = refl
hand_sure copy to h = refl
hand_sure owner to h = refl

pub drop_value_sure : (q : Gives) (h : ℕ) (at : Spot) → Sure (drop_value q h at)
drop_value_sure void h at = refl
drop_value_sure copy h at = refl
drop_value_sure owner h at = refl

pub drop_sure : (x : Entry) (g : Gone) (at : Spot) → Sure (drop_entry x g at)
drop_sure x g at = by x.owned (is_gone x.register g)
  where
    by : (owned gone : Bool) → Sure (if owned then (if gone then [] else i.Destroy x.register at ∷ []) else [])
    by true true = refl
    by true false = refl
    by false gone = refl

pub drops_sure : (s : Scope) (g : Gone) (at : Spot) → Sure (drop_scope s g at)
drops_sure [] g at = refl
drops_sure (x ∷ s) g at = sure_both (drop_entry x g at) (drop_scope s g at) (drop_sure x g at) (drops_sure s g at)

-- ---- locals that are there

move_by : (owned gone : Bool) (h r : ℕ) → owned ≡ true → gone ≡ false → Sure (if owned then (if gone then i.Truth h 2 ∷ [] else i.Move h r ∷ []) else i.Truth h 2 ∷ [])
move_by true false h r e f = refl
move_by true true h r e f = absurd (cc)
move_by false gone h r e f = absurd (cc)

pub move_sure : (o : Option Entry) (x : Entry) (g : Gone) (h : ℕ) → o ≡ Some x → x.owned ≡ true → is_gone x.register g ≡ false → Sure (move_out o g h)
move_sure o x g h e owned there = subst (λ z. Sure (move_out z g h)) (sym e) (move_by x.owned (is_gone x.register g) h x.register owned there)

lend_by : (frozen : Bool) (h r : ℕ) → is_sure (if frozen then i.Frozen h r else i.Borrow h r) ≡ true
lend_by true h r = refl
lend_by false h r = refl

lent_by : (owned gone : Bool) (v : y.View) (h r : ℕ) → gone ≡ false → Sure (if owned then (if gone then i.Truth h 2 ∷ [] else lend v h r ∷ []) else i.Copy h r ∷ [])
lent_by true true v h r e = absurd (cc)
lent_by true false v h r e = sure_more (lend v h r) [] (lend_by (y.is_frozen v) h r) refl
lent_by false gone v h r e = refl

pub lend_sure : (o : Option Entry) (x : Entry) (g : Gone) (v : y.View) (h : ℕ) → o ≡ Some x → is_gone x.register g ≡ false → Sure (lend_local o g v h)
lend_sure o x g v h e there = subst (λ z. Sure (lend_local z g v h)) (sym e) (lent_by x.owned (is_gone x.register g) v h x.register there)

there_is : (owned gone : Bool) → gone ≡ false → not (owned && gone) ≡ true
there_is true false e = refl
there_is true true e = absurd (cc)
there_is false gone e = refl

-- what is done from a local
pub from_sure : (o : Option Entry) (x : Entry) (stays : Bool) (v : y.View) (place h : ℕ) (g : Gone) (rest : Origin → ℕ → ℕ → Gone → List Instr) → o ≡ Some x → is_gone x.register g ≡ false → ((r : Origin) (q : ℕ) → Sure (rest r q (free_register stays h) g))
    → Sure (from_local o stays v place h g rest)
from_sure o x stays v place h g rest e there f = subst (λ z. Sure (from_local z stays v place h g rest)) (sym e) (by stays f)
  where
    by : (b : Bool) → ((r : Origin) (q : ℕ) → Sure (rest r q (free_register b h) g)) → Sure (from_local (Some x) b v place h g rest)
    by true f = sure_if (is_there x g) h (rest (origin_of x) place h g) (there_is x.owned (is_gone x.register g) there) (f (origin_of x) place)
    by false f =
        let a = lend_local (Some x) g v h in
        sure_both a (rest (reference h) (place + length a) (h + 1) g) (lend_sure (Some x) x g v h refl there) (f (reference h) (place + length a))

pub load_field_sure : (o : Origin) (field : Option ℕ) (n : ℕ) (at : Spot) (h : ℕ) → field ≡ Some n → Sure (load_field o field at h)
load_field_sure o field n at h e = subst (λ z. Sure (load_field o z at h)) (sym e) (by o)
  where
    by : (o : Origin) → Sure (load_field o (Some n) at h)
    by (at_hand r) = refl
    by (reference r) = refl

pub load_element_sure : (o : Origin) (k : ℕ) (at : Spot) (h : ℕ) → Sure (load_element o k at h)
load_element_sure (at_hand r) k at h = refl
load_element_sure (reference r) k at h = refl

pub swap_field_sure : (o : Origin) (field : Option ℕ) (n : ℕ) (at : Spot) (h : ℕ) → field ≡ Some n → Sure (swap_field o field at h)
swap_field_sure o field n at h e = subst (λ z. Sure (swap_field o z at h)) (sym e) (by o)
  where
    by : (o : Origin) → Sure (swap_field o (Some n) at h)
    by (at_hand r) = refl
    by (reference r) = refl

pub swap_element_sure : (o : Origin) (k : ℕ) (at : Spot) (h : ℕ) → Sure (swap_element o k at h)
swap_element_sure (at_hand r) k at h = refl
swap_element_sure (reference r) k at h = refl

-- ---- the set of a local

exchanged : (q : Gives) (r h : ℕ) → is_value q ≡ true → Sure (exchange_by q r h)
exchanged void r h e = absurd (cc)
exchanged copy r h e = refl
exchanged owner r h e = refl

stored : (q : Gives) (r h : ℕ) (at : Spot) → is_value q ≡ true → Sure (store_by q r h at)
stored void r h at e = absurd (cc)
stored copy r h at e = refl
stored owner r h at e = refl

set_by : (same owned gone : Bool) (h : ℕ) (xs : List Instr) → same ≡ true → gone ≡ false → Sure xs → Sure (if same then (if owned && gone then i.Truth h 2 ∷ [] else xs) else i.Truth h 2 ∷ [])
set_by true true false h xs e f s = s
set_by true true true h xs e f s = absurd (cc)
set_by true false gone h xs e f s = s
set_by false owned gone h xs e f s = absurd (cc)

pub exchange_sure : (o : Option Entry) (x : Entry) (g : Gone) (q : Gives) (h : ℕ) → o ≡ Some x → x.owned ≡ is_owner q → is_gone x.register g ≡ false → is_value q ≡ true → Sure (exchange o g q h)
exchange_sure o x g q h e sort there value =
    subst (λ z. Sure (exchange z g q h)) (sym e) (set_by (same_truth x.owned (is_owner q)) x.owned (is_gone x.register g) h (exchange_by q x.register h) (truth_itself x.owned (is_owner q) sort) there (exchanged q x.register h value))

pub store_sure : (o : Option Entry) (x : Entry) (g : Gone) (q : Gives) (h : ℕ) (at : Spot) → o ≡ Some x → x.owned ≡ is_owner q → is_gone x.register g ≡ false → is_value q ≡ true → Sure (store o g q h at)
store_sure o x g q h at e sort there value =
    subst (λ z. Sure (store z g q h at)) (sym e) (set_by (same_truth x.owned (is_owner q)) x.owned (is_gone x.register g) h (store_by q x.register h at) (truth_itself x.owned (is_owner q) sort) there (stored q x.register h at value))
