-- What single nodes make, by cases.
use Rattle.std.proofs.Common.{◌≡◌, ℕ, zero, suc, ◌+◌, ◌-◌, ◌<◌, rules, List, [], ◌∷◌, ◌++◌, length, take, get_or, refl, ap, sym, ◌∙◌, arith, append_assoc, append-nil}
use Rattle.std.specs.Prelude.{Bool, true, false, not, ◌&&◌, nat_le, Option, Some, None, if◌then◌else◌}
use Rattle.std.specs.List.{list_all}
use Rattle.vale_base.specs.Limits.{text_limit}
use Rattle.vale_syntax.specs.Bytes.{is_byte}
use Rattle.vale_syntax.specs.declared.tree.BinaryOp.TheVariants as op
use Rattle.vale_lowering.specs.Texts.{is_lawful_text}
use Rattle.vale_lower_places.specs.Origins.{is_text}
use Rattle.std.proofs.lemmas.List.{take_more}
use Rattle.vale_base.specs.declared.spot.Spot.{Spot}
use Rattle.vale_rules_spec.specs.Types as y
use Rattle.vale_code.specs.declared.instr.Instr.{Instr}
use Rattle.vale_code.specs.declared.instr.Instr.TheVariants as i
use Rattle.vale_lowering.specs.Instructions.{stuck, only_if, operator, registers_from}
use Rattle.vale_lowering_objects.specs.Scopes.{Gives, void, copy, owner, is_owner, agree, Entry, Scope, Gone, is_gone, same_truth}
use Rattle.vale_lowering_objects.specs.Lowered.{move_out, moved_out, lend_local, exchange, exchange_by, store, store_by, is_there, drop_entry, drop_scope}
use Rattle.vale_lower_flow.specs.declared.scope.Local.{Local}
use Rattle.vale_lower_flow.specs.Entries.{entry_of, framed}
use Rattle.vale_lower_flow.specs.Flow.{Going, put, taken, arrived, if_there}
use Rattle.vale_lower_flow.specs.Closing.{dropped}
use Rattle.vale_lower_flow.proofs.ScopeLaws.{framed_more}
use Rattle.vale_lower_flow.proofs.PartLaws.{state}
use Rattle.vale_lower_places.specs.Places.{moved, lent, exchanged, stored, scope_dropped}

-- ---- instructions one after another

pub put_put : (xs ys : List Instr) (f : Going) → put ys (put xs f) ≡ put (xs ++ ys) f
unfolding put
put_put xs ys f = ap (λ z. state z f.gone true) (append_assoc f.code xs ys)

pub nothing : (f : Going) → arrived f ≡ put [] f
unfolding arrived put
nothing f = ap (λ z. state z f.gone true) (sym (append-nil f.code))

pub ruleset puts = (put_put)

pub ruleset nothings = (nothing)

-- ---- locals

only_stuck : (b : Bool) (h : ℕ) → only_if b h (stuck h) ≡ stuck h
only_stuck true h = refl
only_stuck false h = refl

pub moved_none : (q : Gives) (h : ℕ) (f : Going) → moved None q h f ≡ put (stuck h) f
unfolding moved put
moved_none q h f = ap (λ z. state (f.code ++ z) f.gone true) (only_stuck (agree q owner) h)

pub moved_some : (x : Entry) (q : Gives) (h : ℕ) (f : Going) → moved (Some x) q h f ≡ taken x.register (put (if is_owner q then move_out (Some x) f.gone h else stuck h) f)
unfolding moved put taken
moved_some x void h f = refl
moved_some x copy h f = refl
moved_some x owner h f = refl

pub ruleset moves = (moved_none, moved_some)

pub lent_none : (q : Gives) (view : y.View) (h : ℕ) (f : Going) → lent None q view h f ≡ put (stuck h) f
unfolding lent put
lent_none q view h f = ap (λ z. state (f.code ++ z) f.gone true) (only_stuck (agree q copy) h)

pub lent_some : (x : Entry) (q : Gives) (view : y.View) (h : ℕ) (f : Going) →
    lent (Some x) q view h f
    ≡ put (if agree q copy then (if x.owned then (if is_gone x.register f.gone then stuck h else (if y.is_frozen view then i.Frozen h x.register ∷ [] else i.Borrow h x.register ∷ [])) else i.Copy h x.register ∷ []) else stuck h) f
unfolding lent put
lent_some x q view h f = ap (λ z. state (f.code ++ z) f.gone true) (by (agree q copy) x.owned (is_gone x.register f.gone) (y.is_frozen view))
  where
    by : (a b c d : Bool) → only_if a h (if b then (if c then stuck h else (if d then i.Frozen h x.register else i.Borrow h x.register) ∷ []) else i.Copy h x.register ∷ [])
        ≡ (if a then (if b then (if c then stuck h else (if d then i.Frozen h x.register ∷ [] else i.Borrow h x.register ∷ [])) else i.Copy h x.register ∷ []) else stuck h)
    by true true true d = refl
    by true true false true = refl
    by true true false false = refl
    by true false c d = refl
    by false b c d = refl

pub ruleset lends = (lent_none, lent_some)

-- what is done to a local that holds a value of the sort
holding : (a b c : Bool) (h : ℕ) (xs : List Instr) → (if a then (if b && c then stuck h else xs) else stuck h) ≡ (if a && not (b && c) then xs else stuck h)
holding true true true h xs = refl
holding true true false h xs = refl
holding true false c h xs = refl
holding false b c h xs = refl

pub exchanged_none : (q : Gives) (h : ℕ) (f : Going) → exchanged None q h f ≡ put (stuck h) f
unfolding exchanged put
exchanged_none q h f = refl

pub exchanged_some : (x : Entry) (q : Gives) (h : ℕ) (f : Going) → exchanged (Some x) q h f ≡ put (if same_truth x.owned (is_owner q) && is_there x f.gone then exchange_by q x.register h else stuck h) f
unfolding exchanged put
exchanged_some x q h f = ap (λ z. state (f.code ++ z) f.gone true) (holding (same_truth x.owned (is_owner q)) x.owned (is_gone x.register f.gone) h (exchange_by q x.register h))

pub ruleset exchanges = (exchanged_none, exchanged_some)

pub stored_none : (q : Gives) (h : ℕ) (at : Spot) (f : Going) → stored None q h at f ≡ put (stuck h) f
unfolding stored put
stored_none q h at f = refl

pub stored_some : (x : Entry) (q : Gives) (h : ℕ) (at : Spot) (f : Going) → stored (Some x) q h at f ≡ put (if same_truth x.owned (is_owner q) && is_there x f.gone then store_by q x.register h at else stuck h) f
unfolding stored put
stored_some x q h at f = ap (λ z. state (f.code ++ z) f.gone true) (holding (same_truth x.owned (is_owner q)) x.owned (is_gone x.register f.gone) h (store_by q x.register h at))

pub ruleset stores = (stored_none, stored_some)

-- ---- the scope

pub none_dropped : (at : Spot) (f : Going) → scope_dropped [] at f ≡ arrived f
unfolding scope_dropped arrived
none_dropped at f = ap (λ z. state z f.gone true) (append-nil f.code)

pub first_dropped : (x : Entry) (s : Scope) (at : Spot) (f : Going) → scope_dropped (x ∷ s) at f ≡ scope_dropped s at (dropped x at (arrived f))
unfolding scope_dropped arrived dropped if_there
first_dropped x s at f = ap (λ z. state z f.gone true) (sym (append_assoc f.code (drop_entry x f.gone at) (drop_scope s f.gone at)))

pub ruleset drops = (none_dropped)

pub drop_next : (ls : List Local) (k : ℕ) (l : Local) (at : Spot) (f f2 : Going) (outer : List Entry) → k < length ls → l ≡ get_or ls k l → f2 ≡ dropped (entry_of l) at (arrived f)
    → scope_dropped (framed (take k ls) outer) at f2 ≡ scope_dropped (framed (take (k + 1) ls) outer) at f
drop_next ls k l at f f2 outer lt is e =
    let one : take (k + 1) ls ≡ take k ls ++ l ∷ [] = take_more ls k l lt ∙ ap (λ (z : Local). take k ls ++ z ∷ []) (sym is) in
    ap (λ (z : Going). scope_dropped (framed (take k ls) outer) at z) e
    ∙ (sym (first_dropped (entry_of l) (framed (take k ls) outer) at f)
    ∙ (ap (λ (z : List Entry). scope_dropped z at f) (sym (framed_more (take k ls) l outer))
    ∙ ap (λ (z : List Local). scope_dropped (framed z outer) at f) (sym one)))

-- the next of them, from the last on
pub drop_back : (ls : List Local) (back : ℕ) (l : Local) (at : Spot) (f f1 f2 : Going) (outer : List Entry) → back < length ls → l ≡ get_or ls (length ls - 1 - back) l → f1 ≡ arrived f → f2 ≡ dropped (entry_of l) at f1
    → scope_dropped (framed (take (length ls - (back + 1)) ls) outer) at f2 ≡ scope_dropped (framed (take (length ls - back) ls) outer) at f
drop_back ls back l at f f1 f2 outer lt is e1 e2 =
    let k : ℕ = length ls - 1 - back in
    let j : length ls - (back + 1) ≡ length ls - 1 - back = omega arith in
    let m : length ls - back ≡ (length ls - 1 - back) + 1 = omega arith in
    let less : length ls - 1 - back < length ls = omega arith in
    ap (λ (n : ℕ). scope_dropped (framed (take n ls) outer) at f2) j
    ∙ (drop_next ls k l at f f2 outer less is (e2 ∙ ap (λ (z : Going). dropped (entry_of l) at z) e1)
    ∙ ap (λ (n : ℕ). scope_dropped (framed (take n ls) outer) at f) (sym m))

-- ---- plain values

pub add_by_type : (x : y.Ty) (at : Spot) (h : ℕ) → operator op.Add x at h ≡ (if is_text x then i.Join h h (h + 1) at else i.Add h h (h + 1) at)
add_by_type y.void at h = refl
add_by_type y.int at h = refl
add_by_type y.bool at h = refl
add_by_type y.str at h = refl
add_by_type (y.kind n) at h = refl
add_by_type (y.array x) at h = refl
add_by_type (y.ref x) at h = refl
add_by_type (y.imm x) at h = refl
add_by_type (y.iso x) at h = refl

pub registers_more : (h count : ℕ) → registers_from h (count + 1) ≡ registers_from h count ++ (h + count) ∷ []
registers_more h zero = let e : h ≡ h + 0 = omega arith in ap (λ n. n ∷ []) e
registers_more h (suc count) =
    let e : (h + 1) + count ≡ h + suc count = omega arith in
    let m : suc count + 1 ≡ suc (count + 1) = omega arith in
    ap (λ n. registers_from h n) m ∙ ap (λ z. h ∷ z) (registers_more (h + 1) count ∙ ap (λ n. registers_from (h + 1) count ++ n ∷ []) e)

all_bytes : (text : List ℕ) → ((k : ℕ) → get_or text k 0 < 256) → list_all is_byte text ≡ true
all_bytes [] each = refl
all_bytes (b ∷ text) each = rw (byte b (each 0), all_bytes text (λ k. each (suc k))) refl
  where
    byte : (b : ℕ) → b < 256 → is_byte b ≡ true
    byte b h = search (rules, arith)

pub lawful_text : (text : List ℕ) → ((k : ℕ) → get_or text k 0 < 256) → is_lawful_text text ≡ nat_le (length text) text_limit
lawful_text text each = rw (all_bytes text each) (and_true (nat_le (length text) text_limit))
  where
    and_true : (a : Bool) → (a && true) ≡ a
    and_true true = refl
    and_true false = refl
