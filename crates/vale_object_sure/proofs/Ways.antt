-- The branches of an `if`: what is gone where they meet.
use Rattle.std.proofs.Common.{◌≡◌, Bool, true, false, ◌&&◌, List, [], ◌∷◌, refl, sym, ap, ◌∙◌, subst}
use Rattle.std.proofs.lemmas.Bool.{and_parts}
use Rattle.vale_rules_spec.specs.Owned.{Branches, add_branch, all_alike, agree, behind}
use Rattle.vale_rules_spec.specs.Whole.{Locals, are_alike}
use Rattle.vale_lowering_objects.specs.Scopes.{Scope, Gone, After, comes, never, no_run, then_after, met, may_meet, closes}
use Rattle.vale_object_sure.proofs.Never.{IsNever}
use Rattle.vale_object_sure.proofs.Ties.{Row, rows, Kept, Fell, Went, Goes, went_same, fell_same, went_fell, went_kept, fell_kept, went_twice, fell_twice, fell_from, alike_both, alike_itself, went_alike, went_gone}

-- a run comes after one of the branches, and this is gone there
abbrev pub Led : List Row → Gone → Locals → Branches → Gone → Type 0
Led rs g ls ws g' = (w : Locals) × (more : Branches) × (ws ≡ w ∷ more) × Went rs g ls g' w

-- of sides that meet, with the locals before the `if`
abbrev pub Met : List Row → Gone → Locals → Locals → Branches → After → Type 0
Met rs g ls before ws (comes g') = Led rs g ls ws g'
Met rs g ls before ws (never g') = Fell rs before g' (behind before ws)

-- of the sides after the first one, with what was gone before the `if`
abbrev pub Rest : List Row → Gone → Locals → Gone → Locals → Branches → After → Type 0
Rest rs g ls gone before ws (comes g') = Led rs g ls ws g'
Rest rs g ls gone before ws (never g') = Fell rs before gone (behind before ws)

module _ (rs : List Row) (gone : Gone) (before : Locals) (kept : Kept rs gone before) where
  pub rest_of : (g : Gone) (ls : Locals) (ws : Branches) (o : After) → Met rs g ls before ws o → Rest rs g ls gone before ws o
  rest_of g ls ws (comes g') m = m
  rest_of g ls ws (never g') m = fell_from rs g' gone before (behind before ws) m kept

  -- the first side and the rest
  pub join : (g z : Gone) (ls ms : Locals) (returns : Bool) (ws : Branches) (a o : After) → Fell rs before z ls → (returns ≡ true → IsNever a) → Goes rs g ls a ms → Rest rs g ls gone before ws o → agree (add_branch returns ms ws) ≡ true
      → Met rs g ls before (add_branch returns ms ws) (met gone a o)
  join g z ls ms true ws (comes g1) o f r k m e = absurd (r refl)
  join g z ls ms false ws (comes g1) o f r k m e = (ms, ws, refl, k)
  join g z ls ms true ws (never g1) (comes g2) f r k m e = m
  join g z ls ms false ws (never g1) (comes g2) f r k m e =
      let alike = and_parts (are_alike ms m.0) (all_alike ms m.1) (subst (λ l. all_alike ms l ≡ true) m.2 e) in
      (ms, ws, refl, went_alike rs g g2 ls m.0 ms g1 m.3 k alike.0)
  join g z ls ms true ws (never g1) (never g2) f r k m e = m
  join g z ls ms false ws (never g1) (never g2) f r k m e = fell_from rs g1 gone before ms (fell_twice rs z g1 before ls ms f k) kept

  -- after a condition
  pub met_then : (g z : Gone) (ls ms : Locals) (ws : Branches) (o : After) (f : Gone → After) → Fell rs before z ls → Goes rs g ls o ms → ((g' : Gone) → Kept rs g' ms → Met rs g' ms before ws (f g')) → Met rs g ls before ws (then_after o f)
  met_then g z ls ms ws (comes g1) f b k go = went (f g1) (go g1 (went_kept rs g g1 ls ms k))
    where
      went : (o : After) → Met rs g1 ms before ws o → Met rs g ls before ws o
      went (comes g2) m = (m.0, m.1, m.2, went_twice rs g g1 g2 ls ms m.0 k m.3)
      went (never g2) m = m
  met_then g z ls ms ws (never g1) f b k go = fell (f g1) (go g1 (fell_kept rs g1 ls ms k))
    where
      fell : (o : After) → Met rs g1 ms before ws o → Met rs g ls before ws (no_run o)
      fell (comes g2) m = subst (λ l. Fell rs before g2 (behind before l)) (sym m.2) (fell_twice rs g1 g2 before ms m.0 (fell_twice rs z g1 before ls ms b k) (went_fell rs g1 g2 ms m.0 m.3))
      fell (never g2) m = m

  -- the last side
  pub other_side : (g z : Gone) (ls ms : Locals) (returns : Bool) (a : After) → Fell rs before z ls → (returns ≡ true → IsNever a) → Goes rs g ls a ms → Rest rs g ls gone before (add_branch returns ms []) a
  other_side g z ls ms true (comes g1) f r k = absurd (r refl)
  other_side g z ls ms false (comes g1) f r k = (ms, [], refl, k)
  other_side g z ls ms true (never g1) f r k = fell_same rs gone before kept
  other_side g z ls ms false (never g1) f r k = fell_from rs g1 gone before ms (fell_twice rs z g1 before ls ms f k) kept

pub met_goes : (rs : List Row) (g : Gone) (ls : Locals) (ws : Branches) (o : After) → Met rs g ls ls ws o → Goes rs g ls o (behind ls ws)
met_goes rs g ls ws (comes g') m = subst (λ l. Went rs g ls g' (behind ls l)) (sym m.2) m.3
met_goes rs g ls ws (never g') m = m

-- ---- branches that agree

all_less : (l m : Locals) (ws : Branches) → are_alike l m ≡ true → all_alike l ws ≡ true → all_alike m ws ≡ true
all_less l m [] a e = refl
all_less l m (w ∷ ws) a e =
    let p = and_parts (are_alike l w) (all_alike l ws) e in
    ap (λ b. b && all_alike m ws) (alike_both l m w a p.0) ∙ all_less l m ws a p.1

less : (l : Locals) (ws : Branches) → all_alike l ws ≡ true → agree ws ≡ true
less l [] e = refl
less l (w ∷ ws) e = let p = and_parts (are_alike l w) (all_alike l ws) e in all_less l w ws p.0 p.1

pub agree_less : (returns : Bool) (l : Locals) (ws : Branches) → agree (add_branch returns l ws) ≡ true → agree ws ≡ true
agree_less true l ws e = e
agree_less false l ws e = less l ws e

-- ---- the code's tests

pub sides_meet : (s : Scope) (g gone : Gone) (before ls ms : Locals) (returns : Bool) (ws : Branches) (a o : After) → (returns ≡ true → IsNever a) → Goes (rows s) g ls a ms → Rest (rows s) g ls gone before ws o → agree (add_branch returns ms ws) ≡ true → may_meet s a o ≡ true
sides_meet s g gone before ls ms true ws (comes g1) o r k m e = absurd (r refl)
sides_meet s g gone before ls ms false ws (comes g1) (comes g2) r k m e =
    let alike = and_parts (are_alike ms m.0) (all_alike ms m.1) (subst (λ l. all_alike ms l ≡ true) m.2 e) in
    went_gone s g g1 g2 ls ms m.0 k m.3 alike.0
sides_meet s g gone before ls ms false ws (comes g1) (never g2) r k m e = refl
sides_meet s g gone before ls ms returns ws (never g1) o r k m e = refl

pub still_closes : (s : Scope) (g : Gone) (ls ms : Locals) (o : After) → Kept (rows s) g ls → Goes (rows s) g ls o ms → are_alike ls ms ≡ true → closes s g o ≡ true
still_closes s g ls ms (comes g') b k a = went_gone s g g g' ls ls ms (went_same (rows s) g ls b) k a
still_closes s g ls ms (never g') b k a = refl

-- a part that moves nothing
pub still_goes : (rs : List Row) (g z : Gone) (ls ms : Locals) → Kept rs g ls → Fell rs ls z ms → are_alike ls ms ≡ true → Went rs g ls g ms
still_goes rs g z ls ms b k a = went_alike rs g g ls ls ms z (went_same rs g ls b) k (alike_both ls ms ls a (alike_itself ls))
