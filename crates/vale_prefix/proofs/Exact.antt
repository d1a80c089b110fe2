-- Where the reader finds an unexpected token, no program begins with the tokens up to and with it.
use Rattle.std.proofs.Common.{◌≡◌, ◌<◌, ◌≤◌, ◌+◌, ℕ, zero, suc, true, List, [], ◌∷◌, ◌++◌, append_assoc, length, Result, Ok, Err, refl, sym, ap, subst, ◌∙◌, arith, ◌⊎◌, inl, inr}
use Rattle.vale_syntax.specs.declared.token.Token.{Token}
use Rattle.vale_syntax.specs.Tree.{Item, Tree, tree}
use Rattle.vale_syntax.specs.Grammar.{each, IsItem, names_in}
use Rattle.vale_reading.specs.Steps.{Fault, unexpected, too_deep, Read}
use Rattle.vale_reading.specs.ItemReading.{items_at, read_items, tree_of, read_at}
use Rattle.vale_reading_laws.proofs.MoreLevels.{Follows}
use Rattle.vale_reading_laws.proofs.MoreItems.{items_grow, levels}
use Rattle.vale_reading_laws.proofs.ItemAgain.{items_again}
use Rattle.vale_prefix_spec.specs.Begins.{Begins, spells_within}
use Rattle.vale_prefix.proofs.Parts.{Knows, knows_left}
use Rattle.vale_prefix.proofs.Known.{knows_names}
use Rattle.vale_prefix.proofs.Local.{Two, Shared, Past, Alike, Any}
use Rattle.vale_prefix.proofs.LocalItems.{items_local}

abbrev items_fault : Fault → Read (List Item)
items_fault f = Err f

ok_not_fault : (y : List Item × List Token) (f : Fault) (r : Read (List Item)) → r ≡ Ok y → r ≡ Err f → ⊥
ok_not_fault y f r e g = let h : Ok y ≡ Err f = sym e ∙ g in cc

-- the reader's fault, without the tree around it
fault_of : (names : List (List ℕ)) (r : Read (List Item)) (us : List Token) → tree_of names (read_items r) ≡ Err (unexpected us) → r ≡ Err (unexpected us)
fault_of names (Ok y) us e = absurd cc
fault_of names (Err f) us e = ap items_fault (same f us e) where
  same : (f : Fault) (us : List Token) → tree_of names (read_items (Err f)) ≡ Err (unexpected us) → f ≡ unexpected us
  same f us e = cc

-- an unexpected token is unexpected with more levels too, and what is read is read
more_fault : (names : List (List ℕ)) (d e : ℕ) → d < e → (ts us : List Token) → items_at names d ts ≡ Err (unexpected us) → items_at names e ts ≡ Err (unexpected us)
more_fault names d e lt ts us h = subst (λ (r : Read (List Item)). Follows true r (items_at names e ts)) h (items_grow names (levels true d e lt) ts).follows

more_read : (names : List (List ℕ)) (d e : ℕ) → d < e → (ts : List Token) (y : List Item × List Token) → items_at names d ts ≡ Ok y → items_at names e ts ≡ Ok y
more_read names d e lt ts y h = subst (λ (r : Read (List Item)). Follows true r (items_at names e ts)) h (items_grow names (levels true d e lt) ts).follows

shared : (x : Two) (b : List Token) (t : Token) → Knows x.names (b ++ t ∷ []) → Knows x.names2 (b ++ t ∷ []) → Shared x ((b ++ t ∷ []) ++ x.after) ((b ++ t ∷ []) ++ x.more)
shared x [] t h g = record { t = t; a = []; left = refl; right = refl; known = h; known2 = g }
shared x (u ∷ b) t h g = record { t = u; a = b ++ t ∷ []; left = refl; right = refl; known = h; known2 = g }

not_past : (x : Two) (t : Token) (us : List Token) (y : List Item × List Token) → us ≡ t ∷ x.after → Alike {A = List Item} x Any (Err (unexpected us)) (Ok y) → ⊥
not_past x t us y e past = omega (arith, past, ap length e)

module _ (d e : ℕ) (front : List Token) (t : Token) (after more : List Token) (names2 : List (List ℕ)) (items : List Item) where
  abbrev ts : List Token
  ts = (front ++ t ∷ []) ++ after

  abbrev us : List Token
  us = (front ++ t ∷ []) ++ more

  abbrev both : Two
  both = record { names = names_in ts; names2 = names_in us; after = after; more = more }

  contradicts : items_at (names_in ts) d ts ≡ Err (unexpected (t ∷ after)) → each (IsItem (names_in us) e) items us [] → ⊥
  contradicts h g =
      let m : ℕ = d + e + 1 in
      let less : d < m = omega arith in
      let less2 : e < m = omega arith in
      let left : items_at (names_in ts) m ts ≡ Err (unexpected (t ∷ after)) = more_fault (names_in ts) d m less ts (t ∷ after) h in
      let right : items_at (names_in us) m us ≡ Ok (items, []) = more_read (names_in us) e m less2 us (items, []) (items_again (names_in us) e items us g) in
      let sh : Shared both ts us = shared both front t (knows_left (names_in ts) (front ++ t ∷ []) after (knows_names ts)) (knows_left (names_in us) (front ++ t ∷ []) more (knows_names us)) in
      let alike : Alike {A = List Item} both Any (items_at (names_in ts) m ts) (items_at (names_in us) m us) = (items_local both m ts us).alike sh in
      not_past both t (t ∷ after) (items, []) refl (subst (λ (q : Read (List Item)). Alike {A = List Item} both Any (Err (unexpected (t ∷ after))) q) right (subst (λ (r : Read (List Item)). Alike {A = List Item} both Any r (items_at (names_in us) m us)) left alike))

never_by : (d : ℕ) (front : List Token) (t : Token) (after : List Token) → items_at (names_in ((front ++ t ∷ []) ++ after)) d ((front ++ t ∷ []) ++ after) ≡ Err (unexpected (t ∷ after)) → (e : ℕ) (more : List Token) (x : Tree) → spells_within e x ((front ++ t ∷ []) ++ more) → ⊥
never_by d front t after h e more (tree names items) (same, g) = contradicts d e front t after more names items h (subst (λ (z : List (List ℕ)). each (IsItem z e) items ((front ++ t ∷ []) ++ more) []) same g)

-- With whatever count of levels: no program of any nesting begins with the tokens up to and with an unexpected one.
pub none_through : (d : ℕ) (front : List Token) (t : Token) (after : List Token) → read_at d (front ++ t ∷ after) ≡ Err (unexpected (t ∷ after)) → Begins (front ++ t ∷ []) → ⊥
none_through d front t after h b =
    let whole : (front ++ t ∷ []) ++ after ≡ front ++ t ∷ after = append_assoc front (t ∷ []) after in
    let h2 : read_at d ((front ++ t ∷ []) ++ after) ≡ Err (unexpected (t ∷ after)) = subst (λ (z : List Token). read_at d z ≡ Err (unexpected (t ∷ after))) (sym whole) h in
    let names : List (List ℕ) = names_in ((front ++ t ∷ []) ++ after) in
    never_by d front t after (fault_of names (items_at names d ((front ++ t ∷ []) ++ after)) (t ∷ after) h2) b.levels b.rest b.tree b.spells

-- Where the tokens end too early, they are no program of any nesting.
pub none_whole : (d : ℕ) (ts : List Token) → read_at d ts ≡ Err (unexpected []) → (e : ℕ) (x : Tree) → spells_within e x ts → ⊥
none_whole d ts h e (tree names items) (same, g) =
    let m : ℕ = d + e + 1 in
    let less : d < m = omega arith in
    let less2 : e < m = omega arith in
    let left : items_at (names_in ts) m ts ≡ Err (unexpected []) = more_fault (names_in ts) d m less ts [] (fault_of (names_in ts) (items_at (names_in ts) d ts) [] h) in
    let right : items_at (names_in ts) m ts ≡ Ok (items, []) = more_read (names_in ts) e m less2 ts (items, []) (items_again (names_in ts) e items ts (subst (λ (z : List (List ℕ)). each (IsItem z e) items ts []) same g)) in
    ok_not_fault (items, []) (unexpected []) (items_at (names_in ts) m ts) right left
