-- An expression of operators up to a height: one of the height below, and the operators of that height after it.
use Rattle.std.proofs.Common.{◌≡◌, ◌<◌, ◌-◌, ℕ, zero, suc, List, Option, Ok, refl, subst, arith}
use Rattle.vale_syntax.specs.declared.token.Token.{Token}
use Rattle.vale_syntax.specs.Tree.{Expr, Links, no_links, more_links}
use Rattle.vale_reading.specs.declared.stop.Stop.{Stop}
use Rattle.vale_reading.specs.declared.stop.Stop.TheVariants as stop
use Rattle.vale_reading.specs.Steps.{Read, ◌>>=◌, turns_at}
use Rattle.vale_reading.specs.Reading.{Inner, chained, link_turn, no_more, most_links, links_at, level_at}
use Rattle.vale_reading.specs.Gives.{Fails}

module _ (names : List (List ℕ)) (o : Option Inner) (ts mid : List Token) (e : Expr) where
  -- the operators of height h between operands of height n
  abbrev operators : ℕ → ℕ → Read Links
  operators h n = turns_at (link_turn (level_at names o n) h) more_links (λ _. no_links) no_more (most_links h mid) mid

  level_then : (n : ℕ) (r : Read Links) → level_at names o n ts ≡ Ok (e, mid) → operators (suc n) n ≡ r → level_at names o (suc n) ts ≡ (r >>= (λ ls. Ok (chained e ls.0, ls.1)))
  unfolding level_at links_at
  level_then n r h g = rw (h, g) refl

  below_is : (n : ℕ) (r : Read Links) → level_at names o (suc n - 1) ts ≡ Ok (e, mid) → operators (suc n) (suc n - 1) ≡ r → level_at names o (suc n) ts ≡ (r >>= (λ ls. Ok (chained e ls.0, ls.1)))
  below_is n r h g =
      let same : suc n - 1 ≡ n = omega arith in
      level_then n r (subst (λ (m : ℕ). level_at names o m ts ≡ Ok (e, mid)) same h) (subst (λ (m : ℕ). operators (suc n) m ≡ r) same g)

  pub level_read : (h : ℕ) (ls : Links) (rest : List Token) → 0 < h → level_at names o (h - 1) ts ≡ Ok (e, mid) → operators h (h - 1) ≡ Ok (ls, rest) → level_at names o h ts ≡ Ok (chained e ls, rest)
  level_read zero ls rest lt a b = absurd (omega (arith, lt))
  level_read (suc n) ls rest lt a b = below_is n (Ok (ls, rest)) a b

  pub level_fails : (h : ℕ) (s : Stop) → 0 < h → level_at names o (h - 1) ts ≡ Ok (e, mid) → Fails s (operators h (h - 1)) → Fails s (level_at names o h ts)
  level_fails zero s lt a b = absurd (omega (arith, lt))
  level_fails (suc n) stop.Memory lt a b = tt
  level_fails (suc n) (stop.Unexpected us) lt a b = below_is n _ a b
  level_fails (suc n) (stop.TooDeep us) lt a b = below_is n _ a b
