-- What is reached along edges: as a relation, and as a test that decides it (`proofs/ReachLaws.antt`).
use Rattle.std.specs.Prelude.{◌≡◌, ℕ, Bool, ◌||◌, ◌&&◌, ◌==◌, ◌⊎◌, List, [], ◌∷◌}

-- from a number to one that it leads to
abbrev pub Edge : Type 0
Edge = ℕ × ℕ

abbrev pub Leads : List Edge → ℕ → ℕ → Type 0
Leads [] m n = ⊥
Leads (edge ∷ edges) m n = ((edge.0 ≡ m) × (edge.1 ≡ n)) ⊎ Leads edges m n

-- n is reached from m: it is m, or it is reached from one that m leads to
pub data IsReached (edges : List Edge) : ℕ → ℕ → Type 0 where
  here : {m n : ℕ} → m ≡ n → IsReached edges m n
  along : {m k n : ℕ} → Leads edges m k → IsReached edges k n → IsReached edges m n

-- the same as a test: along an edge where needed, and only once
abbrev pub is_reached : List Edge → ℕ → ℕ → Bool
is_reached [] m n = m == n
is_reached (edge ∷ edges) m n = is_reached edges m n || (is_reached edges m edge.0 && is_reached edges edge.1 n)
