-- Where reading stops, some program begins with what stands before.
use Rattle.std.proofs.Common.{◌≡◌, ℕ, List, [], ◌∷◌, ◌++◌, Result, Ok, Err, refl, sym, ap, subst, ◌∙◌, arith}
use Rattle.vale_base.specs.Limits.{level_limit}
use Rattle.vale_syntax.specs.declared.token.Token.{Token}
use Rattle.vale_syntax.specs.Tree.{Item, Tree, tree}
use Rattle.vale_syntax.specs.Grammar.{each, IsItem, names_in}
use Rattle.vale_reading.specs.Steps.{from, Fault, Read}
use Rattle.vale_reading.specs.ItemReading.{items_at, read_items, tree_of, all_of, read_at}
use Rattle.vale_prefix_spec.specs.Begins.{Begins}
use Rattle.vale_prefix.proofs.Parts.{Knows, Viable, Took}
use Rattle.vale_prefix.proofs.Items.{SomeItems, items_read}
use Rattle.vale_prefix.proofs.Known.{knows_names}

append_nil : (a : List Token) → a ++ [] ≡ a
append_nil [] = refl
append_nil (t ∷ a) = ap (λ (z : List Token). t ∷ z) (append_nil a)

pub begins : (a : List Token) → Viable SomeItems a → Begins a
begins a v =
    let names = names_in (a ++ v.0) in
    let xs = v.1.whole names v.1.levels (knows_names (a ++ v.0)) (omega arith) [] in
    record { levels = v.1.levels; rest = v.0; tree = tree names xs.0; spells = (refl, subst (λ (z : List Token). each (IsItem names v.1.levels) xs.0 z []) (append_nil (a ++ v.0)) xs.1) }

-- The tokens before a fault of the reader, with whatever count of levels, begin a program.
fault_by : (names : List (List ℕ)) (ts : List Token) (f : Fault) (r : Read (List Item)) → Took SomeItems ts r → tree_of names (read_items r) ≡ Err f → (front : List Token) × (ts ≡ front ++ from f) × Begins front
fault_by names ts f (Ok x) h e = absurd cc
fault_by names ts f (Err g) h e = let same : g ≡ f = fault_is names g f e in (h.0, subst (λ (g : Fault). ts ≡ h.0 ++ from g) same h.1, begins h.0 h.2) where
  fault_is : (names : List (List ℕ)) (g f : Fault) → tree_of names (read_items (Err g)) ≡ Err f → g ≡ f
  fault_is names g f e = cc

pub viable_before : (levels : ℕ) (ts : List Token) (f : Fault) → read_at levels ts ≡ Err f → (front : List Token) × (ts ≡ front ++ from f) × Begins front
viable_before levels ts f e = fault_by (names_in ts) ts f (items_at (names_in ts) levels ts) (items_read (names_in ts) levels ts).took e
