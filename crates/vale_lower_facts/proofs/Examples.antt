-- Codes that their facts certify, by computation; and that the facts are needed.
use Rattle.std.proofs.Common.{◌≡◌, ℕ, List, [], ◌∷◌, Option, Some, None, map, refl}
use Rattle.std.specs.Prelude.{true, false, codes, pos}
use Rattle.vale_base.specs.declared.spot.Spot.{Spot}
use Rattle.vale_syntax.specs.declared.tree.BinaryOp.TheVariants.{Equal, Less, Add, Sub, And}
use Rattle.vale_syntax.specs.declared.tree.NameAt.{NameAt}
use Rattle.vale_rules_spec.specs.Judged.{Judged, fine, faulty}
use Rattle.vale_rules_spec.specs.Typed.{Typed}
use Rattle.vale_rules_spec.specs.Typing.{typed}
use Rattle.vale_syntax.specs.Tree.{int_type, set, chain, number, quote, truth, name, call, form, no_exprs, more_exprs, link, no_links, more_links, branch, otherwise, block, declare, return_value, return_nothing, while, foreach, express, no_stmts, last, more_stmts, param, head, function, function_item, Tree, tree}
use Rattle.vale_cert.specs.Certificate.{first_fault}
use Rattle.vale_cert.specs.declared.facts.FuncFacts.{FuncFacts}
use Rattle.vale_cert.specs.declared.fault.Fault.{Fault}
use Rattle.vale_lowering.specs.Lowered.{lowered}
use Rattle.vale_lower_facts.specs.Marks.{lowered_facts}

abbrev at : ℕ → ℕ → Spot
at line column = record { line = line; col = column }

abbrev n : ℕ → ℕ → ℕ → NameAt
n k line column = record { name = record { 0 = k }; at = at line column }

-- the first broken rule, where the types of the program are lawful
abbrev fault_of : (Typed → List FuncFacts) → Judged Typed → Option (Option Fault)
fault_of facts (fine program) = Some (first_fault (lowered program) (facts program))
fault_of facts (faulty f fs) = None

abbrev bare : FuncFacts → FuncFacts
bare f = record { live = f.live; labels = [] }

-- func f(k int) int { if k < 2 and true { return k; } else { return f(k - 1); } }
-- func main() {
--   x = 0;
--   while x < 3 { set x = x + 1; if x == 2 { } else { } }
--   foreach i in 0..2 { println(if i == 0 { f(x) } else { i }); }
--   return;
--   println("never");
-- }
abbrev two_functions : Tree
two_functions = tree (codes "f" ∷ codes "k" ∷ codes "main" ∷ codes "x" ∷ codes "i" ∷ codes "println" ∷ [])
    (function_item (function (head false (n 0 1 6) (param (n 1 1 8) (int_type (at 1 10)) ∷ []) (Some (int_type (at 1 15))))
    (block (at 1 19) (at 1 79) (last (form (branch (at 1 21)
    (chain (chain (name (n 1 1 24)) (more_links (link (at 1 26) Less (number (at 1 28) (pos 2))) no_links)) (more_links (link (at 1 30) And (truth (at 1 34) true)) no_links))
    (block (at 1 39) (at 1 51) (more_stmts (return_value (at 1 41) (name (n 1 1 48))) no_stmts))
    (otherwise (block (at 1 58) (at 1 77) (more_stmts (return_value (at 1 60) (call (n 0 1 67) (more_exprs (chain (name (n 1 1 69)) (more_links (link (at 1 71) Sub (number (at 1 73) (pos 1))) no_links)) no_exprs))) no_stmts))))))))
    ∷ function_item (function (head false (n 2 2 6) [] None) (block (at 2 13) (at 8 1)
    (more_stmts (declare (n 3 3 3) (number (at 3 7) (pos 0)))
    (more_stmts (while (at 4 3) (chain (name (n 3 4 9)) (more_links (link (at 4 11) Less (number (at 4 13) (pos 3))) no_links)) (block (at 4 15) (at 4 55)
    (more_stmts (express (set (at 4 17) (name (n 3 4 21)) (chain (name (n 3 4 25)) (more_links (link (at 4 27) Add (number (at 4 29) (pos 1))) no_links))))
    (last (form (branch (at 4 32) (chain (name (n 3 4 35)) (more_links (link (at 4 37) Equal (number (at 4 40) (pos 2))) no_links)) (block (at 4 42) (at 4 44) no_stmts) (otherwise (block (at 4 51) (at 4 53) no_stmts))))))))
    (more_stmts (foreach (at 5 3) (n 4 5 11) (number (at 5 16) (pos 0)) (number (at 5 19) (pos 2)) (block (at 5 21) (at 5 63)
    (more_stmts (express (call (n 5 5 23) (more_exprs (form (branch (at 5 31) (chain (name (n 4 5 34)) (more_links (link (at 5 36) Equal (number (at 5 39) (pos 0))) no_links)) (block (at 5 41) (at 5 48) (last (call (n 0 5 43) (more_exprs (name (n 3 5 45)) no_exprs)))) (otherwise (block (at 5 55) (at 5 59) (last (name (n 4 5 57))))))) no_exprs))) no_stmts)))
    (more_stmts (return_nothing (at 6 3))
    (more_stmts (express (call (n 5 7 3) (more_exprs (quote (at 7 11) (codes "never")) no_exprs))) no_stmts)))))))
    ∷ [])

both_are_certified : fault_of lowered_facts (typed two_functions) ≡ Some None
both_are_certified = refl

-- without labels no code with jumps is certified
labels_are_asked : fault_of (λ program. map bare (lowered_facts program)) (typed two_functions) ≡ Some (Some (record { rule = 7; at = 3 }))
labels_are_asked = refl
