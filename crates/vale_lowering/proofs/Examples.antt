-- The code of whole programs, run by computation: what it prints and at which tick, how it ends, and the ticks that it spends.
use Rattle.std.proofs.Common.{◌≡◌, ℕ, List, [], ◌∷◌, ◌++◌, Option, Some, None, refl}
use Rattle.std.specs.Prelude.{true, false, codes, pos}
use Rattle.std.specs.Fmt.{signed_decimal}
use Rattle.vale_state_spec.specs.Outcome.{Outcome, End, Done, Trap, Cut}
use Rattle.vale_state_spec.specs.State.{no_input}
use Rattle.vale_base.specs.declared.piece.Piece.{Piece}
use Rattle.vale_base.specs.declared.spot.Spot.{Spot}
use Rattle.vale_base.specs.declared.trap.FrameAt.{FrameAt}
use Rattle.vale_base.specs.declared.trap.TrapKind.TheVariants.{Overflow, DivisionByZero}
use Rattle.vale_syntax.specs.declared.tree.BinaryOp.TheVariants.{Equal, Less, Add, Sub, Div}
use Rattle.vale_syntax.specs.declared.tree.NameAt.{NameAt}
use Rattle.vale_rules_spec.specs.Judged.{Judged, fine, faulty}
use Rattle.vale_rules_spec.specs.Typed.{Typed}
use Rattle.vale_rules_spec.specs.Typing.{typed}
use Rattle.vale_syntax.specs.Tree.{int_type, set, chain, number, quote, truth, name, call, paren, form, no_exprs, more_exprs, link, no_links, more_links, branch, no_else, block, declare, return_value, while, foreach, form_stmt, express, no_stmts, last, more_stmts, param, head, function, function_item, Tree, tree}
use Rattle.vale_code.specs.Run.{run_code}
use Rattle.vale_lowering.specs.Lowered.{lowered}

abbrev at : ℕ → ℕ → Spot
at line column = record { line = line; col = column }

abbrev n : ℕ → ℕ → ℕ → NameAt
n k line column = record { name = record { 0 = k }; at = at line column }

abbrev run_typed : Judged Typed → ℕ → Option Outcome
run_typed (fine program) ticks = Some (run_code (lowered program) no_input ticks)
run_typed (faulty f fs) ticks = None

-- what the code of the program gives, where its types are lawful
abbrev run : Tree → ℕ → Option Outcome
run p ticks = run_typed (typed p) ticks

abbrev piece : ℕ → List ℕ → Piece
piece tick bytes = record { tick = tick; bytes = bytes }

abbrev line : ℕ → List ℕ
line z = signed_decimal (pos z) ++ 10 ∷ []

abbrev frame : List ℕ → Spot → FrameAt
frame what spot = record { what = what; at = spot }

abbrev in_main : FrameAt
in_main = frame (codes "main") (at 1 1)

abbrev gives : List Piece → End → ℕ → Option Outcome
gives pieces end ticks = Some (record { pieces = pieces; end = end; ticks = ticks })

-- func main() { println(1 + 2); }
abbrev a_sum : Tree
a_sum = tree (codes "main" ∷ codes "println" ∷ []) (function_item (function (head false (n 0 1 6) ([]) None) (block (at 1 13) (at 1 31) (more_stmts (express (call (n 1 1 15) (more_exprs (chain (number (at 1 23) (pos 1)) (more_links (link (at 1 25) Add (number (at 1 27) (pos 2))) no_links)) no_exprs))) no_stmts))) ∷ [])

a_sum_is_printed : run a_sum 1000 ≡ gives (piece 1 (line 3) ∷ []) Done 1
a_sum_is_printed = refl

-- func main() { println(9223372036854775807 + 1); }
abbrev too_great : Tree
too_great = tree (codes "main" ∷ codes "println" ∷ []) (function_item (function (head false (n 0 1 6) ([]) None) (block (at 1 13) (at 1 49) (more_stmts (express (call (n 1 1 15) (more_exprs (chain (number (at 1 23) (pos 9223372036854775807)) (more_links (link (at 1 43) Add (number (at 1 45) (pos 1))) no_links)) no_exprs))) no_stmts))) ∷ [])

the_sum_is_too_great : run too_great 1000 ≡ gives [] (Trap (record { kind = Overflow; at = at 1 43; frames = in_main ∷ []; more = 0 })) 1
the_sum_is_too_great = refl

-- func main() { while true { println(1); } }
abbrev for_ever : Tree
for_ever = tree (codes "main" ∷ codes "println" ∷ []) (function_item (function (head false (n 0 1 6) ([]) None) (block (at 1 13) (at 1 42) (more_stmts (while (at 1 15) (truth (at 1 21) true) (block (at 1 26) (at 1 40) (more_stmts (express (call (n 1 1 28) (more_exprs (number (at 1 36) (pos 1)) no_exprs))) no_stmts))) no_stmts))) ∷ [])

a_loop_is_cut : run for_ever 3 ≡ gives (piece 2 (line 1) ∷ piece 3 (line 1) ∷ []) Cut 3
a_loop_is_cut = refl

-- func main() { s = 0; foreach i in 1..4 { set s = s + i; set i = 100; println(s); } }
abbrev a_count : Tree
a_count = tree (codes "main" ∷ codes "s" ∷ codes "i" ∷ codes "println" ∷ []) (function_item (function (head false (n 0 1 6) ([]) None) (block (at 1 13) (at 1 84) (more_stmts (declare (n 1 1 15) (number (at 1 19) (pos 0))) (more_stmts (foreach (at 1 22) (n 2 1 30) (number (at 1 35) (pos 1)) (number (at 1 38) (pos 4)) (block (at 1 40) (at 1 82) (more_stmts (express (set (at 1 42) (name (n 1 1 46)) (chain (name (n 1 1 50)) (more_links (link (at 1 52) Add (name (n 2 1 54))) no_links)))) (more_stmts (express (set (at 1 57) (name (n 2 1 61)) (number (at 1 65) (pos 100)))) (more_stmts (express (call (n 3 1 70) (more_exprs (name (n 1 1 78)) no_exprs))) no_stmts))))) no_stmts)))) ∷ [])

-- each turn has the next number, whatever the body sets
numbers_are_counted : run a_count 1000 ≡ gives (piece 2 (line 1) ∷ piece 3 (line 3) ∷ piece 4 (line 6) ∷ []) Done 4
numbers_are_counted = refl

a_count_is_cut : run a_count 3 ≡ gives (piece 2 (line 1) ∷ piece 3 (line 3) ∷ []) Cut 3
a_count_is_cut = refl

-- func main() { foreach i in 9223372036854775806..9223372036854775807 { println(i); } foreach i in 1..0 { println(i); } }
abbrev to_the_greatest : Tree
to_the_greatest = tree (codes "main" ∷ codes "i" ∷ codes "println" ∷ []) (function_item (function (head false (n 0 1 6) ([]) None) (block (at 1 13) (at 1 119)
    (more_stmts (foreach (at 1 15) (n 1 1 23) (number (at 1 28) (pos 9223372036854775806)) (number (at 1 49) (pos 9223372036854775807)) (block (at 1 69) (at 1 83) (more_stmts (express (call (n 2 1 71) (more_exprs (name (n 1 1 79)) no_exprs))) no_stmts)))
    (more_stmts (foreach (at 1 85) (n 1 1 93) (number (at 1 98) (pos 1)) (number (at 1 101) (pos 0)) (block (at 1 103) (at 1 117) (more_stmts (express (call (n 2 1 105) (more_exprs (name (n 1 1 113)) no_exprs))) no_stmts))) no_stmts)))) ∷ [])

-- the counter comes to the greatest int, and no further; where the bound is below the first number, there is no turn
the_greatest_is_no_turn : run to_the_greatest 1000 ≡ gives (piece 2 (line 9223372036854775806) ∷ []) Done 2
the_greatest_is_no_turn = refl

-- func f(k int) int { if k < 2 { return k; } return f(k - 1) + f(k - 2); }
-- func main() {
--   x = 0;
--   while x < 3 { set x = x + 1; if x == 2 { println("two"); } }
--   println(f(3));
--   println(1 / (x - 3));
-- }
abbrev two_functions : Tree
two_functions = tree (codes "f" ∷ codes "k" ∷ codes "main" ∷ codes "x" ∷ codes "println" ∷ [])
    (function_item (function (head false (n 0 1 6) (param (n 1 1 8) (int_type (at 1 10)) ∷ []) (Some (int_type (at 1 15))))
    (block (at 1 19) (at 1 72) (more_stmts (form_stmt (branch (at 1 21) (chain (name (n 1 1 24)) (more_links (link (at 1 26) Less (number (at 1 28) (pos 2))) no_links)) (block (at 1 30) (at 1 42) (more_stmts (return_value (at 1 32) (name (n 1 1 39))) no_stmts)) no_else))
    (more_stmts (return_value (at 1 44) (chain (call (n 0 1 51) (more_exprs (chain (name (n 1 1 53)) (more_links (link (at 1 55) Sub (number (at 1 57) (pos 1))) no_links)) no_exprs)) (more_links (link (at 1 60) Add (call (n 0 1 62) (more_exprs (chain (name (n 1 1 64)) (more_links (link (at 1 66) Sub (number (at 1 68) (pos 2))) no_links)) no_exprs))) no_links))) no_stmts))))
    ∷ function_item (function (head false (n 2 2 6) [] None) (block (at 2 13) (at 7 1)
    (more_stmts (declare (n 3 3 3) (number (at 3 7) (pos 0)))
    (more_stmts (while (at 4 3) (chain (name (n 3 4 9)) (more_links (link (at 4 11) Less (number (at 4 13) (pos 3))) no_links)) (block (at 4 15) (at 4 62) (more_stmts (express (set (at 4 17) (name (n 3 4 21)) (chain (name (n 3 4 25)) (more_links (link (at 4 27) Add (number (at 4 29) (pos 1))) no_links)))) (last (form (branch (at 4 32) (chain (name (n 3 4 35)) (more_links (link (at 4 37) Equal (number (at 4 40) (pos 2))) no_links)) (block (at 4 42) (at 4 60) (more_stmts (express (call (n 4 4 44) (more_exprs (quote (at 4 52) (codes "two")) no_exprs))) no_stmts)) no_else))))))
    (more_stmts (express (call (n 4 5 3) (more_exprs (call (n 0 5 11) (more_exprs (number (at 5 13) (pos 3)) no_exprs)) no_exprs)))
    (more_stmts (express (call (n 4 6 3) (more_exprs (chain (number (at 6 11) (pos 1)) (more_links (link (at 6 13) Div (paren (at 6 15) (chain (name (n 3 6 16)) (more_links (link (at 6 18) Sub (number (at 6 20) (pos 3))) no_links)))) no_links)) no_exprs))) no_stmts))))))
    ∷ [])

-- 1 tick for `main`, 3 for the turns, 5 for the calls
both_run : run two_functions 1000 ≡ gives (piece 3 (codes "two" ++ 10 ∷ []) ∷ piece 9 (line 2) ∷ []) (Trap (record { kind = DivisionByZero; at = at 6 13; frames = in_main ∷ []; more = 0 })) 9
both_run = refl

both_are_cut : run two_functions 8 ≡ gives (piece 3 (codes "two" ++ 10 ∷ []) ∷ []) Cut 8
both_are_cut = refl
