-- A walk over two parts is one over the first and then one over the second.
use Rattle.std.proofs.Common.{◌≡◌, sym, ◌∙◌, ℕ, ◌+◌, ◌-◌, List, [], ◌∷◌, ◌++◌, refl, ap, arith}
use Rattle.std.specs.Prelude.{Result, Ok, Err}
use Rattle.vale_syntax.specs.declared.fault.Fault.{Fault}
use Rattle.vale_rules_spec.specs.Judged.{stopped}
use Rattle.vale_rules_spec.specs.DeclFaults.{Body, nothing, names_here, type_here, ◌▸◌, in_stmt, in_stmts, in_else_if, in_elses}
use Rattle.vale_syntax.specs.Tree.{Item, Stmt, Stmts, no_stmts, more_stmts, ElseIf, Elses, no_else, more_elses}
use Rattle.vale_syntax.specs.View.{listed}
use Rattle.vale_rules_spec.proofs.JudgedLaws.{◌>>=◌}
use Rattle.vale_types.specs.Walk.{walked}

stopped_both : (fs gs : List Fault) (left m n : ℕ) → stopped (fs ++ gs) (left - (m + n)) ≡ (stopped fs (left - m) >>= λ l. stopped gs (l - n))
stopped_both [] gs left m n = let e : left - (m + n) ≡ (left - m) - n = omega arith in ap (stopped gs) e
stopped_both (f ∷ fs) gs left m n = refl

pub walked_then : (a b : Body) (left : ℕ) → walked (a ▸ b) left ≡ (walked a left >>= λ l. walked b l)
walked_then a b left = stopped_both a.faults b.faults left a.declared b.declared

pub walked_nothing : (left : ℕ) → walked nothing left ≡ Ok left
walked_nothing left = ap Ok (omega arith)

pub walked_names : (n left : ℕ) → walked (names_here n) left ≡ Ok (left - n)
walked_names n left = refl

pub walked_type : (fs : List Fault) (left : ℕ) → walked (type_here fs) left ≡ stopped fs left
walked_type fs left = ap (stopped fs) (omega arith)

-- ---- a list with an end of its own: first the list, and then its end

then_same : (r : Result ℕ Fault) (f g k : ℕ → Result ℕ Fault) → ((l : ℕ) → f l ≡ (g l >>= k)) → (r >>= f) ≡ ((r >>= g) >>= k)
then_same (Ok l) f g k same = same l
then_same (Err e) f g k same = refl

nothing_first : (left : ℕ) (k : ℕ → Result ℕ Fault) → k left ≡ (walked nothing left >>= k)
nothing_first left k = let e : left ≡ left - 0 = omega arith in ap k e

pub walked_stmts : (items : List Item) (ss : List Stmt) (end : Stmts) (left : ℕ) → walked (in_stmts items (listed more_stmts ss end)) left ≡ (walked (in_stmts items (listed more_stmts ss no_stmts)) left >>= λ l. walked (in_stmts items end) l)
walked_stmts items [] end left = nothing_first left (walked (in_stmts items end))
walked_stmts items (s ∷ ss) end left =
    walked_then (in_stmt items s) (in_stmts items (listed more_stmts ss end)) left
    ∙ then_same (walked (in_stmt items s) left) (walked (in_stmts items (listed more_stmts ss end))) (walked (in_stmts items (listed more_stmts ss no_stmts))) (walked (in_stmts items end)) (walked_stmts items ss end)
    ∙ sym (ap (λ r. r >>= walked (in_stmts items end)) (walked_then (in_stmt items s) (in_stmts items (listed more_stmts ss no_stmts)) left))

pub walked_elses : (items : List Item) (es : List ElseIf) (end : Elses) (left : ℕ) → walked (in_elses items (listed more_elses es end)) left ≡ (walked (in_elses items (listed more_elses es no_else)) left >>= λ l. walked (in_elses items end) l)
walked_elses items [] end left = nothing_first left (walked (in_elses items end))
walked_elses items (s ∷ ss) end left =
    walked_then (in_else_if items s) (in_elses items (listed more_elses ss end)) left
    ∙ then_same (walked (in_else_if items s) left) (walked (in_elses items (listed more_elses ss end))) (walked (in_elses items (listed more_elses ss no_else))) (walked (in_elses items end)) (walked_elses items ss end)
    ∙ sym (ap (λ r. r >>= walked (in_elses items end)) (walked_then (in_else_if items s) (in_elses items (listed more_elses ss no_else)) left))
