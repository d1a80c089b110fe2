-- An `if`, part by part: its condition, its first block, what stands after it, and its end.
use Rattle.std.proofs.Common.{◌≡◌, ℕ, List, [], ◌∷◌, refl, sym, ap, ◌∙◌}
use Rattle.std.specs.Prelude.{Result, Ok, Err, Option, None, map, option_map, true}
use Rattle.vale_base.specs.declared.spot.Spot.{Spot}
use Rattle.vale_base.specs.declared.fault.Fail.{Fail}
use Rattle.vale_base.specs.declared.fault.Fail.TheVariants.{Memory, Is}
use Rattle.vale_syntax.specs.declared.fault.Fault.{Fault}
use Rattle.vale_syntax.specs.declared.tree.Expr.{Expr}
use Rattle.vale_syntax.specs.declared.tree.Block.{Block}
use Rattle.vale_syntax.specs.declared.tree.ElseIf.{ElseIf}
use Rattle.vale_syntax.specs.declared.tree.Form.TheVariants as f
use Rattle.vale_rules_spec.specs.Judged.{broken, first, leaf, Gives}
use Rattle.vale_syntax.specs.Tree as e
use Rattle.vale_syntax.specs.Tree.{Item}
use Rattle.vale_rules_spec.specs.Types as y
use Rattle.vale_rules_spec.specs.TypeRules.{branch_rules}
use Rattle.vale_rules_spec.specs.Typed as t
use Rattle.vale_rules_spec.specs.Typed.{type, block_type, condition_types, block_types, has_else}
use Rattle.vale_rules_spec.specs.Typing.{Env, expr, in_form, in_else_if, in_block, elses}
use Rattle.vale_syntax.specs.View.{listed, view_expr, view_form, view_block, view_else_if, elses_of, else_end}
use Rattle.vale_rules_spec.proofs.JudgedLaws.{◌>>=◌, meets, first_leaf}
use Rattle.vale_syntax.proofs.ViewLaws.{of_if}
use Rattle.vale_typed_parts.proofs.LoopLaws.{with_parts, no_parts, first_pair}
use Rattle.vale_typing.proofs.NodeLaws.{third_left}

one_more : (z : Result t.Elses Fault) (a : t.ElseIf) (xs : List t.ElseIf) → (with_parts t.more_elses xs z >>= λ b. Ok (t.more_elses a b)) ≡ with_parts t.more_elses (a ∷ xs) z
one_more (Ok b) a xs = refl
one_more (Err f) a xs = refl

-- the first of them and the others have no fault
step_passes : (r : Result t.ElseIf Fault) (some all z : Result t.Elses Fault) (xs : List t.ElseIf) → ((ys : List t.ElseIf) → some ≡ Ok (listed t.more_elses ys t.no_else) → all ≡ with_parts t.more_elses ys z) → (r >>= λ a. some >>= λ b. Ok (t.more_elses a b)) ≡ Ok (listed t.more_elses xs t.no_else) → (r >>= λ a. all >>= λ b. Ok (t.more_elses a b)) ≡ with_parts t.more_elses xs z
step_passes (Err g) some all z xs more h = cc
step_passes (Ok a) (Err g) all z xs more h = cc
step_passes (Ok a) (Ok b) all z [] more h = cc
step_passes (Ok a) (Ok b) all z (x ∷ xs) more h =
    let same : a ≡ x = cc in
    let others : Ok b ≡ Ok (listed t.more_elses xs t.no_else) = cc in
    rw (more xs others, same) (one_more z x xs)

step_fails : (r : Result t.ElseIf Fault) (some all : Result t.Elses Fault) (g : Fault) → (some ≡ Err g → all ≡ Err g) → (r >>= λ a. some >>= λ b. Ok (t.more_elses a b)) ≡ Err g → (r >>= λ a. all >>= λ b. Ok (t.more_elses a b)) ≡ Err g
step_fails (Err e) some all g more h = h
step_fails (Ok a) (Ok b) all g more h = cc
step_fails (Ok a) (Err e) all g more h = rw (more h) refl

module _ (names : List (List ℕ)) (items : List Item) (env : Env) where
  elses_pass : (es : List e.ElseIf) (o : e.Elses) (xs : List t.ElseIf) → first (elses names items env (listed e.more_elses es e.no_else)) ≡ Ok (listed t.more_elses xs t.no_else) → first (elses names items env (listed e.more_elses es o)) ≡ with_parts t.more_elses xs (first (elses names items env o))
  elses_pass [] o [] h = sym (no_parts t.more_elses (first (elses names items env o)))
  elses_pass [] o (x ∷ xs) h = cc
  elses_pass (s ∷ es) o xs h =
      first_pair (λ v. t.more_elses v.0 v.1) (in_else_if names items env s) (elses names items env (listed e.more_elses es o))
      ∙ step_passes (first (in_else_if names items env s)) (first (elses names items env (listed e.more_elses es e.no_else))) (first (elses names items env (listed e.more_elses es o))) (first (elses names items env o)) xs (elses_pass es o) (sym (first_pair (λ v. t.more_elses v.0 v.1) (in_else_if names items env s) (elses names items env (listed e.more_elses es e.no_else))) ∙ h)

  elses_fail : (es : List e.ElseIf) (o : e.Elses) (g : Fault) → first (elses names items env (listed e.more_elses es e.no_else)) ≡ Err g → first (elses names items env (listed e.more_elses es o)) ≡ Err g
  elses_fail [] o g h = cc
  elses_fail (s ∷ es) o g h =
      first_pair (λ v. t.more_elses v.0 v.1) (in_else_if names items env s) (elses names items env (listed e.more_elses es o))
      ∙ step_fails (first (in_else_if names items env s)) (first (elses names items env (listed e.more_elses es e.no_else))) (first (elses names items env (listed e.more_elses es o))) g (elses_fail es o g) (sym (first_pair (λ v. t.more_elses v.0 v.1) (in_else_if names items env s) (elses names items env (listed e.more_elses es e.no_else))) ∙ h)

  -- an `if` whose condition and first block have no fault
  module _ (at : Spot) (c : Expr) (b : Block) (es ds : List ElseIf) (o : Option Block) (x : t.Expr) (w : t.Block) (same : ds ≡ es) (p : first (expr names items env true (view_expr c)) ≡ Ok x) (q : first (in_block names items env (view_block b)) ≡ Ok w) where
    abbrev whole : Result (y.Ty × t.Form) Fault
    whole = first (in_form names items env (view_form (f.If at c b es o)))

    abbrev over : t.Elses → Result (y.Ty × t.Form) Fault
    over zs = meets at (broken (branch_rules (type x ∷ condition_types zs) (block_type w) (block_types zs) (has_else zs))) (block_type w, t.branch at x w zs)

    in_parts : whole ≡ (first (elses names items env (listed e.more_elses (map view_else_if ds) (else_end (option_map view_block o)))) >>= over)
    in_parts =
        ap (λ (form : e.Form). first (in_form names items env form)) (of_if at c b es o)
        ∙ third_left at (λ v. branch_rules (type v.0 ∷ condition_types v.1.1) (block_type v.1.0) (block_types v.1.1) (has_else v.1.1)) (λ v. (block_type v.1.0, t.branch at v.0 v.1.0 v.1.1)) (expr names items env true (view_expr c)) (in_block names items env (view_block b)) (elses names items env (elses_of (map view_else_if es) (option_map view_block o))) x w p q
        ∙ ap (λ (ss : List ElseIf). first (elses names items env (listed e.more_elses (map view_else_if ss) (else_end (option_map view_block o)))) >>= over) (sym same)

    pub else_ifs_fail : {X Z : Type 0} (view : X → y.Ty × t.Form) (seen : Z → t.Elses) (fail : Fail Fault) → Gives seen (Err fail) (first (elses names items env (elses_of (map view_else_if ds) None))) → Gives view (Err fail) whole
    else_ifs_fail view seen Memory h = tt {0}
    else_ifs_fail view seen (Is g) h = in_parts ∙ (rw (elses_fail (map view_else_if ds) (else_end (option_map view_block o)) g h) refl)

    pub end_fails : {X Z : Type 0} (view : X → y.Ty × t.Form) (seen : Z → t.Elses) (fail : Fail Fault) (zs : List t.ElseIf) → first (elses names items env (elses_of (map view_else_if ds) None)) ≡ Ok (listed t.more_elses zs t.no_else) → Gives seen (Err fail) (first (elses names items env (else_end (option_map view_block o)))) → Gives view (Err fail) whole
    end_fails view seen Memory zs h k = tt {0}
    end_fails view seen (Is g) zs h k = in_parts ∙ (rw (elses_pass (map view_else_if ds) (else_end (option_map view_block o)) zs h, k) refl)

    pub if_ends : (zs : List t.ElseIf) (z : t.Elses) → first (elses names items env (elses_of (map view_else_if ds) None)) ≡ Ok (listed t.more_elses zs t.no_else) → first (elses names items env (else_end (option_map view_block o))) ≡ Ok z → whole ≡ first (leaf at (branch_rules (type x ∷ condition_types (listed t.more_elses zs z)) (block_type w) (block_types (listed t.more_elses zs z)) (has_else (listed t.more_elses zs z))) (block_type w, t.branch at x w (listed t.more_elses zs z)))
    if_ends zs z h k = in_parts ∙ (rw (elses_pass (map view_else_if ds) (else_end (option_map view_block o)) zs h, k) (sym (first_leaf at (branch_rules (type x ∷ condition_types (listed t.more_elses zs z)) (block_type w) (block_types (listed t.more_elses zs z)) (has_else (listed t.more_elses zs z))) (block_type w, t.branch at x w (listed t.more_elses zs z)))))
