-- What loops over numbers make, by what their parts make.
use Rattle.std.proofs.Common.{◌≡◌, ℕ, ◌+◌, List, [], ◌∷◌, length, ap, ◌∙◌}
use Rattle.std.specs.Prelude.{◌&&◌, pos}
use Rattle.vale_base.specs.declared.spot.Spot.{Spot}
use Rattle.vale_syntax.specs.declared.tree.NameAt.{NameAt}
use Rattle.vale_rules_spec.specs.Typed as t
use Rattle.vale_rules_spec.specs.Typed.{type}
use Rattle.vale_code.specs.declared.instr.Instr.{Instr}
use Rattle.vale_code.specs.declared.instr.Instr.TheVariants as i
use Rattle.vale_lowering.specs.Instructions.{only_if, loop_code}
use Rattle.vale_lowering_objects.specs.Scopes.{void, gives_of, is_value, Scope, Gone, without, After, comes, then_after, closes, Around}
use Rattle.vale_lowering_objects.specs.Lowered.{then_code, if_comes, count_code, expr_code, expr_after, block_code, block_after}
use Rattle.vale_lower_flow.specs.Flow.{Going, after_of, emitted, put, back_to, filled, only, mark_of, begun, ended, if_there, looped}
use Rattle.vale_lower_flow.proofs.PartLaws.{Part, only_is, then_is, there_is, put_is, put_then, fill_then, loop_is}
use Rattle.vale_lower_parts.specs.Emitted.{expr_emitted, block_emitted, stmt_emitted}
use Rattle.vale_lower_parts.proofs.NodeLaws.{leaves_same, then_nothing, after_emitted}
use Rattle.vale_lower_stmts.specs.Counted.{turn_scope, count_emitted}

module _ (a : Around) (at : Spot) (n : ℕ) (b : t.Block) (h : ℕ) (s : Scope) where
  -- a turn, with the counter's copy in its register
  abbrev pub counted_body : Going → Going
  counted_body f = block_emitted a void b h (h + 2 + 1) (turn_scope a at n b h s) (filled (h + 2) (put (i.Copy (h + 2) h ∷ []) (put (i.Tick ∷ []) (put (i.Jump 0 ∷ []) f))))

  -- the counter goes on, where a run comes after the turn
  abbrev pub counted_on : Going → Going
  counted_on f = if_there (λ place g. i.Int (h + 2) (pos 1) ∷ i.Add h h (h + 2) at ∷ []) (counted_body f)

  pub count_is : (f : Going) →
      let f1 = put (i.Sub (h + 2) h h at ∷ []) f in
      let f4 = counted_body f1 in
      let f5 = counted_on f1 in
      only (closes s f.gone (after_of f4.comes f4.gone)) (length f.code) h (looped (length f1.code) (length f5.code) (h + 2) f.gone (put (i.Cmp (h + 2) 2 h (h + 1) ∷ []) (back_to f.gone f5)))
      ≡ count_emitted a at n b h s f
  unfolding block_emitted count_emitted put emitted back_to looped only
  count_is f =
      let inner : Scope = turn_scope a at n b h s in
      let body : Part = λ place g. block_code a void b place h (h + 2 + 1) inner (without (h + 2) g) in
      let z : Gone → After = λ g. block_after b (h + 2 + 1) inner (without (h + 2) g) in
      let ends : Part = λ place g. i.Int (h + 2) (pos 1) ∷ i.Add h h (h + 2) at ∷ [] in
      let test : List Instr = i.Cmp (h + 2) 2 h (h + 1) ∷ [] in
      let f1 : Going = put (i.Sub (h + 2) h h at ∷ []) f in
      let f2 : Going = put (i.Tick ∷ []) (put (i.Jump 0 ∷ []) f1) in
      let f3 : Going = put (i.Copy (h + 2) h ∷ []) f2 in
      let f4 : Going = counted_body f1 in
      let turn : Part = λ place g. if_comes place (body place g) (z g) ends in
      let one : Part = λ place g. i.Copy (h + 2) h ∷ turn (place + 1) g in
      let loop : Part = λ place g. loop_code place (h + 2) (λ place. test) (λ place. one place g) in
      let e4 : f4 ≡ emitted body z f3 = fill_then (h + 2) (λ place g. block_code a void b place h (h + 2 + 1) inner g) (λ g. block_after b (h + 2 + 1) inner g) f3 in
      let e5 : counted_on f1 ≡ emitted one z f2 = ap (λ q. if_there ends q) e4 ∙ there_is ends body z f3 ∙ put_then (i.Copy (h + 2) h ∷ []) turn z f2 in
      let closing : closes s f.gone (after_of f4.comes f4.gone) ≡ closes s f.gone (z f.gone) = ap (λ q. closes s f.gone (after_of q.comes q.gone)) e4 ∙ ap (λ q. closes s f.gone q) (after_emitted body z f3) in
      let turns : Going → Going = λ q. looped (length f1.code) (length q.code) (h + 2) f.gone (put test (back_to f.gone q)) in
      ap (λ k. only k (length f.code) h (turns (counted_on f1))) closing
      ∙ ap (λ q. only (closes s f.gone (z f.gone)) (length f.code) h (turns q)) e5
      ∙ ap (λ q. only (closes s f.gone (z f.gone)) (length f.code) h (looped (length f1.code) (length (emitted one z f2).code) (h + 2) f.gone q)) (put_is test (back_to f.gone (emitted one z f2)))
      ∙ ap (λ q. only (closes s f.gone (z f.gone)) (length f.code) h q) (loop_is (h + 2) (λ place g. test) one (λ g. comes g) z f1 ∙ put_then (i.Sub (h + 2) h h at ∷ []) loop (λ g. comes g) f)
      ∙ only_is (λ g. closes s g (z g)) h (λ place g. count_code place h at (z g) (λ place. body place g)) (λ g. comes g) f

module _ (a : Around) (h : ℕ) (s : Scope) where
  pub foreach_is : (at : Spot) (n : NameAt) (c e : t.Expr) (b : t.Block) (f : Going) →
      let f1 = expr_emitted a c h s f in
      let f2 = expr_emitted a e (h + 1) s (begun (h + 1) f1) in
      only (is_value (gives_of (type c)) && is_value (gives_of (type e))) (length f.code) h (ended (mark_of f1) (ended (mark_of f2) (count_emitted a at n.name.0 b h s (begun (h + 2) f2))))
      ≡ stmt_emitted a (t.foreach at n c e b) h s f
  unfolding stmt_emitted expr_emitted count_emitted
  foreach_is at n c e b f =
      let one : Part = λ place g. expr_code a c place h s g in
      let x : Gone → After = λ g. expr_after c h s g in
      let two : Part = λ place g. expr_code a e place (h + 1) s g in
      let y : Gone → After = λ g. expr_after e (h + 1) s g in
      let z : Gone → After = λ g. block_after b (h + 2 + 1) (turn_scope a at n.name.0 b h s) (without (h + 2) g) in
      let three : Part = λ place g. only_if (closes s g (z g)) h (count_code place h at (z g) (λ place. block_code a void b place h (h + 2 + 1) (turn_scope a at n.name.0 b h s) (without (h + 2) g))) in
      let rest : Part = λ place g. then_code place (h + 2) (two place g) (y g) three in
      let ok = is_value (gives_of (type c)) && is_value (gives_of (type e)) in
      let f1 = emitted one x f in
      let whole : Part = λ place g. then_code place (h + 1) (one place g) (x g) rest in
      ap (λ q. only ok (length f.code) h (ended (mark_of f1) q)) (then_is (h + 2) two three y (λ g. comes g) (begun (h + 1) f1) ∙ leaves_same rest (λ g. then_after (y g) (λ g. comes g)) y (begun (h + 1) f1) (then_nothing (y (begun (h + 1) f1).gone)))
      ∙ ap (λ q. only ok (length f.code) h q) (then_is (h + 1) one rest x y f)
      ∙ only_is (λ g. ok) h whole (λ g. then_after (x g) y) f
