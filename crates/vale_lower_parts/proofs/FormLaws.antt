-- What forms make, by what their parts make.
use Rattle.std.proofs.Common.{◌≡◌, ℕ, ◌+◌, List, [], ◌∷◌, ◌++◌, length, refl, ap, sym, ◌∙◌}
use Rattle.std.specs.Prelude.{Bool, true, false, ◌&&◌}
use Rattle.vale_base.specs.declared.spot.Spot.{Spot}
use Rattle.vale_syntax.specs.declared.tree.NameAt.{NameAt}
use Rattle.vale_rules_spec.specs.Types as y
use Rattle.vale_rules_spec.specs.Typed as t
use Rattle.vale_rules_spec.specs.Typed.{type}
use Rattle.vale_code.specs.declared.instr.Instr.{Instr}
use Rattle.vale_code.specs.declared.instr.Instr.TheVariants as i
use Rattle.vale_core.proofs.ViewLaws as v
use Rattle.vale_lowering.specs.Instructions.{stuck, only_if}
use Rattle.vale_lowering_objects.specs.Scopes.{Gives, void, owner, gives_of, is_value, agree, Scope, Gone, After, comes, then_after, met, may_meet, Around}
use Rattle.vale_lowering_objects.specs.Lowered.{then_code, sides, freeze_code, thaw_code, expr_code, expr_after, block_code, block_after, elses_code, elses_after}
use Rattle.vale_lower_flow.specs.Flow.{Going, emitted, put, arrived, only, mark_of, begun, ended, if_there, turned, joined, after_of}
use Rattle.vale_lower_flow.proofs.PartLaws.{Part, only_is, then_is, nothing_is, sides_is, freeze_is}
use Rattle.vale_lower_parts.specs.declared.branch.Branch.{Branch}
use Rattle.vale_lower_parts.specs.Branches.{branch_ended, branches_ended}
use Rattle.vale_lower_parts.specs.Emitted.{expr_emitted, node_emitted, form_emitted, elses_emitted, block_emitted}
use Rattle.vale_lower_parts.proofs.NodeLaws.{type_by_parts, after_emitted, gone_turned, gone_put}

module _ (a : Around) (h : ℕ) (s : Scope) where
  pub form_is : (x : y.Ty) (q : Gives) (z : t.Form) (f : Going) → node_emitted a x q (t.form z) h s f ≡ form_emitted a x q z h s f
  unfolding node_emitted form_emitted
  form_is x q z f = refl

  -- ---- freezes

  pub pure_is : (x : y.Ty) (q : Gives) (at : Spot) (b : t.Block) (f : Going) → form_emitted a x q (t.pure at b) h s f
      ≡ if_there (λ place g. thaw_code (y.is_owner x) q h) (block_emitted a q b h (h + 1) s (put (i.Freeze at ∷ []) f))
  unfolding form_emitted block_emitted
  pure_is x q at b f = sym (freeze_is at (λ place g. block_code a q b place h (h + 1) s g) (λ g. block_after b (h + 1) s g) (thaw_code (y.is_owner x) q h) f)

  pub iso_is : (x : y.Ty) (q : Gives) (at : Spot) (b : t.Block) (f : Going) → node_emitted a x q (t.iso at b) h s f
      ≡ only (agree q owner) (length f.code) h (if_there (λ place g. i.ThawKeep h h ∷ []) (block_emitted a owner b h (h + 1) s (put (i.Freeze at ∷ []) f)))
  unfolding node_emitted block_emitted
  iso_is x q at b f =
      let one : Part = λ place g. block_code a owner b place h (h + 1) s g in
      let after : Gone → After = λ g. block_after b (h + 1) s g in
      sym (ap (λ z. only (agree q owner) (length f.code) h z) (freeze_is at one after (i.ThawKeep h h ∷ []) f)
      ∙ only_is (λ g. agree q owner) h (λ place g. freeze_code at place (λ place. one place g) (after g) (i.ThawKeep h h ∷ [])) after f)

  pub range_is : (x : y.Ty) (q : Gives) (at : Spot) (n : NameAt) (c e : t.Expr) (b : t.Block) (f : Going) → form_emitted a x q (t.parallel_range at n c e b) h s f ≡ put (stuck h) f
  unfolding form_emitted emitted put
  range_is x q at n c e b f = refl

  pub each_is : (x : y.Ty) (q : Gives) (at : Spot) (n : NameAt) (e : t.Expr) (b : t.Block) (f : Going) → form_emitted a x q (t.parallel_each at n e b) h s f ≡ put (stuck h) f
  unfolding form_emitted emitted put
  each_is x q at n e b f = refl

  -- ---- branches

  -- with what is gone where it begins
  pub if_is : (x : y.Ty) (q : Gives) (at : Spot) (c : t.Expr) (b : t.Block) (es : t.Elses) (f : Going) → form_emitted a x q (t.branch at c b es) h s f ≡ elses_emitted a q (t.more_elses (t.else_if at c b) es) f.gone h s f
  unfolding form_emitted elses_emitted emitted
  if_is x q at c b es f = refl

  pub no_else_is : (q : Gives) (before : Gone) (f : Going) → elses_emitted a q t.no_else before h s f ≡ only (agree q void) (length f.code) h (arrived f)
  unfolding elses_emitted
  no_else_is q before f =
      sym (ap (λ z. only (agree q void) (length f.code) h z) (nothing_is f) ∙ only_is (λ g. agree q void) h (λ place g. []) (λ g. comes g) f)

  pub otherwise_is : (q : Gives) (before : Gone) (b : t.Block) (f : Going) → elses_emitted a q (t.otherwise b) before h s f ≡ block_emitted a q b h (h + 1) s f
  unfolding elses_emitted block_emitted
  otherwise_is q before b f = refl

  module _ (q : Gives) (before : Gone) (at : Spot) (c : t.Expr) (b : t.Block) (es : t.Elses) where
    -- behind the test: the block, and then what stands on the other side
    abbrev pub block_side : Going → Going
    block_side f2 = block_emitted a q b h (h + 1) s (put (i.Jump 0 ∷ []) f2)

    abbrev pub other_side : Going → Going
    other_side f2 = elses_emitted a q es before h s (turned (length f2.code) h f2.gone (block_side f2))

    abbrev pub both_sides : Going → Going
    both_sides f2 =
        let f3 = block_side f2 in
        let f5 = other_side f2 in
        only (may_meet s (after_of f3.comes f3.gone) (after_of f5.comes f5.gone)) (length f2.code) h (joined f3.comes (length f3.code) before (after_of f3.comes f3.gone) f5)

    both_is : (f2 : Going) → both_sides f2 ≡ emitted (λ place now. only_if (may_meet s (block_after b (h + 1) s now) (elses_after es before h s now)) h
        (sides place h (block_after b (h + 1) s now) (λ place. block_code a q b place h (h + 1) s now) (λ place. elses_code a q es before place h s now)))
        (λ now. met before (block_after b (h + 1) s now) (elses_after es before h s now)) f2
    unfolding block_emitted elses_emitted
    both_is f2 =
        let one : Part = λ place g. block_code a q b place h (h + 1) s g in
        let x : Gone → After = λ g. block_after b (h + 1) s g in
        let two : Part = λ place g. elses_code a q es before place h s g in
        let y : Gone → After = λ g. elses_after es before h s g in
        let n = length f2.code in
        let f3 = emitted one x (put (i.Jump 0 ∷ []) f2) in
        let f4 = turned n h f2.gone f3 in
        let f5 = emitted two y f4 in
        let ex : after_of f3.comes f3.gone ≡ x f2.gone = after_emitted one x (put (i.Jump 0 ∷ []) f2) ∙ ap x (gone_put (i.Jump 0 ∷ []) f2) in
        let ey : after_of f5.comes f5.gone ≡ y f2.gone = after_emitted two y f4 ∙ ap y (gone_turned n h f2.gone f3) in
        let whole = joined f3.comes (length f3.code) before (after_of f3.comes f3.gone) f5 in
        ap (λ z. only (may_meet s z (after_of f5.comes f5.gone)) n h whole) ex
        ∙ ap (λ z. only (may_meet s (x f2.gone) z) n h whole) ey
        ∙ ap (λ z. only (may_meet s (x f2.gone) (y f2.gone)) n h z) (sides_is h one two x y before f2)
        ∙ only_is (λ now. may_meet s (x now) (y now)) h (λ place now. sides place h (x now) (λ place. one place now) (λ place. two place now)) (λ now. met before (x now) (y now)) f2

    pub branch_is : (f : Going) →
        let f1 = expr_emitted a c h s f in
        only (is_value (gives_of (type c))) (length f.code) h (ended (mark_of f1) (both_sides (begun (h + 1) f1)))
        ≡ elses_emitted a q (t.more_elses (t.else_if at c b) es) before h s f
    unfolding expr_emitted elses_emitted
    branch_is f =
        let one : Part = λ place g. expr_code a c place h s g in
        let x : Gone → After = λ g. expr_after c h s g in
        let two : Part = λ place now. only_if (may_meet s (block_after b (h + 1) s now) (elses_after es before h s now)) h
        (sides place h (block_after b (h + 1) s now) (λ place. block_code a q b place h (h + 1) s now) (λ place. elses_code a q es before place h s now)) in
        let y : Gone → After = λ now. met before (block_after b (h + 1) s now) (elses_after es before h s now) in
        let f1 = emitted one x f in
        let ok = is_value (gives_of (type c)) in
        ap (λ z. only ok (length f.code) h (ended (mark_of f1) z)) (both_is (begun (h + 1) f1))
        ∙ ap (λ z. only ok (length f.code) h z) (then_is (h + 1) one two x y f)
        ∙ only_is (λ g. ok) h (λ place g. then_code place (h + 1) (one place g) (x g) two) (λ g. then_after (x g) y) f

-- one branch more
pub branches_more : (bs : List Branch) (b : Branch) (h : ℕ) (s : Scope) (before : Gone) (f : Going) → branches_ended (bs ++ b ∷ []) h s before f ≡ branches_ended bs h s before (branch_ended b h s before f)
branches_more [] b h s before f = refl
branches_more (x ∷ bs) b h s before f = ap (λ z. branch_ended x h s before z) (branches_more bs b h s before f)

pub ruleset ends = (branches_more)

pub ruleset forms = (v.of_pure, v.of_parallel_range, v.of_parallel_each, pure_is, range_is, each_is)

pub ruleset isos = (iso_is)

pub ruleset elses = (no_else_is, otherwise_is)
