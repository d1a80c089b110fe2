-- How the walk goes through operators.
use Rattle.std.proofs.Common.{◌≡◌, ℕ, zero, suc, ◌+◌, ◌<◌, pos, List, [], ◌∷◌, ◌++◌, length, Some, Bool, true, false, ◌&&◌, refl, sym, ap, ◌∙◌, subst, ⊎_elim, ◌⊎◌, inl, inr, arith}
use Rattle.std.proofs.lemmas.Bool.{and_parts}
use Rattle.vale_base.specs.declared.spot.Spot.{Spot}
use Rattle.vale_syntax.specs.declared.tree.BinaryOp.{BinaryOp}
use Rattle.vale_syntax.specs.declared.tree.BinaryOp.TheVariants as op
use Rattle.vale_syntax.specs.declared.tree.UnaryOp.{UnaryOp}
use Rattle.vale_syntax.specs.declared.tree.UnaryOp.TheVariants as unary
use Rattle.vale_rules_spec.specs.Types.{Ty}
use Rattle.vale_rules_spec.specs.Types as y
use Rattle.vale_rules_spec.specs.TypeRules.{is_int, is_bool, have_order, have_equality, takes_operands, link_gives}
use Rattle.vale_rules_spec.specs.Typed.{Expr, type}
use Rattle.vale_rules_spec.specs.Typing.{Env}
use Rattle.vale_code.specs.declared.instr.Instr.{Instr}
use Rattle.vale_code.specs.declared.instr.Instr.TheVariants as i
use Rattle.vale_code.specs.declared.ty.Ty.{Ty as CodeTy}
use Rattle.vale_code.specs.declared.ty.Ty.TheVariants as t
use Rattle.vale_cert.specs.Rules.{is_ordered}
use Rattle.vale_served_spec.specs.Served.{unary_is_served}
use Rattle.vale_lowering.specs.Instructions.{only_if, link_code, unary_code}
use Rattle.vale_lowering.specs.Lowered.{value_code}
use Rattle.vale_lowering.specs.Scopes.{Around, code_type}
use Rattle.vale_lower_facts.specs.Slots.{holds, Stand, scope_at, with_slot, given, behind, type_at}
use Rattle.vale_rules_spec.specs.Returns.{expr_returns}
use Rattle.vale_lower_facts.specs.Marks.{Marks, mark, only_marks, marked, link_due, link_marks, value_due, value_marks}
use Rattle.vale_lower_facts.specs.WellTyped.{unary_is_well_typed}
use Rattle.vale_lower_facts.proofs.Stands.{Site, Below, below_slot, type_here, type_there, Says, says_same, says_then, says_slot, says_with, says_behind}
use Rattle.vale_lower_facts.proofs.Runs.{Runs, nothing, runs_less, both}
use Rattle.vale_lower_facts.proofs.Ways.{if_runs, and_runs}
use Rattle.vale_lower_facts.proofs.Rows.{int_runs, add_runs, sub_runs, mul_runs, div_runs, rem_runs, join_runs, cmp_runs, not_runs}
use Rattle.vale_lower_facts.proofs.Names.{copies_too, Stands, stands_holds}

-- ---- types of operands

pub order_types : (x z : Ty) → have_order x z ≡ true → ((x ≡ y.int) × (z ≡ y.int)) ⊎ ((x ≡ y.str) × (z ≡ y.str))
order_types y.int y.int e = inl (refl, refl)
order_types y.str y.str e = inr (refl, refl)
order_types _ _ e = let f : ⊥ = cc in absurd f

pub int_type : (x : Ty) → is_int x ≡ true → x ≡ y.int
int_type y.int e = refl
int_type _ e = let f : ⊥ = cc in absurd f

pub bool_type : (x : Ty) → is_bool x ≡ true → x ≡ y.bool
bool_type y.bool e = refl
bool_type _ e = let f : ⊥ = cc in absurd f

-- values that are compared
pub record Alike (most : ℕ) (x z : Ty) : Type 0 where
  pub same : z ≡ x
  pub copy : y.is_copy x ≡ true
  pub ordered : (choice : ℕ) → choice < most → is_ordered choice (code_type x) ≡ true

order_alike : (x z : Ty) → have_order x z ≡ true → Alike 6 x z
order_alike x z e =
    ⊎_elim
    (λ both. subst (λ x. Alike 6 x z) (sym both.0) (record { same = both.1; copy = refl; ordered = λ c lt. refl }))
    (λ both. subst (λ x. Alike 6 x z) (sym both.0) (record { same = both.1; copy = refl; ordered = λ c lt. refl }))
    (order_types x z e)

truth_ordered : (choice : ℕ) → choice < 2 → is_ordered choice t.Truth ≡ true
truth_ordered zero lt = refl
truth_ordered (suc zero) lt = refl
truth_ordered (suc (suc n)) lt = absurd (omega (arith, lt))

equality_alike : (x z : Ty) → have_equality x z ≡ true → Alike 2 x z
equality_alike y.bool y.bool e = record { same = refl; copy = refl; ordered = truth_ordered }
equality_alike y.int y.int e = record { same = refl; copy = refl; ordered = λ c lt. refl }
equality_alike y.str y.str e = record { same = refl; copy = refl; ordered = λ c lt. refl }
equality_alike _ _ e = let f : ⊥ = cc in absurd f

pub record Copies (x z : Ty) : Type 0 where
  pub first_copy : y.is_copy x ≡ true
  pub second_copy : y.is_copy z ≡ true

from_alike : {most : ℕ} (x z : Ty) → Alike most x z → Copies x z
from_alike x z a = record { first_copy = a.copy; second_copy = ap y.is_copy a.same ∙ a.copy }

from_ints : (x z : Ty) → (is_int x && is_int z) ≡ true → Copies x z
from_ints x z e = let p = and_parts (is_int x) (is_int z) e in record { first_copy = ap y.is_copy (int_type x p.0); second_copy = ap y.is_copy (int_type z p.1) }

from_bools : (x z : Ty) → (is_bool x && is_bool z) ≡ true → Copies x z
from_bools x z e = let p = and_parts (is_bool x) (is_bool z) e in record { first_copy = ap y.is_copy (bool_type x p.0); second_copy = ap y.is_copy (bool_type z p.1) }

pub operands_copy : (o : BinaryOp) (x z : Ty) → takes_operands o x z ≡ true → Copies x z
operands_copy op.Or x z e = from_bools x z e
operands_copy op.And x z e = from_bools x z e
operands_copy op.Equal x z e = from_alike x z (equality_alike x z e)
operands_copy op.NotEqual x z e = from_alike x z (equality_alike x z e)
operands_copy op.Less x z e = from_alike x z (order_alike x z e)
operands_copy op.LessEqual x z e = from_alike x z (order_alike x z e)
operands_copy op.Greater x z e = from_alike x z (order_alike x z e)
operands_copy op.GreaterEqual x z e = from_alike x z (order_alike x z e)
operands_copy op.Add x z e = from_alike x z (order_alike x z e)
operands_copy op.Sub x z e = from_ints x z e
operands_copy op.Mul x z e = from_ints x z e
operands_copy op.Div x z e = from_ints x z e
operands_copy op.Rem x z e = from_ints x z e

pub gives_copy : (o : BinaryOp) (x : Ty) → y.is_copy x ≡ true → y.is_copy (link_gives o x) ≡ true
gives_copy op.Or x e = refl
gives_copy op.And x e = refl
gives_copy op.Equal x e = refl
gives_copy op.NotEqual x e = refl
gives_copy op.Less x e = refl
gives_copy op.LessEqual x e = refl
gives_copy op.Greater x e = refl
gives_copy op.GreaterEqual x e = refl
gives_copy op.Add x e = e
gives_copy op.Sub x e = refl
gives_copy op.Mul x e = refl
gives_copy op.Div x e = refl
gives_copy op.Rem x e = refl

module _ (k : Site) where
  -- ---- code that is chosen

  pub chosen : {p : ℕ} {cs : List Instr} {ms : Marks} {due d : Bool} {s u : Stand} (b : Bool) (h : ℕ) → b ≡ true → Runs k p cs ms due s d u → Runs k p (only_if b h cs) ms due s d u
  chosen true h e x = x
  chosen false h e x = absurd (cc)

  pub chosen_too : {p : ℕ} {cs : List Instr} {ms : Marks} {due d : Bool} {s u : Stand} (b : Bool) (h : ℕ) → b ≡ true → Runs k p cs ms due s d u → Runs k p (only_if b h cs) (only_marks b due s ms) due s d u
  chosen_too true h e x = x
  chosen_too false h e x = absurd (cc)

  pub chosen_marked : {p : ℕ} (cs : List Instr) {due d : Bool} {s u : Stand} (b : Bool) (h : ℕ) → b ≡ true → Runs k p cs (marked due s cs) due s d u → Runs k p (only_if b h cs) (marked due s (only_if b h cs)) due s d u
  chosen_marked cs true h e x = x
  chosen_marked cs false h e x = absurd (cc)

  pub runs_due : {p : ℕ} {cs : List Instr} {ms : Marks} {due d e : Bool} {s u : Stand} → d ≡ e → Runs k p cs ms due s d u → Runs k p cs ms due s e u
  runs_due {p} {cs} {ms} {due} {s = s} {u} q x = subst (λ d. Runs k p cs ms due s d u) q x

  pub as_given : {p : ℕ} {cs : List Instr} {ms : Marks} {due d : Bool} {s u : Stand} (b : Bool) (h : ℕ) (ty : Ty) → b ≡ true → Runs k p cs ms due s d (with_slot (holds h ty) u) → Runs k p cs ms due s d (given b h ty u)
  as_given true h ty e x = x
  as_given false h ty e x = absurd (cc)

  -- ---- two operands

  abbrev pub two : ℕ → Ty → Ty → Stand → Stand
  two h x z s = with_slot (holds (h + 1) z) (with_slot (holds h x) s)

  pub below_two : {h : ℕ} {s : Stand} (x z : Ty) → Below k h s → Below k (h + 1 + 1) (two h x z s)
  below_two {h} x z b = below_slot k (holds (h + 1) z) (below_slot k (holds h x) b)

  pub says_two : {h : ℕ} {s : Stand} (x z : Ty) → Below k h s → Says k (two h x z s) s
  says_two {h} x z b = says_then k (says_slot k (holds (h + 1) z) (below_slot k (holds h x) b)) (says_slot k (holds h x) b)

  pub first_of : (h : ℕ) (s : Stand) (x z : Ty) → type_at k.last (two h x z s) h ≡ Some (code_type x)
  first_of h s x z = type_there k (holds (h + 1) z) (with_slot (holds h x) s) h (omega arith) ∙ type_here k (holds h x) s h refl

  pub second_of : (h : ℕ) (s : Stand) (x z : Ty) → type_at k.last (two h x z s) (h + 1) ≡ Some (code_type z)
  second_of h s x z = type_here k (holds (h + 1) z) (with_slot (holds h x) s) (h + 1) refl

  module _ (a : Around) (env : Env) (e : Expr) where
    abbrev pub Operand : Type 0
    Operand = (p h : ℕ) (s : Stand) (due : Bool) → Stands k env h s → Runs k p (value_code a e p h (scope_at s)) (value_marks a e h s due) due s (value_due e) (with_slot (holds h (type e)) (behind (expr_returns e) s))

    abbrev LinkRuns : BinaryOp → Ty → Ty → Spot → ℕ → ℕ → Stand → Bool → Type 0
    LinkRuns o x z at p h s due =
        Runs k p (link_code o z at (λ place h. value_code a e place h (scope_at s)) p h) (link_marks o x (type e) (value_due e) (λ h s due. value_marks a e h s due) h s due) due (with_slot (holds h x) s) (link_due o) (with_slot (holds h z) s)

    module _ (operand : Operand) (p h : ℕ) (s : Stand) (due : Bool) (st : Stands k env h s) where
      -- an operator that is one instruction
      plain : (x z : Ty) (instr : Instr) → ((q : ℕ) (d : Bool) → Runs k q (instr ∷ []) (mark d (two h x (type e) s) ∷ []) d (two h x (type e) s) false (with_slot (holds h z) s))
          → Runs k p (value_code a e p (h + 1) (scope_at s) ++ (instr ∷ [])) (value_marks a e (h + 1) (with_slot (holds h x) s) due ++ (mark (value_due e) (two h x (type e) s) ∷ [])) due (with_slot (holds h x) s) false (with_slot (holds h z) s)
      plain x z instr does =
          both k
          (runs_less k (operand p (h + 1) (with_slot (holds h x) s) due (stands_holds k x st))
          (says_with k (holds (h + 1) (type e)) (holds (h + 1) (type e)) refl refl (says_behind k (with_slot (holds h x) s) (expr_returns e))))
          (does (p + length (value_code a e p (h + 1) (scope_at s))) (value_due e))

      has_first : (x : Ty) (ty : CodeTy) → code_type x ≡ ty → type_at k.last (two h x (type e) s) h ≡ Some ty
      has_first x ty q = first_of h s x (type e) ∙ ap Some q

      has_second : (x : Ty) (ty : CodeTy) → code_type (type e) ≡ ty → type_at k.last (two h x (type e) s) (h + 1) ≡ Some ty
      has_second x ty q = second_of h s x (type e) ∙ ap Some q

      compares : (choice most : ℕ) (x : Ty) → choice < 6 → choice < most → Alike most x (type e) → (q : ℕ) (d : Bool) → Runs k q (i.Cmp h choice h (h + 1) ∷ []) (mark d (two h x (type e) s) ∷ []) d (two h x (type e) s) false (with_slot (holds h y.bool) s)
      compares choice most x few less al q d =
          cmp_runs k h choice h (h + 1) (code_type x) few (al.ordered choice less) (copies_too x al.copy) (has_first x (code_type x) refl) (has_second x (code_type x) (ap code_type al.same)) (says_two x (type e) st.below)

      ints : (x z : Ty) → (is_int x && is_int z) ≡ true → (x ≡ y.int) × (z ≡ y.int)
      ints x z q = let w = and_parts (is_int x) (is_int z) q in (int_type x w.0, int_type z w.1)

      adds : (x z : Ty) (at : Spot) → z ≡ x → ((x ≡ y.int) × (type e ≡ y.int)) ⊎ ((x ≡ y.str) × (type e ≡ y.str)) → LinkRuns op.Add x z at p h s due
      adds x z at g (inl w) =
          subst (λ z. LinkRuns op.Add x z at p h s due) (sym (g ∙ w.0))
          (plain x y.int (i.Add h h (h + 1) at) (λ q d. add_runs k h h (h + 1) at (has_first x t.Int (ap code_type w.0)) (has_second x t.Int (ap code_type w.1)) (says_two x (type e) st.below)))
      adds x z at g (inr w) =
          subst (λ z. LinkRuns op.Add x z at p h s due) (sym (g ∙ w.0))
          (plain x y.str (i.Join h h (h + 1) at) (λ q d. join_runs k h h (h + 1) at (has_first x t.Text (ap code_type w.0)) (has_second x t.Text (ap code_type w.1)) (says_two x (type e) st.below)))

      bools : (x z : Ty) → (is_bool x && is_bool z) ≡ true → (x ≡ y.bool) × (z ≡ y.bool)
      bools x z q = let w = and_parts (is_bool x) (is_bool z) q in (bool_type x w.0, bool_type z w.1)

      is_truth : (x : Ty) → x ≡ y.bool → type_at k.last (with_slot (holds h x) s) h ≡ Some t.Truth
      is_truth x q = type_here k (holds h x) s h refl ∙ ap (λ z. Some (code_type z)) q

      pub link_runs : (o : BinaryOp) (x z : Ty) (at : Spot) → takes_operands o x (type e) ≡ true → z ≡ link_gives o x → LinkRuns o x z at p h s due
      link_runs op.Equal x z at ok g = subst (λ z. LinkRuns op.Equal x z at p h s due) (sym g) (plain x y.bool (i.Cmp h 0 h (h + 1)) (compares 0 2 x (omega arith) (omega arith) (equality_alike x (type e) ok)))
      link_runs op.NotEqual x z at ok g = subst (λ z. LinkRuns op.NotEqual x z at p h s due) (sym g) (plain x y.bool (i.Cmp h 1 h (h + 1)) (compares 1 2 x (omega arith) (omega arith) (equality_alike x (type e) ok)))
      link_runs op.Less x z at ok g = subst (λ z. LinkRuns op.Less x z at p h s due) (sym g) (plain x y.bool (i.Cmp h 2 h (h + 1)) (compares 2 6 x (omega arith) (omega arith) (order_alike x (type e) ok)))
      link_runs op.LessEqual x z at ok g = subst (λ z. LinkRuns op.LessEqual x z at p h s due) (sym g) (plain x y.bool (i.Cmp h 3 h (h + 1)) (compares 3 6 x (omega arith) (omega arith) (order_alike x (type e) ok)))
      link_runs op.Greater x z at ok g = subst (λ z. LinkRuns op.Greater x z at p h s due) (sym g) (plain x y.bool (i.Cmp h 4 h (h + 1)) (compares 4 6 x (omega arith) (omega arith) (order_alike x (type e) ok)))
      link_runs op.GreaterEqual x z at ok g = subst (λ z. LinkRuns op.GreaterEqual x z at p h s due) (sym g) (plain x y.bool (i.Cmp h 5 h (h + 1)) (compares 5 6 x (omega arith) (omega arith) (order_alike x (type e) ok)))
      link_runs op.Add x z at ok g = adds x z at g (order_types x (type e) ok)
      link_runs op.Sub x z at ok g =
          let w = ints x (type e) ok in
          subst (λ z. LinkRuns op.Sub x z at p h s due) (sym g)
          (plain x y.int (i.Sub h h (h + 1) at) (λ q d. sub_runs k h h (h + 1) at (has_first x t.Int (ap code_type w.0)) (has_second x t.Int (ap code_type w.1)) (says_two x (type e) st.below)))
      link_runs op.Mul x z at ok g =
          let w = ints x (type e) ok in
          subst (λ z. LinkRuns op.Mul x z at p h s due) (sym g)
          (plain x y.int (i.Mul h h (h + 1) at) (λ q d. mul_runs k h h (h + 1) at (has_first x t.Int (ap code_type w.0)) (has_second x t.Int (ap code_type w.1)) (says_two x (type e) st.below)))
      link_runs op.Div x z at ok g =
          let w = ints x (type e) ok in
          subst (λ z. LinkRuns op.Div x z at p h s due) (sym g)
          (plain x y.int (i.Div h h (h + 1) at) (λ q d. div_runs k h h (h + 1) at (has_first x t.Int (ap code_type w.0)) (has_second x t.Int (ap code_type w.1)) (says_two x (type e) st.below)))
      link_runs op.Rem x z at ok g =
          let w = ints x (type e) ok in
          subst (λ z. LinkRuns op.Rem x z at p h s due) (sym g)
          (plain x y.int (i.Rem h h (h + 1) at) (λ q d. rem_runs k h h (h + 1) at (has_first x t.Int (ap code_type w.0)) (has_second x t.Int (ap code_type w.1)) (says_two x (type e) st.below)))
      link_runs op.Or x z at ok g =
          let w = bools x (type e) ok in
          subst (λ z. LinkRuns op.Or x z at p h s due) (sym g)
          (if_runs k h {s2 = s} (nothing k p due (with_slot (holds h x) s)) (is_truth x w.0) (nothing k (p + 0 + 1) false (with_slot (holds h x) s))
          (operand (p + 0 + 1 + 0 + 1) h s true st)
          (says_same k (with_slot (holds h x) s)) (says_slot k (holds h x) st.below) (says_slot k (holds h x) st.below)
          (says_with k (holds h x) (holds h y.bool) refl w.0 (says_same k s))
          (says_with k (holds h (type e)) (holds h y.bool) refl w.1 (says_behind k s (expr_returns e))))
      link_runs op.And x z at ok g =
          let w = bools x (type e) ok in
          subst (λ z. LinkRuns op.And x z at p h s due) (sym g)
          (and_runs k (is_truth x w.0) (operand (p + 1) h s false st) (says_slot k (holds h x) st.below)
          (says_with k (holds h x) (holds h y.bool) refl w.0 (says_same k s))
          (says_with k (holds h (type e)) (holds h y.bool) refl w.1 (says_behind k s (expr_returns e))))

  -- ---- one operand

  pub unary_runs : {p h : ℕ} {due : Bool} {s : Stand} (o : UnaryOp) (ty x : Ty) (at : Spot) → unary_is_served o ≡ true → unary_is_well_typed o ty x → Below k h s
      → Runs k p (unary_code o at h) (marked due (with_slot (holds h ty) s) (unary_code o at h)) due (with_slot (holds h ty) s) false (with_slot (holds h x) s)
  unary_runs {p} {h} {due} {s} unary.Minus ty x at c su b =
      subst (λ x. Runs k p (unary_code unary.Minus at h) (marked due (with_slot (holds h ty) s) (unary_code unary.Minus at h)) due (with_slot (holds h ty) s) false (with_slot (holds h x) s)) (sym su.1)
      (both k {a = i.Int (h + 1) (pos 0) ∷ []} {b = i.Sub h (h + 1) h at ∷ []} {ma = mark due (with_slot (holds h ty) s) ∷ []} {mb = mark false (with_slot (holds h ty) s) ∷ []}
      (int_runs k (h + 1) (pos 0))
      (sub_runs k h (h + 1) h at (second_of h s ty y.int) (first_of h s ty y.int ∙ ap (λ z. Some (code_type z)) su.0) (says_two ty y.int b)))
  unary_runs {p} {h} {due} {s} unary.Not ty x at c su b =
      subst (λ x. Runs k p (unary_code unary.Not at h) (marked due (with_slot (holds h ty) s) (unary_code unary.Not at h)) due (with_slot (holds h ty) s) false (with_slot (holds h x) s)) (sym su.1)
      (not_runs k h h (type_here k (holds h ty) s h refl ∙ ap (λ z. Some (code_type z)) su.0) (says_slot k (holds h ty) b))
  unary_runs unary.Borrow ty x at c su b = absurd (cc)
  unary_runs unary.Merge ty x at c su b = absurd (cc)
