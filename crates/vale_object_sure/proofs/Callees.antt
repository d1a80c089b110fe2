-- The code of what is called is sure.
use Rattle.std.proofs.Common.{◌≡◌, ℕ, suc, ◌+◌, true, false, ◌&&◌, nat_le, List, [], ◌∷◌, length, refl, sym, ap, ◌∙◌, subst}
use Rattle.std.proofs.lemmas.Bool.{and_parts}
use Rattle.vale_base.specs.Limits.{width_limit}
use Rattle.vale_base.specs.declared.spot.Spot.{Spot}
use Rattle.vale_syntax.specs.declared.built_in.BuiltIn.{BuiltIn}
use Rattle.vale_syntax.specs.declared.built_in.BuiltIn.TheVariants as b
use Rattle.vale_syntax.specs.declared.tree.BinaryOp.{BinaryOp}
use Rattle.vale_syntax.specs.declared.tree.BinaryOp.TheVariants as op
use Rattle.vale_syntax.specs.declared.tree.NameAt.{NameAt}
use Rattle.vale_rules_spec.specs.TypeRules.{is_bool, is_int, have_order, have_equality, takes_operands, link_gives}
use Rattle.vale_rules_spec.specs.Types.{Ty, void, int, bool, str, kind, array, ref, imm, iso, same, is_copy, is_owned}
use Rattle.vale_rules_spec.specs.Typed.{Callee, built_in, constructor, function, Exprs, no_exprs, more_exprs, Function, type, types}
use Rattle.vale_model.specs.Parts.{Parts, has_name, first_function, kind_of}
use Rattle.vale_code.specs.Parts.{Parts as Code}
use Rattle.vale_code.specs.declared.instr.Instr.TheVariants as i
use Rattle.vale_lowering.specs.Instructions.{registers_from, operator}
use Rattle.vale_lowering.specs.Scopes.{number_of_function}
use Rattle.vale_lowering_objects.specs.Lowered.{all_gives, gives_list, may_be_called, len_code, built_in_code, make_code, callee_code}
use Rattle.vale_lowering_objects.specs.Scopes.{Gives, copy, owner, gives_of, is_value, is_owner, agree, all_agree, Around}
use Rattle.vale_lowering_objects.specs.Scopes as g
use Rattle.vale_object_facts.specs.Suits.{built_in_suits, IsCalled, callee_suits, Sure}
use Rattle.vale_object_sure.proofs.Entries.{value_is}
use Rattle.vale_object_sure.proofs.Marks.{takes_value}
use Rattle.vale_object_sure.proofs.Shapes.{sure_if}
use Rattle.vale_object_sure.proofs.Ties.{both_true}

pub agree_itself : (q : Gives) → agree q q ≡ true
agree_itself g.void = refl
agree_itself g.copy = refl
agree_itself g.owner = refl

pub agree_same : (q r : Gives) → q ≡ r → agree q r ≡ true
agree_same q r e = ap (agree q) (sym e) ∙ agree_itself q

pub gives_types : (es : Exprs) → gives_list es ≡ all_gives (types es)
gives_types no_exprs = refl
gives_types (more_exprs e es) = ap (λ l. gives_of (type e) ∷ l) (gives_types es)

pub many_gives : (ts : List Ty) → length (all_gives ts) ≡ length ts
many_gives [] = refl
many_gives (t ∷ ts) = ap suc (many_gives ts)

-- ---- operators

same_copy : (x z : Ty) → is_copy z ≡ true → same x z ≡ true → gives_of x ≡ copy
same_copy int z c e = refl
same_copy bool z c e = refl
same_copy str z c e = refl
same_copy (ref x) z c e = refl
same_copy (imm x) z c e = refl
same_copy void int c e = absurd (cc)
same_copy void bool c e = absurd (cc)
same_copy void str c e = absurd (cc)
same_copy void _ c e = absurd (cc)
same_copy (kind n) int c e = absurd (cc)
same_copy (kind n) bool c e = absurd (cc)
same_copy (kind n) str c e = absurd (cc)
same_copy (kind n) _ c e = absurd (cc)
same_copy (array x) int c e = absurd (cc)
same_copy (array x) bool c e = absurd (cc)
same_copy (array x) str c e = absurd (cc)
same_copy (array x) _ c e = absurd (cc)
same_copy (iso x) int c e = absurd (cc)
same_copy (iso x) bool c e = absurd (cc)
same_copy (iso x) str c e = absurd (cc)
same_copy (iso x) _ c e = absurd (cc)

abbrev BothCopied : Ty → Ty → Type 0
BothCopied t x = (gives_of t ≡ copy) × (gives_of x ≡ copy)

ordered : (t x : Ty) → have_order t x ≡ true → BothCopied t x
ordered int int e = (refl, refl)
ordered str str e = (refl, refl)
ordered _ _ e = absurd (cc)

equated : (t x : Ty) → have_equality t x ≡ true → BothCopied t x
equated bool bool e = (refl, refl)
equated int int e = (refl, refl)
equated str str e = (refl, refl)
equated _ _ e = absurd (cc)

ints : (t x : Ty) → (is_int t && is_int x) ≡ true → BothCopied t x
ints t x e = let p = and_parts (is_int t) (is_int x) e in (same_copy t int refl p.0, same_copy x int refl p.1)

bools : (t x : Ty) → (is_bool t && is_bool x) ≡ true → BothCopied t x
bools t x e = let p = and_parts (is_bool t) (is_bool x) e in (same_copy t bool refl p.0, same_copy x bool refl p.1)

pub operands : (o : BinaryOp) (t x : Ty) → takes_operands o t x ≡ true → BothCopied t x
operands op.Or t x e = bools t x e
operands op.And t x e = bools t x e
operands op.Equal t x e = equated t x e
operands op.NotEqual t x e = equated t x e
operands op.Less t x e = ordered t x e
operands op.LessEqual t x e = ordered t x e
operands op.Greater t x e = ordered t x e
operands op.GreaterEqual t x e = ordered t x e
operands op.Add t x e = ordered t x e
operands op.Sub t x e = ints t x e
operands op.Mul t x e = ints t x e
operands op.Div t x e = ints t x e
operands op.Rem t x e = ints t x e

pub op_copied : (o : BinaryOp) (t : Ty) → gives_of t ≡ copy → gives_of (link_gives o t) ≡ copy
op_copied op.Add t e = e
op_copied op.Or t e = refl
op_copied op.And t e = refl
op_copied op.Equal t e = refl
op_copied op.NotEqual t e = refl
op_copied op.Less t e = refl
op_copied op.LessEqual t e = refl
op_copied op.Greater t e = refl
op_copied op.GreaterEqual t e = refl
op_copied op.Sub t e = refl
op_copied op.Mul t e = refl
op_copied op.Div t e = refl
op_copied op.Rem t e = refl

add_sure : (x : Ty) (at : Spot) (h : ℕ) → Sure (operator op.Add x at h ∷ [])
add_sure void at h = refl
add_sure int at h = refl
add_sure bool at h = refl
add_sure str at h = refl
add_sure (kind n) at h = refl
add_sure (array x) at h = refl
add_sure (ref x) at h = refl
add_sure (imm x) at h = refl
add_sure (iso x) at h = refl

-- an operator whose operands both run
abbrev pub Runs : BinaryOp → Type 0
Runs op.Or = ⊥
Runs op.And = ⊥
Runs _ = Unit {0}

pub operator_sure : (o : BinaryOp) (x : Ty) (at : Spot) (h : ℕ) → Runs o → Sure (operator o x at h ∷ [])
operator_sure op.Or x at h r = absurd r
operator_sure op.And x at h r = absurd r
operator_sure op.Equal x at h r = refl
operator_sure op.NotEqual x at h r = refl
operator_sure op.Less x at h r = refl
operator_sure op.LessEqual x at h r = refl
operator_sure op.Greater x at h r = refl
operator_sure op.GreaterEqual x at h r = refl
operator_sure op.Add x at h r = add_sure x at h
operator_sure op.Sub x at h r = refl
operator_sure op.Mul x at h r = refl
operator_sure op.Div x at h r = refl
operator_sure op.Rem x at h r = refl

-- ---- calls

copied_gives : (x : Ty) → is_copy x ≡ true → gives_of x ≡ copy
copied_gives int e = refl
copied_gives bool e = refl
copied_gives str e = refl
copied_gives _ e = absurd (cc)

owned_gives : (x : Ty) → is_owned x ≡ true → gives_of x ≡ owner
owned_gives (kind n) e = refl
owned_gives (array x) e = refl
owned_gives (iso x) e = refl
owned_gives _ e = absurd (cc)

len_sure : (x : Ty) (at : Spot) (h : ℕ) → Sure (len_code x at h)
len_sure void at h = refl
len_sure int at h = refl
len_sure bool at h = refl
len_sure str at h = refl
len_sure (kind n) at h = refl
len_sure (array x) at h = refl
len_sure (ref x) at h = refl
len_sure (imm x) at h = refl
len_sure (iso x) at h = refl

module _ (p : Parts) (c : Code) (functions : List Function) where
  -- of values of these types, where the call gives x; first is the first value's type
  pub built_in_sure : (f : BuiltIn) (first : Ty) (ts : List Ty) (x : Ty) (at : Spot) (h : ℕ) → built_in_suits p c functions f ts x → takes_value (built_in f) x → Sure (built_in_code f first (all_gives ts) (gives_of x) at h)
  built_in_sure b.Print first (t ∷ []) x at h s v =
      subst (λ q. Sure (built_in_code b.Print first (q ∷ []) (gives_of x) at h)) (sym (copied_gives t s.0)) (subst (λ z. Sure (built_in_code b.Print first (copy ∷ []) (gives_of z) at h)) (sym s.1) refl)
  built_in_sure b.Println first (t ∷ []) x at h s v =
      subst (λ q. Sure (built_in_code b.Println first (q ∷ []) (gives_of x) at h)) (sym (copied_gives t s.0)) (subst (λ z. Sure (built_in_code b.Println first (copy ∷ []) (gives_of z) at h)) (sym s.1) refl)
  built_in_sure b.Drop first (t ∷ []) x at h s v =
      subst (λ q. Sure (built_in_code b.Drop first (q ∷ []) (gives_of x) at h)) (sym (owned_gives t s.0)) (subst (λ z. Sure (built_in_code b.Drop first (owner ∷ []) (gives_of z) at h)) (sym s.1) refl)
  built_in_sure b.Len first (t ∷ []) x at h s v = sure_if (agree (gives_of x) copy) h (len_code first at h) (agree_same (gives_of x) copy (ap gives_of s.0)) (len_sure first at h)
  built_in_sure b.Push first (t ∷ z ∷ []) x at h s v = sure_if (agree (gives_of x) g.void) h (i.Push h (h + 1) at ∷ []) (agree_same (gives_of x) g.void (ap gives_of s.0)) refl
  built_in_sure b.Pop first (t ∷ []) x at h s v = sure_if (is_value (gives_of x)) h (i.Pop h h at ∷ []) (value_is x v) refl
  built_in_sure b.Text first (t ∷ []) x at h s v =
      subst (λ w. Sure (built_in_code b.Text first (gives_of w ∷ []) (gives_of x) at h)) (sym s.0) (subst (λ w. Sure (built_in_code b.Text first (copy ∷ []) (gives_of w) at h)) (sym s.1) refl)
  built_in_sure b.Slice first (t ∷ z ∷ w ∷ []) x at h s v =
      subst (λ a. Sure (built_in_code b.Slice first (gives_of a ∷ gives_of z ∷ gives_of w ∷ []) (gives_of x) at h)) (sym s.0)
      (subst (λ a. Sure (built_in_code b.Slice first (copy ∷ gives_of a ∷ gives_of w ∷ []) (gives_of x) at h)) (sym s.1)
      (subst (λ a. Sure (built_in_code b.Slice first (copy ∷ copy ∷ gives_of a ∷ []) (gives_of x) at h)) (sym s.2) (subst (λ a. Sure (built_in_code b.Slice first (copy ∷ copy ∷ copy ∷ []) (gives_of a) at h)) (sym s.3) refl)))
  built_in_sure b.Byte first (t ∷ z ∷ []) x at h s v =
      subst (λ a. Sure (built_in_code b.Byte first (gives_of a ∷ gives_of z ∷ []) (gives_of x) at h)) (sym s.0)
      (subst (λ a. Sure (built_in_code b.Byte first (copy ∷ gives_of a ∷ []) (gives_of x) at h)) (sym s.1) (subst (λ a. Sure (built_in_code b.Byte first (copy ∷ copy ∷ []) (gives_of a) at h)) (sym s.2) refl))
  built_in_sure b.IsNumber first (t ∷ []) x at h s v =
      subst (λ w. Sure (built_in_code b.IsNumber first (gives_of w ∷ []) (gives_of x) at h)) (sym s.0) (subst (λ w. Sure (built_in_code b.IsNumber first (copy ∷ []) (gives_of w) at h)) (sym s.1) refl)
  built_in_sure b.Number first (t ∷ []) x at h s v =
      subst (λ w. Sure (built_in_code b.Number first (gives_of w ∷ []) (gives_of x) at h)) (sym s.0) (subst (λ w. Sure (built_in_code b.Number first (copy ∷ []) (gives_of w) at h)) (sym s.1) refl)
  built_in_sure _ first _ x at h s v = absurd s

  pub make_sure : (q : Gives) (x : Ty) (ts : List Ty) (h : ℕ) → q ≡ owner → nat_le (length ts) width_limit ≡ true → Sure (make_code p q x (all_gives ts) h)
  make_sure q x ts h e wide =
      sure_if (agree q owner && nat_le (length (all_gives ts)) width_limit) h (i.Make h (kind_of p x) (registers_from h (length (all_gives ts))) ∷ [])
      (both_true (agree q owner) (nat_le (length (all_gives ts)) width_limit) (agree_same q owner e) (ap (λ n. nat_le n width_limit) (many_gives ts) ∙ wide)) refl

-- a function that is called takes such values, and gives such a one
abbrev pub AllCallable : Parts → Code → List Function → Type 0
AllCallable p c functions = (n : NameAt) (ts : List Ty) (x : Ty) → IsCalled p c functions n ts x → may_be_called p (gives_of x) (all_gives ts) (first_function (has_name n.name.0) functions) ≡ true

pub callee_sure : (p : Parts) (c : Code) (functions : List Function) (around : Around) → around.parts ≡ p → around.functions ≡ functions → AllCallable p c functions → (n : NameAt) (f : Callee) (first : Ty) (ts : List Ty) (x : Ty) (h : ℕ) → callee_suits p c functions n f ts x → takes_value f x
    → nat_le (length ts) width_limit ≡ true → Sure (callee_code around (gives_of x) n f first (all_gives ts) h)
callee_sure p c functions around ep ef calls n (built_in f) first ts x h s v wide = built_in_sure p c functions f first ts x n.at h s v
callee_sure p c functions around ep ef calls n constructor first ts x h s v wide = make_sure around.parts c functions (gives_of x) (kind n.name.0) ts h (ap gives_of s.0) wide
callee_sure p c functions around ep ef calls n (function false) first ts x h s v wide =
    sure_if (may_be_called around.parts (gives_of x) (all_gives ts) (first_function (has_name n.name.0) around.functions)) h (i.Call h (number_of_function (has_name n.name.0) around.functions) (registers_from h (length (all_gives ts))) n.at ∷ [])
    (ap (λ z. may_be_called z (gives_of x) (all_gives ts) (first_function (has_name n.name.0) around.functions)) ep ∙ ap (λ z. may_be_called p (gives_of x) (all_gives ts) (first_function (has_name n.name.0) z)) ef ∙ calls n ts x s) refl
callee_sure p c functions around ep ef calls n (function true) first ts x h s v wide = absurd s
