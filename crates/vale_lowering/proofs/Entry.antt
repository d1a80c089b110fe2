-- Where a function begins: its parameters against the registers, and its code from its first place on.
use Rattle.std.proofs.Common.{◌≡◌, ◌≢◌, ℕ, zero, suc, ◌+◌, ◌-◌, ◌<◌, List, [], ◌∷◌, ◌++◌, length, map, Some, None, refl, sym, ap, ◌∙◌, subst, ◌⊎◌, inl, inr, ⊎_elim, arith, length-append, append_assoc}
use Rattle.std.specs.Prelude.{slice_get, replicate}
use Rattle.vale_state_spec.specs.World.{Value, Int, Truth, Text, Own, Ref, Iso}
use Rattle.vale_syntax.specs.Tree.{Param, param}
use Rattle.vale_rules_spec.specs.Types.{Ty, is_owned, type_of}
use Rattle.vale_rules_spec.specs.Types as y
use Rattle.vale_model.specs.Parts.{param_names}
use Rattle.vale_model.specs.Runs.{Locals}
use Rattle.vale_model.specs.Meaning.{bound, given_to, parameter}
use Rattle.vale_code.specs.Instructions.{instruction_in}
use Rattle.vale_code.specs.Parts.{Parts}
use Rattle.vale_code.specs.Registers.{Registers, read, registers_for}
use Rattle.vale_code.specs.declared.func.Func.{Func}
use Rattle.vale_code.specs.declared.instr.Instr.{Instr}
use Rattle.vale_lowering.specs.Scopes.{Scope, entry, parameters}
use Rattle.vale_lowering.proofs.Registers.{Held, IsPlain, ArePlain, pick, pick_same, pick_other, look, Falls, falls_up, Named, Stand}
use Rattle.vale_lowering.proofs.Reaches.{HasAt}

-- ---- code

slice_seam : {A : Type 0} (pre rest : List A) (x : A) → slice_get (pre ++ x ∷ rest) (length pre) ≡ Some x
slice_seam [] rest x = refl
slice_seam (y ∷ pre) rest x = slice_seam pre rest x

pub has_all : (code : Parts) (f : ℕ) (func : Func) (is pre : List Instr) → slice_get code.funcs f ≡ Some func → func.body ≡ pre ++ is → HasAt code f (length pre) is
has_all code f func [] pre e a = tt
has_all code f func (x ∷ is) pre e a =
    let m : length (pre ++ x ∷ []) ≡ length pre + 1 = omega (arith, length-append pre (x ∷ [])) in
    let rest = has_all code f func is (pre ++ x ∷ []) e (a ∙ sym (append_assoc pre (x ∷ []) is)) in
    (ap (λ o. instruction_in o (length pre)) e ∙ ap (λ l. slice_get l (length pre)) a ∙ slice_seam pre is x, subst (λ q. HasAt code f q is) m rest)

-- ---- registers

read_seam : (pre rest : Registers) (x : Held) → read (pre ++ x ∷ rest) (length pre) ≡ x
read_seam [] rest x = refl
read_seam (y ∷ pre) rest x = read_seam pre rest x

stand_behind : (pre : Registers) (vs : List Value) (rest : Registers) → Stand (length pre) vs (pre ++ (map Some vs ++ rest))
stand_behind pre [] rest = tt
stand_behind pre (v ∷ vs) rest =
    let m : length (pre ++ Some v ∷ []) ≡ length pre + 1 = omega (arith, length-append pre (Some v ∷ [])) in (
      read_seam pre (map Some vs ++ rest) (Some v),
      subst (λ q. Stand q vs (pre ++ Some v ∷ (map Some vs ++ rest))) m
          (subst (λ r. Stand (length (pre ++ Some v ∷ [])) vs r) (append_assoc pre (Some v ∷ []) (map Some vs ++ rest)) (stand_behind (pre ++ Some v ∷ []) vs rest)),
    )

pub arguments_stand : (many : ℕ) (vs : List Value) → Stand 0 vs (registers_for many vs)
arguments_stand many vs = stand_behind [] vs (replicate (many - length vs) None)

none_read : (k : ℕ) → read (replicate k None) 0 ≡ None
none_read zero = refl
none_read (suc k) = refl

read_behind : (vs : List Value) (k : ℕ) → read (map Some vs ++ replicate k None) (length vs) ≡ None
read_behind [] k = none_read k
read_behind (v ∷ vs) k = read_behind vs k

pub empty_behind : (many : ℕ) (vs : List Value) → read (registers_for many vs) (length vs) ≡ None
empty_behind many vs = read_behind vs (many - length vs)

-- ---- parameters

same_or_not : (q r : ℕ) → (q ≡ r) ⊎ (q ≢ r)
same_or_not zero zero = inl refl
same_or_not zero (suc r) = inr (λ e. let f : ⊥ = cc in f)
same_or_not (suc q) zero = inr (λ e. let f : ⊥ = cc in f)
same_or_not (suc q) (suc r) = ⊎_elim (λ e. inl (ap suc e)) (λ ne. inr (λ e. let f : q ≡ r = cc in ne f)) (same_or_not q r)

picked : (q r : ℕ) (v : Held) (regs : Registers) → read regs r ≡ v → read regs q ≡ pick q r v (read regs q)
picked q r v regs here = ⊎_elim at_r (λ ne. sym (pick_other q r v (read regs q) ne)) (same_or_not q r)
  where
    at_r : q ≡ r → read regs q ≡ pick q r v (read regs q)
    at_r e = subst (λ n. read regs n ≡ pick n r v (read regs n)) (sym e) (here ∙ sym (pick_same r v (read regs r)))

pub record Enters (s : Scope) (l : Locals) (regs : Registers) : Type 0 where
  pub named : Named s l
  pub all : (r : ℕ) → read regs r ≡ look s l (read regs) r

-- a plain value stays what it is
given_plain : (x : Ty) (v : Value) → IsPlain v → given_to x v ≡ v
given_plain (y.imm x) (Int z) p = refl
given_plain (y.imm x) (Truth b) p = refl
given_plain (y.imm x) (Text t) p = refl
given_plain (y.imm x) (Own m) p = absurd p
given_plain (y.imm x) (Ref m) p = absurd p
given_plain (y.imm x) (Iso m) p = absurd p
given_plain y.void v p = refl
given_plain y.int v p = refl
given_plain y.bool v p = refl
given_plain y.str v p = refl
given_plain (y.kind m) v p = refl
given_plain (y.array x) v p = refl
given_plain (y.ref x) v p = refl
given_plain (y.iso x) v p = refl

bound_enters : (ps : List Param) (vs : List Value) (r : ℕ) (s : Scope) (l k : Locals) (regs : Registers) → ArePlain vs → Stand r vs regs → Enters s l regs → bound ps vs l ≡ Some k → Enters (parameters r (param_names ps) s) k regs
bound_enters [] [] r s l k regs pvs st e b = subst (λ m. Enters s m regs) (let f : l ≡ k = cc in f) e
bound_enters [] (v ∷ vs) r s l k regs pvs st e b = absurd (let f : ⊥ = cc in f)
bound_enters (p ∷ ps) [] r s l k regs pvs st e b = absurd (let f : ⊥ = cc in f)
bound_enters (param m x ∷ ps) (v ∷ vs) r s l k regs pvs st e b =
    bound_enters ps vs (r + 1) (entry m.name.0 r ∷ s) (parameter (param m x) v ∷ l) k regs pvs.1 st.1
    (subst (λ u. Enters (entry m.name.0 r ∷ s) (record { name = Some m.name.0; value = Some u; owned = is_owned (type_of x) } ∷ l) regs) (sym (given_plain (type_of x) v pvs.0))
    (record { named = (refl, pvs.0, e.named); all = λ q. e.all q ∙ same q })) b
  where
    same : (q : ℕ) → look s l (read regs) q ≡ pick q r (Some v) (look s l (read regs) q)
    same q = sym (e.all q) ∙ picked q r (Some v) regs st.0 ∙ ap (pick q r (Some v)) (e.all q)

pub enters : (ps : List Param) (vs : List Value) (k : Locals) (regs : Registers) → ArePlain vs → Stand 0 vs regs → bound ps vs [] ≡ Some k → Enters (parameters 0 (param_names ps) []) k regs
enters ps vs k regs pvs st b = bound_enters ps vs 0 [] [] k regs pvs st (record { named = tt; all = λ q. refl }) b

-- as many values as parameters are bound
pub are_bound : (ps : List Param) (vs : List Value) (l : Locals) → length (param_names ps) ≡ length vs → (k : Locals) × (bound ps vs l ≡ Some k)
are_bound [] [] l e = (l, refl)
are_bound [] (v ∷ vs) l e = absurd (let f : ⊥ = cc in f)
are_bound (param m x ∷ ps) [] l e = absurd (let f : ⊥ = cc in f)
are_bound (param m x ∷ ps) (v ∷ vs) l e = are_bound ps vs (parameter (param m x) v ∷ l) (let f : length (param_names ps) ≡ length vs = cc in f)

falls_from : (ns : List ℕ) (r : ℕ) (s : Scope) → Falls r s → Falls (r + length ns) (parameters r ns s)
falls_from [] r s f = falls_up s r (r + 0) (omega arith) f
falls_from (m ∷ ns) r s f =
    let lt : r < r + 1 = omega arith in
    let e : r + 1 + length ns ≡ r + suc (length ns) = omega arith in
    subst (λ n. Falls n (parameters (r + 1) ns (entry m r ∷ s))) e (falls_from ns (r + 1) (entry m r ∷ s) (lt, f))

pub falls_parameters : (ns : List ℕ) → Falls (length ns) (parameters 0 ns [])
falls_parameters ns = let e : 0 + length ns ≡ length ns = omega arith in subst (λ q. Falls q (parameters 0 ns [])) e (falls_from ns 0 [] tt)
