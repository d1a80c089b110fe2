-- The locals that a part of a program sees, and the registers that hold them.
use Rattle.std.proofs.Common.{◌≡◌, ℕ, suc, ◌+◌, ◌<◌, ◌≤◌, List, [], ◌∷◌, ◌++◌, length, map, Option, Some, Bool, true, false, ◌==◌, if◌then◌else◌, refl, ap, ◌∙◌, subst, arith}
use Rattle.std.specs.Prelude.{slice_get}
use Rattle.std.specs.List.{list_all}
use Rattle.vale_syntax.specs.declared.tree.NameAt.{NameAt}
use Rattle.vale_rules_spec.specs.Types.{Ty, Local, local_of}
use Rattle.vale_rules_spec.specs.Types as y
use Rattle.vale_rules_spec.specs.TypeRules.{param_types}
use Rattle.vale_rules_spec.specs.Declarations.{head_params}
use Rattle.vale_rules_spec.specs.Typed.{Expr, Exprs, no_exprs, more_exprs, type, Function}
use Rattle.vale_rules_spec.specs.Typing.{Env, with_local}
use Rattle.vale_model.specs.Kinds.{head_of}
use Rattle.vale_model.specs.Parts.{first_function, has_name, is_pure}
use Rattle.vale_code.specs.declared.func.Func.{Func}
use Rattle.vale_cert.specs.Types.{is_copy}
use Rattle.vale_served_spec.specs.Served.{type_is_served}
use Rattle.vale_lowering.specs.Scopes.{Around, place_of, code_type, result_type, number_of_function}
use Rattle.vale_lowering.proofs.Lookups.{in_front}
use Rattle.vale_lower_facts.specs.Slots.{local, waits, holds, Stand, scope_at, with_slot, behind, type_at}
use Rattle.vale_lower_facts.specs.Marks.{with_args}
use Rattle.vale_lower_facts.proofs.Stands.{Site, Below, below_up, below_slot, below_behind, type_here, type_there, Says, says_same, says_then, says_slot, says_behind}

-- ---- types

pub copies_too : (x : Ty) → y.is_copy x ≡ true → is_copy (code_type x) ≡ true
copies_too y.int e = refl
copies_too y.bool e = refl
copies_too y.str e = refl
copies_too y.void e = absurd (cc)
copies_too (y.kind m) e = absurd (cc)
copies_too (y.array x) e = absurd (cc)
copies_too (y.ref x) e = absurd (cc)
copies_too (y.imm x) e = absurd (cc)
copies_too (y.iso x) e = absurd (cc)

-- what is lowered and gives a value gives a copy value
pub covered_copy : (x : Ty) → type_is_served x ≡ true → y.is_void x ≡ false → y.is_copy x ≡ true
covered_copy y.int c e = refl
covered_copy y.bool c e = refl
covered_copy y.str c e = refl
covered_copy y.void c e = absurd (cc)
covered_copy (y.kind m) c e = absurd (cc)
covered_copy (y.array x) c e = absurd (cc)
covered_copy (y.ref x) c e = absurd (cc)
covered_copy (y.imm x) c e = absurd (cc)
covered_copy (y.iso x) c e = absurd (cc)

-- ---- functions and texts

-- a function of the program, and of the code
pub record IsFunc (found : Option Func) (f : Function) : Type 0 where
  pub func : Func
  pub is : found ≡ Some func
  pub form : func.form ≡ 0
  pub params : func.params ≡ map code_type (param_types (head_params (head_of f)))
  pub result : func.result ≡ code_type (result_type f)
  pub plain : is_pure f ≡ false
  pub copies : list_all y.is_copy (param_types (head_params (head_of f))) ≡ true
  pub covered : type_is_served (result_type f) ≡ true

-- each text of one list is one of another
pub record Among (some all : List (List ℕ)) : Type 0 where
  pub each : (i : ℕ) (text : List ℕ) → slice_get some i ≡ Some text → (j : ℕ) × (slice_get all j ≡ Some text)

get_back : {A : Type 0} (xs ys : List A) (i : ℕ) (x : A) → slice_get ys i ≡ Some x → slice_get (xs ++ ys) (length xs + i) ≡ Some x
get_back [] ys i x e = subst (λ n. slice_get ys n ≡ Some x) (let z : i ≡ 0 + i = omega arith in z) e
get_back (z ∷ xs) ys i x e = subst (λ n. slice_get (z ∷ (xs ++ ys)) n ≡ Some x) (let q : suc (length xs + i) ≡ suc (length xs) + i = omega arith in q) (get_back xs ys i x e)

pub among_same : (a : List (List ℕ)) → Among a a
among_same a = record { each = λ i text e. (i, e) }

pub among_front : (a b : List (List ℕ)) {all : List (List ℕ)} → Among (a ++ b) all → Among a all
among_front a b m = record { each = λ i text e. m.each i text (in_front a b i text e) }

pub among_back : (a b : List (List ℕ)) {all : List (List ℕ)} → Among (a ++ b) all → Among b all
among_back a b m = record { each = λ i text e. m.each (length a + i) text (get_back a b i text e) }

module _ (k : Site) where
  -- what is known of the program round a function
  pub record Context : Type 0 where
    pub around : Around
    pub gives : around.gives ≡ y.is_copy k.result
    pub result_is : k.func.result ≡ code_type k.result
    pub covered : type_is_served k.result ≡ true
    pub texts : around.texts ≡ k.code.texts
    pub called : (n : ℕ) (f : Function) → first_function (has_name n) around.functions ≡ Some f → IsFunc (slice_get k.code.funcs (number_of_function (has_name n) around.functions)) f

  -- a local has a register, which holds a copy value of its type
  pub record Placed (m : ℕ) (l : Local) (s : Stand) : Type 0 where
    pub register : ℕ
    pub found : place_of m (scope_at s) ≡ Some register
    pub typed : type_at k.last s register ≡ Some (code_type l.ty)
    pub copy : y.is_copy l.ty ≡ true

  pub record Stands (env : Env) (h : ℕ) (s : Stand) : Type 0 where
    pub gives : env.gives ≡ k.result
    pub below : Below k h s
    pub named : (m : ℕ) (l : Local) → local_of m env.scope ≡ Some l → Placed m l s

  pub stands_up : {env : Env} {h j : ℕ} {s : Stand} → h ≤ j → Stands env h s → Stands env j s
  stands_up le st = record { gives = st.gives; below = below_up k le st.below; named = st.named }

  pub stands_behind : {env : Env} {h : ℕ} {s : Stand} (returns : Bool) → Stands env h s → Stands env h (behind returns s)
  stands_behind {s = s} returns st = record {
    gives = st.gives;
    below = below_behind k returns st.below;
    named = λ m l e. let p = st.named m l e in record { register = p.register; found = p.found; typed = (says_behind k s returns).each p.register (code_type l.ty) p.typed; copy = p.copy };
  }

  pub stands_holds : {env : Env} {h : ℕ} {s : Stand} (ty : Ty) → Stands env h s → Stands env (h + 1) (with_slot (holds h ty) s)
  stands_holds {h = h} {s} ty st = record {
    gives = st.gives;
    below = below_slot k (holds h ty) st.below;
    named = λ m l e. let p = st.named m l e in record { register = p.register; found = p.found; typed = (says_slot k (holds h ty) st.below).each p.register (code_type l.ty) p.typed; copy = p.copy };
  }

  pub stands_waits : {env : Env} {h : ℕ} {s : Stand} (ty : Ty) → Stands env h s → Stands env (h + 1) (with_slot (waits h ty) s)
  stands_waits {h = h} {s} ty st = record {
    gives = st.gives;
    below = below_slot k (waits h ty) st.below;
    named = λ m l e. let p = st.named m l e in record { register = p.register; found = p.found; typed = (says_slot k (waits h ty) st.below).each p.register (code_type l.ty) p.typed; copy = p.copy };
  }

  -- a local more
  pub stands_local : {env : Env} {h : ℕ} {s : Stand} (n : NameAt) (ty : Ty) → y.is_copy ty ≡ true → Stands env h s → Stands (with_local n ty env) (h + 1) (with_slot (local n.name.0 h ty) s)
  stands_local {env} {h} {s} n ty copy st = record { gives = st.gives; below = below_slot k (local n.name.0 h ty) st.below; named = λ m l e. by m l (n.name.0 == m) refl e }
    where
      new : Local
      new = record { name = n.name.0; ty = ty; depth = env.depth }

      here : (m : ℕ) (l : Local) → (n.name.0 == m) ≡ true → new ≡ l → Placed m l (with_slot (local n.name.0 h ty) s)
      here m l q e =
          subst (λ l. Placed m l (with_slot (local n.name.0 h ty) s)) e
          (record { register = h; found = ap (λ b. if b then Some h else place_of m (scope_at s)) q; typed = type_here k (local n.name.0 h ty) s h refl; copy = copy })

      there : (m : ℕ) (l : Local) → (n.name.0 == m) ≡ false → Placed m l s → Placed m l (with_slot (local n.name.0 h ty) s)
      there m l q p = record {
        register = p.register;
        found = ap (λ b. if b then Some h else place_of m (scope_at s)) q ∙ p.found;
        typed = (says_slot k (local n.name.0 h ty) st.below).each p.register (code_type l.ty) p.typed;
        copy = p.copy;
      }

      by : (m : ℕ) (l : Local) (b : Bool) → (n.name.0 == m) ≡ b → (if b then Some new else local_of m env.scope) ≡ Some l → Placed m l (with_slot (local n.name.0 h ty) s)
      by m l true q e = here m l q (let z : new ≡ l = cc in z)
      by m l false q e = there m l q (st.named m l e)

  -- ---- arguments

  pub below_args : (es : Exprs) (h : ℕ) {s : Stand} → Below k h s → (r : ℕ) → r < h → type_at k.last (with_args es h s) r ≡ type_at k.last s r
  below_args no_exprs h b r lt = refl
  below_args (more_exprs e es) h {s} b r lt =
      below_args es (h + 1) (below_slot k (waits h (type e)) b) r (omega (arith, lt)) ∙ type_there k (waits h (type e)) s r (omega (arith, lt))

  pub says_args : (es : Exprs) (h : ℕ) {s : Stand} → Below k h s → Says k (with_args es h s) s
  says_args no_exprs h {s} b = says_same k s
  says_args (more_exprs e es) h {s} b = says_then k (says_args es (h + 1) (below_slot k (waits h (type e)) b)) (says_slot k (waits h (type e)) b)

  -- the argument in register h
  pub arg_here : (e : Expr) (es : Exprs) (h : ℕ) {s : Stand} → Below k h s → type_at k.last (with_args (more_exprs e es) h s) h ≡ Some (code_type (type e))
  arg_here e es h {s} b =
      below_args es (h + 1) (below_slot k (waits h (type e)) b) h (omega arith) ∙ type_here k (waits h (type e)) s h refl
