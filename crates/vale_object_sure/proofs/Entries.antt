-- The locals that typing sees are those of the scope, in their order and of their sorts.
use Rattle.std.proofs.Common.{◌≡◌, ℕ, ◌+◌, ◌≤◌, Bool, true, false, ◌==◌, if◌then◌else◌, List, [], ◌∷◌, Option, Some, None, refl, sym, ap, ◌∙◌, arith}
use Rattle.vale_syntax.specs.declared.tree.NameAt.{NameAt}
use Rattle.vale_rules_spec.specs.Types.{Ty, void, int, bool, str, kind, array, ref, imm, iso, is_void, is_owned, local_of}
use Rattle.vale_rules_spec.specs.Types as y
use Rattle.vale_rules_spec.specs.Typing.{Env, with_local}
use Rattle.vale_rules_spec.specs.Whole.{Local, Locals, declared, is_whole}
use Rattle.vale_model.specs.Runs.{has_name}
use Rattle.vale_lowering_objects.specs.Scopes.{Gives, gives_of, is_value, is_owner, Entry, Scope, entry, waiting, find, Gone, is_gone, without}
use Rattle.vale_object_sure.proofs.Ties.{Row, waits, holds, row, rows, Falls, Kept, falls_up, kept_push, kept_wait}

abbrev pub Named : List Row → List y.Local → Type 0
Named [] [] = Unit {0}
Named [] (v ∷ vs) = ⊥
Named (waits r ∷ rs) vs = Named rs vs
Named (holds n r owned ∷ rs) [] = ⊥
Named (holds n r owned ∷ rs) (v ∷ vs) = (v.name ≡ n) × (owned ≡ is_owned v.ty) × (is_void v.ty ≡ false) × Named rs vs

-- a local that is found, and is there where it is whole
pub record IsThere (n : ℕ) (s : Scope) (g : Gone) (ls : Locals) (v : y.Local) : Type 0 where
  pub is : Entry
  pub found : find n s ≡ Some is
  pub owned : is.owned ≡ is_owned v.ty
  pub value : is_void v.ty ≡ false
  pub there : is_whole n ls ≡ true → is_gone is.register g ≡ false

pub look_up : (n : ℕ) (s : Scope) (g : Gone) (ls : Locals) (vs : List y.Local) (v : y.Local) → Named (rows s) vs → Kept (rows s) g ls → local_of n vs ≡ Some v → IsThere n s g ls v
look_up n [] g ls [] v m k e = absurd (cc)
look_up n [] g ls (w ∷ vs) v m k e = absurd m
look_up n (x ∷ s) g ls vs v m k e = by x.name refl ls vs m k e (λ ls vs m k e. look_up n s g ls vs v m k e)
  where
    past : (ls ms : Locals) → has_name n x.name ≡ false → (is_whole n ms ≡ true → is_whole n ls ≡ true) → IsThere n s g ls v → IsThere n (x ∷ s) g ms v
    past ls ms other whole t = record { is = t.is; found = ap (λ b. if b then Some x else find n s) other ∙ t.found; owned = t.owned; value = t.value; there = λ w. t.there (whole w) }

    chosen : (b : Bool) (q : ℕ) (l : Local) (ls : Locals) (w : y.Local) (vs : List y.Local) → x.name ≡ Some q → (q == n) ≡ b → l.name ≡ q → w.name ≡ q → (l.whole ≡ true → is_gone x.register g ≡ false) → x.owned ≡ is_owned w.ty → is_void w.ty ≡ false
        → (if w.name == n then Some w else local_of n vs) ≡ Some v → (local_of n vs ≡ Some v → IsThere n s g ls v) → IsThere n (x ∷ s) g (l ∷ ls) v
    chosen true q l ls w vs named same ln wn there owned value e later =
        let is : w ≡ v = (let f : Some w ≡ Some v = sym (ap (λ b. if b then Some w else local_of n vs) (ap (λ z. z == n) wn ∙ same)) ∙ e in cc) in
        record {
          is = x;
          found = ap (λ b. if b then Some x else find n s) (ap (has_name n) named ∙ same);
          owned = owned ∙ ap (λ z. is_owned z.ty) is;
          value = sym (ap (λ z. is_void z.ty) is) ∙ value;
          there = λ h. there (sym (ap (λ b. if b then l.whole else is_whole n ls) (ap (λ z. z == n) ln ∙ same)) ∙ h);
        }
    chosen false q l ls w vs named same ln wn there owned value e later =
        past ls (l ∷ ls) (ap (has_name n) named ∙ same) (λ h. sym (ap (λ b. if b then l.whole else is_whole n ls) (ap (λ z. z == n) ln ∙ same)) ∙ h)
        (later (sym (ap (λ b. if b then Some w else local_of n vs) (ap (λ z. z == n) wn ∙ same)) ∙ e))

    by : (o : Option ℕ) → x.name ≡ o → (ls : Locals) (vs : List y.Local) → Named (row o x.register x.owned ∷ rows s) vs → Kept (row o x.register x.owned ∷ rows s) g ls → local_of n vs ≡ Some v → ((ls : Locals) (vs : List y.Local) → Named (rows s) vs → Kept (rows s) g ls → local_of n vs ≡ Some v → IsThere n s g ls v) → IsThere n (x ∷ s) g ls v
    by None named ls vs m k e later = past ls ls (ap (has_name n) named) (λ h. h) (later ls vs m k e)
    by (Some q) named [] vs m k e later = absurd k
    by (Some q) named (l ∷ ls) [] m k e later = absurd m
    by (Some q) named (l ∷ ls) (w ∷ vs) m k e later = chosen (q == n) q l ls w vs named refl k.0 m.0 k.1 m.1 m.2 e (later ls vs m.3 k.2)

-- ---- sorts

pub owner_is : (x : Ty) → is_void x ≡ false → is_owner (gives_of x) ≡ is_owned x
owner_is void e = absurd (cc)
owner_is int e = refl
owner_is bool e = refl
owner_is str e = refl
owner_is (kind n) e = refl
owner_is (array x) e = refl
owner_is (ref x) e = refl
owner_is (imm x) e = refl
owner_is (iso x) e = refl

pub value_is : (x : Ty) → is_void x ≡ false → is_value (gives_of x) ≡ true
value_is void e = absurd (cc)
value_is int e = refl
value_is bool e = refl
value_is str e = refl
value_is (kind n) e = refl
value_is (array x) e = refl
value_is (ref x) e = refl
value_is (imm x) e = refl
value_is (iso x) e = refl

-- ---- where a part stands, in a function that gives q

pub record Stands (q : Gives) (env : Env) (h : ℕ) (s : Scope) (g : Gone) (ls : Locals) : Type 0 where
  pub named : Named (rows s) env.scope
  pub falls : Falls h (rows s)
  pub kept : Kept (rows s) g ls
  pub gives : q ≡ gives_of env.gives

module _ (q : Gives) (env : Env) (h : ℕ) (s : Scope) (g : Gone) (ls : Locals) (st : Stands q env h s g ls) where
  -- after a part
  pub stands_on : (k : ℕ) (g' : Gone) (ms : Locals) → h ≤ k → Kept (rows s) g' ms → Stands q env k s g' ms
  stands_on k g' ms le kept = record { named = st.named; falls = falls_up (rows s) h k le st.falls; kept = kept; gives = st.gives }

  pub stands_wait : (r : Gives) → Stands q env (h + 1) (waiting h r ∷ s) (without h g) ls
  stands_wait r = record { named = st.named; falls = (omega arith, st.falls); kept = kept_wait (rows s) h g ls st.falls st.kept; gives = st.gives }

  pub stands_push : (n : NameAt) (x : Ty) → is_void x ≡ false → Stands q (with_local n x env) (h + 1) (entry n.name.0 h (gives_of x) ∷ s) (without h g) (declared n ls)
  stands_push n x value = record { named = (refl, owner_is x value, value, st.named); falls = (omega arith, st.falls); kept = kept_push (rows s) h g ls n (is_owner (gives_of x)) st.falls st.kept; gives = st.gives }
