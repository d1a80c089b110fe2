-- What registers hold fits what is known of them.
use Rattle.std.proofs.Common.{◌≡◌, ◌<◌, ℕ, zero, suc, ◌+◌, ◌-◌, List, [], ◌∷◌, ◌++◌, length, map, replicate, Option, Some, None, Bool, true, false, ◌||◌, ◌==◌, refl, sym, ap, subst, arith}
use Rattle.std.specs.Prelude.{slice_set}
use Rattle.std.proofs.lemmas.Bool.{and_parts}
use Rattle.vale_state_spec.specs.State.{name_of}
use Rattle.vale_state_spec.specs.World.{Value, Int, Truth, Text, Own, Ref, Iso, Object, World}
use Rattle.vale_base.specs.declared.name.Kind.{Kind}
use Rattle.vale_code.specs.Kinds.{same_type, kind_of}
use Rattle.vale_code.specs.Parts.{Parts}
use Rattle.vale_code.specs.Registers.{Registers, read, put, registers_for}
use Rattle.vale_code.specs.declared.ty.Ty.{Ty}
use Rattle.vale_code.specs.declared.ty.Ty.TheVariants as t
use Rattle.vale_cert.specs.Known.{fact_of, is_there, has, params_from, agrees, agree}
use Rattle.vale_cert.specs.Objects.{is_implemented, cells_of}
use Rattle.vale_cert.specs.Types.{is_owned}
use Rattle.vale_cert.specs.declared.facts.RegFact.{RegFact}
use Rattle.vale_cert.specs.declared.facts.RegFact.TheVariants.{Empty, Held}
use Rattle.vale_cert.proofs.Heap.{object_at, Later, own}

-- a value is one of a type
abbrev pub value_has : Ty → Value → Bool
value_has t.Int (Int z) = true
value_has t.Truth (Truth b) = true
value_has t.Text (Text bytes) = true
value_has (t.Own kind) (Own n) = true
value_has (t.Ref kind) (Ref n) = true
value_has (t.Frozen kind) (Ref n) = true
value_has (t.Iso kind) (Iso n) = true
value_has _ _ = false

-- the kind that a type leads to
abbrev pub kind_seen : Ty → Option Kind
kind_seen (t.Own kind) = Some kind
kind_seen (t.Ref kind) = Some kind
kind_seen (t.Frozen kind) = Some kind
kind_seen (t.Iso kind) = Some kind
kind_seen _ = None

-- an object of one kind may be seen as one of another: of its own, or of an interface that it implements
abbrev pub kind_fits : Parts → Kind → Kind → Bool
kind_fits code of kind = (of.0 == kind.0) || is_implemented code.impls kind of

-- a name was given, and while it lives its object may be seen as one of a kind
pub record NameFits (code : Parts) (w : World) (kind : Kind) (n : ℕ) : Type 0 where
  pub given : n < length w
  pub fits : (o : Object) → object_at w n ≡ Some o → kind_fits code o.kind kind ≡ true

-- a value is one of a type, and leads where the type says, if to a living object
pub record Has (code : Parts) (w : World) (ty : Ty) (v : Value) : Type 0 where
  pub shape : value_has ty v ≡ true
  pub leads : (kind : Kind) (n : ℕ) → kind_seen ty ≡ Some kind → name_of v ≡ Some n → NameFits code w kind n

-- of an empty register nothing is said
abbrev pub Holds : Parts → World → RegFact → Option Value → Type 0
Holds code w Empty o = Unit {0}
Holds code w (Held ty depth live) o = (v : Value) × (o ≡ Some v) × Has code w ty v

pub record RegsFit (code : Parts) (w : World) (known : List RegFact) (regs : Registers) : Type 0 where
  pub each : (r : ℕ) → Holds code w (fact_of known r) (read regs r)

-- values are of these types
abbrev pub ArgsFit : Parts → World → List Ty → List Value → Type 0
ArgsFit code w [] [] = Unit {0}
ArgsFit code w [] (v ∷ vs) = ⊥
ArgsFit code w (ty ∷ tys) [] = ⊥
ArgsFit code w (ty ∷ tys) (v ∷ vs) = Has code w ty v × ArgsFit code w tys vs

-- an object's values are of the types of its kind's cells
pub record ObjectFits (code : Parts) (w : World) (o : Object) : Type 0 where
  pub tys : List Ty
  pub cells : cells_of (kind_of code o.kind) (length o.values) ≡ Some tys
  pub values : ArgsFit code w tys o.values

abbrev pub WorldFits : Parts → World → Type 0
WorldFits code w = (n : ℕ) (o : Object) → object_at w n ≡ Some o → ObjectFits code w o

-- ---- later heaps

pub name_later : (code : Parts) (w u : World) (kind : Kind) (n : ℕ) → Later w u → NameFits code w kind n → NameFits code u kind n
name_later code w u kind n l h = record {
  given = let a = l.longer in let b = h.given in omega (arith, a, b);
  fits = λ o e. let p = l.same n h.given o e in subst (λ k. kind_fits code k kind ≡ true) (sym p.2) (h.fits p.0 p.1);
}

pub has_later : (code : Parts) (w u : World) (ty : Ty) (v : Value) → Later w u → Has code w ty v → Has code u ty v
has_later code w u ty v l h = record { shape = h.shape; leads = λ kind n e g. name_later code w u kind n l (h.leads kind n e g) }

holds_later : (code : Parts) (w u : World) (fact : RegFact) (o : Option Value) → Later w u → Holds code w fact o → Holds code u fact o
holds_later code w u Empty o l h = tt
holds_later code w u (Held ty d live) o l h = (h.0, h.1, has_later code w u ty h.0 l h.2)

pub regs_later : (code : Parts) (w u : World) (known : List RegFact) (regs : Registers) → Later w u → RegsFit code w known regs → RegsFit code u known regs
regs_later code w u known regs l h = record { each = λ r. holds_later code w u (fact_of known r) (read regs r) l (h.each r) }

pub args_later : (code : Parts) (w u : World) (tys : List Ty) (vs : List Value) → Later w u → ArgsFit code w tys vs → ArgsFit code u tys vs
args_later code w u [] [] l h = tt
args_later code w u [] (v ∷ vs) l h = absurd h
args_later code w u (ty ∷ tys) [] l h = absurd h
args_later code w u (ty ∷ tys) (v ∷ vs) l h = (has_later code w u ty v l h.0, args_later code w u tys vs l h.1)

-- ---- values that lead nowhere

pub has_plain : (code : Parts) (w : World) (ty : Ty) (v : Value) → kind_seen ty ≡ None → value_has ty v ≡ true → Has code w ty v
has_plain code w ty v e h = record { shape = h; leads = λ kind n g q. let x : ⊥ = cc in absurd x }

-- what is of no owner's and no isolate's type owns nothing
pub owns_nothing : (n : ℕ) (ty : Ty) (v : Value) → is_owned ty ≡ false → value_has ty v ≡ true → own n v ≡ 0
owns_nothing n t.Int (Int z) e h = refl
owns_nothing n t.Truth (Truth b) e h = refl
owns_nothing n t.Text (Text b) e h = refl
owns_nothing n (t.Ref kind) (Ref m) e h = refl
owns_nothing n (t.Frozen kind) (Ref m) e h = refl
owns_nothing n _ _ e h = let x : ⊥ = cc in absurd x

-- ---- equal types

pub kind_is : (a b : Kind) → (a.0 == b.0) ≡ true → a ≡ b
kind_is a b e = let x : a.0 ≡ b.0 = grind arith in ap (λ n. the_kind n) x
  where
    the_kind : ℕ → Kind
    the_kind n = record { 0 = n }

pub type_is : (a b : Ty) → same_type a b ≡ true → a ≡ b
type_is t.Void t.Void e = refl
type_is t.Int t.Int e = refl
type_is t.Truth t.Truth e = refl
type_is t.Text t.Text e = refl
type_is (t.Own k) (t.Own m) e = ap t.Own (kind_is k m e)
type_is (t.Ref k) (t.Ref m) e = ap t.Ref (kind_is k m e)
type_is (t.Frozen k) (t.Frozen m) e = ap t.Frozen (kind_is k m e)
type_is (t.Iso k) (t.Iso m) e = ap t.Iso (kind_is k m e)
type_is _ _ e = let x : ⊥ = cc in absurd x

module _ (code : Parts) (w : World) where
  -- ---- writing

  put_holds : (known : List RegFact) (regs : Registers) (to r : ℕ) (fact : RegFact) (o : Option Value) → Holds code w fact o
      → ((q : ℕ) → Holds code w (fact_of known q) (read regs q)) → Holds code w (fact_of (slice_set known to fact) r) (read (put regs to o) r)
  put_holds [] regs to r fact o h fits = tt
  put_holds (x ∷ known) [] zero zero fact o h fits = h
  put_holds (x ∷ known) [] zero (suc r) fact o h fits = fits (suc r)
  put_holds (x ∷ known) [] (suc to) zero fact o h fits = fits zero
  put_holds (x ∷ known) [] (suc to) (suc r) fact o h fits = put_holds known [] to r fact o h (λ q. fits (suc q))
  put_holds (x ∷ known) (y ∷ regs) zero zero fact o h fits = h
  put_holds (x ∷ known) (y ∷ regs) zero (suc r) fact o h fits = fits (suc r)
  put_holds (x ∷ known) (y ∷ regs) (suc to) zero fact o h fits = fits zero
  put_holds (x ∷ known) (y ∷ regs) (suc to) (suc r) fact o h fits = put_holds known regs to r fact o h (λ q. fits (suc q))

  pub put_fits : (known : List RegFact) (regs : Registers) (to : ℕ) (fact : RegFact) (o : Option Value) → Holds code w fact o → RegsFit code w known regs
      → RegsFit code w (slice_set known to fact) (put regs to o)
  put_fits known regs to fact o h fits = record { each = λ r. put_holds known regs to r fact o h fits.each }

  -- ---- labels

  agrees_holds : (stated fact : RegFact) (o : Option Value) → agrees stated fact ≡ true → Holds code w fact o → Holds code w stated o
  agrees_holds Empty fact o e h = tt
  agrees_holds (Held ty depth live) Empty o e h = let x : ⊥ = cc in absurd x
  agrees_holds (Held ty depth live) (Held u d l) o e h =
      (h.0, h.1, subst (λ x. Has code w x h.0) (sym (type_is ty u (and_parts _ _ (and_parts _ _ e).0).0)) h.2)

  agree_holds : (stated known : List RegFact) (regs : Registers) (r : ℕ) → agree stated known ≡ true
      → ((q : ℕ) → Holds code w (fact_of known q) (read regs q)) → Holds code w (fact_of stated r) (read regs r)
  agree_holds [] known regs r e fits = tt
  agree_holds (x ∷ stated) [] regs r e fits = let x : ⊥ = cc in absurd x
  agree_holds (x ∷ stated) (y ∷ known) regs zero e fits = agrees_holds x y (read regs zero) (and_parts _ _ e).0 (fits zero)
  agree_holds (x ∷ stated) (y ∷ known) [] (suc r) e fits = agree_holds stated known [] r (and_parts _ _ e).1 (λ q. fits (suc q))
  agree_holds (x ∷ stated) (y ∷ known) (v ∷ regs) (suc r) e fits = agree_holds stated known regs r (and_parts _ _ e).1 (λ q. fits (suc q))

  pub agree_fits : (stated known : List RegFact) (regs : Registers) → agree stated known ≡ true → RegsFit code w known regs → RegsFit code w stated regs
  agree_fits stated known regs e fits = record { each = λ r. agree_holds stated known regs r e fits.each }

  -- ---- reading

  fact_value : (ty : Ty) (fact : RegFact) (o : Option Value) → has ty fact ≡ true → is_there fact ≡ true → Holds code w fact o
      → (v : Value) × (o ≡ Some v) × Has code w ty v
  fact_value ty Empty o e there h = let x : ⊥ = cc in absurd x
  fact_value ty (Held u d l) o e there h = (h.0, h.1, subst (λ x. Has code w x h.0) (type_is u ty e) h.2)

  pub reg_value : (known : List RegFact) (regs : Registers) (a : ℕ) (ty : Ty) → RegsFit code w known regs → has ty (fact_of known a) ≡ true → is_there (fact_of known a) ≡ true
      → (v : Value) × (read regs a ≡ Some v) × Has code w ty v
  reg_value known regs a ty fits e there = fact_value ty (fact_of known a) (read regs a) e there (fits.each a)

  -- ---- a function's entry

  empty_holds : (n r : ℕ) (o : Option Value) → Holds code w (fact_of (replicate n Empty) r) o
  empty_holds zero r o = tt
  empty_holds (suc n) zero o = tt
  empty_holds (suc n) (suc r) o = empty_holds n r o

  params_hold : (n m k : ℕ) (live : List ℕ) (tys : List Ty) (vs : List Value) (r : ℕ) → ArgsFit code w tys vs
      → Holds code w (fact_of (params_from n live tys ++ replicate m Empty) r) (read (map Some vs ++ replicate k None) r)
  params_hold n m k live [] vs r h = empty_holds m r _
  params_hold n m k live (ty ∷ tys) [] r h = absurd h
  params_hold n m k live (ty ∷ tys) (v ∷ vs) zero h = (v, refl, h.0)
  params_hold n m k live (ty ∷ tys) (v ∷ vs) (suc r) h = params_hold (n + 1) m k live tys vs r h.1

  pub entry_fits : (count m : ℕ) (live : List ℕ) (tys : List Ty) (vs : List Value) → ArgsFit code w tys vs
      → RegsFit code w (params_from 0 live tys ++ replicate m Empty) (registers_for count vs)
  entry_fits count m live tys vs h = record { each = λ r. params_hold 0 m (count - length vs) live tys vs r h }
