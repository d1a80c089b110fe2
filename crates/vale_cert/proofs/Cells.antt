-- What objects hold, and what operands lead to.
use Rattle.std.proofs.Common.{◌≡◌, ℕ, zero, suc, ◌+◌, List, [], ◌∷◌, ◌++◌, length, replicate, Option, Some, None, Bool, true, false, ◌||◌, not, if◌then◌else◌, nat_lt, refl, sym, ap, ◌∙◌, subst, arith}
use Rattle.std.specs.Prelude.{slice_get, slice_set}
use Rattle.vale_state_spec.specs.State.{name_of, lent, front_from, last_from}
use Rattle.vale_state_spec.specs.World.{Value, Int, Truth, Text, Own, Ref, Iso, Object, World, born, died, written}
use Rattle.vale_base.specs.declared.name.Kind.{Kind}
use Rattle.vale_code.specs.Kinds.{kind_of}
use Rattle.vale_code.specs.Parts.{Parts}
use Rattle.vale_code.specs.declared.kind.KindInfo.{KindInfo}
use Rattle.vale_code.specs.declared.kind.KindInfo.TheVariants as k
use Rattle.vale_code.specs.declared.ty.Ty.{Ty}
use Rattle.vale_code.specs.declared.ty.Ty.TheVariants as t
use Rattle.vale_cert.specs.Certificate.{Certified}
use Rattle.vale_cert.specs.Known.{is_there}
use Rattle.vale_cert.specs.Objects.{types_of, cells_of, fields_of, field_of, type_in, item_of, item_in, owner_kind, reference_kind, read_kind, seen}
use Rattle.vale_cert.specs.Rules.{is_known}
use Rattle.vale_cert.specs.declared.facts.FuncFacts.{FuncFacts}
use Rattle.vale_cert.specs.declared.facts.RegFact.{RegFact}
use Rattle.vale_cert.specs.declared.facts.RegFact.TheVariants.{Empty, Held}
use Rattle.vale_cert.proofs.Fit.{value_has, kind_seen, NameFits, Has, Holds, ArgsFit, ObjectFits, WorldFits, args_later}
use Rattle.vale_cert.proofs.Heap.{object_at, Later, own, in_values, set_each, born_each}
use Rattle.vale_cert.proofs.KindLaws.{exactly}

-- ---- values that lead to objects

pub name_there : (ty : Ty) (v : Value) (kind : Kind) → kind_seen ty ≡ Some kind → value_has ty v ≡ true → (n : ℕ) × (name_of v ≡ Some n)
name_there (t.Own q) (Own n) kind e h = (n, refl)
name_there (t.Ref q) (Ref n) kind e h = (n, refl)
name_there (t.Frozen q) (Ref n) kind e h = (n, refl)
name_there (t.Iso q) (Iso n) kind e h = (n, refl)
name_there _ _ kind e h = let x : ⊥ = cc in absurd x

pub owner_there : (kind : Kind) (v : Value) → value_has (t.Own kind) v ≡ true → (n : ℕ) × (v ≡ Own n)
owner_there kind (Own n) h = (n, refl)
owner_there kind _ h = let x : ⊥ = cc in absurd x

module _ (code : Parts) (w : World) where
  -- a value that leads to an object of a kind
  pub leading : (ty : Ty) (v : Value) (kind : Kind) (x : ℕ) → kind_seen ty ≡ Some kind → name_of v ≡ Some x → value_has ty v ≡ true → NameFits code w kind x → Has code w ty v
  leading ty v kind x e g h fits = record {
    shape = h;
    leads = λ m n a b.
        let like : kind ≡ m = cc in
        let named : x ≡ n = cc in
        subst (λ m. NameFits code w m n) like (subst (λ n. NameFits code w kind n) named fits);
  }

  -- ---- what is read of a cell

  as_frozen_ref : (ty : Ty) (kind : Kind) (v : Value) (n : ℕ) → kind_seen ty ≡ Some kind → name_of v ≡ Some n → Has code w ty v → Has code w (t.Frozen kind) (Ref n)
  as_frozen_ref ty kind v n e g h = leading (t.Frozen kind) (Ref n) kind n refl refl refl (h.leads kind n e g)

  -- it is of the type that is seen, and owns nothing
  pub seen_has : (frozen : Bool) (ty : Ty) (v : Value) → (frozen || not (Rattle.vale_cert.specs.Types.is_isolate ty)) ≡ true → Has code w ty v → Has code w (seen frozen ty) (lent v) × ((n : ℕ) → own n (lent v) ≡ 0)
  seen_has frozen ty v e h = from frozen ty v e h h.shape
    where
      from : (frozen : Bool) (ty : Ty) (v : Value) → (frozen || not (Rattle.vale_cert.specs.Types.is_isolate ty)) ≡ true → Has code w ty v → value_has ty v ≡ true → Has code w (seen frozen ty) (lent v) × ((n : ℕ) → own n (lent v) ≡ 0)
      from true t.Int (Int z) e h g = (h, λ n. refl)
      from true t.Truth (Truth b) e h g = (h, λ n. refl)
      from true t.Text (Text b) e h g = (h, λ n. refl)
      from true (t.Own q) (Own m) e h g = (as_frozen_ref (t.Own q) q (Own m) m refl refl h, λ n. refl)
      from true (t.Ref q) (Ref m) e h g = (as_frozen_ref (t.Ref q) q (Ref m) m refl refl h, λ n. refl)
      from true (t.Frozen q) (Ref m) e h g = (h, λ n. refl)
      from true (t.Iso q) (Iso m) e h g = (as_frozen_ref (t.Iso q) q (Iso m) m refl refl h, λ n. refl)
      from false t.Int (Int z) e h g = (h, λ n. refl)
      from false t.Truth (Truth b) e h g = (h, λ n. refl)
      from false t.Text (Text b) e h g = (h, λ n. refl)
      from false (t.Own q) (Own m) e h g = (leading (t.Ref q) (Ref m) q m refl refl refl (h.leads q m refl refl), λ n. refl)
      from false (t.Ref q) (Ref m) e h g = (h, λ n. refl)
      from false (t.Frozen q) (Ref m) e h g = (h, λ n. refl)
      from _ _ _ e h g = let x : ⊥ = cc in absurd x

  -- ---- lists of values

  pub cell_there : (tys : List Ty) (vs : List Value) (i : ℕ) (ty : Ty) → ArgsFit code w tys vs → slice_get tys i ≡ Some ty → (v : Value) × (slice_get vs i ≡ Some v) × Has code w ty v
  cell_there [] [] i ty h e = let x : ⊥ = cc in absurd x
  cell_there [] (v ∷ vs) i ty h e = absurd h
  cell_there (u ∷ tys) [] i ty h e = absurd h
  cell_there (u ∷ tys) (v ∷ vs) zero ty h e = let same_type : u ≡ ty = cc in (v, refl, subst (λ x. Has code w x v) same_type h.0)
  cell_there (u ∷ tys) (v ∷ vs) (suc i) ty h e = cell_there tys vs i ty h.1 e

  pub cell_set : (tys : List Ty) (vs : List Value) (i : ℕ) (ty : Ty) (new : Value) → ArgsFit code w tys vs → slice_get tys i ≡ Some ty → Has code w ty new → ArgsFit code w tys (slice_set vs i new)
  cell_set [] [] i ty new h e g = let x : ⊥ = cc in absurd x
  cell_set [] (v ∷ vs) i ty new h e g = absurd h
  cell_set (u ∷ tys) [] i ty new h e g = absurd h
  cell_set (u ∷ tys) (v ∷ vs) zero ty new h e g = let same_type : u ≡ ty = cc in (subst (λ x. Has code w x new) (sym same_type) g, h.1)
  cell_set (u ∷ tys) (v ∷ vs) (suc i) ty new h e g = (h.0, cell_set tys vs i ty new h.1 e g)

  pub args_length : (tys : List Ty) (vs : List Value) → ArgsFit code w tys vs → length tys ≡ length vs
  args_length [] [] h = refl
  args_length [] (v ∷ vs) h = absurd h
  args_length (u ∷ tys) [] h = absurd h
  args_length (u ∷ tys) (v ∷ vs) h = ap suc (args_length tys vs h.1)

  -- all values of one type
  abbrev pub Each : Ty → List Value → Type 0
  Each item [] = Unit {0}
  Each item (v ∷ vs) = Has code w item v × Each item vs

  pub each_of : (item : Ty) (vs : List Value) (count : ℕ) → ArgsFit code w (replicate count item) vs → Each item vs
  each_of item [] count h = tt
  each_of item (v ∷ vs) zero h = absurd h
  each_of item (v ∷ vs) (suc count) h = (h.0, each_of item vs count h.1)

  pub to_each : (item : Ty) (vs : List Value) → Each item vs → ArgsFit code w (replicate (length vs) item) vs
  to_each item [] h = tt
  to_each item (v ∷ vs) h = (h.0, to_each item vs h.1)

  pub each_at : (item : Ty) (vs : List Value) (i : ℕ) (v : Value) → Each item vs → slice_get vs i ≡ Some v → Has code w item v
  each_at item [] i v h e = let x : ⊥ = cc in absurd x
  each_at item (u ∷ vs) zero v h e = let same_value : u ≡ v = cc in subst (λ x. Has code w item x) same_value h.0
  each_at item (u ∷ vs) (suc i) v h e = each_at item vs i v h.1 e

  pub each_set : (item : Ty) (vs : List Value) (i : ℕ) (new : Value) → Each item vs → Has code w item new → Each item (slice_set vs i new)
  each_set item [] i new h g = tt
  each_set item (u ∷ vs) zero new h g = (g, h.1)
  each_set item (u ∷ vs) (suc i) new h g = (h.0, each_set item vs i new h.1 g)

  pub each_append : (item : Ty) (vs : List Value) (new : Value) → Each item vs → Has code w item new → Each item (vs ++ new ∷ [])
  each_append item [] new h g = (g, tt)
  each_append item (u ∷ vs) new h g = (h.0, each_append item vs new h.1 g)

  pub each_front : (item : Ty) (v : Value) (vs : List Value) → Has code w item v → Each item vs → Each item (front_from v vs) × Has code w item (last_from v vs)
  each_front item v [] h g = (tt, h)
  each_front item v (u ∷ us) h g = let r = each_front item u us g.0 g.1 in ((h, r.0), r.1)

pub front_owns : (n : ℕ) (v : Value) (vs : List Value) → in_values n (front_from v vs) + own n (last_from v vs) ≡ own n v + in_values n vs
front_owns n v [] = omega arith
front_owns n v (u ∷ us) = let x = front_owns n u us in omega (arith, x)

-- ---- objects

-- an object has a field of a type, and an object is an array
pub record StructAt (code : Parts) (w : World) (field : ℕ) (ty : Ty) (o : Object) : Type 0 where
  pub tys : List Ty
  pub cells : (count : ℕ) → cells_of (kind_of code o.kind) count ≡ Some tys
  pub at_field : slice_get tys field ≡ Some ty
  pub values : ArgsFit code w tys o.values

pub record ArrayAt (code : Parts) (w : World) (item : Ty) (o : Object) : Type 0 where
  pub cells : (count : ℕ) → cells_of (kind_of code o.kind) count ≡ Some (replicate count item)
  pub values : Each code w item o.values

module _ (code : Parts) (facts : List FuncFacts) (cert : Certified code facts) (w : World) (fits : WorldFits code w) where
  pub struct_at : (field : ℕ) (kind : Kind) (ty : Ty) (n : ℕ) (o : Object) → field_of code field kind ≡ Some ty → NameFits code w kind n → object_at w n ≡ Some o → StructAt code w field ty o
  struct_at field kind ty n o e names lives = from (kind_of code kind) refl e
    where
      from : (info : Option KindInfo) → kind_of code kind ≡ info → type_in (fields_of info) field ≡ Some ty → StructAt code w field ty o
      from (Some (k.Struct name destructor fields)) q e =
          let like = exactly code facts cert o.kind kind (k.Struct name destructor fields) q refl (names.fits o lives) in
          let is : kind_of code o.kind ≡ Some (k.Struct name destructor fields) = ap (λ k. kind_of code k) like ∙ q in
          let f = fits n o lives in
          let tys : Some f.tys ≡ Some (types_of fields) = sym f.cells ∙ ap (λ i. cells_of i (length o.values)) is in
          let tys_are : f.tys ≡ types_of fields = cc in
          record { tys = types_of fields; cells = λ count. ap (λ i. cells_of i count) is; at_field = e; values = subst (λ x. ArgsFit code w x o.values) tys_are f.values }
      from (Some (k.Array item)) q e = let x : ⊥ = cc in absurd x
      from (Some (k.Interface name methods)) q e = let x : ⊥ = cc in absurd x
      from None q e = let x : ⊥ = cc in absurd x

  -- all fields
  pub struct_values : (kind : Kind) (tys : List Ty) (n : ℕ) (o : Object) → fields_of (kind_of code kind) ≡ Some tys → NameFits code w kind n → object_at w n ≡ Some o → ArgsFit code w tys o.values
  struct_values kind tys n o e names lives = from (kind_of code kind) refl e
    where
      from : (info : Option KindInfo) → kind_of code kind ≡ info → fields_of info ≡ Some tys → ArgsFit code w tys o.values
      from (Some (k.Struct name destructor fields)) q e =
          let like = exactly code facts cert o.kind kind (k.Struct name destructor fields) q refl (names.fits o lives) in
          let is : kind_of code o.kind ≡ Some (k.Struct name destructor fields) = ap (λ k. kind_of code k) like ∙ q in
          let f = fits n o lives in
          let all : Some f.tys ≡ Some tys = sym f.cells ∙ ap (λ i. cells_of i (length o.values)) is ∙ e in
          let tys_are : f.tys ≡ tys = cc in
          subst (λ x. ArgsFit code w x o.values) tys_are f.values
      from (Some (k.Array item)) q e = let x : ⊥ = cc in absurd x
      from (Some (k.Interface name methods)) q e = let x : ⊥ = cc in absurd x
      from None q e = let x : ⊥ = cc in absurd x

  pub array_at : (kind : Kind) (item : Ty) (n : ℕ) (o : Object) → item_of code kind ≡ Some item → NameFits code w kind n → object_at w n ≡ Some o → ArrayAt code w item o
  array_at kind item n o e names lives = from (kind_of code kind) refl e
    where
      from : (info : Option KindInfo) → kind_of code kind ≡ info → item_in info ≡ Some item → ArrayAt code w item o
      from (Some (k.Array it)) q e =
          let same_item : it ≡ item = cc in
          let like = exactly code facts cert o.kind kind (k.Array it) q refl (names.fits o lives) in
          let is : kind_of code o.kind ≡ Some (k.Array it) = ap (λ k. kind_of code k) like ∙ q in
          let f = fits n o lives in
          let tys : Some f.tys ≡ Some (replicate (length o.values) it) = sym f.cells ∙ ap (λ i. cells_of i (length o.values)) is in
          let tys_are : f.tys ≡ replicate (length o.values) it = cc in
          record {
            cells = λ count. ap (λ i. cells_of i count) is ∙ ap (λ x. Some (replicate count x)) same_item;
            values = subst (λ x. Each code w x o.values) same_item (each_of code w it o.values (length o.values) (subst (λ x. ArgsFit code w x o.values) tys_are f.values));
          }
      from (Some (k.Struct name destructor fields)) q e = let x : ⊥ = cc in absurd x
      from (Some (k.Interface name methods)) q e = let x : ⊥ = cc in absurd x
      from None q e = let x : ⊥ = cc in absurd x

pub object_later : (code : Parts) (w u : World) (o : Object) → Later w u → ObjectFits code w o → ObjectFits code u o
object_later code w u o l f = record { tys = f.tys; cells = f.cells; values = args_later code w u f.tys o.values l f.values }

-- an object has other values now
pub written_fits : (code : Parts) (w : World) (n : ℕ) (o : Object) (vs : List Value) → Later w (written w n (record o { values = vs })) → WorldFits code w → ObjectFits code w (record o { values = vs }) → WorldFits code (written w n (record o { values = vs }))
written_fits code w n o vs later fits new m p e =
    set_each w n (Some (record o { values = vs })) (λ p. ObjectFits code (written w n (record o { values = vs })) p)
    (λ p h. let is : record o { values = vs } ≡ p = cc in subst (λ p. ObjectFits code (written w n (record o { values = vs })) p) is (object_later code w (written w n (record o { values = vs })) (record o { values = vs }) later new))
    (λ q p h. object_later code w (written w n (record o { values = vs })) p later (fits q p h)) m p e

pub born_fits : (code : Parts) (w : World) (o : Object) → Later w (born w o) → WorldFits code w → ObjectFits code w o → WorldFits code (born w o)
born_fits code w o later fits new n p e =
    born_each w o (λ p. ObjectFits code (born w o) p) (object_later code w (born w o) o later new) (λ q p h. object_later code w (born w o) p later (fits q p h)) n p e

pub died_fits : (code : Parts) (w : World) (n : ℕ) → Later w (died w n) → WorldFits code w → WorldFits code (died w n)
died_fits code w n later fits m p e =
    set_each w n None (λ p. ObjectFits code (died w n) p) (λ p h. let x : ⊥ = cc in absurd x) (λ q p h. object_later code w (died w n) p later (fits q p h)) m p e

-- ---- operands

-- what a fact says of the kind that its register leads to
pub record Follows (via : RegFact → Option Kind) : Type 0 where
  pub nowhere : via Empty ≡ None
  pub kind : (ty : Ty) (d : ℕ) (live : Bool) (kind : Kind) → via (Held ty d live) ≡ Some kind → kind_seen ty ≡ Some kind

pub follows_owner : Follows owner_kind
follows_owner = record { nowhere = refl; kind = each }
  where
    each : (ty : Ty) (d : ℕ) (live : Bool) (kind : Kind) → owner_kind (Held ty d live) ≡ Some kind → kind_seen ty ≡ Some kind
    each (t.Own q) d live kind e = e
    each _ d live kind e = let x : ⊥ = cc in absurd x

pub follows_reference : Follows reference_kind
follows_reference = record { nowhere = refl; kind = each }
  where
    each : (ty : Ty) (d : ℕ) (live : Bool) (kind : Kind) → reference_kind (Held ty d live) ≡ Some kind → kind_seen ty ≡ Some kind
    each (t.Ref q) d live kind e = e
    each _ d live kind e = let x : ⊥ = cc in absurd x

pub follows_read : (depth : ℕ) → Follows (read_kind depth)
follows_read depth = record { nowhere = refl; kind = each }
  where
    smaller : (b : Bool) (q kind : Kind) → (if b then Some q else None) ≡ Some kind → Some q ≡ Some kind
    smaller true q kind e = e
    smaller false q kind e = let x : ⊥ = cc in absurd x

    each : (ty : Ty) (d : ℕ) (live : Bool) (kind : Kind) → read_kind depth (Held ty d live) ≡ Some kind → kind_seen ty ≡ Some kind
    each (t.Ref q) d live kind e = e
    each (t.Frozen q) d live kind e = e
    each (t.Own q) d live kind e = smaller (nat_lt d depth) q kind e
    each (t.Iso q) d live kind e = smaller (nat_lt d depth) q kind e
    each _ d live kind e = let x : ⊥ = cc in absurd x

-- an operand leads to an object of a kind that has what is asked
pub record Led (code : Parts) (w : World) {A : Type 0} (via : RegFact → Option Kind) (cells : Option Kind → Option A) (fact : RegFact) (o : Option Value) : Type 0 where
  pub kind : Kind
  pub name : ℕ
  pub value : Value
  pub ty : Ty
  pub reads : o ≡ Some value
  pub has : Has code w ty value
  pub typed : kind_seen ty ≡ Some kind
  pub named : name_of value ≡ Some name
  pub via_kind : via fact ≡ Some kind
  pub names : NameFits code w kind name
  pub cell : A
  pub cell_is : cells (via fact) ≡ Some cell
  pub cell_of : cells (Some kind) ≡ Some cell

pub led : (code : Parts) (w : World) {A : Type 0} (via : RegFact → Option Kind) (cells : Option Kind → Option A) (fact : RegFact) (o : Option Value) → Follows via → cells None ≡ None
    → (not (is_there fact) || is_known (cells (via fact))) ≡ true → is_there fact ≡ true → Holds code w fact o → Led code w via cells fact o
led code w via cells Empty o f none e there h = let x : ⊥ = cc in absurd x
led code w {A} via cells (Held ty d live) o f none e there h = from (via (Held ty d live)) refl
  where
    found : (kind : Kind) → via (Held ty d live) ≡ Some kind → (c : Option A) → cells (via (Held ty d live)) ≡ c → Led code w via cells (Held ty d live) o
    found kind q None g = let y : is_known (cells (via (Held ty d live))) ≡ false = ap (λ c. is_known c) g in let x : ⊥ = cc in absurd x
    found kind q (Some cell) g =
        let typed = f.kind ty d live kind q in
        let n = name_there ty h.0 kind typed h.2.shape in
        record {
          kind = kind;
          name = n.0;
          value = h.0;
          ty = ty;
          reads = h.1;
          has = h.2;
          typed = typed;
          named = n.1;
          via_kind = q;
          names = h.2.leads kind n.0 typed n.1;
          cell = cell;
          cell_is = g;
          cell_of = sym (ap cells q) ∙ g;
        }

    from : (k : Option Kind) → via (Held ty d live) ≡ k → Led code w via cells (Held ty d live) o
    from None q = let y : is_known (cells (via (Held ty d live))) ≡ false = ap (λ k. is_known (cells k)) q ∙ ap (λ c. is_known c) none in let x : ⊥ = cc in absurd x
    from (Some kind) q = found kind q (cells (via (Held ty d live))) refl
