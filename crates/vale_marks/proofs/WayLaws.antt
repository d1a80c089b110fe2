-- The ways between kinds: what leads rises with the marks, and as many rounds as there are kinds find all that leads anywhere.
use Rattle.std.proofs.Common.{◌≡◌, ◌≢◌, ℕ, zero, suc, ◌+◌, ◌<◌, ◌≤◌, List, [], ◌∷◌, length, get_or, replicate, Bool, true, false, ◌||◌, ◌&&◌, Option, Some, None, refl, sym, ap, subst, ◌∙◌, ⊎_elim, arith, get_or-set_other, get_or-set_same, ◌⊎◌}
use Rattle.std.proofs.Math.ListN.{set}
use Rattle.std.proofs.Math.Path.{fun_ext}
use Rattle.std.proofs.lemmas.Bool.{cases_lt, false≢true}
use Rattle.std.proofs.lemmas.Option.{slice_get_past, slice_get-get_or}
use Rattle.std.specs.List.{list_any}
use Rattle.std.specs.Prelude.{slice_get, ◌==◌}
use Rattle.vale_code.specs.Parts.{Parts}
use Rattle.vale_code.specs.declared.func.Impl.{Impl}
use Rattle.vale_code.specs.declared.kind.KindInfo.{KindInfo}
use Rattle.vale_code.specs.declared.kind.KindInfo.TheVariants as k
use Rattle.vale_code.specs.declared.ty.Ty.{Ty}
use Rattle.vale_code.specs.declared.ty.Ty.TheVariants as t
use Rattle.vale_cert.specs.Types.{marked, or_false, type_reaches, field_reaches, impl_reaches, kind_reaches, reaches_within, reaches_isolate, item_test, isolates_under}
use Rattle.vale_marks.specs.Ways.{type_leads, info_leads, has_leads, impls_lead, interface_leads, leads, leads_within, leads_to_isolate, AreSound, IsEdge}
use Rattle.vale_marks.specs.declared.edges.Edge.{Edge}
use Rattle.vale_marks.specs.declared.way.Way.{Way}
use Rattle.vale_marks.specs.declared.way.Way.TheVariants.{Any, Arrays}
use Rattle.vale_marks.proofs.ReachLaws as reach

-- ---- marks as a list

pub marked_is : (marks : List Bool) (n : ℕ) → marked marks n ≡ get_or marks n false
marked_is [] n = refl
marked_is (m ∷ marks) zero = refl
marked_is (m ∷ marks) (suc n) = marked_is marks n

marked_past : (marks : List Bool) (n : ℕ) → length marks ≤ n → marked marks n ≡ false
marked_past marks n past = ap or_false (slice_get_past marks n past)

pub none_marked : (count n : ℕ) → marked (replicate count false) n ≡ false
none_marked zero n = refl
none_marked (suc count) zero = refl
none_marked (suc count) (suc n) = none_marked count n

pub marked_set_same : (marks : List Bool) (n : ℕ) (b : Bool) → n < length marks → marked (set marks n b) n ≡ b
marked_set_same marks n b lt = marked_is (set marks n b) n ∙ get_or-set_same marks n b false lt

pub marked_set_other : (marks : List Bool) (n m : ℕ) (b : Bool) → m ≢ n → marked (set marks n b) m ≡ marked marks m
marked_set_other marks n m b ne = marked_is (set marks n b) m ∙ get_or-set_other marks n m b false ne ∙ sym (marked_is marks m)

pub same_marked : (marks next : List Bool) → length next ≡ length marks → ((k : ℕ) → k < length marks → get_or next k false ≡ get_or marks k false) → (n : ℕ) → marked next n ≡ marked marks n
same_marked marks next whole same n =
    ⊎_elim
    (λ less. marked_is next n ∙ same n less ∙ sym (marked_is marks n))
    (λ ge. let past : length next ≤ n = omega (arith, whole, ge) in marked_past next n past ∙ sym (marked_past marks n ge))
    (cases_lt n (length marks))

-- ---- a turn over the kinds

pub one_more : (way : Way) (kinds : List KindInfo) (marks next : List Bool) (n : ℕ) (info : KindInfo) (b : Bool) → n < length next → n < length kinds → info ≡ get_or kinds n info
    → b ≡ info_leads way (marked marks) info
    → ((m : ℕ) → m < n → marked next m ≡ has_leads way (marked marks) (slice_get kinds m))
    → (m : ℕ) → m < n + 1 → marked (set next n b) m ≡ has_leads way (marked marks) (slice_get kinds m)
one_more way kinds marks next n info b inside within is it before m lt =
    ⊎_elim
    (λ less. let ne : m ≢ n = omega (arith, less) in marked_set_other next n m b ne ∙ before m less)
    (λ ge.
    let same : n ≡ m = omega (arith, lt, ge) in
    let there : slice_get kinds n ≡ Some info = slice_get-get_or kinds n info within ∙ ap Some (sym is) in
    let itself : marked (set next n b) n ≡ has_leads way (marked marks) (slice_get kinds n) = marked_set_same next n b inside ∙ it ∙ ap (has_leads way (marked marks)) (sym there) in
    subst (λ x. marked (set next n b) x ≡ has_leads way (marked marks) (slice_get kinds x)) same itself)
    (cases_lt m n)

pub all_marked : (way : Way) (kinds : List KindInfo) (marks next : List Bool) (n : ℕ) → length next ≡ length kinds → length kinds ≤ n
    → ((m : ℕ) → m < n → marked next m ≡ has_leads way (marked marks) (slice_get kinds m))
    → (m : ℕ) → marked next m ≡ has_leads way (marked marks) (slice_get kinds m)
all_marked way kinds marks next n whole all before m =
    ⊎_elim
    (λ less. before m less)
    (λ ge.
    let past : length next ≤ m = omega (arith, whole, all, ge) in let gone : length kinds ≤ m = omega (arith, all, ge) in
    marked_past next m past ∙ ap (has_leads way (marked marks)) (sym (slice_get_past kinds m gone)))
    (cases_lt m n)

-- ---- a turn over the implementations

or_none : (b : Bool) → (b || false) ≡ b
or_none true = refl
or_none false = refl

or_in_turn : (a b c : Bool) → ((a || b) || c) ≡ (a || (b || c))
or_in_turn true b c = refl
or_in_turn false b c = refl

-- no implementation leads anywhere
pub none_lead : (is_marked : ℕ → Bool) (n : ℕ) (info : Option KindInfo) → impls_lead is_marked [] n info ≡ false
none_lead is_marked n None = refl
none_lead is_marked n (Some (k.Struct name destructor fields)) = refl
none_lead is_marked n (Some (k.Interface name methods)) = refl
none_lead is_marked n (Some (k.Array item)) = refl

-- the first one, and the others
pub first_leads : (is_marked : ℕ → Bool) (impl : Impl) (impls : List Impl) (n : ℕ) (info : Option KindInfo) (b : Bool)
    → ((b || impls_lead is_marked (impl ∷ []) n info) || impls_lead is_marked impls n info) ≡ (b || impls_lead is_marked (impl ∷ impls) n info)
first_leads is_marked impl impls n None b = ap (λ (x : Bool). x || false) (or_none b)
first_leads is_marked impl impls n (Some (k.Struct name destructor fields)) b = ap (λ (x : Bool). x || false) (or_none b)
first_leads is_marked impl impls n (Some (k.Array item)) b = ap (λ (x : Bool). x || false) (or_none b)
first_leads is_marked impl impls n (Some (k.Interface name methods)) b =
    let x = impl_reaches is_marked n impl in
    let more = list_any (impl_reaches is_marked n) impls in
    ap (λ (y : Bool). (b || y) || more) (or_none x) ∙ or_in_turn b x more

-- ---- what leads rises with the marks

or_right : (a b : Bool) → b ≡ true → (a || b) ≡ true
or_right true b is = refl
or_right false b is = is

or_rises : (a b c d : Bool) → (a ≡ true → c ≡ true) → (b ≡ true → d ≡ true) → (a || b) ≡ true → (c || d) ≡ true
or_rises true b c d left right is = ap (λ (x : Bool). x || d) (left refl)
or_rises false b c d left right is = or_right c d (right is)

and_rises : (a b c : Bool) → (b ≡ true → c ≡ true) → (a && b) ≡ true → (a && c) ≡ true
and_rises true b c up is = up is
and_rises false b c up is = is

any_rises : {A : Type 0} (p q : A → Bool) → ((x : A) → p x ≡ true → q x ≡ true) → (xs : List A) → list_any p xs ≡ true → list_any q xs ≡ true
any_rises p q up [] is = is
any_rises p q up (x ∷ xs) is =
    elim (p x) as (λ b. p x ≡ b → (b || list_any p xs) ≡ true → (q x || list_any q xs) ≡ true) [
      | true ↦ λ e h. ap (λ (b : Bool). b || list_any q xs) (up x e)
      | false ↦ λ e h. or_right (q x) (list_any q xs) (any_rises p q up xs h)
    ] refl is

module _ (a b : ℕ → Bool) (up : reach.Within a b) where
  type_rises : (way : Way) (ty : Ty) → type_leads way a ty ≡ true → type_leads way b ty ≡ true
  type_rises Any t.Void is = is
  type_rises Any t.Int is = is
  type_rises Any t.Truth is = is
  type_rises Any t.Text is = is
  type_rises Any (t.Own kind) is = up kind.0 is
  type_rises Any (t.Ref kind) is = up kind.0 is
  type_rises Any (t.Frozen kind) is = up kind.0 is
  type_rises Any (t.Iso kind) is = is
  type_rises Arrays t.Void is = is
  type_rises Arrays t.Int is = is
  type_rises Arrays t.Truth is = is
  type_rises Arrays t.Text is = is
  type_rises Arrays (t.Own kind) is = up kind.0 is
  type_rises Arrays (t.Ref kind) is = is
  type_rises Arrays (t.Frozen kind) is = is
  type_rises Arrays (t.Iso kind) is = is

  has_rises : (way : Way) (info : Option KindInfo) → has_leads way a info ≡ true → has_leads way b info ≡ true
  has_rises way None is = is
  has_rises Any (Some (k.Struct name destructor fields)) is = any_rises (field_reaches a) (field_reaches b) (λ f. type_rises Any f.ty) fields is
  has_rises Arrays (Some (k.Struct name destructor fields)) is = is
  has_rises Any (Some (k.Interface name methods)) is = is
  has_rises Arrays (Some (k.Interface name methods)) is = is
  has_rises Any (Some (k.Array item)) is = type_rises Any item is
  has_rises Arrays (Some (k.Array item)) is = type_rises Arrays item is

  impl_rises : (n : ℕ) (impl : Impl) → impl_reaches a n impl ≡ true → impl_reaches b n impl ≡ true
  impl_rises n impl is = and_rises (impl.interface.0 == n) (a impl.of.0) (b impl.of.0) (up impl.of.0) is

  interface_rises : (way : Way) (impls : List Impl) (n : ℕ) (info : Option KindInfo) → interface_leads way a impls n info ≡ true → interface_leads way b impls n info ≡ true
  interface_rises Arrays impls n info is = is
  interface_rises Any impls n None is = is
  interface_rises Any impls n (Some (k.Struct name destructor fields)) is = is
  interface_rises Any impls n (Some (k.Array item)) is = is
  interface_rises Any impls n (Some (k.Interface name methods)) is = any_rises (impl_reaches a n) (impl_reaches b n) (impl_rises n) impls is

pub leads_rises : (way : Way) (code : Parts) (a b : ℕ → Bool) → reach.Within a b → reach.Within (leads way code a) (leads way code b)
leads_rises way code a b up n is =
    let info = slice_get code.kinds n in
    or_rises (has_leads way a info) (interface_leads way a code.impls n info) (has_leads way b info) (interface_leads way b code.impls n info)
    (has_rises a b up way info) (interface_rises a b up way code.impls n info) is

none_of : (way : Way) (a : ℕ → Bool) (impls : List Impl) (n : ℕ) → interface_leads way a impls n None ≡ false
none_of Any a impls n = refl
none_of Arrays a impls n = refl

pub leads_past : (way : Way) (code : Parts) (a : ℕ → Bool) (n : ℕ) → length code.kinds ≤ n → leads way code a n ≡ false
leads_past way code a n le =
    ap (λ (info : Option KindInfo). has_leads way a info || interface_leads way a code.impls n info) (slice_get_past code.kinds n le) ∙ none_of way a code.impls n

-- ---- rounds

module _ (way : Way) (code : Parts) where
  pub stays_sound : (a : ℕ → Bool) → reach.Within a (leads_to_isolate way code) → reach.Within (leads way code a) (leads_to_isolate way code)
  stays_sound a = reach.stays_sound (leads way code) (length code.kinds) (leads_rises way code) (leads_past way code) (leads_within way code) (λ n. refl) (λ m n. refl) a

  pub goes_on : (a : ℕ → Bool) (m : ℕ) → reach.Within (leads_within way code m) a → reach.Within (leads_within way code (suc m)) (leads way code a)
  goes_on a m = reach.goes_on (leads way code) (length code.kinds) (leads_rises way code) (leads_past way code) (leads_within way code) (λ n. refl) (λ m n. refl) a m

  pub fixed : (a : ℕ → Bool) → reach.Within a (leads_to_isolate way code) → ((n : ℕ) → a n ≡ leads way code a n) → (n : ℕ) → a n ≡ leads_to_isolate way code n
  fixed a = reach.fixed (leads way code) (length code.kinds) (leads_rises way code) (leads_past way code) (leads_within way code) (λ n. refl) (λ m n. refl) a

  pub all_rounds : (a : ℕ → Bool) → reach.Within a (leads_to_isolate way code) → reach.Within (leads_to_isolate way code) a → (n : ℕ) → a n ≡ leads_to_isolate way code n
  all_rounds a = reach.all_rounds (leads way code) (length code.kinds) (leads_rises way code) (leads_past way code) (leads_within way code) (λ n. refl) (λ m n. refl) a

  -- what leads to a kind that leads to an isolate is marked next
  pub marked_next : (old new : List Bool) (edge : Edge) (kind : ℕ) → AreSound way code old → IsEdge way code edge → edge.to ≡ kind → leads_to_isolate way code kind ≡ true
      → ((k : ℕ) → marked new k ≡ true → (marked old k ≡ true) ⊎ (k ≡ edge.from)) → AreSound way code new
  marked_next old new edge kind sound is_edge to leads_on added n is =
      let reached = leads_to_isolate way code in
      let source : reached edge.from ≡ true = stays_sound reached (λ k h. h) edge.from (is_edge reached (ap reached to ∙ leads_on)) in
      ⊎_elim (λ before. sound n before) (λ same. ap reached same ∙ source) (added n is)

  -- the first turn finds no more than a round does
  pub first_sound : (none marks : List Bool) → ((n : ℕ) → marked none n ≡ false) → ((n : ℕ) → marked marks n ≡ leads way code (marked none) n) → AreSound way code marks
  first_sound none marks empty turn n is = stays_sound (marked none) (λ k h. absurd (false≢true (sym (empty k) ∙ h))) n (sym (turn n) ∙ is)

-- ---- what the rounds find, by the certificates' own definitions

any_leads : (code : Parts) (a : ℕ → Bool) (n : ℕ) (info : Option KindInfo) → (has_leads Any a info || interface_leads Any a code.impls n info) ≡ kind_reaches a code.impls n info
any_leads code a n None = refl
any_leads code a n (Some (k.Struct name destructor fields)) = or_none (list_any (field_reaches a) fields)
any_leads code a n (Some (k.Interface name methods)) = refl
any_leads code a n (Some (k.Array item)) = or_none (type_reaches a item)

any_within : (code : Parts) (m n : ℕ) → leads_within Any code m n ≡ reaches_within code m n
any_within code zero n = refl
any_within code (suc m) n =
    any_leads code (leads_within Any code m) n (slice_get code.kinds n)
    ∙ ap (λ (a : ℕ → Bool). kind_reaches a code.impls n (slice_get code.kinds n)) (fun_ext (any_within code m))

pub reaches_any : (code : Parts) (n : ℕ) → leads_to_isolate Any code n ≡ reaches_isolate code n
reaches_any code n = any_within code (length code.kinds) n

-- an array that is owned leads where its elements do
under_item : (code : Parts) (m : ℕ) (a : ℕ → Bool) → ((n : ℕ) → a n ≡ isolates_under code m (t.Own (record { 0 = n }))) → (item : Ty) → type_leads Arrays a item ≡ isolates_under code m item
under_item code m a same (t.Own kind) = same kind.0
under_item code zero a same t.Void = refl
under_item code zero a same t.Int = refl
under_item code zero a same t.Truth = refl
under_item code zero a same t.Text = refl
under_item code zero a same (t.Ref kind) = refl
under_item code zero a same (t.Frozen kind) = refl
under_item code zero a same (t.Iso kind) = refl
under_item code (suc m) a same t.Void = refl
under_item code (suc m) a same t.Int = refl
under_item code (suc m) a same t.Truth = refl
under_item code (suc m) a same t.Text = refl
under_item code (suc m) a same (t.Ref kind) = refl
under_item code (suc m) a same (t.Frozen kind) = refl
under_item code (suc m) a same (t.Iso kind) = refl

under_info : (code : Parts) (m : ℕ) (a : ℕ → Bool) → ((n : ℕ) → a n ≡ isolates_under code m (t.Own (record { 0 = n }))) → (info : Option KindInfo) → (has_leads Arrays a info || false) ≡ item_test (isolates_under code m) info
under_info code m a same None = refl
under_info code m a same (Some (k.Struct name destructor fields)) = refl
under_info code m a same (Some (k.Interface name methods)) = refl
under_info code m a same (Some (k.Array item)) = or_none (type_leads Arrays a item) ∙ under_item code m a same item

arrays_within : (code : Parts) (m n : ℕ) → leads_within Arrays code m n ≡ isolates_under code m (t.Own (record { 0 = n }))
arrays_within code zero n = refl
arrays_within code (suc m) n = under_info code m (leads_within Arrays code m) (arrays_within code m) (slice_get code.kinds n)

pub isolates_by_arrays : (code : Parts) (n : ℕ) → leads_to_isolate Arrays code n ≡ isolates_under code (length code.kinds) (t.Own (record { 0 = n }))
isolates_by_arrays code n = arrays_within code (length code.kinds) n
