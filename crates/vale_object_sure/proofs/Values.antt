-- Which types have values: what is read of arrays and fields, and what fits where a value is wanted.
use Rattle.std.proofs.Common.{◌≡◌, ℕ, Bool, true, false, not, ◌&&◌, ◌||◌, ◌==◌, List, [], ◌∷◌, length, Option, Some, None, is_some, if◌then◌else◌, refl, sym, ap, ◌∙◌}
use Rattle.std.specs.List.{list_all}
use Rattle.std.proofs.lemmas.Bool.{and_parts}
use Rattle.vale_syntax.specs.declared.built_in.BuiltIn.{BuiltIn}
use Rattle.vale_syntax.specs.declared.built_in.BuiltIn.TheVariants as b
use Rattle.vale_syntax.specs.declared.tree.NameAt.{NameAt}
use Rattle.vale_syntax.specs.Tree.{TypeExpr, int_type, bool_type, str_type, named_type, array_type, ref_type, imm_ref_type, iso_type, FieldDecl, Param, Head, head, Item}
use Rattle.vale_rules_spec.specs.Declarations.{field_type, param_type, head_params}
use Rattle.vale_rules_spec.specs.Judged.{Rules, broken, ◌⇒◌}
use Rattle.vale_rules_spec.specs.TypeRules.{is_int, arity, takes_arguments, is_array_ref, popped, built_in_gives, all_fit, as_many, field_types, param_types, head_gives, is_pure_head, called_rules, called_gives, callee, Called, nothing, language, struct, program, is_owned_place, borrow_gives, array_in, part_of, stays_in_place}
use Rattle.vale_rules_spec.specs.Types.{Ty, void, int, bool, str, kind, array, ref, imm, iso, type_of, result_of, same, is_void, is_copy, is_owned, View, blind, direct, shared, frozen, seen_object, Seen, a_value, view_here, as_frozen, as_shared, part_seen, object_of, Local, local_seen, fits, fits_argument}
use Rattle.vale_rules_spec.specs.Typing.{type_in}
use Rattle.vale_lowering_objects.specs.Scopes as g
use Rattle.vale_lowering_objects.specs.Scopes.{Gives, copy, gives_of}
use Rattle.vale_object_sure.proofs.Marks.{are_values, takes_value}

-- ---- rows

pub rule_kept : (code : ℕ) (b : Bool) (rules : Rules) → broken ((code, b) ∷ rules) ≡ None → (b ≡ true) × (broken rules ≡ None)
rule_kept code true rules e = (refl, e)
rule_kept code false rules e = absurd (cc)

pub one_rule : (code : ℕ) (b : Bool) → broken ((code, b) ∷ []) ≡ None → b ≡ true
one_rule code b e = (rule_kept code b [] e).0

-- a rule that is asked only where another holds
pub asked : (a b : Bool) → (a ⇒ b) ≡ true → a ≡ true → b ≡ true
asked true b e h = e
asked false b e h = absurd (cc)

pub not_true : (b : Bool) → not b ≡ true → b ≡ false
not_true true e = absurd (cc)
not_true false e = refl

-- ---- types with elements that are values

abbrev pub Solid : Ty → Type 0
Solid (array x) = (is_void x ≡ false) × Solid x
Solid (ref x) = Solid x
Solid (imm x) = Solid x
Solid (iso x) = Solid x
Solid _ = Unit {0}

abbrev pub AllSolid : List Ty → Type 0
AllSolid [] = Unit {0}
AllSolid (x ∷ xs) = Solid x × AllSolid xs

-- of a value
abbrev pub IsValue : Ty → Type 0
IsValue x = Solid x × (is_void x ≡ false)

pub written : (x : TypeExpr) → IsValue (type_of x)
written (int_type at) = (tt, refl)
written (bool_type at) = (tt, refl)
written (str_type at) = (tt, refl)
written (named_type n) = (tt, refl)
written (array_type at x) = let h = written x in ((h.1, h.0), refl)
written (ref_type at x) = ((written x).0, refl)
written (imm_ref_type at x) = ((written x).0, refl)
written (iso_type at x) = ((written x).0, refl)

pub result_solid : (x : Option TypeExpr) → Solid (result_of x)
result_solid None = tt
result_solid (Some x) = (written x).0

pub gives_solid : (h : Head) → Solid (head_gives h)
gives_solid (head is_pure n ps x) = result_solid x

pub fields_values : (fs : List FieldDecl) → are_values (field_types fs)
fields_values [] = tt
fields_values (f ∷ fs) = ((written (field_type f)).1, fields_values fs)

pub params_values : (ps : List Param) → are_values (param_types ps)
params_values [] = tt
params_values (p ∷ ps) = ((written (param_type p)).1, params_values ps)

-- ---- what is known of what is seen

abbrev pub SomeSolid : Option Ty → Type 0
SomeSolid None = Unit {0}
SomeSolid (Some x) = Solid x

abbrev pub SomeValue : Option Ty → Type 0
SomeValue None = Unit {0}
SomeValue (Some x) = IsValue x

pub record IsSolid (s : Seen) : Type 0 where
  pub value : Solid s.value
  pub object : SomeSolid (seen_object s.view)
  pub place : SomeValue s.place
  pub lends : is_owned_place s.place ≡ true → gives_of (borrow_gives s.view) ≡ copy

pub value_solid : (x : Ty) → Solid x → IsSolid (a_value x)
value_solid void h = record { value = h; object = tt; place = tt; lends = λ e. absurd (cc) }
value_solid int h = record { value = h; object = tt; place = tt; lends = λ e. absurd (cc) }
value_solid bool h = record { value = h; object = tt; place = tt; lends = λ e. absurd (cc) }
value_solid str h = record { value = h; object = tt; place = tt; lends = λ e. absurd (cc) }
value_solid (kind n) h = record { value = h; object = tt; place = tt; lends = λ e. absurd (cc) }
value_solid (array x) h = record { value = h; object = tt; place = tt; lends = λ e. absurd (cc) }
value_solid (ref x) h = record { value = h; object = h; place = tt; lends = λ e. absurd (cc) }
value_solid (imm x) h = record { value = h; object = h; place = tt; lends = λ e. absurd (cc) }
value_solid (iso x) h = record { value = h; object = tt; place = tt; lends = λ e. absurd (cc) }

frozen_solid : (x : Ty) → IsValue x → IsSolid (as_frozen x (object_of x))
frozen_solid void h = record { value = h.0; object = tt; place = h; lends = λ e. absurd (cc) }
frozen_solid int h = record { value = h.0; object = tt; place = h; lends = λ e. absurd (cc) }
frozen_solid bool h = record { value = h.0; object = tt; place = h; lends = λ e. absurd (cc) }
frozen_solid str h = record { value = h.0; object = tt; place = h; lends = λ e. absurd (cc) }
frozen_solid (kind n) h = record { value = h.0; object = h.0; place = h; lends = λ e. refl }
frozen_solid (array x) h = record { value = h.0; object = h.0; place = h; lends = λ e. refl }
frozen_solid (ref x) h = record { value = h.0; object = h.0; place = h; lends = λ e. refl }
frozen_solid (imm x) h = record { value = h.0; object = h.0; place = h; lends = λ e. refl }
frozen_solid (iso x) h = record { value = h.0; object = h.0; place = h; lends = λ e. refl }

shared_solid : (x : Ty) → IsValue x → IsSolid (as_shared x (object_of x))
shared_solid void h = record { value = h.0; object = tt; place = h; lends = λ e. absurd (cc) }
shared_solid int h = record { value = h.0; object = tt; place = h; lends = λ e. absurd (cc) }
shared_solid bool h = record { value = h.0; object = tt; place = h; lends = λ e. absurd (cc) }
shared_solid str h = record { value = h.0; object = tt; place = h; lends = λ e. absurd (cc) }
shared_solid (kind n) h = record { value = h.0; object = h.0; place = h; lends = λ e. refl }
shared_solid (array x) h = record { value = h.0; object = h.0; place = h; lends = λ e. refl }
shared_solid (ref x) h = record { value = h.0; object = h.0; place = h; lends = λ e. refl }
shared_solid (imm x) h = record { value = h.0; object = h.0; place = h; lends = λ e. refl }
shared_solid (iso x) h = record { value = h.0; object = h.0; place = h; lends = λ e. refl }

here_solid : (x : Ty) → IsValue x → IsSolid (record { value = x; view = view_here x; place = Some x })
here_solid void h = record { value = h.0; object = tt; place = h; lends = λ e. absurd (cc) }
here_solid int h = record { value = h.0; object = tt; place = h; lends = λ e. absurd (cc) }
here_solid bool h = record { value = h.0; object = tt; place = h; lends = λ e. absurd (cc) }
here_solid str h = record { value = h.0; object = tt; place = h; lends = λ e. absurd (cc) }
here_solid (kind n) h = record { value = h.0; object = h.0; place = h; lends = λ e. refl }
here_solid (array x) h = record { value = h.0; object = h.0; place = h; lends = λ e. refl }
here_solid (ref x) h = record { value = h.0; object = h.0; place = h; lends = λ e. refl }
here_solid (imm x) h = record { value = h.0; object = h.0; place = h; lends = λ e. refl }
here_solid (iso x) h = record { value = h.0; object = h.0; place = h; lends = λ e. refl }

pub local_solid : (depth : ℕ) (l : Local) → IsValue l.ty → IsSolid (local_seen depth l)
local_solid depth l h = by (l.depth == depth)
  where
    by : (near : Bool) → IsSolid (if near then record { value = l.ty; view = view_here l.ty; place = Some l.ty } else as_frozen l.ty (object_of l.ty))
    by true = here_solid l.ty h
    by false = frozen_solid l.ty h

pub part_solid : (v : View) (x : Ty) → IsValue x → IsSolid (part_seen v x)
part_solid (frozen y) x h = frozen_solid x h
part_solid blind x h = shared_solid x h
part_solid (direct y) x h = shared_solid x h
part_solid (shared y) x h = shared_solid x h

-- ---- fields and elements

pub solid_part : (v : View) (o : Option Ty) → SomeValue o → IsSolid (part_of v o)
solid_part v None h = value_solid void tt
solid_part v (Some x) h = part_solid v x h

pub field_value : (o : Option FieldDecl) → SomeValue (type_in o)
field_value None = tt
field_value (Some f) = written (field_type f)

pub element_value : (o : Option Ty) → SomeSolid o → SomeValue (array_in o)
element_value None h = tt
element_value (Some (array x)) h = (h.1, h.0)
element_value (Some void) h = tt
element_value (Some int) h = tt
element_value (Some bool) h = tt
element_value (Some str) h = tt
element_value (Some (kind n)) h = tt
element_value (Some (ref x)) h = tt
element_value (Some (imm x)) h = tt
element_value (Some (iso x)) h = tt

-- what values are given, by whether they are void and whether they are owned
abbrev gives_by : Bool → Bool → Gives
gives_by a b = if a then g.void else (if b then g.owner else copy)

pub copied : (x : Ty) → is_void x ≡ false → is_owned x ≡ false → gives_of x ≡ copy
copied x v o = ap (λ q. gives_by q (is_owned x)) v ∙ ap (λ q. gives_by false q) o

pub owns : (x : Ty) → is_owned x ≡ true → gives_of x ≡ g.owner
owns (kind n) e = refl
owns (array x) e = refl
owns (iso x) e = refl
owns _ e = absurd (cc)

frozen_copied : (x : Ty) → is_void x ≡ false → is_owned x ≡ false → gives_of (as_frozen x (object_of x)).value ≡ copy
frozen_copied void v o = absurd (cc)
frozen_copied int v o = refl
frozen_copied bool v o = refl
frozen_copied str v o = refl
frozen_copied (kind n) v o = refl
frozen_copied (array x) v o = refl
frozen_copied (ref x) v o = refl
frozen_copied (imm x) v o = refl
frozen_copied (iso x) v o = refl

shared_copied : (x : Ty) → is_void x ≡ false → is_owned x ≡ false → gives_of (as_shared x (object_of x)).value ≡ copy
shared_copied void v o = absurd (cc)
shared_copied int v o = refl
shared_copied bool v o = refl
shared_copied str v o = refl
shared_copied (kind n) v o = absurd (cc)
shared_copied (array x) v o = absurd (cc)
shared_copied (ref x) v o = refl
shared_copied (imm x) v o = refl
shared_copied (iso x) v o = absurd (cc)

part_copied : (v : View) (x : Ty) → is_void x ≡ false → is_owned x ≡ false → gives_of (part_seen v x).value ≡ copy
part_copied (frozen y) x h o = frozen_copied x h o
part_copied blind x h o = shared_copied x h o
part_copied (direct y) x h o = shared_copied x h o
part_copied (shared y) x h o = shared_copied x h o

-- what is read as a value stays where it is
pub stays : (used : Bool) (v : View) (o : Option Ty) → SomeValue o → is_some o ≡ true → stays_in_place used o ≡ true → used ≡ true → gives_of (part_of v o).value ≡ copy
stays used v None h there kept u = absurd (cc)
stays used v (Some x) h there kept u = part_copied v x h.1 (not_true (is_owned x) (asked used (not (is_owned x)) kept u))

-- ---- what fits

same_value : (x : Ty) → is_void x ≡ false → same void x ≡ true → false ≡ true
same_value void h e = sym h
same_value int h e = e
same_value bool h e = e
same_value str h e = e
same_value (kind n) h e = e
same_value (array x) h e = e
same_value (ref x) h e = e
same_value (imm x) h e = e
same_value (iso x) h e = e

pub fits_value : (items : List Item) (x t : Ty) → fits items x t ≡ true → is_void t ≡ false → is_void x ≡ false
fits_value items void t e h = absurd (let z : false ≡ true = same_value t h e in cc)
fits_value items int t e h = refl
fits_value items bool t e h = refl
fits_value items str t e h = refl
fits_value items (kind n) t e h = refl
fits_value items (array x) t e h = refl
fits_value items (ref x) t e h = refl
fits_value items (imm x) t e h = refl
fits_value items (iso x) t e h = refl

argument_value : (items : List Item) (pure : Bool) (x t : Ty) → fits_argument items pure x t ≡ true → is_void t ≡ false → is_void x ≡ false
argument_value items pure int t e h = refl
argument_value items pure bool t e h = refl
argument_value items pure str t e h = refl
argument_value items pure (kind n) t e h = refl
argument_value items pure (array x) t e h = refl
argument_value items pure (ref x) t e h = refl
argument_value items pure (imm x) t e h = refl
argument_value items pure (iso x) t e h = refl
argument_value items true void t e h = fits_value items void t e h
argument_value items false void t e h = fits_value items void t e h

arguments_values : (items : List Item) (pure : Bool) (ts xs : List Ty) → all_fit items pure ts xs ≡ true → are_values xs → are_values ts
arguments_values items pure [] xs e h = tt
arguments_values items pure (t ∷ ts) [] e h = absurd (cc)
arguments_values items pure (t ∷ ts) (x ∷ xs) e h =
    let p = and_parts (fits_argument items pure t x) (all_fit items pure ts xs) e in
    (argument_value items pure t x p.0 h.0, arguments_values items pure ts xs p.1 h.1)

pub elements_values : (items : List Item) (x : Ty) (ts : List Ty) → list_all (λ t. fits items t x) ts ≡ true → is_void x ≡ false → are_values ts
elements_values items x [] e h = tt
elements_values items x (t ∷ ts) e h =
    let p = and_parts (fits items t x) (list_all (λ t. fits items t x) ts) e in
    (fits_value items t x p.0 h, elements_values items x ts p.1 h)

-- ---- calls

copy_value : (x : Ty) → is_copy x ≡ true → is_void x ≡ false
copy_value int e = refl
copy_value bool e = refl
copy_value str e = refl
copy_value _ e = absurd (cc)

owned_value : (x : Ty) → is_owned x ≡ true → is_void x ≡ false
owned_value (kind n) e = refl
owned_value (array x) e = refl
owned_value (iso x) e = refl
owned_value _ e = absurd (cc)

int_value : (x : Ty) → is_int x ≡ true → is_void x ≡ false
int_value int e = refl
int_value _ e = absurd (cc)

str_value : (x : Ty) → same x str ≡ true → is_void x ≡ false
str_value str e = refl
str_value _ e = absurd (cc)

measured_value : (x : Ty) → (same x str || is_array_ref x) ≡ true → is_void x ≡ false
measured_value void e = absurd (cc)
measured_value int e = refl
measured_value bool e = refl
measured_value str e = refl
measured_value (kind n) e = refl
measured_value (array x) e = refl
measured_value (ref x) e = refl
measured_value (imm x) e = refl
measured_value (iso x) e = refl

array_value : (x : Ty) → is_array_ref x ≡ true → is_void x ≡ false
array_value (ref x) e = refl
array_value (imm x) e = refl
array_value _ e = absurd (cc)

pub popped_value : (x : Ty) → Solid x → is_array_ref x ≡ true → IsValue (popped x)
popped_value (ref (array x)) h e = (h.1, h.0)
popped_value (imm (array x)) h e = (h.1, h.0)
popped_value _ h e = absurd (cc)

pushed_value : (items : List Item) (x z : Ty) → Solid x → takes_arguments items b.Push (x ∷ z ∷ []) ≡ true → (is_void x ≡ false) × (is_void z ≡ false)
pushed_value items (ref (array x)) z h e = (refl, fits_value items z x e h.0)
pushed_value items (imm (array x)) z h e = (refl, fits_value items z x e h.0)
pushed_value items _ z h e = absurd (cc)

built_in_values : (items : List Item) (f : BuiltIn) (ts : List Ty) → AllSolid ts → takes_arguments items f ts ≡ true → are_values ts
built_in_values items b.Print (x ∷ []) h e = (copy_value x e, tt)
built_in_values items b.Println (x ∷ []) h e = (copy_value x e, tt)
built_in_values items b.Drop (x ∷ []) h e = (owned_value x e, tt)
built_in_values items b.Len (x ∷ []) h e = (measured_value x e, tt)
built_in_values items b.Push (x ∷ z ∷ []) h e = let p = pushed_value items x z h.0 e in (p.0, (p.1, tt))
built_in_values items b.Pop (x ∷ []) h e = (array_value x e, tt)
built_in_values items b.Text (x ∷ []) h e = (int_value x e, tt)
built_in_values items b.Slice (x ∷ z ∷ w ∷ []) h e =
    let two = and_parts (same x str && is_int z) (is_int w) e in
    let one = and_parts (same x str) (is_int z) two.0 in
    (str_value x one.0, (int_value z one.1, (int_value w two.1, tt)))
built_in_values items b.Byte (x ∷ z ∷ []) h e = let one = and_parts (same x str) (is_int z) e in (str_value x one.0, (int_value z one.1, tt))
built_in_values items b.IsNumber (x ∷ []) h e = (str_value x e, tt)
built_in_values items b.Number (x ∷ []) h e = (str_value x e, tt)
built_in_values items _ _ h e = absurd (cc)

-- what a call of a built-in function gives
built_in_solid : (items : List Item) (f : BuiltIn) (ts : List Ty) → AllSolid ts → takes_arguments items f ts ≡ true → Solid (built_in_gives f ts) × takes_value (callee (language f)) (built_in_gives f ts)
built_in_solid items b.Pop (x ∷ []) h e = popped_value x h.0 e
built_in_solid items b.Print (x ∷ []) h e = (tt, tt)
built_in_solid items b.Println (x ∷ []) h e = (tt, tt)
built_in_solid items b.Drop (x ∷ []) h e = (tt, tt)
built_in_solid items b.Len (x ∷ []) h e = (tt, tt)
built_in_solid items b.Push (x ∷ z ∷ []) h e = (tt, tt)
built_in_solid items b.Text (x ∷ []) h e = (tt, tt)
built_in_solid items b.Slice (x ∷ z ∷ w ∷ []) h e = (tt, tt)
built_in_solid items b.Byte (x ∷ z ∷ []) h e = (tt, tt)
built_in_solid items b.IsNumber (x ∷ []) h e = (tt, tt)
built_in_solid items b.Number (x ∷ []) h e = (tt, tt)
built_in_solid items _ _ h e = absurd (cc)

pub record CallIsSolid (n : NameAt) (c : Called) (ts : List Ty) : Type 0 where
  pub arguments : are_values ts
  pub gives : Solid (called_gives n c ts)
  pub takes : takes_value (callee c) (called_gives n c ts)

pub call_solid : (items : List Item) (n : NameAt) (c : Called) (ts : List Ty) → AllSolid ts → broken (called_rules items c ts) ≡ None → CallIsSolid n c ts
call_solid items n nothing ts h kept = absurd (let f : false ≡ true = one_rule 21 false kept in cc)
call_solid items n (language f) ts h kept =
    let many = length ts == arity f in
    let takes = takes_arguments items f ts in
    let one = rule_kept 20 (many ⇒ takes) ((22, many) ∷ []) kept in
    let fit = asked many takes one.0 (one_rule 22 many one.1) in
    let gives = built_in_solid items f ts h fit in
    record { arguments = built_in_values items f ts h fit; gives = gives.0; takes = gives.1 }
call_solid items n (struct fs) ts h kept =
    let takes = field_types fs in
    let many = as_many ts takes in
    let one = rule_kept 20 (many ⇒ all_fit items false ts takes) ((22, many) ∷ []) kept in
    record { arguments = arguments_values items false ts takes (asked many (all_fit items false ts takes) one.0 (one_rule 22 many one.1)) (fields_values fs); gives = tt; takes = tt }
call_solid items n (program g) ts h kept =
    let takes = param_types (head_params g) in
    let many = as_many ts takes in
    let one = rule_kept 20 (many ⇒ all_fit items (is_pure_head g) ts takes) ((22, many) ∷ []) kept in
    record { arguments = arguments_values items (is_pure_head g) ts takes (asked many (all_fit items (is_pure_head g) ts takes) one.0 (one_rule 22 many one.1)) (params_values (head_params g)); gives = gives_solid g; takes = tt }
