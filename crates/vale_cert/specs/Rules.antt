-- The rules of one instruction: what it asks of the registers that it reads and writes, and the registers after it. A row
-- an instruction (docs/FORMATS.md, "Certificates").
use Rattle.std.specs.Prelude.{ℕ, List, [], ◌∷◌, length, Option, Some, None, Bool, true, false, not, ◌&&◌, ◌||◌, ◌==◌, nat_lt, nat_le, slice_get, slice_set}
use Rattle.std.specs.List.{list_all}
use Rattle.vale_base.specs.Limits.{text_limit}
use Rattle.vale_base.specs.declared.name.Kind.{Kind}
use Rattle.vale_code.specs.Kinds.{kind_of}
use Rattle.vale_code.specs.Parts.{Parts}
use Rattle.vale_code.specs.declared.func.Func.{Func}
use Rattle.vale_code.specs.declared.func.Impl.{Impl}
use Rattle.vale_code.specs.declared.instr.Instr.{Instr}
use Rattle.vale_code.specs.declared.instr.Instr.TheVariants as i
use Rattle.vale_code.specs.declared.kind.KindInfo.{KindInfo}
use Rattle.vale_code.specs.declared.kind.MethodInfo.{MethodInfo}
use Rattle.vale_code.specs.declared.ty.Ty.{Ty}
use Rattle.vale_code.specs.declared.ty.Ty.TheVariants as t
use Rattle.vale_cert.specs.Objects.{cells_of, fields_of, has_room, field_of, item_of, cell_by, owner_kind, reference_kind, read_kind, is_through_frozen, found_alive, seen, raised, may_be_raised, method_of}
use Rattle.vale_cert.specs.Types.{is_copy, is_owned, is_isolate, is_void}
use Rattle.vale_cert.specs.Known.{fact_of, is_there, has, is_free}
use Rattle.vale_cert.specs.declared.facts.RegFact.{RegFact}
use Rattle.vale_cert.specs.declared.facts.RegFact.TheVariants.{Empty, Held}
use Rattle.vale_cert.specs.declared.rules.Kept.{Kept}

-- which rules of its own an instruction keeps, and the registers after it
pub record Effect : Type 0 where
  pub kept : Kept
  pub after : List RegFact

abbrev pub fine : Kept
fine = record { types = true; present = true; depths = true }

-- an operand of another type, or another number of operands
abbrev pub of_another_type : Kept
of_another_type = record { types = false; present = true; depths = true }

-- ---- what is used only at its own depth: owners, isolates and the references `&X`

abbrev pub is_bound : Ty → Bool
is_bound (t.Ref kind) = true
is_bound ty = is_owned ty

abbrev pub is_usable : ℕ → RegFact → Bool
is_usable depth Empty = true
is_usable depth (Held ty d live) = not (is_bound ty) || (d == depth)

-- ---- operands

-- a register is read that holds this type
abbrev pub reads : List RegFact → ℕ → Ty → Kept → Kept
reads regs a ty kept = record {
  types = kept.types && has ty (fact_of regs a);
  present = kept.present && is_there (fact_of regs a);
  depths = kept.depths;
}

-- the same, at its own depth
abbrev pub uses : ℕ → List RegFact → ℕ → Ty → Kept → Kept
uses depth regs a ty kept = record (reads regs a ty kept) { depths = kept.depths && is_usable depth (fact_of regs a) }

-- a register is written, which holds no owner and no isolate
abbrev pub overwrites : List RegFact → ℕ → Kept → Kept
overwrites regs to kept = record kept { present = kept.present && is_free (fact_of regs to) }

-- a result comes into a register
abbrev pub gets : ℕ → List RegFact → ℕ → Ty → Kept → Effect
gets depth regs to ty kept = record { kept = overwrites regs to kept; after = slice_set regs to (Held ty depth false) }

-- ---- texts, copies, comparisons and what is printed

abbrev pub is_short : Option (List ℕ) → Bool
is_short None = false
is_short (Some text) = nat_le (length text) text_limit

abbrev pub if_types : Bool → Kept
if_types b = record { types = b; present = true; depths = true }

-- a copy value or a reference is copied; a reference `&X` at its own depth
abbrev pub is_copied : RegFact → Bool
is_copied Empty = true
is_copied (Held ty d live) = not (is_owned ty)

-- the copy of what a register holds, written now
abbrev pub copy_of : ℕ → RegFact → RegFact
copy_of depth Empty = Empty
copy_of depth (Held ty d live) = Held ty depth live

abbrev pub copies : ℕ → List RegFact → ℕ → ℕ → Effect
copies depth regs to a = record {
  kept = record {
    types = is_copied (fact_of regs a);
    present = is_there (fact_of regs a) && is_free (fact_of regs to);
    depths = is_usable depth (fact_of regs a);
  };
  after = slice_set regs to (copy_of depth (fact_of regs a));
}

-- two numbers or two texts by every comparison, two truths by the first two
abbrev pub is_ordered : ℕ → Ty → Bool
is_ordered choice t.Int = true
is_ordered choice t.Text = true
is_ordered choice t.Truth = nat_lt choice 2
is_ordered choice _ = false

abbrev pub is_comparable : ℕ → RegFact → Bool
is_comparable choice Empty = true
is_comparable choice (Held ty d live) = is_ordered choice ty

abbrev pub are_alike : RegFact → RegFact → Bool
are_alike Empty fact = true
are_alike (Held ty d live) fact = has ty fact

abbrev pub compares : ℕ → List RegFact → ℕ → ℕ → ℕ → ℕ → Effect
compares depth regs to choice a b = gets depth regs to t.Truth (record {
  types = is_comparable choice (fact_of regs a) && is_comparable choice (fact_of regs b) && are_alike (fact_of regs a) (fact_of regs b);
  present = is_there (fact_of regs a) && is_there (fact_of regs b);
  depths = true;
})

abbrev pub is_printable : RegFact → Bool
is_printable Empty = true
is_printable (Held ty d live) = is_copy ty

abbrev pub prints : List RegFact → ℕ → Kept
prints regs a = record { types = is_printable (fact_of regs a); present = is_there (fact_of regs a); depths = true }

-- ---- arguments

-- What gives `&imm X`: an `&imm X`, and what is of a smaller depth and leads to an X.
abbrev pub leads_to : ℕ → Ty → Bool
leads_to n (t.Own kind) = kind.0 == n
leads_to n (t.Ref kind) = kind.0 == n
leads_to n (t.Iso kind) = kind.0 == n
leads_to n _ = false

abbrev pub gives_frozen : ℕ → ℕ → RegFact → Bool
gives_frozen depth n Empty = true
gives_frozen depth n (Held (t.Frozen kind) d live) = kind.0 == n
gives_frozen depth n (Held ty d live) = nat_lt d depth && leads_to n ty

-- a register is an argument for a parameter of this type
abbrev pub passes : ℕ → List RegFact → ℕ → Ty → Kept → Kept
passes depth regs a (t.Frozen kind) kept = record {
  types = kept.types && gives_frozen depth kind.0 (fact_of regs a);
  present = kept.present && is_there (fact_of regs a);
  depths = kept.depths;
}
passes depth regs a ty kept = uses depth regs a ty kept

-- an owner or an isolate is moved, and its register is empty for those after it
abbrev pub after_passing : List RegFact → ℕ → Ty → List RegFact
after_passing regs a (t.Own kind) = slice_set regs a Empty
after_passing regs a (t.Iso kind) = slice_set regs a Empty
after_passing regs a _ = regs

abbrev pub passed : ℕ → ℕ → Ty → Effect → Effect
passed depth a ty effect = record { kept = passes depth effect.after a ty effect.kept; after = after_passing effect.after a ty }

abbrev pub too_many_or_few : Effect → Effect
too_many_or_few effect = record effect { kept = record effect.kept { types = false } }

-- each is an argument for one parameter
abbrev pub passes_all : ℕ → List Ty → List ℕ → Effect → Effect
passes_all depth [] [] effect = effect
passes_all depth [] (a ∷ more) effect = too_many_or_few effect
passes_all depth (ty ∷ tys) [] effect = too_many_or_few effect
passes_all depth (ty ∷ tys) (a ∷ more) effect = passes_all depth tys more (passed depth a ty effect)

-- ---- calls

-- the result of a call; a void one is written nowhere
abbrev pub comes_back : ℕ → Ty → ℕ → Effect → Effect
comes_back depth t.Void to effect = effect
comes_back depth ty to effect = gets depth effect.after to ty effect.kept

abbrev pub all_fine : List RegFact → Effect
all_fine regs = record { kept = fine; after = regs }

abbrev pub refused : List RegFact → Effect
refused regs = record { kept = of_another_type; after = regs }

abbrev pub call_by_form : Bool → ℕ → List RegFact → Func → ℕ → List ℕ → Effect
call_by_form false depth regs callee to args = refused regs
call_by_form true depth regs callee to args = comes_back depth callee.result to (passes_all depth callee.params args (all_fine regs))

-- a plain function is called
abbrev pub calls : ℕ → List RegFact → Option Func → ℕ → List ℕ → Effect
calls depth regs None to args = refused regs
calls depth regs (Some callee) to args = call_by_form (callee.form == 0) depth regs callee to args

-- the registers after a checked instruction on one of them
abbrev pub finds_alive : ℕ → List RegFact → ℕ → List RegFact
finds_alive depth regs a = slice_set regs a (found_alive depth (fact_of regs a))

-- a method that isn't pure is called; its first parameter is the receiver
abbrev pub method_by_purity : Bool → ℕ → List RegFact → MethodInfo → ℕ → ℕ → List ℕ → Effect
method_by_purity true depth regs m to a args = refused regs
method_by_purity false depth regs m to a args =
    comes_back depth m.result to (passes_all depth m.params (a ∷ args) (all_fine (finds_alive depth regs a)))

abbrev pub calls_method : ℕ → List RegFact → Option MethodInfo → ℕ → ℕ → List ℕ → Effect
calls_method depth regs None to a args = refused regs
calls_method depth regs (Some m) to a args = method_by_purity m.is_pure depth regs m to a args

-- ---- owners and isolates

-- a register is read that holds a value of this type, and an owner or an isolate is taken out of it
abbrev pub taken : ℕ → ℕ → Ty → Effect → Effect
taken depth a ty effect = record { kept = uses depth effect.after a ty effect.kept; after = after_passing effect.after a ty }

-- each is a value of one of these types
abbrev pub takes_all : ℕ → List Ty → List ℕ → Effect → Effect
takes_all depth [] [] effect = effect
takes_all depth [] (a ∷ more) effect = too_many_or_few effect
takes_all depth (ty ∷ tys) [] effect = too_many_or_few effect
takes_all depth (ty ∷ tys) (a ∷ more) effect = takes_all depth tys more (taken depth a ty effect)

abbrev pub is_moved : RegFact → Bool
is_moved Empty = true
is_moved (Held ty d live) = is_owned ty

-- what a register holds, written now to another
abbrev pub moved_to : ℕ → RegFact → RegFact
moved_to depth Empty = Empty
moved_to depth (Held ty d live) = Held ty depth false

abbrev pub moves : ℕ → List RegFact → ℕ → ℕ → Effect
moves depth regs to a = record {
  kept = record {
    types = is_moved (fact_of regs a);
    present = is_there (fact_of regs a) && is_free (fact_of (slice_set regs a Empty) to);
    depths = is_usable depth (fact_of regs a);
  };
  after = slice_set (slice_set regs a Empty) to (moved_to depth (fact_of regs a));
}

abbrev pub drops : ℕ → List RegFact → ℕ → Effect
drops depth regs a = record {
  kept = record { types = is_moved (fact_of regs a); present = is_there (fact_of regs a); depths = is_usable depth (fact_of regs a) };
  after = slice_set regs a Empty;
}

-- ---- objects are made, taken apart, lent, and seen as interfaces

-- an owner of a new object comes into a register
abbrev pub owns : ℕ → Kind → ℕ → Effect → Effect
owns depth kind to effect = gets depth effect.after to (t.Own kind) effect.kept

abbrev pub makes_of : ℕ → Option (List Ty) → Kind → ℕ → List ℕ → Effect → Effect
makes_of depth None kind to args effect = refused effect.after
makes_of depth (Some tys) kind to args effect = owns depth kind to (takes_all depth tys args effect)

-- an object of a kind is made of values of the types of its cells
abbrev pub makes : ℕ → List RegFact → Option KindInfo → Kind → ℕ → List ℕ → Effect
makes depth regs info kind to args =
    makes_of depth (cells_of info (length args)) kind to args (record { kept = if_types (has_room info (length args)); after = regs })

-- each value of a type comes into a register
abbrev pub puts_all : ℕ → List Ty → List ℕ → Effect → Effect
puts_all depth [] [] effect = effect
puts_all depth [] (to ∷ more) effect = too_many_or_few effect
puts_all depth (ty ∷ tys) [] effect = too_many_or_few effect
puts_all depth (ty ∷ tys) (to ∷ more) effect = puts_all depth tys more (gets depth effect.after to ty effect.kept)

abbrev pub fields_by : Parts → Option Kind → Option (List Ty)
fields_by code None = None
fields_by code (Some kind) = fields_of (kind_of code kind)

abbrev pub opens_of : ℕ → Option (List Ty) → List ℕ → Effect → Effect
opens_of depth None to effect = effect
opens_of depth (Some tys) to effect = puts_all depth tys to effect

abbrev pub is_known : {A : Type 0} → Option A → Bool
is_known None = false
is_known (Some a) = true

-- an operand, which leads to an object with such cells
abbrev pub leads : {A : Type 0} → Bool → RegFact → Option A → Kept
leads usable fact cells = record { types = not (is_there fact) || is_known cells; present = is_there fact; depths = usable }

-- the object of an owner of a struct is taken apart
abbrev pub opens : Parts → ℕ → List RegFact → List ℕ → ℕ → Effect
opens code depth regs to a =
    opens_of depth (fields_by code (owner_kind (fact_of regs a))) to
    (record { kept = leads (is_usable depth (fact_of regs a)) (fact_of regs a) (fields_by code (owner_kind (fact_of regs a))); after = slice_set regs a Empty })

abbrev pub lent_to : ℕ → RegFact → RegFact
lent_to depth (Held (t.Own kind) d live) = Held (t.Ref kind) depth false
lent_to depth fact = Empty

abbrev pub borrows : ℕ → List RegFact → ℕ → ℕ → Effect
borrows depth regs to a = record {
  kept = overwrites regs to (leads (is_usable depth (fact_of regs a)) (fact_of regs a) (owner_kind (fact_of regs a)));
  after = slice_set regs to (lent_to depth (fact_of regs a));
}

abbrev pub is_raised : List Impl → Kind → RegFact → Bool
is_raised impls interface Empty = true
is_raised impls interface (Held ty d live) = may_be_raised impls interface ty

abbrev pub raised_to : ℕ → Kind → RegFact → RegFact
raised_to depth interface Empty = Empty
raised_to depth interface (Held ty d live) = Held (raised interface ty) depth live

-- an owner or an isolate is taken out of its register
abbrev pub after_taking : List RegFact → ℕ → RegFact → List RegFact
after_taking regs a Empty = regs
after_taking regs a (Held ty d live) = after_passing regs a ty

abbrev pub upcasts : List Impl → ℕ → List RegFact → ℕ → ℕ → Kind → Effect
upcasts impls depth regs to a interface = record {
  kept = overwrites (after_taking regs a (fact_of regs a)) to (record {
    types = is_raised impls interface (fact_of regs a);
    present = is_there (fact_of regs a);
    depths = is_usable depth (fact_of regs a);
  });
  after = slice_set (after_taking regs a (fact_of regs a)) to (raised_to depth interface (fact_of regs a));
}

-- ---- fields and elements

-- a reference is read through at its own depth, or as `&imm` at a greater one
abbrev pub is_readable : ℕ → RegFact → Bool
is_readable depth Empty = true
is_readable depth (Held ty d live) = not (is_bound ty) || nat_le d depth

-- an owner of this depth, a reference `&X` of this depth, and what is only read
abbrev pub leads_as_owner : (Kind → Option Ty) → ℕ → RegFact → Kept
leads_as_owner cell depth fact = leads (is_usable depth fact) fact (cell_by cell (owner_kind fact))

abbrev pub leads_as_reference : (Kind → Option Ty) → ℕ → RegFact → Kept
leads_as_reference cell depth fact = leads (is_usable depth fact) fact (cell_by cell (reference_kind fact))

abbrev pub leads_to_read : (Kind → Option Ty) → ℕ → RegFact → Kept
leads_to_read cell depth fact = leads (is_readable depth fact) fact (cell_by cell (read_kind depth fact))

-- what is read of a cell comes into a register: an isolate only through `&imm`
abbrev pub reads_cell : ℕ → Bool → Option Ty → ℕ → Effect → Effect
reads_cell depth frozen None to effect = effect
reads_cell depth frozen (Some ty) to effect = record {
  kept = overwrites effect.after to (record effect.kept { types = effect.kept.types && (frozen || not (is_isolate ty)) });
  after = slice_set effect.after to (Held (seen frozen ty) depth (frozen && is_owned ty));
}

-- the same of an owner's object, and of one that was found alive
abbrev pub reads_own : (Kind → Option Ty) → ℕ → List RegFact → ℕ → ℕ → Kept → Effect
reads_own cell depth regs to a kept = reads_cell depth false (cell_by cell (owner_kind (fact_of regs a))) to (record { kept = kept; after = regs })

abbrev pub reads_found : (Kind → Option Ty) → ℕ → List RegFact → ℕ → ℕ → Kept → Effect
reads_found cell depth regs to a kept =
    reads_cell depth (is_through_frozen depth (fact_of regs a)) (cell_by cell (read_kind depth (fact_of regs a))) to
    (record { kept = kept; after = finds_alive depth regs a })

-- the length of an array that is found alive
abbrev pub measures : Parts → ℕ → List RegFact → ℕ → ℕ → Effect
measures code depth regs to a = gets depth (finds_alive depth regs a) to t.Int (leads_to_read (item_of code) depth (fact_of regs a))

-- a value goes into a cell
abbrev pub fills : ℕ → Option Ty → ℕ → Effect → Effect
fills depth None v effect = effect
fills depth (Some ty) v effect = taken depth v ty effect

-- what was in a cell comes into a register
abbrev pub gives_back : ℕ → Option Ty → ℕ → Effect → Effect
gives_back depth None to effect = effect
gives_back depth (Some ty) to effect = gets depth effect.after to ty effect.kept

-- of an operand of which it is asked that it leads to a cell of this type
abbrev pub swaps : ℕ → List RegFact → Option Ty → ℕ → ℕ → Kept → Effect
swaps depth regs cell to v kept = gives_back depth cell to (fills depth cell v (record { kept = kept; after = regs }))

abbrev pub pushes : ℕ → List RegFact → Option Ty → ℕ → Kept → Effect
pushes depth regs cell v kept = fills depth cell v (record { kept = kept; after = regs })

abbrev pub pops : ℕ → List RegFact → Option Ty → ℕ → Kept → Effect
pops depth regs cell to kept = gives_back depth cell to (record { kept = kept; after = regs })

-- ---- leaving: at depth 0, and with no owner and no isolate left after

abbrev pub leaves : ℕ → List RegFact → Kept → Kept
leaves depth regs kept = record {
  types = kept.types;
  present = kept.present && list_all is_free regs;
  depths = kept.depths && (depth == 0);
}

-- a value is returned by a function with this result
abbrev pub returns : ℕ → List RegFact → ℕ → Ty → Effect
returns depth regs a ty = record { kept = leaves depth (slice_set regs a Empty) (uses depth regs a ty (if_types (not (is_void ty)))); after = slice_set regs a Empty }

abbrev pub returns_nothing : ℕ → List RegFact → Ty → Effect
returns_nothing depth regs ty = record { kept = leaves depth regs (if_types (is_void ty)); after = regs }

-- ---- each instruction

module _ (code : Parts) (depth : ℕ) (regs : List RegFact) where
  -- of the instructions on objects
  abbrev pub object_effect : Instr → Effect
  object_effect (i.Move to a) = moves depth regs to a
  object_effect (i.CallM to interface method a args at) = calls_method depth regs (method_of code interface method) to a args
  object_effect (i.Make to kind args) = makes depth regs (kind_of code kind) kind to args
  object_effect (i.Borrow to a) = borrows depth regs to a
  object_effect (i.LoadOwn to a field) = reads_own (field_of code field) depth regs to a (leads_as_owner (field_of code field) depth (fact_of regs a))
  object_effect (i.Load to a field at) = reads_found (field_of code field) depth regs to a (leads_to_read (field_of code field) depth (fact_of regs a))
  object_effect (i.ElemOwn to a x at) = reads_own (item_of code) depth regs to a (reads regs x t.Int (leads_as_owner (item_of code) depth (fact_of regs a)))
  object_effect (i.Elem to a x at) = reads_found (item_of code) depth regs to a (reads regs x t.Int (leads_to_read (item_of code) depth (fact_of regs a)))
  object_effect (i.Len to a at) = measures code depth regs to a
  object_effect (i.SwapOwn to a field v) =
      swaps depth regs (cell_by (field_of code field) (owner_kind (fact_of regs a))) to v (leads_as_owner (field_of code field) depth (fact_of regs a))
  object_effect (i.Swap to a field v at) =
      swaps depth regs (cell_by (field_of code field) (reference_kind (fact_of regs a))) to v (leads_as_reference (field_of code field) depth (fact_of regs a))
  object_effect (i.SwapElOwn to a x v at) =
      swaps depth regs (cell_by (item_of code) (owner_kind (fact_of regs a))) to v (reads regs x t.Int (leads_as_owner (item_of code) depth (fact_of regs a)))
  object_effect (i.SwapEl to a x v at) =
      swaps depth regs (cell_by (item_of code) (reference_kind (fact_of regs a))) to v (reads regs x t.Int (leads_as_reference (item_of code) depth (fact_of regs a)))
  object_effect (i.Push a v at) = pushes depth regs (cell_by (item_of code) (reference_kind (fact_of regs a))) v (leads_as_reference (item_of code) depth (fact_of regs a))
  object_effect (i.Pop to a at) = pops depth regs (cell_by (item_of code) (reference_kind (fact_of regs a))) to (leads_as_reference (item_of code) depth (fact_of regs a))
  object_effect (i.Open to a) = opens code depth regs to a
  object_effect (i.Destroy a at) = drops depth regs a
  object_effect (i.Upcast to a kind) = upcasts code.impls depth regs to a kind
  object_effect _ = refused regs

-- of an instruction in a function with this result
module _ (code : Parts) (result_type : Ty) (depth : ℕ) (regs : List RegFact) where
  abbrev pub control_effect : Instr → Effect
  control_effect (i.Print a choice) = record { kept = prints regs a; after = regs }
  control_effect (i.Jump target) = all_fine regs
  control_effect (i.Unless a target) = record { kept = reads regs a t.Truth fine; after = regs }
  control_effect i.Tick = all_fine regs
  control_effect (i.Call to func args at) = calls depth regs (slice_get code.funcs func) to args
  control_effect (i.Ret a) = returns depth regs a result_type
  control_effect i.RetVoid = returns_nothing depth regs result_type
  control_effect instr = object_effect code depth regs instr

  abbrev pub effect : Instr → Effect
  effect (i.Int to n) = gets depth regs to t.Int fine
  effect (i.Truth to choice) = gets depth regs to t.Truth fine
  effect (i.Text to text) = gets depth regs to t.Text (if_types (is_short (slice_get code.texts text)))
  effect (i.Copy to a) = copies depth regs to a
  effect (i.Add to a b at) = gets depth regs to t.Int (reads regs b t.Int (reads regs a t.Int fine))
  effect (i.Sub to a b at) = gets depth regs to t.Int (reads regs b t.Int (reads regs a t.Int fine))
  effect (i.Mul to a b at) = gets depth regs to t.Int (reads regs b t.Int (reads regs a t.Int fine))
  effect (i.Div to a b at) = gets depth regs to t.Int (reads regs b t.Int (reads regs a t.Int fine))
  effect (i.Rem to a b at) = gets depth regs to t.Int (reads regs b t.Int (reads regs a t.Int fine))
  effect (i.Cmp to choice a b) = compares depth regs to choice a b
  effect (i.Not to a) = gets depth regs to t.Truth (reads regs a t.Truth fine)
  effect (i.Join to a b at) = gets depth regs to t.Text (reads regs b t.Text (reads regs a t.Text fine))
  effect (i.TextLen to a) = gets depth regs to t.Int (reads regs a t.Text fine)
  effect (i.Slice to a x y at) = gets depth regs to t.Text (reads regs y t.Int (reads regs x t.Int (reads regs a t.Text fine)))
  effect (i.Byte to a x at) = gets depth regs to t.Int (reads regs x t.Int (reads regs a t.Text fine))
  effect (i.TextOf to a) = gets depth regs to t.Text (reads regs a t.Int fine)
  effect (i.IsNum to a) = gets depth regs to t.Truth (reads regs a t.Text fine)
  effect (i.Num to a at) = gets depth regs to t.Int (reads regs a t.Text fine)
  effect instr = control_effect instr

-- ---- the rows

-- the rules that an instruction keeps, whether what has to be known alive is, and the depth and the registers after it
pub record Row : Type 0 where
  pub kept : Kept
  pub lives : Bool
  pub depth : ℕ
  pub after : List RegFact

-- an instruction that opens and ends no freeze, and has no reference known alive
abbrev pub stays : ℕ → Effect → Row
stays depth effect = record { kept = effect.kept; lives = true; depth = depth; after = effect.after }

abbrev pub row : Parts → Ty → ℕ → List RegFact → Instr → Row
row code result_type depth regs instr = stays depth (effect code result_type depth regs instr)
