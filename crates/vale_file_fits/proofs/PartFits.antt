-- Numbers, types, kinds and implementations that fit have a spelling.
use Rattle.std.proofs.Common.{◌≡◌, ℕ, ℤ, suc, ◌+◌, ◌*◌, ◌/◌, ◌%◌, ◌<◌, ◌≤◌, Bool, true, false, cond, List, [], ◌∷◌, length, get_or, Option, Some, None, pos, negsuc, refl, sym, ap, ◌∙◌, arith}
use Rattle.std.proofs.lemmas.Bool.{eq-eqb, ne_eqb, and_parts, ltb-true}
use Rattle.std.specs.List.{AllByRecursion, list_all}
use Rattle.vale_base.specs.declared.name.Kind.{Kind}
use Rattle.vale_base.specs.declared.spot.Spot.{Spot}
use Rattle.vale_code.specs.Sizes.{is_few, method_is_small}
use Rattle.vale_code.specs.declared.func.Impl.{Impl}
use Rattle.vale_code.specs.declared.kind.Field.{Field}
use Rattle.vale_code.specs.declared.kind.KindInfo.TheVariants as k
use Rattle.vale_code.specs.declared.kind.MethodInfo.{MethodInfo}
use Rattle.vale_code.specs.declared.ty.Ty.{Ty}
use Rattle.vale_code.specs.declared.ty.Ty.TheVariants as t
use Rattle.vale_codec.specs.Numbers.{largest_word}
use Rattle.vale_file_fits.specs.Fits.{MethodIsFit, KindIsFit, ImplIsFit}
use Rattle.vale_file_fits.specs.Tables.{DestructorFits}
use Rattle.vale_file_fits.proofs.ListFits.{list_fits, apply_all}
use Rattle.vale_file_spec.specs.File.{tys, field, fields, method, methods, destructor, struct_parts, interface_parts, kind_info, impl_info}
use Rattle.vale_file_spec.specs.Instructions.{words}
use Rattle.vale_file_spec.specs.Types.{word, largest_long, folded, unfolded, signed, truth, kind_number, spot, ty}

pub few : (n : ℕ) → is_few n ≡ true → n ≤ largest_word
few n h = let lt : n < 4294967296 = ltb-true n 4294967296 h in omega arith

pub spot_fits : (at : Spot) → at.line ≤ largest_word → at.col ≤ largest_word → spot.Fits at
spot_fits at a b = ((at.line, at.col), refl, (a, b))

pub kind_number_fits : (kind : Kind) → kind.0 ≤ largest_word → kind_number.Fits kind
kind_number_fits kind a = (kind.0, refl, a)

again : (z : ℤ) → unfolded (folded z) ≡ z
again (pos n) = ap (λ (b : Bool). cond b (pos (2 * n / 2)) (negsuc (2 * n / 2))) (eq-eqb (2 * n % 2) 0 (omega arith)) ∙ ap pos (omega arith)
again (negsuc n) = ap (λ (b : Bool). cond b (pos ((2 * n + 1) / 2)) (negsuc ((2 * n + 1) / 2))) (ne_eqb ((2 * n + 1) % 2) 0 (λ e. absurd (omega arith))) ∙ ap negsuc (omega arith)

pub signed_fits : (z : ℤ) → folded z ≤ largest_long → signed.Fits z
signed_fits z a = (folded z, sym (again z), a)

pub words_all : (xs : List ℕ) → ((i : ℕ) → get_or xs i 0 < 4294967296) → AllByRecursion word.Fits xs
words_all [] h = tt
words_all (x ∷ xs) h = (let k = h 0 in omega arith, words_all xs (λ i. h (suc i)))

pub words_fit : (xs : List ℕ) → AllByRecursion word.Fits xs → is_few (length xs) ≡ true → words.Fits xs
unfolding words
words_fit xs each h = list_fits word xs (few (length xs) h) each

-- ---- types

pub void_fits : ty.Fits t.Void
unfolding ty
void_fits = ((0, t.Void), refl, (omega arith, (tt, refl, tt)))

pub int_fits : ty.Fits t.Int
unfolding ty
int_fits = ((1, t.Int), refl, (omega arith, (tt, refl, tt)))

pub truth_ty_fits : ty.Fits t.Truth
unfolding ty
truth_ty_fits = ((2, t.Truth), refl, (omega arith, (tt, refl, tt)))

pub text_fits : ty.Fits t.Text
unfolding ty
text_fits = ((3, t.Text), refl, (omega arith, (tt, refl, tt)))

pub own_fits : (kind : Kind) → kind_number.Fits kind → ty.Fits (t.Own kind)
unfolding ty
own_fits kind h = ((4, t.Own kind), refl, (omega arith, (kind, refl, h)))

pub ref_fits : (kind : Kind) → kind_number.Fits kind → ty.Fits (t.Ref kind)
unfolding ty
ref_fits kind h = ((5, t.Ref kind), refl, (omega arith, (kind, refl, h)))

pub frozen_fits : (kind : Kind) → kind_number.Fits kind → ty.Fits (t.Frozen kind)
unfolding ty
frozen_fits kind h = ((6, t.Frozen kind), refl, (omega arith, (kind, refl, h)))

pub iso_fits : (kind : Kind) → kind_number.Fits kind → ty.Fits (t.Iso kind)
unfolding ty
iso_fits kind h = ((7, t.Iso kind), refl, (omega arith, (kind, refl, h)))

pub tys_fit : (xs : List Ty) → AllByRecursion ty.Fits xs → is_few (length xs) ≡ true → tys.Fits xs
unfolding tys
tys_fit xs each h = list_fits ty xs (few (length xs) h) each

truth_fits : (b : Bool) → truth.Fits b
truth_fits true = (1, refl, omega arith)
truth_fits false = (0, refl, omega arith)

-- ---- kinds

pub field_fits : (f : Field) → ty.Fits f.ty → field.Fits f
unfolding field
field_fits f h = ((f.ty, f.mutable), refl, (h, truth_fits f.mutable))

pub method_fits : (m : MethodInfo) → m.name ≤ largest_word → AllByRecursion ty.Fits m.params → ty.Fits m.result → MethodIsFit m
unfolding method
method_fits m name params result = λ small. ((m.name, (m.is_pure, (m.params, m.result))), refl, (name, (truth_fits m.is_pure, (tys_fit m.params params small, result))))

destructor_fits : (name : ℕ) (fs : List Field) (d : Option ℕ) → DestructorFits (k.Struct name d fs) → destructor.Fits d
unfolding destructor
destructor_fits name fs None h = (0, refl, omega arith)
destructor_fits name fs (Some f) h = (suc f, refl, omega arith)

pub struct_fits : (name : ℕ) (d : Option ℕ) (fs : List Field) → name ≤ largest_word → AllByRecursion field.Fits fs → KindIsFit (k.Struct name d fs)
unfolding kind_info struct_parts fields
struct_fits name d fs a each = λ small h. ((0, k.Struct name d fs), refl, (omega arith, ((name, (d, fs)), refl, (a, (destructor_fits name fs d h, list_fits field fs (few (length fs) small) each)))))

pub interface_fits : (name : ℕ) (ms : List MethodInfo) → name ≤ largest_word → AllByRecursion MethodIsFit ms → KindIsFit (k.Interface name ms)
unfolding kind_info interface_parts methods
interface_fits name ms a each = λ small h.
    let s = and_parts (is_few (length ms)) (list_all method_is_small ms) small in
    ((1, k.Interface name ms), refl, (omega arith, ((name, ms), refl, (a, list_fits method ms (few (length ms) s.0) (apply_all method_is_small method.Fits ms s.1 each)))))

pub array_fits : (item : Ty) → ty.Fits item → KindIsFit (k.Array item)
unfolding kind_info
array_fits item a = λ small h. ((2, k.Array item), refl, (omega arith, (item, refl, a)))

pub impl_fits : (i : Impl) → kind_number.Fits i.interface → kind_number.Fits i.«of» → (is_few (length i.funcs) ≡ true → words.Fits i.funcs) → ImplIsFit i
unfolding impl_info
impl_fits i a b c = λ small. ((i.interface, (i.«of», i.funcs)), refl, (a, (b, c small)))
