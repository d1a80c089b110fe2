-- A code with its facts that keeps rule 1 lies in the tables.
use Rattle.std.proofs.Common.{◌≡◌, ℕ, zero, suc, ◌+◌, ◌<◌, ◌≤◌, Bool, true, List, [], ◌∷◌, length, Option, Some, None, refl, sym, ap, arith, inl, inr}
use Rattle.std.proofs.lemmas.Bool.{and_parts, cases_Bool, ltb-true, eqb-true}
use Rattle.std.proofs.lemmas.Option.{slice_get_within}
use Rattle.std.specs.List.{AllByRecursion, list_all, slice_get}
use Rattle.vale_cert.specs.Numbers.{in_tables, numbers}
use Rattle.vale_cert.specs.Shape.{destroys, is_destructor_of, has_form, has_live, label_is_lawful, kind_is_lawful, kinds_fault, func_is_lawful, funcs_fault, counted_after, or_else, shape_fault}
use Rattle.vale_cert.specs.Types.{reaches_isolate}
use Rattle.vale_cert.specs.declared.facts.FuncFacts.{FuncFacts}
use Rattle.vale_cert.specs.declared.facts.Label.{Label}
use Rattle.vale_code.specs.Parts.{Parts}
use Rattle.vale_code.specs.declared.func.Func.{Func}
use Rattle.vale_code.specs.declared.instr.Instr.{Instr}
use Rattle.vale_code.specs.declared.instr.Instr.TheVariants as i
use Rattle.vale_code.specs.declared.kind.Field.{Field}
use Rattle.vale_code.specs.declared.kind.KindInfo.{KindInfo}
use Rattle.vale_code.specs.declared.kind.KindInfo.TheVariants as k
use Rattle.vale_codec.specs.Numbers.{largest_word}
use Rattle.vale_file_fits.specs.Tables.{ChoicesFit, DestructorFits, LiveFits, FuncFits, InTables}
use Rattle.vale_file_spec.specs.File.{beside}

neither : (a b : Option ℕ) → or_else a b ≡ None → (a ≡ None) × (b ≡ None)
neither None b h = (refl, h)
neither (Some n) b h = absurd cc

uncounted : (n : ℕ) (a : Option ℕ) → counted_after n a ≡ None → a ≡ None
uncounted n None h = refl
uncounted n (Some m) h = absurd cc

-- ---- instructions

choices_fit : (code : Parts) (instr : Instr) → in_tables code instr ≡ true → ChoicesFit instr
choices_fit code (i.Int to number) h = tt
choices_fit code (i.Truth to choice) h = let lt = ltb-true choice 2 h in omega arith
choices_fit code (i.Text to text) h = tt
choices_fit code (i.Copy to from) h = tt
choices_fit code (i.Move to from) h = tt
choices_fit code (i.Add to left right at) h = tt
choices_fit code (i.Sub to left right at) h = tt
choices_fit code (i.Mul to left right at) h = tt
choices_fit code (i.Div to left right at) h = tt
choices_fit code (i.Rem to left right at) h = tt
choices_fit code (i.Cmp to choice left right) h = let lt = ltb-true choice 6 h in omega arith
choices_fit code (i.Not to from) h = tt
choices_fit code (i.Join to left right at) h = tt
choices_fit code (i.TextLen to from) h = tt
choices_fit code (i.Slice to from first end at) h = tt
choices_fit code (i.Byte to from index at) h = tt
choices_fit code (i.TextOf to from) h = tt
choices_fit code (i.IsNum to from) h = tt
choices_fit code (i.Num to from at) h = tt
choices_fit code (i.Print from choice) h = let lt = ltb-true choice 2 h in omega arith
choices_fit code (i.Jump target) h = tt
choices_fit code (i.Unless condition target) h = tt
choices_fit code i.Tick h = tt
choices_fit code (i.Call to func args at) h = tt
choices_fit code (i.CallM to interface method object args at) h = tt
choices_fit code (i.CallMLive to interface method object args at) h = tt
choices_fit code (i.Ret from) h = tt
choices_fit code i.RetVoid h = tt
choices_fit code (i.Make to kind args) h = tt
choices_fit code (i.Borrow to from) h = tt
choices_fit code (i.Frozen to from) h = tt
choices_fit code (i.LoadOwn to object field) h = tt
choices_fit code (i.Load to object field at) h = tt
choices_fit code (i.LoadLive to object field) h = tt
choices_fit code (i.ElemOwn to object index at) h = tt
choices_fit code (i.Elem to object index at) h = tt
choices_fit code (i.ElemLive to object index at) h = tt
choices_fit code (i.Len to object at) h = tt
choices_fit code (i.LenLive to object) h = tt
choices_fit code (i.SwapOwn to object field value) h = tt
choices_fit code (i.Swap to object field value at) h = tt
choices_fit code (i.SwapElOwn to object index value at) h = tt
choices_fit code (i.SwapEl to object index value at) h = tt
choices_fit code (i.Push object value at) h = tt
choices_fit code (i.Pop to object at) h = tt
choices_fit code (i.Open to from) h = tt
choices_fit code (i.Destroy from at) h = tt
choices_fit code (i.Merge to from) h = tt
choices_fit code (i.Freeze at) h = tt
choices_fit code (i.ThawMerge to from) h = tt
choices_fit code (i.ThawKeep to from) h = tt
choices_fit code i.ThawClear h = tt
choices_fit code (i.ParRange to first end func args at) h = tt
choices_fit code (i.ParEach to array func args at) h = tt
choices_fit code (i.Upcast to from kind) h = tt

choices_each : (code : Parts) (registers : ℕ) (body : List Instr) → list_all (numbers code registers) body ≡ true → AllByRecursion ChoicesFit body
choices_each code registers [] h = tt
choices_each code registers (instr ∷ body) h =
    let a = and_parts (numbers code registers instr) (list_all (numbers code registers) body) h in
    (choices_fit code instr (and_parts _ _ a.0).1, choices_each code registers body a.1)

-- ---- kinds

there : (n f : ℕ) (funcs : List Func) (o : Option Func) → o ≡ slice_get funcs f → is_destructor_of n o ≡ true → f < length funcs
there n f funcs None e h = absurd cc
there n f funcs (Some func) e h = slice_get_within funcs f func (sym e)

destructor_fits : (code : Parts) (n : ℕ) (name : ℕ) (d : Option ℕ) (fields : List Field) → length code.funcs ≤ largest_word → destroys n code.funcs d ≡ true → DestructorFits (k.Struct name d fields)
destructor_fits code n name None fields le h = tt
destructor_fits code n name (Some f) fields le h = let lt = there n f code.funcs (slice_get code.funcs f) refl h in omega arith

kind_fits : (code : Parts) (reaches : ℕ → Bool) (n : ℕ) (info : KindInfo) → length code.funcs ≤ largest_word → kind_is_lawful code reaches n info ≡ true → DestructorFits info
kind_fits code reaches n (k.Struct name d fields) le h = destructor_fits code n name d fields le (and_parts _ _ (and_parts _ _ h).0).1
kind_fits code reaches n (k.Interface name methods) le h = tt
kind_fits code reaches n (k.Array item) le h = tt

kinds_each : (code : Parts) (reaches : ℕ → Bool) (n : ℕ) (infos : List KindInfo) → length code.funcs ≤ largest_word → kinds_fault code reaches n infos ≡ None → AllByRecursion DestructorFits infos
kinds_each code reaches n [] le h = tt
kinds_each code reaches n (info ∷ infos) le h =
    elim (cases_Bool (kind_is_lawful code reaches n info)) [
      | inl t ↦ (kind_fits code reaches n info le t, kinds_each code reaches (n + 1) infos le (let e = rw t at h in e))
      | inr t ↦ absurd (let e = rw t at h in cc)
    ]

-- ---- functions

form_fits : (n : ℕ) (code : Parts) (reaches : ℕ → Bool) (f : Func) → has_form code reaches n f ≡ true → n ≤ 3
form_fits zero code reaches f h = omega arith
form_fits (suc zero) code reaches f h = omega arith
form_fits (suc (suc zero)) code reaches f h = omega arith
form_fits (suc (suc (suc zero))) code reaches f h = omega arith
form_fits (suc (suc (suc (suc n)))) code reaches f h = absurd cc

live_fits : (f : Func) (live : List ℕ) → has_live f live ≡ true → LiveFits f.form live
live_fits f [] h = tt
live_fits f (n ∷ live) h = eqb-true f.form 2 (and_parts _ _ h).0

labels_each : (code : Parts) (reaches : ℕ → Bool) (f : Func) (labels : List Label) → list_all (label_is_lawful code reaches f) labels ≡ true → AllByRecursion (λ l. length l.regs ≡ f.registers) labels
labels_each code reaches f [] h = tt
labels_each code reaches f (l ∷ labels) h =
    let a = and_parts (label_is_lawful code reaches f l) (list_all (label_is_lawful code reaches f) labels) h in
    (eqb-true (length l.regs) f.registers (and_parts _ _ (and_parts _ _ a.0).0).1, labels_each code reaches f labels a.1)

func_fits : (code : Parts) (reaches : ℕ → Bool) (m : ℕ) (f : Func) (known : FuncFacts) → func_is_lawful code reaches m f known ≡ true → FuncFits (f, known)
func_fits code reaches m f known h =
    let labels = and_parts _ _ (and_parts _ _ h).0 in
    let live = and_parts _ _ labels.0 in
    let body = and_parts _ _ live.0 in
    record {
      form = form_fits f.form code reaches f (and_parts _ _ (and_parts _ _ (and_parts _ _ body.0).0).0).1;
      choices = choices_each code f.registers f.body (and_parts _ _ body.1).1;
      live = live_fits f known.live live.1;
      labels = labels_each code reaches f known.labels labels.1;
    }

funcs_each : (code : Parts) (reaches : ℕ → Bool) (m : ℕ) (fs : List Func) (facts : List FuncFacts) → funcs_fault code reaches m fs facts ≡ None
    → (length facts ≡ length fs) × AllByRecursion FuncFits (beside fs facts)
funcs_each code reaches m [] [] h = (refl, tt)
funcs_each code reaches m [] (known ∷ facts) h = absurd cc
funcs_each code reaches m (f ∷ fs) [] h = absurd cc
funcs_each code reaches m (f ∷ fs) (known ∷ facts) h =
    elim (cases_Bool (func_is_lawful code reaches m f known)) [
      | inl t ↦
          let rest = funcs_each code reaches (m + 1) fs facts (let e = rw t at h in e) in
          (ap suc rest.0, (func_fits code reaches m f known t, rest.1))
      | inr t ↦ absurd (let e = rw t at h in cc)
    ]

pub shaped_fits : (code : Parts) (facts : List FuncFacts) → length code.funcs ≤ largest_word → shape_fault code facts ≡ None → InTables code facts
shaped_fits code facts le h =
    let reaches = reaches_isolate code in
    let a = neither (kinds_fault code reaches 0 code.kinds) _ h in
    let b = neither _ _ a.1 in
    let c = funcs_each code reaches 0 code.funcs facts (uncounted _ _ b.1) in
    record { kinds = kinds_each code reaches 0 code.kinds le a.0; entries = c.0; funcs = c.1 }
