-- How a run of certified code begins.
use Rattle.std.proofs.Common.{◌≡◌, ℕ, zero, suc, ◌+◌, ◌-◌, ◌<◌, ◌≤◌, List, [], ◌∷◌, ◌++◌, length, drop, take, reverse, replicate, Option, Some, None, true, ◌==◌, refl, sym, ap, ◌∙◌, subst, arith}
use Rattle.std.specs.Prelude.{slice_get, IfOk, Result, Ok, Err}
use Rattle.std.proofs.Math.Logic.{∥∥₁_elim}
use Rattle.std.proofs.lemmas.Bool.{and_parts}
use Rattle.std.proofs.lemmas.List.{length-replicate, take_all}
use Rattle.std.proofs.lemmas.Bool.Decides.{nat_tests}
use Rattle.vale_state_spec.specs.State.{State, Given, no_input, begin, function_frame}
use Rattle.vale_state_spec.specs.World.{Value}
use Rattle.vale_base.specs.declared.piece.Piece.{Piece}
use Rattle.vale_code.specs.Enter.{Form, Plain, form_of, with_func, with_form, enter}
use Rattle.vale_code.specs.Frames.{Active, Running, Next, On, after_tick}
use Rattle.vale_code.specs.Kinds.{kind_of, text_at}
use Rattle.vale_code.specs.Parts.{Parts}
use Rattle.vale_code.specs.Registers.{registers_for}
use Rattle.vale_code.specs.Run.{first_spot, if_plain, start, with_input}
use Rattle.vale_code.specs.declared.func.Func.{Func}
use Rattle.vale_code.specs.declared.kind.KindInfo.{KindInfo}
use Rattle.vale_code.specs.declared.ty.Ty.{Ty}
use Rattle.vale_code.specs.declared.ty.Ty.TheVariants as t
use Rattle.vale_cert.specs.Certificate.{Certified, first_fault}
use Rattle.vale_cert.specs.Input.{function_takes, is_input_of, params_take, takes_input}
use Rattle.vale_cert.specs.declared.facts.FuncFacts.{FuncFacts}
use Rattle.vale_cert.specs.declared.fault.Fault.{Fault}
use Rattle.vale_cert.proofs.Standing.{ConfigFits, NextFits}
use Rattle.vale_cert.proofs.Start.{start_fits}
use Rattle.vale_cert.proofs.Walks.{main_is_there, main_lawful}
use Rattle.vale_registers.specs.Cells.{empty, values_in}
use Rattle.vale_registers.specs.Passing.{from_base}
use Rattle.vale_registers.specs.declared.cell.Cell.{Cell}
use Rattle.vale_machine.specs.Given.{IsStartable}
use Rattle.vale_machine.specs.UnderWay.{IsUnderWay}
use Rattle.vale_machine.specs.View.{IsLaid, Lie, active_of, all_texts, config_of, frames_in, name_in, registers_of, row_of, state_of, state_with}
use Rattle.vale_machine.specs.declared.machine.Frame.{Frame}
use Rattle.vale_machine.specs.declared.machine.Machine.{Machine}
use Rattle.vale_machine.proofs.Certified.{runnable, safe}
use Rattle.vale_machine.proofs.Giving.{empties}

untruncated : (o : Option Fault) → ∥ o ≡ None ∥₁ → o ≡ None
untruncated None t = refl
untruncated (Some f) t = absurd (∥∥₁_elim t (λ x y. absurd x) (λ e. let x : ⊥ = cc in x))

pub certified : (code : Parts) (facts : List FuncFacts) → ∥ Certified code facts ∥₁ → Certified code facts
certified code facts t = untruncated (first_fault code facts) t

found_at : (fs : List Func) (n : ℕ) → n < length fs → (f : Func) × (slice_get fs n ≡ Some f)
found_at [] n lt = absurd (omega arith)
found_at (f ∷ fs) zero lt = (f, refl)
found_at (f ∷ fs) (suc n) lt = found_at fs n (omega arith)

module _ (code : Parts) (facts : List FuncFacts) (cert : Certified code facts) where
  main : (f : Func) × (slice_get code.funcs code.main ≡ Some f)
  main = found_at code.funcs code.main (main_is_there code facts cert)

  nothing : (ps : List Ty) → params_take code ps no_input ≡ true → ps ≡ []
  nothing [] e = refl
  nothing (t.Own kind ∷ []) e = absurd (at (kind_of code kind) e)
    where
      at : (o : Option KindInfo) → is_input_of no_input o ≡ true → ⊥
      at o h = let x : ⊥ = cc in x
  nothing _ e = let x : ⊥ = cc in absurd x

  pub startable : takes_input code no_input ≡ true → IsStartable code
  startable takes = record {
    func = main.0;
    found = main.1;
    plain = (let e : (main.0.form == 0) ≡ true = (and_parts _ _ (and_parts _ _ (main_lawful code facts cert main.0 main.1)).0).0 in grind (arith, nat_tests));
    params = nothing main.0.params (subst (λ o. function_takes code no_input o ≡ true) main.1 takes);
  }

  pub under_way : code.kinds ≡ [] → (input : Given) → takes_input code input ≡ true → (ticks : ℕ) (m : Machine) → start code input ticks ≡ On (config_of code [] m) → IsLaid code m → m.left ≤ m.given → IsUnderWay code [] m
  under_way kindless input takes ticks m begins laid few = record { runnable = runnable code facts cert kindless; laid = laid; ticks = few; safe = safe code facts cert (config_of code [] m) fits }
    where
      fits : ConfigFits code facts (config_of code [] m)
      fits = subst (λ n. NextFits code facts n) begins (start_fits code facts cert input takes ticks)

  pub if_started : {E : Type 0} (ticks : ℕ) (r : Result Machine E) → code.kinds ≡ [] → takes_input code no_input ≡ true → IfOk r (λ m. start code no_input ticks ≡ On (config_of code [] m)) → IfOk r (λ m. IsLaid code m)
      → IfOk r (λ m. m.left ≤ m.given) → IfOk r (λ m. IsUnderWay code [] m)
  if_started ticks (Ok m) kindless takes begins laid few = under_way kindless no_input takes ticks m begins laid few
  if_started ticks (Err e) kindless takes begins laid few = begins

pub filled_new : (old cells : List Cell) (n : ℕ) → old ≡ [] → cells ≡ old ++ replicate (n - length old) empty → cells ≡ replicate n empty
filled_new old cells n e h =
    let m : n - 0 ≡ n = omega arith in
    h ∙ ap (λ l. l ++ replicate (n - length l) empty) e ∙ ap (λ k. replicate k empty) m

-- ---- the first step

module _ (code : Parts) (func : Func) (found : slice_get code.funcs code.main ≡ Some func) (plain : func.form ≡ 0) (params : func.params ≡ []) (ticks : ℕ) where
  abbrev enters_main : List Value → State → Next
  enters_main args s = enter code.main Plain func (function_frame (text_at code func.name) first_spot) None args [] s

  abbrev begins_it : Form → Func → Next
  begins_it form f = if_plain form (begin ticks) (with_input f.params None (begin ticks) (λ args s. enter code.main form f (function_frame (text_at code f.name) first_spot) None args [] s))

  pub first_step : start code no_input ticks ≡ enters_main [] (begin ticks)
  first_step =
      ap (λ o. with_func o (begin ticks) begins_it) found
      ∙ ap (λ n. with_form (form_of n) func (begin ticks) begins_it) plain
      ∙ ap (λ ps. with_input ps None (begin ticks) enters_main) params

  no_registers : (n : ℕ) (t : ℕ → List ℕ) (cells : List Cell) → cells ≡ replicate n empty → registers_for n [] ≡ values_in t (drop 0 (take n cells))
  no_registers n t cells e =
      let m : n - 0 ≡ n = omega arith in
      ap (λ k. replicate k None) m ∙ sym (empties t n) ∙ ap (values_in t) (sym e ∙ sym (take_all n cells (omega (arith, ap length e, length-replicate n empty))))

  abbrev main_frame : Frame
  main_frame = record { function = code.main; at = first_spot; dest = None; place = 0; base = 0 }

  abbrev main_active : Active
  main_active = record { call = function_frame (text_at code func.name) first_spot; function = code.main; dest = None; place = 0; registers = registers_for func.registers [] }

  abbrev begun_state : State
  begun_state = record (begin ticks) { left = ticks - 1; spent = 1 }

  ticked_on : (n : ℕ) (go : State → Next) → 0 < n → after_tick (begin n) go ≡ go (record (begin n) { left = n - 1; spent = 1 })
  ticked_on zero go lt = absurd (omega arith)
  ticked_on (suc n) go lt = let e : n ≡ suc n - 1 = omega arith in ap (λ k. go (record (begin (suc n)) { left = k; spent = 1 })) e

  pub begun : (m : Machine) → 0 < ticks → m.left ≡ ticks - 1 → m.given ≡ ticks → m.pieces.items ≡ [] → m.below.items ≡ [] → m.cells.items ≡ replicate func.registers empty → m.end ≡ func.registers → m.top ≡ main_frame
      → start code no_input ticks ≡ On (config_of code [] m)
  begun m some left given pieces below cells end top =
      let regs : registers_of m ≡ registers_for func.registers [] = ap (λ (f : Frame). values_in (from_base f.base (all_texts m)) (drop f.base (row_of m))) top ∙ ap (λ n. values_in (from_base 0 (all_texts m)) (drop 0 (take n m.cells.items))) end ∙ sym (no_registers func.registers (from_base 0 (all_texts m)) m.cells.items cells) in
      let act : active_of code m.top (registers_of m) ≡ main_active =
      ap (λ (f : Frame). active_of code f (registers_of m)) top ∙ ap (active_of code main_frame) regs
      ∙ ap (λ o. record { call = record { what = name_in code o; at = first_spot }; function = code.main; dest = None; place = 0; registers = registers_for func.registers [] }) found in
      let bel : frames_in code (reverse m.below.items) (all_texts m) (take m.top.base (row_of m)) ≡ [] = ap (λ fs. frames_in code (reverse fs) (all_texts m) (take m.top.base (row_of m))) below in
      let spent : m.given - m.left ≡ 1 = omega (arith, left, given, some) in
      let st : state_of [] m ≡ begun_state =
      ap (λ n. state_with n (m.given - m.left) ([] ++ m.pieces.items)) left ∙ ap (λ n. state_with (ticks - 1) n ([] ++ m.pieces.items)) spent ∙ ap (λ ps. state_with (ticks - 1) 1 ([] ++ ps)) pieces in
      first_step ∙ ticked_on ticks _ some ∙ sym (λ i. On (record { top = Running (act i); below = bel i; state = st i }))

  pub begun_laid : (m : Machine) → m.below.items ≡ [] → m.cells.items ≡ replicate func.registers empty → m.end ≡ func.registers → m.top ≡ main_frame → IsLaid code m
  begun_laid m below cells end top = record {
    lie = subst (λ (f : Frame). Lie code (f ∷ reverse m.below.items) m.end) (sym top)
        (subst (λ fs. Lie code (main_frame ∷ reverse fs) m.end) (sym below)
        (record { func = func; found = found; plain = plain; size = (let n : 0 + func.registers ≡ func.registers = omega arith in n ∙ sym end) }, tt, tt));
    there = omega (arith, end, length-replicate func.registers empty, ap length cells);
  }

-- what was printed so far, and is taken now
pub all_taken : (taken old result rest : List Piece) → result ≡ old → rest ≡ [] → taken ++ old ≡ (taken ++ result) ++ rest
all_taken taken old result rest e h = ap (λ l. taken ++ l) (sym e) ∙ sym (append_nil (taken ++ result)) ∙ ap (λ l. (taken ++ result) ++ l) (sym h)
  where
    append_nil : (xs : List Piece) → xs ++ [] ≡ xs
    append_nil [] = refl
    append_nil (x ∷ xs) = ap (λ l. x ∷ l) (append_nil xs)
