-- Functions with their facts that fit have a spelling.
use Rattle.std.proofs.Common.{◌≡◌, ℕ, zero, suc, ◌≤◌, Bool, true, false, ◌&&◌, List, [], ◌∷◌, length, refl, arith}
use Rattle.std.proofs.lemmas.Bool.{and_parts}
use Rattle.std.specs.List.{AllByRecursion, list_all}
use Rattle.vale_cert.specs.Small.{label_is_small}
use Rattle.vale_cert.specs.declared.facts.FuncFacts.{FuncFacts}
use Rattle.vale_cert.specs.declared.facts.Label.{Label}
use Rattle.vale_cert.specs.declared.facts.RegFact.TheVariants as r
use Rattle.vale_code.specs.Sizes.{is_few, instr_is_small}
use Rattle.vale_code.specs.declared.func.Func.{Func}
use Rattle.vale_code.specs.declared.ty.Ty.{Ty}
use Rattle.vale_codec.specs.Numbers.{largest_word}
use Rattle.vale_file_fits.specs.Operands.{OperandsFit}
use Rattle.vale_file_fits.specs.Fits.{InstrIsFit, LabelIsFit, FuncIsFit}
use Rattle.vale_file_fits.specs.Tables.{ChoicesFit, LiveFits}
use Rattle.vale_file_fits.proofs.InstrFits.{instr_fits}
use Rattle.vale_file_fits.proofs.ListFits.{list_fits, apply_both, each_of}
use Rattle.vale_file_fits.proofs.PartFits.{few, tys_fit}
use Rattle.vale_file_spec.specs.File.{held, reg, label, labels, live, instrs, head, func}
use Rattle.vale_file_spec.specs.Instructions.{words, instr}
use Rattle.vale_file_spec.specs.Types.{ty}

pub empty_fits : reg.Fits r.Empty
unfolding reg
empty_fits = ((0, r.Empty), refl, (omega arith, (tt, refl, tt)))

pub held_fits : (t : Ty) (depth : ℕ) (alive : Bool) → ty.Fits t → depth ≤ largest_word → reg.Fits (r.Held t depth alive)
unfolding reg held
held_fits t depth false a b = ((1, r.Held t depth false), refl, (omega arith, ((t, depth), refl, (a, b))))
held_fits t depth true a b = ((2, r.Held t depth true), refl, (omega arith, ((t, depth), refl, (a, b))))

labels_each : (registers : ℕ) (ls : List Label) → AllByRecursion (λ l. length l.regs ≡ registers) ls → AllByRecursion LabelIsFit ls → AllByRecursion (label registers).Fits ls
unfolding label
labels_each registers [] h each = tt
labels_each registers (l ∷ ls) h each = (((l.at, (l.depth, l.regs)), refl, (each.0.0, (each.0.1.0, (h.0, each.0.1.1)))), labels_each registers ls h.1 each.1)

labels_fit : (registers : ℕ) (ls : List Label) → is_few (length ls) ≡ true → AllByRecursion (λ l. length l.regs ≡ registers) ls → AllByRecursion LabelIsFit ls → (labels registers).Fits ls
unfolding labels
labels_fit registers ls small h each = list_fits (label registers) ls (few (length ls) small) (labels_each registers ls h each)

live_fits : (form : ℕ) (xs : List ℕ) → form ≤ 3 → LiveFits form xs → words.Fits xs → (live form).Fits xs
unfolding live
live_fits zero [] le h w = (tt, refl, tt)
live_fits zero (n ∷ xs) le h w = absurd (omega arith)
live_fits (suc zero) [] le h w = (tt, refl, tt)
live_fits (suc zero) (n ∷ xs) le h w = absurd (omega arith)
live_fits (suc (suc zero)) xs le h w = w
live_fits (suc (suc (suc zero))) [] le h w = (tt, refl, tt)
live_fits (suc (suc (suc zero))) (n ∷ xs) le h w = absurd (omega arith)
live_fits (suc (suc (suc (suc n)))) xs le h w = absurd (omega arith)

pub func_fits : (f : Func) (known : FuncFacts) → f.name ≤ largest_word → AllByRecursion ty.Fits f.params → ty.Fits f.result → f.registers ≤ largest_word
    → AllByRecursion InstrIsFit f.body → (is_few (length known.live) ≡ true → words.Fits known.live) → AllByRecursion LabelIsFit known.labels → FuncIsFit (f, known)
unfolding func head instrs
func_fits f known name params result registers body alive points = λ small short facts_small h.
    let a = and_parts (is_few (length f.params)) (list_all instr_is_small f.body) small in
    let b = and_parts (is_few (length known.live) && is_few (length known.labels)) (list_all label_is_small known.labels) facts_small in
    let c = and_parts (is_few (length known.live)) (is_few (length known.labels)) b.0 in
    let operands = apply_both instr_is_small ChoicesFit OperandsFit f.body a.1 h.choices body in (
      ((f.name, (f.form, (f.params, (f.result, f.registers)))), (f.body, (known.live, known.labels))),
      refl,
      (
        (name, (h.form, (tys_fit f.params params a.0, (result, registers)))),
        (
          list_fits instr f.body short (each_of OperandsFit instr.Fits instr_fits f.body operands),
          (live_fits f.form known.live h.form h.live (alive c.0), labels_fit f.registers known.labels c.1 h.labels points),
        ),
      ),
    )
