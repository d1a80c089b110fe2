use Rattle.std.proofs.Common.{◌≡◌, ◌-◌, ◌++◌, ◌∙◌, Some, None, length, replicate, refl, ap, sym, subst}
use Rattle.std.specs.Prelude.{slice_get}
use Rattle.vale_code.specs.Parts.{Parts}
use Rattle.vale_code.specs.Run.{first_spot}
use Rattle.vale_code.specs.declared.func.Func.{Func}
use Rattle.vale_registers.specs.Cells.{empty}
use Rattle.vale_machine.specs.declared.machine.Frame.{Frame}
use Rattle.vale_machine.specs.declared.machine.Machine.{Machine}
use Rattle.vale_machine.proofs.Beginning.{begun, begun_laid, filled_new}
use Rattle.vale_machine.proofs.Entering.{same_func}
use Rattle.vale_machine.proofs.start.begin.Goals as goal

pub returns-clause-begins : goal.returns-clause-begins
returns-clause-begins c =
    let code = c.args.code.now in let st = c.requires.startable in
    let main : c.code.inside.main ≡ code.main = ap (λ (p : Parts). p.main) c.code.view_is in
    let func : st.func ≡ c.function_of-main.result.now = same_func _ st.func _ st.found (subst (λ n. slice_get code.funcs n ≡ Some c.function_of-main.result.now) main c.function_of-main.ensures) in
    let at_main : Frame = record { function = code.main; at = first_spot; dest = None; place = 0; base = 0 } in
    let top : Frame = record { function = c.code.inside.main; at = first_spot; dest = None; place = 0; base = 0 } in
    let same : top ≡ at_main = ap (λ n. record at_main { function = n }) main in
    let m : Machine = record { alloc = c.args.alloc; cells = c.fill.new.cells; end = c.function_of-main.result.now.registers; texts = c.new.result; top = top; below = c.new-2.result; left = c.args.ticks - 1; given = c.args.ticks; pieces = c.new-3.result } in
    let cells = filled_new c.new-cells.result.items c.fill.new.cells.items st.func.registers c.new-cells.ensures.items
    (c.in_ok-fill.ensures ∙ ap (λ (f : Func). c.new-cells.result.items ++ replicate (f.registers - length c.new-cells.result.items) empty) (sym func)) in
    begun code st.func st.found st.plain st.params c.args.ticks m c.requires.some refl refl c.new-3.ensures.items c.new-2.ensures.items cells (sym (ap (λ (f : Func). f.registers) func)) same

pub returns-clause-laid : goal.returns-clause-laid
returns-clause-laid c =
    let code = c.args.code.now in let st = c.requires.startable in
    let main : c.code.inside.main ≡ code.main = ap (λ (p : Parts). p.main) c.code.view_is in
    let func : st.func ≡ c.function_of-main.result.now = same_func _ st.func _ st.found (subst (λ n. slice_get code.funcs n ≡ Some c.function_of-main.result.now) main c.function_of-main.ensures) in
    let at_main : Frame = record { function = code.main; at = first_spot; dest = None; place = 0; base = 0 } in
    let top : Frame = record { function = c.code.inside.main; at = first_spot; dest = None; place = 0; base = 0 } in
    let same : top ≡ at_main = ap (λ n. record at_main { function = n }) main in
    let m : Machine = record { alloc = c.args.alloc; cells = c.fill.new.cells; end = c.function_of-main.result.now.registers; texts = c.new.result; top = top; below = c.new-2.result; left = c.args.ticks - 1; given = c.args.ticks; pieces = c.new-3.result } in
    let cells = filled_new c.new-cells.result.items c.fill.new.cells.items st.func.registers c.new-cells.ensures.items
    (c.in_ok-fill.ensures ∙ ap (λ (f : Func). c.new-cells.result.items ++ replicate (f.registers - length c.new-cells.result.items) empty) (sym func)) in
    begun_laid code st.func st.found st.plain st.params c.args.ticks m c.new-2.ensures.items cells (sym (ap (λ (f : Func). f.registers) func)) same
