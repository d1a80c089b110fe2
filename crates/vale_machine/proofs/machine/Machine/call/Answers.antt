use Rattle.std.proofs.Common.{◌≡◌, ◌<◌, ◌≤◌, ◌+◌, ◌-◌, ◌++◌, List, length, take, map, replicate, Some, None, refl, ap, ◌∙◌, subst, arith}
use Rattle.std.proofs.lemmas.List.{take-take}
use Rattle.vale_base.specs.Limits.{depth_limit}
use Rattle.vale_base.specs.declared.piece.Piece.{Piece}
use Rattle.vale_code.specs.Kinds.{result_to}
use Rattle.vale_code.specs.Registers.{give_all, read}
use Rattle.vale_code.specs.Run.{last_state}
use Rattle.vale_code.specs.declared.func.Func.{Func}
use Rattle.vale_registers.specs.Cells.{HasRegister}
use Rattle.vale_registers.specs.Passing.{values_from}
use Rattle.vale_machine.specs.View.{active, below, own_cells, own_texts, registers_of, row_of, state_of}
use Rattle.vale_machine.specs.declared.machine.Frame.{Frame}
use Rattle.vale_machine.specs.declared.machine.Machine.{Machine}
use Rattle.vale_machine.proofs.Entering.{call_is, deep_enough, entered, lies, no_tick, one_tick, same_func, too_deep, IsEntered}
use Rattle.vale_machine.proofs.Frames.{row_size, same_row}
use Rattle.vale_machine.proofs.Giving.{are_given, args_within, map_count, registers_given}
use Rattle.vale_machine.proofs.machine.Machine.call.Goals as goal

pub returns-then-len-gt-DEPTH_LIMIT-clause-step : goal.returns-then-len-gt-DEPTH_LIMIT-clause-step
returns-then-len-gt-DEPTH_LIMIT-clause-step c = λ taken.
    let code = c.args.code.now in
    let m = c.args.self.now in
    let there = c.requires.laid.there in
    let g = c.requires.given in
    let func = g.func in
    let same = same_func _ _ func c.requires.callable.found g.found in
    let plain = subst (λ (f : Func). f.form ≡ 0) same c.requires.callable.plain in
    let given = are_given (own_texts m) (own_cells m) func.params c.args.args.now g.read g.is in
    let all : give_all func.params c.args.args.now (registers_of m) ≡ Some (record { values = g.read.values; after = registers_of m }) = g.is ∙ ap (λ x. Some (record { values = g.read.values; after = x })) given.after in
    let is = λ (taken : List Piece). call_is code (last_state code) (active code m) (below code m) (state_of taken m) c.args.to c.args.function c.args.args.now c.args.at func g.read.values (registers_of m) g.found plain all in
    let deep : depth_limit < length m.below.items + 2 = omega (arith, c.len.ensures, m.below.ok.0, c.if-len-gt-DEPTH_LIMIT.true) in
    is taken ∙ too_deep code taken m c.args.at _ deep

pub returns-then-self-eq0-clause-step : goal.returns-then-self-eq0-clause-step
returns-then-self-eq0-clause-step c = λ taken.
    let code = c.args.code.now in
    let m = c.args.self.now in
    let there = c.requires.laid.there in
    let g = c.requires.given in
    let func = g.func in
    let same = same_func _ _ func c.requires.callable.found g.found in
    let plain = subst (λ (f : Func). f.form ≡ 0) same c.requires.callable.plain in
    let given = are_given (own_texts m) (own_cells m) func.params c.args.args.now g.read g.is in
    let all : give_all func.params c.args.args.now (registers_of m) ≡ Some (record { values = g.read.values; after = registers_of m }) = g.is ∙ ap (λ x. Some (record { values = g.read.values; after = x })) given.after in
    let is = λ (taken : List Piece). call_is code (last_state code) (active code m) (below code m) (state_of taken m) c.args.to c.args.function c.args.args.now c.args.at func g.read.values (registers_of m) g.found plain all in
    let flat : length m.below.items + 2 ≤ depth_limit = omega (arith, c.len.ensures, m.below.ok.0, c.if-len-gt-DEPTH_LIMIT.false) in
    is taken ∙ deep_enough code taken m c.args.at _ flat ∙ no_tick (state_of taken m) _ c.if-self-eq0.true

pub pass-requires-clause-top : goal.pass-requires-clause-top
pass-requires-clause-top c =
    let code = c.args.code.now in
    let m = c.args.self.now in
    let there = c.requires.laid.there in
    let g = c.requires.given in
    let func = g.func in
    let same = same_func _ _ func c.requires.callable.found g.found in
    let plain = subst (λ (f : Func). f.form ≡ 0) same c.requires.callable.plain in
    let given = are_given (own_texts m) (own_cells m) func.params c.args.args.now g.read g.is in
    let callee : c.function_of-callee.result.now ≡ func = same_func _ _ func c.function_of-callee.ensures g.found in
    let params = subst (λ (f : Func). length f.params ≤ f.registers) same c.requires.callable.params in
    let registers : c.function_of-callee.result.now.registers ≡ func.registers = ap (λ (f : Func). f.registers) callee in
    let count : length c.args.args.now ≤ func.registers = omega (arith, given.count, params, map_count (read (registers_of m)) c.args.args.now g.read.values given.values) in
    omega (arith, count, registers)

pub pass-requires-clause-end : goal.pass-requires-clause-end
pass-requires-clause-end c = c.in-Ok.ensures.size

pub pass-requires-clause-within : goal.pass-requires-clause-within
pass-requires-clause-within c =
    let code = c.args.code.now in
    let m = c.args.self.now in
    let there = c.requires.laid.there in
    let g = c.requires.given in
    let func = g.func in
    let same = same_func _ _ func c.requires.callable.found g.found in
    let plain = subst (λ (f : Func). f.form ≡ 0) same c.requires.callable.plain in
    let given = are_given (own_texts m) (own_cells m) func.params c.args.args.now g.read g.is in
    args_within (own_texts m) c.args.args.now g.read.values m.top.base m.end (row_of m) given.values (omega (arith, c.requires.laid.lie.0.size)) (row_size m there)

pub returns-clause-step : goal.returns-clause-step
returns-clause-step c = λ taken.
    let code = c.args.code.now in
    let m = c.args.self.now in
    let there = c.requires.laid.there in
    let g = c.requires.given in
    let func = g.func in
    let same = same_func _ _ func c.requires.callable.found g.found in
    let plain = subst (λ (f : Func). f.form ≡ 0) same c.requires.callable.plain in
    let given = are_given (own_texts m) (own_cells m) func.params c.args.args.now g.read g.is in
    let all : give_all func.params c.args.args.now (registers_of m) ≡ Some (record { values = g.read.values; after = registers_of m }) = g.is ∙ ap (λ x. Some (record { values = g.read.values; after = x })) given.after in
    let is = λ (taken : List Piece). call_is code (last_state code) (active code m) (below code m) (state_of taken m) c.args.to c.args.function c.args.args.now c.args.at func g.read.values (registers_of m) g.found plain all in
    let callee : c.function_of-callee.result.now ≡ func = same_func _ _ func c.function_of-callee.ensures g.found in
    let params = subst (λ (f : Func). length f.params ≤ f.registers) same c.requires.callable.params in
    let registers : c.function_of-callee.result.now.registers ≡ func.registers = ap (λ (f : Func). f.registers) callee in
    let count : length c.args.args.now ≤ func.registers = omega (arith, given.count, params, map_count (read (registers_of m)) c.args.args.now g.read.values given.values) in
    let end = m.end + c.function_of-callee.result.now.registers in
    let row : take m.end c.reserve.new.cells.items ≡ row_of m = same_row m.cells.items c.reserve.new.cells.items m.end there c.in-Ok.ensures.same in
    let p = c.in-Ok-pass.ensures.passed in
    let f = read (registers_of m) in
    let own : values_from m.end c.pass.new.texts (take end c.pass.new.cells.items) ≡ map f c.args.args.now ++ replicate (end - m.end - length c.args.args.now) None =
    p.own ∙ ap (λ l. map (read (values_from m.top.base m.texts l)) c.args.args.now ++ replicate (end - m.end - length c.args.args.now) None) row in
    let size : end ≡ m.end + func.registers = ap (λ n. m.end + n) registers in
    let dest : c.dest_of-dest.result ≡ result_to func.result c.args.to = c.dest_of-dest.ensures ∙ ap (λ (f : Func). result_to f.result c.args.to) callee in
    let made : Frame = record { function = c.args.function; at = c.args.at; dest = c.dest_of-dest.result; place = 0; base = m.end } in
    let top = ap (λ o. record made { dest = o }) dest in
    let new : Machine = record { alloc = m.alloc; cells = c.pass.new.cells; end = end; texts = c.pass.new.texts; top = made; below = c.push.new.self; left = m.left - 1; given = m.given; pieces = m.pieces } in
    let q : IsEntered code func m new c.args.to c.args.function c.args.at g.read.values = record {
      found = g.found;
      top = top;
      end = size;
      there = omega (arith, c.in-Ok.ensures.size, c.pass.ensures.size);
      below = c.in-Ok-push.ensures.items;
      registers = registers_given f c.args.args.now g.read.values m.end end func.registers _ size given.values own;
      under = take-take m.end end c.pass.new.cells.items (omega arith) ∙ p.row ∙ row;
      texts = p.others;
      left = refl;
      given = refl;
      pieces = refl;
    } in
    let flat : length m.below.items + 2 ≤ depth_limit = omega (arith, c.len.ensures, m.below.ok.0, c.if-len-gt-DEPTH_LIMIT.false) in
    is taken ∙ deep_enough code taken m c.args.at _ flat
    ∙ one_tick m.left m.given (taken ++ m.pieces.items) _ (omega (arith, c.if-self-eq0.false)) c.requires.ticks
    ∙ entered code func m new c.args.to c.args.function c.args.at g.read.values q there taken

pub returns-clause-laid : goal.returns-clause-laid
returns-clause-laid c =
    let code = c.args.code.now in
    let m = c.args.self.now in
    let there = c.requires.laid.there in
    let g = c.requires.given in
    let func = g.func in
    let same = same_func _ _ func c.requires.callable.found g.found in
    let plain = subst (λ (f : Func). f.form ≡ 0) same c.requires.callable.plain in
    let given = are_given (own_texts m) (own_cells m) func.params c.args.args.now g.read g.is in
    let callee : c.function_of-callee.result.now ≡ func = same_func _ _ func c.function_of-callee.ensures g.found in
    let params = subst (λ (f : Func). length f.params ≤ f.registers) same c.requires.callable.params in
    let registers : c.function_of-callee.result.now.registers ≡ func.registers = ap (λ (f : Func). f.registers) callee in
    let count : length c.args.args.now ≤ func.registers = omega (arith, given.count, params, map_count (read (registers_of m)) c.args.args.now g.read.values given.values) in
    let end = m.end + c.function_of-callee.result.now.registers in
    let row : take m.end c.reserve.new.cells.items ≡ row_of m = same_row m.cells.items c.reserve.new.cells.items m.end there c.in-Ok.ensures.same in
    let p = c.in-Ok-pass.ensures.passed in
    let f = read (registers_of m) in
    let own : values_from m.end c.pass.new.texts (take end c.pass.new.cells.items) ≡ map f c.args.args.now ++ replicate (end - m.end - length c.args.args.now) None =
    p.own ∙ ap (λ l. map (read (values_from m.top.base m.texts l)) c.args.args.now ++ replicate (end - m.end - length c.args.args.now) None) row in
    let size : end ≡ m.end + func.registers = ap (λ n. m.end + n) registers in
    let dest : c.dest_of-dest.result ≡ result_to func.result c.args.to = c.dest_of-dest.ensures ∙ ap (λ (f : Func). result_to f.result c.args.to) callee in
    let made : Frame = record { function = c.args.function; at = c.args.at; dest = c.dest_of-dest.result; place = 0; base = m.end } in
    let top = ap (λ o. record made { dest = o }) dest in
    let new : Machine = record { alloc = m.alloc; cells = c.pass.new.cells; end = end; texts = c.pass.new.texts; top = made; below = c.push.new.self; left = m.left - 1; given = m.given; pieces = m.pieces } in
    let q : IsEntered code func m new c.args.to c.args.function c.args.at g.read.values = record {
      found = g.found;
      top = top;
      end = size;
      there = omega (arith, c.in-Ok.ensures.size, c.pass.ensures.size);
      below = c.in-Ok-push.ensures.items;
      registers = registers_given f c.args.args.now g.read.values m.end end func.registers _ size given.values own;
      under = take-take m.end end c.pass.new.cells.items (omega arith) ∙ p.row ∙ row;
      texts = p.others;
      left = refl;
      given = refl;
      pieces = refl;
    } in
    let room = subst (λ (f : Func). HasRegister (result_to f.result c.args.to) (m.end - m.top.base)) same c.requires.callable.room in
    lies code func m new c.args.to c.args.function c.args.at g.read.values q plain room c.requires.laid
