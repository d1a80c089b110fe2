use Rattle.std.proofs.Common.{arith}
use Rattle.std.proofs.lemmas.Result.{IfOk-weaker}
use Rattle.vale_run.proofs.Asked.{asked_ticks, exec_ticks}
use Rattle.vale_run.proofs.Jobs.{name_found, run_within, run_owes, run_fails, check_within, check_owes, check_fails, fmt_within, fmt_owes, fmt_fails, build_within, build_owes, build_fails, exec_within, exec_owes, exec_fails, list_within, list_owes, list_fails, other_job}
use Rattle.vale_run.proofs.answer.do_job.Goals as goal

pub returns-in-Run-clause-owed : goal.returns-in-Run-clause-owed
returns-in-Run-clause-owed g c =
    let (first, two) = run_within _ _ _ _ c.requires.asked c.in-Run.is in
    IfOk-weaker c.run_file.result _ _ (λ a owed. run_owes _ _ c.requires (g.H.Shelf.state c.args.shelf.now) _ _ _ (omega (arith, first, two)) c.index-words-file.is c.as_str.ensures.value _ c.in-Run.is a owed) c.run_file.ensures.owed

pub returns-in-Run-clause-read : goal.returns-in-Run-clause-read
returns-in-Run-clause-read g c failed =
    let (first, two) = run_within _ _ _ _ c.requires.asked c.in-Run.is in
    run_fails _ _ c.requires (g.H.Shelf.state c.args.shelf.now) _ _ _ (omega (arith, first, two)) c.index-words-file.is c.as_str.ensures.value _ c.in-Run.is (g.H.Shelf.state c.run_file.new.shelf) (c.run_file.ensures.read failed)

pub run_file-requires-clause-some : goal.run_file-requires-clause-some
run_file-requires-clause-some g c =
    let asked = rw c.in-Run.is at c.requires.asked in
    (asked_ticks _ _ _ asked).some

pub run_file-requires-clause-few : goal.run_file-requires-clause-few
run_file-requires-clause-few g c =
    let asked = rw c.in-Run.is at c.requires.asked in
    (asked_ticks _ _ _ asked).few

pub returns-in-Check-clause-owed : goal.returns-in-Check-clause-owed
returns-in-Check-clause-owed g c =
    let within = check_within _ _ _ c.requires.asked c.in-Check.is in
    IfOk-weaker c.check_file.result _ _ (λ a owed. check_owes _ _ c.requires (g.H.Shelf.state c.args.shelf.now) _ _ _ within c.index-words-file-in-Check.is c.as_str-in-Check.ensures.value c.in-Check.is a owed) c.check_file.ensures.owed

pub returns-in-Check-clause-read : goal.returns-in-Check-clause-read
returns-in-Check-clause-read g c failed =
    let within = check_within _ _ _ c.requires.asked c.in-Check.is in
    check_fails _ _ c.requires (g.H.Shelf.state c.args.shelf.now) _ _ _ within c.index-words-file-in-Check.is c.as_str-in-Check.ensures.value c.in-Check.is (g.H.Shelf.state c.check_file.new.shelf) (c.check_file.ensures.read failed)

pub returns-in-Fmt-clause-owed : goal.returns-in-Fmt-clause-owed
returns-in-Fmt-clause-owed g c =
    let within = fmt_within _ _ _ c.requires.asked c.in-Fmt.is in
    IfOk-weaker c.format_file.result _ _ (λ a owed. fmt_owes _ _ c.requires (g.H.Shelf.state c.args.shelf.now) _ _ _ within c.index-words-file-in-Fmt.is c.as_str-in-Fmt.ensures.value c.in-Fmt.is a owed) c.format_file.ensures.owed

pub returns-in-Fmt-clause-read : goal.returns-in-Fmt-clause-read
returns-in-Fmt-clause-read g c failed =
    let within = fmt_within _ _ _ c.requires.asked c.in-Fmt.is in
    fmt_fails _ _ c.requires (g.H.Shelf.state c.args.shelf.now) _ _ _ within c.index-words-file-in-Fmt.is c.as_str-in-Fmt.ensures.value c.in-Fmt.is (g.H.Shelf.state c.format_file.new.shelf) (c.format_file.ensures.read failed)

pub returns-in-Build-clause-owed : goal.returns-in-Build-clause-owed
returns-in-Build-clause-owed g c =
    let (within, other) = build_within _ _ _ _ c.requires.asked c.in-Build.is in
    let names = name_found _ _ _ _ other c.index-words-code.is c.as_str-in-Build.ensures.value in
    IfOk-weaker c.build_file.result _ _ (λ a owed. build_owes _ _ c.requires (g.H.Shelf.state c.args.shelf.now) _ _ _ within c.index-words-file-in-Build.is c.as_str-name.ensures.value _ _ names c.in-Build.is a owed) c.build_file.ensures.owed

pub returns-in-Build-clause-read : goal.returns-in-Build-clause-read
returns-in-Build-clause-read g c failed =
    let (within, other) = build_within _ _ _ _ c.requires.asked c.in-Build.is in
    let names = name_found _ _ _ _ other c.index-words-code.is c.as_str-in-Build.ensures.value in
    build_fails _ _ c.requires (g.H.Shelf.state c.args.shelf.now) _ _ _ within c.index-words-file-in-Build.is c.as_str-name.ensures.value _ _ names c.in-Build.is (g.H.Shelf.state c.build_file.new.shelf) (c.build_file.ensures.read failed)

pub returns-in-Exec-clause-owed : goal.returns-in-Exec-clause-owed
returns-in-Exec-clause-owed g c =
    let (first, two) = exec_within _ _ _ _ c.requires.asked c.in-Exec.is in
    IfOk-weaker c.exec_file.result _ _ (λ a owed. exec_owes _ _ c.requires (g.H.Shelf.state c.args.shelf.now) _ _ _ (omega (arith, first, two)) c.index-words-code-in-Exec.is c.as_str-in-Exec.ensures.value _ c.in-Exec.is a owed) c.exec_file.ensures.owed

pub returns-in-Exec-clause-read : goal.returns-in-Exec-clause-read
returns-in-Exec-clause-read g c failed =
    let (first, two) = exec_within _ _ _ _ c.requires.asked c.in-Exec.is in
    exec_fails _ _ c.requires (g.H.Shelf.state c.args.shelf.now) _ _ _ (omega (arith, first, two)) c.index-words-code-in-Exec.is c.as_str-in-Exec.ensures.value _ c.in-Exec.is (g.H.Shelf.state c.exec_file.new.shelf) (c.exec_file.ensures.read failed)

pub exec_file-requires-clause-some : goal.exec_file-requires-clause-some
exec_file-requires-clause-some g c =
    let asked = rw c.in-Exec.is at c.requires.asked in
    (exec_ticks _ _ _ asked).some

pub exec_file-requires-clause-few : goal.exec_file-requires-clause-few
exec_file-requires-clause-few g c =
    let asked = rw c.in-Exec.is at c.requires.asked in
    (exec_ticks _ _ _ asked).few

pub returns-in-List-clause-owed : goal.returns-in-List-clause-owed
returns-in-List-clause-owed g c =
    let within = list_within _ _ _ c.requires.asked c.in-List.is in
    IfOk-weaker c.list_file.result _ _ (λ a owed. list_owes _ _ c.requires (g.H.Shelf.state c.args.shelf.now) _ _ _ within c.index-words-code-in-List.is c.as_str-in-List.ensures.value c.in-List.is a owed) c.list_file.ensures.owed

pub returns-in-List-clause-read : goal.returns-in-List-clause-read
returns-in-List-clause-read g c failed =
    let within = list_within _ _ _ c.requires.asked c.in-List.is in
    list_fails _ _ c.requires (g.H.Shelf.state c.args.shelf.now) _ _ _ within c.index-words-code-in-List.is c.as_str-in-List.ensures.value c.in-List.is (g.H.Shelf.state c.list_file.new.shelf) (c.list_file.ensures.read failed)
