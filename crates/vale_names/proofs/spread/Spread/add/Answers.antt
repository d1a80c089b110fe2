use Rattle.std.proofs.Common.{sym, ◌∙◌}
use Rattle.vale_names.specs.declared.spread.Spread.{Spread}
use Rattle.vale_names.specs.Names.{has}
use Rattle.vale_names.proofs.SpreadLaws.{adds_new}
use Rattle.vale_names.proofs.TestLaws.{not_true}
use Rattle.vale_names.proofs.spread.Spread.add.Goals as goal

pub returns-in_ok-push : goal.returns-in_ok-push
returns-in_ok-push c =
    let new : Spread = record { found = c.insert.new.self; todo = c.push.new.self } in
    adds_new c.args.self.now new c.args.name (not_true (has c.args.self.now.found c.args.name) (sym c.in_ok-insert.ensures.was_new ∙ c.if-branch.true)) c.in_ok-insert.ensures.all c.in_ok-push.ensures.items
