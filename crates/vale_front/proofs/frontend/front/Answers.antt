use Rattle.std.proofs.Common.{◌≡◌, sym, subst, arith}
use Rattle.vale_front.specs.Front.{Serves, unread, unsound}
use Rattle.vale_front.proofs.ByteLaws.{all_bytes}
use Rattle.vale_front.proofs.FaultLaws.{fault_weaker, fault_of, no_value}
use Rattle.vale_syntax.specs.View.{view_tree}
use Rattle.vale_front.proofs.frontend.front.Goals as goal

pub judge-requires : goal.judge-requires
judge-requires c = (c.args.text.now, all_bytes c.args.text.now (λ k. omega (arith, c.type_inv.text k)), c.in-Ok.ensures.found)

pub returns-in-Ok-clause-complete : goal.returns-in-Ok-clause-complete
returns-in-Ok-clause-complete c t decls program a =
    let same : view_tree c.in-Ok.tree ≡ t = c.in-Ok.ensures.complete t a.reads in
    c.judge.ensures.complete decls program (subst (λ z. Serves z decls program) (sym same) a.serves)

pub returns-in-Ok-clause-refused : goal.returns-in-Ok-clause-refused
returns-in-Ok-clause-refused c =
    fault_weaker c.judge.result _ _ (λ f why. unsound (view_tree c.in-Ok.tree) c.in-Ok.ensures.found why) c.judge.ensures.refused

pub returns-in-Err-clause-complete : goal.returns-in-Err-clause-complete
returns-in-Err-clause-complete c t decls program a = no_value c.in-Err.fail _ _ (c.in-Err.ensures.complete t a.reads)

pub returns-in-Err-clause-refused : goal.returns-in-Err-clause-refused
returns-in-Err-clause-refused c = fault_of c.in-Err.fail _ _ (λ f why. unread why) c.in-Err.ensures.refused
