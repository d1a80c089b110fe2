use Rattle.vale_heap_calls.proofs.StepLaws.{look_alive, look_dead}
use Rattle.vale_heap_calls.proofs.session.Session.look.Goals as goal

pub returns-in-Some-clause-follows : goal.returns-in-Some-clause-follows
returns-in-Some-clause-follows c = look_alive _ _ _ c.args.name c.index.result.now c.index.ensures c.in-Some.body.now c.in-Some.ensures.stands

pub returns-in-None-clause-follows : goal.returns-in-None-clause-follows
returns-in-None-clause-follows c = look_dead _ _ _ c.args.name c.index.result.now c.index.ensures c.in-None.ensures.stands
