use Rattle.vale_heap_calls.proofs.StepLaws.{open_tied}
use Rattle.vale_heap_calls.proofs.session.Session.open.Goals as goal

pub returns-clause-tied : goal.returns-clause-tied
returns-clause-tied c = rw (c.in_ok-open.ensures, c.new.ensures.items) (open_tied _ _ _ c.in_ok-open-2.field-0 c.in_ok-open-2.ensures)
