use Rattle.std.proofs.Common.{refl}
use Rattle.vale_deliver.specs.Delivered.{delivered, wants_memory, sent, put_failed}
use Rattle.vale_deliver.proofs.SentLaws.{sent_alike, same_files, puts_none, puts_some}
use Rattle.vale_deliver.proofs.delivery.deliver.Goals as goal

pub returns-in_default-clause-handed : goal.returns-in_default-clause-handed
returns-in_default-clause-handed g c input =
    let went = rw (c.as_slice-text.ensures, c.as_slice-report.ensures) at c.send.ensures.sent in
    delivered (sent (puts_none _ _ _ c.in_default.is (same_files _)) (sent_alike _ _ _ _ _ _ _ _ _ _ _ _ _ _ _ (went (g.H.Shelf.state c.args.shelf.now) (g.H.Shelf.state c.args.shelf.now) input input)))

pub returns-in-Ok-clause-handed : goal.returns-in-Ok-clause-handed
returns-in-Ok-clause-handed g c input =
    let went = rw (c.as_slice-text.ensures, c.as_slice-report.ensures) at c.send-in-Ok.ensures.sent in
    let has = rw (c.name.ensures, c.bytes.ensures) at c.in-Ok.ensures.ok in
    let others = rw c.name.ensures at c.in-Ok.ensures.others in
    delivered (sent (puts_some _ _ _ _ c.in-Some.is has others) (sent_alike _ _ _ _ _ _ _ _ _ _ _ _ _ _ _ (went (g.H.Shelf.state c.args.shelf.now) (g.H.Shelf.state c.args.shelf.now) input input)))

pub returns-in-Err-Failed-clause-handed : goal.returns-in-Err-Failed-clause-handed
returns-in-Err-Failed-clause-handed g c input =
    let others = rw c.name.ensures at c.in-Err-Failed.ensures.others in
    let cause = rw c.name.ensures at c.in-Err-Failed.ensures.cause in
    delivered (put_failed _ c.in-Some.is (record { write_fault = refl; cause = (cause.rose cc, cause.last cc); others = others; out_kept = refl; err_kept = refl }))

pub returns-in-Err-Memory-clause-handed : goal.returns-in-Err-Memory-clause-handed
returns-in-Err-Memory-clause-handed g c input =
    let keeps = c.in-Err-Memory.ensures.memory cc in
    wants_memory _ c.in-Some.is (sent keeps (c.send-in-Err-Memory.ensures.sent _ _ input input))
