use Rattle.std.proofs.Common.{◌≡◌, [], refl, sym, subst, ◌∙◌, arith, inl, rules}
use Rattle.vale_deliver.specs.Delivered.{sent, no_memory}
use Rattle.vale_ports.specs.Shelf.{KeepsFiles}
use Rattle.vale_run.specs.Causes.{of_file}
use Rattle.vale_run.specs.Headline.{no_read, wants_memory}
use Rattle.vale_run.specs.Owed.{read_fault}
use Rattle.vale_run.proofs.Comings.{owed_low, owed_no_file, write_reads, answered_after, status_after, status_sent}
use Rattle.vale_run.proofs.FormattedAgain.{stays_formatted}
use Rattle.vale_run.proofs.OneAnswer.{owes_one}
use Rattle.vale_words.specs.Words.{texts}
use Rattle.vale_run.proofs.top.valec.Goals as goal

pub returns-in-Ok-clause-headline : goal.returns-in-Ok-clause-headline
returns-in-Ok-clause-headline g c =
    let input = g.I.Source.state c.args.input.now in
    let out = g.O.Sink.state c.args.out.now in
    let err = g.E.Sink.state c.args.err.now in
    answered_after c.in-Ok.answer _ out err _ _ (g.H.Shelf.state c.args.shelf.now) (g.H.Shelf.state c.answer_of.new.shelf) (g.H.Shelf.state c.deliver.new.shelf) input
    c.answer_of.ensures.files c.answer_of.ensures.later (texts c.args.words.now) (c.in-Ok.ensures.owed input _ out err _ _)
    (record { shelf = omega (arith, c.answer_of.ensures.later, c.deliver.ensures.shelf_later); input = omega arith; out = c.deliver.ensures.out_later; err = c.deliver.ensures.err_later })
    (c.deliver.ensures.handed input)

pub returns-in-Ok-clause-unread : goal.returns-in-Ok-clause-unread
returns-in-Ok-clause-unread g c none =
    let input = g.I.Source.state c.args.input.now in
    let out = g.O.Sink.state c.args.out.now in
    let err = g.E.Sink.state c.args.err.now in
    let plain = owed_no_file _ _ _ c.in-Ok.answer (λ write. none (write_reads _ write)) (c.in-Ok.ensures.owed input (g.H.Shelf.state c.answer_of.new.shelf) out err out err) in
    c.deliver.ensures.kept plain ∙ c.answer_of.ensures.untouched none

pub returns-in-Ok-clause-pages : goal.returns-in-Ok-clause-pages
returns-in-Ok-clause-pages g c =
    let input = g.I.Source.state c.args.input.now in
    let out = g.O.Sink.state c.args.out.now in
    let err = g.E.Sink.state c.args.err.now in
    let low = owed_low _ _ _ c.in-Ok.answer (c.in-Ok.ensures.owed input (g.H.Shelf.state c.answer_of.new.shelf) out err out err) in
    status_after c.in-Ok.answer _ out err _ _ (g.H.Shelf.state c.args.shelf.now) (g.H.Shelf.state c.answer_of.new.shelf) (g.H.Shelf.state c.deliver.new.shelf) input
    c.answer_of.ensures.files c.answer_of.ensures.later low (c.deliver.ensures.handed input)

pub returns-in-Ok-clause-files : goal.returns-in-Ok-clause-files
returns-in-Ok-clause-files g c none =
    let input = g.I.Source.state c.args.input.now in
    let out = g.O.Sink.state c.args.out.now in
    let err = g.E.Sink.state c.args.err.now in
    let plain = owed_no_file _ _ _ c.in-Ok.answer none (c.in-Ok.ensures.owed input (g.H.Shelf.state c.answer_of.new.shelf) out err out err) in
    subst (λ s. KeepsFiles (g.H.Shelf.state c.args.shelf.now).files (g.H.Shelf.state s).files) (sym (c.deliver.ensures.kept plain)) c.answer_of.ensures.files

pub returns-in-Err-Memory-clause-headline : goal.returns-in-Err-Memory-clause-headline
returns-in-Err-Memory-clause-headline g c =
    record {
      answer = no_memory [];
      comes = wants_memory [] (inl refl) refl;
      delivered = sent c.answer_of.ensures.files (c.send.ensures.sent _ _ _ _);
      counts =
          record {
            shelf = c.answer_of.ensures.later;
            input = omega arith;
            out = c.send.ensures.out_later;
            err = c.send.ensures.err_later;
          };
    }

pub returns-in-Err-Memory-clause-pages : goal.returns-in-Err-Memory-clause-pages
returns-in-Err-Memory-clause-pages g c =
    let shelf = g.H.Shelf.state c.args.shelf.now in
    let input = g.I.Source.state c.args.input.now in
    status_sent _ _ _ _ (λ five. omega (arith, five)) (c.send.ensures.sent shelf shelf input input)

pub returns-in-Err-ReadFault-clause-headline : goal.returns-in-Err-ReadFault-clause-headline
returns-in-Err-ReadFault-clause-headline g c =
    record {
      answer = read_fault;
      comes = no_read (of_file (search rules)) refl;
      delivered = sent c.answer_of.ensures.files (c.send-in-Err-ReadFault.ensures.sent _ _ _ _);
      counts =
          record {
            shelf = c.answer_of.ensures.later;
            input = omega arith;
            out = c.send-in-Err-ReadFault.ensures.out_later;
            err = c.send-in-Err-ReadFault.ensures.err_later;
          };
    }

pub returns-in-Err-ReadFault-clause-pages : goal.returns-in-Err-ReadFault-clause-pages
returns-in-Err-ReadFault-clause-pages g c =
    let shelf = g.H.Shelf.state c.args.shelf.now in
    let input = g.I.Source.state c.args.input.now in
    status_sent _ _ _ _ (λ five. omega (arith, five)) (c.send-in-Err-ReadFault.ensures.sent shelf shelf input input)

pub returns-in-Ok-clause-one : goal.returns-in-Ok-clause-one
returns-in-Ok-clause-one g c = owes_one

pub returns-in-Err-Memory-clause-one : goal.returns-in-Err-Memory-clause-one
returns-in-Err-Memory-clause-one g c = owes_one

pub returns-in-Err-ReadFault-clause-one : goal.returns-in-Err-ReadFault-clause-one
returns-in-Err-ReadFault-clause-one g c = owes_one

pub returns-in-Ok-clause-formatted : goal.returns-in-Ok-clause-formatted
returns-in-Ok-clause-formatted g c = stays_formatted

pub returns-in-Err-Memory-clause-formatted : goal.returns-in-Err-Memory-clause-formatted
returns-in-Err-Memory-clause-formatted g c = stays_formatted

pub returns-in-Err-ReadFault-clause-formatted : goal.returns-in-Err-ReadFault-clause-formatted
returns-in-Err-ReadFault-clause-formatted g c = stays_formatted
