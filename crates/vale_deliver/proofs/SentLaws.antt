-- What is known of bytes that were sent, and of a file that was put.
use Rattle.std.proofs.Common.{◌≡◌, ℕ, Option, None, Some, refl, sym, subst}
use Rattle.vale_deliver.specs.Delivered.{Sent, all_sent, out_failed, err_failed, PutsFile}
use Rattle.vale_deliver.specs.declared.answer.Answer.{Answer}
use Rattle.vale_ports.specs.Shelf.{Files, ShelfState, KeepsFiles, KeepsOtherFiles, HasFile}
use Rattle.vale_ports.specs.Streams.{SourceState, SinkState}
use Rattle.vale_ports.specs.declared.files.File.{File}

-- bytes are sent alike whatever the shelf, the source and the file are
pub sent_alike : (a : Answer) (file : Option File) (status : ℕ) (out err new_out new_err : SinkState) (before after earlier later : ShelfState) (left right from to : SourceState)
    → Sent (record { status = a.status; file = file; out = a.out; err = a.err }) status (record { shelf = before; input = left; out = out; err = err }) (record { shelf = after; input = right; out = new_out; err = new_err })
    → Sent a status (record { shelf = earlier; input = from; out = out; err = err }) (record { shelf = later; input = to; out = new_out; err = new_err })
sent_alike a file status out err new_out new_err before after earlier later left right from to (all_sent h) =
    all_sent (record { same_status = h.same_status; out_whole = h.out_whole; err_whole = h.err_whole })
sent_alike a file status out err new_out new_err before after earlier later left right from to (out_failed h) =
    out_failed (record { write_fault = h.write_fault; cause = h.cause; out_front = h.out_front; err_kept = h.err_kept })
sent_alike a file status out err new_out new_err before after earlier later left right from to (err_failed h) =
    err_failed (record { write_fault = h.write_fault; cause = h.cause; out_whole = h.out_whole; err_front = h.err_front })

pub same_files : (files : Option Files) → KeepsFiles files files
same_files None = tt
same_files (Some files) = λ n. refl

-- no file is put
pub puts_none : (file : Option File) (old new : ShelfState) → file ≡ None → KeepsFiles old.files new.files → PutsFile file old new
puts_none file old new is keeps = subst (λ z. PutsFile z old new) (sym is) keeps

pub puts_some : (file : Option File) (put : File) (old new : ShelfState) → file ≡ Some put → HasFile new.files put.name put.bytes → KeepsOtherFiles old.files new.files put.name → PutsFile file old new
puts_some file put old new is has others = subst (λ z. PutsFile z old new) (sym is) (has, others)
