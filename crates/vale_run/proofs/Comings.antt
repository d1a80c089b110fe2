-- How an answer that is owed comes.
use Rattle.std.proofs.Common.{◌≡◌, ◌≢◌, ◌≤◌, ◌+◌, ◌-◌, ◌^◌, ℕ, List, [], Option, None, Some, refl, sym, ap, subst, ◌∙◌, arith, inl}
use Rattle.std.proofs.Math.Nat.{min-le_left, min-le_right, le-min}
use Rattle.std.specs.Prelude.{min}
use Rattle.vale_deliver.specs.Delivered.{Handed, delivered, wants_memory, Delivered, sent, put_failed, Sent, all_sent, out_failed, err_failed, PutsFile, WriteFailed, no_memory}
use Rattle.vale_deliver.specs.Outside.{Outside, KeepsCounts}
use Rattle.vale_deliver.specs.declared.answer.Answer.{Answer}
use Rattle.vale_deliver.proofs.SentLaws.{sent_alike}
use Rattle.vale_ports.specs.Shelf.{Files, ShelfState, KeepsFiles, KeepsOtherFiles}
use Rattle.vale_ports.specs.Streams.{SourceState, SinkState}
use Rattle.vale_ports.specs.declared.files.File.{File}
use Rattle.vale_base.specs.declared.spot.Spot.{Spot}
use Rattle.vale_code.specs.Run.{run_code}
use Rattle.vale_listing.specs.Listing.{listing}
use Rattle.vale_model.specs.Meaning.{meaning}
use Rattle.vale_rules_spec.specs.Sites.{sites}
use Rattle.vale_run.specs.Causes.{MayRead, MayWrite}
use Rattle.vale_run.specs.Headline.{Answers, owed, wants_memory as wants_any}
use Rattle.vale_run.specs.CodeMeans.{ExecsTo, misread_exec, distrusted_exec, unrun, execs, ListsTo, misread_list, distrusted_list, lists}
use Rattle.vale_run.specs.Effects.{Effect, refuses, rejects, prints, runs, writes, misreads, distrusts, leaves_code}
use Rattle.vale_run.specs.Means.{counts, RunsTo, refused_run, no_input_read, input_read, ChecksTo, refused_check, checks, FormatsTo, refused_format, formats, Means}
use Rattle.vale_run.specs.Owed.{AnswersEnd, Allows, Serves, Owes, no_job, not_served, served}
use Rattle.vale_state_spec.specs.Outcome.{Outcome, End, Done, Trap, Cut, Wrong, output}
use Rattle.vale_state_spec.specs.State.{no_input}
use Rattle.vale_syntax.specs.Canon.{canon}
use Rattle.vale_words.specs.FirstFault.{Word}
use Rattle.vale_words.specs.declared.job.Job.{Job}
use Rattle.vale_words.specs.declared.job.Job.TheVariants.{Run, Check, Fmt, Build, Exec, List as ListCode}
use Rattle.vale_words.specs.declared.job.Options.{Options}

-- ---- what is owed blames nothing, and writes a file only where that is asked for

pub record IsLow (a : Answer) : Type 0 where
  pub no_page : a.status ≢ 5

low_is : (a : Answer) (status : ℕ) → status ≢ 5 → a.status ≡ status → IsLow a
low_is a status other is = record { no_page = λ five. other (sym is ∙ five) }

low_end : (end : End) (ticks : ℕ) (out : List ℕ) (a : Answer) → AnswersEnd end ticks out a → IsLow a
low_end Done ticks out a is = low_is a 0 (λ five. omega (arith, five)) (ap (λ (z : Answer). z.status) is)
low_end (Trap info) ticks out a is = low_is a 3 (λ five. omega (arith, five)) (ap (λ (z : Answer). z.status) is)
low_end Cut ticks out a is = low_is a 4 (λ five. omega (arith, five)) (ap (λ (z : Answer). z.status) is)
low_end Wrong ticks out a is = absurd is

low_allowed : (e : Effect) (a : Answer) → Allows e a → IsLow a
low_allowed (refuses code at) a is = low_is a 1 (λ five. omega (arith, five)) (ap (λ (z : Answer). z.status) is)
low_allowed (rejects place) a is = low_is a 2 (λ five. omega (arith, five)) (ap (λ (z : Answer). z.status) is)
low_allowed (prints out) a is = low_is a 0 (λ five. omega (arith, five)) (ap (λ (z : Answer). z.status) is)
low_allowed (runs o) a is = low_end o.end o.ticks (output o) a is
low_allowed (writes file) a is = low_is a 0 (λ five. omega (arith, five)) (ap (λ (z : Answer). z.status) is)
low_allowed (misreads code at) a is = low_is a 9 (λ five. omega (arith, five)) (ap (λ (z : Answer). z.status) is)
low_allowed (distrusts rule at) a is = low_is a 9 (λ five. omega (arith, five)) (ap (λ (z : Answer). z.status) is)
low_allowed leaves_code a is = low_is a 2 (λ five. omega (arith, five)) (ap (λ (z : Answer). z.status) is)

pub owed_low : (words : List Word) (old new : Outside) (a : Answer) → Owes words old new a → IsLow a
owed_low words old new a (no_job index fault is) = low_is a 2 (λ five. omega (arith, five)) (ap (λ (z : Answer). z.status) is)
owed_low words old new a (not_served job index asks none is) = low_is a 2 (λ five. omega (arith, five)) (ap (λ (z : Answer). z.status) is)
owed_low words old new a (served job serves e means allows) = low_allowed e a allows

-- ---- an answer without a file

no_file : (a : Answer) (b : Answer) → b.file ≡ None → a ≡ b → a.file ≡ None
no_file a b none is = ap (λ (z : Answer). z.file) is ∙ none

end_no_file : (end : End) (ticks : ℕ) (out : List ℕ) (a : Answer) → AnswersEnd end ticks out a → a.file ≡ None
end_no_file Done ticks out a is = no_file a _ refl is
end_no_file (Trap info) ticks out a is = no_file a _ refl is
end_no_file Cut ticks out a is = no_file a _ refl is
end_no_file Wrong ticks out a is = absurd is

-- what isn't the build of a program writes nothing
IsNoFile : Effect → Type 0
IsNoFile (writes file) = ⊥
IsNoFile _ = Unit {0}

allowed_no_file : (e : Effect) (a : Answer) → IsNoFile e → Allows e a → a.file ≡ None
unfolding IsNoFile
allowed_no_file (refuses code at) a plain is = no_file a _ refl is
allowed_no_file (rejects place) a plain is = no_file a _ refl is
allowed_no_file (prints out) a plain is = no_file a _ refl is
allowed_no_file (runs o) a plain is = end_no_file o.end o.ticks (output o) a is
allowed_no_file (writes file) a plain is = absurd plain
allowed_no_file (misreads code at) a plain is = no_file a _ refl is
allowed_no_file (distrusts rule at) a plain is = no_file a _ refl is
allowed_no_file leaves_code a plain is = no_file a _ refl is

refuses_no_file : (e : Effect) (code : ℕ) (at : Spot) → e ≡ refuses code at → IsNoFile e
unfolding IsNoFile
refuses_no_file e code at is = rw is tt

rejects_no_file : (e : Effect) (place : ℕ) → e ≡ rejects place → IsNoFile e
unfolding IsNoFile
rejects_no_file e place is = rw is tt

prints_no_file : (e : Effect) (out : List ℕ) → e ≡ prints out → IsNoFile e
unfolding IsNoFile
prints_no_file e out is = rw is tt

runs_no_file : (e : Effect) (o : Outcome) → e ≡ runs o → IsNoFile e
unfolding IsNoFile
runs_no_file e o is = rw is tt

misreads_no_file : (e : Effect) (code at : ℕ) → e ≡ misreads code at → IsNoFile e
unfolding IsNoFile
misreads_no_file e code at is = rw is tt

distrusts_no_file : (e : Effect) (rule at : ℕ) → e ≡ distrusts rule at → IsNoFile e
unfolding IsNoFile
distrusts_no_file e rule at is = rw is tt

leaves_no_file : (e : Effect) → e ≡ leaves_code → IsNoFile e
unfolding IsNoFile
leaves_no_file e is = rw is tt

run_no_file : (text : List ℕ) (options : Options) (old new : SourceState) (e : Effect) → RunsTo text options old new e → IsNoFile e
run_no_file text options old new e (refused_run code at r is) = refuses_no_file e code at is
run_no_file text options old new e (no_input_read tree decls program h place i is) = rejects_no_file e place is
run_no_file text options old new e (input_read tree decls program h input i t is) = runs_no_file e (meaning program input options.ticks) is

check_no_file : (text : List ℕ) (e : Effect) → ChecksTo text e → IsNoFile e
check_no_file text e (refused_check code at r is) = refuses_no_file e code at is
check_no_file text e (checks tree decls program h is) = prints_no_file e (counts (sites program) 0) is

layout_no_file : (text : List ℕ) (e : Effect) → FormatsTo text e → IsNoFile e
layout_no_file text e (refused_format code at r is) = refuses_no_file e code at is
layout_no_file text e (formats tree reads is) = prints_no_file e (canon tree) is

exec_no_file : (bytes : List ℕ) (options : Options) (e : Effect) → ExecsTo bytes options e → IsNoFile e
exec_no_file bytes options e (misread_exec code at m is) = misreads_no_file e code at is
exec_no_file bytes options e (distrusted_exec rule at u is) = distrusts_no_file e rule at is
exec_no_file bytes options e (unrun code facts r un is) = leaves_no_file e is
exec_no_file bytes options e (execs code facts r fit is) = runs_no_file e (run_code code no_input options.ticks) is

listing_no_file : (bytes : List ℕ) (e : Effect) → ListsTo bytes e → IsNoFile e
listing_no_file bytes e (misread_list code at m is) = misreads_no_file e code at is
listing_no_file bytes e (distrusted_list rule at u is) = distrusts_no_file e rule at is
listing_no_file bytes e (lists code facts r is) = prints_no_file e (listing code facts) is

job_no_file : (job : Job) (words : List Word) (old new : Outside) (e : Effect) → ((file code : ℕ) → job ≡ Build file code → ⊥) → Means job words old new e → IsNoFile e
job_no_file (Run file options) words old new e other (text, has, does) = run_no_file text options old.input new.input e does
job_no_file (Check file) words old new e other (text, has, does) = check_no_file text e does
job_no_file (Fmt file) words old new e other (text, has, does) = layout_no_file text e does
job_no_file (Build file code) words old new e other h = absurd (other file code refl)
job_no_file (Exec code options) words old new e other (bytes, has, does) = exec_no_file bytes options e does
job_no_file (ListCode code) words old new e other (bytes, has, does) = listing_no_file bytes e does
job_no_file _ words old new e other h = absurd h

pub owed_no_file : (words : List Word) (old new : Outside) (a : Answer) → (MayWrite words → ⊥) → Owes words old new a → a.file ≡ None
owed_no_file words old new a none (no_job index fault is) = no_file a _ refl is
owed_no_file words old new a none (not_served job index asks un is) = no_file a _ refl is
owed_no_file words old new a none (served job serves e means allows) =
    allowed_no_file e a (job_no_file job words old new e (λ file code is. none (file, code, subst (λ z. Serves words z) is serves)) means) allows

-- ---- what is handed on is delivered

-- what is sent has the answer's status, or 7
pub status_sent : (a : Answer) (status : ℕ) (old new : Outside) → a.status ≢ 5 → Sent a status old new → status ≢ 5
status_sent a status old new other (all_sent h) five = other (sym h.same_status ∙ five)
status_sent a status old new other (out_failed h) five = omega (arith, h.write_fault, five)
status_sent a status old new other (err_failed h) five = omega (arith, h.write_fault, five)

-- words that ask for the writing of a file are served
pub write_reads : (words : List Word) → MayWrite words → MayRead words
write_reads words (file, code, serves) = (Build file code, serves)

-- files that are told stay as they were, over two calls
keeps_both : (a b c : Option Files) → KeepsFiles a b → KeepsFiles b c → KeepsFiles a c
keeps_both None b c one two = tt
keeps_both (Some x) None c one two = absurd one
keeps_both (Some x) (Some y) None one two = absurd two
keeps_both (Some x) (Some y) (Some z) one two = λ n. two n ∙ one n

keeps_others : (a b c : Option Files) (name : List ℕ) → KeepsFiles a b → KeepsOtherFiles b c name → KeepsOtherFiles a c name
keeps_others None b c name one two = tt
keeps_others (Some x) None c name one two = absurd one
keeps_others (Some x) (Some y) None name one two = absurd two
keeps_others (Some x) (Some y) (Some z) name one two = λ n other. two n other ∙ one n

puts_after : (file : Option File) (earlier before after : ShelfState) → KeepsFiles earlier.files before.files → PutsFile file before after → PutsFile file earlier after
puts_after None earlier before after keeps puts = keeps_both earlier.files before.files after.files keeps puts
puts_after (Some file) earlier before after keeps (has, others) = (has, keeps_others earlier.files before.files after.files file.name keeps others)

failed_after : (earlier before after : ShelfState) (name : List ℕ) → earlier.faults ≤ before.faults → WriteFailed before after name → WriteFailed earlier after name
failed_after earlier before after name later (rose, last) =
    let near : min (earlier.faults + 1) (2 ^ 64 - 1) ≤ before.faults + 1 = omega (arith, min-le_left (earlier.faults + 1) (2 ^ 64 - 1), later) in
    let less : min (earlier.faults + 1) (2 ^ 64 - 1) ≤ min (before.faults + 1) (2 ^ 64 - 1) = le-min near (min-le_right (earlier.faults + 1) (2 ^ 64 - 1)) in
    (omega (arith, less, rose), last)

module _ (a : Answer) (status : ℕ) (out err new_out new_err : SinkState) (earlier before after : ShelfState) (input : SourceState)
    (keeps : KeepsFiles earlier.files before.files) (later : earlier.faults ≤ before.faults) where
  abbrev old : Outside
  old = record { shelf = earlier; input = input; out = out; err = err }

  abbrev new : Outside
  new = record { shelf = after; input = input; out = new_out; err = new_err }

  pub delivered_after : (b : Answer) → Delivered b status (record { shelf = before; input = input; out = out; err = err }) (record { shelf = after; input = input; out = new_out; err = new_err }) → Delivered b status old new
  delivered_after b (sent puts went) =
      sent (puts_after b.file earlier before after keeps puts) (sent_alike b b.file status out err new_out new_err before after earlier after input input input input went)
  delivered_after b (put_failed file is failed) =
      put_failed file is (record {
        write_fault = failed.write_fault;
        cause = failed_after earlier before after file.name later failed.cause;
        others = keeps_others earlier.files before.files after.files file.name keeps failed.others;
        out_kept = failed.out_kept;
        err_kept = failed.err_kept;
      })

  -- what became of an answer that was handed on after a call that kept the files
  pub answered_after : (words : List Word) → Owes words old new a → KeepsCounts old new
      → Handed a status (record { shelf = before; input = input; out = out; err = err }) (record { shelf = after; input = input; out = new_out; err = new_err }) → Answers words old new status
  answered_after words owes counts (delivered went) = record { answer = a; comes = owed owes; delivered = delivered_after a went; counts = counts }
  answered_after words owes counts (wants_memory file is went) =
      record { answer = no_memory []; comes = wants_any [] (inl refl) refl; delivered = delivered_after (no_memory []) went; counts = counts }

  pub status_after : IsLow a → Handed a status (record { shelf = before; input = input; out = out; err = err }) (record { shelf = after; input = input; out = new_out; err = new_err }) → status ≢ 5
  status_after low (delivered (sent puts went)) five = status_sent a status _ _ low.no_page went five
  status_after low (delivered (put_failed file is failed)) five = omega (arith, failed.write_fault, five)
  status_after low (wants_memory file is (sent puts went)) five = status_sent (no_memory []) status _ _ (λ e. omega (arith, e)) went five
  status_after low (wants_memory file is (put_failed f none failed)) five = omega (arith, failed.write_fault, five)
