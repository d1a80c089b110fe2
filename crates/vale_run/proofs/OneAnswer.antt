-- At most one answer is owed.
use Rattle.std.proofs.Common.{◌≡◌, ℕ, true, false, List, [], ◌∷◌, length, Option, Some, None, refl, sym, ap, subst, ◌∙◌, arith}
use Rattle.std.specs.Prelude.{Bool, IsSome, Ok, Err, Result, if◌then◌else◌}
use Rattle.vale_base.specs.declared.spot.Spot.{Spot}
use Rattle.vale_deliver.specs.Outside.{Outside}
use Rattle.vale_deliver.specs.declared.answer.Answer.{Answer}
use Rattle.vale_front.specs.Front.{Unread, too_long, no_tokens, no_tree, Unsound, with_interfaces, ill_declared, ill_typed, ill_owned, ill_framed, ill_isolated, not_served as not_compiled, Serves as IsServed, Refused, unread, unsound, Accepts}
use Rattle.vale_front.specs.Interfaces.{has_interfaces}
use Rattle.vale_served_spec.specs.Served.{is_served}
use Rattle.vale_cert.specs.declared.facts.FuncFacts.{FuncFacts}
use Rattle.vale_code.specs.Parts.{Parts}
use Rattle.vale_code.specs.Run.{run_code}
use Rattle.vale_file_spec.proofs.WholeLaws.{one_spelling}
use Rattle.vale_file_spec.specs.File.{Spells}
use Rattle.vale_listing.specs.Listing.{listing}
use Rattle.vale_lower_facts.specs.Marks.{lowered_facts}
use Rattle.vale_lowering.specs.Lowered.{lowered}
use Rattle.vale_lexer.proofs.OneCut.{one_tokens, one_fault as one_lex_fault}
use Rattle.vale_model.specs.Input.{taken}
use Rattle.vale_model.specs.Meaning.{meaning}
use Rattle.vale_reading_laws.proofs.ItemAgain.{one_tree}
use Rattle.vale_parser.specs.Refusal.{IsRefusal}
use Rattle.vale_parser.specs.declared.parser.ParseFault.{ParseFault}
use Rattle.vale_ports.specs.Shelf.{Files, ShelfState, HasFile}
use Rattle.vale_ports.specs.Streams.{SourceState}
use Rattle.vale_ports.specs.declared.files.File.{File}
use Rattle.vale_reading.specs.ItemReading.{all_of}
use Rattle.vale_reading.specs.Steps.{Fault as ReadingFault}
use Rattle.vale_rules_spec.specs.DeclFaults.{declared}
use Rattle.vale_rules_spec.specs.Judged.{Judged, fine, faulty, IsFine, IsFirstFault}
use Rattle.vale_region_spec.specs.Isolated.{isolated}
use Rattle.vale_region_spec.specs.Regions.{framed}
use Rattle.vale_rules_spec.specs.Owned.{owned}
use Rattle.vale_rules_spec.specs.Sites.{sites}
use Rattle.vale_rules_spec.specs.Typed.{Typed}
use Rattle.vale_rules_spec.specs.Typing.{typed}
use Rattle.vale_rules_spec.specs.WellFormed.{Reads}
use Rattle.vale_run.specs.CodeFiles.{Misread, Uncertified, ReadsCertified, is_run}
use Rattle.vale_run.proofs.OneCode.{one_misread, one_distrusted, one_certified, misread_distrusted, misread_certified, distrusted_certified}
use Rattle.vale_run.specs.CodeMeans.{BuildsTo, refused_build, builds, ExecsTo, misread_exec, distrusted_exec, unrun, execs, ListsTo, misread_list, distrusted_list, lists}
use Rattle.vale_run.specs.Effects.{Effect, refuses, rejects, prints, runs, writes, misreads, distrusts, leaves_code}
use Rattle.vale_run.specs.Means.{HasLeft, HasText, HasInput, input_form, RunsTo, refused_run, no_input_read, input_read, counts, ChecksTo, refused_check, checks, FormatsTo, refused_format, formats, Means}
use Rattle.vale_run.specs.Owed.{AnswersEnd, Allows, unserved, Serves, Owes, no_job, not_served, served, IsTold, OwesOne, bad_word}
use Rattle.vale_state_spec.specs.Outcome.{Outcome, End, Done, Trap, Cut, Wrong, output}
use Rattle.vale_state_spec.specs.State.{Given, no_input}
use Rattle.vale_syntax.specs.Canon.{canon}
use Rattle.vale_syntax.specs.Cut.{start}
use Rattle.vale_syntax.specs.Grammar.{spells}
use Rattle.vale_syntax.specs.Tree.{Tree}
use Rattle.vale_syntax.specs.declared.decls.Decls.{Decls}
use Rattle.vale_syntax.specs.declared.fault.Fault.{Fault}
use Rattle.vale_syntax.specs.declared.token.Tokens.{Tokens}
use Rattle.vale_words.proofs.FaultLemmas.{one_fault, unlawful}
use Rattle.vale_words.proofs.OneJob.{one_job}
use Rattle.vale_words.specs.FirstFault.{Word, IsFirstFault as IsFirstWordFault}
use Rattle.vale_words.specs.Words.{Asks, Lawful}
use Rattle.vale_words.specs.declared.job.Job.{Job}
use Rattle.vale_words.specs.declared.job.Job.TheVariants as j
use Rattle.vale_words.specs.declared.job.Options.{Options}

-- a code and a spot are these
abbrev Same : ℕ → Spot → ℕ → Spot → Type 0
Same c a d b = (c ≡ d) × (a ≡ b)

abbrev fault_at : ℕ → Spot → Fault
fault_at c a = record { code = c; at = a }

-- ---- reading

tree_of : (text : List ℕ) (x y : Tree) → Reads text x → Reads text y → x ≡ y
tree_of text x y r s =
    let one : s.tokens ≡ r.tokens = one_tokens text s.tokens r.tokens s.cuts r.cuts in
    one_tree r.tokens.list x y r.spelled (subst (λ (z : Tokens). spells y z.list) one s.spelled)

unread_reads : (text : List ℕ) (c : ℕ) (a : Spot) (x : Tree) → Unread text c a → Reads text x → ⊥
unread_reads text c a x (too_long long e s) r = omega (arith, long, r.within)
unread_reads text c a x (no_tokens short none f) r = none r.tokens r.cuts
unread_reads text c a x (no_tree short tokens cuts none why) r =
    let one : r.tokens ≡ tokens = one_tokens text r.tokens tokens r.cuts cuts in
    none x (subst (λ (z : Tokens). spells x z.list) one r.spelled)

abbrev refusal_at : ℕ → Spot → ParseFault
refusal_at c a = record { code = c; at = a }

one_refusal : (end : Spot) (r : Result Tree ReadingFault) (f g : ParseFault) → IsRefusal end r f → IsRefusal end r g → f ≡ g
one_refusal end (Ok x) f g p q = absurd p
one_refusal end (Err e) f g p q = p ∙ sym q

one_unread : (text : List ℕ) (c d : ℕ) (a b : Spot) → Unread text c a → Unread text d b → Same c a d b
one_unread text c d a b (too_long long e s) (too_long more f t) = (e ∙ sym f, s ∙ sym t)
one_unread text c d a b (too_long long e s) (no_tokens short none f) = absurd (omega (arith, long, short))
one_unread text c d a b (too_long long e s) (no_tree short tokens cuts none why) = absurd (omega (arith, long, short))
one_unread text c d a b (no_tokens short none f) (too_long long e s) = absurd (omega (arith, long, short))
one_unread text c d a b (no_tokens short none f) (no_tokens other never g) = one_lex_fault text c d a b f g
one_unread text c d a b (no_tokens short none f) (no_tree other tokens cuts never why) = absurd (none tokens cuts)
one_unread text c d a b (no_tree short tokens cuts none why) (too_long long e s) = absurd (omega (arith, long, short))
one_unread text c d a b (no_tree short tokens cuts none why) (no_tokens other never f) = absurd (never tokens cuts)
one_unread text c d a b (no_tree short tokens cuts none why) (no_tree other tokens2 cuts2 none2 why2) =
    let one : tokens2 ≡ tokens = one_tokens text tokens2 tokens cuts2 cuts in
    let same = one_refusal tokens.end (all_of tokens.list) (refusal_at c a) (refusal_at d b) why (subst (λ (z : Tokens). IsRefusal z.end (all_of z.list) (refusal_at d b)) one why2) in
    (ap (λ (f : ParseFault). f.code) same, ap (λ (f : ParseFault). f.at) same)

-- ---- judging

-- the first fault of a phase, or what comes after it
stage : {A : Type 0} → Judged A → (A → Option Fault) → Option Fault
stage (fine a) k = k a
stage (faulty f fs) k = Some f

where_set : Bool → Option Fault → Option Fault
where_set true o = Some (record { code = 5; at = start })
where_set false o = o

unless_set : Bool → Option Fault
unless_set true = None
unless_set false = Some (record { code = 5; at = start })

-- why a program that keeps the rules of ownership is refused, where it is
of_owned : Typed → Option Fault
of_owned program = stage (framed program) (λ kept. stage (isolated program) (λ alone. unless_set (is_served program)))

-- why a tree is refused, where it is
verdict : Tree → Option Fault
verdict x = where_set (has_interfaces x) (stage (declared x) (λ decls. stage (typed x) (λ program. stage (owned program) (λ same. of_owned program))))

passes : {A : Type 0} (phase : Judged A) (a : A) (k : A → Option Fault) → IsFine phase a → stage phase k ≡ k a
unfolding stage
passes phase a k is = rw is refl

stops : {A : Type 0} (phase : Judged A) (f : Fault) (k : A → Option Fault) → IsFirstFault phase f → stage phase k ≡ Some f
unfolding stage
stops (fine a) f k is = absurd (cc is)
stops (faulty g gs) f k is = is

where_off : (b : Bool) (o : Option Fault) → b ≡ false → where_set b o ≡ o
unfolding where_set
where_off true o is = absurd (cc is)
where_off false o is = refl

where_on : (b : Bool) (o : Option Fault) → b ≡ true → where_set b o ≡ Some (fault_at 5 start)
unfolding where_set
where_on true o is = refl
where_on false o is = absurd (cc is)

unless_on : (b : Bool) → b ≡ true → unless_set b ≡ None
unfolding unless_set
unless_on true is = refl
unless_on false is = absurd (cc is)

unless_off : (b : Bool) → b ≡ false → unless_set b ≡ Some (fault_at 5 start)
unfolding unless_set
unless_off true is = absurd (cc is)
unless_off false is = refl

module _ (x : Tree) (plain : has_interfaces x ≡ false) where
  after_interfaces : verdict x ≡ stage (declared x) (λ decls. stage (typed x) (λ program. stage (owned program) (λ same. of_owned program)))
  unfolding verdict
  after_interfaces = where_off (has_interfaces x) _ plain

  module _ (decls : Decls) (declares : IsFine (declared x) decls) where
    after_declared : verdict x ≡ stage (typed x) (λ program. stage (owned program) (λ same. of_owned program))
    after_declared = after_interfaces ∙ passes (declared x) decls _ declares

    module _ (program : Typed) (types : IsFine (typed x) program) where
      after_typed : verdict x ≡ stage (owned program) (λ same. of_owned program)
      after_typed = after_declared ∙ passes (typed x) program _ types

      after_owned : IsFine (owned program) program → verdict x ≡ of_owned program
      after_owned owns = after_typed ∙ passes (owned program) program _ owns

after_framed : (program : Typed) → IsFine (framed program) tt
    → of_owned program ≡ stage (isolated program) (λ alone. unless_set (is_served program))
unfolding of_owned
after_framed program frames = passes (framed program) tt _ frames

after_isolated : (program : Typed) → IsFine (framed program) tt → IsFine (isolated program) tt
    → of_owned program ≡ unless_set (is_served program)
after_isolated program frames alone = after_framed program frames ∙ passes (isolated program) tt _ alone

framed_fault : (program : Typed) (f : Fault) → IsFirstFault (framed program) f → of_owned program ≡ Some f
unfolding of_owned
framed_fault program f is = stops (framed program) f _ is

fault_parts : (f : Fault) (c : ℕ) (a : Spot) → c ≡ f.code → a ≡ f.at → f ≡ fault_at c a
fault_parts f c a e s = ap (λ (n : ℕ). fault_at n f.at) (sym e) ∙ ap (λ (z : Spot). fault_at c z) (sym s)

verdict_of : (x : Tree) (c : ℕ) (a : Spot) → Unsound x c a → verdict x ≡ Some (fault_at c a)
unfolding verdict
verdict_of x c a (with_interfaces has e s) = where_on (has_interfaces x) _ has ∙ ap Some (fault_parts (fault_at 5 start) c a e s)
verdict_of x c a (ill_declared plain f is e s) =
    after_interfaces x plain ∙ stops (declared x) f _ is ∙ ap Some (fault_parts f c a e s)
verdict_of x c a (ill_typed plain decls declares f is e s) =
    after_declared x plain decls declares ∙ stops (typed x) f _ is ∙ ap Some (fault_parts f c a e s)
verdict_of x c a (ill_owned plain decls program declares types f is e s) =
    after_typed x plain decls declares program types ∙ stops (owned program) f _ is ∙ ap Some (fault_parts f c a e s)
verdict_of x c a (ill_framed plain decls program declares types owns f is e s) =
    after_owned x plain decls declares program types owns ∙ framed_fault program f is ∙ ap Some (fault_parts f c a e s)
verdict_of x c a (ill_isolated plain decls program declares types owns frames f is e s) =
    after_owned x plain decls declares program types owns ∙ after_framed program frames ∙ stops (isolated program) f _ is
    ∙ ap Some (fault_parts f c a e s)
verdict_of x c a (not_compiled plain decls program declares types owns frames alone unserved e s) =
    after_owned x plain decls declares program types owns ∙ after_isolated program frames alone
    ∙ unless_off (is_served program) unserved
    ∙ ap Some (fault_parts (fault_at 5 start) c a e s)

served_verdict : (x : Tree) (decls : Decls) (program : Typed) → IsServed x decls program → verdict x ≡ None
served_verdict x decls program s =
    after_owned x s.plain decls s.declares program s.types s.owns ∙ after_isolated program s.frames s.isolates
    ∙ unless_on (is_served program) s.served

-- ---- refused or accepted

one_refused : (text : List ℕ) (c d : ℕ) (a b : Spot) → Refused text c a → Refused text d b → Same c a d b
one_refused text c d a b (unread u) (unread v) = one_unread text c d a b u v
one_refused text c d a b (unread u) (unsound y s v) = absurd (unread_reads text c a y u s)
one_refused text c d a b (unsound x r u) (unread v) = absurd (unread_reads text d b x v r)
one_refused text c d a b (unsound x r u) (unsound y s v) =
    let same : y ≡ x = tree_of text y x s r in
    let both : Some (fault_at c a) ≡ Some (fault_at d b) = sym (verdict_of x c a u) ∙ verdict_of x d b (subst (λ z. Unsound z d b) same v) in
    let one : fault_at c a ≡ fault_at d b = cc both in
    (ap (λ (f : Fault). f.code) one, ap (λ (f : Fault). f.at) one)

refused_accepted : (text : List ℕ) (c : ℕ) (a : Spot) (x : Tree) (decls : Decls) (program : Typed) → Refused text c a → Accepts text x decls program → ⊥
refused_accepted text c a x decls program (unread u) h = unread_reads text c a x u h.reads
refused_accepted text c a x decls program (unsound y r u) h =
    let same : y ≡ x = tree_of text y x r h.reads in
    let both : Some (fault_at c a) ≡ None = sym (verdict_of x c a (subst (λ z. Unsound z c a) same u)) ∙ served_verdict x decls program h.serves in
    cc both

one_program : (text : List ℕ) (x y : Tree) (d e : Decls) (p q : Typed) → Accepts text x d p → Accepts text y e q → p ≡ q
one_program text x y d e p q h k =
    let same : y ≡ x = tree_of text y x k.reads h.reads in
    let both : fine p ≡ fine q = sym h.serves.types ∙ subst (λ z. typed z ≡ fine q) same k.serves.types in
    cc both

-- ---- what is read

one_text_in : (files : Option Files) (name t u : List ℕ) → IsSome files → HasFile files name t → HasFile files name u → t ≡ u
one_text_in None name t u told x y = absurd (cc told)
one_text_in (Some files) name t u told x y = cc (x, y)

one_text : (words : List Word) (file : ℕ) (shelf : ShelfState) (t u : List ℕ) → IsSome shelf.files → HasText words file shelf t → HasText words file shelf u → t ≡ u
one_text words file shelf t u told (m, at, has) (n, found, holds) =
    let both : Some m ≡ Some n = sym at ∙ found in
    let same : m ≡ n = cc both in
    one_text_in shelf.files m t u told has (subst (λ z. HasFile shelf.files z u) (sym same) holds)

one_left : (left : Option (List ℕ)) (xs ys : List ℕ) → IsSome left → HasLeft left xs → HasLeft left ys → xs ≡ ys
one_left None xs ys told x y = absurd (cc told)
one_left (Some left) xs ys told x y = x ∙ sym y

one_input : (program : Typed) (source : SourceState) (m n : Result Given ℕ) → IsSome source.left → HasInput program source m → HasInput program source n → m ≡ n
one_input program source m n told (xs, left, is) (ys, kept, gives) =
    let same : xs ≡ ys = one_left source.left xs ys told left kept in
    sym is ∙ ap (taken (input_form program)) same ∙ gives

-- ---- what is done

one_run : (text : List ℕ) (options : Options) (old new later : SourceState) (e f : Effect) → IsSome old.left → RunsTo text options old new e → RunsTo text options old later f → e ≡ f
one_run text options old new later e f told (refused_run c a r is) (refused_run d b s gives) =
    let (code, at) = one_refused text c d a b r s in
    is ∙ ap (λ z. refuses z a) code ∙ ap (refuses d) at ∙ sym gives
one_run text options old new later e f told (refused_run c a r is) (no_input_read y ds q k n g gives) = absurd (refused_accepted text c a y ds q r k)
one_run text options old new later e f told (refused_run c a r is) (input_read y ds q k n g t gives) = absurd (refused_accepted text c a y ds q r k)
one_run text options old new later e f told (no_input_read x ds p h m i is) (refused_run d b s gives) = absurd (refused_accepted text d b x ds p s h)
one_run text options old new later e f told (no_input_read x ds p h m i is) (no_input_read y es q k n g gives) =
    let same : q ≡ p = one_program text y x es ds q p k h in
    let place = one_input p old (Err m) (Err n) told i (subst (λ z. HasInput z old (Err n)) same g) in
    let one : m ≡ n = cc place in
    is ∙ ap rejects one ∙ sym gives
one_run text options old new later e f told (no_input_read x ds p h m i is) (input_read y es q k n g t gives) =
    let same : q ≡ p = one_program text y x es ds q p k h in
    let both = one_input p old (Err m) (Ok n) told i (subst (λ z. HasInput z old (Ok n)) same g) in
    absurd (cc both)
one_run text options old new later e f told (input_read x ds p h m i t is) (refused_run d b s gives) = absurd (refused_accepted text d b x ds p s h)
one_run text options old new later e f told (input_read x ds p h m i t is) (no_input_read y es q k n g gives) =
    let same : q ≡ p = one_program text y x es ds q p k h in
    let both = one_input p old (Ok m) (Err n) told i (subst (λ z. HasInput z old (Err n)) same g) in
    absurd (cc both)
one_run text options old new later e f told (input_read x ds p h m i t is) (input_read y es q k n g u gives) =
    let same : q ≡ p = one_program text y x es ds q p k h in
    let both = one_input p old (Ok m) (Ok n) told i (subst (λ z. HasInput z old (Ok n)) same g) in
    let one : m ≡ n = cc both in
    is ∙ ap (λ z. runs (meaning p z options.ticks)) one ∙ ap (λ z. runs (meaning z n options.ticks)) (sym same) ∙ sym gives

one_check : (text : List ℕ) (e f : Effect) → ChecksTo text e → ChecksTo text f → e ≡ f
one_check text e f (refused_check c a r is) (refused_check d b s gives) =
    let (code, at) = one_refused text c d a b r s in
    is ∙ ap (λ z. refuses z a) code ∙ ap (refuses d) at ∙ sym gives
one_check text e f (refused_check c a r is) (checks y es q k gives) = absurd (refused_accepted text c a y es q r k)
one_check text e f (checks x ds p h is) (refused_check d b s gives) = absurd (refused_accepted text d b x ds p s h)
one_check text e f (checks x ds p h is) (checks y es q k gives) =
    is ∙ ap (λ z. prints (counts (sites z) 0)) (one_program text x y ds es p q h k) ∙ sym gives

one_layout : (text : List ℕ) (e f : Effect) → FormatsTo text e → FormatsTo text f → e ≡ f
one_layout text e f (refused_format c a r is) (refused_format d b s gives) =
    let (code, at) = one_unread text c d a b r s in
    is ∙ ap (λ z. refuses z a) code ∙ ap (refuses d) at ∙ sym gives
one_layout text e f (refused_format c a r is) (formats y s gives) = absurd (unread_reads text c a y r s)
one_layout text e f (formats x r is) (refused_format d b s gives) = absurd (unread_reads text d b x s r)
one_layout text e f (formats x r is) (formats y s gives) = is ∙ ap (λ z. prints (canon z)) (tree_of text x y r s) ∙ sym gives

one_build : (text name : List ℕ) (e f : Effect) → BuildsTo text name e → BuildsTo text name f → e ≡ f
one_build text name e f (refused_build c a r is) (refused_build d b s gives) =
    let (code, at) = one_refused text c d a b r s in
    is ∙ ap (λ z. refuses z a) code ∙ ap (refuses d) at ∙ sym gives
one_build text name e f (refused_build c a r is) (builds y es q k bytes spells gives) = absurd (refused_accepted text c a y es q r k)
one_build text name e f (builds x ds p h bytes spells is) (refused_build d b s gives) = absurd (refused_accepted text d b x ds p s h)
one_build text name e f (builds x ds p h bytes spells is) (builds y es q k more spelled gives) =
    let same : q ≡ p = one_program text y x es ds q p k h in
    let one : bytes ≡ more = one_spelling bytes more 1 (lowered p) (lowered_facts p) spells (subst (λ z. Spells more 1 (lowered z) (lowered_facts z)) same spelled) in
    is ∙ ap (λ z. writes (record { name = name; bytes = z })) one ∙ sym gives

one_exec : (bytes : List ℕ) (options : Options) (e f : Effect) → ExecsTo bytes options e → ExecsTo bytes options f → e ≡ f
one_exec bytes options e f (misread_exec c a m is) (misread_exec d b n gives) =
    let (code, at) = one_misread bytes c d a b m n in
    is ∙ ap (λ z. misreads z a) code ∙ ap (misreads d) at ∙ sym gives
one_exec bytes options e f (misread_exec c a m is) (distrusted_exec d b u gives) = absurd (misread_distrusted bytes c a d b m u)
one_exec bytes options e f (misread_exec c a m is) (unrun code facts r un gives) = absurd (misread_certified bytes c a code facts m r)
one_exec bytes options e f (misread_exec c a m is) (execs code facts r fit gives) = absurd (misread_certified bytes c a code facts m r)
one_exec bytes options e f (distrusted_exec d b u is) (misread_exec c a m gives) = absurd (misread_distrusted bytes c a d b m u)
one_exec bytes options e f (distrusted_exec c a u is) (distrusted_exec d b v gives) =
    let (rule, at) = one_distrusted bytes c d a b u v in
    is ∙ ap (λ z. distrusts z a) rule ∙ ap (distrusts d) at ∙ sym gives
one_exec bytes options e f (distrusted_exec c a u is) (unrun code facts r un gives) = absurd (distrusted_certified bytes c a code facts u r)
one_exec bytes options e f (distrusted_exec c a u is) (execs code facts r fit gives) = absurd (distrusted_certified bytes c a code facts u r)
one_exec bytes options e f (unrun code facts r un is) (misread_exec c a m gives) = absurd (misread_certified bytes c a code facts m r)
one_exec bytes options e f (unrun code facts r un is) (distrusted_exec c a u gives) = absurd (distrusted_certified bytes c a code facts u r)
one_exec bytes options e f (unrun code facts r un is) (unrun other known s unfit gives) = is ∙ sym gives
one_exec bytes options e f (unrun code facts r un is) (execs other known s fit gives) =
    let (same, also) = one_certified bytes code other facts known r s in
    absurd (let both : false ≡ true = sym un ∙ ap is_run same ∙ fit in cc both)
one_exec bytes options e f (execs code facts r fit is) (misread_exec c a m gives) = absurd (misread_certified bytes c a code facts m r)
one_exec bytes options e f (execs code facts r fit is) (distrusted_exec c a u gives) = absurd (distrusted_certified bytes c a code facts u r)
one_exec bytes options e f (execs code facts r fit is) (unrun other known s un gives) =
    let (same, also) = one_certified bytes code other facts known r s in
    absurd (let both : true ≡ false = sym fit ∙ ap is_run same ∙ un in cc both)
one_exec bytes options e f (execs code facts r fit is) (execs other known s fits gives) =
    let (same, also) = one_certified bytes code other facts known r s in
    is ∙ ap (λ z. runs (run_code z no_input options.ticks)) same ∙ sym gives

one_listing : (bytes : List ℕ) (e f : Effect) → ListsTo bytes e → ListsTo bytes f → e ≡ f
one_listing bytes e f (misread_list c a m is) (misread_list d b n gives) =
    let (code, at) = one_misread bytes c d a b m n in
    is ∙ ap (λ z. misreads z a) code ∙ ap (misreads d) at ∙ sym gives
one_listing bytes e f (misread_list c a m is) (distrusted_list d b u gives) = absurd (misread_distrusted bytes c a d b m u)
one_listing bytes e f (misread_list c a m is) (lists code facts r gives) = absurd (misread_certified bytes c a code facts m r)
one_listing bytes e f (distrusted_list d b u is) (misread_list c a m gives) = absurd (misread_distrusted bytes c a d b m u)
one_listing bytes e f (distrusted_list c a u is) (distrusted_list d b v gives) =
    let (rule, at) = one_distrusted bytes c d a b u v in
    is ∙ ap (λ z. distrusts z a) rule ∙ ap (distrusts d) at ∙ sym gives
one_listing bytes e f (distrusted_list c a u is) (lists code facts r gives) = absurd (distrusted_certified bytes c a code facts u r)
one_listing bytes e f (lists code facts r is) (misread_list c a m gives) = absurd (misread_certified bytes c a code facts m r)
one_listing bytes e f (lists code facts r is) (distrusted_list c a u gives) = absurd (distrusted_certified bytes c a code facts u r)
one_listing bytes e f (lists code facts r is) (lists other known s gives) =
    let (same, also) = one_certified bytes code other facts known r s in
    is ∙ ap (λ z. prints (listing z facts)) same ∙ ap (λ z. prints (listing other z)) also ∙ sym gives

one_effect : (job : Job) (words : List Word) (old new later : Outside) (e f : Effect) → IsTold old → Means job words old new e → Means job words old later f → e ≡ f
one_effect (j.Run file options) words old new later e f told (t, has, does) (u, holds, gives) =
    let same : t ≡ u = one_text words file old.shelf t u told.files has holds in
    one_run t options old.input new.input later.input e f told.input does (subst (λ z. RunsTo z options old.input later.input f) (sym same) gives)
one_effect (j.Check file) words old new later e f told (t, has, does) (u, holds, gives) =
    let same : t ≡ u = one_text words file old.shelf t u told.files has holds in
    one_check t e f does (subst (λ z. ChecksTo z f) (sym same) gives)
one_effect (j.Fmt file) words old new later e f told (t, has, does) (u, holds, gives) =
    let same : t ≡ u = one_text words file old.shelf t u told.files has holds in
    one_layout t e f does (subst (λ z. FormatsTo z f) (sym same) gives)
one_effect (j.Build file code) words old new later e f told (t, has, n, named, does) (u, holds, m, called, gives) =
    let same : t ≡ u = one_text words file old.shelf t u told.files has holds in
    let both : Some n ≡ Some m = sym named ∙ called in
    let name : n ≡ m = cc both in
    one_build t n e f does (subst (λ z. BuildsTo t z f) (sym name) (subst (λ z. BuildsTo z m f) (sym same) gives))
one_effect (j.Exec code options) words old new later e f told (t, has, does) (u, holds, gives) =
    let same : t ≡ u = one_text words code old.shelf t u told.files has holds in
    one_exec t options e f does (subst (λ z. ExecsTo z options f) (sym same) gives)
one_effect (j.List code) words old new later e f told (t, has, does) (u, holds, gives) =
    let same : t ≡ u = one_text words code old.shelf t u told.files has holds in
    one_listing t e f does (subst (λ z. ListsTo z f) (sym same) gives)
one_effect _ words old new later e f told x y = absurd x

-- ---- answers

one_end : (end : End) (ticks : ℕ) (out : List ℕ) (a b : Answer) → AnswersEnd end ticks out a → AnswersEnd end ticks out b → a ≡ b
one_end Done ticks out a b x y = x ∙ sym y
one_end (Trap info) ticks out a b x y = x ∙ sym y
one_end Cut ticks out a b x y = x ∙ sym y
one_end Wrong ticks out a b x y = absurd x

one_allowed : (e : Effect) (a b : Answer) → Allows e a → Allows e b → a ≡ b
one_allowed (refuses c at) a b x y = x ∙ sym y
one_allowed (rejects place) a b x y = x ∙ sym y
one_allowed (prints out) a b x y = x ∙ sym y
one_allowed (runs o) a b x y = one_end o.end o.ticks (output o) a b x y
one_allowed (writes file) a b x y = x ∙ sym y
one_allowed (misreads c at) a b x y = x ∙ sym y
one_allowed (distrusts c at) a b x y = x ∙ sym y
one_allowed leaves_code a b x y = x ∙ sym y

-- words with a job have no fault
no_fault : (words : List Word) (job : Job) (index : ℕ) → Asks words job → IsFirstWordFault Lawful words index → ⊥
no_fault words job index asks fault = unlawful Lawful words index fault (job, asks)

-- a job is served or isn't
not_both : (words : List Word) (i k : Job) (index : ℕ) → Asks words i → unserved i words ≡ Some index → Serves words k → ⊥
not_both words i k index asks is serves =
    let same : k ≡ i = one_job words k i serves.asked asks in
    let both : Some index ≡ None = sym is ∙ subst (λ z. unserved z words ≡ None) same serves.served in
    cc both

pub owes_one : OwesOne
owes_one words old new later a b told (no_job m fault is) (no_job n wrong gives) =
    is ∙ ap bad_word (one_fault Lawful words m n fault wrong) ∙ sym gives
owes_one words old new later a b told (no_job m fault is) (not_served k n asks none gives) = absurd (no_fault words k m asks fault)
owes_one words old new later a b told (no_job m fault is) (served k serves e means allows) = absurd (no_fault words k m serves.asked fault)
owes_one words old new later a b told (not_served k m asks none is) (no_job n fault gives) = absurd (no_fault words k n asks fault)
owes_one words old new later a b told (not_served k m asks none is) (not_served i n asked other gives) =
    let same : i ≡ k = one_job words i k asked asks in
    let both : Some m ≡ Some n = sym none ∙ subst (λ z. unserved z words ≡ Some n) same other in
    let one : m ≡ n = cc both in
    is ∙ ap bad_word one ∙ sym gives
owes_one words old new later a b told (not_served k m asks none is) (served i serves e means allows) = absurd (not_both words k i m asks none serves)
owes_one words old new later a b told (served k serves e means allows) (no_job n fault gives) = absurd (no_fault words k n serves.asked fault)
owes_one words old new later a b told (served k serves e means allows) (not_served i n asks none gives) = absurd (not_both words i k n asks none serves)
owes_one words old new later a b told (served k serves e means allows) (served i serves2 f means2 allows2) =
    let same : i ≡ k = one_job words i k serves2.asked serves.asked in
    let one : e ≡ f = one_effect k words old new later e f told means (subst (λ z. Means z words old later f) same means2) in
    one_allowed e a b allows (subst (λ z. Allows z b) (sym one) allows2)
