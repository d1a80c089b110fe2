-- What is owed to a job that the words ask for.
use Rattle.std.proofs.Common.{◌≡◌, ℕ, suc, ◌<◌, ◌≤◌, ◌+◌, ◌-◌, List, [], ◌∷◌, drop, take, length, get_or, None, Some, refl, sym, ap, subst, ◌∙◌, arith}
use Rattle.std.proofs.lemmas.List.{length-map, length-drop, drop-map, take_all}
use Rattle.std.proofs.lemmas.Option.{slice_get-map, slice_get-get_or}
use Rattle.std.specs.Option.{option_map}
use Rattle.std.specs.Prelude.{String, string_bytes, slice_get, codes, if◌then◌else◌}
use Rattle.std.specs.Str.{bytes_eq}
use Rattle.std.proofs.lemmas.Grind.{common_steps}
use Rattle.vale_deliver.specs.Outside.{Outside}
use Rattle.vale_deliver.specs.declared.answer.Answer.{Answer}
use Rattle.vale_ports.specs.Shelf.{ShelfState, HasFile}
use Rattle.vale_ports.specs.Streams.{SourceState, SinkState}
use Rattle.vale_run.specs.Causes.{ReadFailed, FileReadFailed, JobReadFailed, FileFails}
use Rattle.vale_run.specs.CodeMeans.{BuildsTo, ExecsTo, ListsTo}
use Rattle.vale_run.specs.Effects.{Effect}
use Rattle.vale_run.specs.Means.{HasText, RunsTo, ChecksTo, FormatsTo, Means}
use Rattle.vale_run.specs.Owed.{AnswersSome, OwesUntaken, Serves, other_option, unserved, not_served, served, bad_word}
use Rattle.vale_words.specs.FirstFault.{Word}
use Rattle.vale_words.specs.Words.{Asks, AsksBehind, IsNameWith, IsOneName, AreTwoNames, texts}
use Rattle.vale_words.specs.declared.job.Job.{Job}
use Rattle.vale_words.specs.declared.job.Job.TheVariants as j
use Rattle.vale_words.specs.declared.job.Options.{Options}
use Rattle.vale_words.specs.declared.words.Command.{Command}
use Rattle.vale_words.specs.declared.words.Command.TheVariants as c

-- the words after the first two, as a slice has them
rest_is : {A : Type 0} (words : List (String A)) → take (length words - 2) (drop 2 words) ≡ drop 2 words
rest_is words = take_all (length words - 2) (drop 2 words) (omega (arith, length-drop 2 words))

-- the word of an index is the name that is found there
pub name_found : {A : Type 0} (words : List (String A)) (file : ℕ) (word : String A) (name : List ℕ) → file < length words → word ≡ get_or words file word → name ≡ string_bytes word → slice_get (texts words) file ≡ Some name
name_found words file word name within at named =
    slice_get-map string_bytes words file ∙ (ap (λ w. option_map string_bytes w) (slice_get-get_or words file word within) ∙ ap Some (ap string_bytes (sym at) ∙ sym named))

name_with : (words : List Word) (options : Options) → IsNameWith words options → 1 ≤ length words
name_with [] options names = absurd names
name_with (name ∷ more) options names = omega arith

one_name : (words : List Word) → IsOneName words → length words ≡ 1
one_name [] names = absurd names
one_name (name ∷ []) names = refl
one_name (name ∷ next ∷ rest) names = absurd names

two_names : (words : List Word) → AreTwoNames words → length words ≡ 2
two_names [] names = absurd names
two_names (name ∷ more) names = ap suc (one_name more names.1)

-- ---- how many words a command has

run_behind : (file : ℕ) (options : Options) (more : List Word) (command : Command) → AsksBehind command more (j.Run file options) → (file ≡ 1) × (1 ≤ length more)
run_behind file options more c.Run behind = (behind.0, name_with more options behind.1)
run_behind file options more _ behind = absurd behind

exec_behind : (code : ℕ) (options : Options) (more : List Word) (command : Command) → AsksBehind command more (j.Exec code options) → (code ≡ 1) × (1 ≤ length more)
exec_behind code options more c.Exec behind = (behind.0, name_with more options behind.1)
exec_behind code options more _ behind = absurd behind

check_behind : (file : ℕ) (more : List Word) (command : Command) → AsksBehind command more (j.Check file) → (file ≡ 1) × (1 ≤ length more)
check_behind file more c.Check behind = (behind.0, omega (arith, one_name more behind.1))
check_behind file more _ behind = absurd behind

fmt_behind : (file : ℕ) (more : List Word) (command : Command) → AsksBehind command more (j.Fmt file) → (file ≡ 1) × (1 ≤ length more)
fmt_behind file more c.Fmt behind = (behind.0, omega (arith, one_name more behind.1))
fmt_behind file more _ behind = absurd behind

list_behind : (code : ℕ) (more : List Word) (command : Command) → AsksBehind command more (j.List code) → (code ≡ 1) × (1 ≤ length more)
list_behind code more c.List behind = (behind.0, omega (arith, one_name more behind.1))
list_behind code more _ behind = absurd behind

build_behind : (file code : ℕ) (more : List Word) (command : Command) → AsksBehind command more (j.Build file code) → (file ≡ 1) × (code ≡ 2) × (2 ≤ length more)
build_behind file code more c.Build behind = (behind.0, behind.1, omega (arith, two_names more behind.2))
build_behind file code more _ behind = absurd behind

-- there is a word before those behind the command
module _ (job : Job) (at most : ℕ) (behind : (more : List Word) (command : Command) → AsksBehind command more job → (at ≡ most) × (most ≤ length more)) where
  word_within : (words : List Word) → Asks words job → (at ≡ most) × (most < length words)
  word_within [] asks = absurd asks
  word_within (word ∷ more) (command, text, asks) =
      let (first, few) = behind more command asks in
      (first, omega (arith, few))

module _ {A : Type 0} (words : List (String A)) (job : Job) where
  as_many : length (texts words) ≡ length words
  as_many = length-map words string_bytes

  -- the word that names the file of the job is there
  pub run_within : (file : ℕ) (options : Options) → Asks (texts words) job → job ≡ j.Run file options → (file ≡ 1) × (2 ≤ length words)
  run_within file options asks is =
      let asked = rw is at asks in
      let (first, two) = word_within (j.Run file options) file 1 (run_behind file options) (texts words) asked in
      (first, omega (arith, two, as_many))

  pub exec_within : (code : ℕ) (options : Options) → Asks (texts words) job → job ≡ j.Exec code options → (code ≡ 1) × (2 ≤ length words)
  exec_within code options asks is =
      let asked = rw is at asks in
      let (first, two) = word_within (j.Exec code options) code 1 (exec_behind code options) (texts words) asked in
      (first, omega (arith, two, as_many))

  pub check_within : (file : ℕ) → Asks (texts words) job → job ≡ j.Check file → file < length words
  check_within file asks is =
      let asked = rw is at asks in
      let (first, two) = word_within (j.Check file) file 1 (check_behind file) (texts words) asked in
      omega (arith, first, two, as_many)

  pub fmt_within : (file : ℕ) → Asks (texts words) job → job ≡ j.Fmt file → file < length words
  fmt_within file asks is =
      let asked = rw is at asks in
      let (first, two) = word_within (j.Fmt file) file 1 (fmt_behind file) (texts words) asked in
      omega (arith, first, two, as_many)

  pub list_within : (code : ℕ) → Asks (texts words) job → job ≡ j.List code → code < length words
  list_within code asks is =
      let asked = rw is at asks in
      let (first, two) = word_within (j.List code) code 1 (list_behind code) (texts words) asked in
      omega (arith, first, two, as_many)

  pub build_within : (file code : ℕ) → Asks (texts words) job → job ≡ j.Build file code → (file < length words) × (code < length words)
  build_within file code asks is =
      let asked = rw is at asks in
      let (first, three) = word_within (j.Build file code) code 2 (λ more command behind. let b = build_behind file code more command behind in (b.1, b.2)) (texts words) asked in
      let (one, four) = word_within (j.Build file code) file 1 (λ more command behind. let b = build_behind file code more command behind in (b.0, omega (arith, b.2))) (texts words) asked in
      (omega (arith, one, four, as_many), omega (arith, first, three, as_many))

-- ---- what is served

-- the options of a job, as a slice of the words has them
pub options_left : {A : Type 0} (words : List (String A)) → other_option 2 (texts (take (length words - 2) (drop 2 words))) ≡ other_option 2 (drop 2 (texts words))
options_left words =
    ap (λ rest. other_option 2 (texts rest)) (rest_is words) ∙ ap (other_option 2) (sym (drop-map string_bytes 2 words))

module _ {A : Type 0} (words : List (String A)) (job : Job) (asks : Asks (texts words) job) where
  pub job_unserved : (before : ShelfState) (index : ℕ) (a : Answer) → unserved job (texts words) ≡ Some index → a ≡ bad_word index → OwesUntaken (texts words) before a
  job_unserved before index a is answer = λ input after out err new_out new_err. not_served job index asks is answer

  pub job_served : unserved job (texts words) ≡ None → Serves (texts words) job
  job_served none = record { asked = asks; served = none }

-- what isn't served isn't done
pub gen_unserved : (words : List Word) (job : Job) (n : ℕ) (options : Options) → Serves words job → job ≡ j.Gen n options → ⊥
gen_unserved words job n options serves is =
    let none = rw is at serves.served in
    cc none

pub text_unserved : (words : List Word) (job : Job) (n : ℕ) → Serves words job → job ≡ j.GenText n → ⊥
text_unserved words job n serves is =
    let none = rw is at serves.served in
    cc none

-- a job is one of those that are served
pub other_job : (words : List Word) (job : Job) → Serves words job
    → ((file : ℕ) (options : Options) → job ≡ j.Run file options → ⊥) → ((file : ℕ) → job ≡ j.Check file → ⊥) → ((file : ℕ) → job ≡ j.Fmt file → ⊥)
    → ((file code : ℕ) → job ≡ j.Build file code → ⊥) → ((code : ℕ) (options : Options) → job ≡ j.Exec code options → ⊥) → ((code : ℕ) → job ≡ j.List code → ⊥) → ⊥
other_job words (j.Run file options) serves run check fmt build exec list = run file options refl
other_job words (j.Check file) serves run check fmt build exec list = check file refl
other_job words (j.Fmt file) serves run check fmt build exec list = fmt file refl
other_job words (j.Build file code) serves run check fmt build exec list = build file code refl
other_job words (j.Exec code options) serves run check fmt build exec list = exec code options refl
other_job words (j.List code) serves run check fmt build exec list = list code refl
other_job words (j.Gen n options) serves run check fmt build exec list = gen_unserved words (j.Gen n options) n options serves refl
other_job words (j.GenText n) serves run check fmt build exec list = text_unserved words (j.GenText n) n serves refl

-- ---- the file of a job that is served

abbrev outside : ShelfState → SourceState → SinkState → SinkState → Outside
outside shelf input out err = record { shelf = shelf; input = input; out = out; err = err }

module _ {A : Type 0} (words : List (String A)) (job : Job) (serves : Serves (texts words) job) (before : ShelfState) (file : ℕ) (word : String A) (name : List ℕ) (within : file < length words) (at : word ≡ get_or words file word) (named : name ≡ string_bytes word) where
  found : slice_get (texts words) file ≡ Some name
  found = name_found words file word name within at named

  module _ (Does : SourceState → List ℕ → Effect → Type 0)
      (means : (input : SourceState) (after : ShelfState) (out err new_out new_err : SinkState) (e : Effect) → (text : List ℕ) × HasText (texts words) file before text × Does input text e → Means job (texts words) (outside before input out err) (outside after input new_out new_err) e) where
    -- what is done with the file is what the job means
    file_owes : (a : Answer) → (text : List ℕ) × HasFile before.files name text × ((input : SourceState) → AnswersSome (Does input text) a) → OwesUntaken (texts words) before a
    file_owes a (text, has, answered) input after out err new_out new_err =
        let (e, does, allows) = answered input in
        served job serves e (means input after out err new_out new_err e (text, (name, found, has), does)) allows

  module _ (after : ShelfState) where
    file_fails : (FileReadFailed file (texts words) before after → JobReadFailed job (texts words) before after) → ReadFailed before after name → FileFails (texts words) before after
    file_fails of_job failed = (job, serves, of_job (name, found, failed))

  module _ (options : Options) (is : job ≡ j.Run file options) where
    pub run_owes : (a : Answer) → (text : List ℕ) × HasFile before.files name text × ((input : SourceState) → AnswersSome (RunsTo text options input input) a) → OwesUntaken (texts words) before a
    run_owes a answered =
        file_owes (λ input text. RunsTo text options input input) (λ input after out err new_out new_err e h. subst (λ z. Means z (texts words) (outside before input out err) (outside after input new_out new_err) e) (sym is) h) a answered

    pub run_fails : (after : ShelfState) → ReadFailed before after name → FileFails (texts words) before after
    run_fails after = file_fails after (λ failed. subst (λ z. JobReadFailed z (texts words) before after) (sym is) failed)

  module _ (is : job ≡ j.Check file) where
    pub check_owes : (a : Answer) → (text : List ℕ) × HasFile before.files name text × AnswersSome (ChecksTo text) a → OwesUntaken (texts words) before a
    check_owes a (text, has, answered) =
        file_owes (λ input text. ChecksTo text) (λ input after out err new_out new_err e h. subst (λ z. Means z (texts words) (outside before input out err) (outside after input new_out new_err) e) (sym is) h) a (text, has, λ input. answered)

    pub check_fails : (after : ShelfState) → ReadFailed before after name → FileFails (texts words) before after
    check_fails after = file_fails after (λ failed. subst (λ z. JobReadFailed z (texts words) before after) (sym is) failed)

  module _ (is : job ≡ j.Fmt file) where
    pub fmt_owes : (a : Answer) → (text : List ℕ) × HasFile before.files name text × AnswersSome (FormatsTo text) a → OwesUntaken (texts words) before a
    fmt_owes a (text, has, answered) =
        file_owes (λ input text. FormatsTo text) (λ input after out err new_out new_err e h. subst (λ z. Means z (texts words) (outside before input out err) (outside after input new_out new_err) e) (sym is) h) a (text, has, λ input. answered)

    pub fmt_fails : (after : ShelfState) → ReadFailed before after name → FileFails (texts words) before after
    fmt_fails after = file_fails after (λ failed. subst (λ z. JobReadFailed z (texts words) before after) (sym is) failed)

  module _ (code : ℕ) (other : List ℕ) (names : slice_get (texts words) code ≡ Some other) (is : job ≡ j.Build file code) where
    pub build_owes : (a : Answer) → (text : List ℕ) × HasFile before.files name text × AnswersSome (BuildsTo text other) a → OwesUntaken (texts words) before a
    build_owes a (text, has, answered) =
        file_owes (λ input text. BuildsTo text other) (λ input after out err new_out new_err e h. subst (λ z. Means z (texts words) (outside before input out err) (outside after input new_out new_err) e) (sym is) (h.0, h.1, other, names, h.2)) a (text, has, λ input. answered)

    pub build_fails : (after : ShelfState) → ReadFailed before after name → FileFails (texts words) before after
    build_fails after = file_fails after (λ failed. subst (λ z. JobReadFailed z (texts words) before after) (sym is) failed)

  module _ (options : Options) (is : job ≡ j.Exec file options) where
    pub exec_owes : (a : Answer) → (text : List ℕ) × HasFile before.files name text × AnswersSome (ExecsTo text options) a → OwesUntaken (texts words) before a
    exec_owes a (text, has, answered) =
        file_owes (λ input text. ExecsTo text options) (λ input after out err new_out new_err e h. subst (λ z. Means z (texts words) (outside before input out err) (outside after input new_out new_err) e) (sym is) h) a (text, has, λ input. answered)

    pub exec_fails : (after : ShelfState) → ReadFailed before after name → FileFails (texts words) before after
    exec_fails after = file_fails after (λ failed. subst (λ z. JobReadFailed z (texts words) before after) (sym is) failed)

  module _ (is : job ≡ j.List file) where
    pub list_owes : (a : Answer) → (text : List ℕ) × HasFile before.files name text × AnswersSome (ListsTo text) a → OwesUntaken (texts words) before a
    list_owes a (text, has, answered) =
        file_owes (λ input text. ListsTo text) (λ input after out err new_out new_err e h. subst (λ z. Means z (texts words) (outside before input out err) (outside after input new_out new_err) e) (sym is) h) a (text, has, λ input. answered)

    pub list_fails : (after : ShelfState) → ReadFailed before after name → FileFails (texts words) before after
    list_fails after = file_fails after (λ failed. subst (λ z. JobReadFailed z (texts words) before after) (sym is) failed)

-- ---- options

-- one option or none is left
pub no_option : {A : Type 0} (words : List (String A)) (index : ℕ) → length words < 2 → other_option index (texts words) ≡ None
no_option [] index few = refl
no_option (w ∷ []) index few = refl
no_option (w ∷ v ∷ ws) index few = absurd (omega (arith, few))

-- the first option is `--ticks`, or it is the one
pub first_option : {A : Type 0} (words : List (String A)) (key : String A) (index : ℕ) → 2 ≤ length words → key ≡ get_or words 0 key
    → other_option index (texts words) ≡ (if bytes_eq (string_bytes key) (codes "--ticks") then other_option (index + 2) (texts (take (length words - 2) (drop 2 words))) else Some index)
first_option [] key index two is = absurd (omega (arith, two))
first_option (w ∷ []) key index two is = absurd (omega (arith, two))
first_option (w ∷ v ∷ ws) key index two is =
    let all : take (length (w ∷ v ∷ ws) - 2) (drop 2 (w ∷ v ∷ ws)) ≡ ws = grind (arith, common_steps) in
    rw (all, is) refl
