-- The first fault after each command.
use Rattle.std.proofs.Common.{◌≡◌, ℕ, ◌+◌, ◌<◌, ◌≤◌, Bool, true, false, List, [], ◌∷◌, ◌++◌, length, get_or, Some, refl, sym, ap, subst, ◌∙◌, arith, codes, append-nil}
use Rattle.std.proofs.lemmas.Fmt.{decimal_digit}
use Rattle.std.specs.Prelude.{Err}
use Rattle.vale_base.specs.Faults.{IfFault}
use Rattle.vale_base.specs.declared.fault.Fail.TheVariants.{Memory, Is}
use Rattle.vale_base.specs.declared.fault.Fail.{Fail}
use Rattle.vale_words.proofs.FaultLemmas.{at_first, at_end, behind, same_fault}
use Rattle.vale_words.specs.FirstFault.{Word, StopsAt, IsFirstFault}
use Rattle.vale_words.specs.Words.{IsFileName, IsNumber, option_text, nothing_chosen, options_of, ChoosesFrom, AreOptionsFrom, command_text, IsOneName, AreTwoNames, IsNameWith, IsSomeNameWith, IsProgramText, AsksBehind, IsLawfulBehind, BeginsText, NoText, Lawful}
use Rattle.vale_words.specs.declared.job.Job.{Job}
use Rattle.vale_words.specs.declared.job.Job.TheVariants as j
use Rattle.vale_words.specs.declared.job.Options.{Options}
use Rattle.vale_words.specs.declared.options.OptionName.{OptionName}
use Rattle.vale_words.specs.declared.options.OptionName.TheVariants as o
use Rattle.vale_words.specs.declared.words.Command.{Command}
use Rattle.vale_words.specs.declared.words.Command.TheVariants as c

pub not_true : (b : Bool) → b ≡ false → b ≡ true → ⊥
not_true b off on = let k : false ≡ true = sym off ∙ on in cc k

good_name : IsFileName (codes "p")
good_name e = omega (arith, e)

one_program : IsNumber 1 10000 (codes "1") 1
one_program = record { spelled = sym (decimal_digit 1 (omega arith)); above = omega arith; below = omega arith }

-- ---- one name

name_first : (name : Word) (after : List Word) → IsOneName (name ∷ after) → IsFileName name
name_first name [] is = is
name_first name (w ∷ ws) is = absurd is

pub name_missing : IsFirstFault IsOneName [] 0
name_missing = at_end IsOneName (codes "p" ∷ [], good_name) (λ is. is)

pub name_wrong : (name : Word) (more : List Word) → (IsFileName name → ⊥) → IsFirstFault IsOneName (name ∷ more) 0
name_wrong name more no_name = at_first IsOneName name more (codes "p" ∷ [], good_name) (λ after is. no_name (name_first name after is))

pub name_more : (name : Word) (more : List Word) → IsFileName name → (more ≡ [] → ⊥) → IsFirstFault IsOneName (name ∷ more) 1
name_more name [] is some = absurd (some refl)
name_more name (w ∷ ws) is some = behind IsOneName name (w ∷ ws) 0 (at_first (λ words. IsOneName (name ∷ words)) w ws ([], is) (λ after other. other))

-- ---- two names

pub two_missing : IsFirstFault AreTwoNames [] 0
two_missing = at_end AreTwoNames (codes "p" ∷ codes "p" ∷ [], (good_name, good_name)) (λ is. is)

pub two_wrong : (name : Word) (more : List Word) → (IsFileName name → ⊥) → IsFirstFault AreTwoNames (name ∷ more) 0
two_wrong name more no_name = at_first AreTwoNames name more (codes "p" ∷ codes "p" ∷ [], (good_name, good_name)) (λ after is. no_name is.0)

pub two_behind : (name : Word) (more : List Word) (index : ℕ) → IsFileName name → IsFirstFault IsOneName more index → IsFirstFault AreTwoNames (name ∷ more) (index + 1)
two_behind name more index is fault =
    behind AreTwoNames name more index (same_fault IsOneName (λ ws. AreTwoNames (name ∷ ws)) more index (λ ws other. (is, other)) (λ ws both. both.1) fault)

-- ---- a name with options

default_with : IsNameWith (codes "p" ∷ []) (options_of nothing_chosen)
default_with = (good_name, refl)

pub with_missing : IsFirstFault IsSomeNameWith [] 0
with_missing = at_end IsSomeNameWith (codes "p" ∷ [], (options_of nothing_chosen, default_with)) (λ (options, is). is)

pub with_wrong : (name : Word) (more : List Word) → (IsFileName name → ⊥) → IsFirstFault IsSomeNameWith (name ∷ more) 0
with_wrong name more no_name =
    at_first IsSomeNameWith name more (codes "p" ∷ [], (options_of nothing_chosen, default_with)) (λ after (options, is). no_name is.0)

pub with_behind : (name : Word) (more : List Word) (index : ℕ) → IsFileName name → IsFirstFault (AreOptionsFrom nothing_chosen) more index → IsFirstFault IsSomeNameWith (name ∷ more) (index + 1)
with_behind name more index is fault =
    behind IsSomeNameWith name more index
    (same_fault (AreOptionsFrom nothing_chosen) (λ ws. IsSomeNameWith (name ∷ ws)) more index (λ ws (options, chooses). (options, (is, chooses))) (λ ws (options, both). (options, both.1)) fault)

-- ---- a generated program

pub text_word : Word
text_word = codes "--text"

no_option : (option : OptionName) → option_text option ≡ codes "--text" → ⊥
no_option o.Workers e = let k = ap (λ w. get_or w 2 0) e in omega (arith, k)
no_option o.Ticks e = let k = ap (λ w. get_or w 3 0) e in omega (arith, k)
no_option o.Frames e = let k = ap (λ w. get_or w 2 0) e in omega (arith, k)
no_option o.FirstGeneration e = let k = ap (λ w. get_or w 2 0) e in omega (arith, k)
no_option o.Schedule e = let k = ap (λ w. get_or w 2 0) e in omega (arith, k)

program_text : IsLawfulBehind c.Gen (codes "1" ∷ codes "--text" ∷ [])
program_text = (j.GenText 1, (one_program, refl))

program_none : (job : Job) → AsksBehind c.Gen [] job → ⊥
program_none (j.Gen n options) asks = asks
program_none (j.GenText n) asks = asks
program_none _ asks = asks

program_number : (number : Word) (more : List Word) (job : Job) → AsksBehind c.Gen (number ∷ more) job → (n : ℕ) × IsNumber 1 10000 number n
program_number number more (j.Gen n options) asks = (n, asks.0)
program_number number more (j.GenText n) asks = (n, asks.0)
program_number number more _ asks = absurd asks

pub program_missing : IsFirstFault (IsLawfulBehind c.Gen) [] 0
program_missing = at_end (IsLawfulBehind c.Gen) (codes "1" ∷ codes "--text" ∷ [], program_text) (λ (job, asks). program_none job asks)

pub program_wrong : (number : Word) (more : List Word) → ((n : ℕ) → IsNumber 1 10000 number n → ⊥) → IsFirstFault (IsLawfulBehind c.Gen) (number ∷ more) 0
program_wrong number more none =
    at_first (IsLawfulBehind c.Gen) number more (codes "1" ∷ codes "--text" ∷ [], program_text)
    (λ after (job, asks). let (n, is) = program_number number after job asks in none n is)

text_then : (number w : Word) (after : List Word) (job : Job) → AsksBehind c.Gen (number ∷ codes "--text" ∷ w ∷ after) job → ⊥
text_then number w after (j.Gen n options) (is, (setting, text, free, fits, more)) = no_option _ text
text_then number w after (j.GenText n) (is, same) = let k = ap length same in omega (arith, k)
text_then number w after _ asks = asks

pub text_more : (number : Word) (more : List Word) (n : ℕ) → IsNumber 1 10000 number n → BeginsText more → 1 < length more → IsFirstFault (IsLawfulBehind c.Gen) (number ∷ more) 2
text_more number [] n is text some = absurd text
text_more number (t ∷ []) n is text some = absurd (omega (arith, some))
text_more number (t ∷ w ∷ ws) n is text some =
    behind (IsLawfulBehind c.Gen) number (t ∷ w ∷ ws) 1
    (behind (λ words. IsLawfulBehind c.Gen (number ∷ words)) t (w ∷ ws) 0
    (at_first (λ words. IsLawfulBehind c.Gen (number ∷ t ∷ words)) w ws ([], (j.GenText n, (is, ap (λ z. z ∷ []) text)))
    (λ after (job, asks). text_then number w after job (subst (λ z. AsksBehind c.Gen (number ∷ z ∷ w ∷ after) job) text asks))))

pub text_alone : (number : Word) (more : List Word) (n : ℕ) → IsNumber 1 10000 number n → BeginsText more → length more ≤ 1 → IsProgramText (number ∷ more) n
text_alone number [] n is text few = absurd text
text_alone number (t ∷ []) n is text few = (is, ap (λ z. z ∷ []) text)
text_alone number (t ∷ w ∷ ws) n is text few = absurd (omega (arith, few))

-- after `--text` no options stand
pub text_only : (number : Word) (more : List Word) (m n : ℕ) (job : Job) → BeginsText more → ((k : ℕ) → IsNumber 1 10000 number k → Some m ≡ Some k) → AsksBehind c.Gen (number ∷ more) job → j.GenText m ≡ job
text_only number [] m n job text one asks = absurd text
text_only number (t ∷ more) m n (j.GenText k) text one asks =
    let e = one k asks.0 in let same : m ≡ k = cc e in ap j.GenText same
text_only number (t ∷ []) m n (j.Gen k options) text one (is, chooses) = absurd chooses
text_only number (t ∷ w ∷ ws) m n (j.Gen k options) text one (is, (setting, key, free, fits, rest)) = absurd (no_option _ (key ∙ text))
text_only number (t ∷ more) m n _ text one asks = absurd asks

text_differs : (words : List Word) → NoText words → words ≡ codes "--text" ∷ [] → ⊥
text_differs [] none e = let k = ap length e in omega (arith, k)
text_differs (w ∷ ws) none e = none (cc e)

text_differs_from : (front : List Word) (w : Word) (back after : List Word) → NoText (front ++ w ∷ back) → (front ++ w ∷ []) ++ after ≡ codes "--text" ∷ [] → ⊥
text_differs_from [] w back after none e = none (cc e)
text_differs_from (f ∷ fs) w back after none e = none (cc e)

module _ (number : Word) (n : ℕ) (is : IsNumber 1 10000 number n) where
  options_behind : (words : List Word) (job : Job) → (words ≡ codes "--text" ∷ [] → ⊥) → AsksBehind c.Gen (number ∷ words) job → AreOptionsFrom nothing_chosen words
  options_behind words (j.Gen m options) none asks = (options, asks.1)
  options_behind words (j.GenText m) none asks = absurd (none asks.1)
  options_behind words _ none asks = absurd asks

  stops_behind : (front back : List Word) → NoText (front ++ back) → StopsAt (AreOptionsFrom nothing_chosen) front back → StopsAt (λ words. IsLawfulBehind c.Gen (number ∷ words)) front back
  stops_behind front [] none stops =
      λ (job, asks). stops (options_behind front job (text_differs front (subst NoText (append-nil front) none)) asks)
  stops_behind front (w ∷ back) none stops =
      λ (after, (job, asks)). stops (after, options_behind ((front ++ w ∷ []) ++ after) job (text_differs_from front w back after none) asks)

  pub program_behind : (more : List Word) (index : ℕ) → NoText more → IsFirstFault (AreOptionsFrom nothing_chosen) more index → IsFirstFault (IsLawfulBehind c.Gen) (number ∷ more) (index + 1)
  program_behind more index none fault =
      behind (IsLawfulBehind c.Gen) number more index
      (record {
        front = fault.front;
        back = fault.back;
        whole = fault.whole;
        at = fault.at;
        begins = let (after, (options, chooses)) = fault.begins in (after, (j.Gen n options, (is, chooses)));
        stops = stops_behind fault.front fault.back (subst NoText fault.whole none) fault.stops;
      })

  -- where the options have a fault, no job is asked for
  pub no_program : (more : List Word) (job : Job) → NoText more → ((options : Options) → ChoosesFrom nothing_chosen more options → ⊥) → AsksBehind c.Gen (number ∷ more) job → ⊥
  no_program more job none no_options asks =
      let (options, chooses) = options_behind more job (text_differs more none) asks in no_options options chooses

-- ---- what each command asks for

check_from : (words : List Word) (job : Job) → AsksBehind c.Check words job → IsOneName words
check_from words (j.Check file) asks = asks.1
check_from words _ asks = absurd asks

fmt_from : (words : List Word) (job : Job) → AsksBehind c.Fmt words job → IsOneName words
fmt_from words (j.Fmt file) asks = asks.1
fmt_from words _ asks = absurd asks

list_from : (words : List Word) (job : Job) → AsksBehind c.List words job → IsOneName words
list_from words (j.List code) asks = asks.1
list_from words _ asks = absurd asks

build_from : (words : List Word) (job : Job) → AsksBehind c.Build words job → AreTwoNames words
build_from words (j.Build file code) asks = asks.2
build_from words _ asks = absurd asks

run_from : (words : List Word) (job : Job) → AsksBehind c.Run words job → IsSomeNameWith words
run_from words (j.Run file options) asks = (options, asks.1)
run_from words _ asks = absurd asks

exec_from : (words : List Word) (job : Job) → AsksBehind c.Exec words job → IsSomeNameWith words
exec_from words (j.Exec code options) asks = (options, asks.1)
exec_from words _ asks = absurd asks

pub check_fault : (words : List Word) (index : ℕ) → IsFirstFault IsOneName words index → IsFirstFault (IsLawfulBehind c.Check) words index
check_fault words index = same_fault IsOneName (IsLawfulBehind c.Check) words index (λ ws one. (j.Check 1, (refl, one))) (λ ws (job, asks). check_from ws job asks)

pub fmt_fault : (words : List Word) (index : ℕ) → IsFirstFault IsOneName words index → IsFirstFault (IsLawfulBehind c.Fmt) words index
fmt_fault words index = same_fault IsOneName (IsLawfulBehind c.Fmt) words index (λ ws one. (j.Fmt 1, (refl, one))) (λ ws (job, asks). fmt_from ws job asks)

pub list_fault : (words : List Word) (index : ℕ) → IsFirstFault IsOneName words index → IsFirstFault (IsLawfulBehind c.List) words index
list_fault words index = same_fault IsOneName (IsLawfulBehind c.List) words index (λ ws one. (j.List 1, (refl, one))) (λ ws (job, asks). list_from ws job asks)

pub build_fault : (words : List Word) (index : ℕ) → IsFirstFault AreTwoNames words index → IsFirstFault (IsLawfulBehind c.Build) words index
build_fault words index = same_fault AreTwoNames (IsLawfulBehind c.Build) words index (λ ws two. (j.Build 1 2, (refl, refl, two))) (λ ws (job, asks). build_from ws job asks)

pub run_fault : (words : List Word) (index : ℕ) → IsFirstFault IsSomeNameWith words index → IsFirstFault (IsLawfulBehind c.Run) words index
run_fault words index = same_fault IsSomeNameWith (IsLawfulBehind c.Run) words index (λ ws (options, is). (j.Run 1 options, (refl, is))) (λ ws (job, asks). run_from ws job asks)

pub exec_fault : (words : List Word) (index : ℕ) → IsFirstFault IsSomeNameWith words index → IsFirstFault (IsLawfulBehind c.Exec) words index
exec_fault words index = same_fault IsSomeNameWith (IsLawfulBehind c.Exec) words index (λ ws (options, is). (j.Exec 1 options, (refl, is))) (λ ws (job, asks). exec_from ws job asks)

-- a fault that is handed on
pub IfFault-weaker : (T U : Type 0) {F : Type 0} (P Q : F → Type 0) (fail : Fail F) → ((f : F) → P f → Q f) → IfFault {T = T} (Err fail) P → IfFault {T = U} (Err fail) Q
IfFault-weaker T U P Q Memory to p = tt
IfFault-weaker T U P Q (Is fault) to p = to fault p

pub no_build : (words : List Word) (job : Job) → (AreTwoNames words → ⊥) → AsksBehind c.Build words job → ⊥
no_build words job none asks = none (build_from words job asks)

-- ---- all words

pub words_missing : IsFirstFault Lawful [] 0
words_missing = at_end Lawful (codes "gen" ∷ codes "1" ∷ codes "--text" ∷ [], (j.GenText 1, (c.Gen, refl, (one_program, refl)))) (λ (job, asks). asks)

pub command_wrong : (word : Word) (more : List Word) → ((command : Command) → command_text command ≡ word → ⊥) → IsFirstFault Lawful (word ∷ more) 0
command_wrong word more none =
    at_first Lawful word more (codes "gen" ∷ codes "1" ∷ codes "--text" ∷ [], (j.GenText 1, (c.Gen, refl, (one_program, refl))))
    (λ after (job, (command, text, asks)). none command text)

pub command_behind : (word : Word) (more : List Word) (command : Command) (index : ℕ) → command_text command ≡ word → ((other : Command) → command_text other ≡ word → Some command ≡ Some other) → IsFirstFault (IsLawfulBehind command) more index → IsFirstFault Lawful (word ∷ more) (index + 1)
command_behind word more command index text only fault =
    behind Lawful word more index
    (same_fault (IsLawfulBehind command) (λ ws. Lawful (word ∷ ws)) more index (λ ws (job, asks). (job, (command, text, asks)))
    (λ ws (job, (other, is, asks)). let k = only other is in let same : command ≡ other = cc k in
    (job, subst (λ z. AsksBehind z ws job) (sym same) asks)) fault)
