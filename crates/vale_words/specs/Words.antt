-- What the words of the command line ask for (docs/LANGUAGE.md, "The command line").
use Rattle.std.specs.Prelude.{ℕ, ◌≡◌, ◌≢◌, ◌≤◌, ◌<◌, ◌+◌, ◌-◌, ◌^◌, Bool, false, List, [], ◌∷◌, codes, map, length, All, String, string_bytes, Option, None, Some, is_some, unwrap_or}
use Rattle.std.specs.Fmt.{decimal}
use Rattle.std.specs.List.{join_with_byte}
use Rattle.vale_base.specs.Limits.{workers_limit, ticks_limit, frames_limit, workers_default, ticks_default, frames_default, first_generation_default}
use Rattle.vale_words.specs.FirstFault.{Word}
use Rattle.vale_words.specs.declared.job.Job.{Job}
use Rattle.vale_words.specs.declared.job.Job.TheVariants as j
use Rattle.vale_words.specs.declared.job.Options.{Options}
use Rattle.vale_words.specs.declared.options.Chosen.{Chosen}
use Rattle.vale_words.specs.declared.options.OptionName.{OptionName}
use Rattle.vale_words.specs.declared.options.OptionName.TheVariants as o
use Rattle.vale_words.specs.declared.options.Setting.{Setting}
use Rattle.vale_words.specs.declared.options.Setting.TheVariants as s
use Rattle.vale_words.specs.declared.words.Command.{Command}
use Rattle.vale_words.specs.declared.words.Command.TheVariants as c

-- the bytes of each word
abbrev pub texts : {A : Type 0} → List (String A) → List Word
texts words = map string_bytes words

-- ---- single words

-- a file's name: it isn't empty and doesn't begin with `-`
abbrev pub IsFileName : Word → Type 0
IsFileName [] = ⊥
IsFileName (b ∷ more) = b ≢ 45

-- the word is this number in decimal digits, without a leading zero, and it lies within these limits
pub record IsNumber (low high : ℕ) (word : Word) (n : ℕ) : Type 0 where
  pub spelled : word ≡ decimal n
  pub above : low ≤ n
  pub below : n ≤ high

-- the word is one or more numbers of workers, with commas between
pub record IsSchedule (word : Word) (turns : List ℕ) : Type 0 where
  pub some : 0 < length turns
  pub spelled : word ≡ join_with_byte 44 (map decimal turns)
  pub workers : All (λ turn. turn < workers_limit) turns

-- ---- options

abbrev pub option_text : OptionName → Word
option_text o.Workers = codes "--workers"
option_text o.Ticks = codes "--ticks"
option_text o.Frames = codes "--frames"
option_text o.FirstGeneration = codes "--first-generation"
option_text o.Schedule = codes "--schedule"

-- the option that sets it
abbrev pub option_of : Setting → OptionName
option_of (s.Workers n) = o.Workers
option_of (s.Ticks n) = o.Ticks
option_of (s.Frames n) = o.Frames
option_of (s.FirstGeneration n) = o.FirstGeneration
option_of (s.Schedule turns) = o.Schedule

-- with this word the option sets it
abbrev pub IsValue : Word → Setting → Type 0
IsValue word (s.Workers n) = IsNumber 1 workers_limit word n
IsValue word (s.Ticks n) = IsNumber 1 ticks_limit word n
IsValue word (s.Frames n) = IsNumber 1 frames_limit word n
IsValue word (s.FirstGeneration n) = IsNumber 1 (2 ^ 64 - 1) word n
IsValue word (s.Schedule turns) = IsSchedule word turns

abbrev pub nothing_chosen : Chosen
nothing_chosen = record { workers = None; ticks = None; frames = None; first = None; schedule = None }

abbrev pub is_chosen : OptionName → Chosen → Bool
is_chosen o.Workers chosen = is_some chosen.workers
is_chosen o.Ticks chosen = is_some chosen.ticks
is_chosen o.Frames chosen = is_some chosen.frames
is_chosen o.FirstGeneration chosen = is_some chosen.first
is_chosen o.Schedule chosen = is_some chosen.schedule

abbrev pub with_setting : Setting → Chosen → Chosen
with_setting (s.Workers n) chosen = record chosen { workers = Some n }
with_setting (s.Ticks n) chosen = record chosen { ticks = Some n }
with_setting (s.Frames n) chosen = record chosen { frames = Some n }
with_setting (s.FirstGeneration n) chosen = record chosen { first = Some n }
with_setting (s.Schedule turns) chosen = record chosen { schedule = Some turns }

-- how many options aren't chosen yet
abbrev pub one_if_open : {A : Type 0} → Option A → ℕ
one_if_open None = 1
one_if_open (Some x) = 0

abbrev pub open_count : Chosen → ℕ
open_count chosen = one_if_open chosen.workers + one_if_open chosen.ticks + one_if_open chosen.frames + one_if_open chosen.first + one_if_open chosen.schedule

-- what is chosen, and what holds where nothing is
abbrev pub options_of : Chosen → Options
options_of chosen =
    record {
      workers = unwrap_or chosen.workers workers_default;
      ticks = unwrap_or chosen.ticks ticks_default;
      frames = unwrap_or chosen.frames frames_default;
      first = unwrap_or chosen.first first_generation_default;
      schedule = chosen.schedule;
    }

-- After what is chosen, the words are options of two words each, in any order, each option at most once; with them it
-- is these options.
abbrev pub ChoosesFrom : Chosen → List Word → Options → Type 0
ChoosesFrom chosen [] options = options ≡ options_of chosen
ChoosesFrom chosen (key ∷ []) options = ⊥
ChoosesFrom chosen (key ∷ value ∷ more) options =
    (setting : Setting) × (option_text (option_of setting) ≡ key) × (is_chosen (option_of setting) chosen ≡ false)
    × IsValue value setting × ChoosesFrom (with_setting setting chosen) more options

abbrev pub AreOptionsFrom : Chosen → List Word → Type 0
AreOptionsFrom chosen words = (options : Options) × ChoosesFrom chosen words options

-- ---- commands

abbrev pub command_text : Command → Word
command_text c.Run = codes "run"
command_text c.Check = codes "check"
command_text c.Fmt = codes "fmt"
command_text c.Build = codes "build"
command_text c.Exec = codes "exec"
command_text c.List = codes "list"
command_text c.Gen = codes "gen"

-- one name and no more
abbrev pub IsOneName : List Word → Type 0
IsOneName [] = ⊥
IsOneName (name ∷ []) = IsFileName name
IsOneName (name ∷ word ∷ more) = ⊥

-- two names and no more
abbrev pub AreTwoNames : List Word → Type 0
AreTwoNames [] = ⊥
AreTwoNames (name ∷ more) = IsFileName name × IsOneName more

-- a name, and options after it
abbrev pub IsNameWith : List Word → Options → Type 0
IsNameWith [] options = ⊥
IsNameWith (name ∷ more) options = IsFileName name × ChoosesFrom nothing_chosen more options

abbrev pub IsSomeNameWith : List Word → Type 0
IsSomeNameWith words = (options : Options) × IsNameWith words options

-- the number of a generated program, and options after it
abbrev pub IsProgramWith : List Word → ℕ → Options → Type 0
IsProgramWith [] n options = ⊥
IsProgramWith (number ∷ more) n options = IsNumber 1 10000 number n × ChoosesFrom nothing_chosen more options

-- the number of a generated program, and `--text` alone after it
abbrev pub IsProgramText : List Word → ℕ → Type 0
IsProgramText [] n = ⊥
IsProgramText (number ∷ more) n = IsNumber 1 10000 number n × (more ≡ codes "--text" ∷ [])

-- `--text` stands first
abbrev pub BeginsText : List Word → Type 0
BeginsText [] = ⊥
BeginsText (word ∷ more) = word ≡ codes "--text"

-- it doesn't
abbrev pub NoText : List Word → Type 0
NoText [] = Unit {0}
NoText (word ∷ more) = word ≢ codes "--text"

-- the command asks for this job with the words after it
abbrev pub AsksBehind : Command → List Word → Job → Type 0
AsksBehind c.Run words (j.Run file options) = (file ≡ 1) × IsNameWith words options
AsksBehind c.Check words (j.Check file) = (file ≡ 1) × IsOneName words
AsksBehind c.Fmt words (j.Fmt file) = (file ≡ 1) × IsOneName words
AsksBehind c.Build words (j.Build file code) = (file ≡ 1) × (code ≡ 2) × AreTwoNames words
AsksBehind c.Exec words (j.Exec code options) = (code ≡ 1) × IsNameWith words options
AsksBehind c.List words (j.List code) = (code ≡ 1) × IsOneName words
AsksBehind c.Gen words (j.Gen n options) = IsProgramWith words n options
AsksBehind c.Gen words (j.GenText n) = IsProgramText words n
AsksBehind _ words _ = ⊥

abbrev pub IsLawfulBehind : Command → List Word → Type 0
IsLawfulBehind command words = (job : Job) × AsksBehind command words job

-- the words ask for this job
abbrev pub Asks : List Word → Job → Type 0
Asks [] job = ⊥
Asks (word ∷ more) job = (command : Command) × (command_text command ≡ word) × AsksBehind command more job

-- the words ask for some job
abbrev pub Lawful : List Word → Type 0
Lawful words = (job : Job) × Asks words job
