-- What is known of a run before it begins.
use Rattle.std.proofs.Common.{◌<◌, ◌≤◌, ℕ, List, [], ◌∷◌, arith}
use Rattle.std.specs.Prelude.{unwrap_or}
use Rattle.vale_base.specs.Limits.{ticks_limit, ticks_default}
use Rattle.vale_words.specs.FirstFault.{Word}
use Rattle.vale_words.specs.Words.{Asks, AsksBehind, ChoosesFrom, IsNameWith, IsValue, nothing_chosen, with_setting}
use Rattle.vale_words.specs.declared.job.Job.TheVariants as j
use Rattle.vale_words.specs.declared.job.Options.{Options}
use Rattle.vale_words.specs.declared.options.Chosen.{Chosen}
use Rattle.vale_words.specs.declared.options.Setting.{Setting}
use Rattle.vale_words.specs.declared.options.Setting.TheVariants as s
use Rattle.vale_words.specs.declared.words.Command.{Command}
use Rattle.vale_words.specs.declared.words.Command.TheVariants as c

-- ---- the ticks

-- a run has 1 to 2^62 ticks
pub record IsTicks (n : ℕ) : Type 0 where
  pub some : 0 < n
  pub few : n ≤ ticks_limit

chosen_ticks : (chosen : Chosen) → ℕ
chosen_ticks chosen = unwrap_or chosen.ticks ticks_default

ticks_kept : (word : Word) (setting : Setting) (chosen : Chosen) → IsValue word setting → IsTicks (unwrap_or chosen.ticks ticks_default)
    → IsTicks (unwrap_or (with_setting setting chosen).ticks ticks_default)
ticks_kept word (s.Workers n) chosen is h = h
ticks_kept word (s.Ticks n) chosen is h = record { some = omega (arith, is.above); few = is.below }
ticks_kept word (s.Frames n) chosen is h = h
ticks_kept word (s.FirstGeneration n) chosen is h = h
ticks_kept word (s.Schedule turns) chosen is h = h

ticks_from : (chosen : Chosen) (words : List Word) (options : Options) → ChoosesFrom chosen words options
    → IsTicks (unwrap_or chosen.ticks ticks_default) → IsTicks options.ticks
ticks_from chosen [] options is h = rw is h
ticks_from chosen (key ∷ []) options is h = absurd is
ticks_from chosen (key ∷ value ∷ more) options (setting, named, open_yet, is, rest) h =
    ticks_from (with_setting setting chosen) more options rest (ticks_kept value setting chosen is h)

-- where the ticks of a name with options are asked for
ticks_with : (words : List Word) (options : Options) → IsNameWith words options → IsTicks options.ticks
ticks_with [] options names = absurd names
ticks_with (name ∷ more) options names = ticks_from nothing_chosen more options names.1 (record { some = omega arith; few = omega arith })

run_behind : (command : Command) (words : List Word) (file : ℕ) (options : Options) → AsksBehind command words (j.Run file options) → IsTicks options.ticks
run_behind c.Run words file options behind = ticks_with words options behind.1
run_behind _ words file options behind = absurd behind

exec_behind : (command : Command) (words : List Word) (code : ℕ) (options : Options) → AsksBehind command words (j.Exec code options) → IsTicks options.ticks
exec_behind c.Exec words code options behind = ticks_with words options behind.1
exec_behind _ words code options behind = absurd behind

-- the ticks of a run that the words ask for
pub asked_ticks : (words : List Word) (file : ℕ) (options : Options) → Asks words (j.Run file options) → IsTicks options.ticks
asked_ticks [] file options asks = absurd asks
asked_ticks (word ∷ more) file options (command, text, asks) = run_behind command more file options asks

-- the same of a code file's
pub exec_ticks : (words : List Word) (code : ℕ) (options : Options) → Asks words (j.Exec code options) → IsTicks options.ticks
exec_ticks [] code options asks = absurd asks
exec_ticks (word ∷ more) code options (command, text, asks) = exec_behind command more code options asks
