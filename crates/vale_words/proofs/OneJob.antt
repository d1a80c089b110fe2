-- Words ask for one job at most.
use Rattle.std.proofs.Common.{◌≡◌, ℕ, ◌<◌, List, [], ◌∷◌, length, get_or, refl, sym, ap, subst, ◌∙◌, arith}
use Rattle.std.proofs.lemmas.Fmt.{decimal_injective}
use Rattle.std.specs.Prelude.{◌^◌, ◌==◌, if◌then◌else◌}
use Rattle.vale_words.proofs.ScheduleLemmas.{parts-schedule, numbers_unique}
use Rattle.vale_words.specs.FirstFault.{Word}
use Rattle.vale_words.specs.Words.{IsNumber, IsSchedule, option_text, option_of, IsValue, with_setting, ChoosesFrom, nothing_chosen, command_text, IsNameWith, IsProgramWith, IsProgramText, AsksBehind, Asks}
use Rattle.vale_words.specs.declared.job.Job.{Job}
use Rattle.vale_words.specs.declared.job.Job.TheVariants as j
use Rattle.vale_words.specs.declared.job.Options.{Options}
use Rattle.vale_words.specs.declared.options.Chosen.{Chosen}
use Rattle.vale_words.specs.declared.options.OptionName.{OptionName}
use Rattle.vale_words.specs.declared.options.OptionName.TheVariants as o
use Rattle.vale_words.specs.declared.options.Setting.{Setting}
use Rattle.vale_words.specs.declared.options.Setting.TheVariants as s
use Rattle.vale_words.specs.declared.words.Command.{Command}
use Rattle.vale_words.specs.declared.words.Command.TheVariants as c

-- ---- single words

one_number : (low high : ℕ) (word : Word) (m n : ℕ) → high < 2 ^ 64 → IsNumber low high word m → IsNumber low high word n → m ≡ n
one_number low high word m n within a b =
    decimal_injective m n (omega (arith, a.below)) (omega (arith, b.below)) (sym a.spelled ∙ b.spelled)

one_schedule : (word ms ns : List ℕ) → IsSchedule word ms → IsSchedule word ns → ms ≡ ns
one_schedule word ms ns a b =
    numbers_unique ms ns a.workers b.workers (sym (parts-schedule word ms a) ∙ parts-schedule word ns b)

-- the command with this first byte
command_of : ℕ → Command
command_of b =
    if b == 114 then c.Run
    else (if b == 99 then c.Check
    else (if b == 102 then c.Fmt
    else (if b == 98 then c.Build
    else (if b == 101 then c.Exec
    else (if b == 108 then c.List
    else c.Gen)))))

first_tells : (command : Command) → command_of (get_or (command_text command) 0 0) ≡ command
unfolding command_of
first_tells c.Run = refl
first_tells c.Check = refl
first_tells c.Fmt = refl
first_tells c.Build = refl
first_tells c.Exec = refl
first_tells c.List = refl
first_tells c.Gen = refl

one_command : (a b : Command) → command_text a ≡ command_text b → a ≡ b
one_command a b e = sym (first_tells a) ∙ ap (λ w. command_of (get_or w 0 0)) e ∙ first_tells b

-- the option whose text is so long
option_with : ℕ → OptionName
option_with n =
    if n == 9 then o.Workers
    else (if n == 7 then o.Ticks
    else (if n == 8 then o.Frames
    else (if n == 18 then o.FirstGeneration
    else o.Schedule)))

length_tells : (option : OptionName) → option_with (length (option_text option)) ≡ option
unfolding option_with
length_tells o.Workers = refl
length_tells o.Ticks = refl
length_tells o.Frames = refl
length_tells o.FirstGeneration = refl
length_tells o.Schedule = refl

one_option : (a b : OptionName) → option_text a ≡ option_text b → a ≡ b
one_option a b e = sym (length_tells a) ∙ ap (λ w. option_with (length w)) e ∙ length_tells b

-- ---- options

one_value : (word : Word) (a b : Setting) → option_of a ≡ option_of b → IsValue word a → IsValue word b → a ≡ b
one_value word (s.Workers m) (s.Workers n) same x y = ap s.Workers (one_number _ _ word m n (omega arith) x y)
one_value word (s.Ticks m) (s.Ticks n) same x y = ap s.Ticks (one_number _ _ word m n (omega arith) x y)
one_value word (s.Frames m) (s.Frames n) same x y = ap s.Frames (one_number _ _ word m n (omega arith) x y)
one_value word (s.FirstGeneration m) (s.FirstGeneration n) same x y = ap s.FirstGeneration (one_number _ _ word m n (omega arith) x y)
one_value word (s.Schedule ms) (s.Schedule ns) same x y = ap s.Schedule (one_schedule word ms ns x y)
one_value word _ _ same x y = absurd (cc same)

one_choice : (words : List Word) (chosen : Chosen) (a b : Options) → ChoosesFrom chosen words a → ChoosesFrom chosen words b → a ≡ b
one_choice [] chosen a b x y = x ∙ sym y
one_choice (key ∷ []) chosen a b x y = absurd x
one_choice (key ∷ value ∷ more) chosen a b (m, named, free, is, after) (n, called, unset, fits, behind) =
    let same : m ≡ n = one_value value m n (one_option (option_of m) (option_of n) (named ∙ sym called)) is fits in
    one_choice more (with_setting m chosen) a b after (subst (λ z. ChoosesFrom (with_setting z chosen) more b) (sym same) behind)

-- ---- jobs

one_with : (words : List Word) (a b : Options) → IsNameWith words a → IsNameWith words b → a ≡ b
one_with [] a b x y = absurd x
one_with (name ∷ more) a b x y = one_choice more nothing_chosen a b x.1 y.1

one_program : (words : List Word) (m n : ℕ) (a b : Options) → IsProgramWith words m a → IsProgramWith words n b → j.Gen m a ≡ j.Gen n b
one_program [] m n a b x y = absurd x
one_program (number ∷ more) m n a b x y =
    ap (λ k. j.Gen k a) (one_number _ _ number m n (omega arith) x.0 y.0) ∙ ap (j.Gen n) (one_choice more nothing_chosen a b x.1 y.1)

one_text : (words : List Word) (m n : ℕ) → IsProgramText words m → IsProgramText words n → m ≡ n
one_text [] m n x y = absurd x
one_text (number ∷ more) m n x y = one_number _ _ number m n (omega arith) x.0 y.0

-- what asks for the text of a program asks for no run of it
no_both : (words : List Word) (m n : ℕ) (a : Options) → IsProgramWith words m a → IsProgramText words n → ⊥
no_both [] m n a x y = x
no_both (number ∷ more) m n a x y = subst (λ z. ChoosesFrom nothing_chosen z a) y.1 x.1

one_behind : (command : Command) (words : List Word) (a b : Job) → AsksBehind command words a → AsksBehind command words b → a ≡ b
one_behind c.Run words (j.Run f a) (j.Run g b) x y = ap (λ k. j.Run k a) (x.0 ∙ sym y.0) ∙ ap (j.Run g) (one_with words a b x.1 y.1)
one_behind c.Run words (j.Run f a) _ x y = absurd y
one_behind c.Run words _ b x y = absurd x
one_behind c.Check words (j.Check f) (j.Check g) x y = ap j.Check (x.0 ∙ sym y.0)
one_behind c.Check words (j.Check f) _ x y = absurd y
one_behind c.Check words _ b x y = absurd x
one_behind c.Fmt words (j.Fmt f) (j.Fmt g) x y = ap j.Fmt (x.0 ∙ sym y.0)
one_behind c.Fmt words (j.Fmt f) _ x y = absurd y
one_behind c.Fmt words _ b x y = absurd x
one_behind c.Build words (j.Build f d) (j.Build g e) x y = ap (λ k. j.Build k d) (x.0 ∙ sym y.0) ∙ ap (j.Build g) (x.1 ∙ sym y.1)
one_behind c.Build words (j.Build f d) _ x y = absurd y
one_behind c.Build words _ b x y = absurd x
one_behind c.Exec words (j.Exec f a) (j.Exec g b) x y = ap (λ k. j.Exec k a) (x.0 ∙ sym y.0) ∙ ap (j.Exec g) (one_with words a b x.1 y.1)
one_behind c.Exec words (j.Exec f a) _ x y = absurd y
one_behind c.Exec words _ b x y = absurd x
one_behind c.List words (j.List f) (j.List g) x y = ap j.List (x.0 ∙ sym y.0)
one_behind c.List words (j.List f) _ x y = absurd y
one_behind c.List words _ b x y = absurd x
one_behind c.Gen words (j.Gen m a) (j.Gen n b) x y = one_program words m n a b x y
one_behind c.Gen words (j.GenText m) (j.GenText n) x y = ap j.GenText (one_text words m n x y)
one_behind c.Gen words (j.Gen m a) (j.GenText n) x y = absurd (no_both words m n a x y)
one_behind c.Gen words (j.GenText m) (j.Gen n b) x y = absurd (no_both words n m b y x)
one_behind c.Gen words (j.Gen m a) _ x y = absurd y
one_behind c.Gen words (j.GenText m) _ x y = absurd y
one_behind c.Gen words _ b x y = absurd x

pub one_job : (words : List Word) (a b : Job) → Asks words a → Asks words b → a ≡ b
one_job [] a b x y = absurd x
one_job (word ∷ more) a b (first, named, asks) (other, called, behind) =
    let same : first ≡ other = one_command first other (named ∙ sym called) in
    one_behind first more a b asks (subst (λ z. AsksBehind z more b) (sym same) behind)
