-- The options of a run, read one after another.
use Rattle.std.proofs.Common.{◌≡◌, ℕ, ◌+◌, ◌-◌, ◌*◌, ◌<◌, ◌≤◌, false, List, [], ◌∷◌, length, take, drop, get_or, Option, Some, None, is_some, refl, sym, ap, subst, ◌∙◌, arith, codes}
use Rattle.std.proofs.lemmas.Grind.{common_steps}
use Rattle.std.proofs.lemmas.List.{length-map}
use Rattle.std.proofs.lemmas.List.Elements.{All-cons, All-nil}
use Rattle.std.proofs.lemmas.Fmt.{decimal_digit}
use Rattle.std.specs.Prelude.{String, string_bytes, ◌==◌}
use Rattle.vale_base.specs.Limits.{workers_limit}
use Rattle.vale_words.proofs.FaultLemmas.{at_first, at_end, behind, same_fault}
use Rattle.vale_words.specs.FirstFault.{Word, IsFirstFault}
use Rattle.vale_words.specs.Words.{texts, IsNumber, option_text, option_of, IsValue, is_chosen, with_setting, open_count, options_of, ChoosesFrom, AreOptionsFrom}
use Rattle.vale_words.specs.declared.job.Options.{Options}
use Rattle.vale_words.specs.declared.options.Chosen.{Chosen}
use Rattle.vale_words.specs.declared.options.OptionName.{OptionName}
use Rattle.vale_words.specs.declared.options.OptionName.TheVariants as o
use Rattle.vale_words.specs.declared.options.Setting.{Setting}
use Rattle.vale_words.specs.declared.options.Setting.TheVariants as s

-- words with a first one
pub texts-cons : {A : Type 0} (words : List (String A)) (first : String A) → 1 ≤ length words → first ≡ get_or words 0 first → texts words ≡ string_bytes first ∷ texts (take (length words - 1) (drop 1 words))
texts-cons [] first some is = absurd (omega (arith, some))
texts-cons (w ∷ ws) first some is =
    let all : take (length (w ∷ ws) - 1) (drop 1 (w ∷ ws)) ≡ ws = grind (arith, common_steps) in
    ap (λ z. string_bytes z ∷ texts ws) (sym is) ∙ ap (λ zs. string_bytes first ∷ texts zs) (sym all)

-- no words
pub texts-none : {A : Type 0} (words : List (String A)) → length words < 1 → texts words ≡ []
texts-none [] none = refl
texts-none (w ∷ ws) none = absurd (omega (arith, none))

pub texts-some : {A : Type 0} (words : List (String A)) → false ≡ (length words == 0) → texts words ≡ [] → ⊥
texts-some [] some none = cc some
texts-some (w ∷ ws) some none = cc none

pub more_texts : {A : Type 0} (words : List (String A)) → 1 < length words → 1 < length (texts words)
more_texts words more = omega (arith, more, length-map words string_bytes)

one_is_one : (high : ℕ) → 1 ≤ high → IsNumber 1 high (codes "1") 1
one_is_one high some = record { spelled = sym (decimal_digit 1 (omega arith)); above = omega arith; below = some }

-- each option has a value
some_value : (o : OptionName) → (word : Word) × (setting : Setting) × (option_of setting ≡ o) × IsValue word setting
some_value o.Workers = (codes "1", s.Workers 1, refl, one_is_one _ (omega arith))
some_value o.Ticks = (codes "1", s.Ticks 1, refl, one_is_one _ (omega arith))
some_value o.Frames = (codes "1", s.Frames 1, refl, one_is_one _ (omega arith))
some_value o.FirstGeneration = (codes "1", s.FirstGeneration 1, refl, one_is_one _ (omega arith))
some_value o.Schedule =
    (codes "0", s.Schedule (0 ∷ []), refl, record { some = omega arith; spelled = sym (decimal_digit 0 (omega arith)); workers = All-cons (λ turn. turn < workers_limit) 0 [] (omega arith) (All-nil (λ turn. turn < workers_limit)) })

module _ (chosen : Chosen) (option : OptionName) (key : Word) (named : option_text option ≡ key) (is_open : is_chosen option chosen ≡ false) where
  with_value : (more : List Word) (value : Word) (setting : Setting) (options : Options) → option_of setting ≡ option → IsValue value setting → ChoosesFrom (with_setting setting chosen) more options → ChoosesFrom chosen (key ∷ value ∷ more) options
  with_value more value setting options of is after =
      (setting, ap option_text of ∙ named, ap (λ p. is_chosen p chosen) of ∙ is_open, is, after)

  -- nothing stands after the option
  pub no_value : IsFirstFault (AreOptionsFrom chosen) (key ∷ []) 1
  no_value =
      let (value, setting, of, is) = some_value option in
      behind (AreOptionsFrom chosen) key [] 0
      (at_end (λ ws. AreOptionsFrom chosen (key ∷ ws))
      (value ∷ [], (options_of (with_setting setting chosen), with_value [] value setting _ of is refl))
      (λ (options, chooses). chooses))

  module _ (only : (p : OptionName) → option_text p ≡ key → Some option ≡ Some p) where
    same_option : (setting : Setting) → option_text (option_of setting) ≡ key → option_of setting ≡ option
    same_option setting is = let k = only (option_of setting) is in sym (cc k)

    -- what stands after the option is no value of it
    pub wrong_value : (value : Word) (more : List Word) → ((setting : Setting) → option_of setting ≡ option → IsValue value setting → ⊥) → IsFirstFault (AreOptionsFrom chosen) (key ∷ value ∷ more) 1
    wrong_value value more none =
        let (good, setting, of, is) = some_value option in
        behind (AreOptionsFrom chosen) key (value ∷ more) 0
        (at_first (λ ws. AreOptionsFrom chosen (key ∷ ws)) value more
        (good ∷ [], (options_of (with_setting setting chosen), with_value [] good setting _ of is refl))
        (λ after (options, (other, text, free, is, rest)). none other (same_option other text) is))

    module _ (value : Word) (setting : Setting) (of : option_of setting ≡ option) (is : IsValue value setting) (one : (other : Setting) → option_of other ≡ option → IsValue value other → Some setting ≡ Some other) where
      -- what follows an option is read with it chosen
      pub chooses_more : (more : List Word) (options : Options) → ChoosesFrom (with_setting setting chosen) more options → ChoosesFrom chosen (key ∷ value ∷ more) options
      chooses_more more options after = with_value more value setting options of is after

      pub chooses_rest : (more : List Word) (options : Options) → ChoosesFrom chosen (key ∷ value ∷ more) options → ChoosesFrom (with_setting setting chosen) more options
      chooses_rest more options (other, text, free, fits, rest) =
          let k = one other (same_option other text) fits in
          let same : setting ≡ other = cc k in
          subst (λ z. ChoosesFrom (with_setting z chosen) more options) (sym same) rest

      pub fault_further : (more : List Word) (index : ℕ) → IsFirstFault (AreOptionsFrom (with_setting setting chosen)) more index → IsFirstFault (AreOptionsFrom chosen) (key ∷ value ∷ more) (index + 2)
      fault_further more index fault =
          let inside = same_fault (AreOptionsFrom (with_setting setting chosen)) (λ ws. AreOptionsFrom chosen (key ∷ value ∷ ws)) more index (λ ws (o, c). (o, chooses_more ws o c)) (λ ws (o, c). (o, chooses_rest ws o c)) fault in
          let both = behind (AreOptionsFrom chosen) key (value ∷ more) (index + 1) (behind (λ ws. AreOptionsFrom chosen (key ∷ ws)) value more index inside) in
          let P : ℕ → Type 0 = λ n. IsFirstFault (AreOptionsFrom chosen) (key ∷ value ∷ more) n in
          let sum : index + 1 + 1 ≡ index + 2 = omega arith in
          subst P sum both

is_none : {A : Type 0} (x : Option A) → is_some x ≡ false → x ≡ None
is_none None no_value = refl
is_none (Some x) no_value = absurd (cc no_value)

-- one option fewer is open after an option
pub open_fewer : (setting : Setting) (chosen : Chosen) → is_chosen (option_of setting) chosen ≡ false → open_count (with_setting setting chosen) + 1 ≡ open_count chosen
open_fewer (s.Workers n) chosen free = rw (is_none chosen.workers free) (omega arith)
open_fewer (s.Ticks n) chosen free = rw (is_none chosen.ticks free) (omega arith)
open_fewer (s.Frames n) chosen free = rw (is_none chosen.frames free) (omega arith)
open_fewer (s.FirstGeneration n) chosen free = rw (is_none chosen.first free) (omega arith)
open_fewer (s.Schedule turns) chosen free = rw (is_none chosen.schedule free) (omega arith)

-- an option that was read, as the code knows it
pub record ReadOption (chosen : Chosen) (option : OptionName) (key value : Word) (setting : Setting) : Type 0 where
  pub named : option_text option ≡ key
  pub free : is_chosen option chosen ≡ false
  pub only : (p : OptionName) → option_text p ≡ key → Some option ≡ Some p
  pub of : option_of setting ≡ option
  pub is : IsValue value setting
  pub one : (other : Setting) → option_of other ≡ option → IsValue value other → Some setting ≡ Some other

module _ (chosen : Chosen) (option : OptionName) (key value : Word) (setting : Setting) (read : ReadOption chosen option key value setting) where
  pub found_behind : (more : List Word) (options : Options) → ChoosesFrom (with_setting setting chosen) more options → ChoosesFrom chosen (key ∷ value ∷ more) options
  found_behind more options after = chooses_more chosen option key read.named read.free read.only value setting read.of read.is read.one more options after

  pub wanted_behind : (more : List Word) (options : Options) → ChoosesFrom chosen (key ∷ value ∷ more) options → ChoosesFrom (with_setting setting chosen) more options
  wanted_behind more options chooses = chooses_rest chosen option key read.named read.free read.only value setting read.of read.is read.one more options chooses

  pub fault_behind : (more : List Word) (index : ℕ) → IsFirstFault (AreOptionsFrom (with_setting setting chosen)) more index → IsFirstFault (AreOptionsFrom chosen) (key ∷ value ∷ more) (index + 2)
  fault_behind more index fault = fault_further chosen option key read.named read.free read.only value setting read.of read.is read.one more index fault

  pub fewer_behind : (index : ℕ) → index ≤ 2 * open_count (with_setting setting chosen) → index + 2 ≤ 2 * open_count chosen
  fewer_behind index near = omega (arith, near, open_fewer setting chosen (ap (λ p. is_chosen p chosen) read.of ∙ read.free))
