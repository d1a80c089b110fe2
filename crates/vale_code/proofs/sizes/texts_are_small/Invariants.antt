use Rattle.std.proofs.Common.{◌≡◌, drop}
use Rattle.std.specs.List.{list_all}
use Rattle.vale_code.specs.Sizes.{text_is_small}
use Rattle.vale_code.proofs.sizes.texts_are_small.Given as goal

-- what is left decides
abbrev pub invariant-loop-text : goal.invariant-loop-text
invariant-loop-text l = list_all text_is_small (drop l.text-index l.texts) ≡ list_all text_is_small l.texts
