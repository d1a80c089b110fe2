-- How long the lists of facts may be.
use Rattle.std.specs.Prelude.{List, length, Bool, ◌&&◌}
use Rattle.std.specs.List.{list_all}
use Rattle.vale_code.specs.Sizes.{is_few}
use Rattle.vale_cert.specs.declared.facts.FuncFacts.{FuncFacts}
use Rattle.vale_cert.specs.declared.facts.Label.{Label}

abbrev pub label_is_small : Label → Bool
label_is_small label = is_few (length label.regs)

abbrev pub facts_are_small : FuncFacts → Bool
facts_are_small f = is_few (length f.live) && is_few (length f.labels) && list_all label_is_small f.labels

-- each list has fewer parts than the limit
abbrev pub is_small : List FuncFacts → Bool
is_small funcs = is_few (length funcs) && list_all facts_are_small funcs
