use Rattle.std.proofs.Common.{arith}
use Rattle.std.proofs.lemmas.Grind.{common_steps}
use Rattle.vale_typed_parts.proofs.names.+declare_each.Goals as goal

pub returns-in_ok-declare_each-in-len1-up-types : goal.returns-in_ok-declare_each-in-len1-up-types
returns-in_ok-declare_each-in-len1-up-types t c = λ gives outer.
    let first = c.in_ok-push_local-in-len1-up-types.ensures gives outer in
    let more = c.in_ok-declare_each-in-len1-up-types.ensures gives outer in
    grind (arith, common_steps, first, more)
