use Rattle.std.proofs.Common.{◌≡◌, ◌∙◌, ap, sym, length, rules}
use Rattle.vale_rules_spec.specs.Types.{kind}
use Rattle.vale_lower_kinds.specs.Added.{kind_types}
use Rattle.vale_lower_kinds.specs.Names.{names_of, name_place}
use Rattle.vale_lower_kinds.proofs.NameLaws.{numbered_next, new_name}
use Rattle.vale_lower_kinds.proofs.named.put_name.Goals as goal

pub returns-clause-numbered : goal.returns-clause-numbered
returns-clause-numbered c = λ n.
    let counted : c.len-at.result ≡ length c.args.all.now.items = search rules in
    numbered_next c.args.all.now.items c.args.name c.args.places.now c.add.new.self c.len-at.result counted c.requires.numbered c.requires.new c.in_ok-add.ensures n
    ∙ ap (λ xs. name_place 0 n (names_of xs)) (sym c.in_ok-push.ensures.items)

pub returns-clause-names : goal.returns-clause-names
returns-clause-names c = ap (λ xs. kind_types (names_of xs)) c.in_ok-push.ensures.items ∙ new_name c.args.all.now.items c.args.name c.args.places.now c.requires.numbered c.requires.new
