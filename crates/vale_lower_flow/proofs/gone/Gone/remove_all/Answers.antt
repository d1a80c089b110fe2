use Rattle.std.proofs.Common.{rules}
use Rattle.std.proofs.lemmas.Fn.{filter_same}
use Rattle.vale_lower_flow.specs.Entries.{gone_of}
use Rattle.vale_lower_flow.proofs.ScopeLaws.{other_than, removed}
use Rattle.vale_lower_flow.proofs.gone.Gone.remove_all.Goals as goal

pub returns : goal.returns
unfolding gone_of
returns c = removed c.args.register c.args.self.now.registers.items c.retain.new.self.items (filter_same _ (other_than c.args.register) _ (λ x b f' k. search rules) _ _ c.retain.ensures.filtered)
