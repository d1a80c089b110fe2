use Rattle.std.proofs.Common.{◌+◌, length, rules}
use Rattle.vale_syntax.specs.declared.token.Sign.TheVariants as s
use Rattle.vale_syntax.specs.View.{view_head}
use Rattle.vale_reading.specs.Steps.{begins}
use Rattle.vale_reading.specs.ItemReading.{until, all_until, signature_at}
use Rattle.vale_reading.proofs.TurnLaws.{calls_give_list}
use Rattle.vale_blocks.proofs.Starts.{alone_start}
use Rattle.vale_parser.proofs.items.signatures.Goals as goal

pub returns : goal.returns
unfolding all_until
returns c = calls_give_list view_head (λ e. e) (until (begins s.CloseBrace) (signature_at c.args.parser.now.names.now c.args.depth)) _ _ (λ ts t p. search rules) (length c.args.tokens.now + 1) c.args.tokens.now c.several.result (alone_start _ (length c.args.tokens.now + 1) c.new-none.result c.args.tokens.now c.new-none.ensures c.several.result c.several.ensures)
