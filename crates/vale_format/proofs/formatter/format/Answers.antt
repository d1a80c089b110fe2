use Rattle.vale_format.proofs.Fixed.{formatted_fixed}
use Rattle.vale_format.proofs.NamedTrees.{spelled_named}
use Rattle.vale_format.proofs.Round.{read_back}
use Rattle.vale_format.proofs.formatter.format.Goals as goal

pub returns-in_err-tree-clause-read_back : goal.returns-in_err-tree-clause-read_back
returns-in_err-tree-clause-read_back c source t = read_back source c.args.tokens.now t

pub returns-in_err-tree-clause-fixed : goal.returns-in_err-tree-clause-fixed
returns-in_err-tree-clause-fixed c = formatted_fixed

pub returns-in_err-tree-clause-named : goal.returns-in_err-tree-clause-named
returns-in_err-tree-clause-named c t = spelled_named t c.args.tokens.now.list

pub returns-in_err-text-clause-read_back : goal.returns-in_err-text-clause-read_back
returns-in_err-text-clause-read_back c source t = read_back source c.args.tokens.now t

pub returns-in_err-text-clause-fixed : goal.returns-in_err-text-clause-fixed
returns-in_err-text-clause-fixed c = formatted_fixed

pub returns-in_err-text-clause-named : goal.returns-in_err-text-clause-named
returns-in_err-text-clause-named c t = spelled_named t c.args.tokens.now.list

pub returns-clause-read_back : goal.returns-clause-read_back
returns-clause-read_back c source t = read_back source c.args.tokens.now t

pub returns-clause-fixed : goal.returns-clause-fixed
returns-clause-fixed c = formatted_fixed

pub returns-clause-named : goal.returns-clause-named
returns-clause-named c t = spelled_named t c.args.tokens.now.list
