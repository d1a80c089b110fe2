use Rattle.std.proofs.Common.{◌≡◌, map}
use Rattle.vale_file_reader.proofs.funcs.split_facts.Given as goal

abbrev pub invariant-loop-func : goal.invariant-loop-func
invariant-loop-func l = record { funcs : l.funcs.items ≡ map (λ f. f.0) l.yielded; facts : l.facts.items ≡ map (λ f. f.1) l.yielded }
