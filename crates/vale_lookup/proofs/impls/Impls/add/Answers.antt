use Rattle.std.proofs.Common.{◌≡◌, refl, Bool, true, false, cond, ◌∙◌}
use Rattle.std.specs.Prelude.{◌||◌, ◌&&◌, ◌==◌}
use Rattle.vale_lookup.specs.Index.{has_impl}
use Rattle.vale_lookup.proofs.impls.Impls.add.Goals as goal

as_or : (a b : Bool) → cond a true b ≡ (a || b)
as_or true b = refl
as_or false b = refl

pub returns : goal.returns
returns c = λ i s. c.in_ok-insert.ensures.updates.0 (i, s) ∙ as_or (c.args.interface.0 == i && c.args.of.0 == s) (has_impl c.args.self.now i s)
