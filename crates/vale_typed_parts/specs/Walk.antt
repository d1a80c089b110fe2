-- What the walk answers, and where it stands.
use Rattle.std.specs.Prelude.{ℕ, List, Option, None, map, option_map}
use Rattle.vale_core.specs.declared.tree.Block.{Block}
use Rattle.vale_core.specs.declared.tree.ElseIf.{ElseIf}
use Rattle.vale_core.specs.declared.tree.Expr.{Expr}
use Rattle.vale_core.specs.declared.tree.Link.{Link}
use Rattle.vale_core.specs.declared.tree.Step.{Step}
use Rattle.vale_core.specs.View.{exprs_of, links_of, steps_of, elses_of, else_end, last_end, view_expr, view_link, view_step, view_else_if, view_block}
use Rattle.vale_rules_spec.specs.Types.{Ty, Local}
use Rattle.vale_rules_spec.specs.Typed as t
use Rattle.vale_rules_spec.specs.Typing.{Env}

abbrev pub env_at : Ty → ℕ → List Local → Env
env_at gives depth scope = record { gives = gives; depth = depth; scope = scope }

abbrev pub view_exprs : List Expr → t.Exprs
view_exprs es = exprs_of (map view_expr es)

abbrev pub view_links : List Link → t.Links
view_links ls = links_of (map view_link ls)

abbrev pub view_steps : List Step → t.Steps
view_steps ss = steps_of (map view_step ss)

abbrev pub view_elses : List ElseIf → t.Elses
view_elses es = elses_of (map view_else_if es) None

abbrev pub view_else : Option Block → t.Elses
view_else b = else_end (option_map view_block b)

abbrev pub view_last : Option Expr → t.Stmts
view_last e = last_end (option_map view_expr e)
