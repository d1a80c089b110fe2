use Rattle.std.proofs.Common.{◌≡◌, map, drop}
use Rattle.vale_core.specs.View.{view_link, links_of}
use Rattle.vale_model.specs.Expressions.{links_spot}
use Rattle.vale_lower_stmts.proofs.spots.spot_of_links.Given as goal

abbrev pub invariant-loop-link : goal.invariant-loop-link
invariant-loop-link l = links_spot l.last (links_of (map view_link (drop l.link-index l.slice))) ≡ links_spot l.fn.at (links_of (map view_link l.slice))
