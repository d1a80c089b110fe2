use Rattle.std.proofs.Common.{◌≡◌, ℕ, map, sym, ap, ◌∙◌, arith}
use Rattle.std.specs.Prelude.{List, length}
use Rattle.vale_syntax.specs.View.{view_item}
use Rattle.vale_rules_spec.specs.Declarations.{leads, iso_holders}
use Rattle.vale_names.specs.Names.{has}
use Rattle.vale_names.specs.Isos.{is_in, sources_of}
use Rattle.vale_names.proofs.EdgeLaws.{from_source}
use Rattle.vale_names.proofs.SpreadLaws.{IsTaken, begins_with, goes_on, less_work, ends, finds_same}
use Rattle.vale_names.proofs.reach.least_closed.Goals as goal

pub loop-name-init : goal.loop-name-init
loop-name-init c =
    let items = map view_item c.args.items.now in
    begins_with (leads items) (iso_holders items) c.in_ok-spread.spread c.in_ok-spread.ensures.found c.in_ok-spread.ensures.todo

pub loop-name-preserved : goal.loop-name-preserved
loop-name-preserved c =
    let items = map view_item c.args.items.now in
    let name = c.in-Some.name in
    let taken : IsTaken name c.loop-name.spread c.next.new.self = record { found = c.in-Some.ensures.found; todo = c.in-Some.ensures.todo } in
    goes_on (leads items) (iso_holders items) c.of.result.now name c.loop-name.spread c.next.new.self c.add_all.new.self c.loop-name.invariant taken
    (λ m. ap (λ (xs : List ℕ). is_in xs m) c.of.ensures ∙ c.in_ok-mentions.ensures m name) c.in_ok-add_all.ensures

pub loop-name-smaller : goal.loop-name-smaller
loop-name-smaller c =
    let items = map view_item c.args.items.now in
    let name = c.in-Some.name in
    let taken : IsTaken name c.loop-name.spread c.next.new.self = record { found = c.in-Some.ensures.found; todo = c.in-Some.ensures.todo } in
    less_work c.of.result.now (sources_of items) name c.loop-name.spread c.next.new.self c.add_all.new.self taken
    (λ m e. from_source items m name (sym (ap (λ (xs : List ℕ). is_in xs m) c.of.ensures ∙ c.in_ok-mentions.ensures m name) ∙ e)) c.in_ok-add_all.ensures

pub returns : goal.returns
returns c =
    let items = map view_item c.args.items.now in
    let none : length c.loop-name.spread.todo.items ≡ 0 = omega (arith, c.loop-name.spread.todo.ok.0, c.in_default.ensures.none) in
    ends (leads items) (iso_holders items) c.loop-name.spread (has c.into_names.result) c.loop-name.invariant none
    (λ n. c.into_names.ensures n ∙ finds_same c.loop-name.spread c.next.new.self n c.in_default.ensures.found)
