use Rattle.std.proofs.Common.{sym, ap, ◌∙◌, refl}
use Rattle.std.specs.Prelude.{map}
use Rattle.std.proofs.lemmas.Bool.{false≢true}
use Rattle.vale_core.specs.View.{view_core}
use Rattle.vale_front.specs.Front.{ill_declared, ill_typed, ill_owned, ill_framed, ill_isolated, not_served}
use Rattle.vale_front.proofs.InterfaceLaws.{plain_without}
use Rattle.vale_served_spec.specs.Served.{is_served}
use Rattle.vale_syntax.specs.View.{view_item, view_tree}
use Rattle.vale_front.proofs.judging.judge.Goals as goal

pub declare-requires : goal.declare-requires
declare-requires c =
    plain_without (map view_item c.args.tree.items) (sym c.has_interfaces.ensures ∙ c.if-has_interfaces.false)

pub type_all-requires-clause-plain : goal.type_all-requires-clause-plain
type_all-requires-clause-plain c =
    plain_without (map view_item c.args.tree.items) (sym c.has_interfaces.ensures ∙ c.if-has_interfaces.false)

pub returns-in-Err-Is-clause-refused : goal.returns-in-Err-Is-clause-refused
returns-in-Err-Is-clause-refused c =
    let judged = sym c.has_interfaces.ensures ∙ c.if-has_interfaces.false in
    let why = rw c.in-Err-Is.field-0-is at c.in-Err-Is.ensures.fault in
    ill_declared judged c.in-Err-Is.fault why
    (rw c.in-Err-Is.field-0-is at c.of.ensures.code) (rw c.in-Err-Is.field-0-is at c.of.ensures.at)

pub returns-in-Err-Is-type_all-clause-refused : goal.returns-in-Err-Is-type_all-clause-refused
returns-in-Err-Is-type_all-clause-refused c =
    let judged = sym c.has_interfaces.ensures ∙ c.if-has_interfaces.false in
    let why = rw c.in-Err-Is-type_all.field-0-is at c.in-Err-Is-type_all.ensures.fault in
    ill_typed judged c.in-Ok.decls c.in-Ok.ensures.declared c.in-Err-Is-type_all.fault why
    (rw c.in-Err-Is-type_all.field-0-is at c.of-in-Err-Is-type_all.ensures.code) (rw c.in-Err-Is-type_all.field-0-is at c.of-in-Err-Is-type_all.ensures.at)

pub returns-in-Err-Is-own-clause-refused : goal.returns-in-Err-Is-own-clause-refused
returns-in-Err-Is-own-clause-refused c =
    let judged = sym c.has_interfaces.ensures ∙ c.if-has_interfaces.false in
    let why = rw c.in-Err-Is-own.field-0-is at c.in-Err-Is-own.ensures.fault in
    ill_owned judged c.in-Ok.decls (view_core c.in-Ok-type_all.core) c.in-Ok.ensures.declared c.in-Ok-type_all.ensures.typed c.in-Err-Is-own.fault why
    (rw c.in-Err-Is-own.field-0-is at c.of-in-Err-Is-own.ensures.code) (rw c.in-Err-Is-own.field-0-is at c.of-in-Err-Is-own.ensures.at)

pub returns-in-Err-Is-regions-clause-refused : goal.returns-in-Err-Is-regions-clause-refused
returns-in-Err-Is-regions-clause-refused c =
    let judged = sym c.has_interfaces.ensures ∙ c.if-has_interfaces.false in
    let owns = rw c.in-Ok-own.ensures.same at c.in-Ok-own.ensures.owned in
    let why = rw c.in-Ok-own.ensures.same at (rw c.in-Err-Is-regions.field-0-is at c.in-Err-Is-regions.ensures.fault) in
    ill_framed judged c.in-Ok.decls (view_core c.in-Ok-type_all.core) c.in-Ok.ensures.declared c.in-Ok-type_all.ensures.typed owns c.in-Err-Is-regions.fault why
    c.of-in-Err-Is-regions.ensures.code c.of-in-Err-Is-regions.ensures.at

pub returns-in-Err-clause-refused : goal.returns-in-Err-clause-refused
returns-in-Err-clause-refused c =
    let judged = sym c.has_interfaces.ensures ∙ c.if-has_interfaces.false in
    let owns = rw c.in-Ok-own.ensures.same at c.in-Ok-own.ensures.owned in
    let frames = rw c.in-Ok-own.ensures.same at c.in-Ok-regions.ensures.framed in
    let why = rw c.in-Ok-own.ensures.same at c.in-Err.ensures.fault in
    ill_isolated judged c.in-Ok.decls (view_core c.in-Ok-type_all.core) c.in-Ok.ensures.declared c.in-Ok-type_all.ensures.typed owns frames c.in-Err.fault why
    c.of-in-Err.ensures.code c.of-in-Err.ensures.at

pub returns-then-not-is_served-clause-refused : goal.returns-then-not-is_served-clause-refused
returns-then-not-is_served-clause-refused c =
    let judged = sym c.has_interfaces.ensures ∙ c.if-has_interfaces.false in
    let owns = rw c.in-Ok-own.ensures.same at c.in-Ok-own.ensures.owned in
    let frames = rw c.in-Ok-own.ensures.same at c.in-Ok-regions.ensures.framed in
    let alone = rw c.in-Ok-own.ensures.same at c.in-Ok-isolates.ensures.isolated in
    let unserved = rw c.in-Ok-own.ensures.same at (sym c.is_served.ensures ∙ c.if-not-is_served.true) in
    not_served judged c.in-Ok.decls (view_core c.in-Ok-type_all.core) c.in-Ok.ensures.declared c.in-Ok-type_all.ensures.typed owns frames alone unserved refl refl

pub returns-then-not-is_served-clause-complete : goal.returns-then-not-is_served-clause-complete
returns-then-not-is_served-clause-complete c = λ decls program s.
    let unserved = rw c.in-Ok-own.ensures.same at (sym c.is_served.ensures ∙ c.if-not-is_served.true) in
    absurd (false≢true (sym unserved ∙ ap is_served (c.in-Ok-type_all.ensures.all_typed program s.types) ∙ s.served))

pub invariant_of-result : goal.invariant_of-result
invariant_of-result c =
    record {
      is_sound = ∣ (
        c.requires.0,
        view_tree c.args.tree,
        c.in-Ok.decls,
        c.requires.1,
        record {
          reads = c.requires.2;
          declares = c.in-Ok.ensures.declared;
          types = rw c.in-Ok-own.ensures.same c.in-Ok-type_all.ensures.typed;
          owns = rw c.in-Ok-own.ensures.same (rw c.in-Ok-own.ensures.same at c.in-Ok-own.ensures.owned);
        },
      ) ∣₁;
    }
