use Rattle.std.proofs.Common.{◌+◌, ◌||◌, map, drop, sym, ap, ◌∙◌}
use Rattle.vale_syntax.specs.View.{view_field}
use Rattle.vale_names.specs.declared.mentions.Mentions.{Mentions}
use Rattle.vale_names.specs.Isos.{is_edge, field_edges}
use Rattle.vale_names.specs.Mentions.{mentions}
use Rattle.vale_names.proofs.EdgeLaws.{field_on, field_past}
use Rattle.vale_names.proofs.mentions.Mentions.add_fields.Goals.{in-Some+in_ok-add, in_default}
use Rattle.vale_names.proofs.mentions.Mentions.add_fields.Goals as goal

pub loop-field-preserved : goal.loop-field-preserved
loop-field-preserved c = λ m n.
    let source = c.args.source in
    let fields = c.args.fields.now in
    let k = c.loop-field.field-index in
    let x = c.field-item.result in
    let now = mentions c.loop-field.self m n in
    let new = mentions c.match-base_of.self m n in
    let all = mentions c.args.self.now m n || is_edge (field_edges source (map view_field fields)) m n in
    elim c.match-base_of.branch [
      | in-Some+in_ok-add w ↦ field_on source w.in-Some.target fields k x m n now new all c.loop-field-test.true c.field-item.is (sym c.base_of.ensures ∙ w.in-Some.is)
          (ap (λ (s : Mentions). mentions s m n) w.self-is ∙ w.in_ok-add.ensures m n) (c.loop-field.invariant m n)
      | in_default w ↦ ap (λ (s : Mentions). mentions s m n || is_edge (field_edges source (map view_field (drop (k + 1) fields))) m n) w.self-is ∙ field_past source fields k x m n now all c.loop-field-test.true c.field-item.is (sym c.base_of.ensures ∙ w.in_default.is) (c.loop-field.invariant m n)
    ]
