use Rattle.std.proofs.lemmas.Result.{IfOk-weaker}
use Rattle.vale_heap.specs.declared.body.Cell.TheVariants.{Iso, Own}
use Rattle.vale_object_drops.specs.Destroying.{Destroys}
use Rattle.vale_object_drops.proofs.Merging.{can_destroy, destroys_merged, keeps_then, no_root_then}
use Rattle.vale_object_drops.proofs.begin.destroy_isolate.Goals as goal

pub destroy_owner-requires-clause-no_root : goal.destroy_owner-requires-clause-no_root
destroy_owner-requires-clause-no_root c = no_root_then c.args.heap.now c.merge.new.self c.args.place c.merge.ensures.after c.requires.root

pub destroy_owner-requires-clause-right : goal.destroy_owner-requires-clause-right
destroy_owner-requires-clause-right c =
    can_destroy c.args.heap.now c.merge.new.self c.args.place c.merge.ensures.after c.merge.ensures.stands c.args.code.now c.args.depth c.args.control.now c.args.left.now c.args.at c.requires.right

pub returns-clause-step : goal.returns-clause-step
returns-clause-step c =
    let a = c.args in
    IfOk-weaker c.destroy_owner.result (λ told. Destroys a.code.now a.depth c.merge.new.self a.control.now a.left.now (Own a.place) a.at told c.destroy_owner.new.heap c.destroy_owner.new.control c.destroy_owner.new.left)
    (λ told. Destroys a.code.now a.depth a.heap.now a.control.now a.left.now (Iso a.place) a.at told c.destroy_owner.new.heap c.destroy_owner.new.control c.destroy_owner.new.left)
    (λ told d. destroys_merged a.heap.now c.merge.new.self a.place c.merge.ensures.after c.merge.ensures.stands a.code.now a.depth a.control.now a.left.now a.at told c.destroy_owner.new.heap c.destroy_owner.new.control c.destroy_owner.new.left d) c.destroy_owner.ensures.step

pub returns-clause-keeps : goal.returns-clause-keeps
returns-clause-keeps c = keeps_then c.args.heap.now c.merge.new.self c.destroy_owner.new.heap c.merge.ensures.keeps c.destroy_owner.ensures.keeps
