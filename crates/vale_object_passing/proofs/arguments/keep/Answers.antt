use Rattle.std.proofs.Common.{refl}
use Rattle.std.proofs.lemmas.Result.{on_ok_weaker}
use Rattle.vale_registers.specs.Passing.{from_base}
use Rattle.vale_registers.specs.Texts.{text_at}
use Rattle.vale_object_cells.specs.declared.register.Shape.TheVariants as shape
use Rattle.vale_object_cells.proofs.Holding.{cell_within}
use Rattle.vale_object_passing.proofs.Keeping.{moved_given, text_given}
use Rattle.vale_object_passing.proofs.arguments.keep.Goals as goal

pub slice_copy_out-held : goal.slice_copy_out-held
slice_copy_out-held c = cell_within c.args.frame.now c.args.from c.requires.there

pub returns-in-Own : goal.returns-in-Own
returns-in-Own c =
    moved_given c.args.frame.now c.args.from _ c.args.base c.args.target c.args.texts.now (cell_within c.args.frame.now c.args.from c.requires.there) shape.Own c.empty.new.registers c.in-Own.is (λ x y. refl)
    (λ x. c.empty.ensures (from_base c.args.base (text_at c.args.texts.now)))

pub returns-in-Iso : goal.returns-in-Iso
returns-in-Iso c =
    moved_given c.args.frame.now c.args.from _ c.args.base c.args.target c.args.texts.now (cell_within c.args.frame.now c.args.from c.requires.there) shape.Iso c.empty-in-Iso.new.registers c.in-Iso.is (λ x y. refl)
    (λ x. c.empty-in-Iso.ensures (from_base c.args.base (text_at c.args.texts.now)))

pub returns-in-Text : goal.returns-in-Text
returns-in-Text c =
    on_ok_weaker c.share.result
    (text_given c.args.frame.now c.args.from _ c.args.base c.args.target c.args.texts.now (cell_within c.args.frame.now c.args.from c.requires.there) c.share.new.self c.in-Text.is c.requires.above)
    c.share.ensures

pub returns-in-Int : goal.returns-in-Int
returns-in-Int c =
    moved_given c.args.frame.now c.args.from _ c.args.base c.args.target c.args.texts.now (cell_within c.args.frame.now c.args.from c.requires.there) shape.Int c.args.frame.now c.in-Int.is (λ x y. refl) (λ x. refl)

pub returns-in-Truth : goal.returns-in-Truth
returns-in-Truth c =
    moved_given c.args.frame.now c.args.from _ c.args.base c.args.target c.args.texts.now (cell_within c.args.frame.now c.args.from c.requires.there) shape.Truth c.args.frame.now c.in-Truth.is (λ x y. refl) (λ x. refl)

pub returns-in-Ref : goal.returns-in-Ref
returns-in-Ref c =
    moved_given c.args.frame.now c.args.from _ c.args.base c.args.target c.args.texts.now (cell_within c.args.frame.now c.args.from c.requires.there) shape.Ref c.args.frame.now c.in-Ref.is (λ x y. refl) (λ x. refl)

pub returns-in-Empty : goal.returns-in-Empty
returns-in-Empty c =
    moved_given c.args.frame.now c.args.from _ c.args.base c.args.target c.args.texts.now (cell_within c.args.frame.now c.args.from c.requires.there) shape.Empty c.args.frame.now c.in-Empty.is (λ x y. refl) (λ x. refl)
