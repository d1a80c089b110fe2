use Rattle.vale_printer.proofs.ItemLaws.{struct_adds, interface_adds, impl_adds}
use Rattle.vale_printer.proofs.items.item.Goals as goal

pub returns-in_ok-all_fields-in-Struct : goal.returns-in_ok-all_fields-in-Struct
returns-in_ok-all_fields-in-Struct c =
    struct_adds c.args.names.now c.args.x.now c.in-Struct.name _ _ c.args.text.now.items c.close_block.result _ _ _ _ _ c.in-Struct.is c.as_slice.ensures
    c.in_ok-word_gap-in-Struct.ensures c.in_ok-named-in-Struct.ensures c.in_ok-open_members-in-Struct.ensures c.in_ok-all_fields-in-Struct.ensures
    c.close_block.ensures

pub returns-in_ok-all_heads-in-Interface : goal.returns-in_ok-all_heads-in-Interface
returns-in_ok-all_heads-in-Interface c =
    interface_adds c.args.names.now c.args.x.now c.in-Interface.name _ _ c.args.text.now.items c.close_block-in-Interface.result _ _ _ _ _ c.in-Interface.is c.as_slice-in-Interface.ensures
    c.in_ok-word_gap-in-Interface.ensures c.in_ok-named-in-Interface.ensures c.in_ok-open_members-in-Interface.ensures c.in_ok-all_heads-in-Interface.ensures
    c.close_block-in-Interface.ensures

pub returns-in_ok-all_methods-in-Impl : goal.returns-in_ok-all_methods-in-Impl
returns-in_ok-all_methods-in-Impl c =
    impl_adds c.args.names.now c.args.x.now _ c.in-Impl.interface c.in-Impl.of _ _ c.args.text.now.items c.close_block-in-Impl.result _ _ _ _ _ _ _ _ c.in-Impl.is c.as_slice-in-Impl.ensures
    c.in_ok-word_gap-in-Impl.ensures c.in_ok-named-in-Impl.ensures c.in_ok-gap-in-Impl.ensures c.in_ok-word_gap-in-Impl-2.ensures c.in_ok-named-in-Impl-2.ensures
    c.in_ok-open_members-in-Impl.ensures c.in_ok-all_methods-in-Impl.ensures c.close_block-in-Impl.ensures
