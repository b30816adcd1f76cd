use Rattle.std.proofs.Common.{◌≡◌, ◌++◌, drop, map}
use Rattle.size_table.specs.declared.memory_map.TheConstants.{SLOT_EXPONENT}
use Rattle.block_layout.specs.Layout.{padded_to}
use Rattle.block_layout.specs.Views.{item_of}
use Rattle.block_layout.proofs.object.put_class.Given as goal

abbrev pub invariant-loop-object : goal.invariant-loop-object
invariant-loop-object l =
    map item_of l.ordered.items ++ padded_to SLOT_EXPONENT l.class (map item_of (drop l.object-index l.objects))
    ≡ map item_of l.initial.ordered.items ++ padded_to SLOT_EXPONENT l.class (map item_of l.objects)
