use Rattle.std.proofs.Common.{◌≡◌, ◌++◌, ◌-◌, map}
use Rattle.size_table.specs.declared.memory_map.TheConstants.{SLOT_EXPONENT}
use Rattle.block_layout.specs.Layout.{declining}
use Rattle.block_layout.specs.Views.{item_of}
use Rattle.block_layout.proofs.object.declining.Given as goal

abbrev pub invariant-loop-above : goal.invariant-loop-above
invariant-loop-above l =
    map item_of l.ordered.items ++ declining SLOT_EXPONENT (21 - l.above) (map item_of l.objects) ≡ declining SLOT_EXPONENT 21 (map item_of l.objects)
