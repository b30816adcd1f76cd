use Rattle.std.proofs.Common.{◌≡◌, ◌+◌, ◌++◌, drop, map}
use Rattle.size_table.specs.declared.memory_map.TheConstants.{SLOT_EXPONENT}
use Rattle.block_layout.specs.Layout.{placed_from, total_of}
use Rattle.block_layout.specs.Views.{item_of, placed_of}
use Rattle.block_layout.proofs.object.placed.Given as goal

abbrev pub invariant-loop-object : goal.invariant-loop-object
invariant-loop-object l =
    (map placed_of l.spots.items ++ placed_from SLOT_EXPONENT l.at (map item_of (drop l.object-index l.objects)) ≡ placed_from SLOT_EXPONENT l.start (map item_of l.objects))
    × (l.at + total_of SLOT_EXPONENT (map item_of (drop l.object-index l.objects)) ≡ l.start + total_of SLOT_EXPONENT (map item_of l.objects))
