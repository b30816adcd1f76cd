use Rattle.std.proofs.Common.{◌≡◌, ◌+◌, ◌≤◌, drop, map}
use Rattle.std.specs.Prelude.{min}
use Rattle.size_table.specs.declared.memory_map.TheConstants.{SLOT_EXPONENT}
use Rattle.block_layout.specs.Layout.{total_of}
use Rattle.block_layout.specs.Views.{item_of}
use Rattle.block_layout.proofs.object.total_of.Given as goal

abbrev pub invariant-loop-object : goal.invariant-loop-object
invariant-loop-object l =
    (min (l.total + total_of SLOT_EXPONENT (map item_of (drop l.object-index l.objects))) 18446744073709551615 ≡ min (total_of SLOT_EXPONENT (map item_of l.objects)) 18446744073709551615)
    × (l.total ≤ 18446744073709551615)
