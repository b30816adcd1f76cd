use Rattle.std.proofs.Common.{◌≡◌, ◌++◌, drop, map}
use Rattle.typed_tree.specs.TypedViews.{local_of}
use Rattle.block_layout.specs.Objects.{block_items_from}
use Rattle.block_layout.specs.Views.{item_of}
use Rattle.block_layout.proofs.frame.objects.Given as goal

abbrev pub invariant-loop-i : goal.invariant-loop-i
invariant-loop-i l = map item_of l.objects.items ++ block_items_from l.i (map local_of (drop l.i l.locals)) ≡ block_items_from 0 (map local_of l.locals)
