-- Which of what flat code tells is safe, by the blocks that live when it is told: bounds of moves and of accesses. These
-- are the clauses on a machine's events, of what both tell.
use Rattle.std.specs.Prelude.{◌≡◌, ◌⊎◌, ℕ, ◌/◌, ◌^◌, List, [], ◌∷◌, ◌++◌, Some}
use Rattle.bb_watch.specs.Live.{owner}
use Rattle.bb_watch.specs.Safety.{IsInside, IsNear, LieIn, WasFreed}
use Rattle.size_table.specs.Blocks.{Block, block_at, without}
use Rattle.flat_code.specs.Told.{Tell}

-- the blocks that live after something was told, by those before
abbrev pub live_after : Tell → List Block → List Block
live_after (Tell.Output byte) live = live
live_after (Tell.Line line) live = live
live_after (Tell.Move from to) live = live
live_after (Tell.Access at size write) live = live
live_after (Tell.Made at exponent) live = live ++ block_at at exponent ∷ []
live_after (Tell.Ended at exponent) live = without at live

-- the blocks that lived at some time
abbrev pub ever_after : Tell → List Block → List Block
ever_after (Tell.Output byte) ever = ever
ever_after (Tell.Line line) ever = ever
ever_after (Tell.Move from to) ever = ever
ever_after (Tell.Access at size write) ever = ever
ever_after (Tell.Made at exponent) ever = ever ++ block_at at exponent ∷ []
ever_after (Tell.Ended at exponent) ever = ever

abbrev pub live_of : List Block → List Tell → List Block
live_of live [] = live
live_of live (t ∷ ts) = live_of (live_after t live) ts

abbrev pub ever_of : List Block → List Tell → List Block
ever_of ever [] = ever
ever_of ever (t ∷ ts) = ever_of (ever_after t ever) ts

-- A move leads into the live block that owns the pointer, or less than half a slot outside; an access lies in a live
-- block, or its pointer's block has ended.
abbrev pub IsSafe : (g : ℕ) → (live ever : List Block) → Tell → Type 0
IsSafe g live ever (Tell.Output byte) = Unit {0}
IsSafe g live ever (Tell.Line line) = Unit {0}
IsSafe g live ever (Tell.Move from to) = (b : Block) × (owner g from live ≡ Some b) × (IsInside b to ⊎ IsNear g b to)
IsSafe g live ever (Tell.Access at size write) = LieIn at size live ⊎ WasFreed g live ever (at / 2 ^ g)
IsSafe g live ever (Tell.Made at exponent) = Unit {0}
IsSafe g live ever (Tell.Ended at exponent) = Unit {0}

-- all that is told is safe, each with the blocks of its moment
abbrev pub AllSafe : (g : ℕ) → (live ever : List Block) → List Tell → Type 0
AllSafe g live ever [] = Unit {0}
AllSafe g live ever (t ∷ ts) = IsSafe g live ever t × AllSafe g (live_after t live) (ever_after t ever) ts
