-- The blocks that are live in a run, those that ever were, and the block that a word belongs to.
use Rattle.std.specs.Prelude.{ℕ, List, [], ◌∷◌, ◌++◌, Option, Some, None, if◌then◌else◌}
use Rattle.bb_watch.specs.declared.event.Event.{Event}
use Rattle.bb_watch.specs.declared.event.Event.TheVariants.{Made, Ended}
use Rattle.marked_ptr.specs.Marked.{owner_slot}
use Rattle.size_table.specs.Blocks.{Block, block_at, holds, without}

-- the live blocks after an event, by those before it
abbrev pub live_after : Event → List Block → List Block
live_after (Made at exponent) live = live ++ block_at at exponent ∷ []
live_after (Ended at exponent) live = without at live
live_after event live = live

-- the blocks that were live at some time
abbrev pub ever_after : Event → List Block → List Block
ever_after (Made at exponent) ever = ever ++ block_at at exponent ∷ []
ever_after event ever = ever

-- after many events
abbrev pub live_of : List Block → List Event → List Block
live_of live [] = live
live_of live (event ∷ events) = live_of (live_after event live) events

abbrev pub ever_of : List Block → List Event → List Block
ever_of ever [] = ever
ever_of ever (event ∷ events) = ever_of (ever_after event ever) events

-- the first of the blocks that holds the slot of 2 ^ g bytes
abbrev pub holder : ℕ → ℕ → List Block → Option Block
holder g slot [] = None
holder g slot (b ∷ bs) = if holds g b slot then Some b else holder g slot bs

abbrev pub holder_if : ℕ → Option ℕ → List Block → Option Block
holder_if g None blocks = None
holder_if g (Some slot) blocks = holder g slot blocks

-- the block that a word belongs to: the one that holds its owner slot
abbrev pub owner : (g word : ℕ) → List Block → Option Block
owner g word blocks = holder_if g (owner_slot g word) blocks
