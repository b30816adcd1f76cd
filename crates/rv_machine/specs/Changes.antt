-- Which bytes of the memory a run changes, by what it tells.
use Rattle.std.specs.Prelude.{◌≢◌, ◌⊎◌, ℕ, ◌+◌, ◌<◌, ◌≤◌, true, List, [], ◌∷◌}
use Rattle.bb_watch.specs.declared.event.Event.{Event}
use Rattle.bb_watch.specs.declared.event.Event.TheVariants.{Access, Made, Ended}
use Rattle.size_table.specs.declared.memory_map.TheConstants.{TABLE_START, TABLE_END, GLOBALS_START}
use Rattle.size_table.specs.Made.{first_entry, entries}
use Rattle.size_table.specs.Blocks.{Block, block_at, end_of}

-- the address is that of a byte of the block
abbrev pub IsOfBlock : Block → ℕ → Type 0
IsOfBlock b at = (b.base ≤ at) × (at < end_of b)

-- the address is that of the size table's byte for a slot of the block
abbrev pub IsOfEntry : Block → ℕ → Type 0
IsOfEntry b at = (first_entry b ≤ at) × (at < first_entry b + entries b)

-- The event tells that the byte there was written: by a store, or by a block that was made, which is zero and stands in
-- the size table, or that ended, which is taken from the size table.
abbrev pub Changes : Event → ℕ → Type 0
Changes (Access pc from size true base) at = (from ≤ at) × (at < from + size)
Changes (Made base exponent) at = IsOfBlock (block_at base exponent) at ⊎ IsOfEntry (block_at base exponent) at
Changes (Ended base exponent) at = IsOfEntry (block_at base exponent) at
Changes event at = ⊥

-- none of the events tells that the byte there was written
abbrev pub NoneChanges : List Event → ℕ → Type 0
NoneChanges [] at = Unit {0}
NoneChanges (event ∷ events) at = (Changes event at → ⊥) × NoneChanges events at

-- one of the events tells that a block was made that has the byte there
abbrev pub IsMadeIn : List Event → ℕ → Type 0
IsMadeIn [] at = ⊥
IsMadeIn (Made base exponent ∷ events) at = IsOfBlock (block_at base exponent) at ⊎ IsMadeIn events at
IsMadeIn (event ∷ events) at = IsMadeIn events at

-- the program itself does not write to the size table
abbrev pub IsOffTable : Event → Type 0
IsOffTable (Access pc from size true base) = (from + size ≤ TABLE_START) ⊎ (TABLE_END ≤ from)
IsOffTable event = Unit {0}

abbrev pub AreOffTable : List Event → Type 0
AreOffTable [] = Unit {0}
AreOffTable (event ∷ events) = IsOffTable event × AreOffTable events

-- an access by another register than x2 and x31 is to the globals or above
abbrev pub IsDataHigh : Event → Type 0
IsDataHigh (Access pc at size write base) = base ≢ 2 → base ≢ 31 → GLOBALS_START ≤ at
IsDataHigh event = Unit {0}

abbrev pub AreDataHigh : List Event → Type 0
AreDataHigh [] = Unit {0}
AreDataHigh (event ∷ events) = IsDataHigh event × AreDataHigh events
