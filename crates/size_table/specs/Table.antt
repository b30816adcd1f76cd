-- The size table of a list of blocks.
use Rattle.std.specs.Prelude.{◌≡◌, ℕ, ◌+◌, ◌/◌, ◌^◌, ◌<◌, ◌≤◌, true, List, []}
use Rattle.std.specs.Prelude.{◌∷◌, ◌++◌, length, take, drop, replicate, slice_index, if◌then◌else◌}
use Rattle.size_table.specs.declared.memory_map.TheConstants.{TABLE_START}
use Rattle.size_table.specs.Blocks.{Block, IsBlock, block_at, holds, MissesAll, AreDisjoint}

-- how many bytes the table has
abbrev pub table_size : ℕ
table_size = 2097152

-- the table, as it stands in memory
abbrev pub table_in : List ℕ → List ℕ
table_in memory = take table_size (drop TABLE_START memory)

-- the exponent of the block that holds the slot, or 0
abbrev pub byte_of : ℕ → List Block → ℕ → ℕ
byte_of g [] slot = 0
byte_of g (b ∷ bs) slot = if holds g b slot then b.exponent else byte_of g bs slot

-- the table has the byte of each slot
pub record IsTableOf (g : ℕ) (blocks : List Block) (table : List ℕ) : Type 0 where
  pub size : length table ≡ table_size
  pub bytes : (slot : ℕ) → slot < table_size → slice_index table slot ≡ byte_of g blocks slot

-- the slots of the block have this byte, and all others stay
pub record Marks (g : ℕ) (block : Block) (byte : ℕ) (old new : List ℕ) : Type 0 where
  pub size : length new ≡ length old
  pub bytes : (slot : ℕ) → slot < length old → slice_index new slot ≡ (if holds g block slot then byte else slice_index old slot)

-- The table of blocks that the block doesn't meet becomes the table with the block, wherever it stands in the list.
abbrev pub Adds : ℕ → Block → List ℕ → List ℕ → Type 0
Adds g block old new = (before after : List Block) → MissesAll block (before ++ after) → IsTableOf g (before ++ after) old
    → IsTableOf g (before ++ block ∷ after) new

-- The table of blocks that don't meet becomes the table without the block, wherever it stood in the list.
abbrev pub Removes : ℕ → Block → List ℕ → List ℕ → Type 0
Removes g block old new = (before after : List Block) → AreDisjoint (before ++ block ∷ after) → IsTableOf g (before ++ block ∷ after) old
    → IsTableOf g (before ++ after) new

-- of a table of blocks, the byte is that of the slot
abbrev pub TellsBlocks : ℕ → List ℕ → ℕ → ℕ → Type 0
TellsBlocks g table slot byte = (blocks : List Block) → IsTableOf g blocks table → byte ≡ byte_of g blocks slot

-- of blocks that don't meet, the one that holds a slot gives its byte, wherever it stands in the list
abbrev pub HoldersByteLaw : Type 0
HoldersByteLaw = (g slot : ℕ) (block : Block) (before after : List Block) → AreDisjoint (before ++ block ∷ after) → holds g block slot ≡ true
    → byte_of g (before ++ block ∷ after) slot ≡ block.exponent

-- the list with so many bytes of this value from a place on
unfoldable pub filled : List ℕ → ℕ → ℕ → ℕ → List ℕ
filled bytes at count byte = take at bytes ++ (replicate count byte ++ drop (at + count) bytes)

-- the bytes from a place on, so many of them, are this one, and all others stay
pub record IsFilled (at count byte : ℕ) (old new : List ℕ) : Type 0 where
  pub size : length new ≡ length old
  pub below : (index : ℕ) → index < at → slice_index new index ≡ slice_index old index
  pub within : (index : ℕ) → at ≤ index → index < at + count → slice_index new index ≡ byte
  pub above : (index : ℕ) → at + count ≤ index → slice_index new index ≡ slice_index old index

-- where a part of a list is filled, the bytes of that part are the given one, and all others stay
abbrev pub FilledLaw : Type 0
FilledLaw = (bytes : List ℕ) (at count byte : ℕ) → at + count ≤ length bytes → IsFilled at count byte bytes (filled bytes at count byte)

-- filling the bytes of a block's slots marks the block
abbrev pub BlockIsMarked : Type 0
BlockIsMarked = (base e byte : ℕ) (table : List ℕ) → length table ≡ table_size → IsBlock 4 (block_at base e)
    → Marks 4 (block_at base e) byte table (filled table (base / 16) (2 ^ e / 16) byte)

-- marking a block with its exponent adds it to the table
abbrev pub MarkingAdds : Type 0
MarkingAdds = (g : ℕ) (block : Block) (old new : List ℕ) → Marks g block block.exponent old new → Adds g block old new

-- marking a block with 0 removes it from the table
abbrev pub MarkingRemoves : Type 0
MarkingRemoves = (g : ℕ) (block : Block) (old new : List ℕ) → Marks g block 0 old new → Removes g block old new
