-- Blocks that are made and ended in memory.
use Rattle.std.specs.Prelude.{ℕ, ◌+◌, ◌/◌, ◌^◌, ◌<◌, ◌≤◌, List, [], ◌∷◌, length, slice_index}
use Rattle.size_table.specs.declared.memory_map.TheConstants.{TABLE_START}
use Rattle.size_table.specs.Blocks.{Block, block_at}
use Rattle.size_table.specs.Table.{filled}

-- where the size table's bytes for the slots of a block begin in memory, and how many they are
abbrev pub first_entry : Block → ℕ
first_entry block = TABLE_START + block.base / 16

abbrev pub entries : Block → ℕ
entries block = 2 ^ block.exponent / 16

-- each of them is this byte
abbrev pub tabled : ℕ → Block → List ℕ → List ℕ
tabled byte block memory = filled memory (first_entry block) (entries block) byte

-- a block is made: its bytes are zero, and the table has its exponent
unfoldable pub made : Block → List ℕ → List ℕ
made block memory = tabled block.exponent block (filled memory block.base (2 ^ block.exponent) 0)

-- a block ends: the table has 0, and its bytes stay
unfoldable pub ended : Block → List ℕ → List ℕ
ended block memory = tabled 0 block memory

-- blocks are made, one after another
abbrev pub all_made : List Block → List ℕ → List ℕ
all_made [] memory = memory
all_made (b ∷ bs) memory = all_made bs (made b memory)

-- blocks end, the last one first
abbrev pub all_ended : List Block → List ℕ → List ℕ
all_ended [] memory = memory
all_ended (b ∷ bs) memory = ended b (all_ended bs memory)

-- blocks of these exponents, without gaps from an address on
abbrev pub blocks_from : ℕ → List ℕ → List Block
blocks_from base [] = []
blocks_from base (e ∷ es) = block_at base e ∷ blocks_from (base + 2 ^ e) es

-- each exponent is that of a block from one slot to 16 MiB
abbrev pub AreExponents : List ℕ → Type 0
AreExponents es = (i : ℕ) → i < length es → (4 ≤ slice_index es i) × (slice_index es i ≤ 24)
