-- Bytes and words in memory.
use Rattle.std.specs.Prelude.{◌≡◌, ℕ, ◌<◌, ◌≤◌, ◌+◌, ◌-◌, ◌^◌, List, [], ◌∷◌, ◌++◌, replicate, slice_index, slice_set}
use Rattle.std.specs.Int.{from_le_bytes, to_le_bytes, w16, w32}

-- the two bytes at an address as a number, the lower one first
abbrev pub half_at : List ℕ → ℕ → ℕ
half_at memory at = from_le_bytes w16 (slice_index memory at ∷ slice_index memory (at + 1) ∷ [])

-- the word at an address, its lowest byte first
abbrev pub word_at : List ℕ → ℕ → ℕ
word_at memory at = from_le_bytes w32 (slice_index memory at ∷ slice_index memory (at + 1) ∷ slice_index memory (at + 2) ∷ slice_index memory (at + 3)
    ∷ [])

-- the memory with these bytes from an address on
abbrev pub written_at : List ℕ → ℕ → List ℕ → List ℕ
written_at memory at [] = memory
written_at memory at (byte ∷ bytes) = written_at (slice_set memory at byte) (at + 1) bytes

-- the bytes of words, the lowest byte of each first
abbrev pub bytes_of_words : List ℕ → List ℕ
bytes_of_words [] = []
bytes_of_words (word ∷ words) = to_le_bytes w32 word ++ bytes_of_words words

-- the words stand in memory from an address on, one after another
abbrev pub Stand : List ℕ → ℕ → List ℕ → Type 0
Stand memory at [] = Unit {0}
Stand memory at (word ∷ words) = (word_at memory at ≡ word) × Stand memory (at + 4) words

-- The bytes of the size table for blocks of these exponents that lie one after another: a slot of 16 bytes has the
-- exponent of its block.
abbrev pub table_bytes : List ℕ → List ℕ
table_bytes [] = []
table_bytes (e ∷ es) = replicate (2 ^ (e - 4)) e ++ table_bytes es

-- the exponent of a block of one slot at least, and of less than 2^64 bytes
abbrev pub IsExponent : ℕ → Type 0
IsExponent e = (4 ≤ e) × (e < 64)
