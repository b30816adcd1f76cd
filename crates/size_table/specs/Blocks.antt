-- Blocks of memory, and the slots that they hold. A slot has 2 ^ g bytes.
use Rattle.std.specs.Prelude.{◌≡◌, ◌==◌, ◌⊎◌, ℕ, ◌+◌, ◌*◌, ◌%◌, ◌^◌}
use Rattle.std.specs.Prelude.{◌≤◌, Bool, ◌&&◌, List, [], ◌∷◌, nat_le, if◌then◌else◌}
use Rattle.size_table.specs.declared.memory_map.TheConstants.{MEMORY_END}

-- the 2 ^ exponent bytes from base on
pub record Block : Type 0 where
  pub base : ℕ
  pub exponent : ℕ

abbrev pub block_at : ℕ → ℕ → Block
block_at base exponent = record { base = base; exponent = exponent }

-- the address past the last byte
abbrev pub end_of : Block → ℕ
end_of block = block.base + 2 ^ block.exponent

-- A block is made of whole slots, has at most 16 MiB, begins at a multiple of its size, and lies in the 32 MiB of memory.
pub record IsBlock (g : ℕ) (block : Block) : Type 0 where
  pub least : g ≤ block.exponent
  pub most : block.exponent ≤ 24
  pub aligned : block.base % 2 ^ block.exponent ≡ 0
  pub within : end_of block ≤ MEMORY_END

-- the bytes of the slot, which begin at a multiple of their number, all lie in the block
abbrev pub holds : ℕ → Block → ℕ → Bool
holds g block slot = nat_le block.base (2 ^ g * slot) && nat_le (2 ^ g * slot + 2 ^ g) (end_of block)

-- two blocks do not meet
abbrev pub MissEachOther : Block → Block → Type 0
MissEachOther a b = (end_of a ≤ b.base) ⊎ (end_of b ≤ a.base)

-- a block meets none of the blocks
abbrev pub MissesAll : Block → List Block → Type 0
MissesAll block [] = Unit {0}
MissesAll block (b ∷ bs) = MissEachOther block b × MissesAll block bs

-- no two of the blocks meet
abbrev pub AreDisjoint : List Block → Type 0
AreDisjoint [] = Unit {0}
AreDisjoint (b ∷ bs) = MissesAll b bs × AreDisjoint bs

-- the blocks without the one that begins there
abbrev pub without : ℕ → List Block → List Block
without at [] = []
without at (b ∷ bs) = if b.base == at then bs else b ∷ without at bs

-- how often a block stands in a list
abbrev pub one_of : Block → Block → ℕ
one_of b c = if (b.base == c.base) && (b.exponent == c.exponent) then 1 else 0

abbrev pub count_in : Block → List Block → ℕ
count_in b [] = 0
count_in b (c ∷ cs) = one_of b c + count_in b cs

-- two lists have the same blocks, in some order
abbrev pub SameBlocks : List Block → List Block → Type 0
SameBlocks xs ys = (b : Block) → count_in b xs ≡ count_in b ys
