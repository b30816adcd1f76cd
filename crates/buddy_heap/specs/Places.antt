-- Places for blocks in the heap.
use Rattle.std.specs.Prelude.{◌≡◌, ◌==◌, ℕ, zero, suc, ◌+◌, ◌-◌, ◌%◌, ◌^◌, ◌≤◌, Bool, true, false}
use Rattle.std.specs.Prelude.{◌&&◌, ◌||◌, List, [], ◌∷◌, Option, Some, None, nat_le, nat_lt, if◌then◌else◌}
use Rattle.std.specs.declared.result.Result.{Result}
use Rattle.std.specs.declared.result.Result.TheVariants.{Ok, Err}
use Rattle.size_table.specs.declared.memory_map.TheConstants.{HEAP_START, MEMORY_END}
use Rattle.size_table.specs.Blocks.{Block, block_at, end_of, without, IsBlock, MissesAll}

-- ---- Where a block may stand

-- a block of 2 ^ e bytes may stand at p: in the heap, aligned to its size, and clear of the blocks
pub record IsRoom (blocks : List Block) (e p : ℕ) : Type 0 where
  pub low : HEAP_START ≤ p
  pub high : p + 2 ^ e ≤ MEMORY_END
  pub aligned : p % 2 ^ e ≡ 0
  pub clear : MissesAll (block_at p e) blocks

-- the least such place, or none where there is none
abbrev pub IsPlaceOf : List Block → ℕ → Option ℕ → Type 0
IsPlaceOf blocks e None = (q : ℕ) → IsRoom blocks e q → ⊥
IsPlaceOf blocks e (Some p) = IsRoom blocks e p × ((q : ℕ) → IsRoom blocks e q → p ≤ q)

-- whether the block meets none of the blocks
abbrev pub is_clear : Block → List Block → Bool
is_clear block [] = true
is_clear block (b ∷ bs) = (nat_le (end_of block) b.base || nat_le (end_of b) block.base) && is_clear block bs

-- a place that is clear, or else what is found further on
abbrev pub place_or : (clear : Bool) → (p : ℕ) → (further : List Block → Option ℕ) → List Block → Option ℕ
place_or true p further blocks = Some p
place_or false p further blocks = further blocks

-- the first of so many places, each a block further on, that is clear
unfoldable pub first_of : (places p e : ℕ) → List Block → Option ℕ
first_of zero p e blocks = None
first_of (suc places) p e blocks = place_or (is_clear (block_at p e) blocks) p (first_of places (p + 2 ^ e) e) blocks

-- where a block of 2 ^ e bytes comes, beside the blocks that are live
unfoldable pub place_of : List Block → ℕ → Option ℕ
place_of blocks e = first_of (2 ^ (24 - e)) HEAP_START e blocks

-- it is the least place, whatever the blocks are
abbrev pub PlaceIsLeast : Type 0
PlaceIsLeast = (blocks : List Block) (e : ℕ) → e ≤ 24 → IsPlaceOf blocks e (place_of blocks e)

-- there is one least place at most
abbrev pub OnePlace : Type 0
OnePlace = (blocks : List Block) (e : ℕ) (a b : Option ℕ) → IsPlaceOf blocks e a → IsPlaceOf blocks e b → a ≡ b

-- ---- Blocks that come and go

-- a block among those that are listed by their bases
abbrev pub with_block : Block → List Block → List Block
with_block b [] = b ∷ []
with_block b (c ∷ cs) = if nat_lt b.base c.base then b ∷ c ∷ cs else c ∷ with_block b cs

-- the block that begins there
abbrev pub block_from : ℕ → List Block → Option Block
block_from at [] = None
block_from at (b ∷ bs) = if b.base == at then Some b else block_from at bs

-- ---- What the code holds

abbrev pub blocks_of : List (ℕ × ℕ) → List Block
blocks_of [] = []
blocks_of (p ∷ ps) = block_at p.0 p.1 ∷ blocks_of ps

abbrev pub AreBlocks : List (ℕ × ℕ) → Type 0
AreBlocks [] = Unit {0}
AreBlocks (p ∷ ps) = IsBlock 4 (block_at p.0 p.1) × AreBlocks ps

-- none of them has more than 16 MiB
abbrev pub HaveExponents : List (ℕ × ℕ) → Type 0
HaveExponents [] = Unit {0}
HaveExponents (p ∷ ps) = (p.1 ≤ 24) × HaveExponents ps

-- by their bases, from an address on up to the end of the heap
abbrev pub LieInOrder : ℕ → List (ℕ × ℕ) → Type 0
LieInOrder low [] = low ≤ MEMORY_END
LieInOrder low (p ∷ ps) = (low ≤ p.0) × LieInOrder (p.0 + 2 ^ p.1) ps

-- how many begin at most at an address
abbrev pub count_to : ℕ → List (ℕ × ℕ) → ℕ
count_to at [] = 0
count_to at (p ∷ ps) = if nat_lt at p.0 then 0 else suc (count_to at ps)

-- the index of the one that begins there
abbrev pub next_index : Option ℕ → Option ℕ
next_index None = None
next_index (Some i) = Some (suc i)

abbrev pub index_of : ℕ → List (ℕ × ℕ) → Option ℕ
index_of at [] = None
index_of at (p ∷ ps) = if p.0 == at then Some 0 else next_index (index_of at ps)

abbrev pub plus : ℕ → Option ℕ → Option ℕ
plus n None = None
plus n (Some i) = Some (n + i)

-- the exponent of the block that begins there
abbrev pub IsExponentAt : ℕ → List Block → Option ℕ → Type 0
IsExponentAt at blocks None = block_from at blocks ≡ None
IsExponentAt at blocks (Some e) = block_from at blocks ≡ Some (block_at at e)

-- what comes of giving back what begins there: its exponent, and the others stay; or no block begins there
abbrev pub IsGiven : {E : Type 0} → ℕ → (old new : List Block) → Result ℕ E → Type 0
IsGiven at old new (Ok e) = (block_from at old ≡ Some (block_at at e)) × (new ≡ without at old) × IsBlock 4 (block_at at e)
IsGiven at old new (Err x) = (block_from at old ≡ None) × (new ≡ old)
