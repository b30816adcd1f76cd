-- What holds of marked words: pointers as words, their moves, and how they compare. A pointer is given by the block of its
-- object, 2 ^ e bytes from base on, and its offset.
use Rattle.std.specs.Prelude.{◌≡◌, ◌≢◌, ◌⊎◌, ℕ, ◌+◌, ◌*◌, ◌%◌, ◌^◌, ◌<◌, ◌≤◌, ℤ}
use Rattle.std.specs.Prelude.{pos, negsuc, ◌+ℤ◌, ◌-ℤ◌, Option, Some, nat_lt, int_div, int_lt, if◌then◌else◌}
use Rattle.std.specs.declared.cmp.Ordering.{Ordering}
use Rattle.std.specs.declared.cmp.Ordering.TheVariants.{Less, Equal, Greater}
use Rattle.bb_words.specs.Numbers.{signed, word_of, difference as word_difference}
use Rattle.marked_ptr.specs.Marked.{half_slot, marked, owner_slot, in_memory, base_of, moved_address, moved, inside, outside, order, difference, word_at}
use Rattle.marked_ptr.specs.declared.answer.MoveAnswer.{MoveAnswer}
use Rattle.marked_ptr.specs.declared.answer.MoveAnswer.TheVariants.{Report}

-- A block that may hold an object: it has whole slots and at most 16 MiB, begins at a multiple of its size, and lies
-- from 0xA00000 to 0x2000000.
pub record IsPlaced (g base e : ℕ) : Type 0 where
  pub slot : 1 ≤ g
  pub least : g ≤ e
  pub most : e ≤ 24
  pub aligned : base % 2 ^ e ≡ 0
  pub low : 0xA00000 ≤ base
  pub high : base + 2 ^ e ≤ 0x2000000

-- the offset lies in the block or less than half a slot outside: from -h to below 2 ^ e + h; `negsuc n` is -(n + 1)
abbrev pub IsInReach : (g e : ℕ) → ℤ → Type 0
IsInReach g e (pos n) = n < 2 ^ e + half_slot g
IsInReach g e (negsuc n) = n < half_slot g

-- two blocks do not meet
abbrev pub MissEachOther : (base e base' e' : ℕ) → Type 0
MissEachOther base e base' e' = (base + 2 ^ e ≤ base') ⊎ (base' + 2 ^ e' ≤ base)

-- ---- The owner

-- the slot is one of memory's, and lies in the block
pub record OwnedBy (g base e : ℕ) (slot : Option ℕ) : Type 0 where
  pub number : ℕ
  pub is : slot ≡ Some number
  pub low : base ≤ 2 ^ g * number
  pub high : 2 ^ g * number + 2 ^ g ≤ base + 2 ^ e

-- a pointer in reach of its block is owned by a slot of that block
abbrev pub OwnerIsBlock : Type 0
OwnerIsBlock = (g base e : ℕ) (offset : ℤ) → IsPlaced g base e → IsInReach g e offset
    → OwnedBy g base e (in_memory g (owner_slot g (word_at base e offset)))

-- ---- Moves

-- where a move to an offset comes to: the word of the pointer, if it is in reach of the block
abbrev pub answer_at : (g base e : ℕ) → ℤ → MoveAnswer
answer_at g base e (pos n) =
    if nat_lt n (2 ^ e) then inside (word_at base e (pos n))
    else (if nat_lt n (2 ^ e + half_slot g) then outside (word_at base e (pos n)) else Report)
answer_at g base e (negsuc n) = if nat_lt n (half_slot g) then outside (word_at base e (negsuc n)) else Report

-- a pointer in reach that is moved by a word, read as signed, comes to the sum of its offset and the distance
abbrev pub MovesAreOffsets : Type 0
MovesAreOffsets = (g base e d : ℕ) (offset : ℤ) → IsPlaced g base e → IsInReach g e offset → d < 2 ^ 32
    → moved g (word_at base e offset) d e ≡ answer_at g base e (offset +ℤ signed d)

-- whatever a word is, what its move comes to is in reach of its owner's block
pub data ComesInReach (g base e : ℕ) : MoveAnswer → Type 0 where
  reports : ComesInReach g base e Report
  comes_inside : (offset : ℤ) → IsInReach g e offset → ComesInReach g base e (inside (word_at base e offset))
  comes_outside : (offset : ℤ) → IsInReach g e offset → ComesInReach g base e (outside (word_at base e offset))

abbrev pub MovesStayInReach : Type 0
MovesStayInReach = (g base e p d : ℕ) → IsPlaced g base e → OwnedBy g base e (in_memory g (owner_slot g p)) → ComesInReach g base e (moved g p d e)

-- an answer by two unsigned tests of the offset: below the size; and with half a slot more, below the size and a slot
abbrev pub tested : (g e address offset : ℕ) → MoveAnswer
tested g e address offset =
    if nat_lt offset (2 ^ e) then inside address
    else (if nat_lt ((offset + half_slot g) % 2 ^ 32) (2 ^ e + 2 ^ g) then outside (marked address) else Report)

-- two unsigned tests give a move's answer
abbrev pub MovesByTests : Type 0
MovesByTests = (g p d e slot : ℕ) → 1 ≤ g → g ≤ 24 → 1 ≤ e → e ≤ 24 → owner_slot g p ≡ Some slot
    → moved g p d e ≡ tested g e (moved_address p d) (word_difference (moved_address p d) (base_of g e slot))

-- ---- Comparisons

-- pointers in reach of blocks that do not meet have different words
abbrev pub WordsAreApart : Type 0
WordsAreApart = (g base e base' e' : ℕ) (offset offset' : ℤ) → IsPlaced g base e → IsPlaced g base' e' → MissEachOther base e base' e'
    → IsInReach g e offset → IsInReach g e' offset' → word_at base e offset ≢ word_at base' e' offset'

-- pointers in reach of one block have one word only where their offsets are equal
abbrev pub WordsAreOffsets : Type 0
WordsAreOffsets = (g base e : ℕ) (offset offset' : ℤ) → IsPlaced g base e → IsInReach g e offset → IsInReach g e offset'
    → word_at base e offset ≡ word_at base e offset' → offset ≡ offset'

-- no pointer has the word 0, which is that of the null pointer
abbrev pub WordsAreNotNull : Type 0
WordsAreNotNull = (g base e : ℕ) (offset : ℤ) → IsPlaced g base e → IsInReach g e offset → word_at base e offset ≢ 0

abbrev pub order_of : ℤ → ℤ → Ordering
order_of a b = if int_lt a b then Less else (if int_lt b a then Greater else Equal)

-- the order of two words into one block is that of the offsets
abbrev pub OrderIsOffsets : Type 0
OrderIsOffsets = (g base e : ℕ) (offset offset' : ℤ) → IsPlaced g base e → IsInReach g e offset → IsInReach g e offset'
    → order (word_at base e offset) (word_at base e offset') ≡ order_of offset offset'

-- the difference of two words into one block is that of the offsets, by the size
abbrev pub DifferenceIsOffsets : Type 0
DifferenceIsOffsets = (g base e size : ℕ) (offset offset' : ℤ) → IsPlaced g base e → IsInReach g e offset → IsInReach g e offset'
    → difference (word_at base e offset) (word_at base e offset') size ≡ word_of (int_div (offset -ℤ offset') (pos size))
