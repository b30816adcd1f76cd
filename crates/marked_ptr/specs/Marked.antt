-- Marked words. A pointer may lie less than half a slot outside its block; its word then has bit 31 set, its mark.
-- A slot has 2 ^ g bytes, and a block is made of whole slots, so the half of its slot in which such a word lies tells
-- on which side its block is: the slot next to it on that side is the one that owns it.
use Rattle.std.specs.Prelude.{◌==◌, ℕ, suc, ◌+◌, ◌-◌, ◌*◌, ◌/◌, ◌%◌, ◌^◌, ℤ, pos}
use Rattle.std.specs.Prelude.{negsuc, Bool, Option, Some, None, nat_lt, nat_le, int_div, if◌then◌else◌}
use Rattle.std.specs.declared.cmp.Ordering.{Ordering}
use Rattle.std.specs.declared.cmp.Ordering.TheVariants.{Less, Equal, Greater}
use Rattle.bb_words.specs.Numbers.{signed, word_of, difference as word_difference}
use Rattle.marked_ptr.specs.declared.answer.MoveAnswer.{MoveAnswer}
use Rattle.marked_ptr.specs.declared.answer.MoveAnswer.TheVariants.{Inside, Marked, Report}

-- half a slot, in bytes
abbrev pub half_slot : (g : ℕ) → ℕ
half_slot g = 2 ^ (g - 1)

-- whether bit 31 of a word is set
abbrev pub is_marked : (word : ℕ) → Bool
is_marked word = nat_le (2 ^ 31) word

-- a word without its mark: the address that it stands for
abbrev pub unmarked : (word : ℕ) → ℕ
unmarked word = word % 2 ^ 31

-- a word with the mark
abbrev pub marked : (word : ℕ) → ℕ
marked word = word % 2 ^ 31 + 2 ^ 31

-- The word of a pointer to an offset of the block of 2 ^ e bytes at base: base and offset, with the mark exactly where the
-- offset is not one of the block. `negsuc n` is -(n + 1).
abbrev pub word_at : (base e : ℕ) → (offset : ℤ) → ℕ
word_at base e (pos n) = if nat_lt n (2 ^ e) then base + n else 2 ^ 31 + (base + n)
word_at base e (negsuc n) = 2 ^ 31 + (base - suc n)

-- The slot of 2 ^ g bytes that owns a word. That of a word without a mark is the one of its address. A marked word
-- points less than half a slot outside its block, so the one after it owns it, where it points to the upper half of
-- a slot, or the one before it.
abbrev pub marked_slot : (g address : ℕ) → Option ℕ
marked_slot g address =
    if nat_lt (address % 2 ^ g) (2 ^ (g - 1)) then
    (if address / 2 ^ g == 0 then None else Some (address / 2 ^ g - 1))
    else Some (address / 2 ^ g + 1)

abbrev pub owner_slot : (g word : ℕ) → Option ℕ
owner_slot g word = if nat_lt word (2 ^ 31) then Some (word / 2 ^ g) else marked_slot g (unmarked word)

-- the slot, if it is one of the 2 ^ (25 - g) slots of memory
abbrev pub in_memory : (g : ℕ) → Option ℕ → Option ℕ
in_memory g None = None
in_memory g (Some slot) = if nat_lt slot (2 ^ (25 - g)) then Some slot else None

-- Where a block of 2 ^ e bytes begins, by one of its slots: at the slot's address with its e lowest bits cleared,
-- since a block begins at a multiple of its size.
abbrev pub base_of : (g e slot : ℕ) → ℕ
base_of g e slot = 2 ^ g * slot / 2 ^ e * 2 ^ e

abbrev pub inside : (word : ℕ) → MoveAnswer
inside word = Inside (record { 0 = word })

abbrev pub outside : (word : ℕ) → MoveAnswer
outside word = Marked (record { 0 = word })

-- The answer at an offset of a block of 2 ^ e bytes, with the address there: from 0 to below 2 ^ e the address as it is,
-- less than half a slot outside the marked word, and a report further off. `negsuc n` is -(n + 1).
abbrev pub at_offset : (g e address : ℕ) → ℤ → MoveAnswer
at_offset g e address (pos n) =
    if nat_lt n (2 ^ e) then inside address
    else (if nat_lt n (2 ^ e + half_slot g) then outside (marked address) else Report)
at_offset g e address (negsuc n) = if nat_lt n (half_slot g) then outside (marked address) else Report

-- the address that a word and a distance give, modulo 2 ^ 32
abbrev pub moved_address : (p d : ℕ) → ℕ
moved_address p d = (unmarked p + d) % 2 ^ 32

-- the answer at an address, by the block's base: its offset is read as a signed word
abbrev pub moved_to : (g e address base : ℕ) → MoveAnswer
moved_to g e address base = at_offset g e address (signed (word_difference address base))

abbrev pub moved_from : (g p d e : ℕ) → Option ℕ → MoveAnswer
moved_from g p d e None = Report
moved_from g p d e (Some slot) = moved_to g e (moved_address p d) (base_of g e slot)

-- The word p moved by the distance d, where its owner's block has 2 ^ e bytes. An exponent of 0 says that p has no
-- owner.
abbrev pub moved : (g p d e : ℕ) → MoveAnswer
moved g p d e = if e == 0 then Report else moved_from g p d e (owner_slot g p)

-- how two words into one block lie: by their addresses (C11 6.5.8)
abbrev pub order : (p q : ℕ) → Ordering
order p q = if nat_lt (unmarked p) (unmarked q) then Less else (if unmarked p == unmarked q then Equal else Greater)

-- How many elements of a size lie between two words into one block: the difference of their addresses, read as
-- signed, by the size, rounded toward zero (C11 6.5.6).
unfoldable pub difference : (p q size : ℕ) → ℕ
difference p q size = word_of (int_div (signed (word_difference (unmarked p) (unmarked q))) (pos size))
