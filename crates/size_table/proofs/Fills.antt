-- What the bytes are where a part of them is filled.
use Rattle.std.proofs.Common.{◌≡◌, ℕ, ◌+◌, ◌-◌, ◌*◌, ◌/◌, ◌%◌, ◌^◌, ◌<◌, ◌≤◌, cond, List, length, get_or, refl, sym, ap, ◌∙◌, inl, inr, arith}
use Rattle.std.proofs.lemmas.Bool.{cases_lt}
use Rattle.std.proofs.lemmas.Bool.Decides.{nat_tests}
use Rattle.std.proofs.lemmas.List.{places}
use Rattle.std.proofs.lemmas.Nat.{pow_pos, pow-add}
use Rattle.size_table.specs.Blocks.{IsBlock, block_at, holds}
use Rattle.size_table.specs.Table.{Marks, IsFilled, BlockIsMarked, filled}

length-filled : (bytes : List ℕ) (at count byte : ℕ) → at + count ≤ length bytes → length (filled bytes at count byte) ≡ length bytes
unfolding filled
length-filled bytes at count byte le = search (arith, places)

filled_below : (bytes : List ℕ) (at count byte i : ℕ) → at + count ≤ length bytes → i < at → get_or (filled bytes at count byte) i 0 ≡ get_or bytes i 0
unfolding filled
filled_below bytes at count byte i le lt = search (arith, places)

filled_above : (bytes : List ℕ) (at count byte i : ℕ) → at + count ≤ length bytes → at + count ≤ i → get_or (filled bytes at count byte) i 0 ≡ get_or bytes i 0
unfolding filled
filled_above bytes at count byte i le past = search (arith, places)

filled_within : (bytes : List ℕ) (at count byte i : ℕ) → at + count ≤ length bytes → at ≤ i → i < at + count → get_or (filled bytes at count byte) i 0 ≡ byte
unfolding filled
filled_within bytes at count byte i le from to = search (arith, places)

pub is_filled : (bytes : List ℕ) (at count byte : ℕ) → at + count ≤ length bytes → IsFilled at count byte bytes (filled bytes at count byte)
is_filled bytes at count byte le = record {
  size = length-filled bytes at count byte le;
  below = λ index lt. filled_below bytes at count byte index le lt;
  within = λ index from to. filled_within bytes at count byte index le from to;
  above = λ index past. filled_above bytes at count byte index le past;
}

-- the slots of a block
pub record HasSlots (base e first count : ℕ) : Type 0 where
  pub start : base ≡ 16 * first
  pub size : 2 ^ e ≡ 16 * count

-- a multiple of 16 times a number
sixteenfold : (base q : ℕ) → 0 < 16 * q → base % (16 * q) ≡ 0 → base ≡ 16 * (base / 16)
sixteenfold base q some aligned = omega arith

pub slots_of : (base e : ℕ) → 4 ≤ e → base % 2 ^ e ≡ 0 → HasSlots base e (base / 16) (2 ^ e / 16)
slots_of base e least aligned =
    let whole : 2 ^ e ≡ 16 * 2 ^ (e - 4) = (let k : e ≡ 4 + (e - 4) = omega arith in ap (λ k. 2 ^ k) k ∙ pow-add 2 4 (e - 4)) in
    let some : 0 < 16 * 2 ^ (e - 4) = omega (arith, pow_pos (e - 4)) in
    record { start = sixteenfold base (2 ^ (e - 4)) some (ap (λ n. base % n) (sym whole) ∙ aligned); size = omega arith }

slot_within : (base e first count slot v w : ℕ) → HasSlots base e first count → first ≤ slot → slot < first + count → cond (holds 4 (block_at base e) slot) v w ≡ v
slot_within base e first count slot v w h from to = grind (arith, nat_tests)

slot_below : (base e first count slot v w : ℕ) → HasSlots base e first count → slot < first → cond (holds 4 (block_at base e) slot) v w ≡ w
slot_below base e first count slot v w h lt = grind (arith, nat_tests)

slot_above : (base e first count slot v w : ℕ) → HasSlots base e first count → first + count ≤ slot → cond (holds 4 (block_at base e) slot) v w ≡ w
slot_above base e first count slot v w h past = grind (arith, nat_tests)

marks_filled : (bytes : List ℕ) (base e first count byte : ℕ) → HasSlots base e first count → first + count ≤ length bytes → Marks 4 (block_at base e) byte bytes (filled bytes first count byte)
marks_filled bytes base e first count byte h le = record {
  size = length-filled bytes first count byte le;
  bytes = λ slot lt. elim (cases_lt slot first) [
    | inl below ↦ filled_below bytes first count byte slot le below ∙ sym (slot_below base e first count slot byte (get_or bytes slot 0) h below)
    | inr from ↦ elim (cases_lt slot (first + count)) [
      | inl to ↦ filled_within bytes first count byte slot le from to ∙ sym (slot_within base e first count slot byte (get_or bytes slot 0) h from to)
      | inr past ↦ filled_above bytes first count byte slot le past ∙ sym (slot_above base e first count slot byte (get_or bytes slot 0) h past)
    ]
  ];
}

pub marks : (bytes new : List ℕ) (base e byte : ℕ) → IsBlock 4 (block_at base e) → length bytes ≡ 2097152 → new ≡ filled bytes (base / 16) (2 ^ e / 16) byte → Marks 4 (block_at base e) byte bytes new
marks bytes new base e byte block size is =
    let h = slots_of base e block.least block.aligned in
    rw is (marks_filled bytes base e (base / 16) (2 ^ e / 16) byte h (let within = block.within in omega (arith, h.start, h.size)))

pub block_is_marked_so : BlockIsMarked
block_is_marked_so base e byte table size block = marks table (filled table (base / 16) (2 ^ e / 16) byte) base e byte block size refl
