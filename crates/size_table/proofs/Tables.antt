-- The byte of a slot when a block is added to the list or taken from it.
use Rattle.std.proofs.Common.{◌≡◌, ℕ, ◌<◌, Bool, true, false, cond, List, [], ◌∷◌, ◌++◌, length, refl, sym, ap, ◌∙◌, inl, inr, arith, true≢false}
use Rattle.std.proofs.lemmas.Nat.{pow_pos}
use Rattle.std.proofs.lemmas.Bool.Decides.{nat_tests}
use Rattle.size_table.specs.Blocks.{Block, holds, MissEachOther, MissesAll, AreDisjoint}
use Rattle.size_table.specs.Table.{byte_of, Marks, Adds, Removes, HoldersByteLaw}

-- no two blocks that do not meet hold one slot
held_once : (g : ℕ) (a b : Block) (slot : ℕ) → MissEachOther a b → holds g a slot ≡ true → holds g b slot ≡ false
held_once g a b slot (inl m) h = let some = pow_pos g in grind (arith, nat_tests)
held_once g a b slot (inr m) h = let some = pow_pos g in grind (arith, nat_tests)

-- none of the other blocks holds the slot
byte_free : (g : ℕ) (a : Block) (bs : List Block) (slot : ℕ) → MissesAll a bs → holds g a slot ≡ true → byte_of g bs slot ≡ 0
byte_free g a [] slot m h = refl
byte_free g a (b ∷ bs) slot m h = ap (λ t. cond t b.exponent (byte_of g bs slot)) (held_once g a b slot m.0 h) ∙ byte_free g a bs slot m.1 h

-- the order of two tests of which one at most is passed
swapped : (x y : Bool) (p q r : ℕ) → (x ≡ true → y ≡ false) → cond y q (cond x p r) ≡ cond x p (cond y q r)
swapped true true p q r once = absurd (true≢false (once refl))
swapped true false p q r once = refl
swapped false true p q r once = refl
swapped false false p q r once = refl

-- with a block that meets none of the others
pub byte_added : (g : ℕ) (a : Block) (before after : List Block) (slot : ℕ) → MissesAll a (before ++ after)
    → byte_of g (before ++ a ∷ after) slot ≡ cond (holds g a slot) a.exponent (byte_of g (before ++ after) slot)
byte_added g a [] after slot m = refl
byte_added g a (b ∷ before) after slot m =
    ap (λ t. cond (holds g b slot) b.exponent t) (byte_added g a before after slot m.1)
    ∙ swapped (holds g a slot) (holds g b slot) a.exponent b.exponent (byte_of g (before ++ after) slot) (held_once g a b slot m.0)

-- one of the blocks is missed by the first, and meets it neither
turned : (a b : Block) → MissEachOther a b → MissEachOther b a
turned a b (inl m) = inr m
turned a b (inr m) = inl m

missed : (b a : Block) (before after : List Block) → MissesAll b (before ++ a ∷ after) → MissEachOther a b
missed b a [] after m = turned b a m.0
missed b a (c ∷ before) after m = missed b a before after m.1

-- one of several blocks that do not meet misses all others
misses_others : (a : Block) (before after : List Block) → AreDisjoint (before ++ a ∷ after) → MissesAll a (before ++ after)
misses_others a [] after d = d.0
misses_others a (b ∷ before) after d = (missed b a before after d.0, misses_others a before after d.1)

emptied : (x : Bool) (p r : ℕ) → (x ≡ true → r ≡ 0) → r ≡ cond x 0 (cond x p r)
emptied true p r none = none refl
emptied false p r none = refl

-- without one of several blocks that do not meet
pub byte_removed : (g : ℕ) (a : Block) (before after : List Block) (slot : ℕ) → AreDisjoint (before ++ a ∷ after)
    → byte_of g (before ++ after) slot ≡ cond (holds g a slot) 0 (byte_of g (before ++ a ∷ after) slot)
byte_removed g a before after slot d =
    let m = misses_others a before after d in
    emptied (holds g a slot) a.exponent (byte_of g (before ++ after) slot) (byte_free g a (before ++ after) slot m)
    ∙ ap (cond (holds g a slot) 0) (sym (byte_added g a before after slot m))

pub adds : (g : ℕ) (a : Block) (old new : List ℕ) → Marks g a a.exponent old new → Adds g a old new
adds g a old new marks before after m table = record {
  size = marks.size ∙ table.size;
  bytes = λ slot lt.
      let inside : slot < length old = omega (arith, table.size) in
      marks.bytes slot inside ∙ ap (cond (holds g a slot) a.exponent) (table.bytes slot lt) ∙ sym (byte_added g a before after slot m);
}

pub removes : (g : ℕ) (a : Block) (old new : List ℕ) → Marks g a 0 old new → Removes g a old new
removes g a old new marks before after d table = record {
  size = marks.size ∙ table.size;
  bytes = λ slot lt.
      let inside : slot < length old = omega (arith, table.size) in
      marks.bytes slot inside ∙ ap (cond (holds g a slot) 0) (table.bytes slot lt) ∙ sym (byte_removed g a before after slot d);
}

pub holders_byte_is : HoldersByteLaw
holders_byte_is g slot a before after d h =
    byte_added g a before after slot (misses_others a before after d) ∙ ap (λ t. cond t a.exponent (byte_of g (before ++ after) slot)) h
