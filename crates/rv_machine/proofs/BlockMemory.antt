-- The memory where blocks are made and end.
use Rattle.std.proofs.Common.{◌≡◌, ℕ, ◌+◌, ◌/◌, ◌^◌, ◌<◌, ◌≤◌, ◌⊎◌, List, [], ◌∷◌, ◌++◌, length, get_or, take, drop, refl, ap, subst, ◌∙◌, inl, inr, arith, lit<}
use Rattle.std.specs.Prelude.{All, replicate, map, reverse}
use Rattle.std.proofs.lemmas.Bool.{cases_lt}
use Rattle.std.proofs.lemmas.List.{places, map-append, reverse-append}
use Rattle.std.proofs.lemmas.List.Elements.{All-append, All-take, All-drop, All-replicate, All-head, All-tail}
use Rattle.bb_watch.specs.declared.event.Event.{Event}
use Rattle.size_table.specs.Made.{tabled, made, ended, all_made, all_ended}
use Rattle.rv_machine.specs.Changes.{IsOfBlock, IsOfEntry, NoneChanges, IsMadeIn}
use Rattle.rv_machine.specs.Environment.{made_event, ended_event}
use Rattle.rv_machine.specs.Formed.{IsByte}
use Rattle.rv_machine.specs.State.{memory_size}
use Rattle.rv_machine.proofs.Changes.{outside}
use Rattle.size_table.specs.Blocks.{Block, IsBlock, end_of}
use Rattle.size_table.specs.Table.{filled}

-- ---- Parts that are filled

pub filled_long : (m : List ℕ) (at count byte : ℕ) → at + count ≤ length m → length (filled m at count byte) ≡ length m
unfolding filled
filled_long m at count byte le = search (arith, places)

filled_below : (m : List ℕ) (at count byte i : ℕ) → at + count ≤ length m → i < at → get_or (filled m at count byte) i 0 ≡ get_or m i 0
unfolding filled
filled_below m at count byte i le lt = search (arith, places)

filled_above : (m : List ℕ) (at count byte i : ℕ) → at + count ≤ length m → at + count ≤ i → get_or (filled m at count byte) i 0 ≡ get_or m i 0
unfolding filled
filled_above m at count byte i le past = search (arith, places)

pub filled_other : (m : List ℕ) (at count byte i : ℕ) → at + count ≤ length m → (i < at) ⊎ (at + count ≤ i) → get_or (filled m at count byte) i 0 ≡ get_or m i 0
filled_other m at count byte i le (inl lt) = filled_below m at count byte i le lt
filled_other m at count byte i le (inr past) = filled_above m at count byte i le past

filled_bytes : (m : List ℕ) (at count byte : ℕ) → All IsByte m → byte < 256 → All IsByte (filled m at count byte)
unfolding filled
filled_bytes m at count byte h b =
    All-append IsByte (take at m) (replicate count byte ++ drop (at + count) m) (All-take IsByte at m h)
    (All-append IsByte (replicate count byte) (drop (at + count) m) (All-replicate IsByte count byte b) (All-drop IsByte (at + count) m h))

-- ---- One block

-- the memory's size and bytes
pub record IsMemory (m : List ℕ) : Type 0 where
  pub size : length m ≡ 33554432
  pub bytes : All IsByte m

pub size_is : memory_size ≡ 33554432
unfolding memory_size
size_is = refl

entry_fits : (b : Block) (m : List ℕ) → IsBlock 4 b → length m ≡ 33554432 → 2097152 + b.base / 16 + 2 ^ b.exponent / 16 ≤ length m
entry_fits b m h s = omega (arith, h.within, s)

block_fits : (b : Block) (m : List ℕ) → IsBlock 4 b → length m ≡ 33554432 → b.base + 2 ^ b.exponent ≤ length m
block_fits b m h s = omega (arith, h.within, s)

pub tabled_memory : (byte : ℕ) (b : Block) (m : List ℕ) → byte < 256 → IsBlock 4 b → IsMemory m → IsMemory (tabled byte b m)
tabled_memory byte b m small h i = record {
  size = filled_long m (2097152 + b.base / 16) (2 ^ b.exponent / 16) byte (entry_fits b m h i.size) ∙ i.size;
  bytes = filled_bytes m (2097152 + b.base / 16) (2 ^ b.exponent / 16) byte i.bytes small;
}

tabled_other : (byte : ℕ) (b : Block) (m : List ℕ) (at : ℕ) → IsBlock 4 b → length m ≡ 33554432 → (IsOfEntry b at → ⊥) → get_or (tabled byte b m) at 0 ≡ get_or m at 0
tabled_other byte b m at h s f =
    filled_other m (2097152 + b.base / 16) (2 ^ b.exponent / 16) byte at (entry_fits b m h s)
    (outside (2097152 + b.base / 16) (2097152 + b.base / 16 + 2 ^ b.exponent / 16) at f)

zeroed_memory : (b : Block) (m : List ℕ) → IsBlock 4 b → IsMemory m → IsMemory (filled m b.base (2 ^ b.exponent) 0)
zeroed_memory b m h i = record {
  size = filled_long m b.base (2 ^ b.exponent) 0 (block_fits b m h i.size) ∙ i.size;
  bytes = filled_bytes m b.base (2 ^ b.exponent) 0 i.bytes (lit< tt);
}

exponent_byte : (b : Block) → IsBlock 4 b → b.exponent < 256
exponent_byte b h = omega (arith, h.most)

pub made_memory : (b : Block) (m : List ℕ) → IsBlock 4 b → IsMemory m → IsMemory (made b m)
unfolding made
made_memory b m h i = tabled_memory b.exponent b (filled m b.base (2 ^ b.exponent) 0) (exponent_byte b h) h (zeroed_memory b m h i)

made_other : (b : Block) (m : List ℕ) (at : ℕ) → IsBlock 4 b → IsMemory m → (IsOfBlock b at ⊎ IsOfEntry b at → ⊥) → get_or (made b m) at 0 ≡ get_or m at 0
unfolding made
made_other b m at h i f =
    let zeroed = zeroed_memory b m h i in
    tabled_other b.exponent b (filled m b.base (2 ^ b.exponent) 0) at h zeroed.size (λ e. f (inr e))
    ∙ filled_other m b.base (2 ^ b.exponent) 0 at (block_fits b m h i.size) (outside b.base (b.base + 2 ^ b.exponent) at (λ e. f (inl e)))

pub ended_memory : (b : Block) (m : List ℕ) → IsBlock 4 b → IsMemory m → IsMemory (ended b m)
unfolding ended
ended_memory b m h i = tabled_memory 0 b m (lit< tt) h i

ended_other : (b : Block) (m : List ℕ) (at : ℕ) → IsBlock 4 b → IsMemory m → (IsOfEntry b at → ⊥) → get_or (ended b m) at 0 ≡ get_or m at 0
unfolding ended
ended_other b m at h i f = tabled_other 0 b m at h i.size f

-- ---- Many blocks

pub all_made_memory : (bs : List Block) (m : List ℕ) → All (IsBlock 4) bs → IsMemory m → IsMemory (all_made bs m)
all_made_memory [] m h i = i
all_made_memory (b ∷ bs) m h i = all_made_memory bs (made b m) (All-tail (IsBlock 4) b bs h) (made_memory b m (All-head (IsBlock 4) b bs h) i)

pub all_made_other : (bs : List Block) (m : List ℕ) (at : ℕ) → All (IsBlock 4) bs → IsMemory m → NoneChanges (map made_event bs) at → get_or (all_made bs m) at 0 ≡ get_or m at 0
all_made_other [] m at h i n = refl
all_made_other (b ∷ bs) m at h i n =
    let block = All-head (IsBlock 4) b bs h in
    all_made_other bs (made b m) at (All-tail (IsBlock 4) b bs h) (made_memory b m block i) n.1
    ∙ made_other b m at block i n.0

pub all_ended_memory : (bs : List Block) (m : List ℕ) → All (IsBlock 4) bs → IsMemory m → IsMemory (all_ended bs m)
all_ended_memory [] m h i = i
all_ended_memory (b ∷ bs) m h i =
    ended_memory b (all_ended bs m) (All-head (IsBlock 4) b bs h) (all_ended_memory bs m (All-tail (IsBlock 4) b bs h) i)

none_first : (xs ys : List Event) (at : ℕ) → NoneChanges (xs ++ ys) at → NoneChanges xs at
none_first [] ys at n = tt
none_first (x ∷ xs) ys at n = (n.0, none_first xs ys at n.1)

none_last : (xs ys : List Event) (at : ℕ) → NoneChanges (xs ++ ys) at → NoneChanges ys at
none_last [] ys at n = n
none_last (x ∷ xs) ys at n = none_last xs ys at n.1

pub ended_split : (b : Block) (bs : List Block) → map ended_event (reverse (b ∷ bs)) ≡ map ended_event (reverse bs) ++ ended_event b ∷ []
ended_split b bs = ap (map ended_event) (reverse-append (b ∷ []) bs) ∙ map-append ended_event (reverse bs) (b ∷ [])

pub all_ended_other : (bs : List Block) (m : List ℕ) (at : ℕ) → All (IsBlock 4) bs → IsMemory m → NoneChanges (map ended_event (reverse bs)) at → get_or (all_ended bs m) at 0 ≡ get_or m at 0
all_ended_other [] m at h i n = refl
all_ended_other (b ∷ bs) m at h i n =
    let parts = subst (λ (es : List Event). NoneChanges es at) (ended_split b bs) n in
    let others = map ended_event (reverse bs) in
    let fit = All-tail (IsBlock 4) b bs h in
    ended_other b (all_ended bs m) at (All-head (IsBlock 4) b bs h) (all_ended_memory bs m fit i) (none_last others (ended_event b ∷ []) at parts).0
    ∙ all_ended_other bs m at fit i (none_first others (ended_event b ∷ []) at parts)

-- ---- What was made is zero

filled_within : (m : List ℕ) (at count byte i : ℕ) → at + count ≤ length m → at ≤ i → i < at + count → get_or (filled m at count byte) i 0 ≡ byte
unfolding filled
filled_within m at count byte i le from to = search (arith, places)

entry_below : (b : Block) (at : ℕ) → IsBlock 4 b → 4194304 ≤ at → IsOfEntry b at → ⊥
entry_below b at h high e = omega (arith, h.within, high, e.1)

in_block : (b : Block) (at : ℕ) → IsOfBlock b at ⊎ (IsOfBlock b at → ⊥)
in_block b at = elim (cases_lt at b.base) [
  | inl below ↦ inr (λ o. omega (arith, below, o.0))
  | inr from ↦ elim (cases_lt at (end_of b)) [
    | inl to ↦ inl (from, to)
    | inr past ↦ inr (λ o. omega (arith, past, o.1))
  ]
]

neither : (b : Block) (at : ℕ) → IsBlock 4 b → 4194304 ≤ at → (IsOfBlock b at → ⊥) → IsOfBlock b at ⊎ IsOfEntry b at → ⊥
neither b at h high n (inl o) = n o
neither b at h high n (inr e) = entry_below b at h high e

made_zero : (b : Block) (m : List ℕ) (at : ℕ) → IsBlock 4 b → IsMemory m → 4194304 ≤ at → IsOfBlock b at → get_or (made b m) at 0 ≡ 0
unfolding made
made_zero b m at h i high o =
    let beside : IsOfEntry b at → ⊥ = λ e. entry_below b at h high e in
    tabled_other b.exponent b (filled m b.base (2 ^ b.exponent) 0) at h (zeroed_memory b m h i).size beside
    ∙ filled_within m b.base (2 ^ b.exponent) 0 at (block_fits b m h i.size) o.0 o.1

-- a byte that is zero, or is in a block that is made
all_made_stay_zero : (bs : List Block) (m : List ℕ) (at : ℕ) → All (IsBlock 4) bs → IsMemory m → 4194304 ≤ at → get_or m at 0 ≡ 0 → get_or (all_made bs m) at 0 ≡ 0
all_made_stay_zero [] m at h i high z = z
all_made_stay_zero (b ∷ bs) m at h i high z =
    let block = All-head (IsBlock 4) b bs h in
    all_made_stay_zero bs (made b m) at (All-tail (IsBlock 4) b bs h) (made_memory b m block i) high (elim (in_block b at) [
      | inl o ↦ made_zero b m at block i high o
      | inr n ↦ made_other b m at block i (λ p. neither b at block high n p) ∙ z
    ])

pub all_made_zero : (bs : List Block) (m : List ℕ) (at : ℕ) → All (IsBlock 4) bs → IsMemory m → 4194304 ≤ at → IsMadeIn (map made_event bs) at → get_or (all_made bs m) at 0 ≡ 0
all_made_zero [] m at h i high made = absurd made
all_made_zero (b ∷ bs) m at h i high (inl o) =
    let block = All-head (IsBlock 4) b bs h in
    all_made_stay_zero bs (made b m) at (All-tail (IsBlock 4) b bs h) (made_memory b m block i) high (made_zero b m at block i high o)
all_made_zero (b ∷ bs) m at h i high (inr o) =
    let block = All-head (IsBlock 4) b bs h in
    all_made_zero bs (made b m) at (All-tail (IsBlock 4) b bs h) (made_memory b m block i) high o
