-- Lists of blocks that lie between two addresses.
use Rattle.std.proofs.Common.{◌≡◌, ℕ, ◌+◌, ◌-◌, ◌*◌, ◌/◌, ◌%◌, ◌^◌, ◌≤◌, List, [], ◌∷◌, ◌++◌, sym, ap, ◌∙◌, inl, inr, arith, mul_assoc}
use Rattle.std.specs.Prelude.{All}
use Rattle.std.proofs.lemmas.List.Elements.{All-nil, All-cons}
use Rattle.std.proofs.lemmas.Nat.{pow_pos, pow-add, shr_split, mod_low}
use Rattle.rv_image.specs.Rules.{Decline, total_size}
use Rattle.size_table.specs.Made.{blocks_from}
use Rattle.size_table.specs.Blocks.{Block, block_at, end_of, IsBlock, MissesAll, AreDisjoint}

abbrev pub LieBetween : (low high : ℕ) → List Block → Type 0
LieBetween low high [] = Unit {0}
LieBetween low high (b ∷ bs) = ((low ≤ b.base) × (end_of b ≤ high)) × LieBetween low high bs

pub between_append : (low high : ℕ) (xs bs : List Block) → LieBetween low high xs → LieBetween low high bs → LieBetween low high (xs ++ bs)
between_append low high [] bs p q = q
between_append low high (x ∷ xs) bs p q = (p.0, between_append low high xs bs p.1 q)

pub between_wider : (low high low' high' : ℕ) (bs : List Block) → low' ≤ low → high ≤ high' → LieBetween low high bs → LieBetween low' high' bs
between_wider low high low' high' [] l h p = tt
between_wider low high low' high' (b ∷ bs) l h p = ((omega (arith, l, p.0.0), omega (arith, h, p.0.1)), between_wider low high low' high' bs l h p.1)

pub between_all : (P : Block → Type 0) (low high : ℕ) → ((b : Block) → low ≤ b.base → end_of b ≤ high → P b) → (bs : List Block) → LieBetween low high bs → All P bs
between_all P low high f [] p = All-nil P
between_all P low high f (b ∷ bs) p = All-cons P b bs (f b p.0.0 p.0.1) (between_all P low high f bs p.1)

-- ---- Blocks beside one another

pub misses_above : (b : Block) (low high : ℕ) (bs : List Block) → end_of b ≤ low → LieBetween low high bs → MissesAll b bs
misses_above b low high [] l p = tt
misses_above b low high (c ∷ bs) l p = (inl (omega (arith, l, p.0.0)), misses_above b low high bs l p.1)

pub misses_below : (b : Block) (low high : ℕ) (bs : List Block) → high ≤ b.base → LieBetween low high bs → MissesAll b bs
misses_below b low high [] l p = tt
misses_below b low high (c ∷ bs) l p = (inr (omega (arith, l, p.0.1)), misses_below b low high bs l p.1)

pub misses_append : (b : Block) (xs bs : List Block) → MissesAll b xs → MissesAll b bs → MissesAll b (xs ++ bs)
misses_append b [] bs p q = q
misses_append b (x ∷ xs) bs p q = (p.0, misses_append b xs bs p.1 q)

pub disjoint_up : (low mid high : ℕ) (xs bs : List Block) → LieBetween low mid xs → LieBetween mid high bs → AreDisjoint xs → AreDisjoint bs → AreDisjoint (xs ++ bs)
disjoint_up low mid high [] bs p q d e = e
disjoint_up low mid high (x ∷ xs) bs p q d e = (misses_append x xs bs d.0 (misses_above x mid high bs p.0.1 q), disjoint_up low mid high xs bs p.1 q d.1 e)

pub disjoint_down : (low mid high : ℕ) (xs bs : List Block) → LieBetween mid high xs → LieBetween low mid bs → AreDisjoint xs → AreDisjoint bs → AreDisjoint (xs ++ bs)
disjoint_down low mid high [] bs p q d e = e
disjoint_down low mid high (x ∷ xs) bs p q d e = (misses_append x xs bs d.0 (misses_below x low mid bs p.0.0 q), disjoint_down low mid high xs bs p.1 q d.1 e)

-- ---- Blocks without gaps

pub from_between : (base : ℕ) (es : List ℕ) → LieBetween base (base + total_size es) (blocks_from base es)
from_between base [] = tt
from_between base (e ∷ es) =
    let after = base + 2 ^ e in
    let rest = between_wider after (after + total_size es) base (base + (2 ^ e + total_size es)) (blocks_from after es) (omega arith) (omega arith) (from_between after es) in
    ((omega arith, omega arith), rest)

pub from_disjoint : (base : ℕ) (es : List ℕ) → AreDisjoint (blocks_from base es)
from_disjoint base [] = tt
from_disjoint base (e ∷ es) =
    let after = base + 2 ^ e in
    (misses_above (block_at base e) after (after + total_size es) (blocks_from after es) (omega arith) (from_between after es), from_disjoint after es)

pub multiple : (q e : ℕ) → q * 2 ^ e % 2 ^ e ≡ 0
multiple q e = let same : q * 2 ^ e ≡ q * 2 ^ e + 0 = omega arith in ap (λ (m : ℕ). m % 2 ^ e) same ∙ mod_low q e 0 (pow_pos e)

-- a multiple of a power of two is one of each lower power, and stays one when that power is added
pub lower_power : (n e most : ℕ) → e ≤ most → n % 2 ^ most ≡ 0 → n % 2 ^ e ≡ 0
lower_power n e most le h =
    let q = n / 2 ^ most in
    let k : most ≡ most - e + e = omega arith in
    let split = shr_split n most in
    let power : 2 ^ most ≡ 2 ^ (most - e) * 2 ^ e = ap (λ (m : ℕ). 2 ^ m) k ∙ pow-add 2 (most - e) e in
    let whole : n ≡ q * 2 ^ most = omega (arith, split, h) in
    let again : n ≡ q * 2 ^ (most - e) * 2 ^ e = whole ∙ ap (λ (m : ℕ). q * m) power ∙ sym (mul_assoc q (2 ^ (most - e)) (2 ^ e)) in
    ap (λ (m : ℕ). m % 2 ^ e) again ∙ multiple (q * 2 ^ (most - e)) e

pub next_multiple : (n e : ℕ) → n % 2 ^ e ≡ 0 → (n + 2 ^ e) % 2 ^ e ≡ 0
next_multiple n e h =
    let q = n / 2 ^ e in
    let split = shr_split n e in
    let again : n + 2 ^ e ≡ (q + 1) * 2 ^ e = omega (arith, split, h) in
    ap (λ (m : ℕ). m % 2 ^ e) again ∙ multiple (q + 1) e

-- blocks that decline from an address on that is aligned to the first
pub from_aligned : (most base : ℕ) (es : List ℕ) → most ≤ 24 → base % 2 ^ most ≡ 0 → Decline most es → base + total_size es ≤ 33554432 → All (IsBlock 4) (blocks_from base es)
from_aligned most base [] small a d fits = All-nil (IsBlock 4)
from_aligned most base (e ∷ es) small a d fits =
    let first = lower_power base e most d.1 a in
    All-cons (IsBlock 4) (block_at base e) (blocks_from (base + 2 ^ e) es)
    (record { least = d.0; most = omega (arith, d.1); aligned = first; within = omega (arith, fits) })
    (from_aligned e (base + 2 ^ e) es (omega (arith, d.1)) (next_multiple base e first) d.2 (omega (arith, fits)))
