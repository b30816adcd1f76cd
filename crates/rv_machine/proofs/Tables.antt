-- Bytes that are written one after another, and the bytes of the size table.
use Rattle.std.proofs.Common.{◌≡◌, ℕ, suc, ◌+◌, ◌-◌, ◌*◌, ◌%◌, ◌^◌, ◌<◌, ◌≤◌, ◌≢◌, ◌⊎◌, List, [], ◌∷◌, ◌++◌, length, get_or, set, drop, refl, sym, ap, ◌∙◌, inl, inr, arith, length-set, get_or-set_other, add-one, drop-cons, length-append}
use Rattle.std.specs.Prelude.{slice_set, replicate, All}
use Rattle.std.specs.List.{AllByRecursion}
use Rattle.std.proofs.lemmas.List.{length-replicate}
use Rattle.std.proofs.lemmas.List.Elements.{All-from_recursion, All-set, All-head, All-tail}
use Rattle.std.proofs.lemmas.Nat.{pow-add}
use Rattle.std.proofs.Math.Pow.{pow-lt}
use Rattle.rv_image.specs.Rules.{Decline, total_size}
use Rattle.rv_machine.specs.Formed.{IsByte}
use Rattle.size_table.specs.Memory.{written_at, table_bytes, IsExponent}

pub written_append : (memory : List ℕ) (at : ℕ) (a b : List ℕ) → written_at memory at (a ++ b) ≡ written_at (written_at memory at a) (at + length a) b
written_append memory at [] b = let e : at ≡ at + 0 = omega arith in ap (λ k. written_at memory k b) e
written_append memory at (x ∷ a) b =
    let e : at + 1 + length a ≡ at + length (x ∷ a) = omega arith in
    written_append (slice_set memory at x) (at + 1) a b ∙ ap (λ k. written_at (written_at memory at (x ∷ a)) k b) e

pub written_long : (m : List ℕ) (at : ℕ) (bs : List ℕ) → length (written_at m at bs) ≡ length m
written_long m at [] = refl
written_long m at (b ∷ bs) = written_long (set m at b) (at + 1) bs ∙ length-set m at b

pub written_bytes : (m : List ℕ) (at : ℕ) (bs : List ℕ) → All IsByte m → All IsByte bs → All IsByte (written_at m at bs)
written_bytes m at [] h p = h
written_bytes m at (b ∷ bs) h p = written_bytes (set m at b) (at + 1) bs (All-set IsByte m at b (All-head IsByte b bs p) h) (All-tail IsByte b bs p)

pub written_other : (m : List ℕ) (at : ℕ) (bs : List ℕ) (i : ℕ) → (i < at) ⊎ (at + length bs ≤ i) → get_or (written_at m at bs) i 0 ≡ get_or m i 0
written_other m at [] i h = refl
written_other m at (b ∷ bs) i (inl h) =
    let other : i ≢ at = omega (arith, h) in
    written_other (set m at b) (at + 1) bs i (inl (omega (arith, h))) ∙ get_or-set_other m at i b 0 other
written_other m at (b ∷ bs) i (inr h) =
    let other : i ≢ at = omega (arith, h) in
    written_other (set m at b) (at + 1) bs i (inr (omega (arith, h))) ∙ get_or-set_other m at i b 0 other

pub copies_more : (memory : List ℕ) (at i count byte : ℕ) → i < count → written_at (slice_set memory (at + i) byte) (at + (i + 1)) (replicate (count - (i + 1)) byte) ≡ written_at memory (at + i) (replicate (count - i) byte)
copies_more memory at i count byte h =
    let n : count - i ≡ suc (count - (i + 1)) = omega arith in
    let a : at + (i + 1) ≡ at + i + 1 = omega arith in
    sym (ap (λ k. written_at memory (at + i) (replicate k byte)) n ∙ ap (λ k. written_at (slice_set memory (at + i) byte) k (replicate (count - (i + 1)) byte)) (sym a))

-- one block more
pub table_more : (memory : List ℕ) (at i : ℕ) (es : List ℕ) → i < length es → written_at (written_at memory at (replicate (2 ^ (get_or es i 0 - 4)) (get_or es i 0))) (at + 2 ^ (get_or es i 0 - 4)) (table_bytes (drop (i + 1) es)) ≡ written_at memory at (table_bytes (drop i es))
table_more memory at i es h =
    let e = get_or es i 0 in
    let n = 2 ^ (e - 4) in
    let l : length (replicate n e) ≡ n = length-replicate n e in
    let rest = table_bytes (drop (suc i) es) in
    ap (λ (k : ℕ). written_at (written_at memory at (replicate n e)) (at + n) (table_bytes (drop k es))) (add-one i)
    ∙ sym (ap (λ (k : ℕ). written_at (written_at memory at (replicate n e)) (at + k) rest) l)
    ∙ sym (written_append memory at (replicate n e) rest)
    ∙ ap (λ (xs : List ℕ). written_at memory at (table_bytes xs)) (sym (drop-cons es i 0 h))

-- how many bytes a block has in the table, and those after it
pub table_room : (i : ℕ) (es : List ℕ) → i < length es → length (table_bytes (drop i es)) ≡ 2 ^ (get_or es i 0 - 4) + length (table_bytes (drop (i + 1) es))
table_room i es h =
    let e = get_or es i 0 in
    let n = 2 ^ (e - 4) in
    let rest = table_bytes (drop (suc i) es) in
    ap (λ (xs : List ℕ). length (table_bytes xs)) (drop-cons es i 0 h)
    ∙ length-append (replicate n e) rest
    ∙ ap (λ (k : ℕ). k + length rest) (length-replicate n e)
    ∙ ap (λ (k : ℕ). n + length (table_bytes (drop k es))) (sym (add-one i))

-- a shift of 1 by fewer than 64 bits
pub shift_fits : (e : ℕ) → e < 64 → 1 * 2 ^ (e - 4) % 18446744073709551616 ≡ 2 ^ (e - 4)
shift_fits e h =
    let l : e - 4 < 64 = omega arith in
    let p : 2 ^ (e - 4) < 2 ^ 64 = pow-lt l in
    let q : 2 ^ (e - 4) < 18446744073709551616 = p in
    omega arith

-- the step of the loop over the blocks
pub table_step : (memory memory' whole : List ℕ) (slot i : ℕ) (es : List ℕ) → i < length es → get_or es i 0 < 64 → memory' ≡ written_at memory slot (replicate (1 * 2 ^ (get_or es i 0 - 4) % 18446744073709551616) (get_or es i 0)) → written_at memory slot (table_bytes (drop i es)) ≡ whole → written_at memory' (slot + 1 * 2 ^ (get_or es i 0 - 4) % 18446744073709551616) (table_bytes (drop (i + 1) es)) ≡ whole
table_step memory memory' whole slot i es l f h w =
    let e = get_or es i 0 in
    let n = shift_fits e f in
    ap (λ (k : ℕ). written_at memory' (slot + k) (table_bytes (drop (i + 1) es))) n
    ∙ ap (λ (m : List ℕ). written_at m (slot + 2 ^ (e - 4)) (table_bytes (drop (i + 1) es))) (h ∙ ap (λ (k : ℕ). written_at memory slot (replicate k e)) n)
    ∙ table_more memory slot i es l
    ∙ w

-- a slot has 16 bytes
pub table_length : (most : ℕ) (es : List ℕ) → Decline most es → 16 * length (table_bytes es) ≡ total_size es
table_length most [] h = refl
table_length most (e ∷ es) h =
    let k : e - 4 + 4 ≡ e = omega (arith, h.0) in
    let p = sym (pow-add 2 (e - 4) 4) ∙ ap (λ (n : ℕ). 2 ^ n) k in
    let l = length-append (replicate (2 ^ (e - 4)) e) (table_bytes es) in
    let r = length-replicate (2 ^ (e - 4)) e in
    omega (arith, p, l, r, table_length e es h.2)

pub exponents_decline : (most : ℕ) (es : List ℕ) → most < 64 → Decline most es → All IsExponent es
exponents_decline most es l h = All-from_recursion IsExponent es (each most es l h)
  where
    each : (most : ℕ) (es : List ℕ) → most < 64 → Decline most es → AllByRecursion IsExponent es
    each most [] l h = tt
    each most (e ∷ es) l h = ((h.0, omega (arith, h.1)), each e es (omega (arith, h.1)) h.2)
