-- Moves of words are moves of offsets, and so are comparisons.
use Rattle.std.proofs.Common.{◌≡◌, ◌⊎◌, ℕ, suc, ◌+◌, ◌-◌, ◌*◌, ◌/◌, ◌%◌, ◌^◌, ◌<◌, ◌≤◌, Bool, true, false, cond, nat_lt, Option, Some, None, ℤ, pos, negsuc, ◌+ℤ◌, refl, sym, ap, ◌∙◌, subst, inl, inr, arith, w32, pow_pos}
use Rattle.std.specs.Prelude.{◌==◌, if◌then◌else◌, ◌-ℤ◌, int_div}
use Rattle.std.proofs.Math.Pow.{pow_mono}
use Rattle.std.proofs.lemmas.Bool.{cases_lt}
use Rattle.std.proofs.lemmas.Bool.Decides.{nat_tests}
use Rattle.std.proofs.lemmas.Int.{ints, to_z_pos}
use Rattle.std.proofs.Math.Facts.{to_z-neg}
use Rattle.std.proofs.lemmas.Nat.{div-mul-add, div-add-mod'}
use Rattle.std.specs.declared.cmp.Ordering.TheVariants.{Less, Equal, Greater}
use Rattle.bb_words.specs.Numbers.{signed, word_of, difference as word_difference}
use Rattle.marked_ptr.specs.Marked.{half_slot, unmarked, owner_slot, in_memory, base_of, word_at, inside, outside, at_offset, moved_address, moved_to, moved_from, moved, order, difference}
use Rattle.marked_ptr.specs.declared.answer.MoveAnswer.TheVariants.{Report}
use Rattle.marked_ptr.specs.Laws.{IsPlaced, IsInReach, OwnedBy, answer_at, MovesAreOffsets, ComesInReach, reports, comes_inside, comes_outside, MovesStayInReach, tested, MovesByTests, order_of, OrderIsOffsets, DifferenceIsOffsets}
use Rattle.marked_ptr.proofs.Pointers.{two_halves, word_inside, word_past, owner_is_block}

-- what both tests need to know of the sizes
record Sizes (g e : ℕ) : Type 0 where
  halves : 2 ^ g ≡ 2 * 2 ^ (g - 1)
  half : 2 ^ (g - 1) ≤ 2 ^ 23
  some : 0 < 2 ^ (g - 1)
  size : 2 ^ e ≤ 2 ^ 24

sizes : (g e : ℕ) → 1 ≤ g → g ≤ 24 → e ≤ 24 → Sizes g e
sizes g e h k l = record {
  halves = two_halves g h;
  half = (let z : g - 1 ≤ 23 = omega (arith, k) in pow_mono z);
  some = pow_pos (g - 1);
  size = pow_mono l;
}

test_pos : (g e a o : ℕ) → Sizes g e → o < 2 ^ 31 → at_offset g e a (pos o) ≡ tested g e a o
test_pos g e a o s l = let x = s.halves in let y = s.half in let z = s.size in grind (arith, nat_tests, x, y, z)

test_neg : (g e a o k : ℕ) → Sizes g e → o ≡ 2 ^ 32 - suc k → k < 2 ^ 31 → at_offset g e a (negsuc k) ≡ tested g e a o
test_neg g e a o k s q l = let x = s.halves in let y = s.half in let z = s.size in grind (arith, nat_tests, x, y, z)

-- the offset as a signed word and the two unsigned tests say the same
tests_are : (g e a o : ℕ) → Sizes g e → o < 2 ^ 32 → at_offset g e a (signed o) ≡ tested g e a o
tests_are g e a o s l = by (cases_lt o (2 ^ 31))
  where
    by : (o < 2 ^ 31) ⊎ (2 ^ 31 ≤ o) → at_offset g e a (signed o) ≡ tested g e a o
    by (inl k) = ap (at_offset g e a) (to_z_pos w32 o k) ∙ test_pos g e a o s k
    by (inr k) =
        let n = 2 ^ 32 - 1 - o in
        let q : o ≡ 2 ^ 32 - suc n = omega (arith, l, k) in
        let m : n < 2 ^ 31 = omega (arith, k) in
        ap (λ x. at_offset g e a (signed x)) q ∙ ap (at_offset g e a) (to_z-neg w32 n m) ∙ test_neg g e a o n s q m

-- a move, where the owner and the exponent are known
moved_is : (g p d e slot : ℕ) → 1 ≤ e → owner_slot g p ≡ Some slot → moved g p d e ≡ moved_to g e (moved_address p d) (base_of g e slot)
moved_is g p d e slot h q = let z : (e == 0) ≡ false = grind (arith, nat_tests, h) in
    ap (λ t. cond t Report (moved_from g p d e (owner_slot g p))) z ∙ ap (moved_from g p d e) q

pub moves_by_tests : MovesByTests
moves_by_tests g p d e slot h k l m q =
    moved_is g p d e slot l q ∙ tests_are g e (moved_address p d) (word_difference (moved_address p d) (base_of g e slot)) (sizes g e h k m) (omega arith)

-- ---- The base of the owner

in_memory_some : (g n : ℕ) (slot : Option ℕ) → in_memory g slot ≡ Some n → slot ≡ Some n
in_memory_some g n None q = q
in_memory_some g n (Some s) q = by (nat_lt s (2 ^ (25 - g))) q
  where
    by : (t : Bool) → cond t (Some s) None ≡ Some n → Some s ≡ Some n
    by true r = r
    by false r = absurd (let z : ⊥ = cc in z)

base_found : (g base e n : ℕ) → base % 2 ^ e ≡ 0 → base ≤ 2 ^ g * n → 2 ^ g * n < base + 2 ^ e → base_of g e n ≡ base
base_found g base e n aligned low high =
    let k = base / 2 ^ e in
    let r = 2 ^ g * n - base in
    let whole : k * 2 ^ e + base % 2 ^ e ≡ base = div-add-mod' base (2 ^ e) in
    let at : 2 ^ g * n ≡ k * 2 ^ e + r = omega (arith, whole, aligned, low) in
    let d : (k * 2 ^ e + r) / 2 ^ e ≡ k = div-mul-add k (2 ^ e) r (omega (arith, high)) in
    ap (λ x. x / 2 ^ e * 2 ^ e) at ∙ ap (λ x. x * 2 ^ e) d ∙ omega (arith, whole, aligned)

-- a move of a word that a block owns
from_base : (g base e p d : ℕ) → IsPlaced g base e → OwnedBy g base e (in_memory g (owner_slot g p)) → moved g p d e ≡ moved_to g e (moved_address p d) base
from_base g base e p d i o =
    let high : 2 ^ g * o.number < base + 2 ^ e = omega (arith, o.high, pow_pos g) in
    moved_is g p d e o.number (omega (arith, i.slot, i.least)) (in_memory_some g o.number (owner_slot g p) o.is)
    ∙ ap (moved_to g e (moved_address p d)) (base_found g base e o.number i.aligned o.low high)

of_block : (g base e : ℕ) → IsPlaced g base e → Sizes g e
of_block g base e i = sizes g e i.slot (omega (arith, i.least, i.most)) i.most

-- ---- Sums of offsets and distances

at_pos : (g b e m a : ℕ) → IsPlaced g b e → m < 2 ^ 31 + 2 ^ 25 → a ≡ (b + m) % 2 ^ 32 → moved_to g e a b ≡ answer_at g b e (pos m)
at_pos g b e m a i lt q =
    let s = of_block g b e i in
    let x = s.halves in let y = s.half in let z = s.size in let h = i.high in
    tests_are g e a (word_difference a b) s (omega arith) ∙ grind (arith, nat_tests, x, y, z, h)

at_neg : (g b e m a : ℕ) → IsPlaced g b e → m < 2 ^ 31 + 2 ^ 24 → a ≡ (b + (2 ^ 32 - suc m)) % 2 ^ 32 → moved_to g e a b ≡ answer_at g b e (negsuc m)
at_neg g b e m a i lt q =
    let s = of_block g b e i in
    let x = s.halves in let y = s.half in let z = s.size in let h = i.high in let l = i.low in
    tests_are g e a (word_difference a b) s (omega arith) ∙ grind (arith, nat_tests, x, y, z, h, l)

-- the address of a word is the base and the offset
address_pos : (g b e n : ℕ) → IsPlaced g b e → n < 2 ^ e + 2 ^ (g - 1) → unmarked (word_at b e (pos n)) ≡ b + n
address_pos g b e n i l = by (cases_lt n (2 ^ e))
  where
    s : Sizes g e
    s = of_block g b e i

    by : (n < 2 ^ e) ⊎ (2 ^ e ≤ n) → unmarked (word_at b e (pos n)) ≡ b + n
    by (inl k) = ap unmarked (word_inside b e n k) ∙ omega (arith, i.high, k)
    by (inr k) = let y = s.half in ap unmarked (word_past b e n k) ∙ omega (arith, i.high, y, l)

address_neg : (g b e n : ℕ) → IsPlaced g b e → n < 2 ^ (g - 1) → unmarked (word_at b e (negsuc n)) ≡ b - suc n
address_neg g b e n i l = omega (arith, i.high)

sum_up : (n k : ℕ) → suc k ≤ n → pos n +ℤ negsuc k ≡ pos (n - suc k)
sum_up n k h = grind (arith, nat_tests)

sum_down : (n k : ℕ) → n ≤ k → pos n +ℤ negsuc k ≡ negsuc (k - n)
sum_down n k h = grind (arith, nat_tests)

-- n on and k + 1 back
on_and_back : (g b e n k a : ℕ) → IsPlaced g b e → n < 2 ^ 31 + 2 ^ 25 → k < 2 ^ 31 → a ≡ (b + n + (2 ^ 32 - suc k)) % 2 ^ 32 → moved_to g e a b ≡ answer_at g b e (pos n +ℤ negsuc k)
on_and_back g b e n k a i m l q = by (cases_lt k n)
  where
    by : (k < n) ⊎ (n ≤ k) → moved_to g e a b ≡ answer_at g b e (pos n +ℤ negsuc k)
    by (inl h) = at_pos g b e (n - suc k) a i (omega arith) (omega (arith, q, h, l, m)) ∙ sym (ap (answer_at g b e) (sum_up n k h))
    by (inr h) = at_neg g b e (k - n) a i (omega arith) (omega (arith, q, h, l, m)) ∙ sym (ap (answer_at g b e) (sum_down n k h))

-- by a distance in two's complement
by_distance : (g b e d : ℕ) (o : ℤ) (z : ℤ) → IsPlaced g b e → IsInReach g e o → signed d ≡ z → ((k : ℕ) → z ≡ pos k → (d ≡ k) × (k < 2 ^ 31)) → ((k : ℕ) → z ≡ negsuc k → (d ≡ 2 ^ 32 - suc k) × (k < 2 ^ 31)) → moved_to g e (moved_address (word_at b e o) d) b ≡ answer_at g b e (o +ℤ z)
by_distance g b e d (pos n) (pos k) i r s f h =
    let u = address_pos g b e n i r in let y = of_block g b e i in let w = f k refl in
    at_pos g b e (n + k) _ i (omega (arith, w.1, r, y.half, y.size)) (omega (arith, u, w.0))
by_distance g b e d (pos n) (negsuc k) i r s f h =
    let u = address_pos g b e n i r in let y = of_block g b e i in let w = h k refl in
    on_and_back g b e n k _ i (omega (arith, r, y.half, y.size)) w.1 (omega (arith, u, w.0))
by_distance g b e d (negsuc n) (pos k) i r s f h =
    let u = address_neg g b e n i r in let y = of_block g b e i in let w = f k refl in
    on_and_back g b e k n _ i (omega (arith, w.1)) (omega (arith, r, y.half)) (omega (arith, u, w.0, w.1, i.low, r, y.half, i.high))
by_distance g b e d (negsuc n) (negsuc k) i r s f h =
    let u = address_neg g b e n i r in let y = of_block g b e i in let w = h k refl in
    at_neg g b e (suc (n + k)) _ i (omega (arith, r, w.1, y.half)) (omega (arith, u, w.0, w.1, i.low, r, y.half, i.high))

pub moves_are_offsets : MovesAreOffsets
moves_are_offsets g b e d o i r l = from_base g b e (word_at b e o) d i (owner_is_block g b e o i r) ∙ by (cases_lt d (2 ^ 31))
  where
    by : (d < 2 ^ 31) ⊎ (2 ^ 31 ≤ d) → moved_to g e (moved_address (word_at b e o) d) b ≡ answer_at g b e (o +ℤ signed d)
    by (inl h) =
        let q : signed d ≡ pos d = to_z_pos w32 d h in
        by_distance g b e d o (pos d) i r q (λ k z. let m : d ≡ k = cc in (m, subst (λ x. x < 2 ^ 31) m h)) (λ k z. absurd (let m : ⊥ = cc in m)) ∙ ap (λ x. answer_at g b e (o +ℤ x)) (sym q)
    by (inr h) =
        let n = 2 ^ 32 - 1 - d in
        let m : n < 2 ^ 31 = omega (arith, h) in
        let w : d ≡ 2 ^ 32 - suc n = omega (arith, l, h) in
        let q : signed d ≡ negsuc n = ap signed w ∙ to_z-neg w32 n m in
        by_distance g b e d o (negsuc n) i r q (λ k z. absurd (let v : ⊥ = cc in v)) (λ k z. let v : n ≡ k = cc in (w ∙ ap (λ x. 2 ^ 32 - suc x) v, subst (λ x. x < 2 ^ 31) v m)) ∙ ap (λ x. answer_at g b e (o +ℤ x)) (sym q)

-- ---- Whatever a word is

comes : (g b e : ℕ) (z : ℤ) → ComesInReach g b e (answer_at g b e z)
comes g b e (pos n) = by (cases_lt n (2 ^ e)) (cases_lt n (2 ^ e + half_slot g))
  where
    inner : n < 2 ^ e → answer_at g b e (pos n) ≡ inside (word_at b e (pos n))
    inner h = grind (arith, nat_tests)

    near : 2 ^ e ≤ n → n < 2 ^ e + half_slot g → answer_at g b e (pos n) ≡ outside (word_at b e (pos n))
    near h k = grind (arith, nat_tests)

    far : 2 ^ e + half_slot g ≤ n → answer_at g b e (pos n) ≡ Report
    far h = grind (arith, nat_tests)

    by : (n < 2 ^ e) ⊎ (2 ^ e ≤ n) → (n < 2 ^ e + half_slot g) ⊎ (2 ^ e + half_slot g ≤ n) → ComesInReach g b e (answer_at g b e (pos n))
    by (inl h) k = subst (ComesInReach g b e) (sym (inner h)) (comes_inside (pos n) (let z : n < 2 ^ e + half_slot g = omega arith in z))
    by (inr h) (inl k) = subst (ComesInReach g b e) (sym (near h k)) (comes_outside (pos n) k)
    by (inr h) (inr k) = subst (ComesInReach g b e) (sym (far k)) reports
comes g b e (negsuc n) = by (cases_lt n (half_slot g))
  where
    near : n < half_slot g → answer_at g b e (negsuc n) ≡ outside (word_at b e (negsuc n))
    near k = grind (arith, nat_tests)

    far : half_slot g ≤ n → answer_at g b e (negsuc n) ≡ Report
    far h = grind (arith, nat_tests)

    by : (n < half_slot g) ⊎ (half_slot g ≤ n) → ComesInReach g b e (answer_at g b e (negsuc n))
    by (inl k) = subst (ComesInReach g b e) (sym (near k)) (comes_outside (negsuc n) k)
    by (inr k) = subst (ComesInReach g b e) (sym (far k)) reports

pub moves_stay_in_reach : MovesStayInReach
moves_stay_in_reach g b e p d i o = subst (ComesInReach g b e) (sym (from_base g b e p d i o)) (by (cases_lt off (2 ^ 31)))
  where
    a : ℕ
    a = moved_address p d

    off : ℕ
    off = word_difference (moved_address p d) b

    by : (off < 2 ^ 31) ⊎ (2 ^ 31 ≤ off) → ComesInReach g b e (moved_to g e (moved_address p d) b)
    by (inl h) = subst (ComesInReach g b e) (sym (at_pos g b e off _ i (omega (arith, h)) (omega (arith, i.high)))) (comes g b e (pos off))
    by (inr h) =
        let n = 2 ^ 32 - 1 - off in
        subst (ComesInReach g b e) (sym (at_neg g b e n _ i (omega (arith, h)) (omega (arith, h, i.high)))) (comes g b e (negsuc n))

-- ---- Comparisons

order_by : (a b : ℕ) (x y : ℤ) → (if nat_lt a b then Less else (if a == b then Equal else Greater)) ≡ order_of x y → (p q : ℕ) → unmarked p ≡ a → unmarked q ≡ b → order p q ≡ order_of x y
order_by a b x y h p q f g = ap (λ u. if nat_lt u (unmarked q) then Less else (if u == unmarked q then Equal else Greater)) f ∙ ap (λ u. if nat_lt a u then Less else (if a == u then Equal else Greater)) g ∙ h

pub order_is_offsets : OrderIsOffsets
order_is_offsets g b e (pos n) (pos k) i r r' = order_by (b + n) (b + k) (pos n) (pos k) (grind (arith, nat_tests)) _ _ (address_pos g b e n i r) (address_pos g b e k i r')
order_is_offsets g b e (pos n) (negsuc k) i r r' = let l = i.low in let s = of_block g b e i in let h = s.half in order_by (b + n) (b - suc k) (pos n) (negsuc k) (grind (arith, nat_tests, l, h)) _ _ (address_pos g b e n i r) (address_neg g b e k i r')
order_is_offsets g b e (negsuc n) (pos k) i r r' = let l = i.low in let s = of_block g b e i in let h = s.half in order_by (b - suc n) (b + k) (negsuc n) (pos k) (grind (arith, nat_tests, l, h)) _ _ (address_neg g b e n i r) (address_pos g b e k i r')
order_is_offsets g b e (negsuc n) (negsuc k) i r r' = let l = i.low in let s = of_block g b e i in let h = s.half in order_by (b - suc n) (b - suc k) (negsuc n) (negsuc k) (grind (arith, nat_tests, l, h)) _ _ (address_neg g b e n i r) (address_neg g b e k i r')

-- the signed difference of two addresses
apart : (x y : ℕ) → x < 2 ^ 31 → y < 2 ^ 31 → signed (word_difference x y) ≡ pos x -ℤ pos y
apart x y h k = by (cases_lt x y)
  where
    by : (x < y) ⊎ (y ≤ x) → signed (word_difference x y) ≡ pos x -ℤ pos y
    by (inl l) =
        let n = y - suc x in
        let q : word_difference x y ≡ 2 ^ 32 - suc n = omega (arith, h, k, l) in
        ap signed q ∙ to_z-neg w32 n (omega (arith, k)) ∙ omega (arith, ints, l)
    by (inr l) =
        let q : word_difference x y ≡ x - y = omega (arith, h, k, l) in
        ap signed q ∙ to_z_pos w32 (x - y) (omega (arith, h)) ∙ omega (arith, ints, l)

difference_by : (a b size : ℕ) (o o' : ℤ) → a < 2 ^ 31 → b < 2 ^ 31 → pos a -ℤ pos b ≡ o -ℤ o' → (p q : ℕ) → unmarked p ≡ a → unmarked q ≡ b → difference p q size ≡ word_of (int_div (o -ℤ o') (pos size))
unfolding difference
difference_by a b size o o' h k e p q f g =
    ap (λ x. word_of (int_div (signed (word_difference x (unmarked q))) (pos size))) f
    ∙ ap (λ x. word_of (int_div (signed (word_difference a x)) (pos size))) g
    ∙ ap (λ x. word_of (int_div x (pos size))) (apart a b h k ∙ e)

pub difference_is_offsets : DifferenceIsOffsets
difference_is_offsets g b e size (pos n) (pos k) i r r' = let s = of_block g b e i in
    difference_by (b + n) (b + k) size (pos n) (pos k) (omega (arith, i.high, r, s.half, s.size)) (omega (arith, i.high, r', s.half, s.size)) (omega (arith, ints)) _ _ (address_pos g b e n i r) (address_pos g b e k i r')
difference_is_offsets g b e size (pos n) (negsuc k) i r r' = let s = of_block g b e i in
    difference_by (b + n) (b - suc k) size (pos n) (negsuc k) (omega (arith, i.high, r, s.half, s.size)) (omega (arith, i.high)) (let l = i.low in let h = s.half in omega (arith, ints, l, h, r')) _ _ (address_pos g b e n i r) (address_neg g b e k i r')
difference_is_offsets g b e size (negsuc n) (pos k) i r r' = let s = of_block g b e i in
    difference_by (b - suc n) (b + k) size (negsuc n) (pos k) (omega (arith, i.high)) (omega (arith, i.high, r', s.half, s.size)) (let l = i.low in let h = s.half in omega (arith, ints, l, h, r)) _ _ (address_neg g b e n i r) (address_pos g b e k i r')
difference_is_offsets g b e size (negsuc n) (negsuc k) i r r' = let s = of_block g b e i in
    difference_by (b - suc n) (b - suc k) size (negsuc n) (negsuc k) (omega (arith, i.high)) (omega (arith, i.high)) (let l = i.low in let h = s.half in omega (arith, ints, l, h, r, r')) _ _ (address_neg g b e n i r) (address_neg g b e k i r')
