-- The words of pointers: their owners, and which are equal.
use Rattle.std.proofs.Common.{◌≡◌, ◌≢◌, ◌⊎◌, ℕ, zero, suc, ◌+◌, ◌-◌, ◌*◌, ◌/◌, ◌%◌, ◌^◌, ◌<◌, ◌≤◌, pos, negsuc, refl, sym, ap, ◌∙◌, subst, inl, inr, arith, pow_pos, pow-add, mul_assoc, Option, Some}
use Rattle.std.proofs.Math.Pow.{pow_mono}
use Rattle.std.proofs.Math.Nat.{mul-le-mul_left, mul-pos}
use Rattle.std.proofs.lemmas.Bool.{cases_lt}
use Rattle.std.proofs.lemmas.Bool.Decides.{nat_tests}
use Rattle.std.proofs.lemmas.Nat.{div-mul-add, mod-mul-add, mod_below, div-add-mod'}
use Rattle.marked_ptr.specs.Marked.{owner_slot, in_memory, word_at}
use Rattle.marked_ptr.specs.Laws.{IsPlaced, OwnedBy, OwnerIsBlock, WordsAreApart, WordsAreOffsets, WordsAreNotNull}

-- a slot is two halves
pub two_halves : (g : ℕ) → 1 ≤ g → 2 ^ g ≡ 2 * 2 ^ (g - 1)
two_halves g h = let k : g ≡ 1 + (g - 1) = omega arith in ap (λ n. 2 ^ n) k ∙ pow-add 2 1 (g - 1)

owner_plain : (g a : ℕ) → a < 2 ^ 31 → owner_slot g a ≡ Some (a / 2 ^ g)
owner_plain g a l = grind (arith, nat_tests)

owner_before : (g a n : ℕ) → a < 2 ^ 31 → a % 2 ^ g < 2 ^ (g - 1) → a / 2 ^ g ≡ suc n → owner_slot g (2 ^ 31 + a) ≡ Some n
owner_before g a n l k q = grind (arith, nat_tests)

owner_after : (g a : ℕ) → a < 2 ^ 31 → 2 ^ (g - 1) ≤ a % 2 ^ g → owner_slot g (2 ^ 31 + a) ≡ Some (a / 2 ^ g + 1)
owner_after g a l k = grind (arith, nat_tests)

-- a block of whole slots, each of w bytes, which are two halves of h
pub record InSlots (w h b size : ℕ) : Type 0 where
  pub halves : w ≡ 2 * h
  pub half : 0 < h
  pub c : ℕ
  pub p : ℕ
  pub base : b ≡ (c + 1) * w
  pub block : size ≡ (p + 1) * w
  pub high : b + size ≤ 0x2000000
  pub small : h ≤ 2 ^ 23

pub in_slots : (g b e : ℕ) → IsPlaced g b e → InSlots (2 ^ g) (2 ^ (g - 1)) b (2 ^ e)
in_slots g b e k =
    let w = 2 ^ g in
    let r = 2 ^ (e - g) in
    let d = b / 2 ^ e in
    let up : e ≡ (e - g) + g = omega (arith, k.least) in
    let size : 2 ^ e ≡ r * w = ap (λ n. 2 ^ n) up ∙ pow-add 2 (e - g) g in
    let some : 0 < r = pow_pos (e - g) in
    let whole : d * 2 ^ e + b % 2 ^ e ≡ b = div-add-mod' b (2 ^ e) in
    let at : b ≡ d * 2 ^ e = omega (arith, whole, k.aligned) in
    let base : b ≡ d * (r * w) = at ∙ ap (λ n. d * n) size in
    let first : 0 < d = positive d (2 ^ e) (omega (arith, at, k.low)) in
    let most : 2 ^ (g - 1) ≤ 2 ^ 23 = half_most g e k.least k.most in
    record {
      halves = two_halves g k.slot;
      half = pow_pos (g - 1);
      c = d * r - 1;
      p = r - 1;
      base = base ∙ times d r w first some;
      block = size ∙ ap (λ n. n * w) (let z : r ≡ r - 1 + 1 = omega arith in z);
      high = k.high;
      small = most;
    }
  where
    positive : (d n : ℕ) → 0 < d * n → 0 < d
    positive zero n h = absurd (let z : ⊥ = omega (arith, h) in z)
    positive (suc d) n h = omega arith

    times : (d r w : ℕ) → 0 < d → 0 < r → d * (r * w) ≡ (d * r - 1 + 1) * w
    times d r w h k =
        let some : 0 < d * r = mul-pos h k in
        let z : d * r ≡ d * r - 1 + 1 = omega (arith, some) in
        let y : d * (r * w) ≡ d * r * w = sym (mul_assoc d r w) in
        y ∙ ap (λ n. n * w) z

    half_most : (g e : ℕ) → g ≤ e → e ≤ 24 → 2 ^ (g - 1) ≤ 2 ^ 23
    half_most g e h k = let z : g - 1 ≤ 23 = omega arith in pow_mono z

-- a slot, whatever tells it, that lies in a block of whole slots
at_slot : (g b e s t : ℕ) (slot : Option ℕ) → IsPlaced g b e → slot ≡ Some s → s ≡ t → b ≤ 2 ^ g * t → 2 ^ g * t + 2 ^ g ≤ b + 2 ^ e → OwnedBy g b e (in_memory g slot)
at_slot g b e s t slot k q same l u =
    let is : slot ≡ Some t = q ∙ ap Some same in
    let total : 2 ^ 25 ≡ 2 ^ g * 2 ^ (25 - g) = (let z : 25 ≡ g + (25 - g) = omega (arith, k.least, k.most) in ap (λ n. 2 ^ n) z ∙ pow-add 2 g (25 - g)) in
    let small : t < 2 ^ (25 - g) = under (2 ^ g) t (2 ^ (25 - g)) (pow_pos g) (omega (arith, u, k.high, total, pow_pos g)) in
    record { number = t; is = ap (in_memory g) is ∙ fits g t small; low = l; high = u }
  where
    under : (w t n : ℕ) → 0 < w → w * t < w * n → t < n
    under w t n h l = by (cases_lt t n)
      where
        by : (t < n) ⊎ (n ≤ t) → t < n
        by (inl x) = x
        by (inr x) = absurd (let z : w * n ≤ w * t = mul-le-mul_left w x in omega (arith, z, l))

    fits : (g t : ℕ) → t < 2 ^ (25 - g) → in_memory g (Some t) ≡ Some t
    fits g t h = grind (arith, nat_tests)

owned_inside : (g b e n : ℕ) → IsPlaced g b e → n < 2 ^ e → OwnedBy g b e (in_memory g (owner_slot g (b + n)))
owned_inside g b e n i lt =
    let w = 2 ^ g in
    let k = in_slots g b e i in
    let r : n % w < w = mod_below n w (omega (arith, k.half, k.halves)) in
    let d : n / w * w + n % w ≡ n = div-add-mod' n w in
    let x : b + n ≡ (k.c + 1 + n / w) * w + n % w = omega (arith, k.base, d) in
    let q : (b + n) / w ≡ k.c + 1 + n / w = ap (λ y. y / w) x ∙ div-mul-add (k.c + 1 + n / w) w (n % w) r in
    let whole : w * (n / w) + w ≤ 2 ^ e = whole_slot w (n / w) (n % w) n k.p (2 ^ e) r d lt k.block in
    at_slot g b e _ (k.c + 1 + n / w) _ i (owner_plain g (b + n) (omega (arith, k.high))) q (omega (arith, k.base)) (omega (arith, k.base, whole))
  where
    whole_slot : (w t r n p size : ℕ) → r < w → t * w + r ≡ n → n < size → size ≡ (p + 1) * w → w * t + w ≤ size
    whole_slot w t r n p size h q l z = by (cases_lt t (p + 1))
      where
        by : (t < p + 1) ⊎ (p + 1 ≤ t) → w * t + w ≤ size
        by (inl x) = let y : suc t ≤ p + 1 = omega (arith, x) in let m : w * suc t ≤ w * (p + 1) = mul-le-mul_left w y in omega (arith, m, z)
        by (inr x) = absurd (let m : w * (p + 1) ≤ w * t = mul-le-mul_left w x in omega (arith, m, z, q, l))

owned_above : (g b e n : ℕ) → IsPlaced g b e → n < 2 ^ (g - 1) → OwnedBy g b e (in_memory g (owner_slot g (2 ^ 31 + (b + (2 ^ e + n)))))
owned_above g b e n i lt =
    let w = 2 ^ g in
    let k = in_slots g b e i in
    let a = b + (2 ^ e + n) in
    let x : a ≡ (k.c + 1 + (k.p + 1)) * w + n = omega (arith, k.base, k.block) in
    let f : n < w = omega (arith, k.halves) in
    let m : a % w ≡ n = ap (λ y. y % w) x ∙ mod-mul-add (k.c + 1 + (k.p + 1)) w n f in
    let d : a / w ≡ suc (k.c + 1 + k.p) = ap (λ y. y / w) x ∙ div-mul-add (k.c + 1 + (k.p + 1)) w n f ∙ (let z : k.c + 1 + (k.p + 1) ≡ suc (k.c + 1 + k.p) = omega arith in z) in
    at_slot g b e _ (k.c + 1 + k.p) _ i (owner_before g a (k.c + 1 + k.p) (omega (arith, k.high, k.small)) (subst (λ y. y < 2 ^ (g - 1)) (sym m) lt) d) refl (omega (arith, k.base)) (omega (arith, k.base, k.block))

owned_below : (g b e n : ℕ) → IsPlaced g b e → n < 2 ^ (g - 1) → OwnedBy g b e (in_memory g (owner_slot g (2 ^ 31 + (b - suc n))))
owned_below g b e n i lt =
    let w = 2 ^ g in
    let k = in_slots g b e i in
    let a = b - suc n in
    let f : w - suc n < w = omega (arith, k.half, k.halves) in
    let x : a ≡ k.c * w + (w - suc n) = omega (arith, k.base, k.halves) in
    let m : a % w ≡ w - suc n = ap (λ y. y % w) x ∙ mod-mul-add k.c w (w - suc n) f in
    let d : a / w ≡ k.c = ap (λ y. y / w) x ∙ div-mul-add k.c w (w - suc n) f in
    let up : 2 ^ (g - 1) ≤ a % w = subst (λ y. 2 ^ (g - 1) ≤ y) (sym m) (omega (arith, k.halves)) in
    at_slot g b e _ (k.c + 1) _ i (owner_after g a (omega (arith, k.high)) up) (ap (λ y. y + 1) d) (omega (arith, k.base)) (omega (arith, k.base, k.block))

pub word_inside : (b e n : ℕ) → n < 2 ^ e → word_at b e (pos n) ≡ b + n
word_inside b e n h = grind (arith, nat_tests)

pub word_past : (b e n : ℕ) → 2 ^ e ≤ n → word_at b e (pos n) ≡ 2 ^ 31 + (b + n)
word_past b e n h = grind (arith, nat_tests)

pub owner_is_block : OwnerIsBlock
owner_is_block g b e (pos n) i reach = by (cases_lt n (2 ^ e))
  where
    by : (n < 2 ^ e) ⊎ (2 ^ e ≤ n) → OwnedBy g b e (in_memory g (owner_slot g (word_at b e (pos n))))
    by (inl l) = subst (λ x. OwnedBy g b e (in_memory g (owner_slot g x))) (sym (word_inside b e n l)) (owned_inside g b e n i l)
    by (inr l) =
        let m : n ≡ 2 ^ e + (n - 2 ^ e) = omega arith in
        subst (λ x. OwnedBy g b e (in_memory g (owner_slot g x))) (sym (word_past b e n l ∙ ap (λ x. 2 ^ 31 + (b + x)) m)) (owned_above g b e (n - 2 ^ e) i (omega (arith, reach)))
owner_is_block g b e (negsuc n) i reach = owned_below g b e n i reach

-- two blocks that do not meet give no one word
pub words_are_apart : WordsAreApart
words_are_apart g b e b' e' z z' k k' apart w w' q =
    let s = owner_is_block g b e z k w in
    let s' : OwnedBy g b' e' (in_memory g (owner_slot g (word_at b e z))) = subst (λ x. OwnedBy g b' e' (in_memory g (owner_slot g x))) (sym q) (owner_is_block g b' e' z' k' w') in
    let both : Some s.number ≡ Some s'.number = sym s.is ∙ s'.is in
    let same : s.number ≡ s'.number = cc in
    let high' : 2 ^ g * s.number + 2 ^ g ≤ b' + 2 ^ e' = subst (λ n. 2 ^ g * n + 2 ^ g ≤ b' + 2 ^ e') (sym same) s'.high in
    let low' : b' ≤ 2 ^ g * s.number = subst (λ n. b' ≤ 2 ^ g * n) (sym same) s'.low in
    omega (arith, s.low, s.high, low', high', pow_pos g)

other_sign : (g b e n k : ℕ) → IsPlaced g b e → k < 2 ^ (g - 1) → n < 2 ^ e + 2 ^ (g - 1) → word_at b e (pos n) ≢ word_at b e (negsuc k)
other_sign g b e n k f l m = let s = in_slots g b e f in grind (arith, nat_tests, s.high, s.small, f.low)

-- one block gives one word for each offset
pub words_are_offsets : WordsAreOffsets
words_are_offsets g b e (pos n) (pos k) f w w' q = let s = in_slots g b e f in ap pos (grind (arith, nat_tests, s.high, s.small))
words_are_offsets g b e (pos n) (negsuc k) f w w' q = absurd (other_sign g b e n k f w' w q)
words_are_offsets g b e (negsuc n) (pos k) f w w' q = absurd (other_sign g b e k n f w w' (sym q))
words_are_offsets g b e (negsuc n) (negsuc k) f w w' q = let s = in_slots g b e f in ap negsuc (omega (arith, f.low, s.small, w, w', q))

pub words_are_not_null : WordsAreNotNull
words_are_not_null g b e (pos n) k l = let low = k.low in grind (arith, nat_tests, low)
words_are_not_null g b e (negsuc n) k l = omega arith
