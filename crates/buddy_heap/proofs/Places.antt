-- The first clear place is the least one.
use Rattle.std.proofs.Common.{◌≡◌, ℕ, zero, suc, ◌+◌, ◌-◌, ◌*◌, ◌/◌, ◌%◌, ◌^◌, ◌<◌, ◌≤◌, Bool, true, false, ◌&&◌, ◌||◌, leb, List, [], ◌∷◌, Option, Some, None, refl, sym, ap, subst, ◌∙◌, inl, inr, arith}
use Rattle.std.proofs.lemmas.Bool.{leb-true, leb-false}
use Rattle.std.proofs.lemmas.Nat.{pow_pos, pow-add, shr_split, mod_low}
use Rattle.size_table.specs.Blocks.{Block, block_at, end_of, MissEachOther, MissesAll}
use Rattle.buddy_heap.specs.Places.{IsRoom, IsPlaceOf, is_clear, place_or, first_of, place_of}

-- ---- The test

misses_by : (a b : Block) (p q : Bool) → leb (end_of a) b.base ≡ p → leb (end_of b) a.base ≡ q → (p || q) ≡ true → MissEachOther a b
misses_by a b true q e f t = inl (leb-true (end_of a) b.base e)
misses_by a b false true e f t = inr (leb-true (end_of b) a.base f)
misses_by a b false false e f t = absurd cc

meets_by : (a b : Block) (p q : Bool) → leb (end_of a) b.base ≡ p → leb (end_of b) a.base ≡ q → (p || q) ≡ false → MissEachOther a b → ⊥
meets_by a b true q e f t m = absurd cc
meets_by a b false true e f t m = absurd cc
meets_by a b false false e f t (inl m) = let l = leb-false (end_of a) b.base e in omega (arith, l, m)
meets_by a b false false e f t (inr m) = let l = leb-false (end_of b) a.base f in omega (arith, l, m)

clear_by : (a : Block) (bs : List Block) → is_clear a bs ≡ true → MissesAll a bs
clear_by a [] t = tt
clear_by a (b ∷ bs) t = by (clear_by a bs) (leb (end_of a) b.base || leb (end_of b) a.base) refl t
  where
    by : (is_clear a bs ≡ true → MissesAll a bs) → (one : Bool) → (leb (end_of a) b.base || leb (end_of b) a.base) ≡ one → (one && is_clear a bs) ≡ true → MissesAll a (b ∷ bs)
    by rest true e t = (misses_by a b (leb (end_of a) b.base) (leb (end_of b) a.base) refl refl e, rest t)
    by rest false e t = absurd cc

meets : (a : Block) (bs : List Block) → is_clear a bs ≡ false → MissesAll a bs → ⊥
meets a [] t m = absurd cc
meets a (b ∷ bs) t m = by (meets a bs) (leb (end_of a) b.base || leb (end_of b) a.base) refl t
  where
    by : (is_clear a bs ≡ false → MissesAll a bs → ⊥) → (one : Bool) → (leb (end_of a) b.base || leb (end_of b) a.base) ≡ one → (one && is_clear a bs) ≡ false → ⊥
    by rest true e t = rest t m.1
    by rest false e t = meets_by a b (leb (end_of a) b.base) (leb (end_of b) a.base) refl refl e m.0

-- ---- Multiples

-- of two multiples the higher one is at least a step higher
next_multiple : (p q e : ℕ) → p % 2 ^ e ≡ 0 → q % 2 ^ e ≡ 0 → p < q → p + 2 ^ e ≤ q
next_multiple p q e a b l =
    let s = shr_split p e in
    let t = shr_split q e in
    let n = pow_pos e in
    let above : p / 2 ^ e < q / 2 ^ e = by p q e s t a b l in
    let more : (p / 2 ^ e + 1) * 2 ^ e ≤ q / 2 ^ e * 2 ^ e = grows (p / 2 ^ e + 1) (q / 2 ^ e) (2 ^ e) (omega (arith, above)) in
    omega (arith, s, t, a, b, more)
  where
    grows : (x y n : ℕ) → x ≤ y → x * n ≤ y * n
    grows x y zero h = omega arith
    grows x y (suc n) h = let r = grows x y n h in omega (arith, r, h)

    by : (p q e : ℕ) → p / 2 ^ e * 2 ^ e + p % 2 ^ e ≡ p → q / 2 ^ e * 2 ^ e + q % 2 ^ e ≡ q → p % 2 ^ e ≡ 0 → q % 2 ^ e ≡ 0 → p < q → p / 2 ^ e < q / 2 ^ e
    by p q e s t a b l = at (leb (q / 2 ^ e) (p / 2 ^ e)) refl
      where
        at : (x : Bool) → leb (q / 2 ^ e) (p / 2 ^ e) ≡ x → p / 2 ^ e < q / 2 ^ e
        at true x = let le = grows (q / 2 ^ e) (p / 2 ^ e) (2 ^ e) (leb-true _ _ x) in absurd (omega (arith, s, t, a, b, l, le))
        at false x = leb-false (q / 2 ^ e) (p / 2 ^ e) x

after : (p e : ℕ) → p % 2 ^ e ≡ 0 → (p + 2 ^ e) % 2 ^ e ≡ 0
after p e h =
    let q = p / 2 ^ e in
    let split = shr_split p e in
    let again : p + 2 ^ e ≡ (q + 1) * 2 ^ e + 0 = omega (arith, split, h) in
    ap (λ (m : ℕ). m % 2 ^ e) again ∙ mod_low (q + 1) e 0 (pow_pos e)

-- ---- The first of some places

-- what the first of the places from p on is, where none before is one
least_from : (places p e : ℕ) (bs : List Block) → 16777216 ≤ p → p % 2 ^ e ≡ 0 → p + places * 2 ^ e ≡ 33554432 → ((q : ℕ) → IsRoom bs e q → p ≤ q) → IsPlaceOf bs e (first_of places p e bs)
unfolding first_of
least_from zero p e bs low a sum before = λ q r. let n = pow_pos e in let b = before q r in let h = r.high in absurd (omega (arith, b, h, sum, n))
least_from (suc places) p e bs low a sum before =
    by (λ before. least_from places (p + 2 ^ e) e bs (omega (arith, low)) (after p e a) (omega (arith, sum)) before) (is_clear (block_at p e) bs) refl
  where
    higher : is_clear (block_at p e) bs ≡ false → (q : ℕ) → IsRoom bs e q → (y : Bool) → leb q p ≡ y → p + 2 ^ e ≤ q
    higher c q r true y =
        let le = leb-true q p y in
        let ge = before q r in
        let same : q ≡ p = omega (arith, le, ge) in
        absurd (meets (block_at p e) bs c (subst (λ (k : ℕ). MissesAll (block_at k e) bs) same r.clear))
    higher c q r false y = next_multiple p q e a r.aligned (leb-false q p y)

    by : (((q : ℕ) → IsRoom bs e q → p + 2 ^ e ≤ q) → IsPlaceOf bs e (first_of places (p + 2 ^ e) e bs)) → (clear : Bool) → is_clear (block_at p e) bs ≡ clear → IsPlaceOf bs e (place_or clear p (first_of places (p + 2 ^ e) e) bs)
    by rest true c = (record { low = low; high = omega (arith, sum); aligned = a; clear = clear_by (block_at p e) bs c }, before)
    by rest false c = rest (λ q r. higher c q r (leb q p) refl)

pub whole : (e : ℕ) → e ≤ 24 → 16777216 + 2 ^ (24 - e) * 2 ^ e ≡ 33554432
whole e h =
    let k : 24 - e + e ≡ 24 = omega (arith, h) in
    let p : 2 ^ (24 - e) * 2 ^ e ≡ 2 ^ 24 = sym (pow-add 2 (24 - e) e) ∙ ap (λ (n : ℕ). 2 ^ n) k in
    omega (arith, p)

heap_aligned : (e : ℕ) → e ≤ 24 → 16777216 % 2 ^ e ≡ 0
heap_aligned e h =
    let k : 24 - e + e ≡ 24 = omega (arith, h) in
    let p : 2 ^ (24 - e) * 2 ^ e ≡ 2 ^ 24 = sym (pow-add 2 (24 - e) e) ∙ ap (λ (n : ℕ). 2 ^ n) k in
    let again : 16777216 ≡ 2 ^ (24 - e) * 2 ^ e + 0 = omega (arith, p) in
    ap (λ (m : ℕ). m % 2 ^ e) again ∙ mod_low (2 ^ (24 - e)) e 0 (pow_pos e)

pub place_least : (bs : List Block) (e : ℕ) → e ≤ 24 → IsPlaceOf bs e (place_of bs e)
unfolding place_of
place_least bs e h = least_from (2 ^ (24 - e)) 16777216 e bs (omega arith) (heap_aligned e h) (whole e h) (λ q r. r.low)

pub one_place : (bs : List Block) (e : ℕ) (a b : Option ℕ) → IsPlaceOf bs e a → IsPlaceOf bs e b → a ≡ b
one_place bs e None None p q = refl
one_place bs e None (Some b) p q = absurd (p b q.0)
one_place bs e (Some a) None p q = absurd (q a p.0)
one_place bs e (Some a) (Some b) p q = let l = p.1 b q.0 in let r = q.1 a p.0 in ap Some (omega (arith, l, r))
