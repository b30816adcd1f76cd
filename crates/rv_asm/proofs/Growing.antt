-- Places that get better end, and then they are right.
use Rattle.std.proofs.Common.{◌≡◌, ℕ, zero, suc, ◌+◌, ◌-◌, ◌<◌, ◌≤◌, ◌⊎◌, List, length, get_or, set, drop, refl, sym, ap, inl, inr, ◌∙◌, add-zero, get_or-set_same, get_or-set_other, arith}
use Rattle.std.proofs.lemmas.Bool.{cases_lt}
use Rattle.std.proofs.lemmas.List.Elements.{All-get_or, All-from_get_or}
use Rattle.std.specs.Prelude.{All}
use Rattle.std.proofs.lemmas.List.{drop_more}
use Rattle.rv_code.specs.declared.instr.Instr.TheVariants.{Lui}
use Rattle.rv_asm.specs.declared.parts.Part.{Part}
use Rattle.rv_asm.specs.declared.parts.Part.TheVariants.{Plain}
use Rattle.rv_asm.specs.Parts.{GoesOnce, AreParts, long_size, long_sizes}
use Rattle.rv_asm.specs.Text.{code_of}
use Rattle.rv_asm.specs.Resolving.{target_in, part_at, size_at, ArePlaces, AreNext}
use Rattle.rv_asm.proofs.Reach.{IsFarther, Forward, Backward, part_longer, part_most}
use Rattle.rv_asm.proofs.Labelling.{target_within}

-- places rise
unfoldable pub Rise : ℕ → List ℕ → Type 0
Rise n p = (i j : ℕ) → i ≤ j → j ≤ n → get_or p i 0 ≤ get_or p j 0

-- no two places are nearer in the second list
unfoldable pub Grow : ℕ → List ℕ → List ℕ → Type 0
Grow n p q = (i j : ℕ) → i ≤ j → j ≤ n → get_or p j 0 + get_or q i 0 ≤ get_or q j 0 + get_or p i 0

pub next_rises : (parts : List Part) (p q : List ℕ) → AreNext parts p q → Rise (length parts) q
unfolding Rise
next_rises parts p q next = λ i j le high. by i (j - i) j (omega (arith, le)) high
  where
    by : (i d j : ℕ) → j ≡ i + d → j ≤ length parts → get_or q i 0 ≤ get_or q j 0
    by i zero j e high = omega (arith, ap (λ (k : ℕ). get_or q k 0) (e ∙ add-zero i))
    by i (suc d) j e high =
        let last : j ≡ (i + d) + 1 = omega (arith, e) in
        omega (arith, by i d (i + d) refl (omega (arith, e, high)), next.each (i + d) (omega (arith, e, high)), ap (λ (k : ℕ). get_or q k 0) last)

-- the distance from a place to another
farther : (n k t : ℕ) (p q : List ℕ) → Rise n p → Rise n q → Grow n p q → k ≤ n → t ≤ n → (k < t) ⊎ (t ≤ k) → IsFarther (get_or p k 0) (get_or p t 0) (get_or q k 0) (get_or q t 0)
unfolding Rise Grow
farther n k t p q rp rq g hk ht (inl le) = let low : k ≤ t = omega (arith, le) in Forward (rp k t low ht) (rq k t low ht) (g k t low ht)
farther n k t p q rp rq g hk ht (inr le) = Backward (rp t k le hk) (rq t k le hk) (omega (arith, g t k le hk))

-- better places of better places
pub next_grows : (parts : List Part) (p q p' q' : List ℕ) → ((k : ℕ) → k < length parts → target_in parts (part_at parts k) ≤ length parts) → Rise (length parts) p → Rise (length parts) q → Grow (length parts) p q → AreNext parts p p' → AreNext parts q q' → Grow (length parts) p' q'
unfolding Grow
next_grows parts p q p' q' targets rp rq g np nq = λ i j le high. by i (j - i) j (omega (arith, le)) high
  where
    by : (i d j : ℕ) → j ≡ i + d → j ≤ length parts → get_or p' j 0 + get_or q' i 0 ≤ get_or q' j 0 + get_or p' i 0
    by i zero j e high = omega (arith, ap (λ (k : ℕ). get_or q' k 0) (e ∙ add-zero i), ap (λ (k : ℕ). get_or p' k 0) (e ∙ add-zero i))
    by i (suc d) j e high =
        let k = i + d in
        let low : k < length parts = omega (arith, e, high) in
        let t = target_in parts (part_at parts k) in
        let far = farther (length parts) k t p q rp rq g (omega (arith, low)) (targets k low) (cases_lt k t) in
        let longer : length (code_of (part_at parts k) (get_or p k 0) (get_or p t 0)) ≤ length (code_of (part_at parts k) (get_or q k 0) (get_or q t 0)) = part_longer (part_at parts k) (get_or p k 0) (get_or p t 0) (get_or q k 0) (get_or q t 0) far in
        let last : j ≡ k + 1 = omega (arith, e) in
        omega (arith, by i d k refl (omega (arith, low)), np.each k low, nq.each k low, longer, ap (λ (m : ℕ). get_or p' m 0) last, ap (λ (m : ℕ). get_or q' m 0) last)

-- at the start all parts stand at one place
pub same_grow : (n c : ℕ) (p q : List ℕ) → ((k : ℕ) → k ≤ n → get_or p k 0 ≡ c) → Rise n q → Grow n p q
unfolding Rise Grow
same_grow n c p q same r = λ i j le high. omega (arith, same i (omega (arith, le, high)), same j high, r i j le high)

pub same_rise : (n c : ℕ) (p : List ℕ) → ((k : ℕ) → k ≤ n → get_or p k 0 ≡ c) → Rise n p
unfolding Rise
same_rise n c p same = λ i j le high. omega (arith, same i (omega (arith, le, high)), same j high)

-- where the end stays, all places stay
pub end_stays : (n : ℕ) (p q : List ℕ) → Grow n p q → get_or p 0 0 ≡ get_or q 0 0 → get_or p n 0 ≡ get_or q n 0 → (k : ℕ) → k ≤ n → get_or p k 0 ≡ get_or q k 0
unfolding Grow
end_stays n p q g first last k high = omega (arith, first, last, g 0 k (omega arith) high, g k n high (omega arith))

-- else it rises
pub end_rises : (n : ℕ) (p q : List ℕ) → Grow n p q → get_or p 0 0 ≡ get_or q 0 0 → get_or p n 0 ≤ get_or q n 0
unfolding Grow
end_rises n p q g first = omega (arith, first, g 0 n (omega arith) (omega arith))

-- ---- Places that get better

-- the next places move apart
pub record IsSettling (parts : List Part) (p : List ℕ) : Type 0 where
  pub first : get_or p 0 0 ≡ 4096
  pub rise : Rise (length parts) p
  pub grow : (q : List ℕ) → AreNext parts p q → Grow (length parts) p q

pub settling_start : (parts : List Part) (p : List ℕ) → ((k : ℕ) → k ≤ length parts → get_or p k 0 ≡ 4096) → IsSettling parts p
settling_start parts p same = record {
  first = same 0 (omega arith);
  rise = same_rise (length parts) 4096 p same;
  grow = λ q next. same_grow (length parts) 4096 p q same (next_rises parts p q next);
}

pub settling_next : (parts : List Part) (p q : List ℕ) → AreParts parts → IsSettling parts p → AreNext parts p q → IsSettling parts q
settling_next parts p q ok s next = record {
  first = next.first;
  rise = next_rises parts p q next;
  grow = λ r after. next_grows parts p q q r targets s.rise (next_rises parts p q next) (s.grow q next) next after;
}
  where
    targets : (k : ℕ) → k < length parts → target_in parts (part_at parts k) ≤ length parts
    targets k low = target_within parts (part_at parts k) (All-get_or (GoesOnce parts) parts k (Plain (Lui 0 0)) low ok.once)

-- where the end stays, the places are their own next ones
pub stays_next : (parts : List Part) (p q : List ℕ) → IsSettling parts p → AreNext parts p q → get_or q (length parts) 0 ≡ get_or p (length parts) 0 → AreNext parts p p
stays_next parts p q s next end = record {
  first = s.first;
  each = λ k low. same (k + 1) (omega (arith, low)) ∙ next.each k low ∙ ap (λ (n : ℕ). n + size_at parts p k) (sym (same k (omega (arith, low))));
  last = omega (arith, next.last, end);
}
  where
    same : (k : ℕ) → k ≤ length parts → get_or p k 0 ≡ get_or q k 0
    same = end_stays (length parts) p q (s.grow q next) (s.first ∙ sym next.first) (sym end)

pub end_grows : (parts : List Part) (p q : List ℕ) → IsSettling parts p → AreNext parts p q → get_or p (length parts) 0 ≤ get_or q (length parts) 0
end_grows parts p q s next = end_rises (length parts) p q (s.grow q next) (s.first ∙ sym next.first)

-- ---- The next places, one by one

-- the first parts have their next places, and the others have room behind them
pub record AreNextTo (parts : List Part) (places next : List ℕ) (k : ℕ) : Type 0 where
  pub first : get_or next 0 0 ≡ 4096
  pub each : (j : ℕ) → j < k → get_or next (j + 1) 0 ≡ get_or next j 0 + size_at parts places j
  pub room : get_or next k 0 + long_sizes (drop k parts) ≤ 4096 + long_sizes parts

pub next_start : (parts : List Part) (places next : List ℕ) → get_or next 0 0 ≡ 4096 → AreNextTo parts places next 0
next_start parts places next first = record { first = first; each = λ j below. absurd (omega (arith, below)); room = omega (arith, first) }

long_next : (parts : List Part) (k : ℕ) → k < length parts → long_sizes (drop k parts) ≡ long_size (part_at parts k) + long_sizes (drop (k + 1) parts)
long_next parts k low = ap long_sizes (drop_more parts k (Plain (Lui 0 0)) low)

pub room_left : (parts : List Part) (places next : List ℕ) (k : ℕ) → AreNextTo parts places next k → k < length parts → long_sizes parts ≤ 2093056 → get_or next k 0 + size_at parts places k ≤ 2097152
room_left parts places next k n low size =
    omega (arith, n.room, long_next parts k low, size, part_most (part_at parts k) (get_or places k 0) (get_or places (target_in parts (part_at parts k)) 0))

pub next_more : (parts : List Part) (places old new : List ℕ) (k : ℕ) → AreNextTo parts places old k → k < length parts → length old ≡ length parts + 1 → new ≡ set old (k + 1) (get_or old k 0 + size_at parts places k) → AreNextTo parts places new (k + 1)
next_more parts places old new k n low long is = record { first = other 0 (omega arith) ∙ n.first; each = each; room = room }
  where
    other : (j : ℕ) → j < k + 1 → get_or new j 0 ≡ get_or old j 0
    other j below = ap (λ (xs : List ℕ). get_or xs j 0) is ∙ get_or-set_other old (k + 1) j (get_or old k 0 + size_at parts places k) 0 (omega (arith, below))

    this : get_or new (k + 1) 0 ≡ get_or old k 0 + size_at parts places k
    this = ap (λ (xs : List ℕ). get_or xs (k + 1) 0) is ∙ get_or-set_same old (k + 1) (get_or old k 0 + size_at parts places k) 0 (omega (arith, low, long))

    each : (j : ℕ) → j < k + 1 → get_or new (j + 1) 0 ≡ get_or new j 0 + size_at parts places j
    each j below = by (cases_lt j k)
      where
        by : (j < k) ⊎ (k ≤ j) → get_or new (j + 1) 0 ≡ get_or new j 0 + size_at parts places j
        by (inl less) = other (j + 1) (omega (arith, less)) ∙ n.each j less ∙ ap (λ (m : ℕ). m + size_at parts places j) (sym (other j below))
        by (inr more) =
            let same : j ≡ k = omega (arith, below, more) in
            ap (λ (m : ℕ). get_or new (m + 1) 0) same ∙ this ∙ ap (λ (m : ℕ). m + size_at parts places k) (sym (other k (omega arith))) ∙ ap (λ (m : ℕ). get_or new m 0 + size_at parts places m) (sym same)

    room : get_or new (k + 1) 0 + long_sizes (drop (k + 1) parts) ≤ 4096 + long_sizes parts
    room = omega (arith, this, n.room, long_next parts k low, part_most (part_at parts k) (get_or places k 0) (get_or places (target_in parts (part_at parts k)) 0))

pub next_whole : (parts : List Part) (places next : List ℕ) (k : ℕ) → k ≡ length parts → AreNextTo parts places next k → AreNext parts places next
next_whole parts places next k end n = record {
  first = n.first;
  each = λ j low. n.each j (omega (arith, low, end));
  last = omega (arith, n.room, ap (λ (m : ℕ). get_or next m 0) end);
}

-- and none is past the end
pub next_places : (parts : List Part) (places next : List ℕ) → length next ≡ length parts + 1 → long_sizes parts ≤ 2093056 → AreNext parts places next → ArePlaces parts next
unfolding Rise
next_places parts places next count size n = record {
  count = count;
  high = All-from_get_or (λ (place : ℕ). place ≤ 2097152) next 0 (λ j low. omega (arith, n.last, size, next_rises parts places next n j (length parts) (omega (arith, low, count)) (omega arith)));
}

-- the places at the start
pub places_start : (parts : List Part) (p q : List ℕ) → length p ≡ length parts + 1 → length q ≡ length parts + 1 → All (λ place. place ≡ 4096) p → All (λ place. place ≡ 4096) q → IsSettling parts p × ArePlaces parts p × (get_or q 0 0 ≡ 4096)
places_start parts p q cp cq ap' aq =
    let at : (k : ℕ) → k ≤ length parts → get_or p k 0 ≡ 4096 = λ k high. All-get_or (λ (place : ℕ). place ≡ 4096) p k 0 (omega (arith, cp, high)) ap' in (
      settling_start parts p at,
      record { count = cp; high = All-from_get_or (λ (place : ℕ). place ≤ 2097152) p 0 (λ k low. omega (arith, All-get_or (λ (place : ℕ). place ≡ 4096) p k 0 low ap')) },
      All-get_or (λ (place : ℕ). place ≡ 4096) q 0 0 (omega (arith, cq)) aq,
    )

-- what is left below an end falls
pub left_falls : (end p q : ℕ) → p ≤ q → (q ≡ p → ⊥) → q ≤ end → end - q < end - p
left_falls end p q le ne high = grind (arith, ne)
