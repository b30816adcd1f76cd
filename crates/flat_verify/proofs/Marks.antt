-- Marks that no rule changes are those that are reached.
use Rattle.std.proofs.Common.{◌≡◌, ◌<◌, ◌≤◌, ◌⊎◌, ℕ, zero, suc, ◌+◌, List, [], ◌∷◌, ◌++◌, inl, inr, Bool, true, false, refl, sym, ap, ◌∙◌, subst, cond, arith, length, get_or, set, drop, replicate, ◌-◌, true≢false}
use Rattle.std.proofs.lemmas.List.{get_or-set_same, length-set, drop_more}
use Rattle.std.specs.List.{Contains}
use Rattle.std.proofs.lemmas.List.Elements.{Contains-append_left, Contains-append_right, Contains-append_cases}
use Rattle.std.specs.Prelude.{slice_index_or}
use Rattle.flat_verify.specs.declared.reach.Stretch.{Stretch}
use Rattle.flat_verify.specs.Reach.{Rule, rule, Reached, rules_from, rules_of, IsBelow, AreBelow, is_marked, led_by, led_by_all, unmarked}

-- ---- What rules change

pub length_led : (r : Rule) (m : List Bool) → length (led_by r m) ≡ length m
length_led r m = by (is_marked m r.from)
  where
    by : (b : Bool) → length (cond b (set m r.to true) m) ≡ length m
    by true = length-set m r.to true
    by false = refl

pub length_led_all : (rs : List Rule) (m : List Bool) → length (led_by_all rs m) ≡ length m
length_led_all [] m = refl
length_led_all (r ∷ rs) m = length_led_all rs (led_by r m) ∙ length_led r m

-- what is marked stays so
pub marked_set : (m : List Bool) (k n : ℕ) → is_marked m n ≡ true → is_marked (set m k true) n ≡ true
marked_set [] k n h = h
marked_set (x ∷ xs) zero zero h = refl
marked_set (x ∷ xs) zero (suc n) h = h
marked_set (x ∷ xs) (suc k) zero h = h
marked_set (x ∷ xs) (suc k) (suc n) h = marked_set xs k n h

pub marked_at : (m : List Bool) (k : ℕ) → k < length m → is_marked (set m k true) k ≡ true
marked_at m k h = get_or-set_same m k true false h

-- what is marked after a set was marked, or is the place that was set
pub set_marked : (m : List Bool) (k n : ℕ) → is_marked (set m k true) n ≡ true → (is_marked m n ≡ true) ⊎ (n ≡ k)
set_marked [] k n h = inl h
set_marked (x ∷ xs) zero zero h = inr refl
set_marked (x ∷ xs) zero (suc n) h = inl h
set_marked (x ∷ xs) (suc k) zero h = inl h
set_marked (x ∷ xs) (suc k) (suc n) h = on (set_marked xs k n h)
  where
    on : (is_marked xs n ≡ true) ⊎ (n ≡ k) → (is_marked xs n ≡ true) ⊎ (suc n ≡ suc k)
    on (inl e) = inl e
    on (inr e) = inr (ap suc e)

-- a place that is marked is set to what it is
pub set_same : (m : List Bool) (k : ℕ) → is_marked m k ≡ true → set m k true ≡ m
set_same [] k h = refl
set_same (x ∷ xs) zero h = ap (λ (b : Bool). b ∷ xs) (sym h)
set_same (x ∷ xs) (suc k) h = ap (λ l. x ∷ l) (set_same xs k h)

pub fewer_unmarked : (m : List Bool) (k : ℕ) → k < length m → is_marked m k ≡ false → unmarked (set m k true) < unmarked m
fewer_unmarked [] k l h = absurd (omega (arith, l))
fewer_unmarked (true ∷ xs) zero l h = absurd (true≢false h)
fewer_unmarked (false ∷ xs) zero l h = omega arith
fewer_unmarked (true ∷ xs) (suc k) l h = fewer_unmarked xs k (omega (arith, l)) h
fewer_unmarked (false ∷ xs) (suc k) l h = omega (arith, fewer_unmarked xs k (omega (arith, l)) h)

pub led_if : (m : List Bool) (r : Rule) (b : Bool) → is_marked m r.from ≡ b → led_by r m ≡ cond b (set m r.to true) m
led_if m r b e = ap (λ x. cond x (set m r.to true) m) e

pub stays_led : (r : Rule) (m : List Bool) (n : ℕ) → is_marked m n ≡ true → is_marked (led_by r m) n ≡ true
stays_led r m n h = by (is_marked m r.from)
  where
    by : (b : Bool) → is_marked (cond b (set m r.to true) m) n ≡ true
    by true = marked_set m r.to n h
    by false = h

pub stays_led_all : (rs : List Rule) (m : List Bool) (n : ℕ) → is_marked m n ≡ true → is_marked (led_by_all rs m) n ≡ true
stays_led_all [] m n h = h
stays_led_all (r ∷ rs) m n h = stays_led_all rs (led_by r m) n (stays_led r m n h)

-- ---- One list of rules after another

pub led_append : (xs ys : List Rule) (m : List Bool) → led_by_all (xs ++ ys) m ≡ led_by_all ys (led_by_all xs m)
led_append [] ys m = refl
led_append (x ∷ xs) ys m = led_append xs ys (led_by x m)

-- ---- What is marked is reached

abbrev pub AreReached : List Rule → List Bool → Type 0
AreReached all m = (n : ℕ) → is_marked m n ≡ true → Reached all n

pub reached_led : (all : List Rule) (r : Rule) (m : List Bool) → Contains all r → AreReached all m → AreReached all (led_by r m)
reached_led all r m is h = by (is_marked m r.from) refl
  where
    to : is_marked m r.from ≡ true → (n : ℕ) → (is_marked m n ≡ true) ⊎ (n ≡ r.to) → Reached all n
    to from n (inl e) = h n e
    to from n (inr e) = subst (λ k. Reached all k) (sym e) (Reached.led r.from r.to is (h r.from from))

    by : (b : Bool) → is_marked m r.from ≡ b → AreReached all (cond b (set m r.to true) m)
    by true from = λ n e. to from n (set_marked m r.to n e)
    by false from = h

pub reached_led_all : (all rs : List Rule) (m : List Bool) → ((r : Rule) → Contains rs r → Contains all r) → AreReached all m → AreReached all (led_by_all rs m)
reached_led_all all [] m are h = h
reached_led_all all (r ∷ rs) m are h =
    reached_led_all all rs (led_by r m) (λ x c. are x (Contains-append_right (r ∷ []) rs x c)) (reached_led all r m (are r (Contains-append_left (r ∷ []) rs r (0, omega arith, refl))) h)

-- ---- What no rule changes has all that is reached

-- each rule leads to a place that there is
abbrev pub Within : (n : ℕ) → List Rule → Type 0
Within n rs = (r : Rule) → Contains rs r → r.to < n

abbrev pub IsClosed : List Bool → Rule → Type 0
IsClosed m r = is_marked m r.from ≡ true → is_marked m r.to ≡ true

pub unchanged_closed : (rs : List Rule) (m : List Bool) → led_by_all rs m ≡ m → Within (length m) rs → (r : Rule) → Contains rs r → IsClosed m r
unchanged_closed [] m e w r c = absurd (omega (arith, c.1))
unchanged_closed (x ∷ xs) m e w r c = on c.0 c.1 c.2 (λ later k l is. unchanged_closed xs m later (λ y d. w y (Contains-append_right (x ∷ []) xs y d)) r (k, l, is))
  where
    first : IsClosed m x
    first from =
        sym (ap (λ l. is_marked l x.to) e)
        ∙ stays_led_all xs (led_by x m) x.to (ap (λ l. is_marked l x.to) (led_if m x true from) ∙ marked_at m x.to (w x (0, omega arith, refl)))

    step : (b : Bool) → is_marked m x.from ≡ b → led_by x m ≡ m
    step true from = led_if m x true from ∙ set_same m x.to (first from)
    step false from = led_if m x false from

    later : led_by_all xs m ≡ m
    later = sym (ap (led_by_all xs) (step (is_marked m x.from) refl)) ∙ e

    on : (k : ℕ) → k < length (x ∷ xs) → slice_index_or (x ∷ xs) k r ≡ r → (led_by_all xs m ≡ m → (j : ℕ) → j < length xs → slice_index_or xs j r ≡ r → IsClosed m r) → IsClosed m r
    on zero l is more = subst (IsClosed m) is first
    on (suc k) l is more = more later k (omega (arith, l)) is

pub all_marked : (rs : List Rule) (m : List Bool) → ((r : Rule) → Contains rs r → IsClosed m r) → is_marked m 0 ≡ true → (n : ℕ) → Reached rs n → is_marked m n ≡ true
all_marked rs m closed first _ Reached.origin = first
all_marked rs m closed first _ (Reached.led a b is r) = closed (rule a b) is (all_marked rs m closed first a r)

-- ---- Stretches lead to places that there are

within_from : (from to count n : ℕ) → to + count ≤ n → Within n (rules_from from to count)
within_from from to zero n h r c = absurd (omega (arith, c.1))
within_from from to (suc k) n h r c = on c.0 c.1 c.2 (λ i l is. within_from (from + 1) (to + 1) k n (omega (arith, h)) r (i, l, is))
  where
    on : (i : ℕ) → i < length (rules_from from to (suc k)) → slice_index_or (rules_from from to (suc k)) i r ≡ r → ((j : ℕ) → j < length (rules_from (from + 1) (to + 1) k) → slice_index_or (rules_from (from + 1) (to + 1) k) j r ≡ r → r.to < n) → r.to < n
    on zero l is more = subst (λ (x : Rule). x.to < n) is (omega (arith, h))
    on (suc i) l is more = more i (omega (arith, l)) is

pub within : (n : ℕ) (ss : List Stretch) → AreBelow n ss → Within n (rules_of ss)
within n [] a r c = absurd (omega (arith, c.1))
within n (s ∷ ss) a r c = on (Contains-append_cases (rules_from s.from s.to s.count) (rules_of ss) r c) (within n ss a.1 r)
  where
    on : Contains (rules_from s.from s.to s.count) r ⊎ Contains (rules_of ss) r → (Contains (rules_of ss) r → r.to < n) → r.to < n
    on (inl d) more = within_from s.from s.to s.count n a.0.1 r d
    on (inr d) more = more d

-- ---- Loops

-- the next rules of a stretch, and the next stretch
pub next_rules : (from to count i : ℕ) (m : List Bool) → i < count → led_by_all (rules_from (from + i) (to + i) (count - i)) m ≡ led_by_all (rules_from (from + i + 1) (to + i + 1) (count - (i + 1))) (led_by (rule (from + i) (to + i)) m)
next_rules from to count i m l = let e : count - i ≡ suc (count - (i + 1)) = omega (arith, l) in rw e refl

pub next_stretch : (ss : List Stretch) (i : ℕ) (d : Stretch) (m : List Bool) → i < length ss → led_by_all (rules_of (drop i ss)) m ≡ led_by_all (rules_of (drop (i + 1) ss)) (led_by_all (rules_from (get_or ss i d).from (get_or ss i d).to (get_or ss i d).count) m)
next_stretch ss i d m l = rw (drop_more ss i d l) (led_append (rules_from (get_or ss i d).from (get_or ss i d).to (get_or ss i d).count) (rules_of (drop (i + 1) ss)) m)

pub below_at : (n : ℕ) (ss : List Stretch) (i : ℕ) (d : Stretch) → AreBelow n ss → i < length ss → IsBelow n (get_or ss i d)
below_at n [] i d a l = absurd (omega (arith, l))
below_at n (s ∷ ss) zero d a l = a.0
below_at n (s ∷ ss) (suc i) d a l = below_at n ss i d a.1 (omega (arith, l))

-- Some of the rules are done: those that are left make of the marks now what all make of the first. Either nothing was
-- marked, or something was.
pub record Went (all left : List Rule) (first now : List Bool) (changed : Bool) : Type 0 where
  pub led : led_by_all left now ≡ led_by_all all first
  pub same : changed ≡ false → now ≡ first
  pub fewer : changed ≡ true → unmarked now < unmarked first
  pub count : length now ≡ length first

-- after further rules that marked something, or nothing
pub went_on : (all left rest : List Rule) (first now new : List Bool) (changed more : Bool) → Went all left first now changed → led_by_all left now ≡ led_by_all rest new → length new ≡ length now
    → (more ≡ false → new ≡ now) → (more ≡ true → unmarked new < unmarked now) → Went all rest first new (cond more true changed)
went_on all left rest first now new true true w e n same fewer = record { led = sym e ∙ w.led; same = λ z. absurd (true≢false z); fewer = λ _. omega (arith, fewer refl, w.fewer refl); count = n ∙ w.count }
went_on all left rest first now new true false w e n same fewer = record { led = sym e ∙ w.led; same = λ z. absurd (true≢false z); fewer = λ _. subst (λ l. unmarked l < unmarked first) (sym (same refl)) (w.fewer refl); count = n ∙ w.count }
went_on all left rest first now new false true w e n same fewer = record { led = sym e ∙ w.led; same = λ z. absurd (true≢false z); fewer = λ _. subst (λ l. unmarked new < unmarked l) (w.same refl) (fewer refl); count = n ∙ w.count }
went_on all left rest first now new false false w e n same fewer = record { led = sym e ∙ w.led; same = λ _. same refl ∙ w.same refl; fewer = λ z. absurd (true≢false (sym z)); count = n ∙ w.count }

pub went_to : (all left rest : List Rule) (first now new : List Bool) (changed more after : Bool) → Went all left first now changed → led_by_all left now ≡ led_by_all rest new → length new ≡ length now
    → (more ≡ false → new ≡ now) → (more ≡ true → unmarked new < unmarked now) → ((more ≡ true) × (after ≡ true)) ⊎ ((more ≡ false) × (after ≡ changed)) → Went all rest first new after
went_to all left rest first now new changed more after w e n same fewer (inl (m, a)) = subst (Went all rest first new) (ap (λ b. cond b true changed) m ∙ sym a) (went_on all left rest first now new changed more w e n same fewer)
went_to all left rest first now new changed more after w e n same fewer (inr (m, a)) = subst (Went all rest first new) (ap (λ b. cond b true changed) m ∙ sym a) (went_on all left rest first now new changed more w e n same fewer)

-- ---- Passes

pub settled : (ss : List Stretch) (old new : List Bool) → AreBelow (length old) ss → is_marked old 0 ≡ true → new ≡ led_by_all (rules_of ss) old → new ≡ old → (n : ℕ) → Reached (rules_of ss) n → is_marked new n ≡ true
settled ss old new below first led same n r =
    ap (λ l. is_marked l n) same ∙ all_marked (rules_of ss) old (unchanged_closed (rules_of ss) old (sym led ∙ same) (within (length old) ss below)) first n r

pub passed : (ss : List Stretch) (old new : List Bool) → new ≡ led_by_all (rules_of ss) old → (n : ℕ) → length old ≡ n → is_marked old 0 ≡ true → AreReached (rules_of ss) old → (length new ≡ n) × (is_marked new 0 ≡ true) × AreReached (rules_of ss) new
passed ss old new led n count first are = rw led (length_led_all (rules_of ss) old ∙ count, stays_led_all (rules_of ss) old 0 first, reached_led_all (rules_of ss) (rules_of ss) old (λ r c. c) are)

pub none_marked : (count n : ℕ) → is_marked (replicate count false) n ≡ false
none_marked zero n = refl
none_marked (suc k) zero = refl
none_marked (suc k) (suc n) = none_marked k n

pub only_first : (rs : List Rule) (m : List Bool) → ((n : ℕ) → is_marked m n ≡ false) → AreReached rs (set m 0 true)
only_first rs m none n e = by (set_marked m 0 n e)
  where
    by : (is_marked m n ≡ true) ⊎ (n ≡ 0) → Reached rs n
    by (inl h) = absurd (true≢false (sym h ∙ none n))
    by (inr h) = subst (λ k. Reached rs k) (sym h) Reached.origin
