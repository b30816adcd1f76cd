-- The rules of sheets, taken apart one by one and put together; and which facts are asked.
use Rattle.std.proofs.Common.{◌≡◌, ◌<◌, ◌⊎◌, ℕ, zero, suc, ◌+◌, ◌*◌, List, [], ◌∷◌, inl, inr, Option, Some, None, Bool, true, false, refl, sym, subst, cond, arith, length, nat_lt, true≢false}
use Rattle.std.specs.Prelude.{slice_get, slice_index_or, ◌==◌, ◌||◌}
use Rattle.std.specs.List.{Contains}
use Rattle.std.proofs.lemmas.List.Elements.{Contains-append_left, Contains-append_right}
use Rattle.flat_discipline.specs.Facts.{Fact, Source, held_if, gone_if, gives, spans, may_set, is_among, temporaries}
use Rattle.flat_verify.specs.Effects.{Effect, source_by}
use Rattle.flat_verify.specs.Links.{OfEach, Link}
use Rattle.flat_verify.specs.Reach.{Rule, rule}
use Rattle.flat_verify.specs.Sheets.{Sheet, none_unless, fact_at, cell, fact_cell, rule_if, rule_both, source_cell, goes_rules, passes_rules, link_rules, links_rules, start_rules, sheet_rules, rules_after, is_some, is_asked, in_values, IsAsked, IsCovered}
use Rattle.flat_verify.proofs.Links.{each_append, each_first, each_second}
use Rattle.flat_verify.proofs.Cells.{not_none, same_number, same_sheet}

-- ---- Where facts come from

-- of a step that sets a value, an untainted fact comes from what the step says; any other from itself
from_itself : (b : Bool) (x y : Fact) → held_if b (Source.From x) ≡ Source.From y → x ≡ y
from_itself true x y e = absurd (no e)
  where
    no : Source.Held ≡ Source.From y → ⊥
    no e = cc
from_itself false x y e = cc

unless_gone : (b : Bool) (x y : Fact) → gone_if b (Source.From x) ≡ Source.From y → x ≡ y
unless_gone true x y e = absurd (no e)
  where
    no : Source.Gone ≡ Source.From y → ⊥
    no e = cc
unless_gone false x y e = cc

unless_either : (b c : Bool) (x y : Fact) → held_if b (gone_if c (Source.From x)) ≡ Source.From y → x ≡ y
unless_either true c x y e = absurd (no e)
  where
    no : Source.Held ≡ Source.From y → ⊥
    no e = cc
unless_either false c x y e = unless_gone c x y e

-- where a fact comes from is asked, if it is asked
pub asked_source : (s : Sheet) (e : Effect) (a b : ℕ) (x y : Fact) → IsCovered s (Link.Goes e a b) → is_asked s x ≡ true → source_by e x ≡ Source.From y → in_values s y ≡ true → is_asked s y ≡ true
asked_source s Effect.KeepsFacts a b x y c ask e m = subst (λ z. is_asked s z ≡ true) (from_itself false x y e) ask
asked_source s (Effect.Sets to clean ends) a b (Fact.Clean v) y c ask e m = by (v == to) e
  where
    by : (t : Bool) → cond t clean (Source.From (Fact.Clean v)) ≡ Source.From y → is_asked s y ≡ true
    by true e = subst (λ o. IsAsked s o) e c m
    by false e = subst (λ z. is_asked s z ≡ true) (from_itself false (Fact.Clean v) y e) ask
asked_source s (Effect.Sets to clean ends) a b (Fact.Own v) y c ask e m = subst (λ z. is_asked s z ≡ true) (from_itself (v == to) (Fact.Own v) y e) ask
asked_source s (Effect.Sets to clean ends) a b (Fact.Spanned p n) y c ask e m = subst (λ z. is_asked s z ≡ true) (unless_gone (ends || ((p == to) || (n == to))) (Fact.Spanned p n) y e) ask
asked_source s (Effect.Checks q) a b (Fact.Clean v) y c ask e m = subst (λ z. is_asked s z ≡ true) (unless_either (gives q v) (is_among v (temporaries q)) (Fact.Clean v) y e) ask
asked_source s (Effect.Checks q) a b (Fact.Own v) y c ask e m = subst (λ z. is_asked s z ≡ true) (unless_either (gives q v) (is_among v (temporaries q)) (Fact.Own v) y e) ask
asked_source s (Effect.Checks q) a b (Fact.Spanned p n) y c ask e m = subst (λ z. is_asked s z ≡ true) (unless_either (spans q p n) (may_set q p || may_set q n) (Fact.Spanned p n) y e) ask

pub asked_number : (o : Option ℕ) → is_some o ≡ true → (k : ℕ) × (o ≡ Some k)
asked_number None e = absurd (true≢false (sym e))
asked_number (Some k) e = (k, refl)

-- ---- Rules of a sheet, one by one

pub each_contained : {A : Type 0} (P : A → Type 0) (xs : List A) → ((x : A) → Contains xs x → P x) → OfEach P xs
each_contained P [] h = tt
each_contained P (x ∷ xs) h = (h x (Contains-append_left (x ∷ []) xs x (0, omega arith, refl)), each_contained P xs (λ y c. h y (Contains-append_right (x ∷ []) xs y c)))

pub contained_each : {A : Type 0} (P : A → Type 0) (xs : List A) (x : A) → OfEach P xs → Contains xs x → P x
contained_each P [] x h c = absurd (omega (arith, c.1))
contained_each P (y ∷ ys) x h (k, l, is) = at k l is (λ j m z. contained_each P ys x h.1 (j, m, z))
  where
    at : (k : ℕ) → k < length (y ∷ ys) → slice_index_or (y ∷ ys) k x ≡ x → ((j : ℕ) → j < length ys → slice_index_or ys j x ≡ x → P x) → P x
    at zero l is more = subst P is h.0
    at (suc j) l is more = more j (omega (arith, l)) is

module _ (P : Rule → Type 0) where
  pub goes_at : (functions : ℕ) (s : Sheet) (e : Effect) (a b n k : ℕ) → OfEach P (goes_rules functions s e a b n) → k < n → OfEach P (rule_if (source_cell functions s a (source_by e (fact_at s k))) (cell s b k))
  goes_at functions s e a b zero k h l = absurd (omega (arith, l))
  goes_at functions s e a b (suc n) k h l = by (last k n l) (λ m. goes_at functions s e a b n k (each_first P front back h) m)
    where
      front : List Rule
      front = goes_rules functions s e a b n

      back : List Rule
      back = rule_if (source_cell functions s a (source_by e (fact_at s n))) (cell s b n)

      last : (k n : ℕ) → k < suc n → (k < n) ⊎ (k ≡ n)
      last k n l = grind arith

      by : (k < n) ⊎ (k ≡ n) → (k < n → OfEach P (rule_if (source_cell functions s a (source_by e (fact_at s k))) (cell s b k))) → OfEach P (rule_if (source_cell functions s a (source_by e (fact_at s k))) (cell s b k))
      by (inl m) more = more m
      by (inr m) more = subst (λ j. OfEach P (rule_if (source_cell functions s a (source_by e (fact_at s j))) (cell s b j))) (sym m) (each_second P front back h)

  pub at_goes : (functions : ℕ) (s : Sheet) (e : Effect) (a b n : ℕ) → ((k : ℕ) → k < n → OfEach P (rule_if (source_cell functions s a (source_by e (fact_at s k))) (cell s b k))) → OfEach P (goes_rules functions s e a b n)
  at_goes functions s e a b zero h = tt
  at_goes functions s e a b (suc n) h = each_append P (goes_rules functions s e a b n) (rule_if (source_cell functions s a (source_by e (fact_at s n))) (cell s b n)) (at_goes functions s e a b n (λ k l. h k (omega (arith, l)))) (h n (omega arith))

  pub pass_at : (s t : Sheet) (p j k v : ℕ) (args : List ℕ) → OfEach P (passes_rules s t p j args) → slice_get args k ≡ Some v → OfEach P (rule_both (fact_cell s p (Fact.Clean v)) (none_unless (nat_lt (j + k) t.params) (fact_cell t 0 (Fact.Clean (j + k)))))
  pass_at s t p j k v [] h at = absurd (not_none v at)
  pass_at s t p j zero v (u ∷ us) h at =
      let z : j ≡ j + 0 = omega arith in
      subst (λ i. OfEach P (rule_both (fact_cell s p (Fact.Clean v)) (none_unless (nat_lt i t.params) (fact_cell t 0 (Fact.Clean i))))) z
      (subst (λ w. OfEach P (rule_both (fact_cell s p (Fact.Clean w)) (none_unless (nat_lt j t.params) (fact_cell t 0 (Fact.Clean j))))) (same_number u v at)
      (each_first P (rule_both (fact_cell s p (Fact.Clean u)) (none_unless (nat_lt j t.params) (fact_cell t 0 (Fact.Clean j)))) (passes_rules s t p (suc j) us) h))
  pass_at s t p j (suc k) v (u ∷ us) h at =
      let z : suc j + k ≡ j + suc k = omega arith in
      subst (λ i. OfEach P (rule_both (fact_cell s p (Fact.Clean v)) (none_unless (nat_lt i t.params) (fact_cell t 0 (Fact.Clean i))))) z
      (pass_at s t p (suc j) k v us (each_second P (rule_both (fact_cell s p (Fact.Clean u)) (none_unless (nat_lt j t.params) (fact_cell t 0 (Fact.Clean j)))) (passes_rules s t p (suc j) us) h) at)

  pub at_pass : (s t : Sheet) (p j : ℕ) (args : List ℕ) → ((k v : ℕ) → slice_get args k ≡ Some v → OfEach P (rule_both (fact_cell s p (Fact.Clean v)) (none_unless (nat_lt (j + k) t.params) (fact_cell t 0 (Fact.Clean (j + k)))))) → OfEach P (passes_rules s t p j args)
  at_pass s t p j [] h = tt
  at_pass s t p j (u ∷ us) h =
      let first : j + 0 ≡ j = omega arith in
      each_append P (rule_both (fact_cell s p (Fact.Clean u)) (none_unless (nat_lt j t.params) (fact_cell t 0 (Fact.Clean j)))) (passes_rules s t p (suc j) us)
      (subst (λ i. OfEach P (rule_both (fact_cell s p (Fact.Clean u)) (none_unless (nat_lt i t.params) (fact_cell t 0 (Fact.Clean i))))) first (h 0 u refl))
      (at_pass s t p (suc j) us (λ k v at. let z : j + suc k ≡ suc j + k = omega arith in
      subst (λ i. OfEach P (rule_both (fact_cell s p (Fact.Clean v)) (none_unless (nat_lt i t.params) (fact_cell t 0 (Fact.Clean i))))) z (h (suc k) v at)))

  pub start_at : (s : Sheet) (n i : ℕ) → OfEach P (start_rules s n) → i < n → P (rule 0 (cell s 0 (2 * s.values + i)))
  start_at s zero i h l = absurd (omega (arith, l))
  start_at s (suc n) i h l = by (last i n l) (start_at s n i (each_first P (start_rules s n) (rule 0 (cell s 0 (2 * s.values + n)) ∷ []) h))
    where
      last : (k n : ℕ) → k < suc n → (k < n) ⊎ (k ≡ n)
      last k n l = grind arith

      by : (i < n) ⊎ (i ≡ n) → (i < n → P (rule 0 (cell s 0 (2 * s.values + i)))) → P (rule 0 (cell s 0 (2 * s.values + i)))
      by (inl m) more = more m
      by (inr m) more = subst (λ j. P (rule 0 (cell s 0 (2 * s.values + j)))) (sym m) (each_second P (start_rules s n) (rule 0 (cell s 0 (2 * s.values + n)) ∷ []) h).0

  pub at_start : (s : Sheet) (n : ℕ) → ((i : ℕ) → i < n → P (rule 0 (cell s 0 (2 * s.values + i)))) → OfEach P (start_rules s n)
  at_start s zero h = tt
  at_start s (suc n) h = each_append P (start_rules s n) (rule 0 (cell s 0 (2 * s.values + n)) ∷ []) (at_start s n (λ i l. h i (omega (arith, l)))) (h n (omega arith), tt)

  module _ (sheets : List Sheet) where
    pub links_at : (f : ℕ) (s : Sheet) (ls : List Link) → OfEach P (links_rules sheets f s ls) → OfEach (λ l. OfEach P (link_rules sheets f s l)) ls
    links_at f s [] h = tt
    links_at f s (l ∷ ls) h = (each_first P (link_rules sheets f s l) (links_rules sheets f s ls) h, links_at f s ls (each_second P (link_rules sheets f s l) (links_rules sheets f s ls) h))

    pub at_links : (f : ℕ) (s : Sheet) (ls : List Link) → OfEach (λ l. OfEach P (link_rules sheets f s l)) ls → OfEach P (links_rules sheets f s ls)
    at_links f s [] h = tt
    at_links f s (l ∷ ls) h = each_append P (link_rules sheets f s l) (links_rules sheets f s ls) h.0 (at_links f s ls h.1)

    pub sheet_at : (j f : ℕ) (ss : List Sheet) (s : Sheet) → OfEach P (rules_after sheets j ss) → slice_get ss f ≡ Some s → OfEach P (sheet_rules sheets (j + f) s)
    sheet_at j f [] s h at = absurd (not_none s at)
    sheet_at j zero (x ∷ xs) s h at =
        let z : j ≡ j + 0 = omega arith in
        subst (λ i. OfEach P (sheet_rules sheets i s)) z (subst (λ y. OfEach P (sheet_rules sheets j y)) (same_sheet x s at) (each_first P (sheet_rules sheets j x) (rules_after sheets (suc j) xs) h))
    sheet_at j (suc f) (x ∷ xs) s h at =
        let z : suc j + f ≡ j + suc f = omega arith in
        subst (λ i. OfEach P (sheet_rules sheets i s)) z (sheet_at (suc j) f xs s (each_second P (sheet_rules sheets j x) (rules_after sheets (suc j) xs) h) at)

    pub at_sheet : (j : ℕ) (ss : List Sheet) → ((f : ℕ) (s : Sheet) → slice_get ss f ≡ Some s → OfEach P (sheet_rules sheets (j + f) s)) → OfEach P (rules_after sheets j ss)
    at_sheet j [] h = tt
    at_sheet j (x ∷ xs) h =
        let first : j + 0 ≡ j = omega arith in
        each_append P (sheet_rules sheets j x) (rules_after sheets (suc j) xs) (subst (λ i. OfEach P (sheet_rules sheets i x)) first (h 0 x refl))
        (at_sheet (suc j) xs (λ f s at. let z : j + suc f ≡ suc j + f = omega arith in subst (λ i. OfEach P (sheet_rules sheets i s)) z (h (suc f) s at)))
