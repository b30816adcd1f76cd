-- What a layout weighs: each object stands in it once.
use Rattle.std.proofs.Common.{◌≡◌, ℕ, zero, suc, ◌+◌, ◌-◌, ◌^◌, ◌<◌, ◌≤◌, Bool, true, false, ◌==◌, cond, nat_lt, List, [], ◌∷◌, ◌++◌, refl, sym, ap, ◌∙◌, arith, pow_pos, length}
use Rattle.std.proofs.lemmas.Bool.Decides.{nat_tests}
use Rattle.size_table.specs.Pads.{exponent_of, ExponentIsLeast}
use Rattle.block_layout.specs.Layout.{Item, AreSmall, pad, padded_to, declining, placed_from, total_of}

-- what items weigh together
abbrev pub sum_of : (weight : Item → ℕ) → List Item → ℕ
sum_of weight [] = 0
sum_of weight (i ∷ is) = weight i + sum_of weight is

total_is : (g : ℕ) (items : List Item) → total_of g items ≡ sum_of (pad g) items
total_is g [] = refl
total_is g (i ∷ is) = ap (λ n. pad g i + n) (total_is g is)

length_is : (items : List Item) → length items ≡ sum_of (λ i. 1) items
length_is [] = refl
length_is (i ∷ is) = let r = length_is is in omega (arith, r)

pub length_of_placed : (g offset : ℕ) (items : List Item) → length (placed_from g offset items) ≡ length items
length_of_placed g offset [] = refl
length_of_placed g offset (i ∷ is) = ap suc (length_of_placed g (offset + pad g i) is)

-- each object has a byte at least
pub few : (g : ℕ) (items : List Item) → length items ≤ total_of g items
few g [] = omega arith
few g (i ∷ is) = omega (arith, few g is, pow_pos (exponent_of g i.length))

sum_append : (weight : Item → ℕ) (xs ys : List Item) → sum_of weight (xs ++ ys) ≡ sum_of weight xs + sum_of weight ys
sum_append weight [] ys = omega arith
sum_append weight (x ∷ xs) ys = let r = sum_append weight xs ys in omega (arith, r)

-- what the items weigh whose exponents are below m
abbrev below : (weight : Item → ℕ) → (g m : ℕ) → List Item → ℕ
below weight g m [] = 0
below weight g m (i ∷ is) = cond (nat_lt (exponent_of g i.length) m) (weight i) 0 + below weight g m is

step_item : (e m p t r : ℕ) → cond (nat_lt e (suc m)) p 0 + (t + r) ≡ cond (e == m) (p + t) t + (cond (nat_lt e m) p 0 + r)
step_item e m p t r = grind (arith, nat_tests)

below_step : (weight : Item → ℕ) (g m : ℕ) (items : List Item) → below weight g (suc m) items ≡ sum_of weight (padded_to g m items) + below weight g m items
below_step weight g m [] = refl
below_step weight g m (i ∷ is) =
    ap (λ n. cond (nat_lt (exponent_of g i.length) (suc m)) (weight i) 0 + n) (below_step weight g m is)
    ∙ step_item (exponent_of g i.length) m (weight i) (sum_of weight (padded_to g m is)) (below weight g m is)
    ∙ ap (λ n. n + (cond (nat_lt (exponent_of g i.length) m) (weight i) 0 + below weight g m is)) (by (exponent_of g i.length == m))
  where
    by : (t : Bool) → cond t (weight i + sum_of weight (padded_to g m is)) (sum_of weight (padded_to g m is)) ≡ sum_of weight (cond t (i ∷ padded_to g m is) (padded_to g m is))
    by true = refl
    by false = refl

module _ (exponents_least : ExponentIsLeast) (g : ℕ) (most : g ≤ 24) where
  none_below : (weight : Item → ℕ) (items : List Item) → AreSmall items → below weight g (g + 0) items ≡ 0
  none_below weight [] s = refl
  none_below weight (i ∷ is) s =
      let e = (exponents_least g i.length most s.0).slot in
      ap (λ t. cond t (weight i) 0 + below weight g (g + 0) is) (no (exponent_of g i.length) (g + 0) (omega (arith, e))) ∙ let r = none_below weight is s.1 in omega (arith, r)
    where
      no : (a b : ℕ) → b ≤ a → nat_lt a b ≡ false
      no a b h = grind (arith, nat_tests)

  all_below : (weight : Item → ℕ) (m : ℕ) (items : List Item) → 24 < m → AreSmall items → below weight g m items ≡ sum_of weight items
  all_below weight m [] lt s = refl
  all_below weight m (i ∷ is) lt s =
      let e = (exponents_least g i.length most s.0).least 24 most s.0 in
      ap (λ t. cond t (weight i) 0 + below weight g m is) (yes (exponent_of g i.length) m (omega (arith, e, lt))) ∙ ap (λ n. weight i + n) (all_below weight m is lt s.1)
    where
      yes : (a b : ℕ) → a < b → nat_lt a b ≡ true
      yes a b h = grind (arith, nat_tests)

  declining_sum : (weight : Item → ℕ) (n : ℕ) (items : List Item) → AreSmall items → sum_of weight (declining g n items) ≡ below weight g (g + n) items
  declining_sum weight zero items s = sym (none_below weight items s)
  declining_sum weight (suc n) items s =
      sum_append weight (padded_to g (g + n) items) (declining g n items)
      ∙ ap (λ x. sum_of weight (padded_to g (g + n) items) + x) (declining_sum weight n items s)
      ∙ sym (below_step weight g (g + n) items)
      ∙ ap (λ m. below weight g m items) (let q : suc (g + n) ≡ g + suc n = omega arith in q)

  layout_sum : (weight : Item → ℕ) (items : List Item) → AreSmall items → sum_of weight (declining g (25 - g) items) ≡ sum_of weight items
  layout_sum weight items s = declining_sum weight (25 - g) items s ∙ all_below weight (g + (25 - g)) items (omega (arith, most)) s

  pub layout_total : (items : List Item) → AreSmall items → total_of g (declining g (25 - g) items) ≡ total_of g items
  layout_total items s = total_is g (declining g (25 - g) items) ∙ layout_sum (pad g) items s ∙ sym (total_is g items)

  pub layout_length : (items : List Item) → AreSmall items → length (declining g (25 - g) items) ≡ length items
  layout_length items s = length_is (declining g (25 - g) items) ∙ layout_sum (λ i. 1) items s ∙ sym (length_is items)
