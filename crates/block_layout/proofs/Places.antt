-- The objects of a layout decline, and so each begins at a multiple of its padded size.
use Rattle.std.specs.Prelude.{All}
use Rattle.std.proofs.Common.{◌≡◌, ℕ, zero, suc, ◌+◌, ◌-◌, ◌*◌, ◌%◌, ◌^◌, ◌<◌, ◌≤◌, Bool, true, false, ◌==◌, cond, List, [], ◌∷◌, ◌++◌, refl, sym, ap, ◌∙◌, subst, arith, pow_pos, eqb-true, length}
use Rattle.std.proofs.lemmas.List.Elements.{All-nil, All-cons}
use Rattle.std.proofs.lemmas.Nat.{pow-add, mod-mul-add}
use Rattle.size_table.specs.Pads.{exponent_of, ExponentIsLeast}
use Rattle.block_layout.specs.Layout.{Item, Placed, AreSmall, pad, padded_to, declining, placed_from, layout, total_of}
use Rattle.block_layout.specs.Laws.{FollowEachOther, IsAligned, Decline, LiesWell, LayoutsLieWell}
use Rattle.block_layout.proofs.Sums.{length_of_placed, layout_total, layout_length}

small_append : (xs ys : List Item) → AreSmall xs → AreSmall ys → AreSmall (xs ++ ys)
small_append [] ys s t = t
small_append (x ∷ xs) ys s t = (s.0, small_append xs ys s.1 t)

small_class : (g e : ℕ) (items : List Item) → AreSmall items → AreSmall (padded_to g e items)
small_class g e [] s = tt
small_class g e (i ∷ is) s = by (exponent_of g i.length == e) (small_class g e is s.1)
  where
    by : (t : Bool) → AreSmall (padded_to g e is) → AreSmall (cond t (i ∷ padded_to g e is) (padded_to g e is))
    by true r = (s.0, r)
    by false r = r

pub small_declining : (g n : ℕ) (items : List Item) → AreSmall items → AreSmall (declining g n items)
small_declining g zero items s = tt
small_declining g (suc n) items s = small_append (padded_to g (g + n) items) (declining g n items) (small_class g (g + n) items s) (small_declining g n items s)

follow : (g offset : ℕ) (items : List Item) → FollowEachOther offset (offset + total_of g items) (placed_from g offset items)
follow g offset [] = omega arith
follow g offset (i ∷ is) =
    let q : offset + pad g i + total_of g is ≡ offset + (pad g i + total_of g is) = omega arith in
    (refl, subst (λ n. FollowEachOther (offset + pad g i) n (placed_from g (offset + pad g i) is)) q (follow g (offset + pad g i) is))

module _ (exponents_least : ExponentIsLeast) (g : ℕ) (most : g ≤ 24) where
  -- the exponents decline, the first is at most m, and each object is small
  abbrev Declines : (m : ℕ) → List Item → Type 0
  Declines m [] = Unit {0}
  Declines m (i ∷ is) = (exponent_of g i.length ≤ m) × Declines (exponent_of g i.length) is

  declines_more : (d m : ℕ) (items : List Item) → d ≤ m → Declines d items → Declines m items
  declines_more d m [] le h = tt
  declines_more d m (i ∷ is) le h = ((let a = h.0 in omega (arith, a, le)), h.1)

  declines_class : (d : ℕ) (rest items : List Item) → Declines d rest → Declines d (padded_to g d items ++ rest)
  declines_class d rest [] h = h
  declines_class d rest (i ∷ is) h = by (exponent_of g i.length == d) refl (declines_class d rest is h)
    where
      by : (t : Bool) → (exponent_of g i.length == d) ≡ t → Declines d (padded_to g d is ++ rest) → Declines d (cond t (i ∷ padded_to g d is) (padded_to g d is) ++ rest)
      by false e r = r
      by true e r =
          let same = eqb-true (exponent_of g i.length) d e in
          (omega (arith, same), subst (λ n. Declines n (padded_to g d is ++ rest)) (sym same) r)

  declines_all : (n m : ℕ) (items : List Item) → g + n ≤ suc m → Declines m (declining g n items)
  declines_all zero m items le = tt
  declines_all (suc n) m items le =
      declines_more (g + n) m _ (omega (arith, le)) (declines_class (g + n) (declining g n items) items (declines_all n (g + n) items (omega arith)))

  product_moved : (k q p : ℕ) → k * (q * p) ≡ k * q * p
  product_moved k q p = grind arith

  product_next : (k p : ℕ) → k * p + p ≡ (k + 1) * p
  product_next k p = grind arith

  at_multiple : (c m e at : ℕ) → e ≤ m → at ≡ c * 2 ^ m → at ≡ c * 2 ^ (m - e) * 2 ^ e
  at_multiple c m e at le h =
      h ∙ ap (λ n. c * 2 ^ n) (let q : m ≡ (m - e) + e = omega (arith, le) in q) ∙ ap (λ n. c * n) (pow-add 2 (m - e) e) ∙ product_moved c (2 ^ (m - e)) (2 ^ e)

  multiple_rest : (k p at : ℕ) → 0 < p → at ≡ k * p → at % p ≡ 0
  multiple_rest k p at h e = ap (λ x. x % p) (e ∙ (let q : k * p ≡ k * p + 0 = omega arith in q)) ∙ mod-mul-add k p 0 h

  aligned : (offset c m : ℕ) (items : List Item) → offset ≡ c * 2 ^ m → Declines m items → AreSmall items → All (IsAligned g) (placed_from g offset items)
  aligned offset c m [] is d s = All-nil (IsAligned g)
  aligned offset c m (i ∷ rest) is d s =
      let e = exponent_of g i.length in
      let k = c * 2 ^ (m - e) in
      let here = at_multiple c m e offset d.0 is in
      let next : offset + 2 ^ e ≡ (k + 1) * 2 ^ e = ap (λ x. x + 2 ^ e) here ∙ product_next k (2 ^ e) in
      All-cons (IsAligned g) (record { number = i.number; offset = offset; exponent = e; length = i.length }) (placed_from g (offset + 2 ^ e) rest)
      (record { exponent = exponents_least g i.length most s.0; aligned = multiple_rest k (2 ^ e) offset (pow_pos e) here })
      (aligned (offset + 2 ^ e) (k + 1) e rest next d.1 s.1)

  decline : (offset m : ℕ) (items : List Item) → Declines m items → Decline m (placed_from g offset items)
  decline offset m [] d = tt
  decline offset m (i ∷ is) d = (d.0, decline (offset + pad g i) (exponent_of g i.length) is d.1)

  lies_well : (items : List Item) → AreSmall items → LiesWell g items (layout g items)
  unfolding layout
  lies_well items s =
      let order = declining g (25 - g) items in
      let d = declines_all (25 - g) 24 items (omega (arith, most)) in
      record {
        count = length_of_placed g 0 order ∙ layout_length exponents_least g most items s;
        follow =
            let same : 0 + total_of g order ≡ total_of g items = omega (arith, layout_total exponents_least g most items s) in
            subst (λ n. FollowEachOther 0 n (placed_from g 0 order)) same (follow g 0 order);
        aligned = aligned 0 0 24 order (omega arith) d (small_declining g (25 - g) items s);
        decline = decline 0 24 order d;
      }

pub layouts_lie_well : ExponentIsLeast → LayoutsLieWell
layouts_lie_well exponents_least g items most s = lies_well exponents_least g most items s
