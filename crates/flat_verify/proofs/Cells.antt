-- Each cell belongs to one fact at one place.
use Rattle.std.proofs.Common.{◌≡◌, ◌<◌, ◌≤◌, ◌⊎◌, ℕ, zero, suc, ◌+◌, ◌-◌, ◌*◌, List, [], ◌∷◌, inl, inr, Option, Some, None, Bool, true, false, refl, sym, ap, ◌∙◌, subst, cond, arith, length, get_or, nat_lt}
use Rattle.std.specs.Prelude.{slice_get, ◌==◌, ◌&&◌}
use Rattle.std.proofs.lemmas.Bool.Decides.{nat_tests}
use Rattle.flat_discipline.specs.Facts.{Fact}
use Rattle.flat_verify.specs.Sheets.{Range, Sheet, width, later, range_number, from_number, none_unless, fact_number, fact_at, spanned, cell, cell_if, fact_cell, Stands}
use Rattle.flat_discipline.proofs.Tables.{yes_lt, no_lt}

-- ---- Rows

row_more : (p q w : ℕ) → p < q → p * w + w ≤ q * w
row_more p zero w l = absurd (omega (arith, l))
row_more zero (suc q) w l = omega arith
row_more (suc p) (suc q) w l = omega (arith, row_more p q w (omega (arith, l)))

pub row_within : (p q w k : ℕ) → p < q → k < w → p * w + k < q * w
row_within p q w k l h = omega (arith, row_more p q w l, h)

compared : (a b : ℕ) → (a < b) ⊎ ((a ≡ b) ⊎ (b < a))
compared a b = grind arith

pub one_row : (p q w k j : ℕ) → k < w → j < w → p * w + k ≡ q * w + j → (p ≡ q) × (k ≡ j)
one_row p q w k j h i e = by (compared p q)
  where
    by : (p < q) ⊎ ((p ≡ q) ⊎ (q < p)) → (p ≡ q) × (k ≡ j)
    by (inl l) = absurd (omega (arith, row_more p q w l, h, e))
    by (inr (inr l)) = absurd (omega (arith, row_more q p w l, i, e))
    by (inr (inl s)) = (s, (let t : p * w ≡ q * w = ap (λ n. n * w) s in omega (arith, t, e)))

-- ---- Functions

abbrev the_sheet : Sheet → Option Sheet → Sheet
the_sheet d None = d
the_sheet d (Some x) = x

pub same_sheet : (a b : Sheet) → Some a ≡ Some b → a ≡ b
same_sheet a b e = ap (the_sheet a) e

abbrev the_number : Option ℕ → ℕ
the_number None = 0
the_number (Some x) = x

pub same_number : (a b : ℕ) → Some a ≡ Some b → a ≡ b
same_number a b e = ap the_number e

pub not_none : {A : Type 0} (a : A) → None ≡ Some a → ⊥
not_none a e = cc

pub stands_total : (ss : List Sheet) (from total : ℕ) → Stands from ss total → from ≤ total
stands_total [] from total st = omega (arith, st)
stands_total (x ∷ xs) from total st = omega (arith, stands_total xs (from + x.places * width x) total st.1)

pub stands_above : (ss : List Sheet) (from total f : ℕ) (s : Sheet) → Stands from ss total → slice_get ss f ≡ Some s → (from ≤ s.base) × (s.base + s.places * width s ≤ total)
stands_above [] from total f s st e = absurd (not_none s e)
stands_above (x ∷ xs) from total zero s st e =
    subst (λ (y : Sheet). (from ≤ y.base) × (y.base + y.places * width y ≤ total)) (same_sheet x s e) (omega (arith, st.0), omega (arith, st.0, stands_total xs (from + x.places * width x) total st.1))
stands_above (x ∷ xs) from total (suc f) s st e = let h = stands_above xs (from + x.places * width x) total f s st.1 e in (omega (arith, h.0), h.1)

-- a cell of a function
pub record IsCell (s : Sheet) (p k : ℕ) : Type 0 where
  pub place : p < s.places
  pub fact : k < width s

pub cell_below : (s : Sheet) (p k n : ℕ) → IsCell s p k → s.base + s.places * width s ≤ n → cell s p k < n
cell_below s p k n c h = omega (arith, row_within p s.places (width s) k c.place c.fact, h)

pub record OneCell (f g : ℕ) (s t : Sheet) (p q k j : ℕ) : Type 0 where
  pub function : f ≡ g
  pub sheet : s ≡ t
  pub place : p ≡ q
  pub fact : k ≡ j

in_sheet : (s : Sheet) (p q k j : ℕ) → IsCell s p k → IsCell s q j → cell s p k ≡ cell s q j → (p ≡ q) × (k ≡ j)
in_sheet s p q k j c d e = one_row p q (width s) k j c.fact d.fact (omega (arith, e))

apart : (x s : Sheet) (xs : List Sheet) (from total f p q k j : ℕ) → x.base ≡ from → Stands (from + x.places * width x) xs total → slice_get xs f ≡ Some s → IsCell x p k → cell x p k ≡ cell s q j → ⊥
apart x s xs from total f p q k j b st at c e = omega (arith, (stands_above xs (from + x.places * width x) total f s st at).0, cell_below x p k (from + x.places * width x) c (omega (arith, b)), e)

pub one_cell : (ss : List Sheet) (from total f g : ℕ) (s t : Sheet) (p q k j : ℕ) → Stands from ss total → slice_get ss f ≡ Some s → slice_get ss g ≡ Some t → IsCell s p k → IsCell t q j → cell s p k ≡ cell t q j → OneCell f g s t p q k j
one_cell [] from total f g s t p q k j st a b c d e = absurd (not_none s a)
one_cell (x ∷ xs) from total zero zero s t p q k j st a b c d e =
    let same : s ≡ t = sym (same_sheet x s a) ∙ same_sheet x t b in
    let h = in_sheet s p q k j c (subst (λ y. IsCell y q j) (sym same) d) (e ∙ ap (λ y. cell y q j) (sym same)) in
    record { function = refl; sheet = same; place = h.0; fact = h.1 }
one_cell (x ∷ xs) from total zero (suc g) s t p q k j st a b c d e = absurd (apart x t xs from total g p q k j st.0 st.1 b (subst (λ y. IsCell y p k) (sym (same_sheet x s a)) c) (ap (λ y. cell y p k) (same_sheet x s a) ∙ e))
one_cell (x ∷ xs) from total (suc f) zero s t p q k j st a b c d e = absurd (apart x s xs from total f q p j k st.0 st.1 a (subst (λ y. IsCell y q j) (sym (same_sheet x t b)) d) (ap (λ y. cell y q j) (same_sheet x t b) ∙ sym e))
one_cell (x ∷ xs) from total (suc f) (suc g) s t p q k j st a b c d e =
    let h = one_cell xs (from + x.places * width x) total f g s t p q k j st.1 a b c d e in record { function = ap suc h.function; sheet = h.sheet; place = h.place; fact = h.fact }

-- ---- Facts

-- what has a number is in range, and is the fact of that number
pub record IsNumbered (s : Sheet) (x : Fact) (k : ℕ) : Type 0 where
  pub below : k < width s
  pub is : fact_at s k ≡ x

pub unless_some : (b : Bool) (o : Option ℕ) (k : ℕ) → none_unless b o ≡ Some k → (b ≡ true) × (o ≡ Some k)
unless_some true o k e = (refl, e)
unless_some false o k e = absurd (not_none k e)

pub from_some : (n : ℕ) (o : Option ℕ) (k : ℕ) → from_number n o ≡ Some k → (i : ℕ) × (o ≡ Some i) × (n + i ≡ k)
from_some n None k e = absurd (not_none k e)
from_some n (Some i) k e = (i, refl, same_number (n + i) k e)

pub later_some : (o : Option ℕ) (k : ℕ) → later o ≡ Some k → (i : ℕ) × (o ≡ Some i) × (suc i ≡ k)
later_some None k e = absurd (not_none k e)
later_some (Some i) k e = (i, refl, same_number (suc i) k e)

pub lt_from : (a b : ℕ) → nat_lt a b ≡ true → a < b
lt_from a b e = grind (arith, nat_tests)

both_equal : (a b n m : ℕ) → ((a == b) && (n == m)) ≡ true → (a ≡ b) × (n ≡ m)
both_equal a b n m e = (grind (arith, nat_tests), grind (arith, nat_tests))

pub ranged : (rs : List Range) (a n i : ℕ) → range_number rs a n ≡ Some i → (i < length rs) × (get_or rs i record { pointer = 0; count = 0 } ≡ record { pointer = a; count = n })
ranged [] a n i e = absurd (not_none i e)
ranged (r ∷ rs) a n i e = by ((a == r.pointer) && (n == r.count)) refl e (ranged rs a n)
  where
    by : (b : Bool) → ((a == r.pointer) && (n == r.count)) ≡ b → cond b (Some 0) (later (range_number rs a n)) ≡ Some i → ((j : ℕ) → range_number rs a n ≡ Some j → (j < length rs) × (get_or rs j record { pointer = 0; count = 0 } ≡ record { pointer = a; count = n })) → (i < length (r ∷ rs)) × (get_or (r ∷ rs) i record { pointer = 0; count = 0 } ≡ record { pointer = a; count = n })
    by true is o more =
        let z : 0 ≡ i = same_number 0 i o in
        let same = both_equal a r.pointer n r.count is in
        subst (λ j. (j < length (r ∷ rs)) × (get_or (r ∷ rs) j record { pointer = 0; count = 0 } ≡ record { pointer = a; count = n })) z (omega arith, ap (λ x. record { pointer = x; count = r.count }) (sym same.0) ∙ ap (λ x. record { pointer = a; count = x }) (sym same.1))
    by false is o more =
        let l = later_some (range_number rs a n) i o in
        let h = more l.0 l.1 in
        subst (λ j. (j < length (r ∷ rs)) × (get_or (r ∷ rs) j record { pointer = 0; count = 0 } ≡ record { pointer = a; count = n })) l.2 (omega (arith, h.0), h.1)

pub numbered : (s : Sheet) (x : Fact) (k : ℕ) → fact_number s x ≡ Some k → IsNumbered s x k
numbered s (Fact.Clean v) k e =
    let u = unless_some (nat_lt v s.values) (Some v) k e in
    let l : v < s.values = lt_from v s.values u.0 in
    subst (λ j. IsNumbered s (Fact.Clean v) j) (same_number v k u.1) record { below = omega (arith, l); is = rw (yes_lt v s.values l) refl }
numbered s (Fact.Own v) k e =
    let u = unless_some (nat_lt v s.values) (Some (s.values + v)) k e in
    let l : v < s.values = lt_from v s.values u.0 in
    let back : s.values + v - s.values ≡ v = omega arith in
    subst (λ j. IsNumbered s (Fact.Own v) j) (same_number (s.values + v) k u.1) record { below = omega (arith, l); is = rw (no_lt (s.values + v) s.values (omega arith)) (rw (yes_lt (s.values + v) (2 * s.values) (omega (arith, l))) (ap Fact.Own back)) }
numbered s (Fact.Spanned a n) k e =
    let u = unless_some (nat_lt a s.values && nat_lt n s.values) (from_number (2 * s.values) (range_number s.ranges a n)) k e in
    let f = from_some (2 * s.values) (range_number s.ranges a n) k u.1 in
    let r = ranged s.ranges a n f.0 f.1 in
    let back : 2 * s.values + f.0 - 2 * s.values ≡ f.0 = omega arith in
    subst (λ j. IsNumbered s (Fact.Spanned a n) j) f.2 record { below = omega (arith, r.0); is = rw (no_lt (2 * s.values + f.0) s.values (omega arith)) (rw (no_lt (2 * s.values + f.0) (2 * s.values) (omega arith)) (ap (λ j. spanned (get_or s.ranges j record { pointer = 0; count = 0 })) back ∙ ap spanned r.1)) }

-- ---- Facts at places

pub record IsCellOf (s : Sheet) (p : ℕ) (x : Fact) (n : ℕ) : Type 0 where
  pub number : ℕ
  pub of_fact : fact_number s x ≡ Some number
  pub is_cell : IsCell s p number
  pub is : cell s p number ≡ n

pub cell_of : (s : Sheet) (p : ℕ) (x : Fact) (n : ℕ) → fact_cell s p x ≡ Some n → IsCellOf s p x n
cell_of s p x n e = by (fact_number s x) refl (unless_some (nat_lt p s.places) (cell_if s p (fact_number s x)) n e)
  where
    by : (o : Option ℕ) → fact_number s x ≡ o → (nat_lt p s.places ≡ true) × (cell_if s p (fact_number s x) ≡ Some n) → IsCellOf s p x n
    by None is u = absurd (not_none n (sym (ap (cell_if s p) is) ∙ u.1))
    by (Some k) is u = record { number = k; of_fact = is; is_cell = record { place = lt_from p s.places u.0; fact = (numbered s x k is).below }; is = same_number (cell s p k) n (sym (ap (cell_if s p) is) ∙ u.1) }

pub of_cell : (s : Sheet) (p : ℕ) (x : Fact) (k : ℕ) → fact_number s x ≡ Some k → p < s.places → fact_cell s p x ≡ Some (cell s p k)
of_cell s p x k is l = ap (λ b. none_unless b (cell_if s p (fact_number s x))) (yes_lt p s.places l) ∙ ap (cell_if s p) is
