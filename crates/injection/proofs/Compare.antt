-- Pointers compare as their words do.
use Rattle.std.proofs.Common.{◌≡◌, ◌≢◌, ◌⊎◌, ℕ, Bool, true, false, not, ◌&&◌, ◌==◌, cond, nat_lt, nat_le, List, ℤ, pos, negsuc, refl, sym, ap, ◌∙◌, subst, inl, inr, arith, true≢false, eq-eqb, eqb-true, ne_eqb, Ordering}
use Rattle.std.specs.Prelude.{int_lt, int_div, ◌-ℤ◌}
use Rattle.std.proofs.lemmas.Bool.{cases_eq}
use Rattle.std.proofs.lemmas.Bool.Decides.{nat_tests}
use Rattle.std.specs.declared.cmp.Ordering.TheVariants.{Less, Equal, Greater}
use Rattle.bb_words.specs.Answers.{Goes}
use Rattle.bb_words.specs.Numbers as numbers
use Rattle.bb_words.specs.Steps.{flag}
use Rattle.bb_words.specs.declared.steps.OrderOp.{OrderOp}
use Rattle.bb_words.specs.declared.steps.OrderOp.TheVariants as order
use Rattle.marked_ptr.specs.Marked.{word_at, unmarked, difference}
use Rattle.marked_ptr.specs.Marked as marked
use Rattle.marked_ptr.specs.Laws.{IsInReach, WordsAreApart, WordsAreOffsets, WordsAreNotNull, OrderIsOffsets, DifferenceIsOffsets, order_of}
use Rattle.source_meaning.specs.declared.values.Pointer.{Pointer}
use Rattle.source_meaning.specs.declared.values.Pointer.TheVariants.{Null, To}
use Rattle.source_meaning.specs.declared.values.Value.{Value}
use Rattle.source_meaning.specs.declared.values.Value.TheVariants.{Num, Ptr}
use Rattle.source_meaning.specs.declared.values.OutsideCause.TheVariants.{Dead, Across}
use Rattle.source_meaning.specs.Objects.{Object, same_int, same_pointer}
use Rattle.source_meaning.specs.Worlds.{World, Does, outside, is_sound}
use Rattle.source_meaning.specs.Comparisons.{comparing, within_one, is_ordered, truth}
use Rattle.injection.specs.Words.{word_in, word_of, word_of_value}
use Rattle.injection.specs.Memory.{IsLive, AreLaidOut, IsPointer, IsValue}
use Rattle.injection.specs.Laws.{GivesAlike, is_in_order, ComparesAlike}
use Rattle.injection.proofs.Stores.{same_object}
use Rattle.injection.proofs.Cells.{int_from}
use Rattle.injection.proofs.Values.{IsInto, sound_into}

pub record MarkedLaws : Type 0 where
  pub apart : WordsAreApart
  pub offsets : WordsAreOffsets
  pub not_null : WordsAreNotNull
  pub order : OrderIsOffsets
  pub difference : DifferenceIsOffsets

-- a test is that of two numbers
tests_alike : (t : Bool) (a b : ℕ) → (t ≡ true → a ≡ b) → (a ≡ b → t ≡ true) → t ≡ (a == b)
tests_alike true a b f h = sym (eq-eqb a b (f refl))
tests_alike false a b f h = sym (ne_eqb a b (λ e. true≢false (sym (h e))))

int_same : (z : ℤ) → same_int z z ≡ true
int_same (pos n) = eq-eqb n n refl
int_same (negsuc n) = eq-eqb n n refl

into_word : (g : ℕ) (os : List Object) (k : ℕ) (z : ℤ) → (t : IsInto g os k z) → word_of os (To k z) ≡ word_at t.object.base t.object.exponent z
into_word g os k z t = ap (λ x. word_in x z) t.live.there

-- whether an answer of comparisons is `Less`
is_less : Ordering → Bool
is_less Less = true
is_less Equal = false
is_less Greater = false

less_of_words : (a b : ℕ) → is_less (marked.order a b) ≡ nat_lt (unmarked a) (unmarked b)
unfolding is_less
less_of_words a b = at (nat_lt (unmarked a) (unmarked b)) (unmarked a == unmarked b)
  where
    at : (s t : Bool) → is_less (cond s Less (cond t Equal Greater)) ≡ s
    at true t = refl
    at false true = refl
    at false false = refl

less_of_offsets : (y z : ℤ) → is_less (order_of y z) ≡ int_lt y z
unfolding is_less
less_of_offsets y z = at (int_lt y z) (int_lt z y)
  where
    at : (s t : Bool) → is_less (cond s Less (cond t Greater Equal)) ≡ s
    at true t = refl
    at false true = refl
    at false false = refl

at_most : (a b : ℕ) → not (nat_lt b a) ≡ nat_le a b
at_most a b = grind (arith, nat_tests)

module _ (nulls : WordsAreNotNull) (g : ℕ) (w : World) (out : AreLaidOut g w.objects) where
  pub not_null : (k : ℕ) (z : ℤ) → IsInto g w.objects k z → word_of w.objects (To k z) ≢ 0
  not_null k z t e =
      nulls g t.object.base t.object.exponent z (out.accounts k t.object t.live.there).placed t.reach (sym (into_word g w.objects k z t) ∙ e)

  pub truth_alike : (v : Value) → IsValue g w.objects v → GivesAlike w (not (word_of_value w.objects v == 0)) (truth v w)
  truth_alike (Num n) f = (refl, refl)
  truth_alike (Ptr Null) f = (refl, refl)
  truth_alike (Ptr (To k z)) f = at (is_sound w (To k z)) refl
    where
      at : (t : Bool) → is_sound w (To k z) ≡ t → GivesAlike w (not (word_of w.objects (To k z) == 0)) (cond t (Goes true w) (outside Dead w))
      at false e = refl
      at true e = (refl, sym (ap not (ne_eqb (word_of w.objects (To k z)) 0 (not_null k z (sound_into g w k z f e)))))

module _ (laws : MarkedLaws) (g : ℕ) (w : World) (out : AreLaidOut g w.objects) where
  -- the second pointer by the object of the first
  by_first : (j k : ℕ) (z : ℤ) → (s : Object) → IsLive w.objects j s → j ≡ k → (t : IsInto g w.objects k z) → IsInReach g s.exponent z × (word_of w.objects (To k z) ≡ word_at s.base s.exponent z)
  by_first j k z s l e t =
      let same = same_object w.objects k j t.object s t.live l (sym e) in
      (subst (λ (x : Object). IsInReach g x.exponent z) same t.reach, into_word g w.objects k z t ∙ ap (λ (x : Object). word_at x.base x.exponent z) same)

  same_objects : (j k : ℕ) (y z : ℤ) → j ≡ k → IsInto g w.objects j y → IsInto g w.objects k z → same_int y z ≡ (word_of w.objects (To j y) == word_of w.objects (To k z))
  same_objects j k y z e s t =
      let r = by_first j k z s.object s.live e t in
      tests_alike (same_int y z) (word_of w.objects (To j y)) (word_of w.objects (To k z))
      (λ h. into_word g w.objects j y s ∙ ap (word_at s.object.base s.object.exponent) (int_from y z h) ∙ sym r.1)
      (λ h. let q = laws.offsets g s.object.base s.object.exponent y z (out.accounts j s.object s.live.there).placed s.reach r.0 (sym (into_word g w.objects j y s) ∙ h ∙ r.1) in
      subst (λ x. same_int y x ≡ true) q (int_same y))

  other_objects : (j k : ℕ) (y z : ℤ) → j ≢ k → IsInto g w.objects j y → IsInto g w.objects k z → false ≡ (word_of w.objects (To j y) == word_of w.objects (To k z))
  other_objects j k y z n s t =
      sym (ne_eqb (word_of w.objects (To j y)) (word_of w.objects (To k z)) (λ h.
      laws.apart g s.object.base s.object.exponent t.object.base t.object.exponent y z (out.accounts j s.object s.live.there).placed (out.accounts k t.object t.live.there).placed
      (out.apart j k s.object t.object s.live t.live n) s.reach t.reach (sym (into_word g w.objects j y s) ∙ h ∙ into_word g w.objects k z t)))

  pointers_equal : (q r : Pointer) → IsPointer g w.objects q → IsPointer g w.objects r → is_sound w q ≡ true → is_sound w r ≡ true → same_pointer q r ≡ (word_of w.objects q == word_of w.objects r)
  pointers_equal Null Null f h s t = refl
  pointers_equal Null (To k z) f h s t = sym (ne_eqb 0 (word_of w.objects (To k z)) (λ e. not_null laws.not_null g w out k z (sound_into g w k z h t) (sym e)))
  pointers_equal (To k z) Null f h s t = sym (ne_eqb (word_of w.objects (To k z)) 0 (not_null laws.not_null g w out k z (sound_into g w k z f s)))
  pointers_equal (To j y) (To k z) f h s t = at (cases_eq j k)
    where
      at : (j ≡ k) ⊎ (j ≡ k → ⊥) → ((j == k) && same_int y z) ≡ (word_of w.objects (To j y) == word_of w.objects (To k z))
      at (inl e) = ap (λ b. b && same_int y z) (eq-eqb j k e) ∙ same_objects j k y z e (sound_into g w j y f s) (sound_into g w k z h t)
      at (inr n) = ap (λ b. b && same_int y z) (ne_eqb j k n) ∙ other_objects j k y z n (sound_into g w j y f s) (sound_into g w k z h t)

  less_alike : (j k : ℕ) (y z : ℤ) → j ≡ k → IsInto g w.objects j y → IsInto g w.objects k z → int_lt y z ≡ nat_lt (unmarked (word_of w.objects (To j y))) (unmarked (word_of w.objects (To k z)))
  less_alike j k y z e s t =
      let r = by_first j k z s.object s.live e t in
      let o = laws.order g s.object.base s.object.exponent y z (out.accounts j s.object s.live.there).placed s.reach r.0 in
      sym (less_of_offsets y z) ∙ sym (ap is_less o) ∙ less_of_words (word_at s.object.base s.object.exponent y) (word_at s.object.base s.object.exponent z)
      ∙ ap (λ a. nat_lt (unmarked a) (unmarked (word_at s.object.base s.object.exponent z))) (sym (into_word g w.objects j y s))
      ∙ ap (λ b. nat_lt (unmarked (word_of w.objects (To j y))) (unmarked b)) (sym r.1)

  order_alike : (o : OrderOp) (j k : ℕ) (y z : ℤ) → j ≡ k → IsInto g w.objects j y → IsInto g w.objects k z → is_ordered o y z ≡ is_in_order o (word_of w.objects (To j y)) (word_of w.objects (To k z))
  order_alike order.Below j k y z e s t = less_alike j k y z e s t
  order_alike order.AtMost j k y z e s t = ap not (less_alike k j z y (sym e) t s) ∙ at_most (unmarked (word_of w.objects (To j y))) (unmarked (word_of w.objects (To k z)))
  order_alike order.Above j k y z e s t = less_alike k j z y (sym e) t s
  order_alike order.AtLeast j k y z e s t = ap not (less_alike j k y z e s t) ∙ at_most (unmarked (word_of w.objects (To k z))) (unmarked (word_of w.objects (To j y)))

  difference_alike : (size j k : ℕ) (y z : ℤ) → j ≡ k → IsInto g w.objects j y → IsInto g w.objects k z → numbers.word_of (int_div (y -ℤ z) (pos size)) ≡ difference (word_of w.objects (To j y)) (word_of w.objects (To k z)) size
  difference_alike size j k y z e s t =
      let r = by_first j k z s.object s.live e t in
      sym (laws.difference g s.object.base s.object.exponent size y z (out.accounts j s.object s.live.there).placed s.reach r.0)
      ∙ ap (λ a. difference a (word_at s.object.base s.object.exponent z) size) (sym (into_word g w.objects j y s))
      ∙ ap (λ b. difference (word_of w.objects (To j y)) b size) (sym r.1)

  -- two pointers that are sound, or the run leaves its objects
  both_alike : (value : Value) (f : Pointer → Pointer → World → Does Value) (v x : Value) → IsValue g w.objects v → IsValue g w.objects x
      → ((q r : Pointer) → v ≡ Ptr q → x ≡ Ptr r → IsPointer g w.objects q → IsPointer g w.objects r → is_sound w q ≡ true → is_sound w r ≡ true → GivesAlike w value (f q r w))
      → GivesAlike w value (comparing f v x w)
  both_alike value f (Num n) x a b go = refl
  both_alike value f (Ptr q) (Num n) a b go = refl
  both_alike value f (Ptr q) (Ptr r) a b go = at (is_sound w q) (is_sound w r) refl refl
    where
      at : (s t : Bool) → is_sound w q ≡ s → is_sound w r ≡ t → GivesAlike w value (cond (s && t) (f q r w) (outside Dead w))
      at false t e h = refl
      at true false e h = refl
      at true true e h = go q r refl refl a b e h

  within_alike : (f : ℤ → ℤ → ℕ) (n : ℕ) (q r : Pointer) → IsPointer g w.objects q → IsPointer g w.objects r → is_sound w q ≡ true → is_sound w r ≡ true
      → ((j k : ℕ) (y z : ℤ) → q ≡ To j y → r ≡ To k z → j ≡ k → IsInto g w.objects j y → IsInto g w.objects k z → f y z ≡ n)
      → GivesAlike w (Num n) (within_one f q r w)
  within_alike f n Null r a b s t go = refl
  within_alike f n (To j y) Null a b s t go = refl
  within_alike f n (To j y) (To k z) a b s t go = at (j == k) refl
    where
      at : (x : Bool) → (j == k) ≡ x → GivesAlike w (Num n) (cond x (Goes (Num (f y z)) w) (outside Across w))
      at false e = refl
      at true e = (refl, ap Num (go j k y z refl refl (eqb-true j k e) (sound_into g w j y a s) (sound_into g w k z b t)))

  pub compares_alike : (v x : Value) → IsValue g w.objects v → IsValue g w.objects x → ComparesAlike w v x (word_of_value w.objects v) (word_of_value w.objects x)
  compares_alike v x a b = record {
    equality = both_alike (Num (flag (word_of_value w.objects v == word_of_value w.objects x))) (λ q r. Goes (Num (flag (same_pointer q r)))) v x a b
        (λ q r ev ex fq fr sq sr. (refl, ap (λ t. Num (flag t)) (pointers_equal q r fq fr sq sr ∙ ap (λ y. word_of_value w.objects y == word_of w.objects r) (sym ev) ∙ ap (λ y. word_of_value w.objects v == word_of_value w.objects y) (sym ex))));
    orders = λ o. both_alike (Num (flag (is_in_order o (word_of_value w.objects v) (word_of_value w.objects x)))) (within_one (λ y z. flag (is_ordered o y z))) v x a b
        (λ q r ev ex fq fr sq sr. within_alike (λ y z. flag (is_ordered o y z)) (flag (is_in_order o (word_of_value w.objects v) (word_of_value w.objects x))) q r fq fr sq sr
        (λ j k y z eq er e s t. ap flag (order_alike o j k y z e s t ∙ ap (λ c. is_in_order o c (word_of w.objects (To k z))) (sym (ap (word_of_value w.objects) ev ∙ ap (word_of w.objects) eq)) ∙ ap (is_in_order o (word_of_value w.objects v)) (sym (ap (word_of_value w.objects) ex ∙ ap (word_of w.objects) er)))));
    differences = λ size. both_alike (Num (difference (word_of_value w.objects v) (word_of_value w.objects x) size)) (within_one (λ y z. numbers.word_of (int_div (y -ℤ z) (pos size)))) v x a b
        (λ q r ev ex fq fr sq sr. within_alike (λ y z. numbers.word_of (int_div (y -ℤ z) (pos size))) (difference (word_of_value w.objects v) (word_of_value w.objects x) size) q r fq fr sq sr
        (λ j k y z eq er e s t. difference_alike size j k y z e s t ∙ ap (λ c. difference c (word_of w.objects (To k z)) size) (sym (ap (word_of_value w.objects) ev ∙ ap (word_of w.objects) eq)) ∙ ap (λ c. difference (word_of_value w.objects v) c size) (sym (ap (word_of_value w.objects) ex ∙ ap (word_of w.objects) er))));
  }
