-- Where objects lie: above the free part of the data stack, and those of the heap in the heap.
use Rattle.std.proofs.Common.{◌≡◌, ◌≢◌, ◌⊎◌, ℕ, suc, ◌+◌, ◌^◌, ◌<◌, ◌≤◌, Bool, true, false, ◌&&◌, ◌==◌, cond, nat_lt, nat_le, List, [], ◌∷◌, ◌++◌, Option, Some, None, slice_get, ℤ, pos, negsuc, refl, sym, ap, ◌∙◌, subst, inl, inr, arith, true≢false, pow_pos, eq-eqb, ne_eqb}
use Rattle.std.proofs.lemmas.Bool.{cases_eq}
use Rattle.std.proofs.lemmas.Bool.Decides.{nat_tests}
use Rattle.bb_words.specs.Answers.{Goes, Ends}
use Rattle.bb_words.specs.declared.kinds.ReportKind.TheVariants as report
use Rattle.marked_ptr.specs.Marked.{word_at}
use Rattle.marked_ptr.specs.Laws.{IsInReach, WordsAreNotNull}
use Rattle.size_table.specs.declared.memory_map.TheConstants.{HEAP_START, MOST_BYTES}
use Rattle.size_table.specs.Blocks.{Block, block_at, MissEachOther, MissesAll, AreDisjoint}
use Rattle.size_table.specs.Pads.{exponent_of, ExponentIsLeast}
use Rattle.buddy_heap.specs.Places.{IsRoom, IsPlaceOf, place_of, PlaceIsLeast, OnePlace, block_from}
use Rattle.source_meaning.specs.declared.values.Pointer.{Pointer}
use Rattle.source_meaning.specs.declared.values.Pointer.TheVariants.{Null, To}
use Rattle.source_meaning.specs.declared.values.Value.TheVariants.{Num}
use Rattle.source_meaning.specs.declared.values.OutsideCause.TheVariants.{Dead}
use Rattle.source_meaning.specs.declared.values.Ending.TheVariants.{Reported}
use Rattle.source_meaning.specs.Objects.{Object, ended_in, same_int}
use Rattle.source_meaning.specs.Worlds.{World, outside, ended, is_heap, live_blocks, heap_blocks}
use Rattle.source_meaning.specs.Accounts.{freed_in, free}
use Rattle.flat_code.specs.Accounts.{heap_block}
use Rattle.injection.specs.Words.{word_in, word_of}
use Rattle.injection.specs.Memory.{IsLive, AreLaidOut, IsPointerIn, IsPointer}
use Rattle.injection.specs.Worlds.{Since, Heights, InRegions}
use Rattle.injection.specs.Laws.{HasPlace, FreesAlike}
use Rattle.injection.proofs.Accounts.{live_made, live_before}
use Rattle.injection.proofs.Cells.{int_from, and_left, and_right}
use Rattle.injection.proofs.Stores.{same_object}
use Rattle.injection.proofs.Blocks.{IsAmong, block_of, misses_among, among_live, disjoint_live}
use Rattle.injection.proofs.Tests.{start_word}

-- ---- Heights and regions

pub heights_made : (os : List Object) (o : Object) (stack : ℕ) → Heights os stack → stack ≤ o.base → Heights (os ++ o ∷ []) stack
heights_made os o stack h low = record {
  by = λ k p l. elim (live_made os o k p l) [ inl m ↦ h.by k p m | inr r ↦ inr (subst (λ (x : Object). stack ≤ x.base) (sym r.1) low) ];
  top = h.top;
}

pub heights_since : (before after : List Object) (stack : ℕ) → Heights before stack → Since before after → Heights after stack
heights_since before after stack h s = record {
  by = λ k o l. elim (s.by k o l) [ inl m ↦ h.by k o m | inr r ↦ inr (let t = h.top in omega (arith, r, t)) ];
  top = h.top;
}

pub heap_made : (os : List Object) (o : Object) → InRegions os → is_heap o.kind ≡ true → HEAP_START ≤ o.base → InRegions (os ++ o ∷ [])
heap_made os o h heap low = record {
  heap = λ k p l e. elim (live_made os o k p l) [ inl m ↦ h.heap k p m e | inr r ↦ subst (λ (x : Object). HEAP_START ≤ x.base) (sym r.1) low ];
  others = λ k p l e. elim (live_made os o k p l) [ inl m ↦ h.others k p m e | inr r ↦ absurd (true≢false (sym heap ∙ ap (λ (x : Object). is_heap x.kind) (sym r.1) ∙ e)) ];
}

pub other_made : (os : List Object) (o : Object) → InRegions os → is_heap o.kind ≡ false → o.base + 2 ^ o.exponent ≤ HEAP_START → InRegions (os ++ o ∷ [])
other_made os o h other high = record {
  heap = λ k p l e. elim (live_made os o k p l) [ inl m ↦ h.heap k p m e | inr r ↦ absurd (true≢false (sym e ∙ ap (λ (x : Object). is_heap x.kind) r.1 ∙ other)) ];
  others = λ k p l e. elim (live_made os o k p l) [ inl m ↦ h.others k p m e | inr r ↦ subst (λ (x : Object). x.base + 2 ^ x.exponent ≤ HEAP_START) (sym r.1) high ];
}

pub regions_ended : (os : List Object) (k : ℕ) → InRegions os → InRegions (ended_in os k (slice_get os k))
regions_ended os k h = at (slice_get os k) refl
  where
    at : (x : Option Object) → slice_get os k ≡ x → InRegions (ended_in os k x)
    at None e = h
    at (Some o) e = record {
      heap = λ j p l f. h.heap j p (live_before os k o j p e l).0 f;
      others = λ j p l f. h.others j p (live_before os k o j p e l).0 f;
    }

-- ---- Places in the heap

rest_regions : (o : Object) (os : List Object) → InRegions (o ∷ os) → InRegions os
rest_regions o os h = record {
  heap = λ k p l e. h.heap (suc k) p (record { there = l.there; live = l.live }) e;
  others = λ k p l e. h.others (suc k) p (record { there = l.there; live = l.live }) e;
}

misses_heap : (b : Block) (os : List Object) → MissesAll b (live_blocks os) → MissesAll b (heap_blocks os)
misses_heap b [] m = tt
misses_heap b (o ∷ os) m = at o.live (is_heap o.kind) (misses_heap b os) m
  where
    at : (t s : Bool) → (MissesAll b (live_blocks os) → MissesAll b (heap_blocks os)) → MissesAll b (cond t (block_of o ∷ live_blocks os) (live_blocks os)) → MissesAll b (cond (t && s) (block_of o ∷ heap_blocks os) (heap_blocks os))
    at true true rest n = (n.0, rest n.1)
    at true false rest n = rest n.1
    at false s rest n = rest n

misses_live : (p e : ℕ) (os : List Object) → HEAP_START ≤ p → InRegions os → MissesAll (block_at p e) (heap_blocks os) → MissesAll (block_at p e) (live_blocks os)
misses_live p e [] low h m = tt
misses_live p e (o ∷ os) low h m = at o.live (is_heap o.kind) refl refl (misses_live p e os low (rest_regions o os h)) m
  where
    at : (t s : Bool) → o.live ≡ t → is_heap o.kind ≡ s → (MissesAll (block_at p e) (heap_blocks os) → MissesAll (block_at p e) (live_blocks os)) → MissesAll (block_at p e) (cond (t && s) (block_of o ∷ heap_blocks os) (heap_blocks os)) → MissesAll (block_at p e) (cond t (block_of o ∷ live_blocks os) (live_blocks os))
    at true true f f' rest n = (n.0, rest n.1)
    at true false f f' rest n = (inr (let high = h.others 0 o (record { there = refl; live = f }) f' in omega (arith, high, low)), rest n)
    at false s f f' rest n = rest n

room_heap : (os : List Object) (e p : ℕ) → IsRoom (live_blocks os) e p → IsRoom (heap_blocks os) e p
room_heap os e p r = record { low = r.low; high = r.high; aligned = r.aligned; clear = misses_heap (block_at p e) os r.clear }

room_live : (os : List Object) (e p : ℕ) → InRegions os → IsRoom (heap_blocks os) e p → IsRoom (live_blocks os) e p
room_live os e p h r = record { low = r.low; high = r.high; aligned = r.aligned; clear = misses_live p e os r.low h r.clear }

place_heap : (os : List Object) (e : ℕ) (x : Option ℕ) → InRegions os → IsPlaceOf (live_blocks os) e x → IsPlaceOf (heap_blocks os) e x
place_heap os e None h i = λ q r. i q (room_live os e q h r)
place_heap os e (Some p) h i = (room_heap os e p i.0, λ q r. i.1 q (room_live os e q h r))

pub places_free : PlaceIsLeast → OnePlace → ExponentIsLeast → (g n : ℕ) (os : List Object) → 1 ≤ g → g ≤ 24 → n ≤ MOST_BYTES → InRegions os → HasPlace g n os
places_free least one exponents g n os slot small most h = record {
  same = one (heap_blocks os) (exponent_of g n) _ _ (least (heap_blocks os) (exponent_of g n) below) (place_heap os (exponent_of g n) _ h (least (live_blocks os) (exponent_of g n) below));
  heap = λ base e. (room base e).low;
  account = λ base e. record {
    placed = record { slot = slot; least = (exponents g n small most).slot; most = below; aligned = (room base e).aligned; low = (let l = (room base e).low in omega (arith, l)); high = (room base e).high };
    fits = (exponents g n small most).fits;
  };
  free = λ base e. record { apart = λ k o l. misses_among (block_at base (exponent_of g n)) (block_of o) (live_blocks os) (room base e).clear (among_live os k o l) };
}
  where
    below : exponent_of g n ≤ 24
    below = (exponents g n small most).least 24 small most

    room : (base : ℕ) → place_of (live_blocks os) (exponent_of g n) ≡ Some base → IsRoom (live_blocks os) (exponent_of g n) base
    room base e = (subst (IsPlaceOf (live_blocks os) (exponent_of g n)) e (least (live_blocks os) (exponent_of g n) below)).0

-- ---- What is freed

from_among : (a : Block) (bs : List Block) → AreDisjoint bs → IsAmong a bs → block_from a.base bs ≡ Some a
from_among a [] d h = absurd h
from_among a (b ∷ bs) d (inl e) = ap (λ t. cond t (Some b) (block_from a.base bs)) (eq-eqb b.base a.base (ap (λ (x : Block). x.base) (sym e))) ∙ ap Some (sym e)
from_among a (b ∷ bs) d (inr k) =
    let m = misses_among b a bs d.0 k in
    ap (λ t. cond t (Some b) (block_from a.base bs)) (ne_eqb b.base a.base (other m)) ∙ from_among a bs d.1 k
  where
    other : MissEachOther b a → b.base ≢ a.base
    other m = omega (arith, pow_pos b.exponent, pow_pos a.exponent)

from_none : (at : ℕ) (os : List Object) → ((k : ℕ) (p : Object) → IsLive os k p → p.base ≢ at) → block_from at (live_blocks os) ≡ None
from_none at [] h = refl
from_none at (o ∷ os) h = by o.live refl (from_none at os (λ k p l. h (suc k) p (record { there = l.there; live = l.live })))
  where
    by : (t : Bool) → o.live ≡ t → block_from at (live_blocks os) ≡ None → block_from at (cond t (block_of o ∷ live_blocks os) (live_blocks os)) ≡ None
    by false e r = r
    by true e r = ap (λ x. cond x (Some (block_of o)) (block_from at (live_blocks os))) (ne_eqb o.base at (h 0 o (record { there = refl; live = e }))) ∙ r

in_heap : (at : ℕ) (bs : List Block) (x : Option Block) → block_from at bs ≡ x → HEAP_START ≤ at → heap_block at bs ≡ x
in_heap at bs x e low = ap (λ t. cond t (block_from at bs) None) (le 16777216 at low) ∙ e
  where
    le : (a b : ℕ) → a ≤ b → nat_le a b ≡ true
    le a b h = grind (arith, nat_tests)

none_unless : (at : ℕ) (bs : List Block) → (HEAP_START ≤ at → block_from at bs ≡ None) → heap_block at bs ≡ None
none_unless at bs h = by (nat_le 16777216 at) refl
  where
    was : (a b : ℕ) → nat_le a b ≡ true → a ≤ b
    was a b e = grind (arith, nat_tests)

    by : (t : Bool) → nat_le 16777216 at ≡ t → cond t (block_from at bs) None ≡ None
    by false e = refl
    by true e = h (was 16777216 at e)

module _ (nulls : WordsAreNotNull) (g line : ℕ) (w : World) (out : AreLaidOut g w.objects) (h : InRegions w.objects) where
  -- no live block begins at the word, unless the pointer is to the start of an object of the heap
  nothing_begins : (k : ℕ) (z : ℤ) (o : Object) → IsLive w.objects k o → IsInReach g o.exponent z → (is_heap o.kind && same_int z (pos 0)) ≡ false → HEAP_START ≤ word_at o.base o.exponent z → (j : ℕ) (p : Object) → IsLive w.objects j p → p.base ≢ word_at o.base o.exponent z
  nothing_begins k (negsuc n) o l r t low j p m e =
      let high = (out.accounts j p m.there).placed.high in
      omega (arith, high, e)
  nothing_begins k (pos n) o l r t low j p m e = by (nat_lt n (2 ^ o.exponent)) refl low e
    where
      was : (a b : ℕ) → nat_lt a b ≡ true → a < b
      was a b q = grind (arith, nat_tests)

      first : (s : Bool) → is_heap o.kind ≡ s → n ≡ 0 → (s && (n == 0)) ≡ false → HEAP_START ≤ o.base + n → ⊥
      first true f z q low' = true≢false (sym (eq-eqb n 0 z) ∙ q)
      first false f z q low' = let top = h.others k o l f in let pp = pow_pos o.exponent in omega (arith, top, z, low', pp)

      inside : n < 2 ^ o.exponent → HEAP_START ≤ o.base + n → p.base ≡ o.base + n → (j ≡ k) ⊎ (j ≡ k → ⊥) → ⊥
      inside lt low' e' (inl q) =
          let b = ap (λ (x : Object). x.base) (same_object w.objects j k p o m l q) in
          first (is_heap o.kind) refl (omega (arith, b, e')) t low'
      inside lt low' e' (inr q) = let apart = out.apart j k p o m l q in let pp = pow_pos p.exponent in omega (arith, apart, lt, e', pp)

      by : (s : Bool) → nat_lt n (2 ^ o.exponent) ≡ s → HEAP_START ≤ cond s (o.base + n) (2147483648 + (o.base + n)) → p.base ≡ cond s (o.base + n) (2147483648 + (o.base + n)) → ⊥
      by true q low' e' = inside (was n (2 ^ o.exponent) q) low' e' (cases_eq j k)
      by false q low' e' = let high = (out.accounts j p m.there).placed.high in omega (arith, high, e')

  live_freed : (k : ℕ) (z : ℤ) (o : Object) → IsLive w.objects k o → IsInReach g o.exponent z → FreesAlike line w (word_at o.base o.exponent z) (cond (is_heap o.kind && same_int z (pos 0)) (Goes (Num 0) (ended k w)) (Ends (Reported report.BadFree line) w))
  live_freed k z o l r = by (is_heap o.kind && same_int z (pos 0)) refl
    where
      not_null : word_at o.base o.exponent z ≢ 0
      not_null = nulls g o.base o.exponent z (out.accounts k o l.there).placed r

      by : (t : Bool) → (is_heap o.kind && same_int z (pos 0)) ≡ t → FreesAlike line w (word_at o.base o.exponent z) (cond t (Goes (Num 0) (ended k w)) (Ends (Reported report.BadFree line) w))
      by true e =
          let zero_offset : z ≡ pos 0 = int_from z (pos 0) (and_right (is_heap o.kind) _ e) in
          let base : word_at o.base o.exponent z ≡ o.base = ap (word_at o.base o.exponent) zero_offset ∙ start_word o.base o.exponent in
          let low = h.heap k o l (and_left (is_heap o.kind) _ e) in (
            refl,
            inr (record {
              number = k;
              object = o;
              live = l;
              world = refl;
              not_null = not_null;
              base = base;
              block = ap (λ a. heap_block a (live_blocks w.objects)) base ∙ in_heap o.base (live_blocks w.objects) _ (from_among (block_of o) (live_blocks w.objects) (disjoint_live g w.objects out) (among_live w.objects k o l)) low;
            }),
          )
      by false e = (refl, refl, refl, not_null, none_unless (word_at o.base o.exponent z) (live_blocks w.objects) (λ low. from_none (word_at o.base o.exponent z) w.objects (nothing_begins k z o l r e low)))

pub frees_alike : WordsAreNotNull → (g line : ℕ) (q : Pointer) (w : World) → AreLaidOut g w.objects → InRegions w.objects → IsPointer g w.objects q → FreesAlike line w (word_of w.objects q) (free line q w)
frees_alike nulls g line Null w out h f = (refl, inl (refl, refl))
frees_alike nulls g line (To k z) w out h f = at (slice_get w.objects k) refl f
  where
    at : (x : Option Object) → slice_get w.objects k ≡ x → IsPointerIn g x z → FreesAlike line w (word_in x z) (freed_in line k z x w)
    at None e f' = refl
    at (Some o) e f' = by o.live refl
      where
        by : (t : Bool) → o.live ≡ t → FreesAlike line w (word_at o.base o.exponent z) (cond t (cond (is_heap o.kind && same_int z (pos 0)) (Goes (Num 0) (ended k w)) (Ends (Reported report.BadFree line) w)) (outside Dead w))
        by false le = refl
        by true le = live_freed nulls g line w out h k z o (record { there = e; live = le }) f'
