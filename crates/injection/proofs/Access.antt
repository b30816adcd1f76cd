-- Accesses of words find what accesses of objects find.
use Rattle.std.proofs.Common.{◌≡◌, ℕ, suc, ◌+◌, ◌*◌, ◌-◌, ◌/◌, ◌%◌, ◌≤◌, ◌<◌, ◌^◌, Bool, true, false, Option, Some, None, slice_get, refl, sym, ap, ◌∙◌, arith, cond, nat_lt, nat_le, ◌==◌, ℤ, pos, negsuc, true≢false}
use Rattle.std.proofs.lemmas.Nat.{pow-add, div-add-mod'}
use Rattle.bb_words.specs.Answers.{Goes, Ends}
use Rattle.bb_words.specs.Steps.{size_of_width}
use Rattle.bb_words.specs.declared.kinds.TrapKind.TheVariants as trap
use Rattle.bb_words.specs.declared.steps.Width.{Width}
use Rattle.bb_words.specs.declared.steps.Width.TheVariants as width
use Rattle.marked_ptr.specs.Marked.{word_at}
use Rattle.marked_ptr.specs.Laws.{IsPlaced}
use Rattle.source_meaning.specs.declared.values.Pointer.{Pointer}
use Rattle.source_meaning.specs.declared.values.Pointer.TheVariants.{Null, To}
use Rattle.source_meaning.specs.declared.values.OutsideCause.TheVariants.{Dead, Padding}
use Rattle.source_meaning.specs.declared.values.Ending.TheVariants.{Trapped}
use Rattle.source_meaning.specs.Objects.{Object}
use Rattle.source_meaning.specs.Worlds.{World, outside}
use Rattle.source_meaning.specs.Accesses.{access_at, access_live, access_in, access}
use Rattle.flat_code.specs.World.{Ending as FlatEnding}
use Rattle.flat_code.specs.Run.{refusal}
use Rattle.injection.specs.Words.{word_in, word_of}
use Rattle.injection.specs.Memory.{IsLive, AreLaidOut}
use Rattle.injection.specs.Laws.{AccessesAlike}
use Rattle.injection.proofs.Tests.{no_lt, no_le, yes_le, was_lt, was_le}

-- ---- The tests of an address

past : {A : Type 0} (t1 t2 t3 t4 : Bool) (a b c d r : A) → t1 ≡ false → t2 ≡ false → t3 ≡ false → t4 ≡ false → cond t1 a (cond t2 b (cond t3 c (cond t4 d r))) ≡ r
past true t2 t3 t4 a b c d r h1 h2 h3 h4 = absurd (true≢false h1)
past false true t3 t4 a b c d r h1 h2 h3 h4 = absurd (true≢false h2)
past false false true t4 a b c d r h1 h2 h3 h4 = absurd (true≢false h3)
past false false false true a b c d r h1 h2 h3 h4 = absurd (true≢false h4)
past false false false false a b c d r h1 h2 h3 h4 = refl

second : {A : Type 0} (t1 t2 : Bool) (a b r : A) → t1 ≡ false → t2 ≡ true → cond t1 a (cond t2 b r) ≡ b
second true t2 a b r h1 h2 = absurd (true≢false h1)
second false false a b r h1 h2 = absurd (true≢false (sym h2))
second false true a b r h1 h2 = refl

pub refused_marked : (at size : ℕ) → 2147483648 ≤ at → refusal at size ≡ Some (FlatEnding.Trapped trap.Marked)
refused_marked at size h = second (nat_lt at 4096) (nat_le 2147483648 at) _ _ _ (no_lt at 4096 (omega arith)) (yes_le 2147483648 at h)

refused_by : (at size : ℕ) → 2097152 ≤ at → at < 33554432 → refusal at size ≡ cond (at % size == 0) None (Some (FlatEnding.Trapped trap.Misaligned))
refused_by at size low high =
    past (nat_lt at 4096) (nat_le 2147483648 at) (nat_le 33554432 at) (nat_lt at 2097152) _ _ _ _ _
    (no_lt at 4096 (omega arith)) (no_le 2147483648 at (omega arith)) (no_le 33554432 at high) (no_lt at 2097152 low)

-- ---- Places

-- the base of a block is a multiple of four
fours : (b e : ℕ) → 2 ≤ e → b % 2 ^ e ≡ 0 → (c : ℕ) × (b ≡ 4 * c)
fours b e h al =
    let split : e ≡ 2 + (e - 2) = omega arith in
    let size : 2 ^ e ≡ 4 * 2 ^ (e - 2) = ap (λ n. 2 ^ n) split ∙ pow-add 2 2 (e - 2) in
    let whole : b / 2 ^ e * 2 ^ e + b % 2 ^ e ≡ b = div-add-mod' b (2 ^ e) in
    (b / 2 ^ e * 2 ^ (e - 2), sym whole ∙ ap (λ r. b / 2 ^ e * 2 ^ e + r) al ∙ ap (λ p. b / 2 ^ e * p + 0) size ∙ prod (b / 2 ^ e) (2 ^ (e - 2)))
  where
    prod : (k q : ℕ) → k * (4 * q) + 0 ≡ 4 * (k * q)
    prod k q = grind arith

same_rest : (width : Width) (b c i : ℕ) → b ≡ 4 * c → (b + i) % size_of_width width ≡ i % size_of_width width
same_rest width.Byte b c i f = omega arith
same_rest width.Half b c i f = omega arith
same_rest width.SignedHalf b c i f = omega arith
same_rest width.Word b c i f = omega arith
same_rest width.Pointer b c i f = omega arith

module _ (g : ℕ) (wide : Width) (w : World) (two : 2 ≤ g) (k : ℕ) (o : Object) (l : IsLive w.objects k o) (p : IsPlaced g o.base o.exponent) where
  at_place : (i : ℕ) → AccessesAlike w (To k (pos i)) (size_of_width wide) (word_at o.base o.exponent (pos i)) (access_at (size_of_width wide) k o i w)
  at_place i = at_pad (nat_lt i (2 ^ o.exponent)) refl
    where
      at_pad : (t : Bool) → nat_lt i (2 ^ o.exponent) ≡ t → AccessesAlike w (To k (pos i)) (size_of_width wide) (cond t (o.base + i) (2 ^ 31 + (o.base + i))) (cond t (cond (i % size_of_width wide == 0) (cond (nat_le (i + size_of_width wide) o.length) (Goes (k, i) w) (outside Padding w)) (Ends (Trapped trap.Misaligned) w)) (Ends (Trapped trap.Marked) w))
      at_pad false e = (refl, refused_marked (2 ^ 31 + (o.base + i)) (size_of_width wide) (omega arith))
      at_pad true e = at_rest (i % size_of_width wide == 0) (ap (λ x. x == 0) (same_rest wide o.base c.0 i c.1))
        where
          c : (c : ℕ) × (o.base ≡ 4 * c)
          c = fours o.base o.exponent (let least = p.least in omega arith) p.aligned

          test : refusal (o.base + i) (size_of_width wide) ≡ cond ((o.base + i) % size_of_width wide == 0) None (Some (FlatEnding.Trapped trap.Misaligned))
          test =
              let s : i < 2 ^ o.exponent = was_lt i (2 ^ o.exponent) e in
              let low = p.low in let high = p.high in
              refused_by (o.base + i) (size_of_width wide) (omega arith) (omega arith)

          at_rest : (t : Bool) → ((o.base + i) % size_of_width wide == 0) ≡ t → AccessesAlike w (To k (pos i)) (size_of_width wide) (o.base + i) (cond t (cond (nat_le (i + size_of_width wide) o.length) (Goes (k, i) w) (outside Padding w)) (Ends (Trapped trap.Misaligned) w))
          at_rest false q = (refl, test ∙ ap (λ t. cond t None (Some (FlatEnding.Trapped trap.Misaligned))) q)
          at_rest true q = at_length (nat_le (i + size_of_width wide) o.length) refl
            where
              at_length : (t : Bool) → nat_le (i + size_of_width wide) o.length ≡ t → AccessesAlike w (To k (pos i)) (size_of_width wide) (o.base + i) (cond t (Goes (k, i) w) (outside Padding w))
              at_length false z = refl
              at_length true z = (
                refl,
                refl,
                record {
                  object = o;
                  live = l;
                  within = was_le (i + size_of_width wide) o.length z;
                  is = refl;
                  free = test ∙ ap (λ t. cond t None (Some (FlatEnding.Trapped trap.Misaligned))) q;
                },
              )

  at_offset : (z : ℤ) → AccessesAlike w (To k z) (size_of_width wide) (word_at o.base o.exponent z) (access_live (size_of_width wide) k o z w)
  at_offset (pos i) = at_place i
  at_offset (negsuc i) = (refl, refused_marked (2 ^ 31 + (o.base - suc i)) (size_of_width wide) (omega arith))

pub accesses_alike : (g : ℕ) (wide : Width) (q : Pointer) (w : World) → 2 ≤ g → AreLaidOut g w.objects → AccessesAlike w q (size_of_width wide) (word_of w.objects q) (access (size_of_width wide) q w)
accesses_alike g wide Null w two out = (refl, refl)
accesses_alike g wide (To k z) w two out = at (slice_get w.objects k) refl
  where
    at : (x : Option Object) → slice_get w.objects k ≡ x → AccessesAlike w (To k z) (size_of_width wide) (word_in x z) (access_in (size_of_width wide) k z x w)
    at None e = refl
    at (Some o) e = at_flag o.live refl
      where
        at_flag : (t : Bool) → o.live ≡ t → AccessesAlike w (To k z) (size_of_width wide) (word_at o.base o.exponent z) (cond t (access_live (size_of_width wide) k o z w) (outside Dead w))
        at_flag false f = refl
        at_flag true f = at_offset g wide w two k o (record { there = e; live = f }) (out.accounts k o e).placed z
