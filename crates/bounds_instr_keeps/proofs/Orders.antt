-- Pointers are ordered and subtracted.
use Rattle.std.specs.Prelude.{◌^◌, ◌*◌, ◌-◌, nat_lt, nat_le, bit_and, pos, negsuc, int_div}
use mir.Val.{sel}
use Rattle.std.proofs.Common.{◌≡◌, ℕ, suc, ◌+◌, ◌<◌, ◌≤◌, lt-ltb, ne_eqb, cond, refl, ap, ◌∙◌, subst, arith}
use Rattle.std.proofs.lemmas.Bool.Decides.{nat_tests}
use Rattle.std.proofs.lemmas.Nat.{and_mask}
use Rattle.bb_words.specs.Answers.{and_then}
use Rattle.bb_words.specs.Numbers.{sum, difference, signed, word_of, signed_quotient, all_ones}
use Rattle.bb_words.specs.Steps.{flag, arith as calculated}
use Rattle.bb_words.specs.declared.steps.ArithOp.TheVariants as op
use Rattle.bb_words.specs.declared.steps.OrderOp.{OrderOp}
use Rattle.bb_words.specs.declared.steps.OrderOp.TheVariants as order
use Rattle.marked_ptr.specs.Marked.{unmarked, difference as between}
use Rattle.source_meaning.specs.Comparisons.{ordered, elements_between}
use Rattle.mid_code.specs.Meaning.{Point, setting}
use Rattle.mid_code.specs.Meaning as mid
use Rattle.flat_code.specs.World.{Words, with_word, FPoint, point}
use Rattle.flat_code.specs.World as flat
use Rattle.flat_code.specs.Run as run
use Rattle.injection.specs.Words.{word_of_value}
use Rattle.injection.specs.Trail.{SafeSites}
use Rattle.injection.specs.Laws.{ComparisonsAreOfWords, is_in_order}
use Rattle.bounds_instr_code.specs.Code.{ordering, subtraction}
use Rattle.bounds_instr_keeps.proofs.Words.{calculated_fits, flag_fits}
use Rattle.bounds_instr_keeps.proofs.Follow.{Follows}
use Rattle.bounds_instr_keeps.proofs.Meets.{Frame, Meets, gained, flat_spent, sets_temporary, Left, number_reply, setting_follows}
use Rattle.bounds_instr_keeps.proofs.Temporaries.{Two, neither, first_set, second_set}

-- ---- Words

twice : (a : ℕ) → sum a a ≡ 2 * unmarked a
twice a = omega arith

below_twice : (p q : ℕ) → nat_lt (2 * p) (2 * q) ≡ nat_lt p q
below_twice p q = grind (arith, nat_tests)

most_twice : (p q : ℕ) → nat_le (2 * p) (2 * q) ≡ nat_le p q
most_twice p q = grind (arith, nat_tests)

below_is : (a b p q : ℕ) → p ≡ sum a a → q ≡ sum b b → nat_lt p q ≡ nat_lt (unmarked a) (unmarked b)
below_is a b p q e f = ap (λ z. nat_lt z q) (e ∙ twice a) ∙ ap (λ z. nat_lt (2 * unmarked a) z) (f ∙ twice b) ∙ below_twice (unmarked a) (unmarked b)

most_is : (a b p q : ℕ) → p ≡ sum a a → q ≡ sum b b → nat_le p q ≡ nat_le (unmarked a) (unmarked b)
most_is a b p q e f = ap (λ z. nat_le z q) (e ∙ twice a) ∙ ap (λ z. nat_le (2 * unmarked a) z) (f ∙ twice b) ∙ most_twice (unmarked a) (unmarked b)

signed_small : (n : ℕ) → n < 2 ^ 31 → signed n ≡ pos n
signed_small n lt = ap (λ b. sel b (pos n) (negsuc (2 ^ 32 - suc n))) (lt-ltb n (2 ^ 31) lt)

quotient_by : (x size : ℕ) → 1 ≤ size → size ≤ 1048576 → signed_quotient x size ≡ word_of (int_div (signed x) (pos size))
unfolding signed_quotient
quotient_by x size least most =
    ap (λ b. cond b all_ones (word_of (int_div (signed x) (signed size)))) (ne_eqb size 0 (λ e. omega (arith, least, e)))
    ∙ ap (λ z. word_of (int_div (signed x) z)) (signed_small size (omega (arith, most)))

between_is : (a b p q size : ℕ) → p ≡ difference (unmarked a) (unmarked b) → q ≡ size → 1 ≤ size → size ≤ 1048576 → calculated op.Div p q ≡ between a b size
unfolding between
between_is a b p q size e f least most =
    ap (λ z. signed_quotient z q) e ∙ ap (λ z. signed_quotient (difference (unmarked a) (unmarked b)) z) f ∙ quotient_by (difference (unmarked a) (unmarked b)) size least most

masked : (a z : ℕ) (x : ℕ) → x ≡ a → z ≡ 0x7fff_ffff → bit_and x z ≡ unmarked a
masked a z x e f = ap (λ y. bit_and y z) e ∙ ap (λ y. bit_and a y) f ∙ and_mask a 31

-- ---- Steps

module _ (compares : ComparisonsAreOfWords) (g : ℕ) (safe : SafeSites) (fr : Frame) (call : run.Calls) (m frame d : ℕ) where
  pub ordering_follows : (s to : ℕ) (o : OrderOp) (a b : ℕ) (v : Point) (u : FPoint) → a < fr.values → b < fr.values → Meets g safe fr s v u → Follows safe (Left g safe fr d s) (setting to (ordered o (v.values a) (v.values b)) (mid.spend 64 v)) (run.act_all g call m frame (ordering fr.values to o a b) u)
  unfolding and_then
  ordering_follows s to o a b v u la lb h = of o
    where
      n : ℕ
      n = fr.values

      i : ℕ
      i = word_of_value v.world.objects (v.values a)

      j : ℕ
      j = word_of_value v.world.objects (v.values b)

      w1 : Words
      w1 = with_word u.words n (sum (u.words a) (u.words a))

      w2 : Words
      w2 = with_word w1 (n + 1) (sum (w1 b) (w1 b))

      t1 : Two n u.words (sum i i) (u.words (n + 1)) w1
      t1 = first_set n u.words (u.words n) (u.words (n + 1)) (sum (u.words a) (u.words a)) (sum i i) u.words (ap (λ z. sum z z) (h.values.each a la)) (neither n u.words)

      t2 : Two n u.words (sum i i) (sum j j) w2
      t2 = second_set n u.words (sum i i) (u.words (n + 1)) (sum (w1 b) (w1 b)) (sum j j) w1 (ap (λ z. sum z z) (t1.kept b lb ∙ h.values.each b lb)) t1

      p1 : FPoint
      p1 = point w1 (flat.spend 5 u.world)

      p2 : FPoint
      p2 = point w2 (flat.spend 5 p1.world)

      met : Meets g safe fr s (mid.spend 64 v) (point w2 (flat.spend 5 p2.world))
      met =
          flat_spent g safe fr 5 (s + 54) s (mid.spend 64 v) p2 (omega arith)
          (sets_temporary g safe fr 5 (s + 59) (s + 54) (n + 1) (sum (w1 b) (w1 b)) (mid.spend 64 v) p1 (omega arith) (omega arith)
          (sets_temporary g safe fr 5 (s + 64) (s + 59) n (sum (u.words a) (u.words a)) (mid.spend 64 v) u (omega arith) (omega arith)
          (gained g safe fr 64 s (s + 64) v u (omega arith) h)))

      answer : (o : OrderOp) (word : ℕ) → word ≡ flag (is_in_order o i j) → Follows safe (Left g safe fr d s) (setting to (ordered o (v.values a) (v.values b)) (mid.spend 64 v)) (run.goes (flat.put to word (point w2 (flat.spend 5 p2.world))))
      answer o word e =
          setting_follows g safe fr d (ordered o (v.values a) (v.values b)) s to word (mid.spend 64 v) (point w2 (flat.spend 5 p2.world))
          (number_reply g (flag (is_in_order o i j)) word (ordered o (v.values a) (v.values b) v.world) v.world e (flag_fits (is_in_order o i j)) ((compares g (v.values a) (v.values b) v.world h.agrees.world.injects.out (h.values.formed a la) (h.values.formed b lb)).orders o)) met

      of : (o : OrderOp) → Follows safe (Left g safe fr d s) (setting to (ordered o (v.values a) (v.values b)) (mid.spend 64 v)) (run.act_all g call m frame (ordering n to o a b) u)
      of order.Below = answer order.Below (calculated op.Ltu (w2 n) (w2 (n + 1))) (ap flag (below_is i j (w2 n) (w2 (n + 1)) t2.first t2.second))
      of order.AtMost = answer order.AtMost (calculated op.AtMostUnsigned (w2 n) (w2 (n + 1))) (ap flag (most_is i j (w2 n) (w2 (n + 1)) t2.first t2.second))
      of order.Above = answer order.Above (calculated op.Ltu (w2 (n + 1)) (w2 n)) (ap flag (below_is j i (w2 (n + 1)) (w2 n) t2.second t2.first))
      of order.AtLeast = answer order.AtLeast (calculated op.AtMostUnsigned (w2 (n + 1)) (w2 n)) (ap flag (most_is j i (w2 (n + 1)) (w2 n) t2.second t2.first))

  pub subtraction_follows : (s to a b size : ℕ) (v : Point) (u : FPoint) → a < fr.values → b < fr.values → 1 ≤ size → size ≤ 1048576 → Meets g safe fr s v u → Follows safe (Left g safe fr d s) (setting to (elements_between size (v.values a) (v.values b)) (mid.spend 64 v)) (run.act_all g call m frame (subtraction fr.values to a b size) u)
  unfolding and_then
  subtraction_follows s to a b size v u la lb least most h = answer
    where
      n : ℕ
      n = fr.values

      i : ℕ
      i = word_of_value v.world.objects (v.values a)

      j : ℕ
      j = word_of_value v.world.objects (v.values b)

      w1 : Words
      w1 = with_word u.words n 0x7fff_ffff

      w2 : Words
      w2 = with_word w1 (n + 1) (bit_and (w1 b) (w1 n))

      w3 : Words
      w3 = with_word w2 n (bit_and (w2 a) (w2 n))

      w4 : Words
      w4 = with_word w3 n (difference (w3 n) (w3 (n + 1)))

      w5 : Words
      w5 = with_word w4 (n + 1) size

      t1 : Two n u.words 0x7fff_ffff (u.words (n + 1)) w1
      t1 = first_set n u.words (u.words n) (u.words (n + 1)) 0x7fff_ffff 0x7fff_ffff u.words refl (neither n u.words)

      t2 : Two n u.words 0x7fff_ffff (unmarked j) w2
      t2 = second_set n u.words 0x7fff_ffff (u.words (n + 1)) (bit_and (w1 b) (w1 n)) (unmarked j) w1 (masked j (w1 n) (w1 b) (t1.kept b lb ∙ h.values.each b lb) t1.first) t1

      t3 : Two n u.words (unmarked i) (unmarked j) w3
      t3 = first_set n u.words 0x7fff_ffff (unmarked j) (bit_and (w2 a) (w2 n)) (unmarked i) w2 (masked i (w2 n) (w2 a) (t2.kept a la ∙ h.values.each a la) t2.first) t2

      t4 : Two n u.words (difference (unmarked i) (unmarked j)) (unmarked j) w4
      t4 =
          first_set n u.words (unmarked i) (unmarked j) (difference (w3 n) (w3 (n + 1))) (difference (unmarked i) (unmarked j)) w3
          (ap (λ z. difference z (w3 (n + 1))) t3.first ∙ ap (λ z. difference (unmarked i) z) t3.second) t3

      t5 : Two n u.words (difference (unmarked i) (unmarked j)) size w5
      t5 = second_set n u.words (difference (unmarked i) (unmarked j)) (unmarked j) size size w4 refl t4

      p1 : FPoint
      p1 = point w1 (flat.spend 3 u.world)

      p2 : FPoint
      p2 = point w2 (flat.spend 5 p1.world)

      p3 : FPoint
      p3 = point w3 (flat.spend 5 p2.world)

      p4 : FPoint
      p4 = point w4 (flat.spend 5 p3.world)

      p5 : FPoint
      p5 = point w5 (flat.spend 3 p4.world)

      met : Meets g safe fr s (mid.spend 64 v) (point w5 (flat.spend 5 p5.world))
      met =
          flat_spent g safe fr 5 (s + 5) s (mid.spend 64 v) p5 (omega arith)
          (sets_temporary g safe fr 3 (s + 8) (s + 5) (n + 1) size (mid.spend 64 v) p4 (omega arith) (omega arith)
          (sets_temporary g safe fr 5 (s + 13) (s + 8) n (difference (w3 n) (w3 (n + 1))) (mid.spend 64 v) p3 (omega arith) (omega arith)
          (sets_temporary g safe fr 5 (s + 18) (s + 13) n (bit_and (w2 a) (w2 n)) (mid.spend 64 v) p2 (omega arith) (omega arith)
          (sets_temporary g safe fr 5 (s + 23) (s + 18) (n + 1) (bit_and (w1 b) (w1 n)) (mid.spend 64 v) p1 (omega arith) (omega arith)
          (sets_temporary g safe fr 3 (s + 64) (s + 23) n 0x7fff_ffff (mid.spend 64 v) u (omega arith) (omega arith)
          (gained g safe fr 64 s (s + 64) v u (omega arith) h))))))

      word : ℕ
      word = calculated op.Div (w5 n) (w5 (n + 1))

      is : word ≡ between i j size
      is = between_is i j (w5 n) (w5 (n + 1)) size t5.first t5.second least most

      fits : word < 4294967296
      fits = calculated_fits op.Div (w5 n) (w5 (n + 1)) (let q : difference (unmarked i) (unmarked j) < 4294967296 = omega arith in omega (arith, q, t5.first)) (omega (arith, t5.second))

      answer : Follows safe (Left g safe fr d s) (setting to (elements_between size (v.values a) (v.values b)) (mid.spend 64 v)) (run.act_all g call m frame (subtraction n to a b size) u)
      answer =
          setting_follows g safe fr d (elements_between size (v.values a) (v.values b)) s to word (mid.spend 64 v) (point w5 (flat.spend 5 p5.world))
          (number_reply g (between i j size) word (elements_between size (v.values a) (v.values b) v.world) v.world is (subst (λ z. z < 4294967296) is fits)
          ((compares g (v.values a) (v.values b) v.world h.agrees.world.injects.out (h.values.formed a la) (h.values.formed b lb)).differences size)) met
