-- The move sequence does what a move's answer says.
use Rattle.std.proofs.Common.{◌≡◌, ℕ, zero, suc, ◌+◌, ◌*◌, ◌-◌, ◌/◌, ◌%◌, ◌^◌, ◌<◌, ◌≤◌, [], ◌∷◌, Some, Bool, true, false, cond, refl, sym, ap, ◌∙◌, subst, arith, pow-add, pow_pos, bit_or, nat_lt}
use Rattle.std.specs.Int.Bits.{or_zero_r}
use Rattle.std.specs.Prelude.{◌==◌, if◌then◌else◌}
use Rattle.std.proofs.lemmas.Bool.Decides.{nat_tests}
use Rattle.std.proofs.Math.Pow.{pow_mono}
use Rattle.std.proofs.Math.Nat.{mul-le-mul_left}
use Rattle.std.proofs.lemmas.Nat.{div-add-mod', and_mask, or_block}
use Rattle.bb_words.specs.Answers.{Answer, and_then}
use Rattle.bb_words.specs.Steps.{arith as arith_of}
use Rattle.bb_words.specs.Numbers.{difference}
use Rattle.bb_words.specs.declared.kinds.ReportKind.TheVariants.{Bounds}
use Rattle.bb_words.specs.declared.steps.ArithOp.TheVariants as op
use Rattle.marked_ptr.specs.Marked.{half_slot, unmarked, marked, owner_slot, base_of, moved_address, moved, inside, outside}
use Rattle.marked_ptr.specs.Laws.{tested, MovesByTests}
use Rattle.marked_ptr.specs.declared.answer.MoveAnswer.{MoveAnswer}
use Rattle.marked_ptr.specs.declared.answer.MoveAnswer.TheVariants.{Inside, Marked, Report as Refused}
use Rattle.size_table.specs.Table.{byte_of}
use Rattle.flat_code.specs.Code.{FSteps, none, more, ◌+++◌, steps}
use Rattle.flat_code.specs.Code.FStep.{Number, Arith, If, Checked}
use Rattle.flat_code.specs.Told.{Tell}
use Rattle.flat_code.specs.World.{Words, with_word, FWorld, FPoint, point, spend, tell, choose, Ending, Run, Way, onward}
use Rattle.flat_code.specs.Run.{Calls, act_all, slot_word, slot_or_ones}
use Rattle.flat_code.specs.Sequences.{report, address_steps, mark_steps, outside_steps, move_sequence, MoveApart, KeptBut, WentOn, DoesMove, move_time}
use Rattle.flat_code_laws.proofs.Words.{set_same, set_other, spend_spend, arith_is, takes_first, takes_second}

-- a word with bit 31
marked_by_or : (n : ℕ) → n < 2 ^ 32 → bit_or n (2 ^ 31) ≡ marked n
marked_by_or n h =
    let a = n / 2 ^ 31 in
    let r = n % 2 ^ 31 in
    let whole : a * 2 ^ 31 + r ≡ n = div-add-mod' n (2 ^ 31) in
    ap (λ x. bit_or x (2 ^ 31)) (sym whole)
    ∙ or_block 31 a 1 r 0 (omega arith) (omega arith)
    ∙ ap (λ x. x * 2 ^ 31 + bit_or r 0) (top (n / 2 ^ 31) (omega arith))
    ∙ ap (λ x. 1 * 2 ^ 31 + x) (or_zero_r r)
    ∙ omega arith
  where
    top : (a : ℕ) → a < 2 → bit_or a 1 ≡ 1
    top zero h = refl
    top (suc zero) h = refl
    top (suc (suc a)) h = absurd (let z : ⊥ = omega (arith, h) in z)

-- what a step between two sizes needs to know
two_halves : (g : ℕ) → 1 ≤ g → 2 ^ g ≡ 2 * 2 ^ (g - 1)
two_halves g h = let k : g ≡ 1 + (g - 1) = omega arith in ap (λ n. 2 ^ n) k ∙ pow-add 2 1 (g - 1)

div_times : (a b : ℕ) → a / b * b ≤ a
div_times a b = let z : a / b * b + a % b ≡ a = div-add-mod' a b in omega (arith, z)

slot_end : (g slot : ℕ) → g ≤ 24 → slot < 2 ^ (25 - g) → slot * 2 ^ g < 2 ^ 25
slot_end g slot h l =
    let total : 2 ^ 25 ≡ 2 ^ g * 2 ^ (25 - g) = (let z : 25 ≡ g + (25 - g) = omega (arith, h) in ap (λ n. 2 ^ n) z ∙ pow-add 2 g (25 - g)) in
    let up : 2 ^ g * suc slot ≤ 2 ^ g * 2 ^ (25 - g) = mul-le-mul_left (2 ^ g) l in
    omega (arith, total, up, pow_pos g)

module _ (g : ℕ) (call : Calls) (m frame p d q line s e : ℕ) (apart : MoveApart p d q line s e) (u0 : FPoint) where
  abbrev P : ℕ
  P = u0.words p

  abbrev D : ℕ
  D = u0.words d

  abbrev go : FSteps → Words → FWorld → Run Way
  go xs v w = act_all g call m frame xs (point v w)

  abbrev then_go : Run Way → FSteps → Run Way
  then_go r xs = and_then r (λ way t. onward way t (act_all g call m frame xs))

  abbrev next : Words → FWorld → Run Way
  next v w = Answer.Goes Way.On (point v w)

  abbrev bad : Words → FWorld → Run Way
  bad v w = Answer.Ends (Ending.Reported Bounds (u0.words line)) (point v w)

  -- what the values hold
  record Holds (v : Words) (Q S E : ℕ) : Type 0 where
    at_p : v p ≡ u0.words p
    at_d : v d ≡ u0.words d
    at_line : v line ≡ u0.words line
    at_q : v q ≡ Q
    at_s : v s ≡ S
    at_e : v e ≡ E
    kept : KeptBut q s e u0.words v

  set_q : (v : Words) (Q S E x y : ℕ) → x ≡ y → Holds v Q S E → Holds (with_word v q x) y S E
  set_q v Q S E x y is h = record {
    at_p = set_other v q p x (λ z. apart.qp (sym z)) ∙ h.at_p;
    at_d = set_other v q d x (λ z. apart.qd (sym z)) ∙ h.at_d;
    at_line = set_other v q line x (λ z. apart.ql (sym z)) ∙ h.at_line;
    at_q = set_same v q q x refl ∙ is;
    at_s = set_other v q s x apart.sq ∙ h.at_s;
    at_e = set_other v q e x apart.eq ∙ h.at_e;
    kept = λ i a b f. set_other v q i x a ∙ h.kept i a b f;
  }

  set_s : (v : Words) (Q S E x y : ℕ) → x ≡ y → Holds v Q S E → Holds (with_word v s x) Q y E
  set_s v Q S E x y is h = record {
    at_p = set_other v s p x (λ z. apart.sp (sym z)) ∙ h.at_p;
    at_d = set_other v s d x (λ z. apart.sd (sym z)) ∙ h.at_d;
    at_line = set_other v s line x (λ z. apart.sl (sym z)) ∙ h.at_line;
    at_q = set_other v s q x (λ z. apart.sq (sym z)) ∙ h.at_q;
    at_s = set_same v s s x refl ∙ is;
    at_e = set_other v s e x apart.es ∙ h.at_e;
    kept = λ i a b f. set_other v s i x b ∙ h.kept i a b f;
  }

  set_e : (v : Words) (Q S E x y : ℕ) → x ≡ y → Holds v Q S E → Holds (with_word v e x) Q S y
  set_e v Q S E x y is h = record {
    at_p = set_other v e p x (λ z. apart.ep (sym z)) ∙ h.at_p;
    at_d = set_other v e d x (λ z. apart.ed (sym z)) ∙ h.at_d;
    at_line = set_other v e line x (λ z. apart.el (sym z)) ∙ h.at_line;
    at_q = set_other v e q x (λ z. apart.eq (sym z)) ∙ h.at_q;
    at_s = set_other v e s x (λ z. apart.es (sym z)) ∙ h.at_s;
    at_e = set_same v e e x refl ∙ is;
    kept = λ i a b f. set_other v e i x f ∙ h.kept i a b f;
  }

  begun : Holds u0.words (u0.words q) (u0.words s) (u0.words e)
  begun = record { at_p = refl; at_d = refl; at_line = refl; at_q = refl; at_s = refl; at_e = refl; kept = λ i a b f. refl }

  -- the run does what the answer says, from a world in which it stands
  abbrev Does : ℕ → FWorld → MoveAnswer → Run Way → Type 0
  Does b w a r = DoesMove b a p q line s e (point u0.words w) r

  -- what began k later
  later : (b k : ℕ) (w : FWorld) (a : MoveAnswer) (r : Run Way) → Does b (spend k w) a r → Does (k + b) w a r
  later b k w (Inside x) r h = record { words = h.words; took = k + h.took; within = omega (arith, h.within); is = h.is ∙ ap (λ t. next h.words (tell (Tell.Move (u0.words p) x.0) t)) (spend_spend k h.took w); value = h.value; kept = h.kept }
  later b k w (Marked x) r h = record { words = h.words; took = k + h.took; within = omega (arith, h.within); is = h.is ∙ ap (λ t. next h.words (tell (Tell.Move (u0.words p) x.0) t)) (spend_spend k h.took w); value = h.value; kept = h.kept }
  later b k w Refused r h = record { words = h.words; took = k + h.took; within = omega (arith, h.within); is = h.is ∙ ap (λ t. bad h.words t) (spend_spend k h.took w) }

  abbrev checks : FSteps
  checks = steps (Checked p q ∷ [])

  -- the last step
  checked : (b : ℕ) (v : Words) (w : FWorld) (Q S E : ℕ) → 3 ≤ b → Holds v Q S E → WentOn b p q s e Q (point u0.words w) (go checks v w)
  unfolding and_then
  checked b v w Q S E le h = record {
    words = v;
    took = 3;
    within = le;
    is = ap (λ x. next v (tell (Tell.Move x (v q)) (spend 3 w))) h.at_p ∙ ap (λ x. next v (tell (Tell.Move (u0.words p) x) (spend 3 w))) h.at_q;
    value = h.at_q;
    kept = h.kept;
  }

  went : (b : ℕ) (w : FWorld) (x : ℕ) (r r' : Run Way) → r ≡ r' → WentOn b p q s e x (point u0.words w) r' → WentOn b p q s e x (point u0.words w) r
  went b w x r r' h k = subst (λ y. WentOn b p q s e x (point u0.words w) y) (sym h) k

  -- steps that go on after some time
  record Ran (took : ℕ) (xs : FSteps) (v : Words) (w : FWorld) (Q S E : ℕ) : Type 0 where
    words : Words
    world : FWorld
    same : spend took w ≡ world
    is : go xs v w ≡ next words world
    holds : Holds words Q S E

  -- the address of the sum, in q
  address : (v : Words) (w : FWorld) (Q S E : ℕ) → Holds v Q S E → Ran 13 (address_steps p d q) v w (moved_address P D) S E
  unfolding and_then
  address v w Q S E h =
      let v1 : Words = with_word v q 0x7fff_ffff in
      let h1 : Holds v1 0x7fff_ffff S E = set_q v Q S E 0x7fff_ffff 0x7fff_ffff refl h in
      let v2 : Words = with_word v1 q (arith_of op.And (v1 p) (v1 q)) in
      let h2 : Holds v2 (unmarked P) S E = set_q v1 0x7fff_ffff S E _ (unmarked P) (arith_is op.And v1 p q P 0x7fff_ffff (unmarked P) h1.at_p h1.at_q (and_mask P 31)) h1 in
      let v3 : Words = with_word v2 q (arith_of op.Add (v2 q) (v2 d)) in
      let h3 : Holds v3 (moved_address P D) S E = set_q v2 (unmarked P) S E _ (moved_address P D) (arith_is op.Add v2 q d (unmarked P) D (moved_address P D) h2.at_q h2.at_d refl) h2 in
      record { words = v3; world = spend 5 (spend 5 (spend 3 w)); same = ap (λ x. record w { time = x }) (let z : w.time + 13 ≡ w.time + 3 + 5 + 5 = omega arith in z); is = refl; holds = h3 }

  -- and then with bit 31
  marked_address : (v : Words) (w : FWorld) (Q S E : ℕ) → Holds v Q S E → Ran 21 (address_steps p d q +++ mark_steps q s) v w (marked (moved_address P D)) (2 ^ 31) E
  unfolding and_then
  marked_address v w Q S E h =
      let v1 : Words = with_word v q 0x7fff_ffff in
      let h1 : Holds v1 0x7fff_ffff S E = set_q v Q S E 0x7fff_ffff 0x7fff_ffff refl h in
      let v2 : Words = with_word v1 q (arith_of op.And (v1 p) (v1 q)) in
      let h2 : Holds v2 (unmarked P) S E = set_q v1 0x7fff_ffff S E _ (unmarked P) (arith_is op.And v1 p q P 0x7fff_ffff (unmarked P) h1.at_p h1.at_q (and_mask P 31)) h1 in
      let v3 : Words = with_word v2 q (arith_of op.Add (v2 q) (v2 d)) in
      let A = moved_address P D in
      let h3 : Holds v3 A S E = set_q v2 (unmarked P) S E _ A (arith_is op.Add v2 q d (unmarked P) D A h2.at_q h2.at_d refl) h2 in
      let v4 : Words = with_word v3 s (2 ^ 31) in
      let h4 : Holds v4 A (2 ^ 31) E = set_s v3 A S E (2 ^ 31) (2 ^ 31) refl h3 in
      let v5 : Words = with_word v4 q (arith_of op.Or (v4 q) (v4 s)) in
      let h5 : Holds v5 (marked A) (2 ^ 31) E = set_q v4 A (2 ^ 31) E _ (marked A) (arith_is op.Or v4 q s A (2 ^ 31) (marked A) h4.at_q h4.at_s (marked_by_or A (omega arith))) h4 in
      record { words = v5; world = spend 5 (spend 3 (spend 5 (spend 5 (spend 3 w)))); same = ap (λ x. record w { time = x }) (let z : w.time + 21 ≡ w.time + 3 + 5 + 5 + 3 + 5 = omega arith in z); is = refl; holds = h5 }

  below_is : (x y : ℕ) (t : Bool) → nat_lt x y ≡ t → arith_of op.Ltu x y ≡ cond t 1 0
  below_is x y t h = ap (λ z. cond z 1 0) h

  abbrev marking : FSteps
  marking = address_steps p d q +++ mark_steps q s

  abbrev last_steps : FSteps
  last_steps = steps (If q marking (report Bounds line) ∷ [])

  -- the second test
  last : (v : Words) (w : FWorld) (Q S E : ℕ) (t : Bool) → Q ≡ cond t 1 0 → Holds v Q S E → Does 30 w (cond t (outside (marked (moved_address P D))) Refused) (then_go (go last_steps v w) checks)
  unfolding and_then
  last v w Q S E true is h =
      let w1 : FWorld = spend 6 w in
      let r = marked_address v w1 Q S E h in
      let A = marked (moved_address P D) in
      later 24 6 w (outside A) _ (went 24 w1 A _ (go checks r.words r.world)
      (ap (λ x. then_go (then_go x none) checks) (takes_first (v q) 0 (point v w1) (act_all g call m frame marking) (act_all g call m frame (report Bounds line)) (h.at_q ∙ is))
      ∙ ap (λ x. then_go (then_go x none) checks) r.is)
      (later 3 21 w1 (outside A) (go checks r.words r.world) (subst (λ x. Does 3 x (outside A) (go checks r.words r.world)) (sym r.same) (checked 3 r.words r.world A (2 ^ 31) E (omega arith) r.holds))))
  last v w Q S E false is h = record {
    words = v;
    took = 6 + 4;
    within = omega arith;
    is =
        ap (λ x. then_go (then_go x none) checks) (takes_second (v q) (point v (spend 6 w)) (act_all g call m frame marking) (act_all g call m frame (report Bounds line)) (h.at_q ∙ is))
        ∙ ap (λ n. Answer.Ends (Ending.Reported Bounds n) (point v (spend 4 (spend 6 w)))) h.at_line
        ∙ ap (λ x. bad v x) (spend_spend 6 4 w);
  }

  -- an offset that is not below the size
  outer : (v : Words) (w : FWorld) (Q S E : ℕ) → 1 ≤ g → g ≤ 24 → E ≤ 2 ^ 24 → Holds v Q S E → Does 51 w (if nat_lt ((S + half_slot g) % 2 ^ 32) (E + 2 ^ g) then outside (marked (moved_address P D)) else Refused) (then_go (go (outside_steps g p d q line s e) v w) checks)
  unfolding and_then
  outer v w Q S E low high small h =
      let v1 : Words = with_word v q (half_slot g) in
      let h1 : Holds v1 (half_slot g) S E = set_q v Q S E (half_slot g) (half_slot g) refl h in
      let v2 : Words = with_word v1 s (arith_of op.Add (v1 s) (v1 q)) in
      let Z = (S + half_slot g) % 2 ^ 32 in
      let h2 : Holds v2 (half_slot g) Z E = set_s v1 (half_slot g) S E _ Z (arith_is op.Add v1 s q S (half_slot g) Z h1.at_s h1.at_q refl) h1 in
      let v3 : Words = with_word v2 q (2 ^ g) in
      let h3 : Holds v3 (2 ^ g) Z E = set_q v2 (half_slot g) Z E (2 ^ g) (2 ^ g) refl h2 in
      let v4 : Words = with_word v3 e (arith_of op.Add (v3 e) (v3 q)) in
      let L = E + 2 ^ g in
      let most : 2 ^ g ≤ 2 ^ 24 = pow_mono high in
      let h4 : Holds v4 (2 ^ g) Z L = set_e v3 (2 ^ g) Z E _ L (arith_is op.Add v3 e q E (2 ^ g) L h3.at_e h3.at_q (let z : (E + 2 ^ g) % 2 ^ 32 ≡ E + 2 ^ g = omega (arith, most, small) in z)) h3 in
      let v5 : Words = with_word v4 q (arith_of op.Ltu (v4 s) (v4 e)) in
      let B = arith_of op.Ltu Z L in
      let h5 : Holds v5 B Z L = set_q v4 (2 ^ g) Z L _ B (arith_is op.Ltu v4 s e Z L B h4.at_s h4.at_e refl) h4 in
      later 48 3 w _ _ (later 43 5 (spend 3 w) _ _ (later 40 3 (spend 5 (spend 3 w)) _ _ (later 35 5 (spend 3 (spend 5 (spend 3 w))) _ _
      (later 30 5 (spend 5 (spend 3 (spend 5 (spend 3 w)))) _ _ (last v5 (spend 5 (spend 5 (spend 3 (spend 5 (spend 3 w))))) B Z L (nat_lt Z L) refl h5)))))

  -- the first test
  tail : (v : Words) (w : FWorld) (Q S E : ℕ) (t : Bool) → 1 ≤ g → g ≤ 24 → E ≤ 2 ^ 24 → Q ≡ cond t 1 0 → Holds v Q S E
      → Does 51 w (cond t (inside (moved_address P D)) (if nat_lt ((S + half_slot g) % 2 ^ 32) (E + 2 ^ g) then outside (marked (moved_address P D)) else Refused))
      (then_go (choose (v q == 0) (act_all g call m frame (outside_steps g p d q line s e)) (act_all g call m frame (address_steps p d q)) (point v w)) checks)
  unfolding and_then
  tail v w Q S E true low high small is h =
      let r = address v w Q S E h in
      let A = moved_address P D in
      went 51 w A _ (go checks r.words r.world)
      (ap (λ x. then_go x checks) (takes_first (v q) 0 (point v w) (act_all g call m frame (address_steps p d q)) (act_all g call m frame (outside_steps g p d q line s e)) (h.at_q ∙ is))
      ∙ ap (λ x. then_go x checks) r.is)
      (later 38 13 w (inside A) (go checks r.words r.world) (subst (λ x. Does 38 x (inside A) (go checks r.words r.world)) (sym r.same) (checked 38 r.words r.world A S E (omega arith) r.holds)))
  tail v w Q S E false low high small is h =
      subst (λ y. Does 51 w (if nat_lt ((S + half_slot g) % 2 ^ 32) (E + 2 ^ g) then outside (marked (moved_address P D)) else Refused) y)
      (sym (ap (λ x. then_go x checks) (takes_second (v q) (point v w) (act_all g call m frame (address_steps p d q)) (act_all g call m frame (outside_steps g p d q line s e)) (h.at_q ∙ is))))
      (outer v w Q S E low high small h)

  -- the steps after the look into the table, where its byte is not 0
  abbrev middle : FSteps
  middle =
      steps (Number q g ∷ Arith s op.Shl s q ∷ Arith s op.Shr s e ∷ Arith s op.Shl s e
      ∷ Number q 1 ∷ Arith e op.Shl q e
      ∷ Number q 0x7fff_ffff ∷ Arith q op.And p q ∷ Arith q op.Add q d
      ∷ Arith s op.Sub q s ∷ Arith q op.Ltu s e ∷ If q (address_steps p d q) (outside_steps g p d q line s e)
      ∷ Checked p q ∷ [])

  middle_runs : (v : Words) (w : FWorld) (Q S E : ℕ) → 1 ≤ g → g ≤ 24 → S < 2 ^ (25 - g) → E ≤ 24 → Holds v Q S E → Does 106 w (tested g E (moved_address P D) (difference (moved_address P D) (base_of g E S))) (go middle v w)
  unfolding and_then
  middle_runs v w Q S E low high slot small h =
      let size = 2 ^ E in
      let most : size ≤ 2 ^ 24 = pow_mono small in
      let same : E % 32 ≡ E = omega (arith, small) in
      let same_g : g % 32 ≡ g = omega (arith, high) in
      let top : S * 2 ^ g < 2 ^ 25 = slot_end g S high slot in
      let v1 : Words = with_word v q g in
      let h1 : Holds v1 g S E = set_q v Q S E g g refl h in
      let S2 = 2 ^ g * S in
      let v2 : Words = with_word v1 s (arith_of op.Shl (v1 s) (v1 q)) in
      let h2 : Holds v2 g S2 E = set_s v1 g S E _ S2 (arith_is op.Shl v1 s q S g S2 h1.at_s h1.at_q (ap (λ x. (S * 2 ^ x) % 2 ^ 32) same_g ∙ (let z : (S * 2 ^ g) % 2 ^ 32 ≡ 2 ^ g * S = omega (arith, top) in z))) h1 in
      let S3 = S2 / size in
      let v3 : Words = with_word v2 s (arith_of op.Shr (v2 s) (v2 e)) in
      let h3 : Holds v3 g S3 E = set_s v2 g S2 E _ S3 (arith_is op.Shr v2 s e S2 E S3 h2.at_s h2.at_e (ap (λ x. S2 / 2 ^ x) same)) h2 in
      let base = S3 * size in
      let v4 : Words = with_word v3 s (arith_of op.Shl (v3 s) (v3 e)) in
      let under : base ≤ S2 = div_times S2 size in
      let h4 : Holds v4 g base E = set_s v3 g S3 E _ base (arith_is op.Shl v3 s e S3 E base h3.at_s h3.at_e (ap (λ x. (S3 * 2 ^ x) % 2 ^ 32) same ∙ (let z : (S3 * size) % 2 ^ 32 ≡ S3 * size = omega (arith, under, top) in z))) h3 in
      let v5 : Words = with_word v4 q 1 in
      let h5 : Holds v5 1 base E = set_q v4 g base E 1 1 refl h4 in
      let v6 : Words = with_word v5 e (arith_of op.Shl (v5 q) (v5 e)) in
      let h6 : Holds v6 1 base size = set_e v5 1 base E _ size (arith_is op.Shl v5 q e 1 E size h5.at_q h5.at_e (ap (λ x. (1 * 2 ^ x) % 2 ^ 32) same ∙ (let z : (1 * size) % 2 ^ 32 ≡ size = omega (arith, most) in z))) h5 in
      let v7 : Words = with_word v6 q 0x7fff_ffff in
      let h7 : Holds v7 0x7fff_ffff base size = set_q v6 1 base size 0x7fff_ffff 0x7fff_ffff refl h6 in
      let v8 : Words = with_word v7 q (arith_of op.And (v7 p) (v7 q)) in
      let h8 : Holds v8 (unmarked P) base size = set_q v7 0x7fff_ffff base size _ (unmarked P) (arith_is op.And v7 p q P 0x7fff_ffff (unmarked P) h7.at_p h7.at_q (and_mask P 31)) h7 in
      let A = moved_address P D in
      let v9 : Words = with_word v8 q (arith_of op.Add (v8 q) (v8 d)) in
      let h9 : Holds v9 A base size = set_q v8 (unmarked P) base size _ A (arith_is op.Add v8 q d (unmarked P) D A h8.at_q h8.at_d refl) h8 in
      let O = difference A base in
      let v10 : Words = with_word v9 s (arith_of op.Sub (v9 q) (v9 s)) in
      let h10 : Holds v10 A O size = set_s v9 A base size _ O (arith_is op.Sub v9 q s A base O h9.at_q h9.at_s refl) h9 in
      let v11 : Words = with_word v10 q (arith_of op.Ltu (v10 s) (v10 e)) in
      let B = arith_of op.Ltu O size in
      let h11 : Holds v11 B O size = set_q v10 A O size _ B (arith_is op.Ltu v10 s e O size B h10.at_s h10.at_e refl) h10 in
      let x : FWorld = spend 6 (spend 5 (spend 5 (spend 5 (spend 5 (spend 3 (spend 5 (spend 3 (spend 5 (spend 5 (spend 5 (spend 3 w))))))))))) in
      let same_time : spend 55 w ≡ x = ap (λ t. record w { time = t }) (let z : w.time + 55 ≡ w.time + 3 + 5 + 5 + 5 + 3 + 5 + 3 + 5 + 5 + 5 + 5 + 6 = omega arith in z) in
      let a : MoveAnswer = tested g E A O in
      let r : Run Way = then_go (choose (v11 q == 0) (act_all g call m frame (outside_steps g p d q line s e)) (act_all g call m frame (address_steps p d q)) (point v11 x)) checks in
      later 51 55 w a r (subst (λ y. Does 51 y a r) (sym same_time) (tail v11 x B O size (nat_lt O size) low high most refl h11))

  -- the table's byte is looked at, and tested
  after_look : MovesByTests → (v : Words) (w : FWorld) (slot Q E : ℕ) → 1 ≤ g → g ≤ 24 → owner_slot g P ≡ Some slot → slot < 2 ^ (25 - g) → E ≤ 24 → Holds v Q slot E
      → Does 112 w (moved g P D E) (then_go (choose (v e == 0) (act_all g call m frame (report Bounds line)) (act_all g call m frame none) (point v (spend 6 w))) middle)
  unfolding and_then
  after_look law v w slot Q zero low high owner lt small h = record {
    words = v;
    took = 6 + 4;
    within = omega arith;
    is =
        ap (λ x. then_go x middle) (takes_second (v e) (point v (spend 6 w)) (act_all g call m frame none) (act_all g call m frame (report Bounds line)) h.at_e)
        ∙ ap (λ n. Answer.Ends (Ending.Reported Bounds n) (point v (spend 4 (spend 6 w)))) h.at_line
        ∙ ap (λ x. bad v x) (spend_spend 6 4 w);
  }
  after_look law v w slot Q (suc n) low high owner lt small h =
      let w1 : FWorld = spend 6 w in
      let some : 1 ≤ suc n = omega arith in
      let start : then_go (choose (v e == 0) (act_all g call m frame (report Bounds line)) (act_all g call m frame none) (point v w1)) middle ≡ go middle v w1 =
      ap (λ y. then_go y middle) (takes_first (v e) n (point v w1) (act_all g call m frame none) (act_all g call m frame (report Bounds line)) h.at_e) in
      let answer : moved g P D (suc n) ≡ tested g (suc n) (moved_address P D) (difference (moved_address P D) (base_of g (suc n) slot)) = law g P D (suc n) slot low high some small owner in
      subst (λ y. Does 112 w (moved g P D (suc n)) y) (sym start) (later 106 6 w _ _ (subst (λ a. Does 106 w1 a (go middle v w1)) (sym answer) (middle_runs v w1 Q slot (suc n) low high lt small h)))

  -- the whole sequence, where p has an owner slot
  pub move_does : MovesByTests → (slot : ℕ) → 1 ≤ g → g ≤ 24 → owner_slot g P ≡ Some slot → slot < 2 ^ (25 - g) → byte_of g u0.world.live slot ≤ 24
      → DoesMove move_time (moved g P D (byte_of g u0.world.live slot)) p q line s e u0 (act_all g call m frame (move_sequence g p d q line s e) u0)
  unfolding and_then
  move_does law slot low high owner lt small =
      let w = u0.world in
      let E = byte_of g w.live slot in
      let v1 : Words = with_word u0.words s (slot_word g P) in
      let h1 : Holds v1 (u0.words q) slot (u0.words e) = set_s u0.words (u0.words q) (u0.words s) (u0.words e) (slot_word g P) slot (ap slot_or_ones owner) begun in
      let v2 : Words = with_word v1 e (byte_of g w.live (v1 s)) in
      let h2 : Holds v2 (u0.words q) slot E = set_e v1 (u0.words q) slot (u0.words e) (byte_of g w.live (v1 s)) E (ap (byte_of g w.live) h1.at_s) h1 in
      let w1 : FWorld = spend 12 w in
      let w2 : FWorld = spend 4 w1 in
      let rest : FSteps = more (If e none (report Bounds line)) middle in
      let seen : act_all g call m frame (move_sequence g p d q line s e) u0 ≡ go rest v2 w2 =
      ap (λ t. then_go (choose t (λ x. next (with_word x.words e (byte_of g x.world.live (x.words s))) x.world) (λ x. Answer.Ends Ending.Cut x) (point v1 w2)) rest)
      (is_below (v1 s) (2 ^ (25 - g)) (subst (λ x. x < 2 ^ (25 - g)) (sym h1.at_s) lt)) in
      subst (λ y. Does 128 w (moved g P D E) y) (sym seen) (later 116 12 w _ _ (later 112 4 w1 _ _ (after_look law v2 w2 slot (u0.words q) E low high owner lt small h2)))
    where
      is_below : (a b : ℕ) → a < b → nat_lt a b ≡ true
      is_below a b h = grind (arith, nat_tests)
