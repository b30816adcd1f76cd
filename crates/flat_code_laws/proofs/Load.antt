-- The load sequence loads a word that is null or belongs to a block, and reports any other.
use Rattle.std.proofs.Common.{◌≡◌, ℕ, zero, suc, ◌+◌, ◌-◌, ◌^◌, ◌<◌, ◌≤◌, [], ◌∷◌, Option, Some, None, Bool, true, false, cond, refl, sym, ap, ◌∙◌, subst, arith, nat_lt}
use Rattle.std.specs.Prelude.{◌==◌, ◌&&◌, ◌||◌, not}
use Rattle.std.proofs.Math.Dec.{eqb-suc-zero}
use Rattle.std.proofs.Math.Pow.{pow_mono}
use Rattle.std.proofs.lemmas.Bool.Decides.{nat_tests}
use Rattle.bb_words.specs.Answers.{Answer, and_then}
use Rattle.bb_words.specs.Numbers.{all_ones}
use Rattle.bb_words.specs.Steps.{arith as arith_of}
use Rattle.bb_words.specs.declared.kinds.ReportKind.TheVariants.{Pointer}
use Rattle.bb_words.specs.declared.steps.ArithOp.TheVariants as op
use Rattle.bb_words.specs.declared.steps.Width.TheVariants as width
use Rattle.marked_ptr.specs.Marked.{owner_slot}
use Rattle.size_table.specs.Table.{byte_of}
use Rattle.flat_code.specs.Code.{FSteps, none, steps}
use Rattle.flat_code.specs.Code.FStep.{If, Look}
use Rattle.flat_code.specs.World.{Words, with_word, read, FWorld, FPoint, point, spend, choose, Ending, Run, Way, onward}
use Rattle.flat_code.specs.Run.{goes, Calls, refusal, unless_refused, loaded, act_all, slot_word, slot_or_ones}
use Rattle.flat_code.specs.Sequences.{report, owned_steps, load_sequence, LoadApart, KeptBut, load_time, is_held, may_be_loaded, accessed, DoesLoad}
use Rattle.flat_code_laws.specs.Laws.{LoadSequenceLoads, LoadSequenceStops}
use Rattle.flat_code_laws.proofs.Words.{set_same, set_other, takes_first, takes_second, arith_is}

module _ (g : ℕ) (call : Calls) (m frame w at line s e : ℕ) (apart : LoadApart w line s e) (u : FPoint) where
  abbrev go : FSteps → Words → FWorld → Run Way
  go xs v x = act_all g call m frame xs (point v x)

  abbrev then_go : Run Way → FSteps → Run Way
  then_go r xs = and_then r (λ way t. onward way t (act_all g call m frame xs))

  abbrev next : Words → FWorld → Run Way
  next v x = Answer.Goes Way.On (point v x)

  abbrev W : ℕ
  W = read width.Pointer u.world.memory (u.words at)

  abbrev w0 : FWorld
  w0 = accessed (u.words at) 4 u.world

  -- what the values hold
  record Has (v : Words) (S E : ℕ) : Type 0 where
    at_w : v w ≡ W
    at_line : v line ≡ u.words line
    at_s : v s ≡ S
    at_e : v e ≡ E
    kept : KeptBut w s e u.words v

  set_s : (v : Words) (S E x y : ℕ) → x ≡ y → Has v S E → Has (with_word v s x) y E
  set_s v S E x y is h = record {
    at_w = set_other v s w x (λ z. apart.sw (sym z)) ∙ h.at_w;
    at_line = set_other v s line x (λ z. apart.sl (sym z)) ∙ h.at_line;
    at_s = set_same v s s x refl ∙ is;
    at_e = set_other v s e x apart.es ∙ h.at_e;
    kept = λ i a b f. set_other v s i x b ∙ h.kept i a b f;
  }

  set_e : (v : Words) (S E x y : ℕ) → x ≡ y → Has v S E → Has (with_word v e x) S y
  set_e v S E x y is h = record {
    at_w = set_other v e w x (λ z. apart.ew (sym z)) ∙ h.at_w;
    at_line = set_other v e line x (λ z. apart.el (sym z)) ∙ h.at_line;
    at_s = set_other v e s x (λ z. apart.es (sym z)) ∙ h.at_s;
    at_e = set_same v e e x refl ∙ is;
    kept = λ i a b f. set_other v e i x f ∙ h.kept i a b f;
  }

  abbrev v0 : Words
  v0 = with_word u.words w W

  begun : Has v0 (u.words s) (u.words e)
  begun = record {
    at_w = set_same u.words w w W refl;
    at_line = set_other u.words w line W (λ z. apart.wl (sym z));
    at_s = set_other u.words w s W apart.sw;
    at_e = set_other u.words w e W apart.ew;
    kept = λ i a b f. set_other u.words w i W a;
  }

  -- the run goes on, or reports, so much later
  went : (v : Words) (S E k : ℕ) (x : FWorld) (r : Run Way) → k ≤ load_time → spend k w0 ≡ x → r ≡ next v x → Has v S E → DoesLoad true w at line s e u r
  went v S E k x r le t is h = record { words = v; took = k; within = le; is = is ∙ ap (next v) (sym t); value = h.at_w; kept = h.kept }

  refused : (v : Words) (S E k : ℕ) (x : FWorld) (r : Run Way) → k ≤ load_time → spend k w0 ≡ x → r ≡ Answer.Ends (Ending.Reported Pointer (v line)) (point v x) → Has v S E → DoesLoad false w at line s e u r
  refused v S E k x r le t is h = record { words = v; took = k; within = le; is = is ∙ ap (λ n. Answer.Ends (Ending.Reported Pointer n) (point v x)) h.at_line ∙ ap (λ y. Answer.Ends (Ending.Reported Pointer (u.words line)) (point v y)) (sym t) }

  abbrev reports : FPoint → Run Way
  reports = act_all g call m frame (report Pointer line)

  -- the slot is one of memory's, and its byte was looked at
  abbrev look_steps : FSteps
  look_steps = steps (Look e s ∷ If e none (report Pointer line) ∷ [])

  spent : (a b c d f : ℕ) (x : FWorld) → spend (a + b + c + d + f) x ≡ spend f (spend d (spend c (spend b (spend a x))))
  spent a b c d f x = ap (λ t. record x { time = t }) (let q : x.time + (a + b + c + d + f) ≡ x.time + a + b + c + d + f = omega arith in q)

  spent_on : (k a b : ℕ) (x y : FWorld) → spend k x ≡ y → spend (k + a + b) x ≡ spend b (spend a y)
  spent_on k a b x y h = ap (λ t. record x { time = t }) (let q : x.time + (k + a + b) ≡ x.time + k + a + b = omega arith in q) ∙ ap (λ z. spend b (spend a z)) h

  -- the byte decides
  by_byte : (v : Words) (x : FWorld) (S n k : ℕ) → k ≤ 36 → spend k w0 ≡ x → Has v S n
      → DoesLoad (not (n == 0)) w at line s e u (then_go (go (steps (If e none (report Pointer line) ∷ [])) v x) none)
  unfolding and_then
  by_byte v x S zero k le t h =
      refused v S 0 (k + 6 + 4) (spend 4 (spend 6 x)) _ (omega (arith, le)) (spent_on k 6 4 w0 x t)
      (ap (λ r. then_go (then_go r none) none) (takes_second (v e) (point v (spend 6 x)) (act_all g call m frame none) reports h.at_e)) h
  by_byte v x S (suc n) k le t h =
      subst (λ b. DoesLoad (not b) w at line s e u (then_go (go (steps (If e none (report Pointer line) ∷ [])) v x) none)) (sym (eqb-suc-zero n))
      (went v S (suc n) (k + 6 + 0) (spend 6 x) _ (omega (arith, le)) (spent_on k 6 0 w0 x t ∙ ap (λ y. record x { time = y }) (let q : x.time + 6 + 0 ≡ x.time + 6 = omega arith in q))
      (ap (λ r. then_go (then_go r none) none) (takes_first (v e) n (point v (spend 6 x)) (act_all g call m frame none) reports h.at_e)) h)

  is_below : (a b : ℕ) → a < b → nat_lt a b ≡ true
  is_below a b h = grind (arith, nat_tests)

  abbrev test_steps : FSteps
  test_steps = steps (If e look_steps (report Pointer line) ∷ [])

  -- the test of the slot, by its answer
  by_test : (v : Words) (x : FWorld) (S n : ℕ) → (t : Bool) → nat_lt S (2 ^ (25 - g)) ≡ t → n ≡ cond t 1 0 → spend 26 w0 ≡ x → Has v S n
      → DoesLoad (t && not (byte_of g u.world.live S == 0)) w at line s e u (then_go (go test_steps v x) none)
  unfolding and_then
  by_test v x S n false small is t h =
      refused v S n (26 + 6 + 4) (spend 4 (spend 6 x)) _ (omega arith) (spent_on 26 6 4 w0 x t)
      (ap (λ r. then_go (then_go r none) none) (takes_second (v e) (point v (spend 6 x)) (act_all g call m frame look_steps) reports (h.at_e ∙ is))) h
  by_test v x S n true small is t h =
      let x1 : FWorld = spend 6 x in
      let x2 : FWorld = spend 4 x1 in
      let v1 : Words = with_word v e (byte_of g x.live (v s)) in
      let live : x.live ≡ u.world.live = ap (λ y. y.live) (sym t) in
      let byte : byte_of g x.live (v s) ≡ byte_of g u.world.live S = ap (λ y. byte_of g y (v s)) live ∙ ap (byte_of g u.world.live) h.at_s in
      let h1 : Has v1 S (byte_of g u.world.live S) = set_e v S n _ (byte_of g u.world.live S) byte h in
      let fits : nat_lt (v s) (2 ^ (25 - g)) ≡ true = ap (λ y. nat_lt y (2 ^ (25 - g))) h.at_s ∙ small in
      let looks : go look_steps v x1 ≡ go (steps (If e none (report Pointer line) ∷ [])) v1 x2 =
      ap (λ b. then_go (choose b (λ y. next (with_word y.words e (byte_of g y.world.live (y.words s))) y.world) (λ y. Answer.Ends Ending.Cut y) (point v x2)) (steps (If e none (report Pointer line) ∷ []))) fits in
      subst (λ r. DoesLoad (not (byte_of g u.world.live S == 0)) w at line s e u r)
      (sym (ap (λ r. then_go (then_go r none) none) (takes_first (v e) 0 (point v x1) (act_all g call m frame look_steps) reports (h.at_e ∙ is) ∙ looks)))
      (twice (not (byte_of g u.world.live S == 0)) _ (by_byte v1 x2 S (byte_of g u.world.live S) 36 (omega arith) (spent_on 26 6 4 w0 x t) h1))
    where
      twice_is : (r : Run Way) → then_go (then_go r none) none ≡ then_go r none
      twice_is (Answer.Goes Way.On y) = refl
      twice_is (Answer.Goes (Way.Out n) y) = refl
      twice_is (Answer.Goes (Way.Back n) y) = refl
      twice_is (Answer.Ends o y) = refl

      twice : (b : Bool) (r : Run Way) → DoesLoad b w at line s e u (then_go r none) → DoesLoad b w at line s e u (then_go (then_go r none) none)
      twice b r k = subst (λ y. DoesLoad b w at line s e u y) (sym (twice_is r)) k

  -- the slot that owns the word, by what it is
  by_owner : (o : Option ℕ) → owner_slot g W ≡ o → 1 ≤ g → DoesLoad (is_held g u.world.live o) w at line s e u (then_go (go (owned_steps g w line s e) v0 (spend 6 w0)) none)
  unfolding and_then
  by_owner o q low = by o q
    where
      x : FWorld
      x = spend 5 (spend 3 (spend 12 (spend 6 w0)))

      v1 : Words
      v1 = with_word v0 s (slot_word g (v0 w))

      v2 : Words
      v2 = with_word v1 e (2 ^ (25 - g))

      v3 : Words
      v3 = with_word v2 e (arith_of op.Ltu (v2 s) (v2 e))

      spent_so : spend 26 w0 ≡ x
      spent_so = ap (λ t. record w0 { time = t }) (let z : w0.time + 26 ≡ w0.time + 6 + 12 + 3 + 5 = omega arith in z)

      holds : (n : ℕ) (o : Option ℕ) → owner_slot g W ≡ o → slot_or_ones o ≡ n → Has v3 n (arith_of op.Ltu n (2 ^ (25 - g)))
      holds n o k c =
          let b = begun in
          let h1 : Has v1 n (u.words e) = set_s v0 (u.words s) (u.words e) _ n (ap (slot_word g) b.at_w ∙ ap slot_or_ones k ∙ c) b in
          let h2 : Has v2 n (2 ^ (25 - g)) = set_e v1 n (u.words e) (2 ^ (25 - g)) (2 ^ (25 - g)) refl h1 in
          set_e v2 n (2 ^ (25 - g)) _ (arith_of op.Ltu n (2 ^ (25 - g))) (arith_is op.Ltu v2 s e n (2 ^ (25 - g)) _ h2.at_s h2.at_e refl) h2

      set_nothing : (v : Words) (S a b : ℕ) → a ≡ b → Has v S a → Has v S b
      set_nothing v S a b k h = subst (Has v S) k h

      ones : (g : ℕ) → 1 ≤ g → nat_lt all_ones (2 ^ (25 - g)) ≡ false
      ones g h = let z : 25 - g ≤ 24 = omega arith in let y : 2 ^ (25 - g) ≤ 2 ^ 24 = pow_mono z in grind (arith, nat_tests)

      by : (o : Option ℕ) → owner_slot g W ≡ o → DoesLoad (is_held g u.world.live o) w at line s e u (then_go (go (owned_steps g w line s e) v0 (spend 6 w0)) none)
      by None k =
          let big : nat_lt all_ones (2 ^ (25 - g)) ≡ false = ones g low in
          by_test v3 x all_ones 0 false big refl spent_so (set_nothing v3 all_ones (arith_of op.Ltu all_ones (2 ^ (25 - g))) 0 (ap (λ (t : Bool). cond t 1 0) big) (holds all_ones None k refl))
      by (Some slot) k = by_test v3 x slot (arith_of op.Ltu slot (2 ^ (25 - g))) (nat_lt slot (2 ^ (25 - g))) refl refl spent_so (holds slot (Some slot) k refl)

  -- the whole sequence
  pub load_does : 1 ≤ g → refusal (u.words at) 4 ≡ None → DoesLoad (may_be_loaded g u.world.live W) w at line s e u (act_all g call m frame (load_sequence g w at line s e) u)
  unfolding and_then
  load_does low address =
      let loads : act_all g call m frame (load_sequence g w at line s e) u ≡ then_go (choose (v0 w == 0) (act_all g call m frame none) (act_all g call m frame (owned_steps g w line s e)) (point v0 (spend 6 w0))) none =
      ap (λ r. then_go r (steps (If w (owned_steps g w line s e) none ∷ []))) (ap (λ o. unless_refused o (λ t. goes (loaded w (u.words at) width.Pointer t)) (point u.words (spend 3 u.world))) address) in
      subst (λ r. DoesLoad (may_be_loaded g u.world.live W) w at line s e u r) (sym loads) (by_word W refl)
    where
      by_word : (n : ℕ) → W ≡ n → DoesLoad ((n == 0) || is_held g u.world.live (owner_slot g W)) w at line s e u
          (then_go (choose (v0 w == 0) (act_all g call m frame none) (act_all g call m frame (owned_steps g w line s e)) (point v0 (spend 6 w0))) none)
      by_word zero k = went v0 (u.words s) (u.words e) 6 (spend 6 w0) _ (omega arith) refl (ap (λ r. then_go r none) (takes_second (v0 w) (point v0 (spend 6 w0)) (act_all g call m frame (owned_steps g w line s e)) (act_all g call m frame none) (begun.at_w ∙ k))) begun
      by_word (suc n) k =
          subst (λ b. DoesLoad (b || is_held g u.world.live (owner_slot g W)) w at line s e u (then_go (choose (v0 w == 0) (act_all g call m frame none) (act_all g call m frame (owned_steps g w line s e)) (point v0 (spend 6 w0))) none)) (sym (eqb-suc-zero n))
          (subst (λ r. DoesLoad (is_held g u.world.live (owner_slot g W)) w at line s e u r)
          (sym (ap (λ r. then_go r none) (takes_first (v0 w) n (point v0 (spend 6 w0)) (act_all g call m frame (owned_steps g w line s e)) (act_all g call m frame none) (begun.at_w ∙ k))))
          (by_owner (owner_slot g W) refl low))

pub load_sequence_loads : LoadSequenceLoads
load_sequence_loads g low call m frame w at line s e apart u address = load_does g call m frame w at line s e apart u low address

pub load_sequence_stops : LoadSequenceStops
unfolding and_then
load_sequence_stops g call m frame w at line s e u ending h =
    ap (λ o. and_then (unless_refused o (λ t. goes (loaded w (u.words at) width.Pointer t)) (point u.words (spend 3 u.world))) (λ way t. onward way t (act_all g call m frame (steps (If w (owned_steps g w line s e) none ∷ []))))) h
