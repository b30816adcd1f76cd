-- What is kept at each place of a function: untainted values are good, and spans stand.
use Rattle.std.proofs.Common.{◌≡◌, ◌≢◌, ◌⊎◌, ℕ, ◌+◌, ◌-◌, ◌/◌, ◌%◌, ◌^◌, ◌<◌, ◌≤◌, List, [], ◌∷◌, Some, Bool, true, false, cond, inl, inr, refl, sym, ap, ◌∙◌, subst, ⊎_elim, arith, true≢false, nat_lt, nat_le}
use Rattle.std.specs.Prelude.{◌==◌, ◌&&◌, ◌||◌, not, bit_and, if◌then◌else◌}
use Rattle.std.proofs.lemmas.Nat.{and_le_r}
use Rattle.std.proofs.lemmas.Bool.Decides.{eqb_tells}
use Rattle.bb_words.specs.Steps.{arith as arith_of}
use Rattle.bb_words.specs.declared.steps.ArithOp.{ArithOp}
use Rattle.bb_words.specs.declared.steps.ArithOp.TheVariants as op
use Rattle.bb_watch.specs.Live.{holder}
use Rattle.marked_ptr.specs.Laws.{IsPlaced}
use Rattle.size_table.specs.declared.memory_map.TheConstants.{HEAP_START, GLOBALS_START}
use Rattle.size_table.specs.Blocks.{Block, holds, end_of}
use Rattle.size_table.specs.Made.{blocks_from}
use Rattle.flat_code.specs.Code.{FStep, FFunction}
use Rattle.flat_code.specs.World.{Words, with_word, FWorld, FPoint, point, spend}
use Rattle.flat_code.specs.Accounts.{frame_size}
use Rattle.flat_discipline.specs.Items.{Item}
use Rattle.flat_discipline.specs.Facts.{Fact, Source, Setting, Guard, Origin, Here, untold, branch, masked_by, masked_if, kept_unless, guard_past, test_if, tell, lies_in, reach_past, is_masked, held_if, gone_if, element, sum_of, source}
use Rattle.flat_discipline.specs.Chains.{fact_in, Lost}
use Rattle.flat_discipline.specs.Discipline.{setting, edges, LostAt, ResultLost}
use Rattle.flat_discipline.specs.Safe.{AreGlobals}
use Rattle.flat_discipline.proofs.Blocks.{both, two, le_of, lt_of, ArePlaced, is_held, Within, holds_slot, Good, good_more, good_address}
use Rattle.flat_discipline.proofs.Worlds.{lies_from, reach_tells, frame_held, globals_placed, ever, Holds, same_holds}

-- ---- Words that are set

pub set_same : (v : Words) (i j x : ℕ) → j ≡ i → with_word v i x j ≡ x
set_same v i j x e = ⊎_elim (λ h. ap (λ t. cond t x (v j)) h.0) (λ h. absurd (h.1 e)) (eqb_tells j i)

pub set_other : (v : Words) (i j x : ℕ) → j ≢ i → with_word v i x j ≡ v j
set_other v i j x ne = ⊎_elim (λ h. absurd (ne h.1)) (λ h. ap (λ t. cond t x (v j)) h.0) (eqb_tells j i)

-- ---- Spans

-- so many bytes from a on lie in one live block
abbrev pub SpannedBy : (g : ℕ) → List Block → (a n : ℕ) → Type 0
SpannedBy g live a n = (n ≡ 0) ⊎ ((s : ℕ) × (b : Block) × (holder g s live ≡ Some b) × (b.base ≤ a) × (a + n ≤ end_of b))

found_placed : (g : ℕ) (bs : List Block) (s : ℕ) (b : Block) → ArePlaced g bs → holder g s bs ≡ Some b → IsPlaced g b.base b.exponent × ((t : ℕ) → holds g b t ≡ true → is_held g bs t ≡ true)
found_placed g [] s b are h = absurd (let z : ⊥ = cc in z)
found_placed g (c ∷ bs) s b are h = by (holds g c s) h (λ k. found_placed g bs s b are.1 k)
  where
    or_left : (x y : Bool) → x ≡ true → (x || y) ≡ true
    or_left true y e = refl
    or_left false y e = absurd (true≢false (sym e))

    or_right : (x y : Bool) → y ≡ true → (x || y) ≡ true
    or_right true y e = refl
    or_right false y e = e

    by : (t : Bool) → cond t (Some c) (holder g s bs) ≡ Some b → (holder g s bs ≡ Some b → IsPlaced g b.base b.exponent × ((t : ℕ) → holds g b t ≡ true → is_held g bs t ≡ true)) → IsPlaced g b.base b.exponent × ((t : ℕ) → holds g b t ≡ true → is_held g (c ∷ bs) t ≡ true)
    by true k more = let same : c ≡ b = cc in (subst (λ x. IsPlaced g x.base x.exponent) same are.0, λ t y. or_left (holds g c t) (is_held g bs t) (subst (λ x. holds g x t ≡ true) (sym same) y))
    by false k more = let r = more k in (r.0, λ t y. or_right (holds g c t) (is_held g bs t) (r.1 t y))

-- a word of a span is good
element_good : (g : ℕ) (live ever : List Block) (a n i : ℕ) → ArePlaced g live → Within g live ever → SpannedBy g live a n → i < n → Good g ever ((a + i) % 2 ^ 32)
element_good g live ever a n i are within (inl z) lt = absurd (let q : ⊥ = omega (arith, z, lt) in q)
element_good g live ever a n i are within (inr s) lt =
    let b = s.1 in
    let f = found_placed g live s.0 b are s.2 in
    let high : a + i < end_of b = omega (arith, s.4, lt) in
    let small : a + i < 2 ^ 31 = omega (arith, high, f.0.high) in
    let same : (a + i) % 2 ^ 32 ≡ a + i = omega (arith, small) in
    subst (Good g ever) (sym same) (good_address g ever (a + i) small (within ((a + i) / 2 ^ g) (f.1 ((a + i) / 2 ^ g) (holds_slot g b (a + i) f.0 (omega (arith, s.3)) high))))

-- ---- The kept

module _ (g : ℕ) (globals : List Block) (functions : List FFunction) (f : ℕ) (base : ℕ) (w0 : FWorld) where
  abbrev pub s : Setting
  s = setting g globals functions f

  abbrev pub V : ℕ
  V = s.values

  abbrev pub F : ℕ
  F = s.frame

  -- what holds at every place
  pub record Base (w : FWorld) : Type 0 where
    pub holds : Holds g globals w
    pub stack : w.stack ≡ base
    pub grows : Within g (ever g globals w0) (ever g globals w)
    pub frame : (o : ℕ) → o < F → is_held g (ever g globals w) ((base + o) / 2 ^ g) ≡ true
    pub room : base + F ≤ HEAP_START

  -- before place p
  pub record OkAt (p : ℕ) (u : FPoint) : Type 0 where
    pub good : (v : ℕ) → nat_lt v V ≡ true → (LostAt g globals functions f p (Fact.Clean v) → ⊥) → Good g (ever g globals u.world) (u.words v)
    pub spans : (x n : ℕ) → fact_in s (Fact.Spanned x n) ≡ true → (LostAt g globals functions f p (Fact.Spanned x n) → ⊥) → SpannedBy g u.world.live (u.words x) (u.words n)
    pub kept : Base u.world

  pub spent : (p n : ℕ) (u : FPoint) → OkAt p u → OkAt p (point u.words (spend n u.world))
  spent p n u at = record {
    good = at.good;
    spans = at.spans;
    kept = record { holds = same_holds g globals u.world (spend n u.world) refl refl at.kept.holds.stack at.kept.holds; stack = at.kept.stack; grows = at.kept.grows; frame = at.kept.frame; room = at.kept.room };
  }

  -- a later world with the same stack number
  pub later : (w v : FWorld) → Base w → Holds g globals v → Within g (ever g globals w) (ever g globals v) → v.stack ≡ w.stack → Base v
  later w v b holds grows stack = record {
    holds = holds;
    stack = stack ∙ b.stack;
    grows = λ t x. grows t (b.grows t x);
    frame = λ o lt. grows ((base + o) / 2 ^ g) (b.frame o lt);
    room = b.room;
  }

  -- ---- From a fact's source to the fact

  -- what a source says of the word that a value has after an item
  abbrev pub Says : (u : FPoint) (ev : List Block) → Source → (word : ℕ) → Type 0
  Says u ev Source.Held x = Good g ev x
  Says u ev Source.Gone x = Unit {0}
  Says u ev (Source.From (Fact.Clean v)) x = (nat_lt v V ≡ true) × (Good g ev (u.words v) → Good g ev x)
  Says u ev (Source.From (Fact.Own v)) x = ⊥
  Says u ev (Source.From (Fact.Spanned a n)) x = (fact_in s (Fact.Spanned a n) ≡ true) × (SpannedBy g u.world.live (u.words a) (u.words n) → Good g ev x)
  Says u ev (Source.FromCall k) x = (ResultLost g globals functions k → ⊥) → Good g ev x

  abbrev pub SaysSpan : (u v : FPoint) → Source → (x n : ℕ) → Type 0
  SaysSpan u v Source.Held x n = SpannedBy g v.world.live (v.words x) (v.words n)
  SaysSpan u v Source.Gone x n = Unit {0}
  SaysSpan u v (Source.From (Fact.Spanned a m)) x n = (fact_in s (Fact.Spanned a m) ≡ true) × (SpannedBy g u.world.live (u.words a) (u.words m) → SpannedBy g v.world.live (v.words x) (v.words n))
  SaysSpan u v (Source.From (Fact.Clean k)) x n = ⊥
  SaysSpan u v (Source.From (Fact.Own k)) x n = ⊥
  SaysSpan u v (Source.FromCall k) x n = ⊥

  pub after : (h : Here) (i : Item) (p q : ℕ) (u v : FPoint) → edges g globals functions f h i p (Some q) → OkAt p u → Base v.world → Within g (ever g globals u.world) (ever g globals v.world)
      → ((x : ℕ) → nat_lt x V ≡ true → Says u (ever g globals v.world) (source s h i (Fact.Clean x)) (v.words x))
      → ((x n : ℕ) → fact_in s (Fact.Spanned x n) ≡ true → SaysSpan u v (source s h i (Fact.Spanned x n)) x n)
      → OkAt q v
  after h i p q u v edge at kept grows says says_span = record {
    good = λ x in_ nt. good_by x in_ nt (source s h i (Fact.Clean x)) refl (says x in_);
    spans = λ x n in_ nt. span_by x n in_ nt (source s h i (Fact.Spanned x n)) refl (says_span x n in_);
    kept = kept;
  }
    where
      good_by : (x : ℕ) → nat_lt x V ≡ true → (LostAt g globals functions f q (Fact.Clean x) → ⊥) → (o : Source) → source s h i (Fact.Clean x) ≡ o → Says u (ever g globals v.world) o (v.words x) → Good g (ever g globals v.world) (v.words x)
      good_by x in_ nt Source.Held is y = y
      good_by x in_ nt Source.Gone is y = absurd (nt (Lost.begins f h i p q (Fact.Clean x) in_ edge is))
      good_by x in_ nt (Source.From (Fact.Clean k)) is y = y.1 (good_more g (ever g globals u.world) (ever g globals v.world) (u.words k) grows (at.good k y.0 (λ l. nt (Lost.goes_on f h i p q (Fact.Clean x) (Fact.Clean k) in_ edge is l))))
      good_by x in_ nt (Source.From (Fact.Own k)) is y = absurd y
      good_by x in_ nt (Source.From (Fact.Spanned a n)) is y = y.1 (at.spans a n y.0 (λ l. nt (Lost.goes_on f h i p q (Fact.Clean x) (Fact.Spanned a n) in_ edge is l)))
      good_by x in_ nt (Source.FromCall k) is y = y (λ l. nt (Lost.given f k h i p q (Fact.Clean x) in_ edge is l))

      span_by : (x n : ℕ) → fact_in s (Fact.Spanned x n) ≡ true → (LostAt g globals functions f q (Fact.Spanned x n) → ⊥) → (o : Source) → source s h i (Fact.Spanned x n) ≡ o → SaysSpan u v o x n → SpannedBy g v.world.live (v.words x) (v.words n)
      span_by x n in_ nt Source.Held is y = y
      span_by x n in_ nt Source.Gone is y = absurd (nt (Lost.begins f h i p q (Fact.Spanned x n) in_ edge is))
      span_by x n in_ nt (Source.From (Fact.Spanned a m)) is y = y.1 (at.spans a m y.0 (λ l. nt (Lost.goes_on f h i p q (Fact.Spanned x n) (Fact.Spanned a m) in_ edge is l)))
      span_by x n in_ nt (Source.From (Fact.Clean k)) is y = absurd y
      span_by x n in_ nt (Source.From (Fact.Own k)) is y = absurd y
      span_by x n in_ nt (Source.FromCall k) is y = absurd y

  -- a construct changes nothing by itself
  pub flow : (h : Here) (i : Item) (p q : ℕ) (u : FPoint) → edges g globals functions f h i p (Some q) → ((x : Fact) → source s h i x ≡ Source.From x) → OkAt p u → OkAt q u
  flow h i p q u edge is at = after h i p q u u edge at at.kept (λ t x. x)
      (λ x in_. subst (λ o. Says u (ever g globals u.world) o (u.words x)) (sym (is (Fact.Clean x))) (in_, λ y. y))
      (λ x n in_. subst (λ o. SaysSpan u u o x n) (sym (is (Fact.Spanned x n))) (in_, λ y. y))

  -- ---- One value is set

  pub says_if : (u : FPoint) (ev : List Block) (o : Source) (to x : ℕ) → Says u ev o x → (v : ℕ) → nat_lt v V ≡ true → Says u ev (if v == to then o else Source.From (Fact.Clean v)) (with_word u.words to x v)
  says_if u ev o to x says v in_ = ⊎_elim
      (λ h. subst (λ t. Says u ev (cond t o (Source.From (Fact.Clean v))) (with_word u.words to x v)) (sym h.0) (subst (Says u ev o) (sym (set_same u.words to v x h.1)) says))
      (λ h. subst (λ t. Says u ev (cond t o (Source.From (Fact.Clean v))) (with_word u.words to x v)) (sym h.0) (in_, λ y. subst (Good g ev) (sym (set_other u.words to v x h.1)) y))
      (eqb_tells v to)

  pub says_span_if : (u v : FPoint) (to word : ℕ) → v.words ≡ with_word u.words to word → v.world.live ≡ u.world.live → (x n : ℕ) → fact_in s (Fact.Spanned x n) ≡ true → SaysSpan u v (gone_if ((x == to) || (n == to)) (Source.From (Fact.Spanned x n))) x n
  says_span_if u v to word words live x n in_ = ⊎_elim
      (λ h. subst (λ t. SaysSpan u v (gone_if (t || (n == to)) (Source.From (Fact.Spanned x n))) x n) (sym h.0) tt)
      (λ h. ⊎_elim
      (λ k. subst (λ t. SaysSpan u v (gone_if (t || (n == to)) (Source.From (Fact.Spanned x n))) x n) (sym h.0) (subst (λ t. SaysSpan u v (gone_if t (Source.From (Fact.Spanned x n))) x n) (sym k.0) tt))
      (λ k. subst (λ t. SaysSpan u v (gone_if (t || (n == to)) (Source.From (Fact.Spanned x n))) x n) (sym h.0) (subst (λ t. SaysSpan u v (gone_if t (Source.From (Fact.Spanned x n))) x n) (sym k.0) (
        in_,
        λ y. subst (λ l. SpannedBy g l (v.words x) (v.words n)) (sym live) (subst (λ (ws : Words). SpannedBy g u.world.live (ws x) (ws n)) (sym words)
            (subst (λ z. SpannedBy g u.world.live z (with_word u.words to word n)) (sym (set_other u.words to x word h.1)) (subst (λ z. SpannedBy g u.world.live (u.words x) z) (sym (set_other u.words to n word k.1)) y))),
      )))
      (eqb_tells n to))
      (eqb_tells x to)

  -- ---- What a list tells

  abbrev pub GuardHolds : Guard → Words → Type 0
  GuardHolds Guard.Free ws = Unit {0}
  GuardHolds (Guard.Under i n) ws = (nat_lt n V ≡ true) × (ws i < ws n)

  abbrev pub TestHolds : Guard → (c : ℕ) → Words → Type 0
  TestHolds Guard.Free c ws = Unit {0}
  TestHolds (Guard.Under i n) c ws = ws c ≢ 0 → (nat_lt n V ≡ true) × (ws i < ws n)

  abbrev pub OriginHolds : Origin → (word : ℕ) → Type 0
  OriginHolds Origin.Other x = Unit {0}
  OriginHolds (Origin.InFrame o) x = x ≡ base + o
  OriginHolds (Origin.Constant c) x = x ≡ c
  OriginHolds (Origin.AtMost m) x = x ≤ m

  pub record HereHolds (h : Here) (ws : Words) : Type 0 where
    pub guard : GuardHolds h.guard ws
    pub test : (c : ℕ) → TestHolds (h.test c) c ws
    pub origin : (v : ℕ) → OriginHolds (h.origin v) (ws v)

  pub untold_holds : (ws : Words) → HereHolds untold ws
  untold_holds ws = record { guard = tt; test = λ c. tt; origin = λ v. tt }

  -- in the steps that an If does where its value is not 0
  pub branch_holds : (h : Here) (c : ℕ) (ws : Words) → HereHolds h ws → ws c ≢ 0 → HereHolds (branch h c) ws
  branch_holds h c ws k some = record { guard = by (h.test c) (k.test c); test = λ c. tt; origin = λ v. tt }
    where
      by : (t : Guard) → TestHolds t c ws → GuardHolds t ws
      by Guard.Free y = tt
      by (Guard.Under i n) y = y some

  pub origin_if : (h : Here) (o : Origin) (to x : ℕ) (ws : Words) → HereHolds h ws → OriginHolds o x → (v : ℕ) → OriginHolds (if v == to then o else h.origin v) (with_word ws to x v)
  origin_if h o to x ws k y v = ⊎_elim
      (λ e. subst (λ t. OriginHolds (cond t o (h.origin v)) (with_word ws to x v)) (sym e.0) (subst (OriginHolds o) (sym (set_same ws to v x e.1)) y))
      (λ e. subst (λ t. OriginHolds (cond t o (h.origin v)) (with_word ws to x v)) (sym e.0) (subst (OriginHolds (h.origin v)) (sym (set_other ws to v x e.1)) (k.origin v)))
      (eqb_tells v to)

  -- ---- Sums

  module _ (h : Here) (u : FPoint) (at : Base u.world) (here : HereHolds h u.words) (globals_are : AreGlobals g globals) (slot : 1 ≤ g) (global_held : Within g globals (ever g globals u.world)) where
    abbrev ev : List Block
    ev = ever g globals u.world

    in_region : (es : List ℕ) (start b m y : ℕ) → globals ≡ blocks_from start es → ArePlaced g globals → lies_in globals b ≡ true → reach_past globals (b + m) ≡ true → y ≤ m → is_held g globals ((b + y) / 2 ^ g) ≡ true
    in_region es start b m y is are low high le =
        let from : start ≤ b = lies_from es start b (subst (λ l. lies_in l b ≡ true) is low) in
        let to : b + m < start + frame_size es = reach_tells es start (b + m) (subst (λ l. reach_past l (b + m) ≡ true) is high) in
        subst (λ l. is_held g l ((b + y) / 2 ^ g) ≡ true) (sym is)
        (subst (λ a. is_held g (blocks_from start es) (a / 2 ^ g) ≡ true) (let z : start + (b - start + y) ≡ b + y = omega (arith, from) in z)
        (frame_held g es start (b - start + y) (subst (ArePlaced g) is are) (omega (arith, from, to, le))))

    -- a masked sum is good
    masked_good : (o m : Origin) (x y : ℕ) → is_masked s o m ≡ true → OriginHolds o x → OriginHolds m y → Good g ev ((x + y) % 2 ^ 32)
    masked_good (Origin.InFrame o) (Origin.AtMost m) x y is ox my =
        let lt : o + m < F = lt_of (o + m) F is in
        let small : base + (o + y) < 2 ^ 31 = omega (arith, at.room, lt, my) in
        let same : (x + y) % 2 ^ 32 ≡ base + (o + y) = omega (arith, ox, small) in
        subst (Good g ev) (sym same) (good_address g ev (base + (o + y)) small (at.frame (o + y) (omega (arith, lt, my))))
    masked_good (Origin.Constant b) (Origin.AtMost m) x y is ox my =
        let r = both (lies_in globals b) (reach_past globals (b + m)) is in
        let end : b + m < GLOBALS_START + frame_size globals_are.exponents = reach_tells globals_are.exponents GLOBALS_START (b + m) (subst (λ l. reach_past l (b + m) ≡ true) globals_are.are r.1) in
        let small : b + y < 2 ^ 31 = omega (arith, end, globals_are.fit, my) in
        let same : (x + y) % 2 ^ 32 ≡ b + y = omega (arith, ox, small) in
        subst (Good g ev) (sym same) (good_address g ev (b + y) small (global_held ((b + y) / 2 ^ g)
        (in_region globals_are.exponents GLOBALS_START b m y globals_are.are (globals_placed g globals slot globals_are) r.0 r.1 my)))
    masked_good Origin.Other m x y is ox my = absurd (true≢false (sym is))
    masked_good (Origin.AtMost n) m x y is ox my = absurd (true≢false (sym is))
    masked_good (Origin.InFrame o) Origin.Other x y is ox my = absurd (true≢false (sym is))
    masked_good (Origin.InFrame o) (Origin.InFrame n) x y is ox my = absurd (true≢false (sym is))
    masked_good (Origin.InFrame o) (Origin.Constant n) x y is ox my = absurd (true≢false (sym is))
    masked_good (Origin.Constant o) Origin.Other x y is ox my = absurd (true≢false (sym is))
    masked_good (Origin.Constant o) (Origin.InFrame n) x y is ox my = absurd (true≢false (sym is))
    masked_good (Origin.Constant o) (Origin.Constant n) x y is ox my = absurd (true≢false (sym is))

    in_one : (bs : List Block) → ArePlaced g bs → (x : ℕ) → lies_in bs x ≡ true → (x < 2 ^ 31) × (is_held g bs (x / 2 ^ g) ≡ true)
    in_one [] are x low = absurd (true≢false (sym low))
    in_one (b ∷ bs) are x low = first (nat_le b.base x && nat_lt x (end_of b)) refl low (λ k. in_one bs are.1 x k)
      where
        or_right : (a c : Bool) → c ≡ true → (a || c) ≡ true
        or_right true c y = refl
        or_right false c y = y

        first : (t : Bool) → (nat_le b.base x && nat_lt x (end_of b)) ≡ t → (t || lies_in bs x) ≡ true → (lies_in bs x ≡ true → (x < 2 ^ 31) × (is_held g bs (x / 2 ^ g) ≡ true)) → (x < 2 ^ 31) × (is_held g (b ∷ bs) (x / 2 ^ g) ≡ true)
        first true e k more =
            let r = both (nat_le b.base x) (nat_lt x (end_of b)) e in
            let lo = le_of b.base x r.0 in
            let hi = lt_of x (end_of b) r.1 in
            (omega (arith, hi, are.0.high), ap (λ t. t || is_held g bs (x / 2 ^ g)) (holds_slot g b x are.0 lo hi))
        first false e k more = let r = more k in (r.0, or_right (holds g b (x / 2 ^ g)) (is_held g bs (x / 2 ^ g)) r.1)

    -- an address of the globals
    global_address : (x : ℕ) → lies_in globals x ≡ true → Good g ev x
    global_address x low =
        let z = in_one globals (globals_placed g globals slot globals_are) x low in
        good_address g ev x z.0 (global_held (x / 2 ^ g) z.1)

    -- a number of a global block is good
    pub number_good : (x : ℕ) → Says u ev (held_if ((x == 0) || lies_in globals x) Source.Gone) x
    number_good x = ⊎_elim
        (λ e. subst (λ t. Says u ev (held_if (t || lies_in globals x) Source.Gone) x) (sym e.0) (inl e.1))
        (λ e. subst (λ t. Says u ev (held_if (t || lies_in globals x) Source.Gone) x) (sym e.0) (by (lies_in globals x) refl))
        (eqb_tells x 0)
      where
        by : (t : Bool) → lies_in globals x ≡ t → Says u ev (held_if t Source.Gone) x
        by true low = global_address x low
        by false low = tt

    element_says : (guard : Guard) (l r : ℕ) → nat_lt l V ≡ true → GuardHolds guard u.words → Says u ev (element guard l r) ((u.words l + u.words r) % 2 ^ 32)
    element_says Guard.Free l r in_ k = tt
    element_says (Guard.Under j n) l r in_ k = ⊎_elim
        (λ e. subst (λ t. Says u ev (cond t (Source.From (Fact.Spanned l n)) Source.Gone) ((u.words l + u.words r) % 2 ^ 32)) (sym e.0)
        (two (nat_lt l V) (nat_lt n V) in_ k.0, λ y. element_good g u.world.live ev (u.words l) (u.words n) (u.words r) at.holds.placed at.holds.within y (subst (λ z. u.words z < u.words n) (sym e.1) k.1)))
        (λ e. subst (λ t. Says u ev (cond t (Source.From (Fact.Spanned l n)) Source.Gone) ((u.words l + u.words r) % 2 ^ 32)) (sym e.0) tt)
        (eqb_tells r j)

    pub sum_says : (o : ArithOp) (l r : ℕ) → nat_lt l V ≡ true → Says u ev (sum_of s h o l r) (arith_of o (u.words l) (u.words r))
    sum_says op.Add l r in_ = by (is_masked s (h.origin l) (h.origin r)) refl
      where
        by : (t : Bool) → is_masked s (h.origin l) (h.origin r) ≡ t → Says u ev (held_if t (element h.guard l r)) ((u.words l + u.words r) % 2 ^ 32)
        by true e = masked_good (h.origin l) (h.origin r) (u.words l) (u.words r) e (here.origin l) (here.origin r)
        by false e = element_says h.guard l r in_ here.guard
    sum_says o l r in_ = tt

  -- ---- After an Arith

  module _ (h : Here) (o : ArithOp) (to l r : ℕ) (ws : Words) (k : HereHolds h ws) (in_ : nat_lt r V ≡ true) where
    abbrev x : ℕ
    x = arith_of o (ws l) (ws r)

    abbrev ws' : Words
    ws' = with_word ws to x

    guard_kept : (guard : Guard) → GuardHolds guard ws → GuardHolds (guard_past guard to) ws'
    guard_kept Guard.Free y = tt
    guard_kept (Guard.Under i n) y = ⊎_elim
        (λ e. subst (λ t. GuardHolds (kept_unless (t || (n == to)) (Guard.Under i n)) ws') (sym e.0) tt)
        (λ e. ⊎_elim
        (λ d. subst (λ t. GuardHolds (kept_unless (t || (n == to)) (Guard.Under i n)) ws') (sym e.0) (subst (λ t. GuardHolds (kept_unless t (Guard.Under i n)) ws') (sym d.0) tt))
        (λ d. subst (λ t. GuardHolds (kept_unless (t || (n == to)) (Guard.Under i n)) ws') (sym e.0) (subst (λ t. GuardHolds (kept_unless t (Guard.Under i n)) ws') (sym d.0)
        (y.0, subst (λ z. z < ws' n) (sym (set_other ws to i x e.1)) (subst (λ z. ws i < z) (sym (set_other ws to n x d.1)) y.1))))
        (eqb_tells n to))
        (eqb_tells i to)

    -- the test of an Ltu
    below_is : (a b : ℕ) → cond {A = ℕ} (nat_lt a b) 1 0 ≢ 0 → a < b
    below_is a b ne = by (nat_lt a b) refl ne
      where
        by : (t : Bool) → nat_lt a b ≡ t → cond {A = ℕ} t 1 0 ≢ 0 → a < b
        by true e ne = lt_of a b e
        by false e ne = absurd (ne refl)

    test_kept : (o2 : ArithOp) (c : ℕ) → o ≡ o2 → TestHolds (test_if o2 ((c == to) && (not (l == to) && not (r == to))) l r) c ws'
    test_kept op.Ltu c same = by ((c == to) && (not (l == to) && not (r == to))) refl
      where
        is_not : (a : Bool) → not a ≡ true → a ≡ false
        is_not true y = absurd (true≢false (sym y))
        is_not false y = refl

        unequal : (a b : ℕ) → (a == b) ≡ false → a ≢ b
        unequal a b y = ⊎_elim (λ e. absurd (true≢false (sym e.0 ∙ y))) (λ e. e.1) (eqb_tells a b)

        equal : (a b : ℕ) → (a == b) ≡ true → a ≡ b
        equal a b y = ⊎_elim (λ e. e.1) (λ e. absurd (true≢false (sym y ∙ e.0))) (eqb_tells a b)

        by : (t : Bool) → ((c == to) && (not (l == to) && not (r == to))) ≡ t → TestHolds (test_if op.Ltu t l r) c ws'
        by false e = tt
        by true e = λ ne.
            let a = both (c == to) (not (l == to) && not (r == to)) e in
            let b = both (not (l == to)) (not (r == to)) a.1 in
            let nl = unequal l to (is_not (l == to) b.0) in
            let nr = unequal r to (is_not (r == to) b.1) in
            let value : ws' c ≡ cond {A = ℕ} (nat_lt (ws l) (ws r)) 1 0 = set_same ws to c x (equal c to a.0) ∙ ap (λ z. arith_of z (ws l) (ws r)) same in
            let lt = below_is (ws l) (ws r) (subst (λ z. z ≢ 0) value ne) in
            (in_, subst (λ z. z < ws' r) (sym (set_other ws to l x nl)) (subst (λ z. ws l < z) (sym (set_other ws to r x nr)) lt))
    test_kept o2 c same = tt

    mask_holds : (m : Origin) (y z : ℕ) → OriginHolds m y → OriginHolds (masked_by m) (bit_and z y)
    mask_holds Origin.Other y z k = tt
    mask_holds (Origin.InFrame n) y z k = tt
    mask_holds (Origin.Constant n) y z k = (let le : bit_and z y ≤ y = and_le_r z y in omega (arith, le, k))
    mask_holds (Origin.AtMost n) y z k = tt

    masked_holds : (o2 : ArithOp) → OriginHolds (masked_if o2 (h.origin r)) (arith_of o2 (ws l) (ws r))
    masked_holds op.And = mask_holds (h.origin r) (ws r) (ws l) (k.origin r)
    masked_holds o2 = tt

    pub arith_holds : HereHolds (tell h (FStep.Arith to o l r)) ws'
    arith_holds = record {
      guard = guard_kept h.guard k.guard;
      test = λ c. test_kept o c refl;
      origin = λ v. origin_if h (masked_if o (h.origin r)) to x ws k (masked_holds o) v;
    }
