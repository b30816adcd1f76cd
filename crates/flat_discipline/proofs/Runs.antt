-- Whole bodies of disciplined code.
use Rattle.std.proofs.Common.{◌≡◌, ◌≢◌, ℕ, zero, suc, ◌+◌, ◌<◌, List, ◌∷◌, length, Option, Some, None, Bool, true, false, inl, inr, refl, sym, ap, ◌∙◌, subst, arith, true≢false, nat_lt}
use Rattle.std.specs.Prelude.{◌&&◌}
use Rattle.size_table.specs.Blocks.{Block}
use Rattle.flat_code.specs.Code.{FStep, FSteps, FFunction}
use Rattle.flat_code.specs.World.{FWorld, FPoint, point, spend, Run, Way}
use Rattle.flat_code.specs.Time.{charge}
use Rattle.flat_code.specs.Run.{inner_turns, Calls, act, act_all}
use Rattle.flat_code.specs.Recognized.{Sequence, sequence_steps, sequence_at, is_apart, further}
use Rattle.flat_discipline.specs.Items.{Item, Items, item_steps, all_steps, item_or, item_of, items_from, step_places, steps_places, places, all_places, first_place}
use Rattle.flat_discipline.specs.Facts.{Fact, Source, Here, untold, branch, here_after, tell, source}
use Rattle.flat_discipline.specs.Chains.{leading, leads, Edges, Edge, EdgeAll}
use Rattle.flat_discipline.specs.Breaks.{fits, is_plain, address, pointer, operands, AddressLost, Inside, Breaks, BreaksAll}
use Rattle.flat_discipline.specs.Discipline.{setting, edges, LostAt}
use Rattle.flat_discipline.specs.Comes.{IfOn, InStep, InSteps}
use Rattle.std.specs.Prelude.{is_some}
use Rattle.bb_watch.specs.Live.{holder_if}
use Rattle.flat_discipline.specs.Comes.{Claim}
use Rattle.flat_discipline.specs.Safe.{IsInRange, IsOwned}
use Rattle.flat_discipline.proofs.Blocks.{Within, is_lt, Good, holder_of}
use Rattle.flat_discipline.proofs.Begins.{Only, OnlyAll, only_head, only_tail, only_block, only_loop, only_inner, only_first, only_second, strengthen}
use Rattle.flat_discipline.proofs.Worlds.{Laws, ever}
use Rattle.flat_discipline.proofs.Points.{OkAt, spent, flow, HereHolds, untold_holds, branch_holds}
use Rattle.flat_discipline.proofs.Lands.{if_on_any, by_zero, claims_by_zero, all_append, one_step, places_append, in_append, ranged, Lands, Any, lands_as, then_lands, out_lands, turns_land}
use Rattle.flat_discipline.proofs.Plain.{CallsSafe, Known, plain_fares}
use Rattle.flat_discipline.proofs.Checks.{check_fares}
use Rattle.flat_discipline.proofs.Recognized.{sequence_is_at, IsAt}

-- ---- Items of steps

-- a plain step has one place, and sequences have values that are apart
abbrev mutual
  pub IsApart : Item → Type 0
  IsApart (Item.Plain s) = step_places s ≡ 1
  IsApart (Item.Checks q) = is_apart q ≡ true
  IsApart (Item.If c x y) = AreApart x × AreApart y
  IsApart (Item.Block x) = AreApart x
  IsApart (Item.Loop x) = AreApart x
  IsApart (Item.Inner x) = AreApart x

  pub AreApart : Items → Type 0
  AreApart Items.end = Unit {0}
  AreApart (Items.next i rest) = IsApart i × AreApart rest

module _ (g : ℕ) where
  item_apart : (o : Option Sequence) (a : FSteps) (i : Item) → IsAt g o a → IsApart i → IsApart (item_or o i)
  item_apart None a i at h = h
  item_apart (Some q) a i at h = at.1

  mutual
    step_apart : (s : FStep) → IsApart (item_of g s)
    step_apart (FStep.If c a b) = (steps_apart 0 a, steps_apart 0 b)
    step_apart (FStep.Block a) = steps_apart 0 a
    step_apart (FStep.Loop a) = steps_apart 0 a
    step_apart (FStep.Inner a) = steps_apart 0 a
    step_apart (FStep.Number a x) = refl
    step_apart (FStep.Same a x) = refl
    step_apart (FStep.Arith a f x y) = refl
    step_apart (FStep.Exit a) = refl
    step_apart (FStep.Call a f x) = refl
    step_apart (FStep.Return a) = refl
    step_apart (FStep.Slot a x) = refl
    step_apart (FStep.Look a x) = refl
    step_apart (FStep.FrameAt a x) = refl
    step_apart (FStep.Load a x n) = refl
    step_apart (FStep.Store a x n) = refl
    step_apart (FStep.Checked a x) = refl
    step_apart (FStep.LineMark a) = refl
    step_apart (FStep.Report a x) = refl
    step_apart (FStep.Env a x y z) = refl

    pub steps_apart : (k : ℕ) (a : FSteps) → AreApart (items_from g k a)
    steps_apart zero FSteps.none = tt
    steps_apart (suc k) FSteps.none = tt
    steps_apart (suc k) (FSteps.more s rest) = steps_apart k rest
    steps_apart zero (FSteps.more s rest) = (
      item_apart (sequence_at g (FSteps.more s rest)) (FSteps.more s rest) (item_of g s) (sequence_is_at g (FSteps.more s rest)) (step_apart s),
      steps_apart (further g (sequence_at g (FSteps.more s rest))) rest,
    )

  -- the places of items are those of their steps
  mutual
    pub item_places : (i : Item) → IsApart i → steps_places (item_steps g i) ≡ places g i
    item_places (Item.Plain s) h = (let z : step_places s + 0 ≡ 1 = omega (arith, h) in z)
    item_places (Item.Checks q) h = refl
    item_places (Item.If c x y) h = (let a = all_places_are x h.0 in let b = all_places_are y h.1 in let z : 1 + steps_places (all_steps g x) + steps_places (all_steps g y) + 0 ≡ 1 + all_places g x + all_places g y = omega (arith, a, b) in z)
    item_places (Item.Block x) h = (let a = all_places_are x h in let z : 1 + steps_places (all_steps g x) + 0 ≡ 1 + all_places g x = omega (arith, a) in z)
    item_places (Item.Loop x) h = (let a = all_places_are x h in let z : 1 + steps_places (all_steps g x) + 0 ≡ 1 + all_places g x = omega (arith, a) in z)
    item_places (Item.Inner x) h = (let a = all_places_are x h in let z : 1 + steps_places (all_steps g x) + 0 ≡ 1 + all_places g x = omega (arith, a) in z)

    pub all_places_are : (is : Items) → AreApart is → steps_places (all_steps g is) ≡ all_places g is
    all_places_are Items.end h = refl
    all_places_are (Items.next i rest) h = places_append (item_steps g i) (all_steps g rest) ∙ ap (λ n. n + steps_places (all_steps g rest)) (item_places i h.0) ∙ ap (λ n. places g i + n) (all_places_are rest h.1)

-- ---- Bodies

true_of : (b : Bool) → (b ≡ false → ⊥) → b ≡ true
true_of true h = refl
true_of false h = absurd (h refl)

both : (a b : Bool) → (a && b) ≡ true → (a ≡ true) × (b ≡ true)
both true b h = (refl, h)
both false b h = absurd (true≢false (sym h))

-- whether a step is in range goes by the words alone
range_at : (g frame : ℕ) (functions : List FFunction) (x : FStep) (n : ℕ) (u : FPoint) → IsInRange g frame functions x (point u.words (spend n u.world)) → IsInRange g frame functions x u
range_at g frame functions (FStep.Look a b) n u h = h
range_at g frame functions (FStep.FrameAt a b) n u h = h
range_at g frame functions (FStep.Call a b c) n u h = h
range_at g frame functions (FStep.Load a b c) n u h = h
range_at g frame functions (FStep.Store a b c) n u h = h
range_at g frame functions x n u h = tt

module _ (g : ℕ) (globals : List Block) (functions : List FFunction) (laws : Laws) (known : Known g globals functions laws) (f : ℕ) (base : ℕ) (w0 : FWorld) (start : Within g globals (ever g globals w0)) (call : Calls) (m bytes : ℕ) (inside : (function : ℕ) → (args : List ℕ) → FPoint → Type 0) (calls : CallsSafe g globals functions laws call inside) (same_bytes : bytes ≡ (setting g globals functions f).frame) (W : ℕ → Type 0) where
  abbrev S : Rattle.flat_discipline.specs.Facts.Setting
  S = setting g globals functions f

  abbrev E : Edges
  E h i a b = edges g globals functions f h i a b

  abbrev L : ℕ → Fact → Type 0
  L p x = LostAt g globals functions f p x

  abbrev Ok : ℕ → FPoint → Type 0
  Ok p u = OkAt g globals functions f base w0 p u

  abbrev Hr : Here → FPoint → Type 0
  Hr h u = HereHolds g globals functions f base w0 h u.words

  -- untainted values are owned, where W says that an item begins
  abbrev Owned : (place : ℕ) → FPoint → Type 0
  Owned p u = W p → (v : ℕ) → v < S.values → (L p (Fact.Clean v) → ⊥) → IsOwned g globals u.world (u.words v)

  abbrev safe_step : Claim
  safe_step p s u = IsInRange g S.frame functions s u × Owned p u

  owned : (p : ℕ) (u : FPoint) → Ok p u → Owned p u
  owned p u at w v lt nt = by (at.good v (is_lt v S.values lt) nt)
    where
      by : Good g (ever g globals u.world) (u.words v) → IsOwned g globals u.world (u.words v)
      by (inl z) = inl z
      by (inr h) =
          let r = holder_of g (ever g globals u.world) h.0 at.kept.holds.placed_ever h.2 in
          inr (ap (λ o. is_some (holder_if g o (ever g globals u.world))) h.1 ∙ ap is_some r.is)

  in_plain : (x : FStep) (p : ℕ) (t : FPoint) (levels : ℕ) → (fits S levels x && is_plain x) ≡ true → InStep g call m bytes inside (ranged g call m bytes functions S.frame inside) x p t → InStep g call m bytes inside safe_step x p t
  in_plain (FStep.If c a b) p t levels h k = absurd (true≢false (sym (both (fits S levels (FStep.If c a b)) false h).1))
  in_plain (FStep.Block a) p t levels h k = absurd (true≢false (sym h))
  in_plain (FStep.Loop a) p t levels h k = absurd (true≢false (sym h))
  in_plain (FStep.Inner a) p t levels h k = absurd (true≢false (sym h))
  in_plain (FStep.Call a b c) p t levels h k = k
  in_plain x p t levels h k = tt

  abbrev In : FSteps → ℕ → FPoint → Type 0
  In xs p u = InSteps g call m bytes inside safe_step xs p u

  abbrev go : FSteps → FPoint → Run Way
  go xs u = act_all g call m bytes xs u

  abbrev Ld : ℕ → List ℕ → (FPoint → Type 0) → Run Way → Type 0
  Ld after exits X r = Lands g globals functions f base w0 after exits X r

  -- the pointer of a sequence is a value that there is
  pointer_in : (q : Sequence) (levels p : ℕ) → ((k : ℕ) → Inside S (L p) (operands q) levels (sequence_steps g q) p k → ⊥) → nat_lt (pointer q) S.values ≡ true
  pointer_in (Sequence.Move p d q line s e) levels at fine =
      (both (nat_lt s S.values) (nat_lt p S.values) (true_of (nat_lt s S.values && nat_lt p S.values) (λ h. fine at (inl (refl, inl h))))).1
  pointer_in (Sequence.Load w a line s e) levels at fine =
      (both (nat_lt w S.values) (nat_lt a S.values) (true_of (nat_lt w S.values && nat_lt a S.values) (λ h. fine at (inl (refl, inl h))))).1
  pointer_in (Sequence.Span p n q line d s e) levels at fine =
      (both (nat_lt d S.values) (nat_lt p S.values) (true_of (nat_lt d S.values && nat_lt p S.values) (λ h. fine (at + 1 + 1 + 2 + 1) (inr (inr (inr (inl (inr (inl (inl (refl, inl h))))))))))).1

  mutual
    item_fares : (i : Item) (h : Here) (p after : ℕ) (exits : List ℕ) (u : FPoint) → ((h' : Here) (t : Item) (a : ℕ) (b : Option ℕ) → Edge g h i p after exits h' t a b → E h' t a b) → IsApart i → Only g W i p
        → ((q : ℕ) → Breaks g S L (length exits) i p q → ⊥) → Ok p u → Hr h u → In (item_steps g i) p u × Ld after exits (Hr (here_after i h)) (go (item_steps g i) u)
    item_fares (Item.Plain x) h p after exits u on apart only fine at k =
        let t : FPoint = point u.words (spend (charge x) u.world) in
        let r = plain_fares g globals functions laws known f base w0 start call m bytes inside calls same_bytes h x p after exits t
        (on h (Item.Plain x) p (leads (leading x) after exits) (refl, refl, refl, refl))
        (true_of (fits S (length exits) x && is_plain x) (λ e. fine p (refl, inl e)))
        (λ l. fine p (refl, inr (inl l)))
        (spent g globals functions f base w0 p (charge x) u at) k in (
          ((range_at g S.frame functions x (charge x) u r.0, owned p u at), in_plain x p t (length exits) (true_of (fits S (length exits) x && is_plain x) (λ e. fine p (refl, inl e))) r.1, if_on_any (act g call m bytes x t) (In FSteps.none (p + step_places x)) (λ z. tt)),
          subst (Ld after exits (Hr (tell h x))) (sym (one_step g call m bytes x u)) r.2,
        )
    item_fares (Item.Checks q) h p after exits u on apart only fine at k =
        let r = check_fares g globals functions laws known f base w0 start call m bytes inside calls same_bytes q h p after exits u
        (on h (Item.Checks q) p (Some after) (refl, refl, refl, refl)) apart
        (pointer_in q (length exits) p (λ j b. fine j (inr b))) (λ l. fine (p + Rattle.flat_discipline.specs.Breaks.pointer_use q) (inl (refl, l))) at in (
          strengthen g call m bytes inside (ranged g call m bytes functions S.frame inside) safe_step (sequence_steps g q) p u
              (λ s c. (c, owned p u at))
              (λ j x t low high c. (c, λ w. absurd (let z : j ≡ p = only j (omega (arith, low)) high w in let n : ⊥ = omega (arith, z, low) in n)))
              r.0,
          r.1,
        )
    item_fares (Item.If c x y) h p after exits u on apart only fine at k =
        let t : FPoint = point u.words (spend 6 u.world) in
        let at_t = spent g globals functions f base w0 p 6 u at in
        let first = flow g globals functions f base w0 h (Item.If c x y) p (first_place x (p + 1) after) t (on h (Item.If c x y) p (Some (first_place x (p + 1) after)) (inl (inl (refl, refl, refl, refl)))) (λ z. refl) at_t in
        let second = flow g globals functions f base w0 h (Item.If c x y) p (first_place y (p + 1 + all_places g x) after) t (on h (Item.If c x y) p (Some (first_place y (p + 1 + all_places g x) after)) (inl (inr (refl, refl, refl, refl)))) (λ z. refl) at_t in
        let go_x = λ (some : u.words c ≢ 0). items_fare x (branch h c) (p + 1) after exits t (λ h' i a b e. on h' i a b (inr (inl e))) apart.0 (only_first g W c x y p only) (λ q b. fine q (inr (inl b))) first (branch_holds g globals functions f base w0 h c u.words k some) in
        let go_y = items_fare y untold (p + 1 + all_places g x) after exits t (λ h' i a b e. on h' i a b (inr (inr e))) apart.1 (only_second g W c x y p only) (λ q b. fine q (inr (inr b))) second (untold_holds g globals functions f base w0 u.words) in
        let place : p + 1 + all_places g x ≡ p + 1 + steps_places (all_steps g x) = ap (λ n. p + 1 + n) (sym (all_places_are g x apart.0)) in (
          (
            (tt, owned p u at),
            claims_by_zero (u.words c) (In (all_steps g y) (p + 1 + steps_places (all_steps g x))) (In (all_steps g x) (p + 1)) t (λ z. subst (λ n. In (all_steps g y) n t) place go_y.0) (λ some. (go_x some).0),
            if_on_any (act g call m bytes (FStep.If c (all_steps g x) (all_steps g y)) t) (In FSteps.none (p + step_places (FStep.If c (all_steps g x) (all_steps g y)))) (λ z. tt),
          ),
          subst (Ld after exits (Hr untold)) (sym (one_step g call m bytes (FStep.If c (all_steps g x) (all_steps g y)) u))
              (by_zero (u.words c) (λ (r : Run Way). Ld after exits (Hr untold) r) (go (all_steps g y)) (go (all_steps g x)) t
              (λ z. lands_as g globals functions f base w0 after exits (Any g globals functions f base w0) (Hr untold) (λ v j. untold_holds g globals functions f base w0 v.words) (go (all_steps g y) t) go_y.1)
              (λ some. lands_as g globals functions f base w0 after exits (Any g globals functions f base w0) (Hr untold) (λ v j. untold_holds g globals functions f base w0 v.words) (go (all_steps g x) t) (go_x some).1)),
        )
    item_fares (Item.Block x) h p after exits u on apart only fine at k =
        let t : FPoint = point u.words (spend 0 u.world) in
        let at_t = spent g globals functions f base w0 p 0 u at in
        let first = flow g globals functions f base w0 h (Item.Block x) p (first_place x (p + 1) after) t (on h (Item.Block x) p (Some (first_place x (p + 1) after)) (inl (refl, refl, refl, refl))) (λ z. refl) at_t in
        let r = items_fare x untold (p + 1) after (after ∷ exits) t (λ h' i a b e. on h' i a b (inr e)) apart (only_block g W x p only) fine first (untold_holds g globals functions f base w0 u.words) in (
          ((tt, owned p u at), r.0, if_on_any (act g call m bytes (FStep.Block (all_steps g x)) t) (In FSteps.none (p + step_places (FStep.Block (all_steps g x)))) (λ z. tt)),
          subst (Ld after exits (Hr untold)) (sym (one_step g call m bytes (FStep.Block (all_steps g x)) u))
              (lands_as g globals functions f base w0 after exits (Any g globals functions f base w0) (Hr untold) (λ v j. untold_holds g globals functions f base w0 v.words) (act g call m bytes (FStep.Block (all_steps g x)) t)
              (out_lands g globals functions f base w0 after exits (go (all_steps g x) t) r.1)),
        )
    item_fares (Item.Loop x) h p after exits u on apart only fine at k =
        let t : FPoint = point u.words (spend 0 u.world) in
        let at_t = spent g globals functions f base w0 p 0 u at in
        let r = turns_land g globals functions f base w0 p (first_place x (p + 1) p) after exits (go (all_steps g x)) (In (all_steps g x) (p + 1))
        (λ v ok. flow g globals functions f base w0 h (Item.Loop x) p (first_place x (p + 1) p) v (on h (Item.Loop x) p (Some (first_place x (p + 1) p)) (inl (refl, refl, refl, refl))) (λ z. refl) ok)
        (λ v ok. items_fare x untold (p + 1) p (after ∷ exits) v (λ h' i a b e. on h' i a b (inr e)) apart (only_loop g W x p only) fine ok (untold_holds g globals functions f base w0 v.words))
        m t at_t in (
          ((tt, owned p u at), r.0, if_on_any (act g call m bytes (FStep.Loop (all_steps g x)) t) (In FSteps.none (p + step_places (FStep.Loop (all_steps g x)))) (λ z. tt)),
          subst (Ld after exits (Hr untold)) (sym (one_step g call m bytes (FStep.Loop (all_steps g x)) u))
              (lands_as g globals functions f base w0 after exits (Any g globals functions f base w0) (Hr untold) (λ v j. untold_holds g globals functions f base w0 v.words) (act g call m bytes (FStep.Loop (all_steps g x)) t) r.1),
        )
    item_fares (Item.Inner x) h p after exits u on apart only fine at k =
        let t : FPoint = point u.words (spend 0 u.world) in
        let at_t = spent g globals functions f base w0 p 0 u at in
        let r = turns_land g globals functions f base w0 p (first_place x (p + 1) p) after exits (go (all_steps g x)) (In (all_steps g x) (p + 1))
        (λ v ok. flow g globals functions f base w0 h (Item.Inner x) p (first_place x (p + 1) p) v (on h (Item.Inner x) p (Some (first_place x (p + 1) p)) (inl (refl, refl, refl, refl))) (λ z. refl) ok)
        (λ v ok. items_fare x untold (p + 1) p (after ∷ exits) v (λ h' i a b e. on h' i a b (inr e)) apart (only_inner g W x p only) fine ok (untold_holds g globals functions f base w0 v.words))
        (inner_turns m) t at_t in (
          ((tt, owned p u at), r.0, if_on_any (act g call m bytes (FStep.Inner (all_steps g x)) t) (In FSteps.none (p + step_places (FStep.Inner (all_steps g x)))) (λ z. tt)),
          subst (Ld after exits (Hr untold)) (sym (one_step g call m bytes (FStep.Inner (all_steps g x)) u))
              (lands_as g globals functions f base w0 after exits (Any g globals functions f base w0) (Hr untold) (λ v j. untold_holds g globals functions f base w0 v.words) (act g call m bytes (FStep.Inner (all_steps g x)) t) r.1),
        )

    pub items_fare : (is : Items) (h : Here) (p after : ℕ) (exits : List ℕ) (u : FPoint) → ((h' : Here) (t : Item) (a : ℕ) (b : Option ℕ) → EdgeAll g h is p after exits h' t a b → E h' t a b) → AreApart is → OnlyAll g W is p
        → ((q : ℕ) → BreaksAll g S L (length exits) is p q → ⊥) → Ok (first_place is p after) u → Hr h u → In (all_steps g is) p u × Ld after exits (Any g globals functions f base w0) (go (all_steps g is) u)
    items_fare Items.end h p after exits u on apart only fine at k = (tt, (at, tt))
    items_fare (Items.next i rest) h p after exits u on apart only fine at k =
        let mid = first_place rest (p + places g i) after in
        let r = item_fares i h p mid exits u (λ h' t a b e. on h' t a b (inl e)) apart.0 (only_head g W i rest p only) (λ q b. fine q (inl b)) at k in
        let s = then_lands g globals functions f base w0 after mid exits (Hr (here_after i h)) (Any g globals functions f base w0) (In (all_steps g rest) (p + places g i)) (go (all_steps g rest)) (go (item_steps g i) u) r.1
        (λ v ok here. items_fare rest (here_after i h) (p + places g i) after exits v (λ h' t a b e. on h' t a b (inr e)) apart.1 (only_tail g W i rest p only) (λ q b. fine q (inr b)) ok here) in (
          in_append g call m bytes inside safe_step (item_steps g i) (all_steps g rest) p u r.0
              (subst (λ n. IfOn (go (item_steps g i) u) (In (all_steps g rest) (p + n))) (sym (item_places g i apart.0)) s.0),
          subst (Ld after exits (Any g globals functions f base w0)) (sym (all_append g call m bytes (item_steps g i) (all_steps g rest) u)) s.1,
        )
