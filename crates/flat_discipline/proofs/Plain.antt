-- Plain steps of disciplined code.
use Rattle.std.proofs.Common.{◌≡◌, ℕ, zero, suc, ◌+◌, ◌^◌, ◌<◌, ◌≤◌, List, [], ◌∷◌, length, map, Option, Some, None, Bool, true, false, refl, sym, ap, ◌∙◌, subst, ⊎_elim, arith, true≢false, nat_lt, nat_le}
use Rattle.std.specs.Prelude.{◌==◌, ◌&&◌, ◌||◌, not, slice_get, if◌then◌else◌}
use Rattle.std.proofs.lemmas.Bool.{eqb-true}
use Rattle.std.proofs.lemmas.Bool.Decides.{eqb_tells}
use Rattle.std.proofs.lemmas.Option.{slice_get_within}
use Rattle.bb_words.specs.Answers.{Answer, and_then}
use Rattle.bb_words.specs.Steps.{arith as arith_of, size_of_width}
use Rattle.bb_words.specs.declared.steps.Width.{Width}
use Rattle.size_table.specs.declared.memory_map.TheConstants.{HEAP_START}
use Rattle.size_table.specs.Blocks.{Block}
use Rattle.flat_code.specs.Code.{FStep, FFunction}
use Rattle.flat_code.specs.Told.{Tell}
use Rattle.flat_code.specs.World.{Words, with_word, with_bytes, bytes_of, read, FWorld, FPoint, point, put, tell, choose, Ending, Run, Way}
use Rattle.flat_code.specs.Run.{refusal, unless_refused, loaded, stored, Calls, act, environment}
use Rattle.flat_discipline.specs.Items.{Item}
use Rattle.flat_discipline.specs.Facts.{Fact, Source, Origin, Here, tell as tell_here, held_if, source, plain_source}
use Rattle.flat_discipline.specs.Chains.{leading, leads, Lost}
use Rattle.flat_discipline.specs.Breaks.{all_below, is_count, fits, is_plain, address, AddressLost}
use Rattle.flat_discipline.specs.Discipline.{params_in, setting, edges, LostAt, ResultLost}
use Rattle.flat_discipline.specs.Comes.{InStep}
use Rattle.flat_discipline.specs.Safe.{AreGlobals, IsInRange}
use Rattle.flat_discipline.proofs.Blocks.{both, lt_of, is_lt, ArePlaced, is_held, Within, Good, good_address}
use Rattle.flat_discipline.proofs.Worlds.{Laws, ever, Holds, Next}
use Rattle.flat_discipline.proofs.Acts.{accessed, access_safe, width_divides, tell_next, EnvWent, EnvLands, env_lands}
use Rattle.flat_discipline.proofs.Points.{set_same, set_other, SpannedBy, Base, OkAt, later, Says, SaysSpan, after as ok_after, says_if, says_span_if, HereHolds, untold_holds, OriginHolds, origin_if, number_good, sum_says, arith_holds}
use Rattle.flat_discipline.proofs.Lands.{Lands, ranged}

module _ (g : ℕ) (globals : List Block) (functions : List FFunction) (laws : Laws) where
  -- ---- Calls

  pub record CallWent (number : ℕ) (u : FPoint) (word : ℕ) (t : FPoint) : Type 0 where
    pub words : t.words ≡ u.words
    pub next : Next g globals laws u.world t.world
    pub stack : t.world.stack ≡ u.world.stack
    pub good : (ResultLost g globals functions number → ⊥) → Good g (ever g globals t.world) word

  abbrev pub CallLands : (number : ℕ) → FPoint → Run ℕ → Type 0
  CallLands number u (Answer.Goes word t) = CallWent number u word t
  CallLands number u (Answer.Ends e t) = Holds g globals t.world

  -- calls are safe, where arguments are good for parameters that are untainted
  abbrev pub CallsSafe : Calls → (inside : (function : ℕ) → (args : List ℕ) → FPoint → Type 0) → Type 0
  CallsSafe call inside =
      (number : ℕ) (fn : FFunction) (args : List ℕ) (u : FPoint) → slice_get functions number ≡ Some fn → length args ≡ fn.params → Holds g globals u.world
      → ((k a : ℕ) → slice_get args k ≡ Some a → (LostAt g globals functions number 0 (Fact.Clean k) → ⊥) → Good g (ever g globals u.world) a)
      → inside number args u × CallLands number u (call number args u)

  -- what is known of all functions
  pub record Known : Type 0 where
    pub low : 2 ≤ g
    pub high : g ≤ 24
    pub globals_are : AreGlobals g globals
    pub params : (k : ℕ) (fn : FFunction) → slice_get functions k ≡ Some fn → fn.params ≤ fn.values

  module _ (known : Known) (f : ℕ) (base : ℕ) (w0 : FWorld) (start : Within g globals (ever g globals w0)) (call : Calls) (m bytes : ℕ) (inside : (function : ℕ) → (args : List ℕ) → FPoint → Type 0) (calls : CallsSafe call inside) (same_bytes : bytes ≡ (setting g globals functions f).frame) where
    abbrev s : Rattle.flat_discipline.specs.Facts.Setting
    s = setting g globals functions f

    abbrev L : ℕ → Fact → Type 0
    L p x = LostAt g globals functions f p x

    abbrev Ok : ℕ → FPoint → Type 0
    Ok p u = OkAt g globals functions f base w0 p u

    abbrev evr : FWorld → List Block
    evr w = ever g globals w

    pub slot : 1 ≤ g
    slot = (let z = known.low in omega (arith, z))

    -- what is shown of a plain step
    abbrev pub Fares : Here → FStep → (p after : ℕ) → List ℕ → FPoint → Type 0
    Fares h x p after exits t =
        IsInRange g s.frame functions x t × InStep g call m bytes inside (ranged g call m bytes functions s.frame inside) x p t
        × Lands g globals functions f base w0 after exits (λ v. HereHolds g globals functions f base w0 (tell_here h x) v.words) (act g call m bytes x t)

    set_of : (v : ℕ) → nat_lt v s.values ≡ true → nat_lt v s.values ≡ true
    set_of v h = h

    global_held : (p : ℕ) (t : FPoint) → Ok p t → Within g globals (evr t.world)
    global_held p t at k x = at.kept.grows k (start k x)

    -- a step that sets a value and changes nothing else
    sets_to : (h : Here) (i : Item) (to x p after : ℕ) (t : FPoint) (o : Source) → edges g globals functions f h i p (Some after) → Ok p t
        → ((v : ℕ) → source s h i (Fact.Clean v) ≡ (if v == to then o else Source.From (Fact.Clean v)))
        → ((y n : ℕ) → source s h i (Fact.Spanned y n) ≡ Rattle.flat_discipline.specs.Facts.gone_if ((y == to) || (n == to)) (Source.From (Fact.Spanned y n)))
        → Says g globals functions f base w0 t (evr t.world) o x → Ok after (put to x t)
    sets_to h i to x p after t o edge at clean span says =
        ok_after g globals functions f base w0 h i p after t (put to x t) edge at at.kept (λ k y. y)
        (λ v in_. subst (λ z. Says g globals functions f base w0 t (evr t.world) z (with_word t.words to x v)) (sym (clean v)) (says_if g globals functions f base w0 t (evr t.world) o to x says v in_))
        (λ y n in_. subst (λ z. SaysSpan g globals functions f base w0 t (put to x t) z y n) (sym (span y n)) (says_span_if g globals functions f base w0 t (put to x t) to x refl refl y n in_))

    here_set : (h : Here) (o : Origin) (to x : ℕ) (ws : Words) → HereHolds g globals functions f base w0 h ws → OriginHolds g globals functions f base w0 o x → HereHolds g globals functions f base w0 (record { guard = Rattle.flat_discipline.specs.Facts.Guard.Free; test = λ c. Rattle.flat_discipline.specs.Facts.Guard.Free; origin = λ v. if v == to then o else h.origin v }) (with_word ws to x)
    here_set h o to x ws k y = record { guard = tt; test = λ c. tt; origin = λ v. origin_if g globals functions f base w0 h o to x ws k y v }

    -- a step that sets nothing
    here_kept : (h : Here) (ws : Words) → HereHolds g globals functions f base w0 h ws → HereHolds g globals functions f base w0 (record { guard = Rattle.flat_discipline.specs.Facts.Guard.Free; test = λ c. Rattle.flat_discipline.specs.Facts.Guard.Free; origin = λ v. h.origin v }) ws
    here_kept h ws k = record { guard = tt; test = λ c. tt; origin = λ v. k.origin v }

    -- a step that sets nothing, and leaves the blocks
    keeps_all : (h : Here) (i : Item) (p after : ℕ) (t v : FPoint) → edges g globals functions f h i p (Some after) → Ok p t → ((x : Fact) → source s h i x ≡ Source.From x)
        → v.words ≡ t.words → v.world.live ≡ t.world.live → v.world.stack ≡ t.world.stack → Next g globals laws t.world v.world → Ok after v
    keeps_all h i p after t v edge at is words live stack next =
        ok_after g globals functions f base w0 h i p after t v edge at (later g globals functions f base w0 t.world v.world at.kept next.holds next.grows stack) next.grows
        (λ x in_. subst (λ z. Says g globals functions f base w0 t (evr v.world) z (v.words x)) (sym (is (Fact.Clean x))) (in_, λ y. subst (λ (ws : Words). Good g (evr v.world) (ws x)) (sym words) y))
        (λ x n in_. subst (λ z. SaysSpan g globals functions f base w0 t v z x n) (sym (is (Fact.Spanned x n))) (in_, λ y. subst (λ l. SpannedBy g l (v.words x) (v.words n)) (sym live) (subst (λ (ws : Words). SpannedBy g t.world.live (ws x) (ws n)) (sym words) y)))

    -- ---- Loads and stores

    address_good : (p v : ℕ) (t : FPoint) → Ok p t → nat_lt v s.values ≡ true → (AddressLost (L p) (Some v) → ⊥) → Good g (evr t.world) (t.words v)
    address_good p v t at in_ fine = at.good v in_ fine

    -- an access in the world v, which has the blocks and the telling of t
    pub touched : (t : FPoint) (v : FWorld) (a : ℕ) (w : Width) (write : Bool) → Holds g globals t.world → v.told ≡ t.world.told → v.live ≡ t.world.live → v.stack ≡ t.world.stack → Good g (evr t.world) a → refusal a (size_of_width w) ≡ None → Next g globals laws t.world (tell (Tell.Access a (size_of_width w) write) v)
    touched t v a w write holds told live stack good none =
        let size = size_of_width w in
        let r = (accessed g (evr t.world) a size holds.placed_ever good).at none in
        let k = width_divides g known.low w in
        let hv : Holds g globals v = Rattle.flat_discipline.proofs.Worlds.same_holds g globals t.world v told live (subst (λ n. n ≤ HEAP_START) (sym stack) holds.stack) holds in
        let safe = access_safe g t.world.live (evr t.world) a size k.0 write k.1 k.2 holds.placed holds.placed_ever good r.0 r.1 r.2 in
        let n = tell_next g globals laws slot known.high v (Tell.Access a size write) hv refl refl
        (subst (λ l. Rattle.flat_code.specs.Safety.IsSafe g l (evr v) (Tell.Access a size write)) (sym live)
        (subst (λ (x : List Rattle.flat_code.specs.Told.Stamped). Rattle.flat_code.specs.Safety.IsSafe g t.world.live (Rattle.flat_code.specs.Safety.ever_of globals (Rattle.flat_code.specs.Told.tells x)) (Tell.Access a size write)) (sym told) safe)) in
        record { holds = n.holds; grows = λ j y. n.grows j (subst (λ (x : List Rattle.flat_code.specs.Told.Stamped). is_held g (Rattle.flat_code.specs.Safety.ever_of globals (Rattle.flat_code.specs.Told.tells x)) j ≡ true) (sym told) y) }

    load_fares : (h : Here) (to v : ℕ) (w : Width) (p after : ℕ) (exits : List ℕ) (t : FPoint) → edges g globals functions f h (Item.Plain (FStep.Load to v w)) p (Some after) → nat_lt v s.values ≡ true → (L p (Fact.Clean v) → ⊥) → Ok p t → HereHolds g globals functions f base w0 h t.words → Fares h (FStep.Load to v w) p after exits t
    load_fares h to v w p after exits t edge in_ fine at k =
        let good = at.good v in_ fine in
        let acc = accessed g (evr t.world) (t.words v) (size_of_width w) at.kept.holds.placed_ever good in
        (acc.not_cut, tt, by (refusal (t.words v) (size_of_width w)) refl)
      where
        by : (o : Option Ending) → refusal (t.words v) (size_of_width w) ≡ o → Lands g globals functions f base w0 after exits (λ z. HereHolds g globals functions f base w0 (tell_here h (FStep.Load to v w)) z.words) (unless_refused o (λ z. Answer.Goes Way.On (loaded to (t.words v) w z)) t)
        by (Some e) is = at.kept.holds
        by None is =
            let x = read w t.world.memory (t.words v) in
            let next = touched t t.world (t.words v) w false at.kept.holds refl refl refl (at.good v in_ fine) is in
            let u : FPoint = point t.words (tell (Tell.Access (t.words v) (size_of_width w) false) t.world) in
            let q : FPoint = put to x u in (
              ok_after g globals functions f base w0 h (Item.Plain (FStep.Load to v w)) p after t q edge at (later g globals functions f base w0 t.world q.world at.kept next.holds next.grows refl) next.grows
                  (λ y i. says_if g globals functions f base w0 t (evr q.world) Source.Gone to x tt y i)
                  (λ y n i. says_span_if g globals functions f base w0 t q to x refl refl y n i),
              here_set h Origin.Other to x t.words k tt,
            )

    store_fares : (h : Here) (v from : ℕ) (w : Width) (p after : ℕ) (exits : List ℕ) (t : FPoint) → edges g globals functions f h (Item.Plain (FStep.Store v from w)) p (Some after) → nat_lt v s.values ≡ true → (L p (Fact.Clean v) → ⊥) → Ok p t → HereHolds g globals functions f base w0 h t.words → Fares h (FStep.Store v from w) p after exits t
    store_fares h v from w p after exits t edge in_ fine at k =
        let good = at.good v in_ fine in
        let acc = accessed g (evr t.world) (t.words v) (size_of_width w) at.kept.holds.placed_ever good in
        (acc.not_cut, tt, by (refusal (t.words v) (size_of_width w)) refl)
      where
        by : (o : Option Ending) → refusal (t.words v) (size_of_width w) ≡ o → Lands g globals functions f base w0 after exits (λ z. HereHolds g globals functions f base w0 (tell_here h (FStep.Store v from w)) z.words) (unless_refused o (λ z. Answer.Goes Way.On (stored (t.words v) (t.words from) w z)) t)
        by (Some e) is = at.kept.holds
        by None is =
            let u : FWorld = record t.world { memory = with_bytes t.world.memory (t.words v) (bytes_of (size_of_width w) (t.words from)) } in
            let next = touched t u (t.words v) w true at.kept.holds refl refl refl (at.good v in_ fine) is in (
              keeps_all h (Item.Plain (FStep.Store v from w)) p after t (point t.words (tell (Tell.Access (t.words v) (size_of_width w) true) u)) edge at (is_from) refl refl refl next,
              here_kept h t.words k,
            )
          where
            is_from : (x : Fact) → source s h (Item.Plain (FStep.Store v from w)) x ≡ Source.From x
            is_from (Fact.Clean x) = refl
            is_from (Fact.Own x) = refl
            is_from (Fact.Spanned x n) = refl

    -- ---- The other steps

    frame_fares : (h : Here) (to offset : ℕ) (p after : ℕ) (exits : List ℕ) (t : FPoint) → edges g globals functions f h (Item.Plain (FStep.FrameAt to offset)) p (Some after) → nat_lt offset s.frame ≡ true → Ok p t → HereHolds g globals functions f base w0 h t.words → Fares h (FStep.FrameAt to offset) p after exits t
    frame_fares h to offset p after exits t edge in_ at k =
        let lt : offset < s.frame = lt_of offset s.frame in_ in
        let x = t.world.stack + offset in
        let is : x ≡ base + offset = ap (λ n. n + offset) at.kept.stack in
        let small : base + offset < 2 ^ 31 = omega (arith, lt, at.kept.room) in
        let good : Good g (evr t.world) x = subst (Good g (evr t.world)) (sym is) (good_address g (evr t.world) (base + offset) small (at.kept.frame offset lt)) in
        let test : nat_lt offset bytes ≡ true = ap (λ n. nat_lt offset n) same_bytes ∙ in_ in (
          lt,
          tt,
          subst (λ b. Lands g globals functions f base w0 after exits (λ z. HereHolds g globals functions f base w0 (tell_here h (FStep.FrameAt to offset)) z.words) (choose b (λ z. Answer.Goes Way.On (put to (z.world.stack + offset) z)) (λ z. Answer.Ends Ending.Cut z) t)) (sym test) (
            sets_to h (Item.Plain (FStep.FrameAt to offset)) to x p after t Source.Held edge at (λ v. refl) (λ y n. refl) good,
            here_set h (Origin.InFrame offset) to x t.words k is,
          ),
        )

    env_fares : (h : Here) (to n a b : ℕ) (p after : ℕ) (exits : List ℕ) (t : FPoint) → edges g globals functions f h (Item.Plain (FStep.Env to n a b)) p (Some after) → Ok p t → HereHolds g globals functions f base w0 h t.words → Fares h (FStep.Env to n a b) p after exits t
    env_fares h to n a b p after exits t edge at k = (tt, tt, by (environment g to n (t.words a) (t.words b) t) (env_lands g globals laws slot known.high t at.kept.holds to n (t.words a) (t.words b)))
      where
        clean : (v : FPoint) → EnvWent g globals laws slot known.high t to n v → (x : ℕ) → nat_lt x s.values ≡ true → Says g globals functions f base w0 t (evr v.world) (source s h (Item.Plain (FStep.Env to n a b)) (Fact.Clean x)) (v.words x)
        clean v went x in_ =
            subst (λ (ws : Words). Says g globals functions f base w0 t (evr v.world) (source s h (Item.Plain (FStep.Env to n a b)) (Fact.Clean x)) (ws x)) (sym went.words)
            (says_if g globals functions f base w0 t (evr v.world) (held_if (n == 4) Source.Gone) to went.word
            (⊎_elim (λ e. subst (λ z. Says g globals functions f base w0 t (evr v.world) (held_if z Source.Gone) went.word) (sym e.0) (went.good e.1))
            (λ e. subst (λ z. Says g globals functions f base w0 t (evr v.world) (held_if z Source.Gone) went.word) (sym e.0) tt)
            (eqb_tells n 4)) x in_)

        by : (r : Run Way) → EnvLands g globals laws slot known.high t to n r → Lands g globals functions f base w0 after exits (λ z. HereHolds g globals functions f base w0 (tell_here h (FStep.Env to n a b)) z.words) r
        by (Answer.Goes Way.On v) went = (
          ok_after g globals functions f base w0 h (Item.Plain (FStep.Env to n a b)) p after t v edge at (later g globals functions f base w0 t.world v.world at.kept went.next.holds went.next.grows went.stack) went.next.grows
              (clean v went) (λ x m in_. tt),
          subst (λ (ws : Words). HereHolds g globals functions f base w0 (tell_here h (FStep.Env to n a b)) ws) (sym went.words) (here_set h Origin.Other to went.word t.words k tt),
        )
        by (Answer.Goes (Way.Out j) v) went = absurd went
        by (Answer.Goes (Way.Back j) v) went = absurd went
        by (Answer.Ends e v) holds = holds

    -- ---- Calls

    mapped_get : (ws : Words) (args : List ℕ) (k a : ℕ) → slice_get (map ws args) k ≡ Some a → (v : ℕ) × (slice_get args k ≡ Some v) × (a ≡ ws v)
    mapped_get ws [] k a e = absurd (let z : ⊥ = cc in z)
    mapped_get ws (x ∷ xs) zero a e = (x, refl, (let z : a ≡ ws x = cc in z))
    mapped_get ws (x ∷ xs) (suc k) a e = mapped_get ws xs k a e

    all_in : (n : ℕ) (args : List ℕ) → all_below n args ≡ true → (k v : ℕ) → slice_get args k ≡ Some v → nat_lt v n ≡ true
    all_in n [] h k v e = absurd (let z : ⊥ = cc in z)
    all_in n (x ∷ xs) h zero v e = let r = both (nat_lt x n) (all_below n xs) h in subst (λ z. nat_lt z n ≡ true) (let z : x ≡ v = cc in z) r.0
    all_in n (x ∷ xs) h (suc k) v e = let r = both (nat_lt x n) (all_below n xs) h in all_in n xs r.1 k v e

    map_length : (ws : Words) (xs : List ℕ) → length (map ws xs) ≡ length xs
    map_length ws [] = refl
    map_length ws (x ∷ xs) = ap suc (map_length ws xs)

    call_fares : (h : Here) (to number : ℕ) (args : List ℕ) (p after : ℕ) (exits : List ℕ) (t : FPoint) → edges g globals functions f h (Item.Plain (FStep.Call to number args)) p (Some after) → all_below s.values args ≡ true → is_count (s.params_of number) (length args) ≡ true → Ok p t → HereHolds g globals functions f base w0 h t.words → Fares h (FStep.Call to number args) p after exits t
    unfolding and_then
    call_fares h to number args p after exits t edge in_ counts at k = of_function (slice_get functions number) refl counts
      where
        words : List ℕ
        words = map t.words args

        went : (word : ℕ) (v : FPoint) → CallWent number t word v → Lands g globals functions f base w0 after exits (λ z. HereHolds g globals functions f base w0 (tell_here h (FStep.Call to number args)) z.words) (Answer.Goes Way.On (put to word v))
        went word v w = (
          ok_after g globals functions f base w0 h (Item.Plain (FStep.Call to number args)) p after t (put to word v) edge at (later g globals functions f base w0 t.world v.world at.kept w.next.holds w.next.grows w.stack) w.next.grows
              (λ x i. subst (λ (ws : Words). Says g globals functions f base w0 t (evr v.world) (source s h (Item.Plain (FStep.Call to number args)) (Fact.Clean x)) (with_word ws to word x)) (sym w.words)
              (says_if g globals functions f base w0 t (evr v.world) (Source.FromCall number) to word w.good x i))
              (λ x n i. tt),
          subst (λ (ws : Words). HereHolds g globals functions f base w0 (tell_here h (FStep.Call to number args)) (with_word ws to word)) (sym w.words) (here_set h Origin.Other to word t.words k tt),
        )

        landed : (r : Run ℕ) → CallLands number t r → Lands g globals functions f base w0 after exits (λ z. HereHolds g globals functions f base w0 (tell_here h (FStep.Call to number args)) z.words) (and_then r (λ word v. Answer.Goes Way.On (put to word v)))
        landed (Answer.Goes word v) w = went word v w
        landed (Answer.Ends e v) w = w

        arg_good : (fn : FFunction) → slice_get functions number ≡ Some fn → length args ≡ fn.params → (j a : ℕ) → slice_get words j ≡ Some a → (L2 : LostAt g globals functions number 0 (Fact.Clean j) → ⊥) → Good g (evr t.world) a
        arg_good fn is count j a e nt =
            let m = mapped_get t.words args j a e in
            let below : j < length args = slice_get_within args j m.0 m.1 in
            let lt : j < fn.params = omega (arith, below, count) in
            let values : nat_lt j (setting g globals functions number).values ≡ true = ap (λ o. nat_lt j (Rattle.flat_discipline.specs.Discipline.values_in o)) is ∙ is_lt j fn.values (let z = known.params number fn is in omega (arith, z, lt)) in
            subst (Good g (evr t.world)) (sym m.2) (at.good m.0 (all_in s.values args in_ j m.0 m.1)
            (λ l. nt (Lost.passed f to number j m.0 fn.params args h p (Some after) edge m.1 (ap params_in is) lt values l)))

        of_function : (o : Option FFunction) → slice_get functions number ≡ o → is_count (params_in o) (length args) ≡ true → Fares h (FStep.Call to number args) p after exits t
        of_function None is c = absurd (true≢false (sym c))
        of_function (Some fn) is c =
            let count : length args ≡ fn.params = sym (eqb-true fn.params (length args) c) in
            let r = calls number fn words t is (map_length t.words args ∙ count) at.kept.holds (arg_good fn is count) in
            (slice_get_within functions number fn is, r.0, landed (call number words t) r.1)

    -- ---- Every plain step

    abbrev pub Edge : Here → FStep → (p after : ℕ) → List ℕ → Type 0
    Edge h x p after exits = edges g globals functions f h (Item.Plain x) p (leads (leading x) after exits)

    from_all : (h : Here) (n : ℕ) (x : Fact) → source s h (Item.Plain (FStep.LineMark n)) x ≡ Source.From x
    from_all h n (Fact.Clean x) = refl
    from_all h n (Fact.Own x) = refl
    from_all h n (Fact.Spanned x m) = refl

    from_exit : (h : Here) (n : ℕ) (x : Fact) → source s h (Item.Plain (FStep.Exit n)) x ≡ Source.From x
    from_exit h n (Fact.Clean x) = refl
    from_exit h n (Fact.Own x) = refl
    from_exit h n (Fact.Spanned x m) = refl

    got_exit : (exits : List ℕ) (n : ℕ) → n < length exits → (q : ℕ) × (slice_get exits n ≡ Some q)
    got_exit [] n lt = absurd (let z : ⊥ = omega (arith, lt) in z)
    got_exit (x ∷ xs) zero lt = (x, refl)
    got_exit (x ∷ xs) (suc n) lt = got_exit xs n (let z : n < length xs = omega (arith, lt) in z)

    pub plain_fares : (h : Here) (x : FStep) (p after : ℕ) (exits : List ℕ) (t : FPoint) → Edge h x p after exits → (fits s (length exits) x && is_plain x) ≡ true → (AddressLost (L p) (address x) → ⊥) → Ok p t → HereHolds g globals functions f base w0 h t.words → Fares h x p after exits t
    plain_fares h (FStep.Number to value) p after exits t edge fit fine at k = (
      tt,
      tt,
      (
        sets_to h (Item.Plain (FStep.Number to value)) to value p after t (held_if ((value == 0) || Rattle.flat_discipline.specs.Facts.lies_in globals value) Source.Gone) edge at (λ v. refl) (λ y n. refl)
            (number_good g globals functions f base w0 h t at.kept k known.globals_are slot (global_held p t at) value),
        here_set h (Origin.Constant value) to value t.words k refl,
      ),
    )
    plain_fares h (FStep.Same to from) p after exits t edge fit fine at k =
        let r = both (nat_lt to s.values && nat_lt from s.values) true fit in
        let i = both (nat_lt to s.values) (nat_lt from s.values) r.0 in (
          tt,
          tt,
          (
            sets_to h (Item.Plain (FStep.Same to from)) to (t.words from) p after t (Source.From (Fact.Clean from)) edge at (λ v. refl) (λ y n. refl) (i.1, λ y. y),
            here_set h Origin.Other to (t.words from) t.words k tt,
          ),
        )
    plain_fares h (FStep.Arith to o l r) p after exits t edge fit fine at k =
        let a = both (nat_lt to s.values && (nat_lt l s.values && nat_lt r s.values)) true fit in
        let b = both (nat_lt to s.values) (nat_lt l s.values && nat_lt r s.values) a.0 in
        let c = both (nat_lt l s.values) (nat_lt r s.values) b.1 in
        let x = arith_of o (t.words l) (t.words r) in (
          tt,
          tt,
          (
            sets_to h (Item.Plain (FStep.Arith to o l r)) to x p after t (Rattle.flat_discipline.specs.Facts.sum_of s h o l r) edge at (λ v. refl) (λ y n. refl)
                (sum_says g globals functions f base w0 h t at.kept k known.globals_are slot (global_held p t at) o l r c.0),
            arith_holds g globals functions f base w0 h o to l r t.words k c.1,
          ),
        )
    plain_fares h (FStep.If c a b) p after exits t edge fit fine at k = absurd (true≢false (sym (both (nat_lt c s.values) false fit).1))
    plain_fares h (FStep.Block a) p after exits t edge fit fine at k = absurd (true≢false (sym fit))
    plain_fares h (FStep.Loop a) p after exits t edge fit fine at k = absurd (true≢false (sym fit))
    plain_fares h (FStep.Inner a) p after exits t edge fit fine at k = absurd (true≢false (sym fit))
    plain_fares h (FStep.Exit zero) p after exits t edge fit fine at k = absurd (true≢false (sym fit))
    plain_fares h (FStep.Exit (suc n)) p after exits t edge fit fine at k =
        let r = both (nat_lt 0 (suc n) && nat_le (suc n) (length exits)) true fit in
        let i = both (nat_lt 0 (suc n)) (nat_le (suc n) (length exits)) r.0 in
        let le = Rattle.flat_discipline.proofs.Blocks.le_of (suc n) (length exits) i.1 in
        let q = got_exit exits n (let z : n < length exits = omega (arith, le) in z) in
        (tt, tt, (q.0, q.1, Rattle.flat_discipline.proofs.Points.flow g globals functions f base w0 h (Item.Plain (FStep.Exit (suc n))) p q.0 t (subst (λ o. edges g globals functions f h (Item.Plain (FStep.Exit (suc n))) p o) q.1 edge) (from_exit h (suc n)) at))
    plain_fares h (FStep.Call to number args) p after exits t edge fit fine at k =
        let a = both (nat_lt to s.values && (all_below s.values args && (is_count (s.params_of number) (length args) && not (s.line == 0)))) true fit in
        let b = both (nat_lt to s.values) (all_below s.values args && (is_count (s.params_of number) (length args) && not (s.line == 0))) a.0 in
        let c = both (all_below s.values args) (is_count (s.params_of number) (length args) && not (s.line == 0)) b.1 in
        let d = both (is_count (s.params_of number) (length args)) (not (s.line == 0)) c.1 in
        call_fares h to number args p after exits t edge c.0 d.0 at k
    plain_fares h (FStep.Return from) p after exits t edge fit fine at k =
        let r = both (nat_lt from s.values) true fit in
        (tt, tt, (at.kept, λ nt. at.good from r.0 (λ l. nt (Lost.returned f from h p None edge l))))
    plain_fares h (FStep.Slot a b) p after exits t edge fit fine at k = absurd (true≢false (sym (both (nat_lt a s.values && nat_lt b s.values) false fit).1))
    plain_fares h (FStep.Look a b) p after exits t edge fit fine at k = absurd (true≢false (sym (both (nat_lt a s.values && nat_lt b s.values) false fit).1))
    plain_fares h (FStep.FrameAt to offset) p after exits t edge fit fine at k =
        let r = both (nat_lt to s.values && nat_lt offset s.frame) true fit in
        frame_fares h to offset p after exits t edge (both (nat_lt to s.values) (nat_lt offset s.frame) r.0).1 at k
    plain_fares h (FStep.Load to v w) p after exits t edge fit fine at k =
        let r = both (nat_lt to s.values && nat_lt v s.values) true fit in
        load_fares h to v w p after exits t edge (both (nat_lt to s.values) (nat_lt v s.values) r.0).1 fine at k
    plain_fares h (FStep.Store v from w) p after exits t edge fit fine at k =
        let r = both (nat_lt v s.values && nat_lt from s.values) true fit in
        store_fares h v from w p after exits t edge (both (nat_lt v s.values) (nat_lt from s.values) r.0).0 fine at k
    plain_fares h (FStep.Checked a b) p after exits t edge fit fine at k = absurd (true≢false (sym (both (nat_lt a s.values && nat_lt b s.values) false fit).1))
    plain_fares h (FStep.LineMark n) p after exits t edge fit fine at k =
        let next = tell_next g globals laws slot known.high t.world (Tell.Line n) at.kept.holds refl refl tt in
        (tt, tt, (keeps_all h (Item.Plain (FStep.LineMark n)) p after t (point t.words (tell (Tell.Line n) t.world)) edge at (from_all h n) refl refl refl next, here_kept h t.words k))
    plain_fares h (FStep.Report kind line) p after exits t edge fit fine at k = (tt, tt, at.kept.holds)
    plain_fares h (FStep.Env to n a b) p after exits t edge fit fine at k = env_fares h to n a b p after exits t edge at k
