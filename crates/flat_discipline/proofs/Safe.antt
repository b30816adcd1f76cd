-- Calls and runs of disciplined code are safe.
use Rattle.std.proofs.Common.{◌≡◌, ◌≢◌, ◌⊎◌, ℕ, zero, suc, ◌+◌, ◌-◌, ◌*◌, ◌/◌, ◌%◌, ◌^◌, ◌<◌, ◌≤◌, List, [], ◌∷◌, reverse, Option, Some, None, Bool, true, false, inl, inr, refl, sym, ap, ◌∙◌, subst, ⊎_elim, arith, true≢false, pow_pos, nat_lt, nat_le}
use Rattle.std.specs.Prelude.{◌==◌, ◌&&◌, ◌||◌, not, slice_get}
use Rattle.std.proofs.lemmas.Bool.Decides.{eqb_tells}
use Rattle.std.proofs.lemmas.Nat.{div-add-mod', mod-mul-add}
use Rattle.bb_words.specs.Answers.{Answer, and_then, either}
use Rattle.bb_words.specs.declared.kinds.ReportKind.TheVariants as report
use Rattle.size_table.specs.declared.memory_map.TheConstants.{STACK_START, HEAP_START, MOST_CALLS}
use Rattle.size_table.specs.Blocks.{Block, holds}
use Rattle.size_table.specs.Made.{blocks_from}
use Rattle.flat_code.specs.Code.{FSteps, FFunction, FCode}
use Rattle.flat_code.specs.Told.{Tell, tells}
use Rattle.flat_code.specs.World.{arguments, FWorld, FPoint, point, spend, choose, Ending, Run, Way}
use Rattle.flat_code.specs.Accounts.{end_all, frame_size, alignment, stack_under, enter, leave}
use Rattle.flat_code.specs.Safety.{ever_after, ever_of}
use Rattle.flat_code.specs.Time.{call_charge}
use Rattle.flat_code.specs.Run.{Calls, act_all, returned, body_with, framed, framed_if, counted, no_calls, library, defined, call_none, call_one, calls, start, exited, flat_run}
use Rattle.flat_code_laws.specs.Laws.{point_of}
use Rattle.flat_discipline.specs.Items.{Item, Items, all_steps, items_of, all_places, first_place}
use Rattle.flat_discipline.specs.Facts.{Fact, Here, untold}
use Rattle.flat_discipline.specs.Chains.{EdgeAll, Lost}
use Rattle.flat_discipline.specs.Breaks.{BreaksAll}
use Rattle.flat_discipline.specs.Discipline.{values_in, frame_in, setting, edges_in, edges, LostAt, ResultLost, most_values, most_params, library_fits, main_fits, function_fits, BreaksBy, BreaksAt, IsDisciplined}
use Rattle.flat_discipline.specs.Comes.{InSteps, nothing, InLibrary, InFrame, InDefined, InOne, InNone, InCalls, InRun}
use Rattle.flat_discipline.specs.Safe.{Decline, AreGlobals, AreFrames, BeginsIn, is_safe_step, IsSafeRun, DisciplinedIsSafe}
use Rattle.flat_discipline.proofs.Blocks.{both, le_of, lt_of, ge_of, is_lt, ArePlaced, is_held, Within, held_left, Good}
use Rattle.flat_discipline.proofs.Worlds.{Laws, decline_placed, frame_held, globals_placed, ever, Holds, same_holds, Next, same_next, then_next, made_all_next, made_all_held, made_all_stack, ended_all_next}
use Rattle.flat_discipline.proofs.Points.{OkAt, untold_holds}
use Rattle.flat_discipline.proofs.Lands.{Lands, Any}
use Rattle.flat_discipline.proofs.Plain.{CallLands, CallsSafe, Known}
use Rattle.flat_discipline.proofs.Recognized.{items_are_steps}
use Rattle.flat_discipline.proofs.Runs.{steps_apart, items_fare}

-- the blocks of the globals lived
ever_has : (g : ℕ) (ts : List Tell) (bs : List Block) → Within g bs (ever_of bs ts)
ever_has g [] bs s x = x
ever_has g (t ∷ ts) bs s x = ever_has g ts (ever_after t bs) s (one t x)
  where
    one : (t : Tell) → is_held g bs s ≡ true → is_held g (ever_after t bs) s ≡ true
    one (Tell.Output b) x = x
    one (Tell.Line l) x = x
    one (Tell.Move a b) x = x
    one (Tell.Access a b c) x = x
    one (Tell.Made a e) x = held_left g bs (Rattle.size_table.specs.Blocks.block_at a e ∷ []) s x
    one (Tell.Ended a e) x = x

-- the words of a new call
argument_is : (args : List ℕ) (v : ℕ) → ((a : ℕ) × (slice_get args v ≡ Some a) × (arguments args v ≡ a)) ⊎ (arguments args v ≡ 0)
argument_is [] v = inr refl
argument_is (x ∷ xs) zero = inl (x, refl, refl)
argument_is (x ∷ xs) (suc v) = argument_is xs v

true_of : (b : Bool) → (b ≡ false → ⊥) → b ≡ true
true_of true h = refl
true_of false h = absurd (h refl)

module _ (g : ℕ) (globals : List Block) (code : FCode) (laws : Laws) (frames : List (List ℕ)) (m : ℕ) (low : 2 ≤ g) (high : g ≤ 24) (globals_are : AreGlobals g globals) (frames_are : AreFrames g code.functions frames) (disciplined : IsDisciplined g globals code) where
  abbrev fs : List FFunction
  fs = code.functions

  -- ---- What the discipline says of a function

  function_is : (k : ℕ) (fn : FFunction) → slice_get fs k ≡ Some fn → function_fits code.main k fn ≡ true
  function_is k fn is = true_of (function_fits code.main k fn)
      (λ e. disciplined k 0 (subst (λ o. BreaksBy g (setting g globals fs k) (LostAt g globals fs k) code.main k o 0) (sym is) (inl (refl, e))))

  record Fits (k : ℕ) (fn : FFunction) : Type 0 where
    params : fn.params ≤ fn.values
    library_frame : fn.line ≡ 0 → fn.frame ≡ 0
    main : k ≡ code.main → fn.params ≡ 0

  fits_of : (k : ℕ) (fn : FFunction) → slice_get fs k ≡ Some fn → Fits k fn
  fits_of k fn is =
      let a = both (nat_le fn.values most_values && nat_le fn.params most_params) (nat_le fn.params fn.values && (library_fits fn && main_fits code.main k fn)) (function_is k fn is) in
      let b = both (nat_le fn.params fn.values) (library_fits fn && main_fits code.main k fn) a.1 in
      let c = both (library_fits fn) (main_fits code.main k fn) b.1 in
      record { params = le_of fn.params fn.values b.0; library_frame = λ z. lib (fn.line == 0) refl z c.0; main = λ z. first (k == code.main) refl z c.1 }
    where
      is_zero : (n : ℕ) → (n == 0) ≡ true → n ≡ 0
      is_zero n h = ⊎_elim (λ e. e.1) (λ e. absurd (true≢false (sym h ∙ e.0))) (eqb_tells n 0)

      lib : (t : Bool) → (fn.line == 0) ≡ t → fn.line ≡ 0 → (not t || ((fn.frame == 0) && nat_le fn.values Rattle.flat_discipline.specs.Discipline.most_library_values)) ≡ true → fn.frame ≡ 0
      lib true e z h = is_zero fn.frame (both (fn.frame == 0) (nat_le fn.values Rattle.flat_discipline.specs.Discipline.most_library_values) h).0
      lib false e z h = absurd (⊎_elim (λ i. let n : ⊥ = wrong (sym i.0 ∙ e) in n) (λ i. i.1 z) (eqb_tells fn.line 0))
        where
          wrong : true ≡ false → ⊥
          wrong y = true≢false y

      first : (t : Bool) → (k == code.main) ≡ t → k ≡ code.main → (not t || (fn.params == 0)) ≡ true → fn.params ≡ 0
      first true e z h = is_zero fn.params h
      first false e z h = absurd (⊎_elim (λ i. true≢false (sym i.0 ∙ e)) (λ i. i.1 z) (eqb_tells k code.main))

  known : Known g globals fs laws
  known = record { low = low; high = high; globals_are = globals_are; params = λ k fn is. (fits_of k fn is).params }

  abbrev evr : FWorld → List Block
  evr w = ever g globals w

  -- ---- A body

  -- what a body that was begun in a world comes to
  record BodyWent (number : ℕ) (w : FWorld) (word : ℕ) (v : FWorld) : Type 0 where
    holds : Holds g globals v
    grows : Within g (evr w) (evr v)
    stack : v.stack ≡ w.stack
    good : (ResultLost g globals fs number → ⊥) → Good g (evr v) word

  abbrev BodyLands : (number : ℕ) → FPoint → FWorld → Run ℕ → Type 0
  BodyLands number u w (Answer.Goes word t) = BodyWent number w word t.world × (t.words ≡ u.words)
  BodyLands number u w (Answer.Ends e t) = Holds g globals t.world

  module _ (number : ℕ) (fn : FFunction) (is : slice_get fs number ≡ Some fn) (args : List ℕ) (u : FPoint) (call : Calls) (inside : (function : ℕ) → (args : List ℕ) → FPoint → Type 0) (safe : CallsSafe g globals fs laws call inside) (bytes : ℕ) (same_bytes : bytes ≡ fn.frame) where
    frame_is : bytes ≡ (setting g globals fs number).frame
    frame_is = same_bytes ∙ sym (ap frame_in is)

    -- a body that is begun in a world
    module _ (w : FWorld) (h : Holds g globals w) (room : w.stack + fn.frame ≤ HEAP_START) (frame : (o : ℕ) → o < fn.frame → is_held g (evr w) ((w.stack + o) / 2 ^ g) ≡ true)
        (good : (k a : ℕ) → slice_get args k ≡ Some a → (LostAt g globals fs number 0 (Fact.Clean k) → ⊥) → Good g (evr w) a) where
      abbrev begun : FPoint
      begun = point (arguments args) w

      abbrev items : Items
      items = items_of g fn.body

      at_begin : OkAt g globals fs number w.stack w 0 begun
      at_begin = record {
        good = λ v in_ nt. ⊎_elim (λ a. subst (Good g (evr w)) (sym a.2) (good v a.0 a.1 nt)) (λ z. inl z) (argument_is args v);
        spans = λ x n in_ nt. absurd (nt (Lost.unspanned number x n in_));
        kept = record {
          holds = h;
          stack = refl;
          grows = λ s x. x;
          frame = λ o lt. frame o (subst (λ n. o < n) (ap frame_in is) lt);
          room = subst (λ n. w.stack + n ≤ HEAP_START) (sym (ap frame_in is)) room;
        };
      }

      first_is : (xs : Items) → first_place xs 0 (all_places g xs) ≡ 0
      first_is Items.end = refl
      first_is (Items.next i rest) = refl

      edges_are : (h' : Here) (t : Item) (a : ℕ) (b : Option ℕ) → EdgeAll g untold items 0 (all_places g items) [] h' t a b → edges g globals fs number h' t a b
      edges_are h' t a b e = subst (λ o. edges_in g o h' t a b) (sym is) e

      only : Rattle.flat_discipline.proofs.Begins.OnlyAll g (BeginsIn g (slice_get fs number)) items 0
      only q low_ high_ w = subst (λ o. BeginsIn g o q) is w

      fine : (q : ℕ) → BreaksAll g (setting g globals fs number) (LostAt g globals fs number) 0 items 0 q → ⊥
      fine q b = disciplined number q (subst (λ o. BreaksBy g (setting g globals fs number) (LostAt g globals fs number) code.main number o q) (sym is) (inr b))

      abbrev In : FSteps → Type 0
      In xs = InSteps g call m bytes inside (is_safe_step g globals fs number) xs 0 begun

      fared : In (all_steps g items) × Lands g globals fs number w.stack w (all_places g items) [] (Any g globals fs number w.stack w) (act_all g call m bytes (all_steps g items) begun)
      fared = items_fare g globals fs laws known number w.stack w (ever_has g (tells w.told) globals) call m bytes inside safe frame_is (BeginsIn g (slice_get fs number)) items untold 0 (all_places g items) [] begun edges_are (steps_apart g 0 fn.body) only fine
          (subst (λ p. OkAt g globals fs number w.stack w p begun) (sym (first_is items)) at_begin) (untold_holds g globals fs number w.stack w (arguments args))

      returned_lands : (r : Run Way) → Lands g globals fs number w.stack w (all_places g items) [] (Any g globals fs number w.stack w) r → BodyLands number u w (and_then (and_then r returned) (λ word t. Answer.Goes word (point u.words t.world)))
      unfolding and_then
      returned_lands (Answer.Goes Way.On t) l = (record { holds = l.0.kept.holds; grows = l.0.kept.grows; stack = l.0.kept.stack; good = λ nt. inl refl }, refl)
      returned_lands (Answer.Goes (Way.Out n) t) l = absurd (let z : ⊥ = none_in n l.0 l.1 in z)
        where
          none_in : (n q : ℕ) → slice_get {X = ℕ} [] n ≡ Some q → ⊥
          none_in n q e = let z : ⊥ = cc in z
      returned_lands (Answer.Goes (Way.Back word) t) l = (record { holds = l.0.holds; grows = l.0.grows; stack = l.0.stack; good = l.1 }, refl)
      returned_lands (Answer.Ends e t) l = l

      body_safe : In fn.body × BodyLands number u w (and_then (and_then (act_all g call m bytes fn.body begun) returned) (λ word t. Answer.Goes word (point u.words t.world)))
      body_safe = subst (λ xs. In xs × BodyLands number u w (and_then (and_then (act_all g call m bytes xs begun) returned) (λ word t. Answer.Goes word (point u.words t.world)))) (items_are_steps g fn.body)
          (fared.0, returned_lands (act_all g call m bytes (all_steps g items) begun) fared.1)

  -- ---- Calls

  none_safe : CallsSafe g globals fs laws no_calls (λ function args u. Unit {0})
  none_safe number fn args u is count h good = (tt, h)

  abbrev Goods : (number : ℕ) → (args : List ℕ) → FWorld → Type 0
  Goods number args w = (k a : ℕ) → slice_get args k ≡ Some a → (LostAt g globals fs number 0 (Fact.Clean k) → ⊥) → Good g (evr w) a

  claims : (function : ℕ) → Rattle.flat_discipline.specs.Comes.Claim
  claims = is_safe_step g globals fs

  -- a body of the library
  library_safe : (number : ℕ) (fn : FFunction) (args : List ℕ) (u : FPoint) → slice_get fs number ≡ Some fn → fn.line ≡ 0 → Holds g globals u.world → Goods number args u.world
      → InLibrary g frames m (is_safe_step g globals fs) number fn args u × CallLands g globals fs laws number u (library g frames m fn args u)
  library_safe number fn args u is line h good =
      let w = spend (call_charge fn) u.world in
      let empty : fn.frame ≡ 0 = (fits_of number fn is).library_frame line in
      let r = body_safe number fn is args u no_calls (λ function args u. Unit {0}) none_safe 0 (sym empty) w (same_holds g globals u.world w refl refl h.stack h)
      (let z = h.stack in omega (arith, z, empty)) (λ o lt. absurd (let z : ⊥ = omega (arith, lt, empty) in z)) good in
      (r.0, landed (body_with (act_all g no_calls m 0 fn.body) args (point u.words w)) r.1)
    where
      landed : (r : Run ℕ) → BodyLands number (point u.words (spend (call_charge fn) u.world)) (spend (call_charge fn) u.world) r → CallLands g globals fs laws number u r
      landed (Answer.Goes word t) l = record { words = l.1; next = record { holds = l.0.holds; grows = l.0.grows }; stack = l.0.stack; good = l.0.good }
      landed (Answer.Ends e t) l = l

  -- ---- Frames

  round_down : (x a : ℕ) → (x / 2 ^ a * 2 ^ a ≤ x) × ((x / 2 ^ a * 2 ^ a) % 2 ^ a ≡ 0)
  round_down x a =
      let whole : x / 2 ^ a * 2 ^ a + x % 2 ^ a ≡ x = div-add-mod' x (2 ^ a) in
      (omega (arith, whole), ap (λ n. n % 2 ^ a) (let z : x / 2 ^ a * 2 ^ a ≡ x / 2 ^ a * 2 ^ a + 0 = omega arith in z) ∙ mod-mul-add (x / 2 ^ a) (2 ^ a) 0 (pow_pos a))

  frame_placed : (stack : ℕ) (es : List ℕ) → Decline g 24 es → stack ≤ HEAP_START → STACK_START ≤ stack_under g stack es → ArePlaced g (blocks_from (stack_under g stack es) es) × (stack_under g stack es + frame_size es ≤ stack)
  frame_placed stack es d top bottom =
      let r = round_down (stack - frame_size es) (alignment g es) in
      let fit : stack_under g stack es + frame_size es ≤ stack = omega (arith, r.0, bottom) in
      (lay es d r.1 bottom fit, fit)
    where
      lay : (es : List ℕ) → Decline g 24 es → stack_under g stack es % 2 ^ alignment g es ≡ 0 → STACK_START ≤ stack_under g stack es → stack_under g stack es + frame_size es ≤ stack → ArePlaced g (blocks_from (stack_under g stack es) es)
      lay [] d aligned bottom fit = tt
      lay (e ∷ es) d aligned bottom fit = decline_placed g e (e ∷ es) (stack_under g stack (e ∷ es)) (omega (arith, low)) d.1 (d.0, (let z : e ≤ e = omega arith in z), d.2) aligned (omega (arith, bottom)) (omega (arith, fit, top))

  -- a function of the program
  module _ (deeper : Calls) (inside : (function : ℕ) → (args : List ℕ) → FPoint → Type 0) (safe : CallsSafe g globals fs laws deeper inside) where
    module _ (number : ℕ) (fn : FFunction) (args : List ℕ) (u : FPoint) (is : slice_get fs number ≡ Some fn) (h : Holds g globals u.world) (good : Goods number args u.world) (es : List ℕ) (decline : Decline g 24 es) (total : frame_size es ≡ fn.frame) where
      abbrev v : FPoint
      v = point u.words (spend (call_charge fn) u.world)

      abbrev bottom : ℕ
      bottom = stack_under g u.world.stack es

      abbrev lowered : FWorld
      lowered = record v.world { depth = v.world.depth + 1; stack = stack_under g u.world.stack es }

      abbrev entered : FWorld
      entered = enter (stack_under g u.world.stack es) es v.world

      left : (r : Run ℕ) → Next g globals laws u.world entered → BodyLands number (point v.words entered) entered r → CallLands g globals fs laws number u (and_then r (λ word s. Answer.Goes word (point s.words (leave es v.world s.world))))
      unfolding and_then
      left (Answer.Goes word t) next l =
          let e = ended_all_next g globals laws (reverse (blocks_from t.world.stack es)) t.world l.0.holds in
          let w = leave es v.world t.world in
          let s = same_next g globals laws (end_all (reverse (blocks_from t.world.stack es)) t.world) w refl refl h.stack e.holds in
          record {
            words = l.1;
            next = record { holds = s.holds; grows = λ j y. s.grows j (e.grows j (l.0.grows j (next.grows j y))) };
            stack = refl;
            good = λ nt. Rattle.flat_discipline.proofs.Blocks.good_more g (evr t.world) (evr w) word (λ j y. s.grows j (e.grows j y)) (l.0.good nt);
          }
      left (Answer.Ends e t) next l = l

      framed_safe : InFrame g frames m (is_safe_step g globals fs) deeper inside number fn args es v × CallLands g globals fs laws number u (framed g fn.line (act_all g deeper m fn.frame fn.body) args es v)
      framed_safe = by (nat_lt (stack_under g u.world.stack es) STACK_START) refl
        where
          by : (t : Bool) → nat_lt (stack_under g u.world.stack es) STACK_START ≡ t
              → either t nothing (λ t. InSteps g deeper m fn.frame inside (is_safe_step g globals fs number) fn.body 0 (point (arguments args) (enter (stack_under g t.world.stack es) es t.world))) v
              × CallLands g globals fs laws number u (choose t (λ z. Answer.Ends (Ending.Reported report.Stack fn.line) z)
              (λ t. and_then (body_with (act_all g deeper m fn.frame fn.body) args (point t.words (enter (stack_under g t.world.stack es) es t.world))) (λ word s. Answer.Goes word (point s.words (leave es t.world s.world)))) v)
          by true e = (tt, same_holds g globals u.world v.world refl refl h.stack h)
          by false e =
              let low_ : STACK_START ≤ stack_under g u.world.stack es = ge_of (stack_under g u.world.stack es) STACK_START e in
              let p = frame_placed u.world.stack es decline h.stack low_ in
              let top : stack_under g u.world.stack es ≤ HEAP_START = (let z = h.stack in let y = p.1 in omega (arith, z, y)) in
              let hl : Next g globals laws u.world lowered = same_next g globals laws u.world lowered refl refl top h in
              let made = made_all_next g globals laws (blocks_from (stack_under g u.world.stack es) es) lowered hl.holds p.0 in
              let next : Next g globals laws u.world entered = then_next g globals laws u.world lowered entered hl made in
              let stack : entered.stack ≡ stack_under g u.world.stack es = made_all_stack g globals laws (blocks_from (stack_under g u.world.stack es) es) lowered in
              let held = made_all_held g globals laws (blocks_from (stack_under g u.world.stack es) es) lowered hl.holds p.0 in
              let r = body_safe number fn is args (point v.words entered) deeper inside safe fn.frame refl entered next.holds
              (let z = h.stack in let y = p.1 in omega (arith, z, y, stack, total))
              (λ o lt. subst (λ b. is_held g (evr entered) ((b + o) / 2 ^ g) ≡ true) (sym stack) (held ((stack_under g u.world.stack es + o) / 2 ^ g) (frame_held g es (stack_under g u.world.stack es) o p.0 (subst (λ n. o < n) (sym total) lt))))
              (λ k a x nt. Rattle.flat_discipline.proofs.Blocks.good_more g (evr u.world) (evr entered) a next.grows (good k a x nt)) in
              (r.0, left (body_with (act_all g deeper m fn.frame fn.body) args (point v.words entered)) next r.1)

    defined_safe : (number : ℕ) (fn : FFunction) (args : List ℕ) (u : FPoint) → slice_get fs number ≡ Some fn → fn.line ≢ 0 → Holds g globals u.world → Goods number args u.world
        → InDefined g frames m (is_safe_step g globals fs) deeper inside number fn args (slice_get frames number) u × CallLands g globals fs laws number u (defined g frames m deeper number fn args u)
    defined_safe number fn args u is line h good =
        let fr = frames_are number fn is line in
        subst (λ o. InDefined g frames m (is_safe_step g globals fs) deeper inside number fn args o u × CallLands g globals fs laws number u (framed_if g fn.line (act_all g deeper m fn.frame fn.body) args o (point u.words (spend (call_charge fn) u.world)))) (sym fr.is)
        (framed_safe number fn args u is h good fr.exponents fr.decline fr.total)

  -- a call of a function, by whether it is a body of the library
  abbrev Split : (n number : ℕ) → FFunction → (args : List ℕ) → FPoint → Bool → Type 0
  Split n number fn args u t =
      either t (InLibrary g frames m (is_safe_step g globals fs) number fn args) (either (nat_le MOST_CALLS u.world.depth) nothing (InDefined g frames m (is_safe_step g globals fs) (calls g frames m fs n) (InCalls g frames m (is_safe_step g globals fs) fs n) number fn args (slice_get frames number))) u
      × CallLands g globals fs laws number u (choose t (library g frames m fn args) (counted fn.line (defined g frames m (calls g frames m fs n) number fn args)) u)

  calls_safe : (n : ℕ) → CallsSafe g globals fs laws (calls g frames m fs n) (InCalls g frames m (is_safe_step g globals fs) fs n)
  calls_safe zero number fn args u is count h good =
      subst (λ o. InNone g frames m (is_safe_step g globals fs) o number args u × CallLands g globals fs laws number u (call_none g frames m fs o number args u)) (sym is)
      (⊎_elim
      (λ e. subst (λ t. either t (InLibrary g frames m (is_safe_step g globals fs) number fn args) nothing u × CallLands g globals fs laws number u (choose t (library g frames m fn args) (counted fn.line (λ z. Answer.Ends Ending.Cut z)) u)) (sym e.0) (library_safe number fn args u is e.1 h good))
      (λ e. subst (λ t. either t (InLibrary g frames m (is_safe_step g globals fs) number fn args) nothing u × CallLands g globals fs laws number u (choose t (library g frames m fn args) (counted fn.line (λ z. Answer.Ends Ending.Cut z)) u)) (sym e.0) (tt, deep (nat_le MOST_CALLS u.world.depth)))
      (eqb_tells fn.line 0))
    where
      deep : (t : Bool) → CallLands g globals fs laws number u (choose t (λ z. Answer.Ends (Ending.Reported report.Depth fn.line) z) (λ z. Answer.Ends Ending.Cut z) u)
      deep true = h
      deep false = h
  calls_safe (suc n) number fn args u is count h good =
      let d = λ (line : fn.line ≢ 0). defined_safe (calls g frames m fs n) (InCalls g frames m (is_safe_step g globals fs) fs n) (calls_safe n) number fn args u is line h good in
      subst (λ o. InOne g frames m (is_safe_step g globals fs) (calls g frames m fs n) (InCalls g frames m (is_safe_step g globals fs) fs n) o number args u × CallLands g globals fs laws number u (call_one g frames m fs (calls g frames m fs n) o number args u)) (sym is)
      (⊎_elim
      (λ e. subst (λ t. Split n number fn args u t) (sym e.0) (library_safe number fn args u is e.1 h good))
      (λ e. subst (λ t. Split n number fn args u t) (sym e.0) (deep (nat_le MOST_CALLS u.world.depth) (d e.1)))
      (eqb_tells fn.line 0))
    where
      deep : (t : Bool) → (InDefined g frames m (is_safe_step g globals fs) (calls g frames m fs n) (InCalls g frames m (is_safe_step g globals fs) fs n) number fn args (slice_get frames number) u × CallLands g globals fs laws number u (defined g frames m (calls g frames m fs n) number fn args u))
          → either t nothing (InDefined g frames m (is_safe_step g globals fs) (calls g frames m fs n) (InCalls g frames m (is_safe_step g globals fs) fs n) number fn args (slice_get frames number)) u
          × CallLands g globals fs laws number u (choose t (λ z. Answer.Ends (Ending.Reported report.Depth fn.line) z) (defined g frames m (calls g frames m fs n) number fn args) u)
      deep true r = (tt, h)
      deep false r = r

  -- ---- Programs

  main_is : (o : Option FFunction) → slice_get fs code.main ≡ o → (fn : FFunction) × (slice_get fs code.main ≡ Some fn)
  main_is None is = absurd (disciplined code.main 0 (subst (λ o. BreaksBy g (setting g globals fs code.main) (LostAt g globals fs code.main) code.main code.main o 0) (sym is) (refl, refl)))
  main_is (Some fn) is = (fn, is)

  start_holds : (input : List ℕ) → Holds g globals (start code.initial globals input).world
  start_holds input =
      let placed = globals_placed g globals (omega (arith, low)) globals_are in
      record { live = refl; safe = tt; placed = placed; placed_ever = placed; within = λ s x. x; stack = (let z : HEAP_START ≤ HEAP_START = omega arith in z) }

  pub run_safe : (input : List ℕ) → IsSafeRun g code globals frames input m (point_of (flat_run g code globals frames input m)).world
  unfolding and_then
  run_safe input =
      let fn = main_is (slice_get fs code.main) refl in
      let none_ : fn.0.params ≡ 0 = (fits_of code.main fn.0 fn.1).main refl in
      let r = calls_safe m code.main fn.0 [] (start code.initial globals input) fn.1 (sym none_) (start_holds input) (λ k a e nt. absurd (none_in k a e)) in
      let h = landed (calls g frames m fs m code.main [] (start code.initial globals input)) r.1 in
      record { safe = h.safe; live = h.live; steps = r.0 }
    where
      none_in : (k a : ℕ) → slice_get {X = ℕ} [] k ≡ Some a → ⊥
      none_in k a e = let z : ⊥ = cc in z

      landed : (r : Run ℕ) → CallLands g globals fs laws code.main (start code.initial globals input) r → Holds g globals (point_of (and_then r exited)).world
      landed (Answer.Goes word t) l = l.next.holds
      landed (Answer.Ends e t) l = l

pub disciplined_is_safe : Laws → DisciplinedIsSafe
disciplined_is_safe laws g code globals frames input m low high globals_are frames_are disciplined = run_safe g globals code laws frames m low high globals_are frames_are disciplined input
