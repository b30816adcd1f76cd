-- Calls of flat code follow those of mid code, and so do whole programs.
use Rattle.std.specs.Prelude.{◌==◌, if◌then◌else◌, nat_le, nat_lt, option_map, reverse}
use Rattle.std.proofs.Common.{◌≡◌, ℕ, zero, suc, ◌+◌, ◌*◌, ◌<◌, ◌≤◌, Bool, true, false, List, [], ◌∷◌, length, map, All, Option, Some, None, slice_get, refl, sym, ap, ◌∙◌, subst, arith}
use Rattle.std.proofs.lemmas.Option.{slice_get-map}
use Rattle.std.proofs.lemmas.Bool.Decides.{nat_tests}
use Rattle.std.proofs.Math.Dec.{eqb-suc-zero}
use Rattle.std.proofs.lemmas.List.Elements.{All-nil}
use Rattle.std.proofs.lemmas.Option.{none-some}
use Rattle.bb_words.specs.Answers.{Answer, Goes, Ends, and_then}
use Rattle.bb_words.specs.declared.kinds.ReportKind.TheVariants.{Depth, Stack}
use Rattle.size_table.specs.declared.memory_map.TheConstants.{MOST_CALLS, STACK_START, HEAP_START}
use Rattle.size_table.specs.Made.{blocks_from}
use Rattle.block_layout.specs.Layout.{Placed, AreSmall, layout, stack_under}
use Rattle.source_meaning.specs.declared.values.Value.{Value}
use Rattle.source_meaning.specs.declared.values.Value.TheVariants.{Num, Ptr}
use Rattle.source_meaning.specs.declared.values.Ending.TheVariants.{Reported, Cut}
use Rattle.source_meaning.specs.Objects.{Object}
use Rattle.source_meaning.specs.Worlds.{live_blocks}
use Rattle.source_meaning.specs.Accounts.{entered_at}
use Rattle.source_meaning.specs.Start.{first_cells, laid_out, start_world}
use Rattle.mid_code.specs.Code.{Function, Program}
use Rattle.mid_code.specs.Meaning.{Came, Point, Goings, Way, On, Out, Back, done_at, doing, at_world, Watch, unwatched, acts}
use Rattle.mid_code.specs.Meaning as mid
use Rattle.mid_code.specs.Times as times
use Rattle.mid_code.specs.Runs.{parameters, handed, return_to, names_in, call_function, call_if_any, call_past, calls, first_point, exit_with, outcome_of}
use Rattle.mid_code.specs.Runs as runs
use Rattle.flat_code.specs.Code.{FSteps, FFunction}
use Rattle.flat_code.specs.Told.{AllBy}
use Rattle.flat_code.specs.World.{arguments, FWorld, FPoint, point, choose, Ending, Run}
use Rattle.flat_code.specs.World as flat
use Rattle.flat_code.specs.Accounts as accounts
use Rattle.flat_code_laws.specs.Laws.{StepsAdvance, ProgramsAdvance}
use Rattle.flat_code.specs.Run.{ends, act_all, returned, body_with, framed, framed_if, counted, library, defined, call_none, call_one, start, exited, flat_run}
use Rattle.flat_code.specs.Run as run
use Rattle.injection.specs.Words.{word_of_value}
use Rattle.injection.specs.Memory.{IsValue, IsCell}
use Rattle.injection.specs.Trail.{SafeSites}
use Rattle.bounds_instr_code.specs.Code.{code, global_blocks, frame_of, function_code, frames_of, instrumented}
use Rattle.bounds_instr_keeps.specs.Keeps.{OutcomeAlike, Keeps}
use Rattle.bounds_instr_keeps.proofs.Follow.{Follows, Grows, grows_on, grows_end, grows_then, follows_then, follows_goes, to_equal}
use Rattle.bounds_instr_keeps.proofs.Meets.{by_later, Frame, Agrees, agrees_spend, Meets, unchanged, stopped, left, Left, WaysAlike, Gave, Enters}
use Rattle.bounds_instr_code.proofs.Fits.{FunctionFits}
use Rattle.bounds_instr_keeps.proofs.Steps.{Laws, Matches, steps_follow}
use Rattle.bounds_instr_keeps.proofs.Frames.{FrameLaws, ends_quiet, enters_frame, leaves_frame, accounts_after, inner}

assoc : {E S A B C : Type 0} (r : Answer E S A) (f : A → S → Answer E S B) (h : B → S → Answer E S C) → and_then (and_then r f) h ≡ and_then r (λ a s. and_then (f a s) h)
unfolding and_then
assoc (Goes a s) f h = refl
assoc (Ends e s) f h = refl

-- ---- A call

module _ (laws : Laws) (frame_laws : FrameLaws) (g : ℕ) (big : 1 ≤ g) (small : g ≤ 24) (safe : SafeSites) where
  module _ (fr : Frame) (f : Function) (s : ℕ) (smalls : AreSmall f.blocks) (xs : List Value) (v0 : Point) (u0 : FPoint) (formed : All (IsValue g v0.world.objects) xs) (h : Enters g safe fr s v0 u0) (body : Point → Goings Way) (flat_body : FPoint → Run flat.Way) (grows : (u : FPoint) → Grows u (flat_body u)) where
    abbrev v1 : Point
    v1 = mid.spend (128 + 3 * f.values) v0

    abbrev u1 : FPoint
    u1 = point u0.words (flat.spend (96 + 3 * (f.values + 5)) u0.world)

    abbrev base : ℕ
    base = stack_under g v0.world.stack f.blocks

    abbrev words : List ℕ
    words = map (word_of_value v0.world.objects) xs

    agrees1 : Agrees g safe fr v0.world (flat.spend (96 + 3 * (f.values + 5)) u0.world)
    agrees1 = agrees_spend g safe fr v0.world u0.world (96 + 3 * (f.values + 5)) h.agrees

    paid1 : u0.world.time + (96 + 3 * (f.values + 5)) + s ≤ v0.time + (128 + 3 * f.values)
    paid1 = omega (arith, h.paid)

    by1 : AllBy (v0.time + (128 + 3 * f.values)) u0.world.told
    by1 = by_later v0.time (v0.time + (128 + 3 * f.values)) u0.world.told (omega arith) h.by

    -- back in the caller
    abbrev back : ℕ → FPoint → Run ℕ
    back word t = Goes word (point t.words (accounts.leave (frame_of g f) u1.world t.world))

    abbrev with_words : ℕ → FPoint → Run ℕ
    with_words word t = Goes word (point u0.words t.world)

    abbrev out : flat.Way → FPoint → Run ℕ
    out way t = and_then (returned way t) (λ word r. and_then (with_words word r) back)

    back_grows : (word : ℕ) (t : FPoint) → Grows t (back word t)
    back_grows word t = let q = ends_quiet (reverse (blocks_from t.world.stack (frame_of g f))) t.world in record { told = record { rest = q.rest; is = q.told } }

    out_grows : (way : flat.Way) (t : FPoint) → Grows t (out way t)
    out_grows way t = grows_then t (returned way t) (λ word r. and_then (with_words word r) back) (of way) (λ word r. grows_then r (with_words word r) back (grows_on r word (point u0.words r.world) refl) back_grows)
      where
        of : (way : flat.Way) → Grows t (returned way t)
        of flat.Way.On = grows_on t _ t refl
        of (flat.Way.Out n) = grows_end t _ t refl
        of (flat.Way.Back w) = grows_on t _ t refl

    module _ (room : STACK_START ≤ stack_under g v0.world.stack f.blocks) (follows : (v : Point) (u : FPoint) → Meets g safe (inner frame_laws g safe big small fr f smalls (mid.spend (128 + 3 * f.values) v0) (point u0.words (flat.spend (96 + 3 * (f.values + 5)) u0.world))) s v u → Follows safe (Left g safe (inner frame_laws g safe big small fr f smalls (mid.spend (128 + 3 * f.values) v0) (point u0.words (flat.spend (96 + 3 * (f.values + 5)) u0.world))) 0 s) (body v) (flat_body u)) where
      abbrev in_frame : Frame
      in_frame = inner frame_laws g safe big small fr f smalls v1 u1

      comes_back : (way : Way) (w : Point) (o : flat.Way) (t : FPoint) → WaysAlike g 0 w.world.objects way o → Meets g safe in_frame s w t → Follows safe (Gave g safe fr s) (Goes (handed way) (return_to f v0 w)) (out o t)
      unfolding and_then
      comes_back On w flat.Way.On t e l =
          follows_goes safe (Gave g safe fr s) (Num 0) (return_to f v0 w) 0 (point u0.words (accounts.leave (frame_of g f) u1.world t.world))
          (record { formed = (let q : 0 < 4294967296 = omega arith in q); word = refl; meets = leaves_frame frame_laws g safe big small fr f smalls v1 u1 s agrees1 h.values room w t l })
      comes_back On w (flat.Way.Out n) t e l = absurd e
      comes_back On w (flat.Way.Back x) t e l = absurd e
      comes_back (Out n) w flat.Way.On t e l = absurd e
      comes_back (Out n) w (flat.Way.Out k) t e l = absurd (omega (arith, e.0, e.1))
      comes_back (Out n) w (flat.Way.Back x) t e l = absurd e
      comes_back (Back x) w flat.Way.On t e l = absurd e
      comes_back (Back x) w (flat.Way.Out k) t e l = absurd e
      comes_back (Back x) w (flat.Way.Back y) t e l =
          let kept = frame_laws.keep.values g w.world.objects (return_to f v0 w).world.objects x (accounts_after frame_laws g safe big small fr f smalls v1 u1 s agrees1 h.values room w t l) e.0 in
          follows_goes safe (Gave g safe fr s) x (return_to f v0 w) y (point u0.words (accounts.leave (frame_of g f) u1.world t.world))
          (record { formed = kept.0; word = e.1 ∙ sym kept.1; meets = leaves_frame frame_laws g safe big small fr f smalls v1 u1 s agrees1 h.values room w t l })

      inside : Follows safe (Gave g safe fr s) (and_then (body (record (at_world (entered_at base (layout g f.blocks) v0.world) v1) { values = parameters xs })) (λ way t. Goes (handed way) (return_to f v0 t))) (and_then (body_with flat_body words (point u0.words (accounts.enter base (frame_of g f) u1.world))) back)
      inside =
          let p = point (arguments words) (accounts.enter base (frame_of g f) u1.world) in
          to_equal safe (Gave g safe fr s) _ _ (and_then (flat_body p) out)
          (assoc (and_then (flat_body p) returned) with_words back ∙ assoc (flat_body p) returned (λ word r. and_then (with_words word r) back))
          (follows_then safe (Left g safe in_frame 0 s) (Gave g safe fr s) (body (record (at_world (entered_at base (layout g f.blocks) v0.world) v1) { values = parameters xs })) (flat_body p) (λ way t. Goes (handed way) (return_to f v0 t)) out
          (follows _ p (enters_frame frame_laws g safe big small fr f smalls v1 u1 s xs room formed agrees1 paid1 by1))
          out_grows (λ way w o t l. comes_back way w o t l.ways l.meets))

    same_base : accounts.stack_under g u0.world.stack (frame_of g f) ≡ stack_under g v0.world.stack f.blocks
    same_base = ap (λ z. accounts.stack_under g z (frame_of g f)) h.agrees.world.stacks ∙ (frame_laws.frames g v0.world.stack f.blocks big small h.agrees.world.heights.top smalls).number

    abbrev K : Unit {0} → Point → Goings Value
    K entered u = and_then (body (record u { values = parameters xs })) (λ way t. Goes (handed way) (return_to f v0 t))

    module _ (follows : (v : Point) (u : FPoint) → Meets g safe (inner frame_laws g safe big small fr f smalls (mid.spend (128 + 3 * f.values) v0) (point u0.words (flat.spend (96 + 3 * (f.values + 5)) u0.world))) s v u → Follows safe (Left g safe (inner frame_laws g safe big small fr f smalls (mid.spend (128 + 3 * f.values) v0) (point u0.words (flat.spend (96 + 3 * (f.values + 5)) u0.world))) 0 s) (body v) (flat_body u)) where
      by_room : (b : Bool) → nat_lt base STACK_START ≡ b → Follows safe (Gave g safe fr s) (and_then (done_at v1 (if b then Ends (Reported Stack f.line) v0.world else Goes tt (entered_at base (layout g f.blocks) v0.world))) K) (choose b (ends (Ending.Reported Stack f.line)) (λ t. and_then (body_with flat_body words (point t.words (accounts.enter (accounts.stack_under g t.world.stack (frame_of g f)) (frame_of g f) t.world))) (λ word r. Goes word (point r.words (accounts.leave (frame_of g f) t.world r.world)))) u1)
      unfolding and_then
      by_room true e = record { by = record { point = u1; is = refl; says = agrees1.world.says; time = omega (arith, paid1) } }
      by_room false e =
          to_equal safe (Gave g safe fr s) _ _ _ (ap (λ z. and_then (body_with flat_body words (point u0.words (accounts.enter z (frame_of g f) u1.world))) back) same_base)
          (inside (grind (arith, nat_tests, e)) follows)

      by_depth : (b : Bool) → Follows safe (Gave g safe fr s) (and_then (done_at v1 (if b then Ends (Reported Depth f.line) v0.world else if nat_lt base STACK_START then Ends (Reported Stack f.line) v0.world else Goes tt (entered_at base (layout g f.blocks) v0.world))) K) (choose b (ends (Ending.Reported Depth f.line)) (λ u. framed g f.line flat_body words (frame_of g f) (point u.words (flat.spend (96 + 3 * (f.values + 5)) u.world))) u0)
      unfolding and_then
      by_depth true = record { by = record { point = u0; is = refl; says = h.agrees.world.says; time = omega (arith, h.paid) } }
      by_depth false =
          to_equal safe (Gave g safe fr s) _ _ _ (ap (λ z. choose (nat_lt z STACK_START) (ends (Ending.Reported Stack f.line)) (λ t. and_then (body_with flat_body words (point t.words (accounts.enter (accounts.stack_under g t.world.stack (frame_of g f)) (frame_of g f) t.world))) (λ word r. Goes word (point r.words (accounts.leave (frame_of g f) t.world r.world)))) u1) same_base)
          (by_room (nat_lt base STACK_START) refl)

      pub called : Follows safe (Gave g safe fr s) (call_function g f body xs v0) (counted f.line (λ u. framed g f.line flat_body words (frame_of g f) (point u.words (flat.spend (96 + 3 * (f.values + 5)) u.world))) u0)
      called =
          to_equal safe (Gave g safe fr s) _ _ _ (ap (λ z. choose (nat_le MOST_CALLS z) (ends (Ending.Reported Depth f.line)) (λ u. framed g f.line flat_body words (frame_of g f) (point u.words (flat.spend (96 + 3 * (f.values + 5)) u.world))) u0) h.agrees.world.depths)
          (by_depth (nat_le MOST_CALLS v0.world.depth))

-- ---- Calls

not_zero : (n : ℕ) → 1 ≤ n → (n == 0) ≡ false
not_zero zero h = absurd (omega (arith, h))
not_zero (suc n) h = eqb-suc-zero n

module _ (laws : Laws) (frame_laws : FrameLaws) (steps : StepsAdvance) (programs : ProgramsAdvance) (g : ℕ) (big : 2 ≤ g) (small : g ≤ 24) (safe : SafeSites) (checked : (site : ℕ) → safe site ≡ false) (watch : Watch) (p : Program) (m : ℕ) (fits : (i : ℕ) (f : Function) → slice_get p.functions i ≡ Some f → FunctionFits p f) where
  least : 1 ≤ g
  least = omega (arith, big)

  abbrev functions : List FFunction
  functions = map (function_code g) p.functions

  abbrev flat_calls : (n : ℕ) → run.Calls
  flat_calls n = run.calls g (frames_of g p) m functions n

  acts_grow : (n frame : ℕ) (xs : FSteps) (u : FPoint) → Grows u (act_all g (flat_calls n) m frame xs u)
  acts_grow n frame xs u = record { told = (steps g (flat_calls n) m frame (programs g (frames_of g p) m functions n) xs u).told }

  cut_here : (fr : Frame) (s : ℕ) (v : Point) (u : FPoint) → Enters g safe fr s v u → Follows {A = Value} {B = ℕ} safe (Gave g safe fr s) (Ends (Came Cut) v) (ends Ending.Cut u)
  cut_here fr s v u h = record { by = record { point = u; is = refl; says = h.agrees.world.says; by = h.by } }

  past : (fr : Frame) (s i : ℕ) (xs : List Value) (v : Point) (u : FPoint) → Enters g safe fr s v u → (o : Option Function) → slice_get p.functions i ≡ o → Follows safe (Gave g safe fr s) (call_past o v) (call_none g (frames_of g p) m functions (option_map (function_code g) o) i (map (word_of_value v.world.objects) xs) u)
  past fr s i xs v u h None e = cut_here fr s v u h
  past fr s i xs v u h (Some f) e =
      to_equal safe (Gave g safe fr s) _ _ _
      (ap (λ b. choose b (library g (frames_of g p) m (function_code g f) (map (word_of_value v.world.objects) xs)) (counted f.line (ends Ending.Cut)) u) (not_zero f.line (fits i f e).line)
      ∙ ap (λ z. choose (nat_le MOST_CALLS z) (ends (Ending.Reported Depth f.line)) (ends Ending.Cut) u) h.agrees.world.depths)
      (of (nat_le MOST_CALLS v.world.depth))
    where
      of : (b : Bool) → Follows safe (Gave g safe fr s) (if b then Ends (Came (Reported Depth f.line)) (mid.spend (times.call_charge f) v) else Ends (Came Cut) v) (choose b (ends (Ending.Reported Depth f.line)) (ends Ending.Cut) u)
      of true = record { by = record { point = u; is = refl; says = h.agrees.world.says; time = omega (arith, h.paid) } }
      of false = cut_here fr s v u h

  pub matches : (n : ℕ) → Matches g safe (calls g watch p m n) (run.calls g (frames_of g p) m (map (function_code g) p.functions) n)
  matches zero fr s i xs v u formed h =
      to_equal safe (Gave g safe fr s) _ _ _ (ap (λ o. call_none g (frames_of g p) m functions o i (map (word_of_value v.world.objects) xs) u) (slice_get-map (function_code g) p.functions i))
      (past fr s i xs v u h (slice_get p.functions i) refl)
  matches (suc n) fr s i xs v u formed h =
      to_equal safe (Gave g safe fr s) _ _ _ (ap (λ o. call_one g (frames_of g p) m functions (flat_calls n) o i (map (word_of_value v.world.objects) xs) u) (slice_get-map (function_code g) p.functions i))
      (of (matches n) (slice_get p.functions i) refl)
    where
      of : Matches g safe (calls g watch p m n) (run.calls g (frames_of g p) m (map (function_code g) p.functions) n) → (o : Option Function) → slice_get p.functions i ≡ o → Follows safe (Gave g safe fr s) (call_if_any g o (λ f caller. acts g watch (calls g watch p m n) m (names_in g p f caller) f.body) xs v) (call_one g (frames_of g p) m (map (function_code g) p.functions) (run.calls g (frames_of g p) m (map (function_code g) p.functions) n) (option_map (function_code g) o) i (map (word_of_value v.world.objects) xs) u)
      of match None e = cut_here fr s v u h
      of match (Some f) e =
          let fit = fits i f e in
          let frame : slice_get (frames_of g p) i ≡ Some (frame_of g f) = slice_get-map (frame_of g) p.functions i ∙ ap (option_map (frame_of g)) e in
          let body = λ (w : FPoint). act_all g (flat_calls n) m (function_code g f).frame (code g f.values f.body) w in
          to_equal safe (Gave g safe fr s) _ _ _
          (ap (λ b. choose b (library g (frames_of g p) m (function_code g f) (map (word_of_value v.world.objects) xs)) (counted f.line (defined g (frames_of g p) m (flat_calls n) i (function_code g f) (map (word_of_value v.world.objects) xs))) u) (not_zero f.line fit.line)
          ∙ ap (λ o. counted f.line (λ (w : FPoint). framed_if g f.line body (map (word_of_value v.world.objects) xs) o (point w.words (flat.spend (96 + 3 * (f.values + 5)) w.world))) u) frame)
          (called laws frame_laws g least small safe fr f s fit.blocks xs v u formed h (λ w. acts g watch (calls g watch p m n) m (names_in g p f v) f.body w) body (acts_grow n (function_code g f).frame (code g f.values f.body))
          (λ w t l. steps_follow laws g big small safe checked (inner frame_laws g safe least small fr f fit.blocks (mid.spend (128 + 3 * f.values) v) (point u.words (flat.spend (96 + 3 * (f.values + 5)) u.world))) watch (calls g watch p m n) (names_in g p f v) (flat_calls n) m (function_code g f).frame p match (acts_grow n (function_code g f).frame) f.body 0 s w t fit.body l))

-- ---- Whole programs

-- a run of a program ends
abbrev pub Never : Unit {0} → Point → Unit {0} → FPoint → Type 0
Never a v b u = ⊥

exits : (g : ℕ) (safe : SafeSites) (fr : Frame) (s : ℕ) (x : Value) (v : Point) (w : ℕ) (u : FPoint) → Gave g safe fr s x v w u → Follows safe Never (exit_with x v) (exited w u)
exits g safe fr s (Num n) v w u l =
    to_equal safe Never (exit_with (Num n) v) (exited w u) (exited n u) (ap (λ z. exited z u) l.word)
    (record { by = stopped g safe fr (Ending.Exited n) s (at_world v.world v) u (unchanged g safe fr s v u l.meets) })
exits g safe fr s (Ptr q) v w u l =
    record { by = left g safe fr s (at_world v.world v) u (exited w u) (grows_end u _ u refl) (unchanged g safe fr s v u l.meets) }

-- a program without global objects starts
module _ (laws : FrameLaws) (g : ℕ) (big : 1 ≤ g) (small : g ≤ 24) (safe : SafeSites) where
  no_plan : (plan : List Placed) → length plan ≡ 0 → plan ≡ []
  no_plan [] e = refl
  no_plan (x ∷ plan) e = absurd (omega (arith, e))

  abbrev outer : Frame
  outer = record { values = 0; objects = []; stack = HEAP_START }

  starts_empty : (named : ℕ) (input : List ℕ) → All (λ b. b < 256) input → Enters g safe (record { values = 0; objects = []; stack = HEAP_START }) 0 (record { world = laid_out named [] [] input; values = λ i. Num 0; time = 0 }) (start [] [] input)
  starts_empty named input bytes = record {
    agrees = record {
      world = record {
        injects = record {
          out = record { accounts = λ k o e. absurd (no_object k o e); apart = λ j k o p a b ne. absurd (no_object j o a.there) };
          cells = λ k i. empty_cell named k i;
          holds = record { bytes = λ k o i a lt. absurd (no_object k o a.there) };
        };
        blocks = refl;
        depths = refl;
        stacks = refl;
        inputs = refl;
        says = record { said = refl; went = refl };
        named = tt;
        heights = record { by = λ k o a. absurd (no_object k o a.there); top = omega arith };
        regions = record { heap = λ k o a e. absurd (no_object k o a.there); others = λ k o a e. absurd (no_object k o a.there) };
      };
      accounted = laws.compose.accounted_same [];
      stays = laws.compose.stays_same [];
      since = laws.compose.since_same [];
      own = refl;
      bytes = bytes;
    };
    values = record { each = λ i lt. absurd (omega (arith, lt)); formed = λ i lt. absurd (omega (arith, lt)) };
    paid = omega arith;
    by = tt;
  }
    where
      no_object : (k : ℕ) (o : Object) → slice_get [] k ≡ Some o → ⊥
      no_object k o e = none-some _ e

      empty_cell : (named k i : ℕ) → IsCell g [] (first_cells named [] [] k i)
      empty_cell named k i = omega arith

  starts : (p : Program) (input : List ℕ) → p.globals ≡ [] → All (λ b. b < 256) input → Enters g safe outer 0 (first_point g p input) (start [] (global_blocks g p) input)
  starts p input e bytes =
      subst (λ gs. Enters g safe outer 0 (record { world = start_world g p.named gs input; values = λ i. Num 0; time = 0 }) (start [] (live_blocks (start_world g p.named gs []).objects) input)) (sym e)
      (subst (λ plan. Enters g safe outer 0 (record { world = laid_out p.named [] plan input; values = λ i. Num 0; time = 0 }) (start [] (live_blocks (laid_out p.named [] plan []).objects) input)) (sym (no_plan (layout g []) (laws.frames g 0 [] big small (omega arith) tt).count))
      (starts_empty p.named input bytes))

outcome_is : (safe : SafeSites) (r : Goings (Unit {0})) (q : Run (Unit {0})) → Follows safe Never r q → OutcomeAlike safe (outcome_of r) q
outcome_is safe (Goes a v) q h = absurd h.by.3
outcome_is safe (Ends e v) q h = h.by

pub keeps : (laws : Laws) (frame_laws : FrameLaws) (steps : StepsAdvance) (programs : ProgramsAdvance) (g : ℕ) (big : 2 ≤ g) (small : g ≤ 24) (safe : SafeSites) (checked : (site : ℕ) → safe site ≡ false) (p : Program) → p.globals ≡ [] → ((i : ℕ) (f : Function) → slice_get p.functions i ≡ Some f → FunctionFits p f) → Keeps g safe p (instrumented g p)
keeps laws frame_laws steps programs g big small safe checked p no_globals fits input m bytes =
    outcome_is safe (runs.mid g unwatched p input m) (flat_run g (instrumented g p) (global_blocks g p) (frames_of g p) input m)
    (follows_then safe (Gave g safe fr 0) Never (calls g unwatched p m m p.main [] (first_point g p input)) (run.calls g (frames_of g p) m (map (function_code g) p.functions) m p.main [] (start [] (global_blocks g p) input)) exit_with exited
    (matches laws frame_laws steps programs g big small safe checked unwatched p m fits m fr 0 p.main [] (first_point g p input) (start [] (global_blocks g p) input) (All-nil (IsValue g (first_point g p input).world.objects)) (starts frame_laws g (omega (arith, big)) small safe p input no_globals bytes))
    (λ w t. grows_end t _ t refl) (λ x v w u l. exits g safe fr 0 x v w u l))
  where
    fr : Frame
    fr = record { values = 0; objects = []; stack = HEAP_START }
