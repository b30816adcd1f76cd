-- The span sequence touches the first byte of a range, moves to the last, and touches it.
use Rattle.std.proofs.Common.{◌≡◌, ◌≢◌, ℕ, ◌+◌, ◌-◌, ◌%◌, ◌^◌, ◌<◌, ◌≤◌, [], ◌∷◌, Option, Some, None, Bool, true, false, cond, refl, sym, ap, ◌∙◌, subst, arith, nat_lt}
use Rattle.std.specs.Prelude.{◌==◌}
use Rattle.std.proofs.lemmas.Bool.Decides.{nat_tests}
use Rattle.bb_words.specs.Answers.{Answer, and_then}
use Rattle.bb_words.specs.Steps.{arith as arith_of}
use Rattle.bb_words.specs.declared.kinds.ReportKind.TheVariants.{Bounds}
use Rattle.bb_words.specs.declared.steps.ArithOp.TheVariants as op
use Rattle.bb_words.specs.declared.steps.Width.TheVariants as width
use Rattle.marked_ptr.specs.Marked.{owner_slot, moved}
use Rattle.marked_ptr.specs.Laws.{MovesByTests}
use Rattle.marked_ptr.specs.declared.answer.MoveAnswer.{MoveAnswer}
use Rattle.marked_ptr.specs.declared.answer.MoveAnswer.TheVariants.{Inside, Marked, Report as Refused}
use Rattle.size_table.specs.Table.{byte_of}
use Rattle.flat_code.specs.Code.{FSteps, none, more, ◌+++◌, steps}
use Rattle.flat_code.specs.Code.FStep.{Number, Arith, If, Load}
use Rattle.flat_code.specs.Told.{Tell}
use Rattle.flat_code.specs.World.{Words, with_word, read, FWorld, FPoint, point, spend, tell, choose, Ending, Run, Way, onward}
use Rattle.flat_code.specs.Time.{charge}
use Rattle.flat_code.specs.Run.{goes, refusal, unless_refused, loaded, Calls, act, act_all}
use Rattle.flat_code.specs.Sequences.{report, move_sequence, touch_steps, span_sequence, SpanApart, accessed, WentOn, DoesMove, move_time, span_begin, SpanKept, first_touched, LastTouched, DoesSpan}
use Rattle.flat_code_laws.specs.Laws.{Spans}
use Rattle.flat_code_laws.proofs.Words.{set_same, set_other, arith_is, takes_first, takes_second}
use Rattle.flat_code_laws.proofs.Move.{move_does}

-- one list of steps and then another
pub all_append : (g : ℕ) (call : Calls) (m frame : ℕ) (xs ys : FSteps) (u : FPoint) → act_all g call m frame (xs +++ ys) u ≡ and_then (act_all g call m frame xs u) (λ way t. onward way t (act_all g call m frame ys))
unfolding and_then
all_append g call m frame none ys u = refl
all_append g call m frame (more x xs) ys u = by (λ t. all_append g call m frame xs ys t) (act g call m frame x (point u.words (spend (charge x) u.world)))
  where
    by : ((t : FPoint) → act_all g call m frame (xs +++ ys) t ≡ and_then (act_all g call m frame xs t) (λ way t. onward way t (act_all g call m frame ys))) → (r : Run Way)
        → and_then r (λ way t. onward way t (act_all g call m frame (xs +++ ys))) ≡ and_then (and_then r (λ way t. onward way t (act_all g call m frame xs))) (λ way t. onward way t (act_all g call m frame ys))
    by h (Answer.Goes Way.On t) = h t
    by h (Answer.Goes (Way.Out n) t) = refl
    by h (Answer.Goes (Way.Back n) t) = refl
    by h (Answer.Ends o t) = refl

module _ (g : ℕ) (call : Calls) (m frame p n q line d s e : ℕ) (apart : SpanApart p n q line d s e) (u : FPoint) where
  abbrev go : FSteps → Words → FWorld → Run Way
  go xs v x = act_all g call m frame xs (point v x)

  abbrev then_go : Run Way → FSteps → Run Way
  then_go r xs = and_then r (λ way t. onward way t (act_all g call m frame xs))

  abbrev next : Words → FWorld → Run Way
  next v x = Answer.Goes Way.On (point v x)

  abbrev P : ℕ
  P = u.words p

  abbrev N : ℕ
  N = u.words n

  abbrev v1 : Words
  v1 = with_word u.words d 0x0100_0001

  abbrev v2 : Words
  v2 = with_word v1 d (arith_of op.Ltu (v1 n) (v1 d))

  -- the word n, and what the test of it gave
  still : (v : ℕ) → v ≢ d → v2 v ≡ u.words v
  still v h = set_other v1 d v _ h ∙ set_other u.words d v _ h

  test_is : (t : Bool) → nat_lt N 0x0100_0001 ≡ t → v2 d ≡ cond t 1 0
  test_is t h =
      set_same v1 d d _ refl
      ∙ arith_is op.Ltu v1 n d N 0x0100_0001 _ (set_other u.words d n _ apart.np) (set_same u.words d d _ refl) (ap (λ (b : Bool). cond b 1 0) h)

  abbrev w14 : FWorld
  w14 = spend 6 (spend 5 (spend 3 u.world))

  abbrev w20 : FWorld
  w20 = spend 6 w14

  twenty : w20 ≡ spend span_begin u.world
  twenty = ap (λ t. record u.world { time = t }) (let z : u.world.time + 3 + 5 + 6 + 6 ≡ u.world.time + 20 = omega arith in z)

  abbrev reports : FPoint → Run Way
  reports = act_all g call m frame (report Bounds line)

  abbrev touches : FPoint → Run Way
  touches = act_all g call m frame (touch_steps g p n q line d s e)

  abbrev nothing : FPoint → Run Way
  nothing = act_all g call m frame none

  abbrev second : FSteps
  second = steps (If n (touch_steps g p n q line d s e) none ∷ [])

  abbrev whole : Run Way
  whole = act_all g call m frame (span_sequence g p n q line d s e) u

  small : N ≤ 0x0100_0000 → nat_lt N 0x0100_0001 ≡ true
  small h = grind (arith, nat_tests)

  large : 0x0100_0000 < N → nat_lt N 0x0100_0001 ≡ false
  large h = grind (arith, nat_tests)

  passes : N ≤ 0x0100_0000 → whole ≡ then_go (choose (v2 n == 0) nothing touches (point v2 w20)) none
  unfolding and_then
  passes h = ap (λ r. then_go r second) (takes_first (v2 d) 0 (point v2 w14) nothing reports (test_is true (small h)))

  of_nothing : N ≡ 0 → (words : Words) × (whole ≡ next words (spend span_begin u.world)) × SpanKept q d s e u.words words
  unfolding and_then
  of_nothing h = (
    v2,
    passes (omega (arith, h)) ∙ ap (λ r. then_go r none) (takes_second (v2 n) (point v2 w20) touches nothing (still n apart.np ∙ h)) ∙ ap (next v2) twenty,
    λ v a b c f. still v b,
  )

  is_too_long : 0x0100_0000 < N → (words : Words) × (whole ≡ Answer.Ends (Ending.Reported Bounds (u.words line)) (point words (spend 18 u.world)))
  unfolding and_then
  is_too_long h = (
    v2,
    ap (λ r. then_go r second) (takes_second (v2 d) (point v2 w14) nothing reports (test_is false (large h)))
        ∙ ap (λ x. Answer.Ends (Ending.Reported Bounds x) (point v2 (spend 4 w14))) (still line (λ z. apart.dl (sym z)))
        ∙ ap (λ t. Answer.Ends (Ending.Reported Bounds (u.words line)) (point v2 (record u.world { time = t }))) (let z : u.world.time + 3 + 5 + 6 + 4 ≡ u.world.time + 18 = omega arith in z),
  )

  begins : 1 ≤ N → N ≤ 0x0100_0000 → whole ≡ then_go (touches (point v2 w20)) none
  unfolding and_then
  begins l h = passes h ∙ ap (λ r. then_go r none) (takes_first (v2 n) (N - 1) (point v2 w20) touches nothing (still n apart.np ∙ omega (arith, l)))

  abbrev load_first : FPoint → Run Way
  load_first t = goes (loaded d (v2 p) width.Byte t)

  at_p : v2 p ≡ P
  at_p = still p (λ z. apart.dp (sym z))

  fails : (ending : Ending) → 1 ≤ N → N ≤ 0x0100_0000 → refusal P 1 ≡ Some ending → (words : Words) × (whole ≡ Answer.Ends ending (point words (spend 23 u.world)))
  unfolding and_then
  fails ending l h ref = (
    v2,
    begins l h
        ∙ ap (λ o. then_go (then_go (unless_refused o load_first (point v2 (spend 3 w20))) rest) none) (ap (λ a. refusal a 1) at_p ∙ ref)
        ∙ ap (λ t. Answer.Ends ending (point v2 (record u.world { time = t }))) (let z : u.world.time + 3 + 5 + 6 + 6 + 3 ≡ u.world.time + 23 = omega arith in z),
  )
    where
      rest : FSteps
      rest = steps (Number d 0xffff_ffff ∷ Arith d op.Add n d ∷ []) +++ (move_sequence g p d q line s e +++ steps (Load d q width.Byte ∷ []))

  -- ---- The touch of the first byte, the move, and that of the last

  abbrev w23 : FWorld
  w23 = accessed (v2 p) 1 w20

  abbrev v3 : Words
  v3 = with_word v2 d (read width.Byte u.world.memory (v2 p))

  abbrev v4 : Words
  v4 = with_word v3 d 0xffff_ffff

  abbrev v5 : Words
  v5 = with_word v4 d (arith_of op.Add (v4 n) (v4 d))

  abbrev w31 : FWorld
  w31 = spend 5 (spend 3 w23)

  abbrev end_steps : FSteps
  end_steps = steps (Load d q width.Byte ∷ [])

  after_still : (v : ℕ) → v ≢ d → v5 v ≡ u.words v
  after_still v h = set_other v4 d v _ h ∙ set_other v3 d v _ h ∙ set_other v2 d v _ h ∙ still v h

  distance : 1 ≤ N → N ≤ 0x0100_0000 → v5 d ≡ N - 1
  distance l h =
      set_same v4 d d _ refl
      ∙ arith_is op.Add v4 n d N 0xffff_ffff _ (set_other v3 d n _ apart.np ∙ set_other v2 d n _ apart.np ∙ still n apart.np) (set_same v3 d d _ refl) (let z : (N + 0xffff_ffff) % 2 ^ 32 ≡ N - 1 = omega (arith, l, h) in z)

  to_move : 1 ≤ N → N ≤ 0x0100_0000 → refusal P 1 ≡ None → whole ≡ then_go (then_go (go (move_sequence g p d q line s e) v5 w31) end_steps) none
  unfolding and_then
  to_move l h ref =
      begins l h
      ∙ ap (λ (a : ℕ). then_go (then_go (unless_refused (refusal a 1) load_first (point v2 (spend 3 w20))) rest) none) at_p
      ∙ ap (λ (o : Option Ending). then_go (then_go (unless_refused o load_first (point v2 (spend 3 w20))) rest) none) ref
      ∙ ap (λ r. then_go r none) (all_append g call m frame (move_sequence g p d q line s e) end_steps (point v5 w31))
    where
      rest : FSteps
      rest = steps (Number d 0xffff_ffff ∷ Arith d op.Add n d ∷ []) +++ (move_sequence g p d q line s e +++ steps (Load d q width.Byte ∷ []))

  world_is : (k : ℕ) → spend k w31 ≡ spend (8 + k) (first_touched p u)
  world_is k =
      let f : FWorld = first_touched p u in
      ap (λ a. spend k (spend 5 (spend 3 (accessed a 1 w20)))) at_p
      ∙ ap (λ y. spend k (spend 5 (spend 3 (accessed P 1 y)))) twenty
      ∙ ap (λ t. record f { time = t }) (let z : f.time + 3 + 5 + k ≡ f.time + (8 + k) = omega arith in z)

  p5 : v5 p ≡ P
  p5 = after_still p (λ z. apart.dp (sym z))

  moved_world : (k x : ℕ) → tell (Tell.Move (v5 p) x) (spend k w31) ≡ tell (Tell.Move P x) (spend (8 + k) (first_touched p u))
  moved_world k x = ap (λ a. tell (Tell.Move a x) (spend k w31)) p5 ∙ ap (λ y. tell (Tell.Move P x) y) (world_is k)

  -- the last byte, by what its access comes to
  at_last : (o : Option Ending) (x : ℕ) (r : Run Way) → refusal x 1 ≡ o → WentOn move_time p q s e x (point v5 w31) r → LastTouched o p q d s e x u (then_go (then_go r end_steps) none)
  unfolding and_then
  at_last None x r ref h =
      let v = h.words in
      let y : FWorld = tell (Tell.Move (v5 p) x) (spend h.took w31) in
      let same = moved_world h.took x in
      record {
        words = with_word v d (read width.Byte y.memory x);
        took = 8 + h.took;
        within = (let z = h.within in omega (arith, z));
        is =
            ap (λ r. then_go (then_go r end_steps) none) h.is
            ∙ ap (λ (a : ℕ). then_go (then_go (unless_refused (refusal a 1) (λ t. goes (loaded d a width.Byte t)) (point v (spend 3 y))) none) none) h.value
            ∙ ap (λ (o : Option Ending). then_go (then_go (unless_refused o (λ t. goes (loaded d x width.Byte t)) (point v (spend 3 y))) none) none) ref
            ∙ ap (λ (z : FWorld). next (with_word v d (read width.Byte y.memory x)) (accessed x 1 z)) same;
        value = set_other v d q _ apart.move.qd ∙ h.value;
        kept = λ i a b c f. set_other v d i _ b ∙ h.kept i a c f ∙ after_still i b;
      }
  at_last (Some ending) x r ref h =
      let v = h.words in
      let y : FWorld = tell (Tell.Move (v5 p) x) (spend h.took w31) in
      record {
        words = v;
        took = 8 + h.took;
        within = (let z = h.within in omega (arith, z));
        is =
            ap (λ r. then_go (then_go r end_steps) none) h.is
            ∙ ap (λ (a : ℕ). then_go (then_go (unless_refused (refusal a 1) (λ t. goes (loaded d a width.Byte t)) (point v (spend 3 y))) none) none) h.value
            ∙ ap (λ (o : Option Ending). then_go (then_go (unless_refused o (λ t. goes (loaded d x width.Byte t)) (point v (spend 3 y))) none) none) ref
            ∙ ap (λ (z : FWorld). Answer.Ends ending (point v (spend 3 z))) (moved_world h.took x);
      }

  from_move : (a : MoveAnswer) (r : Run Way) → DoesMove move_time a p q line s e (point v5 w31) r → DoesSpan a p q line d s e u (then_go (then_go r end_steps) none)
  unfolding and_then
  from_move (Inside x) r h = at_last (refusal x.0 1) x.0 r refl h
  from_move (Marked x) r h = at_last (refusal x.0 1) x.0 r refl h
  from_move Refused r h = record {
    words = h.words;
    took = 8 + h.took;
    within = (let z = h.within in omega (arith, z));
    is =
        ap (λ r. then_go (then_go r end_steps) none) h.is
        ∙ ap (λ n. Answer.Ends (Ending.Reported Bounds n) (point h.words (spend h.took w31))) (after_still line (λ z. apart.dl (sym z)))
        ∙ ap (λ y. Answer.Ends (Ending.Reported Bounds (u.words line)) (point h.words y)) (world_is h.took);
  }

  goes_so : MovesByTests → (slot : ℕ) → 1 ≤ g → g ≤ 24 → 1 ≤ N → N ≤ 0x0100_0000 → refusal P 1 ≡ None → owner_slot g P ≡ Some slot → slot < 2 ^ (25 - g) → byte_of g u.world.live slot ≤ 24
      → DoesSpan (moved g P (N - 1) (byte_of g u.world.live slot)) p q line d s e u whole
  goes_so law slot low high l h ref owner lt small =
      let E = byte_of g u.world.live slot in
      let move = move_does g call m frame p d q line s e apart.move (point v5 w31) law slot low high (ap (owner_slot g) p5 ∙ owner) lt small in
      let answer : moved g (v5 p) (v5 d) E ≡ moved g P (N - 1) E = ap (λ x. moved g x (v5 d) E) p5 ∙ ap (λ x. moved g P x E) (distance l h) in
      let r : Run Way = go (move_sequence g p d q line s e) v5 w31 in
      subst (λ y. DoesSpan (moved g P (N - 1) E) p q line d s e u y) (sym (to_move l h ref))
      (from_move (moved g P (N - 1) E) r (subst (λ a. DoesMove move_time a p q line s e (point v5 w31) r) answer move))

  pub spans : MovesByTests → 1 ≤ g → g ≤ 24 → Spans g m frame call p n q line d s e u whole
  spans law low high = record {
    nothing = of_nothing;
    too_long = is_too_long;
    not_begun = fails;
    begun = λ slot l h ref owner lt small. goes_so law slot low high l h ref owner lt small;
  }
