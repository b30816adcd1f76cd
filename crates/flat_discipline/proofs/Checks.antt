-- The sequences of disciplined code.
use Rattle.std.proofs.Common.{◌≡◌, ◌≢◌, ◌⊎◌, ℕ, zero, suc, ◌+◌, ◌-◌, ◌*◌, ◌/◌, ◌%◌, ◌^◌, ◌<◌, ◌≤◌, List, [], ◌∷◌, ℤ, pos, negsuc, w32, Option, Some, None, Bool, true, false, cond, inl, inr, refl, sym, ap, ◌∙◌, subst, ⊎_elim, arith, true≢false, nat_lt, nat_le}
use Rattle.std.specs.Prelude.{◌==◌, ◌&&◌, ◌||◌, not, ◌+ℤ◌}
use Rattle.std.proofs.Math.Pow.{pow_mono}
use Rattle.std.proofs.lemmas.Bool.Decides.{eqb_tells}
use Rattle.std.proofs.lemmas.Int.{to_z_pos}
use Rattle.bb_words.specs.Answers.{Answer, and_then}
use Rattle.bb_words.specs.Numbers.{signed}
use Rattle.bb_words.specs.declared.steps.Width.TheVariants as width
use Rattle.bb_words.specs.declared.steps.ArithOp.TheVariants as op
use Rattle.bb_words.specs.Steps.{arith as arith_of}
use Rattle.bb_words.specs.declared.kinds.ReportKind.TheVariants.{Bounds, Pointer}
use Rattle.bb_watch.specs.Live.{holder, holder_if, owner}
use Rattle.bb_watch.specs.Safety.{IsInside, IsNear}
use Rattle.marked_ptr.specs.Marked.{half_slot, unmarked, owner_slot, in_memory, word_at, moved}
use Rattle.marked_ptr.specs.Laws.{IsPlaced, IsInReach, answer_at, ComesInReach}
use Rattle.marked_ptr.specs.declared.answer.MoveAnswer.{MoveAnswer}
use Rattle.marked_ptr.specs.declared.answer.MoveAnswer.TheVariants.{Inside, Marked, Report}
use Rattle.size_table.specs.Blocks.{Block, holds, end_of}
use Rattle.size_table.specs.Table.{byte_of}
use Rattle.flat_code.specs.Code.{FStep, FSteps, ◌+++◌, FFunction, steps}
use Rattle.flat_code.specs.Told.{Tell}
use Rattle.flat_code.specs.World.{Words, with_word, read, FWorld, FPoint, point, put, spend, tell, Ending, Run, Way, onward}
use Rattle.flat_code.specs.Run.{slot_or_ones, slot_word, refusal, Calls, act, act_all}
use Rattle.flat_code.specs.Sequences.{report, move_sequence, load_sequence, span_sequence, touch_steps, owned_steps, MoveApart, LoadApart, SpanApart, KeptBut, move_time, WentOn, DoesMove, is_held as is_held_at, may_be_loaded, accessed as accessed_world, DoesLoad, SpanKept}
use Rattle.flat_code.specs.Recognized.{Sequence, sequence_steps, is_none_of, move_is_apart, is_apart}
use Rattle.flat_discipline.specs.Items.{Item, step_places, steps_places}
use Rattle.flat_discipline.specs.Facts.{Fact, Source, Here, untold, is_among, temporaries, result, gives, spans, may_set, held_if, gone_if, source}
use Rattle.flat_discipline.specs.Chains.{fact_in}
use Rattle.flat_discipline.specs.Discipline.{setting, edges, LostAt}
use Rattle.flat_discipline.specs.Comes.{IfOn, InSteps}
use Rattle.flat_discipline.proofs.Blocks.{both, lt_of, ge_of, is_lt, ArePlaced, is_held, Within, Holder, holder_of, no_holder, byte_small, holds_tells, holds_address, Good, good_owner, plain_owner, owned_by}
use Rattle.flat_discipline.proofs.Worlds.{Laws, ever, Holds, same_holds, Next, same_next, then_next}
use Rattle.flat_discipline.proofs.Acts.{accessed, tell_next}
use Rattle.flat_discipline.proofs.Points.{set_same, set_other, SpannedBy, OkAt, later, Says, SaysSpan, after as ok_after, HereHolds, untold_holds}
use Rattle.flat_discipline.proofs.Lands.{if_on_any, by_zero, claims_by_zero, all_append, in_append, quiet, quiet_in, ranged, Lands, Any}
use Rattle.flat_discipline.proofs.Plain.{CallsSafe, Known, touched}

-- ---- Tests

unequal : (a b : ℕ) → (a == b) ≡ false → a ≢ b
unequal a b y = ⊎_elim (λ e. absurd (true≢false (sym e.0 ∙ y))) (λ e. e.1) (eqb_tells a b)

equal : (a b : ℕ) → (a == b) ≡ true → a ≡ b
equal a b y = ⊎_elim (λ e. e.1) (λ e. absurd (true≢false (sym y ∙ e.0))) (eqb_tells a b)

not_true : (a : Bool) → not a ≡ true → a ≡ false
not_true true y = absurd (true≢false (sym y))
not_true false y = refl

none_of : (x y : ℕ) (ys : List ℕ) → is_none_of x (y ∷ ys) ≡ true → (x ≢ y) × (is_none_of x ys ≡ true)
none_of x y ys h = let r = both (not (x == y)) (is_none_of x ys) h in (unequal x y (not_true (x == y) r.0), r.1)

pub move_apart : (p d q line s e : ℕ) → move_is_apart p d q line s e ≡ true → MoveApart p d q line s e
move_apart p d q line s e h =
    let a = both (is_none_of q (p ∷ d ∷ line ∷ [])) (is_none_of s (p ∷ d ∷ line ∷ q ∷ []) && is_none_of e (p ∷ d ∷ line ∷ q ∷ s ∷ [])) h in
    let b = both (is_none_of s (p ∷ d ∷ line ∷ q ∷ [])) (is_none_of e (p ∷ d ∷ line ∷ q ∷ s ∷ [])) a.1 in
    let q1 = none_of q p (d ∷ line ∷ []) a.0 in
    let q2 = none_of q d (line ∷ []) q1.1 in
    let q3 = none_of q line [] q2.1 in
    let s1 = none_of s p (d ∷ line ∷ q ∷ []) b.0 in
    let s2 = none_of s d (line ∷ q ∷ []) s1.1 in
    let s3 = none_of s line (q ∷ []) s2.1 in
    let s4 = none_of s q [] s3.1 in
    let e1 = none_of e p (d ∷ line ∷ q ∷ s ∷ []) b.1 in
    let e2 = none_of e d (line ∷ q ∷ s ∷ []) e1.1 in
    let e3 = none_of e line (q ∷ s ∷ []) e2.1 in
    let e4 = none_of e q (s ∷ []) e3.1 in
    let e5 = none_of e s [] e4.1 in
    record { qp = q1.0; qd = q2.0; ql = q3.0; sp = s1.0; sd = s2.0; sl = s3.0; sq = s4.0; ep = e1.0; ed = e2.0; el = e3.0; eq = e4.0; es = e5.0 }

load_apart : (w at line s e : ℕ) → is_apart (Sequence.Load w at line s e) ≡ true → LoadApart w line s e
load_apart w at line s e h =
    let a = both (is_none_of w (line ∷ [])) (is_none_of s (w ∷ line ∷ []) && is_none_of e (w ∷ line ∷ s ∷ [])) h in
    let b = both (is_none_of s (w ∷ line ∷ [])) (is_none_of e (w ∷ line ∷ s ∷ [])) a.1 in
    let w1 = none_of w line [] a.0 in
    let s1 = none_of s w (line ∷ []) b.0 in
    let s2 = none_of s line [] s1.1 in
    let e1 = none_of e w (line ∷ s ∷ []) b.1 in
    let e2 = none_of e line (s ∷ []) e1.1 in
    let e3 = none_of e s [] e2.1 in
    record { wl = w1.0; sw = s1.0; sl = s2.0; ew = e1.0; el = e2.0; es = e3.0 }

span_apart : (p n q line d s e : ℕ) → is_apart (Sequence.Span p n q line d s e) ≡ true → SpanApart p n q line d s e
span_apart p n q line d s e h =
    let a = both (move_is_apart p d q line s e) (is_none_of n (d ∷ q ∷ s ∷ e ∷ []) && is_none_of d (p ∷ line ∷ [])) h in
    let b = both (is_none_of n (d ∷ q ∷ s ∷ e ∷ [])) (is_none_of d (p ∷ line ∷ [])) a.1 in
    let n1 = none_of n d (q ∷ s ∷ e ∷ []) b.0 in
    let n2 = none_of n q (s ∷ e ∷ []) n1.1 in
    let n3 = none_of n s (e ∷ []) n2.1 in
    let n4 = none_of n e [] n3.1 in
    let d1 = none_of d p (line ∷ []) b.1 in
    let d2 = none_of d line [] d1.1 in
    record { move = move_apart p d q line s e a.0; np = n1.0; nq = n2.0; ns = n3.0; ne = n4.0; dp = d1.0; dl = d2.0 }

-- the steps after the first n
abbrev dropped : ℕ → FSteps → FSteps
dropped zero a = a
dropped (suc n) FSteps.none = FSteps.none
dropped (suc n) (FSteps.more s a) = dropped n a

-- ---- Where moves come to

record Reached (g base e word : ℕ) : Type 0 where
  offset : ℤ
  reach : IsInReach g e offset
  is : word ≡ word_at base e offset

abbrev ReachedBy : (g base e : ℕ) → MoveAnswer → Type 0
ReachedBy g base e (Inside w) = Reached g base e w.0
ReachedBy g base e (Marked w) = Reached g base e w.0
ReachedBy g base e Report = Unit {0}

reached : (g base e : ℕ) (a : MoveAnswer) → ComesInReach g base e a → ReachedBy g base e a
reached g base e _ ComesInReach.reports = tt
reached g base e _ (ComesInReach.comes_inside o r) = record { offset = o; reach = r; is = refl }
reached g base e _ (ComesInReach.comes_outside o r) = record { offset = o; reach = r; is = refl }

-- a word in reach of a block lies in it or near it
near : (g : ℕ) (b : Block) (o : ℤ) → IsPlaced g b.base b.exponent → IsInReach g b.exponent o → IsInside b (word_at b.base b.exponent o) ⊎ IsNear g b (word_at b.base b.exponent o)
near g b (pos n) is r = by (nat_lt n (2 ^ b.exponent)) refl
  where
    half : 2 ^ (g - 1) ≤ 2 ^ 23
    half = (let z : g - 1 ≤ 23 = omega (arith, is.least, is.most) in pow_mono z)

    by : (t : Bool) → nat_lt n (2 ^ b.exponent) ≡ t → IsInside b (cond t (b.base + n) (2 ^ 31 + (b.base + n))) ⊎ IsNear g b (cond t (b.base + n) (2 ^ 31 + (b.base + n)))
    by true e = let lt = lt_of n (2 ^ b.exponent) e in inl (omega (arith, is.high, lt), omega arith, omega (arith, lt))
    by false e =
        let ge = ge_of n (2 ^ b.exponent) e in
        let small : b.base + n < 2 ^ 31 = omega (arith, is.high, r, half) in
        let un : unmarked (2 ^ 31 + (b.base + n)) ≡ b.base + n = omega (arith, small) in
        inr (omega arith, inr (subst (λ x. end_of b ≤ x) (sym un) (omega (arith, ge)), subst (λ x. x < end_of b + 2 ^ (g - 1)) (sym un) (omega (arith, r))))
near g b (negsuc n) is r =
    let half : 2 ^ (g - 1) ≤ 2 ^ 23 = (let z : g - 1 ≤ 23 = omega (arith, is.least, is.most) in pow_mono z) in
    let small : b.base - suc n < 2 ^ 31 = omega (arith, is.high) in
    let un : unmarked (2 ^ 31 + (b.base - suc n)) ≡ b.base - suc n = omega (arith, small) in
    inr (omega arith, inl (subst (λ x. x < b.base) (sym un) (omega (arith, is.low)), subst (λ x. b.base ≤ x + 2 ^ (g - 1)) (sym un) (omega (arith, r))))

module _ (g : ℕ) (globals : List Block) (functions : List FFunction) (laws : Laws) (known : Known g globals functions laws) (f : ℕ) (base : ℕ) (w0 : FWorld) (start : Within g globals (ever g globals w0)) (call : Calls) (m bytes : ℕ) (inside : (function : ℕ) → (args : List ℕ) → FPoint → Type 0) (calls : CallsSafe g globals functions laws call inside) (same_bytes : bytes ≡ (setting g globals functions f).frame) where
  abbrev S : Rattle.flat_discipline.specs.Facts.Setting
  S = setting g globals functions f

  abbrev Ok : ℕ → FPoint → Type 0
  Ok p u = OkAt g globals functions f base w0 p u

  abbrev evr : FWorld → List Block
  evr w = ever g globals w

  one : 1 ≤ g
  one = (let z = known.low in omega (arith, z))

  abbrev Nx : FWorld → FWorld → Type 0
  Nx w v = Next g globals laws w v

  abbrev In : FSteps → ℕ → FPoint → Type 0
  In xs p u = InSteps g call m bytes inside (ranged g call m bytes functions S.frame inside) xs p u

  abbrev go : FSteps → FPoint → Run Way
  go xs u = act_all g call m bytes xs u

  -- where a good word came to
  record Arrived (u : FPoint) (P word : ℕ) : Type 0 where
    block : Block
    owns : owner g P u.world.live ≡ Some block
    near : IsInside block word ⊎ IsNear g block word
    good : Good g (evr u.world) word

  abbrev ArrivedBy : FPoint → ℕ → MoveAnswer → Type 0
  ArrivedBy u P (Inside w) = Arrived u P w.0
  ArrivedBy u P (Marked w) = Arrived u P w.0
  ArrivedBy u P Report = Unit {0}

  held_slot : (b : Block) (n : ℕ) → (b.base ≤ 2 ^ g * n) → (2 ^ g * n + 2 ^ g ≤ end_of b) → holds g b n ≡ true
  held_slot b n low high = Rattle.flat_discipline.proofs.Blocks.two (nat_le b.base (2 ^ g * n)) (nat_le (2 ^ g * n + 2 ^ g) (end_of b)) (Rattle.flat_discipline.proofs.Blocks.is_le b.base (2 ^ g * n) low) (Rattle.flat_discipline.proofs.Blocks.is_le (2 ^ g * n + 2 ^ g) (end_of b) high)

  some_of : (o : Option ℕ) (n : ℕ) → in_memory g o ≡ Some n → o ≡ Some n
  some_of None n h = absurd (let z : ⊥ = cc in z)
  some_of (Some k) n h = by (nat_lt k (2 ^ (25 - g))) h
    where
      by : (t : Bool) → cond t (Some k) None ≡ Some n → Some k ≡ Some n
      by true h = h
      by false h = absurd (let z : ⊥ = cc in z)

  held_by : (bs : List Block) (s : ℕ) (b : Block) → holder g s bs ≡ Some b → (t : ℕ) → holds g b t ≡ true → is_held g bs t ≡ true
  held_by [] s b h t y = absurd (let z : ⊥ = cc in z)
  held_by (c ∷ bs) s b h t y = by (holds g c s) h (λ k. held_by bs s b k t y)
    where
      or_left : (x y : Bool) → x ≡ true → (x || y) ≡ true
      or_left true y e = refl
      or_left false y e = absurd (true≢false (sym e))

      or_right : (x y : Bool) → y ≡ true → (x || y) ≡ true
      or_right true y e = refl
      or_right false y e = e

      by : (z : Bool) → cond z (Some c) (holder g s bs) ≡ Some b → (holder g s bs ≡ Some b → is_held g bs t ≡ true) → is_held g (c ∷ bs) t ≡ true
      by true k more = let same : c ≡ b = cc in or_left (holds g c t) (is_held g bs t) (subst (λ x. holds g x t ≡ true) (sym same) y)
      by false k more = or_right (holds g c t) (is_held g bs t) (more k)

  arrived_at : (u : FPoint) (P slot_ word : ℕ) (h : Holds g globals u.world) (r : Holder g u.world.live slot_) → owner_slot g P ≡ Some slot_ → Reached g r.block.base r.block.exponent word → Arrived u P word
  arrived_at u P slot_ word h r own x =
      let o = laws.owners g r.block.base r.block.exponent x.offset r.placed x.reach in
      record {
        block = r.block;
        owns = ap (λ z. holder_if g z u.world.live) own ∙ r.is;
        near = subst (λ w. IsInside r.block w ⊎ IsNear g r.block w) (sym x.is) (near g r.block x.offset r.placed x.reach);
        good = inr (
          o.number,
          ap (owner_slot g) x.is ∙ some_of (owner_slot g (word_at r.block.base r.block.exponent x.offset)) o.number o.is,
          h.within o.number (held_by u.world.live slot_ r.block r.is o.number (held_slot r.block o.number o.low o.high)),
        );
      }

  arrived : (u : FPoint) (P D slot_ : ℕ) → Holds g globals u.world → owner_slot g P ≡ Some slot_ → ArrivedBy u P (moved g P D (byte_of g u.world.live slot_))
  arrived u P D slot_ h own = by (is_held g u.world.live slot_) refl
    where
      to : (r : Holder g u.world.live slot_) (a : MoveAnswer) → ReachedBy g r.block.base r.block.exponent a → ArrivedBy u P a
      to r (Inside w) x = arrived_at u P slot_ w.0 h r own x
      to r (Marked w) x = arrived_at u P slot_ w.0 h r own x
      to r Report x = tt

      by : (t : Bool) → is_held g u.world.live slot_ ≡ t → ArrivedBy u P (moved g P D (byte_of g u.world.live slot_))
      by true e =
          let r = holder_of g u.world.live slot_ h.placed e in
          subst (λ n. ArrivedBy u P (moved g P D n)) (sym r.byte)
          (to r (moved g P D r.block.exponent) (reached g r.block.base r.block.exponent (moved g P D r.block.exponent)
          (laws.reach g r.block.base r.block.exponent P D r.placed (owned_by g r.block P slot_ r.placed r.has own))))
      by false e = subst (λ n. ArrivedBy u P (moved g P D n)) (sym (no_holder g u.world.live slot_ e).1) tt

  -- a move is told
  move_next : (u : FPoint) (P word took : ℕ) → Holds g globals u.world → Arrived u P word → Nx u.world (tell (Tell.Move P word) (spend took u.world))
  move_next u P word took h a =
      let v = spend took u.world in
      let n = tell_next g globals laws one known.high v (Tell.Move P word) (same_holds g globals u.world v refl refl h.stack h) refl refl (a.block, a.owns, a.near) in
      record { holds = n.holds; grows = n.grows }

  record MoveWent (q s e : ℕ) (u t : FPoint) : Type 0 where
    kept : KeptBut q s e u.words t.words
    next : Nx u.world t.world
    live : t.world.live ≡ u.world.live
    stack : t.world.stack ≡ u.world.stack
    good : Good g (evr t.world) (t.words q)

  abbrev MoveLands : (q s e : ℕ) → FPoint → Run Way → Type 0
  MoveLands q s e u (Answer.Goes Way.On t) = MoveWent q s e u t
  MoveLands q s e u (Answer.Goes (Way.Out n) t) = ⊥
  MoveLands q s e u (Answer.Goes (Way.Back n) t) = ⊥
  MoveLands q s e u (Answer.Ends ending t) = Holds g globals t.world

  move_lands : (p d q line s e : ℕ) → MoveApart p d q line s e → (u : FPoint) → Holds g globals u.world → Good g (evr u.world) (u.words p) → MoveLands q s e u (go (move_sequence g p d q line s e) u)
  move_lands p d q line s e apart u h good =
      let own = good_owner g (evr u.world) (u.words p) h.placed_ever good in
      answered (moved g (u.words p) (u.words d) (byte_of g u.world.live own.0)) (arrived u (u.words p) (u.words d) own.0 h own.1)
      (laws.moves g one known.high call m bytes p d q line s e apart u own.0 own.1 own.2 (byte_small g u.world.live own.0 h.placed))
    where
      went : (word : ℕ) → Arrived u (u.words p) word → (r : Run Way) → WentOn move_time p q s e word u r → MoveLands q s e u r
      went word a r x =
          let n = move_next u (u.words p) word x.took h a in
          subst (MoveLands q s e u) (sym x.is) (record { kept = x.kept; next = n; live = refl; stack = refl; good = subst (Good g (evr (tell (Tell.Move (u.words p) word) (spend x.took u.world)))) (sym x.value) (Rattle.flat_discipline.proofs.Blocks.good_more g (evr u.world) (evr (tell (Tell.Move (u.words p) word) (spend x.took u.world))) word n.grows a.good) })

      answered : (a : MoveAnswer) → ArrivedBy u (u.words p) a → DoesMove move_time a p q line s e u (go (move_sequence g p d q line s e) u) → MoveLands q s e u (go (move_sequence g p d q line s e) u)
      answered (Inside w) a x = went w.0 a (go (move_sequence g p d q line s e) u) x
      answered (Marked w) a x = went w.0 a (go (move_sequence g p d q line s e) u) x
      answered Report a x = subst (MoveLands q s e u) (sym x.is) (same_holds g globals u.world (spend x.took u.world) refl refl h.stack h)

  -- the slot that a move looks at is one of memory's
  move_in : (p d q line s e at : ℕ) (u : FPoint) → Holds g globals u.world → Good g (evr u.world) (u.words p) → In (move_sequence g p d q line s e) at u
  move_in p d q line s e at u h good =
      let own = good_owner g (evr u.world) (u.words p) h.placed_ever good in
      let t1 : FPoint = put s (slot_word g (u.words p)) (point u.words (spend 12 u.world)) in
      let t2 : FPoint = point t1.words (spend 4 t1.world) in
      let small : t1.words s < 2 ^ (25 - g) = subst (λ x. x < 2 ^ (25 - g)) (sym (set_same u.words s s (slot_word g (u.words p)) refl ∙ ap slot_or_ones own.1)) own.2 in (
        tt,
        tt,
        (
          small,
          tt,
          if_on_any (act g call m bytes (FStep.Look e s) t2) (In (dropped 2 (move_sequence g p d q line s e)) (at + 1 + 1))
              (λ t. quiet_in g call m bytes functions S.frame inside (dropped 2 (move_sequence g p d q line s e)) refl (at + 1 + 1) t),
        ),
      )

  -- ---- Loads

  acc_next : (u : FPoint) (a : ℕ) (w : Rattle.bb_words.specs.declared.steps.Width.Width) → Holds g globals u.world → Good g (evr u.world) a → refusal a (Rattle.bb_words.specs.Steps.size_of_width w) ≡ None → Nx u.world (accessed_world a (Rattle.bb_words.specs.Steps.size_of_width w) u.world)
  acc_next u a w h good none = touched g globals functions laws known f base w0 start call m bytes inside calls same_bytes u (spend 3 u.world) a w false h refl refl refl good none

  spend_next : (n : ℕ) (w : FWorld) → Holds g globals w → Nx w (spend n w)
  spend_next n w h = same_next g globals laws w (spend n w) refl refl h.stack h

  may_good : (u : FPoint) (x : ℕ) → Holds g globals u.world → may_be_loaded g u.world.live x ≡ true → Good g (evr u.world) x
  may_good u x h may = ⊎_elim (λ e. inl e.1) (λ e. by (owner_slot g x) refl (subst (λ t. (t || is_held_at g u.world.live (owner_slot g x)) ≡ true) e.0 may)) (eqb_tells x 0)
    where
      live_held : (s : ℕ) → not (byte_of g u.world.live s == 0) ≡ true → is_held g u.world.live s ≡ true
      live_held s y = case (is_held g u.world.live s) refl
        where
          case : (t : Bool) → is_held g u.world.live s ≡ t → is_held g u.world.live s ≡ true
          case true e = e
          case false e = absurd (unequal (byte_of g u.world.live s) 0 (not_true (byte_of g u.world.live s == 0) y) (no_holder g u.world.live s e).1)

      by : (o : Option ℕ) → owner_slot g x ≡ o → is_held_at g u.world.live o ≡ true → Good g (evr u.world) x
      by None e y = absurd (true≢false (sym y))
      by (Some s) e y =
          let r = both (nat_lt s (2 ^ (25 - g))) (not (byte_of g u.world.live s == 0)) y in
          inr (s, e, h.within s (live_held s r.1))

  load_lands : (w at line s e : ℕ) → LoadApart w line s e → (u : FPoint) → Holds g globals u.world → Good g (evr u.world) (u.words at) → MoveLands w s e u (go (load_sequence g w at line s e) u)
  load_lands w at line s e apart u h good = by (refusal (u.words at) 4) refl
    where
      answered : refusal (u.words at) 4 ≡ None → (t : Bool) → may_be_loaded g u.world.live (read width.Pointer u.world.memory (u.words at)) ≡ t → DoesLoad t w at line s e u (go (load_sequence g w at line s e) u) → MoveLands w s e u (go (load_sequence g w at line s e) u)
      answered none true may x =
          let n = acc_next u (u.words at) width.Pointer h good none in
          let k = spend_next x.took (accessed_world (u.words at) 4 u.world) n.holds in
          let grows : Within g (evr u.world) (evr (spend x.took (accessed_world (u.words at) 4 u.world))) = λ j y. k.grows j (n.grows j y) in
          subst (MoveLands w s e u) (sym x.is) (record {
            kept = x.kept;
            next = record { holds = k.holds; grows = grows };
            live = refl;
            stack = refl;
            good = subst (Good g (evr (spend x.took (accessed_world (u.words at) 4 u.world)))) (sym x.value)
                (Rattle.flat_discipline.proofs.Blocks.good_more g (evr u.world) (evr (spend x.took (accessed_world (u.words at) 4 u.world))) (read width.Pointer u.world.memory (u.words at)) grows (may_good u (read width.Pointer u.world.memory (u.words at)) h may));
          })
      answered none false may x =
          let n = acc_next u (u.words at) width.Pointer h good none in
          subst (MoveLands w s e u) (sym x.is) (spend_next x.took (accessed_world (u.words at) 4 u.world) n.holds).holds

      by : (o : Option Ending) → refusal (u.words at) 4 ≡ o → MoveLands w s e u (go (load_sequence g w at line s e) u)
      by (Some ending) is = subst (MoveLands w s e u) (sym (laws.stops g call m bytes w at line s e u ending is)) (same_holds g globals u.world (spend 3 u.world) refl refl h.stack h)
      by None is = answered is (may_be_loaded g u.world.live (read width.Pointer u.world.memory (u.words at))) refl (laws.loads g one call m bytes w at line s e apart u is)

  -- the slot that a load looks at was tested
  below_of : (x y z : ℕ) → z ≡ cond {A = ℕ} (nat_lt x y) 1 0 → z ≢ 0 → x < y
  below_of x y z is ne = by (nat_lt x y) refl (subst (λ k. k ≢ 0) is ne)
    where
      by : (t : Bool) → nat_lt x y ≡ t → cond {A = ℕ} t 1 0 ≢ 0 → x < y
      by true e k = lt_of x y e
      by false e k = absurd (k refl)

  owned_in : (w line s e at : ℕ) → e ≢ s → (t : FPoint) → In (FSteps.more (FStep.If w (owned_steps g w line s e) FSteps.none) FSteps.none) at t
  owned_in w line s e at ne t =
      let t6 : FPoint = point t.words (spend 6 t.world) in (
        tt,
        claims_by_zero (t.words w) (In FSteps.none (at + 1 + steps_places (owned_steps g w line s e))) (In (owned_steps g w line s e) (at + 1)) t6 (λ z. tt) (λ z. owned t6),
        if_on_any (act g call m bytes (FStep.If w (owned_steps g w line s e) FSteps.none) t6) (In FSteps.none (at + step_places (FStep.If w (owned_steps g w line s e) FSteps.none))) (λ z. tt),
      )
    where
      owned : (x : FPoint) → In (owned_steps g w line s e) (at + 1) x
      owned x =
          let v1 = with_word x.words s (slot_word g (x.words w)) in
          let v2 = with_word v1 e (2 ^ (25 - g)) in
          let v3 = with_word v2 e (arith_of op.Ltu (v2 s) (v2 e)) in
          let y : FPoint = point v3 (spend 6 (spend 5 (spend 3 (spend 12 x.world)))) in
          let look = steps (FStep.Look e s ∷ FStep.If e FSteps.none (report Pointer line) ∷ []) in (
            tt,
            tt,
            (
              tt,
              tt,
              (
                tt,
                tt,
                (
                  tt,
                  claims_by_zero (v3 e) (In (report Pointer line) (at + 1 + 1 + 1 + 1 + 1 + steps_places look)) (In look (at + 1 + 1 + 1 + 1 + 1)) y
                      (λ z. quiet_in g call m bytes functions S.frame inside (report Pointer line) refl (at + 1 + 1 + 1 + 1 + 1 + steps_places look) y)
                      (λ some. (
                        subst (λ z. z < 2 ^ (25 - g)) (sym (set_other v2 e s (arith_of op.Ltu (v2 s) (v2 e)) (λ z. ne (sym z))))
                            (below_of (v2 s) (2 ^ (25 - g)) (v3 e) (set_same v2 e e (arith_of op.Ltu (v2 s) (v2 e)) refl ∙ ap (λ z. cond {A = ℕ} (nat_lt (v2 s) z) 1 0) (set_same v1 e e (2 ^ (25 - g)) refl)) some),
                        tt,
                        if_on_any (act g call m bytes (FStep.Look e s) (point v3 (spend 4 y.world))) (In (steps (FStep.If e FSteps.none (report Pointer line) ∷ [])) (at + 1 + 1 + 1 + 1 + 1 + 1))
                            (λ z. quiet_in g call m bytes functions S.frame inside (steps (FStep.If e FSteps.none (report Pointer line) ∷ [])) refl (at + 1 + 1 + 1 + 1 + 1 + 1) z),
                      )),
                  if_on_any (act g call m bytes (FStep.If e look (report Pointer line)) y) (In FSteps.none (at + 1 + 1 + 1 + 1 + step_places (FStep.If e look (report Pointer line)))) (λ z. tt),
                ),
              ),
            ),
          )

  load_in : (w a line s e at : ℕ) → e ≢ s → (u : FPoint) → Holds g globals u.world → Good g (evr u.world) (u.words a) → In (load_sequence g w a line s e) at u
  load_in w a line s e at ne u h good = (
    (accessed g (evr u.world) (u.words a) 4 h.placed_ever good).not_cut,
    tt,
    if_on_any (act g call m bytes (FStep.Load w a width.Pointer) (point u.words (spend 3 u.world))) (In (steps (FStep.If w (owned_steps g w line s e) FSteps.none ∷ [])) (at + 1)) (λ t. owned_in w line s e (at + 1) ne t),
  )

  -- ---- Spans

  -- a move of an address by a distance that comes to an address stays in the block
  record Spanning (u : FPoint) (a d : ℕ) : Type 0 where
    slot_ : ℕ
    block : Block
    found : holder g slot_ u.world.live ≡ Some block
    low : block.base ≤ a
    high : a + d < end_of block

  abbrev SpanningBy : FPoint → (a d : ℕ) → MoveAnswer → Type 0
  SpanningBy u a d (Inside w) = w.0 < 2 ^ 31 → Spanning u a d
  SpanningBy u a d (Marked w) = w.0 < 2 ^ 31 → Spanning u a d
  SpanningBy u a d Report = Unit {0}

  spanning : (u : FPoint) (a d slot_ : ℕ) → Holds g globals u.world → owner_slot g a ≡ Some slot_ → a < 2 ^ 31 → d < 2 ^ 31 → SpanningBy u a d (moved g a d (byte_of g u.world.live slot_))
  spanning u a d slot_ h own small_a small_d = by (is_held g u.world.live slot_) refl
    where
      some_is : (x y : ℕ) → Some x ≡ Some y → x ≡ y
      some_is x y e = cc

      answer : (b : Block) (k : ℕ) → holder g slot_ u.world.live ≡ Some b → b.base ≤ a → k ≡ a - b.base + d → (t : Bool) → nat_lt k (2 ^ b.exponent) ≡ t
          → (o : ℕ) → o ≡ cond t (b.base + k) (2 ^ 31 + (b.base + k)) → o < 2 ^ 31 → Spanning u a d
      answer b k found low is true e o q lt = let z = lt_of k (2 ^ b.exponent) e in record { slot_ = slot_; block = b; found = found; low = low; high = omega (arith, z, is, low) }
      answer b k found low is false e o q lt = absurd (let z : ⊥ = omega (arith, q, lt) in z)

      to : (b : Block) (k : ℕ) → holder g slot_ u.world.live ≡ Some b → b.base ≤ a → k ≡ a - b.base + d → SpanningBy u a d (answer_at g b.base b.exponent (pos k))
      to b k found low is = first (nat_lt k (2 ^ b.exponent)) refl
        where
          second : (t t2 : Bool) → nat_lt k (2 ^ b.exponent) ≡ t → t ≡ false → SpanningBy u a d (cond t2 (Marked (record { 0 = cond t (b.base + k) (2 ^ 31 + (b.base + k)) })) Report)
          second t true e f = λ lt. answer b k found low is t e (cond t (b.base + k) (2 ^ 31 + (b.base + k))) refl lt
          second t false e f = tt

          first : (t : Bool) → nat_lt k (2 ^ b.exponent) ≡ t → SpanningBy u a d (cond t (Inside (record { 0 = cond (nat_lt k (2 ^ b.exponent)) (b.base + k) (2 ^ 31 + (b.base + k)) })) (cond (nat_lt k (2 ^ b.exponent + half_slot g)) (Marked (record { 0 = cond (nat_lt k (2 ^ b.exponent)) (b.base + k) (2 ^ 31 + (b.base + k)) })) Report))
          first true e = λ lt. answer b k found low is (nat_lt k (2 ^ b.exponent)) refl (cond (nat_lt k (2 ^ b.exponent)) (b.base + k) (2 ^ 31 + (b.base + k))) refl lt
          first false e = second (nat_lt k (2 ^ b.exponent)) (nat_lt k (2 ^ b.exponent + half_slot g)) refl e

      by : (t : Bool) → is_held g u.world.live slot_ ≡ t → SpanningBy u a d (moved g a d (byte_of g u.world.live slot_))
      by true e =
          let r = holder_of g u.world.live slot_ h.placed e in
          let b = r.block in
          let same : slot_ ≡ a / 2 ^ g = some_is slot_ (a / 2 ^ g) (sym own ∙ plain_owner g a small_a) in
          let at = holds_address g b a (subst (λ x. holds g b x ≡ true) same r.has) in
          let o = a - b.base in
          let lt : o < 2 ^ b.exponent = omega (arith, at.0, at.1) in
          let word : word_at b.base b.exponent (pos o) ≡ a = ap (λ t. cond t (b.base + o) (2 ^ 31 + (b.base + o))) (is_lt o (2 ^ b.exponent) lt) ∙ (let z : b.base + o ≡ a = omega (arith, at.0) in z) in
          let law : moved g (word_at b.base b.exponent (pos o)) d b.exponent ≡ answer_at g b.base b.exponent (pos o +ℤ signed d) = laws.offsets g b.base b.exponent d (pos o) r.placed (omega (arith, lt)) (omega (arith, small_d)) in
          let whole : moved g a d (byte_of g u.world.live slot_) ≡ answer_at g b.base b.exponent (pos (o + d)) =
          ap (λ n. moved g a d n) r.byte ∙ ap (λ x. moved g x d b.exponent) (sym word) ∙ law ∙ ap (λ z. answer_at g b.base b.exponent (pos o +ℤ z)) (to_z_pos w32 d small_d) in
          subst (SpanningBy u a d) (sym whole) (to b (o + d) r.is at.0 refl)
      by false e = subst (λ n. SpanningBy u a d (moved g a d n)) (sym (no_holder g u.world.live slot_ e).1) tt

  -- what a move sequence adds to that
  abbrev MoveSpans : (p d q : ℕ) → FPoint → Run Way → Type 0
  MoveSpans p d q u (Answer.Goes Way.On t) = t.words q < 2 ^ 31 → Spanning u (u.words p) (u.words d)
  MoveSpans p d q u (Answer.Goes (Way.Out n) t) = Unit {0}
  MoveSpans p d q u (Answer.Goes (Way.Back n) t) = Unit {0}
  MoveSpans p d q u (Answer.Ends ending t) = Unit {0}

  move_spans : (p d q line s e : ℕ) → MoveApart p d q line s e → (u : FPoint) → Holds g globals u.world → Good g (evr u.world) (u.words p) → u.words p < 2 ^ 31 → u.words d < 2 ^ 31 → MoveSpans p d q u (go (move_sequence g p d q line s e) u)
  move_spans p d q line s e apart u h good small_p small_d =
      let own = good_owner g (evr u.world) (u.words p) h.placed_ever good in
      answered (moved g (u.words p) (u.words d) (byte_of g u.world.live own.0)) (spanning u (u.words p) (u.words d) own.0 h own.1 small_p small_d)
      (laws.moves g one known.high call m bytes p d q line s e apart u own.0 own.1 own.2 (byte_small g u.world.live own.0 h.placed))
    where
      went : (word : ℕ) → (word < 2 ^ 31 → Spanning u (u.words p) (u.words d)) → (r : Run Way) → WentOn move_time p q s e word u r → MoveSpans p d q u r
      went word a r x = subst (MoveSpans p d q u) (sym x.is) (λ lt. a (subst (λ z. z < 2 ^ 31) x.value lt))

      answered : (a : MoveAnswer) → SpanningBy u (u.words p) (u.words d) a → DoesMove move_time a p q line s e u (go (move_sequence g p d q line s e) u) → MoveSpans p d q u (go (move_sequence g p d q line s e) u)
      answered (Inside w) a x = went w.0 a (go (move_sequence g p d q line s e) u) x
      answered (Marked w) a x = went w.0 a (go (move_sequence g p d q line s e) u) x
      answered Report a x = subst (MoveSpans p d q u) (sym x.is) tt

  -- where a span comes to
  record SpanFared (p n q d s e : ℕ) (u t : FPoint) : Type 0 where
    kept : SpanKept q d s e u.words t.words
    next : Nx u.world t.world
    live : t.world.live ≡ u.world.live
    stack : t.world.stack ≡ u.world.stack
    result : Good g (evr t.world) (u.words q) → Good g (evr t.world) (t.words q)
    spanned : SpannedBy g t.world.live (u.words p) (u.words n)

  abbrev SpanLands : (p n q d s e : ℕ) → FPoint → Run Way → Type 0
  SpanLands p n q d s e u (Answer.Goes Way.On t) = SpanFared p n q d s e u t
  SpanLands p n q d s e u (Answer.Goes (Way.Out k) t) = ⊥
  SpanLands p n q d s e u (Answer.Goes (Way.Back k) t) = ⊥
  SpanLands p n q d s e u (Answer.Ends ending t) = Holds g globals t.world

  module _ (p n q line d s e at : ℕ) (apart : SpanApart p n q line d s e) (u : FPoint) (h : Holds g globals u.world) (good : Good g (evr u.world) (u.words p)) where
    abbrev SL : Run Way → Type 0
    SL r = SpanLands p n q d s e u r

    abbrev v1 : Words
    v1 = with_word u.words d 0x0100_0001

    abbrev v2 : Words
    v2 = with_word v1 d (arith_of op.Ltu (v1 n) (v1 d))

    abbrev last : FSteps
    last = steps (FStep.Load d q width.Byte ∷ [])

    v2_keeps : (v : ℕ) → v ≢ d → v2 v ≡ u.words v
    v2_keeps v ne = set_other v1 d v (arith_of op.Ltu (v1 n) (v1 d)) ne ∙ set_other u.words d v 0x0100_0001 ne

    p_not_d : p ≢ d
    p_not_d z = apart.dp (sym z)

    below : v2 d ≢ 0 → u.words n < 0x0100_0001
    below some = below_of (u.words n) 0x0100_0001 (v2 d)
        (set_same v1 d d (arith_of op.Ltu (v1 n) (v1 d)) refl ∙ ap (λ z. cond {A = ℕ} (nat_lt z (v1 d)) 1 0) (set_other u.words d n 0x0100_0001 apart.np) ∙ ap (λ z. cond {A = ℕ} (nat_lt (u.words n) z) 1 0) (set_same u.words d d 0x0100_0001 refl)) some

    -- the last byte, after the move
    ended : (t : FPoint) → Nx u.world t.world → t.world.live ≡ u.world.live → t.world.stack ≡ u.world.stack → SpanKept q d s e u.words t.words → Good g (evr t.world) (t.words q) → (t.words q < 2 ^ 31 → SpannedBy g u.world.live (u.words p) (u.words n))
        → (at_ : ℕ) → In last at_ t × SL (go last t)
    unfolding and_then
    ended t next live stack kept good_q spans_ at_ =
        let acc = accessed g (evr t.world) (t.words q) 1 next.holds.placed_ever good_q in (
          (acc.not_cut, tt, if_on_any (act g call m bytes (FStep.Load d q width.Byte) (point t.words (spend 3 t.world))) (In FSteps.none (at_ + 1)) (λ z. tt)),
          subst SL (sym (Rattle.flat_discipline.proofs.Lands.one_step g call m bytes (FStep.Load d q width.Byte) t)) (by (refusal (t.words q) 1) refl),
        )
      where
        by : (o : Option Ending) → refusal (t.words q) 1 ≡ o → SL (Rattle.flat_code.specs.Run.unless_refused o (λ z. Answer.Goes Way.On (Rattle.flat_code.specs.Run.loaded d (t.words q) width.Byte z)) (point t.words (spend 3 t.world)))
        by (Some ending) is = (spend_next 3 t.world next.holds).holds
        by None is =
            let k = acc_next t (t.words q) width.Byte next.holds good_q is in
            let small = ((accessed g (evr t.world) (t.words q) 1 next.holds.placed_ever good_q).at is).1 in
            let w9 : FWorld = accessed_world (t.words q) 1 t.world in
            record {
              kept = λ v nq nd ns ne. set_other t.words d v (read width.Byte t.world.memory (t.words q)) nd ∙ kept v nq nd ns ne;
              next = then_next g globals laws u.world t.world w9 next k;
              live = live;
              stack = stack;
              result = λ y. subst (Good g (evr w9)) (sym (set_other t.words d q (read width.Byte t.world.memory (t.words q)) (λ z. apart.move.qd z))) (Rattle.flat_discipline.proofs.Blocks.good_more g (evr t.world) (evr w9) (t.words q) k.grows good_q);
              spanned = subst (λ l. SpannedBy g l (u.words p) (u.words n)) (sym live) (spans_ small);
            }

    -- the move, after the first byte
    moved_on : (x : FPoint) → Nx u.world x.world → x.world.live ≡ u.world.live → x.world.stack ≡ u.world.stack → ((v : ℕ) → v ≢ d → x.words v ≡ u.words v) → x.words d ≡ u.words n - 1 → 1 ≤ u.words n → u.words n < 0x0100_0001 → u.words p < 2 ^ 31
        → (at_ : ℕ) → In (move_sequence g p d q line s e +++ last) at_ x × SL (go (move_sequence g p d q line s e +++ last) x)
    unfolding and_then
    moved_on x next live stack keeps d_is some small plain at_ =
        let p_is : x.words p ≡ u.words p = keeps p p_not_d in
        let good_p : Good g (evr x.world) (x.words p) = subst (Good g (evr x.world)) (sym p_is) (Rattle.flat_discipline.proofs.Blocks.good_more g (evr u.world) (evr x.world) (u.words p) next.grows good) in
        let r = landed (go (move_sequence g p d q line s e) x)
        (move_lands p d q line s e apart.move x next.holds good_p)
        (move_spans p d q line s e apart.move x next.holds good_p (subst (λ z. z < 2 ^ 31) (sym p_is) plain) (subst (λ z. z < 2 ^ 31) (sym d_is) (omega (arith, small)))) in (
          in_append g call m bytes inside (ranged g call m bytes functions S.frame inside) (move_sequence g p d q line s e) last at_ x (move_in p d q line s e at_ x next.holds good_p) r.0,
          subst SL (sym (all_append g call m bytes (move_sequence g p d q line s e) last x)) r.1,
        )
      where
        landed : (r : Run Way) → MoveLands q s e x r → MoveSpans p d q x r → IfOn r (In last (at_ + steps_places (move_sequence g p d q line s e))) × SL (and_then r (λ way t. onward way t (go last)))
        landed (Answer.Goes Way.On t) l sp =
            ended t (then_next g globals laws u.world x.world t.world next l.next) (l.live ∙ live) (l.stack ∙ stack)
            (λ v nq nd ns ne. l.kept v nq ns ne ∙ keeps v nd) l.good
            (λ lt. let z = sp lt in inr (
              z.slot_,
              z.block,
              subst (λ l. holder g z.slot_ l ≡ Some z.block) live z.found,
              subst (λ k. z.block.base ≤ k) (keeps p p_not_d) z.low,
              (let lim = z.high in let same = keeps p p_not_d in omega (arith, lim, same, d_is, some)),
            ))
            (at_ + steps_places (move_sequence g p d q line s e))
        landed (Answer.Goes (Way.Out k) t) l sp = absurd l
        landed (Answer.Goes (Way.Back k) t) l sp = absurd l
        landed (Answer.Ends ending t) l sp = (tt, l)

    -- the first byte
    touched_first : (x : FPoint) → x.words ≡ v2 → Nx u.world x.world → x.world.live ≡ u.world.live → x.world.stack ≡ u.world.stack → 1 ≤ u.words n → u.words n < 0x0100_0001
        → (at_ : ℕ) → In (touch_steps g p n q line d s e) at_ x × SL (go (touch_steps g p n q line d s e) x)
    unfolding and_then
    touched_first x words next live stack some small at_ =
        let p_is : x.words p ≡ u.words p = ap (λ (ws : Words). ws p) words ∙ v2_keeps p p_not_d in
        let good_p : Good g (evr x.world) (x.words p) = subst (Good g (evr x.world)) (sym p_is) (Rattle.flat_discipline.proofs.Blocks.good_more g (evr u.world) (evr x.world) (u.words p) next.grows good) in
        let acc = accessed g (evr x.world) (x.words p) 1 next.holds.placed_ever good_p in
        let r = by p_is good_p (refusal (x.words p) 1) refl in
        ((acc.not_cut, tt, r.0), r.1)
      where
        abbrev_rest : FSteps
        abbrev_rest = steps (FStep.Number d 0xffff_ffff ∷ FStep.Arith d op.Add n d ∷ []) +++ (move_sequence g p d q line s e +++ last)

        by : x.words p ≡ u.words p → Good g (evr x.world) (x.words p) → (o : Option Ending) → refusal (x.words p) 1 ≡ o
            → IfOn (Rattle.flat_code.specs.Run.unless_refused o (λ z. Answer.Goes Way.On (Rattle.flat_code.specs.Run.loaded d (x.words p) width.Byte z)) (point x.words (spend 3 x.world))) (In (steps (FStep.Number d 0xffff_ffff ∷ FStep.Arith d op.Add n d ∷ []) +++ (move_sequence g p d q line s e +++ last)) (at_ + 1))
            × SL (and_then (Rattle.flat_code.specs.Run.unless_refused o (λ z. Answer.Goes Way.On (Rattle.flat_code.specs.Run.loaded d (x.words p) width.Byte z)) (point x.words (spend 3 x.world))) (λ way t. onward way t (go (steps (FStep.Number d 0xffff_ffff ∷ FStep.Arith d op.Add n d ∷ []) +++ (move_sequence g p d q line s e +++ last)))))
        by p_is good_p (Some ending) is = (tt, (spend_next 3 x.world next.holds).holds)
        by p_is good_p None is =
            let k = acc_next x (x.words p) width.Byte next.holds good_p is in
            let plain = ((accessed g (evr x.world) (x.words p) 1 next.holds.placed_ever good_p).at is).1 in
            let v3 = with_word x.words d (read width.Byte x.world.memory (x.words p)) in
            let v4 = with_word v3 d 0xffff_ffff in
            let v5 = with_word v4 d (arith_of op.Add (v4 n) (v4 d)) in
            let w3 : FWorld = accessed_world (x.words p) 1 x.world in
            let w5 : FWorld = spend 5 (spend 3 w3) in
            let next5 : Nx u.world w5 = then_next g globals laws u.world x.world w5 next (then_next g globals laws x.world w3 w5 k (then_next g globals laws w3 (spend 3 w3) w5 (spend_next 3 w3 k.holds) (spend_next 5 (spend 3 w3) (spend_next 3 w3 k.holds).holds))) in
            let keeps : (v : ℕ) → v ≢ d → v5 v ≡ u.words v = λ v ne. set_other v4 d v (arith_of op.Add (v4 n) (v4 d)) ne ∙ set_other v3 d v 0xffff_ffff ne ∙ set_other x.words d v (read width.Byte x.world.memory (x.words p)) ne ∙ ap (λ (ws : Words). ws v) words ∙ v2_keeps v ne in
            let n_is : v4 n ≡ u.words n = set_other v3 d n 0xffff_ffff apart.np ∙ set_other x.words d n (read width.Byte x.world.memory (x.words p)) apart.np ∙ ap (λ (ws : Words). ws n) words ∙ v2_keeps n apart.np in
            let d_is : v5 d ≡ u.words n - 1 = set_same v4 d d (arith_of op.Add (v4 n) (v4 d)) refl ∙ ap (λ z. (z + v4 d) % 2 ^ 32) n_is ∙ ap (λ z. (u.words n + z) % 2 ^ 32) (set_same v3 d d 0xffff_ffff refl) ∙ less_one (u.words n) some small in
            let r = moved_on (point v5 w5) next5 live stack keeps d_is some small (subst (λ z. z < 2 ^ 31) p_is plain) (at_ + 1 + 1 + 1) in
            ((tt, tt, (tt, tt, r.0)), r.1)
          where
            less_one : (a : ℕ) → 1 ≤ a → a < 0x0100_0001 → (a + 0xffff_ffff) % 2 ^ 32 ≡ a - 1
            less_one a lo hi = omega (arith, lo, hi)

    -- the whole sequence
    abbrev touch_if : FSteps
    touch_if = FSteps.more (FStep.If n (touch_steps g p n q line d s e) FSteps.none) FSteps.none

    in_time : (x : FPoint) → x.words ≡ v2 → Nx u.world x.world → x.world.live ≡ u.world.live → x.world.stack ≡ u.world.stack → u.words n < 0x0100_0001 → (at_ : ℕ) → In touch_if at_ x × SL (go touch_if x)
    unfolding and_then
    in_time x words next live stack small at_ =
        let y : FPoint = point x.words (spend 6 x.world) in
        let next6 : Nx u.world y.world = then_next g globals laws u.world x.world y.world next (spend_next 6 x.world next.holds) in
        let r = by_zero (x.words n) (λ (r : Run Way). SL r) (go FSteps.none) (go (touch_steps g p n q line d s e)) y
        (λ z. record {
          kept = λ v nq nd ns ne. ap (λ (ws : Words). ws v) words ∙ v2_keeps v nd;
          next = next6;
          live = live;
          stack = stack;
          result = λ k. subst (Good g (evr y.world)) (sym (ap (λ (ws : Words). ws q) words ∙ v2_keeps q apart.move.qd)) k;
          spanned = inl (sym (n_is) ∙ z);
        })
        (λ some. (touched_first y words next6 live stack (positive some) small (at_ + 1)).1) in (
          (
            tt,
            claims_by_zero (x.words n) (In FSteps.none (at_ + 1 + steps_places (touch_steps g p n q line d s e))) (In (touch_steps g p n q line d s e) (at_ + 1)) y (λ z. tt) (λ some. (touched_first y words next6 live stack (positive some) small (at_ + 1)).0),
            if_on_any (act g call m bytes (FStep.If n (touch_steps g p n q line d s e) FSteps.none) y) (In FSteps.none (at_ + step_places (FStep.If n (touch_steps g p n q line d s e) FSteps.none))) (λ z. tt),
          ),
          subst SL (sym (Rattle.flat_discipline.proofs.Lands.one_step g call m bytes (FStep.If n (touch_steps g p n q line d s e) FSteps.none) x)) r,
        )
      where
        n_is : x.words n ≡ u.words n
        n_is = ap (λ (ws : Words). ws n) words ∙ v2_keeps n apart.np

        positive : x.words n ≢ 0 → 1 ≤ u.words n
        positive some = above (u.words n) (λ z. some (n_is ∙ z))
          where
            above : (k : ℕ) → k ≢ 0 → 1 ≤ k
            above k ne = omega (arith, ne)

    span_fares : In (span_sequence g p n q line d s e) at u × SL (go (span_sequence g p n q line d s e) u)
    unfolding and_then
    span_fares =
        let x : FPoint = point v2 (spend 6 (spend 5 (spend 3 u.world))) in
        let next : Nx u.world x.world = same_next g globals laws u.world x.world refl refl h.stack h in
        let r = by_zero (v2 d) (λ (r : Run Way). IfOn r (In touch_if (at + 1 + 1 + 2)) × SL (and_then r (λ way t. onward way t (go touch_if)))) (go (report Bounds line)) (go FSteps.none) x
        (λ z. (tt, (spend_next 4 x.world next.holds).holds))
        (λ some. in_time x refl next refl refl (below some) (at + 1 + 1 + 2)) in
        ((tt, tt, (tt, tt, (tt, claims_by_zero (v2 d) (In (report Bounds line) (at + 1 + 1 + 1 + 0)) (In FSteps.none (at + 1 + 1 + 1)) x (λ z. (tt, tt, tt)) (λ z. tt), r.0))), r.1)

  -- ---- After a sequence

  abbrev L : ℕ → Fact → Type 0
  L p x = LostAt g globals functions f p x

  record SequenceFared (x : Sequence) (u t : FPoint) : Type 0 where
    next : Nx u.world t.world
    live : t.world.live ≡ u.world.live
    stack : t.world.stack ≡ u.world.stack
    kept : (v : ℕ) → may_set x v ≡ false → t.words v ≡ u.words v
    given : (v : ℕ) → gives x v ≡ true → Good g (evr t.world) (t.words v)
    else_ : (v : ℕ) → gives x v ≡ false → is_among v (temporaries x) ≡ false → Good g (evr t.world) (u.words v) → Good g (evr t.world) (t.words v)
    spanned : (a n : ℕ) → spans x a n ≡ true → SpannedBy g t.world.live (t.words a) (t.words n)

  sequence_after : (x : Sequence) (h : Here) (p after : ℕ) (u t : FPoint) → edges g globals functions f h (Item.Checks x) p (Some after) → Ok p u → SequenceFared x u t → Ok after t
  sequence_after x h p after u t edge at fared =
      ok_after g globals functions f base w0 h (Item.Checks x) p after u t edge at (later g globals functions f base w0 u.world t.world at.kept fared.next.holds fared.next.grows fared.stack) fared.next.grows clean span
    where
      clean : (v : ℕ) → nat_lt v S.values ≡ true → Says g globals functions f base w0 u (evr t.world) (held_if (gives x v) (gone_if (is_among v (temporaries x)) (Source.From (Fact.Clean v)))) (t.words v)
      clean v in_ = by (gives x v) refl
        where
          by2 : gives x v ≡ false → (b : Bool) → is_among v (temporaries x) ≡ b → Says g globals functions f base w0 u (evr t.world) (gone_if b (Source.From (Fact.Clean v))) (t.words v)
          by2 no_ true e = tt
          by2 no_ false e = (in_, λ y. fared.else_ v no_ e y)

          by : (b : Bool) → gives x v ≡ b → Says g globals functions f base w0 u (evr t.world) (held_if b (gone_if (is_among v (temporaries x)) (Source.From (Fact.Clean v)))) (t.words v)
          by true e = fared.given v e
          by false e = by2 e (is_among v (temporaries x)) refl

      span : (a n : ℕ) → fact_in S (Fact.Spanned a n) ≡ true → SaysSpan g globals functions f base w0 u t (held_if (spans x a n) (gone_if (may_set x a || may_set x n) (Source.From (Fact.Spanned a n)))) a n
      span a n in_ = by (spans x a n) refl
        where
          by3 : may_set x a ≡ false → (b : Bool) → may_set x n ≡ b → SaysSpan g globals functions f base w0 u t (gone_if b (Source.From (Fact.Spanned a n))) a n
          by3 ka true e = tt
          by3 ka false e = (in_, λ y. subst (λ l. SpannedBy g l (t.words a) (t.words n)) (sym fared.live) (subst (λ z. SpannedBy g u.world.live z (t.words n)) (sym (fared.kept a ka)) (subst (λ z. SpannedBy g u.world.live (u.words a) z) (sym (fared.kept n e)) y)))

          by2 : (b : Bool) → may_set x a ≡ b → SaysSpan g globals functions f base w0 u t (gone_if (b || may_set x n) (Source.From (Fact.Spanned a n))) a n
          by2 true e = tt
          by2 false e = by3 e (may_set x n) refl

          by : (b : Bool) → spans x a n ≡ b → SaysSpan g globals functions f base w0 u t (held_if b (gone_if (may_set x a || may_set x n) (Source.From (Fact.Spanned a n)))) a n
          by true e = fared.spanned a n e
          by false e = by2 (may_set x a) refl

  -- none of two, and none of three
  or_false : (a b : Bool) → (a || b) ≡ false → (a ≡ false) × (b ≡ false)
  or_false true b h = absurd (true≢false h)
  or_false false b h = (refl, h)

  three_kept : (v q s e : ℕ) → ((v == q) || is_among v (s ∷ e ∷ [])) ≡ false → (v ≢ q) × (v ≢ s) × (v ≢ e)
  three_kept v q s e h =
      let a = or_false (v == q) (is_among v (s ∷ e ∷ [])) h in
      let b = or_false (v == s) (is_among v (e ∷ [])) a.1 in
      let c = or_false (v == e) (is_among v []) b.1 in
      (unequal v q a.0, unequal v s b.0, unequal v e c.0)

  -- the sequences of three values
  three_fared : (x : Sequence) (q s e : ℕ) (u t : FPoint) → ((v : ℕ) → may_set x v ≡ ((v == q) || is_among v (s ∷ e ∷ []))) → ((v : ℕ) → gives x v ≡ (v == q)) → ((v : ℕ) → is_among v (temporaries x) ≡ is_among v (s ∷ e ∷ [])) → ((a n : ℕ) → spans x a n ≡ false) → MoveWent q s e u t → SequenceFared x u t
  three_fared x q s e u t sets given_is temps none_ went = record {
    next = went.next;
    live = went.live;
    stack = went.stack;
    kept = λ v h. let k = three_kept v q s e (sym (sets v) ∙ h) in went.kept v k.0 k.1 k.2;
    given = λ v h. subst (λ z. Good g (evr t.world) (t.words z)) (sym (equal v q (sym (given_is v) ∙ h))) went.good;
    else_ = λ v h k y.
        let a = unequal v q (sym (given_is v) ∙ h) in
        let b = or_false (v == s) (is_among v (e ∷ [])) (sym (temps v) ∙ k) in
        let c = or_false (v == e) (is_among v []) b.1 in
        subst (Good g (evr t.world)) (sym (went.kept v a (unequal v s b.0) (unequal v e c.0))) y;
    spanned = λ a n h. absurd (true≢false (sym h ∙ none_ a n));
  }

  abbrev pub CheckFares : Sequence → Here → (p after : ℕ) → List ℕ → FPoint → Type 0
  CheckFares x h p after exits u = In (sequence_steps g x) p u × Lands g globals functions f base w0 after exits (λ v. HereHolds g globals functions f base w0 untold v.words) (go (sequence_steps g x) u)

  three_landed : (x : Sequence) (h : Here) (p after : ℕ) (exits : List ℕ) (u : FPoint) (q s e : ℕ) → edges g globals functions f h (Item.Checks x) p (Some after) → Ok p u
      → ((t : FPoint) → MoveWent q s e u t → SequenceFared x u t) → (r : Run Way) → MoveLands q s e u r → Lands g globals functions f base w0 after exits (λ v. HereHolds g globals functions f base w0 untold v.words) r
  three_landed x h p after exits u q s e edge at to (Answer.Goes Way.On t) l = (sequence_after x h p after u t edge at (to t l), untold_holds g globals functions f base w0 t.words)
  three_landed x h p after exits u q s e edge at to (Answer.Goes (Way.Out n) t) l = absurd l
  three_landed x h p after exits u q s e edge at to (Answer.Goes (Way.Back n) t) l = absurd l
  three_landed x h p after exits u q s e edge at to (Answer.Ends ending t) l = l

  span_fared : (p n q line d s e : ℕ) → SpanApart p n q line d s e → (u t : FPoint) → SpanFared p n q d s e u t → SequenceFared (Sequence.Span p n q line d s e) u t
  span_fared p n q line d s e apart u t went = record {
    next = went.next;
    live = went.live;
    stack = went.stack;
    kept = λ v h.
        let a = or_false (v == q) (is_among v (d ∷ s ∷ e ∷ [])) h in
        let b = or_false (v == d) (is_among v (s ∷ e ∷ [])) a.1 in
        let c = or_false (v == s) (is_among v (e ∷ [])) b.1 in
        let k = or_false (v == e) (is_among v []) c.1 in
        went.kept v (unequal v q a.0) (unequal v d b.0) (unequal v s c.0) (unequal v e k.0);
    given = λ v h. absurd (true≢false (sym h));
    else_ = λ v h k y.
        let b = or_false (v == d) (is_among v (s ∷ e ∷ [])) k in
        let c = or_false (v == s) (is_among v (e ∷ [])) b.1 in
        let j = or_false (v == e) (is_among v []) c.1 in
        ⊎_elim
        (λ i. subst (λ z. Good g (evr t.world) (t.words z)) (sym i.1) (went.result (subst (λ z. Good g (evr t.world) (u.words z)) i.1 y)))
        (λ i. subst (Good g (evr t.world)) (sym (went.kept v i.1 (unequal v d b.0) (unequal v s c.0) (unequal v e j.0))) y)
        (eqb_tells v q);
    spanned = λ a m h.
        let k = both (a == p) (m == n) h in
        let ap_ = equal a p k.0 in
        let mn = equal m n k.1 in
        let keep_p : t.words p ≡ u.words p = went.kept p (λ z. apart.move.qp (sym z)) (λ z. apart.dp (sym z)) (λ z. apart.move.sp (sym z)) (λ z. apart.move.ep (sym z)) in
        let keep_n : t.words n ≡ u.words n = went.kept n apart.nq apart.np apart.ns apart.ne in
        subst (λ z. SpannedBy g t.world.live (t.words z) (t.words m)) (sym ap_) (subst (λ z. SpannedBy g t.world.live (t.words p) (t.words z)) (sym mn)
        (subst (λ z. SpannedBy g t.world.live z (t.words n)) (sym keep_p) (subst (λ z. SpannedBy g t.world.live (u.words p) z) (sym keep_n) went.spanned)));
  }

  span_landed : (p n q line d s e : ℕ) → SpanApart p n q line d s e → (h : Here) (at after : ℕ) (exits : List ℕ) (u : FPoint) → edges g globals functions f h (Item.Checks (Sequence.Span p n q line d s e)) at (Some after) → Ok at u → (r : Run Way) → SpanLands p n q d s e u r → Lands g globals functions f base w0 after exits (λ v. HereHolds g globals functions f base w0 untold v.words) r
  span_landed p n q line d s e apart h at after exits u edge ok (Answer.Goes Way.On t) l = (sequence_after (Sequence.Span p n q line d s e) h at after u t edge ok (span_fared p n q line d s e apart u t l), untold_holds g globals functions f base w0 t.words)
  span_landed p n q line d s e apart h at after exits u edge ok (Answer.Goes (Way.Out k) t) l = absurd l
  span_landed p n q line d s e apart h at after exits u edge ok (Answer.Goes (Way.Back k) t) l = absurd l
  span_landed p n q line d s e apart h at after exits u edge ok (Answer.Ends ending t) l = l

  pub check_fares : (x : Sequence) (h : Here) (p after : ℕ) (exits : List ℕ) (u : FPoint) → edges g globals functions f h (Item.Checks x) p (Some after) → is_apart x ≡ true → nat_lt (Rattle.flat_discipline.specs.Breaks.pointer x) S.values ≡ true → (L p (Fact.Clean (Rattle.flat_discipline.specs.Breaks.pointer x)) → ⊥) → Ok p u → CheckFares x h p after exits u
  check_fares (Sequence.Move p d q line s e) h at after exits u edge apart in_ fine ok =
      let good = ok.good p in_ fine in
      let x = Sequence.Move p d q line s e in (
        move_in p d q line s e at u ok.kept.holds good,
        three_landed x h at after exits u q s e edge ok (λ t w. three_fared x q s e u t (λ v. refl) (λ v. refl) (λ v. refl) (λ a n. refl) w) (go (sequence_steps g x) u) (move_lands p d q line s e (move_apart p d q line s e apart) u ok.kept.holds good),
      )
  check_fares (Sequence.Load w a line s e) h at after exits u edge apart in_ fine ok =
      let good = ok.good a in_ fine in
      let x = Sequence.Load w a line s e in
      let la = load_apart w a line s e apart in (
        load_in w a line s e at la.es u ok.kept.holds good,
        three_landed x h at after exits u w s e edge ok (λ t k. three_fared x w s e u t (λ v. refl) (λ v. refl) (λ v. refl) (λ b n. refl) k) (go (sequence_steps g x) u) (load_lands w a line s e la u ok.kept.holds good),
      )
  check_fares (Sequence.Span p n q line d s e) h at after exits u edge apart in_ fine ok =
      let good = ok.good p in_ fine in
      let sa = span_apart p n q line d s e apart in
      let r = span_fares p n q line d s e at sa u ok.kept.holds good in
      (r.0, span_landed p n q line d s e sa h at after exits u edge ok (go (sequence_steps g (Sequence.Span p n q line d s e)) u) r.1)
