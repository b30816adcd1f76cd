-- Worlds in which all that was told is safe, and how blocks come and go in them.
use Rattle.std.proofs.Common.{◌≡◌, ◌⊎◌, ℕ, ◌+◌, ◌-◌, ◌*◌, ◌/◌, ◌%◌, ◌^◌, ◌<◌, ◌≤◌, List, [], ◌∷◌, ◌++◌, Bool, true, false, cond, inl, inr, refl, sym, ap, ◌∙◌, subst, arith, true≢false, pow_pos, pow-add, mul_assoc, nat_lt, nat_le}
use Rattle.std.specs.Prelude.{◌==◌, ◌&&◌, ◌||◌}
use Rattle.std.proofs.Math.Pow.{pow_mono}
use Rattle.std.proofs.lemmas.Bool.{cases_lt}
use Rattle.std.proofs.lemmas.Nat.{div-add-mod', mod-mul-add}
use Rattle.marked_ptr.specs.Laws.{IsPlaced, OwnerIsBlock, MovesAreOffsets, MovesStayInReach}
use Rattle.size_table.specs.declared.memory_map.TheConstants.{GLOBALS_START, HEAP_START, MEMORY_END}
use Rattle.size_table.specs.Blocks.{Block, block_at, holds, without}
use Rattle.size_table.specs.Made.{blocks_from}
use Rattle.size_table.specs.Pads.{ExponentIsLeast}
use Rattle.buddy_heap.specs.Places.{PlaceIsLeast}
use Rattle.flat_code.specs.Told.{Tell, tells}
use Rattle.flat_code.specs.World.{FWorld}
use Rattle.flat_code.specs.Accounts.{make, end, make_all, end_all, frame_size}
use Rattle.flat_code.specs.Safety.{live_after, ever_after, live_of, ever_of, IsSafe, AllSafe}
use Rattle.flat_code_laws.specs.Laws.{TellsAppend, LiveAppends, EverAppends, SafeAppends, MoveSequenceMoves, LoadSequenceLoads, LoadSequenceStops}
use Rattle.flat_discipline.specs.Facts.{lies_in, reach_past}
use Rattle.flat_discipline.specs.Safe.{Decline, AreGlobals}
use Rattle.flat_discipline.proofs.Blocks.{le_of, lt_of, ArePlaced, is_held, Within, placed_append, held_left, held_right, held_append, holds_slot}

-- the laws of the crates below that are used
pub record Laws : Type 0 where
  pub tells_append : TellsAppend
  pub live_appends : LiveAppends
  pub ever_appends : EverAppends
  pub safe_appends : SafeAppends
  pub moves : MoveSequenceMoves
  pub loads : LoadSequenceLoads
  pub stops : LoadSequenceStops
  pub offsets : MovesAreOffsets
  pub reach : MovesStayInReach
  pub owners : OwnerIsBlock
  pub exponents : ExponentIsLeast
  pub places : PlaceIsLeast

-- ---- Blocks one after another

less_exponent : (a b : ℕ) → a ≤ b → (n : ℕ) → n % 2 ^ b ≡ 0 → n % 2 ^ a ≡ 0
less_exponent a b le n h =
    let r = 2 ^ (b - a) in
    let size : 2 ^ b ≡ r * 2 ^ a = (let z : b ≡ (b - a) + a = omega arith in ap (λ k. 2 ^ k) z ∙ pow-add 2 (b - a) a) in
    let d = n / 2 ^ b in
    let whole : d * 2 ^ b + n % 2 ^ b ≡ n = div-add-mod' n (2 ^ b) in
    let is : n ≡ (d * r) * 2 ^ a = (let z : n ≡ d * 2 ^ b = omega (arith, whole, h) in z ∙ ap (λ k. d * k) size ∙ sym (mul_assoc d r (2 ^ a))) in
    ap (λ k. k % 2 ^ a) is ∙ times_over (d * r) (2 ^ a) (pow_pos a)
  where
    times_over : (k w : ℕ) → 0 < w → (k * w) % w ≡ 0
    times_over k w some = ap (λ n. n % w) (let z : k * w ≡ k * w + 0 = omega arith in z) ∙ mod-mul-add k w 0 some

next_aligned : (e n : ℕ) → n % 2 ^ e ≡ 0 → (n + 2 ^ e) % 2 ^ e ≡ 0
next_aligned e n h = one_further n (2 ^ e) (pow_pos e) h
  where
    one_further : (n w : ℕ) → 0 < w → n % w ≡ 0 → (n + w) % w ≡ 0
    one_further n w some h = grind arith

-- blocks of declining sizes are placed
pub decline_placed : (g most : ℕ) (es : List ℕ) (base : ℕ) → 1 ≤ g → most ≤ 24 → Decline g most es → base % 2 ^ most ≡ 0 → GLOBALS_START ≤ base → base + frame_size es ≤ MEMORY_END → ArePlaced g (blocks_from base es)
decline_placed g most [] base slot small d aligned low high = tt
decline_placed g most (e ∷ es) base slot small d aligned low high =
    let at : base % 2 ^ e ≡ 0 = less_exponent e most d.1 base aligned in (
      record { slot = slot; least = d.0; most = omega (arith, d.1, small); aligned = at; low = low; high = (let z : base + 2 ^ e ≤ 0x2000000 = omega (arith, high) in z) },
      decline_placed g e es (base + 2 ^ e) slot (omega (arith, d.1, small)) d.2 (next_aligned e base at) (omega (arith, low)) (omega (arith, high)),
    )

-- an address among them is in a slot that they hold
pub frame_held : (g : ℕ) (es : List ℕ) (base o : ℕ) → ArePlaced g (blocks_from base es) → o < frame_size es → is_held g (blocks_from base es) ((base + o) / 2 ^ g) ≡ true
frame_held g [] base o are lt = absurd (let z : ⊥ = omega (arith, lt) in z)
frame_held g (e ∷ es) base o are lt = by (cases_lt o (2 ^ e)) (λ le. subst (λ a. is_held g (blocks_from (base + 2 ^ e) es) (a / 2 ^ g) ≡ true) (let z : base + 2 ^ e + (o - 2 ^ e) ≡ base + o = omega (arith, le) in z) (frame_held g es (base + 2 ^ e) (o - 2 ^ e) are.1 (omega (arith, lt, le))))
  where
    by : ((o < 2 ^ e) ⊎ (2 ^ e ≤ o)) → (2 ^ e ≤ o → is_held g (blocks_from (base + 2 ^ e) es) ((base + o) / 2 ^ g) ≡ true) → is_held g (blocks_from base (e ∷ es)) ((base + o) / 2 ^ g) ≡ true
    by (inl l) more = held_left g (block_at base e ∷ []) (blocks_from (base + 2 ^ e) es) ((base + o) / 2 ^ g) (ap (λ t. t || false) (holds_slot g (block_at base e) (base + o) are.0 (omega arith) (omega (arith, l))))
    by (inr l) more = held_right g (block_at base e ∷ []) (blocks_from (base + 2 ^ e) es) ((base + o) / 2 ^ g) (more l)

-- where an address of theirs lies
pub lies_from : (es : List ℕ) (base x : ℕ) → lies_in (blocks_from base es) x ≡ true → base ≤ x
lies_from [] base x h = absurd (true≢false (sym h))
lies_from (e ∷ es) base x h = by (nat_le base x) (nat_lt x (base + 2 ^ e)) refl h (λ k. let z : base + 2 ^ e ≤ x = lies_from es (base + 2 ^ e) x k in omega (arith, z))
  where
    by : (s t : Bool) → nat_le base x ≡ s → ((s && t) || lies_in (blocks_from (base + 2 ^ e) es) x) ≡ true → (lies_in (blocks_from (base + 2 ^ e) es) x ≡ true → base ≤ x) → base ≤ x
    by true t e1 k more = le_of base x e1
    by false t e1 k more = more k

pub reach_tells : (es : List ℕ) (base x : ℕ) → reach_past (blocks_from base es) x ≡ true → x < base + frame_size es
reach_tells [] base x h = absurd (true≢false (sym h))
reach_tells (e ∷ es) base x h = by (nat_lt x (base + 2 ^ e)) refl h (λ k. let z : x < base + 2 ^ e + frame_size es = reach_tells es (base + 2 ^ e) x k in omega (arith, z))
  where
    by : (s : Bool) → nat_lt x (base + 2 ^ e) ≡ s → (s || reach_past (blocks_from (base + 2 ^ e) es) x) ≡ true → (reach_past (blocks_from (base + 2 ^ e) es) x ≡ true → x < base + (2 ^ e + frame_size es)) → x < base + (2 ^ e + frame_size es)
    by true e1 k more = (let z : x < base + 2 ^ e = lt_of x (base + 2 ^ e) e1 in omega (arith, z))
    by false e1 k more = more k

-- the blocks of the global objects are placed
pub globals_placed : (g : ℕ) (globals : List Block) → 1 ≤ g → AreGlobals g globals → ArePlaced g globals
globals_placed g globals slot are = subst (ArePlaced g) (sym are.are) (lay are.exponents are.decline (omega (arith, are.fit)))
  where
    small_enough : (e : ℕ) → 2 ^ e ≤ 0x200000 → e ≤ 21
    small_enough e h = by (cases_lt 21 e)
      where
        by : ((21 < e) ⊎ (e ≤ 21)) → e ≤ 21
        by (inl l) = absurd (let up : 22 ≤ e = omega (arith, l) in let z : 2 ^ 22 ≤ 2 ^ e = pow_mono up in let n : ⊥ = omega (arith, z, h) in n)
        by (inr l) = l

    lay : (es : List ℕ) → Decline g 24 es → frame_size es ≤ 0x200000 → ArePlaced g (blocks_from GLOBALS_START es)
    lay [] d fit = tt
    lay (e ∷ es) d fit =
        let top : e ≤ 21 = small_enough e (omega (arith, fit)) in
        decline_placed g 21 (e ∷ es) GLOBALS_START slot (omega arith) (d.0, top, d.2) refl (omega arith) (omega (arith, fit))

-- ---- Worlds

module _ (g : ℕ) (globals : List Block) where
  -- the blocks that lived until now
  abbrev pub ever : FWorld → List Block
  ever w = ever_of globals (tells w.told)

  pub record Holds (w : FWorld) : Type 0 where
    pub live : w.live ≡ live_of globals (tells w.told)
    pub safe : AllSafe g globals globals (tells w.told)
    pub placed : ArePlaced g w.live
    pub placed_ever : ArePlaced g (ever w)
    pub within : Within g w.live (ever w)
    pub stack : w.stack ≤ HEAP_START

  pub within_refl : (bs : List Block) → Within g bs bs
  within_refl bs s h = h

  -- what another world with the same blocks and telling is
  pub same_holds : (w v : FWorld) → v.told ≡ w.told → v.live ≡ w.live → v.stack ≤ HEAP_START → Holds w → Holds v
  same_holds w v told live stack h = record {
    live = live ∙ h.live ∙ ap (λ t. live_of globals (tells t)) (sym told);
    safe = subst (λ t. AllSafe g globals globals (tells t)) (sym told) h.safe;
    placed = subst (ArePlaced g) (sym live) h.placed;
    placed_ever = subst (λ t. ArePlaced g (ever_of globals (tells t))) (sym told) h.placed_ever;
    within = subst (λ l. Within g l (ever v)) (sym live) (subst (λ t. Within g w.live (ever_of globals (tells t))) (sym told) h.within);
    stack = stack;
  }

  module _ (laws : Laws) where
    -- a world after one thing more was told
    module _ (w v : FWorld) (time : ℕ) (what : Tell) (told : v.told ≡ w.told ++ (record { time = time; what = what } ∷ [])) where
      one_told : tells v.told ≡ tells w.told ++ (what ∷ [])
      one_told = ap tells told ∙ laws.tells_append w.told (record { time = time; what = what } ∷ [])

      pub ever_is : ever v ≡ ever_after what (ever w)
      ever_is = ap (ever_of globals) one_told ∙ laws.ever_appends globals (tells w.told) (what ∷ [])

      pub told_holds : Holds w → v.live ≡ live_after what w.live → IsSafe g w.live (ever w) what → ArePlaced g (live_after what w.live) → ArePlaced g (ever_after what (ever w)) → Within g (live_after what w.live) (ever_after what (ever w)) → v.stack ≤ HEAP_START → Holds v
      told_holds h live safe placed placed_ever within stack = record {
        live = live ∙ ap (live_after what) h.live ∙ sym (ap (live_of globals) one_told ∙ laws.live_appends globals (tells w.told) (what ∷ []));
        safe = subst (AllSafe g globals globals) (sym one_told) ((laws.safe_appends g globals globals (tells w.told) (what ∷ [])).1 (h.safe, (subst (λ l. IsSafe g l (ever w) what) h.live safe, tt)));
        placed = subst (ArePlaced g) (sym live) placed;
        placed_ever = subst (ArePlaced g) (sym ever_is) placed_ever;
        within = subst (λ l. Within g l (ever v)) (sym live) (subst (Within g (live_after what w.live)) (sym ever_is) within);
        stack = stack;
      }

    -- a world after another
    pub record Next (w v : FWorld) : Type 0 where
      pub holds : Holds v
      pub grows : Within g (ever w) (ever v)

    pub then_next : (a b c : FWorld) → Next a b → Next b c → Next a c
    then_next a b c h k = record { holds = k.holds; grows = λ s x. k.grows s (h.grows s x) }

    pub same_next : (w v : FWorld) → v.told ≡ w.told → v.live ≡ w.live → v.stack ≤ HEAP_START → Holds w → Next w v
    same_next w v told live stack h = record { holds = same_holds w v told live stack h; grows = λ s x. subst (λ t. is_held g (ever_of globals (tells t)) s ≡ true) (sym told) x }

    -- ---- Blocks that come and go

    pub made_next : (w : FWorld) (b : Block) → Holds w → IsPlaced g b.base b.exponent → Next w (make b w)
    made_next w b h is = record {
      holds = told_holds w (make b w) w.time (Tell.Made b.base b.exponent) refl h refl tt (placed_append g w.live (b ∷ []) h.placed (is, tt)) (placed_append g (ever w) (b ∷ []) h.placed_ever (is, tt))
          (held_append g w.live (b ∷ []) (ever w ++ (b ∷ [])) (λ s x. held_left g (ever w) (b ∷ []) s (h.within s x)) (λ s x. held_right g (ever w) (b ∷ []) s x)) h.stack;
      grows = λ s x. subst (λ l. is_held g l s ≡ true) (sym (ever_is w (make b w) w.time (Tell.Made b.base b.exponent) refl)) (held_left g (ever w) (b ∷ []) s x);
    }

    pub made_held : (w : FWorld) (b : Block) (s : ℕ) → holds g b s ≡ true → is_held g (ever (make b w)) s ≡ true
    made_held w b s x = subst (λ l. is_held g l s ≡ true) (sym (ever_is w (make b w) w.time (Tell.Made b.base b.exponent) refl)) (held_right g (ever w) (b ∷ []) s (ap (λ t. t || false) x))

    placed_without : (at : ℕ) (bs : List Block) → ArePlaced g bs → ArePlaced g (without at bs)
    placed_without at [] h = tt
    placed_without at (b ∷ bs) h = by (b.base == at) (placed_without at bs h.1)
      where
        by : (t : Bool) → ArePlaced g (without at bs) → ArePlaced g (cond t bs (b ∷ without at bs))
        by true k = h.1
        by false k = (h.0, k)

    held_without : (at : ℕ) (bs : List Block) → Within g (without at bs) bs
    held_without at [] s x = x
    held_without at (b ∷ bs) s x = by (b.base == at) x (λ y. held_without at bs s y)
      where
        split : (p : Bool) → (p || is_held g (without at bs) s) ≡ true → (is_held g (without at bs) s ≡ true → is_held g bs s ≡ true) → (p || is_held g bs s) ≡ true
        split true y more = refl
        split false y more = more y

        by : (t : Bool) → is_held g (cond t bs (b ∷ without at bs)) s ≡ true → (is_held g (without at bs) s ≡ true → is_held g bs s ≡ true) → is_held g (b ∷ bs) s ≡ true
        by true y more = held_right g (b ∷ []) bs s y
        by false y more = split (holds g b s) y more

    pub ended_next : (w : FWorld) (b : Block) → Holds w → Next w (end b w)
    ended_next w b h = record {
      holds = told_holds w (end b w) w.time (Tell.Ended b.base b.exponent) refl h refl tt (placed_without b.base w.live h.placed) h.placed_ever
          (λ s x. h.within s (held_without b.base w.live s x)) h.stack;
      grows = λ s x. subst (λ l. is_held g l s ≡ true) (sym (ever_is w (end b w) w.time (Tell.Ended b.base b.exponent) refl)) x;
    }

    pub made_all_next : (bs : List Block) (w : FWorld) → Holds w → ArePlaced g bs → Next w (make_all bs w)
    made_all_next [] w h are = record { holds = h; grows = λ s x. x }
    made_all_next (b ∷ bs) w h are =
        let one = made_next w b h are.0 in
        then_next w (make b w) (make_all bs (make b w)) one (made_all_next bs (make b w) one.holds are.1)

    pub made_all_held : (bs : List Block) (w : FWorld) → Holds w → ArePlaced g bs → Within g bs (ever (make_all bs w))
    made_all_held [] w h are s x = absurd (true≢false (sym x))
    made_all_held (b ∷ bs) w h are s x =
        let one = made_next w b h are.0 in
        by (holds g b s) refl x (made_all_held bs (make b w) one.holds are.1 s) ((made_all_next bs (make b w) one.holds are.1).grows s)
      where
        by : (t : Bool) → holds g b s ≡ t → (t || is_held g bs s) ≡ true → (is_held g bs s ≡ true → is_held g (ever (make_all bs (make b w))) s ≡ true) → (is_held g (ever (make b w)) s ≡ true → is_held g (ever (make_all bs (make b w))) s ≡ true) → is_held g (ever (make_all bs (make b w))) s ≡ true
        by true e y more grows = grows (made_held w b s e)
        by false e y more grows = more y

    pub made_all_stack : (bs : List Block) (w : FWorld) → (make_all bs w).stack ≡ w.stack
    made_all_stack [] w = refl
    made_all_stack (b ∷ bs) w = made_all_stack bs (make b w)

    pub ended_all_next : (bs : List Block) (w : FWorld) → Holds w → Next w (end_all bs w)
    ended_all_next [] w h = record { holds = h; grows = λ s x. x }
    ended_all_next (b ∷ bs) w h =
        let one = ended_next w b h in
        then_next w (end b w) (end_all bs (end b w)) one (ended_all_next bs (end b w) one.holds)
