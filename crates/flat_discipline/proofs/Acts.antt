-- Accesses, and the calls of the environment, in safe worlds.
use Rattle.std.proofs.Common.{◌≡◌, ◌≢◌, ◌⊎◌, ℕ, ◌+◌, ◌-◌, ◌*◌, ◌/◌, ◌%◌, ◌^◌, ◌<◌, ◌≤◌, List, [], ◌∷◌, Option, Some, None, Bool, true, false, inl, inr, refl, sym, ap, ◌∙◌, subst, ⊎_elim, arith, true≢false, pow_pos, pow-add, mul_assoc, nat_lt, nat_le}
use Rattle.std.specs.Prelude.{◌==◌, is_some, if◌then◌else◌}
use Rattle.std.proofs.Math.Nat.{mul-le-mul_left}
use Rattle.std.proofs.lemmas.Bool.{cases_lt}
use Rattle.std.proofs.lemmas.Bool.Decides.{eqb_tells}
use Rattle.std.proofs.lemmas.Nat.{div-add-mod'}
use Rattle.bb_words.specs.Answers.{Answer}
use Rattle.bb_words.specs.Numbers.{all_ones}
use Rattle.bb_words.specs.Steps.{size_of_width}
use Rattle.bb_words.specs.declared.steps.Width.{Width}
use Rattle.bb_words.specs.declared.steps.Width.TheVariants as width
use Rattle.bb_words.specs.declared.kinds.TrapKind.TheVariants as trap
use Rattle.bb_watch.specs.Safety.{LieIn, WasFreed}
use Rattle.marked_ptr.specs.Laws.{IsPlaced}
use Rattle.size_table.specs.declared.memory_map.TheConstants.{TEXT_START, TABLE_START, MEMORY_END, MOST_BYTES}
use Rattle.size_table.specs.Blocks.{Block, block_at, end_of}
use Rattle.size_table.specs.Pads.{exponent_of}
use Rattle.buddy_heap.specs.Places.{place_of, IsPlaceOf}
use Rattle.flat_code.specs.Told.{Tell}
use Rattle.flat_code.specs.World.{with_word, FWorld, FPoint, point, put, tell, choose, Ending, Run, Way}
use Rattle.flat_code.specs.Accounts.{make, end, allot, malloc, heap_block, give_back, free}
use Rattle.flat_code.specs.Safety.{live_after, ever_after, IsSafe}
use Rattle.flat_code.specs.Run.{refusal, get, environment}
use Rattle.flat_discipline.proofs.Blocks.{le_of, lt_of, ge_of, gt_of, in_slots, ArePlaced, is_held, Within, holds_slot, holds_address, holder_of, no_holder, lies_in_block, Good, good_address, plain_owner}
use Rattle.flat_discipline.proofs.Worlds.{Laws, ever, Holds, ever_is, told_holds, Next, same_next, made_next, made_held, ended_next}

-- ---- How accesses end

some_is : {A : Type 0} (a b : A) → Some a ≡ Some b → a ≡ b
some_is a b h = cc

-- where a good word is an address, some block that lives or lived has it
pub good_block : (g : ℕ) (evers : List Block) (a : ℕ) → ArePlaced g evers → Good g evers a → 1 ≤ a → a < 2 ^ 31 → (is_held g evers (a / 2 ^ g) ≡ true) × (0xA00000 ≤ a) × (a < 0x2000000)
good_block g evers a are (inl z) some small = absurd (let n : ⊥ = omega (arith, z, some) in n)
good_block g evers a are (inr h) some small =
    let same : h.0 ≡ a / 2 ^ g = some_is h.0 (a / 2 ^ g) (sym h.1 ∙ plain_owner g a small) in
    let held : is_held g evers (a / 2 ^ g) ≡ true = subst (λ x. is_held g evers x ≡ true) same h.2 in
    let r = holder_of g evers (a / 2 ^ g) are held in
    let at = holds_address g r.block a r.has in
    (held, omega (arith, r.placed.low, at.0), omega (arith, at.1, r.placed.high))

-- an access of a good word is never cut off; where it is made, its address is one
pub record Accessed (a size : ℕ) (o : Option Ending) : Type 0 where
  pub not_cut : o ≢ Some Ending.Cut
  pub at : o ≡ None → (1 ≤ a) × (a < 2 ^ 31) × (a % size ≡ 0)

trap_is_not : (k : Rattle.bb_words.specs.declared.kinds.TrapKind.TrapKind) → Some (Ending.Trapped k) ≢ Some Ending.Cut
trap_is_not k h = let z : ⊥ = cc in z

none_is_not : (o : Option Ending) → o ≡ None → o ≢ Some Ending.Cut
none_is_not o e h = let z : ⊥ = cc in z

trapped : (a size : ℕ) (k : Rattle.bb_words.specs.declared.kinds.TrapKind.TrapKind) → Accessed a size (Some (Ending.Trapped k))
trapped a size k = record { not_cut = trap_is_not k; at = λ h. absurd (let z : ⊥ = cc in z) }

pub accessed : (g : ℕ) (evers : List Block) (a size : ℕ) → ArePlaced g evers → Good g evers a → Accessed a size (refusal a size)
accessed g evers a size are good = null (nat_lt a TEXT_START) refl
  where
    aligned : (t : Bool) → (a % size == 0) ≡ t → 1 ≤ a → a < 2 ^ 31 → Accessed a size (if t then None else Some (Ending.Trapped trap.Misaligned))
    aligned true e some small = record { not_cut = none_is_not None refl; at = λ h. (some, small, ⊎_elim (λ k. k.1) (λ k. absurd (true≢false (sym e ∙ k.0))) (eqb_tells (a % size) 0)) }
    aligned false e some small = trapped a size trap.Misaligned

    text : (t : Bool) → nat_lt a TABLE_START ≡ t → 1 ≤ a → a < 2 ^ 31 → Accessed a size (if t then Some Ending.Cut else (if a % size == 0 then None else Some (Ending.Trapped trap.Misaligned)))
    text true e some small = absurd (let b = good_block g evers a are good some small in let l = lt_of a TABLE_START e in let z : ⊥ = omega (arith, b.1, l) in z)
    text false e some small = aligned (a % size == 0) refl some small

    past : (t : Bool) → nat_le MEMORY_END a ≡ t → 1 ≤ a → a < 2 ^ 31 → Accessed a size (if t then Some Ending.Cut else (if nat_lt a TABLE_START then Some Ending.Cut else (if a % size == 0 then None else Some (Ending.Trapped trap.Misaligned))))
    past true e some small = absurd (let b = good_block g evers a are good some small in let l = le_of MEMORY_END a e in let z : ⊥ = omega (arith, b.2, l) in z)
    past false e some small = text (nat_lt a TABLE_START) refl some small

    marked : (t : Bool) → nat_le (2 ^ 31) a ≡ t → 1 ≤ a → Accessed a size (if t then Some (Ending.Trapped trap.Marked) else (if nat_le MEMORY_END a then Some Ending.Cut else (if nat_lt a TABLE_START then Some Ending.Cut else (if a % size == 0 then None else Some (Ending.Trapped trap.Misaligned)))))
    marked true e some = trapped a size trap.Marked
    marked false e some = past (nat_le MEMORY_END a) refl some (gt_of (2 ^ 31) a e)

    null : (t : Bool) → nat_lt a TEXT_START ≡ t → Accessed a size (if t then Some (Ending.Trapped trap.Null) else (if nat_le (2 ^ 31) a then Some (Ending.Trapped trap.Marked) else (if nat_le MEMORY_END a then Some Ending.Cut else (if nat_lt a TABLE_START then Some Ending.Cut else (if a % size == 0 then None else Some (Ending.Trapped trap.Misaligned))))))
    null true e = trapped a size trap.Null
    null false e = marked (nat_le (2 ^ 31) a) refl (let l = ge_of a TEXT_START e in omega (arith, l))

-- ---- Accesses are safe

-- an access of a size that divides a slot's, at a multiple of it, ends in the block where it begins
ends_within : (size a end k : ℕ) → 0 < size → a % size ≡ 0 → a < end → end ≡ k * size → a + size ≤ end
ends_within size a end k some aligned lt is =
    let q = a / size in
    let whole : q * size + a % size ≡ a = div-add-mod' a size in
    by (cases_lt q k) q (omega (arith, whole, aligned)) (omega (arith, lt, is))
  where
    comm : (x y : ℕ) → x * y ≡ y * x
    comm x y = grind arith

    plus_one : (x y : ℕ) → (x + 1) * y ≡ x * y + y
    plus_one x y = grind arith

    by : ((a / size < k) ⊎ (k ≤ a / size)) → (q : ℕ) → a ≡ (a / size) * size → a < k * size → a + size ≤ end
    by (inl l) q at up =
        let z : size * (a / size + 1) ≤ size * k = mul-le-mul_left size (let y : a / size + 1 ≤ k = omega (arith, l) in y) in
        omega (arith, z, at, is, comm size (a / size + 1), comm size k, plus_one (a / size) size)
    by (inr l) q at up =
        let z : size * k ≤ size * (a / size) = mul-le-mul_left size l in
        absurd (let n : ⊥ = omega (arith, z, at, up, comm size k, comm size (a / size)) in n)

-- a slot has so many accesses of a width
pub width_divides : (g : ℕ) → 2 ≤ g → (w : Width) → (k : ℕ) × (2 ^ g ≡ k * size_of_width w) × (0 < size_of_width w)
width_divides g low w =
    let four : 2 ^ g ≡ 4 * 2 ^ (g - 2) = (let z : g ≡ 2 + (g - 2) = omega (arith, low) in ap (λ n. 2 ^ n) z ∙ pow-add 2 2 (g - 2)) in
    by w four
  where
    by : (w : Width) → 2 ^ g ≡ 4 * 2 ^ (g - 2) → (k : ℕ) × (2 ^ g ≡ k * size_of_width w) × (0 < size_of_width w)
    by width.Byte four = (4 * 2 ^ (g - 2), omega (arith, four), omega arith)
    by width.Half four = (2 * 2 ^ (g - 2), omega (arith, four), omega arith)
    by width.SignedHalf four = (2 * 2 ^ (g - 2), omega (arith, four), omega arith)
    by width.Word four = (2 ^ (g - 2), omega (arith, four), omega arith)
    by width.Pointer four = (2 ^ (g - 2), omega (arith, four), omega arith)

pub access_safe : (g : ℕ) (live evers : List Block) (a size k : ℕ) (write : Bool) → 2 ^ g ≡ k * size → 0 < size → ArePlaced g live → ArePlaced g evers → Good g evers a → 1 ≤ a → a < 2 ^ 31 → a % size ≡ 0 → IsSafe g live evers (Tell.Access a size write)
access_safe g live evers a size k write divides some are are_ever good positive small aligned = by (is_held g live (a / 2 ^ g)) refl
  where
    times : (x y z : ℕ) → x * (y * z) ≡ x * y * z
    times x y z = sym (mul_assoc x y z)

    sum_of : (x y z : ℕ) → x * z + y * z ≡ (x + y) * z
    sum_of x y z = grind arith

    by : (t : Bool) → is_held g live (a / 2 ^ g) ≡ t → LieIn a size live ⊎ WasFreed g live evers (a / 2 ^ g)
    by true h =
        let r = holder_of g live (a / 2 ^ g) are h in
        let at = holds_address g r.block a r.has in
        let s = in_slots g r.block.base r.block.exponent r.placed in
        let end : end_of r.block ≡ (s.c + s.k) * k * size =
        (let z : end_of r.block ≡ s.c * 2 ^ g + s.k * 2 ^ g = omega (arith, s.from, s.bytes) in z) ∙ sum_of s.c s.k (2 ^ g) ∙ ap (λ w. (s.c + s.k) * w) divides ∙ times (s.c + s.k) k size in
        inl (lies_in_block g live a size are r.block r.is at.0 (ends_within size a (end_of r.block) ((s.c + s.k) * k) some aligned at.1 end))
    by false h =
        let b = good_block g evers a are_ever good positive small in
        let r = holder_of g evers (a / 2 ^ g) are_ever b.0 in
        inr ((no_holder g live (a / 2 ^ g) h).0, ap is_some r.is)

-- ---- The environment

module _ (g : ℕ) (globals : List Block) (laws : Laws) (slot : 1 ≤ g) (high : g ≤ 24) where
  -- what tells no block
  pub tell_next : (w : FWorld) (what : Tell) → Holds g globals w → live_after what w.live ≡ w.live → ever_after what (ever g globals w) ≡ ever g globals w → IsSafe g w.live (ever g globals w) what → Next g globals laws w (tell what w)
  tell_next w what h live same safe = record {
    holds = told_holds g globals laws w (tell what w) w.time what refl h (sym live) safe (subst (ArePlaced g) (sym live) h.placed) (subst (ArePlaced g) (sym same) h.placed_ever)
        (subst (λ l. Within g l (ever_after what (ever g globals w))) (sym live) (subst (Within g w.live) (sym same) h.within)) h.stack;
    grows = λ s x. subst (λ l. is_held g l s ≡ true) (sym (ever_is g globals laws w (tell what w) w.time what refl ∙ same)) x;
  }

  -- a call of the environment has set a value to a word
  pub record EnvWent (u : FPoint) (to call : ℕ) (t : FPoint) : Type 0 where
    pub word : ℕ
    pub words : t.words ≡ with_word u.words to word
    pub next : Next g globals laws u.world t.world
    pub stack : t.world.stack ≡ u.world.stack
    pub good : call ≡ 4 → Good g (ever g globals t.world) word

  abbrev pub EnvLands : (u : FPoint) (to call : ℕ) → Run Way → Type 0
  EnvLands u to call (Answer.Goes Way.On t) = EnvWent u to call t
  EnvLands u to call (Answer.Goes (Way.Out n) t) = ⊥
  EnvLands u to call (Answer.Goes (Way.Back n) t) = ⊥
  EnvLands u to call (Answer.Ends e t) = Holds g globals t.world

  stays_next : (w : FWorld) → Holds g globals w → Next g globals laws w w
  stays_next w h = record { holds = h; grows = λ s x. x }

  module _ (u : FPoint) (h : Holds g globals u.world) (to : ℕ) where
    got : (input : List ℕ) (call : ℕ) → call ≢ 4 → EnvWent u to call (get to input u)
    got [] call ne = record { word = all_ones; words = refl; next = stays_next u.world h; stack = refl; good = λ e. absurd (ne e) }
    got (b ∷ bs) call ne = record { word = b; words = refl; next = same_next g globals laws u.world (record u.world { input = bs }) refl refl h.stack h; stack = refl; good = λ e. absurd (ne e) }

    wrote : (a call : ℕ) → call ≢ 4 → EnvWent u to call (put to (a % 256) (point u.words (tell (Tell.Output (a % 256)) u.world)))
    wrote a call ne = record { word = a % 256; words = refl; next = tell_next u.world (Tell.Output (a % 256)) h refl refl tt; stack = refl; good = λ e. absurd (ne e) }

    -- a block that is made in the heap is placed
    allotted : (size call : ℕ) → size ≤ MOST_BYTES → (o : Option ℕ) → IsPlaceOf u.world.live (exponent_of g size) o → EnvWent u to call (allot to (exponent_of g size) o u)
    allotted size call small None k = record { word = 0; words = refl; next = stays_next u.world h; stack = refl; good = λ e. inl refl }
    allotted size call small (Some p) k =
        let x = laws.exponents g size high small in
        let b = block_at p (exponent_of g size) in
        let top : exponent_of g size ≤ 24 = x.least 24 high small in
        let placed : IsPlaced g p (exponent_of g size) = record { slot = slot; least = x.slot; most = top; aligned = k.0.aligned; low = (let z = k.0.low in omega (arith, z)); high = k.0.high } in
        let room : 0 < 2 ^ exponent_of g size = pow_pos (exponent_of g size) in
        record {
          word = p;
          words = refl;
          next = made_next g globals laws u.world b h placed;
          stack = refl;
          good = λ e. good_address g (ever g globals (make b u.world)) p (let z = k.0.high in omega (arith, z)) (made_held g globals laws u.world b (p / 2 ^ g) (holds_slot g b p placed (omega arith) (omega (arith, room))));
        }

    given : (size call : ℕ) → EnvWent u to call (malloc g to size u)
    given size call = by (nat_lt MOST_BYTES size) refl
      where
        by : (t : Bool) → nat_lt MOST_BYTES size ≡ t → EnvWent u to call (choose t (λ t. put to 0 t) (λ t. allot to (exponent_of g size) (place_of t.world.live (exponent_of g size)) t) u)
        by true e = record { word = 0; words = refl; next = stays_next u.world h; stack = refl; good = λ e. inl refl }
        by false e =
            let small : size ≤ MOST_BYTES = ge_of MOST_BYTES size e in
            let x = laws.exponents g size high small in
            allotted size call small (place_of u.world.live (exponent_of g size)) (laws.places u.world.live (exponent_of g size) (x.least 24 high small))

    freed : (a line call : ℕ) → call ≢ 4 → EnvLands u to call (free a line (put to a u))
    freed a line call ne = by (a == 0)
      where
        back : (o : Option Block) → EnvLands u to call (give_back line o (put to a u))
        back None = h
        back (Some b) = record { word = a; words = refl; next = ended_next g globals laws u.world b h; stack = refl; good = λ e. absurd (ne e) }

        by : (t : Bool) → EnvLands u to call (choose t (λ t. Answer.Goes Way.On t) (λ t. give_back line (heap_block a t.world.live) t) (put to a u))
        by true = record { word = a; words = refl; next = stays_next u.world h; stack = refl; good = λ e. absurd (ne e) }
        by false = back (heap_block a u.world.live)

    pub env_lands : (call a b : ℕ) → EnvLands u to call (environment g to call a b u)
    env_lands call a b = one (call == 1)
      where
        five : (t : Bool) → call ≢ 4 → EnvLands u to call (choose t (λ u. free a b (put to a u)) (λ u. Answer.Ends Ending.Cut u) u)
        five true ne = freed a b call ne
        five false ne = h

        four : ((call == 4) ≡ true) × (call ≡ 4) ⊎ ((call == 4) ≡ false) × (call ≢ 4) → EnvLands u to call (choose (call == 4) (λ u. Answer.Goes Way.On (malloc g to a u)) (choose (call == 5) (λ u. free a b (put to a u)) (λ u. Answer.Ends Ending.Cut u)) u)
        four (inl e) = subst (λ t. EnvLands u to call (choose t (λ u. Answer.Goes Way.On (malloc g to a u)) (choose (call == 5) (λ u. free a b (put to a u)) (λ u. Answer.Ends Ending.Cut u)) u)) (sym e.0) (given a call)
        four (inr e) = subst (λ t. EnvLands u to call (choose t (λ u. Answer.Goes Way.On (malloc g to a u)) (choose (call == 5) (λ u. free a b (put to a u)) (λ u. Answer.Ends Ending.Cut u)) u)) (sym e.0) (five (call == 5) e.1)

        three : ((call == 3) ≡ true) × (call ≡ 3) ⊎ ((call == 3) ≡ false) × (call ≢ 3) → EnvLands u to call (choose (call == 3) (λ u. Answer.Goes Way.On (put to (a % 256) (point u.words (tell (Tell.Output (a % 256)) u.world)))) (choose (call == 4) (λ u. Answer.Goes Way.On (malloc g to a u)) (choose (call == 5) (λ u. free a b (put to a u)) (λ u. Answer.Ends Ending.Cut u))) u)
        three (inl e) = subst (λ t. EnvLands u to call (choose t (λ u. Answer.Goes Way.On (put to (a % 256) (point u.words (tell (Tell.Output (a % 256)) u.world)))) (choose (call == 4) (λ u. Answer.Goes Way.On (malloc g to a u)) (choose (call == 5) (λ u. free a b (put to a u)) (λ u. Answer.Ends Ending.Cut u))) u)) (sym e.0) (wrote a call (λ k. let z : ⊥ = omega (arith, e.1, k) in z))
        three (inr e) = subst (λ t. EnvLands u to call (choose t (λ u. Answer.Goes Way.On (put to (a % 256) (point u.words (tell (Tell.Output (a % 256)) u.world)))) (choose (call == 4) (λ u. Answer.Goes Way.On (malloc g to a u)) (choose (call == 5) (λ u. free a b (put to a u)) (λ u. Answer.Ends Ending.Cut u))) u)) (sym e.0) (four (eqb_tells call 4))

        two : ((call == 2) ≡ true) × (call ≡ 2) ⊎ ((call == 2) ≡ false) × (call ≢ 2) → EnvLands u to call (choose (call == 2) (λ u. Answer.Goes Way.On (get to u.world.input u)) (choose (call == 3) (λ u. Answer.Goes Way.On (put to (a % 256) (point u.words (tell (Tell.Output (a % 256)) u.world)))) (choose (call == 4) (λ u. Answer.Goes Way.On (malloc g to a u)) (choose (call == 5) (λ u. free a b (put to a u)) (λ u. Answer.Ends Ending.Cut u)))) u)
        two (inl e) = subst (λ t. EnvLands u to call (choose t (λ u. Answer.Goes Way.On (get to u.world.input u)) (choose (call == 3) (λ u. Answer.Goes Way.On (put to (a % 256) (point u.words (tell (Tell.Output (a % 256)) u.world)))) (choose (call == 4) (λ u. Answer.Goes Way.On (malloc g to a u)) (choose (call == 5) (λ u. free a b (put to a u)) (λ u. Answer.Ends Ending.Cut u)))) u)) (sym e.0) (got u.world.input call (λ k. let z : ⊥ = omega (arith, e.1, k) in z))
        two (inr e) = subst (λ t. EnvLands u to call (choose t (λ u. Answer.Goes Way.On (get to u.world.input u)) (choose (call == 3) (λ u. Answer.Goes Way.On (put to (a % 256) (point u.words (tell (Tell.Output (a % 256)) u.world)))) (choose (call == 4) (λ u. Answer.Goes Way.On (malloc g to a u)) (choose (call == 5) (λ u. free a b (put to a u)) (λ u. Answer.Ends Ending.Cut u)))) u)) (sym e.0) (three (eqb_tells call 3))

        one : (t : Bool) → EnvLands u to call (choose t (λ u. Answer.Ends (Ending.Exited a) u) (choose (call == 2) (λ u. Answer.Goes Way.On (get to u.world.input u)) (choose (call == 3) (λ u. Answer.Goes Way.On (put to (a % 256) (point u.words (tell (Tell.Output (a % 256)) u.world)))) (choose (call == 4) (λ u. Answer.Goes Way.On (malloc g to a u)) (choose (call == 5) (λ u. free a b (put to a u)) (λ u. Answer.Ends Ending.Cut u))))) u)
        one true = h
        one false = two (eqb_tells call 2)
