-- The events of blocks, one after the other.
use Rattle.std.proofs.Common.{◌≡◌, ℕ, ◌+◌, ◌-◌, ◌*◌, ◌%◌, ◌^◌, ◌<◌, ◌≤◌, Bool, true, false, cond, List, [], ◌∷◌, ◌++◌, length, get_or, Option, Some, None, refl, sym, ap, subst, ◌∙◌, arith}
use Rattle.std.specs.Prelude.{map, reverse, take}
use Rattle.std.specs.List.{AllByRecursion}
use Rattle.std.proofs.lemmas.List.{map-append, reverse-append, take_more}
use Rattle.std.proofs.Math.Seq.{take-length}
use Rattle.std.proofs.lemmas.Bool.{eq-eqb}
use Rattle.std.proofs.Math.Pow.{pow_mono}
use Rattle.bb_watch.specs.declared.event.Event.{Event}
use Rattle.rv_image.specs.Rules.{Decline, total_size}
use Rattle.rv_machine.specs.declared.frames.Entered.{Entered}
use Rattle.rv_machine.specs.Frames.{leave, left_to, not_left}
use Rattle.rv_machine.specs.State.{Frames}
use Rattle.rv_machine.specs.Environment.{made_event, ended_event}
use Rattle.rv_machine.specs.Events.{blocks_told, events_in, IsSmall, FitIn, LieInMemory}
use Rattle.size_table.specs.Blocks.{Block, block_at}
use Rattle.size_table.specs.Made.{blocks_from}

pub total_append : (es ds : List ℕ) → total_size (es ++ ds) ≡ total_size es + total_size ds
total_append [] ds = omega arith
total_append (e ∷ es) ds = let rest = total_append es ds in omega (arith, rest)

blocks_append : (base : ℕ) (es : List ℕ) (e : ℕ) → blocks_from base (es ++ e ∷ []) ≡ blocks_from base es ++ block_at (base + total_size es) e ∷ []
blocks_append base [] e = let same : base ≡ base + 0 = omega arith in ap (λ (n : ℕ). block_at n e ∷ []) same
blocks_append base (d ∷ es) e =
    let same : base + 2 ^ d + total_size es ≡ base + (2 ^ d + total_size es) = omega arith in
    ap (λ (bs : List Block). block_at base d ∷ bs) (blocks_append (base + 2 ^ d) es e ∙ ap (λ (n : ℕ). blocks_from (base + 2 ^ d) es ++ block_at n e ∷ []) same)

-- the last of some blocks ends first
pub last_ends : (end : ℕ) (es : List ℕ) (e : ℕ) → total_size (es ++ e ∷ []) ≤ end → blocks_told true end (es ++ e ∷ []) ≡ ended_event (block_at (end - 2 ^ e) e) ∷ blocks_told true (end - 2 ^ e) es
last_ends end es e h =
    let total = total_append es (e ∷ []) in
    let low : end - total_size (es ++ e ∷ []) ≡ end - 2 ^ e - total_size es = omega (arith, total, h) in
    let last : end - 2 ^ e - total_size es + total_size es ≡ end - 2 ^ e = omega (arith, total, h) in
    let base = end - 2 ^ e - total_size es in
    ap (λ (n : ℕ). map ended_event (reverse (blocks_from n (es ++ e ∷ [])))) low
    ∙ ap (λ (bs : List Block). map ended_event (reverse bs)) (blocks_append base es e ∙ ap (λ (n : ℕ). blocks_from base es ++ block_at n e ∷ []) last)
    ∙ ap (map ended_event) (reverse-append (blocks_from base es) (block_at (end - 2 ^ e) e ∷ []))

pub small_front : (es ds : List ℕ) → AllByRecursion IsSmall (es ++ ds) → AllByRecursion IsSmall es
small_front [] ds h = tt
small_front (e ∷ es) ds h = (h.0, small_front es ds h.1)

pub small_last : (es : List ℕ) (e : ℕ) → AllByRecursion IsSmall (es ++ e ∷ []) → IsSmall e
small_last [] e h = h.0
small_last (d ∷ es) e h = small_last es e h.1

pub shift_is : (e : ℕ) → e ≤ 24 → 1 * 2 ^ e % 4294967296 ≡ 2 ^ e
shift_is e h =
    let most : 2 ^ e ≤ 2 ^ 24 = pow_mono h in
    omega (arith, most)

-- what is known of the last of some blocks that end
pub record LastBlock (end : ℕ) (es : List ℕ) (e size : ℕ) (rest : List ℕ) : Type 0 where
  pub fits : size ≤ end
  pub invariant : LieInMemory true (end - size) rest
  pub told : blocks_told true end es ≡ ended_event (block_at (end - size) e) ∷ blocks_told true (end - size) rest

last_block : (end : ℕ) (rest : List ℕ) (e : ℕ) → LieInMemory true end (rest ++ e ∷ []) → LastBlock end (rest ++ e ∷ []) e (1 * 2 ^ e % 4294967296) rest
last_block end rest e h =
    let total = total_append rest (e ∷ []) in
    let fits : 2 ^ e + total_size rest ≤ end = omega (arith, total, h.1) in
    subst (λ (n : ℕ). LastBlock end (rest ++ e ∷ []) e n rest) (sym (shift_is e (small_last rest e h.0))) (record {
      fits = omega (arith, fits);
      invariant = (small_front rest (e ∷ []) h.0, omega (arith, fits));
      told = last_ends end rest e h.1;
    })

split_last : (es : List ℕ) → 1 ≤ length es → es ≡ take (length es - 1) es ++ get_or es (length es - 1) 0 ∷ []
split_last es l =
    let n : length es - 1 + 1 ≡ length es = omega (arith, l) in
    sym (take-length es) ∙ ap (λ (k : ℕ). take k es) (sym n) ∙ take_more es (length es - 1) 0 (omega (arith, l))

-- so it is by the way in which the last one is read
pub last_read : (ends : Bool) (end : ℕ) (es : List ℕ) → ends ≡ true → 1 ≤ length es → LieInMemory ends end es
    → LastBlock end es (get_or es (length es - 1) 0) (1 * 2 ^ get_or es (length es - 1) 0 % 4294967296) (take (length es - 1) es)
last_read ends end es t l h =
    let e = get_or es (length es - 1) 0 in
    let rest = take (length es - 1) es in
    let split = split_last es l in
    subst (λ (xs : List ℕ). LastBlock end xs e (1 * 2 ^ e % 4294967296) rest) (sym split)
    (last_block end rest e (subst (LieInMemory true end) split (subst (λ (b : Bool). LieInMemory b end es) t h)))

-- the events that are left
pub ends_alone : (event : Option Event) (ends : Bool) (at : ℕ) (es : List ℕ) → event ≡ None → ends ≡ true → events_in event ends at es ≡ blocks_told true at es
ends_alone event ends at es e t = ap (λ (o : Option Event). events_in o ends at es) e ∙ ap (λ (b : Bool). blocks_told b at es) t

pub lie_ending : (ends : Bool) (at : ℕ) (es : List ℕ) → ends ≡ true → LieInMemory true at es → LieInMemory ends at es
lie_ending ends at es t h = subst (λ (b : Bool). LieInMemory b at es) (sym t) h

-- ---- The blocks of frames

pub small_declines : (most : ℕ) (es : List ℕ) → most ≤ 24 → Decline most es → AllByRecursion IsSmall es
small_declines most [] l h = tt
small_declines most (e ∷ es) l h = (omega (arith, l, h.1), small_declines e es (omega (arith, l, h.1)) h.2)

pub told_leaving : (last : Option Entered) (layout : Option (List ℕ)) (k : ℕ) (frames : Frames) (call : Entered) (es : List ℕ) (end : ℕ) → last ≡ Some call → layout ≡ Some es → call.frame ≡ k → end ≡ frames.stack + total_size es
    → (memory : List ℕ) → blocks_told true end es ≡ map ended_event (leave last layout k frames memory).blocks
unfolding leave
told_leaving last layout k frames call es end l f same e memory =
    let base : end - total_size es ≡ frames.stack = omega (arith, e) in
    ap (λ (n : ℕ). map ended_event (reverse (blocks_from n es))) base
    ∙ sym (rw (l, f) (ap (λ (b : Bool). map ended_event (cond b (left_to call.back es frames memory) (not_left frames memory)).blocks) (eq-eqb call.frame k same)))
