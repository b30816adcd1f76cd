-- Output, trail and safety of what a machine tells, by what it shares with flat code.
use Rattle.std.proofs.Common.{arith, ◌≡◌, ◌≢◌, ℕ, List, [], ◌∷◌, ◌++◌, Bool, true, false, cond, refl, ap}
use Rattle.std.specs.Prelude.{◌==◌, ◌||◌}
use Rattle.bb_watch.specs.declared.event.Event.{Event}
use Rattle.bb_watch.specs.declared.event.Event.TheVariants as event
use Rattle.bb_watch.specs.Told as told
use Rattle.bb_watch.specs.Safety.{Each, IsMoveSafe, IsAccessSafe}
use Rattle.bb_watch.specs.Live.{live_after, ever_after}
use Rattle.size_table.specs.Blocks.{Block}
use Rattle.flat_code.specs.Told as flat
use Rattle.flat_code.specs.Safety.{AllSafe}
use Rattle.flat_landing.specs.Shared.{shared}
use Rattle.bb_driver.specs.Same.{marks_of}

either_way : (b : Bool) (xs : List flat.Tell) (f : List flat.Tell → Type 0) → (b ≡ true → f []) → (b ≡ false → f xs) → f (cond b [] xs)
either_way true xs f h k = h refl
either_way false xs f h k = k refl

pub output_shared : (ts : List told.Tell) → flat.output_of (shared ts) ≡ told.output_of ts
output_shared [] = refl
output_shared (told.Output byte ∷ ts) = ap (λ l. byte ∷ l) (output_shared ts)
output_shared (told.Happens (event.Move pc from to) ∷ ts) = output_shared ts
output_shared (told.Happens (event.Access pc at size write base) ∷ ts) =
    either_way ((base == 2) || (base == 31)) (flat.Tell.Access at size write ∷ []) (λ l. flat.output_of (l ++ shared ts) ≡ told.output_of ts) (λ e. output_shared ts) (λ e. output_shared ts)
output_shared (told.Happens (event.Call pc target) ∷ ts) = output_shared ts
output_shared (told.Happens (event.Return pc target) ∷ ts) = output_shared ts
output_shared (told.Happens (event.Made at exponent) ∷ ts) = output_shared ts
output_shared (told.Happens (event.Ended at exponent) ∷ ts) = output_shared ts
output_shared (told.Happens (event.Line line) ∷ ts) = output_shared ts

pub trail_shared : (ts : List told.Tell) → flat.trail_of (shared ts) ≡ marks_of (told.events_of ts)
trail_shared [] = refl
trail_shared (told.Output byte ∷ ts) = trail_shared ts
trail_shared (told.Happens (event.Move pc from to) ∷ ts) = ap (λ l. flat.Mark.Pair from to ∷ l) (trail_shared ts)
trail_shared (told.Happens (event.Access pc at size write base) ∷ ts) =
    either_way ((base == 2) || (base == 31)) (flat.Tell.Access at size write ∷ []) (λ l. flat.trail_of (l ++ shared ts) ≡ marks_of (told.events_of ts)) (λ e. trail_shared ts) (λ e. trail_shared ts)
trail_shared (told.Happens (event.Call pc target) ∷ ts) = trail_shared ts
trail_shared (told.Happens (event.Return pc target) ∷ ts) = trail_shared ts
trail_shared (told.Happens (event.Made at exponent) ∷ ts) = trail_shared ts
trail_shared (told.Happens (event.Ended at exponent) ∷ ts) = trail_shared ts
trail_shared (told.Happens (event.Line line) ∷ ts) = ap (λ l. flat.Mark.Begun line ∷ l) (trail_shared ts)

-- events whose shared part is safe are safe
abbrev pub AreSafe : ℕ → (live ever : List Block) → List Event → Type 0
AreSafe g live ever es = Each (IsMoveSafe g) live ever es × Each (IsAccessSafe g) live ever es

by_two : (base : ℕ) → ((base == 2) || (base == 31)) ≡ true → base ≢ 2 → base ≢ 31 → ⊥
by_two base e two other = grind arith

pub safe_shared : (g : ℕ) (live ever : List Block) (ts : List told.Tell) → AllSafe g live ever (shared ts) → AreSafe g live ever (told.events_of ts)
safe_shared g live ever [] h = (tt, tt)
safe_shared g live ever (told.Output byte ∷ ts) h = safe_shared g live ever ts h.1
safe_shared g live ever (told.Happens (event.Move pc from to) ∷ ts) h = let r = safe_shared g live ever ts h.1 in ((h.0, r.0), (tt, r.1))
safe_shared g live ever (told.Happens (event.Access pc at size write base) ∷ ts) h =
    either_way ((base == 2) || (base == 31)) (flat.Tell.Access at size write ∷ [])
    (λ l. AllSafe g live ever (l ++ shared ts) → AreSafe g live ever (event.Access pc at size write base ∷ told.events_of ts))
    (λ e k. let r = safe_shared g live ever ts k in ((tt, r.0), ((λ two other. absurd (by_two base e two other)), r.1)))
    (λ e k. let r = safe_shared g live ever ts k.1 in ((tt, r.0), ((λ two other. k.0), r.1)))
    h
safe_shared g live ever (told.Happens (event.Call pc target) ∷ ts) h = let r = safe_shared g live ever ts h in ((tt, r.0), (tt, r.1))
safe_shared g live ever (told.Happens (event.Return pc target) ∷ ts) h = let r = safe_shared g live ever ts h in ((tt, r.0), (tt, r.1))
safe_shared g live ever (told.Happens (event.Made at exponent) ∷ ts) h = let r = safe_shared g (live_after (event.Made at exponent) live) (ever_after (event.Made at exponent) ever) ts h.1 in ((tt, r.0), (tt, r.1))
safe_shared g live ever (told.Happens (event.Ended at exponent) ∷ ts) h = let r = safe_shared g (live_after (event.Ended at exponent) live) (ever_after (event.Ended at exponent) ever) ts h.1 in ((tt, r.0), (tt, r.1))
safe_shared g live ever (told.Happens (event.Line line) ∷ ts) h = let r = safe_shared g live ever ts h.1 in ((tt, r.0), (tt, r.1))
