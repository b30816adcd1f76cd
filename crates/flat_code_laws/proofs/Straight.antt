-- Code without loops and calls takes no longer than all its charges together.
use Rattle.std.proofs.Common.{◌≡◌, ℕ, zero, suc, ◌+◌, ◌-◌, ◌≤◌, ◌^◌, Bool, true, false, List, [], ◌∷◌, Option, Some, None, refl, nat_lt, arith}
use Rattle.std.specs.Prelude.{◌==◌}
use Rattle.bb_words.specs.Answers.{Answer, and_then}
use Rattle.bb_words.specs.Steps.{size_of_width}
use Rattle.size_table.specs.declared.memory_map.TheConstants.{MOST_BYTES}
use Rattle.size_table.specs.Blocks.{Block}
use Rattle.size_table.specs.Pads.{exponent_of}
use Rattle.buddy_heap.specs.Places.{place_of}
use Rattle.flat_code.specs.Code.{FStep, FSteps}
use Rattle.flat_code.specs.World.{FPoint, point, put, spend, choose, Ending, Run, Way, onward, out_of}
use Rattle.flat_code.specs.Accounts.{allot, malloc, heap_block, give_back}
use Rattle.flat_code.specs.Time.{charge, IsStraight, AreStraight, charges_in, charges}
use Rattle.flat_code.specs.Run.{refusal, unless_refused, get, environment, Calls, act, act_all}
use Rattle.flat_code_laws.specs.Laws.{point_of, StraightTakes}

abbrev time_of : {A : Type 0} → Run A → ℕ
time_of r = (point_of r).world.time

and_then_takes : {A B : Type 0} (r : Run A) (f : A → FPoint → Run B) (a b : ℕ) → time_of r ≤ a → ((x : A) (t : FPoint) → t.world.time ≤ a → time_of (f x t) ≤ b) → a ≤ b → time_of (and_then r f) ≤ b
unfolding and_then
and_then_takes (Answer.Goes x t) f a b h k le = k x t h
and_then_takes (Answer.Ends o t) f a b h k le = omega (arith, h, le)

onward_takes : (way : Way) (u : FPoint) (go : FPoint → Run Way) (b : ℕ) → u.world.time ≤ b → time_of (go u) ≤ b → time_of (onward way u go) ≤ b
onward_takes Way.On u go b h k = k
onward_takes (Way.Out n) u go b h k = h
onward_takes (Way.Back x) u go b h k = h

by_test : {A : Type 0} (t : Bool) (u : FPoint) (a b : FPoint → Run A) (n : ℕ) → time_of (a u) ≤ n → time_of (b u) ≤ n → time_of (choose t a b u) ≤ n
by_test true u a b n h k = h
by_test false u a b n h k = k

unless_takes : (o : Option Ending) (go : FPoint → Run Way) (u : FPoint) (n : ℕ) → u.world.time ≤ n → time_of (go u) ≤ n → time_of (unless_refused o go u) ≤ n
unless_takes None go u n h k = k
unless_takes (Some ending) go u n h k = h

allot_time : (to e : ℕ) (at : Option ℕ) (u : FPoint) → (allot to e at u).world.time ≡ u.world.time
allot_time to e None u = refl
allot_time to e (Some at) u = refl

malloc_time : (g to size : ℕ) (u : FPoint) → (malloc g to size u).world.time ≡ u.world.time
malloc_time g to size u = by (nat_lt MOST_BYTES size)
  where
    by : (t : Bool) → (choose t (λ (x : FPoint). put to 0 x) (λ (x : FPoint). allot to (exponent_of g size) (place_of x.world.live (exponent_of g size)) x) u).world.time ≡ u.world.time
    by true = refl
    by false = allot_time to (exponent_of g size) (place_of u.world.live (exponent_of g size)) u

give_back_time : (line : ℕ) (b : Option Block) (u : FPoint) → time_of (give_back line b u) ≡ u.world.time
give_back_time line None u = refl
give_back_time line (Some b) u = refl

get_time : (to : ℕ) (input : List ℕ) (u : FPoint) → (get to input u).world.time ≡ u.world.time
get_time to [] u = refl
get_time to (byte ∷ bytes) u = refl

at_most : (a b : ℕ) → a ≡ b → a ≤ b + 0
at_most a b h = omega (arith, h)

environment_takes : (g to call a b : ℕ) (u : FPoint) → time_of (environment g to call a b u) ≤ u.world.time + 0
environment_takes g to call a b u =
    let n = u.world.time + 0 in
    let same : u.world.time ≤ n = omega arith in
    by_test (call == 1) u _ _ n same (by_test (call == 2) u _ _ n (at_most _ _ (get_time to u.world.input u))
    (by_test (call == 3) u _ _ n same
    (by_test (call == 4) u _ _ n (at_most _ _ (malloc_time g to a u))
    (by_test (call == 5) u _ _ n (by_test (a == 0) (put to a u) _ _ n same (at_most _ _ (give_back_time b (heap_block a u.world.live) (put to a u)))) same))))

module _ (g : ℕ) (call : Calls) (m frame : ℕ) where
  mutual
    act_takes : (x : FStep) → IsStraight x → (u : FPoint) → time_of (act g call m frame x u) ≤ u.world.time + charges_in x
    act_takes (FStep.Number to value) h u = omega arith
    act_takes (FStep.Same to from) h u = omega arith
    act_takes (FStep.Arith to op left right) h u = omega arith
    act_takes (FStep.If cond first second) h u =
        let a = all_take first h.0 u in
        let b = all_take second h.1 u in
        by_test (u.words cond == 0) u _ _ (u.world.time + (charges first + charges second)) (omega (arith, b)) (omega (arith, a))
    act_takes (FStep.Block body) h u =
        and_then_takes (act_all g call m frame body u) (λ way t. Answer.Goes (out_of way) t) (u.world.time + charges body) (u.world.time + charges body) (all_take body h u) (λ way t k. k) (omega arith)
    act_takes (FStep.Loop body) h u = absurd h
    act_takes (FStep.Inner body) h u = absurd h
    act_takes (FStep.Exit zero) h u = omega arith
    act_takes (FStep.Exit (suc further)) h u = omega arith
    act_takes (FStep.Call to function args) h u = absurd h
    act_takes (FStep.Return from) h u = omega arith
    act_takes (FStep.Slot to from) h u = omega arith
    act_takes (FStep.Look to slot) h u = let same : u.world.time ≤ u.world.time + 0 = omega arith in by_test (nat_lt (u.words slot) (2 ^ (25 - g))) u _ _ (u.world.time + 0) same same
    act_takes (FStep.FrameAt to offset) h u = let same : u.world.time ≤ u.world.time + 0 = omega arith in by_test (nat_lt offset frame) u _ _ (u.world.time + 0) same same
    act_takes (FStep.Load to at width) h u = let same : u.world.time ≤ u.world.time + 0 = omega arith in unless_takes (refusal (u.words at) (size_of_width width)) _ u (u.world.time + 0) same same
    act_takes (FStep.Store at from width) h u = let same : u.world.time ≤ u.world.time + 0 = omega arith in unless_takes (refusal (u.words at) (size_of_width width)) _ u (u.world.time + 0) same same
    act_takes (FStep.Checked from to) h u = omega arith
    act_takes (FStep.LineMark line) h u = omega arith
    act_takes (FStep.Report kind line) h u = omega arith
    act_takes (FStep.Env to number a b) h u = environment_takes g to number (u.words a) (u.words b) u

    all_take : (xs : FSteps) → AreStraight xs → (u : FPoint) → time_of (act_all g call m frame xs u) ≤ u.world.time + charges xs
    all_take FSteps.none h u = omega arith
    all_take (FSteps.more x xs) h u =
        let t : FPoint = point u.words (spend (charge x) u.world) in
        let a = u.world.time + charge x + charges_in x in
        let b = u.world.time + (charge x + charges_in x + charges xs) in
        and_then_takes (act g call m frame x t) (λ way s. onward way s (act_all g call m frame xs)) a b (act_takes x h.0 t)
        (λ way s k. let r = all_take xs h.1 s in onward_takes way s (act_all g call m frame xs) b (omega (arith, k)) (omega (arith, k, r)))
        (omega arith)

pub straight_takes : StraightTakes
straight_takes g call m frame xs h u = all_take g call m frame xs h u
