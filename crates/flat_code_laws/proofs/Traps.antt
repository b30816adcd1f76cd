-- A run of flat code traps only at an access.
use Rattle.std.proofs.Common.{ℕ, zero, suc, Bool, true, false, List, [], Option, Some, None, nat_lt, nat_le}
use Rattle.std.specs.Prelude.{if◌then◌else◌, map, ◌^◌, ◌%◌, ◌-◌, ◌==◌, slice_get}
use Rattle.bb_words.specs.Answers.{Answer, and_then}
use Rattle.bb_words.specs.Steps.{size_of_width}
use Rattle.bb_words.specs.declared.kinds.TrapKind.TheVariants as trap
use Rattle.size_table.specs.declared.memory_map.TheConstants.{TEXT_START, TABLE_START, STACK_START, MEMORY_END, MOST_CALLS}
use Rattle.size_table.specs.Blocks.{Block}
use Rattle.flat_code.specs.Code.{FStep, FSteps, FFunction}
use Rattle.flat_code.specs.World.{arguments, FPoint, point, put, spend, choose, Ending, Run, Way, onward, out_of, again}
use Rattle.flat_code.specs.Accounts.{stack_under, enter, leave, heap_block, give_back}
use Rattle.flat_code.specs.Time.{charge, turn_charge, call_charge}
use Rattle.flat_code.specs.Run.{ends, refusal, access, unless_refused, turns, inner_turns, Calls, act, act_all, returned, body_with, framed_if, no_calls, library, call_none, call_one, calls, start, exited}
use Rattle.flat_code_laws.specs.Laws.{IsOfAccess, TrapsOfAccess, TrapsAreOfAccesses}

then_traps : {A B : Type 0} (r : Run A) (f : A → FPoint → Run B) → TrapsOfAccess r → ((a : A) (t : FPoint) → TrapsOfAccess (f a t)) → TrapsOfAccess (and_then r f)
unfolding and_then
then_traps (Answer.Goes a t) f h k = k a t
then_traps (Answer.Ends (Ending.Exited word) t) f h k = tt
then_traps (Answer.Ends (Ending.Reported kind line) t) f h k = tt
then_traps (Answer.Ends (Ending.Trapped kind) t) f h k = h
then_traps (Answer.Ends Ending.Cut t) f h k = tt

by_test : {A : Type 0} (t : Bool) (u : FPoint) (a b : FPoint → Run A) → TrapsOfAccess (a u) → TrapsOfAccess (b u) → TrapsOfAccess (choose t a b u)
by_test true u a b h k = h
by_test false u a b h k = k

onward_traps : (way : Way) (u : FPoint) (f : FPoint → Run Way) → TrapsOfAccess (f u) → TrapsOfAccess (onward way u f)
onward_traps Way.On u f h = h
onward_traps (Way.Out n) u f h = tt
onward_traps (Way.Back x) u f h = tt

again_traps : (way : Way) (u : FPoint) (f : FPoint → Run Way) → TrapsOfAccess (f u) → TrapsOfAccess (again way u f)
again_traps Way.On u f h = h
again_traps (Way.Out n) u f h = tt
again_traps (Way.Back x) u f h = tt

turns_trap : (f : FPoint → Run Way) → ((u : FPoint) → TrapsOfAccess (f u)) → (m : ℕ) (u : FPoint) → TrapsOfAccess (turns m f u)
turns_trap f h zero u = tt
turns_trap f h (suc m) u =
    let t : FPoint = point u.words (spend turn_charge u.world) in
    then_traps (f t) (λ way s. again way s (turns m f)) (h t) (λ way s. again_traps way s (turns m f) (turns_trap f h m s))

abbrev Refuses : Option Ending → Type 0
Refuses None = Unit {0}
Refuses (Some (Ending.Exited word)) = ⊥
Refuses (Some (Ending.Reported kind line)) = ⊥
Refuses (Some (Ending.Trapped kind)) = IsOfAccess kind
Refuses (Some Ending.Cut) = Unit {0}

unless_traps : (o : Option Ending) (go : FPoint → Run Way) (u : FPoint) → Refuses o → TrapsOfAccess (go u) → TrapsOfAccess (unless_refused o go u)
unless_traps None go u h k = k
unless_traps (Some (Ending.Exited word)) go u h k = tt
unless_traps (Some (Ending.Reported kind line)) go u h k = tt
unless_traps (Some (Ending.Trapped kind)) go u h k = h
unless_traps (Some Ending.Cut) go u h k = tt

refuses : (null marked past text fits : Bool) → Refuses
    (if null then Some (Ending.Trapped trap.Null) else if marked then Some (Ending.Trapped trap.Marked) else if past then Some Ending.Cut
    else if text then Some Ending.Cut else if fits then None else Some (Ending.Trapped trap.Misaligned))
refuses true marked past text fits = tt
refuses false true past text fits = tt
refuses false false true text fits = tt
refuses false false false true fits = tt
refuses false false false false true = tt
refuses false false false false false = tt

access_traps : (at size : ℕ) (go : FPoint → Run Way) (u : FPoint) → TrapsOfAccess (go u) → TrapsOfAccess (access at size go u)
access_traps at size go u h =
    unless_traps (refusal at size) go u (refuses (nat_lt at TEXT_START) (nat_le (2 ^ 31) at) (nat_le MEMORY_END at) (nat_lt at TABLE_START) (at % size == 0)) h

back_traps : (line : ℕ) (b : Option Block) (u : FPoint) → TrapsOfAccess (give_back line b u)
back_traps line None u = tt
back_traps line (Some b) u = tt

-- ---- Steps

CallsTrap : Calls → Type 0
CallsTrap call = (function : ℕ) (args : List ℕ) (u : FPoint) → TrapsOfAccess (call function args u)

module _ (g : ℕ) (call : Calls) (m frame : ℕ) (inside : (function : ℕ) (args : List ℕ) (u : FPoint) → TrapsOfAccess (call function args u)) where
  mutual
    act_traps : (x : FStep) (u : FPoint) → TrapsOfAccess (act g call m frame x u)
    act_traps (FStep.Number to value) u = tt
    act_traps (FStep.Same to from) u = tt
    act_traps (FStep.Arith to op left right) u = tt
    act_traps (FStep.If cond first second) u = by_test (u.words cond == 0) u _ _ (all_trap second u) (all_trap first u)
    act_traps (FStep.Block body) u = then_traps (act_all g call m frame body u) _ (all_trap body u) (λ way t. tt)
    act_traps (FStep.Loop body) u = turns_trap (act_all g call m frame body) (λ t. all_trap body t) m u
    act_traps (FStep.Inner body) u = turns_trap (act_all g call m frame body) (λ t. all_trap body t) (inner_turns m) u
    act_traps (FStep.Exit zero) u = tt
    act_traps (FStep.Exit (suc further)) u = tt
    act_traps (FStep.Call to function args) u = then_traps (call function (map u.words args) u) _ (inside function (map u.words args) u) (λ word t. tt)
    act_traps (FStep.Return from) u = tt
    act_traps (FStep.Slot to from) u = tt
    act_traps (FStep.Look to slot) u = by_test (nat_lt (u.words slot) (2 ^ (25 - g))) u _ _ tt tt
    act_traps (FStep.FrameAt to offset) u = by_test (nat_lt offset frame) u _ _ tt tt
    act_traps (FStep.Load to at width) u = access_traps (u.words at) (size_of_width width) _ u tt
    act_traps (FStep.Store at from width) u = access_traps (u.words at) (size_of_width width) _ u tt
    act_traps (FStep.Checked from to) u = tt
    act_traps (FStep.LineMark line) u = tt
    act_traps (FStep.Report kind line) u = tt
    act_traps (FStep.Env to number a b) u =
        by_test (number == 1) u _ _ tt (by_test (number == 2) u _ _ tt (by_test (number == 3) u _ _ tt (by_test (number == 4) u _ _ tt
        (by_test (number == 5) u _ _ (by_test (u.words a == 0) (put to (u.words a) u) _ _ tt (back_traps (u.words b) (heap_block (u.words a) u.world.live) (put to (u.words a) u))) tt))))

    all_trap : (xs : FSteps) (u : FPoint) → TrapsOfAccess (act_all g call m frame xs u)
    all_trap FSteps.none u = tt
    all_trap (FSteps.more x xs) u =
        let t : FPoint = point u.words (spend (charge x) u.world) in
        then_traps (act g call m frame x t) (λ way s. onward way s (act_all g call m frame xs)) (act_traps x t) (λ way s. onward_traps way s (act_all g call m frame xs) (all_trap xs s))

-- ---- Calls

returned_traps : (way : Way) (u : FPoint) → TrapsOfAccess (returned way u)
returned_traps Way.On u = tt
returned_traps (Way.Out n) u = tt
returned_traps (Way.Back word) u = tt

body_traps : (f : FPoint → Run Way) (args : List ℕ) (u : FPoint) → ((t : FPoint) → TrapsOfAccess (f t)) → TrapsOfAccess (body_with f args u)
body_traps f args u h =
    let t : FPoint = point (arguments args) u.world in
    then_traps (and_then (f t) returned) _ (then_traps (f t) returned (h t) returned_traps) (λ word s. tt)

framed_traps : (g line : ℕ) (f : FPoint → Run Way) (args : List ℕ) (frame : Option (List ℕ)) (u : FPoint) → ((t : FPoint) → TrapsOfAccess (f t)) → TrapsOfAccess (framed_if g line f args frame u)
framed_traps g line f args None u h = tt
framed_traps g line f args (Some es) u h =
    let base = stack_under g u.world.stack es in
    let t : FPoint = point u.words (enter base es u.world) in
    by_test (nat_lt base STACK_START) u _ _ tt (then_traps (body_with f args t) _ (body_traps f args t h) (λ word s. tt))

module _ (g : ℕ) (frames : List (List ℕ)) (m : ℕ) where
  library_traps : (f : FFunction) (args : List ℕ) (u : FPoint) → TrapsOfAccess (library g frames m f args u)
  library_traps f args u =
      body_traps (act_all g no_calls m 0 f.body) args (point u.words (spend (call_charge f) u.world)) (λ t. all_trap g no_calls m 0 (λ function xs v. tt) f.body t)

  module _ (functions : List FFunction) where
    none_traps : (f : Option FFunction) (number : ℕ) (args : List ℕ) (u : FPoint) → TrapsOfAccess (call_none g frames m functions f number args u)
    none_traps None number args u = tt
    none_traps (Some f) number args u = by_test (f.line == 0) u _ _ (library_traps f args u) (by_test (nat_le MOST_CALLS u.world.depth) u _ _ tt tt)

    one_traps : (call : Calls) → ((function : ℕ) (args : List ℕ) (u : FPoint) → TrapsOfAccess (call function args u)) → (f : Option FFunction) (number : ℕ) (args : List ℕ) (u : FPoint) → TrapsOfAccess (call_one g frames m functions call f number args u)
    one_traps call inside None number args u = tt
    one_traps call inside (Some f) number args u =
        by_test (f.line == 0) u _ _ (library_traps f args u)
        (by_test (nat_le MOST_CALLS u.world.depth) u _ _ tt
        (framed_traps g f.line (act_all g call m f.frame f.body) args (slice_get frames number) (point u.words (spend (call_charge f) u.world)) (λ t. all_trap g call m f.frame inside f.body t)))

    calls_trap : (n number : ℕ) (args : List ℕ) (u : FPoint) → TrapsOfAccess (calls g frames m functions n number args u)
    calls_trap zero number args u = none_traps (slice_get functions number) number args u
    calls_trap (suc n) number args u = one_traps (calls g frames m functions n) (calls_trap n) (slice_get functions number) number args u

pub traps_are_of_accesses : TrapsAreOfAccesses
traps_are_of_accesses g code globals frames input m =
    let u : FPoint = start code.initial globals input in
    then_traps (calls g frames m code.functions m code.main [] u) exited (calls_trap g frames m code.functions m code.main [] u) (λ word t. tt)
