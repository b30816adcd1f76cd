-- With more turns and calls a run that has ended is the same, and one that is cut goes on.
use Rattle.std.proofs.Common.{ℕ, zero, suc, ◌≤◌, Bool, true, false, List, [], map, Option, Some, None, inl, inr, refl, ap, subst, nat_lt, nat_le, arith, max}
use Rattle.std.specs.Prelude.{slice_get, ◌==◌}
use Rattle.bb_words.specs.Answers.{Answer, and_then}
use Rattle.size_table.specs.declared.memory_map.TheConstants.{STACK_START, MOST_CALLS}
use Rattle.flat_code.specs.Code.{FStep, FSteps, FFunction}
use Rattle.flat_code.specs.World.{arguments, FPoint, point, put, spend, choose, Ending, Run, Way, onward, out_of, again}
use Rattle.flat_code.specs.Accounts.{stack_under, enter, leave}
use Rattle.flat_code.specs.Time.{charge, turn_charge, call_charge}
use Rattle.flat_code.specs.Run.{goes, ends, turns, inner_turns, Calls, act, act_all, returned, body_with, framed_if, no_calls, library, defined, call_none, call_one, calls, start, exited}
use Rattle.flat_code_laws.specs.Laws.{point_of, IsAfter, Advances, CallsAdvance, Extends, MoreTurnsExtend}
use Rattle.flat_code_laws.proofs.Advance.{at_once, after, onward_advances, again_advances, turns_advance, all_advance, leave_advances, no_calls_advance, defined_advances, calls_advance}

same : {A : Type 0} (r : Run A) → Extends r r
same r = inl refl

-- a run that is cut where another begins
cut_at : {A : Type 0} (u : FPoint) (more : Run A) → Advances u more → Extends (ends Ending.Cut u) more
cut_at u more h = inr (u, refl, h)

then_extends : {A B : Type 0} (r more : Run A) (f g : A → FPoint → Run B) → Extends r more → ((a : A) (t : FPoint) → Advances t (g a t)) → ((a : A) (t : FPoint) → Extends (f a t) (g a t)) → Extends (and_then r f) (and_then more g)
unfolding and_then
then_extends {A = A} {B = B} r more f g (inl q) adv h = subst (λ x. Extends (and_then r f) (and_then x g)) q (by r)
  where
    by : (x : Run A) → Extends (and_then x f) (and_then x g)
    by (Answer.Goes a t) = h a t
    by (Answer.Ends o t) = inl refl
then_extends {A = A} {B = B} r more f g (inr (cut, q, k)) adv h =
    inr (cut, ap (λ x. and_then x f) q, after cut.world (point_of more).world _ k (on more))
  where
    on : (x : Run A) → IsAfter (point_of x).world (point_of (and_then x g)).world
    on (Answer.Goes a t) = adv a t
    on (Answer.Ends o t) = at_once t.world

by_test : {A : Type 0} (t : Bool) (u : FPoint) (a b a' b' : FPoint → Run A) → Extends (a u) (a' u) → Extends (b u) (b' u) → Extends (choose t a b u) (choose t a' b' u)
by_test true u a b a' b' h k = h
by_test false u a b a' b' h k = k

onward_extends : (way : Way) (u : FPoint) (f g : FPoint → Run Way) → Extends (f u) (g u) → Extends (onward way u f) (onward way u g)
onward_extends Way.On u f g h = h
onward_extends (Way.Out n) u f g h = inl refl
onward_extends (Way.Back x) u f g h = inl refl

again_extends : (way : Way) (u : FPoint) (f g : FPoint → Run Way) → Extends (f u) (g u) → Extends (again way u f) (again way u g)
again_extends Way.On u f g h = h
again_extends (Way.Out n) u f g h = inl refl
again_extends (Way.Back x) u f g h = inl refl

turns_extend : (f g : FPoint → Run Way) → ((u : FPoint) → Extends (f u) (g u)) → ((u : FPoint) → Advances u (g u)) → (m n : ℕ) → m ≤ n → (u : FPoint) → Extends (turns m f u) (turns n g u)
turns_extend f g h adv zero n le u = cut_at u (turns n g u) (turns_advance g adv n u)
turns_extend f g h adv (suc m) zero le u = absurd (let z : ⊥ = omega (arith, le) in z)
turns_extend f g h adv (suc m) (suc n) le u =
    let t : FPoint = point u.words (spend turn_charge u.world) in
    then_extends (f t) (g t) (λ way s. again way s (turns m f)) (λ way s. again way s (turns n g)) (h t)
    (λ way s. again_advances way s (turns n g) (turns_advance g adv n s))
    (λ way s. again_extends way s (turns m f) (turns n g) (turns_extend f g h adv m n (let z : m ≤ n = omega (arith, le) in z) s))

inner_more : (m n : ℕ) → m ≤ n → inner_turns m ≤ inner_turns n
unfolding inner_turns
inner_more m n h = grind (arith, max)

CallsExtend : Calls → Calls → Type 0
CallsExtend call more = (function : ℕ) (args : List ℕ) (u : FPoint) → Extends (call function args u) (more function args u)

-- ---- Steps

module _ (g : ℕ) (call more : Calls) (m n frame : ℕ) (le : m ≤ n) (adv : CallsAdvance more) (ext : (function : ℕ) (args : List ℕ) (u : FPoint) → Extends (call function args u) (more function args u)) where
  mutual
    act_extends : (x : FStep) (u : FPoint) → Extends (act g call m frame x u) (act g more n frame x u)
    act_extends (FStep.Number to value) u = inl refl
    act_extends (FStep.Same to from) u = inl refl
    act_extends (FStep.Arith to op left right) u = inl refl
    act_extends (FStep.If cond first second) u = by_test (u.words cond == 0) u _ _ _ _ (all_extend second u) (all_extend first u)
    act_extends (FStep.Block body) u =
        then_extends (act_all g call m frame body u) (act_all g more n frame body u) (λ way t. Answer.Goes (out_of way) t) (λ way t. Answer.Goes (out_of way) t) (all_extend body u) (λ way t. at_once t.world) (λ way t. inl refl)
    act_extends (FStep.Loop body) u = turns_extend (act_all g call m frame body) (act_all g more n frame body) (λ t. all_extend body t) (λ t. all_advance g more n frame adv body t) m n le u
    act_extends (FStep.Inner body) u = turns_extend (act_all g call m frame body) (act_all g more n frame body) (λ t. all_extend body t) (λ t. all_advance g more n frame adv body t) (inner_turns m) (inner_turns n) (inner_more m n le) u
    act_extends (FStep.Exit zero) u = inl refl
    act_extends (FStep.Exit (suc further)) u = inl refl
    act_extends (FStep.Call to function args) u =
        then_extends (call function (map u.words args) u) (more function (map u.words args) u) (λ word t. goes (put to word t)) (λ word t. goes (put to word t)) (ext function (map u.words args) u) (λ word t. at_once t.world) (λ word t. inl refl)
    act_extends (FStep.Return from) u = inl refl
    act_extends (FStep.Slot to from) u = inl refl
    act_extends (FStep.Look to slot) u = inl refl
    act_extends (FStep.FrameAt to offset) u = inl refl
    act_extends (FStep.Load to at width) u = inl refl
    act_extends (FStep.Store at from width) u = inl refl
    act_extends (FStep.Checked from to) u = inl refl
    act_extends (FStep.LineMark line) u = inl refl
    act_extends (FStep.Report kind line) u = inl refl
    act_extends (FStep.Env to number a b) u = inl refl

    all_extend : (xs : FSteps) (u : FPoint) → Extends (act_all g call m frame xs u) (act_all g more n frame xs u)
    all_extend FSteps.none u = inl refl
    all_extend (FSteps.more x xs) u =
        let t : FPoint = point u.words (spend (charge x) u.world) in
        then_extends (act g call m frame x t) (act g more n frame x t) (λ way s. onward way s (act_all g call m frame xs)) (λ way s. onward way s (act_all g more n frame xs)) (act_extends x t)
        (λ way s. onward_advances way s (act_all g more n frame xs) (all_advance g more n frame adv xs s))
        (λ way s. onward_extends way s (act_all g call m frame xs) (act_all g more n frame xs) (all_extend xs s))

-- ---- Calls

returned_advances : (way : Way) (u : FPoint) → Advances u (returned way u)
returned_advances Way.On u = at_once u.world
returned_advances (Way.Out n) u = at_once u.world
returned_advances (Way.Back word) u = at_once u.world

body_extends : (f g : FPoint → Run Way) (args : List ℕ) (u : FPoint) → ((t : FPoint) → Extends (f t) (g t)) → Extends (body_with f args u) (body_with g args u)
body_extends f g args u h =
    let t : FPoint = point (arguments args) u.world in
    then_extends (and_then (f t) returned) (and_then (g t) returned) _ _
    (then_extends (f t) (g t) returned returned (h t) returned_advances (λ way s. inl refl)) (λ word s. at_once s.world) (λ word s. inl refl)

framed_extends : (g line : ℕ) (f b : FPoint → Run Way) (args : List ℕ) (frame : Option (List ℕ)) (u : FPoint) → ((t : FPoint) → Extends (f t) (b t)) → Extends (framed_if g line f args frame u) (framed_if g line b args frame u)
framed_extends g line f b args None u h = inl refl
framed_extends g line f b args (Some es) u h =
    let base = stack_under g u.world.stack es in
    let t : FPoint = point u.words (enter base es u.world) in
    by_test (nat_lt base STACK_START) u _ _ _ _ (inl refl)
    (then_extends (body_with f args t) (body_with b args t) (λ word s. Answer.Goes word (point s.words (leave es u.world s.world))) (λ word s. Answer.Goes word (point s.words (leave es u.world s.world)))
    (body_extends f b args t h) (λ word s. leave_advances es u.world s.world) (λ word s. inl refl))

module _ (g : ℕ) (frames : List (List ℕ)) (m n : ℕ) (le : m ≤ n) where
  library_extends : (f : FFunction) (args : List ℕ) (u : FPoint) → Extends (library g frames m f args u) (library g frames n f args u)
  library_extends f args u =
      body_extends (act_all g no_calls m 0 f.body) (act_all g no_calls n 0 f.body) args (point u.words (spend (call_charge f) u.world))
      (λ t. all_extend g no_calls no_calls m n 0 le no_calls_advance (λ function xs v. inl refl) f.body t)

  module _ (functions : List FFunction) where
    one_extends : (call more : Calls) → CallsAdvance more → ((function : ℕ) (args : List ℕ) (u : FPoint) → Extends (call function args u) (more function args u)) → (f : Option FFunction) (number : ℕ) (args : List ℕ) (u : FPoint)
        → Extends (call_one g frames m functions call f number args u) (call_one g frames n functions more f number args u)
    one_extends call more adv ext None number args u = inl refl
    one_extends call more adv ext (Some f) number args u =
        by_test (f.line == 0) u _ _ _ _ (library_extends f args u)
        (by_test (nat_le MOST_CALLS u.world.depth) u _ _ _ _ (inl refl)
        (framed_extends g f.line (act_all g call m f.frame f.body) (act_all g more n f.frame f.body) args (slice_get frames number) (point u.words (spend (call_charge f) u.world))
        (λ t. all_extend g call more m n f.frame le adv ext f.body t)))

    none_extends : (f : Option FFunction) (number : ℕ) (args : List ℕ) (u : FPoint) → Extends (call_none g frames m functions f number args u) (call_none g frames n functions f number args u)
    none_extends None number args u = inl refl
    none_extends (Some f) number args u = by_test (f.line == 0) u _ _ _ _ (library_extends f args u) (inl refl)

    -- where no call may be nested, and where some may
    none_then_one : (more : Calls) → CallsAdvance more → (f : Option FFunction) (number : ℕ) (args : List ℕ) (u : FPoint) → Extends (call_none g frames m functions f number args u) (call_one g frames n functions more f number args u)
    none_then_one more adv None number args u = inl refl
    none_then_one more adv (Some f) number args u =
        by_test (f.line == 0) u _ _ _ _ (library_extends f args u)
        (by_test (nat_le MOST_CALLS u.world.depth) u _ _ _ _ (inl refl)
        (cut_at u (defined g frames n more number f args u) (defined_advances g frames n more adv number f args u)))

    calls_extend : (j k : ℕ) → j ≤ k → (number : ℕ) (args : List ℕ) (u : FPoint) → Extends (calls g frames m functions j number args u) (calls g frames n functions k number args u)
    calls_extend zero zero h number args u = none_extends (slice_get functions number) number args u
    calls_extend zero (suc k) h number args u = none_then_one (calls g frames n functions k) (calls_advance g frames n functions k) (slice_get functions number) number args u
    calls_extend (suc j) zero h number args u = absurd (let z : ⊥ = omega (arith, h) in z)
    calls_extend (suc j) (suc k) h number args u =
        one_extends (calls g frames m functions j) (calls g frames n functions k) (calls_advance g frames n functions k) (calls_extend j k (let z : j ≤ k = omega (arith, h) in z)) (slice_get functions number) number args u

pub more_turns_extend : MoreTurnsExtend
more_turns_extend g code globals frames input m n le =
    let u : FPoint = start code.initial globals input in
    then_extends (calls g frames m code.functions m code.main [] u) (calls g frames n code.functions n code.main [] u) exited exited
    (calls_extend g frames m n le code.functions m n le code.main [] u) (λ word t. at_once t.world) (λ word t. inl refl)
