-- Flat code advances: what was told stays told, and time goes on.
use Rattle.std.proofs.Common.{◌≡◌, ℕ, zero, suc, ◌+◌, ◌-◌, ◌≤◌, ◌%◌, ◌^◌, Bool, true, false, List, [], ◌∷◌, ◌++◌, map, reverse, Option, Some, None, refl, sym, ap, ◌∙◌, subst, nat_lt, nat_le, arith, append_assoc, append-nil}
use Rattle.std.specs.Prelude.{slice_get, ◌==◌}
use Rattle.bb_words.specs.Answers.{Answer, and_then}
use Rattle.bb_words.specs.Steps.{size_of_width}
use Rattle.bb_words.specs.declared.steps.Width.{Width}
use Rattle.size_table.specs.declared.memory_map.TheConstants.{STACK_START, MOST_CALLS, MOST_BYTES}
use Rattle.size_table.specs.Blocks.{Block, block_at, without}
use Rattle.size_table.specs.Made.{blocks_from}
use Rattle.buddy_heap.specs.Places.{place_of}
use Rattle.size_table.specs.Pads.{exponent_of}
use Rattle.flat_code.specs.Code.{FStep, FSteps, FFunction}
use Rattle.flat_code.specs.Told.{tells, Tell, Stamped, AllBy}
use Rattle.flat_code.specs.Safety.{live_after, live_of}
use Rattle.flat_code.specs.World.{zeroed, with_bytes, bytes_of, arguments, FWorld, FPoint, point, put, spend, tell, choose, Ending, Run, Way, onward, out_of, again}
use Rattle.flat_code.specs.Accounts.{make, end, make_all, end_all, stack_under, enter, leave, allot, malloc, heap_block, give_back, free}
use Rattle.flat_code.specs.Time.{charge, turn_charge, call_charge}
use Rattle.flat_code.specs.Run.{goes, ends, refusal, unless_refused, access, get, environment, turns, inner_turns, Calls, act, act_all, returned, body_with, framed_if, counted, no_calls, library, defined, call_none, call_one, calls, start, exited, flat_run}
use Rattle.flat_code_laws.proofs.Fronts.{all_by_later, tells_append, live_appends}
use Rattle.flat_code_laws.specs.Laws.{IsAfter, Advances, CallsAdvance, StepsAdvance, ProgramsAdvance, AllCame}

-- ---- Worlds that come after one another

all_by_append : (t : ℕ) (xs ys : List Stamped) → AllBy t xs → AllBy t ys → AllBy t (xs ++ ys)
all_by_append t [] ys h k = k
all_by_append t (x ∷ xs) ys h k = (h.0, all_by_append t xs ys h.1 k)

-- what tells nothing, and takes no time and no input
pub stays : (old new : FWorld) → new.told ≡ old.told → new.live ≡ old.live → new.time ≡ old.time → new.input ≡ old.input → IsAfter old new
stays old new t l c i = record {
  told = record { rest = []; is = t ∙ sym (append-nil old.told) };
  live = l;
  later = (let q : old.time ≤ new.time = omega (arith, c) in q);
  by = λ h. subst (λ x. AllBy x new.told) (sym c) (subst (λ x. AllBy old.time x) (sym t) h);
  taken = [];
  input = sym i;
}

pub at_once : (w : FWorld) → IsAfter w w
at_once w = stays w w refl refl refl refl

pub after : (a b c : FWorld) → IsAfter a b → IsAfter b c → IsAfter a c
after a b c h k = record {
  told = record { rest = h.told.rest ++ k.told.rest; is = k.told.is ∙ ap (λ x. x ++ k.told.rest) h.told.is ∙ append_assoc a.told h.told.rest k.told.rest };
  live = k.live ∙ ap (λ x. live_of x (tells k.told.rest)) h.live ∙ sym (ap (live_of a.live) (tells_append h.told.rest k.told.rest) ∙ live_appends a.live (tells h.told.rest) (tells k.told.rest));
  later = omega (arith, h.later, k.later);
  by = λ x. k.by (h.by x);
  taken = h.taken ++ k.taken;
  input = h.input ∙ ap (λ x. h.taken ++ x) k.input ∙ sym (append_assoc h.taken k.taken c.input);
}

pub after_spend : (n : ℕ) (w : FWorld) → IsAfter w (spend n w)
after_spend n w = record {
  told = record { rest = []; is = sym (append-nil w.told) };
  live = refl;
  later = (let q : w.time ≤ w.time + n = omega arith in q);
  by = λ h. all_by_later w.time (w.time + n) w.told (omega arith) h;
  taken = [];
  input = refl;
}

-- something is told in a world that differs from one before by its memory, and by the blocks that it tells
after_telling : (what : Tell) (old w : FWorld) → w.told ≡ old.told → w.time ≡ old.time → w.input ≡ old.input → w.live ≡ live_after what old.live → IsAfter old (tell what w)
after_telling what old w t c i l = record {
  told = record { rest = record { time = w.time; what = what } ∷ []; is = ap (λ x. x ++ record { time = w.time; what = what } ∷ []) t };
  live = l;
  later = (let q : old.time ≤ w.time = omega (arith, c) in q);
  by = λ h. all_by_append w.time w.told (record { time = w.time; what = what } ∷ []) (subst (λ x. AllBy x w.told) (sym c) (subst (λ x. AllBy old.time x) (sym t) h)) (let q : w.time ≤ w.time = omega arith in q, tt);
  taken = [];
  input = sym i;
}

pub after_tell : (what : Tell) (w : FWorld) → w.live ≡ live_after what w.live → IsAfter w (tell what w)
after_tell what w l = after_telling what w w refl refl refl l

-- ---- Answers

pub then_advances : {A B : Type 0} (u : FPoint) (r : Run A) (f : A → FPoint → Run B) → Advances u r → ((a : A) (t : FPoint) → Advances t (f a t)) → Advances u (and_then r f)
unfolding and_then
then_advances u (Answer.Goes a t) f h k = after u.world t.world _ h (k a t)
then_advances u (Answer.Ends o t) f h k = h

pub by_test : {A : Type 0} (t : Bool) (u v : FPoint) (a b : FPoint → Run A) → Advances u (a v) → Advances u (b v) → Advances u (choose t a b v)
by_test true u v a b h k = h
by_test false u v a b h k = k

pub onward_advances : (way : Way) (u : FPoint) (go : FPoint → Run Way) → Advances u (go u) → Advances u (onward way u go)
onward_advances Way.On u go h = h
onward_advances (Way.Out n) u go h = at_once u.world
onward_advances (Way.Back x) u go h = at_once u.world

pub again_advances : (way : Way) (u : FPoint) (go : FPoint → Run Way) → Advances u (go u) → Advances u (again way u go)
again_advances Way.On u go h = h
again_advances (Way.Out n) u go h = at_once u.world
again_advances (Way.Back x) u go h = at_once u.world

pub turns_advance : (body : FPoint → Run Way) → ((u : FPoint) → Advances u (body u)) → (n : ℕ) (u : FPoint) → Advances u (turns n body u)
turns_advance body h zero u = at_once u.world
turns_advance body h (suc n) u =
    let t : FPoint = point u.words (spend turn_charge u.world) in
    then_advances u (body t) (λ way s. again way s (turns n body)) (after u.world t.world _ (after_spend turn_charge u.world) (h t)) (λ way s. again_advances way s (turns n body) (turns_advance body h n s))

access_advances : (at size : ℕ) (go : FPoint → Run Way) (u : FPoint) → Advances u (go u) → Advances u (access at size go u)
access_advances at size go u h = by (refusal at size)
  where
    by : (o : Option Ending) → Advances u (unless_refused o go u)
    by None = h
    by (Some ending) = at_once u.world

-- ---- Blocks and the environment

make_advances : (b : Block) (w : FWorld) → IsAfter w (make b w)
make_advances b w =
    let next : FWorld = record w { memory = zeroed w.memory b.base (2 ^ b.exponent); live = w.live ++ b ∷ [] } in
    after_telling (Tell.Made b.base b.exponent) w next refl refl refl refl

end_advances : (b : Block) (w : FWorld) → IsAfter w (end b w)
end_advances b w =
    let next : FWorld = record w { live = without b.base w.live } in
    after_telling (Tell.Ended b.base b.exponent) w next refl refl refl refl

make_all_advances : (bs : List Block) (w : FWorld) → IsAfter w (make_all bs w)
make_all_advances [] w = at_once w
make_all_advances (b ∷ bs) w = after w (make b w) _ (make_advances b w) (make_all_advances bs (make b w))

end_all_advances : (bs : List Block) (w : FWorld) → IsAfter w (end_all bs w)
end_all_advances [] w = at_once w
end_all_advances (b ∷ bs) w = after w (end b w) _ (end_advances b w) (end_all_advances bs (end b w))

allot_advances : (to e : ℕ) (at : Option ℕ) (u : FPoint) → IsAfter u.world (allot to e at u).world
allot_advances to e None u = at_once u.world
allot_advances to e (Some at) u = make_advances (block_at at e) u.world

malloc_advances : (g to size : ℕ) (u : FPoint) → IsAfter u.world (malloc g to size u).world
malloc_advances g to size u = by (nat_lt MOST_BYTES size)
  where
    by : (t : Bool) → IsAfter u.world (choose t (λ (x : FPoint). put to 0 x) (λ (x : FPoint). allot to (exponent_of g size) (place_of x.world.live (exponent_of g size)) x) u).world
    by true = at_once u.world
    by false = allot_advances to (exponent_of g size) (place_of u.world.live (exponent_of g size)) u

give_back_advances : (line : ℕ) (b : Option Block) (u : FPoint) → Advances u (give_back line b u)
give_back_advances line None u = at_once u.world
give_back_advances line (Some b) u = end_advances b u.world

free_advances : (at line : ℕ) (u : FPoint) → Advances u (free at line u)
free_advances at line u = by_test (at == 0) u u _ _ (at_once u.world) (give_back_advances line (heap_block at u.world.live) u)

get_advances : (to : ℕ) (input : List ℕ) (u : FPoint) → u.world.input ≡ input → IsAfter u.world (get to input u).world
get_advances to [] u q = at_once u.world
get_advances to (byte ∷ bytes) u q = record {
  told = record { rest = []; is = sym (append-nil u.world.told) };
  live = refl;
  later = (let z : u.world.time ≤ u.world.time = omega arith in z);
  by = λ h. h;
  taken = byte ∷ [];
  input = q;
}

environment_advances : (g to call a b : ℕ) (u : FPoint) → Advances u (environment g to call a b u)
environment_advances g to call a b u =
    let same = at_once u.world in
    by_test (call == 1) u u _ _ same (by_test (call == 2) u u _ _ (get_advances to u.world.input u refl)
    (by_test (call == 3) u u _ _ (after_tell (Tell.Output (a % 256)) u.world refl)
    (by_test (call == 4) u u _ _ (malloc_advances g to a u)
    (by_test (call == 5) u u _ _ (free_advances a b (put to a u)) same))))

-- ---- Steps

module _ (g : ℕ) (call : Calls) (m frame : ℕ) (advance : CallsAdvance call) where
  stored : (u : FPoint) (at from : ℕ) (width : Width)
      → IsAfter u.world (tell (Tell.Access (u.words at) (size_of_width width) true) (record u.world { memory = with_bytes u.world.memory (u.words at) (bytes_of (size_of_width width) (u.words from)) }))
  stored u at from width =
      let next : FWorld = record u.world { memory = with_bytes u.world.memory (u.words at) (bytes_of (size_of_width width) (u.words from)) } in
      after_telling (Tell.Access (u.words at) (size_of_width width) true) u.world next refl refl refl refl

  mutual
    pub act_advances : (x : FStep) (u : FPoint) → Advances u (act g call m frame x u)
    act_advances (FStep.Number to value) u = at_once u.world
    act_advances (FStep.Same to from) u = at_once u.world
    act_advances (FStep.Arith to op left right) u = at_once u.world
    act_advances (FStep.If cond first second) u = by_test (u.words cond == 0) u u _ _ (all_advance second u) (all_advance first u)
    act_advances (FStep.Block body) u = then_advances u (act_all g call m frame body u) (λ way t. Answer.Goes (out_of way) t) (all_advance body u) (λ way t. at_once t.world)
    act_advances (FStep.Loop body) u = turns_advance (act_all g call m frame body) (λ t. all_advance body t) m u
    act_advances (FStep.Inner body) u = turns_advance (act_all g call m frame body) (λ t. all_advance body t) (inner_turns m) u
    act_advances (FStep.Exit zero) u = at_once u.world
    act_advances (FStep.Exit (suc further)) u = at_once u.world
    act_advances (FStep.Call to function args) u = then_advances u (call function (map u.words args) u) (λ word t. goes (put to word t)) (advance function (map u.words args) u) (λ word t. at_once t.world)
    act_advances (FStep.Return from) u = at_once u.world
    act_advances (FStep.Slot to from) u = at_once u.world
    act_advances (FStep.Look to slot) u = by_test (nat_lt (u.words slot) (2 ^ (25 - g))) u u _ _ (at_once u.world) (at_once u.world)
    act_advances (FStep.FrameAt to offset) u = by_test (nat_lt offset frame) u u _ _ (at_once u.world) (at_once u.world)
    act_advances (FStep.Load to at width) u = access_advances (u.words at) (size_of_width width) _ u (after_tell (Tell.Access (u.words at) (size_of_width width) false) u.world refl)
    act_advances (FStep.Store at from width) u = access_advances (u.words at) (size_of_width width) _ u (stored u at from width)
    act_advances (FStep.Checked from to) u = after_tell (Tell.Move (u.words from) (u.words to)) u.world refl
    act_advances (FStep.LineMark line) u = after_tell (Tell.Line line) u.world refl
    act_advances (FStep.Report kind line) u = at_once u.world
    act_advances (FStep.Env to number a b) u = environment_advances g to number (u.words a) (u.words b) u

    pub all_advance : (xs : FSteps) (u : FPoint) → Advances u (act_all g call m frame xs u)
    all_advance FSteps.none u = at_once u.world
    all_advance (FSteps.more x xs) u =
        let t : FPoint = point u.words (spend (charge x) u.world) in
        then_advances u (act g call m frame x t) (λ way s. onward way s (act_all g call m frame xs))
        (after u.world t.world _ (after_spend (charge x) u.world) (act_advances x t))
        (λ way s. onward_advances way s (act_all g call m frame xs) (all_advance xs s))

pub steps_advance : StepsAdvance
steps_advance g call m frame advance xs u = all_advance g call m frame advance xs u

-- ---- Calls

pub returned_advances : (way : Way) (u : FPoint) → Advances u (returned way u)
returned_advances Way.On u = at_once u.world
returned_advances (Way.Out n) u = at_once u.world
returned_advances (Way.Back word) u = at_once u.world

pub body_advances : (body : FPoint → Run Way) (args : List ℕ) (u : FPoint) → ((t : FPoint) → Advances t (body t)) → Advances u (body_with body args u)
body_advances body args u h =
    let t : FPoint = point (arguments args) u.world in
    then_advances u (and_then (body t) returned) (λ word s. Answer.Goes word (point u.words s.world))
    (then_advances u (body t) returned (h t) returned_advances) (λ word s. at_once s.world)

pub leave_advances : (es : List ℕ) (caller w : FWorld) → IsAfter w (leave es caller w)
leave_advances es caller w =
    let done = end_all (reverse (blocks_from w.stack es)) w in
    after w done _ (end_all_advances (reverse (blocks_from w.stack es)) w) (stays done (leave es caller w) refl refl refl refl)

enter_advances : (base : ℕ) (es : List ℕ) (w : FWorld) → IsAfter w (enter base es w)
enter_advances base es w =
    let begun : FWorld = record w { depth = w.depth + 1; stack = base } in
    after w begun _ (stays w begun refl refl refl refl) (make_all_advances (blocks_from base es) begun)

pub framed_advances : (g line : ℕ) (body : FPoint → Run Way) (args : List ℕ) (frame : Option (List ℕ)) (u : FPoint) → ((t : FPoint) → Advances t (body t)) → Advances u (framed_if g line body args frame u)
framed_advances g line body args None u h = at_once u.world
framed_advances g line body args (Some es) u h =
    let base = stack_under g u.world.stack es in
    let t : FPoint = point u.words (enter base es u.world) in
    by_test (nat_lt base STACK_START) u u _ _ (at_once u.world)
    (then_advances u (body_with body args t) (λ word s. Answer.Goes word (point s.words (leave es u.world s.world)))
    (after u.world t.world _ (enter_advances base es u.world) (body_advances body args t h))
    (λ word s. leave_advances es u.world s.world))

pub no_calls_advance : CallsAdvance no_calls
no_calls_advance function args u = at_once u.world

module _ (g : ℕ) (frames : List (List ℕ)) (m : ℕ) where
  pub library_advances : (f : FFunction) (args : List ℕ) (u : FPoint) → Advances u (library g frames m f args u)
  library_advances f args u =
      let t : FPoint = point u.words (spend (call_charge f) u.world) in
      after u.world t.world _ (after_spend (call_charge f) u.world)
      (body_advances (act_all g no_calls m 0 f.body) args t (λ x. all_advance g no_calls m 0 no_calls_advance f.body x))

  pub defined_advances : (deeper : Calls) → CallsAdvance deeper → (number : ℕ) (f : FFunction) (args : List ℕ) (u : FPoint) → Advances u (defined g frames m deeper number f args u)
  defined_advances deeper h number f args u =
      let t : FPoint = point u.words (spend (call_charge f) u.world) in
      after u.world t.world _ (after_spend (call_charge f) u.world)
      (framed_advances g f.line (act_all g deeper m f.frame f.body) args (slice_get frames number) t (λ x. all_advance g deeper m f.frame h f.body x))

  pub counted_advances : (line : ℕ) (go : FPoint → Run ℕ) (u : FPoint) → Advances u (go u) → Advances u (counted line go u)
  counted_advances line go u h = by_test (nat_le MOST_CALLS u.world.depth) u u _ _ (at_once u.world) h

  module _ (functions : List FFunction) where
    pub none_advances : (f : Option FFunction) → CallsAdvance (call_none g frames m functions f)
    none_advances None number args u = at_once u.world
    none_advances (Some f) number args u = by_test (f.line == 0) u u _ _ (library_advances f args u) (counted_advances f.line (ends Ending.Cut) u (at_once u.world))

    pub one_advances : (deeper : Calls) → CallsAdvance deeper → (f : Option FFunction) → CallsAdvance (call_one g frames m functions deeper f)
    one_advances deeper h None number args u = at_once u.world
    one_advances deeper h (Some f) number args u =
        by_test (f.line == 0) u u _ _ (library_advances f args u) (counted_advances f.line (defined g frames m deeper number f args) u (defined_advances deeper h number f args u))

    pub calls_advance : (n : ℕ) → CallsAdvance (calls g frames m functions n)
    calls_advance zero number args u = none_advances (slice_get functions number) number args u
    calls_advance (suc n) number args u = one_advances (calls g frames m functions n) (calls_advance n) (slice_get functions number) number args u

pub programs_advance : ProgramsAdvance
programs_advance g frames m functions n = calls_advance g frames m functions n

pub all_came : AllCame
all_came g code globals frames input m =
    let u : FPoint = start code.initial globals input in
    let h : Advances u (flat_run g code globals frames input m) =
    then_advances u (calls g frames m code.functions m code.main [] u) exited (calls_advance g frames m code.functions m code.main [] u) (λ word t. at_once t.world) in
    h.by tt
