-- How a machine follows items, whatever it follows in calls.
use Rattle.std.proofs.Common.{◌≡◌, ℕ, zero, suc, ◌+◌, ◌-◌, ◌<◌, ◌≤◌, min, true, false, List, [], ◌∷◌, ◌++◌, length, map, Option, Some, None, refl, sym, ◌∙◌, subst, arith}
use Rattle.std.specs.Prelude.{slice_index}
use Rattle.bb_words.specs.Answers.{Answer}
use Rattle.flat_code.specs.Code.{FStep, FSteps}
use Rattle.flat_code.specs.World.{with_word, FPoint, point, spend, Way}
use Rattle.flat_code.specs.Run.{slot_word, Calls, act, act_all, turns, inner_turns}
use Rattle.flat_code.specs.Time.{charge}
use Rattle.flat_discipline.specs.Comes.{InTurns, InStep, InSteps}
use Rattle.flat_discipline.specs.Items.{Item, Items, all_steps, step_places, steps_places}
use Rattle.rv_asm.specs.declared.parts.Part.{Part}
use Rattle.rv_asm.specs.declared.parts.Part.TheVariants.{Label, Jump}
use Rattle.rv_asm.specs.Runs.{PartsAt}
use Rattle.rv_selected.specs.Selection.{item_labels, items_labels, is_end, choice_parts, loop_parts, items_parts}
use Rattle.rv_selected.specs.Steps.{plains, fetch, held_after, slot_code, step_parts, call_parts}
use Rattle.select_scope.specs.Fits.{AreValues, FitsStep, FitItems}
use Rattle.select_scope.specs.InReach.{IsInReach, reached}
use Rattle.select_scope.specs.Loaded.{Loaded, IsLoaded, Frame, HasRoom, At}
use Rattle.select_scope.proofs.Agree.{Laws, spent}
use Rattle.select_scope.proofs.Reach.{Arrives, Around, Comes, comes_on, comes_from, forget, then_comes, block_comes}
use Rattle.select_scope.proofs.Moves.{at_later}
use Rattle.select_scope.proofs.Pieces.{parts_split}
use Rattle.select_steps.proofs.Constructs.{within, label_here, comes_at, turns_come, choice_comes}
use Rattle.select_steps.proofs.Steps.{number_runs, same_runs, arith_runs, fetches, exit_runs as leave_runs, return_runs}
use Rattle.select_accesses.proofs.Loading.{load_runs}
use Rattle.select_accesses.proofs.Storing.{store_runs}
use Rattle.select_steps.proofs.Slots.{slot_runs}
use Rattle.select_accesses.proofs.Checking.{checked_runs}
use Rattle.select_accesses.proofs.Looking.{look_runs}
use Rattle.select_accesses.proofs.Framed.{frame_runs}
use Rattle.select_straight.proofs.Asking.{exit_runs, get_runs, put_runs, report_runs, line_runs}

more_inner : (m : ℕ) → m ≤ inner_turns m
unfolding inner_turns
more_inner m = omega arith

-- A call is followed: its arguments, its function, and its result.
pub record CallsFollow (s : Loaded) (f : Frame) (g m frame q : ℕ) (call : Calls) (inside : (function : ℕ) → (args : List ℕ) → FPoint → Type 0) (params : ℕ → Option ℕ) : Type 0 where
  pub follow : (to function : ℕ) (args : List ℕ) (r : Around) (a b : ℕ) (known : Option ℕ) (u : FPoint) (k : ℕ) → to < f.values → AreValues f.values args
      → params function ≡ Some (length args) → length args ≤ 8 → PartsAt s.text s.all s.labels a (call_parts to function args) b
      → inside function (map u.words args) (point u.words (spend 48 u.world)) → At s f a known u k
      → Comes s f r b None q k u.world.time (act g call m frame (FStep.Call to function args) (point u.words (spend 48 u.world)))

module _ (laws : Laws) (s : Loaded) (scene : IsLoaded s) (f : Frame) (room : HasRoom f) (g m frame q : ℕ) (call : Calls) (inside : (function : ℕ) → (args : List ℕ) → FPoint → Type 0) (params : ℕ → Option ℕ) (few : q ≤ m) (four : g ≡ 4)
    (calls : CallsFollow s f g m frame q call inside params) where
  -- each step that steps come to is in reach
  abbrev Reached : FSteps → (place : ℕ) → FPoint → Type 0
  Reached steps p u = InSteps g call m frame inside (reached frame) steps p u

  step_runs : (st : FStep) (r : Around) (a b p : ℕ) (known : Option ℕ) (u : FPoint) (k : ℕ) → FitsStep f.values params (length r.exits) st
      → IsInReach frame st u → InStep g call m frame inside (reached frame) st p (point u.words (spend (charge st) u.world)) → PartsAt s.text s.all s.labels a (step_parts g r.back known r.exits st) b → At s f a known u k
      → Comes s f r b (held_after known st) q k u.world.time (act g call m frame st (point u.words (spend (charge st) u.world)))
  step_runs (FStep.Number to value) r a b p known u k fits reach inner h at = number_runs laws s scene f room g a b known to value u k fits.0 fits.1 h at
  step_runs (FStep.Same to from) r a b p known u k fits reach inner h at = same_runs laws s scene f room g a b known to from u k fits.0 fits.1 h at
  step_runs (FStep.Arith to op left right) r a b p known u k fits reach inner h at = arith_runs laws s scene f room g a b known to op left right u k fits.0 fits.1 fits.2 h at
  step_runs (FStep.Exit zero) r a b p known u k fits reach inner h at = absurd (let e : 1 ≤ 0 = fits.0 in omega (arith, e))
  step_runs (FStep.Exit (suc n)) r a b p known u k fits reach inner h at =
      let e : suc n - 1 ≡ n = omega arith in (
        omega (arith, fits.1),
        subst (λ j. Arrives s f (s.labels (slice_index r.exits j)) None (point u.words (spend 2 u.world)) k u.world.time) e
            (leave_runs laws s scene f room a b (slice_index r.exits (suc n - 1)) known u k h at),
      )
  step_runs (FStep.Call to function args) r a b p known u k fits reach inner h at = calls.follow to function args r a b known u k fits.0 fits.1 fits.2 fits.3 h inner at
  step_runs (FStep.Return from) r a b p known u k fits reach inner h at = return_runs laws s scene f room a b r.back from known u k fits h at
  step_runs (FStep.Load to at width) r a b p known u k fits reach inner h here = load_runs laws s scene f room to at width r q a b known u k fits.0 fits.1 reach h here
  step_runs (FStep.Store at from width) r a b p known u k fits reach inner h here = store_runs laws s scene f room at from width r q a b known u k fits.0 fits.1 reach h here
  step_runs (FStep.Slot to from) r a b p known u k fits reach inner h at =
      subst (λ e. PartsAt s.text s.all s.labels a (plains (slot_code e known to from)) b → Arrives s f b None (point (with_word u.words to (slot_word e (u.words from))) (spend 12 u.world)) k u.world.time) (sym four)
      (λ parts. slot_runs laws s scene f room to from a b known u k fits.0 fits.1 parts at) h
  step_runs (FStep.Checked from to) r a b p known u k fits reach inner h at = checked_runs laws s scene f room from to a b known u k fits.0 fits.1 h at
  step_runs (FStep.Look to slot) r a b p known u k fits reach inner h at =
      subst (λ e. Comes s f r b (Some to) q k u.world.time (act e call m frame (FStep.Look to slot) (point u.words (spend 4 u.world)))) (sym four)
      (look_runs laws s scene f room to slot r q a b known u k fits.0 fits.1 reach h at)
  step_runs (FStep.FrameAt to offset) r a b p known u k fits reach inner h at =
      frame_runs laws s scene f room to offset frame r q a b known u k fits.0 fits.1 reach h at
  step_runs (FStep.LineMark line) r a b p known u k fits reach inner h at = line_runs laws s scene f room line a b known u k fits h at
  step_runs (FStep.Report kind line) r a b p known u k fits reach inner h at = report_runs laws s scene f room kind line a b known u k fits h at
  step_runs (FStep.Env to zero x y) r a b p known u k fits reach inner h at = absurd (let e : 1 ≤ 0 = fits.3 in omega (arith, e))
  step_runs (FStep.Env to (suc zero) x y) r a b p known u k fits reach inner h at = exit_runs laws s scene f room to x a b known u k fits.1 h at
  step_runs (FStep.Env to (suc (suc zero)) x y) r a b p known u k fits reach inner h at = get_runs laws s scene f room to a b known u k fits.0 h at
  step_runs (FStep.Env to (suc (suc (suc zero))) x y) r a b p known u k fits reach inner h at = put_runs laws s scene f room to x a b known u k fits.0 fits.1 h at
  step_runs (FStep.Env to (suc (suc (suc (suc n)))) x y) r a b p known u k fits reach inner h at = absurd (let e : suc (suc (suc (suc n))) ≤ 3 = fits.4 in omega (arith, e))
  step_runs st r a b p known u k fits reach inner h at = absurd fits

  -- no steps are done where there are none
  does_none : (is : Items) (u : FPoint) → is_end is ≡ true → act_all g call m frame (all_steps g is) u ≡ Answer.Goes Way.On u
  does_none Items.end u e = refl
  does_none (Items.next i rest) u e = absurd (let q : false ≡ true = e in cc)

  -- a loop, whose body is followed wherever it stands
  loop_comes : (steps : FSteps) (P : FPoint → Type 0) (p : List Part) (r : Around) (n a b most : ℕ) (known : Option ℕ) (u : FPoint) (k : ℕ) → q ≤ most → n + 2 ≤ scene.count
      → PartsAt s.text s.all s.labels a (loop_parts n p) b
      → ((x y : ℕ) → PartsAt s.text s.all s.labels x p y → (v : FPoint) (j : ℕ) → P v → At s f x None v j → Comes s f (within (n + 1) r) y None q j v.world.time (act_all g call m frame steps v))
      → InTurns most (act_all g call m frame steps) P (point u.words (spend 0 u.world)) → At s f a known u k → Comes s f r b None q k u.world.time (turns most (act_all g call m frame steps) (point u.words (spend 0 u.world)))
  loop_comes steps P p r n a b most known u k enough labels h runs holds at =
      let x = h.0 in
      let l1 = label_here laws s scene f room n a x (omega (arith, labels)) h.1 in
      let one = parts_split s p (Jump 0 n ∷ Label (n + 1) ∷ []) x b h.2 in
      let y = one.0 in
      let l2 = label_here laws s scene f room (n + 1) one.2.0 one.2.2.0 (omega (arith, labels)) one.2.2.1 in
      let end : one.2.0 ≡ b = sym (one.2.2.2 ∙ l2.1) in
      let v = point u.words (spend 0 u.world) in
      let there = at_later s f x None u v.world k (spent 0 u.world) (subst (λ c. At s f c None u k) (sym l1.1) (forget s f a known u k at)) in
      let body = act_all g call m frame steps in
      comes_on s f r b None q (min most q) k u.world.time k v.world.time (turns most body v) (omega arith) (omega (arith, enough)) (omega arith)
      (turns_come laws s scene f room r n (n + 1) x y one.2.0 b q None body P (l1.0 ∙ sym l1.1) (l2.0 ∙ end) one.2.1 (λ w j p here. runs x y one.1 w j p here) most v k holds there)

  pub items_run : (is : Items) (r : Around) (n a b p : ℕ) (known : Option ℕ) (u : FPoint) (k : ℕ) → FitItems f.values params (length r.exits) is
      → Reached (all_steps g is) p u
      → n + items_labels is ≤ scene.count → PartsAt s.text s.all s.labels a (items_parts g r.back known r.exits n is) b → At s f a known u k
      → Comes s f r b None q k u.world.time (act_all g call m frame (all_steps g is) u)
  items_run Items.end r n a b p known u k fits reach labels h at =
      record { count = k; later = omega arith; within = omega arith; there = subst (λ p. At s f p None u k) (sym h) (forget s f a known u k at) }
  items_run (Items.next (Item.Plain st) rest) r n a b p known u k fits reach labels h at =
      let one = parts_split s (step_parts g r.back known r.exits st) (items_parts g r.back (held_after known st) r.exits (n + 0) rest) a b h in
      then_comes s f r one.0 b (held_after known st) None q k u.world.time (act g call m frame st (point u.words (spend (charge st) u.world))) (act_all g call m frame (all_steps g rest))
      (Reached (all_steps g rest) (p + step_places st)) reach.2 (step_runs st r a one.0 p known u k fits.0 reach.0 reach.1 one.1 at)
      (λ v j more there. items_run rest r (n + 0) one.0 b (p + step_places st) (held_after known st) v j fits.1 more (omega (arith, labels)) one.2 there)
  items_run (Items.next (Item.Checks x) rest) r n a b p known u k fits reach labels h at = absurd fits.0
  items_run (Items.next (Item.If cond x y) rest) r n a b p known u k fits reach labels h at =
      let p1 = items_parts g r.back None r.exits (n + 2) x in
      let p2 = items_parts g r.back None r.exits (n + 2 + items_labels x) y in
      let choice = choice_parts (is_end x) (is_end y) n p1 p2 in
      let one = parts_split s (plains (fetch known cond) ++ choice) (items_parts g r.back None r.exits (n + item_labels (Item.If cond x y)) rest) a b h in
      let two = parts_split s (plains (fetch known cond)) choice a one.0 one.1 in
      let v = point u.words (spend 6 u.world) in
      let t = u.world.time in
      let got = fetches laws s scene f room a two.0 known cond 6 u k fits.0.0 (omega arith) two.1 at in
      let first = act_all g call m frame (all_steps g x) in
      let second = act_all g call m frame (all_steps g y) in
      let chosen = choice_comes laws s scene f room r (is_end x) (is_end y) n two.0 one.0 cond p1 p2 v q (k + got.count) (t + 1) first second (Reached (all_steps g x) (p + 1)) (Reached (all_steps g y) (p + 1 + steps_places (all_steps g x))) (omega (arith, labels)) two.2
      (does_none x v) (does_none y v) reach.1
      (λ some c d parts j there. items_run x r (n + 2) c d (p + 1) None v j fits.0.1 some (omega (arith, labels)) parts there)
      (λ some c d parts j there. items_run y r (n + 2 + items_labels x) c d (p + 1 + steps_places (all_steps g x)) None v j fits.0.2 some (omega (arith, labels)) parts there)
      (omega (arith, at.soon, got.few)) (omega arith) got.there in
      then_comes s f r one.0 b None None q k t (act g call m frame (FStep.If cond (all_steps g x) (all_steps g y)) v) (act_all g call m frame (all_steps g rest)) (Reached (all_steps g rest) (p + step_places (FStep.If cond (all_steps g x) (all_steps g y)))) reach.2
      (comes_from s f r one.0 None q k t (k + got.count) (t + 1) (act g call m frame (FStep.If cond (all_steps g x) (all_steps g y)) v) (omega arith) (omega (arith, got.few)) chosen)
      (λ w j more there. items_run rest r (n + item_labels (Item.If cond x y)) one.0 b (p + step_places (FStep.If cond (all_steps g x) (all_steps g y))) None w j fits.1 more (omega (arith, labels)) one.2 there)
  items_run (Items.next (Item.Block body) rest) r n a b p known u k fits reach labels h at =
      let parts = items_parts g r.back known (n ∷ r.exits) (n + 1) body in
      let one = parts_split s (parts ++ Label n ∷ []) (items_parts g r.back None r.exits (n + item_labels (Item.Block body)) rest) a b h in
      let two = parts_split s parts (Label n ∷ []) a one.0 one.1 in
      let l = label_here laws s scene f room n two.0 two.2.0 (omega (arith, labels)) two.2.1 in
      let end : one.0 ≡ two.0 = two.2.2 ∙ l.1 in
      let v = point u.words (spend 0 u.world) in
      let t = u.world.time in
      let run = items_run body (within n r) (n + 1) a two.0 (p + 1) known v k fits.0 reach.1 (omega (arith, labels)) two.1 (at_later s f a known u v.world k (spent 0 u.world) at) in
      let left = block_comes s f r n two.0 None q k (t + 0) (act_all g call m frame (all_steps g body) v) l.0 run in
      then_comes s f r one.0 b None None q k t (act g call m frame (FStep.Block (all_steps g body)) v) (act_all g call m frame (all_steps g rest)) (Reached (all_steps g rest) (p + step_places (FStep.Block (all_steps g body)))) reach.2
      (comes_at laws s scene f room r two.0 one.0 None q k t (act g call m frame (FStep.Block (all_steps g body)) v) (sym end)
      (comes_from s f r two.0 None q k t k (t + 0) (act g call m frame (FStep.Block (all_steps g body)) v) (omega arith) (omega arith) left))
      (λ w j more there. items_run rest r (n + item_labels (Item.Block body)) one.0 b (p + step_places (FStep.Block (all_steps g body))) None w j fits.1 more (omega (arith, labels)) one.2 there)
  items_run (Items.next (Item.Loop body) rest) r n a b p known u k fits reach labels h at =
      let parts = items_parts g r.back None ((n + 1) ∷ r.exits) (n + 2) body in
      let one = parts_split s (loop_parts n parts) (items_parts g r.back None r.exits (n + item_labels (Item.Loop body)) rest) a b h in
      then_comes s f r one.0 b None None q k u.world.time (act g call m frame (FStep.Loop (all_steps g body)) (point u.words (spend 0 u.world))) (act_all g call m frame (all_steps g rest)) (Reached (all_steps g rest) (p + step_places (FStep.Loop (all_steps g body)))) reach.2
      (loop_comes (all_steps g body) (Reached (all_steps g body) (p + 1)) parts r n a one.0 m known u k few (omega (arith, labels)) one.1
      (λ x y stand v j some there. items_run body (within (n + 1) r) (n + 2) x y (p + 1) None v j fits.0 some (omega (arith, labels)) stand there) reach.1 at)
      (λ w j more there. items_run rest r (n + item_labels (Item.Loop body)) one.0 b (p + step_places (FStep.Loop (all_steps g body))) None w j fits.1 more (omega (arith, labels)) one.2 there)
  items_run (Items.next (Item.Inner body) rest) r n a b p known u k fits reach labels h at =
      let parts = items_parts g r.back None ((n + 1) ∷ r.exits) (n + 2) body in
      let one = parts_split s (loop_parts n parts) (items_parts g r.back None r.exits (n + item_labels (Item.Inner body)) rest) a b h in
      then_comes s f r one.0 b None None q k u.world.time (act g call m frame (FStep.Inner (all_steps g body)) (point u.words (spend 0 u.world))) (act_all g call m frame (all_steps g rest)) (Reached (all_steps g rest) (p + step_places (FStep.Inner (all_steps g body)))) reach.2
      (loop_comes (all_steps g body) (Reached (all_steps g body) (p + 1)) parts r n a one.0 (inner_turns m) known u k (omega (arith, few, more_inner m)) (omega (arith, labels)) one.1
      (λ x y stand v j some there. items_run body (within (n + 1) r) (n + 2) x y (p + 1) None v j fits.0 some (omega (arith, labels)) stand there) reach.1 at)
      (λ w j more there. items_run rest r (n + item_labels (Item.Inner body)) one.0 b (p + step_places (FStep.Inner (all_steps g body))) None w j fits.1 more (omega (arith, labels)) one.2 there)
