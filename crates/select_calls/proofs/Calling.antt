-- How a machine follows the step of a call, if it follows calls.
use Rattle.std.proofs.Common.{◌≡◌, ◌≢◌, ℕ, zero, suc, ◌+◌, ◌-◌, ◌*◌, ◌%◌, ◌<◌, ◌≤◌, true, if◌then◌else◌, List, [], ◌∷◌, ◌++◌, length, map, Option, Some, None, refl, sym, ap, ◌∙◌, subst, arith}
use Rattle.std.specs.Prelude.{nat_lt, nat_le, slice_get, slice_index, slice_index_or}
use Rattle.std.proofs.lemmas.List.{get_or-set_same, get_or-set_other, append-nil}
use Rattle.std.proofs.lemmas.Bool.{lt-ltb}
use Rattle.bb_words.specs.Answers.{Answer, and_then}
use Rattle.bb_watch.specs.declared.event.Event.{Event}
use Rattle.bb_watch.specs.declared.event.Event.TheVariants.{Call}
use Rattle.bb_watch.specs.Told.{Happens, events_of}
use Rattle.bb_watch.specs.Laws.{open_on}
use Rattle.bb_watch.specs.Safety.{Each, IsControlSafe, open_after}
use Rattle.size_table.specs.Memory.{word_at}
use Rattle.size_table.specs.declared.memory_map.TheConstants.{CONTROL_START, GLOBALS_START, MOST_CALLS}
use Rattle.flat_code.specs.Code.{FStep, FFunction}
use Rattle.flat_code.specs.World.{Words, with_word, FWorld, FPoint, point, spend, put, Run, Way}
use Rattle.flat_code.specs.Run.{Calls, act}
use Rattle.rv_asm.specs.declared.parts.Part.TheVariants.{Jump}
use Rattle.rv_asm.specs.Runs.{IsAt, PartAt, PartsAt, at_place, gone}
use Rattle.rv_machine.specs.State.{register_of, set_register}
use Rattle.rv_selected.specs.Registers.{cell, load, store}
use Rattle.rv_selected.specs.Steps.{plains, arguments_code, call_parts}
use Rattle.rv_selected.specs.Straight.{Held, with_register, does_all, AreStraight}
use Rattle.flat_landing.specs.Shared.{shared}
use Rattle.select_scope.specs.Fits.{AreValues, params_of}
use Rattle.select_scope.specs.Loaded.{Loaded, IsLoaded, after, Frame, edge, HasRoom, Agrees, IsKept, At}
use Rattle.select_straight.proofs.Straight.{same_word}
use Rattle.select_scope.proofs.Agree.{Laws, spent}
use Rattle.select_scope.proofs.Reach.{Around, Comes, Ends, ends_from}
use Rattle.select_scope.proofs.Moves.{place_aligned, behind_jump, apart, cell_is, held, row, stands_at}
use Rattle.select_scope.proofs.Pieces.{is_set, is_cell, parts_split, changed_here, changed_other}
use Rattle.select_straight.proofs.Asking.{stores_on}
use Rattle.select_items.proofs.Items.{CallsFollow}

-- ---- Calls

-- After k instructions a function was called: x2 is at the end of the frame that it will have, x1 has the place to return to,
-- and the registers from x18 on have the arguments.
pub record IsCalled (s : Loaded) (f : Frame) (function : ℕ) (args : List ℕ) (w : FWorld) (k : ℕ) : Type 0 where
  pub at : IsAt s.text (s.labels function) (after s k)
  pub base : register_of (after s k).machine.core 2 ≡ edge f
  pub from : register_of (after s k).machine.core 1 ≡ f.back
  pub given : (i : ℕ) → i < length args → register_of (after s k).machine.core (18 + i) ≡ slice_index_or args i 0
  pub agrees : Agrees s f w (after s k)
  pub kept : IsKept s w.told

-- the frame of a call that has returned
abbrev pub returned_to : (places : List ℕ) → Frame → Frame
returned_to places f = record f { places = places }

-- It has returned, with a word in x9.
pub record Answered (s : Loaded) (f : Frame) (places : List ℕ) (word : ℕ) (w : FWorld) (k t : ℕ) : Type 0 where
  pub count : ℕ
  pub later : k ≤ count
  pub within : count + t ≤ k + w.time
  pub at : IsAt s.text f.back (after s count)
  pub base : register_of (after s count).machine.core 2 ≡ edge f
  pub value : register_of (after s count).machine.core 9 ≡ word
  pub agrees : Agrees s (returned_to places f) w (after s count)
  pub kept : IsKept s w.told

-- where a call comes to, whose caller has these words
abbrev pub CallComes : Loaded → Frame → (places : List ℕ) → Words → (q k t : ℕ) → Run ℕ → Type 0
CallComes s f places words q k t (Answer.Goes word u) = (u.words ≡ words) × Answered s f places word u.world k t
CallComes s f places words q k t (Answer.Ends ending u) = Ends s ending u q k t

-- the frame that a call of a function will have, under x2
pub record IsCallee (f : Frame) (fn : FFunction) (places : List ℕ) : Type 0 where
  pub values : f.values ≡ fn.values
  pub few : fn.values ≤ 255
  pub room : CONTROL_START + 1024 * (4096 - length f.entered) ≤ edge f
  pub high : edge f ≤ GLOBALS_START
  pub aligned : f.sp % 4 ≡ 0
  pub back : f.back % 4 ≡ 0
  pub opened : f.places ≡ f.back ∷ places

-- where a call may be reported before any time was charged for it
abbrev pub HasTime : FWorld → (k t : ℕ) → Type 0
HasTime w k t = (k ≤ w.time) × (t ≤ w.time) × (nat_le MOST_CALLS w.depth ≡ true → (k + 7 ≤ w.time) × (t + 7 ≤ w.time))

-- the calls of functions are followed
pub record CallsRun (s : Loaded) (functions : List FFunction) (q : ℕ) (call : Calls) (inside : (function : ℕ) → (args : List ℕ) → FPoint → Type 0) : Type 0 where
  pub run : (f : Frame) (number : ℕ) (fn : FFunction) (places args : List ℕ) (u : FPoint) (k t : ℕ) → slice_get functions number ≡ Some fn → length args ≡ fn.params
      → IsCallee f fn places → HasTime u.world k t → inside number args u → IsCalled s f number args u.world k → CallComes s f places u.words q k t (call number args u)

-- ---- Arguments

-- the registers from one on are loaded
pub record Loads (r : ℕ) (args : List ℕ) (old new : Held) : Type 0 where
  pub word : new.word ≡ old.word
  pub low : (q : ℕ) → q < r → new.register q ≡ old.register q
  pub high : (q : ℕ) → r + length args ≤ q → new.register q ≡ old.register q
  pub is : (i : ℕ) → i < length args → new.register (r + i) ≡ old.word (cell (slice_index_or args i 0))

loads : (r : ℕ) (args : List ℕ) (h : Held) → r + length args ≤ 26 → Loads r args h (does_all (arguments_code r args) h)
loads r [] h few = record { word = refl; low = λ q lt. refl; high = λ q le. refl; is = λ i lt. absurd (omega (arith, lt)) }
loads r (v ∷ vs) h few =
    let g = with_register r (h.word (cell v)) h in
    let test : nat_lt r 26 ≡ true = lt-ltb r 26 (omega (arith, few)) in
    let rest = loads (r + 1) vs g (omega (arith, few)) in
    subst (λ b. Loads r (v ∷ vs) h (does_all (if b then load r v ∷ arguments_code (r + 1) vs else []) h)) (sym test) (record {
      word = rest.word;
      low = λ q lt. rest.low q (omega (arith, lt)) ∙ changed_other h.register r (h.word (cell v)) q (λ e. absurd (let z : r < r = omega (arith, e, lt) in omega (arith, z)));
      high = λ q le. rest.high q (omega (arith, le)) ∙ changed_other h.register r (h.word (cell v)) q (λ e. absurd (let z : r < r = omega (arith, e, le) in omega (arith, z)));
      is = λ i lt. first rest i lt;
    })
  where
    first : Loads (r + 1) vs (with_register r (h.word (cell v)) h) (does_all (arguments_code (r + 1) vs) (with_register r (h.word (cell v)) h)) → (i : ℕ) → i < suc (length vs)
        → (does_all (arguments_code (r + 1) vs) (with_register r (h.word (cell v)) h)).register (r + i) ≡ h.word (cell (slice_index_or (v ∷ vs) i 0))
    first rest zero lt = rest.low (r + 0) (omega arith) ∙ changed_here h.register r (h.word (cell v)) (r + 0) (omega arith)
    first rest (suc i) lt =
        let e : r + suc i ≡ r + 1 + i = omega arith in
        ap (does_all (arguments_code (r + 1) vs) (with_register r (h.word (cell v)) h)).register e ∙ rest.is i (omega (arith, lt))

arguments_straight : (values r : ℕ) (args : List ℕ) → values ≤ 255 → 3 ≤ r → r + length args ≤ 26 → AreValues values args → AreStraight (values + 1) (arguments_code r args)
arguments_straight values r [] few low high fits = tt
arguments_straight values r (v ∷ vs) few low high fits =
    let test : nat_lt r 26 ≡ true = lt-ltb r 26 (omega (arith, high)) in
    subst (λ b. AreStraight (values + 1) (if b then load r v ∷ arguments_code (r + 1) vs else [])) (sym test)
    ((is_set r low (omega (arith, high)), refl, is_cell values v few (omega (arith, fits.0))), arguments_straight values (r + 1) vs few (omega (arith, low)) (omega (arith, high)) fits.1)

arguments_length : (r : ℕ) (args : List ℕ) → r + length args ≤ 26 → length (arguments_code r args) ≡ length args
arguments_length r [] few = refl
arguments_length r (v ∷ vs) few =
    let test : nat_lt r 26 ≡ true = lt-ltb r 26 (omega (arith, few)) in
    ap (λ b. length (if b then load r v ∷ arguments_code (r + 1) vs else [])) test ∙ ap suc (arguments_length (r + 1) vs (omega (arith, few)))

mapped_length : (words : Words) (args : List ℕ) → length (map words args) ≡ length args
mapped_length words [] = refl
mapped_length words (v ∷ vs) = ap suc (mapped_length words vs)

mapped : (values : ℕ) (words : Words) (args : List ℕ) (i : ℕ) → i < length args → words (slice_index_or args i 0) ≡ slice_index_or (map words args) i 0
mapped values words [] i lt = absurd (omega (arith, lt))
mapped values words (v ∷ vs) zero lt = refl
mapped values words (v ∷ vs) (suc i) lt = mapped values words vs i (omega (arith, lt))

small_value : (values : ℕ) (args : List ℕ) (i : ℕ) → AreValues values args → i < length args → slice_index_or args i 0 < values
small_value values [] i fits lt = absurd (omega (arith, lt))
small_value values (v ∷ vs) zero fits lt = fits.0
small_value values (v ∷ vs) (suc i) fits lt = small_value values vs i fits.1 (omega (arith, lt))

found : (o : Option FFunction) (n : ℕ) → params_of o ≡ Some n → (fn : FFunction) × (o ≡ Some fn) × (fn.params ≡ n)
found None n e = absurd (let q : ⊥ = cc in q)
found (Some fn) n e = (fn, refl, let q : fn.params ≡ n = cc in q)

-- ---- The step of a call

module _ (laws : Laws) (s : Loaded) (scene : IsLoaded s) (f : Frame) (room : HasRoom f) (functions : List FFunction) where
  -- the frame of what is called, after k instructions
  callee : (fn : FFunction) (back k : ℕ) → Frame
  callee fn back k = record {
    sp = f.sp - 4 * (fn.values + 1);
    values = fn.values;
    back = back;
    places = back ∷ f.places;
    entered = f.entered;
    old = λ at. slice_index (after s k).machine.core.memory at;
  }

  edge_of : (fn : FFunction) (back k : ℕ) → fn.values ≤ 255 → edge (callee fn back k) ≡ f.sp
  unfolding callee
  edge_of fn back k few = omega (arith, few, room.low)

  -- the function is called
  calls_it : (fn : FFunction) (function a b : ℕ) (args : List ℕ) (u : FPoint) (k : ℕ) → fn.values ≤ 255 → PartAt s.text s.all s.labels a (Jump 1 function) b
      → ((i : ℕ) → i < length args → register_of (after s k).machine.core (18 + i) ≡ slice_index_or args i 0) → length args ≤ 8 → At s f a None u k
      → (count : ℕ) × (1 ≤ count) × (count ≤ 2) × IsCalled s (callee fn b k) function args u.world (k + count)
      × ((at : ℕ) → slice_index (after s (k + count)).machine.core.memory at ≡ slice_index (after s k).machine.core.memory at)
  unfolding callee
  calls_it fn function a b args u k few part given small at =
      let v = after s k in
      let c = v.machine.core in
      let go = part.0 v at.at in
      let d = at_place (s.labels function) (set_register 5 go.scratch (set_register 1 b c)) in
      let event : Event = Call (b - 4) (s.labels function) in
      let count = go.count in
      let same : after s (k + count) ≡ gone (event ∷ []) d v = sym (laws.steps_add k count s.start) ∙ go.comes in
      let size = (scene.form k).registers in
      let other : (r : ℕ) → r ≢ 1 → r ≢ 5 → register_of d r ≡ register_of c r =
      λ r n1 n5. get_or-set_other (set_register 1 b c).registers 5 r go.scratch 0 n5 ∙ get_or-set_other c.registers 1 r b 0 n1 in
      let events : events_of (gone (event ∷ []) d v).told ≡ events_of v.told ++ event ∷ [] = laws.events_append v.told (Happens event ∷ []) in
      let a0 = at.agrees in
      let four : b - 4 + 4 ≡ b = let x = (behind_jump s a b 1 function (place_aligned s scene a k at.at) part).1 in omega (arith, x) in (
        count,
        go.some,
        go.few,
        record {
          at = stands_at laws s scene f room (k + count) (s.labels function) (ap (λ x. x.machine.core.pc) same) (ap (λ x. x.machine.ending) same ∙ at.at.running);
          base = ap (λ x. register_of x.machine.core 2) same ∙ other 2 (apart 2 1 refl) (apart 2 5 refl) ∙ at.frame.base ∙ (let e : f.sp ≡ f.sp - 4 * (fn.values + 1) + 4 * (fn.values + 1) = omega (arith, few, room.low) in e);
          from = ap (λ x. register_of x.machine.core 1) same ∙ get_or-set_other (set_register 1 b c).registers 5 1 go.scratch 0 (apart 1 5 refl) ∙ get_or-set_same c.registers 1 b 0 (omega (arith, size));
          given = λ i lt. ap (λ x. register_of x.machine.core (18 + i)) same
              ∙ other (18 + i) (λ e. absurd (let q : 18 ≤ 1 = omega (arith, e) in omega (arith, q))) (λ e. absurd (let q : 18 ≤ 5 = omega (arith, e) in omega (arith, q))) ∙ given i lt;
          agrees = record {
            memory = λ q low high. ap (λ x. slice_index x.machine.core.memory q) same ∙ a0.memory q low high;
            above = λ q low high. ap (λ x. slice_index x.machine.core.memory q) same;
            stack = ap (λ x. register_of x.machine.core 8) same ∙ other 8 (apart 8 1 refl) (apart 8 5 refl) ∙ a0.stack;
            table = ap (λ x. register_of x.machine.core 26) same ∙ other 26 (apart 26 1 refl) (apart 26 5 refl) ∙ a0.table;
            number = ap (λ x. x.machine.frames.stack) same ∙ a0.number;
            layouts = ap (λ x. x.machine.frames.layouts) same ∙ a0.layouts;
            entered = ap (λ x. x.machine.frames.entered) same ∙ a0.entered;
            depth = a0.depth;
            input = ap (λ x. x.left) same ∙ a0.input;
            said = ap (λ x. shared x.told) same ∙ laws.shared_appends v.told (Happens event ∷ []) ∙ append-nil (shared v.told) ∙ a0.said;
            accesses = subst (λ x. Each IsControlSafe s.globals s.globals (events_of x.told)) (sym same) (subst (Each IsControlSafe s.globals s.globals) (sym events)
                ((laws.each_appends s.globals s.globals (events_of v.told) (event ∷ [])).1 (a0.accesses, (tt, tt))));
            returns = ap (λ x. open_after [] (events_of x.told)) same ∙ ap (open_after []) events ∙ laws.open_appends [] (events_of v.told) (event ∷ [])
                ∙ ap (λ o. open_on o (event ∷ [])) a0.returns ∙ ap (λ x. Some (x ∷ f.places)) four;
            settled = a0.settled;
          };
          kept = at.kept;
        },
        λ q. ap (λ x. slice_index x.machine.core.memory q) same,
      )

  -- a call has come back to its caller
  back_at : (fn : FFunction) (b m k : ℕ) (u : FPoint) (a word : ℕ) (w : FWorld) (k1 t : ℕ) → fn.values ≤ 255 → At s f a None u k
      → (an : Answered s (callee fn b k) f.places word w k1 t) → an.count ≤ w.time → At s f b None (point u.words w) an.count
  unfolding callee
  back_at fn b m k u a word w k1 t few at an soon =
      let j = an.count in
      let c = (after s j).machine.core in
      let bytes : (q : ℕ) → f.sp ≤ q → q < GLOBALS_START → slice_index c.memory q ≡ slice_index (after s k).machine.core.memory q =
      λ q low high. an.agrees.above q (omega (arith, low, few, room.low)) high in
      let words : (o : ℕ) → f.sp ≤ o → o + 4 ≤ GLOBALS_START → word_at c.memory o ≡ word_at (after s k).machine.core.memory o =
      λ o low high. same_word (after s k).machine.core.memory c.memory o (λ q from up. bytes q (omega (arith, low, from)) (omega (arith, high, up))) in
      let a0 = an.agrees in
      record {
        at = an.at;
        frame = record {
          base = an.base ∙ (let e : f.sp - 4 * (fn.values + 1) + 4 * (fn.values + 1) ≡ f.sp = omega (arith, few, room.low) in e);
          stands = record {
            cells = λ v lt. words (f.sp + cell v) (omega arith) (let x = cell_is v (omega (arith, lt, room.few)) in omega (arith, x, lt, room.high)) ∙ at.frame.stands.cells v lt;
            five = tt;
            zero = (scene.form j).zero;
          };
          behind = words (f.sp + 4 * f.values) (omega arith) (omega (arith, room.high)) ∙ at.frame.behind;
        };
        agrees = record {
          memory = a0.memory;
          above = λ q low high. bytes q (omega (arith, low)) high ∙ at.agrees.above q low high;
          stack = a0.stack;
          table = a0.table;
          number = a0.number;
          layouts = a0.layouts;
          entered = a0.entered;
          depth = a0.depth;
          input = a0.input;
          said = a0.said;
          accesses = a0.accesses;
          returns = a0.returns;
          settled = a0.settled;
        };
        soon = soon;
        kept = an.kept;
      }

  -- what comes of a call, from its caller, which stood at a before the jump
  used : (fn : FFunction) (to a b b' k j k1 : ℕ) (r : Around) (q : ℕ) (u : FPoint) (time : ℕ) (o : Run ℕ) → fn.values ≤ 255 → to < f.values → k ≤ time → k ≤ k1 → k1 ≤ k + 10
      → PartsAt s.text s.all s.labels b (plains (store 9 to ∷ [])) b' → At s f a None u j
      → CallComes s (callee fn b j) f.places u.words q k1 (time + 20) o → Comes s f r b' None q k time (and_then o (λ word t. Answer.Goes Way.On (put to word t)))
  unfolding and_then
  used fn to a b b' k j k1 r q u time (Answer.Goes word w) few lt soon le near rest at h =
      let an = h.1 in
      let back = back_at fn b j j u a word w.world k1 (time + 20) few at an (omega (arith, an.within, soon, near)) in
      let there = stores_on laws s scene f room 9 to word b b' (point u.words w.world) an.count (omega arith) lt an.value (omega (arith, an.within, soon, near)) rest back in
      record {
        count = an.count + 1;
        later = omega (arith, an.later, le);
        within = omega (arith, an.within, near);
        there = subst (λ x. At s f b' None (point (with_word x to word) w.world) (an.count + 1)) (sym h.0) there;
      }
  used fn to a b b' k j k1 r q u time (Answer.Ends ending w) few lt soon le near rest at h =
      ends_from s f ending w q q k time k1 (time + 20) le (omega (arith, le)) (omega (arith, near)) h

  is_callee : (fn : FFunction) (b k a l : ℕ) → fn.values ≤ 255 → a % 4 ≡ 0 → PartAt s.text s.all s.labels a (Jump 1 l) b → IsCallee (callee fn b k) fn f.places
  unfolding callee
  is_callee fn b k a l few even part = record {
    values = refl;
    few = few;
    room = omega (arith, few, room.low);
    high = omega (arith, few, room.low, room.high);
    aligned = omega (arith, few, room.low, room.aligned);
    back = (behind_jump s a b 1 l even part).0;
    opened = refl;
  }

  pub calls_follow : (g m frame q : ℕ) (call : Calls) (inside : (function : ℕ) → (args : List ℕ) → FPoint → Type 0) → ((number : ℕ) (fn : FFunction) → slice_get functions number ≡ Some fn → fn.values ≤ 255)
      → CallsRun s functions q call inside → CallsFollow s f g m frame q call inside (λ n. params_of (slice_get functions n))
  calls_follow g m frame q call inside few runs = record { follow = λ to function args r a b known u k lt fits count small parts reach at. one to function args r a b known u k lt fits count small parts reach at }
    where
      one : (to function : ℕ) (args : List ℕ) (r : Around) (a b : ℕ) (known : Option ℕ) (u : FPoint) (k : ℕ) → to < f.values → AreValues f.values args
          → params_of (slice_get functions function) ≡ Some (length args) → length args ≤ 8 → PartsAt s.text s.all s.labels a (call_parts to function args) b
          → inside function (map u.words args) (point u.words (spend 48 u.world)) → At s f a known u k
          → Comes s f r b None q k u.world.time (act g call m frame (FStep.Call to function args) (point u.words (spend 48 u.world)))
      one to function args r a b known u k lt fits count small parts reach at =
          let code = arguments_code 18 args in
          let two = parts_split s (plains code ++ Jump 1 function ∷ []) (plains (store 9 to ∷ [])) a b parts in
          let split = parts_split s (plains code) (Jump 1 function ∷ []) a two.0 two.1 in
          let h = held laws s scene f room k in
          let loaded = loads 18 args h (omega (arith, small)) in
          let size = arguments_length 18 args (omega (arith, small)) in
          let v = point u.words (spend 48 u.world) in
          let is = found (slice_get functions function) (length args) count in
          let fn = is.0 in
          let few_values = few function fn is.1 in
          let done = row laws s scene f room code a split.0 known None u u.words (spend 48 u.world) k (arguments_straight f.values 18 args room.few (omega arith) (omega (arith, small)) fits) split.1
          (spent 48 u.world) (omega (arith, size, small, at.soon))
          (record { cells = λ n ln. ap (λ x. x (cell n)) loaded.word ∙ at.frame.stands.cells n ln; five = tt; zero = loaded.low 0 (omega arith) ∙ at.frame.stands.zero })
          (record { eight = loaded.low 8 (omega arith); table = loaded.high 26 (omega (arith, small)); behind = ap (λ x. x (4 * f.values)) loaded.word }) at in
          let j = k + length code in
          let jump : PartAt s.text s.all s.labels split.0 (Jump 1 function) two.0 = subst (λ x. PartAt s.text s.all s.labels split.0 (Jump 1 function) x) (sym split.2.2) split.2.1 in
          let given : (i : ℕ) → i < length (map u.words args) → register_of (after s j).machine.core (18 + i) ≡ slice_index_or (map u.words args) i 0 =
          λ i li. let l : i < length args = omega (arith, li, mapped_length u.words args) in
          done.registers (18 + i) (omega (arith, l, small)) ∙ loaded.is i l ∙ at.frame.stands.cells (slice_index_or args i 0) (small_value f.values args i fits l) ∙ mapped f.values u.words args i l in
          let go = calls_it fn function split.0 two.0 (map u.words args) v j few_values jump given (omega (arith, small, mapped_length u.words args)) done.there in
          let k1 = j + go.0 in
          let came = runs.run (callee fn two.0 j) function fn f.places (map u.words args) v k1 (u.world.time + 20) is.1 (mapped_length u.words args ∙ sym is.2) (is_callee fn two.0 j split.0 function few_values (place_aligned s scene split.0 j done.there.at) jump)
          (omega (arith, go.2, size, small, at.soon), omega arith, λ deep. (omega (arith, go.2, size, small, at.soon), omega arith)) reach go.3 in
          used fn to split.0 two.0 b k j k1 r q v u.world.time (call function (map u.words args) v) few_values lt at.soon (omega arith) (omega (arith, go.2, size, small)) two.2 done.there came
