-- How a machine follows steps that tell something, ask the environment, or end the run.
use Rattle.std.proofs.Common.{◌≡◌, ℕ, ◌+◌, ◌*◌, ◌/◌, ◌%◌, ◌^◌, ◌<◌, ◌≤◌, List, [], ◌∷◌, ◌++◌, Option, Some, None, refl, sym, ap, ◌∙◌, subst, arith}
use Rattle.std.specs.Prelude.{slice_index}
use Rattle.std.proofs.lemmas.List.{get_or-set_same, get_or-set_other, append-nil}
use Rattle.bb_words.specs.Numbers.{sum, product, all_ones}
use Rattle.bb_words.specs.declared.kinds.ReportKind.{ReportKind}
use Rattle.bb_words.specs.declared.kinds.ReportKind.TheVariants as report
use Rattle.bb_watch.specs.declared.event.Event.{Event}
use Rattle.bb_watch.specs.declared.event.Event.TheVariants.{Line}
use Rattle.bb_watch.specs.Told as machine
use Rattle.bb_watch.specs.Told.{Happens, events_of}
use Rattle.bb_watch.specs.Laws.{open_on}
use Rattle.bb_watch.specs.Safety.{Each, IsControlSafe, open_after}
use Rattle.size_table.specs.Blocks.{Block}
use Rattle.flat_code.specs.Safety.{live_of}
use Rattle.flat_code.specs.Told as flat
use Rattle.flat_code.specs.Told.{Stamped, tells}
use Rattle.flat_code.specs.World.{with_word, FWorld, FPoint, point, spend, tell, Ending}
use Rattle.flat_code.specs.Run.{get}
use Rattle.rv_asm.specs.declared.parts.Part.TheVariants.{Plain}
use Rattle.rv_asm.specs.Runs.{IsAt, PartAt, PartsAt, gone}
use Rattle.rv_code.specs.declared.instr.Instr.TheVariants.{Addi, Ecall}
use Rattle.rv_machine.specs.declared.stop.Halt.TheVariants.{Exited, Reported}
use Rattle.rv_machine.specs.State.{Core, register_of, gives, next}
use Rattle.rv_machine.specs.Instruction.{Goes, Asks, core_events}
use Rattle.rv_machine.specs.Environment.{World, with_machine, exits, gets, gets_from, puts, kind_of, reported_if, reports, calls}
use Rattle.rv_machine.specs.Machine.{step, steps}
use Rattle.rv_selected.specs.Registers.{cell, load, store}
use Rattle.rv_selected.specs.Steps.{plains, line_code, kind_number}
use Rattle.rv_selected.specs.Follows.{IsKnown}
use Rattle.flat_landing.specs.Lands.{KeepsControl}
use Rattle.flat_landing.specs.Shared.{shared}
use Rattle.select_scope.specs.Loaded.{Loaded, IsLoaded, after, Frame, HasRoom, held_of, AreHigh, HoldsFrame, Agrees, IsKept, At}
use Rattle.select_straight.proofs.Straight.{step_acts}
use Rattle.select_scope.proofs.Agree.{Laws, spent, itself, agrees_later}
use Rattle.select_scope.proofs.Reach.{Arrives, Finishes, control_of}
use Rattle.select_scope.proofs.Moves.{apart, behind_apart, frame_moves, stands_at, held, row}
use Rattle.select_scope.proofs.Pieces.{is_set, is_cell, store_straight, stored, changed_other}

-- ---- Worlds that were told something more

-- what was told more keeps control, and flat code tells the same
pub record SaysAs (more : List machine.Tell) (new : List Stamped) : Type 0 where
  pub same : shared more ≡ tells new
  pub safe : (live ever : List Block) → Each IsControlSafe live ever (events_of more)
  pub stay : (places : List ℕ) → open_after places (events_of more) ≡ Some places
  pub live : (blocks : List Block) → live_of blocks (tells new) ≡ blocks
  pub high : AreHigh (tells new)

-- a machine with other registers, but the same stack number and place of the table, and with more told
pub record IsMore (v new : World) (more : List machine.Tell) : Type 0 where
  pub told : new.told ≡ v.told ++ more
  pub memory : new.machine.core.memory ≡ v.machine.core.memory
  pub eight : register_of new.machine.core 8 ≡ register_of v.machine.core 8
  pub table : register_of new.machine.core 26 ≡ register_of v.machine.core 26
  pub frames : new.machine.frames ≡ v.machine.frames

-- a world of flat code with more told, and another rest of the input
abbrev pub saying : (new : List Stamped) (input : List ℕ) → FWorld → FWorld
saying new input w = record w { told = w.told ++ new; input = input }

high_append : (xs ys : List flat.Tell) → AreHigh xs → AreHigh ys → AreHigh (xs ++ ys)
high_append [] ys h g = g
high_append (x ∷ xs) ys h g = (h.0, high_append xs ys h.1 g)

step_one : (w : World) → steps 1 w ≡ step w
unfolding steps
step_one w = refl

module _ (laws : Laws) (s : Loaded) where
  pub agrees_more : (f : Frame) (w : FWorld) (v v' : World) (more : List machine.Tell) (new : List Stamped) (input : List ℕ) → SaysAs more new → IsMore v v' more → v'.left ≡ input
      → Agrees s f w v → Agrees s f (saying new input w) v'
  agrees_more f w v v' more new input says is left a =
      let events : events_of v'.told ≡ events_of v.told ++ events_of more = ap events_of is.told ∙ laws.events_append v.told more in
      record {
        memory = λ at low high. ap (λ m. slice_index m at) is.memory ∙ a.memory at low high;
        above = λ at low high. ap (λ m. slice_index m at) is.memory ∙ a.above at low high;
        stack = is.eight ∙ a.stack;
        table = is.table ∙ a.table;
        number = ap (λ x. x.stack) is.frames ∙ a.number;
        layouts = ap (λ x. x.layouts) is.frames ∙ a.layouts;
        entered = ap (λ x. x.entered) is.frames ∙ a.entered;
        depth = a.depth;
        input = left;
        said = ap shared is.told ∙ laws.shared_appends v.told more ∙ ap (λ l. l ++ shared more) a.said ∙ ap (λ l. tells w.told ++ l) says.same ∙ sym (laws.tells_append w.told new);
        accesses = subst (Each IsControlSafe s.globals s.globals) (sym events) ((laws.each_appends s.globals s.globals (events_of v.told) (events_of more)).1 (a.accesses, says.safe _ _));
        returns = ap (open_after []) events ∙ laws.open_appends [] (events_of v.told) (events_of more) ∙ ap (λ o. open_on o (events_of more)) a.returns ∙ says.stay f.places;
        settled = record {
          live = a.settled.live ∙ sym (ap (live_of s.globals) (laws.tells_append w.told new) ∙ laws.live_appends s.globals (tells w.told) (tells new) ∙ says.live (live_of s.globals (tells w.told)));
          high = subst AreHigh (sym (laws.tells_append w.told new)) (high_append (tells w.told) (tells new) a.settled.high says.high);
          stack = a.settled.stack;
        };
      }

  -- what an environment call does
  pub asks : (a b : ℕ) (v : World) → PartAt s.text s.all s.labels a (Plain Ecall) b → IsAt s.text a v → step v ≡ calls v
  asks a b v part at = step_acts v Asks at.running (part.0.step v.machine.core at.core)

pub calls_exit : (v : World) → register_of v.machine.core 17 ≡ 1 → calls v ≡ with_machine exits v
unfolding calls
calls_exit v e = rw e refl

calls_gets : (v : World) → register_of v.machine.core 17 ≡ 2 → calls v ≡ gets v
unfolding calls
calls_gets v e = rw e refl

calls_puts : (v : World) → register_of v.machine.core 17 ≡ 3 → calls v ≡ puts v
unfolding calls
calls_puts v e = rw e refl

calls_reports : (v : World) → register_of v.machine.core 17 ≡ 6 → calls v ≡ with_machine reports v
unfolding calls
calls_reports v e = rw e refl

kind_back : (kind : ReportKind) → kind_of (sum 0 (kind_number kind)) ≡ Some kind
kind_back report.Bounds = refl
kind_back report.Pointer = refl
kind_back report.DivZero = refl
kind_back report.BadFree = refl
kind_back report.Depth = refl
kind_back report.Stack = refl

module _ (laws : Laws) (s : Loaded) (scene : IsLoaded s) (f : Frame) (room : HasRoom f) where
  abbrev core_at : ℕ → Core
  core_at k = (after s k).machine.core

  -- ---- A register that is stored

  -- a word in a register becomes a value
  pub stores_on : (r to word a b : ℕ) (u : FPoint) (k : ℕ) → r < 32 → to < f.values → register_of (core_at k) r ≡ word → k + 1 ≤ u.world.time
      → PartsAt s.text s.all s.labels a (plains (store r to ∷ [])) b → At s f a None u k → At s f b None (point (with_word u.words to word) u.world) (k + 1)
  stores_on r to word a b u k small lt is soon parts at =
      let h = held laws s scene f room k in
      (row laws s scene f room (store r to ∷ []) a b None None u (with_word u.words to word) u.world k (store_straight f.values room.few r to small (omega (arith, lt))) parts
      (itself u.world) soon
      (record {
        cells = λ v lv. stored f.values u.words h.word to (h.register r) v room.few lt lv (at.frame.stands.cells v lv) ∙ ap (λ x. with_word u.words to x v) is;
        five = tt;
        zero = at.frame.stands.zero;
      })
      (record { eight = refl; table = refl; behind = changed_other h.word (cell to) (h.register r) (4 * f.values) (behind_apart laws s scene f room to lt) }) at).there

  -- ---- Calls of the environment

  -- the argument stands in x10 and the number of the call in x17
  record Asked (number v charge b : ℕ) (u : FPoint) (k : ℕ) : Type 0 where
    there : At s f b None (point u.words (spend charge u.world)) (k + 2)
    ten : register_of (core_at (k + 2)) 10 ≡ u.words v
    seventeen : register_of (core_at (k + 2)) 17 ≡ number

  asked : (number v charge a b : ℕ) (known : Option ℕ) (u : FPoint) (k : ℕ) → number < 2048 → v < f.values → 2 ≤ charge
      → PartsAt s.text s.all s.labels a (plains (load 10 v ∷ Addi 17 0 number ∷ [])) b → At s f a known u k → Asked number v charge b u k
  asked number v charge a b known u k small lt some parts at =
      let done = row laws s scene f room (load 10 v ∷ Addi 17 0 number ∷ []) a b known None u u.words (spend charge u.world) k
      ((is_set 10 (omega arith) (omega arith), refl, is_cell f.values v room.few (omega (arith, lt))), ((is_set 17 (omega arith) (omega arith), omega arith), tt)) parts
      (spent charge u.world) (omega (arith, at.soon, some)) (record { cells = at.frame.stands.cells; five = tt; zero = at.frame.stands.zero })
      (record { eight = refl; table = refl; behind = refl }) at in
      record {
        there = done.there;
        ten = done.registers 10 (omega arith) ∙ at.frame.stands.cells v lt;
        seventeen = done.registers 17 (omega arith) ∙ ap (λ x. sum x number) at.frame.stands.zero ∙ omega (arith, small);
      }

  -- the call is one instruction
  called : (a b k : ℕ) (there : World) → PartAt s.text s.all s.labels a (Plain Ecall) b → IsAt s.text a (after s k) → calls (after s k) ≡ there → after s (k + 1) ≡ there
  called a b k there part at is = sym (laws.steps_add k 1 s.start) ∙ step_one (after s k) ∙ asks laws s a b (after s k) part at ∙ is

  pub exit_runs : (to v a b : ℕ) (known : Option ℕ) (u : FPoint) (k : ℕ) → v < f.values
      → PartsAt s.text s.all s.labels a (plains (load 10 v ∷ Addi 17 0 1 ∷ Ecall ∷ store 10 to ∷ [])) b → At s f a known u k
      → Finishes s (Ending.Exited (u.words v)) (point u.words (spend 5 u.world)) k u.world.time
  exit_runs to v a b known u k lt h at =
      let got = asked 1 v 5 a h.2.0 known u k (omega arith) lt (omega arith) (h.0, h.1, (h.2.0, h.2.1, refl)) at in
      let v2 = after s (k + 2) in
      let same = called h.2.0 h.2.2.0 (k + 2) (with_machine exits v2) h.2.2.1 got.there.at (calls_exit v2 got.seventeen) in
      let keeps = control_of s f (spend 5 u.world) v2 got.there.agrees in
      record {
        count = k + 2 + 1;
        later = omega arith;
        within = omega arith;
        halted = ap (λ x. x.machine.ending) same ∙ ap (λ x. Some (Exited (x % 256))) got.ten;
        said = ap (λ x. shared x.told) same ∙ got.there.agrees.said;
        control = subst (KeepsControl s.globals) (sym same) (record { accesses = keeps.accesses; returns = keeps.returns });
        kept = got.there.kept;
      }

  -- after a call that sets x10 to a word
  answered : (a b k word : ℕ) (u : FPoint) (w : FWorld) (v' : World) → after s (k + 1) ≡ v' → v'.machine.core ≡ gives 10 word (core_at k) → v'.machine.ending ≡ None
      → PartAt s.text s.all s.labels a (Plain Ecall) b → k + 1 ≤ w.time → Agrees s f w v' → IsKept s w.told
      → At s f a None u k → (At s f b None (point u.words w) (k + 1)) × (register_of (core_at (k + 1)) 10 ≡ word)
  answered a b k word u w v' same core running part soon agrees kept at =
      let c = core_at k in
      let d = gives 10 word c in
      let same_core : core_at (k + 1) ≡ d = ap (λ x. x.machine.core) same ∙ core in (
        record {
          at = stands_at laws s scene f room (k + 1) b (ap (λ x. x.pc) same_core ∙ ap (λ x. x + 4) at.at.core.here ∙ sym part.1) (ap (λ x. x.machine.ending) same ∙ running);
          frame = subst (HoldsFrame f None u.words) (sym same_core) (frame_moves f None u.words c d refl (get_or-set_other c.registers 10 0 word 0 (apart 0 10 refl)) (get_or-set_other c.registers 10 2 word 0 (apart 2 10 refl)) at.frame);
          agrees = subst (Agrees s f w) (sym same) agrees;
          soon = soon;
          kept = kept;
        },
        ap (λ x. register_of x 10) same_core ∙ get_or-set_same c.registers 10 word 0 (omega (arith, (scene.form k).registers)),
      )

  more_of : (k word : ℕ) (v' : World) (more : List machine.Tell) → v'.machine.core ≡ gives 10 word (core_at k) → v'.machine.frames ≡ (after s k).machine.frames
      → v'.told ≡ (after s k).told ++ more → IsMore (after s k) v' more
  more_of k word v' more core frames told = record {
    told = told;
    memory = ap (λ x. x.memory) core;
    eight = ap (λ x. register_of x 8) core ∙ get_or-set_other (core_at k).registers 10 8 word 0 (apart 8 10 refl);
    table = ap (λ x. register_of x 26) core ∙ get_or-set_other (core_at k).registers 10 26 word 0 (apart 26 10 refl);
    frames = frames;
  }

  pub put_runs : (to v a b : ℕ) (known : Option ℕ) (u : FPoint) (k : ℕ) → to < f.values → v < f.values
      → PartsAt s.text s.all s.labels a (plains (load 10 v ∷ Addi 17 0 3 ∷ Ecall ∷ store 10 to ∷ [])) b → At s f a known u k
      → Arrives s f b None (point (with_word u.words to (u.words v % 256)) (tell (flat.Tell.Output (u.words v % 256)) (spend 5 u.world))) k u.world.time
  put_runs to v a b known u k lt lv h at =
      let got = asked 3 v 5 a h.2.0 known u k (omega arith) lv (omega arith) (h.0, h.1, (h.2.0, h.2.1, refl)) at in
      let v2 = after s (k + 2) in
      let word = register_of (core_at (k + 2)) 10 % 256 in
      let byte : word ≡ u.words v % 256 = ap (λ x. x % 256) got.ten in
      let x : Stamped = record { time = u.world.time + 5; what = flat.Tell.Output (u.words v % 256) } in
      let w = saying (x ∷ []) u.world.input (spend 5 u.world) in
      let same = called h.2.0 h.2.2.0 (k + 2) (puts v2) h.2.2.1 got.there.at (calls_puts v2 got.seventeen) in
      let says : SaysAs (machine.Output word ∷ []) (x ∷ []) = record { same = ap (λ y. flat.Tell.Output y ∷ []) byte; safe = λ live ever. tt; stay = λ places. refl; live = λ blocks. refl; high = (tt, tt) } in
      let agrees = agrees_more laws s f (spend 5 u.world) v2 (puts v2) (machine.Output word ∷ []) (x ∷ []) u.world.input says
      (more_of (k + 2) word (puts v2) (machine.Output word ∷ []) refl refl refl) got.there.agrees.input got.there.agrees in
      let kept : IsKept s w.told = record { by = laws.kept_more s.start u.world.told x (k + 2 + 1) at.kept.by (omega (arith, at.soon)) (ap (λ y. shared y.told) same ∙ agrees.said) } in
      let come = answered h.2.0 h.2.2.0 (k + 2) word (point u.words (spend 5 u.world)) w (puts v2) same refl got.there.at.running h.2.2.1 (omega (arith, at.soon)) agrees kept got.there in
      record {
        count = k + 2 + 1 + 1;
        later = omega arith;
        within = omega arith;
        there = stores_on 10 to (u.words v % 256) h.2.2.0 b (point u.words w) (k + 2 + 1) (omega arith) lt (come.1 ∙ byte) (omega (arith, at.soon)) h.2.2.2 come.0;
      }

  -- ---- The next byte of the input

  -- the call alone, by what is left of the input
  gotten : (to a p b : ℕ) (u : FPoint) (k : ℕ) → to < f.values → PartAt s.text s.all s.labels a (Plain Ecall) p → PartsAt s.text s.all s.labels p (plains (store 10 to ∷ [])) b
      → k + 2 ≤ u.world.time → register_of (core_at k) 17 ≡ 2 → At s f a None u k → (input : List ℕ) → u.world.input ≡ input → At s f b None (get to input u) (k + 1 + 1)
  gotten to a p b u k lt part rest soon number at [] is =
      let v = after s k in
      let v' = gets_from [] v in
      let same = called a p k v' part at.at (calls_gets v number ∙ ap (λ l. gets_from l v) (at.agrees.input ∙ is)) in
      let agrees = agrees_later s f (saying [] u.world.input u.world) u.world v' (record { memory = refl; stack = refl; depth = refl; input = refl; live = refl; told = sym (append-nil u.world.told); time = omega arith })
      (agrees_more laws s f u.world v v' [] [] u.world.input (record { same = refl; safe = λ live ever. tt; stay = λ places. refl; live = λ blocks. refl; high = tt })
      (more_of k 4294967295 v' [] refl refl (sym (append-nil v.told))) at.agrees.input at.agrees) in
      let come = answered a p k 4294967295 u u.world v' same refl at.at.running part (omega (arith, soon)) agrees at.kept at in
      stores_on 10 to all_ones p b u (k + 1) (omega arith) lt come.1 (omega (arith, soon)) rest come.0
  gotten to a p b u k lt part rest soon number at (byte ∷ bytes) is =
      let v = after s k in
      let v' = gets_from (byte ∷ bytes) v in
      let w : FWorld = record u.world { input = bytes } in
      let same = called a p k v' part at.at (calls_gets v number ∙ ap (λ l. gets_from l v) (at.agrees.input ∙ is)) in
      let agrees = agrees_later s f (saying [] bytes u.world) w v' (record { memory = refl; stack = refl; depth = refl; input = refl; live = refl; told = sym (append-nil u.world.told); time = omega arith })
      (agrees_more laws s f u.world v v' [] [] bytes (record { same = refl; safe = λ live ever. tt; stay = λ places. refl; live = λ blocks. refl; high = tt })
      (more_of k byte v' [] refl refl (sym (append-nil v.told))) refl at.agrees) in
      let come = answered a p k byte u w v' same refl at.at.running part (omega (arith, soon)) agrees at.kept at in
      stores_on 10 to byte p b (point u.words w) (k + 1) (omega arith) lt come.1 (omega (arith, soon)) rest come.0

  get_time : (to : ℕ) (input : List ℕ) (u : FPoint) → (get to input u).world.time ≡ u.world.time
  get_time to [] u = refl
  get_time to (byte ∷ bytes) u = refl

  pub get_runs : (to a b : ℕ) (known : Option ℕ) (u : FPoint) (k : ℕ) → to < f.values
      → PartsAt s.text s.all s.labels a (plains (Addi 17 0 2 ∷ Ecall ∷ store 10 to ∷ [])) b → At s f a known u k
      → Arrives s f b None (get to u.world.input (point u.words (spend 5 u.world))) k u.world.time
  get_runs to a b known u k lt h at =
      let w = spend 5 u.world in
      let done = row laws s scene f room (Addi 17 0 2 ∷ []) a h.0 known None u u.words w k ((is_set 17 (omega arith) (omega arith), omega arith), tt) (h.0, h.1, refl)
      (spent 5 u.world) (omega (arith, at.soon)) (record { cells = at.frame.stands.cells; five = tt; zero = at.frame.stands.zero }) (record { eight = refl; table = refl; behind = refl }) at in
      let seventeen : register_of (core_at (k + 1)) 17 ≡ 2 = done.registers 17 (omega arith) ∙ ap (λ x. sum x 2) at.frame.stands.zero in
      record {
        count = k + 1 + 1 + 1;
        later = omega arith;
        within = omega (arith, get_time to u.world.input (point u.words w));
        there = gotten to h.0 h.2.0 b (point u.words w) (k + 1) lt h.2.1 h.2.2 (omega (arith, at.soon)) seventeen done.there u.world.input refl;
      }

  -- ---- Reports

  pub report_runs : (kind : ReportKind) (line a b : ℕ) (known : Option ℕ) (u : FPoint) (k : ℕ) → line < f.values
      → PartsAt s.text s.all s.labels a (plains (load 11 line ∷ Addi 10 0 (kind_number kind) ∷ Addi 17 0 6 ∷ Ecall ∷ [])) b → At s f a known u k
      → Finishes s (Ending.Reported kind (u.words line)) (point u.words (spend 4 u.world)) k u.world.time
  report_runs kind line a b known u k lt h at =
      let w = spend 4 u.world in
      let h3 = h.2.2 in
      let code = load 11 line ∷ Addi 10 0 (kind_number kind) ∷ Addi 17 0 6 ∷ [] in
      let done = row laws s scene f room code a h3.0 known None u u.words w k
      ((is_set 11 (omega arith) (omega arith), refl, is_cell f.values line room.few (omega (arith, lt))), ((is_set 10 (omega arith) (omega arith), omega arith), ((is_set 17 (omega arith) (omega arith), omega arith), tt)))
      (h.0, h.1, (h.2.0, h.2.1, (h3.0, h3.1, refl))) (spent 4 u.world) (omega (arith, at.soon)) (record { cells = at.frame.stands.cells; five = tt; zero = at.frame.stands.zero })
      (record { eight = refl; table = refl; behind = refl }) at in
      let v = after s (k + 3) in
      let seventeen : register_of (core_at (k + 3)) 17 ≡ 6 = done.registers 17 (omega arith) ∙ ap (λ x. sum x 6) at.frame.stands.zero in
      let ten : register_of (core_at (k + 3)) 10 ≡ sum 0 (kind_number kind) = done.registers 10 (omega arith) ∙ ap (λ x. sum x (kind_number kind)) at.frame.stands.zero in
      let eleven : register_of (core_at (k + 3)) 11 ≡ u.words line = done.registers 11 (omega arith) ∙ at.frame.stands.cells line lt in
      let same = called h3.0 h3.2.0 (k + 3) (with_machine reports v) h3.2.1 done.there.at (calls_reports v seventeen) in
      let reports_so : reports v.machine ≡ reported_if (Some kind) v.machine = ap (λ o. reported_if o v.machine) (ap kind_of ten ∙ kind_back kind) in
      let keeps = control_of s f w v done.there.agrees in
      record {
        count = k + 3 + 1;
        later = omega arith;
        within = omega arith;
        halted = ap (λ x. x.machine.ending) same ∙ ap (λ x. x.ending) reports_so ∙ ap (λ x. Some (Reported kind x)) eleven;
        said = ap (λ x. shared x.told) same ∙ done.there.agrees.said;
        control = subst (KeepsControl s.globals) (sym same) (record { accesses = keeps.accesses; returns = keeps.returns });
        kept = at.kept;
      }

  -- ---- Lines

  pub line_runs : (line a b : ℕ) (known : Option ℕ) (u : FPoint) (k : ℕ) → line < 2 ^ 20
      → PartsAt s.text s.all s.labels a (plains (line_code line ∷ [])) b → At s f a known u k
      → Arrives s f b known (point u.words (tell (flat.Tell.Line line) (spend 1 u.world))) k u.world.time
  line_runs line a b known u k small h at =
      let v = after s k in
      let c = core_at k in
      let i = line_code line in
      let d = next c in
      let x : Stamped = record { time = u.world.time + 1; what = flat.Tell.Line line } in
      let w = saying (x ∷ []) u.world.input (spend 1 u.world) in
      let event : Event = Line (product 4096 line / 4096) in
      let acts : step v ≡ gone (core_events c) d v = step_acts v (Goes d) at.at.running (h.1.0.step c at.at.core) in
      let comes : step v ≡ gone (event ∷ []) d v = acts ∙ ap (λ (es : List Event). gone es d v) (h.1.0.events c at.at.core) in
      let same : after s (k + 1) ≡ gone (event ∷ []) d v = sym (laws.steps_add k 1 s.start) ∙ step_one v ∙ comes in
      let number : product 4096 line / 4096 ≡ line = omega (arith, small) in
      let says : SaysAs (Happens event ∷ []) (x ∷ []) = record { same = ap (λ y. flat.Tell.Line y ∷ []) number; safe = λ live ever. (tt, tt); stay = λ places. refl; live = λ blocks. refl; high = (tt, tt) } in
      let agrees = agrees_more laws s f (spend 1 u.world) v (gone (event ∷ []) d v) (Happens event ∷ []) (x ∷ []) u.world.input says
      (record { told = refl; memory = refl; eight = refl; table = refl; frames = refl }) at.agrees.input
      (agrees_later s f u.world (spend 1 u.world) v (spent 1 u.world) at.agrees) in
      let kept : IsKept s w.told = record { by = laws.kept_more s.start u.world.told x (k + 1) at.kept.by (omega (arith, at.soon)) (ap (λ y. shared y.told) same ∙ agrees.said) } in
      record {
        count = k + 1;
        later = omega arith;
        within = omega arith;
        there = record {
          at = stands_at laws s scene f room (k + 1) b (ap (λ y. y.machine.core.pc) same ∙ ap (λ y. y + 4) at.at.core.here ∙ sym (h.2 ∙ h.1.1)) (ap (λ y. y.machine.ending) same ∙ at.at.running);
          frame = subst (λ y. HoldsFrame f known u.words y.machine.core) (sym same) (record { base = at.frame.base; stands = record { cells = at.frame.stands.cells; five = same_known known at.frame.stands.five; zero = at.frame.stands.zero }; behind = at.frame.behind });
          agrees = subst (Agrees s f w) (sym same) agrees;
          soon = omega (arith, at.soon);
          kept = kept;
        };
      }
    where
      same_known : (o : Option ℕ) → IsKnown o u.words (held_of f.sp (after s k).machine.core) → IsKnown o u.words (held_of f.sp (next (after s k).machine.core))
      same_known None e = e
      same_known (Some n) e = e
