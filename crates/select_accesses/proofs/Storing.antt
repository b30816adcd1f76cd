-- How a machine follows a store.
use Rattle.std.proofs.Common.{◌≡◌, ℕ, ◌+◌, ◌*◌, ◌<◌, ◌≤◌, ◌⊎◌, inl, inr, true, List, [], ◌∷◌, ◌++◌, Option, Some, None, refl, sym, ap, ◌∙◌, subst, arith}
use Rattle.std.specs.Prelude.{slice_index}
use Rattle.bb_words.specs.Numbers.{sum}
use Rattle.bb_words.specs.Steps.{size_of_width}
use Rattle.bb_words.specs.declared.kinds.TrapKind.{TrapKind}
use Rattle.bb_words.specs.declared.steps.Width.{Width}
use Rattle.bb_watch.specs.declared.event.Event.{Event}
use Rattle.bb_watch.specs.declared.event.Event.TheVariants.{Access}
use Rattle.bb_watch.specs.Told.{Happens}
use Rattle.size_table.specs.Memory.{word_at, written_at}
use Rattle.size_table.specs.declared.memory_map.TheConstants.{GLOBALS_START, MEMORY_END}
use Rattle.flat_code.specs.Told as flat
use Rattle.flat_code.specs.Told.{Stamped}
use Rattle.flat_code.specs.World.{with_bytes, bytes_of, Words, FWorld, FPoint, point, spend, Ending}
use Rattle.flat_code.specs.Run.{refusal, access, unless_refused, goes, stored}
use Rattle.flat_landing.specs.Shared.{shared}
use Rattle.rv_asm.specs.declared.parts.Part.TheVariants.{Plain}
use Rattle.rv_asm.specs.Runs.{PartAt, PartsAt, gone}
use Rattle.rv_machine.specs.State.{Core, register_of, next, with_memory}
use Rattle.rv_machine.specs.Instruction.{Goes, Traps, access_trap, unless_trap, effect}
use Rattle.rv_machine.specs.Machine.{step}
use Rattle.rv_selected.specs.Registers.{cell, load}
use Rattle.rv_selected.specs.Steps.{plains, fetch, write_code, storing_code}
use Rattle.select_scope.specs.InReach.{IsReached}
use Rattle.select_scope.specs.Loaded.{Loaded, IsLoaded, after, Frame, HasRoom, HoldsFrame, Agrees, IsKept, At}
use Rattle.select_straight.proofs.Straight.{step_acts, same_word, memory_long}
use Rattle.select_scope.proofs.Agree.{Laws, itself}
use Rattle.select_scope.proofs.Reach.{Around, Comes}
use Rattle.select_scope.proofs.Moves.{one_step, cell_is, stands_at, row}
use Rattle.select_scope.proofs.Pieces.{plains_split, plains_join, load_straight}
use Rattle.select_steps.proofs.Steps.{values_small, fetches}
use Rattle.select_straight.proofs.Asking.{saying, agrees_more}
use Rattle.select_scope.proofs.Accesses.{traps_alike, made_within, all_within}
use Rattle.select_scope.proofs.Writes.{written_same, machine_writes, write_effect, write_event, same_bytes, how_many}
use Rattle.select_accesses.proofs.Loading.{says_access, trapped_so}

module _ (laws : Laws) (s : Loaded) (scene : IsLoaded s) (f : Frame) (room : HasRoom f) where
  abbrev core_at : ℕ → Core
  core_at k = (after s k).machine.core

  -- ---- Two values

  -- one in x5 and one in x6
  pub record Both (v x b charge : ℕ) (u : FPoint) (k : ℕ) : Type 0 where
    pub count : ℕ
    pub few : count ≤ 2
    pub there : At s f b (Some v) (point u.words (spend charge u.world)) (k + count)
    pub six : register_of (core_at (k + count)) 6 ≡ u.words x

  pub both : (v x charge a b : ℕ) (known : Option ℕ) (u : FPoint) (k : ℕ) → v < f.values → x < f.values → 2 ≤ charge
      → PartsAt s.text s.all s.labels a (plains (fetch known v ++ load 6 x ∷ [])) b → At s f a known u k → Both v x b charge u k
  both v x charge a b known u k lv lx some parts at =
      let two = plains_split s (fetch known v) (load 6 x ∷ []) a b parts in
      let got = fetches laws s scene f room a two.0 known v charge u k lv (omega (arith, some)) two.1 at in
      let w = spend charge u.world in
      let stands = got.there.frame.stands in
      let done = row laws s scene f room (load 6 x ∷ []) two.0 b (Some v) (Some v) (point u.words w) u.words w (k + got.count)
      (load_straight f.values room.few 6 x (omega arith) (omega arith) (omega (arith, lx))) two.2 (itself w) (omega (arith, at.soon, got.few, some))
      (record { cells = stands.cells; five = stands.five; zero = stands.zero }) (record { eight = refl; table = refl; behind = refl }) got.there in
      let e : k + got.count + 1 ≡ k + (got.count + 1) = omega arith in
      record {
        count = got.count + 1;
        few = omega (arith, got.few);
        there = subst (λ n. At s f b (Some v) (point u.words w) n) e done.there;
        six = ap (λ n. register_of (core_at n) 6) (sym e) ∙ done.registers 6 (omega arith) ∙ stands.cells x lx;
      }

  -- ---- Stores

  -- bytes that are written at the globals or above leave the control frame
  frame_stays : (known : Option ℕ) (words : Words) (c : Core) (at : ℕ) (bytes : List ℕ) → GLOBALS_START ≤ at → HoldsFrame f known words c → HoldsFrame f None words (next (with_memory (written_at c.memory at bytes) c))
  frame_stays known words c at bytes high h =
      let beside : (q : ℕ) → q < GLOBALS_START → slice_index (written_at c.memory at bytes) q ≡ slice_index c.memory q = λ q lt. laws.others c.memory at bytes q (inl (omega (arith, lt, high))) in
      let word : (o : ℕ) → o + 4 ≤ GLOBALS_START → word_at (written_at c.memory at bytes) o ≡ word_at c.memory o =
      λ o le. same_word c.memory (written_at c.memory at bytes) o (λ q from to. beside q (omega (arith, to, le))) in
      record {
        base = h.base;
        stands = record {
          cells = λ v lt. word (f.sp + cell v) (let x = cell_is v (omega (arith, lt, room.few)) in omega (arith, x, lt, room.high)) ∙ h.stands.cells v lt;
          five = tt;
          zero = h.stands.zero;
        };
        behind = word (f.sp + 4 * f.values) (omega (arith, room.high)) ∙ h.behind;
      }

  -- the store itself, by an address in x5 and a word in x6
  abbrev written : (width : Width) (v x : ℕ) (u : FPoint) → FWorld
  written width v x u =
      saying ((record { time = u.world.time; what = flat.Tell.Access (u.words v) (size_of_width width) true }) ∷ []) u.world.input
      (record u.world { memory = with_bytes u.world.memory (u.words v) (bytes_of (size_of_width width) (u.words x)) })

  writes_on : (width : Width) (v x a b : ℕ) (u : FPoint) (k : ℕ) → v < f.values → register_of (core_at k) 6 ≡ u.words x → PartAt s.text s.all s.labels a (Plain (write_code width 6 5)) b
      → refusal (u.words v) (size_of_width width) ≡ None → access_trap (u.words v) (size_of_width width) ≡ None → GLOBALS_START ≤ u.words v
      → k + 1 ≤ u.world.time → At s f a (Some v) u k → At s f b None (point u.words (written width v x u)) (k + 1)
  writes_on width v x a b u k lt six part made none high soon at =
      let now = after s k in
      let c = core_at k in
      let place = u.words v in
      let size = size_of_width width in
      let bytes = bytes_of size (u.words x) in
      let address : sum (register_of c 5) 0 ≡ place = ap (λ x. sum x 0) at.frame.stands.five ∙ (let small = values_small laws s scene f room a (Some v) u k at v lt in omega (arith, small)) in
      let bytes_are : machine_writes width (register_of c 6) ≡ bytes = ap (machine_writes width) six ∙ same_bytes width (u.words x) in
      let d = next (with_memory (written_at c.memory place bytes) c) in
      let event : Event = Access c.pc (sum (register_of c 5) 0) size true 5 in
      let y : Stamped = record { time = u.world.time; what = flat.Tell.Access place size true } in
      let goes_so : effect (write_code width 6 5) c ≡ Goes d =
      write_effect width c ∙ ap (λ p. unless_trap (access_trap p size) (next (with_memory (written_at c.memory p (machine_writes width (register_of c 6))) c))) address
      ∙ ap (λ bs. unless_trap (access_trap place size) (next (with_memory (written_at c.memory place bs) c))) bytes_are ∙ ap (λ o. unless_trap o d) none in
      let comes : step now ≡ gone (event ∷ []) d now =
      step_acts now (Goes d) at.at.running (part.0.step c at.at.core ∙ goes_so) ∙ ap (λ (es : List Event). gone es d now) (part.0.events c at.at.core ∙ write_event width c) in
      let same : after s (k + 1) ≡ gone (event ∷ []) d now = sym (laws.steps_add k 1 s.start) ∙ one_step now ∙ comes in
      let a0 = agrees_more laws s f u.world now (gone (event ∷ []) (next c) now) (Happens event ∷ []) (y ∷ []) u.world.input (says_access laws s scene f room c.pc (sum (register_of c 5) 0) place size true u.world.time high address)
      (record { told = refl; memory = refl; eight = refl; table = refl; frames = refl }) at.agrees.input at.agrees in
      let w = written width v x u in
      let within = made_within place size made in
      let end = all_within width place within.0 within.1 in
      let long = memory_long c (scene.form k) in
      let count = how_many width (u.words x) in
      let agrees : Agrees s f w (gone (event ∷ []) d now) = record {
        memory = λ q low up. written_same bytes c.memory u.world.memory GLOBALS_START MEMORY_END place (omega (arith, end, long, count)) (λ p from to. at.agrees.memory p from to) q low up;
        above = λ q low up. laws.others c.memory place bytes q (inl (omega (arith, up, high))) ∙ at.agrees.above q low up;
        stack = a0.stack;
        table = a0.table;
        number = a0.number;
        layouts = a0.layouts;
        entered = a0.entered;
        depth = a0.depth;
        input = a0.input;
        said = a0.said;
        accesses = a0.accesses;
        returns = a0.returns;
        settled = record { live = a0.settled.live; high = a0.settled.high; stack = a0.settled.stack };
      } in
      let kept : IsKept s w.told = record { by = laws.kept_more s.start u.world.told y (k + 1) at.kept.by soon (ap (λ z. shared z.told) same ∙ agrees.said) } in
      record {
        at = stands_at laws s scene f room (k + 1) b (ap (λ z. z.machine.core.pc) same ∙ ap (λ z. z + 4) at.at.core.here ∙ sym part.1) (ap (λ z. z.machine.ending) same ∙ at.at.running);
        frame = subst (λ z. HoldsFrame f None u.words z.machine.core) (sym same) (frame_stays (Some v) u.words c place bytes high at.frame);
        agrees = subst (Agrees s f w) (sym same) agrees;
        soon = soon;
        kept = kept;
      }

  pub store_runs : (v x : ℕ) (width : Width) (r : Around) (q a b : ℕ) (known : Option ℕ) (u : FPoint) (k : ℕ) → v < f.values → x < f.values → IsReached (u.words v) (size_of_width width)
      → PartsAt s.text s.all s.labels a (plains (storing_code known v x width)) b → At s f a known u k
      → Comes s f r b None q k u.world.time (access (u.words v) (size_of_width width) (λ t. goes (stored (u.words v) (u.words x) width t)) (point u.words (spend 3 u.world)))
  store_runs v x width r q a b known u k lv lx reach parts at =
      let one = plains_split s (fetch known v) (load 6 x ∷ write_code width 6 5 ∷ []) a b parts in
      let front = plains_join s (fetch known v) (load 6 x ∷ []) a one.0 one.2.0 one.1 (one.2.0, one.2.1, refl) in
      let got = both v x 3 a one.2.0 known u k lv lx (omega arith) front at in
      by_trap one.2.0 got.count got.few one.2.2 got.there got.six (traps_alike (u.words v) (size_of_width width) reach.mapped)
    where
      by_trap : (m count : ℕ) → count ≤ 2 → PartsAt s.text s.all s.labels m (plains (write_code width 6 5 ∷ [])) b
          → At s f m (Some v) (point u.words (spend 3 u.world)) (k + count) → register_of (core_at (k + count)) 6 ≡ u.words x
          → ((refusal (u.words v) (size_of_width width) ≡ None) × (access_trap (u.words v) (size_of_width width) ≡ None))
          ⊎ ((kind : TrapKind) × (refusal (u.words v) (size_of_width width) ≡ Some (Ending.Trapped kind)) × (access_trap (u.words v) (size_of_width width) ≡ Some kind))
          → Comes s f r b None q k u.world.time (access (u.words v) (size_of_width width) (λ t. goes (stored (u.words v) (u.words x) width t)) (point u.words (spend 3 u.world)))
      by_trap m count few parts there six (inl made) =
          let done = writes_on width v x m parts.0 (point u.words (spend 3 u.world)) (k + count) lv six parts.1 made.0 made.1 (reach.high made.0) (omega (arith, at.soon, few)) there in
          subst (λ o. Comes s f r b None q k u.world.time (unless_refused o (λ t. goes (stored (u.words v) (u.words x) width t)) (point u.words (spend 3 u.world)))) (sym made.0) (record {
            count = k + count + 1;
            later = omega arith;
            within = omega (arith, few);
            there = subst (λ p. At s f p None (point u.words (written width v x (point u.words (spend 3 u.world)))) (k + count + 1)) (sym parts.2) done;
          })
      by_trap m count few parts there six (inr traps) =
          let c = core_at (k + count) in
          let small = values_small laws s scene f room m (Some v) (point u.words (spend 3 u.world)) (k + count) there v lv in
          let address : sum (register_of c 5) 0 ≡ u.words v = ap (λ x. sum x 0) there.frame.stands.five ∙ omega (arith, small) in
          let trap : effect (write_code width 6 5) c ≡ Traps traps.0 =
          write_effect width c ∙ ap (λ o. unless_trap o (next (with_memory (written_at c.memory (sum (register_of c 5) 0) (machine_writes width (register_of c 6))) c)))
          (ap (λ x. access_trap x (size_of_width width)) address ∙ traps.2) in
          subst (λ o. Comes s f r b None q k u.world.time (unless_refused o (λ t. goes (stored (u.words v) (u.words x) width t)) (point u.words (spend 3 u.world)))) (sym traps.1)
          (trapped_so laws s scene f room (write_code width 6 5) traps.0 m parts.0 k (k + count) u.world.time (point u.words (spend 3 u.world)) parts.1 trap (Some v) there (omega arith) (omega (arith, few)))
