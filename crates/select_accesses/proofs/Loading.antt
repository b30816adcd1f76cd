-- How a machine follows a load.
use Rattle.std.proofs.Common.{◌≡◌, ◌≢◌, ℕ, ◌+◌, ◌*◌, ◌<◌, ◌≤◌, ◌⊎◌, inl, inr, Bool, false, List, [], ◌∷◌, Option, Some, None, refl, sym, ap, ◌∙◌, subst, arith}
use Rattle.std.proofs.lemmas.List.{get_or-set_same, get_or-set_other}
use Rattle.bb_words.specs.Numbers.{sum}
use Rattle.bb_words.specs.Steps.{size_of_width}
use Rattle.bb_words.specs.declared.kinds.TrapKind.{TrapKind}
use Rattle.bb_words.specs.declared.steps.Width.{Width}
use Rattle.bb_watch.specs.declared.event.Event.{Event}
use Rattle.bb_watch.specs.declared.event.Event.TheVariants.{Access}
use Rattle.bb_watch.specs.Told.{Happens}
use Rattle.size_table.specs.declared.memory_map.TheConstants.{GLOBALS_START}
use Rattle.flat_code.specs.Told as flat
use Rattle.flat_code.specs.Told.{Stamped}
use Rattle.flat_code.specs.World.{with_word, read, FPoint, point, spend, Ending}
use Rattle.flat_code.specs.Run.{refusal, access, unless_refused, goes, loaded}
use Rattle.flat_landing.specs.Lands.{KeepsControl}
use Rattle.flat_landing.specs.Shared.{shared}
use Rattle.rv_asm.specs.declared.parts.Part.TheVariants.{Plain}
use Rattle.rv_asm.specs.Runs.{PartAt, PartsAt, gone}
use Rattle.rv_code.specs.declared.instr.Instr.{Instr}
use Rattle.rv_machine.specs.declared.stop.Halt.TheVariants as halt
use Rattle.rv_machine.specs.State.{Core, register_of, gives, halted}
use Rattle.rv_machine.specs.Instruction.{Goes, Traps, access_trap, unless_trap, effect}
use Rattle.rv_machine.specs.Environment.{with_machine}
use Rattle.rv_machine.specs.Machine.{step}
use Rattle.rv_selected.specs.Registers.{cell, store}
use Rattle.rv_selected.specs.Steps.{plains, fetch, read_code, loading_code}
use Rattle.select_scope.specs.InReach.{IsReached}
use Rattle.select_scope.specs.Loaded.{Loaded, IsLoaded, after, Frame, HasRoom, HoldsFrame, Agrees, IsKept, At}
use Rattle.select_straight.proofs.Straight.{step_acts}
use Rattle.select_scope.proofs.Agree.{Laws, itself}
use Rattle.select_scope.proofs.Reach.{Finishes, Around, Comes, control_of}
use Rattle.select_scope.proofs.Moves.{apart, one_step, behind_apart, frame_moves, stands_at, held, row}
use Rattle.select_scope.proofs.Pieces.{plains_split, store_straight, stored, changed_here, changed_other}
use Rattle.select_steps.proofs.Steps.{values_small, fetches}
use Rattle.select_straight.proofs.Asking.{SaysAs, saying, agrees_more}
use Rattle.select_scope.proofs.Accesses.{traps_alike, made_within, all_within, machine_reads, read_effect, read_event, same_read}

module _ (laws : Laws) (s : Loaded) (scene : IsLoaded s) (f : Frame) (room : HasRoom f) where
  abbrev core_at : ℕ → Core
  core_at k = (after s k).machine.core

  -- a word in x5 becomes a value, and x5 is known to hold it
  pub keeps_on : (to word a b : ℕ) (u : FPoint) (k : ℕ) → to < f.values → register_of (core_at k) 5 ≡ word → k + 1 ≤ u.world.time
      → PartsAt s.text s.all s.labels a (plains (store 5 to ∷ [])) b → At s f a None u k → At s f b (Some to) (point (with_word u.words to word) u.world) (k + 1)
  keeps_on to word a b u k lt is soon parts at =
      let h = held laws s scene f room k in
      (row laws s scene f room (store 5 to ∷ []) a b None (Some to) u (with_word u.words to word) u.world k (store_straight f.values room.few 5 to (omega arith) (omega (arith, lt))) parts
      (itself u.world) soon
      (record {
        cells = λ v lv. stored f.values u.words h.word to (h.register 5) v room.few lt lv (at.frame.stands.cells v lv) ∙ ap (λ x. with_word u.words to x v) is;
        five = is ∙ sym (changed_here u.words to word to refl);
        zero = at.frame.stands.zero;
      })
      (record { eight = refl; table = refl; behind = changed_other h.word (cell to) (h.register 5) (4 * f.values) (behind_apart laws s scene f room to lt) }) at).there

  -- an access by x5 is told as flat code tells it, and is none to the control stack or the size table
  pub says_access : (pc at at' size : ℕ) (write : Bool) (time : ℕ) → GLOBALS_START ≤ at' → at ≡ at' → SaysAs (Happens (Access pc at size write 5) ∷ []) ((record { time = time; what = flat.Tell.Access at' size write }) ∷ [])
  says_access pc at at' size write time high e = record {
    same = ap (λ y. flat.Tell.Access y size write ∷ []) e;
    safe = λ live ever. ((λ two. absurd (apart 5 2 refl two), λ other. absurd (apart 5 31 refl other)), tt);
    stay = λ places. refl;
    live = λ blocks. refl;
    high = (high, tt);
  }

  -- an instruction that traps ends the run
  pub trapped_so : (i : Instr) (kind : TrapKind) (a b k0 k t : ℕ) (u : FPoint) → PartAt s.text s.all s.labels a (Plain i) b → effect i (core_at k) ≡ Traps kind → (known : Option ℕ) → At s f a known u k
      → k0 ≤ k → k + 1 + t ≤ k0 + u.world.time → Finishes s (Ending.Trapped kind) u k0 t
  trapped_so i kind a b k0 k t u part traps known at le near =
      let v = after s k in
      let v' = with_machine (halted (halt.Trapped kind)) v in
      let same : after s (k + 1) ≡ v' = sym (laws.steps_add k 1 s.start) ∙ one_step v ∙ step_acts v (Traps kind) at.at.running (part.0.step v.machine.core at.at.core ∙ traps) in
      let keeps = control_of s f u.world v at.agrees in
      record {
        count = k + 1;
        later = omega (arith, le);
        within = near;
        halted = ap (λ x. x.machine.ending) same;
        said = ap (λ x. shared x.told) same ∙ at.agrees.said;
        control = subst (KeepsControl s.globals) (sym same) (record { accesses = keeps.accesses; returns = keeps.returns });
        kept = at.kept;
      }

  -- the load itself, by an address in x5
  record Read (width : Width) (v b : ℕ) (u : FPoint) (k : ℕ) : Type 0 where
    there : At s f b None (point u.words (saying ((record { time = u.world.time; what = flat.Tell.Access (u.words v) (size_of_width width) false }) ∷ []) u.world.input u.world)) (k + 1)
    five : register_of (core_at (k + 1)) 5 ≡ read width u.world.memory (u.words v)

  reads_on : (width : Width) (v a b : ℕ) (u : FPoint) (k : ℕ) → v < f.values → PartAt s.text s.all s.labels a (Plain (read_code width 5 5)) b
      → refusal (u.words v) (size_of_width width) ≡ None → access_trap (u.words v) (size_of_width width) ≡ None → GLOBALS_START ≤ u.words v
      → k + 1 ≤ u.world.time → At s f a (Some v) u k → Read width v b u k
  reads_on width v a b u k lt part made none high soon at =
      let now = after s k in
      let c = core_at k in
      let address : sum (register_of c 5) 0 ≡ u.words v = ap (λ x. sum x 0) at.frame.stands.five ∙ (let small = values_small laws s scene f room a (Some v) u k at v lt in omega (arith, small)) in
      let place = sum (register_of c 5) 0 in
      let size = size_of_width width in
      let value = machine_reads width c.memory place in
      let d = gives 5 value c in
      let event : Event = Access c.pc place size false 5 in
      let x : Stamped = record { time = u.world.time; what = flat.Tell.Access (u.words v) size false } in
      let w = saying (x ∷ []) u.world.input u.world in
      let goes_so : effect (read_code width 5 5) c ≡ Goes d = read_effect width c ∙ ap (λ o. unless_trap o d) (ap (λ p. access_trap p size) address ∙ none) in
      let comes : step now ≡ gone (event ∷ []) d now =
      step_acts now (Goes d) at.at.running (part.0.step c at.at.core ∙ goes_so) ∙ ap (λ (es : List Event). gone es d now) (part.0.events c at.at.core ∙ read_event width c) in
      let same : after s (k + 1) ≡ gone (event ∷ []) d now = sym (laws.steps_add k 1 s.start) ∙ one_step now ∙ comes in
      let other : (r : ℕ) → r ≢ 5 → register_of d r ≡ register_of c r = λ r ne. get_or-set_other c.registers 5 r value 0 ne in
      let agrees = agrees_more laws s f u.world now (gone (event ∷ []) d now) (Happens event ∷ []) (x ∷ []) u.world.input (says_access c.pc place (u.words v) size false u.world.time high address)
      (record { told = refl; memory = refl; eight = other 8 (apart 8 5 refl); table = other 26 (apart 26 5 refl); frames = refl }) at.agrees.input at.agrees in
      let kept : IsKept s w.told = record { by = laws.kept_more s.start u.world.told x (k + 1) at.kept.by soon (ap (λ y. shared y.told) same ∙ agrees.said) } in
      let within = made_within (u.words v) size made in
      let end = all_within width (u.words v) within.0 within.1 in
      record {
        there = record {
          at = stands_at laws s scene f room (k + 1) b (ap (λ y. y.machine.core.pc) same ∙ ap (λ y. y + 4) at.at.core.here ∙ sym part.1) (ap (λ y. y.machine.ending) same ∙ at.at.running);
          frame = subst (λ y. HoldsFrame f None u.words y.machine.core) (sym same) (frame_moves f (Some v) u.words c d refl (other 0 (apart 0 5 refl)) (other 2 (apart 2 5 refl)) at.frame);
          agrees = subst (Agrees s f w) (sym same) agrees;
          soon = soon;
          kept = kept;
        };
        five = ap (λ y. register_of y.machine.core 5) same ∙ get_or-set_same c.registers 5 value 0 (omega (arith, (scene.form k).registers))
            ∙ ap (machine_reads width c.memory) address ∙ same_read width c.memory u.world.memory (u.words v) (λ q low up. at.agrees.memory q (omega (arith, high, low)) (omega (arith, end, up)));
      }

  pub load_runs : (to v : ℕ) (width : Width) (r : Around) (q a b : ℕ) (known : Option ℕ) (u : FPoint) (k : ℕ) → to < f.values → v < f.values → IsReached (u.words v) (size_of_width width)
      → PartsAt s.text s.all s.labels a (plains (loading_code known to v width)) b → At s f a known u k
      → Comes s f r b (Some to) q k u.world.time (access (u.words v) (size_of_width width) (λ t. goes (loaded to (u.words v) width t)) (point u.words (spend 3 u.world)))
  load_runs to v width r q a b known u k lt lv reach parts at =
      let two = plains_split s (fetch known v) (read_code width 5 5 ∷ store 5 to ∷ []) a b parts in
      let got = fetches laws s scene f room a two.0 known v 3 u k lv (omega arith) two.1 at in
      by_trap two.0 two.2.0 got.count got.few two.2.1 two.2.2 got.there (traps_alike (u.words v) (size_of_width width) reach.mapped)
    where
      size : ℕ
      size = size_of_width width

      w : FPoint
      w = point u.words (spend 3 u.world)

      by_trap : (m p count : ℕ) → count ≤ 1 → PartAt s.text s.all s.labels m (Plain (read_code width 5 5)) p → PartsAt s.text s.all s.labels p (plains (store 5 to ∷ [])) b
          → At s f m (Some v) (point u.words (spend 3 u.world)) (k + count)
          → ((refusal (u.words v) (size_of_width width) ≡ None) × (access_trap (u.words v) (size_of_width width) ≡ None))
          ⊎ ((kind : TrapKind) × (refusal (u.words v) (size_of_width width) ≡ Some (Ending.Trapped kind)) × (access_trap (u.words v) (size_of_width width) ≡ Some kind))
          → Comes s f r b (Some to) q k u.world.time (access (u.words v) (size_of_width width) (λ t. goes (loaded to (u.words v) width t)) (point u.words (spend 3 u.world)))
      by_trap m p count few part rest there (inl made) =
          let done = reads_on width v m p (point u.words (spend 3 u.world)) (k + count) lv part made.0 made.1 (reach.high made.0) (omega (arith, at.soon, few)) there in
          subst (λ o. Comes s f r b (Some to) q k u.world.time (unless_refused o (λ t. goes (loaded to (u.words v) width t)) (point u.words (spend 3 u.world)))) (sym made.0) (record {
            count = k + count + 1 + 1;
            later = omega arith;
            within = omega (arith, few);
            there = keeps_on to (read width u.world.memory (u.words v)) p b
                (point u.words (saying ((record { time = u.world.time + 3; what = flat.Tell.Access (u.words v) (size_of_width width) false }) ∷ []) u.world.input (spend 3 u.world)))
                (k + count + 1) lt done.five (omega (arith, at.soon, few)) rest done.there;
          })
      by_trap m p count few part rest there (inr traps) =
          let c = core_at (k + count) in
          let address : sum (register_of c 5) 0 ≡ u.words v = ap (λ x. sum x 0) there.frame.stands.five ∙ (let small = values_small laws s scene f room m (Some v) (point u.words (spend 3 u.world)) (k + count) there v lv in omega (arith, small)) in
          let trap : effect (read_code width 5 5) c ≡ Traps traps.0 =
          read_effect width c ∙ ap (λ o. unless_trap o (gives 5 (machine_reads width c.memory (sum (register_of c 5) 0)) c)) (ap (λ x. access_trap x (size_of_width width)) address ∙ traps.2) in
          subst (λ o. Comes s f r b (Some to) q k u.world.time (unless_refused o (λ t. goes (loaded to (u.words v) width t)) (point u.words (spend 3 u.world)))) (sym traps.1)
          (trapped_so (read_code width 5 5) traps.0 m p k (k + count) u.world.time (point u.words (spend 3 u.world)) part trap (Some v) there (omega arith) (omega (arith, few)))
