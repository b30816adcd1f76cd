-- How a machine follows the call of a function.
use Rattle.std.proofs.Common.{◌≡◌, ◌≢◌, ℕ, ◌+◌, ◌-◌, ◌%◌, ◌^◌, ◌<◌, ◌≤◌, Bool, true, false, if◌then◌else◌, List, [], ◌∷◌, ◌++◌, length, take, Option, Some, None, refl, sym, ap, ◌∙◌, subst, arith}
use Rattle.std.specs.Prelude.{slice_get, slice_index}
use Rattle.std.proofs.lemmas.List.{append-nil}
use Rattle.std.proofs.lemmas.Bool.{eq-eqb, ne_eqb}
use Rattle.bb_words.specs.Numbers.{sum}
use Rattle.bb_words.specs.declared.kinds.ReportKind.{ReportKind}
use Rattle.bb_watch.specs.declared.event.Event.{Event}
use Rattle.bb_watch.specs.declared.event.Event.TheVariants.{Return}
use Rattle.bb_watch.specs.Told.{Happens, events_of}
use Rattle.bb_watch.specs.Laws.{open_on}
use Rattle.bb_watch.specs.Safety.{Each, IsControlSafe, open_after}
use Rattle.size_table.specs.declared.memory_map.TheConstants.{GLOBALS_START, HEAP_START}
use Rattle.flat_code.specs.Told.{tells}
use Rattle.flat_code.specs.Code.{FFunction}
use Rattle.flat_code.specs.World.{FWorld, FPoint, Ending}
use Rattle.rv_asm.specs.declared.parts.Part.TheVariants.{Plain}
use Rattle.rv_asm.specs.Runs.{IsAt, PartAt, PartsAt, gone}
use Rattle.rv_code.specs.declared.instr.Instr.TheVariants.{Addi, Jalr, Ecall}
use Rattle.rv_machine.specs.declared.frames.Entered.{Entered}
use Rattle.rv_machine.specs.declared.stop.Halt.TheVariants.{Reported}
use Rattle.rv_machine.specs.State.{Core, register_of}
use Rattle.rv_machine.specs.Frames.{left_to}
use Rattle.rv_machine.specs.Instruction.{Goes, Traps, effect, event_of, even, jumps}
use Rattle.bb_words.specs.declared.kinds.TrapKind.TheVariants.{Fetch}
use Rattle.rv_machine.specs.Environment.{World, calls}
use Rattle.rv_machine.specs.Machine.{step}
use Rattle.rv_selected.specs.Registers.{frame_bytes, constant, load}
use Rattle.rv_selected.specs.Selection.{leave_code, return_code, function_parts, function_labels}
use Rattle.rv_selected.specs.Steps.{plains}
use Rattle.flat_landing.specs.Shared.{shared}
use Rattle.select_scope.specs.Frame.{IsFrameAt}
use Rattle.select_scope.specs.Loaded.{Loaded, IsLoaded, after, Frame, edge, held_of, Agrees, IsKept, At}
use Rattle.select_straight.proofs.Straight.{step_acts}
use Rattle.select_scope.proofs.Agree.{Laws}
use Rattle.select_scope.proofs.Reach.{Finishes, control_of}
use Rattle.select_scope.proofs.Moves.{apart, cell_is, one_step}
use Rattle.select_scope.proofs.Pieces.{is_cell, plains_split}
use Rattle.select_straight.proofs.Raw.{core_at, runs_straight, shifts}
use Rattle.select_calls.proofs.Pushes.{HasPlace}
use Rattle.select_calls.proofs.Calling.{returned_to}
use Rattle.select_calls.proofs.Entering.{after_leave, leaves_so, has_left, sets, reframed, agrees_reframed, last_of, front_of}
use Rattle.select_straight.proofs.Asking.{asks}

-- a function stands at its label
pub record FunctionAt (s : Loaded) (scene : IsLoaded s) (number : ℕ) (fn : FFunction) : Type 0 where
  pub first : ℕ
  pub from : ℕ
  pub to : ℕ
  pub parts : PartsAt s.text s.all s.labels from (function_parts 4 number first fn) to
  pub labels : first + function_labels 4 fn ≤ scene.count
  pub own : number < scene.count
  pub layout : slice_get s.frames number ≡ Some []

module _ (laws : Laws) (s : Loaded) (scene : IsLoaded s) (f : Frame) where
  abbrev core : ℕ → Core
  core k = core_at laws s scene k

  -- ---- Before the frame is entered

  -- the number of the function stands in x10, its line in x11, and the call's number in x17
  pub record Ready (number line p k : ℕ) : Type 0 where
    pub count : ℕ
    pub few : count ≤ 6
    pub some : 0 ≤ count
    pub at : IsAt s.text p (after s (k + count))
    pub ten : register_of (core (k + count)) 10 ≡ number
    pub eleven : register_of (core (k + count)) 11 ≡ line
    pub seventeen : register_of (core (k + count)) 17 ≡ 7
    pub others : (q : ℕ) → q < 32 → q ≢ 10 → q ≢ 11 → q ≢ 17 → register_of (core (k + count)) q ≡ register_of (core k) q
    pub agrees : (w : FWorld) → Agrees s f w (after s k) → Agrees s f w (after s (k + count))

  pub prepares : (number line a p k : ℕ) → number < 2 ^ 32 → line < 2 ^ 32 → PartsAt s.text s.all s.labels a (plains (constant 10 number ++ constant 11 line ++ (Addi 17 0 7 ∷ []))) p
      → register_of (core k) 2 ≡ edge f → IsFrameAt (edge f) 0 → edge f ≤ GLOBALS_START → IsAt s.text a (after s k) → Ready number line p k
  prepares number line a p k small_number small_line parts base frame high at =
      let outer = plains_split s (constant 10 number ++ constant 11 line) (Addi 17 0 7 ∷ []) a p parts in
      let inner = plains_split s (constant 10 number) (constant 11 line) a outer.0 outer.1 in
      let one = sets laws s scene 10 number a inner.0 k (omega arith) (omega arith) small_number inner.1 (subst (λ x. IsFrameAt x 0) (sym base) frame) at in
      let k1 = k + one.count in
      let base1 : register_of (core k1) 2 ≡ edge f = one.others 2 (omega arith) (apart 2 10 refl) ∙ base in
      let two = sets laws s scene 11 line inner.0 outer.0 k1 (omega arith) (omega arith) small_line inner.2 (subst (λ x. IsFrameAt x 0) (sym base1) frame) one.at in
      let k2 = k1 + two.count in
      let base2 : register_of (core k2) 2 ≡ edge f = two.others 2 (omega arith) (apart 2 11 refl) ∙ base1 in
      let three = sets laws s scene 17 7 outer.0 p k2 (omega arith) (omega arith) (omega arith) outer.2 (subst (λ x. IsFrameAt x 0) (sym base2) frame) two.at in
      let j = one.count + two.count + three.count in
      let e : k2 + three.count ≡ k + j = omega arith in
      moved_to number line p k j (k2 + three.count) e (omega (arith, one.few, two.few, three.few)) three.at
      (three.others 10 (omega arith) (apart 10 17 refl) ∙ two.others 10 (omega arith) (apart 10 11 refl) ∙ one.is)
      (three.others 11 (omega arith) (apart 11 17 refl) ∙ two.is)
      three.is
      (λ q lt n10 n11 n17. three.others q lt n17 ∙ two.others q lt n11 ∙ one.others q lt n10)
      (λ w a0. three.agrees f w high (omega (arith, base2)) (two.agrees f w high (omega (arith, base1)) (one.agrees f w high (omega (arith, base)) a0)))
    where
      moved_to : (number line p k j i : ℕ) → i ≡ k + j → j ≤ 6 → IsAt s.text p (after s i) → register_of (core i) 10 ≡ number → register_of (core i) 11 ≡ line → register_of (core i) 17 ≡ 7
          → ((q : ℕ) → q < 32 → q ≢ 10 → q ≢ 11 → q ≢ 17 → register_of (core i) q ≡ register_of (core k) q) → ((w : FWorld) → Agrees s f w (after s k) → Agrees s f w (after s i)) → Ready number line p k
      moved_to number line p k j i e few at ten eleven seventeen others agrees = record {
        count = j;
        few = few;
        some = omega arith;
        at = subst (λ x. IsAt s.text p (after s x)) e at;
        ten = ap (λ x. register_of (core x) 10) (sym e) ∙ ten;
        eleven = ap (λ x. register_of (core x) 11) (sym e) ∙ eleven;
        seventeen = ap (λ x. register_of (core x) 17) (sym e) ∙ seventeen;
        others = λ q lt n10 n11 n17. ap (λ x. register_of (core x) q) (sym e) ∙ others q lt n10 n11 n17;
        agrees = λ w a. subst (λ x. Agrees s f w (after s x)) e (agrees w a);
      }

  -- ---- Calls that are reported

  -- the call of the environment has ended the run
  pub refuses : (kind : ReportKind) (line a b k0 k t : ℕ) (u : FPoint) (w : FWorld) (v' : World) → PartAt s.text s.all s.labels a (Plain Ecall) b → IsAt s.text a (after s k)
      → calls (after s k) ≡ v' → v'.machine.ending ≡ Some (Reported kind line) → v'.told ≡ (after s k).told → Agrees s f w (after s k) → IsKept s w.told → u.world.told ≡ w.told
      → k0 ≤ k → k + 1 + t ≤ k0 + u.world.time → Finishes s (Ending.Reported kind line) u k0 t
  refuses kind line a b k0 k t u w v' part at is ended told agrees kept same_told le near =
      let v = after s k in
      let same : after s (k + 1) ≡ v' = sym (laws.steps_add k 1 s.start) ∙ one_step v ∙ asks laws s a b v part at ∙ is in
      let all : (after s (k + 1)).told ≡ v.told = ap (λ x. x.told) same ∙ told in
      let keeps = control_of s f w v agrees in
      record {
        count = k + 1;
        later = omega (arith, le);
        within = near;
        halted = ap (λ x. x.machine.ending) same ∙ ended;
        said = ap shared all ∙ agrees.said ∙ ap tells (sym same_told);
        control = record {
          accesses = subst (λ l. Each IsControlSafe s.globals s.globals (events_of l)) (sym all) keeps.accesses;
          returns = ap (λ l. some_of (open_after [] (events_of l))) all ∙ keeps.returns;
        };
        kept = subst (IsKept s) (sym same_told) kept;
      }
    where
      some_of : Option (List ℕ) → Bool
      some_of None = false
      some_of (Some places) = true

  -- ---- Returning

  -- the jump back
  record Back (places : List ℕ) (w : FWorld) (k : ℕ) : Type 0 where
    at : IsAt s.text f.back (after s (k + 1))
    others : (r : ℕ) → register_of (core (k + 1)) r ≡ register_of (core k) r
    agrees : Agrees s (returned_to places f) w (after s (k + 1))

  jumps_back : (places : List ℕ) (w : FWorld) (a b k : ℕ) → PartAt s.text s.all s.labels a (Plain (Jalr 0 1 0)) b → f.places ≡ f.back ∷ places → f.back % 4 ≡ 0
      → register_of (core k) 1 ≡ f.back → IsAt s.text a (after s k) → Agrees s f w (after s k) → Back places w k
  jumps_back places w a b k part opened aligned from at agrees =
      let v = after s k in
      let c = core k in
      let small : f.back < 2 ^ 32 = subst (λ (n : ℕ). n < 2 ^ 32) from ((scene.form k).words 1 0 (let x = (scene.form k).registers in omega (arith, x))) in
      let to : even (sum (register_of c 1) 0) ≡ f.back = ap (λ x. even (sum x 0)) from ∙ omega (arith, small, aligned) in
      let d : Core = record c { pc = f.back } in
      let goes : effect (Jalr 0 1 0) c ≡ Goes d = jumps_so c (even (sum (register_of c 1) 0)) f.back to aligned in
      let event : Event = Return c.pc f.back in
      let tells_it : event_of (Jalr 0 1 0) c ≡ event ∷ [] = ap (λ x. Return c.pc x ∷ []) to in
      let comes : step v ≡ gone (event ∷ []) d v = step_acts v (Goes d) at.running (part.0.step c at.core ∙ goes) ∙ ap (λ (es : List Event). gone es d v) (part.0.events c at.core ∙ tells_it) in
      let same : after s (k + 1) ≡ gone (event ∷ []) d v = sym (laws.steps_add k 1 s.start) ∙ one_step v ∙ comes in
      let events : events_of (gone (event ∷ []) d v).told ≡ events_of v.told ++ event ∷ [] = laws.events_append v.told (Happens event ∷ []) in
      let a0 = agrees in
      record {
        at = record {
          core = record { here = ap (λ x. x.machine.core.pc) same; stands = scene.stands (k + 1); form = scene.form (k + 1) };
          running = ap (λ x. x.machine.ending) same ∙ at.running;
        };
        others = λ r. ap (λ x. register_of x.machine.core r) same;
        agrees = record {
          memory = λ q low high. ap (λ x. slice_index x.machine.core.memory q) same ∙ a0.memory q low high;
          above = λ q low high. ap (λ x. slice_index x.machine.core.memory q) same ∙ a0.above q low high;
          stack = ap (λ x. register_of x.machine.core 8) same ∙ a0.stack;
          table = ap (λ x. register_of x.machine.core 26) same ∙ a0.table;
          number = ap (λ x. x.machine.frames.stack) same ∙ a0.number;
          layouts = ap (λ x. x.machine.frames.layouts) same ∙ a0.layouts;
          entered = ap (λ x. x.machine.frames.entered) same ∙ a0.entered;
          depth = a0.depth;
          input = ap (λ x. x.left) same ∙ a0.input;
          said = ap (λ x. shared x.told) same ∙ laws.shared_appends v.told (Happens event ∷ []) ∙ append-nil (shared v.told) ∙ a0.said;
          accesses = subst (λ x. Each IsControlSafe s.globals s.globals (events_of x.told)) (sym same) (subst (Each IsControlSafe s.globals s.globals) (sym events)
              ((laws.each_appends s.globals s.globals (events_of v.told) (event ∷ [])).1 (a0.accesses, (tt, tt))));
          returns = ap (λ x. open_after [] (events_of x.told)) same ∙ ap (open_after []) events ∙ laws.open_appends [] (events_of v.told) (event ∷ [])
              ∙ ap (λ o. open_on o (event ∷ [])) (a0.returns ∙ ap Some opened) ∙ ap (λ t. if t then Some places else None) (eq-eqb f.back f.back refl);
          settled = a0.settled;
        };
      }
    where
      jumps_so : (c : Core) (to back : ℕ) → to ≡ back → back % 4 ≡ 0 → jumps to c ≡ Goes (record c { pc = back })
      jumps_so c to back e aligned = ap (λ x. jumps x c) e ∙ ap (λ t. if t then Goes (record c { pc = back }) else Traps Fetch) (eq-eqb (back % 4) 0 aligned)

  -- a call was left, and came back to its caller with a word in x9
  pub record Left (places : List ℕ) (word : ℕ) (w : FWorld) (k : ℕ) : Type 0 where
    pub count : ℕ
    pub few : count ≤ 9
    pub at : IsAt s.text f.back (after s (k + count))
    pub base : register_of (core (k + count)) 2 ≡ edge f
    pub value : register_of (core (k + count)) 9 ≡ word
    pub agrees : Agrees s (returned_to places f) w (after s (k + count))

  -- the frame while the call runs
  abbrev pub running : (number stack : ℕ) → Frame
  running number stack = record f { entered = f.entered ++ (record { frame = number; back = stack }) ∷ [] }

  pub leaves_call : (number line stack depth a b k word : ℕ) (places : List ℕ) (u : FPoint) → HasPlace f → 1 ≤ line → number < 2 ^ 32 → stack ≤ HEAP_START → depth ≡ length f.entered
      → slice_get s.frames number ≡ Some [] → f.places ≡ f.back ∷ places → f.back % 4 ≡ 0 → PartsAt s.text s.all s.labels a (plains (return_code number line f.values)) b
      → register_of (core k) 9 ≡ word → At s (running number stack) a None u k → Left places word (record u.world { depth = depth; stack = stack }) k
  leaves_call number line stack depth a b k word places u place some small small_stack deep layout opened aligned parts nine at =
      let g = running number stack in
      let call : Entered = record { frame = number; back = stack } in
      let high = place.high in
      let low = place.low in
      let values = place.few in
      let frame_0 : IsFrameAt (edge f) 0 = record { low = omega (arith, low); high = omega (arith, high); aligned = let x = place.aligned in omega (arith, x) } in
      -- x1 and x2
      let frame_f : IsFrameAt f.sp (f.values + 1) = record { low = low; high = high; aligned = place.aligned } in
      let one = runs_straight laws s scene (load 1 f.values ∷ []) a parts.0 f.sp (f.values + 1) k frame_f
      ((record { some = omega arith; few = omega arith; other = apart 1 2 refl }, refl, is_cell f.values f.values values (omega arith)), tt) (parts.0, parts.1, refl) at.frame.base at.at in
      let k1 = k + 1 in
      let back1 : register_of (core k1) 1 ≡ f.back = one.registers 1 (omega arith) ∙ ap (λ o. (held_of f.sp (core k)).word o) (cell_is f.values (omega (arith, values))) ∙ at.frame.behind in
      let base1 : register_of (core k1) 2 ≡ f.sp = one.registers 2 (omega arith) ∙ at.frame.base in
      let agrees1 : Agrees s g u.world (after s k1) = one.agrees g u.world high (omega arith) refl refl at.agrees in
      let nine1 : register_of (core k1) 9 ≡ word = one.registers 9 (omega arith) ∙ nine in
      let two = shifts laws s scene parts.0 parts.2.0 (frame_bytes f.values) (edge f) k1 parts.2.1 (ap (λ x. sum x (frame_bytes f.values)) base1 ∙ omega (arith, high, values)) one.at in
      let k2 = k1 + 1 in
      let agrees2 = two.agrees g u.world high agrees1 in
      -- the number of the function, and of the call
      let coded : leave_code number line ≡ constant 10 number ++ (Addi 17 0 8 ∷ Ecall ∷ []) ++ (Addi 8 10 0 ∷ []) =
      ap (λ t. if t then [] else constant 10 number ++ (Addi 17 0 8 ∷ Ecall ∷ []) ++ (Addi 8 10 0 ∷ [])) (ne_eqb line 0 (λ e. absurd (let x : 1 ≤ 0 = omega (arith, e, some) in omega (arith, x)))) in
      let rest = subst (λ l. PartsAt s.text s.all s.labels parts.2.0 (plains (l ++ (Jalr 0 1 0 ∷ []))) b) coded parts.2.2 in
      let last = plains_split s (constant 10 number ++ (Addi 17 0 8 ∷ Ecall ∷ []) ++ (Addi 8 10 0 ∷ [])) (Jalr 0 1 0 ∷ []) parts.2.0 b rest in
      let copied = plains_split s (constant 10 number ++ (Addi 17 0 8 ∷ Ecall ∷ [])) (Addi 8 10 0 ∷ []) parts.2.0 last.0 last.1 in
      let asked = plains_split s (constant 10 number) (Addi 17 0 8 ∷ Ecall ∷ []) parts.2.0 copied.0 copied.1 in
      let three = sets laws s scene 10 number parts.2.0 asked.0 k2 (omega arith) (omega arith) small asked.1 (subst (λ x. IsFrameAt x 0) (sym two.base) frame_0) two.at in
      let k3 = k2 + three.count in
      let base3 : register_of (core k3) 2 ≡ edge f = three.others 2 (omega arith) (apart 2 10 refl) ∙ two.base in
      let agrees3 = three.agrees g u.world high (omega (arith, two.base)) agrees2 in
      let four = sets laws s scene 17 8 asked.0 asked.2.0 k3 (omega arith) (omega arith) (omega arith) (asked.2.0, asked.2.1, refl) (subst (λ x. IsFrameAt x 0) (sym base3) frame_0) three.at in
      let k4 = k3 + four.count in
      let agrees4 = four.agrees g u.world high (omega (arith, base3)) agrees3 in
      -- the call of the environment
      let v = after s k4 in
      let frames = v.machine.frames in
      let memory = v.machine.core.memory in
      let ecall : PartAt s.text s.all s.labels asked.2.0 (Plain Ecall) copied.0 = subst (λ x. PartAt s.text s.all s.labels asked.2.0 (Plain Ecall) x) (sym asked.2.2.2) asked.2.2.1 in
      let copy : PartAt s.text s.all s.labels copied.0 (Plain (Addi 8 10 0)) last.0 = subst (λ x. PartAt s.text s.all s.labels copied.0 (Plain (Addi 8 10 0)) x) (sym copied.2.2) copied.2.1 in
      let x = left_to stack [] frames memory in
      let so = leaves_so v number call x four.is (four.others 10 (omega arith) (apart 10 17 refl) ∙ three.is) (ap (λ l. slice_get l number) agrees4.layouts ∙ layout)
      (ap (λ l. slice_get l (length l - 1)) agrees4.entered ∙ last_of f.entered call) (has_left number stack frames memory) in
      let five = reframed laws s scene asked.2.0 copied.0 last.0 stack k4 x.frames (after_leave x v) ecall copy four.at (omega (arith, small_stack)) so refl refl four.at.running refl (append-nil v.told) in
      let k5 = k4 + 1 + 1 in
      let w = record u.world { depth = depth; stack = stack } in
      let agrees5 : Agrees s f w (after s k5) = agrees_reframed laws s scene g f.entered u.world depth stack last.0 k4 x.frames refl agrees4.layouts
      (ap (λ l. take (length l - 1) l) agrees4.entered ∙ front_of f.entered call) deep small_stack five agrees4 in
      let jalr : PartAt s.text s.all s.labels last.0 (Plain (Jalr 0 1 0)) b = subst (λ y. PartAt s.text s.all s.labels last.0 (Plain (Jalr 0 1 0)) y) (sym last.2.2) last.2.1 in
      let back5 : register_of (core k5) 1 ≡ f.back = five.others 1 (apart 1 8 refl) (apart 1 10 refl) ∙ four.others 1 (omega arith) (apart 1 17 refl) ∙ three.others 1 (omega arith) (apart 1 10 refl)
      ∙ two.registers 1 (apart 1 2 refl) ∙ back1 in
      let six = jumps_back places w last.0 b k5 jalr opened aligned back5 five.at agrees5 in
      let j = 1 + 1 + three.count + four.count + 1 + 1 + 1 in
      let e : k5 + 1 ≡ k + j = omega arith in
      record {
        count = j;
        few = omega (arith, three.few, four.few);
        at = subst (λ y. IsAt s.text f.back (after s y)) e six.at;
        base = ap (λ y. register_of (core y) 2) (sym e) ∙ six.others 2 ∙ five.others 2 (apart 2 8 refl) (apart 2 10 refl) ∙ four.others 2 (omega arith) (apart 2 17 refl) ∙ base3;
        value = ap (λ y. register_of (core y) 9) (sym e) ∙ six.others 9 ∙ five.others 9 (apart 9 8 refl) (apart 9 10 refl) ∙ four.others 9 (omega arith) (apart 9 17 refl)
            ∙ three.others 9 (omega arith) (apart 9 10 refl) ∙ two.registers 9 (apart 9 2 refl) ∙ nine1;
        agrees = subst (λ y. Agrees s (returned_to places f) w (after s y)) e six.agrees;
      }
