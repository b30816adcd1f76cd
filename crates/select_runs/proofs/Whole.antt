-- Where the machine comes to for a whole run of flat code.
use Rattle.std.proofs.Common.{◌≡◌, ◌≢◌, ℕ, zero, suc, ◌+◌, ◌-◌, ◌*◌, ◌%◌, ◌^◌, ◌<◌, ◌≤◌, ◌⊎◌, inl, inr, true, false, List, [], ◌∷◌, ◌++◌, length, map, Some, refl, sym, ap, ◌∙◌, subst, arith}
use Rattle.std.specs.Prelude.{slice_get, slice_index}
use Rattle.std.proofs.lemmas.List.{get_or-set_same, get_or-set_other, append-nil}
use Rattle.std.proofs.lemmas.Bool.{cases_lt}
use Rattle.bb_words.specs.Answers.{Answer, and_then}
use Rattle.bb_words.specs.Numbers.{sum}
use Rattle.bb_watch.specs.declared.event.Event.{Event}
use Rattle.bb_watch.specs.declared.event.Event.TheVariants.{Call}
use Rattle.bb_watch.specs.Told.{Happens, events_of}
use Rattle.bb_watch.specs.Laws.{open_on}
use Rattle.bb_watch.specs.Safety.{Each, IsControlSafe, open_after}
use Rattle.size_table.specs.Blocks.{Block}
use Rattle.size_table.specs.declared.memory_map.TheConstants.{TABLE_START, GLOBALS_START, HEAP_START}
use Rattle.flat_code.specs.Told.{Stamped, tells, Begins, Came}
use Rattle.flat_code.specs.Code.{FFunction, FCode, FSteps}
use Rattle.flat_code.specs.World.{FWorld, FPoint, Ending, Run}
use Rattle.flat_code.specs.Run.{start, exited, flat_run, calls}
use Rattle.flat_discipline.specs.Items.{all_steps, items_of}
use Rattle.rv_asm.specs.declared.parts.Part.TheVariants.{Plain, Jump}
use Rattle.rv_asm.specs.Runs.{IsAt, PartAt, PartsAt, at_place, gone}
use Rattle.rv_code.specs.declared.instr.Instr.TheVariants.{Lui, Addi, Ecall}
use Rattle.rv_machine.specs.declared.stop.Halt.TheVariants.{Exited}
use Rattle.rv_machine.specs.State.{Core, register_of, set_register}
use Rattle.rv_machine.specs.Environment.{with_machine, exits}
use Rattle.rv_selected.specs.Selection.{function_parts, function_labels, functions_parts, functions_labels, start_parts, selected}
use Rattle.rv_selected.specs.Steps.{plains}
use Rattle.rv_selected.specs.Straight.{Held, does_all}
use Rattle.flat_landing.specs.Lands.{outcome_of, KeepsControl, Lands}
use Rattle.flat_landing.specs.Shared.{shared}
use Rattle.select_scope.specs.Frame.{IsFrameAt}
use Rattle.select_scope.specs.InReach.{RunsInReach}
use Rattle.select_scope.specs.Laws.{ProgramsLand}
use Rattle.select_scope.specs.Fits.{FitsFunction, params_of}
use Rattle.select_scope.specs.Loaded.{Loaded, IsLoaded, StartsAs, after, Frame, edge, held_of, Agrees}
use Rattle.select_scope.proofs.Agree.{Laws, frame_unnoticed}
use Rattle.select_scope.proofs.Reach.{Finishes, Ends, control_of}
use Rattle.select_scope.proofs.Moves.{place_aligned, behind_jump, apart, one_step}
use Rattle.select_scope.proofs.Pieces.{is_set, parts_split}
use Rattle.select_straight.proofs.Raw.{runs_straight}
use Rattle.select_calls.proofs.Calling.{IsCalled, returned_to, Answered, CallComes, IsCallee}
use Rattle.select_calls.proofs.Functions.{FunctionAt}
use Rattle.select_straight.proofs.Asking.{asks, calls_exit}
use Rattle.select_calls.proofs.Calls.{calls_run}

-- ---- The functions of a program stand in its text

functions_stand : (s : Loaded) (scene : IsLoaded s) (fs : List FFunction) (k n a b : ℕ) → PartsAt s.text s.all s.labels a (functions_parts 4 k n fs) b → n + functions_labels 4 fs ≤ scene.count
    → k + length fs ≤ scene.count → ((i : ℕ) → i < length fs → slice_get s.frames (k + i) ≡ Some []) → (i : ℕ) (fn : FFunction) → slice_get fs i ≡ Some fn → FunctionAt s scene (k + i) fn
functions_stand s scene [] k n a b parts labels own layout i fn is = absurd (let q : ⊥ = cc in q)
functions_stand s scene (f ∷ fs) k n a b parts labels own layout zero fn is =
    let one = parts_split s (function_parts 4 k n f) (functions_parts 4 (k + 1) (n + function_labels 4 f) fs) a b parts in
    let same : f ≡ fn = cc in
    let number : k ≡ k + 0 = omega arith in
    subst (λ j. FunctionAt s scene j fn) number (subst (FunctionAt s scene k) same
    (record { first = n; from = a; to = one.0; parts = one.1; labels = omega (arith, labels); own = omega (arith, own); layout = subst (λ j. slice_get s.frames j ≡ Some []) (sym number) (layout 0 (omega arith)) }))
functions_stand s scene (f ∷ fs) k n a b parts labels own layout (suc i) fn is =
    let one = parts_split s (function_parts 4 k n f) (functions_parts 4 (k + 1) (n + function_labels 4 f) fs) a b parts in
    let number : k + 1 + i ≡ k + suc i = omega arith in
    subst (λ j. FunctionAt s scene j fn) number (functions_stand s scene fs (k + 1) (n + function_labels 4 f) one.0 b one.2 (omega (arith, labels)) (omega (arith, own))
    (λ j lt. let e : k + suc j ≡ k + 1 + j = omega arith in subst (λ x. slice_get s.frames x ≡ Some []) e (layout (suc j) (omega (arith, lt)))) i fn is)

-- ---- The begin

module _ (laws : Laws) (s : Loaded) (scene : IsLoaded s) where
  -- the frame of the first call
  abbrev first_frame : (values back : ℕ) → Frame
  first_frame values back = record { sp = GLOBALS_START - 4 * (values + 1); values = values; back = back; places = back ∷ []; entered = []; old = λ at. 0 }

  record Begun (values back number : ℕ) (w : FWorld) : Type 0 where
    count : ℕ
    few : count ≤ 4
    aligned : back % 4 ≡ 0
    called : IsCalled s (first_frame values back) number [] w count

  begins : (values number b a a1 a2 : ℕ) (initial : List ℕ) (globals : List Block) (input : List ℕ) → values ≤ 255 → StartsAs s (start initial globals input).world
      → PartAt s.text s.all s.labels 4096 (Plain (Lui 8 HEAP_START)) a → PartAt s.text s.all s.labels a (Plain (Lui 26 TABLE_START)) a1 → PartAt s.text s.all s.labels a1 (Jump 1 number) b
      → Begun values b number (start initial globals input).world
  begins values number b a a1 a2 initial globals input few st eight table jump =
      let w = (start initial globals input).world in
      let v = after s 0 in
      let code = Lui 8 HEAP_START ∷ Lui 26 TABLE_START ∷ [] in
      let h = held_of GLOBALS_START v.machine.core in
      let frame : IsFrameAt GLOBALS_START 0 = record { low = omega arith; high = omega arith; aligned = refl } in
      let at0 : IsAt s.text 4096 v = record { core = record { here = st.pc; stands = scene.stands 0; form = scene.form 0 }; running = st.running } in
      let did = laws.straight s.text s.all s.labels 4096 a1 GLOBALS_START 0 code h v scene.room frame (a, eight, (a1, table, refl)) at0
      (record { registers = λ r lt. refl; frame = λ n lt. refl; base = st.base }) ((is_set 8 (omega arith) (omega arith), omega arith), ((is_set 26 (omega arith) (omega arith), omega arith), tt)) in
      let quiet = frame_unnoticed GLOBALS_START 0 frame did.events did.each in
      let same : after s 2 ≡ gone did.events did.core v = sym (laws.steps_add 0 2 s.start) ∙ did.comes in
      let v2 = after s 2 in
      let c2 = v2.machine.core in
      let told : v2.told ≡ map Happens did.events = ap (λ x. x.told) same ∙ ap (λ l. l ++ map Happens did.events) st.told in
      let events2 : events_of v2.told ≡ did.events = ap events_of told ∙ laws.events_happen did.events in
      let at2 : IsAt s.text a1 v2 = record {
        core = record { here = ap (λ x. x.machine.core.pc) same ∙ did.place.here; stands = scene.stands 2; form = scene.form 2 };
        running = ap (λ x. x.machine.ending) same ∙ st.running;
      } in
      let register : (r : ℕ) → r < 32 → register_of c2 r ≡ (does_code h).register r = λ r lt. ap (λ x. register_of x.machine.core r) same ∙ did.holds.registers r lt in
      let bytes : (q : ℕ) → slice_index c2.memory q ≡ slice_index v.machine.core.memory q = λ q. ap (λ x. slice_index x.machine.core.memory q) same ∙ beside v.machine.core did.core did.beside q (cases_lt q GLOBALS_START) in
      let go = jump.0 v2 at2 in
      let d = at_place (s.labels number) (set_register 5 go.scratch (set_register 1 b c2)) in
      let event : Event = Call (b - 4) (s.labels number) in
      let k = 2 + go.count in
      let last : after s k ≡ gone (event ∷ []) d v2 = sym (laws.steps_add 2 go.count s.start) ∙ go.comes in
      let size = (scene.form 2).registers in
      let other : (r : ℕ) → r ≢ 1 → r ≢ 5 → register_of d r ≡ register_of c2 r =
      λ r n1 n5. get_or-set_other (set_register 1 b c2).registers 5 r go.scratch 0 n5 ∙ get_or-set_other c2.registers 1 r b 0 n1 in
      let events : events_of (gone (event ∷ []) d v2).told ≡ did.events ++ event ∷ [] = laws.events_append v2.told (Happens event ∷ []) ∙ ap (λ l. l ++ event ∷ []) events2 in
      let behind = behind_jump s a1 b 1 number (place_aligned s scene a1 2 at2) jump in
      let four : b - 4 + 4 ≡ b = let x = behind.1 in omega (arith, x) in
      record {
        count = k;
        few = omega (arith, go.few);
        aligned = behind.0;
        called = record {
          at = record {
            core = record { here = ap (λ x. x.machine.core.pc) last; stands = scene.stands k; form = scene.form k };
            running = ap (λ x. x.machine.ending) last ∙ at2.running;
          };
          base = ap (λ x. register_of x.machine.core 2) last ∙ other 2 (apart 2 1 refl) (apart 2 5 refl) ∙ register 2 (omega arith) ∙ st.base ∙ (let e : GLOBALS_START ≡ GLOBALS_START - 4 * (values + 1) + 4 * (values + 1) = omega (arith, few) in e);
          from = ap (λ x. register_of x.machine.core 1) last ∙ get_or-set_other (set_register 1 b c2).registers 5 1 go.scratch 0 (apart 1 5 refl) ∙ get_or-set_same c2.registers 1 b 0 (omega (arith, size));
          given = λ i lt. absurd (omega (arith, lt));
          agrees = record {
            memory = λ q low high. ap (λ x. slice_index x.machine.core.memory q) last ∙ bytes q ∙ st.memory q low high;
            above = λ q low high. absurd (let e : GLOBALS_START ≤ q = omega (arith, low, few) in omega (arith, e, high));
            stack = ap (λ x. register_of x.machine.core 8) last ∙ other 8 (apart 8 1 refl) (apart 8 5 refl) ∙ register 8 (omega arith);
            table = ap (λ x. register_of x.machine.core 26) last ∙ other 26 (apart 26 1 refl) (apart 26 5 refl) ∙ register 26 (omega arith);
            number = ap (λ x. x.machine.frames.stack) last ∙ ap (λ x. x.machine.frames.stack) same ∙ st.stack;
            layouts = ap (λ x. x.machine.frames.layouts) last ∙ ap (λ x. x.machine.frames.layouts) same ∙ st.layouts;
            entered = ap (λ x. x.machine.frames.entered) last ∙ ap (λ x. x.machine.frames.entered) same ∙ st.entered;
            depth = refl;
            input = ap (λ x. x.left) last ∙ ap (λ x. x.left) same ∙ st.left;
            said = ap (λ x. shared x.told) last ∙ laws.shared_appends v2.told (Happens event ∷ []) ∙ append-nil (shared v2.told) ∙ ap shared told ∙ quiet.none;
            accesses = subst (λ x. Each IsControlSafe s.globals s.globals (events_of x.told)) (sym last) (subst (Each IsControlSafe s.globals s.globals) (sym events)
                ((laws.each_appends s.globals s.globals did.events (event ∷ [])).1 (quiet.safe _ _, (tt, tt))));
            returns = ap (λ x. open_after [] (events_of x.told)) last ∙ ap (open_after []) events ∙ laws.open_appends [] did.events (event ∷ []) ∙ ap (λ o. open_on o (event ∷ [])) (quiet.stay [])
                ∙ ap (λ x. Some (x ∷ [])) four;
            settled = record { live = st.live; high = tt; stack = omega arith };
          };
          kept = record { by = λ n front came. nothing_came n front came };
        };
      }
    where
      does_code : Held → Held
      does_code h = does_all (Lui 8 HEAP_START ∷ Lui 26 TABLE_START ∷ []) h

      beside : (old new : Core) → ((q : ℕ) → (q < GLOBALS_START) ⊎ (GLOBALS_START + 4 * 0 ≤ q) → slice_index new.memory q ≡ slice_index old.memory q)
          → (q : ℕ) → (q < GLOBALS_START) ⊎ (GLOBALS_START ≤ q) → slice_index new.memory q ≡ slice_index old.memory q
      beside old new h q (inl lt) = h q (inl lt)
      beside old new h q (inr le) = h q (inr (omega (arith, le)))

      nothing_came : (n : ℕ) (front : List Stamped) → Came [] n front → Begins (shared (after s n).told) (tells front)
      nothing_came n [] came = record { rest = shared (after s n).told; is = refl }
      nothing_came n (x ∷ xs) came = absurd (let e : [] ≡ x ∷ (xs ++ came.rest) = came.is in let q : ⊥ = cc in q)

  -- ---- The end

  -- the first call has returned: the run exits with its word
  exits_so : (f : Frame) (word a b k t : ℕ) (u : FPoint) → edge f ≡ GLOBALS_START → PartsAt s.text s.all s.labels f.back (plains (Addi 10 9 0 ∷ Addi 17 0 1 ∷ Ecall ∷ [])) b
      → k ≤ 4 → Answered s f [] word u.world k 8 → Finishes s (Ending.Exited word) u 0 0
  exits_so f word a b k t u top parts few an =
      let code = Addi 10 9 0 ∷ Addi 17 0 1 ∷ [] in
      let j = an.count in
      let frame : IsFrameAt (edge f) 0 = subst (λ x. IsFrameAt x 0) (sym top) (record { low = omega arith; high = omega arith; aligned = refl }) in
      let ran = runs_straight laws s scene code f.back parts.2.0 (edge f) 0 j frame ((is_set 10 (omega arith) (omega arith), omega arith), ((is_set 17 (omega arith) (omega arith), omega arith), tt))
      (parts.0, parts.1, (parts.2.0, parts.2.1, refl)) an.base an.at in
      let v = after s (j + 2) in
      let small : word < 2 ^ 32 = subst (λ (n : ℕ). n < 2 ^ 32) an.value ((scene.form j).words 9 0 (let z = (scene.form j).registers in omega (arith, z))) in
      let ten : register_of v.machine.core 10 ≡ word = ran.registers 10 (omega arith) ∙ ap (λ x. sum x 0) an.value ∙ omega (arith, small) in
      let seventeen : register_of v.machine.core 17 ≡ 1 = ran.registers 17 (omega arith) ∙ ap (λ x. sum x 1) (scene.form j).zero in
      let g = returned_to [] f in
      let agrees : Agrees s g u.world v = ran.agrees g u.world (omega (arith, top)) (omega arith) refl refl an.agrees in
      let same : after s (j + 2 + 1) ≡ with_machine exits v = sym (laws.steps_add (j + 2) 1 s.start) ∙ one_step v ∙ asks laws s parts.2.0 parts.2.2.0 v parts.2.2.1 ran.at ∙ calls_exit v seventeen in
      let keeps = control_of s g u.world v agrees in
      record {
        count = j + 2 + 1;
        later = omega arith;
        within = omega (arith, an.within, few);
        halted = ap (λ x. x.machine.ending) same ∙ ap (λ x. Some (Exited (x % 256))) ten;
        said = ap (λ x. shared x.told) same ∙ agrees.said;
        control = subst (KeepsControl s.globals) (sym same) (record { accesses = keeps.accesses; returns = keeps.returns });
        kept = an.kept;
      }

  -- where a run ends is a landing
  lands_at : (ending : Ending) (u : FPoint) (m k t : ℕ) → k ≤ t → Ends s ending u m k t → Lands s.globals (record { ending = ending; point = u }) m (λ n. after s n)
  lands_at (Ending.Exited word) u m k t le h = record { steps = h.count; so = (omega (arith, h.within, le), h.halted); said = h.said; control = h.control; kept = h.kept.by }
  lands_at (Ending.Reported kind line) u m k t le h = record { steps = h.count; so = (omega (arith, h.within, le), h.halted); said = h.said; control = h.control; kept = h.kept.by }
  lands_at (Ending.Trapped kind) u m k t le h = record { steps = h.count; so = (omega (arith, h.within, le), h.halted); said = h.said; control = h.control; kept = h.kept.by }
  lands_at Ending.Cut u m k t le h = record { steps = h.count; so = (omega (arith, h.later), h.running); said = h.said; control = h.control; kept = h.kept.by }

  came_to : (f : Frame) (b m k : ℕ) (words : ℕ → ℕ) (o : Run ℕ) → edge f ≡ GLOBALS_START → PartsAt s.text s.all s.labels f.back (plains (Addi 10 9 0 ∷ Addi 17 0 1 ∷ Ecall ∷ [])) b → k ≤ 4
      → CallComes s f [] words m k 8 o → Lands s.globals (outcome_of (and_then o exited)) m (λ n. after s n)
  unfolding and_then
  came_to f b m k words (Answer.Goes word u) top parts few h = lands_at (Ending.Exited word) u m 0 0 (omega arith) (exits_so f word b b k 0 u top parts few h.1)
  came_to f b m k words (Answer.Ends ending u) top parts few h = lands_at ending u m k 8 (omega (arith, few)) h

  -- A machine whose text is the selected code of a program lands for every run of it.
  pub lands : (code : FCode) (globals : List Block) (input : List ℕ) (main : FFunction) (end m : ℕ) → PartsAt s.text s.all s.labels 4096 (selected 4 code) end
      → length code.functions + functions_labels 4 code.functions ≤ scene.count → ((i : ℕ) → i < length code.functions → slice_get s.frames i ≡ Some [])
      → ((number : ℕ) (fn : FFunction) → slice_get code.functions number ≡ Some fn → FitsFunction (λ n. params_of (slice_get code.functions n)) number fn)
      → slice_get code.functions code.main ≡ Some main → main.params ≡ 0 → ((steps : FSteps) → all_steps 4 (items_of 4 steps) ≡ steps)
      → StartsAs s (start code.initial globals input).world → RunsInReach code globals s.frames input m → Lands s.globals (outcome_of (flat_run 4 code globals s.frames input m)) m (λ n. after s n)
  lands code globals input main end m parts labels layout fit is none items_are st reach =
      let fs = code.functions in
      let both = parts_split s (start_parts code.main) (functions_parts 4 0 (length fs) fs) 4096 end parts in
      let h = both.1 in
      let back = h.2.2.0 in
      let few = (fit code.main main is).values in
      let stand : (number : ℕ) (fn : FFunction) → slice_get fs number ≡ Some fn → FunctionAt s scene number fn = λ number fn at.
      let e : 0 + number ≡ number = omega arith in
      subst (λ j. FunctionAt s scene j fn) e (functions_stand s scene fs 0 (length fs) both.0 end both.2 (omega (arith, labels)) (omega (arith, labels))
      (λ i lt. let z : i ≡ 0 + i = omega arith in subst (λ x. slice_get s.frames x ≡ Some []) z (layout i lt)) number fn at) in
      let begun = begins main.values code.main back h.0 h.2.0 0 code.initial globals input few st h.1 h.2.1 h.2.2.1 in
      let f = first_frame main.values back in
      let top : edge f ≡ GLOBALS_START = omega (arith, few) in
      let runs = calls_run laws s scene fs m stand fit items_are m (omega arith) in
      let callee : IsCallee f main [] = record {
        values = refl;
        few = few;
        room = omega (arith, few);
        high = omega (arith, few);
        aligned = omega (arith, few);
        back = begun.aligned;
        opened = refl;
      } in
      let short = begun.few in
      let done = runs.run f code.main main [] [] (start code.initial globals input) begun.count 8 is (sym none) callee
      (omega (arith, short), omega arith, λ deep. absurd (let e : false ≡ true = deep in let z : ⊥ = cc in z)) reach begun.called in
      came_to f both.0 m begun.count (start code.initial globals input).words (calls 4 s.frames m fs m code.main [] (start code.initial globals input)) top h.2.2.2 short done

-- the law of whole programs
pub programs_land : Laws → ((steps : FSteps) → all_steps 4 (items_of 4 steps) ≡ steps) → ProgramsLand
programs_land laws items_are s code p globals input st m reach =
    lands laws s p.scene code globals input p.fits.first.main p.end m p.parts p.labels p.frames p.fits.functions p.fits.first.main_is p.fits.first.no_params items_are st reach
