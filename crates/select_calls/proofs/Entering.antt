-- How a machine enters the frame of a function, and leaves it. The functions are those whose frames have no objects.
use Rattle.std.proofs.Common.{◌≡◌, ◌≢◌, ℕ, ◌+◌, ◌-◌, ◌^◌, ◌<◌, ◌≤◌, true, false, List, [], ◌∷◌, ◌++◌, length, map, take, Some, None, refl, sym, ap, ◌∙◌, subst, arith, length-append}
use Rattle.std.specs.Prelude.{nat_lt, nat_le, slice_get, slice_index}
use Rattle.std.proofs.lemmas.List.{get_or-set_same, get_or-set_other, append-nil}
use Rattle.std.proofs.lemmas.Bool.{eq-eqb}
use Rattle.bb_words.specs.Numbers.{sum}
use Rattle.bb_watch.specs.declared.event.Event.{Event}
use Rattle.bb_watch.specs.Told.{Happens, events_of}
use Rattle.bb_watch.specs.Safety.{Each, IsControlSafe, open_after}
use Rattle.size_table.specs.declared.memory_map.TheConstants.{GLOBALS_START, STACK_START, MOST_CALLS, HEAP_START}
use Rattle.flat_code.specs.World.{FWorld}
use Rattle.rv_asm.specs.declared.parts.Part.TheVariants.{Plain}
use Rattle.rv_asm.specs.Runs.{IsAt, PartAt, PartsAt, gone}
use Rattle.rv_code.specs.declared.instr.Instr.TheVariants.{Addi, Ecall}
use Rattle.rv_machine.specs.declared.frames.Entered.{Entered}
use Rattle.rv_machine.specs.declared.frames.Entry.TheVariants.{TooDeep, NoRoom}
use Rattle.rv_machine.specs.State.{Frames, register_of, gives}
use Rattle.rv_machine.specs.Frames.{Entering, Leaving, enter, leave, refused, entered_at, left_to, last_entered, stack_under}
use Rattle.rv_machine.specs.Instruction.{Goes}
use Rattle.rv_machine.specs.Environment.{World, telling, enters, enters_by, enter_events, made_event, leaves, leaves_by, leave_events, ended_event, calls}
use Rattle.rv_machine.specs.Machine.{step}
use Rattle.rv_selected.specs.Registers.{constant}
use Rattle.rv_selected.specs.Steps.{plains}
use Rattle.flat_landing.specs.Shared.{shared}
use Rattle.select_scope.specs.Frame.{IsFrameAt}
use Rattle.select_scope.specs.Loaded.{Loaded, IsLoaded, after, Frame, edge, held_of, Agrees}
use Rattle.select_straight.proofs.Straight.{step_acts}
use Rattle.select_scope.proofs.Agree.{Laws}
use Rattle.select_scope.proofs.Moves.{apart, one_step}
use Rattle.select_straight.proofs.Raw.{core_at, runs_straight, constant_gives, constant_straight_at}
use Rattle.select_straight.proofs.Asking.{asks}

-- ---- The calls of the environment

calls_enters : (v : World) → register_of v.machine.core 17 ≡ 7 → calls v ≡ telling enter_events enters v
unfolding calls
calls_enters v e = rw e refl

calls_leaves : (v : World) → register_of v.machine.core 17 ≡ 8 → calls v ≡ telling leave_events leaves v
unfolding calls
calls_leaves v e = rw e refl

-- what comes of entering, and of leaving
abbrev pub after_enter : Entering → World → World
after_enter x v = record { machine = enters_by x.answer x v.machine; left = v.left; told = v.told ++ map Happens (map made_event x.blocks) }

abbrev pub after_leave : Leaving → World → World
after_leave x v = record { machine = leaves_by x.answer x v.machine; left = v.left; told = v.told ++ map Happens (map ended_event x.blocks) }

pub enters_so : (v : World) (k : ℕ) (x : Entering) → register_of v.machine.core 17 ≡ 7 → register_of v.machine.core 10 ≡ k → slice_get v.machine.frames.layouts k ≡ Some []
    → enter (Some []) k v.machine.frames v.machine.core.memory ≡ x → calls v ≡ after_enter x v
enters_so v k x seventeen ten layout e =
    calls_enters v seventeen ∙ ap (λ y. after_enter y v) (ap (λ r. enter (slice_get v.machine.frames.layouts r) r v.machine.frames v.machine.core.memory) ten
    ∙ ap (λ o. enter o k v.machine.frames v.machine.core.memory) layout ∙ e)

pub leaves_so : (v : World) (k : ℕ) (call : Entered) (x : Leaving) → register_of v.machine.core 17 ≡ 8 → register_of v.machine.core 10 ≡ k → slice_get v.machine.frames.layouts k ≡ Some []
    → last_entered v.machine.frames ≡ Some call → leave (Some call) (Some []) k v.machine.frames v.machine.core.memory ≡ x → calls v ≡ after_leave x v
leaves_so v k call x seventeen ten layout last e =
    calls_leaves v seventeen ∙ ap (λ y. after_leave y v) (ap (λ r. leave (last_entered v.machine.frames) (slice_get v.machine.frames.layouts r) r v.machine.frames v.machine.core.memory) ten
    ∙ ap (λ o. leave o (slice_get v.machine.frames.layouts k) k v.machine.frames v.machine.core.memory) last
    ∙ ap (λ o. leave (Some call) o k v.machine.frames v.machine.core.memory) layout ∙ e)

pub too_deep : (k : ℕ) (frames : Frames) (memory : List ℕ) → nat_le MOST_CALLS (length frames.entered) ≡ true → enter (Some []) k frames memory ≡ refused TooDeep frames memory
unfolding enter
too_deep k frames memory deep = rw deep refl

pub no_room : (k : ℕ) (frames : Frames) (memory : List ℕ) → nat_le MOST_CALLS (length frames.entered) ≡ false → nat_lt (stack_under frames.stack []) STACK_START ≡ true
    → enter (Some []) k frames memory ≡ refused NoRoom frames memory
unfolding enter
no_room k frames memory deep low = rw (deep, low) refl

pub has_entered : (k : ℕ) (frames : Frames) (memory : List ℕ) → nat_le MOST_CALLS (length frames.entered) ≡ false → nat_lt (stack_under frames.stack []) STACK_START ≡ false
    → enter (Some []) k frames memory ≡ entered_at (stack_under frames.stack []) k [] frames memory
unfolding enter
has_entered k frames memory deep low = rw (deep, low) refl

pub has_left : (k back : ℕ) (frames : Frames) (memory : List ℕ) → leave (Some (record { frame = k; back = back })) (Some []) k frames memory ≡ left_to back [] frames memory
unfolding leave
has_left k back frames memory = rw (eq-eqb k k refl) refl

module _ (laws : Laws) (s : Loaded) (scene : IsLoaded s) where
  -- ---- Constants

  -- a register has become a number
  pub record Sets (r n b k most : ℕ) : Type 0 where
    pub count : ℕ
    pub few : count ≤ most
    pub at : IsAt s.text b (after s (k + count))
    pub is : register_of (core_at laws s scene (k + count)) r ≡ n
    pub others : (q : ℕ) → q < 32 → q ≢ r → register_of (core_at laws s scene (k + count)) q ≡ register_of (core_at laws s scene k) q
    pub agrees : (f : Frame) (w : FWorld) → edge f ≤ GLOBALS_START → register_of (core_at laws s scene k) 2 ≤ edge f → Agrees s f w (after s k) → Agrees s f w (after s (k + count))

  pub sets : (r n a b k : ℕ) → 9 ≤ r → r < 26 → n < 2 ^ 32 → PartsAt s.text s.all s.labels a (plains (constant r n)) b
      → IsFrameAt (register_of (core_at laws s scene k) 2) 0 → IsAt s.text a (after s k) → Sets r n b k 2
  sets r n a b k low high small parts frame at =
      let c = core_at laws s scene k in
      let sp = register_of c 2 in
      let given = constant_gives r n (held_of sp c) (λ e. absurd (let z : 9 ≤ 0 = omega (arith, e, low) in omega (arith, z))) small (scene.form k).zero in
      let straight = constant_straight_at 0 r n (omega (arith, low)) (omega (arith, high)) small in
      let ran = runs_straight laws s scene (constant r n) a b sp 0 k frame straight.0 parts refl at in
      record {
        count = length (constant r n);
        few = straight.1;
        at = ran.at;
        is = ran.registers r (omega (arith, high)) ∙ given.is;
        others = λ q lt ne. ran.registers q lt ∙ given.others q ne;
        agrees = λ f w top le a. ran.agrees f w top (omega (arith, le)) (given.others 8 (λ e. absurd (let z : 9 ≤ 8 = omega (arith, e, low) in omega (arith, z))))
            (given.others 26 (λ e. absurd (let z : 26 < 26 = omega (arith, e, high) in omega (arith, z)))) a;
      }

  -- ---- The stack number follows

  -- a call of the environment that changes the frames and gives a stack number, and x8 then has that
  pub record Reframed (b base : ℕ) (frames : Frames) (k : ℕ) : Type 0 where
    pub at : IsAt s.text b (after s (k + 1 + 1))
    pub eight : register_of (core_at laws s scene (k + 1 + 1)) 8 ≡ base
    pub others : (r : ℕ) → r ≢ 8 → r ≢ 10 → register_of (core_at laws s scene (k + 1 + 1)) r ≡ register_of (core_at laws s scene k) r
    pub memory : (core_at laws s scene (k + 1 + 1)).memory ≡ (core_at laws s scene k).memory
    pub frames_are : (after s (k + 1 + 1)).machine.frames ≡ frames
    pub left : (after s (k + 1 + 1)).left ≡ (after s k).left
    pub told : (after s (k + 1 + 1)).told ≡ (after s k).told

  pub reframed : (a p b base k : ℕ) (frames : Frames) (v' : World) → PartAt s.text s.all s.labels a (Plain Ecall) p → PartAt s.text s.all s.labels p (Plain (Addi 8 10 0)) b
      → IsAt s.text a (after s k) → base < 2 ^ 32 → calls (after s k) ≡ v' → v'.machine.core ≡ gives 10 base (core_at laws s scene k) → v'.machine.frames ≡ frames → v'.machine.ending ≡ None
      → v'.left ≡ (after s k).left → v'.told ≡ (after s k).told → Reframed b base frames k
  reframed a p b base k frames v' ecall copy at small is core frames_are running left told =
      let v = after s k in
      let c = core_at laws s scene k in
      let first : after s (k + 1) ≡ v' = sym (laws.steps_add k 1 s.start) ∙ one_step v ∙ asks laws s a p v ecall at ∙ is in
      let c1 = gives 10 base c in
      let core1 : core_at laws s scene (k + 1) ≡ c1 = ap (λ x. x.machine.core) first ∙ core in
      let at1 : IsAt s.text p (after s (k + 1)) = record {
        core = record { here = ap (λ x. x.pc) core1 ∙ ap (λ x. x + 4) at.core.here ∙ sym ecall.1; stands = scene.stands (k + 1); form = scene.form (k + 1) };
        running = ap (λ x. x.machine.ending) first ∙ running;
      } in
      let v1 = after s (k + 1) in
      let d = gives 8 (sum (register_of v1.machine.core 10) 0) v1.machine.core in
      let comes : step v1 ≡ gone [] d v1 = step_acts v1 (Goes d) at1.running (copy.0.step v1.machine.core at1.core) ∙ ap (λ (es : List Event). gone es d v1) (copy.0.events v1.machine.core at1.core) in
      let second : after s (k + 1 + 1) ≡ gone [] d v1 = sym (laws.steps_add (k + 1) 1 s.start) ∙ one_step v1 ∙ comes in
      let core2 : core_at laws s scene (k + 1 + 1) ≡ d = ap (λ x. x.machine.core) second in
      let size1 = (scene.form (k + 1)).registers in
      let size = (scene.form k).registers in
      let ten : register_of v1.machine.core 10 ≡ base = ap (λ x. register_of x 10) core1 ∙ get_or-set_same c.registers 10 base 0 (omega (arith, size)) in
      record {
        at = record {
          core = record { here = ap (λ x. x.pc) core2 ∙ ap (λ x. x + 4) at1.core.here ∙ sym copy.1; stands = scene.stands (k + 1 + 1); form = scene.form (k + 1 + 1) };
          running = ap (λ x. x.machine.ending) second ∙ at1.running;
        };
        eight = ap (λ x. register_of x 8) core2 ∙ get_or-set_same v1.machine.core.registers 8 (sum (register_of v1.machine.core 10) 0) 0 (omega (arith, size1)) ∙ ap (λ x. sum x 0) ten ∙ omega (arith, small);
        others = λ r n8 n10. ap (λ x. register_of x r) core2 ∙ get_or-set_other v1.machine.core.registers 8 r (sum (register_of v1.machine.core 10) 0) 0 n8
            ∙ ap (λ x. register_of x r) core1 ∙ get_or-set_other c.registers 10 r base 0 n10;
        memory = ap (λ x. x.memory) core2 ∙ ap (λ x. x.memory) core1;
        frames_are = ap (λ x. x.machine.frames) second ∙ ap (λ x. x.machine.frames) first ∙ frames_are;
        left = ap (λ x. x.left) second ∙ ap (λ x. x.left) first ∙ left;
        told = ap (λ x. x.told) second ∙ append-nil v1.told ∙ ap (λ x. x.told) first ∙ told;
      }

  -- a machine that has entered or left agrees with flat code that has
  pub agrees_reframed : (f : Frame) (entered : List Entered) (w : FWorld) (depth base b k : ℕ) (frames : Frames) → frames.stack ≡ base → frames.layouts ≡ s.frames → frames.entered ≡ entered
      → depth ≡ length entered → base ≤ HEAP_START → Reframed b base frames k → Agrees s f w (after s k) → Agrees s (record f { entered = entered }) (record w { depth = depth; stack = base }) (after s (k + 1 + 1))
  agrees_reframed f entered w depth base b k frames stack layouts same_entered deep low r a = record {
    memory = λ at low high. ap (λ m. slice_index m at) r.memory ∙ a.memory at low high;
    above = λ at low high. ap (λ m. slice_index m at) r.memory ∙ a.above at low high;
    stack = r.eight;
    table = r.others 26 (apart 26 8 refl) (apart 26 10 refl) ∙ a.table;
    number = ap (λ x. x.stack) r.frames_are ∙ stack;
    layouts = ap (λ x. x.layouts) r.frames_are ∙ layouts;
    entered = ap (λ x. x.entered) r.frames_are ∙ same_entered;
    depth = deep;
    input = r.left ∙ a.input;
    said = ap shared r.told ∙ a.said;
    accesses = subst (λ l. Each IsControlSafe s.globals s.globals (events_of l)) (sym r.told) a.accesses;
    returns = ap (λ l. open_after [] (events_of l)) r.told ∙ a.returns;
    settled = record { live = a.settled.live; high = a.settled.high; stack = low };
  }

-- ---- Lists of calls

pub last_of : (xs : List Entered) (x : Entered) → slice_get (xs ++ x ∷ []) (length (xs ++ x ∷ []) - 1) ≡ Some x
last_of xs x = ap (λ n. slice_get (xs ++ x ∷ []) n) (omega (arith, length-append xs (x ∷ []))) ∙ at_length xs
  where
    at_length : (ys : List Entered) → slice_get (ys ++ x ∷ []) (length ys) ≡ Some x
    at_length [] = refl
    at_length (y ∷ ys) = at_length ys

pub front_of : (xs : List Entered) (x : Entered) → take (length (xs ++ x ∷ []) - 1) (xs ++ x ∷ []) ≡ xs
front_of xs x = ap (λ n. take n (xs ++ x ∷ [])) (omega (arith, length-append xs (x ∷ []))) ∙ of_length xs
  where
    of_length : (ys : List Entered) → take (length ys) (ys ++ x ∷ []) ≡ ys
    of_length [] = refl
    of_length (y ∷ ys) = ap (λ l. y ∷ l) (of_length ys)
