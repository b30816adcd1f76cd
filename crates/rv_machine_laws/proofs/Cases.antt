-- What holds after an instruction, by the cases of instructions and environment calls.
use Rattle.std.proofs.Common.{◌≡◌, ℕ, ◌<◌, ◌≤◌, Bool, true, false, cond, eqb, ltb, leb, List, length, Option, Some, None, refl}
use Rattle.std.proofs.lemmas.Bool.{leb-false, ltb-false, eqb-true}
use Rattle.bb_words.specs.declared.kinds.TrapKind.{TrapKind}
use Rattle.bb_words.specs.declared.kinds.TrapKind.TheVariants.{Call}
use Rattle.rv_machine.specs.declared.frames.Entered.{Entered}
use Rattle.rv_machine.specs.declared.frames.Entry.TheVariants.{NoFrame, TooDeep, NoRoom}
use Rattle.rv_machine.specs.declared.stop.Halt.{Halt}
use Rattle.rv_machine.specs.declared.stop.Halt.TheVariants.{Trapped}
use Rattle.rv_machine.specs.Environment.{World, with_machine, telling, calls, exits, gets, puts, mallocs, malloc_events, frees, free_events, reports, enters, enter_events, leaves, leave_events}
use Rattle.rv_machine.specs.Frames.{Entering, Leaving, enter, leave, refused, entered_at, not_left, left_to, stack_under}
use Rattle.rv_machine.specs.Instruction.{Act, Goes, Traps, Asks, core_step, core_events}
use Rattle.rv_machine.specs.Machine.{step, acted, unless_ended}
use Rattle.rv_machine.specs.State.{Core, Frames, register_of, with_core, halted}

-- ---- One instruction

pub record InSteps (P : World → Type 0) (w : World) : Type 0 where
  pub ended : P w
  pub goes : (core : Core) → core_step w.machine.core ≡ Goes core → P (telling (λ s. core_events s.core) (with_core core) w)
  pub traps : (kind : TrapKind) → P (with_machine (halted (Trapped kind)) w)
  pub asks : core_step w.machine.core ≡ Asks → P (calls w)

by_act : (P : World → Type 0) (w : World) → InSteps P w → (act : Act) → core_step w.machine.core ≡ act → P (acted act w)
by_act P w c (Goes core) e = c.goes core e
by_act P w c (Traps kind) e = c.traps kind
by_act P w c Asks e = c.asks e

by_ending : (P : World → Type 0) (w : World) → InSteps P w → (ending : Option Halt) → P (unless_ended ending w (acted (core_step w.machine.core) w))
by_ending P w c None = by_act P w c (core_step w.machine.core) refl
by_ending P w c (Some halt) = c.ended

pub by_step : (P : World → Type 0) (w : World) → InSteps P w → P (step w)
unfolding step
by_step P w c = by_ending P w c w.machine.ending

-- ---- One environment call

pub record InCalls (P : World → Type 0) (w : World) : Type 0 where
  pub exit : P (with_machine exits w)
  pub getchar : P (gets w)
  pub putchar : P (puts w)
  pub malloc : P (telling malloc_events mallocs w)
  pub free : P (telling free_events frees w)
  pub report : P (with_machine reports w)
  pub enter : P (telling enter_events enters w)
  pub leave : P (telling leave_events leaves w)
  pub other : P (with_machine (halted (Trapped Call)) w)

either : (P : World → Type 0) (b : Bool) (u v : World) → P u → P v → P (cond b u v)
either P true u v p q = p
either P false u v p q = q

pub by_call : (P : World → Type 0) (w : World) → InCalls P w → P (calls w)
unfolding calls
by_call P w c =
    let n = register_of w.machine.core 17 in
    either P (eqb n 1) _ _ c.exit (
    either P (eqb n 2) _ _ c.getchar (
    either P (eqb n 3) _ _ c.putchar (
    either P (eqb n 4) _ _ c.malloc (
    either P (eqb n 5) _ _ c.free (
    either P (eqb n 6) _ _ c.report (
    either P (eqb n 7) _ _ c.enter (
    either P (eqb n 8) _ _ c.leave c.other)))))))

-- ---- Entering and leaving

pub record InEntering (P : Entering → Type 0) (layout : Option (List ℕ)) (k : ℕ) (frames : Frames) (memory : List ℕ) : Type 0 where
  pub no_frame : P (refused NoFrame frames memory)
  pub too_deep : P (refused TooDeep frames memory)
  pub no_room : P (refused NoRoom frames memory)
  pub enters : (es : List ℕ) → layout ≡ Some es → length frames.entered < 4096 → 12582912 ≤ stack_under frames.stack es → P (entered_at (stack_under frames.stack es) k es frames memory)

pub by_entering : (P : Entering → Type 0) (layout : Option (List ℕ)) (k : ℕ) (frames : Frames) (memory : List ℕ) → InEntering P layout k frames memory → P (enter layout k frames memory)
unfolding enter
by_entering P None k frames memory c = c.no_frame
by_entering P (Some es) k frames memory c = by (leb 4096 (length frames.entered)) (ltb (stack_under frames.stack es) 12582912) refl refl
  where
    by : (deep full : Bool) → leb 4096 (length frames.entered) ≡ deep → ltb (stack_under frames.stack es) 12582912 ≡ full
        → P (cond deep (refused TooDeep frames memory) (cond full (refused NoRoom frames memory) (entered_at (stack_under frames.stack es) k es frames memory)))
    by true full d f = c.too_deep
    by false true d f = c.no_room
    by false false d f = c.enters es refl (leb-false 4096 (length frames.entered) d) (ltb-false (stack_under frames.stack es) 12582912 f)

pub record InLeaving (P : Leaving → Type 0) (last : Option Entered) (layout : Option (List ℕ)) (k : ℕ) (frames : Frames) (memory : List ℕ) : Type 0 where
  pub stays : P (not_left frames memory)
  pub leaves : (call : Entered) (es : List ℕ) → last ≡ Some call → layout ≡ Some es → call.frame ≡ k → P (left_to call.back es frames memory)

pub by_leaving : (P : Leaving → Type 0) (last : Option Entered) (layout : Option (List ℕ)) (k : ℕ) (frames : Frames) (memory : List ℕ) → InLeaving P last layout k frames memory → P (leave last layout k frames memory)
unfolding leave
by_leaving P None layout k frames memory c = c.stays
by_leaving P (Some call) None k frames memory c = c.stays
by_leaving P (Some call) (Some es) k frames memory c = by (eqb call.frame k) refl
  where
    by : (same : Bool) → eqb call.frame k ≡ same → P (cond same (left_to call.back es frames memory) (not_left frames memory))
    by true s = c.leaves call es refl refl (eqb-true call.frame k s)
    by false s = c.stays
