-- The events that the next instruction tells.
use Rattle.std.proofs.Common.{◌≡◌, ◌≢◌, ℕ, ◌%◌, Bool, true, false, cond, eqb, List, [], ◌∷◌, Option, Some, None, refl, sym, ap, ◌∙◌}
use Rattle.std.specs.Prelude.{map}
use Rattle.std.proofs.lemmas.Bool.{ne_eqb}
use Rattle.std.proofs.lemmas.Option.{same_Some, none-some}
use Rattle.bb_watch.specs.declared.event.Event.{Event}
use Rattle.bb_watch.specs.Laws.{EventsHappen}
use Rattle.bb_watch.specs.Told.{Tell, Output, Happens, events_of}
use Rattle.rv_machine.specs.declared.stop.Halt.{Halt}
use Rattle.rv_machine.specs.Environment.{malloc_events, free_events, enter_events, leave_events}
use Rattle.rv_machine.specs.Events.{told_by}
use Rattle.rv_machine.specs.Instruction.{Act, Goes, Traps, Asks, core_step, core_events}
use Rattle.rv_machine.specs.Tells.{tells_of, tells_unless_ended, act_tells, call_tells}
use Rattle.rv_machine.specs.State.{State, register_of}

-- ---- What an act tells

pub told_some : EventsHappen → (act : Act) (s : State) (l : List Event) → Some l ≡ told_by act (core_events s.core) → l ≡ events_of (act_tells act s)
told_some law (Goes core) s l h = same_Some l (core_events s.core) h ∙ sym (law (core_events s.core))
told_some law (Traps kind) s l h = same_Some l [] h
told_some law Asks s l h = absurd (none-some _ (sym h))

pub told_none : (act : Act) (s : State) → None ≡ told_by act (core_events s.core) → events_of (call_tells s) ≡ events_of (act_tells act s)
told_none (Goes core) s h = absurd (none-some _ h)
told_none (Traps kind) s h = absurd (none-some _ h)
told_none Asks s h = refl

pub tells_running : (s : State) → s.ending ≡ None → events_of (tells_of s) ≡ events_of (act_tells (core_step s.core) s)
tells_running s h = ap (λ (e : Option Halt). events_of (tells_unless_ended e s)) h

pub tells_ended : (s : State) (halt : Halt) → s.ending ≡ Some halt → events_of (tells_of s) ≡ []
tells_ended s halt h = ap (λ (e : Option Halt). events_of (tells_unless_ended e s)) h

-- ---- What an environment call tells

pub malloc_told : EventsHappen → (s : State) → register_of s.core 17 ≡ 4 → malloc_events s ≡ events_of (call_tells s)
malloc_told law s h = sym (rw h (law (malloc_events s)))

pub free_told : EventsHappen → (s : State) → register_of s.core 17 ≡ 5 → free_events s ≡ events_of (call_tells s)
free_told law s h = sym (rw h (law (free_events s)))

pub enter_told : EventsHappen → (s : State) → register_of s.core 17 ≡ 7 → enter_events s ≡ events_of (call_tells s)
enter_told law s h = sym (rw h (law (enter_events s)))

pub leave_told : EventsHappen → (s : State) → register_of s.core 17 ≡ 8 → leave_events s ≡ events_of (call_tells s)
leave_told law s h = sym (rw h (law (leave_events s)))

pub others_told : (s : State) → register_of s.core 17 ≢ 4 → register_of s.core 17 ≢ 5 → register_of s.core 17 ≢ 7 → register_of s.core 17 ≢ 8 → [] ≡ events_of (call_tells s)
others_told s h4 h5 h7 h8 =
    let n = register_of s.core 17 in
    rw (ne_eqb n 4 h4, ne_eqb n 5 h5, ne_eqb n 7 h7, ne_eqb n 8 h8) (by (register_of s.core 10) (eqb n 3))
  where
    by : (value : ℕ) (b : Bool) → [] ≡ events_of (cond b (Output (value % 256) ∷ []) [])
    by value true = refl
    by value false = refl
