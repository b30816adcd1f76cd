-- A machine whose core goes on until it pauses.
use Rattle.std.proofs.Common.{◌≡◌, ℕ, ◌+◌, ◌<◌, ◌≤◌, List, Option, Some, None, ◌++◌, sym, ap, subst, ◌∙◌, arith}
use Rattle.std.specs.Prelude.{IfSome, IfNone, IsSome}
use Rattle.bb_words.specs.declared.kinds.TrapKind.{TrapKind}
use Rattle.rv_machine.specs.declared.stop.Fault.{Fault}
use Rattle.rv_machine.specs.declared.stop.Fault.TheVariants as fault
use Rattle.rv_machine.specs.declared.stop.Halt.{Halt}
use Rattle.rv_machine.specs.declared.stop.Halt.TheVariants.{Trapped}
use Rattle.rv_machine.specs.State.{Core, Frames, State, halted, with_core}
use Rattle.rv_machine.specs.Instruction.{Traps, Asks, core_step}
use Rattle.rv_machine.specs.Environment.{World, calls}
use Rattle.rv_machine.specs.Machine.{step, steps}
use Rattle.rv_machine.specs.Runs.{Ran, Shown, Stepped, Advanced, Stops, FaultCause, fault_of, stop_at, running}
use Rattle.size_table.specs.Blocks.{Block}
use Rattle.rv_machine.proofs.Calls.{step_traps, step_asks}
use Rattle.rv_machine.proofs.Outside.{ran_quiet, ran_same}
use Rattle.rv_machine.proofs.Runs.{ran_more, ran_on, ran_still}
use Rattle.rv_machine.proofs.Steps.{steps_none, steps_more, step_ended}

-- a core goes on by k instructions whatever stands beside it
abbrev pub CoreRan : ℕ → Core → Core → Type 0
CoreRan k old new = (frames : Frames) (heap : List Block) (o : Shown) → Ran (steps k) (running old frames heap) o (running new frames heap) o

pub paused_went : (k : ℕ) (s : State) (core : Core) (o : Shown) → s.ending ≡ None → CoreRan k s.core core → Ran (steps k) s o (with_core core s) o
paused_went k s core o h p =
    let before : running s.core s.frames s.heap ≡ s = ap (λ (e : Option Halt). record { core = s.core; frames = s.frames; heap = s.heap; ending = e }) (sym h) in
    let after : running core s.frames s.heap ≡ with_core core s = ap (λ (e : Option Halt). record { core = core; frames = s.frames; heap = s.heap; ending = e }) (sym h) in
    subst (λ (x : State). Ran (steps k) x o (with_core core s) o) before (subst (λ (x : State). Ran (steps k) (running s.core s.frames s.heap) o x o) after (p s.frames s.heap o))

pub paused_traps : (k : ℕ) (s : State) (core : Core) (kind : TrapKind) (o : Shown) → s.ending ≡ None → CoreRan k s.core core → core_step core ≡ Traps kind → Ran (steps (k + 1)) s o (halted (Trapped kind) (with_core core s)) o
paused_traps k s core kind o h p e = ran_more k s o (with_core core s) o (halted (Trapped kind) (with_core core s)) o (paused_went k s core o h p) (step_traps (with_core core s) kind o h e)

pub paused_calls : (k : ℕ) (s : State) (core : Core) (o : Shown) (s' : State) (o' : Shown) → s.ending ≡ None → CoreRan k s.core core → core_step core ≡ Asks → Stepped None calls (with_core core s) o s' o' → Ran (steps (k + 1)) s o s' o'
paused_calls k s core o s' o' h p e q = ran_more k s o (with_core core s) o s' o' (paused_went k s core o h p) (step_asks None (with_core core s) o s' o' h e q)

pub paused_fails : (fault : Fault) (k : ℕ) (s : State) (core : Core) (o : Shown) (s' : State) (o' : Shown) → s.ending ≡ None → CoreRan k s.core core → Stepped (Some fault) calls (with_core core s) o s' o' → Advanced (Some fault) k s o s' o'
paused_fails fault.Read k s core o s' o' h p q = (ran_still k s o (with_core core s) o s' o' (paused_went k s core o h p) q.0, q.1)
paused_fails fault.Write k s core o s' o' h p q = (ran_still k s o (with_core core s) o s' o' (paused_went k s core o h p) q.0, q.1)

-- k instructions, and d more before a fault
pub ran_to_fault : (fault : Fault) (n k d : ℕ) (s : State) (o : Shown) (s1 : State) (o1 : Shown) (s2 : State) (o2 : Shown) → k + d < n → Ran (steps k) s o s1 o1 → Advanced (Some fault) d s1 o1 s2 o2 → Stops (stop_at fault) n s o s2 o2
ran_to_fault fault.Read n k d s o s1 o1 s2 o2 less p q = (k + d, less, ran_on k d s o s1 o1 s2 o2 p q.0, q.1)
ran_to_fault fault.Write n k d s o s1 o1 s2 o2 less p q = (k + d, less, ran_on k d s o s1 o1 s2 o2 p q.0, q.1)

pub fault_cause : (fault : Fault) (i i' i2 o o' o2 : ℕ) → i ≤ i' → o ≤ o' → FaultCause (Some fault) i' i2 o' o2 → FaultCause (fault_of (stop_at fault)) i i2 o o2
fault_cause fault.Read i i' i2 o o' o2 a b c = (omega (arith, a, c.0), omega (arith, b, c.1))
fault_cause fault.Write i i' i2 o o' o2 a b c = (omega (arith, a, c.0), omega (arith, b, c.1))

-- ---- One instruction

ran_one : (k : ℕ) (s : State) (o : Shown) (s' : State) (o' : Shown) → k ≡ 1 → Ran (steps k) s o s' o' → Ran step s o s' o'
ran_one k s o s' o' one p =
    let q = subst (λ (n : ℕ). Ran (steps n) s o s' o') one p in
    ran_same (steps 1) step s o s' o' q (λ rest told e. let w : World = record { machine = s; left = q.taken ++ rest; told = told } in sym (steps_more 0 w ∙ ap step (steps_none w)))

ran_zero : (k : ℕ) (s : State) (o : Shown) (s' : State) (o' : Shown) → k ≡ 0 → Ran (steps k) s o s' o' → Ran (λ w. w) s o s' o'
ran_zero k s o s' o' none p =
    let q = subst (λ (n : ℕ). Ran (steps n) s o s' o') none p in
    ran_same (steps 0) (λ w. w) s o s' o' q (λ rest told e. let w : World = record { machine = s; left = q.taken ++ rest; told = told } in sym (steps_none w))

pub advanced_one : (fault : Option Fault) (k : ℕ) (s : State) (o : Shown) (s' : State) (o' : Shown) → IfNone fault (0 < k) × (k ≤ 1) × IfSome fault (λ x. k < 1) → Advanced fault k s o s' o' → Stepped fault step s o s' o'
advanced_one None k s o s' o' h p = ran_one k s o s' o' (omega (arith, h.0, h.1)) p
advanced_one (Some fault.Read) k s o s' o' h p = (ran_zero k s o s' o' (omega (arith, h.2)) p.0, p.1)
advanced_one (Some fault.Write) k s o s' o' h p = (ran_zero k s o s' o' (omega (arith, h.2)) p.0, p.1)

-- a machine that has ended stays
pub ran_over : (s : State) (o : Shown) → IsSome s.ending → Ran step s o s o
ran_over s o h = ran_quiet step s s o (λ left told. step_ended (record { machine = s; left = left; told = told }) h)
