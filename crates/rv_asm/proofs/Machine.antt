-- What the machine does at an instruction of a text.
use Rattle.std.proofs.Common.{◌≡◌, ℕ, zero, suc, ◌+◌, ◌<◌, ◌≤◌, List, ◌∷◌, map, None, refl, ap, ◌∙◌, arith}
use Rattle.bb_watch.specs.declared.event.Event.{Event}
use Rattle.rv_code.specs.Code.{Fits, word_of}
use Rattle.rv_code.specs.declared.instr.Instr.{Instr}
use Rattle.size_table.specs.Memory.{word_at, Stand}
use Rattle.rv_machine.specs.State.{Core}
use Rattle.rv_machine.specs.Instruction.{Act, Goes, core_step, core_events, effect, event_of}
use Rattle.rv_machine.specs.Environment.{World}
use Rattle.rv_machine_laws.specs.Laws.{InstructionDone}
use Rattle.rv_machine.specs.Machine.{step, steps, acted}
use Rattle.rv_asm.specs.Runs.{IsCoreAt, IsAt, IsDone, gone}

-- ---- Steps

pub one_step : (w : World) → steps 1 w ≡ step w
unfolding steps
one_step w = refl

pub step_first : (n : ℕ) (w : World) → steps (suc n) w ≡ steps n (step w)
unfolding steps
step_first zero w = refl
step_first (suc n) w = ap step (step_first n w)

step_acts : (w : World) (act : Act) → w.machine.ending ≡ None → core_step w.machine.core ≡ act → step w ≡ acted act w
unfolding step
step_acts w act running is = rw (running, is) refl

-- ---- Instructions of a text

-- these instructions stand in the text from a place on
unfoldable pub Has : (text : List ℕ) (place : ℕ) (code : List Instr) → Type 0
Has text place code = (memory : List ℕ) → Stand memory 4096 text → Stand memory place (map word_of code)

pub has_rest : (text : List ℕ) (place : ℕ) (i : Instr) (code : List Instr) → Has text place (i ∷ code) → Has text (place + 4) code
unfolding Has
has_rest text place i code h = λ memory stands. (h memory stands).1

pub has_first : (text : List ℕ) (place : ℕ) (i : Instr) (code : List Instr) → Has text place (i ∷ code) → (memory : List ℕ) → Stand memory 4096 text → word_at memory place ≡ word_of i
unfolding Has
has_first text place i code h memory stands = (h memory stands).0

pub is_done : InstructionDone → (text : List ℕ) (place : ℕ) (i : Instr) (code : List Instr) → Has text place (i ∷ code) → Fits i → 4096 ≤ place → place < 2097152 → IsDone text place i
is_done done text place i code h fits low high = record { step = λ c at. (both c at).0; events = λ c at. (both c at).1 }
  where
    both : (c : Core) → IsCoreAt text place c → (core_step c ≡ effect i c) × (core_events c ≡ event_of i c)
    both c at =
        let word : word_at c.memory c.pc ≡ word_of i = ap (word_at c.memory) at.here ∙ has_first text place i code h c.memory at.stands in
        done c i (omega (arith, low, at.here)) (omega (arith, high, at.here)) fits word

-- an instruction that goes on, with what it tells
pub goes : (text : List ℕ) (place : ℕ) (i : Instr) (w : World) (core : Core) (events : List Event) → IsDone text place i → IsAt text place w → effect i w.machine.core ≡ Goes core → event_of i w.machine.core ≡ events → step w ≡ gone events core w
goes text place i w core events is at e told =
    step_acts w (Goes core) at.running (is.step w.machine.core at.core ∙ e)
    ∙ ap (λ (es : List Event). gone es core w) (is.events w.machine.core at.core ∙ told)
