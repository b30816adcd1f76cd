-- One instruction, and many.
use Rattle.std.specs.Prelude.{◌≡◌, ℕ, zero, suc, List, [], Option, Some, None}
use Rattle.rv_image.specs.declared.image.Image.{Image}
use Rattle.rv_machine.specs.declared.stop.Halt.{Halt}
use Rattle.rv_machine.specs.declared.stop.Halt.TheVariants as halt
use Rattle.rv_machine.specs.State.{State, register_of, halted, with_core}
use Rattle.rv_machine.specs.Instruction.{Act, Goes, Traps, Asks, core_step, core_events}
use Rattle.rv_machine.specs.Environment.{World, with_machine, telling, calls}
use Rattle.rv_machine.specs.Start.{start}

-- what becomes of a machine by an act
abbrev pub acted : Act → World → World
acted (Goes core) w = telling (λ s. core_events s.core) (with_core core) w
acted (Traps kind) w = with_machine (halted (halt.Trapped kind)) w
acted Asks w = calls w

-- after an ending nothing changes
abbrev pub unless_ended : Option Halt → World → World → World
unless_ended None w v = v
unless_ended (Some h) w v = w

-- one instruction
unfoldable pub step : World → World
step w = unless_ended w.machine.ending w (acted (core_step w.machine.core) w)

-- n instructions
unfoldable pub steps : ℕ → World → World
steps zero w = w
steps (suc n) w = step (steps n w)

-- the machine of an image after n instructions on an input
abbrev pub machine_after : Image → List ℕ → ℕ → World
machine_after image input n = steps n (record { machine = start image; left = input; told = [] })

-- the instruction that comes next is the environment call of this number
pub record IsBeforeCall (number : ℕ) (s : State) : Type 0 where
  pub running : s.ending ≡ None
  pub call : core_step s.core ≡ Asks
  pub number_is : register_of s.core 17 ≡ number
