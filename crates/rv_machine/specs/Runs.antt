-- What a run does to a machine and to the outside.
use Rattle.std.specs.Prelude.{◌≡◌, ℕ, ◌<◌, ◌≤◌, Bool, true, List, [], ◌++◌, Option, Some, None}
use Rattle.std.specs.declared.result.Result.{Result}
use Rattle.std.specs.declared.result.Result.TheVariants.{Ok, Err}
use Rattle.bb_outside.specs.Causes.{Rose}
use Rattle.rv_machine.specs.declared.stop.Fault.{Fault}
use Rattle.rv_machine.specs.declared.stop.Fault.TheVariants as fault
use Rattle.rv_machine.specs.declared.stop.Halt.{Halt}
use Rattle.rv_machine.specs.declared.stop.Halt.TheVariants as halt
use Rattle.rv_machine.specs.declared.stop.Stop.{Stop}
use Rattle.rv_machine.specs.declared.stop.Stop.TheVariants as stop
use Rattle.rv_machine.specs.State.{State, Core, Frames}
use Rattle.rv_machine.specs.declared.stop.Effect.{Effect}
use Rattle.rv_machine.specs.declared.stop.Effect.TheVariants as effect
use Rattle.rv_machine.specs.Instruction.{Traps, Asks, core_step}
use Rattle.rv_machine.specs.Environment.{World}
use Rattle.bb_watch.specs.Told.{Tell, output_of}
use Rattle.rv_machine.specs.Machine.{steps, IsBeforeCall}
use Rattle.size_table.specs.declared.memory_map.TheConstants.{TABLE_START}
use Rattle.size_table.specs.Blocks.{Block}

-- what a source and a sink show at one moment
pub record Shown : Type 0 where
  pub left : Option (List ℕ)
  pub is_over : Bool
  pub written : Option (List ℕ)

-- The machine went on by f: it took some bytes of the input and told some things. That is what f does whatever bytes
-- follow in the input, or, where the input is over, if none does. Where the source tells its bytes, the taken ones are
-- the first of them; where the sink tells its bytes, the output stands at their end.
pub record Ran (f : World → World) (s : State) (o : Shown) (s' : State) (o' : Shown) : Type 0 where
  pub taken : List ℕ
  pub tells : List Tell
  pub does : (rest : List ℕ) (told : List Tell) → (o'.is_over ≡ true → rest ≡ []) →
      f (record { machine = s; left = taken ++ rest; told = told }) ≡ record { machine = s'; left = rest; told = told ++ tells }
  pub input : (bytes : List ℕ) → o.left ≡ Some bytes →
      (rest : List ℕ) × (bytes ≡ taken ++ rest) × (o'.left ≡ Some rest)
  pub over : o.is_over ≡ true → (taken ≡ []) × (o'.is_over ≡ true)
  pub output : (bytes : List ℕ) → o.written ≡ Some bytes → o'.written ≡ Some (bytes ++ output_of tells)

-- an environment call was done, or the object of the outside failed and nothing else changed
abbrev pub Answered : {E : Type 0} → Result Unit E → (World → World) → State → Shown → State → Shown → Type 0
Answered (Ok done) f s o s' o' = Ran f s o s' o'
Answered (Err e) f s o s' o' = Ran (λ w. w) s o s' o' × (s' ≡ s)

-- one instruction was executed, or an object of the outside failed and the environment call is still to come
abbrev pub Stepped : Option Fault → (World → World) → State → Shown → State → Shown → Type 0
Stepped None f s o s' o' = Ran f s o s' o'
Stepped (Some fault.Read) f s o s' o' = Ran (λ w. w) s o s' o' × IsBeforeCall 2 s'
Stepped (Some fault.Write) f s o s' o' = Ran (λ w. w) s o s' o' × IsBeforeCall 3 s'

-- so many instructions were executed, or after them an object of the outside failed and the environment call is still to come
abbrev pub Advanced : Option Fault → ℕ → State → Shown → State → Shown → Type 0
Advanced None k s o s' o' = Ran (steps k) s o s' o'
Advanced (Some fault.Read) k s o s' o' = Ran (steps k) s o s' o' × IsBeforeCall 2 s'
Advanced (Some fault.Write) k s o s' o' = Ran (steps k) s o s' o' × IsBeforeCall 3 s'

-- a machine that has not ended
abbrev pub running : Core → Frames → List Block → State
running core frames heap = record { core = core; frames = frames; heap = heap; ending = None }

-- Why a core that may do n instructions comes back after k: all are done, or the next is trapped, or asks.
abbrev pub Paused : Effect → (n k : ℕ) → Core → Type 0
Paused effect.Went n k core = k ≡ n
Paused (effect.Trapped kind) n k core = (k < n) × (core_step core ≡ Traps kind)
Paused effect.Asked n k core = (k < n) × (core_step core ≡ Asks) × (core.pc < TABLE_START)

-- Why a run of at most n instructions came back. At a fault it stands after fewer, before the call that failed.
abbrev pub Stops : Stop → ℕ → State → Shown → State → Shown → Type 0
Stops (stop.Exited status) n s o s' o' = Ran (steps n) s o s' o' × (s'.ending ≡ Some (halt.Exited status))
Stops (stop.Reported kind line) n s o s' o' = Ran (steps n) s o s' o' × (s'.ending ≡ Some (halt.Reported kind line))
Stops (stop.Trapped kind) n s o s' o' = Ran (steps n) s o s' o' × (s'.ending ≡ Some (halt.Trapped kind))
Stops stop.OutOfSteps n s o s' o' = Ran (steps n) s o s' o' × (s'.ending ≡ None)
Stops stop.ReadFault n s o s' o' = (k : ℕ) × (k < n) × Ran (steps k) s o s' o' × IsBeforeCall 2 s'
Stops stop.WriteFault n s o s' o' = (k : ℕ) × (k < n) × Ran (steps k) s o s' o' × IsBeforeCall 3 s'

-- how a run comes back whose machine stands so after all instructions that were allowed
abbrev pub stop_of : Option Halt → Stop
stop_of None = stop.OutOfSteps
stop_of (Some (halt.Exited status)) = stop.Exited status
stop_of (Some (halt.Reported kind line)) = stop.Reported kind line
stop_of (Some (halt.Trapped kind)) = stop.Trapped kind

-- how a run comes back at a fault
abbrev pub stop_at : Fault → Stop
stop_at fault.Read = stop.ReadFault
stop_at fault.Write = stop.WriteFault

-- the counts of failures of the input and of the output never fall, and one rose at a fault
abbrev pub FaultCause : Option Fault → (input input' output output' : ℕ) → Type 0
FaultCause None input input' output output' = (input ≤ input') × (output ≤ output')
FaultCause (Some fault.Read) input input' output output' = Rose input input' × (output ≤ output')
FaultCause (Some fault.Write) input input' output output' = (input ≤ input') × Rose output output'

abbrev pub fault_of : Stop → Option Fault
fault_of stop.ReadFault = Some fault.Read
fault_of stop.WriteFault = Some fault.Write
fault_of stop.OutOfSteps = None
fault_of (stop.Exited status) = None
fault_of (stop.Reported kind line) = None
fault_of (stop.Trapped kind) = None
