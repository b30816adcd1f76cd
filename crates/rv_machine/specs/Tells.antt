-- What the machine's next instruction tells.
use Rattle.std.specs.Prelude.{◌==◌, ℕ, ◌%◌, ◌^◌, List, [], ◌∷◌, map, Option, Some, None, if◌then◌else◌}
use Rattle.rv_machine.specs.declared.stop.Halt.{Halt}
use Rattle.rv_machine.specs.Environment.{enter_events, leave_events, malloc_events, free_events}
use Rattle.bb_watch.specs.Told.{Tell, Output, Happens}
use Rattle.rv_machine.specs.Instruction.{Act, Goes, Traps, Asks, core_step, core_events}
use Rattle.rv_machine.specs.State.{State, register_of}
use Rattle.size_table.specs.declared.calls.TheConstants.{PUTCHAR, MALLOC, FREE, ENTER, LEAVE}

-- what an environment call tells: putchar its byte, and the others the blocks that they make and end
abbrev pub call_tells : State → List Tell
call_tells s =
    if register_of s.core 17 == PUTCHAR then Output (register_of s.core 10 % 256) ∷ []
    else if register_of s.core 17 == MALLOC then map Happens (malloc_events s)
    else if register_of s.core 17 == FREE then map Happens (free_events s)
    else if register_of s.core 17 == ENTER then map Happens (enter_events s)
    else if register_of s.core 17 == LEAVE then map Happens (leave_events s)
    else []

abbrev pub act_tells : Act → State → List Tell
act_tells (Goes core) s = map Happens (core_events s.core)
act_tells (Traps kind) s = []
act_tells Asks s = call_tells s

abbrev pub tells_unless_ended : Option Halt → State → List Tell
tells_unless_ended None s = act_tells (core_step s.core) s
tells_unless_ended (Some halt) s = []

-- what a machine's next instruction tells
abbrev pub tells_of : State → List Tell
tells_of s = tells_unless_ended s.ending s
