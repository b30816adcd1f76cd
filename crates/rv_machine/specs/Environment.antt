-- The environment calls. ECALL reads the number in x17 and arguments in x10 and x11, and answers in x10.
use Rattle.std.specs.Prelude.{ℕ, nat_lt, ◌%◌, ◌==◌, if◌then◌else◌, Option, Some, None, List, [], ◌∷◌, ◌++◌, map, slice_get}
use Rattle.bb_words.specs.declared.kinds.ReportKind.{ReportKind}
use Rattle.bb_words.specs.declared.kinds.ReportKind.TheVariants.{Bounds, Pointer, DivZero, BadFree, Depth, Stack}
use Rattle.bb_words.specs.declared.kinds.TrapKind.TheVariants.{Call}
use Rattle.bb_watch.specs.declared.event.Event.{Event}
use Rattle.bb_watch.specs.declared.event.Event.TheVariants.{Made, Ended}
use Rattle.bb_watch.specs.Told.{Tell, Output, Happens}
use Rattle.size_table.specs.declared.calls.TheConstants.{EXIT, GETCHAR, PUTCHAR, MALLOC, FREE, REPORT, ENTER, LEAVE}
use Rattle.size_table.specs.declared.memory_map.TheConstants.{MOST_BYTES}
use Rattle.size_table.specs.Blocks.{Block, block_at, without}
use Rattle.buddy_heap.specs.Places.{place_of, with_block, block_from}
use Rattle.size_table.specs.Made.{made, ended}
use Rattle.size_table.specs.Pads.{exponent_of}
use Rattle.rv_machine.specs.declared.frames.Entry.{Entry}
use Rattle.rv_machine.specs.declared.frames.Entry.TheVariants.{NoFrame, TooDeep, NoRoom, Enters}
use Rattle.rv_machine.specs.declared.stop.Halt.TheVariants.{Exited, Reported, Trapped}
use Rattle.rv_machine.specs.Frames.{Entering, Leaving, enter, leave, last_entered}
use Rattle.rv_machine.specs.State.{State, register_of, next, gives, with_memory, halted, with_core}

-- a machine with the rest of its input and with what it has told
pub record World : Type 0 where
  pub machine : State
  pub left : List ℕ
  pub told : List Tell

abbrev pub with_machine : (State → State) → World → World
with_machine f w = record w { machine = f w.machine }

-- the machine goes on by f, and tells these events of the state before
abbrev pub telling : (State → List Event) → (State → State) → World → World
telling tells f w = record { machine = f w.machine; left = w.left; told = w.told ++ map Happens (tells w.machine) }

-- exit: the status is the low 8 bits of x10
abbrev pub exits : State → State
exits s = halted (Exited (register_of s.core 10 % 256)) (with_core (next s.core) s)

-- getchar: x10 is the next byte of the input, or all ones at its end
abbrev pub gets_from : List ℕ → World → World
gets_from [] w = with_machine (λ s. with_core (gives 10 4294967295 s.core) s) w
gets_from (byte ∷ bytes) w = record { machine = with_core (gives 10 byte w.machine.core) w.machine; left = bytes; told = w.told }

abbrev pub gets : World → World
gets w = gets_from w.left w

-- putchar: the low 8 bits of x10 are told, and x10 is that byte
abbrev pub puts : World → World
puts w =
    let byte = register_of w.machine.core 10 % 256 in
    record { machine = with_core (gives 10 byte w.machine.core) w.machine; left = w.left; told = w.told ++ Output byte ∷ [] }

-- the program or the environment reports, with the line in x11
abbrev pub reported : ReportKind → State → State
reported kind s = halted (Reported kind (register_of s.core 11)) (with_core (next s.core) s)

abbrev pub kind_of : ℕ → Option ReportKind
kind_of number =
    if number == 1 then Some Bounds
    else if number == 2 then Some Pointer
    else if number == 3 then Some DivZero
    else if number == 4 then Some BadFree
    else if number == 5 then Some Depth
    else if number == 6 then Some Stack
    else None

abbrev pub reported_if : Option ReportKind → State → State
reported_if None s = halted (Trapped Call) s
reported_if (Some kind) s = reported kind s

-- report: the kind is in x10; another number is a trap
abbrev pub reports : State → State
reports s = reported_if (kind_of (register_of s.core 10)) s

-- enter: frame number x10 is entered, and x10 is the new stack number; a frame that there is not is a trap, and a call
-- too many, or one that does not fit on the data stack, is reported
abbrev pub entering : State → Entering
entering s = enter (slice_get s.frames.layouts (register_of s.core 10)) (register_of s.core 10) s.frames s.core.memory

abbrev pub enters_by : Entry → Entering → State → State
enters_by NoFrame e s = halted (Trapped Call) s
enters_by TooDeep e s = reported Depth s
enters_by NoRoom e s = reported Stack s
enters_by (Enters base) e s = record s { frames = e.frames; core = gives 10 base (with_memory e.memory s.core) }

abbrev pub enters : State → State
enters s = enters_by (entering s).answer (entering s) s

abbrev pub made_event : Block → Event
made_event block = Made block.base block.exponent

abbrev pub enter_events : State → List Event
enter_events s = map made_event (entering s).blocks

-- leave: the last call entered is left, and x10 is the stack number that it goes back to; where that is no call of
-- frame number x10, that is a trap
abbrev pub leaving : State → Leaving
leaving s = leave (last_entered s.frames) (slice_get s.frames.layouts (register_of s.core 10)) (register_of s.core 10) s.frames s.core.memory

abbrev pub leaves_by : Option ℕ → Leaving → State → State
leaves_by None l s = halted (Trapped Call) s
leaves_by (Some back) l s = record s { frames = l.frames; core = gives 10 back (with_memory l.memory s.core) }

abbrev pub leaves : State → State
leaves s = leaves_by (leaving s).answer (leaving s) s

abbrev pub ended_event : Block → Event
ended_event block = Ended block.base block.exponent

abbrev pub leave_events : State → List Event
leave_events s = map ended_event (leaving s).blocks

-- malloc: x10 is a size, and becomes the base of a new block for it in the heap, or 0 where it is above 16 MiB or there
-- is no place
abbrev pub block_of : ℕ → Option ℕ → Option Block
block_of exponent None = None
block_of exponent (Some base) = Some (block_at base exponent)

unfoldable pub new_block : ℕ → List Block → Option Block
new_block size heap = if nat_lt MOST_BYTES size then None else block_of (exponent_of 4 size) (place_of heap (exponent_of 4 size))

abbrev pub new_in : State → Option Block
new_in s = new_block (register_of s.core 10) s.heap

abbrev pub mallocs_by : Option Block → State → State
mallocs_by None s = with_core (gives 10 0 s.core) s
mallocs_by (Some b) s = record s { heap = with_block b s.heap; core = gives 10 b.base (with_memory (made b s.core.memory) s.core) }

abbrev pub mallocs : State → State
mallocs s = mallocs_by (new_in s) s

abbrev pub blocks_if : Option Block → List Block
blocks_if None = []
blocks_if (Some b) = b ∷ []

abbrev pub malloc_events : State → List Event
malloc_events s = map made_event (blocks_if (new_in s))

-- what comes of a free: nothing, a report, or the end of a block
pub data Freeing : Type 0 where
  Nothing : Freeing
  NoBlock : Freeing
  Ends : (block : Block) → Freeing

abbrev pub freeing_if : Option Block → Freeing
freeing_if None = NoBlock
freeing_if (Some b) = Ends b

-- free: the heap's block that begins at x10 ends; 0 does nothing, and where none begins that is reported
abbrev pub freeing : State → Freeing
freeing s = if register_of s.core 10 == 0 then Nothing else freeing_if (block_from (register_of s.core 10) s.heap)

abbrev pub frees_by : Freeing → State → State
frees_by Nothing s = with_core (next s.core) s
frees_by NoBlock s = reported BadFree s
frees_by (Ends b) s = record s { heap = without b.base s.heap; core = next (with_memory (ended b s.core.memory) s.core) }

abbrev pub frees : State → State
frees s = frees_by (freeing s) s

abbrev pub freed_blocks : Freeing → List Block
freed_blocks Nothing = []
freed_blocks NoBlock = []
freed_blocks (Ends b) = b ∷ []

abbrev pub free_events : State → List Event
free_events s = map ended_event (freed_blocks (freeing s))

-- the call whose number is in x17; any other number is a trap
unfoldable pub calls : World → World
calls w =
    if register_of w.machine.core 17 == EXIT then with_machine exits w
    else if register_of w.machine.core 17 == GETCHAR then gets w
    else if register_of w.machine.core 17 == PUTCHAR then puts w
    else if register_of w.machine.core 17 == MALLOC then telling malloc_events mallocs w
    else if register_of w.machine.core 17 == FREE then telling free_events frees w
    else if register_of w.machine.core 17 == REPORT then with_machine reports w
    else if register_of w.machine.core 17 == ENTER then telling enter_events enters w
    else if register_of w.machine.core 17 == LEAVE then telling leave_events leaves w
    else with_machine (halted (Trapped Call)) w
