-- The machine before its first instruction.
use Rattle.std.specs.Prelude.{ℕ, ◌+◌, ◌/◌, List, [], replicate, slice_set, None}
use Rattle.rv_image.specs.declared.image.Image.{Image}
use Rattle.rv_machine.specs.State.{Core, Frames, State, memory_size}
use Rattle.size_table.specs.declared.memory_map.TheConstants.{TEXT_START, TABLE_START, GLOBALS_START, HEAP_START}
use Rattle.size_table.specs.Memory.{written_at, bytes_of_words, table_bytes}

-- zeros, but for the text, the bytes of the size table for the global blocks, and the initial bytes of these
unfoldable pub start_memory : Image → List ℕ
start_memory image =
    written_at (written_at (written_at (replicate memory_size 0) TEXT_START (bytes_of_words image.text)) (TABLE_START + GLOBALS_START / 16)
    (table_bytes image.globals)) GLOBALS_START image.initial

-- x2 is the upper end of the control stack, x31 the start of the size table, and all others are 0
abbrev pub start_registers : List ℕ
start_registers = slice_set (slice_set (replicate 32 0) 2 GLOBALS_START) 31 TABLE_START

-- no call is entered, and the stack number is the upper end of the data stack
abbrev pub start_frames : List (List ℕ) → Frames
start_frames layouts = record { layouts = layouts; entered = []; stack = HEAP_START }

-- a machine that has entered no call and made no block, with this core
abbrev pub fresh : Core → (layouts : List (List ℕ)) → State
fresh core layouts = record { core = core; frames = start_frames layouts; heap = []; ending = None }

unfoldable pub start : Image → State
start image = fresh (record { pc = image.entry; registers = start_registers; memory = start_memory image }) image.frames
