-- The laws of the machine.
use Rattle.std.specs.Prelude.{◌≡◌, ◌≢◌, ◌⊎◌, ℕ, ◌+◌, ◌*◌, ◌%◌, ◌≤◌, ◌<◌, ◌^◌, List}
use Rattle.std.specs.Prelude.{[], ◌∷◌, ◌++◌, All, Some, None, IsSome, length, slice_index}
use Rattle.std.specs.Int.{to_le_bytes, w16, w32}
use Rattle.rv_code.specs.Code.{Fits, word_of}
use Rattle.rv_code.specs.declared.instr.Instr.{Instr}
use Rattle.rv_image.specs.declared.image.Image.{Image}
use Rattle.rv_image.specs.Rules.{IsImage, slot_of}
use Rattle.rv_machine.specs.Changes.{NoneChanges, IsMadeIn, AreOffTable, AreDataHigh}
use Rattle.rv_machine.specs.Environment.{World}
use Rattle.bb_watch.specs.Told.{Tell, events_of}
use Rattle.rv_machine.specs.Formed.{IsWord, IsByte, IsCore, IsFormed, AreLaidOut, live_in}
use Rattle.rv_machine.specs.Instruction.{Goes, Asks, core_step, core_events, instruction_at, effect, event_of}
use Rattle.rv_machine.specs.Live.{global_blocks}
use Rattle.rv_machine.specs.Machine.{step, steps, machine_after}
use Rattle.size_table.specs.Memory.{half_at, word_at, written_at, bytes_of_words, Stand}
use Rattle.bb_watch.specs.Safety.{Each, IsAccessSafe, IsControlSafe}
use Rattle.rv_machine.specs.Runs.{Shown, Ran}
use Rattle.rv_machine_laws.specs.Safety.{IsContained, IsSafe, ContainedRun, SafeRun}
use Rattle.rv_machine.specs.Start.{start_memory}
use Rattle.rv_machine.specs.Tells.{tells_of}
use Rattle.rv_machine.specs.State.{Core, State, register_of}
use Rattle.size_table.specs.declared.memory_map.TheConstants.{TEXT_START, TABLE_START, TABLE_END, GLOBALS_START}
use Rattle.size_table.specs.Table.{IsTableOf, table_in}

-- a machine that has ended stays as it is
abbrev pub EndingStays : Type 0
EndingStays = (n k : ℕ) (w : World) → IsSome (steps k w).machine.ending → k ≤ n → steps n w ≡ steps k w

-- an instruction appends to what was told what the state before it gives
abbrev pub StepTells : Type 0
StepTells = (w : World) → (step w).told ≡ w.told ++ tells_of w.machine

-- what was told stays told
abbrev pub ToldGrows : Type 0
ToldGrows = (k d : ℕ) (w : World) → (more : List Tell) × ((steps (k + d) w).told ≡ (steps k w).told ++ more)

-- the fields of an instruction that is fetched fit
abbrev pub FieldsFit : Type 0
FieldsFit = (c : Core) (i : Instr) → word_at c.memory c.pc < 2 ^ 32 → instruction_at c ≡ Some i → Fits i

-- the instruction whose word stands at the program counter, in the text's region, is done, and tells what it tells
abbrev pub InstructionDone : Type 0
InstructionDone = (c : Core) (i : Instr) → TEXT_START ≤ c.pc → c.pc < TABLE_START → Fits i → word_at c.memory c.pc ≡ word_of i
    → (core_step c ≡ effect i c) × (core_events c ≡ event_of i c)

-- a word that was written is read back
abbrev pub WordReadBack : Type 0
WordReadBack = (memory : List ℕ) (at word : ℕ) → at + 4 ≤ length memory → word < 2 ^ 32
    → word_at (written_at memory at (to_le_bytes w32 word)) at ≡ word

-- so are a byte and a half
abbrev pub ByteReadBack : Type 0
ByteReadBack = (memory : List ℕ) (at byte : ℕ) → at < length memory → slice_index (written_at memory at (byte ∷ [])) at ≡ byte

abbrev pub HalfReadBack : Type 0
HalfReadBack = (memory : List ℕ) (at half : ℕ) → at + 2 ≤ length memory → half < 2 ^ 16
    → half_at (written_at memory at (to_le_bytes w16 half)) at ≡ half

-- bytes beside those that were written stay
abbrev pub OthersStay : Type 0
OthersStay = (memory : List ℕ) (from : ℕ) (bytes : List ℕ) (at : ℕ) → (at < from) ⊎ (from + length bytes ≤ at)
    → slice_index (written_at memory from bytes) at ≡ slice_index memory at

-- words that were written stand in memory
abbrev pub WordsStand : Type 0
WordsStand = (memory : List ℕ) (at : ℕ) (words : List ℕ) → All IsWord words → at + 4 * length words ≤ length memory
    → Stand (written_at memory at (bytes_of_words words)) at words

-- of words that stand in memory, each stands at its index
abbrev pub WordAtIndex : Type 0
WordAtIndex = (memory : List ℕ) (at : ℕ) (words : List ℕ) (i : ℕ) → Stand memory at words → i < length words
    → word_at memory (at + 4 * i) ≡ slice_index words i

-- instructions that are done in pieces are done at once
abbrev pub StepsAdd : Type 0
StepsAdd = (k d : ℕ) (w : World) → steps d (steps k w) ≡ steps (k + d) w

-- an instruction keeps what holds of the core of every machine
abbrev pub CoreStays : Type 0
CoreStays = (c d : Core) → IsCore c → core_step c ≡ Goes d → IsCore d

-- the core goes on to the next instruction, and of its registers x10 alone changes
pub record GoesOnWith10 (old new : Core) : Type 0 where
  pub pc : new.pc ≡ old.pc + 4
  pub others : (r : ℕ) → r ≢ 10 → register_of new r ≡ register_of old r

-- so it is at each environment call that does not end the run
abbrev pub CallsKeep : Type 0
CallsKeep = (w : World) → w.machine.ending ≡ None → core_step w.machine.core ≡ Asks → (step w).machine.ending ≡ None
    → GoesOnWith10 w.machine.core (step w).machine.core

-- an instruction, an environment call among them, keeps what holds of every machine of an image
abbrev pub FormStays : Type 0
FormStays = (image : Image) (w : World) → IsImage image → IsFormed image w → IsFormed image (step w)

-- so it holds in every run
abbrev pub RunsAreFormed : Type 0
RunsAreFormed = (image : Image) (input : List ℕ) (n : ℕ) → IsImage image → All IsByte image.initial → All IsByte input
    → IsFormed image (machine_after image input n)

-- the program counter is a multiple of 4
abbrev pub PcIsAligned : Type 0
PcIsAligned = (image : Image) (input : List ℕ) (n : ℕ) → IsImage image → (machine_after image input n).machine.core.pc % 4 ≡ 0

-- What stands in memory at the start: the text, the table of the global blocks, and the initial bytes of these. All other
-- bytes are zero.
pub record StartsWith (image : Image) : Type 0 where
  pub text : Stand (start_memory image) TEXT_START image.text
  pub table : IsTableOf (slot_of image) (global_blocks image) (table_in (start_memory image))
  pub initial : (i : ℕ) → i < length image.initial → slice_index (start_memory image) (GLOBALS_START + i) ≡ slice_index image.initial i
  pub zero : (at : ℕ) → (at < TEXT_START) ⊎ (TEXT_START + 4 * length image.text ≤ at) → (at < TABLE_START) ⊎ (TABLE_END ≤ at)
      → (at < GLOBALS_START) ⊎ (GLOBALS_START + length image.initial ≤ at) → slice_index (start_memory image) at ≡ 0

abbrev pub MemoryStarts : Type 0
MemoryStarts = (image : Image) → IsImage image → All IsByte image.initial → All IsWord image.text → StartsWith image

-- the live blocks are aligned to their size and lie in their regions, and no two of them meet
abbrev pub LiveAreLaidOut : Type 0
LiveAreLaidOut = (image : Image) (w : World) → IsImage image → IsFormed image w → AreLaidOut (slot_of image) (live_in image w)

-- A byte of the memory stays unless an event tells that it was written. Environment calls tell of blocks alone, so they
-- write to blocks that they make and to the size table.
abbrev pub OnlyToldChange : Type 0
OnlyToldChange = (image : Image) (w : World) (at : ℕ) → IsImage image → IsFormed image w → NoneChanges (events_of (tells_of w.machine)) at
    → slice_index (step w).machine.core.memory at ≡ slice_index w.machine.core.memory at

-- the bytes of a block that was made are zero
abbrev pub MadeIsZero : Type 0
MadeIsZero = (image : Image) (w : World) (at : ℕ) → IsImage image → IsFormed image w → IsMadeIn (events_of (tells_of w.machine)) at
    → slice_index (step w).machine.core.memory at ≡ 0

-- the text's region stays as it was at the start
abbrev pub TextStays : Type 0
TextStays = (image : Image) (input : List ℕ) (n at : ℕ) → IsImage image → All IsByte image.initial → All IsByte input → at < TABLE_START
    → slice_index (machine_after image input n).machine.core.memory at ≡ slice_index (start_memory image) at

-- the words of the text stand there in every run
abbrev pub TextStands : Type 0
TextStands = (image : Image) (input : List ℕ) (n : ℕ) → IsImage image → All IsByte image.initial → All IsByte input → All IsWord image.text
    → Stand (machine_after image input n).machine.core.memory TEXT_START image.text

-- the size table is that of the live blocks, before and after an instruction that does not itself write to it
abbrev pub TableFollows : Type 0
TableFollows = (image : Image) (w : World) → IsImage image → IsFormed image w → AreOffTable (events_of (tells_of w.machine))
    → IsTableOf (slot_of image) (live_in image w) (table_in w.machine.core.memory)
    → IsTableOf (slot_of image) (live_in image (step w)) (table_in (step w).machine.core.memory)

-- so it is in every run of a program that never writes to it
abbrev pub RunsHaveTable : Type 0
RunsHaveTable = (image : Image) (input : List ℕ) (n : ℕ) → IsImage image → All IsByte image.initial → All IsByte input
    → AreOffTable (events_of (machine_after image input n).told)
    → IsTableOf (slot_of image) (live_in image (machine_after image input n)) (table_in (machine_after image input n).machine.core.memory)

-- A run whose accesses are safe, and that keeps control, has the table that it should: of the clauses of safety, the one
-- on the table follows from these two.
abbrev pub TableIsKept : Type 0
TableIsKept = (image : Image) (input : List ℕ) (n : ℕ) → IsImage image → All IsByte image.initial → All IsByte input
    → Each (IsAccessSafe (slot_of image)) (global_blocks image) (global_blocks image) (events_of (machine_after image input n).told)
    → Each IsControlSafe (global_blocks image) (global_blocks image) (events_of (machine_after image input n).told)
    → IsTableOf (slot_of image) (live_in image (machine_after image input n)) (table_in (machine_after image input n).machine.core.memory)

-- safe accesses by other registers than x2 and x31 are to the globals or above
abbrev pub SafeAccessesAreHigh : Type 0
SafeAccessesAreHigh = (image : Image) (input : List ℕ) (n : ℕ)
    → Each (IsAccessSafe (slot_of image)) (global_blocks image) (global_blocks image) (events_of (machine_after image input n).told)
    → AreDataHigh (events_of (machine_after image input n).told)

-- a run that keeps within its blocks and its code at its end does so throughout
abbrev pub ContainedAtEnd : Type 0
ContainedAtEnd = (image : Image) (input : List ℕ) (n : ℕ) → IsImage image → All IsByte image.initial → All IsByte input
    → IsContained (slot_of image) (global_blocks image) (machine_after image input n) → ContainedRun (slot_of image) image input n

-- a run that is safe at its end is safe
abbrev pub SafeAtEnd : Type 0
SafeAtEnd = (image : Image) (input : List ℕ) (n : ℕ) → IsImage image → All IsByte image.initial → All IsByte input
    → IsSafe (slot_of image) (global_blocks image) (machine_after image input n) → SafeRun (slot_of image) image input n

-- ---- Runs that are put together outside

-- a run of one instruction tells what the state before it gives
abbrev pub StepRunTells : Type 0
StepRunTells = (s : State) (o : Shown) (s' : State) (o' : Shown) (p : Ran step s o s' o') → p.tells ≡ tells_of s

-- a run of no instruction tells nothing
abbrev pub RunBegins : Type 0
RunBegins = (s : State) (o : Shown) → (p : Ran (steps 0) s o s o) × (p.tells ≡ [])

-- a run goes on by an instruction, and tells what both told
abbrev pub RunGoesOn : Type 0
RunGoesOn = (k : ℕ) (s : State) (o : Shown) (s1 : State) (o1 : Shown) (s2 : State) (o2 : Shown) (p : Ran (steps k) s o s1 o1) (q : Ran step s1 o1 s2 o2)
    → (r : Ran (steps (k + 1)) s o s2 o2) × (r.tells ≡ p.tells ++ q.tells)
