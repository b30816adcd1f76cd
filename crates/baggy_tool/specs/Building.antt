-- What reading a file, running an image and writing one say.
use Rattle.std.specs.Prelude.{◌≡◌, ℕ, ◌≤◌, Vec, List, ◌++◌, length, take, drop, Option, Some, None}
use Rattle.baggy_tool.specs.declared.ending.Ending.{Ending}
use Rattle.baggy_tool.specs.declared.ending.Ending.TheVariants.{NoFile, FileFault, NoMemory, Refused}
use Rattle.baggy_tool.specs.Calls.{Streams, RunsTo, WritesTo}
use Rattle.std.specs.declared.result.Result.{Result}
use Rattle.std.specs.declared.result.Result.TheVariants.{Ok, Err}
use Rattle.bb_outside.specs.Causes.{Rose}
use Rattle.bb_outside.specs.Files.{Told, Untold, Missing, Holds}
use Rattle.rv_image.specs.declared.image.Image.{Image}
use Rattle.baggy_tool.specs.declared.reader.ReadError.{ReadError}
use Rattle.baggy_tool.specs.declared.reader.ReadError.TheVariants as read
use Rattle.baggy_tool.specs.Files.{IsFile, IsAbsent}
use Rattle.lowering_counts.specs.declared.error.LowerError.TheVariants as lower
use Rattle.bb_driver.specs.declared.error.CompileError.{CompileError}
use Rattle.bb_driver.specs.declared.error.CompileError.TheVariants as compile
use Rattle.baggy_tool.specs.declared.ending.Refusal.TheVariants as refusal

-- how a call ends whose source has no image
abbrev pub refused : CompileError → Ending
refused compile.Memory = NoMemory
refused (compile.Lower lower.NotBuilt) = Refused refusal.NotBuilt
refused error = Refused (refusal.Source error)

-- the text is the file's, or there is none, or the shelf failed
abbrev pub FileRead : {A : Type 0} → ℕ → Told → Result (Vec ℕ A) ReadError → Type 0
FileRead most told (Ok text) = IsFile most told text.items
FileRead most told (Err read.NoFile) = IsAbsent told
FileRead most told (Err read.Fault) = Unit {0}
FileRead most told (Err read.Memory) = Unit {0}

-- the count that rose where a file was not read; faults never fall
abbrev pub FileCause : {A : Type 0} → (faults faults' misses misses' : ℕ) → Result (Vec ℕ A) ReadError → Type 0
FileCause faults faults' misses misses' (Ok text) = faults ≤ faults'
FileCause faults faults' misses misses' (Err read.NoFile) = Rose misses misses'
FileCause faults faults' misses misses' (Err read.Fault) = Rose faults faults'
FileCause faults faults' misses misses' (Err read.Memory) = Unit {0}

-- the bytes that follow in the file stand at the end of the text; none means that the text is the file's front
abbrev pub PieceRead : Told → List ℕ → List ℕ → Result ℕ ReadError → Type 0
PieceRead Untold old new result = Unit {0}
PieceRead Missing old new (Ok n) = ⊥
PieceRead Missing old new (Err e) = Unit {0}
PieceRead (Holds bytes) old new (Ok n) = (new ≡ old ++ take n (drop (length old) bytes)) × (n ≡ 0 → length bytes ≤ length old)
PieceRead (Holds bytes) old new (Err read.NoFile) = ⊥
PieceRead (Holds bytes) old new (Err read.Fault) = Unit {0}
PieceRead (Holds bytes) old new (Err read.Memory) = Unit {0}

-- the counts never fall, and one rose where the answer says so
abbrev pub PieceCause : (faults faults' misses misses' : ℕ) → Result ℕ ReadError → Type 0
PieceCause faults faults' misses misses' (Ok n) = (faults ≤ faults') × (misses ≤ misses')
PieceCause faults faults' misses misses' (Err read.NoFile) = (faults ≤ faults') × Rose misses misses'
PieceCause faults faults' misses misses' (Err read.Fault) = Rose faults faults' × (misses ≤ misses')
PieceCause faults faults' misses misses' (Err read.Memory) = (faults ≤ faults') × (misses ≤ misses')

-- how a call ends that could not read its file
abbrev pub unread : ReadError → Ending
unread read.NoFile = NoFile
unread read.Fault = FileFault
unread read.Memory = NoMemory

-- how a run of an image comes back, if there was memory for it
abbrev pub RunsImage : Image → ℕ → Streams → Streams → Option Image → Ending → Type 0
RunsImage image n before after None ending = (ending ≡ NoMemory) × (after ≡ before)
RunsImage image n before after (Some same) ending = (same ≡ image) × RunsTo ending n image before after

-- how an image was written, if there was memory for its bytes
abbrev pub WritesImage : Image → (old new : Told) (faults faults' : ℕ) → Option Image → Ending → Type 0
WritesImage image old new faults faults' None ending = ending ≡ NoMemory
WritesImage image old new faults faults' (Some same) ending = (same ≡ image) × WritesTo old new faults faults' image ending
