-- What a call of the tool does, by its words, the files, the input, the output and the notes.
use Rattle.std.specs.Prelude.{◌≡◌, ◌≢◌, ℕ, Bool, List, Option, Some, None, Err}
use Rattle.bb_outside.specs.Causes.{Rose}
use Rattle.bb_outside.specs.Files.{Told, Made, Stays}
use Rattle.rv_image.specs.declared.image.Image.{Image}
use Rattle.rv_image.specs.declared.error.ImageError.{ImageError}
use Rattle.rv_image.specs.declared.error.ImageError.TheVariants.{Memory}
use Rattle.rv_image.specs.Reading.{image_of}
use Rattle.rv_image.specs.Rules.{IsImage}
use Rattle.rv_image.specs.Spelling.{spelling}
use Rattle.rv_machine.specs.declared.stop.Stop.{Stop}
use Rattle.rv_machine.specs.State.{State}
use Rattle.rv_machine.specs.Start.{start}
use Rattle.rv_machine.specs.Runs.{Shown, Stops, FaultCause, fault_of}
use Rattle.baggy_tool.specs.declared.ending.Ended.{Ended}
use Rattle.baggy_tool.specs.declared.ending.Ending.{Ending}
use Rattle.baggy_tool.specs.declared.ending.Ending.TheVariants.{Wrote, Checked, Refused, Usage, NoFile, FileFault, NoteFault, NoMemory}
use Rattle.baggy_tool.specs.declared.ending.Refusal.TheVariants as refusal
use Rattle.bb_driver.specs.Compiles.{IsImageOf}
use Rattle.bb_driver.specs.Sources.{IsAccepted}
use Rattle.bb_driver.specs.Sources as driver
use Rattle.baggy_tool.specs.Refusals.{Refuses}
use Rattle.baggy_tool.specs.Endings.{status_of, ending_of, line_of}
use Rattle.baggy_tool.specs.Files.{most_source, most_image, IsFile, IsAbsent}
use Rattle.baggy_tool.specs.Notes.{IsAppended, IsCutOff}
use Rattle.baggy_tool.specs.Words.{Request, Run, Exec, Compile, Check, request_of}

-- ---- What the outside shows at one moment

-- the input and the output: what a machine meets of them, and their counts of failures
pub record Streams : Type 0 where
  pub shown : Shown
  pub input_faults : ℕ
  pub output_faults : ℕ

abbrev pub streams : (left : Option (List ℕ)) (is_over : Bool) (input_faults : ℕ) (written : Option (List ℕ)) (output_faults : ℕ) → Streams
streams left is_over input_faults written output_faults =
    record { shown = record { left = left; is_over = is_over; written = written }; input_faults = input_faults; output_faults = output_faults }

-- the shelf
pub record Files : Type 0 where
  pub file : List ℕ → Told
  pub faults : ℕ
  pub misses : ℕ

abbrev pub files : (file : List ℕ → Told) (faults misses : ℕ) → Files
files file faults misses = record { file = file; faults = faults; misses = misses }

-- the notes
pub record Noting : Type 0 where
  pub written : Option (List ℕ)
  pub faults : ℕ

abbrev pub noting : (written : Option (List ℕ)) (faults : ℕ) → Noting
noting written faults = record { written = written; faults = faults }

-- ---- A run

-- a run of at most n instructions of the image's machine came back for a cause that makes the call end so
pub record RunsTo (ending : Ending) (n : ℕ) (image : Image) (before after : Streams) : Type 0 where
  pub stop : Stop
  pub is : ending ≡ ending_of stop
  pub state : State
  pub stops : Stops stop n (start image) before.shown state after.shown
  pub cause : FaultCause (fault_of stop) before.input_faults after.input_faults before.output_faults after.output_faults

-- ---- The modes, by the bytes that were read of FILE

-- A source is compiled and run. Where there is no image no run was begun: the input is unread, and the output has got
-- nothing.
abbrev pub AnswersRun : (text : List ℕ) (n : ℕ) (before after : Streams) → Option Image → Ending → Type 0
AnswersRun text n before after (Some image) ending = IsImageOf text image × RunsTo ending n image before after
AnswersRun text n before after None (Refused error) = Refuses text error × (after ≡ before)
AnswersRun text n before after None NoMemory = after ≡ before
AnswersRun text n before after None ending = ⊥

-- the bytes are those of an image
abbrev pub IsSpelled : List ℕ → Image → Type 0
IsSpelled bytes image = IsImage image × (bytes ≡ spelling image)

-- they are of none, by this rule of the format
abbrev pub IsRefusedBy : List ℕ → ImageError → Type 0
IsRefusedBy bytes error = (image_of bytes ≡ Err error) × (error ≢ Memory)

-- an image is run
abbrev pub AnswersExec : (bytes : List ℕ) (n : ℕ) (before after : Streams) → Option Image → Ending → Type 0
AnswersExec bytes n before after (Some image) ending = IsSpelled bytes image × RunsTo ending n image before after
AnswersExec bytes n before after None (Refused (refusal.Image error)) = IsRefusedBy bytes error × (after ≡ before)
AnswersExec bytes n before after None NoMemory = after ≡ before
AnswersExec bytes n before after None ending = ⊥

-- what became of the file that an image is written to; at a fault the shelf may have ceased to tell it
abbrev pub WritesTo : (old new : Told) (faults faults' : ℕ) → Image → Ending → Type 0
WritesTo old new faults faults' image Wrote = Made old new (spelling image)
WritesTo old new faults faults' image FileFault = Rose faults faults'
WritesTo old new faults faults' image NoMemory = Stays old new
WritesTo old new faults faults' image ending = ⊥

-- A source is compiled, and the bytes of its image become a file.
abbrev pub AnswersCompile : (text : List ℕ) (old new : Told) (faults faults' : ℕ) → Option Image → Ending → Type 0
AnswersCompile text old new faults faults' (Some image) ending = IsImageOf text image × WritesTo old new faults faults' image ending
AnswersCompile text old new faults faults' None (Refused error) = Refuses text error
AnswersCompile text old new faults faults' None NoMemory = Unit {0}
AnswersCompile text old new faults faults' None ending = ⊥

-- A source is read alone: it is accepted, or refused.
abbrev pub AnswersCheck : (text : List ℕ) → Option Image → Ending → Type 0
AnswersCheck text None Checked = IsAccepted text
AnswersCheck text None (Refused (refusal.Source error)) = driver.Refuses text error
AnswersCheck text None NoMemory = Unit {0}
AnswersCheck text image ending = ⊥

-- ---- FILE

-- it was read, and is answered so by its bytes
pub record AnswersFile (most : ℕ) (told : Told) (P : List ℕ → Type 0) : Type 0 where
  pub text : List ℕ
  pub read : IsFile most told text
  pub answers : P text

abbrev pub AnswersRead : Request → (before after : Files) → (old new : Streams) → Option Image → Ending → Type 0
AnswersRead (Run file n) before after old new image ending =
    AnswersFile most_source (before.file file) (λ text. AnswersRun text n old new image ending)
AnswersRead (Exec file n) before after old new image ending =
    AnswersFile most_image (before.file file) (λ bytes. AnswersExec bytes n old new image ending)
AnswersRead (Compile file path) before after old new image ending =
    AnswersFile most_source (before.file file) (λ text. AnswersCompile text (before.file path) (after.file path) before.faults after.faults image ending
    × (new ≡ old))
AnswersRead (Check file) before after old new image ending =
    AnswersFile most_source (before.file file) (λ text. AnswersCheck text image ending × (new ≡ old))

abbrev pub file_of : Request → List ℕ
file_of (Run file n) = file
file_of (Exec file n) = file
file_of (Compile file path) = file
file_of (Check file) = file

-- How a request is answered, but for the notes. The cases exclude each other, so each ending comes exactly where its case
-- holds, up to faults of the outside and want of memory.
abbrev pub Answers : Request → (before after : Files) → (old new : Streams) → Option Image → Ending → Type 0
Answers r before after old new None NoFile = IsAbsent (before.file (file_of r)) × Rose before.misses after.misses × (new ≡ old)
Answers r before after old new None FileFault = Rose before.faults after.faults × (new ≡ old)
Answers r before after old new None NoMemory = new ≡ old
Answers r before after old new image ending = AnswersRead r before after old new image ending

-- words that ask for nothing are answered by the usage
abbrev pub AnswersWords : Option Request → (before after : Files) → (old new : Streams) → Option Image → Ending → Type 0
AnswersWords (Some r) before after old new image ending = Answers r before after old new image ending
AnswersWords None before after old new None Usage = new ≡ old
AnswersWords None before after old new None NoMemory = new ≡ old
AnswersWords None before after old new image ending = ⊥

-- ---- Files and notes

-- only the file that an image was written to may change
abbrev pub IsKept : Option Request → Option Image → List ℕ → Type 0
IsKept (Some (Compile file path)) (Some image) name = name ≢ path
IsKept request image name = Unit {0}

-- the line of the ending was noted, or the notes failed, and that is the answer
abbrev pub Notes : Ending → Noting → Noting → Ending → Type 0
Notes ending before after NoteFault = Rose before.faults after.faults × IsCutOff (line_of ending) before.written after.written
Notes ending before after ended = (ended ≡ ending) × IsAppended (line_of ending) before.written after.written

-- what a call says, clause by clause
pub record Meets (words : List (List ℕ)) (before after : Files) (old new : Streams) (notes notes' : Noting) (ended : Ended) : Type 0 where
  -- the ending but for a fault of the notes
  pub ending : Ending
  pub answers : AnswersWords (request_of words) before after old new ended.image ending
  pub noted : Notes ending notes notes' ended.ending
  pub status : ended.status ≡ status_of ended.ending
  pub files : (name : List ℕ) → IsKept (request_of words) ended.image name → Stays (before.file name) (after.file name)
