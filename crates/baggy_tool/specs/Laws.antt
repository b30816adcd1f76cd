-- What the tool does with a source that is accepted.
use Rattle.std.specs.Prelude.{◌≡◌, ◌⊎◌, ℕ, List, Option, Some, None}
use Rattle.bb_outside.specs.Causes.{Rose}
use Rattle.bb_outside.specs.Files.{Told, Holds, Made, Stays}
use Rattle.lowering_counts.specs.Built.{IsBuilt}
use Rattle.rv_image.specs.declared.image.Image.{Image}
use Rattle.rv_image.specs.Spelling.{spelling}
use Rattle.bb_driver.specs.Sources.{IsAccepted}
use Rattle.bb_driver.specs.Compiles.{IsImageOf}
use Rattle.baggy_tool.specs.declared.ending.Ended.{Ended}
use Rattle.baggy_tool.specs.declared.ending.Ending.{Ending}
use Rattle.baggy_tool.specs.declared.ending.Ending.TheVariants.{Wrote, Checked, NoMemory}
use Rattle.baggy_tool.specs.Calls.{Streams, Files, Noting, RunsTo, file_of, Meets}
use Rattle.baggy_tool.specs.Words.{Request, Run, Compile, Check, request_of}

-- a call whose words ask for this, whose file is told to be this text, and where neither the shelf nor the notes failed
pub record Call (request : Request) (text : List ℕ) : Type 0 where
  pub words : List (List ℕ)
  pub before : Files
  pub after : Files
  pub old : Streams
  pub new : Streams
  pub notes : Noting
  pub notes' : Noting
  pub ended : Ended
  pub meets : Meets words before after old new notes notes' ended
  pub asks : request_of words ≡ Some request
  pub told : before.file (file_of request) ≡ Holds text
  pub read : Rose before.faults after.faults → ⊥
  pub noted : Rose notes.faults notes'.faults → ⊥

-- an image that is right for the text was run, or memory was wanting, and no run was begun
abbrev pub IsRun : (text : List ℕ) (n : ℕ) (before after : Streams) → Option Image → Ending → Type 0
IsRun text n before after (Some image) ending = IsImageOf text image × RunsTo ending n image before after
IsRun text n before after None ending = (ending ≡ NoMemory) × (after ≡ before)

-- the bytes of an image that is right for the text became a file, or memory was wanting, and the file stays
abbrev pub IsWritten : (text : List ℕ) (old new : Told) → Option Image → Ending → Type 0
IsWritten text old new (Some image) Wrote = IsImageOf text image × Made old new (spelling image)
IsWritten text old new image NoMemory = Stays old new
IsWritten text old new image ending = ⊥

-- A source that is accepted is run, compiled and checked, unless the outside fails or memory is wanting.
pub record AcceptedIsRun : Type 0 where
  pub run : (file : List ℕ) (n : ℕ) (text : List ℕ) (accepted : IsAccepted text) → IsBuilt accepted.0 →
      (c : Call (Run file n) text) → IsRun text n c.old c.new c.ended.image c.ended.ending
  pub compile : (file path text : List ℕ) (accepted : IsAccepted text) → IsBuilt accepted.0 →
      (c : Call (Compile file path) text) → IsWritten text (c.before.file path) (c.after.file path) c.ended.image c.ended.ending
  pub check : (file text : List ℕ) → IsAccepted text →
      (c : Call (Check file) text) → (c.ended.ending ≡ Checked) ⊎ (c.ended.ending ≡ NoMemory)
