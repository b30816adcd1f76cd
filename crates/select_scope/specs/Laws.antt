-- What holds of a machine that runs selected code.
use Rattle.std.specs.Prelude.{◌≡◌, ℕ, ◌+◌, ◌<◌, ◌≤◌, List, [], length, Some, slice_get, All}
use Rattle.size_table.specs.Blocks.{Block}
use Rattle.flat_code.specs.Code.{FCode}
use Rattle.flat_code.specs.Run.{start, flat_run}
use Rattle.rv_asm.specs.Runs.{PartsAt}
use Rattle.rv_image.specs.declared.image.Image.{Image}
use Rattle.rv_machine.specs.Formed.{IsByte}
use Rattle.rv_machine.specs.Live.{global_blocks}
use Rattle.rv_machine.specs.Machine.{machine_after}
use Rattle.rv_selected.specs.Selection.{functions_labels, selected}
use Rattle.flat_landing.specs.Lands.{outcome_of, Lands, RunsAs}
use Rattle.select_scope.specs.Fits.{FitsProgram}
use Rattle.select_scope.specs.ImageOf.{IsImageOf}
use Rattle.select_scope.specs.InReach.{RunsInReach}
use Rattle.select_scope.specs.Loaded.{Loaded, IsLoaded, StartsAs, after}

-- The selected parts of a program that fits stand in the text, from its begin on, and its frames have no objects.
pub record IsProgramIn (s : Loaded) (code : FCode) : Type 0 where
  pub scene : IsLoaded s
  pub end : ℕ
  pub parts : PartsAt s.text s.all s.labels 4096 (selected 4 code) end
  pub labels : length code.functions + functions_labels 4 code.functions ≤ scene.count
  pub frames : (i : ℕ) → i < length code.functions → slice_get s.frames i ≡ Some []
  pub fits : FitsProgram code

-- A machine whose text is the selected code of a program that fits lands for each bound on the turns and nested calls of
-- flat code for which each step that the run comes to is in reach: so its runs are those of flat code.
abbrev pub ProgramsLand : Type 0
ProgramsLand =
    (s : Loaded) (code : FCode) → IsProgramIn s code → (globals : List Block) (input : List ℕ) → StartsAs s (start code.initial globals input).world
    → (m : ℕ) → RunsInReach code globals s.frames input m → Lands s.globals (outcome_of (flat_run 4 code globals s.frames input m)) m (λ n. after s n)

-- An image of the selected code of a program that fits runs as its flat code does, with the image's global blocks and frames,
-- on every input on which each step that flat code comes to is in reach.
abbrev pub SelectionRuns : Type 0
SelectionRuns =
    (code : FCode) (image : Image) → IsImageOf code image → (input : List ℕ) → All IsByte input
    → ((m : ℕ) → RunsInReach code (global_blocks image) image.frames input m)
    → RunsAs (global_blocks image) (λ m. outcome_of (flat_run 4 code (global_blocks image) image.frames input m)) (machine_after image input)
