-- When an image is that of a program whose code fits.
use Rattle.std.specs.Prelude.{◌≡◌, ℕ, ◌<◌, [], All, length, Some, slice_get, slice_index}
use Rattle.size_table.specs.declared.memory_map.TheConstants.{TEXT_START}
use Rattle.flat_code.specs.Code.{FCode}
use Rattle.rv_image.specs.declared.image.Image.{Image}
use Rattle.rv_image.specs.Rules.{IsImage}
use Rattle.rv_machine.specs.Formed.{IsByte}
use Rattle.rv_asm.specs.Runs.{IsResolved}
use Rattle.rv_selected.specs.Selection.{selected}
use Rattle.select_scope.specs.Fits.{FitsProgram}

-- Its text is what the selected parts of the program resolve to, for slots of 16 bytes, and its entry is where the text begins.
-- Its initial bytes are those of the program, up to zeros at the end, and each function has a frame without objects.
pub record IsImageOf (code : FCode) (image : Image) : Type 0 where
  pub rules : IsImage image
  pub bytes : All IsByte image.initial
  pub resolved : IsResolved (selected 4 code) image.text
  pub entry : image.entry ≡ TEXT_START
  pub initial : (i : ℕ) → slice_index image.initial i ≡ slice_index code.initial i
  pub frames : (i : ℕ) → i < length code.functions → slice_get image.frames i ≡ Some []
  pub fits : FitsProgram code
