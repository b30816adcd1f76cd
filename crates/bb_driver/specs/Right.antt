-- When an image is right for a program.
use Rattle.std.specs.Prelude.{ℕ, List, All}
use Rattle.typed_tree.specs.TypedTree.{CProgram}
use Rattle.injection.specs.Trail.{SafeSites}
use Rattle.source_meaning.specs.Runs.{outcome}
use Rattle.rv_image.specs.declared.image.Image.{Image}
use Rattle.rv_image.specs.Rules.{IsImage}
use Rattle.rv_machine.specs.Formed.{IsByte, IsWord}
use Rattle.rv_machine.specs.Machine.{machine_after}
use Rattle.rv_machine_laws.specs.Safety.{SafeRun}
use Rattle.bb_driver.specs.Same.{Same}

-- It is an image, its runs are safe, and they mean what the program means, with these sites left unchecked: for every input
-- and every number of instructions.
pub record Right (g : ℕ) (p : CProgram) (safe : SafeSites) (image : Image) : Type 0 where
  pub rules : IsImage image
  pub bytes : All IsByte image.initial
  pub words : All IsWord image.text
  pub safely : (input : List ℕ) (n : ℕ) → All IsByte input → SafeRun g image input n
  pub same : (input : List ℕ) → All IsByte input → Same (outcome g p input) safe (machine_after image input)
