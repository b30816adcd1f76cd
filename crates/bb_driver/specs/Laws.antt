-- What the layers of the compiler give, and that this makes an image right.
use Rattle.std.specs.Prelude.{◌≡◌, ℕ, List, All}
use Rattle.typed_tree.specs.TypedTree.{CProgram}
use Rattle.injection.specs.Trail.{SafeSites}
use Rattle.mid_code.specs.Code.{Program}
use Rattle.mid_code.specs.Runs.{outcome}
use Rattle.lowering_keeps.specs.Keeps as lowering
use Rattle.bounds_instr_code.specs.Code.{global_blocks, frames_of}
use Rattle.bounds_instr_keeps.specs.Keeps as instrumenting
use Rattle.flat_code.specs.Code.{FCode}
use Rattle.flat_code.specs.Run.{flat_run}
use Rattle.flat_discipline.specs.Discipline.{IsDisciplined}
use Rattle.flat_discipline.specs.Safe.{AreGlobals, AreFrames}
use Rattle.flat_landing.specs.Lands.{outcome_of, RunsAs}
use Rattle.rv_image.specs.declared.image.Image.{Image}
use Rattle.rv_image.specs.Rules.{IsImage, slot_of}
use Rattle.rv_machine.specs.Formed.{IsByte, IsWord}
use Rattle.rv_machine.specs.Live as machine
use Rattle.rv_machine.specs.Machine.{machine_after}
use Rattle.bb_driver.specs.Same.{SafeSitesHold}
use Rattle.bb_driver.specs.Right.{Right}

-- What each layer says of what it hands on: the mid code of a program, the sites that it may leave unchecked, its flat code,
-- and an image whose runs are those of the flat code.
pub record Layers (g : ℕ) (p : CProgram) (mid : Program) (safe : SafeSites) (flat : FCode) (image : Image) : Type 0 where
  pub slot : g ≡ slot_of image
  pub lowered : lowering.Keeps p mid
  pub sites : (input : List ℕ) (m : ℕ) → All IsByte input →
      let w = (outcome g mid input m).point.world in SafeSitesHold safe w.objects w.trail
  pub kept : instrumenting.Keeps g safe mid flat
  pub layout : AreGlobals g (global_blocks g mid)
  pub frames : AreFrames g flat.functions (frames_of g mid)
  pub disciplined : IsDisciplined g (global_blocks g mid) flat
  pub rules : IsImage image
  pub bytes : All IsByte image.initial
  pub words : All IsWord image.text
  pub globals : machine.global_blocks image ≡ global_blocks g mid
  pub runs : (input : List ℕ) → All IsByte input →
      RunsAs (machine.global_blocks image) (λ m. outcome_of (flat_run g flat (global_blocks g mid) (frames_of g mid) input m)) (machine_after image input)

-- Then the image is right.
abbrev pub LayersMakeRight : Type 0
LayersMakeRight = (g : ℕ) (p : CProgram) (mid : Program) (safe : SafeSites) (flat : FCode) (image : Image) → Layers g p mid safe flat image
    → Right g p safe image
