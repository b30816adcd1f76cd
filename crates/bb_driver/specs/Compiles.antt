-- What compiling a text answers.
use Rattle.std.specs.Prelude.{◌≡◌, ℕ, false, List, [], length, map, replicate, Result, Ok, Err}
use Rattle.typed_tree.specs.TypedTree.{CProgram}
use Rattle.typed_tree.specs.Counts.{nodes_of_program}
use Rattle.block_layout.specs.Answers.{IsLayout}
use Rattle.injection.specs.Trail.{SafeSites}
use Rattle.mid_code.specs.Code.{Program}
use Rattle.mid_code.specs.Safe.{Safe, site_of}
use Rattle.mid_code.specs.Views.{program_of}
use Rattle.bounds_instr_code.specs.Code.{global_blocks, instrumented}
use Rattle.bounds_instr_keeps.specs.Keeps.{Keeps}
use Rattle.flat_discipline.specs.Discipline.{IsDisciplined}
use Rattle.rv_image.specs.declared.image.Image.{Image}
use Rattle.rv_image.specs.Rules.{IsImage}
use Rattle.rv_asm.specs.Runs.{IsResolved}
use Rattle.rv_selected.specs.Selection.{selected}
use Rattle.rv_selected.specs.Shape.{HasShape}
use Rattle.lowering_counts.specs.Built.{IsBuilt}
use Rattle.lowering.specs.Lowers.{IsCode}
use Rattle.lowering_counts.specs.declared.error.LowerError.TheVariants as lower
use Rattle.size_table.specs.declared.memory_map.TheConstants.{TEXT_START, SLOT_EXPONENT}
use Rattle.bb_driver.specs.declared.compile.Compiled.{Compiled}
use Rattle.bb_driver.specs.declared.error.CompileError.{CompileError}
use Rattle.bb_driver.specs.declared.error.CompileError.TheVariants as compile
use Rattle.bb_driver.specs.Right.{Right}
use Rattle.bb_driver.specs.Sources.{Accepts, Refuses, IsNotBuilt}

-- the sites of moves that are left unchecked: none
abbrev pub no_sites : SafeSites
no_sites site = false

-- the text is accepted with a program, and the image is right for it; its text leaves the spare registers alone
pub record IsImageOf (text : List ℕ) (image : Image) : Type 0 where
  pub program : CProgram
  pub accepted : Accepts text program
  pub built : IsBuilt program
  pub right : Right SLOT_EXPONENT program no_sites image
  pub shape : HasShape image.text

-- The image is right for the program of the text, and was made of this mid code, which means what the program means. Of the
-- moves in that code none is left unchecked. Layout and number of nodes are those of the program.
pub record IsCompiled (text : List ℕ) (compiled : Compiled) : Type 0 where
  pub image : IsImageOf text compiled.image
  pub layout : IsLayout image.program compiled.layout
  pub code : IsCode image.program (program_of compiled.mid)
  pub safe : Safe (program_of compiled.mid) (map site_of compiled.safe.sites)
  pub unchecked : compiled.safe.sites ≡ []
  pub nodes : compiled.nodes ≡ nodes_of_program image.program

-- The image is right for the program of the text, or the text is refused, or its program is not built.
abbrev pub Compiles : List ℕ → Result Compiled CompileError → Type 0
Compiles text (Ok compiled) = IsCompiled text compiled
Compiles text (Err compile.Memory) = Unit {0}
Compiles text (Err (compile.Lower lower.NotBuilt)) = IsNotBuilt text
Compiles text (Err error) = Refuses text error

-- the text has an image, unless memory was wanting
abbrev pub IsAnswered : Result Compiled CompileError → Type 0
IsAnswered (Ok compiled) = Unit {0}
IsAnswered (Err compile.Memory) = Unit {0}
IsAnswered (Err error) = ⊥

-- ---- From mid code on

-- The text of the image is what the parts selected for the program's flat code resolve to. It has no global objects, and as
-- many frames without objects as the program has functions.
pub record IsMade (p : Program) (image : Image) : Type 0 where
  pub kept : Keeps SLOT_EXPONENT no_sites p (instrumented SLOT_EXPONENT p)
  pub disciplined : IsDisciplined SLOT_EXPONENT (global_blocks SLOT_EXPONENT p) (instrumented SLOT_EXPONENT p)
  pub rules : IsImage image
  pub resolved : IsResolved (selected SLOT_EXPONENT (instrumented SLOT_EXPONENT p)) image.text
  pub shape : HasShape image.text
  pub entry : image.entry ≡ TEXT_START
  pub globals : image.globals ≡ []
  pub frames : image.frames ≡ replicate (length p.functions) []
  pub initial : image.initial ≡ []
