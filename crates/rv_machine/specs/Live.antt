-- The blocks of the global objects, and those of the calls.
use Rattle.std.specs.Prelude.{ℕ, List, [], ◌∷◌, ◌++◌, Option, Some, None, slice_get}
use Rattle.rv_image.specs.declared.image.Image.{Image}
use Rattle.rv_machine.specs.declared.frames.Entered.{Entered}
use Rattle.size_table.specs.Made.{blocks_from}
use Rattle.rv_machine.specs.Frames.{stack_under}
use Rattle.size_table.specs.declared.memory_map.TheConstants.{GLOBALS_START}
use Rattle.size_table.specs.Blocks.{Block}

-- the blocks of the global objects, which are live from the start on
abbrev pub global_blocks : Image → List Block
global_blocks image = blocks_from GLOBALS_START image.globals

-- the blocks of a frame that was entered when the stack number was `back`
abbrev pub frame_blocks : (back : ℕ) → Option (List ℕ) → List Block
frame_blocks back None = []
frame_blocks back (Some exponents) = blocks_from (stack_under back exponents) exponents

-- the blocks of the calls that were entered and not left
abbrev pub call_blocks : (layouts : List (List ℕ)) → List Entered → List Block
call_blocks layouts [] = []
call_blocks layouts (call ∷ calls) = frame_blocks call.back (slice_get layouts call.frame) ++ call_blocks layouts calls
