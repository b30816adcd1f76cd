-- The code of a program means what the program means.
use Rattle.std.specs.Prelude.{◌≡◌, ℕ, ◌≤◌, List, length, map}
use Rattle.block_layout.specs.Objects.{globals_of, block_items}
use Rattle.typed_tree.specs.TypedTree.{CProgram}
use Rattle.source_meaning.specs.Runs.{Outcome, outcome, cost}
use Rattle.mid_code.specs.Code.{Program}
use Rattle.mid_code.specs.Meaning.{Came}
use Rattle.mid_code.specs.Runs as mid

-- The same ending in the same world, with its objects, output, trail and accounts, and no more time than the nodes and
-- bytes of the source pay for.
pub record Agrees (source : Outcome) (code : mid.Outcome) : Type 0 where
  pub ending : code.ending ≡ Came source.ending
  pub world : code.point.world ≡ source.state.world
  pub time : code.point.time ≤ cost source.state

-- Code lists the objects of the program, and means what it means: with slots of every size, for every input and every bound
-- on turns and nested calls.
pub record Keeps (p : CProgram) (code : Program) : Type 0 where
  pub named : code.named ≡ length p.globals
  pub globals : code.globals ≡ globals_of p
  pub blocks : map (λ f. f.blocks) code.functions ≡ map block_items p.functions
  pub runs : (g : ℕ) (input : List ℕ) (m : ℕ) → Agrees (outcome g p input m) (mid.outcome g code input m)
