-- What is promised of a call that runs a file of C.
use Rattle.std.specs.Prelude.{◌≡◌, ℕ, ◌≤◌, true, List, [], ◌++◌, Some, All}
use Rattle.bb_outside.specs.Causes.{Rose}
use Rattle.size_table.specs.declared.memory_map.TheConstants.{SLOT_EXPONENT}
use Rattle.typed_tree.specs.TypedTree.{CProgram}
use Rattle.source_meaning.specs.declared.values.Ending as source
use Rattle.source_meaning.specs.Runs.{outcome, cost}
use Rattle.flat_code.specs.Told.{Begins}
use Rattle.lowering_counts.specs.Built.{IsBuilt}
use Rattle.rv_image.specs.declared.image.Image.{Image}
use Rattle.rv_machine.specs.Formed.{IsByte}
use Rattle.rv_machine.specs.Runs.{stop_of}
use Rattle.rv_machine_laws.specs.Safety.{SafeRun}
use Rattle.bb_driver.specs.Same.{halt_of, HasEnded, IsOutside}
use Rattle.bb_driver.specs.Sources.{Accepts}
use Rattle.baggy_tool.specs.declared.ending.Ending.{Ending}
use Rattle.baggy_tool.specs.declared.ending.Ending.TheVariants.{OutOfSteps, NoMemory}
use Rattle.baggy_tool.specs.Endings.{ending_of, status_of, line_of}
use Rattle.baggy_tool.specs.Laws.{Call}
use Rattle.baggy_tool.specs.Notes.{IsAppended}
use Rattle.baggy_tool.specs.Words.{Run}

-- A call that runs a file for at most n instructions. The file is told to hold the text, and the input to hold these bytes;
-- what was written before is told too. Files, input, output and notes did not fail, and memory was not wanting.
pub record RunOf (text input : List ℕ) (n : ℕ) : Type 0 where
  pub file : List ℕ
  pub call : Call (Run file n) text
  pub bytes : All IsByte input
  pub takes : call.old.shown.left ≡ Some input
  -- (each source has nothing left where it is over)
  pub over : call.new.shown.is_over ≡ true → (rest : List ℕ) → call.new.shown.left ≡ Some rest → rest ≡ []
  pub before : List ℕ
  pub writes : call.old.shown.written ≡ Some before
  pub taken : Rose call.old.input_faults call.new.input_faults → ⊥
  pub put : Rose call.old.output_faults call.new.output_faults → ⊥
  pub memory : call.ended.ending ≡ NoMemory → ⊥

-- the call has written this
abbrev pub HasWritten : {text input : List ℕ} {n : ℕ} → RunOf text input n → List ℕ → Type 0
HasWritten r out = r.call.new.shown.written ≡ Some (r.before ++ out)

-- how a call ends whose program ends so
abbrev pub told_as : source.Ending → Ending
told_as e = ending_of (stop_of (halt_of e))

-- What is promised, where p is the program of the text:
pub record IsPromised {text input : List ℕ} {n : ℕ} (p : CProgram) (r : RunOf text input n) : Type 0 where
  -- Of the image that was run, the first n instructions are safe: the result of each pointer move that is told lies in its
  -- operand's block or within half a slot of it; data is accessed in a live block, or in a slot that a block had which has
  -- ended; by x2 the control stack alone is accessed, and by x31 the size table is read.
  pub image : Image
  pub safely : SafeRun SLOT_EXPONENT image input n
  -- Where the program has ended, within what its nodes and bytes pay for, the call ends so, and has written the same.
  pub ends : (m : ℕ) → let s = outcome SLOT_EXPONENT p input m in
      HasEnded s.ending → cost s.state ≤ n → (r.call.ended.ending ≡ told_as s.ending) × HasWritten r s.state.world.output
  -- Where the program goes on, or has left its objects, the call has written as much.
  pub goes_on : (m : ℕ) → let s = outcome SLOT_EXPONENT p input m in
      (HasEnded s.ending → ⊥) → cost s.state ≤ n → (out : List ℕ) × HasWritten r out × Begins out s.state.world.output
  -- As long as the program keeps its objects, the call has written no more, and ends only as the program does.
  pub no_more : let s = outcome SLOT_EXPONENT p input n in
      (IsOutside s.ending → ⊥) → (out : List ℕ) × HasWritten r out × Begins s.state.world.output out
  pub ends_only : let s = outcome SLOT_EXPONENT p input n in
      (IsOutside s.ending → ⊥) → (r.call.ended.ending ≡ OutOfSteps → ⊥) →
      (r.call.ended.ending ≡ told_as s.ending) × HasWritten r s.state.world.output
  -- The status is that of the ending, and its line was noted.
  pub status : r.call.ended.status ≡ status_of r.call.ended.ending
  pub noted : IsAppended (line_of r.call.ended.ending) r.call.notes.written r.call.notes'.written

-- It is kept for every text that is accepted with a program that is built, every input and every number of instructions.
abbrev pub Headline : Type 0
Headline = (text : List ℕ) (p : CProgram) (input : List ℕ) (n : ℕ) → Accepts text p → IsBuilt p → (r : RunOf text input n) → IsPromised p r
