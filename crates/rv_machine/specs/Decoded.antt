-- Instructions of the text that are decoded before they are executed.
use Rattle.std.specs.Prelude.{◌≡◌, ℕ, ◌+◌, ◌*◌, ◌<◌, ◌≤◌, List, length, get_or}
use Rattle.rv_code.specs.Code.{Fits, instruction_of}
use Rattle.rv_code.specs.declared.instr.Instr.{Instr}
use Rattle.rv_machine.specs.Instruction.{Goes, effect, effect_of}
use Rattle.rv_machine.specs.State.{Core}
use Rattle.size_table.specs.declared.memory_map.TheConstants.{TEXT_START}
use Rattle.size_table.specs.Memory.{word_at}

-- What the instruction leads to, the word leads to. Where the word is that of no instruction, this is one that leads nowhere.
pub record IsDecoded (word : ℕ) (instr : Instr) : Type 0 where
  pub fits : Fits instr
  pub does : (c d : Core) → effect instr c ≡ Goes d → effect_of (instruction_of word) c ≡ Goes d

-- the instructions of the words of the text, in order, which lie below the size table
pub record AreDecoded (text : List Instr) (memory : List ℕ) : Type 0 where
  pub within : 4 * length text ≤ 2093056
  pub each : (k : ℕ) (other : Instr) → k < length text → IsDecoded (word_at memory (TEXT_START + 4 * k)) (get_or text k other)
