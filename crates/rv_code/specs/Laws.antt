-- The laws of words and instructions.
use Rattle.std.specs.Prelude.{◌≡◌, ℕ, ◌^◌, ◌<◌, Some}
use Rattle.rv_code.specs.declared.instr.Instr.{Instr}
use Rattle.rv_code.specs.Code.{Fits, Encodes, word_of, instruction_of}

-- the word of an instruction whose fields fit is read as that instruction
abbrev pub ReadsBack : Type 0
ReadsBack = (instr : Instr) → Fits instr → instruction_of (word_of instr) ≡ Some instr

-- a word that is read as an instruction is the word of that instruction, whose fields fit
abbrev pub ReadsOnly : Type 0
ReadsOnly = (word : ℕ) (instr : Instr) → word < 2 ^ 32 → instruction_of word ≡ Some instr → Encodes word instr
