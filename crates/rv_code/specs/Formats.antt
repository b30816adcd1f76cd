-- The formats of instruction words.
-- RISC-V Unprivileged ISA, chapter "RV32I": base instruction formats, immediate encoding variants.
use Rattle.std.specs.Prelude.{◌≡◌, ℕ, ◌+◌, ◌*◌, ◌%◌, ◌^◌, ◌<◌}
use Rattle.rv_code.specs.Bits.{bits, bit, extended, IsSigned}

-- what a word of each format is made of, in the manual's order, from bit 31 down
pub data Format : Type 0 where
  RType : (funct7 rs2 rs1 funct3 rd opcode : ℕ) → Format
  IType : (imm rs1 funct3 rd opcode : ℕ) → Format
  SType : (imm rs2 rs1 funct3 opcode : ℕ) → Format
  BType : (imm rs2 rs1 funct3 opcode : ℕ) → Format
  UType : (imm rd opcode : ℕ) → Format
  JType : (imm rd opcode : ℕ) → Format
  -- the I format with 12 bits that are no number
  PlainType : (funct12 rs1 funct3 rd opcode : ℕ) → Format

-- the word of a format's fields
abbrev pub format_word : Format → ℕ
format_word (RType funct7 rs2 rs1 funct3 rd opcode) =
    funct7 * 2 ^ 25 + rs2 * 2 ^ 20 + rs1 * 2 ^ 15 + funct3 * 2 ^ 12 + rd * 2 ^ 7 + opcode
format_word (IType imm rs1 funct3 rd opcode) =
    bits imm 11 0 * 2 ^ 20 + rs1 * 2 ^ 15 + funct3 * 2 ^ 12 + rd * 2 ^ 7 + opcode
format_word (SType imm rs2 rs1 funct3 opcode) =
    bits imm 11 5 * 2 ^ 25 + rs2 * 2 ^ 20 + rs1 * 2 ^ 15 + funct3 * 2 ^ 12
    + bits imm 4 0 * 2 ^ 7 + opcode
format_word (BType imm rs2 rs1 funct3 opcode) =
    bit imm 12 * 2 ^ 31 + bits imm 10 5 * 2 ^ 25 + rs2 * 2 ^ 20 + rs1 * 2 ^ 15 + funct3 * 2 ^ 12
    + bits imm 4 1 * 2 ^ 8 + bit imm 11 * 2 ^ 7 + opcode
format_word (UType imm rd opcode) =
    bits imm 31 12 * 2 ^ 12 + rd * 2 ^ 7 + opcode
format_word (JType imm rd opcode) =
    bit imm 20 * 2 ^ 31 + bits imm 10 1 * 2 ^ 21 + bit imm 11 * 2 ^ 20 + bits imm 19 12 * 2 ^ 12
    + rd * 2 ^ 7 + opcode
format_word (PlainType funct12 rs1 funct3 rd opcode) =
    funct12 * 2 ^ 20 + rs1 * 2 ^ 15 + funct3 * 2 ^ 12 + rd * 2 ^ 7 + opcode

abbrev pub IsRegister : ℕ → Type 0
IsRegister r = r < 32

-- the registers and the immediate of a format fit its fields
abbrev pub FitsFormat : Format → Type 0
FitsFormat (RType funct7 rs2 rs1 funct3 rd opcode) = IsRegister rs2 × IsRegister rs1 × IsRegister rd
FitsFormat (IType imm rs1 funct3 rd opcode) = IsSigned 12 imm × IsRegister rs1 × IsRegister rd
FitsFormat (SType imm rs2 rs1 funct3 opcode) = IsSigned 12 imm × IsRegister rs2 × IsRegister rs1
FitsFormat (BType imm rs2 rs1 funct3 opcode) =
    IsSigned 13 imm × (imm % 2 ≡ 0) × IsRegister rs2 × IsRegister rs1
FitsFormat (UType imm rd opcode) = (imm < 2 ^ 32) × (imm % 2 ^ 12 ≡ 0) × IsRegister rd
FitsFormat (JType imm rd opcode) = IsSigned 21 imm × (imm % 2 ≡ 0) × IsRegister rd
FitsFormat (PlainType funct12 rs1 funct3 rd opcode) =
    (funct12 < 2 ^ 12) × IsRegister rs1 × IsRegister rd

-- the fields of a word
abbrev pub opcode_of : ℕ → ℕ
opcode_of word = bits word 6 0

abbrev pub rd_of : ℕ → ℕ
rd_of word = bits word 11 7

abbrev pub funct3_of : ℕ → ℕ
funct3_of word = bits word 14 12

abbrev pub rs1_of : ℕ → ℕ
rs1_of word = bits word 19 15

abbrev pub rs2_of : ℕ → ℕ
rs2_of word = bits word 24 20

abbrev pub funct7_of : ℕ → ℕ
funct7_of word = bits word 31 25

abbrev pub funct12_of : ℕ → ℕ
funct12_of word = bits word 31 20

-- the immediate of a word, in each format
abbrev pub i_immediate : ℕ → ℕ
i_immediate word = extended 12 (bits word 31 20)

abbrev pub s_immediate : ℕ → ℕ
s_immediate word = extended 12 (bits word 31 25 * 2 ^ 5 + bits word 11 7)

abbrev pub b_immediate : ℕ → ℕ
b_immediate word =
    extended 13 (bit word 31 * 2 ^ 12 + bit word 7 * 2 ^ 11 + bits word 30 25 * 2 ^ 5
    + bits word 11 8 * 2)

abbrev pub u_immediate : ℕ → ℕ
u_immediate word = bits word 31 12 * 2 ^ 12

abbrev pub j_immediate : ℕ → ℕ
j_immediate word =
    extended 21 (bit word 31 * 2 ^ 20 + bits word 19 12 * 2 ^ 12 + bit word 20 * 2 ^ 11
    + bits word 30 21 * 2)
