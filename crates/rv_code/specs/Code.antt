-- The instructions' words: the listing of RV32IM.
-- RISC-V Unprivileged ISA, chapter "RV32/64G Instruction Set Listings", tables RV32I and RV32M.
use Rattle.std.specs.Prelude.{◌≡◌, ◌==◌, ℕ, Option, Some, None, if◌then◌else◌}
use Rattle.rv_code.specs.declared.instr.Instr.{Instr}
use Rattle.rv_code.specs.declared.instr.Instr.TheVariants.{Lui, Auipc, Jal, Jalr, Beq, Bne, Blt, Bge, Bltu, Bgeu, Lb, Lh, Lw, Lbu, Lhu, Sb, Sh, Sw}
use Rattle.rv_code.specs.declared.instr.Instr.TheVariants.{Addi, Slti, Sltiu, Xori, Ori, Andi, Slli, Srli, Srai, Add, Sub, Sll, Slt, Sltu, Xor, Srl}
use Rattle.rv_code.specs.declared.instr.Instr.TheVariants.{Sra, Or, And, Mul, Mulh, Mulhsu, Mulhu, Div, Divu, Rem, Remu, Fence, Ecall, Ebreak}
use Rattle.rv_code.specs.Formats.{Format, RType, IType, SType, BType, UType, JType, PlainType, format_word, FitsFormat, opcode_of, rd_of, funct3_of}
use Rattle.rv_code.specs.Formats.{rs1_of, rs2_of, funct7_of, funct12_of, i_immediate, s_immediate, b_immediate, u_immediate, j_immediate}

-- the format and the fields of each instruction
abbrev pub format_of : Instr → Format
format_of (Lui rd imm) = UType imm rd 0b0110111
format_of (Auipc rd imm) = UType imm rd 0b0010111
format_of (Jal rd imm) = JType imm rd 0b1101111
format_of (Jalr rd rs1 imm) = IType imm rs1 0b000 rd 0b1100111
format_of (Beq rs1 rs2 imm) = BType imm rs2 rs1 0b000 0b1100011
format_of (Bne rs1 rs2 imm) = BType imm rs2 rs1 0b001 0b1100011
format_of (Blt rs1 rs2 imm) = BType imm rs2 rs1 0b100 0b1100011
format_of (Bge rs1 rs2 imm) = BType imm rs2 rs1 0b101 0b1100011
format_of (Bltu rs1 rs2 imm) = BType imm rs2 rs1 0b110 0b1100011
format_of (Bgeu rs1 rs2 imm) = BType imm rs2 rs1 0b111 0b1100011
format_of (Lb rd rs1 imm) = IType imm rs1 0b000 rd 0b0000011
format_of (Lh rd rs1 imm) = IType imm rs1 0b001 rd 0b0000011
format_of (Lw rd rs1 imm) = IType imm rs1 0b010 rd 0b0000011
format_of (Lbu rd rs1 imm) = IType imm rs1 0b100 rd 0b0000011
format_of (Lhu rd rs1 imm) = IType imm rs1 0b101 rd 0b0000011
format_of (Sb rs1 rs2 imm) = SType imm rs2 rs1 0b000 0b0100011
format_of (Sh rs1 rs2 imm) = SType imm rs2 rs1 0b001 0b0100011
format_of (Sw rs1 rs2 imm) = SType imm rs2 rs1 0b010 0b0100011
format_of (Addi rd rs1 imm) = IType imm rs1 0b000 rd 0b0010011
format_of (Slti rd rs1 imm) = IType imm rs1 0b010 rd 0b0010011
format_of (Sltiu rd rs1 imm) = IType imm rs1 0b011 rd 0b0010011
format_of (Xori rd rs1 imm) = IType imm rs1 0b100 rd 0b0010011
format_of (Ori rd rs1 imm) = IType imm rs1 0b110 rd 0b0010011
format_of (Andi rd rs1 imm) = IType imm rs1 0b111 rd 0b0010011
format_of (Slli rd rs1 imm) = RType 0b0000000 imm rs1 0b001 rd 0b0010011
format_of (Srli rd rs1 imm) = RType 0b0000000 imm rs1 0b101 rd 0b0010011
format_of (Srai rd rs1 imm) = RType 0b0100000 imm rs1 0b101 rd 0b0010011
format_of (Add rd rs1 rs2) = RType 0b0000000 rs2 rs1 0b000 rd 0b0110011
format_of (Sub rd rs1 rs2) = RType 0b0100000 rs2 rs1 0b000 rd 0b0110011
format_of (Sll rd rs1 rs2) = RType 0b0000000 rs2 rs1 0b001 rd 0b0110011
format_of (Slt rd rs1 rs2) = RType 0b0000000 rs2 rs1 0b010 rd 0b0110011
format_of (Sltu rd rs1 rs2) = RType 0b0000000 rs2 rs1 0b011 rd 0b0110011
format_of (Xor rd rs1 rs2) = RType 0b0000000 rs2 rs1 0b100 rd 0b0110011
format_of (Srl rd rs1 rs2) = RType 0b0000000 rs2 rs1 0b101 rd 0b0110011
format_of (Sra rd rs1 rs2) = RType 0b0100000 rs2 rs1 0b101 rd 0b0110011
format_of (Or rd rs1 rs2) = RType 0b0000000 rs2 rs1 0b110 rd 0b0110011
format_of (And rd rs1 rs2) = RType 0b0000000 rs2 rs1 0b111 rd 0b0110011
format_of (Mul rd rs1 rs2) = RType 0b0000001 rs2 rs1 0b000 rd 0b0110011
format_of (Mulh rd rs1 rs2) = RType 0b0000001 rs2 rs1 0b001 rd 0b0110011
format_of (Mulhsu rd rs1 rs2) = RType 0b0000001 rs2 rs1 0b010 rd 0b0110011
format_of (Mulhu rd rs1 rs2) = RType 0b0000001 rs2 rs1 0b011 rd 0b0110011
format_of (Div rd rs1 rs2) = RType 0b0000001 rs2 rs1 0b100 rd 0b0110011
format_of (Divu rd rs1 rs2) = RType 0b0000001 rs2 rs1 0b101 rd 0b0110011
format_of (Rem rd rs1 rs2) = RType 0b0000001 rs2 rs1 0b110 rd 0b0110011
format_of (Remu rd rs1 rs2) = RType 0b0000001 rs2 rs1 0b111 rd 0b0110011
format_of (Fence rd rs1 imm) = PlainType imm rs1 0b000 rd 0b0001111
format_of Ecall = PlainType 0 0 0b000 0 0b1110011
format_of Ebreak = PlainType 1 0 0b000 0 0b1110011

-- an instruction's word
abbrev pub word_of : Instr → ℕ
word_of instr = format_word (format_of instr)

-- registers are below 32, and the immediate fits its field
abbrev pub Fits : Instr → Type 0
Fits instr = FitsFormat (format_of instr)

-- the word is that of the instruction, whose fields fit
abbrev pub Encodes : ℕ → Instr → Type 0
Encodes word instr = Fits instr × (word_of instr ≡ word)

-- the instruction of a word, by its opcode and its function fields
-- JALR
abbrev pub jalr_row : (funct3 rd rs1 imm : ℕ) → Option Instr
jalr_row funct3 rd rs1 imm =
    if funct3 == 0b000 then Some (Jalr rd rs1 imm)
    else None

-- BRANCH
abbrev pub branch_row : (funct3 rs1 rs2 imm : ℕ) → Option Instr
branch_row funct3 rs1 rs2 imm =
    if funct3 == 0b000 then Some (Beq rs1 rs2 imm)
    else if funct3 == 0b001 then Some (Bne rs1 rs2 imm)
    else if funct3 == 0b100 then Some (Blt rs1 rs2 imm)
    else if funct3 == 0b101 then Some (Bge rs1 rs2 imm)
    else if funct3 == 0b110 then Some (Bltu rs1 rs2 imm)
    else if funct3 == 0b111 then Some (Bgeu rs1 rs2 imm)
    else None

-- LOAD
abbrev pub load_row : (funct3 rd rs1 imm : ℕ) → Option Instr
load_row funct3 rd rs1 imm =
    if funct3 == 0b000 then Some (Lb rd rs1 imm)
    else if funct3 == 0b001 then Some (Lh rd rs1 imm)
    else if funct3 == 0b010 then Some (Lw rd rs1 imm)
    else if funct3 == 0b100 then Some (Lbu rd rs1 imm)
    else if funct3 == 0b101 then Some (Lhu rd rs1 imm)
    else None

-- STORE
abbrev pub store_row : (funct3 rs1 rs2 imm : ℕ) → Option Instr
store_row funct3 rs1 rs2 imm =
    if funct3 == 0b000 then Some (Sb rs1 rs2 imm)
    else if funct3 == 0b001 then Some (Sh rs1 rs2 imm)
    else if funct3 == 0b010 then Some (Sw rs1 rs2 imm)
    else None

-- OP-IMM: shifts by a constant have bits 31 to 25 as a function field
abbrev pub left_shift_row : (funct7 rd rs1 imm : ℕ) → Option Instr
left_shift_row funct7 rd rs1 imm =
    if funct7 == 0b0000000 then Some (Slli rd rs1 imm)
    else None

abbrev pub right_shift_row : (funct7 rd rs1 imm : ℕ) → Option Instr
right_shift_row funct7 rd rs1 imm =
    if funct7 == 0b0000000 then Some (Srli rd rs1 imm)
    else if funct7 == 0b0100000 then Some (Srai rd rs1 imm)
    else None

abbrev pub op_imm_row : (funct7 funct3 rd rs1 shift imm : ℕ) → Option Instr
op_imm_row funct7 funct3 rd rs1 shift imm =
    if funct3 == 0b000 then Some (Addi rd rs1 imm)
    else if funct3 == 0b001 then left_shift_row funct7 rd rs1 shift
    else if funct3 == 0b010 then Some (Slti rd rs1 imm)
    else if funct3 == 0b011 then Some (Sltiu rd rs1 imm)
    else if funct3 == 0b100 then Some (Xori rd rs1 imm)
    else if funct3 == 0b101 then right_shift_row funct7 rd rs1 shift
    else if funct3 == 0b110 then Some (Ori rd rs1 imm)
    else if funct3 == 0b111 then Some (Andi rd rs1 imm)
    else None

-- OP with funct7 0000000
abbrev pub base_row : (funct3 rd rs1 rs2 : ℕ) → Option Instr
base_row funct3 rd rs1 rs2 =
    if funct3 == 0b000 then Some (Add rd rs1 rs2)
    else if funct3 == 0b001 then Some (Sll rd rs1 rs2)
    else if funct3 == 0b010 then Some (Slt rd rs1 rs2)
    else if funct3 == 0b011 then Some (Sltu rd rs1 rs2)
    else if funct3 == 0b100 then Some (Xor rd rs1 rs2)
    else if funct3 == 0b101 then Some (Srl rd rs1 rs2)
    else if funct3 == 0b110 then Some (Or rd rs1 rs2)
    else if funct3 == 0b111 then Some (And rd rs1 rs2)
    else None

-- OP with funct7 0100000
abbrev pub alternate_row : (funct3 rd rs1 rs2 : ℕ) → Option Instr
alternate_row funct3 rd rs1 rs2 =
    if funct3 == 0b000 then Some (Sub rd rs1 rs2)
    else if funct3 == 0b101 then Some (Sra rd rs1 rs2)
    else None

-- OP with funct7 0000001, the extension M
abbrev pub extension_m_row : (funct3 rd rs1 rs2 : ℕ) → Option Instr
extension_m_row funct3 rd rs1 rs2 =
    if funct3 == 0b000 then Some (Mul rd rs1 rs2)
    else if funct3 == 0b001 then Some (Mulh rd rs1 rs2)
    else if funct3 == 0b010 then Some (Mulhsu rd rs1 rs2)
    else if funct3 == 0b011 then Some (Mulhu rd rs1 rs2)
    else if funct3 == 0b100 then Some (Div rd rs1 rs2)
    else if funct3 == 0b101 then Some (Divu rd rs1 rs2)
    else if funct3 == 0b110 then Some (Rem rd rs1 rs2)
    else if funct3 == 0b111 then Some (Remu rd rs1 rs2)
    else None

-- OP
abbrev pub op_row : (funct7 funct3 rd rs1 rs2 : ℕ) → Option Instr
op_row funct7 funct3 rd rs1 rs2 =
    if funct7 == 0b0000000 then base_row funct3 rd rs1 rs2
    else if funct7 == 0b0000001 then extension_m_row funct3 rd rs1 rs2
    else if funct7 == 0b0100000 then alternate_row funct3 rd rs1 rs2
    else None

-- MISC-MEM
abbrev pub fence_row : (funct3 rd rs1 imm : ℕ) → Option Instr
fence_row funct3 rd rs1 imm =
    if funct3 == 0b000 then Some (Fence rd rs1 imm)
    else None

-- SYSTEM
abbrev pub system_row : ℕ → Option Instr
system_row word =
    if word == 0x0000_0073 then Some Ecall
    else if word == 0x0010_0073 then Some Ebreak
    else None

-- the row of an opcode, at a word
abbrev pub row_of : (opcode word : ℕ) → Option Instr
row_of opcode word =
    if opcode == 0b0110111 then Some (Lui (rd_of word) (u_immediate word))
    else if opcode == 0b0010111 then Some (Auipc (rd_of word) (u_immediate word))
    else if opcode == 0b1101111 then Some (Jal (rd_of word) (j_immediate word))
    else if opcode == 0b1100111 then jalr_row (funct3_of word) (rd_of word) (rs1_of word) (i_immediate word)
    else if opcode == 0b1100011 then branch_row (funct3_of word) (rs1_of word) (rs2_of word) (b_immediate word)
    else if opcode == 0b0000011 then load_row (funct3_of word) (rd_of word) (rs1_of word) (i_immediate word)
    else if opcode == 0b0100011 then store_row (funct3_of word) (rs1_of word) (rs2_of word) (s_immediate word)
    else if opcode == 0b0010011 then op_imm_row (funct7_of word) (funct3_of word) (rd_of word) (rs1_of word) (rs2_of word) (i_immediate word)
    else if opcode == 0b0110011 then op_row (funct7_of word) (funct3_of word) (rd_of word) (rs1_of word) (rs2_of word)
    else if opcode == 0b0001111 then fence_row (funct3_of word) (rd_of word) (rs1_of word) (funct12_of word)
    else if opcode == 0b1110011 then system_row word
    else None

-- the instruction of a word; none where no row has it
unfoldable pub instruction_of : ℕ → Option Instr
instruction_of word = row_of (opcode_of word) word
