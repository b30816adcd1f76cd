-- An instruction's word is read as that instruction.
use Rattle.std.proofs.Common.{◌≡◌, ℕ, ◌<◌, arith, refl, ap, ◌∙◌, Option, Some}
use Rattle.rv_code.specs.declared.instr.Instr.{Instr}
use Rattle.rv_code.specs.declared.instr.Instr.TheVariants.{Lui, Auipc, Jal, Jalr, Beq, Bne, Blt, Bge, Bltu, Bgeu, Lb, Lh, Lw, Lbu, Lhu, Sb, Sh, Sw, Addi, Slti, Sltiu, Xori, Ori, Andi, Slli, Srli, Srai, Add, Sub, Sll, Slt, Sltu, Xor, Srl, Sra, Or, And, Mul, Mulh, Mulhsu, Mulhu, Div, Divu, Rem, Remu, Fence, Ecall, Ebreak}
use Rattle.rv_code.specs.Bits.{bits}
use Rattle.rv_code.specs.Formats.{RType, IType, SType, BType, UType, JType, PlainType, format_word, FitsFormat, opcode_of, rd_of, funct3_of, rs1_of, rs2_of, funct7_of, i_immediate}
use Rattle.rv_code.specs.Code.{word_of, Fits, jalr_row, branch_row, load_row, store_row, op_imm_row, op_row, fence_row, row_of, instruction_of}
use Rattle.rv_code.proofs.Words.{r_fields, plain_fields, i_immediate_is, s_fields, b_fields, u_fields, j_fields}

at_opcode : (word opcode : ℕ) → opcode_of word ≡ opcode → instruction_of word ≡ row_of opcode word
unfolding instruction_of
at_opcode word opcode e = ap (λ n. row_of n word) e

-- a row depends on its fields alone
row_2 : (row : ℕ → ℕ → Option Instr) (a b a' b' : ℕ) → a ≡ a' → b ≡ b' → row a b ≡ row a' b'
row_2 row a b a' b' p q = cc

row_4 : (row : ℕ → ℕ → ℕ → ℕ → Option Instr) (a b c d a' b' c' d' : ℕ) → a ≡ a' → b ≡ b' → c ≡ c' → d ≡ d' → row a b c d ≡ row a' b' c' d'
row_4 row a b c d a' b' c' d' p q r s = cc

row_5 : (row : ℕ → ℕ → ℕ → ℕ → ℕ → Option Instr) (a b c d e a' b' c' d' e' : ℕ) → a ≡ a' → b ≡ b' → c ≡ c' → d ≡ d' → e ≡ e' → row a b c d e ≡ row a' b' c' d' e'
row_5 row a b c d e a' b' c' d' e' p q r s t = cc

-- the row of a word of each format

r_read : (opcode : ℕ) (row : ℕ → ℕ → ℕ → ℕ → ℕ → ℕ → Option Instr) → ((word : ℕ) → row_of opcode word ≡ row word (funct7_of word) (funct3_of word) (rd_of word) (rs1_of word) (rs2_of word)) → opcode < 128 → (funct7 rs2 rs1 funct3 rd : ℕ) → funct7 < 128 → funct3 < 8 → FitsFormat (RType funct7 rs2 rs1 funct3 rd opcode) → let word = format_word (RType funct7 rs2 rs1 funct3 rd opcode) in instruction_of word ≡ row word funct7 funct3 rd rs1 rs2
r_read opcode row is_row h funct7 rs2 rs1 funct3 rd h7 h3 fits =
    let word = format_word (RType funct7 rs2 rs1 funct3 rd opcode) in
    let fields = r_fields funct7 rs2 rs1 funct3 rd opcode h7 fits.0 fits.1 h3 fits.2 h in
    at_opcode word opcode fields.opcode_is ∙ is_row word ∙ row_5 (row word) _ _ _ _ _ _ _ _ _ _ fields.funct7_is fields.funct3_is fields.rd_is fields.rs1_is fields.rs2_is

i_read : (opcode : ℕ) (row : ℕ → ℕ → ℕ → ℕ → ℕ → Option Instr) → ((word : ℕ) → row_of opcode word ≡ row word (funct3_of word) (rd_of word) (rs1_of word) (i_immediate word)) → opcode < 128 → (imm rs1 funct3 rd : ℕ) → funct3 < 8 → FitsFormat (IType imm rs1 funct3 rd opcode) → let word = format_word (IType imm rs1 funct3 rd opcode) in instruction_of word ≡ row word funct3 rd rs1 imm
i_read opcode row is_row h imm rs1 funct3 rd h3 fits =
    let word = format_word (IType imm rs1 funct3 rd opcode) in
    let fields = plain_fields (bits imm 11 0) rs1 funct3 rd opcode (omega arith) fits.1 h3 fits.2 h in
    at_opcode word opcode fields.opcode_is ∙ is_row word ∙ row_4 (row word) _ _ _ _ _ _ _ _ fields.funct3_is fields.rd_is fields.rs1_is (i_immediate_is imm rs1 funct3 rd opcode fits.0 fits.1 h3 fits.2 h)

store_read : (imm rs2 rs1 funct3 : ℕ) → funct3 < 8 → FitsFormat (SType imm rs2 rs1 funct3 0b0100011) → instruction_of (format_word (SType imm rs2 rs1 funct3 0b0100011)) ≡ store_row funct3 rs1 rs2 imm
store_read imm rs2 rs1 funct3 h3 fits =
    let fields = s_fields imm rs2 rs1 funct3 0b0100011 fits.0 fits.1 fits.2 h3 (omega arith) in
    at_opcode _ 0b0100011 fields.opcode_is ∙ row_4 store_row _ _ _ _ _ _ _ _ fields.funct3_is fields.rs1_is fields.rs2_is fields.imm_is

branch_read : (imm rs2 rs1 funct3 : ℕ) → funct3 < 8 → FitsFormat (BType imm rs2 rs1 funct3 0b1100011) → instruction_of (format_word (BType imm rs2 rs1 funct3 0b1100011)) ≡ branch_row funct3 rs1 rs2 imm
branch_read imm rs2 rs1 funct3 h3 fits =
    let fields = b_fields imm rs2 rs1 funct3 0b1100011 fits.0 fits.1 fits.2 fits.3 h3 (omega arith) in
    at_opcode _ 0b1100011 fields.opcode_is ∙ row_4 branch_row _ _ _ _ _ _ _ _ fields.funct3_is fields.rs1_is fields.rs2_is fields.imm_is

fence_read : (imm rs1 rd : ℕ) → FitsFormat (PlainType imm rs1 0 rd 0b0001111) → instruction_of (format_word (PlainType imm rs1 0 rd 0b0001111)) ≡ Some (Fence rd rs1 imm)
fence_read imm rs1 rd fits =
    let fields = plain_fields imm rs1 0 rd 0b0001111 fits.0 fits.1 (omega arith) fits.2 (omega arith) in
    at_opcode _ 0b0001111 fields.opcode_is ∙ row_4 fence_row _ _ _ _ _ _ _ _ fields.funct3_is fields.rd_is fields.rs1_is fields.funct12_is

-- the rows by opcode

load_read : (imm rs1 funct3 rd : ℕ) → funct3 < 8 → FitsFormat (IType imm rs1 funct3 rd 0b0000011) → instruction_of (format_word (IType imm rs1 funct3 rd 0b0000011)) ≡ load_row funct3 rd rs1 imm
load_read = i_read 0b0000011 (λ word. load_row) (λ word. refl) (omega arith)

jalr_read : (imm rs1 funct3 rd : ℕ) → funct3 < 8 → FitsFormat (IType imm rs1 funct3 rd 0b1100111) → instruction_of (format_word (IType imm rs1 funct3 rd 0b1100111)) ≡ jalr_row funct3 rd rs1 imm
jalr_read = i_read 0b1100111 (λ word. jalr_row) (λ word. refl) (omega arith)

imm_read : (imm rs1 funct3 rd : ℕ) → funct3 < 8 → FitsFormat (IType imm rs1 funct3 rd 0b0010011) → let word = format_word (IType imm rs1 funct3 rd 0b0010011) in instruction_of word ≡ op_imm_row (funct7_of word) funct3 rd rs1 (rs2_of word) imm
imm_read = i_read 0b0010011 (λ word funct3 rd rs1 imm. op_imm_row (funct7_of word) funct3 rd rs1 (rs2_of word) imm) (λ word. refl) (omega arith)

shift_read : (funct7 rs2 rs1 funct3 rd : ℕ) → funct7 < 128 → funct3 < 8 → FitsFormat (RType funct7 rs2 rs1 funct3 rd 0b0010011) → let word = format_word (RType funct7 rs2 rs1 funct3 rd 0b0010011) in instruction_of word ≡ op_imm_row funct7 funct3 rd rs1 rs2 (i_immediate word)
shift_read = r_read 0b0010011 (λ word funct7 funct3 rd rs1 rs2. op_imm_row funct7 funct3 rd rs1 rs2 (i_immediate word)) (λ word. refl) (omega arith)

op_read : (funct7 rs2 rs1 funct3 rd : ℕ) → funct7 < 128 → funct3 < 8 → FitsFormat (RType funct7 rs2 rs1 funct3 rd 0b0110011) → instruction_of (format_word (RType funct7 rs2 rs1 funct3 rd 0b0110011)) ≡ op_row funct7 funct3 rd rs1 rs2
op_read = r_read 0b0110011 (λ word. op_row) (λ word. refl) (omega arith)

lui_read : (imm rd : ℕ) → FitsFormat (UType imm rd 0b0110111) → instruction_of (format_word (UType imm rd 0b0110111)) ≡ Some (Lui rd imm)
lui_read imm rd fits =
    let fields = u_fields imm rd 0b0110111 fits.0 fits.1 fits.2 (omega arith) in
    at_opcode _ 0b0110111 fields.opcode_is ∙ row_2 (λ rd imm. Some (Lui rd imm)) _ _ _ _ fields.rd_is fields.imm_is

auipc_read : (imm rd : ℕ) → FitsFormat (UType imm rd 0b0010111) → instruction_of (format_word (UType imm rd 0b0010111)) ≡ Some (Auipc rd imm)
auipc_read imm rd fits =
    let fields = u_fields imm rd 0b0010111 fits.0 fits.1 fits.2 (omega arith) in
    at_opcode _ 0b0010111 fields.opcode_is ∙ row_2 (λ rd imm. Some (Auipc rd imm)) _ _ _ _ fields.rd_is fields.imm_is

jal_read : (imm rd : ℕ) → FitsFormat (JType imm rd 0b1101111) → instruction_of (format_word (JType imm rd 0b1101111)) ≡ Some (Jal rd imm)
jal_read imm rd fits =
    let fields = j_fields imm rd 0b1101111 fits.0 fits.1 fits.2 (omega arith) in
    at_opcode _ 0b1101111 fields.opcode_is ∙ row_2 (λ rd imm. Some (Jal rd imm)) _ _ _ _ fields.rd_is fields.imm_is

pub read_back : (instr : Instr) → Fits instr → instruction_of (word_of instr) ≡ Some instr
read_back (Lui rd imm) fits = lui_read imm rd fits
read_back (Auipc rd imm) fits = auipc_read imm rd fits
read_back (Jal rd imm) fits = jal_read imm rd fits
read_back (Jalr rd rs1 imm) fits = jalr_read imm rs1 0 rd (omega arith) fits
read_back (Beq rs1 rs2 imm) fits = branch_read imm rs2 rs1 0b000 (omega arith) fits
read_back (Bne rs1 rs2 imm) fits = branch_read imm rs2 rs1 0b001 (omega arith) fits
read_back (Blt rs1 rs2 imm) fits = branch_read imm rs2 rs1 0b100 (omega arith) fits
read_back (Bge rs1 rs2 imm) fits = branch_read imm rs2 rs1 0b101 (omega arith) fits
read_back (Bltu rs1 rs2 imm) fits = branch_read imm rs2 rs1 0b110 (omega arith) fits
read_back (Bgeu rs1 rs2 imm) fits = branch_read imm rs2 rs1 0b111 (omega arith) fits
read_back (Lb rd rs1 imm) fits = load_read imm rs1 0b000 rd (omega arith) fits
read_back (Lh rd rs1 imm) fits = load_read imm rs1 0b001 rd (omega arith) fits
read_back (Lw rd rs1 imm) fits = load_read imm rs1 0b010 rd (omega arith) fits
read_back (Lbu rd rs1 imm) fits = load_read imm rs1 0b100 rd (omega arith) fits
read_back (Lhu rd rs1 imm) fits = load_read imm rs1 0b101 rd (omega arith) fits
read_back (Sb rs1 rs2 imm) fits = store_read imm rs2 rs1 0b000 (omega arith) fits
read_back (Sh rs1 rs2 imm) fits = store_read imm rs2 rs1 0b001 (omega arith) fits
read_back (Sw rs1 rs2 imm) fits = store_read imm rs2 rs1 0b010 (omega arith) fits
read_back (Addi rd rs1 imm) fits = imm_read imm rs1 0b000 rd (omega arith) fits
read_back (Slti rd rs1 imm) fits = imm_read imm rs1 0b010 rd (omega arith) fits
read_back (Sltiu rd rs1 imm) fits = imm_read imm rs1 0b011 rd (omega arith) fits
read_back (Xori rd rs1 imm) fits = imm_read imm rs1 0b100 rd (omega arith) fits
read_back (Ori rd rs1 imm) fits = imm_read imm rs1 0b110 rd (omega arith) fits
read_back (Andi rd rs1 imm) fits = imm_read imm rs1 0b111 rd (omega arith) fits
read_back (Slli rd rs1 imm) fits = shift_read 0b0000000 imm rs1 0b001 rd (omega arith) (omega arith) fits
read_back (Srli rd rs1 imm) fits = shift_read 0b0000000 imm rs1 0b101 rd (omega arith) (omega arith) fits
read_back (Srai rd rs1 imm) fits = shift_read 0b0100000 imm rs1 0b101 rd (omega arith) (omega arith) fits
read_back (Add rd rs1 rs2) fits = op_read 0b0000000 rs2 rs1 0b000 rd (omega arith) (omega arith) fits
read_back (Sub rd rs1 rs2) fits = op_read 0b0100000 rs2 rs1 0b000 rd (omega arith) (omega arith) fits
read_back (Sll rd rs1 rs2) fits = op_read 0b0000000 rs2 rs1 0b001 rd (omega arith) (omega arith) fits
read_back (Slt rd rs1 rs2) fits = op_read 0b0000000 rs2 rs1 0b010 rd (omega arith) (omega arith) fits
read_back (Sltu rd rs1 rs2) fits = op_read 0b0000000 rs2 rs1 0b011 rd (omega arith) (omega arith) fits
read_back (Xor rd rs1 rs2) fits = op_read 0b0000000 rs2 rs1 0b100 rd (omega arith) (omega arith) fits
read_back (Srl rd rs1 rs2) fits = op_read 0b0000000 rs2 rs1 0b101 rd (omega arith) (omega arith) fits
read_back (Sra rd rs1 rs2) fits = op_read 0b0100000 rs2 rs1 0b101 rd (omega arith) (omega arith) fits
read_back (Or rd rs1 rs2) fits = op_read 0b0000000 rs2 rs1 0b110 rd (omega arith) (omega arith) fits
read_back (And rd rs1 rs2) fits = op_read 0b0000000 rs2 rs1 0b111 rd (omega arith) (omega arith) fits
read_back (Mul rd rs1 rs2) fits = op_read 0b0000001 rs2 rs1 0b000 rd (omega arith) (omega arith) fits
read_back (Mulh rd rs1 rs2) fits = op_read 0b0000001 rs2 rs1 0b001 rd (omega arith) (omega arith) fits
read_back (Mulhsu rd rs1 rs2) fits = op_read 0b0000001 rs2 rs1 0b010 rd (omega arith) (omega arith) fits
read_back (Mulhu rd rs1 rs2) fits = op_read 0b0000001 rs2 rs1 0b011 rd (omega arith) (omega arith) fits
read_back (Div rd rs1 rs2) fits = op_read 0b0000001 rs2 rs1 0b100 rd (omega arith) (omega arith) fits
read_back (Divu rd rs1 rs2) fits = op_read 0b0000001 rs2 rs1 0b101 rd (omega arith) (omega arith) fits
read_back (Rem rd rs1 rs2) fits = op_read 0b0000001 rs2 rs1 0b110 rd (omega arith) (omega arith) fits
read_back (Remu rd rs1 rs2) fits = op_read 0b0000001 rs2 rs1 0b111 rd (omega arith) (omega arith) fits
read_back (Fence rd rs1 imm) fits = fence_read imm rs1 rd fits
read_back Ecall fits = at_opcode 0x0000_0073 0b1110011 refl
read_back Ebreak fits = at_opcode 0x0010_0073 0b1110011 refl
