-- Each word that is read is the word of what is read.
use Rattle.std.proofs.Common.{◌≡◌, ℕ, ◌^◌, ◌<◌, arith, refl, Bool, true, false, cond, Option, Some, None}
use Rattle.std.proofs.lemmas.Bool.{eqb-true}
use Rattle.std.specs.Prelude.{IfSome, ◌==◌, if◌then◌else◌}
use Rattle.rv_code.specs.declared.instr.Instr.{Instr}
use Rattle.rv_code.specs.Formats.{opcode_of, rd_of, funct3_of, rs1_of, rs2_of, funct7_of, funct12_of, i_immediate, s_immediate, b_immediate}
use Rattle.rv_code.specs.Code.{Encodes, jalr_row, branch_row, load_row, store_row, left_shift_row, right_shift_row, op_imm_row, base_row, extension_m_row, alternate_row, op_row, fence_row, system_row, row_of, instruction_of}
use Rattle.rv_code.proofs.Words.{r_makes, plain_makes, i_makes, s_makes, b_makes, u_makes, j_makes}

-- what is read of a word, if anything is, has that word
record Reads (word : ℕ) (read : Option Instr) : Type 0 where
  is_word : IfSome read (Encodes word)

by_answer : (word : ℕ) (test : Bool) (x y : Option Instr) → (test ≡ true → Reads word x) → Reads word y → Reads word (cond test x y)
by_answer word true x y here rest = here refl
by_answer word false x y here rest = rest

-- a test of a row
by_test : (word a b : ℕ) (x y : Option Instr) → (a ≡ b → Reads word x) → Reads word y → Reads word (if a == b then x else y)
by_test word a b x y here rest = by_answer word (a == b) x y (λ e. here (eqb-true a b e)) rest

no_row : (word : ℕ) → Reads word None
no_row word = record { is_word = tt }

the_row : (word : ℕ) (instr : Instr) → Encodes word instr → Reads word (Some instr)
the_row word instr encodes = record { is_word = encodes }

jalr_reads : (word : ℕ) → word < 2 ^ 32 → opcode_of word ≡ 0b1100111 → Reads word (jalr_row (funct3_of word) (rd_of word) (rs1_of word) (i_immediate word))
jalr_reads word small at =
    by_test word (funct3_of word) 0b000 _ _ (λ e. the_row word _ (i_makes word 0b000 0b1100111 small at e)) (
    no_row word)

branch_reads : (word : ℕ) → word < 2 ^ 32 → opcode_of word ≡ 0b1100011 → Reads word (branch_row (funct3_of word) (rs1_of word) (rs2_of word) (b_immediate word))
branch_reads word small at =
    by_test word (funct3_of word) 0b000 _ _ (λ e. the_row word _ (b_makes word 0b000 0b1100011 small at e)) (
    by_test word (funct3_of word) 0b001 _ _ (λ e. the_row word _ (b_makes word 0b001 0b1100011 small at e)) (
    by_test word (funct3_of word) 0b100 _ _ (λ e. the_row word _ (b_makes word 0b100 0b1100011 small at e)) (
    by_test word (funct3_of word) 0b101 _ _ (λ e. the_row word _ (b_makes word 0b101 0b1100011 small at e)) (
    by_test word (funct3_of word) 0b110 _ _ (λ e. the_row word _ (b_makes word 0b110 0b1100011 small at e)) (
    by_test word (funct3_of word) 0b111 _ _ (λ e. the_row word _ (b_makes word 0b111 0b1100011 small at e)) (
    no_row word))))))

load_reads : (word : ℕ) → word < 2 ^ 32 → opcode_of word ≡ 0b0000011 → Reads word (load_row (funct3_of word) (rd_of word) (rs1_of word) (i_immediate word))
load_reads word small at =
    by_test word (funct3_of word) 0b000 _ _ (λ e. the_row word _ (i_makes word 0b000 0b0000011 small at e)) (
    by_test word (funct3_of word) 0b001 _ _ (λ e. the_row word _ (i_makes word 0b001 0b0000011 small at e)) (
    by_test word (funct3_of word) 0b010 _ _ (λ e. the_row word _ (i_makes word 0b010 0b0000011 small at e)) (
    by_test word (funct3_of word) 0b100 _ _ (λ e. the_row word _ (i_makes word 0b100 0b0000011 small at e)) (
    by_test word (funct3_of word) 0b101 _ _ (λ e. the_row word _ (i_makes word 0b101 0b0000011 small at e)) (
    no_row word)))))

store_reads : (word : ℕ) → word < 2 ^ 32 → opcode_of word ≡ 0b0100011 → Reads word (store_row (funct3_of word) (rs1_of word) (rs2_of word) (s_immediate word))
store_reads word small at =
    by_test word (funct3_of word) 0b000 _ _ (λ e. the_row word _ (s_makes word 0b000 0b0100011 small at e)) (
    by_test word (funct3_of word) 0b001 _ _ (λ e. the_row word _ (s_makes word 0b001 0b0100011 small at e)) (
    by_test word (funct3_of word) 0b010 _ _ (λ e. the_row word _ (s_makes word 0b010 0b0100011 small at e)) (
    no_row word)))

left_shift_reads : (word : ℕ) → word < 2 ^ 32 → opcode_of word ≡ 0b0010011 → funct3_of word ≡ 0b001 → Reads word (left_shift_row (funct7_of word) (rd_of word) (rs1_of word) (rs2_of word))
left_shift_reads word small at at3 =
    by_test word (funct7_of word) 0b0000000 _ _ (λ e. the_row word _ (r_makes word 0b0000000 0b001 0b0010011 small at at3 e)) (
    no_row word)

right_shift_reads : (word : ℕ) → word < 2 ^ 32 → opcode_of word ≡ 0b0010011 → funct3_of word ≡ 0b101 → Reads word (right_shift_row (funct7_of word) (rd_of word) (rs1_of word) (rs2_of word))
right_shift_reads word small at at3 =
    by_test word (funct7_of word) 0b0000000 _ _ (λ e. the_row word _ (r_makes word 0b0000000 0b101 0b0010011 small at at3 e)) (
    by_test word (funct7_of word) 0b0100000 _ _ (λ e. the_row word _ (r_makes word 0b0100000 0b101 0b0010011 small at at3 e)) (
    no_row word))

op_imm_reads : (word : ℕ) → word < 2 ^ 32 → opcode_of word ≡ 0b0010011 → Reads word (op_imm_row (funct7_of word) (funct3_of word) (rd_of word) (rs1_of word) (rs2_of word) (i_immediate word))
op_imm_reads word small at =
    by_test word (funct3_of word) 0b000 _ _ (λ e. the_row word _ (i_makes word 0b000 0b0010011 small at e)) (
    by_test word (funct3_of word) 0b001 _ _ (λ e. left_shift_reads word small at e) (
    by_test word (funct3_of word) 0b010 _ _ (λ e. the_row word _ (i_makes word 0b010 0b0010011 small at e)) (
    by_test word (funct3_of word) 0b011 _ _ (λ e. the_row word _ (i_makes word 0b011 0b0010011 small at e)) (
    by_test word (funct3_of word) 0b100 _ _ (λ e. the_row word _ (i_makes word 0b100 0b0010011 small at e)) (
    by_test word (funct3_of word) 0b101 _ _ (λ e. right_shift_reads word small at e) (
    by_test word (funct3_of word) 0b110 _ _ (λ e. the_row word _ (i_makes word 0b110 0b0010011 small at e)) (
    by_test word (funct3_of word) 0b111 _ _ (λ e. the_row word _ (i_makes word 0b111 0b0010011 small at e)) (
    no_row word))))))))

base_reads : (word : ℕ) → word < 2 ^ 32 → opcode_of word ≡ 0b0110011 → funct7_of word ≡ 0b0000000 → Reads word (base_row (funct3_of word) (rd_of word) (rs1_of word) (rs2_of word))
base_reads word small at at7 =
    by_test word (funct3_of word) 0b000 _ _ (λ e. the_row word _ (r_makes word 0b0000000 0b000 0b0110011 small at e at7)) (
    by_test word (funct3_of word) 0b001 _ _ (λ e. the_row word _ (r_makes word 0b0000000 0b001 0b0110011 small at e at7)) (
    by_test word (funct3_of word) 0b010 _ _ (λ e. the_row word _ (r_makes word 0b0000000 0b010 0b0110011 small at e at7)) (
    by_test word (funct3_of word) 0b011 _ _ (λ e. the_row word _ (r_makes word 0b0000000 0b011 0b0110011 small at e at7)) (
    by_test word (funct3_of word) 0b100 _ _ (λ e. the_row word _ (r_makes word 0b0000000 0b100 0b0110011 small at e at7)) (
    by_test word (funct3_of word) 0b101 _ _ (λ e. the_row word _ (r_makes word 0b0000000 0b101 0b0110011 small at e at7)) (
    by_test word (funct3_of word) 0b110 _ _ (λ e. the_row word _ (r_makes word 0b0000000 0b110 0b0110011 small at e at7)) (
    by_test word (funct3_of word) 0b111 _ _ (λ e. the_row word _ (r_makes word 0b0000000 0b111 0b0110011 small at e at7)) (
    no_row word))))))))

extension_m_reads : (word : ℕ) → word < 2 ^ 32 → opcode_of word ≡ 0b0110011 → funct7_of word ≡ 0b0000001 → Reads word (extension_m_row (funct3_of word) (rd_of word) (rs1_of word) (rs2_of word))
extension_m_reads word small at at7 =
    by_test word (funct3_of word) 0b000 _ _ (λ e. the_row word _ (r_makes word 0b0000001 0b000 0b0110011 small at e at7)) (
    by_test word (funct3_of word) 0b001 _ _ (λ e. the_row word _ (r_makes word 0b0000001 0b001 0b0110011 small at e at7)) (
    by_test word (funct3_of word) 0b010 _ _ (λ e. the_row word _ (r_makes word 0b0000001 0b010 0b0110011 small at e at7)) (
    by_test word (funct3_of word) 0b011 _ _ (λ e. the_row word _ (r_makes word 0b0000001 0b011 0b0110011 small at e at7)) (
    by_test word (funct3_of word) 0b100 _ _ (λ e. the_row word _ (r_makes word 0b0000001 0b100 0b0110011 small at e at7)) (
    by_test word (funct3_of word) 0b101 _ _ (λ e. the_row word _ (r_makes word 0b0000001 0b101 0b0110011 small at e at7)) (
    by_test word (funct3_of word) 0b110 _ _ (λ e. the_row word _ (r_makes word 0b0000001 0b110 0b0110011 small at e at7)) (
    by_test word (funct3_of word) 0b111 _ _ (λ e. the_row word _ (r_makes word 0b0000001 0b111 0b0110011 small at e at7)) (
    no_row word))))))))

alternate_reads : (word : ℕ) → word < 2 ^ 32 → opcode_of word ≡ 0b0110011 → funct7_of word ≡ 0b0100000 → Reads word (alternate_row (funct3_of word) (rd_of word) (rs1_of word) (rs2_of word))
alternate_reads word small at at7 =
    by_test word (funct3_of word) 0b000 _ _ (λ e. the_row word _ (r_makes word 0b0100000 0b000 0b0110011 small at e at7)) (
    by_test word (funct3_of word) 0b101 _ _ (λ e. the_row word _ (r_makes word 0b0100000 0b101 0b0110011 small at e at7)) (
    no_row word))

op_reads : (word : ℕ) → word < 2 ^ 32 → opcode_of word ≡ 0b0110011 → Reads word (op_row (funct7_of word) (funct3_of word) (rd_of word) (rs1_of word) (rs2_of word))
op_reads word small at =
    by_test word (funct7_of word) 0b0000000 _ _ (λ e. base_reads word small at e) (
    by_test word (funct7_of word) 0b0000001 _ _ (λ e. extension_m_reads word small at e) (
    by_test word (funct7_of word) 0b0100000 _ _ (λ e. alternate_reads word small at e) (
    no_row word)))

fence_reads : (word : ℕ) → word < 2 ^ 32 → opcode_of word ≡ 0b0001111 → Reads word (fence_row (funct3_of word) (rd_of word) (rs1_of word) (funct12_of word))
fence_reads word small at =
    by_test word (funct3_of word) 0b000 _ _ (λ e. the_row word _ (plain_makes word 0b000 0b0001111 small at e)) (
    no_row word)

system_reads : (word : ℕ) → Reads word (system_row word)
system_reads word =
    by_test word word 0x0000_0073 _ _ (λ e. the_row word _ ((omega arith, omega arith, omega arith), omega arith)) (
    by_test word word 0x0010_0073 _ _ (λ e. the_row word _ ((omega arith, omega arith, omega arith), omega arith)) (
    no_row word))

all_reads : (word : ℕ) → word < 2 ^ 32 → Reads word (row_of (opcode_of word) word)
all_reads word small =
    by_test word (opcode_of word) 0b0110111 _ _ (λ e. the_row word _ (u_makes word 0b0110111 small e)) (
    by_test word (opcode_of word) 0b0010111 _ _ (λ e. the_row word _ (u_makes word 0b0010111 small e)) (
    by_test word (opcode_of word) 0b1101111 _ _ (λ e. the_row word _ (j_makes word 0b1101111 small e)) (
    by_test word (opcode_of word) 0b1100111 _ _ (λ e. jalr_reads word small e) (
    by_test word (opcode_of word) 0b1100011 _ _ (λ e. branch_reads word small e) (
    by_test word (opcode_of word) 0b0000011 _ _ (λ e. load_reads word small e) (
    by_test word (opcode_of word) 0b0100011 _ _ (λ e. store_reads word small e) (
    by_test word (opcode_of word) 0b0010011 _ _ (λ e. op_imm_reads word small e) (
    by_test word (opcode_of word) 0b0110011 _ _ (λ e. op_reads word small e) (
    by_test word (opcode_of word) 0b0001111 _ _ (λ e. fence_reads word small e) (
    by_test word (opcode_of word) 0b1110011 _ _ (λ e. system_reads word) (
    no_row word)))))))))))

pub read_encodes : (word : ℕ) → word < 2 ^ 32 → IfSome (instruction_of word) (Encodes word)
unfolding instruction_of
read_encodes word small = (all_reads word small).is_word
