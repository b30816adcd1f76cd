-- What straight code does: instructions that neither jump, nor call the environment, nor access data.
use Rattle.std.specs.Prelude.{◌≡◌, ◌≢◌, ◌==◌, ℕ, ◌*◌, ◌^◌, ◌<◌, ◌≤◌}
use Rattle.std.specs.Prelude.{if◌then◌else◌, bit_and, bit_or, bit_xor, List, [], ◌∷◌}
use Rattle.bb_words.specs.Numbers.{sum, difference, product, signed_high_product, mixed_high_product, unsigned_high_product, signed_quotient, unsigned_quotient}
use Rattle.bb_words.specs.Numbers.{signed_remainder, unsigned_remainder, left_shift, right_shift, signed_right_shift, signed_below, unsigned_below}
use Rattle.rv_code.specs.declared.instr.Instr.{Instr}
use Rattle.rv_code.specs.declared.instr.Instr.TheVariants.{Lui, Addi, Sltiu, Xori, Andi, Slli, Srli, Add, Sub, Mul, Mulh, Mulhsu, Mulhu}
use Rattle.rv_code.specs.declared.instr.Instr.TheVariants.{Div, Divu, Rem, Remu, Sll, Srl, Sra, Slt, Sltu, And, Or, Xor, Lw, Sw}

-- what it works on: the registers, and the words of the control frame by their offset from x2
pub record Held : Type 0 where
  pub register : ℕ → ℕ
  pub word : ℕ → ℕ

-- a function with another value at a place
abbrev pub changed : (f : ℕ → ℕ) → (at value : ℕ) → ℕ → ℕ
changed f at value n = if n == at then value else f n

abbrev pub with_register : (register value : ℕ) → Held → Held
with_register register value h = record h { register = changed h.register register value }

abbrev pub with_word : (offset value : ℕ) → Held → Held
with_word offset value h = record h { word = changed h.word offset value }

-- one instruction
abbrev pub does : Instr → Held → Held
does (Lui rd imm) h = with_register rd imm h
does (Addi rd rs1 imm) h = with_register rd (sum (h.register rs1) imm) h
does (Sltiu rd rs1 imm) h = with_register rd (unsigned_below (h.register rs1) imm) h
does (Xori rd rs1 imm) h = with_register rd (bit_xor (h.register rs1) imm) h
does (Andi rd rs1 imm) h = with_register rd (bit_and (h.register rs1) imm) h
does (Slli rd rs1 imm) h = with_register rd (left_shift (h.register rs1) imm) h
does (Srli rd rs1 imm) h = with_register rd (right_shift (h.register rs1) imm) h
does (Add rd rs1 rs2) h = with_register rd (sum (h.register rs1) (h.register rs2)) h
does (Sub rd rs1 rs2) h = with_register rd (difference (h.register rs1) (h.register rs2)) h
does (Mul rd rs1 rs2) h = with_register rd (product (h.register rs1) (h.register rs2)) h
does (Mulh rd rs1 rs2) h = with_register rd (signed_high_product (h.register rs1) (h.register rs2)) h
does (Mulhsu rd rs1 rs2) h = with_register rd (mixed_high_product (h.register rs1) (h.register rs2)) h
does (Mulhu rd rs1 rs2) h = with_register rd (unsigned_high_product (h.register rs1) (h.register rs2)) h
does (Div rd rs1 rs2) h = with_register rd (signed_quotient (h.register rs1) (h.register rs2)) h
does (Divu rd rs1 rs2) h = with_register rd (unsigned_quotient (h.register rs1) (h.register rs2)) h
does (Rem rd rs1 rs2) h = with_register rd (signed_remainder (h.register rs1) (h.register rs2)) h
does (Remu rd rs1 rs2) h = with_register rd (unsigned_remainder (h.register rs1) (h.register rs2)) h
does (Sll rd rs1 rs2) h = with_register rd (left_shift (h.register rs1) (h.register rs2)) h
does (Srl rd rs1 rs2) h = with_register rd (right_shift (h.register rs1) (h.register rs2)) h
does (Sra rd rs1 rs2) h = with_register rd (signed_right_shift (h.register rs1) (h.register rs2)) h
does (Slt rd rs1 rs2) h = with_register rd (signed_below (h.register rs1) (h.register rs2)) h
does (Sltu rd rs1 rs2) h = with_register rd (unsigned_below (h.register rs1) (h.register rs2)) h
does (And rd rs1 rs2) h = with_register rd (bit_and (h.register rs1) (h.register rs2)) h
does (Or rd rs1 rs2) h = with_register rd (bit_or (h.register rs1) (h.register rs2)) h
does (Xor rd rs1 rs2) h = with_register rd (bit_xor (h.register rs1) (h.register rs2)) h
does (Lw rd rs1 imm) h = with_register rd (h.word imm) h
does (Sw rs1 rs2 imm) h = with_word imm (h.register rs2) h
does i h = h

abbrev pub does_all : List Instr → Held → Held
does_all [] h = h
does_all (i ∷ is) h = does_all is (does i h)

-- ---- Which instructions are straight

-- a register that straight code may set: neither x0 nor x2
pub record IsSet (register : ℕ) : Type 0 where
  pub some : 1 ≤ register
  pub few : register < 32
  pub other : register ≢ 2

-- an offset of one of so many words
pub record IsCell (words offset : ℕ) : Type 0 where
  pub number : ℕ
  pub few : number < words
  pub is : offset ≡ 4 * number

abbrev pub IsStraight : (words : ℕ) → Instr → Type 0
IsStraight words (Lui rd imm) = IsSet rd × (imm < 2 ^ 32)
IsStraight words (Addi rd rs1 imm) = IsSet rd × (rs1 < 32)
IsStraight words (Sltiu rd rs1 imm) = IsSet rd × (rs1 < 32)
IsStraight words (Xori rd rs1 imm) = IsSet rd × (rs1 < 32)
IsStraight words (Andi rd rs1 imm) = IsSet rd × (rs1 < 32)
IsStraight words (Slli rd rs1 imm) = IsSet rd × (rs1 < 32)
IsStraight words (Srli rd rs1 imm) = IsSet rd × (rs1 < 32)
IsStraight words (Add rd rs1 rs2) = IsSet rd × (rs1 < 32) × (rs2 < 32)
IsStraight words (Sub rd rs1 rs2) = IsSet rd × (rs1 < 32) × (rs2 < 32)
IsStraight words (Mul rd rs1 rs2) = IsSet rd × (rs1 < 32) × (rs2 < 32)
IsStraight words (Mulh rd rs1 rs2) = IsSet rd × (rs1 < 32) × (rs2 < 32)
IsStraight words (Mulhsu rd rs1 rs2) = IsSet rd × (rs1 < 32) × (rs2 < 32)
IsStraight words (Mulhu rd rs1 rs2) = IsSet rd × (rs1 < 32) × (rs2 < 32)
IsStraight words (Div rd rs1 rs2) = IsSet rd × (rs1 < 32) × (rs2 < 32)
IsStraight words (Divu rd rs1 rs2) = IsSet rd × (rs1 < 32) × (rs2 < 32)
IsStraight words (Rem rd rs1 rs2) = IsSet rd × (rs1 < 32) × (rs2 < 32)
IsStraight words (Remu rd rs1 rs2) = IsSet rd × (rs1 < 32) × (rs2 < 32)
IsStraight words (Sll rd rs1 rs2) = IsSet rd × (rs1 < 32) × (rs2 < 32)
IsStraight words (Srl rd rs1 rs2) = IsSet rd × (rs1 < 32) × (rs2 < 32)
IsStraight words (Sra rd rs1 rs2) = IsSet rd × (rs1 < 32) × (rs2 < 32)
IsStraight words (Slt rd rs1 rs2) = IsSet rd × (rs1 < 32) × (rs2 < 32)
IsStraight words (Sltu rd rs1 rs2) = IsSet rd × (rs1 < 32) × (rs2 < 32)
IsStraight words (And rd rs1 rs2) = IsSet rd × (rs1 < 32) × (rs2 < 32)
IsStraight words (Or rd rs1 rs2) = IsSet rd × (rs1 < 32) × (rs2 < 32)
IsStraight words (Xor rd rs1 rs2) = IsSet rd × (rs1 < 32) × (rs2 < 32)
IsStraight words (Lw rd rs1 imm) = IsSet rd × (rs1 ≡ 2) × IsCell words imm
IsStraight words (Sw rs1 rs2 imm) = (rs1 ≡ 2) × (rs2 < 32) × IsCell words imm
IsStraight words i = ⊥

abbrev pub AreStraight : (words : ℕ) → List Instr → Type 0
AreStraight words [] = Unit {0}
AreStraight words (i ∷ is) = IsStraight words i × AreStraight words is
