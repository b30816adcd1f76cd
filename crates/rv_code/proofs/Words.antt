-- The fields of a format's word, and the word of a word's fields.
use Rattle.std.proofs.Common.{◌≡◌, ℕ, ◌+◌, ◌*◌, ◌%◌, ◌^◌, ◌<◌, arith, ap, ◌∙◌}
use Rattle.std.proofs.lemmas.Bool.Decides.{nat_tests}
use Rattle.rv_code.specs.Bits.{bits, bit, extended, IsSigned}
use Rattle.rv_code.specs.Formats.{Format, RType, IType, SType, BType, UType, JType, PlainType, format_word, FitsFormat, opcode_of, rd_of, funct3_of, rs1_of, rs2_of, funct7_of, funct12_of, i_immediate, s_immediate, b_immediate, u_immediate, j_immediate}

-- ---- sign extension

pub extended-12 : (n : ℕ) → n < 4096 → IsSigned 12 (extended 12 n) × (extended 12 n % 4096 ≡ n)
extended-12 n h = (grind (arith, nat_tests))

pub extended-13 : (n : ℕ) → n < 8192 → IsSigned 13 (extended 13 n) × (extended 13 n % 8192 ≡ n)
extended-13 n h = (grind (arith, nat_tests))

pub extended-21 : (n : ℕ) → n < 2097152 → IsSigned 21 (extended 21 n) × (extended 21 n % 2097152 ≡ n)
extended-21 n h = (grind (arith, nat_tests))

pub extended_12 : (imm : ℕ) → IsSigned 12 imm → extended 12 (imm % 4096) ≡ imm
extended_12 imm h = grind (arith, nat_tests)

pub extended_13 : (imm : ℕ) → IsSigned 13 imm → extended 13 (imm % 8192) ≡ imm
extended_13 imm h = grind (arith, nat_tests)

pub extended_21 : (imm : ℕ) → IsSigned 21 imm → extended 21 (imm % 2097152) ≡ imm
extended_21 imm h = grind (arith, nat_tests)

-- ---- the fields of a format's word

pub record RFields (word funct7 rs2 rs1 funct3 rd opcode : ℕ) : Type 0 where
  pub opcode_is : opcode_of word ≡ opcode
  pub rd_is : rd_of word ≡ rd
  pub funct3_is : funct3_of word ≡ funct3
  pub rs1_is : rs1_of word ≡ rs1
  pub rs2_is : rs2_of word ≡ rs2
  pub funct7_is : funct7_of word ≡ funct7

pub r_fields : (funct7 rs2 rs1 funct3 rd opcode : ℕ) → funct7 < 128 → rs2 < 32 → rs1 < 32 → funct3 < 8 → rd < 32 → opcode < 128 → RFields (format_word (RType funct7 rs2 rs1 funct3 rd opcode)) funct7 rs2 rs1 funct3 rd opcode
r_fields funct7 rs2 rs1 funct3 rd opcode h1 h2 h3 h4 h5 h6 =
    record { opcode_is = omega arith; rd_is = omega arith; funct3_is = omega arith; rs1_is = omega arith; rs2_is = omega arith; funct7_is = omega arith }

pub record PlainFields (word funct12 rs1 funct3 rd opcode : ℕ) : Type 0 where
  pub opcode_is : opcode_of word ≡ opcode
  pub rd_is : rd_of word ≡ rd
  pub funct3_is : funct3_of word ≡ funct3
  pub rs1_is : rs1_of word ≡ rs1
  pub funct12_is : funct12_of word ≡ funct12

pub plain_fields : (funct12 rs1 funct3 rd opcode : ℕ) → funct12 < 4096 → rs1 < 32 → funct3 < 8 → rd < 32 → opcode < 128 → PlainFields (format_word (PlainType funct12 rs1 funct3 rd opcode)) funct12 rs1 funct3 rd opcode
plain_fields funct12 rs1 funct3 rd opcode h1 h2 h3 h4 h5 =
    record { opcode_is = omega arith; rd_is = omega arith; funct3_is = omega arith; rs1_is = omega arith; funct12_is = omega arith }

pub i_immediate_is : (imm rs1 funct3 rd opcode : ℕ) → IsSigned 12 imm → rs1 < 32 → funct3 < 8 → rd < 32 → opcode < 128 → i_immediate (format_word (IType imm rs1 funct3 rd opcode)) ≡ imm
i_immediate_is imm rs1 funct3 rd opcode fits h2 h3 h4 h5 =
    let fields = plain_fields (bits imm 11 0) rs1 funct3 rd opcode (omega arith) h2 h3 h4 h5 in
    let low : bits imm 11 0 ≡ imm % 4096 = omega arith in
    ap (extended 12) (fields.funct12_is ∙ low) ∙ extended_12 imm fits

pub record StoreFields (immediate : ℕ → ℕ) (word imm rs2 rs1 funct3 opcode : ℕ) : Type 0 where
  pub opcode_is : opcode_of word ≡ opcode
  pub funct3_is : funct3_of word ≡ funct3
  pub rs1_is : rs1_of word ≡ rs1
  pub rs2_is : rs2_of word ≡ rs2
  pub imm_is : immediate word ≡ imm

pub s_fields : (imm rs2 rs1 funct3 opcode : ℕ) → IsSigned 12 imm → rs2 < 32 → rs1 < 32 → funct3 < 8 → opcode < 128 → StoreFields s_immediate (format_word (SType imm rs2 rs1 funct3 opcode)) imm rs2 rs1 funct3 opcode
s_fields imm rs2 rs1 funct3 opcode fits h2 h3 h4 h5 =
    let fields = r_fields (bits imm 11 5) rs2 rs1 funct3 (bits imm 4 0) opcode (omega arith) h2 h3 h4 (omega arith) h5 in
    let e7 : funct7_of (format_word (SType imm rs2 rs1 funct3 opcode)) ≡ bits imm 11 5 = fields.funct7_is in
    let ed : rd_of (format_word (SType imm rs2 rs1 funct3 opcode)) ≡ bits imm 4 0 = fields.rd_is in
    let low : bits imm 11 5 * 2 ^ 5 + bits imm 4 0 ≡ imm % 4096 = omega arith in
    record {
      opcode_is = fields.opcode_is;
      funct3_is = fields.funct3_is;
      rs1_is = fields.rs1_is;
      rs2_is = fields.rs2_is;
      imm_is = rw (e7, ed, low) (extended_12 imm fits);
    }

record BParts (word a b rs2 rs1 funct3 c d opcode : ℕ) : Type 0 where
  pub opcode_is : opcode_of word ≡ opcode
  pub funct3_is : funct3_of word ≡ funct3
  pub rs1_is : rs1_of word ≡ rs1
  pub rs2_is : rs2_of word ≡ rs2
  pub a_is : bit word 31 ≡ a
  pub b_is : bits word 30 25 ≡ b
  pub c_is : bits word 11 8 ≡ c
  pub d_is : bit word 7 ≡ d

b_parts : (a b rs2 rs1 funct3 c d opcode : ℕ) → a < 2 → b < 64 → rs2 < 32 → rs1 < 32 → funct3 < 8 → c < 16 → d < 2 → opcode < 128 → BParts (a * 2 ^ 31 + b * 2 ^ 25 + rs2 * 2 ^ 20 + rs1 * 2 ^ 15 + funct3 * 2 ^ 12 + c * 2 ^ 8 + d * 2 ^ 7 + opcode) a b rs2 rs1 funct3 c d opcode
b_parts a b rs2 rs1 funct3 c d opcode h1 h2 h3 h4 h5 h6 h7 h8 =
    record {
      opcode_is = omega arith;
      funct3_is = omega arith;
      rs1_is = omega arith;
      rs2_is = omega arith;
      a_is = omega arith;
      b_is = omega arith;
      c_is = omega arith;
      d_is = omega arith;
    }

-- a number put together from four of its parts
from_parts : (f : ℕ → ℕ) (x y z w x' y' z' w' a b c m : ℕ) → x ≡ x' → y ≡ y' → z ≡ z' → w ≡ w' → x' * a + y' * b + z' * c + w' * 2 ≡ m → f (x * a + y * b + z * c + w * 2) ≡ f m
from_parts f x y z w x' y' z' w' a b c m p q r s e = cc

pub b_fields : (imm rs2 rs1 funct3 opcode : ℕ) → IsSigned 13 imm → imm % 2 ≡ 0 → rs2 < 32 → rs1 < 32 → funct3 < 8 → opcode < 128 → StoreFields b_immediate (format_word (BType imm rs2 rs1 funct3 opcode)) imm rs2 rs1 funct3 opcode
b_fields imm rs2 rs1 funct3 opcode fits even h2 h3 h4 h5 =
    let parts = b_parts (bit imm 12) (bits imm 10 5) rs2 rs1 funct3 (bits imm 4 1) (bit imm 11) opcode (omega arith) (omega arith) h2 h3 h4 (omega arith) (omega arith) h5 in
    let low : bit imm 12 * 2 ^ 12 + bit imm 11 * 2 ^ 11 + bits imm 10 5 * 2 ^ 5 + bits imm 4 1 * 2 ≡ imm % 8192 = omega arith in
    record {
      opcode_is = parts.opcode_is;
      funct3_is = parts.funct3_is;
      rs1_is = parts.rs1_is;
      rs2_is = parts.rs2_is;
      imm_is = from_parts (extended 13) _ _ _ _ _ _ _ _ _ _ _ _ parts.a_is parts.d_is parts.b_is parts.c_is low ∙ extended_13 imm fits;
    }

pub record JumpFields (immediate : ℕ → ℕ) (word imm rd opcode : ℕ) : Type 0 where
  pub opcode_is : opcode_of word ≡ opcode
  pub rd_is : rd_of word ≡ rd
  pub imm_is : immediate word ≡ imm

pub u_fields : (imm rd opcode : ℕ) → imm < 2 ^ 32 → imm % 2 ^ 12 ≡ 0 → rd < 32 → opcode < 128 → JumpFields u_immediate (format_word (UType imm rd opcode)) imm rd opcode
u_fields imm rd opcode h1 h2 h3 h4 =
    record { opcode_is = omega arith; rd_is = omega arith; imm_is = omega arith }

record JParts (word a b c d rd opcode : ℕ) : Type 0 where
  pub opcode_is : opcode_of word ≡ opcode
  pub rd_is : rd_of word ≡ rd
  pub a_is : bit word 31 ≡ a
  pub b_is : bits word 30 21 ≡ b
  pub c_is : bit word 20 ≡ c
  pub d_is : bits word 19 12 ≡ d

j_parts : (a b c d rd opcode : ℕ) → a < 2 → b < 1024 → c < 2 → d < 256 → rd < 32 → opcode < 128 → JParts (a * 2 ^ 31 + b * 2 ^ 21 + c * 2 ^ 20 + d * 2 ^ 12 + rd * 2 ^ 7 + opcode) a b c d rd opcode
j_parts a b c d rd opcode h1 h2 h3 h4 h5 h6 =
    record { opcode_is = omega arith; rd_is = omega arith; a_is = omega arith; b_is = omega arith; c_is = omega arith; d_is = omega arith }

pub j_fields : (imm rd opcode : ℕ) → IsSigned 21 imm → imm % 2 ≡ 0 → rd < 32 → opcode < 128 → JumpFields j_immediate (format_word (JType imm rd opcode)) imm rd opcode
j_fields imm rd opcode fits even h3 h4 =
    let parts = j_parts (bit imm 20) (bits imm 10 1) (bit imm 11) (bits imm 19 12) rd opcode (omega arith) (omega arith) (omega arith) (omega arith) h3 h4 in
    let low : bit imm 20 * 2 ^ 20 + bits imm 19 12 * 2 ^ 12 + bit imm 11 * 2 ^ 11 + bits imm 10 1 * 2 ≡ imm % 2097152 = omega arith in
    record {
      opcode_is = parts.opcode_is;
      rd_is = parts.rd_is;
      imm_is = from_parts (extended 21) _ _ _ _ _ _ _ _ _ _ _ _ parts.a_is parts.d_is parts.c_is parts.b_is low ∙ extended_21 imm fits;
    }

-- ---- the word of a word's fields

-- a format's fields fit, and its word is this one
abbrev pub Makes : ℕ → Format → Type 0
Makes word format = FitsFormat format × (format_word format ≡ word)

pub r_makes : (word funct7 funct3 opcode : ℕ) → word < 2 ^ 32 → opcode_of word ≡ opcode → funct3_of word ≡ funct3 → funct7_of word ≡ funct7 → Makes word (RType funct7 (rs2_of word) (rs1_of word) funct3 (rd_of word) opcode)
r_makes word funct7 funct3 opcode small e1 e2 e3 = ((omega arith, omega arith, omega arith), omega arith)

pub plain_makes : (word funct3 opcode : ℕ) → word < 2 ^ 32 → opcode_of word ≡ opcode → funct3_of word ≡ funct3 → Makes word (PlainType (funct12_of word) (rs1_of word) funct3 (rd_of word) opcode)
plain_makes word funct3 opcode small e1 e2 = ((omega arith, omega arith, omega arith), omega arith)

pub i_makes : (word funct3 opcode : ℕ) → word < 2 ^ 32 → opcode_of word ≡ opcode → funct3_of word ≡ funct3 → Makes word (IType (i_immediate word) (rs1_of word) funct3 (rd_of word) opcode)
i_makes word funct3 opcode small e1 e2 =
    let top : bits word 31 20 < 4096 = omega arith in
    let imm = extended-12 (bits word 31 20) top in
    let plain = plain_makes word funct3 opcode small e1 e2 in
    let low : bits (i_immediate word) 11 0 ≡ bits word 31 20 = omega (arith, imm.1) in
    ((imm.0, plain.0.1, plain.0.2), rw low plain.1)

s_word : (word imm funct3 opcode : ℕ) → word < 2 ^ 32 → opcode_of word ≡ opcode → funct3_of word ≡ funct3 → imm % 4096 ≡ bits word 31 25 * 2 ^ 5 + bits word 11 7 → format_word (SType imm (rs2_of word) (rs1_of word) funct3 opcode) ≡ word
s_word word imm funct3 opcode small e1 e2 e3 =
    let high : bits imm 11 5 ≡ bits word 31 25 = omega arith in
    let low : bits imm 4 0 ≡ bits word 11 7 = omega arith in
    omega arith

pub s_makes : (word funct3 opcode : ℕ) → word < 2 ^ 32 → opcode_of word ≡ opcode → funct3_of word ≡ funct3 → Makes word (SType (s_immediate word) (rs2_of word) (rs1_of word) funct3 opcode)
s_makes word funct3 opcode small e1 e2 =
    let low : bits word 31 25 * 2 ^ 5 + bits word 11 7 < 4096 = omega arith in
    let imm = extended-12 (bits word 31 25 * 2 ^ 5 + bits word 11 7) low in
    ((imm.0, omega arith, omega arith), s_word word (s_immediate word) funct3 opcode small e1 e2 imm.1)

b_word : (word imm funct3 opcode : ℕ) → word < 2 ^ 32 → opcode_of word ≡ opcode → funct3_of word ≡ funct3 → imm % 8192 ≡ bit word 31 * 2 ^ 12 + bit word 7 * 2 ^ 11 + bits word 30 25 * 2 ^ 5 + bits word 11 8 * 2 → (format_word (BType imm (rs2_of word) (rs1_of word) funct3 opcode) ≡ word) × (imm % 2 ≡ 0)
b_word word imm funct3 opcode small e1 e2 e3 =
    let a : bit imm 12 ≡ bit word 31 = omega arith in
    let b : bits imm 10 5 ≡ bits word 30 25 = omega arith in
    let c : bits imm 4 1 ≡ bits word 11 8 = omega arith in
    let d : bit imm 11 ≡ bit word 7 = omega arith in
    (omega arith, omega arith)

pub b_makes : (word funct3 opcode : ℕ) → word < 2 ^ 32 → opcode_of word ≡ opcode → funct3_of word ≡ funct3 → Makes word (BType (b_immediate word) (rs2_of word) (rs1_of word) funct3 opcode)
b_makes word funct3 opcode small e1 e2 =
    let n = bit word 31 * 2 ^ 12 + bit word 7 * 2 ^ 11 + bits word 30 25 * 2 ^ 5 + bits word 11 8 * 2 in
    let low : n < 8192 = omega arith in
    let imm = extended-13 n low in
    let made = b_word word (b_immediate word) funct3 opcode small e1 e2 imm.1 in
    ((imm.0, made.1, omega arith, omega arith), made.0)

pub u_makes : (word opcode : ℕ) → word < 2 ^ 32 → opcode_of word ≡ opcode → Makes word (UType (u_immediate word) (rd_of word) opcode)
u_makes word opcode small e1 = ((omega arith, omega arith, omega arith), omega arith)

j_word : (word imm opcode : ℕ) → word < 2 ^ 32 → opcode_of word ≡ opcode → imm % 2097152 ≡ bit word 31 * 2 ^ 20 + bits word 19 12 * 2 ^ 12 + bit word 20 * 2 ^ 11 + bits word 30 21 * 2 → (format_word (JType imm (rd_of word) opcode) ≡ word) × (imm % 2 ≡ 0)
j_word word imm opcode small e1 e3 =
    let a : bit imm 20 ≡ bit word 31 = omega arith in
    let b : bits imm 10 1 ≡ bits word 30 21 = omega arith in
    let c : bit imm 11 ≡ bit word 20 = omega arith in
    let d : bits imm 19 12 ≡ bits word 19 12 = omega arith in
    (omega arith, omega arith)

pub j_makes : (word opcode : ℕ) → word < 2 ^ 32 → opcode_of word ≡ opcode → Makes word (JType (j_immediate word) (rd_of word) opcode)
j_makes word opcode small e1 =
    let n = bit word 31 * 2 ^ 20 + bits word 19 12 * 2 ^ 12 + bit word 20 * 2 ^ 11 + bits word 30 21 * 2 in
    let low : n < 2097152 = omega arith in
    let imm = extended-21 n low in
    let made = j_word word (j_immediate word) opcode small e1 imm.1 in
    ((imm.0, made.1, omega arith), made.0)
