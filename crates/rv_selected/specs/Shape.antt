-- What selected code looks like, for those who add code of their own to a text: which registers it leaves alone, and which
-- forms its jumps and accesses have.
use Rattle.std.specs.Prelude.{◌≡◌, ◌==◌, ℕ, ◌*◌, ◌≤◌, Bool, true, not, ◌&&◌}
use Rattle.std.specs.Prelude.{◌||◌, nat_lt, if◌then◌else◌, List, [], ◌∷◌, length, Some, All}
use Rattle.rv_code.specs.Formats.{Format, RType, IType, SType, BType, UType, JType, PlainType}
use Rattle.rv_code.specs.Code.{format_of, instruction_of}
use Rattle.rv_code.specs.declared.instr.Instr.{Instr}
use Rattle.rv_code.specs.declared.instr.Instr.TheVariants.{Jal, Jalr, Lb, Lh, Lw, Lhu, Sb, Sh, Sw, Add}
use Rattle.rv_asm.specs.declared.parts.Part.{Part}
use Rattle.rv_asm.specs.declared.parts.Part.TheVariants.{Plain, Label, Branch, Jump}

-- ---- Instructions

-- The registers that an instruction names, by its format. A shift by a constant, which is an OP-IMM, has its count where others
-- have a register.
abbrev pub registers_in : Format → List ℕ
registers_in (RType funct7 rs2 rs1 funct3 rd opcode) = if opcode == 0b0010011 then rd ∷ rs1 ∷ [] else rd ∷ rs1 ∷ rs2 ∷ []
registers_in (IType imm rs1 funct3 rd opcode) = rd ∷ rs1 ∷ []
registers_in (SType imm rs2 rs1 funct3 opcode) = rs1 ∷ rs2 ∷ []
registers_in (BType imm rs2 rs1 funct3 opcode) = rs1 ∷ rs2 ∷ []
registers_in (UType imm rd opcode) = rd ∷ []
registers_in (JType imm rd opcode) = rd ∷ []
registers_in (PlainType funct12 rs1 funct3 rd opcode) = rd ∷ rs1 ∷ []

-- x3, x4, x29 and x30 are spare
abbrev pub is_spare : ℕ → Bool
is_spare r = r == 3 || r == 4 || r == 29 || r == 30

abbrev pub none_spare : List ℕ → Bool
none_spare [] = true
none_spare (r ∷ rs) = not (is_spare r) && none_spare rs

-- the instruction names no spare register
abbrev pub leaves_spare : Instr → Bool
leaves_spare i = none_spare (registers_in (format_of i))

-- The only JALR is the one that returns, and JAL links in x1 or not at all. Register x31 is the base of LBU alone, and no
-- operand of an ADD that sets nothing.
abbrev pub is_regular : Instr → Bool
is_regular (Jalr rd rs1 imm) = rd == 0 && rs1 == 1 && imm == 0
is_regular (Jal rd imm) = nat_lt rd 2
is_regular (Lb rd rs1 imm) = not (rs1 == 31)
is_regular (Lh rd rs1 imm) = not (rs1 == 31)
is_regular (Lw rd rs1 imm) = not (rs1 == 31)
is_regular (Lhu rd rs1 imm) = not (rs1 == 31)
is_regular (Sb rs1 rs2 imm) = not (rs1 == 31)
is_regular (Sh rs1 rs2 imm) = not (rs1 == 31)
is_regular (Sw rs1 rs2 imm) = not (rs1 == 31)
is_regular (Add rd rs1 rs2) = not (rd == 0) || (not (rs1 == 31) && not (rs2 == 31))
is_regular i = true

-- ---- Parts

abbrev pub is_shaped : Part → Bool
is_shaped (Plain i) = leaves_spare i && is_regular i
is_shaped (Label l) = true
is_shaped (Branch op rs1 rs2 to) = none_spare (rs1 ∷ rs2 ∷ [])
is_shaped (Jump rd to) = nat_lt rd 2

abbrev pub AreShaped : List Part → Type 0
AreShaped parts = All (λ part. is_shaped part ≡ true) parts

-- ---- Words

-- the word is that of an instruction that passes this test
pub record IsWordOf (test : Instr → Bool) (word : ℕ) : Type 0 where
  pub instr : Instr
  pub is : instruction_of word ≡ Some instr
  pub passes : test instr ≡ true

-- Each word of a text leaves the spare registers alone. Where every jump of the text is within the reach of JAL, each is
-- regular too.
pub record HasShape (text : List ℕ) : Type 0 where
  pub spare : All (IsWordOf leaves_spare) text
  pub regular : 4 * length text ≤ 1000000 → All (IsWordOf is_regular) text
