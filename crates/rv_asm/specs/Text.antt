-- The words of parts, each branch and jump in the shortest form that reaches its label.
-- RISC-V Unprivileged ISA, chapter "RV32I": a branch reaches 4 KiB and JAL 1 MiB in either direction; AUIPC and JALR
-- together reach every place.
use Rattle.std.specs.Prelude.{ℕ, ◌+◌, ◌-◌, ◌*◌, ◌/◌, ◌%◌, ◌^◌, Bool, nat_lt, nat_le}
use Rattle.std.specs.Prelude.{◌&&◌, if◌then◌else◌, List, [], ◌∷◌, ◌++◌, length, map}
use Rattle.rv_code.specs.Bits.{extended}
use Rattle.rv_code.specs.Code.{word_of}
use Rattle.rv_code.specs.declared.instr.Instr.{Instr}
use Rattle.rv_code.specs.declared.instr.Instr.TheVariants.{Beq, Bne, Blt, Bge, Bltu, Bgeu, Jal, Jalr, Auipc}
use Rattle.rv_asm.specs.declared.parts.BranchOp.{BranchOp}
use Rattle.rv_asm.specs.declared.parts.BranchOp.TheVariants as op
use Rattle.rv_asm.specs.declared.parts.Part.{Part}
use Rattle.rv_asm.specs.declared.parts.Part.TheVariants.{Plain, Label, Branch, Jump}

-- the distance from one place to another is at least -half and below half
abbrev pub in_reach : (half at to : ℕ) → Bool
in_reach half at to = nat_lt to (at + half) && nat_le at (to + half)

-- the distance as a word
abbrev pub distance : (at to : ℕ) → ℕ
distance at to = (to + (2 ^ 32 - at)) % 2 ^ 32

abbrev pub branch_of : BranchOp → (rs1 rs2 imm : ℕ) → Instr
branch_of op.Beq rs1 rs2 imm = Beq rs1 rs2 imm
branch_of op.Bne rs1 rs2 imm = Bne rs1 rs2 imm
branch_of op.Blt rs1 rs2 imm = Blt rs1 rs2 imm
branch_of op.Bge rs1 rs2 imm = Bge rs1 rs2 imm
branch_of op.Bltu rs1 rs2 imm = Bltu rs1 rs2 imm
branch_of op.Bgeu rs1 rs2 imm = Bgeu rs1 rs2 imm

-- the branch that is taken where the other is not
abbrev pub inverse : BranchOp → BranchOp
inverse op.Beq = op.Bne
inverse op.Bne = op.Beq
inverse op.Blt = op.Bge
inverse op.Bge = op.Blt
inverse op.Bltu = op.Bgeu
inverse op.Bgeu = op.Bltu

-- A distance in two parts: a multiple of 2^12, and the rest as 12 bits with a sign.
abbrev pub upper_part : ℕ → ℕ
upper_part n = (n + 2048) % 2 ^ 32 / 4096 * 4096

abbrev pub lower_part : ℕ → ℕ
lower_part n = extended 12 (n % 4096)

-- auipc x5, upper; jalr rd, lower(x5)
abbrev pub long_jump : (rd at to : ℕ) → List Instr
long_jump rd at to = Auipc 5 (upper_part (distance at to)) ∷ Jalr rd 5 (lower_part (distance at to)) ∷ []

-- a jump from a place to another, as JAL where that reaches
abbrev pub jump_code : (rd at to : ℕ) → List Instr
jump_code rd at to = if in_reach 1048576 at to then Jal rd (distance at to) ∷ [] else long_jump rd at to

-- how far it is over a branch and a jump
abbrev pub skip_over : (at to : ℕ) → ℕ
skip_over at to = if in_reach 1048576 (at + 4) to then 8 else 12

-- a branch from a place to another; where it does not reach, the inverse branch goes over a jump
abbrev pub branch_code : BranchOp → (rs1 rs2 at to : ℕ) → List Instr
branch_code op rs1 rs2 at to =
    if in_reach 4096 at to then branch_of op rs1 rs2 (distance at to) ∷ []
    else branch_of (inverse op) rs1 rs2 (skip_over at to) ∷ jump_code 0 (at + 4) to

-- the instructions of a part at a place, which goes to another if it is a branch or a jump
abbrev pub code_of : Part → (at to : ℕ) → List Instr
code_of (Plain i) at to = i ∷ []
code_of (Label l) at to = []
code_of (Branch op rs1 rs2 l) at to = branch_code op rs1 rs2 at to
code_of (Jump rd l) at to = jump_code rd at to

abbrev pub words_of : Part → (at to : ℕ) → List ℕ
words_of part at to = map word_of (code_of part at to)

-- where a part goes, by the places of the labels
abbrev pub goal_of : (ℕ → ℕ) → Part → ℕ
goal_of labels (Plain i) = 0
goal_of labels (Label l) = 0
goal_of labels (Branch op rs1 rs2 l) = labels l
goal_of labels (Jump rd l) = labels l

-- the place behind a part
abbrev pub place_after : (ℕ → ℕ) → ℕ → Part → ℕ
place_after labels at part = at + 4 * length (code_of part at (goal_of labels part))

-- the words of parts from a place on
abbrev pub text_of : (ℕ → ℕ) → ℕ → List Part → List ℕ
text_of labels at [] = []
text_of labels at (part ∷ parts) = words_of part at (goal_of labels part) ++ text_of labels (place_after labels at part) parts
