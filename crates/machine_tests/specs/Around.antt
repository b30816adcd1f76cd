-- Texts whose branches and jumps go to their ends.
use Rattle.std.specs.Prelude.{◌≡◌, ℕ, ◌≤◌, List, [], ◌∷◌, ◌++◌, replicate}
use Rattle.rv_code.specs.Formats.{IsRegister}
use Rattle.rv_code.specs.declared.instr.Instr.TheVariants.{Addi}
use Rattle.rv_asm.specs.declared.parts.Part.{Part}
use Rattle.rv_asm.specs.declared.parts.Part.TheVariants.{Plain, Label, Branch, Jump}

-- an instruction that does nothing
abbrev pub pass : Part
pass = Plain (Addi 0 0 0)

-- a branch or a jump to label 0 or 1, or the instruction that does nothing
abbrev pub GoesToAnEnd : Part → Type 0
GoesToAnEnd (Plain i) = Plain i ≡ pass
GoesToAnEnd (Label l) = ⊥
GoesToAnEnd (Branch op rs1 rs2 to) = IsRegister rs1 × IsRegister rs2 × (to ≤ 1)
GoesToAnEnd (Jump rd to) = IsRegister rd × (to ≤ 1)

-- label 0, so many instructions, two parts, so many instructions, and label 1
abbrev pub around : (before : ℕ) (first second : Part) (behind : ℕ) → List Part
around before first second behind = Label 0 ∷ (replicate before pass ++ first ∷ second ∷ (replicate behind pass ++ Label 1 ∷ []))
