-- What holds of the parts that are selected.
use Rattle.std.specs.Prelude.{◌≡◌, ℕ, ◌+◌, ◌≤◌, nat_lt, if◌then◌else◌, List, length}
use Rattle.size_table.specs.Blocks.{Block}
use Rattle.flat_code.specs.Code.{FCode}
use Rattle.flat_code.specs.Weight.{weight}
use Rattle.flat_discipline.specs.Discipline.{IsDisciplined}
use Rattle.rv_asm.specs.declared.parts.Part.{Part}
use Rattle.rv_asm.specs.Parts.{long_sizes, times_in, AreParts}
use Rattle.rv_asm.specs.Runs.{IsResolved}
use Rattle.rv_selected.specs.Selection.{functions_labels, selected}
use Rattle.rv_selected.specs.Words.{HasWords}
use Rattle.rv_selected.specs.Shape.{AreShaped, HasShape}

-- The parts need at most as many bytes as the code weighs, with every branch and jump in its longest form.
abbrev pub PartsAreLight : Type 0
PartsAreLight = (g : ℕ) (code : FCode) → long_sizes (selected g code) ≤ weight g code

-- 1 for the numbers from n on, so many of them, and 0 for all others
abbrev pub among : (n count l : ℕ) → ℕ
among n count l = if nat_lt l n then 0 else if nat_lt l (n + count) then 1 else 0

-- Each label that the parts have stands once: one for each function, and those of their items.
abbrev pub LabelsStandOnce : Type 0
LabelsStandOnce =
    (g : ℕ) (code : FCode) (l : ℕ) → times_in l (selected g code) ≡ among 0 (length code.functions + functions_labels g code.functions) l

-- Where the code keeps the discipline, its numbers are words, and it weighs no more than a text has room for, the parts can
-- be resolved: each field fits, and each label that a part goes to stands once.
abbrev pub PartsAreResolvable : Type 0
PartsAreResolvable =
    (g : ℕ) (globals : List Block) (code : FCode) → 2 ≤ g → g ≤ 24 → IsDisciplined g globals code → HasWords code → weight g code ≤ 2093056
    → AreParts (selected g code)

-- The parts are shaped, whatever the code is.
abbrev pub PartsAreShaped : Type 0
PartsAreShaped = (g : ℕ) (code : FCode) → AreShaped (selected g code)

-- Shaped parts are resolved to words that have the shape.
abbrev pub TextsHaveShape : Type 0
TextsHaveShape = (parts : List Part) (text : List ℕ) → AreParts parts → AreShaped parts → IsResolved parts text → HasShape text
