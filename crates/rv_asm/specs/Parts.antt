-- What parts are asked for.
use Rattle.std.specs.Prelude.{◌≡◌, ◌==◌, ℕ, ◌+◌, ◌≤◌, if◌then◌else◌, List, [], ◌∷◌, All}
use Rattle.rv_code.specs.Formats.{IsRegister}
use Rattle.rv_code.specs.Code.{Fits}
use Rattle.rv_asm.specs.declared.parts.Part.{Part}
use Rattle.rv_asm.specs.declared.parts.Part.TheVariants.{Plain, Label, Branch, Jump}

-- whether a part is this label
abbrev pub is_label : ℕ → Part → ℕ
is_label l (Plain i) = 0
is_label l (Label n) = if n == l then 1 else 0
is_label l (Branch op rs1 rs2 to) = 0
is_label l (Jump rd to) = 0

-- how often a label stands among the parts
abbrev pub times_in : ℕ → List Part → ℕ
times_in l [] = 0
times_in l (part ∷ parts) = is_label l part + times_in l parts

-- the part's registers and its instruction's immediate fit their fields
abbrev pub FitsPart : Part → Type 0
FitsPart (Plain i) = Fits i
FitsPart (Label l) = Unit {0}
FitsPart (Branch op rs1 rs2 to) = IsRegister rs1 × IsRegister rs2
FitsPart (Jump rd to) = IsRegister rd

-- the label that a part goes to stands exactly once
abbrev pub GoesOnce : List Part → Part → Type 0
GoesOnce parts (Plain i) = Unit {0}
GoesOnce parts (Label l) = Unit {0}
GoesOnce parts (Branch op rs1 rs2 to) = times_in to parts ≡ 1
GoesOnce parts (Jump rd to) = times_in to parts ≡ 1

-- how many bytes a part needs with every branch and jump in its longest form
abbrev pub long_size : Part → ℕ
long_size (Plain i) = 4
long_size (Label l) = 0
long_size (Branch op rs1 rs2 to) = 12
long_size (Jump rd to) = 8

abbrev pub long_sizes : List Part → ℕ
long_sizes [] = 0
long_sizes (part ∷ parts) = long_size part + long_sizes parts

-- parts that can be resolved
pub record AreParts (parts : List Part) : Type 0 where
  pub fits : All FitsPart parts
  pub once : All (GoesOnce parts) parts
  pub size : long_sizes parts ≤ 2093056
