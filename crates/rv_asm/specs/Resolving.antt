-- How the places of parts are found.
use Rattle.std.specs.Prelude.{◌≡◌, ◌==◌, ℕ, suc, ◌+◌, ◌*◌, ◌%◌, ◌<◌, ◌≤◌, if◌then◌else◌}
use Rattle.std.specs.Prelude.{List, [], ◌∷◌, length, slice_index, slice_index_or, Option, Some, None, IsSome, All}
use Rattle.rv_code.specs.declared.instr.Instr.TheVariants.{Lui}
use Rattle.rv_asm.specs.declared.parts.Part.{Part}
use Rattle.rv_asm.specs.declared.parts.Part.TheVariants.{Plain, Label, Branch, Jump}
use Rattle.rv_asm.specs.Parts.{is_label, long_sizes}
use Rattle.rv_asm.specs.Text.{code_of}

-- a place of a text, or its end
pub record IsPlace (n : ℕ) : Type 0 where
  pub low : 4096 ≤ n
  pub high : n ≤ 2097152
  pub aligned : n % 4 ≡ 0

-- which part is the label: the first, or the number of parts if none is
abbrev pub index_of : ℕ → List Part → ℕ
index_of l [] = 0
index_of l (part ∷ parts) = if is_label l part == 1 then 0 else suc (index_of l parts)

-- the number of the part that a branch or a jump goes to
abbrev pub target_in : List Part → Part → ℕ
target_in parts (Plain i) = 0
target_in parts (Label l) = 0
target_in parts (Branch op rs1 rs2 l) = index_of l parts
target_in parts (Jump rd l) = index_of l parts

-- the part of a number; past the end the value does not matter
abbrev pub part_at : List Part → ℕ → Part
part_at parts k = slice_index_or parts k (Plain (Lui 0 0))

-- how many bytes a part has where the parts stand at these places
abbrev pub size_at : List Part → List ℕ → ℕ → ℕ
size_at parts places k = 4 * length (code_of (part_at parts k) (slice_index places k) (slice_index places (target_in parts (part_at parts k))))

-- where the labels stand, by the places of the parts
abbrev pub labels_by : List Part → List ℕ → ℕ → ℕ
labels_by parts places l = slice_index places (index_of l parts)

-- Better places for the parts, one after another, each in the form that reaches its label from these places; the last
-- one is the place behind all.
pub record AreNext (parts : List Part) (places next : List ℕ) : Type 0 where
  pub first : slice_index next 0 ≡ 4096
  pub each : (k : ℕ) → k < length parts → slice_index next (k + 1) ≡ slice_index next k + size_at parts places k
  pub last : slice_index next (length parts) ≤ 4096 + long_sizes parts

-- where a map from labels to numbers of parts sends a part
abbrev pub number_in : Option ℕ → ℕ
number_in None = 0
number_in (Some k) = k

abbrev pub target_by : (ℕ → Option ℕ) → Part → ℕ
target_by look (Plain i) = 0
target_by look (Label l) = 0
target_by look (Branch op rs1 rs2 l) = number_in (look l)
target_by look (Jump rd l) = number_in (look l)

-- a look-up to which a part was added
abbrev pub with_part : ℕ → Part → (ℕ → Option ℕ) → ℕ → Option ℕ
with_part k (Label n) look l = if n == l then Some k else look l
with_part k (Plain i) look l = look l
with_part k (Branch op rs1 rs2 to) look l = look l
with_part k (Jump rd to) look l = look l

-- the look-up has the labels of the first parts: each of them, and nothing else
pub record Indexes (parts : List Part) (count : ℕ) (look : ℕ → Option ℕ) : Type 0 where
  pub has : (l k : ℕ) → k < count → part_at parts k ≡ Label l → IsSome (look l)
  pub only : (l k : ℕ) → look l ≡ Some k → (k < count) × (part_at parts k ≡ Label l)

-- the numbers of the parts that the parts go to
pub record AreTargets (parts : List Part) (targets : List ℕ) : Type 0 where
  pub count : length targets ≡ length parts
  pub each : (k : ℕ) → k < length parts → slice_index targets k ≡ target_in parts (part_at parts k)
  pub within : (k : ℕ) → k < length parts → slice_index targets k ≤ length parts

-- one place for each part, and one behind all; none is past the end of the text's region
pub record ArePlaces (parts : List Part) (places : List ℕ) : Type 0 where
  pub count : length places ≡ length parts + 1
  pub high : All (λ place. place ≤ 2097152) places
