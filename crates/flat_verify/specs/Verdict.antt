-- The first demand that is not met: the answer of a verifier that has a table.
use Rattle.std.specs.Prelude.{◌<◌, ℕ, Bool, false, not, ◌||◌, List, [], ◌∷◌, Option, Some, None, nat_lt, if◌then◌else◌}
use Rattle.flat_code.specs.Code.{FFunction}
use Rattle.flat_discipline.specs.Items.{items_of}
use Rattle.flat_discipline.specs.Facts.{Fact, Setting}
use Rattle.flat_discipline.specs.Closed.{Known}
use Rattle.flat_verify.specs.Links.{Demand, demand, demands_all}
use Rattle.flat_discipline.specs.Discipline.{function_fits}

-- the demands of a function: that of what it is as a whole, and those of its steps
abbrev pub function_demands : (g : ℕ) → Setting → (main number : ℕ) → FFunction → List Demand
function_demands g s main number f = demand 0 0 (function_fits main number f) [] ∷ demands_all g s 0 (items_of g f.body) 0

abbrev pub any_unknown : Known → List Fact → Bool
any_unknown K [] = false
any_unknown K (x ∷ xs) = not (K x) || any_unknown K xs

abbrev pub is_unmet : (T : ℕ → Known) → Demand → Bool
is_unmet T d = not d.fits || any_unknown (T d.at) d.facts

-- the lower of the two
abbrev pub lower : Option ℕ → ℕ → Option ℕ
lower None q = Some q
lower (Some p) q = if nat_lt q p then Some q else Some p

-- the first place of a demand that is not met, or the one found before
abbrev pub first_unmet : (T : ℕ → Known) → Option ℕ → List Demand → Option ℕ
first_unmet T found [] = found
first_unmet T found (d ∷ ds) = first_unmet T (if is_unmet T d then lower found d.place else found) ds

-- the answer is the first number that is bad, or there is none
abbrev pub FirstOf : (ℕ → Type 0) → Option ℕ → Type 0
FirstOf Bad None = (q : ℕ) → Bad q → ⊥
FirstOf Bad (Some a) = Bad a × ((q : ℕ) → q < a → Bad q → ⊥)
