-- Names and what they stand for.
use Rattle.std.specs.Prelude.{ℕ, List, Option, None, Some, nat_eq}
use Rattle.std.specs.Cmp.Lexicographic.{pointwise}
use Rattle.std.specs.Map.{lookup}
use Rattle.std.specs.Borrow.{Bor}

-- what a name stands for: the first entry of that name
abbrev pub found : {A : Type 0} → List ℕ → List (List ℕ × A) → Option A
found x names = lookup (pointwise nat_eq x) names

-- an option of a borrow, as what it points to
abbrev pub option_at : {A B : Type 0} → (A → B) → Option (Bor A) → Option B
option_at f None = None
option_at f (Some b) = Some (f b.now)

-- the first of the two that is there
abbrev pub or_else : {A : Type 0} → Option A → Option A → Option A
or_else (Some x) o = Some x
or_else None o = o
