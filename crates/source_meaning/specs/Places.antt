-- Blocks of the heap by their addresses.
use Rattle.std.specs.Prelude.{◌==◌, ℕ, Bool, true, false, if◌then◌else◌, List, [], ◌∷◌}
use Rattle.size_table.specs.Blocks.{Block}

-- whether one of the blocks begins there
abbrev pub starts_at : ℕ → List Block → Bool
starts_at at [] = false
starts_at at (b ∷ bs) = if b.base == at then true else starts_at at bs
