use Rattle.std.proofs.Common.{◌≡◌, ◌<◌, ℕ, length, get_or}
use Rattle.rv_asm.specs.Resolving.{target_in, part_at}
use Rattle.rv_asm.proofs.labels.targets_of.Given as goal

abbrev pub invariant-loop-k : goal.invariant-loop-k
invariant-loop-k l = (length l.targets.items ≡ l.k) × ((j : ℕ) → j < l.k → get_or l.targets.items j 0 ≡ target_in l.parts (part_at l.parts j))
