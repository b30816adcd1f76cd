use Rattle.std.proofs.Common.{◌≡◌, ◌+◌, ◌-◌, length, get_or}
use Rattle.rv_asm.specs.Parts.{long_sizes}
use Rattle.rv_asm.specs.Resolving.{ArePlaces}
use Rattle.rv_asm.proofs.Growing.{IsSettling}
use Rattle.rv_asm.proofs.places.improve.Given as goal

abbrev pub invariant-better : goal.invariant-better
invariant-better l = IsSettling l.parts l.places × ArePlaces l.parts l.places × (get_or l.next 0 0 ≡ 4096)

abbrev pub decreases-better : goal.decreases-better
decreases-better l = 4096 + long_sizes l.parts - get_or l.places (length l.parts) 0
