use Rattle.std.proofs.Common.{◌≡◌, ◌+◌, ◌-◌, ◌≤◌, ℕ, List, length}
use Rattle.rv_image.specs.Rules.{total_size}
use Rattle.rv_image.specs.Reading.{exponents_at}
use Rattle.rv_image.proofs.Loops.{with_front}
use Rattle.rv_image.proofs.reading.exponents.Given as goal

pub record Kept (bytes list : List ℕ) (count at limit i most total : ℕ) : Type 0 where
  pub reads : with_front list (exponents_at bytes (count - i) (at + i) most (limit - total)) ≡ exponents_at bytes count at 20 limit
  pub most_fits : most ≤ 20
  pub counted : length list ≡ i
  pub sized : total ≡ total_size list
  pub within : total ≤ limit

abbrev pub invariant-loop-i : goal.invariant-loop-i
invariant-loop-i l = Kept l.bytes l.list l.count l.at l.limit l.i l.most l.total
