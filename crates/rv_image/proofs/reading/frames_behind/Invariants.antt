use Rattle.std.proofs.Common.{◌≡◌, ◌+◌, ◌-◌, ◌*◌, ◌≤◌, ℕ, List}
use Rattle.rv_image.specs.Reading.{frames_from}
use Rattle.rv_image.proofs.Loops.{with_frames}
use Rattle.rv_image.proofs.reading.frames_behind.Given as goal

pub record Kept (bytes : List ℕ) (list : List (List ℕ)) (count start i at left : ℕ) : Type 0 where
  pub reads : with_frames list (frames_from bytes (count - i) at left) ≡ frames_from bytes count start 8192
  pub place : at + left ≡ start + 4 * i + 8192
  pub few : left ≤ 8192

abbrev pub invariant-loop : goal.invariant-loop
invariant-loop l = Kept l.bytes l.list l.count l.start l.counter l.at l.left
