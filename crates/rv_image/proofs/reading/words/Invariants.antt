use Rattle.std.proofs.Common.{◌≡◌, ◌+◌, ◌*◌, ◌++◌, ℕ, List, length}
use Rattle.rv_image.specs.Reading.{words_of}
use Rattle.rv_image.proofs.reading.words.Given as goal

pub record Kept (bytes list rest : List ℕ) : Type 0 where
  pub reads : list ++ words_of rest ≡ words_of bytes
  pub few : 4 * length list + length rest ≡ length bytes

abbrev pub invariant-loop-rest : goal.invariant-loop-rest
invariant-loop-rest l = Kept l.bytes l.list l.rest

abbrev pub decreases-loop-rest : goal.decreases-loop-rest
decreases-loop-rest l = length l.rest
