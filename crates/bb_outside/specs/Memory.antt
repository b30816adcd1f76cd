-- What a source and a sink in memory are.
use Rattle.std.specs.Prelude.{◌≡◌, ℕ, Bool, true, false, List, [], ◌∷◌, refl}
use Rattle.std.proofs.lemmas.Bool.{false≢true}

-- the bytes not yet taken, the numbers of the calls that fail, and how many calls there were and how many failed
pub record SourceInMemory : Type 0 where
  pub left : List ℕ
  pub failing : List ℕ
  pub calls : ℕ
  pub faults : ℕ

-- what was written, how many bytes have room, the numbers of the calls that fail, and how many calls there were and
-- how many failed
pub record SinkInMemory : Type 0 where
  pub written : List ℕ
  pub room : ℕ
  pub failing : List ℕ
  pub calls : ℕ
  pub faults : ℕ

abbrev pub is_empty : List ℕ → Bool
is_empty [] = true
is_empty (byte ∷ bytes) = false

pub empty_is_nil : (bytes : List ℕ) → is_empty bytes ≡ true → bytes ≡ []
empty_is_nil [] h = refl
empty_is_nil (byte ∷ bytes) h = absurd (false≢true h)
