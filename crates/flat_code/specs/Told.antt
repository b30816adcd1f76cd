-- What a run of flat code tells, and when. Output and events stand in one list, in the order in which they came, each
-- with the time at which it came.
use Rattle.std.specs.Prelude.{◌≡◌, ℕ, ◌≤◌, Bool, List, [], ◌∷◌, ◌++◌}

pub data Tell : Type 0 where
  Output : (byte : ℕ) → Tell
  -- a statement of this line begins
  Line : (line : ℕ) → Tell
  -- a pointer was moved and checked
  Move : (from to : ℕ) → Tell
  -- so many bytes were read, or written
  Access : (at size : ℕ) → (write : Bool) → Tell
  -- a block of 2 ^ exponent bytes was made, or ended
  Made : (at exponent : ℕ) → Tell
  Ended : (at exponent : ℕ) → Tell

pub record Stamped : Type 0 where
  pub time : ℕ
  pub what : Tell

abbrev pub tells : List Stamped → List Tell
tells [] = []
tells (x ∷ xs) = x.what ∷ tells xs

-- the bytes of the output
abbrev pub output_of : List Tell → List ℕ
output_of [] = []
output_of (Tell.Output byte ∷ ts) = byte ∷ output_of ts
output_of (Tell.Line line ∷ ts) = output_of ts
output_of (Tell.Move from to ∷ ts) = output_of ts
output_of (Tell.Access at size write ∷ ts) = output_of ts
output_of (Tell.Made at exponent ∷ ts) = output_of ts
output_of (Tell.Ended at exponent ∷ ts) = output_of ts

-- a mark of the trail: a statement that begins, or a move as the pair of its words
pub data Mark : Type 0 where
  Begun : (line : ℕ) → Mark
  Pair : (from to : ℕ) → Mark

-- the statements begun and the moves
abbrev pub trail_of : List Tell → List Mark
trail_of [] = []
trail_of (Tell.Output byte ∷ ts) = trail_of ts
trail_of (Tell.Line line ∷ ts) = Mark.Begun line ∷ trail_of ts
trail_of (Tell.Move from to ∷ ts) = Mark.Pair from to ∷ trail_of ts
trail_of (Tell.Access at size write ∷ ts) = trail_of ts
trail_of (Tell.Made at exponent ∷ ts) = trail_of ts
trail_of (Tell.Ended at exponent ∷ ts) = trail_of ts

-- a list begins with another
pub record Begins {A : Type 0} (list front : List A) : Type 0 where
  pub rest : List A
  pub is : list ≡ front ++ rest

-- everything came by the time
abbrev pub AllBy : (time : ℕ) → List Stamped → Type 0
AllBy time [] = Unit {0}
AllBy time (x ∷ xs) = (x.time ≤ time) × AllBy time xs

-- what was told begins with these, and they came by the time
pub record Came (told : List Stamped) (time : ℕ) (front : List Stamped) : Type 0 where
  pub rest : List Stamped
  pub is : told ≡ front ++ rest
  pub by : AllBy time front
