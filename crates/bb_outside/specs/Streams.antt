-- What a source has left, and what a sink has been given.
use Rattle.std.specs.Prelude.{◌≡◌, ◌≢◌, ℕ, ◌<◌, ◌≤◌, Bool, true, false, List, [], ◌∷◌, ◌++◌, take, length, Option, Some, None}
use Rattle.std.specs.declared.result.Result.{Result}
use Rattle.std.specs.declared.result.Result.TheVariants.{Ok, Err}

-- The first of the bytes that are left is taken. None is taken where none is left, and at a failure.
-- A source that does not tell what is left says nothing.
abbrev pub Takes : {E : Type 0} → Option (List ℕ) → Option (List ℕ) → Result (Option ℕ) E → Type 0
Takes None after result = Unit {0}
Takes (Some []) after (Ok None) = after ≡ Some []
Takes (Some []) after (Ok (Some byte)) = ⊥
Takes (Some (first ∷ rest)) after (Ok None) = ⊥
Takes (Some (first ∷ rest)) after (Ok (Some byte)) = (byte ≡ first) × (after ≡ Some rest)
Takes (Some bytes) after (Err e) = after ≡ Some bytes

-- A source that answered that none is left is over, and then no byte comes any more.
abbrev pub Ends : {E : Type 0} → Bool → Bool → Result (Option ℕ) E → Type 0
Ends over after (Ok None) = after ≡ true
Ends over after (Ok (Some byte)) = over ≡ false
Ends over after (Err e) = over ≡ true → after ≡ true

-- How many bytes of a piece a sink takes: at least one, unless the piece is empty, and then it doesn't fail.
abbrev pub TakesSome : {E : Type 0} → List ℕ → Result ℕ E → Type 0
TakesSome piece (Ok count) = (count ≤ length piece) × (0 < length piece → 0 < count)
TakesSome piece (Err e) = piece ≢ []

-- So many first bytes of the piece stand at the end of what was written, and none at a failure.
abbrev pub Puts : {E : Type 0} → Option (List ℕ) → Option (List ℕ) → List ℕ → Result ℕ E → Type 0
Puts None after piece result = Unit {0}
Puts (Some written) after piece (Ok count) = after ≡ Some (written ++ take count piece)
Puts (Some written) after piece (Err e) = after ≡ Some written
