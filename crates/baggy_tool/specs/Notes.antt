-- What is written to the notes.
use Rattle.std.specs.Prelude.{◌≡◌, ◌≢◌, ℕ, List, [], ◌++◌, Option, Some}
use Rattle.std.specs.declared.result.Result.{Result}
use Rattle.std.specs.declared.result.Result.TheVariants.{Ok, Err}

-- the text stands at the end of what was written, where the sink tells that
abbrev pub IsAppended : List ℕ → Option (List ℕ) → Option (List ℕ) → Type 0
IsAppended text before after = (written : List ℕ) → before ≡ Some written → after ≡ Some (written ++ text)

-- a front of the text stands there, which is not all of it
abbrev pub IsCutOff : List ℕ → Option (List ℕ) → Option (List ℕ) → Type 0
IsCutOff text before after = (front rest : List ℕ) × (text ≡ front ++ rest) × (rest ≢ []) × IsAppended front before after

-- the text was written, or the sink failed before its end
abbrev pub Noted : {E : Type 0} → Result Unit E → List ℕ → Option (List ℕ) → Option (List ℕ) → Type 0
Noted (Ok done) text before after = IsAppended text before after
Noted (Err e) text before after = IsCutOff text before after
