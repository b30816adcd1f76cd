-- What a shelf in memory shows.
use Rattle.std.specs.Prelude.{◌≡◌, ℕ, ◌-◌, min, Bool, true, false, List, length, Option, Some, None, Vec}
use Rattle.std.specs.declared.result.Result.{Result}
use Rattle.std.specs.declared.result.Result.TheVariants.{Ok, Err}
use Rattle.std.specs.BTreeMap.{get_by_text}
use Rattle.bb_outside.specs.Causes.{counted}
use Rattle.bb_outside.specs.Files.{Told, Untold, Missing, Holds}
use Rattle.bb_outside.specs.declared.ShelfFailed.{ShelfFailed}
use Rattle.bb_outside.specs.declared.ShelfFailed.TheVariants.{Fault, Memory}
use Rattle.bb_outside.specs.declared.mem_shelf.MemShelf.{MemShelf}

abbrev pub told_of : {A : Type 0} → Option (Vec ℕ A) → Told
told_of None = Missing
told_of (Some bytes) = Holds bytes.items

-- the file of a name
abbrev pub file_of : MemShelf → List ℕ → Told
file_of shelf name = told_of (get_by_text shelf.files name)

-- the numbers of the calls that fail
abbrev pub failing_of : MemShelf → List ℕ
failing_of shelf = shelf.failing.items

-- how many calls there were
abbrev pub calls_of : MemShelf → ℕ
calls_of shelf = shelf.calls

-- how many of them failed
abbrev pub faults_of : MemShelf → ℕ
faults_of shelf = shelf.faults

-- how many of them asked for a file that is not there
abbrev pub misses_of : MemShelf → ℕ
misses_of shelf = shelf.misses

-- whether a call answered that the shelf failed
abbrev pub is_fault : {T : Type 0} → Result T ShelfFailed → Bool
is_fault (Ok value) = false
is_fault (Err Fault) = true
is_fault (Err Memory) = false

-- whether a read answered that there is no such file
abbrev pub is_miss : Result (Option ℕ) ShelfFailed → Bool
is_miss (Ok None) = true
is_miss (Ok (Some count)) = false
is_miss (Err e) = false

-- a count that rises by one where something happened
abbrev pub raised : Bool → ℕ → ℕ
raised true n = counted n
raised false n = n

-- a read fills the buffer as far as the file goes
abbrev pub Fills : Told → ℕ → List ℕ → Result (Option ℕ) ShelfFailed → Type 0
Fills Untold at buffer result = Unit {0}
Fills Missing at buffer result = Unit {0}
Fills (Holds bytes) at buffer (Ok None) = Unit {0}
Fills (Holds bytes) at buffer (Ok (Some count)) = count ≡ min (length buffer) (length bytes - at)
Fills (Holds bytes) at buffer (Err e) = Unit {0}
