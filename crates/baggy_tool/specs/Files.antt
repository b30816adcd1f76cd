-- The bytes of a file that were read.
use Rattle.std.specs.Prelude.{◌≡◌, ◌+◌, ◌≤◌, List, ℕ, length, take}
use Rattle.bb_outside.specs.Files.{Told, Untold, Missing, Holds}

-- how many bytes a source may have
abbrev pub most_source : ℕ
most_source = 1048576

-- how many bytes an image may have
abbrev pub most_image : ℕ
most_image = 4333500

-- The text is the file's, or, of a file that has more than so many bytes, the first of them and one more. A shelf that
-- doesn't tell its files may have given any text that is no longer.
abbrev pub IsFile : ℕ → Told → List ℕ → Type 0
IsFile most Untold text = length text ≤ most + 1
IsFile most Missing text = ⊥
IsFile most (Holds bytes) text = text ≡ take (most + 1) bytes

-- there is no such file
abbrev pub IsAbsent : Told → Type 0
IsAbsent Untold = Unit {0}
IsAbsent Missing = Unit {0}
IsAbsent (Holds bytes) = ⊥
