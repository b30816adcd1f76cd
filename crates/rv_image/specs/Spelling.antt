-- The bytes of an image. Each image has one spelling: its fields, one after the other, without gaps.
use Rattle.std.specs.Prelude.{ℕ, ◌*◌, ◌^◌, ◌<◌, List, [], ◌∷◌, ◌++◌, length}
use Rattle.std.specs.List.{flat_map}
use Rattle.std.specs.Int.{w32, to_le_bytes}
use Rattle.rv_image.specs.declared.image.Image.{Image}

-- the letters BAGY
abbrev pub magic : List ℕ
magic = 66 ∷ 65 ∷ 71 ∷ 89 ∷ []

-- a number has four bytes, the lowest first
unfoldable pub number : ℕ → List ℕ
number n = to_le_bytes w32 n

-- bytes behind their count
abbrev pub counted : List ℕ → List ℕ
counted bytes = number (length bytes) ++ bytes

-- the frames behind their count, and each of them as its exponents behind theirs
abbrev pub framed : List (List ℕ) → List ℕ
framed frames = number (length frames) ++ flat_map counted frames

-- the words behind the count of their bytes
abbrev pub worded : List ℕ → List ℕ
worded words = number (4 * length words) ++ flat_map number words

unfoldable pub spelling : Image → List ℕ
spelling image =
    magic ++ number image.version ++ number image.entry ++ counted image.globals ++ framed image.frames ++ counted image.initial ++ worded image.text

-- numbers of 32 bits, as those of any list of words are
abbrev pub AreWords : List ℕ → Type 0
AreWords [] = Unit {0}
AreWords (w ∷ ws) = (w < 2 ^ 32) × AreWords ws
