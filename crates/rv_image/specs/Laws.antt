-- Laws of the format.
use Rattle.std.specs.Prelude.{◌≡◌, ℕ, ◌<◌, List, ◌∷◌, ◌++◌, length, slice_index, Ok, Err}
use Rattle.rv_image.specs.declared.image.Image.{Image}
use Rattle.rv_image.specs.declared.error.ImageError.TheVariants.{Extra}
use Rattle.rv_image.specs.Rules.{IsImage}
use Rattle.rv_image.specs.Spelling.{spelling, AreWords}
use Rattle.rv_image.specs.Reading.{image_of}

abbrev pub SpelledIsRead : Type 0
SpelledIsRead = (image : Image) → IsImage image → AreWords image.text → image_of (spelling image) ≡ Ok image

abbrev pub ReadIsSpelled : Type 0
ReadIsSpelled = (bytes : List ℕ) (image : Image) → ((i : ℕ) → slice_index bytes i < 256) → image_of bytes ≡ Ok image → IsImage image
    × AreWords image.text × (bytes ≡ spelling image)

abbrev pub OneImage : Type 0
OneImage = (a b : Image) → IsImage a → IsImage b → AreWords a.text → AreWords b.text → spelling a ≡ spelling b → a ≡ b

abbrev pub GoesOn : Type 0
GoesOn = (image : Image) (b : ℕ) (rest : List ℕ) → IsImage image → AreWords image.text
    → image_of (spelling image ++ b ∷ rest) ≡ Err (Extra (length (spelling image)))
