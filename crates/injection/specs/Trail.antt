-- When what code over words has told is what a run over objects left behind.
use Rattle.std.specs.Prelude.{◌≡◌, ℕ, Bool, true, false, List, [], ◌∷◌}
use Rattle.source_meaning.specs.Objects.{Object}
use Rattle.source_meaning.specs.Worlds.{Mark, Line, Moved, World}
use Rattle.flat_code.specs.Told.{Stamped, tells, output_of, trail_of}
use Rattle.flat_code.specs.Told as Told
use Rattle.flat_code.specs.Told.Mark.{Begun, Pair}
use Rattle.injection.specs.Words.{word_of}
use Rattle.injection.specs.Memory.{IsPointer}

-- The sites whose moves are not checked.
abbrev pub SafeSites : Type 0
SafeSites = (site : ℕ) → Bool

abbrev pub pair_unless : Bool → (from to : ℕ) → List Told.Mark → List Told.Mark
pair_unless true from to marks = marks
pair_unless false from to marks = Pair from to ∷ marks

-- The image of a trail: the lines of statements, and each move that is checked as the pair of its words.
abbrev pub image_trail : SafeSites → List Object → List Mark → List Told.Mark
image_trail safe os [] = []
image_trail safe os (Line line ∷ marks) = Begun line ∷ image_trail safe os marks
image_trail safe os (Moved site from to ∷ marks) = pair_unless (safe site) (word_of os from) (word_of os to) (image_trail safe os marks)

-- the pointers of a trail are in reach of objects that there are or were
abbrev pub TrailIsNamed : (g : ℕ) → List Object → List Mark → Type 0
TrailIsNamed g os [] = Unit {0}
TrailIsNamed g os (Line line ∷ marks) = TrailIsNamed g os marks
TrailIsNamed g os (Moved site from to ∷ marks) = IsPointer g os from × IsPointer g os to × TrailIsNamed g os marks

-- what was told has the output, and the image of the trail
pub record Says (safe : SafeSites) (w : World) (told : List Stamped) : Type 0 where
  pub said : output_of (tells told) ≡ w.output
  pub went : trail_of (tells told) ≡ image_trail safe w.objects w.trail
