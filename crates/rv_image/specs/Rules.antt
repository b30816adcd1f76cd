-- The rules that the fields of an image keep.
use Rattle.std.specs.Prelude.{◌≡◌, ℕ, ◌+◌, ◌-◌, ◌*◌, ◌%◌, ◌^◌, ◌<◌, ◌≤◌, List, [], ◌∷◌, length}
use Rattle.rv_image.specs.declared.image.Image.{Image}
use Rattle.size_table.specs.declared.memory_map.TheConstants.{TEXT_START, TABLE_START, SLOT_EXPONENT}

-- how many bytes the blocks of these exponents have
abbrev pub total_size : List ℕ → ℕ
total_size [] = 0
total_size (e ∷ es) = 2 ^ e + total_size es

-- exponents from 4 on, none above the one before, nor the first above this one
abbrev pub Decline : ℕ → List ℕ → Type 0
Decline most [] = Unit {0}
Decline most (e ∷ es) = (4 ≤ e) × (e ≤ most) × Decline e es

-- each list is that of a frame: its blocks decline from 2^20 bytes at most, and have at most 4 MiB
abbrev pub AreFrames : List (List ℕ) → Type 0
AreFrames [] = Unit {0}
AreFrames (es ∷ frames) = Decline 20 es × (total_size es ≤ 4194304) × AreFrames frames

-- how many blocks the frames have
abbrev pub count_of : List (List ℕ) → ℕ
count_of [] = 0
count_of (es ∷ frames) = length es + count_of frames

-- the last byte is not zero
abbrev pub EndsNonzero : List ℕ → Type 0
EndsNonzero [] = Unit {0}
EndsNonzero (b ∷ []) = 0 < b
EndsNonzero (b ∷ c ∷ bs) = EndsNonzero (c ∷ bs)

-- The text lies below the size table and has the entry in it; the global blocks have at most 2 MiB, of which
-- the initial bytes are the first.
pub record IsImage (image : Image) : Type 0 where
  pub version : image.version ≡ 1
  pub entry_aligned : image.entry % 4 ≡ 0
  pub entry_low : TEXT_START ≤ image.entry
  pub entry_high : image.entry < TABLE_START
  pub globals_few : length image.globals ≤ 131072
  pub globals_decline : Decline 20 image.globals
  pub globals_fit : total_size image.globals ≤ 2097152
  pub frames_few : length image.frames ≤ 1000
  pub blocks_few : count_of image.frames ≤ 8192
  pub frames_fit : AreFrames image.frames
  pub initial_fits : length image.initial ≤ total_size image.globals
  pub initial_ends : EndsNonzero image.initial
  pub text_some : 1 ≤ length image.text
  pub text_fits : 4 * length image.text ≤ 2093056
  pub entry_within : image.entry - TEXT_START < 4 * length image.text

-- the exponent of the slots of an image's memory: a slot has so many bytes as its power
abbrev pub slot_of : Image → ℕ
slot_of image = SLOT_EXPONENT
