-- What bytes are the image of, or the first rule of the format that they break, and where.
--
-- The rules are looked at field by field. Where the bytes end before a field does, the field is short: it needs so many
-- bytes as there are up to its end. Each exponent is a field; so are the initial bytes as a whole and the words of the
-- text as a whole. A rule that is broken is told by the place of the field's first byte.
use Rattle.std.specs.Prelude.{◌≡◌, ◌==◌, ℕ, zero, suc, ◌+◌, ◌-◌, ◌*◌, ◌%◌, ◌^◌, List, [], ◌∷◌, length}
use Rattle.std.specs.Prelude.{slice_index, take, drop, Result, Ok, Err, Bool, true, not, ◌&&◌, nat_lt, nat_le, if◌then◌else◌}
use Rattle.std.specs.Int.{w32, from_le_bytes}
use Rattle.size_table.specs.declared.memory_map.TheConstants.{TEXT_START, TABLE_START}
use Rattle.rv_image.specs.declared.image.Image.{Image}
use Rattle.rv_image.specs.declared.error.ImageError.{ImageError}
use Rattle.rv_image.specs.declared.error.ImageError.TheVariants.{Short, BadMagic, BadVersion, BadField, Extra, Memory}
use Rattle.rv_image.specs.Rules.{total_size}
use Rattle.rv_image.specs.Spelling.{magic}

-- one after the other, up to the first error
infixl 10 ◌>>=◌
abbrev pub ◌>>=◌ : {A B : Type 0} → Result A ImageError → (A → Result B ImageError) → Result B ImageError
(Ok x) >>= f = f x
(Err e) >>= f = Err e

-- the error, unless the rule is kept
abbrev pub rule : Bool → ImageError → Result Unit ImageError
rule kept e = if kept then Ok tt else Err e

-- the field of so many bytes at a place
unfoldable pub field_at : List ℕ → ℕ → ℕ → Result (List ℕ) ImageError
field_at bytes at len = do
  long ← rule (nat_le (at + len) (length bytes)) (Short (at + len) (length bytes))
  Ok (take len (drop at bytes))

-- the number at a place: four bytes, the lowest first
unfoldable pub number_at : List ℕ → ℕ → Result ℕ ImageError
number_at bytes at = do
  field ← field_at bytes at 4
  Ok (from_le_bytes w32 field)

-- the magic, the version and the entry
abbrev pub is_entry : ℕ → Bool
is_entry n = (n % 4 == 0) && (nat_le TEXT_START n && nat_lt n TABLE_START)

unfoldable pub entry_of : List ℕ → Result ℕ ImageError
entry_of bytes = do
  letters ← number_at bytes 0
  same ← rule (letters == from_le_bytes w32 magic) BadMagic
  version ← number_at bytes 4
  known ← rule (version == 1) (BadVersion version)
  entry ← number_at bytes 8
  kept ← rule (is_entry entry) (BadField 8)
  Ok entry

-- an exponent of at least 4 and at most `most`, whose block has at most `room` bytes
abbrev pub is_exponent : ℕ → ℕ → ℕ → Bool
is_exponent e most room = nat_le 4 e && (nat_le e most && nat_le (2 ^ e) room)

unfoldable pub exponent_at : List ℕ → ℕ → ℕ → ℕ → Result ℕ ImageError
exponent_at bytes at most room = do
  long ← rule (nat_lt at (length bytes)) (Short (at + 1) (length bytes))
  kept ← rule (is_exponent (slice_index bytes at) most room) (BadField at)
  Ok (slice_index bytes at)

-- so many exponents, none above the one before; their blocks have at most `room` bytes
unfoldable pub exponents_at : List ℕ → ℕ → ℕ → ℕ → ℕ → Result (List ℕ) ImageError
exponents_at bytes zero at most room = Ok []
exponents_at bytes (suc n) at most room = do
  e ← exponent_at bytes at most room
  es ← exponents_at bytes n (at + 1) e (room - 2 ^ e)
  Ok (e ∷ es)

-- the exponents of the global objects behind their count
unfoldable pub globals_at : List ℕ → ℕ → Result (List ℕ) ImageError
globals_at bytes at = do
  count ← number_at bytes at
  few ← rule (nat_le count 131072) (BadField at)
  exponents_at bytes count (at + 4) 20 2097152

-- the exponents of a frame behind their count, where so many blocks are left
unfoldable pub frame_at : List ℕ → ℕ → ℕ → Result (List ℕ) ImageError
frame_at bytes at left = do
  count ← number_at bytes at
  few ← rule (nat_le count left) (BadField at)
  exponents_at bytes count (at + 4) 20 4194304

-- so many frames, and the place after them
unfoldable pub frames_from : List ℕ → ℕ → ℕ → ℕ → Result (List (List ℕ) × ℕ) ImageError
frames_from bytes zero at left = Ok ([], at)
frames_from bytes (suc n) at left = do
  frame ← frame_at bytes at left
  others ← frames_from bytes n (at + 4 + length frame) (left - length frame)
  Ok (frame ∷ others.0, others.1)

-- the frames behind their count, and the place after them
unfoldable pub frames_at : List ℕ → ℕ → Result (List (List ℕ) × ℕ) ImageError
frames_at bytes at = do
  count ← number_at bytes at
  few ← rule (nat_le count 1000) (BadField at)
  frames_from bytes count (at + 4) 8192

-- the last byte is not zero
abbrev pub ends_nonzero : List ℕ → Bool
ends_nonzero [] = true
ends_nonzero (b ∷ []) = not (b == 0)
ends_nonzero (b ∷ c ∷ bs) = ends_nonzero (c ∷ bs)

-- the initial bytes behind their count
unfoldable pub initial_at : List ℕ → ℕ → ℕ → Result (List ℕ) ImageError
initial_at bytes at most = do
  len ← number_at bytes at
  few ← rule (nat_le len most) (BadField at)
  field ← field_at bytes (at + 4) len
  kept ← rule (ends_nonzero field) (BadField (at + 3 + len))
  Ok field

-- the words of some bytes, four for each
abbrev pub words_of : List ℕ → List ℕ
words_of (a ∷ b ∷ c ∷ d ∷ bytes) = from_le_bytes w32 (a ∷ b ∷ c ∷ d ∷ []) ∷ words_of bytes
words_of bytes = []

-- the text has whole words, and the entry in it
abbrev pub is_text_size : ℕ → ℕ → Bool
is_text_size entry len = (len % 4 == 0) && (nat_le 4 len && (nat_le len 2093056 && nat_lt (entry - TEXT_START) len))

-- the words of the text behind the count of their bytes
unfoldable pub text_at : List ℕ → ℕ → ℕ → Result (List ℕ) ImageError
text_at bytes at entry = do
  len ← number_at bytes at
  kept ← rule (is_text_size entry len) (BadField at)
  field ← field_at bytes (at + 4) len
  Ok (words_of field)

-- no byte follows
unfoldable pub image_of : List ℕ → Result Image ImageError
image_of bytes = do
  entry ← entry_of bytes
  globals ← globals_at bytes 12
  frames ← frames_at bytes (16 + length globals)
  initial ← initial_at bytes frames.1 (total_size globals)
  text ← text_at bytes (frames.1 + 4 + length initial) entry
  ended ← rule (length bytes == frames.1 + 8 + length initial + 4 * length text) (Extra (frames.1 + 8 + length initial + 4 * length text))
  Ok (record { version = 1; entry = entry; globals = globals; frames = frames.0; initial = initial; text = text })

-- What a call returned is what reading gives, seen by `view`, unless memory ran out.
abbrev pub Fails : {Y : Type 0} → ImageError → Result Y ImageError → Type 0
Fails Memory read = Unit {0}
Fails e read = read ≡ Err e

abbrev pub GivesAs : {X Y : Type 0} → (X → Y) → Result X ImageError → Result Y ImageError → Type 0
GivesAs view (Ok x) read = read ≡ Ok (view x)
GivesAs view (Err e) read = Fails e read

abbrev pub Gives : {X : Type 0} → Result X ImageError → Result X ImageError → Type 0
Gives result read = GivesAs (λ x. x) result read
