-- What flat code works on: memory as bytes, the blocks that live, and the words of the call that runs; and how a run of
-- it answers.
use Rattle.std.specs.Prelude.{◌==◌, ℕ, zero, suc, ◌+◌, ◌-◌, ◌*◌, ◌/◌, ◌%◌, ◌^◌, ◌&&◌}
use Rattle.std.specs.Prelude.{Bool, List, [], ◌∷◌, ◌++◌, nat_le, nat_lt, slice_index_or, if◌then◌else◌}
use Rattle.bb_words.specs.Answers.{Answer, either}
use Rattle.bb_words.specs.declared.kinds.ReportKind.{ReportKind}
use Rattle.bb_words.specs.declared.kinds.TrapKind.{TrapKind}
use Rattle.bb_words.specs.declared.steps.Width.{Width}
use Rattle.bb_words.specs.declared.steps.Width.TheVariants as width
use Rattle.size_table.specs.Blocks.{Block}
use Rattle.flat_code.specs.Told.{Tell, Stamped}

-- ---- Memory

-- the byte at each address
abbrev pub Memory : Type 0
Memory = ℕ → ℕ

abbrev pub with_byte : Memory → (at byte : ℕ) → Memory
with_byte memory at byte a = if a == at then byte else memory a

-- so many bytes from an address on
abbrev pub bytes_at : Memory → (at count : ℕ) → List ℕ
bytes_at memory at zero = []
bytes_at memory at (suc n) = memory at ∷ bytes_at memory (at + 1) n

abbrev pub with_bytes : Memory → (at : ℕ) → List ℕ → Memory
with_bytes memory at [] = memory
with_bytes memory at (byte ∷ bytes) = with_bytes (with_byte memory at byte) (at + 1) bytes

-- so many bytes from an address on are zero
abbrev pub zeroed : Memory → (at count : ℕ) → Memory
zeroed memory at count a = if nat_le at a && nat_lt a (at + count) then 0 else memory a

-- the number of bytes, the lowest first
abbrev pub number_of : List ℕ → ℕ
number_of [] = 0
number_of (byte ∷ bytes) = byte + 256 * number_of bytes

-- the so many lowest bytes of a word, the lowest first
abbrev pub bytes_of : (count word : ℕ) → List ℕ
bytes_of zero word = []
bytes_of (suc n) word = word % 256 ∷ bytes_of n (word / 256)

-- a number of 16 bits as a word, read in two's complement
abbrev pub sign_extended : ℕ → ℕ
sign_extended half = if nat_lt half (2 ^ 15) then half else half + (2 ^ 32 - 2 ^ 16)

-- the word that an access of a width reads
abbrev pub read : Width → Memory → (at : ℕ) → ℕ
read width.Byte memory at = number_of (bytes_at memory at 1)
read width.Half memory at = number_of (bytes_at memory at 2)
read width.SignedHalf memory at = sign_extended (number_of (bytes_at memory at 2))
read width.Word memory at = number_of (bytes_at memory at 4)
read width.Pointer memory at = number_of (bytes_at memory at 4)

-- ---- Words

-- the word of each value of a call
abbrev pub Words : Type 0
Words = ℕ → ℕ

abbrev pub with_word : Words → (value word : ℕ) → Words
with_word words value word v = if v == value then word else words v

-- in a new call the first values are the arguments, and all others are 0
abbrev pub arguments : List ℕ → Words
arguments args v = slice_index_or args v 0

-- ---- Worlds

pub record FWorld : Type 0 where
  pub memory : Memory
  -- the blocks that live, in the order in which they were made
  pub live : List Block
  -- how many calls are live, and the stack number
  pub depth : ℕ
  pub stack : ℕ
  -- what is left of the input
  pub input : List ℕ
  -- what was told, and how many instructions were done at most
  pub told : List Stamped
  pub time : ℕ

-- a world, with the words of the call that runs
pub record FPoint : Type 0 where
  pub world : FWorld
  pub words : Words

abbrev pub point : Words → FWorld → FPoint
point words world = record { world = world; words = words }

-- a value becomes a word
abbrev pub put : (value word : ℕ) → FPoint → FPoint
put value word u = point (with_word u.words value word) u.world

-- time goes on
abbrev pub spend : (time : ℕ) → FWorld → FWorld
spend time w = record w { time = w.time + time }

-- something is told
abbrev pub tell : Tell → FWorld → FWorld
tell what w = record w { told = w.told ++ (record { time = w.time; what = what } ∷ []) }

-- ---- Answers

-- How a run of flat code ends. It is Cut where it would need more turns or calls than it is given, and where code that
-- keeps no discipline does what has no meaning.
pub data Ending : Type 0 where
  Exited : (word : ℕ) → Ending
  Reported : (kind : ReportKind) → (line : ℕ) → Ending
  Trapped : (kind : TrapKind) → Ending
  Cut : Ending

abbrev pub Run : Type 0 → Type 0
Run A = Answer Ending FPoint A

-- one of two ways to go on from a point
abbrev pub choose : {A : Type 0} → Bool → (FPoint → A) → (FPoint → A) → FPoint → A
choose test first second = either test first second

-- How steps are left: at their end, out of the construct around them and so many further ones, or with the word that
-- the function returns.
pub data Way : Type 0 where
  On : Way
  Out : (further : ℕ) → Way
  Back : (word : ℕ) → Way

-- the steps that come next are done, if those before were left at their end
abbrev pub onward : Way → FPoint → (FPoint → Run Way) → Run Way
onward Way.On u go = go u
onward (Way.Out n) u go = Answer.Goes (Way.Out n) u
onward (Way.Back word) u go = Answer.Goes (Way.Back word) u

-- how a construct is left, by how the steps in it were
abbrev pub out_of : Way → Way
out_of Way.On = Way.On
out_of (Way.Out zero) = Way.On
out_of (Way.Out (suc n)) = Way.Out n
out_of (Way.Back word) = Way.Back word

-- after a turn of a loop comes the next one, if the turn came to its end
abbrev pub again : Way → FPoint → (FPoint → Run Way) → Run Way
again Way.On u go = go u
again (Way.Out n) u go = Answer.Goes (out_of (Way.Out n)) u
again (Way.Back word) u go = Answer.Goes (Way.Back word) u
