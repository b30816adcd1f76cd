-- What is done with ranges of bytes: copies (C11 6.5.16.1 p2, 7.24.2.1), sets (7.24.6.1) and initializers (6.7.9).
use Rattle.std.specs.Prelude.{ℕ, zero, suc, ◌+◌, ◌-◌, ◌%◌, nat_lt, if◌then◌else◌, List, Option, Some, None}
use Rattle.size_table.specs.declared.memory_map.TheConstants.{MOST_BYTES}
use Rattle.bb_words.specs.Answers.{Goes, Ends, and_then}
use Rattle.bb_words.specs.Numbers.{signed}
use Rattle.bb_words.specs.Steps.{size_of_width}
use Rattle.bb_words.specs.declared.kinds.ReportKind.TheVariants.{Bounds}
use Rattle.bb_words.specs.declared.steps.Width.{Width}
use Rattle.source_meaning.specs.declared.values.Pointer.{Pointer}
use Rattle.source_meaning.specs.declared.values.Value.{Value}
use Rattle.source_meaning.specs.declared.values.Cell.{Cell}
use Rattle.source_meaning.specs.declared.values.OutsideCause.TheVariants.{Kind}
use Rattle.source_meaning.specs.declared.values.Ending.TheVariants.{Reported}
use Rattle.source_meaning.specs.Objects.{Object, Cells, cleared, copied, all_set, with_cells, stored_cells}
use Rattle.source_meaning.specs.Worlds.{World, Does, outside, object_at}
use Rattle.source_meaning.specs.Moves.{move}
use Rattle.source_meaning.specs.Accesses.{touch}

abbrev pub spanned : (g site line n : ℕ) → Pointer → ℕ × ℕ → World → Does (ℕ × ℕ)
spanned g site line n q first w =
    and_then (move g site line (signed (n - 1)) q w) (λ last w1. and_then (touch last w1) (λ b. Goes first))

-- The span of n bytes at a pointer, n at least 1: its first byte is touched, the pointer is moved to its last byte, and that
-- is touched. It gives the place of the first byte.
abbrev pub span : (g site line n : ℕ) → Pointer → World → Does (ℕ × ℕ)
span g site line n q w =
    if nat_lt MOST_BYTES n then Ends (Reported Bounds line) w else and_then (touch q w) (spanned g site line n q)

-- so many bytes were copied, set or cleared
abbrev pub with_bytes : ℕ → Cells → World → World
with_bytes n cs w = record w { cells = cs; bytes = w.bytes + n }

abbrev pub copied_to : (n : ℕ) → (source target : ℕ × ℕ) → World → Does Unit
copied_to n a b w = Goes tt (with_bytes n (copied n w.cells a.0 a.1 b.0 b.1) w)

-- n bytes are copied from one pointer to another: the span of the source, then that of the target, and then byte by byte
-- upwards, parts of pointers included. A copy of no bytes looks at neither pointer.
abbrev pub copy : (g site_source site_target line n : ℕ) → (target source : Pointer) → World → Does Unit
copy g a b line zero q r w = Goes tt w
copy g a b line (suc n) q r w =
    and_then (span g a line (suc n) r w) (λ from w1. and_then (span g b line (suc n) q w1) (copied_to (suc n) from))

abbrev pub set_at : (n byte : ℕ) → (target : ℕ × ℕ) → World → Does Unit
set_at n byte a w = Goes tt (with_bytes n (all_set n w.cells a.0 a.1 byte) w)

-- n bytes are set to the low 8 bits of a number
abbrev pub fill : (g site line n byte : ℕ) → Pointer → World → Does Unit
fill g site line zero byte q w = Goes tt w
fill g site line (suc n) byte q w = and_then (span g site line (suc n) q w) (set_at (suc n) (byte % 256))

-- ---- Initializers. They write into objects that a program names, and are no moves.

abbrev pub length_in : Option Object → ℕ
length_in None = 0
length_in (Some o) = o.length

-- a whole object is set to zero (6.7.9 p21)
abbrev pub clear : (k : ℕ) → World → Does Unit
clear k w = Goes tt (with_bytes (length_in (object_at w k)) (cleared w.cells k) w)

abbrev pub initialized_with : (k i n : ℕ) → Option (List Cell) → World → Does Unit
initialized_with k i n None w = outside Kind w
initialized_with k i n (Some cs) w = Goes tt (with_bytes n (with_cells w.cells k i cs) w)

-- a scalar part of an object gets a value
abbrev pub initialize : (k i : ℕ) → Width → Value → World → Does Unit
initialize k i width v w = initialized_with k i (size_of_width width) (stored_cells width v) w
