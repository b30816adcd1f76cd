-- Bytes that are copied and set in memory, one after another upwards.
use Rattle.std.specs.Prelude.{ℕ, zero, suc, ◌+◌, ◌%◌}
use Rattle.flat_code.specs.World.{Memory, with_byte}

-- n bytes are copied; each is read when those before it were written
abbrev pub copied_bytes : (n from to : ℕ) → Memory → Memory
copied_bytes zero from to memory = memory
copied_bytes (suc n) from to memory = copied_bytes n (from + 1) (to + 1) (with_byte memory to (memory from % 256))

-- n bytes become this one
abbrev pub set_bytes : (n at byte : ℕ) → Memory → Memory
set_bytes zero at byte memory = memory
set_bytes (suc n) at byte memory = set_bytes n (at + 1) byte (with_byte memory at byte)
