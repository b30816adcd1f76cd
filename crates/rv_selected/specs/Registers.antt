-- Where things stand while selected code runs.
--
-- | x1 | the place to return to |
-- | x2 | the control frame of the call that runs: value i in its word i, the place to return to behind the values |
-- | x5 | a value that a step reads or has set; branches and jumps may change it |
-- | x6, x7, x12 to x16 | further words of one step, or of one sequence |
-- | x8 | the stack number |
-- | x9 | the word that a call returns |
-- | x10, x11, x17 | a call of the environment |
-- | x18 to x25 | the arguments of a call |
-- | x26 | where the size table begins |
-- | x31 | a place in the size table |
--
-- A call of the environment that enters a function may end the run, and what it enters is counted. So it comes before
-- anything is written to the control frame: then all frames lie in the region of the control stack.
use Rattle.std.specs.Prelude.{◌==◌, ℕ, ◌-◌, ◌%◌, ◌^◌, ◌||◌, Bool, nat_lt, nat_le, if◌then◌else◌, List, [], ◌∷◌}
use Rattle.bb_words.specs.Numbers.{sum, product, difference}
use Rattle.rv_asm.specs.Text.{upper_part, lower_part}
use Rattle.rv_code.specs.declared.instr.Instr.{Instr}
use Rattle.rv_code.specs.declared.instr.Instr.TheVariants.{Lui, Addi, Lw, Sw}

-- the offset of a value in the control frame, as a word
abbrev pub cell : ℕ → ℕ
cell v = product 4 v

-- the bytes of the control frame of a function with so many values, as a word
abbrev pub frame_bytes : ℕ → ℕ
frame_bytes values = sum (cell values) 4

-- the word of a number's negative
abbrev pub negative : ℕ → ℕ
negative n = difference 0 n

-- a value is loaded into a register, and stored from one
abbrev pub load : (register v : ℕ) → Instr
load register v = Lw register 2 (cell v)

abbrev pub store : (register v : ℕ) → Instr
store register v = Sw 2 register (cell v)

-- ---- Constants

-- the word is an immediate of 12 bits with a sign
abbrev pub is_short : ℕ → Bool
is_short n = nat_lt n 2048 || nat_le (2 ^ 32 - 2048) n

-- a register becomes a word, in as few instructions as it goes: ADDI, LUI, or both
abbrev pub constant : (register n : ℕ) → List Instr
constant register n =
    if is_short n then Addi register 0 n ∷ []
    else if n % 4096 == 0 then Lui register n ∷ []
    else Lui register (upper_part n) ∷ Addi register register (lower_part n) ∷ []
