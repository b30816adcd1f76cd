-- How pointers are compared (C11 6.5.8, 6.5.9) and subtracted (6.5.6 p9), and which values are true.
use Rattle.std.specs.Prelude.{◌==◌, ℕ, Bool, true, false, not, ◌&&◌, if◌then◌else◌, ℤ, pos, ◌-ℤ◌, int_lt, int_div}
use Rattle.bb_words.specs.Answers.{Goes}
use Rattle.bb_words.specs.Numbers.{word_of}
use Rattle.bb_words.specs.Steps.{flag}
use Rattle.bb_words.specs.declared.steps.OrderOp.{OrderOp}
use Rattle.bb_words.specs.declared.steps.OrderOp.TheVariants as order
use Rattle.source_meaning.specs.declared.values.Pointer.{Pointer}
use Rattle.source_meaning.specs.declared.values.Pointer.TheVariants.{Null, To}
use Rattle.source_meaning.specs.declared.values.Value.{Value}
use Rattle.source_meaning.specs.declared.values.Value.TheVariants.{Num, Ptr}
use Rattle.source_meaning.specs.declared.values.OutsideCause.TheVariants.{Dead, Across}
use Rattle.source_meaning.specs.Objects.{same_pointer}
use Rattle.source_meaning.specs.Worlds.{World, Does, outside, with_pointer, is_sound}

-- goes on with two pointers, each null or to a live object
abbrev pub with_sound : {A : Type 0} → (Pointer → Pointer → World → Does A) → Pointer → Pointer → World → Does A
with_sound f q r w = if is_sound w q && is_sound w r then f q r w else outside Dead w

abbrev pub comparing : {A : Type 0} → (Pointer → Pointer → World → Does A) → Value → Value → World → Does A
comparing f v x w = with_pointer v (λ q. with_pointer x (λ r. with_sound f q r)) w

-- 6.5.9 p6: whether two pointers are both null, or point to one place of one object: 1 or 0
abbrev pub same : Value → Value → World → Does Value
same v x w = comparing (λ q r. Goes (Num (flag (same_pointer q r)))) v x w

-- 6.5.8 p5: pointers are ordered and subtracted only within one object
abbrev pub within_one : (ℤ → ℤ → ℕ) → Pointer → Pointer → World → Does Value
within_one f Null r w = outside Across w
within_one f (To j y) Null w = outside Across w
within_one f (To j y) (To k z) w = if j == k then Goes (Num (f y z)) w else outside Across w

abbrev pub is_ordered : OrderOp → ℤ → ℤ → Bool
is_ordered order.Below y z = int_lt y z
is_ordered order.AtMost y z = not (int_lt z y)
is_ordered order.Above y z = int_lt z y
is_ordered order.AtLeast y z = not (int_lt y z)

-- 6.5.8 p6: 1 or 0
abbrev pub ordered : OrderOp → Value → Value → World → Does Value
ordered o v x w = comparing (within_one (λ y z. flag (is_ordered o y z))) v x w

-- 6.5.6 p9: how many elements of a size lie between two pointers, rounded toward zero
abbrev pub elements_between : (size : ℕ) → Value → Value → World → Does Value
elements_between size v x w = comparing (within_one (λ y z. word_of (int_div (y -ℤ z) (pos size)))) v x w

-- 6.8.4.1 p2: a value is true if it compares unequal to 0
abbrev pub truth : Value → World → Does Bool
truth (Num n) w = Goes (not (n == 0)) w
truth (Ptr Null) w = Goes false w
truth (Ptr (To k z)) w = if is_sound w (To k z) then Goes true w else outside Dead w
