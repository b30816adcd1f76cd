-- How a pointer is moved. C11 6.5.6 p8 lets a pointer move within its object and one past its end. Here it may also move
-- through the padding of its object, to at most half a slot below it, and to less than half a slot past its padding: any
-- other move is reported, so a run never goes on with its result. A slot has 2 ^ g bytes.
use Rattle.std.specs.Prelude.{ℕ, ◌+◌, ◌-◌, ◌^◌, nat_lt, Bool, if◌then◌else◌, Option, Some, None, ℤ, pos, negsuc, ◌+ℤ◌}
use Rattle.bb_words.specs.Answers.{Goes, Ends}
use Rattle.bb_words.specs.declared.kinds.ReportKind.TheVariants.{Bounds}
use Rattle.bb_words.specs.Numbers.{signed, difference, product}
use Rattle.source_meaning.specs.declared.values.Pointer.{Pointer}
use Rattle.source_meaning.specs.declared.values.Pointer.TheVariants.{Null, To}
use Rattle.source_meaning.specs.declared.values.OutsideCause.TheVariants.{Dead}
use Rattle.source_meaning.specs.declared.values.Ending.TheVariants.{Reported}
use Rattle.source_meaning.specs.Objects.{Object}
use Rattle.source_meaning.specs.Worlds.{World, Does, outside, Moved, noted, object_at}

-- whether an offset is at least minus half a slot, and below the 2 ^ e bytes of the block and half a slot
abbrev pub is_within : (g e : ℕ) → ℤ → Bool
is_within g e (pos n) = nat_lt n (2 ^ e + 2 ^ (g - 1))
is_within g e (negsuc n) = nat_lt n (2 ^ (g - 1))

-- a move in an object, which is live or not
abbrev pub move_in : (g site line k : ℕ) → (offset distance : ℤ) → Option Object → World → Does Pointer
move_in g site line k z d None w = outside Dead w
move_in g site line k z d (Some o) w =
    if o.live then
    (if is_within g o.exponent (z +ℤ d) then Goes (To k (z +ℤ d)) (noted (Moved site (To k z) (To k (z +ℤ d))) w)
    else Ends (Reported Bounds line) w)
    else outside Dead w

-- A pointer is moved by so many bytes. The null pointer has no object to move in, which is reported.
abbrev pub move : (g site line : ℕ) → ℤ → Pointer → World → Does Pointer
move g site line d Null w = Ends (Reported Bounds line) w
move g site line d (To k z) w = move_in g site line k z d (object_at w k) w

-- The distance of a move by n elements of a size, up or down: the product wraps, and is then read with its sign.
abbrev pub distance : (down : Bool) → (size n : ℕ) → ℤ
distance down size n = signed (if down then difference 0 (product n size) else product n size)
