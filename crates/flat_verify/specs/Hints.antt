-- What the program keeps of what a list of steps tells.
use Rattle.std.specs.Prelude.{◌==◌, ℕ, List, [], ◌∷◌, Option, Some, None, if◌then◌else◌}
use Rattle.flat_verify.specs.declared.hints.Limit.{Limit}
use Rattle.flat_verify.specs.declared.hints.Test.{Test}
use Rattle.flat_verify.specs.declared.hints.SetBy.{SetBy}
use Rattle.flat_verify.specs.declared.hints.SetBy.TheVariants as by
use Rattle.flat_verify.specs.declared.hints.LastSet.{LastSet}
use Rattle.flat_verify.specs.declared.hints.Hints.{Hints}
use Rattle.flat_discipline.specs.Facts.{Guard, Origin, Here}

abbrev pub guard_written : Option Limit → Guard
guard_written None = Guard.Free
guard_written (Some l) = Guard.Under l.index l.count

abbrev pub test_written : Option Test → ℕ → Guard
test_written None c = Guard.Free
test_written (Some t) c = if c == t.value then Guard.Under t.limit.index t.limit.count else Guard.Free

abbrev pub origin_written : SetBy → Origin
origin_written by.Other = Origin.Other
origin_written (by.InFrame offset) = Origin.InFrame offset
origin_written (by.Constant x) = Origin.Constant x
origin_written (by.AtMost m) = Origin.AtMost m

abbrev pub origin_at : List LastSet → ℕ → Origin
origin_at [] v = Origin.Other
origin_at (s ∷ ss) v = if v == s.value then origin_written s.by else origin_at ss v

abbrev pub here_of : Hints → Here
here_of t = record { guard = guard_written t.guard; test = test_written t.test; origin = origin_at t.origins.items }
