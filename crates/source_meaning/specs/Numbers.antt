-- What the operators of C do with two numbers.
use Rattle.std.specs.Prelude.{◌==◌, ℕ, Bool, if◌then◌else◌}
use Rattle.bb_words.specs.Answers.{Goes, Ends}
use Rattle.bb_words.specs.declared.kinds.ReportKind.TheVariants.{DivZero}
use Rattle.c_words.specs.declared.operators.BinaryOperator.{BinaryOperator}
use Rattle.c_words.specs.declared.operators.BinaryOperator.TheVariants as op
use Rattle.typed_tree.specs.Numbers.{quotient, remainder, on_numbers}
use Rattle.source_meaning.specs.declared.values.Value.{Value}
use Rattle.source_meaning.specs.declared.values.Value.TheVariants.{Num}
use Rattle.source_meaning.specs.declared.values.Ending.TheVariants.{Reported}
use Rattle.source_meaning.specs.Worlds.{World, Does}

-- 6.5.5 p5: a division by zero is reported
abbrev pub unless_zero : (line divisor answer : ℕ) → World → Does Value
unless_zero line y answer w = if y == 0 then Ends (Reported DivZero line) w else Goes (Num answer) w

abbrev pub calculated : BinaryOperator → (is_unsigned : Bool) → (line : ℕ) → ℕ → ℕ → World → Does Value
calculated op.Divide u line x y w = unless_zero line y (quotient u x y) w
calculated op.Remainder u line x y w = unless_zero line y (remainder u x y) w
calculated o u line x y w = Goes (Num (on_numbers o u x y)) w
