-- The limits on nesting (C11 5.2.4.1 asks for 63 levels of brackets and 127 of blocks at least).
--
-- Each `(`, `[` and `{` opens a level; so does, for the operand behind it, a prefix operator, a cast (at its `)`),
-- `sizeof`, an assignment operator, `?` and `:`; the body of `if`, `else`, `while`, `do` and `for`, at its first token;
-- and a `*` of a declarator, up to the declarator's end. At most 200 levels are open. And the left operand of an
-- operator may not be too high.
use Rattle.std.specs.Prelude.{◌≡◌, ℕ, ◌<◌, Bool, true, false, nat_lt}
use Rattle.c_words.specs.declared.place.At.{At}
use Rattle.syntax_tree.specs.Syntax.{ExpressionTree}
use Rattle.syntax_tree.specs.SyntaxHeights.{height}

-- At which tokens the limits are kept. They are a parameter of the grammar: with `within_limits` the rules are what the
-- compiler accepts, with `without_limits` the grammar alone, and those between tell where the first limit is passed.
abbrev pub Limits : Type 0
Limits = At → Bool

abbrev pub within_limits : Limits
within_limits at = true

abbrev pub without_limits : Limits
without_limits at = false

-- kept at the tokens before this one
abbrev pub limits_before : ℕ → Limits
limits_before n at = nat_lt at.token n

-- how many levels are open
abbrev pub Level : Type 0
Level = ℕ

abbrev pub outermost : Level
outermost = 0

-- the token here may open a level, where so many are open
abbrev pub Opens : Limits → At → Level → Type 0
Opens limits at d = limits at ≡ true → d < 200

-- the tree may be the left operand of the binary, comma, assignment, `?` or postfix operator here
abbrev pub IsLow : Limits → At → ExpressionTree → Type 0
IsLow limits at a = limits at ≡ true → height a < 200
