-- Laws of places and literals.
use Rattle.std.specs.Prelude.{ℕ, ◌≤◌, List, length, Ok}
use Rattle.c_words.specs.Tokens.{Placed}
use Rattle.syntax_tree.specs.Syntax.{UnitTree}
use Rattle.syntax_tree.specs.GrammarLimits.{Limits}
use Rattle.syntax_tree.specs.Grammar.{Derives}
use Rattle.c_lexer.specs.Text.{Lexeme, Lexes, placed}
use Rattle.syntax_in_range.specs.InRange.{AreBytes, TokensInRange, InRange}

-- what derives from tokens in range is in range, whatever the limits on nesting
abbrev pub DerivedIsInRange : Type 0
DerivedIsInRange = (limits : Limits) (tokens : List Placed) (unit : UnitTree) → Derives limits tokens unit → TokensInRange tokens → InRange unit

-- The tokens of a text of bytes, if there are two or more, are in range. A text that is read has at most 1,048,576 bytes.
abbrev pub TokensAreInRange : Type 0
TokensAreInRange = (text : List ℕ) (tokens : List Lexeme) → Lexes text (Ok tokens) → AreBytes text → 2 ≤ length tokens
    → TokensInRange (placed tokens)

-- a file that derives from the tokens of a text of bytes is in range
abbrev pub TextIsInRange : Type 0
TextIsInRange =
    (limits : Limits) (text : List ℕ) (tokens : List Lexeme) (unit : UnitTree) → Lexes text (Ok tokens) → AreBytes text
    → Derives limits (placed tokens) unit
    → InRange unit
