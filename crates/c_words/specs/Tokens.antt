-- The tokens of C, as the grammar reads them.
use Rattle.std.specs.Prelude.{ℕ, Bool, List}
use Rattle.c_words.specs.declared.place.At.{At}
use Rattle.c_words.specs.declared.words.Keyword as keywords
use Rattle.c_words.specs.declared.words.Punctuator as punctuators

-- A token with its value (C11 6.4): the bytes of an identifier; a constant's number and whether it is unsigned; a
-- character constant's value; the bytes of a string without its final zero; a keyword; a punctuator.
pub data Token : Type 0 where
  Name : (bytes : List ℕ) → Token
  Number : (value : ℕ) → (is_unsigned : Bool) → Token
  Character : (value : ℕ) → Token
  StringLiteral : (bytes : List ℕ) → Token
  Keyword : (word : keywords.Keyword) → Token
  Punctuator : (mark : punctuators.Punctuator) → Token

-- a token with its number and its line
pub record Placed : Type 0 where
  pub token : Token
  pub at : At
