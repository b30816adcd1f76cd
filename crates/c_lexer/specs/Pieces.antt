-- What the text is made of: tokens, and the blanks, comments and directives between them (C11 6.4).
-- The bytes that are written as numbers: a line feed is 10, `"` 34, `#` 35, `'` 39, `*` 42, `/` 47, a backslash 92, `x` 120.
use Rattle.std.specs.Prelude.{◌≡◌, ◌≢◌, ◌⊎◌, ℕ, not, ◌<◌, ◌≤◌, Bool, true, false, ◌||◌}
use Rattle.std.specs.Prelude.{◌&&◌, ◌==◌, List, [], ◌∷◌, ◌++◌, length, Option, Some, None, codes}
use Rattle.c_words.specs.declared.words.Punctuator.{Punctuator}
use Rattle.c_words.specs.declared.words.Keyword.{Keyword}
use Rattle.c_words.specs.Tokens.{Token}
use Rattle.c_lexer.specs.declared.fault.Fault.{Fault}
use Rattle.c_lexer.specs.declared.fault.Fault.TheVariants as faults
use Rattle.c_lexer.specs.Bytes.{is_blank, is_gap, is_letter, is_digit, is_word, continues_number, is_digit_of, IsRun, IsRunOf}
use Rattle.c_lexer.specs.Numbers.{value_of, AreDigits, IsNumber}
use Rattle.c_lexer.specs.Words.{keywords, punctuators}

-- ---- tables of spellings

-- a row of a table
pub data IsRow {A : Type 0} (spelling : List ℕ) (a : A) : List (List ℕ × A) → Type 0 where
  here : (rows : List (List ℕ × A)) → IsRow spelling a ((spelling, a) ∷ rows)
  there : (row : List ℕ × A) (rows : List (List ℕ × A)) → IsRow spelling a rows → IsRow spelling a (row ∷ rows)

-- the text begins with the spelling
abbrev pub begins : List ℕ → List ℕ → Bool
begins [] text = true
begins (s ∷ spelling) [] = false
begins (s ∷ spelling) (b ∷ text) = (s == b) && begins spelling text

-- a punctuator's spelling in front of the text, and no longer one is there
pub record IsLongest (spelling : List ℕ) (mark : Punctuator) (text : List ℕ) : Type 0 where
  pub is_punctuator : IsRow spelling mark punctuators
  pub at_front : begins spelling text ≡ true
  pub longest : (other : List ℕ) (mark : Punctuator) → IsRow other mark punctuators → begins other text ≡ true
      → length other ≤ length spelling

-- no punctuator is in front of the text
abbrev pub HasNoMark : List ℕ → Type 0
HasNoMark text = (spelling : List ℕ) (mark : Punctuator) → IsRow spelling mark punctuators → begins spelling text ≡ true → ⊥

-- An identifier's spelling is that of a keyword, or a name (C11 6.4.1, 6.4.2).
pub data IsIdentifier (spelling : List ℕ) : Token → Type 0 where
  keyword : (word : Keyword) → IsRow spelling word keywords → IsIdentifier spelling (Token.Keyword word)
  name : ((word : Keyword) → IsRow spelling word keywords → ⊥) → IsIdentifier spelling (Token.Name spelling)

-- ---- items one after another

-- The spelling is that of items one after another in front of the rest, where an item is known by its spelling, the
-- text after it and its value.
pub data Items {X : Type 0} (IsItem : List ℕ → List ℕ → X → Type 0) (rest : List ℕ) : List ℕ → List X → Type 0 where
  done : Items IsItem rest [] []
  more : (s spelling : List ℕ) (x : X) (xs : List X) → IsItem s (spelling ++ rest) x → Items IsItem rest spelling xs
      → Items IsItem rest (s ++ spelling) (x ∷ xs)

-- ---- character constants and string literals (C11 6.4.4.4, 6.4.5)

-- a simple escape's letter, and its value (C11 5.2.2)
pub data IsSimple : ℕ → ℕ → Type 0 where
  alert : IsSimple 97 7
  backspace : IsSimple 98 8
  tab : IsSimple 116 9
  line_feed : IsSimple 110 10
  vertical_tab : IsSimple 118 11
  form_feed : IsSimple 102 12
  carriage_return : IsSimple 114 13
  double_quote : IsSimple 34 34
  single_quote : IsSimple 39 39
  question : IsSimple 63 63
  backslash : IsSimple 92 92

-- an escape without its backslash, in front of the rest, and its value
pub data IsEscape : List ℕ → List ℕ → ℕ → Type 0 where
  simple : (c : ℕ) (rest : List ℕ) (value : ℕ) → IsSimple c value → IsEscape (c ∷ []) rest value
  -- three octal digits
  three : (a b c : ℕ) (rest : List ℕ) (value : ℕ) → AreDigits 8 (a ∷ b ∷ c ∷ []) → value ≡ value_of 8 (a ∷ b ∷ c ∷ [])
      → value < 256 → IsEscape (a ∷ b ∷ c ∷ []) rest value
  -- fewer of them, where no other one follows
  fewer : (d : ℕ) (ds rest : List ℕ) (value : ℕ) → length ds < 2 → IsRunOf (is_digit_of 8) (d ∷ ds) rest
      → value ≡ value_of 8 (d ∷ ds) → value < 256 → IsEscape (d ∷ ds) rest value
  -- all hexadecimal digits that follow, at least one
  hexadecimal : (d : ℕ) (ds rest : List ℕ) (value : ℕ) → IsRunOf (is_digit_of 16) (d ∷ ds) rest
      → value ≡ value_of 16 (d ∷ ds) → value < 256 → IsEscape (120 ∷ d ∷ ds) rest value

-- an element between two quotes, in front of the rest, and its value
pub data IsElement (quote : ℕ) : List ℕ → List ℕ → ℕ → Type 0 where
  plain : (b : ℕ) (rest : List ℕ) → b ≢ quote → b ≢ 92 → b ≢ 10 → IsElement quote (b ∷ []) rest b
  escape : (s rest : List ℕ) (value : ℕ) → IsEscape s rest value → IsElement quote (92 ∷ s) rest value

-- the text, or its line, ends here, perhaps behind a backslash
pub data EndsLine : List ℕ → Type 0 where
  end_of_text : EndsLine []
  end_of_line : (rest : List ℕ) → EndsLine (10 ∷ rest)
  escaped_text : EndsLine (92 ∷ [])
  escaped_line : (rest : List ℕ) → EndsLine (92 ∷ 10 ∷ rest)

-- no escape stands behind the backslash, which does not end the line
pub data IsBadEscape : List ℕ → Type 0 where
  bad : (c : ℕ) (rest : List ℕ) → c ≢ 10
      → ((s after : List ℕ) (value : ℕ) → c ∷ rest ≡ s ++ after → IsEscape s after value → ⊥)
      → IsBadEscape (92 ∷ c ∷ rest)

-- ---- comments and directives

-- The comment's inside goes up to the next `*/` (C11 6.4.9).
abbrev pub IsNextEnd : List ℕ → List ℕ → Type 0
IsNextEnd inside rest = (a b : List ℕ) → inside ++ 42 ∷ 47 ∷ rest ≡ a ++ 42 ∷ 47 ∷ b → length inside ≤ length a

pub data IsComment : List ℕ → List ℕ → Type 0 where
  -- `/*` up to the next `*/`
  block : (inside rest : List ℕ) → IsNextEnd inside rest → IsComment (47 ∷ 42 ∷ (inside ++ 42 ∷ 47 ∷ [])) rest
  -- `//` up to the line feed, or the end of the text
  line : (inside rest : List ℕ) → IsRunOf (λ b. not (b == 10)) inside rest → IsComment (47 ∷ 47 ∷ inside) rest

-- neither comment begins here
abbrev pub BeginsNoComment : List ℕ → Type 0
BeginsNoComment text = (begins (codes "/*") text ≡ false) × (begins (codes "//") text ≡ false)

-- each byte is of the class
abbrev pub AllIn : (ℕ → Bool) → List ℕ → Type 0
AllIn is_in [] = Unit {0}
AllIn is_in (b ∷ bs) = (is_in b ≡ true) × AllIn is_in bs

-- the headers that may be included
pub data IsHeader : List ℕ → Type 0 where
  stdio : IsHeader (codes "<stdio.h>")
  stdlib : IsHeader (codes "<stdlib.h>")
  string : IsHeader (codes "<string.h>")

-- `#`, `include` and a header, with spaces and tabs between them (C11 6.10.2)
pub data IsDirective : List ℕ → Type 0 where
  include : (before between header : List ℕ) → AllIn is_gap before → AllIn is_gap between → IsHeader header
      → IsDirective (35 ∷ (before ++ codes "include" ++ between ++ header))

-- ---- pieces

abbrev pub IsQuote : ℕ → Type 0
IsQuote b = (b ≡ 34) ⊎ (b ≡ 39)

-- a blank, an identifier, a number, a character constant or string literal, or a directive begins with the byte
abbrev pub begins_piece : ℕ → Bool
begins_piece b = is_blank b || is_word b || b == 34 || b == 39 || b == 35

-- a piece of the text in front of the rest, and the token that it is, if it is one
pub data IsPiece : List ℕ → List ℕ → Option Token → Type 0 where
  blank : (b : ℕ) (rest : List ℕ) → is_blank b ≡ true → IsPiece (b ∷ []) rest None
  comment : (s rest : List ℕ) → IsComment s rest → IsPiece s rest None
  directive : (s rest : List ℕ) → IsDirective s → IsPiece s rest None
  -- a letter and all letters and digits that follow
  identifier : (b : ℕ) (s rest : List ℕ) (t : Token) → is_letter b ≡ true → IsRun (λ _ c. is_word c) b s rest
      → IsIdentifier (b ∷ s) t → IsPiece (b ∷ s) rest (Some t)
  -- a digit and all that a number goes on with, which is a constant as a whole
  number : (b : ℕ) (s rest : List ℕ) (value : ℕ) (is_unsigned : Bool) → is_digit b ≡ true
      → IsRun continues_number b s rest → IsNumber (b ∷ s) value is_unsigned
      → IsPiece (b ∷ s) rest (Some (Token.Number value is_unsigned))
  -- one element between single quotes
  character : (s rest : List ℕ) (value : ℕ) → Items (IsElement 39) (39 ∷ rest) s (value ∷ [])
      → IsPiece (39 ∷ (s ++ 39 ∷ [])) rest (Some (Token.Character value))
  -- elements between double quotes
  text : (s rest values : List ℕ) → Items (IsElement 34) (34 ∷ rest) s values
      → IsPiece (34 ∷ (s ++ 34 ∷ [])) rest (Some (Token.StringLiteral values))
  -- the longest punctuator, where no comment begins
  mark : (s rest : List ℕ) (m : Punctuator) → IsLongest s m (s ++ rest) → BeginsNoComment (s ++ rest)
      → IsPiece s rest (Some (Token.Punctuator m))

-- why no piece is in front of the text
pub data IsFaulty : List ℕ → Fault → Type 0 where
  -- the byte begins nothing
  byte : (b : ℕ) (rest : List ℕ) → begins_piece b ≡ false → HasNoMark (b ∷ rest) → IsFaulty (b ∷ rest) faults.BadByte
  -- the whole that a number would be is no constant
  number : (b : ℕ) (s rest : List ℕ) → is_digit b ≡ true → IsRun continues_number b s rest
      → ((value : ℕ) (is_unsigned : Bool) → IsNumber (b ∷ s) value is_unsigned → ⊥)
      → IsFaulty (b ∷ (s ++ rest)) faults.BadNumber
  escape : (quote : ℕ) (s rest values : List ℕ) → IsQuote quote → Items (IsElement quote) rest s values
      → IsBadEscape rest → IsFaulty (quote ∷ (s ++ rest)) faults.BadEscape
  -- a character constant that is closed has not one element
  count : (s rest values : List ℕ) → Items (IsElement 39) (39 ∷ rest) s values → length values ≢ 1
      → IsFaulty (39 ∷ (s ++ 39 ∷ rest)) faults.BadEscape
  quote : (quote : ℕ) (s rest values : List ℕ) → IsQuote quote → Items (IsElement quote) rest s values → EndsLine rest
      → IsFaulty (quote ∷ (s ++ rest)) faults.Unclosed
  comment : (rest : List ℕ) → ((a b : List ℕ) → rest ≡ a ++ 42 ∷ 47 ∷ b → ⊥) → IsFaulty (47 ∷ 42 ∷ rest) faults.Unclosed
  directive : (rest : List ℕ) → ((s after : List ℕ) → 35 ∷ rest ≡ s ++ after → IsDirective s → ⊥)
      → IsFaulty (35 ∷ rest) faults.BadDirective
