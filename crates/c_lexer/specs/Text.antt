-- The tokens of a text, or its refusal.
use Rattle.std.specs.Prelude.{◌≡◌, ℕ, suc, ◌+◌, ◌<◌, ◌≤◌, List, [], ◌∷◌}
use Rattle.std.specs.Prelude.{◌++◌, length, take, drop, Option, Some, None, Result, Ok, Err}
use Rattle.c_words.specs.Tokens.{Token, Placed}
use Rattle.c_lexer.specs.declared.fault.Fault.{Fault}
use Rattle.c_lexer.specs.declared.fault.LexError.{LexError}
use Rattle.c_lexer.specs.declared.fault.LexError.TheVariants.{TooLong}
use Rattle.c_lexer.specs.Bytes.{line_feeds}
use Rattle.c_lexer.specs.Pieces.{Items, IsPiece, IsFaulty}
use Rattle.c_lexer.specs.Refusals.{refusal}

-- a token, where it starts, how many bytes it has, and its line
pub record Lexeme : Type 0 where
  pub token : Token
  pub start : ℕ
  pub len : ℕ
  pub line : ℕ

-- the tokens as the grammar reads them, with their numbers from this one on, and their lines
abbrev pub placed_from : ℕ → List Lexeme → List Placed
placed_from n [] = []
placed_from n (t ∷ ts) = record { token = t.token; at = record { token = n; line = t.line } } ∷ placed_from (suc n) ts

-- with their numbers from 0
abbrev pub placed : List Lexeme → List Placed
placed ts = placed_from 0 ts

pub record Piece : Type 0 where
  pub spelling : List ℕ
  pub token : Option Token

abbrev pub Stands : List ℕ → List ℕ → Piece → Type 0
Stands spelling rest p = (p.spelling ≡ spelling) × IsPiece spelling rest p.token

-- the token of a piece at this place
abbrev pub lexemes_of : Option Token → ℕ → ℕ → ℕ → List Lexeme
lexemes_of None start len line = []
lexemes_of (Some t) start len line = record { token = t; start = start; len = len; line = line } ∷ []

-- The tokens of pieces that stand one after another, the first of them at this place and on this line. A line feed ends
-- a line.
abbrev pub tokens_of : ℕ → ℕ → List Piece → List Lexeme
tokens_of start line [] = []
tokens_of start line (p ∷ ps) = lexemes_of p.token start (length p.spelling) line ++ tokens_of (start + length p.spelling) (line + line_feeds p.spelling) ps

-- The text is cut into pieces, each of them the longest at its place.
abbrev pub IsCut : List ℕ → List ℕ → List Piece → Type 0
IsCut text rest pieces = Items Stands rest text pieces

-- What a text of at most a mebibyte reads as: its tokens, where it is cut into pieces as a whole; else the fault at the
-- first place where no piece stands, with its line. A longer text is refused for its length.
pub data Lexes : List ℕ → Result (List Lexeme) LexError → Type 0 where
  too_long : (text : List ℕ) → 1048576 < length text → Lexes text (Err (TooLong (length text)))
  whole : (text : List ℕ) (pieces : List Piece) → length text ≤ 1048576 → IsCut text [] pieces
      → Lexes text (Ok (tokens_of 0 1 pieces))
  faulty : (text front rest : List ℕ) (pieces : List Piece) (fault : Fault) → length text ≤ 1048576
      → text ≡ front ++ rest → IsCut front rest pieces → IsFaulty rest fault
      → Lexes text (Err (refusal fault (1 + line_feeds front)))

-- a text has one reading
abbrev pub HasOneReading : Type 0
HasOneReading = (text : List ℕ) → (reading : Result (List Lexeme) LexError) × Lexes text reading
    × ((other : Result (List Lexeme) LexError) → Lexes text other → other ≡ reading)

-- Each token begins at or behind the place, is the piece that is spelled there, and has the line of its first byte; and
-- the tokens after it begin behind it.
abbrev pub AreSlices : List ℕ → ℕ → List Lexeme → Type 0
AreSlices text place [] = Unit {0}
AreSlices text place (t ∷ ts) =
    (place ≤ t.start) × IsPiece (take t.len (drop t.start text)) (drop (t.start + t.len) text) (Some t.token)
    × (t.line ≡ 1 + line_feeds (take t.start text)) × AreSlices text (t.start + t.len) ts

-- each token of a text is a slice of it
abbrev pub HasSlices : Type 0
HasSlices = (text : List ℕ) (tokens : List Lexeme) → Lexes text (Ok tokens) → AreSlices text 0 tokens
