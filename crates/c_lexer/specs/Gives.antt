-- How what the code returns is read by functions of the bytes.
use Rattle.std.specs.Prelude.{◌≡◌, ℕ, List, length, Option, Some, None, option_map, Result, Ok, Err}
use Rattle.c_words.specs.declared.words.Punctuator.{Punctuator}
use Rattle.c_words.specs.declared.words.Keyword.{Keyword}
use Rattle.c_words.specs.Tokens.{Token}
use Rattle.c_lexer.specs.declared.fault.Fault.{Fault}
use Rattle.c_lexer.specs.declared.fault.PieceError.{PieceError}
use Rattle.c_lexer.specs.declared.fault.PieceError.TheVariants as errors
use Rattle.c_lexer.specs.declared.piece.Piece.{Piece}
use Rattle.c_lexer.specs.declared.fault.LexError.{LexError}
use Rattle.c_lexer.specs.declared.fault.LexError.TheVariants as refusals
use Rattle.c_lexer.specs.Refusals.{refusal}
use Rattle.c_lexer.specs.Reading.{Found}
use Rattle.c_lexer.specs.Views.{token_of}

-- What was returned, seen by the view, is what is read, unless memory ran out.
abbrev pub Fails : {Y : Type 0} → PieceError → Result Y Fault → Type 0
Fails errors.Memory read = Unit {0}
Fails (errors.Fault f) read = read ≡ Err f

abbrev pub Gives : {X Y : Type 0} → (X → Y) → Result X PieceError → Result Y Fault → Type 0
Gives view (Ok x) read = read ≡ Ok (view x)
Gives view (Err e) read = Fails e read

abbrev pub found_of : Piece → Found
found_of p = (option_map token_of p.token, p.len)

-- the same on a line
abbrev pub GivesOn : ℕ → Result Piece LexError → Result Found Fault → Type 0
GivesOn line (Ok p) read = read ≡ Ok (found_of p)
GivesOn line (Err refusals.Memory) read = Unit {0}
GivesOn line (Err e) read = (fault : Fault) × (read ≡ Err fault) × (e ≡ refusal fault line)

-- a length without a token
abbrev pub dropped : Result ℕ Fault → Result Found Fault
dropped (Ok len) = Ok (None, len)
dropped (Err f) = Err f

abbrev pub marked : Result (Punctuator × ℕ) Fault → Result Found Fault
marked (Ok mark) = Ok (Some (Token.Punctuator mark.0), mark.1)
marked (Err f) = Err f

abbrev pub mark_row : Option (List ℕ × Punctuator) → Option (ℕ × Punctuator)
mark_row None = None
mark_row (Some row) = Some (length row.0, row.1)

abbrev pub word_row : Option (List ℕ × Keyword) → Option Keyword
word_row None = None
word_row (Some row) = Some row.1
