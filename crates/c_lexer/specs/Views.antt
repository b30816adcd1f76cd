-- What a contract sees of tokens.
use Rattle.std.specs.Prelude.{◌≡◌, ℕ, List, map, Result, Ok, Err}
use Rattle.c_words.specs.Tokens.{Token}
use Rattle.c_lexer.specs.declared.token.TokenKind.{TokenKind}
use Rattle.c_lexer.specs.declared.token.TokenKind.TheVariants as kinds
use Rattle.c_lexer.specs.declared.token.Token as rust
use Rattle.c_lexer.specs.declared.fault.LexError.{LexError}
use Rattle.c_lexer.specs.declared.fault.LexError.TheVariants as errors
use Rattle.c_lexer.specs.Text.{Lexeme, Lexes}

-- the token that a kind is
abbrev pub token_of : TokenKind → Token
token_of (kinds.Name bytes) = Token.Name bytes
token_of (kinds.Number value is_unsigned) = Token.Number value is_unsigned
token_of (kinds.Character value) = Token.Character value
token_of (kinds.StringLiteral bytes) = Token.StringLiteral bytes
token_of (kinds.Keyword word) = Token.Keyword word
token_of (kinds.Punctuator mark) = Token.Punctuator mark

abbrev pub lexeme_of : rust.Token → Lexeme
lexeme_of t = record { token = token_of t.kind; start = t.start; len = t.len; line = t.line }

abbrev pub lexemes : List rust.Token → List Lexeme
lexemes ts = map lexeme_of ts

-- What was returned is the text's reading, unless memory ran out.
abbrev pub IsReading : List ℕ → Result (List rust.Token) LexError → Type 0
IsReading text (Ok ts) = Lexes text (Ok (lexemes ts))
IsReading text (Err errors.Memory) = Unit {0}
IsReading text (Err e) = Lexes text (Err e)

-- What was returned is this reading, unless memory ran out.
abbrev pub Answers : Result (List rust.Token) LexError → Result (List Lexeme) LexError → Type 0
Answers (Ok ts) reading = reading ≡ Ok (lexemes ts)
Answers (Err errors.Memory) reading = Unit {0}
Answers (Err e) reading = reading ≡ Err e

-- the text has this refusal, or none but that memory ran out
abbrev pub IsRefusal : List ℕ → LexError → Type 0
IsRefusal text errors.Memory = Unit {0}
IsRefusal text e = Lexes text (Err e)
