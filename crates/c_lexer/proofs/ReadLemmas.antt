-- The exits of the loop over a text.
use Rattle.std.proofs.Common.{ℕ, ◌<◌, ◌≤◌, List, length, Result, Ok, Err, sym, subst}
use Rattle.c_lexer.specs.declared.fault.LexError.{LexError}
use Rattle.c_lexer.specs.declared.fault.LexError.TheVariants as errors
use Rattle.c_lexer.specs.declared.token.Token as rust
use Rattle.c_lexer.specs.Reading.{piece_at}
use Rattle.c_lexer.specs.Gives.{GivesOn}
use Rattle.c_lexer.specs.Text.{Lexeme, Lexes}
use Rattle.c_lexer.specs.Views.{lexemes, IsReading, Answers}
use Rattle.c_lexer.proofs.TextLemmas.{IsBegun, fails, same_reading}

-- what a fault in front of the rest answers
pub refused : (bytes rest : List ℕ) (tokens : List Lexeme) (at : ℕ) (e : LexError) → length bytes ≤ 1048576 → IsBegun bytes rest tokens at → 0 < length rest → GivesOn at (Err e) (piece_at rest) → IsReading bytes (Err e)
refused bytes rest tokens at errors.Memory l h some g = tt
refused bytes rest tokens at (errors.TooLong n) l h some g = subst (λ x. Lexes bytes (Err x)) (sym g.2) (fails bytes rest tokens at g.0 l h some g.1)
refused bytes rest tokens at (errors.BadByte n) l h some g = subst (λ x. Lexes bytes (Err x)) (sym g.2) (fails bytes rest tokens at g.0 l h some g.1)
refused bytes rest tokens at (errors.BadNumber n) l h some g = subst (λ x. Lexes bytes (Err x)) (sym g.2) (fails bytes rest tokens at g.0 l h some g.1)
refused bytes rest tokens at (errors.BadEscape n) l h some g = subst (λ x. Lexes bytes (Err x)) (sym g.2) (fails bytes rest tokens at g.0 l h some g.1)
refused bytes rest tokens at (errors.Unclosed n) l h some g = subst (λ x. Lexes bytes (Err x)) (sym g.2) (fails bytes rest tokens at g.0 l h some g.1)
refused bytes rest tokens at (errors.BadDirective n) l h some g = subst (λ x. Lexes bytes (Err x)) (sym g.2) (fails bytes rest tokens at g.0 l h some g.1)

-- a reading is the one that is answered
pub answers : (bytes : List ℕ) (r : Result (List rust.Token) LexError) → IsReading bytes r → (reading : Result (List Lexeme) LexError) → Lexes bytes reading → Answers r reading
answers bytes (Ok ts) h reading l = same_reading bytes reading (Ok (lexemes ts)) l h
answers bytes (Err errors.Memory) h reading l = tt
answers bytes (Err (errors.TooLong n)) h reading l = same_reading bytes reading (Err (errors.TooLong n)) l h
answers bytes (Err (errors.BadByte n)) h reading l = same_reading bytes reading (Err (errors.BadByte n)) l h
answers bytes (Err (errors.BadNumber n)) h reading l = same_reading bytes reading (Err (errors.BadNumber n)) l h
answers bytes (Err (errors.BadEscape n)) h reading l = same_reading bytes reading (Err (errors.BadEscape n)) l h
answers bytes (Err (errors.Unclosed n)) h reading l = same_reading bytes reading (Err (errors.Unclosed n)) l h
answers bytes (Err (errors.BadDirective n)) h reading l = same_reading bytes reading (Err (errors.BadDirective n)) l h
