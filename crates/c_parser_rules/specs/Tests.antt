-- What the next token tells. No token stands for the end of the file.
use Rattle.std.specs.Prelude.{ℕ, Bool, true, false, ◌==◌, nat_lt, if◌then◌else◌, List, [], ◌∷◌, Option, Some, None}
use Rattle.c_words.specs.declared.words.Keyword.TheVariants as w
use Rattle.c_words.specs.declared.words.Punctuator.{Punctuator}
use Rattle.c_words.specs.declared.words.Punctuator.TheVariants as m
use Rattle.c_words.specs.declared.operators.BinaryOperator.{BinaryOperator}
use Rattle.c_words.specs.declared.operators.AssignOperator.{AssignOperator}
use Rattle.c_words.specs.Tokens.{Token, Placed}
use Rattle.syntax_tree.specs.Syntax.{ExpressionTree}
use Rattle.syntax_tree.specs.SyntaxHeights.{height}
use Rattle.syntax_tree.specs.GrammarLimits.{Level}
use Rattle.syntax_tree.specs.GrammarTokens.{binary_operator, assign_operator}

abbrev pub first : List Placed → Option Token
first [] = None
first (t ∷ ts) = Some t.token

abbrev pub is_end : Option Token → Bool
is_end None = true
is_end (Some t) = false

abbrev pub is_some : Option Token → Bool
is_some None = false
is_some (Some t) = true

abbrev pub is_comma : Option Token → Bool
is_comma (Some (Token.Punctuator m.Comma)) = true
is_comma _ = false

abbrev pub is_semicolon : Option Token → Bool
is_semicolon (Some (Token.Punctuator m.Semicolon)) = true
is_semicolon _ = false

abbrev pub is_question : Option Token → Bool
is_question (Some (Token.Punctuator m.Question)) = true
is_question _ = false

abbrev pub is_equal : Option Token → Bool
is_equal (Some (Token.Punctuator m.Equal)) = true
is_equal _ = false

abbrev pub is_star : Option Token → Bool
is_star (Some (Token.Punctuator m.Star)) = true
is_star _ = false

abbrev pub is_open_paren : Option Token → Bool
is_open_paren (Some (Token.Punctuator m.OpenParen)) = true
is_open_paren _ = false

abbrev pub is_close_paren : Option Token → Bool
is_close_paren (Some (Token.Punctuator m.CloseParen)) = true
is_close_paren _ = false

abbrev pub is_open_bracket : Option Token → Bool
is_open_bracket (Some (Token.Punctuator m.OpenBracket)) = true
is_open_bracket _ = false

abbrev pub is_close_bracket : Option Token → Bool
is_close_bracket (Some (Token.Punctuator m.CloseBracket)) = true
is_close_bracket _ = false

abbrev pub is_open_brace : Option Token → Bool
is_open_brace (Some (Token.Punctuator m.OpenBrace)) = true
is_open_brace _ = false

abbrev pub is_close_brace : Option Token → Bool
is_close_brace (Some (Token.Punctuator m.CloseBrace)) = true
is_close_brace _ = false

abbrev pub goes_on : Option Token → Bool
goes_on (Some (Token.Punctuator m.CloseBrace)) = false
goes_on _ = true

abbrev pub is_else : Option Token → Bool
is_else (Some (Token.Keyword w.Else)) = true
is_else _ = false

abbrev pub is_int : Option Token → Bool
is_int (Some (Token.Keyword w.Int)) = true
is_int _ = false

-- the words that a specifier begins with
abbrev pub begins_specifier : Option Token → Bool
begins_specifier (Some (Token.Keyword w.Void)) = true
begins_specifier (Some (Token.Keyword w.Char)) = true
begins_specifier (Some (Token.Keyword w.Int)) = true
begins_specifier (Some (Token.Keyword w.Signed)) = true
begins_specifier (Some (Token.Keyword w.Unsigned)) = true
begins_specifier (Some (Token.Keyword w.Struct)) = true
begins_specifier _ = false

-- the tokens that an expression begins with
abbrev pub begins_expression : Token → Bool
begins_expression (Token.Name x) = true
begins_expression (Token.Number n u) = true
begins_expression (Token.Character n) = true
begins_expression (Token.StringLiteral b) = true
begins_expression (Token.Keyword w.Null) = true
begins_expression (Token.Keyword w.Eof) = true
begins_expression (Token.Keyword w.Sizeof) = true
begins_expression (Token.Punctuator m.OpenParen) = true
begins_expression (Token.Punctuator m.PlusPlus) = true
begins_expression (Token.Punctuator m.MinusMinus) = true
begins_expression (Token.Punctuator m.Ampersand) = true
begins_expression (Token.Punctuator m.Star) = true
begins_expression (Token.Punctuator m.Plus) = true
begins_expression (Token.Punctuator m.Minus) = true
begins_expression (Token.Punctuator m.Tilde) = true
begins_expression (Token.Punctuator m.Bang) = true
begins_expression _ = false

-- the tokens that a statement begins with
abbrev pub begins_statement : Token → Bool
begins_statement (Token.Punctuator m.Semicolon) = true
begins_statement (Token.Punctuator m.OpenBrace) = true
begins_statement (Token.Keyword w.If) = true
begins_statement (Token.Keyword w.While) = true
begins_statement (Token.Keyword w.Do) = true
begins_statement (Token.Keyword w.For) = true
begins_statement (Token.Keyword w.Break) = true
begins_statement (Token.Keyword w.Continue) = true
begins_statement (Token.Keyword w.Return) = true
begins_statement t = begins_expression t

abbrev pub may_begin_statement : Option Token → Bool
may_begin_statement None = false
may_begin_statement (Some t) = begins_statement t

-- the tokens that a statement with another one in it begins with
abbrev pub is_compound : Option Token → Bool
is_compound (Some (Token.Punctuator m.OpenBrace)) = true
is_compound (Some (Token.Keyword w.If)) = true
is_compound (Some (Token.Keyword w.While)) = true
is_compound (Some (Token.Keyword w.Do)) = true
is_compound (Some (Token.Keyword w.For)) = true
is_compound _ = false

-- what follows the name of a declarator
abbrev pub begins_suffix : Option Token → Bool
begins_suffix (Some (Token.Punctuator m.OpenBracket)) = true
begins_suffix (Some (Token.Punctuator m.OpenParen)) = true
begins_suffix _ = false

-- the operator of this strength
abbrev pub at_strength : ℕ → Punctuator → Option (ℕ × BinaryOperator) → Option (Punctuator × BinaryOperator)
at_strength k p None = None
at_strength k p (Some o) = if o.0 == k then Some (p, o.1) else None

abbrev pub operator : ℕ → Option Token → Option (Punctuator × BinaryOperator)
operator k (Some (Token.Punctuator p)) = at_strength k p (binary_operator p)
operator k _ = None

abbrev pub with_mark : Punctuator → Option AssignOperator → Option (Punctuator × AssignOperator)
with_mark p None = None
with_mark p (Some op) = Some (p, op)

abbrev pub assigns : Option Token → Option (Punctuator × AssignOperator)
assigns (Some (Token.Punctuator p)) = with_mark p (assign_operator p)
assigns _ = None

-- another level may be opened
abbrev pub opens : Level → Bool
opens d = nat_lt d 200

-- an operator may follow
abbrev pub is_low : ExpressionTree → Bool
is_low a = nat_lt (height a) 200
