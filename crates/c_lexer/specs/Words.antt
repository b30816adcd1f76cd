-- The spellings of the keywords and of the punctuators.
use Rattle.std.specs.Prelude.{ℕ, List, [], ◌∷◌, codes}
use Rattle.c_words.specs.declared.words.Keyword.{Keyword}
use Rattle.c_words.specs.declared.words.Keyword.TheVariants as words
use Rattle.c_words.specs.declared.words.Punctuator.{Punctuator}
use Rattle.c_words.specs.declared.words.Punctuator.TheVariants as marks

-- the keywords (C11 6.4.1), and `NULL` and `EOF`
unfoldable pub keywords : List (List ℕ × Keyword)
keywords =
    (codes "auto", words.Auto) ∷
    (codes "break", words.Break) ∷
    (codes "case", words.Case) ∷
    (codes "char", words.Char) ∷
    (codes "const", words.Const) ∷
    (codes "continue", words.Continue) ∷
    (codes "default", words.Default) ∷
    (codes "do", words.Do) ∷
    (codes "double", words.Double) ∷
    (codes "else", words.Else) ∷
    (codes "enum", words.Enum) ∷
    (codes "extern", words.Extern) ∷
    (codes "float", words.Float) ∷
    (codes "for", words.For) ∷
    (codes "goto", words.Goto) ∷
    (codes "if", words.If) ∷
    (codes "inline", words.Inline) ∷
    (codes "int", words.Int) ∷
    (codes "long", words.Long) ∷
    (codes "register", words.Register) ∷
    (codes "restrict", words.Restrict) ∷
    (codes "return", words.Return) ∷
    (codes "short", words.Short) ∷
    (codes "signed", words.Signed) ∷
    (codes "sizeof", words.Sizeof) ∷
    (codes "static", words.Static) ∷
    (codes "struct", words.Struct) ∷
    (codes "switch", words.Switch) ∷
    (codes "typedef", words.Typedef) ∷
    (codes "union", words.Union) ∷
    (codes "unsigned", words.Unsigned) ∷
    (codes "void", words.Void) ∷
    (codes "volatile", words.Volatile) ∷
    (codes "while", words.While) ∷
    (codes "_Alignas", words.Alignas) ∷
    (codes "_Alignof", words.Alignof) ∷
    (codes "_Atomic", words.Atomic) ∷
    (codes "_Bool", words.Bool) ∷
    (codes "_Complex", words.Complex) ∷
    (codes "_Generic", words.Generic) ∷
    (codes "_Imaginary", words.Imaginary) ∷
    (codes "_Noreturn", words.Noreturn) ∷
    (codes "_Static_assert", words.StaticAssert) ∷
    (codes "_Thread_local", words.ThreadLocal) ∷
    (codes "NULL", words.Null) ∷
    (codes "EOF", words.Eof) ∷
    []

-- the punctuators (C11 6.4.6) but for `...`, `#` and `##`
unfoldable pub punctuators : List (List ℕ × Punctuator)
punctuators =
    (codes "<<=", marks.ShiftLeftEqual) ∷
    (codes ">>=", marks.ShiftRightEqual) ∷
    (codes "->", marks.Arrow) ∷
    (codes "++", marks.PlusPlus) ∷
    (codes "--", marks.MinusMinus) ∷
    (codes "<<", marks.ShiftLeft) ∷
    (codes ">>", marks.ShiftRight) ∷
    (codes "<=", marks.LessEqual) ∷
    (codes ">=", marks.GreaterEqual) ∷
    (codes "==", marks.EqualEqual) ∷
    (codes "!=", marks.BangEqual) ∷
    (codes "&&", marks.AmpersandAmpersand) ∷
    (codes "||", marks.BarBar) ∷
    (codes "*=", marks.StarEqual) ∷
    (codes "/=", marks.SlashEqual) ∷
    (codes "%=", marks.PercentEqual) ∷
    (codes "+=", marks.PlusEqual) ∷
    (codes "-=", marks.MinusEqual) ∷
    (codes "&=", marks.AmpersandEqual) ∷
    (codes "^=", marks.CaretEqual) ∷
    (codes "|=", marks.BarEqual) ∷
    (codes "[", marks.OpenBracket) ∷
    (codes "]", marks.CloseBracket) ∷
    (codes "(", marks.OpenParen) ∷
    (codes ")", marks.CloseParen) ∷
    (codes "{", marks.OpenBrace) ∷
    (codes "}", marks.CloseBrace) ∷
    (codes ".", marks.Dot) ∷
    (codes "&", marks.Ampersand) ∷
    (codes "*", marks.Star) ∷
    (codes "+", marks.Plus) ∷
    (codes "-", marks.Minus) ∷
    (codes "~", marks.Tilde) ∷
    (codes "!", marks.Bang) ∷
    (codes "/", marks.Slash) ∷
    (codes "%", marks.Percent) ∷
    (codes "<", marks.Less) ∷
    (codes ">", marks.Greater) ∷
    (codes "^", marks.Caret) ∷
    (codes "|", marks.Bar) ∷
    (codes "?", marks.Question) ∷
    (codes ":", marks.Colon) ∷
    (codes ";", marks.Semicolon) ∷
    (codes "=", marks.Equal) ∷
    (codes ",", marks.Comma) ∷
    []
