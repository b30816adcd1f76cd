-- The next token, by what the cursor tells of it.
use Rattle.std.proofs.Common.{◌≡◌, ℕ, zero, suc, ◌≤◌, ◌<◌, nat_eq, length, arith, Bool, false, List, [], ◌∷◌, Option, Some, None, refl}
use Rattle.std.proofs.lemmas.Bool.Decides.{nat_tests}
use Rattle.c_words.specs.Tokens.{Token}
use Rattle.c_words.specs.declared.words.Keyword.{Keyword}
use Rattle.c_words.specs.declared.words.Keyword.TheVariants as w
use Rattle.c_words.specs.declared.words.Punctuator.TheVariants as m
use Rattle.c_words.specs.declared.place.At.{At}
use Rattle.syntax_tree.specs.declared.syntax.specifiers.Specifier.TheVariants as s
use Rattle.c_parser_rules.specs.Programs.{Program}
use Rattle.c_parser_rules.specs.Tests.{is_int, is_open_paren}
use Rattle.c_parser_rules.specs.Bodies.{primary_by, identifier_by, strings_by, specifier_by, unsigned_by, is_nothing}
use Rattle.syntax_tree.specs.declared.syntax.expressions.Expression.{Expression}
use Rattle.syntax_tree.specs.Syntax.{TypeDeclaratorTree}
use Rattle.syntax_tree.specs.SyntaxViews.{expression_trees}
use Rattle.c_parser_expressions.specs.Reads.{name_of, text_of, number_of, character_of, word_of}

pub number_is : (c : Option Token) (x : ℕ × Bool) → number_of c ≡ Some x → c ≡ Some (Token.Number x.0 x.1)
number_is (Some (Token.Number n u)) x h = let e : (n, u) ≡ x = cc in cc
number_is None x h = absurd (cc)
number_is (Some (Token.Name n)) x h = absurd (cc)
number_is (Some (Token.Character n)) x h = absurd (cc)
number_is (Some (Token.StringLiteral n)) x h = absurd (cc)
number_is (Some (Token.Keyword n)) x h = absurd (cc)
number_is (Some (Token.Punctuator n)) x h = absurd (cc)

pub character_is : (c : Option Token) (x : ℕ) → character_of c ≡ Some x → c ≡ Some (Token.Character x)
character_is (Some (Token.Character n)) x h = cc
character_is None x h = absurd (cc)
character_is (Some (Token.Name n)) x h = absurd (cc)
character_is (Some (Token.Number n u)) x h = absurd (cc)
character_is (Some (Token.StringLiteral n)) x h = absurd (cc)
character_is (Some (Token.Keyword n)) x h = absurd (cc)
character_is (Some (Token.Punctuator n)) x h = absurd (cc)

pub name_is : (c : Option Token) (x : List ℕ) → name_of c ≡ Some x → c ≡ Some (Token.Name x)
name_is (Some (Token.Name n)) x h = cc
name_is None x h = absurd (cc)
name_is (Some (Token.Character n)) x h = absurd (cc)
name_is (Some (Token.Number n u)) x h = absurd (cc)
name_is (Some (Token.StringLiteral n)) x h = absurd (cc)
name_is (Some (Token.Keyword n)) x h = absurd (cc)
name_is (Some (Token.Punctuator n)) x h = absurd (cc)

pub text_is : (c : Option Token) (x : List ℕ) → text_of c ≡ Some x → c ≡ Some (Token.StringLiteral x)
text_is (Some (Token.StringLiteral n)) x h = cc
text_is None x h = absurd (cc)
text_is (Some (Token.Character n)) x h = absurd (cc)
text_is (Some (Token.Number n u)) x h = absurd (cc)
text_is (Some (Token.Name n)) x h = absurd (cc)
text_is (Some (Token.Keyword n)) x h = absurd (cc)
text_is (Some (Token.Punctuator n)) x h = absurd (cc)

pub word_is : (c : Option Token) (x : Keyword) → word_of c ≡ Some x → c ≡ Some (Token.Keyword x)
word_is (Some (Token.Keyword n)) x h = cc
word_is None x h = absurd (cc)
word_is (Some (Token.Character n)) x h = absurd (cc)
word_is (Some (Token.Number n u)) x h = absurd (cc)
word_is (Some (Token.Name n)) x h = absurd (cc)
word_is (Some (Token.StringLiteral n)) x h = absurd (cc)
word_is (Some (Token.Punctuator n)) x h = absurd (cc)

pub no_name : (c : Option Token) → name_of c ≡ None → identifier_by c ≡ Program.refuse
no_name None h = refl
no_name (Some (Token.Name n)) h = absurd (cc)
no_name (Some (Token.Character n)) h = refl
no_name (Some (Token.Number n u)) h = refl
no_name (Some (Token.StringLiteral n)) h = refl
no_name (Some (Token.Keyword n)) h = refl
no_name (Some (Token.Punctuator n)) h = refl

pub no_text : (c : Option Token) → text_of c ≡ None → strings_by c ≡ Program.give []
no_text None h = refl
no_text (Some (Token.StringLiteral n)) h = absurd (cc)
no_text (Some (Token.Character n)) h = refl
no_text (Some (Token.Number n u)) h = refl
no_text (Some (Token.Name n)) h = refl
no_text (Some (Token.Keyword n)) h = refl
no_text (Some (Token.Punctuator n)) h = refl

-- nothing that a primary expression begins with
pub no_primary : (d : ℕ) (c : Option Token) → number_of c ≡ None → character_of c ≡ None → name_of c ≡ None → text_of c ≡ None
    → (c ≡ Some (Token.Keyword w.Null) → ⊥) → (c ≡ Some (Token.Keyword w.Eof) → ⊥) → (c ≡ Some (Token.Punctuator m.OpenParen) → ⊥) → primary_by d c ≡ Program.refuse
no_primary d None h i j k l o p = refl
no_primary d (Some (Token.Name n)) h i j k l o p = absurd (cc)
no_primary d (Some (Token.StringLiteral n)) h i j k l o p = absurd (cc)
no_primary d (Some (Token.Character n)) h i j k l o p = absurd (cc)
no_primary d (Some (Token.Number n u)) h i j k l o p = absurd (cc)
no_primary d (Some (Token.Keyword w.Null)) h i j k l o p = absurd (l refl)
no_primary d (Some (Token.Keyword w.Eof)) h i j k l o p = absurd (o refl)
no_primary d (Some (Token.Keyword _)) h i j k l o p = refl
no_primary d (Some (Token.Punctuator m.OpenParen)) h i j k l o p = absurd (p refl)
no_primary d (Some (Token.Punctuator _)) h i j k l o p = refl

pub no_paren : (d : ℕ) (c : Option Token) → (c ≡ Some (Token.Punctuator m.OpenParen) → ⊥) → is_open_paren c ≡ false
no_paren d (Some (Token.Punctuator m.OpenParen)) p = absurd (p refl)
no_paren d _ p = refl

pub no_unsigned : (at : At) (c : Option Token) → (c ≡ Some (Token.Keyword w.Int) → ⊥) → (c ≡ Some (Token.Keyword w.Char) → ⊥) → unsigned_by at c ≡ Program.give (s.Unsigned at)
no_unsigned at None h i = refl
no_unsigned at (Some (Token.Name n)) h i = refl
no_unsigned at (Some (Token.StringLiteral n)) h i = refl
no_unsigned at (Some (Token.Character n)) h i = refl
no_unsigned at (Some (Token.Number n u)) h i = refl
no_unsigned at (Some (Token.Punctuator n)) h i = refl
no_unsigned at (Some (Token.Keyword w.Int)) h i = absurd (h refl)
no_unsigned at (Some (Token.Keyword w.Char)) h i = absurd (i refl)
no_unsigned at (Some (Token.Keyword _)) h i = refl

pub no_int : (c : Option Token) → (c ≡ Some (Token.Keyword w.Int) → ⊥) → is_int c ≡ false
no_int (Some (Token.Keyword w.Int)) h = absurd (h refl)
no_int _ h = refl

pub no_word : (c : Option Token) → (c ≡ Some (Token.Keyword w.Void) → ⊥) → (c ≡ Some (Token.Keyword w.Char) → ⊥) → (c ≡ Some (Token.Keyword w.Int) → ⊥)
    → (c ≡ Some (Token.Keyword w.Signed) → ⊥) → (c ≡ Some (Token.Keyword w.Unsigned) → ⊥) → (c ≡ Some (Token.Keyword w.Struct) → ⊥) → specifier_by c ≡ Program.refuse
no_word None h i j k l o = refl
no_word (Some (Token.Name n)) h i j k l o = refl
no_word (Some (Token.StringLiteral n)) h i j k l o = refl
no_word (Some (Token.Character n)) h i j k l o = refl
no_word (Some (Token.Number n u)) h i j k l o = refl
no_word (Some (Token.Punctuator n)) h i j k l o = refl
no_word (Some (Token.Keyword w.Void)) h i j k l o = absurd (h refl)
no_word (Some (Token.Keyword w.Char)) h i j k l o = absurd (i refl)
no_word (Some (Token.Keyword w.Int)) h i j k l o = absurd (j refl)
no_word (Some (Token.Keyword w.Signed)) h i j k l o = absurd (k refl)
no_word (Some (Token.Keyword w.Unsigned)) h i j k l o = absurd (l refl)
no_word (Some (Token.Keyword w.Struct)) h i j k l o = absurd (o refl)
no_word (Some (Token.Keyword _)) h i j k l o = refl

zero_not : (n : ℕ) → nat_eq (suc n) 0 ≡ false
zero_not n = grind (arith, nat_tests)

-- the declarator of a type name without tokens
pub no_sizes : (at : At) (n : ℕ) (es : List Expression) → length es ≤ 0 → nat_eq n 0 ≡ is_nothing (TypeDeclaratorTree.Direct at n (expression_trees es))
no_sizes at zero [] h = refl
no_sizes at (suc n) [] h = zero_not n
no_sizes at n (e ∷ es) h = absurd (omega (arith, h))

pub some_sizes : (at : At) (n : ℕ) (es : List Expression) → 0 < length es → false ≡ is_nothing (TypeDeclaratorTree.Direct at n (expression_trees es))
some_sizes at n [] h = absurd (omega (arith, h))
some_sizes at zero (e ∷ es) h = refl
some_sizes at (suc n) (e ∷ es) h = refl
