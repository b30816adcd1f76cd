-- How a token goes on behind an expression, and what an expression begins with.
use Rattle.std.proofs.Common.{◌≡◌, ℕ, ◌<◌, Bool, true, false, List, [], ◌∷◌, ◌++◌, Option, Some, None, refl, sym, ap, ◌∙◌, arith}
use Rattle.std.proofs.lemmas.Bool.{false≢true}
use Rattle.std.proofs.lemmas.Bool.Decides.{nat_tests}
use Rattle.c_words.specs.Tokens.{Token, Placed}
use Rattle.c_words.specs.declared.words.Keyword.TheVariants as w
use Rattle.c_words.specs.declared.words.Punctuator.{Punctuator}
use Rattle.c_words.specs.declared.words.Punctuator.TheVariants as m
use Rattle.c_words.specs.declared.operators.UnaryOperator.{UnaryOperator}
use Rattle.c_words.specs.declared.operators.StepOperator.{StepOperator}
use Rattle.c_words.specs.declared.operators.BinaryOperator.{BinaryOperator}
use Rattle.c_words.specs.declared.operators.AssignOperator.{AssignOperator}
use Rattle.syntax_tree.specs.Syntax.{ExpressionTree, ExpressionTrees}
use Rattle.syntax_tree.specs.GrammarLimits.{Limits, Level}
use Rattle.syntax_tree.specs.GrammarTokens.{binary_operator, assign_operator, unary_operator, step_operator, AreStrings}
use Rattle.syntax_tree.specs.GrammarExpressions.{IsExpression, IsAssignment, IsConditional, IsBinary, IsCast, IsUnary, IsPostfix, IsPrimary, AreListed}
use Rattle.c_parser_rules.specs.Programs.{Program}
use Rattle.c_parser_rules.specs.Tests.{first, is_comma, is_question, begins_expression, begins_specifier, at_strength, operator, assigns}
use Rattle.c_parser_rules.specs.Bodies.{strings_by, postfix_by}

-- the strength of a binary operator, or what else the mark is
abbrev strength : Option (ℕ × BinaryOperator) → ℕ → ℕ
strength None other = other
strength (Some o) other = o.0

abbrev assignment_level : Option AssignOperator → ℕ → ℕ
assignment_level None other = other
assignment_level (Some op) other = 12

abbrev other_level : Punctuator → ℕ
other_level m.OpenBracket = 0
other_level m.OpenParen = 0
other_level m.Dot = 0
other_level m.Arrow = 0
other_level m.PlusPlus = 0
other_level m.MinusMinus = 0
other_level m.Question = 11
other_level m.Comma = 13
other_level _ = 14

-- Behind an expression a token of a low level goes on with it: 0 a postfix operator or another string, 1 to 10 a binary
-- operator of that strength, 11 `?`, 12 an assignment, 13 a comma; at 14 nothing goes on.
abbrev pub level : Option Token → ℕ
level (Some (Token.Punctuator p)) = strength (binary_operator p) (assignment_level (assign_operator p) (other_level p))
level (Some (Token.StringLiteral b)) = 0
level _ = 14

pub level_of : (p : Punctuator) (k : ℕ) (op : BinaryOperator) → binary_operator p ≡ Some (k, op) → level (Some (Token.Punctuator p)) ≡ k
level_of p k op h = ap (λ x. strength x (assignment_level (assign_operator p) (other_level p))) h

pub level_of_assign : (p : Punctuator) (op : AssignOperator) → assign_operator p ≡ Some op → level (Some (Token.Punctuator p)) ≡ 12
level_of_assign m.Equal op h = refl
level_of_assign m.StarEqual op h = refl
level_of_assign m.SlashEqual op h = refl
level_of_assign m.PercentEqual op h = refl
level_of_assign m.PlusEqual op h = refl
level_of_assign m.MinusEqual op h = refl
level_of_assign m.ShiftLeftEqual op h = refl
level_of_assign m.ShiftRightEqual op h = refl
level_of_assign m.AmpersandEqual op h = refl
level_of_assign m.CaretEqual op h = refl
level_of_assign m.BarEqual op h = refl
level_of_assign _ op h = absurd (cc)

pub no_postfix : (d : Level) (a : ExpressionTree) (c : Option Token) → 0 < level c → postfix_by d a c ≡ Program.give a
no_postfix d a (Some (Token.Punctuator m.OpenBracket)) h = absurd (omega arith)
no_postfix d a (Some (Token.Punctuator m.OpenParen)) h = absurd (omega arith)
no_postfix d a (Some (Token.Punctuator m.Dot)) h = absurd (omega arith)
no_postfix d a (Some (Token.Punctuator m.Arrow)) h = absurd (omega arith)
no_postfix d a (Some (Token.Punctuator m.PlusPlus)) h = absurd (omega arith)
no_postfix d a (Some (Token.Punctuator m.MinusMinus)) h = absurd (omega arith)
no_postfix d a _ h = refl

abbrev pub is_text : Option Token → Bool
is_text (Some (Token.StringLiteral b)) = true
is_text _ = false

pub no_text : (c : Option Token) → 0 < level c → is_text c ≡ false
no_text (Some (Token.StringLiteral b)) h = absurd (omega arith)
no_text _ h = refl

pub no_strings : (c : Option Token) → is_text c ≡ false → strings_by c ≡ Program.give []
no_strings (Some (Token.StringLiteral b)) h = absurd (false≢true (sym h))
no_strings _ h = refl

other_strength : (k j : ℕ) (p : Punctuator) (op : BinaryOperator) → k < j → at_strength k p (Some (j, op)) ≡ None
other_strength k j p op h = grind (arith, nat_tests)

pub same_strength : (k : ℕ) (p : Punctuator) (op : BinaryOperator) → at_strength k p (Some (k, op)) ≡ Some (p, op)
same_strength k p op = grind (arith, nat_tests)

pub no_operator : (k : ℕ) (c : Option Token) → k < level c → operator k c ≡ None
no_operator k None h = refl
no_operator k (Some (Token.Punctuator p)) h = by (binary_operator p) h
  where
    by : (x : Option (ℕ × BinaryOperator)) → k < strength x (assignment_level (assign_operator p) (other_level p)) → at_strength k p x ≡ None
    by None h = refl
    by (Some o) h = other_strength k o.0 p o.1 h
no_operator k (Some _) h = refl

pub no_question : (c : Option Token) → 11 < level c → is_question c ≡ false
no_question (Some (Token.Punctuator m.Question)) h = absurd (omega arith)
no_question _ h = refl

pub no_assign : (c : Option Token) → 12 < level c → assigns c ≡ None
no_assign (Some (Token.Punctuator m.Equal)) h = absurd (omega arith)
no_assign (Some (Token.Punctuator m.StarEqual)) h = absurd (omega arith)
no_assign (Some (Token.Punctuator m.SlashEqual)) h = absurd (omega arith)
no_assign (Some (Token.Punctuator m.PercentEqual)) h = absurd (omega arith)
no_assign (Some (Token.Punctuator m.PlusEqual)) h = absurd (omega arith)
no_assign (Some (Token.Punctuator m.MinusEqual)) h = absurd (omega arith)
no_assign (Some (Token.Punctuator m.ShiftLeftEqual)) h = absurd (omega arith)
no_assign (Some (Token.Punctuator m.ShiftRightEqual)) h = absurd (omega arith)
no_assign (Some (Token.Punctuator m.AmpersandEqual)) h = absurd (omega arith)
no_assign (Some (Token.Punctuator m.CaretEqual)) h = absurd (omega arith)
no_assign (Some (Token.Punctuator m.BarEqual)) h = absurd (omega arith)
no_assign _ h = refl

pub no_comma : (c : Option Token) → 13 < level c → is_comma c ≡ false
no_comma (Some (Token.Punctuator m.Comma)) h = absurd (omega arith)
no_comma _ h = refl

-- ---- what an expression begins with
abbrev pub Front : (Token → Bool) → List Placed → Type 0
Front test ts = (q : Placed) × (us : List Placed) × (ts ≡ q ∷ us) × (test q.token ≡ true)

pub front_more : (test : Token → Bool) (ts us : List Placed) → Front test ts → Front test (ts ++ us)
front_more test ts us f = (f.0, f.1 ++ us, ap (λ z. z ++ us) f.2, f.3)

step_begins : (p : Punctuator) (op : StepOperator) → step_operator p ≡ Some op → begins_expression (Token.Punctuator p) ≡ true
step_begins m.PlusPlus op h = refl
step_begins m.MinusMinus op h = refl
step_begins _ op h = absurd (cc)

unary_begins : (p : Punctuator) (op : UnaryOperator) → unary_operator p ≡ Some op → begins_expression (Token.Punctuator p) ≡ true
unary_begins m.Ampersand op h = refl
unary_begins m.Star op h = refl
unary_begins m.Plus op h = refl
unary_begins m.Minus op h = refl
unary_begins m.Tilde op h = refl
unary_begins m.Bang op h = refl
unary_begins _ op h = absurd (cc)

module _ (g : Limits) where
  abbrev Expression : List Placed → Type 0
  Expression ts = Front begins_expression ts

  primary_front : {d : Level} {ts : List Placed} {a : ExpressionTree} → IsPrimary g d ts a → Expression ts
  primary_front IsPrimary.name = (_, _, refl, refl)
  primary_front IsPrimary.number = (_, _, refl, refl)
  primary_front IsPrimary.character = (_, _, refl, refl)
  primary_front (IsPrimary.text AreStrings.one) = (_, _, refl, refl)
  primary_front (IsPrimary.text (AreStrings.another x)) = (_, _, refl, refl)
  primary_front IsPrimary.null = (_, _, refl, refl)
  primary_front IsPrimary.eof = (_, _, refl, refl)
  primary_front (IsPrimary.parenthesized o x to) = (_, _, refl, refl)

  pub postfix_front : {d : Level} {ts : List Placed} {a : ExpressionTree} → IsPostfix g d ts a → Expression ts
  postfix_front (IsPostfix.primary x) = primary_front x
  postfix_front (IsPostfix.index x low o y to) = front_more _ _ _ (postfix_front x)
  postfix_front (IsPostfix.call x from low o y to) = front_more _ _ _ (postfix_front x)
  postfix_front (IsPostfix.member x low next) = front_more _ _ _ (postfix_front x)
  postfix_front (IsPostfix.arrow x low next) = front_more _ _ _ (postfix_front x)
  postfix_front (IsPostfix.step_after x low p is) = front_more _ _ _ (postfix_front x)

  pub unary_front : {d : Level} {ts : List Placed} {a : ExpressionTree} → IsUnary g d ts a → Expression ts
  unary_front (IsUnary.postfix x) = postfix_front x
  unary_front (IsUnary.step_before {p = p} {op = op} is o x) = (_, _, refl, step_begins p op is)
  unary_front (IsUnary.prefix {p = p} {op = op} is o x) = (_, _, refl, unary_begins p op is)
  unary_front (IsUnary.sizeof_type o p t to) = (_, _, refl, refl)
  unary_front (IsUnary.sizeof_expression o x) = (_, _, refl, refl)

  cast_front : {d : Level} {ts : List Placed} {a : ExpressionTree} → IsCast g d ts a → Expression ts
  cast_front (IsCast.unary x) = unary_front x
  cast_front (IsCast.cast o t to x) = (_, _, refl, refl)

  binary_front : {k : ℕ} {d : Level} {ts : List Placed} {a : ExpressionTree} → IsBinary g k d ts a → Expression ts
  binary_front (IsBinary.operand x) = cast_front x
  binary_front (IsBinary.stronger x) = binary_front x
  binary_front (IsBinary.joined x low p is y) = front_more _ _ _ (binary_front x)

  pub conditional_front : {d : Level} {ts : List Placed} {a : ExpressionTree} → IsConditional g d ts a → Expression ts
  conditional_front (IsConditional.binary x) = binary_front x
  conditional_front (IsConditional.choice x low o y colon z) = front_more _ _ _ (binary_front x)

  pub assignment_front : {d : Level} {ts : List Placed} {a : ExpressionTree} → IsAssignment g d ts a → Expression ts
  assignment_front (IsAssignment.conditional x) = conditional_front x
  assignment_front (IsAssignment.assign x low p is o y) = front_more _ _ _ (conditional_front x)

  pub expression_front : {d : Level} {ts : List Placed} {a : ExpressionTree} → IsExpression g d ts a → Expression ts
  expression_front (IsExpression.assignment x) = assignment_front x
  expression_front (IsExpression.comma x low y) = front_more _ _ _ (expression_front x)

  pub listed_front : {d : Level} {ts : List Placed} {a : ExpressionTrees} → AreListed g d ts a → Expression ts
  listed_front (AreListed.last x) = assignment_front x
  listed_front (AreListed.next x comma y) = front_more _ _ _ (assignment_front x)

-- the first token of what begins so, with anything behind it, is no other kind of token
pub front_is : (test : Token → Bool) (other : Option Token → Bool) → ((c : Token) → test c ≡ true → other (Some c) ≡ false)
    → (ts us : List Placed) → Front test ts → other (first (ts ++ us)) ≡ false
front_is test other h ts us f = ap (λ z. other (first (z ++ us))) f.2 ∙ h f.0.token f.3

pub front_has : (test : Token → Bool) (other : Option Token → Bool) → ((c : Token) → test c ≡ true → other (Some c) ≡ true)
    → (ts us : List Placed) → Front test ts → other (first (ts ++ us)) ≡ true
front_has test other h ts us f = ap (λ z. other (first (z ++ us))) f.2 ∙ h f.0.token f.3

pub no_specifier : (c : Token) → begins_expression c ≡ true → begins_specifier (Some c) ≡ false
no_specifier (Token.Keyword w.Void) h = absurd (false≢true h)
no_specifier (Token.Keyword w.Char) h = absurd (false≢true h)
no_specifier (Token.Keyword w.Int) h = absurd (false≢true h)
no_specifier (Token.Keyword w.Signed) h = absurd (false≢true h)
no_specifier (Token.Keyword w.Unsigned) h = absurd (false≢true h)
no_specifier (Token.Keyword w.Struct) h = absurd (false≢true h)
no_specifier _ h = refl
