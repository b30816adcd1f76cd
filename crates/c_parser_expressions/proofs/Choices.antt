-- Which way a rule goes, by what the code asks of the next token.
use Rattle.std.proofs.Common.{◌≡◌, ℕ, zero, suc, ◌<◌, ◌-◌, ◌==◌, Bool, true, false, cond, Option, Some, None, refl, sym, ap, subst, ◌∙◌, arith}
use Rattle.c_words.specs.Tokens.{Token}
use Rattle.c_words.specs.declared.place.At.{At}
use Rattle.c_words.specs.declared.words.Keyword.TheVariants as w
use Rattle.c_words.specs.declared.words.Punctuator.{Punctuator}
use Rattle.c_words.specs.declared.words.Punctuator.TheVariants as m
use Rattle.c_words.specs.declared.operators.UnaryOperator.{UnaryOperator}
use Rattle.c_words.specs.declared.operators.StepOperator.{StepOperator}
use Rattle.c_words.specs.declared.operators.BinaryOperator.{BinaryOperator}
use Rattle.c_words.specs.declared.operators.AssignOperator.{AssignOperator}
use Rattle.syntax_tree.specs.Syntax.{ExpressionTree}
use Rattle.syntax_tree.specs.GrammarTokens.{unary_operator, binary_operator}
use Rattle.c_parser_rules.specs.Programs.{Rule, Program}
use Rattle.c_parser_rules.specs.Tests.{is_comma, is_question, is_close_paren, is_open_bracket, with_mark, assigns, at_strength, operator, opens}
use Rattle.c_parser_rules.specs.Bodies.{body, reads, cast_by, sizeof_by, unary_by, unary_mark, postfix_by}
use Rattle.c_parser_expressions.specs.Reads.{assign_of, step_of, unary_of, binary_of, at_level}

pub no_comma : (c : Option Token) → (c ≡ Some (Token.Punctuator m.Comma) → ⊥) → is_comma c ≡ false
no_comma (Some (Token.Punctuator m.Comma)) h = absurd (h refl)
no_comma _ h = refl

pub no_question : (c : Option Token) → (c ≡ Some (Token.Punctuator m.Question) → ⊥) → is_question c ≡ false
no_question (Some (Token.Punctuator m.Question)) h = absurd (h refl)
no_question _ h = refl

pub no_close_paren : (c : Option Token) → (c ≡ Some (Token.Punctuator m.CloseParen) → ⊥) → is_close_paren c ≡ false
no_close_paren (Some (Token.Punctuator m.CloseParen)) h = absurd (h refl)
no_close_paren _ h = refl

pub no_open_bracket : (c : Option Token) → (c ≡ Some (Token.Punctuator m.OpenBracket) → ⊥) → is_open_bracket c ≡ false
no_open_bracket (Some (Token.Punctuator m.OpenBracket)) h = absurd (h refl)
no_open_bracket _ h = refl

-- a cast is an operator's operand, where no `(` comes
pub no_cast : (d : ℕ) (c : Option Token) → (c ≡ Some (Token.Punctuator m.OpenParen) → ⊥) → cast_by d c ≡ reads (Rule.unary d)
no_cast d (Some (Token.Punctuator m.OpenParen)) h = absurd (h refl)
no_cast d _ h = refl

pub no_sizeof_paren : (d : ℕ) (at : At) (c : Option Token) → (c ≡ Some (Token.Punctuator m.OpenParen) → ⊥)
    → sizeof_by d at c ≡ Program.call (Rule.unary (suc d)) (λ a. Program.give (ExpressionTree.SizeofExpression at a))
no_sizeof_paren d at (Some (Token.Punctuator m.OpenParen)) h = absurd (h refl)
no_sizeof_paren d at _ h = refl

pub no_postfix : (d : ℕ) (a : ExpressionTree) (c : Option Token) → (c ≡ Some (Token.Punctuator m.OpenBracket) → ⊥) → (c ≡ Some (Token.Punctuator m.OpenParen) → ⊥)
    → (c ≡ Some (Token.Punctuator m.Dot) → ⊥) → (c ≡ Some (Token.Punctuator m.Arrow) → ⊥) → (c ≡ Some (Token.Punctuator m.PlusPlus) → ⊥) → (c ≡ Some (Token.Punctuator m.MinusMinus) → ⊥)
    → postfix_by d a c ≡ Program.give a
no_postfix d a (Some (Token.Punctuator m.OpenBracket)) h i j k l o = absurd (h refl)
no_postfix d a (Some (Token.Punctuator m.OpenParen)) h i j k l o = absurd (i refl)
no_postfix d a (Some (Token.Punctuator m.Dot)) h i j k l o = absurd (j refl)
no_postfix d a (Some (Token.Punctuator m.Arrow)) h i j k l o = absurd (k refl)
no_postfix d a (Some (Token.Punctuator m.PlusPlus)) h i j k l o = absurd (l refl)
no_postfix d a (Some (Token.Punctuator m.MinusMinus)) h i j k l o = absurd (o refl)
no_postfix d a _ h i j k l o = refl

-- the assignment operator that comes next
pub assigns_is : (c : Option Token) (op : AssignOperator) → assign_of c ≡ Some op → (p : Punctuator) × (c ≡ Some (Token.Punctuator p)) × (assigns c ≡ Some (p, op))
assigns_is (Some (Token.Punctuator p)) op h = (p, refl, ap (with_mark p) h)
assigns_is None op h = absurd (cc)
assigns_is (Some (Token.Name x)) op h = absurd (cc)
assigns_is (Some (Token.Number n u)) op h = absurd (cc)
assigns_is (Some (Token.Character n)) op h = absurd (cc)
assigns_is (Some (Token.StringLiteral n)) op h = absurd (cc)
assigns_is (Some (Token.Keyword n)) op h = absurd (cc)

pub no_assign : (c : Option Token) → assign_of c ≡ None → assigns c ≡ None
no_assign (Some (Token.Punctuator p)) h = ap (with_mark p) h
no_assign None h = refl
no_assign (Some (Token.Name x)) h = refl
no_assign (Some (Token.Number n u)) h = refl
no_assign (Some (Token.Character n)) h = refl
no_assign (Some (Token.StringLiteral n)) h = refl
no_assign (Some (Token.Keyword n)) h = refl

-- the operator of this strength that comes next
at_both : (k : ℕ) (p : Punctuator) (o : Option (ℕ × BinaryOperator)) (op : BinaryOperator) → at_level k o ≡ Some op → at_strength k p o ≡ Some (p, op)
at_both k p None op h = absurd (cc)
at_both k p (Some o) op h = chosen k p o op (o.0 == k) h
  where
    chosen : (k : ℕ) (p : Punctuator) (o : ℕ × BinaryOperator) (op : BinaryOperator) (b : Bool) → cond b (Some o.1) None ≡ Some op → cond {A = Option (Punctuator × BinaryOperator)} b (Some (p, o.1)) None ≡ Some (p, op)
    chosen k p o op true h = cc
    chosen k p o op false h = absurd (cc)

pub operator_is : (k : ℕ) (c : Option Token) (op : BinaryOperator) → binary_of k c ≡ Some op → (p : Punctuator) × (c ≡ Some (Token.Punctuator p)) × (operator k c ≡ Some (p, op))
operator_is k (Some (Token.Punctuator p)) op h = (p, refl, at_both k p (binary_operator p) op h)
operator_is k None op h = absurd (cc)
operator_is k (Some (Token.Name x)) op h = absurd (cc)
operator_is k (Some (Token.Number n u)) op h = absurd (cc)
operator_is k (Some (Token.Character n)) op h = absurd (cc)
operator_is k (Some (Token.StringLiteral n)) op h = absurd (cc)
operator_is k (Some (Token.Keyword n)) op h = absurd (cc)

-- the operator before an operand that comes next
pub step_is : (d : ℕ) (c : Option Token) (op : StepOperator) → step_of c ≡ Some op
    → (p : Punctuator) × (c ≡ Some (Token.Punctuator p)) × (unary_by d c ≡ Program.take (Token.Punctuator p) (opens d) (λ at. Program.call (Rule.unary (suc d)) (λ a. Program.give (ExpressionTree.StepBefore at op a))))
step_is d (Some (Token.Punctuator p)) op h = (p, refl, ap (λ z. unary_mark d p z (unary_operator p)) h)
step_is d None op h = absurd (cc)
step_is d (Some (Token.Name x)) op h = absurd (cc)
step_is d (Some (Token.Number n u)) op h = absurd (cc)
step_is d (Some (Token.Character n)) op h = absurd (cc)
step_is d (Some (Token.StringLiteral n)) op h = absurd (cc)
step_is d (Some (Token.Keyword n)) op h = absurd (cc)

pub unary_is : (d : ℕ) (c : Option Token) (op : UnaryOperator) → step_of c ≡ None → unary_of c ≡ Some op
    → (p : Punctuator) × (c ≡ Some (Token.Punctuator p)) × (unary_by d c ≡ Program.take (Token.Punctuator p) (opens d) (λ at. Program.call (Rule.cast (suc d)) (λ a. Program.give (ExpressionTree.Unary at op a))))
unary_is d (Some (Token.Punctuator p)) op n h = (p, refl, ap (λ z. unary_mark d p z (unary_operator p)) n ∙ ap (λ z. unary_mark d p None z) h)
unary_is d None op n h = absurd (cc)
unary_is d (Some (Token.Name x)) op n h = absurd (cc)
unary_is d (Some (Token.Number k u)) op n h = absurd (cc)
unary_is d (Some (Token.Character k)) op n h = absurd (cc)
unary_is d (Some (Token.StringLiteral k)) op n h = absurd (cc)
unary_is d (Some (Token.Keyword k)) op n h = absurd (cc)

pub no_unary : (d : ℕ) (c : Option Token) → step_of c ≡ None → unary_of c ≡ None → (c ≡ Some (Token.Keyword w.Sizeof) → ⊥) → unary_by d c ≡ reads (Rule.postfix d)
no_unary d (Some (Token.Punctuator p)) n h s = ap (λ z. unary_mark d p z (unary_operator p)) n ∙ ap (λ z. unary_mark d p None z) h
no_unary d (Some (Token.Keyword w.Sizeof)) n h s = absurd (s refl)
no_unary d (Some (Token.Keyword _)) n h s = refl
no_unary d None n h s = refl
no_unary d (Some (Token.Name x)) n h s = refl
no_unary d (Some (Token.Number k u)) n h s = refl
no_unary d (Some (Token.Character k)) n h s = refl
no_unary d (Some (Token.StringLiteral k)) n h s = refl

-- binary expressions of a strength as a number
pub binary_zero : (n d : ℕ) → n ≡ 0 → body (Rule.binary n d) ≡ reads (Rule.cast d)
binary_zero zero d h = refl
binary_zero (suc k) d h = absurd (omega (arith, h))

less_one : (k : ℕ) → suc k - 1 ≡ k
less_one k = omega arith

pub binary_more : (n d : ℕ) → 0 < n → body (Rule.binary n d) ≡ Program.call (Rule.binary (n - 1) d) (λ a. reads (Rule.binary_rest (n - 1) d a))
binary_more zero d h = absurd (omega (arith, h))
binary_more (suc k) d h = subst (λ z. body (Rule.binary (suc k) d) ≡ Program.call (Rule.binary z d) (λ a. reads (Rule.binary_rest z d a))) (sym (less_one k)) refl

pub one_more : (n : ℕ) → 0 < n → suc (n - 1) ≡ n
one_more n h = omega (arith, h)
