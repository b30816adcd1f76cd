-- Parts of rules that the parser has a function for.
use Rattle.std.specs.Prelude.{ℕ, suc, Bool, true, false, Option, Some, if◌then◌else◌}
use Rattle.c_words.specs.declared.place.At.{At}
use Rattle.c_words.specs.declared.words.Punctuator.TheVariants as m
use Rattle.c_words.specs.Tokens.{Token}
use Rattle.syntax_tree.specs.Syntax.{ExpressionTree, TypeDeclaratorTree}
use Rattle.syntax_tree.specs.GrammarLimits.{Level}
use Rattle.c_parser_rules.specs.Programs.{Sort, Rule, Program}
use Rattle.c_parser_rules.specs.Programs.Program.{give, refuse, take, call}
use Rattle.c_parser_rules.specs.Tests.{opens}
use Rattle.c_parser_rules.specs.Bodies.{mark, is_nothing}

-- a cast, behind its `(`, which stands here
abbrev pub converted : Level → At → Program Sort.expression
converted d at = call (Rule.type_name (suc d)) (λ t. mark m.CloseParen (λ to. call (Rule.cast (suc d)) (λ a. give (ExpressionTree.Cast at t a))))

-- the brackets of a type name's declarator behind so many stars, and what follows them
abbrev pub nested : Level → At → ℕ → Program Sort.type_declarator
nested d at n = take (Token.Punctuator m.OpenParen) (opens d) (λ from. call (Rule.type_declarator (suc d) at) (λ inner. if is_nothing inner then refuse else
    mark m.CloseParen (λ to. call (Rule.sizes d) (λ sizes. give (TypeDeclaratorTree.Nested at n inner sizes)))))

-- what begins something behind an operand
abbrev pub begins_behind : Option Token → Bool
begins_behind (Some (Token.Punctuator m.OpenBracket)) = true
begins_behind (Some (Token.Punctuator m.OpenParen)) = true
begins_behind (Some (Token.Punctuator m.Dot)) = true
begins_behind (Some (Token.Punctuator m.Arrow)) = true
begins_behind (Some (Token.Punctuator m.PlusPlus)) = true
begins_behind (Some (Token.Punctuator m.MinusMinus)) = true
begins_behind _ = false
