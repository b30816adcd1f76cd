-- What each rule does.
use Rattle.std.specs.Prelude.{ℕ, zero, suc, ◌+◌, Bool, true, false, ◌&&◌, if◌then◌else◌, List, [], ◌∷◌, Option, Some, None}
use Rattle.c_words.specs.declared.place.At.{At}
use Rattle.c_words.specs.declared.words.Keyword.TheVariants as w
use Rattle.c_words.specs.declared.words.Punctuator.{Punctuator}
use Rattle.c_words.specs.declared.words.Punctuator.TheVariants as m
use Rattle.c_words.specs.declared.operators.UnaryOperator.{UnaryOperator}
use Rattle.c_words.specs.declared.operators.StepOperator.{StepOperator}
use Rattle.c_words.specs.declared.operators.BinaryOperator.{BinaryOperator}
use Rattle.c_words.specs.declared.operators.AssignOperator.{AssignOperator}
use Rattle.c_words.specs.Tokens.{Token}
use Rattle.syntax_tree.specs.declared.syntax.specifiers.Specifier.{Specifier}
use Rattle.syntax_tree.specs.declared.syntax.specifiers.Specifier.TheVariants as s
use Rattle.syntax_tree.specs.Syntax.{ExpressionTree, ExpressionTrees, TypeNameTree, TypeDeclaratorTree, ParameterDeclaratorTree}
use Rattle.syntax_tree.specs.Syntax.{ParameterTree, ParametersTree, SuffixTree, DeclaratorTree, InitializerTree, InitializerTrees}
use Rattle.syntax_tree.specs.Syntax.{ForStartTree, StatementTree, BlockTree, BlockItemTree, BlockItemTrees, HeadTree, ExternalTree}
use Rattle.syntax_tree.specs.GrammarLimits.{Level}
use Rattle.syntax_tree.specs.GrammarTokens.{unary_operator, step_operator, weakest}
use Rattle.syntax_tree.specs.GrammarExpressions.{specifier_at, call_at}
use Rattle.syntax_tree.specs.GrammarDeclarations.{declarator_at, parameter_declarator_at}
use Rattle.syntax_tree.specs.Grammar.{start_of_file}
use Rattle.c_parser_rules.specs.Programs.{Sort, Rule, Program}
use Rattle.c_parser_rules.specs.Programs.Program.{give, refuse, look, take, ahead, call}
use Rattle.c_parser_rules.specs.Tests.{is_some, is_comma, is_semicolon, is_question, is_equal, is_star, is_open_paren, is_close_paren}
use Rattle.c_parser_rules.specs.Tests.{is_open_bracket, is_close_bracket, is_open_brace, is_close_brace, goes_on, is_else, is_int}
use Rattle.c_parser_rules.specs.Tests.{begins_specifier, begins_statement, begins_suffix, operator, assigns, opens, is_low}

abbrev pub when : {s : Sort} → (Option Token → Bool) → Program s → Program s → Program s
when test p q = look (λ c. if test c then p else q)

abbrev pub reads : {s : Sort} → Rule s → Program s
reads r = call r (λ x. give x)

-- takes a mark or a word that is within the limits anyway
abbrev pub mark : {s : Sort} → Punctuator → (At → Program s) → Program s
mark p f = take (Token.Punctuator p) true f

-- ---- tokens
abbrev pub identifier_by : Option Token → Program Sort.identifier
identifier_by (Some (Token.Name x)) = take (Token.Name x) true (λ at. give (x, at))
identifier_by _ = refuse

abbrev pub strings_by : Option Token → Program Sort.pieces
strings_by (Some (Token.StringLiteral b)) = take (Token.StringLiteral b) true (λ at. call Rule.strings (λ pieces. give (b ∷ pieces)))
strings_by _ = give []

abbrev pub unsigned_by : At → Option Token → Program Sort.specifier
unsigned_by at (Some (Token.Keyword w.Int)) = take (Token.Keyword w.Int) true (λ next. give (s.UnsignedInt at))
unsigned_by at (Some (Token.Keyword w.Char)) = take (Token.Keyword w.Char) true (λ next. give (s.UnsignedChar at))
unsigned_by at _ = give (s.Unsigned at)

abbrev pub specifier_by : Option Token → Program Sort.specifier
specifier_by (Some (Token.Keyword w.Void)) = take (Token.Keyword w.Void) true (λ at. give (s.Void at))
specifier_by (Some (Token.Keyword w.Char)) = take (Token.Keyword w.Char) true (λ at. give (s.Char at))
specifier_by (Some (Token.Keyword w.Int)) = take (Token.Keyword w.Int) true (λ at. give (s.Int at))
specifier_by (Some (Token.Keyword w.Signed)) = take (Token.Keyword w.Signed) true (λ at.
    when is_int (take (Token.Keyword w.Int) true (λ next. give (s.SignedInt at))) (give (s.Signed at)))
specifier_by (Some (Token.Keyword w.Unsigned)) = take (Token.Keyword w.Unsigned) true (λ at. look (unsigned_by at))
specifier_by (Some (Token.Keyword w.Struct)) = take (Token.Keyword w.Struct) true (λ at. call Rule.identifier (λ x. give (s.Struct at x.0)))
specifier_by _ = refuse

-- ---- expressions
abbrev pub assign_by : Level → ExpressionTree → Option (Punctuator × AssignOperator) → Program Sort.expression
assign_by d a None = give a
assign_by d a (Some o) = take (Token.Punctuator o.0) (is_low a && opens d) (λ at. call (Rule.assignment (suc d)) (λ b. give (ExpressionTree.Assign at a o.1 b)))

abbrev pub binary_by : ℕ → Level → ExpressionTree → Option (Punctuator × BinaryOperator) → Program Sort.expression
binary_by k d a None = give a
binary_by k d a (Some o) = take (Token.Punctuator o.0) (is_low a)
    (λ at. call (Rule.binary k d) (λ b. reads (Rule.binary_rest k d (ExpressionTree.Binary at a o.1 b))))

abbrev pub cast_by : Level → Option Token → Program Sort.expression
cast_by d (Some (Token.Punctuator m.OpenParen)) = take (Token.Punctuator m.OpenParen) (opens d) (λ at.
    when begins_specifier
    (call (Rule.type_name (suc d)) (λ t. mark m.CloseParen (λ to. call (Rule.cast (suc d)) (λ a. give (ExpressionTree.Cast at t a)))))
    (call (Rule.parenthesized d at) (λ a. reads (Rule.postfix_rest d a))))
cast_by d _ = reads (Rule.unary d)

abbrev pub sizeof_by : Level → At → Option Token → Program Sort.expression
sizeof_by d at (Some (Token.Punctuator m.OpenParen)) = take (Token.Punctuator m.OpenParen) (opens (suc d)) (λ from.
    when begins_specifier
    (call (Rule.type_name (suc (suc d))) (λ t. mark m.CloseParen (λ to. give (ExpressionTree.SizeofType at t))))
    (call (Rule.parenthesized (suc d) from) (λ a. call (Rule.postfix_rest (suc d) a) (λ b. give (ExpressionTree.SizeofExpression at b)))))
sizeof_by d at _ = call (Rule.unary (suc d)) (λ a. give (ExpressionTree.SizeofExpression at a))

abbrev pub unary_mark : Level → Punctuator → Option StepOperator → Option UnaryOperator → Program Sort.expression
unary_mark d p (Some op) other = take (Token.Punctuator p) (opens d) (λ at. call (Rule.unary (suc d)) (λ a. give (ExpressionTree.StepBefore at op a)))
unary_mark d p None (Some op) = take (Token.Punctuator p) (opens d) (λ at. call (Rule.cast (suc d)) (λ a. give (ExpressionTree.Unary at op a)))
unary_mark d p None None = reads (Rule.postfix d)

abbrev pub unary_by : Level → Option Token → Program Sort.expression
unary_by d (Some (Token.Punctuator p)) = unary_mark d p (step_operator p) (unary_operator p)
unary_by d (Some (Token.Keyword w.Sizeof)) = take (Token.Keyword w.Sizeof) (opens d) (λ at. look (sizeof_by d at))
unary_by d _ = reads (Rule.postfix d)

abbrev pub postfix_by : Level → ExpressionTree → Option Token → Program Sort.expression
postfix_by d a (Some (Token.Punctuator m.OpenBracket)) = take (Token.Punctuator m.OpenBracket) (is_low a && opens d) (λ at.
    call (Rule.expression (suc d)) (λ b. mark m.CloseBracket (λ to. reads (Rule.postfix_rest d (ExpressionTree.Index at a b)))))
postfix_by d a (Some (Token.Punctuator m.OpenParen)) = take (Token.Punctuator m.OpenParen) (is_low a && opens d) (λ from.
    call (Rule.arguments (suc d)) (λ xs. mark m.CloseParen (λ to. reads (Rule.postfix_rest d (ExpressionTree.Call (call_at a from) a xs)))))
postfix_by d a (Some (Token.Punctuator m.Dot)) = take (Token.Punctuator m.Dot) (is_low a) (λ at.
    call Rule.identifier (λ x. reads (Rule.postfix_rest d (ExpressionTree.Member at a x.0))))
postfix_by d a (Some (Token.Punctuator m.Arrow)) = take (Token.Punctuator m.Arrow) (is_low a) (λ at.
    call Rule.identifier (λ x. reads (Rule.postfix_rest d (ExpressionTree.Arrow at a x.0))))
postfix_by d a (Some (Token.Punctuator m.PlusPlus)) = take (Token.Punctuator m.PlusPlus) (is_low a) (λ at.
    reads (Rule.postfix_rest d (ExpressionTree.StepAfter at a StepOperator.Increment)))
postfix_by d a (Some (Token.Punctuator m.MinusMinus)) = take (Token.Punctuator m.MinusMinus) (is_low a) (λ at.
    reads (Rule.postfix_rest d (ExpressionTree.StepAfter at a StepOperator.Decrement)))
postfix_by d a _ = give a

abbrev pub primary_by : Level → Option Token → Program Sort.expression
primary_by d (Some (Token.Name x)) = take (Token.Name x) true (λ at. give (ExpressionTree.Name at x))
primary_by d (Some (Token.Number n u)) = take (Token.Number n u) true (λ at. give (ExpressionTree.Number at n u))
primary_by d (Some (Token.Character n)) = take (Token.Character n) true (λ at. give (ExpressionTree.Character at n))
primary_by d (Some (Token.StringLiteral b)) = take (Token.StringLiteral b) true (λ at. call Rule.strings (λ pieces. give (ExpressionTree.Text at (b ∷ pieces))))
primary_by d (Some (Token.Keyword w.Null)) = take (Token.Keyword w.Null) true (λ at. give (ExpressionTree.Null at))
primary_by d (Some (Token.Keyword w.Eof)) = take (Token.Keyword w.Eof) true (λ at. give (ExpressionTree.Eof at))
primary_by d (Some (Token.Punctuator m.OpenParen)) = take (Token.Punctuator m.OpenParen) (opens d) (λ at. reads (Rule.parenthesized d at))
primary_by d _ = refuse

-- ---- declarators
-- what brackets may hold is something
abbrev pub is_nothing : TypeDeclaratorTree → Bool
is_nothing (TypeDeclaratorTree.Direct at zero ExpressionTrees.none) = true
is_nothing _ = false

abbrev pub is_no_declarator : ParameterDeclaratorTree → Bool
is_no_declarator (ParameterDeclaratorTree.Unnamed at zero []) = true
is_no_declarator _ = false

abbrev pub is_void : Specifier → Bool
is_void (s.Void at) = true
is_void _ = false

-- `void` alone
abbrev pub is_lone_void : List ParameterTree → Bool
is_lone_void [] = false
is_lone_void (p ∷ []) = is_void p.specifier && is_no_declarator p.declarator
is_lone_void (p ∷ q ∷ ps) = false

-- parameters, where a lone `void` stands for none
abbrev pub parameters_of : List ParameterTree → Program Sort.parameters
parameters_of [] = refuse
parameters_of (p ∷ []) = if is_void p.specifier && is_no_declarator p.declarator
    then give (ParametersTree.Void p.at) else give (ParametersTree.Listed p.at (p ∷ []))
parameters_of (p ∷ q ∷ ps) = give (ParametersTree.Listed p.at (p ∷ q ∷ ps))

abbrev pub parameter_declarator_by : Level → At → ℕ → Option Token → Program Sort.parameter_declarator
parameter_declarator_by d at n (Some (Token.Name x)) = take (Token.Name x) true (λ own.
    call (Rule.repeat is_open_bracket (Rule.array d)) (λ arrays. give (ParameterDeclaratorTree.Named own n x arrays)))
parameter_declarator_by d at n (Some (Token.Punctuator m.OpenParen)) = take (Token.Punctuator m.OpenParen) (opens d) (λ from.
    call (Rule.parameter_declarator (suc d) at) (λ inner. if is_no_declarator inner then refuse else
    mark m.CloseParen (λ to. call (Rule.repeat is_open_bracket (Rule.array d)) (λ arrays.
    give (ParameterDeclaratorTree.Nested (parameter_declarator_at inner) n inner arrays)))))
parameter_declarator_by d at n _ = call (Rule.repeat is_open_bracket (Rule.array d)) (λ arrays. give (ParameterDeclaratorTree.Unnamed at n arrays))

abbrev pub declarator_by : Level → ℕ → Option Token → Program Sort.declarator
declarator_by d n (Some (Token.Name x)) = take (Token.Name x) true (λ at.
    call (Rule.repeat begins_suffix (Rule.suffix d)) (λ suffixes. give (DeclaratorTree.Named at n x suffixes)))
declarator_by d n (Some (Token.Punctuator m.OpenParen)) = take (Token.Punctuator m.OpenParen) (opens d) (λ from.
    call (Rule.declarator (suc d)) (λ inner. mark m.CloseParen (λ to. call (Rule.repeat begins_suffix (Rule.suffix d)) (λ suffixes.
    give (DeclaratorTree.Nested (declarator_at inner) n inner suffixes)))))
declarator_by d n _ = refuse

-- ---- statements
-- An `else` belongs to the nearest `if`: behind a statement that ends in an `if` without `else` there is none.
abbrev pub else_by : At → ExpressionTree → Level → StatementTree × Bool → Program Sort.statement
else_by at c d x = if x.1 then give (StatementTree.If at c x.0, true) else when is_else
    (take (Token.Keyword w.Else) true (λ other. call (Rule.statement (suc d)) (λ y. give (StatementTree.IfElse at c x.0 y.0, y.1))))
    (give (StatementTree.If at c x.0, true))

abbrev pub do_rest : Level → At → Program Sort.statement
do_rest d at = call (Rule.statement (suc d)) (λ x. take (Token.Keyword w.While) true (λ again. mark m.OpenParen (λ from.
    call (Rule.expression (suc d)) (λ c. mark m.CloseParen (λ to. mark m.Semicolon (λ end. give (StatementTree.DoWhile at x.0 c, false)))))))

abbrev pub do_by : Level → At → Option Token → Program Sort.statement
do_by d at None = refuse
do_by d at (Some t) = if begins_statement t then ahead t (opens d) (λ from. do_rest d at) else refuse

abbrev pub value_statement : Level → Option Token → Program Sort.statement
value_statement d None = refuse
value_statement d (Some t) = ahead t true (λ from. call (Rule.expression d) (λ a. mark m.Semicolon (λ to. give (StatementTree.Expression from a, false))))

abbrev pub statement_by : Level → Option Token → Program Sort.statement
statement_by d (Some (Token.Punctuator m.Semicolon)) = mark m.Semicolon (λ at. give (StatementTree.Empty at, false))
statement_by d (Some (Token.Punctuator m.OpenBrace)) = call (Rule.block d) (λ x. give (StatementTree.Block x, false))
statement_by d (Some (Token.Keyword w.If)) = take (Token.Keyword w.If) true (λ at. take (Token.Punctuator m.OpenParen) (opens d) (λ from.
    call (Rule.expression (suc d)) (λ c. mark m.CloseParen (λ to. call (Rule.statement (suc d)) (λ x. else_by at c d x)))))
statement_by d (Some (Token.Keyword w.While)) = take (Token.Keyword w.While) true (λ at. take (Token.Punctuator m.OpenParen) (opens d) (λ from.
    call (Rule.expression (suc d)) (λ c. mark m.CloseParen (λ to. call (Rule.statement (suc d)) (λ x. give (StatementTree.While at c x.0, x.1))))))
statement_by d (Some (Token.Keyword w.Do)) = take (Token.Keyword w.Do) true (λ at. look (do_by d at))
statement_by d (Some (Token.Keyword w.For)) = take (Token.Keyword w.For) true (λ at. take (Token.Punctuator m.OpenParen) (opens d) (λ from.
    call (Rule.for_start (suc d)) (λ start. call (Rule.optionally is_semicolon (Rule.expression (suc d))) (λ c. mark m.Semicolon (λ middle.
    call (Rule.optionally is_close_paren (Rule.expression (suc d))) (λ u. mark m.CloseParen (λ to.
    call (Rule.statement (suc d)) (λ x. give (StatementTree.For at start c u x.0, x.1)))))))))
statement_by d (Some (Token.Keyword w.Break)) = take (Token.Keyword w.Break) true (λ at. mark m.Semicolon (λ to. give (StatementTree.Break at, false)))
statement_by d (Some (Token.Keyword w.Continue)) = take (Token.Keyword w.Continue) true (λ at. mark m.Semicolon (λ to. give (StatementTree.Continue at, false)))
statement_by d (Some (Token.Keyword w.Return)) = take (Token.Keyword w.Return) true (λ at.
    call (Rule.optionally is_semicolon (Rule.expression d)) (λ a. mark m.Semicolon (λ to. give (StatementTree.Return at a, false))))
statement_by d c = value_statement d c

-- ---- units
-- behind the `struct` that stands here, and its tag
abbrev pub struct_by : Level → At → List ℕ × At → Program Sort.head
struct_by d first x = when is_open_brace
    (take (Token.Punctuator m.OpenBrace) (opens d) (λ open_at. call (Rule.member (suc d)) (λ one. call (Rule.repeat goes_on (Rule.member (suc d))) (λ members.
    mark m.CloseBrace (λ to. give (HeadTree.Struct (record { at = x.1; tag = x.0; members = one ∷ members }), first))))))
    (give (HeadTree.Specifier (s.Struct first x.0), first))

abbrev pub head_by : Level → Option Token → Program Sort.head
head_by d (Some (Token.Keyword w.Struct)) = take (Token.Keyword w.Struct) true (λ first. call Rule.identifier (λ x. struct_by d first x))
head_by d _ = call Rule.specifier (λ s. give (HeadTree.Specifier s, specifier_at s))

abbrev pub unit_by : Option Token → Program Sort.unit
unit_by None = give (record { at = start_of_file; externals = [] })
unit_by (Some t) = ahead t true
    (λ at. call (Rule.external 0) (λ x. call (Rule.repeat is_some (Rule.external 0)) (λ xs. give (record { at = at; externals = x ∷ xs }))))

abbrev pub body : {s : Sort} → Rule s → Program s
body (Rule.optionally none r) = when none (give None) (call r (λ x. give (Some x)))
body (Rule.repeat begins r) = when begins (call r (λ x. call (Rule.repeat begins r) (λ xs. give (x ∷ xs)))) (give [])
body (Rule.commas r) = call r (λ x. reads (Rule.commas_rest r x))
body (Rule.commas_rest r x) = when is_comma (mark m.Comma (λ at. call (Rule.commas r) (λ xs. give (x ∷ xs)))) (give (x ∷ []))
body Rule.identifier = look identifier_by
body Rule.strings = look strings_by
body Rule.specifier = look specifier_by
body (Rule.stars d) = when is_star (take (Token.Punctuator m.Star) (opens d) (λ at. call (Rule.stars (suc d)) (λ n. give (suc n)))) (give zero)
body (Rule.expression d) = call (Rule.assignment d) (λ a. reads (Rule.comma_rest d a))
body (Rule.comma_rest d a) = when is_comma
    (take (Token.Punctuator m.Comma) (is_low a) (λ at. call (Rule.assignment d) (λ b. reads (Rule.comma_rest d (ExpressionTree.Comma at a b))))) (give a)
body (Rule.assignment d) = call (Rule.conditional d) (λ a. look (λ c. assign_by d a (assigns c)))
body (Rule.conditional d) = call (Rule.binary weakest d) (λ a. when is_question
    (take (Token.Punctuator m.Question) (is_low a && opens d) (λ at. call (Rule.expression (suc d)) (λ b. mark m.Colon (λ colon.
    call (Rule.conditional (suc d)) (λ c. give (ExpressionTree.Conditional at a b c))))))
    (give a))
body (Rule.binary zero d) = reads (Rule.cast d)
body (Rule.binary (suc k) d) = call (Rule.binary k d) (λ a. reads (Rule.binary_rest k d a))
body (Rule.binary_rest k d a) = look (λ c. binary_by k d a (operator (suc k) c))
body (Rule.cast d) = look (cast_by d)
body (Rule.unary d) = look (unary_by d)
body (Rule.postfix d) = call (Rule.primary d) (λ a. reads (Rule.postfix_rest d a))
body (Rule.postfix_rest d a) = look (postfix_by d a)
body (Rule.primary d) = look (primary_by d)
body (Rule.parenthesized d at) = call (Rule.expression (suc d)) (λ a. mark m.CloseParen (λ to. give (ExpressionTree.Parenthesized at a)))
body (Rule.arguments d) = when is_close_paren (give ExpressionTrees.none) (reads (Rule.listed d))
body (Rule.listed d) = call (Rule.assignment d) (λ a. when is_comma
    (mark m.Comma (λ at. call (Rule.listed d) (λ rest. give (ExpressionTrees.more a rest)))) (give (ExpressionTrees.more a ExpressionTrees.none)))
body (Rule.type_name d) = call Rule.specifier (λ s. call (Rule.type_declarator d (specifier_at s)) (λ t. give (TypeNameTree.type_name (specifier_at s) s t)))
body (Rule.type_declarator d at) = call (Rule.stars d) (λ n. when is_open_paren
    (take (Token.Punctuator m.OpenParen) (opens (d + n)) (λ from. call (Rule.type_declarator (suc (d + n)) at) (λ inner. if is_nothing inner then refuse else
    mark m.CloseParen (λ to. call (Rule.sizes (d + n)) (λ sizes. give (TypeDeclaratorTree.Nested at n inner sizes))))))
    (call (Rule.sizes (d + n)) (λ sizes. give (TypeDeclaratorTree.Direct at n sizes))))
body (Rule.sizes d) = when is_open_bracket
    (take (Token.Punctuator m.OpenBracket) (opens d) (λ at. call (Rule.conditional (suc d)) (λ c. mark m.CloseBracket (λ to.
    call (Rule.sizes d) (λ rest. give (ExpressionTrees.more c rest))))))
    (give ExpressionTrees.none)
body (Rule.array d) = take (Token.Punctuator m.OpenBracket) (opens d) (λ at. call (Rule.optionally is_close_bracket (Rule.conditional (suc d))) (λ size.
    mark m.CloseBracket (λ to. give (record { at = at; size = size }))))
body (Rule.parameter_declarator d at) = call (Rule.stars d) (λ n. look (parameter_declarator_by (d + n) at n))
body (Rule.parameter d) = call Rule.specifier (λ s. call (Rule.parameter_declarator d (specifier_at s)) (λ t.
    give (record { at = specifier_at s; specifier = s; declarator = t })))
body (Rule.parameters d) = call (Rule.commas (Rule.parameter d)) (λ ps. parameters_of ps)
body (Rule.suffix d) = when is_open_bracket (call (Rule.array d) (λ a. give (SuffixTree.Array a)))
    (take (Token.Punctuator m.OpenParen) (opens d) (λ at. call (Rule.optionally is_close_paren (Rule.parameters (suc d))) (λ ps.
    mark m.CloseParen (λ to. give (SuffixTree.Function at ps)))))
body (Rule.declarator d) = call (Rule.stars d) (λ n. look (declarator_by (d + n) n))
body (Rule.initializer d) = when is_open_brace
    (take (Token.Punctuator m.OpenBrace) (opens d) (λ at. call (Rule.parts (suc d)) (λ ps. mark m.CloseBrace (λ to. give (InitializerTree.Braced at ps)))))
    (call (Rule.assignment d) (λ a. give (InitializerTree.Expression a)))
body (Rule.parts d) = call (Rule.initializer d) (λ i. when is_comma
    (mark m.Comma (λ at. when is_close_brace (give (InitializerTrees.more i InitializerTrees.none))
    (call (Rule.parts d) (λ rest. give (InitializerTrees.more i rest)))))
    (give (InitializerTrees.more i InitializerTrees.none)))
body (Rule.init_declarator d) = call (Rule.declarator d) (λ t. reads (Rule.init_rest d t))
body (Rule.init_rest d t) = when is_equal
    (mark m.Equal (λ at. call (Rule.initializer d) (λ i. give (record { at = at; declarator = t; initializer = Some i }))))
    (give (record { at = declarator_at t; declarator = t; initializer = None }))
body (Rule.declaration d) = call Rule.specifier (λ s. when is_semicolon
    (mark m.Semicolon (λ to. give (record { at = specifier_at s; specifier = s; declarators = [] })))
    (call (Rule.commas (Rule.init_declarator d)) (λ xs. mark m.Semicolon (λ to. give (record { at = specifier_at s; specifier = s; declarators = xs })))))
body (Rule.member d) = call Rule.specifier (λ s. call (Rule.commas (Rule.declarator d)) (λ xs.
    mark m.Semicolon (λ to. give (record { at = specifier_at s; specifier = s; declarators = xs }))))
body (Rule.for_start d) = when begins_specifier (call (Rule.declaration d) (λ x. give (ForStartTree.Declaration x)))
    (call (Rule.optionally is_semicolon (Rule.expression d)) (λ a. mark m.Semicolon (λ to. give (ForStartTree.Expression a))))
body (Rule.statement d) = look (statement_by d)
body (Rule.block d) = take (Token.Punctuator m.OpenBrace) (opens d)
    (λ at. call (Rule.items (suc d)) (λ xs. mark m.CloseBrace (λ to. give (BlockTree.block at xs))))
body (Rule.items d) = when is_close_brace (give BlockItemTrees.none)
    (call (Rule.item d) (λ x. call (Rule.items d) (λ rest. give (BlockItemTrees.more x rest))))
body (Rule.item d) = when begins_specifier (call (Rule.declaration d) (λ x. give (BlockItemTree.Declaration x)))
    (call (Rule.statement d) (λ x. give (BlockItemTree.Statement x.0)))
body (Rule.head d) = look (head_by d)
body (Rule.external d) = call (Rule.head d) (λ h. when is_semicolon
    (mark m.Semicolon (λ to. give (ExternalTree.Declaration h.1 h.0 [])))
    (call (Rule.declarator d) (λ t. when is_open_brace
    (call (Rule.block d) (λ x. give (ExternalTree.Function h.1 h.0 t x)))
    (call (Rule.init_rest d t) (λ i. call (Rule.commas_rest (Rule.init_declarator d) i) (λ xs. mark m.Semicolon (λ to.
    give (ExternalTree.Declaration h.1 h.0 xs))))))))
body Rule.unit = look unit_by
