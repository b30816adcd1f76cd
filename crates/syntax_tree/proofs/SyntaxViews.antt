-- What each variant of a syntax tree stands for.
use Rattle.std.proofs.Common.{◌≡◌, ℕ, rules, Vec, Global, Bool}
use Rattle.std.specs.Prelude.{Box, List, map, Option, Some, None}
use Rattle.std.specs.Option.{option_map}
use Rattle.c_words.specs.declared.place.At.{At}
use Rattle.c_words.specs.declared.operators.UnaryOperator.{UnaryOperator}
use Rattle.c_words.specs.declared.operators.StepOperator.{StepOperator}
use Rattle.c_words.specs.declared.operators.BinaryOperator.{BinaryOperator}
use Rattle.c_words.specs.declared.operators.AssignOperator.{AssignOperator}
use Rattle.syntax_tree.specs.declared.syntax.expressions.Expression.{Expression, the_lemmas as expression_lemmas}
use Rattle.syntax_tree.specs.declared.syntax.expressions.Expression.TheVariants as e
use Rattle.syntax_tree.specs.declared.syntax.expressions.TypeName.{TypeName, out-TypeName}
use Rattle.syntax_tree.specs.declared.syntax.expressions.TypeDeclarator.{TypeDeclarator}
use Rattle.syntax_tree.specs.declared.syntax.expressions.TypeDeclarator.TheVariants as t
use Rattle.syntax_tree.specs.declared.syntax.declarators.Array.{Array}
use Rattle.syntax_tree.specs.declared.syntax.declarators.ParameterDeclarator.{ParameterDeclarator, the_lemmas as parameter_lemmas}
use Rattle.syntax_tree.specs.declared.syntax.declarators.ParameterDeclarator.TheVariants as p
use Rattle.syntax_tree.specs.declared.syntax.declarators.Suffix.{Suffix}
use Rattle.syntax_tree.specs.declared.syntax.declarators.Declarator.{Declarator, the_lemmas as declarator_lemmas}
use Rattle.syntax_tree.specs.declared.syntax.declarators.Declarator.TheVariants as d
use Rattle.syntax_tree.specs.declared.syntax.declarations.Initializer.{Initializer, the_lemmas as initializer_lemmas}
use Rattle.syntax_tree.specs.declared.syntax.declarations.Initializer.TheVariants as i
use Rattle.syntax_tree.specs.declared.syntax.declarations.Declaration.{Declaration}
use Rattle.syntax_tree.specs.declared.syntax.statements.ForStart.{ForStart}
use Rattle.syntax_tree.specs.declared.syntax.statements.Statement.{Statement, the_lemmas as statement_lemmas}
use Rattle.syntax_tree.specs.declared.syntax.statements.Statement.TheVariants as s
use Rattle.syntax_tree.specs.declared.syntax.statements.Block.{Block, out-Block}
use Rattle.syntax_tree.specs.declared.syntax.statements.BlockItem.TheVariants as b
use Rattle.syntax_tree.specs.Syntax.{ExpressionTree, TypeNameTree, TypeDeclaratorTree, ParameterDeclaratorTree, DeclaratorTree, InitializerTree, StatementTree, BlockTree, BlockItemTree}
use Rattle.syntax_tree.specs.SyntaxViews.{expression_tree, expression_trees, type_name_tree, type_declarator_tree, array_tree, parameter_declarator_tree, suffix_tree, declarator_tree, initializer_tree, initializer_trees, declaration_tree, for_start_tree, statement_tree, block_tree, block_item_tree, block_item_trees}

pub view-Name : (at : At) (x : List ℕ) → expression_tree (e.Name at x) ≡ ExpressionTree.Name at x
unfolding expression_tree type_declarator_tree type_name_tree
view-Name at x = search (rules, expression_lemmas)

pub view-Number : (at : At) (n : ℕ) (u : Bool) → expression_tree (e.Number at n u) ≡ ExpressionTree.Number at n u
unfolding expression_tree type_declarator_tree type_name_tree
view-Number at n u = search (rules, expression_lemmas)

pub view-Character : (at : At) (n : ℕ) → expression_tree (e.Character at n) ≡ ExpressionTree.Character at n
unfolding expression_tree type_declarator_tree type_name_tree
view-Character at n = search (rules, expression_lemmas)

pub view-Text : (at : At) (pieces : Vec (List ℕ) Global) → expression_tree (e.Text at pieces) ≡ ExpressionTree.Text at pieces.items
unfolding expression_tree type_declarator_tree type_name_tree
view-Text at pieces = search (rules, expression_lemmas)

pub view-Null : (at : At) → expression_tree (e.Null at) ≡ ExpressionTree.Null at
unfolding expression_tree type_declarator_tree type_name_tree
view-Null at = search (rules, expression_lemmas)

pub view-Eof : (at : At) → expression_tree (e.Eof at) ≡ ExpressionTree.Eof at
unfolding expression_tree type_declarator_tree type_name_tree
view-Eof at = search (rules, expression_lemmas)

pub view-Parenthesized : (at : At) (a : Box Expression Global) → expression_tree (e.Parenthesized at a) ≡ ExpressionTree.Parenthesized at (expression_tree a.value)
unfolding expression_tree type_declarator_tree type_name_tree
view-Parenthesized at a = search (rules, expression_lemmas)

pub view-Index : (at : At) (a b : Box Expression Global) → expression_tree (e.Index at a b) ≡ ExpressionTree.Index at (expression_tree a.value) (expression_tree b.value)
unfolding expression_tree type_declarator_tree type_name_tree
view-Index at a b = search (rules, expression_lemmas)

pub view-Call : (at : At) (f : Box Expression Global) (es : Vec Expression Global) → expression_tree (e.Call at f es) ≡ ExpressionTree.Call at (expression_tree f.value) (expression_trees es.items)
unfolding expression_tree type_declarator_tree type_name_tree
view-Call at f es = search (rules, expression_lemmas)

pub view-Member : (at : At) (a : Box Expression Global) (x : List ℕ) → expression_tree (e.Member at a x) ≡ ExpressionTree.Member at (expression_tree a.value) x
unfolding expression_tree type_declarator_tree type_name_tree
view-Member at a x = search (rules, expression_lemmas)

pub view-Arrow : (at : At) (a : Box Expression Global) (x : List ℕ) → expression_tree (e.Arrow at a x) ≡ ExpressionTree.Arrow at (expression_tree a.value) x
unfolding expression_tree type_declarator_tree type_name_tree
view-Arrow at a x = search (rules, expression_lemmas)

pub view-StepAfter : (at : At) (a : Box Expression Global) (op : StepOperator) → expression_tree (e.StepAfter at a op) ≡ ExpressionTree.StepAfter at (expression_tree a.value) op
unfolding expression_tree type_declarator_tree type_name_tree
view-StepAfter at a op = search (rules, expression_lemmas)

pub view-StepBefore : (at : At) (op : StepOperator) (a : Box Expression Global) → expression_tree (e.StepBefore at op a) ≡ ExpressionTree.StepBefore at op (expression_tree a.value)
unfolding expression_tree type_declarator_tree type_name_tree
view-StepBefore at op a = search (rules, expression_lemmas)

pub view-Unary : (at : At) (op : UnaryOperator) (a : Box Expression Global) → expression_tree (e.Unary at op a) ≡ ExpressionTree.Unary at op (expression_tree a.value)
unfolding expression_tree type_declarator_tree type_name_tree
view-Unary at op a = search (rules, expression_lemmas)

pub view-SizeofType : (at : At) (t : TypeName) → expression_tree (e.SizeofType at t) ≡ ExpressionTree.SizeofType at (type_name_tree t)
unfolding expression_tree type_declarator_tree type_name_tree
view-SizeofType at t = search (rules, expression_lemmas)

pub view-SizeofExpression : (at : At) (a : Box Expression Global) → expression_tree (e.SizeofExpression at a) ≡ ExpressionTree.SizeofExpression at (expression_tree a.value)
unfolding expression_tree type_declarator_tree type_name_tree
view-SizeofExpression at a = search (rules, expression_lemmas)

pub view-Cast : (at : At) (t : TypeName) (a : Box Expression Global) → expression_tree (e.Cast at t a) ≡ ExpressionTree.Cast at (type_name_tree t) (expression_tree a.value)
unfolding expression_tree type_declarator_tree type_name_tree
view-Cast at t a = search (rules, expression_lemmas)

pub view-Binary : (at : At) (a : Box Expression Global) (op : BinaryOperator) (b : Box Expression Global) → expression_tree (e.Binary at a op b) ≡ ExpressionTree.Binary at (expression_tree a.value) op (expression_tree b.value)
unfolding expression_tree type_declarator_tree type_name_tree
view-Binary at a op b = search (rules, expression_lemmas)

pub view-Conditional : (at : At) (a b c : Box Expression Global) → expression_tree (e.Conditional at a b c) ≡ ExpressionTree.Conditional at (expression_tree a.value) (expression_tree b.value) (expression_tree c.value)
unfolding expression_tree type_declarator_tree type_name_tree
view-Conditional at a b c = search (rules, expression_lemmas)

pub view-Assign : (at : At) (a : Box Expression Global) (op : AssignOperator) (b : Box Expression Global) → expression_tree (e.Assign at a op b) ≡ ExpressionTree.Assign at (expression_tree a.value) op (expression_tree b.value)
unfolding expression_tree type_declarator_tree type_name_tree
view-Assign at a op b = search (rules, expression_lemmas)

pub view-Comma : (at : At) (a b : Box Expression Global) → expression_tree (e.Comma at a b) ≡ ExpressionTree.Comma at (expression_tree a.value) (expression_tree b.value)
unfolding expression_tree type_declarator_tree type_name_tree
view-Comma at a b = search (rules, expression_lemmas)

pub view-type-direct : (at : At) (n : ℕ) (es : Vec Expression Global) → type_declarator_tree (t.Direct at n es) ≡ TypeDeclaratorTree.Direct at n (expression_trees es.items)
unfolding expression_tree type_declarator_tree type_name_tree
view-type-direct at n es = search (rules, expression_lemmas)

pub view-type-nested : (at : At) (n : ℕ) (x : Box TypeDeclarator Global) (es : Vec Expression Global) → type_declarator_tree (t.Nested at n x es) ≡ TypeDeclaratorTree.Nested at n (type_declarator_tree x.value) (expression_trees es.items)
unfolding expression_tree type_declarator_tree type_name_tree
view-type-nested at n x es = search (rules, expression_lemmas)

pub view-type-name : (t : TypeName) → type_name_tree t ≡ TypeNameTree.type_name (out-TypeName t).at (out-TypeName t).specifier (type_declarator_tree (out-TypeName t).declarator)
unfolding expression_tree type_declarator_tree type_name_tree
view-type-name t = search (rules, expression_lemmas)

-- what each expression and type name stands for
pub ruleset expression_views = (view-Name, view-Number, view-Character, view-Text, view-Null, view-Eof, view-Parenthesized, view-Index, view-Call, view-Member, view-Arrow, view-StepAfter, view-StepBefore, view-Unary, view-SizeofType, view-SizeofExpression, view-Cast, view-Binary, view-Conditional, view-Assign, view-Comma, view-type-direct, view-type-nested, view-type-name)

pub view-parameter-unnamed : (at : At) (n : ℕ) (arrays : Vec Array Global) → parameter_declarator_tree (p.Unnamed at n arrays) ≡ ParameterDeclaratorTree.Unnamed at n (map array_tree arrays.items)
unfolding parameter_declarator_tree
view-parameter-unnamed at n arrays = search (rules, parameter_lemmas)

pub view-parameter-named : (at : At) (n : ℕ) (x : List ℕ) (arrays : Vec Array Global) → parameter_declarator_tree (p.Named at n x arrays) ≡ ParameterDeclaratorTree.Named at n x (map array_tree arrays.items)
unfolding parameter_declarator_tree
view-parameter-named at n x arrays = search (rules, parameter_lemmas)

pub view-parameter-nested : (at : At) (n : ℕ) (x : Box ParameterDeclarator Global) (arrays : Vec Array Global) → parameter_declarator_tree (p.Nested at n x arrays) ≡ ParameterDeclaratorTree.Nested at n (parameter_declarator_tree x.value) (map array_tree arrays.items)
unfolding parameter_declarator_tree
view-parameter-nested at n x arrays = search (rules, parameter_lemmas)

pub view-named : (at : At) (n : ℕ) (x : List ℕ) (suffixes : Vec Suffix Global) → declarator_tree (d.Named at n x suffixes) ≡ DeclaratorTree.Named at n x (map suffix_tree suffixes.items)
unfolding declarator_tree
view-named at n x suffixes = search (rules, declarator_lemmas)

pub view-nested : (at : At) (n : ℕ) (x : Box Declarator Global) (suffixes : Vec Suffix Global) → declarator_tree (d.Nested at n x suffixes) ≡ DeclaratorTree.Nested at n (declarator_tree x.value) (map suffix_tree suffixes.items)
unfolding declarator_tree
view-nested at n x suffixes = search (rules, declarator_lemmas)

pub view-initializer-expression : (a : Expression) → initializer_tree (i.Expression a) ≡ InitializerTree.Expression (expression_tree a)
unfolding initializer_tree
view-initializer-expression a = search (rules, initializer_lemmas)

pub view-initializer-braced : (at : At) (xs : Vec Initializer Global) → initializer_tree (i.Braced at xs) ≡ InitializerTree.Braced at (initializer_trees xs.items)
unfolding initializer_tree
view-initializer-braced at xs = search (rules, initializer_lemmas)

-- what each declarator and initializer stands for; the other parts of declarations compute
pub ruleset declaration_views = (view-parameter-unnamed, view-parameter-named, view-parameter-nested, view-named, view-nested, view-initializer-expression, view-initializer-braced)

pub view-statement-block : (x : Block) → statement_tree (s.Block x) ≡ StatementTree.Block (block_tree x)
unfolding statement_tree block_tree block_item_tree
view-statement-block x = search (rules, statement_lemmas)

pub view-statement-empty : (at : At) → statement_tree (s.Empty at) ≡ StatementTree.Empty at
unfolding statement_tree block_tree block_item_tree
view-statement-empty at = search (rules, statement_lemmas)

pub view-statement-expression : (at : At) (a : Expression) → statement_tree (s.Expression at a) ≡ StatementTree.Expression at (expression_tree a)
unfolding statement_tree block_tree block_item_tree
view-statement-expression at a = search (rules, statement_lemmas)

pub view-statement-while : (at : At) (c : Expression) (x : Box Statement Global) → statement_tree (s.While at c x) ≡ StatementTree.While at (expression_tree c) (statement_tree x.value)
unfolding statement_tree block_tree block_item_tree
view-statement-while at c x = search (rules, statement_lemmas)

pub view-statement-do_while : (at : At) (x : Box Statement Global) (c : Expression) → statement_tree (s.DoWhile at x c) ≡ StatementTree.DoWhile at (statement_tree x.value) (expression_tree c)
unfolding statement_tree block_tree block_item_tree
view-statement-do_while at x c = search (rules, statement_lemmas)

pub view-statement-for : (at : At) (start : ForStart) (c u : Option Expression) (x : Box Statement Global) → statement_tree (s.For at start c u x) ≡ StatementTree.For at (for_start_tree start) (option_map expression_tree c) (option_map expression_tree u) (statement_tree x.value)
unfolding statement_tree block_tree block_item_tree
view-statement-for at start c u x = search (rules, statement_lemmas)

pub view-statement-break : (at : At) → statement_tree (s.Break at) ≡ StatementTree.Break at
unfolding statement_tree block_tree block_item_tree
view-statement-break at = search (rules, statement_lemmas)

pub view-statement-continue : (at : At) → statement_tree (s.Continue at) ≡ StatementTree.Continue at
unfolding statement_tree block_tree block_item_tree
view-statement-continue at = search (rules, statement_lemmas)

pub view-statement-return : (at : At) (a : Option Expression) → statement_tree (s.Return at a) ≡ StatementTree.Return at (option_map expression_tree a)
unfolding statement_tree block_tree block_item_tree
view-statement-return at a = search (rules, statement_lemmas)

pub view-statement-if : (at : At) (c : Expression) (x : Box Statement Global) → statement_tree (s.If at c x None) ≡ StatementTree.If at (expression_tree c) (statement_tree x.value)
unfolding statement_tree block_tree block_item_tree
view-statement-if at c x = search (rules, statement_lemmas)

pub view-statement-if_else : (at : At) (c : Expression) (x y : Box Statement Global) → statement_tree (s.If at c x (Some y)) ≡ StatementTree.IfElse at (expression_tree c) (statement_tree x.value) (statement_tree y.value)
unfolding statement_tree block_tree block_item_tree
view-statement-if_else at c x y = search (rules, statement_lemmas)

pub view-block : (x : Block) → block_tree x ≡ BlockTree.block (out-Block x).at (block_item_trees (out-Block x).items.items)
unfolding statement_tree block_tree block_item_tree
view-block x = search (rules, statement_lemmas)

pub view-item-declaration : (x : Declaration) → block_item_tree (b.Declaration x) ≡ BlockItemTree.Declaration (declaration_tree x)
unfolding statement_tree block_tree block_item_tree
view-item-declaration x = search (rules, statement_lemmas)

pub view-item-statement : (x : Statement) → block_item_tree (b.Statement x) ≡ BlockItemTree.Statement (statement_tree x)
unfolding statement_tree block_tree block_item_tree
view-item-statement x = search (rules, statement_lemmas)

-- what each statement stands for
pub ruleset statement_views = (view-statement-block, view-statement-empty, view-statement-expression, view-statement-while, view-statement-do_while, view-statement-for, view-statement-break, view-statement-continue, view-statement-return, view-statement-if, view-statement-if_else, view-block, view-item-declaration, view-item-statement)
