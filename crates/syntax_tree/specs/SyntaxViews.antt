-- What the program's syntax trees stand for.
use Rattle.std.specs.Prelude.{List, [], ◌∷◌, map, Some, None}
use Rattle.std.specs.Option.{option_map}
use Rattle.syntax_tree.specs.declared.syntax.expressions.Expression.{Expression, fold-Expression}
use Rattle.syntax_tree.specs.declared.syntax.expressions.TypeName.{TypeName, fold-TypeName}
use Rattle.syntax_tree.specs.declared.syntax.expressions.TypeDeclarator.{TypeDeclarator, fold-TypeDeclarator}
use Rattle.syntax_tree.specs.declared.syntax.expressions.Expression.TheOpen.{Expression-F, TypeDeclarator-F, TypeName-F}
use Rattle.syntax_tree.specs.declared.syntax.declarators.Array.{Array}
use Rattle.syntax_tree.specs.declared.syntax.declarators.ParameterDeclarator.{ParameterDeclarator, fold-ParameterDeclarator}
use Rattle.syntax_tree.specs.declared.syntax.declarators.ParameterDeclarator.TheOpen.{ParameterDeclarator-F}
use Rattle.syntax_tree.specs.declared.syntax.declarators.Parameter.{Parameter}
use Rattle.syntax_tree.specs.declared.syntax.declarators.Parameters.{Parameters}
use Rattle.syntax_tree.specs.declared.syntax.declarators.Suffix.{Suffix}
use Rattle.syntax_tree.specs.declared.syntax.declarators.Declarator.{Declarator, fold-Declarator}
use Rattle.syntax_tree.specs.declared.syntax.declarators.Declarator.TheOpen.{Declarator-F}
use Rattle.syntax_tree.specs.declared.syntax.declarations.Initializer.{Initializer, fold-Initializer}
use Rattle.syntax_tree.specs.declared.syntax.declarations.Initializer.TheOpen.{Initializer-F}
use Rattle.syntax_tree.specs.declared.syntax.declarations.InitDeclarator.{InitDeclarator}
use Rattle.syntax_tree.specs.declared.syntax.declarations.Declaration.{Declaration}
use Rattle.syntax_tree.specs.declared.syntax.declarations.MemberDeclaration.{MemberDeclaration}
use Rattle.syntax_tree.specs.declared.syntax.declarations.StructDefinition.{StructDefinition}
use Rattle.syntax_tree.specs.declared.syntax.statements.ForStart.{ForStart}
use Rattle.syntax_tree.specs.declared.syntax.statements.Statement.{Statement, fold-Statement}
use Rattle.syntax_tree.specs.declared.syntax.statements.Block.{Block, fold-Block}
use Rattle.syntax_tree.specs.declared.syntax.statements.BlockItem.{BlockItem, fold-BlockItem}
use Rattle.syntax_tree.specs.declared.syntax.statements.BlockItem.TheOpen.{Block-F, BlockItem-F, Statement-F}
use Rattle.syntax_tree.specs.declared.syntax.units.Head.{Head}
use Rattle.syntax_tree.specs.declared.syntax.units.External.{External}
use Rattle.syntax_tree.specs.declared.syntax.units.Unit.{Unit as Rattle_Unit}
use Rattle.syntax_tree.specs.Syntax.{ExpressionTree, ExpressionTrees, TypeNameTree, TypeDeclaratorTree, ArrayTree, ParameterDeclaratorTree}
use Rattle.syntax_tree.specs.Syntax.{ParameterTree, ParametersTree, SuffixTree, DeclaratorTree, InitializerTree, InitializerTrees}
use Rattle.syntax_tree.specs.Syntax.{InitDeclaratorTree, DeclarationTree, MemberDeclarationTree, StructDefinitionTree, ForStartTree}
use Rattle.syntax_tree.specs.Syntax.{StatementTree, BlockTree, BlockItemTree, BlockItemTrees, HeadTree, ExternalTree, UnitTree}

-- lists of trees that lead back to themselves
abbrev pub listed : List ExpressionTree → ExpressionTrees
listed [] = ExpressionTrees.none
listed (e ∷ es) = ExpressionTrees.more e (listed es)

abbrev pub listed_parts : List InitializerTree → InitializerTrees
listed_parts [] = InitializerTrees.none
listed_parts (i ∷ is) = InitializerTrees.more i (listed_parts is)

abbrev pub listed_items : List BlockItemTree → BlockItemTrees
listed_items [] = BlockItemTrees.none
listed_items (x ∷ xs) = BlockItemTrees.more x (listed_items xs)

-- expressions and type names: one layer, whose children have their trees already
abbrev pub expression_level : Expression-F ExpressionTree TypeDeclaratorTree TypeNameTree → ExpressionTree
expression_level (Expression-F.Name at x) = ExpressionTree.Name at x
expression_level (Expression-F.Number at n u) = ExpressionTree.Number at n u
expression_level (Expression-F.Character at n) = ExpressionTree.Character at n
expression_level (Expression-F.Text at pieces) = ExpressionTree.Text at pieces.items
expression_level (Expression-F.Null at) = ExpressionTree.Null at
expression_level (Expression-F.Eof at) = ExpressionTree.Eof at
expression_level (Expression-F.Parenthesized at e) = ExpressionTree.Parenthesized at e.value
expression_level (Expression-F.Index at a i) = ExpressionTree.Index at a.value i.value
expression_level (Expression-F.Call at f es) = ExpressionTree.Call at f.value (listed es.items)
expression_level (Expression-F.Member at e m) = ExpressionTree.Member at e.value m
expression_level (Expression-F.Arrow at e m) = ExpressionTree.Arrow at e.value m
expression_level (Expression-F.StepAfter at e op) = ExpressionTree.StepAfter at e.value op
expression_level (Expression-F.StepBefore at op e) = ExpressionTree.StepBefore at op e.value
expression_level (Expression-F.Unary at op e) = ExpressionTree.Unary at op e.value
expression_level (Expression-F.SizeofType at t) = ExpressionTree.SizeofType at t
expression_level (Expression-F.SizeofExpression at e) = ExpressionTree.SizeofExpression at e.value
expression_level (Expression-F.Cast at t e) = ExpressionTree.Cast at t e.value
expression_level (Expression-F.Binary at a op b) = ExpressionTree.Binary at a.value op b.value
expression_level (Expression-F.Conditional at a b c) = ExpressionTree.Conditional at a.value b.value c.value
expression_level (Expression-F.Assign at a op b) = ExpressionTree.Assign at a.value op b.value
expression_level (Expression-F.Comma at a b) = ExpressionTree.Comma at a.value b.value

abbrev pub type_declarator_level : TypeDeclarator-F ExpressionTree TypeDeclaratorTree TypeNameTree → TypeDeclaratorTree
type_declarator_level (TypeDeclarator-F.Direct at n es) = TypeDeclaratorTree.Direct at n (listed es.items)
type_declarator_level (TypeDeclarator-F.Nested at n t es) = TypeDeclaratorTree.Nested at n t.value (listed es.items)

abbrev pub type_name_level : TypeName-F ExpressionTree TypeDeclaratorTree TypeNameTree → TypeNameTree
type_name_level t = TypeNameTree.type_name t.at t.specifier t.declarator

unfoldable pub expression_tree : Expression → ExpressionTree
expression_tree = fold-Expression ExpressionTree TypeDeclaratorTree TypeNameTree expression_level type_declarator_level type_name_level

unfoldable pub type_declarator_tree : TypeDeclarator → TypeDeclaratorTree
type_declarator_tree = fold-TypeDeclarator ExpressionTree TypeDeclaratorTree TypeNameTree expression_level type_declarator_level type_name_level

unfoldable pub type_name_tree : TypeName → TypeNameTree
type_name_tree = fold-TypeName ExpressionTree TypeDeclaratorTree TypeNameTree expression_level type_declarator_level type_name_level

abbrev pub expression_trees : List Expression → ExpressionTrees
expression_trees es = listed (map expression_tree es)

-- declarators
abbrev pub array_tree : Array → ArrayTree
array_tree a = record { at = a.at; size = option_map expression_tree a.size }

abbrev pub parameter_declarator_level : ParameterDeclarator-F ParameterDeclaratorTree → ParameterDeclaratorTree
parameter_declarator_level (ParameterDeclarator-F.Unnamed at n arrays) = ParameterDeclaratorTree.Unnamed at n (map array_tree arrays.items)
parameter_declarator_level (ParameterDeclarator-F.Named at n x arrays) = ParameterDeclaratorTree.Named at n x (map array_tree arrays.items)
parameter_declarator_level (ParameterDeclarator-F.Nested at n t arrays) = ParameterDeclaratorTree.Nested at n t.value (map array_tree arrays.items)

unfoldable pub parameter_declarator_tree : ParameterDeclarator → ParameterDeclaratorTree
parameter_declarator_tree = fold-ParameterDeclarator ParameterDeclaratorTree parameter_declarator_level

abbrev pub parameter_tree : Parameter → ParameterTree
parameter_tree p = record { at = p.at; specifier = p.specifier; declarator = parameter_declarator_tree p.declarator }

abbrev pub parameters_tree : Parameters → ParametersTree
parameters_tree (Parameters.Void at) = ParametersTree.Void at
parameters_tree (Parameters.Listed at ps) = ParametersTree.Listed at (map parameter_tree ps.items)

abbrev pub suffix_tree : Suffix → SuffixTree
suffix_tree (Suffix.Array a) = SuffixTree.Array (array_tree a)
suffix_tree (Suffix.Function at ps) = SuffixTree.Function at (option_map parameters_tree ps)

abbrev pub declarator_level : Declarator-F DeclaratorTree → DeclaratorTree
declarator_level (Declarator-F.Named at n x suffixes) = DeclaratorTree.Named at n x (map suffix_tree suffixes.items)
declarator_level (Declarator-F.Nested at n t suffixes) = DeclaratorTree.Nested at n t.value (map suffix_tree suffixes.items)

unfoldable pub declarator_tree : Declarator → DeclaratorTree
declarator_tree = fold-Declarator DeclaratorTree declarator_level

-- declarations
abbrev pub initializer_level : Initializer-F InitializerTree → InitializerTree
initializer_level (Initializer-F.Expression e) = InitializerTree.Expression (expression_tree e)
initializer_level (Initializer-F.Braced at is) = InitializerTree.Braced at (listed_parts is.items)

unfoldable pub initializer_tree : Initializer → InitializerTree
initializer_tree = fold-Initializer InitializerTree initializer_level

abbrev pub initializer_trees : List Initializer → InitializerTrees
initializer_trees is = listed_parts (map initializer_tree is)

abbrev pub init_declarator_tree : InitDeclarator → InitDeclaratorTree
init_declarator_tree d = record { at = d.at; declarator = declarator_tree d.declarator; initializer = option_map initializer_tree d.initializer }

abbrev pub declaration_tree : Declaration → DeclarationTree
declaration_tree d = record { at = d.at; specifier = d.specifier; declarators = map init_declarator_tree d.declarators.items }

abbrev pub member_declaration_tree : MemberDeclaration → MemberDeclarationTree
member_declaration_tree d = record { at = d.at; specifier = d.specifier; declarators = map declarator_tree d.declarators.items }

abbrev pub struct_definition_tree : StructDefinition → StructDefinitionTree
struct_definition_tree d = record { at = d.at; tag = d.tag; members = map member_declaration_tree d.members.items }

-- statements
abbrev pub for_start_tree : ForStart → ForStartTree
for_start_tree (ForStart.Declaration d) = ForStartTree.Declaration (declaration_tree d)
for_start_tree (ForStart.Expression e) = ForStartTree.Expression (option_map expression_tree e)

abbrev pub statement_level : Statement-F BlockItemTree StatementTree BlockTree → StatementTree
statement_level (Statement-F.Block b) = StatementTree.Block b
statement_level (Statement-F.Empty at) = StatementTree.Empty at
statement_level (Statement-F.Expression at e) = StatementTree.Expression at (expression_tree e)
statement_level (Statement-F.If at e x None) = StatementTree.If at (expression_tree e) x.value
statement_level (Statement-F.If at e x (Some y)) = StatementTree.IfElse at (expression_tree e) x.value y.value
statement_level (Statement-F.While at e x) = StatementTree.While at (expression_tree e) x.value
statement_level (Statement-F.DoWhile at x e) = StatementTree.DoWhile at x.value (expression_tree e)
statement_level (Statement-F.For at s c u x) = StatementTree.For at (for_start_tree s) (option_map expression_tree c) (option_map expression_tree u) x.value
statement_level (Statement-F.Break at) = StatementTree.Break at
statement_level (Statement-F.Continue at) = StatementTree.Continue at
statement_level (Statement-F.Return at e) = StatementTree.Return at (option_map expression_tree e)

abbrev pub block_level : Block-F BlockItemTree StatementTree BlockTree → BlockTree
block_level b = BlockTree.block b.at (listed_items b.items.items)

abbrev pub block_item_level : BlockItem-F BlockItemTree StatementTree BlockTree → BlockItemTree
block_item_level (BlockItem-F.Declaration d) = BlockItemTree.Declaration (declaration_tree d)
block_item_level (BlockItem-F.Statement x) = BlockItemTree.Statement x

unfoldable pub statement_tree : Statement → StatementTree
statement_tree = fold-Statement BlockItemTree StatementTree BlockTree block_item_level statement_level block_level

unfoldable pub block_tree : Block → BlockTree
block_tree = fold-Block BlockItemTree StatementTree BlockTree block_item_level statement_level block_level

unfoldable pub block_item_tree : BlockItem → BlockItemTree
block_item_tree = fold-BlockItem BlockItemTree StatementTree BlockTree block_item_level statement_level block_level

abbrev pub block_item_trees : List BlockItem → BlockItemTrees
block_item_trees xs = listed_items (map block_item_tree xs)

-- the declarations of a file
abbrev pub head_tree : Head → HeadTree
head_tree (Head.Specifier s) = HeadTree.Specifier s
head_tree (Head.Struct d) = HeadTree.Struct (struct_definition_tree d)

abbrev pub external_tree : External → ExternalTree
external_tree (External.Declaration at h ds) = ExternalTree.Declaration at (head_tree h) (map init_declarator_tree ds.items)
external_tree (External.Function at h d body) = ExternalTree.Function at (head_tree h) (declarator_tree d) (block_tree body)

abbrev pub unit_tree : Rattle_Unit → UnitTree
unit_tree u = record { at = u.at; externals = map external_tree u.externals.items }
