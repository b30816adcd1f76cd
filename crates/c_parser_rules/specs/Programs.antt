-- How a parser goes over the tokens: a program of a few steps, which reads the rules of the grammar by name.
use Rattle.std.specs.Prelude.{ℕ, Bool, List, Option}
use Rattle.c_words.specs.declared.place.At.{At}
use Rattle.c_words.specs.Tokens.{Token, Placed}
use Rattle.syntax_tree.specs.declared.syntax.specifiers.Specifier.{Specifier}
use Rattle.syntax_tree.specs.Syntax.{ExpressionTree, ExpressionTrees, TypeNameTree, TypeDeclaratorTree, ArrayTree, ParameterDeclaratorTree, ParameterTree}
use Rattle.syntax_tree.specs.Syntax.{ParametersTree, SuffixTree, DeclaratorTree, InitializerTree, InitializerTrees, InitDeclaratorTree, DeclarationTree}
use Rattle.syntax_tree.specs.Syntax.{MemberDeclarationTree, ForStartTree, StatementTree, BlockTree, BlockItemTree, BlockItemTrees, HeadTree, ExternalTree, UnitTree}
use Rattle.syntax_tree.specs.GrammarLimits.{Level}
use Rattle.syntax_tree.specs.GrammarRefusals.{Refusal}

-- what a rule reads
pub data Sort : Type 0 where
  expression expressions type_name type_declarator specifier count identifier pieces : Sort
  array parameter_declarator parameter parameters suffix declarator : Sort
  initializer initializers init_declarator declaration member : Sort
  for_start statement block block_item block_items head external unit : Sort
  optional : Sort → Sort
  many : Sort → Sort

-- A statement comes with whether it ends in an `if` without `else`; a head with where it stands.
abbrev pub Value : Sort → Type 0
Value Sort.expression = ExpressionTree
Value Sort.expressions = ExpressionTrees
Value Sort.type_name = TypeNameTree
Value Sort.type_declarator = TypeDeclaratorTree
Value Sort.specifier = Specifier
Value Sort.count = ℕ
Value Sort.identifier = List ℕ × At
Value Sort.pieces = List (List ℕ)
Value Sort.array = ArrayTree
Value Sort.parameter_declarator = ParameterDeclaratorTree
Value Sort.parameter = ParameterTree
Value Sort.parameters = ParametersTree
Value Sort.suffix = SuffixTree
Value Sort.declarator = DeclaratorTree
Value Sort.initializer = InitializerTree
Value Sort.initializers = InitializerTrees
Value Sort.init_declarator = InitDeclaratorTree
Value Sort.declaration = DeclarationTree
Value Sort.member = MemberDeclarationTree
Value Sort.for_start = ForStartTree
Value Sort.statement = StatementTree × Bool
Value Sort.block = BlockTree
Value Sort.block_item = BlockItemTree
Value Sort.block_items = BlockItemTrees
Value Sort.head = HeadTree × At
Value Sort.external = ExternalTree
Value Sort.unit = UnitTree
Value (Sort.optional s) = Option (Value s)
Value (Sort.many s) = List (Value s)

-- The rules of the grammar, and those that go on behind what was read. The level says how many are open there.
pub data Rule : Sort → Type 0 where
  -- an X, where the next token does not tell that there is none
  optionally : {s : Sort} → (none : Option Token → Bool) → Rule s → Rule (Sort.optional s)
  -- any number of X, as long as the next token tells that one begins
  repeat : {s : Sort} → (begins : Option Token → Bool) → Rule s → Rule (Sort.many s)
  -- one X or more, with commas between; and what follows the first
  commas : {s : Sort} → Rule s → Rule (Sort.many s)
  commas_rest : {s : Sort} → Rule s → Value s → Rule (Sort.many s)
  identifier : Rule Sort.identifier
  -- further strings behind one
  strings : Rule Sort.pieces
  specifier : Rule Sort.specifier
  stars : Level → Rule Sort.count
  expression : Level → Rule Sort.expression
  comma_rest : Level → ExpressionTree → Rule Sort.expression
  assignment : Level → Rule Sort.expression
  conditional : Level → Rule Sort.expression
  binary : (strength : ℕ) → Level → Rule Sort.expression
  binary_rest : (strength : ℕ) → Level → ExpressionTree → Rule Sort.expression
  cast : Level → Rule Sort.expression
  unary : Level → Rule Sort.expression
  postfix : Level → Rule Sort.expression
  postfix_rest : Level → ExpressionTree → Rule Sort.expression
  primary : Level → Rule Sort.expression
  -- behind a `(` that stands here
  parenthesized : Level → At → Rule Sort.expression
  arguments : Level → Rule Sort.expressions
  listed : Level → Rule Sort.expressions
  type_name : Level → Rule Sort.type_name
  type_declarator : Level → At → Rule Sort.type_declarator
  sizes : Level → Rule Sort.expressions
  array : Level → Rule Sort.array
  parameter_declarator : Level → At → Rule Sort.parameter_declarator
  parameter : Level → Rule Sort.parameter
  parameters : Level → Rule Sort.parameters
  suffix : Level → Rule Sort.suffix
  declarator : Level → Rule Sort.declarator
  initializer : Level → Rule Sort.initializer
  -- parts in braces, and a comma behind them or not
  parts : Level → Rule Sort.initializers
  init_declarator : Level → Rule Sort.init_declarator
  init_rest : Level → DeclaratorTree → Rule Sort.init_declarator
  declaration : Level → Rule Sort.declaration
  member : Level → Rule Sort.member
  for_start : Level → Rule Sort.for_start
  statement : Level → Rule Sort.statement
  block : Level → Rule Sort.block
  items : Level → Rule Sort.block_items
  item : Level → Rule Sort.block_item
  head : Level → Rule Sort.head
  external : Level → Rule Sort.external
  unit : Rule Sort.unit

pub data Program : Sort → Type 0 where
  -- this was read
  give : {s : Sort} → Value s → Program s
  -- the next token fits nothing
  refuse : {s : Sort} → Program s
  -- goes by the next token, or by there being none
  look : {s : Sort} → (Option Token → Program s) → Program s
  -- takes this token, and goes on with its place; the test tells whether that is within the limits
  take : {s : Sort} → Token → Bool → (At → Program s) → Program s
  -- goes on with the place of this token, which is not taken; the test is as before
  ahead : {s : Sort} → Token → Bool → (At → Program s) → Program s
  -- reads a rule, and goes on with what it gave
  call : {s t : Sort} → Rule s → (Value s → Program t) → Program t

-- What is read, with the tokens behind it; or the refusal, with the tokens from the refused one on.
pub data Outcome (A : Type 0) : Type 0 where
  read : A → List Placed → Outcome A
  refused : Refusal → List Placed → Outcome A
