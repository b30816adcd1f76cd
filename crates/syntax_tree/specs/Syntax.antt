-- The syntax tree as contracts see it. Each type here is a type of the program's tree, without the memory that it
-- lies in: an `XTree` is what an `X` stands for. Lists of nodes that lead back to themselves are types of their own.
use Rattle.std.specs.Prelude.{ℕ, Bool, List, Option}
use Rattle.c_words.specs.declared.place.At.{At}
use Rattle.c_words.specs.declared.operators.UnaryOperator.{UnaryOperator}
use Rattle.c_words.specs.declared.operators.StepOperator.{StepOperator}
use Rattle.c_words.specs.declared.operators.BinaryOperator.{BinaryOperator}
use Rattle.c_words.specs.declared.operators.AssignOperator.{AssignOperator}
use Rattle.syntax_tree.specs.declared.syntax.specifiers.Specifier.{Specifier as SpecifierTree}

-- expressions (C11 6.5), and the type names in them (6.7.7)
mutual
  pub data ExpressionTree : Type 0 where
    Name : (at : At) (name : List ℕ) → ExpressionTree
    Number : (at : At) (value : ℕ) (is_unsigned : Bool) → ExpressionTree
    Character : (at : At) (value : ℕ) → ExpressionTree
    Text : (at : At) (pieces : List (List ℕ)) → ExpressionTree
    Null : (at : At) → ExpressionTree
    Eof : (at : At) → ExpressionTree
    Parenthesized : (at : At) (inner : ExpressionTree) → ExpressionTree
    Index : (at : At) (array index : ExpressionTree) → ExpressionTree
    Call : (at : At) (called : ExpressionTree) (arguments : ExpressionTrees) → ExpressionTree
    Member : (at : At) (object : ExpressionTree) (member : List ℕ) → ExpressionTree
    Arrow : (at : At) (pointer : ExpressionTree) (member : List ℕ) → ExpressionTree
    StepAfter : (at : At) (operand : ExpressionTree) (operator : StepOperator) → ExpressionTree
    StepBefore : (at : At) (operator : StepOperator) (operand : ExpressionTree) → ExpressionTree
    Unary : (at : At) (operator : UnaryOperator) (operand : ExpressionTree) → ExpressionTree
    SizeofType : (at : At) (type_name : TypeNameTree) → ExpressionTree
    SizeofExpression : (at : At) (operand : ExpressionTree) → ExpressionTree
    Cast : (at : At) (type_name : TypeNameTree) (operand : ExpressionTree) → ExpressionTree
    Binary : (at : At) (left : ExpressionTree) (operator : BinaryOperator) (right : ExpressionTree) → ExpressionTree
    Conditional : (at : At) (condition on_true on_false : ExpressionTree) → ExpressionTree
    Assign : (at : At) (left : ExpressionTree) (operator : AssignOperator) (right : ExpressionTree) → ExpressionTree
    Comma : (at : At) (left right : ExpressionTree) → ExpressionTree

  pub data ExpressionTrees : Type 0 where
    none : ExpressionTrees
    more : (first : ExpressionTree) (rest : ExpressionTrees) → ExpressionTrees

  pub data TypeNameTree : Type 0 where
    type_name : (at : At) (specifier : SpecifierTree) (declarator : TypeDeclaratorTree) → TypeNameTree

  pub data TypeDeclaratorTree : Type 0 where
    Direct : (at : At) (stars : ℕ) (sizes : ExpressionTrees) → TypeDeclaratorTree
    Nested : (at : At) (stars : ℕ) (inner : TypeDeclaratorTree) (sizes : ExpressionTrees) → TypeDeclaratorTree

-- declarators (6.7.6)
pub record ArrayTree : Type 0 where
  pub at : At
  pub size : Option ExpressionTree

pub data ParameterDeclaratorTree : Type 0 where
  Unnamed : (at : At) (stars : ℕ) (arrays : List ArrayTree) → ParameterDeclaratorTree
  Named : (at : At) (stars : ℕ) (name : List ℕ) (arrays : List ArrayTree) → ParameterDeclaratorTree
  Nested : (at : At) (stars : ℕ) (inner : ParameterDeclaratorTree) (arrays : List ArrayTree) → ParameterDeclaratorTree

pub record ParameterTree : Type 0 where
  pub at : At
  pub specifier : SpecifierTree
  pub declarator : ParameterDeclaratorTree

pub data ParametersTree : Type 0 where
  Void : (at : At) → ParametersTree
  Listed : (at : At) (parameters : List ParameterTree) → ParametersTree

pub data SuffixTree : Type 0 where
  Array : (array : ArrayTree) → SuffixTree
  Function : (at : At) (parameters : Option ParametersTree) → SuffixTree

pub data DeclaratorTree : Type 0 where
  Named : (at : At) (stars : ℕ) (name : List ℕ) (suffixes : List SuffixTree) → DeclaratorTree
  Nested : (at : At) (stars : ℕ) (inner : DeclaratorTree) (suffixes : List SuffixTree) → DeclaratorTree

-- initializers (6.7.9)
mutual
  pub data InitializerTree : Type 0 where
    Expression : (value : ExpressionTree) → InitializerTree
    Braced : (at : At) (parts : InitializerTrees) → InitializerTree

  pub data InitializerTrees : Type 0 where
    none : InitializerTrees
    more : (first : InitializerTree) (rest : InitializerTrees) → InitializerTrees

-- declarations (6.7)
pub record InitDeclaratorTree : Type 0 where
  pub at : At
  pub declarator : DeclaratorTree
  pub initializer : Option InitializerTree

pub record DeclarationTree : Type 0 where
  pub at : At
  pub specifier : SpecifierTree
  pub declarators : List InitDeclaratorTree

pub record MemberDeclarationTree : Type 0 where
  pub at : At
  pub specifier : SpecifierTree
  pub declarators : List DeclaratorTree

pub record StructDefinitionTree : Type 0 where
  pub at : At
  pub tag : List ℕ
  pub members : List MemberDeclarationTree

-- how a `for` begins (6.8.5.3)
pub data ForStartTree : Type 0 where
  Declaration : (declaration : DeclarationTree) → ForStartTree
  Expression : (value : Option ExpressionTree) → ForStartTree

-- statements (6.8)
mutual
  pub data StatementTree : Type 0 where
    Block : (block : BlockTree) → StatementTree
    Empty : (at : At) → StatementTree
    Expression : (at : At) (value : ExpressionTree) → StatementTree
    If : (at : At) (condition : ExpressionTree) (on_true : StatementTree) → StatementTree
    IfElse : (at : At) (condition : ExpressionTree) (on_true on_false : StatementTree) → StatementTree
    While : (at : At) (condition : ExpressionTree) (body : StatementTree) → StatementTree
    DoWhile : (at : At) (body : StatementTree) (condition : ExpressionTree) → StatementTree
    For : (at : At) (start : ForStartTree) (condition step : Option ExpressionTree) (body : StatementTree) → StatementTree
    Break : (at : At) → StatementTree
    Continue : (at : At) → StatementTree
    Return : (at : At) (value : Option ExpressionTree) → StatementTree

  pub data BlockTree : Type 0 where
    block : (at : At) (items : BlockItemTrees) → BlockTree

  pub data BlockItemTree : Type 0 where
    Declaration : (declaration : DeclarationTree) → BlockItemTree
    Statement : (statement : StatementTree) → BlockItemTree

  pub data BlockItemTrees : Type 0 where
    none : BlockItemTrees
    more : (first : BlockItemTree) (rest : BlockItemTrees) → BlockItemTrees

-- the declarations of a file (6.9)
pub data HeadTree : Type 0 where
  Specifier : (specifier : SpecifierTree) → HeadTree
  Struct : (definition : StructDefinitionTree) → HeadTree

pub data ExternalTree : Type 0 where
  Declaration : (at : At) (head : HeadTree) (declarators : List InitDeclaratorTree) → ExternalTree
  Function : (at : At) (head : HeadTree) (declarator : DeclaratorTree) (body : BlockTree) → ExternalTree

pub record UnitTree : Type 0 where
  pub at : At
  pub externals : List ExternalTree
