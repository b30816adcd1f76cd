-- What a syntax tree has from the tokens of a text: at each place a line that the text can have, in each literal a value
-- that its type can have, and between the braces of an initializer at least one part.
use Rattle.std.specs.Prelude.{ℕ, ◌<◌, ◌≤◌, ◌^◌, All, IfSome, List}
use Rattle.std.specs.List.{AllByRecursion}
use Rattle.c_words.specs.declared.place.At.{At}
use Rattle.c_words.specs.Tokens.{Token, Placed}
use Rattle.syntax_tree.specs.declared.syntax.specifiers.Specifier.{Specifier as SpecifierTree}
use Rattle.syntax_tree.specs.GrammarExpressions.{specifier_at}
use Rattle.syntax_tree.specs.Syntax.{ExpressionTree, ExpressionTrees, TypeNameTree, TypeDeclaratorTree, ArrayTree, ParameterDeclaratorTree}
use Rattle.syntax_tree.specs.Syntax.{ParameterTree, ParametersTree, SuffixTree, DeclaratorTree, InitializerTree, InitializerTrees}
use Rattle.syntax_tree.specs.Syntax.{InitDeclaratorTree, DeclarationTree, MemberDeclarationTree, StructDefinitionTree, ForStartTree}
use Rattle.syntax_tree.specs.Syntax.{StatementTree, BlockTree, BlockItemTree, BlockItemTrees, HeadTree, ExternalTree, UnitTree}

-- the line of a token of a text of at most 1,048,576 bytes that has another token, from 1
abbrev pub IsPlace : At → Type 0
IsPlace at = (1 ≤ at.line) × (at.line ≤ 1048575)

-- 6.4.4.1: the value of an integer constant is one of an unsigned int
abbrev pub IsConstant : ℕ → Type 0
IsConstant value = value < 2 ^ 32

-- 6.4.4.4, 6.4.5: a character constant and each element of a string is a byte
abbrev pub IsByte : ℕ → Type 0
IsByte value = value < 256

abbrev pub AreBytes : List ℕ → Type 0
AreBytes bytes = All IsByte bytes

-- ---- tokens

abbrev pub IsInRange : Token → Type 0
IsInRange (Token.Name bytes) = Unit {0}
IsInRange (Token.Number value is_unsigned) = IsConstant value
IsInRange (Token.Character value) = IsByte value
IsInRange (Token.StringLiteral bytes) = AreBytes bytes
IsInRange (Token.Keyword word) = Unit {0}
IsInRange (Token.Punctuator mark) = Unit {0}

abbrev pub PlacedInRange : Placed → Type 0
PlacedInRange t = IsPlace t.at × IsInRange t.token

abbrev pub TokensInRange : List Placed → Type 0
TokensInRange ts = AllByRecursion PlacedInRange ts

-- ---- expressions and type names

abbrev pub SpecifierInRange : SpecifierTree → Type 0
SpecifierInRange s = IsPlace (specifier_at s)

abbrev mutual
  pub ExpressionInRange : ExpressionTree → Type 0
  ExpressionInRange (ExpressionTree.Name at x) = IsPlace at
  ExpressionInRange (ExpressionTree.Number at n u) = IsPlace at × IsConstant n
  ExpressionInRange (ExpressionTree.Character at n) = IsPlace at × IsByte n
  ExpressionInRange (ExpressionTree.Text at pieces) = IsPlace at × AllByRecursion AreBytes pieces
  ExpressionInRange (ExpressionTree.Null at) = IsPlace at
  ExpressionInRange (ExpressionTree.Eof at) = IsPlace at
  ExpressionInRange (ExpressionTree.Parenthesized at a) = IsPlace at × ExpressionInRange a
  ExpressionInRange (ExpressionTree.Index at a b) = IsPlace at × ExpressionInRange a × ExpressionInRange b
  ExpressionInRange (ExpressionTree.Call at f arguments) = IsPlace at × ExpressionInRange f × ExpressionsInRange arguments
  ExpressionInRange (ExpressionTree.Member at a m) = IsPlace at × ExpressionInRange a
  ExpressionInRange (ExpressionTree.Arrow at a m) = IsPlace at × ExpressionInRange a
  ExpressionInRange (ExpressionTree.StepAfter at a op) = IsPlace at × ExpressionInRange a
  ExpressionInRange (ExpressionTree.StepBefore at op a) = IsPlace at × ExpressionInRange a
  ExpressionInRange (ExpressionTree.Unary at op a) = IsPlace at × ExpressionInRange a
  ExpressionInRange (ExpressionTree.SizeofType at t) = IsPlace at × TypeNameInRange t
  ExpressionInRange (ExpressionTree.SizeofExpression at a) = IsPlace at × ExpressionInRange a
  ExpressionInRange (ExpressionTree.Cast at t a) = IsPlace at × TypeNameInRange t × ExpressionInRange a
  ExpressionInRange (ExpressionTree.Binary at a op b) = IsPlace at × ExpressionInRange a × ExpressionInRange b
  ExpressionInRange (ExpressionTree.Conditional at a b c) = IsPlace at × ExpressionInRange a × ExpressionInRange b × ExpressionInRange c
  ExpressionInRange (ExpressionTree.Assign at a op b) = IsPlace at × ExpressionInRange a × ExpressionInRange b
  ExpressionInRange (ExpressionTree.Comma at a b) = IsPlace at × ExpressionInRange a × ExpressionInRange b

  pub ExpressionsInRange : ExpressionTrees → Type 0
  ExpressionsInRange ExpressionTrees.none = Unit {0}
  ExpressionsInRange (ExpressionTrees.more a rest) = ExpressionInRange a × ExpressionsInRange rest

  pub TypeNameInRange : TypeNameTree → Type 0
  TypeNameInRange (TypeNameTree.type_name at s t) = IsPlace at × SpecifierInRange s × TypeDeclaratorInRange t

  pub TypeDeclaratorInRange : TypeDeclaratorTree → Type 0
  TypeDeclaratorInRange (TypeDeclaratorTree.Direct at n sizes) = IsPlace at × ExpressionsInRange sizes
  TypeDeclaratorInRange (TypeDeclaratorTree.Nested at n inner sizes) = IsPlace at × TypeDeclaratorInRange inner × ExpressionsInRange sizes

-- ---- declarators

abbrev pub ArrayInRange : ArrayTree → Type 0
ArrayInRange a = IsPlace a.at × IfSome a.size ExpressionInRange

abbrev pub ParameterDeclaratorInRange : ParameterDeclaratorTree → Type 0
ParameterDeclaratorInRange (ParameterDeclaratorTree.Unnamed at n arrays) = IsPlace at × AllByRecursion ArrayInRange arrays
ParameterDeclaratorInRange (ParameterDeclaratorTree.Named at n x arrays) = IsPlace at × AllByRecursion ArrayInRange arrays
ParameterDeclaratorInRange (ParameterDeclaratorTree.Nested at n inner arrays) = IsPlace at × ParameterDeclaratorInRange inner
    × AllByRecursion ArrayInRange arrays

abbrev pub ParameterInRange : ParameterTree → Type 0
ParameterInRange p = IsPlace p.at × SpecifierInRange p.specifier × ParameterDeclaratorInRange p.declarator

abbrev pub ParametersInRange : ParametersTree → Type 0
ParametersInRange (ParametersTree.Void at) = IsPlace at
ParametersInRange (ParametersTree.Listed at ps) = IsPlace at × AllByRecursion ParameterInRange ps

abbrev pub SuffixInRange : SuffixTree → Type 0
SuffixInRange (SuffixTree.Array a) = ArrayInRange a
SuffixInRange (SuffixTree.Function at ps) = IsPlace at × IfSome ps ParametersInRange

abbrev pub DeclaratorInRange : DeclaratorTree → Type 0
DeclaratorInRange (DeclaratorTree.Named at n x suffixes) = IsPlace at × AllByRecursion SuffixInRange suffixes
DeclaratorInRange (DeclaratorTree.Nested at n inner suffixes) = IsPlace at × DeclaratorInRange inner × AllByRecursion SuffixInRange suffixes

-- ---- declarations

-- 6.7.9: braces hold at least one part
abbrev pub HasPart : InitializerTrees → Type 0
HasPart InitializerTrees.none = ⊥
HasPart (InitializerTrees.more i rest) = Unit {0}

abbrev mutual
  pub InitializerInRange : InitializerTree → Type 0
  InitializerInRange (InitializerTree.Expression a) = ExpressionInRange a
  InitializerInRange (InitializerTree.Braced at parts) = IsPlace at × HasPart parts × InitializersInRange parts

  pub InitializersInRange : InitializerTrees → Type 0
  InitializersInRange InitializerTrees.none = Unit {0}
  InitializersInRange (InitializerTrees.more i rest) = InitializerInRange i × InitializersInRange rest

abbrev pub InitDeclaratorInRange : InitDeclaratorTree → Type 0
InitDeclaratorInRange d = IsPlace d.at × DeclaratorInRange d.declarator × IfSome d.initializer InitializerInRange

abbrev pub DeclarationInRange : DeclarationTree → Type 0
DeclarationInRange d = IsPlace d.at × SpecifierInRange d.specifier × AllByRecursion InitDeclaratorInRange d.declarators

abbrev pub MemberInRange : MemberDeclarationTree → Type 0
MemberInRange m = IsPlace m.at × SpecifierInRange m.specifier × AllByRecursion DeclaratorInRange m.declarators

abbrev pub StructInRange : StructDefinitionTree → Type 0
StructInRange s = IsPlace s.at × AllByRecursion MemberInRange s.members

-- ---- statements

abbrev pub ForStartInRange : ForStartTree → Type 0
ForStartInRange (ForStartTree.Declaration d) = DeclarationInRange d
ForStartInRange (ForStartTree.Expression a) = IfSome a ExpressionInRange

abbrev mutual
  pub StatementInRange : StatementTree → Type 0
  StatementInRange (StatementTree.Block b) = BlockInRange b
  StatementInRange (StatementTree.Empty at) = IsPlace at
  StatementInRange (StatementTree.Expression at a) = IsPlace at × ExpressionInRange a
  StatementInRange (StatementTree.If at c x) = IsPlace at × ExpressionInRange c × StatementInRange x
  StatementInRange (StatementTree.IfElse at c x y) = IsPlace at × ExpressionInRange c × StatementInRange x × StatementInRange y
  StatementInRange (StatementTree.While at c x) = IsPlace at × ExpressionInRange c × StatementInRange x
  StatementInRange (StatementTree.DoWhile at x c) = IsPlace at × StatementInRange x × ExpressionInRange c
  StatementInRange (StatementTree.For at start c step x) = IsPlace at × ForStartInRange start × IfSome c ExpressionInRange × IfSome step ExpressionInRange
      × StatementInRange x
  StatementInRange (StatementTree.Break at) = IsPlace at
  StatementInRange (StatementTree.Continue at) = IsPlace at
  StatementInRange (StatementTree.Return at a) = IsPlace at × IfSome a ExpressionInRange

  pub BlockInRange : BlockTree → Type 0
  BlockInRange (BlockTree.block at items) = IsPlace at × ItemsInRange items

  pub ItemInRange : BlockItemTree → Type 0
  ItemInRange (BlockItemTree.Declaration d) = DeclarationInRange d
  ItemInRange (BlockItemTree.Statement x) = StatementInRange x

  pub ItemsInRange : BlockItemTrees → Type 0
  ItemsInRange BlockItemTrees.none = Unit {0}
  ItemsInRange (BlockItemTrees.more x rest) = ItemInRange x × ItemsInRange rest

-- ---- files

abbrev pub HeadInRange : HeadTree → Type 0
HeadInRange (HeadTree.Specifier s) = SpecifierInRange s
HeadInRange (HeadTree.Struct d) = StructInRange d

abbrev pub ExternalInRange : ExternalTree → Type 0
ExternalInRange (ExternalTree.Declaration at head ds) = IsPlace at × HeadInRange head × AllByRecursion InitDeclaratorInRange ds
ExternalInRange (ExternalTree.Function at head d body) = IsPlace at × HeadInRange head × DeclaratorInRange d × BlockInRange body

abbrev pub InRange : UnitTree → Type 0
InRange u = IsPlace u.at × AllByRecursion ExternalInRange u.externals
