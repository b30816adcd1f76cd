-- Small texts, and what the grammar makes of them within the limits. A token stands at its number, on line 1.
use Rattle.std.specs.Prelude.{◌≡◌, ℕ, zero, suc, ◌<◌, Bool, false, true, List, [], ◌∷◌, ◌++◌, Some, None}
use Rattle.c_words.specs.declared.place.At.{At}
use Rattle.c_words.specs.declared.words.Keyword.TheVariants as w
use Rattle.c_words.specs.declared.words.Punctuator.TheVariants as m
use Rattle.c_words.specs.declared.operators.StepOperator.TheVariants as step
use Rattle.c_words.specs.declared.operators.UnaryOperator.TheVariants as unary
use Rattle.c_words.specs.declared.operators.BinaryOperator.TheVariants as op
use Rattle.c_words.specs.declared.operators.AssignOperator.TheVariants as assign
use Rattle.syntax_tree.specs.declared.syntax.specifiers.Specifier.TheVariants as s
use Rattle.c_words.specs.Tokens.{Token, Placed}
use Rattle.syntax_tree.specs.Syntax.{ExpressionTree, ExpressionTrees, TypeNameTree, TypeDeclaratorTree, ParameterDeclaratorTree}
use Rattle.syntax_tree.specs.Syntax.{ParametersTree, SuffixTree, DeclaratorTree, InitializerTree, InitializerTrees, ForStartTree}
use Rattle.syntax_tree.specs.Syntax.{StatementTree, BlockTree, BlockItemTree, BlockItemTrees, HeadTree, ExternalTree, UnitTree}
use Rattle.syntax_tree.specs.SyntaxHeights.{height}
use Rattle.syntax_tree.specs.GrammarLimits.{within_limits, without_limits, outermost}
use Rattle.syntax_tree.specs.GrammarTokens.{mark, identifier}
use Rattle.syntax_tree.specs.GrammarExpressions.{IsExpression}
use Rattle.syntax_tree.specs.GrammarDeclarations.{IsDeclaration}
use Rattle.syntax_tree.specs.GrammarStatements.{IsStatement}
use Rattle.syntax_tree.specs.Grammar.{Derives}

abbrev pub at : ℕ → At
at k = record { token = k; line = 1 }

abbrev pub placed_from : ℕ → List Token → List Placed
placed_from k [] = []
placed_from k (t ∷ ts) = record { token = t; at = at k } ∷ placed_from (suc k) ts

abbrev pub placed : List Token → List Placed
placed ts = placed_from 0 ts

-- names of one letter
abbrev pub a : List ℕ
a = 97 ∷ []

abbrev pub b : List ℕ
b = 98 ∷ []

abbrev pub c : List ℕ
c = 99 ∷ []

-- leaves of trees, with the number of their token
abbrev pub name : ℕ → List ℕ → ExpressionTree
name k x = ExpressionTree.Name (at k) x

abbrev pub number : ℕ → ℕ → ExpressionTree
number k n = ExpressionTree.Number (at k) n false

abbrev pub Int : ℕ → TypeNameTree
Int k = TypeNameTree.type_name (at k) (s.Int (at k)) (TypeDeclaratorTree.Direct (at k) 0 ExpressionTrees.none)

pub record ExpressionsDerive : Type 0 where
  -- a - b - c
  pub left_associative : IsExpression within_limits outermost
      (placed (Token.Name a ∷ Token.Punctuator m.Minus ∷ Token.Name b ∷ Token.Punctuator m.Minus ∷ Token.Name c ∷ []))
      (ExpressionTree.Binary (at 3) (ExpressionTree.Binary (at 1) (name 0 a) op.Subtract (name 2 b)) op.Subtract (name 4 c))
  -- a + b * c
  pub precedence : IsExpression within_limits outermost
      (placed (Token.Name a ∷ Token.Punctuator m.Plus ∷ Token.Name b ∷ Token.Punctuator m.Star ∷ Token.Name c ∷ []))
      (ExpressionTree.Binary (at 1) (name 0 a) op.Add (ExpressionTree.Binary (at 3) (name 2 b) op.Multiply (name 4 c)))
  -- a = b = c
  pub right_associative : IsExpression within_limits outermost
      (placed (Token.Name a ∷ Token.Punctuator m.Equal ∷ Token.Name b ∷ Token.Punctuator m.Equal ∷ Token.Name c ∷ []))
      (ExpressionTree.Assign (at 1) (name 0 a) assign.Assign (ExpressionTree.Assign (at 3) (name 2 b) assign.Assign (name 4 c)))
  -- a ? b : c
  pub choice : IsExpression within_limits outermost
      (placed (Token.Name a ∷ Token.Punctuator m.Question ∷ Token.Name b ∷ Token.Punctuator m.Colon ∷ Token.Name c ∷ []))
      (ExpressionTree.Conditional (at 1) (name 0 a) (name 2 b) (name 4 c))
  -- a, b, c
  pub commas : IsExpression within_limits outermost
      (placed (Token.Name a ∷ Token.Punctuator m.Comma ∷ Token.Name b ∷ Token.Punctuator m.Comma ∷ Token.Name c ∷ []))
      (ExpressionTree.Comma (at 3) (ExpressionTree.Comma (at 1) (name 0 a) (name 2 b)) (name 4 c))
  -- (int) a
  pub cast : IsExpression within_limits outermost
      (placed (Token.Punctuator m.OpenParen ∷ Token.Keyword w.Int ∷ Token.Punctuator m.CloseParen ∷ Token.Name a ∷ []))
      (ExpressionTree.Cast (at 0) (Int 1) (name 3 a))
  -- (a)
  pub brackets : IsExpression within_limits outermost
      (placed (Token.Punctuator m.OpenParen ∷ Token.Name a ∷ Token.Punctuator m.CloseParen ∷ []))
      (ExpressionTree.Parenthesized (at 0) (name 1 a))
  -- sizeof (int)
  pub sizeof_type : IsExpression within_limits outermost
      (placed (Token.Keyword w.Sizeof ∷ Token.Punctuator m.OpenParen ∷ Token.Keyword w.Int ∷ Token.Punctuator m.CloseParen ∷ []))
      (ExpressionTree.SizeofType (at 0) (Int 2))
  -- sizeof (a)
  pub sizeof_expression : IsExpression within_limits outermost
      (placed (Token.Keyword w.Sizeof ∷ Token.Punctuator m.OpenParen ∷ Token.Name a ∷ Token.Punctuator m.CloseParen ∷ []))
      (ExpressionTree.SizeofExpression (at 0) (ExpressionTree.Parenthesized (at 1) (name 2 a)))
  -- a(b)[1]++: the call stands at its name
  pub postfix : IsExpression within_limits outermost
      (placed (Token.Name a ∷ Token.Punctuator m.OpenParen ∷ Token.Name b ∷ Token.Punctuator m.CloseParen ∷ Token.Punctuator m.OpenBracket ∷ Token.Number 1 false
      ∷ Token.Punctuator m.CloseBracket ∷ Token.Punctuator m.PlusPlus ∷ []))
      (ExpressionTree.StepAfter (at 7)
      (ExpressionTree.Index (at 4) (ExpressionTree.Call (at 0) (name 0 a) (ExpressionTrees.more (name 2 b) ExpressionTrees.none)) (number 5 1)) step.Increment)
  -- *a++
  pub prefix : IsExpression within_limits outermost
      (placed (Token.Punctuator m.Star ∷ Token.Name a ∷ Token.Punctuator m.PlusPlus ∷ []))
      (ExpressionTree.Unary (at 0) unary.Dereference (ExpressionTree.StepAfter (at 2) (name 1 a) step.Increment))

pub record StatementsDerive : Type 0 where
  -- int (*a)[3];
  pub pointer_to_array : IsDeclaration within_limits outermost
      (placed (Token.Keyword w.Int ∷ Token.Punctuator m.OpenParen ∷ Token.Punctuator m.Star ∷ Token.Name a ∷ Token.Punctuator m.CloseParen ∷ Token.Punctuator m.OpenBracket
      ∷ Token.Number 3 false ∷ Token.Punctuator m.CloseBracket ∷ Token.Punctuator m.Semicolon ∷ []))
      (record {
        at = at 0;
        specifier = s.Int (at 0);
        declarators = record {
          at = at 3;
          declarator = DeclaratorTree.Nested (at 3) 0 (DeclaratorTree.Named (at 3) 1 a [])
              (SuffixTree.Array (record { at = at 5; size = Some (number 6 3) }) ∷ []);
          initializer = None;
        } ∷ [];
      })
  -- int a = { { 1 }, };
  pub nested_initializers : IsDeclaration within_limits outermost
      (placed (Token.Keyword w.Int ∷ Token.Name a ∷ Token.Punctuator m.Equal ∷ Token.Punctuator m.OpenBrace ∷ Token.Punctuator m.OpenBrace ∷ Token.Number 1 false
      ∷ Token.Punctuator m.CloseBrace ∷ Token.Punctuator m.Comma ∷ Token.Punctuator m.CloseBrace ∷ Token.Punctuator m.Semicolon ∷ []))
      (record {
        at = at 0;
        specifier = s.Int (at 0);
        declarators = record {
          at = at 2;
          declarator = DeclaratorTree.Named (at 1) 0 a [];
          initializer = Some (InitializerTree.Braced (at 3) (InitializerTrees.more
              (InitializerTree.Braced (at 4) (InitializerTrees.more (InitializerTree.Expression (number 5 1)) InitializerTrees.none)) InitializerTrees.none));
        } ∷ [];
      })
  -- if (a) if (b) ; else ;
  pub nearest_if : IsStatement within_limits outermost true
      (placed (Token.Keyword w.If ∷ Token.Punctuator m.OpenParen ∷ Token.Name a ∷ Token.Punctuator m.CloseParen ∷ Token.Keyword w.If ∷ Token.Punctuator m.OpenParen
      ∷ Token.Name b ∷ Token.Punctuator m.CloseParen ∷ Token.Punctuator m.Semicolon ∷ Token.Keyword w.Else ∷ Token.Punctuator m.Semicolon ∷ []))
      (StatementTree.If (at 0) (name 2 a) (StatementTree.IfElse (at 4) (name 6 b) (StatementTree.Empty (at 8)) (StatementTree.Empty (at 10))))
  -- for (int a = 0; a; a++) a;
  pub for_declaration : IsStatement within_limits outermost false
      (placed (Token.Keyword w.For ∷ Token.Punctuator m.OpenParen ∷ Token.Keyword w.Int ∷ Token.Name a ∷ Token.Punctuator m.Equal ∷ Token.Number 0 false
      ∷ Token.Punctuator m.Semicolon ∷ Token.Name a ∷ Token.Punctuator m.Semicolon ∷ Token.Name a ∷ Token.Punctuator m.PlusPlus ∷ Token.Punctuator m.CloseParen
      ∷ Token.Name a ∷ Token.Punctuator m.Semicolon ∷ []))
      (StatementTree.For (at 0)
      (ForStartTree.Declaration (record {
        at = at 2;
        specifier = s.Int (at 2);
        declarators = record {
          at = at 4;
          declarator = DeclaratorTree.Named (at 3) 0 a [];
          initializer = Some (InitializerTree.Expression (number 5 0));
        } ∷ [];
      }))
      (Some (name 7 a)) (Some (ExpressionTree.StepAfter (at 10) (name 9 a) step.Increment)) (StatementTree.Expression (at 12) (name 12 a)))

pub record UnitsDerive : Type 0 where
  -- nothing
  pub empty : Derives within_limits [] (record { at = record { token = 0; line = 1 }; externals = [] })
  -- struct a { int b; };
  pub struct_definition : Derives within_limits
      (placed (Token.Keyword w.Struct ∷ Token.Name a ∷ Token.Punctuator m.OpenBrace ∷ Token.Keyword w.Int ∷ Token.Name b ∷ Token.Punctuator m.Semicolon
      ∷ Token.Punctuator m.CloseBrace ∷ Token.Punctuator m.Semicolon ∷ []))
      (record {
        at = at 0;
        externals = ExternalTree.Declaration (at 0)
            (HeadTree.Struct (record {
              at = at 1;
              tag = a;
              members =
                  record { at = at 3; specifier = s.Int (at 3); declarators = DeclaratorTree.Named (at 4) 0 b [] ∷ [] } ∷ [];
            })) [] ∷ [];
      })
  -- int a(void) { return 1; }
  pub no_parameters : Derives within_limits
      (placed (Token.Keyword w.Int ∷ Token.Name a ∷ Token.Punctuator m.OpenParen ∷ Token.Keyword w.Void ∷ Token.Punctuator m.CloseParen ∷ Token.Punctuator m.OpenBrace
      ∷ Token.Keyword w.Return ∷ Token.Number 1 false ∷ Token.Punctuator m.Semicolon ∷ Token.Punctuator m.CloseBrace ∷ []))
      (record {
        at = at 0;
        externals = ExternalTree.Function (at 0) (HeadTree.Specifier (s.Int (at 0)))
            (DeclaratorTree.Named (at 1) 0 a (SuffixTree.Function (at 2) (Some (ParametersTree.Void (at 3))) ∷ []))
            (BlockTree.block (at 5) (BlockItemTrees.more (BlockItemTree.Statement (StatementTree.Return (at 6) (Some (number 7 1)))) BlockItemTrees.none))
            ∷ [];
      })
  -- void a(int b, char *) ;
  pub two_parameters : Derives within_limits
      (placed (Token.Keyword w.Void ∷ Token.Name a ∷ Token.Punctuator m.OpenParen ∷ Token.Keyword w.Int ∷ Token.Name b ∷ Token.Punctuator m.Comma
      ∷ Token.Keyword w.Char ∷ Token.Punctuator m.Star ∷ Token.Punctuator m.CloseParen ∷ Token.Punctuator m.Semicolon ∷ []))
      (record {
        at = at 0;
        externals = ExternalTree.Declaration (at 0) (HeadTree.Specifier (s.Void (at 0))) (record {
          at = at 1;
          declarator = DeclaratorTree.Named (at 1) 0 a (SuffixTree.Function (at 2) (Some (ParametersTree.Listed (at 3)
              (record { at = at 3; specifier = s.Int (at 3); declarator = ParameterDeclaratorTree.Named (at 4) 0 b [] }
              ∷ record { at = at 6; specifier = s.Char (at 6); declarator = ParameterDeclaratorTree.Unnamed (at 6) 1 [] } ∷ []))) ∷ []);
          initializer = None;
        } ∷ []) ∷ [];
      })

-- so many brackets around a name, and their tokens
abbrev pub brackets_tree : ℕ → ExpressionTree
brackets_tree zero = name 0 a
brackets_tree (suc k) = ExpressionTree.Parenthesized (at 0) (brackets_tree k)

abbrev pub brackets_text : ℕ → List Placed
brackets_text zero = identifier a (at 0) ∷ []
brackets_text (suc k) = mark m.OpenParen (at 0) ∷ (brackets_text k ++ (mark m.CloseParen (at 0) ∷ []))

pub record NothingDerives : Type 0 where
  -- a `;` at file scope
  pub semicolon : (unit : UnitTree) → Derives without_limits (placed (Token.Punctuator m.Semicolon ∷ [])) unit → ⊥
  -- `return 1` without its `;`
  pub unended : (ends : Bool) (statement : StatementTree)
      → IsStatement without_limits outermost ends (placed (Token.Keyword w.Return ∷ Token.Number 1 false ∷ [])) statement → ⊥
  -- more than 200 brackets: only the limit fails
  pub too_deep : (k : ℕ) → 200 < k → (text : List Placed) → IsExpression within_limits outermost text (brackets_tree k) → ⊥
  pub deep_without_limits : (k : ℕ) → IsExpression without_limits outermost (brackets_text k) (brackets_tree k)

pub record HeightsAre : Type 0 where
  -- a
  pub primary : height (name 0 a) ≡ 1
  -- a, b, c
  pub commas : height (ExpressionTree.Comma (at 3) (ExpressionTree.Comma (at 1) (name 0 a) (name 2 b)) (name 4 c)) ≡ 3
  -- a(b + c)
  pub call : height (ExpressionTree.Call (at 0) (name 0 a)
      (ExpressionTrees.more (ExpressionTree.Binary (at 3) (name 2 b) op.Add (name 4 c)) ExpressionTrees.none)) ≡ 3
  -- sizeof (int)
  pub sizeof_type : height (ExpressionTree.SizeofType (at 0) (Int 2)) ≡ 1
  -- (int) a
  pub cast : height (ExpressionTree.Cast (at 0) (Int 1) (name 3 a)) ≡ 2
  -- (a)
  pub brackets : height (brackets_tree 1) ≡ 2
