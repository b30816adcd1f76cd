-- What each rule's tokens and value have to do with each other: a relation of the grammar. A rule that goes on behind
-- something says what both are together.
use Rattle.std.specs.Prelude.{◌≡◌, ℕ, suc, ◌+◌, List, [], ◌∷◌, ◌++◌}
use Rattle.c_words.specs.declared.place.At.{At}
use Rattle.c_words.specs.declared.words.Punctuator.TheVariants as m
use Rattle.c_words.specs.Tokens.{Token, Placed}
use Rattle.syntax_tree.specs.Syntax.{InitializerTrees}
use Rattle.syntax_tree.specs.GrammarLimits.{Limits, Level, Opens}
use Rattle.syntax_tree.specs.GrammarTokens.{mark, identifier, Optional, Many, Commas, AreStrings}
use Rattle.syntax_tree.specs.GrammarExpressions.{IsSpecifier, AreStars, IsExpression, IsAssignment, IsConditional, IsBinary, IsCast, IsUnary, IsPostfix, IsPrimary, AreArguments, AreListed, IsTypeName, IsTypeDeclarator, AreSizes}
use Rattle.syntax_tree.specs.GrammarDeclarations.{IsArray, IsParameterDeclarator, IsParameter, AreParameters, IsSuffix, IsDeclarator, IsInitializer, AreParts, IsInitDeclarator, IsDeclaration, IsMember}
use Rattle.syntax_tree.specs.GrammarStatements.{IsForStart, IsStatement, IsBlock, AreItems, IsItem}
use Rattle.syntax_tree.specs.Grammar.{IsHead, IsExternal, Derives}
use Rattle.c_parser_rules.specs.Programs.{Sort, Value, Rule}
use Rattle.c_parser_rules.specs.Runs.{token_at}

module _ (limits : Limits) where
  -- parts, with a comma behind them or not
  pub data Parts (d : Level) (ts : List Placed) (parts : InitializerTrees) : Type 0 where
    plain : AreParts limits d ts parts → Parts d ts parts
    trailing : (us : List Placed) (comma : At) → ts ≡ us ++ (mark m.Comma comma ∷ []) → AreParts limits d us parts → Parts d ts parts

  abbrev pub Means : {s : Sort} → Rule s → List Placed → Value s → Type 0
  Means (Rule.optionally none r) = Optional (Means r)
  Means (Rule.repeat begins r) = Many (Means r)
  Means (Rule.commas r) = Commas (Means r)
  Means (Rule.commas_rest r x) = λ ts xs. (ls : List Placed) → Means r ls x → Commas (Means r) (ls ++ ts) xs
  Means Rule.identifier = λ ts x. ts ≡ identifier x.0 x.1 ∷ []
  Means Rule.strings = λ ts pieces. (at : At) (b : List ℕ) → AreStrings at (token_at (Token.StringLiteral b) at ∷ ts) (b ∷ pieces)
  Means Rule.specifier = IsSpecifier
  Means (Rule.stars d) = λ ts n. AreStars limits d (d + n) ts n
  Means (Rule.expression d) = IsExpression limits d
  Means (Rule.comma_rest d a) = λ ts x. (ls : List Placed) → IsExpression limits d ls a → IsExpression limits d (ls ++ ts) x
  Means (Rule.assignment d) = IsAssignment limits d
  Means (Rule.conditional d) = IsConditional limits d
  Means (Rule.binary k d) = IsBinary limits k d
  Means (Rule.binary_rest k d a) = λ ts x. (ls : List Placed) → IsBinary limits (suc k) d ls a → IsBinary limits (suc k) d (ls ++ ts) x
  Means (Rule.cast d) = IsCast limits d
  Means (Rule.unary d) = IsUnary limits d
  Means (Rule.postfix d) = IsPostfix limits d
  Means (Rule.postfix_rest d a) = λ ts x. (ls : List Placed) → IsPostfix limits d ls a → IsPostfix limits d (ls ++ ts) x
  Means (Rule.primary d) = IsPrimary limits d
  Means (Rule.parenthesized d at) = λ ts x. Opens limits at d → IsPrimary limits d (mark m.OpenParen at ∷ ts) x
  Means (Rule.arguments d) = AreArguments limits d
  Means (Rule.listed d) = AreListed limits d
  Means (Rule.type_name d) = IsTypeName limits d
  Means (Rule.type_declarator d at) = IsTypeDeclarator limits d at
  Means (Rule.sizes d) = AreSizes limits d
  Means (Rule.array d) = IsArray limits d
  Means (Rule.parameter_declarator d at) = IsParameterDeclarator limits d at
  Means (Rule.parameter d) = IsParameter limits d
  Means (Rule.parameters d) = AreParameters limits d
  Means (Rule.suffix d) = IsSuffix limits d
  Means (Rule.declarator d) = IsDeclarator limits d
  Means (Rule.initializer d) = IsInitializer limits d
  Means (Rule.parts d) = Parts d
  Means (Rule.init_declarator d) = IsInitDeclarator limits d
  Means (Rule.init_rest d t) = λ ts i. (ls : List Placed) → IsDeclarator limits d ls t → IsInitDeclarator limits d (ls ++ ts) i
  Means (Rule.declaration d) = IsDeclaration limits d
  Means (Rule.member d) = IsMember limits d
  Means (Rule.for_start d) = IsForStart limits d
  Means (Rule.statement d) = λ ts x. IsStatement limits d x.1 ts x.0
  Means (Rule.block d) = IsBlock limits d
  Means (Rule.items d) = AreItems limits d
  Means (Rule.item d) = IsItem limits d
  Means (Rule.head d) = λ ts h. IsHead limits d h.1 ts h.0
  Means (Rule.external d) = IsExternal limits d
  Means Rule.unit = Derives limits
