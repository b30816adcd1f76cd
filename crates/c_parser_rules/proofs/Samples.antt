-- For each rule tokens that it reads, at a place at which no limit is kept.
use Rattle.std.proofs.Common.{◌≡◌, ℕ, zero, suc, ◌+◌, false, List, [], ◌∷◌, ◌++◌, None, refl, sym, ◌∙◌, subst, arith}
use Rattle.std.proofs.lemmas.Bool.{false≢true}
use Rattle.std.proofs.lemmas.List.{append-nil}
use Rattle.c_words.specs.Tokens.{Placed}
use Rattle.c_words.specs.declared.place.At.{At}
use Rattle.c_words.specs.declared.words.Keyword.TheVariants as w
use Rattle.c_words.specs.declared.words.Punctuator.TheVariants as m
use Rattle.syntax_tree.specs.declared.syntax.specifiers.Specifier.TheVariants as s
use Rattle.syntax_tree.specs.Syntax.{ExpressionTree, ExpressionTrees, TypeNameTree, TypeDeclaratorTree, ParameterDeclaratorTree, ParametersTree, SuffixTree, DeclaratorTree, InitializerTree, InitializerTrees, ForStartTree, StatementTree, BlockTree, BlockItemTree, BlockItemTrees, HeadTree, ExternalTree}
use Rattle.syntax_tree.specs.GrammarLimits.{Limits, Opens}
use Rattle.syntax_tree.specs.GrammarTokens.{mark, word, identifier, Optional, Many, Commas, AreStrings}
use Rattle.syntax_tree.specs.GrammarExpressions.{IsSpecifier, AreStars, IsExpression, IsAssignment, IsConditional, IsBinary, IsCast, IsUnary, IsPostfix, IsPrimary, AreArguments, AreListed, IsTypeName, IsTypeDeclarator, AreSizes}
use Rattle.syntax_tree.specs.GrammarDeclarations.{declarator_at, IsArray, IsParameterDeclarator, IsParameter, AreParameters, IsSuffix, IsDeclarator, IsInitializer, AreParts, IsInitDeclarator, IsDeclaration, IsMember}
use Rattle.syntax_tree.specs.GrammarStatements.{IsForStart, IsStatement, IsBlock, AreItems, IsItem}
use Rattle.syntax_tree.specs.Grammar.{start_of_file, IsHead, IsExternal, Derives}
use Rattle.c_parser_rules.specs.Programs.{Sort, Rule}
use Rattle.c_parser_rules.proofs.Meanings.{Means, Parts}
use Rattle.c_parser_rules.proofs.Soundness.{Rel, Sample, Free}

module _ (g : Limits) where
  pub no_limit : (free : Free g) (d : ℕ) → Opens g free.0 d
  no_limit free d = λ k. absurd (false≢true (sym free.1 ∙ k))

  pub as_binary : (k d : ℕ) (ts : List Placed) (a : ExpressionTree) → IsCast g d ts a → IsBinary g k d ts a
  as_binary zero d ts a x = IsBinary.operand x
  as_binary (suc k) d ts a x = IsBinary.stronger (as_binary k d ts a x)

  pub as_conditional : {d : ℕ} {ts : List Placed} {a : ExpressionTree} → IsCast g d ts a → IsConditional g d ts a
  as_conditional x = IsConditional.binary (as_binary 10 _ _ _ x)

  pub as_expression : {d : ℕ} {ts : List Placed} {a : ExpressionTree} → IsCast g d ts a → IsExpression g d ts a
  as_expression x = IsExpression.assignment (IsAssignment.conditional (as_conditional x))

  module _ (free : Free g) where
    abbrev at : At
    at = free.0

    abbrev name : ExpressionTree
    name = ExpressionTree.Name at []

    abbrev names : List Placed
    names = identifier [] at ∷ []

    pub cast_name : (d : ℕ) → IsCast g d names name
    cast_name d = IsCast.unary (IsUnary.postfix (IsPostfix.primary IsPrimary.name))

    assigned : (d : ℕ) → IsAssignment g d names name
    assigned d = IsAssignment.conditional (as_conditional (cast_name d))

    nothing_behind : {A : Type 0} (W : Rel A) (x : A) → ((ls : List Placed) → W ls x) → (ls : List Placed) → W (ls ++ []) x
    nothing_behind W x h ls = subst (λ z. W z x) (sym (append-nil ls)) (h ls)

    a_parameter : (d : ℕ) → IsParameter g d (word w.Int at ∷ []) (record { at = at; specifier = s.Int at; declarator = ParameterDeclaratorTree.Unnamed at 0 [] })
    a_parameter d = IsParameter.parameter IsSpecifier.int (IsParameterDeclarator.unnamed AreStars.no_star Many.none)

    a_declarator : (d : ℕ) → IsDeclarator g d (identifier [] at ∷ []) (DeclaratorTree.Named at 0 [] [])
    a_declarator d = IsDeclarator.named AreStars.no_star Many.none

    no_stars : (d : ℕ) → AreStars g d (d + 0) [] 0
    no_stars d = let e : d ≡ d + 0 = omega arith in subst (λ z. AreStars g d z [] 0) e AreStars.no_star

    pub sample : (sort : Sort) (r : Rule sort) → Sample (Means g r)
    sample _ (Rule.optionally none r) = record { tokens = []; value = None; holds = Optional.absent }
    sample _ (Rule.repeat begins r) = record { tokens = []; value = []; holds = Many.none }
    sample _ (Rule.commas {s = s} r) = let t = sample s r in record { tokens = t.tokens; value = t.value ∷ []; holds = Commas.last t.holds }
    sample _ (Rule.commas_rest r x) = record { tokens = []; value = x ∷ []; holds = λ ls h. subst (λ z. Commas (Means g r) z (x ∷ [])) (sym (append-nil ls)) (Commas.last h) }
    sample _ Rule.identifier = record { tokens = identifier [] at ∷ []; value = ([], at); holds = refl }
    sample _ Rule.strings = record { tokens = []; value = []; holds = λ at b. AreStrings.one }
    sample _ Rule.specifier = record { tokens = word w.Int at ∷ []; value = s.Int at; holds = IsSpecifier.int }
    sample _ (Rule.stars d) = record { tokens = []; value = 0; holds = no_stars d }
    sample _ (Rule.expression d) = record { tokens = names; value = name; holds = as_expression (cast_name d) }
    sample _ (Rule.comma_rest d a) = record { tokens = []; value = a; holds = λ ls h. subst (λ z. IsExpression g d z a) (sym (append-nil ls)) h }
    sample _ (Rule.assignment d) = record { tokens = names; value = name; holds = assigned d }
    sample _ (Rule.conditional d) = record { tokens = names; value = name; holds = as_conditional (cast_name d) }
    sample _ (Rule.binary k d) = record { tokens = names; value = name; holds = as_binary k d _ _ (cast_name d) }
    sample _ (Rule.binary_rest k d a) = record { tokens = []; value = a; holds = λ ls h. subst (λ z. IsBinary g (suc k) d z a) (sym (append-nil ls)) h }
    sample _ (Rule.cast d) = record { tokens = names; value = name; holds = cast_name d }
    sample _ (Rule.unary d) = record { tokens = names; value = name; holds = IsUnary.postfix (IsPostfix.primary IsPrimary.name) }
    sample _ (Rule.postfix d) = record { tokens = names; value = name; holds = IsPostfix.primary IsPrimary.name }
    sample _ (Rule.postfix_rest d a) = record { tokens = []; value = a; holds = λ ls h. subst (λ z. IsPostfix g d z a) (sym (append-nil ls)) h }
    sample _ (Rule.primary d) = record { tokens = names; value = name; holds = IsPrimary.name }
    sample _ (Rule.parenthesized d from) = record { tokens = identifier [] at ∷ mark m.CloseParen at ∷ []; value = ExpressionTree.Parenthesized from name; holds = λ o. IsPrimary.parenthesized o (as_expression (cast_name (suc d))) at }
    sample _ (Rule.arguments d) = record { tokens = []; value = ExpressionTrees.none; holds = AreArguments.no_argument }
    sample _ (Rule.listed d) = record { tokens = names; value = ExpressionTrees.more name ExpressionTrees.none; holds = AreListed.last (assigned d) }
    sample _ (Rule.type_name d) = record { tokens = word w.Int at ∷ []; value = TypeNameTree.type_name at (s.Int at) (TypeDeclaratorTree.Direct at 0 ExpressionTrees.none); holds = IsTypeName.type_name IsSpecifier.int (IsTypeDeclarator.direct AreStars.no_star AreSizes.no_size) }
    sample _ (Rule.type_declarator d from) = record { tokens = []; value = TypeDeclaratorTree.Direct from 0 ExpressionTrees.none; holds = IsTypeDeclarator.direct AreStars.no_star AreSizes.no_size }
    sample _ (Rule.sizes d) = record { tokens = []; value = ExpressionTrees.none; holds = AreSizes.no_size }
    sample _ (Rule.array d) = record { tokens = mark m.OpenBracket at ∷ mark m.CloseBracket at ∷ []; value = record { at = at; size = None }; holds = IsArray.array (no_limit free d) Optional.absent at }
    sample _ (Rule.parameter_declarator d from) = record { tokens = []; value = ParameterDeclaratorTree.Unnamed from 0 []; holds = IsParameterDeclarator.unnamed AreStars.no_star Many.none }
    sample _ (Rule.parameter d) = record { tokens = word w.Int at ∷ []; value = record { at = at; specifier = s.Int at; declarator = ParameterDeclaratorTree.Unnamed at 0 [] }; holds = a_parameter d }
    sample _ (Rule.parameters d) = record { tokens = word w.Int at ∷ []; value = ParametersTree.Listed at (record { at = at; specifier = s.Int at; declarator = ParameterDeclaratorTree.Unnamed at 0 [] } ∷ []); holds = AreParameters.listed (Commas.last (a_parameter d)) refl }
    sample _ (Rule.suffix d) = record { tokens = mark m.OpenParen at ∷ mark m.CloseParen at ∷ []; value = SuffixTree.Function at None; holds = IsSuffix.function (no_limit free d) Optional.absent at }
    sample _ (Rule.declarator d) = record { tokens = identifier [] at ∷ []; value = DeclaratorTree.Named at 0 [] []; holds = a_declarator d }
    sample _ (Rule.initializer d) = record { tokens = names; value = InitializerTree.Expression name; holds = IsInitializer.expression (assigned d) }
    sample _ (Rule.parts d) = record { tokens = names; value = InitializerTrees.more (InitializerTree.Expression name) InitializerTrees.none; holds = Parts.plain (AreParts.last (IsInitializer.expression (assigned d))) }
    sample _ (Rule.init_declarator d) = record { tokens = identifier [] at ∷ []; value = record { at = at; declarator = DeclaratorTree.Named at 0 [] []; initializer = None }; holds = IsInitDeclarator.bare (a_declarator d) }
    sample _ (Rule.init_rest d t) = record { tokens = []; value = record { at = declarator_at t; declarator = t; initializer = None }; holds = λ ls h. subst (λ z. IsInitDeclarator g d z (record { at = declarator_at t; declarator = t; initializer = None })) (sym (append-nil ls)) (IsInitDeclarator.bare h) }
    sample _ (Rule.declaration d) = record { tokens = word w.Int at ∷ mark m.Semicolon at ∷ []; value = record { at = at; specifier = s.Int at; declarators = [] }; holds = IsDeclaration.nothing IsSpecifier.int at }
    sample _ (Rule.member d) = record { tokens = word w.Int at ∷ identifier [] at ∷ mark m.Semicolon at ∷ []; value = record { at = at; specifier = s.Int at; declarators = DeclaratorTree.Named at 0 [] [] ∷ [] }; holds = IsMember.member IsSpecifier.int (Commas.last (a_declarator d)) at }
    sample _ (Rule.for_start d) = record { tokens = mark m.Semicolon at ∷ []; value = ForStartTree.Expression None; holds = IsForStart.expression Optional.absent at }
    sample _ (Rule.statement d) = record { tokens = mark m.Semicolon at ∷ []; value = (StatementTree.Empty at, false); holds = IsStatement.empty }
    sample _ (Rule.block d) = record { tokens = mark m.OpenBrace at ∷ mark m.CloseBrace at ∷ []; value = BlockTree.block at BlockItemTrees.none; holds = IsBlock.braces (no_limit free d) AreItems.no_item at }
    sample _ (Rule.items d) = record { tokens = []; value = BlockItemTrees.none; holds = AreItems.no_item }
    sample _ (Rule.item d) = record { tokens = mark m.Semicolon at ∷ []; value = BlockItemTree.Statement (StatementTree.Empty at); holds = IsItem.statement IsStatement.empty }
    sample _ (Rule.head d) = record { tokens = word w.Int at ∷ []; value = (HeadTree.Specifier (s.Int at), at); holds = IsHead.specifier IsSpecifier.int }
    sample _ (Rule.external d) = record { tokens = word w.Int at ∷ mark m.Semicolon at ∷ []; value = ExternalTree.Declaration at (HeadTree.Specifier (s.Int at)) []; holds = IsExternal.nothing (IsHead.specifier IsSpecifier.int) at }
    sample _ Rule.unit = record { tokens = []; value = record { at = start_of_file; externals = [] }; holds = Derives.unit Many.none }

  pub samples : (sort : Sort) (r : Rule sort) → Free g → Sample (Means g r)
  samples sort r free = sample free sort r
