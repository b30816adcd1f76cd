-- What some limits allow, weaker limits allow.
use Rattle.std.proofs.Common.{◌≡◌, ℕ, ◌≤◌, Bool, true, List, refl, arith, nat_lt}
use Rattle.std.proofs.lemmas.Bool.{false≢true}
use Rattle.std.proofs.lemmas.Bool.Decides.{nat_tests}
use Rattle.c_words.specs.declared.place.At.{At}
use Rattle.c_words.specs.Tokens.{Placed}
use Rattle.syntax_tree.specs.Syntax.{ExpressionTree, ExpressionTrees, TypeNameTree, TypeDeclaratorTree, ArrayTree, ParameterDeclaratorTree, ParameterTree, ParametersTree, SuffixTree, DeclaratorTree, InitializerTree, InitializerTrees, InitDeclaratorTree, DeclarationTree, MemberDeclarationTree, StructDefinitionTree, ForStartTree, StatementTree, BlockTree, BlockItemTree, BlockItemTrees, HeadTree, ExternalTree, UnitTree}
use Rattle.syntax_tree.specs.GrammarLimits.{Limits, Level, within_limits, without_limits, limits_before}
use Rattle.syntax_tree.specs.GrammarTokens.{Optional, Many, Commas}
use Rattle.syntax_tree.specs.GrammarExpressions.{AreStars, IsExpression, IsAssignment, IsConditional, IsBinary, IsCast, IsUnary, IsPostfix, IsPrimary, AreArguments, AreListed, IsTypeName, IsTypeDeclarator, AreSizes}
use Rattle.syntax_tree.specs.GrammarDeclarations.{IsArray, IsParameterDeclarator, IsParameter, AreParameters, IsSuffix, IsDeclarator, IsInitializer, AreParts, IsInitDeclarator, IsDeclaration, IsMember, IsStructDefinition}
use Rattle.syntax_tree.specs.GrammarStatements.{IsForStart, IsStatement, IsBlock, AreItems, IsItem}
use Rattle.syntax_tree.specs.Grammar.{IsHead, IsExternal, Derives}

-- the second limits are kept at no other tokens than the first
abbrev pub Weaker : Limits → Limits → Type 0
Weaker l m = (at : At) → m at ≡ true → l at ≡ true

many : {A : Type 0} {R S : List Placed → A → Type 0} {ts : List Placed} {xs : List A} → ((ts : List Placed) (x : A) → R ts x → S ts x) → Many R ts xs → Many S ts xs
many f Many.none = Many.none
many f (Many.more x xs) = Many.more (f _ _ x) (many f xs)

commas : {A : Type 0} {R S : List Placed → A → Type 0} {ts : List Placed} {xs : List A} → ((ts : List Placed) (x : A) → R ts x → S ts x) → Commas R ts xs → Commas S ts xs
commas f (Commas.last x) = Commas.last (f _ _ x)
commas f (Commas.next x comma xs) = Commas.next (f _ _ x) comma (commas f xs)

optional : {A : Type 0} {R S : List Placed → A → Type 0} {ts : List Placed} {x : _} → ((ts : List Placed) (x : A) → R ts x → S ts x) → Optional R ts x → Optional S ts x
optional f Optional.absent = Optional.absent
optional f (Optional.present x) = Optional.present (f _ _ x)

module _ (l m : Limits) (w : Weaker l m) where
  stars : {d e : Level} {ts : List Placed} {n : ℕ} → AreStars l d e ts n → AreStars m d e ts n
  stars AreStars.no_star = AreStars.no_star
  stars (AreStars.star o x) = AreStars.star (λ h. o (w _ h)) (stars x)

  mutual
    expression : {d : Level} {ts : List Placed} {a : ExpressionTree} → IsExpression l d ts a → IsExpression m d ts a
    expression (IsExpression.assignment x) = IsExpression.assignment (assignment x)
    expression (IsExpression.comma x low y) = IsExpression.comma (expression x) (λ h. low (w _ h)) (assignment y)

    assignment : {d : Level} {ts : List Placed} {a : ExpressionTree} → IsAssignment l d ts a → IsAssignment m d ts a
    assignment (IsAssignment.conditional x) = IsAssignment.conditional (conditional x)
    assignment (IsAssignment.assign x low p is o y) = IsAssignment.assign (conditional x) (λ h. low (w _ h)) p is (λ h. o (w _ h)) (assignment y)

    conditional : {d : Level} {ts : List Placed} {a : ExpressionTree} → IsConditional l d ts a → IsConditional m d ts a
    conditional (IsConditional.binary x) = IsConditional.binary (binary x)
    conditional (IsConditional.choice x low o y colon z) = IsConditional.choice (binary x) (λ h. low (w _ h)) (λ h. o (w _ h)) (expression y) colon (conditional z)

    binary : {k : ℕ} {d : Level} {ts : List Placed} {a : ExpressionTree} → IsBinary l k d ts a → IsBinary m k d ts a
    binary (IsBinary.operand x) = IsBinary.operand (cast x)
    binary (IsBinary.stronger x) = IsBinary.stronger (binary x)
    binary (IsBinary.joined x low p is y) = IsBinary.joined (binary x) (λ h. low (w _ h)) p is (binary y)

    cast : {d : Level} {ts : List Placed} {a : ExpressionTree} → IsCast l d ts a → IsCast m d ts a
    cast (IsCast.unary x) = IsCast.unary (unary x)
    cast (IsCast.cast o t to x) = IsCast.cast (λ h. o (w _ h)) (type_name t) to (cast x)

    unary : {d : Level} {ts : List Placed} {a : ExpressionTree} → IsUnary l d ts a → IsUnary m d ts a
    unary (IsUnary.postfix x) = IsUnary.postfix (postfix x)
    unary (IsUnary.step_before is o x) = IsUnary.step_before is (λ h. o (w _ h)) (unary x)
    unary (IsUnary.prefix is o x) = IsUnary.prefix is (λ h. o (w _ h)) (cast x)
    unary (IsUnary.sizeof_type o p t to) = IsUnary.sizeof_type (λ h. o (w _ h)) (λ h. p (w _ h)) (type_name t) to
    unary (IsUnary.sizeof_expression o x) = IsUnary.sizeof_expression (λ h. o (w _ h)) (unary x)

    postfix : {d : Level} {ts : List Placed} {a : ExpressionTree} → IsPostfix l d ts a → IsPostfix m d ts a
    postfix (IsPostfix.primary x) = IsPostfix.primary (primary x)
    postfix (IsPostfix.index x low o y to) = IsPostfix.index (postfix x) (λ h. low (w _ h)) (λ h. o (w _ h)) (expression y) to
    postfix (IsPostfix.call x from low o y to) = IsPostfix.call (postfix x) from (λ h. low (w _ h)) (λ h. o (w _ h)) (arguments y) to
    postfix (IsPostfix.member x low next) = IsPostfix.member (postfix x) (λ h. low (w _ h)) next
    postfix (IsPostfix.arrow x low next) = IsPostfix.arrow (postfix x) (λ h. low (w _ h)) next
    postfix (IsPostfix.step_after x low p is) = IsPostfix.step_after (postfix x) (λ h. low (w _ h)) p is

    arguments : {d : Level} {ts : List Placed} {a : ExpressionTrees} → AreArguments l d ts a → AreArguments m d ts a
    arguments AreArguments.no_argument = AreArguments.no_argument
    arguments (AreArguments.some_arguments x) = AreArguments.some_arguments (listed x)

    listed : {d : Level} {ts : List Placed} {a : ExpressionTrees} → AreListed l d ts a → AreListed m d ts a
    listed (AreListed.last x) = AreListed.last (assignment x)
    listed (AreListed.next x comma xs) = AreListed.next (assignment x) comma (listed xs)

    primary : {d : Level} {ts : List Placed} {a : ExpressionTree} → IsPrimary l d ts a → IsPrimary m d ts a
    primary IsPrimary.name = IsPrimary.name
    primary IsPrimary.number = IsPrimary.number
    primary IsPrimary.character = IsPrimary.character
    primary (IsPrimary.text x) = IsPrimary.text x
    primary IsPrimary.null = IsPrimary.null
    primary IsPrimary.eof = IsPrimary.eof
    primary (IsPrimary.parenthesized o x to) = IsPrimary.parenthesized (λ h. o (w _ h)) (expression x) to

    type_name : {d : Level} {ts : List Placed} {t : TypeNameTree} → IsTypeName l d ts t → IsTypeName m d ts t
    type_name (IsTypeName.type_name s x) = IsTypeName.type_name s (type_declarator x)

    type_declarator : {d : Level} {at : At} {ts : List Placed} {t : TypeDeclaratorTree} → IsTypeDeclarator l d at ts t → IsTypeDeclarator m d at ts t
    type_declarator (IsTypeDeclarator.direct s x) = IsTypeDeclarator.direct (stars s) (sizes x)
    type_declarator (IsTypeDeclarator.nested s from o x to y) = IsTypeDeclarator.nested (stars s) from (λ h. o (w _ h)) (type_declarator x) to (sizes y)

    sizes : {d : Level} {ts : List Placed} {a : ExpressionTrees} → AreSizes l d ts a → AreSizes m d ts a
    sizes AreSizes.no_size = AreSizes.no_size
    sizes (AreSizes.size o x to xs) = AreSizes.size (λ h. o (w _ h)) (conditional x) to (sizes xs)

  array : (d : Level) (ts : List Placed) (a : ArrayTree) → IsArray l d ts a → IsArray m d ts a
  array _ _ _ (IsArray.array o x to) = IsArray.array (λ h. o (w _ h)) (optional (λ _ _ y. conditional y) x) to

  parameter_declarator : {d : Level} {at : At} {ts : List Placed} {t : ParameterDeclaratorTree} → IsParameterDeclarator l d at ts t → IsParameterDeclarator m d at ts t
  parameter_declarator (IsParameterDeclarator.unnamed s x) = IsParameterDeclarator.unnamed (stars s) (many (array _) x)
  parameter_declarator (IsParameterDeclarator.named s x) = IsParameterDeclarator.named (stars s) (many (array _) x)
  parameter_declarator (IsParameterDeclarator.nested s from o x to y) = IsParameterDeclarator.nested (stars s) from (λ h. o (w _ h)) (parameter_declarator x) to (many (array _) y)

  parameter : (d : Level) (ts : List Placed) (p : ParameterTree) → IsParameter l d ts p → IsParameter m d ts p
  parameter _ _ _ (IsParameter.parameter s x) = IsParameter.parameter s (parameter_declarator x)

  parameters : (d : Level) (ts : List Placed) (p : ParametersTree) → AreParameters l d ts p → AreParameters m d ts p
  parameters _ _ _ AreParameters.void = AreParameters.void
  parameters _ _ _ (AreParameters.listed x is) = AreParameters.listed (commas (parameter _) x) is

  suffix : (d : Level) (ts : List Placed) (s : SuffixTree) → IsSuffix l d ts s → IsSuffix m d ts s
  suffix _ _ _ (IsSuffix.array x) = IsSuffix.array (array _ _ _ x)
  suffix _ _ _ (IsSuffix.function o x to) = IsSuffix.function (λ h. o (w _ h)) (optional (parameters _) x) to

  declarator : (d : Level) (ts : List Placed) (t : DeclaratorTree) → IsDeclarator l d ts t → IsDeclarator m d ts t
  declarator _ _ _ (IsDeclarator.named s x) = IsDeclarator.named (stars s) (many (suffix _) x)
  declarator _ _ _ (IsDeclarator.nested s from o x to y) = IsDeclarator.nested (stars s) from (λ h. o (w _ h)) (declarator _ _ _ x) to (many (suffix _) y)

  mutual
    initializer : {d : Level} {ts : List Placed} {i : InitializerTree} → IsInitializer l d ts i → IsInitializer m d ts i
    initializer (IsInitializer.expression x) = IsInitializer.expression (assignment x)
    initializer (IsInitializer.braced o x to) = IsInitializer.braced (λ h. o (w _ h)) (parts x) to
    initializer (IsInitializer.braced_comma o x comma to) = IsInitializer.braced_comma (λ h. o (w _ h)) (parts x) comma to

    parts : {d : Level} {ts : List Placed} {i : InitializerTrees} → AreParts l d ts i → AreParts m d ts i
    parts (AreParts.last x) = AreParts.last (initializer x)
    parts (AreParts.next x comma xs) = AreParts.next (initializer x) comma (parts xs)

  init_declarator : (d : Level) (ts : List Placed) (i : InitDeclaratorTree) → IsInitDeclarator l d ts i → IsInitDeclarator m d ts i
  init_declarator _ _ _ (IsInitDeclarator.bare x) = IsInitDeclarator.bare (declarator _ _ _ x)
  init_declarator _ _ _ (IsInitDeclarator.initialized x y) = IsInitDeclarator.initialized (declarator _ _ _ x) (initializer y)

  declaration : {d : Level} {ts : List Placed} {x : DeclarationTree} → IsDeclaration l d ts x → IsDeclaration m d ts x
  declaration (IsDeclaration.nothing s to) = IsDeclaration.nothing s to
  declaration (IsDeclaration.listed s x to) = IsDeclaration.listed s (commas (init_declarator _) x) to

  member : (d : Level) (ts : List Placed) (x : MemberDeclarationTree) → IsMember l d ts x → IsMember m d ts x
  member _ _ _ (IsMember.member s x to) = IsMember.member s (commas (declarator _) x) to

  struct_definition : {d : Level} {at : At} {ts : List Placed} {x : StructDefinitionTree} → IsStructDefinition l d at ts x → IsStructDefinition m d at ts x
  struct_definition (IsStructDefinition.structure o x to) = IsStructDefinition.structure (λ h. o (w _ h)) (many (member _) x) to

  for_start : {d : Level} {ts : List Placed} {x : ForStartTree} → IsForStart l d ts x → IsForStart m d ts x
  for_start (IsForStart.declaration x) = IsForStart.declaration (declaration x)
  for_start (IsForStart.expression x to) = IsForStart.expression (optional (λ _ _ y. expression y) x) to

  mutual
    statement : {d : Level} {b : Bool} {ts : List Placed} {x : StatementTree} → IsStatement l d b ts x → IsStatement m d b ts x
    statement (IsStatement.block x) = IsStatement.block (block x)
    statement IsStatement.empty = IsStatement.empty
    statement (IsStatement.expression x to) = IsStatement.expression (expression x) to
    statement (IsStatement.only_if o c to x) = IsStatement.only_if (λ h. o (w _ h)) (expression c) to (statement x)
    statement (IsStatement.if_else o c to x other y) = IsStatement.if_else (λ h. o (w _ h)) (expression c) to (statement x) other (statement y)
    statement (IsStatement.while o c to x) = IsStatement.while (λ h. o (w _ h)) (expression c) to (statement x)
    statement (IsStatement.do_while again from o x c to end) = IsStatement.do_while again from (λ h. o (w _ h)) (statement x) (expression c) to end
    statement (IsStatement.for o s c middle u to x) = IsStatement.for (λ h. o (w _ h)) (for_start s) (optional (λ _ _ y. expression y) c) middle (optional (λ _ _ y. expression y) u) to (statement x)
    statement IsStatement.break = IsStatement.break
    statement IsStatement.continue = IsStatement.continue
    statement (IsStatement.return x to) = IsStatement.return (optional (λ _ _ y. expression y) x) to

    block : {d : Level} {ts : List Placed} {x : BlockTree} → IsBlock l d ts x → IsBlock m d ts x
    block (IsBlock.braces o x to) = IsBlock.braces (λ h. o (w _ h)) (items x) to

    items : {d : Level} {ts : List Placed} {x : BlockItemTrees} → AreItems l d ts x → AreItems m d ts x
    items AreItems.no_item = AreItems.no_item
    items (AreItems.item x xs) = AreItems.item (item x) (items xs)

    item : {d : Level} {ts : List Placed} {x : BlockItemTree} → IsItem l d ts x → IsItem m d ts x
    item (IsItem.declaration x) = IsItem.declaration (declaration x)
    item (IsItem.statement x) = IsItem.statement (statement x)

  head : {d : Level} {at : At} {ts : List Placed} {h : HeadTree} → IsHead l d at ts h → IsHead m d at ts h
  head (IsHead.specifier s) = IsHead.specifier s
  head (IsHead.structure x) = IsHead.structure (struct_definition x)

  external : (d : Level) (ts : List Placed) (x : ExternalTree) → IsExternal l d ts x → IsExternal m d ts x
  external _ _ _ (IsExternal.nothing h to) = IsExternal.nothing (head h) to
  external _ _ _ (IsExternal.function h t b) = IsExternal.function (head h) (declarator _ _ _ t) (block b)
  external _ _ _ (IsExternal.listed h x to) = IsExternal.listed (head h) (commas (init_declarator _) x) to

  pub weaker : (ts : List Placed) (unit : UnitTree) → Derives l ts unit → Derives m ts unit
  weaker _ _ (Derives.unit x) = Derives.unit (many (external _) x)

pub within_is_without : (ts : List Placed) (unit : UnitTree) → Derives within_limits ts unit → Derives without_limits ts unit
within_is_without = weaker within_limits without_limits (λ at h. refl)

sooner : (i n t : ℕ) → i ≤ n → nat_lt t i ≡ true → nat_lt t n ≡ true
sooner i n t h e = grind (arith, nat_tests)

pub before_is_before : (i n : ℕ) → i ≤ n → (ts : List Placed) (unit : UnitTree) → Derives (limits_before n) ts unit → Derives (limits_before i) ts unit
before_is_before i n h = weaker (limits_before n) (limits_before i) (λ at e. sooner i n at.token h e)

pub before_is_without : (n : ℕ) (ts : List Placed) (unit : UnitTree) → Derives (limits_before n) ts unit → Derives without_limits ts unit
before_is_without n = weaker (limits_before n) without_limits (λ at h. absurd (false≢true h))

pub within_is_before : (n : ℕ) (ts : List Placed) (unit : UnitTree) → Derives within_limits ts unit → Derives (limits_before n) ts unit
within_is_before n = weaker within_limits (limits_before n) (λ at h. refl)
