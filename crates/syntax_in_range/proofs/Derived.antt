-- What derives from tokens in range is in range.
use Rattle.std.proofs.Common.{◌≡◌, ◌⊎◌, inl, inr, ℕ, ◌≤◌, Bool, List, [], ◌∷◌, ◌++◌, length, Option, IfSome, refl, arith, length-append}
use Rattle.std.specs.List.{AllByRecursion}
use Rattle.c_words.specs.declared.place.At.{At}
use Rattle.c_words.specs.declared.words.Punctuator.TheVariants as m
use Rattle.c_words.specs.Tokens.{Placed}
use Rattle.syntax_tree.specs.declared.syntax.specifiers.Specifier.{Specifier}
use Rattle.syntax_tree.specs.Syntax.{ExpressionTree, ExpressionTrees, TypeNameTree, TypeDeclaratorTree, ArrayTree, ParameterDeclaratorTree, ParameterTree, ParametersTree, SuffixTree, DeclaratorTree, InitializerTree, InitializerTrees, InitDeclaratorTree, DeclarationTree, MemberDeclarationTree, StructDefinitionTree, ForStartTree, StatementTree, BlockTree, BlockItemTree, BlockItemTrees, HeadTree, ExternalTree, UnitTree}
use Rattle.syntax_tree.specs.GrammarLimits.{Limits, Level}
use Rattle.syntax_tree.specs.GrammarTokens.{mark, first_at, Optional, Many, Commas, AreStrings}
use Rattle.syntax_tree.specs.GrammarExpressions.{IsSpecifier, call_at, IsExpression, IsAssignment, IsConditional, IsBinary, IsCast, IsUnary, IsPostfix, IsPrimary, AreArguments, AreListed, IsTypeName, IsTypeDeclarator, AreSizes}
use Rattle.syntax_tree.specs.GrammarDeclarations.{declarator_at, parameter_declarator_at, IsArray, IsParameterDeclarator, IsParameter, AreParameters, IsSuffix, IsDeclarator, IsInitializer, AreParts, IsInitDeclarator, IsDeclaration, IsMember, IsStructDefinition}
use Rattle.syntax_tree.specs.GrammarStatements.{IsForStart, IsStatement, IsBlock, AreItems, IsItem}
use Rattle.syntax_tree.specs.Grammar.{start_of_file, IsHead, IsExternal, Derives}
use Rattle.syntax_in_range.specs.InRange.{IsPlace, AreBytes, PlacedInRange, TokensInRange, SpecifierInRange, ExpressionInRange, ExpressionsInRange, TypeNameInRange, TypeDeclaratorInRange, ArrayInRange, ParameterDeclaratorInRange, ParameterInRange, ParametersInRange, SuffixInRange, DeclaratorInRange, InitializerInRange, InitializersInRange, InitDeclaratorInRange, DeclarationInRange, MemberInRange, StructInRange, ForStartInRange, StatementInRange, BlockInRange, ItemInRange, ItemsInRange, HeadInRange, ExternalInRange, InRange, HasPart}
use Rattle.syntax_in_range.proofs.Parts.{first_part, last_part}

front : (ts us : List Placed) → TokensInRange (ts ++ us) → TokensInRange ts
front = first_part PlacedInRange

back : (ts us : List Placed) → TokensInRange (ts ++ us) → TokensInRange us
back = last_part PlacedInRange

-- ---- lists and options

many : {A : Type 0} {R : List Placed → A → Type 0} {Q : A → Type 0} {ts : List Placed} {xs : List A} → ((ts : List Placed) (x : A) → R ts x → TokensInRange ts → Q x) → Many R ts xs → TokensInRange ts → AllByRecursion Q xs
many f Many.none h = tt
many f (Many.more x xs) h = (f _ _ x (front _ _ h), many f xs (back _ _ h))

commas : {A : Type 0} {R : List Placed → A → Type 0} {Q : A → Type 0} {ts : List Placed} {xs : List A} → ((ts : List Placed) (x : A) → R ts x → TokensInRange ts → Q x) → Commas R ts xs → TokensInRange ts → AllByRecursion Q xs
commas f (Commas.last x) h = (f _ _ x h, tt)
commas f (Commas.next {ts = ts} x comma xs) h = (f _ _ x (front _ _ h), commas f xs (back ts _ h).1)

optional : {A : Type 0} {R : List Placed → A → Type 0} {Q : A → Type 0} {ts : List Placed} {x : Option A} → ((ts : List Placed) (x : A) → R ts x → TokensInRange ts → Q x) → Optional R ts x → TokensInRange ts → IfSome x Q
optional f Optional.absent h = tt
optional f (Optional.present x) h = f _ _ x h

-- ---- places

first_place : (ts : List Placed) (end : At) → TokensInRange ts → IsPlace end → IsPlace (first_at ts end)
first_place [] end h p = p
first_place (t ∷ ts) end h p = h.0.0

call_place : (f : ExpressionTree) (from : At) → ExpressionInRange f → IsPlace from → IsPlace (call_at f from)
call_place (ExpressionTree.Name at x) from h p = h
call_place _ from h p = p

declarator_place : (t : DeclaratorTree) → DeclaratorInRange t → IsPlace (declarator_at t)
declarator_place (DeclaratorTree.Named at n x suffixes) h = h.0
declarator_place (DeclaratorTree.Nested at n inner suffixes) h = h.0

parameter_declarator_place : (t : ParameterDeclaratorTree) → ParameterDeclaratorInRange t → IsPlace (parameter_declarator_at t)
parameter_declarator_place (ParameterDeclaratorTree.Unnamed at n arrays) h = h.0
parameter_declarator_place (ParameterDeclaratorTree.Named at n x arrays) h = h.0
parameter_declarator_place (ParameterDeclaratorTree.Nested at n inner arrays) h = h.0

specifier : {ts : List Placed} {s : Specifier} → IsSpecifier ts s → TokensInRange ts → SpecifierInRange s
specifier IsSpecifier.void h = h.0.0
specifier IsSpecifier.char h = h.0.0
specifier IsSpecifier.int h = h.0.0
specifier IsSpecifier.signed h = h.0.0
specifier IsSpecifier.signed_int h = h.0.0
specifier IsSpecifier.unsigned h = h.0.0
specifier IsSpecifier.unsigned_int h = h.0.0
specifier IsSpecifier.unsigned_char h = h.0.0
specifier IsSpecifier.struct h = h.0.0

strings : {at : At} {ts : List Placed} {pieces : List (List ℕ)} → AreStrings at ts pieces → TokensInRange ts → IsPlace at × AllByRecursion AreBytes pieces
strings AreStrings.one h = (h.0.0, (h.0.1, tt))
strings (AreStrings.another xs) h = (h.0.0, (h.0.1, (strings xs h.1).1))

module _ (limits : Limits) where
  -- ---- expressions

  mutual
    expression : {d : Level} {ts : List Placed} {a : ExpressionTree} → IsExpression limits d ts a → TokensInRange ts → ExpressionInRange a
    expression (IsExpression.assignment x) h = assignment x h
    expression (IsExpression.comma {ls = ls} x low y) h = let k = back ls _ h in (k.0.0, expression x (front _ _ h), assignment y k.1)

    assignment : {d : Level} {ts : List Placed} {a : ExpressionTree} → IsAssignment limits d ts a → TokensInRange ts → ExpressionInRange a
    assignment (IsAssignment.conditional x) h = conditional x h
    assignment (IsAssignment.assign {ls = ls} x low p is o y) h = let k = back ls _ h in (k.0.0, conditional x (front _ _ h), assignment y k.1)

    conditional : {d : Level} {ts : List Placed} {a : ExpressionTree} → IsConditional limits d ts a → TokensInRange ts → ExpressionInRange a
    conditional (IsConditional.binary x) h = binary x h
    conditional (IsConditional.choice {cs = cs} {ts = ts} x low o y colon z) h =
        let k = back cs _ h in (k.0.0, binary x (front _ _ h), expression y (front _ _ k.1), conditional z (back ts _ k.1).1)

    binary : {k : ℕ} {d : Level} {ts : List Placed} {a : ExpressionTree} → IsBinary limits k d ts a → TokensInRange ts → ExpressionInRange a
    binary (IsBinary.operand x) h = cast x h
    binary (IsBinary.stronger x) h = binary x h
    binary (IsBinary.joined {ls = ls} x low p is y) h = let k = back ls _ h in (k.0.0, binary x (front _ _ h), binary y k.1)

    cast : {d : Level} {ts : List Placed} {a : ExpressionTree} → IsCast limits d ts a → TokensInRange ts → ExpressionInRange a
    cast (IsCast.unary x) h = unary x h
    cast (IsCast.cast {ts = ts} o t to x) h = (h.0.0, type_name t (front _ _ h.1), cast x (back ts _ h.1).1)

    unary : {d : Level} {ts : List Placed} {a : ExpressionTree} → IsUnary limits d ts a → TokensInRange ts → ExpressionInRange a
    unary (IsUnary.postfix x) h = postfix x h
    unary (IsUnary.step_before is o x) h = (h.0.0, unary x h.1)
    unary (IsUnary.prefix is o x) h = (h.0.0, cast x h.1)
    unary (IsUnary.sizeof_type o p t to) h = (h.0.0, type_name t (front _ _ h.1.1))
    unary (IsUnary.sizeof_expression o x) h = (h.0.0, unary x h.1)

    postfix : {d : Level} {ts : List Placed} {a : ExpressionTree} → IsPostfix limits d ts a → TokensInRange ts → ExpressionInRange a
    postfix (IsPostfix.primary x) h = primary x h
    postfix (IsPostfix.index {ls = ls} x low o y to) h = let k = back ls _ h in (k.0.0, postfix x (front _ _ h), expression y (front _ _ k.1))
    postfix (IsPostfix.call {ls = ls} x from low o y to) h =
        let k = back ls _ h in
        let f = postfix x (front _ _ h) in
        (call_place _ from f k.0.0, f, arguments y (front _ _ k.1))
    postfix (IsPostfix.member {ls = ls} x low next) h = ((back ls _ h).0.0, postfix x (front _ _ h))
    postfix (IsPostfix.arrow {ls = ls} x low next) h = ((back ls _ h).0.0, postfix x (front _ _ h))
    postfix (IsPostfix.step_after {ls = ls} x low p is) h = ((back ls _ h).0.0, postfix x (front _ _ h))

    arguments : {d : Level} {ts : List Placed} {a : ExpressionTrees} → AreArguments limits d ts a → TokensInRange ts → ExpressionsInRange a
    arguments AreArguments.no_argument h = tt
    arguments (AreArguments.some_arguments x) h = listed x h

    listed : {d : Level} {ts : List Placed} {a : ExpressionTrees} → AreListed limits d ts a → TokensInRange ts → ExpressionsInRange a
    listed (AreListed.last x) h = (assignment x h, tt)
    listed (AreListed.next {ts = ts} x comma xs) h = (assignment x (front _ _ h), listed xs (back ts _ h).1)

    primary : {d : Level} {ts : List Placed} {a : ExpressionTree} → IsPrimary limits d ts a → TokensInRange ts → ExpressionInRange a
    primary IsPrimary.name h = h.0.0
    primary IsPrimary.number h = (h.0.0, h.0.1)
    primary IsPrimary.character h = (h.0.0, h.0.1)
    primary (IsPrimary.text x) h = strings x h
    primary IsPrimary.null h = h.0.0
    primary IsPrimary.eof h = h.0.0
    primary (IsPrimary.parenthesized o x to) h = (h.0.0, expression x (front _ _ h.1))

    type_name : {d : Level} {ts : List Placed} {t : TypeNameTree} → IsTypeName limits d ts t → TokensInRange ts → TypeNameInRange t
    type_name (IsTypeName.type_name s x) h = let p = specifier s (front _ _ h) in (p, p, type_declarator x (back _ _ h) p)

    type_declarator : {d : Level} {at : At} {ts : List Placed} {t : TypeDeclaratorTree} → IsTypeDeclarator limits d at ts t → TokensInRange ts → IsPlace at → TypeDeclaratorInRange t
    type_declarator (IsTypeDeclarator.direct s x) h p = (p, sizes x (back _ _ h))
    type_declarator (IsTypeDeclarator.nested {ss = ss} {first = first} {us = us} s from o x to y) h p =
        let k = (back ss _ h).1 in (p, type_declarator x (front (first ∷ us) _ k) p, sizes y (back (first ∷ us) _ k).1)

    sizes : {d : Level} {ts : List Placed} {a : ExpressionTrees} → AreSizes limits d ts a → TokensInRange ts → ExpressionsInRange a
    sizes AreSizes.no_size h = tt
    sizes (AreSizes.size {cs = cs} o x to xs) h = (conditional x (front _ _ h.1), sizes xs (back cs _ h.1).1)

  -- ---- declarators

  array : (d : Level) (ts : List Placed) (a : ArrayTree) → IsArray limits d ts a → TokensInRange ts → ArrayInRange a
  array _ _ _ (IsArray.array o x to) h = (h.0.0, optional (λ _ _ y. conditional y) x (front _ _ h.1))

  parameter_declarator : {d : Level} {at : At} {ts : List Placed} {t : ParameterDeclaratorTree} → IsParameterDeclarator limits d at ts t → TokensInRange ts → IsPlace at → ParameterDeclaratorInRange t
  parameter_declarator (IsParameterDeclarator.unnamed s x) h p = (p, many (array _) x (back _ _ h))
  parameter_declarator (IsParameterDeclarator.named {ss = ss} s x) h p = let k = back ss _ h in (k.0.0, many (array _) x k.1)
  parameter_declarator (IsParameterDeclarator.nested {ss = ss} {first = first} {us = us} s from o x to y) h p =
      let k = (back ss _ h).1 in
      let inner = parameter_declarator x (front (first ∷ us) _ k) p in
      (parameter_declarator_place _ inner, inner, many (array _) y (back (first ∷ us) _ k).1)

  parameter : (d : Level) (ts : List Placed) (p : ParameterTree) → IsParameter limits d ts p → TokensInRange ts → ParameterInRange p
  parameter _ _ _ (IsParameter.parameter s x) h = let p = specifier s (front _ _ h) in (p, p, parameter_declarator x (back _ _ h) p)

  parameters : (d : Level) (ts : List Placed) (p : ParametersTree) → AreParameters limits d ts p → TokensInRange ts → ParametersInRange p
  parameters _ _ _ AreParameters.void h = h.0.0
  parameters _ _ _ (AreParameters.listed x is) h = let ps = commas (parameter _) x h in (ps.0.0, ps)

  suffix : (d : Level) (ts : List Placed) (s : SuffixTree) → IsSuffix limits d ts s → TokensInRange ts → SuffixInRange s
  suffix _ _ _ (IsSuffix.array x) h = array _ _ _ x h
  suffix _ _ _ (IsSuffix.function o x to) h = (h.0.0, optional (parameters _) x (front _ _ h.1))

  declarator : (d : Level) (ts : List Placed) (t : DeclaratorTree) → IsDeclarator limits d ts t → TokensInRange ts → DeclaratorInRange t
  declarator _ _ _ (IsDeclarator.named {ss = ss} s x) h = let k = back ss _ h in (k.0.0, many (suffix _) x k.1)
  declarator _ _ _ (IsDeclarator.nested {ss = ss} {us = us} s from o x to y) h =
      let k = (back ss _ h).1 in
      let inner = declarator _ _ _ x (front _ _ k) in
      (declarator_place _ inner, inner, many (suffix _) y (back us _ k).1)

  -- ---- declarations

  has_part : {d : Level} {ts : List Placed} {i : InitializerTrees} → AreParts limits d ts i → HasPart i
  has_part (AreParts.last x) = tt
  has_part (AreParts.next x comma xs) = tt

  mutual
    initializer : {d : Level} {ts : List Placed} {i : InitializerTree} → IsInitializer limits d ts i → TokensInRange ts → InitializerInRange i
    initializer (IsInitializer.expression x) h = assignment x h
    initializer (IsInitializer.braced o x to) h = (h.0.0, has_part x, parts x (front _ _ h.1))
    initializer (IsInitializer.braced_comma o x comma to) h = (h.0.0, has_part x, parts x (front _ _ h.1))

    parts : {d : Level} {ts : List Placed} {i : InitializerTrees} → AreParts limits d ts i → TokensInRange ts → InitializersInRange i
    parts (AreParts.last x) h = (initializer x h, tt)
    parts (AreParts.next {ts = ts} x comma xs) h = (initializer x (front _ _ h), parts xs (back ts _ h).1)

  init_declarator : (d : Level) (ts : List Placed) (i : InitDeclaratorTree) → IsInitDeclarator limits d ts i → TokensInRange ts → InitDeclaratorInRange i
  init_declarator _ _ _ (IsInitDeclarator.bare x) h = let t = declarator _ _ _ x h in (declarator_place _ t, t, tt)
  init_declarator _ _ _ (IsInitDeclarator.initialized {ts = ts} x y) h = let k = back ts _ h in (k.0.0, declarator _ _ _ x (front _ _ h), initializer y k.1)

  declaration : {d : Level} {ts : List Placed} {x : DeclarationTree} → IsDeclaration limits d ts x → TokensInRange ts → DeclarationInRange x
  declaration (IsDeclaration.nothing s to) h = let p = specifier s (front _ _ h) in (p, p, tt)
  declaration (IsDeclaration.listed s x to) h = let p = specifier s (front _ _ h) in (p, p, commas (init_declarator _) x (front _ _ (back _ _ h)))

  member : (d : Level) (ts : List Placed) (x : MemberDeclarationTree) → IsMember limits d ts x → TokensInRange ts → MemberInRange x
  member _ _ _ (IsMember.member s x to) h = let p = specifier s (front _ _ h) in (p, p, commas (declarator _) x (front _ _ (back _ _ h)))

  struct_definition : {d : Level} {at : At} {ts : List Placed} {x : StructDefinitionTree} → IsStructDefinition limits d at ts x → TokensInRange ts → IsPlace at × StructInRange x
  struct_definition (IsStructDefinition.structure o x to) h = (h.0.0, (h.1.0.0, many (member _) x (front _ _ h.1.1.1)))

  -- ---- statements

  for_start : {d : Level} {ts : List Placed} {x : ForStartTree} → IsForStart limits d ts x → TokensInRange ts → ForStartInRange x
  for_start (IsForStart.declaration x) h = declaration x h
  for_start (IsForStart.expression x to) h = optional (λ _ _ y. expression y) x (front _ _ h)

  mutual
    statement : {d : Level} {b : Bool} {ts : List Placed} {x : StatementTree} → IsStatement limits d b ts x → TokensInRange ts → StatementInRange x
    statement (IsStatement.block x) h = block x h
    statement IsStatement.empty h = h.0.0
    statement (IsStatement.expression {ts = ts} x to) h = let k = front ts _ h in (first_place _ to k (back ts _ h).0.0, expression x k)
    statement (IsStatement.only_if {cs = cs} o c to x) h = let k = h.1.1 in (h.0.0, expression c (front _ _ k), statement x (back cs _ k).1)
    statement (IsStatement.if_else {cs = cs} {ts = ts} o c to x other y) h =
        let k = h.1.1 in
        let l = (back cs _ k).1 in
        (h.0.0, expression c (front _ _ k), statement x (front _ _ l), statement y (back ts _ l).1)
    statement (IsStatement.while {cs = cs} o c to x) h = let k = h.1.1 in (h.0.0, expression c (front _ _ k), statement x (back cs _ k).1)
    statement (IsStatement.do_while {ts = ts} again from o x c to end) h =
        (h.0.0, statement x (front _ _ h.1), expression c (front _ _ (back ts _ h.1).1.1))
    statement (IsStatement.for {ss = ss} {cs = cs} {us = us} o s c middle u to x) h =
        let k = h.1.1 in
        let l = back ss _ k in
        let m = (back cs _ l).1 in
        (h.0.0, for_start s (front _ _ k), optional (λ _ _ y. expression y) c (front _ _ l), optional (λ _ _ y. expression y) u (front _ _ m), statement x (back us _ m).1)
    statement IsStatement.break h = h.0.0
    statement IsStatement.continue h = h.0.0
    statement (IsStatement.return x to) h = (h.0.0, optional (λ _ _ y. expression y) x (front _ _ h.1))

    block : {d : Level} {ts : List Placed} {x : BlockTree} → IsBlock limits d ts x → TokensInRange ts → BlockInRange x
    block (IsBlock.braces o x to) h = (h.0.0, items x (front _ _ h.1))

    items : {d : Level} {ts : List Placed} {x : BlockItemTrees} → AreItems limits d ts x → TokensInRange ts → ItemsInRange x
    items AreItems.no_item h = tt
    items (AreItems.item x xs) h = (item x (front _ _ h), items xs (back _ _ h))

    item : {d : Level} {ts : List Placed} {x : BlockItemTree} → IsItem limits d ts x → TokensInRange ts → ItemInRange x
    item (IsItem.declaration x) h = declaration x h
    item (IsItem.statement x) h = statement x h

  -- ---- files

  head : {d : Level} {at : At} {ts : List Placed} {x : HeadTree} → IsHead limits d at ts x → TokensInRange ts → IsPlace at × HeadInRange x
  head (IsHead.specifier s) h = let p = specifier s h in (p, p)
  head (IsHead.structure x) h = struct_definition x h

  external : (d : Level) (ts : List Placed) (x : ExternalTree) → IsExternal limits d ts x → TokensInRange ts → ExternalInRange x
  external _ _ _ (IsExternal.nothing x to) h = let p = head x (front _ _ h) in (p.0, p.1, tt)
  external _ _ _ (IsExternal.function {hs = hs} x t b) h =
      let p = head x (front _ _ h) in
      let k = back hs _ h in
      (p.0, p.1, declarator _ _ _ t (front _ _ k), block b (back _ _ k))
  external _ _ _ (IsExternal.listed x ds to) h = let p = head x (front _ _ h) in (p.0, p.1, commas (init_declarator _) ds (front _ _ (back _ _ h)))

  pub derived : (tokens : List Placed) (unit : UnitTree) → Derives limits tokens unit → TokensInRange tokens → InRange unit
  derived _ _ (Derives.unit x) h = (first_place _ start_of_file h (omega arith, omega arith), many (external _) x h)

  -- ---- how many tokens there are

  head_some : {d : Level} {at : At} {ts : List Placed} {x : HeadTree} → IsHead limits d at ts x → 1 ≤ length ts
  head_some (IsHead.specifier IsSpecifier.void) = omega arith
  head_some (IsHead.specifier IsSpecifier.char) = omega arith
  head_some (IsHead.specifier IsSpecifier.int) = omega arith
  head_some (IsHead.specifier IsSpecifier.signed) = omega arith
  head_some (IsHead.specifier IsSpecifier.signed_int) = omega arith
  head_some (IsHead.specifier IsSpecifier.unsigned) = omega arith
  head_some (IsHead.specifier IsSpecifier.unsigned_int) = omega arith
  head_some (IsHead.specifier IsSpecifier.unsigned_char) = omega arith
  head_some (IsHead.specifier IsSpecifier.struct) = omega arith
  head_some (IsHead.structure (IsStructDefinition.structure o x to)) = omega arith

  block_some : {d : Level} {ts : List Placed} {x : BlockTree} → IsBlock limits d ts x → 1 ≤ length ts
  block_some (IsBlock.braces o x to) = omega arith

  external_some : {d : Level} {ts : List Placed} {x : ExternalTree} → IsExternal limits d ts x → 2 ≤ length ts
  external_some (IsExternal.nothing {hs = hs} x to) = omega (arith, head_some x, length-append hs (mark m.Semicolon to ∷ []))
  external_some (IsExternal.function {hs = hs} {ts = ts} {us = us} x t b) = omega (arith, head_some x, block_some b, length-append hs (ts ++ us), length-append ts us)
  external_some (IsExternal.listed {hs = hs} {ts = ts} x ds to) =
      omega (arith, head_some x, length-append hs (ts ++ (mark m.Semicolon to ∷ [])), length-append ts (mark m.Semicolon to ∷ []))

  -- a file has no token, or two at least
  pub none_or_two : (tokens : List Placed) (unit : UnitTree) → Derives limits tokens unit → (tokens ≡ []) ⊎ (2 ≤ length tokens)
  none_or_two _ _ (Derives.unit Many.none) = inl refl
  none_or_two _ _ (Derives.unit (Many.more {ts = ts} {us = us} x xs)) = inr (omega (arith, external_some x, length-append ts us))
