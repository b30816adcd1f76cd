-- Derivations of small texts, and why some have none.
use Rattle.std.proofs.Common.{◌≡◌, ℕ, zero, suc, ◌+◌, ◌≤◌, ◌<◌, Bool, true, false, List, [], ◌∷◌, ◌++◌, refl, lit≤, arith, ◌⊎◌, inl, inr}
use Rattle.std.proofs.lemmas.Bool.{false≢true}
use Rattle.c_words.specs.declared.place.At.{At}
use Rattle.c_words.specs.declared.words.Punctuator.TheVariants as m
use Rattle.c_words.specs.declared.words.Keyword.TheVariants as w
use Rattle.syntax_tree.specs.declared.syntax.specifiers.Specifier.{Specifier}
use Rattle.c_words.specs.Tokens.{Token, Placed}
use Rattle.syntax_tree.specs.Syntax.{ExpressionTree, ExpressionTrees, TypeNameTree, TypeDeclaratorTree, StatementTree, HeadTree, ExternalTree, UnitTree}
use Rattle.syntax_tree.specs.GrammarLimits.{Limits, Level, outermost, within_limits, without_limits}
use Rattle.syntax_tree.specs.GrammarTokens.{word, identifier, Optional, Many, Commas}
use Rattle.syntax_tree.specs.GrammarExpressions.{IsSpecifier, AreStars, IsExpression, IsAssignment, IsConditional, IsBinary, IsCast, IsUnary, IsPostfix, IsPrimary, AreArguments, AreListed, IsTypeName, IsTypeDeclarator, AreSizes}
use Rattle.syntax_tree.specs.GrammarDeclarations.{IsArray, IsParameterDeclarator, IsParameter, AreParameters, IsSuffix, IsDeclarator, IsInitializer, AreParts, IsInitDeclarator, IsDeclaration, IsMember, IsStructDefinition}
use Rattle.syntax_tree.specs.GrammarStatements.{IsForStart, IsStatement, IsBlock, AreItems, IsItem}
use Rattle.syntax_tree.specs.Grammar.{IsHead, IsExternal, Derives}
use Rattle.syntax_tree.specs.GrammarExamples.{at, placed, ExpressionsDerive, StatementsDerive, UnitsDerive, NothingDerives, HeightsAre, brackets_text, brackets_tree}

-- what stands for itself at each level of the chain
module _ (limits : Limits) where
  operand : (k : ℕ) {d : Level} {ts : List Placed} {a : ExpressionTree} → IsCast limits d ts a → IsBinary limits k d ts a
  operand zero x = IsBinary.operand x
  operand (suc k) x = IsBinary.stronger (operand k x)

  conditional : {d : Level} {ts : List Placed} {a : ExpressionTree} → IsCast limits d ts a → IsConditional limits d ts a
  conditional x = IsConditional.binary (operand 10 x)

  assignment : {d : Level} {ts : List Placed} {a : ExpressionTree} → IsCast limits d ts a → IsAssignment limits d ts a
  assignment x = IsAssignment.conditional (conditional x)

  expression : {d : Level} {ts : List Placed} {a : ExpressionTree} → IsCast limits d ts a → IsExpression limits d ts a
  expression x = IsExpression.assignment (assignment x)

  postfix : {d : Level} {ts : List Placed} {a : ExpressionTree} → IsPostfix limits d ts a → IsCast limits d ts a
  postfix x = IsCast.unary (IsUnary.postfix x)

  primary : {d : Level} {ts : List Placed} {a : ExpressionTree} → IsPrimary limits d ts a → IsCast limits d ts a
  primary x = postfix (IsPostfix.primary x)

-- what `+` and `-` join
additive : {d : ℕ} {ts : List Placed} {a : ExpressionTree} → IsBinary within_limits 2 d ts a → IsExpression within_limits d ts a
additive x = IsExpression.assignment (IsAssignment.conditional (IsConditional.binary (IsBinary.stronger (IsBinary.stronger (IsBinary.stronger (IsBinary.stronger
    (IsBinary.stronger (IsBinary.stronger (IsBinary.stronger (IsBinary.stronger x))))))))))

-- `int`
int : {d : ℕ} {k : At} → IsTypeName within_limits d (word w.Int k ∷ []) (TypeNameTree.type_name k (Specifier.Int k) (TypeDeclaratorTree.Direct k 0 ExpressionTrees.none))
int = IsTypeName.type_name IsSpecifier.int (IsTypeDeclarator.direct AreStars.no_star AreSizes.no_size)

-- a name
leaf : {d : ℕ} {k : At} {x : List ℕ} → IsCast within_limits d (identifier x k ∷ []) (ExpressionTree.Name k x)
leaf = primary within_limits IsPrimary.name

pub expressions_derive : ExpressionsDerive
expressions_derive = record {
  left_associative = additive (IsBinary.joined
      (IsBinary.joined (operand within_limits 2 leaf) (λ _. lit≤ tt) m.Minus refl (operand within_limits 1 leaf)) (λ _. lit≤ tt) m.Minus refl (operand within_limits 1 leaf));
  precedence = additive (IsBinary.joined (operand within_limits 2 leaf) (λ _. lit≤ tt) m.Plus refl
      (IsBinary.joined (operand within_limits 1 leaf) (λ _. lit≤ tt) m.Star refl (operand within_limits 0 leaf)));
  right_associative = IsExpression.assignment (IsAssignment.assign (conditional within_limits leaf) (λ _. lit≤ tt) m.Equal refl (λ _. lit≤ tt)
      (IsAssignment.assign (conditional within_limits leaf) (λ _. lit≤ tt) m.Equal refl (λ _. lit≤ tt) (assignment within_limits leaf)));
  choice = IsExpression.assignment (IsAssignment.conditional (IsConditional.choice (operand within_limits 10 leaf) (λ _. lit≤ tt) (λ _. lit≤ tt) (expression within_limits leaf) (at 3) (conditional within_limits leaf)));
  commas = IsExpression.comma (IsExpression.comma (expression within_limits leaf) (λ _. lit≤ tt) (assignment within_limits leaf)) (λ _. lit≤ tt) (assignment within_limits leaf);
  cast = expression within_limits (IsCast.cast (λ _. lit≤ tt) int (at 2) leaf);
  brackets = expression within_limits (primary within_limits (IsPrimary.parenthesized (λ _. lit≤ tt) (expression within_limits leaf) (at 2)));
  sizeof_type = expression within_limits (IsCast.unary (IsUnary.sizeof_type (λ _. lit≤ tt) (λ _. lit≤ tt) int (at 3)));
  sizeof_expression = expression within_limits (IsCast.unary (IsUnary.sizeof_expression (λ _. lit≤ tt)
      (IsUnary.postfix (IsPostfix.primary (IsPrimary.parenthesized (λ _. lit≤ tt) (expression within_limits leaf) (at 3))))));
  postfix = expression within_limits (postfix within_limits (IsPostfix.step_after
      (IsPostfix.index (IsPostfix.call (IsPostfix.primary IsPrimary.name) (at 1) (λ _. lit≤ tt) (λ _. lit≤ tt) (AreArguments.some_arguments (AreListed.last (assignment within_limits leaf))) (at 3))
      (λ _. lit≤ tt) (λ _. lit≤ tt) (expression within_limits (primary within_limits IsPrimary.number)) (at 6)) (λ _. lit≤ tt) m.PlusPlus refl));
  prefix = expression within_limits (IsCast.unary (IsUnary.prefix refl (λ _. lit≤ tt)
      (postfix within_limits (IsPostfix.step_after (IsPostfix.primary IsPrimary.name) (λ _. lit≤ tt) m.PlusPlus refl))));
}

pub statements_derive : StatementsDerive
statements_derive = record {
  pointer_to_array = IsDeclaration.listed IsSpecifier.int (Commas.last (IsInitDeclarator.bare (IsDeclarator.nested AreStars.no_star (at 1) (λ _. lit≤ tt)
      (IsDeclarator.named (AreStars.star (λ _. lit≤ tt) AreStars.no_star) Many.none) (at 4)
      (Many.more (IsSuffix.array (IsArray.array (λ _. lit≤ tt) (Optional.present (conditional within_limits (primary within_limits IsPrimary.number))) (at 7))) Many.none)))) (at 8);
  nested_initializers = IsDeclaration.listed IsSpecifier.int (Commas.last (IsInitDeclarator.initialized (IsDeclarator.named AreStars.no_star Many.none)
      (IsInitializer.braced_comma (λ _. lit≤ tt) (AreParts.last (IsInitializer.braced (λ _. lit≤ tt)
      (AreParts.last (IsInitializer.expression (assignment within_limits (primary within_limits IsPrimary.number)))) (at 6))) (at 7) (at 8)))) (at 9);
  nearest_if = IsStatement.only_if (λ _. lit≤ tt) (expression within_limits leaf) (at 3)
      (IsStatement.if_else (λ _. lit≤ tt) (expression within_limits leaf) (at 7) IsStatement.empty (at 9) IsStatement.empty);
  for_declaration = IsStatement.for (λ _. lit≤ tt)
      (IsForStart.declaration (IsDeclaration.listed IsSpecifier.int (Commas.last (IsInitDeclarator.initialized (IsDeclarator.named AreStars.no_star Many.none)
      (IsInitializer.expression (assignment within_limits (primary within_limits IsPrimary.number))))) (at 6)))
      (Optional.present (expression within_limits leaf)) (at 8)
      (Optional.present (expression within_limits (postfix within_limits (IsPostfix.step_after (IsPostfix.primary IsPrimary.name) (λ _. lit≤ tt) m.PlusPlus refl)))) (at 11)
      (IsStatement.expression (expression within_limits leaf) (at 13));
}

pub units_derive : UnitsDerive
units_derive = record {
  empty = Derives.unit Many.none;
  struct_definition = Derives.unit (Many.more (IsExternal.nothing (IsHead.structure (IsStructDefinition.structure (λ _. lit≤ tt)
      (Many.more (IsMember.member IsSpecifier.int (Commas.last (IsDeclarator.named AreStars.no_star Many.none)) (at 5)) Many.none) (at 6))) (at 7)) Many.none);
  no_parameters = Derives.unit (Many.more (IsExternal.function (IsHead.specifier IsSpecifier.int)
      (IsDeclarator.named AreStars.no_star (Many.more (IsSuffix.function (λ _. lit≤ tt) (Optional.present AreParameters.void) (at 4)) Many.none))
      (IsBlock.braces (λ _. lit≤ tt) (AreItems.item (IsItem.statement (IsStatement.return
      (Optional.present (expression within_limits (primary within_limits IsPrimary.number))) (at 8))) AreItems.no_item) (at 9))) Many.none);
  two_parameters = Derives.unit (Many.more (IsExternal.listed (IsHead.specifier IsSpecifier.void) (Commas.last (IsInitDeclarator.bare
      (IsDeclarator.named AreStars.no_star (Many.more (IsSuffix.function (λ _. lit≤ tt) (Optional.present (AreParameters.listed
      (Commas.next (IsParameter.parameter IsSpecifier.int (IsParameterDeclarator.named AreStars.no_star Many.none)) (at 5)
      (Commas.last (IsParameter.parameter IsSpecifier.char (IsParameterDeclarator.unnamed (AreStars.star (λ _. lit≤ tt) AreStars.no_star) Many.none)))) refl)) (at 8)) Many.none)))) (at 9)) Many.none);
}

pub heights_are : HeightsAre
heights_are = record { primary = refl; commas = refl; call = refl; sizeof_type = refl; cast = refl; brackets = refl }

-- A file is empty or begins with a keyword.
abbrev is_word : Token → Bool
is_word (Token.Keyword r) = true
is_word _ = false

abbrev begins : List Placed → Bool
begins [] = false
begins (t ∷ ts) = is_word t.token

begins-append : (ts us : List Placed) → begins ts ≡ true → begins (ts ++ us) ≡ true
begins-append [] us h = absurd (cc)
begins-append (t ∷ ts) us h = h

specifier_begins : {ts : List Placed} {s : Specifier} → IsSpecifier ts s → begins ts ≡ true
specifier_begins IsSpecifier.void = refl
specifier_begins _ = refl

module _ (limits : Limits) where
  head_begins : {d : Level} {k : At} {ts : List Placed} {h : HeadTree} → IsHead limits d k ts h → begins ts ≡ true
  head_begins (IsHead.specifier x) = specifier_begins x
  head_begins (IsHead.structure (IsStructDefinition.structure o x to)) = refl

  external_begins : {d : Level} {ts : List Placed} {x : ExternalTree} → IsExternal limits d ts x → begins ts ≡ true
  external_begins (IsExternal.nothing h to) = begins-append _ _ (head_begins h)
  external_begins (IsExternal.function h t body) = begins-append _ _ (head_begins h)
  external_begins (IsExternal.listed h ts to) = begins-append _ _ (head_begins h)

  file_begins : {ts : List Placed} {unit : UnitTree} → Derives limits ts unit → (ts ≡ []) ⊎ (begins ts ≡ true)
  file_begins (Derives.unit Many.none) = inl refl
  file_begins (Derives.unit (Many.more x rest)) = inr (begins-append _ _ (external_begins x))

-- A statement ends with `;` or `}`.
abbrev is_end : Token → Bool
is_end (Token.Punctuator m.Semicolon) = true
is_end (Token.Punctuator m.CloseBrace) = true
is_end _ = false

data Ends : List Placed → Type 0 where
  end : (t : Placed) → is_end t.token ≡ true → Ends (t ∷ [])
  behind : (t : Placed) {ts : List Placed} → Ends ts → Ends (t ∷ ts)

ends_behind : (ts : List Placed) {us : List Placed} → Ends us → Ends (ts ++ us)
ends_behind [] x = x
ends_behind (t ∷ ts) x = behind t (ends_behind ts x)

module _ (limits : Limits) where
  statement_ends : {d : Level} {b : Bool} {ts : List Placed} {x : StatementTree} → IsStatement limits d b ts x → Ends ts
  statement_ends (IsStatement.block (IsBlock.braces {ts = ts} o items to)) = behind _ (ends_behind ts (end _ refl))
  statement_ends IsStatement.empty = end _ refl
  statement_ends (IsStatement.expression {ts = ts} e to) = ends_behind ts (end _ refl)
  statement_ends (IsStatement.only_if {cs = cs} o c to x) = behind _ (behind _ (ends_behind cs (behind _ (statement_ends x))))
  statement_ends (IsStatement.if_else {cs = cs} {ts = ts} o c to x other y) =
      behind _ (behind _ (ends_behind cs (behind _ (ends_behind ts (behind _ (statement_ends y))))))
  statement_ends (IsStatement.while {cs = cs} o c to x) = behind _ (behind _ (ends_behind cs (behind _ (statement_ends x))))
  statement_ends (IsStatement.do_while {ts = ts} {cs = cs} again from o x c to last) = behind _ (ends_behind ts (behind _ (behind _ (ends_behind cs (behind _ (end _ refl))))))
  statement_ends (IsStatement.for {ss = ss} {cs = cs} {us = us} o s c middle u to x) =
      behind _ (behind _ (ends_behind ss (ends_behind cs (behind _ (ends_behind us (behind _ (statement_ends x)))))))
  statement_ends IsStatement.break = behind _ (end _ refl)
  statement_ends IsStatement.continue = behind _ (end _ refl)
  statement_ends (IsStatement.return {ts = ts} a to) = behind _ (ends_behind ts (end _ refl))

-- What stands in brackets stands one level deeper.
abbrev Inside : ℕ → ExpressionTree → Type 0
Inside d a = (ts : List Placed) × (d < 200) × IsExpression within_limits (suc d) ts a

primary_inside : {d : ℕ} {ts : List Placed} {k : At} {a : ExpressionTree} → IsPrimary within_limits d ts (ExpressionTree.Parenthesized k a) → Inside d a
primary_inside (IsPrimary.parenthesized {ts = ts} o x to) = (ts, o refl, x)

postfix_inside : {d : ℕ} {ts : List Placed} {k : At} {a : ExpressionTree} → IsPostfix within_limits d ts (ExpressionTree.Parenthesized k a) → Inside d a
postfix_inside (IsPostfix.primary x) = primary_inside x

unary_inside : {d : ℕ} {ts : List Placed} {k : At} {a : ExpressionTree} → IsUnary within_limits d ts (ExpressionTree.Parenthesized k a) → Inside d a
unary_inside (IsUnary.postfix x) = postfix_inside x

cast_inside : {d : ℕ} {ts : List Placed} {k : At} {a : ExpressionTree} → IsCast within_limits d ts (ExpressionTree.Parenthesized k a) → Inside d a
cast_inside (IsCast.unary x) = unary_inside x

binary_inside : {n d : ℕ} {ts : List Placed} {k : At} {a : ExpressionTree} → IsBinary within_limits n d ts (ExpressionTree.Parenthesized k a) → Inside d a
binary_inside (IsBinary.operand x) = cast_inside x
binary_inside (IsBinary.stronger x) = binary_inside x

conditional_inside : {d : ℕ} {ts : List Placed} {k : At} {a : ExpressionTree} → IsConditional within_limits d ts (ExpressionTree.Parenthesized k a) → Inside d a
conditional_inside (IsConditional.binary x) = binary_inside x

assignment_inside : {d : ℕ} {ts : List Placed} {k : At} {a : ExpressionTree} → IsAssignment within_limits d ts (ExpressionTree.Parenthesized k a) → Inside d a
assignment_inside (IsAssignment.conditional x) = conditional_inside x

expression_inside : {d : ℕ} {ts : List Placed} {k : At} {a : ExpressionTree} → IsExpression within_limits d ts (ExpressionTree.Parenthesized k a) → Inside d a
expression_inside (IsExpression.assignment x) = assignment_inside x

levels : (k d : ℕ) (ts : List Placed) → d ≤ 200 → IsExpression within_limits d ts (brackets_tree k) → k + d ≤ 200
levels zero d ts h x = omega arith
levels (suc k) d ts h x = let (us, o, y) = expression_inside x in let i : k + suc d ≤ 200 = levels k (suc d) us (omega arith) y in omega arith

deep : (k d : ℕ) → IsExpression without_limits d (brackets_text k) (brackets_tree k)
deep zero d = expression without_limits (primary without_limits IsPrimary.name)
deep (suc k) d = expression without_limits (primary without_limits (IsPrimary.parenthesized (λ h. absurd (false≢true h)) (deep k (suc d)) (at 0)))

pub nothing_derives : NothingDerives
nothing_derives = record {
  semicolon = λ unit x. no_semicolon (file_begins without_limits x);
  unended = λ b statement x. no_end refl (statement_ends without_limits x);
  too_deep = λ k h text x. let e : k + 0 ≤ 200 = levels k 0 text (omega arith) x in omega arith;
  deep_without_limits = λ k. deep k outermost;
}
  where
    no_semicolon : (placed (Token.Punctuator m.Semicolon ∷ []) ≡ []) ⊎ (false ≡ true) → ⊥
    no_semicolon (inl h) = cc
    no_semicolon (inr h) = cc

    no_end : {t u : Placed} → is_end u.token ≡ false → Ends (t ∷ u ∷ []) → ⊥
    no_end e (behind t (end u h)) = cc
    no_end e (behind t (behind u x)) = elim x [ ]
