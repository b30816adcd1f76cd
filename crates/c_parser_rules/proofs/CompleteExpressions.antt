-- What the grammar of expressions derives is read.
use Rattle.std.proofs.Common.{◌≡◌, ℕ, zero, suc, ◌<◌, ◌+◌, Bool, true, false, cond, List, [], ◌∷◌, ◌++◌, Option, Some, None, refl, sym, ap, ◌∙◌, subst, append_assoc, arith}
use Rattle.std.proofs.lemmas.Bool.{false≢true}
use Rattle.c_words.specs.Tokens.{Token, Placed}
use Rattle.c_words.specs.declared.place.At.{At}
use Rattle.c_words.specs.declared.words.Keyword.TheVariants as w
use Rattle.c_words.specs.declared.words.Punctuator.{Punctuator}
use Rattle.c_words.specs.declared.words.Punctuator.TheVariants as m
use Rattle.c_words.specs.declared.operators.UnaryOperator.{UnaryOperator}
use Rattle.c_words.specs.declared.operators.StepOperator.{StepOperator}
use Rattle.c_words.specs.declared.operators.BinaryOperator.{BinaryOperator}
use Rattle.c_words.specs.declared.operators.AssignOperator.{AssignOperator}
use Rattle.syntax_tree.specs.declared.syntax.specifiers.Specifier.{Specifier}
use Rattle.syntax_tree.specs.declared.syntax.specifiers.Specifier.TheVariants as s
use Rattle.syntax_tree.specs.Syntax.{ExpressionTree, ExpressionTrees, TypeNameTree, TypeDeclaratorTree}
use Rattle.syntax_tree.specs.GrammarLimits.{Limits, Level, Opens, IsLow}
use Rattle.syntax_tree.specs.GrammarTokens.{mark, identifier, AreStrings, binary_operator, assign_operator, unary_operator, step_operator}
use Rattle.syntax_tree.specs.GrammarExpressions.{IsSpecifier, AreStars, IsExpression, IsAssignment, IsConditional, IsBinary, IsCast, IsUnary, IsPostfix, IsPrimary, AreArguments, AreListed, IsTypeName, IsTypeDeclarator, AreSizes}
use Rattle.c_parser_rules.specs.Programs.{Sort, Rule, Program, Outcome}
use Rattle.c_parser_rules.specs.Tests.{first, is_comma, is_question, is_star, is_int, is_open_paren, is_close_paren, is_open_bracket, begins_expression, begins_specifier, at_strength, with_mark, operator, assigns, opens, is_low}
use Rattle.c_parser_rules.specs.Bodies.{body, reads, strings_by, unsigned_by, assign_by, binary_by, cast_by, sizeof_by, unary_mark, unary_by, postfix_by, is_nothing}
use Rattle.c_parser_rules.specs.Runs.{Runs}
use Rattle.c_parser_rules.proofs.RunsLaws.{came, Called}
use Rattle.c_parser_rules.proofs.CompleteSteps as c
use Rattle.c_parser_rules.proofs.Follow as f
use Rattle.c_parser_rules.proofs.Follow.{level, is_text}

-- a token that an expression begins with, and no operator before an operand
abbrev pub is_plain : Option Token → Bool
is_plain (Some (Token.Name x)) = true
is_plain (Some (Token.Number n u)) = true
is_plain (Some (Token.Character n)) = true
is_plain (Some (Token.StringLiteral b)) = true
is_plain (Some (Token.Keyword w.Null)) = true
is_plain (Some (Token.Keyword w.Eof)) = true
is_plain _ = false

unary_plain : (d : Level) (c : Option Token) → is_plain c ≡ true → unary_by d c ≡ reads (Rule.postfix d)
unary_plain d (Some (Token.Name x)) h = refl
unary_plain d (Some (Token.Number n u)) h = refl
unary_plain d (Some (Token.Character n)) h = refl
unary_plain d (Some (Token.StringLiteral b)) h = refl
unary_plain d (Some (Token.Keyword w.Null)) h = refl
unary_plain d (Some (Token.Keyword w.Eof)) h = refl
unary_plain d _ h = absurd (false≢true h)

plain_paren : (c : Option Token) → is_plain c ≡ true → is_open_paren c ≡ false
plain_paren (Some (Token.Punctuator m.OpenParen)) h = absurd (false≢true h)
plain_paren _ h = refl

cast_plain : (d : Level) (c : Option Token) → is_open_paren c ≡ false → cast_by d c ≡ reads (Rule.unary d)
cast_plain d (Some (Token.Punctuator m.OpenParen)) h = absurd (false≢true (sym h))
cast_plain d _ h = refl

sizeof_plain : (d : Level) (at : At) (c : Option Token) → is_open_paren c ≡ false
    → sizeof_by d at c ≡ Program.call (Rule.unary (suc d)) (λ a. Program.give (ExpressionTree.SizeofExpression at a))
sizeof_plain d at (Some (Token.Punctuator m.OpenParen)) h = absurd (false≢true (sym h))
sizeof_plain d at _ h = refl

unary_of_step : (d : Level) (p : Punctuator) (op : StepOperator) → step_operator p ≡ Some op → unary_by d (Some (Token.Punctuator p)) ≡ unary_mark d p (Some op) (unary_operator p)
unary_of_step d p op h = ap (λ x. unary_mark d p x (unary_operator p)) h

no_step : (p : Punctuator) (op : UnaryOperator) → unary_operator p ≡ Some op → step_operator p ≡ None
no_step m.PlusPlus op h = absurd (cc)
no_step m.MinusMinus op h = absurd (cc)
no_step _ op h = refl

not_open : (p : Punctuator) (op : StepOperator) → step_operator p ≡ Some op → is_open_paren (Some (Token.Punctuator p)) ≡ false
not_open m.OpenParen op h = absurd (cc)
not_open _ op h = refl

not_open_unary : (p : Punctuator) (op : UnaryOperator) → unary_operator p ≡ Some op → is_open_paren (Some (Token.Punctuator p)) ≡ false
not_open_unary m.OpenParen op h = absurd (cc)
not_open_unary _ op h = refl

unary_of_prefix : (d : Level) (p : Punctuator) (op : UnaryOperator) → unary_operator p ≡ Some op → unary_by d (Some (Token.Punctuator p)) ≡ unary_mark d p None (Some op)
unary_of_prefix d p op h = ap (λ x. unary_mark d p x (unary_operator p)) (no_step p op h) ∙ ap (λ x. unary_mark d p None x) h

some_one : {A : Type 0} {x y : A} → Some x ≡ Some y → x ≡ y
some_one h = cc

postfix_step : (d : Level) (a : ExpressionTree) (p : Punctuator) (op : StepOperator) → step_operator p ≡ Some op
    → postfix_by d a (Some (Token.Punctuator p)) ≡ Program.take (Token.Punctuator p) (is_low a) (λ at. reads (Rule.postfix_rest d (ExpressionTree.StepAfter at a op)))
postfix_step d a m.PlusPlus op h = ap (λ x. Program.take (Token.Punctuator m.PlusPlus) (is_low a) (λ at. reads (Rule.postfix_rest d (ExpressionTree.StepAfter at a x)))) (some_one h)
postfix_step d a m.MinusMinus op h = ap (λ x. Program.take (Token.Punctuator m.MinusMinus) (is_low a) (λ at. reads (Rule.postfix_rest d (ExpressionTree.StepAfter at a x)))) (some_one h)
postfix_step d a _ op h = absurd (cc)

module _ (g : Limits) where
  comma_over : (d : Level) (a : ExpressionTree) (rest : List Placed) → 13 < level (first rest) → Runs g _ (body (Rule.comma_rest d a)) rest (Outcome.read a rest)
  comma_over d a rest l = c.no_ g is_comma _ _ (f.no_comma (first rest) l) Runs.give

  postfix_over : (d : Level) (a : ExpressionTree) (rest : List Placed) → 0 < level (first rest) → Runs g _ (body (Rule.postfix_rest d a)) rest (Outcome.read a rest)
  postfix_over d a rest l = c.looked g (postfix_by d a) _ (f.no_postfix d a (first rest) l) Runs.give

  binary_over : (k : ℕ) (d : Level) (a : ExpressionTree) (rest : List Placed) → suc k < level (first rest) → Runs g _ (body (Rule.binary_rest k d a)) rest (Outcome.read a rest)
  binary_over k d a rest l = Runs.look (subst (λ x. Runs g _ (binary_by k d a x) rest (Outcome.read a rest)) (sym (f.no_operator (suc k) (first rest) l)) Runs.give)

  -- how an expression that begins with a primary is read, to the end of its postfix operators
  data PostRun (d : Level) (all : List Placed) (y : ExpressionTree) (us : List Placed) : Type 0 where
    plain : is_plain (first all) ≡ true → Runs g Sort.expression (body (Rule.postfix d)) all (Outcome.read y us) → PostRun d all y us
    parens : (at : At) (ls : List Placed) → all ≡ mark m.OpenParen at ∷ ls → (g at ≡ true → opens d ≡ true) → begins_specifier (first ls) ≡ false
        → Runs g Sort.expression (Program.call (Rule.parenthesized d at) (λ b. reads (Rule.postfix_rest d b))) ls (Outcome.read y us) → PostRun d all y us

  data UnaryRun (d : Level) (all : List Placed) (y : ExpressionTree) (us : List Placed) : Type 0 where
    plain : is_open_paren (first all) ≡ false → Runs g Sort.expression (body (Rule.unary d)) all (Outcome.read y us) → UnaryRun d all y us
    parens : (at : At) (ls : List Placed) → all ≡ mark m.OpenParen at ∷ ls → (g at ≡ true → opens d ≡ true) → begins_specifier (first ls) ≡ false
        → Runs g Sort.expression (Program.call (Rule.parenthesized d at) (λ b. reads (Rule.postfix_rest d b))) ls (Outcome.read y us) → UnaryRun d all y us

  post_unary : (d : Level) (all : List Placed) (y : ExpressionTree) (us : List Placed) → PostRun d all y us → UnaryRun d all y us
  post_unary d all y us (PostRun.plain is r) = UnaryRun.plain (plain_paren (first all) is) (c.looked g (unary_by d) _ (unary_plain d (first all) is) (c.reads_ g r))
  post_unary d all y us (PostRun.parens at ls e ok no_word r) = UnaryRun.parens at ls e ok no_word r

  from_parens : (d : Level) (at : At) (ls : List Placed) (y : ExpressionTree) (us : List Placed) → (g at ≡ true → opens d ≡ true)
      → Runs g Sort.expression (Program.call (Rule.parenthesized d at) (λ b. reads (Rule.postfix_rest d b))) ls (Outcome.read y us)
      → Runs g Sort.expression (body (Rule.postfix d)) (mark m.OpenParen at ∷ ls) (Outcome.read y us)
  from_parens d at ls y us ok r = elim (came g _ _ _ _ r) [
    | Called.called x vs a n ↦ Runs.call (Runs.look (Runs.take ok (c.reads_ g a))) n
    | Called.failed why vs a e ↦ absurd (cc)
  ]

  unary_run : (d : Level) (all : List Placed) (y : ExpressionTree) (us : List Placed) → UnaryRun d all y us → Runs g Sort.expression (body (Rule.unary d)) all (Outcome.read y us)
  unary_run d all y us (UnaryRun.plain is r) = r
  unary_run d all y us (UnaryRun.parens at ls e ok no_word r) = rw e (Runs.look (c.reads_ g (from_parens d at ls y us ok r)))

  cast_run : (d : Level) (all : List Placed) (y : ExpressionTree) (us : List Placed) → UnaryRun d all y us → Runs g Sort.expression (body (Rule.cast d)) all (Outcome.read y us)
  cast_run d all y us (UnaryRun.plain is r) = c.looked g (cast_by d) _ (cast_plain d (first all) is) (c.reads_ g r)
  cast_run d all y us (UnaryRun.parens at ls e ok no_word r) = rw e (Runs.look (Runs.take ok (c.no_ g begins_specifier _ _ no_word r)))

  sizeof_parens : (d : Level) (at from : At) (ls : List Placed) (y : ExpressionTree) (us : List Placed)
      → Runs g Sort.expression (Program.call (Rule.parenthesized d from) (λ b. reads (Rule.postfix_rest d b))) ls (Outcome.read y us)
      → Runs g Sort.expression (Program.call (Rule.parenthesized d from) (λ a. Program.call (Rule.postfix_rest d a) (λ b. Program.give (ExpressionTree.SizeofExpression at b)))) ls
      (Outcome.read (ExpressionTree.SizeofExpression at y) us)
  sizeof_parens d at from ls y us r = elim (came g _ _ _ _ r) [
    | Called.called x vs a n ↦ Runs.call a (Runs.call (c.unreads g n) Runs.give)
    | Called.failed why vs a e ↦ absurd (cc)
  ]

  sizeof_run : (d : Level) (at : At) (all : List Placed) (y : ExpressionTree) (us : List Placed) → UnaryRun (suc d) all y us
      → Runs g Sort.expression (Program.look (sizeof_by d at)) all (Outcome.read (ExpressionTree.SizeofExpression at y) us)
  sizeof_run d at all y us (UnaryRun.plain is r) = c.looked g (sizeof_by d at) _ (sizeof_plain d at (first all) is) (Runs.call r Runs.give)
  sizeof_run d at all y us (UnaryRun.parens from ls e ok no_word r) =
      rw e (Runs.look (Runs.take ok (c.no_ g begins_specifier _ _ no_word (sizeof_parens (suc d) at from ls y us r))))

  -- ---- strings, names and specifiers
  strings_over : (rest : List Placed) → is_text (first rest) ≡ false → Runs g Sort.pieces (body Rule.strings) rest (Outcome.read [] rest)
  strings_over rest h = c.looked g strings_by _ (f.no_strings (first rest) h) Runs.give

  strings_read : {at : At} {ts : List Placed} {pieces : List (List ℕ)} → AreStrings at ts pieces → (rest : List Placed) → is_text (first rest) ≡ false
      → Runs g Sort.pieces (body Rule.strings) (ts ++ rest) (Outcome.read pieces rest)
  strings_read AreStrings.one rest h = Runs.look (Runs.take (λ k. refl) (Runs.call (strings_over rest h) Runs.give))
  strings_read (AreStrings.another x) rest h = Runs.look (Runs.take (λ k. refl) (Runs.call (strings_read x rest h) Runs.give))

  text_read : (d : Level) {at : At} {ts : List Placed} {pieces : List (List ℕ)} → AreStrings at ts pieces → (rest : List Placed) → is_text (first rest) ≡ false
      → (is_plain (first (ts ++ rest)) ≡ true) × Runs g Sort.expression (body (Rule.primary d)) (ts ++ rest) (Outcome.read (ExpressionTree.Text at pieces) rest)
  text_read d AreStrings.one rest h = (refl, Runs.look (Runs.take (λ k. refl) (Runs.call (strings_over rest h) Runs.give)))
  text_read d (AreStrings.another x) rest h = (refl, Runs.look (Runs.take (λ k. refl) (Runs.call (strings_read x rest h) Runs.give)))

  pub identifier_read : (x : List ℕ) (at : At) (rest : List Placed) → Runs g Sort.identifier (body Rule.identifier) (identifier x at ∷ rest) (Outcome.read (x, at) rest)
  identifier_read x at rest = Runs.look (Runs.take (λ k. refl) Runs.give)

  not_int : (x : Option Token) → begins_specifier x ≡ false → is_int x ≡ false
  not_int (Some (Token.Keyword w.Int)) h = absurd (false≢true (sym h))
  not_int _ h = refl

  not_unsigned : (at : At) (x : Option Token) → begins_specifier x ≡ false → unsigned_by at x ≡ Program.give (s.Unsigned at)
  not_unsigned at (Some (Token.Keyword w.Int)) h = absurd (false≢true (sym h))
  not_unsigned at (Some (Token.Keyword w.Char)) h = absurd (false≢true (sym h))
  not_unsigned at _ h = refl

  pub specifier_read : {ts : List Placed} {x : Specifier} → IsSpecifier ts x → (rest : List Placed) → begins_specifier (first rest) ≡ false
      → Runs g Sort.specifier (body Rule.specifier) (ts ++ rest) (Outcome.read x rest)
  specifier_read IsSpecifier.void rest h = Runs.look (Runs.take (λ k. refl) Runs.give)
  specifier_read IsSpecifier.char rest h = Runs.look (Runs.take (λ k. refl) Runs.give)
  specifier_read IsSpecifier.int rest h = Runs.look (Runs.take (λ k. refl) Runs.give)
  specifier_read IsSpecifier.signed rest h = Runs.look (Runs.take (λ k. refl) (c.no_ g is_int _ _ (not_int (first rest) h) Runs.give))
  specifier_read IsSpecifier.signed_int rest h = Runs.look (Runs.take (λ k. refl) (c.yes_ g is_int _ _ refl (Runs.take (λ k. refl) Runs.give)))
  specifier_read (IsSpecifier.unsigned {at = at}) rest h = Runs.look (Runs.take (λ k. refl) (c.looked g (unsigned_by at) _ (not_unsigned at (first rest) h) Runs.give))
  specifier_read IsSpecifier.unsigned_int rest h = Runs.look (Runs.take (λ k. refl) (Runs.look (Runs.take (λ k. refl) Runs.give)))
  specifier_read IsSpecifier.unsigned_char rest h = Runs.look (Runs.take (λ k. refl) (Runs.look (Runs.take (λ k. refl) Runs.give)))
  specifier_read (IsSpecifier.struct {next = next} {tag = tag}) rest h = Runs.look (Runs.take (λ k. refl) (Runs.call (identifier_read tag next rest) Runs.give))

  pub specifier_first : {ts : List Placed} {x : Specifier} → IsSpecifier ts x → (rest : List Placed) → begins_specifier (first (ts ++ rest)) ≡ true
  specifier_first IsSpecifier.void rest = refl
  specifier_first IsSpecifier.char rest = refl
  specifier_first IsSpecifier.int rest = refl
  specifier_first IsSpecifier.signed rest = refl
  specifier_first IsSpecifier.signed_int rest = refl
  specifier_first IsSpecifier.unsigned rest = refl
  specifier_first IsSpecifier.unsigned_int rest = refl
  specifier_first IsSpecifier.unsigned_char rest = refl
  specifier_first IsSpecifier.struct rest = refl

  -- ---- stars
  pub stars_deep : {d e : Level} {ts : List Placed} {n : ℕ} → AreStars g d e ts n → e ≡ d + n
  stars_deep AreStars.no_star = omega arith
  stars_deep (AreStars.star o x) = let h = stars_deep x in omega arith

  pub stars_read : {d e : Level} {ts : List Placed} {n : ℕ} → AreStars g d e ts n → (rest : List Placed) → is_star (first rest) ≡ false
      → Runs g Sort.count (body (Rule.stars d)) (ts ++ rest) (Outcome.read n rest)
  stars_read AreStars.no_star rest h = c.no_ g is_star _ _ h Runs.give
  stars_read (AreStars.star {d = d} {at = at} o x) rest h = c.yes_ g is_star _ _ refl (Runs.take (c.ok g at d o) (Runs.call (stars_read x rest h) Runs.give))

  -- how a binary expression is read: its last operand, and then what follows
  abbrev BinaryReads : ℕ → Level → List Placed → ExpressionTree → Type 0
  BinaryReads zero d ls a = (rest : List Placed) → 0 < level (first rest) → Runs g Sort.expression (body (Rule.binary zero d)) (ls ++ rest) (Outcome.read a rest)
  BinaryReads (suc k) d ls a = (rest : List Placed) (y : ExpressionTree) (us : List Placed) → k < level (first rest)
      → Runs g Sort.expression (body (Rule.binary_rest k d a)) rest (Outcome.read y us)
      → Runs g Sort.expression (body (Rule.binary (suc k) d)) (ls ++ rest) (Outcome.read y us)

  binary_read : (k : ℕ) (d : Level) (ls : List Placed) (a : ExpressionTree) → BinaryReads k d ls a → (rest : List Placed) → k < level (first rest)
      → Runs g Sort.expression (body (Rule.binary k d)) (ls ++ rest) (Outcome.read a rest)
  binary_read zero d ls a h rest l = h rest l
  binary_read (suc k) d ls a h rest l = h rest a rest (omega arith) (binary_over k d a rest l)

  stronger_read : (k : ℕ) (d : Level) (ls : List Placed) (a : ExpressionTree) → BinaryReads k d ls a → BinaryReads (suc k) d ls a
  stronger_read k d ls a h = λ rest y us l r. Runs.call (binary_read k d ls a h rest l) (c.reads_ g r)

  joined_read : (k : ℕ) (d : Level) (ls rs : List Placed) (a b : ExpressionTree) (op : BinaryOperator) (at : At) (p : Punctuator) → BinaryReads (suc k) d ls a → IsLow g at a
      → binary_operator p ≡ Some (suc k, op) → BinaryReads k d rs b → BinaryReads (suc k) d (ls ++ (mark p at ∷ rs)) (ExpressionTree.Binary at a op b)
  joined_read k d ls rs a b op at p h low is i = λ rest y us l r.
      let found : operator (suc k) (Some (Token.Punctuator p)) ≡ Some (p, op) = ap (at_strength (suc k) p) is ∙ f.same_strength (suc k) p op in
      let deep : level (Some (Token.Punctuator p)) ≡ suc k = f.level_of p (suc k) op is in
      let step : Runs g Sort.expression (body (Rule.binary_rest k d a)) (mark p at ∷ (rs ++ rest)) (Outcome.read y us) =
      Runs.look (subst (λ x. Runs g Sort.expression (binary_by k d a x) (mark p at ∷ (rs ++ rest)) (Outcome.read y us)) (sym found)
      (Runs.take (c.low g at a low) (Runs.call (binary_read k d rs b i rest l) (c.reads_ g r)))) in
      rw append_assoc (h (mark p at ∷ (rs ++ rest)) y us (omega arith) step)

  assign_read : (d : Level) (ls rs : List Placed) (a b : ExpressionTree) (op : AssignOperator) (at : At) (p : Punctuator) (rest : List Placed)
      → Runs g Sort.expression (body (Rule.conditional d)) (ls ++ (mark p at ∷ (rs ++ rest))) (Outcome.read a (mark p at ∷ (rs ++ rest)))
      → IsLow g at a → assign_operator p ≡ Some op → Opens g at d → Runs g Sort.expression (body (Rule.assignment (suc d))) (rs ++ rest) (Outcome.read b rest)
      → Runs g Sort.expression (body (Rule.assignment d)) ((ls ++ (mark p at ∷ rs)) ++ rest) (Outcome.read (ExpressionTree.Assign at a op b) rest)
  assign_read d ls rs a b op at p rest h low is o i =
      let found : assigns (Some (Token.Punctuator p)) ≡ Some (p, op) = ap (with_mark p) is in
      rw append_assoc (Runs.call h (Runs.look (subst (λ x. Runs g Sort.expression (assign_by d a x) (mark p at ∷ (rs ++ rest)) (Outcome.read (ExpressionTree.Assign at a op b) rest)) (sym found)
      (Runs.take (c.low_ok g at a d low o) (Runs.call i Runs.give)))))

  type_first : {d : Level} {ts : List Placed} {t : TypeNameTree} → IsTypeName g d ts t → (rest : List Placed) → begins_specifier (first (ts ++ rest)) ≡ true
  type_first (IsTypeName.type_name {ss = ss} {ts = ts} x y) rest = rw append_assoc (specifier_first x (ts ++ rest))

  -- what brackets of a type hold is something
  sizes_nothing : {d : Level} {ts : List Placed} {xs : ExpressionTrees} (n : ℕ) (at : At) → AreSizes g d ts xs → is_nothing (TypeDeclaratorTree.Direct at n xs) ≡ true → (ts ≡ []) × (n ≡ 0)
  sizes_nothing zero at AreSizes.no_size h = (refl, refl)
  sizes_nothing zero at (AreSizes.size o x to xs) h = absurd (false≢true h)
  sizes_nothing (suc n) at AreSizes.no_size h = absurd (false≢true h)
  sizes_nothing (suc n) at (AreSizes.size o x to xs) h = absurd (false≢true h)

  no_stars : {d e : Level} {ts : List Placed} {n : ℕ} → AreStars g d e ts n → n ≡ 0 → ts ≡ []
  no_stars AreStars.no_star h = refl
  no_stars (AreStars.star o x) h = absurd (omega arith)

  is_something : {d : Level} {at : At} {ts : List Placed} {t : TypeDeclaratorTree} → IsTypeDeclarator g d at ts t → (is_nothing t ≡ true → ts ≡ [])
  is_something (IsTypeDeclarator.direct {at = at} {ss = ss} {n = n} {ts = ts} x y) h =
      let i = sizes_nothing n at y h in let j = no_stars x i.1 in rw (i.0, j) refl
  is_something (IsTypeDeclarator.nested x from o y to z) h = absurd (false≢true h)

  not_nothing : (b : Bool) (q : Placed) (us : List Placed) → (b ≡ true → q ∷ us ≡ []) → b ≡ false
  not_nothing true q us h = absurd (let e = h refl in (cc))
  not_nothing false q us h = refl

  -- what follows the stars of a type
  behind_stars : {d : Level} {ts : List Placed} {xs : ExpressionTrees} → AreSizes g d ts xs → (rest : List Placed) → is_close_paren (first rest) ≡ true
      → (is_star (first (ts ++ rest)) ≡ false) × (is_open_paren (first (ts ++ rest)) ≡ false)
  behind_stars AreSizes.no_size rest h = by (first rest) h
    where
      by : (x : Option Token) → is_close_paren x ≡ true → (is_star x ≡ false) × (is_open_paren x ≡ false)
      by (Some (Token.Punctuator m.Star)) h = absurd (false≢true h)
      by (Some (Token.Punctuator m.OpenParen)) h = absurd (false≢true h)
      by _ h = (refl, refl)
  behind_stars (AreSizes.size o x to xs) rest h = (refl, refl)

  no_size_behind : (x : Option Token) → is_close_paren x ≡ true → is_open_bracket x ≡ false
  no_size_behind (Some (Token.Punctuator m.OpenBracket)) h = absurd (false≢true h)
  no_size_behind _ h = refl

  close_word : (x : Option Token) → is_close_paren x ≡ true → begins_specifier x ≡ false
  close_word None h = refl
  close_word (Some (Token.Punctuator p)) h = refl
  close_word (Some (Token.Keyword r)) h = absurd (false≢true h)
  close_word (Some _) h = refl

  declarator_word : {d : Level} {at : At} {ts : List Placed} {t : TypeDeclaratorTree} → IsTypeDeclarator g d at ts t → (rest : List Placed) → is_close_paren (first rest) ≡ true
      → begins_specifier (first (ts ++ rest)) ≡ false
  declarator_word (IsTypeDeclarator.direct AreStars.no_star AreSizes.no_size) rest h = close_word (first rest) h
  declarator_word (IsTypeDeclarator.direct AreStars.no_star (AreSizes.size o x to xs)) rest h = refl
  declarator_word (IsTypeDeclarator.direct (AreStars.star o x) y) rest h = refl
  declarator_word (IsTypeDeclarator.nested AreStars.no_star from o y to z) rest h = refl
  declarator_word (IsTypeDeclarator.nested (AreStars.star p x) from o y to z) rest h = refl

  type_declarator_direct : (d e : Level) (at : At) (ss ts rest : List Placed) (n : ℕ) (xs : ExpressionTrees) → AreStars g d e ss n → AreSizes g e ts xs → is_close_paren (first rest) ≡ true
      → Runs g Sort.expressions (body (Rule.sizes e)) (ts ++ rest) (Outcome.read xs rest)
      → Runs g Sort.type_declarator (body (Rule.type_declarator d at)) ((ss ++ ts) ++ rest) (Outcome.read (TypeDeclaratorTree.Direct at n xs) rest)
  type_declarator_direct d e at ss ts rest n xs x y h r =
      let b = behind_stars y rest h in
      rw append_assoc (Runs.call (stars_read x (ts ++ rest) b.0) (c.no_ g is_open_paren _ _ b.1
      (Runs.call (subst (λ z. Runs g Sort.expressions (body (Rule.sizes z)) (ts ++ rest) (Outcome.read xs rest)) (stars_deep x) r) Runs.give)))

  inner_ends : (e : Level) (at to : At) (ts rest : List Placed) (n : ℕ) (inner : TypeDeclaratorTree) (xs : ExpressionTrees) → is_nothing inner ≡ false
      → Runs g Sort.expressions (body (Rule.sizes e)) (ts ++ rest) (Outcome.read xs rest)
      → Runs g Sort.type_declarator (cond (is_nothing inner) Program.refuse (Program.take (Token.Punctuator m.CloseParen) true (λ to. Program.call (Rule.sizes e) (λ sizes. Program.give (TypeDeclaratorTree.Nested at n inner sizes)))))
      (mark m.CloseParen to ∷ (ts ++ rest)) (Outcome.read (TypeDeclaratorTree.Nested at n inner xs) rest)
  inner_ends e at to ts rest n inner xs some r = rw some (Runs.take (λ k. refl) (Runs.call r Runs.give))

  type_declarator_nested : (d e : Level) (at from to : At) (ss ts us rest : List Placed) (n : ℕ) (inner : TypeDeclaratorTree) (xs : ExpressionTrees) → AreStars g d e ss n → Opens g from e
      → is_nothing inner ≡ false
      → Runs g Sort.type_declarator (body (Rule.type_declarator (suc e) at)) (us ++ (mark m.CloseParen to ∷ (ts ++ rest))) (Outcome.read inner (mark m.CloseParen to ∷ (ts ++ rest)))
      → Runs g Sort.expressions (body (Rule.sizes e)) (ts ++ rest) (Outcome.read xs rest)
      → Runs g Sort.type_declarator (body (Rule.type_declarator d at)) ((ss ++ (mark m.OpenParen from ∷ (us ++ (mark m.CloseParen to ∷ ts)))) ++ rest) (Outcome.read (TypeDeclaratorTree.Nested at n inner xs) rest)
  type_declarator_nested d e at from to ss ts us rest n inner xs x o some i r =
      let deep = stars_deep x in
      let i' = subst (λ z. Runs g Sort.type_declarator (body (Rule.type_declarator (suc z) at)) (us ++ (mark m.CloseParen to ∷ (ts ++ rest))) (Outcome.read inner (mark m.CloseParen to ∷ (ts ++ rest)))) deep i in
      let r' = subst (λ z. Runs g Sort.expressions (body (Rule.sizes z)) (ts ++ rest) (Outcome.read xs rest)) deep r in
      let o' = subst (λ z. Opens g from z) deep o in
      rw (append_assoc, append_assoc) (Runs.call (stars_read x (mark m.OpenParen from ∷ (us ++ (mark m.CloseParen to ∷ (ts ++ rest)))) refl)
      (c.yes_ g is_open_paren _ _ refl (Runs.take (c.ok g from (d + n) o') (Runs.call i'
      (inner_ends (d + n) at to ts rest n inner xs some r')))))

  -- behind an operand: one operator, and what follows
  post_more : (d : Level) (ls us rest : List Placed) (y : ExpressionTree) (vs : List Placed) → PostRun d (ls ++ (us ++ rest)) y vs → PostRun d ((ls ++ us) ++ rest) y vs
  post_more d ls us rest y vs h = rw append_assoc h

  post_bracket : (d : Level) (ls us rest : List Placed) (from to : Placed) (y : ExpressionTree) (vs : List Placed) → PostRun d (ls ++ (from ∷ (us ++ (to ∷ rest)))) y vs
      → PostRun d ((ls ++ (from ∷ (us ++ (to ∷ [])))) ++ rest) y vs
  post_bracket d ls us rest from to y vs h = rw (append_assoc, append_assoc) h

  not_close : (x : Token) → begins_expression x ≡ true → is_close_paren (Some x) ≡ false
  not_close (Token.Punctuator m.CloseParen) h = absurd (false≢true h)
  not_close _ h = refl

  mutual
    read_expression : {d : Level} {ts : List Placed} {a : ExpressionTree} → IsExpression g d ts a → (rest : List Placed) (y : ExpressionTree) (us : List Placed) → 12 < level (first rest)
        → Runs g Sort.expression (body (Rule.comma_rest d a)) rest (Outcome.read y us) → Runs g Sort.expression (body (Rule.expression d)) (ts ++ rest) (Outcome.read y us)
    read_expression (IsExpression.assignment x) rest y us l r = Runs.call (read_assignment x rest l) (c.reads_ g r)
    read_expression (IsExpression.comma {ls = ls} {a = a} {at = at} {rs = rs} x low z) rest y us l r =
        rw append_assoc (read_expression x (mark m.Comma at ∷ (rs ++ rest)) y us (omega arith)
        (c.yes_ g is_comma _ _ refl (Runs.take (c.low g at a low) (Runs.call (read_assignment z rest l) (c.reads_ g r)))))

    read_assignment : {d : Level} {ts : List Placed} {a : ExpressionTree} → IsAssignment g d ts a → (rest : List Placed) → 12 < level (first rest)
        → Runs g Sort.expression (body (Rule.assignment d)) (ts ++ rest) (Outcome.read a rest)
    read_assignment (IsAssignment.conditional {d = d} {a = a} x) rest l =
        Runs.call (read_conditional x rest (omega arith)) (Runs.look (subst (λ z. Runs g Sort.expression (assign_by d a z) rest (Outcome.read a rest)) (sym (f.no_assign (first rest) l)) Runs.give))
    read_assignment (IsAssignment.assign {d = d} {ls = ls} {a = a} {op = op} {at = at} {rs = rs} {b = b} x low p is o z) rest l =
        let deep = f.level_of_assign p op is in
        assign_read d ls rs a b op at p rest (read_conditional x (mark p at ∷ (rs ++ rest)) (omega arith)) low is o (read_assignment z rest l)

    read_conditional : {d : Level} {ts : List Placed} {a : ExpressionTree} → IsConditional g d ts a → (rest : List Placed) → 11 < level (first rest)
        → Runs g Sort.expression (body (Rule.conditional d)) (ts ++ rest) (Outcome.read a rest)
    read_conditional (IsConditional.binary {d = d} {ts = ts} {a = a} x) rest l =
        Runs.call (binary_read 10 d ts a (read_binary x) rest (omega arith)) (c.no_ g is_question _ _ (f.no_question (first rest) l) Runs.give)
    read_conditional (IsConditional.choice {d = d} {cs = cs} {a = a} {at = at} {ts = ts} {b = b} {us = us} x low o y colon z) rest l =
        rw (append_assoc, append_assoc) (Runs.call (binary_read 10 d cs a (read_binary x) (mark m.Question at ∷ (ts ++ (mark m.Colon colon ∷ (us ++ rest)))) (omega arith))
        (c.yes_ g is_question _ _ refl (Runs.take (c.low_ok g at a d low o)
        (Runs.call (read_expression y (mark m.Colon colon ∷ (us ++ rest)) b (mark m.Colon colon ∷ (us ++ rest)) (omega arith) (comma_over (suc d) b (mark m.Colon colon ∷ (us ++ rest)) (omega arith)))
        (Runs.take (λ k. refl) (Runs.call (read_conditional z rest l) Runs.give))))))

    read_binary : {k : ℕ} {d : Level} {ts : List Placed} {a : ExpressionTree} → IsBinary g k d ts a → BinaryReads k d ts a
    read_binary (IsBinary.operand x) = λ rest l. c.reads_ g (read_cast x rest l)
    read_binary (IsBinary.stronger {k = k} {d = d} {ts = ts} {a = a} x) = stronger_read k d ts a (read_binary x)
    read_binary (IsBinary.joined {k = k} {d = d} {ls = ls} {a = a} {op = op} {at = at} {rs = rs} {b = b} x low p is y) = joined_read k d ls rs a b op at p (read_binary x) low is (read_binary y)

    read_cast : {d : Level} {ts : List Placed} {a : ExpressionTree} → IsCast g d ts a → (rest : List Placed) → 0 < level (first rest)
        → Runs g Sort.expression (body (Rule.cast d)) (ts ++ rest) (Outcome.read a rest)
    read_cast (IsCast.unary {d = d} {ts = ts} {a = a} x) rest l = cast_run d (ts ++ rest) a rest (read_unary x rest l)
    read_cast (IsCast.cast {d = d} {at = at} {ts = ts} {us = us} o t to x) rest l =
        rw append_assoc (Runs.look (Runs.take (c.ok g at d o) (c.yes_ g begins_specifier _ _ (type_first t (mark m.CloseParen to ∷ (us ++ rest)))
        (Runs.call (read_type_name t (mark m.CloseParen to ∷ (us ++ rest)) refl) (Runs.take (λ k. refl) (Runs.call (read_cast x rest l) Runs.give))))))

    read_unary : {d : Level} {ts : List Placed} {a : ExpressionTree} → IsUnary g d ts a → (rest : List Placed) → 0 < level (first rest) → UnaryRun d (ts ++ rest) a rest
    read_unary (IsUnary.postfix {d = d} {ts = ts} {a = a} x) rest l =
        post_unary d (ts ++ rest) a rest (read_postfix x rest a rest (f.no_text (first rest) l) (postfix_over d a rest l))
    read_unary (IsUnary.step_before {d = d} {p = p} {op = op} {at = at} {ts = ts} {a = a} is o x) rest l =
        UnaryRun.plain (not_open p op is) (c.looked g (unary_by d) _ (unary_of_step d p op is)
        (Runs.take (c.ok g at d o) (Runs.call (unary_run (suc d) (ts ++ rest) a rest (read_unary x rest l)) Runs.give)))
    read_unary (IsUnary.prefix {d = d} {p = p} {op = op} {at = at} {ts = ts} {a = a} is o x) rest l =
        UnaryRun.plain (not_open_unary p op is) (c.looked g (unary_by d) _ (unary_of_prefix d p op is)
        (Runs.take (c.ok g at d o) (Runs.call (read_cast x rest l) Runs.give)))
    read_unary (IsUnary.sizeof_type {d = d} {at = at} {from = from} {ts = ts} o p t to) rest l =
        UnaryRun.plain refl (rw append_assoc (Runs.look (Runs.take (c.ok g at d o) (Runs.look (Runs.take (c.ok g from (suc d) p)
        (c.yes_ g begins_specifier _ _ (type_first t (mark m.CloseParen to ∷ rest)) (Runs.call (read_type_name t (mark m.CloseParen to ∷ rest) refl) (Runs.take (λ k. refl) Runs.give))))))))
    read_unary (IsUnary.sizeof_expression {d = d} {at = at} {ts = ts} {a = a} o x) rest l =
        UnaryRun.plain refl (Runs.look (Runs.take (c.ok g at d o) (sizeof_run d at (ts ++ rest) a rest (read_unary x rest l))))

    read_postfix : {d : Level} {ts : List Placed} {a : ExpressionTree} → IsPostfix g d ts a → (rest : List Placed) (y : ExpressionTree) (us : List Placed) → is_text (first rest) ≡ false
        → Runs g Sort.expression (body (Rule.postfix_rest d a)) rest (Outcome.read y us) → PostRun d (ts ++ rest) y us
    read_postfix (IsPostfix.primary x) rest y us h r = read_primary x rest y us h r
    read_postfix (IsPostfix.index {d = d} {ls = ls} {a = a} {at = at} {ts = ts} {b = b} x low o z to) rest y us h r =
        post_bracket d ls ts rest (mark m.OpenBracket at) (mark m.CloseBracket to) y us (read_postfix x (mark m.OpenBracket at ∷ (ts ++ (mark m.CloseBracket to ∷ rest))) y us refl
        (Runs.look (Runs.take (c.low_ok g at a d low o)
        (Runs.call (read_expression z (mark m.CloseBracket to ∷ rest) b (mark m.CloseBracket to ∷ rest) (omega arith) (comma_over (suc d) b (mark m.CloseBracket to ∷ rest) (omega arith)))
        (Runs.take (λ k. refl) (c.reads_ g r))))))
    read_postfix (IsPostfix.call {d = d} {ls = ls} {f = a} {ts = ts} x from low o z to) rest y us h r =
        post_bracket d ls ts rest (mark m.OpenParen from) (mark m.CloseParen to) y us (read_postfix x (mark m.OpenParen from ∷ (ts ++ (mark m.CloseParen to ∷ rest))) y us refl
        (Runs.look (Runs.take (c.low_ok g from a d low o) (Runs.call (read_arguments z (mark m.CloseParen to ∷ rest) refl (omega arith)) (Runs.take (λ k. refl) (c.reads_ g r))))))
    read_postfix (IsPostfix.member {d = d} {ls = ls} {a = a} {at = at} {x = n} x low next) rest y us h r =
        post_more d ls (mark m.Dot at ∷ identifier n next ∷ []) rest y us (read_postfix x (mark m.Dot at ∷ identifier n next ∷ rest) y us refl
        (Runs.look (Runs.take (c.low g at a low) (Runs.call (identifier_read n next rest) (c.reads_ g r)))))
    read_postfix (IsPostfix.arrow {d = d} {ls = ls} {a = a} {at = at} {x = n} x low next) rest y us h r =
        post_more d ls (mark m.Arrow at ∷ identifier n next ∷ []) rest y us (read_postfix x (mark m.Arrow at ∷ identifier n next ∷ rest) y us refl
        (Runs.look (Runs.take (c.low g at a low) (Runs.call (identifier_read n next rest) (c.reads_ g r)))))
    read_postfix (IsPostfix.step_after {d = d} {ls = ls} {a = a} {op = op} {at = at} x low p is) rest y us h r =
        post_more d ls (mark p at ∷ []) rest y us (read_postfix x (mark p at ∷ rest) y us refl
        (c.looked g (postfix_by d a) _ (postfix_step d a p op is) (Runs.take (c.low g at a low) (c.reads_ g r))))

    read_arguments : {d : Level} {ts : List Placed} {a : ExpressionTrees} → AreArguments g d ts a → (rest : List Placed) → is_close_paren (first rest) ≡ true → 13 < level (first rest)
        → Runs g Sort.expressions (body (Rule.arguments d)) (ts ++ rest) (Outcome.read a rest)
    read_arguments AreArguments.no_argument rest h l = c.yes_ g is_close_paren _ _ h Runs.give
    read_arguments (AreArguments.some_arguments {ts = ts} x) rest h l =
        c.no_ g is_close_paren _ _ (f.front_is begins_expression is_close_paren not_close ts rest (f.listed_front g x)) (c.reads_ g (read_listed x rest l))

    read_listed : {d : Level} {ts : List Placed} {a : ExpressionTrees} → AreListed g d ts a → (rest : List Placed) → 13 < level (first rest)
        → Runs g Sort.expressions (body (Rule.listed d)) (ts ++ rest) (Outcome.read a rest)
    read_listed (AreListed.last x) rest l = Runs.call (read_assignment x rest (omega arith)) (c.no_ g is_comma _ _ (f.no_comma (first rest) l) Runs.give)
    read_listed (AreListed.next {ts = ts} {us = us} x comma xs) rest l =
        rw append_assoc (Runs.call (read_assignment x (mark m.Comma comma ∷ (us ++ rest)) (omega arith)) (c.yes_ g is_comma _ _ refl (Runs.take (λ k. refl) (Runs.call (read_listed xs rest l) Runs.give))))

    read_primary : {d : Level} {ts : List Placed} {a : ExpressionTree} → IsPrimary g d ts a → (rest : List Placed) (y : ExpressionTree) (us : List Placed) → is_text (first rest) ≡ false
        → Runs g Sort.expression (body (Rule.postfix_rest d a)) rest (Outcome.read y us) → PostRun d (ts ++ rest) y us
    read_primary IsPrimary.name rest y us h r = PostRun.plain refl (Runs.call (Runs.look (Runs.take (λ k. refl) Runs.give)) (c.reads_ g r))
    read_primary IsPrimary.number rest y us h r = PostRun.plain refl (Runs.call (Runs.look (Runs.take (λ k. refl) Runs.give)) (c.reads_ g r))
    read_primary IsPrimary.character rest y us h r = PostRun.plain refl (Runs.call (Runs.look (Runs.take (λ k. refl) Runs.give)) (c.reads_ g r))
    read_primary (IsPrimary.text {d = d} x) rest y us h r = let i = text_read d x rest h in PostRun.plain i.0 (Runs.call i.1 (c.reads_ g r))
    read_primary IsPrimary.null rest y us h r = PostRun.plain refl (Runs.call (Runs.look (Runs.take (λ k. refl) Runs.give)) (c.reads_ g r))
    read_primary IsPrimary.eof rest y us h r = PostRun.plain refl (Runs.call (Runs.look (Runs.take (λ k. refl) Runs.give)) (c.reads_ g r))
    read_primary (IsPrimary.parenthesized {d = d} {at = at} {ts = ts} {a = a} o x to) rest y us h r =
        PostRun.parens at (ts ++ (mark m.CloseParen to ∷ rest)) (ap (λ z. mark m.OpenParen at ∷ z) (append_assoc ts (mark m.CloseParen to ∷ []) rest)) (c.ok g at d o)
        (f.front_is begins_expression begins_specifier f.no_specifier ts (mark m.CloseParen to ∷ rest) (f.expression_front g x))
        (Runs.call (Runs.call (read_expression x (mark m.CloseParen to ∷ rest) a (mark m.CloseParen to ∷ rest) (omega arith) (comma_over (suc d) a (mark m.CloseParen to ∷ rest) (omega arith)))
        (Runs.take (λ k. refl) Runs.give)) (c.reads_ g r))

    read_type_name : {d : Level} {ts : List Placed} {t : TypeNameTree} → IsTypeName g d ts t → (rest : List Placed) → is_close_paren (first rest) ≡ true
        → Runs g Sort.type_name (body (Rule.type_name d)) (ts ++ rest) (Outcome.read t rest)
    read_type_name (IsTypeName.type_name {ss = ss} {ts = ts} x t) rest h =
        rw append_assoc (Runs.call (specifier_read x (ts ++ rest) (declarator_word t rest h)) (Runs.call (read_type_declarator t rest h) Runs.give))

    read_type_declarator : {d : Level} {at : At} {ts : List Placed} {t : TypeDeclaratorTree} → IsTypeDeclarator g d at ts t → (rest : List Placed) → is_close_paren (first rest) ≡ true
        → Runs g Sort.type_declarator (body (Rule.type_declarator d at)) (ts ++ rest) (Outcome.read t rest)
    read_type_declarator (IsTypeDeclarator.direct {d = d} {e = e} {at = at} {ss = ss} {n = n} {ts = ts} {sizes = xs} x y) rest h =
        type_declarator_direct d e at ss ts rest n xs x y h (read_sizes y rest (no_size_behind (first rest) h))
    read_type_declarator (IsTypeDeclarator.nested {d = d} {e = e} {at = at} {ss = ss} {n = n} {first = q} {us = us} {inner = inner} {ts = ts} {sizes = xs} x from o t to y) rest h =
        type_declarator_nested d e at from to ss ts (q ∷ us) rest n inner xs x o (not_nothing (is_nothing inner) q us (is_something t))
        (read_type_declarator t (mark m.CloseParen to ∷ (ts ++ rest)) refl) (read_sizes y rest (no_size_behind (first rest) h))

    read_sizes : {d : Level} {ts : List Placed} {a : ExpressionTrees} → AreSizes g d ts a → (rest : List Placed) → is_open_bracket (first rest) ≡ false
        → Runs g Sort.expressions (body (Rule.sizes d)) (ts ++ rest) (Outcome.read a rest)
    read_sizes AreSizes.no_size rest h = c.no_ g is_open_bracket _ _ h Runs.give
    read_sizes (AreSizes.size {d = d} {at = at} {cs = cs} {ts = ts} o x to xs) rest h =
        rw append_assoc (c.yes_ g is_open_bracket _ _ refl (Runs.take (c.ok g at d o) (Runs.call (read_conditional x (mark m.CloseBracket to ∷ (ts ++ rest)) (omega arith))
        (Runs.take (λ k. refl) (Runs.call (read_sizes xs rest h) Runs.give)))))

  pub expression : {d : Level} {ts : List Placed} {a : ExpressionTree} → IsExpression g d ts a → (rest : List Placed) → 13 < level (first rest)
      → Runs g Sort.expression (body (Rule.expression d)) (ts ++ rest) (Outcome.read a rest)
  expression {d = d} {a = a} x rest l = read_expression x rest a rest (omega arith) (comma_over d a rest l)

  pub assignment : {d : Level} {ts : List Placed} {a : ExpressionTree} → IsAssignment g d ts a → (rest : List Placed) → 12 < level (first rest)
      → Runs g Sort.expression (body (Rule.assignment d)) (ts ++ rest) (Outcome.read a rest)
  assignment x rest l = read_assignment x rest l

  pub conditional : {d : Level} {ts : List Placed} {a : ExpressionTree} → IsConditional g d ts a → (rest : List Placed) → 11 < level (first rest)
      → Runs g Sort.expression (body (Rule.conditional d)) (ts ++ rest) (Outcome.read a rest)
  conditional x rest l = read_conditional x rest l
