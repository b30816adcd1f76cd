-- The rules for declarations and statements read what stands for their values; and so each rule does.
use Rattle.std.proofs.Common.{◌≡◌, ℕ, zero, suc, ◌+◌, Bool, true, false, cond, ◌&&◌, List, [], ◌∷◌, ◌++◌, Option, Some, None, refl, sym, ap, ◌∙◌, subst, append_assoc}
use Rattle.std.proofs.lemmas.List.{append-nil}
use Rattle.std.proofs.lemmas.Bool.{false≢true}
use Rattle.c_words.specs.Tokens.{Token, Placed}
use Rattle.c_words.specs.declared.place.At.{At}
use Rattle.c_words.specs.declared.words.Keyword.TheVariants as w
use Rattle.c_words.specs.declared.words.Punctuator.TheVariants as m
use Rattle.syntax_tree.specs.declared.syntax.specifiers.Specifier.{Specifier}
use Rattle.syntax_tree.specs.Syntax.{ExpressionTree, ExpressionTrees, TypeDeclaratorTree, ParameterDeclaratorTree, ParameterTree, ParametersTree, DeclaratorTree, InitializerTree, InitializerTrees, InitDeclaratorTree, ForStartTree, StatementTree, BlockTree, BlockItemTrees, HeadTree, ExternalTree}
use Rattle.syntax_tree.specs.GrammarLimits.{Limits, Level, Opens}
use Rattle.syntax_tree.specs.GrammarTokens.{mark, word, identifier, first_at, Optional, Many, Commas, AreStrings}
use Rattle.syntax_tree.specs.GrammarExpressions.{IsSpecifier, AreStars, IsExpression, IsAssignment, IsConditional, IsBinary, IsCast, IsUnary, IsPostfix, IsPrimary, AreArguments, AreListed, IsTypeName, IsTypeDeclarator, AreSizes}
use Rattle.syntax_tree.specs.GrammarDeclarations.{is_lone_void, parameter_declarator_at, declarator_at, IsArray, IsParameterDeclarator, IsParameter, AreParameters, IsSuffix, IsDeclarator, IsInitializer, AreParts, IsInitDeclarator, IsDeclaration, IsMember, IsStructDefinition}
use Rattle.syntax_tree.specs.GrammarStatements.{IsForStart, IsStatement, IsBlock, AreItems, IsItem}
use Rattle.syntax_tree.specs.Grammar.{IsHead, IsExternal, Derives}
use Rattle.c_parser_rules.specs.Programs.{Sort, Value, Rule, Program}
use Rattle.c_parser_rules.specs.Tests.{is_some, is_comma, is_semicolon, is_question, is_equal, is_star, is_open_paren, is_close_paren, is_open_bracket, is_open_brace, is_close_brace, is_else, begins_specifier, begins_expression, begins_statement, operator, assigns, opens}
use Rattle.c_parser_rules.specs.Bodies.{body, is_nothing, is_no_declarator, is_void, parameters_of, parameter_declarator_by, declarator_by, else_by, do_by, value_statement, statement_by, head_by, unit_by}
use Rattle.c_parser_rules.specs.Runs.{token_at}
use Rattle.c_parser_rules.proofs.Meanings.{Means, Parts}
use Rattle.c_parser_rules.proofs.Soundness.{Rel, Sample, Begins, Free, Proves, Good}
use Rattle.c_parser_rules.proofs.Outline.{less}
use Rattle.c_parser_rules.proofs.Outline as o
use Rattle.c_parser_rules.proofs.Samples.{samples, as_expression}
use Rattle.c_parser_rules.proofs.ExpressionsRight as e
use Rattle.c_parser_rules.proofs.ExpressionsRight.{operator_is, assigns_is}

module _ (g : Limits) where
  abbrev P : (sort : Sort) → Program sort → Rel (Value sort) → Type 1
  P = Proves g

  takes : {s : Sort} {c : Token} {within : Bool} {f : At → Program s} {W : Rel (Value s)} → ((at : At) → o.goes (f at) ≡ true)
      → ((at : At) → (g at ≡ true → within ≡ true) → Proves g s (f at) (λ ts. W (token_at c at ∷ ts))) → Proves g s (Program.take c within f) W
  takes e h = o.takes g (samples g) e h

  calls : {s t : Sort} {r : Rule s} {f : Value s → Program t} {W : Rel (Value t)} → ((x : Value s) → o.goes (f x) ≡ true)
      → ((x : Value s) (us : List Placed) → Means g r us x → Proves g t (f x) (λ ts. W (us ++ ts))) → Proves g t (Program.call r f) W
  calls e h = o.calls g (samples g) e h

  last : {s t : Sort} {r : Rule s} {f : Value s → Value t} {W : Rel (Value t)} → ((x : Value s) (us : List Placed) → Means g r us x → W us (f x))
      → Proves g t (Program.call r (λ x. Program.give (f x))) W
  last h = o.last g (samples g) h

  whens : {s : Sort} (test : Option Token → Bool) {p q : Program s} {W : Rel (Value s)} → Proves g s p W → Proves g s q W → Proves g s (Program.look (λ c. cond (test c) p q)) W
  whens test h i = o.whens g (samples g) test h i

  open_at : (at : At) (d : ℕ) → (g at ≡ true → opens d ≡ true) → Opens g at d
  open_at at d h = o.opened g (samples g) at d h

  -- ---- what brackets may hold is something
  nothing : {d : Level} {at : At} {ts : List Placed} {t : TypeDeclaratorTree} → IsTypeDeclarator g d at ts t → is_nothing t ≡ true → ts ≡ []
  nothing (IsTypeDeclarator.direct AreStars.no_star AreSizes.no_size) h = refl
  nothing (IsTypeDeclarator.direct AreStars.no_star (AreSizes.size o x to xs)) h = absurd (false≢true h)
  nothing (IsTypeDeclarator.direct (AreStars.star o x) y) h = absurd (false≢true h)
  nothing (IsTypeDeclarator.nested x from o y to z) h = absurd (false≢true h)

  abbrev Some_ : List Placed → Type 0
  Some_ ts = (q : Placed) × (us : List Placed) × (ts ≡ q ∷ us)

  pub some_of : (ls : List Placed) (q : Placed) (us : List Placed) → Some_ (ls ++ (q ∷ us))
  some_of [] q us = (q, us, refl)
  some_of (l ∷ ls) q us = (l, ls ++ (q ∷ us), refl)

  pub something : {d : Level} {at : At} {ts : List Placed} {t : TypeDeclaratorTree} → IsTypeDeclarator g d at ts t → is_nothing t ≡ false → Some_ ts
  something (IsTypeDeclarator.direct AreStars.no_star AreSizes.no_size) h = absurd (false≢true (sym h))
  something (IsTypeDeclarator.direct AreStars.no_star (AreSizes.size o x to xs)) h = (_, _, refl)
  something (IsTypeDeclarator.direct (AreStars.star o x) y) h = (_, _, refl)
  something (IsTypeDeclarator.nested {ss = ss} {first = first} {us = us} {ts = ts} x from o y to z) h = some_of ss _ _

  no_declarator : {d : Level} {at : At} {ts : List Placed} {t : ParameterDeclaratorTree} → IsParameterDeclarator g d at ts t → is_no_declarator t ≡ true → ts ≡ []
  no_declarator (IsParameterDeclarator.unnamed AreStars.no_star Many.none) h = refl
  no_declarator (IsParameterDeclarator.unnamed AreStars.no_star (Many.more x xs)) h = absurd (false≢true h)
  no_declarator (IsParameterDeclarator.unnamed (AreStars.star o x) y) h = absurd (false≢true h)
  no_declarator (IsParameterDeclarator.named x y) h = absurd (false≢true h)
  no_declarator (IsParameterDeclarator.nested x from o y to z) h = absurd (false≢true h)

  array_some : {d : Level} {ts : List Placed} {a : _} → IsArray g d ts a → (us : List Placed) → Some_ (ts ++ us)
  array_some (IsArray.array o x to) us = (_, _, refl)

  pub some_declarator : {d : Level} {at : At} {ts : List Placed} {t : ParameterDeclaratorTree} → IsParameterDeclarator g d at ts t → is_no_declarator t ≡ false → Some_ ts
  some_declarator (IsParameterDeclarator.unnamed AreStars.no_star Many.none) h = absurd (false≢true (sym h))
  some_declarator (IsParameterDeclarator.unnamed AreStars.no_star (Many.more x xs)) h = array_some x _
  some_declarator (IsParameterDeclarator.unnamed (AreStars.star o x) y) h = (_, _, refl)
  some_declarator (IsParameterDeclarator.named {ss = ss} x y) h = some_of ss _ _
  some_declarator (IsParameterDeclarator.nested {ss = ss} x from o y to z) h = some_of ss _ _

  no_limit : (free : Free g) (d : ℕ) → Opens g free.0 d
  no_limit free d = λ k. absurd (false≢true (sym free.1 ∙ k))

  -- `* )` behind a `(`
  starred : (free : Free g) (d : Level) (at from : At) (ss : List Placed) (n e : ℕ) → AreStars g d e ss n → Opens g from e
      → Sample (λ ts. IsTypeDeclarator g d at (ss ++ (mark m.OpenParen from ∷ ts)))
  starred free d at from ss n e h op = record {
    tokens = mark m.Star free.0 ∷ mark m.CloseParen free.0 ∷ [];
    value = TypeDeclaratorTree.Nested at n (TypeDeclaratorTree.Direct at 1 ExpressionTrees.none) ExpressionTrees.none;
    holds = IsTypeDeclarator.nested h from op (IsTypeDeclarator.direct (AreStars.star (no_limit free (suc e)) AreStars.no_star) AreSizes.no_size) free.0 AreSizes.no_size;
  }

  starred_parameter : (free : Free g) (d : Level) (at from : At) (ss : List Placed) (n e : ℕ) → AreStars g d e ss n → Opens g from e
      → Sample (λ ts. IsParameterDeclarator g d at (ss ++ (mark m.OpenParen from ∷ ts)))
  starred_parameter free d at from ss n e h op = record {
    tokens = mark m.Star free.0 ∷ mark m.CloseParen free.0 ∷ [];
    value = ParameterDeclaratorTree.Nested at n (ParameterDeclaratorTree.Unnamed at 1 []) [];
    holds = IsParameterDeclarator.nested h from op (IsParameterDeclarator.unnamed (AreStars.star (no_limit free (suc e)) AreStars.no_star) Many.none) free.0 Many.none;
  }

  nested_type : (d e : Level) (at from to : At) (ss us zs : List Placed) (n : ℕ) (inner : TypeDeclaratorTree) (sizes : ExpressionTrees) → AreStars g d e ss n → Opens g from e
      → IsTypeDeclarator g (suc e) at us inner → Some_ us → AreSizes g e zs sizes
      → IsTypeDeclarator g d at (ss ++ (mark m.OpenParen from ∷ (us ++ (mark m.CloseParen to ∷ zs)))) (TypeDeclaratorTree.Nested at n inner sizes)
  nested_type d e at from to ss us zs n inner sizes h op i some z =
      rw some.2 (IsTypeDeclarator.nested h from op (subst (λ x. IsTypeDeclarator g (suc e) at x inner) some.2 i) to z)

  nested_parameter : (d e : Level) (at from to : At) (ss us zs : List Placed) (n : ℕ) (inner : ParameterDeclaratorTree) (arrays : List _) → AreStars g d e ss n → Opens g from e
      → IsParameterDeclarator g (suc e) at us inner → Some_ us → Many (IsArray g e) zs arrays
      → IsParameterDeclarator g d at (ss ++ (mark m.OpenParen from ∷ (us ++ (mark m.CloseParen to ∷ zs)))) (ParameterDeclaratorTree.Nested (parameter_declarator_at inner) n inner arrays)
  nested_parameter d e at from to ss us zs n inner arrays h op i some z =
      rw some.2 (IsParameterDeclarator.nested h from op (subst (λ x. IsParameterDeclarator g (suc e) at x inner) some.2 i) to z)

  -- an inner declarator and what follows it, or the refusal of one that is empty
  inner_right : (d e : Level) (at from : At) (ss : List Placed) (n : ℕ) → AreStars g d e ss n → Opens g from e → (inner : TypeDeclaratorTree) (us : List Placed)
      → IsTypeDeclarator g (suc e) at us inner → (b : Bool) → is_nothing inner ≡ b
      → (Free g → Sample (λ ts. IsTypeDeclarator g d at (ss ++ (mark m.OpenParen from ∷ (us ++ ts)))))
      × P Sort.type_declarator (cond b Program.refuse (Program.take (Token.Punctuator m.CloseParen) true (λ to. Program.call (Rule.sizes e) (λ sizes. Program.give (TypeDeclaratorTree.Nested at n inner sizes)))))
      (λ ts. IsTypeDeclarator g d at (ss ++ (mark m.OpenParen from ∷ (us ++ ts))))
  inner_right d e at from ss n h op inner us i true is =
      (λ free. subst (λ z. Sample (λ ts. IsTypeDeclarator g d at (ss ++ (mark m.OpenParen from ∷ (z ++ ts))))) (sym (nothing i is)) (starred free d at from ss n e h op), Proves.refuse)
  inner_right d e at from ss n h op inner us i false is =
      let p : P Sort.type_declarator (Program.take (Token.Punctuator m.CloseParen) true (λ to. Program.call (Rule.sizes e) (λ sizes. Program.give (TypeDeclaratorTree.Nested at n inner sizes))))
      (λ ts. IsTypeDeclarator g d at (ss ++ (mark m.OpenParen from ∷ (us ++ ts)))) =
      takes (λ at. refl) (λ to k. last (λ sizes zs z. nested_type d e at from to ss us zs n inner sizes h op i (something i is) z)) in
      (o.completes g (samples g) _ _ _ p refl, p)

  inner_parameter_right : (d e : Level) (at from : At) (ss : List Placed) (n : ℕ) → AreStars g d e ss n → Opens g from e → (inner : ParameterDeclaratorTree) (us : List Placed)
      → IsParameterDeclarator g (suc e) at us inner → (b : Bool) → is_no_declarator inner ≡ b
      → (Free g → Sample (λ ts. IsParameterDeclarator g d at (ss ++ (mark m.OpenParen from ∷ (us ++ ts)))))
      × P Sort.parameter_declarator (cond b Program.refuse (Program.take (Token.Punctuator m.CloseParen) true (λ to. Program.call (Rule.repeat is_open_bracket (Rule.array e)) (λ arrays.
      Program.give (ParameterDeclaratorTree.Nested (parameter_declarator_at inner) n inner arrays)))))
      (λ ts. IsParameterDeclarator g d at (ss ++ (mark m.OpenParen from ∷ (us ++ ts))))
  inner_parameter_right d e at from ss n h op inner us i true is =
      (λ free. subst (λ z. Sample (λ ts. IsParameterDeclarator g d at (ss ++ (mark m.OpenParen from ∷ (z ++ ts))))) (sym (no_declarator i is)) (starred_parameter free d at from ss n e h op), Proves.refuse)
  inner_parameter_right d e at from ss n h op inner us i false is =
      let p : P Sort.parameter_declarator (Program.take (Token.Punctuator m.CloseParen) true (λ to. Program.call (Rule.repeat is_open_bracket (Rule.array e)) (λ arrays.
      Program.give (ParameterDeclaratorTree.Nested (parameter_declarator_at inner) n inner arrays))))
      (λ ts. IsParameterDeclarator g d at (ss ++ (mark m.OpenParen from ∷ (us ++ ts)))) =
      takes (λ at. refl) (λ to k. last (λ arrays zs z. nested_parameter d e at from to ss us zs n inner arrays h op i (some_declarator i is) z)) in
      (o.completes g (samples g) _ _ _ p refl, p)

  type_declarator_right : (d : Level) (at : At) (n : ℕ) (ss : List Placed) → AreStars g d (d + n) ss n
      → P Sort.type_declarator (Program.look (λ c. cond (is_open_paren c)
      (Program.take (Token.Punctuator m.OpenParen) (opens (d + n)) (λ from. Program.call (Rule.type_declarator (suc (d + n)) at) (λ inner. cond (is_nothing inner) Program.refuse
      (Program.take (Token.Punctuator m.CloseParen) true (λ to. Program.call (Rule.sizes (d + n)) (λ sizes. Program.give (TypeDeclaratorTree.Nested at n inner sizes)))))))
      (Program.call (Rule.sizes (d + n)) (λ sizes. Program.give (TypeDeclaratorTree.Direct at n sizes)))))
      (λ ts. IsTypeDeclarator g d at (ss ++ ts))
  type_declarator_right d at n ss h = whens is_open_paren
      (takes (λ at. refl) (λ from k. Proves.call
      (λ inner us i. (inner_right d (d + n) at from ss n h (open_at from (d + n) k) inner us i (is_nothing inner) refl).0)
      (λ inner us i. (inner_right d (d + n) at from ss n h (open_at from (d + n) k) inner us i (is_nothing inner) refl).1)))
      (last (λ sizes zs z. IsTypeDeclarator.direct h z))

  parameter_declarator_right : (d : Level) (at : At) (n : ℕ) (ss : List Placed) → AreStars g d (d + n) ss n → (c : Option Token)
      → P _ (parameter_declarator_by (d + n) at n c) (λ ts. IsParameterDeclarator g d at (ss ++ ts))
  parameter_declarator_right d at n ss h (Some (Token.Name x)) = takes (λ at. refl) (λ own k. last (λ arrays zs z. IsParameterDeclarator.named h z))
  parameter_declarator_right d at n ss h (Some (Token.Punctuator m.OpenParen)) = takes (λ at. refl) (λ from k. Proves.call
      (λ inner us i. (inner_parameter_right d (d + n) at from ss n h (open_at from (d + n) k) inner us i (is_no_declarator inner) refl).0)
      (λ inner us i. (inner_parameter_right d (d + n) at from ss n h (open_at from (d + n) k) inner us i (is_no_declarator inner) refl).1))
  parameter_declarator_right d at n ss h _ = last (λ arrays zs z. IsParameterDeclarator.unnamed h z)

  declarator_right : (d : Level) (n : ℕ) (ss : List Placed) → AreStars g d (d + n) ss n → (c : Option Token)
      → P _ (declarator_by (d + n) n c) (λ ts. IsDeclarator g d (ss ++ ts))
  declarator_right d n ss h (Some (Token.Name x)) = takes (λ at. refl) (λ own k. last (λ suffixes zs z. IsDeclarator.named h z))
  declarator_right d n ss h (Some (Token.Punctuator m.OpenParen)) = takes (λ at. refl) (λ from k. calls (λ inner. refl) (λ inner us i. takes (λ to. refl) (λ to l.
      last (λ suffixes zs z. IsDeclarator.nested h from (open_at from (d + n) k) i to z))))
  declarator_right d n ss h _ = Proves.refuse

  -- ---- parameters, of which a lone `void` stands for none
  pub void_alone : {d : Level} {ts : List Placed} {p : ParameterTree} → IsParameter g d ts p → (is_void p.specifier && is_no_declarator p.declarator) ≡ true → ts ≡ word w.Void p.at ∷ []
  void_alone (IsParameter.parameter (IsSpecifier.void {at = at}) x) h = ap (λ z. word w.Void at ∷ z) (no_declarator x h)
  void_alone (IsParameter.parameter IsSpecifier.char x) h = absurd (false≢true h)
  void_alone (IsParameter.parameter IsSpecifier.int x) h = absurd (false≢true h)
  void_alone (IsParameter.parameter IsSpecifier.signed x) h = absurd (false≢true h)
  void_alone (IsParameter.parameter IsSpecifier.signed_int x) h = absurd (false≢true h)
  void_alone (IsParameter.parameter IsSpecifier.unsigned x) h = absurd (false≢true h)
  void_alone (IsParameter.parameter IsSpecifier.unsigned_int x) h = absurd (false≢true h)
  void_alone (IsParameter.parameter IsSpecifier.unsigned_char x) h = absurd (false≢true h)
  void_alone (IsParameter.parameter IsSpecifier.struct x) h = absurd (false≢true h)

  long : (q : Placed) (us : List Placed) → Some_ us → is_lone_void (q ∷ us) ≡ false
  long q us some = rw some.2 refl

  not_void_alone : {d : Level} {ts : List Placed} {p : ParameterTree} → IsParameter g d ts p → (is_void p.specifier && is_no_declarator p.declarator) ≡ false → is_lone_void ts ≡ false
  not_void_alone (IsParameter.parameter (IsSpecifier.void {at = at}) x) h = long (word w.Void at) _ (some_declarator x h)
  not_void_alone (IsParameter.parameter {ts = []} IsSpecifier.char x) h = refl
  not_void_alone (IsParameter.parameter {ts = t ∷ ts} IsSpecifier.char x) h = refl
  not_void_alone (IsParameter.parameter {ts = []} IsSpecifier.int x) h = refl
  not_void_alone (IsParameter.parameter {ts = t ∷ ts} IsSpecifier.int x) h = refl
  not_void_alone (IsParameter.parameter {ts = []} IsSpecifier.signed x) h = refl
  not_void_alone (IsParameter.parameter {ts = t ∷ ts} IsSpecifier.signed x) h = refl
  not_void_alone (IsParameter.parameter IsSpecifier.signed_int x) h = refl
  not_void_alone (IsParameter.parameter {ts = []} IsSpecifier.unsigned x) h = refl
  not_void_alone (IsParameter.parameter {ts = t ∷ ts} IsSpecifier.unsigned x) h = refl
  not_void_alone (IsParameter.parameter IsSpecifier.unsigned_int x) h = refl
  not_void_alone (IsParameter.parameter IsSpecifier.unsigned_char x) h = refl
  not_void_alone (IsParameter.parameter IsSpecifier.struct x) h = refl

  parameter_some : {d : Level} {ts : List Placed} {p : ParameterTree} → IsParameter g d ts p → Some_ ts
  parameter_some (IsParameter.parameter IsSpecifier.void x) = (_, _, refl)
  parameter_some (IsParameter.parameter IsSpecifier.char x) = (_, _, refl)
  parameter_some (IsParameter.parameter IsSpecifier.int x) = (_, _, refl)
  parameter_some (IsParameter.parameter IsSpecifier.signed x) = (_, _, refl)
  parameter_some (IsParameter.parameter IsSpecifier.signed_int x) = (_, _, refl)
  parameter_some (IsParameter.parameter IsSpecifier.unsigned x) = (_, _, refl)
  parameter_some (IsParameter.parameter IsSpecifier.unsigned_int x) = (_, _, refl)
  parameter_some (IsParameter.parameter IsSpecifier.unsigned_char x) = (_, _, refl)
  parameter_some (IsParameter.parameter IsSpecifier.struct x) = (_, _, refl)

  -- two parameters are more than one token
  two : (ts us : List Placed) (comma : At) → Some_ ts → is_lone_void (ts ++ (mark m.Comma comma ∷ us)) ≡ false
  two ts us comma some = rw some.2 (by some.1)
    where
      by : (ls : List Placed) → is_lone_void (some.0 ∷ (ls ++ (mark m.Comma comma ∷ us))) ≡ false
      by [] = refl
      by (l ∷ ls) = refl

  one_parameter : (d : Level) (us : List Placed) (p : ParameterTree) → IsParameter g d us p → (b : Bool) → (is_void p.specifier && is_no_declarator p.declarator) ≡ b
      → (Free g → Sample (λ ts. AreParameters g d (us ++ ts)))
      × P Sort.parameters (cond b (Program.give (ParametersTree.Void p.at)) (Program.give (ParametersTree.Listed p.at (p ∷ [])))) (λ ts. AreParameters g d (us ++ ts))
  one_parameter d us p i true is =
      let h : AreParameters g d (us ++ []) (ParametersTree.Void p.at) = rw (append-nil, void_alone i is) AreParameters.void in
      (λ free. record { tokens = []; value = ParametersTree.Void p.at; holds = h }, Proves.give h)
  one_parameter d us p i false is =
      let h : AreParameters g d (us ++ []) (ParametersTree.Listed p.at (p ∷ [])) = rw append-nil (AreParameters.listed (Commas.last i) (not_void_alone i is)) in
      (λ free. record { tokens = []; value = ParametersTree.Listed p.at (p ∷ []); holds = h }, Proves.give h)

  parameters_right : (d : Level) (ps : List ParameterTree) (us : List Placed) → Commas (IsParameter g d) us ps
      → (Free g → Sample (λ ts. AreParameters g d (us ++ ts))) × P Sort.parameters (parameters_of ps) (λ ts. AreParameters g d (us ++ ts))
  parameters_right d _ us (Commas.last {x = p} i) = one_parameter d us p i (is_void p.specifier && is_no_declarator p.declarator) refl
  parameters_right d _ _ (Commas.next {ts = ts} {x = p} {us = us} i comma (Commas.last {x = q} j)) =
      let h : AreParameters g d ((ts ++ (mark m.Comma comma ∷ us)) ++ []) (ParametersTree.Listed p.at (p ∷ q ∷ [])) =
      rw append-nil (AreParameters.listed (Commas.next i comma (Commas.last j)) (two ts us comma (parameter_some i))) in
      (λ free. record { tokens = []; value = _; holds = h }, Proves.give h)
  parameters_right d _ _ (Commas.next {ts = ts} {x = p} {us = us} i comma (Commas.next {x = q} {us = vs} {xs = xs} j other k)) =
      let h : AreParameters g d ((ts ++ (mark m.Comma comma ∷ us)) ++ []) (ParametersTree.Listed p.at (p ∷ q ∷ xs)) =
      rw append-nil (AreParameters.listed (Commas.next i comma (Commas.next j other k)) (two ts us comma (parameter_some i))) in
      (λ free. record { tokens = []; value = _; holds = h }, Proves.give h)

  -- ---- statements
  -- for each token that a statement begins with, one that does
  name_behind : (free : Free g) (d : Level) → IsCast g d (identifier [] free.0 ∷ []) (ExpressionTree.Name free.0 [])
  name_behind free d = IsCast.unary (IsUnary.postfix (IsPostfix.primary IsPrimary.name))

  value_after : (d : Level) (at : At) (t : Placed) (ts : List Placed) (a : ExpressionTree) → IsCast g d (t ∷ ts) a → Sample (λ us (x : StatementTree × Bool). IsStatement g d x.1 (t ∷ us) x.0)
  value_after d at t ts a x = record { tokens = ts ++ (mark m.Semicolon at ∷ []); value = (StatementTree.Expression t.at a, false); holds = IsStatement.expression (as_expression g x) at }

  condition : (free : Free g) (d : Level) → IsExpression g d (identifier [] free.0 ∷ []) (ExpressionTree.Name free.0 [])
  condition free d = as_expression g (name_behind free d)

  begun_by_expression : (free : Free g) (d : Level) (c : Token) → begins_expression c ≡ true → Sample (λ us (x : StatementTree × Bool). IsStatement g d x.1 (token_at c free.0 ∷ us) x.0)
  begun_by_expression free d (Token.Name x) h = value_after d free.0 _ [] _ (IsCast.unary (IsUnary.postfix (IsPostfix.primary IsPrimary.name)))
  begun_by_expression free d (Token.Number n u) h = value_after d free.0 _ [] _ (IsCast.unary (IsUnary.postfix (IsPostfix.primary IsPrimary.number)))
  begun_by_expression free d (Token.Character n) h = value_after d free.0 _ [] _ (IsCast.unary (IsUnary.postfix (IsPostfix.primary IsPrimary.character)))
  begun_by_expression free d (Token.StringLiteral b) h = value_after d free.0 _ [] _ (IsCast.unary (IsUnary.postfix (IsPostfix.primary (IsPrimary.text AreStrings.one))))
  begun_by_expression free d (Token.Keyword w.Null) h = value_after d free.0 _ [] _ (IsCast.unary (IsUnary.postfix (IsPostfix.primary IsPrimary.null)))
  begun_by_expression free d (Token.Keyword w.Eof) h = value_after d free.0 _ [] _ (IsCast.unary (IsUnary.postfix (IsPostfix.primary IsPrimary.eof)))
  begun_by_expression free d (Token.Keyword w.Sizeof) h = value_after d free.0 _ (identifier [] free.0 ∷ []) _ (IsCast.unary (IsUnary.sizeof_expression (no_limit free d) (IsUnary.postfix (IsPostfix.primary IsPrimary.name))))
  begun_by_expression free d (Token.Punctuator m.OpenParen) h = value_after d free.0 _ (identifier [] free.0 ∷ mark m.CloseParen free.0 ∷ []) _
      (IsCast.unary (IsUnary.postfix (IsPostfix.primary (IsPrimary.parenthesized (no_limit free d) (condition free (suc d)) free.0))))
  begun_by_expression free d (Token.Punctuator m.PlusPlus) h = value_after d free.0 _ (identifier [] free.0 ∷ []) _ (IsCast.unary (IsUnary.step_before refl (no_limit free d) (IsUnary.postfix (IsPostfix.primary IsPrimary.name))))
  begun_by_expression free d (Token.Punctuator m.MinusMinus) h = value_after d free.0 _ (identifier [] free.0 ∷ []) _ (IsCast.unary (IsUnary.step_before refl (no_limit free d) (IsUnary.postfix (IsPostfix.primary IsPrimary.name))))
  begun_by_expression free d (Token.Punctuator m.Ampersand) h = value_after d free.0 _ (identifier [] free.0 ∷ []) _ (IsCast.unary (IsUnary.prefix refl (no_limit free d) (name_behind free (suc d))))
  begun_by_expression free d (Token.Punctuator m.Star) h = value_after d free.0 _ (identifier [] free.0 ∷ []) _ (IsCast.unary (IsUnary.prefix refl (no_limit free d) (name_behind free (suc d))))
  begun_by_expression free d (Token.Punctuator m.Plus) h = value_after d free.0 _ (identifier [] free.0 ∷ []) _ (IsCast.unary (IsUnary.prefix refl (no_limit free d) (name_behind free (suc d))))
  begun_by_expression free d (Token.Punctuator m.Minus) h = value_after d free.0 _ (identifier [] free.0 ∷ []) _ (IsCast.unary (IsUnary.prefix refl (no_limit free d) (name_behind free (suc d))))
  begun_by_expression free d (Token.Punctuator m.Tilde) h = value_after d free.0 _ (identifier [] free.0 ∷ []) _ (IsCast.unary (IsUnary.prefix refl (no_limit free d) (name_behind free (suc d))))
  begun_by_expression free d (Token.Punctuator m.Bang) h = value_after d free.0 _ (identifier [] free.0 ∷ []) _ (IsCast.unary (IsUnary.prefix refl (no_limit free d) (name_behind free (suc d))))
  begun_by_expression free d _ h = absurd (false≢true h)

  begun_by : (free : Free g) (d : Level) (c : Token) → begins_statement c ≡ true → Sample (λ us (x : StatementTree × Bool). IsStatement g d x.1 (token_at c free.0 ∷ us) x.0)
  begun_by free d (Token.Punctuator m.Semicolon) h = record { tokens = []; value = (StatementTree.Empty free.0, false); holds = IsStatement.empty }
  begun_by free d (Token.Punctuator m.OpenBrace) h = record {
    tokens = mark m.CloseBrace free.0 ∷ [];
    value = (StatementTree.Block (BlockTree.block free.0 BlockItemTrees.none), false);
    holds = IsStatement.block (IsBlock.braces (no_limit free d) AreItems.no_item free.0);
  }
  begun_by free d (Token.Keyword w.If) h = record {
    tokens = mark m.OpenParen free.0 ∷ identifier [] free.0 ∷ mark m.CloseParen free.0 ∷ mark m.Semicolon free.0 ∷ [];
    value = (StatementTree.If free.0 (ExpressionTree.Name free.0 []) (StatementTree.Empty free.0), true);
    holds = IsStatement.only_if (no_limit free d) (condition free (suc d)) free.0 IsStatement.empty;
  }
  begun_by free d (Token.Keyword w.While) h = record {
    tokens = mark m.OpenParen free.0 ∷ identifier [] free.0 ∷ mark m.CloseParen free.0 ∷ mark m.Semicolon free.0 ∷ [];
    value = (StatementTree.While free.0 (ExpressionTree.Name free.0 []) (StatementTree.Empty free.0), false);
    holds = IsStatement.while (no_limit free d) (condition free (suc d)) free.0 IsStatement.empty;
  }
  begun_by free d (Token.Keyword w.Do) h = record {
    tokens = mark m.Semicolon free.0 ∷ word w.While free.0 ∷ mark m.OpenParen free.0 ∷ identifier [] free.0 ∷ mark m.CloseParen free.0 ∷ mark m.Semicolon free.0 ∷ [];
    value = (StatementTree.DoWhile free.0 (StatementTree.Empty free.0) (ExpressionTree.Name free.0 []), false);
    holds = IsStatement.do_while free.0 free.0 (no_limit free d) IsStatement.empty (condition free (suc d)) free.0 free.0;
  }
  begun_by free d (Token.Keyword w.For) h = record {
    tokens = mark m.OpenParen free.0 ∷ mark m.Semicolon free.0 ∷ mark m.Semicolon free.0 ∷ mark m.CloseParen free.0 ∷ mark m.Semicolon free.0 ∷ [];
    value = (StatementTree.For free.0 (ForStartTree.Expression None) None None (StatementTree.Empty free.0), false);
    holds = IsStatement.for (no_limit free d) (IsForStart.expression Optional.absent free.0) Optional.absent free.0 Optional.absent free.0 IsStatement.empty;
  }
  begun_by free d (Token.Keyword w.Break) h = record { tokens = mark m.Semicolon free.0 ∷ []; value = (StatementTree.Break free.0, false); holds = IsStatement.break }
  begun_by free d (Token.Keyword w.Continue) h = record { tokens = mark m.Semicolon free.0 ∷ []; value = (StatementTree.Continue free.0, false); holds = IsStatement.continue }
  begun_by free d (Token.Keyword w.Return) h = record { tokens = mark m.Semicolon free.0 ∷ []; value = (StatementTree.Return free.0 None, false); holds = IsStatement.return Optional.absent free.0 }
  begun_by free d c h = begun_by_expression free d c h

  -- what follows the first statement of an `if`
  else_right : (at from to : At) (d : Level) (c : ExpressionTree) (cs us : List Placed) → Opens g from d → IsExpression g (suc d) cs c → (x : StatementTree) (b : Bool) → IsStatement g (suc d) b us x
      → P _ (else_by at c d (x, b)) (λ ts y. IsStatement g d y.1 (word w.If at ∷ mark m.OpenParen from ∷ (cs ++ (mark m.CloseParen to ∷ (us ++ ts)))) y.0)
  else_right at from to d c cs us op i x true h = Proves.give (rw append-nil (IsStatement.only_if op i to h))
  else_right at from to d c cs us op i x false h = whens is_else
      (takes (λ at. refl) (λ other k. last (λ y vs j. IsStatement.if_else op i to h other j)))
      (Proves.give (rw append-nil (IsStatement.only_if op i to h)))

  else_goes : (at : At) (c : ExpressionTree) (d : Level) (x : StatementTree) (b : Bool) → o.goes (else_by at c d (x, b)) ≡ true
  else_goes at c d x true = refl
  else_goes at c d x false = refl

  -- a statement that begins here may not be in a place where none does
  first_opens : (again : At) (d : Level) (at : At) (ts us : List Placed) → (g at ≡ true → opens d ≡ true) → Some_ ts → (Begins at (ts ++ us)) → Opens g (first_at ts again) d
  first_opens again d at [] us ok some h = absurd (let e = some.2 in (cc))
  first_opens again d at (t ∷ ts) us ok some h = λ k. less d 200 (ok (ap g (sym h) ∙ k))

  statement_some : {d : Level} {b : Bool} {ts : List Placed} {x : StatementTree} → IsStatement g d b ts x → Some_ ts
  statement_some (IsStatement.block (IsBlock.braces o xs to)) = (_, _, refl)
  statement_some IsStatement.empty = (_, _, refl)
  statement_some (IsStatement.expression {ts = ts} e to) = some_of ts _ _
  statement_some (IsStatement.only_if o c to x) = (_, _, refl)
  statement_some (IsStatement.if_else o c to x other y) = (_, _, refl)
  statement_some (IsStatement.while o c to x) = (_, _, refl)
  statement_some (IsStatement.do_while again from o x c to end) = (_, _, refl)
  statement_some (IsStatement.for o s c middle u to x) = (_, _, refl)
  statement_some IsStatement.break = (_, _, refl)
  statement_some IsStatement.continue = (_, _, refl)
  statement_some (IsStatement.return x to) = (_, _, refl)

  do_right : (d : Level) (at : At) (c : Option Token) → P _ (do_by d at c) (λ ts y. IsStatement g d y.1 (word w.Do at ∷ ts) y.0)
  do_right d at None = Proves.refuse
  do_right d at (Some t) = by (begins_statement t) refl
    where
      after : (from : At) → (g from ≡ true → opens d ≡ true) → P Sort.statement
          (Program.call (Rule.statement (suc d)) (λ x. Program.take (Token.Keyword w.While) true (λ again. Program.take (Token.Punctuator m.OpenParen) true (λ from.
          Program.call (Rule.expression (suc d)) (λ c. Program.take (Token.Punctuator m.CloseParen) true (λ to. Program.take (Token.Punctuator m.Semicolon) true (λ end. Program.give (StatementTree.DoWhile at x.0 c, false))))))))
          (λ ts y. Begins from ts → IsStatement g d y.1 (word w.Do at ∷ ts) y.0)
      after first ok = calls (λ x. refl) (λ x us i. takes (λ at. refl) (λ again k. takes (λ at. refl) (λ from l. calls (λ c. refl) (λ c cs j.
          takes (λ at. refl) (λ to k. takes (λ at. refl) (λ end l. Proves.give (λ b.
          IsStatement.do_while again from (first_opens again d first us _ ok (statement_some i) b) i j to end)))))))

      by : (b : Bool) → begins_statement t ≡ b → P Sort.statement
          (cond b (Program.ahead t (opens d) (λ from. Program.call (Rule.statement (suc d)) (λ x. Program.take (Token.Keyword w.While) true (λ again. Program.take (Token.Punctuator m.OpenParen) true (λ from.
          Program.call (Rule.expression (suc d)) (λ c. Program.take (Token.Punctuator m.CloseParen) true (λ to. Program.take (Token.Punctuator m.Semicolon) true (λ end. Program.give (StatementTree.DoWhile at x.0 c, false))))))))) Program.refuse)
          (λ ts y. IsStatement g d y.1 (word w.Do at ∷ ts) y.0)
      by true is = Proves.ahead
          (λ first deep low. begun (first, low))
          (λ first ok. o.completes g (samples g) _ _ _ (after first ok) refl)
          after
        where
          begun : (free : Free g) → Sample (λ ts (y : StatementTree × Bool). IsStatement g d y.1 (word w.Do at ∷ token_at t free.0 ∷ ts) y.0)
          begun free =
              let i = begun_by free (suc d) t is in
              record {
                tokens = i.tokens ++ (word w.While free.0 ∷ mark m.OpenParen free.0 ∷ identifier [] free.0 ∷ mark m.CloseParen free.0 ∷ mark m.Semicolon free.0 ∷ []);
                value = (StatementTree.DoWhile at i.value.0 (ExpressionTree.Name free.0 []), false);
                holds = IsStatement.do_while free.0 free.0 (no_limit free d) i.holds (condition free (suc d)) free.0 free.0;
              }
      by false is = Proves.refuse

  front : (at : At) (a : ExpressionTree) (d : Level) (ts us : List Placed) (to : At) → IsExpression g d ts a → Begins at (ts ++ (mark m.Semicolon to ∷ us)) → Some_ ts → first_at ts to ≡ at
  front at a d [] us to h b some = absurd (let e = some.2 in (cc))
  front at a d (t ∷ ts) us to h b some = b

  -- what an expression has is a token at least
  primary_some : {d : Level} {ts : List Placed} {a : ExpressionTree} → IsPrimary g d ts a → Some_ ts
  primary_some IsPrimary.name = (_, _, refl)
  primary_some IsPrimary.number = (_, _, refl)
  primary_some IsPrimary.character = (_, _, refl)
  primary_some (IsPrimary.text AreStrings.one) = (_, _, refl)
  primary_some (IsPrimary.text (AreStrings.another x)) = (_, _, refl)
  primary_some IsPrimary.null = (_, _, refl)
  primary_some IsPrimary.eof = (_, _, refl)
  primary_some (IsPrimary.parenthesized o x to) = (_, _, refl)

  postfix_some : {d : Level} {ts : List Placed} {a : ExpressionTree} → IsPostfix g d ts a → Some_ ts
  postfix_some (IsPostfix.primary x) = primary_some x
  postfix_some (IsPostfix.index {ls = ls} x low o y to) = some_of ls _ _
  postfix_some (IsPostfix.call {ls = ls} x from low o y to) = some_of ls _ _
  postfix_some (IsPostfix.member {ls = ls} x low next) = some_of ls _ _
  postfix_some (IsPostfix.arrow {ls = ls} x low next) = some_of ls _ _
  postfix_some (IsPostfix.step_after {ls = ls} x low p is) = some_of ls _ _

  unary_some : {d : Level} {ts : List Placed} {a : ExpressionTree} → IsUnary g d ts a → Some_ ts
  unary_some (IsUnary.postfix x) = postfix_some x
  unary_some (IsUnary.step_before is o x) = (_, _, refl)
  unary_some (IsUnary.prefix is o x) = (_, _, refl)
  unary_some (IsUnary.sizeof_type o p t to) = (_, _, refl)
  unary_some (IsUnary.sizeof_expression o x) = (_, _, refl)

  cast_some : {d : Level} {ts : List Placed} {a : ExpressionTree} → IsCast g d ts a → Some_ ts
  cast_some (IsCast.unary x) = unary_some x
  cast_some (IsCast.cast o t to x) = (_, _, refl)

  binary_some : {k : ℕ} {d : Level} {ts : List Placed} {a : ExpressionTree} → IsBinary g k d ts a → Some_ ts
  binary_some (IsBinary.operand x) = cast_some x
  binary_some (IsBinary.stronger x) = binary_some x
  binary_some (IsBinary.joined {ls = ls} x low p is y) = some_of ls _ _

  conditional_some : {d : Level} {ts : List Placed} {a : ExpressionTree} → IsConditional g d ts a → Some_ ts
  conditional_some (IsConditional.binary x) = binary_some x
  conditional_some (IsConditional.choice {cs = cs} x low o y colon z) = some_of cs _ _

  assignment_some : {d : Level} {ts : List Placed} {a : ExpressionTree} → IsAssignment g d ts a → Some_ ts
  assignment_some (IsAssignment.conditional x) = conditional_some x
  assignment_some (IsAssignment.assign {ls = ls} x low p is o y) = some_of ls _ _

  pub expression_some : {d : Level} {ts : List Placed} {a : ExpressionTree} → IsExpression g d ts a → Some_ ts
  expression_some (IsExpression.assignment x) = assignment_some x
  expression_some (IsExpression.comma {ls = ls} x low y) = some_of ls _ _

  value_right : (d : Level) (c : Option Token) → P _ (value_statement d c) (λ ts y. IsStatement g d y.1 ts y.0)
  value_right d None = Proves.refuse
  value_right d (Some t) = Proves.ahead (λ at bad low. absurd (false≢true (sym bad))) (λ from ok. o.completes g (samples g) _ _ _ (after from) refl) (λ from ok. after from)
    where
      after : (from : At) → P Sort.statement (Program.call (Rule.expression d) (λ a. Program.take (Token.Punctuator m.Semicolon) true (λ to. Program.give (StatementTree.Expression from a, false))))
          (λ ts y. Begins from ts → IsStatement g d y.1 ts y.0)
      after from = calls (λ a. refl) (λ a us i. takes (λ at. refl) (λ to k. Proves.give (λ b.
          subst (λ z. IsStatement g d false (us ++ (mark m.Semicolon to ∷ [])) (StatementTree.Expression z a)) (front from a d us [] to i b (expression_some i)) (IsStatement.expression i to))))

  statement_right : (d : Level) (c : Option Token) → P _ (statement_by d c) (Means g (Rule.statement d))
  statement_right d (Some (Token.Punctuator m.Semicolon)) = takes (λ at. refl) (λ at k. Proves.give IsStatement.empty)
  statement_right d (Some (Token.Punctuator m.OpenBrace)) = last (λ x us i. IsStatement.block i)
  statement_right d (Some (Token.Keyword w.If)) = takes (λ at. refl) (λ at k. takes (λ at. refl) (λ from l. calls (λ c. refl) (λ c cs i. takes (λ at. refl) (λ to k.
      Proves.call
      (λ x us j. o.completes g (samples g) _ _ _ (else_right at from to d c cs us (open_at from d l) i x.0 x.1 j) (else_goes at c d x.0 x.1))
      (λ x us j. else_right at from to d c cs us (open_at from d l) i x.0 x.1 j)))))
  statement_right d (Some (Token.Keyword w.While)) = takes (λ at. refl) (λ at k. takes (λ at. refl) (λ from l. calls (λ c. refl) (λ c cs i. takes (λ at. refl) (λ to k.
      last (λ x us j. IsStatement.while (open_at from d l) i to j)))))
  statement_right d (Some (Token.Keyword w.Do)) = Proves.take (λ at k free. do_sample at free) (λ at k. Proves.look (do_right d at))
    where
      do_sample : (at : At) (free : Free g) → Sample (λ ts (y : StatementTree × Bool). IsStatement g d y.1 (word w.Do at ∷ ts) y.0)
      do_sample at free = record {
        tokens = mark m.Semicolon free.0 ∷ word w.While free.0 ∷ mark m.OpenParen free.0 ∷ identifier [] free.0 ∷ mark m.CloseParen free.0 ∷ mark m.Semicolon free.0 ∷ [];
        value = (StatementTree.DoWhile at (StatementTree.Empty free.0) (ExpressionTree.Name free.0 []), false);
        holds = IsStatement.do_while free.0 free.0 (no_limit free d) IsStatement.empty (condition free (suc d)) free.0 free.0;
      }
  statement_right d (Some (Token.Keyword w.For)) = takes (λ at. refl) (λ at k. takes (λ at. refl) (λ from l. calls (λ start. refl) (λ start ss i. calls (λ c. refl) (λ c cs j. takes (λ at. refl) (λ middle k.
      calls (λ u. refl) (λ u us n. takes (λ at. refl) (λ to k. last (λ x vs r. IsStatement.for (open_at from d l) i j middle n to r))))))))
  statement_right d (Some (Token.Keyword w.Break)) = takes (λ at. refl) (λ at k. takes (λ at. refl) (λ to k. Proves.give IsStatement.break))
  statement_right d (Some (Token.Keyword w.Continue)) = takes (λ at. refl) (λ at k. takes (λ at. refl) (λ to k. Proves.give IsStatement.continue))
  statement_right d (Some (Token.Keyword w.Return)) = takes (λ at. refl) (λ at k. calls (λ a. refl) (λ a us i. takes (λ at. refl) (λ to k. Proves.give (IsStatement.return i to))))
  statement_right d c = value_right d c

  head_right : (d : Level) (c : Option Token) → P _ (head_by d c) (Means g (Rule.head d))
  head_right d (Some (Token.Keyword w.Struct)) = takes (λ at. refl) (λ first k. o.named g (samples g) (λ x. refl) (λ x at. whens is_open_brace
      (takes (λ at. refl) (λ from l. calls (λ one. refl) (λ one us i. calls (λ ms. refl) (λ ms vs j. takes (λ at. refl) (λ to k. Proves.give (structured first at from to x one ms us vs (open_at from d l) i j))))))
      (Proves.give (IsHead.specifier IsSpecifier.struct))))
    where
      structured : (first at from to : At) (x : List ℕ) (one : _) (ms : List _) (us vs : List Placed) → Opens g from d → IsMember g (suc d) us one → Many (IsMember g (suc d)) vs ms
          → IsHead g d first (word w.Struct first ∷ identifier x at ∷ mark m.OpenBrace from ∷ (us ++ (vs ++ (mark m.CloseBrace to ∷ [])))) (HeadTree.Struct (record { at = at; tag = x; members = one ∷ ms }))
      structured first at from to x one ms us vs op i j =
          rw (← append_assoc us vs (mark m.CloseBrace to ∷ [])) (IsHead.structure (IsStructDefinition.structure op (Many.more i j) to))
  head_right d _ = last (λ x us i. IsHead.specifier i)

  some_more : (ts us : List Placed) → Some_ ts → Some_ (ts ++ us)
  some_more [] us some = absurd (let e = some.2 in (cc))
  some_more (t ∷ ts) us some = (t, ts ++ us, refl)

  specifier_some : {ts : List Placed} {x : Specifier} → IsSpecifier ts x → Some_ ts
  specifier_some IsSpecifier.void = (_, _, refl)
  specifier_some _ = (_, _, refl)

  head_some : {d : Level} {at : At} {ts : List Placed} {h : HeadTree} → IsHead g d at ts h → Some_ ts
  head_some (IsHead.specifier x) = specifier_some x
  head_some (IsHead.structure (IsStructDefinition.structure o x to)) = (_, _, refl)

  external_some : {d : Level} {ts : List Placed} {x : ExternalTree} → IsExternal g d ts x → Some_ ts
  external_some (IsExternal.nothing h to) = some_more _ _ (head_some h)
  external_some (IsExternal.function h t b) = some_more _ _ (head_some h)
  external_some (IsExternal.listed h x to) = some_more _ _ (head_some h)

  unit_right : (c : Option Token) → P _ (unit_by c) (Derives g)
  unit_right None = Proves.give (Derives.unit Many.none)
  unit_right (Some t) = Proves.ahead (λ at bad low. absurd (false≢true (sym bad))) (λ from ok. o.completes g (samples g) _ _ _ (after from) refl) (λ from ok. after from)
    where
      place : (from : At) (us vs : List Placed) (x : ExternalTree) (xs : List ExternalTree) → IsExternal g 0 us x → Many (IsExternal g 0) vs xs → Some_ us → Begins from (us ++ vs)
          → Derives g (us ++ vs) (record { at = from; externals = x ∷ xs })
      place from [] vs x xs h i some b = absurd (let e = some.2 in (cc))
      place from (u ∷ us) vs x xs h i some b = subst (λ z. Derives g ((u ∷ us) ++ vs) (record { at = z; externals = x ∷ xs })) b (Derives.unit (Many.more h i))

      after : (from : At) → P Sort.unit (Program.call (Rule.external 0) (λ x. Program.call (Rule.repeat is_some (Rule.external 0)) (λ xs. Program.give (record { at = from; externals = x ∷ xs }))))
          (λ ts y. Begins from ts → Derives g ts y)
      after from = calls (λ x. refl) (λ x us i. last (λ xs vs j b. place from us vs x xs i j (external_some i) b))

  binary_k : (k : ℕ) (d : Level) → P _ (body (Rule.binary k d)) (IsBinary g k d)
  binary_k zero d = last (λ a us i. IsBinary.operand i)
  binary_k (suc k) d = calls (λ a. refl) (λ a us i. last (λ b vs j. j us (IsBinary.stronger i)))

  proves : (sort : Sort) (r : Rule sort) → P sort (body r) (Means g r)
  proves _ (Rule.optionally none r) = whens none (Proves.give Optional.absent) (last (λ x us i. Optional.present i))
  proves _ (Rule.repeat begins r) = whens begins (calls (λ x. refl) (λ x us i. last (λ xs vs j. Many.more i j))) (Proves.give Many.none)
  proves _ (Rule.commas r) = calls (λ x. refl) (λ x us i. last (λ xs vs j. j us i))
  proves _ (Rule.commas_rest r x) = whens is_comma
      (takes (λ at. refl) (λ at k. last (λ xs us i ls h. Commas.next h at i)))
      (Proves.give (λ ls h. e.nothing_behind g (Commas (Means g r)) ls (x ∷ []) (Commas.last h)))
  proves _ Rule.identifier = Proves.look (e.identifier_right g)
  proves _ Rule.strings = Proves.look (e.strings_right g)
  proves _ Rule.specifier = Proves.look (e.specifier_right g)
  proves _ (Rule.stars d) = whens is_star (takes (λ at. refl) (λ at k. last (λ n us i. e.one_star g d n at us (open_at at d k) i))) (Proves.give (e.no_star g d))
  proves _ (Rule.expression d) = calls (λ a. refl) (λ a us i. last (λ b vs j. j us (IsExpression.assignment i)))
  proves _ (Rule.comma_rest d a) = whens is_comma
      (takes (λ at. refl) (λ at k. calls (λ b. refl) (λ b us i. last (λ c vs j ls h.
      rw (← append_assoc ls (mark m.Comma at ∷ us) vs) (j (ls ++ (mark m.Comma at ∷ us)) (IsExpression.comma h (o.lowered g (samples g) at a k) i))))))
      (Proves.give (λ ls h. e.nothing_behind g (IsExpression g d) ls a h))
  proves _ (Rule.assignment d) = calls (λ a. refl) (λ a us i. Proves.look (λ c. e.assign_right g d a us i (assigns c) (assigns_is c)))
  proves _ (Rule.conditional d) = calls (λ a. refl) (λ a cs i. whens is_question
      (takes (λ at. refl) (λ at k. calls (λ b. refl) (λ b ts j. takes (λ at. refl) (λ colon l. last (λ c us n.
      IsConditional.choice i (o.low_of g (samples g) at a d k) (o.open_of g (samples g) at a d k) j colon n)))))
      (Proves.give (e.nothing_behind g (IsConditional g d) cs a (IsConditional.binary i))))
  proves _ (Rule.binary k d) = binary_k k d
  proves _ (Rule.binary_rest k d a) = Proves.look (λ c. e.binary_right g k d a (operator (suc k) c) (operator_is (suc k) c))
  proves _ (Rule.cast d) = Proves.look (e.cast_right g d)
  proves _ (Rule.unary d) = Proves.look (e.unary_right g d)
  proves _ (Rule.postfix d) = calls (λ a. refl) (λ a us i. last (λ b vs j. j us (IsPostfix.primary i)))
  proves _ (Rule.postfix_rest d a) = Proves.look (e.postfix_right g d a)
  proves _ (Rule.primary d) = Proves.look (e.primary_right g d)
  proves _ (Rule.parenthesized d at) = calls (λ a. refl) (λ a us i. takes (λ at. refl) (λ to k. Proves.give (λ op. IsPrimary.parenthesized op i to)))
  proves _ (Rule.arguments d) = whens is_close_paren (Proves.give AreArguments.no_argument) (last (λ xs us i. AreArguments.some_arguments i))
  proves _ (Rule.listed d) = calls (λ a. refl) (λ a us i. whens is_comma
      (takes (λ at. refl) (λ at k. last (λ rest vs j. AreListed.next i at j)))
      (Proves.give (e.nothing_behind g (AreListed g d) us (ExpressionTrees.more a ExpressionTrees.none) (AreListed.last i))))
  proves _ (Rule.type_name d) = calls (λ x. refl) (λ x us i. last (λ t vs j. IsTypeName.type_name i j))
  proves _ (Rule.type_declarator d at) = calls (λ n. refl) (λ n us i. type_declarator_right d at n us i)
  proves _ (Rule.sizes d) = whens is_open_bracket
      (takes (λ at. refl) (λ at k. calls (λ c. refl) (λ c us i. takes (λ at. refl) (λ to l. last (λ rest vs j. AreSizes.size (open_at at d k) i to j)))))
      (Proves.give AreSizes.no_size)
  proves _ (Rule.array d) = takes (λ at. refl) (λ at k. calls (λ size. refl) (λ size us i. takes (λ at. refl) (λ to l. Proves.give (IsArray.array (open_at at d k) i to))))
  proves _ (Rule.parameter_declarator d at) = calls (λ n. refl) (λ n us i. Proves.look (parameter_declarator_right d at n us i))
  proves _ (Rule.parameter d) = calls (λ x. refl) (λ x us i. last (λ t vs j. IsParameter.parameter i j))
  proves _ (Rule.parameters d) = Proves.call (λ ps us i. (parameters_right d ps us i).0) (λ ps us i. (parameters_right d ps us i).1)
  proves _ (Rule.suffix d) = whens is_open_bracket (last (λ a us i. IsSuffix.array i))
      (takes (λ at. refl) (λ at k. calls (λ ps. refl) (λ ps us i. takes (λ at. refl) (λ to l. Proves.give (IsSuffix.function (open_at at d k) i to)))))
  proves _ (Rule.declarator d) = Proves.call
      (λ n us i free. record { tokens = identifier [] free.0 ∷ []; value = DeclaratorTree.Named free.0 n [] []; holds = IsDeclarator.named i Many.none })
      (λ n us i. Proves.look (declarator_right d n us i))
  proves _ (Rule.initializer d) = whens is_open_brace
      (takes (λ at. refl) (λ at k. calls (λ ps. refl) (λ ps us i. takes (λ at. refl) (λ to l. Proves.give (braced d at to us ps (open_at at d k) i)))))
      (last (λ a us i. IsInitializer.expression i))
    where
      braced : (d : Level) (at to : At) (us : List Placed) (ps : InitializerTrees) → Opens g at d → Parts g (suc d) us ps
          → IsInitializer g d (mark m.OpenBrace at ∷ (us ++ (mark m.CloseBrace to ∷ []))) (InitializerTree.Braced at ps)
      braced d at to us ps op (Parts.plain i) = IsInitializer.braced op i to
      braced d at to us ps op (Parts.trailing vs comma is i) = rw (is, append_assoc vs (mark m.Comma comma ∷ []) (mark m.CloseBrace to ∷ [])) (IsInitializer.braced_comma op i comma to)
  proves _ (Rule.parts d) = calls (λ x. refl) (λ x us i. whens is_comma
      (takes (λ at. refl) (λ at k. whens is_close_brace
      (Proves.give (Parts.trailing us at refl (AreParts.last i)))
      (last (λ rest vs j. further d x rest at us vs i j))))
      (Proves.give (Parts.plain (e.nothing_behind g (AreParts g d) us (InitializerTrees.more x InitializerTrees.none) (AreParts.last i)))))
    where
      further : (d : Level) (x : InitializerTree) (rest : InitializerTrees) (at : At) (us vs : List Placed) → IsInitializer g d us x → Parts g d vs rest
          → Parts g d (us ++ (mark m.Comma at ∷ vs)) (InitializerTrees.more x rest)
      further d x rest at us vs i (Parts.plain j) = Parts.plain (AreParts.next i at j)
      further d x rest at us vs i (Parts.trailing ws comma is j) =
          Parts.trailing (us ++ (mark m.Comma at ∷ ws)) comma (ap (λ z. us ++ (mark m.Comma at ∷ z)) is ∙ sym (append_assoc us (mark m.Comma at ∷ ws) (mark m.Comma comma ∷ []))) (AreParts.next i at j)
  proves _ (Rule.init_declarator d) = calls (λ t. refl) (λ t us i. last (λ x vs j. j us i))
  proves _ (Rule.init_rest d t) = whens is_equal
      (takes (λ at. refl) (λ at k. last (λ i us j ls h. IsInitDeclarator.initialized h j)))
      (Proves.give (λ ls h. e.nothing_behind g (IsInitDeclarator g d) ls (record { at = declarator_at t; declarator = t; initializer = None }) (IsInitDeclarator.bare h)))
  proves _ (Rule.declaration d) = calls (λ x. refl) (λ x us i. whens is_semicolon
      (takes (λ at. refl) (λ to k. Proves.give (IsDeclaration.nothing i to)))
      (calls (λ xs. refl) (λ xs vs j. takes (λ at. refl) (λ to k. Proves.give (IsDeclaration.listed i j to)))))
  proves _ (Rule.member d) = calls (λ x. refl) (λ x us i. calls (λ xs. refl) (λ xs vs j. takes (λ at. refl) (λ to k. Proves.give (IsMember.member i j to))))
  proves _ (Rule.for_start d) = whens begins_specifier (last (λ x us i. IsForStart.declaration i))
      (calls (λ a. refl) (λ a us i. takes (λ at. refl) (λ to k. Proves.give (IsForStart.expression i to))))
  proves _ (Rule.statement d) = Proves.look (statement_right d)
  proves _ (Rule.block d) = takes (λ at. refl) (λ at k. calls (λ xs. refl) (λ xs us i. takes (λ at. refl) (λ to l. Proves.give (IsBlock.braces (open_at at d k) i to))))
  proves _ (Rule.items d) = whens is_close_brace (Proves.give AreItems.no_item) (calls (λ x. refl) (λ x us i. last (λ rest vs j. AreItems.item i j)))
  proves _ (Rule.item d) = whens begins_specifier (last (λ x us i. IsItem.declaration i)) (last (λ x us i. IsItem.statement i))
  proves _ (Rule.head d) = Proves.look (head_right d)
  proves _ (Rule.external d) = calls (λ h. refl) (λ h hs i. whens is_semicolon
      (takes (λ at. refl) (λ to k. Proves.give (IsExternal.nothing i to)))
      (calls (λ t. refl) (λ t ts j. whens is_open_brace
      (last (λ x us n. IsExternal.function i j n))
      (calls (λ x. refl) (λ x us n. calls (λ xs. refl) (λ xs vs r. takes (λ at. refl) (λ to k. Proves.give (external d h.1 h.0 hs ts us vs xs to i (r (ts ++ us) (n ts j))))))))))
    where
      external : (d : Level) (at : At) (h : HeadTree) (hs ts us vs : List Placed) (xs : List InitDeclaratorTree) (to : At) → IsHead g d at hs h → Commas (IsInitDeclarator g d) ((ts ++ us) ++ vs) xs
          → IsExternal g d (hs ++ (ts ++ (us ++ (vs ++ (mark m.Semicolon to ∷ []))))) (ExternalTree.Declaration at h xs)
      external d at h hs ts us vs xs to i j =
          let e1 : ((ts ++ us) ++ vs) ++ (mark m.Semicolon to ∷ []) ≡ ts ++ (us ++ (vs ++ (mark m.Semicolon to ∷ []))) =
          append_assoc (ts ++ us) vs (mark m.Semicolon to ∷ []) ∙ append_assoc ts us (vs ++ (mark m.Semicolon to ∷ [])) in
          subst (λ z. IsExternal g d (hs ++ z) (ExternalTree.Declaration at h xs)) e1 (IsExternal.listed i j to)
  proves _ Rule.unit = Proves.look unit_right

  pub all_right : (sort : Sort) (r : Rule sort) → Good g sort (body r) (Means g r)
  all_right sort r = record { some = samples g sort r; proves = proves sort r }
