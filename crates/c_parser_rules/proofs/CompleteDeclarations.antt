-- What the grammar of declarations derives is read.
use Rattle.std.proofs.Common.{◌≡◌, ℕ, suc, ◌<◌, ◌+◌, Bool, true, false, cond, ◌&&◌, List, [], ◌∷◌, ◌++◌, Option, Some, refl, sym, ap, ◌∙◌, subst, append_assoc, arith}
use Rattle.std.proofs.lemmas.Bool.{false≢true}
use Rattle.c_words.specs.Tokens.{Token, Placed}
use Rattle.c_words.specs.declared.place.At.{At}
use Rattle.c_words.specs.declared.words.Keyword.TheVariants as w
use Rattle.c_words.specs.declared.words.Punctuator.TheVariants as m
use Rattle.syntax_tree.specs.Syntax.{ArrayTree, ParameterDeclaratorTree, ParameterTree, ParametersTree, SuffixTree, DeclaratorTree, InitializerTree, InitializerTrees, InitDeclaratorTree, DeclarationTree, MemberDeclarationTree}
use Rattle.syntax_tree.specs.GrammarLimits.{Limits, Level, Opens}
use Rattle.syntax_tree.specs.GrammarTokens.{mark, word, identifier, Optional, Many, Commas}
use Rattle.syntax_tree.specs.GrammarExpressions.{IsSpecifier, AreStars}
use Rattle.syntax_tree.specs.GrammarDeclarations.{parameter_declarator_at, is_lone_void, IsArray, IsParameterDeclarator, IsParameter, AreParameters, IsSuffix, IsDeclarator, IsInitializer, AreParts, IsInitDeclarator, IsDeclaration, IsMember}
use Rattle.c_parser_rules.specs.Programs.{Sort, Value, Rule, Program, Outcome}
use Rattle.c_parser_rules.specs.Tests.{first, is_comma, is_semicolon, is_equal, is_star, is_open_paren, is_close_paren, is_open_bracket, is_close_bracket, is_open_brace, is_close_brace, begins_expression, begins_specifier, begins_suffix}
use Rattle.c_parser_rules.specs.Bodies.{body, is_no_declarator, is_void, parameters_of, parameter_declarator_by}
use Rattle.c_parser_rules.specs.Runs.{Runs}
use Rattle.c_parser_rules.proofs.CompleteSteps as c
use Rattle.c_parser_rules.proofs.Follow as f
use Rattle.c_parser_rules.proofs.Follow.{Front, level}
use Rattle.c_parser_rules.proofs.CompleteExpressions as e
use Rattle.c_parser_rules.proofs.DeclarationsRight.{void_alone}

not_close_bracket : (x : Token) → begins_expression x ≡ true → is_close_bracket (Some x) ≡ false
not_close_bracket (Token.Punctuator m.CloseBracket) h = absurd (false≢true h)
not_close_bracket _ h = refl

-- what follows a parameter
abbrev pub ends_parameter : Option Token → Bool
ends_parameter (Some (Token.Punctuator m.Comma)) = true
ends_parameter (Some (Token.Punctuator m.CloseParen)) = true
ends_parameter _ = false

abbrev is_name : Option Token → Bool
is_name (Some (Token.Name x)) = true
is_name _ = false

-- what begins no declarator of a parameter
record Behind (x : Option Token) : Type 0 where
  star : is_star x ≡ false
  paren : is_open_paren x ≡ false
  name : is_name x ≡ false
  word : begins_specifier x ≡ false

behind_parameter : (x : Option Token) → ends_parameter x ≡ true → Behind x × (is_open_bracket x ≡ false)
behind_parameter (Some (Token.Punctuator m.Comma)) h = (record { star = refl; paren = refl; name = refl; word = refl }, refl)
behind_parameter (Some (Token.Punctuator m.CloseParen)) h = (record { star = refl; paren = refl; name = refl; word = refl }, refl)
behind_parameter _ h = absurd (false≢true h)

close_ends : (x : Option Token) → is_close_paren x ≡ true → (ends_parameter x ≡ true) × (is_comma x ≡ false)
close_ends (Some (Token.Punctuator m.CloseParen)) h = (refl, refl)
close_ends _ h = absurd (false≢true h)

by_default : (d : Level) (at : At) (n : ℕ) (x : Option Token) → Behind x
    → parameter_declarator_by d at n x ≡ Program.call (Rule.repeat is_open_bracket (Rule.array d)) (λ arrays. Program.give (ParameterDeclaratorTree.Unnamed at n arrays))
by_default d at n (Some (Token.Name x)) b = absurd (false≢true (sym b.name))
by_default d at n (Some (Token.Punctuator m.OpenParen)) b = absurd (false≢true (sym b.paren))
by_default d at n _ b = refl

-- what a declarator begins with
abbrev pub begins_declarator : Token → Bool
begins_declarator (Token.Punctuator m.Star) = true
begins_declarator (Token.Punctuator m.OpenParen) = true
begins_declarator (Token.Name x) = true
begins_declarator _ = false

-- what follows a declarator with its initializer
abbrev pub ends_init : Option Token → Bool
ends_init (Some (Token.Punctuator m.Comma)) = true
ends_init (Some (Token.Punctuator m.Semicolon)) = true
ends_init _ = false

module _ (g : Limits) where
  pub many_read : {s : Sort} (begins : Option Token → Bool) (r : Rule s) {Is : List Placed → Value s → Type 0}
      → ((ts : List Placed) (x : Value s) → Is ts x → (rest : List Placed) → (begins (first (ts ++ rest)) ≡ true) × Runs g s (body r) (ts ++ rest) (Outcome.read x rest))
      → {ts : List Placed} {xs : List (Value s)} → Many Is ts xs → (rest : List Placed) → begins (first rest) ≡ false
      → Runs g (Sort.many s) (body (Rule.repeat begins r)) (ts ++ rest) (Outcome.read xs rest)
  many_read begins r one Many.none rest h = c.no_ g begins _ _ h Runs.give
  many_read begins r one (Many.more {ts = ts} {x = x} {us = us} i is) rest h =
      let j = one ts x i (us ++ rest) in
      rw append_assoc (c.yes_ g begins _ _ j.0 (Runs.call j.1 (Runs.call (many_read begins r one is rest h) Runs.give)))

  commas_read : {s : Sort} (ends : Option Token → Bool) (r : Rule s) {Is : List Placed → Value s → Type 0} → ((at : At) → ends (Some (Token.Punctuator m.Comma)) ≡ true)
      → ((ts : List Placed) (x : Value s) → Is ts x → (rest : List Placed) → ends (first rest) ≡ true → Runs g s (body r) (ts ++ rest) (Outcome.read x rest))
      → {ts : List Placed} {xs : List (Value s)} → Commas Is ts xs → (rest : List Placed) → ends (first rest) ≡ true → is_comma (first rest) ≡ false
      → Runs g (Sort.many s) (body (Rule.commas r)) (ts ++ rest) (Outcome.read xs rest)
  commas_read ends r comma one (Commas.last {ts = ts} {x = x} i) rest h no_more = Runs.call (one ts x i rest h) (c.reads_ g (c.no_ g is_comma _ _ no_more Runs.give))
  commas_read ends r comma one (Commas.next {ts = ts} {x = x} {us = us} i at is) rest h no_more =
      rw append_assoc (Runs.call (one ts x i (mark m.Comma at ∷ (us ++ rest)) (comma at))
      (c.reads_ g (c.yes_ g is_comma _ _ refl (Runs.take (λ k. refl) (Runs.call (commas_read ends r comma one is rest h no_more) Runs.give)))))

  pub optional_read : {s : Sort} (none : Option Token → Bool) (r : Rule s) {Is : List Placed → Value s → Type 0} (rest : List Placed) → none (first rest) ≡ true
      → ((ts : List Placed) (x : Value s) → Is ts x → (none (first (ts ++ rest)) ≡ false) × Runs g s (body r) (ts ++ rest) (Outcome.read x rest))
      → {ts : List Placed} {x : Option (Value s)} → Optional Is ts x → Runs g (Sort.optional s) (body (Rule.optionally none r)) (ts ++ rest) (Outcome.read x rest)
  optional_read none r rest h one Optional.absent = c.yes_ g none _ _ h Runs.give
  optional_read none r rest h one (Optional.present {ts = ts} {x = x} i) = let j = one ts x i in c.no_ g none _ _ j.0 (Runs.call j.1 Runs.give)

  array_read : (d : Level) (ts : List Placed) (a : ArrayTree) → IsArray g d ts a → (rest : List Placed)
      → (is_open_bracket (first (ts ++ rest)) ≡ true) × Runs g Sort.array (body (Rule.array d)) (ts ++ rest) (Outcome.read a rest)
  array_read d _ _ (IsArray.array {at = at} {ts = ts} o x to) rest = (
    refl,
    rw append_assoc (Runs.take (c.ok g at d o)
        (Runs.call (optional_read is_close_bracket (Rule.conditional (suc d)) (mark m.CloseBracket to ∷ rest) refl
        (λ ts a i. (f.front_is begins_expression is_close_bracket not_close_bracket ts (mark m.CloseBracket to ∷ rest) (f.conditional_front g i), e.conditional g i (mark m.CloseBracket to ∷ rest) (omega arith))) x)
        (Runs.take (λ k. refl) Runs.give))),
  )

  arrays_read : {d : Level} {ts : List Placed} {xs : List ArrayTree} → Many (IsArray g d) ts xs → (rest : List Placed) → is_open_bracket (first rest) ≡ false
      → Runs g (Sort.many Sort.array) (body (Rule.repeat is_open_bracket (Rule.array d))) (ts ++ rest) (Outcome.read xs rest)
  arrays_read {d = d} x rest h = many_read is_open_bracket (Rule.array d) (array_read d) x rest h

  arrays_behind : {d : Level} {ts : List Placed} {xs : List ArrayTree} → Many (IsArray g d) ts xs → (rest : List Placed) → Behind (first rest) → Behind (first (ts ++ rest))
  arrays_behind Many.none rest b = b
  arrays_behind (Many.more (IsArray.array o x to) xs) rest b = record { star = refl; paren = refl; name = refl; word = refl }

  no_declarator : (t : ParameterDeclaratorTree) (q : Placed) (us : List Placed) (d : Level) (at : At) → IsParameterDeclarator g d at (q ∷ us) t → is_no_declarator t ≡ false
  no_declarator t q us d at x = by (is_no_declarator t) refl
    where
      stars_zero : {d e : Level} {ts : List Placed} → AreStars g d e ts 0 → ts ≡ []
      stars_zero AreStars.no_star = refl

      empty : {ts : List Placed} {u : ParameterDeclaratorTree} → IsParameterDeclarator g d at ts u → is_no_declarator u ≡ true → ts ≡ []
      empty (IsParameterDeclarator.unnamed AreStars.no_star Many.none) h = refl
      empty (IsParameterDeclarator.unnamed AreStars.no_star (Many.more y ys)) h = absurd (false≢true h)
      empty (IsParameterDeclarator.unnamed (AreStars.star o y) z) h = absurd (false≢true h)
      empty (IsParameterDeclarator.named y z) h = absurd (false≢true h)
      empty (IsParameterDeclarator.nested y from o i to z) h = absurd (false≢true h)

      by : (b : Bool) → is_no_declarator t ≡ b → b ≡ false
      by true is = absurd (let e : q ∷ us ≡ [] = empty x is in (cc))
      by false is = refl

  inner_ends : (d : Level) (at to : At) (ts rest : List Placed) (n : ℕ) (inner : ParameterDeclaratorTree) (xs : List ArrayTree) → is_no_declarator inner ≡ false
      → Runs g (Sort.many Sort.array) (body (Rule.repeat is_open_bracket (Rule.array d))) (ts ++ rest) (Outcome.read xs rest)
      → Runs g Sort.parameter_declarator (cond (is_no_declarator inner) Program.refuse (Program.take (Token.Punctuator m.CloseParen) true (λ to. Program.call (Rule.repeat is_open_bracket (Rule.array d)) (λ arrays.
      Program.give (ParameterDeclaratorTree.Nested (parameter_declarator_at inner) n inner arrays)))))
      (mark m.CloseParen to ∷ (ts ++ rest)) (Outcome.read (ParameterDeclaratorTree.Nested (parameter_declarator_at inner) n inner xs) rest)
  inner_ends d at to ts rest n inner xs some r = rw some (Runs.take (λ k. refl) (Runs.call r Runs.give))

  arrays_at : (d e n : ℕ) → e ≡ d + n → (all rest : List Placed) (xs : List ArrayTree) → Runs g (Sort.many Sort.array) (body (Rule.repeat is_open_bracket (Rule.array e))) all (Outcome.read xs rest)
      → Runs g (Sort.many Sort.array) (body (Rule.repeat is_open_bracket (Rule.array (d + n)))) all (Outcome.read xs rest)
  arrays_at d e n deep all rest xs r = subst (λ z. Runs g (Sort.many Sort.array) (body (Rule.repeat is_open_bracket (Rule.array z))) all (Outcome.read xs rest)) deep r

  parameter_declarator_read : {d : Level} {at : At} {ts : List Placed} {t : ParameterDeclaratorTree} → IsParameterDeclarator g d at ts t → (rest : List Placed) → ends_parameter (first rest) ≡ true
      → Runs g Sort.parameter_declarator (body (Rule.parameter_declarator d at)) (ts ++ rest) (Outcome.read t rest)
  parameter_declarator_read (IsParameterDeclarator.unnamed {d = d} {e = l} {at = at} {n = n} {ts = ts} {arrays = xs} x y) rest h =
      let b = behind_parameter (first rest) h in
      let i = arrays_behind y rest b.0 in
      rw append_assoc (Runs.call (e.stars_read g x (ts ++ rest) i.star)
      (c.looked g (parameter_declarator_by (d + n) at n) _ (by_default (d + n) at n (first (ts ++ rest)) i)
      (Runs.call (arrays_at d l n (e.stars_deep g x) (ts ++ rest) rest xs (arrays_read y rest b.1)) Runs.give)))
  parameter_declarator_read (IsParameterDeclarator.named {d = d} {e = l} {at = at} {own = own} {n = n} {x = name} {ts = ts} {arrays = xs} x y) rest h =
      let b = behind_parameter (first rest) h in
      rw append_assoc (Runs.call (e.stars_read g x (identifier name own ∷ (ts ++ rest)) refl)
      (Runs.look (Runs.take (λ k. refl) (Runs.call (arrays_at d l n (e.stars_deep g x) (ts ++ rest) rest xs (arrays_read y rest b.1)) Runs.give))))
  parameter_declarator_read (IsParameterDeclarator.nested {d = d} {e = l} {at = at} {n = n} {first = q} {us = us} {inner = inner} {ts = ts} {arrays = xs} x from o t to y) rest h =
      let b = behind_parameter (first rest) h in
      let deep = e.stars_deep g x in
      let i = subst (λ z. Runs g Sort.parameter_declarator (body (Rule.parameter_declarator (suc z) at)) (q ∷ (us ++ (mark m.CloseParen to ∷ (ts ++ rest)))) (Outcome.read inner (mark m.CloseParen to ∷ (ts ++ rest)))) deep
      (parameter_declarator_read t (mark m.CloseParen to ∷ (ts ++ rest)) refl) in
      rw (append_assoc, append_assoc) (Runs.call (e.stars_read g x (mark m.OpenParen from ∷ (q ∷ (us ++ (mark m.CloseParen to ∷ (ts ++ rest))))) refl)
      (Runs.look (Runs.take (c.ok g from (d + n) (subst (λ z. Opens g from z) deep o)) (Runs.call i
      (inner_ends (d + n) at to ts rest n inner xs (no_declarator inner q us _ at t) (arrays_at d l n deep (ts ++ rest) rest xs (arrays_read y rest b.1)))))))

  declarator_word : {d : Level} {at : At} {ts : List Placed} {t : ParameterDeclaratorTree} → IsParameterDeclarator g d at ts t → (rest : List Placed) → ends_parameter (first rest) ≡ true
      → begins_specifier (first (ts ++ rest)) ≡ false
  declarator_word (IsParameterDeclarator.unnamed AreStars.no_star y) rest h = (arrays_behind y rest (behind_parameter (first rest) h).0).word
  declarator_word (IsParameterDeclarator.unnamed (AreStars.star o x) y) rest h = refl
  declarator_word (IsParameterDeclarator.named AreStars.no_star y) rest h = refl
  declarator_word (IsParameterDeclarator.named (AreStars.star o x) y) rest h = refl
  declarator_word (IsParameterDeclarator.nested AreStars.no_star from o i to y) rest h = refl
  declarator_word (IsParameterDeclarator.nested (AreStars.star p x) from o i to y) rest h = refl

  parameter_read : (d : Level) (ts : List Placed) (p : ParameterTree) → IsParameter g d ts p → (rest : List Placed) → ends_parameter (first rest) ≡ true
      → Runs g Sort.parameter (body (Rule.parameter d)) (ts ++ rest) (Outcome.read p rest)
  parameter_read d _ _ (IsParameter.parameter {ss = ss} {ts = ts} x t) rest h =
      rw append_assoc (Runs.call (e.specifier_read g x (ts ++ rest) (declarator_word t rest h)) (Runs.call (parameter_declarator_read t rest h) Runs.give))

  parameters_list : (d : Level) (ts : List Placed) (ps : List ParameterTree) → Commas (IsParameter g d) ts ps → (rest : List Placed) → is_close_paren (first rest) ≡ true
      → Runs g (Sort.many Sort.parameter) (body (Rule.commas (Rule.parameter d))) (ts ++ rest) (Outcome.read ps rest)
  parameters_list d ts ps x rest h = let b = close_ends (first rest) h in commas_read ends_parameter (Rule.parameter d) (λ at. refl) (parameter_read d) x rest b.0 b.1

  not_lone : (d : Level) (ts : List Placed) (p : ParameterTree) → IsParameter g d ts p → is_lone_void ts ≡ false → (b : Bool) → (is_void p.specifier && is_no_declarator p.declarator) ≡ b → b ≡ false
  not_lone d ts p x h true is = absurd (false≢true (sym h ∙ ap is_lone_void (void_alone g x is)))
  not_lone d ts p x h false is = refl

  listed_parameters : (d : Level) (ts : List Placed) (p : ParameterTree) (ps : List ParameterTree) → Commas (IsParameter g d) ts (p ∷ ps) → is_lone_void ts ≡ false → (rest : List Placed)
      → Runs g Sort.parameters (parameters_of (p ∷ ps)) rest (Outcome.read (ParametersTree.Listed p.at (p ∷ ps)) rest)
  listed_parameters d ts p _ (Commas.last x) h rest = rw (not_lone d ts p x h (is_void p.specifier && is_no_declarator p.declarator) refl) Runs.give
  listed_parameters d _ p _ (Commas.next x comma (Commas.last y)) h rest = Runs.give
  listed_parameters d _ p _ (Commas.next x comma (Commas.next y other z)) h rest = Runs.give

  parameters_read : (d : Level) (ts : List Placed) (ps : ParametersTree) → AreParameters g d ts ps → (rest : List Placed) → is_close_paren (first rest) ≡ true
      → Runs g Sort.parameters (body (Rule.parameters d)) (ts ++ rest) (Outcome.read ps rest)
  parameters_read d _ _ (AreParameters.void {at = at}) rest h =
      Runs.call (parameters_list d (word w.Void at ∷ []) _ (Commas.last (IsParameter.parameter IsSpecifier.void (IsParameterDeclarator.unnamed AreStars.no_star Many.none))) rest h) Runs.give
  parameters_read d ts _ (AreParameters.listed {first = p} {rest = ps} x alone) rest h = Runs.call (parameters_list d ts (p ∷ ps) x rest h) (listed_parameters d ts p ps x alone rest)

  not_close_paren : {d : Level} {ts : List Placed} {ps : ParametersTree} → AreParameters g d ts ps → (rest : List Placed) → is_close_paren (first (ts ++ rest)) ≡ false
  not_close_paren AreParameters.void rest = refl
  not_close_paren (AreParameters.listed x alone) rest = by x rest
    where
      word_paren : (x : Option Token) → begins_specifier x ≡ true → is_close_paren x ≡ false
      word_paren (Some (Token.Punctuator m.CloseParen)) h = absurd (false≢true h)
      word_paren _ h = refl

      one : {d : Level} {ts : List Placed} {p : ParameterTree} → IsParameter g d ts p → (rest : List Placed) → is_close_paren (first (ts ++ rest)) ≡ false
      one (IsParameter.parameter {ss = ss} {ts = ts} x t) rest = rw append_assoc (word_paren _ (e.specifier_first g x (ts ++ rest)))

      by : {d : Level} {ts : List Placed} {ps : List ParameterTree} → Commas (IsParameter g d) ts ps → (rest : List Placed) → is_close_paren (first (ts ++ rest)) ≡ false
      by (Commas.last i) rest = one i rest
      by (Commas.next {ts = ts} {us = us} i comma is) rest = rw append_assoc (one i (mark m.Comma comma ∷ (us ++ rest)))

  suffix_read : (d : Level) (ts : List Placed) (x : SuffixTree) → IsSuffix g d ts x → (rest : List Placed)
      → (begins_suffix (first (ts ++ rest)) ≡ true) × Runs g Sort.suffix (body (Rule.suffix d)) (ts ++ rest) (Outcome.read x rest)
  suffix_read d ts _ (IsSuffix.array {a = a} i) rest = let j = array_read d ts a i rest in (bracket (first (ts ++ rest)) j.0, c.yes_ g is_open_bracket _ _ j.0 (Runs.call j.1 Runs.give))
    where
      bracket : (x : Option Token) → is_open_bracket x ≡ true → begins_suffix x ≡ true
      bracket (Some (Token.Punctuator m.OpenBracket)) h = refl
      bracket _ h = absurd (false≢true h)
  suffix_read d _ _ (IsSuffix.function {at = at} {ts = ts} o x to) rest = (
    refl,
    rw append_assoc (c.no_ g is_open_bracket _ _ refl (Runs.take (c.ok g at d o)
        (Runs.call (optional_read is_close_paren (Rule.parameters (suc d)) (mark m.CloseParen to ∷ rest) refl
        (λ ts ps i. (not_close_paren i (mark m.CloseParen to ∷ rest), parameters_read (suc d) ts ps i (mark m.CloseParen to ∷ rest) refl)) x)
        (Runs.take (λ k. refl) Runs.give)))),
  )

  suffixes_at : (d e n : ℕ) → e ≡ d + n → {ts : List Placed} {xs : List SuffixTree} → Many (IsSuffix g e) ts xs → (rest : List Placed) → begins_suffix (first rest) ≡ false
      → Runs g (Sort.many Sort.suffix) (body (Rule.repeat begins_suffix (Rule.suffix (d + n)))) (ts ++ rest) (Outcome.read xs rest)
  suffixes_at d e n deep {ts = ts} {xs = xs} x rest h =
      subst (λ z. Runs g (Sort.many Sort.suffix) (body (Rule.repeat begins_suffix (Rule.suffix z))) (ts ++ rest) (Outcome.read xs rest)) deep (many_read begins_suffix (Rule.suffix e) (suffix_read e) x rest h)

  pub declarator_read : {d : Level} {ts : List Placed} {t : DeclaratorTree} → IsDeclarator g d ts t → (rest : List Placed) → begins_suffix (first rest) ≡ false
      → Runs g Sort.declarator (body (Rule.declarator d)) (ts ++ rest) (Outcome.read t rest)
  declarator_read (IsDeclarator.named {d = d} {e = l} {at = at} {n = n} {x = name} {ts = ts} x y) rest h =
      rw append_assoc (Runs.call (e.stars_read g x (identifier name at ∷ (ts ++ rest)) refl) (Runs.look (Runs.take (λ k. refl) (Runs.call (suffixes_at d l n (e.stars_deep g x) y rest h) Runs.give))))
  declarator_read (IsDeclarator.nested {d = d} {e = l} {n = n} {us = us} {inner = inner} {ts = ts} x from o t to y) rest h =
      let deep = e.stars_deep g x in
      let i = subst (λ z. Runs g Sort.declarator (body (Rule.declarator (suc z))) (us ++ (mark m.CloseParen to ∷ (ts ++ rest))) (Outcome.read inner (mark m.CloseParen to ∷ (ts ++ rest)))) deep
      (declarator_read t (mark m.CloseParen to ∷ (ts ++ rest)) refl) in
      rw (append_assoc, append_assoc) (Runs.call (e.stars_read g x (mark m.OpenParen from ∷ (us ++ (mark m.CloseParen to ∷ (ts ++ rest)))) refl)
      (Runs.look (Runs.take (c.ok g from (d + n) (subst (λ z. Opens g from z) deep o)) (Runs.call i (Runs.take (λ k. refl) (Runs.call (suffixes_at d l n deep y rest h) Runs.give))))))

  pub declarator_front : {d : Level} {ts : List Placed} {t : DeclaratorTree} → IsDeclarator g d ts t → Front begins_declarator ts
  declarator_front (IsDeclarator.named AreStars.no_star y) = (_, _, refl, refl)
  declarator_front (IsDeclarator.named (AreStars.star o x) y) = (_, _, refl, refl)
  declarator_front (IsDeclarator.nested AreStars.no_star from o t to y) = (_, _, refl, refl)
  declarator_front (IsDeclarator.nested (AreStars.star p x) from o t to y) = (_, _, refl, refl)

  -- ---- initializers
  abbrev begins_initializer : Token → Bool
  begins_initializer (Token.Punctuator m.OpenBrace) = true
  begins_initializer x = begins_expression x

  as_initializer : (x : Token) → begins_expression x ≡ true → begins_initializer x ≡ true
  as_initializer (Token.Punctuator m.OpenBrace) h = refl
  as_initializer (Token.Punctuator _) h = h
  as_initializer _ h = h

  not_open_brace : (x : Token) → begins_expression x ≡ true → is_open_brace (Some x) ≡ false
  not_open_brace (Token.Punctuator m.OpenBrace) h = absurd (false≢true h)
  not_open_brace _ h = refl

  not_close_brace : (x : Token) → begins_initializer x ≡ true → is_close_brace (Some x) ≡ false
  not_close_brace (Token.Punctuator m.CloseBrace) h = absurd (false≢true h)
  not_close_brace _ h = refl

  initializer_front : {d : Level} {ts : List Placed} {i : InitializerTree} → IsInitializer g d ts i → Front begins_initializer ts
  initializer_front (IsInitializer.expression x) = let i = f.assignment_front g x in (i.0, i.1, i.2, as_initializer _ i.3)
  initializer_front (IsInitializer.braced o x to) = (_, _, refl, refl)
  initializer_front (IsInitializer.braced_comma o x comma to) = (_, _, refl, refl)

  parts_front : {d : Level} {ts : List Placed} {i : InitializerTrees} → AreParts g d ts i → Front begins_initializer ts
  parts_front (AreParts.last x) = initializer_front x
  parts_front (AreParts.next x comma xs) = f.front_more _ _ _ (initializer_front x)

  brace_ends : (x : Option Token) → is_close_brace x ≡ true → (13 < level x) × (is_comma x ≡ false)
  brace_ends (Some (Token.Punctuator m.CloseBrace)) h = (omega arith, refl)
  brace_ends _ h = absurd (false≢true h)

  -- parts are read with a comma behind them or without
  abbrev PartsRead : Level → List Placed → InitializerTrees → Type 0
  PartsRead d ts ps = (rest : List Placed) → is_close_brace (first rest) ≡ true
      → Runs g Sort.initializers (body (Rule.parts d)) (ts ++ rest) (Outcome.read ps rest)
      × ((comma : At) → Runs g Sort.initializers (body (Rule.parts d)) (ts ++ (mark m.Comma comma ∷ rest)) (Outcome.read ps rest))

  next_part : (d : Level) (ts us rest end : List Placed) (i : InitializerTree) (ps : InitializerTrees) (comma : At)
      → Runs g Sort.initializer (body (Rule.initializer d)) (ts ++ (mark m.Comma comma ∷ (us ++ rest))) (Outcome.read i (mark m.Comma comma ∷ (us ++ rest)))
      → Front begins_initializer us → Runs g Sort.initializers (body (Rule.parts d)) (us ++ rest) (Outcome.read ps end)
      → Runs g Sort.initializers (body (Rule.parts d)) ((ts ++ (mark m.Comma comma ∷ us)) ++ rest) (Outcome.read (InitializerTrees.more i ps) end)
  next_part d ts us rest end i ps comma h front r =
      rw append_assoc (Runs.call h (c.yes_ g is_comma _ _ refl (Runs.take (λ k. refl)
      (c.no_ g is_close_brace _ _ (f.front_is begins_initializer is_close_brace not_close_brace us rest front) (Runs.call r Runs.give)))))

  mutual
    initializer_read : {d : Level} {ts : List Placed} {i : InitializerTree} → IsInitializer g d ts i → (rest : List Placed) → 12 < level (first rest)
        → Runs g Sort.initializer (body (Rule.initializer d)) (ts ++ rest) (Outcome.read i rest)
    initializer_read (IsInitializer.expression {ts = ts} x) rest l =
        c.no_ g is_open_brace _ _ (f.front_is begins_expression is_open_brace not_open_brace ts rest (f.assignment_front g x)) (Runs.call (e.assignment g x rest l) Runs.give)
    initializer_read (IsInitializer.braced {d = d} {at = at} o x to) rest l =
        rw append_assoc (c.yes_ g is_open_brace _ _ refl (Runs.take (c.ok g at d o) (Runs.call (parts_read x (mark m.CloseBrace to ∷ rest) refl).0 (Runs.take (λ k. refl) Runs.give))))
    initializer_read (IsInitializer.braced_comma {d = d} {at = at} o x comma to) rest l =
        rw append_assoc (c.yes_ g is_open_brace _ _ refl (Runs.take (c.ok g at d o) (Runs.call ((parts_read x (mark m.CloseBrace to ∷ rest) refl).1 comma) (Runs.take (λ k. refl) Runs.give))))

    parts_read : {d : Level} {ts : List Placed} {ps : InitializerTrees} → AreParts g d ts ps → PartsRead d ts ps
    parts_read (AreParts.last x) = λ rest h. let b = brace_ends (first rest) h in (
      Runs.call (initializer_read x rest (omega arith)) (c.no_ g is_comma _ _ b.1 Runs.give),
      λ comma. Runs.call (initializer_read x (mark m.Comma comma ∷ rest) (omega arith)) (c.yes_ g is_comma _ _ refl (Runs.take (λ k. refl) (c.yes_ g is_close_brace _ _ h Runs.give))),
    )
    parts_read (AreParts.next {d = d} {ts = ts} {us = us} x comma xs) = λ rest h. let i = parts_read xs rest h in (
      next_part d ts us rest rest _ _ comma (initializer_read x (mark m.Comma comma ∷ (us ++ rest)) (omega arith)) (parts_front xs) i.0,
      λ other. next_part d ts us (mark m.Comma other ∷ rest) rest _ _ comma (initializer_read x (mark m.Comma comma ∷ (us ++ (mark m.Comma other ∷ rest))) (omega arith)) (parts_front xs) (i.1 other),
    )

  record Ended (x : Option Token) : Type 0 where
    suffix : begins_suffix x ≡ false
    equal : is_equal x ≡ false
    brace : is_open_brace x ≡ false
    deep : 12 < level x

  init_ends : (x : Option Token) → ends_init x ≡ true → Ended x
  init_ends (Some (Token.Punctuator m.Comma)) h = record { suffix = refl; equal = refl; brace = refl; deep = omega arith }
  init_ends (Some (Token.Punctuator m.Semicolon)) h = record { suffix = refl; equal = refl; brace = refl; deep = omega arith }
  init_ends _ h = absurd (false≢true h)

  -- a declarator, and what follows it up to its end
  pub record InitRead (d : Level) (all rest : List Placed) (i : InitDeclaratorTree) : Type 0 where
    pub tree : DeclaratorTree
    pub mid : List Placed
    pub declared : Runs g Sort.declarator (body (Rule.declarator d)) all (Outcome.read tree mid)
    pub brace : is_open_brace (first mid) ≡ false
    pub ended : Runs g Sort.init_declarator (body (Rule.init_rest d tree)) mid (Outcome.read i rest)

  pub init_parts : (d : Level) (ts : List Placed) (i : InitDeclaratorTree) → IsInitDeclarator g d ts i → (rest : List Placed) → ends_init (first rest) ≡ true → InitRead d (ts ++ rest) rest i
  init_parts d ts _ (IsInitDeclarator.bare {t = t} x) rest h = let b = init_ends (first rest) h in record {
    tree = t;
    mid = rest;
    declared = declarator_read x rest b.suffix;
    brace = b.brace;
    ended = c.no_ g is_equal _ _ b.equal Runs.give;
  }
  init_parts d _ _ (IsInitDeclarator.initialized {ts = ts} {t = t} {at = at} {us = us} x y) rest h = let b = init_ends (first rest) h in record {
    tree = t;
    mid = mark m.Equal at ∷ (us ++ rest);
    declared = rw append_assoc (declarator_read x (mark m.Equal at ∷ (us ++ rest)) refl);
    brace = refl;
    ended = c.yes_ g is_equal _ _ refl (Runs.take (λ k. refl) (Runs.call (initializer_read y rest b.deep) Runs.give));
  }

  init_read : (d : Level) (ts : List Placed) (i : InitDeclaratorTree) → IsInitDeclarator g d ts i → (rest : List Placed) → ends_init (first rest) ≡ true
      → Runs g Sort.init_declarator (body (Rule.init_declarator d)) (ts ++ rest) (Outcome.read i rest)
  init_read d ts i x rest h = let p = init_parts d ts i x rest h in Runs.call p.declared (c.reads_ g p.ended)

  init_front : {d : Level} {ts : List Placed} {i : InitDeclaratorTree} → IsInitDeclarator g d ts i → Front begins_declarator ts
  init_front (IsInitDeclarator.bare x) = declarator_front x
  init_front (IsInitDeclarator.initialized x y) = f.front_more _ _ _ (declarator_front x)

  commas_front : {A : Type 0} {Is : List Placed → A → Type 0} → ((ts : List Placed) (x : A) → Is ts x → Front begins_declarator ts) → {ts : List Placed} {xs : List A} → Commas Is ts xs → Front begins_declarator ts
  commas_front one (Commas.last x) = one _ _ x
  commas_front one (Commas.next x comma xs) = f.front_more _ _ _ (one _ _ x)

  not_semicolon : (x : Token) → begins_declarator x ≡ true → is_semicolon (Some x) ≡ false
  not_semicolon (Token.Punctuator m.Semicolon) h = absurd (false≢true h)
  not_semicolon _ h = refl

  pub no_word : (x : Token) → begins_declarator x ≡ true → begins_specifier (Some x) ≡ false
  no_word (Token.Keyword r) h = absurd (false≢true h)
  no_word _ h = refl

  pub inits_read : {d : Level} {ts : List Placed} {xs : List InitDeclaratorTree} → Commas (IsInitDeclarator g d) ts xs → (to : At) (rest : List Placed)
      → Runs g (Sort.many Sort.init_declarator) (body (Rule.commas (Rule.init_declarator d))) (ts ++ (mark m.Semicolon to ∷ rest)) (Outcome.read xs (mark m.Semicolon to ∷ rest))
  inits_read {d = d} x to rest = commas_read ends_init (Rule.init_declarator d) (λ at. refl) (init_read d) x (mark m.Semicolon to ∷ rest) refl refl

  pub inits_front : {d : Level} {ts : List Placed} {xs : List InitDeclaratorTree} → Commas (IsInitDeclarator g d) ts xs → Front begins_declarator ts
  inits_front x = commas_front (λ ts i h. init_front h) x

  pub declaration_read : {d : Level} {ts : List Placed} {x : DeclarationTree} → IsDeclaration g d ts x → (rest : List Placed)
      → (begins_specifier (first (ts ++ rest)) ≡ true) × Runs g Sort.declaration (body (Rule.declaration d)) (ts ++ rest) (Outcome.read x rest)
  declaration_read (IsDeclaration.nothing {ss = ss} x to) rest = (
    rw append_assoc (e.specifier_first g x (mark m.Semicolon to ∷ rest)),
    rw append_assoc (Runs.call (e.specifier_read g x (mark m.Semicolon to ∷ rest) refl) (c.yes_ g is_semicolon _ _ refl (Runs.take (λ k. refl) Runs.give))),
  )
  declaration_read (IsDeclaration.listed {ss = ss} {ts = ts} x y to) rest = (
    rw append_assoc (e.specifier_first g x ((ts ++ (mark m.Semicolon to ∷ [])) ++ rest)),
    rw (append_assoc, append_assoc) (Runs.call (e.specifier_read g x (ts ++ (mark m.Semicolon to ∷ rest)) (f.front_is begins_declarator begins_specifier no_word ts (mark m.Semicolon to ∷ rest) (inits_front y)))
        (c.no_ g is_semicolon _ _ (f.front_is begins_declarator is_semicolon not_semicolon ts (mark m.Semicolon to ∷ rest) (inits_front y))
        (Runs.call (inits_read y to rest) (Runs.take (λ k. refl) Runs.give)))),
  )

  member_ends : (x : Option Token) → ends_init x ≡ true → begins_suffix x ≡ false
  member_ends x h = (init_ends x h).suffix

  pub member_read : (d : Level) (ts : List Placed) (x : MemberDeclarationTree) → IsMember g d ts x → (rest : List Placed)
      → (begins_specifier (first (ts ++ rest)) ≡ true) × Runs g Sort.member (body (Rule.member d)) (ts ++ rest) (Outcome.read x rest)
  member_read d _ _ (IsMember.member {ss = ss} {ts = ts} x y to) rest = (
    rw append_assoc (e.specifier_first g x ((ts ++ (mark m.Semicolon to ∷ [])) ++ rest)),
    rw (append_assoc, append_assoc) (Runs.call (e.specifier_read g x (ts ++ (mark m.Semicolon to ∷ rest))
        (f.front_is begins_declarator begins_specifier no_word ts (mark m.Semicolon to ∷ rest) (commas_front (λ ts i h. declarator_front h) y)))
        (Runs.call (commas_read ends_init (Rule.declarator d) (λ at. refl) (λ ts t i rest h. declarator_read i rest (member_ends (first rest) h)) y (mark m.Semicolon to ∷ rest) refl refl)
        (Runs.take (λ k. refl) Runs.give))),
  )
