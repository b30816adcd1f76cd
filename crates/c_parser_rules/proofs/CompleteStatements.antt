-- What the grammar of statements and files derives is read.
use Rattle.std.proofs.Common.{◌≡◌, suc, ◌<◌, Bool, true, false, cond, List, [], ◌∷◌, ◌++◌, Option, Some, refl, ap, ◌∙◌, subst, append_assoc, arith}
use Rattle.std.proofs.lemmas.Bool.{false≢true}
use Rattle.std.proofs.lemmas.List.{append-nil}
use Rattle.c_words.specs.Tokens.{Token, Placed}
use Rattle.c_words.specs.declared.place.At.{At}
use Rattle.c_words.specs.declared.words.Keyword.TheVariants as w
use Rattle.c_words.specs.declared.words.Punctuator.TheVariants as m
use Rattle.syntax_tree.specs.Syntax.{ExpressionTree, InitDeclaratorTree, ForStartTree, StatementTree, BlockTree, BlockItemTree, BlockItemTrees, HeadTree, ExternalTree, UnitTree}
use Rattle.syntax_tree.specs.GrammarLimits.{Limits, Level, Opens}
use Rattle.syntax_tree.specs.GrammarTokens.{mark, word, first_at, Optional, Many, Commas}
use Rattle.syntax_tree.specs.GrammarExpressions.{IsSpecifier, IsExpression}
use Rattle.syntax_tree.specs.GrammarDeclarations.{IsInitDeclarator, IsDeclaration, IsStructDefinition}
use Rattle.syntax_tree.specs.GrammarStatements.{IsForStart, IsStatement, IsBlock, AreItems, IsItem}
use Rattle.syntax_tree.specs.Grammar.{start_of_file, IsHead, IsExternal, Derives}
use Rattle.c_parser_rules.specs.Programs.{Sort, Rule, Program, Outcome}
use Rattle.c_parser_rules.specs.Tests.{first, is_some, is_semicolon, is_close_paren, is_open_brace, is_close_brace, goes_on, is_else, begins_expression, begins_specifier, begins_statement, begins_suffix, opens}
use Rattle.c_parser_rules.specs.Bodies.{body, else_by, do_by, value_statement, statement_by}
use Rattle.c_parser_rules.specs.Runs.{Runs}
use Rattle.c_parser_rules.proofs.CompleteSteps as c
use Rattle.c_parser_rules.proofs.Follow as f
use Rattle.c_parser_rules.proofs.Follow.{Front, level}
use Rattle.c_parser_rules.proofs.CompleteExpressions as e
use Rattle.c_parser_rules.proofs.CompleteDeclarations as decl
use Rattle.c_parser_rules.proofs.CompleteDeclarations.{begins_declarator, InitRead, ends_init}

as_value : (d : Level) (x : Token) → begins_expression x ≡ true → statement_by d (Some x) ≡ value_statement d (Some x)
as_value d (Token.Punctuator m.Semicolon) h = absurd (false≢true h)
as_value d (Token.Punctuator m.OpenBrace) h = absurd (false≢true h)
as_value d (Token.Keyword w.If) h = absurd (false≢true h)
as_value d (Token.Keyword w.While) h = absurd (false≢true h)
as_value d (Token.Keyword w.Do) h = absurd (false≢true h)
as_value d (Token.Keyword w.For) h = absurd (false≢true h)
as_value d (Token.Keyword w.Break) h = absurd (false≢true h)
as_value d (Token.Keyword w.Continue) h = absurd (false≢true h)
as_value d (Token.Keyword w.Return) h = absurd (false≢true h)
as_value d _ h = refl

as_statement : (x : Token) → begins_expression x ≡ true → begins_statement x ≡ true
as_statement (Token.Punctuator m.Semicolon) h = refl
as_statement (Token.Punctuator m.OpenBrace) h = refl
as_statement (Token.Keyword w.If) h = refl
as_statement (Token.Keyword w.While) h = refl
as_statement (Token.Keyword w.Do) h = refl
as_statement (Token.Keyword w.For) h = refl
as_statement (Token.Keyword w.Break) h = refl
as_statement (Token.Keyword w.Continue) h = refl
as_statement (Token.Keyword w.Return) h = refl
as_statement (Token.Punctuator _) h = h
as_statement (Token.Keyword _) h = h
as_statement _ h = h

not_semicolon : (x : Token) → begins_expression x ≡ true → is_semicolon (Some x) ≡ false
not_semicolon (Token.Punctuator m.Semicolon) h = absurd (false≢true h)
not_semicolon _ h = refl

not_close : (x : Token) → begins_expression x ≡ true → is_close_paren (Some x) ≡ false
not_close (Token.Punctuator m.CloseParen) h = absurd (false≢true h)
not_close _ h = refl

declarator_semicolon : (x : Token) → begins_declarator x ≡ true → is_semicolon (Some x) ≡ false
declarator_semicolon (Token.Punctuator m.Semicolon) h = absurd (false≢true h)
declarator_semicolon _ h = refl

declarator_brace : (x : Token) → begins_declarator x ≡ true → is_open_brace (Some x) ≡ false
declarator_brace (Token.Punctuator m.OpenBrace) h = absurd (false≢true h)
declarator_brace _ h = refl

-- what an item of a block begins with
abbrev begins_item : Token → Bool
begins_item (Token.Keyword w.Void) = true
begins_item (Token.Keyword w.Char) = true
begins_item (Token.Keyword w.Int) = true
begins_item (Token.Keyword w.Signed) = true
begins_item (Token.Keyword w.Unsigned) = true
begins_item (Token.Keyword w.Struct) = true
begins_item x = begins_statement x

item_brace : (x : Token) → begins_item x ≡ true → is_close_brace (Some x) ≡ false
item_brace (Token.Punctuator m.CloseBrace) h = absurd (false≢true h)
item_brace _ h = refl

item_else : (x : Token) → begins_item x ≡ true → is_else (Some x) ≡ false
item_else (Token.Keyword w.Else) h = absurd (false≢true h)
item_else _ h = refl

statement_item : (x : Token) → begins_statement x ≡ true → begins_item x ≡ true
statement_item (Token.Keyword w.Void) h = refl
statement_item (Token.Keyword w.Char) h = refl
statement_item (Token.Keyword w.Int) h = refl
statement_item (Token.Keyword w.Signed) h = refl
statement_item (Token.Keyword w.Unsigned) h = refl
statement_item (Token.Keyword w.Struct) h = refl
statement_item (Token.Keyword _) h = h
statement_item _ h = h

statement_word : (x : Token) → begins_statement x ≡ true → begins_specifier (Some x) ≡ false
statement_word (Token.Keyword w.Void) h = absurd (false≢true h)
statement_word (Token.Keyword w.Char) h = absurd (false≢true h)
statement_word (Token.Keyword w.Int) h = absurd (false≢true h)
statement_word (Token.Keyword w.Signed) h = absurd (false≢true h)
statement_word (Token.Keyword w.Unsigned) h = absurd (false≢true h)
statement_word (Token.Keyword w.Struct) h = absurd (false≢true h)
statement_word _ h = refl

brace_else : (x : Option Token) → is_close_brace x ≡ true → is_else x ≡ false
brace_else (Some (Token.Punctuator m.CloseBrace)) h = refl
brace_else _ h = absurd (false≢true h)

word_goes : (x : Option Token) → begins_specifier x ≡ true → (goes_on x ≡ true) × (is_some x ≡ true)
word_goes (Some (Token.Keyword r)) h = (refl, refl)
word_goes _ h = absurd (false≢true h)

module _ (g : Limits) where
  statement_front : {d : Level} {b : Bool} {ts : List Placed} {x : StatementTree} → IsStatement g d b ts x → Front begins_statement ts
  statement_front (IsStatement.block (IsBlock.braces o xs to)) = (_, _, refl, refl)
  statement_front IsStatement.empty = (_, _, refl, refl)
  statement_front (IsStatement.expression x to) = let i = f.front_more begins_expression _ _ (f.expression_front g x) in (i.0, i.1, i.2, as_statement _ i.3)
  statement_front (IsStatement.only_if o c to x) = (_, _, refl, refl)
  statement_front (IsStatement.if_else o c to x other y) = (_, _, refl, refl)
  statement_front (IsStatement.while o c to x) = (_, _, refl, refl)
  statement_front (IsStatement.do_while again from o x c to end) = (_, _, refl, refl)
  statement_front (IsStatement.for o s c middle u to x) = (_, _, refl, refl)
  statement_front IsStatement.break = (_, _, refl, refl)
  statement_front IsStatement.continue = (_, _, refl, refl)
  statement_front (IsStatement.return x to) = (_, _, refl, refl)

  specifier_item : {ts : List Placed} {x : _} → IsSpecifier ts x → Front begins_item ts
  specifier_item IsSpecifier.void = (_, _, refl, refl)
  specifier_item IsSpecifier.char = (_, _, refl, refl)
  specifier_item IsSpecifier.int = (_, _, refl, refl)
  specifier_item IsSpecifier.signed = (_, _, refl, refl)
  specifier_item IsSpecifier.signed_int = (_, _, refl, refl)
  specifier_item IsSpecifier.unsigned = (_, _, refl, refl)
  specifier_item IsSpecifier.unsigned_int = (_, _, refl, refl)
  specifier_item IsSpecifier.unsigned_char = (_, _, refl, refl)
  specifier_item IsSpecifier.struct = (_, _, refl, refl)

  item_front : {d : Level} {ts : List Placed} {x : BlockItemTree} → IsItem g d ts x → Front begins_item ts
  item_front (IsItem.declaration (IsDeclaration.nothing x to)) = f.front_more _ _ _ (specifier_item x)
  item_front (IsItem.declaration (IsDeclaration.listed x y to)) = f.front_more _ _ _ (specifier_item x)
  item_front (IsItem.statement x) = let i = statement_front x in (i.0, i.1, i.2, statement_item _ i.3)

  items_else : {d : Level} {ts : List Placed} {x : BlockItemTrees} → AreItems g d ts x → (rest : List Placed) → is_close_brace (first rest) ≡ true → is_else (first (ts ++ rest)) ≡ false
  items_else AreItems.no_item rest h = brace_else (first rest) h
  items_else (AreItems.item {ts = ts} {us = us} x xs) rest h = f.front_is begins_item is_else item_else (ts ++ us) rest (f.front_more _ _ _ (item_front x))

  optional_value : (none : Option Token → Bool) → ((x : Token) → begins_expression x ≡ true → none (Some x) ≡ false) → (d : Level) (rest : List Placed) → none (first rest) ≡ true → 13 < level (first rest)
      → {ts : List Placed} {x : Option ExpressionTree} → Optional (IsExpression g d) ts x
      → Runs g (Sort.optional Sort.expression) (body (Rule.optionally none (Rule.expression d))) (ts ++ rest) (Outcome.read x rest)
  optional_value none differs d rest h l x = decl.optional_read g none (Rule.expression d) rest h
      (λ ts a i. (f.front_is begins_expression none differs ts rest (f.expression_front g i), e.expression g i rest l)) x

  for_start_read : {d : Level} {ts : List Placed} {x : ForStartTree} → IsForStart g d ts x → (rest : List Placed) → Runs g Sort.for_start (body (Rule.for_start d)) (ts ++ rest) (Outcome.read x rest)
  for_start_read (IsForStart.declaration x) rest = let i = decl.declaration_read g x rest in c.yes_ g begins_specifier _ _ i.0 (Runs.call i.1 Runs.give)
  for_start_read (IsForStart.expression {d = l} {ts = ts} x to) rest =
      rw append_assoc (c.no_ g begins_specifier _ _ (no_word x)
      (Runs.call (optional_value is_semicolon not_semicolon l (mark m.Semicolon to ∷ rest) refl (omega arith) x) (Runs.take (λ k. refl) Runs.give)))
    where
      no_word : {ts : List Placed} {x : Option ExpressionTree} → Optional (IsExpression g l) ts x → begins_specifier (first (ts ++ (mark m.Semicolon to ∷ rest))) ≡ false
      no_word Optional.absent = refl
      no_word (Optional.present {ts = ts} x) = f.front_is begins_expression begins_specifier f.no_specifier ts (mark m.Semicolon to ∷ rest) (f.expression_front g x)

  value_read : (d : Level) (ts : List Placed) (a : ExpressionTree) (to : At) → IsExpression g d ts a → (rest : List Placed)
      → Runs g Sort.statement (body (Rule.statement d)) ((ts ++ (mark m.Semicolon to ∷ [])) ++ rest) (Outcome.read (StatementTree.Expression (first_at ts to) a, false) rest)
  value_read d ts a to x rest = by (f.expression_front g x)
    where
      by : Front begins_expression ts → Runs g Sort.statement (body (Rule.statement d)) ((ts ++ (mark m.Semicolon to ∷ [])) ++ rest) (Outcome.read (StatementTree.Expression (first_at ts to) a, false) rest)
      by front = rw front.2 (rw append_assoc (c.looked g (statement_by d) _ (as_value d front.0.token front.3)
          (Runs.ahead {c = front.0.token} {at = front.0.at} (λ k. refl)
          (Runs.call (subst (λ z. Runs g Sort.expression (body (Rule.expression d)) (z ++ (mark m.Semicolon to ∷ rest)) (Outcome.read a (mark m.Semicolon to ∷ rest))) front.2
          (e.expression g x (mark m.Semicolon to ∷ rest) (omega arith))) (Runs.take (λ k. refl) Runs.give)))))

  abbrev Closes : Bool → List Placed → Type 0
  Closes b rest = b ≡ true → is_else (first rest) ≡ false

  -- the body of a `do`, and what follows
  do_read : (d : Level) (at again from to end : At) (ts cs rest : List Placed) (x : StatementTree) (b : Bool) (a : ExpressionTree) → Opens g (first_at ts again) d → Front begins_statement ts
      → Runs g Sort.statement (body (Rule.statement (suc d))) (ts ++ (word w.While again ∷ mark m.OpenParen from ∷ (cs ++ (mark m.CloseParen to ∷ mark m.Semicolon end ∷ rest))))
      (Outcome.read (x, b) (word w.While again ∷ mark m.OpenParen from ∷ (cs ++ (mark m.CloseParen to ∷ mark m.Semicolon end ∷ rest))))
      → Runs g Sort.expression (body (Rule.expression (suc d))) (cs ++ (mark m.CloseParen to ∷ mark m.Semicolon end ∷ rest)) (Outcome.read a (mark m.CloseParen to ∷ mark m.Semicolon end ∷ rest))
      → Runs g Sort.statement (Program.look (do_by d at)) (ts ++ (word w.While again ∷ mark m.OpenParen from ∷ (cs ++ (mark m.CloseParen to ∷ mark m.Semicolon end ∷ rest)))) (Outcome.read (StatementTree.DoWhile at x a, false) rest)
  do_read d at again from to end [] cs rest x b a o front r q = absurd (let e = front.2 in (cc))
  do_read d at again from to end (t ∷ ts) cs rest x b a o front r q =
      let is : t ≡ front.0 = (let e = front.2 in (cc)) in
      let begins : begins_statement t.token ≡ true = ap (λ z. begins_statement z.token) is ∙ front.3 in
      c.looked g (do_by d at) (Program.ahead t.token (opens d) (λ from. Program.call (Rule.statement (suc d)) (λ x. Program.take (Token.Keyword w.While) true (λ again. Program.take (Token.Punctuator m.OpenParen) true (λ from.
      Program.call (Rule.expression (suc d)) (λ c. Program.take (Token.Punctuator m.CloseParen) true (λ to. Program.take (Token.Punctuator m.Semicolon) true (λ end. Program.give (StatementTree.DoWhile at x.0 c, false)))))))))
      (rw begins refl)
      (Runs.ahead {c = t.token} {at = t.at} (c.ok g t.at d o) (Runs.call r (Runs.take (λ k. refl) (Runs.take (λ k. refl) (Runs.call q (Runs.take (λ k. refl) (Runs.take (λ k. refl) Runs.give)))))))

  block_statement : (d : Level) (ts : List Placed) (x : BlockTree) (rest : List Placed) → IsBlock g d ts x → Runs g Sort.block (body (Rule.block d)) (ts ++ rest) (Outcome.read x rest)
      → Runs g Sort.statement (body (Rule.statement d)) (ts ++ rest) (Outcome.read (StatementTree.Block x, false) rest)
  block_statement d _ x rest (IsBlock.braces o xs to) r = Runs.look (Runs.call r Runs.give)

  only_if : (d : Level) (at : At) (a : ExpressionTree) (x : StatementTree) (b : Bool) (rest : List Placed) → is_else (first rest) ≡ false
      → Runs g Sort.statement (else_by at a d (x, b)) rest (Outcome.read (StatementTree.If at a x, true) rest)
  only_if d at a x true rest h = Runs.give
  only_if d at a x false rest h = c.no_ g is_else _ _ h Runs.give

  mutual
    read_statement : {d : Level} {b : Bool} {ts : List Placed} {x : StatementTree} → IsStatement g d b ts x → (rest : List Placed) → Closes b rest
        → Runs g Sort.statement (body (Rule.statement d)) (ts ++ rest) (Outcome.read (x, b) rest)
    read_statement (IsStatement.block {d = d} {ts = ts} {x = x} h) rest closes = block_statement d ts x rest h (read_block h rest)
    read_statement IsStatement.empty rest closes = Runs.look (Runs.take (λ k. refl) Runs.give)
    read_statement (IsStatement.expression {d = d} {ts = ts} {a = a} x to) rest closes = value_read d ts a to x rest
    read_statement (IsStatement.only_if {d = d} {at = at} {from = from} {cs = cs} {c = a} {ts = ts} o x to y) rest closes =
        rw append_assoc (Runs.look (Runs.take (λ k. refl) (Runs.take (c.ok g from d o) (Runs.call (e.expression g x (mark m.CloseParen to ∷ (ts ++ rest)) (omega arith)) (Runs.take (λ k. refl)
        (Runs.call (read_statement y rest (λ k. closes refl)) (only_if d at a _ _ rest (closes refl))))))))
    read_statement (IsStatement.if_else {d = d} {at = at} {from = from} {cs = cs} {c = a} {ts = ts} {us = us} o x to y other z) rest closes =
        rw (append_assoc, append_assoc) (Runs.look (Runs.take (λ k. refl) (Runs.take (c.ok g from d o) (Runs.call (e.expression g x (mark m.CloseParen to ∷ (ts ++ (word w.Else other ∷ (us ++ rest)))) (omega arith)) (Runs.take (λ k. refl)
        (Runs.call (read_statement y (word w.Else other ∷ (us ++ rest)) (λ k. absurd (false≢true k))) (c.yes_ g is_else _ _ refl (Runs.take (λ k. refl) (Runs.call (read_statement z rest closes) Runs.give)))))))))
    read_statement (IsStatement.while {d = d} {at = at} {from = from} {cs = cs} {c = a} {ts = ts} o x to y) rest closes =
        rw append_assoc (Runs.look (Runs.take (λ k. refl) (Runs.take (c.ok g from d o) (Runs.call (e.expression g x (mark m.CloseParen to ∷ (ts ++ rest)) (omega arith)) (Runs.take (λ k. refl)
        (Runs.call (read_statement y rest closes) Runs.give))))))
    read_statement (IsStatement.do_while {d = d} {at = at} {b = b} {ts = ts} {x = x} {cs = cs} {c = a} again from o y z to end) rest closes =
        rw (append_assoc, append_assoc) (Runs.look (Runs.take (λ k. refl) (do_read d at again from to end ts cs rest x b a o (statement_front y)
        (read_statement y (word w.While again ∷ mark m.OpenParen from ∷ (cs ++ (mark m.CloseParen to ∷ mark m.Semicolon end ∷ rest))) (λ k. refl))
        (e.expression g z (mark m.CloseParen to ∷ mark m.Semicolon end ∷ rest) (omega arith)))))
    read_statement (IsStatement.for {d = d} {at = at} {from = from} {ss = ss} {cs = cs} {us = us} {ts = ts} o x y middle z to v) rest closes =
        rw (append_assoc, append_assoc, append_assoc) (Runs.look (Runs.take (λ k. refl) (Runs.take (c.ok g from d o)
        (Runs.call (for_start_read x (cs ++ (mark m.Semicolon middle ∷ (us ++ (mark m.CloseParen to ∷ (ts ++ rest))))))
        (Runs.call (optional_value is_semicolon not_semicolon (suc d) (mark m.Semicolon middle ∷ (us ++ (mark m.CloseParen to ∷ (ts ++ rest)))) refl (omega arith) y) (Runs.take (λ k. refl)
        (Runs.call (optional_value is_close_paren not_close (suc d) (mark m.CloseParen to ∷ (ts ++ rest)) refl (omega arith) z) (Runs.take (λ k. refl)
        (Runs.call (read_statement v rest closes) Runs.give)))))))))
    read_statement IsStatement.break rest closes = Runs.look (Runs.take (λ k. refl) (Runs.take (λ k. refl) Runs.give))
    read_statement IsStatement.continue rest closes = Runs.look (Runs.take (λ k. refl) (Runs.take (λ k. refl) Runs.give))
    read_statement (IsStatement.return {d = d} {ts = ts} x to) rest closes =
        rw append_assoc (Runs.look (Runs.take (λ k. refl) (Runs.call (optional_value is_semicolon not_semicolon d (mark m.Semicolon to ∷ rest) refl (omega arith) x) (Runs.take (λ k. refl) Runs.give))))

    read_block : {d : Level} {ts : List Placed} {x : BlockTree} → IsBlock g d ts x → (rest : List Placed) → Runs g Sort.block (body (Rule.block d)) (ts ++ rest) (Outcome.read x rest)
    read_block (IsBlock.braces {d = d} {at = at} {ts = ts} o xs to) rest =
        rw append_assoc (Runs.take (c.ok g at d o) (Runs.call (read_items xs (mark m.CloseBrace to ∷ rest) refl) (Runs.take (λ k. refl) Runs.give)))

    read_items : {d : Level} {ts : List Placed} {x : BlockItemTrees} → AreItems g d ts x → (rest : List Placed) → is_close_brace (first rest) ≡ true
        → Runs g Sort.block_items (body (Rule.items d)) (ts ++ rest) (Outcome.read x rest)
    read_items AreItems.no_item rest h = c.yes_ g is_close_brace _ _ h Runs.give
    read_items (AreItems.item {ts = ts} {us = us} x xs) rest h =
        rw append_assoc (c.no_ g is_close_brace _ _ (f.front_is begins_item is_close_brace item_brace ts (us ++ rest) (item_front x))
        (Runs.call (read_item x (us ++ rest) (items_else xs rest h)) (Runs.call (read_items xs rest h) Runs.give)))

    read_item : {d : Level} {ts : List Placed} {x : BlockItemTree} → IsItem g d ts x → (rest : List Placed) → is_else (first rest) ≡ false
        → Runs g Sort.block_item (body (Rule.item d)) (ts ++ rest) (Outcome.read x rest)
    read_item (IsItem.declaration x) rest h = let i = decl.declaration_read g x rest in c.yes_ g begins_specifier _ _ i.0 (Runs.call i.1 Runs.give)
    read_item (IsItem.statement {ts = ts} x) rest h =
        c.no_ g begins_specifier _ _ (f.front_is begins_statement begins_specifier statement_word ts rest (statement_front x)) (Runs.call (read_statement x rest (λ k. h)) Runs.give)

  -- ---- the declarations of a file
  head_read : {d : Level} {at : At} {ts : List Placed} {h : HeadTree} → IsHead g d at ts h → (rest : List Placed) → begins_specifier (first rest) ≡ false → is_open_brace (first rest) ≡ false
      → (begins_specifier (first (ts ++ rest)) ≡ true) × Runs g Sort.head (body (Rule.head d)) (ts ++ rest) (Outcome.read (h, at) rest)
  head_read (IsHead.specifier IsSpecifier.void) rest h b = (refl, Runs.look (Runs.call (e.specifier_read g IsSpecifier.void rest h) Runs.give))
  head_read (IsHead.specifier IsSpecifier.char) rest h b = (refl, Runs.look (Runs.call (e.specifier_read g IsSpecifier.char rest h) Runs.give))
  head_read (IsHead.specifier IsSpecifier.int) rest h b = (refl, Runs.look (Runs.call (e.specifier_read g IsSpecifier.int rest h) Runs.give))
  head_read (IsHead.specifier IsSpecifier.signed) rest h b = (refl, Runs.look (Runs.call (e.specifier_read g IsSpecifier.signed rest h) Runs.give))
  head_read (IsHead.specifier IsSpecifier.signed_int) rest h b = (refl, Runs.look (Runs.call (e.specifier_read g IsSpecifier.signed_int rest h) Runs.give))
  head_read (IsHead.specifier IsSpecifier.unsigned) rest h b = (refl, Runs.look (Runs.call (e.specifier_read g IsSpecifier.unsigned rest h) Runs.give))
  head_read (IsHead.specifier IsSpecifier.unsigned_int) rest h b = (refl, Runs.look (Runs.call (e.specifier_read g IsSpecifier.unsigned_int rest h) Runs.give))
  head_read (IsHead.specifier IsSpecifier.unsigned_char) rest h b = (refl, Runs.look (Runs.call (e.specifier_read g IsSpecifier.unsigned_char rest h) Runs.give))
  head_read (IsHead.specifier (IsSpecifier.struct {next = next} {tag = tag})) rest h b =
      (refl, Runs.look (Runs.take (λ k. refl) (Runs.call (e.identifier_read g tag next rest) (c.no_ g is_open_brace _ _ b Runs.give))))
  head_read (IsHead.structure {d = d} (IsStructDefinition.structure {at = at} {open_at = from} {tag = tag} o (Many.more {ts = ts} {us = us} i is) to)) rest h b =
      let one = decl.member_read g (suc d) ts _ i (us ++ (mark m.CloseBrace to ∷ rest)) in (
        refl,
        rw (append_assoc, append_assoc) (Runs.look (Runs.take (λ k. refl) (Runs.call (e.identifier_read g tag at (mark m.OpenBrace from ∷ (ts ++ (us ++ (mark m.CloseBrace to ∷ rest)))))
            (c.yes_ g is_open_brace _ _ refl (Runs.take (c.ok g from d o) (Runs.call one.1
            (Runs.call (decl.many_read g goes_on (Rule.member (suc d)) (λ ts x i rest. let j = decl.member_read g (suc d) ts x i rest in ((word_goes _ j.0).0, j.1)) is (mark m.CloseBrace to ∷ rest) refl)
            (Runs.take (λ k. refl) Runs.give)))))))),
      )

  block_first : {d : Level} {ts : List Placed} {x : BlockTree} → IsBlock g d ts x → (rest : List Placed) → (begins_suffix (first (ts ++ rest)) ≡ false) × (is_open_brace (first (ts ++ rest)) ≡ true)
  block_first (IsBlock.braces o xs to) rest = (refl, refl)

  -- declarators with their initializers, the first of them read before the others
  listed_read : {d : Level} {ts : List Placed} {xs : List InitDeclaratorTree} → Commas (IsInitDeclarator g d) ts xs → (at to : At) (h : HeadTree) (rest : List Placed)
      → Runs g Sort.external (Program.call (Rule.declarator d) (λ t. Program.look (λ c. cond (is_open_brace c)
      (Program.call (Rule.block d) (λ x. Program.give (ExternalTree.Function at h t x)))
      (Program.call (Rule.init_rest d t) (λ i. Program.call (Rule.commas_rest (Rule.init_declarator d) i) (λ xs. Program.take (Token.Punctuator m.Semicolon) true (λ to. Program.give (ExternalTree.Declaration at h xs))))))))
      (ts ++ (mark m.Semicolon to ∷ rest)) (Outcome.read (ExternalTree.Declaration at h xs) rest)
  listed_read {d = d} (Commas.last {ts = ts} {x = x} i) at to h rest =
      let p = decl.init_parts g d ts x i (mark m.Semicolon to ∷ rest) refl in
      Runs.call p.declared (c.no_ g is_open_brace _ _ p.brace (Runs.call p.ended (Runs.call (Runs.look Runs.give) (Runs.take (λ k. refl) Runs.give))))
  listed_read {d = d} (Commas.next {ts = ts} {x = x} {us = us} i comma is) at to h rest =
      let p = decl.init_parts g d ts x i (mark m.Comma comma ∷ (us ++ (mark m.Semicolon to ∷ rest))) refl in
      rw append_assoc (Runs.call p.declared (c.no_ g is_open_brace _ _ p.brace (Runs.call p.ended
      (Runs.call (Runs.look (Runs.take (λ k. refl) (Runs.call (decl.inits_read g is to rest) Runs.give))) (Runs.take (λ k. refl) Runs.give)))))

  external_read : (d : Level) (ts : List Placed) (x : ExternalTree) → IsExternal g d ts x → (rest : List Placed)
      → (is_some (first (ts ++ rest)) ≡ true) × Runs g Sort.external (body (Rule.external d)) (ts ++ rest) (Outcome.read x rest)
  external_read d _ _ (IsExternal.nothing {hs = hs} h to) rest =
      let i = head_read h (mark m.Semicolon to ∷ rest) refl refl in
      rw append_assoc ((word_goes _ i.0).1, Runs.call i.1 (Runs.look (Runs.take (λ k. refl) Runs.give)))
  external_read d _ _ (IsExternal.function {hs = hs} {ts = ts} {us = us} h t b) rest =
      let front = decl.declarator_front g t in
      let i = head_read h (ts ++ (us ++ rest)) (f.front_is begins_declarator begins_specifier (decl.no_word g) ts (us ++ rest) front) (f.front_is begins_declarator is_open_brace declarator_brace ts (us ++ rest) front) in
      let j = block_first b rest in
      rw (append_assoc, append_assoc) (
        (word_goes _ i.0).1,
        Runs.call i.1 (c.no_ g is_semicolon _ _ (f.front_is begins_declarator is_semicolon declarator_semicolon ts (us ++ rest) front)
            (Runs.call (decl.declarator_read g t (us ++ rest) j.0) (c.yes_ g is_open_brace _ _ j.1 (Runs.call (read_block b rest) Runs.give)))),
      )
  external_read d _ _ (IsExternal.listed {at = at} {hs = hs} {h = h} {ts = ts} x y to) rest =
      let front = decl.inits_front g y in
      let i = head_read x (ts ++ (mark m.Semicolon to ∷ rest)) (f.front_is begins_declarator begins_specifier (decl.no_word g) ts (mark m.Semicolon to ∷ rest) front) (f.front_is begins_declarator is_open_brace declarator_brace ts (mark m.Semicolon to ∷ rest) front) in
      rw (append_assoc, append_assoc) (
        (word_goes _ i.0).1,
        Runs.call i.1 (c.no_ g is_semicolon _ _ (f.front_is begins_declarator is_semicolon declarator_semicolon ts (mark m.Semicolon to ∷ rest) front)
            (listed_read y at to h rest)),
      )

  -- what the grammar derives is read
  pub complete : (ts : List Placed) (unit : UnitTree) → Derives g ts unit → Runs g Sort.unit (body Rule.unit) ts (Outcome.read unit [])
  complete _ _ (Derives.unit Many.none) = Runs.look Runs.give
  complete _ _ (Derives.unit (Many.more {ts = ts} {x = x} {us = us} {xs = xs} i is)) = whole (ts ++ us) (external_read 0 ts x i us).0 (external_read 0 ts x i us).1
    where
      rest_read : Runs g (Sort.many Sort.external) (body (Rule.repeat is_some (Rule.external 0))) us (Outcome.read xs [])
      rest_read = rw append-nil at (decl.many_read g is_some (Rule.external 0) (external_read 0) is [] refl)

      whole : (all : List Placed) → is_some (first all) ≡ true → Runs g Sort.external (body (Rule.external 0)) all (Outcome.read x us)
          → Runs g Sort.unit (body Rule.unit) all (Outcome.read (record { at = first_at all start_of_file; externals = x ∷ xs }) [])
      whole [] some r = absurd (false≢true some)
      whole (q ∷ qs) some r = Runs.look (Runs.ahead {c = q.token} {at = q.at} (λ k. refl) (Runs.call r (Runs.call rest_read Runs.give)))
