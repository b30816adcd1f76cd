-- The tokens of a text of bytes have values in range, and lines that the text can have.
use Rattle.std.proofs.Common.{◌≡◌, ◌⊎◌, inl, inr, ℕ, suc, ◌+◌, ◌<◌, ◌≤◌, ◌^◌, eqb, eqb-true, Bool, true, false, cond, not, ◌&&◌, List, [], ◌∷◌, ◌++◌, length, Option, Some, None, Result, Ok, refl, sym, ap, subst, ◌∙◌, length-append, arith}
use Rattle.std.proofs.lemmas.Bool.{false≢true, and_parts}
use Rattle.std.proofs.lemmas.List.Elements.{All-from_recursion, recursion_from_All}
use Rattle.std.specs.Prelude.{All}
use Rattle.std.specs.List.{AllByRecursion}
use Rattle.c_words.specs.Tokens.{Token}
use Rattle.syntax_tree.specs.Syntax.{UnitTree}
use Rattle.syntax_tree.specs.GrammarLimits.{Limits}
use Rattle.syntax_tree.specs.Grammar.{Derives}
use Rattle.c_lexer.specs.declared.fault.LexError.{LexError}
use Rattle.c_lexer.specs.Bytes.{line_feeds, is_letter, is_digit}
use Rattle.c_lexer.specs.Numbers.{IsNumber, int, large, suffixed}
use Rattle.c_lexer.specs.Words.{punctuators}
use Rattle.c_lexer.specs.Pieces.{IsRow, here, there, IsIdentifier, keyword, name, IsSimple, IsEscape, simple, three, fewer, hexadecimal, IsElement, plain, escape, Items, done, more, IsPiece}
use Rattle.c_lexer.specs.Text.{Lexeme, placed_from, placed, Piece, lexemes_of, tokens_of, IsCut, Lexes, too_long, whole, faulty}
use Rattle.syntax_in_range.specs.InRange.{IsByte, IsInRange, TokensInRange, InRange}
use Rattle.syntax_in_range.proofs.Parts.{first_part, last_part}
use Rattle.syntax_in_range.proofs.Derived.{derived, none_or_two}

-- ---- values

simple_byte : {c value : ℕ} → IsSimple c value → IsByte value
simple_byte IsSimple.alert = omega arith
simple_byte IsSimple.backspace = omega arith
simple_byte IsSimple.tab = omega arith
simple_byte IsSimple.line_feed = omega arith
simple_byte IsSimple.vertical_tab = omega arith
simple_byte IsSimple.form_feed = omega arith
simple_byte IsSimple.carriage_return = omega arith
simple_byte IsSimple.double_quote = omega arith
simple_byte IsSimple.single_quote = omega arith
simple_byte IsSimple.question = omega arith
simple_byte IsSimple.backslash = omega arith

escape_byte : {s rest : List ℕ} {value : ℕ} → IsEscape s rest value → IsByte value
escape_byte (simple c rest value i) = simple_byte i
escape_byte (three a b c rest value digits is lt) = lt
escape_byte (fewer d ds rest value few run is lt) = lt
escape_byte (hexadecimal d ds rest value run is lt) = lt

element_byte : {quote : ℕ} {s rest : List ℕ} {value : ℕ} → IsElement quote s rest value → AllByRecursion IsByte s → IsByte value
element_byte (plain b rest a c d) h = h.0
element_byte (escape s rest value i) h = escape_byte i

elements_bytes : {quote : ℕ} {rest s values : List ℕ} → Items (IsElement quote) rest s values → AllByRecursion IsByte s → AllByRecursion IsByte values
elements_bytes done h = tt
elements_bytes (more s t x xs i is) h = (element_byte i (first_part IsByte s t h), elements_bytes is (last_part IsByte s t h))

number_below : {s : List ℕ} {value : ℕ} {u : Bool} → IsNumber s value u → value < 2 ^ 32
number_below (int s radix ds value i is lt) = omega arith
number_below (large s radix ds value i is r low lt) = lt
number_below (suffixed s radix ds value u i is su lt) = lt

identifier_in_range : {s : List ℕ} {t : Token} → IsIdentifier s t → IsInRange t
identifier_in_range (keyword w row) = tt
identifier_in_range (name none) = tt

-- a piece's token, if it is one, has a value in range
abbrev IsOne : Option Token → Type 0
IsOne None = Unit {0}
IsOne (Some t) = IsInRange t

piece_in_range : {s rest : List ℕ} {o : Option Token} → IsPiece s rest o → AllByRecursion IsByte s → IsOne o
piece_in_range (IsPiece.blank b rest is) h = tt
piece_in_range (IsPiece.comment s rest is) h = tt
piece_in_range (IsPiece.directive s rest is) h = tt
piece_in_range (IsPiece.identifier b s rest t letter run is) h = identifier_in_range is
piece_in_range (IsPiece.number b s rest value u digit run is) h = number_below is
piece_in_range (IsPiece.character s rest value is) h = (elements_bytes is (first_part IsByte s (39 ∷ []) h.1)).0
piece_in_range (IsPiece.text s rest values is) h = All-from_recursion IsByte values (elements_bytes is (first_part IsByte s (34 ∷ []) h.1))
piece_in_range (IsPiece.mark s rest m is none) h = tt

-- ---- line feeds

line_feeds_within : (s : List ℕ) → line_feeds s ≤ length s
line_feeds_within [] = omega arith
line_feeds_within (b ∷ s) = by_test (eqb b 10) (line_feeds_within s)
  where
    by_test : (x : Bool) → line_feeds s ≤ length s → cond x (suc (line_feeds s)) (line_feeds s) ≤ length (b ∷ s)
    by_test true e = omega arith
    by_test false e = omega arith

-- whether the first byte is there, and no line feed
abbrev starts : List ℕ → Bool
starts [] = false
starts (b ∷ s) = not (eqb b 10)

fewer_feeds : (s : List ℕ) → starts s ≡ true → 1 + line_feeds s ≤ length s
fewer_feeds [] e = absurd (false≢true e)
fewer_feeds (b ∷ s) e = by_test (eqb b 10) e (line_feeds_within s)
  where
    by_test : (x : Bool) → not x ≡ true → line_feeds s ≤ length s → 1 + cond x (suc (line_feeds s)) (line_feeds s) ≤ length (b ∷ s)
    by_test true f l = absurd (false≢true f)
    by_test false f l = omega arith

-- a byte of a class that a line feed is not in
no_feed : (is_in : ℕ → Bool) → is_in 10 ≡ false → (b : ℕ) → is_in b ≡ true → not (eqb b 10) ≡ true
no_feed is_in e b i = by_test (eqb b 10) refl
  where
    by_test : (x : Bool) → eqb b 10 ≡ x → not x ≡ true
    by_test true f = absurd (false≢true (sym e ∙ ap is_in (sym (eqb-true b 10 f)) ∙ i))
    by_test false f = refl

letter_is_no_feed : is_letter 10 ≡ false
unfolding is_letter
letter_is_no_feed = refl

digit_is_no_feed : is_digit 10 ≡ false
unfolding is_digit
digit_is_no_feed = refl

all_start : {A : Type 0} → List (List ℕ × A) → Bool
all_start [] = true
all_start (r ∷ rows) = starts r.0 && all_start rows

row_starts : {A : Type 0} (s : List ℕ) (a : A) (rows : List (List ℕ × A)) → all_start rows ≡ true → IsRow s a rows → starts s ≡ true
unfolding all_start
row_starts s a _ e (here rows) = (and_parts (starts s) (all_start rows) e).0
row_starts s a _ e (there r rows m) = row_starts s a rows (and_parts (starts r.0) (all_start rows) e).1 m

punctuators_start : all_start punctuators ≡ true
unfolding all_start punctuators
punctuators_start = refl

-- a token's first byte is no line feed
token_starts : {s rest : List ℕ} {t : Token} → IsPiece s rest (Some t) → starts s ≡ true
token_starts (IsPiece.identifier b s rest t letter run is) = no_feed is_letter letter_is_no_feed b letter
token_starts (IsPiece.number b s rest value u digit run is) = no_feed is_digit digit_is_no_feed b digit
token_starts (IsPiece.character s rest value is) = refl
token_starts (IsPiece.text s rest values is) = refl
token_starts (IsPiece.mark s rest m is none) = row_starts s m punctuators punctuators_start is.is_punctuator

-- ---- the tokens of a cut text

-- Among so many tokens, in so many bytes that begin on this line, a token's line: each other token takes a byte that is
-- no line feed, and so does this one.
record IsOnLine (line bytes tokens : ℕ) (l : Lexeme) : Type 0 where
  above : line ≤ l.line
  below : l.line + tokens ≤ line + bytes

wider : (line line' bytes bytes' tokens tokens' : ℕ) (ls : List Lexeme) → line' ≤ line → line + bytes + tokens' ≤ line' + bytes' + tokens
    → AllByRecursion (IsOnLine line bytes tokens) ls → AllByRecursion (IsOnLine line' bytes' tokens') ls
wider line line' bytes bytes' tokens tokens' [] a b h = tt
wider line line' bytes bytes' tokens tokens' (l ∷ ls) a b h =
    (record { above = omega (arith, h.0.above); below = omega (arith, h.0.below) }, wider line line' bytes bytes' tokens tokens' ls a b h.1)

-- the tokens of so many bytes that begin on this line
record AreGood (line bytes : ℕ) (ls : List Lexeme) : Type 0 where
  few : length ls ≤ bytes
  on_lines : AllByRecursion (IsOnLine line bytes (length ls)) ls
  in_range : AllByRecursion (λ l. IsInRange l.token) ls

good : (s : List ℕ) (ps : List Piece) (start line : ℕ) → IsCut s [] ps → AllByRecursion IsByte s → AreGood line (length s) (tokens_of start line ps)
good _ _ start line done h = record { few = omega arith; on_lines = tt; in_range = tt }
good _ _ start line (more s t p ps i is) h =
    by_token p.token i.1 (good t ps (start + length p.spelling) (line + line_feeds p.spelling) is (last_part IsByte s t h))
  where
    by_token : (o : Option Token) → IsPiece s (t ++ []) o → AreGood (line + line_feeds p.spelling) (length t) (tokens_of (start + length p.spelling) (line + line_feeds p.spelling) ps)
        → AreGood line (length (s ++ t)) (lexemes_of o start (length p.spelling) line ++ tokens_of (start + length p.spelling) (line + line_feeds p.spelling) ps)
    by_token None x g =
        let feeds = line_feeds_within s in
        record {
          few = omega (arith, g.few, length-append s t);
          on_lines = wider _ _ _ _ _ _ _ (omega arith) (omega (arith, feeds, ap line_feeds i.0, length-append s t)) g.on_lines;
          in_range = g.in_range;
        }
    by_token (Some k) x g =
        let feeds = fewer_feeds s (token_starts x) in
        record {
          few = omega (arith, g.few, feeds, length-append s t);
          on_lines = (
            record { above = omega arith; below = omega (arith, g.few, feeds, length-append s t) },
            wider _ _ _ _ _ _ _ (omega arith) (omega (arith, feeds, ap line_feeds i.0, length-append s t)) g.on_lines,
          );
          in_range = (piece_in_range x (first_part IsByte s t h), g.in_range);
        }

placed_length : (n : ℕ) (ls : List Lexeme) → length (placed_from n ls) ≡ length ls
placed_length n [] = refl
placed_length n (l ∷ ls) = omega (arith, placed_length (suc n) ls)

placed_good : (bytes tokens n : ℕ) (ls : List Lexeme) → bytes ≤ 1048576 → 2 ≤ tokens
    → AllByRecursion (IsOnLine 1 bytes tokens) ls → AllByRecursion (λ l. IsInRange l.token) ls → TokensInRange (placed_from n ls)
placed_good bytes tokens n [] a b g h = tt
placed_good bytes tokens n (l ∷ ls) a b g h =
    (((omega (arith, g.0.above), omega (arith, g.0.below)), h.0), placed_good bytes tokens (suc n) ls a b g.1 h.1)

abbrev ok : List Lexeme → Result (List Lexeme) LexError
ok ls = Ok ls

by_reading : (text : List ℕ) (r : Result (List Lexeme) LexError) (ls : List Lexeme) → Lexes text r → r ≡ ok ls → AllByRecursion IsByte text → 2 ≤ length ls → TokensInRange (placed ls)
by_reading text _ ls (too_long _ l) e h two = absurd cc
by_reading text _ ls (whole _ ps l c) e h two =
    let same : tokens_of 0 1 ps ≡ ls = ok_is _ _ e in
    let g = good text ps 0 1 c h in
    subst (λ x. TokensInRange (placed x)) same (placed_good (length text) (length (tokens_of 0 1 ps)) 0 (tokens_of 0 1 ps) l (omega (arith, ap length same, two)) g.on_lines g.in_range)
  where
    ok_is : (x y : List Lexeme) → ok x ≡ ok y → x ≡ y
    ok_is x y f = cc
by_reading text _ ls (faulty _ front rest ps f l g c i) e h two = absurd cc

pub tokens_in_range : (text : List ℕ) (ls : List Lexeme) → Lexes text (Ok ls) → All IsByte text → 2 ≤ length ls → TokensInRange (placed ls)
tokens_in_range text ls x h two = by_reading text (Ok ls) ls x refl (recursion_from_All IsByte text h) two

pub text_in_range : (limits : Limits) (text : List ℕ) (ls : List Lexeme) (unit : UnitTree) → Lexes text (Ok ls) → All IsByte text → Derives limits (placed ls) unit → InRange unit
text_in_range limits text ls unit x h d = derived limits (placed ls) unit d (by_count (none_or_two limits (placed ls) unit d))
  where
    by_count : (placed ls ≡ []) ⊎ (2 ≤ length (placed ls)) → TokensInRange (placed ls)
    by_count (inl e) = subst TokensInRange (sym e) tt
    by_count (inr two) = tokens_in_range text ls x h (omega (arith, placed_length 0 ls, two))
