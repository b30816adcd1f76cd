-- What the front of a text reads as, by functions of the bytes.
use Rattle.std.specs.Prelude.{ℕ, zero, suc, ◌+◌, ◌-◌, ◌*◌, ◌^◌, Bool, not, ◌&&◌, ◌||◌, if◌then◌else◌, ◌==◌, nat_lt}
use Rattle.std.specs.Prelude.{nat_le, List, [], ◌∷◌, length, take, drop, slice_index, Option, Some, None, Result, Ok, Err, codes, bytes_eq}
use Rattle.c_words.specs.declared.words.Punctuator.{Punctuator}
use Rattle.c_words.specs.declared.words.Keyword.{Keyword}
use Rattle.c_words.specs.Tokens.{Token}
use Rattle.c_lexer.specs.declared.bytes.Class.{Class}
use Rattle.c_lexer.specs.declared.bytes.Class.TheVariants as class
use Rattle.c_lexer.specs.declared.fault.Fault.{Fault}
use Rattle.c_lexer.specs.declared.fault.Fault.TheVariants as faults
use Rattle.c_lexer.specs.Bytes.{is_blank, is_gap, is_letter, is_digit, is_word, continues_number, is_unsigned_suffix, is_hex_mark, digit_value, is_digit_of}
use Rattle.c_lexer.specs.Words.{keywords, punctuators}
use Rattle.c_lexer.specs.Pieces.{begins}

infixl 10 ◌>>=◌
abbrev pub ◌>>=◌ : {A B E : Type 0} → Result A E → (A → Result B E) → Result B E
(Ok x) >>= f = f x
(Err e) >>= f = Err e

-- ---- runs

-- a byte of the class, behind the byte before
abbrev pub continues : Class → ℕ → ℕ → Bool
continues class.Word before b = is_word b
continues class.Number before b = continues_number before b
continues class.Gap before b = is_gap b
continues class.Line before b = not (b == 10)
continues class.Octal before b = is_digit_of 8 b
continues class.Hexadecimal before b = is_digit_of 16 b

abbrev pub run_behind : (ℕ → ℕ → Bool) → ℕ → List ℕ → ℕ
run_behind continues before [] = 0
run_behind continues before (b ∷ bs) = if continues before b then suc (run_behind continues b bs) else 0

-- how many bytes of the class are in front
unfoldable pub run_len : Class → List ℕ → ℕ
run_len c text = run_behind (continues c) 0 text

-- ---- tables

abbrev pub first_row : {A : Type 0} → (List ℕ → Bool) → List (List ℕ × A) → Option (List ℕ × A)
first_row test [] = None
first_row test (row ∷ rows) = if test row.0 then Some row else first_row test rows

abbrev pub word_or_name : List ℕ → Option (List ℕ × Keyword) → Token
word_or_name spelling None = Token.Name spelling
word_or_name spelling (Some row) = Token.Keyword row.1

unfoldable pub identifier : List ℕ → Token
identifier spelling = word_or_name spelling (first_row (λ s. bytes_eq s spelling) keywords)

-- what stands at a place: a token or nothing, and how many bytes it has
abbrev pub Found : Type 0
Found = Option Token × ℕ

abbrev pub mark_or_fault : Option (List ℕ × Punctuator) → Result Found Fault
mark_or_fault None = Err faults.BadByte
mark_or_fault (Some row) = Ok (Some (Token.Punctuator row.1), length row.0)

unfoldable pub mark_at : List ℕ → Result Found Fault
mark_at text = mark_or_fault (first_row (λ s. begins s text) punctuators)

-- ---- numbers

-- the number that the digits write behind those before, where it is below the limit
abbrev pub value_below : ℕ → ℕ → ℕ → List ℕ → Option ℕ
value_below limit radix before [] = Some before
value_below limit radix before (d ∷ ds) =
    if is_digit_of radix d && nat_lt (radix * before + digit_value d) limit then value_below limit radix (radix * before + digit_value d) ds else None

-- whether the constant has a suffix, and what is before that
abbrev pub is_suffixed : List ℕ → Bool
is_suffixed s = is_unsigned_suffix (slice_index s (length s - 1))

abbrev pub unsuffixed : List ℕ → List ℕ
unsuffixed s = if is_suffixed s then take (length s - 1) s else s

abbrev pub behind_hex_mark : List ℕ → Option (ℕ × List ℕ)
behind_hex_mark [] = None
behind_hex_mark (d ∷ ds) = Some (16, d ∷ ds)

abbrev pub behind_zero : List ℕ → Option (ℕ × List ℕ)
behind_zero [] = Some (8, [])
behind_zero (x ∷ ds) = if is_hex_mark x then behind_hex_mark ds else Some (8, x ∷ ds)

-- the radix, and the digits
abbrev pub radix_of : List ℕ → Option (ℕ × List ℕ)
radix_of [] = None
radix_of (d ∷ ds) = if d == 48 then behind_zero ds else Some (10, d ∷ ds)

abbrev pub limit_of : Bool → ℕ → ℕ
limit_of suffixed radix = if radix == 10 && not suffixed then 2 ^ 31 else 2 ^ 32

abbrev pub typed : Bool → Option ℕ → Option (ℕ × Bool)
typed suffixed None = None
typed suffixed (Some value) = Some (value, suffixed || nat_le (2 ^ 31) value)

abbrev pub constant : Bool → Option (ℕ × List ℕ) → Option (ℕ × Bool)
constant suffixed None = None
constant suffixed (Some r) = typed suffixed (value_below (limit_of suffixed r.0) r.0 0 r.1)

-- the value of an integer constant, and whether it is unsigned
unfoldable pub number_of : List ℕ → Option (ℕ × Bool)
number_of s = constant (is_suffixed s) (radix_of (unsuffixed s))

abbrev pub number_or_fault : ℕ → Option (ℕ × Bool) → Result Found Fault
number_or_fault len None = Err faults.BadNumber
number_or_fault len (Some n) = Ok (Some (Token.Number n.0 n.1), len)

unfoldable pub number_at : List ℕ → Result Found Fault
number_at text = number_or_fault (run_len class.Number text) (number_of (take (run_len class.Number text) text))

-- ---- quotes

-- the value of a simple escape
unfoldable pub simple_value : ℕ → Option ℕ
simple_value c =
    if c == 110 then Some 10 else (if c == 116 then Some 9 else (if c == 114 then Some 13 else (if c == 97 then Some 7
    else (if c == 98 then Some 8 else (if c == 102 then Some 12 else (if c == 118 then Some 11
    else (if c == 92 || c == 39 || c == 34 || c == 63 then Some c else None)))))))

-- An element's value and how many bytes it has, or nothing at the closing quote.
abbrev pub Step : Type 0
Step = Result (Option (ℕ × ℕ)) Fault

abbrev pub element_or_fault : ℕ → Option ℕ → Step
element_or_fault len None = Err faults.BadEscape
element_or_fault len (Some value) = Ok (Some (value, len))

-- so many digits behind so many other bytes
abbrev pub digits_at : ℕ → ℕ → ℕ → List ℕ → Step
digits_at radix before count text = if count == 0 then Err faults.BadEscape else element_or_fault (before + count) (value_below 256 radix 0 (take count text))

-- what stands behind a backslash, which counts
unfoldable pub escape_at : List ℕ → Step
escape_at [] = Err faults.Unclosed
escape_at (c ∷ rest) =
    if c == 10 then Err faults.Unclosed
    else (if c == 120 then digits_at 16 2 (run_len class.Hexadecimal rest) rest
    else (if is_digit_of 8 c then digits_at 8 1 (run_len class.Octal (take 3 (c ∷ rest))) (c ∷ rest)
    else element_or_fault 2 (simple_value c)))

unfoldable pub element_at : ℕ → List ℕ → Step
element_at quote [] = Err faults.Unclosed
element_at quote (b ∷ rest) =
    if b == quote then Ok None
    else (if b == 10 then Err faults.Unclosed
    else (if b == 92 then escape_at rest else Ok (Some (b, 1))))

abbrev pub item_of : {X E : Type 0} → Result (Option X) E → Option X
item_of (Ok o) = o
item_of (Err e) = None

abbrev pub with_item : {X : Type 0} → List ℕ → (ℕ → List X × List ℕ) → Option (X × ℕ) → List X × List ℕ
with_item text next None = ([], text)
with_item text next (Some item) = (item.0 ∷ (next (item.1 - 1)).0, (next (item.1 - 1)).1)

-- The items in front of a text, and the text after them. The number counts the bytes that are left of one.
abbrev pub items_from : {X : Type 0} → (List ℕ → Option (X × ℕ)) → List ℕ → ℕ → List X × List ℕ
items_from step [] left = ([], [])
items_from step (b ∷ bs) (suc left) = items_from step bs left
items_from step (b ∷ bs) zero = with_item (b ∷ bs) (items_from step bs) (step (b ∷ bs))

-- the values of the elements in front of a text, and the text after them
unfoldable pub elements : ℕ → List ℕ → List ℕ × List ℕ
elements quote text = items_from (λ t. item_of (element_at quote t)) text 0

abbrev pub closed : List ℕ → ℕ → Step → Result (List ℕ × ℕ) Fault
closed values len (Ok o) = Ok (values, len)
closed values len (Err f) = Err f

-- the values between two quotes, and how many bytes there are with the quotes
unfoldable pub quoted_at : ℕ → List ℕ → Result (List ℕ × ℕ) Fault
quoted_at quote text =
    let r = elements quote (drop 1 text) in
    closed r.0 (length text - length r.1 + 1) (element_at quote r.1)

abbrev pub single : List ℕ → ℕ → Result Found Fault
single [] len = Err faults.BadEscape
single (value ∷ []) len = Ok (Some (Token.Character value), len)
single (value ∷ other ∷ values) len = Err faults.BadEscape

abbrev pub string_at : List ℕ → Result Found Fault
string_at text = quoted_at 34 text >>= λ x. Ok (Some (Token.StringLiteral x.0), x.1)

abbrev pub character_at : List ℕ → Result Found Fault
character_at text = quoted_at 39 text >>= λ x. single x.0 x.1

-- ---- comments and directives

abbrev pub one_more : Option ℕ → Option ℕ
one_more None = None
one_more (Some n) = Some (suc n)

-- how many bytes there are up to and with the next `*/`
abbrev pub comment_end : List ℕ → Option ℕ
comment_end [] = None
comment_end (b ∷ bs) = if b == 42 && slice_index bs 0 == 47 then Some 2 else one_more (comment_end bs)

abbrev pub comment_or_fault : Option ℕ → Result Found Fault
comment_or_fault None = Err faults.Unclosed
comment_or_fault (Some n) = Ok (None, 2 + n)

abbrev pub block_comment_at : List ℕ → Result Found Fault
block_comment_at text = comment_or_fault (comment_end (drop 2 text))

abbrev pub past_gaps : List ℕ → List ℕ
past_gaps text = drop (run_len class.Gap text) text

abbrev pub row_len : {A : Type 0} → Option (List ℕ × A) → Option ℕ
row_len None = None
row_len (Some row) = Some (length row.0)

unfoldable pub headers : List (List ℕ × Unit {0})
headers = (codes "<stdio.h>", tt) ∷ (codes "<stdlib.h>", tt) ∷ (codes "<string.h>", tt) ∷ []

-- how many bytes the header in front has
unfoldable pub header_len : List ℕ → Option ℕ
header_len text = row_len (first_row (λ s. begins s text) headers)

abbrev pub directive_or_fault : ℕ → Option ℕ → Result Found Fault
directive_or_fault before None = Err faults.BadDirective
directive_or_fault before (Some len) = Ok (None, before + len)

-- a header behind spaces and tabs
abbrev pub header_at : ℕ → List ℕ → Result Found Fault
header_at len text = directive_or_fault (len - length (past_gaps text)) (header_len (past_gaps text))

unfoldable pub directive_at : List ℕ → Result Found Fault
directive_at text =
    let name = past_gaps (drop 1 text) in
    if begins (codes "include") name then header_at (length text) (drop 7 name) else Err faults.BadDirective

-- ---- pieces

abbrev pub identifier_at : List ℕ → Result Found Fault
identifier_at text = Ok (Some (identifier (take (run_len class.Word text) text)), run_len class.Word text)

abbrev pub slash_at : List ℕ → Result Found Fault
slash_at text =
    if slice_index text 1 == 42 then block_comment_at text
    else (if slice_index text 1 == 47 then Ok (None, run_len class.Line text) else mark_at text)

unfoldable pub piece_at : List ℕ → Result Found Fault
piece_at text =
    let b = slice_index text 0 in
    if is_blank b then Ok (None, 1)
    else (if is_letter b then identifier_at text
    else (if is_digit b then number_at text
    else (if b == 34 then string_at text
    else (if b == 39 then character_at text
    else (if b == 35 then directive_at text
    else (if b == 47 then slash_at text else mark_at text))))))
