-- The reading of a text: what the loop keeps, and that there is one.
use Rattle.std.proofs.Common.{◌≡◌, ◌⊎◌, inl, inr, ℕ, suc, ◌+◌, ◌-◌, ◌<◌, ◌≤◌, eqb, ltb, Bool, true, false, cond, List, [], ◌∷◌, ◌++◌, length, take, drop, Option, Some, None, Result, Ok, Err, refl, sym, ap, subst, ◌∙◌, append_assoc, append-nil, length-append, length-take, take-append-drop, take_at, drop_at, arith, lt-ltb, le-ltb}
use Rattle.std.proofs.lemmas.Bool.{cases_lt}
use Rattle.c_words.specs.Tokens.{Token}
use Rattle.c_lexer.specs.declared.fault.Fault.{Fault}
use Rattle.c_lexer.specs.declared.fault.LexError.{LexError}
use Rattle.c_lexer.specs.declared.fault.LexError.TheVariants.{TooLong}
use Rattle.c_lexer.specs.Bytes.{line_feeds}
use Rattle.c_lexer.specs.Refusals.{refusal}
use Rattle.c_lexer.specs.Pieces.{done, more, IsPiece, IsFaulty}
use Rattle.c_lexer.specs.Reading.{Found, piece_at, items_from}
use Rattle.c_lexer.specs.Text.{Lexeme, Piece, Stands, lexemes_of, tokens_of, IsCut, Lexes, too_long, whole, faulty, HasOneReading, AreSlices, HasSlices}
use Rattle.c_lexer.proofs.ItemsLemmas.{IsRead, AreFound, items_again, items_found, items_push}
use Rattle.c_lexer.proofs.PieceLemmas.{IsOutcome, piece_outcome, piece_nil, piece_some, piece_again, fault_again}

-- ---- pieces as items

abbrev item_at : List ℕ → Result Found Fault → Option (Piece × ℕ)
item_at bytes (Ok x) = Some (record { spelling = take x.1 bytes; token = x.0 }, x.1)
item_at bytes (Err f) = None

abbrev pub piece_step : List ℕ → Option (Piece × ℕ)
piece_step bytes = item_at bytes (piece_at bytes)

item_found : (bytes : List ℕ) (r : Result Found Fault) (p : Piece) (n : ℕ) → piece_at bytes ≡ r → item_at bytes r ≡ Some (p, n) → (0 < n) × (n ≤ length bytes) × Stands (take n bytes) (drop n bytes) p
item_found [] (Ok x) p n e f = let nil = piece_nil in absurd cc
item_found (b ∷ bs) (Ok x) p n e f =
    let out = subst (IsOutcome (b ∷ bs)) e (piece_outcome b bs) in
    let same = some_is (record { spelling = take x.1 (b ∷ bs); token = x.0 }, x.1) (p, n) f in
    let n_is : x.1 ≡ n = ap {A = Piece × ℕ} (λ y. y.1) same in
    let token_is : x.0 ≡ p.token = ap {A = Piece × ℕ} (λ y. y.0.token) same in
    let spelling_is : take x.1 (b ∷ bs) ≡ p.spelling = ap {A = Piece × ℕ} (λ y. y.0.spelling) same in
    (omega arith, omega arith, (sym spelling_is ∙ ap (λ k. take k (b ∷ bs)) n_is, rw (← n_is, ← token_is) out.2))
  where
    some_is : (x y : Piece × ℕ) → Some x ≡ Some y → x ≡ y
    some_is x y g = cc
item_found bytes (Err g) p n e f = absurd cc

abbrev item : Piece × ℕ → Option (Piece × ℕ)
item x = Some x

pieces_read : IsRead Stands piece_step
pieces_read = record {
  none = ap (item_at []) piece_nil;
  some = λ s rest p i. piece_some s rest p.token i.1;
  again = λ s rest p i. again s rest p i;
  moves = λ bytes p n e. let q = item_found bytes (piece_at bytes) p n refl e in (q.0, q.1);
  found = λ bytes p n e. (item_found bytes (piece_at bytes) p n refl e).2;
}
  where
    named : (p : Piece) (s : List ℕ) (n : ℕ) → p.spelling ≡ s → item (record { spelling = s; token = p.token }, n) ≡ item (p, n)
    named p s n e = ap (λ t. item (record { spelling = t; token = p.token }, n)) (sym e)

    again : (s rest : List ℕ) (p : Piece) → Stands s rest p → piece_step (s ++ rest) ≡ Some (p, length s)
    again s rest p i =
        ap (item_at (s ++ rest)) (piece_again s rest p.token i.1)
        ∙ ap (λ t. item (record { spelling = t; token = p.token }, length s)) (take_at s rest (length s) refl)
        ∙ named p s (length s) i.0

-- ---- the places of tokens

line_feeds-append : (s t : List ℕ) → line_feeds (s ++ t) ≡ line_feeds s + line_feeds t
line_feeds-append [] t = omega arith
line_feeds-append (b ∷ s) t = by_test (eqb b 10) (line_feeds-append s t)
  where
    by_test : (x : Bool) → line_feeds (s ++ t) ≡ line_feeds s + line_feeds t → cond x (suc (line_feeds (s ++ t))) (line_feeds (s ++ t)) ≡ cond x (suc (line_feeds s)) (line_feeds s) + line_feeds t
    by_test true e = omega arith
    by_test false e = e

pub line_feeds_within : (s : List ℕ) → line_feeds s ≤ length s
line_feeds_within [] = omega arith
line_feeds_within (b ∷ s) = by_test (eqb b 10) (line_feeds_within s)
  where
    by_test : (x : Bool) → line_feeds s ≤ length s → cond x (suc (line_feeds s)) (line_feeds s) ≤ length (b ∷ s)
    by_test true e = omega arith
    by_test false e = omega arith

-- one more piece
tokens_push : (p : Piece) (rest : List ℕ) (front : List ℕ) (ps : List Piece) (start at : ℕ) → IsCut front rest ps
    → tokens_of start at (ps ++ p ∷ []) ≡ tokens_of start at ps ++ lexemes_of p.token (start + length front) (length p.spelling) (at + line_feeds front)
tokens_push p rest _ _ start at done =
    let a : start ≡ start + 0 = omega arith in
    let b : at ≡ at + 0 = omega arith in
    append-nil (lexemes_of p.token start (length p.spelling) at) ∙ ap (λ n. lexemes_of p.token n (length p.spelling) at) a ∙ ap (λ n. lexemes_of p.token (start + 0) (length p.spelling) n) b
tokens_push p rest _ _ start at (more s t q ps i is) =
    let tail = tokens_push p rest t ps (start + length q.spelling) (at + line_feeds q.spelling) is in
    let a : start + length q.spelling + length t ≡ start + length (s ++ t) = omega (arith, ap length i.0, length-append s t) in
    let b : at + line_feeds q.spelling + line_feeds t ≡ at + line_feeds (s ++ t) = omega (arith, ap line_feeds i.0, line_feeds-append s t) in
    let last : lexemes_of p.token (start + length q.spelling + length t) (length p.spelling) (at + line_feeds q.spelling + line_feeds t) ≡ lexemes_of p.token (start + length (s ++ t)) (length p.spelling) (at + line_feeds (s ++ t)) = rw (a, b) refl in
    ap (λ x. lexemes_of q.token start (length q.spelling) at ++ x) (tail ∙ ap (λ x. tokens_of (start + length q.spelling) (at + line_feeds q.spelling) ps ++ x) last)
    ∙ sym (append_assoc (lexemes_of q.token start (length q.spelling) at) (tokens_of (start + length q.spelling) (at + line_feeds q.spelling) ps) (lexemes_of p.token (start + length (s ++ t)) (length p.spelling) (at + line_feeds (s ++ t))))

-- ---- the loop

-- the text is cut up to the rest, with these tokens, and the rest begins on this line
pub record IsBegun (bytes rest : List ℕ) (tokens : List Lexeme) (at : ℕ) : Type 0 where
  pub front : List ℕ
  pub pieces : List Piece
  pub parts : bytes ≡ front ++ rest
  pub cut : IsCut front rest pieces
  pub tokens_are : tokens ≡ tokens_of 0 1 pieces
  pub on_line : at ≡ 1 + line_feeds front

pub begins_at : (bytes : List ℕ) → IsBegun bytes bytes [] 1
begins_at bytes = record { front = []; pieces = []; parts = refl; cut = done; tokens_are = refl; on_line = refl }

pub begun_line : (bytes rest : List ℕ) (tokens : List Lexeme) (at : ℕ) → IsBegun bytes rest tokens at → at + length rest ≤ 1 + length bytes
begun_line bytes rest tokens at h = omega (arith, h.on_line, line_feeds_within h.front, ap length h.parts, length-append h.front rest)

pub piece_moves : (rest : List ℕ) (o : Option Token) (n : ℕ) → piece_at rest ≡ Ok (o, n) → (0 < n) × (n ≤ length rest)
piece_moves rest o n e = let q = item_found rest (Ok (o, n)) (record { spelling = take n rest; token = o }) n e refl in (q.0, q.1)

pub goes_on : (bytes rest rest' : List ℕ) (tokens tokens' : List Lexeme) (at at' : ℕ) (o : Option Token) (n : ℕ) → IsBegun bytes rest tokens at → piece_at rest ≡ Ok (o, n)
    → tokens' ≡ tokens ++ lexemes_of o (length bytes - length rest) n at → rest' ≡ drop n rest → at' ≡ at + line_feeds (take n rest) → IsBegun bytes rest' tokens' at'
goes_on bytes rest rest' tokens tokens' at at' o n h e t r l =
    let p : Piece = record { spelling = take n rest; token = o } in
    let q = item_found rest (Ok (o, n)) p n e refl in
    let split : take n rest ++ drop n rest ≡ rest = take-append-drop n rest in
    let cut : IsCut h.front (take n rest ++ drop n rest) h.pieces = rw split h.cut in
    let len : length (take n rest) ≡ n = omega (arith, length-take n rest) in
    let start : length bytes - length rest ≡ 0 + length h.front = omega (arith, ap length h.parts, length-append h.front rest) in
    let pushed = tokens_push p rest h.front h.pieces 0 1 h.cut in
    let same : lexemes_of o (length bytes - length rest) n at ≡ lexemes_of o (0 + length h.front) (length (take n rest)) (1 + line_feeds h.front) = rw (start, len, h.on_line) refl in
    rw r (record {
      front = h.front ++ take n rest;
      pieces = h.pieces ++ p ∷ [];
      parts = h.parts ∙ ap (λ x. h.front ++ x) (sym split) ∙ sym (append_assoc h.front (take n rest) (drop n rest));
      cut = items_push Stands (drop n rest) (take n rest) p q.2 h.front h.pieces cut;
      tokens_are = t ∙ ap (λ x. tokens ++ x) same ∙ ap (λ x. x ++ lexemes_of o (0 + length h.front) (length (take n rest)) (1 + line_feeds h.front)) h.tokens_are ∙ sym pushed;
      on_line = omega (arith, l, h.on_line, line_feeds-append h.front (take n rest));
    })

pub ends : (bytes rest : List ℕ) (tokens : List Lexeme) (at : ℕ) → length bytes ≤ 1048576 → IsBegun bytes rest tokens at → length rest ≡ 0 → Lexes bytes (Ok tokens)
ends bytes [] tokens at l h e =
    let all : h.front ≡ bytes = sym (append-nil h.front) ∙ sym h.parts in
    subst (λ t. Lexes bytes (Ok t)) (sym h.tokens_are) (whole bytes h.pieces l (subst (λ t. IsCut t [] h.pieces) all h.cut))
ends bytes (b ∷ rest) tokens at l h e = absurd (omega arith)

pub fails : (bytes rest : List ℕ) (tokens : List Lexeme) (at : ℕ) (f : Fault) → length bytes ≤ 1048576 → IsBegun bytes rest tokens at → 0 < length rest → piece_at rest ≡ Err f → Lexes bytes (Err (refusal f at))
fails bytes [] tokens at f l h some e = absurd (omega arith)
fails bytes (b ∷ rest) tokens at f l h some e =
    let out : IsFaulty (b ∷ rest) f = subst (IsOutcome (b ∷ rest)) e (piece_outcome b rest) in
    subst (λ n. Lexes bytes (Err (refusal f n))) (sym h.on_line) (faulty bytes h.front (b ∷ rest) h.pieces f l h.parts h.cut out)

-- ---- one reading

-- what comes after the pieces
ending : List ℕ → List Piece → List ℕ → Result Found Fault → Result (List Lexeme) LexError
ending bytes ps [] r = Ok (tokens_of 0 1 ps)
ending bytes ps (b ∷ rest) (Ok x) = Ok []
ending bytes ps (b ∷ rest) (Err f) = Err (refusal f (1 + line_feeds (take (length bytes - length (b ∷ rest)) bytes)))

read : List ℕ → Result (List Lexeme) LexError
read bytes =
    cond (ltb 1048576 (length bytes)) (Err (TooLong (length bytes)))
    (ending bytes (items_from piece_step bytes 0).0 (items_from piece_step bytes 0).1 (piece_at (items_from piece_step bytes 0).1))

nil_not_faulty : (f : Fault) → IsFaulty [] f → ⊥
nil_not_faulty f i = elim i [ ]

-- what the definition says of a text is what is read
read_again : (bytes : List ℕ) (r : Result (List Lexeme) LexError) → Lexes bytes r → read bytes ≡ r
unfolding read ending
read_again bytes _ (too_long _ l) = rw (lt-ltb 1048576 (length bytes) l) refl
read_again bytes _ (whole _ ps l c) =
    let items : items_from piece_step (bytes ++ []) 0 ≡ (ps, []) = items_again Stands piece_step pieces_read [] bytes ps c (ap (item_at []) piece_nil) in
    let same : items_from piece_step bytes 0 ≡ (ps, []) = ap (λ t. items_from piece_step t 0) (sym (append-nil bytes)) ∙ items in
    rw (le-ltb 1048576 (length bytes) l, same) refl
read_again bytes _ (faulty _ front rest ps f l e c i) =
    let refused = fault_again rest f i in
    let items : items_from piece_step (front ++ rest) 0 ≡ (ps, rest) = items_again Stands piece_step pieces_read rest front ps c (ap (item_at rest) refused) in
    let same : items_from piece_step bytes 0 ≡ (ps, rest) = ap (λ t. items_from piece_step t 0) e ∙ items in
    let len : length bytes - length rest ≡ length front = omega (arith, ap length e, length-append front rest) in
    let front_is : take (length bytes - length rest) bytes ≡ front = rw (len, e) (take_at front rest (length front) refl) in
    rw (le-ltb 1048576 (length bytes) l, same, refused) (by_rest rest i front_is)
  where
    by_rest : (rest : List ℕ) → IsFaulty rest f → take (length bytes - length rest) bytes ≡ front → ending bytes ps rest (Err f) ≡ Err (refusal f (1 + line_feeds front))
    by_rest [] i g = absurd (nil_not_faulty f i)
    by_rest (b ∷ rest) i g = ap (λ t. Err (refusal f (1 + line_feeds t))) g

pub same_reading : (bytes : List ℕ) (a b : Result (List Lexeme) LexError) → Lexes bytes a → Lexes bytes b → a ≡ b
same_reading bytes a b p q = sym (read_again bytes a p) ∙ read_again bytes b q

a_reading : (bytes : List ℕ) → (r : Result (List Lexeme) LexError) × Lexes bytes r
a_reading bytes = by_length (cases_lt 1048576 (length bytes))
  where
    found : AreFound Stands piece_step bytes (items_from piece_step bytes 0)
    found = items_found Stands piece_step pieces_read (length bytes) bytes (omega arith)

    by_read : (front : List ℕ) (ps : List Piece) (b : ℕ) (rest : List ℕ) → length bytes ≤ 1048576 → bytes ≡ front ++ b ∷ rest → IsCut front (b ∷ rest) ps
        → (x : Result Found Fault) → piece_at (b ∷ rest) ≡ x → item_at (b ∷ rest) x ≡ None → (r : Result (List Lexeme) LexError) × Lexes bytes r
    by_read front ps b rest l e c (Ok x) f none = absurd cc
    by_read front ps b rest l e c (Err f) g none =
        (Err (refusal f (1 + line_feeds front)), faulty bytes front (b ∷ rest) ps f l e c (subst (IsOutcome (b ∷ rest)) g (piece_outcome b rest)))

    by_rest : (front : List ℕ) (ps : List Piece) (rest : List ℕ) → length bytes ≤ 1048576 → bytes ≡ front ++ rest → IsCut front rest ps → piece_step rest ≡ None → (r : Result (List Lexeme) LexError) × Lexes bytes r
    by_rest front ps [] l e c none =
        (Ok (tokens_of 0 1 ps), whole bytes ps l (subst (λ t. IsCut t [] ps) (sym (append-nil front) ∙ sym e) c))
    by_rest front ps (b ∷ rest) l e c none = by_read front ps b rest l e c (piece_at (b ∷ rest)) refl none

    by_length : (1048576 < length bytes) ⊎ (length bytes ≤ 1048576) → (r : Result (List Lexeme) LexError) × Lexes bytes r
    by_length (inl l) = (Err (TooLong (length bytes)), too_long bytes l)
    by_length (inr l) = by_rest found.0 (items_from piece_step bytes 0).0 (items_from piece_step bytes 0).1 l found.1 found.2 found.3

-- a text has one reading
pub one_reading_lem : HasOneReading
one_reading_lem bytes = let r = a_reading bytes in (r.0, r.1, λ other p. same_reading bytes other r.0 p r.1)

-- ---- the slices of tokens

abbrev read_ok : List Lexeme → Result (List Lexeme) LexError
read_ok x = Ok x

later : (bytes : List ℕ) (low high : ℕ) (ts : List Lexeme) → low ≤ high → AreSlices bytes high ts → AreSlices bytes low ts
later bytes low high [] l h = tt
later bytes low high (t ∷ ts) l h = (omega arith, h.1, h.2, h.3)

slices : (bytes front : List ℕ) (s : List ℕ) (ps : List Piece) → IsCut s [] ps → bytes ≡ front ++ s → AreSlices bytes (length front) (tokens_of (length front) (1 + line_feeds front) ps)
slices bytes front _ _ done e = tt
slices bytes front _ _ (more s t p ps i is) e =
    let parts : bytes ≡ front ++ (s ++ t) = e in
    let next : bytes ≡ (front ++ s) ++ t = parts ∙ sym (append_assoc front s t) in
    let len : length front + length p.spelling ≡ length (front ++ s) = omega (arith, ap length i.0, length-append front s) in
    let feeds : 1 + line_feeds front + line_feeds p.spelling ≡ 1 + line_feeds (front ++ s) = omega (arith, ap line_feeds i.0, line_feeds-append front s) in
    let tail = slices bytes (front ++ s) t ps is next in
    let tail' : AreSlices bytes (length front + length p.spelling) (tokens_of (length front + length p.spelling) (1 + line_feeds front + line_feeds p.spelling) ps) = rw (len, feeds) tail in
    by_token p.token (subst (λ x. IsPiece s x p.token) (append-nil t) i.1) i.0 parts next tail'
  where
    by_token : (o : Option Token) → IsPiece s t o → p.spelling ≡ s → bytes ≡ front ++ (s ++ t) → bytes ≡ (front ++ s) ++ t
        → AreSlices bytes (length front + length p.spelling) (tokens_of (length front + length p.spelling) (1 + line_feeds front + line_feeds p.spelling) ps)
        → AreSlices bytes (length front) (lexemes_of o (length front) (length p.spelling) (1 + line_feeds front) ++ tokens_of (length front + length p.spelling) (1 + line_feeds front + line_feeds p.spelling) ps)
    by_token None piece a parts next tail = later bytes (length front) (length front + length p.spelling) _ (omega arith) tail
    by_token (Some k) piece a parts next tail =
        let front_is : take (length front) bytes ≡ front = ap (take (length front)) parts ∙ take_at front (s ++ t) (length front) refl in
        let behind : drop (length front) bytes ≡ s ++ t = ap (drop (length front)) parts ∙ drop_at front (s ++ t) (length front) refl in
        let size : length p.spelling ≡ length s = ap length a in
        let slice : take (length p.spelling) (drop (length front) bytes) ≡ s = rw (behind) (take_at s t (length p.spelling) (sym size)) in
        let len : length front + length p.spelling ≡ length (front ++ s) = omega (arith, size, length-append front s) in
        let rest : drop (length front + length p.spelling) bytes ≡ t = ap (λ n. drop n bytes) len ∙ ap (drop (length (front ++ s))) next ∙ drop_at (front ++ s) t (length (front ++ s)) refl in
        (omega arith, rw (slice, rest) piece, ap (λ x. 1 + line_feeds x) (sym front_is), tail)

tokens_slices : (bytes : List ℕ) (r : Result (List Lexeme) LexError) (ts : List Lexeme) → Lexes bytes r → r ≡ Ok ts → AreSlices bytes 0 ts
tokens_slices bytes _ ts (too_long _ l) e = absurd cc
tokens_slices bytes _ ts (whole _ ps l c) e = subst (λ x. AreSlices bytes 0 x) (ok_is _ _ e) (slices bytes [] bytes ps c refl)
  where
    ok_is : (x y : List Lexeme) → read_ok x ≡ read_ok y → x ≡ y
    ok_is x y f = cc
tokens_slices bytes _ ts (faulty _ front rest ps f l g c i) e = absurd cc

pub slices_lem : HasSlices
slices_lem bytes ts h = tokens_slices bytes (Ok ts) ts h refl
