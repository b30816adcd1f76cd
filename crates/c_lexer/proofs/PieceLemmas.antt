-- The pieces of a text are what is read in front of it.
use Rattle.std.proofs.Common.{◌≡◌, ◌≢◌, ◌⊎◌, inl, inr, ℕ, suc, ◌+◌, ◌<◌, ◌≤◌, eqb, Bool, true, false, not, ◌&&◌, ◌||◌, cond, List, [], ◌∷◌, ◌++◌, length, take, drop, get_or, Option, Some, None, Result, Ok, Err, refl, sym, ap, subst, ◌∙◌, append_assoc, length-append, take-append-drop, take_at, drop_at, arith, eqb-true, codes, bytes_eq}
use Rattle.std.proofs.lemmas.Bool.{false≢true}
use Rattle.std.proofs.lemmas.Bool.Decides.{nat_tests}
use Rattle.c_words.specs.Tokens.{Token}
use Rattle.c_words.specs.declared.words.Punctuator.{Punctuator}
use Rattle.c_words.specs.declared.words.Punctuator.TheVariants as marks
use Rattle.c_lexer.specs.declared.bytes.Class.TheVariants as class
use Rattle.c_lexer.specs.declared.fault.Fault.{Fault}
use Rattle.c_lexer.specs.declared.fault.Fault.TheVariants as faults
use Rattle.c_lexer.specs.Bytes.{is_blank, is_letter, is_digit, is_word, continues_number, IsRun}
use Rattle.c_lexer.specs.Numbers.{IsNumber}
use Rattle.c_lexer.specs.Words.{punctuators}
use Rattle.c_lexer.specs.Pieces.{IsRow, begins, IsLongest, EndsLine, IsBadEscape, IsQuote, IsComment, block, line, BeginsNoComment, begins_piece, IsDirective, IsPiece, IsFaulty}
use Rattle.c_lexer.specs.Reading.{run_behind, run_len, Found, identifier, mark_at, number_of, number_or_fault, number_at, quoted_at, single, string_at, character_at, comment_end, comment_or_fault, block_comment_at, directive_at, identifier_at, slash_at, piece_at, ◌>>=◌}
use Rattle.c_lexer.proofs.RunLemmas.{run_found, run_again, run_within}
use Rattle.c_lexer.proofs.TableLemmas.{identifier_found, identifier_again, mark_found, mark_again, no_mark_found, no_mark_again, Each, at_row, row_found, begins_split}
use Rattle.c_lexer.proofs.NumberLemmas.{number_found, number_again}
use Rattle.c_lexer.proofs.QuoteLemmas.{IsQuoted, IsUnquoted, Outcome, quoted_found, quoted_again, unquoted_again}
use Rattle.c_lexer.proofs.SpaceLemmas.{EndOutcome, end_found, end_again, no_end_again, DirectiveOutcome, directive_found, directive_again}

found : Option Token → ℕ → Result Found Fault
found o n = Ok (o, n)

-- ---- tests of the first byte

letter_is : (b : ℕ) → is_letter b ≡ true → is_blank b ≡ false
unfolding is_letter is_blank
letter_is b h = grind (arith, nat_tests)

digit_is : (b : ℕ) → is_digit b ≡ true → (is_blank b ≡ false) × (is_letter b ≡ false)
unfolding is_letter is_blank is_digit
digit_is b h = (grind (arith, nat_tests), grind (arith, nat_tests))

-- the first byte begins nothing but a punctuator or a comment
pub record IsOther (b : ℕ) : Type 0 where
  pub blank : is_blank b ≡ false
  pub letter : is_letter b ≡ false
  pub digit : is_digit b ≡ false
  pub double : eqb b 34 ≡ false
  pub single : eqb b 39 ≡ false
  pub hash : eqb b 35 ≡ false

other_is : (b : ℕ) → begins_piece b ≡ false → IsOther b
other_is b h = by_tests (is_blank b) (is_letter b) (is_digit b) (eqb b 34) (eqb b 39) (eqb b 35) refl refl refl refl refl refl h
  where
    by_tests : (p q r s t u : Bool) → is_blank b ≡ p → is_letter b ≡ q → is_digit b ≡ r → eqb b 34 ≡ s → eqb b 39 ≡ t → eqb b 35 ≡ u
        → (p || (q || r) || s || t || u) ≡ false → IsOther b
    by_tests false false false false false false i j k l m n e = record { blank = i; letter = j; digit = k; double = l; single = m; hash = n }
    by_tests true q r s t u i j k l m n e = absurd (false≢true (sym e))
    by_tests false true r s t u i j k l m n e = absurd (false≢true (sym e))
    by_tests false false true s t u i j k l m n e = absurd (false≢true (sym e))
    by_tests false false false true t u i j k l m n e = absurd (false≢true (sym e))
    by_tests false false false false true u i j k l m n e = absurd (false≢true (sym e))
    by_tests false false false false false true i j k l m n e = absurd (false≢true (sym e))

is_other : (b : ℕ) → IsOther b → begins_piece b ≡ false
is_other b o = rw (o.blank, o.letter, o.digit, o.double, o.single, o.hash) refl

-- ---- where `piece_at` goes

at_blank : (b : ℕ) (bs : List ℕ) → is_blank b ≡ true → piece_at (b ∷ bs) ≡ found None 1
unfolding piece_at found
at_blank b bs h = rw h refl

at_letter : (b : ℕ) (bs : List ℕ) → is_letter b ≡ true → piece_at (b ∷ bs) ≡ identifier_at (b ∷ bs)
unfolding piece_at
at_letter b bs h = rw (letter_is b h, h) refl

at_digit : (b : ℕ) (bs : List ℕ) → is_digit b ≡ true → piece_at (b ∷ bs) ≡ number_at (b ∷ bs)
unfolding piece_at
at_digit b bs h = let t = digit_is b h in rw (t.0, t.1, h) refl

at_double : (bs : List ℕ) → piece_at (34 ∷ bs) ≡ string_at (34 ∷ bs)
unfolding piece_at is_blank is_letter is_digit
at_double bs = refl

at_single : (bs : List ℕ) → piece_at (39 ∷ bs) ≡ character_at (39 ∷ bs)
unfolding piece_at is_blank is_letter is_digit
at_single bs = refl

at_hash : (bs : List ℕ) → piece_at (35 ∷ bs) ≡ directive_at (35 ∷ bs)
unfolding piece_at is_blank is_letter is_digit
at_hash bs = refl

at_slash : (bs : List ℕ) → piece_at (47 ∷ bs) ≡ slash_at (47 ∷ bs)
unfolding piece_at is_blank is_letter is_digit
at_slash bs = refl

at_other : (b : ℕ) (bs : List ℕ) → IsOther b → eqb b 47 ≡ false → piece_at (b ∷ bs) ≡ mark_at (b ∷ bs)
unfolding piece_at
at_other b bs o h = rw (o.blank, o.letter, o.digit, o.double, o.single, o.hash, h) refl

at_nil : piece_at [] ≡ mark_at []
unfolding piece_at is_blank is_letter is_digit
at_nil = refl

mark_nil : mark_at [] ≡ Err faults.BadByte
unfolding mark_at punctuators
mark_nil = refl

pub piece_nil : piece_at [] ≡ Err faults.BadByte
piece_nil = at_nil ∙ mark_nil

slash_other : IsOther 47
unfolding is_blank is_letter is_digit
slash_other = record { blank = refl; letter = refl; digit = refl; double = refl; single = refl; hash = refl }

-- what the spelling of a punctuator begins with
abbrev IsMarkStart : List ℕ × Punctuator → Type 0
IsMarkStart r = (r.0 ≡ get_or r.0 0 0 ∷ drop 1 r.0) × (begins_piece (get_or r.0 0 0) ≡ false)

marks_start : Each IsMarkStart punctuators
unfolding punctuators is_blank is_letter is_digit
marks_start = ((refl, refl), ((refl, refl), ((refl, refl), ((refl, refl), ((refl, refl), ((refl, refl), ((refl, refl), ((refl, refl), ((refl, refl), ((refl, refl), ((refl, refl), ((refl, refl), ((refl, refl), ((refl, refl), ((refl, refl), ((refl, refl), ((refl, refl), ((refl, refl), ((refl, refl), ((refl, refl), ((refl, refl), ((refl, refl), ((refl, refl), ((refl, refl), ((refl, refl), ((refl, refl), ((refl, refl), ((refl, refl), ((refl, refl), ((refl, refl), ((refl, refl), ((refl, refl), ((refl, refl), ((refl, refl), ((refl, refl), ((refl, refl), ((refl, refl), ((refl, refl), ((refl, refl), ((refl, refl), ((refl, refl), ((refl, refl), ((refl, refl), ((refl, refl), ((refl, refl), tt)))))))))))))))))))))))))))))))))))))))))))))

row_some : (s : List ℕ) (m : Punctuator) → IsRow s m punctuators → 0 < length s
row_some s m i = let e = at_row IsMarkStart s m punctuators marks_start i in omega (arith, ap length e.0)

-- ---- what is read

-- the piece that is read, or why none is
abbrev pub IsOutcome : List ℕ → Result Found Fault → Type 0
IsOutcome bytes (Ok x) = (0 < x.1) × (x.1 ≤ length bytes) × IsPiece (take x.1 bytes) (drop x.1 bytes) x.0
IsOutcome bytes (Err f) = IsFaulty bytes f

of_parts : (bytes s rest : List ℕ) (o : Option Token) (n : ℕ) → bytes ≡ s ++ rest → n ≡ length s → 0 < length s → IsPiece s rest o → IsOutcome bytes (Ok (o, n))
of_parts bytes s rest o n e l h p =
    let front : take n bytes ≡ s = ap (take n) e ∙ take_at s rest n (sym l) in
    let end : drop n bytes ≡ rest = ap (drop n) e ∙ drop_at s rest n (sym l) in
    (omega arith, omega (arith, ap length e, length-append s rest), rw (front, end) p)

run_front : (c : ℕ → ℕ → Bool) (b : ℕ) (bs : List ℕ) → c 0 b ≡ true → run_behind c 0 (b ∷ bs) ≡ suc (run_behind c b bs)
run_front c b bs h = rw h refl

word_len : (bytes : List ℕ) → run_len class.Word bytes ≡ run_behind (λ _ b. is_word b) 0 bytes
unfolding run_len
word_len bytes = refl

number_len : (bytes : List ℕ) → run_len class.Number bytes ≡ run_behind continues_number 0 bytes
unfolding run_len
number_len bytes = refl

line_len : (bytes : List ℕ) → run_len class.Line bytes ≡ run_behind (λ _ b. not (eqb b 10)) 0 bytes
unfolding run_len
line_len bytes = refl

letter_word : (b : ℕ) → is_letter b ≡ true → is_word b ≡ true
letter_word b h = rw h refl

digit_continues : (b : ℕ) → is_digit b ≡ true → continues_number 0 b ≡ true
unfolding continues_number
digit_continues b h = let t = digit_is b h in rw (t.1, h) refl

identifier_outcome : (b : ℕ) (bs : List ℕ) → is_letter b ≡ true → IsOutcome (b ∷ bs) (identifier_at (b ∷ bs))
identifier_outcome b bs h =
    let m = run_behind (λ _ c. is_word c) b bs in
    let n : run_len class.Word (b ∷ bs) ≡ suc m = word_len (b ∷ bs) ∙ run_front (λ _ c. is_word c) b bs (letter_word b h) in
    let run = run_found (λ _ c. is_word c) b bs in
    rw n (omega arith, omega (arith, run_within (λ _ c. is_word c) b bs), IsPiece.identifier b (take m bs) (drop m bs) _ h run (identifier_found (b ∷ take m bs)))

number_outcome : (b : ℕ) (bs : List ℕ) → is_digit b ≡ true → IsOutcome (b ∷ bs) (number_at (b ∷ bs))
unfolding number_at
number_outcome b bs h =
    let m = run_behind continues_number b bs in
    let n : run_len class.Number (b ∷ bs) ≡ suc m = number_len (b ∷ bs) ∙ run_front continues_number b bs (digit_continues b h) in
    rw n (by_value m (run_found continues_number b bs) (run_within continues_number b bs) (number_of (b ∷ take m bs)) refl)
  where
    by_value : (m : ℕ) → IsRun continues_number b (take m bs) (drop m bs) → m ≤ length bs → (o : Option (ℕ × Bool)) → number_of (b ∷ take m bs) ≡ o → IsOutcome (b ∷ bs) (number_or_fault (suc m) o)
    by_value m run l None e =
        let none : (v : ℕ) (u : Bool) → IsNumber (b ∷ take m bs) v u → ⊥ = λ v u i. (let again = number_again (b ∷ take m bs) v u i in cc) in
        subst (λ t. IsFaulty (b ∷ t) faults.BadNumber) (take-append-drop m bs) (IsFaulty.number b (take m bs) (drop m bs) h run none)
    by_value m run l (Some x) e = (omega arith, omega arith, IsPiece.number b (take m bs) (drop m bs) x.0 x.1 h run (number_found (b ∷ take m bs) x.0 x.1 e))

faulty_quote : (quote : ℕ) (bs : List ℕ) (f : Fault) → IsQuote quote → IsUnquoted quote bs f → IsFaulty (quote ∷ bs) f
faulty_quote quote bs f q u = rw (u.parts) (by_why u.why)
  where
    by_why : ((f ≡ faults.Unclosed) × EndsLine u.rest) ⊎ ((f ≡ faults.BadEscape) × IsBadEscape u.rest) → IsFaulty (quote ∷ (u.inside ++ u.rest)) f
    by_why (inl p) = rw p.0 (IsFaulty.quote quote u.inside u.rest u.values q u.elements p.1)
    by_why (inr p) = rw p.0 (IsFaulty.escape quote u.inside u.rest u.values q u.elements p.1)

string_outcome : (bs : List ℕ) → IsOutcome (34 ∷ bs) (string_at (34 ∷ bs))
string_outcome bs = by_quoted (quoted_at 34 (34 ∷ bs)) (quoted_found 34 34 bs (inl refl))
  where
    by_quoted : (r : Result (List ℕ × ℕ) Fault) → Outcome 34 bs r → IsOutcome (34 ∷ bs) (r >>= λ x. Ok (Some (Token.StringLiteral x.0), x.1))
    by_quoted (Err f) u = faulty_quote 34 bs f (inl refl) u
    by_quoted (Ok x) q =
        let parts : 34 ∷ bs ≡ (34 ∷ (q.inside ++ 34 ∷ [])) ++ q.rest = ap (λ t. 34 ∷ t) (q.parts ∙ sym (append_assoc q.inside (34 ∷ []) q.rest)) in
        of_parts (34 ∷ bs) (34 ∷ (q.inside ++ 34 ∷ [])) q.rest (Some (Token.StringLiteral x.0)) x.1 parts (omega (arith, q.size, length-append q.inside (34 ∷ []))) (omega arith)
        (IsPiece.text q.inside q.rest x.0 q.elements)

character_outcome : (bs : List ℕ) → IsOutcome (39 ∷ bs) (character_at (39 ∷ bs))
character_outcome bs = by_quoted (quoted_at 39 (39 ∷ bs)) (quoted_found 39 39 bs (inr refl))
  where
    by_values : (values : List ℕ) (n : ℕ) → IsQuoted 39 bs values n → IsOutcome (39 ∷ bs) (single values n)
    by_values [] n q = rw (q.parts) (IsFaulty.count q.inside q.rest [] q.elements (λ e. omega arith))
    by_values (v ∷ []) n q =
        let parts : 39 ∷ bs ≡ (39 ∷ (q.inside ++ 39 ∷ [])) ++ q.rest = ap (λ t. 39 ∷ t) (q.parts ∙ sym (append_assoc q.inside (39 ∷ []) q.rest)) in
        of_parts (39 ∷ bs) (39 ∷ (q.inside ++ 39 ∷ [])) q.rest (Some (Token.Character v)) n parts (omega (arith, q.size, length-append q.inside (39 ∷ []))) (omega arith)
        (IsPiece.character q.inside q.rest v q.elements)
    by_values (v ∷ w ∷ values) n q = rw (q.parts) (IsFaulty.count q.inside q.rest (v ∷ w ∷ values) q.elements (λ e. omega arith))

    by_quoted : (r : Result (List ℕ × ℕ) Fault) → Outcome 39 bs r → IsOutcome (39 ∷ bs) (r >>= λ x. single x.0 x.1)
    by_quoted (Err f) u = faulty_quote 39 bs f (inr refl) u
    by_quoted (Ok x) q = by_values x.0 x.1 q

directive_outcome : (bs : List ℕ) → IsOutcome (35 ∷ bs) (directive_at (35 ∷ bs))
directive_outcome bs = by_found (directive_at (35 ∷ bs)) (directive_found bs)
  where
    by_found : (r : Result Found Fault) → DirectiveOutcome (35 ∷ bs) r → IsOutcome (35 ∷ bs) r
    by_found (Err f) u = rw (u.0) (IsFaulty.directive bs u.1)
    by_found (Ok x) d =
        let some : 0 < length d.1 = directive_some d.1 d.5 in
        of_parts (35 ∷ bs) d.1 d.2 x.0 x.1 d.3 d.4 some (rw (d.0) (IsPiece.directive d.1 d.2 d.5))
      where
        directive_some : (s : List ℕ) → IsDirective s → 0 < length s
        directive_some _ (IsDirective.include b w h gb gw m) = omega arith

mark_outcome : (b : ℕ) (bs : List ℕ) → IsOther b → BeginsNoComment (b ∷ bs) → IsOutcome (b ∷ bs) (mark_at (b ∷ bs))
mark_outcome b bs o n = by_found (mark_at (b ∷ bs)) refl
  where
    by_found : (r : Result Found Fault) → mark_at (b ∷ bs) ≡ r → IsOutcome (b ∷ bs) r
    by_found (Err f) e = let p = no_mark_found (b ∷ bs) f e in rw (p.0) (IsFaulty.byte b bs (is_other b o) p.1)
    by_found (Ok x) e =
        let p = mark_found (b ∷ bs) x.0 x.1 e in
        let parts = begins_split p.0 (b ∷ bs) p.4.at_front in
        let some : 0 < length p.0 = row_some p.0 p.1 p.4.is_punctuator in
        of_parts (b ∷ bs) p.0 (drop (length p.0) (b ∷ bs)) x.0 x.1 parts p.3 some
        (subst (λ t. IsPiece p.0 (drop (length p.0) (b ∷ bs)) t) (sym p.2)
        (IsPiece.mark p.0 (drop (length p.0) (b ∷ bs)) p.1 (subst (λ t. IsLongest p.0 p.1 t) parts p.4) (subst BeginsNoComment parts n)))

no_comment : (b : ℕ) (bs : List ℕ) → eqb b 47 ≡ false → BeginsNoComment (b ∷ bs)
no_comment b bs h = (by_begins (42 ∷ []), by_begins (47 ∷ []))
  where
    turned : eqb 47 b ≡ false
    turned = grind (arith, nat_tests)

    by_begins : (s : List ℕ) → begins (47 ∷ s) (b ∷ bs) ≡ false
    by_begins s = rw turned refl

-- what the byte behind a slash says
behind_slash : (bs : List ℕ) → (eqb (get_or (47 ∷ bs) 1 0) 42 ≡ false) → (eqb (get_or (47 ∷ bs) 1 0) 47 ≡ false) → BeginsNoComment (47 ∷ bs)
behind_slash [] h i = (refl, refl)
behind_slash (c ∷ bs) h i =
    let star : eqb 42 c ≡ false = grind (arith, nat_tests) in
    let slash : eqb 47 c ≡ false = grind (arith, nat_tests) in
    (rw star refl, rw slash refl)

slash_behind : (bs : List ℕ) → BeginsNoComment (47 ∷ bs) → (eqb (get_or (47 ∷ bs) 1 0) 42 ≡ false) × (eqb (get_or (47 ∷ bs) 1 0) 47 ≡ false)
slash_behind [] h = (refl, refl)
slash_behind (c ∷ bs) h = (by_star (eqb 42 c) refl h.0, by_slash (eqb 47 c) refl h.1)
  where
    by_star : (t : Bool) → eqb 42 c ≡ t → (t && true) ≡ false → eqb c 42 ≡ false
    by_star true i e = absurd (false≢true (sym e))
    by_star false i e = grind (arith, nat_tests)

    by_slash : (t : Bool) → eqb 47 c ≡ t → (t && true) ≡ false → eqb c 47 ≡ false
    by_slash true i e = absurd (false≢true (sym e))
    by_slash false i e = grind (arith, nat_tests)

second : (b c : ℕ) (bs : List ℕ) → eqb (get_or (b ∷ bs) 1 0) c ≡ true → 0 < c → bs ≡ c ∷ drop 1 bs
second b c [] h l = absurd (by_zero c l h)
  where
    by_zero : (c : ℕ) → 0 < c → eqb 0 c ≡ true → ⊥
    by_zero c l h = let e = eqb-true 0 c h in omega arith
second b c (d ∷ bs) h l = ap (λ x. x ∷ bs) (eqb-true d c h)

block_outcome : (bs : List ℕ) → IsOutcome (47 ∷ 42 ∷ bs) (block_comment_at (47 ∷ 42 ∷ bs))
block_outcome bs = by_end (comment_end bs) (end_found bs)
  where
    by_end : (o : Option ℕ) → EndOutcome bs o → IsOutcome (47 ∷ 42 ∷ bs) (comment_or_fault o)
    by_end None h = IsFaulty.comment bs h
    by_end (Some n) h =
        let parts : 47 ∷ 42 ∷ bs ≡ (47 ∷ 42 ∷ (h.inside ++ 42 ∷ 47 ∷ [])) ++ h.rest = ap (λ t. 47 ∷ 42 ∷ t) (h.parts ∙ sym (append_assoc h.inside (42 ∷ 47 ∷ []) h.rest)) in
        of_parts (47 ∷ 42 ∷ bs) (47 ∷ 42 ∷ (h.inside ++ 42 ∷ 47 ∷ [])) h.rest None (2 + n) parts (omega (arith, h.size, length-append h.inside (42 ∷ 47 ∷ []))) (omega arith)
        (IsPiece.comment (47 ∷ 42 ∷ (h.inside ++ 42 ∷ 47 ∷ [])) h.rest (block h.inside h.rest h.next))

-- a run of bytes of a class does not depend on what is before it
any_before : (p : ℕ → Bool) (x y : ℕ) (s rest : List ℕ) → IsRun (λ _ b. p b) x s rest → IsRun (λ _ b. p b) y s rest
any_before p x y [] [] h = tt
any_before p x y [] (b ∷ rest) h = h
any_before p x y (b ∷ s) rest h = h

line_outcome : (bs : List ℕ) → IsOutcome (47 ∷ 47 ∷ bs) (found None (run_len class.Line (47 ∷ 47 ∷ bs)))
unfolding found
line_outcome bs =
    let m = run_behind (λ _ b. not (eqb b 10)) 47 bs in
    let n : run_len class.Line (47 ∷ 47 ∷ bs) ≡ suc (suc m) = line_len (47 ∷ 47 ∷ bs) in
    let run = any_before (λ b. not (eqb b 10)) 47 0 (take m bs) (drop m bs) (run_found (λ _ b. not (eqb b 10)) 47 bs) in
    rw n (omega arith, omega (arith, run_within (λ _ b. not (eqb b 10)) 47 bs), IsPiece.comment (47 ∷ 47 ∷ take m bs) (drop m bs) (line (take m bs) (drop m bs) run))

slash_outcome : (bs : List ℕ) → IsOutcome (47 ∷ bs) (slash_at (47 ∷ bs))
unfolding found
slash_outcome bs = by_star (eqb (get_or (47 ∷ bs) 1 0) 42) refl
  where
    by_slash : eqb (get_or (47 ∷ bs) 1 0) 42 ≡ false → (t : Bool) → eqb (get_or (47 ∷ bs) 1 0) 47 ≡ t → IsOutcome (47 ∷ bs) (cond t (found None (run_len class.Line (47 ∷ bs))) (mark_at (47 ∷ bs)))
    by_slash h true i = rw (second 47 47 bs i (omega arith)) (line_outcome (drop 1 bs))
    by_slash h false i = mark_outcome 47 bs slash_other (behind_slash bs h i)

    by_star : (t : Bool) → eqb (get_or (47 ∷ bs) 1 0) 42 ≡ t → IsOutcome (47 ∷ bs) (cond t (block_comment_at (47 ∷ bs)) (cond (eqb (get_or (47 ∷ bs) 1 0) 47) (found None (run_len class.Line (47 ∷ bs))) (mark_at (47 ∷ bs))))
    by_star true h = rw (second 47 42 bs h (omega arith)) (block_outcome (drop 1 bs))
    by_star false h = by_slash h (eqb (get_or (47 ∷ bs) 1 0) 47) refl

-- what is read in front of a text that is not empty stands there, and what is refused is faulty
pub piece_outcome : (b : ℕ) (bs : List ℕ) → IsOutcome (b ∷ bs) (piece_at (b ∷ bs))
unfolding found
piece_outcome b bs = by_blank (is_blank b) refl
  where
    by_last : is_blank b ≡ false → is_letter b ≡ false → is_digit b ≡ false → eqb b 34 ≡ false → eqb b 39 ≡ false → eqb b 35 ≡ false → (t : Bool) → eqb b 47 ≡ t → IsOutcome (b ∷ bs) (piece_at (b ∷ bs))
    by_last h i j k l m true n = rw (eqb-true b 47 n, at_slash bs) (slash_outcome bs)
    by_last h i j k l m false n =
        let o : IsOther b = record { blank = h; letter = i; digit = j; double = k; single = l; hash = m } in
        rw (at_other b bs o n) (mark_outcome b bs o (no_comment b bs n))

    by_hash : is_blank b ≡ false → is_letter b ≡ false → is_digit b ≡ false → eqb b 34 ≡ false → eqb b 39 ≡ false → (t : Bool) → eqb b 35 ≡ t → IsOutcome (b ∷ bs) (piece_at (b ∷ bs))
    by_hash h i j k l true m = rw (eqb-true b 35 m, at_hash bs) (directive_outcome bs)
    by_hash h i j k l false m = by_last h i j k l m (eqb b 47) refl

    by_single : is_blank b ≡ false → is_letter b ≡ false → is_digit b ≡ false → eqb b 34 ≡ false → (t : Bool) → eqb b 39 ≡ t → IsOutcome (b ∷ bs) (piece_at (b ∷ bs))
    by_single h i j k true l = rw (eqb-true b 39 l, at_single bs) (character_outcome bs)
    by_single h i j k false l = by_hash h i j k l (eqb b 35) refl

    by_double : is_blank b ≡ false → is_letter b ≡ false → is_digit b ≡ false → (t : Bool) → eqb b 34 ≡ t → IsOutcome (b ∷ bs) (piece_at (b ∷ bs))
    by_double h i j true k = rw (eqb-true b 34 k, at_double bs) (string_outcome bs)
    by_double h i j false k = by_single h i j k (eqb b 39) refl

    by_digit : is_blank b ≡ false → is_letter b ≡ false → (t : Bool) → is_digit b ≡ t → IsOutcome (b ∷ bs) (piece_at (b ∷ bs))
    by_digit h i true j = rw (at_digit b bs j) (number_outcome b bs j)
    by_digit h i false j = by_double h i j (eqb b 34) refl

    by_letter : is_blank b ≡ false → (t : Bool) → is_letter b ≡ t → IsOutcome (b ∷ bs) (piece_at (b ∷ bs))
    by_letter h true i = rw (at_letter b bs i) (identifier_outcome b bs i)
    by_letter h false i = by_digit h i (is_digit b) refl

    by_blank : (t : Bool) → is_blank b ≡ t → IsOutcome (b ∷ bs) (piece_at (b ∷ bs))
    by_blank true h = rw (at_blank b bs h) (blank_outcome h)
      where
        blank_outcome : is_blank b ≡ true → IsOutcome (b ∷ bs) (found None 1)
        blank_outcome h = (omega arith, omega arith, IsPiece.blank b bs h)
    by_blank false h = by_letter h (is_letter b) refl

-- ---- what stands there is read

pub piece_some : (s rest : List ℕ) (o : Option Token) → IsPiece s rest o → 0 < length s
piece_some _ rest _ (IsPiece.blank b _ h) = omega arith
piece_some s rest _ (IsPiece.comment _ _ h) = comment_some s rest h
  where
    comment_some : (s rest : List ℕ) → IsComment s rest → 0 < length s
    comment_some _ _ (block inside rest h) = omega arith
    comment_some _ _ (line inside rest h) = omega arith
piece_some s rest _ (IsPiece.directive _ _ h) = directive_some s h
  where
    directive_some : (s : List ℕ) → IsDirective s → 0 < length s
    directive_some _ (IsDirective.include b w h gb gw m) = omega arith
piece_some _ rest _ (IsPiece.identifier b s _ t h r i) = omega arith
piece_some _ rest _ (IsPiece.number b s _ v u h r i) = omega arith
piece_some _ rest _ (IsPiece.character s _ v i) = omega arith
piece_some _ rest _ (IsPiece.text s _ vs i) = omega arith
piece_some _ rest _ (IsPiece.mark s _ m l n) = row_some s m l.is_punctuator

identifier_at_again : (b : ℕ) (s rest : List ℕ) (t : Token) → is_letter b ≡ true → IsRun (λ _ c. is_word c) b s rest → identifier (b ∷ s) ≡ t → identifier_at (b ∷ (s ++ rest)) ≡ found (Some t) (suc (length s))
unfolding found
identifier_at_again b s rest t h r e =
    let n : run_len class.Word (b ∷ (s ++ rest)) ≡ suc (length s) = word_len (b ∷ (s ++ rest)) ∙ run_front (λ _ c. is_word c) b (s ++ rest) (letter_word b h) ∙ ap suc (run_again (λ _ c. is_word c) b s rest r) in
    let front : take (length s) (s ++ rest) ≡ s = take_at s rest (length s) refl in
    rw (n, front, e) refl

number_at_front : (b : ℕ) (s rest : List ℕ) → is_digit b ≡ true → IsRun continues_number b s rest → number_at (b ∷ (s ++ rest)) ≡ number_or_fault (suc (length s)) (number_of (b ∷ s))
unfolding number_at
number_at_front b s rest h r =
    let n : run_len class.Number (b ∷ (s ++ rest)) ≡ suc (length s) = number_len (b ∷ (s ++ rest)) ∙ run_front continues_number b (s ++ rest) (digit_continues b h) ∙ ap suc (run_again continues_number b s rest r) in
    let front : take (length s) (s ++ rest) ≡ s = take_at s rest (length s) refl in
    rw (n, front) refl

comment_again : (s rest : List ℕ) → IsComment s rest → piece_at (s ++ rest) ≡ found None (length s)
unfolding found
comment_again _ rest (block inside _ next) =
    let parts : (inside ++ 42 ∷ 47 ∷ []) ++ rest ≡ inside ++ 42 ∷ 47 ∷ rest = append_assoc inside (42 ∷ 47 ∷ []) rest in
    let end : comment_end ((inside ++ 42 ∷ 47 ∷ []) ++ rest) ≡ Some (length inside + 2) = ap comment_end parts ∙ end_again inside rest next in
    let len : 2 + (length inside + 2) ≡ length (47 ∷ 42 ∷ (inside ++ 42 ∷ 47 ∷ [])) = omega (arith, length-append inside (42 ∷ 47 ∷ [])) in
    at_slash (42 ∷ ((inside ++ 42 ∷ 47 ∷ []) ++ rest)) ∙ ap comment_or_fault end ∙ ap (found None) len
comment_again _ rest (line inside _ run) =
    let r = any_before (λ b. not (eqb b 10)) 0 47 inside rest run in
    let n : run_len class.Line (47 ∷ 47 ∷ (inside ++ rest)) ≡ suc (suc (length inside)) = line_len (47 ∷ 47 ∷ (inside ++ rest)) ∙ ap (λ k. suc (suc k)) (run_again (λ _ b. not (eqb b 10)) 47 inside rest r) in
    at_slash (47 ∷ (inside ++ rest)) ∙ ap (found None) n

mark_piece_again : (s rest : List ℕ) (m : Punctuator) → IsLongest s m (s ++ rest) → BeginsNoComment (s ++ rest) → piece_at (s ++ rest) ≡ found (Some (Token.Punctuator m)) (length s)
unfolding found
mark_piece_again s rest m l n = by_spelling s (at_row IsMarkStart s m punctuators marks_start l.is_punctuator) (mark_again s (s ++ rest) m l) n
  where
    by_slash : (b : ℕ) (t : List ℕ) → IsOther b → (x : Bool) → eqb b 47 ≡ x → mark_at (b ∷ (t ++ rest)) ≡ Ok (Some (Token.Punctuator m), length (b ∷ t)) → BeginsNoComment (b ∷ (t ++ rest)) → piece_at (b ∷ (t ++ rest)) ≡ Ok (Some (Token.Punctuator m), length (b ∷ t))
    by_slash b t o false i e n = at_other b (t ++ rest) o i ∙ e
    by_slash b t o true i e n =
        let is = eqb-true b 47 i in
        let behind = slash_behind (t ++ rest) (subst (λ x. BeginsNoComment (x ∷ (t ++ rest))) is n) in
        let read : slash_at (47 ∷ (t ++ rest)) ≡ mark_at (47 ∷ (t ++ rest)) = rw (behind.0, behind.1) refl in
        ap (λ x. piece_at (x ∷ (t ++ rest))) is ∙ at_slash (t ++ rest) ∙ read ∙ ap (λ x. mark_at (x ∷ (t ++ rest))) (sym is) ∙ e

    by_spelling : (s : List ℕ) → IsMarkStart (s, m) → mark_at (s ++ rest) ≡ Ok (Some (Token.Punctuator m), length s) → BeginsNoComment (s ++ rest) → piece_at (s ++ rest) ≡ Ok (Some (Token.Punctuator m), length s)
    by_spelling [] i e n = absurd cc
    by_spelling (b ∷ t) i e n = by_slash b t (other_is b i.1) (eqb b 47) refl e n

pub piece_again : (s rest : List ℕ) (o : Option Token) → IsPiece s rest o → piece_at (s ++ rest) ≡ Ok (o, length s)
unfolding found
piece_again _ rest _ (IsPiece.blank b _ h) = at_blank b rest h
piece_again s rest _ (IsPiece.comment _ _ h) = comment_again s rest h
piece_again s rest _ (IsPiece.directive _ _ h) = by_hash s h (directive_again s rest h)
  where
    by_hash : (s : List ℕ) → IsDirective s → directive_at (s ++ rest) ≡ Ok (None, length s) → piece_at (s ++ rest) ≡ Ok (None, length s)
    by_hash _ (IsDirective.include b w h gb gw m) e = at_hash ((b ++ codes "include" ++ w ++ h) ++ rest) ∙ e
piece_again _ rest _ (IsPiece.identifier b s _ t h r i) = at_letter b (s ++ rest) h ∙ identifier_at_again b s rest t h r (identifier_again (b ∷ s) t i)
piece_again _ rest _ (IsPiece.number b s _ v u h r i) = at_digit b (s ++ rest) h ∙ number_at_front b s rest h r ∙ ap (number_or_fault (suc (length s))) (number_again (b ∷ s) v u i)
piece_again _ rest _ (IsPiece.character s _ v i) =
    let parts : (s ++ 39 ∷ []) ++ rest ≡ s ++ 39 ∷ rest = append_assoc s (39 ∷ []) rest in
    let len : length s + 2 ≡ length (39 ∷ (s ++ 39 ∷ [])) = omega (arith, length-append s (39 ∷ [])) in
    ap (λ t. piece_at (39 ∷ t)) parts ∙ at_single (s ++ 39 ∷ rest) ∙ ap (λ r. r >>= λ x. single x.0 x.1) (quoted_again 39 39 s rest (v ∷ []) (inr refl) i) ∙ ap (found (Some (Token.Character v))) len
piece_again _ rest _ (IsPiece.text s _ vs i) =
    let parts : (s ++ 34 ∷ []) ++ rest ≡ s ++ 34 ∷ rest = append_assoc s (34 ∷ []) rest in
    let len : length s + 2 ≡ length (34 ∷ (s ++ 34 ∷ [])) = omega (arith, length-append s (34 ∷ [])) in
    ap (λ t. piece_at (34 ∷ t)) parts ∙ at_double (s ++ 34 ∷ rest) ∙ ap (λ r. r >>= λ x. found (Some (Token.StringLiteral x.0)) x.1) (quoted_again 34 34 s rest vs (inl refl) i) ∙ ap (found (Some (Token.StringLiteral vs))) len
piece_again s rest _ (IsPiece.mark _ _ m l n) = mark_piece_again s rest m l n

quote_fails : (quote : ℕ) (bs : List ℕ) (f : Fault) → IsQuote quote → quoted_at quote (quote ∷ bs) ≡ Err f → piece_at (quote ∷ bs) ≡ Err f
quote_fails quote bs f (inl is) e =
    let read : quoted_at 34 (34 ∷ bs) ≡ Err f = rw is at e in
    rw is (at_double bs ∙ ap (λ r. r >>= λ x. Ok (Some (Token.StringLiteral x.0), x.1)) read)
quote_fails quote bs f (inr is) e =
    let read : quoted_at 39 (39 ∷ bs) ≡ Err f = rw is at e in
    rw is (at_single bs ∙ ap (λ r. r >>= λ x. single x.0 x.1) read)

slash_row : IsRow (47 ∷ []) marks.Slash punctuators
unfolding punctuators
slash_row = (row_found (λ s. bytes_eq s (47 ∷ [])) punctuators (47 ∷ [], marks.Slash) refl).0

-- what is faulty is refused
pub fault_again : (bytes : List ℕ) (f : Fault) → IsFaulty bytes f → piece_at bytes ≡ Err f
fault_again _ _ (IsFaulty.byte b rest h none) = by_slash (eqb b 47) refl
  where
    by_slash : (t : Bool) → eqb b 47 ≡ t → piece_at (b ∷ rest) ≡ Err faults.BadByte
    by_slash true i = absurd (none (47 ∷ []) marks.Slash slash_row (rw (eqb-true b 47 i) refl))
    by_slash false i = at_other b rest (other_is b h) i ∙ no_mark_again (b ∷ rest) none
fault_again _ _ (IsFaulty.number b s rest h r none) = at_digit b (s ++ rest) h ∙ number_at_front b s rest h r ∙ by_value (number_of (b ∷ s)) refl
  where
    by_value : (o : Option (ℕ × Bool)) → number_of (b ∷ s) ≡ o → number_or_fault (suc (length s)) o ≡ Err faults.BadNumber
    by_value None e = refl
    by_value (Some x) e = absurd (none x.0 x.1 (number_found (b ∷ s) x.0 x.1 e))
fault_again _ _ (IsFaulty.escape quote s rest values q i b) = quote_fails quote (s ++ rest) faults.BadEscape q (unquoted_again quote quote s rest values faults.BadEscape q i (inr (refl, b)))
fault_again _ _ (IsFaulty.count s rest values i n) =
    at_single (s ++ 39 ∷ rest) ∙ ap (λ r. r >>= λ x. single x.0 x.1) (quoted_again 39 39 s rest values (inr refl) i) ∙ by_count values n
  where
    by_count : (values : List ℕ) → length values ≢ 1 → single values (length s + 2) ≡ Err faults.BadEscape
    by_count [] n = refl
    by_count (v ∷ []) n = absurd (n refl)
    by_count (v ∷ w ∷ vs) n = refl
fault_again _ _ (IsFaulty.quote quote s rest values q i ends) = quote_fails quote (s ++ rest) faults.Unclosed q (unquoted_again quote quote s rest values faults.Unclosed q i (inl (refl, ends)))
fault_again _ _ (IsFaulty.comment rest none) = at_slash (42 ∷ rest) ∙ ap comment_or_fault (no_end_again rest none)
fault_again _ _ (IsFaulty.directive rest none) = at_hash rest ∙ by_outcome (directive_at (35 ∷ rest)) (directive_found rest)
  where
    by_outcome : (r : Result Found Fault) → DirectiveOutcome (35 ∷ rest) r → r ≡ Err faults.BadDirective
    by_outcome (Err f) u = ap (λ x. Err x) u.0
    by_outcome (Ok x) d = absurd (none d.1 d.2 d.3 d.5)
