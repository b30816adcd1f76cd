-- Rows of tables, and the first row that passes a test.
use Rattle.std.proofs.Common.{◌≡◌, ℕ, ◌≤◌, eqb, leb, Bool, true, false, ◌&&◌, cond, List, [], ◌∷◌, ◌++◌, length, take, drop, Option, Some, None, refl, sym, ap, subst, ◌∙◌, arith, leb-true, eqb-true, eq-eqb, bytes_eq, Result, Ok, Err}
use Rattle.std.proofs.lemmas.Bool.{false≢true, and_parts}
use Rattle.std.proofs.lemmas.Slice.Eq.{bytes_eq-Decides}
use Rattle.c_words.specs.Tokens.{Token}
use Rattle.c_words.specs.declared.words.Punctuator.{Punctuator}
use Rattle.c_words.specs.declared.words.Keyword.{Keyword}
use Rattle.c_lexer.specs.declared.fault.Fault.{Fault}
use Rattle.c_lexer.specs.declared.fault.Fault.TheVariants as faults
use Rattle.c_lexer.specs.Words.{keywords, punctuators}
use Rattle.c_lexer.specs.Pieces.{IsRow, here, there, begins, IsLongest, HasNoMark, IsIdentifier, keyword, name}
use Rattle.std.specs.Cmp.Lexicographic.{pointwise}
use Rattle.c_lexer.specs.Gives.{mark_row, word_row}
use Rattle.c_lexer.specs.Reading.{first_row, word_or_name, identifier, mark_or_fault, mark_at}

-- ---- any table

pub row_found : {A : Type 0} (test : List ℕ → Bool) (rows : List (List ℕ × A)) (row : List ℕ × A) → first_row test rows ≡ Some row → IsRow row.0 row.1 rows × (test row.0 ≡ true)
row_found test [] row e = absurd cc
row_found {A} test (r ∷ rows) row e = by_test (λ f. row_found test rows row f) (test r.0) refl e
  where
    by_test : (first_row test rows ≡ Some row → IsRow row.0 row.1 rows × (test row.0 ≡ true)) → (t : Bool) → test r.0 ≡ t → cond t (Some r) (first_row test rows) ≡ Some row → IsRow row.0 row.1 (r ∷ rows) × (test row.0 ≡ true)
    by_test go true i f =
        let same : r ≡ row = cc in
        subst (λ (x : List ℕ × A). IsRow x.0 x.1 (r ∷ rows) × (test x.0 ≡ true)) same (here rows, i)
    by_test go false i f = let p = go f in (there r rows p.0, p.1)

pub no_row : {A : Type 0} (test : List ℕ → Bool) (s : List ℕ) (a : A) (rows : List (List ℕ × A)) → first_row test rows ≡ None → IsRow s a rows → test s ≡ true → ⊥
no_row test s a _ e (here rows) h = by_test (test s) refl h e
  where
    by_test : (t : Bool) → test s ≡ t → t ≡ true → cond t (Some (s, a)) (first_row test rows) ≡ None → ⊥
    by_test true i j f = cc
    by_test false i j f = false≢true j
no_row test s a _ e (there r rows m) h = by_test (λ f. no_row test s a rows f m h) (test r.0) refl e
  where
    by_test : (first_row test rows ≡ None → ⊥) → (t : Bool) → test r.0 ≡ t → cond t (Some r) (first_row test rows) ≡ None → ⊥
    by_test go true i f = cc
    by_test go false i f = go f

pub no_row_again : {A : Type 0} (test : List ℕ → Bool) (rows : List (List ℕ × A)) → ((s : List ℕ) (a : A) → IsRow s a rows → test s ≡ true → ⊥) → first_row test rows ≡ None
no_row_again test [] none = refl
no_row_again test (r ∷ rows) none = by_test (no_row_again test rows (λ s a m. none s a (there r rows m))) (test r.0) refl
  where
    by_test : first_row test rows ≡ None → (t : Bool) → test r.0 ≡ t → cond t (Some r) (first_row test rows) ≡ None
    by_test go true i = absurd (none r.0 r.1 (here rows) i)
    by_test go false i = go

-- what holds of each row
abbrev pub Each : {A : Type 0} → (List ℕ × A → Type 0) → List (List ℕ × A) → Type 0
Each P [] = Unit {0}
Each P (r ∷ rows) = P r × Each P rows

pub at_row : {A : Type 0} (P : List ℕ × A → Type 0) (s : List ℕ) (a : A) (rows : List (List ℕ × A)) → Each P rows → IsRow s a rows → P (s, a)
at_row P s a _ h (here rows) = h.0
at_row P s a _ h (there r rows m) = at_row P s a rows h.1 m

pub bytes_eq_refl : (s : List ℕ) → bytes_eq s s ≡ true
bytes_eq_refl s = (bytes_eq-Decides s s).1 refl

-- each row is the first with its spelling
abbrev pub AreDistinct : {A : Type 0} → List (List ℕ × A) → Type 0
AreDistinct rows = Each (λ r. first_row (λ x. bytes_eq x r.0) rows ≡ Some r) rows

pub one_value : {A : Type 0} (rows : List (List ℕ × A)) → AreDistinct rows → (s : List ℕ) (a b : A) → IsRow s a rows → IsRow s b rows → a ≡ b
one_value {A} rows d s a b m n =
    let p = at_row (λ r. first_row (λ x. bytes_eq x r.0) rows ≡ Some r) s a rows d m in
    let q = at_row (λ r. first_row (λ x. bytes_eq x r.0) rows ≡ Some r) s b rows d n in
    let same : (s, a) ≡ (s, b) = some_is _ _ (sym p ∙ q) in
    ap (λ (x : List ℕ × A). x.1) same
  where
    some_is : (x y : List ℕ × A) → Some x ≡ Some y → x ≡ y
    some_is x y e = cc

-- ---- keywords

words_distinct : AreDistinct keywords
unfolding keywords
words_distinct = (refl, (refl, (refl, (refl, (refl, (refl, (refl, (refl, (refl, (refl, (refl, (refl, (refl, (refl, (refl, (refl, (refl, (refl, (refl, (refl, (refl, (refl, (refl, (refl, (refl, (refl, (refl, (refl, (refl, (refl, (refl, (refl, (refl, (refl, (refl, (refl, (refl, (refl, (refl, (refl, (refl, (refl, (refl, (refl, (refl, (refl, tt))))))))))))))))))))))))))))))))))))))))))))))

pub identifier_found : (s : List ℕ) → IsIdentifier s (identifier s)
unfolding identifier
identifier_found s = by_row (first_row (λ x. bytes_eq x s) keywords) refl
  where
    by_row : (o : Option (List ℕ × Keyword)) → first_row (λ x. bytes_eq x s) keywords ≡ o → IsIdentifier s (word_or_name s o)
    by_row None e = name (λ w m. no_row (λ x. bytes_eq x s) s w keywords e m (bytes_eq_refl s))
    by_row (Some row) e =
        let p = row_found (λ x. bytes_eq x s) keywords row e in
        let same : row.0 ≡ s = (bytes_eq-Decides row.0 s).0 p.1 in
        keyword row.1 (subst (λ x. IsRow x row.1 keywords) same p.0)

pub identifier_again : (s : List ℕ) (t : Token) → IsIdentifier s t → identifier s ≡ t
unfolding identifier
identifier_again s _ (keyword w m) = ap (word_or_name s) (at_row (λ r. first_row (λ x. bytes_eq x r.0) keywords ≡ Some r) s w keywords words_distinct m)
identifier_again s _ (name none) =
    ap (word_or_name s) (no_row_again (λ x. bytes_eq x s) keywords (λ x w m e. none w (subst (λ y. IsRow y w keywords) ((bytes_eq-Decides x s).0 e) m)))

-- ---- punctuators

marks_distinct : AreDistinct punctuators
unfolding punctuators
marks_distinct = (refl, (refl, (refl, (refl, (refl, (refl, (refl, (refl, (refl, (refl, (refl, (refl, (refl, (refl, (refl, (refl, (refl, (refl, (refl, (refl, (refl, (refl, (refl, (refl, (refl, (refl, (refl, (refl, (refl, (refl, (refl, (refl, (refl, (refl, (refl, (refl, (refl, (refl, (refl, (refl, (refl, (refl, (refl, (refl, (refl, tt)))))))))))))))))))))))))))))))))))))))))))))

abbrev falls : {A : Type 0} → List (List ℕ × A) → Bool
falls [] = true
falls (r ∷ []) = true
falls (r ∷ s ∷ rows) = leb (length s.0) (length r.0) && falls (s ∷ rows)

marks_fall : falls punctuators ≡ true
unfolding punctuators
marks_fall = refl

-- no later row is longer than the first
no_longer : {A : Type 0} (t : List ℕ) (b : A) (r : List ℕ × A) (rows : List (List ℕ × A)) → falls (r ∷ rows) ≡ true → IsRow t b (r ∷ rows) → length t ≤ length r.0
no_longer t b r rows h (here _) = omega arith
no_longer t b r _ h (there _ [] m) = elim m [ ]
no_longer t b r _ h (there _ (s ∷ rows) m) =
    let p = and_parts (leb (length s.0) (length r.0)) (falls (s ∷ rows)) h in
    let q = no_longer t b s rows p.1 m in
    omega (arith, leb-true _ _ p.0)

falls_on : {A : Type 0} (r : List ℕ × A) (rows : List (List ℕ × A)) → falls (r ∷ rows) ≡ true → falls rows ≡ true
falls_on r [] h = refl
falls_on r (s ∷ rows) h = (and_parts (leb (length s.0) (length r.0)) (falls (s ∷ rows)) h).1

later_row : {A : Type 0} (test : List ℕ → Bool) (t : List ℕ) (b : A) (r : List ℕ × A) (rows : List (List ℕ × A)) → test t ≡ true → test r.0 ≡ false → IsRow t b (r ∷ rows) → IsRow t b rows
later_row test t b _ _ h i (here _) = absurd (false≢true (sym i ∙ h))
later_row test t b _ _ h i (there _ _ m) = m

-- the first of falling rows that passes is the longest that does
first_is_longest : {A : Type 0} (test : List ℕ → Bool) (t : List ℕ) (b : A) (row : List ℕ × A) (rows : List (List ℕ × A)) → falls rows ≡ true → first_row test rows ≡ Some row
    → IsRow t b rows → test t ≡ true → length t ≤ length row.0
first_is_longest test t b row [] f e m h = elim m [ ]
first_is_longest {A} test t b row (r ∷ rows) f e m h = by_test (λ g n. first_is_longest test t b row rows (falls_on r rows f) g n h) (test r.0) refl e
  where
    by_test : (first_row test rows ≡ Some row → IsRow t b rows → length t ≤ length row.0) → (x : Bool) → test r.0 ≡ x → cond x (Some r) (first_row test rows) ≡ Some row → length t ≤ length row.0
    by_test go true i g =
        let same : r ≡ row = cc in
        subst (λ (y : List ℕ × A). length t ≤ length y.0) same (no_longer t b r rows f m)
    by_test go false i g = go g (later_row test t b r rows h i m)

-- two spellings of one length in front of a text are one
same_front : (s t text : List ℕ) → begins s text ≡ true → begins t text ≡ true → length s ≡ length t → s ≡ t
same_front [] [] text h i e = refl
same_front [] (y ∷ t) text h i e = absurd (omega arith)
same_front (x ∷ s) [] text h i e = absurd (omega arith)
same_front (x ∷ s) (y ∷ t) [] h i e = absurd (false≢true h)
same_front (x ∷ s) (y ∷ t) (b ∷ text) h i e =
    let u = and_parts (eqb x b) (begins s text) h in
    let v = and_parts (eqb y b) (begins t text) i in
    let tails = same_front s t text u.1 v.1 (omega arith) in
    let head : x ≡ y = eqb-true x b u.0 ∙ sym (eqb-true y b v.0) in
    cc

pub begins_split : (s text : List ℕ) → begins s text ≡ true → text ≡ s ++ drop (length s) text
begins_split [] text h = refl
begins_split (x ∷ s) [] h = absurd (false≢true h)
begins_split (x ∷ s) (b ∷ text) h =
    let u = and_parts (eqb x b) (begins s text) h in
    let tails = begins_split s text u.1 in
    let head = eqb-true x b u.0 in
    cc

pub begins_append : (s rest : List ℕ) → begins s (s ++ rest) ≡ true
begins_append [] rest = refl
begins_append (x ∷ s) rest = rw (eq-eqb x x refl) (begins_append s rest)

abbrev found : Option Token × ℕ → Result (Option Token × ℕ) Fault
found x = Ok x

abbrev missed : Fault → Result (Option Token × ℕ) Fault
missed f = Err f

pub mark_found : (text : List ℕ) (o : Option Token) (len : ℕ) → mark_at text ≡ Ok (o, len)
    → (s : List ℕ) × (m : Punctuator) × (o ≡ Some (Token.Punctuator m)) × (len ≡ length s) × IsLongest s m text
unfolding mark_at
mark_found text o len e = by_row (first_row (λ x. begins x text) punctuators) refl e
  where
    by_row : (r : Option (List ℕ × Punctuator)) → first_row (λ x. begins x text) punctuators ≡ r → mark_or_fault r ≡ Ok (o, len)
        → (s : List ℕ) × (m : Punctuator) × (o ≡ Some (Token.Punctuator m)) × (len ≡ length s) × IsLongest s m text
    by_row None f g = absurd cc
    by_row (Some row) f g =
        let p = row_found (λ x. begins x text) punctuators row f in
        let same : (Some (Token.Punctuator row.1), length row.0) ≡ (o, len) = ok_is _ _ g in (
          row.0,
          row.1,
          sym (ap (λ (x : Option Token × ℕ). x.0) same),
          sym (ap (λ (x : Option Token × ℕ). x.1) same),
          record { is_punctuator = p.0; at_front = p.1; longest = λ t m n h. first_is_longest (λ x. begins x text) t m row punctuators marks_fall f n h },
        )
      where
        ok_is : (x y : Option Token × ℕ) → found x ≡ found y → x ≡ y
        ok_is x y h = cc

pub mark_again : (s text : List ℕ) (m : Punctuator) → IsLongest s m text → mark_at text ≡ Ok (Some (Token.Punctuator m), length s)
unfolding mark_at
mark_again s text m w = by_row (first_row (λ x. begins x text) punctuators) refl
  where
    by_row : (r : Option (List ℕ × Punctuator)) → first_row (λ x. begins x text) punctuators ≡ r → mark_or_fault r ≡ Ok (Some (Token.Punctuator m), length s)
    by_row None f = absurd (no_row (λ x. begins x text) s m punctuators f w.is_punctuator w.at_front)
    by_row (Some row) f =
        let p = row_found (λ x. begins x text) punctuators row f in
        let le : length s ≤ length row.0 = first_is_longest (λ x. begins x text) s m row punctuators marks_fall f w.is_punctuator w.at_front in
        let ge : length row.0 ≤ length s = w.longest row.0 row.1 p.0 p.1 in
        let same : row.0 ≡ s = same_front row.0 s text p.1 w.at_front (omega arith) in
        let value : row.1 ≡ m = one_value punctuators marks_distinct s row.1 m (subst (λ x. IsRow x row.1 punctuators) same p.0) w.is_punctuator in
        cc

pub no_mark_found : (text : List ℕ) (f : Fault) → mark_at text ≡ Err f → (f ≡ faults.BadByte) × HasNoMark text
unfolding mark_at
no_mark_found text f e = by_row (first_row (λ x. begins x text) punctuators) refl e
  where
    by_row : (r : Option (List ℕ × Punctuator)) → first_row (λ x. begins x text) punctuators ≡ r → mark_or_fault r ≡ Err f → (f ≡ faults.BadByte) × HasNoMark text
    by_row None i g = (err_is _ _ (sym g), λ s m n h. no_row (λ x. begins x text) s m punctuators i n h)
      where
        err_is : (x y : Fault) → missed x ≡ missed y → x ≡ y
        err_is x y h = cc
    by_row (Some row) i g = absurd cc

pub no_mark_again : (text : List ℕ) → HasNoMark text → mark_at text ≡ Err faults.BadByte
unfolding mark_at
no_mark_again text none = ap mark_or_fault (no_row_again (λ x. begins x text) punctuators none)

-- ---- what the code says of tables

pub begins_is : (s text : List ℕ) → begins s text ≡ pointwise eqb s (take (length s) text)
begins_is [] text = refl
begins_is (x ∷ s) [] = refl
begins_is (x ∷ s) (b ∷ text) = ap (λ t. eqb x b && t) (begins_is s text)

pub at_mark : (o : Option (List ℕ × Punctuator)) (r : Option (ℕ × Punctuator)) → r ≡ mark_row o → mark_or_fault o ≡ elim r [ None ↦ Err faults.BadByte | Some x ↦ Ok (Some (Token.Punctuator x.1), x.0) ]
at_mark None r e = rw e refl
at_mark (Some row) r e = rw e refl

pub at_word : (s : List ℕ) (o : Option (List ℕ × Keyword)) (r : Option Keyword) → r ≡ word_row o → word_or_name s o ≡ elim r [ None ↦ Token.Name s | Some w ↦ Token.Keyword w ]
at_word s None r e = rw e refl
at_word s (Some row) r e = rw e refl
