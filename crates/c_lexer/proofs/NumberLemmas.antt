-- The integer constants are what is read as one.
use Rattle.std.proofs.Common.{◌≡◌, ◌≢◌, ◌⊎◌, inl, inr, ℕ, zero, suc, ◌+◌, ◌-◌, ◌*◌, ◌^◌, ◌<◌, ◌≤◌, eqb, leb, ltb, Bool, true, false, not, ◌&&◌, ◌||◌, cond, List, [], ◌∷◌, ◌++◌, length, take, get_or, Option, Some, None, refl, sym, ap, subst, ◌∙◌, arith, le-leb, eqb-true, ne_eqb, ltb-true, lt-ltb, length-append, take_at}
use Rattle.std.proofs.lemmas.Bool.{false≢true, eqb-false, lt-leb, cases_lt}
use Rattle.std.proofs.lemmas.Bool.Decides.{nat_tests}
use Rattle.std.proofs.lemmas.List.{get_or_at}
use Rattle.c_lexer.specs.Bytes.{is_digit, is_digit_of, digit_value, is_hex_mark, is_unsigned_suffix}
use Rattle.c_lexer.specs.Numbers.{value_behind, value_of, AreDigits, IsInteger, decimal, octal, hexadecimal, IsNumber, int, large, suffixed}
use Rattle.c_lexer.specs.Reading.{value_below, is_suffixed, unsuffixed, behind_hex_mark, behind_zero, radix_of, limit_of, typed, constant, number_of}

-- ---- values

some_is : {A : Type 0} (x y : A) → Some x ≡ Some y → x ≡ y
some_is x y e = cc

grows : (radix before : ℕ) (ds : List ℕ) → 1 ≤ radix → before ≤ value_behind radix before ds
grows radix before [] h = omega arith
grows radix before (d ∷ ds) h =
    let more = grows radix (radix * before + digit_value d) ds h in
    omega (arith, scaled radix before h)
  where
    scaled : (r n : ℕ) → 1 ≤ r → n ≤ r * n
    scaled r n h = grind arith

pub value_found : (limit radix before : ℕ) (ds : List ℕ) (v : ℕ) → before < limit → value_below limit radix before ds ≡ Some v
    → AreDigits radix ds × (v ≡ value_behind radix before ds) × (v < limit)
value_found limit radix before [] v lt e =
    let same : before ≡ v = some_is _ _ e in
    (tt, sym same, omega arith)
value_found limit radix before (d ∷ ds) v lt e =
    by_tests (λ l f. value_found limit radix (radix * before + digit_value d) ds v l f) (is_digit_of radix d) (ltb (radix * before + digit_value d) limit) refl refl e
  where
    by_tests : (radix * before + digit_value d < limit → value_below limit radix (radix * before + digit_value d) ds ≡ Some v → AreDigits radix ds × (v ≡ value_behind radix (radix * before + digit_value d) ds) × (v < limit))
        → (p q : Bool) → is_digit_of radix d ≡ p → ltb (radix * before + digit_value d) limit ≡ q
        → cond (p && q) (value_below limit radix (radix * before + digit_value d) ds) None ≡ Some v
        → AreDigits radix (d ∷ ds) × (v ≡ value_behind radix before (d ∷ ds)) × (v < limit)
    by_tests go true true i j f = let r = go (ltb-true _ _ j) f in ((i, r.0), r.1, r.2)
    by_tests go true false i j f = absurd cc
    by_tests go false q i j f = absurd cc

pub value_again : (limit radix before : ℕ) (ds : List ℕ) → 1 ≤ radix → AreDigits radix ds → value_behind radix before ds < limit → value_below limit radix before ds ≡ Some (value_behind radix before ds)
value_again limit radix before [] r h l = refl
value_again limit radix before (d ∷ ds) r h l =
    let more = grows radix (radix * before + digit_value d) ds r in
    let test : ltb (radix * before + digit_value d) limit ≡ true = lt-ltb _ _ (omega arith) in
    rw (h.0, test) (value_again limit radix (radix * before + digit_value d) ds r h.1 l)

-- ---- radix

digit_of_ten : (d : ℕ) → is_digit_of 10 d ≡ true → is_digit d ≡ true
unfolding digit_value
digit_of_ten d h = by_test (is_digit d) refl (ltb-true _ _ h)
  where
    by_test : (t : Bool) → is_digit d ≡ t → cond t (d - 48) (cond (leb 65 d && leb d 70) (d - 55) (cond (leb 97 d && leb d 102) (d - 87) 16)) < 10 → is_digit d ≡ true
    by_test true i l = i
    by_test false i l = absurd (grind (arith, nat_tests))

ten_of_digit : (d : ℕ) → is_digit d ≡ true → is_digit_of 10 d ≡ true
unfolding digit_value is_digit
ten_of_digit d h = grind (arith, nat_tests)

octal_no_mark : (d : ℕ) → is_digit_of 8 d ≡ true → is_hex_mark d ≡ false
unfolding digit_value is_digit is_hex_mark
octal_no_mark d h = grind (arith, nat_tests)

digit_no_suffix : (radix d : ℕ) → radix ≤ 16 → is_digit_of radix d ≡ true → is_unsigned_suffix d ≡ false
unfolding digit_value is_digit is_unsigned_suffix
digit_no_suffix radix d r h = grind (arith, nat_tests)

mark_no_suffix : (d : ℕ) → is_hex_mark d ≡ true → is_unsigned_suffix d ≡ false
unfolding is_hex_mark is_unsigned_suffix
mark_no_suffix d h = grind (arith, nat_tests)

pub radix_found : (s : List ℕ) (r : ℕ × List ℕ) → radix_of s ≡ Some r → AreDigits r.0 r.1 → IsInteger s r.0 r.1
radix_found [] r e h = absurd cc
radix_found (d ∷ ds) r e h = by_test (eqb d 48) refl e
  where
    by_mark : (x : ℕ) (xs : List ℕ) → d ≡ 48 → (t : Bool) → is_hex_mark x ≡ t → cond t (behind_hex_mark xs) (Some (8, x ∷ xs)) ≡ Some r → IsInteger (d ∷ x ∷ xs) r.0 r.1
    by_mark x [] i true j f = absurd cc
    by_mark x (y ∷ ys) i true j f =
        let same : (16, y ∷ ys) ≡ r = some_is _ _ f in
        let digits : AreDigits 16 (y ∷ ys) = subst (λ (p : ℕ × List ℕ). AreDigits p.0 p.1) (sym same) h in
        let is : IsInteger (48 ∷ x ∷ y ∷ ys) r.0 r.1 = subst (λ (p : ℕ × List ℕ). IsInteger (48 ∷ x ∷ y ∷ ys) p.0 p.1) same (hexadecimal x y ys j digits) in
        subst (λ z. IsInteger (z ∷ x ∷ y ∷ ys) r.0 r.1) (sym i) is
    by_mark x xs i false j f =
        let same : (8, x ∷ xs) ≡ r = some_is _ _ f in
        let digits : AreDigits 8 (x ∷ xs) = subst (λ (p : ℕ × List ℕ). AreDigits p.0 p.1) (sym same) h in
        let is : IsInteger (48 ∷ x ∷ xs) r.0 r.1 = subst (λ (p : ℕ × List ℕ). IsInteger (48 ∷ x ∷ xs) p.0 p.1) same (octal (x ∷ xs) digits) in
        subst (λ z. IsInteger (z ∷ x ∷ xs) r.0 r.1) (sym i) is

    by_zero : (xs : List ℕ) → d ≡ 48 → behind_zero xs ≡ Some r → IsInteger (d ∷ xs) r.0 r.1
    by_zero [] i f =
        let same : (8, []) ≡ r = some_is _ _ f in
        let is : IsInteger (48 ∷ []) r.0 r.1 = subst (λ (p : ℕ × List ℕ). IsInteger (48 ∷ []) p.0 p.1) same (octal [] tt) in
        subst (λ z. IsInteger (z ∷ []) r.0 r.1) (sym i) is
    by_zero (x ∷ xs) i f = by_mark x xs i (is_hex_mark x) refl f

    by_test : (t : Bool) → eqb d 48 ≡ t → cond t (behind_zero ds) (Some (10, d ∷ ds)) ≡ Some r → IsInteger (d ∷ ds) r.0 r.1
    by_test true i f = by_zero ds (eqb-true d 48 i) f
    by_test false i f =
        let same : (10, d ∷ ds) ≡ r = some_is _ _ f in
        let digits : AreDigits 10 (d ∷ ds) = subst (λ (p : ℕ × List ℕ). AreDigits p.0 p.1) (sym same) h in
        subst (λ (p : ℕ × List ℕ). IsInteger (d ∷ ds) p.0 p.1) same (decimal d ds (digit_of_ten d digits.0) (eqb-false d 48 i) digits.1)

pub radix_again : (s : List ℕ) (radix : ℕ) (ds : List ℕ) → IsInteger s radix ds → radix_of s ≡ Some (radix, ds)
radix_again _ _ _ (decimal d ds h n a) = rw (ne_eqb d 48 n) refl
radix_again _ _ _ (octal [] a) = refl
radix_again _ _ _ (octal (x ∷ ds) a) = rw (octal_no_mark x a.0) refl
radix_again _ _ _ (hexadecimal x d ds h a) = rw h refl

pub integer_digits : (s : List ℕ) (radix : ℕ) (ds : List ℕ) → IsInteger s radix ds → (1 ≤ radix) × (radix ≤ 16) × AreDigits radix ds
integer_digits _ _ _ (decimal d ds h n a) = (omega arith, omega arith, (ten_of_digit d h, a))
integer_digits _ _ _ (octal ds a) = (omega arith, omega arith, a)
integer_digits _ _ _ (hexadecimal x d ds h a) = (omega arith, omega arith, a)

-- ---- the suffix

-- the last byte
abbrev last : List ℕ → ℕ
last s = get_or s (length s - 1) 0

last_on : (b c : ℕ) (s : List ℕ) → last (b ∷ c ∷ s) ≡ last (c ∷ s)
last_on b c s = let e : length (b ∷ c ∷ s) - 1 ≡ length (c ∷ s) = omega arith in ap (λ k. get_or (b ∷ c ∷ s) k 0) e ∙ get_or_on (length (c ∷ s)) (omega arith)
  where
    get_or_on : (n : ℕ) → 1 ≤ n → get_or (b ∷ c ∷ s) n 0 ≡ get_or (c ∷ s) (n - 1) 0
    get_or_on zero h = absurd (omega arith)
    get_or_on (suc n) h = let e : n ≡ suc n - 1 = omega arith in ap (λ k. get_or (c ∷ s) k 0) e

last_digit : (radix d : ℕ) (ds : List ℕ) → radix ≤ 16 → AreDigits radix (d ∷ ds) → is_unsigned_suffix (last (d ∷ ds)) ≡ false
last_digit radix d [] r h = digit_no_suffix radix d r h.0
last_digit radix d (c ∷ ds) r h = rw (last_on d c ds) (last_digit radix c ds r h.1)

zero_no_suffix : is_unsigned_suffix 48 ≡ false
unfolding is_unsigned_suffix
zero_no_suffix = refl

no_suffix : (s : List ℕ) (radix : ℕ) (ds : List ℕ) → IsInteger s radix ds → is_suffixed s ≡ false
no_suffix _ _ _ (decimal d ds h n a) = last_digit 10 d ds (omega arith) (ten_of_digit d h, a)
no_suffix _ _ _ (octal [] a) = zero_no_suffix
no_suffix _ _ _ (octal (x ∷ ds) a) = rw (last_on 48 x ds) (last_digit 8 x ds (omega arith) a)
no_suffix _ _ _ (hexadecimal x d ds h a) = rw (last_on 48 x (d ∷ ds), last_on x d ds) (last_digit 16 d ds (omega arith) a)

last_push : (s : List ℕ) (u : ℕ) → last (s ++ u ∷ []) ≡ u
last_push s u = get_or_at s u [] 0 (length (s ++ u ∷ []) - 1) (omega (arith, length-append s (u ∷ [])))

front_push : (s : List ℕ) (u : ℕ) → take (length (s ++ u ∷ []) - 1) (s ++ u ∷ []) ≡ s
front_push s u = take_at s (u ∷ []) (length (s ++ u ∷ []) - 1) (omega (arith, length-append s (u ∷ [])))

nil_no_suffix : is_suffixed [] ≡ false
unfolding is_unsigned_suffix
nil_no_suffix = refl

-- a list that is not empty is its front and its last byte
push_last : (b : ℕ) (s : List ℕ) → b ∷ s ≡ take (length (b ∷ s) - 1) (b ∷ s) ++ last (b ∷ s) ∷ []
push_last b [] = refl
push_last b (c ∷ s) =
    let more = push_last c s in
    let e : length (b ∷ c ∷ s) - 1 ≡ suc (length (c ∷ s) - 1) = omega arith in
    rw (last_on b c s, e) (ap (λ t. b ∷ t) more)

-- ---- constants

int_below : (radix v : ℕ) → v < limit_of false radix → (v < 2 ^ 31) ⊎ ((radix ≢ 10) × (2 ^ 31 ≤ v) × (v < 2 ^ 32))
int_below radix v h = by_tests (eqb radix 10) refl h
  where
    by_size : radix ≢ 10 → v < 2 ^ 32 → (v < 2 ^ 31) ⊎ (2 ^ 31 ≤ v) → (v < 2 ^ 31) ⊎ ((radix ≢ 10) × (2 ^ 31 ≤ v) × (v < 2 ^ 32))
    by_size n l (inl a) = inl a
    by_size n l (inr b) = inr (n, b, l)

    by_tests : (t : Bool) → eqb radix 10 ≡ t → v < cond (t && not false) (2 ^ 31) (2 ^ 32) → (v < 2 ^ 31) ⊎ ((radix ≢ 10) × (2 ^ 31 ≤ v) × (v < 2 ^ 32))
    by_tests true i l = inl l
    by_tests false i l = by_size (eqb-false radix 10 i) l (cases_lt v (2 ^ 31))

limit_at : (t : Bool) (radix : ℕ) → 0 < limit_of t radix
limit_at t radix = by_test (eqb radix 10 && not t)
  where
    by_test : (t : Bool) → 0 < cond t (2 ^ 31) (2 ^ 32)
    by_test true = omega arith
    by_test false = omega arith

limit_suffixed : (radix : ℕ) → limit_of true radix ≡ 2 ^ 32
limit_suffixed radix = by_test (eqb radix 10)
  where
    by_test : (t : Bool) → cond (t && false) (2 ^ 31) (2 ^ 32) ≡ 2 ^ 32
    by_test true = refl
    by_test false = refl

-- what the value below the limit of an unsuffixed or suffixed integer gives
abbrev Holds : List ℕ → Bool → ℕ → Bool → Type 0
Holds s t v u = (s' : List ℕ) × (r : ℕ × List ℕ) × (s' ≡ unsuffixed s) × IsInteger s' r.0 r.1 × (v ≡ value_of r.0 r.1) × (v < limit_of t r.0) × (u ≡ (t || leb (2 ^ 31) v))

parts : (s : List ℕ) (t : Bool) (v : ℕ) (u : Bool) → constant t (radix_of (unsuffixed s)) ≡ Some (v, u) → Holds s t v u
parts s t v u e = by_radix (radix_of (unsuffixed s)) refl e
  where
    by_value : (r : ℕ × List ℕ) → radix_of (unsuffixed s) ≡ Some r → (o : Option ℕ) → value_below (limit_of t r.0) r.0 0 r.1 ≡ o → typed t o ≡ Some (v, u) → Holds s t v u
    by_value r i None j f = absurd cc
    by_value r i (Some w) j f =
        let p = value_found (limit_of t r.0) r.0 0 r.1 w (limit_at t r.0) j in
        let same : (w, (t || leb (2 ^ 31) w)) ≡ (v, u) = some_is {A = ℕ × Bool} _ _ f in
        let v_is : w ≡ v = ap {A = ℕ × Bool} (λ x. x.0) same in
        let below : v < limit_of t r.0 = subst (λ x. x < limit_of t r.0) v_is p.2 in
        let u_is : (t || leb (2 ^ 31) w) ≡ u = ap (λ (x : ℕ × Bool). x.1) same in
        (unsuffixed s, r, refl, radix_found (unsuffixed s) r i p.0, sym v_is ∙ p.1, below, sym u_is ∙ ap (λ x. t || leb (2 ^ 31) x) v_is)

    by_radix : (o : Option (ℕ × List ℕ)) → radix_of (unsuffixed s) ≡ o → constant t o ≡ Some (v, u) → Holds s t v u
    by_radix None i f = absurd cc
    by_radix (Some r) i f = by_value r i (value_below (limit_of t r.0) r.0 0 r.1) refl f

pub number_found : (s : List ℕ) (v : ℕ) (u : Bool) → number_of s ≡ Some (v, u) → IsNumber s v u
unfolding number_of
number_found s v u e = by_suffix (is_suffixed s) refl s refl e
  where
    no_test : (s t : List ℕ) (r : ℕ × List ℕ) → t ≡ s → IsInteger t r.0 r.1 → (v ≡ value_of r.0 r.1) → (u ≡ leb (2 ^ 31) v) → (v < 2 ^ 31) ⊎ ((r.0 ≢ 10) × (2 ^ 31 ≤ v) × (v < 2 ^ 32)) → IsNumber s v u
    no_test s t r i a b d (inl l) = rw (d, lt-leb _ _ l, ← i) (int t r.0 r.1 v a b l)
    no_test s t r i a b d (inr l) = rw (d, le-leb _ _ l.1, ← i) (large t r.0 r.1 v a b l.0 l.1 l.2)

    by_list : (s : List ℕ) → is_suffixed s ≡ true → Holds s true v u → IsNumber s v u
    by_list [] i p = absurd (false≢true (sym nil_no_suffix ∙ i))
    by_list (b ∷ bs) i p =
        let e : p.0 ≡ take (length (b ∷ bs) - 1) (b ∷ bs) = rw i at p.2 in
        let whole : p.0 ++ last (b ∷ bs) ∷ [] ≡ b ∷ bs = ap (λ t. t ++ last (b ∷ bs) ∷ []) e ∙ sym (push_last b bs) in
        let below : v < 2 ^ 32 = subst (λ x. v < x) (limit_suffixed p.1.0) p.5 in
        rw (p.6, ← whole) (suffixed p.0 p.1.0 p.1.1 v (last (b ∷ bs)) p.3 p.4 i below)

    by_suffix : (t : Bool) → is_suffixed s ≡ t → (x : List ℕ) → x ≡ s → constant t (radix_of (unsuffixed s)) ≡ Some (v, u) → IsNumber s v u
    by_suffix true i x j f = by_list s i (parts s true v u f)
    by_suffix false i x j f =
        let p = parts s false v u f in
        let e : p.0 ≡ s = rw i at p.2 in
        no_test s p.0 p.1 e p.3 p.4 p.6 (int_below p.1.0 v p.5)

pub number_again : (s : List ℕ) (v : ℕ) (u : Bool) → IsNumber s v u → number_of s ≡ Some (v, u)
unfolding number_of
number_again _ _ _ (int s radix ds v i e l) =
    let d = integer_digits s radix ds i in
    let below : value_behind radix 0 ds < limit_of false radix = in_limit (eqb radix 10) (subst (λ x. x < 2 ^ 31) e l) in
    let value : value_below (limit_of false radix) radix 0 ds ≡ Some v = value_again (limit_of false radix) radix 0 ds d.0 d.2 below ∙ ap Some (sym e) in
    rw (no_suffix s radix ds i, radix_again s radix ds i, value, lt-leb _ _ l) refl
  where
    in_limit : (t : Bool) {x : ℕ} → x < 2 ^ 31 → x < cond (t && not false) (2 ^ 31) (2 ^ 32)
    in_limit true h = h
    in_limit false h = omega arith
number_again _ _ _ (large s radix ds v i e n m l) =
    let d = integer_digits s radix ds i in
    let wide : limit_of false radix ≡ 2 ^ 32 = rw (ne_eqb radix 10 n) refl in
    let below : value_behind radix 0 ds < limit_of false radix = rw (wide, ← e) l in
    let value : value_below (limit_of false radix) radix 0 ds ≡ Some v = value_again (limit_of false radix) radix 0 ds d.0 d.2 below ∙ ap Some (sym e) in
    rw (no_suffix s radix ds i, radix_again s radix ds i, value, le-leb _ _ m) refl
number_again _ _ _ (suffixed s radix ds v w i e h l) =
    let d = integer_digits s radix ds i in
    let below : value_behind radix 0 ds < limit_of true radix = rw (limit_suffixed radix, ← e) l in
    let value : value_below (limit_of true radix) radix 0 ds ≡ Some v = value_again (limit_of true radix) radix 0 ds d.0 d.2 below ∙ ap Some (sym e) in
    let test : is_suffixed (s ++ w ∷ []) ≡ true = rw (last_push s w) h in
    rw (test, front_push s w, radix_again s radix ds i, value) refl
