-- The elements between quotes are what is read as them.
use Rattle.std.proofs.Common.{◌≡◌, ◌≢◌, ◌⊎◌, inl, inr, ℕ, zero, suc, ◌+◌, ◌-◌, ◌<◌, ◌≤◌, eqb, Bool, true, false, ◌||◌, cond, List, [], ◌∷◌, ◌++◌, length, take, drop, Option, Some, None, Result, Ok, Err, refl, sym, ap, subst, ◌∙◌, append_assoc, append-nil, length-append, length-take, length-drop, take-append-drop, take-take, take_at, arith, eqb-true, eq-eqb, ne_eqb}
use Rattle.std.proofs.lemmas.Bool.{eqb-false, cases_lt}
use Rattle.std.proofs.lemmas.Bool.Decides.{nat_tests}
use Rattle.std.proofs.lemmas.List.{drop-take}
use Rattle.c_lexer.specs.declared.bytes.Class.TheVariants as class
use Rattle.c_lexer.specs.declared.fault.Fault.{Fault}
use Rattle.c_lexer.specs.declared.fault.Fault.TheVariants as faults
use Rattle.c_lexer.specs.Bytes.{is_digit, is_digit_of, digit_value, IsRun}
use Rattle.c_lexer.specs.Numbers.{value_of, AreDigits}
use Rattle.c_lexer.specs.Pieces.{Items, IsSimple, IsEscape, simple, three, fewer, hexadecimal, IsElement, plain, escape, EndsLine, end_of_text, end_of_line, escaped_text, escaped_line, IsBadEscape, bad, IsQuote}
use Rattle.c_lexer.specs.Reading.{continues, run_behind, run_len, value_below, simple_value, Step, element_or_fault, digits_at, escape_at, element_at, item_of, items_from, elements, closed, quoted_at}
use Rattle.c_lexer.proofs.RunLemmas.{run_found, run_again, run_within}
use Rattle.c_lexer.proofs.NumberLemmas.{value_found, value_again}
use Rattle.c_lexer.proofs.ItemsLemmas.{IsRead, behind, items_go, items_stop, items_again, items_found}

-- ---- the loop

step_of : ℕ → List ℕ → Option (ℕ × ℕ)
step_of quote t = item_of (element_at quote t)

pub elements_go : (quote : ℕ) (bytes : List ℕ) (v n : ℕ) → element_at quote bytes ≡ Ok (Some (v, n)) → 0 < n → n ≤ length bytes → elements quote bytes ≡ behind (v ∷ []) (elements quote (drop n bytes))
unfolding elements
elements_go quote bytes v n e h l = items_go (λ t. item_of (element_at quote t)) bytes v n (ap item_of e) h l

elements_stop : (quote : ℕ) (bytes : List ℕ) → item_of (element_at quote bytes) ≡ None → elements quote bytes ≡ ([], bytes)
unfolding elements
elements_stop quote bytes e = items_stop (λ t. item_of (element_at quote t)) bytes e

pub loop_goes : (quote : ℕ) (whole : List ℕ × List ℕ) (values values' rest rest' : List ℕ) (v n : ℕ) → element_at quote rest ≡ Ok (Some (v, n)) → 0 < n → n ≤ length rest
    → whole ≡ (values ++ (elements quote rest).0, (elements quote rest).1) → values' ≡ values ++ v ∷ [] → rest' ≡ drop n rest
    → whole ≡ (values' ++ (elements quote rest').0, (elements quote rest').1)
loop_goes quote whole values values' rest rest' v n e h l w a b =
    let go = elements_go quote rest v n e h l in
    let front : values ++ (elements quote rest).0 ≡ values' ++ (elements quote rest').0 =
    rw (go, a, b) (sym (append_assoc values (v ∷ []) (elements quote (drop n rest)).0)) in
    let end : (elements quote rest).1 ≡ (elements quote rest').1 = rw (go, b) refl in
    w ∙ pair_is _ _ _ _ front end
  where
    pair_is : (x y u w : List ℕ) → x ≡ y → u ≡ w → ◌≡◌ {A = List ℕ × List ℕ} (x, u) (y, w)
    pair_is x y u w p q = cc

loop_stops : (quote : ℕ) (whole : List ℕ × List ℕ) (values rest : List ℕ) → item_of (element_at quote rest) ≡ None
    → whole ≡ (values ++ (elements quote rest).0, (elements quote rest).1) → whole ≡ (values, rest)
loop_stops quote whole values rest e w =
    let stop = elements_stop quote rest e in
    w ∙ ap {A = List ℕ × List ℕ} {B = List ℕ × List ℕ} (λ r. (values ++ r.0, r.1)) stop ∙ ap {B = List ℕ × List ℕ} (λ x. (x, rest)) (append-nil values)

pub loop_closes : (quote : ℕ) (bytes values rest : List ℕ) → elements quote (drop 1 bytes) ≡ (values ++ (elements quote rest).0, (elements quote rest).1)
    → element_at quote rest ≡ Ok None → quoted_at quote bytes ≡ Ok (values, length bytes - length rest + 1)
unfolding quoted_at
loop_closes quote bytes values rest w e =
    let whole = loop_stops quote (elements quote (drop 1 bytes)) values rest (ap item_of e) w in
    ap (λ (r : List ℕ × List ℕ). closed r.0 (length bytes - length r.1 + 1) (element_at quote r.1)) whole ∙ ap (closed values (length bytes - length rest + 1)) e

pub loop_fails : (quote : ℕ) (bytes values rest : List ℕ) (f : Fault) → elements quote (drop 1 bytes) ≡ (values ++ (elements quote rest).0, (elements quote rest).1)
    → element_at quote rest ≡ Err f → quoted_at quote bytes ≡ Err f
unfolding quoted_at
loop_fails quote bytes values rest f w e =
    let whole = loop_stops quote (elements quote (drop 1 bytes)) values rest (ap item_of e) w in
    ap (λ (r : List ℕ × List ℕ). closed r.0 (length bytes - length r.1 + 1) (element_at quote r.1)) whole ∙ ap (closed values (length bytes - length rest + 1)) e

pub none_moves : (quote : ℕ) (bytes : List ℕ) → element_at quote bytes ≡ Ok None → 0 < length bytes
unfolding element_at
none_moves quote [] e = absurd cc
none_moves quote (b ∷ bs) e = omega arith

-- one element, and then the closing quote
pub one_closes : (quote : ℕ) (bytes : List ℕ) (v n : ℕ) → 0 < length bytes → element_at quote (drop 1 bytes) ≡ Ok (Some (v, n)) → 0 < n → n ≤ length (drop 1 bytes)
    → element_at quote (drop n (drop 1 bytes)) ≡ Ok None → quoted_at quote bytes ≡ Ok (v ∷ [], n + 2)
one_closes quote bytes v n some e h l close =
    let whole = loop_goes quote (elements quote (drop 1 bytes)) [] (v ∷ []) (drop 1 bytes) (drop n (drop 1 bytes)) v n e h l refl refl refl in
    let long : length bytes - length (drop n (drop 1 bytes)) + 1 ≡ n + 2 = omega (arith, some, l, length-drop n (drop 1 bytes), length-drop 1 bytes) in
    loop_closes quote bytes (v ∷ []) (drop n (drop 1 bytes)) whole close ∙ ap (λ k. Ok (v ∷ [], k)) long

-- ---- escapes

abbrev item : ℕ × ℕ → Step
item x = Ok (Some x)

octal_is : (d : ℕ) → is_digit_of 8 d ≡ true → (eqb d 10 ≡ false) × (eqb d 120 ≡ false) × (eqb d 92 ≡ false)
unfolding digit_value is_digit
octal_is d h = (grind (arith, nat_tests), grind (arith, nat_tests), grind (arith, nat_tests))

step_is : (x y : ℕ × ℕ) → item x ≡ item y → x ≡ y
step_is x y e = cc

digits_found : (radix before count : ℕ) (bytes : List ℕ) (v n : ℕ) → digits_at radix before count bytes ≡ Ok (Some (v, n))
    → (0 < count) × (n ≡ before + count) × AreDigits radix (take count bytes) × (v ≡ value_of radix (take count bytes)) × (v < 256)
digits_found radix before count bytes v n e = by_test (eqb count 0) refl e
  where
    by_value : (o : Option ℕ) → value_below 256 radix 0 (take count bytes) ≡ o → eqb count 0 ≡ false → element_or_fault (before + count) o ≡ item (v, n)
        → (0 < count) × (n ≡ before + count) × AreDigits radix (take count bytes) × (v ≡ value_of radix (take count bytes)) × (v < 256)
    by_value None i z f = absurd cc
    by_value (Some w) i z f =
        let same = step_is (w, before + count) (v, n) f in
        let w_is : w ≡ v = ap {A = ℕ × ℕ} (λ x. x.0) same in
        let n_is : before + count ≡ n = ap {A = ℕ × ℕ} (λ x. x.1) same in
        let p = value_found 256 radix 0 (take count bytes) w (omega arith) i in
        (grind (arith, nat_tests), sym n_is, p.0, sym w_is ∙ p.1, subst (λ x. x < 256) w_is p.2)

    by_test : (t : Bool) → eqb count 0 ≡ t → cond t (Err faults.BadEscape) (element_or_fault (before + count) (value_below 256 radix 0 (take count bytes))) ≡ item (v, n)
        → (0 < count) × (n ≡ before + count) × AreDigits radix (take count bytes) × (v ≡ value_of radix (take count bytes)) × (v < 256)
    by_test true z f = absurd cc
    by_test false z f = by_value (value_below 256 radix 0 (take count bytes)) refl z f

digits_again : (radix before count : ℕ) (s bytes : List ℕ) (v : ℕ) → 1 ≤ radix → count ≡ length s → 0 < length s → take (length s) bytes ≡ s → AreDigits radix s → v ≡ value_of radix s → v < 256
    → digits_at radix before count bytes ≡ item (v, before + length s)
digits_again radix before count s bytes v r c h t a e l =
    let test : eqb (length s) 0 ≡ false = grind (arith, nat_tests) in
    let value : value_below 256 radix 0 s ≡ Some v = value_again 256 radix 0 s r a (subst (λ x. x < 256) e l) ∙ ap Some (sym e) in
    rw (c, test, t, value) refl

-- a run of digits consists of digits
run_digits : (radix before : ℕ) (s rest : List ℕ) → IsRun (λ _ b. is_digit_of radix b) before s rest → AreDigits radix s
run_digits radix before [] rest h = tt
run_digits radix before (b ∷ s) rest h = (h.0, run_digits radix b s rest h.1)

-- a run in front of the first bytes of a text, and more of them than it has, is one in front of the text
run_uncut : (c : ℕ → ℕ → Bool) (before : ℕ) (s rest : List ℕ) (k : ℕ) → 1 ≤ k → IsRun c before s (take k rest) → IsRun c before s rest
run_uncut c before [] [] k h r = tt
run_uncut c before [] (b ∷ rest) zero h r = absurd (omega arith)
run_uncut c before [] (b ∷ rest) (suc k) h r = r
run_uncut c before (b ∷ s) rest k h r = (r.0, run_uncut c b s rest k h r.1)

-- the run that is read in the first bytes
run_cut : (c : ℕ → ℕ → Bool) (before m : ℕ) (s rest : List ℕ) → IsRun c before s rest → length s ≤ m → run_behind c before (take m (s ++ rest)) ≡ length s
run_cut c before zero [] rest r h = refl
run_cut c before (suc m) [] [] r h = refl
run_cut c before (suc m) [] (b ∷ rest) r h = rw r refl
run_cut c before zero (b ∷ s) rest r h = absurd (omega arith)
run_cut c before (suc m) (b ∷ s) rest r h = rw r.0 (ap suc (run_cut c b m s rest r.1 (omega arith)))

octal_found : (bytes : List ℕ) (v n : ℕ) → digits_at 8 1 (run_len class.Octal (take 3 bytes)) bytes ≡ item (v, n)
    → (k : ℕ) × (n ≡ suc k) × (0 < k) × (k ≤ length bytes) × IsEscape (take k bytes) (drop k bytes) v
unfolding run_len
octal_found bytes v n e =
    let k = run_behind (continues class.Octal) 0 (take 3 bytes) in
    let p = digits_found 8 1 k bytes v n e in
    let within : k ≤ length (take 3 bytes) = run_within (continues class.Octal) 0 (take 3 bytes) in
    let run : IsRun (λ _ b. is_digit_of 8 b) 0 (take k (take 3 bytes)) (drop k (take 3 bytes)) = run_found (continues class.Octal) 0 (take 3 bytes) in
    (k, p.1 ∙ omega arith, p.0, omega (arith, length-take 3 bytes), by_count k p.0 (omega (arith, length-take 3 bytes)) (omega (arith, length-take 3 bytes)) p.2 p.3 p.4 run (cases_lt k 3))
  where
    short : (k : ℕ) (s rest : List ℕ) → 0 < length s → length s < 3 → AreDigits 8 s → v ≡ value_of 8 s → v < 256 → IsRun (λ _ b. is_digit_of 8 b) 0 s rest → IsEscape s rest v
    short k [] rest h l a x y r = absurd (omega arith)
    short k (d ∷ ds) rest h l a x y r = fewer d ds rest v (omega arith) r x y

    long : (s rest : List ℕ) → length s ≡ 3 → AreDigits 8 s → v ≡ value_of 8 s → v < 256 → IsEscape s rest v
    long [] rest l a x y = absurd (omega arith)
    long (a ∷ []) rest l h x y = absurd (omega arith)
    long (a ∷ b ∷ []) rest l h x y = absurd (omega arith)
    long (a ∷ b ∷ c ∷ []) rest l h x y = three a b c rest v h x y
    long (a ∷ b ∷ c ∷ d ∷ s) rest l h x y = absurd (omega arith)

    by_count : (k : ℕ) → 0 < k → k ≤ length bytes → k ≤ 3 → AreDigits 8 (take k bytes) → v ≡ value_of 8 (take k bytes) → v < 256
        → IsRun (λ _ b. is_digit_of 8 b) 0 (take k (take 3 bytes)) (drop k (take 3 bytes)) → (k < 3) ⊎ (3 ≤ k) → IsEscape (take k bytes) (drop k bytes) v
    by_count k h w l a x y r (inl lt) =
        let front : take k (take 3 bytes) ≡ take k bytes = take-take k 3 bytes (omega arith) in
        let three_is : 3 ≡ k + (3 - k) = omega arith in
        let end : drop k (take 3 bytes) ≡ take (3 - k) (drop k bytes) = ap (λ m. drop k (take m bytes)) three_is ∙ drop-take k (3 - k) bytes in
        let whole = run_uncut (λ _ b. is_digit_of 8 b) 0 (take k bytes) (drop k bytes) (3 - k) (omega arith) (rw end at (rw front at r)) in
        short k (take k bytes) (drop k bytes) (omega (arith, length-take k bytes)) (omega (arith, length-take k bytes)) a x y whole
    by_count k h w l a x y r (inr ge) = long (take k bytes) (drop k bytes) (omega (arith, length-take k bytes)) a x y

hexadecimal_found : (bytes : List ℕ) (v n : ℕ) → digits_at 16 2 (run_len class.Hexadecimal bytes) bytes ≡ item (v, n)
    → (k : ℕ) × (n ≡ suc k) × (0 < k) × (k ≤ length (120 ∷ bytes)) × IsEscape (take k (120 ∷ bytes)) (drop k (120 ∷ bytes)) v
unfolding run_len
hexadecimal_found bytes v n e =
    let k = run_behind (continues class.Hexadecimal) 0 bytes in
    let p = digits_found 16 2 k bytes v n e in
    let within : k ≤ length bytes = run_within (continues class.Hexadecimal) 0 bytes in
    let run : IsRun (λ _ b. is_digit_of 16 b) 0 (take k bytes) (drop k bytes) = run_found (continues class.Hexadecimal) 0 bytes in
    (suc k, p.1 ∙ omega arith, omega arith, omega arith, some (take k bytes) (drop k bytes) (omega (arith, p.0, length-take k bytes)) p.3 p.4 run)
  where
    some : (s rest : List ℕ) → 0 < length s → v ≡ value_of 16 s → v < 256 → IsRun (λ _ b. is_digit_of 16 b) 0 s rest → IsEscape (120 ∷ s) rest v
    some [] rest h x y r = absurd (omega arith)
    some (d ∷ ds) rest h x y r = hexadecimal d ds rest v r x y

simple_found : (c v : ℕ) → simple_value c ≡ Some v → IsSimple c v
unfolding simple_value
simple_found c v e = is_110 (eqb c 110) refl e
  where
    some_is : (x y : ℕ) → Some x ≡ Some y → x ≡ y
    some_is x y e = cc

    at : (k w : ℕ) → eqb c k ≡ true → Some w ≡ Some v → IsSimple k w → IsSimple c v
    at k w i f s = rw (eqb-true c k i, ← some_is w v f) s

    same : (k : ℕ) → eqb c k ≡ true → Some c ≡ Some v → IsSimple k k → IsSimple c v
    same k i f s = rw (← some_is c v f, eqb-true c k i) s

    is_63 : eqb c 92 ≡ false → eqb c 39 ≡ false → eqb c 34 ≡ false → (t : Bool) → eqb c 63 ≡ t → cond t (Some c) None ≡ Some v → IsSimple c v
    is_63 x y z true i f = same 63 i f IsSimple.question
    is_63 x y z false i f = absurd cc

    is_34 : eqb c 92 ≡ false → eqb c 39 ≡ false → (t : Bool) → eqb c 34 ≡ t → cond (t || eqb c 63) (Some c) None ≡ Some v → IsSimple c v
    is_34 x y true i f = same 34 i f IsSimple.double_quote
    is_34 x y false i f = is_63 x y i (eqb c 63) refl f

    is_39 : eqb c 92 ≡ false → (t : Bool) → eqb c 39 ≡ t → cond (t || eqb c 34 || eqb c 63) (Some c) None ≡ Some v → IsSimple c v
    is_39 x true i f = same 39 i f IsSimple.single_quote
    is_39 x false i f = is_34 x i (eqb c 34) refl f

    is_92 : (t : Bool) → eqb c 92 ≡ t → cond (t || eqb c 39 || eqb c 34 || eqb c 63) (Some c) None ≡ Some v → IsSimple c v
    is_92 true i f = same 92 i f IsSimple.backslash
    is_92 false i f = is_39 i (eqb c 39) refl f

    is_118 : (t : Bool) → eqb c 118 ≡ t → cond t (Some 11) (cond (eqb c 92 || eqb c 39 || eqb c 34 || eqb c 63) (Some c) None) ≡ Some v → IsSimple c v
    is_118 true i f = at 118 11 i f IsSimple.vertical_tab
    is_118 false i f = is_92 (eqb c 92) refl f

    is_102 : (t : Bool) → eqb c 102 ≡ t → cond t (Some 12) (cond (eqb c 118) (Some 11) (cond (eqb c 92 || eqb c 39 || eqb c 34 || eqb c 63) (Some c) None)) ≡ Some v → IsSimple c v
    is_102 true i f = at 102 12 i f IsSimple.form_feed
    is_102 false i f = is_118 (eqb c 118) refl f

    is_98 : (t : Bool) → eqb c 98 ≡ t → cond t (Some 8) (cond (eqb c 102) (Some 12) (cond (eqb c 118) (Some 11) (cond (eqb c 92 || eqb c 39 || eqb c 34 || eqb c 63) (Some c) None))) ≡ Some v → IsSimple c v
    is_98 true i f = at 98 8 i f IsSimple.backspace
    is_98 false i f = is_102 (eqb c 102) refl f

    is_97 : (t : Bool) → eqb c 97 ≡ t → cond t (Some 7) (cond (eqb c 98) (Some 8) (cond (eqb c 102) (Some 12) (cond (eqb c 118) (Some 11) (cond (eqb c 92 || eqb c 39 || eqb c 34 || eqb c 63) (Some c) None)))) ≡ Some v → IsSimple c v
    is_97 true i f = at 97 7 i f IsSimple.alert
    is_97 false i f = is_98 (eqb c 98) refl f

    is_114 : (t : Bool) → eqb c 114 ≡ t → cond t (Some 13) (cond (eqb c 97) (Some 7) (cond (eqb c 98) (Some 8) (cond (eqb c 102) (Some 12) (cond (eqb c 118) (Some 11) (cond (eqb c 92 || eqb c 39 || eqb c 34 || eqb c 63) (Some c) None))))) ≡ Some v → IsSimple c v
    is_114 true i f = at 114 13 i f IsSimple.carriage_return
    is_114 false i f = is_97 (eqb c 97) refl f

    is_116 : (t : Bool) → eqb c 116 ≡ t → cond t (Some 9) (cond (eqb c 114) (Some 13) (cond (eqb c 97) (Some 7) (cond (eqb c 98) (Some 8) (cond (eqb c 102) (Some 12) (cond (eqb c 118) (Some 11) (cond (eqb c 92 || eqb c 39 || eqb c 34 || eqb c 63) (Some c) None)))))) ≡ Some v → IsSimple c v
    is_116 true i f = at 116 9 i f IsSimple.tab
    is_116 false i f = is_114 (eqb c 114) refl f

    is_110 : (t : Bool) → eqb c 110 ≡ t → cond t (Some 10) (cond (eqb c 116) (Some 9) (cond (eqb c 114) (Some 13) (cond (eqb c 97) (Some 7) (cond (eqb c 98) (Some 8) (cond (eqb c 102) (Some 12) (cond (eqb c 118) (Some 11) (cond (eqb c 92 || eqb c 39 || eqb c 34 || eqb c 63) (Some c) None))))))) ≡ Some v → IsSimple c v
    is_110 true i f = at 110 10 i f IsSimple.line_feed
    is_110 false i f = is_116 (eqb c 116) refl f

-- an escape that is read stands there
escape_found : (bytes : List ℕ) (v n : ℕ) → escape_at bytes ≡ item (v, n) → (k : ℕ) × (n ≡ suc k) × (0 < k) × (k ≤ length bytes) × IsEscape (take k bytes) (drop k bytes) v
unfolding escape_at
escape_found [] v n e = absurd cc
escape_found (c ∷ rest) v n e = by_feed (eqb c 10) e
  where
    Found : Type 0
    Found = (k : ℕ) × (n ≡ suc k) × (0 < k) × (k ≤ length (c ∷ rest)) × IsEscape (take k (c ∷ rest)) (drop k (c ∷ rest)) v

    by_simple : (o : Option ℕ) → simple_value c ≡ o → element_or_fault 2 o ≡ item (v, n) → (k : ℕ) × (n ≡ suc k) × (0 < k) × (k ≤ length (c ∷ rest)) × IsEscape (take k (c ∷ rest)) (drop k (c ∷ rest)) v
    by_simple None i f = absurd cc
    by_simple (Some w) i f =
        let same = step_is (w, 2) (v, n) f in
        let w_is : w ≡ v = ap {A = ℕ × ℕ} (λ x. x.0) same in
        let n_is : 2 ≡ n = ap {A = ℕ × ℕ} (λ x. x.1) same in
        (1, sym n_is, omega arith, omega arith, simple c rest v (simple_found c v (i ∙ ap Some w_is)))

    by_octal : (t : Bool) → cond t (digits_at 8 1 (run_len class.Octal (take 3 (c ∷ rest))) (c ∷ rest)) (element_or_fault 2 (simple_value c)) ≡ item (v, n)
        → (k : ℕ) × (n ≡ suc k) × (0 < k) × (k ≤ length (c ∷ rest)) × IsEscape (take k (c ∷ rest)) (drop k (c ∷ rest)) v
    by_octal true f = octal_found (c ∷ rest) v n f
    by_octal false f = by_simple (simple_value c) refl f

    by_hex : (t : Bool) → eqb c 120 ≡ t → cond t (digits_at 16 2 (run_len class.Hexadecimal rest) rest) (cond (is_digit_of 8 c) (digits_at 8 1 (run_len class.Octal (take 3 (c ∷ rest))) (c ∷ rest)) (element_or_fault 2 (simple_value c))) ≡ item (v, n)
        → (k : ℕ) × (n ≡ suc k) × (0 < k) × (k ≤ length (c ∷ rest)) × IsEscape (take k (c ∷ rest)) (drop k (c ∷ rest)) v
    by_hex true i f =
        subst (λ x. (k : ℕ) × (n ≡ suc k) × (0 < k) × (k ≤ length (x ∷ rest)) × IsEscape (take k (x ∷ rest)) (drop k (x ∷ rest)) v) (sym (eqb-true c 120 i)) (hexadecimal_found rest v n f)
    by_hex false i f = by_octal (is_digit_of 8 c) f

    by_feed : (t : Bool) → cond t (Err faults.Unclosed) (cond (eqb c 120) (digits_at 16 2 (run_len class.Hexadecimal rest) rest) (cond (is_digit_of 8 c) (digits_at 8 1 (run_len class.Octal (take 3 (c ∷ rest))) (c ∷ rest)) (element_or_fault 2 (simple_value c)))) ≡ item (v, n)
        → (k : ℕ) × (n ≡ suc k) × (0 < k) × (k ≤ length (c ∷ rest)) × IsEscape (take k (c ∷ rest)) (drop k (c ∷ rest)) v
    by_feed true f = absurd cc
    by_feed false f = by_hex (eqb c 120) refl f

-- a simple escape is read
simple_again : (c v : ℕ) (rest : List ℕ) → IsSimple c v → escape_at (c ∷ rest) ≡ item (v, 2)
unfolding escape_at simple_value digit_value is_digit
simple_again _ _ rest IsSimple.alert = refl
simple_again _ _ rest IsSimple.backspace = refl
simple_again _ _ rest IsSimple.tab = refl
simple_again _ _ rest IsSimple.line_feed = refl
simple_again _ _ rest IsSimple.vertical_tab = refl
simple_again _ _ rest IsSimple.form_feed = refl
simple_again _ _ rest IsSimple.carriage_return = refl
simple_again _ _ rest IsSimple.double_quote = refl
simple_again _ _ rest IsSimple.single_quote = refl
simple_again _ _ rest IsSimple.question = refl
simple_again _ _ rest IsSimple.backslash = refl

escape_octal : (c : ℕ) (rest : List ℕ) → is_digit_of 8 c ≡ true → escape_at (c ∷ rest) ≡ digits_at 8 1 (run_len class.Octal (take 3 (c ∷ rest))) (c ∷ rest)
unfolding escape_at
escape_octal c rest h = let tests = octal_is c h in rw (tests.0, tests.1, h) refl

escape_hexadecimal : (rest : List ℕ) → escape_at (120 ∷ rest) ≡ digits_at 16 2 (run_len class.Hexadecimal rest) rest
unfolding escape_at
escape_hexadecimal rest = refl

octal_len : (bytes : List ℕ) → run_len class.Octal bytes ≡ run_behind (λ _ b. is_digit_of 8 b) 0 bytes
unfolding run_len
octal_len bytes = refl

hexadecimal_len : (bytes : List ℕ) → run_len class.Hexadecimal bytes ≡ run_behind (λ _ b. is_digit_of 16 b) 0 bytes
unfolding run_len
hexadecimal_len bytes = refl

-- an octal escape is read
octal_again : (d : ℕ) (ds rest : List ℕ) (v : ℕ) → is_digit_of 8 d ≡ true → run_behind (λ _ b. is_digit_of 8 b) 0 (take 3 (d ∷ (ds ++ rest))) ≡ suc (length ds)
    → AreDigits 8 (d ∷ ds) → v ≡ value_of 8 (d ∷ ds) → v < 256 → escape_at (d ∷ (ds ++ rest)) ≡ item (v, suc (suc (length ds)))
octal_again d ds rest v h r a e l =
    let count = octal_len (take 3 (d ∷ (ds ++ rest))) ∙ r in
    let front : take (length (d ∷ ds)) (d ∷ (ds ++ rest)) ≡ d ∷ ds = ap (λ t. d ∷ t) (take_at ds rest (length ds) refl) in
    let read = digits_again 8 1 (run_len class.Octal (take 3 (d ∷ (ds ++ rest)))) (d ∷ ds) (d ∷ (ds ++ rest)) v (omega arith) count (omega arith) front a e l in
    let one : 1 + length (d ∷ ds) ≡ suc (suc (length ds)) = omega arith in
    escape_octal d (ds ++ rest) h ∙ read ∙ ap (λ n. item (v, n)) one

-- an escape that stands there is read
escape_again : (s rest : List ℕ) (v : ℕ) → IsEscape s rest v → escape_at (s ++ rest) ≡ item (v, suc (length s))
escape_again _ rest v (simple c _ _ h) = simple_again c v rest h
escape_again _ rest v (three a b c _ _ h e l) = octal_again a (b ∷ c ∷ []) rest v h.0 (rw (h.0, h.1.0, h.1.1.0) refl) h e l
escape_again _ rest v (fewer d ds _ _ n r e l) =
    octal_again d ds rest v r.0 (run_cut (λ _ b. is_digit_of 8 b) 0 3 (d ∷ ds) rest r (omega arith)) (run_digits 8 0 (d ∷ ds) rest r) e l
escape_again _ rest v (hexadecimal d ds _ _ r e l) =
    let run : run_behind (λ _ b. is_digit_of 16 b) 0 (d ∷ (ds ++ rest)) ≡ suc (length ds) = run_again (λ _ b. is_digit_of 16 b) 0 (d ∷ ds) rest r in
    let count = hexadecimal_len (d ∷ (ds ++ rest)) ∙ run in
    let front : take (length (d ∷ ds)) (d ∷ (ds ++ rest)) ≡ d ∷ ds = ap (λ t. d ∷ t) (take_at ds rest (length ds) refl) in
    let read = digits_again 16 2 (run_len class.Hexadecimal (d ∷ (ds ++ rest))) (d ∷ ds) (d ∷ (ds ++ rest)) v (omega arith) count (omega arith) front (run_digits 16 0 (d ∷ ds) rest r) e l in
    let two : 2 + length (d ∷ ds) ≡ suc (length (120 ∷ d ∷ ds)) = omega arith in
    escape_hexadecimal (d ∷ (ds ++ rest)) ∙ read ∙ ap (λ n. item (v, n)) two

-- behind a backslash that does not end the line an escape is read, or none is there
escape_cases : (c : ℕ) (rest : List ℕ) → c ≢ 10 → (escape_at (c ∷ rest) ≡ Err faults.BadEscape) ⊎ ((x : ℕ × ℕ) × (escape_at (c ∷ rest) ≡ item x))
unfolding escape_at
escape_cases c rest n = rw (ne_eqb c 10 n) (by_hex (eqb c 120))
  where
    Cases : Step → Type 0
    Cases s = (s ≡ Err faults.BadEscape) ⊎ ((x : ℕ × ℕ) × (s ≡ item x))

    by_value : (len : ℕ) (o : Option ℕ) → (element_or_fault len o ≡ Err faults.BadEscape) ⊎ ((x : ℕ × ℕ) × (element_or_fault len o ≡ item x))
    by_value len None = inl refl
    by_value len (Some v) = inr ((v, len), refl)

    by_count : (before count : ℕ) (o : Option ℕ) (t : Bool) → (cond t (Err faults.BadEscape) (element_or_fault (before + count) o) ≡ Err faults.BadEscape) ⊎ ((x : ℕ × ℕ) × (cond t (Err faults.BadEscape) (element_or_fault (before + count) o) ≡ item x))
    by_count before count o true = inl refl
    by_count before count o false = by_value (before + count) o

    by_digits : (radix before count : ℕ) (bytes : List ℕ) → (digits_at radix before count bytes ≡ Err faults.BadEscape) ⊎ ((x : ℕ × ℕ) × (digits_at radix before count bytes ≡ item x))
    by_digits radix before count bytes = by_count before count (value_below 256 radix 0 (take count bytes)) (eqb count 0)

    octal_or_simple : Step → Bool → Step
    octal_or_simple s t = cond t s (element_or_fault 2 (simple_value c))

    by_octal : (t : Bool) → (cond t (digits_at 8 1 (run_len class.Octal (take 3 (c ∷ rest))) (c ∷ rest)) (element_or_fault 2 (simple_value c)) ≡ Err faults.BadEscape)
        ⊎ ((x : ℕ × ℕ) × (cond t (digits_at 8 1 (run_len class.Octal (take 3 (c ∷ rest))) (c ∷ rest)) (element_or_fault 2 (simple_value c)) ≡ item x))
    by_octal true = by_digits 8 1 (run_len class.Octal (take 3 (c ∷ rest))) (c ∷ rest)
    by_octal false = by_value 2 (simple_value c)

    by_hex : (t : Bool) → (cond t (digits_at 16 2 (run_len class.Hexadecimal rest) rest) (cond (is_digit_of 8 c) (digits_at 8 1 (run_len class.Octal (take 3 (c ∷ rest))) (c ∷ rest)) (element_or_fault 2 (simple_value c))) ≡ Err faults.BadEscape)
        ⊎ ((x : ℕ × ℕ) × (cond t (digits_at 16 2 (run_len class.Hexadecimal rest) rest) (cond (is_digit_of 8 c) (digits_at 8 1 (run_len class.Octal (take 3 (c ∷ rest))) (c ∷ rest)) (element_or_fault 2 (simple_value c))) ≡ item x))
    by_hex true = by_digits 16 2 (run_len class.Hexadecimal rest) rest
    by_hex false = by_octal (is_digit_of 8 c)

-- ---- elements

element_plain : (quote b : ℕ) (rest : List ℕ) → b ≢ quote → b ≢ 92 → b ≢ 10 → element_at quote (b ∷ rest) ≡ item (b, 1)
unfolding element_at
element_plain quote b rest q s n = rw (ne_eqb b quote q, ne_eqb b 92 s, ne_eqb b 10 n) refl

element_escape : (quote : ℕ) (rest : List ℕ) → 92 ≢ quote → element_at quote (92 ∷ rest) ≡ escape_at rest
unfolding element_at
element_escape quote rest q = rw (ne_eqb 92 quote q) refl

element_closing : (quote : ℕ) (rest : List ℕ) → element_at quote (quote ∷ rest) ≡ Ok None
unfolding element_at
element_closing quote rest = rw (eq-eqb quote quote refl) refl

pub element_nil : (quote : ℕ) → element_at quote [] ≡ Err faults.Unclosed
unfolding element_at
element_nil quote = refl

-- what is read in front of a text between quotes
pub data Reads (quote : ℕ) (bytes : List ℕ) : Step → Type 0 where
  an_element : (v n : ℕ) → 0 < n → n ≤ length bytes → IsElement quote (take n bytes) (drop n bytes) v → Reads quote bytes (item (v, n))
  closing : (rest : List ℕ) → bytes ≡ quote ∷ rest → Reads quote bytes (Ok None)
  ended : EndsLine bytes → Reads quote bytes (Err faults.Unclosed)
  bad_escape : IsBadEscape bytes → Reads quote bytes (Err faults.BadEscape)

escape_nil : escape_at [] ≡ Err faults.Unclosed
unfolding escape_at
escape_nil = refl

escape_feed : (rest : List ℕ) → escape_at (10 ∷ rest) ≡ Err faults.Unclosed
unfolding escape_at
escape_feed rest = refl

escape_read : (quote : ℕ) (rest : List ℕ) → Reads quote (92 ∷ rest) (escape_at rest)
escape_read quote [] = rw escape_nil (ended escaped_text)
escape_read quote (c ∷ rest) = by_feed (eqb c 10) refl
  where
    at_feed : c ≡ 10 → Reads quote (92 ∷ c ∷ rest) (escape_at (c ∷ rest))
    at_feed e = rw (e, escape_feed rest) (ended (escaped_line rest))

    by_cases : c ≢ 10 → (escape_at (c ∷ rest) ≡ Err faults.BadEscape) ⊎ ((x : ℕ × ℕ) × (escape_at (c ∷ rest) ≡ item x)) → Reads quote (92 ∷ c ∷ rest) (escape_at (c ∷ rest))
    by_cases n (inl e) = rw e (bad_escape (bad c rest n (λ s after v w i. other s after v i w)))
      where
        other : (s after : List ℕ) (v : ℕ) → IsEscape s after v → c ∷ rest ≡ s ++ after → ⊥
        other s after v i w = let again = escape_again s after v i in let same = ap escape_at w in cc
    by_cases n (inr p) =
        let found = escape_found (c ∷ rest) p.0.0 p.0.1 p.1 in
        let len = found.1 in
        rw (p.1) (rw len (an_element p.0.0 (suc found.0) (omega arith) (omega arith) (escape (take found.0 (c ∷ rest)) (drop found.0 (c ∷ rest)) p.0.0 found.4)))

    by_feed : (t : Bool) → eqb c 10 ≡ t → Reads quote (92 ∷ c ∷ rest) (escape_at (c ∷ rest))
    by_feed true i = at_feed (eqb-true c 10 i)
    by_feed false i = by_cases (eqb-false c 10 i) (escape_cases c rest (eqb-false c 10 i))

pub element_read : (quote : ℕ) (bytes : List ℕ) → Reads quote bytes (element_at quote bytes)
unfolding element_at
element_read quote [] = ended end_of_text
element_read quote (b ∷ rest) = by_quote (eqb b quote) refl
  where
    by_slash : b ≢ quote → b ≢ 10 → (t : Bool) → eqb b 92 ≡ t → Reads quote (b ∷ rest) (cond t (escape_at rest) (Ok (Some (b, 1))))
    by_slash q n true i = subst (λ x. Reads quote (x ∷ rest) (escape_at rest)) (sym (eqb-true b 92 i)) (escape_read quote rest)
    by_slash q n false i = an_element b 1 (omega arith) (omega arith) (plain b rest q (eqb-false b 92 i) n)

    by_feed : b ≢ quote → (t : Bool) → eqb b 10 ≡ t → Reads quote (b ∷ rest) (cond t (Err faults.Unclosed) (cond (eqb b 92) (escape_at rest) (Ok (Some (b, 1)))))
    by_feed q true i = subst (λ x. Reads quote (x ∷ rest) (Err faults.Unclosed)) (sym (eqb-true b 10 i)) (ended (end_of_line rest))
    by_feed q false i = by_slash q (eqb-false b 10 i) (eqb b 92) refl

    by_quote : (t : Bool) → eqb b quote ≡ t → Reads quote (b ∷ rest) (cond t (Ok None) (cond (eqb b 10) (Err faults.Unclosed) (cond (eqb b 92) (escape_at rest) (Ok (Some (b, 1))))))
    by_quote true i = closing rest (ap (λ x. x ∷ rest) (eqb-true b quote i))
    by_quote false i = by_feed (eqb-false b quote i) (eqb b 10) refl

-- a quote is neither a backslash nor a line feed
pub quote_is : (quote : ℕ) → IsQuote quote → (92 ≢ quote) × (10 ≢ quote)
quote_is quote (inl e) = (λ h. omega arith, λ h. omega arith)
quote_is quote (inr e) = (λ h. omega arith, λ h. omega arith)

element_again : (quote : ℕ) (s rest : List ℕ) (v : ℕ) → 92 ≢ quote → IsElement quote s rest v → element_at quote (s ++ rest) ≡ item (v, length s)
element_again quote _ rest _ q (plain b _ h s n) = element_plain quote b rest h s n
element_again quote _ rest v q (escape s _ _ i) = element_escape quote (s ++ rest) q ∙ escape_again s rest v i

element_some : (quote : ℕ) (s rest : List ℕ) (v : ℕ) → IsElement quote s rest v → 0 < length s
element_some quote _ rest _ (plain b _ h s n) = omega arith
element_some quote _ rest v (escape s _ _ i) = omega arith

read_item : (quote : ℕ) (bytes : List ℕ) (st : Step) (v n : ℕ) → Reads quote bytes st → item_of st ≡ Some (v, n) → (0 < n) × (n ≤ length bytes) × IsElement quote (take n bytes) (drop n bytes) v
read_item quote bytes _ v n (an_element w m h l i) e =
    let same = pair_is (w, m) (v, n) e in
    let w_is : w ≡ v = ap {A = ℕ × ℕ} (λ x. x.0) same in
    let m_is : m ≡ n = ap {A = ℕ × ℕ} (λ x. x.1) same in
    (omega arith, omega arith, rw (← m_is, ← w_is) i)
  where
    pair_is : (x y : ℕ × ℕ) → Some x ≡ Some y → x ≡ y
    pair_is x y f = cc
read_item quote bytes _ v n (closing rest f) e = absurd cc
read_item quote bytes _ v n (ended f) e = absurd cc
read_item quote bytes _ v n (bad_escape f) e = absurd cc

elements_read : (quote : ℕ) → 92 ≢ quote → IsRead (IsElement quote) (λ t. item_of (element_at quote t))
elements_read quote q = record {
  none = ap item_of (element_nil quote);
  some = λ s rest v i. element_some quote s rest v i;
  again = λ s rest v i. ap item_of (element_again quote s rest v q i);
  moves = λ bytes v n e. let p = read_item quote bytes (element_at quote bytes) v n (element_read quote bytes) e in (p.0, p.1);
  found = λ bytes v n e. (read_item quote bytes (element_at quote bytes) v n (element_read quote bytes) e).2;
}

-- ---- what is between two quotes

-- the values between two quotes, with the bytes of both
pub record IsQuoted (quote : ℕ) (bytes values : List ℕ) (len : ℕ) : Type 0 where
  pub inside : List ℕ
  pub rest : List ℕ
  pub parts : bytes ≡ inside ++ quote ∷ rest
  pub size : len ≡ length inside + 2
  pub elements : Items (IsElement quote) (quote ∷ rest) inside values

-- what is behind a quote is not closed, or has a bad escape
pub record IsUnquoted (quote : ℕ) (bytes : List ℕ) (f : Fault) : Type 0 where
  pub inside : List ℕ
  pub rest : List ℕ
  pub values : List ℕ
  pub parts : bytes ≡ inside ++ rest
  pub elements : Items (IsElement quote) rest inside values
  pub why : ((f ≡ faults.Unclosed) × EndsLine rest) ⊎ ((f ≡ faults.BadEscape) × IsBadEscape rest)

abbrev pub Outcome : ℕ → List ℕ → Result (List ℕ × ℕ) Fault → Type 0
Outcome quote bytes (Ok x) = IsQuoted quote bytes x.0 x.1
Outcome quote bytes (Err f) = IsUnquoted quote bytes f

outcome : (quote : ℕ) (bytes inside rest values : List ℕ) (st : Step) → bytes ≡ inside ++ rest → Items (IsElement quote) rest inside values → item_of st ≡ None → Reads quote rest st
    → Outcome quote bytes (closed values (suc (length bytes) - length rest + 1) st)
outcome quote bytes inside rest values _ e i n (an_element v m h l x) = absurd cc
outcome quote bytes inside rest values _ e i n (closing after f) =
    record { inside = inside; rest = after; parts = e ∙ ap (λ t. inside ++ t) f; size = omega (arith, ap length e, ap length f, length-append inside rest); elements = subst (λ t. Items (IsElement quote) t inside values) f i }
outcome quote bytes inside rest values _ e i n (ended f) = record { inside = inside; rest = rest; values = values; parts = e; elements = i; why = inl (refl, f) }
outcome quote bytes inside rest values _ e i n (bad_escape f) = record { inside = inside; rest = rest; values = values; parts = e; elements = i; why = inr (refl, f) }

pub quoted_found : (quote b : ℕ) (bs : List ℕ) → IsQuote quote → Outcome quote bs (quoted_at quote (b ∷ bs))
unfolding quoted_at elements
quoted_found quote b bs q =
    let step : List ℕ → Option (ℕ × ℕ) = λ t. item_of (element_at quote t) in
    let r = items_from step bs 0 in
    let found = items_found (IsElement quote) step (elements_read quote (quote_is quote q).0) (length bs) bs (omega arith) in
    outcome quote bs found.0 r.1 r.0 (element_at quote r.1) found.1 found.2 found.3 (element_read quote r.1)

elements_again : (quote : ℕ) (s rest values : List ℕ) → 92 ≢ quote → Items (IsElement quote) rest s values → item_of (element_at quote rest) ≡ None → elements quote (s ++ rest) ≡ (values, rest)
unfolding elements
elements_again quote s rest values q i e = items_again (IsElement quote) (λ t. item_of (element_at quote t)) (elements_read quote q) rest s values i e

closed_at : (quote b : ℕ) (s rest values : List ℕ) → 92 ≢ quote → Items (IsElement quote) rest s values → item_of (element_at quote rest) ≡ None
    → quoted_at quote (b ∷ (s ++ rest)) ≡ closed values (suc (length (s ++ rest)) - length rest + 1) (element_at quote rest)
unfolding quoted_at
closed_at quote b s rest values q i e =
    ap {A = List ℕ × List ℕ} (λ r. closed r.0 (suc (length (s ++ rest)) - length r.1 + 1) (element_at quote r.1)) (elements_again quote s rest values q i e)

pub quoted_again : (quote b : ℕ) (s rest values : List ℕ) → IsQuote quote → Items (IsElement quote) (quote ∷ rest) s values → quoted_at quote (b ∷ (s ++ quote ∷ rest)) ≡ Ok (values, length s + 2)
quoted_again quote b s rest values q i =
    let close = element_closing quote rest in
    let len : suc (length (s ++ quote ∷ rest)) - length (quote ∷ rest) + 1 ≡ length s + 2 = omega (arith, length-append s (quote ∷ rest)) in
    closed_at quote b s (quote ∷ rest) values (quote_is quote q).0 i (ap item_of close)
    ∙ ap (closed values (suc (length (s ++ quote ∷ rest)) - length (quote ∷ rest) + 1)) close
    ∙ ap (λ n. closed values n (Ok None)) len

ended_again : (quote : ℕ) (rest : List ℕ) → IsQuote quote → EndsLine rest → element_at quote rest ≡ Err faults.Unclosed
unfolding element_at
ended_again quote _ q end_of_text = refl
ended_again quote _ q (end_of_line rest) = rw (ne_eqb 10 quote (quote_is quote q).1) refl
ended_again quote _ q escaped_text = rw (ne_eqb 92 quote (quote_is quote q).0) escape_nil
ended_again quote _ q (escaped_line rest) = rw (ne_eqb 92 quote (quote_is quote q).0) (escape_feed rest)

bad_again : (quote : ℕ) (rest : List ℕ) → IsQuote quote → IsBadEscape rest → element_at quote rest ≡ Err faults.BadEscape
bad_again quote _ q (bad c rest n none) = element_escape quote (c ∷ rest) (quote_is quote q).0 ∙ by_cases (escape_cases c rest n)
  where
    by_cases : (escape_at (c ∷ rest) ≡ Err faults.BadEscape) ⊎ ((x : ℕ × ℕ) × (escape_at (c ∷ rest) ≡ item x)) → escape_at (c ∷ rest) ≡ Err faults.BadEscape
    by_cases (inl e) = e
    by_cases (inr p) = let found = escape_found (c ∷ rest) p.0.0 p.0.1 p.1 in absurd (none (take found.0 (c ∷ rest)) (drop found.0 (c ∷ rest)) p.0.0 (sym (take-append-drop found.0 (c ∷ rest))) found.4)

pub unquoted_again : (quote b : ℕ) (s rest values : List ℕ) (f : Fault) → IsQuote quote → Items (IsElement quote) rest s values → ((f ≡ faults.Unclosed) × EndsLine rest) ⊎ ((f ≡ faults.BadEscape) × IsBadEscape rest)
    → quoted_at quote (b ∷ (s ++ rest)) ≡ Err f
unquoted_again quote b s rest values f q i why = by_element (by_why why)
  where
    by_why : ((f ≡ faults.Unclosed) × EndsLine rest) ⊎ ((f ≡ faults.BadEscape) × IsBadEscape rest) → element_at quote rest ≡ Err f
    by_why (inl p) = ended_again quote rest q p.1 ∙ ap (λ x. Err x) (sym p.0)
    by_why (inr p) = bad_again quote rest q p.1 ∙ ap (λ x. Err x) (sym p.0)

    by_element : element_at quote rest ≡ Err f → quoted_at quote (b ∷ (s ++ rest)) ≡ Err f
    by_element e = closed_at quote b s rest values (quote_is quote q).0 i (ap item_of e) ∙ ap (closed values (suc (length (s ++ rest)) - length rest + 1)) e
