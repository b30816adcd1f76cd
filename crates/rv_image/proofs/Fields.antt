-- Steps of reading that did not fail, and where the bytes of a field stand.
use Rattle.std.proofs.Common.{◌≡◌, ℕ, ◌+◌, ◌^◌, ◌<◌, ◌≤◌, Bool, true, false, List, ◌++◌, length, get_or, take, drop, Result, Ok, Err, refl, sym, ap, subst, ◌∙◌, append_assoc, arith, inl, inr}
use Rattle.std.specs.Int.{w32, from_le_bytes}
use Rattle.std.proofs.lemmas.Bool.{cases_lt}
use Rattle.std.proofs.lemmas.Bool.Decides.{nat_tests}
use Rattle.std.proofs.lemmas.List.{take_at, drop_at, take-append-drop, length-append, length-take, length-drop, get_or-drop, get_or-take, get_or_past, drop-drop}
use Rattle.std.proofs.lemmas.Nat.{le_bytes_4, from_le_bytes-to_le_bytes_4}
use Rattle.rv_image.specs.declared.error.ImageError.{ImageError}
use Rattle.rv_image.specs.Spelling.{number}
use Rattle.rv_image.specs.Reading.{◌>>=◌, rule, field_at, number_at}

-- the value of a step that did not fail
pub bind_ok : {A B : Type 0} (r : Result A ImageError) (f : A → Result B ImageError) (y : B) → (r >>= f) ≡ Ok y → (x : A) × (r ≡ Ok x) × (f x ≡ Ok y)
bind_ok (Ok x) f y e = (x, refl, e)
bind_ok (Err d) f y e = absurd cc

-- a rule that was kept
pub rule_ok : {B : Type 0} (kept : Bool) (d : ImageError) (f : Unit {0} → Result B ImageError) (y : B) → (rule kept d >>= f) ≡ Ok y → (kept ≡ true) × (f tt ≡ Ok y)
rule_ok true d f y e = (refl, e)
rule_ok false d f y e = absurd cc

pub ok_is : {A : Type 0} (x y : A) → (let one : Result A ImageError = Ok x in one ≡ Ok y) → x ≡ y
ok_is x y e = cc

abbrev pub IsBytes : List ℕ → Type 0
IsBytes bytes = (i : ℕ) → get_or bytes i 0 < 256

pub IsBytes-drop : (n : ℕ) (bytes : List ℕ) → IsBytes bytes → IsBytes (drop n bytes)
IsBytes-drop n bytes h i = rw get_or-drop (h (n + i))

pub IsBytes-take : (n : ℕ) (bytes : List ℕ) → IsBytes bytes → IsBytes (take n bytes)
IsBytes-take n bytes h i =
    elim (cases_lt i n) [
      | inl lt ↦ rw (get_or-take n bytes i 0 lt) (h i)
      | inr le ↦ rw (get_or_past (take n bytes) i 0 (omega (arith, length-take n bytes))) (omega arith)
    ]

-- ---- what was read is what stands there

-- from a place up to another the bytes are this text
pub record Took (bytes : List ℕ) (at : ℕ) (text : List ℕ) (after : ℕ) : Type 0 where
  pub parts : drop at bytes ≡ text ++ drop after bytes

pub Took-then : (bytes : List ℕ) (a b c : ℕ) (x y : List ℕ) → Took bytes a x b → Took bytes b y c → Took bytes a (x ++ y) c
Took-then bytes a b c x y p q = record { parts = p.parts ∙ ap (λ (t : List ℕ). x ++ t) q.parts ∙ sym (append_assoc x y (drop c bytes)) }

pub Took-to : (bytes : List ℕ) (a b c : ℕ) (x : List ℕ) → b ≡ c → Took bytes a x b → Took bytes a x c
Took-to bytes a b c x e p = record { parts = p.parts ∙ ap (λ (n : ℕ). x ++ drop n bytes) e }

pub record IsField (bytes : List ℕ) (at len : ℕ) (field : List ℕ) : Type 0 where
  pub within : at + len ≤ length bytes
  pub is : take len (drop at bytes) ≡ field
  pub len_is : length field ≡ len
  pub took : Took bytes at field (at + len)

pub field_takes : (bytes : List ℕ) (at len : ℕ) (field : List ℕ) → field_at bytes at len ≡ Ok field → IsField bytes at len field
unfolding field_at
field_takes bytes at len field e =
    let r = rule_ok _ _ (λ long. Ok (take len (drop at bytes))) field e in
    let within : at + len ≤ length bytes = grind (arith, nat_tests, r.0) in
    let is = ok_is (take len (drop at bytes)) field r.1 in
    let parts : drop at bytes ≡ take len (drop at bytes) ++ drop (at + len) bytes = sym (take-append-drop len (drop at bytes)) ∙ ap (λ (t : List ℕ). take len (drop at bytes) ++ t) (drop-drop len at bytes) in
    record {
      within = within;
      is = is;
      len_is = ap length (sym is) ∙ length-take len (drop at bytes) ∙ omega (arith, length-drop at bytes);
      took = record { parts = parts ∙ ap (λ (t : List ℕ). t ++ drop (at + len) bytes) is };
    }

pub number_is : (bytes : List ℕ) (n : ℕ) → IsBytes bytes → length bytes ≡ 4 → from_le_bytes w32 bytes ≡ n → (number n ≡ bytes) × (n < 2 ^ 32)
unfolding number
number_is bytes n fits len e = (le_bytes_4 bytes n len fits (sym e), rw (← e) (omega (arith, fits 0, fits 1, fits 2, fits 3)))

pub number_takes : (bytes : List ℕ) (at n : ℕ) → IsBytes bytes → number_at bytes at ≡ Ok n → Took bytes at (number n) (at + 4) × (n < 2 ^ 32)
unfolding number_at
number_takes bytes at n fits e =
    let a = bind_ok (field_at bytes at 4) (λ field. Ok (from_le_bytes w32 field)) n e in
    let f = field_takes bytes at 4 a.0 a.1 in
    let inside : IsBytes a.0 = subst IsBytes f.is (IsBytes-take 4 (drop at bytes) (IsBytes-drop at bytes fits)) in
    let m = number_is a.0 n inside f.len_is (ok_is (from_le_bytes w32 a.0) n a.2) in
    (record { parts = f.took.parts ∙ ap (λ (t : List ℕ). t ++ drop (at + 4) bytes) (sym m.0) }, m.1)

-- ---- what stands there is read

-- from a place on the bytes are these
pub record Stands (bytes : List ℕ) (at : ℕ) (rest : List ℕ) : Type 0 where
  pub within : at ≤ length bytes
  pub is : drop at bytes ≡ rest

pub Stands-length : (bytes : List ℕ) (at : ℕ) (rest : List ℕ) → Stands bytes at rest → length bytes ≡ at + length rest
Stands-length bytes at rest s = omega (arith, s.within, length-drop at bytes, ap length s.is)

pub Stands-after : (bytes : List ℕ) (at after : ℕ) (text rest : List ℕ) → after ≡ at + length text → Stands bytes at (text ++ rest) → Stands bytes after rest
Stands-after bytes at after text rest e s = record {
  within = omega (arith, Stands-length bytes at (text ++ rest) s, length-append text rest);
  is = ap (λ n. drop n bytes) e ∙ sym (drop-drop (length text) at bytes) ∙ ap (drop (length text)) s.is ∙ drop_at text rest (length text) refl;
}

pub field_again : (bytes : List ℕ) (at len : ℕ) (text rest : List ℕ) → length text ≡ len → Stands bytes at (text ++ rest) → field_at bytes at len ≡ Ok text
unfolding field_at
field_again bytes at len text rest e s =
    let within : at + len ≤ length bytes = omega (arith, Stands-length bytes at (text ++ rest) s, length-append text rest) in
    let is : take len (drop at bytes) ≡ text = ap (take len) s.is ∙ take_at text rest len e in
    rw is (grind (arith, nat_tests))

pub length-number : (n : ℕ) → length (number n) ≡ 4
unfolding number
length-number n = refl

pub number_again : (bytes : List ℕ) (at n : ℕ) (rest : List ℕ) → n < 2 ^ 32 → Stands bytes at (number n ++ rest) → number_at bytes at ≡ Ok n
unfolding number_at number
number_again bytes at n rest lt s =
    rw (field_again bytes at 4 (number n) rest refl s) (ap (λ (m : ℕ). Ok m) (from_le_bytes-to_le_bytes_4 n lt))
