-- The image that is read keeps the rules, and the bytes are its spelling.
use Rattle.std.proofs.Common.{◌≡◌, ℕ, zero, suc, ◌+◌, ◌-◌, ◌*◌, ◌/◌, ◌%◌, ◌^◌, ◌<◌, ◌≤◌, true, List, [], ◌∷◌, ◌++◌, length, drop, Result, Ok, Err, refl, sym, ap, subst, ◌∙◌, arith}
use Rattle.std.specs.Prelude.{nat_le, nat_lt, ◌==◌, slice_index, IfOk}
use Rattle.std.specs.Int.{w32, from_le_bytes}
use Rattle.std.specs.List.{flat_map}
use Rattle.std.proofs.lemmas.Bool.Decides.{nat_tests}
use Rattle.std.proofs.lemmas.List.{append-nil, length-drop, drop_more, nil_from_length}
use Rattle.rv_image.specs.declared.image.Image.{Image}
use Rattle.rv_image.specs.declared.error.ImageError.{ImageError}
use Rattle.rv_image.specs.declared.error.ImageError.TheVariants.{BadField}
use Rattle.rv_image.specs.Rules.{total_size, Decline, AreFrames, count_of, EndsNonzero, IsImage}
use Rattle.rv_image.specs.Spelling.{magic, number, counted, framed, worded, spelling, AreWords}
use Rattle.rv_image.specs.Reading.{◌>>=◌, rule, field_at, number_at, is_entry, entry_of, is_exponent, exponent_at, exponents_at, globals_at, frame_at, frames_from, frames_at, ends_nonzero, initial_at, words_of, is_text_size, text_at, image_of, Gives}
use Rattle.rv_image.proofs.Fields.{bind_ok, rule_ok, ok_is, IsBytes, IsBytes-take, IsBytes-drop, Took, Took-then, Took-to, field_takes, number_is, number_takes}

-- ---- the entry

pub record IsEntry (bytes : List ℕ) (entry : ℕ) : Type 0 where
  pub took : Took bytes 0 (magic ++ number 1 ++ number entry) 12
  pub aligned : entry % 4 ≡ 0
  pub low : 4096 ≤ entry
  pub high : entry < 2097152

pub magic_is : magic ≡ number 1497841986
unfolding number
magic_is = refl

same_number : (m n : ℕ) → (m == n) ≡ true → m ≡ n
same_number m n e = grind (arith, nat_tests)

entry_takes : (bytes : List ℕ) (entry : ℕ) → IsBytes bytes → entry_of bytes ≡ Ok entry → IsEntry bytes entry
unfolding entry_of
entry_takes bytes entry fits e =
    let a = bind_ok (number_at bytes 0) _ entry e in
    let a' = rule_ok _ _ _ entry a.2 in
    let b = bind_ok (number_at bytes 4) _ entry a'.1 in
    let b' = rule_ok _ _ _ entry b.2 in
    let c = bind_ok (number_at bytes 8) _ entry b'.1 in
    let c' = rule_ok _ _ _ entry c.2 in
    let is : c.0 ≡ entry = ok_is c.0 entry c'.1 in
    let ta = (number_takes bytes 0 a.0 fits a.1).0 in
    let tb = (number_takes bytes 4 b.0 fits b.1).0 in
    let tc = (number_takes bytes 8 c.0 fits c.1).0 in
    let first : Took bytes 0 magic 4 = subst (λ t. Took bytes 0 t 4) (ap number (same_number a.0 1497841986 a'.0) ∙ sym magic_is) ta in
    let second : Took bytes 4 (number 1) 8 = subst (λ n. Took bytes 4 (number n) 8) (same_number b.0 1 b'.0) tb in
    let kept : is_entry c.0 ≡ true = c'.0 in
    subst (IsEntry bytes) is (record {
      took = Took-then bytes 0 8 12 (magic ++ number 1) (number c.0) (Took-then bytes 0 4 8 magic (number 1) first second) tc;
      aligned = grind (arith, nat_tests);
      low = grind (arith, nat_tests);
      high = grind (arith, nat_tests);
    })

-- ---- exponents

pub record AreExponents (bytes : List ℕ) (at most room n : ℕ) (es : List ℕ) : Type 0 where
  pub took : Took bytes at es (at + n)
  pub counted_is : length es ≡ n
  pub declining : Decline most es
  pub within : total_size es ≤ room

record TakesExponent (bytes : List ℕ) (at most room e : ℕ) : Type 0 where
  took : Took bytes at (e ∷ []) (at + 1)
  least : 4 ≤ e
  below : e ≤ most
  within : 2 ^ e ≤ room

exponent_takes : (bytes : List ℕ) (at most room e : ℕ) → exponent_at bytes at most room ≡ Ok e → TakesExponent bytes at most room e
unfolding exponent_at
exponent_takes bytes at most room e eq =
    let a = rule_ok _ _ _ e eq in
    let reaches : nat_lt at (length bytes) ≡ true = a.0 in
    let long : at < length bytes = grind (arith, nat_tests) in
    let b = rule_ok _ _ _ e a.1 in
    let is = ok_is (slice_index bytes at) e b.1 in
    let kept : is_exponent (slice_index bytes at) most room ≡ true = b.0 in
    subst (TakesExponent bytes at most room) is (record {
      took = record { parts = drop_more bytes at 0 long };
      least = grind (arith, nat_tests);
      below = grind (arith, nat_tests);
      within = grind (arith, nat_tests);
    })

exponents_take : (bytes : List ℕ) (n at most room : ℕ) (es : List ℕ) → exponents_at bytes n at most room ≡ Ok es → AreExponents bytes at most room n es
unfolding exponents_at
exponents_take bytes zero at most room es e =
    subst (AreExponents bytes at most room 0) (ok_is [] es e) (record {
      took = record { parts = ap (λ k. drop k bytes) (omega arith) };
      counted_is = refl;
      declining = tt;
      within = omega arith;
    })
exponents_take bytes (suc n) at most room es e =
    let a = bind_ok (exponent_at bytes at most room) _ es e in
    let b = bind_ok (exponents_at bytes n (at + 1) a.0 (room - 2 ^ a.0)) _ es a.2 in
    let first = exponent_takes bytes at most room a.0 a.1 in
    let others = exponents_take bytes n (at + 1) a.0 (room - 2 ^ a.0) b.0 b.1 in
    subst (AreExponents bytes at most room (suc n)) (ok_is (a.0 ∷ b.0) es b.2) (record {
      took = Took-to bytes at (at + 1 + n) (at + suc n) (a.0 ∷ b.0) (omega arith) (Took-then bytes at (at + 1) (at + 1 + n) (a.0 ∷ []) b.0 first.took others.took);
      counted_is = ap suc others.counted_is;
      declining = (first.least, first.below, others.declining);
      within = omega (arith, first.within, others.within);
    })

-- ---- exponents behind their count

pub record AreCounted (bytes : List ℕ) (at limit most : ℕ) (es : List ℕ) : Type 0 where
  pub took : Took bytes at (counted es) (at + 4 + length es)
  pub few : length es ≤ most
  pub declining : Decline 20 es
  pub within : total_size es ≤ limit

counted_take : (bytes : List ℕ) (at limit most : ℕ) (es : List ℕ) (d : ℕ → ImageError) → IsBytes bytes
    → (number_at bytes at >>= λ count. rule (nat_le count most) (d count) >>= λ few. exponents_at bytes count (at + 4) 20 limit) ≡ Ok es → AreCounted bytes at limit most es
counted_take bytes at limit most es d fits e =
    let a = bind_ok (number_at bytes at) _ es e in
    let b = rule_ok _ _ _ es a.2 in
    let n = number_takes bytes at a.0 fits a.1 in
    let x = exponents_take bytes a.0 (at + 4) 20 limit es b.1 in
    let kept : nat_le a.0 most ≡ true = b.0 in
    let few : a.0 ≤ most = grind (arith, nat_tests) in
    let together = Took-then bytes at (at + 4) (at + 4 + a.0) (number a.0) es n.0 x.took in
    record {
      took = subst (λ k. Took bytes at (number k ++ es) (at + 4 + k)) (sym x.counted_is) together;
      few = omega (arith, x.counted_is);
      declining = x.declining;
      within = x.within;
    }

globals_take : (bytes : List ℕ) (at : ℕ) (es : List ℕ) → IsBytes bytes → globals_at bytes at ≡ Ok es → AreCounted bytes at 2097152 131072 es
unfolding globals_at
globals_take bytes at es fits e = counted_take bytes at 2097152 131072 es (λ _. BadField at) fits e

frame_takes : (bytes : List ℕ) (at left : ℕ) (es : List ℕ) → IsBytes bytes → frame_at bytes at left ≡ Ok es → AreCounted bytes at 4194304 left es
unfolding frame_at
frame_takes bytes at left es fits e = counted_take bytes at 4194304 left es (λ _. BadField at) fits e

-- ---- frames

record TakesFrames (bytes : List ℕ) (at left n : ℕ) (x : List (List ℕ) × ℕ) : Type 0 where
  took : Took bytes at (flat_map counted x.0) x.1
  number_is : length x.0 ≡ n
  are : AreFrames x.0
  few : count_of x.0 ≤ left

frames_take : (bytes : List ℕ) (n at left : ℕ) (x : List (List ℕ) × ℕ) → IsBytes bytes → frames_from bytes n at left ≡ Ok x → TakesFrames bytes at left n x
unfolding frames_from
frames_take bytes zero at left x fits e =
    subst (TakesFrames bytes at left 0) (ok_is ([], at) x e) (record { took = record { parts = refl }; number_is = refl; are = tt; few = omega arith })
frames_take bytes (suc n) at left x fits e =
    let a = bind_ok (frame_at bytes at left) _ x e in
    let b = bind_ok (frames_from bytes n (at + 4 + length a.0) (left - length a.0)) _ x a.2 in
    let first = frame_takes bytes at left a.0 fits a.1 in
    let others = frames_take bytes n (at + 4 + length a.0) (left - length a.0) b.0 fits b.1 in
    let made : List (List ℕ) × ℕ = (a.0 ∷ b.0.0, b.0.1) in
    subst (TakesFrames bytes at left (suc n)) (ok_is made x b.2) (record {
      took = Took-then bytes at (at + 4 + length a.0) b.0.1 (counted a.0) (flat_map counted b.0.0) first.took others.took;
      number_is = ap suc others.number_is;
      are = (first.declining, first.within, others.are);
      few = omega (arith, first.few, others.few);
    })

pub record AreFramed (bytes : List ℕ) (at : ℕ) (x : List (List ℕ) × ℕ) : Type 0 where
  pub took : Took bytes at (framed x.0) x.1
  pub few : length x.0 ≤ 1000
  pub are : AreFrames x.0
  pub blocks : count_of x.0 ≤ 8192

framed_take : (bytes : List ℕ) (at : ℕ) (x : List (List ℕ) × ℕ) → IsBytes bytes → frames_at bytes at ≡ Ok x → AreFramed bytes at x
unfolding frames_at
framed_take bytes at x fits e =
    let a = bind_ok (number_at bytes at) _ x e in
    let b = rule_ok _ _ _ x a.2 in
    let n = number_takes bytes at a.0 fits a.1 in
    let f = frames_take bytes a.0 (at + 4) 8192 x fits b.1 in
    let kept : nat_le a.0 1000 ≡ true = b.0 in
    let few : a.0 ≤ 1000 = grind (arith, nat_tests) in
    let together = Took-then bytes at (at + 4) x.1 (number a.0) (flat_map counted x.0) n.0 f.took in
    record {
      took = subst (λ k. Took bytes at (number k ++ flat_map counted x.0) x.1) (sym f.number_is) together;
      few = omega (arith, f.number_is);
      are = f.are;
      blocks = f.few;
    }

-- ---- the initial bytes

nonzero_end : (bytes : List ℕ) → ends_nonzero bytes ≡ true → EndsNonzero bytes
nonzero_end [] e = tt
nonzero_end (b ∷ []) e = grind (arith, nat_tests)
nonzero_end (b ∷ c ∷ bs) e = nonzero_end (c ∷ bs) e

pub record AreInitial (bytes : List ℕ) (at most : ℕ) (initial : List ℕ) : Type 0 where
  pub took : Took bytes at (counted initial) (at + 4 + length initial)
  pub fits : length initial ≤ most
  pub ends : EndsNonzero initial

initial_takes : (bytes : List ℕ) (at most : ℕ) (initial : List ℕ) → IsBytes bytes → initial_at bytes at most ≡ Ok initial → AreInitial bytes at most initial
unfolding initial_at
initial_takes bytes at most initial fits e =
    let a = bind_ok (number_at bytes at) _ initial e in
    let b = rule_ok _ _ _ initial a.2 in
    let kept : nat_le a.0 most ≡ true = b.0 in
    let few : a.0 ≤ most = grind (arith, nat_tests) in
    let c = bind_ok (field_at bytes (at + 4) a.0) _ initial b.1 in
    let d = rule_ok _ _ _ initial c.2 in
    let n = number_takes bytes at a.0 fits a.1 in
    let f = field_takes bytes (at + 4) a.0 c.0 c.1 in
    let together = Took-then bytes at (at + 4) (at + 4 + a.0) (number a.0) c.0 n.0 f.took in
    subst (AreInitial bytes at most) (ok_is c.0 initial d.1) (record {
      took = subst (λ k. Took bytes at (number k ++ c.0) (at + 4 + k)) (sym f.len_is) together;
      fits = omega (arith, f.len_is);
      ends = nonzero_end c.0 d.0;
    })

-- ---- the text

record SpellsWords (bytes words : List ℕ) (n : ℕ) : Type 0 where
  spelled : flat_map number words ≡ bytes
  number_is : length words ≡ n
  are : AreWords words

words_spelled : (n : ℕ) (bytes : List ℕ) → IsBytes bytes → length bytes ≡ 4 * n → SpellsWords bytes (words_of bytes) n
words_spelled zero [] fits e = record { spelled = refl; number_is = refl; are = tt }
words_spelled zero (a ∷ bytes) fits e = absurd (omega arith)
words_spelled (suc n) [] fits e = absurd (omega arith)
words_spelled (suc n) (a ∷ []) fits e = absurd (omega arith)
words_spelled (suc n) (a ∷ b ∷ []) fits e = absurd (omega arith)
words_spelled (suc n) (a ∷ b ∷ c ∷ []) fits e = absurd (omega arith)
words_spelled (suc n) (a ∷ b ∷ c ∷ d ∷ bytes) fits e =
    let word : List ℕ = a ∷ b ∷ c ∷ d ∷ [] in
    let first = number_is word (from_le_bytes w32 word) (IsBytes-take 4 (a ∷ b ∷ c ∷ d ∷ bytes) fits) refl refl in
    let others = words_spelled n bytes (λ i. fits (suc (suc (suc (suc i))))) (omega arith) in
    record {
      spelled = ap (λ (t : List ℕ). t ++ flat_map number (words_of bytes)) first.0 ∙ ap (λ (t : List ℕ). word ++ t) others.spelled;
      number_is = ap suc others.number_is;
      are = (first.1, others.are);
    }

pub record IsText (bytes : List ℕ) (at entry : ℕ) (text : List ℕ) : Type 0 where
  pub took : Took bytes at (worded text) (at + 4 + 4 * length text)
  pub some : 1 ≤ length text
  pub fits : 4 * length text ≤ 2093056
  pub entered : entry - 4096 < 4 * length text
  pub are : AreWords text

text_takes : (bytes : List ℕ) (at entry : ℕ) (text : List ℕ) → IsBytes bytes → text_at bytes at entry ≡ Ok text → IsText bytes at entry text
unfolding text_at
text_takes bytes at entry text fits e =
    let a = bind_ok (number_at bytes at) _ text e in
    let b = rule_ok _ _ _ text a.2 in
    let c = bind_ok (field_at bytes (at + 4) a.0) _ text b.1 in
    let n = number_takes bytes at a.0 fits a.1 in
    let f = field_takes bytes (at + 4) a.0 c.0 c.1 in
    let kept : is_text_size entry a.0 ≡ true = b.0 in
    let whole : a.0 % 4 ≡ 0 = grind (arith, nat_tests) in
    let least : 4 ≤ a.0 = grind (arith, nat_tests) in
    let most : a.0 ≤ 2093056 = grind (arith, nat_tests) in
    let in_it : entry - 4096 < a.0 = grind (arith, nat_tests) in
    let quarter : a.0 ≡ 4 * (a.0 / 4) = omega arith in
    let inside : IsBytes c.0 = subst IsBytes f.is (IsBytes-take a.0 (drop (at + 4) bytes) (IsBytes-drop (at + 4) bytes fits)) in
    let w = words_spelled (a.0 / 4) c.0 inside (f.len_is ∙ quarter) in
    let size : a.0 ≡ 4 * length (words_of c.0) = omega (arith, w.number_is) in
    let field : Took bytes (at + 4) (flat_map number (words_of c.0)) (at + 4 + a.0) = subst (λ t. Took bytes (at + 4) t (at + 4 + a.0)) (sym w.spelled) f.took in
    let together = Took-then bytes at (at + 4) (at + 4 + a.0) (number a.0) (flat_map number (words_of c.0)) n.0 field in
    subst (IsText bytes at entry) (ok_is (words_of c.0) text c.2) (record {
      took = subst (λ k. Took bytes at (number k ++ flat_map number (words_of c.0)) (at + 4 + k)) size together;
      some = omega (arith, size);
      fits = omega (arith, size);
      entered = omega (arith, size);
      are = w.are;
    })

-- ---- the image

pub record IsFound (bytes : List ℕ) (image : Image) : Type 0 where
  pub rules : IsImage image
  pub words : AreWords image.text
  pub spelled : bytes ≡ spelling image

pub image_takes : (bytes : List ℕ) (image : Image) → IsBytes bytes → image_of bytes ≡ Ok image → IsFound bytes image
unfolding image_of spelling
image_takes bytes image fits e =
    let a = bind_ok (entry_of bytes) _ image e in
    let b = bind_ok (globals_at bytes 12) _ image a.2 in
    let c = bind_ok (frames_at bytes (16 + length b.0)) _ image b.2 in
    let d = bind_ok (initial_at bytes c.0.1 (total_size b.0)) _ image c.2 in
    let f = bind_ok (text_at bytes (c.0.1 + 4 + length d.0) a.0) _ image d.2 in
    let g = rule_ok _ _ _ image f.2 in
    let entry = entry_takes bytes a.0 fits a.1 in
    let globals = globals_take bytes 12 b.0 fits b.1 in
    let frames = framed_take bytes (16 + length b.0) c.0 fits c.1 in
    let initial = initial_takes bytes c.0.1 (total_size b.0) d.0 fits d.1 in
    let text = text_takes bytes (c.0.1 + 4 + length d.0) a.0 f.0 fits f.1 in
    let end : ℕ = c.0.1 + 4 + length d.0 + 4 + 4 * length f.0 in
    let made : Image = record { version = 1; entry = a.0; globals = b.0; frames = c.0.0; initial = d.0; text = f.0 } in
    let kept : (length bytes == c.0.1 + 8 + length d.0 + 4 * length f.0) ≡ true = g.0 in
    let ended : length bytes ≡ end = same_number _ _ kept ∙ omega arith in
    let x2 = Took-then bytes 0 12 (16 + length b.0) (magic ++ number 1 ++ number a.0) (counted b.0) entry.took globals.took in
    let x3 = Took-then bytes 0 (16 + length b.0) c.0.1 (magic ++ number 1 ++ number a.0 ++ counted b.0) (framed c.0.0) x2 frames.took in
    let x4 = Took-then bytes 0 c.0.1 (c.0.1 + 4 + length d.0) (magic ++ number 1 ++ number a.0 ++ counted b.0 ++ framed c.0.0) (counted d.0) x3 initial.took in
    let x5 = Took-then bytes 0 (c.0.1 + 4 + length d.0) end (magic ++ number 1 ++ number a.0 ++ counted b.0 ++ framed c.0.0 ++ counted d.0) (worded f.0) x4 text.took in
    let nothing : drop end bytes ≡ [] = nil_from_length (drop end bytes) (omega (arith, length-drop end bytes)) in
    let whole : bytes ≡ magic ++ number 1 ++ number a.0 ++ counted b.0 ++ framed c.0.0 ++ counted d.0 ++ worded f.0 =
    x5.parts ∙ ap (λ (r : List ℕ). (magic ++ number 1 ++ number a.0 ++ counted b.0 ++ framed c.0.0 ++ counted d.0 ++ worded f.0) ++ r) nothing ∙ append-nil _ in
    subst (IsFound bytes) (ok_is made image g.1) (record {
      rules = record {
        version = refl;
        entry_aligned = entry.aligned;
        entry_low = entry.low;
        entry_high = entry.high;
        globals_few = globals.few;
        globals_decline = globals.declining;
        globals_fit = globals.within;
        frames_few = frames.few;
        blocks_few = frames.blocks;
        frames_fit = frames.are;
        initial_fits = initial.fits;
        initial_ends = initial.ends;
        text_some = text.some;
        text_fits = text.fits;
        entry_within = text.entered;
      };
      words = text.are;
      spelled = whole;
    })

pub is_found : (bytes : List ℕ) (r : Result Image ImageError) → IsBytes bytes → Gives r (image_of bytes) → IfOk r (λ image. IsImage image × (bytes ≡ spelling image))
is_found bytes (Ok image) fits given = let found = image_takes bytes image fits given in (found.rules, found.spelled)
is_found bytes (Err e) fits given = tt
