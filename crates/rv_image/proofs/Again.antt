-- The spelling of an image is read as the image.
use Rattle.std.proofs.Common.{◌≡◌, ℕ, ◌+◌, ◌-◌, ◌*◌, ◌%◌, ◌^◌, ◌<◌, ◌≤◌, true, false, List, [], ◌∷◌, ◌++◌, length, get_or, Ok, Err, refl, sym, ap, subst, ◌∙◌, append_assoc, arith, eq-eqb, ne_eqb}
use Rattle.std.specs.Prelude.{nat_le, nat_lt, ◌==◌}
use Rattle.std.specs.List.{flat_map}
use Rattle.std.proofs.lemmas.Bool.Decides.{nat_tests}
use Rattle.std.proofs.lemmas.List.{append-nil, length-append, get_or-drop}
use Rattle.std.proofs.lemmas.Nat.{from_le_bytes-to_le_bytes_4}
use Rattle.rv_image.specs.declared.image.Image.{Image}
use Rattle.rv_image.specs.declared.error.ImageError.{ImageError}
use Rattle.rv_image.specs.declared.error.ImageError.TheVariants.{BadField, Extra}
use Rattle.rv_image.specs.Rules.{total_size, Decline, AreFrames, count_of, EndsNonzero, IsImage}
use Rattle.rv_image.specs.Spelling.{magic, number, counted, framed, worded, spelling, AreWords}
use Rattle.rv_image.specs.Reading.{◌>>=◌, rule, number_at, is_entry, entry_of, is_exponent, exponent_at, exponents_at, globals_at, frame_at, frames_from, frames_at, ends_nonzero, initial_at, words_of, is_text_size, text_at, image_of}
use Rattle.rv_image.proofs.Fields.{Stands, Stands-length, Stands-after, field_again, length-number, number_again}
use Rattle.rv_image.proofs.Found.{magic_is}

Stands-parts : (bytes : List ℕ) (at : ℕ) (x y rest : List ℕ) → Stands bytes at ((x ++ y) ++ rest) → Stands bytes at (x ++ (y ++ rest))
Stands-parts bytes at x y rest s = record { within = s.within; is = s.is ∙ append_assoc x y rest }

after_number : (bytes : List ℕ) (at n : ℕ) (rest : List ℕ) → Stands bytes at (number n ++ rest) → Stands bytes (at + 4) rest
after_number bytes at n rest s = Stands-after bytes at (at + 4) (number n) rest (ap (λ k. at + k) (sym (length-number n))) s

-- ---- the entry

entry_again : (bytes : List ℕ) (entry : ℕ) (rest : List ℕ) → entry % 4 ≡ 0 → 4096 ≤ entry → entry < 2097152
    → Stands bytes 0 (magic ++ (number 1 ++ (number entry ++ rest))) → entry_of bytes ≡ Ok entry
unfolding entry_of
entry_again bytes entry rest aligned low high s =
    let s0 : Stands bytes 0 (number 1497841986 ++ (number 1 ++ (number entry ++ rest))) = subst (λ t. Stands bytes 0 (t ++ (number 1 ++ (number entry ++ rest)))) magic_is s in
    let s4 : Stands bytes 4 (number 1 ++ (number entry ++ rest)) = after_number bytes 0 1497841986 (number 1 ++ (number entry ++ rest)) s0 in
    let s8 : Stands bytes 8 (number entry ++ rest) = after_number bytes 4 1 (number entry ++ rest) s4 in
    let kept : is_entry entry ≡ true = grind (arith, nat_tests) in
    rw (number_again bytes 0 1497841986 (number 1 ++ (number entry ++ rest)) (omega arith) s0, number_again bytes 4 1 (number entry ++ rest) (omega arith) s4, number_again bytes 8 entry rest (omega arith) s8, kept) refl

-- ---- exponents

exponent_again : (bytes : List ℕ) (at most room e : ℕ) (rest : List ℕ) → 4 ≤ e → e ≤ most → 2 ^ e ≤ room → Stands bytes at (e ∷ rest) → exponent_at bytes at most room ≡ Ok e
unfolding exponent_at
exponent_again bytes at most room e rest least below within s =
    let long : at < length bytes = omega (arith, Stands-length bytes at (e ∷ rest) s) in
    let reaches : nat_lt at (length bytes) ≡ true = grind (arith, nat_tests) in
    let is : get_or bytes at 0 ≡ e = ap (λ i. get_or bytes i 0) (omega arith) ∙ sym (get_or-drop at bytes 0 0) ∙ ap (λ (t : List ℕ). get_or t 0 0) s.is in
    let kept : is_exponent e most room ≡ true = grind (arith, nat_tests) in
    rw (reaches, is, kept) refl

exponents_again : (bytes : List ℕ) (es : List ℕ) (at most room : ℕ) (rest : List ℕ) → Decline most es → total_size es ≤ room → Stands bytes at (es ++ rest) → exponents_at bytes (length es) at most room ≡ Ok es
unfolding exponents_at
exponents_again bytes [] at most room rest d within s = refl
exponents_again bytes (e ∷ es) at most room rest d within s =
    let first = exponent_again bytes at most room e (es ++ rest) d.0 d.1 (omega arith) s in
    let others = exponents_again bytes es (at + 1) e (room - 2 ^ e) rest d.2 (omega arith) (Stands-after bytes at (at + 1) (e ∷ []) (es ++ rest) refl s) in
    rw (first, others) refl

counted_again : (bytes : List ℕ) (at limit most : ℕ) (es rest : List ℕ) (d : ℕ → ImageError) → length es ≤ most → most < 2 ^ 32 → Decline 20 es → total_size es ≤ limit → Stands bytes at (counted es ++ rest)
    → (number_at bytes at >>= λ count. rule (nat_le count most) (d count) >>= λ few. exponents_at bytes count (at + 4) 20 limit) ≡ Ok es
counted_again bytes at limit most es rest d few small declining within s =
    let s' = Stands-parts bytes at (number (length es)) es rest s in
    let kept : nat_le (length es) most ≡ true = grind (arith, nat_tests) in
    rw (number_again bytes at (length es) (es ++ rest) (omega arith) s', kept) (exponents_again bytes es (at + 4) 20 limit rest declining within (after_number bytes at (length es) (es ++ rest) s'))

globals_again : (bytes : List ℕ) (at : ℕ) (es rest : List ℕ) → length es ≤ 131072 → Decline 20 es → total_size es ≤ 2097152 → Stands bytes at (counted es ++ rest) → globals_at bytes at ≡ Ok es
unfolding globals_at
globals_again bytes at es rest few declining within s = counted_again bytes at 2097152 131072 es rest (λ _. BadField at) few (omega arith) declining within s

frame_again : (bytes : List ℕ) (at left : ℕ) (es rest : List ℕ) → length es ≤ left → left ≤ 8192 → Decline 20 es → total_size es ≤ 4194304 → Stands bytes at (counted es ++ rest) → frame_at bytes at left ≡ Ok es
unfolding frame_at
frame_again bytes at left es rest few small declining within s = counted_again bytes at 4194304 left es rest (λ _. BadField at) few (omega arith) declining within s

after_counted : (bytes : List ℕ) (at : ℕ) (es rest : List ℕ) → Stands bytes at (counted es ++ rest) → Stands bytes (at + 4 + length es) rest
after_counted bytes at es rest s =
    Stands-after bytes at (at + 4 + length es) (counted es) rest (omega (arith, length-append (number (length es)) es, length-number (length es))) s

-- ---- frames

-- how many bytes the frames have
frames_size : List (List ℕ) → ℕ
frames_size [] = 0
frames_size (es ∷ frames) = 4 + length es + frames_size frames

frames_again : (bytes : List ℕ) (frames : List (List ℕ)) (at left : ℕ) (rest : List ℕ) → AreFrames frames → count_of frames ≤ left → left ≤ 8192 → Stands bytes at (flat_map counted frames ++ rest)
    → (after : ℕ) × (frames_from bytes (length frames) at left ≡ Ok (frames, after)) × Stands bytes after rest
unfolding frames_from
frames_again bytes [] at left rest are few small s = (at, refl, s)
frames_again bytes (es ∷ frames) at left rest are few small s =
    let s' = Stands-parts bytes at (counted es) (flat_map counted frames) rest s in
    let first = frame_again bytes at left es (flat_map counted frames ++ rest) (omega arith) small are.0 are.1 s' in
    let others = frames_again bytes frames (at + 4 + length es) (left - length es) rest are.2 (omega arith) (omega arith) (after_counted bytes at es (flat_map counted frames ++ rest) s') in
    (others.0, rw (first, others.1) refl, others.2)

framed_again : (bytes : List ℕ) (at : ℕ) (frames : List (List ℕ)) (rest : List ℕ) → length frames ≤ 1000 → AreFrames frames → count_of frames ≤ 8192 → Stands bytes at (framed frames ++ rest)
    → (after : ℕ) × (frames_at bytes at ≡ Ok (frames, after)) × Stands bytes after rest
unfolding frames_at
framed_again bytes at frames rest few are blocks s =
    let s' = Stands-parts bytes at (number (length frames)) (flat_map counted frames) rest s in
    let kept : nat_le (length frames) 1000 ≡ true = grind (arith, nat_tests) in
    let all = frames_again bytes frames (at + 4) 8192 rest are blocks (omega arith) (after_number bytes at (length frames) (flat_map counted frames ++ rest) s') in
    (all.0, rw (number_again bytes at (length frames) (flat_map counted frames ++ rest) (omega arith) s', kept) all.1, all.2)

-- ---- the initial bytes

ends_again : (bytes : List ℕ) → EndsNonzero bytes → ends_nonzero bytes ≡ true
ends_again [] e = refl
ends_again (b ∷ []) e = grind (arith, nat_tests)
ends_again (b ∷ c ∷ bs) e = ends_again (c ∷ bs) e

initial_again : (bytes : List ℕ) (at most : ℕ) (initial rest : List ℕ) → length initial ≤ most → most ≤ 2097152 → EndsNonzero initial → Stands bytes at (counted initial ++ rest) → initial_at bytes at most ≡ Ok initial
unfolding initial_at
initial_again bytes at most initial rest fits small ends s =
    let s' = Stands-parts bytes at (number (length initial)) initial rest s in
    let kept : nat_le (length initial) most ≡ true = grind (arith, nat_tests) in
    rw (number_again bytes at (length initial) (initial ++ rest) (omega arith) s', kept, field_again bytes (at + 4) (length initial) initial rest refl (after_number bytes at (length initial) (initial ++ rest) s'), ends_again initial ends) refl

-- ---- the text

words_again : (ws : List ℕ) → AreWords ws → words_of (flat_map number ws) ≡ ws
unfolding number
words_again [] are = refl
words_again (w ∷ ws) are = ap (λ k. k ∷ words_of (flat_map number ws)) (from_le_bytes-to_le_bytes_4 w are.0) ∙ ap (λ (t : List ℕ). w ∷ t) (words_again ws are.1)

length-words : (ws : List ℕ) → length (flat_map number ws) ≡ 4 * length ws
length-words [] = refl
length-words (w ∷ ws) = omega (arith, length-append (number w) (flat_map number ws), length-number w, length-words ws)

text_again : (bytes : List ℕ) (at entry : ℕ) (text rest : List ℕ) → 1 ≤ length text → 4 * length text ≤ 2093056 → entry - 4096 < 4 * length text → AreWords text → Stands bytes at (worded text ++ rest)
    → text_at bytes at entry ≡ Ok text
unfolding text_at
text_again bytes at entry text rest some fits entered are s =
    let s' = Stands-parts bytes at (number (4 * length text)) (flat_map number text) rest s in
    let whole : 4 * length text % 4 ≡ 0 = omega arith in
    let least : 4 ≤ 4 * length text = omega arith in
    let kept : is_text_size entry (4 * length text) ≡ true = grind (arith, nat_tests) in
    rw (number_again bytes at (4 * length text) (flat_map number text ++ rest) (omega arith) s', kept, field_again bytes (at + 4) (4 * length text) (flat_map number text) rest (length-words text) (after_number bytes at (4 * length text) (flat_map number text ++ rest) s'))
    (ap (λ (t : List ℕ). Ok t) (words_again text are))

after_worded : (bytes : List ℕ) (at : ℕ) (ws rest : List ℕ) → Stands bytes at (worded ws ++ rest) → Stands bytes (at + 4 + 4 * length ws) rest
after_worded bytes at ws rest s =
    Stands-after bytes at (at + 4 + 4 * length ws) (worded ws) rest (omega (arith, length-append (number (4 * length ws)) (flat_map number ws), length-number (4 * length ws), length-words ws)) s

-- ---- the image

regrouped : (a b c d e f g rest : List ℕ) → (a ++ b ++ c ++ d ++ e ++ f ++ g) ++ rest ≡ a ++ (b ++ (c ++ (d ++ (e ++ (f ++ (g ++ rest))))))
regrouped a b c d e f g rest = simp append_assoc

-- where bytes follow, all that is left is to ask whether any do
image_reads : (image : Image) (rest : List ℕ) → IsImage image → AreWords image.text
    → image_of (spelling image ++ rest) ≡ (rule (length (spelling image ++ rest) == length (spelling image)) (Extra (length (spelling image))) >>= λ ended. Ok image)
unfolding image_of spelling
image_reads image rest rules are =
    let bytes = spelling image ++ rest in
    let t7 = worded image.text ++ rest in
    let t6 = counted image.initial ++ t7 in
    let t5 = framed image.frames ++ t6 in
    let t4 = counted image.globals ++ t5 in
    let parts : bytes ≡ magic ++ (number 1 ++ (number image.entry ++ t4)) =
    regrouped magic (number image.version) (number image.entry) (counted image.globals) (framed image.frames) (counted image.initial) (worded image.text) rest
    ∙ ap (λ v. magic ++ (number v ++ (number image.entry ++ t4))) rules.version in
    let s0 : Stands bytes 0 (magic ++ (number 1 ++ (number image.entry ++ t4))) = record { within = omega arith; is = parts } in
    let s4 : Stands bytes 4 (number 1 ++ (number image.entry ++ t4)) = Stands-after bytes 0 4 magic (number 1 ++ (number image.entry ++ t4)) refl s0 in
    let s8 : Stands bytes 8 (number image.entry ++ t4) = after_number bytes 4 1 (number image.entry ++ t4) s4 in
    let s12 : Stands bytes 12 t4 = after_number bytes 8 image.entry t4 s8 in
    let entry = entry_again bytes image.entry t4 rules.entry_aligned rules.entry_low rules.entry_high s0 in
    let globals = globals_again bytes 12 image.globals t5 rules.globals_few rules.globals_decline rules.globals_fit s12 in
    let s16 : Stands bytes (16 + length image.globals) t5 = after_counted bytes 12 image.globals t5 s12 in
    let frames = framed_again bytes (16 + length image.globals) image.frames t6 rules.frames_few rules.frames_fit rules.blocks_few s16 in
    let at : ℕ = frames.0 in
    let initial = initial_again bytes at (total_size image.globals) image.initial t7 rules.initial_fits rules.globals_fit rules.initial_ends frames.2 in
    let after_initial : Stands bytes (at + 4 + length image.initial) t7 = after_counted bytes at image.initial t7 frames.2 in
    let text = text_again bytes (at + 4 + length image.initial) image.entry image.text rest rules.text_some rules.text_fits rules.entry_within are after_initial in
    let after_text : Stands bytes (at + 4 + length image.initial + 4 + 4 * length image.text) rest = after_worded bytes (at + 4 + length image.initial) image.text rest after_initial in
    let end : at + 8 + length image.initial + 4 * length image.text ≡ length (spelling image) =
    omega (arith, Stands-length bytes (at + 4 + length image.initial + 4 + 4 * length image.text) rest after_text, length-append (spelling image) rest) in
    let same : (let made : Image = record { version = 1; entry = image.entry; globals = image.globals; frames = image.frames; initial = image.initial; text = image.text } in made) ≡ image =
    ap (λ v. let made : Image = record { version = v; entry = image.entry; globals = image.globals; frames = image.frames; initial = image.initial; text = image.text } in made) (sym rules.version) in
    rw (entry, globals, frames.1, initial, text, end)
    (ap (λ (made : Image). rule (length bytes == length (spelling image)) (Extra (length (spelling image))) >>= λ ended. Ok made) same)

pub image_again : (image : Image) → IsImage image → AreWords image.text → image_of (spelling image) ≡ Ok image
image_again image rules are =
    let same : (length (spelling image ++ []) == length (spelling image)) ≡ true = eq-eqb _ _ (ap length (append-nil (spelling image))) in
    ap image_of (sym (append-nil (spelling image))) ∙ image_reads image [] rules are
    ∙ ap (λ t. rule t (Extra (length (spelling image))) >>= λ ended. Ok image) same

pub image_goes_on : (image : Image) (b : ℕ) (rest : List ℕ) → IsImage image → AreWords image.text → image_of (spelling image ++ b ∷ rest) ≡ Err (Extra (length (spelling image)))
image_goes_on image b rest rules are =
    let more : (length (spelling image ++ b ∷ rest) == length (spelling image)) ≡ false = ne_eqb _ _ (λ e. omega (arith, length-append (spelling image) (b ∷ rest))) in
    image_reads image (b ∷ rest) rules are
    ∙ ap (λ t. rule t (Extra (length (spelling image))) >>= λ ended. Ok image) more
