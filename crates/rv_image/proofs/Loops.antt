-- Fields that are read one after the other, as a loop does.
use Rattle.std.proofs.Common.{◌≡◌, ℕ, zero, suc, ◌+◌, ◌-◌, ◌^◌, ◌<◌, ◌≤◌, List, [], ◌∷◌, ◌++◌, length, get_or, eqb, not, Result, Ok, Err, refl, sym, ap, ◌∙◌, append_assoc, arith}
use Rattle.std.proofs.lemmas.List.{append-nil}
use Rattle.rv_image.specs.declared.error.ImageError.{ImageError}
use Rattle.rv_image.specs.declared.error.ImageError.TheVariants as errors
use Rattle.rv_image.specs.Rules.{total_size, count_of}
use Rattle.rv_image.specs.Reading.{◌>>=◌, Fails, exponent_at, exponents_at, frame_at, frames_from, ends_nonzero}

-- what was read before, and what is still read
abbrev pub with_front : List ℕ → Result (List ℕ) ImageError → Result (List ℕ) ImageError
with_front front read = read >>= λ es. Ok (front ++ es)

front_more : (front : List ℕ) (e : ℕ) (read : Result (List ℕ) ImageError) → with_front front (read >>= λ es. Ok (e ∷ es)) ≡ with_front (front ++ e ∷ []) read
front_more front e (Ok es) = ap (λ (es : List ℕ). Ok es) (sym (append_assoc front (e ∷ []) es))
front_more front e (Err f) = refl

pub exponents_go_on : (bytes front : List ℕ) (count i at most room room' e : ℕ) (total : Result (List ℕ) ImageError) → i < count → room' ≡ room - 2 ^ e → exponent_at bytes (at + i) most room ≡ Ok e
    → with_front front (exponents_at bytes (count - i) (at + i) most room) ≡ total → with_front (front ++ e ∷ []) (exponents_at bytes (count - (i + 1)) (at + (i + 1)) e room') ≡ total
unfolding exponents_at
exponents_go_on bytes front count i at most room room' e total lt less read so_far =
    let k : count - i ≡ suc (count - (i + 1)) = omega arith in
    let next : at + (i + 1) ≡ at + i + 1 = omega arith in
    let one : with_front front (exponents_at bytes (count - i) (at + i) most room) ≡ with_front (front ++ e ∷ []) (exponents_at bytes (count - (i + 1)) (at + (i + 1)) e room') =
    rw (k, read, next, less) (front_more front e (exponents_at bytes (count - (i + 1)) (at + i + 1) e (room - 2 ^ e))) in
    sym one ∙ so_far

pub exponents_end : (f : ImageError) (bytes front : List ℕ) (count i at most room : ℕ) (total : Result (List ℕ) ImageError) → i < count → Fails f (exponent_at bytes (at + i) most room)
    → with_front front (exponents_at bytes (count - i) (at + i) most room) ≡ total → Fails f total
unfolding exponents_at
exponents_end errors.Memory bytes front count i at most room total lt read so_far = tt
exponents_end f bytes front count i at most room total lt read so_far =
    let k : count - i ≡ suc (count - (i + 1)) = omega arith in
    let one : with_front front (exponents_at bytes (count - i) (at + i) most room) ≡ Err f = rw (k, read) refl in
    sym so_far ∙ one

pub exponents_are_read : (bytes front : List ℕ) (count i at most room : ℕ) (total : Result (List ℕ) ImageError) → count ≤ i
    → with_front front (exponents_at bytes (count - i) (at + i) most room) ≡ total → total ≡ Ok front
unfolding exponents_at
exponents_are_read bytes front count i at most room total le so_far =
    let k : count - i ≡ 0 = omega arith in
    let one : with_front front (exponents_at bytes (count - i) (at + i) most room) ≡ Ok front = rw k (ap (λ (es : List ℕ). Ok es) (append-nil front)) in
    sym so_far ∙ one

pub total_size-push : (es : List ℕ) (e : ℕ) → total_size (es ++ e ∷ []) ≡ total_size es + 2 ^ e
total_size-push [] e = omega arith
total_size-push (x ∷ es) e = omega (arith, total_size-push es e)

abbrev pub with_frames : List (List ℕ) → Result (List (List ℕ) × ℕ) ImageError → Result (List (List ℕ) × ℕ) ImageError
with_frames front read = read >>= λ x. Ok (front ++ x.0, x.1)

frames_more : (front : List (List ℕ)) (es : List ℕ) (read : Result (List (List ℕ) × ℕ) ImageError) → with_frames front (read >>= λ x. Ok (es ∷ x.0, x.1)) ≡ with_frames (front ++ es ∷ []) read
frames_more front es (Ok x) = ap (λ (fs : List (List ℕ)). Ok (fs, x.1)) (sym (append_assoc front (es ∷ []) x.0))
frames_more front es (Err f) = refl

pub frames_go_on : (bytes : List ℕ) (front : List (List ℕ)) (count i at at' left left' : ℕ) (es : List ℕ) (total : Result (List (List ℕ) × ℕ) ImageError) → i < count → at' ≡ at + 4 + length es → left' ≡ left - length es → frame_at bytes at left ≡ Ok es
    → with_frames front (frames_from bytes (count - i) at left) ≡ total → with_frames (front ++ es ∷ []) (frames_from bytes (count - (i + 1)) at' left') ≡ total
unfolding frames_from
frames_go_on bytes front count i at at' left left' es total lt place fewer read so_far =
    let k : count - i ≡ suc (count - (i + 1)) = omega arith in
    let one : with_frames front (frames_from bytes (count - i) at left) ≡ with_frames (front ++ es ∷ []) (frames_from bytes (count - (i + 1)) at' left') =
    rw (k, read, place, fewer) (frames_more front es (frames_from bytes (count - (i + 1)) (at + 4 + length es) (left - length es))) in
    sym one ∙ so_far

pub frames_end : (f : ImageError) (bytes : List ℕ) (front : List (List ℕ)) (count i at left : ℕ) (total : Result (List (List ℕ) × ℕ) ImageError) → i < count → Fails f (frame_at bytes at left)
    → with_frames front (frames_from bytes (count - i) at left) ≡ total → Fails f total
unfolding frames_from
frames_end errors.Memory bytes front count i at left total lt read so_far = tt
frames_end f bytes front count i at left total lt read so_far =
    let k : count - i ≡ suc (count - (i + 1)) = omega arith in
    let one : with_frames front (frames_from bytes (count - i) at left) ≡ Err f = rw (k, read) refl in
    sym so_far ∙ one

pub frames_are_read : (bytes : List ℕ) (front : List (List ℕ)) (count i at left : ℕ) (total : Result (List (List ℕ) × ℕ) ImageError) → count ≤ i
    → with_frames front (frames_from bytes (count - i) at left) ≡ total → total ≡ Ok (front, at)
unfolding frames_from
frames_are_read bytes front count i at left total le so_far =
    let k : count - i ≡ 0 = omega arith in
    let one : with_frames front (frames_from bytes (count - i) at left) ≡ Ok (front, at) = rw k (ap (λ (fs : List (List ℕ)). Ok (fs, at)) (append-nil front)) in
    sym so_far ∙ one

last_is_zero : (bytes : List ℕ) (n : ℕ) → length bytes ≡ suc n → not (eqb (get_or bytes n 0) 0) ≡ ends_nonzero bytes
last_is_zero [] n len = absurd (omega arith)
last_is_zero (b ∷ []) zero len = refl
last_is_zero (b ∷ []) (suc n) len = absurd (omega arith)
last_is_zero (b ∷ c ∷ bs) zero len = absurd (omega arith)
last_is_zero (b ∷ c ∷ bs) (suc n) len = last_is_zero (c ∷ bs) n (omega arith)

pub ends_nonzero_last : (bytes : List ℕ) → 1 ≤ length bytes → not (eqb (get_or bytes (length bytes - 1) 0) 0) ≡ ends_nonzero bytes
ends_nonzero_last bytes some = last_is_zero bytes (length bytes - 1) (omega arith)

-- each frame has at most as many blocks as all have
pub blocks_of_one : (frames : List (List ℕ)) (i : ℕ) (d : List ℕ) → i < length frames → length (get_or frames i d) ≤ count_of frames
blocks_of_one [] i d lt = absurd (omega arith)
blocks_of_one (es ∷ frames) zero d lt = omega arith
blocks_of_one (es ∷ frames) (suc i) d lt = omega (arith, blocks_of_one frames i d (omega arith))
