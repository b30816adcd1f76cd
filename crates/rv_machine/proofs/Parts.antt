-- A part of a list that is filled.
use Rattle.std.proofs.Common.{◌≡◌, ℕ, ◌+◌, ◌-◌, ◌≤◌, List, ◌++◌, take, drop, refl, sym, ap, subst, ◌∙◌, arith, append_assoc}
use Rattle.std.specs.Prelude.{replicate}
use Rattle.std.proofs.lemmas.List.{take-append-drop, take-take, drop-take, drop-drop}
use Rattle.size_table.specs.Table.{filled}

joined : (a b c d e : List ℕ) → a ++ ((b ++ (c ++ d)) ++ e) ≡ (a ++ b) ++ (c ++ (d ++ e))
joined a b c d e = simp append_assoc refl

-- a part of a list, and the part after it
two_parts : (bytes : List ℕ) (from n : ℕ) → take from bytes ++ take n (drop from bytes) ≡ take (from + n) bytes
two_parts bytes from n =
    sym (ap (λ xs. xs ++ take n (drop from bytes)) (take-take from (from + n) bytes (omega arith)))
    ∙ sym (ap (λ xs. take from (take (from + n) bytes) ++ xs) (drop-take from n bytes))
    ∙ take-append-drop from (take (from + n) bytes)

-- what is left of a part, and what comes after it
rest_of : (bytes : List ℕ) (from at rest : ℕ) → drop at (take (at + rest) (drop from bytes)) ++ drop (from + (at + rest)) bytes ≡ drop (from + at) bytes
rest_of bytes from at rest =
    let left : drop at (take (at + rest) (drop from bytes)) ≡ take rest (drop (from + at) bytes) = drop-take at rest (drop from bytes) ∙ ap (take rest) (drop-drop at from bytes) in
    let after : drop (from + (at + rest)) bytes ≡ drop rest (drop (from + at) bytes) = (let k : from + (at + rest) ≡ (from + at) + rest = omega arith in ap (λ n. drop n bytes) k ∙ sym (drop-drop rest (from + at) bytes)) in
    ap (λ xs. xs ++ drop (from + (at + rest)) bytes) left ∙ ap (λ xs. take rest (drop (from + at) bytes) ++ xs) after ∙ take-append-drop rest (drop (from + at) bytes)

filled_in : (bytes : List ℕ) (from at few rest byte : ℕ)
    → take from bytes ++ (filled (take (at + few + rest) (drop from bytes)) at few byte ++ drop (from + (at + few + rest)) bytes) ≡ filled bytes (from + at) few byte
unfolding filled
filled_in bytes from at few rest byte =
    let part = take (at + few + rest) (drop from bytes) in
    let k : from + (at + few) ≡ from + at + few = omega arith in
    joined (take from bytes) (take at part) (replicate few byte) (drop (at + few) part) (drop (from + (at + few + rest)) bytes)
    ∙ ap (λ xs. (take from bytes ++ xs) ++ (replicate few byte ++ (drop (at + few) part ++ drop (from + (at + few + rest)) bytes))) (take-take at (at + few + rest) (drop from bytes) (omega arith))
    ∙ ap (λ xs. xs ++ (replicate few byte ++ (drop (at + few) part ++ drop (from + (at + few + rest)) bytes))) (two_parts bytes from at)
    ∙ ap (λ xs. take (from + at) bytes ++ (replicate few byte ++ xs)) (rest_of bytes from (at + few) rest ∙ ap (λ n. drop n bytes) k)

-- filling within a part of a list is filling within the list
pub filled_part : (bytes : List ℕ) (from count at few byte : ℕ) → at + few ≤ count
    → take from bytes ++ (filled (take count (drop from bytes)) at few byte ++ drop count (drop from bytes)) ≡ filled bytes (from + at) few byte
filled_part bytes from count at few byte le =
    let k : at + few + (count - (at + few)) ≡ count = omega arith in
    ap (λ xs. take from bytes ++ (filled (take count (drop from bytes)) at few byte ++ xs)) (drop-drop count from bytes)
    ∙ subst (λ n. take from bytes ++ (filled (take n (drop from bytes)) at few byte ++ drop (from + n) bytes) ≡ filled bytes (from + at) few byte) k (filled_in bytes from at few (count - (at + few)) byte)
