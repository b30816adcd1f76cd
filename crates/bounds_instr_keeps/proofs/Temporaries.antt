-- The words of the first two temporaries, while they are set.
use Rattle.std.proofs.Common.{◌≡◌, ℕ, ◌+◌, ◌<◌, refl, ◌∙◌, arith}
use Rattle.flat_code.specs.World.{Words, with_word}
use Rattle.bounds_instr_keeps.proofs.Meets.{word_here, word_there}

-- value n and the next one have these words, and the values below are as they were
pub record Two (n : ℕ) (base : Words) (x y : ℕ) (words : Words) : Type 0 where
  pub first : words n ≡ x
  pub second : words (n + 1) ≡ y
  pub kept : (i : ℕ) → i < n → words i ≡ base i

pub neither : (n : ℕ) (base : Words) → Two n base (base n) (base (n + 1)) base
neither n base = record { first = refl; second = refl; kept = λ i lt. refl }

pub first_set : (n : ℕ) (base : Words) (x y w z : ℕ) (words : Words) → w ≡ z → Two n base x y words → Two n base z y (with_word words n w)
first_set n base x y w z words e t = record {
  first = word_here words n w ∙ e;
  second = word_there words n (n + 1) w (λ q. omega (arith, q)) ∙ t.second;
  kept = λ i lt. word_there words n i w (λ q. omega (arith, lt, q)) ∙ t.kept i lt;
}

pub second_set : (n : ℕ) (base : Words) (x y w z : ℕ) (words : Words) → w ≡ z → Two n base x y words → Two n base x z (with_word words (n + 1) w)
second_set n base x y w z words e t = record {
  first = word_there words (n + 1) n w (λ q. omega (arith, q)) ∙ t.first;
  second = word_here words (n + 1) w ∙ e;
  kept = λ i lt. word_there words (n + 1) i w (λ q. omega (arith, lt, q)) ∙ t.kept i lt;
}
