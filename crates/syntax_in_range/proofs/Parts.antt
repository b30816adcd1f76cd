-- What holds of each of a list, for its parts.
use Rattle.std.proofs.Common.{List, [], ◌∷◌, ◌++◌}
use Rattle.std.specs.List.{AllByRecursion}

module _ {A : Type 0} (P : A → Type 0) where
  pub first_part : (xs ys : List A) → AllByRecursion P (xs ++ ys) → AllByRecursion P xs
  first_part [] ys h = tt
  first_part (x ∷ xs) ys h = (h.0, first_part xs ys h.1)

  pub last_part : (xs ys : List A) → AllByRecursion P (xs ++ ys) → AllByRecursion P ys
  last_part [] ys h = h
  last_part (x ∷ xs) ys h = last_part xs ys h.1
