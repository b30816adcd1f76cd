-- Runs of bytes, and what is in front of a text.
use Rattle.std.proofs.Common.{◌≡◌, ℕ, suc, ◌≤◌, Bool, true, false, cond, List, [], ◌∷◌, ◌++◌, length, take, drop, refl, ap, arith}
use Rattle.c_lexer.specs.Bytes.{IsRun}
use Rattle.c_lexer.specs.Reading.{run_behind}

-- the bytes that continue are a run
pub run_found : (c : ℕ → ℕ → Bool) (before : ℕ) (bytes : List ℕ) → IsRun c before (take (run_behind c before bytes) bytes) (drop (run_behind c before bytes) bytes)
run_found c before [] = tt
run_found c before (b ∷ bs) = by_test (run_found c b bs) (c before b) refl
  where
    by_test : IsRun c b (take (run_behind c b bs) bs) (drop (run_behind c b bs) bs) → (t : Bool) → c before b ≡ t
        → IsRun c before (take (cond t (suc (run_behind c b bs)) 0) (b ∷ bs)) (drop (cond t (suc (run_behind c b bs)) 0) (b ∷ bs))
    by_test go true e = (e, go)
    by_test go false e = e

-- a run is all that continues
pub run_again : (c : ℕ → ℕ → Bool) (before : ℕ) (s rest : List ℕ) → IsRun c before s rest → run_behind c before (s ++ rest) ≡ length s
run_again c before [] [] h = refl
run_again c before [] (b ∷ rest) h = rw h refl
run_again c before (b ∷ s) rest h = rw h.0 (ap suc (run_again c b s rest h.1))

pub run_within : (c : ℕ → ℕ → Bool) (before : ℕ) (bytes : List ℕ) → run_behind c before bytes ≤ length bytes
run_within c before [] = omega arith
run_within c before (b ∷ bs) = by_test (run_within c b bs) (c before b)
  where
    by_test : run_behind c b bs ≤ length bs → (t : Bool) → cond t (suc (run_behind c b bs)) 0 ≤ length (b ∷ bs)
    by_test go true = omega arith
    by_test go false = omega arith
