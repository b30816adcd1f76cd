-- Words that are put into values, time that passes, and branches that are taken.
use Rattle.std.proofs.Common.{◌≡◌, ◌≢◌, ℕ, suc, ◌+◌, ap, ◌∙◌, ⊎_elim, cond, arith}
use Rattle.std.specs.Prelude.{◌==◌}
use Rattle.std.proofs.Math.Dec.{eqb-suc-zero}
use Rattle.bb_words.specs.Steps.{arith as arith_of}
use Rattle.bb_words.specs.declared.steps.ArithOp.{ArithOp}
use Rattle.std.proofs.lemmas.Bool.Decides.{eqb_tells}
use Rattle.flat_code.specs.World.{Words, with_word, FWorld, FPoint, spend, choose}

pub set_same : (v : Words) (i j x : ℕ) → j ≡ i → with_word v i x j ≡ x
set_same v i j x e = ⊎_elim (λ h. ap (λ t. cond t x (v j)) h.0) (λ h. absurd (h.1 e)) (eqb_tells j i)

pub set_other : (v : Words) (i j x : ℕ) → j ≢ i → with_word v i x j ≡ v j
set_other v i j x ne = ⊎_elim (λ h. absurd (ne h.1)) (λ h. ap (λ t. cond t x (v j)) h.0) (eqb_tells j i)

pub spend_spend : (a b : ℕ) (w : FWorld) → spend b (spend a w) ≡ spend (a + b) w
spend_spend a b w = ap (λ x. record w { time = x }) (let q : w.time + a + b ≡ w.time + (a + b) = omega arith in q)

pub arith_is : (f : ArithOp) (v : Words) (a b x y z : ℕ) → v a ≡ x → v b ≡ y → arith_of f x y ≡ z → arith_of f (v a) (v b) ≡ z
arith_is f v a b x y z ha hb hz = ap (λ n. arith_of f n (v b)) ha ∙ ap (λ n. arith_of f x n) hb ∙ hz

-- which branch is taken, by the value that is tested
pub takes_first : {A : Type 0} (x n : ℕ) (u : FPoint) (a b : FPoint → A) → x ≡ suc n → choose (x == 0) b a u ≡ a u
takes_first x n u a b h = ap (λ y. choose (y == 0) b a u) h ∙ ap (λ t. choose t b a u) (eqb-suc-zero n)

pub takes_second : {A : Type 0} (x : ℕ) (u : FPoint) (a b : FPoint → A) → x ≡ 0 → choose (x == 0) b a u ≡ b u
takes_second x u a b h = ap (λ y. choose (y == 0) b a u) h
