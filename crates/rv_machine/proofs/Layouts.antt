-- The frames of an image, as the machine needs them.
use Rattle.std.proofs.Common.{◌≡◌, ℕ, zero, suc, ◌≤◌, List, [], ◌∷◌, subst, arith}
use Rattle.std.specs.Prelude.{slice_get, Some}
use Rattle.rv_image.specs.Rules.{Decline, AreFrames, total_size}
use Rattle.size_table.specs.Made.{AreExponents}

exponents_then : (e : ℕ) (es : List ℕ) → 4 ≤ e → e ≤ 24 → AreExponents es → AreExponents (e ∷ es)
exponents_then e es low high rest zero within = (low, high)
exponents_then e es low high rest (suc i) within = rest i (omega arith)

pub are_exponents : (most : ℕ) (es : List ℕ) → most ≤ 24 → Decline most es → AreExponents es
are_exponents most [] l h = λ i within. absurd (omega arith)
are_exponents most (e ∷ es) l h = exponents_then e es h.0 (omega (arith, h.1)) (are_exponents e es (omega (arith, h.1)) h.2)

-- one of the frames
pub frame_at : (layouts : List (List ℕ)) → AreFrames layouts → (k : ℕ) (es : List ℕ) → slice_get layouts k ≡ Some es → Decline 20 es × (total_size es ≤ 4194304)
frame_at [] h k es e = cc
frame_at (layout ∷ layouts) h zero es e = let same : layout ≡ es = cc in subst (λ (xs : List ℕ). Decline 20 xs × (total_size xs ≤ 4194304)) same (h.0, h.1)
frame_at (layout ∷ layouts) h (suc k) es e = frame_at layouts h.2 k es e
