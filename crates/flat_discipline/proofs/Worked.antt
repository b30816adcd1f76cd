-- Where the examples break the discipline.
use Rattle.std.proofs.Common.{ℕ, [], ◌∷◌, inl, inr, Some, None, refl, arith, ◌<◌}
use Rattle.flat_code.specs.Code.{FCode}
use Rattle.flat_discipline.specs.Facts.{Fact}
use Rattle.flat_discipline.specs.Chains.{Lost}
use Rattle.flat_discipline.specs.Discipline.{LostAt}
use Rattle.flat_discipline.specs.Examples.{globals, ExamplesBreak, number_loaded, number_moved, loaded_unchecked, far_mask, no_span, tainted_argument, tainted_result, temporary_read}

abbrev Tainted : FCode → (function place value : ℕ) → Type 0
Tainted program f p v = LostAt 4 globals program.functions f p (Fact.Clean v)

loaded_tainted : Tainted number_loaded 0 1 0
loaded_tainted = Lost.begins 0 _ _ 0 1 (Fact.Clean 0) refl (inl (refl, refl, refl, refl)) refl

moved_tainted : Tainted number_moved 0 3 0
moved_tainted = Lost.goes_on 0 _ _ 2 3 (Fact.Clean 0) (Fact.Clean 0) refl (inr (inr (inl (refl, refl, refl, refl)))) refl
    (Lost.goes_on 0 _ _ 1 2 (Fact.Clean 0) (Fact.Clean 0) refl (inr (inl (refl, refl, refl, refl))) refl
    (Lost.begins 0 _ _ 0 1 (Fact.Clean 0) refl (inl (refl, refl, refl, refl)) refl))

unchecked_tainted : Tainted loaded_unchecked 0 2 1
unchecked_tainted = Lost.begins 0 _ _ 1 2 (Fact.Clean 1) refl (inr (inl (refl, refl, refl, refl))) refl

mask_tainted : Tainted far_mask 0 4 2
mask_tainted = Lost.begins 0 _ _ 3 4 (Fact.Clean 2) refl (inr (inr (inr (inl (refl, refl, refl, refl))))) refl

element_tainted : Tainted no_span 0 6 4
element_tainted = Lost.goes_on 0 _ _ 5 6 (Fact.Clean 4) (Fact.Spanned 0 2) refl (inr (inr (inr (inr (inl (inr (inl (inl (refl, refl, refl, refl))))))))) refl
    (Lost.goes_on 0 _ _ 4 5 (Fact.Spanned 0 2) (Fact.Spanned 0 2) refl (inr (inr (inr (inr (inl (inl (inl (refl, refl, refl, refl)))))))) refl
    (Lost.goes_on 0 _ _ 3 4 (Fact.Spanned 0 2) (Fact.Spanned 0 2) refl (inr (inr (inr (inl (refl, refl, refl, refl))))) refl
    (Lost.begins 0 _ _ 2 3 (Fact.Spanned 0 2) refl (inr (inr (inl (refl, refl, refl, refl)))) refl)))

argument_tainted : Tainted tainted_argument 1 0 0
argument_tainted = Lost.passed 0 1 1 0 0 1 (0 ∷ []) _ 1 (Some 2) (inr (inl (refl, refl, refl, refl))) refl refl (let z : 0 < 1 = omega arith in z) refl
    (Lost.begins 0 _ _ 0 1 (Fact.Clean 0) refl (inl (refl, refl, refl, refl)) refl)

result_tainted : Tainted tainted_result 0 1 0
result_tainted = Lost.given 0 1 _ _ 0 1 (Fact.Clean 0) refl (inl (refl, refl, refl, refl)) refl
    (Lost.returned 1 0 _ 1 None (inr (inl (refl, refl, refl, refl)))
    (Lost.begins 1 _ _ 0 1 (Fact.Clean 0) refl (inl (refl, refl, refl, refl)) refl))

temporary_lost : LostAt 4 globals temporary_read.functions 0 35 (Fact.Own 4)
temporary_lost = Lost.begins 0 _ _ 3 35 (Fact.Own 4) refl (inr (inr (inr (inl (refl, refl, refl, refl))))) refl

pub examples_break : ExamplesBreak
examples_break = (
  inl (refl, refl),
  inl (refl, refl),
  inl (refl, refl),
  inl (refl, refl),
  (refl, refl),
  inr (inr (inl (inr (inl (inr (inl (refl, inl refl))))))),
  inr (inl (inl (refl, inl refl))),
  inr (inr (inl (refl, inl refl))),
  inr (inl (refl, inl refl)),
  inr (inr (inl (refl, inl refl))),
  inr (inl (refl, inl refl)),
  inr (inr (inl (refl, inl refl))),
  inr (inr (inl (refl, inl refl))),
  inr (inr (inr (inr (inr (inl (refl, inr (inr (inl temporary_lost)))))))),
  inr (inr (inl (refl, inr (inl loaded_tainted)))),
  inr (inr (inr (inr (inl (inl (refl, moved_tainted)))))),
  inr (inr (inr (inl (refl, inr (inl unchecked_tainted))))),
  inr (inr (inr (inr (inr (inl (refl, inr (inl mask_tainted))))))),
  inr (inr (inr (inr (inr (inl (inr (inl (inr (inl (refl, inr (inl element_tainted))))))))))),
  inr (inl (refl, inr (inl argument_tainted))),
  inr (inr (inl (refl, inr (inl result_tainted)))),
)
