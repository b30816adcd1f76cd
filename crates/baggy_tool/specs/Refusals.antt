-- Which sources are refused, and how.
use Rattle.std.specs.Prelude.{List, ℕ}
use Rattle.bb_driver.specs.Sources as driver
use Rattle.baggy_tool.specs.declared.ending.Refusal.{Refusal}
use Rattle.baggy_tool.specs.declared.ending.Refusal.TheVariants as refusal

-- the source is refused so: by the compiler, or since its program has a form that is not built
abbrev pub Refuses : List ℕ → Refusal → Type 0
Refuses text (refusal.Source error) = driver.Refuses text error
Refuses text (refusal.Image error) = ⊥
Refuses text refusal.NotBuilt = driver.IsNotBuilt text
