-- A refusal goes on to the whole.
use Rattle.std.proofs.Common.{◌≡◌}
use Rattle.std.specs.Prelude.{Err}
use Rattle.typing_operators.specs.declared.error.TypeError.{TypeError}
use Rattle.typing_operators.specs.declared.error.TypeError.TheVariants as errors
use Rattle.typing_operators.specs.Rule.{Rule, Fails}

pub goes_up : {A B : Type 0} (e : TypeError) (part : Rule A) (whole : Rule B) → ((f : TypeError) → part ≡ Err f → whole ≡ Err f) → Fails e part → Fails e whole
goes_up errors.Memory part whole up h = tt
goes_up (errors.Unknown l x) part whole up h = up (errors.Unknown l x) h
goes_up (errors.Twice l x) part whole up h = up (errors.Twice l x) h
goes_up (errors.TooManyParams l) part whole up h = up (errors.TooManyParams l) h
goes_up (errors.TooManyFunctions l) part whole up h = up (errors.TooManyFunctions l) h
goes_up (errors.BadType l n) part whole up h = up (errors.BadType l n) h
goes_up (errors.TooLarge l n) part whole up h = up (errors.TooLarge l n) h
goes_up errors.NoMain part whole up h = up errors.NoMain h
