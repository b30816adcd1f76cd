-- What a sequence of the program stands for.
use Rattle.std.specs.Prelude.{Option, Some, None, Bool, ◌&&◌, ℕ}
use Rattle.flat_code.specs.declared.recognize.FlatSequence.{FlatSequence}
use Rattle.flat_code.specs.declared.recognize.FlatSequence.TheVariants as variant
use Rattle.flat_code.specs.Code.{FSteps}
use Rattle.flat_code.specs.Recognized.{Sequence, sequence_steps, is_apart, starts}

abbrev pub sequence_of : FlatSequence → Sequence
sequence_of (variant.Move v) = Sequence.Move v.pointer v.distance v.result v.line v.slot v.exponent
sequence_of (variant.Load v) = Sequence.Load v.to v.at v.line v.slot v.exponent
sequence_of (variant.Span v) = Sequence.Span v.pointer v.count v.last v.line v.distance v.slot v.exponent

abbrev pub sequence_in : Option FlatSequence → Option Sequence
sequence_in None = None
sequence_in (Some q) = Some (sequence_of q)

-- whether the steps begin with the sequence, and its values are apart
abbrev pub begins : (g : ℕ) → Sequence → FSteps → Bool
begins g q a = starts (sequence_steps g q) a && is_apart q
