-- The refusals of a text.
use Rattle.std.specs.Prelude.{ℕ}
use Rattle.c_lexer.specs.declared.fault.Fault.{Fault}
use Rattle.c_lexer.specs.declared.fault.Fault.TheVariants as faults
use Rattle.c_lexer.specs.declared.fault.LexError.{LexError}
use Rattle.c_lexer.specs.declared.fault.LexError.TheVariants as errors

-- the refusal of a text for a fault on a line
abbrev pub refusal : Fault → ℕ → LexError
refusal faults.BadByte line = errors.BadByte line
refusal faults.BadNumber line = errors.BadNumber line
refusal faults.BadEscape line = errors.BadEscape line
refusal faults.Unclosed line = errors.Unclosed line
refusal faults.BadDirective line = errors.BadDirective line
