use Rattle.std.proofs.Common.{◌≡◌, ◌≤◌, ◌+◌, ◌++◌, length, drop}
use Rattle.c_lexer.specs.Reading.{elements}
use Rattle.c_lexer.proofs.quote.quoted_at.Given as goal

abbrev pub invariant-loop-values : goal.invariant-loop-values
invariant-loop-values l = (elements l.quote (drop 1 l.text) ≡ (l.values ++ (elements l.quote l.rest).0, (elements l.quote l.rest).1)) × (length l.rest + 1 ≤ length l.text)

abbrev pub decreases-loop-values : goal.decreases-loop-values
decreases-loop-values l = length l.rest
