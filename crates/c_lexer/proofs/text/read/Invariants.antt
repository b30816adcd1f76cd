use Rattle.std.proofs.Common.{length}
use Rattle.c_lexer.specs.Views.{lexemes}
use Rattle.c_lexer.proofs.TextLemmas.{IsBegun}
use Rattle.c_lexer.proofs.text.read.Given as goal

abbrev pub invariant-loop-rest : goal.invariant-loop-rest
invariant-loop-rest l = IsBegun l.text l.rest (lexemes l.tokens) l.line

abbrev pub decreases-loop-rest : goal.decreases-loop-rest
decreases-loop-rest l = length l.rest
