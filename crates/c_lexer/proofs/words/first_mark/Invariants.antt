use Rattle.std.proofs.Common.{◌≡◌, length, map}
use Rattle.c_lexer.specs.Pieces.{begins}
use Rattle.c_lexer.specs.Reading.{first_row}
use Rattle.c_lexer.proofs.words.first_mark.Given as goal

abbrev pub invariant-loop-table : goal.invariant-loop-table
invariant-loop-table l = first_row (λ s. begins s l.text) (map (λ row. (row.0.now, row.1)) l.table) ≡ first_row (λ s. begins s l.text) (map (λ row. (row.0.now, row.1)) l.initial.table)

abbrev pub decreases-loop-table : goal.decreases-loop-table
decreases-loop-table l = length l.table
